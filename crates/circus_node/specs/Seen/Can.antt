-- What is known of what was accepted.
use Rattle.std.specs.Prelude.{◌≡◌, ℕ, ◌≤◌, true, List, length, Option, IfSome}
use Rattle.circus_value.specs.ValueTree.{ValueTree}
use Rattle.circus_value.specs.Fits.{all_fit}
use Rattle.circus_value.specs.ExternalSize.{size_of_values}
use Rattle.circus_value.specs.declared.shape.Shape.{Shape}
use Rattle.circus_header.specs.CallFields.{IsIncarnation}
use Rattle.circus_header.specs.declared.answer.Reply.{Reply}
use Rattle.circus_limits.specs.Limits.{most_bytes}
use Rattle.circus_model.specs.Lawful.{IsState, arguments_fit, import_answers}
use Rattle.circus_model.specs.declared.signature.Signature.{Signature}
use Rattle.circus_member_rules.specs.Messages.{arguments_in}
use Rattle.circus_member_rules.specs.Happening.{IsCallTo}
use Rattle.circus_member_rules.specs.declared.occurrence.AskName.{AskName}
use Rattle.circus_member_rules.specs.declared.occurrence.Occurrence.{Occurrence}
use Rattle.circus_member_rules.specs.declared.occurrence.Occurrence.TheVariants as comes
use Rattle.circus_node.specs.declared.program.Callee.{Callee}

-- values of these shapes, in at most so many bytes
pub record AreOf (shapes : List Shape) (most : ℕ) (values : List ValueTree) : Type 0 where
  pub fit : all_fit shapes values ≡ true
  pub within : size_of_values values ≤ most

-- the arguments of a procedure stand in a body
pub record HasArguments (declared : Signature) (procedure : ℕ) (body : List ℕ) : Type 0 where
  pub fit : arguments_fit declared.procedures procedure (arguments_in declared.procedures procedure body) ≡ true
  pub within : size_of_values (arguments_in declared.procedures procedure body) ≤ most_bytes

-- a call that a member of a troupe may take, in a program of so many modules
abbrev pub MayTake : Signature → ℕ → ℕ → Occurrence → Type 0
MayTake declared own modules (comes.Asked header body sender) = IsCallTo declared own modules header body
MayTake declared own modules (comes.Fetched incarnation sender) = IsIncarnation incarnation
MayTake declared own modules (comes.Replied name from reply) = ⊥
MayTake declared own modules (comes.IsStale name server from incarnation) = ⊥
MayTake declared own modules (comes.IsBefore name from) = ⊥
MayTake declared own modules (comes.Told request table) = ⊥
MayTake declared own modules (comes.Restored state count) = ⊥
MayTake declared own modules (comes.Declared node) = ⊥
MayTake declared own modules comes.Joins = ⊥

-- where a table is told, its view has an incarnation
abbrev pub IsToldRightly : Occurrence → Type 0
IsToldRightly (comes.Asked header body sender) = ⊥
IsToldRightly (comes.Fetched incarnation sender) = ⊥
IsToldRightly (comes.Replied name from reply) = ⊥
IsToldRightly (comes.IsStale name server from incarnation) = ⊥
IsToldRightly (comes.IsBefore name from) = ⊥
IsToldRightly (comes.Told request table) = IsIncarnation table.view.incarnation
IsToldRightly (comes.Restored state count) = ⊥
IsToldRightly (comes.Declared node) = ⊥
IsToldRightly comes.Joins = ⊥

-- where a state comes, the module may have it
abbrev pub IsGivenRightly : Signature → Occurrence → Type 0
IsGivenRightly declared (comes.Asked header body sender) = ⊥
IsGivenRightly declared (comes.Fetched incarnation sender) = ⊥
IsGivenRightly declared (comes.Replied name from reply) = ⊥
IsGivenRightly declared (comes.IsStale name server from incarnation) = ⊥
IsGivenRightly declared (comes.IsBefore name from) = ⊥
IsGivenRightly declared (comes.Told request table) = ⊥
IsGivenRightly declared (comes.Restored state count) = IsState declared state
IsGivenRightly declared (comes.Declared node) = ⊥
IsGivenRightly declared comes.Joins = ⊥

-- a reply to an ask that calls this
pub record IsReplyOf (declared : Signature) (modules : ℕ) (callee : Option Callee) (reply : Reply) : Type 0 where
  pub counts : length reply.clock ≡ modules
  pub fits : IfSome callee (λ (c : Callee). import_answers declared.imports c.troupe c.procedure reply.outcome ≡ true)

-- what is said to an ask of a name that calls this
abbrev pub IsSaidRightly : Signature → ℕ → Option Callee → AskName → Occurrence → Type 0
IsSaidRightly declared modules callee name (comes.Asked header body sender) = ⊥
IsSaidRightly declared modules callee name (comes.Fetched incarnation sender) = ⊥
IsSaidRightly declared modules callee name (comes.Replied other from reply) = (other ≡ name) × IsReplyOf declared modules callee reply
IsSaidRightly declared modules callee name (comes.IsStale other server from incarnation) = Unit {0}
IsSaidRightly declared modules callee name (comes.IsBefore other from) = Unit {0}
IsSaidRightly declared modules callee name (comes.Told request table) = ⊥
IsSaidRightly declared modules callee name (comes.Restored state count) = ⊥
IsSaidRightly declared modules callee name (comes.Declared node) = ⊥
IsSaidRightly declared modules callee name comes.Joins = ⊥

-- what is returned, where asks call these
abbrev pub IsReturnedRightly : Signature → ℕ → (AskName → Option Callee) → Occurrence → Type 0
IsReturnedRightly declared modules called (comes.Asked header body sender) = ⊥
IsReturnedRightly declared modules called (comes.Fetched incarnation sender) = ⊥
IsReturnedRightly declared modules called (comes.Replied name from reply) = IsReplyOf declared modules (called name) reply
IsReturnedRightly declared modules called (comes.IsStale name server from incarnation) = Unit {0}
IsReturnedRightly declared modules called (comes.IsBefore name from) = Unit {0}
IsReturnedRightly declared modules called (comes.Told request table) = IsIncarnation table.view.incarnation
IsReturnedRightly declared modules called (comes.Restored state count) = IsState declared state
IsReturnedRightly declared modules called (comes.Declared node) = ⊥
IsReturnedRightly declared modules called comes.Joins = ⊥

-- what happens to a member of a troupe by what is heard: a call that it may take, or what is returned
abbrev pub IsHeardRightly : Signature → ℕ → ℕ → (AskName → Option Callee) → Occurrence → Type 0
IsHeardRightly declared own modules called (comes.Asked header body sender) = IsCallTo declared own modules header body
IsHeardRightly declared own modules called (comes.Fetched incarnation sender) = IsIncarnation incarnation
IsHeardRightly declared own modules called (comes.Replied name from reply) = IsReplyOf declared modules (called name) reply
IsHeardRightly declared own modules called (comes.IsStale name server from incarnation) = Unit {0}
IsHeardRightly declared own modules called (comes.IsBefore name from) = Unit {0}
IsHeardRightly declared own modules called (comes.Told request table) = IsIncarnation table.view.incarnation
IsHeardRightly declared own modules called (comes.Restored state count) = IsState declared state
IsHeardRightly declared own modules called (comes.Declared node) = ⊥
IsHeardRightly declared own modules called comes.Joins = ⊥
