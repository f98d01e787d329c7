-- What is true of a node of a world, and of what it hands over.
use Rattle.std.proofs.Common.{◌≡◌, ℕ, List, [], All, Option, None, Some}
use Rattle.std.specs.Prelude.{slice_get}
use Rattle.std.specs.Option.{option_map_or}
use Rattle.circus_value.specs.ValueTree.{ValueTree}
use Rattle.circus_value.specs.declared.caller.Caller.{Caller}
use Rattle.circus_value.specs.declared.outcome.Outcome.{Outcome}
use Rattle.circus_collate.specs.declared.deployment.Deployment.{Deployment}
use Rattle.circus_model.specs.NextTurn.{NextTurn}
use Rattle.circus_model.specs.Behaviour.{Behaviour}
use Rattle.circus_model.specs.Agree.{IsAt}
use Rattle.circus_model.specs.Execution.{history_of}
use Rattle.circus_model.specs.declared.signature.Signature.{Signature}
use Rattle.circus_performing.specs.Record.{behaviour}
use Rattle.circus_member_rules.specs.declared.occurrence.Purpose.{Purpose}
use Rattle.circus_member_rules.specs.declared.occurrence.Effect.{Effect}
use Rattle.circus_member_rules.specs.declared.occurrence.Effect.TheVariants as made
use Rattle.circus_member_rules.specs.MemberState.{MemberState}
use Rattle.circus_member_rules.specs.Seen.Sound.{IsRested}
use Rattle.circus_node.specs.Accepting.{IsMemberOf}
use Rattle.circus_node.specs.Making.{Made}
use Rattle.circus_node.specs.NodeState.{Acting, member, ringmaster}
use Rattle.circus_member_theory.specs.Truth.{IsTrueMember, IsTrueCallFor, IsOtherReturn, IsTrueReturn}
use Rattle.circus_world_theory.proofs.Growing.{call_grows, return_grows, member_grows}

-- the state before any run of the module of a troupe
abbrev pub first_at : List Behaviour → ℕ → List ValueTree
first_at program troupe = option_map_or (λ (b : Behaviour). b.first) (slice_get program troupe) []

-- ---- what is handed over

-- by a node of a troupe, or by the Ringmaster, which calls no one
module _ (program : List Behaviour) (Called : Caller → List ℕ → Type 0) where
  abbrev pub CallSo : Option ℕ → Purpose → List ℕ → Type 0
  CallSo (Some troupe) purpose message = IsTrueCallFor (history_of program) troupe (first_at program troupe) Called purpose message
  CallSo None purpose message = ⊥

  abbrev pub ReturnSo : Option ℕ → Caller → List ℕ → Type 0
  ReturnSo (Some troupe) caller message = IsTrueReturn (history_of program) troupe (first_at program troupe) Called caller message
  ReturnSo None caller message = IsOtherReturn (history_of program) 0 [] Called message

  abbrev pub EffectSo : Option ℕ → Effect → Type 0
  EffectSo troupe (made.Call to message purpose) = CallSo troupe purpose message
  EffectSo troupe (made.Answer caller message) = ReturnSo troupe caller message

module _ (program : List Behaviour) (Called Other : Caller → List ℕ → Type 0) where
  pub call_so_grows : (troupe : Option ℕ) (purpose : Purpose) (message : List ℕ) → CallSo program Called troupe purpose message → CallSo program Other troupe purpose message
  call_so_grows (Some troupe) purpose message so = call_grows (history_of program) troupe (first_at program troupe) Called Other purpose message so
  call_so_grows None purpose message so = absurd so

  pub return_so_grows : (troupe : Option ℕ) (caller : Caller) (message : List ℕ) → ((l : List ℕ) → Called caller l → Other caller l)
      → ReturnSo program Called troupe caller message → ReturnSo program Other troupe caller message
  return_so_grows (Some troupe) caller message grows so = return_grows (history_of program) troupe (first_at program troupe) Called Other caller grows message so
  return_so_grows None caller message grows so = so

-- ---- a node

module _ {M : Type 0} (declared : M → Signature) (turn : M → List ValueTree → ℕ → List ValueTree → List Outcome → NextTurn) (first : M → List ValueTree)
    (program : List Behaviour) (d : Deployment)
    (Called : Caller → List ℕ → Type 0) where
  -- a member of a troupe
  pub record IsTrueAt (troupe : ℕ) (m : MemberState M) : Type 0 where
    pub at : IsAt program troupe (behaviour declared turn first m.performing.hosted)
    pub rested : IsRested (behaviour declared turn first m.performing.hosted) m
    pub of : IsMemberOf d m
    pub is : IsTrueMember (history_of program) troupe (first m.performing.hosted) Called m

  -- it hosts a true member of its troupe, or is the Ringmaster's
  abbrev pub ActsTrue : Option ℕ → Acting M → Type 0
  ActsTrue (Some troupe) (member m) = IsTrueAt troupe m
  ActsTrue (Some troupe) (ringmaster kept) = ⊥
  ActsTrue None (member m) = ⊥
  ActsTrue None (ringmaster kept) = Unit {0}

  -- what it has become, and what it makes: no replies differ
  pub record MakesTrue (troupe : Option ℕ) (made : Made M) : Type 0 where
    pub acting : ActsTrue troupe made.acting
    pub effects : All (EffectSo program Called troupe) made.came.effects
    pub differences : made.came.differences ≡ []

module _ {M : Type 0} (declared : M → Signature) (turn : M → List ValueTree → ℕ → List ValueTree → List Outcome → NextTurn) (first : M → List ValueTree)
    (program : List Behaviour) (d : Deployment)
    (Called Other : Caller → List ℕ → Type 0) (grows : (caller : Caller) (message : List ℕ) → Called caller message → Other caller message) where
  pub acts_grow : (troupe : Option ℕ) (a : Acting M) → ActsTrue declared turn first program d Called troupe a → ActsTrue declared turn first program d Other troupe a
  acts_grow (Some troupe) (member m) acts =
      record { at = acts.at; rested = acts.rested; of = acts.of; is = member_grows (history_of program) troupe (first m.performing.hosted) Called Other m grows acts.is }
  acts_grow (Some troupe) (ringmaster kept) acts = absurd acts
  acts_grow None (member m) acts = absurd acts
  acts_grow None (ringmaster kept) acts = tt
