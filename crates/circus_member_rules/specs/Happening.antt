-- Where a member may stand, and what can happen to it.
use Rattle.std.specs.Prelude.{◌≡◌, ℕ, ◌+◌, ◌<◌, ◌≤◌, true, List, [], All, length, Some, IfSome}
use Rattle.circus_value.specs.ExternalSize.{size_of_values}
use Rattle.circus_header.specs.CallFields.{IsNode, IsIncarnation}
use Rattle.circus_limits.specs.Limits.{most_modules, most_asks, most_bytes}
use Rattle.circus_header.specs.declared.call.CallHeader.{CallHeader}
use Rattle.circus_header.specs.declared.answer.Reply.{Reply}
use Rattle.circus_collate.specs.declared.view.View.{View}
use Rattle.circus_model.specs.declared.signature.Signature.{Signature}
use Rattle.circus_model.specs.declared.signature.Import.{Import}
use Rattle.circus_model.specs.Lawful.{IsState, arguments_fit, import_of, import_answers}
use Rattle.circus_fanout.specs.Asking.{Asking}
use Rattle.circus_member_rules.specs.declared.place.Place.{Place}
use Rattle.circus_member_rules.specs.declared.occurrence.Occurrence.{Occurrence}
use Rattle.circus_member_rules.specs.declared.occurrence.Occurrence.TheVariants as comes
use Rattle.circus_member_rules.specs.Messages.{arguments_in}
use Rattle.circus_member_rules.specs.OpenAsks.{asking_of}
use Rattle.circus_member_rules.specs.MemberState.{MemberState}
use Rattle.circus_member_rules.specs.Callable.{AreHosts}

-- a member of a troupe of the program, whose module imports earlier ones
pub record IsHome (declared : Signature) (place : Place) (views : List View) : Type 0 where
  pub few : length views ≤ most_modules
  pub own : place.troupe < length views
  pub node : IsNode place.node
  pub hosts : AreHosts place
  pub incarnations : All (λ (v : View). IsIncarnation v.incarnation) views
  pub imports : (callee : ℕ) (i : Import) → import_of callee declared.imports ≡ Some i → callee < place.troupe
  -- the MAIN of a root takes nothing
  pub main : declared.root ≡ true → arguments_fit declared.procedures 0 [] ≡ true

-- where a thread of one of so many modules has come to, in a run of a module
pub record IsThread (modules root : ℕ) (path clock : List ℕ) («module» : ℕ) : Type 0 where
  pub begins : root < modules
  pub numbers : All (λ n. n < most_asks) path
  pub short : length path + «module» < modules
  pub counts : length clock ≡ modules

-- a call that the member may perform
pub record IsCallTo (declared : Signature) (troupe modules : ℕ) (header : CallHeader) (body : List ℕ) : Type 0 where
  pub thread : IsThread modules header.root header.path header.clock troupe
  pub fit : arguments_fit declared.procedures header.procedure (arguments_in declared.procedures header.procedure body) ≡ true
  pub within : size_of_values (arguments_in declared.procedures header.procedure body) ≤ most_bytes

-- a reply to an ask
pub record IsReplyTo (declared : Signature) (modules : ℕ) (reply : Reply) (a : Asking) : Type 0 where
  pub counts : length reply.clock ≡ modules
  pub fits : import_answers declared.imports a.header.server a.header.procedure reply.outcome ≡ true

module _ {M : Type 0} where
  -- what can happen: a call that may be performed, a state request of an incarnation, a reply that fits the ask if that
  -- is open, a table with an incarnation, a state that the module may have
  abbrev pub CanHappen : Signature → MemberState M → Occurrence → Type 0
  CanHappen declared m (comes.Asked header body sender) = IsCallTo declared m.place.troupe (length m.known.views) header body
  CanHappen declared m (comes.Fetched incarnation sender) = IsIncarnation incarnation
  CanHappen declared m (comes.Replied name from reply) = IfSome (asking_of m.asks name) (IsReplyTo declared (length m.known.views) reply)
  CanHappen declared m (comes.IsStale name server from incarnation) = Unit {0}
  CanHappen declared m (comes.IsBefore name from) = Unit {0}
  CanHappen declared m (comes.Told request table) = IsIncarnation table.view.incarnation
  CanHappen declared m (comes.Restored state count) = IsState declared state
  CanHappen declared m (comes.Declared node) = Unit {0}
  CanHappen declared m comes.Joins = Unit {0}
