-- What a node makes of what truly comes to it is true.
use Rattle.std.proofs.Common.{◌≡◌, ℕ, ◌<◌, inr, List, [], ◌∷◌, All, Option, None, Some, refl, sym, ap, subst, ◌∙◌}
use Rattle.std.specs.Prelude.{IfSome}
use Rattle.std.specs.Option.{option_map_or, option_to_list}
use Rattle.std.proofs.lemmas.List.Elements.{All-nil, All-cons, All-weaker}
use Rattle.std.proofs.lemmas.Option.{none-some}
use Rattle.circus_value.specs.ValueTree.{ValueTree}
use Rattle.circus_value.specs.declared.caller.Caller.{Caller}
use Rattle.circus_value.specs.declared.outcome.Outcome.{Outcome}
use Rattle.circus_header.specs.Field.{bytes_of}
use Rattle.circus_header.specs.declared.call.Request.{Request}
use Rattle.circus_collate.specs.declared.table.Table.{Table}
use Rattle.circus_collate.specs.declared.deployment.Deployment.{Deployment}
use Rattle.circus_ring.specs.RingTable.{Kept, table_by}
use Rattle.circus_ring.specs.TableFields.{table_fields}
use Rattle.circus_model.specs.NextTurn.{NextTurn}
use Rattle.circus_model.specs.Behaviour.{Behaviour, IsModule}
use Rattle.circus_model.specs.Agree.{IsAt, AreModules, Agree}
use Rattle.circus_model.specs.Execution.{history_of}
use Rattle.circus_model.specs.declared.signature.Signature.{Signature}
use Rattle.circus_performing.specs.Record.{behaviour}
use Rattle.circus_wire.specs.declared.delivery.Heard.{Heard}
use Rattle.circus_wire.specs.declared.delivery.Heard.TheVariants as heard
use Rattle.circus_member_rules.specs.declared.occurrence.Purpose.{Purpose}
use Rattle.circus_member_rules.specs.declared.occurrence.Difference.{Difference}
use Rattle.circus_member_rules.specs.declared.occurrence.Effect.{Effect}
use Rattle.circus_member_rules.specs.declared.occurrence.Effect.TheVariants as made
use Rattle.circus_member_rules.specs.declared.occurrence.Occurrence.{Occurrence}
use Rattle.circus_member_rules.specs.declared.occurrence.Occurrence.TheVariants as comes
use Rattle.circus_member_rules.specs.MemberState.{MemberState}
use Rattle.circus_member_rules.specs.Step.{step_member}
use Rattle.circus_member_rules.specs.Happening.{CanHappen}
use Rattle.circus_member_rules.specs.Seen.Sound.{IsRested}
use Rattle.circus_node.specs.Accepting.{occurrence_of_heard, accepted_request}
use Rattle.circus_node.specs.NodeState.{Acting, member, ringmaster}
use Rattle.circus_node.specs.Making.{Made, happens, keep_acting, refuse, arrives_at_ring, by_ring, hears, learns_down, is_told_to_join, performs, table_message, a_drop}
use Rattle.circus_member_rules.specs.Proper.{AreProper}
use Rattle.circus_member_theory.specs.Truth.{IsTrueMember, IsTrueOccurrence, IsTrueEffect, IsTrueCallFor, IsTrueReturn}
use Rattle.circus_member_theory.proofs.Accepting.True.{call_is_true, return_is_true}
use Rattle.circus_member_theory.proofs.Accepting.TrueCan.{call_can, return_can}
use Rattle.circus_member_theory.proofs.Alike.{no_difference}
use Rattle.circus_member_theory.proofs.Resting.{step_rests}
use Rattle.circus_member_theory.proofs.Step.{in_range, step_keeps_true}
use Rattle.circus_world_theory.proofs.True.{first_at, CallSo, ReturnSo, EffectSo, IsTrueAt, ActsTrue, MakesTrue}

-- ---- the Ringmaster

module _ {M : Type 0} (declared : M → Signature) (turn : M → List ValueTree → ℕ → List ValueTree → List Outcome → NextTurn) (first : M → List ValueTree)
    (program : List Behaviour) (d : Deployment) (Called : Caller → List ℕ → Type 0) where
  abbrev RingMakes : Made M → Type 0
  RingMakes made = MakesTrue declared turn first program d Called None made

  drops : (kept : Kept) → RingMakes (by_ring (kept, a_drop))
  drops kept = record { acting = tt; effects = All-nil (EffectSo program Called None); differences = refl }

  performs_true : (kept : Kept) (sender : Caller) (request : Request) → RingMakes (by_ring (performs kept sender request))
  performs_true kept sender request = record { acting = tt; effects = by_table (table_by kept request); differences = refl }
    where
      by_table : (o : Option Table) → All (EffectSo program Called None) (option_map_or (λ table. made.Answer sender (table_message table) ∷ []) o [])
      by_table None = All-nil (EffectSo program Called None)
      by_table (Some table) =
          All-cons (EffectSo program Called None) (made.Answer sender (table_message table)) [] (inr (inr (bytes_of (table_fields table), refl))) (All-nil (EffectSo program Called None))

  ring_makes : (kept : Kept) (h : Heard Purpose) → RingMakes (by_ring (arrives_at_ring h kept))
  ring_makes kept heard.Dropped = drops kept
  ring_makes kept heard.Taken = drops kept
  ring_makes kept (heard.Called sender message) = by_request (accepted_request kept message)
    where
      by_request : (o : Option Request) → RingMakes (by_ring (option_map_or (performs kept sender) o (kept, a_drop)))
      by_request None = drops kept
      by_request (Some request) = performs_true kept sender request
  ring_makes kept (heard.Returned number purpose message) = drops kept

-- ---- what is heard

-- a troupe has a module, and a number as modules have
pub record HasModule (program : List Behaviour) (troupe : ℕ) : Type 0 where
  pub few : troupe < 32
  pub behaves : Behaviour
  pub there : IsAt program troupe behaves

-- if there is one
abbrev pub MayHaveModule : List Behaviour → Option ℕ → Type 0
MayHaveModule program troupe = IfSome troupe (HasModule program)

-- a call that was made, and is true of the troupe that makes it, or a true return to a true call
module _ (program : List Behaviour) (Called Theirs : Caller → List ℕ → Type 0) where
  abbrev pub HeardSo : Option ℕ → Option ℕ → Heard Purpose → Type 0
  HeardSo own server heard.Dropped = Unit {0}
  HeardSo own server heard.Taken = Unit {0}
  HeardSo own server (heard.Called sender message) = Called sender message × ((purpose : Purpose) × CallSo program Theirs server purpose message)
  HeardSo own server (heard.Returned number purpose message) =
      (call : List ℕ) × (caller : Caller) × CallSo program Called own purpose call × ReturnSo program (λ _ other. other ≡ call) server caller message

-- ---- what is accepted

-- what can happen to a member of a troupe, and truly does
module _ {M : Type 0} (declared : M → Signature) (first : M → List ValueTree) (program : List Behaviour) (Called : Caller → List ℕ → Type 0) (troupe : ℕ) (m : MemberState M) where
  abbrev pub Happens : Occurrence → Type 0
  Happens o = CanHappen (declared m.performing.hosted) m o × IsTrueOccurrence (history_of program) troupe (first m.performing.hosted) Called m o

-- it does so where it is accepted of what is heard
abbrev pub Accepts : {M : Type 0} → (M → Signature) → (M → List ValueTree) → List Behaviour → Deployment → (Caller → List ℕ → Type 0) → ℕ → MemberState M → ℕ → Heard Purpose → Type 0
Accepts declared first program d Called troupe m from h =
    (x : Occurrence) → occurrence_of_heard d (declared m.performing.hosted) m from h ≡ Some x → Happens declared first program Called troupe m x

module _ {M : Type 0} (declared : M → Signature) (turn : M → List ValueTree → ℕ → List ValueTree → List Outcome → NextTurn) (first : M → List ValueTree)
    (program : List Behaviour) (d : Deployment) (Called : Caller → List ℕ → Type 0) (troupe : ℕ) (m : MemberState M)
    (so_far : IsTrueAt declared turn first program d Called troupe m) where
  same_first : first m.performing.hosted ≡ first_at program troupe
  same_first = ap (λ (o : Option Behaviour). option_map_or (λ (b : Behaviour). b.first) o []) (sym so_far.at)

  module _ (agree : Agree program) (are : AreModules program) (proper : AreProper program) (from : ℕ) where
    abbrev AcceptsOf : Heard Purpose → Type 0
    AcceptsOf h = Accepts declared first program d Called troupe m from h

    called_accepts : (server : Option ℕ) (Theirs : Caller → List ℕ → Type 0) (sender : Caller) (message : List ℕ) (purpose : Purpose) → MayHaveModule program server
        → Called sender message → CallSo program Theirs server purpose message → AcceptsOf (heard.Called sender message)
    called_accepts (Some client) Theirs sender message purpose has called so x is = (
      call_can declared turn first program agree are proper d troupe Called m from client has.behaves (first_at program client) Theirs sender message purpose x
          so_far.of has.there so is,
      call_is_true declared turn first program agree are proper d troupe Called m from client (first_at program client) Theirs sender message purpose x
          so_far.is.own so called is,
    )
    called_accepts None Theirs sender message purpose has called so x is = absurd so

    returned_by : (server number : ℕ) (firsts : List ValueTree) (caller : Caller) (purpose : Purpose) (call message : List ℕ) → troupe < 32 → server < 32
        → (server ≡ troupe → firsts ≡ first m.performing.hosted)
        → CallSo program Called (Some troupe) purpose call → IsTrueReturn (history_of program) server firsts (λ _ other. other ≡ call) caller message
        → AcceptsOf (heard.Returned number purpose message)
    returned_by server number firsts caller purpose call message own few same made_so so x is =
        let own_call = subst (λ f. IsTrueCallFor (history_of program) troupe f Called purpose call) (sym same_first) made_so in (
          return_can declared turn first program agree are proper d troupe Called m from number server firsts caller purpose call message x
              so_far.of so_far.at own_call so same few own is,
          return_is_true declared turn first program agree are proper d troupe Called m from number server firsts caller purpose call message x
              so_far.at so_far.is own_call so same few own is,
        )

    returned_accepts : (number : ℕ) (server : Option ℕ) (caller : Caller) (purpose : Purpose) (call message : List ℕ) → troupe < 32 → MayHaveModule program server
        → CallSo program Called (Some troupe) purpose call → ReturnSo program (λ _ other. other ≡ call) server caller message
        → AcceptsOf (heard.Returned number purpose message)
    returned_accepts number (Some server) caller purpose call message own has made_so so =
        returned_by server number (first_at program server) caller purpose call message own has.few (λ same. ap (first_at program) same ∙ sym same_first) made_so so
    returned_accepts number None caller purpose call message own has made_so so =
        returned_by troupe number (first m.performing.hosted) caller purpose call message own own (λ same. refl) made_so (inr (inr so))

    -- so it is with all that is heard
    pub heard_accepts : (server : Option ℕ) (Theirs : Caller → List ℕ → Type 0) (h : Heard Purpose) → troupe < 32 → MayHaveModule program server
        → HeardSo program Called Theirs (Some troupe) server h → AcceptsOf h
    heard_accepts server Theirs heard.Dropped own has so = λ x is. absurd (none-some x is)
    heard_accepts server Theirs heard.Taken own has so = λ x is. absurd (none-some x is)
    heard_accepts server Theirs (heard.Called sender message) own has so = called_accepts server Theirs sender message so.1.0 has so.0 so.1.1
    heard_accepts server Theirs (heard.Returned number purpose message) own has so = returned_accepts number server so.1 purpose so.0 message own has so.2 so.3

-- ---- what is made

module _ {M : Type 0} (declared : M → Signature) (turn : M → List ValueTree → ℕ → List ValueTree → List Outcome → NextTurn) (first : M → List ValueTree)
    (lawful : (hosted : M) → IsModule (behaviour declared turn first hosted))
    (program : List Behaviour) (agree : Agree program) (are : AreModules program) (proper : AreProper program) (d : Deployment) (Called : Caller → List ℕ → Type 0) where
  -- ---- a member

  module _ (troupe : ℕ) (m : MemberState M) (so_far : IsTrueAt declared turn first program d Called troupe m) where
    abbrev Makes : Made M → Type 0
    Makes made = MakesTrue declared turn first program d Called (Some troupe) made

    effect_so : (e : Effect) → IsTrueEffect (history_of program) troupe (first m.performing.hosted) Called e → EffectSo program Called (Some troupe) e
    effect_so (made.Call to message purpose) is =
        subst (λ f. IsTrueCallFor (history_of program) troupe f Called purpose message) (same_first declared turn first program d Called troupe m so_far) is
    effect_so (made.Answer caller message) is =
        subst (λ f. IsTrueReturn (history_of program) troupe f Called caller message) (same_first declared turn first program d Called troupe m so_far) is

    happens_true : (at : ℕ) (o : Occurrence) → Happens declared first program Called troupe m o → Makes (happens declared turn at m o)
    happens_true at o (can, so) =
        let n = step_member declared turn at o m in
        let rests = step_rests declared turn first lawful at o m so_far.rested can (in_range program agree are troupe (first m.performing.hosted) Called m o so) in
        let keeps = step_keeps_true declared turn first lawful program agree are proper troupe Called at o m so_far.at so_far.rested can so_far.is so in
        record {
          acting = record {
            at = subst (λ (h : M). IsAt program troupe (behaviour declared turn first h)) (sym rests.hosted) so_far.at;
            rested = subst (λ (h : M). IsRested (behaviour declared turn first h) n.member) (sym rests.hosted) rests.rested;
            of = record { views = rests.views ∙ so_far.of.views };
            is = subst (λ (h : M). IsTrueMember (history_of program) troupe (first h) Called n.member) (sym rests.hosted) keeps.member;
          };
          effects = All-weaker (IsTrueEffect (history_of program) troupe (first m.performing.hosted) Called) (EffectSo program Called (Some troupe)) effect_so n.effects keeps.effects;
          differences = ap (λ (o : Option Difference). option_to_list o) (no_difference (history_of program) troupe (first m.performing.hosted) Called o m so_far.is so);
        }

    nothing_made : Makes (keep_acting (member m))
    nothing_made = record { acting = so_far; effects = All-nil (EffectSo program Called (Some troupe)); differences = refl }

    nothing_accepted : Makes (refuse (member m))
    nothing_accepted = record { acting = so_far; effects = All-nil (EffectSo program Called (Some troupe)); differences = refl }

    by_accepted : (at : ℕ) (o : Option Occurrence) → ((x : Occurrence) → o ≡ Some x → Happens declared first program Called troupe m x)
        → Makes (option_map_or (happens declared turn at m) o (refuse (member m)))
    by_accepted at None so = nothing_accepted
    by_accepted at (Some o) so = happens_true at o (so o refl)

    heard_true : (at from : ℕ) (h : Heard Purpose) → Accepts declared first program d Called troupe m from h → Makes (hears declared turn d at from h (member m))
    heard_true at from heard.Dropped so = nothing_accepted
    heard_true at from heard.Taken so = nothing_made
    heard_true at from (heard.Called sender message) so = by_accepted at (occurrence_of_heard d (declared m.performing.hosted) m from (heard.Called sender message)) so
    heard_true at from (heard.Returned number purpose message) so =
        by_accepted at (occurrence_of_heard d (declared m.performing.hosted) m from (heard.Returned number purpose message)) so

  -- ---- either

  ring_hears : (at from : ℕ) (h : Heard Purpose) (kept : Kept) → MakesTrue declared turn first program d Called None (hears declared turn d at from h (ringmaster kept))
  ring_hears at from heard.Dropped kept = record { acting = tt; effects = All-nil (EffectSo program Called None); differences = refl }
  ring_hears at from heard.Taken kept = record { acting = tt; effects = All-nil (EffectSo program Called None); differences = refl }
  ring_hears at from (heard.Called sender message) kept = ring_makes declared turn first program d Called kept (heard.Called sender message)
  ring_hears at from (heard.Returned number purpose message) kept = ring_makes declared turn first program d Called kept (heard.Returned number purpose message)

  pub hears_true : (at from : ℕ) (own server : Option ℕ) (Theirs : Caller → List ℕ → Type 0) (h : Heard Purpose) (a : Acting M) → MayHaveModule program own
      → MayHaveModule program server → HeardSo program Called Theirs own server h
      → ActsTrue declared turn first program d Called own a → MakesTrue declared turn first program d Called own (hears declared turn d at from h a)
  hears_true at from (Some troupe) server Theirs h (member m) own has so acts = heard_true troupe m acts at from h
      (heard_accepts declared turn first program d Called troupe m acts agree are proper from server Theirs h own.few has so)
  hears_true at from (Some troupe) server Theirs h (ringmaster kept) own has so acts = absurd acts
  hears_true at from None server Theirs h (member m) own has so acts = absurd acts
  hears_true at from None server Theirs h (ringmaster kept) own has so acts = ring_hears at from h kept

  pub learns_true : (at node : ℕ) (own : Option ℕ) (a : Acting M) → ActsTrue declared turn first program d Called own a
      → MakesTrue declared turn first program d Called own (learns_down declared turn at node a)
  learns_true at node (Some troupe) (member m) acts = happens_true troupe m acts at (comes.Declared node) (tt, tt)
  learns_true at node (Some troupe) (ringmaster kept) acts = absurd acts
  learns_true at node None (member m) acts = absurd acts
  learns_true at node None (ringmaster kept) acts = record { acting = tt; effects = All-nil (EffectSo program Called None); differences = refl }

  pub joins_true : (at : ℕ) (own : Option ℕ) (a : Acting M) → ActsTrue declared turn first program d Called own a
      → MakesTrue declared turn first program d Called own (is_told_to_join declared turn at a)
  joins_true at (Some troupe) (member m) acts = happens_true troupe m acts at comes.Joins (tt, tt)
  joins_true at (Some troupe) (ringmaster kept) acts = absurd acts
  joins_true at None (member m) acts = absurd acts
  joins_true at None (ringmaster kept) acts = record { acting = tt; effects = All-nil (EffectSo program Called None); differences = refl }
