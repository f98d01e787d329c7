-- What is owed behind what comes, part by part.
use Rattle.std.proofs.Common.{◌≡◌, ℕ, Bool, true, false, true≢false, ◌&&◌, if◌then◌else◌, List, [], ◌++◌, map, refl, sym, ap, ◌∙◌, append-nil}
use Rattle.std.specs.Prelude.{nat_eq}
use Rattle.std.specs.Bool.{Decides}
use Rattle.std.proofs.lemmas.Bool.{and_parts, eqb-true, eq-eqb}
use Rattle.circus_value.specs.ValueTree.{ValueTree}
use Rattle.circus_value.specs.declared.caller.Caller.{Caller}
use Rattle.circus_collate.specs.declared.view.View.{View}
use Rattle.circus_transfer.specs.Joining.{after_state}
use Rattle.circus_transfer.specs.declared.joiner.Joiner.{Joiner}
use Rattle.circus_transfer.specs.declared.joiner.Joiner.TheVariants.{Outside, Asking, Fetching, Active}
use Rattle.circus_model.specs.declared.signature.ProcedureShape.{ProcedureShape}
use Rattle.circus_record.specs.declared.record.MemberRecord.{MemberRecord}
use Rattle.circus_gather.specs.Gathering.{with_first}
use Rattle.circus_performing.specs.Performing.{is_fetching}
use Rattle.circus_member_rules.specs.declared.place.Place.{Place}
use Rattle.circus_member_rules.specs.declared.occurrence.Effect.{Effect}
use Rattle.circus_member_rules.specs.declared.occurrence.Occurrence.{Occurrence}
use Rattle.circus_member_rules.specs.declared.occurrence.Occurrence.TheVariants as comes
use Rattle.circus_member_rules.specs.Rules.{active_call, before_answers}
use Rattle.circus_member_theory.specs.Past.{Past, phase}
use Rattle.circus_dues.specs.Calls.{request_in, gathered_by, returns_by}
use Rattle.circus_dues.specs.Dues.{IsActivatedSo}
use Rattle.circus_dues.specs.Out.{phase_behind, began_behind, requests_of, open_behind, calls_of_open}
use Rattle.circus_dues.specs.Seen.Owing.{activated, behind, made_at_once}
use Rattle.circus_dues.specs.declared.owing.Owing.{Owing}

-- a state leaves the phase of a member that fetches none
not_fetching : (count : ℕ) (j : Joiner) → is_fetching j ≡ false → j ≡ after_state count j
not_fetching count Outside is = refl
not_fetching count Asking is = refl
not_fetching count (Fetching incarnation) is = absurd (true≢false is)
not_fetching count (Active first) is = refl

module _ (kept : MemberRecord) (at : ℕ) (d : Owing) where
  pub walk_then : (o : Occurrence) → (behind kept at o d).walk ≡ d.walk
  walk_then (comes.Asked header body sender) = refl
  walk_then (comes.Fetched incarnation sender) = refl
  walk_then (comes.Replied name from reply) = refl
  walk_then (comes.IsStale name server from incarnation) = refl
  walk_then (comes.IsBefore name from) = refl
  walk_then (comes.Told request table) = refl
  walk_then (comes.Restored state count) = by_test (is_fetching d.phase)
    where
      by_test : (b : Bool) → let e : Owing = if b then activated kept at state count d else d in e.walk ≡ d.walk
      by_test true = refl
      by_test false = refl
  walk_then (comes.Declared node) = refl
  walk_then comes.Joins = refl

  -- ---- the phase, and the state with which it became active

  pub phase_then : (o : Occurrence) → (behind kept at o d).phase ≡ phase_behind o d.phase
  phase_then (comes.Asked header body sender) = refl
  phase_then (comes.Fetched incarnation sender) = refl
  phase_then (comes.Replied name from reply) = refl
  phase_then (comes.IsStale name server from incarnation) = refl
  phase_then (comes.IsBefore name from) = refl
  phase_then (comes.Told request table) = refl
  phase_then (comes.Restored state count) = by_test (is_fetching d.phase) refl
    where
      by_test : (b : Bool) → is_fetching d.phase ≡ b → let e : Owing = if b then activated kept at state count d else d in e.phase ≡ after_state count d.phase
      by_test true is = refl
      by_test false is = not_fetching count d.phase is
  phase_then (comes.Declared node) = refl
  phase_then comes.Joins = refl

  pub began_then : (o : Occurrence) → (behind kept at o d).began ≡ began_behind o d.phase d.began
  began_then (comes.Asked header body sender) = refl
  began_then (comes.Fetched incarnation sender) = refl
  began_then (comes.Replied name from reply) = refl
  began_then (comes.IsStale name server from incarnation) = refl
  began_then (comes.IsBefore name from) = refl
  began_then (comes.Told request table) = refl
  began_then (comes.Restored state count) = by_test (is_fetching d.phase)
    where
      by_test : (b : Bool) → let e : Owing = if b then activated kept at state count d else d in e.began ≡ (if b then state else d.began)
      by_test true = refl
      by_test false = refl
  began_then (comes.Declared node) = refl
  began_then comes.Joins = refl

  -- ---- calls in

  pub requests_then : (o : Occurrence) → (behind kept at o d).calls.requests ≡ d.calls.requests ++ map (λ (e : ℕ × Caller). e.1) (request_in at o)
  requests_then (comes.Asked header body sender) = sym (append-nil d.calls.requests)
  requests_then (comes.Fetched incarnation sender) = refl
  requests_then (comes.Replied name from reply) = sym (append-nil d.calls.requests)
  requests_then (comes.IsStale name server from incarnation) = sym (append-nil d.calls.requests)
  requests_then (comes.IsBefore name from) = sym (append-nil d.calls.requests)
  requests_then (comes.Told request table) = sym (append-nil d.calls.requests)
  requests_then (comes.Restored state count) = by_test (is_fetching d.phase) ∙ sym (append-nil d.calls.requests)
    where
      by_test : (b : Bool) → let e : Owing = if b then activated kept at state count d else d in e.calls.requests ≡ d.calls.requests
      by_test true = refl
      by_test false = refl
  requests_then (comes.Declared node) = sym (append-nil d.calls.requests)
  requests_then comes.Joins = sym (append-nil d.calls.requests)

  module _ (begins : Joiner) (p : Past) (same : d.phase ≡ phase begins p) where
    pub gathered_then : (o : Occurrence) → (behind kept at o d).calls.gathered ≡ gathered_by begins p o d.calls.gathered
    gathered_then (comes.Asked header body sender) = refl
    gathered_then (comes.Fetched incarnation sender) = refl
    gathered_then (comes.Replied name from reply) = refl
    gathered_then (comes.IsStale name server from incarnation) = refl
    gathered_then (comes.IsBefore name from) = refl
    gathered_then (comes.Told request table) = refl
    gathered_then (comes.Restored state count) = by_test (is_fetching d.phase) ∙ ap (λ j. if is_fetching j then with_first d.calls.gathered count else d.calls.gathered) same
      where
        by_test : (b : Bool) → let e : Owing = if b then activated kept at state count d else d in e.calls.gathered ≡ (if b then with_first d.calls.gathered count else d.calls.gathered)
        by_test true = refl
        by_test false = refl
    gathered_then (comes.Declared node) = refl
    gathered_then comes.Joins = refl

  -- ---- calls out

  pub asks_then : (o : Occurrence) → (behind kept at o d).out.asks ≡ open_behind o d.out.known (behind kept at o d).out.known d.out.asks
  asks_then (comes.Asked header body sender) = refl
  asks_then (comes.Fetched incarnation sender) = refl
  asks_then (comes.Replied name from reply) = refl
  asks_then (comes.IsStale name server from incarnation) = refl
  asks_then (comes.IsBefore name from) = refl
  asks_then (comes.Told request table) = refl
  asks_then (comes.Restored state count) = by_test (is_fetching d.phase)
    where
      by_test : (b : Bool) → let e : Owing = if b then activated kept at state count d else d in e.out.asks ≡ d.out.asks
      by_test true = refl
      by_test false = refl
  asks_then (comes.Declared node) = refl
  asks_then comes.Joins = refl

  -- ---- what is made at once: calls of open asks, requests, and returns

  module _ (place : Place) (begins : Joiner) (p : Past) (same : d.phase ≡ phase begins p) where
    abbrev made_of : Occurrence → Joiner → List Effect
    made_of o j = calls_of_open o d.out.known (behind kept at o d).out.known d.out.asks ++ requests_of place o j (behind kept at o d).out.known

    -- nothing is returned
    unreturned : (calls : List Effect) → calls ≡ (calls ++ []) ++ []
    unreturned calls = sym (append-nil (calls ++ []) ∙ append-nil calls)

    pub made_then : (o : Occurrence) → made_at_once place o d ≡ (calls_of_open o d.out.known (behind kept at o d).out.known d.out.asks ++ requests_of place o (phase begins p) (behind kept at o d).out.known) ++ returns_by begins p o d.calls.gathered
    made_then (comes.Asked header body sender) = refl
    made_then (comes.Fetched incarnation sender) = refl
    made_then (comes.Replied name from reply) = refl
    made_then (comes.IsStale name server from incarnation) = unreturned (made_at_once place (comes.IsStale name server from incarnation) d)
    made_then (comes.IsBefore name from) = refl
    made_then (comes.Told request table) = sym (append-nil (made_of (comes.Told request table) d.phase)) ∙ ap (λ j. made_of (comes.Told request table) j ++ []) same
    made_then (comes.Restored state count) =
        by_test (is_fetching d.phase)
        ∙ ap (λ j. made_of (comes.Restored state count) j ++ (if is_fetching j then before_answers d.calls.gathered count else [])) same
      where
        by_test : (b : Bool) → let e : Owing = if b then activated kept at state count d else d in
            (if b then active_call place d.out.known count ++ before_answers d.calls.gathered count else [])
            ≡ (if b then active_call place e.out.known count else []) ++ (if b then before_answers d.calls.gathered count else [])
        by_test true = refl
        by_test false = refl
    made_then (comes.Declared node) = sym (append-nil (made_at_once place (comes.Declared node) d))
    made_then comes.Joins = sym (append-nil (made_at_once place comes.Joins d))

  -- ---- in time

  pub untimely_then : (o : Occurrence) → d.is_timely ≡ false → (behind kept at o d).is_timely ≡ false
  untimely_then (comes.Asked header body sender) is = is
  untimely_then (comes.Fetched incarnation sender) is = is
  untimely_then (comes.Replied name from reply) is = is
  untimely_then (comes.IsStale name server from incarnation) is = is
  untimely_then (comes.IsBefore name from) is = is
  untimely_then (comes.Told request table) is = is
  untimely_then (comes.Restored state count) is = by_test (is_fetching d.phase)
    where
      by_test : (b : Bool) → let e : Owing = if b then activated kept at state count d else d in e.is_timely ≡ false
      by_test true = ap (λ b. b && (nat_eq kept.from count && nat_eq kept.active_at at)) is
      by_test false = is
  untimely_then (comes.Declared node) is = is
  untimely_then comes.Joins is = is

  -- a state is tested: that which makes the member active
  module _ (place : Place) (boot : List View) (begins : Joiner) (first : List ValueTree) (procedures : List ProcedureShape) (at_boot : ℕ) (p : Past) (same : d.phase ≡ phase begins p) (timely : d.is_timely ≡ true) where
    abbrev Activated : Occurrence → Type 0
    Activated o = IsActivatedSo place boot begins first kept procedures at_boot p at o

    pub timely_then : (o : Occurrence) → Decides (behind kept at o d).is_timely (Activated o)
    timely_then (comes.Asked header body sender) = (λ is. tt, λ so. timely)
    timely_then (comes.Fetched incarnation sender) = (λ is. tt, λ so. timely)
    timely_then (comes.Replied name from reply) = (λ is. tt, λ so. timely)
    timely_then (comes.IsStale name server from incarnation) = (λ is. tt, λ so. timely)
    timely_then (comes.IsBefore name from) = (λ is. tt, λ so. timely)
    timely_then (comes.Told request table) = (λ is. tt, λ so. timely)
    timely_then (comes.Restored state count) = by_test (is_fetching d.phase) (ap is_fetching same)
      where
        by_test : (b : Bool) → b ≡ is_fetching (phase begins p) → let e : Owing = if b then activated kept at state count d else d in
            Decides e.is_timely (is_fetching (phase begins p) ≡ true → (kept.active_at ≡ at) × (kept.from ≡ count))
        by_test true is = (
          λ holds fetching.
              let parts = and_parts d.is_timely (nat_eq kept.from count && nat_eq kept.active_at at) holds in
              let both = and_parts (nat_eq kept.from count) (nat_eq kept.active_at at) parts.1 in
              (eqb-true kept.active_at at both.1, eqb-true kept.from count both.0),
          λ so. let both = so (sym is) in (λ j. timely j && (eq-eqb kept.from count both.1 j && eq-eqb kept.active_at at both.0 j)),
        )
        by_test false is = (λ holds fetching. absurd (true≢false (sym fetching ∙ sym is)), λ so. timely)
    timely_then (comes.Declared node) = (λ is. tt, λ so. timely)
    timely_then comes.Joins = (λ is. tt, λ so. timely)
