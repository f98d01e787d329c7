-- What a quiet member knows of its calls and of those that came to it: its asks are called at each entry of their views, each call that came
-- waits or is returned, and each return that came was said to its ask.
use Rattle.std.proofs.Common.{◌≡◌, ◌⊎◌, inl, inr, ℕ, suc, ◌+◌, ◌-◌, ◌<◌, ◌≤◌, Bool, true, false, ◌||◌, eqb, List, [], ◌∷◌, length, map, Option, None, Some, refl, sym, ap, subst, ◌∙◌, arith, eq-eqb}
use Rattle.std.specs.Prelude.{slice_get, is_some}
use Rattle.std.specs.List.{list_any}
use Rattle.std.proofs.lemmas.Bool.{cases_lt}
use Rattle.std.proofs.lemmas.List.Folds.{list_any-append}
use Rattle.std.proofs.lemmas.Option.{same_Some, slice_get_within}
use Rattle.circus_value.specs.ValueTree.{ValueTree}
use Rattle.circus_value.specs.declared.caller.Caller.{Caller}
use Rattle.circus_value.specs.declared.outcome.Outcome.{Outcome}
use Rattle.circus_header.specs.declared.call.CallHeader.{CallHeader}
use Rattle.circus_header.specs.declared.answer.Reply.{Reply}
use Rattle.circus_collate.specs.Giving.{is_from}
use Rattle.circus_collate.specs.declared.view.View.{View}
use Rattle.circus_transfer.specs.declared.joiner.Joiner.{Joiner}
use Rattle.circus_model.specs.NextTurn.{NextTurn}
use Rattle.circus_model.specs.Behaviour.{Behaviour, IsModule}
use Rattle.circus_model.specs.declared.signature.Signature.{Signature}
use Rattle.circus_record.specs.declared.record.AskRecord.{AskRecord}
use Rattle.circus_record.specs.declared.record.MemberRecord.{MemberRecord}
use Rattle.circus_record.specs.declared.record.RunRecord.{RunRecord}
use Rattle.circus_fanout.specs.Asking.{Asking, with_reply}
use Rattle.circus_performing.specs.Performing.{last_of, open_ask, last_count}
use Rattle.circus_performing.specs.Record.{behaviour, IsRecord}
use Rattle.circus_pair.specs.Acts.{taken_by}
use Rattle.circus_pair.specs.Handed.{return_at}
use Rattle.circus_pair.specs.Taken.{has_arrived}
use Rattle.circus_wire.specs.Wire.{Beginning}
use Rattle.circus_wire.specs.WireActs.{WireAct, WireActs, acts_at, purpose_of}
use Rattle.circus_wire.specs.WireStanding.{pair_of}
use Rattle.circus_member_rules.specs.OpenAsks.{asking_of}
use Rattle.circus_member_rules.specs.declared.occurrence.AskName.{AskName}
use Rattle.circus_member_rules.specs.declared.occurrence.Effect.{Effect}
use Rattle.circus_member_rules.specs.declared.occurrence.Effect.TheVariants as made
use Rattle.circus_member_rules.specs.declared.occurrence.Occurrence.{Occurrence}
use Rattle.circus_member_rules.specs.declared.occurrence.Occurrence.TheVariants as comes
use Rattle.circus_member_rules.specs.declared.occurrence.Purpose.{Purpose}
use Rattle.circus_member_rules.specs.declared.occurrence.Purpose.TheVariants as for
use Rattle.circus_member_rules.specs.GoneOn.{HasGoneOn}
use Rattle.circus_member_rules.specs.Happening.{CanHappen}
use Rattle.circus_member_rules.specs.MemberState.{MemberState}
use Rattle.circus_member_rules.specs.Seen.Sound.{IsRested}
use Rattle.circus_member_rules.specs.Step.{handle, step_member}
use Rattle.circus_member_theory.proofs.Resting.{step_rests}
use Rattle.circus_member_theory.specs.Ranges.{InRange}
use Rattle.circus_world_theory.specs.NodeActs.{with_all}
use Rattle.circus_world.proofs.SlotLemmas.{all_at}
use Rattle.circus_world_theory.specs.Made.{act_of}
use Rattle.circus_world_theory.proofs.Border.Handing.{AreReturns, itself}
use Rattle.circus_world_theory.proofs.Border.Waiting.{waiting_at, answered_in, calls_in, one_if, step_answers}
use Rattle.circus_world_theory.proofs.Quiescence.Acts.{purposes_stay, made_purpose, purpose_from, purpose_next, returns_stay, answered_returned, handed_arrived}
use Rattle.circus_world_theory.specs.Told.{Recorded, IsOpenAt, IsSilent}
use Rattle.circus_world_theory.proofs.Quiescence.Evolving.{Named}
use Rattle.circus_world_theory.proofs.Quiescence.Once.{AreOthers}
use Rattle.circus_world_theory.proofs.Quiescence.Staying.{IsEntryOf, EffectSo, NewCall, is_entry, idle_count, busy_count}
use Rattle.circus_world_theory.proofs.Quiescence.Stepping.{AreFirst, IsQuiet, IsQuietOccurrence, StepsQuiet, step_quiet, changed_there, changed_here}

-- ---- an ask that was made is not opened again

pub reopened : (b c : Behaviour) (began later : List ValueTree) (old new : MemberRecord) → IsRecord b began old → IsRecord c later new → old.from ≡ 0 → new.from ≡ 0 → length old.runs ≤ last_count → length new.runs ≤ last_count
    → length old.runs ≤ length new.runs → old.count ≤ new.count → ((i n : ℕ) → Named old i n → Named new i n)
    → (i n callee : ℕ) → Named old i n → IsOpenAt new i n callee → (before : ℕ) × IsOpenAt old i n before
reopened b c began later old new is now from from_new few few_new longer counts named i n callee was o = by_ask (open_ask old) refl
  where
    below : i < length old.runs
    below = slice_get_within old.runs i was.run was.run_is

    last_at : suc i ≡ length old.runs
    last_at = (let at = o.index_is in omega (arith, at, below, longer))

    by_ask : (x : Option AskRecord) → open_ask old ≡ x → (before : ℕ) × IsOpenAt old i n before
    by_ask None none =
        let idle = idle_count b began old is from few none in
        let busy = busy_count c later new now from_new few_new o.ask o.is_open in
        let at = o.index_is in
        absurd (omega (arith, idle, busy, at, last_at, counts))
    by_ask (Some ask) some =
        let place : length old.runs - 1 ≡ i = omega (arith, last_at) in
        let same_last : last_of old.runs ≡ Some was.run = ap (slice_get old.runs) place ∙ was.run_is in
        let within = was.within in
        let top = named i (length was.run.asks - 1) (record { run = was.run; run_is = was.run_is; within = omega (arith, within) }) in
        let place_new : length new.runs - 1 ≡ i = (let at = o.index_is in omega (arith, at)) in
        let run_new : top.run ≡ o.run = same_Some top.run o.run (sym top.run_is ∙ ap (slice_get new.runs) (sym place_new) ∙ o.last) in
        let top_within : length was.run.asks - 1 < length o.run.asks = subst (λ (r : RunRecord). length was.run.asks - 1 < length r.asks) run_new top.within in
        let number = o.number_is in
        (ask.callee, record { run = was.run; ask = ask; last = same_last; is_open = some; callee_is = refl; index_is = last_at; number_is = omega (arith, within, top_within, number) })

-- ---- what is known

module _ (b : Beginning) (a : WireActs Purpose) where
  -- the call of a number to a node was made for this
  abbrev pub Purposed : ℕ → ℕ → Purpose → Type 0
  Purposed node k p = purpose_of (pair_of b) node a k ≡ Some p

  -- a call, or the return to one, has arrived of a node
  abbrev pub Arrived : ℕ → ℕ → ℕ → Type 0
  Arrived node kind k = has_arrived (taken_by (pair_of b) (acts_at (pair_of b) node a)) kind k ≡ true

  abbrev pub Returned : Caller → Type 0
  Returned c = is_some (return_at (acts_at (pair_of b) c.node a) c.number) ≡ true

module _ (b : Beginning) (bv : List View) (IsPeer : ℕ → Type 0) where
  pub record IsCalm {M : Type 0} (a : WireActs Purpose) (m : MemberState M) : Type 0 where
    pub made : (index number callee : ℕ) → Recorded m.performing.kept index number callee → (view : View) (node : ℕ) → slice_get bv callee ≡ Some view → is_entry view node ≡ true
        → (k : ℕ) × Purposed b a node k (for.Ask (record { run = index; ask = number }) callee)
    pub named : (node k index number callee : ℕ) → Purposed b a node k (for.Ask (record { run = index; ask = number }) callee) → Named m.performing.kept index number × IsEntryOf bv callee node
    pub once : (node k j index number callee other : ℕ) → Purposed b a node k (for.Ask (record { run = index; ask = number }) callee) → Purposed b a node j (for.Ask (record { run = index; ask = number }) other) → k ≡ j
    pub waits : (c : Caller) → IsPeer c.node → Arrived b a c.node 0 c.number → Returned b a c ⊎ (1 ≤ waiting_at c m)
    pub said : (node k index number callee asked : ℕ) → IsPeer node → Arrived b a node 1 k → Purposed b a node k (for.Ask (record { run = index; ask = number }) asked) → IsOpenAt m.performing.kept index number callee
        → (asking : Asking) → asking_of m.asks (record { run = index; ask = number }) ≡ Some asking → list_any (is_from node) asking.said ≡ true
    pub gone : HasGoneOn m ⊎ IsSilent m

either_true : (x y : Bool) → x ≡ true → (x || y) ≡ true
either_true true y is = refl
either_true false y is = absurd cc

other_true : (x y : Bool) → y ≡ true → (x || y) ≡ true
other_true true y is = refl
other_true false y is = is

-- what comes to a quiet member is in range
pub quiet_in_range : (bv : List View) (own : ℕ) (phase : Joiner) (P : Caller → CallHeader → List ℕ → Type 0) (y : Occurrence) → IsQuietOccurrence bv own phase P y → InRange y
quiet_in_range bv own phase P (comes.Asked header body sender) is = tt
quiet_in_range bv own phase P (comes.Replied name from reply) is = tt
quiet_in_range bv own phase P (comes.Fetched incarnation sender) is = absurd is
quiet_in_range bv own phase P (comes.IsStale name server from incarnation) is = absurd is
quiet_in_range bv own phase P (comes.IsBefore name from) is = absurd is
quiet_in_range bv own phase P (comes.Told request table) is = absurd is
quiet_in_range bv own phase P (comes.Restored state count) is = absurd is
quiet_in_range bv own phase P (comes.Declared node) is = absurd is
quiet_in_range bv own phase P comes.Joins is = absurd is

-- ---- a step

module _ (b : Beginning) (bv : List View) (IsPeer : ℕ → Type 0) (own : ℕ) (phase : Joiner) (P : Caller → CallHeader → List ℕ → Type 0) {M : Type 0} (declared : M → Signature) (turn : M → List ValueTree → ℕ → List ValueTree → List Outcome → NextTurn)
    (first : M → List ValueTree) (lawful : (hosted : M) → IsModule (behaviour declared turn first hosted)) (firsts : AreFirst bv) (a : WireActs Purpose) (came : List (WireAct Purpose)) (m : MemberState M)
    (rested : IsRested (behaviour declared turn first m.performing.hosted) m) (q : IsQuiet bv own phase P m) (calm : IsCalm b bv IsPeer a m) where
  abbrev now : WireActs Purpose
  now = with_all a came

  -- what comes by what has come: where nothing is accepted, nothing new, and else what is accepted
  pub record Brings (o : Option Occurrence) : Type 0 where
    pub purposes : (node k : ℕ) (p : Purpose) → Purposed b now node k p → Purposed b a node k p
    -- a call was made before its return arrives
    pub before : (node k : ℕ) → IsPeer node → Arrived b now node 1 k → (p : Purpose) × Purposed b now node k p
    pub calls : (c : Caller) → IsPeer c.node → Arrived b now c.node 0 c.number → Arrived b a c.node 0 c.number ⊎ ((header : CallHeader) × (body : List ℕ) × (o ≡ Some (comes.Asked header body c)))
    pub returns : (node k index number callee asked : ℕ) → IsPeer node → Arrived b now node 1 k → Purposed b a node k (for.Ask (record { run = index; ask = number }) asked) → IsOpenAt m.performing.kept index number callee
        → (asking : Asking) → asking_of m.asks (record { run = index; ask = number }) ≡ Some asking
        → Arrived b a node 1 k ⊎ ((reply : Reply) × (o ≡ Some (comes.Replied (record { run = index; ask = number }) node reply)))

  none_is : {X : Type 0} (x : X) → ◌≡◌ {A = Option X} None (Some x) → ⊥
  none_is x is = cc

  -- where nothing happens
  pub calm_still : Brings None → IsCalm b bv IsPeer now m
  calm_still br = record {
    made = λ index number callee r view node there entry. (let k = calm.made index number callee r view node there entry in (k.0, purposes_stay b a came node k.0 _ k.1));
    named = λ node k index number callee p. calm.named node k index number callee (br.purposes node k _ p);
    once = λ node k j index number callee other p r. calm.once node k j index number callee other (br.purposes node k _ p) (br.purposes node j _ r);
    waits = λ c peer arrived. elim (br.calls c peer arrived) [
      | inl before ↦ elim (calm.waits c peer before) [ inl returned ↦ inl (returns_stay b a came c returned) | inr waiting ↦ inr waiting ]
      | inr new ↦ absurd (none_is (comes.Asked new.0 new.1 c) new.2)
    ];
    said = λ node k index number callee asked peer arrived p o asking there. elim (br.returns node k index number callee asked peer arrived (br.purposes node k _ p) o asking there) [
      | inl before ↦ calm.said node k index number callee asked peer before (br.purposes node k _ p) o asking there
      | inr new ↦ absurd (none_is (comes.Replied (record { run = index; ask = number }) node new.0) new.1)
    ];
    gone = calm.gone;
  }

  -- where something happens
  module _ (at : ℕ) (x : Occurrence) (can : CanHappen (declared m.performing.hosted) m x) (quiet_x : IsQuietOccurrence bv own phase P x)
      (few_before : length m.performing.kept.runs ≤ last_count) (few : length (step_member declared turn at x m).member.performing.kept.runs ≤ last_count)
      (after : IsRested (behaviour declared turn first (step_member declared turn at x m).member.performing.hosted) (step_member declared turn at x m).member)
      (br : Brings (Some x)) (returns : AreReturns b now (step_member declared turn at x m).effects) (others : (t : ℕ) (view : View) → slice_get bv t ≡ Some view → AreOthers view) where
    abbrev Old : ℕ → ℕ → ℕ → ℕ → Type 0
    Old index number callee node = (k : ℕ) × Purposed b a node k (for.Ask (record { run = index; ask = number }) callee)

    abbrev effects : List Effect
    effects = (step_member declared turn at x m).effects

    abbrev n : MemberState M
    n = (step_member declared turn at x m).member

    pub steps : StepsQuiet bv own phase P declared turn first lawful firsts Old at x m (step_member declared turn at x m)
    steps = step_quiet bv own phase P declared turn first lawful firsts Old at m rested.sound q (λ index number callee r view node there entry. calm.made index number callee r view node there entry) x can quiet_x few

    in_range : InRange x
    in_range = quiet_in_range bv own phase P x quiet_x

    abbrev behind : WireActs Purpose
    behind = with_all now (map act_of effects)

    -- ---- the asks

    made_now : (index number callee : ℕ) → Recorded n.performing.kept index number callee → (view : View) (node : ℕ) → slice_get bv callee ≡ Some view → is_entry view node ≡ true
        → (k : ℕ) × Purposed b behind node k (for.Ask (record { run = index; ask = number }) callee)
    made_now index number callee r view node there entry = elim (steps.recorded index number callee r view node there entry) [
      | inl old ↦ (old.0, purposes_stay b now (map act_of effects) node old.0 _ (purposes_stay b a came node old.0 _ old.1))
      | inr new ↦ made_purpose b now effects new.place node new.message (for.Ask (record { run = index; ask = number }) callee) new.there
    ]

    named_now : (node k index number callee : ℕ) → Purposed b behind node k (for.Ask (record { run = index; ask = number }) callee) → Named n.performing.kept index number × IsEntryOf bv callee node
    named_now node k index number callee p = elim (purpose_from b now effects node k (for.Ask (record { run = index; ask = number }) callee) p) [
      | inl old ↦ (let was = calm.named node k index number callee (br.purposes node k _ old) in (steps.named index number was.0, was.1))
      | inr new ↦ (let so = all_at (EffectSo bv own P n.performing.kept) effects new.0 (made.Call node new.1 (for.Ask (record { run = index; ask = number }) callee)) steps.effects new.2 in so.1)
    ]

    -- one that was called for before is not called for again
    not_again : (node k j index number callee other : ℕ) → Purposed b now node k (for.Ask (record { run = index; ask = number }) callee) → Purposed b behind node j (for.Ask (record { run = index; ask = number }) other)
        → Purposed b now node j (for.Ask (record { run = index; ask = number }) other)
    not_again node k j index number callee other old new = elim (purpose_from b now effects node j (for.Ask (record { run = index; ask = number }) other) new) [
      | inl before ↦ before
      | inr made_ ↦ absurd (
          let fresh = all_at (NewCall m.performing.kept) effects made_.0 (made.Call node made_.1 (for.Ask (record { run = index; ask = number }) other)) steps.news made_.2 in
          fresh (calm.named node k index number callee (br.purposes node k _ old)).0)
    ]

    once_now : (node k j index number callee other : ℕ) → Purposed b behind node k (for.Ask (record { run = index; ask = number }) callee) → Purposed b behind node j (for.Ask (record { run = index; ask = number }) other) → k ≡ j
    once_now node k j index number callee other p r = elim (purpose_next b now effects node k (for.Ask (record { run = index; ask = number }) callee) (steps.once others) p) [
      | inl old ↦ calm.once node k j index number callee other (br.purposes node k _ old) (br.purposes node j _ (not_again node k j index number callee other old r))
      | inr new ↦ elim (purpose_next b now effects node j (for.Ask (record { run = index; ask = number }) other) (steps.once others) r) [
        | inl also ↦ calm.once node k j index number callee other (br.purposes node k _ (not_again node j k index number other callee also p)) (br.purposes node j _ also)
        | inr both ↦ new ∙ sym both
      ]
    ]

    -- ---- the calls that came

    waits_now : (c : Caller) → IsPeer c.node → Arrived b behind c.node 0 c.number → Returned b behind c ⊎ (1 ≤ waiting_at c n)
    waits_now c peer arrived = elim (br.calls c peer (sym (handed_arrived b now effects c.node 0 c.number) ∙ arrived)) [
      | inl before ↦ elim (calm.waits c peer before) [
        | inl returned ↦ inl (returns_stay b now (map act_of effects) c (returns_stay b a came c returned))
        | inr waiting ↦ known (omega (arith, waiting, all))
      ]
      | inr new ↦
          let one : calls_in c x ≡ 1 = ap (calls_in c) (same_Some x (comes.Asked new.0 new.1 c) new.2) ∙ ap one_if (itself c) in
          known (omega (arith, one, all))
    ]
      where
        all : answered_in c effects + waiting_at c n ≡ waiting_at c m + calls_in c x
        all = step_answers c declared turn first lawful at x m can in_range rested.sound

        known : 1 ≤ answered_in c effects + waiting_at c n → Returned b behind c ⊎ (1 ≤ waiting_at c n)
        known some = elim (cases_lt 0 (answered_in c effects)) [
          | inl answered ↦ inl (answered_returned b now effects c returns answered)
          | inr none ↦ inr (omega (arith, some, none))
        ]

    -- ---- the returns that came

    -- what was said stays said
    said_kept : (y : Occurrence) → IsQuietOccurrence bv own phase P y → (name : AskName) (node : ℕ) (before then_ : Asking) → asking_of m.asks name ≡ Some before → asking_of (handle at y m).member.asks name ≡ Some then_
        → list_any (is_from node) before.said ≡ true → list_any (is_from node) then_.said ≡ true
    said_kept (comes.Asked header body sender) quiet_ name node before then_ was is there =
        subst (λ (y : Asking). list_any (is_from node) y.said ≡ true) (same_Some before then_ (sym was ∙ is)) there
    said_kept (comes.Replied other from reply) quiet_ name node before then_ was is there =
        let c = changed_there m.asks other name (with_reply from reply) before was in
        let same : c.0 ≡ then_ = same_Some c.0 then_ (sym c.1 ∙ is) in
        subst (λ (y : Asking). list_any (is_from node) y.said ≡ true) same (elim c.2 [
          | inl as_before ↦ subst (λ (y : Asking). list_any (is_from node) y.said ≡ true) (sym as_before) there
          | inr new ↦ subst (λ (y : Asking). list_any (is_from node) y.said ≡ true) (sym new)
              (list_any-append (is_from node) before.said (record { node = from; value = reply } ∷ []) ∙ either_true (list_any (is_from node) before.said) _ there)
        ])
    said_kept (comes.Fetched incarnation sender) quiet_ name node before then_ was is there = absurd quiet_
    said_kept (comes.IsStale other server from incarnation) quiet_ name node before then_ was is there = absurd quiet_
    said_kept (comes.IsBefore other from) quiet_ name node before then_ was is there = absurd quiet_
    said_kept (comes.Told request table) quiet_ name node before then_ was is there = absurd quiet_
    said_kept (comes.Restored state count) quiet_ name node before then_ was is there = absurd quiet_
    said_kept (comes.Declared other) quiet_ name node before then_ was is there = absurd quiet_
    said_kept comes.Joins quiet_ name node before then_ was is there = absurd quiet_

    -- and what is said now is
    said_new : (name : AskName) (node : ℕ) (reply : Reply) (before then_ : Asking) → x ≡ comes.Replied name node reply → asking_of m.asks name ≡ Some before → asking_of (handle at x m).member.asks name ≡ Some then_
        → list_any (is_from node) then_.said ≡ true
    said_new name node reply before then_ is was now_ =
        let here : asking_of (handle at (comes.Replied name node reply) m).member.asks name ≡ Some (with_reply node reply before) = changed_here m.asks name (with_reply node reply) before was in
        let same : with_reply node reply before ≡ then_ = same_Some (with_reply node reply before) then_ (sym here ∙ subst (λ y. asking_of (handle at y m).member.asks name ≡ Some then_) is now_) in
        subst (λ (y : Asking). list_any (is_from node) y.said ≡ true) same
        (list_any-append (is_from node) before.said (record { node = node; value = reply } ∷ [])
        ∙ other_true (list_any (is_from node) before.said) (list_any (is_from node) (record { node = node; value = reply } ∷ [])) (either_true (eqb node node) false (eq-eqb node node refl)))

    said_now : (node k index number callee asked : ℕ) → IsPeer node → Arrived b behind node 1 k → Purposed b behind node k (for.Ask (record { run = index; ask = number }) asked) → IsOpenAt n.performing.kept index number callee
        → (asking : Asking) → asking_of n.asks (record { run = index; ask = number }) ≡ Some asking → list_any (is_from node) asking.said ≡ true
    said_now node k index number callee asked peer arrived p o asking there =
        let opened = steps.opened index number callee o in
        subst (λ (y : Asking). list_any (is_from node) y.said ≡ true) (same_Some opened.asking asking (sym opened.there ∙ there)) (by_said opened.asking opened.said)
      where
        name : AskName
        name = record { run = index; ask = number }

        arrived_now : Arrived b now node 1 k
        arrived_now = sym (handed_arrived b now effects node 1 k) ∙ arrived

        -- the call was made before
        purposed : Purposed b a node k (for.Ask name asked)
        purposed = before_now (purpose_from b now effects node k (for.Ask name asked) p)
          where
            before_now : Purposed b now node k (for.Ask name asked) ⊎ ((place : ℕ) × (message : List ℕ) × (slice_get effects place ≡ Some (made.Call node message (for.Ask name asked)))) → Purposed b a node k (for.Ask name asked)
            before_now (inl old) = br.purposes node k (for.Ask name asked) old
            before_now (inr new) = br.purposes node k (for.Ask name asked) (
                let was_for = br.before node k peer arrived_now in
                let same_ : was_for.0 ≡ for.Ask name asked = same_Some was_for.0 (for.Ask name asked) (sym (purposes_stay b now (map act_of effects) node k was_for.0 was_for.1) ∙ p) in
                subst (λ y. Purposed b now node k y) same_ was_for.1)

        was : Named m.performing.kept index number
        was = (calm.named node k index number asked purposed).0

        open_before : (before : ℕ) × IsOpenAt m.performing.kept index number before
        open_before =
            reopened (behaviour declared turn first m.performing.hosted) (behaviour declared turn first n.performing.hosted) m.performing.began n.performing.began m.performing.kept n.performing.kept rested.sound.kept after.sound.kept
            q.from steps.quiet.from few_before few steps.longer steps.counts steps.named index number callee was o

        by_said : (new : Asking) → ((asking_ : Asking) × (asking_of (handle at x m).member.asks name ≡ Some asking_) × (new.said ≡ asking_.said)) ⊎ ((Named m.performing.kept index number → ⊥) × (new.said ≡ [])) → list_any (is_from node) new.said ≡ true
        by_said new (inr fresh) = absurd (fresh.0 was)
        by_said new (inl old) =
            let h = q.opened index number open_before.0 open_before.1 in
            ap (list_any (is_from node)) old.2
            ∙ elim (br.returns node k index number open_before.0 asked peer arrived_now purposed open_before.1 h.asking h.there) [
              | inl before ↦ said_kept x quiet_x name node h.asking old.0 h.there old.1 (calm.said node k index number open_before.0 asked peer before purposed open_before.1 h.asking h.there)
              | inr said ↦ said_new name node said.0 h.asking old.0 (same_Some x (comes.Replied name node said.0) said.1) h.there old.1
            ]

    pub calm_now : IsCalm b bv IsPeer behind n
    calm_now = record {
      made = made_now;
      named = named_now;
      once = once_now;
      waits = waits_now;
      said = said_now;
      gone = inl (step_rests declared turn first lawful at x m rested can in_range).gone_on;
    }
