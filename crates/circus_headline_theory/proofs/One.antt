-- There is one record for what happened to a member.
use Rattle.std.proofs.Common.{◌≡◌, ℕ, zero, suc, ◌+◌, ◌<◌, ◌≤◌, ◌⊎◌, inl, inr, Bool, true, false, ◌&&◌, if◌then◌else◌, List, [], ◌∷◌, ◌++◌, length, take, Option, None, Some, refl, sym, ap, subst, ◌∙◌, arith, append_assoc, append-nil, length-append}
use Rattle.std.specs.Prelude.{slice_get, slice_index, nat_le, IsSomeAnd, option_and_then}
use Rattle.std.specs.Option.{option_map_or}
use Rattle.std.proofs.lemmas.Bool.{cases_lt}
use Rattle.std.proofs.lemmas.Option.{same_Some, slice_get_within}
use Rattle.circus_value.specs.ValueTree.{ValueTree}
use Rattle.circus_value.specs.declared.outcome.Outcome.{Outcome}
use Rattle.circus_header.specs.declared.answer.Reply.{Reply}
use Rattle.circus_header.specs.ReplyEquality.{reply_eq}
use Rattle.circus_collate.specs.Collating.{collate}
use Rattle.circus_collate.specs.Expecting.{expected_nodes}
use Rattle.circus_collate.specs.declared.view.View.{View}
use Rattle.circus_transfer.specs.declared.joiner.Joiner.{Joiner}
use Rattle.circus_transfer.specs.declared.joiner.Joiner.TheVariants as phases
use Rattle.circus_model.specs.Behaviour.{Behaviour}
use Rattle.circus_model.specs.Execution.{is_spent}
use Rattle.circus_model.specs.NextTurn.{NextTurn, asks, ends}
use Rattle.circus_model.specs.declared.signature.ProcedureShape.{ProcedureShape}
use Rattle.circus_model.proofs.Lookups.{old_or_added}
use Rattle.circus_record.specs.declared.record.AskRecord.{AskRecord}
use Rattle.circus_record.specs.declared.record.MemberRecord.{MemberRecord}
use Rattle.circus_record.specs.declared.record.RunRecord.{RunRecord}
use Rattle.circus_gather.specs.declared.held.HeldCall.{HeldCall}
use Rattle.circus_performing.specs.Performing.{clock_after, step_after, state_after, replies_of, refusal, is_active, is_fetching, last_of, last_count}
use Rattle.circus_performing.specs.Record.{start_of, turns, IsMade, IsAnswered, IsWaiting, HasEnded, IsOpen, count_after, IsIdle, IsPerforming, IsRecord}
use Rattle.circus_performing.proofs.Ends.{last_more}
use Rattle.circus_member_rules.specs.declared.place.Place.{Place}
use Rattle.circus_member_rules.specs.declared.occurrence.AskName.{AskName}
use Rattle.circus_member_rules.specs.declared.occurrence.Occurrence.TheVariants as comes
use Rattle.circus_member_rules.specs.Step.{start_by_call, is_join}
use Rattle.circus_member_theory.specs.First.{at_end, or_else, first_given}
use Rattle.circus_member_theory.specs.Past.{Past, booted, followed, now, views_known, nodes_declared_down, replies_to, is_outside, is_asking, taken_in, phase, snapshot_fetched}
use Rattle.circus_member_theory.specs.Living.{phase_at_boot}
use Rattle.circus_member_theory.specs.Snapshots.{began}
use Rattle.circus_ring.specs.RingTable.{boot_views}
use Rattle.circus_collate.specs.declared.deployment.Deployment.{Deployment}
use Rattle.circus_collate.specs.declared.deployment.Troupe.{Troupe}
use Rattle.circus_node.specs.Booting.{beginning_in, home_in}
use Rattle.circus_headline_theory.specs.NodeRun.{past_of, runs_at_boot, IsNodeRun}
use Rattle.circus_node.specs.Trace.{Trace}
use Rattle.circus_member_theory.specs.Timely.{given_value, ShowsAnswer, IsMain, has_ended, is_free_for, may_start, may_answer, collated_call, name_of, IsTimely}

-- ---- lists

pub at_front : {X : Type 0} (xs : List X) (x : X) (ys : List X) → slice_get (xs ++ x ∷ ys) (length xs) ≡ Some x
at_front [] x ys = refl
at_front (y ∷ xs) x ys = at_front xs x ys

pub take_front : {X : Type 0} (xs ys : List X) → take (length xs) (xs ++ ys) ≡ xs
take_front [] ys = refl
take_front (x ∷ xs) ys = ap (λ l. x ∷ l) (take_front xs ys)

take_within : {X : Type 0} (xs ys : List X) (n : ℕ) → n ≤ length xs → take n (xs ++ ys) ≡ take n xs
take_within [] ys zero low = refl
take_within [] ys (suc n) low = absurd (omega (arith, low))
take_within (x ∷ xs) ys zero low = refl
take_within (x ∷ xs) ys (suc n) low = ap (λ l. x ∷ l) (take_within xs ys n (omega (arith, low)))

pub get_within : {X : Type 0} (xs ys zs : List X) (n : ℕ) → n < length xs → slice_get (xs ++ ys) n ≡ slice_get (xs ++ zs) n
get_within [] ys zs n low = absurd (omega (arith, low))
get_within (x ∷ xs) ys zs zero low = refl
get_within (x ∷ xs) ys zs (suc n) low = get_within xs ys zs n (omega (arith, low))

pub none_is_some : {X : Type 0} (o : Option X) (x : X) → o ≡ None → o ≡ Some x → ⊥
none_is_some {X} o x none some = (let clash : ◌≡◌ {A = Option X} None (Some x) = sym none ∙ some in cc)

pub no_more : {X : Type 0} (x : X) (xs : List X) → x ∷ xs ≡ [] → ⊥
no_more x xs is = cc

-- ---- turns

abbrev pub asked_callee : NextTurn → ℕ
asked_callee (asks callee procedure arguments state) = callee
asked_callee (ends outcome state) = 0

abbrev pub asked_procedure : NextTurn → ℕ
asked_procedure (asks callee procedure arguments state) = procedure
asked_procedure (ends outcome state) = 0

abbrev pub asked_arguments : NextTurn → List ValueTree
asked_arguments (asks callee procedure arguments state) = arguments
asked_arguments (ends outcome state) = []

abbrev pub turned_state : NextTurn → List ValueTree
turned_state (asks callee procedure arguments state) = state
turned_state (ends outcome state) = state

abbrev ended_with : NextTurn → Option Outcome
ended_with (asks callee procedure arguments state) = None
ended_with (ends outcome state) = Some outcome

asks_is_no_end : (callee procedure : ℕ) (arguments state after : List ValueTree) (outcome : Outcome) → asks callee procedure arguments state ≡ ends outcome after → ⊥
asks_is_no_end callee procedure arguments state after outcome is = none_is_some (ended_with (asks callee procedure arguments state)) outcome refl (ap ended_with is)

-- ---- one run

module _ (b : Behaviour) (state : List ValueTree) where
  -- a run has ended, or waits for a reply
  abbrev pub RunIs : RunRecord → Type 0
  RunIs run = HasEnded b state run ⊎ IsOpen b state run

  -- an ask behind others, before these
  pub record AskIs (run : RunRecord) (made : List AskRecord) (ask : AskRecord) (rest : List AskRecord) : Type 0 where
    pub is_made : IsMade b state (start_of run) run.started made ask
    pub next : IsAnswered b (start_of run) made ask ⊎ (IsWaiting (start_of run) made ask × (rest ≡ []))

  pub ask_is : (run : RunRecord) → RunIs run → (made : List AskRecord) (ask : AskRecord) (rest : List AskRecord) → run.asks ≡ made ++ ask ∷ rest → AskIs run made ask rest
  ask_is run (inl e) made ask rest are =
      let so = e.made.asks_so (length made) ask (ap (λ l. slice_get l (length made)) are ∙ at_front made ask rest) in
      let front : take (length made) run.asks ≡ made = ap (take (length made)) are ∙ take_front made (ask ∷ rest) in
      record {
        is_made = subst (λ l. IsMade b state (start_of run) run.started l ask) front so.0;
        next = inl (subst (λ l. IsAnswered b (start_of run) l ask) front so.1);
      }
  ask_is run (inr o) made ask rest are = by_place (old_or_added o.before o.ask (length made) ask (ap (λ l. slice_get l (length made)) (sym o.asks_are ∙ are) ∙ at_front made ask rest))
    where
      front : take (length made) (o.before ++ o.ask ∷ []) ≡ made
      front = ap (take (length made)) (sym o.asks_are ∙ are) ∙ take_front made (ask ∷ rest)

      long : length o.before + 1 ≡ length made + length (ask ∷ rest)
      long = sym (length-append o.before (o.ask ∷ [])) ∙ ap length (sym o.asks_are ∙ are) ∙ length-append made (ask ∷ rest)

      nothing : (l : List AskRecord) → length l ≡ 0 → l ≡ []
      nothing [] is = refl
      nothing (x ∷ l) is = absurd (omega (arith, is))

      by_place : (slice_get o.before (length made) ≡ Some ask) ⊎ ((length made ≡ length o.before) × (o.ask ≡ ask)) → AskIs run made ask rest
      by_place (inl old) =
          let so = o.made.asks_so (length made) ask old in
          let within = slice_get_within o.before (length made) ask old in
          let same : take (length made) o.before ≡ made = sym (take_within o.before (o.ask ∷ []) (length made) (omega (arith, within))) ∙ front in
          record {
            is_made = subst (λ l. IsMade b state (start_of run) run.started l ask) same so.0;
            next = inl (subst (λ l. IsAnswered b (start_of run) l ask) same so.1);
          }
      by_place (inr last) =
          let number = last.0 in
          let same : o.before ≡ made = sym (take_front o.before (o.ask ∷ [])) ∙ ap (λ n. take n (o.before ++ o.ask ∷ [])) (sym number) ∙ front in
          let short : length rest ≡ 0 = omega (arith, long, number) in
          record {
            is_made = subst (IsMade b state (start_of run) run.started made) last.1 (subst (λ l. IsMade b state (start_of run) run.started l o.ask) same o.asking);
            next = inr (subst (IsWaiting (start_of run) made) last.1 (subst (λ l. IsWaiting (start_of run) l o.ask) same o.waits), nothing rest short);
          }

  -- behind its asks a run has ended by their turn, or the last of them waits
  pub none_behind : (run : RunRecord) → RunIs run → (made : List AskRecord) → run.asks ≡ made → (other : RunRecord) → RunIs other → (ask : AskRecord) (rest : List AskRecord) → other.asks ≡ made ++ ask ∷ rest
      → start_of run ≡ start_of other → ⊥
  none_behind run (inl e) made are other is ask rest more same =
      let a = ask_is other is made ask rest more in
      asks_is_no_end ask.callee ask.procedure ask.arguments ask.state e.after e.outcome
      (sym a.is_made.turn ∙ (λ j. turns b state (sym same j) (replies_of (sym are j))) ∙ e.turn)
  none_behind run (inr o) made are other is ask rest more same =
      let before : made ≡ o.before ++ o.ask ∷ [] = sym are ∙ o.asks_are in
      let there : other.asks ≡ o.before ++ o.ask ∷ (ask ∷ rest) = more ∙ ap (λ l. l ++ ask ∷ rest) before ∙ append_assoc o.before (o.ask ∷ []) (ask ∷ rest) in
      let a = ask_is other is o.before o.ask (ask ∷ rest) there in
      elim a.next [
        | inl answered ↦ none_is_some o.ask.reply answered.reply o.waits.no_reply answered.reply_is
        | inr last ↦ no_more ask rest last.1
      ]

  -- how it ends, by its asks
  pub record EndsAs (one other : RunRecord) : Type 0 where
    pub outcome : one.outcome ≡ other.outcome
    pub state_is : one.state ≡ other.state
    pub end : one.end ≡ other.end
    pub ended : one.ended ≡ other.ended

  open_is_not_ended : (one other : RunRecord) → HasEnded b state one → IsOpen b state other → one.asks ≡ other.asks → ⊥
  open_is_not_ended one other e o same =
      let a = (e.made.asks_so (length o.before) o.ask (ap (λ l. slice_get l (length o.before)) (same ∙ o.asks_are) ∙ at_front o.before o.ask [])).1 in
      none_is_some o.ask.reply a.reply o.waits.no_reply a.reply_is

  pub ends_as : (one other : RunRecord) → RunIs one → RunIs other → start_of one ≡ start_of other → one.started ≡ other.started → one.asks ≡ other.asks → EndsAs one other
  ends_as one other (inl e) (inl f) starts started same =
      let turn : ends e.outcome e.after ≡ ends f.outcome f.after = sym e.turn ∙ (λ j. turns b state (starts j) (replies_of (same j))) ∙ f.turn in
      record {
        outcome = e.outcome_is ∙ ap ended_with turn ∙ sym f.outcome_is;
        state_is = e.state_is ∙ ap (λ t. Some (turned_state t)) turn ∙ sym f.state_is;
        end = e.end_is ∙ (λ j. Some (clock_after (starts j).clock (same j))) ∙ sym f.end_is;
        ended = e.ended_is ∙ (λ j. Some (step_after (started j) (same j))) ∙ sym f.ended_is;
      }
  ends_as one other (inr o) (inr q) starts started same =
      record {
        outcome = o.no_outcome ∙ sym q.no_outcome;
        state_is = o.no_state ∙ sym q.no_state;
        end = o.no_end ∙ sym q.no_end;
        ended = o.not_ended ∙ sym q.not_ended;
      }
  ends_as one other (inl e) (inr q) starts started same = absurd (open_is_not_ended one other e q same)
  ends_as one other (inr o) (inl f) starts started same = absurd (open_is_not_ended other one f o (sym same))

-- ---- all runs

module _ (b : Behaviour) (began : List ValueTree) (kept : MemberRecord) where
  pub run_is : IsRecord b began kept → (before rest : List RunRecord) (run : RunRecord) → kept.runs ≡ before ++ run ∷ rest → RunIs b (state_after began before) run
  run_is r before rest run are = elim r.now [
    | inl idle ↦ inl (subst (λ l. HasEnded b (state_after began l) run) front (idle.runs (length before) run there))
    | inr p ↦ by_place p (old_or_added p.before p.run (length before) run (ap (λ l. slice_get l (length before)) (sym p.runs_are) ∙ there))
  ]
    where
      there : slice_get kept.runs (length before) ≡ Some run
      there = ap (λ l. slice_get l (length before)) are ∙ at_front before run rest

      front : take (length before) kept.runs ≡ before
      front = ap (take (length before)) are ∙ take_front before (run ∷ rest)

      by_place : (p : IsPerforming b began kept) → (slice_get p.before (length before) ≡ Some run) ⊎ ((length before ≡ length p.before) × (p.run ≡ run)) → RunIs b (state_after began before) run
      by_place p (inl old) =
          let within = slice_get_within p.before (length before) run old in
          let same : take (length before) p.before ≡ before = sym (take_within p.before (p.run ∷ []) (length before) (omega (arith, within))) ∙ ap (take (length before)) (sym p.runs_are) ∙ front in
          inl (subst (λ l. HasEnded b (state_after began l) run) same (p.runs (length before) run old))
      by_place p (inr last) =
          let number = last.0 in
          let same : p.before ≡ before = sym (take_front p.before (p.run ∷ [])) ∙ ap (λ n. take n (p.before ++ p.run ∷ [])) (sym number) ∙ ap (take (length before)) (sym p.runs_are) ∙ front in
          inr (subst (IsOpen b (state_after began before)) last.1 (subst (λ l. IsOpen b (state_after began l) p.run) same p.waiting))

-- ---- what was given

pub some_of : {A : Type 0} (o : Option A) (x : A) (P : A → Type 0) → o ≡ Some x → IsSomeAnd o P → P x
some_of None x P is holds = absurd holds
some_of (Some y) x P is holds = subst P (same_Some y x is) holds

both_of : {A : Type 0} (o : Option A) (P Q : A → Type 0) → IsSomeAnd o P → IsSomeAnd o Q → (x : A) × P x × Q x
both_of None P Q one other = absurd one
both_of (Some x) P Q one other = (x, one, other)

-- ---- an active member takes no state

module _ (begins : Joiner) (active : is_active begins ≡ true) where
  fetches_not : (j : Joiner) → is_active j ≡ true → is_fetching j ≡ false
  fetches_not phases.Outside is = refl
  fetches_not phases.Asking is = refl
  fetches_not (phases.Fetching incarnation) is = cc
  fetches_not (phases.Active first) is = refl

  stays_active : (p : Past) → is_active (phase begins p) ≡ true
  stays_active booted = active
  stays_active (followed p step comes.Joins) = by_phase (phase begins p) (stays_active p)
    where
      by_phase : (j : Joiner) → is_active j ≡ true → is_active (if is_outside j then phases.Asking else j) ≡ true
      by_phase phases.Outside is = cc
      by_phase phases.Asking is = is
      by_phase (phases.Fetching incarnation) is = is
      by_phase (phases.Active first) is = is
  stays_active (followed p step (comes.Told request table)) = by_phase (is_join request) (phase begins p) (stays_active p)
    where
      by_phase : (t : Bool) (j : Joiner) → is_active j ≡ true → is_active (if t && is_asking j then taken_in table else j) ≡ true
      by_phase true phases.Outside is = is
      by_phase true phases.Asking is = cc
      by_phase true (phases.Fetching incarnation) is = is
      by_phase true (phases.Active first) is = is
      by_phase false j is = is
  stays_active (followed p step (comes.Restored state count)) = by_test (is_fetching (phase begins p)) (stays_active p)
    where
      by_test : (t : Bool) → is_active (phase begins p) ≡ true → is_active (if t then phases.Active count else phase begins p) ≡ true
      by_test true is = refl
      by_test false is = is
  stays_active (followed p step (comes.Asked header body sender)) = stays_active p
  stays_active (followed p step (comes.Fetched incarnation sender)) = stays_active p
  stays_active (followed p step (comes.Replied name from reply)) = stays_active p
  stays_active (followed p step (comes.IsStale name server from incarnation)) = stays_active p
  stays_active (followed p step (comes.IsBefore name from)) = stays_active p
  stays_active (followed p step (comes.Declared node)) = stays_active p

  none_fetched : (p : Past) → snapshot_fetched begins p ≡ None
  none_fetched booted = refl
  none_fetched (followed p step (comes.Restored state count)) =
      ap (λ t. if t then Some (state, count) else snapshot_fetched begins p) (fetches_not (phase begins p) (stays_active p)) ∙ none_fetched p
  none_fetched (followed p step comes.Joins) = none_fetched p
  none_fetched (followed p step (comes.Told request table)) = none_fetched p
  none_fetched (followed p step (comes.Asked header body sender)) = none_fetched p
  none_fetched (followed p step (comes.Fetched incarnation sender)) = none_fetched p
  none_fetched (followed p step (comes.Replied name from reply)) = none_fetched p
  none_fetched (followed p step (comes.IsStale name server from incarnation)) = none_fetched p
  none_fetched (followed p step (comes.IsBefore name from)) = none_fetched p
  none_fetched (followed p step (comes.Declared node)) = none_fetched p

  pub none_given : (p : Past) → first_given (snapshot_fetched begins) p ≡ None
  unfolding first_given
  none_given booted = refl
  none_given (followed p step o) =
      ap (λ x. or_else x (at_end (followed p step o) (snapshot_fetched begins (followed p step o)))) (none_given p) ∙ ap (at_end (followed p step o)) (none_fetched (followed p step o))

-- ---- two records for the same past

-- of a member that stands here, with these views and in this phase at boot, which declares these procedures, of which so many runs
-- were entered at boot, and which became active with this state
module _ (place : Place) (boot : List View) (begins : Joiner) (procedures : List ProcedureShape) (at_boot : ℕ) (b : Behaviour) (began : List ValueTree) (p : Past) where
  pub record IsOne (kept : MemberRecord) : Type 0 where
    pub timely : IsTimely place boot begins procedures at_boot kept p
    pub from_first : first_given (snapshot_fetched begins) p ≡ None → (kept.from ≡ 0) × (kept.active_at ≡ 0)
    pub follows : IsRecord b began kept

  module _ (one other : MemberRecord) (h : IsOne one) (k : IsOne other) where
    -- ---- from which index on

    record Same : Type 0 where
      from : one.from ≡ other.from
      active_at : one.active_at ≡ other.active_at

    from_same : Same
    from_same = by_phase (is_active begins) refl
      where
        by_given : is_active begins ≡ false → (o : Option (ℕ × (List ValueTree × ℕ))) → first_given (snapshot_fetched begins) p ≡ o → Same
        by_given inactive None none =
            record { from = (h.from_first none).0 ∙ sym (k.from_first none).0; active_at = (h.from_first none).1 ∙ sym (k.from_first none).1 }
        by_given inactive (Some g) some =
            let a = h.timely.active inactive g.0 g.1.0 g.1.1 some in
            let c = k.timely.active inactive g.0 g.1.0 g.1.1 some in
            record { from = a.1 ∙ sym c.1; active_at = a.0 ∙ sym c.0 }

        by_phase : (t : Bool) → is_active begins ≡ t → Same
        by_phase true is =
            let none = none_given begins is p in
            record { from = (h.from_first none).0 ∙ sym (k.from_first none).0; active_at = (h.from_first none).1 ∙ sym (k.from_first none).1 }
        by_phase false is = by_given is (first_given (snapshot_fetched begins) p) refl

    from : one.from ≡ other.from
    from = from_same.from

    -- ---- a run may start by the runs before it

    module _ (before rest more : List RunRecord) (are : one.runs ≡ before ++ rest) (is : other.runs ≡ before ++ more) where
      runs_before : (n : ℕ) → n < length before → slice_get one.runs n ≡ slice_get other.runs n
      runs_before n low = ap (λ l. slice_get l n) are ∙ get_within before rest more n low ∙ ap (λ l. slice_get l n) (sym is)

      free_same : (n : ℕ) (q : Past) → n ≤ length before → is_free_for place boot begins one n q ≡ is_free_for place boot begins other n q
      free_same zero q low = refl
      free_same (suc n) q low = ap (λ o. option_map_or (λ (run : RunRecord). has_ended place boot begins run q) o false) (runs_before n (omega (arith, low)))

      start_may : may_start place boot begins one (length before) ≡ may_start place boot begins other (length before)
      start_may = λ j q.
          if is_active (phase begins q) && free_same (length before) q (omega arith) j && nat_le (from j + length before) last_count
          then collated_call place boot begins (from j + length before) q
          else None

      given_same : first_given (may_start place boot begins one (length before)) p ≡ first_given (may_start place boot begins other (length before)) p
      given_same = ap (λ gives. first_given gives p) start_may

    -- ---- no further run

    none_more : (before more : List RunRecord) (run : RunRecord) → one.runs ≡ before → other.runs ≡ before ++ run ∷ more → ⊥
    none_more before more run are is = by_number (cases_lt (length before) at_boot)
      where
        are_so : one.runs ≡ before ++ []
        are_so = are ∙ sym (append-nil before)

        there : slice_get other.runs (length before) ≡ Some run
        there = ap (λ l. slice_get l (length before)) is ∙ at_front before run more

        by_slot : (o : Option RunRecord) → slice_get one.runs (length before) ≡ o → IsSomeAnd o (IsMain place.troupe boot) → ⊥
        by_slot None at holds = holds
        by_slot (Some x) at holds =
            let within = slice_get_within one.runs (length before) x at in let long : length one.runs ≡ length before = ap length are in omega (arith, within, long)

        by_number : (length before < at_boot) ⊎ (at_boot ≤ length before) → ⊥
        by_number (inl low) = by_slot (slice_get one.runs (length before)) refl (h.timely.boots (length before) low)
        by_number (inr high) =
            let long : length one.runs ≡ length before = ap length are in
            let none = subst (λ n. first_given (may_start place boot begins one n) p ≡ None) long (h.timely.no_more (omega (arith, high, long))) in
            let starts = k.timely.starts (length before) run high there in
            subst (λ o. IsSomeAnd o (λ given. (run.started ≡ given.0) × (start_of run ≡ start_by_call place.troupe procedures given.1))) (sym (given_same before [] (run ∷ more) are_so is) ∙ none) starts

  -- ---- a run

  module _ (one other : MemberRecord) (h : IsOne one) (k : IsOne other) where
    module _ (before rest more : List RunRecord) (x y : RunRecord) (are : one.runs ≡ before ++ x ∷ rest) (is : other.runs ≡ before ++ y ∷ more) where
      at_one : slice_get one.runs (length before) ≡ Some x
      at_one = ap (λ l. slice_get l (length before)) are ∙ at_front before x rest

      at_other : slice_get other.runs (length before) ≡ Some y
      at_other = ap (λ l. slice_get l (length before)) is ∙ at_front before y more

      record StartsSame : Type 0 where
        started : x.started ≡ y.started
        start : start_of x ≡ start_of y

      starts_same : StartsSame
      starts_same = by_number (cases_lt (length before) at_boot)
        where
          by_number : (length before < at_boot) ⊎ (at_boot ≤ length before) → StartsSame
          by_number (inl low) =
              let m = some_of (slice_get one.runs (length before)) x (IsMain place.troupe boot) at_one (h.timely.boots (length before) low) in
              let n = some_of (slice_get other.runs (length before)) y (IsMain place.troupe boot) at_other (k.timely.boots (length before) low) in
              record { started = m.0 ∙ sym n.0; start = m.1 ∙ sym n.1 }
          by_number (inr high) =
              let P : ℕ × HeldCall → Type 0 = λ given. (x.started ≡ given.0) × (start_of x ≡ start_by_call place.troupe procedures given.1) in
              let Q : ℕ × HeldCall → Type 0 = λ given. (y.started ≡ given.0) × (start_of y ≡ start_by_call place.troupe procedures given.1) in
              let both = both_of (first_given (may_start place boot begins other (length before)) p) P Q
              (subst (λ o. IsSomeAnd o P) (given_same one other h k before (x ∷ rest) (y ∷ more) are is) (h.timely.starts (length before) x high at_one)) (k.timely.starts (length before) y high at_other) in
              record { started = both.1.0 ∙ sym both.2.0; start = both.1.1 ∙ sym both.2.1 }

      abbrev state : List ValueTree
      state = state_after began before

      x_is : HasEnded b state x ⊎ IsOpen b state x
      x_is = run_is b began one h.follows before rest x are

      y_is : HasEnded b state y ⊎ IsOpen b state y
      y_is = run_is b began other k.follows before more y is

      -- ---- its asks

      module _ (made : List AskRecord) (c e : AskRecord) (cs es : List AskRecord) (c_there : x.asks ≡ made ++ c ∷ cs) (e_there : y.asks ≡ made ++ e ∷ es) where
        ca : AskIs b state x made c cs
        ca = ask_is b state x x_is made c cs c_there

        ea : AskIs b state y made e es
        ea = ask_is b state y y_is made e es e_there

        turn : asks c.callee c.procedure c.arguments c.state ≡ asks e.callee e.procedure e.arguments e.state
        turn = sym ca.is_made.turn ∙ (λ j. turns b state (starts_same.start j) (replies_of made)) ∙ ea.is_made.turn

        callee : c.callee ≡ e.callee
        callee = ap asked_callee turn

        index : c.index ≡ e.index
        index = ca.is_made.index ∙ (λ j. slice_index (clock_after (starts_same.start j).clock made) (callee j)) ∙ sym ea.is_made.index

        asked : c.asked ≡ e.asked
        asked = ca.is_made.asked ∙ (λ j. step_after (starts_same.started j) made) ∙ sym ea.is_made.asked

        record AnsweredSame : Type 0 where
          reply : c.reply ≡ e.reply
          after : c.after ≡ e.after
          answered : c.answered ≡ e.answered

        -- at once, by a thread that is spent
        refused : (run : RunRecord) (a : AskRecord) (behind : List AskRecord) → AskIs b state run made a behind → is_spent (clock_after (start_of run).clock made) ≡ true
            → (a.reply ≡ Some refusal) × (a.after ≡ Some (clock_after (start_of run).clock made)) × (a.answered ≡ Some a.asked)
        refused run a behind ask spent = by_next ask.next
          where
            by_next : (IsAnswered b (start_of run) made a ⊎ (IsWaiting (start_of run) made a × (behind ≡ []))) → (a.reply ≡ Some refusal) × (a.after ≡ Some (clock_after (start_of run).clock made)) × (a.answered ≡ Some a.asked)
            by_next (inl answered) =
                let r = answered.refused spent in
                (answered.reply_is ∙ ap (λ v. Some v) r.0, answered.after_is ∙ ap (λ v. Some v) r.1, answered.answered_is ∙ ap (λ v. Some v) r.2)
            by_next (inr waits) = absurd (let clash : true ≡ false = sym spent ∙ waits.0.calls_left in cc)

        answers_may : may_answer place boot begins (name_of place boot begins procedures at_boot one p (length before) (length made)) c ≡ may_answer place boot begins (name_of place boot begins procedures at_boot other p (length before) (length made)) e
        answers_may = λ j q.
            if nat_le (asked j) (now q)
            then option_and_then
            (λ (view : View). given_value (replies_to (asked j) (let n : AskName = record { run = from one other h k j + length before; ask = length made } in n) q)
            (collate reply_eq (expected_nodes view (index j)) (nodes_declared_down q) (replies_to (asked j) (let n : AskName = record { run = from one other h k j + length before; ask = length made } in n) q) place.replies))
            (slice_get (views_known boot q) (callee j))
            else None

        shows : (o : Option (ℕ × Reply)) → ShowsAnswer c o → ShowsAnswer e o → AnsweredSame
        shows None v w = record { reply = v.1 ∙ sym w.1; after = v.2 ∙ sym w.2; answered = v.0 ∙ sym w.0 }
        shows (Some given) v w = record { reply = v.1 ∙ sym w.1; after = v.2 ∙ sym w.2; answered = v.0 ∙ sym w.0 }

        answered_same : AnsweredSame
        answered_same = by_spent (is_spent (clock_after x.entry made)) refl
          where
            clocks : clock_after x.entry made ≡ clock_after y.entry made
            clocks = λ j. clock_after (starts_same.start j).clock made

            by_spent : (t : Bool) → is_spent (clock_after x.entry made) ≡ t → AnsweredSame
            by_spent true spent =
                let v = refused x c cs ca spent in
                let w = refused y e es ea (sym (ap is_spent clocks) ∙ spent) in
                record { reply = v.0 ∙ sym w.0; after = v.1 ∙ ap (λ l. Some l) clocks ∙ sym w.1; answered = v.2 ∙ ap (λ n. Some n) asked ∙ sym w.2 }
            by_spent false left =
                let c_left = (λ j. is_spent (clock_after x.entry (front_of_asks x c cs c_there j))) ∙ left in
                let e_left = (λ j. is_spent (clock_after y.entry (front_of_asks y e es e_there j))) ∙ sym (ap is_spent clocks) ∙ left in
                shows (first_given (may_answer place boot begins (name_of place boot begins procedures at_boot other p (length before) (length made)) e) p)
                (subst (ShowsAnswer c) (ap (λ gives. first_given gives p) answers_may) (h.timely.answers (length before) (length made) x c at_one (there x c cs c_there) c_left))
                (k.timely.answers (length before) (length made) y e at_other (there y e es e_there) e_left)
              where
                front_of_asks : (run : RunRecord) (a : AskRecord) (behind : List AskRecord) → run.asks ≡ made ++ a ∷ behind → take (length made) run.asks ≡ made
                front_of_asks run a behind at = ap (take (length made)) at ∙ take_front made (a ∷ behind)

                there : (run : RunRecord) (a : AskRecord) (behind : List AskRecord) → run.asks ≡ made ++ a ∷ behind → slice_get run.asks (length made) ≡ Some a
                there run a behind at = ap (λ l. slice_get l (length made)) at ∙ at_front made a behind

        ask_same : c ≡ e
        ask_same = λ j. record {
          callee = callee j;
          index = index j;
          procedure = ap asked_procedure turn j;
          arguments = ap asked_arguments turn j;
          state = ap turned_state turn j;
          reply = answered_same.reply j;
          after = answered_same.after j;
          asked = asked j;
          answered = answered_same.answered j;
        }

      asks_same : (made cs es : List AskRecord) → x.asks ≡ made ++ cs → y.asks ≡ made ++ es → cs ≡ es
      asks_same made [] [] c_there e_there = refl
      asks_same made [] (e ∷ es) c_there e_there = absurd (none_behind b state x x_is made (c_there ∙ append-nil made) y y_is e es e_there starts_same.start)
      asks_same made (c ∷ cs) [] c_there e_there = absurd (none_behind b state y y_is made (e_there ∙ append-nil made) x x_is c cs c_there (sym starts_same.start))
      asks_same made (c ∷ cs) (e ∷ es) c_there e_there =
          let same = ask_same made c e cs es c_there e_there in
          let rest_same = asks_same (made ++ c ∷ []) cs es (c_there ∙ sym (append_assoc made (c ∷ []) cs)) (e_there ∙ (λ j. made ++ sym same j ∷ es) ∙ sym (append_assoc made (c ∷ []) es)) in
          λ j. same j ∷ rest_same j

      run_same : x ≡ y
      run_same =
          let s = starts_same in
          let all = asks_same [] x.asks y.asks refl refl in
          let e = ends_as b state x y x_is y_is s.start s.started all in
          λ j. record {
            path = (s.start j).path;
            root = (s.start j).root;
            procedure = (s.start j).procedure;
            arguments = (s.start j).arguments;
            entry = (s.start j).clock;
            asks = all j;
            outcome = e.outcome j;
            state = e.state_is j;
            end = e.end j;
            started = s.started j;
            ended = e.ended j;
          }

    -- ---- all runs

    runs_same : (before xs ys : List RunRecord) → one.runs ≡ before ++ xs → other.runs ≡ before ++ ys → xs ≡ ys
    runs_same before [] [] are is = refl
    runs_same before [] (y ∷ ys) are is = absurd (none_more one other h k before ys y (are ∙ append-nil before) is)
    runs_same before (x ∷ xs) [] are is = absurd (none_more other one k h before xs x (is ∙ append-nil before) are)
    runs_same before (x ∷ xs) (y ∷ ys) are is =
        let same = run_same before xs ys x y are is in
        let rest = runs_same (before ++ x ∷ []) xs ys (are ∙ sym (append_assoc before (x ∷ []) xs)) (is ∙ (λ j. before ++ sym same j ∷ ys) ∙ sym (append_assoc before (x ∷ []) ys)) in
        λ j. same j ∷ rest j

    all_runs : one.runs ≡ other.runs
    all_runs = runs_same [] one.runs other.runs refl refl

  -- an idle member performs no run
  idle_or_not : (one other : MemberRecord) → IsIdle b began one → IsPerforming b began other → one.runs ≡ other.runs → ⊥
  idle_or_not one other i q same =
      let are : one.runs ≡ q.before ++ q.run ∷ [] = same ∙ q.runs_are in
      let there = ap (λ l. slice_get l (length q.before)) are ∙ at_front q.before q.run [] in
      let front : take (length q.before) one.runs ≡ q.before = ap (take (length q.before)) are ∙ take_front q.before (q.run ∷ []) in
      open_is_not_ended b (state_after began q.before) q.run q.run (subst (λ l. HasEnded b (state_after began l) q.run) front (i.runs (length q.before) q.run there)) q.waiting refl

  module _ (one other : MemberRecord) (h : IsOne one) (k : IsOne other) where
    record RestsSame : Type 0 where
      count : one.count ≡ other.count
      state_is : one.state ≡ other.state

    runs_are : one.runs ≡ other.runs
    runs_are = all_runs one other h k

    rests_same : RestsSame
    rests_same = by_now h.follows.now k.follows.now
      where
        by_now : (IsIdle b began one ⊎ IsPerforming b began one) → (IsIdle b began other ⊎ IsPerforming b began other) → RestsSame
        by_now (inl i) (inl q) =
            record {
              count = i.count ∙ (λ j. count_after (from one other h k j) (length (runs_are j))) ∙ sym q.count;
              state_is = i.state ∙ (λ j. state_after began (runs_are j)) ∙ sym q.state;
            }
        by_now (inl i) (inr q) = absurd (idle_or_not one other i q runs_are)
        by_now (inr i) (inl q) = absurd (idle_or_not other one q i (sym runs_are))
        by_now (inr i) (inr q) =
            let first_long = ap length i.runs_are ∙ length-append i.before (i.run ∷ []) in
            let second_long = ap length q.runs_are ∙ length-append q.before (q.run ∷ []) in
            let all_long = ap length runs_are in
            let long : length i.before ≡ length q.before = omega (arith, first_long, second_long, all_long) in
            let run : i.run ≡ q.run = same_Some i.run q.run (sym (ap last_of i.runs_are ∙ last_more i.before i.run) ∙ ap last_of runs_are ∙ ap last_of q.runs_are ∙ last_more q.before q.run) in
            let ask : i.waiting.ask ≡ q.waiting.ask =
            same_Some i.waiting.ask q.waiting.ask
            (sym (ap last_of i.waiting.asks_are ∙ last_more i.waiting.before i.waiting.ask) ∙ ap (λ (r : RunRecord). last_of r.asks) run ∙ ap last_of q.waiting.asks_are ∙ last_more q.waiting.before q.waiting.ask) in
            record {
              count = i.count ∙ (λ j. count_after (from one other h k j) (long j)) ∙ sym q.count;
              state_is = i.state ∙ ap (λ (a : AskRecord). a.state) ask ∙ sym q.state;
            }

    pub one_record : one ≡ other
    one_record = λ j. record {
      phase = (h.timely.phase_is ∙ sym k.timely.phase_is) j;
      from = from one other h k j;
      active_at = (from_same one other h k).active_at j;
      count = rests_same.count j;
      runs = runs_are j;
      state = rests_same.state_is j;
    }

-- ---- node runs

pub there_is_one_record : (d : Deployment) (b : Behaviour) (node number : ℕ) (troupe : Troupe) (one other : Trace) (kept last : MemberRecord) → IsNodeRun d b node number troupe one kept → IsNodeRun d b node number troupe other last
    → past_of d b node number troupe kept one ≡ past_of d b node number troupe last other → kept ≡ last
there_is_one_record d b node number troupe one other kept last h k same =
    one_record place boot begins b.declared.procedures at_boot b state p kept last
    (record { timely = h.timely; from_first = h.from_first; follows = h.follows })
    (subst IsOneBy (sym same) (record { timely = k.timely; from_first = k.from_first; follows = k.follows }))
  where
    place : Place
    place = (home_in d node number troupe).place

    boot : List View
    boot = boot_views d.troupes

    begins : Joiner
    begins = phase_at_boot (beginning_in troupe node)

    at_boot : ℕ
    at_boot = runs_at_boot d b node number troupe

    p : Past
    p = past_of d b node number troupe kept one

    state : List ValueTree
    state = began begins b.first p

    IsOneBy : Past → Type 0
    IsOneBy q = IsOne place boot begins b.declared.procedures at_boot b (began begins b.first q) q last
