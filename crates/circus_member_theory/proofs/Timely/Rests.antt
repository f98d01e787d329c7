-- A member at rest behind a past: its record is timely, and what happens next finds it so.
use Rattle.std.proofs.Common.{◌≡◌, ℕ, ◌+◌, ◌<◌, ◌≤◌, nat_eq, Bool, true, false, if◌then◌else◌, List, [], ◌∷◌, ◌++◌, length, Option, None, Some, inl, inr, refl, ap, sym, subst, ◌∙◌, arith}
use Rattle.std.specs.Prelude.{IsSomeAnd, IfSome, slice_get, option_and_then}
use Rattle.std.specs.Map.{lookup}
use Rattle.std.proofs.lemmas.Bool.{le-leb, leb-true}
use Rattle.circus_value.specs.ValueTree.{ValueTree}
use Rattle.circus_value.specs.declared.outcome.Outcome.{Outcome}
use Rattle.circus_header.specs.declared.answer.Reply.{Reply}
use Rattle.circus_collate.specs.declared.view.View.{View}
use Rattle.circus_transfer.specs.declared.joiner.Joiner.{Joiner}
use Rattle.circus_model.specs.declared.signature.Signature.{Signature}
use Rattle.circus_model.specs.NextTurn.{NextTurn}
use Rattle.circus_model.specs.Behaviour.{IsModule}
use Rattle.circus_model.proofs.Lookups.{within}
use Rattle.circus_record.specs.declared.record.AskRecord.{AskRecord}
use Rattle.circus_record.specs.declared.record.RunRecord.{RunRecord}
use Rattle.circus_record.specs.declared.record.MemberRecord.{MemberRecord}
use Rattle.circus_fanout.specs.Knowing.{is_newer}
use Rattle.circus_gather.specs.declared.held.HeldCall.{HeldCall}
use Rattle.circus_gather.specs.Gathering.{Gathered, answer_to, is_held, with_first}
use Rattle.circus_fanout.specs.Asking.{Asking}
use Rattle.circus_performing.specs.Performing.{is_active, is_fetching, last_of, open_ask, last_count, made_active, taken_in}
use Rattle.circus_performing.specs.Record.{start_of, behaviour}
use Rattle.circus_performing.proofs.Records.{none_is_some, fetching_is_inactive}
use Rattle.circus_member_rules.specs.declared.place.Place.{Place}
use Rattle.circus_member_rules.specs.declared.occurrence.AskName.{AskName}
use Rattle.circus_member_rules.specs.declared.occurrence.Occurrence.{Occurrence}
use Rattle.circus_member_rules.specs.declared.occurrence.Occurrence.TheVariants as comes
use Rattle.circus_member_rules.specs.OpenAsks.{asking_of}
use Rattle.circus_member_rules.specs.Rules.{index_of_last, value_of_ask, stays_open, with_new_view, active_call, before_answers}
use Rattle.circus_member_rules.specs.MemberState.{MemberState, Doing}
use Rattle.circus_member_rules.specs.Step.{name_of_last, is_join, known_by_table, start_by_call, value_of_open, handle, keep_ask_open, look_up, waits}
use Rattle.circus_member_rules.specs.GoneOn.{HasGoneOn}
use Rattle.circus_member_rules.proofs.Held.{called_same}
use Rattle.circus_member_rules.proofs.Resting.{waiting_stays}
use Rattle.circus_member_rules.proofs.Starting.{IsSoundNow}
use Rattle.circus_member_theory.specs.Ranges.{InRange}
use Rattle.circus_member_theory.proofs.Resting.{same_handled}
use Rattle.circus_member_theory.specs.Past.{Past, followed, now, Rises, phase}
use Rattle.circus_member_theory.specs.First.{first_given}
use Rattle.circus_member_theory.specs.Timely.{ShowsAnswer, may_answer, IsTimely}
use Rattle.circus_member_theory.proofs.Timely.Firsts.{earlier, none_yet, given_before}
use Rattle.circus_member_theory.proofs.Timely.Runs.{named, ended_by, may_by, kept_of, IsStillWaiting, IsInTime, RunSo, RunsSo}
use Rattle.circus_member_theory.proofs.Timely.Replies.{IsWaitingBy, value_is, waits_same, waits_replied, waits_stale, waits_before, waits_seen, waits_left}
use Rattle.circus_member_theory.proofs.Timely.Known.{ActiveSo, knows_handled, holds_handled, way_handled, inactive_none}
use Rattle.circus_member_theory.proofs.Timely.Open.{open_only, name_is}
use Rattle.circus_member_theory.proofs.Timely.Turned.{IsWaiting, Goes}
use Rattle.circus_member_theory.proofs.Timely.Going.{none_may}

-- what has ended by the end of a past has by the end of a longer one
ended_still : (p q : Past) (ended : Option ℕ) → now p ≤ now q → ended_by ended p ≡ true → ended_by ended q ≡ true
ended_still p q None later is = is
ended_still p q (Some step) later is = let before = leb-true step (now p) is in le-leb step (now q) (omega (arith, before, later))

some_more : {X : Type 0} (P : X → Type 0) (o later : Option X) → ((x : X) → o ≡ Some x → later ≡ Some x) → IsSomeAnd o P → IsSomeAnd later P
some_more P None later same h = absurd h
some_more P (Some x) later same h = subst (λ o. IsSomeAnd o P) (sym (same x refl)) h

module _ {M : Type 0} (declared : M → Signature) (turn : M → List ValueTree → ℕ → List ValueTree → List Outcome → NextTurn) (first : M → List ValueTree)
    (lawful : (hosted : M) → IsModule (behaviour declared turn first hosted)) (place : Place) (boot : List View) (begins : Joiner) (hosted : M) (at_boot : ℕ) where
  abbrev pub GoesBy : Past → MemberState M → Type 0
  GoesBy p m = Goes declared turn first lawful place boot begins hosted at_boot p m

  -- nothing more may start, and what waits may not be answered
  pub record IsAtRest (p : Past) (m : MemberState M) : Type 0 where
    pub goes : GoesBy p m
    pub no_more : may_by place boot begins m.performing.kept.from m.performing.kept.runs (length m.performing.kept.runs) p ≡ None
    pub no_answer : (number n : ℕ) (run : RunRecord) (ask : AskRecord) → slice_get m.performing.kept.runs number ≡ Some run → slice_get run.asks n ≡ Some ask
        → IsStillWaiting place boot begins p (named m.performing.kept.from number n) ask → may_answer place boot begins (named m.performing.kept.from number n) ask p ≡ None

  -- ---- the record is timely

  pub timely_at_rest : (p : Past) (m : MemberState M) → IsAtRest p m → IsTimely place boot begins (declared hosted).procedures at_boot m.performing.kept p
  timely_at_rest p m h =
      let kept = m.performing.kept in
      record {
        boots = λ number below.
            let enough = h.goes.well.enough in
            let here = within kept.runs number (omega (arith, enough, below)) in
            rw here.1 ((h.goes.well.runs number here.0 here.1).boots below);
        starts = λ number run is there. (h.goes.well.runs number run there).starts is;
        no_more = λ _. none_yet (may_by place boot begins kept.from kept.runs (length kept.runs)) p h.goes.well.next h.no_more;
        answers = λ number n run ask there at left. by_sum number n run ask there at ((h.goes.well.runs number run there).answers n ask at left);
        phase_is = h.goes.well.way.phase_is;
        active = λ _ step state count given. let a : ActiveSo kept (Some (step, (state, count))) = subst (ActiveSo kept) given h.goes.well.way.active in (a.1, a.2);
      }
    where
      by_sum : (number n : ℕ) (run : RunRecord) (ask : AskRecord) → slice_get m.performing.kept.runs number ≡ Some run → slice_get run.asks n ≡ Some ask
          → IsInTime place boot begins p (named m.performing.kept.from number n) ask
          → ShowsAnswer ask (first_given (may_answer place boot begins (named m.performing.kept.from number n) ask) p)
      by_sum number n run ask there at (inl shows) = shows
      by_sum number n run ask there at (inr waits) =
          let none = none_yet (may_answer place boot begins (named m.performing.kept.from number n) ask) p waits.nothing (h.no_answer number n run ask there at waits) in
          subst (ShowsAnswer ask) (sym none) (waits.not_answered, waits.no_reply, waits.no_clock)

  -- ---- a member that has gone on is at rest

  pub rest_by_going : (p : Past) → Rises p → (m : MemberState M) → IsSoundNow declared turn first lawful m → GoesBy p m → HasGoneOn m → IsAtRest p m
  rest_by_going p rises m sound h gone =
      record {
        goes = h;
        no_more = none_may declared turn first lawful place boot begins hosted at_boot p rises m sound h gone.none_starts;
        no_answer = λ number n run ask there at waits.
            let kept = m.performing.kept in
            let b = behaviour declared turn first m.performing.hosted in
            let o = open_only b m.performing.began kept number n run ask sound.kept there at waits.no_reply in
            let few = h.well.few in
            let number_is = o.number_is in
            let some = within_runs kept.runs number run there in
            let name = name_is kept number n run o.last o.number_is o.place_is (omega (arith, few, some)) in
            let w : IsWaiting declared turn first lawful place boot begins hosted at_boot p m.asks kept ask =
            subst (λ x. IfSome x (IsWaiting declared turn first lawful place boot begins hosted at_boot p m.asks kept)) o.is_open h.waiting in
            let by_name : value_of_open m ≡ value_of_ask m.known w.waits.asking =
            ap (λ x. option_and_then (λ (y : AskRecord). option_and_then (value_of_ask m.known) (asking_of m.asks (name_of_last kept))) x) o.is_open
            ∙ ap (option_and_then (value_of_ask m.known)) w.waits.there in
            ap (λ x. may_answer place boot begins x ask p) (sym name)
            ∙ sym (value_is place boot begins m.known p (name_of_last kept) ask w.waits.asking h.well.views_are h.well.gone_are w.waits.so w.asked) ∙ sym by_name ∙ gone.no_value;
      }
    where
      within_runs : (runs : List RunRecord) (number : ℕ) (run : RunRecord) → slice_get runs number ≡ Some run → 0 < length runs
      within_runs [] number run there = absurd (none_is_some there)
      within_runs (r ∷ rs) number run there = omega arith

  -- ---- the end of a step

  -- asks are closed, and views looked up
  pub goes_closed : (p : Past) (d : Doing M) → GoesBy p d.member → GoesBy p (look_up (keep_ask_open d)).member
  goes_closed p d h = record { well = h.well; replied = h.replied; waiting = by_ask (open_ask d.member.performing.kept) refl h.waiting }
    where
      by_ask : (o : Option AskRecord) → open_ask d.member.performing.kept ≡ o
          → IfSome o (IsWaiting declared turn first lawful place boot begins hosted at_boot p d.member.asks d.member.performing.kept)
          → IfSome o (IsWaiting declared turn first lawful place boot begins hosted at_boot p (look_up (keep_ask_open d)).member.asks d.member.performing.kept)
      by_ask None is w = tt
      by_ask (Some ask) is w =
          let m = d.member in
          let kept = m.performing.kept in
          let left = waits_left place boot begins p (stays_open m.known (waits kept)) m.asks (name_of_last kept) ask
          (λ e here. rw (waiting_stays kept ask e.0 is here) refl) w.waits in
          record { asked = w.asked; waits = left }

  -- ---- something happens

  -- what is true of runs and replies
  record AreSo (p : Past) (from : ℕ) (runs : List RunRecord) (replies : List (ℕ × Reply)) : Type 0 where
    pub unreplied : (index : ℕ) → from + length runs ≤ index → lookup (nat_eq index) replies ≡ None
    pub enough : at_boot ≤ length runs
    pub runs_so : RunsSo place boot begins (declared hosted).procedures at_boot p from runs
    pub next : earlier (may_by place boot begins from runs (length runs)) p ≡ None
    pub few : from + length runs ≤ last_count + 1
    pub ended : open_ask (kept_of from runs) ≡ None → (run : RunRecord) → last_of runs ≡ Some run → ended_by run.ended p ≡ true
    pub replied : open_ask (kept_of from runs) ≡ None → (run : RunRecord) → last_of runs ≡ Some run
        → (reply : Reply) × (lookup (nat_eq (index_of_last (kept_of from runs))) replies ≡ Some reply)

  module _ (p : Past) (step : ℕ) (o : Occurrence) (rises : Rises (followed p step o)) where
    abbrev later : Past
    later = followed p step o

    run_still : (from : ℕ) (runs : List RunRecord) (number : ℕ) (run : RunRecord)
        → ((n : ℕ) (ask : AskRecord) → slice_get run.asks n ≡ Some ask → IsStillWaiting place boot begins p (named from number n) ask → may_answer place boot begins
        (named from number n) ask p ≡ None)
        → RunSo place boot begins (declared hosted).procedures at_boot p from runs number run
        → RunSo place boot begins (declared hosted).procedures at_boot later from runs number run
    run_still from runs number run none h =
        record {
          boots = h.boots;
          starts = λ is.
              some_more (λ (given : ℕ × HeldCall). (run.started ≡ given.0) × (start_of run ≡ start_by_call place.troupe (declared hosted).procedures given.1))
              (first_given (may_by place boot begins from runs number) p) (first_given (may_by place boot begins from runs number) later)
              (λ given some. given_before (may_by place boot begins from runs number) later given some) (h.starts is);
          answers = λ n ask there left. by_sum n ask there (h.answers n ask there left);
        }
      where
        by_first : (n : ℕ) (ask : AskRecord) (o : Option (ℕ × Reply)) → first_given (may_answer place boot begins (named from number n) ask) p ≡ o → ShowsAnswer ask o
            → IsInTime place boot begins later (named from number n) ask
        by_first n ask None none shows = inr (record { not_answered = shows.0; no_reply = shows.1; no_clock = shows.2; nothing = none })
        by_first n ask (Some given) some shows = inl (subst (ShowsAnswer ask) (sym (given_before (may_answer place boot begins (named from number n) ask) later given some)) shows)

        by_sum : (n : ℕ) (ask : AskRecord) → slice_get run.asks n ≡ Some ask → IsInTime place boot begins p (named from number n) ask
            → IsInTime place boot begins later (named from number n) ask
        by_sum n ask there (inl shows) = by_first n ask (first_given (may_answer place boot begins (named from number n) ask) p) refl shows
        by_sum n ask there (inr w) =
            inr (record {
              not_answered = w.not_answered;
              no_reply = w.no_reply;
              no_clock = w.no_clock;
              nothing = none_yet (may_answer place boot begins (named from number n) ask) p w.nothing (none n ask there w);
            })

    are_still : (m : MemberState M) → IsAtRest p m → AreSo later m.performing.kept.from m.performing.kept.runs m.gathered.replies
    are_still m h =
        let kept = m.performing.kept in
        let w = h.goes.well in
        record {
          unreplied = w.unreplied;
          enough = w.enough;
          runs_so = λ number run there. run_still kept.from kept.runs number run (λ n ask at. h.no_answer number n run ask there at) (w.runs number run there);
          next = none_yet (may_by place boot begins kept.from kept.runs (length kept.runs)) p w.next h.no_more;
          few = w.few;
          ended = λ none run last. ended_still p later run.ended (omega (arith, rises.1)) (w.ended none run last);
          replied = h.goes.replied;
        }

    -- a member that becomes active has performed nothing, and might not
    are_none : (m : MemberState M) (count : ℕ) → IsAtRest p m → is_active m.performing.kept.phase ≡ false → m.performing.kept.runs ≡ [] → count ≤ last_count
        → AreSo later count [] m.gathered.replies
    are_none m count h outside none few =
        let kept = m.performing.kept in
        let w = h.goes.well in
        let outside_so : is_active (phase begins p) ≡ false = ap is_active (sym w.way.phase_is) ∙ outside in
        let from : kept.from ≡ 0 = w.way.outside outside in
        let enough = w.enough in
        let no_runs : length kept.runs ≡ 0 = ap (λ (rs : List RunRecord). length rs) none in
        record {
          unreplied = λ index below. w.unreplied index (omega (arith, from, no_runs));
          enough = omega (arith, enough, no_runs);
          runs_so = λ number run there. absurd (none_is_some there);
          next = inactive_none begins (may_by place boot begins count [] 0) (λ q out. rw out refl) p outside_so;
          few = omega (arith, few);
          ended = λ _ run last. absurd (none_is_some last);
          replied = λ _ run last. absurd (none_is_some last);
        }

  so_handled : (q : Past) (step : ℕ) (o : Occurrence) (m : MemberState M) → InRange o → AreSo q m.performing.kept.from m.performing.kept.runs m.gathered.replies
      → ((count : ℕ) → count ≤ last_count → is_fetching m.performing.kept.phase ≡ true → AreSo q count m.performing.kept.runs m.gathered.replies)
      → let n = (handle step o m).member in AreSo q n.performing.kept.from n.performing.kept.runs n.gathered.replies
  so_handled q step (comes.Asked header body sender) m within h active =
      let call : HeldCall = record { header = header; body = body; sender = sender } in
      subst (λ replies. AreSo q m.performing.kept.from m.performing.kept.runs replies) (sym (called_same m.gathered call).1) h
  so_handled q step (comes.Fetched incarnation sender) m within h active = h
  so_handled q step (comes.Replied name from reply) m within h active = h
  so_handled q step (comes.IsStale name server from incarnation) m within h active = h
  so_handled q step (comes.IsBefore name from) m within h active = h
  so_handled q step (comes.Told request table) m within h active = by_test (is_join request)
    where
      by_test : (t : Bool) → let kept : MemberRecord = if t then taken_in table m.performing.kept else m.performing.kept in AreSo q kept.from kept.runs m.gathered.replies
      by_test true = h
      by_test false = h
  so_handled q step (comes.Restored state count) m within h active = by_test (is_fetching m.performing.kept.phase) refl
    where
      by_test : (t : Bool) → is_fetching m.performing.kept.phase ≡ t → let d : Doing M = if t then record {
        member = record m { performing = made_active step state count m.performing; gathered = with_first m.gathered count };
        effects = active_call m.place m.known count ++ before_answers m.gathered count;
      } else record { member = m; effects = [] } in AreSo q d.member.performing.kept.from d.member.performing.kept.runs d.member.gathered.replies
      by_test true is = active count within is
      by_test false is = h
  so_handled q step (comes.Declared node) m within h active = h
  so_handled q step comes.Joins m within h active = h

  from_handled : (step : ℕ) (o : Occurrence) (m : MemberState M) → m.gathered.from ≡ m.performing.kept.from
      → let n = (handle step o m).member in n.gathered.from ≡ n.performing.kept.from
  from_handled step (comes.Asked header body sender) m is = by_test (is_held (answer_to m.gathered header))
    where
      by_test : (t : Bool) → let g : Gathered = if t then record m.gathered { held = m.gathered.held ++ record { header = header; body = body; sender = sender } ∷ [] }
          else m.gathered in
          g.from ≡ m.performing.kept.from
      by_test true = is
      by_test false = is
  from_handled step (comes.Fetched incarnation sender) m is = is
  from_handled step (comes.Replied name from reply) m is = is
  from_handled step (comes.IsStale name server from incarnation) m is = is
  from_handled step (comes.IsBefore name from) m is = is
  from_handled step (comes.Told request table) m is = by_test (is_join request)
    where
      by_test : (t : Bool) → let kept : MemberRecord = if t then taken_in table m.performing.kept else m.performing.kept in m.gathered.from ≡ kept.from
      by_test true = is
      by_test false = is
  from_handled step (comes.Restored state count) m is = by_test (is_fetching m.performing.kept.phase)
    where
      by_test : (t : Bool) → let d : Doing M = if t then record {
        member = record m { performing = made_active step state count m.performing; gathered = with_first m.gathered count };
        effects = active_call m.place m.known count ++ before_answers m.gathered count;
      } else record { member = m; effects = [] } in d.member.gathered.from ≡ d.member.performing.kept.from
      by_test true = refl
      by_test false = is
  from_handled step (comes.Declared node) m is = is
  from_handled step comes.Joins m is = is

  -- the ask that waits
  module _ (p : Past) (step : ℕ) (before : now p < step) where
    abbrev Waiting : Past → List (AskName × Asking) → MemberRecord → AskRecord → Type 0
    Waiting q asks kept ask = IsWaiting declared turn first lawful place boot begins hosted at_boot q asks kept ask

    still_waits : (o : Occurrence) (asks more : List (AskName × Asking)) (kept then_kept : MemberRecord) → open_ask then_kept ≡ open_ask kept
        → name_of_last then_kept ≡ name_of_last kept
        → ((name : AskName) (ask : AskRecord) → ask.asked < step → IsWaitingBy place boot begins p asks name ask → IsWaitingBy place boot begins (followed p step o) more name ask)
        → IfSome (open_ask kept) (Waiting p asks kept) → IfSome (open_ask then_kept) (Waiting (followed p step o) more then_kept)
    still_waits o asks more kept then_kept same name keeps h = subst (λ x. IfSome x (Waiting (followed p step o) more then_kept)) (sym same) (by_ask (open_ask kept) h)
      where
        by_ask : (x : Option AskRecord) → IfSome x (Waiting p asks kept) → IfSome x (Waiting (followed p step o) more then_kept)
        by_ask None w = tt
        by_ask (Some ask) w =
            let asked = w.asked in
            record {
              asked = omega (arith, asked, before);
              waits = subst (λ n. IsWaitingBy place boot begins (followed p step o) more n ask) (sym name) (keeps (name_of_last kept) ask (omega (arith, asked, before)) w.waits);
            }

    waiting_handled : (o : Occurrence) (m : MemberState M) → (is_active m.performing.kept.phase ≡ false → m.performing.kept.runs ≡ [])
        → IfSome (open_ask m.performing.kept) (Waiting p m.asks m.performing.kept)
        → let n = (handle step o m).member in IfSome (open_ask n.performing.kept) (Waiting (followed p step o) n.asks n.performing.kept)
    waiting_handled (comes.Asked header body sender) m none h =
        let o = comes.Asked header body sender in
        still_waits o m.asks m.asks m.performing.kept m.performing.kept refl refl (λ name ask asked w. waits_same place boot begins p (followed p step o) m.asks name ask refl w) h
    waiting_handled (comes.Fetched incarnation sender) m none h =
        let o = comes.Fetched incarnation sender in
        still_waits o m.asks m.asks m.performing.kept m.performing.kept refl refl (λ name ask asked w. waits_same place boot begins p (followed p step o) m.asks name ask refl w) h
    waiting_handled (comes.Replied other from reply) m none h =
        let o = comes.Replied other from reply in
        still_waits o m.asks (handle step o m).member.asks m.performing.kept m.performing.kept refl refl
        (λ name ask asked w. waits_replied place boot begins p step m.asks name other ask from reply asked w) h
    waiting_handled (comes.IsStale other server from incarnation) m none h =
        let o = comes.IsStale other server from incarnation in
        still_waits o m.asks (handle step o m).member.asks m.performing.kept m.performing.kept refl refl
        (λ name ask asked w. waits_stale place boot begins p step m.known m.asks name other ask server from incarnation w) h
    waiting_handled (comes.IsBefore other from) m none h =
        let o = comes.IsBefore other from in
        still_waits o m.asks (handle step o m).member.asks m.performing.kept m.performing.kept refl refl
        (λ name ask asked w. waits_before place boot begins p step m.asks name other ask from w) h
    waiting_handled (comes.Told request table) m none h = by_join (is_join request)
      where
        by_newer : (t : Bool) (name : AskName) (ask : AskRecord) → IsWaitingBy place boot begins p m.asks name ask
            → IsWaitingBy place boot begins (followed p step (comes.Told request table)) (if t then with_new_view (known_by_table m.known request table.view) table.view m.asks
            else m.asks) name ask
        by_newer true name ask w = waits_seen place boot begins p (followed p step (comes.Told request table))
            (known_by_table m.known request table.view) table.view m.asks name ask refl w
        by_newer false name ask w = waits_same place boot begins p (followed p step (comes.Told request table)) m.asks name ask refl w

        by_join : (t : Bool) → let kept : MemberRecord = if t then taken_in table m.performing.kept else m.performing.kept in
            IfSome (open_ask kept) (Waiting (followed p step (comes.Told request table)) (handle step (comes.Told request table) m).member.asks kept)
        by_join true =
            still_waits (comes.Told request table) m.asks (handle step (comes.Told request table) m).member.asks m.performing.kept (taken_in table m.performing.kept) refl refl
            (λ name ask asked w. by_newer (is_newer m.known table.view) name ask w) h
        by_join false =
            still_waits (comes.Told request table) m.asks (handle step (comes.Told request table) m).member.asks m.performing.kept m.performing.kept refl refl
            (λ name ask asked w. by_newer (is_newer m.known table.view) name ask w) h
    waiting_handled (comes.Restored state count) m none h = by_test (is_fetching m.performing.kept.phase) refl
      where
        o : Occurrence
        o = comes.Restored state count

        by_test : (t : Bool) → is_fetching m.performing.kept.phase ≡ t → let d : Doing M = if t then record {
          member = record m { performing = made_active step state count m.performing; gathered = with_first m.gathered count };
          effects = active_call m.place m.known count ++ before_answers m.gathered count;
        } else record { member = m; effects = [] } in IfSome (open_ask d.member.performing.kept) (Waiting (followed p step o) d.member.asks d.member.performing.kept)
        by_test true is =
            let kept = (made_active step state count m.performing).kept in
            let idle : open_ask kept ≡ None = ap (λ (rs : List RunRecord). open_ask (record kept { runs = rs })) (none (fetching_is_inactive m.performing.kept.phase is)) in
            subst (λ x. IfSome x (Waiting (followed p step o) m.asks kept)) (sym idle) tt
        by_test false is =
            still_waits o m.asks m.asks m.performing.kept m.performing.kept refl refl (λ name ask asked w. waits_same place boot begins p (followed p step o) m.asks name ask refl w) h
    waiting_handled (comes.Declared node) m none h =
        let o = comes.Declared node in
        still_waits o m.asks m.asks m.performing.kept m.performing.kept refl refl (λ name ask asked w. waits_same place boot begins p (followed p step o) m.asks name ask refl w) h
    waiting_handled comes.Joins m none h =
        still_waits comes.Joins m.asks m.asks m.performing.kept (handle step comes.Joins m).member.performing.kept refl refl
        (λ name ask asked w. waits_same place boot begins p (followed p step comes.Joins) m.asks name ask refl w) h

  -- what happens to a member at rest finds all in time
  pub goes_handled : (p : Past) (step : ℕ) (o : Occurrence) (m : MemberState M) → Rises (followed p step o) → IsSoundNow declared turn first lawful m → IsAtRest p m → InRange o
      → GoesBy (followed p step o) (handle step o m).member
  goes_handled p step o m rises sound h within =
      let kept = m.performing.kept in
      let w = h.goes.well in
      let same = same_handled step o m in
      let knows = knows_handled boot begins p step o m (record { views = w.views_are; gone = w.gone_are }) in
      let so = so_handled (followed p step o) step o m within (are_still p step o rises m h)
      (λ count few fetching.
      let outside = fetching_is_inactive kept.phase fetching in
      let none = sound.kept.inactive outside in
      subst (λ rs. AreSo (followed p step o) count rs m.gathered.replies) (sym none) (are_none p step o rises m count h outside none few)) in
      record {
        well = record {
          place_is = same.place ∙ w.place_is;
          hosted_is = same.hosted ∙ w.hosted_is;
          views_are = knows.views;
          gone_are = knows.gone;
          holds = holds_handled boot begins p step o m w.from_is w.way.outside w.holds;
          from_is = from_handled step o m w.from_is;
          unreplied = so.unreplied;
          way = way_handled boot begins p step o m within w.way;
          enough = so.enough;
          runs = so.runs_so;
          next = so.next;
          few = so.few;
          ended = so.ended;
        };
        replied = so.replied;
        waiting = waiting_handled p step rises.1 o m sound.kept.inactive h.goes.waiting;
      }
