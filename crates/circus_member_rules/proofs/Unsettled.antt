-- What a step leaves unsettled: the asks that it doesn't concern.
use Rattle.std.proofs.Common.{◌≡◌, ℕ, zero, suc, Bool, true, false, not, ◌&&◌, true≢false, if◌then◌else◌, List, [], ◌++◌, length, All, Option, Some, None, refl, sym, subst, ap, ◌∙◌}
use Rattle.std.specs.Prelude.{◌||◌, is_some, slice_get, option_map}
use Rattle.std.specs.Option.{option_map_or}
use Rattle.std.proofs.lemmas.List.Elements.{All-weaker}
use Rattle.circus_value.specs.ValueTree.{ValueTree}
use Rattle.circus_value.specs.declared.outcome.Outcome.{Outcome}
use Rattle.circus_header.specs.declared.call.CallHeader.{CallHeader}
use Rattle.circus_header.specs.declared.answer.Reply.{Reply}
use Rattle.circus_collate.specs.declared.view.View.{View}
use Rattle.circus_model.specs.declared.signature.Signature.{Signature}
use Rattle.circus_model.specs.NextTurn.{NextTurn}
use Rattle.circus_record.specs.declared.record.AskRecord.{AskRecord}
use Rattle.circus_record.specs.declared.record.RunRecord.{RunRecord}
use Rattle.circus_record.specs.declared.record.MemberRecord.{MemberRecord}
use Rattle.circus_fanout.specs.Knowing.{Knowing}
use Rattle.circus_gather.specs.declared.added.Added.{Added}
use Rattle.circus_gather.specs.declared.added.Added.TheVariants as added
use Rattle.circus_gather.specs.declared.held.HeldCall.{HeldCall}
use Rattle.circus_gather.specs.Gathering.{answer_to, with_start, with_first}
use Rattle.circus_fanout.specs.Asking.{Asking, all_settled, with_view, with_reply, with_before}
use Rattle.circus_performing.specs.declared.start.RunStart.{RunStart}
use Rattle.circus_performing.specs.Performing.{open_ask, last_of, is_active, is_fetching, made_active}
use Rattle.circus_performing.specs.Performing as performing
use Rattle.circus_performing.proofs.Records.{none_is_some}
use Rattle.circus_member_rules.specs.declared.closing.Concern.{Concern}
use Rattle.circus_member_rules.specs.declared.closing.Concern.TheVariants as concern
use Rattle.circus_member_rules.specs.declared.occurrence.AskName.{AskName}
use Rattle.circus_member_rules.specs.declared.occurrence.Occurrence.{Occurrence}
use Rattle.circus_member_rules.specs.declared.occurrence.Occurrence.TheVariants as comes
use Rattle.circus_member_rules.specs.OpenAsks.{is_name, is_waiting, with_asking}
use Rattle.circus_member_rules.specs.MemberState.{MemberState, Doing, add_effects}
use Rattle.circus_member_rules.specs.Rules.{is_settled, stays_open, wanted_by_call, after_stale, active_call, before_answers, snapshots_owed}
use Rattle.circus_member_rules.specs.Step.{name_of_last, asking_begun, waits, is_idle, start_by_call, next_start, value_of_open, given_states, opened_by_view, opened_ask, ended_run, after_turns, with_record, answered_by, answered_open, enter_run_of, start_runs, execute, handle, keep_ask_open}
use Rattle.circus_member_rules.specs.Seen.Closing.{concern_of, closed_by}
use Rattle.circus_member_rules.specs.Seen.Sound.{AreNamed}
use Rattle.circus_member_rules.proofs.Named.{All-opened_at, All-changed_at}
use Rattle.circus_member_rules.proofs.Homes.{called_views}
use Rattle.circus_member_rules.proofs.Starting.{and_right, none_from_test}
use Rattle.circus_member_rules.proofs.Enough.{next_is_idle}
use Rattle.circus_member_rules.proofs.Resting.{waiting_stays}
use Rattle.circus_member_rules.proofs.Concerned.{all_of, is_concerned, close_by_same}

or_right : (a b : Bool) → (a || b) ≡ false → b ≡ false
or_right true b is = cc
or_right false b is = is

or_true : (a : Bool) → (a || true) ≡ true
or_true true = refl
or_true false = refl

-- ---- where the views and the nodes that are down are the same

settled_same : (k later : Knowing) (a : Asking) → later.views ≡ k.views → later.down ≡ k.down → is_settled later a ≡ is_settled k a
settled_same k later a views down =
    ap (λ (vs : List View). option_map_or (λ (view : View). all_settled view later.down a) (slice_get vs a.header.server) false) views
    ∙ ap (λ (ns : List ℕ). option_map_or (λ (view : View). all_settled view ns a) (slice_get k.views a.header.server) false) down

called_down : (a : Added) (header : CallHeader) (k : Knowing) → (wanted_by_call a header k).down ≡ k.down
called_down (added.Reply reply) header k = refl
called_down (added.Stale required) header k = refl
called_down (added.Before first) header k = refl
called_down added.Held header k = refl

-- `left` are the names of asks that may be closed
module _ (left : AskName → Bool) where
  -- each other ask is unsettled
  abbrev pub AreUnsettled : Knowing → List (AskName × Asking) → Type 0
  AreUnsettled k asks = All (λ (e : AskName × Asking). left e.0 ≡ false → is_settled k e.1 ≡ false) asks

  unsettled_same : (k later : Knowing) (asks : List (AskName × Asking)) → later.views ≡ k.views → later.down ≡ k.down → AreUnsettled k asks → AreUnsettled later asks
  unsettled_same k later asks views down all =
      All-weaker (λ (e : AskName × Asking). left e.0 ≡ false → is_settled k e.1 ≡ false) (λ (e : AskName × Asking). left e.0 ≡ false → is_settled later e.1 ≡ false) (λ e h other. settled_same k later e.1 views down ∙ h other) asks all

  module _ {M : Type 0} where
    -- each other stays open
    abbrev pub StayOpen : MemberState M → Type 0
    StayOpen m = All (λ (e : AskName × Asking). left e.0 ≡ false → stays_open m.known (waits m.performing.kept) e ≡ true) m.asks

    -- and is unsettled, where the member waits for none
    pub record AreLeft (m : MemberState M) : Type 0 where
      pub stay : StayOpen m
      pub unsettled : open_ask m.performing.kept ≡ None → AreUnsettled m.known m.asks

    unsettled_stays : (m : MemberState M) (e : AskName × Asking) → is_settled m.known e.1 ≡ false → stays_open m.known (waits m.performing.kept) e ≡ true
    unsettled_stays m e is = rw is (or_true (waits m.performing.kept e.0))

    pub are_left : (m : MemberState M) → AreUnsettled m.known m.asks → AreLeft m
    are_left m all =
        record {
          stay = All-weaker (λ (e : AskName × Asking). left e.0 ≡ false → is_settled m.known e.1 ≡ false) (λ (e : AskName × Asking). left e.0 ≡ false → stays_open m.known (waits m.performing.kept) e ≡ true) (λ e h other. unsettled_stays m e (h other)) m.asks all;
          unsettled = λ none. all;
        }

    -- ---- behind turns

    opened_left : (d : Doing M) (ask : AskRecord) (a : Asking) (view : View) → open_ask d.member.performing.kept ≡ Some ask → AreUnsettled d.member.known d.member.asks → AreLeft (opened_by_view d (name_of_last d.member.performing.kept) a view).member
    opened_left d ask a view is all =
        let m = d.member in
        let kept = m.performing.kept in
        let name = name_of_last kept in
        let sent = with_view view m.known.down a in
        let P : AskName × Asking → Type 0 = λ e. left e.0 ≡ false → stays_open m.known (waits kept) e ≡ true in
        record {
          stay = All-opened_at P m.asks name sent (λ n here other. rw (waiting_stays kept ask n is here) refl) (are_left m all).stay;
          unsettled = λ none. absurd (none_is_some (sym none ∙ is));
        }

    after_left : (d : Doing M) → AreUnsettled d.member.known d.member.asks → AreLeft (after_turns d).member
    after_left d all = by_run (last_of d.member.performing.kept.runs)
      where
        by_view : (run : RunRecord) (ask : AskRecord) → open_ask d.member.performing.kept ≡ Some ask → (o : Option View) → let e = option_map_or (opened_by_view d (name_of_last d.member.performing.kept) (asking_begun d.member.place d.member.performing.kept run ask)) o d in AreLeft e.member
        by_view run ask is None = are_left d.member all
        by_view run ask is (Some view) = opened_left d ask (asking_begun d.member.place d.member.performing.kept run ask) view is all

        by_ask : (run : RunRecord) (o : Option AskRecord) → open_ask d.member.performing.kept ≡ o → let e = option_map_or (opened_ask d run) o (ended_run d run) in AreLeft e.member
        by_ask run None none = are_left (ended_run d run).member all
        by_ask run (Some ask) is = by_view run ask is (slice_get d.member.known.views ask.callee)

        by_run : (o : Option RunRecord) → let e = option_map_or (λ (run : RunRecord). option_map_or (opened_ask d run) (open_ask d.member.performing.kept) (ended_run d run)) o d in AreLeft e.member
        by_run None = are_left d.member all
        by_run (Some run) = by_ask run (open_ask d.member.performing.kept) refl

    given_left : (d : Doing M) → AreLeft d.member → AreLeft (given_states d).member
    given_left d h = by_test (is_idle d.member.performing.kept)
      where
        by_test : (t : Bool) → let e = if t then add_effects (record d { member = record d.member { requests = [] } }) (snapshots_owed d.member.performing.kept d.member.requests) else d in AreLeft e.member
        by_test true = record { stay = h.stay; unsettled = h.unsettled }
        by_test false = h

    -- ---- the execution

    module _ (declared : M → Signature) (turn : M → List ValueTree → ℕ → List ValueTree → List Outcome → NextTurn) (at : ℕ) where
      answered_left : (d : Doing M) → AreUnsettled d.member.known d.member.asks → AreLeft (answered_open turn at d).member
      answered_left d all = by_value (value_of_open d.member)
        where
          by_value : (o : Option Reply) → let e = option_map_or (answered_by turn at d) o d in AreLeft e.member
          by_value None = are_left d.member all
          by_value (Some reply) =
              let p = d.member.performing in
              after_left (with_record d (performing.answer_open_ask (turn p.hosted) p.began at reply.outcome reply.clock p.kept)) all

      pub entered_left : (d : Doing M) (start : RunStart) → AreUnsettled d.member.known d.member.asks → AreLeft (enter_run_of turn at d start).member
      entered_left d start all =
          let m = d.member in
          let p = m.performing in
          after_left (with_record (record d { member = record m { gathered = with_start m.gathered p.kept.count } }) (performing.enter_run (turn p.hosted) at start p.kept)) all

      starting_left : (more : ℕ) (d : Doing M) → AreLeft d.member → AreLeft (start_runs declared turn at more d).member
      unfolding start_runs
      starting_left zero d h = given_left d h
      starting_left (suc more) d h = by_given (starting_left more) (given_states d) (given_left d h)
        where
          by_call : ((f : Doing M) → AreLeft f.member → AreLeft (start_runs declared turn at more f).member) → (e : Doing M) → AreLeft e.member → (o : Option HeldCall) → next_start e.member ≡ o → let f = option_map_or (λ call. start_runs declared turn at more (enter_run_of turn at e (start_by_call e.member.place.troupe (declared e.member.performing.hosted).procedures call))) o e in AreLeft f.member
          by_call rest e g None none = g
          by_call rest e g (Some call) some =
              let idle = next_is_idle e.member call some in
              let none = none_from_test (open_ask e.member.performing.kept) (and_right (is_active e.member.performing.kept.phase) _ idle) in
              let start = start_by_call e.member.place.troupe (declared e.member.performing.hosted).procedures call in
              rest (enter_run_of turn at e start) (entered_left e start (g.unsettled none))

          by_given : ((f : Doing M) → AreLeft f.member → AreLeft (start_runs declared turn at more f).member) → (e : Doing M) → AreLeft e.member → let f = option_map_or (λ call. start_runs declared turn at more (enter_run_of turn at e (start_by_call e.member.place.troupe (declared e.member.performing.hosted).procedures call))) (next_start e.member) e in AreLeft f.member
          by_given rest e g = by_call rest e g (next_start e.member) refl

      pub executed_left : (d : Doing M) → AreUnsettled d.member.known d.member.asks → AreLeft (execute declared turn at d).member
      executed_left d all =
          let e = answered_open turn at d in
          starting_left (length e.member.gathered.held) e (answered_left d all)

-- ---- what happens

-- the ask that waited for its value
abbrev pub waited_by : {M : Type 0} → MemberState M → Option AskName
waited_by m = option_map (λ _. name_of_last m.performing.kept) (open_ask m.performing.kept)

-- which is the one that waits
pub waits_as : (kept : MemberRecord) → is_waiting (option_map (λ _. name_of_last kept) (open_ask kept)) ≡ waits kept
waits_as kept = by_ask (open_ask kept)
  where
    by_ask : (o : Option AskRecord) → is_waiting (option_map (λ _. name_of_last kept) o) ≡ (λ name. is_some o && is_name (name_of_last kept) name)
    by_ask None = refl
    by_ask (Some ask) = refl

other_waits_not : (c : Concern) (waited : Option AskName) (name : AskName) → is_concerned c waited name ≡ false → is_waiting waited name ≡ false
other_waits_not (concern.One one) waited name other = or_right (is_name one name) _ other
other_waits_not concern.Nothing waited name other = other
other_waits_not concern.Each waited name other = absurd (true≢false other)

module _ {M : Type 0} (m : MemberState M) (rest : All (λ (e : AskName × Asking). stays_open m.known (waits m.performing.kept) e ≡ true) m.asks) where
  -- at rest each other ask is unsettled
  rest_unsettled : (c : Concern) → AreUnsettled (is_concerned c (waited_by m)) m.known m.asks
  rest_unsettled c =
      All-weaker (λ (e : AskName × Asking). stays_open m.known (waits m.performing.kept) e ≡ true) (λ (e : AskName × Asking). is_concerned c (waited_by m) e.0 ≡ false → is_settled m.known e.1 ≡ false) unsettled m.asks rest
    where
      no : (w s : Bool) → w ≡ false → (w || not s) ≡ true → s ≡ false
      no true s w is = absurd (true≢false w)
      no false true w is = cc
      no false false w is = refl

      unsettled : (e : AskName × Asking) → stays_open m.known (waits m.performing.kept) e ≡ true → is_concerned c (waited_by m) e.0 ≡ false → is_settled m.known e.1 ≡ false
      unsettled e stays other =
          let waiting : is_waiting (waited_by m) e.0 ≡ false = other_waits_not c (waited_by m) e.0 other in
          let w : waits m.performing.kept e.0 ≡ false = subst (λ (f : AskName → Bool). f e.0 ≡ false) (waits_as m.performing.kept) waiting in
          no (waits m.performing.kept e.0) (is_settled m.known e.1) w stays

  -- an ask of the name that is concerned may be changed
  changed_unsettled : (name : AskName) (change : Asking → Asking) → AreUnsettled (is_concerned (concern.One name) (waited_by m)) m.known (with_asking name change m.asks)
  changed_unsettled name change =
      let left = is_concerned (concern.One name) (waited_by m) in
      All-changed_at (λ (e : AskName × Asking). left e.0 ≡ false → is_settled m.known e.1 ≡ false) name change m.asks (λ a is n here other. absurd (true≢false (sym (rw here refl) ∙ other))) (rest_unsettled (concern.One name))

  pub handled_unsettled : (at : ℕ) (o : Occurrence) → let d = handle at o m in AreUnsettled (is_concerned (concern_of o) (waited_by m)) d.member.known d.member.asks
  handled_unsettled at (comes.Asked header body sender) =
      let a = answer_to m.gathered header in
      unsettled_same (is_concerned concern.Nothing (waited_by m)) m.known (wanted_by_call a header m.known) m.asks (called_views a header m.known) (called_down a header m.known) (rest_unsettled concern.Nothing)
  handled_unsettled at (comes.Fetched incarnation sender) = rest_unsettled concern.Nothing
  handled_unsettled at (comes.Replied name from reply) = changed_unsettled name (with_reply from reply)
  handled_unsettled at (comes.IsStale name server from incarnation) = changed_unsettled name (after_stale m.known from incarnation)
  handled_unsettled at (comes.IsBefore name from) = changed_unsettled name (with_before from)
  handled_unsettled at (comes.Told request table) =
      let d = handle at (comes.Told request table) m in
      all_of (λ (e : AskName × Asking). true ≡ false → is_settled d.member.known e.1 ≡ false) d.member.asks (λ e each. absurd (true≢false each))
  handled_unsettled at (comes.Restored state count) = by_test (is_fetching m.performing.kept.phase)
    where
      by_test : (t : Bool) → let d : Doing M = if t then record { member = record m { performing = made_active at state count m.performing; gathered = with_first m.gathered count }; effects = active_call m.place m.known count ++ before_answers m.gathered count } else record { member = m; effects = [] } in AreUnsettled (is_concerned concern.Nothing (waited_by m)) d.member.known d.member.asks
      by_test true = rest_unsettled concern.Nothing
      by_test false = rest_unsettled concern.Nothing
  handled_unsettled at (comes.Declared node) =
      let d = handle at (comes.Declared node) m in
      all_of (λ (e : AskName × Asking). true ≡ false → is_settled d.member.known e.1 ≡ false) d.member.asks (λ e each. absurd (true≢false each))
  handled_unsettled at comes.Joins = rest_unsettled concern.Nothing

  -- ---- the end of a step

  pub closed_same : (declared : M → Signature) (turn : M → List ValueTree → ℕ → List ValueTree → List Outcome → NextTurn) (at : ℕ) (o : Occurrence) → let d = execute declared turn at (handle at o m) in AreNamed d.member.asks → closed_by (concern_of o) (waited_by m) d ≡ keep_ask_open d
  closed_same declared turn at o named =
      let d = execute declared turn at (handle at o m) in
      let left = executed_left (is_concerned (concern_of o) (waited_by m)) declared turn at (handle at o m) (handled_unsettled at o) in
      let same = close_by_same d.member.known (waits d.member.performing.kept) (concern_of o) (waited_by m) d.member.asks named left.stay in
      ap (λ (asks : List (AskName × Asking)). let e : Doing M = record d { member = record d.member { asks = asks } } in e) same
