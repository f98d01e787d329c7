-- Where what is kept of the calls in is that of a past, what comes then makes the returns that are owed at once, and leaves what is kept in the step.
use Rattle.std.proofs.Common.{◌≡◌, ℕ, ◌<◌, ◌≤◌, Bool, true, false, true≢false, ◌&&◌, ◌||◌, not, if◌then◌else◌, List, [], ◌∷◌, ◌++◌, filter, All, Option, Some, None, refl, sym, ap, ◌∙◌, arith, append-nil}
use Rattle.std.specs.Prelude.{nat_eq, nat_lt, max, is_none, option_map}
use Rattle.std.specs.List.{flat_map}
use Rattle.std.specs.Map.{lookup}
use Rattle.std.specs.Option.{option_map_or}
use Rattle.std.proofs.lemmas.Bool.{le-ltb, eq-eqb, ne_eqb}
use Rattle.std.proofs.lemmas.List.{map-append}
use Rattle.std.proofs.lemmas.List.Concat.{flat_map-append}
use Rattle.std.proofs.lemmas.List.Elements.{All-weaker, All-filter, filter_passes, filter-append}
use Rattle.circus_value.specs.ValueTree.{ValueTree}
use Rattle.circus_value.specs.declared.caller.Caller.{Caller}
use Rattle.circus_header.specs.declared.call.CallHeader.{CallHeader}
use Rattle.circus_header.specs.declared.answer.Reply.{Reply}
use Rattle.circus_collate.specs.declared.view.View.{View}
use Rattle.circus_transfer.specs.declared.joiner.Joiner.{Joiner}
use Rattle.circus_transfer.specs.declared.joiner.Joiner.TheVariants.{Outside, Asking, Fetching, Active}
use Rattle.circus_record.specs.declared.record.MemberRecord.{MemberRecord}
use Rattle.circus_gather.specs.Gathering as gathering
use Rattle.circus_gather.specs.Gathering.{Gathered, index_of, reply_of, answer_to, is_held, with_first}
use Rattle.circus_gather.specs.declared.added.Added.{Added}
use Rattle.circus_gather.specs.declared.added.Added.TheVariants as added
use Rattle.circus_gather.specs.declared.held.HeldCall.{HeldCall}
use Rattle.circus_performing.specs.Performing.{is_fetching, made_active}
use Rattle.circus_member_rules.specs.declared.place.Place.{Place}
use Rattle.circus_member_rules.specs.declared.occurrence.Effect.{Effect}
use Rattle.circus_member_rules.specs.declared.occurrence.Occurrence.{Occurrence}
use Rattle.circus_member_rules.specs.declared.occurrence.Occurrence.TheVariants as comes
use Rattle.circus_member_rules.specs.Messages.{reply_message, stale_message, before_message}
use Rattle.circus_member_rules.specs.MemberState.{MemberState, Doing}
use Rattle.circus_member_rules.specs.Rules.{answer, answers, message_at_once, active_call, before_answers}
use Rattle.circus_member_rules.specs.Step.{handle, is_join}
use Rattle.circus_member_theory.specs.Past.{Past, followed, now, Rises, required_incarnation, phase, is_outside, is_asking, is_done}
use Rattle.circus_member_theory.specs.Made.{asks}
use Rattle.circus_member_theory.specs.Order.{returns_at_once}
use Rattle.circus_member_theory.specs.Requests as requests
use Rattle.circus_member_theory.specs.Returns.{first_of, was_started, is_stale, is_before, reply_by, return_at, return_owed}
use Rattle.circus_member_theory.proofs.Timely.Firsts.{none_now}
use Rattle.circus_dues.specs.Calls.{NoneBetween, is_open, is_index, reply_if, calls_of, ask_in, unreturned, IsKeptOf, return_if, IsKeptAmid, gathered_by, returns_by}
use Rattle.circus_headline_theory.proofs.Owed.AtOnce.{Sorts, sorts, at_once, held_now, answered_now}
use Rattle.circus_headline_theory.proofs.Owed.Distinct.{All-zip}
use Rattle.circus_headline_theory.proofs.Owed.Handling.{due}
use Rattle.circus_headline_theory.proofs.Owed.Passing.{same_passing, passing_through, same_flat, flat_through, answers_to}
use Rattle.circus_dues.proofs.CallsAmid.{CameBy, asks_by, at_once_are}
use Rattle.circus_dues.proofs.CallsGiven.{message_to}
use Rattle.circus_dues.proofs.CallsRuns.{reply_by_is, open_started, started_is_open}

-- ---- what comes is sorted

-- the run that is open stays so, whatever comes
pub same_open : (begins : Joiner) (p : Past) (o : Occurrence) (g : Gathered) → (gathered_by begins p o g).open_run ≡ g.open_run
same_open begins p (comes.Asked header body sender) g = by_test (is_held (answer_to g header))
  where
    call : HeldCall
    call = record { header = header; body = body; sender = sender }

    by_test : (b : Bool) → (if b then record g { held = g.held ++ call ∷ [] } else g).open_run ≡ g.open_run
    by_test true = refl
    by_test false = refl
same_open begins p (comes.Fetched incarnation sender) g = refl
same_open begins p (comes.Replied name from reply) g = refl
same_open begins p (comes.IsStale name server from incarnation) g = refl
same_open begins p (comes.IsBefore name from) g = refl
same_open begins p (comes.Told request table) g = refl
same_open begins p (comes.Restored state count) g = by_test (is_fetching (phase begins p))
  where
    by_test : (b : Bool) → (if b then with_first g count else g).open_run ≡ g.open_run
    by_test true = refl
    by_test false = refl
same_open begins p (comes.Declared node) g = refl
same_open begins p comes.Joins g = refl

-- the greatest incarnation is that of the requests
same_required : (begins : Joiner) (p : Past) (step : ℕ) (o : Occurrence) (g : Gathered) → g.required ≡ required_incarnation p → (gathered_by begins p o g).required ≡ required_incarnation (followed p step o)
same_required begins p step (comes.Asked header body sender) g same = by_test (is_held (answer_to g header)) ∙ same
  where
    call : HeldCall
    call = record { header = header; body = body; sender = sender }

    by_test : (b : Bool) → (if b then record g { held = g.held ++ call ∷ [] } else g).required ≡ g.required
    by_test true = refl
    by_test false = refl
same_required begins p step (comes.Fetched incarnation sender) g same = ap (λ n. max n incarnation) same
same_required begins p step (comes.Replied name from reply) g same = same
same_required begins p step (comes.IsStale name server from incarnation) g same = same
same_required begins p step (comes.IsBefore name from) g same = same
same_required begins p step (comes.Told request table) g same = same
same_required begins p step (comes.Restored state count) g same = by_test (is_fetching (phase begins p)) ∙ same
  where
    by_test : (b : Bool) → (if b then with_first g count else g).required ≡ g.required
    by_test true = refl
    by_test false = refl
same_required begins p step (comes.Declared node) g same = same
same_required begins p step comes.Joins g same = same

-- the first index is that of the phase
same_first : (begins : Joiner) (p : Past) (step : ℕ) (o : Occurrence) (g : Gathered) → g.from ≡ first_of (phase begins p) → (gathered_by begins p o g).from ≡ first_of (phase begins (followed p step o))
same_first begins p step (comes.Asked header body sender) g same = by_test (is_held (answer_to g header)) ∙ same
  where
    call : HeldCall
    call = record { header = header; body = body; sender = sender }

    by_test : (b : Bool) → (if b then record g { held = g.held ++ call ∷ [] } else g).from ≡ g.from
    by_test true = refl
    by_test false = refl
same_first begins p step (comes.Fetched incarnation sender) g same = same
same_first begins p step (comes.Replied name from reply) g same = same
same_first begins p step (comes.IsStale name server from incarnation) g same = same
same_first begins p step (comes.IsBefore name from) g same = same
same_first begins p step (comes.Told request table) g same = same ∙ by_phase (is_join request) (phase begins p) (is_done table.result)
  where
    by_phase : (join : Bool) (j : Joiner) (done : Bool) → first_of j ≡ first_of (if join && is_asking j then (if done then Fetching table.view.incarnation else Outside) else j)
    by_phase true Outside done = refl
    by_phase true Asking true = refl
    by_phase true Asking false = refl
    by_phase true (Fetching incarnation) done = refl
    by_phase true (Active first) done = refl
    by_phase false j done = refl
same_first begins p step (comes.Restored state count) g same = by_test (is_fetching (phase begins p))
  where
    by_test : (b : Bool) → (if b then with_first g count else g).from ≡ first_of (if b then Active count else phase begins p)
    by_test true = refl
    by_test false = same
same_first begins p step (comes.Declared node) g same = same
same_first begins p step comes.Joins g same = same ∙ by_phase (phase begins p)
  where
    by_phase : (j : Joiner) → first_of j ≡ first_of (if is_outside j then Asking else j)
    by_phase Outside = refl
    by_phase Asking = refl
    by_phase (Fetching incarnation) = refl
    by_phase (Active first) = refl

-- a member of which only this is kept
abbrev bare : Place → Joiner → MemberRecord → Past → Gathered → MemberState (Unit {0})
bare place begins kept p g = record {
  place = place;
  known = record { views = []; down = []; wants = [] };
  gathered = g;
  performing = record { hosted = tt; began = []; kept = record kept { phase = phase begins p } };
  asks = [];
  requests = [];
}

module _ (place : Place) (begins : Joiner) (kept : MemberRecord) (p : Past) (g : Gathered) where
  abbrev m : MemberState (Unit {0})
  m = bare place begins kept p g

  handled_is : (step : ℕ) (o : Occurrence) → (handle step o m).member.gathered ≡ gathered_by begins p o g
  handled_is step (comes.Asked header body sender) = refl
  handled_is step (comes.Fetched incarnation sender) = refl
  handled_is step (comes.Replied name from reply) = refl
  handled_is step (comes.IsStale name server from incarnation) = refl
  handled_is step (comes.IsBefore name from) = refl
  handled_is step (comes.Told request table) = refl
  handled_is step (comes.Restored state count) = by_test (is_fetching (phase begins p))
    where
      by_test : (b : Bool) → let d : Doing (Unit {0}) = if b then record {
        member = record m { performing = made_active step state count m.performing; gathered = with_first m.gathered count };
        effects = active_call m.place m.known count ++ before_answers m.gathered count;
      } else record { member = m; effects = [] } in d.member.gathered ≡ (if b then with_first g count else g)
      by_test true = refl
      by_test false = refl
  handled_is step (comes.Declared node) = refl
  handled_is step comes.Joins = refl

  returns_are : (o : Occurrence) → at_once m o ≡ returns_by begins p o g
  returns_are (comes.Asked header body sender) = refl
  returns_are (comes.Fetched incarnation sender) = refl
  returns_are (comes.Replied name from reply) = refl
  returns_are (comes.IsStale name server from incarnation) = refl
  returns_are (comes.IsBefore name from) = refl
  returns_are (comes.Told request table) = refl
  returns_are (comes.Restored state count) = refl
  returns_are (comes.Declared node) = refl
  returns_are comes.Joins = refl

-- ---- a call gets nothing at the end of a past

-- where none of the cases applies
quiet : (late stale before : Bool) (one two : List ℕ) (reply : Option (List ℕ)) → late ≡ false → (if late then None else if stale then Some one else if before then Some two else reply) ≡ None
    → (stale ≡ false) × (before ≡ false) × (reply ≡ None)
quiet true stale before one two reply low is = absurd (true≢false low)
quiet false true before one two reply low is = cc
quiet false false true one two reply low is = cc
quiet false false false one two reply low is = (refl, refl, is)

no_reply : (o : Option Reply) → option_map reply_message o ≡ None → o ≡ None
no_reply None is = refl
no_reply (Some r) is = cc

not_stale : (below late started opens : Bool) → (below && (late || not started)) ≡ false → (started ≡ true → opens ≡ true) → (below && not opens) ≡ false
not_stale false late started opens is so = refl
not_stale true true started opens is so = absurd (true≢false is)
not_stale true false true opens is so = ap not (so refl)
not_stale true false false opens is so = absurd (true≢false is)

is_nothing : {A : Type 0} (o : Option A) → is_none o ≡ true → o ≡ None
is_nothing None is = refl
is_nothing (Some a) is = absurd (true≢false (sym is))

module _ (place : Place) (begins : Joiner) (kept : MemberRecord) (p : Past) (step : ℕ) (later : now p < step) (g : Gathered) (h : IsKeptOf place.troupe begins kept p g) where
  -- ---- the call that comes

  at_once_by : (s b : Bool) (one two : ℕ) (r : Option Reply) → message_at_once (if s then added.Stale one else if b then added.Before two else option_map_or added.Reply r added.Held)
      ≡ (if s then Some (stale_message one) else if b then Some (before_message two) else option_map reply_message r)
  at_once_by true b one two r = refl
  at_once_by false true one two r = refl
  at_once_by false false one two None = refl
  at_once_by false false one two (Some given) = refl

  held_by : (a : Added) → is_held a ≡ is_none (message_at_once a)
  held_by (added.Reply reply) = refl
  held_by (added.Stale incarnation) = refl
  held_by (added.Before from) = refl
  held_by added.Held = refl

  -- a call that comes is held by what is kept where it is held by the record
  pub holds : (boot : List View) (call : HeldCall) → requests.is_held place boot begins kept p call ≡ is_held (answer_to g call.header)
  holds boot call =
      let i = index_of place.troupe call.header in
      ap (λ r. not (nat_lt call.header.server_incarnation (required_incarnation p)) && not (is_before place.troupe begins kept call p) && is_none r) (reply_by_is place.troupe begins kept call p)
      ∙ by_tests (nat_lt call.header.server_incarnation (required_incarnation p)) (nat_lt i (first_of (phase begins p))) (required_incarnation p) (first_of (phase begins p)) (reply_if kept p (λ n. false) i)
      ∙ sym (ap (λ n. let index = index_of n call.header in is_held (if nat_lt call.header.server_incarnation g.required then added.Stale g.required else if nat_lt index g.from then added.Before g.from else option_map_or added.Reply (reply_of g index) added.Held)) h.own
      ∙ (λ j. is_held (if nat_lt call.header.server_incarnation (h.required j) then added.Stale (h.required j) else if nat_lt i (h.from j) then added.Before (h.from j) else option_map_or added.Reply (h.replies i j) added.Held)))
    where
      by_tests : (s b : Bool) (one two : ℕ) (r : Option Reply)
          → (not s && not b && is_none (option_map reply_message r)) ≡ is_held (if s then added.Stale one else if b then added.Before two else option_map_or added.Reply r added.Held)
      by_tests true b one two r = refl
      by_tests false true one two r = refl
      by_tests false false one two None = refl
      by_tests false false one two (Some given) = refl

  module _ (header : CallHeader) (body : List ℕ) (sender : Caller) where
    abbrev asked : Occurrence
    asked = comes.Asked header body sender

    abbrev call : HeldCall
    call = record { header = header; body = body; sender = sender }

    abbrev i : ℕ
    i = index_of place.troupe header

    and_true : (b : Bool) → (b && true) ≡ b
    and_true true = refl
    and_true false = refl

    message_is : return_if place.troupe begins kept p step asked (λ n. false) (step, call) ≡ message_at_once (answer_to g header)
    message_is =
        let one = required_incarnation p in
        let two = first_of (phase begins p) in
        let r = reply_if kept p (λ n. false) i in
        (λ j. if nat_lt header.server_incarnation one && (eq-eqb step step refl j || not (was_started kept i step)) then Some (stale_message one) else if nat_lt i two then Some (before_message two) else option_map reply_message r)
        ∙ ap (λ b. if b then Some (stale_message one) else if nat_lt i two then Some (before_message two) else option_map reply_message r) (and_true (nat_lt header.server_incarnation one))
        ∙ sym (at_once_by (nat_lt header.server_incarnation one) (nat_lt i two) one two r)
        ∙ sym (ap (λ n. let index = index_of n header in message_at_once (if nat_lt header.server_incarnation g.required then added.Stale g.required else if nat_lt index g.from then added.Before g.from else option_map_or added.Reply (reply_of g index) added.Held)) h.own
        ∙ (λ j. message_at_once (if nat_lt header.server_incarnation (h.required j) then added.Stale (h.required j) else if nat_lt i (h.from j) then added.Before (h.from j) else option_map_or added.Reply (h.replies i j) added.Held)))

    call_held : calls_of (filter (λ e. is_none (return_if place.troupe begins kept p step asked (λ n. false) e)) (ask_in step asked)) ≡ (if is_held (answer_to g header) then call ∷ [] else [])
    call_held = ap (λ b. calls_of (if b then (step, call) ∷ [] else [])) (ap is_none message_is ∙ sym (held_by (answer_to g header))) ∙ by_test (is_held (answer_to g header))
      where
        by_test : (b : Bool) → calls_of (if b then (step, call) ∷ [] else []) ≡ (if b then call ∷ [] else [])
        by_test true = refl
        by_test false = refl

  new_held : (o : Occurrence) → calls_of (filter (λ e. is_none (return_if place.troupe begins kept p step o (λ n. false) e)) (ask_in step o)) ≡ held_now (m place begins kept p g) o
  new_held (comes.Asked header body sender) = call_held header body sender
  new_held (comes.Fetched incarnation sender) = refl
  new_held (comes.Replied name from reply) = refl
  new_held (comes.IsStale name server from incarnation) = refl
  new_held (comes.IsBefore name from) = refl
  new_held (comes.Told request table) = refl
  new_held (comes.Restored state count) = refl
  new_held (comes.Declared node) = refl
  new_held comes.Joins = refl

  new_returned : (o : Occurrence) → flat_map (λ e. message_to e.1.sender (return_if place.troupe begins kept p step o (λ n. false) e)) (ask_in step o) ≡ answered_now (m place begins kept p g) o
  new_returned (comes.Asked header body sender) =
      append-nil (message_to sender (return_if place.troupe begins kept p step (comes.Asked header body sender) (λ n. false) (step, call header body sender)))
      ∙ ap (message_to sender) (message_is header body sender)
  new_returned (comes.Fetched incarnation sender) = refl
  new_returned (comes.Replied name from reply) = refl
  new_returned (comes.IsStale name server from incarnation) = refl
  new_returned (comes.IsBefore name from) = refl
  new_returned (comes.Told request table) = refl
  new_returned (comes.Restored state count) = refl
  new_returned (comes.Declared node) = refl
  new_returned comes.Joins = refl

  -- ---- a call that waits

  module _ (o : Occurrence) (rises : Rises p) (between : NoneBetween kept (now p) step) where
    abbrev q : Past
    q = followed p step o

    abbrev then_kept : Gathered
    then_kept = gathered_by begins p o g

    abbrev d : Gathered
    d = (handle step o (m place begins kept p g)).member.gathered

    w : Sorts (m place begins kept p g) (handle step o (m place begins kept p g)) (held_now (m place begins kept p g) o) (answered_now (m place begins kept p g) o) (at_once (m place begins kept p g) o)
    w = sorts (m place begins kept p g) step o

    own_then : then_kept.module ≡ place.troupe
    own_then = ap (λ (x : Gathered). x.module) (sym (handled_is place begins kept p g step o)) ∙ w.own ∙ h.own

    abbrev gets : ℕ × HeldCall → Option (List ℕ)
    gets e = return_if place.troupe begins kept p step o (λ n. false) e

    module _ (e : ℕ × HeldCall) (low : e.0 ≤ now p) (none : return_owed place.troupe begins kept e.0 e.1 p ≡ None) where
      abbrev own : ℕ
      own = index_of place.troupe e.1.header

      facts : (is_stale place.troupe begins kept e.0 e.1 p ≡ false) × (is_before place.troupe begins kept e.1 p ≡ false) × (reply_by place.troupe begins kept e.1 p ≡ None)
      facts =
          quiet (nat_lt (now p) e.0) (is_stale place.troupe begins kept e.0 e.1 p) (is_before place.troupe begins kept e.1 p) (stale_message (required_incarnation p)) (before_message (first_of (phase begins p))) (reply_by place.troupe begins kept e.1 p)
          (le-ltb (now p) e.0 low) (none_now (return_at place.troupe begins kept e.0 e.1) p none)

      fresh : reply_if kept p (λ n. false) own ≡ None
      fresh = no_reply (reply_if kept p (λ n. false) own) (sym (reply_by_is place.troupe begins kept e.1 p) ∙ facts.2)

      not_due : due g e.1 ≡ None
      not_due =
          ap (λ n. if nat_lt e.1.header.server_incarnation g.required && not (is_index g.open_run (index_of n e.1.header)) then Some (stale_message g.required) else if nat_lt (index_of n e.1.header) g.from then Some (before_message g.from) else None) h.own
          ∙ (λ j. if nat_lt e.1.header.server_incarnation (h.required j) && not (h.opens own j) then Some (stale_message g.required) else if nat_lt own (h.from j) then Some (before_message g.from) else None)
          ∙ ap (λ b. if b then Some (stale_message g.required) else if nat_lt own (first_of (phase begins p)) then Some (before_message g.from) else None)
          (not_stale (nat_lt e.1.header.server_incarnation (required_incarnation p)) (nat_eq e.0 (now p)) (was_started kept own (now p)) (is_open kept p own) facts.0 (open_started kept p own fresh))
          ∙ ap (λ b. if b then Some (before_message g.from) else None) facts.1

      gets_due : gets e ≡ due then_kept e.1
      gets_due =
          let other : nat_eq e.0 step ≡ false = ne_eqb e.0 step (λ eq. absurd (omega (arith, low, later, eq))) in
          let starts = started_is_open kept p own step later between fresh in
          let required = same_required begins p step o g h.required in
          let from = same_first begins p step o g h.from in
          let opens : is_index then_kept.open_run own ≡ is_open kept p own = ap (λ n. is_index n own) (same_open begins p o g) ∙ h.opens own in
          (λ j. if nat_lt e.1.header.server_incarnation (sym required j) && (other j || not (starts j)) then Some (stale_message (sym required j)) else if nat_lt own (sym from j) then Some (before_message (sym from j)) else option_map reply_message (fresh j))
          ∙ (λ j. if nat_lt e.1.header.server_incarnation then_kept.required && not (sym opens j) then Some (stale_message then_kept.required) else if nat_lt own then_kept.from then Some (before_message then_kept.from) else None)
          ∙ ap (λ n. if nat_lt e.1.header.server_incarnation then_kept.required && not (is_index then_kept.open_run (index_of n e.1.header)) then Some (stale_message then_kept.required) else if nat_lt (index_of n e.1.header) then_kept.from then Some (before_message then_kept.from) else None) (sym own_then)

      gets_by : gets e ≡ (if w.passes e.1 then Some w.message else None)
      gets_by = gets_due ∙ ap (λ (x : Gathered). due x e.1) (sym (handled_is place begins kept p g step o)) ∙ w.owed e.1 not_due

    -- ---- all that wait

    abbrev old : List (ℕ × HeldCall)
    old = unreturned place.troupe begins kept p

    old_get : All (λ e. gets e ≡ (if w.passes e.1 then Some w.message else None)) old
    old_get =
        let test : ℕ × HeldCall → Bool = λ e. is_none (return_owed place.troupe begins kept e.0 e.1 p) in
        All-zip (CameBy (now p)) (λ e. test e ≡ true) (λ e. gets e ≡ (if w.passes e.1 then Some w.message else None))
        (λ e low waits. gets_by e low (is_nothing (return_owed place.troupe begins kept e.0 e.1 p) waits))
        old (All-filter test (CameBy (now p)) (asks p) (asks_by p rises)) (filter_passes test (asks p))

    old_returned : flat_map (λ e. message_to e.1.sender (gets e)) old ≡ answers w.message (gathering.callers (filter w.passes g.held))
    old_returned =
        let R : HeldCall → List Effect = λ c. if w.passes c then answer w.message c.sender ∷ [] else [] in
        same_flat (λ e. message_to e.1.sender (gets e)) (λ e. R e.1) old
        (All-weaker (λ e. gets e ≡ (if w.passes e.1 then Some w.message else None)) (λ e. message_to e.1.sender (gets e) ≡ R e.1) (λ e is. ap (message_to e.1.sender) is ∙ by_test e.1.sender (w.passes e.1)) old old_get)
        ∙ sym (flat_through R (λ (e : ℕ × HeldCall). e.1) old)
        ∙ ap (flat_map R) (sym h.held)
        ∙ sym (answers_to w.message w.passes g.held)
      where
        by_test : (c : Caller) (b : Bool) → message_to c (if b then Some w.message else None) ≡ (if b then answer w.message c ∷ [] else [])
        by_test c true = refl
        by_test c false = refl

    old_held : calls_of (filter (λ e. is_none (gets e)) old) ≡ filter (λ c. not (w.passes c)) g.held
    old_held =
        let stays : HeldCall → Bool = λ c. not (w.passes c) in
        ap calls_of (same_passing (λ e. is_none (gets e)) (λ e. stays e.1) old
        (All-weaker (λ e. gets e ≡ (if w.passes e.1 then Some w.message else None)) (λ e. is_none (gets e) ≡ stays e.1) (λ e is. ap is_none is ∙ by_test (w.passes e.1)) old old_get))
        ∙ sym (passing_through stays (λ (e : ℕ × HeldCall). e.1) old)
        ∙ ap (filter stays) (sym h.held)
      where
        by_test : (b : Bool) → is_none (if b then Some w.message else None) ≡ not b
        by_test true = refl
        by_test false = refl

    -- what is returned at once is what it makes at once
    pub returned_at_once : (boot : List View) (first : List ValueTree) → returns_at_once place boot begins first kept q ≡ returns_by begins p o g
    returned_at_once boot first =
        at_once_are place boot begins first kept p step o rises later between
        ∙ flat_map-append (λ e. message_to e.1.sender (gets e)) old (ask_in step o)
        ∙ (λ j. old_returned j ++ new_returned o j)
        ∙ sym w.returns_are
        ∙ returns_are place begins kept p g o

    -- and what it leaves is kept in the middle of the step
    pub kept_amid : IsKeptAmid place.troupe begins kept p step o (λ i. false) then_kept
    kept_amid =
        record {
          own = own_then;
          from = same_first begins p step o g h.from;
          required = same_required begins p step o g h.required;
          held = ap (λ (x : Gathered). x.held) (sym (handled_is place begins kept p g step o))
              ∙ w.held
              ∙ (λ j. sym old_held j ++ sym (new_held o) j)
              ∙ sym (map-append (λ (e : ℕ × HeldCall). e.1) (filter (λ e. is_none (gets e)) old) (filter (λ e. is_none (gets e)) (ask_in step o)))
              ∙ ap calls_of (sym (filter-append (λ e. is_none (gets e)) old (ask_in step o)));
          replies = λ index. ap (λ (x : Gathered). reply_of x index) (sym (handled_is place begins kept p g step o)) ∙ ap (lookup (nat_eq index)) w.replies ∙ h.replies index;
        }
