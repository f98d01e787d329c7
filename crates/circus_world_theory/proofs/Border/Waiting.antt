-- Each call that waits for its return is answered once: in a step as many returns are made to a caller as it has calls fewer that wait.
use Rattle.std.proofs.Common.{◌≡◌, ℕ, ◌+◌, Bool, true, false, not, ◌&&◌, cond, if◌then◌else◌, List, [], ◌∷◌, ◌++◌, filter, All, Option, Some, None, refl, ap, ◌∙◌, arith}
use Rattle.std.specs.Prelude.{slice_get, max, ◌==◌}
use Rattle.std.specs.Option.{option_map_or}
use Rattle.std.proofs.lemmas.List.Elements.{All-nil, All-cons, All-head, All-tail, All-append, All-map}
use Rattle.circus_value.specs.Among.{is_among}
use Rattle.circus_value.specs.ValueTree.{ValueTree}
use Rattle.circus_value.specs.declared.caller.Caller.{Caller}
use Rattle.circus_value.specs.declared.outcome.Outcome.{Outcome}
use Rattle.circus_header.specs.declared.call.CallHeader.{CallHeader}
use Rattle.circus_header.specs.declared.call.Request.{Request}
use Rattle.circus_header.specs.declared.call.Request.TheVariants.{Join, Active, Gone}
use Rattle.circus_collate.specs.Expecting.{has_node}
use Rattle.circus_collate.specs.declared.table.Table.{Table}
use Rattle.circus_collate.specs.declared.view.View.{View}
use Rattle.circus_transfer.specs.Snapshot.{snapshot_bytes}
use Rattle.circus_model.specs.declared.signature.Signature.{Signature}
use Rattle.circus_model.specs.NextTurn.{NextTurn}
use Rattle.circus_model.specs.Behaviour.{IsModule}
use Rattle.circus_record.specs.declared.record.AskRecord.{AskRecord}
use Rattle.circus_record.specs.declared.record.RunRecord.{RunRecord}
use Rattle.circus_fanout.specs.Knowing as knowing
use Rattle.circus_fanout.specs.Knowing.{Knowing, is_newer, note_down as declared_of}
use Rattle.circus_gather.specs.Gathering.{Gathered, callers, answer_to, is_held, is_of_index, is_stale, is_before, with_first}
use Rattle.circus_gather.specs.Gathering as gathering
use Rattle.circus_gather.specs.declared.held.HeldCall.{HeldCall}
use Rattle.circus_gather.specs.declared.added.Added.{Added}
use Rattle.circus_gather.specs.declared.added.Added.TheVariants as added
use Rattle.circus_fanout.specs.Asking.{Asking, calls_for_a_view, next}
use Rattle.circus_fanout.specs.declared.send.Send.{Send}
use Rattle.circus_fanout.specs.declared.send.Next.{Next}
use Rattle.circus_fanout.specs.declared.send.Next.TheVariants as N
use Rattle.circus_performing.specs.Performing.{open_ask, last_of, is_fetching, made_active}
use Rattle.circus_performing.specs.Record.{behaviour}
use Rattle.circus_member_rules.specs.declared.place.Place.{Place}
use Rattle.circus_member_rules.specs.declared.place.Beginning.{Beginning}
use Rattle.circus_member_rules.specs.declared.occurrence.AskName.{AskName}
use Rattle.circus_member_rules.specs.declared.occurrence.Effect.{Effect}
use Rattle.circus_member_rules.specs.declared.occurrence.Effect.TheVariants as made
use Rattle.circus_member_rules.specs.declared.occurrence.Occurrence.{Occurrence}
use Rattle.circus_member_rules.specs.declared.occurrence.Occurrence.TheVariants as comes
use Rattle.circus_member_rules.specs.Messages.{reply_message, stale_message, before_message}
use Rattle.circus_member_rules.specs.OpenAsks.{asking_of}
use Rattle.circus_member_rules.specs.Rules as rules
use Rattle.circus_member_rules.specs.Rules.{ringmaster, answers, request_call, request_to_ring, answer_at_once, call_of_ask, calls_of_ask, call_for, call_again, is_to, calls_for_view, calls_for_a_new_view, givers, state_request, state_requests, gone_from, gone_call, lookup_call, lookups, active_call, before_answers, snapshots_owed, index_of_last}
use Rattle.circus_member_rules.specs.Happening.{IsHome, CanHappen}
use Rattle.circus_member_rules.specs.MemberState.{MemberState, Doing}
use Rattle.circus_member_rules.specs.Step as step
use Rattle.circus_member_rules.specs.Step.{name_of_last, asking_begun, known_by_table, is_taken_in, is_idle, reply_of_run, keep_ask_open, execute, handle, step_member, opened_by_view, ended_run, boot_member}
use Rattle.circus_member_rules.proofs.Concerned.{all_of}
use Rattle.circus_member_rules.proofs.Starting.{IsSoundNow}
use Rattle.circus_member_rules.proofs.Turned.{IsTurned}
use Rattle.circus_member_theory.specs.Ranges.{InRange}
use Rattle.circus_member_theory.proofs.Resting.{sound_once_handled}
use Rattle.circus_world_theory.proofs.Border.Booting.{booted_keeps}
use Rattle.circus_world_theory.proofs.Border.Going.{behaves, with_given, Keeps, executed_keeps}
use Rattle.circus_world_theory.proofs.Border.Reaching.{All-flat_map, All-if}

-- ---- how often a caller is there

abbrev pub is_caller : Caller → Caller → Bool
is_caller c other = (other.node == c.node) && (other.number == c.number)

abbrev pub one_if : Bool → ℕ
one_if b = if b then 1 else 0

-- how often among callers
abbrev pub times_in : Caller → List Caller → ℕ
times_in c [] = 0
times_in c (other ∷ others) = one_if (is_caller c other) + times_in c others

-- how many returns are made to it
abbrev pub answered_in : Caller → List Effect → ℕ
answered_in c [] = 0
answered_in c (made.Call to message purpose ∷ effects) = answered_in c effects
answered_in c (made.Answer caller message ∷ effects) = one_if (is_caller c caller) + answered_in c effects

-- how many calls of it come
abbrev pub calls_in : Caller → Occurrence → ℕ
calls_in c (comes.Asked header body sender) = one_if (is_caller c sender)
calls_in c (comes.Fetched incarnation sender) = one_if (is_caller c sender)
calls_in c (comes.Replied name from reply) = 0
calls_in c (comes.IsStale name server from incarnation) = 0
calls_in c (comes.IsBefore name from) = 0
calls_in c (comes.Told request table) = 0
calls_in c (comes.Restored state count) = 0
calls_in c (comes.Declared node) = 0
calls_in c comes.Joins = 0

module _ {M : Type 0} where
  -- how many calls of it wait at a member
  abbrev pub waiting_at : Caller → MemberState M → ℕ
  waiting_at c m = times_in c (callers m.gathered.held) + times_in c m.requests

  -- how many are answered or wait
  abbrev pub known_in : Caller → Doing M → ℕ
  known_in c d = answered_in c d.effects + waiting_at c d.member

-- a call, no return
abbrev pub IsACall : Effect → Type 0
IsACall (made.Call to message purpose) = Unit {0}
IsACall (made.Answer caller message) = ⊥

module _ (c : Caller) where
  times-append : (xs ys : List Caller) → times_in c (xs ++ ys) ≡ times_in c xs + times_in c ys
  times-append [] ys = omega arith
  times-append (x ∷ xs) ys = let rest = times-append xs ys in omega arith

  answered-append : (xs ys : List Effect) → answered_in c (xs ++ ys) ≡ answered_in c xs + answered_in c ys
  answered-append [] ys = omega arith
  answered-append (made.Call to message purpose ∷ xs) ys = answered-append xs ys
  answered-append (made.Answer caller message ∷ xs) ys = let rest = answered-append xs ys in omega arith

  answered_all : (message : List ℕ) (xs : List Caller) → answered_in c (answers message xs) ≡ times_in c xs
  answered_all message [] = refl
  answered_all message (x ∷ xs) = ap (λ n. one_if (is_caller c x) + n) (answered_all message xs)

  none_answered : (effects : List Effect) → All IsACall effects → answered_in c effects ≡ 0
  none_answered [] all = refl
  none_answered (made.Call to message purpose ∷ effects) all = none_answered effects (All-tail IsACall (made.Call to message purpose) effects all)
  none_answered (made.Answer caller message ∷ effects) all = absurd (All-head IsACall (made.Answer caller message) effects all)

  -- those that pass a test, and those that don't
  parted : (p : HeldCall → Bool) (held : List HeldCall) → times_in c (callers (filter p held)) + times_in c (callers (filter (λ x. not (p x)) held)) ≡ times_in c (callers held)
  parted p [] = refl
  parted p (x ∷ xs) = by_test (parted p xs) (p x)
    where
      by_test : times_in c (callers (filter p xs)) + times_in c (callers (filter (λ y. not (p y)) xs)) ≡ times_in c (callers xs) → (b : Bool)
          → times_in c (callers (cond b (x ∷ filter p xs) (filter p xs))) + times_in c (callers (cond (not b) (x ∷ filter (λ y. not (p y)) xs) (filter (λ y. not (p y)) xs))) ≡ times_in c (callers (x ∷ xs))
      by_test rest true = omega arith
      by_test rest false = omega arith

  -- ---- the rules that make calls alone

  calls_ask : (k : Knowing) (name : AskName) (a : Asking) (sends : List Send) → All IsACall (calls_of_ask k name a sends)
  calls_ask k name a sends = All-map IsACall (call_of_ask k name a) sends (all_of (λ (s : Send). IsACall (call_of_ask k name a s)) sends (λ s. tt))

  calls_again : (k : Knowing) (name : AskName) (from incarnation : ℕ) (a : Asking) → All IsACall (call_again k name from incarnation a)
  calls_again k name from incarnation a = by_view (slice_get k.views a.header.server)
    where
      by_next : (n : Next) → All IsACall (call_for k name a n)
      by_next (N.Send send) = All-cons IsACall (call_of_ask k name a send) [] tt (All-nil IsACall)
      by_next (N.Lookup wanted) = All-nil IsACall
      by_next N.Leave = All-nil IsACall

      by_view : (o : Option View) → All IsACall (option_map_or (λ view. call_for k name a (next view k.down from incarnation)) o [])
      by_view None = All-nil IsACall
      by_view (Some view) = by_next (next view k.down from incarnation)

  calls_ring : (k : Knowing) (request : Request) → All IsACall (request_to_ring k request)
  calls_ring k request = All-if IsACall (is_among k.down ringmaster) [] (request_call request ∷ []) (All-nil IsACall) (All-cons IsACall (request_call request) [] tt (All-nil IsACall))

  calls_lookups : (k : Knowing) → All IsACall (lookups k)
  calls_lookups k = All-map IsACall lookup_call (knowing.lookups k ringmaster) (all_of (λ (troupe : ℕ). IsACall (lookup_call troupe)) (knowing.lookups k ringmaster) (λ troupe. tt))

  calls_new : (k : Knowing) (view : View) (asks : List (AskName × Asking)) → All IsACall (calls_for_a_new_view k view asks)
  calls_new k view asks =
      All-flat_map IsACall (calls_for_view k view) (filter (is_to view.troupe) asks)
      (all_of (λ (e : AskName × Asking). All IsACall (calls_for_view k view e)) (filter (is_to view.troupe) asks) (λ e. calls_ask k e.0 e.1 (calls_for_a_view view k.down e.1.asked)))

  calls_states : (place : Place) (down : List ℕ) (view : View) → All IsACall (state_requests place down view)
  calls_states place down view =
      All-map IsACall (state_request place.troupe view.incarnation) (givers place.node down view)
      (all_of (λ (n : ℕ). IsACall (state_request place.troupe view.incarnation n)) (givers place.node down view) (λ n. tt))

  calls_gone : (place : Place) (k : Knowing) (node : ℕ) → All IsACall (gone_call place k node)
  calls_gone place k node = by_host (slice_get place.troupes node)
    where
      by_view : (troupe : ℕ) (o : Option View) → All IsACall (option_map_or (λ (v : View). if has_node v node then request_to_ring k (Gone troupe node) else []) o [])
      by_view troupe None = All-nil IsACall
      by_view troupe (Some v) = All-if IsACall (has_node v node) (request_to_ring k (Gone troupe node)) [] (calls_ring k (Gone troupe node)) (All-nil IsACall)

      by_hosted : (o : Option ℕ) → All IsACall (option_map_or (gone_from k node) o [])
      by_hosted None = All-nil IsACall
      by_hosted (Some troupe) = by_view troupe (slice_get k.views troupe)

      by_host : (o : Option (Option ℕ)) → All IsACall (option_map_or (λ hosted. option_map_or (gone_from k node) hosted []) o [])
      by_host None = All-nil IsACall
      by_host (Some hosted) = by_hosted hosted

  module _ {M : Type 0} (declared : M → Signature) (turn : M → List ValueTree → ℕ → List ValueTree → List Outcome → NextTurn) (first : M → List ValueTree)
      (lawful : (hosted : M) → IsModule (behaviour declared turn first hosted)) (count : ℕ) where
    -- so many calls of it are answered or wait
    abbrev pub IsKnown : Doing M → Type 0
    IsKnown d = known_in c d ≡ count

    -- where calls are made besides
    more_calls : (d : Doing M) (more : List Effect) → All IsACall more → answered_in c (d.effects ++ more) ≡ answered_in c d.effects
    more_calls d more calls = let both = answered-append d.effects more in let none = none_answered more calls in omega arith

    -- ---- what an execution does

    known_keeps : (step : ℕ) → Keeps declared turn first lawful step IsKnown
    known_keeps step =
        record {
          gives = gives;
          enters = λ d start sound may h. h;
          answers = λ d reply sound value h. h;
          opens = opens;
          ends = ends;
        }
      where
        gives : (d : Doing M) → IsSoundNow declared turn first lawful d.member → is_idle d.member.performing.kept ≡ true → IsKnown d → IsKnown (with_given d)
        gives d sound idle h =
            let m = d.member in
            let both = answered-append d.effects (snapshots_owed m.performing.kept m.requests) in
            let given = answered_all (snapshot_bytes m.performing.kept.count m.performing.kept.state) m.requests in
            omega (arith, both, given, h)

        opens : (d : Doing M) (run : RunRecord) (ask : AskRecord) (view : View) → IsTurned (behaves declared turn first lawful d) d.member
            → last_of d.member.performing.kept.runs ≡ Some run → open_ask d.member.performing.kept ≡ Some ask
            → slice_get d.member.known.views ask.callee ≡ Some view → IsKnown d
            → IsKnown (opened_by_view d (name_of_last d.member.performing.kept) (asking_begun d.member.place d.member.performing.kept run ask) view)
        opens d run ask view turned at is there h =
            let m = d.member in
            let name = name_of_last m.performing.kept in
            let a = asking_begun m.place m.performing.kept run ask in
            let sends = calls_for_a_view view m.known.down [] in
            ap (λ n. n + waiting_at c m) (more_calls d (calls_of_ask m.known name a sends) (calls_ask m.known name a sends)) ∙ h

        ends : (d : Doing M) (run : RunRecord) → IsTurned (behaves declared turn first lawful d) d.member → last_of d.member.performing.kept.runs ≡ Some run
            → open_ask d.member.performing.kept ≡ None → IsKnown d → IsKnown (ended_run d run)
        ends d run turned at none h =
            let m = d.member in
            let index = index_of_last m.performing.kept in
            let left = parted (is_of_index m.gathered.module index) m.gathered.held in
            let both = answered-append d.effects (rules.answers_of_run (gathering.answered_by_end m.gathered index) (reply_of_run run)) in
            let answered_ = answered_all (reply_message (reply_of_run run)) (gathering.answered_by_end m.gathered index) in
            omega (arith, left, both, answered_, h)

  -- ---- what happens is handled

  times-push : (held : List HeldCall) (call : HeldCall) → times_in c (callers (held ++ call ∷ [])) ≡ times_in c (callers held) + one_if (is_caller c call.sender)
  times-push [] call = omega arith
  times-push (x ∷ xs) call = let rest = times-push xs call in omega arith

  module _ {M : Type 0} (m : MemberState M) where
    asked_known : (header : CallHeader) (body : List ℕ) (sender : Caller) → known_in c (step.handle_call m header body sender) ≡ waiting_at c m + one_if (is_caller c sender)
    asked_known header body sender = by_added (answer_to m.gathered header)
      where
        call : HeldCall
        call = record { header = header; body = body; sender = sender }

        by_added : (a : Added) → let g : Gathered =
            if is_held a then record m.gathered { held = m.gathered.held ++ call ∷ [] } else m.gathered in answered_in c (answer_at_once a sender) +
            (times_in c (callers g.held) + times_in c m.requests) ≡ waiting_at c m + one_if (is_caller c sender)
        by_added (added.Reply reply) = omega arith
        by_added (added.Stale required) = omega arith
        by_added (added.Before start) = omega arith
        by_added added.Held = let push = times-push m.gathered.held call in omega arith

    fetched_known : (incarnation : ℕ) (sender : Caller) → known_in c (step.handle_fetch m incarnation sender) ≡ waiting_at c m + one_if (is_caller c sender)
    fetched_known incarnation sender =
        let left = parted (is_stale m.gathered (max m.gathered.required incarnation)) m.gathered.held in
        let told = answered_all (stale_message (gathering.with_required m.gathered incarnation).required) (gathering.stale_answers m.gathered incarnation) in
        let more = times-append m.requests (sender ∷ []) in
        omega (arith, left, told, more)

    -- where only calls are made
    calls_known : (effects : List Effect) → All IsACall effects → answered_in c effects + waiting_at c m ≡ waiting_at c m + 0
    calls_known effects calls = let none = none_answered effects calls in omega arith

    restored_known : (at : ℕ) (state : List ValueTree) (count : ℕ) → known_in c (step.handle_state at m state count) ≡ waiting_at c m + 0
    restored_known at state count = by_test (is_fetching m.performing.kept.phase)
      where
        by_test : (t : Bool) → let d : Doing M =
            if t then record { member = record m { performing = made_active at state count m.performing; gathered = with_first m.gathered count }; effects = active_call m.place m.known count ++ before_answers m.gathered count } else record { member = m; effects = [] } in known_in c d ≡ waiting_at c m + 0
        by_test true =
            let left = parted (is_before m.gathered count) m.gathered.held in
            let both = answered-append (active_call m.place m.known count) (before_answers m.gathered count) in
            let none = none_answered (active_call m.place m.known count) (calls_ring m.known (Active m.place.troupe m.place.node count)) in
            let told = answered_all (before_message count) (gathering.before_answers m.gathered count) in
            omega (arith, left, both, none, told)
        by_test false = omega arith

    told_known : (request : Request) (table : Table) → known_in c (step.handle_table m request table) ≡ waiting_at c m + 0
    told_known request table =
        let view = table.view in
        let k = known_by_table m.known request view in
        calls_known (step.handle_table m request table).effects
        (All-append IsACall _ _
        (All-if IsACall (is_newer m.known view) (calls_for_a_new_view k view m.asks) [] (calls_new k view m.asks) (All-nil IsACall))
        (All-if IsACall (is_taken_in m.performing.kept.phase _) (state_requests m.place k.down view) [] (calls_states m.place k.down view) (All-nil IsACall)))

    stale_known : (name : AskName) (server from incarnation : ℕ) → known_in c (step.handle_stale m name server from incarnation) ≡ waiting_at c m + 0
    stale_known name server from incarnation = calls_known (step.handle_stale m name server from incarnation).effects (by_ask (asking_of m.asks name))
      where
        by_ask : (o : Option Asking) → All IsACall (option_map_or (call_again m.known name from incarnation) o [])
        by_ask None = All-nil IsACall
        by_ask (Some a) = calls_again m.known name from incarnation a

    handled_known : (at : ℕ) (o : Occurrence) → known_in c (handle at o m) ≡ waiting_at c m + calls_in c o
    handled_known at (comes.Asked header body sender) = asked_known header body sender
    handled_known at (comes.Fetched incarnation sender) = fetched_known incarnation sender
    handled_known at (comes.Replied name from reply) = omega arith
    handled_known at (comes.IsStale name server from incarnation) = stale_known name server from incarnation
    handled_known at (comes.IsBefore name from) = omega arith
    handled_known at (comes.Told request table) = told_known request table
    handled_known at (comes.Restored state count) = restored_known at state count
    handled_known at (comes.Declared node) = calls_known (gone_call m.place (declared_of m.known node) node) (calls_gone m.place (declared_of m.known node) node)
    handled_known at comes.Joins = calls_known (request_to_ring m.known (Join m.place.troupe m.place.node)) (calls_ring m.known (Join m.place.troupe m.place.node))

  module _ {M : Type 0} (declared : M → Signature) (turn : M → List ValueTree → ℕ → List ValueTree → List Outcome → NextTurn) (first : M → List ValueTree)
      (lawful : (hosted : M) → IsModule (behaviour declared turn first hosted)) where
    -- the calls of a caller that a step answers, and those that wait behind it, are those that waited before it, and the one that comes
    pub step_answers : (at : ℕ) (o : Occurrence) (m : MemberState M) → CanHappen (declared m.performing.hosted) m o → InRange o → IsSoundNow declared turn first lawful m
        → known_in c (step_member declared turn at o m) ≡ waiting_at c m + calls_in c o
    step_answers at o m can ranges sound =
        let d = execute declared turn at (handle at o m) in
        let n = known_in c (handle at o m) in
        ap (λ n. n + waiting_at c d.member) (more_calls declared turn first lawful n (keep_ask_open d) (lookups d.member.known) (calls_lookups d.member.known))
        ∙ executed_keeps declared turn first lawful at (IsKnown declared turn first lawful n) (known_keeps declared turn first lawful n at) (handle at o m)
        (sound_once_handled declared turn first lawful at o m sound can ranges) refl
        ∙ handled_known m at o

    -- at boot none waits, and none is answered
    pub boot_answers : (place : Place) (views : List View) (beginning : Beginning) (hosted : M) → IsHome (declared hosted) place views
        → known_in c (boot_member declared turn first place views beginning hosted) ≡ 0
    boot_answers place views beginning hosted home =
        booted_keeps declared turn first lawful place views hosted home (IsKnown declared turn first lawful 0) (known_keeps declared turn first lawful 0 0) beginning refl
