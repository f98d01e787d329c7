-- What a member makes goes to those whom it may call: by the views of their troupes that it knows, and to the Ringmaster.
use Rattle.std.proofs.Common.{◌≡◌, ℕ, ◌+◌, ◌<◌, Bool, true, false, not, ◌&&◌, if◌then◌else◌, nat_eq, List, [], ◌∷◌, ◌++◌, map, filter, All, Option, Some, None, refl}
use Rattle.std.specs.Prelude.{slice_get, slice_set, nat_lt, unwrap_or}
use Rattle.std.specs.List.{flat_map}
use Rattle.std.specs.Option.{option_map_or}
use Rattle.std.proofs.lemmas.List.Elements.{All-nil, All-cons, All-head, All-tail, All-append, All-map, All-weaker}
use Rattle.circus_value.specs.ValueTree.{ValueTree}
use Rattle.circus_value.specs.declared.caller.Caller.{Caller}
use Rattle.circus_header.specs.declared.call.CallHeader.{CallHeader}
use Rattle.circus_header.specs.declared.call.Request.{Request}
use Rattle.circus_header.specs.declared.call.Request.TheVariants.{Join, Active}
use Rattle.circus_collate.specs.declared.view.Entry.{Entry}
use Rattle.circus_collate.specs.declared.view.View.{View}
use Rattle.circus_model.specs.Execution.{is_spent}
use Rattle.circus_transfer.specs.declared.joiner.Joiner.{Joiner}
use Rattle.circus_record.specs.declared.record.AskRecord.{AskRecord}
use Rattle.circus_record.specs.declared.record.RunRecord.{RunRecord}
use Rattle.circus_record.specs.declared.record.MemberRecord.{MemberRecord}
use Rattle.circus_gather.specs.Gathering.{is_of_index}
use Rattle.circus_gather.specs.declared.held.HeldCall.{HeldCall}
use Rattle.circus_fanout.specs.Knowing.{Knowing}
use Rattle.circus_fanout.specs.Asking.{Asking, calls_for_a_view}
use Rattle.circus_performing.specs.Performing.{is_fetching}
use Rattle.circus_wire.specs.Wire.{Beginning}
use Rattle.circus_member_rules.specs.declared.place.Place.{Place}
use Rattle.circus_member_rules.specs.declared.occurrence.AskName.{AskName}
use Rattle.circus_member_rules.specs.declared.occurrence.Effect.{Effect}
use Rattle.circus_member_rules.specs.declared.occurrence.Effect.TheVariants as made
use Rattle.circus_member_rules.specs.declared.occurrence.Occurrence.{Occurrence}
use Rattle.circus_member_rules.specs.declared.occurrence.Occurrence.TheVariants as comes
use Rattle.circus_member_rules.specs.OpenAsks.{asking_of}
use Rattle.circus_member_rules.specs.Rules.{answer, calls_of_ask, call_again, calls_for_a_new_view, state_requests, gone_call, lookup_call}
use Rattle.circus_member_rules.proofs.Concerned.{all_of}
use Rattle.circus_member_rules.proofs.Named.{found_holds}
use Rattle.circus_member_theory.specs.Past.{Past, booted, followed, now, is_newer, with_view, views_known, nodes_declared_down, phase}
use Rattle.circus_member_theory.specs.Made.{asks, requests}
use Rattle.circus_member_theory.specs.Asks.{is_new, as_made, asks_from, asks_of, knows, first_calls, calls_behind, new_asks, open_asks}
use Rattle.circus_member_theory.specs.Requests.{answers_lookup, to_ring, for_what_came, due, is_unanswered, lookups}
use Rattle.circus_member_theory.specs.Returns.{return_owed}
use Rattle.circus_member_theory.specs.Snapshots.{snapshot_owed}
use Rattle.circus_member_theory.specs.Order.{if_now, calls_of_what_came, is_answered_by_end, returns_now, returns_at_once, made_by_run, made_by_runs, snapshots_now, executed_then, made_in_step}
use Rattle.circus_world_theory.proofs.Border.Reaching.{Reaches, AllReach, AreOf, MayBeCalled, TellsOf, All-flat_map, All-if, told_of, due_reach, earlier_all, again_reach, ring_reaches, new_reach, states_reach, gone_reaches}
use Rattle.circus_headline_theory.specs.Peers.{IsPeer, GoesToPeer}
use Rattle.circus_dues.proofs.OutHeaders.{Has, headers_then}

-- ---- what is known

-- each table that came tells of nodes of its troupe
abbrev pub AllTellOf : (ℕ → ℕ → Type 0) → Past → Type 0
AllTellOf P booted = Unit {0}
AllTellOf P (followed p step o) = AllTellOf P p × TellsOf P o

module _ (P : ℕ → ℕ → Type 0) where
  with_view_of : (views : List View) (view : View) → All (λ (e : Entry). P view.troupe e.node) view.entries → AreOf P views → AreOf P (with_view views view)
  with_view_of views view new old = by_test (is_newer views view) (told_of P k view new old)
    where
      k : Knowing
      k = record { views = views; down = []; wants = [] }

      by_test : (b : Bool) → (let t : Knowing = if b then record k { views = slice_set views view.troupe view } else k in AreOf P t.views) → AreOf P (if b then slice_set views view.troupe view else views)
      by_test true are = are
      by_test false are = are

  -- so the views that are known are of nodes of their troupes, where those at boot are
  known_of : (boot : List View) → AreOf P boot → (p : Past) → AllTellOf P p → AreOf P (views_known boot p)
  known_of boot are booted tells = are
  known_of boot are (followed p step (comes.Asked header body sender)) tells = known_of boot are p tells.0
  known_of boot are (followed p step (comes.Fetched incarnation sender)) tells = known_of boot are p tells.0
  known_of boot are (followed p step (comes.Replied name from reply)) tells = known_of boot are p tells.0
  known_of boot are (followed p step (comes.IsStale name server from incarnation)) tells = known_of boot are p tells.0
  known_of boot are (followed p step (comes.IsBefore name from)) tells = known_of boot are p tells.0
  known_of boot are (followed p step (comes.Told request table)) tells = with_view_of (views_known boot p) table.view tells.1 (known_of boot are p tells.0)
  known_of boot are (followed p step (comes.Restored state count)) tells = known_of boot are p tells.0
  known_of boot are (followed p step (comes.Declared node)) tells = known_of boot are p tells.0
  known_of boot are (followed p step comes.Joins) tells = known_of boot are p tells.0

-- ---- what is made

-- what reaches peers goes to them
to_peers : (pairs : Beginning) (down : List ℕ) (effects : List Effect) → AllReach down (IsPeer pairs) effects → All (GoesToPeer pairs) effects
to_peers pairs down effects all = All-weaker (Reaches down (IsPeer pairs)) (GoesToPeer pairs) one effects all
  where
    one : (e : Effect) → Reaches down (IsPeer pairs) e → GoesToPeer pairs e
    one (made.Call to message purpose) is = is.1
    one (made.Answer caller message) is = tt

-- a run of a member of this troupe asks earlier ones alone
abbrev pub AsksEarlier : ℕ → RunRecord → Type 0
AsksEarlier troupe run = All (λ (ask : AskRecord). ask.callee < troupe) run.asks

-- of a member that may call peers of the pairs of its node, and whose views at boot are of nodes of their troupes
module _ (pairs : Beginning) (P : ℕ → ℕ → Type 0) (place : Place) (may : MayBeCalled P (IsPeer pairs) place) (boot : List View) (are : AreOf P boot) where
  abbrev AllGo : List Effect → Type 0
  AllGo effects = All (GoesToPeer pairs) effects

  none_go : AllGo []
  none_go = All-nil (GoesToPeer pairs)

  -- an ask goes to an earlier troupe
  abbrev IsEarlier : CallHeader → Type 0
  IsEarlier h = h.server < place.troupe

  -- ---- calls of asks

  first_go : (p : Past) → AllTellOf P p → (e : AskName × Asking) → Has IsEarlier e → AllGo (first_calls place boot (knows place boot p) e)
  first_go p tells e low = by_view (slice_get (views_known boot p) e.1.header.server) refl
    where
      by_view : (o : Option View) → slice_get (views_known boot p) e.1.header.server ≡ o
          → AllGo (option_map_or (λ view. calls_of_ask (knows place boot p) e.0 e.1 (calls_for_a_view view (nodes_declared_down p) [])) o [])
      by_view None none = none_go
      by_view (Some view) some =
          to_peers pairs (nodes_declared_down p) (calls_of_ask (knows place boot p) e.0 e.1 (calls_for_a_view view (nodes_declared_down p) []))
          (due_reach P (IsPeer pairs) place may (knows place boot p) e.0 e.1 view []
          (earlier_all P (IsPeer pairs) place may e.1.header.server view.entries low (known_of P boot are p tells e.1.header.server view some)))

  all_first_go : (p : Past) → AllTellOf P p → (es : List (AskName × Asking)) → All (Has IsEarlier) es → AllGo (flat_map (first_calls place boot (knows place boot p)) es)
  all_first_go p tells es low =
      All-flat_map (GoesToPeer pairs) (first_calls place boot (knows place boot p)) es
      (All-weaker (Has IsEarlier) (λ e. AllGo (first_calls place boot (knows place boot p) e)) (first_go p tells) es low)

  behind_go : (p : Past) (step : ℕ) (o : Occurrence) → AllTellOf P (followed p step o) → (es : List (AskName × Asking)) → All (Has IsEarlier) es → AllGo (calls_behind place boot (followed p step o) es)
  behind_go p step (comes.Asked header body sender) tells es low = none_go
  behind_go p step (comes.Fetched incarnation sender) tells es low = none_go
  behind_go p step (comes.Replied name from reply) tells es low = none_go
  behind_go p step (comes.IsStale name server from incarnation) tells es low = by_ask (asking_of es name) refl
    where
      k : Knowing
      k = knows place boot (followed p step (comes.IsStale name server from incarnation))

      by_ask : (o : Option Asking) → asking_of es name ≡ o → AllGo (option_map_or (call_again k name from incarnation) o [])
      by_ask None none = none_go
      by_ask (Some a) some =
          to_peers pairs k.down (call_again k name from incarnation a)
          (again_reach P (IsPeer pairs) place may k name from incarnation a (known_of P boot are p tells.0) (found_holds (λ (x : Asking). IsEarlier x.header) es name a low some))
  behind_go p step (comes.IsBefore name from) tells es low = none_go
  behind_go p step (comes.Told request table) tells es low =
      let k = knows place boot (followed p step (comes.Told request table)) in
      All-if (GoesToPeer pairs) (is_newer (views_known boot p) table.view) (calls_for_a_new_view k table.view es) []
      (to_peers pairs k.down (calls_for_a_new_view k table.view es) (new_reach P (IsPeer pairs) place may k table.view es tells.1 low)) none_go
  behind_go p step (comes.Restored state count) tells es low = none_go
  behind_go p step (comes.Declared node) tells es low = none_go
  behind_go p step comes.Joins tells es low = none_go

  -- ---- asks of a record

  from_run : (test : AskRecord → Bool) (index root : ℕ) (path : List ℕ) (number : ℕ) (clock : List ℕ) (own : List AskRecord) → All (λ (ask : AskRecord). ask.callee < place.troupe) own
      → All (Has IsEarlier) (asks_from place test index root path number clock own)
  from_run test index root path number clock [] low = All-nil (Has IsEarlier)
  from_run test index root path number clock (ask ∷ own) low =
      let e = as_made place index root path number clock ask in
      All-append (Has IsEarlier) (if test ask && not (is_spent clock) then e ∷ [] else []) (asks_from place test index root path (number + 1) (unwrap_or ask.after clock) own)
      (All-if (Has IsEarlier) (test ask && not (is_spent clock)) (e ∷ []) []
      (All-cons (Has IsEarlier) e [] (All-head (λ (ask : AskRecord). ask.callee < place.troupe) ask own low) (All-nil (Has IsEarlier))) (All-nil (Has IsEarlier)))
      (from_run test index root path (number + 1) (unwrap_or ask.after clock) own (All-tail (λ (ask : AskRecord). ask.callee < place.troupe) ask own low))

  from_runs : (test : AskRecord → Bool) (index : ℕ) (runs : List RunRecord) → All (AsksEarlier place.troupe) runs → All (Has IsEarlier) (asks_of place test index runs)
  from_runs test index [] low = All-nil (Has IsEarlier)
  from_runs test index (run ∷ runs) low =
      All-append (Has IsEarlier) (asks_from place test index run.root run.path 0 run.entry run.asks) (asks_of place test (index + 1) runs)
      (from_run test index run.root run.path 0 run.entry run.asks (All-head (AsksEarlier place.troupe) run runs low)) (from_runs test (index + 1) runs (All-tail (AsksEarlier place.troupe) run runs low))

  -- ---- returns and snapshots

  now_go : (p : Past) (caller : Caller) (owed : Option (ℕ × List ℕ)) → AllGo (if_now p caller owed)
  now_go p caller None = none_go
  now_go p caller (Some given) =
      All-if (GoesToPeer pairs) (nat_eq given.0 (now p)) (answer given.1 caller ∷ []) [] (All-cons (GoesToPeer pairs) (answer given.1 caller) [] tt none_go) none_go

  module _ (begins : Joiner) (first : List ValueTree) (kept : MemberRecord) where
    returns_go : (p : Past) (test : ℕ × HeldCall → Bool) → AllGo (returns_now place boot begins first kept p test)
    returns_go p test =
        All-flat_map (GoesToPeer pairs) give calls (all_of (λ e. AllGo (give e)) calls (λ e. now_go p e.1.sender (return_owed place.troupe begins kept e.0 e.1 p)))
      where
        give : ℕ × HeldCall → List Effect
        give e = if_now p e.1.sender (return_owed place.troupe begins kept e.0 e.1 p)

        calls : List (ℕ × HeldCall)
        calls = filter test (asks p)

    snapshots_go : (p : Past) → AllGo (snapshots_now place boot begins first kept p)
    snapshots_go p =
        All-flat_map (GoesToPeer pairs) give (requests p) (all_of (λ e. AllGo (give e)) (requests p) (λ e. now_go p e.1 (snapshot_owed begins first kept e.0 p)))
      where
        give : ℕ × Caller → List Effect
        give e = if_now p e.1 (snapshot_owed begins first kept e.0 p)

    -- ---- what the execution makes

    run_goes : (p : Past) → AllTellOf P p → (index : ℕ) (run : RunRecord) → AsksEarlier place.troupe run → AllGo (made_by_run place boot begins first kept p index run)
    run_goes p tells index run low =
        let own = asks_from place (is_new p) index run.root run.path 0 run.entry run.asks in
        let ended : ℕ × HeldCall → Bool = λ e. is_answered_by_end place boot begins first kept p e && is_of_index place.troupe index e.1 in
        All-append (GoesToPeer pairs) (flat_map (first_calls place boot (knows place boot p)) own) (returns_now place boot begins first kept p ended)
        (all_first_go p tells own (from_run (is_new p) index run.root run.path 0 run.entry run.asks low)) (returns_go p ended)

    runs_go : (test : RunRecord → Bool) (p : Past) → AllTellOf P p → (index : ℕ) (runs : List RunRecord) → All (AsksEarlier place.troupe) runs → AllGo (made_by_runs place boot begins first kept test p index runs)
    runs_go test p tells index [] low = none_go
    runs_go test p tells index (run ∷ runs) low =
        let by_one = made_by_run place boot begins first kept p index run in
        All-append (GoesToPeer pairs) (if test run then by_one else []) (made_by_runs place boot begins first kept test p (index + 1) runs)
        (All-if (GoesToPeer pairs) (test run) by_one [] (run_goes p tells index run (All-head (AsksEarlier place.troupe) run runs low)) none_go)
        (runs_go test p tells (index + 1) runs (All-tail (AsksEarlier place.troupe) run runs low))

    -- ---- what comes, and Lookups

    to_ring_goes : (p : Past) (request : Request) → AllGo (to_ring (nodes_declared_down p) request)
    to_ring_goes p request = to_peers pairs (nodes_declared_down p) (to_ring (nodes_declared_down p) request) (ring_reaches P (IsPeer pairs) place may (knows place boot p) request)

    came_go : (p : Past) (step : ℕ) (o : Occurrence) → TellsOf P o → AllGo (for_what_came place boot begins (followed p step o))
    came_go p step (comes.Asked header body sender) tells = none_go
    came_go p step (comes.Fetched incarnation sender) tells = none_go
    came_go p step (comes.Replied name from reply) tells = none_go
    came_go p step (comes.IsStale name server from incarnation) tells = none_go
    came_go p step (comes.IsBefore name from) tells = none_go
    came_go p step (comes.Told request table) tells =
        let down = nodes_declared_down p in
        All-if (GoesToPeer pairs) (not (is_fetching (phase begins p)) && is_fetching (phase begins (followed p step (comes.Told request table)))) (state_requests place down table.view) []
        (to_peers pairs down (state_requests place down table.view) (states_reach P (IsPeer pairs) place may down table.view tells)) none_go
    came_go p step (comes.Restored state count) tells = by_test (is_fetching (phase begins p))
      where
        by_test : (b : Bool) → AllGo (if b then to_ring (nodes_declared_down p) (Active place.troupe place.node count) else [])
        by_test true = to_ring_goes p (Active place.troupe place.node count)
        by_test false = none_go
    came_go p step (comes.Declared node) tells =
        let k = knows place boot (followed p step (comes.Declared node)) in
        to_peers pairs k.down (gone_call place k node) (gone_reaches P (IsPeer pairs) place may k node)
    came_go p step comes.Joins tells = to_ring_goes p (Join place.troupe place.node)

    lookups_go : (p : Past) (step : ℕ) (o : Occurrence) → AllGo (lookups place boot begins kept (followed p step o))
    lookups_go p step o =
        all_lookups (due place boot begins kept (λ t. is_unanswered place boot begins kept p t && not (answers_lookup o t)) (followed p step o))
      where
        all_lookups : (troupes : List ℕ) → AllGo (map lookup_call troupes)
        all_lookups troupes = All-map (GoesToPeer pairs) lookup_call troupes (all_of (λ t. GoesToPeer pairs (lookup_call t)) troupes (λ t. may.ring))

    -- ---- all of it

    module _ (low : All (AsksEarlier place.troupe) kept.runs) where
      new_low : (q : Past) → All (Has IsEarlier) (new_asks place boot kept q)
      new_low q = from_runs (is_new q) kept.from kept.runs low

      pub boot_goes : AllGo (flat_map (first_calls place boot (knows place boot booted)) (new_asks place boot kept booted))
      boot_goes = all_first_go booted tt (new_asks place boot kept booted) (new_low booted)

      pub step_goes : (p : Past) (step : ℕ) (o : Occurrence) → AllTellOf P (followed p step o) → AllGo (made_in_step place boot begins first kept p (followed p step o))
      step_goes p step o tells =
          All-append (GoesToPeer pairs) ((calls_of_what_came place boot begins first kept p q ++ returns_at_once place boot begins first kept q) ++ executed_then place boot begins first kept q) (lookups place boot begins kept q)
          (All-append (GoesToPeer pairs) (calls_of_what_came place boot begins first kept p q ++ returns_at_once place boot begins first kept q) (executed_then place boot begins first kept q)
          (All-append (GoesToPeer pairs) (calls_of_what_came place boot begins first kept p q) (returns_at_once place boot begins first kept q) what_came (returns_go q (λ e. not (is_answered_by_end place boot begins first kept q e)))) executed) (lookups_go p step o)
        where
          q : Past
          q = followed p step o

          what_came : AllGo (calls_of_what_came place boot begins first kept p q)
          what_came =
              All-append (GoesToPeer pairs) (calls_behind place boot q (open_asks place boot kept p)) (for_what_came place boot begins q)
              (behind_go p step o tells (open_asks place boot kept p) (headers_then IsEarlier place boot kept new_low p)) (came_go p step o tells.1)

          executed : AllGo (executed_then place boot begins first kept q)
          executed =
              let earlier : RunRecord → Bool = λ run. nat_lt run.started (now q) in
              let later : RunRecord → Bool = λ run. not (nat_lt run.started (now q)) in
              let before = made_by_runs place boot begins first kept earlier q kept.from kept.runs in
              let behind = made_by_runs place boot begins first kept later q kept.from kept.runs in
              let snapshots = snapshots_now place boot begins first kept q in
              All-append (GoesToPeer pairs) (before ++ snapshots) behind
              (All-append (GoesToPeer pairs) before snapshots (runs_go earlier q tells kept.from kept.runs low) (snapshots_go q)) (runs_go later q tells kept.from kept.runs low)
