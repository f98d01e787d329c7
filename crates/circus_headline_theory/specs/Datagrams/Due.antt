-- What a member makes, call by call and return by return, and its cause.
use Rattle.std.specs.Prelude.{◌≡◌, ◌≢◌, ℕ, ◌+◌, ◌<◌, ◌≤◌, ◌⊎◌, true, false, List, ◌∷◌, [], ◌++◌, length, take, Contains, Some, IsSomeAnd, slice_get}
use Rattle.std.specs.List.{list_all}
use Rattle.circus_value.specs.Among.{is_among}
use Rattle.circus_value.specs.ValueTree.{ValueTree}
use Rattle.circus_value.specs.declared.caller.Caller.{Caller}
use Rattle.circus_external.specs.Spelling.{spelling_of_all}
use Rattle.circus_header.specs.declared.call.CallHeader.{CallHeader}
use Rattle.circus_header.specs.declared.call.Request.{Request}
use Rattle.circus_header.specs.declared.call.Request.TheVariants as asks_for
use Rattle.circus_collate.specs.Expecting.{has_node}
use Rattle.circus_collate.specs.declared.table.RingResult.TheVariants.{Done}
use Rattle.circus_collate.specs.declared.view.Entry.{Entry}
use Rattle.circus_collate.specs.declared.view.Since.TheVariants.{From}
use Rattle.circus_collate.specs.declared.view.View.{View}
use Rattle.circus_transfer.specs.declared.joiner.Joiner.{Joiner}
use Rattle.circus_transfer.specs.declared.joiner.Joiner.TheVariants as phases
use Rattle.circus_transfer.specs.Snapshot.{snapshot_bytes}
use Rattle.circus_record.specs.declared.record.AskRecord.{AskRecord}
use Rattle.circus_record.specs.declared.record.MemberRecord.{MemberRecord}
use Rattle.circus_record.specs.declared.record.RunRecord.{RunRecord}
use Rattle.circus_gather.specs.Gathering.{index_of}
use Rattle.circus_gather.specs.declared.held.HeldCall.{HeldCall}
use Rattle.circus_fanout.specs.Asking.{Asking}
use Rattle.circus_performing.specs.Performing.{is_active, clock_after, state_after}
use Rattle.circus_performing.specs.Record.{count_after}
use Rattle.circus_member_rules.specs.declared.place.Place.{Place}
use Rattle.circus_member_rules.specs.declared.occurrence.AskName.{AskName}
use Rattle.circus_member_rules.specs.declared.occurrence.Occurrence.TheVariants as comes
use Rattle.circus_member_rules.specs.declared.occurrence.Purpose.{Purpose}
use Rattle.circus_member_rules.specs.declared.occurrence.Purpose.TheVariants as for
use Rattle.circus_member_rules.specs.Messages.{ask_message, request_message, fetch_message, reply_message, stale_message, before_message}
use Rattle.circus_member_rules.specs.Rules.{ringmaster, incarnation_of}
use Rattle.circus_member_rules.specs.Step.{is_join, reply_of_run}
use Rattle.circus_member_theory.specs.Past.{Past, booted, followed, now, views_known, nodes_declared_down, required_incarnation, phase}
use Rattle.circus_member_theory.specs.Asks.{knows, open_asks}
use Rattle.circus_member_theory.specs.Made.{asks, requests}
use Rattle.circus_member_theory.specs.Requests.{wanted_incarnation}
use Rattle.circus_member_theory.specs.Returns.{first_of, run_of, has_ended}
use Rattle.circus_member_theory.specs.Snapshots.{runs_before, began}

-- this is a past as it was at the end of one of its steps
abbrev pub WasSo : Past → Past → Type 0
WasSo booted q = q ≡ booted
WasSo (followed p step o) q = (q ≡ followed p step o) ⊎ WasSo p q

-- of a member that stands here, with these views, in this phase and with this state at boot, and with this record in the end
module _ (place : Place) (boot : List View) (begins : Joiner) (first : List ValueTree) (kept : MemberRecord) where
  -- ---- calls for asks; the last step of a past is that in which the call is made

  -- the header of a call for an ask of a run: it names the views that are known then
  abbrev pub header_then : Past → AskName → RunRecord → AskRecord → View → CallHeader
  header_then q name run ask view =
      record {
        root = run.root;
        path = run.path ++ name.ask ∷ [];
        client = place.troupe;
        client_incarnation = incarnation_of (knows place boot q) place.troupe;
        client_index = name.run;
        server = ask.callee;
        server_incarnation = view.incarnation;
        procedure = ask.procedure;
        clock = clock_after run.entry (take name.ask run.asks);
      }

  -- the ask is open as a call of it is made: it was asked in that step, or was open at the end of the one before
  abbrev pub IsOpenThen : Past → AskName → AskRecord → Type 0
  IsOpenThen booted name ask = ask.asked ≡ 0
  IsOpenThen (followed p step o) name ask = (ask.asked ≡ step) ⊎ ((a : Asking) × Contains (open_asks place boot kept p) (name, a))

  -- header and body are those of an ask of the record, made by then and open; the node is an entry of the known view of its
  -- server, and isn't down
  pub record IsForAsk (q : Past) (to : ℕ) (message : List ℕ) (name : AskName) (server : ℕ) : Type 0 where
    pub number : ℕ
    pub run : RunRecord
    pub ask : AskRecord
    pub view : View
    pub index : name.run ≡ kept.from + number
    pub run_is : slice_get kept.runs number ≡ Some run
    pub ask_is : slice_get run.asks name.ask ≡ Some ask
    pub made_by_then : ask.asked ≤ now q
    pub is_open : IsOpenThen q name ask
    pub server_is : server ≡ ask.callee
    pub known_is : slice_get (views_known boot q) server ≡ Some view
    pub entry : has_node view to ≡ true
    pub up : is_among (nodes_declared_down q) to ≡ false
    pub message_is : message ≡ ask_message (header_then q name run ask view) (spelling_of_all ask.arguments)

  -- ---- requests

  -- what makes a request to the Ringmaster due. Lookup: a later view is wanted than is known. Join: the member was told to join.
  -- Active: it is active from that count on. Gone: the node was declared down, and the known view of its troupe has it
  abbrev pub Causes : Request → Past → Type 0
  Causes (asks_for.Lookup troupe) q = IsSomeAnd (slice_get (views_known boot q) troupe) (λ view. view.incarnation < wanted_incarnation place boot begins kept troupe q)
  Causes (asks_for.Join troupe node) (followed p step comes.Joins) = (troupe ≡ place.troupe) × (node ≡ place.node)
  Causes (asks_for.Active troupe node count) (followed p step (comes.Restored state behind)) =
      (troupe ≡ place.troupe) × (node ≡ place.node) × (is_active (phase begins p) ≡ false) × (phase begins (followed p step (comes.Restored state behind)) ≡ phases.Active count)
  Causes (asks_for.Gone troupe node) (followed p step (comes.Declared other)) =
      (node ≡ other) × (slice_get place.troupes node ≡ Some (Some troupe)) × IsSomeAnd (slice_get (views_known boot p) troupe) (λ view. has_node view node ≡ true)
  Causes request q = ⊥

  -- a node performs calls itself by a view
  abbrev pub IsMember : View → ℕ → Type 0
  IsMember view node = (number : ℕ) × (e : Entry) × (since : ℕ) × (slice_get view.entries number ≡ Some e) × (e.node ≡ node) × (e.since ≡ From since)

  -- a state request names the own troupe and the incarnation of the table that answered the member's Join with `Done`; the node is
  -- another one that performs calls by that table, and isn't down
  abbrev pub IsForState : Past → ℕ → List ℕ → Type 0
  IsForState (followed p step (comes.Told request table)) to message =
      (message ≡ fetch_message place.troupe table.view.incarnation) × (is_join request ≡ true) × (phase begins p ≡ phases.Asking) × (table.result ≡ Done)
      × IsMember table.view to × (to ≢ place.node) × (is_among (nodes_declared_down p) to ≡ false)
  IsForState q to message = ⊥

  -- a call for a purpose has its cause at the end of a past
  abbrev pub CallIsDue : Past → ℕ → List ℕ → Purpose → Type 0
  CallIsDue q to message (for.Ask name server) = IsForAsk q to message name server
  CallIsDue q to message (for.Ring request) = (to ≡ ringmaster) × (message ≡ request_message request) × (is_among (nodes_declared_down q) ringmaster ≡ false) × Causes request q
  CallIsDue q to message for.Fetch = IsForState q to message

  -- ---- returns; the last step of a past is that in which the return is made

  -- the call is of an older view than is required
  abbrev pub IsStale : Past → HeldCall → List ℕ → Type 0
  IsStale q call message = (message ≡ stale_message (required_incarnation q)) × (call.header.server_incarnation < required_incarnation q)

  -- it is before the index from which the member is active
  abbrev pub IsBefore : Past → HeldCall → List ℕ → Type 0
  IsBefore q call message = (index : ℕ) × (message ≡ before_message index) × (phase begins q ≡ phases.Active index) × (index_of place.troupe call.header < index)

  -- the run of its index has ended, with this clock and outcome
  abbrev pub IsReply : Past → HeldCall → List ℕ → Type 0
  IsReply q call message =
      IsSomeAnd (run_of kept (index_of place.troupe call.header)) (λ run. (has_ended run q ≡ true) × (message ≡ reply_message (reply_of_run run)))

  -- the call is an ask of the caller that had come by then, and the return is one of these
  pub record IsForCall (p q : Past) (caller : Caller) (message : List ℕ) : Type 0 where
    pub step : ℕ
    pub call : HeldCall
    pub came : Contains (asks p) (step, call)
    pub by_then : step ≤ now q
    pub sender : call.sender ≡ caller
    pub says : IsStale q call message ⊎ (IsBefore q call message ⊎ IsReply q call message)

  -- the call is a state request of the caller that had come by then, and the member is active and performs no run: its count and state
  pub record IsForRequest (p q : Past) (caller : Caller) (message : List ℕ) : Type 0 where
    pub step : ℕ
    pub came : Contains (requests p) (step, caller)
    pub by_then : step ≤ now q
    pub active : is_active (phase begins q) ≡ true
    pub idle : list_all (λ run. has_ended run q) (runs_before kept q) ≡ true
    pub message_is : message ≡ snapshot_bytes (count_after (first_of (phase begins q)) (length (runs_before kept q))) (state_after (began begins first q) (runs_before kept q))

  abbrev pub ReturnIsDue : Past → Past → Caller → List ℕ → Type 0
  ReturnIsDue p q caller message = IsForCall p q caller message ⊎ IsForRequest p q caller message
