-- A step of a member: what happens is handled, the execution goes on as far as it can, asks are closed, and views looked up.
use Rattle.std.specs.Prelude.{ℕ, zero, suc, ◌-◌, Bool, true, false, not, ◌&&◌, if◌then◌else◌, List, [], ◌∷◌, ◌++◌, length, map, Option, None, is_none, is_some, unwrap_or, option_and_then}
use Rattle.std.specs.Option.{option_map_or}
use Rattle.circus_value.specs.ValueTree.{ValueTree}
use Rattle.circus_value.specs.declared.outcome.Outcome.{Outcome}
use Rattle.circus_value.specs.declared.caller.Caller.{Caller}
use Rattle.circus_header.specs.declared.call.CallHeader.{CallHeader}
use Rattle.circus_header.specs.declared.call.Request.{Request}
use Rattle.circus_header.specs.declared.call.Request.TheVariants.{Lookup, Join, Active, Gone}
use Rattle.circus_header.specs.declared.answer.Reply.{Reply}
use Rattle.circus_external.specs.Spelling.{spelling_of_all}
use Rattle.circus_collate.specs.declared.table.Table.{Table}
use Rattle.circus_collate.specs.declared.view.View.{View}
use Rattle.circus_transfer.specs.declared.joiner.Joiner.{Joiner}
use Rattle.circus_record.specs.declared.record.AskRecord.{AskRecord}
use Rattle.circus_record.specs.declared.record.RunRecord.{RunRecord}
use Rattle.circus_record.specs.declared.record.MemberRecord.{MemberRecord}
use Rattle.circus_model.specs.declared.signature.Signature.{Signature}
use Rattle.circus_model.specs.declared.signature.ProcedureShape.{ProcedureShape}
use Rattle.circus_model.specs.NextTurn.{NextTurn}
use Rattle.circus_fanout.specs.Knowing.{Knowing}
use Rattle.circus_fanout.specs.Knowing as knowing
use Rattle.circus_gather.specs.Gathering as gathering
use Rattle.circus_gather.specs.declared.held.HeldCall.{HeldCall}
use Rattle.circus_fanout.specs.Asking.{Asking}
use Rattle.circus_fanout.specs.Asking as asking
use Rattle.circus_performing.specs.declared.start.RunStart.{RunStart}
use Rattle.circus_performing.specs.Performing as performing
use Rattle.circus_performing.specs.Performing.{open_ask, last_of, is_active, is_fetching, clock_after}
use Rattle.circus_member_rules.specs.declared.place.Place.{Place}
use Rattle.circus_member_rules.specs.declared.place.Beginning.{Beginning}
use Rattle.circus_member_rules.specs.declared.place.Beginning.TheVariants.{Founder, Spare}
use Rattle.circus_member_rules.specs.declared.occurrence.AskName.{AskName}
use Rattle.circus_member_rules.specs.declared.occurrence.Difference.{Difference}
use Rattle.circus_member_rules.specs.declared.occurrence.Occurrence.{Occurrence}
use Rattle.circus_member_rules.specs.declared.occurrence.Occurrence.TheVariants as comes
use Rattle.circus_member_rules.specs.OpenAsks.{is_name, asking_of, with_ask, with_asking}
use Rattle.circus_member_rules.specs.MemberState.{MemberState, Doing, add_effects}
use Rattle.circus_member_rules.specs.Messages.{arguments_in}
use Rattle.circus_member_rules.specs.Rules as rules

-- the name of the last run's last ask
abbrev pub name_of_last : MemberRecord → AskName
name_of_last kept =
    record { run = rules.index_of_last kept; ask = option_map_or (λ (r : RunRecord). length r.asks - 1) (last_of kept.runs) 0 }

-- what a run's ask asks: the path is the run's with the number of the ask, and the clock is the run's; which views its
-- calls name is said as each is made
abbrev pub header_of_ask : ℕ → MemberRecord → RunRecord → AskRecord → CallHeader
header_of_ask troupe kept run ask =
    record {
      root = run.root;
      path = run.path ++ (length run.asks - 1) ∷ [];
      client = troupe;
      client_incarnation = 0;
      client_index = rules.index_of_last kept;
      server = ask.callee;
      server_incarnation = 0;
      procedure = ask.procedure;
      clock = clock_after run.entry run.asks;
    }

abbrev pub asking_begun : Place → MemberRecord → RunRecord → AskRecord → Asking
asking_begun place kept run ask =
    asking.begin_asking (header_of_ask place.troupe kept run ask) (spelling_of_all ask.arguments) place.replies

-- the member is active and performs no run
abbrev pub is_idle : MemberRecord → Bool
is_idle kept = is_active kept.phase && is_none (open_ask kept)

-- the ask waits for its value
abbrev pub waits : MemberRecord → AskName → Bool
waits kept name = is_some (open_ask kept) && is_name (name_of_last kept) name

-- the reply of a run that has ended
abbrev pub reply_of_run : RunRecord → Reply
reply_of_run run = record { clock = unwrap_or run.end []; outcome = unwrap_or run.outcome performing.refusal }

-- how the run of a call is entered, by a member that declares these procedures
abbrev pub start_by_call : ℕ → List ProcedureShape → HeldCall → RunStart
start_by_call troupe procedures call =
    record {
      root = call.header.root;
      path = call.header.path;
      procedure = call.header.procedure;
      arguments = arguments_in procedures call.header.procedure call.body;
      clock = rules.clock_at_entry troupe call.header.clock;
    }

-- how the run of a root's founder is entered
abbrev pub main_start : ℕ → List View → RunStart
main_start troupe views = record { root = troupe; path = []; procedure = 0; arguments = []; clock = map (λ _. 0) views }

-- which request it is
abbrev pub is_lookup : Request → Bool
is_lookup (Lookup troupe) = true
is_lookup (Join troupe node) = false
is_lookup (Active troupe node count) = false
is_lookup (Gone troupe node) = false

abbrev pub is_join : Request → Bool
is_join (Lookup troupe) = false
is_join (Join troupe node) = true
is_join (Active troupe node count) = false
is_join (Gone troupe node) = false

-- the Ringmaster has answered a request for a troupe's view
abbrev pub answered_by_ring : Knowing → Request → ℕ → Knowing
answered_by_ring k request troupe = if is_lookup request then knowing.note_answer k troupe else k

-- and its view is known
abbrev pub known_by_table : Knowing → Request → View → Knowing
known_by_table k request view = knowing.note_view (answered_by_ring k request view.troupe) view

-- the record once a request was answered
abbrev pub kept_by_table : MemberRecord → Request → Table → MemberRecord
kept_by_table kept request table = if is_join request then performing.taken_in table kept else kept

-- the member has been taken in by it, between these phases
abbrev pub is_taken_in : Joiner → Joiner → Bool
is_taken_in before after = not (is_fetching before) && is_fetching after

module _ {M : Type 0} where
  abbrev pub with_record : Doing M → MemberRecord → Doing M
  with_record d kept = record d { member = record d.member { performing = record d.member.performing { kept = kept } } }

  -- ---- the execution

  -- a call is sent to each entry of the view that isn't down
  abbrev pub opened_by_view : Doing M → AskName → Asking → View → Doing M
  opened_by_view d name a view =
      let m = d.member in
      add_effects (record d { member = record m { asks = with_ask m.asks name (asking.with_view view m.known.down a) } })
      (rules.calls_of_ask m.known name a (asking.calls_for_a_view view m.known.down []))

  abbrev pub opened_ask : Doing M → RunRecord → AskRecord → Doing M
  opened_ask d run ask =
      let kept = d.member.performing.kept in
      let a = asking_begun d.member.place kept run ask in
      rules.by_view d.member.known a (opened_by_view d (name_of_last kept) a) d

  -- the run has ended: its callers are answered, and its reply is kept
  abbrev pub ended_run : Doing M → RunRecord → Doing M
  ended_run d run =
      let m = d.member in
      let index = rules.index_of_last m.performing.kept in
      let reply = reply_of_run run in
      add_effects (record d { member = record m { gathered = gathering.with_end m.gathered index reply } })
      (rules.answers_of_run (gathering.answered_by_end m.gathered index) reply)

  -- behind turns of the last run: it asks, or has ended
  abbrev pub after_turns : Doing M → Doing M
  after_turns d =
      option_map_or
      (λ (run : RunRecord). option_map_or (opened_ask d run) (open_ask d.member.performing.kept) (ended_run d run))
      (last_of d.member.performing.kept.runs)
      d

  -- the open ask has a value
  abbrev pub value_of_open : MemberState M → Option Reply
  value_of_open m =
      option_and_then
      (λ (ask : AskRecord). option_and_then (rules.value_of_ask m.known) (asking_of m.asks (name_of_last m.performing.kept)))
      (open_ask m.performing.kept)

  -- those that asked for its state are given it
  abbrev pub given_states : Doing M → Doing M
  given_states d =
      let m = d.member in
      if is_idle m.performing.kept
      then add_effects (record d { member = record m { requests = [] } }) (rules.snapshots_owed m.performing.kept m.requests)
      else d

  -- the call that starts next
  abbrev pub next_start : MemberState M → Option HeldCall
  next_start m =
      if is_idle m.performing.kept
      then gathering.call_to_start m.gathered m.known.views m.known.down m.place.calls m.performing.kept.count
      else None

  -- ---- the end of a step

  -- the ask that waits for its value stays open
  abbrev pub keep_ask_open : Doing M → Doing M
  keep_ask_open d =
      let m = d.member in
      record d { member = record m { asks = rules.close_asks m.known (waits m.performing.kept) m.asks } }

  abbrev pub look_up : Doing M → Doing M
  look_up d =
      let m = d.member in
      add_effects (record d { member = record m { known = knowing.note_lookup m.known rules.ringmaster } }) (rules.lookups m.known)

  -- ---- what happens is handled

  abbrev pub handle_table : MemberState M → Request → Table → Doing M
  handle_table m request table =
      let known = known_by_table m.known request table.view in
      let newer = knowing.is_newer m.known table.view in
      let kept = kept_by_table m.performing.kept request table in
      record {
        member = record m {
          known = known;
          performing = record m.performing { kept = kept };
          asks = if newer then rules.with_new_view known table.view m.asks else m.asks;
        };
        effects =
            (if newer then rules.calls_for_a_new_view known table.view m.asks else [])
            ++ (if is_taken_in m.performing.kept.phase kept.phase then rules.state_requests m.place known.down table.view else []);
      }

  -- a reply that differs from the first one to an open ask is told
  abbrev pub difference : Occurrence → MemberState M → Option Difference
  difference (comes.Replied name from reply) m = option_and_then (rules.difference_by name from reply) (asking_of m.asks name)
  difference (comes.Asked header body sender) m = None
  difference (comes.Fetched incarnation sender) m = None
  difference (comes.IsStale name server from incarnation) m = None
  difference (comes.IsBefore name from) m = None
  difference (comes.Told request table) m = None
  difference (comes.Restored state count) m = None
  difference (comes.Declared node) m = None
  difference comes.Joins m = None

  -- the member begins behind a call, and tells so
  abbrev pub begin_behind : Doing M → ℕ → Doing M
  begin_behind d count =
      let m = d.member in
      add_effects (record d { member = record m { gathered = gathering.with_first m.gathered count } })
      (rules.active_call m.place m.known count ++ rules.before_answers m.gathered count)

  -- one that fetches a state has it, and is active from its count on
  abbrev pub handle_state : ℕ → MemberState M → List ValueTree → ℕ → Doing M
  handle_state step m state count =
      if is_fetching m.performing.kept.phase
      then record {
        member = record m { performing = performing.made_active step state count m.performing; gathered = gathering.with_first m.gathered count };
        effects = rules.active_call m.place m.known count ++ rules.before_answers m.gathered count;
      }
      else record { member = m; effects = [] }

  -- a call comes in
  abbrev pub handle_call : MemberState M → CallHeader → List ℕ → Caller → Doing M
  handle_call m header body sender =
      let added = gathering.answer_to m.gathered header in
      record {
        member = record m {
          gathered = gathering.with_call m.gathered (record { header = header; body = body; sender = sender });
          known = rules.wanted_by_call added header m.known;
        };
        effects = rules.answer_at_once added sender;
      }

  -- the state is asked for
  abbrev pub handle_fetch : MemberState M → ℕ → Caller → Doing M
  handle_fetch m incarnation sender =
      record {
        member = record m { gathered = gathering.with_required m.gathered incarnation; requests = m.requests ++ sender ∷ [] };
        effects = rules.stale_answers m.gathered incarnation;
      }

  -- a node replies to an ask, or that it is of an older view, or that it is before the first call
  abbrev pub handle_reply : MemberState M → AskName → ℕ → Reply → Doing M
  handle_reply m name from reply =
      record { member = record m { asks = with_asking name (asking.with_reply from reply) m.asks }; effects = [] }

  abbrev pub handle_stale : MemberState M → AskName → ℕ → ℕ → ℕ → Doing M
  handle_stale m name server from incarnation =
      record {
        member = record m {
          known = knowing.want_view m.known server incarnation;
          asks = with_asking name (rules.after_stale m.known from incarnation) m.asks;
        };
        effects = option_map_or (rules.call_again m.known name from incarnation) (asking_of m.asks name) [];
      }

  abbrev pub before : MemberState M → AskName → ℕ → Doing M
  before m name from = record { member = record m { asks = with_asking name (asking.with_before from) m.asks }; effects = [] }

  -- a node is declared to be down
  abbrev pub declared_down : MemberState M → ℕ → Doing M
  declared_down m node =
      let known = knowing.note_down m.known node in
      record { member = record m { known = known }; effects = rules.gone_call m.place known node }

  -- the member is told to join
  abbrev pub joins : MemberState M → Doing M
  joins m =
      record {
        member = record m { performing = record m.performing { kept = performing.told_to_join m.performing.kept } };
        effects = rules.join_call m.place m.known;
      }

  abbrev pub handle : ℕ → Occurrence → MemberState M → Doing M
  handle step (comes.Asked header body sender) m = handle_call m header body sender
  handle step (comes.Fetched incarnation sender) m = handle_fetch m incarnation sender
  handle step (comes.Replied name from reply) m = handle_reply m name from reply
  handle step (comes.IsStale name server from incarnation) m = handle_stale m name server from incarnation
  handle step (comes.IsBefore name from) m = before m name from
  handle step (comes.Told request table) m = handle_table m request table
  handle step (comes.Restored state count) m = handle_state step m state count
  handle step (comes.Declared node) m = declared_down m node
  handle step comes.Joins m = joins m

-- the performer at boot, by the first state of a module
module _ {M : Type 0} (first : M → List ValueTree) where
  abbrev pub performer_at_boot : Beginning → M → performing.Performing M
  performer_at_boot Founder hosted = performing.founder hosted (first hosted)
  performer_at_boot Spare hosted = performing.spare hosted (first hosted)

-- what the member's module does is given to each step
module _ {M : Type 0} (turn : M → List ValueTree → ℕ → List ValueTree → List Outcome → NextTurn) where
  -- ---- the execution

  -- the open ask is answered, if its collator gives a value, and the run goes on
  abbrev pub answered_by : ℕ → Doing M → Reply → Doing M
  answered_by step d reply =
      let p = d.member.performing in
      after_turns (with_record d (performing.answer_open_ask (turn p.hosted) p.began step reply.outcome reply.clock p.kept))

  abbrev pub answered_open : ℕ → Doing M → Doing M
  answered_open step d = option_map_or (answered_by step d) (value_of_open d.member) d

  -- a run is entered
  abbrev pub enter_run_of : ℕ → Doing M → RunStart → Doing M
  enter_run_of step d start =
      let m = d.member in
      let p = m.performing in
      after_turns
      (with_record (record d { member = record m { gathered = gathering.with_start m.gathered p.kept.count } })
      (performing.enter_run (turn p.hosted) step start p.kept))

-- and what it declares
module _ {M : Type 0} (declared : M → Signature) (turn : M → List ValueTree → ℕ → List ValueTree → List Outcome → NextTurn) where
  -- how the run of a call is entered
  abbrev pub start_of_call : MemberState M → HeldCall → RunStart
  start_of_call m call = start_by_call m.place.troupe (declared m.performing.hosted).procedures call

  -- until nothing changes: at most one start for each call that is held
  unfoldable pub start_runs : ℕ → ℕ → Doing M → Doing M
  start_runs step zero d = given_states d
  start_runs step (suc left) d =
      let e = given_states d in
      option_map_or (λ call. start_runs step left (enter_run_of turn step e (start_of_call e.member call))) (next_start e.member) e

  abbrev pub execute : ℕ → Doing M → Doing M
  execute step d = let e = answered_open turn step d in start_runs step (length e.member.gathered.held) e

  abbrev pub step_member : ℕ → Occurrence → MemberState M → Doing M
  step_member step o m = look_up (keep_ask_open (execute step (handle step o m)))

  -- ---- at boot

  -- before anything has happened; a founder is active, and that of a root has entered its MAIN
  abbrev pub before_any : Place → List View → performing.Performing M → MemberState M
  before_any place views p =
      record { place = place; known = knowing.at_boot views; gathered = gathering.before_any place.troupe 0; performing = p; asks = []; requests = [] }

  -- a founder of a root
  abbrev pub starts_at_boot : Beginning → M → Bool
  starts_at_boot Founder hosted = (declared hosted).root
  starts_at_boot Spare hosted = false

  abbrev pub boot_member : (M → List ValueTree) → Place → List View → Beginning → M → Doing M
  boot_member first place views beginning hosted =
      let d : Doing M = record { member = before_any place views (performer_at_boot first beginning hosted); effects = [] } in
      if starts_at_boot beginning hosted then enter_run_of turn 0 d (main_start place.troupe views) else d
