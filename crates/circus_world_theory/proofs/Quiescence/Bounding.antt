-- Where nothing is repeated, the datagrams with data are as many as the messages of the history have segments, at most.
use Rattle.std.proofs.Common.{◌≡◌, ◌≢◌, inl, inr, ℕ, zero, suc, ◌+◌, ◌-◌, ◌*◌, ◌/◌, ◌<◌, ◌≤◌, Bool, true, false, ◌||◌, eqb, List, [], ◌∷◌, length, map, All, Option, None, Some, Ok, Err, refl, sym, ap, subst, ◌∙◌, arith, length-append, eq-eqb}
use Rattle.std.specs.Prelude.{slice_get, is_some, option_and_then, ◌==◌, if◌then◌else◌}
use Rattle.std.specs.List.{list_any}
use Rattle.std.specs.Option.{option_map_or}
use Rattle.std.proofs.lemmas.Bool.Decides.{eqb_tells}
use Rattle.std.proofs.lemmas.Option.{none-some, same_Some, slice_get_within}
use Rattle.circus_value.specs.ValueTree.{ValueTree}
use Rattle.circus_value.specs.Among.{is_among}
use Rattle.circus_value.specs.declared.caller.Caller.{Caller}
use Rattle.circus_value.specs.declared.outcome.Outcome.{Outcome}
use Rattle.circus_segment.specs.Segment.{part_size}
use Rattle.circus_segment.specs.Cut.{segment_count}
use Rattle.circus_exchange.specs.Exchange.{start}
use Rattle.circus_external.specs.Spelling.{spelling_of_all}
use Rattle.circus_header.specs.Field.{Field, word, long, field_len, field_bytes, bytes_of}
use Rattle.circus_header.specs.CallFields.{call_fields}
use Rattle.circus_header.specs.declared.call.Call.TheVariants.{Ask}
use Rattle.circus_header.specs.declared.call.CallHeader.{CallHeader}
use Rattle.circus_header.proofs.Standing.{length-field_bytes}
use Rattle.circus_collate.specs.declared.deployment.Deployment.{Deployment}
use Rattle.circus_collate.specs.declared.deployment.Troupe.{Troupe}
use Rattle.circus_collate.specs.declared.view.Entry.{Entry}
use Rattle.circus_ring.specs.RingTable.{boot_views}
use Rattle.circus_model.proofs.Threads.{are_modules}
use Rattle.circus_model.specs.NextTurn.{NextTurn}
use Rattle.circus_model.specs.Behaviour.{Behaviour, IsModule, behaviours}
use Rattle.circus_model.specs.Execution.{is_spent, history_of}
use Rattle.circus_model.specs.History.{runs_of, run_at, clock_before}
use Rattle.circus_model.specs.declared.history.Ask.{Ask as AskMade}
use Rattle.circus_model.specs.declared.history.Run.{Run}
use Rattle.circus_model.specs.declared.signature.Signature.{Signature}
use Rattle.circus_pair.specs.Acts.{Acts}
use Rattle.circus_pair.specs.Handed.{calls_made, call_at, return_at}
use Rattle.circus_pair.specs.Lawful.{AreLawful}
use Rattle.circus_pair.proofs.Flowing.{call_made, made_call}
use Rattle.circus_wire.specs.WireActs.{WireActs, purpose_of}
use Rattle.circus_wire.specs.WireStanding.{pair_of, sent_in}
use Rattle.circus_wire.proofs.Histories.{sent_is}
use Rattle.circus_performing.specs.Performing.{is_active}
use Rattle.circus_performing.specs.Record.{behaviour}
use Rattle.circus_member_rules.specs.Messages.{ask_message, reply_message}
use Rattle.circus_member_rules.specs.declared.occurrence.AskName.{AskName}
use Rattle.circus_member_rules.specs.declared.occurrence.Purpose.{Purpose}
use Rattle.circus_member_rules.specs.declared.occurrence.Purpose.TheVariants as for
use Rattle.circus_member_rules.specs.declared.occurrence.Occurrence.TheVariants as occurs
use Rattle.circus_member_rules.specs.declared.place.Beginning.TheVariants as Begin
use Rattle.circus_member_rules.specs.MemberState.{MemberState}
use Rattle.circus_transfer.specs.declared.joiner.Joiner.TheVariants.{Outside}
use Rattle.circus_node.specs.Accepting.{troupe_at}
use Rattle.circus_member_theory.proofs.Accepting.Calls.{ask_no_fetch}
use Rattle.circus_member_theory.proofs.Accepting.TrueReturns.{answers_ask}
use Rattle.circus_node.specs.Booting.{beginning_in}
use Rattle.circus_node.specs.Booting as node_booting
use Rattle.circus_node.specs.Step as node_step
use Rattle.circus_node.specs.NodeState.{Acting, member, ringmaster}
use Rattle.circus_schedule.specs.declared.line.Line.{Line}
use Rattle.circus_member_theory.specs.Truth.{reply_to, IsAskMessage, IsTrueCallFor, IsTrueReturn}
use Rattle.circus_world.specs.WorldState.{WorldState, Standing}
use Rattle.circus_world.proofs.SlotLemmas.{get_there}
use Rattle.circus_world_theory.specs.Histories.{beginning_of}
use Rattle.circus_world_theory.proofs.Boots.{world_stands}
use Rattle.circus_world_theory.proofs.Worlds.{Stands, at_pair, lawful_at}
use Rattle.circus_world_theory.specs.Worlds.{IsWorldOf}
use Rattle.circus_world_theory.proofs.Proper.{fits, are_proper}
use Rattle.circus_world_theory.proofs.Saying.{IsSaidCall, call_said, return_said}
use Rattle.circus_world_theory.proofs.Stepping.{CalledAt}
use Rattle.circus_world_theory.proofs.True.{first_at, CallSo, ReturnSo, IsTrueAt, ActsTrue, return_so_grows}
use Rattle.circus_world_theory.specs.Enough.{total, founders_of, header_of, segments_of, segments_of_ask, segments_of_run, all_segments, AreOnce}
use Rattle.circus_world_theory.specs.Quiet.{IsDelivery}
use Rattle.circus_world_theory.specs.Still.{phase_of, phase_at}
use Rattle.circus_world_theory.proofs.Quiescence.Amounts.{segments_in, datas, ReturnsBelow, few_datas}
use Rattle.circus_world_theory.proofs.Quiescence.CalmSteps.{CalmAt}
use Rattle.circus_world_theory.proofs.Quiescence.CalmWorlds.{Holds, many, acts, holds_at_last}
use Rattle.circus_world_theory.proofs.Quiescence.Counts.{DataCounted, counted_still, few_in_all}
use Rattle.circus_world_theory.proofs.Quiescence.Course.{AllLive, own_of, at_boot, boot_live, boot_counts, data_of_end, lead_keeps}
use Rattle.circus_world_theory.proofs.Quiescence.Evolving.{Named}
use Rattle.circus_world_theory.proofs.Quiescence.Founders.{boot_view_of, boot_nodes}
use Rattle.circus_world_theory.proofs.Quiescence.Giving.{data_to, data_sent, boot_gives}
use Rattle.circus_world_theory.proofs.Quiescence.Lossless.{quiet_on}
use Rattle.circus_world_theory.proofs.Quiescence.Quietly.{QuietCall, QuietReturn, MemberQuiet, true_reply}
use Rattle.circus_world_theory.proofs.Quiescence.QuietNodes.{NodeQuiet}
use Rattle.circus_world_theory.proofs.Quiescence.QuietWorlds.{began, calls_are_asks, returns_are_replies}
use Rattle.circus_world_theory.proofs.Quiescence.Sending.{some_is}
use Rattle.circus_world_theory.proofs.Quiescence.Staying.{IsEntryOf}
use Rattle.circus_world_theory.proofs.Quiescence.Sums.{if_so, total_le, total_plus, total_none, total_swap, total_part, total_if, total_each, total_into_two, weigh, weigh-append}

-- ---- over the history

module _ (d : Deployment) (history : List (List Run)) where
  -- the call for an ask to a node, and the return to it: nothing, if it is no founder of the callee, or the thread is spent
  abbrev ask_cell : ℕ → ℕ → ℕ → Run → ℕ → AskMade → ℕ
  ask_cell node place index run number ask =
      if is_spent (clock_before run number) then 0 else if_so (is_among (founders_of d ask.callee) node) (segments_of place index run number ask)

  abbrev cell : ℕ → ℕ → ℕ → ℕ → ℕ
  cell place node index number = option_map_or (λ run. option_map_or (ask_cell node place index run number) (slice_get run.asks number) 0) (run_at history place index) 0

  abbrev asks_at : ℕ → ℕ → ℕ
  asks_at place index = option_map_or (λ (run : Run). length run.asks) (run_at history place index) 0

  -- those of all asks of a module to a node
  abbrev row : ℕ → ℕ → ℕ
  row place node = total (length (runs_of history place)) (λ index. total (asks_at place index) (cell place node index))

  ask_nodes : (n place index : ℕ) (run : Run) (number : ℕ) (ask : AskMade) → total n (λ node. ask_cell node place index run number ask) ≤ segments_of_ask d history place index run number ask
  ask_nodes n place index run number ask = by_test (is_spent (clock_before run number))
    where
      by_test : (b : Bool) → total n (λ node. if b then 0 else if_so (is_among (founders_of d ask.callee) node) (segments_of place index run number ask))
          ≤ (if b then 0 else length (founders_of d ask.callee) * segments_of place index run number ask)
      by_test true = (let none = total_none n in omega (arith, none))
      by_test false = total_each n (segments_of place index run number ask) (founders_of d ask.callee)

  run_nodes : (n place index : ℕ) (o : Option Run)
      → total n (λ node. total (option_map_or (λ (run : Run). length run.asks) o 0) (λ number. option_map_or (λ run. option_map_or (ask_cell node place index run number) (slice_get run.asks number) 0) o 0))
      ≤ option_map_or (segments_of_run d history place index) o 0
  run_nodes n place index None = (let none = total_none n in omega (arith, none))
  run_nodes n place index (Some run) =
      let swap = total_swap n (length run.asks) (λ node number. option_map_or (ask_cell node place index run number) (slice_get run.asks number) 0) in
      let each = total_le (length run.asks) (λ number. total n (λ node. option_map_or (ask_cell node place index run number) (slice_get run.asks number) 0))
      (λ number. option_map_or (segments_of_ask d history place index run number) (slice_get run.asks number) 0) (λ number below. by_ask number (slice_get run.asks number)) in
      omega (arith, swap, each)
    where
      by_ask : (number : ℕ) (o : Option AskMade) → total n (λ node. option_map_or (ask_cell node place index run number) o 0) ≤ option_map_or (segments_of_ask d history place index run number) o 0
      by_ask number None = (let none = total_none n in omega (arith, none))
      by_ask number (Some ask) = ask_nodes n place index run number ask

  abbrev inner : ℕ → ℕ
  inner place = total (length (runs_of history place)) (λ index. option_map_or (segments_of_run d history place index) (run_at history place index) 0)

  row_nodes : (n place : ℕ) → total n (row place) ≤ inner place
  row_nodes n place =
      let swap = total_swap n (length (runs_of history place)) (λ node index. total (asks_at place index) (cell place node index)) in
      let each = total_le (length (runs_of history place)) (λ index. total n (λ node. total (asks_at place index) (cell place node index)))
      (λ index. option_map_or (segments_of_run d history place index) (run_at history place index) 0) (λ index below. run_nodes n place index (run_at history place index)) in
      omega (arith, swap, each)

  -- what a node calls for at another one
  abbrev pub between : ℕ → ℕ → ℕ
  between node other = total (length d.troupes) (λ place. if_so (is_among (founders_of d place) node) (row place other))

  all_nodes : (n : ℕ) → total n (λ node. total n (between node)) ≤ all_segments d history
  all_nodes n =
      let rows = total_le n (λ node. total n (between node)) (λ node. total (length d.troupes) (λ place. if_so (is_among (founders_of d place) node) (inner place))) (λ node below. of_node node) in
      let swap = total_swap n (length d.troupes) (λ node place. if_so (is_among (founders_of d place) node) (inner place)) in
      let each = total_le (length d.troupes) (λ place. total n (λ node. if_so (is_among (founders_of d place) node) (inner place))) (λ place. length (founders_of d place) * inner place)
      (λ place below. total_each n (inner place) (founders_of d place)) in
      omega (arith, rows, swap, each)
    where
      if_le : (b : Bool) (x y : ℕ) → x ≤ y → if_so b x ≤ if_so b y
      if_le true x y le = le
      if_le false x y le = omega arith

      of_node : (node : ℕ) → total n (between node) ≤ total (length d.troupes) (λ place. if_so (is_among (founders_of d place) node) (inner place))
      of_node node =
          let swap = total_swap n (length d.troupes) (λ other place. if_so (is_among (founders_of d place) node) (row place other)) in
          let each = total_le (length d.troupes) (λ place. total n (λ other. if_so (is_among (founders_of d place) node) (row place other)))
          (λ place. if_so (is_among (founders_of d place) node) (inner place))
          (λ place below.
          let out = total_if n (is_among (founders_of d place) node) (row place) in
          let le = if_le (is_among (founders_of d place) node) (total n (row place)) (inner place) (row_nodes n place) in
          omega (arith, out, le)) in
          omega (arith, swap, each)

-- ---- in a world

any_node : (entries : List Entry) (node : ℕ) → is_among (map (λ (e : Entry). e.node) entries) node ≡ list_any (λ (e : Entry). eqb e.node node) entries
any_node [] node = refl
any_node (e ∷ entries) node = ap (λ b. eqb e.node node || b) (any_node entries node)

pub entry_founder : (d : Deployment) (troupe node : ℕ) → IsEntryOf (boot_views d.troupes) troupe node → is_among (founders_of d troupe) node ≡ true
entry_founder d troupe node is =
    let v = boot_view_of 0 troupe d.troupes is.view is.there in
    ap (λ o. is_among (option_map_or (λ (t : Troupe). t.founders) o []) node) v.there
    ∙ ap (λ l. is_among l node) (sym (boot_nodes d.troupes troupe is.view v)) ∙ any_node is.view.entries node ∙ is.among

-- which run and which ask a call was made for
abbrev name_of : Option Purpose → AskName
name_of (Some (for.Ask name server)) = name
name_of (Some (for.Ring request)) = record { run = 0; ask = 0 }
name_of (Some for.Fetch) = record { run = 0; ask = 0 }
name_of None = record { run = 0; ask = 0 }

-- ---- how long a call is

fields_long : (fields : List Field) → length (bytes_of fields) ≡ weigh field_len fields
fields_long [] = refl
fields_long (f ∷ fields) =
    let rest = fields_long fields in
    let here = length-field_bytes f in
    let both = length-append (field_bytes f) (bytes_of fields) in
    omega (arith, rest, here, both)

-- the header without its root and path
abbrev behind_path : CallHeader → List Field
behind_path h =
    word h.client ∷ long h.client_incarnation ∷ long h.client_index
    ∷ word h.server ∷ long h.server_incarnation ∷ word h.procedure
    ∷ word (length h.clock) ∷ map long h.clock

ask_width : (h : CallHeader) → weigh field_len (call_fields (Ask h)) ≡ 26 + weigh field_len (map word h.path) + weigh field_len (map long h.clock)
ask_width h = (let both = weigh-append field_len (map word h.path) (behind_path h) in omega (arith, both))

-- it doesn't depend on the views that it names
ask_long : (h g : CallHeader) (body : List ℕ) → h.path ≡ g.path → h.clock ≡ g.clock → length (ask_message h body) ≡ length (ask_message g body)
ask_long h g body path clock =
    let one_ = fields_long (call_fields (Ask h)) in
    let other = fields_long (call_fields (Ask g)) in
    let wide = ask_width h in
    let wide_other = ask_width g in
    let paths = ap (λ l. weigh field_len (map word l)) path in
    let clocks = ap (λ l. weigh field_len (map long l)) clock in
    let both = length-append (bytes_of (call_fields (Ask h))) body in
    let both_other = length-append (bytes_of (call_fields (Ask g))) body in
    omega (arith, one_, other, wide, wide_other, paths, clocks, both, both_other)

no_total : (n x : ℕ) (f : ℕ → ℕ) → ((k : ℕ) → k < n → ⊥) → total n f ≤ x
no_total zero x f none = omega arith
no_total (suc n) x f none = absurd (none n (omega arith))

module _ {M : Type 0} (declared : M → Signature) (turn : M → List ValueTree → ℕ → List ValueTree → List Outcome → NextTurn) (first : M → List ValueTree)
    (lawful : (hosted : M) → IsModule (behaviour declared turn first hosted))
    (d : Deployment) (modules : List M) (hosted : List (Option M)) (lines : List Line) (booted last : WorldState M)
    (world : IsWorldOf declared turn first d modules hosted lines booted last) (alone : All IsDelivery lines) where
  abbrev program : List Behaviour
  program = behaviours declared turn first modules

  abbrev happened : ℕ → WireActs Purpose
  happened = acts declared turn first lawful d modules hosted lines booted last world alone

  abbrev here : ℕ → ℕ → Acts
  here node other = at_pair d happened node other

  holds : Holds declared turn first lawful d modules hosted lines booted last world alone happened last
  holds = holds_at_last declared turn first lawful d modules hosted lines booted last world alone

  stands : Stands d happened last
  stands = world_stands declared turn first d hosted modules lines booted last world.deployment world.troupes world.hosts world.boots world.leads

  began_so : Stands d (at_boot declared turn first d hosted) booted
  began_so = began declared turn first lawful d modules hosted lines booted last world

  live : AllLive booted
  live = boot_live declared turn first d hosted modules booted world.boots

  -- the segments of the call of a number, and of the return to one
  abbrev call_part : ℕ → ℕ → ℕ → ℕ
  call_part node other k = segments_in (call_at 0 (here node other) k)

  abbrev return_part : ℕ → ℕ → ℕ → ℕ
  return_part node other k = segments_in (return_at (here node other) k)

  returns_below : (node other : ℕ) → ReturnsBelow (calls_made (here other node)) (here node other)
  returns_below node other call message is =
      let r = returns_are_replies declared turn first lawful d modules hosted lines booted last world alone node other call message is in
      let within = (made_call 0 (here other node) call (ap is_some r.3)).1 in
      omega (arith, within)

  module _ (node other : ℕ) (node_below : node < length d.nodes) (other_below : other < length d.nodes) (differs : other ≢ node) where
    s : (t : Standing M) × (slice_get last.nodes node ≡ Some t)
    s = get_there last.nodes node (subst (λ k. node < k) (sym stands.all) node_below)

    lawful_here : AreLawful 0 d.format (here node other)
    lawful_here = lawful_at d node other s.0.node.wire (happened node) (stands.stands node s.0 s.1) other_below differs

    abbrev count : ℕ
    count = calls_made (here node other)

    abbrev Called : Caller → List ℕ → Type 0
    Called = CalledAt d happened node

    said_at : (k : ℕ) → k < count → IsSaidCall (CallSo program Called (troupe_at d node)) (ReturnSo program Called (troupe_at d node)) (beginning_of d node) (happened node) other k
    said_at k below =
        let m = some_is (call_at 0 (here node other) k) (call_made 0 (here node other) k (omega arith) (omega (arith, below))) in
        call_said (CallSo program Called (troupe_at d node)) (ReturnSo program Called (troupe_at d node)) (beginning_of d node) (happened node) other k m.0 (holds.0.said node) m.1

    -- ---- a member

    module _ (place : ℕ) (hosts : troupe_at d node ≡ Some place) (m : MemberState M) (acting : s.0.node.acting ≡ member m) (truth : IsTrueAt declared turn first program d Called place m) where
      -- what a call was made for, and what it says
      record IsCallOf (k : ℕ) : Type 0 where
        name : AskName
        server : ℕ
        message : List ℕ
        purpose_is : purpose_of (pair_of (beginning_of d node)) other (happened node) k ≡ Some (for.Ask name server)
        message_is : call_at 0 (here node other) k ≡ Some message
        is : IsAskMessage (history_of program) place (first m.performing.hosted) Called name server message
        named : Named m.performing.kept name.run name.ask
        entry : IsEntryOf (boot_views d.troupes) server other

      calm : CalmAt declared turn first lawful program world.agree (are_modules declared turn first modules lawful) (are_proper declared turn first d modules world.troupes) d world.deployment (many declared turn first lawful d modules hosted lines booted last world)
          (fits declared turn first d modules world.troupes) node (happened node) m
      calm = holds.2.calm node s.0 m s.1 acting

      call_of : (k : ℕ) → k < count → IsCallOf k
      call_of k below =
          let c = said_at k below in
          let p = calls_are_asks declared turn first lawful d modules hosted lines booted last world alone node other k c.purpose c.purpose_is in
          let same_first : first m.performing.hosted ≡ first_at program place = ap (λ (o : Option Behaviour). option_map_or (λ (b : Behaviour). b.first) o []) (sym truth.at) in
          let purpose_is = c.purpose_is ∙ ap (λ (x : Purpose). Some x) p.2 in
          let n = calm.named other k p.0.run p.0.ask p.1 purpose_is in
          record {
            name = p.0;
            server = p.1;
            message = c.message;
            purpose_is = purpose_is;
            message_is = c.message_is;
            is = subst (λ f. IsTrueCallFor (history_of program) place f Called (for.Ask p.0 p.1) c.message) (sym same_first)
                (subst (λ x. CallSo program Called (Some place) x c.message) p.2 (subst (λ (o : Option ℕ). CallSo program Called o c.purpose c.message) hosts c.so));
            named = n.0;
            entry = n.1;
          }

      -- the return to a call is the reply to its ask
      return_is : (k : ℕ) (c : IsCallOf k) (message : List ℕ) → return_at (here other node) k ≡ Some message → message ≡ reply_message (reply_to c.is.named.ask)
      return_is k c message at = by_server (troupe_at d other) r
        where
          Theirs : Caller → List ℕ → Type 0
          Theirs = CalledAt d happened other

          caller : Caller
          caller = record { node = node; number = k }

          r : ReturnSo program (λ _ l. l ≡ c.message) (troupe_at d other) caller message
          r = return_so_grows program (CalledAt d happened other) (λ _ l. l ≡ c.message) (troupe_at d other) caller message (λ l same. same_Some l c.message (sym same ∙ c.message_is))
              (return_said (CallSo program (CalledAt d happened other) (troupe_at d other)) (ReturnSo program (CalledAt d happened other) (troupe_at d other)) (beginning_of d other) (happened other) node k message (holds.0.said other) at)

          given : QuietReturn caller message
          given = return_said QuietCall QuietReturn (beginning_of d other) (happened other) node k message (holds.1.said other) at

          by_true : (server : ℕ) (firsts : List ValueTree) → IsTrueReturn (history_of program) server firsts (λ _ l. l ≡ c.message) caller message → message ≡ reply_message (reply_to c.is.named.ask)
          by_true server firsts so =
              let t = true_reply program (λ _ l. l ≡ c.message) server firsts caller message
              (λ n f. ask_no_fetch c.is.header c.is.body server n c.is.header_is (sym c.is.message_is ∙ sym f)) so given in
              t.message_is ∙ ap reply_message
              (answers_ask declared turn first program world.agree (are_modules declared turn first modules lawful) (are_proper declared turn first d modules world.troupes) d place Called m truth.at server firsts caller c.message message other (occurs.IsBefore c.name other) c.name c.server c.is t)

          by_server : (o : Option ℕ) → ReturnSo program (λ _ l. l ≡ c.message) o caller message → message ≡ reply_message (reply_to c.is.named.ask)
          by_server (Some server) so = by_true server (first_at program server) so
          by_server None so = by_true 0 [] (inr (inr so))

      -- a call and its return have the segments that the ask has
      weight_le : (k : ℕ) (c : IsCallOf k) → call_part node other k + return_part other node k ≤ segments_of place c.name.run c.is.named.run c.name.ask c.is.named.ask
      unfolding segments_of
      weight_le k c =
          let n = c.is.named in
          let header = header_of place c.name.run n.run c.name.ask n.ask in
          let long = ask_long c.is.header header (spelling_of_all n.ask.arguments) n.so.path n.so.clock in
          let message : c.message ≡ ask_message c.is.header (spelling_of_all n.ask.arguments) = c.is.message_is ∙ ap (ask_message c.is.header) n.so.body_is in
          let called : call_part node other k ≡ segment_count (ask_message header (spelling_of_all n.ask.arguments)) =
          ap segments_in c.message_is ∙ ap segment_count message ∙ ap (λ x. (x + (part_size - 1)) / part_size) long in
          let returned = by_return (return_at (here other node) k) refl in
          omega (arith, called, returned)
        where
          by_return : (o : Option (List ℕ)) → return_at (here other node) k ≡ o → segments_in o ≤ segment_count (reply_message (record { clock = c.is.named.ask.after; outcome = c.is.named.ask.reply }))
          by_return None at = omega arith
          by_return (Some message) at = (let same = ap segment_count (return_is k c message at) in omega (arith, same))

      -- so they weigh no more than there is room for
      cell_is : (k : ℕ) (c : IsCallOf k) → cell d (history_of program) place other c.name.run c.name.ask ≡ segments_of place c.name.run c.is.named.run c.name.ask c.is.named.ask
      cell_is k c =
          let n = c.is.named in
          let h = history_of program in
          let weight = segments_of place c.name.run n.run c.name.ask n.ask in
          let among : is_among (founders_of d n.ask.callee) other ≡ true =
          ap (λ t. is_among (founders_of d t) other) (sym (c.is.server_is ∙ n.so.server)) ∙ entry_founder d c.server other c.entry in
          ap (λ o. option_map_or (λ run. option_map_or (ask_cell d h other place c.name.run run c.name.ask) (slice_get run.asks c.name.ask) 0) o 0) n.there.run_is
          ∙ ap (λ o. option_map_or (ask_cell d h other place c.name.run n.run c.name.ask) o 0) n.there.ask_is
          ∙ ap (λ b. if b then 0 else if_so (is_among (founders_of d n.ask.callee) other) weight) n.there.calls_left
          ∙ ap (λ b. if_so b weight) among

      -- two calls to one node are for two asks
      abbrev name_at : ℕ → AskName
      name_at k = name_of (purpose_of (pair_of (beginning_of d node)) other (happened node) k)

      row_bound : total count (λ k. call_part node other k + return_part other node k) ≤ row d (history_of program) place other
      row_bound =
          total_into_two count (length (runs_of (history_of program) place)) (asks_at d (history_of program) place) (λ k. call_part node other k + return_part other node k) (cell d (history_of program) place other)
          (λ k. (name_at k).run) (λ k. (name_at k).ask)
          (λ k below.
          let c = call_of k below in
          let n = c.is.named in
          let h = history_of program in
          let there : name_at k ≡ c.name = ap name_of c.purpose_is in
          let asks : asks_at d h place c.name.run ≡ length n.run.asks = ap (λ o. option_map_or (λ (run : Run). length run.asks) o 0) n.there.run_is in
          let within = slice_get_within n.run.asks c.name.ask n.ask n.there.ask_is in
          let weight = weight_le k c in
          let same = cell_is k c in
          subst (λ (x : AskName). (x.run < length (runs_of h place)) × (x.ask < asks_at d h place x.run) × (call_part node other k + return_part other node k ≤ cell d h place other x.run x.ask)) (sym there)
          (slice_get_within (runs_of h place) c.name.run n.run n.there.run_is, omega (arith, asks, within), omega (arith, weight, same)))
          (λ k j k_below j_below runs asks.
          let c = call_of k k_below in
          let e = call_of j j_below in
          let name : name_at j ≡ name_at k = λ i. record { run = sym runs i; ask = sym asks i } in
          let same : e.name ≡ c.name = sym (ap name_of e.purpose_is) ∙ name ∙ ap name_of c.purpose_is in
          calm.once other k j c.name.run c.name.ask c.server e.server c.purpose_is (e.purpose_is ∙ ap (λ (x : AskName). Some (for.Ask x e.server)) same))

      -- one that makes a call is a founder
      spare_silent : is_among (founders_of d place) node ≡ false → (k : ℕ) → k < count → ⊥
      spare_silent none k below = none-some c.named.run (ap (λ l. slice_get l c.name.run) (sym runs) ∙ c.named.run_is)
        where
          c : IsCallOf k
          c = call_of k below

          still : MemberQuiet declared turn first lawful program world.agree (are_modules declared turn first modules lawful) (are_proper declared turn first d modules world.troupes) d Called (phase_at d node) place m
          still =
              subst (λ o. NodeQuiet declared turn first lawful program world.agree (are_modules declared turn first modules lawful) (are_proper declared turn first d modules world.troupes) d world.deployment (many declared turn first lawful d modules hosted lines booted last world) Called node o (member m)) hosts
              (subst (λ a. NodeQuiet declared turn first lawful program world.agree (are_modules declared turn first modules lawful) (are_proper declared turn first d modules world.troupes) d world.deployment (many declared turn first lawful d modules hosted lines booted last world) Called node (troupe_at d node) a) acting
              (holds.1.nodes node s.0 s.1))

          by_troupe : (o : Option Troupe) → is_among (option_map_or (λ (t : Troupe). t.founders) o []) node ≡ false → option_map_or (λ (t : Troupe). phase_of (beginning_in t node)) o Outside ≡ Outside
          by_troupe None none_ = refl
          by_troupe (Some t) none_ = ap (λ b. phase_of (if b then Begin.Founder else Begin.Spare)) none_

          outside : phase_at d node ≡ Outside
          outside = ap (λ (o : Option ℕ). option_map_or (λ (t : Troupe). phase_of (beginning_in t node)) (option_and_then (slice_get d.troupes) o) Outside) hosts ∙ by_troupe (slice_get d.troupes place) none

          runs : m.performing.kept.runs ≡ []
          runs = truth.rested.sound.kept.inactive (ap is_active (still.phase_is ∙ outside))

      member_bound : total count (λ k. call_part node other k + return_part other node k) ≤ between d (history_of program) node other
      member_bound = by_founder (is_among (founders_of d place) node) refl
        where
          place_below : (o : Option Troupe) → slice_get d.troupes place ≡ o → is_among (option_map_or (λ (t : Troupe). t.founders) o []) node ≡ true → place < length d.troupes
          place_below None at among = absurd (let clash : false ≡ true = among in cc)
          place_below (Some t) at among = slice_get_within d.troupes place t at

          by_founder : (b : Bool) → is_among (founders_of d place) node ≡ b → total count (λ k. call_part node other k + return_part other node k) ≤ between d (history_of program) node other
          by_founder false none = no_total count (between d (history_of program) node other) (λ k. call_part node other k + return_part other node k) (spare_silent none)
          by_founder true among =
              let part = total_part (length d.troupes) (λ p. if_so (is_among (founders_of d p) node) (row d (history_of program) p other)) place (place_below (slice_get d.troupes place) refl among) in
              let whole : if_so (is_among (founders_of d place) node) (row d (history_of program) place other) ≡ row d (history_of program) place other = ap (λ b. if_so b (row d (history_of program) place other)) among in
              let bound = row_bound in
              omega (arith, part, whole, bound)

    -- ---- any node

    calls_bound : total count (λ k. call_part node other k + return_part other node k) ≤ between d (history_of program) node other
    calls_bound = by_own (troupe_at d node) refl s.0.node.acting refl (holds.0.nodes node s.0 s.1)
      where
        by_own : (own : Option ℕ) → troupe_at d node ≡ own → (a : Acting M) → s.0.node.acting ≡ a → ActsTrue declared turn first program d Called (troupe_at d node) s.0.node.acting
            → total count (λ k. call_part node other k + return_part other node k) ≤ between d (history_of program) node other
        by_own None hosts a acting truth =
            no_total count (between d (history_of program) node other) (λ k. call_part node other k + return_part other node k)
            (λ k below. (let c = said_at k below in absurd (subst (λ (o : Option ℕ). CallSo program Called o c.purpose c.message) hosts c.so)))
        by_own (Some place) hosts (ringmaster kept) acting truth = absurd (subst (λ a. ActsTrue declared turn first program d Called (Some place) a) acting (subst (λ o. ActsTrue declared turn first program d Called o s.0.node.acting) hosts truth))
        by_own (Some place) hosts (member m) acting truth =
            member_bound place hosts m acting (subst (λ a. ActsTrue declared turn first program d Called (Some place) a) acting (subst (λ o. ActsTrue declared turn first program d Called o s.0.node.acting) hosts truth))

    -- what it has sent to the other one
    data_bound : datas (sent_in (beginning_of d node) other (happened node)) ≤ total count (call_part node other) + total (calls_made (here other node)) (return_part node other)
    data_bound =
        let few = few_datas d.format (calls_made (here other node)) (here node other) lawful_here
        (quiet_on declared turn d first hosted lines booted last alone began_so live world.leads node (start 0 d.format) other) (returns_below node other) in
        let same = ap datas (sent_is (beginning_of d node) (happened node) other lawful_here) in
        omega (arith, few, same)

  -- ---- all pairs

  abbrev calls_to : ℕ → ℕ → ℕ
  calls_to node other = if other == node then 0 else total (calls_made (here node other)) (call_part node other)

  abbrev returns_to : ℕ → ℕ → ℕ
  returns_to node other = if other == node then 0 else total (calls_made (here other node)) (return_part node other)

  pair_data : (node other : ℕ) → node < length d.nodes → other < length d.nodes → data_to (beginning_of d node) (happened node) other ≤ calls_to node other + returns_to node other
  pair_data node other node_below other_below = elim (eqb_tells other node) [
    | inl same ↦ (let none : data_to (beginning_of d node) (happened node) other ≡ 0 = ap (λ b. if b then 0 else datas (sent_in (beginning_of d node) other (happened node))) same.0 in omega (arith, none))
    | inr differ ↦
        let bound = data_bound node other node_below other_below differ.1 in
        let sent : data_to (beginning_of d node) (happened node) other ≡ datas (sent_in (beginning_of d node) other (happened node)) = ap (λ b. if b then 0 else datas (sent_in (beginning_of d node) other (happened node))) differ.0 in
        let calls : calls_to node other ≡ total (calls_made (here node other)) (call_part node other) = ap (λ b. if b then 0 else total (calls_made (here node other)) (call_part node other)) differ.0 in
        let returns : returns_to node other ≡ total (calls_made (here other node)) (return_part node other) = ap (λ b. if b then 0 else total (calls_made (here other node)) (return_part node other)) differ.0 in
        omega (arith, bound, sent, calls, returns)
  ]

  pair_bound : (node other : ℕ) → node < length d.nodes → other < length d.nodes → calls_to node other + returns_to other node ≤ between d (history_of program) node other
  pair_bound node other node_below other_below = elim (eqb_tells other node) [
    | inl same ↦
        let calls : calls_to node other ≡ 0 = ap (λ b. if b then 0 else total (calls_made (here node other)) (call_part node other)) same.0 in
        let returns : returns_to other node ≡ 0 = ap (λ b. if b then 0 else total (calls_made (here node other)) (return_part other node)) (eq-eqb node other (sym same.1)) in
        omega (arith, calls, returns)
    | inr differ ↦
        let bound = calls_bound node other node_below other_below differ.1 in
        let calls : calls_to node other ≡ total (calls_made (here node other)) (call_part node other) = ap (λ b. if b then 0 else total (calls_made (here node other)) (call_part node other)) differ.0 in
        let returns = none_or (node == other) (total (calls_made (here node other)) (return_part other node)) in
        let both = total_plus (calls_made (here node other)) (call_part node other) (return_part other node) in
        omega (arith, bound, calls, returns, both)
  ]
    where
      none_or : (b : Bool) (x : ℕ) → (if b then 0 else x) ≤ x
      none_or true x = omega arith
      none_or false x = omega arith

  abbrev nodes : ℕ
  nodes = length d.nodes

  all_pairs : total nodes (λ node. data_sent (beginning_of d node) (happened node)) ≤ all_segments d (history_of program)
  all_pairs =
      let each = total_le nodes (λ node. data_sent (beginning_of d node) (happened node)) (λ node. total nodes (calls_to node) + total nodes (returns_to node))
      (λ node node_below.
      let le = total_le nodes (data_to (beginning_of d node) (happened node)) (λ other. calls_to node other + returns_to node other) (λ other other_below. pair_data node other node_below other_below) in
      let both = total_plus nodes (calls_to node) (returns_to node) in
      omega (arith, le, both)) in
      let split = total_plus nodes (λ node. total nodes (calls_to node)) (λ node. total nodes (returns_to node)) in
      let swap = total_swap nodes nodes returns_to in
      let join = total_plus nodes (λ node. total nodes (calls_to node)) (λ node. total nodes (λ other. returns_to other node)) in
      let bound = total_le nodes (λ node. total nodes (calls_to node) + total nodes (λ other. returns_to other node)) (λ node. total nodes (between d (history_of program) node))
      (λ node node_below.
      let le = total_le nodes (λ other. calls_to node other + returns_to other node) (between d (history_of program) node) (λ other other_below. pair_bound node other node_below other_below) in
      let both = total_plus nodes (calls_to node) (λ other. returns_to other node) in
      omega (arith, le, both)) in
      let history = all_nodes d (history_of program) nodes in
      omega (arith, each, split, swap, join, bound, history)

  -- ---- all that was sent

  counted_at_boot : DataCounted declared turn d (at_boot declared turn first d hosted) booted
  counted_at_boot =
      let counts = (boot_counts declared turn first d hosted modules booted world.boots).0 in
      let long = ap (λ n. total n (λ node. data_of_end (node_booting.boot_node declared turn first d (own_of declared turn first d hosted node) node))) began_so.all in
      let each = total_le nodes (λ node. data_of_end (node_booting.boot_node declared turn first d (own_of declared turn first d hosted node) node)) (λ node. data_sent (beginning_of d node) (at_boot declared turn first d hosted node)) (λ node below. of_node node below) in
      omega (arith, counts, long, each)
    where
      of_node : (node : ℕ) → node < length d.nodes → data_of_end (node_booting.boot_node declared turn first d (own_of declared turn first d hosted node) node) ≤ data_sent (beginning_of d node) (at_boot declared turn first d hosted node)
      of_node node below = by_end (node_booting.boot_node declared turn first d (own_of declared turn first d hosted node) node) refl
        where
          by_end : (e : node_step.Ended M) → node_booting.boot_node declared turn first d (own_of declared turn first d hosted node) node ≡ e → data_of_end e ≤ data_sent (beginning_of d node) (at_boot declared turn first d hosted node)
          by_end (Ok ended) ends = (let counted = (boot_gives declared turn first d (own_of declared turn first d hosted node) node ended below ends).counted in omega (arith, counted))
          by_end (Err peer) ends = omega arith

  pub few_sent : AreOnce lines → length last.sent ≤ 2 * all_segments d (history_of program)
  few_sent once =
      let counted = lead_keeps declared turn d (λ a w. DataCounted declared turn d a w) (counted_still declared turn d) lines (at_boot declared turn first d hosted) booted last alone began_so live counted_at_boot world.leads in
      let bound = all_pairs in
      let all_ = few_in_all declared turn d lines (at_boot declared turn first d hosted) booted last alone once began_so live (boot_counts declared turn first d hosted modules booted world.boots).1 world.leads in
      omega (arith, counted, bound, all_)
