-- What a member of a program makes goes to other nodes of it, by what its record says in the end.
use Rattle.std.proofs.Common.{◌≡◌, ℕ, ◌<◌, Bool, true, false, ◌&&◌, if◌then◌else◌, List, [], ◌∷◌, All, drop, Option, Some, None, refl, subst}
use Rattle.std.specs.Prelude.{IfSome, option_map, option_and_then, ◌==◌}
use Rattle.std.specs.List.{flat_map, list_all}
use Rattle.std.proofs.lemmas.Bool.{and_parts}
use Rattle.std.proofs.lemmas.List.Elements.{All-nil, All-cons, All-weaker}
use Rattle.circus_value.specs.ValueTree.{ValueTree}
use Rattle.circus_value.specs.declared.caller.Caller.{Caller}
use Rattle.circus_header.specs.declared.call.Request.{Request}
use Rattle.circus_header.specs.declared.call.Call.{Call}
use Rattle.circus_header.specs.declared.call.Call.TheVariants.{Ask, Ring, Fetch}
use Rattle.circus_header.specs.declared.answer.ReturnHeader.{ReturnHeader}
use Rattle.circus_header.specs.declared.answer.ReturnHeader.TheVariants as says
use Rattle.circus_collate.specs.Deployment.{IsDeployment}
use Rattle.circus_collate.specs.declared.deployment.Deployment.{Deployment}
use Rattle.circus_collate.specs.declared.deployment.Troupe.{Troupe}
use Rattle.circus_collate.specs.declared.table.Table.{Table}
use Rattle.circus_collate.specs.declared.view.Entry.{Entry}
use Rattle.circus_model.specs.Behaviour.{Behaviour}
use Rattle.circus_model.specs.Lawful.{arguments_fit, import_of}
use Rattle.circus_model.specs.declared.signature.Import.{Import}
use Rattle.circus_model.proofs.Turning.{some_true}
use Rattle.circus_record.specs.declared.record.AskRecord.{AskRecord}
use Rattle.circus_record.specs.declared.record.MemberRecord.{MemberRecord}
use Rattle.circus_ring.specs.RingTable.{troupe_of}
use Rattle.circus_wire.specs.WireActs.{WireActs}
use Rattle.circus_wire.specs.declared.delivery.Heard.{Heard}
use Rattle.circus_wire.specs.declared.delivery.Heard.TheVariants.{Dropped, Taken, Called, Returned}
use Rattle.circus_segment.specs.Segment.{reading}
use Rattle.circus_member_rules.specs.declared.occurrence.AskName.{AskName}
use Rattle.circus_member_rules.specs.declared.occurrence.Occurrence.{Occurrence}
use Rattle.circus_member_rules.specs.declared.occurrence.Occurrence.TheVariants as occurs
use Rattle.circus_member_rules.specs.declared.occurrence.Purpose.{Purpose}
use Rattle.circus_member_rules.specs.declared.occurrence.Purpose.TheVariants as for
use Rattle.circus_member_theory.specs.Asks.{first_calls, knows, new_asks}
use Rattle.circus_member_theory.specs.Order.{made_in_step}
use Rattle.circus_member_theory.specs.Past as past
use Rattle.circus_member_theory.specs.Past.{Past}
use Rattle.circus_node.specs.Accepting.{troupe_at, recorded_ask, reply_by, said_by, may_ask, taken_call, accepted_call, may_belong, are_distinct, may_tell, taken_table, accepted_table}
use Rattle.circus_node.specs.Bodies.{restored_in}
use Rattle.circus_node.specs.Booting.{IsOfTroupe}
use Rattle.circus_node.specs.Headers.{call_in, return_in, table_at}
use Rattle.circus_node.specs.Trace.{Trace, booted, stepped}
use Rattle.circus_node.specs.declared.event.Event.{Event}
use Rattle.circus_node.specs.declared.event.Event.TheVariants as comes
use Rattle.circus_world_theory.specs.Happened.{with_one}
use Rattle.circus_world_theory.specs.Histories.{beginning_of}
use Rattle.circus_world_theory.proofs.Border.Hosting.{Hosts, belongs_hosts, boot_views_are, may_be_called}
use Rattle.circus_world_theory.proofs.Border.Reaching.{MayBeCalled, TellsOf}
use Rattle.circus_headline_theory.specs.NodeRun.{occurrence_by_record, happens_by}
use Rattle.circus_headline_theory.specs.Peers.{IsPeer, GoesToPeer}
use Rattle.circus_headline_theory.specs.Trace.{acts_of, heard_in}
use Rattle.circus_dues.specs.NodeRuns.{here, known, begins, lived, happens}
use Rattle.circus_dues.specs.Seen.Sound.{IsSayableAsk, IsSayableRun, IsSayable}
use Rattle.circus_dues.proofs.Reach.{AllTellOf, AsksEarlier, boot_goes, step_goes}

-- ---- what is accepted

all_pass : {X : Type 0} (P : X → Type 0) (test : X → Bool) (xs : List X) → ((x : X) → test x ≡ true → P x) → list_all test xs ≡ true → All P xs
all_pass P test [] each all = All-nil P
all_pass P test (x ∷ xs) each all = let parts = and_parts (test x) (list_all test xs) all in All-cons P x xs (each x parts.0) (all_pass P test xs each parts.1)

module _ (d : Deployment) (good : IsDeployment d) where
  -- what happens, if anything does, tells of hosts of a troupe
  abbrev Tells : Option Occurrence → Type 0
  Tells o = IfSome o (TellsOf (Hosts d))

  and_then_tells : {A : Type 0} (f : A → Option Occurrence) (o : Option A) → ((a : A) → Tells (f a)) → Tells (option_and_then f o)
  and_then_tells f None each = tt
  and_then_tells f (Some a) each = each a

  mapped_tells : {A : Type 0} (f : A → Occurrence) (o : Option A) → ((a : A) → TellsOf (Hosts d) (f a)) → Tells (option_map f o)
  mapped_tells f None each = tt
  mapped_tells f (Some a) each = each a

  if_tells : (test : Bool) (o : Occurrence) → (test ≡ true → TellsOf (Hosts d) o) → Tells (if test then Some o else None)
  if_tells true o is = is refl
  if_tells false o is = tt

  -- the entries of a table are founders or spares of its troupe
  table_tells : (request : Request) (table : Table) → may_tell d request table ≡ true → TellsOf (Hosts d) (occurs.Told request table)
  table_tells request table may =
      all_pass (λ (e : Entry). Hosts d table.view.troupe e.node) (λ (e : Entry). may_belong d table.view.troupe e.node) table.view.entries
      (λ e belongs. belongs_hosts d good table.view.troupe e.node belongs)
      (and_parts ((table.view.troupe == troupe_of request) && are_distinct table.view.entries) (list_all (λ (e : Entry). may_belong d table.view.troupe e.node) table.view.entries) may).1

  module _ (b : Behaviour) (node number : ℕ) (kept : MemberRecord) where
    call_tells : (sender : Caller) (message : List ℕ) → Tells (accepted_call d b.declared number sender message)
    call_tells sender message = and_then_tells (λ (read : Call × ℕ). taken_call d b.declared number sender read.0 (drop read.1 message)) (call_in message) (λ read. by_call read.0 (drop read.1 message))
      where
        by_call : (call : Call) (body : List ℕ) → Tells (taken_call d b.declared number sender call body)
        by_call (Ask h) body = if_tells (may_ask d b.declared number sender.node h body) (occurs.Asked h body sender) (λ is. tt)
        by_call (Ring request) body = tt
        by_call (Fetch troupe incarnation) body = if_tells (troupe == number) (occurs.Fetched incarnation sender) (λ is. tt)

    answer_tells : (name : AskName) (server from : ℕ) (message : List ℕ)
        → Tells (option_and_then (λ (read : ReturnHeader × ℕ). said_by d b.declared (recorded_ask kept name) name server from read.0 read.1 message) (return_in message))
    answer_tells name server from message =
        and_then_tells (λ (read : ReturnHeader × ℕ). said_by d b.declared (recorded_ask kept name) name server from read.0 read.1 message) (return_in message) (λ read. by_header read.0 read.1)
      where
        by_header : (h : ReturnHeader) (at : ℕ) → Tells (said_by d b.declared (recorded_ask kept name) name server from h at message)
        by_header (says.Reply clock) at = mapped_tells (λ reply. occurs.Replied name from reply) (reply_by d b.declared (recorded_ask kept name) clock at message) (λ reply. tt)
        by_header (says.Stale incarnation) at = tt
        by_header (says.Before first) at = tt
        by_header (says.Snapshot count) at = tt
        by_header says.Table at = tt

    ring_tells : (request : Request) (message : List ℕ) → Tells (accepted_table d request message)
    ring_tells request message = and_then_tells (λ (read : ReturnHeader × ℕ). taken_table d request read.0 read.1 message) (return_in message) (λ read. by_header read.0 read.1)
      where
        by_header : (h : ReturnHeader) (at : ℕ) → Tells (taken_table d request h at message)
        by_header (says.Reply clock) at = tt
        by_header (says.Stale incarnation) at = tt
        by_header (says.Before first) at = tt
        by_header (says.Snapshot count) at = tt
        by_header says.Table at =
            and_then_tells (λ table. if may_tell d request table then Some (occurs.Told request table) else None) (table_at at message)
            (λ table. if_tells (may_tell d request table) (occurs.Told request table) (table_tells request table))

    heard_tells : (from : ℕ) (heard : Heard Purpose) → Tells (occurrence_by_record d b.declared number kept from heard)
    heard_tells from Dropped = tt
    heard_tells from Taken = tt
    heard_tells from (Called sender message) = call_tells sender message
    heard_tells from (Returned n (for.Ask name server) message) = answer_tells name server from message
    heard_tells from (Returned n (for.Ring request) message) = ring_tells request message
    heard_tells from (Returned n for.Fetch message) =
        mapped_tells (λ (restored : List ValueTree × ℕ). occurs.Restored restored.0 restored.1) (restored_in b.declared.variables b.declared.limit message) (λ restored. tt)

    event_tells : (acts : WireActs Purpose) (event : Event) → Tells (happens_by d b.declared node number kept acts event)
    event_tells acts (comes.Datagram from bytes) = heard_tells from (heard_in (beginning_of d node) acts from (reading bytes))
    event_tells acts comes.Tick = tt
    event_tells acts (comes.Down other) = tt
    event_tells acts comes.Join = tt

    -- ---- along a trace

    one_more : (p : Past) (at : ℕ) (o : Option Occurrence) → AllTellOf (Hosts d) p → Tells o → AllTellOf (Hosts d) (with_one p at o)
    one_more p at None before tells = before
    one_more p at (Some o) before tells = (before, tells)

    lived_tells : (troupe : Troupe) (t : Trace) → AllTellOf (Hosts d) (lived d b node number troupe kept t)
    lived_tells troupe (booted made outputs) = tt
    lived_tells troupe (stepped t at event made outputs) =
        let acts = acts_of (beginning_of d node) t in
        one_more (lived d b node number troupe kept t) at (happens_by d b.declared node number kept acts event) (lived_tells troupe t) (event_tells acts event)

-- ---- a member of a troupe of a program, at a node of it

module _ (d : Deployment) (b : Behaviour) (node number : ℕ) (troupe : Troupe) (kept : MemberRecord)
    (good : IsDeployment d) (hosts : troupe_at d node ≡ Some number) (fits : IsOfTroupe d number b.declared) where
  may_call : MayBeCalled (Hosts d) (IsPeer (beginning_of d node)) (here d b node number troupe kept)
  may_call =
      let may = may_be_called d good node (here d b node number troupe kept) refl hosts in
      record {
        earlier = λ other n below of. (let there = may.earlier other n below of in (there.1, there.0));
        ring = (may.ring.1, may.ring.0);
        others = λ other n differs of. (let there = may.others other n differs of in (there.1, there.0));
      }

  -- a record that may say what it says asks imports, which are earlier troupes
  asks_earlier : (modules : ℕ) → IsSayable b.declared modules kept → All (AsksEarlier number) kept.runs
  asks_earlier modules sayable =
      All-weaker (IsSayableRun b.declared modules) (AsksEarlier number) (λ run is. All-weaker (IsSayableAsk b.declared modules) (λ (ask : AskRecord). ask.callee < number) earlier run.asks is.asks) kept.runs sayable
    where
      earlier : (ask : AskRecord) → IsSayableAsk b.declared modules ask → ask.callee < number
      earlier ask is =
          let i = some_true (λ (i : Import). arguments_fit i.procedures ask.procedure ask.arguments) (import_of ask.callee b.declared.imports) is.takes in
          (fits.imports ask.callee i.value i.there).0

  -- the calls of boot go to other nodes
  pub boot_to_peers : (modules : ℕ) → IsSayable b.declared modules kept
      → All (GoesToPeer (beginning_of d node))
      (flat_map (first_calls (here d b node number troupe kept) (known d b node number troupe kept) (knows (here d b node number troupe kept) (known d b node number troupe kept) past.booted))
      (new_asks (here d b node number troupe kept) (known d b node number troupe kept) kept past.booted))
  boot_to_peers modules sayable =
      boot_goes (beginning_of d node) (Hosts d) (here d b node number troupe kept) may_call (known d b node number troupe kept) (boot_views_are d good) (begins d b node number troupe kept) b.first kept
      (asks_earlier modules sayable)

  -- and so do those of a step, whatever came before
  pub step_to_peers : (modules : ℕ) → IsSayable b.declared modules kept → (u : Trace) (at : ℕ) (event : Event) (o : Occurrence) → happens d b node number troupe kept u event ≡ Some o
      → All (GoesToPeer (beginning_of d node))
      (made_in_step (here d b node number troupe kept) (known d b node number troupe kept) (begins d b node number troupe kept) b.first kept (lived d b node number troupe kept u)
      (past.followed (lived d b node number troupe kept u) at o))
  step_to_peers modules sayable u at event o is =
      step_goes (beginning_of d node) (Hosts d) (here d b node number troupe kept) may_call (known d b node number troupe kept) (boot_views_are d good) (begins d b node number troupe kept) b.first kept
      (asks_earlier modules sayable) (lived d b node number troupe kept u) at o
      (lived_tells d good b node number kept troupe u, subst (λ x. IfSome x (TellsOf (Hosts d))) is (event_tells d good b node number kept (acts_of (beginning_of d node) u) event))
