-- Where nothing is lost, each run of the history is performed by each founder of its module's troupe.
use Rattle.std.proofs.Common.{◌≡◌, ◌≢◌, ◌⊎◌, inl, inr, ℕ, zero, suc, ◌+◌, ◌-◌, ◌<◌, ◌≤◌, Bool, true, false, ◌&&◌, ◌||◌, List, [], ◌∷◌, ◌++◌, length, map, min, All, Option, None, Some, IsSome, refl, sym, ap, subst, ◌∙◌, arith, eq-eqb, le-leb}
use Rattle.std.specs.Prelude.{slice_get, slice_index, option_map, option_and_then, is_none, nat_le, ◌==◌, if◌then◌else◌}
use Rattle.std.specs.List.{list_any}
use Rattle.std.specs.Option.{option_map_or}
use Rattle.std.proofs.lemmas.Bool.{cases_lt}
use Rattle.std.proofs.lemmas.List.Elements.{All-weaker}
use Rattle.std.proofs.lemmas.Option.{none-some, same_Some, slice_get_within, slice_get-map}
use Rattle.circus_value.specs.ValueTree.{ValueTree}
use Rattle.circus_value.specs.Among.{is_among}
use Rattle.circus_value.specs.declared.caller.Caller.{Caller}
use Rattle.circus_value.specs.declared.outcome.Outcome.{Outcome}
use Rattle.circus_header.specs.declared.call.CallHeader.{CallHeader}
use Rattle.circus_header.specs.declared.answer.Reply.{Reply}
use Rattle.circus_collate.specs.Giving.{is_from}
use Rattle.circus_collate.specs.declared.deployment.Deployment.{Deployment}
use Rattle.circus_collate.specs.declared.deployment.Host.{Host}
use Rattle.circus_collate.specs.declared.deployment.Troupe.{Troupe}
use Rattle.circus_collate.specs.declared.giving.Said.{Said}
use Rattle.circus_collate.specs.declared.kind.Kind.{Kind}
use Rattle.circus_collate.specs.declared.kind.Kind.TheVariants as K
use Rattle.circus_collate.specs.Deployment.{IsKind}
use Rattle.circus_ring.specs.RingTable.{boot_view, boot_views}
use Rattle.circus_model.proofs.Logging.{some_and}
use Rattle.circus_model.proofs.Histories.{in_history, root_runs_once}
use Rattle.circus_model.proofs.Threads.{are_modules}
use Rattle.circus_model.specs.NextTurn.{NextTurn}
use Rattle.circus_model.specs.Agree.{IsAt, IsRoot}
use Rattle.circus_model.specs.Behaviour.{Behaviour, IsModule, behaviours}
use Rattle.circus_model.specs.Execution.{is_spent, history_of}
use Rattle.circus_model.specs.History.{HasMaker, runs_of, run_at, clock_before}
use Rattle.circus_model.specs.Lawful.{import_of, arguments_fit}
use Rattle.circus_model.specs.declared.history.Ask.{Ask}
use Rattle.circus_model.specs.declared.history.Run.{Run}
use Rattle.circus_model.specs.declared.signature.Import.{Import}
use Rattle.circus_model.specs.declared.signature.Signature.{Signature}
use Rattle.circus_record.specs.declared.record.AskRecord.{AskRecord}
use Rattle.circus_record.specs.declared.record.MemberRecord.{MemberRecord}
use Rattle.circus_record.specs.declared.record.RunRecord.{RunRecord}
use Rattle.circus_performing.specs.Performing.{is_active, unless_replied, last_of, open_ask, last_count}
use Rattle.circus_performing.specs.Record.{behaviour, IsRecord}
use Rattle.circus_performing.proofs.Ends.{last_more}
use Rattle.circus_member_theory.proofs.Standing.{IsOpenOf, open_is}
use Rattle.circus_member_rules.specs.MemberState.{MemberState}
use Rattle.circus_node.specs.Accepting.{troupe_at, is_root}
use Rattle.circus_node.specs.Booting.{beginning_in}
use Rattle.circus_member_rules.specs.declared.place.Beginning.TheVariants as Begin
use Rattle.circus_transfer.specs.declared.joiner.Joiner.TheVariants.{Outside, Active}
use Rattle.circus_node.specs.NodeState.{Acting, member, ringmaster, member_record}
use Rattle.circus_schedule.specs.declared.line.Line.{Line}
use Rattle.circus_member_theory.specs.Stands.{IsPerformed, IsIdle, IsBusy, IsUnderWay, Stands}
use Rattle.circus_world_theory.proofs.Boots.{world_stands}
use Rattle.circus_world.specs.WorldState.{WorldState, Standing}
use Rattle.circus_world.proofs.SlotLemmas.{get_there}
use Rattle.circus_wire.specs.WireActs.{WireActs}
use Rattle.circus_member_rules.specs.declared.occurrence.Purpose.{Purpose}
use Rattle.circus_fanout.specs.Asking.{Asking}
use Rattle.std.proofs.lemmas.Bool.{eqb-true}
use Rattle.circus_external.proofs.ShapesAlike.{and_both}
use Rattle.circus_external.specs.Spelling.{spelling_of_all}
use Rattle.circus_collate.specs.Expecting.{expected_nodes}
use Rattle.circus_collate.specs.declared.view.View.{View}
use Rattle.circus_model.proofs.Paths.{one_maker}
use Rattle.circus_gather.specs.Gathering.{is_of_index, is_known, is_counted, expected_callers, call_to_start}
use Rattle.circus_member_rules.specs.Step.{is_idle, next_start}
use Rattle.circus_member_rules.proofs.Held.{All-passed}
use Rattle.circus_world_theory.proofs.Proper.{fits, are_proper}
use Rattle.circus_world_theory.proofs.Saying.{return_said}
use Rattle.circus_world_theory.proofs.Quiescence.Accepts.{both_so}
use Rattle.circus_world_theory.proofs.Quiescence.CalmSteps.{AnyCall, EarlyReturn}
use Rattle.circus_world_theory.proofs.Quiescence.Starting.{IsLike, expected_founders}
use Rattle.circus_gather.specs.Gathering.{reply_of}
use Rattle.circus_member_rules.specs.OpenAsks.{asking_of}
use Rattle.circus_member_rules.specs.Rules.{value_of_ask}
use Rattle.circus_member_rules.specs.Seen.Sound.{IsHeld}
use Rattle.circus_member_rules.specs.Step.{name_of_last, value_of_open}
use Rattle.circus_member_theory.proofs.Histories.{takes, index_is, callee_below}
use Rattle.circus_member_theory.proofs.Accepting.Options.{passes_some}
use Rattle.circus_world_theory.proofs.Quiescence.CalmNodes.{open_so as open_asking}
use Rattle.circus_world_theory.proofs.Quiescence.Collating.{IsWithin}
use Rattle.circus_world_theory.proofs.Quiescence.Starting.{value_so, starts_so}
use Rattle.circus_world_theory.proofs.Quiescence.Stepping.{HasAsking}
use Rattle.circus_header.specs.Reading.{IsOne, calls}
use Rattle.circus_header.specs.declared.call.Call.TheVariants.{Ask as AskOf}
use Rattle.circus_gather.specs.declared.held.HeldCall.{HeldCall}
use Rattle.circus_member_rules.specs.Messages.{ask_message}
use Rattle.circus_member_rules.specs.declared.occurrence.AskName.{AskName}
use Rattle.circus_member_rules.specs.declared.occurrence.Purpose.TheVariants as for
use Rattle.circus_member_theory.specs.Messages.{IsAskAt, AsksSo}
use Rattle.circus_member_theory.specs.Truth.{reply_to, Answers, IsTrueAsking, IsCalled}
use Rattle.circus_world_theory.specs.Histories.{beginning_of}
use Rattle.circus_member_theory.proofs.Accepting.Calls.{ask_header}
use Rattle.circus_world.proofs.SlotLemmas.{all_at}
use Rattle.circus_world_theory.specs.Agreeing.{HasCalled, HasCalledFor}
use Rattle.circus_world_theory.proofs.Saying.{purpose_said}
use Rattle.circus_world_theory.proofs.Quiescence.Quietly.{QuietCall, QuietReturn, low_ask}
use Rattle.circus_world_theory.specs.Worlds.{IsWorldOf}
use Rattle.circus_world_theory.proofs.Stepping.{CalledAt}
use Rattle.circus_world_theory.proofs.True.{CallSo, ReturnSo, IsTrueAt, ActsTrue}
use Rattle.circus_world_theory.proofs.Border.Hosting.{belongs_hosts}
use Rattle.circus_world_theory.specs.Done.{AsksAtMost, AskEnough, IsDone, RootsAreDone, EndsEveryRoot}
use Rattle.circus_world_theory.specs.Quiet.{IsQuiet}
use Rattle.circus_world_theory.specs.Still.{phase_of, phase_at}
use Rattle.circus_world_theory.specs.Told.{Recorded, IsOpenAt, IsTold, IsWaiting}
use Rattle.circus_world_theory.proofs.Quiescence.Booting.{few_runs}
use Rattle.circus_world_theory.proofs.Quiescence.CalmWorlds.{acts, holds_at_last, many}
use Rattle.circus_world_theory.proofs.Quiescence.Ordered.{all_ended}
use Rattle.circus_world_theory.proofs.Quiescence.Quietly.{MemberQuiet, HasCame}
use Rattle.circus_world_theory.proofs.Quiescence.QuietNodes.{NodeQuiet}
use Rattle.circus_world_theory.proofs.Quiescence.Recording.{ended_recorded, going_recorded}
use Rattle.circus_world_theory.proofs.Quiescence.Staying.{idle_count, busy_count}
use Rattle.circus_world_theory.proofs.Quiescence.Told.{boot_there, told}

-- a node is a founder of a troupe
pub record IsFounderAt (d : Deployment) (place node : ℕ) : Type 0 where
  pub troupe : Troupe
  pub there : slice_get d.troupes place ≡ Some troupe
  pub among : is_among troupe.founders node ≡ true

-- a record is in the course of a run, and has come to an ask
pub record BusyAt (kept : MemberRecord) (index number : ℕ) : Type 0 where
  pub asked : AskRecord
  pub last : RunRecord
  pub is_open : open_ask kept ≡ Some asked
  pub last_is : last_of kept.runs ≡ Some last
  pub index_is : suc index ≡ length kept.runs
  pub within : number < length last.asks

-- the open ask is among the asks of the last run
some_asks : (kept : MemberRecord) (asked : AskRecord) (last : RunRecord) → open_ask kept ≡ Some asked → last_of kept.runs ≡ Some last → 0 < length last.asks
some_asks kept asked last is at = go last.asks (sym (ap (option_and_then (λ (r : RunRecord). option_and_then unless_replied (last_of r.asks))) at) ∙ is)
  where
    go : (asks : List AskRecord) → option_and_then unless_replied (last_of asks) ≡ Some asked → 0 < length asks
    go [] some = absurd (none-some asked some)
    go (a ∷ asks) some = omega arith

node_within : (d : Deployment) (node place : ℕ) → troupe_at d node ≡ Some place → node < length d.nodes
node_within d node place is = go (slice_get d.nodes node) refl is
  where
    go : (o : Option Host) → slice_get d.nodes node ≡ o → option_and_then (λ (h : Host). h.module) o ≡ Some place → node < length d.nodes
    go None at of = absurd (none-some place of)
    go (Some h) at of = slice_get_within d.nodes node h at

module _ {M : Type 0} (declared : M → Signature) (turn : M → List ValueTree → ℕ → List ValueTree → List Outcome → NextTurn) (first : M → List ValueTree)
    (lawful : (hosted : M) → IsModule (behaviour declared turn first hosted))
    (d : Deployment) (modules : List M) (hosted : List (Option M)) (lines : List Line) (booted last : WorldState M)
    (world : IsWorldOf declared turn first d modules hosted lines booted last) (lossless : IsQuiet last lines) where
  abbrev pub program : List Behaviour
  program = behaviours declared turn first modules

  abbrev pub happened : ℕ → WireActs Purpose
  happened = acts declared turn first lawful d modules hosted lines booted last world lossless.alone

  -- ---- founders

  pub record Founder (place node : ℕ) : Type 0 where
    pub s : Standing M
    pub m : MemberState M
    pub at : slice_get last.nodes node ≡ Some s
    pub acting : s.node.acting ≡ member m
    pub hosts : troupe_at d node ≡ Some place
    pub true_ : IsTrueAt declared turn first program d (CalledAt d happened node) place m
    pub still : MemberQuiet declared turn first lawful program world.agree (are_modules declared turn first modules lawful) (are_proper declared turn first d modules world.troupes) d (CalledAt d happened node) (phase_at d node) place m
    pub active : is_active m.performing.kept.phase ≡ true

  pub founder_at : (place node : ℕ) → IsFounderAt d place node → Founder place node
  founder_at place node e = by_acting s.0.node.acting refl (subst (λ o. ActsTrue declared turn first program d (CalledAt d happened node) o s.0.node.acting) hosts ((holds_at_last declared turn first lawful d modules hosted lines booted last world lossless.alone).0.nodes node s.0 s.1))
      (subst (λ o. NodeQuiet declared turn first lawful program world.agree (are_modules declared turn first modules lawful) (are_proper declared turn first d modules world.troupes) d world.deployment (many declared turn first lawful d modules hosted lines booted last world) (CalledAt d happened node) node o s.0.node.acting) hosts ((holds_at_last declared turn first lawful d modules hosted lines booted last world lossless.alone).1.nodes node s.0 s.1))
    where
      hosts : troupe_at d node ≡ Some place
      hosts = belongs_hosts d world.deployment place node (ap (λ o. option_map_or (λ (t : Troupe). is_among t.founders node || is_among t.spares node) o false) e.there ∙ ap (λ b. b || is_among e.troupe.spares node) e.among)

      s : (x : Standing M) × (slice_get last.nodes node ≡ Some x)
      s = get_there last.nodes node (subst (λ k. node < k) (sym (world_stands declared turn first d hosted modules lines booted last world.deployment world.troupes world.hosts world.boots world.leads).all) (node_within d node place hosts))

      phase : phase_at d node ≡ Active 0
      phase =
          ap (λ (o : Option ℕ). option_map_or (λ (t : Troupe). phase_of (beginning_in t node)) (option_and_then (slice_get d.troupes) o) Outside) hosts
          ∙ ap (λ (o : Option Troupe). option_map_or (λ (t : Troupe). phase_of (beginning_in t node)) o Outside) e.there
          ∙ ap (λ b. phase_of (if b then Begin.Founder else Begin.Spare)) e.among

      by_acting : (a : Acting M) → s.0.node.acting ≡ a → ActsTrue declared turn first program d (CalledAt d happened node) (Some place) a
          → NodeQuiet declared turn first lawful program world.agree (are_modules declared turn first modules lawful) (are_proper declared turn first d modules world.troupes) d world.deployment (many declared turn first lawful d modules hosted lines booted last world)
          (CalledAt d happened node) node (Some place) a
          → Founder place node
      by_acting (member m) is truth quiet = record {
        s = s.0;
        m = m;
        at = s.1;
        acting = is;
        hosts = hosts;
        true_ = truth;
        still = quiet;
        active = ap is_active (quiet.phase_is ∙ phase);
      }
      by_acting (ringmaster kept) is truth quiet = absurd truth

  module _ (place node : ℕ) (f : Founder place node) where
    abbrev kept : MemberRecord
    kept = f.m.performing.kept

    abbrev b : Behaviour
    b = behaviour declared turn first f.m.performing.hosted

    record_is : IsRecord b f.m.performing.began kept
    record_is = f.true_.rested.sound.kept

    stands : Stands (history_of program) place b.first kept
    stands = f.true_.is.stands f.active

    few : length kept.runs ≤ last_count
    few = few_runs program world.agree (are_modules declared turn first modules lawful) place (first f.m.performing.hosted) kept record_is.inactive f.true_.is.stands

    idle_so : open_ask kept ≡ None → kept.count ≡ length kept.runs
    idle_so none = idle_count b f.m.performing.began kept record_is f.still.from few none

    busy_so : (asked : AskRecord) → open_ask kept ≡ Some asked → suc kept.count ≡ length kept.runs
    busy_so asked some = busy_count b f.m.performing.began kept record_is f.still.from few asked some

    open_so : (asked : AskRecord) → open_ask kept ≡ Some asked → IsOpenOf program world.agree (are_modules declared turn first modules lawful) place b f.true_.at kept asked
    open_so asked some = open_is program world.agree (are_modules declared turn first modules lawful) place b f.true_.at kept asked f.m.performing.began record_is stands some

    -- where it has begun a run, it has ended it, or is busy with it
    begun_so : (index : ℕ) → index < length kept.runs → (index < kept.count) ⊎ BusyAt kept index 0
    begun_so index less = by_ask (open_ask kept) refl
      where
        by_ask : (o : Option AskRecord) → open_ask kept ≡ o → (index < kept.count) ⊎ BusyAt kept index 0
        by_ask None none = inl (let c = idle_so none in omega (arith, c, less))
        by_ask (Some asked) some = elim (cases_lt index kept.count) [
          | inl ended ↦ inl ended
          | inr not_ ↦
              let c = busy_so asked some in
              let o = open_so asked some in
              inr (record { asked = asked; last = o.last; is_open = some; last_is = o.last_is; index_is = omega (arith, c, less, not_); within = some_asks kept asked o.last some o.last_is })
        ]

    -- what a busy record shows
    module _ (index number : ℕ) (busy : BusyAt kept index number) (run : Run) (run_is : run_at (history_of program) place index ≡ Some run) where
      abbrev o : IsOpenOf program world.agree (are_modules declared turn first modules lawful) place b f.true_.at kept busy.asked
      o = open_so busy.asked busy.is_open

      last_same : o.last ≡ busy.last
      last_same = same_Some o.last busy.last (sym o.last_is ∙ busy.last_is)

      at_index : min (kept.from + (length kept.runs - 1)) last_count ≡ index
      at_index = (let from = f.still.from in let many_ = few in let at = busy.index_is in omega (arith, from, many_, at))

      run_same : o.run ≡ run
      run_same = same_Some o.run run (sym o.there.run_is ∙ ap (run_at (history_of program) place) at_index ∙ run_is)

      asked_is : slice_get run.asks (length busy.last.asks - 1) ≡ Some o.ask
      asked_is = ap (λ (r : Run). slice_get r.asks (length busy.last.asks - 1)) (sym run_same) ∙ ap (λ (l : RunRecord). slice_get o.run.asks (length l.asks - 1)) (sym last_same) ∙ o.there.ask_is

  -- ---- what has been done

  abbrev pub Ended : ℕ → ℕ → Type 0
  Ended place index = (node : ℕ) (e : IsFounderAt d place node) → index < (founder_at place node e).m.performing.kept.count

  abbrev pub Answered : ℕ → ℕ → ℕ → Type 0
  Answered place index number = (node : ℕ) (e : IsFounderAt d place node) → (index < (founder_at place node e).m.performing.kept.count) ⊎ BusyAt (founder_at place node e).m.performing.kept index number

  roots : (place : ℕ) → IsRoot program place → Answered place 0 0
  roots place root node e =
      let f = founder_at place node e in
      let rooted : is_root d place ≡ true = sym (fits declared turn first d modules world.troupes place root.behaviour root.there).root ∙ root.root in
      begun_so place node f 0
      ((holds_at_last declared turn first lawful d modules hosted lines booted last world lossless.alone).2.begun node place e.troupe f.s f.m f.at f.acting f.hosts e.there e.among rooted)

  ends : (place index : ℕ) (run : Run) → run_at (history_of program) place index ≡ Some run → Answered place index (length run.asks) → Ended place index
  ends place index run run_is answered node e = elim (answered node e) [
    | inl ended ↦ ended
    | inr busy ↦
        let f = founder_at place node e in
        let less = slice_get_within run.asks (length busy.last.asks - 1) _ (asked_is place node f index (length run.asks) busy run run_is) in
        let within = busy.within in
        absurd (omega (arith, less, within))
  ]

  -- ---- calls between founders

  abbrev told_at : (place node : ℕ) (f : Founder place node) → IsTold d happened node f.m
  told_at place node f = told declared turn first lawful d modules hosted lines booted last world lossless node f.s f.m f.at f.acting

  -- an ask that a founder has come to is in its record
  recorded_so : (place node : ℕ) (f : Founder place node) (index number : ℕ) (run : Run) (ask : Ask) → run_at (history_of program) place index ≡ Some run → slice_get run.asks number ≡ Some ask → is_spent (clock_before run number) ≡ false
      → (index < f.m.performing.kept.count) ⊎ BusyAt f.m.performing.kept index number → Recorded f.m.performing.kept index number ask.callee
  recorded_so place node f index number run ask run_is ask_is left (inl ended) =
      ended_recorded (history_of program) place (first f.m.performing.hosted) f.m.performing.kept f.still.from index number run ask run_is ask_is left (stands place node f) ended
  recorded_so place node f index number run ask run_is ask_is left (inr busy) = by_now (stands place node f).now
    where
      counts : suc f.m.performing.kept.count ≡ length f.m.performing.kept.runs
      counts = busy_so place node f busy.asked busy.is_open

      by_now : IsIdle (history_of program) place (first f.m.performing.hosted) f.m.performing.kept ⊎ IsBusy (history_of program) place f.m.performing.kept → Recorded f.m.performing.kept index number ask.callee
      by_now (inl idle) = absurd (let c = idle.count in let from = f.still.from in omega (arith, c, from, counts))
      by_now (inr q) =
          let same : q.last ≡ busy.last = same_Some q.last busy.last (sym (ap last_of q.runs_are ∙ last_more q.before q.last) ∙ busy.last_is) in
          let at = busy.index_is in
          going_recorded (history_of program) place (first f.m.performing.hosted) f.m.performing.kept f.still.from index number run ask run_is ask_is left q (omega (arith, at, counts))
          (subst (λ (l : RunRecord). number < length l.asks) (sym same) busy.within)

  -- the call of a founder to another one for an ask of the history: where it is
  record IsCalledSo (place node index number other : ℕ) (run : Run) (ask : Ask) : Type 0 where
    k : ℕ
    for_ : HasCalledFor d happened node other k (for.Ask (record { run = index; ask = number }) ask.callee)
    message : List ℕ
    called : HasCalled d happened node other k message
    header : CallHeader
    body : List ℕ
    message_is : message ≡ ask_message header body
    header_is : IsOne calls (AskOf header)
    so : AsksSo number run ask header body
    client : header.client ≡ place
    client_index : header.client_index ≡ index
    low : header.client_incarnation ≤ 1

  called_so : (place node : ℕ) (f : Founder place node) (index number : ℕ) (run : Run) (ask : Ask) → run_at (history_of program) place index ≡ Some run → slice_get run.asks number ≡ Some ask
      → Recorded f.m.performing.kept index number ask.callee → (other : ℕ) → IsFounderAt d ask.callee other → IsCalledSo place node index number other run ask
  called_so place node f index number run ask run_is ask_is r other e =
      let c = (told_at place node f).called index number ask.callee other e.troupe r e.there e.among in
      by_call c.0 c.1
    where
      name : AskName
      name = record { run = index; ask = number }

      Called : Caller → List ℕ → Type 0
      Called = CalledAt d happened node

      by_call : (k : ℕ) → HasCalledFor d happened node other k (for.Ask name ask.callee) → IsCalledSo place node index number other run ask
      by_call k for_ =
          let holds = holds_at_last declared turn first lawful d modules hosted lines booted last world lossless.alone in
          let c = purpose_said (CallSo program (CalledAt d happened node) (troupe_at d node)) (ReturnSo program (CalledAt d happened node) (troupe_at d node)) (beginning_of d node) (happened node) other k (for.Ask name ask.callee) (holds.0.said node) for_ in
          let q = purpose_said QuietCall QuietReturn (beginning_of d node) (happened node) other k (for.Ask name ask.callee) (holds.1.said node) for_ in
          let purpose : c.purpose ≡ for.Ask name ask.callee = same_Some c.purpose (for.Ask name ask.callee) (sym c.purpose_is ∙ for_) in
          let so : CallSo program (CalledAt d happened node) (Some place) (for.Ask name ask.callee) c.message =
          subst (λ p. CallSo program (CalledAt d happened node) (Some place) p c.message) purpose (subst (λ (o : Option ℕ). CallSo program (CalledAt d happened node) o c.purpose c.message) f.hosts c.so) in
          let messages : q.message ≡ c.message = same_Some q.message c.message (sym q.message_is ∙ c.message_is) in
          let low = low_ask program (CalledAt d happened node) (Some place) (for.Ask name ask.callee) c.message so
          (subst (λ p. QuietCall p c.message) (same_Some q.purpose (for.Ask name ask.callee) (sym q.purpose_is ∙ for_)) (subst (λ l. QuietCall q.purpose l) messages q.so)) in
          let run_same : so.named.run ≡ run = same_Some so.named.run run (sym so.named.there.run_is ∙ run_is) in
          let ask_same : so.named.ask ≡ ask = same_Some so.named.ask ask (sym so.named.there.ask_is ∙ ap (λ (x : Run). slice_get x.asks number) run_same ∙ ask_is) in
          let header_same : low.header ≡ so.header = ask_header low.header so.header low.body so.body low.header_is so.header_is (sym low.message_is ∙ so.message_is) in
          record {
            k = k;
            for_ = for_;
            message = c.message;
            called = c.message_is;
            header = so.header;
            body = so.body;
            message_is = so.message_is;
            header_is = so.header_is;
            so = subst (λ x. AsksSo number run x so.header so.body) ask_same (subst (λ x. AsksSo number x so.named.ask so.header so.body) run_same so.named.so);
            client = so.named.client;
            client_index = so.named.client_index;
            low = subst (λ (x : CallHeader). x.client_incarnation ≤ 1) header_same low.low;
          }

  -- a call that is held is the one that was made
  record IsHeldSo (place node other : ℕ) (g : Founder place other) (c : Caller) (header : CallHeader) (body : List ℕ) : Type 0 where
    at : ℕ
    call : HeldCall
    there : slice_get g.m.gathered.held at ≡ Some call
    of : call.sender ≡ c
    header_same : call.header ≡ header

  held_so : (place other : ℕ) (g : Founder place other) (c : Caller) (header : CallHeader) (body : List ℕ) → IsOne calls (AskOf header) → CalledAt d happened other c (ask_message header body) → IsWaiting g.m c → IsHeldSo place 0 other g c header body
  held_so place other g c header body one called w =
      let is : IsCalled (history_of program) place (first g.m.performing.hosted) (CalledAt d happened other) w.call.sender w.call.header w.call.body =
      all_at (λ (x : HeldCall). IsCalled (history_of program) place (first g.m.performing.hosted) (CalledAt d happened other) x.sender x.header x.body) g.m.gathered.held w.place w.call g.true_.is.held w.there in
      let same : ask_message w.call.header w.call.body ≡ ask_message header body = same_Some (ask_message w.call.header w.call.body) (ask_message header body)
      (sym is.called ∙ subst (λ (x : Caller). CalledAt d happened other x (ask_message header body)) (sym w.is_of) called) in
      record { at = w.place; call = w.call; there = w.there; of = w.is_of; header_same = ask_header w.call.header header w.call.body body is.header_is one same }

  -- ---- collators

  module _ (enough : AskEnough d (map declared modules)) where
    declared_there : (place : ℕ) (b : Behaviour) → IsAt program place b → slice_get (map declared modules) place ≡ Some b.declared
    declared_there place b at = by_module (slice_get modules place) refl
      where
        seen : (o : Option M) → slice_get modules place ≡ o → option_map (behaviour declared turn first) o ≡ Some b
        seen o is = sym (slice_get-map (behaviour declared turn first) modules place ∙ ap (option_map (behaviour declared turn first)) is) ∙ at

        by_module : (o : Option M) → slice_get modules place ≡ o → slice_get (map declared modules) place ≡ Some b.declared
        by_module None is = absurd (none-some b (seen None is))
        by_module (Some m) is = slice_get-map declared modules place ∙ ap (option_map declared) is ∙ ap (λ (x : Behaviour). Some x.declared) (same_Some (behaviour declared turn first m) b (seen (Some m) is))

    within_so : (k : Kind) (n : ℕ) → IsKind k → AsksAtMost k n → IsWithin k n
    within_so (K.AtLeast number) n is most = (is.0, most)
    within_so K.First n is most = tt
    within_so K.Majority n is most = tt
    within_so K.Unanimous n is most = tt
    within_so K.Watchdog n is most = tt

    troupe_of : (place : ℕ) → place < length program → (t : Troupe) × (slice_get d.troupes place ≡ Some t)
    troupe_of place less = get_there d.troupes place (subst (λ n. place < n) (many declared turn first lawful d modules hosted lines booted last world) less)

    first_among : (l : List ℕ) → 0 < length l → (x : ℕ) × (is_among l x ≡ true)
    first_among [] some = absurd (omega (arith, some))
    first_among (x ∷ l) some = (x, ap (λ b. b || list_any (λ n. n == x) l) (eq-eqb x x refl))

    -- ---- a reply

    module _ (place node : ℕ) (own : IsFounderAt d place node) (f : Founder place node) (index number : ℕ) (run : Run) (ask : Ask) (run_is : run_at (history_of program) place index ≡ Some run) (ask_is : slice_get run.asks number ≡ Some ask)
        (busy : BusyAt f.m.performing.kept index number) (top : length busy.last.asks - 1 ≡ number) (ended : is_spent (clock_before run number) ≡ false → Ended ask.callee ask.index) where
      abbrev opened : IsOpenOf program world.agree (are_modules declared turn first modules lawful) place (b place node f) f.true_.at f.m.performing.kept busy.asked
      opened = open_so place node f busy.asked busy.is_open

      ask_same : opened.ask ≡ ask
      ask_same = same_Some opened.ask ask (sym (asked_is place node f index number busy run run_is) ∙ ap (slice_get run.asks) top ∙ ask_is)

      left : is_spent (clock_before run number) ≡ false
      left =
          ap (λ (r : Run). is_spent (clock_before r number)) (sym (run_same place node f index number busy run run_is))
          ∙ ap (λ n. is_spent (clock_before opened.run n)) (sym (ap (λ (l : RunRecord). length l.asks - 1) (last_same place node f index number busy run run_is) ∙ top)) ∙ opened.there.calls_left

      there : IsAskAt (history_of program) place index number run ask
      there = record { run_is = run_is; ask_is = ask_is; calls_left = left }

      below : ask.callee < place
      below = callee_below program world.agree (are_modules declared turn first modules lawful) place (b place node f) f.true_.at index number run ask there

      callee : (t : Troupe) × (slice_get d.troupes ask.callee ≡ Some t)
      callee = troupe_of ask.callee (let within = slice_get_within program place (b place node f) f.true_.at in omega (arith, below, within))

      open_at : IsOpenAt f.m.performing.kept index number ask.callee
      open_at = record {
        run = busy.last;
        ask = busy.asked;
        last = busy.last_is;
        is_open = busy.is_open;
        callee_is = opened.waits.asks.callee ∙ ap (λ (x : Ask). x.callee) ask_same;
        index_is = busy.index_is;
        number_is = (let within = busy.within in omega (arith, top, within));
      }

      h : HasAsking (boot_views d.troupes) place (phase_at d node) (HasCame declared turn first lawful program world.agree (are_modules declared turn first modules lawful) (are_proper declared turn first d modules world.troupes) d (CalledAt d happened node)) f.m index number ask.callee
      h = f.still.opened index number ask.callee open_at

      each : (other : ℕ) → is_among callee.0.founders other ≡ true → list_any (is_from other) h.asking.said ≡ true
      each other among =
          let e : IsFounderAt d ask.callee other = record { troupe = callee.0; there = callee.1; among = among } in
          let g = founder_at ask.callee other e in
          let c = called_so place node f index number run ask run_is ask_is (recorded_so place node f index number run ask run_is ask_is left (inr busy)) other e in
          let differs : node ≢ other = λ same. (let one = same_Some place ask.callee (sym f.hosts ∙ ap (troupe_at d) same ∙ g.hosts) in omega (arith, one, below)) in
          elim ((told_at ask.callee other g).heard (record { node = node; number = c.k }) c.message (node_within d node place f.hosts) differs c.called) [
            | inl back ↦ (told_at place node f).said other c.k index number ask.callee ask.callee back.0 (node_within d other ask.callee g.hosts) (λ same. differs (sym same)) back.1 c.for_ open_at h.asking h.there
            | inr w ↦ absurd (
                let hs = held_so ask.callee other g (record { node = node; number = c.k }) c.header c.body c.header_is (c.called ∙ ap Some c.message_is) w in
                let held = all_at (IsHeld (declared g.m.performing.hosted) g.m.place.troupe (length g.m.known.views) g.m.gathered) g.m.gathered.held hs.at hs.call g.true_.rested.sound.held hs.there in
                let at : slice_index hs.call.header.clock g.m.gathered.module ≡ ask.index = ap (slice_index hs.call.header.clock) g.still.own_is ∙ ap (λ (x : CallHeader). slice_index x.clock ask.callee) hs.header_same
                ∙ ap (λ l. slice_index l ask.callee) c.so.clock ∙ sym (index_is program world.agree (are_modules declared turn first modules lawful) place (b place node f) f.true_.at index number run ask there) in
                let none : reply_of g.m.gathered ask.index ≡ None = ap (reply_of g.m.gathered) (sym at) ∙ held.fresh in
                let some = g.still.replied ask.index (ended left other e) in
                let clash : IsSome {T = Reply} None = subst (λ (x : Option Reply). IsSome x) none some in cc)
          ]

      values : All (λ (x : Said Reply). x.value ≡ reply_to ask) h.asking.said
      values =
          let t = open_asking (λ (e : AskName × Asking). IsTrueAsking (history_of program) place (first f.m.performing.hosted) (CalledAt d happened node) e.0 e.1) f.m.asks (record { run = index; ask = number }) h.asking f.true_.is.asks h.there in
          All-weaker (λ (x : Said Reply). Answers (history_of program) place (first f.m.performing.hosted) (CalledAt d happened node) (record { run = index; ask = number }) x.value) (λ (x : Said Reply). x.value ≡ reply_to ask)
          (λ x a.
          let runs : a.run ≡ run = same_Some a.run run (sym a.there.run_is ∙ run_is) in
          let asks : a.ask ≡ ask = same_Some a.ask ask (sym a.there.ask_is ∙ ap (λ (y : Run). slice_get y.asks number) runs ∙ ask_is) in
          a.is ∙ ap reply_to asks) h.asking.said t.said

      no_reply : ⊥
      no_reply =
          let holds = holds_at_last declared turn first lawful d modules hosted lines booted last world lossless.alone in
          let i = passes_some (λ (x : Import). arguments_fit x.procedures ask.procedure ask.arguments) (import_of ask.callee (b place node f).declared.imports)
          (takes program world.agree (are_modules declared turn first modules lawful) place (b place node f) f.true_.at index number run ask there) in
          let most = enough.replies place ask.callee (b place node f).declared i.value own.troupe callee.0 (declared_there place (b place node f) f.true_.at) i.is own.there callee.1 in
          let kind : h.asking.kind ≡ own.troupe.replies = h.kind ∙ (holds.2.placed node place own.troupe f.s f.m f.at f.acting f.hosts own.there).1 in
          let within : IsWithin h.asking.kind (length callee.0.founders) = subst (λ k. IsWithin k (length callee.0.founders)) (sym kind)
          (within_so own.troupe.replies (length callee.0.founders) (world.deployment.troupes place own.troupe own.there).replies most) in
          let some = (world.deployment.troupes ask.callee callee.0 callee.1).some_founders in
          let v = boot_there 0 ask.callee d.troupes callee.0 callee.1 in
          let view : slice_get f.m.known.views h.asking.header.server ≡ Some (boot_view v.0 callee.0) = ap (λ l. slice_get l h.asking.header.server) f.still.views ∙ ap (slice_get (boot_views d.troupes)) h.server ∙ v.1 in
          let value = value_so f.m.known h.asking v.0 callee.0 view (omega (arith, some)) within each (reply_to ask) values in
          let name : ◌≡◌ {A = AskName} (name_of_last f.m.performing.kept) (record { run = index; ask = number }) =
          (let i_ = at_index place node f index number busy run run_is in
          let n_ : option_map_or (λ (r : RunRecord). length r.asks - 1) (last_of f.m.performing.kept.runs) 0 ≡ number = ap (λ x. option_map_or (λ (r : RunRecord). length r.asks - 1) x 0) busy.last_is ∙ top in
          λ j. record { run = i_ j; ask = n_ j }) in
          let open_value : value_of_open f.m ≡ value_of_ask f.m.known h.asking =
          ap (λ x. option_and_then (λ (y : AskRecord). option_and_then (value_of_ask f.m.known) (asking_of f.m.asks (name_of_last f.m.performing.kept))) x) busy.is_open
          ∙ ap (λ n. option_and_then (value_of_ask f.m.known) (asking_of f.m.asks n)) name ∙ ap (option_and_then (value_of_ask f.m.known)) h.there in
          elim (told_at place node f).gone [
            | inl gone ↦ (let clash : IsSome {T = Reply} None = subst (λ (x : Option Reply). IsSome x) (sym open_value ∙ gone.no_value) value in cc)
            | inr silent ↦
                let one = first_among callee.0.founders (omega (arith, some)) in
                let clash : false ≡ true = sym (ap (list_any (is_from one.0)) (silent.said index number ask.callee open_at h.asking h.there)) ∙ each one.0 one.1 in cc
          ]

    replies : (place index number : ℕ) (run : Run) (ask : Ask) → run_at (history_of program) place index ≡ Some run → slice_get run.asks number ≡ Some ask → Answered place index number
        → (is_spent (clock_before run number) ≡ false → Ended ask.callee ask.index) → Answered place index (suc number)
    replies place index number run ask run_is ask_is answered ended node e = elim (answered node e) [
      | inl done ↦ inl done
      | inr busy ↦ elim (cases_lt (suc number) (length busy.last.asks)) [
        | inl more ↦ inr (record { asked = busy.asked; last = busy.last; is_open = busy.is_open; last_is = busy.last_is; index_is = busy.index_is; within = more })
        | inr none ↦ absurd (no_reply place node e (founder_at place node e) index number run ask run_is ask_is busy (let within = busy.within in omega (arith, none, within)) ended)
      ]
    ]

    -- ---- a start

    module _ (place node index : ℕ) (own : IsFounderAt d place node) (f : Founder place node) (maker : HasMaker (history_of program) place index)
        (answered : Answered maker.caller_place maker.caller_index maker.number) (none : open_ask f.m.performing.kept ≡ None) (count_is : f.m.performing.kept.count ≡ index) where
      there_ask : IsAskAt (history_of program) maker.caller_place maker.caller_index maker.number maker.caller maker.ask
      there_ask = record { run_is = maker.caller_is; ask_is = maker.ask_is; calls_left = maker.not_spent }

      client_behaviour : (x : Behaviour) × IsAt program maker.caller_place x
      client_behaviour = (let l = (in_history program world.agree (are_modules declared turn first modules lawful) maker.caller_place maker.caller_index maker.caller maker.caller_is).logged in (l.behaviour, l.there))

      client_troupe : (t : Troupe) × (slice_get d.troupes maker.caller_place ≡ Some t)
      client_troupe = troupe_of maker.caller_place (slice_get_within program maker.caller_place client_behaviour.0 client_behaviour.1)

      below_client : place < maker.caller_place
      below_client = subst (λ k. k < maker.caller_place) maker.callee
          (callee_below program world.agree (are_modules declared turn first modules lawful) maker.caller_place client_behaviour.0 client_behaviour.1 maker.caller_index maker.number maker.caller maker.ask there_ask)

      clock_at : slice_index (clock_before maker.caller maker.number) place ≡ index
      clock_at = ap (slice_index (clock_before maker.caller maker.number)) (sym maker.callee)
          ∙ sym (index_is program world.agree (are_modules declared turn first modules lawful) maker.caller_place client_behaviour.0 client_behaviour.1 maker.caller_index maker.number maker.caller maker.ask there_ask) ∙ maker.index_is

      abbrev LikeIt : HeldCall → Type 0
      LikeIt c = IsLike maker.caller.root maker.caller_place maker.caller_index maker.ask.procedure (maker.caller.path ++ maker.number ∷ []) (clock_before maker.caller maker.number) (spelling_of_all maker.ask.arguments) c

      abbrev counted : HeldCall → Bool
      counted c = is_counted f.m.gathered.module f.m.gathered.required f.m.known.views f.m.performing.kept.count c

      -- a held call of this index is that of the maker
      like_it : (c : HeldCall) → counted c ≡ true → IsCalled (history_of program) place (first f.m.performing.hosted) (CalledAt d happened node) c.sender c.header c.body → LikeIt c
      unfolding is_counted
      like_it c passes is =
          let parts = and_both (is_of_index f.m.gathered.module f.m.performing.kept.count c && nat_le f.m.gathered.required c.header.server_incarnation) _ passes in
          let of = eqb-true (slice_index c.header.clock f.m.gathered.module) f.m.performing.kept.count (and_both (is_of_index f.m.gathered.module f.m.performing.kept.count c) _ parts.0).0 in
          let t = is.true_call in
          let at : slice_index c.header.clock place ≡ index = ap (slice_index c.header.clock) (sym f.still.own_is) ∙ of ∙ count_is in
          let callee_is : t.ask.callee ≡ place = sym t.so.server ∙ is.server in
          let l = (in_history program world.agree (are_modules declared turn first modules lawful) c.header.client c.header.client_index t.run t.there.run_is).logged in
          let other : HasMaker (history_of program) place index = record {
            caller_place = c.header.client;
            caller_index = c.header.client_index;
            caller = t.run;
            number = t.number;
            ask = t.ask;
            caller_is = t.there.run_is;
            ask_is = t.there.ask_is;
            callee = callee_is;
            index_is = index_is program world.agree (are_modules declared turn first modules lawful) c.header.client l.behaviour l.there c.header.client_index t.number t.run t.ask t.there
                ∙ ap (slice_index (clock_before t.run t.number)) callee_is ∙ ap (λ w. slice_index w place) (sym t.so.clock) ∙ at;
            not_spent = t.there.calls_left;
          } in
          let same = one_maker program world.agree (are_modules declared turn first modules lawful) place index other maker in
          let runs : t.run ≡ maker.caller = same_Some t.run maker.caller (sym t.there.run_is ∙ ap (λ k. run_at (history_of program) k c.header.client_index) same.caller.place_is ∙ ap (run_at (history_of program) maker.caller_place) same.caller.index_is ∙ maker.caller_is) in
          let asks : t.ask ≡ maker.ask = same_Some t.ask maker.ask (sym t.there.ask_is ∙ ap (λ (r : Run). slice_get r.asks t.number) runs ∙ ap (slice_get maker.caller.asks) same.number ∙ maker.ask_is) in
          record {
            root_is = t.so.root ∙ ap (λ (r : Run). r.root) runs;
            path_is = t.so.path ∙ ap (λ (r : Run). r.path ++ t.number ∷ []) runs ∙ ap (λ n. maker.caller.path ++ n ∷ []) same.number;
            clock_is = t.so.clock ∙ ap (λ r. clock_before r t.number) runs ∙ ap (clock_before maker.caller) same.number;
            client_is = same.caller.place_is;
            client_index_is = same.caller.index_is;
            procedure_is = t.so.procedure ∙ ap (λ (x : Ask). x.procedure) asks;
            body_is = t.so.body_is ∙ ap (λ (x : Ask). spelling_of_all x.arguments) asks;
          }

      view_there : (n : ℕ) × (slice_get f.m.known.views maker.caller_place ≡ Some (boot_view n client_troupe.0))
      view_there = (let v = boot_there 0 maker.caller_place d.troupes client_troupe.0 client_troupe.1 in (v.0, ap (λ l. slice_get l maker.caller_place) f.still.views ∙ v.1))

      expected : (c : HeldCall) → LikeIt c → expected_callers f.m.known.views c ≡ client_troupe.0.founders
      unfolding expected_callers
      expected c like =
          ap (λ o. option_map_or (λ (view : View). expected_nodes view c.header.client_index) o []) (ap (slice_get f.m.known.views) like.client_is ∙ view_there.1)
          ∙ expected_founders view_there.0 c.header.client_index client_troupe.0

      record IsCounted (other : ℕ) : Type 0 where
        at : ℕ
        call : HeldCall
        there : slice_get f.m.gathered.held at ≡ Some call
        of : call.sender.node ≡ other
        passes : counted call ≡ true

      each_held : (other : ℕ) → is_among client_troupe.0.founders other ≡ true → IsCounted other
      unfolding is_counted
      each_held other among =
          let e : IsFounderAt d maker.caller_place other = record { troupe = client_troupe.0; there = client_troupe.1; among = among } in
          let g = founder_at maker.caller_place other e in
          let r = recorded_so maker.caller_place other g maker.caller_index maker.number maker.caller maker.ask maker.caller_is maker.ask_is maker.not_spent (answered other e) in
          let here : IsFounderAt d maker.ask.callee node = record { troupe = own.troupe; there = ap (slice_get d.troupes) maker.callee ∙ own.there; among = own.among } in
          let c = called_so maker.caller_place other g maker.caller_index maker.number maker.caller maker.ask maker.caller_is maker.ask_is r node here in
          let caller : Caller = record { node = other; number = c.k } in
          let differs : other ≢ node = λ same. (let one = same_Some maker.caller_place place (sym g.hosts ∙ ap (troupe_at d) same ∙ f.hosts) in omega (arith, one, below_client)) in
          let called : CalledAt d happened node caller (ask_message c.header c.body) = c.called ∙ ap Some c.message_is in
          let at_index_ : slice_index c.header.clock place ≡ index = ap (λ l. slice_index l place) c.so.clock ∙ clock_at in
          elim ((told_at place node f).heard caller c.message (node_within d other maker.caller_place g.hosts) differs c.called) [
            | inl back ↦ absurd (
                let holds = holds_at_last declared turn first lawful d modules hosted lines booted last world lossless.alone in
                let early = return_said AnyCall (EarlyReturn (CalledAt d happened node) place f.m.performing.kept.count) (beginning_of d node) (happened node) other c.k back.0 (holds.2.early node place f.s f.m f.at f.acting f.hosts) back.1 in
                let same = ask_header early.header c.header early.body c.body early.header_is c.header_is (same_Some (ask_message early.header early.body) (ask_message c.header c.body) (sym early.called ∙ called)) in
                let less = early.early in
                let at : slice_index early.header.clock place ≡ index = ap (λ (x : CallHeader). slice_index x.clock place) same ∙ at_index_ in
                omega (arith, less, at, count_is))
            | inr w ↦
                let hs = held_so place node f caller c.header c.body c.header_is called w in
                let of_index : is_of_index f.m.gathered.module f.m.performing.kept.count hs.call ≡ true =
                eq-eqb (slice_index hs.call.header.clock f.m.gathered.module) f.m.performing.kept.count
                (ap (slice_index hs.call.header.clock) f.still.own_is ∙ ap (λ (x : CallHeader). slice_index x.clock place) hs.header_same ∙ at_index_ ∙ sym count_is) in
                let required = f.still.required in
                let low : hs.call.header.client_incarnation ≤ 1 = subst (λ (x : CallHeader). x.client_incarnation ≤ 1) (sym hs.header_same) c.low in
                let of_client : hs.call.header.client ≡ maker.caller_place = ap (λ (x : CallHeader). x.client) hs.header_same ∙ c.client in
                let known : is_known f.m.known.views hs.call.header.client hs.call.header.client_incarnation ≡ true =
                ap (λ o. option_map_or (λ (view : View). nat_le hs.call.header.client_incarnation view.incarnation) o false) (ap (slice_get f.m.known.views) of_client ∙ view_there.1)
                ∙ le-leb hs.call.header.client_incarnation 1 low in
                record {
                  at = hs.at;
                  call = hs.call;
                  there = hs.there;
                  of = ap (λ (x : Caller). x.node) hs.of;
                  passes = both_so (both_so of_index (le-leb f.m.gathered.required hs.call.header.server_incarnation (omega (arith, required)))) known;
                }
          ]

      no_start : ⊥
      no_start =
          let holds = holds_at_last declared turn first lawful d modules hosted lines booted last world lossless.alone in
          let i = passes_some (λ (x : Import). arguments_fit x.procedures maker.ask.procedure maker.ask.arguments) (import_of maker.ask.callee client_behaviour.0.declared.imports)
          (takes program world.agree (are_modules declared turn first modules lawful) maker.caller_place client_behaviour.0 client_behaviour.1 maker.caller_index maker.number maker.caller maker.ask there_ask) in
          let most = enough.calls maker.caller_place place client_behaviour.0.declared i.value client_troupe.0 own.troupe (declared_there maker.caller_place client_behaviour.0 client_behaviour.1)
          (ap (λ k. import_of k client_behaviour.0.declared.imports) (sym maker.callee) ∙ i.is) client_troupe.1 own.there in
          let kind : f.m.place.calls ≡ own.troupe.calls = (holds.2.placed node place own.troupe f.s f.m f.at f.acting f.hosts own.there).0 in
          let within : IsWithin f.m.place.calls (length client_troupe.0.founders) = subst (λ k. IsWithin k (length client_troupe.0.founders)) (sym kind)
          (within_so own.troupe.calls (length client_troupe.0.founders) (world.deployment.troupes place own.troupe own.there).calls most) in
          let some = (world.deployment.troupes maker.caller_place client_troupe.0 client_troupe.1).some_founders in
          let likes = All-passed (λ (c : HeldCall). IsCalled (history_of program) place (first f.m.performing.hosted) (CalledAt d happened node) c.sender c.header c.body) (λ c. LikeIt c) (λ c. counted c) f.m.gathered.held like_it f.true_.is.held in
          let start = starts_so maker.caller.root maker.caller_place maker.caller_index maker.ask.procedure (maker.caller.path ++ maker.number ∷ []) (clock_before maker.caller maker.number) (spelling_of_all maker.ask.arguments)
          f.m.gathered f.m.known.views f.m.known.down f.m.place.calls f.m.performing.kept.count client_troupe.0.founders (omega (arith, some)) within likes expected
          (λ other among. (let x = each_held other among in (x.at, x.call, x.there, x.of, x.passes))) in
          let idle : is_idle f.m.performing.kept ≡ true = ap (λ b. b && is_none (open_ask f.m.performing.kept)) f.active ∙ ap is_none none in
          let next : next_start f.m ≡ call_to_start f.m.gathered f.m.known.views f.m.known.down f.m.place.calls f.m.performing.kept.count =
          ap (λ b. if b then call_to_start f.m.gathered f.m.known.views f.m.known.down f.m.place.calls f.m.performing.kept.count else None) idle in
          elim (told_at place node f).gone [
            | inl gone ↦ (let clash : IsSome {T = HeldCall} None = subst (λ (x : Option HeldCall). IsSome x) (sym next ∙ gone.none_starts) start in cc)
            | inr silent ↦
                let one = first_among client_troupe.0.founders (omega (arith, some)) in
                let x = each_held one.0 one.1 in
                none-some x.call (ap (λ l. slice_get l x.at) (sym silent.held) ∙ x.there)
          ]

    starts : (place index : ℕ) (c : Behaviour) (run : Run) → IsAt program place c → c.declared.root ≡ false → run_at (history_of program) place index ≡ Some run
        → (m : HasMaker (history_of program) place index) → Answered m.caller_place m.caller_index m.number → ((earlier : ℕ) → earlier < index → Ended place earlier) → Answered place index 0
    starts place index c run at no_root run_is maker answered earlier node e = by_runs (cases_lt index (length f.m.performing.kept.runs))
      where
        f : Founder place node
        f = founder_at place node e

        count_high : index ≤ (founder_at place node e).m.performing.kept.count
        count_high = by_index index earlier
          where
            by_index : (i : ℕ) → ((k : ℕ) → k < i → Ended place k) → i ≤ (founder_at place node e).m.performing.kept.count
            by_index zero before = omega arith
            by_index (suc i) before = (let less = before i (omega arith) node e in omega (arith, less))

        by_runs : (index < length f.m.performing.kept.runs) ⊎ (length f.m.performing.kept.runs ≤ index) → (index < (founder_at place node e).m.performing.kept.count) ⊎ BusyAt (founder_at place node e).m.performing.kept index 0
        by_runs (inl less) = begun_so place node (founder_at place node e) index less
        by_runs (inr not_) = by_ask (open_ask (founder_at place node e).m.performing.kept) refl
          where
            by_ask : (o : Option AskRecord) → open_ask (founder_at place node e).m.performing.kept ≡ o → (index < (founder_at place node e).m.performing.kept.count) ⊎ BusyAt (founder_at place node e).m.performing.kept index 0
            by_ask (Some asked) some = absurd (let c_ = busy_so place node (founder_at place node e) asked some in omega (arith, c_, not_, count_high))
            by_ask None none = absurd (no_start place node index e (founder_at place node e) maker answered none (let c_ = idle_so place node (founder_at place node e) none in omega (arith, c_, not_, count_high)))

    -- ---- all of it

    pub all_done : (place index : ℕ) (run : Run) → run_at (history_of program) place index ≡ Some run → Ended place index
    all_done = all_ended program world.agree (are_modules declared turn first modules lawful) Answered Ended (record { roots = roots; starts = starts; replies = replies; ends = ends })

    -- ---- the roots

    done_of : (place node : ℕ) (f : Founder place node) (once : Run) → runs_of (history_of program) place ≡ once ∷ [] → 0 < f.m.performing.kept.count → IsDone f.m.performing.kept
    done_of place node f once only some = by_now (stands place node f).now
      where
        one : f.m.performing.kept.count ≡ 1
        one = (let within = (stands place node f).within in let long : length (runs_of (history_of program) place) ≡ 1 = ap length only in omega (arith, within, long, some))

        by_runs : (l : List RunRecord) → f.m.performing.kept.runs ≡ l → length l ≡ 1 → IsIdle (history_of program) place (first f.m.performing.hosted) f.m.performing.kept → IsDone f.m.performing.kept
        by_runs [] is long idle = absurd (omega (arith, long))
        by_runs (r ∷ x ∷ l) is long idle = absurd (omega (arith, long))
        by_runs (r ∷ []) is long idle =
            let p = some_and (run_at (history_of program) place (f.m.performing.kept.from + 0)) (λ x. IsPerformed x r) (idle.runs 0 r (ap (λ l. slice_get l 0) is)) in
            record { run = r; runs_are = is; ended = subst (λ (x : Option Outcome). IsSome x) (sym p.1.1.outcome) refl; count = one }

        by_now : IsIdle (history_of program) place (first f.m.performing.hosted) f.m.performing.kept ⊎ IsBusy (history_of program) place f.m.performing.kept → IsDone f.m.performing.kept
        by_now (inl idle) = (let c = idle.count in let from = f.still.from in by_runs f.m.performing.kept.runs refl (omega (arith, c, from, one)) idle)
        by_now (inr busy) =
            let u_ = some_and (run_at (history_of program) place f.m.performing.kept.count) (λ x. IsUnderWay x busy.last busy.waiting) busy.under_way in
            absurd (none-some u_.0 (sym (ap (λ n. run_at (history_of program) place n) one ∙ ap (λ l. slice_get l 1) only) ∙ u_.1.0))

    pub roots_are_done : RootsAreDone d last
    roots_are_done node place t s kept rooted there among at is =
        let e : IsFounderAt d place node = record { troupe = t; there = there; among = among } in
        let f = founder_at place node e in
        let same_s : f.s ≡ s = same_Some f.s s (sym f.at ∙ at) in
        let record_so : f.m.performing.kept ≡ kept = same_Some f.m.performing.kept kept (ap member_record (sym f.acting ∙ ap (λ (x : Standing M). x.node.acting) same_s) ∙ is) in
        let declares : (b place node f).declared.root ≡ true = (fits declared turn first d modules world.troupes place (b place node f) f.true_.at).root ∙ rooted in
        let once = root_runs_once program world.agree (are_modules declared turn first modules lawful) place (b place node f) f.true_.at declares in
        let done = all_done place 0 once.0 (ap (λ l. slice_get l 0) once.1.0) node e in
        subst (λ k. IsDone k) record_so (done_of place node f once.0 once.1.0 done)

-- so a world that is quiet has ended every root
pub quiet_ends : {M : Type 0} (declared : M → Signature) (turn : M → List ValueTree → ℕ → List ValueTree → List Outcome → NextTurn) (first : M → List ValueTree)
    (lawful : (hosted : M) → IsModule (behaviour declared turn first hosted)) (lines : List Line) (last : WorldState M) → IsQuiet last lines → EndsEveryRoot declared turn first lines last
quiet_ends declared turn first lawful lines last quiet d modules hosted booted world enough =
    roots_are_done declared turn first lawful d modules hosted lines booted last world quiet enough
