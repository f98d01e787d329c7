-- A true member goes on as far as it can, and all that it makes is true.
use Rattle.std.proofs.Common.{◌≡◌, ℕ, zero, suc, ◌+◌, Bool, true, false, if◌then◌else◌, List, [], length, All, Option, Some, None, refl, sym, ap, subst, ◌∙◌, inl, inr, arith}
use Rattle.std.specs.Prelude.{min, slice_get, slice_index, slice_set, option_and_then, option_map}
use Rattle.std.specs.Option.{option_map_or}
use Rattle.std.proofs.lemmas.List.Elements.{All-nil, All-append, All-map, All-weaker, All-get_or}
use Rattle.std.proofs.lemmas.Option.{same_Some, slice_get_within, get_or_from_slice_get}
use Rattle.circus_value.specs.ValueTree.{ValueTree}
use Rattle.circus_value.specs.declared.outcome.Outcome.{Outcome}
use Rattle.circus_value.specs.declared.caller.Caller.{Caller}
use Rattle.circus_external.specs.Spelling.{spelling_of_all}
use Rattle.circus_header.specs.declared.answer.Reply.{Reply}
use Rattle.circus_collate.specs.declared.view.View.{View}
use Rattle.circus_collate.specs.declared.giving.Said.{Said}
use Rattle.circus_collate.specs.declared.collating.Collated.{Collated}
use Rattle.circus_collate.specs.declared.collating.Collated.TheVariants.{Waiting, Answer, Differ}
use Rattle.circus_collate.proofs.Later.{parts_of}
use Rattle.circus_transfer.specs.Snapshot.{snapshot_bytes}
use Rattle.circus_model.specs.declared.signature.Signature.{Signature}
use Rattle.circus_model.specs.declared.history.Ask.{Ask}
use Rattle.circus_model.specs.declared.history.Run.{Run}
use Rattle.circus_model.specs.NextTurn.{NextTurn}
use Rattle.circus_model.specs.Behaviour.{Behaviour, IsModule}
use Rattle.circus_model.specs.Agree.{IsAt, AreModules, Agree}
use Rattle.circus_model.specs.Execution.{history_of}
use Rattle.circus_model.specs.History.{run_at, state_after}
use Rattle.circus_record.specs.declared.record.AskRecord.{AskRecord}
use Rattle.circus_record.specs.declared.record.MemberRecord.{MemberRecord}
use Rattle.circus_fanout.specs.Knowing.{Knowing}
use Rattle.circus_gather.specs.declared.held.HeldCall.{HeldCall}
use Rattle.circus_gather.specs.Gathering.{call_to_start}
use Rattle.circus_fanout.specs.Asking.{Asking, answer}
use Rattle.circus_performing.specs.declared.start.RunStart.{RunStart}
use Rattle.circus_performing.specs.Performing.{open_ask, is_active, last_count, answer_open_ask}
use Rattle.circus_performing.specs.Record.{behaviour}
use Rattle.circus_performing.proofs.Records.{answered_is}
use Rattle.circus_member_rules.specs.declared.occurrence.AskName.{AskName}
use Rattle.circus_member_rules.specs.declared.occurrence.Effect.{Effect}
use Rattle.circus_member_rules.specs.OpenAsks.{asking_of}
use Rattle.circus_member_rules.specs.Messages.{arguments_in}
use Rattle.circus_member_rules.specs.Rules.{answer_in, value_of_ask, snapshots_owed, clock_at_entry}
use Rattle.circus_member_rules.specs.Rules as rules
use Rattle.circus_member_rules.specs.MemberState.{MemberState, Doing, add_effects}
use Rattle.circus_member_rules.specs.Step.{name_of_last, is_idle, start_by_call, after_turns, value_of_open, given_states, next_start, answered_by, answered_open, enter_run_of, start_runs, execute}
use Rattle.circus_member_rules.specs.Seen.Sound.{IsSound, MayStart}
use Rattle.circus_member_rules.proofs.Sound.{sound_requests}
use Rattle.circus_member_rules.proofs.Turned.{IsTurned, sound_after_turns, same_hosted}
use Rattle.circus_member_rules.proofs.Entering.{with_entered, turned_by_start, HasValue, has_value, with_answered, turned_by_reply}
use Rattle.circus_member_rules.proofs.Writing.{one_is_performing}
use Rattle.circus_member_rules.proofs.Starting.{none_from_test, given_is_chosen, IsReady, next_is_ready, may_start, IsSoundNow}
use Rattle.circus_member_theory.specs.Stands.{Stands}
use Rattle.circus_member_theory.specs.Messages.{IsTrueState}
use Rattle.circus_member_theory.proofs.Histories.{takes, clock_counts, asked_run}
use Rattle.circus_member_theory.proofs.Standing.{open_is, entered_stands, answered_stands, idle_is}
use Rattle.circus_member_theory.proofs.Accepting.Arguments.{arguments_read}
use Rattle.circus_member_rules.specs.Proper.{AreProper}
use Rattle.circus_member_theory.specs.Truth.{reply_to, Answers, IsTrueAsking, IsCalled, IsFetch}
use Rattle.circus_member_theory.proofs.Accepting.Entries.{ask_found}
use Rattle.circus_member_theory.proofs.Ranges.{module_of, taken_is}
use Rattle.circus_member_theory.proofs.Kept.{KeepsTrue}
use Rattle.circus_member_theory.proofs.Handled.{IsNow, IsMade, Keeps}
use Rattle.circus_member_theory.proofs.Turned.{active_by_ask, open_there, true_after_turns}

-- ---- the value of an ask

-- what a collator gives was said
given_holds : (P : Reply → Type 0) (a : Asking) (reply : Reply) → All (λ (s : Said Reply). P s.value) a.said → (c : Collated) → answer_in a c ≡ Some reply → P reply
given_holds P a reply said Waiting is = cc
given_holds P a reply said (Differ one other) is = cc
given_holds P a reply said (Answer place) is = by_place (slice_get a.said place) refl is
  where
    by_place : (o : Option (Said Reply)) → slice_get a.said place ≡ o → option_map (λ (s : Said Reply). s.value) o ≡ Some reply → P reply
    by_place None at none = cc
    by_place (Some s) at some =
        let there = All-get_or (λ (t : Said Reply). P t.value) a.said place s (slice_get_within a.said place s at) said in
        let here : P s.value = subst (λ (t : Said Reply). P t.value) (get_or_from_slice_get a.said place s s at) there in
        subst P (same_Some s.value reply some) here

value_holds : (P : Reply → Type 0) (k : Knowing) (a : Asking) (reply : Reply) → All (λ (s : Said Reply). P s.value) a.said → value_of_ask k a ≡ Some reply → P reply
value_holds P k a reply said is = by_known (slice_get k.views a.header.server) is
  where
    by_known : (o : Option View) → option_map_or (λ (view : View). answer_in a (answer view k.down a)) o None ≡ Some reply → P reply
    by_known None none = cc
    by_known (Some view) some = given_holds P a reply said (answer view k.down a) some

-- ---- the call that starts

-- what holds of all that are held holds of it
next_holds : {M : Type 0} (P : HeldCall → Type 0) (m : MemberState M) (call : HeldCall) → All P m.gathered.held → next_start m ≡ Some call → P call
next_holds P m call all is = by_test (is_idle m.performing.kept) is
  where
    by_test : (t : Bool) → (if t then call_to_start m.gathered m.known.views m.known.down m.place.calls m.performing.kept.count else None) ≡ Some call → P call
    by_test false none = cc
    by_test true some =
        (given_is_chosen P m.gathered.module m.gathered.required m.known.views m.known.down m.place.calls m.performing.kept.count m.gathered.held call all some).holds

module _ (program : List Behaviour) (agree : Agree program) (are : AreModules program) (proper : AreProper program) (troupe : ℕ) (b : Behaviour)
    (at : IsAt program troupe b) (Called : Caller → List ℕ → Type 0) {M : Type 0} (m : MemberState M) (sound : IsSound b m)
    (h : IsNow program agree are proper troupe b at Called m) where
  -- ---- the open ask is answered

  abbrev Says : Reply → Type 0
  Says reply = Answers (history_of program) troupe b.first Called (name_of_last m.performing.kept) reply

  answers_open : (reply : Reply) → value_of_open m ≡ Some reply → Says reply
  answers_open reply is = by_ask (open_ask m.performing.kept) is
    where
      by_asked : (o : Option Asking) → asking_of m.asks (name_of_last m.performing.kept) ≡ o → option_and_then (value_of_ask m.known) o ≡ Some reply → Says reply
      by_asked None there none = cc
      by_asked (Some a) there some =
          let t = ask_found (λ (e : AskName × Asking). IsTrueAsking (history_of program) troupe b.first Called e.0 e.1) m.asks
          (name_of_last m.performing.kept) a h.asks there in
          value_holds Says m.known a reply t.said some

      by_ask : (o : Option AskRecord)
          → option_and_then (λ (ask : AskRecord). option_and_then (value_of_ask m.known) (asking_of m.asks (name_of_last m.performing.kept))) o ≡ Some reply → Says reply
      by_ask None none = cc
      by_ask (Some ask) some = by_asked (asking_of m.asks (name_of_last m.performing.kept)) refl some

  pub true_answered : (now : ℕ) (reply : Reply) → HasValue b m reply → value_of_open m ≡ Some reply
      → IsNow program agree are proper troupe b at Called (with_answered b (are troupe b at) m now reply)
  true_answered now reply v is =
      let kept = m.performing.kept in
      let began = m.performing.began in
      let history = history_of program in
      let active = active_by_ask b began kept v.ask sound.kept v.is_open in
      let stands = h.stands active in
      let o = open_is program agree are troupe b at kept v.ask began sound.kept stands v.is_open in
      let there = open_there program agree are troupe b at kept v.ask o in
      let a = answers_open reply is in
      let run : a.run ≡ o.run = same_Some a.run o.run (sym a.there.run_is ∙ there.run_is) in
      let ask : a.ask ≡ o.ask = same_Some a.ask o.ask (sym a.there.ask_is ∙ ap (λ (r : Run). slice_get r.asks (name_of_last kept).ask) run ∙ there.ask_is) in
      let same : reply ≡ reply_to o.ask = a.is ∙ ap (λ (x : Ask). reply_to x) ask in
      let p = one_is_performing b began kept sound.kept v.ask v.is_open in
      let from : (answer_open_ask b.turn began now reply.outcome reply.clock kept).from ≡ kept.from =
      ap (λ (x : MemberRecord). x.from) (answered_is b (are troupe b at) began kept p now reply.outcome reply.clock) in
      let then_stands = answered_stands program agree are troupe b at kept began v.ask now sound.kept stands (h.began active) v.is_open o in
      record {
        own = h.own;
        stands = λ _. subst (λ (r : Reply). Stands history troupe b.first (answer_open_ask b.turn began now r.outcome r.clock kept)) (sym same) then_stands;
        began = λ _. h.began active ∙ ap (state_after history troupe b.first) (sym from);
        asks = h.asks;
        held = h.held;
        replies = h.replies;
        requests = h.requests;
        views = h.views;
      }

  -- ---- a run is entered

  -- the history's next run is entered so
  pub record IsNext (start : RunStart) : Type 0 where
    pub run : Run
    pub run_is : run_at (history_of program) troupe m.performing.kept.count ≡ Some run
    pub root : start.root ≡ run.root
    pub path : start.path ≡ run.path
    pub procedure : start.procedure ≡ run.procedure
    pub arguments : start.arguments ≡ run.arguments
    pub clock : start.clock ≡ run.entry

  pub true_entered : (now : ℕ) (start : RunStart) → MayStart b.declared m start → IsNext start
      → IsNow program agree are proper troupe b at Called (with_entered b (are troupe b at) m now start)
  true_entered now start may next =
      record {
        own = h.own;
        stands = λ _. entered_stands program agree are troupe b at m.performing.kept start now next.run
            (h.stands may.can.active) may.can.idle next.run_is next.root next.path next.procedure next.arguments next.clock;
        began = h.began;
        asks = h.asks;
        held = h.held;
        replies = h.replies;
        requests = h.requests;
        views = h.views;
      }

  -- a true call asks for it
  pub call_is_next : (call : HeldCall) → IsReady b m call → IsCalled (history_of program) troupe b.first Called call.sender call.header call.body
      → IsNext (start_by_call m.place.troupe b.declared.procedures call)
  call_is_next call ready called =
      let history = history_of program in
      let header = call.header in
      let c = called.true_call in
      let client = module_of program agree are header.client header.client_index c.run c.there.run_is in
      let asked = asked_run program agree are header call.body c client.0 client.1 in
      let server = called.server in
      let own = h.own in
      let index : slice_index header.clock header.server ≡ m.performing.kept.count = ap (slice_index header.clock) (server ∙ sym (sound.own ∙ own)) ∙ ready.index in
      let taken = taken_is program agree are header.client client.0 c.ask.callee c.ask.procedure c.ask.arguments client.1
      (takes program agree are header.client client.0 client.1 header.client_index c.number c.run c.ask c.there) in
      let callee : c.ask.callee ≡ troupe = sym c.so.server ∙ server in
      let imported : taken.imported ≡ b = same_Some taken.imported b (sym (subst (λ t. IsAt program t taken.imported) callee taken.there) ∙ at) in
      let shape = (proper c.ask.callee taken.imported taken.there).procedures taken.shape taken.among in
      let read = arguments_read taken.imported.declared.procedures c.ask.procedure taken.shape c.ask.arguments taken.numbered shape.arguments taken.fit in
      let arguments : arguments_in b.declared.procedures header.procedure call.body ≡ c.ask.arguments =
      ap (λ p. arguments_in b.declared.procedures p call.body) c.so.procedure
      ∙ ap (arguments_in b.declared.procedures c.ask.procedure) c.so.body_is
      ∙ subst (λ (x : Behaviour). arguments_in x.declared.procedures c.ask.procedure (spelling_of_all c.ask.arguments) ≡ c.ask.arguments) imported read in
      let few = clock_counts program agree are header.client client.0 client.1 header.client_index c.number c.run c.ask c.there header.server in
      let counted = ap (λ clock. slice_index clock header.server) c.so.clock in
      let least : min (slice_index header.clock header.server + 1) last_count ≡ slice_index header.clock header.server + 1 = omega (arith, few, counted) in
      let entry : clock_at_entry m.place.troupe header.clock ≡ slice_set header.clock header.server (slice_index header.clock header.server + 1) =
      ap (λ t. clock_at_entry t header.clock) (own ∙ sym server) ∙ ap (slice_set header.clock header.server) least in
      record {
        run = asked.0;
        run_is = subst (λ i. run_at history troupe i ≡ Some asked.0) index
            (subst (λ t. run_at history t (slice_index header.clock header.server) ≡ Some asked.0) server asked.1.run_is);
        root = sym asked.1.root;
        path = sym asked.1.path;
        procedure = sym asked.1.procedure;
        arguments = arguments ∙ sym asked.1.arguments;
        clock = entry ∙ sym asked.1.entry;
      }

-- ---- states are given

module _ (program : List Behaviour) (agree : Agree program) (are : AreModules program) (proper : AreProper program) (troupe : ℕ) (b : Behaviour)
    (at : IsAt program troupe b) (Called : Caller → List ℕ → Type 0) {M : Type 0} (d : Doing M) (keeps : Keeps program agree are proper troupe b at Called d) where
  pub true_given : Keeps program agree are proper troupe b at Called (given_states d)
  true_given = by_test (is_idle d.member.performing.kept) refl
    where
      owed : is_idle d.member.performing.kept ≡ true
          → All (λ e. IsMade program agree are proper troupe b at Called e) (snapshots_owed d.member.performing.kept d.member.requests)
      owed idle =
          let kept = d.member.performing.kept in
          let tests = parts_of (is_active kept.phase) _ idle in
          let stands = keeps.member.stands tests.0 in
          let none = none_from_test (open_ask kept) tests.1 in
          let state : IsTrueState (history_of program) troupe b.first kept.count kept.state =
          record { within = stands.within; state_is = (idle_is program agree are troupe b at kept stands none).state } in
          let message = snapshot_bytes kept.count kept.state in
          let made : Effect → Type 0 = λ e. IsMade program agree are proper troupe b at Called e in
          All-map made (rules.answer message) d.member.requests
          (All-weaker (IsFetch (history_of program) troupe b.first Called) (λ (c : Caller). made (rules.answer message c))
          (λ c fetch. inr (inl (record {
            asked = fetch;
            count = kept.count;
            state = kept.state;
            true_state = state;
            message_is = refl;
          }))) d.member.requests keeps.member.requests)

      by_test : (t : Bool) → is_idle d.member.performing.kept ≡ t → let e =
          if t then add_effects (record d { member = record d.member { requests = [] } }) (snapshots_owed d.member.performing.kept d.member.requests) else d in
          Keeps program agree are proper troupe b at Called e
      by_test false idle = keeps
      by_test true idle =
          let h = keeps.member in
          record {
            member = record {
              own = h.own;
              stands = h.stands;
              began = h.began;
              asks = h.asks;
              held = h.held;
              replies = h.replies;
              requests = All-nil (IsFetch (history_of program) troupe b.first Called);
              views = h.views;
            };
            effects = All-append (λ e. IsMade program agree are proper troupe b at Called e) d.effects
                (snapshots_owed d.member.performing.kept d.member.requests) keeps.effects (owed idle);
          }

-- ---- a member goes on

module _ {M : Type 0} (declared : M → Signature) (turn : M → List ValueTree → ℕ → List ValueTree → List Outcome → NextTurn) (first : M → List ValueTree)
    (lawful : (hosted : M) → IsModule (behaviour declared turn first hosted)) (program : List Behaviour) (agree : Agree program) (are : AreModules program)
    (proper : AreProper program) (troupe : ℕ) (Called : Caller → List ℕ → Type 0) where
  abbrev now : M → Behaviour
  now hosted = behaviour declared turn first hosted

  -- a true member on its way, whose module is that of its troupe
  pub record GoesTrue (d : Doing M) : Type 0 where
    pub there : IsAt program troupe (now d.member.performing.hosted)
    pub sound : IsSoundNow declared turn first lawful d.member
    pub keeps : KeepsTrue (history_of program) troupe (first d.member.performing.hosted) Called d

  -- behind turns
  goes_turned : (e : Doing M) → IsAt program troupe (now e.member.performing.hosted) → IsTurned (now e.member.performing.hosted) e.member
      → KeepsTrue (history_of program) troupe (first e.member.performing.hosted) Called e → GoesTrue (after_turns e)
  goes_turned e there turned keeps =
      let hosted = e.member.performing.hosted in
      let b = now hosted in
      let f = after_turns e in
      record {
        there = subst (λ x. IsAt program troupe (now x)) (sym (same_hosted e)) there;
        sound = subst (λ x. IsSound (now x) f.member) (sym (same_hosted e)) (sound_after_turns b (lawful hosted) e turned);
        keeps = subst (λ x. KeepsTrue (history_of program) troupe (first x) Called f) (sym (same_hosted e))
            (true_after_turns program agree are proper troupe b there Called e turned keeps);
      }

  pub goes_entered : (step : ℕ) (d : Doing M) (start : RunStart) (g : GoesTrue d) → MayStart (declared d.member.performing.hosted) d.member start
      → IsNext program agree are proper troupe (now d.member.performing.hosted) g.there Called d.member g.sound g.keeps.member start → GoesTrue (enter_run_of turn step d start)
  goes_entered step d start g may next =
      let b = now d.member.performing.hosted in
      let law = lawful d.member.performing.hosted in
      let e : Doing M = record d { member = with_entered b law d.member step start } in
      goes_turned e g.there (turned_by_start b law d.member step start g.sound may)
      (record { member = true_entered program agree are proper troupe b g.there Called d.member g.sound g.keeps.member step start may next; effects = g.keeps.effects })

  goes_answered : (step : ℕ) (d : Doing M) → GoesTrue d → GoesTrue (answered_open turn step d)
  goes_answered step d g = by_value (value_of_open d.member) refl
    where
      by_value : (o : Option Reply) → value_of_open d.member ≡ o → let e = option_map_or (answered_by turn step d) o d in GoesTrue e
      by_value None is = g
      by_value (Some reply) is =
          let b = now d.member.performing.hosted in
          let law = lawful d.member.performing.hosted in
          let v = has_value b d.member reply g.sound is in
          let e : Doing M = record d { member = with_answered b law d.member step reply } in
          goes_turned e g.there (turned_by_reply b law d.member step reply g.sound v)
          (record { member = true_answered program agree are proper troupe b g.there Called d.member g.sound g.keeps.member step reply v is; effects = g.keeps.effects })

  goes_given : (d : Doing M) → GoesTrue d → GoesTrue (given_states d)
  goes_given d g = by_test (is_idle d.member.performing.kept) (true_given program agree are proper troupe (now d.member.performing.hosted) g.there Called d g.keeps)
    where
      by_test : (t : Bool) → let e = if t then add_effects (record d { member = record d.member { requests = [] } })
          (snapshots_owed d.member.performing.kept d.member.requests) else d in KeepsTrue (history_of program) troupe (first d.member.performing.hosted) Called e → GoesTrue e
      by_test false keeps = g
      by_test true keeps = record { there = g.there; sound = sound_requests (now d.member.performing.hosted) d.member [] g.sound; keeps = keeps }

  goes_starting : (step left : ℕ) (d : Doing M) → GoesTrue d → GoesTrue (start_runs declared turn step left d)
  unfolding start_runs
  goes_starting step zero d g = goes_given d g
  goes_starting step (suc left) d g = by_next (goes_starting step left) (given_states d) (goes_given d g)
    where
      by_call : ((f : Doing M) → GoesTrue f → GoesTrue (start_runs declared turn step left f)) → (e : Doing M) → GoesTrue e → (o : Option HeldCall)
          → next_start e.member ≡ o → let f = option_map_or (λ call. start_runs declared turn step left
          (enter_run_of turn step e (start_by_call e.member.place.troupe (declared e.member.performing.hosted).procedures call))) o e in GoesTrue f
      by_call rest e g None is = g
      by_call rest e g (Some call) is =
          let b = now e.member.performing.hosted in
          let ready = next_is_ready b e.member call g.sound is in
          let called = next_holds (λ (c : HeldCall). IsCalled (history_of program) troupe b.first Called c.sender c.header c.body) e.member call g.keeps.member.held is in
          let start = start_by_call e.member.place.troupe (declared e.member.performing.hosted).procedures call in
          rest (enter_run_of turn step e start) (goes_entered step e start g (may_start b e.member call ready)
          (call_is_next program agree are proper troupe b g.there Called e.member g.sound g.keeps.member call ready called))

      by_next : ((f : Doing M) → GoesTrue f → GoesTrue (start_runs declared turn step left f)) → (e : Doing M) → GoesTrue e → let f =
          option_map_or (λ call. start_runs declared turn step left
          (enter_run_of turn step e (start_by_call e.member.place.troupe (declared e.member.performing.hosted).procedures call))) (next_start e.member) e in GoesTrue f
      by_next rest e g = by_call rest e g (next_start e.member) refl

  pub goes_executed : (step : ℕ) (d : Doing M) → GoesTrue d → GoesTrue (execute declared turn step d)
  goes_executed step d g =
      let e = answered_open turn step d in
      goes_starting step (length e.member.gathered.held) e (goes_answered step d g)
