-- Behind turns of a true member's last run its ask is opened, or its callers are answered, and all of that is true.
use Rattle.std.proofs.Common.{◌≡◌, ℕ, ◌-◌, Bool, true, false, not, List, [], ◌∷◌, ◌++◌, filter, length, All, Option, Some, None, refl, sym, ap, subst, ◌∙◌, arith}
use Rattle.std.specs.Prelude.{IfSome, slice_get, slice_index, unwrap_or}
use Rattle.std.specs.Option.{option_map_or}
use Rattle.std.proofs.lemmas.Bool.{eqb-true}
use Rattle.std.proofs.lemmas.List.Elements.{All-nil, All-append, All-map, All-push, All-filter}
use Rattle.std.proofs.lemmas.Option.{same_Some}
use Rattle.circus_value.specs.ValueTree.{ValueTree}
use Rattle.circus_value.specs.declared.caller.Caller.{Caller}
use Rattle.circus_external.specs.Spelling.{spelling_of_all}
use Rattle.circus_header.specs.ReturnFields.{IsReturn}
use Rattle.circus_header.specs.declared.answer.Reply.{Reply}
use Rattle.circus_header.specs.declared.answer.ReturnHeader.TheVariants as says
use Rattle.circus_collate.specs.declared.view.View.{View}
use Rattle.circus_collate.specs.declared.giving.Said.{Said}
use Rattle.circus_model.specs.Behaviour.{Behaviour}
use Rattle.circus_model.specs.Agree.{IsAt, AreModules, Agree}
use Rattle.circus_model.specs.Execution.{history_of}
use Rattle.circus_model.specs.History.{run_at, clock_before}
use Rattle.circus_model.proofs.Logging.{some_and, and_some}
use Rattle.circus_record.specs.declared.record.AskRecord.{AskRecord}
use Rattle.circus_record.specs.declared.record.RunRecord.{RunRecord}
use Rattle.circus_record.specs.declared.record.MemberRecord.{MemberRecord}
use Rattle.circus_gather.specs.declared.held.HeldCall.{HeldCall}
use Rattle.circus_gather.specs.Gathering.{is_of_index, callers, answered_by_end}
use Rattle.circus_fanout.specs.Asking.{Asking, calls_for_a_view, with_view}
use Rattle.circus_performing.specs.Performing.{open_ask, last_of, is_active, clock_after, refusal}
use Rattle.circus_performing.specs.Record.{IsRecord}
use Rattle.circus_performing.proofs.Records.{performing_is_active}
use Rattle.circus_member_rules.specs.declared.occurrence.AskName.{AskName}
use Rattle.circus_member_rules.specs.declared.occurrence.Effect.{Effect}
use Rattle.circus_member_rules.specs.Messages.{reply_message}
use Rattle.circus_member_rules.specs.Rules.{index_of_last, answer, answers_of_run, calls_of_ask}
use Rattle.circus_member_rules.specs.MemberState.{MemberState, Doing}
use Rattle.circus_member_rules.specs.Step.{name_of_last, header_of_ask, asking_begun, reply_of_run, opened_by_view, opened_ask, ended_run, after_turns}
use Rattle.circus_member_rules.specs.Seen.Sound.{IsRunOf}
use Rattle.circus_member_rules.proofs.Named.{names_decide, All-opened_at}
use Rattle.circus_member_rules.proofs.Homes.{are_views, may_call}
use Rattle.circus_member_rules.proofs.Held.{All-passed}
use Rattle.circus_member_rules.proofs.Writing.{last_has_ended, one_is_performing, reply_is}
use Rattle.circus_member_rules.proofs.Turned.{IsTurned, asking_now}
use Rattle.circus_member_theory.specs.Stands.{IsPerformed}
use Rattle.circus_member_theory.specs.Messages.{IsAskAt, AsksSo, IsReplyOf}
use Rattle.circus_member_rules.specs.Proper.{AreProper}
use Rattle.circus_member_theory.specs.Truth.{Answers, IsNamed, IsCalled, IsTrueKept}
use Rattle.circus_member_theory.proofs.Standing.{IsOpenOf, open_is, last_performed}
use Rattle.circus_member_theory.proofs.Calling.{MayName, named_by_view, known_is_long, incarnation_is_long, IsReady, calls_are_true}
use Rattle.circus_member_theory.proofs.Handled.{IsMade, Keeps, IsAsking, reply_is_made}

-- a member that has performed something is active
pub active_by_run : (b : Behaviour) (began : List ValueTree) (kept : MemberRecord) (run : RunRecord) → IsRecord b began kept → last_of kept.runs ≡ Some run
    → is_active kept.phase ≡ true
active_by_run b began kept run r at = by_test (is_active kept.phase) refl
  where
    by_test : (t : Bool) → is_active kept.phase ≡ t → is_active kept.phase ≡ true
    by_test true is = is
    by_test false is =
        let none : last_of kept.runs ≡ None = ap last_of (r.inactive is) in
        cc

pub active_by_ask : (b : Behaviour) (began : List ValueTree) (kept : MemberRecord) (ask : AskRecord) → IsRecord b began kept → open_ask kept ≡ Some ask
    → is_active kept.phase ≡ true
active_by_ask b began kept ask r is = performing_is_active b began kept (one_is_performing b began kept r ask is) r.inactive

module _ (program : List Behaviour) (agree : Agree program) (are : AreModules program) (troupe : ℕ) (b : Behaviour) (at : IsAt program troupe b) where
  -- the number of the open ask is that of its name
  number_is : (kept : MemberRecord) (last : RunRecord) → last_of kept.runs ≡ Some last → (name_of_last kept).ask ≡ length last.asks - 1
  number_is kept last is = ap (λ o. option_map_or (λ (r : RunRecord). length r.asks - 1) o 0) is

  pub open_there : (kept : MemberRecord) (ask : AskRecord) (o : IsOpenOf program agree are troupe b at kept ask)
      → IsAskAt (history_of program) troupe (name_of_last kept).run (name_of_last kept).ask o.run o.ask
  open_there kept ask o = subst (λ n. IsAskAt (history_of program) troupe (index_of_last kept) n o.run o.ask) (sym (number_is kept o.last o.last_is)) o.there

  -- so its header and body are those of the history
  pub open_asks_so : (own : ℕ) (kept : MemberRecord) (run : RunRecord) (ask : AskRecord) (o : IsOpenOf program agree are troupe b at kept ask) → last_of kept.runs ≡ Some run
      → AsksSo (name_of_last kept).ask o.run o.ask (header_of_ask own kept run ask) (spelling_of_all ask.arguments)
  open_asks_so own kept run ask o is =
      let same : o.last ≡ run = same_Some o.last run (sym o.last_is ∙ is) in
      let number : (name_of_last kept).ask ≡ length run.asks - 1 = number_is kept run is in
      let path : run.path ≡ o.run.path = ap (λ (r : RunRecord). r.path) (sym same) ∙ o.entered.path in
      let clock : clock_after run.entry run.asks ≡ clock_before o.run (length run.asks - 1) =
      subst (λ (r : RunRecord). clock_after r.entry r.asks ≡ clock_before o.run (length r.asks - 1)) same o.clock in
      record {
        root = ap (λ (r : RunRecord). r.root) (sym same) ∙ o.entered.root;
        path = ap (λ p. p ++ (length run.asks - 1) ∷ []) path ∙ ap (λ n. o.run.path ++ n ∷ []) (sym number);
        server = o.waits.asks.callee;
        procedure = o.waits.asks.procedure;
        clock = clock ∙ ap (clock_before o.run) (sym number);
        body_is = ap spelling_of_all o.waits.asks.arguments;
      }

module _ (program : List Behaviour) (agree : Agree program) (are : AreModules program) (proper : AreProper program) (troupe : ℕ) (b : Behaviour)
    (at : IsAt program troupe b) (Called : Caller → List ℕ → Type 0) {M : Type 0} (d : Doing M) (turned : IsTurned b d.member)
    (keeps : Keeps program agree are proper troupe b at Called d) where
  -- ---- the run has ended

  true_ended : (run : RunRecord) → last_of d.member.performing.kept.runs ≡ Some run → open_ask d.member.performing.kept ≡ None
      → Keeps program agree are proper troupe b at Called (ended_run d run)
  true_ended run last none =
      let m = d.member in
      let kept = m.performing.kept in
      let h = keeps.member in
      let history = history_of program in
      let index = index_of_last kept in
      let reply = reply_of_run run in
      let stands = h.stands (active_by_run b m.performing.began kept run turned.kept last) in
      let performed = some_and (run_at history troupe index) (λ r. IsPerformed r run) (last_performed program agree are troupe b at kept run stands none last) in
      let is : IsReplyOf performed.0 reply = record { clock = ap (λ o. unwrap_or o []) performed.1.1.end; outcome = ap (λ o. unwrap_or o refusal) performed.1.1.outcome } in
      let now : IsTrueKept history troupe b.first Called (index, reply) = and_some (run_at history troupe index) (λ r. IsReplyOf r reply) performed.0 performed.1.0 is in
      let of : IsRunOf m.place.troupe (length m.known.views) run = subst (λ o. IfSome o (IsRunOf m.place.troupe (length m.known.views))) last turned.run in
      let own = turned.home.own in
      let ended = last_has_ended b m.performing.began kept turned.kept none run last in
      let returns : IsReturn (says.Reply reply.clock) = (reply_is b m.performing.began kept (are troupe b at) m.place.troupe (length m.known.views) _ run of
      (omega (arith, own)) turned.home.few ended).clock in
      record {
        member = record {
          own = h.own;
          stands = h.stands;
          began = h.began;
          asks = h.asks;
          held = All-filter (λ c. not (is_of_index m.gathered.module index c)) Held m.gathered.held h.held;
          replies = All-push (λ (r : ℕ × Reply). IsTrueKept history troupe b.first Called r) m.gathered.replies (index, reply) h.replies now;
          requests = h.requests;
          views = h.views;
        };
        effects = All-append Made d.effects (answers_of_run (answered_by_end m.gathered index) reply) keeps.effects (told index reply now returns);
      }
    where
      Made : Effect → Type 0
      Made e = IsMade program agree are proper troupe b at Called e

      Held : HeldCall → Type 0
      Held c = IsCalled (history_of program) troupe b.first Called c.sender c.header c.body

      told : (index : ℕ) (reply : Reply) → IsTrueKept (history_of program) troupe b.first Called (index, reply) → IsReturn (says.Reply reply.clock)
          → All Made (answers_of_run (answered_by_end d.member.gathered index) reply)
      told index reply now returns =
          let g = d.member.gathered in
          let own : g.module ≡ troupe = turned.own ∙ keeps.member.own in
          let calls = filter (is_of_index g.module index) g.held in
          let each : HeldCall → Type 0 = λ c. Made (answer (reply_message reply) c.sender) in
          All-map Made (answer (reply_message reply)) (callers calls)
          (All-map (λ (c : Caller). Made (answer (reply_message reply) c)) (λ (c : HeldCall). c.sender) calls
          (All-passed Held each (is_of_index g.module index) g.held
          (λ c counts called. reply_is_made program agree are proper troupe b at Called c.sender c.header c.body index reply called
          (ap (slice_index c.header.clock) (sym own) ∙ eqb-true (slice_index c.header.clock g.module) index counts) now returns)
          keeps.member.held))

  -- ---- it asks

  true_opened : (run : RunRecord) (ask : AskRecord) → last_of d.member.performing.kept.runs ≡ Some run → open_ask d.member.performing.kept ≡ Some ask
      → Keeps program agree are proper troupe b at Called (opened_ask d run ask)
  true_opened run ask last is = by_view (slice_get d.member.known.views ask.callee) refl
    where
      m : MemberState M
      m = d.member

      name : AskName
      name = name_of_last d.member.performing.kept

      a : Asking
      a = asking_begun d.member.place d.member.performing.kept run ask

      named : IsNamed (history_of program) troupe b.first Called name a.header a.body
      named =
          let kept = m.performing.kept in
          let stands = keeps.member.stands (active_by_ask b m.performing.began kept ask turned.kept is) in
          let o = open_is program agree are troupe b at kept ask m.performing.began turned.kept stands is in
          record {
            run = o.run;
            ask = o.ask;
            there = open_there program agree are troupe b at kept ask o;
            so = open_asks_so program agree are troupe b at m.place.troupe kept run ask o last;
            client = keeps.member.own;
            client_index = refl;
          }

      ready : IsReady program agree are proper troupe b at b.first Called m.known name a
      ready =
          let of : IsRunOf m.place.troupe (length m.known.views) run = subst (λ x. IfSome x (IsRunOf m.place.troupe (length m.known.views))) last turned.run in
          let now = asking_now b (are troupe b at) m run ask last is turned.home of turned.kept in
          record {
            may = may_call b.declared m.place m.known a turned.home now.ready;
            client = incarnation_is_long m.known a.header.client keeps.member.views;
            named = named;
          }

      opened : (view : View) → slice_get m.known.views ask.callee ≡ Some view → Keeps program agree are proper troupe b at Called (opened_by_view d name a view)
      opened view there =
          let h = keeps.member in
          let sent = with_view view m.known.down a in
          let asks : AskName × Asking → Type 0 = λ e. IsAsking program agree are proper troupe b at Called e in
          let new : asks (name, sent) = record { named = named; said = All-nil (λ (s : Said Reply). Answers (history_of program) troupe b.first Called name s.value) } in
          let sends = calls_for_a_view view m.known.down [] in
          let one : MayName view.incarnation = record {
            some = are_views m.known turned.home.incarnations ask.callee view there;
            long = known_is_long m.known.views ask.callee view there h.views;
          } in
          record {
            member = record {
              own = h.own;
              stands = h.stands;
              began = h.began;
              asks = All-opened_at asks m.asks name sent (λ n here. subst (λ x. asks (x, sent)) ((names_decide name n).0 here) new) h.asks;
              held = h.held;
              replies = h.replies;
              requests = h.requests;
              views = h.views;
            };
            effects = All-append (λ e. IsMade program agree are proper troupe b at Called e) d.effects (calls_of_ask m.known name a sends) keeps.effects
                (calls_are_true program agree are proper troupe b at b.first Called m.known name a sends ready (named_by_view view m.known.down [] one));
          }

      by_view : (o : Option View) → slice_get m.known.views ask.callee ≡ o → let e = option_map_or (opened_by_view d name a) o d in
          Keeps program agree are proper troupe b at Called e
      by_view None there = keeps
      by_view (Some view) there = opened view there

  -- ---- either

  pub true_after_turns : Keeps program agree are proper troupe b at Called (after_turns d)
  true_after_turns = by_run (last_of d.member.performing.kept.runs) refl
    where
      by_ask : (run : RunRecord) → last_of d.member.performing.kept.runs ≡ Some run → (o : Option AskRecord) → open_ask d.member.performing.kept ≡ o → let e =
          option_map_or (opened_ask d run) o (ended_run d run) in Keeps program agree are proper troupe b at Called e
      by_ask run last None none = true_ended run last none
      by_ask run last (Some ask) is = true_opened run ask last is

      by_run : (o : Option RunRecord) → last_of d.member.performing.kept.runs ≡ o → let e =
          option_map_or (λ (run : RunRecord). option_map_or (opened_ask d run) (open_ask d.member.performing.kept) (ended_run d run)) o d in
          Keeps program agree are proper troupe b at Called e
      by_run None last = keeps
      by_run (Some run) last = by_ask run last (open_ask d.member.performing.kept) refl
