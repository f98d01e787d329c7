-- Behind turns of a member's last run nothing came late or early so far.
use Rattle.std.proofs.Common.{◌≡◌, ℕ, ◌+◌, ◌-◌, ◌<◌, ◌≤◌, nat_eq, true, false, List, [], ◌∷◌, ◌++◌, length, take, Option, None, Some, inl, inr, refl, ap, sym, subst, ◌∙◌, arith}
use Rattle.std.specs.Prelude.{IfSome, slice_get, slice_index, unwrap_or, option_and_then}
use Rattle.std.specs.Option.{option_map_or}
use Rattle.std.proofs.lemmas.Bool.{le-leb, eq-eqb, ne_eqb}
use Rattle.std.proofs.lemmas.Option.{same_Some, slice_get_within}
use Rattle.std.proofs.Math.Seq.{take-append_seam}
use Rattle.circus_value.specs.ValueTree.{ValueTree}
use Rattle.circus_value.specs.declared.outcome.Outcome.{Outcome}
use Rattle.circus_header.specs.declared.answer.Reply.{Reply}
use Rattle.circus_collate.specs.declared.view.View.{View}
use Rattle.circus_transfer.specs.declared.joiner.Joiner.{Joiner}
use Rattle.circus_model.specs.Execution.{is_spent}
use Rattle.circus_model.specs.declared.signature.Signature.{Signature}
use Rattle.circus_model.specs.NextTurn.{NextTurn}
use Rattle.circus_model.specs.Behaviour.{Behaviour, IsModule}
use Rattle.circus_model.proofs.Lookups.{at_end}
use Rattle.circus_record.specs.declared.record.AskRecord.{AskRecord}
use Rattle.circus_record.specs.declared.record.RunRecord.{RunRecord}
use Rattle.circus_record.specs.declared.record.MemberRecord.{MemberRecord}
use Rattle.circus_gather.specs.Gathering.{Gathered, reply_of}
use Rattle.circus_fanout.specs.Asking.{Asking, with_view}
use Rattle.circus_performing.specs.Performing.{clock_after, last_of, unless_replied, open_ask, with_run, last_count}
use Rattle.circus_performing.specs.Record.{behaviour, IsRecord}
use Rattle.circus_performing.proofs.Ends.{last_more, latest_more}
use Rattle.circus_performing.proofs.Records.{none_is_some, performing_has_one}
use Rattle.circus_member_rules.specs.declared.place.Place.{Place}
use Rattle.circus_member_rules.specs.declared.occurrence.AskName.{AskName}
use Rattle.circus_member_rules.specs.Rules.{index_of_last}
use Rattle.circus_member_rules.specs.MemberState.{MemberState, Doing}
use Rattle.circus_member_rules.specs.Step.{name_of_last, asking_begun, reply_of_run, opened_by_view, opened_ask, ended_run, after_turns}
use Rattle.circus_member_rules.specs.Seen.Sound.{IsRunOf}
use Rattle.circus_member_rules.proofs.Named.{lookup-push}
use Rattle.circus_member_rules.proofs.Homes.{slice_get_none}
use Rattle.circus_member_rules.proofs.Writing.{one_is_performing, last_is_performed, last_has_ended}
use Rattle.circus_member_rules.proofs.Turned.{IsTurned, IsAsking, asking_now}
use Rattle.circus_member_theory.specs.Past.{Past, now, Rises, views_known, nodes_declared_down, calls_arrived}
use Rattle.circus_member_theory.proofs.Timely.Firsts.{earlier}
use Rattle.circus_member_theory.proofs.Timely.Runs.{AsksSo, EndsNow, ended_by, may_by, RunsSo}
use Rattle.circus_member_theory.proofs.Timely.Calls.{left_end}
use Rattle.circus_member_theory.proofs.Timely.Replies.{IsAskingOf, IsWaitingBy, said_none, waits_opened}
use Rattle.circus_member_theory.proofs.Timely.Known.{HoldsSo, IsOnItsWay}

-- ---- the last run behind its turns

module _ (b : Behaviour) (began : List ValueTree) (kept : MemberRecord) (run : RunRecord) (step : ℕ) (r : IsRecord b began (with_run kept run)) where
  last_is : last_of (with_run kept run).runs ≡ Some run
  last_is = last_more kept.runs run

  -- where it waits, it asked now
  pub open_is_new : AsksSo (λ n ask. ask.reply ≡ None → ask.asked ≡ step) run.entry run.asks → IfSome (open_ask (with_run kept run)) (λ ask. ask.asked ≡ step)
  open_is_new so = by_ask (open_ask (with_run kept run)) refl
    where
      by_ask : (o : Option AskRecord) → open_ask (with_run kept run) ≡ o → IfSome o (λ ask. ask.asked ≡ step)
      by_ask None is = tt
      by_ask (Some ask) is =
          let p = one_is_performing b began (with_run kept run) r ask is in
          let w = p.waiting in
          let same : p.run ≡ run = same_Some p.run run (sym (last_is_performed b began (with_run kept run) p) ∙ last_is) in
          let one : w.ask ≡ ask = same_Some w.ask ask (sym (performing_has_one b began (with_run kept run) p) ∙ is) in
          let all : run.asks ≡ w.before ++ w.ask ∷ [] = ap (λ (x : RunRecord). x.asks) (sym same) ∙ w.asks_are in
          let entry : p.run.entry ≡ run.entry = ap (λ (x : RunRecord). x.entry) same in
          let there : slice_get run.asks (length w.before) ≡ Some w.ask = ap (λ xs. slice_get xs (length w.before)) all ∙ at_end w.before w.ask in
          let before : take (length w.before) run.asks ≡ w.before = ap (take (length w.before)) all ∙ take-append_seam w.before (w.ask ∷ []) in
          let left : is_spent (clock_after run.entry (take (length w.before) run.asks)) ≡ false =
          (λ j. is_spent (clock_after (sym entry j) (before j))) ∙ w.waits.calls_left in
          subst (λ (a : AskRecord). a.asked ≡ step) one (so (length w.before) w.ask there left w.waits.no_reply)

  -- where it doesn't, it has ended now
  pub ended_now : (p : Past) → now p ≡ step → EndsNow step run.ended → open_ask (with_run kept run) ≡ None → (last : RunRecord) → last_of (with_run kept run).runs ≡ Some last
      → ended_by last.ended p ≡ true
  ended_now p at ends none last is =
      let same : run ≡ last = same_Some run last (sym last_is ∙ is) in
      let e = last_has_ended b began (with_run kept run) r none last is in
      subst (λ (x : RunRecord). ended_by x.ended p ≡ true) same (by_end ends (ap (λ (x : RunRecord). x.ended) same ∙ e.ended_is))
    where
      by_end : {s : ℕ} → EndsNow step run.ended → run.ended ≡ Some s → ended_by run.ended p ≡ true
      by_end (inl not_yet) some = absurd (none_is_some (sym not_yet ∙ some))
      by_end (inr so) some = rw so (le-leb step (now p) (omega (arith, at)))

-- ---- a member

module _ {M : Type 0} (declared : M → Signature) (turn : M → List ValueTree → ℕ → List ValueTree → List Outcome → NextTurn) (first : M → List ValueTree)
    (lawful : (hosted : M) → IsModule (behaviour declared turn first hosted)) (place : Place) (boot : List View) (begins : Joiner) (hosted : M) (at_boot : ℕ) (p : Past) where
  -- what a member has done by the end of this past came in time, and what it is, knows and holds is what the past says
  pub record WellSoFar (at : Place) (host : M) (views : List View) (gone : List ℕ) (g : Gathered) (kept : MemberRecord) : Type 0 where
    pub place_is : at ≡ place
    pub hosted_is : host ≡ hosted
    pub views_are : views ≡ views_known boot p
    pub gone_are : gone ≡ nodes_declared_down p
    pub holds : HoldsSo p g
    pub from_is : g.from ≡ kept.from
    pub unreplied : (index : ℕ) → kept.from + length kept.runs ≤ index → reply_of g index ≡ None
    pub way : IsOnItsWay begins p kept
    pub enough : at_boot ≤ length kept.runs
    pub runs : RunsSo place boot begins (declared hosted).procedures at_boot p kept.from kept.runs
    pub next : earlier (may_by place boot begins kept.from kept.runs (length kept.runs)) p ≡ None
    pub few : kept.from + length kept.runs ≤ last_count + 1
    pub ended : open_ask kept ≡ None → (run : RunRecord) → last_of kept.runs ≡ Some run → ended_by run.ended p ≡ true

  abbrev pub Well : MemberState M → Type 0
  Well m = WellSoFar m.place m.performing.hosted m.known.views m.known.down m.gathered m.performing.kept

  -- the open ask waits by its name, and was asked before the end
  pub record IsWaiting (asks : List (AskName × Asking)) (kept : MemberRecord) (ask : AskRecord) : Type 0 where
    pub asked : ask.asked ≤ now p
    pub waits : IsWaitingBy place boot begins p asks (name_of_last kept) ask

  -- and it has replied to the last run, or asked
  pub record GoesSoFar (at : Place) (host : M) (views : List View) (gone : List ℕ) (g : Gathered) (kept : MemberRecord) (asks : List (AskName × Asking)) : Type 0 where
    pub well : WellSoFar at host views gone g kept
    pub replied : open_ask kept ≡ None → (run : RunRecord) → last_of kept.runs ≡ Some run → (reply : Reply) × (reply_of g (index_of_last kept) ≡ Some reply)
    pub waiting : IfSome (open_ask kept) (IsWaiting asks kept)

  abbrev pub Goes : MemberState M → Type 0
  Goes m = GoesSoFar m.place m.performing.hosted m.known.views m.known.down m.gathered m.performing.kept m.asks

  -- ---- the run has ended

  goes_ended : (d : Doing M) (run : RunRecord) → last_of d.member.performing.kept.runs ≡ Some run → open_ask d.member.performing.kept ≡ None
      → reply_of d.member.gathered (index_of_last d.member.performing.kept) ≡ None → Well d.member → Goes (ended_run d run).member
  goes_ended d run last none fresh h =
      let m = d.member in
      let kept = m.performing.kept in
      let index = index_of_last kept in
      let reply = reply_of_run run in
      let some : length kept.runs - 1 < length kept.runs = slice_get_within kept.runs (length kept.runs - 1) run last in
      record {
        well = record {
          place_is = h.place_is;
          hosted_is = h.hosted_is;
          views_are = h.views_are;
          gone_are = h.gone_are;
          holds = record { least = h.holds.least; left = left_end m.gathered index reply (calls_arrived p) h.holds.left };
          from_is = h.from_is;
          unreplied = λ i below.
              let other : nat_eq i index ≡ false = ne_eqb i index (λ same. omega (arith, same, below, some)) in
              lookup-push (nat_eq i) m.gathered.replies (index, reply) ∙ rw (h.unreplied i below, other) refl;
          way = h.way;
          enough = h.enough;
          runs = h.runs;
          next = h.next;
          few = h.few;
          ended = h.ended;
        };
        replied = λ _ r at. (reply, lookup-push (nat_eq index) m.gathered.replies (index, reply) ∙ rw (fresh, eq-eqb index index refl) refl);
        waiting = subst (λ o. IfSome o (IsWaiting m.asks kept)) (sym none) tt;
      }

  -- ---- it asks

  module _ (rises : Rises p) where
    goes_opened : (b : Behaviour) (d : Doing M) (run : RunRecord) (ask : AskRecord) (view : View) → last_of d.member.performing.kept.runs ≡ Some run
        → open_ask d.member.performing.kept ≡ Some ask
        → IsRecord b d.member.performing.began d.member.performing.kept → ask.asked ≡ now p → Well d.member
        → Goes (opened_by_view d (name_of_last d.member.performing.kept) (asking_begun d.member.place d.member.performing.kept run ask) view).member
    goes_opened b d run ask view last is r new h =
        let m = d.member in
        let kept = m.performing.kept in
        let name = name_of_last kept in
        let q = one_is_performing b m.performing.began kept r ask is in
        let w = q.waiting in
        let same : q.run ≡ run = same_Some q.run run (sym (last_is_performed b m.performing.began kept q) ∙ last) in
        let one : w.ask ≡ ask = same_Some w.ask ask (sym (performing_has_one b m.performing.began kept q) ∙ is) in
        let clock : clock_after q.run.entry q.run.asks ≡ clock_after q.run.entry w.before =
        ap (clock_after q.run.entry) w.asks_are ∙ latest_more (λ (a : AskRecord). a.after) q.run.entry w.before w.ask ∙ ap
        (λ o. unwrap_or o (clock_after q.run.entry w.before)) w.waits.no_clock in
        let index : slice_index (clock_after run.entry run.asks) ask.callee ≡ ask.index =
        (λ j. slice_index (clock_after (sym same j).entry (sym same j).asks) (sym one j).callee) ∙ ap (λ c. slice_index c w.ask.callee) clock ∙ sym w.asking.index ∙ ap
        (λ (a : AskRecord). a.index) one in
        let a : Asking = with_view view m.known.down (asking_begun m.place kept run ask) in
        let so : IsAskingOf place boot begins p name ask a =
        record {
          said_so = sym (said_none ask.asked name p rises (omega (arith, new)));
          kind = ap (λ (x : Place). x.replies) h.place_is;
          server = refl;
          index = index;
        } in
        record {
          well = h;
          replied = λ none. absurd (none_is_some (sym none ∙ is));
          waiting = subst (λ o. IfSome o (IsWaiting (opened_by_view d name (asking_begun m.place kept run ask) view).member.asks kept)) (sym is)
              (record { asked = omega (arith, new); waits = waits_opened place boot begins p m.asks name ask a so });
        }

    -- ---- either

    pub goes_after_turns : (d : Doing M) → let b = behaviour declared turn first d.member.performing.hosted in IsTurned b d.member
        → IfSome (open_ask d.member.performing.kept) (λ ask. ask.asked ≡ now p) → Well d.member → Goes (after_turns d).member
    goes_after_turns d t new h = by_run (last_of d.member.performing.kept.runs) refl
      where
        b : Behaviour
        b = behaviour declared turn first d.member.performing.hosted

        by_view : (run : RunRecord) (ask : AskRecord) → last_of d.member.performing.kept.runs ≡ Some run → open_ask d.member.performing.kept ≡ Some ask → IsAsking b d.member run ask
            → (o : Option View)
            → slice_get d.member.known.views ask.callee ≡ o
            → let e = option_map_or (opened_by_view d (name_of_last d.member.performing.kept) (asking_begun d.member.place d.member.performing.kept run ask)) o d in Goes e.member
        by_view run ask last is asking None none =
            let past = slice_get_none d.member.known.views ask.callee none in
            let below = asking.below in
            let own = t.home.own in
            absurd (omega (arith, past, below, own))
        by_view run ask last is asking (Some view) some =
            let asked : ask.asked ≡ now p = subst (λ o. IfSome o (λ (x : AskRecord). x.asked ≡ now p)) is new in
            goes_opened b d run ask view last is t.kept asked h

        by_ask : (run : RunRecord) → last_of d.member.performing.kept.runs ≡ Some run → (o : Option AskRecord) → open_ask d.member.performing.kept ≡ o
            → let e = option_map_or (opened_ask d run) o (ended_run d run) in Goes e.member
        by_ask run last None none = goes_ended d run last none t.fresh h
        by_ask run last (Some ask) is =
            let of : IsRunOf d.member.place.troupe (length d.member.known.views) run = subst
            (λ x. IfSome x (IsRunOf d.member.place.troupe (length d.member.known.views))) last t.run in
            by_view run ask last is (asking_now b (lawful d.member.performing.hosted) d.member run ask last is t.home of t.kept) (slice_get d.member.known.views ask.callee) refl

        by_run : (o : Option RunRecord) → last_of d.member.performing.kept.runs ≡ o
            → let e = option_map_or (λ (run : RunRecord). option_map_or (opened_ask d run) (open_ask d.member.performing.kept) (ended_run d run)) o d in Goes e.member
        by_run None last =
            let none : open_ask d.member.performing.kept ≡ None = ap (λ o. option_and_then (λ (r : RunRecord). option_and_then unless_replied (last_of r.asks)) o) last in
            record {
              well = h;
              replied = λ _ run at. absurd (none_is_some (sym last ∙ at));
              waiting = subst (λ o. IfSome o (IsWaiting d.member.asks d.member.performing.kept)) (sym none) tt;
            }
        by_run (Some run) last = by_ask run last (open_ask d.member.performing.kept) refl
