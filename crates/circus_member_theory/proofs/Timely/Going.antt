-- A member goes on in a step: what starts and what is answered comes in the first step that allows it.
use Rattle.std.proofs.Common.{◌≡◌, ℕ, zero, suc, ◌+◌, ◌-◌, ◌<◌, ◌≤◌, ◌&&◌, nat_le, Bool, true, false, if◌then◌else◌, List, [], ◌∷◌, ◌++◌, length, Option, None, Some, inl, inr, refl, ap, sym, subst, ◌∙◌, arith, length-append}
use Rattle.std.specs.Prelude.{IsSomeAnd, IfSome, slice_get, option_and_then}
use Rattle.std.specs.Option.{option_map_or}
use Rattle.std.proofs.lemmas.Bool.{le-leb, leb-true, leb-false}
use Rattle.circus_value.specs.ValueTree.{ValueTree}
use Rattle.circus_value.specs.declared.outcome.Outcome.{Outcome}
use Rattle.circus_header.specs.declared.answer.Reply.{Reply}
use Rattle.circus_collate.specs.declared.view.View.{View}
use Rattle.circus_transfer.specs.declared.joiner.Joiner.{Joiner}
use Rattle.circus_model.specs.declared.signature.Signature.{Signature}
use Rattle.circus_model.specs.NextTurn.{NextTurn}
use Rattle.circus_model.specs.Behaviour.{Behaviour, IsModule}
use Rattle.circus_model.proofs.Lookups.{within, at_end}
use Rattle.circus_record.specs.declared.record.AskRecord.{AskRecord}
use Rattle.circus_record.specs.declared.record.RunRecord.{RunRecord}
use Rattle.circus_record.specs.declared.record.MemberRecord.{MemberRecord}
use Rattle.circus_gather.specs.declared.held.HeldCall.{HeldCall}
use Rattle.circus_gather.specs.Gathering.{reply_of, call_to_start}
use Rattle.circus_performing.specs.declared.start.RunStart.{RunStart}
use Rattle.circus_performing.specs.Performing.{is_active, state_after, last_of, open_ask, begin_run, answered_ask, gone_on, with_run, most_turns, last_count, answer_open_ask}
use Rattle.circus_performing.specs.Record.{start_of, turns, behaviour, IsPerforming, IsRecord}
use Rattle.circus_performing.proofs.Ends.{last_more}
use Rattle.circus_performing.proofs.Records.{none_is_some, performing_has_one, with_answer, answered_is}
use Rattle.circus_member_rules.specs.declared.place.Place.{Place}
use Rattle.circus_member_rules.specs.OpenAsks.{asking_of}
use Rattle.circus_member_rules.specs.Rules.{index_of_last, value_of_ask, snapshots_owed}
use Rattle.circus_member_rules.specs.MemberState.{MemberState, Doing, add_effects}
use Rattle.circus_member_rules.specs.Step.{name_of_last, is_idle, start_by_call, main_start, next_start, value_of_open, given_states, answered_by, answered_open, enter_run_of, start_runs, execute}
use Rattle.circus_member_rules.specs.Seen.Sound.{MayStart}
use Rattle.circus_member_rules.proofs.Writing.{one_is_performing, none_is_idle}
use Rattle.circus_member_rules.proofs.Entering.{with_entered, turned_by_start, has_value, with_answered, turned_by_reply}
use Rattle.circus_member_rules.proofs.Starting.{next_is_ready, may_start, IsSoundNow, sound_given, sound_entered, sound_answered}
use Rattle.circus_member_rules.proofs.Enough.{next_is_idle, start_by}
use Rattle.circus_member_theory.specs.Past.{Past, now, Rises, phase}
use Rattle.circus_member_theory.specs.First.{first_given}
use Rattle.circus_member_theory.specs.Timely.{ShowsAnswer, collated_call, is_free_for, may_answer}
use Rattle.circus_member_theory.proofs.Timely.Firsts.{earlier, first_now, none_now}
use Rattle.circus_member_theory.proofs.Timely.Runs.{AsksSo, IsNew, gone_so, not_before, named, ended_by, may_by, kept_of, next_more, not_free, IsInTime, RunSo, RunsSo, runs_more, runs_less, asks_more, asks_less}
use Rattle.circus_member_theory.proofs.Timely.Calls.{left_start, call_is}
use Rattle.circus_member_theory.proofs.Timely.Replies.{value_is, new_waits}
use Rattle.circus_member_theory.proofs.Timely.Open.{name_is}
use Rattle.circus_member_theory.proofs.Timely.Turned.{open_is_new, ended_now, WellSoFar, IsWaiting, Goes, goes_after_turns}

module _ {M : Type 0} (declared : M → Signature) (turn : M → List ValueTree → ℕ → List ValueTree → List Outcome → NextTurn) (first : M → List ValueTree)
    (lawful : (hosted : M) → IsModule (behaviour declared turn first hosted)) (place : Place) (boot : List View) (begins : Joiner) (hosted : M) (at_boot : ℕ) (p : Past)
    (rises : Rises p) where
  abbrev pub GoesNow : MemberState M → Type 0
  GoesNow m = Goes declared turn first lawful place boot begins hosted at_boot p m

  abbrev pub may : ℕ → List RunRecord → ℕ → Past → Option HeldCall
  may from runs number = may_by place boot begins from runs number

  abbrev pub InTime : ℕ → ℕ → ℕ → AskRecord → Type 0
  InTime from number n = IsInTime place boot begins p (named from number n)

  abbrev pub RunNow : ℕ → List RunRecord → ℕ → RunRecord → Type 0
  RunNow from runs number run = RunSo place boot begins (declared hosted).procedures at_boot p from runs number run

  -- ---- a run behind others, as far as it went now

  new_in_time : (from number n : ℕ) (ask : AskRecord) → IsNew (now p) ask → InTime from number n ask
  new_in_time from number n ask new = inr (new_waits place boot begins p (named from number n) ask rises new)

  -- the asks of a run that goes on are asked now, but for those that were answered
  abbrev AskedNow : ℕ → AskRecord → Type 0
  AskedNow n ask = ask.reply ≡ None → ask.asked ≡ now p

  and_more : {X : Type 0} (P Q : X → Type 0) (o : Option X) → ((x : X) → P x → Q x) → IsSomeAnd o P → IsSomeAnd o Q
  and_more P Q None more h = h
  and_more P Q (Some x) more h = more x h

  -- what holds of a record with a run that went on now
  record GoneWell (before : MemberRecord) (gone : RunRecord) : Type 0 where
    pub runs : RunsSo place boot begins (declared hosted).procedures at_boot p before.from (before.runs ++ gone ∷ [])
    pub next : earlier (may before.from (before.runs ++ gone ∷ []) (length (before.runs ++ gone ∷ []))) p ≡ None
    pub ended : open_ask (with_run before gone) ≡ None → (run : RunRecord) → last_of (with_run before gone).runs ≡ Some run → ended_by run.ended p ≡ true
    pub new : IfSome (open_ask (with_run before gone)) (λ ask. ask.asked ≡ now p)

  gone_well : (b : Behaviour) (began : List ValueTree) (before : MemberRecord) (on : List Outcome → NextTurn) (run : RunRecord) → let gone = gone_on (now p) on most_turns run in
      IsRecord b began (with_run before gone) → run.ended ≡ None → RunNow before.from before.runs (length before.runs) run → AsksSo AskedNow run.entry run.asks
      → RunsSo place boot begins (declared hosted).procedures at_boot p before.from before.runs → GoneWell before gone
  gone_well b began before on run r open_now so asked runs =
      let gone = gone_on (now p) on most_turns run in
      let from = before.from in
      let number = length before.runs in
      let g = gone_so (InTime from number) (now p) (new_in_time from number) on most_turns run open_now so.answers in
      let a = gone_so AskedNow (now p) (λ n ask new none. new.asked) on most_turns run open_now asked in
      let entry : run.entry ≡ gone.entry = ap (λ (s : RunStart). s.clock) (sym g.start) in
      let now_so : RunNow from before.runs number gone =
      record {
        boots = λ below. let main = so.boots below in (g.started ∙ main.0, g.start ∙ main.1);
        starts = λ is.
            and_more (λ (given : ℕ × HeldCall). (run.started ≡ given.0) × (start_of run ≡ start_by_call place.troupe (declared hosted).procedures given.1))
            (λ (given : ℕ × HeldCall). (gone.started ≡ given.0) × (start_of gone ≡ start_by_call place.troupe (declared hosted).procedures given.1))
            (first_given (may from before.runs number) p) (λ given h. (g.started ∙ h.0, g.start ∙ h.1)) (so.starts is);
        answers = subst (λ c. AsksSo (InTime from number) c gone.asks) entry g.asks_so;
      } in
      let long : suc number ≡ length (before.runs ++ gone ∷ []) = omega (arith, length-append before.runs (gone ∷ [])) in
      record {
        runs = runs_more place boot begins (declared hosted).procedures at_boot p rises from before.runs gone runs now_so;
        next = subst (λ n. earlier (may from (before.runs ++ gone ∷ []) n) p ≡ None) long (next_more place boot begins from before.runs gone p rises
            (not_before (now p) gone.ended g.ended));
        ended = ended_now b began before gone (now p) r p refl g.ended;
        new = open_is_new b began before gone (now p) r (subst (λ c. AsksSo AskedNow c gone.asks) entry a.asks_so);
      }

  -- ---- a run is entered

  -- by a member that had `before` runs to enter at boot so far
  pub goes_entered : (d : Doing M) (start : RunStart) (before : ℕ) → IsSoundNow declared turn first lawful d.member → MayStart (declared d.member.performing.hosted) d.member start
      → Goes declared turn first lawful place boot begins hosted before p d.member
      → RunsSo place boot begins (declared hosted).procedures at_boot p d.member.performing.kept.from d.member.performing.kept.runs
      → at_boot ≤ length d.member.performing.kept.runs + 1
      → (length d.member.performing.kept.runs < at_boot → (now p ≡ 0) × (start ≡ main_start place.troupe boot))
      → (at_boot ≤ length d.member.performing.kept.runs
      → IsSomeAnd (first_given (may d.member.performing.kept.from d.member.performing.kept.runs (length d.member.performing.kept.runs)) p)
      (λ given. (now p ≡ given.0) × (start ≡ start_by_call place.troupe (declared hosted).procedures given.1)))
      → d.member.performing.kept.from + length d.member.performing.kept.runs ≤ last_count → GoesNow (enter_run_of turn (now p) d start).member
  goes_entered d start before sound may_so h runs_so enough main starts few =
      let m = d.member in
      let kept = m.performing.kept in
      let b = behaviour declared turn first m.performing.hosted in
      let law = lawful m.performing.hosted in
      let e : Doing M = record d { member = with_entered b law m (now p) start } in
      let t = turned_by_start b law m (now p) start sound may_so in
      let on = b.turn kept.state start.procedure start.arguments in
      let gone = gone_on (now p) on most_turns (begin_run (now p) start) in
      let none : AsksSo (InTime kept.from (length kept.runs)) start.clock [] = λ n ask there left. absurd (none_is_some there) in
      let asked : AsksSo AskedNow start.clock [] = λ n ask there left. absurd (none_is_some there) in
      let g = gone_well b m.performing.began kept on (begin_run (now p) start) t.kept refl (record { boots = main; starts = starts; answers = none }) asked runs_so in
      let long : length (kept.runs ++ gone ∷ []) ≡ length kept.runs + 1 = length-append kept.runs (gone ∷ []) in
      let w = h.well in
      goes_after_turns declared turn first lawful place boot begins hosted at_boot p rises e t g.new
      (record {
        place_is = w.place_is;
        hosted_is = w.hosted_is;
        views_are = w.views_are;
        gone_are = w.gone_are;
        holds = record { least = w.holds.least; left = left_start m.gathered kept.count _ w.holds.left };
        from_is = w.from_is;
        unreplied = λ i below. w.unreplied i (omega (arith, below, long));
        way = record { phase_is = w.way.phase_is; outside = w.way.outside; active = w.way.active; few = w.way.few };
        enough = omega (arith, enough, long);
        runs = g.runs;
        next = g.next;
        few = omega (arith, few, long);
        ended = g.ended;
      })

  -- ---- the open ask is answered

  -- the ask that waits, with what it waits by
  record IsOpenNow (m : MemberState M) (b : Behaviour) (q : IsPerforming b m.performing.began m.performing.kept) (reply : Reply) : Type 0 where
    pub given : first_given (may_answer place boot begins (named m.performing.kept.from (length q.before) (length q.waiting.before)) q.waiting.ask) p ≡ Some (now p, reply)

  open_now_given : (m : MemberState M) (b : Behaviour) (q : IsPerforming b m.performing.began m.performing.kept) (reply : Reply) → value_of_open m ≡ Some reply → GoesNow m
      → InTime m.performing.kept.from (length q.before) (length q.waiting.before) q.waiting.ask → IsOpenNow m b q reply
  open_now_given m b q reply is h in_time =
      let kept = m.performing.kept in
      let w = q.waiting in
      let last : last_of kept.runs ≡ Some q.run = ap last_of q.runs_are ∙ last_more q.before q.run in
      let runs : length kept.runs ≡ length q.before + 1 = ap length q.runs_are ∙ length-append q.before (q.run ∷ []) in
      let asks : length q.run.asks ≡ length w.before + 1 = ap length w.asks_are ∙ length-append w.before (w.ask ∷ []) in
      let few = h.well.few in
      let name : name_of_last kept ≡ named kept.from (length q.before) (length w.before) =
      name_is kept (length q.before) (length w.before) q.run last (omega (arith, runs)) (omega (arith, asks)) (omega (arith, runs, few)) in
      let one = performing_has_one b m.performing.began kept q in
      let waits : IsWaiting declared turn first lawful place boot begins hosted at_boot p m.asks kept w.ask =
      subst (λ o. IfSome o (IsWaiting declared turn first lawful place boot begins hosted at_boot p m.asks kept)) one h.waiting in
      let by_name : value_of_open m ≡ value_of_ask m.known waits.waits.asking =
      ap (λ o. option_and_then (λ (x : AskRecord). option_and_then (value_of_ask m.known) (asking_of m.asks (name_of_last kept))) o) one
      ∙ ap (option_and_then (value_of_ask m.known)) waits.waits.there in
      let value : may_answer place boot begins (named kept.from (length q.before) (length w.before)) w.ask p ≡ Some reply =
      ap (λ n. may_answer place boot begins n w.ask p) (sym name)
      ∙ sym (value_is place boot begins m.known p (name_of_last kept) w.ask waits.waits.asking h.well.views_are h.well.gone_are waits.waits.so waits.asked) ∙ sym by_name ∙ is in
      record { given = first_now (may_answer place boot begins (named kept.from (length q.before) (length w.before)) w.ask) p reply (by_sum value in_time) value }
    where
      gives : Past → Option Reply
      gives = may_answer place boot begins (named m.performing.kept.from (length q.before) (length q.waiting.before)) q.waiting.ask

      by_first : gives p ≡ Some reply → (o : Option (ℕ × Reply)) → first_given gives p ≡ o → ShowsAnswer q.waiting.ask o → ⊥
      by_first value None none shows = none_is_some (sym (none_now gives p none) ∙ value)
      by_first value (Some given) some shows = none_is_some (sym q.waiting.waits.not_answered ∙ shows.0)

      by_sum : gives p ≡ Some reply → InTime m.performing.kept.from (length q.before) (length q.waiting.before) q.waiting.ask → earlier gives p ≡ None
      by_sum value (inl shows) = absurd (by_first value (first_given gives p) refl shows)
      by_sum value (inr waits) = waits.nothing

  goes_by_reply : (d : Doing M) (reply : Reply) → IsSoundNow declared turn first lawful d.member → value_of_open d.member ≡ Some reply → GoesNow d.member
      → GoesNow (answered_by turn (now p) d reply).member
  goes_by_reply d reply sound is h =
      let m = d.member in
      let kept = m.performing.kept in
      let began = m.performing.began in
      let b = behaviour declared turn first m.performing.hosted in
      let law = lawful m.performing.hosted in
      let v = has_value b m reply sound is in
      let e : Doing M = record d { member = with_answered b law m (now p) reply } in
      let t = turned_by_reply b law m (now p) reply sound v in
      let q = one_is_performing b began kept sound.kept v.ask v.is_open in
      let w = q.waiting in
      let from = kept.from in
      let number = length q.before in
      let before : MemberRecord = record kept { runs = q.before } in
      let done = answered_ask (now p) reply.outcome reply.clock w.ask in
      let run = with_answer b law began kept q (now p) reply.outcome reply.clock in
      let on = turns b (state_after began q.before) (start_of q.run) in
      let gone = gone_on (now p) on most_turns run in
      let kept_is : answer_open_ask b.turn began (now p) reply.outcome reply.clock kept ≡ with_run before gone = answered_is b law began kept q (now p) reply.outcome reply.clock in
      let all : RunsSo place boot begins (declared hosted).procedures at_boot p from (q.before ++ q.run ∷ []) =
      subst (λ xs. RunsSo place boot begins (declared hosted).procedures at_boot p from xs) q.runs_are h.well.runs in
      let less = runs_less place boot begins (declared hosted).procedures at_boot p rises from q.before q.run all in
      let split = asks_less (InTime from number) q.run.entry w.before w.ask (subst (AsksSo (InTime from number) q.run.entry) w.asks_are less.1.answers) in
      let now_given = open_now_given m b q reply is h (split.1 w.waits.calls_left) in
      let shown : InTime from number (length w.before) done = inl (subst (ShowsAnswer done) (sym now_given.given) (refl, refl, refl)) in
      let so : RunNow from q.before number run =
      record { boots = less.1.boots; starts = less.1.starts; answers = asks_more (InTime from number) q.run.entry w.before done split.0 (λ _. shown) } in
      let asked : AsksSo AskedNow run.entry run.asks =
      asks_more AskedNow q.run.entry w.before done (λ n ask there left none. absurd (none_is_some (sym none ∙ (w.made.asks_so n ask there).1.reply_is)))
      (λ _ none. absurd (none_is_some (sym none))) in
      let g = gone_well b began before on run (subst (IsRecord b began) kept_is t.kept) w.not_ended so asked less.0 in
      let long : length (q.before ++ gone ∷ []) ≡ length q.before + 1 = length-append q.before (gone ∷ []) in
      let was : length kept.runs ≡ length q.before + 1 = ap length q.runs_are ∙ length-append q.before (q.run ∷ []) in
      let x = h.well in
      let few = x.few in
      let enough = x.enough in
      goes_after_turns declared turn first lawful place boot begins hosted at_boot p rises e t
      (subst (λ (k : MemberRecord). IfSome (open_ask k) (λ ask. ask.asked ≡ now p)) (sym kept_is) g.new)
      (subst (λ (k : MemberRecord). WellSoFar declared turn first lawful place boot begins hosted at_boot p m.place m.performing.hosted m.known.views m.known.down m.gathered k) (sym kept_is)
      (record {
        place_is = x.place_is;
        hosted_is = x.hosted_is;
        views_are = x.views_are;
        gone_are = x.gone_are;
        holds = x.holds;
        from_is = x.from_is;
        unreplied = λ i below. x.unreplied i (omega (arith, below, long, was));
        way = record { phase_is = x.way.phase_is; outside = x.way.outside; active = x.way.active; few = x.way.few };
        enough = omega (arith, enough, long, was);
        runs = g.runs;
        next = g.next;
        few = omega (arith, few, long, was);
        ended = g.ended;
      }))

  goes_answered : (d : Doing M) → IsSoundNow declared turn first lawful d.member → GoesNow d.member → GoesNow (answered_open turn (now p) d).member
  goes_answered d sound h = by_value (value_of_open d.member) refl
    where
      by_value : (o : Option Reply) → value_of_open d.member ≡ o → let e = option_map_or (answered_by turn (now p) d) o d in GoesNow e.member
      by_value None is = h
      by_value (Some reply) is = goes_by_reply d reply sound is h

  -- ---- a call starts

  -- the runs so far have ended
  free_now : (from : ℕ) (runs : List RunRecord) → ((run : RunRecord) → last_of runs ≡ Some run → ended_by run.ended p ≡ true) → (number : ℕ) → number ≡ length runs
      → is_free_for place boot begins (kept_of from runs) number p ≡ true
  free_now from runs ended zero is = refl
  free_now from runs ended (suc n) is =
      let last = within runs n (omega (arith, is)) in
      let there : last_of runs ≡ Some last.0 = ap (slice_get runs) (omega (arith, is)) ∙ last.1 in
      rw last.1 (ended last.0 there)

  -- the call of all that arrived is that of those that are held
  collated_is : (m : MemberState M) → IsSoundNow declared turn first lawful m → GoesNow m → open_ask m.performing.kept ≡ None
      → m.performing.kept.from + length m.performing.kept.runs ≤ last_count
      → call_to_start m.gathered m.known.views m.known.down m.place.calls m.performing.kept.count
      ≡ collated_call place boot begins (m.performing.kept.from + length m.performing.kept.runs) p
  collated_is m sound h none few =
      let kept = m.performing.kept in
      let b = behaviour declared turn first m.performing.hosted in
      let w = h.well in
      let idle = none_is_idle b m.performing.began kept sound.kept none in
      let index = kept.from + length kept.runs in
      let count : kept.count ≡ index = idle.count ∙ omega (arith, few) in
      let from = w.from_is in
      (λ j. call_to_start m.gathered m.known.views m.known.down (w.place_is j).calls (count j))
      ∙ call_is place boot begins m.gathered m.known.views m.known.down index p w.holds.left (sound.own ∙ ap (λ (x : Place). x.troupe) w.place_is) w.holds.least w.views_are w.gone_are
      (omega (arith, from)) (w.unreplied index (omega arith))

  -- the index that is performed next has room
  few_now : (m : MemberState M) (call : HeldCall) → IsSoundNow declared turn first lawful m → GoesNow m → next_start m ≡ Some call
      → m.performing.kept.from + length m.performing.kept.runs ≤ last_count
  few_now m call sound h next = by_test (nat_le (m.performing.kept.from + length m.performing.kept.runs) last_count) refl
    where
      b : Behaviour
      b = behaviour declared turn first m.performing.hosted

      full : last_count < m.performing.kept.from + length m.performing.kept.runs → ⊥
      full more =
          let ready = next_is_ready b m call sound next in
          let fresh = (may_start b m call ready).fresh in
          let idle = none_is_idle b m.performing.began m.performing.kept sound.kept ready.idle in
          let few = h.well.way.few in
          let last = within m.performing.kept.runs (length m.performing.kept.runs - 1) (omega (arith, few, more)) in
          let replied = h.replied ready.idle last.0 last.1 in
          let count : m.performing.kept.count ≡ last_count = idle.count ∙ omega (arith, more) in
          let same : index_of_last m.performing.kept ≡ m.performing.kept.count = omega (arith, few, more, count) in
          none_is_some (sym fresh ∙ ap (reply_of m.gathered) (sym same) ∙ replied.1)

      by_test : (t : Bool) → nat_le (m.performing.kept.from + length m.performing.kept.runs) last_count ≡ t → m.performing.kept.from + length m.performing.kept.runs ≤ last_count
      by_test true is = leb-true (m.performing.kept.from + length m.performing.kept.runs) last_count is
      by_test false is = absurd (full (leb-false (m.performing.kept.from + length m.performing.kept.runs) last_count is))

  -- so what may start by the past is what starts next
  may_now : (m : MemberState M) (call : HeldCall) → IsSoundNow declared turn first lawful m → GoesNow m → next_start m ≡ Some call
      → may m.performing.kept.from m.performing.kept.runs (length m.performing.kept.runs) p ≡ Some call
  may_now m call sound h next =
      let kept = m.performing.kept in
      let b = behaviour declared turn first m.performing.hosted in
      let ready = next_is_ready b m call sound next in
      let few = few_now m call sound h next in
      let index = kept.from + length kept.runs in
      let active : is_active (phase begins p) ≡ true = ap is_active (sym h.well.way.phase_is) ∙ ready.active in
      let free = free_now kept.from kept.runs (h.well.ended ready.idle) (length kept.runs) refl in
      let room : nat_le index last_count ≡ true = le-leb index last_count few in
      let start : call_to_start m.gathered m.known.views m.known.down m.place.calls kept.count ≡ Some call =
      ap (λ t. if t then call_to_start m.gathered m.known.views m.known.down m.place.calls kept.count else None) (sym (next_is_idle m call next)) ∙ next in
      (λ j. if active j && free j && room j then collated_call place boot begins index p else None)
      ∙ sym (collated_is m sound h ready.idle few) ∙ start

  goes_given : (d : Doing M) → GoesNow d.member → GoesNow (given_states d).member
  goes_given d h = by_test (is_idle d.member.performing.kept)
    where
      by_test : (t : Bool) → let e = if t then add_effects (record d { member = record d.member { requests = [] } }) (snapshots_owed d.member.performing.kept d.member.requests)
          else d in GoesNow e.member
      by_test true = h
      by_test false = h

  goes_started : (d : Doing M) (call : HeldCall) → IsSoundNow declared turn first lawful d.member → GoesNow d.member → next_start d.member ≡ Some call
      → GoesNow (enter_run_of turn (now p) d (start_by declared turn first lawful (now p) d.member call)).member
  goes_started d call sound h next =
      let m = d.member in
      let b = behaviour declared turn first m.performing.hosted in
      let start = start_by declared turn first lawful (now p) m call in
      let may_so = may_start b m call (next_is_ready b m call sound next) in
      let kept = m.performing.kept in
      let first_now_is = first_now (may kept.from kept.runs (length kept.runs)) p call h.well.next (may_now m call sound h next) in
      let same : start ≡ start_by_call place.troupe (declared hosted).procedures call = λ j. start_by_call (h.well.place_is j).troupe
      (declared (h.well.hosted_is j)).procedures call in
      let enough = h.well.enough in
      goes_entered d start at_boot sound may_so h h.well.runs (omega (arith, enough)) (λ below. absurd (omega (arith, enough, below)))
      (λ _. subst (λ o. IsSomeAnd o (λ given. (now p ≡ given.0) × (start ≡ start_by_call place.troupe (declared hosted).procedures given.1))) (sym first_now_is) (refl, same))
      (few_now m call sound h next)

  goes_starting : (left : ℕ) (d : Doing M) → IsSoundNow declared turn first lawful d.member → GoesNow d.member → GoesNow (start_runs declared turn (now p) left d).member
  unfolding start_runs
  goes_starting zero d sound h = goes_given d h
  goes_starting (suc left) d sound h = by_next (goes_starting left) (given_states d) (sound_given declared turn first lawful d sound) (goes_given d h)
    where
      by_call : ((f : Doing M) → IsSoundNow declared turn first lawful f.member → GoesNow f.member → GoesNow (start_runs declared turn (now p) left f).member) → (e : Doing M)
          → IsSoundNow declared turn first lawful e.member → GoesNow e.member → (o : Option HeldCall) → next_start e.member ≡ o
          → let f = option_map_or (λ call. start_runs declared turn (now p) left (enter_run_of turn (now p) e
          (start_by_call e.member.place.troupe (declared e.member.performing.hosted).procedures call))) o e in GoesNow f.member
      by_call rest e sound goes None next = goes
      by_call rest e sound goes (Some call) next =
          let b = behaviour declared turn first e.member.performing.hosted in
          let start = start_by declared turn first lawful (now p) e.member call in
          let f = enter_run_of turn (now p) e start in
          rest f (sound_entered declared turn first lawful (now p) e start sound (may_start b e.member call (next_is_ready b e.member call sound next)))
          (goes_started e call sound goes next)

      by_next : ((f : Doing M) → IsSoundNow declared turn first lawful f.member → GoesNow f.member → GoesNow (start_runs declared turn (now p) left f).member) → (e : Doing M)
          → IsSoundNow declared turn first lawful e.member → GoesNow e.member
          → let f = option_map_or (λ call. start_runs declared turn (now p) left (enter_run_of turn (now p) e
          (start_by_call e.member.place.troupe (declared e.member.performing.hosted).procedures call)))
          (next_start e.member) e in GoesNow f.member
      by_next rest e sound goes = by_call rest e sound goes (next_start e.member) refl

  pub goes_executed : (d : Doing M) → IsSoundNow declared turn first lawful d.member → GoesNow d.member → GoesNow (execute declared turn (now p) d).member
  goes_executed d sound h =
      let e = answered_open turn (now p) d in
      goes_starting (length e.member.gathered.held) e (sound_answered declared turn first lawful (now p) d sound) (goes_answered d sound h)

  -- ---- a member that has gone on

  -- nothing may start by the past where none starts next
  pub none_may : (m : MemberState M) → IsSoundNow declared turn first lawful m → GoesNow m → next_start m ≡ None
      → may m.performing.kept.from m.performing.kept.runs (length m.performing.kept.runs) p ≡ None
  none_may m sound h next = by_phase (is_active m.performing.kept.phase) refl
    where
      b : Behaviour
      b = behaviour declared turn first m.performing.hosted

      index : ℕ
      index = m.performing.kept.from + length m.performing.kept.runs

      by_room : is_active m.performing.kept.phase ≡ true → open_ask m.performing.kept ≡ None → (t : Bool) → nat_le index last_count ≡ t
          → (if t then collated_call place boot begins index p else None) ≡ None
      by_room active none false is = refl
      by_room active none true is =
          let idle : is_idle m.performing.kept ≡ true = rw (active, none) refl in
          sym (collated_is m sound h none (leb-true index last_count is))
          ∙ ap (λ t. if t then call_to_start m.gathered m.known.views m.known.down m.place.calls m.performing.kept.count else None) (sym idle) ∙ next

      by_ask : is_active m.performing.kept.phase ≡ true → (o : Option AskRecord) → open_ask m.performing.kept ≡ o
          → may m.performing.kept.from m.performing.kept.runs (length m.performing.kept.runs) p ≡ None
      by_ask active None none =
          let now_active : is_active (phase begins p) ≡ true = ap is_active (sym h.well.way.phase_is) ∙ active in
          let free = free_now m.performing.kept.from m.performing.kept.runs (h.well.ended none) (length m.performing.kept.runs) refl in
          (λ j. if now_active j && free j && nat_le index last_count then collated_call place boot begins index p else None) ∙ by_room active none (nat_le index last_count) refl
      by_ask active (Some ask) is =
          let q = one_is_performing b m.performing.began m.performing.kept sound.kept ask is in
          let kept = m.performing.kept in
          let long : length kept.runs ≡ suc (length q.before) = ap length q.runs_are ∙ omega (arith, length-append q.before (q.run ∷ [])) in
          let there : slice_get kept.runs (length q.before) ≡ Some q.run = ap (λ xs. slice_get xs (length q.before)) q.runs_are ∙ at_end q.before q.run in
          ap (λ n. may kept.from kept.runs n p) long ∙ not_free place boot begins kept.from kept.runs q.run (length q.before) p there (rw q.waiting.not_ended refl)

      by_phase : (t : Bool) → is_active m.performing.kept.phase ≡ t → may m.performing.kept.from m.performing.kept.runs (length m.performing.kept.runs) p ≡ None
      by_phase true active = by_ask active (open_ask m.performing.kept) refl
      by_phase false outside =
          let now_outside : is_active (phase begins p) ≡ false = ap is_active (sym h.well.way.phase_is) ∙ outside in
          rw now_outside refl
