-- A run is entered, or its open ask answered: what holds behind its turns.
use Rattle.std.proofs.Common.{◌≡◌, ℕ, ◌+◌, ◌-◌, true, [], ◌∷◌, ◌++◌, length, Option, Some, None, refl, sym, subst, ap, ◌∙◌, arith, length-append}
use Rattle.std.specs.Prelude.{slice_get, min, IfSome, option_and_then, option_map}
use Rattle.std.specs.Option.{option_map_or}
use Rattle.std.proofs.lemmas.List.Elements.{All-get_or}
use Rattle.std.proofs.lemmas.Option.{same_Some, slice_get_within, get_or_from_slice_get}
use Rattle.circus_header.specs.declared.answer.Reply.{Reply}
use Rattle.circus_collate.specs.declared.view.View.{View}
use Rattle.circus_collate.specs.declared.giving.Said.{Said}
use Rattle.circus_collate.specs.declared.collating.Collated.{Collated}
use Rattle.circus_collate.specs.declared.collating.Collated.TheVariants.{Waiting, Answer, Differ}
use Rattle.circus_model.specs.declared.signature.Signature.{Signature}
use Rattle.circus_model.specs.Lawful.{import_answers}
use Rattle.circus_model.specs.Behaviour.{Behaviour, IsModule}
use Rattle.circus_record.specs.declared.record.AskRecord.{AskRecord}
use Rattle.circus_record.specs.declared.record.RunRecord.{RunRecord}
use Rattle.circus_record.specs.declared.record.MemberRecord.{MemberRecord}
use Rattle.circus_fanout.specs.Knowing.{Knowing}
use Rattle.circus_gather.specs.Gathering.{reply_of, with_start}
use Rattle.circus_fanout.specs.Asking.{Asking, answer}
use Rattle.circus_performing.specs.declared.start.RunStart.{RunStart}
use Rattle.circus_performing.specs.Performing.{Performing, state_after, clock_after, open_ask, last_of, begin_run, answered_ask, gone_on, with_run, most_turns, last_count, enter_run, answer_open_ask}
use Rattle.circus_performing.specs.Record.{start_of, turns}
use Rattle.circus_performing.specs.Acts.{Enters, Answers, CanAnswer}
use Rattle.circus_performing.proofs.Ends.{last_more, latest_more}
use Rattle.circus_performing.proofs.Records.{with_answer, answered_is, act_keeps}
use Rattle.circus_member_rules.specs.OpenAsks.{asking_of}
use Rattle.circus_member_rules.specs.MemberState.{MemberState}
use Rattle.circus_member_rules.specs.Rules.{index_of_last, answer_in, value_of_ask}
use Rattle.circus_member_rules.specs.Step.{name_of_last, value_of_open}
use Rattle.circus_member_rules.specs.Happening.{IsReplyTo}
use Rattle.circus_member_rules.specs.Seen.Sound.{IsOpenAsk, IsRunOf, IsSameAsk, IsRunning, IsSound, MayStart}
use Rattle.circus_member_rules.proofs.Named.{found_holds}
use Rattle.circus_member_rules.proofs.Held.{held-with_start}
use Rattle.circus_member_rules.proofs.Writing.{one_is_performing, none_is_idle, last_is_performed}
use Rattle.circus_member_rules.proofs.Threads.{gone_thread, still_of}
use Rattle.circus_member_rules.proofs.Turned.{IsTurned}

-- the index of a run behind others
pub index_more : (kept : MemberRecord) (run : RunRecord) → index_of_last (with_run kept run) ≡ min (kept.from + length kept.runs) last_count
index_more kept run =
    let long : length (kept.runs ++ run ∷ []) ≡ length kept.runs + 1 = length-append kept.runs (run ∷ []) in
    let same : length (kept.runs ++ run ∷ []) - 1 ≡ length kept.runs = omega (arith, long) in
    ap (λ n. min (kept.from + n) last_count) same

-- the last run, behind others, has its ranges
last_of_thread : (troupe modules : ℕ) (kept : MemberRecord) (run : RunRecord) → IsRunOf troupe modules run → IfSome (last_of (with_run kept run).runs) (IsRunOf troupe modules)
last_of_thread troupe modules kept run of = subst (λ o. IfSome o (IsRunOf troupe modules)) (sym (last_more kept.runs run)) of

-- ---- an ask has a value

-- what a collator gives is a reply to the ask
given_is_said : (d : Signature) (troupe modules : ℕ) (a : Asking) (reply : Reply) → IsOpenAsk d troupe modules a → (c : Collated) → answer_in a c ≡ Some reply → IsReplyTo d modules reply a
given_is_said d troupe modules a reply ready Waiting is = cc
given_is_said d troupe modules a reply ready (Differ one other) is = cc
given_is_said d troupe modules a reply ready (Answer place) is = by_place (slice_get a.said place) refl is
  where
    by_place : (o : Option (Said Reply)) → slice_get a.said place ≡ o → option_map (λ (s : Said Reply). s.value) o ≡ Some reply → IsReplyTo d modules reply a
    by_place None at none = cc
    by_place (Some s) at some =
        let said = All-get_or (λ (t : Said Reply). IsReplyTo d modules t.value a) a.said place s (slice_get_within a.said place s at) ready.said in
        let here : IsReplyTo d modules s.value a = subst (λ (t : Said Reply). IsReplyTo d modules t.value a) (get_or_from_slice_get a.said place s s at) said in
        subst (λ r. IsReplyTo d modules r a) (same_Some s.value reply some) here

value_is_said : (d : Signature) (troupe modules : ℕ) (k : Knowing) (a : Asking) (reply : Reply) → IsOpenAsk d troupe modules a → value_of_ask k a ≡ Some reply → IsReplyTo d modules reply a
value_is_said d troupe modules k a reply ready is = by_known (slice_get k.views a.header.server) is
  where
    by_known : (o : Option View) → option_map_or (λ (view : View). answer_in a (answer view k.down a)) o None ≡ Some reply → IsReplyTo d modules reply a
    by_known None none = cc
    by_known (Some view) some = given_is_said d troupe modules a reply ready (answer view k.down a) some

module _ {M : Type 0} (b : Behaviour) (m : MemberState M) where
  -- the open ask and its value
  pub record HasValue (reply : Reply) : Type 0 where
    pub ask : AskRecord
    pub asked : Asking
    pub is_open : open_ask m.performing.kept ≡ Some ask
    pub there : asking_of m.asks (name_of_last m.performing.kept) ≡ Some asked
    pub is : IsReplyTo b.declared (length m.known.views) reply asked

  pub has_value : (reply : Reply) → IsSound b m → value_of_open m ≡ Some reply → HasValue reply
  has_value reply h is = by_ask (open_ask m.performing.kept) refl is
    where
      by_asked : (ask : AskRecord) → open_ask m.performing.kept ≡ Some ask → (o : Option Asking) → asking_of m.asks (name_of_last m.performing.kept) ≡ o → option_and_then (value_of_ask m.known) o ≡ Some reply → HasValue reply
      by_asked ask ready None there none = cc
      by_asked ask ready (Some a) there some =
          let holds = found_holds (IsOpenAsk b.declared m.place.troupe (length m.known.views)) m.asks (name_of_last m.performing.kept) a h.asks there in
          record { ask = ask; asked = a; is_open = ready; there = there; is = value_is_said b.declared m.place.troupe (length m.known.views) m.known a reply holds some }

      by_ask : (o : Option AskRecord) → open_ask m.performing.kept ≡ o → option_and_then (λ (ask : AskRecord). option_and_then (value_of_ask m.known) (asking_of m.asks (name_of_last m.performing.kept))) o ≡ Some reply → HasValue reply
      by_ask None ready none = cc
      by_ask (Some ask) ready some = by_asked ask ready (asking_of m.asks (name_of_last m.performing.kept)) refl some

  -- so the ask may be answered
  pub can_answer : (reply : Reply) → IsSound b m → HasValue reply → CanAnswer b.declared reply.outcome m.performing.kept
  can_answer reply h v =
      let running : IsRunning m.gathered m.asks m.performing.kept v.ask = subst (λ o. IfSome o (IsRunning m.gathered m.asks m.performing.kept)) v.is_open h.running in
      let same : IsSameAsk v.ask v.asked = subst (λ o. IfSome o (IsSameAsk v.ask)) v.there running.same in
      record {
        ask = v.ask;
        is_open = v.is_open;
        fits =
            subst (λ c. import_answers b.declared.imports c v.ask.procedure reply.outcome ≡ true) same.server
            (subst (λ q. import_answers b.declared.imports v.asked.header.server q reply.outcome ≡ true) same.procedure v.is.fits);
      }

-- ---- a run is entered

module _ {M : Type 0} (b : Behaviour) (lawful : IsModule b) (m : MemberState M) (step : ℕ) where
  abbrev pub with_entered : RunStart → MemberState M
  with_entered start =
      record m {
        gathered = with_start m.gathered m.performing.kept.count;
        performing = record m.performing { kept = enter_run b.turn step start m.performing.kept };
      }

  pub turned_by_start : (start : RunStart) → IsSound b m → MayStart b.declared m start → IsTurned b (with_entered start)
  turned_by_start start h may =
      let kept = m.performing.kept in
      let troupe = m.place.troupe in
      let modules = length m.known.views in
      let gone = gone_on step (b.turn kept.state start.procedure start.arguments) most_turns (begin_run step start) in
      let p : Performing Behaviour = record { hosted = b; began = m.performing.began; kept = kept } in
      let idle = none_is_idle b m.performing.began kept h.kept may.can.idle in
      let of : IsRunOf troupe modules (begin_run step start) = record { thread = may.thread; now = may.thread.counts } in
      let index : index_of_last (with_run kept gone) ≡ kept.count = index_more kept gone ∙ sym idle.count in
      record {
        home = h.home;
        own = h.own;
        held = held-with_start b.declared troupe modules m.gathered kept.count h.held;
        replies = h.replies;
        asks = h.asks;
        names = h.names;
        run = last_of_thread troupe modules kept gone (still_of troupe modules (begin_run step start) gone (gone_thread step (b.turn kept.state start.procedure start.arguments) most_turns (begin_run step start)) of);
        kept = act_keeps b lawful (Enters step start) p may.can h.kept;
        fresh = subst (λ i. reply_of m.gathered i ≡ None) (sym index) may.fresh;
      }

  -- ---- the open ask is answered

  abbrev pub with_answered : Reply → MemberState M
  with_answered reply = record m { performing = record m.performing { kept = answer_open_ask b.turn m.performing.began step reply.outcome reply.clock m.performing.kept } }

  pub turned_by_reply : (reply : Reply) → IsSound b m → HasValue b m reply → IsTurned b (with_answered reply)
  turned_by_reply reply h v =
      let kept = m.performing.kept in
      let began = m.performing.began in
      let troupe = m.place.troupe in
      let modules = length m.known.views in
      let clock = reply.clock in
      let q : Performing Behaviour = record { hosted = b; began = began; kept = kept } in
      let p = one_is_performing b began kept h.kept v.ask v.is_open in
      let made = with_answer b lawful began kept p step reply.outcome clock in
      let gone = gone_on step (turns b (state_after began p.before) (start_of p.run)) most_turns made in
      let before : MemberRecord = record kept { runs = p.before } in
      let is : answer_open_ask b.turn began step reply.outcome clock kept ≡ with_run before gone = answered_is b lawful began kept p step reply.outcome clock in
      let was : IsRunOf troupe modules p.run = subst (λ o. IfSome o (IsRunOf troupe modules)) (last_is_performed b began kept p) h.run in
      let now : clock_after made.entry made.asks ≡ clock = latest_more (λ (a : AskRecord). a.after) p.run.entry p.waiting.before (answered_ask step reply.outcome clock p.waiting.ask) in
      let of : IsRunOf troupe modules made = record { thread = was.thread; now = ap length now ∙ v.is.counts } in
      let running : IsRunning m.gathered m.asks kept v.ask = subst (λ o. IfSome o (IsRunning m.gathered m.asks kept)) v.is_open h.running in
      let long : length kept.runs ≡ length p.before + 1 = ap length p.runs_are ∙ length-append p.before (p.run ∷ []) in
      let less : length p.before ≡ length kept.runs - 1 = omega (arith, long) in
      let index : index_of_last (with_run before gone) ≡ index_of_last kept = index_more before gone ∙ ap (λ n. min (kept.from + n) last_count) less in
      record {
        home = h.home;
        own = h.own;
        held = h.held;
        replies = h.replies;
        asks = h.asks;
        names = h.names;
        run = subst (λ (x : MemberRecord). IfSome (last_of x.runs) (IsRunOf troupe modules)) (sym is)
            (last_of_thread troupe modules before gone (still_of troupe modules made gone (gone_thread step (turns b (state_after began p.before) (start_of p.run)) most_turns made) of));
        kept = act_keeps b lawful (Answers step reply.outcome clock) q (can_answer b m reply h v) h.kept;
        fresh = subst (λ (x : MemberRecord). reply_of m.gathered (index_of_last x) ≡ None) (sym is) (subst (λ i. reply_of m.gathered i ≡ None) (sym index) running.fresh);
      }
