-- Behind turns of a member's last run its ask is opened, or its callers are answered: the member is sound again.
use Rattle.std.proofs.Common.{◌≡◌, ◌<◌, ◌≤◌, [], length, All, Option, Some, None, refl, sym, subst, ap, ◌∙◌, arith}
use Rattle.std.specs.Prelude.{slice_get, IfSome, option_and_then}
use Rattle.std.specs.Option.{option_map_or}
use Rattle.std.proofs.lemmas.List.Elements.{All-nil}
use Rattle.circus_header.specs.declared.answer.Reply.{Reply}
use Rattle.circus_collate.specs.declared.view.View.{View}
use Rattle.circus_collate.specs.declared.giving.Said.{Said}
use Rattle.circus_limits.specs.Limits.{most_asks}
use Rattle.circus_model.specs.Behaviour.{Behaviour, IsModule}
use Rattle.circus_record.specs.declared.record.AskRecord.{AskRecord}
use Rattle.circus_record.specs.declared.record.RunRecord.{RunRecord}
use Rattle.circus_gather.specs.Gathering.{reply_of, with_end}
use Rattle.circus_fanout.specs.Asking.{Asking, with_view}
use Rattle.circus_performing.specs.Performing.{open_ask, last_of, unless_replied}
use Rattle.circus_performing.specs.Record.{IsRecord}
use Rattle.circus_performing.proofs.Records.{performing_has_one}
use Rattle.std.proofs.lemmas.Option.{same_Some}
use Rattle.circus_member_rules.specs.declared.occurrence.AskName.{AskName}
use Rattle.circus_member_rules.specs.OpenAsks.{asking_of, with_ask}
use Rattle.circus_member_rules.specs.MemberState.{MemberState, Doing}
use Rattle.circus_member_rules.specs.Rules.{index_of_last}
use Rattle.circus_member_rules.specs.Step.{name_of_last, asking_begun, reply_of_run, opened_by_view, opened_ask, ended_run, after_turns}
use Rattle.circus_member_rules.specs.Callable.{AreReplies}
use Rattle.circus_member_rules.specs.Happening.{IsHome, IsReplyTo}
use Rattle.circus_member_rules.specs.Seen.Sound.{AreHeld, IsOpenAsk, AreOpen, AreNamed, IsRunOf, IsSameAsk, IsRunning, IsSound, HasTurned}
use Rattle.circus_member_rules.proofs.Named.{All-opened, named-opened, opened_there}
use Rattle.circus_member_rules.proofs.Homes.{slice_get_none}
use Rattle.circus_member_rules.proofs.Held.{held-with_end, replies-with_end}
use Rattle.circus_member_rules.proofs.Runs.{few_asks}
use Rattle.circus_member_rules.proofs.Writing.{callee_below, asked_is, last_has_ended, one_is_performing, ask_is_lawful, reply_is}

-- what holds then
pub record IsTurned {M : Type 0} (b : Behaviour) (m : MemberState M) : Type 0 where
  pub home : IsHome b.declared m.place m.known.views
  pub own : m.gathered.module ≡ m.place.troupe
  pub held : AreHeld b.declared m.place.troupe (length m.known.views) m.gathered
  pub replies : AreReplies m.gathered.replies
  pub asks : AreOpen b.declared m.place.troupe (length m.known.views) m.asks
  pub names : AreNamed m.asks
  pub run : IfSome (last_of m.performing.kept.runs) (IsRunOf m.place.troupe (length m.known.views))
  pub kept : IsRecord b m.performing.began m.performing.kept
  pub fresh : reply_of m.gathered (index_of_last m.performing.kept) ≡ None

module _ {M : Type 0} (b : Behaviour) where
  pub has_turned : (m : MemberState M) → IsTurned b m → HasTurned b m
  has_turned m h = record { home = h.home; run = h.run; fresh = h.fresh }

  -- a member that waits for nothing is sound
  pub sound_idle : (m : MemberState M) → open_ask m.performing.kept ≡ None → IsTurned b m → IsSound b m
  sound_idle m none h =
      record {
        home = h.home;
        own = h.own;
        held = h.held;
        replies = h.replies;
        asks = h.asks;
        names = h.names;
        run = h.run;
        running = subst (λ o. IfSome o (IsRunning m.gathered m.asks m.performing.kept)) (sym none) tt;
        kept = h.kept;
      }

  -- ---- the run has ended

  pub sound_ended : IsModule b → (d : Doing M) (run : RunRecord) → last_of d.member.performing.kept.runs ≡ Some run → open_ask d.member.performing.kept ≡ None → IsTurned b d.member → IsSound b (ended_run d run).member
  sound_ended lawful d run at none h =
      let m = d.member in
      let kept = m.performing.kept in
      let index = index_of_last kept in
      let reply = reply_of_run run in
      let of : IsRunOf m.place.troupe (length m.known.views) run = subst (λ o. IfSome o (IsRunOf m.place.troupe (length m.known.views))) at h.run in
      let own = h.home.own in
      let few = h.home.few in
      let ended = last_has_ended b m.performing.began kept h.kept none run at in
      let is = reply_is b m.performing.began kept lawful m.place.troupe (length m.known.views) _ run of (omega (arith, own)) few ended in
      record {
        home = h.home;
        own = h.own;
        held = held-with_end b.declared m.place.troupe (length m.known.views) m.gathered index reply h.held;
        replies = replies-with_end m.gathered index reply is h.replies;
        asks = h.asks;
        names = h.names;
        run = h.run;
        running = subst (λ o. IfSome o (IsRunning (with_end m.gathered index reply) m.asks kept)) (sym none) tt;
        kept = h.kept;
      }

  -- ---- it asks

  pub sound_by_view : (d : Doing M) (ask : AskRecord) (name : AskName) (a : Asking) (view : View) → IsOpenAsk b.declared d.member.place.troupe (length d.member.known.views) a → IsSameAsk ask a → a.said ≡ [] → name ≡ name_of_last d.member.performing.kept → open_ask d.member.performing.kept ≡ Some ask → IsTurned b d.member → IsSound b (opened_by_view d name a view).member
  sound_by_view d ask name a view ready same none name_is is h =
      let m = d.member in
      let kept = m.performing.kept in
      let sent = with_view view m.known.down a in
      let asks = with_ask m.asks name sent in
      let opened : IsOpenAsk b.declared m.place.troupe (length m.known.views) sent =
      record { asked = ready.asked; client = ready.client; said = subst (All (λ (s : Said Reply). IsReplyTo b.declared (length m.known.views) s.value sent)) (sym none) (All-nil (λ (s : Said Reply). IsReplyTo b.declared (length m.known.views) s.value sent)) } in
      let there : asking_of asks (name_of_last kept) ≡ Some sent = subst (λ n. asking_of asks n ≡ Some sent) name_is (opened_there m.asks name sent) in
      let running : IsRunning m.gathered asks kept ask =
      record { fresh = h.fresh; same = subst (λ o. IfSome o (IsSameAsk ask)) (sym there) (record { server = same.server; procedure = same.procedure }) } in
      record {
        home = h.home;
        own = h.own;
        held = h.held;
        replies = h.replies;
        asks = All-opened (IsOpenAsk b.declared m.place.troupe (length m.known.views)) m.asks name sent opened h.asks;
        names = named-opened m.asks name sent h.names;
        run = h.run;
        running = subst (λ o. IfSome o (IsRunning m.gathered asks kept)) (sym is) running;
        kept = h.kept;
      }

  -- the ask goes to an earlier troupe, in a header that may be sent
  pub record IsAsking (m : MemberState M) (run : RunRecord) (ask : AskRecord) : Type 0 where
    pub below : ask.callee < m.place.troupe
    pub ready : IsOpenAsk b.declared m.place.troupe (length m.known.views) (asking_begun m.place m.performing.kept run ask)

  pub asking_now : IsModule b → (m : MemberState M) (run : RunRecord) (ask : AskRecord) → last_of m.performing.kept.runs ≡ Some run → open_ask m.performing.kept ≡ Some ask → IsHome b.declared m.place m.known.views → IsRunOf m.place.troupe (length m.known.views) run → IsRecord b m.performing.began m.performing.kept → IsAsking m run ask
  asking_now lawful m run ask at is home of r =
      let kept = m.performing.kept in
      let p = one_is_performing b m.performing.began kept r ask is in
      let same : p.waiting.ask ≡ ask = same_Some _ _ (sym (performing_has_one b m.performing.began kept p) ∙ is) in
      let law = ask_is_lawful b m.performing.began kept lawful p in
      let below : ask.callee < m.place.troupe = subst (λ (a : AskRecord). a.callee < m.place.troupe) same (callee_below b.declared m.place m.known.views p.waiting.ask.callee p.waiting.ask.procedure p.waiting.ask.arguments home law.fit) in
      let few : length run.asks ≤ most_asks = subst (λ o. IfSome o (λ (r : RunRecord). length r.asks ≤ most_asks)) at (few_asks b lawful m.performing.began kept r) in
      record {
        below = below;
        ready = record {
          asked = asked_is b.declared m.place m.known.views kept run ask home of few below;
          client = refl;
          said = All-nil (λ (s : Said Reply). IsReplyTo b.declared (length m.known.views) s.value (asking_begun m.place kept run ask));
        };
      }

  pub sound_opened : IsModule b → (d : Doing M) (run : RunRecord) (ask : AskRecord) → last_of d.member.performing.kept.runs ≡ Some run → open_ask d.member.performing.kept ≡ Some ask → IsTurned b d.member → IsSound b (opened_ask d run ask).member
  sound_opened lawful d run ask at is h =
      let m = d.member in
      let of : IsRunOf m.place.troupe (length m.known.views) run = subst (λ x. IfSome x (IsRunOf m.place.troupe (length m.known.views))) at h.run in
      by_view (asking_now lawful m run ask at is h.home of h.kept) (slice_get m.known.views ask.callee) refl
    where
      by_view : IsAsking d.member run ask → (o : Option View) → slice_get d.member.known.views ask.callee ≡ o → let e = option_map_or (opened_by_view d (name_of_last d.member.performing.kept) (asking_begun d.member.place d.member.performing.kept run ask)) o d in IsSound b e.member
      by_view now None none =
          let past = slice_get_none d.member.known.views ask.callee none in
          let below = now.below in
          let own = h.home.own in
          absurd (omega (arith, past, below, own))
      by_view now (Some view) some =
          sound_by_view d ask (name_of_last d.member.performing.kept) (asking_begun d.member.place d.member.performing.kept run ask) view now.ready (record { server = refl; procedure = refl }) refl refl is h

  -- ---- either

  pub sound_after_turns : IsModule b → (d : Doing M) → IsTurned b d.member → IsSound b (after_turns d).member
  sound_after_turns lawful d h = by_run (last_of d.member.performing.kept.runs) refl
    where
      by_ask : (run : RunRecord) → last_of d.member.performing.kept.runs ≡ Some run → (o : Option AskRecord) → open_ask d.member.performing.kept ≡ o → let e = option_map_or (opened_ask d run) o (ended_run d run) in IsSound b e.member
      by_ask run at None none = sound_ended lawful d run at none h
      by_ask run at (Some ask) is = sound_opened lawful d run ask at is h

      by_run : (o : Option RunRecord) → last_of d.member.performing.kept.runs ≡ o → let e = option_map_or (λ (run : RunRecord). option_map_or (opened_ask d run) (open_ask d.member.performing.kept) (ended_run d run)) o d in IsSound b e.member
      by_run None at = sound_idle d.member (ap (λ o. option_and_then (λ (r : RunRecord). option_and_then unless_replied (last_of r.asks)) o) at) h
      by_run (Some run) at = by_ask run at (open_ask d.member.performing.kept) refl

-- its module stays
pub same_hosted : {M : Type 0} (d : Doing M) → (after_turns d).member.performing.hosted ≡ d.member.performing.hosted
same_hosted {M} d = by_run (last_of d.member.performing.kept.runs)
  where
    by_view : (run : RunRecord) (ask : AskRecord) (o : Option View) → let e : Doing M = option_map_or (opened_by_view d (name_of_last d.member.performing.kept) (asking_begun d.member.place d.member.performing.kept run ask)) o d in e.member.performing.hosted ≡ d.member.performing.hosted
    by_view run ask None = refl
    by_view run ask (Some view) = refl

    by_ask : (run : RunRecord) (o : Option AskRecord) → let e : Doing M = option_map_or (opened_ask d run) o (ended_run d run) in e.member.performing.hosted ≡ d.member.performing.hosted
    by_ask run None = refl
    by_ask run (Some ask) = by_view run ask (slice_get d.member.known.views ask.callee)

    by_run : (o : Option RunRecord) → let e : Doing M = option_map_or (λ (run : RunRecord). option_map_or (opened_ask d run) (open_ask d.member.performing.kept) (ended_run d run)) o d in e.member.performing.hosted ≡ d.member.performing.hosted
    by_run None = refl
    by_run (Some run) = by_ask run (open_ask d.member.performing.kept)
