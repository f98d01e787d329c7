-- What an ask that is opened needs, and a run that has ended.
use Rattle.std.proofs.Common.{◌≡◌, ℕ, ◌≤◌, true, false, Bor, List, [], ◌++◌, length, Option, Some, None, refl, sym, subst, ap, ◌∙◌, arith}
use Rattle.std.specs.Prelude.{IfSome, slice_get, is_some, option_copied}
use Rattle.std.specs.Option.{option_map_or}
use Rattle.std.proofs.lemmas.Option.{same_Some}
use Rattle.circus_collate.specs.declared.view.View.{View}
use Rattle.circus_limits.specs.Limits.{most_asks}
use Rattle.circus_model.specs.Behaviour.{Behaviour, IsModule}
use Rattle.circus_record.specs.declared.record.AskRecord.{AskRecord}
use Rattle.circus_record.specs.declared.record.RunRecord.{RunRecord}
use Rattle.circus_header.specs.declared.answer.Reply.{Reply}
use Rattle.circus_value.specs.declared.caller.Caller.{Caller}
use Rattle.circus_gather.specs.Gathering.{Gathered, with_end, answered_by_end}
use Rattle.circus_fanout.specs.declared.send.Send.{Send}
use Rattle.circus_fanout.specs.Asking.{Asking, with_view, calls_for_a_view}
use Rattle.circus_performing.specs.Performing.{open_ask, last_of}
use Rattle.circus_performing.specs.Record.{IsRecord}
use Rattle.circus_performing.proofs.Records.{performing_has_one}
use Rattle.circus_member_rules.specs.declared.occurrence.AskName.{AskName}
use Rattle.circus_member_rules.specs.declared.occurrence.Effect.{Effect}
use Rattle.circus_member_rules.specs.OpenAsks.{with_ask}
use Rattle.circus_member_rules.specs.MemberState.{MemberState, Doing}
use Rattle.circus_member_rules.specs.Messages.{reply_message}
use Rattle.circus_member_rules.specs.Rules.{index_of_last, answers, answers_of_run, calls_of_ask}
use Rattle.circus_member_rules.specs.Step.{name_of_last, asking_begun, reply_of_run, opened_by_view, opened_ask, ended_run, after_turns}
use Rattle.circus_member.specs.Seen.Within.{opened_last, ended_last}
use Rattle.circus_member_rules.specs.Callable.{MayCall, IsReply}
use Rattle.circus_member_rules.specs.Seen.Sound.{IsRunOf, HasTurned}
use Rattle.circus_member_rules.proofs.Homes.{may_call}
use Rattle.circus_member_rules.proofs.Runs.{few_asks}
use Rattle.circus_member_rules.proofs.Writing.{CanWrite, writable_ask, one_is_performing, ask_is_lawful, last_has_ended, reply_is}
use Rattle.circus_member_rules.proofs.Turned.{IsAsking, asking_now}

module _ {M : Type 0} (b : Behaviour) (lawful : IsModule b) (m : MemberState M) (h : HasTurned b m) (r : IsRecord b m.performing.began m.performing.kept) where
  -- the last run
  pub turned_run : (run : RunRecord) → last_of m.performing.kept.runs ≡ Some run → IsRunOf m.place.troupe (length m.known.views) run
  turned_run run at = subst (λ o. IfSome o (IsRunOf m.place.troupe (length m.known.views))) at h.run

  pub turned_few : (run : RunRecord) → last_of m.performing.kept.runs ≡ Some run → length run.asks ≤ most_asks
  turned_few run at = subst (λ o. IfSome o (λ (x : RunRecord). length x.asks ≤ most_asks)) at (few_asks b lawful m.performing.began m.performing.kept r)

  -- ---- it asks

  pub turned_asks : (run : RunRecord) (ask : AskRecord) → last_of m.performing.kept.runs ≡ Some run → open_ask m.performing.kept ≡ Some ask → IsAsking b m run ask
  turned_asks run ask at is = asking_now b lawful m run ask at is h.home (turned_run run at) r

  pub written_ask : (ask : AskRecord) → open_ask m.performing.kept ≡ Some ask → CanWrite ask.arguments
  written_ask ask is =
      let p = one_is_performing b m.performing.began m.performing.kept r ask is in
      let same : p.waiting.ask ≡ ask = same_Some _ _ (sym (performing_has_one b m.performing.began m.performing.kept p) ∙ is) in
      let law = ask_is_lawful b m.performing.began m.performing.kept lawful p in
      subst (λ (a : AskRecord). CanWrite a.arguments) same (writable_ask b.declared.imports p.waiting.ask.callee p.waiting.ask.procedure p.waiting.ask.arguments law.fit)

  pub may_call_asked : (run : RunRecord) (ask : AskRecord) (view : View) → last_of m.performing.kept.runs ≡ Some run → open_ask m.performing.kept ≡ Some ask → MayCall m.known (with_view view m.known.down (asking_begun m.place m.performing.kept run ask))
  may_call_asked run ask view at is =
      let may = may_call b.declared m.place m.known (asking_begun m.place m.performing.kept run ask) h.home (turned_asks run ask at is).ready in
      record { asked = may.asked; client = may.client }

  -- ---- it has ended

  pub ended_reply : (run : RunRecord) → last_of m.performing.kept.runs ≡ Some run → open_ask m.performing.kept ≡ None → IsReply (reply_of_run run)
  ended_reply run at none =
      let own = h.home.own in
      let few = h.home.few in
      reply_is b m.performing.began m.performing.kept lawful m.place.troupe (length m.known.views) _ run (turned_run run at) (omega (arith, own)) few (last_has_ended b m.performing.began m.performing.kept r none run at)

-- ---- what it comes to

module _ {M : Type 0} (d : Doing M) where
  pub opened_is : (run : RunRecord) (ask : AskRecord) (view : View) → last_of d.member.performing.kept.runs ≡ Some run → open_ask d.member.performing.kept ≡ Some ask → slice_get d.member.known.views ask.callee ≡ Some view → opened_last d ≡ opened_by_view d (name_of_last d.member.performing.kept) (asking_begun d.member.place d.member.performing.kept run ask) view
  opened_is run ask view at is there =
      ap (λ o. option_map_or (λ (x : RunRecord). option_map_or (opened_ask d x) (open_ask d.member.performing.kept) d) o d) at
      ∙ ap (λ o. option_map_or (opened_ask d run) o d) is
      ∙ ap (λ o. option_map_or (opened_by_view d (name_of_last d.member.performing.kept) (asking_begun d.member.place d.member.performing.kept run ask)) o d) there

  -- where there is no run, no ask or no view, nothing is opened
  pub no_run : last_of d.member.performing.kept.runs ≡ None → d ≡ opened_last d
  no_run at = sym (ap (λ o. option_map_or (λ (x : RunRecord). option_map_or (opened_ask d x) (open_ask d.member.performing.kept) d) o d) at)

  pub no_ask : (run : RunRecord) → last_of d.member.performing.kept.runs ≡ Some run → open_ask d.member.performing.kept ≡ None → d ≡ opened_last d
  no_ask run at none =
      sym (ap (λ o. option_map_or (λ (x : RunRecord). option_map_or (opened_ask d x) (open_ask d.member.performing.kept) d) o d) at
      ∙ ap (λ o. option_map_or (opened_ask d run) o d) none)

  pub no_view : (run : RunRecord) (ask : AskRecord) → last_of d.member.performing.kept.runs ≡ Some run → open_ask d.member.performing.kept ≡ Some ask → slice_get d.member.known.views ask.callee ≡ None → d ≡ opened_last d
  no_view run ask at is none =
      sym (ap (λ o. option_map_or (λ (x : RunRecord). option_map_or (opened_ask d x) (open_ask d.member.performing.kept) d) o d) at
      ∙ ap (λ o. option_map_or (opened_ask d run) o d) is
      ∙ ap (λ o. option_map_or (opened_by_view d (name_of_last d.member.performing.kept) (asking_begun d.member.place d.member.performing.kept run ask)) o d) none)

  pub ended_is : (run : RunRecord) → last_of d.member.performing.kept.runs ≡ Some run → ended_last d ≡ ended_run d run
  ended_is run at = ap (λ o. option_map_or (ended_run d) o d) at

  pub none_ended : last_of d.member.performing.kept.runs ≡ None → ended_last d ≡ d
  none_ended at = ap (λ o. option_map_or (ended_run d) o d) at

  -- behind turns it is one of the two
  pub turns_ask : (ask : AskRecord) → open_ask d.member.performing.kept ≡ Some ask → opened_last d ≡ after_turns d
  turns_ask ask is = by_run (last_of d.member.performing.kept.runs)
    where
      by_run : (o : Option RunRecord) → option_map_or (λ (run : RunRecord). option_map_or (opened_ask d run) (open_ask d.member.performing.kept) d) o d ≡ option_map_or (λ (run : RunRecord). option_map_or (opened_ask d run) (open_ask d.member.performing.kept) (ended_run d run)) o d
      by_run None = refl
      by_run (Some run) = ap (λ o. option_map_or (opened_ask d run) o d) is ∙ sym (ap (λ o. option_map_or (opened_ask d run) o (ended_run d run)) is)

  pub turns_end : open_ask d.member.performing.kept ≡ None → ended_last d ≡ after_turns d
  turns_end none = by_run (last_of d.member.performing.kept.runs)
    where
      by_run : (o : Option RunRecord) → option_map_or (ended_run d) o d ≡ option_map_or (λ (run : RunRecord). option_map_or (opened_ask d run) (open_ask d.member.performing.kept) (ended_run d run)) o d
      by_run None = refl
      by_run (Some run) = sym (ap (λ o. option_map_or (opened_ask d run) o (ended_run d run)) none)

  -- the ask, as it is made in parts
  pub opened_so : (run : RunRecord) (ask : AskRecord) (view : View) (name : AskName) (fanout : Asking) (sends : List Send) (asks : List (AskName × Asking)) (effects : List Effect) → last_of d.member.performing.kept.runs ≡ Some run → open_ask d.member.performing.kept ≡ Some ask → slice_get d.member.known.views ask.callee ≡ Some view → name ≡ name_of_last d.member.performing.kept → fanout ≡ with_view view d.member.known.down (asking_begun d.member.place d.member.performing.kept run ask) → sends ≡ calls_for_a_view view d.member.known.down [] → asks ≡ with_ask d.member.asks name fanout → effects ≡ d.effects ++ calls_of_ask d.member.known name fanout sends → let e : Doing M = record { member = record d.member { asks = asks }; effects = effects } in e ≡ opened_last d
  opened_so run ask view name fanout sends asks effects at is there name_is fanout_is sends_are asks_are made =
      let k = d.member.known in
      let a = with_view view k.down (asking_begun d.member.place d.member.performing.kept run ask) in
      let n = name_of_last d.member.performing.kept in
      let kept : asks ≡ with_ask d.member.asks n a = asks_are ∙ ap (λ x. with_ask d.member.asks x fanout) name_is ∙ ap (with_ask d.member.asks n) fanout_is in
      let calls : effects ≡ d.effects ++ calls_of_ask k n a (calls_for_a_view view k.down []) =
      made ∙ ap (λ x. d.effects ++ calls_of_ask k x fanout sends) name_is ∙ ap (λ x. d.effects ++ calls_of_ask k n x sends) fanout_is ∙ ap (λ x. d.effects ++ calls_of_ask k n a x) sends_are in
      (λ j. record { member = record d.member { asks = kept j }; effects = calls j })
      ∙ sym (opened_is run ask view at is there)

  -- and the end
  pub ended_so : (run : RunRecord) (index : ℕ) (reply : Reply) (gathered : Gathered) (callers : List Caller) (effects : List Effect) → last_of d.member.performing.kept.runs ≡ Some run → index ≡ index_of_last d.member.performing.kept → reply ≡ reply_of_run run → gathered ≡ with_end d.member.gathered index reply → callers ≡ answered_by_end d.member.gathered index → effects ≡ d.effects ++ answers (reply_message reply) callers → let e : Doing M = record { member = record d.member { gathered = gathered }; effects = effects } in e ≡ ended_last d
  ended_so run index reply gathered callers effects at index_is reply_is kept called made =
      let g = d.member.gathered in
      let n = index_of_last d.member.performing.kept in
      let r = reply_of_run run in
      let ends : gathered ≡ with_end g n r = kept ∙ ap (λ x. with_end g x reply) index_is ∙ ap (with_end g n) reply_is in
      let all : effects ≡ d.effects ++ answers_of_run (answered_by_end g n) r =
      made ∙ ap (λ x. d.effects ++ answers (reply_message reply) x) called ∙ ap (λ x. d.effects ++ answers (reply_message reply) (answered_by_end g x)) index_is
      ∙ ap (λ x. d.effects ++ answers (reply_message x) (answered_by_end g n)) reply_is in
      (λ j. record { member = record d.member { gathered = ends j }; effects = all j })
      ∙ sym (ended_is run at)

-- whether an ask is open, by a test of what it is seen through
pub none_open : (seen : Option (Bor AskRecord)) (o : Option AskRecord) → option_copied seen ≡ o → is_some seen ≡ false → o ≡ None
none_open None o is test = sym is
none_open (Some x) o is test = cc

pub turns_some : {M : Type 0} (d : Doing M) (seen : Option (Bor AskRecord)) → option_copied seen ≡ open_ask d.member.performing.kept → is_some seen ≡ true → opened_last d ≡ after_turns d
turns_some d None is test = cc
turns_some d (Some x) is test = turns_ask d x.now (sym is)
