-- A step ends with the asks closed that are settled, and with the views looked up: the member is at rest.
use Rattle.std.proofs.Common.{◌≡◌, true, filter, length, Some, refl, sym, subst}
use Rattle.std.specs.Prelude.{IfSome}
use Rattle.std.proofs.lemmas.List.Elements.{All-filter, filter_passes}
use Rattle.circus_model.specs.Behaviour.{Behaviour}
use Rattle.circus_record.specs.declared.record.AskRecord.{AskRecord}
use Rattle.circus_record.specs.declared.record.MemberRecord.{MemberRecord}
use Rattle.circus_fanout.specs.Knowing as knowing
use Rattle.circus_fanout.specs.Asking.{Asking}
use Rattle.circus_performing.specs.Performing.{open_ask}
use Rattle.circus_member_rules.specs.declared.occurrence.AskName.{AskName}
use Rattle.circus_member_rules.specs.OpenAsks.{is_name}
use Rattle.circus_member_rules.specs.MemberState.{Doing}
use Rattle.circus_member_rules.specs.Rules.{ringmaster, stays_open}
use Rattle.circus_member_rules.specs.Step.{name_of_last, waits, keep_ask_open, look_up}
use Rattle.circus_member_rules.specs.Seen.Sound.{IsOpenAsk, IsSameAsk, IsSound, IsRested}
use Rattle.circus_member_rules.proofs.Named.{lookup-kept, named-filtered}
use Rattle.circus_member_rules.proofs.Sound.{sound_same_views, sound_asks}

-- the ask that waits stays open
pub waiting_stays : (kept : MemberRecord) (ask : AskRecord) (name : AskName) → open_ask kept ≡ Some ask → is_name (name_of_last kept) name ≡ true → waits kept name ≡ true
waiting_stays kept ask name is here = rw is (rw here refl)

module _ {M : Type 0} (b : Behaviour) (d : Doing M) where
  pub sound_closed : IsSound b d.member → IsSound b (keep_ask_open d).member
  sound_closed h =
      let m = d.member in
      let stays = stays_open m.known (waits m.performing.kept) in
      sound_asks b m (filter stays m.asks)
      (All-filter stays (λ (e : AskName × Asking). IsOpenAsk b.declared m.place.troupe (length m.known.views) e.1) m.asks h.asks)
      (named-filtered stays m.asks h.names)
      (λ ask is same. subst (λ o. IfSome o (IsSameAsk ask)) (sym (lookup-kept (is_name (name_of_last m.performing.kept)) stays m.asks (λ e here. rw (waiting_stays m.performing.kept ask e.0 is here) refl))) same)
      h

  pub rested : IsSound b d.member → IsRested b (look_up (keep_ask_open d)).member
  rested h =
      let m = d.member in
      record {
        sound = sound_same_views b (keep_ask_open d).member (knowing.note_lookup m.known ringmaster) refl (sound_closed h);
        closed = filter_passes (stays_open m.known (waits m.performing.kept)) m.asks;
      }
