-- A member that may go on with what is kept may make the calls that it owes, and a run that its record may say may be performed.
use Rattle.std.specs.Prelude.{slice_get, IfSome}
use Rattle.std.proofs.Common.{◌≡◌, ℕ, List, length, Option, None, Some, refl, arith}
use Rattle.circus_collate.specs.declared.view.View.{View}
use Rattle.circus_model.specs.declared.signature.Signature.{Signature}
use Rattle.circus_record.specs.declared.record.AskRecord.{AskRecord}
use Rattle.circus_record.specs.declared.record.RunRecord.{RunRecord}
use Rattle.circus_member_rules.specs.declared.place.Place.{Place}
use Rattle.circus_member_rules.specs.Step.{reply_of_run}
use Rattle.circus_member_rules.specs.Callable.{IsReply}
use Rattle.circus_member_rules.specs.Happening.{IsHome, IsThread}
use Rattle.circus_dues.specs.declared.owing.Owing.{Owing}
use Rattle.circus_dues.specs.Seen.Owing.{MayOwe, MayBeSent, MayPerform}
use Rattle.circus_dues.specs.Seen.Sound.{IsSayableRun, MayGoOn}
use Rattle.circus_dues.proofs.SoundRecord.{can_ask, end_is_reply}

pub may_owe : (declared : Signature) (place : Place) (modules : ℕ) (d : Owing) → MayGoOn declared place modules d.out d.calls → MayOwe place d
may_owe declared place modules d h = record { may = h.out; replies = h.replies }

-- a run of a thread that has come to this module
module _ (declared : Signature) (place : Place) (views : List View) (home : IsHome declared place views) (run : RunRecord)
    (thread : IsThread (length views) run.root run.path run.entry place.troupe) (is : IsSayableRun declared (length views) run) where
  pub may_be_sent : (number : ℕ) (ask : AskRecord) → slice_get run.asks number ≡ Some ask → MayBeSent place.troupe run number ask
  may_be_sent number ask at =
      let can = can_ask declared (length views) place views refl home run thread is number ask at in
      record { asked = can.asked; body = can.arguments }

  may_end : (ended : Option ℕ) → run.ended ≡ ended → IfSome ended (λ step. IsReply (reply_of_run run))
  may_end None none = tt
  may_end (Some step) ends =
      let own = home.own in
      end_is_reply declared (length views) run step (omega (arith, own)) home.few is ends

  pub may_perform : MayPerform place.troupe run
  may_perform = record { few = is.few; asks = λ number ask at left. may_be_sent number ask at; reply = may_end run.ended refl }
