use Rattle.std.proofs.Common.{◌≡◌, ℕ, false, Option, Some, None, refl, sym}
use Rattle.std.specs.Prelude.{slice_get, IfSome}
use Rattle.circus_model.specs.Execution.{is_spent}
use Rattle.circus_record.specs.declared.record.AskRecord.{AskRecord}
use Rattle.circus_record.specs.declared.record.RunRecord.{RunRecord}
use Rattle.circus_dues.specs.Seen.Owing.{MayBeSent, MayPerform}
use Rattle.circus_dues.specs.Seen.Steps.{clock_at}
use Rattle.circus_dues.proofs.Steps.{next_of_is_left}
use Rattle.circus_dues.proofs.owing.Owing.pass.Goals as goal

may_ask : (troupe : ℕ) (run : RunRecord) (number : ℕ) → MayPerform troupe run → is_spent (clock_at run number) ≡ false
    → (o : Option AskRecord) → slice_get run.asks number ≡ o → IfSome o (MayBeSent troupe run number)
may_ask troupe run number may left None is = tt
may_ask troupe run number may left (Some ask) is = may.asks number ask is left

pub ask-requires-clause-ask : goal.ask-requires-clause-ask
ask-requires-clause-ask c =
    let run = c.args.run.now in
    let number = c.in-Some.number in
    may_ask c.args.of.now.place.now.troupe run number c.requires.run
    (next_of_is_left run c.args.from number c.requires.from (sym c.in-Some.ensures))
    (slice_get run.asks number) refl
