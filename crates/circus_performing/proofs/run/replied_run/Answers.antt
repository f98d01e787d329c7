use Rattle.std.proofs.Common.{◌++◌, ap, sym, ◌∙◌}
use Rattle.std.specs.Prelude.{option_to_list}
use Rattle.circus_record.specs.declared.record.RunRecord.{RunRecord}
use Rattle.circus_performing.specs.Performing.{with_ask}
use Rattle.circus_performing.proofs.Ends.{replied_same}
use Rattle.circus_performing.proofs.Members.{answered_same}
use Rattle.circus_performing.proofs.run.replied_run.Goals as goal

pub returns : goal.returns
returns c =
    let rest : RunRecord = record c.args.run { asks = c.pop.new.self } in
    let asks_are = c.pop.ensures.taken ∙ ap (λ o. c.pop.new.self ++ option_to_list o) c.in-Some.is in
    answered_same c.with_ask.result _ _
    (ap (with_ask rest) c.answered_ask.ensures ∙ sym (replied_same c.args.run c.pop.new.self c.in-Some.ask c.args.step c.args.reply c.args.clock asks_are))
    c.with_ask.ensures
