use Rattle.std.proofs.Common.{[], refl, sym, arith}
use Rattle.std.proofs.lemmas.Option.{get_or_from_slice_get}
use Rattle.circus_record.specs.Naming.{names_of}
use Rattle.circus_record.proofs.LinesMore.{item_added_from_none}
use Rattle.circus_world.specs.Sent.{Sent}
use Rattle.circus_world.specs.Seen.Entries.{sent_as}
use Rattle.circus_report.specs.Report.{sent_line, sent_lines}
use Rattle.circus_report.proofs.text.append_all_sent.Goals as goal

pub loop-number-preserved : goal.loop-number-preserved
loop-number-preserved c =
    let names = names_of c.args.nodes.now [] in
    let all = c.args.all.now in
    let number = c.loop-number.number in
    let sent : Sent = sent_as c.at.result in
    item_added_from_none (sent_lines names) (sent_line names) (λ n. refl) (λ n x xs. refl) c.args.text.now.items c.loop-number.text.items c.append_sent.new.text.items
    all number sent (omega (arith, c.loop-number-test.true, c.len-number-end.ensures)) (sym (get_or_from_slice_get all number sent sent c.at.ensures))
    c.loop-number.invariant c.in_ok-append_sent.ensures
