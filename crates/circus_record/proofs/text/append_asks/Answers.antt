use Rattle.std.proofs.Common.{refl, string_bytes}
use Rattle.circus_record.specs.MemberText.{ask_lines, asks_lines}
use Rattle.circus_record.proofs.LinesMore.{item_added_from_none}
use Rattle.circus_record.proofs.text.append_asks.Goals as goal

pub loop-number-preserved : goal.loop-number-preserved
loop-number-preserved g c =
    let names = g.N.Naming.names c.args.names.now in
    item_added_from_none (asks_lines names) (ask_lines names) (λ n. refl) (λ n x xs. refl) (string_bytes c.args.text.now) (string_bytes c.loop-number.text) (string_bytes c.append_ask.new.text)
    c.args.asks.now c.loop-number.number c.index-asks-number.result c.loop-number-test.true c.index-asks-number.is c.loop-number.invariant c.in_ok-append_ask.ensures
