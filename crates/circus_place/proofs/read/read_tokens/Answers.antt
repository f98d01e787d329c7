use Rattle.std.proofs.Common.{◌≡◌, sym, ◌∙◌, ap, length}
use Rattle.circus_syntax.specs.Reader.{open_at}
use Rattle.circus_place.specs.Written.{placing_of}
use Rattle.circus_place.specs.Grammar.{most_levels}
use Rattle.circus_place.specs.Seen.Reading.{placing}
use Rattle.circus_place.specs.ReadAs.{placed_tokens}
use Rattle.circus_place.proofs.ReadIs.{ok_read, ok_obeys, err_read}
use Rattle.circus_place.proofs.read.read_tokens.Goals as goal

pub returns-clause-ok : goal.returns-clause-ok
returns-clause-ok c =
    let is : placing most_levels (open_at (placed_tokens c.args.text.now c.args.found.now) (length c.args.text.now)) ≡ (placing_of c.in_ok-written.written, c.placing.new.reader) =
    ap (placing most_levels) (sym c.new-reader.ensures) ∙ c.in_ok-written.ensures in
    ok_read c.args.text.now c.args.found.now (placing_of c.in_ok-written.written) c.placing.new.reader c.stop.result c.stop.ensures c.check_placing.result
    c.requires.short c.requires.tokens c.requires.each is c.check_placing.ensures.clean c.check_placing.ensures.means

pub returns-clause-obeys : goal.returns-clause-obeys
returns-clause-obeys c =
    ok_obeys c.args.text.now c.args.found.now (placing_of c.in_ok-written.written) c.placing.new.reader c.stop.result c.stop.ensures c.check_placing.result c.check_placing.ensures.clean c.check_placing.ensures.means

pub returns-clause-err : goal.returns-clause-err
returns-clause-err c =
    let is : placing most_levels (open_at (placed_tokens c.args.text.now c.args.found.now) (length c.args.text.now)) ≡ (placing_of c.in_ok-written.written, c.placing.new.reader) =
    ap (placing most_levels) (sym c.new-reader.ensures) ∙ c.in_ok-written.ensures in
    err_read c.args.text.now c.args.found.now (placing_of c.in_ok-written.written) c.placing.new.reader c.stop.result c.stop.ensures c.check_placing.result c.requires.each is c.check_placing.ensures.err
