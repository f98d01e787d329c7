use Rattle.std.proofs.Common.{◌≡◌, length, map, inr, sym, ◌∙◌, ap}
use Rattle.circus_syntax.specs.InterfaceTree.{interface_of}
use Rattle.circus_syntax.specs.Reader.{open_at}
use Rattle.circus_syntax.specs.Spelling.{most_levels}
use Rattle.circus_expression.specs.Standing.{show_as}
use Rattle.circus_file.specs.ProgramTree.{program_of, program_stands_for}
use Rattle.circus_file.specs.ProgramReading.{program}
use Rattle.circus_config.specs.Reading.{read_faults}
use Rattle.circus_config.specs.Program.{placed_tokens}
use Rattle.circus_config.specs.Seen.{fault_of}
use Rattle.circus_config.proofs.ReadIs.{IsClean, IsGood, clean_read, least_read, misread, answered, good, ok_program, err_program}
use Rattle.circus_config.proofs.read.read_tokens.Goals as goal

-- the reader has gone over the text, and no fault is kept
is_read : (c : goal.In-None) → show_as program_stands_for (program most_levels (open_at (placed_tokens c.args.bytes.now c.args.found.now) (length c.args.bytes.now))) ≡ (program_of c.in_ok-text.text, c.program.new.reader)
is_read c = ap (λ r. show_as program_stands_for (program most_levels r)) (sym c.new-reader.ensures) ∙ c.in_ok-text.ensures

is_clean : (c : goal.In-None) → IsClean c.program.new.reader.stop (program_of c.in_ok-text.text) c.in_ok-least.made
is_clean c =
    clean_read c.program.new.reader.stop c.stop.result (program_of c.in_ok-text.text) (map interface_of c.as_slice.result.now) c.in_ok-least.made c.in_ok-least.least
    c.stop.ensures (ap (map interface_of) c.as_slice.ensures) c.in-None.is c.in_ok-least.ensures.found c.in_ok-least.ensures.means

is_good : (c : goal.In-None) → IsGood c.args.bytes.now (program_of c.in_ok-text.text) c.in_ok-least.made
is_good c = good c.args.bytes.now c.args.found.now (program_of c.in_ok-text.text) c.program.new.reader c.requires.each (is_read c) c.in_ok-least.made (is_clean c) c.requires.short c.requires.tokens

pub plan-requires-clause-obey : goal.plan-requires-clause-obey
plan-requires-clause-obey c = (is_good c).obey

pub plan-requires-clause-few : goal.plan-requires-clause-few
plan-requires-clause-few c = (is_good c).few

pub plan-requires-clause-read : goal.plan-requires-clause-read
plan-requires-clause-read c = (is_good c).read

pub returns-in-Some-clause-err : goal.returns-in-Some-clause-err
returns-in-Some-clause-err c =
    let tree = program_of c.in_ok-text.text in
    let s = c.program.new.reader in
    let is = ap (λ r. show_as program_stands_for (program most_levels r)) (sym c.new-reader.ensures) ∙ c.in_ok-text.ensures in
    let least = least_read s.stop c.stop.result tree (map interface_of c.as_slice.result.now) c.in_ok-least.least c.in-Some.fault c.stop.ensures (ap (map interface_of) c.as_slice.ensures) c.in-Some.is c.in_ok-least.ensures.found in
    inr (misread c.args.bytes.now c.args.found.now tree s c.requires.each is c.refusal_of.result c.requires.short c.requires.tokens
    (answered c.args.bytes.now (read_faults s.stop tree.interfaces) (fault_of c.in-Some.fault) c.refusal_of.result least c.refusal_of.ensures))

pub returns-in-None-clause-ok : goal.returns-in-None-clause-ok
returns-in-None-clause-ok c =
    let is = ap (λ r. show_as program_stands_for (program most_levels r)) (sym c.new-reader.ensures) ∙ c.in_ok-text.ensures in
    let clean =
    clean_read c.program.new.reader.stop c.stop.result (program_of c.in_ok-text.text) (map interface_of c.as_slice.result.now) c.in_ok-least.made c.in_ok-least.least
    c.stop.ensures (ap (map interface_of) c.as_slice.ensures) c.in-None.is c.in_ok-least.ensures.found c.in_ok-least.ensures.means in
    ok_program c.args.bytes.now c.args.found.now (program_of c.in_ok-text.text) c.program.new.reader c.requires.each is c.in_ok-least.made clean
    c.plan.result c.requires.short c.requires.tokens c.plan.ensures.faultless c.plan.ensures.same c.plan.ensures.modules c.plan.ensures.names c.plan.ensures.deployment

pub returns-in-None-clause-err : goal.returns-in-None-clause-err
returns-in-None-clause-err c =
    let is = ap (λ r. show_as program_stands_for (program most_levels r)) (sym c.new-reader.ensures) ∙ c.in_ok-text.ensures in
    let clean =
    clean_read c.program.new.reader.stop c.stop.result (program_of c.in_ok-text.text) (map interface_of c.as_slice.result.now) c.in_ok-least.made c.in_ok-least.least
    c.stop.ensures (ap (map interface_of) c.as_slice.ensures) c.in-None.is c.in_ok-least.ensures.found c.in_ok-least.ensures.means in
    err_program c.args.bytes.now c.args.found.now (program_of c.in_ok-text.text) c.program.new.reader c.requires.each is c.in_ok-least.made clean
    c.plan.result c.requires.short c.requires.tokens c.plan.ensures.err
