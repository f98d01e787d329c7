use Rattle.std.specs.Prelude.{codes}
use Rattle.std.proofs.Common.{◌≡◌, sym, ◌∙◌, nat_eq, length, false}
use Rattle.circus_idl.proofs.ShownSome.{reports_some, onward}
use Rattle.circus_idl.specs.Lexemes.{lexemes_behind_spaces}
use Rattle.circus_idl.specs.Shown.{names_lexemes}
use Rattle.circus_idl.proofs.writer.Writer.reports.Goals as goal

pub returns : goal.returns
returns c =
    let some : nat_eq (length c.args.numbers.now) 0 ≡ false = sym c.is_empty.ensures ∙ c.if-is_empty.false in
    rw (reports_some c.args.errors.now.errors.now c.args.numbers.now some)
    (onward c.names.result _ c.words.new.self c.args.self.now (codes " REPORTS") (lexemes_behind_spaces (names_lexemes c.args.errors.now.errors.now c.args.numbers.now)) c.in_ok-words.ensures c.names.ensures)
