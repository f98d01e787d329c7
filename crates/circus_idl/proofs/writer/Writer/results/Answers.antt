use Rattle.std.specs.Prelude.{codes}
use Rattle.circus_idl.proofs.ShownSome.{results_some, onward}
use Rattle.circus_idl.specs.Lexemes.{lexemes_behind_spaces}
use Rattle.circus_idl.specs.Shown.{fields_lexemes}
use Rattle.circus_idl.proofs.writer.Writer.results.Goals as goal

pub returns : goal.returns
returns c =
    rw (results_some c.args.fields.now (λ none. let t = c.if-is_empty.ensures.1 none in cc))
    (onward c.fields.result _ c.words.new.self c.args.self.now (codes " RETURNS") (lexemes_behind_spaces (fields_lexemes c.args.fields.now)) c.in_ok-words.ensures c.fields.ensures)
