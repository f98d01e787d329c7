use Rattle.std.specs.Char.{is_ascii_alphanumeric}
use Rattle.circus_value_text.proofs.PieceLemmas.{first_other, no_other}
use Rattle.circus_audit.proofs.words.name_length.Goals as goal

pub returns-in-Some-clause-value : goal.returns-in-Some-clause-value
returns-in-Some-clause-value c = first_other is_ascii_alphanumeric c.args.text.now c.first_other.result c.first_other.ensures c.in-Some.len c.in-Some.is

pub returns-in-None-clause-value : goal.returns-in-None-clause-value
returns-in-None-clause-value c = no_other is_ascii_alphanumeric c.args.text.now c.first_other.result c.first_other.ensures c.in-None.is
