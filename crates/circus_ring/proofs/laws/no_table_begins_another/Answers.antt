use Rattle.circus_header.proofs.Answering.{no_other}
use Rattle.circus_ring.specs.TableFields.{tables}
use Rattle.circus_ring.specs.Seen.TableLayout.{table_layout}
use Rattle.circus_ring.proofs.Tabling.{under_tables}
use Rattle.circus_ring.proofs.laws.no_table_begins_another.Goals as goal

pub returns : goal.returns
returns c a b rest first second e = no_other tables table_layout a b rest under_tables first second e
