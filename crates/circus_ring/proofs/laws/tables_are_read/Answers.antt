use Rattle.std.proofs.Common.{refl, Ok}
use Rattle.circus_header.specs.Field.{bytes_of}
use Rattle.circus_header.proofs.Answering.{answered_once}
use Rattle.circus_ring.specs.TableFields.{tables, table_fields}
use Rattle.circus_ring.specs.Seen.TableLayout.{table_layout}
use Rattle.circus_ring.proofs.Tabling.{under_tables, whole, as_answer, whole_same, not_refused}
use Rattle.circus_ring.proofs.laws.tables_are_read.Goals as goal

pub returns : goal.returns
returns c table a one read made =
    let bytes = bytes_of (table_fields table) in
    whole_same bytes a (Ok table)
    (answered_once tables bytes table_layout (whole bytes a) (whole bytes (Ok table)) under_tables (as_answer bytes a read) (as_answer bytes (Ok table) (one, refl))
    (not_refused bytes a made) (not_refused bytes (Ok table) (λ e. cc)))
