use Rattle.circus_header.proofs.Answering.{answered_once}
use Rattle.circus_ring.specs.TableFields.{tables}
use Rattle.circus_ring.specs.Seen.TableLayout.{table_layout}
use Rattle.circus_ring.proofs.Tabling.{under_tables, whole, as_answer, whole_same, not_refused}
use Rattle.circus_ring.proofs.laws.one_table.Goals as goal

pub returns : goal.returns
returns c bytes a b first second made too =
    whole_same bytes a b
    (answered_once tables bytes table_layout (whole bytes a) (whole bytes b) under_tables (as_answer bytes a first) (as_answer bytes b second)
    (not_refused bytes a made) (not_refused bytes b too))
