use Rattle.circus_picture.proofs.HeadLemmas.{found_is, table_in_is}
use Rattle.circus_picture.proofs.label.table_in.Goals as goal

pub returns : goal.returns
returns c =
    found_is c.unless_refused.result c.read_table.result _ c.unless_refused.ensures.found c.unless_refused.ensures.made
    (table_in_is c.args.bytes.now c.read_table.result c.read_table.ensures)
