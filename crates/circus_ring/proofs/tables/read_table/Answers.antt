use Rattle.std.proofs.Common.{Err, refl, sym, subst, inr}
use Rattle.circus_header.proofs.Steps.{passed}
use Rattle.circus_header.proofs.Answering.{answer_failed, answer_whole, answer_excess}
use Rattle.circus_ring.specs.TableFields.{tables, IsTableRead}
use Rattle.circus_ring.specs.Seen.TableLayout.{table_layout}
use Rattle.circus_ring.proofs.Tabling.{under_tables, from_fault, from_table}
use Rattle.circus_ring.proofs.tables.read_table.Goals as goal

pub returns-in_err-table : goal.returns-in_err-table
returns-in_err-table c =
    let bytes = c.args.bytes.now in
    let fault = c.in_err-table.field-0.0 in
    subst (IsTableRead bytes) (sym (passed c.from_residual.result fault c.from_residual.ensures))
    (from_fault bytes fault (answer_failed tables bytes table_layout fault (Err fault) under_tables c.in_err-table.ensures (refl, refl)))

pub returns-then-end-bytes : goal.returns-then-end-bytes
returns-then-end-bytes c =
    answer_excess tables c.args.bytes.now table_layout c.in_ok-table.table c.in_ok-table.end under_tables c.in_ok-table.ensures refl c.if-end-bytes.true

pub returns : goal.returns
returns c =
    from_table c.args.bytes.now c.in_ok-table.table c.in_ok-table.end
    (answer_whole tables c.args.bytes.now table_layout c.in_ok-table.table c.in_ok-table.end under_tables c.in_ok-table.ensures (inr c.if-end-bytes.false))
