-- Tables that messages tell.
use Rattle.std.proofs.Common.{◌≡◌, ℕ, ◌<◌, ◌^◌, false, List, drop, Some, sym, subst, arith}
use Rattle.std.specs.Result.{result_ok}
use Rattle.circus_header.specs.Field.{word}
use Rattle.circus_header.specs.Reading.{IsOne}
use Rattle.circus_collate.specs.declared.table.Table.{Table}
use Rattle.circus_ring.specs.TableFields.{tables}
use Rattle.circus_ring.specs.Seen.TableLayout.{table_layout}
use Rattle.circus_ring.proofs.Tabling.{under_tables}
use Rattle.circus_node.specs.Headers.{read_by, whole, table_at}
use Rattle.circus_member_theory.proofs.Accepting.Heads.{read_back, whole_read}
use Rattle.circus_member_theory.proofs.Accepting.Options.{seen_some}

pub table_is_one : (at : ℕ) (message : List ℕ) (table : Table) → table_at at message ≡ Some table → IsOne tables table
table_is_one at message table is =
    let bytes : List ℕ = drop at message in
    let s = seen_some (λ (read : Table × ℕ). read.0) (result_ok (whole (λ _. false) bytes (read_by table_layout 0 bytes))) table is in
    let r = whole_read table_layout (λ _. false) bytes s.value s.is in
    let q = read_back table_layout 0 bytes s.value.0 s.value.1 r.by in
    subst (IsOne tables) (sym s.seen) (under_tables.meant s.value.0 q.fields q.taken).0

-- its incarnation is a number of four bytes
pub table_incarnation : (table : Table) → IsOne tables table → table.view.incarnation < 2 ^ 32
table_incarnation table one = one.1 2 (word 0) (omega arith)
