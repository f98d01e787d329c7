-- The layout of a table.
use Rattle.std.specs.Prelude.{ℕ, zero, suc, List, [], ◌∷◌, ◌++◌}
use Rattle.circus_header.specs.Seen.Layout.{of_word, of_long, Layout, end, field, then_layout}
use Rattle.circus_collate.specs.declared.view.Since.TheVariants.{Joining, From}
use Rattle.circus_collate.specs.declared.view.Entry.{Entry}
use Rattle.circus_collate.specs.declared.table.Table.{Table}
use Rattle.circus_collate.specs.declared.table.RingResult.{RingResult}
use Rattle.circus_collate.specs.declared.table.RingResult.TheVariants.{Done, RootTroupe, NotSpare, Full}

abbrev pub result_of : ℕ → RingResult
result_of zero = Done
result_of (suc zero) = RootTroupe
result_of (suc (suc zero)) = NotSpare
result_of (suc (suc (suc _))) = Full

-- a node that waits has no first index
abbrev pub most_first : ℕ → ℕ
most_first zero = 0
most_first (suc _) = 4294967295

abbrev pub entry_of : ℕ → ℕ → ℕ → Entry
entry_of node zero first = record { node = node; since = Joining }
entry_of node (suc _) first = record { node = node; since = From first }

abbrev pub entry_layout : Layout Entry
entry_layout =
    field of_word 0 63 (λ node. field of_word 0 1 (λ kind. field of_long 0 (most_first kind) (λ first. end (entry_of node kind first))))

-- as many entries as are said, behind others that are there already
abbrev pub entries_layout : ℕ → List Entry → Layout (List Entry)
entries_layout zero done = end done
entries_layout (suc count) done = then_layout entry_layout (λ e. entries_layout count (done ++ e ∷ []))

abbrev pub table_of : ℕ → ℕ → ℕ → List Entry → Table
table_of result troupe incarnation entries =
    record { result = result_of result; view = record { troupe = troupe; incarnation = incarnation; entries = entries } }

abbrev pub table_layout : Layout Table
table_layout =
    field of_word 0 3 (λ result. field of_word 0 31 (λ troupe. field of_long 1 4294967295 (λ incarnation. field of_word 0 16 (λ count.
    then_layout (entries_layout count []) (λ entries. end (table_of result troupe incarnation entries))))))
