-- The fields of a table, and which bytes are a table.
use Rattle.std.specs.Prelude.{◌≡◌, ℕ, ◌≤◌, ◌⊎◌, false, List, [], ◌∷◌, length, All, Result, Ok, Err}
use Rattle.std.specs.List.{flat_map}
use Rattle.circus_header.specs.Field.{Field, word, long, bytes_of}
use Rattle.circus_header.specs.CallFields.{IsModule, IsNode, IsIncarnation}
use Rattle.circus_header.specs.Reading.{Headers, IsOne, IsShort, IsOutOfRange, IsExcess}
use Rattle.circus_header.specs.declared.header_fault.HeaderFault.{HeaderFault}
use Rattle.circus_header.specs.declared.header_fault.HeaderFault.TheVariants.{Short, BadField, NoMemory}
use Rattle.circus_collate.specs.declared.view.Since.{Since}
use Rattle.circus_collate.specs.declared.view.Since.TheVariants.{Joining, From}
use Rattle.circus_collate.specs.declared.view.Entry.{Entry}
use Rattle.circus_collate.specs.declared.table.Table.{Table}
use Rattle.circus_collate.specs.declared.table.RingResult.{RingResult}
use Rattle.circus_collate.specs.declared.table.RingResult.TheVariants.{Done, RootTroupe, NotSpare, Full}
use Rattle.circus_ring.specs.RingTable.{most_entries}

abbrev pub result_number : RingResult → ℕ
result_number Done = 0
result_number RootTroupe = 1
result_number NotSpare = 2
result_number Full = 3

-- whether it performs calls itself, and from which one on
abbrev pub since_fields : Since → List Field
since_fields Joining = word 0 ∷ long 0 ∷ []
since_fields (From first) = word 1 ∷ long first ∷ []

abbrev pub entry_fields : Entry → List Field
entry_fields e = word e.node ∷ since_fields e.since

-- the result, the troupe, the incarnation, how many entries there are, and each of them
abbrev pub table_fields : Table → List Field
table_fields table =
    word (result_number table.result) ∷ word table.view.troupe ∷ long table.view.incarnation
    ∷ word (length table.view.entries) ∷ flat_map entry_fields table.view.entries

-- a table whose fields are in their ranges
pub record IsTable (table : Table) : Type 0 where
  pub troupe : IsModule table.view.troupe
  pub incarnation : IsIncarnation table.view.incarnation
  pub few : length table.view.entries ≤ most_entries
  pub nodes : All (λ (e : Entry). IsNode e.node) table.view.entries

-- nothing stands behind a table
abbrev pub tables : Headers Table
tables = record { fields = table_fields; IsHeader = IsTable; goes_on = λ _. false }

-- the bytes are those of a table, or this is the first place where they are none
abbrev pub IsTableRead : List ℕ → Result Table HeaderFault → Type 0
IsTableRead bytes (Ok table) = IsOne tables table × (bytes ≡ bytes_of (table_fields table))
IsTableRead bytes (Err (Short place)) = IsShort tables bytes place
IsTableRead bytes (Err (BadField place)) = IsOutOfRange tables bytes place ⊎ IsExcess tables bytes place
IsTableRead bytes (Err NoMemory) = Unit {0}
