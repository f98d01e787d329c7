-- The header that a message begins with, as a function of its bytes.
use Rattle.std.specs.Prelude.{ℕ, ◌+◌, Bool, false, ◌&&◌, nat_eq, nat_le, if◌then◌else◌, List, length, drop, Option, None, Some, option_map, Result, Ok, Err}
use Rattle.std.specs.Result.{result_ok}
use Rattle.circus_external.specs.Octets.{first_word, first_long}
use Rattle.circus_header.specs.CallFields.{has_body}
use Rattle.circus_header.specs.ReturnFields.{has_rest}
use Rattle.circus_header.specs.Seen.Layout.{Size, of_word, of_long, size_len, Layout, end, field}
use Rattle.circus_header.specs.Seen.Layouts.{call_layout, return_layout}
use Rattle.circus_header.specs.declared.call.Call.{Call}
use Rattle.circus_header.specs.declared.answer.ReturnHeader.{ReturnHeader}
use Rattle.circus_header.specs.declared.header_fault.HeaderFault.{HeaderFault}
use Rattle.circus_header.specs.declared.header_fault.HeaderFault.TheVariants.{Short, BadField}
use Rattle.circus_collate.specs.declared.table.Table.{Table}
use Rattle.circus_ring.specs.Seen.TableLayout.{table_layout}

-- the number at the front
abbrev pub first_number : Size → List ℕ → Option ℕ
first_number of_word bytes = first_word bytes
first_number of_long bytes = first_long bytes

-- a number of this size that was read at a place, if it is in its range
abbrev pub in_range : {A : Type 0} → ℕ → ℕ → ℕ → (ℕ → Result A HeaderFault) → Option ℕ → Result A HeaderFault
in_range least most at next None = Err (Short at)
in_range least most at next (Some n) = if nat_le least n && nat_le n most then next n else Err (BadField at)

-- what the fields from a place on mean, and the place behind them
abbrev pub read_by : {A : Type 0} → Layout A → ℕ → List ℕ → Result (A × ℕ) HeaderFault
read_by (end x) at bytes = Ok (x, at)
read_by (field size least most next) at bytes =
    in_range least most at (λ n. read_by (next n) (at + size_len size) bytes) (first_number size (drop at bytes))

-- where nothing may stand behind it, nothing does
abbrev pub whole : {A : Type 0} → (A → Bool) → List ℕ → Result (A × ℕ) HeaderFault → Result (A × ℕ) HeaderFault
whole goes_on bytes (Ok read) =
    if goes_on read.0 then Ok read
    else if nat_eq read.1 (length bytes) then Ok read
    else Err (BadField read.1)
whole goes_on bytes (Err fault) = Err fault

-- the header of the call that a message is, and how many bytes it has
abbrev pub call_in : List ℕ → Option (Call × ℕ)
call_in message = result_ok (whole has_body message (read_by call_layout 0 message))

-- that of the return
abbrev pub return_in : List ℕ → Option (ReturnHeader × ℕ)
return_in message = result_ok (whole has_rest message (read_by return_layout 0 message))

-- the table that bytes are
abbrev pub table_in : List ℕ → Option Table
table_in bytes = option_map (λ (read : Table × ℕ). read.0) (result_ok (whole (λ _. false) bytes (read_by table_layout 0 bytes)))

-- the table that the bytes from a place on are
abbrev pub table_at : ℕ → List ℕ → Option Table
table_at at message = table_in (drop at message)
