-- The lines of views.
use Rattle.std.specs.Prelude.{ℕ, zero, suc, cond, List, [], ◌∷◌, ◌++◌, length, codes, option_map, Option, Some, None}
use Rattle.circus_collate.specs.declared.view.Since.{Since}
use Rattle.circus_collate.specs.declared.view.Since.TheVariants.{Joining, From}
use Rattle.circus_collate.specs.declared.view.Entry.{Entry}
use Rattle.circus_collate.specs.declared.view.View.{View}
use Rattle.circus_value_text.specs.Reading.{Read, and_then, seen_as, behind, behind_prefix, number_read, is_empty}
use Rattle.circus_audit.specs.Seen.Answers.{then_read, from_some}
use Rattle.circus_audit.specs.Seen.Lines.{name_behind, long_behind}

abbrev pub since_if : List ℕ → Option (List ℕ) → Read Since
since_if text (Some rest) = Some (Joining, rest)
since_if text None = seen_as (λ first. From first) (number_read 4294967295 text)

abbrev pub since_read : List ℕ → Read Since
since_read text = since_if text (behind_prefix (codes "joining") text)

abbrev pub since_behind : List ℕ → Read Since
since_behind text = behind (behind_prefix (codes "=") text) since_read

abbrev pub entry_read : List (List ℕ) → List ℕ → Read Entry
entry_read nodes text =
    and_then (name_behind (codes " ") nodes text) (λ node a. and_then (since_behind a)
    (λ since rest. Some (record { node = node; since = since }, rest)))

-- entries up to the end, at most so many
abbrev pub entries_read : List (List ℕ) → ℕ → List ℕ → Option (List Entry)
entries_read nodes zero text = cond (is_empty text) (Some []) None
entries_read nodes (suc most) text =
    cond (is_empty text) (Some []) (then_read (entry_read nodes text) (λ entry rest. option_map (λ es. entry ∷ es) (entries_read nodes most rest)))

-- these entries in front of the others
abbrev pub entries_before : List Entry → Option (List Entry) → Option (List Entry)
entries_before done others = option_map (λ es. done ++ es) others

-- the incarnation and the entries of a view, on a line of so many bytes
abbrev pub said_read : List (List ℕ) → ℕ → ℕ → List ℕ → Option View
said_read nodes most troupe text =
    then_read (long_behind (codes " ") text) (λ incarnation rest. option_map
    (λ es. record { troupe = troupe; incarnation = incarnation; entries = es }) (entries_read nodes most rest))

-- the view of the troupe with this number and name
abbrev pub view_read : List (List ℕ) → ℕ → List ℕ → List ℕ → Option View
view_read nodes troupe name line =
    from_some (behind_prefix (codes "view ") line) (λ a. from_some (behind_prefix name a) (said_read nodes (length line) troupe))
