-- What a table says of a name or a number.
use Rattle.std.specs.Prelude.{ℕ, Bool, List, is_some}
use Rattle.std.specs.Ordering.{nat_cmp}
use Rattle.std.specs.Cmp.Lexicographic.{slice_cmp}
use Rattle.std.specs.BTreeMap.{get_by}
use Rattle.std.specs.BTreeSet.{contains}
use Rattle.circus_fault.specs.declared.tables.Names.{Names}
use Rattle.circus_fault.specs.declared.tables.NumberSet.{NumberSet}
use Rattle.circus_fault.specs.Known.{Known}

-- which number a name has
unfoldable pub known_of : Names → Known
known_of names name = get_by (λ k. slice_cmp nat_cmp name k.now) names.table

-- the name stands in the table
abbrev pub holds_name : Names → List ℕ → Bool
holds_name names name = is_some (known_of names name)

-- the number stands in the set
unfoldable pub holds_number : NumberSet → ℕ → Bool
holds_number numbers number = contains nat_cmp numbers.set number
