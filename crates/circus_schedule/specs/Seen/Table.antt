-- What the table of nodes says of a name.
use Rattle.std.specs.Prelude.{ℕ, List, Option}
use Rattle.std.specs.Ordering.{nat_cmp}
use Rattle.std.specs.Cmp.Lexicographic.{slice_cmp}
use Rattle.std.specs.BTreeMap.{get_by}
use Rattle.circus_schedule.specs.declared.node_numbers.NodeNumbers.{NodeNumbers}

-- the number under which the name stands there
unfoldable pub number_in : NodeNumbers → List ℕ → Option ℕ
number_in numbers name = get_by (λ k. slice_cmp nat_cmp name k.now) numbers.table
