use Rattle.circus_value.specs.ValueOf.{tree_of}
use Rattle.circus_value.specs.Seen.ValueWeight.{weight}
use Rattle.circus_value.proofs.size.+sizing.Given as goal

abbrev pub decreases-external_size : goal.decreases-external_size
decreases-external_size l = weight (tree_of l.value.now)
