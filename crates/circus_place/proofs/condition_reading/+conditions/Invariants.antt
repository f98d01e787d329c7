use Rattle.std.proofs.Common.{◌+◌, ◌*◌}
use Rattle.circus_place.proofs.condition_reading.+conditions.Given as goal

abbrev pub decreases-condition : goal.decreases-condition
decreases-condition l = 4 * l.levels + 3

abbrev pub decreases-conjunct : goal.decreases-conjunct
decreases-conjunct l = 4 * l.levels + 2

abbrev pub decreases-negation : goal.decreases-negation
decreases-negation l = 4 * l.levels + 1

abbrev pub decreases-group_behind_not : goal.decreases-group_behind_not
decreases-group_behind_not l = 4 * l.levels

abbrev pub decreases-group : goal.decreases-group
decreases-group l = 4 * l.levels

abbrev pub decreases-further_and : goal.decreases-further_and
decreases-further_and l = 4 * l.levels

abbrev pub decreases-further_or : goal.decreases-further_or
decreases-further_or l = 4 * l.levels
