use Rattle.std.proofs.Common.{◌+◌, ◌*◌, length}
use Rattle.circus_evaluate.proofs.part.+putting.Given as goal

-- the steps that are left
abbrev pub decreases-put_in : goal.decreases-put_in
decreases-put_in l = 4 * length l.steps.now

abbrev pub decreases-put_within : goal.decreases-put_within
decreases-put_within l = 4 * length l.steps.now + 1

abbrev pub decreases-put_item : goal.decreases-put_item
decreases-put_item l = 4 * length l.steps.now + 2

abbrev pub decreases-put_under : goal.decreases-put_under
decreases-put_under l = 4 * length l.steps.now + 3
