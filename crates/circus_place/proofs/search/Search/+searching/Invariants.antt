use Rattle.std.proofs.Common.{◌≡◌, ◌+◌, ◌-◌, ◌*◌, ◌∷◌, [], ◌++◌, cond, length, vec_len}
use Rattle.circus_value.specs.Among.{is_among}
use Rattle.circus_place.specs.Seen.Search.{in_turn, best_from}
use Rattle.circus_place.proofs.search.Search.+searching.Given as goal

abbrev pub decreases-extend : goal.decreases-extend
decreases-extend l = 2 * (l.self.now.size - vec_len l.members.now) + 1

abbrev pub decreases-extend_by : goal.decreases-extend_by
decreases-extend_by l = 2 * (l.self.now.size - vec_len l.members.now)

-- the best is that after the machines that had their turn
abbrev pub invariant-extend-loop-machine : goal.invariant-extend-loop-machine
invariant-extend-loop-machine l =
    (l.members.items ≡ l.fn.members.items)
    × (l.best ≡ in_turn (λ m b. cond (is_among l.fn.members.items m) b
    (best_from l.self.test.now l.self.present.now (length l.self.present.now) (l.self.size - vec_len l.fn.members - 1) (l.fn.members.items ++ m ∷ []) b)) l.machine l.fn.best)
