-- Tokens that are left in one place are filled in to one placing.
use Rattle.std.proofs.Common.{◌≡◌, ℕ, List, [], ◌++◌, sym, ◌∙◌, subst}
use Rattle.std.proofs.lemmas.List.{append_cancel_right}
use Rattle.circus_syntax.specs.Placed.{Placed}
use Rattle.circus_syntax.specs.Filling.{AllBehind}
use Rattle.circus_syntax.specs.Stopping.{StandAt}
use Rattle.circus_syntax.proofs.Twice.{any}
use Rattle.circus_place.specs.Written.{PlacingTree}
use Rattle.circus_place.specs.Grammar.{IsPlacing, IsWithin, most_levels}
use Rattle.circus_place.specs.Filling.{as_placing}
use Rattle.circus_place.specs.Stopping.{IsFilledIn}
use Rattle.circus_place.proofs.Whole.{placing_read}
use Rattle.circus_place.proofs.TwicePlacings.{twice_placing}

-- two placings with the same tokens up to a place
one_tree : (read more others : List Placed) (at : ℕ) (tree other : PlacingTree) → IsPlacing (read ++ more) tree → IsPlacing (read ++ others) other → IsWithin most_levels tree → IsWithin most_levels other
    → StandAt at more → StandAt at others → AllBehind read (as_placing tree) → AllBehind read (as_placing other) → tree ≡ other
one_tree read more others at tree other is so within also there here filled too =
    (any at (twice_placing at most_levels) read more others [] [] 0 tree other (record {
      more_there = there;
      others_there = here;
      one = placing_read most_levels (read ++ more) tree 0 is within;
      other = placing_read most_levels (read ++ others) other 0 so also;
      one_filled = filled;
      other_filled = too;
    })).0

pub one_filling : (ts left : List Placed) (at : ℕ) (tree same : PlacingTree) → IsFilledIn ts left at tree → IsFilledIn ts left at same → tree ≡ same
one_filling ts left at tree same first second =
    let fronts : first.read ≡ second.read = append_cancel_right first.read second.read left (sym first.whole ∙ second.whole) in
    one_tree second.read first.more second.more at tree same (subst (λ l. IsPlacing (l ++ first.more) tree) fronts first.placing) second.placing first.within second.within
    first.there second.there (subst (λ l. AllBehind l (as_placing tree)) fronts first.filled) second.filled
