-- Tokens that are left in one place are filled in to one interface.
use Rattle.std.proofs.Common.{◌≡◌, ℕ, List, [], ◌++◌, length, sym, ◌∙◌, ap, subst, append-nil}
use Rattle.std.specs.Prelude.{Option, Some, None, slice_get}
use Rattle.std.proofs.lemmas.List.{append_cancel_right}
use Rattle.circus_syntax.specs.declared.stopping.Stop.{Stop}
use Rattle.circus_syntax.specs.InterfaceTree.{InterfaceTree}
use Rattle.circus_syntax.specs.Placed.{Placed}
use Rattle.circus_syntax.specs.Reading.{interface}
use Rattle.circus_syntax.specs.Spelling.{most_levels, IsInterface, IsWithin}
use Rattle.circus_syntax.specs.Standing.{Standing, standings_of_interface}
use Rattle.circus_syntax.specs.Filling.{AllBehind, as_interface}
use Rattle.circus_syntax.specs.Stopping.{StandAt, IsFilledIn}
use Rattle.circus_syntax.proofs.Sound.{reader}
use Rattle.circus_syntax.proofs.Whole.{interface_read}
use Rattle.circus_syntax.proofs.Twice.{any}
use Rattle.circus_syntax.proofs.TwiceInterfaces.{twice_interface}

-- two interfaces with the same tokens up to a place
one_tree : (read more others : List Placed) (at : ℕ) (tree other : InterfaceTree) → IsInterface (read ++ more) tree → IsInterface (read ++ others) other
    → IsWithin most_levels tree → IsWithin most_levels other → StandAt at more → StandAt at others
    → AllBehind read (as_interface tree) → AllBehind read (as_interface other) → tree ≡ other
one_tree read more others at tree other is so within also there here filled too =
    (any at (twice_interface at most_levels) read more others [] [] 0 tree other (record {
      more_there = there;
      others_there = here;
      one = ap (λ l. interface most_levels (reader None l 0)) (sym (append-nil (read ++ more))) ∙ interface_read (read ++ more) [] tree 0 is within;
      other = ap (λ l. interface most_levels (reader None l 0)) (sym (append-nil (read ++ others))) ∙ interface_read (read ++ others) [] other 0 so also;
      one_filled = filled;
      other_filled = too;
    })).0

same_standing : (m n : Standing) → ◌≡◌ {A = Option Standing} (Some m) (Some n) → m ≡ n
same_standing m n is = cc

pub one_filling : (ts left : List Placed) (one other : Stop) (tree same : InterfaceTree) → IsFilledIn ts left one tree → IsFilledIn ts left other same → one.place ≡ other.place
    → (tree ≡ same) × (one.within ≡ other.within) × (one.list ≡ other.list)
one_filling ts left one other tree same first second at =
    let fronts : first.read ≡ second.read = append_cancel_right first.read second.read left (sym first.whole ∙ second.whole) in
    let trees : tree ≡ same =
    one_tree second.read first.more second.more other.place tree same (subst (λ l. IsInterface (l ++ first.more) tree) fronts first.interface) second.interface first.within second.within
    (subst (λ p. StandAt p first.more) at first.there) second.there (subst (λ l. AllBehind l (as_interface tree)) fronts first.filled) second.filled in
    let standing =
    same_standing (record { within = one.within; list = one.list }) (record { within = other.within; list = other.list })
    (sym first.cut ∙ (λ i. slice_get (standings_of_interface (trees i)) (length (fronts i))) ∙ second.cut) in
    (trees, ap (λ (m : Standing). m.within) standing, ap (λ (m : Standing). m.list) standing)
