-- Tokens begin an interface, or reading them stops in one place alone, for one cause.
use Rattle.std.proofs.Common.{◌≡◌, ℕ, List, [], ◌∷◌, ◌++◌, refl, sym, ◌∙◌, ap, subst, append_assoc, append-nil, None}
use Rattle.std.proofs.lemmas.List.{append_cancel_right}
use Rattle.circus_syntax.specs.declared.stopping.Stop.{Stop}
use Rattle.circus_syntax.specs.declared.stopping.StopCause.{StopCause}
use Rattle.circus_syntax.specs.declared.stopping.StopCause.TheVariants.{Unexpected, TooDeep}
use Rattle.circus_syntax.specs.InterfaceTree.{InterfaceTree}
use Rattle.circus_syntax.specs.Placed.{Placed}
use Rattle.circus_syntax.specs.Spelling.{IsInterface, IsWithin, most_levels}
use Rattle.circus_syntax.specs.Stopping.{IsFilledIn}
use Rattle.circus_syntax.proofs.Whole.{interface_one}
use Rattle.circus_idl.specs.ReadAt.{IsStopOf, IsStoppedIn, IsTreeOf}
use Rattle.circus_idl.proofs.Fronts.{Fronts, same, longer, shorter, head_of, fronts}

-- no interface within the levels goes on where reading stops
goes_on : (c : StopCause) (ts left read : List Placed) (t : Placed) (us more : List Placed) (tree : InterfaceTree) → IsStopOf c ts left → ts ≡ read ++ left → left ≡ t ∷ us
    → IsInterface (read ++ t ∷ more) tree → IsWithin most_levels tree → ⊥
goes_on Unexpected ts left read t us more tree stop whole next is within =
    let front : stop.read ≡ read = append_cancel_right stop.read read left (sym stop.whole ∙ whole) in
    stop.none_on t us next (tree, more, subst (λ l. IsInterface l tree) (ap (λ l. l ++ t ∷ more) (sym front) ∙ sym (append_assoc stop.read (t ∷ []) more)) is)
goes_on TooDeep ts left read t us more tree stop whole next is within =
    let front : stop.read ≡ read = append_cancel_right stop.read read left (sym stop.whole ∙ whole) in
    let first : t ≡ stop.next = head_of t stop.next us stop.rest (sym next ∙ stop.next_is) in
    stop.none_within (tree, more, subst (λ l. IsInterface l tree) ((λ i. sym front i ++ first i ∷ more) ∙ sym (append_assoc stop.read (stop.next ∷ []) more)) is, within)

-- nor does what was read begin with one
none_whole : (c : StopCause) (ts left read own more : List Placed) (tree : InterfaceTree) → IsStopOf c ts left → ts ≡ read ++ left → read ≡ own ++ more → IsInterface own tree → ⊥
none_whole Unexpected ts left read own more tree stop whole parts is = stop.none_whole own more tree (append_cancel_right stop.read read left (sym stop.whole ∙ whole) ∙ parts) is
none_whole TooDeep ts left read own more tree stop whole parts is = stop.none_whole own more tree (append_cancel_right stop.read read left (sym stop.whole ∙ whole) ∙ parts) is

-- an unexpected token isn't too deep
pub one_cause : (c d : StopCause) (ts left : List Placed) → IsStopOf c ts left → IsStopOf d ts left → c ≡ d
one_cause Unexpected Unexpected ts left one other = refl
one_cause TooDeep TooDeep ts left one other = refl
one_cause Unexpected TooDeep ts left one other =
    let front : other.read ≡ one.read = append_cancel_right other.read one.read left (sym other.whole ∙ one.whole) in
    let (tree, more, is) = other.goes_on in
    absurd (one.none_on other.next other.rest other.next_is (tree, more, subst (λ l. IsInterface ((l ++ other.next ∷ []) ++ more) tree) front is))
one_cause TooDeep Unexpected ts left one other =
    let front : one.read ≡ other.read = append_cancel_right one.read other.read left (sym one.whole ∙ other.whole) in
    let (tree, more, is) = one.goes_on in
    absurd (other.none_on one.next one.rest one.next_is (tree, more, subst (λ l. IsInterface ((l ++ one.next ∷ []) ++ more) tree) front is))

-- two stops leave the same
pub one_left : (ts : List Placed) (end : ℕ) (s t : Stop) (tree other : InterfaceTree) (first : IsStoppedIn ts end s tree) (second : IsStoppedIn ts end t other) → first.left ≡ second.left
one_left ts end s t tree other first second = by_fronts (fronts one.read first.left two.read second.left (sym one.whole ∙ two.whole))
  where
    one : IsFilledIn ts first.left s tree
    one = first.filled

    two : IsFilledIn ts second.left t other
    two = second.filled

    by_fronts : Fronts one.read first.left two.read second.left → first.left ≡ second.left
    by_fronts (same is so) = so
    by_fronts (longer u us is so) =
        absurd (goes_on s.cause ts first.left one.read u (us ++ second.left) (us ++ two.more) other first.cause one.whole so
        (subst (λ l. IsInterface l other) (ap (λ l. l ++ two.more) is ∙ append_assoc one.read (u ∷ us) two.more) two.interface) two.within)
    by_fronts (shorter u us is so) =
        absurd (goes_on t.cause ts second.left two.read u (us ++ first.left) (us ++ one.more) tree second.cause two.whole so
        (subst (λ l. IsInterface l tree) (ap (λ l. l ++ one.more) is ∙ append_assoc two.read (u ∷ us) one.more) one.interface) one.within)

-- tokens that begin with an interface don't stop reading
pub no_stop : (ts : List Placed) (end : ℕ) (s : Stop) (tree other : InterfaceTree) → IsTreeOf ts end None tree → IsStoppedIn ts end s other → ⊥
no_stop ts end s tree other (own, rest, parts, is, within) stopped = by_fronts (fronts own rest filled.read stopped.left (sym parts ∙ filled.whole))
  where
    filled : IsFilledIn ts stopped.left s other
    filled = stopped.filled

    by_fronts : Fronts own rest filled.read stopped.left → ⊥
    by_fronts (same so _) = none_whole s.cause ts stopped.left filled.read own [] tree stopped.cause filled.whole (sym so ∙ sym (append-nil own)) is
    by_fronts (longer u us so _) = none_whole s.cause ts stopped.left filled.read own (u ∷ us) tree stopped.cause filled.whole so is
    by_fronts (shorter u us so next) =
        goes_on s.cause ts stopped.left filled.read u (us ++ rest) us tree stopped.cause filled.whole next (subst (λ l. IsInterface l tree) so is) within

-- they begin with one interface
pub one_begun : (ts : List Placed) (end : ℕ) (tree other : InterfaceTree) → IsTreeOf ts end None tree → IsTreeOf ts end None other → tree ≡ other
one_begun ts end tree other (own, rest, parts, is, _) (front, left, whole, so, _) = by_fronts (fronts own rest front left (sym parts ∙ whole))
  where
    by_fronts : Fronts own rest front left → tree ≡ other
    by_fronts (same fronts_are _) = (interface_one own [] tree other is (subst (λ l. IsInterface l other) (sym fronts_are ∙ sym (append-nil own)) so)).1
    by_fronts (longer u us on _) = (interface_one own (u ∷ us) tree other is (subst (λ l. IsInterface l other) on so)).1
    by_fronts (shorter u us on _) = sym (interface_one front (u ∷ us) other tree so (subst (λ l. IsInterface l tree) on is)).1
