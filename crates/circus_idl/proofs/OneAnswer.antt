-- Tokens are refused in one way, and not where they begin with an interface without a fault.
use Rattle.std.proofs.Common.{◌≡◌, ℕ, zero, suc, false, ◌==◌, ◌||◌, ◌&&◌, nat_lt, List, [], length, refl, sym, ap, subst, ◌∙◌, arith, Option, Some, None}
use Rattle.std.specs.Prelude.{Contains}
use Rattle.std.proofs.lemmas.Bool.Decides.{nat_tests}
use Rattle.circus_text.specs.declared.token.Token.{Token}
use Rattle.circus_syntax.specs.declared.stopping.Stop.{Stop}
use Rattle.circus_syntax.specs.InterfaceTree.{InterfaceTree}
use Rattle.circus_syntax.specs.Placed.{Placed}
use Rattle.circus_syntax.specs.Read.{placed_from}
use Rattle.circus_syntax.specs.Reader.{place_in}
use Rattle.circus_syntax.specs.Stopping.{IsFilledIn}
use Rattle.circus_fault.specs.declared.fault.Fault.{Fault}
use Rattle.circus_fault.specs.Least.{IsLeast}
use Rattle.circus_fault.proofs.Items.{of_each}
use Rattle.circus_idl.specs.declared.fault.Cause.{Cause}
use Rattle.circus_idl.specs.declared.fault.Cause.TheVariants.{Expected, Deep, Unknown, Repeated, OutOfRange, TooLarge}
use Rattle.circus_idl.specs.declared.idl_fault.IdlFault.{IdlFault}
use Rattle.circus_idl.specs.Rank.{rank_of}
use Rattle.circus_idl.specs.Answer.{answer_at}
use Rattle.circus_idl.specs.Faults.{cut_of, interface_faults, read_faults}
use Rattle.circus_idl.specs.ReadAt.{IsStopOf, IsStoppedIn, IsTreeOf, IsRefused}
use Rattle.circus_idl.proofs.OneStop.{one_cause, one_left, no_stop, one_begun}

-- ---- one reading

-- tokens that are left in one place are filled in in one way
abbrev pub FilledInOneWay : Type 0
FilledInOneWay =
    (ts left : List Placed) (one other : Stop) (tree same : InterfaceTree) → IsFilledIn ts left one tree → IsFilledIn ts left other same → one.place ≡ other.place
    → (tree ≡ same) × (one.within ≡ other.within) × (one.list ≡ other.list)

alike : (ts : List Placed) (end : ℕ) (s t : Stop) (tree other : InterfaceTree) → FilledInOneWay → IsStoppedIn ts end s tree → IsStoppedIn ts end t other → (s ≡ t) × (tree ≡ other)
alike ts end s t tree other filling first second =
    let lefts = one_left ts end s t tree other first second in
    let places = first.place ∙ ap (λ l. place_in l end) lefts ∙ sym second.place in
    let causes = one_cause s.cause t.cause ts second.left (subst (IsStopOf s.cause ts) lefts first.cause) second.cause in
    let (trees, withins, lists) = filling ts second.left s t tree other (subst (λ l. IsFilledIn ts l s tree) lefts first.filled) second.filled places in
    (λ i. record { place = places i; cause = causes i; within = withins i; list = lists i }, trees)

pub one_reading : (ts : List Placed) (end : ℕ) (one other : Option Stop) (tree same : InterfaceTree) → FilledInOneWay → IsTreeOf ts end one tree → IsTreeOf ts end other same → (one ≡ other) × (tree ≡ same)
one_reading ts end None None tree same filling first second = (refl, one_begun ts end tree same first second)
one_reading ts end None (Some t) tree same filling first second = absurd (no_stop ts end t tree same first second)
one_reading ts end (Some s) None tree same filling first second = absurd (no_stop ts end s same tree second first)
one_reading ts end (Some s) (Some t) tree same filling first second = let (stops, trees) = alike ts end s t tree same filling first second in (ap (λ x. Some x) stops, trees)

-- ---- one refusal

-- the cause of a rank
of_rank : ℕ → Cause
of_rank zero = Expected
of_rank (suc zero) = Deep
of_rank (suc (suc zero)) = Unknown
of_rank (suc (suc (suc zero))) = Repeated
of_rank (suc (suc (suc (suc zero)))) = OutOfRange
of_rank (suc (suc (suc (suc (suc _))))) = TooLarge

ranked : (c : Cause) → of_rank (rank_of c) ≡ c
unfolding of_rank
ranked Expected = refl
ranked Deep = refl
ranked Unknown = refl
ranked Repeated = refl
ranked OutOfRange = refl
ranked TooLarge = refl

-- neither is before the other
same_place : (p r q s : ℕ) → (nat_lt p q || ((p == q) && nat_lt r s)) ≡ false → (nat_lt q p || ((q == p) && nat_lt s r)) ≡ false → p ≡ q
same_place p r q s first then = grind (arith, nat_tests)

same_rank : (p r q s : ℕ) → (nat_lt p q || ((p == q) && nat_lt r s)) ≡ false → (nat_lt q p || ((q == p) && nat_lt s r)) ≡ false → r ≡ s
same_rank p r q s first then = grind (arith, nat_tests)

one_least : (fs : List (Fault Cause)) (f g : Fault Cause) → IsLeast rank_of f fs → IsLeast rank_of g fs → (f.place ≡ g.place) × (f.cause ≡ g.cause)
one_least fs f g first second =
    let over = second.first f first.found in
    let back = first.first g second.found in (
      same_place f.place (rank_of f.cause) g.place (rank_of g.cause) over back,
      sym (ranked f.cause) ∙ ap of_rank (same_rank f.place (rank_of f.cause) g.place (rank_of g.cause) over back) ∙ ranked g.cause,
    )

-- what is read in one way is refused in one way
pub one_answer : (text : List ℕ) (ts : List Token) (at : ℕ) (one other : IdlFault) (first : IsRefused text ts at one) (second : IsRefused text ts at other) → first.stop ≡ second.stop → first.tree ≡ second.tree → one ≡ other
one_answer text ts at one other first second stops trees =
    let again : IsLeast rank_of first.fault (read_faults second.stop second.tree) = subst (IsLeast rank_of first.fault) (λ i. read_faults (stops i) (trees i)) first.least in
    let (places, causes) = one_least (read_faults second.stop second.tree) first.fault second.fault again second.least in
    first.given ∙ (λ i. answer_at (places i) (causes i)) ∙ sym second.given

-- ---- not both

none_least : (fs : List (Fault Cause)) (f : Fault Cause) → fs ≡ [] → IsLeast rank_of f fs → ⊥
none_least fs f none least = of_each (λ _. ⊥) [] f tt (subst (λ gs. Contains gs f) none least.found)

-- an interface without a fault is not refused
pub not_refused : (text : List ℕ) (ts : List Token) (at : ℕ) (answer : IdlFault) (tree : InterfaceTree) → IsTreeOf (placed_from text ts at) (length text) None tree → interface_faults (cut_of None) tree ≡ [] → IsRefused text ts at answer → ⊥
not_refused text ts at answer tree begun none refused = by_stop refused.stop refused.tree_of refused.least
  where
    by_stop : (stop : Option Stop) → IsTreeOf (placed_from text ts at) (length text) stop refused.tree → IsLeast rank_of refused.fault (read_faults stop refused.tree) → ⊥
    by_stop None also least =
        none_least (read_faults None refused.tree) refused.fault (ap (interface_faults (cut_of None)) (one_begun (placed_from text ts at) (length text) refused.tree tree also begun) ∙ none) least
    by_stop (Some s) stopped least = no_stop (placed_from text ts at) (length text) s tree refused.tree begun stopped
