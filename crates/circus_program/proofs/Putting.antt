-- Items that are put one after another, each with its number.
use Rattle.std.proofs.Common.{◌≡◌, ℕ, ◌+◌, ◌<◌, Option, List, ◌∷◌, ◌++◌, length, drop, get_or, sym, ap, ◌∙◌, Err, add-one, drop-cons}
use Rattle.circus_report.specs.declared.running.RunFault.{RunFault}
use Rattle.circus_report.specs.Writing.{Writes}
use Rattle.circus_report.specs.Run.{IsPut}
use Rattle.circus_picture.proofs.Begun.{IsBegun, begun-as, begun-more, begun-stopped}

module _ {A : Type 0} (all : ℕ → List A → List ℕ) (one : ℕ → A → List ℕ) (law : (n : ℕ) (x : A) (xs : List A) → all n (x ∷ xs) ≡ one n x ++ all (n + 1) xs) (whole : List ℕ) (old now next : Option (List ℕ)) (xs : List A) (i : ℕ) (x : A) (within : i < length xs) (is : x ≡ get_or xs i x) (begun : IsBegun whole (all i (drop i xs)) old now) where
  -- the next item is what is left begins with
  split : all i (drop i xs) ≡ one i x ++ all (i + 1) (drop (i + 1) xs)
  split =
      let first : drop i xs ≡ get_or xs i x ∷ drop (i + 1) xs = rw add-one (drop-cons xs i x within) in
      ap (all i) (first ∙ ap (λ y. y ∷ drop (i + 1) xs) (sym is)) ∙ law i x (drop (i + 1) xs)

  left : IsBegun whole (one i x ++ all (i + 1) (drop (i + 1) xs)) old now
  left = begun-as whole old (all i (drop i xs)) (one i x ++ all (i + 1) (drop (i + 1) xs)) now split begun

  -- it is put
  pub item-put : Writes now next (one i x) → IsBegun whole (all (i + 1) (drop (i + 1) xs)) old next
  item-put written = begun-more whole old (one i x) (all (i + 1) (drop (i + 1) xs)) now next left written

  -- not all of it is
  pub item-cut : (f : RunFault) → IsPut {A = Unit {0}} (one i x) now next (Err f) → IsPut {A = Unit {0}} whole old next (Err f)
  item-cut f cut = begun-stopped whole old (Unit {0}) (Unit {0}) (one i x) (all (i + 1) (drop (i + 1) xs)) now next f left cut
