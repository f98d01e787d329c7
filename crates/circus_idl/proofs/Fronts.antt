-- Tokens that are taken apart in two ways.
use Rattle.std.proofs.Common.{◌≡◌, List, [], ◌∷◌, ◌++◌, refl, sym}
use Rattle.circus_syntax.specs.Placed.{Placed}

-- the one front is the other one, or goes on from it
pub data Fronts (a b c d : List Placed) : Type 0 where
  same : a ≡ c → b ≡ d → Fronts a b c d
  longer : (t : Placed) (us : List Placed) → c ≡ a ++ t ∷ us → b ≡ t ∷ (us ++ d) → Fronts a b c d
  shorter : (t : Placed) (us : List Placed) → a ≡ c ++ t ∷ us → d ≡ t ∷ (us ++ b) → Fronts a b c d

pub head_of : (t u : Placed) (ts us : List Placed) → t ∷ ts ≡ u ∷ us → t ≡ u
head_of t u ts us is = cc

rest_of : (t u : Placed) (ts us : List Placed) → t ∷ ts ≡ u ∷ us → ts ≡ us
rest_of t u ts us is = cc

behind : (t u : Placed) (a b c d : List Placed) → t ≡ u → Fronts a b c d → Fronts (t ∷ a) b (u ∷ c) d
behind t u a b c d heads (same is so) = same (λ i. heads i ∷ is i) so
behind t u a b c d heads (longer v us is so) = longer v us (λ i. sym heads i ∷ is i) so
behind t u a b c d heads (shorter v us is so) = shorter v us (λ i. heads i ∷ is i) so

pub fronts : (a b c d : List Placed) → a ++ b ≡ c ++ d → Fronts a b c d
fronts [] b [] d is = same refl is
fronts [] b (u ∷ c) d is = longer u c refl is
fronts (t ∷ a) b [] d is = shorter t a refl (sym is)
fronts (t ∷ a) b (u ∷ c) d is = behind t u a b c d (head_of t u (a ++ b) (c ++ d) is) (fronts a b c d (rest_of t u (a ++ b) (c ++ d) is))
