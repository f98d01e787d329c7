use Rattle.std.proofs.Common.{[], ◌∷◌, refl, sym, arith}
use Rattle.circus_text.proofs.front.is_double_sign.Goals as goal

-- the third and the fourth of the signs of two bytes
pub returns-in-58-eq61-3 : goal.returns-in-58-eq61-3
returns-in-58-eq61-3 c = (λ _. (2, omega arith, λ i. sym c.in-58-eq61.is-0 i ∷ sym c.in-58-eq61.is-1 i ∷ []), λ _. refl)

pub returns-in-58-eq61-4 : goal.returns-in-58-eq61-4
returns-in-58-eq61-4 c = (λ _. (3, omega arith, λ i. sym c.in-58-eq61.is-0 i ∷ sym c.in-58-eq61.is-1 i ∷ []), λ _. refl)
