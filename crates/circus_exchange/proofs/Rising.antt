-- Numbers that rise.
use Rattle.std.proofs.Common.{ℕ, ◌<◌, Bool, true, false, T, cond, ◌&&◌, eqb, subst, inl, inr}
use Rattle.std.specs.Ordering.{nat_cmp, is_lt}
use Rattle.std.specs.declared.cmp.Ordering.TheVariants.{Less, Equal, Greater}
use Rattle.std.proofs.lemmas.Bool.{cases_lt, le-ltb}

pub left : (a b : Bool) → T (a && b) → T a
left true b h = tt
left false b h = h

pub right : (a b : Bool) → T (a && b) → T b
right true b h = h
right false b h = absurd h

pub rising : (x y : ℕ) → T (is_lt (nat_cmp x y)) → x < y
rising x y h = elim (cases_lt x y) [
  | inl less ↦ less
  | inr more ↦ absurd (not_less (eqb x y) (subst (λ b. T (is_lt (cond b Less (cond (eqb x y) Equal Greater)))) (le-ltb x y more) h))
]
  where
    not_less : (b : Bool) → T (is_lt (cond b Equal Greater)) → ⊥
    not_less true h = h
    not_less false h = h
