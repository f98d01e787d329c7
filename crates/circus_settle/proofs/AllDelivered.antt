-- A world that has settled to the end is quiet.
use Rattle.std.proofs.Common.{◌≡◌, ℕ, zero, suc, ◌+◌, ◌<◌, [], ◌∷◌, length, All, Some, refl, sym, ap, subst, ◌∙◌, arith}
use Rattle.std.specs.Prelude.{slice_get}
use Rattle.std.proofs.lemmas.Option.{none-some, same_Some}
use Rattle.std.proofs.lemmas.List.Elements.{All-nil, All-cons, Contains-append_right}
use Rattle.circus_schedule.specs.declared.line.Line.{Line}
use Rattle.circus_schedule.specs.declared.line.Line.TheVariants.{Deliver}
use Rattle.circus_world.specs.WorldState.{WorldState}
use Rattle.circus_world_theory.specs.Enough.{AreOnce}
use Rattle.circus_world_theory.specs.Quiet.{IsDelivery, IsDelivered, IsQuiet}
use Rattle.circus_settle.specs.Settled.{deliveries_from, first_deliveries}

pub alone : (number count : ℕ) → All IsDelivery (deliveries_from number count)
alone number zero = All-nil IsDelivery
alone number (suc count) = All-cons IsDelivery (Deliver number) (deliveries_from (number + 1) count) tt (alone (number + 1) count)

-- the datagram at a place behind the first one
each : (number count place : ℕ) → place < count → IsDelivered (deliveries_from number count) (number + place)
each number zero place below = absurd (omega (arith, below))
each number (suc count) zero below =
    let here : number ≡ number + 0 = omega arith in
    subst (λ k. IsDelivered (deliveries_from number (suc count)) k) here (0, omega arith, refl)
each number (suc count) (suc place) below =
    let at : number + 1 + place ≡ number + suc place = omega arith in
    subst (λ k. IsDelivered (deliveries_from number (suc count)) k) at
    (Contains-append_right (Deliver number ∷ []) (deliveries_from (number + 1) count) (Deliver (number + 1 + place)) (each (number + 1) count place (omega (arith, below))))

pub all_quiet : {M : Type 0} (w : WorldState M) (given : ℕ) → given ≡ length w.sent → IsQuiet w (first_deliveries given)
all_quiet w given is =
    record {
      alone = alone 0 given;
      each = λ number below.
          let at : 0 + number ≡ number = omega arith in
          subst (λ k. IsDelivered (first_deliveries given) k) at (each 0 given number (omega (arith, below, is)));
    }

-- the line at a place delivers the datagram of its number
line_is : (number count place : ℕ) (line : Line) → slice_get (deliveries_from number count) place ≡ Some line → line ≡ Deliver (number + place)
line_is number zero place line at = absurd (none-some line at)
line_is number (suc count) zero line at =
    let here : number ≡ number + 0 = omega arith in
    sym (same_Some (Deliver number) line at) ∙ ap (λ n. Deliver n) here
line_is number (suc count) (suc place) line at =
    let there : number + 1 + place ≡ number + suc place = omega arith in
    line_is (number + 1) count place line at ∙ ap (λ n. Deliver n) there

-- each datagram is delivered once
pub first_once : (count : ℕ) → AreOnce (first_deliveries count)
first_once count place other number at also =
    let one : number ≡ 0 + place = same_number number (0 + place) (line_is 0 count place (Deliver number) at) in
    let two : number ≡ 0 + other = same_number number (0 + other) (line_is 0 count other (Deliver number) also) in
    omega (arith, one, two)
  where
    same_number : (a b : ℕ) → ◌≡◌ {A = Line} (Deliver a) (Deliver b) → a ≡ b
    same_number a b h = cc
