-- The zero values of variables are a state, and take few bytes.
use Rattle.std.proofs.Common.{◌≡◌, ℕ, ◌+◌, ◌*◌, ◌≤◌, ◌<◌, true, List, [], ◌∷◌, ◌++◌, length, refl, sym, ◌∙◌, ap, arith}
use Rattle.std.specs.List.{AllByRecursion, flat_map}
use Rattle.std.proofs.lemmas.List.Sums.{sum_by-cons, sum_by-append}
use Rattle.std.proofs.lemmas.List.{map-append, length-map}
use Rattle.circus_value.specs.ShapeTree.{FieldTree}
use Rattle.circus_value.specs.ShapeOf.{tree_of, shape_in}
use Rattle.circus_value.specs.Fits.{fits, all_fit}
use Rattle.circus_value.specs.ExternalSize.{size_of_values}
use Rattle.circus_limits.specs.Limits.{first_limit}
use Rattle.circus_evaluate.specs.Typed.{Hold}
use Rattle.circus_type.specs.Limits.{most_parts, most_zero_bytes}
use Rattle.circus_type.specs.Obeys.{ObeysWhole}
use Rattle.circus_type.specs.Together.{shapes_of, parts_of, zero_size_of}
use Rattle.circus_type.specs.Written.{parts, zero_value, zero_size}
use Rattle.circus_modules.specs.InterfaceSignatures.{shapes_in}
use Rattle.circus_check.specs.Meaning.{BodyMeant}
use Rattle.circus_check.proofs.Interfaces.{as_many_parts}
use Rattle.circus_modules.specs.Zeros.{zeros}
use Rattle.circus_modules.proofs.Trees.{shape_forth}
use Rattle.circus_modules.proofs.ZeroFits.{zero_fits, both}

-- each zero value fits
pub zeros_fit_shapes : (fields : List FieldTree) → AllByRecursion ObeysWhole (shapes_of fields) → all_fit (shapes_in fields) (zeros fields) ≡ true
zeros_fit_shapes [] obey = refl
zeros_fit_shapes (f ∷ fs) obey =
    both (fits (tree_of (shape_in f.shape)) (zero_value f.shape)) (all_fit (shapes_in fs) (zeros fs))
    (ap (λ s. fits s (zero_value f.shape)) (shape_forth f.shape) ∙ zero_fits f.shape obey.0.inside) (zeros_fit_shapes fs obey.1)

pub zeros_hold : (fields : List FieldTree) → AllByRecursion ObeysWhole (shapes_of fields) → Hold (shapes_of fields) (zeros fields)
zeros_hold [] obey = tt
zeros_hold (f ∷ fs) obey = (zero_fits f.shape obey.0.inside, zeros_hold fs obey.1)

-- together they have the bytes of each
zeros_size : (fields : List FieldTree) → size_of_values (zeros fields) ≡ zero_size_of fields
zeros_size [] = refl
zeros_size (f ∷ fs) = ap (λ n. zero_size f.shape + n) (zeros_size fs) ∙ sym (sum_by-cons zero_size f.shape (shapes_of fs))

pub zeros_within : (fields : List FieldTree) (limit : ℕ) → zero_size_of fields ≤ most_zero_bytes → first_limit ≤ limit → size_of_values (zeros fields) ≤ limit
zeros_within fields limit small large = omega (arith, zeros_size fields, small, large)

-- as many variables as there are parts have few bytes
zeros_few : (fields : List FieldTree) → AllByRecursion ObeysWhole (shapes_of fields) → size_of_values (zeros fields) ≤ 65536 * length fields
zeros_few [] obey = omega arith
zeros_few (f ∷ fs) obey = omega (arith, obey.0.small, zeros_few fs obey.1)

pub locals_small : (fields : List FieldTree) → AllByRecursion ObeysWhole (shapes_of fields) → parts_of (shapes_of fields) ≤ most_parts → size_of_values (zeros fields) < 4294967296
locals_small fields obey few = omega (arith, zeros_few fields obey, as_many_parts (shapes_of fields), length-map fields (λ (f : FieldTree). f.shape), few)

-- parts of two lists of fields
pub parts_joined : (first second : List FieldTree) → parts_of (shapes_of (first ++ second)) ≡ parts_of (shapes_of first) + parts_of (shapes_of second)
parts_joined first second = ap parts_of (map-append (λ (f : FieldTree). f.shape) first second) ∙ sum_by-append parts (shapes_of first) (shapes_of second)

-- the parts of each body are among those of all
pub parts_among : (bodies : List BodyMeant) (most : ℕ) → parts_of (shapes_of (flat_map (λ (b : BodyMeant). b.locals) bodies)) ≤ most → AllByRecursion (λ (b : BodyMeant). parts_of (shapes_of b.locals) ≤ most) bodies
parts_among [] most few = tt
parts_among (b ∷ bs) most few =
    let split = parts_joined b.locals (flat_map (λ (c : BodyMeant). c.locals) bs) in
    (omega (arith, split, few), parts_among bs most (omega (arith, split, few)))
