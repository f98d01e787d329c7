-- Marks that stand in front, and what stands between two.
use Rattle.std.proofs.Common.{◌≡◌, ◌∙◌, ℕ, Bool, true, false, cond, nat_eq, List, [], ◌∷◌, ◌++◌, Option, Some, None, refl, sym, ap, eq-eqb}
use Rattle.std.proofs.lemmas.Bool.{eqb-true}
use Rattle.circus_value_text.specs.Reading.{Read, and_then, seen_as, behind_prefix, behind, with_end, between}

-- a mark that stands in front is passed
pub passed_front : (front text : List ℕ) → behind_prefix front (front ++ text) ≡ Some text
passed_front [] text = refl
passed_front (b ∷ front) text = ap (λ same. cond same (behind_prefix front (front ++ text)) None) (eq-eqb b b refl) ∙ passed_front front text

-- and what is passed stands in front
pub passed_stands : (front text rest : List ℕ) → behind_prefix front text ≡ Some rest → text ≡ front ++ rest
passed_stands [] text rest is = cc
passed_stands (b ∷ front) [] rest is = cc
passed_stands (b ∷ front) (c ∷ text) rest is = by_byte (nat_eq c b) refl (passed_stands front text rest) is
  where
    by_byte : (same : Bool) → nat_eq c b ≡ same → (behind_prefix front text ≡ Some rest → text ≡ front ++ rest) → cond same (behind_prefix front text) None ≡ Some rest → c ∷ text ≡ b ∷ (front ++ rest)
    by_byte true same others is =
        let here : c ≡ b = eqb-true c b same in
        let later : text ≡ front ++ rest = others is in
        λ i. here i ∷ later i
    by_byte false same others is = cc

-- ---- answers

-- what was read, and what stands behind it
pub pair_is : {A : Type 0} (a b : A) (rest later : List ℕ) → ◌≡◌ {A = Read A} (Some (a, rest)) (Some (b, later)) → (a ≡ b) × (rest ≡ later)
pair_is {A} a b rest later is =
    let same : ◌≡◌ {A = A × List ℕ} (a, rest) (b, later) = cc in
    (ap (λ (p : A × List ℕ). p.0) same, ap (λ (p : A × List ℕ). p.1) same)

pub behind_some : {B : Type 0} (r : Option (List ℕ)) (f : List ℕ → Read B) (b : B × List ℕ) → behind r f ≡ Some b → (rest : List ℕ) × (r ≡ Some rest) × (f rest ≡ Some b)
behind_some (Some rest) f b is = (rest, refl, is)
behind_some None f b is = cc

pub and_then_some : {A B : Type 0} (r : Read A) (f : A → List ℕ → Read B) (b : B × List ℕ) → and_then r f ≡ Some b → (a : A × List ℕ) × (r ≡ Some a) × (f a.0 a.1 ≡ Some b)
and_then_some (Some a) f b is = (a, refl, is)
and_then_some None f b is = cc

pub seen_as_some : {A B : Type 0} (f : A → B) (r : Read A) (b : B) (rest : List ℕ) → seen_as f r ≡ Some (b, rest) → (a : A) × (r ≡ Some (a, rest)) × (b ≡ f a)
seen_as_some f (Some a) b rest is =
    let parts = pair_is (f a.0) b a.1 rest is in
    (a.0, (λ i. Some (a.0, parts.1 i)), sym parts.0)
seen_as_some f None b rest is = cc

-- ---- between two marks

pub between_complete : {A : Type 0} (opening closing inner rest : List ℕ) (read : List ℕ → Read A) (a : A) → read (inner ++ (closing ++ rest)) ≡ Some (a, closing ++ rest) → between opening closing read (opening ++ (inner ++ (closing ++ rest))) ≡ Some (a, rest)
between_complete opening closing inner rest read a is =
    ap (λ r. behind r (λ text. with_end closing (read text))) (passed_front opening (inner ++ (closing ++ rest)))
    ∙ ap (with_end closing) is
    ∙ ap (λ r. behind r (λ later. Some (a, later))) (passed_front closing rest)

pub between_sound : {A : Type 0} (opening closing text rest : List ℕ) (read : List ℕ → Read A) (a : A) → between opening closing read text ≡ Some (a, rest) → (inner : List ℕ) × (text ≡ opening ++ inner) × (read inner ≡ Some (a, closing ++ rest))
between_sound opening closing text rest read a is =
    let opened = behind_some (behind_prefix opening text) (λ inner. with_end closing (read inner)) (a, rest) is in
    let inner = and_then_some (read opened.0) (λ b more. behind (behind_prefix closing more) (λ later. Some (b, later))) (a, rest) opened.2 in
    let closed = behind_some (behind_prefix closing inner.0.1) (λ later. Some (inner.0.0, later)) (a, rest) inner.2 in
    let parts = pair_is inner.0.0 a closed.0 rest closed.2 in
    let stands : inner.0.1 ≡ closing ++ rest = passed_stands closing inner.0.1 closed.0 closed.1 ∙ ap (λ x. closing ++ x) parts.1 in
    (opened.0, passed_stands opening text opened.0 opened.1, inner.1 ∙ (λ i. Some (parts.0 i, stands i)))
