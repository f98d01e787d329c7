-- Texts that are cut at the first place of a byte.
use Rattle.std.proofs.Common.{◌≡◌, ◌∙◌, ◌++◌, ℕ, List, [], ◌∷◌, refl, sym}
use Rattle.std.proofs.lemmas.Bool.{eq-eqb, false≢true}
use Rattle.circus_schedule.specs.Seen.Cut.{Lacks}

-- a text is cut in one way
pub same_cut : (byte : ℕ) (one other rest more : List ℕ) → Lacks byte one → Lacks byte other → one ++ byte ∷ rest ≡ other ++ byte ∷ more → (one ≡ other) × (rest ≡ more)
same_cut byte [] [] rest more lacks lacking same = (refl, let all = same in cc)
same_cut byte [] (c ∷ other) rest more lacks lacking same =
    let here : byte ≡ c = cc in
    absurd (false≢true (sym lacking.0 ∙ eq-eqb c byte (sym here)))
same_cut byte (b ∷ one) [] rest more lacks lacking same =
    let here : b ≡ byte = cc in
    absurd (false≢true (sym lacks.0 ∙ eq-eqb b byte here))
same_cut byte (b ∷ one) (c ∷ other) rest more lacks lacking same =
    let here : b ≡ c = cc in
    let behind : one ++ byte ∷ rest ≡ other ++ byte ∷ more = cc in
    let less = same_cut byte one other rest more lacks.1 lacking.1 behind in
    ((λ i. here i ∷ less.0 i), less.1)

-- what lacks a byte isn't cut there
pub uncut : (byte : ℕ) (text one rest : List ℕ) → Lacks byte text → text ≡ one ++ byte ∷ rest → ⊥
uncut byte [] [] rest lacks same = cc
uncut byte [] (c ∷ one) rest lacks same = cc
uncut byte (b ∷ text) [] rest lacks same =
    let here : b ≡ byte = cc in
    false≢true (sym lacks.0 ∙ eq-eqb b byte here)
uncut byte (b ∷ text) (c ∷ one) rest lacks same =
    let behind : text ≡ one ++ byte ∷ rest = cc in
    uncut byte text one rest lacks.1 behind

pub Lacks-append : (byte : ℕ) (one other : List ℕ) → Lacks byte one → Lacks byte other → Lacks byte (one ++ other)
Lacks-append byte [] other lacks lacking = lacking
Lacks-append byte (b ∷ one) other lacks lacking = (lacks.0, Lacks-append byte one other lacks.1 lacking)
