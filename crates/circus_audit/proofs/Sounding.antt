-- What is read is the text of what was read.
use Rattle.std.proofs.Common.{◌≡◌, ◌∙◌, ℕ, ◌-◌, ◌<◌, ◌^◌, Bool, true, false, cond, nat_eq, nat_lt, List, [], ◌∷◌, ◌++◌, length, codes, Some, None, refl, sym, ap, arith, append_assoc}
use Rattle.std.specs.List.{AllByRecursion}
use Rattle.std.specs.Fmt.{decimal}
use Rattle.std.proofs.lemmas.Bool.{eqb-true, ltb-true}
use Rattle.circus_value.specs.ThreadText.{clock_text}
use Rattle.circus_value_text.specs.Reading.{Read, behind_prefix, behind, number_read}
use Rattle.circus_value_text.specs.WordReading.{counts_read}
use Rattle.circus_value_text.proofs.Marks.{passed_stands, behind_some}
use Rattle.circus_value_text.proofs.Numbers.{number_sound}
use Rattle.circus_value_text.proofs.WordsInverse.{clock_sound}
use Rattle.circus_audit.specs.Seen.Answers.{then_read, whole, only_if}
use Rattle.circus_audit.specs.Seen.Lines.{long_behind, word_behind, behind_this, step_read, step_behind, numbered_step, clock_behind}

abbrev pub Sounds : {A : Type 0} → (List ℕ → Read A) → (A → List ℕ) → (A → Type 0) → Type 0
Sounds {A} f t P = (text : List ℕ) (a : A) (rest : List ℕ) → f text ≡ Some (a, rest) → (text ≡ t a ++ rest) × P a

-- behind a mark
pub behind_sound : {A : Type 0} (mark : List ℕ) (f : List ℕ → Read A) (t : A → List ℕ) (P : A → Type 0) → Sounds f t P → Sounds (λ text. behind (behind_prefix mark text) f) (λ a. mark ++ t a) P
behind_sound mark f t P sound text a rest is =
    let opened = behind_some (behind_prefix mark text) f (a, rest) is in
    let inner = sound opened.0 a rest opened.2 in
    (passed_stands mark text opened.0 opened.1 ∙ ap (λ x. mark ++ x) inner.0 ∙ sym (append_assoc mark (t a) rest), inner.1)

-- a whole line
pub whole_some : {A : Type 0} (r : Read A) (a : A) → whole r ≡ Some a → (rest : List ℕ) × (r ≡ Some (a, rest)) × (rest ≡ [])
whole_some (Some (b, [])) a is = let same : b ≡ a = cc in ([], (λ i. Some (same i, [])), refl)
whole_some (Some (b, c ∷ rest)) a is = cc
whole_some None a is = cc

-- ---- numbers

pub long_sound : (mark : List ℕ) → Sounds (long_behind mark) (λ n. mark ++ decimal n) (λ n. n < 2 ^ 32)
long_sound mark = behind_sound mark (number_read 4294967295) decimal (λ n. n < 2 ^ 32) (λ text n rest is. let s = number_sound 4294967295 n text rest (omega arith) is in (s.0, omega (arith, s.1)))

pub word_sound : (mark : List ℕ) → Sounds (word_behind mark) (λ n. mark ++ decimal n) (λ n. n < 2 ^ 16)
word_sound mark = behind_sound mark (number_read 65535) decimal (λ n. n < 2 ^ 16) (λ text n rest is. let s = number_sound 65535 n text rest (omega arith) is in (s.0, omega (arith, s.1)))

pub this_sound : (number : ℕ) (text rest : List ℕ) → behind_this number text ≡ Some rest → text ≡ decimal number ++ rest
this_sound number text rest is = by_read (number_read 4294967295 text) refl is
  where
    by_test : (n : ℕ) (later : List ℕ) (same : Bool) → nat_eq n number ≡ same → number_read 4294967295 text ≡ Some (n, later) → only_if same (Some later) ≡ Some rest → text ≡ decimal number ++ rest
    by_test n later true same read is =
        let s = number_sound 4294967295 n text later (omega arith) read in
        let e = eqb-true n number same in
        let l : later ≡ rest = cc in
        s.0 ∙ (λ i. decimal (e i) ++ l i)
    by_test n later false same read is = cc

    by_read : (r : Read ℕ) → number_read 4294967295 text ≡ r → then_read r (λ n later. only_if (nat_eq n number) (Some later)) ≡ Some rest → text ≡ decimal number ++ rest
    by_read (Some (n, later)) read is = by_test n later (nat_eq n number) refl read is
    by_read None read is = cc

pub step_sound : (events : ℕ) → events < 2 ^ 64 → Sounds (step_read events) decimal (λ n. n < events)
step_sound events short text n rest is = by_some (nat_lt 0 events) refl is
  where
    by_some : (b : Bool) → nat_lt 0 events ≡ b → cond b (number_read (events - 1) text) None ≡ Some (n, rest) → (text ≡ decimal n ++ rest) × (n < events)
    by_some true some read =
        let few = ltb-true 0 events some in
        let s = number_sound (events - 1) n text rest (omega (arith, short)) read in
        (s.0, omega (arith, s.1, few))
    by_some false some read = cc

pub step_behind_sound : (mark : List ℕ) (events : ℕ) → events < 2 ^ 64 → Sounds (step_behind mark events) (λ n. mark ++ decimal n) (λ n. n < events)
step_behind_sound mark events short = behind_sound mark (step_read events) decimal (λ n. n < events) (step_sound events short)

pub numbered_sound : (number events : ℕ) → events < 2 ^ 64 → Sounds (numbered_step number events) (λ n. decimal number ++ (codes " step " ++ decimal n)) (λ n. n < events)
numbered_sound number events short text n rest is =
    let opened = behind_some (behind_this number text) (step_behind (codes " step ") events) (n, rest) is in
    let inner = step_behind_sound (codes " step ") events short opened.0 n rest opened.2 in
    (this_sound number text opened.0 opened.1 ∙ ap (λ x. decimal number ++ x) inner.0 ∙ sym (append_assoc (decimal number) (codes " step " ++ decimal n) rest), inner.1)

pub clock_behind_sound : (modules : ℕ) → Sounds (clock_behind modules) (λ clock. codes " clock " ++ clock_text clock) (λ clock. (length clock ≡ modules) × AllByRecursion (λ n. n < 2 ^ 32) clock)
clock_behind_sound modules =
    behind_sound (codes " clock ") (counts_read modules []) clock_text (λ clock. (length clock ≡ modules) × AllByRecursion (λ n. n < 2 ^ 32) clock) (λ text clock rest is. let s = clock_sound modules text clock rest is in (s.0, (s.1, s.2)))
