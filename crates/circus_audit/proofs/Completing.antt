-- The texts of what a record says are read.
use Rattle.std.specs.List.{AllByRecursion, prefix_len, list_all}
use Rattle.std.specs.Char.{is_ascii_alphanumeric}
use Rattle.std.specs.Fmt.{decimal}
use Rattle.std.proofs.Common.{◌≡◌, ◌≢◌, ◌∙◌, ℕ, suc, ◌+◌, ◌-◌, ◌<◌, ◌≤◌, ◌^◌, Bool, true, false, cond, ◌&&◌, ◌||◌, nat_eq, List, [], ◌∷◌, ◌++◌, length, take, drop, codes, Some, None, refl, sym, ap, subst, arith, append_assoc, eq-eqb, lt-ltb}
use Rattle.std.proofs.lemmas.Bool.{eqb-true, ne_eqb}
use Rattle.circus_value.specs.ThreadText.{clock_text}
use Rattle.circus_value_text.specs.Reading.{Read, and_then, behind_prefix, behind, read_meaning, number_read}
use Rattle.circus_value_text.specs.Stopping.{Stops}
use Rattle.circus_value_text.specs.WordReading.{counts_read}
use Rattle.circus_value_text.proofs.Marks.{passed_front}
use Rattle.circus_value_text.proofs.Numbers.{number_complete}
use Rattle.circus_value_text.proofs.WordsInverse.{clock_complete}
use Rattle.circus_audit.specs.Seen.Answers.{then_read, only_if}
use Rattle.circus_audit.specs.Seen.Names.{name_length, place_of, number_of_name, other, name_at}
use Rattle.circus_audit.specs.Seen.Lines.{long_behind, word_behind, name_behind, behind_this, step_read, step_behind, numbered_step, clock_behind}

-- the text ends, or goes on with a blank, an equals sign or a point
abbrev pub parts : List ℕ → Bool
parts [] = true
parts (b ∷ text) = (nat_eq b 32 || nat_eq b 61) || nat_eq b 46

-- the text ends, or goes on with a blank
abbrev pub blank : List ℕ → Bool
blank [] = true
blank (b ∷ text) = nat_eq b 32

pub by_parts : (P : List ℕ → Type 0) → P [] → ((text : List ℕ) → P (32 ∷ text)) → ((text : List ℕ) → P (61 ∷ text)) → ((text : List ℕ) → P (46 ∷ text)) → (text : List ℕ) → parts text ≡ true → P text
by_parts P end space equals point [] is = end
by_parts P end space equals point (b ∷ text) is = by_byte (nat_eq b 32) (nat_eq b 61) (nat_eq b 46) refl refl refl is
  where
    by_byte : (t u v : Bool) → nat_eq b 32 ≡ t → nat_eq b 61 ≡ u → nat_eq b 46 ≡ v → ((t || u) || v) ≡ true → P (b ∷ text)
    by_byte true u v first second third either = subst (λ c. P (c ∷ text)) (sym (eqb-true b 32 first)) (space text)
    by_byte false true v first second third either = subst (λ c. P (c ∷ text)) (sym (eqb-true b 61 second)) (equals text)
    by_byte false false true first second third either = subst (λ c. P (c ∷ text)) (sym (eqb-true b 46 third)) (point text)
    by_byte false false false first second third either = cc

pub stops : (text : List ℕ) → parts text ≡ true → Stops text
stops text is = by_parts Stops refl (λ t. refl) (λ t. refl) (λ t. refl) text is

abbrev NoLetter : List ℕ → Type 0
NoLetter text = prefix_len is_ascii_alphanumeric text ≡ 0

no_letter : (text : List ℕ) → parts text ≡ true → NoLetter text
no_letter text is = by_parts NoLetter refl (λ t. refl) (λ t. refl) (λ t. refl) text is

abbrev NoPoint : List ℕ → Type 0
NoPoint text = behind_prefix (codes ".") text ≡ None

pub no_point : (text : List ℕ) → blank text ≡ true → NoPoint text
no_point [] is = refl
no_point (b ∷ text) is = subst (λ c. NoPoint (c ∷ text)) (sym (eqb-true b 32 is)) refl

pub blank_parts : (text : List ℕ) → blank text ≡ true → parts text ≡ true
blank_parts [] is = refl
blank_parts (b ∷ text) is = ap (λ t. (t || nat_eq b 61) || nat_eq b 46) is

-- what the text of something is read as
abbrev pub Completes : {A : Type 0} → (List ℕ → Read A) → (A → List ℕ) → (A → Type 0) → Type 0
Completes {A} f t P = (a : A) (rest : List ℕ) → P a → parts rest ≡ true → f (t a ++ rest) ≡ Some (a, rest)

pub behind_complete : {A : Type 0} (mark : List ℕ) (f : List ℕ → Read A) (t : A → List ℕ) (P : A → Type 0) → Completes f t P → Completes (λ text. behind (behind_prefix mark text) f) (λ a. mark ++ t a) P
behind_complete mark f t P complete a rest holds ends =
    ap (λ text. behind (behind_prefix mark text) f) (append_assoc mark (t a) rest) ∙ ap (λ r. behind r f) (passed_front mark (t a ++ rest)) ∙ complete a rest holds ends

pub two_complete : {A B C : Type 0} (f : List ℕ → Read A) (t : A → List ℕ) (P : A → Type 0) (g : List ℕ → Read B) (u : B → List ℕ) (Q : B → Type 0) (make : A → B → C) → Completes f t P → Completes g u Q → (a : A) (b : B) (rest : List ℕ) → P a → Q b → parts (u b ++ rest) ≡ true → parts rest ≡ true → and_then (f ((t a ++ u b) ++ rest)) (λ x r. and_then (g r) (λ y l. Some (make x y, l))) ≡ Some (make a b, rest)
two_complete f t P g u Q make first second a b rest one two between ends =
    ap (λ text. and_then (f text) (λ x r. and_then (g r) (λ y l. Some (make x y, l)))) (append_assoc (t a) (u b) rest)
    ∙ ap (λ r. and_then r (λ x m. and_then (g m) (λ y l. Some (make x y, l)))) (first a (u b ++ rest) one between)
    ∙ ap (λ r. and_then r (λ y l. Some (make a y, l))) (second b rest two ends)

pub three_complete : {A B D C : Type 0} (f : List ℕ → Read A) (t : A → List ℕ) (P : A → Type 0) (g : List ℕ → Read B) (u : B → List ℕ) (Q : B → Type 0) (h : List ℕ → Read D) (v : D → List ℕ) (R : D → Type 0) (make : A → B → D → C) → Completes f t P → Completes g u Q → Completes h v R → (a : A) (b : B) (d : D) (rest : List ℕ) → P a → Q b → R d → parts ((u b ++ v d) ++ rest) ≡ true → parts (v d ++ rest) ≡ true → parts rest ≡ true → and_then (f ((t a ++ (u b ++ v d)) ++ rest)) (λ x r. and_then (g r) (λ y l. and_then (h l) (λ z m. Some (make x y z, m)))) ≡ Some (make a b d, rest)
three_complete f t P g u Q h v R make first second third a b d rest one two three between later ends =
    ap (λ text. and_then (f text) (λ x r. and_then (g r) (λ y l. and_then (h l) (λ z m. Some (make x y z, m))))) (append_assoc (t a) (u b ++ v d) rest)
    ∙ ap (λ r. and_then r (λ x n. and_then (g n) (λ y l. and_then (h l) (λ z m. Some (make x y z, m))))) (first a ((u b ++ v d) ++ rest) one between)
    ∙ two_complete g u Q h v R (make a) second third b d rest two three later ends

-- ---- numbers

number_completes : (greatest : ℕ) → greatest < 2 ^ 64 → Completes (number_read greatest) decimal (λ n. n ≤ greatest)
number_completes greatest short n rest few ends = number_complete greatest n rest few short (stops rest ends)

pub long_complete : (mark : List ℕ) → Completes (long_behind mark) (λ n. mark ++ decimal n) (λ n. n < 2 ^ 32)
long_complete mark = behind_complete mark (number_read 4294967295) decimal (λ n. n < 2 ^ 32) (λ n rest few ends. number_completes 4294967295 (omega arith) n rest (omega (arith, few)) ends)

pub word_complete : (mark : List ℕ) → Completes (word_behind mark) (λ n. mark ++ decimal n) (λ n. n < 2 ^ 16)
word_complete mark = behind_complete mark (number_read 65535) decimal (λ n. n < 2 ^ 16) (λ n rest few ends. number_completes 65535 (omega arith) n rest (omega (arith, few)) ends)

pub this_complete : (number : ℕ) (rest : List ℕ) → number < 2 ^ 32 → parts rest ≡ true → behind_this number (decimal number ++ rest) ≡ Some rest
this_complete number rest few ends =
    ap (λ r. then_read r (λ n later. only_if (nat_eq n number) (Some later))) (number_completes 4294967295 (omega arith) number rest (omega (arith, few)) ends)
    ∙ ap (λ b. only_if b (Some rest)) (eq-eqb number number refl)

step_complete : (events : ℕ) → events < 2 ^ 64 → Completes (step_read events) decimal (λ n. n < events)
step_complete events short n rest few ends =
    ap (λ b. cond b (number_read (events - 1) (decimal n ++ rest)) None) (lt-ltb 0 events (omega (arith, few)))
    ∙ number_completes (events - 1) (omega (arith, short)) n rest (omega (arith, few)) ends

pub step_behind_complete : (mark : List ℕ) (events : ℕ) → events < 2 ^ 64 → Completes (step_behind mark events) (λ n. mark ++ decimal n) (λ n. n < events)
step_behind_complete mark events short = behind_complete mark (step_read events) decimal (λ n. n < events) (step_complete events short)

pub numbered_complete : (number events : ℕ) → number < 2 ^ 32 → events < 2 ^ 64 → Completes (numbered_step number events) (λ n. decimal number ++ (codes " step " ++ decimal n)) (λ n. n < events)
numbered_complete number events few short n rest within ends =
    ap (numbered_step number events) (append_assoc (decimal number) (codes " step " ++ decimal n) rest)
    ∙ ap (λ r. behind r (step_behind (codes " step ") events)) (this_complete number ((codes " step " ++ decimal n) ++ rest) few refl)
    ∙ step_behind_complete (codes " step ") events short n rest within ends

pub clock_behind_complete : (modules : ℕ) → Completes (clock_behind modules) (λ clock. codes " clock " ++ clock_text clock) (λ clock. (length clock ≡ modules) × AllByRecursion (λ n. n < 2 ^ 32) clock)
clock_behind_complete modules = behind_complete (codes " clock ") (counts_read modules []) clock_text (λ clock. (length clock ≡ modules) × AllByRecursion (λ n. n < 2 ^ 32) clock) (λ clock rest is ends. ap (λ n. counts_read n [] (clock_text clock ++ rest)) (sym is.0) ∙ clock_complete clock rest is.1 (stops rest ends))

-- ---- names

-- names of letters and digits, each of which is found at its place
pub record AreNames (names : List (List ℕ)) : Type 0 where
  pub letters : (n : ℕ) → n < length names → list_all is_ascii_alphanumeric (name_at names n) ≡ true
  pub places : (n : ℕ) → n < length names → place_of names (name_at names n) ≡ Some n

both_of : (a b : Bool) → (a && b) ≡ true → (a ≡ true) × (b ≡ true)
both_of true b is = (refl, is)
both_of false b is = cc

letters_before : (name rest : List ℕ) → list_all is_ascii_alphanumeric name ≡ true → NoLetter rest → name_length (name ++ rest) ≡ length name
letters_before [] rest all none = none
letters_before (b ∷ name) rest all none =
    let both = both_of (is_ascii_alphanumeric b) (list_all is_ascii_alphanumeric name) all in
    let others = letters_before name rest both.1 none in
    let longer : 1 + prefix_len is_ascii_alphanumeric (name ++ rest) ≡ suc (length name) = omega (arith, others) in
    ap (λ is. cond is (1 + prefix_len is_ascii_alphanumeric (name ++ rest)) 0) both.0 ∙ longer

drop_exactly : (xs ys : List ℕ) → drop (length xs) (xs ++ ys) ≡ ys
drop_exactly [] ys = refl
drop_exactly (x ∷ xs) ys = drop_exactly xs ys

take_exactly : (xs ys : List ℕ) → take (length xs) (xs ++ ys) ≡ xs
take_exactly [] ys = refl
take_exactly (x ∷ xs) ys = ap (λ zs. x ∷ zs) (take_exactly xs ys)

pub named_complete : (names : List (List ℕ)) → AreNames names → Completes (number_of_name names) (name_at names) (λ n. n < length names)
named_complete names are n rest within ends =
    let name = name_at names n in
    let len = letters_before name rest (are.letters n within) (no_letter rest ends) in
    ap (λ k. read_meaning (place_of names (take k (name ++ rest))) (drop k (name ++ rest))) len
    ∙ (λ i. read_meaning (place_of names (take_exactly name rest i)) (drop_exactly name rest i))
    ∙ ap (λ o. read_meaning o rest) (are.places n within)

pub name_behind_complete : (mark : List ℕ) (names : List (List ℕ)) → AreNames names → Completes (name_behind mark names) (λ n. mark ++ name_at names n) (λ n. n < length names)
name_behind_complete mark names are = behind_complete mark (number_of_name names) (name_at names) (λ n. n < length names) (named_complete names are)

pub other_complete : (nodes : List (List ℕ)) (own : ℕ) → AreNames nodes → Completes (λ text. other own (number_of_name nodes text)) (name_at nodes) (λ n. (n < length nodes) × (n ≢ own))
other_complete nodes own are n rest holds ends =
    ap (other own) (named_complete nodes are n rest holds.0 ends) ∙ ap (λ b. cond {A = Read ℕ} b None (Some (n, rest))) (ne_eqb n own holds.1)
