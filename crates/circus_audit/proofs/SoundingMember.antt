-- The lines of a member that are read are those of what was read.
use Rattle.std.proofs.Common.{◌≡◌, ◌∙◌, ℕ, ◌<◌, ◌^◌, List, [], ◌++◌, length, take, drop, get_or, codes, Option, Some, None, sym, ap, subst, append_assoc, take-append-drop}
use Rattle.std.specs.List.{AllByRecursion}
use Rattle.std.specs.Str.{bytes_eq}
use Rattle.std.specs.Fmt.{decimal}
use Rattle.std.proofs.lemmas.Option.{unwrap_or-slice_get}
use Rattle.std.proofs.lemmas.List.Quantifiers.{position-Some}
use Rattle.std.proofs.lemmas.Slice.Eq.{bytes_eq-Decides}
use Rattle.circus_value.specs.ThreadText.{clock_text}
use Rattle.circus_value_text.specs.Reading.{Read, and_then, read_meaning}
use Rattle.circus_value_text.proofs.Marks.{pair_is, and_then_some}
use Rattle.circus_audit.specs.declared.member_line.Phase.{Phase}
use Rattle.circus_audit.specs.declared.member_line.Phase.TheVariants.{Apart, Active}
use Rattle.circus_audit.specs.declared.member_line.After.{After}
use Rattle.circus_audit.specs.Seen.Lines.{long_behind, numbered_step, step_behind, clock_behind, active_read, after_read}
use Rattle.circus_audit.specs.Seen.Names.{name_length, place_of, number_of_name, name_at}
use Rattle.circus_audit.proofs.Sounding.{Sounds, long_sound, step_behind_sound, numbered_sound, clock_behind_sound}

-- what is read of two texts, one behind the other
pub two_sound : {A B C : Type 0} (f : List ℕ → Read A) (t : A → List ℕ) (P : A → Type 0) (g : List ℕ → Read B) (u : B → List ℕ) (Q : B → Type 0) (make : A → B → C) → Sounds f t P → Sounds g u Q → (text : List ℕ) (c : C) (rest : List ℕ) → and_then (f text) (λ a r. and_then (g r) (λ b l. Some (make a b, l))) ≡ Some (c, rest) → (a : A) × (b : B) × (c ≡ make a b) × (text ≡ (t a ++ u b) ++ rest) × P a × Q b
two_sound f t P g u Q make first second text c rest is =
    let x = and_then_some (f text) (λ a r. and_then (g r) (λ b l. Some (make a b, l))) (c, rest) is in
    let y = and_then_some (g x.0.1) (λ b l. Some (make x.0.0 b, l)) (c, rest) x.2 in
    let parts = pair_is (make x.0.0 y.0.0) c y.0.1 rest y.2 in
    let one = first text x.0.0 x.0.1 x.1 in
    let two = second x.0.1 y.0.0 y.0.1 y.1 in
    let stands = one.0 ∙ ap (λ w. t x.0.0 ++ w) two.0 ∙ sym (append_assoc (t x.0.0) (u y.0.0) y.0.1) ∙ ap (λ w. (t x.0.0 ++ u y.0.0) ++ w) parts.1 in
    (x.0.0, y.0.0, sym parts.0, stands, one.1, two.1)

-- of three
pub three_sound : {A B D C : Type 0} (f : List ℕ → Read A) (t : A → List ℕ) (P : A → Type 0) (g : List ℕ → Read B) (u : B → List ℕ) (Q : B → Type 0) (h : List ℕ → Read D) (v : D → List ℕ) (R : D → Type 0) (make : A → B → D → C) → Sounds f t P → Sounds g u Q → Sounds h v R → (text : List ℕ) (c : C) (rest : List ℕ) → and_then (f text) (λ a r. and_then (g r) (λ b l. and_then (h l) (λ d m. Some (make a b d, m)))) ≡ Some (c, rest) → (a : A) × (b : B) × (d : D) × (c ≡ make a b d) × (text ≡ (t a ++ (u b ++ v d)) ++ rest) × P a × Q b × R d
three_sound f t P g u Q h v R make first second third text c rest is =
    let x = and_then_some (f text) (λ a r. and_then (g r) (λ b l. and_then (h l) (λ d m. Some (make a b d, m)))) (c, rest) is in
    let y = two_sound g u Q h v R (make x.0.0) second third x.0.1 c rest x.2 in
    let one = first text x.0.0 x.0.1 x.1 in
    let stands = one.0 ∙ ap (λ w. t x.0.0 ++ w) y.3 ∙ sym (append_assoc (t x.0.0) (u y.0 ++ v y.1) rest) in
    (x.0.0, y.0, y.1, y.2, stands, one.1, y.4, y.5)

-- ---- phases

abbrev pub active_text : Phase → List ℕ
active_text (Apart joiner) = []
active_text (Active from since count) = (codes "from " ++ decimal from) ++ ((codes " at " ++ decimal since) ++ (codes " count " ++ decimal count))

abbrev pub IsActivePhase : ℕ → Phase → Type 0
IsActivePhase events (Apart joiner) = ⊥
IsActivePhase events (Active from since count) = (from < 2 ^ 32) × (since < events) × (count < 2 ^ 32)

pub active_sound : (events : ℕ) → events < 2 ^ 64 → Sounds (active_read events) active_text (IsActivePhase events)
active_sound events short text phase rest is =
    let s = three_sound (long_behind (codes "from ")) (λ n. codes "from " ++ decimal n) (λ n. n < 2 ^ 32) (step_behind (codes " at ") events) (λ n. codes " at " ++ decimal n) (λ n. n < events) (long_behind (codes " count ")) (λ n. codes " count " ++ decimal n) (λ n. n < 2 ^ 32) (λ from since count. Active from since count) (long_sound (codes "from ")) (step_behind_sound (codes " at ") events short) (long_sound (codes " count ")) text phase rest is in
    (s.4 ∙ ap (λ p. active_text p ++ rest) (sym s.3), subst (IsActivePhase events) (sym s.3) (s.5, s.6, s.7))

-- ---- replies and ends

pub after_sound : (modules events number : ℕ) → events < 2 ^ 64 → Sounds (after_read modules events number) (λ a. (decimal number ++ (codes " step " ++ decimal a.step)) ++ (codes " clock " ++ clock_text a.clock)) (λ a. (a.step < events) × (length a.clock ≡ modules) × AllByRecursion (λ n. n < 2 ^ 32) a.clock)
after_sound modules events number short text a rest is =
    let s = two_sound (numbered_step number events) (λ n. decimal number ++ (codes " step " ++ decimal n)) (λ n. n < events) (clock_behind modules) (λ clock. codes " clock " ++ clock_text clock) (λ clock. (length clock ≡ modules) × AllByRecursion (λ n. n < 2 ^ 32) clock) (λ step clock. record { step = step; clock = clock }) (numbered_sound number events short) (clock_behind_sound modules) text a rest is in
    (s.3 ∙ ap (λ (x : After). ((decimal number ++ (codes " step " ++ decimal x.step)) ++ (codes " clock " ++ clock_text x.clock)) ++ rest) (sym s.2), subst (λ (x : After). (x.step < events) × (length x.clock ≡ modules) × AllByRecursion (λ n. n < 2 ^ 32) x.clock) (sym s.2) (s.4, s.5.0, s.5.1))

-- ---- names

place_is : (names : List (List ℕ)) (name : List ℕ) (n : ℕ) → place_of names name ≡ Some n → (n < length names) × (name_at names n ≡ name)
place_is names name n is =
    let at = position-Some (λ each. bytes_eq each name) names n [] is in
    let same : get_or names n [] ≡ name = (bytes_eq-Decides (get_or names n []) name).0 at.1 in
    (at.0, unwrap_or-slice_get names n [] ∙ same)

meant_some : {A : Type 0} (r : Option A) (later : List ℕ) (a : A) (rest : List ℕ) → read_meaning r later ≡ Some (a, rest) → (r ≡ Some a) × (later ≡ rest)
meant_some (Some b) later a rest is = let parts = pair_is b a later rest is in ((λ i. Some (parts.0 i)), parts.1)
meant_some None later a rest is = cc

pub named_sound : (names : List (List ℕ)) → Sounds (number_of_name names) (name_at names) (λ n. n < length names)
named_sound names text n rest is =
    let k = name_length text in
    let parts = meant_some (place_of names (take k text)) (drop k text) n rest is in
    let at = place_is names (take k text) n parts.0 in
    (sym (take-append-drop k text) ∙ (λ i. sym at.1 i ++ parts.1 i), at.0)
