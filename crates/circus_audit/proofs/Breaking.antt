-- The lines of a text, one behind another.
use Rattle.std.specs.List.{position_or_len}
use Rattle.std.proofs.Common.{◌≡◌, ◌∙◌, ℕ, zero, suc, ◌+◌, ◌<◌, ◌≤◌, Bool, true, false, cond, not, nat_eq, nat_lt, ltb-false, Option, Some, None, option_map, List, [], ◌∷◌, length, get_or, take, drop, position, refl, ap, arith}
use Rattle.circus_audit.specs.Seen.Answers.{from_some}
use Rattle.circus_audit.specs.Seen.Breaking.{onto_line, all_lines}

onto_more : (b : ℕ) (line : List ℕ) (r : Option (List (List ℕ))) → from_some (option_map (λ ls. line ∷ ls) r) (onto_line b) ≡ option_map (λ ls. (b ∷ line) ∷ ls) r
onto_more b line (Some ls) = refl
onto_more b line None = refl

-- the first line ends at the first newline
pub first_line : (text : List ℕ) (i : ℕ) → i < length text → nat_eq (get_or text i 0) 10 ≡ true → ((k : ℕ) → k < i → nat_eq (get_or text k 0) 10 ≡ false) → all_lines text ≡ option_map (λ ls. take i text ∷ ls) (all_lines (drop (suc i) text))
first_line [] i within here before = absurd (omega (arith, within))
first_line (b ∷ text) zero within here before = ap (λ t. cond t (option_map (λ ls. [] ∷ ls) (all_lines text)) (from_some (all_lines text) (onto_line b))) here
first_line (b ∷ text) (suc i) within here before =
    let other : nat_eq b 10 ≡ false = before 0 (omega arith) in
    let later = first_line text i (omega (arith, within)) here (λ k less. before (suc k) (omega (arith, less))) in
    ap (λ t. cond t (option_map (λ ls. [] ∷ ls) (all_lines text)) (from_some (all_lines text) (onto_line b))) other
    ∙ ap (λ r. from_some r (onto_line b)) later
    ∙ onto_more b (take i text) (all_lines (drop (suc i) text))

-- a text without newlines has no lines, but it isn't empty
pub no_line : (text : List ℕ) → 0 < length text → ((k : ℕ) → k < length text → nat_eq (get_or text k 0) 10 ≡ false) → all_lines text ≡ None
no_line [] some none = absurd (omega (arith, some))
no_line (b ∷ []) some none = ap (λ t. cond t (option_map (λ ls. [] ∷ ls) (all_lines [])) (from_some (all_lines []) (onto_line b))) (none 0 (omega arith))
no_line (b ∷ c ∷ text) some none =
    let later = no_line (c ∷ text) (omega arith) (λ k less. none (suc k) (omega (arith, less))) in
    ap (λ t. cond t (option_map (λ ls. [] ∷ ls) (all_lines (c ∷ text))) (from_some (all_lines (c ∷ text)) (onto_line b))) (none 0 (omega arith))
    ∙ ap (λ r. from_some r (onto_line b)) later

far_off : (p : ℕ → Bool) (xs : List ℕ) → length xs ≤ position_or_len p xs → (k : ℕ) → k < length xs → p (get_or xs k 0) ≡ false
far_off p [] far k less = absurd (omega (arith, less))
far_off p (x ∷ xs) far k less = by_test (p x) refl (far_off p xs) far k less
  where
    by_test : (b : Bool) → p x ≡ b → (length xs ≤ position_or_len p xs → (n : ℕ) → n < length xs → p (get_or xs n 0) ≡ false) → length (x ∷ xs) ≤ cond (not b) (1 + position_or_len p xs) 0 → (n : ℕ) → n < length (x ∷ xs) → p (get_or (x ∷ xs) n 0) ≡ false
    by_test true is others beyond n within = absurd (omega (arith, beyond))
    by_test false is others beyond zero within = is
    by_test false is others beyond (suc n) within = others (omega (arith, beyond)) n (omega (arith, within))

-- no byte passes where no first one does
pub none_passes : (p : ℕ → Bool) (xs : List ℕ) → position p xs ≡ None → (k : ℕ) → k < length xs → p (get_or xs k 0) ≡ false
none_passes p xs is = by_order (nat_lt (position_or_len p xs) (length xs)) refl is
  where
    by_order : (b : Bool) → nat_lt (position_or_len p xs) (length xs) ≡ b → cond b (Some (position_or_len p xs)) None ≡ None → (k : ℕ) → k < length xs → p (get_or xs k 0) ≡ false
    by_order true order none = cc
    by_order false order none = far_off p xs (ltb-false (position_or_len p xs) (length xs) order)
