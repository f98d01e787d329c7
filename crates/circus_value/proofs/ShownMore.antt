-- The texts of lists that grow at their end.
use Rattle.std.proofs.Common.{◌≡◌, ℕ, ◌+◌, ◌<◌, List, [], ◌∷◌, ◌++◌, length, map, take, get_or, refl, sym, ap, ◌∙◌, append_assoc, append-nil}
use Rattle.std.proofs.lemmas.List.{take_more}
use Rattle.circus_value.specs.ValueTree.{value_trees}
use Rattle.circus_value.specs.ValueOf.{tree_of}
use Rattle.circus_value.specs.declared.value.Value.{Value}
use Rattle.std.specs.Fmt.{decimal}
use Rattle.circus_value.specs.Shown.{text_of_value, shown_byte, shown_bytes, shown_others}
use Rattle.circus_value.specs.ThreadText.{numbers_behind}

-- of two texts joined
pub shown_bytes-append : (xs ys : List ℕ) → shown_bytes (xs ++ ys) ≡ shown_bytes xs ++ shown_bytes ys
shown_bytes-append [] ys = refl
shown_bytes-append (x ∷ xs) ys = ap (λ bs. shown_byte x ++ bs) (shown_bytes-append xs ys) ∙ sym (append_assoc (shown_byte x) (shown_bytes xs) (shown_bytes ys))

-- of the front with one more byte
pub shown_bytes_more : (xs : List ℕ) (i d : ℕ) → i < length xs → shown_bytes (take (i + 1) xs) ≡ shown_bytes (take i xs) ++ shown_byte (get_or xs i d)
shown_bytes_more xs i d below = ap shown_bytes (take_more xs i d below) ∙ shown_bytes-append (take i xs) (get_or xs i d ∷ []) ∙ ap (λ bs. shown_bytes (take i xs) ++ bs) (append-nil (shown_byte (get_or xs i d)))

-- where a byte is added to a text, the front with it is
pub byte_added : (old text next bytes : List ℕ) (i d : ℕ) → i < length bytes → text ≡ old ++ shown_bytes (take i bytes) → next ≡ text ++ shown_byte (get_or bytes i d) → next ≡ old ++ shown_bytes (take (i + 1) bytes)
byte_added old text next bytes i d below so_far added =
    added ∙ ap (λ l. l ++ shown_byte (get_or bytes i d)) so_far ∙ append_assoc old (shown_bytes (take i bytes)) (shown_byte (get_or bytes i d))
    ∙ ap (λ l. old ++ l) (sym (shown_bytes_more bytes i d below))

-- values behind a comma and a space each
abbrev pub others_text : List Value → List ℕ
others_text vs = shown_others (value_trees (map tree_of vs))

-- of two lists of values joined
pub others_text-append : (xs ys : List Value) → others_text (xs ++ ys) ≡ others_text xs ++ others_text ys
others_text-append [] ys = refl
others_text-append (x ∷ xs) ys = ap (λ bs. 44 ∷ 32 ∷ (text_of_value (tree_of x) ++ bs)) (others_text-append xs ys) ∙ ap (λ bs. 44 ∷ 32 ∷ bs) (sym (append_assoc (text_of_value (tree_of x)) (others_text xs) (others_text ys)))

-- of the front with one more value
pub others_text_more : (xs : List Value) (i : ℕ) (d : Value) → i < length xs → others_text (take (i + 1) xs) ≡ others_text (take i xs) ++ (44 ∷ 32 ∷ text_of_value (tree_of (get_or xs i d)))
others_text_more xs i d below = ap others_text (take_more xs i d below) ∙ others_text-append (take i xs) (get_or xs i d ∷ []) ∙ ap (λ bs. others_text (take i xs) ++ (44 ∷ 32 ∷ bs)) (append-nil (text_of_value (tree_of (get_or xs i d))))

-- where a value is added behind a comma and a space, the front with it is
pub other_added : (old text next : List ℕ) (others : List Value) (i : ℕ) (v : Value) → i < length others → v ≡ get_or others i v → text ≡ old ++ others_text (take i others) → next ≡ text ++ (44 ∷ 32 ∷ text_of_value (tree_of v))
    → next ≡ old ++ others_text (take (i + 1) others)
other_added old text next others i v below is so_far added =
    added ∙ ap (λ l. l ++ (44 ∷ 32 ∷ text_of_value (tree_of v))) so_far ∙ append_assoc old (others_text (take i others)) (44 ∷ 32 ∷ text_of_value (tree_of v))
    ∙ ap (λ l. old ++ l) (ap (λ w. others_text (take i others) ++ (44 ∷ 32 ∷ text_of_value (tree_of w))) is ∙ sym (others_text_more others i v below))

-- of two lists of numbers joined
pub numbers_behind-append : (mark : ℕ) (xs ys : List ℕ) → numbers_behind mark (xs ++ ys) ≡ numbers_behind mark xs ++ numbers_behind mark ys
numbers_behind-append mark [] ys = refl
numbers_behind-append mark (x ∷ xs) ys = ap (λ bs. mark ∷ (decimal x ++ bs)) (numbers_behind-append mark xs ys) ∙ ap (λ bs. mark ∷ bs) (sym (append_assoc (decimal x) (numbers_behind mark xs) (numbers_behind mark ys)))

-- of the front with one more number
pub numbers_behind_more : (mark : ℕ) (xs : List ℕ) (i d : ℕ) → i < length xs → numbers_behind mark (take (i + 1) xs) ≡ numbers_behind mark (take i xs) ++ (mark ∷ decimal (get_or xs i d))
numbers_behind_more mark xs i d below = ap (numbers_behind mark) (take_more xs i d below) ∙ numbers_behind-append mark (take i xs) (get_or xs i d ∷ []) ∙ ap (λ bs. numbers_behind mark (take i xs) ++ (mark ∷ bs)) (append-nil (decimal (get_or xs i d)))
