-- What was appended piece by piece.
use Rattle.std.proofs.Common.{◌≡◌, ℕ, ◌+◌, ◌<◌, List, [], ◌∷◌, ◌++◌, length, drop, get_or, ap, ◌∙◌, append_assoc, add-one, drop-cons, sym}

pub appended_twice : (t u v a b : List ℕ) → u ≡ t ++ a → v ≡ u ++ b → v ≡ t ++ (a ++ b)
appended_twice t u v a b e f = f ∙ ap (λ l. l ++ b) e ∙ append_assoc t a b

pub appended_thrice : (t u v w a b c : List ℕ) → u ≡ t ++ a → v ≡ u ++ b → w ≡ v ++ c → w ≡ t ++ ((a ++ b) ++ c)
appended_thrice t u v w a b c e f g = appended_twice t v w (a ++ b) c (appended_twice t u v a b e f) g

-- one item more of a text that is made of its items' texts, each with its number
pub numbered_more : {A : Type 0} (all : ℕ → List A → List ℕ) (one : ℕ → A → List ℕ) (law : (n : ℕ) (x : A) (xs : List A) → all n (x ∷ xs) ≡ one n x ++ all (n + 1) xs) (text next whole : List ℕ) (n i : ℕ) (xs : List A) (x : A) → i < length xs → x ≡ get_or xs i x → text ++ all n (drop i xs) ≡ whole → next ≡ text ++ one n x → next ++ all (n + 1) (drop (i + 1) xs) ≡ whole
numbered_more all one law text next whole n i xs x within is so_far more =
    let split : drop i xs ≡ get_or xs i x ∷ drop (i + 1) xs = rw add-one (drop-cons xs i x within) in
    let here : drop i xs ≡ x ∷ drop (i + 1) xs = split ∙ ap (λ y. y ∷ drop (i + 1) xs) (sym is) in
    ap (λ l. l ++ all (n + 1) (drop (i + 1) xs)) more
    ∙ append_assoc text (one n x) (all (n + 1) (drop (i + 1) xs))
    ∙ ap (λ l. text ++ l) (sym (law n x (drop (i + 1) xs)))
    ∙ ap (λ l. text ++ all n l) (sym here)
    ∙ so_far

-- three pieces of a text that began with nothing
pub written_thrice : (t u v w a b c : List ℕ) → t ≡ [] → u ≡ t ++ a → v ≡ u ++ b → w ≡ v ++ c → w ≡ (a ++ b) ++ c
written_thrice t u v w a b c n e f g = appended_thrice t u v w a b c e f g ∙ ap (λ l. l ++ ((a ++ b) ++ c)) n
