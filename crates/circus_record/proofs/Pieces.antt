-- Texts to which pieces are added in turn.
use Rattle.std.proofs.Common.{◌≡◌, ◌∙◌, ◌++◌, ℕ, cond, List, Result, Ok, Err, OnOk, is_ok, ap, append_assoc, sym}

-- three pieces of two parts each, and what ends a line
pub three_and_end : {T E : Type 0} (r : Result T E) (old a b c d e f end one two three text : List ℕ) → one ≡ old ++ (a ++ b) → two ≡ one ++ (c ++ d) → three ≡ two ++ (e ++ f) → text ≡ cond (is_ok r) (three ++ end) three
    → OnOk r (text ≡ old ++ ((((((a ++ b) ++ c) ++ d) ++ e) ++ f) ++ end))
three_and_end (Ok x) old a b c d e f end one two three text first second third last =
    let head = second ∙ ap (λ l. l ++ (c ++ d)) first ∙ append_assoc old (a ++ b) (c ++ d) ∙ ap (λ l. old ++ l) (sym (append_assoc (a ++ b) c d)) in
    let whole = third ∙ ap (λ l. l ++ (e ++ f)) head ∙ append_assoc old (((a ++ b) ++ c) ++ d) (e ++ f) ∙ ap (λ l. old ++ l) (sym (append_assoc (((a ++ b) ++ c) ++ d) e f)) in
    last ∙ ap (λ l. l ++ end) whole ∙ append_assoc old (((((a ++ b) ++ c) ++ d) ++ e) ++ f) end
three_and_end (Err x) old a b c d e f end one two three text first second third last = tt
