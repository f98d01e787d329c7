-- Lists with commas, item by item.
use Rattle.std.proofs.Common.{◌≡◌, ◌<◌, Bool, true, false, List, [], ◌∷◌, ◌++◌, length, sym, ◌∙◌, ap, subst, append_assoc, append-nil}
use Rattle.circus_syntax.specs.Placed.{Placed, Due}
use Rattle.circus_syntax.specs.Reader.{Reader, sees, repeat_while}
use Rattle.circus_syntax.specs.Reading.{expect_token, behind, comma_list}
use Rattle.circus_syntax.proofs.Sound.{Sound, both_is}
use Rattle.circus_syntax.proofs.Repeats.{Shrinks, repeated_sees, repeated_none}
use Rattle.circus_syntax.proofs.Tokens.{comma_sign, is_comma, shrinks_behind}

-- items that were read, and those that the reader goes on with
abbrev pub goes_on : {A : Type 0} → (Placed → Bool) → (Reader → A × Reader) → List A → Reader → List A × Reader
goes_on test item done r = (done ++ (repeat_while test item r).0, (repeat_while test item r).1)

pub goes_end : {A : Type 0} (test : Placed → Bool) (item : Reader → A × Reader) (done : List A) (r : Reader) → sees test r ≡ false → goes_on test item done r ≡ (done, r)
goes_end test item done r missed = ap (λ x. (done ++ x.0, x.1)) (repeated_none test item r missed) ∙ ap (λ l. (l, r)) (append-nil done)

pub goes_step : {A : Type 0} (test : Placed → Bool) (item : Reader → A × Reader) → Shrinks test item → (done : List A) (r s : Reader) (x : A) → sees test r ≡ true → item r ≡ (x, s)
    → goes_on test item done r ≡ goes_on test item (done ++ x ∷ []) s
goes_step test item shrinks done r s x hit is =
    ap (λ y. (done ++ y.0, y.1)) (repeated_sees test item shrinks r hit)
    ∙ ap (λ y. (done ++ y.0 ∷ (repeat_while test item y.1).0, (repeat_while test item y.1).1)) is
    ∙ ap (λ l. (l, (repeat_while test item s).1)) (sym (append_assoc done (x ∷ []) (repeat_while test item s).0))

pub shorter : {A : Type 0} (test : Placed → Bool) (item : Reader → A × Reader) → Shrinks test item → (r s : Reader) (x : A) → sees test r ≡ true → item r ≡ (x, s) → length s.rest < length r.rest
shorter {A} test item shrinks r s x hit is = subst (λ (y : A × Reader). length y.1.rest < length r.rest) is (shrinks r hit)

pub behind_is : {A : Type 0} (item : Reader → A × Reader) (r s t : Reader) (x : A) → expect_token comma_sign r ≡ (tt, s) → item s ≡ (x, t) → behind comma_sign item r ≡ (x, t)
behind_is item r s t x comma_is is = ap (λ y. (y.0.1, y.1)) (both_is (expect_token comma_sign) item r s t tt x comma_is is)

pub listed_is : {A : Type 0} (item : Reader → A × Reader) (r s : Reader) (x : A) → item r ≡ (x, s) → comma_list item r ≡ goes_on is_comma (behind comma_sign item) (x ∷ []) s
listed_is item r s x is = ap (λ y. (y.0 ∷ (repeat_while is_comma (behind comma_sign item) y.1).0, (repeat_while is_comma (behind comma_sign item) y.1).1)) is

-- a further item behind a comma
pub comma_step : {A : Type 0} {item : Reader → A × Reader} {spell : A → List Due} {Good : A → Type 0} → Sound item spell Good → (all : List A × Reader) (done more : List A) (r s t : Reader) (x : A) (b : Bool)
    → all ≡ goes_on is_comma (behind comma_sign item) done r → b ≡ sees is_comma r → b ≡ true → expect_token comma_sign r ≡ (tt, s) → item s ≡ (x, t) → more ≡ done ++ x ∷ []
    → all ≡ goes_on is_comma (behind comma_sign item) more t
comma_step {item = item} P all done more r s t x b so_far seen hit comma_is is more_is =
    so_far ∙ goes_step is_comma (behind comma_sign item) (shrinks_behind comma_sign P) done r t x (sym seen ∙ hit) (behind_is item r s t x comma_is is)
    ∙ ap (λ l. goes_on is_comma (behind comma_sign item) l t) (sym more_is)

pub comma_shorter : {A : Type 0} {item : Reader → A × Reader} {spell : A → List Due} {Good : A → Type 0} → Sound item spell Good → (r s t : Reader) (x : A) (b : Bool)
    → b ≡ sees is_comma r → b ≡ true → expect_token comma_sign r ≡ (tt, s) → item s ≡ (x, t) → length t.rest < length r.rest
comma_shorter {item = item} P r s t x b seen hit comma_is is =
    shorter is_comma (behind comma_sign item) (shrinks_behind comma_sign P) r t x (sym seen ∙ hit) (behind_is item r s t x comma_is is)

-- a list of one item
pub first_item : {A : Type 0} (old new : List A) (x : A) → old ≡ [] → new ≡ old ++ x ∷ [] → x ∷ [] ≡ new
first_item old new x none is = sym (is ∙ ap (λ l. l ++ x ∷ []) none)
