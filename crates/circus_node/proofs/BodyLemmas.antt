-- Values that are read: which they are, and that they fit.
use Rattle.std.proofs.Common.{◌≡◌, ℕ, ◌-◌, ◌<◌, ◌≤◌, Bool, true, false, List, [], ◌∷◌, length, drop, Option, None, Some, Ok, refl, sym, ap, ◌∙◌, subst, arith, append-nil, length-drop}
use Rattle.std.specs.Prelude.{nat_eq, nat_le, nat_lt, is_some, IfSome, if◌then◌else◌}
use Rattle.std.specs.Bool.{then_some}
use Rattle.std.proofs.Common.{inl, inr}
use Rattle.std.proofs.lemmas.List.{drop_all}
use Rattle.std.proofs.lemmas.Bool.{le-leb, leb-true}
use Rattle.std.proofs.lemmas.Bool.Decides.{eqb_tells}
use Rattle.circus_value.specs.ValueTree.{value_trees}
use Rattle.circus_external.proofs.ShapesAlike.{and_both}
use Rattle.circus_external.proofs.Promises.{octets_rest, fields_read_are_spelled}
use Rattle.circus_external.proofs.Sizes.{size_of_spellings}
use Rattle.circus_value.specs.Parts.{AreOctets}
use Rattle.circus_value.specs.ValueTree.{ValueTree}
use Rattle.circus_value.specs.Fits.{all_fit}
use Rattle.circus_value.specs.ExternalSize.{size_of_values}
use Rattle.circus_value.specs.declared.shape.Shape.{Shape}
use Rattle.circus_external.specs.Answer.{Answer, found, short, not_a_value, bad_pad}
use Rattle.circus_external.specs.Reading.{fields_reading}
use Rattle.circus_external.specs.Spelling.{fields_admit, spelling_of_all}
use Rattle.circus_external.specs.Seen.Given.{Gives}
use Rattle.circus_transfer.specs.Snapshot.{fields_of, snapshot_fields, snapshot_values}
use Rattle.circus_transfer.specs.Seen.Ending.{EndsAt}
use Rattle.circus_transfer.proofs.Fields.{admits}
use Rattle.circus_node.specs.Bodies.{found_whole, values_at}
use Rattle.circus_node.specs.Seen.Can.{AreOf}

-- ---- what was found

whole_at : (values : List ValueTree) (end : ℕ) (bytes rest : List ℕ) → rest ≡ [] → found_whole (found values end rest) ≡ Some values
whole_at values end bytes rest e = rw e refl

more_at : (values : List ValueTree) (end : ℕ) (rest : List ℕ) → 0 < length rest → found_whole (found values end rest) ≡ None
more_at values end [] some = absurd (omega (arith, some))
more_at values end (b ∷ bs) some = refl

found_all : (bytes : List ℕ) (end : ℕ) (values : List ValueTree) (a : Answer (List ValueTree))
    → a ≡ found values end (drop end bytes) → length bytes ≤ end → found_whole a ≡ Some values
found_all bytes end values a is all = ap found_whole is ∙ whole_at values end bytes (drop end bytes) (drop_all end bytes all)

found_more : (bytes : List ℕ) (end : ℕ) (values : List ValueTree) (a : Answer (List ValueTree))
    → a ≡ found values end (drop end bytes) → end < length bytes → found_whole a ≡ None
found_more bytes end values a is less = ap found_whole is ∙ more_at values end (drop end bytes) (omega (arith, length-drop end bytes))

-- ---- values at a place

pub values_given : (shapes : List Shape) (most at end : ℕ) (bytes : List ℕ) (values : List ValueTree) (r : Option (List ValueTree))
    → length bytes - at ≤ most → Gives (λ vs. vs) bytes (Ok (values, end)) (fields_reading (fields_of shapes) at (drop at bytes))
    → r ≡ then_some (nat_eq end (length bytes)) values → r ≡ values_at shapes most at bytes
values_given shapes most at end bytes values r few gives is =
    let a : Answer (List ValueTree) = fields_reading (fields_of shapes) at (drop at bytes) in
    is ∙ by_end a gives ∙ ap (λ b. if b then found_whole a else None) (sym (le-leb (length bytes - at) most few))
  where
    by_end : (a : Answer (List ValueTree)) → Gives (λ vs. vs) bytes (Ok (values, end)) a → then_some (nat_eq end (length bytes)) values ≡ found_whole a
    by_end a gives =
        elim (eqb_tells end (length bytes)) [
          | inl same ↦ ap (λ b. then_some b values) same.0 ∙ sym (found_all bytes end values a gives.1 (omega (arith, same.1)))
          | inr other ↦
              let less : end < length bytes = omega (arith, gives.0, λ (e : end ≡ length bytes). other.1 e) in
              ap (λ b. then_some b values) other.0 ∙ sym (found_more bytes end values a gives.1 less)
        ]

-- what was found whole fits, and is no longer than the bytes
found_fit : (shapes : List Shape) (most at : ℕ) (bytes : List ℕ) (values : List ValueTree)
    → AreOctets bytes → length bytes - at ≤ most → found_whole (fields_reading (fields_of shapes) at (drop at bytes)) ≡ Some values → AreOf shapes most values
found_fit shapes most at bytes values octets few is = by_answer (fields_reading (fields_of shapes) at (drop at bytes)) refl is
  where
    by_answer : (a : Answer (List ValueTree)) → fields_reading (fields_of shapes) at (drop at bytes) ≡ a → found_whole a ≡ Some values → AreOf shapes most values
    by_answer (found vs next []) read e =
        let same : vs ≡ values = cc in
        let spelled = fields_read_are_spelled (fields_of shapes) at (drop at bytes) vs next [] (octets_rest bytes at octets) read in
        let long : length (drop at bytes) ≡ length (spelling_of_all vs) = ap length (spelled.1 ∙ append-nil (spelling_of_all vs)) in
        let size : length (spelling_of_all vs) ≡ size_of_values vs = size_of_spellings (value_trees vs) in
        let within : size_of_values vs ≤ most = omega (arith, long, size, few, length-drop at bytes) in
        subst (AreOf shapes most) same (record { fit = sym (admits shapes vs) ∙ spelled.0; within = within })
    by_answer (found vs next (b ∷ bs)) read e = absurd (let clash : ◌≡◌ {A = Option (List ValueTree)} None (Some values) = e in cc)
    by_answer (short place) read e = absurd (let clash : ◌≡◌ {A = Option (List ValueTree)} None (Some values) = e in cc)
    by_answer (not_a_value place) read e = absurd (let clash : ◌≡◌ {A = Option (List ValueTree)} None (Some values) = e in cc)
    by_answer (bad_pad place) read e = absurd (let clash : ◌≡◌ {A = Option (List ValueTree)} None (Some values) = e in cc)

-- what stands at a place fits
pub stands_fit : (shapes : List Shape) (most at : ℕ) (bytes : List ℕ) → AreOctets bytes → IfSome (values_at shapes most at bytes) (AreOf shapes most)
stands_fit shapes most at bytes octets = by_length (nat_le (length bytes - at) most) refl
  where
    whole : Option (List ValueTree)
    whole = found_whole (fields_reading (fields_of shapes) at (drop at bytes))

    by_values : (o : Option (List ValueTree)) → length bytes - at ≤ most → whole ≡ o → IfSome o (AreOf shapes most)
    by_values None few is = tt
    by_values (Some values) few is = found_fit shapes most at bytes values octets few is

    by_length : (b : Bool) → nat_le (length bytes - at) most ≡ b → IfSome (if b then whole else None) (AreOf shapes most)
    by_length true is = by_values whole (leb-true (length bytes - at) most is) refl
    by_length false is = tt

pub values_fit : (shapes : List Shape) (most at : ℕ) (bytes : List ℕ) (r : Option (List ValueTree))
    → AreOctets bytes → r ≡ values_at shapes most at bytes → IfSome r (AreOf shapes most)
values_fit shapes most at bytes r octets is = subst (λ o. IfSome o (AreOf shapes most)) (sym is) (stands_fit shapes most at bytes octets)

is_then_some : {A : Type 0} (b : Bool) (x : A) → b ≡ is_some (then_some b x)
is_then_some true x = refl
is_then_some false x = refl

-- whether values stand there, by the place behind them
pub end_given : (shapes : List Shape) (most at end : ℕ) (bytes : List ℕ) → length bytes - at ≤ most
    → EndsAt bytes (Ok end) (fields_reading (fields_of shapes) at (drop at bytes)) → nat_eq end (length bytes) ≡ is_some (values_at shapes most at bytes)
end_given shapes most at end bytes few gives =
    is_then_some (nat_eq end (length bytes)) gives.0 ∙ ap is_some (values_given shapes most at end bytes gives.0 _ few gives.1 refl)

-- ---- states

pub state_given : (variables : List Shape) (bytes : List ℕ) (state : List ValueTree) (count end : ℕ)
    → AreOctets bytes → fields_reading (snapshot_fields variables) 0 bytes ≡ found (snapshot_values count state) end [] → all_fit variables state ≡ true
state_given variables bytes state count end octets read =
    let spelled = fields_read_are_spelled (snapshot_fields variables) 0 bytes (snapshot_values count state) end [] octets read in
    sym (admits variables state) ∙ (and_both (nat_lt count 4294967296) (fields_admit (fields_of variables) state) spelled.0).1

pub if_then_some : {A : Type 0} (P : A → Type 0) (b : Bool) (x : A) (r : Option A) → r ≡ then_some b x → (b ≡ true → P x) → IfSome r P
if_then_some P true x r is gives = subst (λ o. IfSome o P) (sym is) (gives refl)
if_then_some P false x r is gives = subst (λ o. IfSome o P) (sym is) tt
