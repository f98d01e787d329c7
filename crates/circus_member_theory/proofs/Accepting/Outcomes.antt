-- Outcomes and states that are read where they were spelled.
use Rattle.std.proofs.Common.{◌≡◌, ℕ, ◌+◌, ◌-◌, ◌<◌, ◌≤◌, Bool, true, false, ◌||◌, List, [], ◌∷◌, ◌++◌, length, drop, Option, None, Some, refl, sym, ap, ◌∙◌, arith}
use Rattle.std.specs.Prelude.{nat_le, ◌==◌, find, option_map, option_and_then, if◌then◌else◌}
use Rattle.std.specs.Option.{option_map_or}
use Rattle.std.proofs.lemmas.Bool.{eqb-true, leb-true}
use Rattle.std.proofs.lemmas.List.{drop-drop}
use Rattle.std.proofs.lemmas.Nat.{from_be_bytes-to_be_bytes_2}
use Rattle.circus_value.specs.ValueTree.{ValueTree}
use Rattle.circus_value.specs.Fits.{all_fit}
use Rattle.circus_value.specs.declared.shape.Shape.{Shape}
use Rattle.circus_value.specs.declared.outcome.Outcome.{Outcome}
use Rattle.circus_value.specs.declared.outcome.Outcome.TheVariants.{Returned, Raised}
use Rattle.circus_external.proofs.ShapesAlike.{and_both}
use Rattle.circus_external.specs.Octets.{word, first_word}
use Rattle.circus_external.specs.Spelling.{spelling_of_all}
use Rattle.circus_external.specs.Reading.{fields_reading}
use Rattle.circus_external.specs.Refusal.{are_proper}
use Rattle.circus_transfer.specs.Snapshot.{fields_of}
use Rattle.circus_model.proofs.Lookups.{found as found_by}
use Rattle.circus_model.specs.LanguageError.{number_of, is_language_error}
use Rattle.circus_model.specs.Lawful.{outcome_fits, is_raised_by_language}
use Rattle.circus_model.specs.declared.language_error.LanguageError.TheVariants.{Range, Unhandled}
use Rattle.circus_model.specs.declared.signature.ProcedureShape.{ProcedureShape}
use Rattle.circus_model.specs.declared.signature.ErrorShape.{ErrorShape}
use Rattle.circus_member_rules.specs.Messages.{outcome_spelling}
use Rattle.circus_node.specs.Bodies.{found_whole, values_at, raised_shapes, raised_values, outcome_by, outcome_at}
use Rattle.circus_member_theory.proofs.Accepting.Arguments.{values_read}
use Rattle.circus_member_rules.specs.Proper.{IsProperProcedure}

-- ---- values

-- where values that fit stand, no others are found
pub values_are : (shapes : List Shape) (most at : ℕ) (bytes : List ℕ) (values vs : List ValueTree) → are_proper (fields_of shapes) ≡ true → all_fit shapes values ≡ true
    → drop at bytes ≡ spelling_of_all values → values_at shapes most at bytes ≡ Some vs → vs ≡ values
values_are shapes most at bytes values vs proper fit here is = by_test (nat_le (length bytes - at) most) is
  where
    whole : found_whole (fields_reading (fields_of shapes) at (drop at bytes)) ≡ Some values
    whole = ap found_whole (ap (fields_reading (fields_of shapes) at) here ∙ values_read shapes values at proper fit)

    by_test : (few : Bool) → (if few then found_whole (fields_reading (fields_of shapes) at (drop at bytes)) else None) ≡ Some vs → vs ≡ values
    by_test true e = let same : Some vs ≡ Some values = sym e ∙ whole in cc
    by_test false e = cc

-- ---- errors

-- an error that a procedure raises has shapes, which its values fit
pub record IsRaised (p : ProcedureShape) (error : ℕ) (values : List ValueTree) : Type 0 where
  pub room : error < 65536
  pub shapes : List Shape
  pub are : raised_shapes p error ≡ Some shapes
  pub proper : are_proper (fields_of shapes) ≡ true
  pub fit : all_fit shapes values ≡ true

-- an error of the language has no values
record IsOfLanguage (error : ℕ) (values : List ValueTree) : Type 0 where
  is : is_language_error error ≡ true
  least : number_of Range ≤ error
  room : error < 65536
  none : values ≡ []

of_language : (error : ℕ) (values : List ValueTree) → is_raised_by_language error values ≡ true → IsOfLanguage error values
of_language error [] is =
    let both = and_both (nat_le (number_of Range) error) (nat_le error (number_of Unhandled)) is in
    let high : error ≤ number_of Unhandled = leb-true error (number_of Unhandled) both.1 in
    record { is = is; least = leb-true (number_of Range) error both.0; room = omega (arith, high); none = refl }
of_language error (v ∷ values) is = cc

pub raised : (p : ProcedureShape) (error : ℕ) (values : List ValueTree) → IsProperProcedure p → outcome_fits p (Raised error values) ≡ true → IsRaised p error values
raised p error values proper fit = by_error (find (λ (e : ErrorShape). e.number == error) p.errors) refl fit
  where
    by_fit : (e : ErrorShape) → find (λ (x : ErrorShape). x.number == error) p.errors ≡ Some e → (b : Bool) → all_fit e.arguments values ≡ b
        → (b || is_raised_by_language error values) ≡ true → IsRaised p error values
    by_fit e is true fits either =
        let there = found_by (λ (x : ErrorShape). x.number == error) p.errors e is in
        record {
          room = omega (arith, proper.numbers e there.among, eqb-true e.number error there.passes);
          shapes = e.arguments;
          are = ap (λ o. option_map_or (λ (x : ErrorShape). Some x.arguments) o (if is_language_error error then Some [] else None)) is;
          proper = proper.errors e there.among;
          fit = fits;
        }
    by_fit e is false fits either =
        let there = found_by (λ (x : ErrorShape). x.number == error) p.errors e is in
        let l = of_language error values either in
        absurd (omega (arith, proper.numbers e there.among, eqb-true e.number error there.passes, l.least))

    by_error : (o : Option ErrorShape) → find (λ (e : ErrorShape). e.number == error) p.errors ≡ o
        → (option_map_or (λ (e : ErrorShape). all_fit e.arguments values) o false || is_raised_by_language error values) ≡ true → IsRaised p error values
    by_error (Some e) is either = by_fit e is (all_fit e.arguments values) refl either
    by_error None is either =
        let l = of_language error values either in
        record {
          room = l.room;
          shapes = [];
          are = ap (λ o. option_map_or (λ (x : ErrorShape). Some x.arguments) o (if is_language_error error then Some [] else None)) is
              ∙ ap (λ b. if b then Some [] else None) l.is;
          proper = refl;
          fit = ap (all_fit []) l.none;
        }

-- ---- outcomes

mapped_same : {A : Type 0} (f : A → Outcome) (r : Option A) (x : A) (o : Outcome) → ((y : A) → r ≡ Some y → y ≡ x) → option_map f r ≡ Some o → o ≡ f x
mapped_same f None x o only is = cc
mapped_same f (Some y) x o only is = let same : f y ≡ o = cc in sym same ∙ ap f (only y refl)

-- the outcome that is read is the one that stands there
pub outcome_is : (p : ProcedureShape) (most at : ℕ) (message : List ℕ) (outcome o : Outcome) → IsProperProcedure p → outcome_fits p outcome ≡ true
    → drop at message ≡ outcome_spelling outcome → outcome_at p most at message ≡ Some o → o ≡ outcome
outcome_is p most at message (Returned results) o proper fit here is =
    let kind : first_word (drop at message) ≡ Some 0 = ap first_word here in
    let behind : drop (at + 2) message ≡ spelling_of_all results = sym (drop-drop 2 at message) ∙ ap (drop 2) here in
    let read : option_map Returned (values_at p.results most (at + 2) message) ≡ Some o = ap (option_and_then (outcome_by p most (at + 2) message)) (sym kind) ∙ is in
    mapped_same Returned (values_at p.results most (at + 2) message) results o
    (λ vs found. values_are p.results most (at + 2) message results vs proper.results fit behind found) read
outcome_is p most at message (Raised error values) o proper fit here is =
    let r = raised p error values proper fit in
    let kind : first_word (drop at message) ≡ Some 1 = ap first_word here in
    let behind : drop (at + 2) message ≡ word error ++ spelling_of_all values = sym (drop-drop 2 at message) ∙ ap (drop 2) here in
    let number : first_word (drop (at + 2) message) ≡ Some error = ap first_word behind ∙ ap Some (from_be_bytes-to_be_bytes_2 error r.room) in
    let rest : drop ((at + 2) + 2) message ≡ spelling_of_all values = sym (drop-drop 2 (at + 2) message) ∙ ap (drop 2) behind in
    let read : option_map (Raised error) (values_at r.shapes most ((at + 2) + 2) message) ≡ Some o =
    ap (λ s. option_map (Raised error) (option_and_then (λ shapes. values_at shapes most ((at + 2) + 2) message) s)) (sym r.are)
    ∙ ap (option_and_then (λ n. option_map (Raised n) (raised_values p n most ((at + 2) + 2) message))) (sym number)
    ∙ ap (option_and_then (outcome_by p most (at + 2) message)) (sym kind) ∙ is in
    mapped_same (Raised error) (values_at r.shapes most ((at + 2) + 2) message) values o
    (λ vs found. values_are r.shapes most ((at + 2) + 2) message values vs r.proper r.fit rest found) read
