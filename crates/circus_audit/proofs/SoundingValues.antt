-- Values and outcomes that are read are texts of what fits.
use Rattle.std.proofs.Common.{◌≡◌, ◌∙◌, ℕ, Bool, true, false, cond, ◌&&◌, ◌||◌, List, [], ◌∷◌, ◌++◌, codes, Option, Some, None, refl, sym, ap, arith, append_assoc}
use Rattle.std.specs.Fmt.{decimal}
use Rattle.std.specs.Option.{option_map_or}
use Rattle.circus_value.specs.ValueTree.{ValueTree, ValueTrees, none, more, value_trees}
use Rattle.circus_value.specs.ShapeOf.{tree_of}
use Rattle.circus_value.specs.Fits.{fits, all_fit}
use Rattle.circus_value.specs.Shown.{text_of_value, shown_items, shown_others, shown_list}
use Rattle.circus_value.specs.OutcomeText.{outcome_text}
use Rattle.circus_value.specs.declared.shape.Shape.{Shape}
use Rattle.circus_value.specs.declared.outcome.Outcome.{Outcome}
use Rattle.circus_value.specs.declared.outcome.Outcome.TheVariants.{Returned, Raised}
use Rattle.circus_model.specs.LanguageError.{is_language_error}
use Rattle.circus_model.specs.Lawful.{outcome_fits, is_reported}
use Rattle.circus_model.specs.declared.signature.ErrorShape.{ErrorShape}
use Rattle.circus_model.specs.declared.signature.ProcedureShape.{ProcedureShape}
use Rattle.circus_value_text.specs.Reading.{behind_prefix, behind, number_read, comma, one_more, reading}
use Rattle.circus_value_text.proofs.Marks.{pair_is, passed_stands, behind_some, and_then_some, seen_as_some, between_sound}
use Rattle.circus_value_text.proofs.Numbers.{number_sound}
use Rattle.circus_value_text.proofs.Inverse.{shown_behind, others_behind, sound}
use Rattle.circus_audit.specs.Seen.Values.{value_behind, shapes_read, values_read, values_behind, reported_read, error_numbered, error_if, error_read, raised_read, outcome_if, outcome_read, outcome_behind}
use Rattle.circus_audit.proofs.Sounding.{Sounds, behind_sound}

regroup : (a b c d : List ℕ) → (a ++ b) ++ (c ++ d) ≡ (a ++ (b ++ c)) ++ d
regroup a b c d = simp append_assoc

items_behind : (ts : ValueTrees) → shown_behind [] ts ≡ shown_items ts
items_behind none = refl
items_behind (more t ts) = refl

shapes_sound : (shapes : List Shape) (mark text : List ℕ) (ts : List ValueTree) (rest : List ℕ) → shapes_read shapes mark text ≡ Some (ts, rest) → (text ≡ shown_behind mark (value_trees ts) ++ rest) × (all_fit shapes ts ≡ true)
shapes_sound [] mark text ts rest is =
    let parts = pair_is [] ts text rest is in
    let no = parts.0 in
    (parts.1 ∙ ap (λ xs. shown_behind mark (value_trees xs) ++ rest) no, sym (ap (all_fit []) no))
shapes_sound (shape ∷ shapes) mark text ts rest is =
    let x = and_then_some (value_behind mark shape text) (λ t later. one_more t (shapes_read shapes comma later)) (ts, rest) is in
    let one = behind_sound mark (reading (tree_of shape)) text_of_value (λ t. fits (tree_of shape) t ≡ true) (sound (tree_of shape)) text x.0.0 x.0.1 x.1 in
    let chain = seen_as_some (λ us. x.0.0 ∷ us) (shapes_read shapes comma x.0.1) ts rest x.2 in
    let later = shapes_sound shapes comma x.0.1 chain.0 rest chain.1 in
    let others = later.0 ∙ ap (λ y. y ++ rest) (others_behind (value_trees chain.0)) in (
      one.0 ∙ ap (λ y. (mark ++ text_of_value x.0.0) ++ y) others ∙ regroup mark (text_of_value x.0.0) (shown_others (value_trees chain.0)) rest ∙ ap (λ xs. shown_behind mark (value_trees xs) ++ rest) (sym chain.2),
      ap (all_fit (shape ∷ shapes)) chain.2 ∙ ap (λ b. b && all_fit shapes chain.0) one.1 ∙ later.1,
    )

pub values_sound : (shapes : List Shape) → Sounds (values_read shapes) shown_list (λ ts. all_fit shapes ts ≡ true)
values_sound shapes text ts rest is =
    let r = between_sound (codes "[") (codes "]") text rest (shapes_read shapes []) ts is in
    let inner = shapes_sound shapes [] r.0 ts (93 ∷ rest) r.2 in
    let items = inner.0 ∙ ap (λ x. x ++ (93 ∷ rest)) (items_behind (value_trees ts)) ∙ sym (append_assoc (shown_items (value_trees ts)) (93 ∷ []) rest) in
    (r.1 ∙ ap (λ x. 91 ∷ x) items, inner.1)

pub values_behind_sound : (mark : List ℕ) (shapes : List Shape) → Sounds (values_behind mark shapes) (λ ts. mark ++ shown_list ts) (λ ts. all_fit shapes ts ≡ true)
values_behind_sound mark shapes = behind_sound mark (values_read shapes) shown_list (λ ts. all_fit shapes ts ≡ true) (values_sound shapes)

-- ---- outcomes

or_true : (b : Bool) → (b || true) ≡ true
or_true true = refl
or_true false = refl

-- an outcome of the number, with these values' text
record IsError (p : ProcedureShape) (number : ℕ) (text : List ℕ) (o : Outcome) (rest : List ℕ) : Type 0 where
  values : List ValueTree
  is_raised : o ≡ Raised number values
  text_is : text ≡ shown_list values ++ rest
  fits_it : outcome_fits p (Raised number values) ≡ true

reported_sound : (p : ProcedureShape) (number : ℕ) (text : List ℕ) (o : Outcome) (rest : List ℕ) (e : Option ErrorShape) → error_numbered p.errors number ≡ e → reported_read number text e ≡ Some (o, rest) → IsError p number text o rest
reported_sound p number text o rest None found is = cc
reported_sound p number text o rest (Some e) found is =
    let r = seen_as_some (λ values. Raised number values) (values_read e.arguments text) o rest is in
    let values = values_sound e.arguments text r.0 rest r.1 in
    let reported : is_reported p.errors number r.0 ≡ true = ap (λ x. option_map_or (λ (y : ErrorShape). all_fit y.arguments r.0) x false) found ∙ values.1 in
    record { values = r.0; is_raised = r.2; text_is = values.0; fits_it = grind (arith, reported) }

error_sound : (p : ProcedureShape) (number : ℕ) (text : List ℕ) (o : Outcome) (rest : List ℕ) → error_read p.errors number text ≡ Some (o, rest) → IsError p number text o rest
error_sound p number text o rest is = by_bare (is_language_error number) refl (behind_prefix (codes "[]") text) refl is
  where
    by_bare : (b : Bool) → is_language_error number ≡ b → (r : Option (List ℕ)) → behind_prefix (codes "[]") text ≡ r → error_if p.errors number text (cond b r None) ≡ Some (o, rest) → IsError p number text o rest
    by_bare true language (Some later) mark is =
        let parts = pair_is (Raised number []) o later rest is in
        record {
          values = [];
          is_raised = sym parts.0;
          text_is = passed_stands (codes "[]") text later mark ∙ ap (λ x. codes "[]" ++ x) parts.1;
          fits_it = ap (λ b. is_reported p.errors number [] || b) language ∙ or_true (is_reported p.errors number []);
        }
    by_bare true language None mark is = reported_sound p number text o rest (error_numbered p.errors number) refl is
    by_bare false language r mark is = reported_sound p number text o rest (error_numbered p.errors number) refl is

behind_three : (a b c d rest : List ℕ) → a ++ (b ++ (c ++ (d ++ rest))) ≡ (((a ++ b) ++ c) ++ d) ++ rest
behind_three a b c d rest = simp append_assoc

raised_text : (number : ℕ) (values : List ValueTree) (rest : List ℕ) → codes "raised " ++ (decimal number ++ (codes " " ++ (shown_list values ++ rest))) ≡ outcome_text (Raised number values) ++ rest
raised_text number values rest = behind_three (codes "raised ") (decimal number) (codes " ") (shown_list values) rest

pub outcome_sound : (p : ProcedureShape) → Sounds (outcome_read p) outcome_text (λ o. outcome_fits p o ≡ true)
outcome_sound p text o rest is = by_mark (behind_prefix (codes "returned ") text) refl is
  where
    raised : (inner : List ℕ) → text ≡ codes "raised " ++ inner → raised_read p.errors inner ≡ Some (o, rest) → (text ≡ outcome_text o ++ rest) × (outcome_fits p o ≡ true)
    raised inner front is =
        let x = and_then_some (number_read 65535 inner) (λ number later. behind (behind_prefix (codes " ") later) (error_read p.errors number)) (o, rest) is in
        let number = number_sound 65535 x.0.0 inner x.0.1 (omega arith) x.1 in
        let opened = behind_some (behind_prefix (codes " ") x.0.1) (error_read p.errors x.0.0) (o, rest) x.2 in
        let error = error_sound p x.0.0 opened.0 o rest opened.2 in
        let behind_blank = passed_stands (codes " ") x.0.1 opened.0 opened.1 ∙ ap (λ y. codes " " ++ y) error.text_is in
        let all = front ∙ ap (λ y. codes "raised " ++ y) (number.0 ∙ ap (λ y. decimal x.0.0 ++ y) behind_blank) in
        (all ∙ raised_text x.0.0 error.values rest ∙ ap (λ z. outcome_text z ++ rest) (sym error.is_raised), ap (outcome_fits p) error.is_raised ∙ error.fits_it)

    by_mark : (r : Option (List ℕ)) → behind_prefix (codes "returned ") text ≡ r → outcome_if p text r ≡ Some (o, rest) → (text ≡ outcome_text o ++ rest) × (outcome_fits p o ≡ true)
    by_mark (Some inner) mark is =
        let r = seen_as_some (λ results. Returned results) (values_read p.results inner) o rest is in
        let values = values_sound p.results inner r.0 rest r.1 in
        (passed_stands (codes "returned ") text inner mark ∙ ap (λ y. codes "returned " ++ y) values.0 ∙ sym (append_assoc (codes "returned ") (shown_list r.0) rest) ∙ ap (λ z. outcome_text z ++ rest) (sym r.2), ap (outcome_fits p) r.2 ∙ values.1)
    by_mark None mark is =
        let opened = behind_some (behind_prefix (codes "raised ") text) (raised_read p.errors) (o, rest) is in
        raised opened.0 (passed_stands (codes "raised ") text opened.0 opened.1) opened.2

pub outcome_behind_sound : (p : ProcedureShape) → Sounds (outcome_behind p) (λ o. codes " " ++ outcome_text o) (λ o. outcome_fits p o ≡ true)
outcome_behind_sound p = behind_sound (codes " ") (outcome_read p) outcome_text (λ o. outcome_fits p o ≡ true) (outcome_sound p)
