-- What is found in bytes fits.
use Rattle.std.proofs.Common.{◌≡◌, ℕ, zero, suc, ◌+◌, ◌-◌, ◌≤◌, Bool, true, false, ◌&&◌, ◌||◌, List, [], ◌∷◌, length, drop, Option, None, Some, refl, sym, ap, ◌∙◌, subst, arith, append-nil, length-drop}
use Rattle.std.specs.Prelude.{nat_le, nat_lt, ◌==◌, find, option_map, option_and_then, if◌then◌else◌}
use Rattle.std.specs.Option.{option_map_or}
use Rattle.std.proofs.lemmas.Bool.{leb-true}
use Rattle.circus_value.specs.ValueTree.{ValueTree, long_cardinal, value_trees}
use Rattle.circus_value.specs.ExternalSize.{size_of_values}
use Rattle.circus_value.specs.Fits.{all_fit, fits}
use Rattle.circus_value.specs.Parts.{AreOctets}
use Rattle.circus_value.specs.ShapeTree as S
use Rattle.circus_value.specs.declared.shape.Shape.{Shape}
use Rattle.circus_value.specs.declared.outcome.Outcome.{Outcome}
use Rattle.circus_value.specs.declared.outcome.Outcome.TheVariants.{Returned, Raised}
use Rattle.circus_external.specs.Octets.{first_word}
use Rattle.circus_external.specs.Answer.{Answer, found, short, not_a_value, bad_pad}
use Rattle.circus_external.specs.Spelling.{spelling_of_all, fields_admit}
use Rattle.circus_external.specs.Reading.{fields_reading}
use Rattle.circus_external.proofs.Promises.{octets_rest, fields_read_are_spelled}
use Rattle.circus_external.proofs.ShapesAlike.{and_both}
use Rattle.circus_external.proofs.Sizes.{size_of_spellings}
use Rattle.circus_transfer.specs.Snapshot.{fields_of, snapshot_label, snapshot_fields}
use Rattle.circus_transfer.proofs.Fields.{admits}
use Rattle.circus_model.specs.LanguageError.{is_language_error}
use Rattle.circus_model.specs.Lawful.{IsState, outcome_fits, is_raised_by_language}
use Rattle.circus_model.specs.declared.signature.Signature.{Signature}
use Rattle.circus_model.specs.declared.signature.ProcedureShape.{ProcedureShape}
use Rattle.circus_model.specs.declared.signature.ErrorShape.{ErrorShape}
use Rattle.circus_node.specs.Bodies.{found_whole, values_at, raised_shapes, raised_values, outcome_by, outcome_at, counted_state, restored_in}
use Rattle.circus_member_theory.proofs.Accepting.Options.{before_some, seen_some}

-- ---- what was found whole

-- values for some fields, with nothing behind them
pub record IsWhole (a : Answer (List ValueTree)) (values : List ValueTree) : Type 0 where
  pub place : ℕ
  pub is : a ≡ found values place []

pub is_whole : (a : Answer (List ValueTree)) (values : List ValueTree) → found_whole a ≡ Some values → IsWhole a values
is_whole (found vs next []) values e = record { place = next; is = let same : vs ≡ values = cc in ap (λ ws. found ws next []) same }
is_whole (found vs next (b ∷ bs)) values e = cc
is_whole (short place) values e = cc
is_whole (not_a_value place) values e = cc
is_whole (bad_pad place) values e = cc

-- values of these shapes were found at a place, and are all that stands there
pub record AreAt (shapes : List Shape) (most at : ℕ) (bytes : List ℕ) (values : List ValueTree) : Type 0 where
  pub few : length bytes - at ≤ most
  pub whole : IsWhole (fields_reading (fields_of shapes) at (drop at bytes)) values

pub are_at : (shapes : List Shape) (most at : ℕ) (bytes : List ℕ) (values : List ValueTree) → values_at shapes most at bytes ≡ Some values → AreAt shapes most at bytes values
are_at shapes most at bytes values is = by_test (nat_le (length bytes - at) most) refl is
  where
    by_test : (few : Bool) → nat_le (length bytes - at) most ≡ few → (if few then found_whole (fields_reading (fields_of shapes) at (drop at bytes)) else None) ≡ Some values
        → AreAt shapes most at bytes values
    by_test true few e = record { few = leb-true (length bytes - at) most few; whole = is_whole (fields_reading (fields_of shapes) at (drop at bytes)) values e }
    by_test false few e = cc

pub found_fit : (shapes : List Shape) (most at : ℕ) (bytes : List ℕ) (values : List ValueTree) → AreOctets bytes → AreAt shapes most at bytes values → all_fit shapes values ≡ true
found_fit shapes most at bytes values octets a =
    sym (admits shapes values) ∙ (fields_read_are_spelled (fields_of shapes) at (drop at bytes) values a.whole.place [] (octets_rest bytes at octets) a.whole.is).0

pub found_within : (shapes : List Shape) (most at : ℕ) (bytes : List ℕ) (values : List ValueTree) → AreOctets bytes → AreAt shapes most at bytes values → size_of_values values ≤ most
found_within shapes most at bytes values octets a =
    let spelled = fields_read_are_spelled (fields_of shapes) at (drop at bytes) values a.whole.place [] (octets_rest bytes at octets) a.whole.is in
    let long : length (drop at bytes) ≡ length (spelling_of_all values) = ap length (spelled.1 ∙ append-nil (spelling_of_all values)) in
    let size : length (spelling_of_all values) ≡ size_of_values values = size_of_spellings (value_trees values) in
    omega (arith, long, size, a.few, length-drop at bytes)

-- ---- outcomes

raised_fits : (p : ProcedureShape) (number : ℕ) (shapes : List Shape) (values : List ValueTree) → raised_shapes p number ≡ Some shapes → all_fit shapes values ≡ true
    → outcome_fits p (Raised number values) ≡ true
raised_fits p number shapes values are fit = by_error (find (λ (e : ErrorShape). e.number == number) p.errors) are
  where
    nothing : (vs : List ValueTree) → all_fit [] vs ≡ true → is_language_error number ≡ true → is_raised_by_language number vs ≡ true
    nothing [] none is = is
    nothing (v ∷ vs) none is = cc

    by_language : (is : Bool) → is_language_error number ≡ is → (if is then Some [] else None) ≡ Some shapes → is_raised_by_language number values ≡ true
    by_language true is e = let same : shapes ≡ [] = cc in nothing values (subst (λ s. all_fit s values ≡ true) same fit) is
    by_language false is e = cc

    by_error : (o : Option ErrorShape) → option_map_or (λ (e : ErrorShape). Some e.arguments) o (if is_language_error number then Some [] else None) ≡ Some shapes
        → (option_map_or (λ (e : ErrorShape). all_fit e.arguments values) o false || is_raised_by_language number values) ≡ true
    by_error (Some e) is =
        let same : shapes ≡ e.arguments = cc in
        ap (λ b. b || is_raised_by_language number values) (subst (λ s. all_fit s values ≡ true) same fit)
    by_error None is = by_language (is_language_error number) refl is

pub outcome_found_fits : (p : ProcedureShape) (most at : ℕ) (message : List ℕ) (o : Outcome) → AreOctets message → outcome_at p most at message ≡ Some o → outcome_fits p o ≡ true
outcome_found_fits p most at message o octets is =
    let kind = before_some (outcome_by p most (at + 2) message) (first_word (drop at message)) o is in
    by_kind kind.value kind.then
  where
    by_kind : (kind : ℕ) → outcome_by p most (at + 2) message kind ≡ Some o → outcome_fits p o ≡ true
    by_kind zero e =
        let s = seen_some Returned (values_at p.results most (at + 2) message) o e in
        ap (outcome_fits p) s.seen ∙ found_fit p.results most (at + 2) message s.value octets (are_at p.results most (at + 2) message s.value s.is)
    by_kind (suc zero) e =
        let n = before_some (λ (k : ℕ). option_map (Raised k) (raised_values p k most ((at + 2) + 2) message)) (first_word (drop (at + 2) message)) o e in
        let s = seen_some (Raised n.value) (raised_values p n.value most ((at + 2) + 2) message) o n.then in
        let shapes = before_some (λ (ss : List Shape). values_at ss most ((at + 2) + 2) message) (raised_shapes p n.value) s.value s.is in
        ap (outcome_fits p) s.seen
        ∙ raised_fits p n.value shapes.value s.value shapes.is
        (found_fit shapes.value most ((at + 2) + 2) message s.value octets (are_at shapes.value most ((at + 2) + 2) message s.value shapes.then))
    by_kind (suc (suc n)) e = cc

-- ---- states

counted : (variables : List Shape) (values : List ValueTree) (restored : List ValueTree × ℕ) → fields_admit (snapshot_fields variables) values ≡ true
    → counted_state values ≡ Some restored → fields_admit (fields_of variables) restored.0 ≡ true
counted variables (kind ∷ long_cardinal count ∷ state) restored fit is =
    let same : restored ≡ (state, count) = cc in
    let behind = and_both (fits (S.enumeration (snapshot_label ∷ [])) kind) (nat_lt count 4294967296 && fields_admit (fields_of variables) state) fit in
    subst (λ (r : List ValueTree × ℕ). fields_admit (fields_of variables) r.0 ≡ true) (sym same) (and_both (nat_lt count 4294967296) (fields_admit (fields_of variables) state) behind.1).1
counted variables values restored fit is = cc

pub state_found : (declared : Signature) (message : List ℕ) (restored : List ValueTree × ℕ) → AreOctets message
    → restored_in declared.variables declared.limit message ≡ Some restored → IsState declared restored.0
state_found declared message restored octets is =
    let r = before_some (λ (x : List ValueTree × ℕ). if nat_le (size_of_values x.0) declared.limit then Some x else None)
    (option_and_then counted_state (found_whole (fields_reading (snapshot_fields declared.variables) 0 message))) restored is in
    let v = before_some counted_state (found_whole (fields_reading (snapshot_fields declared.variables) 0 message)) r.value r.is in
    let w = is_whole (fields_reading (snapshot_fields declared.variables) 0 message) v.value v.is in
    let spelled = fields_read_are_spelled (snapshot_fields declared.variables) 0 message v.value w.place [] octets w.is in
    by_test r.value (sym (admits declared.variables r.value.0) ∙ counted declared.variables v.value r.value spelled.0 v.then) (nat_le (size_of_values r.value.0) declared.limit) refl r.then
  where
    by_test : (x : List ValueTree × ℕ) → all_fit declared.variables x.0 ≡ true → (within : Bool) → nat_le (size_of_values x.0) declared.limit ≡ within
        → (if within then Some x else None) ≡ Some restored → IsState declared restored.0
    by_test x fit true within e =
        let same : x ≡ restored = cc in
        subst (λ (y : List ValueTree × ℕ). IsState declared y.0) same (record { fits = fit; within = leb-true (size_of_values x.0) declared.limit within })
    by_test x fit false within e = cc
