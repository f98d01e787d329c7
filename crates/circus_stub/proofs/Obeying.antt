-- The shapes of an interface that obeys the rules have values in all their parts.
use Rattle.std.proofs.Common.{◌≡◌, ℕ, ◌<◌, ◌≤◌, ◌⊎◌, inl, inr, Bool, true, false, cond, List, [], ◌∷◌, length, arith, lt-ltb, refl, subst, nat_eq, Option, Some, None}
use Rattle.std.specs.Prelude.{find, nat_lt}
use Rattle.std.specs.Option.{option_map}
use Rattle.std.specs.List.{AllByRecursion, list_any}
use Rattle.circus_value.specs.declared.shape.Label.{Label}
use Rattle.circus_value.specs.ShapeTree.{ShapeTree, FieldTrees, ArmTrees, FieldTree, boolean, cardinal, long_cardinal, integer, long_integer, text, enumeration, array, sequence, «record», choice, no_fields, more_fields, no_arms, more_arms, field_trees}
use Rattle.circus_idl.specs.declared.interface.Interface.{Interface}
use Rattle.circus_idl.specs.declared.interface.Procedure.{Procedure}
use Rattle.circus_idl.specs.declared.interface.DeclaredError.{DeclaredError}
use Rattle.circus_idl.specs.Obeys.{Obeys}
use Rattle.circus_type.specs.Obeys.{ObeysInside, ObeyFields, ObeyArmTypes, ObeyLabels, arm_names, arm_numbers}
use Rattle.circus_idl.proofs.ObeysParts.{FieldsObey, ErrorObeys, ProcedureObeys, parts_obey, fields_obey}
use Rattle.circus_external.specs.Refusal.{is_proper, are_proper, arms_are_proper, has_arm}
use Rattle.circus_value.specs.Among.{is_among}
use Rattle.circus_model.specs.LanguageError.{is_language_error}
use Rattle.circus_stub.specs.Unpacked.{procedure_of, error_of, raised_fields}

some_label : (labels : List Label) → ObeyLabels labels → list_any (λ (l : Label). nat_lt l.number 65536) labels ≡ true
some_label [] obey = absurd (omega (arith, obey.some))
some_label (l ∷ labels) obey = rw (lt-ltb l.number 65536 (omega (arith, obey.in_range.0))) refl

some_arm : (arms : ArmTrees) → 0 < length (arm_names arms) → AllByRecursion (λ n. n ≤ 65535) (arm_numbers arms) → has_arm arms ≡ true
some_arm no_arms some fit = absurd (omega arith)
some_arm (more_arms _ n _ arms) some fit = rw (lt-ltb n 65536 (omega (arith, fit.0))) refl

-- the type of an arm is a record without fields or obeys
arm_proper : (s : ShapeTree) → (s ≡ «record» no_fields) ⊎ ObeysInside s → (ObeysInside s → is_proper s ≡ true) → is_proper s ≡ true
arm_proper s (inl bare) own = rw bare refl
arm_proper s (inr obeys) own = own obeys

mutual
  proper : (s : ShapeTree) → ObeysInside s → is_proper s ≡ true
  proper boolean obeys = refl
  proper cardinal obeys = refl
  proper long_cardinal obeys = refl
  proper integer obeys = refl
  proper long_integer obeys = refl
  proper text obeys = refl
  proper (enumeration labels) obeys = some_label labels obeys
  proper (array n s) obeys = proper s obeys.2
  proper (sequence n s) obeys = rw (lt-ltb n 65536 (omega (arith, obeys.0))) (proper s obeys.1)
  proper («record» fields) obeys = fields_proper fields obeys.2
  proper (choice arms) obeys = rw (some_arm arms obeys.0.some obeys.0.in_range) (arms_proper arms obeys.1)

  fields_proper : (fields : FieldTrees) → ObeyFields fields → are_proper fields ≡ true
  fields_proper no_fields obey = refl
  fields_proper (more_fields _ s fields) obey = rw (proper s obey.0) (fields_proper fields obey.1)

  arms_proper : (arms : ArmTrees) → ObeyArmTypes arms → arms_are_proper arms ≡ true
  arms_proper no_arms obey = refl
  arms_proper (more_arms _ _ s arms) obey = rw (arm_proper s obey.0 (λ obeys. proper s obeys)) (arms_proper arms obey.1)

-- what holds of each holds of the one that is found
found_holds : {X : Type 0} (P : X → Type 0) (test : X → Bool) (xs : List X) (x : X) → AllByRecursion P xs → find test xs ≡ Some x → P x
found_holds P test [] x all is = absurd (cc)
found_holds {X = X} P test (y ∷ ys) x all is = by_test (λ later. found_holds P test ys x all.1 later) (test y) is
  where
    by_test : (find test ys ≡ Some x → P x) → (b : Bool) → cond b (Some y) (find test ys) ≡ Some x → P x
    by_test further true is = let same : y ≡ x = cc in subst P same all.0
    by_test further false is = further is

list_proper : (fields : List FieldTree) → FieldsObey fields → are_proper (field_trees fields) ≡ true
list_proper fields obey = fields_proper (field_trees fields) (fields_obey fields obey.whole)

procedure_obeys : (i : Interface) (n : ℕ) (p : Procedure) → Obeys i → procedure_of i n ≡ Some p → ProcedureObeys i.errors p
procedure_obeys i n p obeys is = found_holds (ProcedureObeys i.errors) (λ (q : Procedure). nat_eq q.number n) i.procedures p (parts_obey i obeys).procedures is

pub arguments_are_proper : (i : Interface) (n : ℕ) (p : Procedure) → Obeys i → procedure_of i n ≡ Some p → are_proper (field_trees p.arguments) ≡ true
arguments_are_proper i n p obeys is = list_proper p.arguments (procedure_obeys i n p obeys is).arguments

pub results_are_proper : (i : Interface) (n : ℕ) (p : Procedure) → Obeys i → procedure_of i n ≡ Some p → are_proper (field_trees p.results) ≡ true
results_are_proper i n p obeys is = list_proper p.results (procedure_obeys i n p obeys is).results

pub raised_are_proper : (i : Interface) (p : Procedure) (n : ℕ) (fields : FieldTrees) → Obeys i → raised_fields i p n ≡ Some fields → are_proper fields ≡ true
raised_are_proper i p n fields obeys is = by_report (is_among p.reports n) is
  where
    of_language : (b : Bool) → cond b (Some no_fields) None ≡ Some fields → are_proper fields ≡ true
    of_language true is = let same : no_fields ≡ fields = cc in subst (λ fs. are_proper fs ≡ true) same refl
    of_language false is = absurd (cc)

    of_error : (found : Option DeclaredError) → error_of i n ≡ found → option_map (λ (e : DeclaredError). field_trees e.arguments) found ≡ Some fields → are_proper fields ≡ true
    of_error None found is = absurd (cc)
    of_error (Some e) found is =
        let same : field_trees e.arguments ≡ fields = cc in
        subst (λ fs. are_proper fs ≡ true) same
        (list_proper e.arguments (found_holds ErrorObeys (λ (d : DeclaredError). nat_eq d.number n) i.errors e (parts_obey i obeys).errors found).arguments)

    by_report : (b : Bool) → cond b (option_map (λ (e : DeclaredError). field_trees e.arguments) (error_of i n)) (cond (is_language_error n) (Some no_fields) None) ≡ Some fields → are_proper fields ≡ true
    by_report true is = of_error (error_of i n) refl is
    by_report false is = of_language (is_language_error n) is
