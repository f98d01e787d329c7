-- Whole types and fields that obey the rules have no fault where there is room for them.
use Rattle.std.proofs.Common.{◌≡◌, ℕ, ◌+◌, ◌*◌, ◌≤◌, Bool, false, List, [], ◌∷◌, ◌++◌, refl, sym, le-ltb, ◌∙◌, ap, subst, arith}
use Rattle.std.specs.Prelude.{◌&&◌, nat_lt, None}
use Rattle.std.specs.List.{AllByRecursion}
use Rattle.std.proofs.Math.Bool.{and-false}
use Rattle.std.proofs.lemmas.List.Sums.{sum_by-cons}
use Rattle.circus_value.specs.ShapeTree.{ShapeTree, FieldTree, field_trees}
use Rattle.circus_value.specs.ExternalSize.{external_sizes}
use Rattle.circus_syntax.specs.Spelling.{most_levels}
use Rattle.circus_syntax.specs.declared.named.Named.{Named}
use Rattle.circus_type.specs.Limits.{most_parts, most_zero_bytes}
use Rattle.circus_type.specs.Distinct.{AreDistinct}
use Rattle.circus_type.specs.Written.{levels, parts, zero_size, zero_values}
use Rattle.circus_idl.specs.Meaning.{shape_of_type, written_groups}
use Rattle.circus_type.specs.Scale.{is_large, written_out}
use Rattle.circus_idl.specs.Shown.{type_lexemes}
use Rattle.circus_type.specs.Inside.{no_name, group_names}
use Rattle.circus_idl.specs.Inside.{repeated_names, by_name}
use Rattle.circus_idl.specs.Faults.{cut_of, whole_faults, groups_faults, groups_parts, fields_faults, fields_parts, together_faults}
use Rattle.circus_type.specs.Obeys.{ObeysWhole}
use Rattle.circus_type.specs.Together.{shapes_of, parts_of, zero_size_of}
use Rattle.circus_type.proofs.InsideObeys.{field_names_are}
use Rattle.circus_type.proofs.Sizes.{zeros_together}
use Rattle.circus_idl.proofs.Places.{next, past}
use Rattle.circus_idl.proofs.PlainTypes.{type_at, groups_at}
use Rattle.circus_idl.proofs.PlainRules.{none_new, no_fault, none_then, field_names_clean, inside_clean}
use Rattle.circus_idl.proofs.PlainWritten.{type_written, groups_written}
use Rattle.circus_idl.proofs.ObeysParts.{FieldsObey, fields_obey}
use Rattle.circus_idl.proofs.PlainDeclared.{group_list_is, fields_at}

not_large : (count : ℕ) (s : ShapeTree) → ObeysWhole s → count + parts s ≤ most_parts → is_large (count + parts s) s ≡ false
not_large count s obeys room =
    rw (le-ltb most_zero_bytes (zero_size s) obeys.small, le-ltb most_levels (levels s) obeys.shallow, le-ltb most_parts (count + parts s) room) refl

-- the parts with those of one more type, from its tree
pub whole_counted : (s : ShapeTree) (ps : List ℕ) (forms : List ℕ → ShapeTree) (count : ℕ) → ObeysWhole s → count + 1 * parts (shape_of_type forms (type_at s ps)) ≡ count + parts s
whole_counted s ps forms count obeys = omega (arith, ap parts (type_written s ps forms obeys.inside))

pub whole_clean : (s : ShapeTree) (ps : List ℕ) (types : List ℕ → Bool) (forms : List ℕ → ShapeTree) (count : ℕ) → ObeysWhole s → count + parts s ≤ most_parts → whole_faults written_out (cut_of None) types forms count 1 (type_at s ps) ≡ []
whole_clean s ps types forms count obeys room =
    let large = (λ i. is_large (whole_counted s ps forms count obeys i) (type_written s ps forms obeys.inside i)) ∙ not_large count s obeys room in
    rw (inside_clean s ps types obeys.inside, large) refl

groups_counted : (fs : List FieldTree) (ps : List ℕ) (forms : List ℕ → ShapeTree) (count : ℕ) → AllByRecursion ObeysWhole (shapes_of fs) → count + parts_of (shapes_of fs) ≤ most_parts → groups_parts written_out forms count (groups_at (field_trees fs) ps) ≡ count + parts_of (shapes_of fs)
groups_counted [] ps forms count whole room = omega arith
groups_counted (f ∷ fs) ps forms count whole room =
    let more = sum_by-cons parts f.shape (shapes_of fs) in
    let rest = next (past (type_lexemes f.shape) (next (next ps))) in
    ap (λ n. groups_parts written_out forms n (groups_at (field_trees fs) rest)) (whole_counted f.shape (next (next ps)) forms count whole.0)
    ∙ groups_counted fs rest forms (count + parts f.shape) whole.1 (omega arith) ∙ omega arith

groups_clean : (fs : List FieldTree) (ps : List ℕ) (types : List ℕ → Bool) (forms : List ℕ → ShapeTree) (count : ℕ) → AllByRecursion ObeysWhole (shapes_of fs) → count + parts_of (shapes_of fs) ≤ most_parts → groups_faults written_out (cut_of None) types forms count (groups_at (field_trees fs) ps) ≡ []
groups_clean [] ps types forms count whole room = refl
groups_clean (f ∷ fs) ps types forms count whole room =
    let more = sum_by-cons parts f.shape (shapes_of fs) in
    let rest = next (past (type_lexemes f.shape) (next (next ps))) in
    none_then _ _ (whole_clean f.shape (next (next ps)) types forms count whole.0 (omega arith))
    (ap (λ n. groups_faults written_out (cut_of None) types forms n (groups_at (field_trees fs) rest)) (whole_counted f.shape (next (next ps)) forms count whole.0)
    ∙ groups_clean fs rest types forms (count + parts f.shape) whole.1 (omega arith))

names_clean : (fs : List FieldTree) (ps : List ℕ) → FieldsObey fs → repeated_names no_name (group_names (groups_at (field_trees fs) ps)) ≡ []
names_clean fs ps obey =
    field_names_clean (field_trees fs) ps no_name (none_new _) (subst AreDistinct (sym (field_names_are fs)) obey.names.distinct)

-- fields that obey, where there is room for their types
pub fields_clean : (fs : List FieldTree) (ps : List ℕ) (types : List ℕ → Bool) (forms : List ℕ → ShapeTree) (count : ℕ) → FieldsObey fs → count + parts_of (shapes_of fs) ≤ most_parts → fields_faults written_out (cut_of None) types forms count (fields_at fs ps) ≡ []
fields_clean [] ps types forms count obey room = refl
fields_clean (f ∷ fs) ps types forms count obey room =
    subst (λ gs. repeated_names no_name (group_names gs) ++ groups_faults written_out (cut_of None) types forms count gs ≡ []) (sym (group_list_is (f ∷ fs) (next ps)))
    (none_then _ _ (names_clean (f ∷ fs) (next ps) obey) (groups_clean (f ∷ fs) (next ps) types forms count obey.whole room))

pub fields_counted : (fs : List FieldTree) (ps : List ℕ) (forms : List ℕ → ShapeTree) (count : ℕ) → FieldsObey fs → count + parts_of (shapes_of fs) ≤ most_parts → fields_parts written_out forms count (fields_at fs ps) ≡ count + parts_of (shapes_of fs)
fields_counted [] ps forms count obey room = omega arith
fields_counted (f ∷ fs) ps forms count obey room =
    ap (groups_parts written_out forms count) (group_list_is (f ∷ fs) (next ps)) ∙ groups_counted (f ∷ fs) (next ps) forms count obey.whole room

no_and : (a b : Bool) → b ≡ false → (a && b) ≡ false
no_and a b is = rw is (and-false a)

-- arguments that are small enough together
pub together_clean : (fs : List FieldTree) (ps : List ℕ) (types : List ℕ → Bool) (forms : List ℕ → ShapeTree) (name : Named) → FieldsObey fs → zero_size_of fs ≤ most_zero_bytes → together_faults written_out (cut_of None) types forms name (fields_at fs ps) ≡ []
together_clean [] ps types forms name obey small = refl
together_clean (f ∷ fs) ps types forms name obey small =
    no_fault _ _ _ (no_and _ _
    (ap (written_out.are_over (by_name forms)) (group_list_is (f ∷ fs) (next ps))
    ∙ ap (λ n. nat_lt most_zero_bytes n) (zeros_together (written_groups forms (groups_at (field_trees (f ∷ fs)) (next ps))) ∙ ap (λ ts. external_sizes (zero_values ts)) (groups_written (field_trees (f ∷ fs)) (next ps) forms (fields_obey (f ∷ fs) obey.whole)) ∙ sym (zeros_together (f ∷ fs)))
    ∙ le-ltb most_zero_bytes _ small))
