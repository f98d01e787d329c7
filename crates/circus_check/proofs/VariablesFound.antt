-- Variables in order: what is found one by one, and with sizes that stop above their limits.
use Rattle.std.proofs.Common.{◌≡◌, ℕ, ◌+◌, ◌*◌, Bool, true, false, min, List, [], ◌∷◌, ◌++◌, Option, None, is_some, Result, Ok, Err, refl, sym, ◌∙◌, ap, arith}
use Rattle.std.specs.Prelude.{bytes_eq, ◌||◌, IfOk, OnOk}
use Rattle.std.proofs.lemmas.List.Sums.{sum_by-cons}
use Rattle.circus_value.specs.ShapeTree.{ShapeTree, FieldTree, FieldTrees, no_fields, more_fields}
use Rattle.circus_syntax.specs.declared.named.TypeName.{TypeName}
use Rattle.circus_fault.specs.declared.fault.Fault.{Fault}
use Rattle.circus_fault.specs.declared.tables.Names.{Names}
use Rattle.circus_fault.specs.Known.{nobody}
use Rattle.circus_fault.specs.Seen.Tables.{known_of, holds_name}
use Rattle.circus_fault.specs.Least.{least_from}
use Rattle.circus_fault.proofs.LeastMore.{least_then, least_step}
use Rattle.circus_type.specs.declared.measuring.Measure.{Measure}
use Rattle.circus_type.specs.Inside.{no_name, also_name, repeated_name, inside}
use Rattle.circus_type.specs.Limits.{most_parts}
use Rattle.circus_type.specs.Meaning.{shape_of_type}
use Rattle.circus_type.specs.Scale.{written_out}
use Rattle.circus_type.specs.Together.{shapes_of, zero_size_of}
use Rattle.circus_type.specs.Whole.{whole_faults}
use Rattle.circus_type.specs.Written.{parts, zero_size}
use Rattle.circus_type.specs.Seen.Measured.{measure_of_type, more_parts, cut_off}
use Rattle.circus_type.proofs.WholeTypes.{sizes_of, with_type, whole_cut}
use Rattle.circus_resolve.specs.declared.cause.CheckCause.{CheckCause}
use Rattle.circus_resolve.specs.Causes.{rank, of_type}
use Rattle.circus_lang.specs.ModuleTree.{VariableTree}
use Rattle.circus_check.specs.Faults.{also_fields, variables_faults, variables_parts, plain_faults}
use Rattle.circus_check.specs.Seen.Tables.{either}

-- ---- names behind others

pub either_also : (name : List ℕ) (outer own : List ℕ → Bool) → also_name name (either outer own) ≡ either outer (also_name name own)
either_also name outer own = λ i other. each (bytes_eq name other) (outer other) (own other) i
  where
    each : (a b c : Bool) → (a || (b || c)) ≡ (b || (a || c))
    each true true c = refl
    each true false c = refl
    each false b c = refl

pub either_none : (outer : List ℕ → Bool) → either outer no_name ≡ outer
either_none outer = λ i other. each (outer other) i
  where
    each : (b : Bool) → (b || false) ≡ b
    each true = refl
    each false = refl

-- a table without names
pub none_held : (names : Names) → known_of names ≡ nobody → holds_name names ≡ no_name
none_held names none = λ i name. is_some (none i name)

pub or_swap : (a b c : Bool) → ((a || b) || c) ≡ (b || (a || c))
or_swap true true c = refl
or_swap true false c = refl
or_swap false b c = refl

-- fields behind names of another table
pub also_either : (fs : FieldTrees) (outer own : List ℕ → Bool) → also_fields fs (either outer own) ≡ either outer (also_fields fs own)
also_either no_fields outer own = refl
also_either (more_fields name s fs) outer own = ap (also_fields fs) (either_also name outer own) ∙ also_either fs outer (also_name name own)

-- ---- one variable more

module _ (unknown : TypeName → Option ℕ) where
  pub variables_step : (sizes : TypeName → Measure) (outer own own' : List ℕ → Bool) (v : VariableTree) (rest : List VariableTree) (best mid new whole : Option (Fault CheckCause)) (before after : ℕ)
      → mid ≡ least_from rank best (repeated_name of_type (either outer own) v.name) → own' ≡ also_name v.name.name own
      → new ≡ least_from rank mid (whole_faults of_type cut_off unknown sizes None before 1 v.shape) → after ≡ more_parts before 1 (measure_of_type sizes v.shape)
      → least_from rank best (variables_faults cut_off unknown sizes before (either outer own) (v ∷ rest)) ≡ whole
      → least_from rank new (variables_faults cut_off unknown sizes after (either outer own') rest) ≡ whole
  variables_step sizes outer own own' v rest best mid new whole before after named added found counted left =
      (λ i. least_from rank new (variables_faults cut_off unknown sizes (counted i) ((ap (either outer) added ∙ sym (either_also v.name.name outer own)) i) rest))
      ∙ least_step rank new best whole (repeated_name of_type (either outer own) v.name ++ whole_faults of_type cut_off unknown sizes None before 1 v.shape)
      (variables_faults cut_off unknown sizes (more_parts before 1 (measure_of_type sizes v.shape)) (also_name v.name.name (either outer own)) rest)
      (least_then rank best mid new (repeated_name of_type (either outer own) v.name) (whole_faults of_type cut_off unknown sizes None before 1 v.shape) named found) left

  pub plain_step : (outer own own' : List ℕ → Bool) (v : VariableTree) (rest : List VariableTree) (best mid new whole : Option (Fault CheckCause))
      → mid ≡ least_from rank best (repeated_name of_type (either outer own) v.name) → own' ≡ also_name v.name.name own → new ≡ least_from rank mid (inside of_type unknown v.shape)
      → least_from rank best (plain_faults unknown (either outer own) (v ∷ rest)) ≡ whole → least_from rank new (plain_faults unknown (either outer own') rest) ≡ whole
  plain_step outer own own' v rest best mid new whole named added found left =
      ap (λ names. least_from rank new (plain_faults unknown names rest)) (ap (either outer) added ∙ sym (either_also v.name.name outer own))
      ∙ least_step rank new best whole (repeated_name of_type (either outer own) v.name ++ inside of_type unknown v.shape) (plain_faults unknown (also_name v.name.name (either outer own)) rest)
      (least_then rank best mid new (repeated_name of_type (either outer own) v.name) (inside of_type unknown v.shape) named found) left

  -- with sizes that stop above their limits the same is found
  pub variables_cut : (forms : TypeName → ShapeTree) (before : ℕ) (earlier : List ℕ → Bool) (vs : List VariableTree) → variables_faults cut_off unknown (sizes_of forms) (min before (1 + most_parts)) earlier vs ≡ variables_faults written_out unknown forms before earlier vs
  variables_cut forms before earlier [] = refl
  variables_cut forms before earlier (v ∷ vs) =
      let names = also_name v.name.name earlier in
      let rest = ap (λ p. variables_faults cut_off unknown (sizes_of forms) p names vs) (with_type forms before 1 v.shape) ∙ variables_cut forms (before + 1 * parts (shape_of_type forms v.shape)) names vs in
      λ i. (repeated_name of_type earlier v.name ++ whole_cut of_type unknown forms None before 1 v.shape i) ++ rest i

pub variables_counted : (forms : TypeName → ShapeTree) (before : ℕ) (vs : List VariableTree) → variables_parts cut_off (sizes_of forms) (min before (1 + most_parts)) vs ≡ min (variables_parts written_out forms before vs) (1 + most_parts)
variables_counted forms before [] = refl
variables_counted forms before (v ∷ vs) =
    ap (λ p. variables_parts cut_off (sizes_of forms) p vs) (with_type forms before 1 v.shape) ∙ variables_counted forms (before + 1 * parts (shape_of_type forms v.shape)) vs

-- the bytes of zero values, in a number that stops above the limit
pub zeros_step : (bytes z next : ℕ) (f : FieldTree) (rest : List FieldTree) (whole : ℕ) → z ≡ min (zero_size f.shape) 65537 → next ≡ min (bytes + z) 65537 → min (bytes + zero_size_of (f ∷ rest)) 65537 ≡ whole → min (next + zero_size_of rest) 65537 ≡ whole
zeros_step bytes z next f rest whole one more before = omega (arith, sum_by-cons zero_size f.shape (shapes_of rest))

-- ---- what holds where a call succeeds

pub on_any : {T E P : Type 0} (r : Result T E) → P → OnOk r P
on_any (Ok x) holds = holds
on_any (Err e) holds = tt
