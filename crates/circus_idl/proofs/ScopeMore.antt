-- A scope behind one more type.
use Rattle.std.proofs.Common.{◌≡◌, ℕ, List, Option, sym, ◌∙◌, ap, length}
use Rattle.circus_syntax.specs.declared.type_text.GroupText.{GroupText}
use Rattle.circus_syntax.specs.TypeTree.{GroupTrees, more_groups}
use Rattle.circus_syntax.specs.TypeOf.{tree_of}
use Rattle.circus_fault.specs.declared.fault.Fault.{Fault}
use Rattle.circus_fault.specs.Least.{least_from}
use Rattle.circus_fault.proofs.LeastMore.{least_step}
use Rattle.circus_idl.specs.Inside.{by_name}
use Rattle.circus_idl.specs.declared.fault.Cause.{Cause}
use Rattle.circus_idl.specs.Rank.{rank_of}
use Rattle.circus_idl.specs.declared.scope.Scope.{Scope}
use Rattle.circus_idl.specs.Seen.Known.{is_known, type_measure}
use Rattle.circus_type.specs.Seen.Measured.{cut_off, measure_of_type, more_parts}
use Rattle.circus_idl.specs.Seen.Scoped.{cut_in}
use Rattle.circus_idl.specs.Faults.{whole_faults, groups_faults, groups_parts}

-- only the faults and the parts are others
abbrev pub Keeps : Scope → Scope → ℕ → Type 0
Keeps s s' parts = s' ≡ record s { best = s'.best; parts = parts }

abbrev pub found_by : Scope → GroupTrees → List (Fault Cause)
found_by s rest = groups_faults cut_off (cut_in s) (is_known s.types) (type_measure s.types) s.parts rest

pub groups_step : (s s' : Scope) (g : GroupText) (n : ℕ) (rest : GroupTrees) (whole : Option (Fault Cause)) → n ≡ length g.names → Keeps s s' (more_parts s.parts n (measure_of_type (by_name (type_measure s.types)) (tree_of g.shape))) → s'.best.fault ≡ least_from rank_of s.best.fault (whole_faults cut_off (cut_in s) (is_known s.types) (type_measure s.types) s.parts n (tree_of g.shape)) → least_from rank_of s.best.fault (found_by s (more_groups g.names (tree_of g.shape) rest)) ≡ whole → least_from rank_of s'.best.fault (found_by s' rest) ≡ whole
groups_step s s' g n rest whole counted keeps found before =
    ap (λ (t : Scope). least_from rank_of s'.best.fault (found_by t rest)) keeps
    ∙ ap (λ m. least_from rank_of s'.best.fault (groups_faults cut_off (cut_in s) (is_known s.types) (type_measure s.types) (more_parts s.parts m (measure_of_type (by_name (type_measure s.types)) (tree_of g.shape))) rest)) counted
    ∙ least_step rank_of s'.best.fault s.best.fault whole (whole_faults cut_off (cut_in s) (is_known s.types) (type_measure s.types) s.parts (length g.names) (tree_of g.shape)) (groups_faults cut_off (cut_in s) (is_known s.types) (type_measure s.types) (more_parts s.parts (length g.names) (measure_of_type (by_name (type_measure s.types)) (tree_of g.shape))) rest) (found ∙ ap (λ m. least_from rank_of s.best.fault (whole_faults cut_off (cut_in s) (is_known s.types) (type_measure s.types) s.parts m (tree_of g.shape))) counted) before

pub counted_step : (s s' : Scope) (g : GroupText) (n : ℕ) (rest : GroupTrees) (whole : ℕ) → n ≡ length g.names → Keeps s s' (more_parts s.parts n (measure_of_type (by_name (type_measure s.types)) (tree_of g.shape))) → groups_parts cut_off (type_measure s.types) s.parts (more_groups g.names (tree_of g.shape) rest) ≡ whole → groups_parts cut_off (type_measure s'.types) s'.parts rest ≡ whole
counted_step s s' g n rest whole counted keeps before =
    ap (λ (t : Scope). groups_parts cut_off (type_measure t.types) t.parts rest) keeps
    ∙ ap (λ m. groups_parts cut_off (type_measure s.types) (more_parts s.parts m (measure_of_type (by_name (type_measure s.types)) (tree_of g.shape))) rest) counted
    ∙ before

pub keeps_step : (first s s' : Scope) (parts : ℕ) → Keeps first s s.parts → Keeps s s' parts → Keeps first s' s'.parts
keeps_step first s s' parts before keeps =
    keeps ∙ ap (λ (t : Scope). record t { best = s'.best; parts = parts }) before
    ∙ ap (λ p. record first { best = s'.best; parts = p }) (sym (ap (λ (t : Scope). t.parts) keeps))
