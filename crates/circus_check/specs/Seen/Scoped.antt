-- What tables of interfaces say of the names of types.
use Rattle.std.specs.Prelude.{◌≡◌, ℕ, List, Option, Some, None, option_map, unwrap_or}
use Rattle.std.specs.Ordering.{nat_cmp}
use Rattle.std.specs.Cmp.Lexicographic.{slice_cmp}
use Rattle.std.specs.BTreeMap.{get_by}
use Rattle.std.specs.Borrow.{Bor}
use Rattle.circus_value.specs.ShapeTree.{ShapeTree, boolean}
use Rattle.circus_syntax.specs.declared.named.Named.{Named}
use Rattle.circus_syntax.specs.declared.named.TypeName.{TypeName}
use Rattle.circus_type.specs.declared.measuring.Measure.{Measure}
use Rattle.circus_type.specs.Seen.Measured.{measure_of}
use Rattle.circus_resolve.specs.Scope.{Standing}
use Rattle.circus_resolve.specs.Seen.Scoped.{type_in, known_types, module_or, shape_as}
use Rattle.circus_check.specs.declared.known.Known.{Known}
use Rattle.circus_check.specs.declared.type_scope.TypeScope.{TypeScope}
use Rattle.circus_check.specs.Scope.{place_unknown, shape_or}

-- the interface that a name is looked for in
abbrev pub interface_in : TypeScope → Option (List ℕ) → Option (Option (Bor Known))
interface_in scope None = Some scope.own
interface_in scope (Some m) = get_by (λ k. slice_cmp nat_cmp m k.now) scope.imported

-- what a name of a type stands for
abbrev pub standing_in : TypeScope → Option (List ℕ) → List ℕ → Standing
standing_in scope m name =
    module_or (option_map (λ (known : Option (Bor Known)). known_types (option_map (λ (k : Bor Known). type_in k.now.types) known)) (interface_in scope m)) name

abbrev pub module_name : TypeName → Option (List ℕ)
module_name t = option_map (λ (m : Named). m.name) t.«module»

abbrev pub unknown_in : TypeScope → TypeName → Option ℕ
unknown_in scope t = place_unknown (standing_in scope (module_name t) t.name.name) t

abbrev pub form_in : TypeScope → TypeName → ShapeTree
form_in scope t = shape_or (standing_in scope (module_name t) t.name.name)

-- where it is known
abbrev pub known_in : Option (Option (Bor Known)) → Option (Bor Known)
known_in None = None
known_in (Some known) = known

-- the shape of a type of an interface
abbrev pub shape_among : List ℕ → Option (Bor Known) → Option ShapeTree
shape_among name None = None
shape_among name (Some known) = shape_as (get_by (λ key. slice_cmp nat_cmp name key.now) known.now.types.table)

-- the size of a type of an interface
abbrev pub size_among : List ℕ → Option (Bor Known) → Measure
size_among name None = measure_of boolean
size_among name (Some known) = unwrap_or (get_by (λ key. slice_cmp nat_cmp name key.now) known.now.sizes) (measure_of boolean)

abbrev pub size_in : TypeScope → TypeName → Measure
size_in scope t = size_among t.name.name (known_in (interface_in scope (module_name t)))

-- each size is that of the shape
abbrev pub AreSized : TypeScope → Type 0
AreSized scope = (t : TypeName) → size_in scope t ≡ measure_of (form_in scope t)
