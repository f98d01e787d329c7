-- The faults of a whole type, which is no part of another.
use Rattle.std.specs.Prelude.{ℕ, Bool, false, ◌&&◌, ◌==◌, not, List, ◌++◌, Option, Some, None}
use Rattle.circus_syntax.specs.declared.named.TypeName.{TypeName}
use Rattle.circus_syntax.specs.TypeTree.{TypeTree, type_place}
use Rattle.circus_fault.specs.declared.fault.Fault.{Fault}
use Rattle.circus_fault.specs.Least.{faults_if, is_clean}
use Rattle.circus_type.specs.declared.cause.TypeCause.{TypeCause}
use Rattle.circus_type.specs.declared.cause.TypeCause.TheVariants.{TooLarge}
use Rattle.circus_type.specs.Inside.{inside}
use Rattle.circus_type.specs.Scale.{Scale}

-- this place
abbrev pub is_place : ℕ → Option ℕ → Bool
is_place at None = false
is_place at (Some p) = p == at

-- the size of a whole type, which so many names share behind so many parts, is tested where it has no fault inside and
-- reading didn't stop in it
abbrev pub whole_faults : {C S : Type 0} → (TypeCause → C) → Scale S → (TypeName → Option ℕ) → (TypeName → S) → Option ℕ → ℕ → ℕ → TypeTree → List (Fault C)
whole_faults embed scale unknown sizes within parts n t =
    inside embed unknown t
    ++ faults_if (is_clean (inside embed unknown t) && not (is_place (type_place t) within) && scale.is_over (scale.parts_with parts n (scale.of_type sizes t)) (scale.of_type sizes t)) (type_place t) (embed TooLarge)
