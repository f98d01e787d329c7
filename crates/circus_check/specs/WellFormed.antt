-- Which modules are well formed over interfaces, as a whole.
use Rattle.std.specs.Prelude.{◌≡◌, ℕ, ◌<◌, ◌≤◌, Bool, true, false, ◌&&◌, List, [], ◌∷◌, ◌++◌, length, map, Option, Some, None, slice_get, Contains}
use Rattle.std.specs.List.{AllByRecursion, flat_map}
use Rattle.circus_value.specs.ShapeTree.{ShapeTree, FieldTree}
use Rattle.circus_checked.specs.StatementTree.{StatementTree, StatementTrees, statement_trees, give, raise, branch, no_statements, more_statements}
use Rattle.circus_type.specs.Distinct.{AreDistinct}
use Rattle.circus_type.specs.Limits.{most_parts, most_zero_bytes}
use Rattle.circus_type.specs.Together.{shapes_of, names_of, parts_of, zero_size_of}
use Rattle.circus_type.specs.Obeys.{ObeysWhole}
use Rattle.circus_checked.specs.WellTyped.{AreTyped}
use Rattle.circus_idl.specs.declared.interface.DeclaredError.{DeclaredError}
use Rattle.circus_idl.specs.declared.interface.Procedure.{Procedure}
use Rattle.circus_idl.specs.declared.interface.Interface.{Interface}
use Rattle.circus_limits.specs.Limits.{most_modules}
use Rattle.circus_check.specs.Meaning.{BodyMeant, ModuleMeant}

abbrev mutual
  -- a list of statements ends on every path: by RETURN, RAISE, or a choice whose two lists do
  pub ends : StatementTree → Bool
  ends (give _) = true
  ends (raise _ _) = true
  ends (branch _ ss others) = all_end ss && all_end others
  ends _ = false

  pub all_end : StatementTrees → Bool
  all_end no_statements = false
  all_end (more_statements s no_statements) = ends s
  all_end (more_statements s (more_statements t ss)) = all_end (more_statements t ss)

-- the module of a number has this
abbrev pub IsAt : {X : Type 0} → List X → ℕ → X → Type 0
IsAt xs n x = slice_get xs n ≡ Some x

module _ (interfaces : List Interface) (modules : List ModuleMeant) where
  -- what roots and modules reach: themselves, and what their imports reach
  pub data Reaches : ℕ → ℕ → Type 0 where
    itself : (n : ℕ) → Reaches n n
    through : (n k j : ℕ) (m : ModuleMeant) → IsAt modules n m → Contains m.imports k → Reaches k j → Reaches n j

  -- the interface of the module of a number
  pub record Implements (n : ℕ) (i : Interface) : Type 0 where
    pub «module» : ModuleMeant
    pub number : ℕ
    pub there : IsAt modules n «module»
    pub named : «module».interface ≡ Some number
    pub found : IsAt interfaces number i

  -- a procedure of this interface reports the error of this number, which has values of these shapes
  pub record Raised (i : Interface) (p : Procedure) (number : ℕ) (values : List ShapeTree) : Type 0 where
    pub error : DeclaredError
    pub declared : Contains i.errors error
    pub numbered : error.number ≡ number
    pub reported : Contains p.reports number
    pub shapes : shapes_of error.arguments ≡ values

  -- a procedure of the module of a number, by its own
  pub record Offers (callee number : ℕ) (i : Interface) (p : Procedure) : Type 0 where
    pub implemented : Implements callee i
    pub declared : Contains i.procedures p
    pub numbered : p.number ≡ number

  -- what a module may call, which it imports
  abbrev pub ImportTakes : List ℕ → ℕ → ℕ → List ShapeTree → List ShapeTree → Type 0
  ImportTakes imports callee number arguments gives =
      Contains imports callee × (i : Interface) × (p : Procedure) × Offers callee number i p × (shapes_of p.arguments ≡ arguments) × (shapes_of p.results ≡ gives)

  abbrev pub ImportReports : List ℕ → ℕ → ℕ → ℕ → List ShapeTree → Type 0
  ImportReports imports callee number error values =
      Contains imports callee × (i : Interface) × (p : Procedure) × Offers callee number i p × Raised i p error values

  -- a body with these arguments, which gives these results and raises these errors
  pub record IsBody (m : ModuleMeant) (arguments : List FieldTree) (results : List ShapeTree) (Raises : ℕ → List ShapeTree → Type 0) (b : BodyMeant) : Type 0 where
    pub names : AreDistinct (names_of (m.variables ++ arguments ++ b.locals))
    pub locals : AllByRecursion ObeysWhole (shapes_of b.locals)
    pub ends : all_end (statement_trees b.statements) ≡ true
    pub typed : AreTyped (shapes_of (m.variables ++ arguments ++ b.locals)) (ImportTakes m.imports) (ImportReports m.imports) results Raises (statement_trees b.statements)

  -- a body for each procedure of an interface
  abbrev pub AreBodies : ModuleMeant → Interface → List Procedure → List BodyMeant → Type 0
  AreBodies m i [] [] = Unit {0}
  AreBodies m i [] (b ∷ bs) = ⊥
  AreBodies m i (p ∷ ps) [] = ⊥
  AreBodies m i (p ∷ ps) (b ∷ bs) = IsBody m p.arguments (shapes_of p.results) (Raised i p) b × AreBodies m i ps bs

  -- that of a root
  abbrev pub IsMain : ModuleMeant → List BodyMeant → Type 0
  IsMain m [] = ⊥
  IsMain m (b ∷ []) = IsBody m [] [] (λ _ _. ⊥) b
  IsMain m (b ∷ c ∷ bs) = ⊥

  -- a root has no interface and one body, a module a body for each procedure of its interface
  abbrev pub HasBodies : ModuleMeant → Bool → Option ℕ → Type 0
  HasBodies m true None = IsMain m m.bodies
  HasBodies m true (Some _) = ⊥
  HasBodies m false None = ⊥
  HasBodies m false (Some n) = (i : Interface) × IsAt interfaces n i × AreBodies m i i.procedures m.bodies

  -- the module of a number
  pub record IsModule (n : ℕ) (m : ModuleMeant) : Type 0 where
    -- its imports are earlier modules that aren't roots
    pub imports : AllByRecursion (λ k. (k < n) × (other : ModuleMeant) × IsAt modules k other × (other.root ≡ false)) m.imports
    pub types : AllByRecursion ObeysWhole (shapes_of m.variables)
    pub small : zero_size_of m.variables ≤ most_zero_bytes
    pub parts : parts_of (shapes_of (m.variables ++ flat_map (λ (b : BodyMeant). b.locals) m.bodies)) ≤ most_parts
    pub bodies : HasBodies m m.root m.interface

  pub record AreWellFormed : Type 0 where
    pub few : length modules ≤ most_modules
    pub names : AreDistinct (map (λ (m : ModuleMeant). m.name) modules)
    pub each : (n : ℕ) (m : ModuleMeant) → IsAt modules n m → IsModule n m
    -- no module is reached by two roots
    pub alone : (j r s : ℕ) (first second : ModuleMeant) → IsAt modules r first → IsAt modules s second → first.root ≡ true → second.root ≡ true → Reaches r j → Reaches s j → r ≡ s
