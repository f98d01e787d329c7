-- What may be packed, and its bytes.
use Rattle.std.specs.Prelude.{◌≡◌, ℕ, true, Some, List, [], ◌∷◌, ◌++◌}
use Rattle.std.specs.List.{flat_map}
use Rattle.circus_value.specs.ValueTree.{ValueTree}
use Rattle.circus_value.specs.ShapeTree.{FieldTrees, field_trees}
use Rattle.circus_value.specs.declared.outcome.Outcome.{Outcome}
use Rattle.circus_value.specs.declared.outcome.Outcome.TheVariants.{Returned, Raised}
use Rattle.circus_idl.specs.declared.interface.Interface.{Interface}
use Rattle.circus_idl.specs.declared.interface.Procedure.{Procedure}
use Rattle.circus_external.specs.Octets.{word}
use Rattle.circus_external.specs.Spelling.{spelling_of_all, fields_admit}
use Rattle.circus_stub.specs.Unpacked.{procedure_of, raised_fields}

-- arguments of a procedure
pub record AreArguments (i : Interface) (n : ℕ) (values : List ValueTree) : Type 0 where
  pub procedure : Procedure
  pub declared : procedure_of i n ≡ Some procedure
  pub admitted : fields_admit (field_trees procedure.arguments) values ≡ true

-- results, or what the procedure raises
abbrev pub MayEnd : Interface → Procedure → Outcome → Type 0
MayEnd i p (Returned results) = fields_admit (field_trees p.results) results ≡ true
MayEnd i p (Raised n values) = (fields : FieldTrees) × (raised_fields i p n ≡ Some fields) × (fields_admit fields values ≡ true)

-- an outcome of a procedure
pub record IsOutcome (i : Interface) (n : ℕ) (outcome : Outcome) : Type 0 where
  pub procedure : Procedure
  pub declared : procedure_of i n ≡ Some procedure
  pub ends : MayEnd i procedure outcome

-- the bytes of words
abbrev pub words : List ℕ → List ℕ
words numbers = flat_map word numbers

-- word 0 and the results, or word 1, the error's number and its values
abbrev pub outcome_spelling : Outcome → List ℕ
outcome_spelling (Returned results) = words (0 ∷ []) ++ spelling_of_all results
outcome_spelling (Raised n values) = words (1 ∷ n ∷ []) ++ spelling_of_all values

-- the results, or the values of what was raised
abbrev pub outcome_values : Outcome → List ValueTree
outcome_values (Returned results) = results
outcome_values (Raised n values) = values
