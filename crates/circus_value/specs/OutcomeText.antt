-- The text of an outcome.
use Rattle.std.specs.Prelude.{ℕ, List, ◌++◌, codes}
use Rattle.std.specs.Fmt.{decimal}
use Rattle.circus_value.specs.Shown.{shown_list}
use Rattle.circus_value.specs.declared.outcome.Outcome.{Outcome}
use Rattle.circus_value.specs.declared.outcome.Outcome.TheVariants.{Returned, Raised}

-- the results, or the error's number and its values
abbrev pub outcome_text : Outcome → List ℕ
outcome_text (Returned results) = codes "returned " ++ shown_list results
outcome_text (Raised number values) = codes "raised " ++ decimal number ++ codes " " ++ shown_list values
