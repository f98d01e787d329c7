-- Where the tokens of an interface stand: in a whole type, which is that of a TYPE or of fields and in no other; in a
-- list of arguments or results; in neither.
use Rattle.std.specs.Prelude.{ℕ, List, [], ◌∷◌, ◌++◌, map, Option, Some, None, codes}
use Rattle.std.specs.List.{flat_map}
use Rattle.circus_syntax.specs.declared.named.Named.{Named}
use Rattle.circus_syntax.specs.declared.interface_text.FieldsText.{FieldsText}
use Rattle.circus_syntax.specs.TypeTree.{TypeTree, GroupTrees, no_groups, more_groups, group_trees, type_place}
use Rattle.circus_syntax.specs.InterfaceTree.{DeclaredTree, a_type, an_error, a_procedure, InterfaceTree}
use Rattle.circus_syntax.specs.Placed.{word, sign, Due, due, due_name, due_number}
use Rattle.circus_syntax.specs.Spelling.{comma, if_written, spelling_names, spelling_type, spelling_reports, spelling_numbered}

-- the place of the whole type, and that of the opening bracket of the list
pub record Standing : Type 0 where
  pub within : Option ℕ
  pub list : Option ℕ

abbrev pub outside : Standing
outside = record { within = None; list = None }

abbrev pub in_type : ℕ → Standing → Standing
in_type at s = record { within = Some at; list = s.list }

abbrev pub in_list : ℕ → Standing → Standing
in_list at s = record { within = s.within; list = Some at }

-- tokens that stand in neither
abbrev pub apart : List Due → List Standing
apart ds = map (λ _. outside) ds

abbrev pub standing_type : TypeTree → List Standing
standing_type t = map (in_type (type_place t)) (apart (spelling_type t))

-- names and the type that they share
abbrev pub standing_group : List Named → TypeTree → List Standing
standing_group ns t = apart (spelling_names ns) ++ (apart (due (sign (codes ":")) ∷ []) ++ standing_type t)

abbrev pub standing_more_groups : GroupTrees → List Standing
standing_more_groups no_groups = []
standing_more_groups (more_groups ns t gs) = apart (comma ∷ []) ++ (standing_group ns t ++ standing_more_groups gs)

abbrev pub standing_groups : GroupTrees → List Standing
standing_groups no_groups = []
standing_groups (more_groups ns t gs) = standing_group ns t ++ standing_more_groups gs

-- a list of fields
abbrev pub standing_fields : FieldsText → List Standing
standing_fields f =
    map (in_list f.at)
    (apart (due (sign (codes "[")) ∷ []) ++ (standing_groups (group_trees f.groups) ++ apart (due (sign (codes "]")) ∷ [])))

abbrev pub standing_arguments : Option FieldsText → List Standing
standing_arguments None = []
standing_arguments (Some f) = standing_fields f

abbrev pub standing_results : Option FieldsText → List Standing
standing_results None = []
standing_results (Some f) = apart (due (word (codes "RETURNS")) ∷ []) ++ standing_fields f

abbrev pub standing_declared : DeclaredTree → List Standing
standing_declared (a_type n t) =
    apart (due_name n ∷ due (sign (codes ":")) ∷ due (word (codes "TYPE")) ∷ due (sign (codes "=")) ∷ [])
    ++ (standing_type t ++ apart (due (sign (codes ";")) ∷ []))
standing_declared (an_error e) =
    apart (due_name e.name ∷ due (sign (codes ":")) ∷ due (word (codes "ERROR")) ∷ [])
    ++ (standing_arguments e.arguments ++ apart (spelling_numbered e.number))
standing_declared (a_procedure p) =
    apart (due_name p.name ∷ due (sign (codes ":")) ∷ due (word (codes "PROCEDURE")) ∷ [])
    ++ (standing_arguments p.arguments ++ (standing_results p.results ++ (apart (if_written spelling_reports p.reports) ++ apart (spelling_numbered p.number))))

-- the tokens that spell an interface, one after the other
abbrev pub standings_of_interface : InterfaceTree → List Standing
standings_of_interface tree =
    apart (due_name tree.name ∷ due (sign (codes ":")) ∷ due (word (codes "PROGRAM")) ∷ due_number tree.number ∷ due (word (codes "VERSION"))
    ∷ due_number tree.version ∷ due (sign (codes "=")) ∷ due (word (codes "BEGIN")) ∷ [])
    ++ (flat_map standing_declared tree.declared ++ apart (due (word (codes "END")) ∷ due (sign (codes ".")) ∷ []))
