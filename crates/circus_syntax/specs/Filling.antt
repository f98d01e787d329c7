-- What is filled in where reading an interface stopped: a name is x, a number 0, a type BOOLEAN, a list has one item, and what
-- may be left out is.
use Rattle.std.specs.Prelude.{◌≡◌, ◌==◌, Bool, true, false, List, [], ◌∷◌, ◌++◌, bytes_eq, Option, Some, None, codes}
use Rattle.std.specs.List.{flat_map}
use Rattle.circus_syntax.specs.declared.named.Named.{Named}
use Rattle.circus_syntax.specs.declared.named.Numeral.{Numeral}
use Rattle.circus_syntax.specs.declared.named.LabelText.{LabelText}
use Rattle.circus_syntax.specs.declared.interface_text.FieldsText.{FieldsText}
use Rattle.circus_syntax.specs.TypeTree.{TypeTree, GroupTrees, ArmTrees, boolean, cardinal, long_cardinal, integer, long_integer, text, enumeration, array, sequence, «record», choice, called, no_groups, more_groups, no_arms, more_arms, group_trees}
use Rattle.circus_syntax.specs.InterfaceTree.{DeclaredTree, a_type, an_error, a_procedure, InterfaceTree}
use Rattle.circus_syntax.specs.Placed.{Placed}

-- whether each token of a tree is one that would be filled in there
abbrev pub as_name : Named → List Bool
as_name n = bytes_eq n.name (codes "x") ∷ []

abbrev pub as_number : Numeral → List Bool
as_number n = (n.value == 0) ∷ []

-- items behind the first one
abbrev pub behind_commas : {A : Type 0} → (A → List Bool) → List A → List Bool
behind_commas so xs = flat_map (λ x. false ∷ so x) xs

abbrev pub as_listed : {A : Type 0} → (A → List Bool) → List A → List Bool
as_listed so [] = []
as_listed so (x ∷ xs) = so x ++ behind_commas so xs

abbrev pub as_names : List Named → List Bool
as_names ns = as_listed as_name ns

abbrev pub as_label : LabelText → List Bool
as_label l = as_name l.name ++ true ∷ (as_number l.number ++ true ∷ [])

abbrev pub as_bound : Option Numeral → List Bool
as_bound None = []
as_bound (Some n) = false ∷ []

abbrev pub as_type_name : Option Named → Named → List Bool
as_type_name None n = false ∷ []
as_type_name (Some m) n = false ∷ false ∷ as_name n

-- the bracket behind groups
abbrev pub as_closed : GroupTrees → List Bool
as_closed no_groups = false ∷ []
as_closed (more_groups ns t gs) = true ∷ []

abbrev mutual
  pub as_type : TypeTree → List Bool
  as_type (boolean at) = true ∷ []
  as_type (cardinal at) = false ∷ []
  as_type (long_cardinal at) = false ∷ true ∷ []
  as_type (integer at) = false ∷ []
  as_type (long_integer at) = false ∷ false ∷ []
  as_type (text at) = false ∷ []
  as_type (enumeration at ls) = false ∷ (as_listed as_label ls ++ true ∷ [])
  as_type (array at n t) = false ∷ (as_number n ++ true ∷ as_type t)
  as_type (sequence at bound t) = false ∷ (as_bound bound ++ true ∷ as_type t)
  as_type («record» at gs) = false ∷ true ∷ (as_groups gs ++ as_closed gs)
  as_type (choice at rest) = false ∷ true ∷ true ∷ (as_arms rest ++ true ∷ [])
  as_type (called at name) = as_type_name name.«module» name.name

  pub as_groups : GroupTrees → List Bool
  as_groups no_groups = []
  as_groups (more_groups ns t gs) = (as_names ns ++ true ∷ as_type t) ++ as_more_groups gs

  pub as_more_groups : GroupTrees → List Bool
  as_more_groups no_groups = []
  as_more_groups (more_groups ns t gs) = (false ∷ (as_names ns ++ true ∷ as_type t)) ++ as_more_groups gs

  pub as_arms : ArmTrees → List Bool
  as_arms no_arms = []
  as_arms (more_arms n k t rest) = (as_name n ++ true ∷ (as_number k ++ true ∷ true ∷ as_type t)) ++ as_more_arms rest

  pub as_more_arms : ArmTrees → List Bool
  as_more_arms no_arms = []
  as_more_arms (more_arms n k t rest) = (false ∷ (as_name n ++ true ∷ (as_number k ++ true ∷ true ∷ as_type t))) ++ as_more_arms rest

-- what stands in the brackets of fields, and their end
abbrev pub as_fields : FieldsText → List Bool
as_fields f = as_groups (group_trees f.groups) ++ as_closed (group_trees f.groups)

abbrev pub as_arguments : Option FieldsText → List Bool
as_arguments None = []
as_arguments (Some f) = false ∷ as_fields f

abbrev pub as_results : Option FieldsText → List Bool
as_results None = []
as_results (Some f) = false ∷ true ∷ as_fields f

abbrev pub as_reports : Option (List Named) → List Bool
as_reports None = []
as_reports (Some ns) = false ∷ true ∷ (as_names ns ++ true ∷ [])

abbrev pub as_numbered : Numeral → List Bool
as_numbered n = true ∷ (as_number n ++ true ∷ [])

abbrev pub as_declared : DeclaredTree → List Bool
as_declared (a_type n t) = false ∷ true ∷ true ∷ true ∷ (as_type t ++ true ∷ [])
as_declared (an_error e) = false ∷ true ∷ false ∷ (as_arguments e.arguments ++ as_numbered e.number)
as_declared (a_procedure p) = false ∷ true ∷ false ∷ (as_arguments p.arguments ++ (as_results p.results ++ (as_reports p.reports ++ as_numbered p.number)))

-- an interface behind its name
abbrev pub as_behind_name : InterfaceTree → List Bool
as_behind_name tree =
    (true ∷ true ∷ (as_number tree.number ++ true ∷ (as_number tree.version ++ true ∷ true ∷ [])))
    ++ (flat_map as_declared tree.declared ++ true ∷ true ∷ [])

abbrev pub as_interface : InterfaceTree → List Bool
as_interface tree = as_name tree.name ++ as_behind_name tree

-- one that may be left out
abbrev pub as_further : InterfaceTree → List Bool
as_further tree = false ∷ as_behind_name tree

-- all of these are
abbrev pub AllSo : List Bool → Type 0
AllSo [] = Unit {0}
AllSo (b ∷ bs) = (b ≡ true) × AllSo bs

-- all behind these tokens are
abbrev pub AllBehind : List Placed → List Bool → Type 0
AllBehind [] bs = AllSo bs
AllBehind (t ∷ ts) [] = Unit {0}
AllBehind (t ∷ ts) (b ∷ bs) = AllBehind ts bs
