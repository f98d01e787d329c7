-- A type's tree as a tree of numbers, by which a proof tells two apart.
use Rattle.std.specs.Prelude.{ℕ, List, [], ◌∷◌, ◌≡◌, refl, Option, Some, None}
use Rattle.std.specs.Coded.{Coded, code_by}
use Rattle.std.proofs.Common.{ap, zero, suc}
use base.Stored.{Gv, gnil, gnum, gcons, num}
use denote.Struct.Codes.{itself}
use Rattle.circus_value.specs.Seen.ValueCode.{bytes_to, bytes_from, bytes_back}
use Rattle.circus_syntax.specs.declared.named.Named.{Named}
use Rattle.circus_syntax.specs.declared.named.Numeral.{Numeral}
use Rattle.circus_syntax.specs.declared.named.TypeName.{TypeName}
use Rattle.circus_syntax.specs.declared.named.LabelText.{LabelText}
use Rattle.circus_syntax.specs.TypeTree.{TypeTree, GroupTrees, ArmTrees, GroupTree, ArmTree, boolean, cardinal, long_cardinal, integer, long_integer, text, enumeration, array, sequence, «record», choice, called, no_groups, more_groups, no_arms, more_arms}

abbrev pub first_of : Gv → Gv
first_of gnil = gnil
first_of (gnum _) = gnil
first_of (gcons g _) = g

abbrev pub second_of : Gv → Gv
second_of gnil = gnil
second_of (gnum _) = gnil
second_of (gcons _ g) = g

abbrev pub named_to : Named → Gv
named_to n = gcons (bytes_to n.name) (gnum n.at)

abbrev pub named_from : Gv → Named
named_from g = record { name = bytes_from (first_of g); at = num (second_of g) }

pub named_back : (n : Named) → named_from (named_to n) ≡ n
named_back n = λ i. record { name = bytes_back n.name i; at = n.at }

abbrev pub nameds_to : List Named → Gv
nameds_to [] = gnil
nameds_to (n ∷ ns) = gcons (named_to n) (nameds_to ns)

abbrev pub nameds_from : Gv → List Named
nameds_from gnil = []
nameds_from (gnum _) = []
nameds_from (gcons n ns) = named_from n ∷ nameds_from ns

pub nameds_back : (ns : List Named) → nameds_from (nameds_to ns) ≡ ns
nameds_back [] = refl
nameds_back (n ∷ ns) = λ i. named_back n i ∷ nameds_back ns i

abbrev pub numeral_to : Numeral → Gv
numeral_to n = gcons (gnum n.value) (gnum n.at)

abbrev pub numeral_from : Gv → Numeral
numeral_from g = record { value = num (first_of g); at = num (second_of g) }

abbrev pub bound_to : Option Numeral → Gv
bound_to None = gnil
bound_to (Some n) = numeral_to n

abbrev pub bound_from : Gv → Option Numeral
bound_from gnil = None
bound_from (gnum _) = None
bound_from (gcons value at) = Some (record { value = num value; at = num at })

pub bound_back : (b : Option Numeral) → bound_from (bound_to b) ≡ b
bound_back None = refl
bound_back (Some n) = refl

abbrev pub prefix_to : Option Named → Gv
prefix_to None = gnil
prefix_to (Some n) = named_to n

abbrev pub prefix_from : Gv → Option Named
prefix_from gnil = None
prefix_from (gnum _) = None
prefix_from (gcons name at) = Some (record { name = bytes_from name; at = num at })

pub prefix_back : (p : Option Named) → prefix_from (prefix_to p) ≡ p
prefix_back None = refl
prefix_back (Some n) = ap (λ (m : Named). Some m) (named_back n)

abbrev pub type_name_to : TypeName → Gv
type_name_to t = gcons (prefix_to t.«module») (named_to t.name)

abbrev pub type_name_from : Gv → TypeName
type_name_from g = record { «module» = prefix_from (first_of g); name = named_from (second_of g) }

pub type_name_back : (t : TypeName) → type_name_from (type_name_to t) ≡ t
type_name_back t = λ i. record { «module» = prefix_back t.«module» i; name = named_back t.name i }

abbrev pub labels_to : List LabelText → Gv
labels_to [] = gnil
labels_to (l ∷ ls) = gcons (gcons (named_to l.name) (numeral_to l.number)) (labels_to ls)

abbrev pub labels_from : Gv → List LabelText
labels_from gnil = []
labels_from (gnum _) = []
labels_from (gcons l ls) = record { name = named_from (first_of l); number = numeral_from (second_of l) } ∷ labels_from ls

pub labels_back : (ls : List LabelText) → labels_from (labels_to ls) ≡ ls
labels_back [] = refl
labels_back (l ∷ ls) = λ i. record { name = named_back l.name i; number = l.number } ∷ labels_back ls i

abbrev mutual
  pub type_to : TypeTree → Gv
  type_to (boolean at) = gcons (gcons (gnum 0) (gnum at)) gnil
  type_to (cardinal at) = gcons (gcons (gnum 1) (gnum at)) gnil
  type_to (long_cardinal at) = gcons (gcons (gnum 2) (gnum at)) gnil
  type_to (integer at) = gcons (gcons (gnum 3) (gnum at)) gnil
  type_to (long_integer at) = gcons (gcons (gnum 4) (gnum at)) gnil
  type_to (text at) = gcons (gcons (gnum 5) (gnum at)) gnil
  type_to (enumeration at ls) = gcons (gcons (gnum 6) (gnum at)) (labels_to ls)
  type_to («record» at gs) = gcons (gcons (gnum 7) (gnum at)) (groups_to gs)
  type_to (choice at rest) = gcons (gcons (gnum 8) (gnum at)) (arms_to rest)
  type_to (array at n t) = gcons (gcons (gnum 9) (gnum at)) (gcons (numeral_to n) (type_to t))
  type_to (sequence at b t) = gcons (gcons (gnum 10) (gnum at)) (gcons (bound_to b) (type_to t))
  type_to (called at name) = gcons (gcons (gnum 11) (gnum at)) (type_name_to name)

  pub groups_to : GroupTrees → Gv
  groups_to no_groups = gnil
  groups_to (more_groups names t gs) = gcons (nameds_to names) (gcons (type_to t) (groups_to gs))

  pub arms_to : ArmTrees → Gv
  arms_to no_arms = gnil
  arms_to (more_arms name number t rest) = gcons (gcons (named_to name) (numeral_to number)) (gcons (type_to t) (arms_to rest))

-- the type with this tag and place, of what follows them read as each kind
abbrev pub type_of_tag : ℕ → ℕ → Gv → GroupTrees → ArmTrees → TypeTree → TypeTree
type_of_tag zero at g gs rest t = boolean at
type_of_tag (suc zero) at g gs rest t = cardinal at
type_of_tag (suc (suc zero)) at g gs rest t = long_cardinal at
type_of_tag (suc (suc (suc zero))) at g gs rest t = integer at
type_of_tag (suc (suc (suc (suc zero)))) at g gs rest t = long_integer at
type_of_tag (suc (suc (suc (suc (suc zero))))) at g gs rest t = text at
type_of_tag (suc (suc (suc (suc (suc (suc zero)))))) at g gs rest t = enumeration at (labels_from g)
type_of_tag (suc (suc (suc (suc (suc (suc (suc zero))))))) at g gs rest t = «record» at gs
type_of_tag (suc (suc (suc (suc (suc (suc (suc (suc zero)))))))) at g gs rest t = choice at rest
type_of_tag (suc (suc (suc (suc (suc (suc (suc (suc (suc zero))))))))) at g gs rest t = array at (numeral_from (first_of g)) t
type_of_tag (suc (suc (suc (suc (suc (suc (suc (suc (suc (suc zero)))))))))) at g gs rest t = sequence at (bound_from (first_of g)) t
type_of_tag (suc (suc (suc (suc (suc (suc (suc (suc (suc (suc (suc _))))))))))) at g gs rest t = called at (type_name_from g)

abbrev mutual
  pub type_from : Gv → TypeTree
  type_from gnil = boolean 0
  type_from (gnum _) = boolean 0
  type_from (gcons tag gnil) = type_of_tag (num (first_of tag)) (num (second_of tag)) gnil no_groups no_arms (boolean 0)
  type_from (gcons tag (gnum _)) = boolean 0
  type_from (gcons tag (gcons g rest)) =
      type_of_tag (num (first_of tag)) (num (second_of tag)) (gcons g rest) (groups_from (gcons g rest)) (arms_from (gcons g rest)) (type_from rest)

  pub groups_from : Gv → GroupTrees
  groups_from gnil = no_groups
  groups_from (gnum _) = no_groups
  groups_from (gcons names gnil) = no_groups
  groups_from (gcons names (gnum _)) = no_groups
  groups_from (gcons names (gcons t gs)) = more_groups (nameds_from names) (type_from t) (groups_from gs)

  pub arms_from : Gv → ArmTrees
  arms_from gnil = no_arms
  arms_from (gnum _) = no_arms
  arms_from (gcons name gnil) = no_arms
  arms_from (gcons name (gnum _)) = no_arms
  arms_from (gcons name (gcons t rest)) = more_arms (named_from (first_of name)) (numeral_from (second_of name)) (type_from t) (arms_from rest)

mutual
  pub type_back : (t : TypeTree) → type_from (type_to t) ≡ t
  type_back (boolean at) = refl
  type_back (cardinal at) = refl
  type_back (long_cardinal at) = refl
  type_back (integer at) = refl
  type_back (long_integer at) = refl
  type_back (text at) = refl
  type_back (enumeration at []) = refl
  type_back (enumeration at (l ∷ ls)) = ap (enumeration at) (labels_back (l ∷ ls))
  type_back («record» at no_groups) = refl
  type_back («record» at (more_groups names t gs)) =
      λ i. «record» at (more_groups (nameds_back names i) (type_back t i) (groups_back gs i))
  type_back (choice at no_arms) = refl
  type_back (choice at (more_arms name number t rest)) =
      λ i. choice at (more_arms (named_back name i) number (type_back t i) (arms_back rest i))
  type_back (array at n t) = ap (array at n) (type_back t)
  type_back (sequence at b t) = λ i. sequence at (bound_back b i) (type_back t i)
  type_back (called at name) = ap (called at) (type_name_back name)

  pub groups_back : (gs : GroupTrees) → groups_from (groups_to gs) ≡ gs
  groups_back no_groups = refl
  groups_back (more_groups names t gs) = λ i. more_groups (nameds_back names i) (type_back t i) (groups_back gs i)

  pub arms_back : (rest : ArmTrees) → arms_from (arms_to rest) ≡ rest
  arms_back no_arms = refl
  arms_back (more_arms name number t rest) =
      λ i. more_arms (named_back name i) number (type_back t i) (arms_back rest i)

abbrev pub coded_type : Coded TypeTree
coded_type = code_by Gv itself type_to type_from type_back

abbrev pub group_to : GroupTree → Gv
group_to g = gcons (nameds_to g.names) (type_to g.shape)

abbrev pub coded_group : Coded GroupTree
coded_group =
    code_by Gv itself group_to (λ g. record { names = nameds_from (first_of g); shape = type_from (second_of g) })
    (λ g. λ i. record { names = nameds_back g.names i; shape = type_back g.shape i })

abbrev pub arm_to : ArmTree → Gv
arm_to a = gcons (gcons (named_to a.name) (numeral_to a.number)) (type_to a.shape)

abbrev pub coded_arm : Coded ArmTree
coded_arm =
    code_by Gv itself arm_to
    (λ g. record { name = named_from (first_of (first_of g)); number = numeral_from (second_of (first_of g)); shape = type_from (second_of g) })
    (λ a. λ i. record { name = named_back a.name i; number = a.number; shape = type_back a.shape i })
