-- A shape as a tree of numbers, by which a proof tells two apart.
use Rattle.std.specs.Prelude.{ℕ, List, [], ◌∷◌, ◌≡◌, refl}
use Rattle.std.specs.Coded.{Coded, code_by, coded×, coded_ℕ, coded_list}
use Rattle.std.proofs.Common.{ap, zero, suc}
use base.Stored.{Gv, gnil, gnum, gcons, num}
use denote.Struct.Codes.{itself}
use Rattle.circus_value.specs.declared.shape.Label.{Label}
use Rattle.circus_value.specs.ShapeTree.{ShapeTree, FieldTrees, ArmTrees, FieldTree, ArmTree, boolean, cardinal, long_cardinal, integer, long_integer, text, enumeration, array, sequence, «record», choice, no_fields, more_fields, no_arms, more_arms}
use Rattle.circus_value.specs.Seen.ValueCode.{bytes_to, bytes_from, bytes_back}

abbrev pub labels_to : List Label → Gv
labels_to [] = gnil
labels_to (l ∷ ls) = gcons (gcons (bytes_to l.name) (gnum l.number)) (labels_to ls)

abbrev pub label_from : Gv → Label
label_from gnil = record { name = []; number = 0 }
label_from (gnum _) = record { name = []; number = 0 }
label_from (gcons name number) = record { name = bytes_from name; number = num number }

abbrev pub labels_from : Gv → List Label
labels_from gnil = []
labels_from (gnum _) = []
labels_from (gcons l ls) = label_from l ∷ labels_from ls

pub labels_back : (ls : List Label) → labels_from (labels_to ls) ≡ ls
labels_back [] = refl
labels_back (l ∷ ls) = λ i. record { name = bytes_back l.name i; number = l.number } ∷ labels_back ls i

abbrev mutual
  pub shape_to : ShapeTree → Gv
  shape_to boolean = gcons (gnum 0) gnil
  shape_to cardinal = gcons (gnum 1) gnil
  shape_to long_cardinal = gcons (gnum 2) gnil
  shape_to integer = gcons (gnum 3) gnil
  shape_to long_integer = gcons (gnum 4) gnil
  shape_to text = gcons (gnum 5) gnil
  shape_to (enumeration ls) = gcons (gnum 6) (labels_to ls)
  shape_to («record» fs) = gcons (gnum 7) (fields_to fs)
  shape_to (choice rest) = gcons (gnum 8) (arms_to rest)
  shape_to (array n s) = gcons (gnum 9) (gcons (gnum n) (shape_to s))
  shape_to (sequence n s) = gcons (gnum 10) (gcons (gnum n) (shape_to s))

  pub fields_to : FieldTrees → Gv
  fields_to no_fields = gnil
  fields_to (more_fields name s fs) = gcons (bytes_to name) (gcons (shape_to s) (fields_to fs))

  pub arms_to : ArmTrees → Gv
  arms_to no_arms = gnil
  arms_to (more_arms name number s rest) = gcons (gcons (bytes_to name) (gnum number)) (gcons (shape_to s) (arms_to rest))

-- the shape with this tag, of what follows the tag read as each kind
abbrev pub shape_of_tag : ℕ → Gv → FieldTrees → ArmTrees → ℕ → ShapeTree → ShapeTree
shape_of_tag zero g fs rest n s = boolean
shape_of_tag (suc zero) g fs rest n s = cardinal
shape_of_tag (suc (suc zero)) g fs rest n s = long_cardinal
shape_of_tag (suc (suc (suc zero))) g fs rest n s = integer
shape_of_tag (suc (suc (suc (suc zero)))) g fs rest n s = long_integer
shape_of_tag (suc (suc (suc (suc (suc zero))))) g fs rest n s = text
shape_of_tag (suc (suc (suc (suc (suc (suc zero)))))) g fs rest n s = enumeration (labels_from g)
shape_of_tag (suc (suc (suc (suc (suc (suc (suc zero))))))) g fs rest n s = «record» fs
shape_of_tag (suc (suc (suc (suc (suc (suc (suc (suc zero)))))))) g fs rest n s = choice rest
shape_of_tag (suc (suc (suc (suc (suc (suc (suc (suc (suc zero))))))))) g fs rest n s = array n s
shape_of_tag (suc (suc (suc (suc (suc (suc (suc (suc (suc (suc _)))))))))) g fs rest n s = sequence n s

abbrev pub arm_name : Gv → List ℕ
arm_name gnil = []
arm_name (gnum _) = []
arm_name (gcons name _) = bytes_from name

abbrev pub arm_number : Gv → ℕ
arm_number gnil = 0
arm_number (gnum _) = 0
arm_number (gcons _ number) = num number

abbrev mutual
  pub shape_from : Gv → ShapeTree
  shape_from gnil = boolean
  shape_from (gnum _) = boolean
  shape_from (gcons tag gnil) = shape_of_tag (num tag) gnil no_fields no_arms 0 boolean
  shape_from (gcons tag (gnum _)) = boolean
  shape_from (gcons tag (gcons n rest)) =
      shape_of_tag (num tag) (gcons n rest) (fields_from (gcons n rest)) (arms_from (gcons n rest)) (num n) (shape_from rest)

  pub fields_from : Gv → FieldTrees
  fields_from gnil = no_fields
  fields_from (gnum _) = no_fields
  fields_from (gcons name gnil) = no_fields
  fields_from (gcons name (gnum _)) = no_fields
  fields_from (gcons name (gcons s fs)) = more_fields (bytes_from name) (shape_from s) (fields_from fs)

  pub arms_from : Gv → ArmTrees
  arms_from gnil = no_arms
  arms_from (gnum _) = no_arms
  arms_from (gcons name gnil) = no_arms
  arms_from (gcons name (gnum _)) = no_arms
  arms_from (gcons name (gcons s rest)) = more_arms (arm_name name) (arm_number name) (shape_from s) (arms_from rest)

mutual
  pub shape_back : (t : ShapeTree) → shape_from (shape_to t) ≡ t
  shape_back boolean = refl
  shape_back cardinal = refl
  shape_back long_cardinal = refl
  shape_back integer = refl
  shape_back long_integer = refl
  shape_back text = refl
  shape_back (enumeration []) = refl
  shape_back (enumeration (l ∷ ls)) = ap enumeration (labels_back (l ∷ ls))
  shape_back («record» no_fields) = refl
  shape_back («record» (more_fields name s fs)) =
      λ i. «record» (more_fields (bytes_back name i) (shape_back s i) (fields_back fs i))
  shape_back (choice no_arms) = refl
  shape_back (choice (more_arms name number s rest)) =
      λ i. choice (more_arms (bytes_back name i) number (shape_back s i) (arms_back rest i))
  shape_back (array n s) = ap (array n) (shape_back s)
  shape_back (sequence n s) = ap (sequence n) (shape_back s)

  pub fields_back : (fs : FieldTrees) → fields_from (fields_to fs) ≡ fs
  fields_back no_fields = refl
  fields_back (more_fields name s fs) = λ i. more_fields (bytes_back name i) (shape_back s i) (fields_back fs i)

  pub arms_back : (rest : ArmTrees) → arms_from (arms_to rest) ≡ rest
  arms_back no_arms = refl
  arms_back (more_arms name number s rest) =
      λ i. more_arms (bytes_back name i) number (shape_back s i) (arms_back rest i)

abbrev pub coded_shape : Coded ShapeTree
coded_shape = code_by Gv itself shape_to shape_from shape_back

abbrev pub coded_field : Coded FieldTree
coded_field =
    code_by (List ℕ × ShapeTree) (coded× (coded_list coded_ℕ) coded_shape) (λ f. (f.name, f.shape)) (λ p. record { name = p.0; shape = p.1 }) (λ _. refl)

abbrev pub coded_arm : Coded ArmTree
coded_arm =
    code_by (List ℕ × (ℕ × ShapeTree)) (coded× (coded_list coded_ℕ) (coded× coded_ℕ coded_shape)) (λ a. (a.name, (a.number, a.shape))) (λ p. record { name = p.0; number = p.1.0; shape = p.1.1 }) (λ _. refl)
