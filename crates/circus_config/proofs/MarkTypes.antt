-- Types keep the marks in their places.
use Rattle.std.proofs.Common.{ℕ, zero, suc, [], true, false}
use Rattle.std.specs.Prelude.{codes}
use Rattle.circus_syntax.specs.declared.stopping.StopCause.TheVariants.{TooDeep}
use Rattle.circus_syntax.specs.declared.reading.TypeStart.{TypeStart}
use Rattle.circus_syntax.specs.declared.reading.TypeStart.TheVariants as begins
use Rattle.circus_syntax.specs.TypeTree.{TypeTree, boolean, cardinal, integer, text, enumeration, array, sequence, «record», choice, group_trees, arm_trees}
use Rattle.circus_syntax.specs.Placed.{word, sign, is_lexeme, is_number}
use Rattle.circus_syntax.specs.Reader.{Reader}
use Rattle.circus_syntax.specs.Reading.{names, label, label_of, labels, type_name, name_of_type, start_of_type, long_of, is_long_integer, long, called_of, simple_type, too_deep, group, groups_with, arm, arm_of_parts, type_with, flat_type, type}
use Rattle.circus_config.proofs.Marks.{Keeps, keeps_stopped, keeps_nothing, keeps_both, keeps_mapped, keeps_cased, keeps_either, keeps_optional, keeps_marked, keeps_fixed, keeps_fixed_at, keeps_name, keeps_number, keeps_behind, keeps_list}

pub keeps_names : Keeps names
unfolding names
keeps_names = keeps_list keeps_name

keeps_labels : Keeps labels
unfolding labels label
keeps_labels = keeps_list (keeps_mapped label_of (keeps_both keeps_name (keeps_both (keeps_fixed (sign (codes "("))) (keeps_both keeps_number (keeps_fixed (sign (codes ")")))))))

keeps_type_name : Keeps name_of_type
unfolding name_of_type
keeps_type_name = keeps_mapped (λ x. type_name x.0 x.1) (keeps_both keeps_name (keeps_optional (is_lexeme (sign (codes "."))) (keeps_behind (sign (codes ".")) keeps_name)))

keeps_long : Keeps long
unfolding long is_long_integer
keeps_long =
    keeps_mapped long_of (keeps_both (keeps_fixed_at (word (codes "LONG")))
    (keeps_either (is_lexeme (word (codes "INTEGER"))) (keeps_mapped (λ x. true) (keeps_fixed (word (codes "INTEGER")))) (keeps_mapped (λ x. false) (keeps_fixed (word (codes "CARDINAL"))))))

keeps_simple : (k : TypeStart) → Keeps (simple_type k)
unfolding simple_type
keeps_simple begins.Cardinal = keeps_mapped cardinal (keeps_fixed_at (word (codes "CARDINAL")))
keeps_simple begins.Integer = keeps_mapped integer (keeps_fixed_at (word (codes "INTEGER")))
keeps_simple begins.Long = keeps_long
keeps_simple begins.Text = keeps_mapped text (keeps_fixed_at (word (codes "STRING")))
keeps_simple begins.Labels = keeps_mapped (λ x. enumeration x.0 x.1.0) (keeps_both (keeps_fixed_at (sign (codes "{"))) (keeps_both keeps_labels (keeps_fixed (sign (codes "}")))))
keeps_simple begins.Name = keeps_mapped called_of keeps_type_name
keeps_simple _ = keeps_mapped boolean (keeps_fixed_at (word (codes "BOOLEAN")))

keeps_too_deep : Keeps too_deep
unfolding too_deep
keeps_too_deep = keeps_stopped TooDeep boolean

module _ {inner : Reader → TypeTree × Reader} (T : Keeps inner) where
  keeps_group : Keeps (group inner)
  keeps_group = keeps_mapped (λ x. record { names = x.0; shape = x.1.1 }) (keeps_both keeps_names (keeps_both (keeps_fixed (sign (codes ":"))) T))

  keeps_groups : Keeps (groups_with inner)
  keeps_groups = keeps_either (is_lexeme (sign (codes "]"))) (keeps_nothing []) (keeps_list keeps_group)

  keeps_arm : Keeps (arm inner)
  keeps_arm =
      keeps_mapped arm_of_parts
      (keeps_both keeps_name (keeps_both (keeps_fixed (sign (codes "("))) (keeps_both keeps_number (keeps_both (keeps_fixed (sign (codes ")"))) (keeps_both (keeps_fixed (sign (codes "=>"))) T)))))

  keeps_type_with : (k : TypeStart) → Keeps (type_with inner k)
  keeps_type_with begins.Array =
      keeps_mapped (λ x. array x.0 x.1.0 x.1.1.1) (keeps_both (keeps_fixed_at (word (codes "ARRAY"))) (keeps_both keeps_number (keeps_both (keeps_fixed (word (codes "OF"))) T)))
  keeps_type_with begins.Sequence =
      keeps_mapped (λ x. sequence x.0 x.1.0 x.1.1.1) (keeps_both (keeps_fixed_at (word (codes "SEQUENCE"))) (keeps_both (keeps_optional is_number keeps_number) (keeps_both (keeps_fixed (word (codes "OF"))) T)))
  keeps_type_with begins.Record =
      keeps_mapped (λ x. «record» x.0 (group_trees x.1.1.0))
      (keeps_both (keeps_fixed_at (word (codes "RECORD"))) (keeps_both (keeps_fixed (sign (codes "["))) (keeps_both keeps_groups (keeps_fixed (sign (codes "]"))))))
  keeps_type_with begins.Choice =
      keeps_mapped (λ x. choice x.0 (arm_trees x.1.1.1.0))
      (keeps_both (keeps_fixed_at (word (codes "CHOICE"))) (keeps_both (keeps_fixed (word (codes "OF"))) (keeps_both (keeps_fixed (sign (codes "{"))) (keeps_both (keeps_list keeps_arm) (keeps_fixed (sign (codes "}")))))))
  keeps_type_with begins.Cardinal = keeps_simple begins.Cardinal
  keeps_type_with begins.Integer = keeps_simple begins.Integer
  keeps_type_with begins.Long = keeps_simple begins.Long
  keeps_type_with begins.Text = keeps_simple begins.Text
  keeps_type_with begins.Labels = keeps_simple begins.Labels
  keeps_type_with begins.Name = keeps_simple begins.Name
  keeps_type_with begins.Other = keeps_simple begins.Other

keeps_flat : (k : TypeStart) → Keeps (flat_type k)
keeps_flat begins.Array = keeps_too_deep
keeps_flat begins.Sequence = keeps_too_deep
keeps_flat begins.Record = keeps_too_deep
keeps_flat begins.Choice = keeps_too_deep
keeps_flat begins.Cardinal = keeps_simple begins.Cardinal
keeps_flat begins.Integer = keeps_simple begins.Integer
keeps_flat begins.Long = keeps_simple begins.Long
keeps_flat begins.Text = keeps_simple begins.Text
keeps_flat begins.Labels = keeps_simple begins.Labels
keeps_flat begins.Name = keeps_simple begins.Name
keeps_flat begins.Other = keeps_simple begins.Other

pub keeps_type : (n : ℕ) → Keeps (type n)
unfolding type
keeps_type zero = keeps_marked (keeps_cased start_of_type flat_type keeps_flat)
keeps_type (suc n) = keeps_marked (keeps_cased start_of_type (type_with (type n)) (keeps_type_with (keeps_type n)))
