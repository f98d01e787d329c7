use Rattle.std.proofs.Common.{◌∙◌, ◌++◌, ap, sym, map, None}
use Rattle.circus_syntax.specs.TypeOf.{group_of}
use Rattle.circus_syntax.specs.TypeTree.{group_trees}
use Rattle.circus_fault.specs.Least.{least_from}
use Rattle.circus_fault.proofs.LeastMore.{least_more}
use Rattle.circus_idl.specs.Rank.{rank_of}
use Rattle.circus_idl.specs.Seen.Known.{is_known}
use Rattle.circus_idl.specs.Inside.{repeated_names, inside_groups}
use Rattle.circus_type.specs.Inside.{no_name, group_names}
use Rattle.circus_idl.proofs.scope.are_clean.Goals as goal

pub returns : goal.returns
returns c =
    let groups = group_trees (map group_of c.args.groups.now) in
    let names = repeated_names no_name (group_names groups) in
    let types = inside_groups (is_known c.args.types.now) groups in
    c.is_clean.ensures (names ++ types)
    (c.in_ok-inside_groups.ensures ∙ ap (λ b. least_from rank_of b types) c.in_ok-field_names.ensures ∙ sym (least_more rank_of None names types))
