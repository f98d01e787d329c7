use Rattle.std.proofs.Common.{◌∙◌, ap, sym}
use Rattle.circus_syntax.specs.TypeTree.{group_trees}
use Rattle.circus_fault.specs.Least.{least_from}
use Rattle.circus_fault.proofs.LeastMore.{least_more}
use Rattle.circus_idl.specs.Rank.{rank_of}
use Rattle.circus_idl.specs.Seen.Known.{is_known, type_measure}
use Rattle.circus_idl.specs.Inside.{repeated_names}
use Rattle.circus_type.specs.Inside.{no_name, group_names}
use Rattle.circus_idl.specs.Seen.Scoped.{cut_in}
use Rattle.circus_idl.specs.Faults.{groups_faults, fields_faults}
use Rattle.circus_type.specs.Seen.Measured.{cut_off}
use Rattle.circus_idl.proofs.scope.Scope.fields.Goals as goal

pub returns-in_ok-groups-clause-found : goal.returns-in_ok-groups-clause-found
returns-in_ok-groups-clause-found c =
    let s = c.args.self.now in
    let best = s.best.fault in
    let groups = group_trees c.in-Some.fields.groups in
    let names = repeated_names no_name (group_names groups) in
    let types = groups_faults cut_off (cut_in s) (is_known s.types) (type_measure s.types) s.parts groups in
    c.in_ok-groups.ensures.found
    ∙ ap (λ ts. least_from rank_of c.field_names.new.best.fault (groups_faults cut_off (cut_in s) (is_known s.types) (type_measure s.types) s.parts (group_trees ts))) c.as_slice-in-Some.ensures
    ∙ ap (λ b. least_from rank_of b types) (c.in_ok-field_names.ensures ∙ ap (λ ts. least_from rank_of best (repeated_names no_name (group_names (group_trees ts)))) c.as_slice.ensures)
    ∙ sym (least_more rank_of best names types)
    ∙ ap (λ o. least_from rank_of best (fields_faults cut_off (cut_in s) (is_known s.types) (type_measure s.types) s.parts o)) (sym c.in-Some.is)
