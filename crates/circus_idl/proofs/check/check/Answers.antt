use Rattle.std.proofs.Common.{◌≡◌, ◌∙◌, ap, sym, map, None, inr}
use Rattle.circus_syntax.specs.InterfaceTree.{declared_of, interface_of}
use Rattle.circus_fault.specs.Seen.Tables.{known_of}
use Rattle.circus_fault.proofs.LeastIs.{no_least}
use Rattle.circus_idl.specs.Rank.{rank_of}
use Rattle.circus_type.specs.declared.measuring.Measure.{Measure}
use Rattle.circus_idl.specs.Seen.Known.{type_form}
use Rattle.circus_idl.specs.Seen.Drafted.{draft_meaning}
use Rattle.circus_idl.specs.Faults.{Before, read_faults}
use Rattle.circus_idl.specs.Means.{and_then, declarations_meant}
use Rattle.circus_value.specs.ShapeTree.{boolean}
use Rattle.circus_idl.proofs.FoundWhole.{found_whole}
use Rattle.circus_idl.proofs.DraftMore.{holds_of_none}
use Rattle.circus_idl.proofs.DeclaredInRange.{numbers_in_range}
use Rattle.circus_idl.proofs.check.check.Goals as goal

pub returns-in_ok-interface_of_draft-in-None-clause-ok : goal.returns-in_ok-interface_of_draft-in-None-clause-ok
returns-in_ok-interface_of_draft-in-None-clause-ok c =
    let tree = interface_of c.args.tree.now in
    let stop = c.args.stop.now in
    let first = c.start-draft.result in
    let last = c.declare_all.new.draft in
    let slice = c.as_slice.result.now in
    let found = found_whole stop c.args.tree.now slice first.scope _ _ last.scope.best.fault
    c.start-draft.ensures.found c.start-draft.ensures.cut c.start-draft.ensures.before c.note_above.ensures c.note_above-2.ensures c.in_ok-declare_all.ensures.found c.as_slice.ensures in
    let meant = holds_of_none last.scope.best.fault (draft_meaning last ≡ and_then (draft_meaning first) (declarations_meant (type_form first.scope.types) (known_of first.scope.errors) (map declared_of slice))) c.in-None.is c.in_ok-declare_all.ensures.meant in (
      no_least rank_of (read_faults stop tree) (sym found ∙ c.in-None.is),
      record {
        name = c.in_ok-interface_of_draft-in-None.ensures.name;
        number = c.in_ok-interface_of_draft-in-None.ensures.number;
        version = c.in_ok-interface_of_draft-in-None.ensures.version;
        declared =
            c.in_ok-interface_of_draft-in-None.ensures.declared ∙ meant
            ∙ ap (λ m. and_then m (declarations_meant (type_form first.scope.types) (known_of first.scope.errors) (map declared_of slice))) c.start-draft.ensures.drafted
            ∙ ap (λ f. declarations_meant f (known_of first.scope.errors) (map declared_of slice)) c.start-draft.ensures.formed
            ∙ ap (λ (b : Before Measure). declarations_meant (λ _. boolean) b.errors (map declared_of slice)) c.start-draft.ensures.before
            ∙ ap (λ ds. declarations_meant (λ _. boolean) (λ _. None) (map declared_of ds)) c.as_slice.ensures;
      },
    )

pub returns-in-Some-clause-err : goal.returns-in-Some-clause-err
returns-in-Some-clause-err c =
    let first = c.start-draft.result in
    let last = c.declare_all.new.draft in
    let found = found_whole c.args.stop.now c.args.tree.now c.as_slice.result.now first.scope _ _ last.scope.best.fault
    c.start-draft.ensures.found c.start-draft.ensures.cut c.start-draft.ensures.before c.note_above.ensures c.note_above-2.ensures c.in_ok-declare_all.ensures.found c.as_slice.ensures in
    inr (c.in-Some.fault, sym found ∙ c.in-Some.is, c.answer.ensures)

pub interface_of_draft-requires-clause-number : goal.interface_of_draft-requires-clause-number
interface_of_draft-requires-clause-number c =
    let tree = interface_of c.args.tree.now in
    let stop = c.args.stop.now in
    let first = c.start-draft.result in
    let last = c.declare_all.new.draft in
    let found = found_whole stop c.args.tree.now c.as_slice.result.now first.scope _ _ last.scope.best.fault
    c.start-draft.ensures.found c.start-draft.ensures.cut c.start-draft.ensures.before c.note_above.ensures c.note_above-2.ensures c.in_ok-declare_all.ensures.found c.as_slice.ensures in
    (numbers_in_range stop tree (no_least rank_of (read_faults stop tree) (sym found ∙ c.in-None.is))).0

pub interface_of_draft-requires-clause-version : goal.interface_of_draft-requires-clause-version
interface_of_draft-requires-clause-version c =
    let tree = interface_of c.args.tree.now in
    let stop = c.args.stop.now in
    let first = c.start-draft.result in
    let last = c.declare_all.new.draft in
    let found = found_whole stop c.args.tree.now c.as_slice.result.now first.scope _ _ last.scope.best.fault
    c.start-draft.ensures.found c.start-draft.ensures.cut c.start-draft.ensures.before c.note_above.ensures c.note_above-2.ensures c.in_ok-declare_all.ensures.found c.as_slice.ensures in
    (numbers_in_range stop tree (no_least rank_of (read_faults stop tree) (sym found ∙ c.in-None.is))).1
