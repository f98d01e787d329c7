use Rattle.std.proofs.Common.{◌∙◌, sym}
use Rattle.circus_syntax.specs.TypeOf.{tree_of}
use Rattle.circus_type.specs.Seen.Measured.{cut_off}
use Rattle.circus_idl.specs.Seen.Known.{is_known, type_measure}
use Rattle.circus_idl.specs.Seen.Scoped.{cut_in}
use Rattle.circus_idl.specs.Faults.{whole_faults}
use Rattle.circus_idl.proofs.DraftMore.{by_none}
use Rattle.circus_idl.proofs.DeclaredInRange.{none_found, type_in_range}
use Rattle.circus_idl.proofs.scope.Scope.declared_type.Goals as goal

pub shape_meant-requires : goal.shape_meant-requires
shape_meant-requires c =
    let scope = c.args.self.now in
    let t = tree_of c.args.shape.now in
    let types = is_known scope.types in
    let sizes = type_measure scope.types in
    by_none c.whole.new.self.best.fault _ (λ none. type_in_range cut_off (cut_in scope) types sizes scope.parts 1 t
    (none_found c.meet_name.new.best.fault (whole_faults cut_off (cut_in scope) types sizes scope.parts 1 t) (sym c.in_ok-size.ensures.found ∙ none)))
