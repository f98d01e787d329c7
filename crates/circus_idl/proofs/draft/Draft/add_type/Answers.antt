use Rattle.std.proofs.Common.{◌≡◌, ◌∙◌, ap, sym, map, not, None}
use Rattle.circus_value.specs.ShapeOf as shapes
use Rattle.circus_syntax.specs.TypeOf.{tree_of}
use Rattle.circus_idl.specs.Seen.Known.{type_form}
use Rattle.circus_idl.specs.Meaning.{standing_for}
use Rattle.circus_idl.specs.Meaning.{shape_of_type}
use Rattle.circus_idl.specs.Means.{named_shape}
use Rattle.std.proofs.lemmas.List.{append-nil}
use Rattle.circus_idl.proofs.DraftMore.{none_from, holds_of_none, holds_anyway, standing_here, types_more}
use Rattle.circus_idl.proofs.draft.Draft.add_type.Goals as goal

pub returns-in_ok-push-clause-meant : goal.returns-in_ok-push-clause-meant
returns-in_ok-push-clause-meant c =
    let name = c.args.name.now.name in
    let form = type_form c.args.self.now.scope.types in
    let s = shape_of_type form (tree_of c.args.shape.now) in
    let fault = c.declared_type.new.self.best.fault in
    let none : fault ≡ None = none_from fault (c.is_none.ensures ∙ ap not c.if-is_none.true) in
    let formed = holds_of_none fault (type_form c.declared_type.new.self.types ≡ standing_for name s form) none c.in_ok-declared_type.ensures.formed in
    let shaped : shapes.tree_of c.in_ok-shape_of_name.field-0 ≡ s =
    c.in_ok-shape_of_name.ensures ∙ ap (λ n. type_form c.declared_type.new.self.types n) c.as_slice.ensures ∙ ap (λ f. f name) formed ∙ standing_here name s form in
    holds_anyway fault _
    (λ i. record {
      types = (ap (map named_shape) c.in_ok-push.ensures.ok ∙ types_more c.args.self.now.types (record { name = c.in_ok-copy.field-0; shape = c.in_ok-shape_of_name.field-0 }) name s c.in_ok-copy.ensures shaped) i;
      errors = sym (append-nil c.args.self.now.errors) i;
      procedures = sym (append-nil c.args.self.now.procedures) i;
    })
