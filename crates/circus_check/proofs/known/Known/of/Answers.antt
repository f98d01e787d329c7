use Rattle.std.proofs.Common.{◌≡◌, ◌+◌, ◌∙◌, Option, None, ap, sym, subst, drop, Some, option_map, unwrap_or}
use Rattle.std.proofs.lemmas.List.{drop_all}
use denote.Ref.{Bor}
use Rattle.circus_value.specs.declared.shape.Shape.{Shape}
use Rattle.circus_value.specs.ShapeTree.{boolean}
use Rattle.circus_value.specs.ShapeOf.{tree_of}
use Rattle.circus_type.specs.declared.measuring.Measure.{Measure}
use Rattle.circus_type.specs.Seen.Measured.{measure_of}
use Rattle.circus_type.proofs.Dropped.{drop_more}
use Rattle.circus_resolve.specs.Scope.{Standing, a_type, no_type}
use Rattle.circus_resolve.specs.Seen.Scoped.{type_or, type_in}
use Rattle.circus_body.specs.Seen.Named.{offered_as, offered_in}
use Rattle.circus_idl.specs.Meaning.{standing_for}
use Rattle.circus_check.specs.Scope.{types_behind, types_among, shape_or, offered_behind}
use Rattle.circus_check.specs.Scope as scope
use Rattle.circus_check.specs.Seen.Known.{TellApart, size_named, offered_over}
use Rattle.circus_check.proofs.KnownTables.{types_step, sizes_more, offers_step}
use Rattle.circus_check.proofs.ReportsFound.{tell_apart}
use Rattle.circus_check.proofs.Tables.{put_by}
use Rattle.circus_check.proofs.known.Known.of.Goals as goal

pub loop-declared-init : goal.loop-declared-init
loop-declared-init c =
    let nothing = c.nothing-known.ensures in
    record {
      types = ap (types_behind c.as_slice-declared-items.result.now) nothing.types_are ∙ ap (λ ts. types_behind ts (λ _. no_type)) c.as_slice-declared-items.ensures;
      sizes = nothing.sizes_are ∙ (λ i name. measure_of (shape_or (sym nothing.types_are i name)));
      offers = nothing.offers_are;
      order = c.as_slice-known.ensures;
    }

pub loop-declared-preserved : goal.loop-declared-preserved
loop-declared-preserved c =
    let items = c.as_slice-declared-items.result.now in
    let i = c.loop-declared.declared-index in
    let t = c.declared-item.result in
    let rest = drop (i + 1) items in
    let old = c.loop-declared.known in
    let whole = types_among c.args.interface.now in
    let read : Option (Bor Shape) → Standing = λ o. type_or (option_map (λ (s : Bor Shape). a_type (tree_of s.now)) o) in
    let measured : Option Measure → Measure = λ o. unwrap_or o (measure_of boolean) in
    let typed = put_by read c.as_slice-name.result.now old.types.table c.insert.new.self _ c.in_ok-insert.ensures.updates ∙ ap (λ n. standing_for n (a_type (tree_of t.shape)) (type_in old.types)) c.as_slice-name.ensures in
    let sized = put_by measured c.as_slice-name.result.now old.sizes c.insert-in-loop-declared.new.self _ c.in_ok-insert-2.ensures.updates ∙ ap (λ n. standing_for n c.shape_measure.result (size_named old)) c.as_slice-name.ensures in
    record {
      types = types_step t rest (type_in old.types) _ whole typed (subst (λ ts. types_behind ts (type_in old.types) ≡ whole) (drop_more items i t c.loop-declared-test.true c.declared-item.is) c.loop-declared.invariant.types);
      sizes = sizes_more t.name (tree_of t.shape) c.shape_measure.result (type_in old.types) _ (size_named old) _ c.shape_measure.ensures typed sized c.loop-declared.invariant.sizes;
      offers = c.loop-declared.invariant.offers;
      order = c.loop-declared.invariant.order;
    }

pub loop-procedure-init : goal.loop-procedure-init
loop-procedure-init c =
    let before = c.loop-declared.invariant in
    let types = ap (λ ts. types_behind ts (type_in c.loop-declared.known.types)) (sym (drop_all c.loop-declared.declared-index c.as_slice-declared-items.result.now c.loop-declared-test.false)) ∙ before.types in
    record {
      types = types;
      sizes = before.sizes ∙ (λ i name. measure_of (shape_or (types i name)));
      offers = ap (offered_behind c.args.interface.now c.as_slice-procedure-items.result.now) before.offers ∙ ap (λ ps. offered_behind c.args.interface.now ps (λ _. None)) c.as_slice-procedure-items.ensures;
      order = before.order;
    }

pub loop-procedure-preserved : goal.loop-procedure-preserved
loop-procedure-preserved c =
    let items = c.as_slice-procedure-items.result.now in
    let i = c.loop-procedure.procedure-index in
    let p = c.procedure-item.result in
    let rest = drop (i + 1) items in
    let old = c.loop-procedure.known in
    let before = c.loop-procedure.invariant in
    let interface = c.args.interface.now in
    let whole = scope.offered_in interface in
    let o = offered_as c.in_ok-offered.offered in
    let over = c.in_ok-offered.ensures ∙ ap (λ es. offered_over es p) (c.in_ok-errors.ensures ∙ c.as_slice.ensures) in
    let put = put_by (option_map offered_as) c.as_slice-in-loop-procedure.result.now old.procedures.table c.insert-in-loop-procedure.new.self c.in_ok-offered.offered c.in_ok-insert-3.ensures.updates ∙ ap (λ n. standing_for n (Some o) (offered_in old.procedures)) c.as_slice-in-loop-procedure.ensures in
    record {
      types = before.types;
      sizes = before.sizes;
      offers = offers_step interface p rest (offered_in old.procedures) _ whole o over put (subst (λ ps. offered_behind interface ps (offered_in old.procedures) ≡ whole) (drop_more items i p c.loop-procedure-test.true c.procedure-item.is) before.offers);
      order = before.order;
    }

pub returns : goal.returns
returns c = record {
  types_are = c.loop-procedure.invariant.types;
  sizes_are = c.loop-procedure.invariant.sizes;
  offers_are = ap (λ ps. offered_behind c.args.interface.now ps (offered_in c.loop-procedure.known.procedures)) (sym (drop_all c.loop-procedure.procedure-index c.as_slice-procedure-items.result.now c.loop-procedure-test.false)) ∙ c.loop-procedure.invariant.offers;
  order_is = c.loop-procedure.invariant.order;
}

pub offer_of-requires : goal.offer_of-requires
offer_of-requires c =
    subst TellApart (sym (c.in_ok-errors.ensures ∙ c.as_slice.ensures)) (tell_apart c.args.interface.now c.requires)
