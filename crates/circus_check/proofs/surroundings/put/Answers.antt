use Rattle.std.proofs.Common.{ℕ, ◌+◌, ◌∙◌, List, Option, Some, ap, sym, map, drop, min, arith, option_map}
use Rattle.circus_value.specs.ShapeOf.{field_of, tree_of}
use Rattle.circus_value.specs.ShapeTree.{field_trees}
use Rattle.circus_type.proofs.Dropped.{drop_more}
use Rattle.circus_resolve.specs.Scope.{Variable}
use Rattle.circus_resolve.specs.Seen.Scoped.{variable_in, variable_as}
use Rattle.circus_idl.specs.Meaning.{standing_for}
use Rattle.circus_check.specs.Scope.{places_behind}
use Rattle.circus_check.specs.Seen.Surroundings.{variables_kept}
use Rattle.circus_check.proofs.Tables.{put_by}
use Rattle.circus_check.proofs.Surrounded.{put_step, put_places}
use Rattle.circus_check.proofs.surroundings.put.Goals as goal

pub loop-field-preserved : goal.loop-field-preserved
loop-field-preserved c =
    let f = c.field-item.result in
    let p = c.loop-field.place in
    let fs = c.as_slice-field-items.result.now in
    let rest = field_trees (map field_of (drop (c.loop-field.field-index + 1) fs)) in
    let left = drop_more fs c.loop-field.field-index f c.loop-field-test.true c.field-item.is in
    let behind : List ℕ → List ℕ → Option Variable = λ bytes. standing_for bytes (Some (record { place = p; shape = tree_of f.shape })) (variable_in c.loop-field.variables) in
    record {
      added = put_step p c.saturating_add-place.result f.name (tree_of f.shape) rest (variable_in c.loop-field.variables) (variable_in c.insert.new.self) _ (omega arith) (omega arith)
          (put_by (option_map variable_as) c.as_slice.result.now c.loop-field.variables c.insert.new.self _ c.in_ok-insert.ensures.updates ∙ ap behind c.as_slice.ensures)
          (ap (λ gs. variables_kept p (field_trees (map field_of gs)) (variable_in c.loop-field.variables)) (sym left) ∙ c.loop-field.invariant.added);
      small = omega arith;
      places = put_places p c.saturating_add-place.result f.name (tree_of f.shape) rest _ (omega arith)
          (ap (λ gs. min (places_behind p (field_trees (map field_of gs))) 65535) (sym left) ∙ c.loop-field.invariant.places);
    }
