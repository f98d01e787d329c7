use Rattle.std.proofs.Common.{cond, ◌∙◌, ap}
use Rattle.std.specs.Prelude.{Some, option_map, bytes_eq}
use Rattle.std.proofs.lemmas.Map.Text.{btree_map_updates_str}
use Rattle.circus_place.specs.Seen.Table.{constant_at}
use Rattle.circus_place.proofs.Tables.{table_more, option_map-cond}
use Rattle.circus_place.proofs.attributes.Attributes.of.Goals as goal

pub loop-attribute-preserved : goal.loop-attribute-preserved
loop-attribute-preserved c = λ name.
    table_more c.args.attributes.now c.loop-attribute.attribute-index c.attribute-item.result name (constant_at (record { table = c.loop-attribute.table }) name) (constant_at (record { table = c.insert.new.self }) name)
    c.loop-attribute-test.true c.attribute-item.is c.requires (c.loop-attribute.invariant name)
    (ap (option_map (λ x. x.now)) (btree_map_updates_str c.as_slice.result.now c.loop-attribute.table c.insert.new.self _ c.in_ok-insert.ensures.updates name)
    ∙ option_map-cond (λ x. x.now) (bytes_eq c.as_slice.result.now name) _ _
    ∙ ap (λ bytes. cond (bytes_eq bytes name) (Some c.attribute-item.result.constant) (constant_at (record { table = c.loop-attribute.table }) name)) c.as_slice.ensures)
