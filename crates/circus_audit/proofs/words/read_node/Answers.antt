use Rattle.std.proofs.Common.{◌∙◌, sym, map, take}
use Rattle.circus_record.specs.Naming.{host_name}
use Rattle.circus_audit.proofs.Naming.{place_map, named_found, named_missing}
use Rattle.circus_audit.proofs.words.read_node.Goals as goal

pub returns-in-Some : goal.returns-in-Some
returns-in-Some c =
    let name = take c.name_length-len.result c.rest_at-rest.result.now in
    named_found (map host_name c.args.nodes.now) c.args.text.now c.rest_at-rest.result.now c.args.at c.name_length-len.result c.in-Some.node c.rest_at-rest.ensures c.name_length-len.ensures.value c.name_length-len.ensures.within c.requires.at (sym (place_map c.args.nodes.now name) ∙ sym c.in-Some.ensures)

pub returns-in-None : goal.returns-in-None
returns-in-None c =
    let name = take c.name_length-len.result c.rest_at-rest.result.now in
    named_missing (map host_name c.args.nodes.now) c.args.text.now c.rest_at-rest.result.now c.args.at c.name_length-len.result c.rest_at-rest.ensures c.name_length-len.ensures.value (sym (place_map c.args.nodes.now name) ∙ sym c.in-None.ensures)
