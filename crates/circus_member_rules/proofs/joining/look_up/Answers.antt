use Rattle.std.proofs.Common.{◌∙◌}
use Rattle.std.proofs.lemmas.List.Elements.{All-same}
use Rattle.circus_header.specs.CallFields.{IsModule}
use Rattle.circus_member_rules.proofs.Calls.{lookups_are_modules}
use Rattle.circus_member_rules.proofs.joining.look_up.Goals as goal

pub add_lookups-requires : goal.add_lookups-requires
add_lookups-requires c =
    All-same IsModule _ _ (c.as_slice.ensures ∙ c.in_ok-troupes.ensures.due) (lookups_are_modules c.args.known.now c.requires)
