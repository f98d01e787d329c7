use Rattle.std.proofs.Common.{◌∙◌}
use Rattle.std.proofs.lemmas.List.Elements.{All-same}
use Rattle.circus_header.specs.CallFields.{IsIncarnation}
use Rattle.circus_fanout.specs.declared.send.Send.{Send}
use Rattle.circus_member_rules.proofs.Calls.{by_the_view}
use Rattle.circus_member_rules.proofs.calls_out.view_calls.Goals as goal

pub calls_of_ask-requires-clause-views : goal.calls_of_ask-requires-clause-views
calls_of_ask-requires-clause-views c =
    All-same (λ (s : Send). IsIncarnation s.incarnation) _ _ (c.as_slice.ensures ∙ c.in_ok-sends.ensures.sends)
    (by_the_view c.args.view.now c.down_nodes.result.now _ c.requires.view)
