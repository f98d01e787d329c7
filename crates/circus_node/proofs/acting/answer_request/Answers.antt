use Rattle.std.proofs.Common.{◌≡◌, [], ◌∷◌, ◌++◌, ap, ◌∙◌}
use Rattle.circus_member_rules.specs.Rules.{answer}
use Rattle.circus_node.proofs.RingLemmas.{is_table, kept_now, still_ring, answers_now}
use Rattle.circus_node.proofs.acting.answer_request.Goals as goal

pub table_message-requires : goal.table_message-requires
table_message-requires c =
    is_table c.args.deployment.now c.args.ring.now c.requires.ring c.args.request.now c.in_ok-table.table
    (c.in_ok-table.ensures.answer c.args.deployment.now.troupes c.requires.ring.requests c.requires.ring.kept_is)

pub returns-clause-ring : goal.returns-clause-ring
returns-clause-ring c =
    kept_now c.args.deployment.now c.args.ring.now c.perform.new.self c.requires.ring c.args.request.now
    (c.in_ok-table.ensures.added c.args.deployment.now.troupes c.requires.ring.requests c.requires.ring.kept_is)

pub returns-clause-made : goal.returns-clause-made
returns-clause-made c =
    c.in_ok-push.ensures.ok
    ∙ ap (λ es. es ++ answer c.in_ok-message.message c.args.sender ∷ []) c.new-effects.ensures
    ∙ answers_now c.args.deployment.now c.args.ring.now c.requires.ring c.args.request.now c.in_ok-table.table c.args.sender c.in_ok-message.message
    (c.in_ok-table.ensures.answer c.args.deployment.now.troupes c.requires.ring.requests c.requires.ring.kept_is) c.in_ok-message.ensures

pub returns-clause-kept : goal.returns-clause-kept
returns-clause-kept c =
    still_ring c.args.deployment.now c.args.ring.now c.perform.new.self c.requires.ring c.args.request.now
    (c.in_ok-table.ensures.added c.args.deployment.now.troupes c.requires.ring.requests c.requires.ring.kept_is)
