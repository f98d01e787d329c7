use Rattle.circus_troupe.proofs.Steps.{troupe_is}
use Rattle.circus_troupe.proofs.deployment_reading.troupe.Goals as goal

pub returns : goal.returns
returns c =
    troupe_is c.args.reader.now c.word.new.self c.name.new.self c.word-2.new.self c.call_kind-calls.new.reader c.word-3.new.self c.reply_kind-replies.new.reader c.word-4.new.self c.hosts.new.reader c.spares.new.reader c.sign.new.self
    c.in_ok-name.name c.call_kind-calls.result c.reply_kind-replies.result c.in_ok-members.members c.in_ok-spares.spares
    c.word.ensures c.in_ok-name.ensures c.word-2.ensures c.call_kind-calls.ensures c.word-3.ensures c.reply_kind-replies.ensures c.word-4.ensures c.in_ok-members.ensures c.in_ok-spares.ensures c.sign.ensures
