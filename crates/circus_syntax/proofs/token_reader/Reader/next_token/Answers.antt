use Rattle.circus_syntax.proofs.Viewed.{next_seen}
use Rattle.circus_syntax.proofs.token_reader.Reader.next_token.Goals as goal

pub returns-in-None-Some : goal.returns-in-None-Some
returns-in-None-Some c =
    next_seen c.self.inside.text.now c.self.inside.left.now c.in-None-Some.field-0-1-1.now c.in-None-Some.token.now c.self.inside.stop c.args.self.now c.bytes.result.now
    c.self.view_is c.in-None-Some.is-0 c.in-None-Some.ensures.cases.0 c.bytes.ensures c.self.invariant.0
