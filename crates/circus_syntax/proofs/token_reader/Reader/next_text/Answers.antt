use Rattle.std.proofs.Common.{◌≡◌}
use Rattle.circus_syntax.specs.Placed.{is_text}
use Rattle.circus_text.specs.Token.{content_of}
use Rattle.circus_syntax.proofs.Viewed.{match_next}
use Rattle.circus_syntax.proofs.token_reader.Reader.next_text.Goals as goal

pub returns-in-None-Some : goal.returns-in-None-Some
returns-in-None-Some c =
    match_next c.self.inside.text.now c.self.inside.left.now c.in-None-Some.field-0-1-1.now c.in-None-Some.token.now c.self.inside.stop c.args.self.now is_text
    (λ content t. content.now ≡ content_of t.bytes) c.text_in.result c.self.view_is c.in-None-Some.is-0 c.in-None-Some.ensures.cases.0 c.text_in.ensures
