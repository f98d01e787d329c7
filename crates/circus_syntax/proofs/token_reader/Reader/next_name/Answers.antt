use Rattle.std.proofs.Common.{◌≡◌}
use Rattle.circus_syntax.specs.Placed.{is_name}
use Rattle.circus_syntax.proofs.Viewed.{match_next}
use Rattle.circus_syntax.proofs.token_reader.Reader.next_name.Goals as goal

pub returns-in-None-Some : goal.returns-in-None-Some
returns-in-None-Some c =
    match_next c.self.inside.text.now c.self.inside.left.now c.in-None-Some.field-0-1-1.now c.in-None-Some.token.now c.self.inside.stop c.args.self.now is_name
    (λ bytes t. bytes.now ≡ t.bytes) c.name_in.result c.self.view_is c.in-None-Some.is-0 c.in-None-Some.ensures.cases.0 c.name_in.ensures
