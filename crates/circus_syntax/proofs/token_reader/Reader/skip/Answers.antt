use Rattle.std.proofs.lemmas.List.Elements.{All-rest}
use Rattle.circus_text.specs.Token.{IsTokenIn}
use Rattle.circus_syntax.proofs.token_reader.Reader.skip.Goals as goal

pub invariant_of-self : goal.invariant_of-self
invariant_of-self c = (All-rest (IsTokenIn c.self.inside.text.now) _ _ _ c.in-Some.ensures.cases.0 c.self.invariant.0, c.self.invariant.1)
