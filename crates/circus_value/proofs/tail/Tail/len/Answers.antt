use Rattle.std.proofs.Common.{◌≡◌, ap, subst, ◌∙◌, slice_get, length, ◌-◌, arith, unwrap_or}
use Rattle.circus_value.proofs.PartLemmas.{last_end}
use Rattle.circus_value.specs.Parts.{AreOctets}
use Rattle.circus_value.proofs.tail.Tail.len.Goals as goal

pub returns-clause-value : goal.returns-clause-value
returns-clause-value c =
    let ends = c.deref.ensures.value ∙ c.self.invariant.0 in
    let last = c.copied.ensures ∙ c.last.ensures.value ∙ ap (λ xs. slice_get xs (length xs - 1)) ends in
    c.unwrap_or.ensures ∙ ap (λ o. unwrap_or o 0) last ∙ last_end c.self.inside.parts.items ∙ ap length c.self.view_is

pub returns-clause-bound : goal.returns-clause-bound
returns-clause-bound c =
    let value : c.unwrap_or.result ≡ length c.args.self.now = returns-clause-value c in
    omega (arith, ap length c.self.view_is, c.self.invariant.2)

pub returns-clause-octets : goal.returns-clause-octets
returns-clause-octets c = subst AreOctets c.self.view_is c.self.invariant.3
