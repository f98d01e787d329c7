use Rattle.std.proofs.Common.{◌≡◌, length, nat_eq, sym, ap, ◌∙◌, arith}
use Rattle.std.specs.Cmp.Lexicographic.{pointwise, bytes_decides}
use Rattle.circus_value.specs.Seen.PartEnds.{ends_from}
use Rattle.circus_value.proofs.PartLemmas.{length-ends_from}
use Rattle.circus_value.proofs.PointwiseLemmas.{pointwise-concat}
use Rattle.circus_value.proofs.tail.Tail.same.Goals as goal

pub same_parts-requires : goal.same_parts-requires
same_parts-requires c =
    let ps = c.self.inside.parts.items in
    let qs = c.other.inside.parts.items in
    let ends = (bytes_decides c.self.inside.ends.items c.other.inside.ends.items).0 (sym c.eq.ensures ∙ c.if-eq.true) in
    let same : ends_from 0 ps ≡ ends_from 0 qs = sym c.self.invariant.0 ∙ ends ∙ c.other.invariant.0 in
    omega (arith, ap length same, length-ends_from 0 ps, length-ends_from 0 qs, c.deref.ensures.len, c.deref-then-eq.ensures.len, ap length c.deref.ensures.value, ap length c.deref-then-eq.ensures.value)

pub returns-then-eq : goal.returns-then-eq
returns-then-eq c =
    let ps = c.self.inside.parts.items in
    let qs = c.other.inside.parts.items in
    let ends = (bytes_decides c.self.inside.ends.items c.other.inside.ends.items).0 (sym c.eq.ensures ∙ c.if-eq.true) in
    let same : ends_from 0 ps ≡ ends_from 0 qs = sym c.self.invariant.0 ∙ ends ∙ c.other.invariant.0 in
    c.same_parts.ensures ∙ (λ j. pointwise (pointwise nat_eq) (c.deref.ensures.value j) (c.deref-then-eq.ensures.value j))
    ∙ sym (pointwise-concat 0 ps qs same) ∙ (λ j. pointwise nat_eq (c.self.view_is j) (c.other.view_is j))
