use Rattle.std.proofs.Common.{◌≡◌, length, nat_eq, sym, ◌∙◌, arith}
use Rattle.std.specs.Cmp.Lexicographic.{pointwise}
use Rattle.circus_value.proofs.PointwiseLemmas.{pointwise-append, and_no, and_yes}
use Rattle.circus_value.proofs.parts.PartsPartialEq.eq.Goals as goal

pub returns-then-same : goal.returns-then-same
returns-then-same c =
    let a = c.self.inside in
    let b = c.other.inside in
    let long : length a.first ≡ length b.first = omega (arith, c.len.ensures.value, c.len-2.ensures.value) in
    let first : c.eq.result ≡ pointwise nat_eq a.first b.first = c.eq.ensures ∙ (λ j. pointwise nat_eq (c.as_slice.ensures j) (c.as_slice-then-same.ensures j)) in
    let both = and_yes (pointwise nat_eq a.first b.first) (pointwise nat_eq a.tail b.tail) (sym c.in-Some.ensures ∙ c.if-same.true) in
    first ∙ both ∙ sym (pointwise-append nat_eq a.first a.tail b.first b.tail long) ∙ (λ j. pointwise nat_eq (c.self.view_is j) (c.other.view_is j))

pub returns-else-same : goal.returns-else-same
returns-else-same c =
    let a = c.self.inside in
    let b = c.other.inside in
    let long : length a.first ≡ length b.first = omega (arith, c.len.ensures.value, c.len-2.ensures.value) in
    let both = and_no (pointwise nat_eq a.first b.first) (pointwise nat_eq a.tail b.tail) (sym c.in-Some.ensures ∙ c.if-same.false) in
    c.in-Some.ensures ∙ both ∙ sym (pointwise-append nat_eq a.first a.tail b.first b.tail long) ∙ (λ j. pointwise nat_eq (c.self.view_is j) (c.other.view_is j))
