use Rattle.std.proofs.Common.{◌≡◌, ◌+◌, ◌++◌, ◌<◌, length, [], ◌∷◌, ap, subst, ◌∙◌, sym, arith, rules, length-append}
use Rattle.std.specs.List.{concat}
use Rattle.std.proofs.lemmas.List.Elements.{All-push, All-same}
use Rattle.circus_value.specs.Seen.PartEnds.{ends_from}
use Rattle.circus_value.specs.Parts.{AreOctets}
use Rattle.circus_value.proofs.Octets.{both_octets}
use Rattle.circus_value.proofs.PartLemmas.{ends_from-push, concat-push}
use Rattle.circus_value.proofs.tail.Tail.add.Goals as goal

pub invariant_of-self-2 : goal.invariant_of-self-2
invariant_of-self-2 c =
    let ps = c.self.inside.parts.items in
    let part = c.args.part in
    let joined = ap concat c.in_ok-push.ensures.items ∙ concat-push ps part in
    let old : length (concat ps) ≡ length c.args.self.now = ap length c.self.view_is in
    let end : c.len.result + length c.as_slice-bytes.result.now ≡ 0 + length (concat ps) + length part = omega (arith, old, c.len.ensures.value, ap length c.as_slice-bytes.ensures) in
    let octets : AreOctets c.as_slice-bytes.result.now = search rules in
    let some : 0 < length part = search rules in (
      c.push_reserved.ensures.items ∙ ap (λ es. es ++ (c.len.result + length c.as_slice-bytes.result.now) ∷ []) (c.in_ok-reserve.ensures.items ∙ c.self.invariant.0) ∙ ap (λ e. ends_from 0 ps ++ e ∷ []) end ∙ sym (ends_from-push 0 ps part) ∙ ap (ends_from 0) (sym c.in_ok-push.ensures.items),
      All-same (λ p. 0 < length p) _ _ c.in_ok-push.ensures.items (All-push (λ p. 0 < length p) ps part c.self.invariant.1 some),
      omega (arith, ap length joined, length-append (concat ps) part, old, c.requires),
      subst AreOctets (sym joined) (both_octets (concat ps) part c.self.invariant.3 (subst AreOctets c.as_slice-bytes.ensures octets)),
    )

pub returns-clause-ok : goal.returns-clause-ok
returns-clause-ok c =
    ap concat c.in_ok-push.ensures.items ∙ concat-push c.self.inside.parts.items c.args.part ∙ ap (λ l. l ++ c.args.part) c.self.view_is
