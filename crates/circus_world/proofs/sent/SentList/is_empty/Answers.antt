use Rattle.std.proofs.Common.{length, ap, sym, ◌∙◌, arith}
use Rattle.std.proofs.lemmas.Bool.{eqb-true, eq-eqb}
use Rattle.circus_world.proofs.SentLemmas.{length-sent_from, none_sent}
use Rattle.circus_world.proofs.sent.SentList.is_empty.Goals as goal

pub returns : goal.returns
returns c =
    let a = c.self.inside in (
      λ empty. sym c.self.view_is ∙ none_sent a.bytes.items 0 a.entries.items (omega (arith, eqb-true _ _ (sym c.is_empty.ensures ∙ empty), a.entries.ok.0)),
      λ none. c.is_empty.ensures ∙ eq-eqb _ _ (omega (arith, ap length (c.self.view_is ∙ none), length-sent_from a.bytes.items 0 a.entries.items, a.entries.ok.0)),
    )
