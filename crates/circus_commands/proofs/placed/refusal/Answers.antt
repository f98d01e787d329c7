use Rattle.std.proofs.Common.{ap, ◌∙◌, ◌++◌, List, ℕ}
use Rattle.circus_commands.specs.declared.status.Status.TheVariants.{BadPlacing}
use Rattle.circus_commands.specs.Placed.{refused_text}
use Rattle.circus_commands.specs.Ending.{Ending}
use Rattle.circus_commands.proofs.placed.refusal.Goals as goal

pub returns-clause-ending : goal.returns-clause-ending
returns-clause-ending c =
    let refused : List ℕ → Ending = λ text. record { status = BadPlacing; text = text } in
    c.of.ensures.text ∙ ap refused (c.in_ok-append_refusal.ensures ∙ ap (λ text. text ++ refused_text c.args.number c.args.cause) c.new-text.ensures.bytes)
