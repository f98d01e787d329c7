use Rattle.std.proofs.Common.{◌≡◌, ◌∙◌, ℕ, List, ap, append_assoc, [], ◌∷◌, ◌++◌, codes}
use Rattle.std.specs.Fmt.{decimal}
use Rattle.circus_commands.specs.declared.status.Status.TheVariants.{BadRecord}
use Rattle.circus_commands.specs.Ending.{Ending}
use Rattle.circus_program.specs.Audit.{bad_line_end}
use Rattle.circus_program.proofs.audited.bad_line.Goals as goal

joined : (a b c d : List ℕ) → a ++ (b ++ (c ++ d)) ≡ (a ++ (b ++ c)) ++ d
joined a b c d = simp append_assoc

bad_end : List ℕ → Ending
bad_end text = record { status = BadRecord; text = text }

pieces : (number : ℕ) → bad_end (codes "record line " ++ (decimal number ++ codes ": bad line\n")) ≡ bad_line_end number
unfolding bad_end
pieces number = ap (λ text. record { status = BadRecord; text = text }) (joined (codes "record line ") (decimal number) (codes ": bad line") (10 ∷ []))

pub returns-clause-ending : goal.returns-clause-ending
unfolding bad_end
returns-clause-ending c = c.of.ensures.text ∙ ap bad_end c.in_ok-text.ensures.ok ∙ pieces c.args.number
