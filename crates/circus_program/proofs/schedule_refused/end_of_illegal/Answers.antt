use Rattle.std.proofs.Common.{◌≡◌, ◌∙◌, ℕ, List, ap, append_assoc, [], ◌∷◌, ◌++◌, codes}
use Rattle.std.specs.Fmt.{decimal}
use Rattle.circus_collate.specs.declared.deployment.Host.{Host}
use Rattle.circus_record.specs.Line.{line}
use Rattle.circus_record.specs.Naming.{names_of}
use Rattle.circus_commands.specs.declared.status.Status.TheVariants.{BadSchedule}
use Rattle.circus_commands.specs.Ending.{Ending}
use Rattle.circus_program.specs.Replay.{cause_text}
use Rattle.circus_program.proofs.schedule_refused.end_of_illegal.Goals as goal

pieces : (number : ℕ) (cause : List ℕ)
    → codes "schedule line " ++ (decimal number ++ (codes ": " ++ (cause ++ 10 ∷ []))) ≡ line (codes "schedule line " ++ decimal number ++ codes ": " ++ cause)
pieces number cause = simp append_assoc

pub returns-clause-ending : goal.returns-clause-ending
returns-clause-ending c =
    let told : List Host × List (List ℕ) → List ℕ = λ p.
    codes "schedule line " ++ (decimal c.args.number ++ (codes ": " ++ (cause_text (names_of p.0 p.1) c.args.cause ++ 10 ∷ []))) in
    let end : List ℕ → Ending = λ text. record { status = BadSchedule; text = text } in
    let hosts : List Host → List Host × List (List ℕ) = λ hosts. (hosts, []) in
    c.of.ensures.text
    ∙ ap end (c.in_ok-text.ensures.ok ∙ ap told (c.new-names.ensures ∙ ap hosts c.as_slice.ensures) ∙ pieces c.args.number (cause_text (names_of c.args.hosts.now []) c.args.cause))
