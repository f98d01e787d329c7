use Rattle.std.proofs.Common.{◌∙◌}
use Rattle.circus_commands.specs.declared.status.Status.TheVariants.{Done}
use Rattle.circus_commands.proofs.Appended.{written_thrice}
use Rattle.circus_commands.proofs.placed.choice.Goals as goal

pub returns-clause-ending : goal.returns-clause-ending
returns-clause-ending c =
    let members = rw (c.as_slice.ensures, c.as_slice-2.ensures) at c.in_ok-append_members.ensures in
    let kept = rw c.requires.kept at c.in_ok-append_kept.ensures in
    let text = written_thrice _ _ _ _ _ _ _ c.new-text.ensures.bytes c.in_ok-push_str.ensures.bytes members kept in
    c.of.ensures.text ∙ (λ i. record { status = Done; text = text i })
