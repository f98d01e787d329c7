use Rattle.std.proofs.Common.{◌≡◌, ◌∙◌, ◌⊎◌, Err, ap, subst, inl, inr}
use Rattle.circus_schedule.specs.Meaning.{Numbers, numbers_of}
use Rattle.circus_schedule.specs.Answer.{IsAnswer}
use Rattle.circus_schedule.specs.Seen.Table.{number_in}
use Rattle.circus_schedule.specs.declared.schedule_fault.ScheduleFault.TheVariants.{NoMemory}
use Rattle.circus_schedule.proofs.NamedNodes.{answer_below}
use Rattle.circus_schedule.proofs.OneAnswer.{IsAnswer-one}
use Rattle.circus_schedule.proofs.read.read_schedule.Goals as goal

pub returns-clause-only : goal.returns-clause-only
returns-clause-only c = λ answer is.
    let numbers = numbers_of c.args.deployment.now.nodes in
    let same : number_in c.in_ok-numbers.numbers ≡ numbers = c.in_ok-numbers.ensures ∙ ap numbers_of c.as_slice.ensures in
    elim c.read_lines.ensures [
      | inl none ↦ inr none
      | inr found ↦
          inl (IsAnswer-one numbers c.args.bytes.now c.read_lines.result answer
          (subst (λ (n : Numbers). IsAnswer n c.args.bytes.now c.read_lines.result) same found) is)
    ]

pub returns-clause-nodes : goal.returns-clause-nodes
returns-clause-nodes c =
    let nodes = c.args.deployment.now.nodes in
    let same : number_in c.in_ok-numbers.numbers ≡ numbers_of nodes = c.in_ok-numbers.ensures ∙ ap numbers_of c.as_slice.ensures in
    answer_below nodes c.args.bytes.now c.read_lines.result
    (subst (λ (n : Numbers). (c.read_lines.result ≡ Err NoMemory) ⊎ IsAnswer n c.args.bytes.now c.read_lines.result) same c.read_lines.ensures)
