use Rattle.std.proofs.Common.{◌∙◌, ap, append_assoc}
use Rattle.circus_program.proofs.schedule_refused.line_text.Goals as goal

pub returns : goal.returns
returns c = c.of.ensures ∙ ap (λ v. v.items) c.into_bytes.ensures.value ∙ c.in_ok-text.ensures.ok ∙ simp append_assoc
