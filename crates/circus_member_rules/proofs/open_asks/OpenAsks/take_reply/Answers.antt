use Rattle.std.proofs.Common.{◌≡◌, Some, None, refl, ap, ◌∙◌}
use Rattle.circus_member_rules.specs.OpenAsks.{asking_of}
use Rattle.circus_member_rules.specs.Rules.{difference_by}
use Rattle.circus_member_rules.proofs.open_asks.OpenAsks.take_reply.Goals as goal
use Rattle.circus_member_rules.proofs.open_asks.OpenAsks.take_reply.Goals.{in-Some, in-None+in-Returned-1, in-None+in-Raised-1}

pub returns-clause-told : goal.returns-clause-told
returns-clause-told c =
    let tells = difference_by c.args.name c.args.from c.args.reply in
    elim c.match-get_mut.branch [
      | in-Some w ↦
          let found : Some w.in-Some.fanout.now ≡ asking_of c.args.self.now c.args.name = w.in-Some.ensures.value ∙ ap (λ es. asking_of es c.args.name) c.self.view_is in
          rw (w.result-is, ← found) w.take_reply.ensures.told
      | in-None+in-Returned-1 w ↦
          let found : None ≡ asking_of c.args.self.now c.args.name = w.in-None.ensures.value ∙ ap (λ es. asking_of es c.args.name) c.self.view_is in
          rw (w.result-is, ← found) refl
      | in-None+in-Raised-1 w ↦
          let found : None ≡ asking_of c.args.self.now c.args.name = w.in-None.ensures.value ∙ ap (λ es. asking_of es c.args.name) c.self.view_is in
          rw (w.result-is, ← found) refl
    ]
