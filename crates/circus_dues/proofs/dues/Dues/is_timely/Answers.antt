use Rattle.std.proofs.Common.{◌≡◌, true≢false, sym, ap, subst, ◌∙◌}
use Rattle.std.specs.Bool.{Decides}
use Rattle.circus_dues.specs.Dues.{DuesState, HasAllCome}
use Rattle.circus_dues.specs.Seen.Owing.{is_walked}
use Rattle.circus_dues.proofs.Within.{all_come}
use Rattle.circus_dues.proofs.dues.Dues.is_timely.Goals as goal

pub returns-then-self-clause-all : goal.returns-then-self-clause-all
returns-then-self-clause-all c boot begins first at_boot p rises so =
    let d = c.args.self.now in
    let walked : c.is_walked.result ≡ is_walked d.kept d.owing = c.is_walked.ensures ∙ ap (λ (x : DuesState). is_walked x.kept x.owing) c.self.view_is in
    subst (λ b. Decides b (HasAllCome boot begins first at_boot p d)) (sym walked) (all_come boot begins first at_boot p d rises so)

pub returns-else-self-clause-all : goal.returns-else-self-clause-all
returns-else-self-clause-all c boot begins first at_boot p rises so =
    absurd (true≢false (sym so.timely ∙ sym (ap (λ (x : DuesState). x.owing.is_timely) c.self.view_is) ∙ c.if-self.false))

pub returns-then-self-clause-never : goal.returns-then-self-clause-never
returns-then-self-clause-never c late = absurd (true≢false (sym c.if-self.true ∙ ap (λ (x : DuesState). x.owing.is_timely) c.self.view_is ∙ late))
