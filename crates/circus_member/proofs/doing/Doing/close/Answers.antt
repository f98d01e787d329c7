use Rattle.std.proofs.Common.{ap, ◌∙◌}
use Rattle.circus_member_rules.specs.OpenAsks.{is_waiting}
use Rattle.circus_member_rules.specs.Seen.Closing.{close_by, closed_by}
use Rattle.circus_member.proofs.Parts.{doing_of}
use Rattle.circus_member_rules.proofs.Unsettled.{waits_as}
use Rattle.circus_member.proofs.doing.Doing.close.Goals as goal

pub returns : goal.returns
returns g c =
    let i = c.self.inside in
    let waits = ap is_waiting c.name_of_open-waits.ensures ∙ waits_as i.member.performer.kept in
    let asks = c.close_by.ensures ∙ ap (λ f. close_by i.member.known f c.args.concern c.args.waited i.member.asks) waits in
    (λ j. doing_of (record i.member { asks = asks j }) i.effects)
    ∙ ap (λ d. closed_by c.args.concern c.args.waited d) c.self.view_is
