use Rattle.std.proofs.Common.{ap, ◌∙◌}
use Rattle.std.proofs.lemmas.Result.{on_ok_weaker}
use Rattle.circus_member_rules.specs.MemberState.{behind}
use Rattle.circus_member_rules.specs.Step.{joins}
use Rattle.circus_member.proofs.Parts.{doing_of}
use Rattle.circus_member.proofs.doing.Doing.joins.Goals as goal

pub returns : goal.returns
returns g c =
    let i = c.self.inside in
    on_ok_weaker c.request_to_ring.result (λ made. (λ j. doing_of (record i.member { performer = c.join.ensures j }) (made j)) ∙ ap (λ d. behind d (joins d.member)) c.self.view_is)
    c.request_to_ring.ensures
