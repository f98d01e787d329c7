use Rattle.std.proofs.Common.{Some, None, ap, ◌∙◌}
use Rattle.std.specs.Prelude.{option_and_then}
use Rattle.circus_member_rules.specs.MemberState.{Doing}
use Rattle.circus_member_rules.specs.Rules.{value_of_ask}
use Rattle.circus_member_rules.specs.Step.{value_of_open}
use Rattle.circus_member.specs.Seen.Parts.{member_of}
use Rattle.circus_member.proofs.Nexts.{value_named}
use Rattle.circus_member.proofs.doing.Doing.value_of_open.Goals as goal

pub returns-in_default : goal.returns-in_default
returns-in_default g c =
    let i = c.self.inside in
    let m = member_of i.member in
    value_named m None c.in_default.ensures
    ∙ ap (λ (d : Doing g.row.M.Denot). value_of_open d.member) c.self.view_is

pub returns-in_default-get : goal.returns-in_default-get
returns-in_default-get g c =
    let i = c.self.inside in
    let m = member_of i.member in
    ap (option_and_then (value_of_ask i.member.known)) c.in_default-get.ensures
    ∙ value_named m (Some c.in-Some.name) c.in-Some.ensures
    ∙ ap (λ (d : Doing g.row.M.Denot). value_of_open d.member) c.self.view_is

pub returns-in_ok-copy-in-Some-value_of_ask : goal.returns-in_ok-copy-in-Some-value_of_ask
returns-in_ok-copy-in-Some-value_of_ask g c =
    let i = c.self.inside in
    let m = member_of i.member in
    ap Some c.in_ok-copy-in-Some-value_of_ask.ensures
    ∙ c.in-Some-value_of_ask.ensures
    ∙ ap (option_and_then (value_of_ask i.member.known)) c.in-Some-get.ensures
    ∙ value_named m (Some c.in-Some.name) c.in-Some.ensures
    ∙ ap (λ (d : Doing g.row.M.Denot). value_of_open d.member) c.self.view_is

pub returns-in-None : goal.returns-in-None
returns-in-None g c =
    let i = c.self.inside in
    let m = member_of i.member in
    c.in-None.ensures
    ∙ ap (option_and_then (value_of_ask i.member.known)) c.in-Some-get.ensures
    ∙ value_named m (Some c.in-Some.name) c.in-Some.ensures
    ∙ ap (λ (d : Doing g.row.M.Denot). value_of_open d.member) c.self.view_is
