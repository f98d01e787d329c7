use Rattle.std.proofs.Common.{if◌then◌else◌, Some, None, sym, ap, ◌∙◌}
use Rattle.std.specs.Prelude.{option_map, option_copied}
use Rattle.circus_gather.specs.Gathering.{call_to_start}
use Rattle.circus_model.specs.declared.signature.Signature.{Signature}
use Rattle.circus_member_rules.specs.MemberState.{Doing}
use Rattle.circus_member_rules.specs.Step.{start_by_call, next_start}
use Rattle.circus_member.specs.Seen.Parts.{member_of}
use Rattle.circus_member.proofs.Nexts.{next_given}
use Rattle.circus_member.proofs.doing.Doing.next_start.Goals as goal

pub returns-then-not-is_idle : goal.returns-then-not-is_idle
returns-then-not-is_idle g c =
    let i = c.self.inside in
    let m = member_of i.member in
    let start = start_by_call i.member.place.troupe (g.M.Module.declared i.member.performer.hosted).procedures in
    ap (λ t. option_map start (if t then call_to_start m.gathered m.known.views m.known.down m.place.calls m.performing.kept.count else None)) c.if-not-is_idle.ensures
    ∙ ap (λ (d : Doing g.row.M.Denot). option_map (start_by_call d.member.place.troupe (g.M.Module.declared d.member.performing.hosted).procedures) (next_start d.member)) c.self.view_is

pub returns-in-None : goal.returns-in-None
returns-in-None g c =
    let i = c.self.inside in
    let m = member_of i.member in
    let start = start_by_call i.member.place.troupe (g.M.Module.declared i.member.performer.hosted).procedures in
    ap (option_map start) (next_given m c.views.result.now c.down_nodes.result.now c.record.result.now None c.if-not-is_idle.ensures c.views.ensures c.down_nodes.ensures c.record.ensures.value (sym (ap option_copied c.in-None.is) ∙ c.in_ok-ready.ensures))
    ∙ ap (λ (d : Doing g.row.M.Denot). option_map (start_by_call d.member.place.troupe (g.M.Module.declared d.member.performing.hosted).procedures) (next_start d.member)) c.self.view_is

pub returns-in_ok-start-in-Some : goal.returns-in_ok-start-in-Some
returns-in_ok-start-in-Some g c =
    let i = c.self.inside in
    let m = member_of i.member in
    let start = start_by_call i.member.place.troupe (g.M.Module.declared i.member.performer.hosted).procedures in
    ap Some (c.in_ok-start-in-Some.ensures ∙ ap (λ (s : Signature). start_by_call i.member.place.troupe s.procedures c.in-Some.call.now) c.signature.ensures)
    ∙ ap (option_map start) (next_given m c.views.result.now c.down_nodes.result.now c.record.result.now (Some c.in-Some.call.now) c.if-not-is_idle.ensures c.views.ensures c.down_nodes.ensures c.record.ensures.value (sym (ap option_copied c.in-Some.is) ∙ c.in_ok-ready.ensures))
    ∙ ap (λ (d : Doing g.row.M.Denot). option_map (start_by_call d.member.place.troupe (g.M.Module.declared d.member.performing.hosted).procedures) (next_start d.member)) c.self.view_is
