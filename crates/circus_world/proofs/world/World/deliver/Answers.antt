use Rattle.std.proofs.Common.{◌≡◌, true, false, Ok, sym, ap, subst, ◌∙◌}
use Rattle.std.specs.Prelude.{slice_get, option_map}
use Rattle.std.proofs.lemmas.Option.{slice_get_within}
use Rattle.circus_world.specs.Sent.{Sent}
use Rattle.circus_world.specs.WorldState.{WorldState, is_live}
use Rattle.circus_world.specs.Course.{Stepped}
use Rattle.circus_world.specs.Seen.Entries.{sent_as}
use Rattle.circus_world.specs.Seen.Followed.{IsFollowed}
use Rattle.circus_world.specs.Seen.Inside.{inside_of}
use Rattle.circus_world.specs.Seen.Sound.{IsSound}
use Rattle.circus_world.proofs.ComeLemmas.{goes_there, delivered_at}
use Rattle.circus_world.proofs.LegalLemmas.{live_so, down_so}
use Rattle.circus_world.proofs.world.World.deliver.Goals as goal

pub crashed-requires : goal.crashed-requires
crashed-requires g c =
    let w = c.args.self in
    let sound : IsSound w = subst (λ (v : WorldState g.row.M.Denot). IsSound v) c.self.view_is c.self.invariant.1 in
    let there = sym (ap (λ (v : WorldState g.row.M.Denot). slice_get v.sent c.args.number) (ap (λ h. inside_of h) c.deref.ensures ∙ c.self.view_is)) ∙ sym c.get.ensures ∙ ap (option_map sent_as) c.in-Some.is in
    goes_there w c.args.number (sent_as c.in-Some.sent) sound there

pub returns-then-is_some : goal.returns-then-is_some
returns-then-is_some g c =
    let M = g.M.Module in
    let w = c.args.self in
    let there = sym (ap (λ (v : WorldState g.row.M.Denot). slice_get v.sent c.args.number) (ap (λ h. inside_of h) c.deref.ensures ∙ c.self.view_is)) ∙ sym c.get.ensures ∙ ap (option_map sent_as) c.in-Some.is in
    let sent : Sent = sent_as c.in-Some.sent in
    let down : is_live w sent.to ≡ false = down_so w sent.to c.crashed.result c.crashed.ensures (sym c.is_some.ensures ∙ c.if-is_some.true) in
    delivered_at M.declared M.turn w c.args.number sent false there down ∙ ap Ok (sym c.pass.ensures)

pub hear-requires-clause-there : goal.hear-requires-clause-there
hear-requires-clause-there g c =
    let w = c.args.self in
    let there = sym (ap (λ (v : WorldState g.row.M.Denot). slice_get v.sent c.args.number) (ap (λ h. inside_of h) c.deref.ensures ∙ c.self.view_is)) ∙ sym c.get.ensures ∙ ap (option_map sent_as) c.in-Some.is in
    slice_get_within w.sent c.args.number (sent_as c.in-Some.sent) there

pub returns : goal.returns
returns g c =
    let M = g.M.Module in
    let w = c.args.self in
    let sound : IsSound w = subst (λ (v : WorldState g.row.M.Denot). IsSound v) c.self.view_is c.self.invariant.1 in
    let there = sym (ap (λ (v : WorldState g.row.M.Denot). slice_get v.sent c.args.number) (ap (λ h. inside_of h) c.deref.ensures ∙ c.self.view_is)) ∙ sym c.get.ensures ∙ ap (option_map sent_as) c.in-Some.is in
    let sent : Sent = sent_as c.in-Some.sent in
    let live : is_live w sent.to ≡ true =
    live_so w sent.to c.crashed.result (goes_there w c.args.number sent sound there) c.crashed.ensures (sym c.is_some.ensures ∙ c.if-is_some.false) in
    subst (λ (end : Stepped g.row.M.Denot). IsFollowed c.hear.result end) (sym (delivered_at M.declared M.turn w c.args.number sent true there live)) (c.hear.ensures sent there)
