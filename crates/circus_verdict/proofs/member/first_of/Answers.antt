use Rattle.std.proofs.Common.{◌≡◌, ◌∙◌, ◌<◌, length, sym, ap, arith}
use Rattle.std.specs.Prelude.{slice_get}
use Rattle.std.proofs.lemmas.Option.{same_Some}
use Rattle.std.proofs.lemmas.Result.{IfOk-weaker}
use Rattle.circus_model.specs.Behaviour.{Behaviour, behaviours}
use Rattle.circus_model.proofs.Threads.{behaviour, module_at}
use Rattle.circus_verdict.proofs.member.first_of.Goals as goal

pub returns : goal.returns
returns g c =
    let M = g.M.Module in
    let m = c.index-modules-from.result in
    let place = c.from.result in
    let place_is : place ≡ c.args.number = c.from.ensures in
    let within : place < length c.args.modules.now = (let less = c.requires in omega (arith, less, place_is)) in
    IfOk-weaker c.first_state.result _ _
    (λ state is b there.
    let same = same_Some (behaviour M.declared M.turn M.first m) b (sym (module_at M.declared M.turn M.first c.args.modules.now place m within c.index-modules-from.is) ∙ ap (slice_get (behaviours M.declared M.turn M.first c.args.modules.now)) place_is ∙ there) in
    is ∙ ap (λ (x : Behaviour). x.first) same)
    c.first_state.ensures
