use Rattle.std.proofs.Common.{◌+◌, length, Err, sym, ap, subst, ◌∙◌, arith}
use Rattle.std.proofs.lemmas.Result.{err_from_is_err_and}
use Rattle.circus_world.specs.WorldState.{WorldState}
use Rattle.circus_world.specs.Course.{comes_to}
use Rattle.circus_world.specs.Seen.Coming.{MayCome}
use Rattle.circus_world.specs.Seen.Followed.{IsFollowed}
use Rattle.circus_world.specs.Seen.Inside.{inside_of}
use Rattle.circus_world.specs.Seen.Slots.{AreFull}
use Rattle.circus_world.specs.Seen.Sound.{IsSound}
use Rattle.circus_world.proofs.ComeLemmas.{can_come}
use Rattle.circus_world.proofs.SoundLemmas.{comes_sound}
use Rattle.circus_world.proofs.WorldLemmas.{slot_below, made_full, made_is, fault_followed, can_make}
use Rattle.circus_world.proofs.world.World.comes_to.Goals as goal

pub make_at-requires-clause-node : goal.make_at-requires-clause-node
make_at-requires-clause-node g c =
    let i = c.deref_mut-own.result.now in
    let full = subst (λ h. AreFull h.slots.items) (sym c.deref_mut-own.ensures.value) c.self.invariant.0 in
    let is = ap (λ h. inside_of h) c.deref_mut-own.ensures.value ∙ c.self.view_is in
    omega (arith, slot_below i.deployment i.modules.items i.slots.items i.sent i.steps c.args.self c.args.node is full c.requires.node, i.slots.ok.0)

pub make_at-requires-clause-can : goal.make_at-requires-clause-can
make_at-requires-clause-can g c =
    let M = g.M.Module in
    let i = c.deref_mut-own.result.now in
    let full = subst (λ h. AreFull h.slots.items) (sym c.deref_mut-own.ensures.value) c.self.invariant.0 in
    let sound = subst (λ h. IsSound (inside_of h)) (sym c.deref_mut-own.ensures.value) c.self.invariant.1 in
    let is = ap (λ h. inside_of h) c.deref_mut-own.ensures.value ∙ c.self.view_is in
    let may = subst (λ (w : WorldState g.row.M.Denot). MayCome (length w.nodes) c.args.node c.args.event) (sym is) c.requires.event in
    can_make M.declared M.turn i.deployment i.modules.items i.steps c.args.node c.args.event i.slots.items i.sent full
    (λ s at. can_come _ c.args.node c.args.event s sound may at)

pub returns-in_err-gives : goal.returns-in_err-gives
returns-in_err-gives g c =
    let M = g.M.Module in
    let i = c.deref_mut-own.result.now in
    let full = subst (λ h. AreFull h.slots.items) (sym c.deref_mut-own.ensures.value) c.self.invariant.0 in
    let is = ap (λ h. inside_of h) c.deref_mut-own.ensures.value ∙ c.self.view_is in
    let p = err_from_is_err_and c.from_residual.result c.from_residual.ensures.1 in
    let came = comes_to M.declared M.turn c.args.node c.args.event in
    subst (λ r. IsFollowed r (came c.args.self)) (sym p.1)
    (subst (λ f. IsFollowed (Err f) (came c.args.self)) (sym p.2)
    (subst (λ (w : WorldState g.row.M.Denot). IsFollowed (Err c.in_err-gives.field-0.0) (came w)) is
    (fault_followed M.declared M.turn i.deployment i.modules.items i.steps c.args.node c.args.event i.slots.items c.make_at.new.slots.items i.sent
    c.in_err-gives.field-0.0 full c.in_err-gives.ensures)))

pub invariant_of-result : goal.invariant_of-result
invariant_of-result g c =
    let M = g.M.Module in
    let i = c.deref_mut-own.result.now in
    let full = subst (λ h. AreFull h.slots.items) (sym c.deref_mut-own.ensures.value) c.self.invariant.0 in
    let sound = subst (λ h. IsSound (inside_of h)) (sym c.deref_mut-own.ensures.value) c.self.invariant.1 in (
      made_full M.declared M.turn (i.steps + 1) c.args.node c.args.event i.slots.items c.make_at.new.slots.items c.in_ok-gives.gives full c.in_ok-gives.ensures,
      comes_sound M.declared M.turn c.args.node c.args.event _ _ sound
          (made_is M.declared M.turn i.deployment i.modules.items i.steps c.args.node c.args.event i.slots.items c.make_at.new.slots.items c.in_ok-gives.gives i.sent c.send.new.sent full
          c.in_ok-gives.ensures c.in_ok-send.ensures),
    )

pub returns : goal.returns
returns g c =
    let M = g.M.Module in
    let i = c.deref_mut-own.result.now in
    let full = subst (λ h. AreFull h.slots.items) (sym c.deref_mut-own.ensures.value) c.self.invariant.0 in
    let is = ap (λ h. inside_of h) c.deref_mut-own.ensures.value ∙ c.self.view_is in
    sym (ap (λ (w : WorldState g.row.M.Denot). comes_to M.declared M.turn c.args.node c.args.event w) is)
    ∙ made_is M.declared M.turn i.deployment i.modules.items i.steps c.args.node c.args.event i.slots.items c.make_at.new.slots.items c.in_ok-gives.gives i.sent c.send.new.sent full
    c.in_ok-gives.ensures c.in_ok-send.ensures
