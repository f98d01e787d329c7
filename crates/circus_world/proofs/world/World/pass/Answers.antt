use Rattle.std.proofs.Common.{sym, ap, subst, ◌∙◌}
use Rattle.circus_world.specs.Course.{pass_step}
use Rattle.circus_world.specs.Seen.Slots.{AreFull}
use Rattle.circus_world.specs.Seen.Sound.{IsSound}
use Rattle.circus_world.specs.Seen.Inside.{inside_of}
use Rattle.circus_world.proofs.SoundLemmas.{passed_sound}
use Rattle.circus_world.proofs.world.World.pass.Goals as goal

pub invariant_of-result : goal.invariant_of-result
invariant_of-result g c =
    let full = subst (λ h. AreFull h.slots.items) (sym c.deref_mut-own.ensures.value) c.self.invariant.0 in
    let sound = subst (λ h. IsSound (inside_of h)) (sym c.deref_mut-own.ensures.value) c.self.invariant.1 in
    (full, passed_sound _ sound)

pub returns : goal.returns
returns g c = ap pass_step (ap (λ h. inside_of h) c.deref_mut-own.ensures.value ∙ c.self.view_is)
