use Rattle.std.proofs.Common.{◌+◌, ◌<◌, length, Err, refl, sym, ap, subst, ◌∙◌, arith}
use Rattle.std.specs.Prelude.{slice_get}
use Rattle.std.proofs.lemmas.Result.{err_from_is_err_and}
use Rattle.circus_node.specs.declared.event.Event.TheVariants.{Datagram}
use Rattle.circus_world.specs.Sent.{Sent}
use Rattle.circus_world.specs.WorldState.{WorldState}
use Rattle.circus_world.specs.Course.{Stepped, comes_to}
use Rattle.circus_world.specs.Seen.Entries.{sent_as}
use Rattle.circus_world.specs.Seen.Followed.{IsFollowed}
use Rattle.circus_world.specs.Seen.Inside.{inside_of}
use Rattle.circus_world.specs.Seen.Slots.{AreFull}
use Rattle.circus_world.specs.Seen.Sound.{IsSound}
use Rattle.circus_world.proofs.ComeLemmas.{can_come, goes_there, datagram_may_come, same_sent}
use Rattle.circus_world.proofs.SoundLemmas.{comes_sound}
use Rattle.circus_world.proofs.WorldLemmas.{slot_below, made_full, made_is, fault_followed, can_make}
use Rattle.circus_world.proofs.world.World.hear.Goals as goal

pub at-sent-requires : goal.at-sent-requires
at-sent-requires g c =
    let is = ap (λ h. inside_of h) c.deref_mut-own.ensures.value ∙ c.self.view_is in
    subst (λ (w : WorldState g.row.M.Denot). c.args.number < length w.sent) (sym is) c.requires.there

pub hear_at-requires-clause-node : goal.hear_at-requires-clause-node
hear_at-requires-clause-node g c =
    let i = c.deref_mut-own.result.now in
    let full = subst (λ h. AreFull h.slots.items) (sym c.deref_mut-own.ensures.value) c.self.invariant.0 in
    let sound = subst (λ h. IsSound (inside_of h)) (sym c.deref_mut-own.ensures.value) c.self.invariant.1 in
    let sent : Sent = sent_as c.at-sent.result in
    omega (arith, slot_below i.deployment i.modules.items i.slots.items i.sent i.steps (inside_of i) sent.to refl full (goes_there (inside_of i) c.args.number sent sound c.at-sent.ensures), i.slots.ok.0)

pub hear_at-requires-clause-can : goal.hear_at-requires-clause-can
hear_at-requires-clause-can g c =
    let M = g.M.Module in
    let i = c.deref_mut-own.result.now in
    let full = subst (λ h. AreFull h.slots.items) (sym c.deref_mut-own.ensures.value) c.self.invariant.0 in
    let sound = subst (λ h. IsSound (inside_of h)) (sym c.deref_mut-own.ensures.value) c.self.invariant.1 in
    let sent : Sent = sent_as c.at-sent.result in
    can_make M.declared M.turn i.deployment i.modules.items i.steps sent.to (Datagram sent.from sent.bytes) i.slots.items i.sent full
    (λ s at. can_come _ sent.to (Datagram sent.from sent.bytes) s sound (datagram_may_come (inside_of i) c.args.number sent sound c.at-sent.ensures) at)

pub returns-in_err-gives : goal.returns-in_err-gives
returns-in_err-gives g c =
    let M = g.M.Module in
    let i = c.deref_mut-own.result.now in
    let full = subst (λ h. AreFull h.slots.items) (sym c.deref_mut-own.ensures.value) c.self.invariant.0 in
    let is = ap (λ h. inside_of h) c.deref_mut-own.ensures.value ∙ c.self.view_is in
    let p = err_from_is_err_and c.from_residual.result c.from_residual.ensures.1 in
    let own : Sent = sent_as c.at-sent.result in
    let came : Sent → WorldState g.row.M.Denot → Stepped g.row.M.Denot = λ s w. comes_to M.declared M.turn s.to (Datagram s.from s.bytes) w in
    let followed : IsFollowed c.from_residual.result (came own c.args.self) =
    subst (λ r. IsFollowed r (came own c.args.self)) (sym p.1)
    (subst (λ f. IsFollowed (Err f) (came own c.args.self)) (sym p.2)
    (subst (λ (w : WorldState g.row.M.Denot). IsFollowed (Err c.in_err-gives.field-0.0) (came own w)) is
    (fault_followed M.declared M.turn i.deployment i.modules.items i.steps own.to (Datagram own.from own.bytes) i.slots.items c.hear_at.new.slots.items i.sent
    c.in_err-gives.field-0.0 full c.in_err-gives.ensures))) in
    λ sent there. subst (λ s. IsFollowed c.from_residual.result (came s c.args.self))
    (same_sent own sent (sym c.at-sent.ensures ∙ ap (λ (w : WorldState g.row.M.Denot). slice_get w.sent c.args.number) is ∙ there)) followed

pub invariant_of-result : goal.invariant_of-result
invariant_of-result g c =
    let M = g.M.Module in
    let i = c.deref_mut-own.result.now in
    let full = subst (λ h. AreFull h.slots.items) (sym c.deref_mut-own.ensures.value) c.self.invariant.0 in
    let sound = subst (λ h. IsSound (inside_of h)) (sym c.deref_mut-own.ensures.value) c.self.invariant.1 in
    let sent : Sent = sent_as c.at-sent.result in (
      made_full M.declared M.turn (i.steps + 1) sent.to (Datagram sent.from sent.bytes) i.slots.items c.hear_at.new.slots.items c.in_ok-gives.gives full c.in_ok-gives.ensures,
      comes_sound M.declared M.turn sent.to (Datagram sent.from sent.bytes) _ _ sound
          (made_is M.declared M.turn i.deployment i.modules.items i.steps sent.to (Datagram sent.from sent.bytes) i.slots.items c.hear_at.new.slots.items c.in_ok-gives.gives i.sent c.send.new.sent full
          c.in_ok-gives.ensures c.in_ok-send.ensures),
    )

pub returns : goal.returns
returns g c =
    let M = g.M.Module in
    let i = c.deref_mut-own.result.now in
    let full = subst (λ h. AreFull h.slots.items) (sym c.deref_mut-own.ensures.value) c.self.invariant.0 in
    let is = ap (λ h. inside_of h) c.deref_mut-own.ensures.value ∙ c.self.view_is in
    let own : Sent = sent_as c.at-sent.result in
    let came : Sent → WorldState g.row.M.Denot → Stepped g.row.M.Denot = λ s w. comes_to M.declared M.turn s.to (Datagram s.from s.bytes) w in
    λ sent there.
    ap (λ s. came s c.args.self) (sym (same_sent own sent (sym c.at-sent.ensures ∙ ap (λ (w : WorldState g.row.M.Denot). slice_get w.sent c.args.number) is ∙ there)))
    ∙ sym (ap (λ (w : WorldState g.row.M.Denot). came own w) is)
    ∙ made_is M.declared M.turn i.deployment i.modules.items i.steps own.to (Datagram own.from own.bytes) i.slots.items c.hear_at.new.slots.items c.in_ok-gives.gives i.sent c.send.new.sent full
    c.in_ok-gives.ensures c.in_ok-send.ensures
