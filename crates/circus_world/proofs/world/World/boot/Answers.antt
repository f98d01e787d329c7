use Rattle.std.proofs.Common.{List, Ok, Err, sym, subst}
use Rattle.std.proofs.lemmas.Result.{err_from_is_err_and}
use Rattle.circus_world.specs.Answers.{IsBooted}
use Rattle.circus_world.specs.Seen.MadeAt.{HaveBooted, AreBooted}
use Rattle.circus_world.specs.Seen.Slots.{AreFull}
use Rattle.circus_world.specs.Seen.Sound.{IsSound}
use Rattle.circus_world.specs.Seen.Inside.{inside_of}
use Rattle.circus_world.proofs.BootLemmas.{fault_of_world}
use Rattle.circus_world.proofs.SoundLemmas.{booted_sound}
use Rattle.circus_world.proofs.world.World.boot.Goals as goal

pub returns-in_err-boot_all : goal.returns-in_err-boot_all
returns-in_err-boot_all g c =
    let M = g.M.Module in
    let p = err_from_is_err_and c.from_residual.result c.from_residual.ensures.1 in
    subst (λ r. IsBooted M.declared M.turn M.first c.args.deployment c.args.modules.items r) (sym p.1)
    (subst (λ f. IsBooted M.declared M.turn M.first c.args.deployment c.args.modules.items (Err f)) (sym p.2)
    (fault_of_world M.declared M.turn M.first c.args.deployment c.args.modules.items c.boot_all.new.slots.items c.boot_all.new.sent c.in_err-boot_all.field-0.0
    (subst (λ (l : List g.row.M.Denot). AreBooted M.declared M.turn M.first c.args.deployment l c.boot_all.new.slots.items c.boot_all.new.sent (Err c.in_err-boot_all.field-0.0))
    c.as_slice.ensures.value c.in_err-boot_all.ensures)))

pub invariant_of-result : goal.invariant_of-result
invariant_of-result g c =
    let M = g.M.Module in
    let h = subst (λ (l : List g.row.M.Denot). HaveBooted M.declared M.turn M.first c.args.deployment l c.boot_all.new.slots.items c.boot_all.new.sent) c.as_slice.ensures.value c.in_ok-boot_all.ensures in
    subst (λ i. AreFull i.slots.items × IsSound (inside_of i)) (sym c.in_ok-inside.ensures) (
      h.full,
      booted_sound M.declared M.turn M.first c.args.deployment c.args.modules.items h.hosted _ c.requires.deployment c.requires.modules h.hosts h.booted_is,
    )

pub returns : goal.returns
returns g c =
    let M = g.M.Module in
    let h = subst (λ (l : List g.row.M.Denot). HaveBooted M.declared M.turn M.first c.args.deployment l c.boot_all.new.slots.items c.boot_all.new.sent) c.as_slice.ensures.value c.in_ok-boot_all.ensures in
    subst (λ i. IsBooted M.declared M.turn M.first c.args.deployment c.args.modules.items (Ok (inside_of i))) (sym c.in_ok-inside.ensures) (h.hosted, h.hosts, h.booted_is)
