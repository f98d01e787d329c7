use Rattle.std.proofs.Common.{◌≡◌, take, map}
use Rattle.circus_check.specs.declared.checked.ResolvedModule.{ResolvedModule}
use Rattle.circus_picture.specs.Picture.{procedures_of}
use Rattle.circus_picture.proofs.procedures.procedures_in.Given as goal

-- those of the modules before this one
abbrev pub invariant-loop-module : goal.invariant-loop-module
invariant-loop-module l =
    l.procedures ≡ map (λ (m : ResolvedModule). procedures_of l.plan.checked.interfaces m.interface) (take l.module-index l.module-items)
