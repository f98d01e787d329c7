-- A step of a settling.
use Rattle.std.specs.Prelude.{◌≡◌, Result, Ok, Err}
use Rattle.circus_world.specs.WorldState.{WorldState}
use Rattle.circus_world.specs.Course.{Stepped}
use Rattle.circus_settle.specs.declared.settling.SettleFault.{SettleFault}
use Rattle.circus_settle.specs.declared.settling.SettleFault.TheVariants as fault

-- this was come to, but for want of memory
abbrev pub ComesTo : {M : Type 0} → Result (WorldState M) SettleFault → Stepped M → Type 0
ComesTo (Ok w) stepped = stepped ≡ Ok w
ComesTo (Err (fault.Spent node peer)) stepped = stepped ≡ Err (node, peer)
ComesTo (Err fault.NoMemory) stepped = Unit {0}
