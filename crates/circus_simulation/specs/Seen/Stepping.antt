-- A step of a sample.
use Rattle.std.specs.Prelude.{◌≡◌, ℕ, List, drop, None, Result, Ok, Err, All}
use Rattle.circus_schedule.specs.declared.line.Line.{Line}
use Rattle.circus_schedule.specs.declared.line.Line.TheVariants.{Deliver, Tick, Crash, Down, Join}
use Rattle.circus_world.specs.WorldState.{WorldState}
use Rattle.circus_world.specs.Course.{Stepped}
use Rattle.circus_simulation.specs.declared.sampling.SampleFault.{SampleFault}
use Rattle.circus_simulation.specs.declared.sampling.SampleFault.TheVariants as fault

-- no node has crashed
abbrev pub NoneCrashed : {M : Type 0} → WorldState M → Type 0
NoneCrashed w = All (λ s. s.crashed ≡ None) w.nodes

-- the spares that are left behind a line: a join is that of the first
abbrev pub left_by : Line → List ℕ → List ℕ
left_by (Deliver number) spares = spares
left_by (Tick node) spares = spares
left_by (Crash node) spares = spares
left_by (Down node told) spares = spares
left_by (Join node) spares = drop 1 spares

-- this was come to, but for want of memory
abbrev pub ComesTo : {M : Type 0} → Result (WorldState M) SampleFault → Stepped M → Type 0
ComesTo (Ok w) stepped = stepped ≡ Ok w
ComesTo (Err (fault.Spent node peer)) stepped = stepped ≡ Err (node, peer)
ComesTo (Err fault.NoMemory) stepped = Unit {0}
