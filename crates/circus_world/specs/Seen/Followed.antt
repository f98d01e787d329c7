-- What following a line comes to, but for want of memory.
use Rattle.std.specs.Prelude.{◌≡◌, Result, Ok, Err}
use Rattle.circus_world.specs.declared.world.Loss.{Loss}
use Rattle.circus_world.specs.declared.world.Loss.TheVariants as loss
use Rattle.circus_world.specs.WorldState.{WorldState}
use Rattle.circus_world.specs.Course.{Stepped}

abbrev pub IsFollowed : {M : Type 0} → Result (WorldState M) Loss → Stepped M → Type 0
IsFollowed (Ok w) stepped = stepped ≡ Ok w
IsFollowed (Err (loss.Spent node peer)) stepped = stepped ≡ Err (node, peer)
IsFollowed (Err loss.NoMemory) stepped = Unit {0}
