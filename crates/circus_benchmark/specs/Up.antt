-- An end that sends.
use Rattle.std.specs.Prelude.{◌≡◌, false}
use Rattle.circus_exchange.specs.declared.exchange.Exchange.{Exchange}

-- it is of format 1, and the other end is not down
pub record IsUp (e : Exchange) : Type 0 where
  pub format : e.format ≡ 1
  pub up : e.stopped ≡ false
