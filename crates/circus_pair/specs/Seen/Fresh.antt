-- No call was handed over under a number that is still to come.
use Rattle.std.specs.Prelude.{◌≡◌, ℕ, ◌≤◌, None}
use Rattle.std.specs.FinMap.{get}
use Rattle.circus_exchange.specs.declared.exchange.Exchange.{Exchange}

abbrev pub IsFresh : Exchange → Type 0
IsFresh e = (number : ℕ) → e.next ≤ number → get e.calls.progress number ≡ None
