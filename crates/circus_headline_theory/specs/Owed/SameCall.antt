-- When two calls say the same.
use Rattle.std.specs.Prelude.{◌≡◌}
use Rattle.circus_gather.specs.declared.held.HeldCall.{HeldCall}

-- of one thread at one place of it, of one client at one place of its own, to one procedure with the same bytes
pub record SaySame (a b : HeldCall) : Type 0 where
  pub root : a.header.root ≡ b.header.root
  pub path : a.header.path ≡ b.header.path
  pub clock : a.header.clock ≡ b.header.clock
  pub client : a.header.client ≡ b.header.client
  pub client_index : a.header.client_index ≡ b.header.client_index
  pub procedure : a.header.procedure ≡ b.header.procedure
  pub body : a.body ≡ b.body
