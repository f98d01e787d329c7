-- How a pair with its purposes, and a wire, are coded.
use Rattle.std.specs.Prelude.{ℕ, List, refl}
use Rattle.std.specs.Ordering.{nat_cmp}
use Rattle.std.specs.FinMap as map
use Rattle.std.specs.Coded.{Coded, code_by, coded×, coded_list, coded_ℕ}
use Rattle.circus_exchange.specs.declared.exchange.Exchange.{Exchange}
use Rattle.circus_exchange.specs.contracts.exchange.Exchange as model
use Rattle.circus_wire.specs.Wire.{PeerState, WireState}

module _ {P : Type 0} where
  abbrev pub peer_code : Coded P → Coded (PeerState P)
  peer_code p =
      code_by (Exchange × map.FinMap nat_cmp P) (coded× model.the_row.coded (map.code coded_ℕ p)) (λ a. (a.exchange, a.purposes)) (λ a. record { exchange = a.0; purposes = a.1 }) (λ _. refl)

  abbrev pub wire_code : Coded P → Coded (WireState P)
  wire_code p =
      code_by (ℕ × (ℕ × List (PeerState P))) (coded× coded_ℕ (coded× coded_ℕ (coded_list (peer_code p)))) (λ a. (a.own, (a.format, a.peers))) (λ a. record { own = a.0; format = a.1.0; peers = a.1.1 }) (λ _. refl)
