-- These parts, stored as tuples.
use Rattle.std.specs.Prelude.{List, refl}
use Rattle.std.specs.Coded.{Coded, code_by, coded×, coded_list}
use Rattle.circus_value.specs.declared.caller.Caller.{Caller}
use Rattle.circus_value.specs.contracts.caller.Caller as caller_model
use Rattle.circus_gather.specs.Gathering.{Gathered}
use Rattle.circus_gather.specs.Seen.GatheredCode.{gathered_code}
use Rattle.circus_fanout.specs.Knowing.{Knowing}
use Rattle.circus_fanout.specs.contracts.known.Known as known_model
use Rattle.circus_fanout.specs.Asking.{Asking}
use Rattle.circus_member_rules.specs.declared.occurrence.AskName.{AskName}
use Rattle.circus_member_rules.specs.Seen.AsksCode.{asks_code}
use Rattle.circus_dues.specs.Seen.Parts.{CallsIn, CallsOut}

abbrev pub calls_in_code : Coded CallsIn
calls_in_code =
    code_by (Gathered × List Caller) (coded× gathered_code (coded_list caller_model.the_row.coded))
    (λ c. (c.gathered, c.requests)) (λ p. record { gathered = p.0; requests = p.1 }) (λ _. refl)

abbrev pub calls_out_code : Coded CallsOut
calls_out_code =
    code_by (Knowing × List (AskName × Asking)) (coded× known_model.the_row.coded asks_code)
    (λ c. (c.known, c.asks)) (λ p. record { known = p.0; asks = p.1 }) (λ _. refl)
