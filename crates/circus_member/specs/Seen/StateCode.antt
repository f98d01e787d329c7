-- A member, and a step so far, stored as tuples of their parts.
use Rattle.std.specs.Prelude.{List, refl}
use Rattle.std.specs.Coded.{Coded, code_by, coded×, coded_list}
use Rattle.circus_value.specs.declared.caller.Caller.{Caller}
use Rattle.circus_value.specs.contracts.caller.Caller as caller_model
use Rattle.circus_fanout.specs.Knowing.{Knowing}
use Rattle.circus_fanout.specs.contracts.known.Known as known_model
use Rattle.circus_gather.specs.Gathering.{Gathered}
use Rattle.circus_gather.specs.Seen.GatheredCode.{gathered_code}
use Rattle.circus_fanout.specs.Asking.{Asking}
use Rattle.circus_performing.specs.Performing.{Performing}
use Rattle.circus_performing.specs.Seen.MemberCode.{member_code}
use Rattle.circus_member_rules.specs.declared.place.Place.{Place}
use Rattle.circus_member_rules.specs.contracts.place.Place as place_model
use Rattle.circus_member_rules.specs.declared.occurrence.AskName.{AskName}
use Rattle.circus_member_rules.specs.declared.occurrence.Effect.{Effect}
use Rattle.circus_member_rules.specs.contracts.occurrence.Effect as effect_model
use Rattle.circus_member_rules.specs.MemberState.{MemberState, Doing}
use Rattle.circus_member_rules.specs.Seen.AsksCode.{asks_code}

abbrev pub state_code : {M : Type 0} → Coded M → Coded (MemberState M)
state_code {M} hosted =
    code_by (Place × (Knowing × (Gathered × (Performing M × (List (AskName × Asking) × List Caller)))))
    (coded× place_model.the_row.coded (coded× known_model.the_row.coded (coded× gathered_code (coded× (member_code hosted) (coded× asks_code (coded_list caller_model.the_row.coded))))))
    (λ m. (m.place, (m.known, (m.gathered, (m.performing, (m.asks, m.requests))))))
    (λ q. record { place = q.0; known = q.1.0; gathered = q.1.1.0; performing = q.1.1.1.0; asks = q.1.1.1.1.0; requests = q.1.1.1.1.1 })
    (λ _. refl)

abbrev pub doing_code : {M : Type 0} → Coded M → Coded (Doing M)
doing_code {M} hosted =
    code_by (MemberState M × List Effect) (coded× (state_code hosted) (coded_list effect_model.the_row.coded))
    (λ d. (d.member, d.effects)) (λ q. record { member = q.0; effects = q.1 }) (λ _. refl)
