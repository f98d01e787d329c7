-- A member, stored as the tuple of its parts.
use Rattle.std.specs.Prelude.{List, refl}
use Rattle.std.specs.Coded.{Coded, code_by, coded×}
use Rattle.circus_value.specs.ValueTree.{ValueTree}
use Rattle.circus_value.specs.contracts.value.Values as values_model
use Rattle.circus_record.specs.declared.record.MemberRecord.{MemberRecord}
use Rattle.circus_record.specs.contracts.record.MemberRecord as record_model
use Rattle.circus_performing.specs.Performing.{Performing}

abbrev pub member_code : {M : Type 0} → Coded M → Coded (Performing M)
member_code {M} hosted =
    code_by (M × (List ValueTree × MemberRecord))
    (coded× hosted (coded× values_model.the_row.coded record_model.the_row.coded))
    (λ p. (p.hosted, (p.began, p.kept)))
    (λ q. record { hosted = q.0; began = q.1.0; kept = q.1.1 })
    (λ _. refl)
