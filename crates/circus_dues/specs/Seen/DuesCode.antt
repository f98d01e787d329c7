-- What is kept of what came, stored as a tuple.
use Rattle.std.specs.Prelude.{refl}
use Rattle.std.specs.Coded.{Coded, code_by, coded×}
use Rattle.circus_model.specs.declared.signature.Signature.{Signature}
use Rattle.circus_model.specs.contracts.signature.Signature as signature_model
use Rattle.circus_record.specs.declared.record.MemberRecord.{MemberRecord}
use Rattle.circus_record.specs.contracts.record.MemberRecord as record_model
use Rattle.circus_member_rules.specs.declared.place.Place.{Place}
use Rattle.circus_member_rules.specs.contracts.place.Place as place_model
use Rattle.circus_dues.specs.declared.owing.Owing.{Owing}
use Rattle.circus_dues.specs.contracts.owing.Owing as owing_model
use Rattle.circus_dues.specs.Dues.{DuesState}

abbrev pub dues_code : Coded DuesState
dues_code =
    code_by (Place × (Signature × (MemberRecord × Owing)))
    (coded× place_model.the_row.coded
    (coded× signature_model.the_row.coded (coded× record_model.the_row.coded owing_model.the_row.coded)))
    (λ d. (d.place, (d.signature, (d.kept, d.owing))))
    (λ p. record { place = p.0; signature = p.1.0; kept = p.1.1.0; owing = p.1.1.1 }) (λ _. refl)
