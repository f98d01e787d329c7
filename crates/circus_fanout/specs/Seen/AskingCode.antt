-- What a fan-out keeps, stored as the tuple of its fields.
use Rattle.std.specs.Prelude.{ℕ, List, refl}
use Rattle.std.specs.Coded.{Coded, code_by, coded×, coded_ℕ, coded_list}
use Rattle.circus_header.specs.declared.call.CallHeader.{CallHeader}
use Rattle.circus_header.specs.declared.answer.Reply.{Reply}
use Rattle.circus_header.specs.contracts.call.CallHeader as header_model
use Rattle.circus_header.specs.contracts.answer.Reply as reply_model
use Rattle.circus_collate.specs.declared.kind.Kind.{Kind}
use Rattle.circus_collate.specs.declared.giving.Said.{Said}
use Rattle.circus_collate.specs.contracts.kind.Kind as kind_model
use Rattle.circus_fanout.specs.declared.asked.Asked.{Asked}
use Rattle.circus_fanout.specs.contracts.asked.Asked as asked_model
use Rattle.circus_fanout.specs.Asking.{Asking}

abbrev pub said_code : Coded (Said Reply)
said_code = code_by (ℕ × Reply) (coded× coded_ℕ reply_model.the_row.coded) (λ s. (s.node, s.value)) (λ p. record { node = p.0; value = p.1 }) (λ _. refl)

abbrev pub asking_code : Coded Asking
asking_code =
    code_by (CallHeader × (List ℕ × (Kind × (List Asked × List (Said Reply)))))
    (coded× header_model.the_row.coded (coded× (coded_list coded_ℕ) (coded× kind_model.the_row.coded (coded× (coded_list asked_model.the_row.coded) (coded_list said_code)))))
    (λ a. (a.header, (a.body, (a.kind, (a.asked, a.said)))))
    (λ p. record { header = p.0; body = p.1.0; kind = p.1.1.0; asked = p.1.1.1.0; said = p.1.1.1.1 })
    (λ _. refl)
