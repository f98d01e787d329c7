-- What a member keeps of the calls to it, stored as the tuple of its parts.
use Rattle.std.specs.Prelude.{ℕ, List, Option, refl}
use Rattle.std.specs.Coded.{Coded, code_by, coded×, coded_ℕ, coded_list, coded_option}
use Rattle.circus_header.specs.declared.answer.Reply.{Reply}
use Rattle.circus_header.specs.contracts.answer.Reply as reply_model
use Rattle.circus_gather.specs.declared.held.HeldCall.{HeldCall}
use Rattle.circus_gather.specs.contracts.held.HeldCall as held_model
use Rattle.circus_gather.specs.Gathering.{Gathered}

abbrev pub gathered_code : Coded Gathered
gathered_code =
    code_by (ℕ × (ℕ × (ℕ × (Option ℕ × (List (ℕ × Reply) × List HeldCall)))))
    (coded× coded_ℕ (coded× coded_ℕ (coded× coded_ℕ (coded× (coded_option coded_ℕ) (coded× (coded_list (coded× coded_ℕ reply_model.the_row.coded)) (coded_list held_model.the_row.coded))))))
    (λ g. (g.module, (g.from, (g.required, (g.open_run, (g.replies, g.held))))))
    (λ p. record { «module» = p.0; from = p.1.0; required = p.1.1.0; open_run = p.1.1.1.0; replies = p.1.1.1.1.0; held = p.1.1.1.1.1 })
    (λ _. refl)
