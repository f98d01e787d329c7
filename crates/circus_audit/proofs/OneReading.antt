-- What reading answers at the text of a record.
use Rattle.std.specs.List.{AllByRecursion}
use Rattle.std.proofs.Common.{◌≡◌, ◌∙◌, ℕ, ◌<◌, List, length, map, Result, Ok, sym, ap, arith}
use Rattle.circus_text.specs.Form.{IsWord}
use Rattle.circus_check.specs.Meaning.{ModuleMeant}
use Rattle.circus_check.specs.Resolved.{module_as}
use Rattle.circus_config.specs.declared.plan.Plan.{Plan}
use Rattle.circus_config.specs.Program.{IsPlan}
use Rattle.circus_audit.specs.declared.given.Given.{Given}
use Rattle.circus_audit.specs.RecordText.{IsRecordText}
use Rattle.circus_audit.specs.Answer.{or_bad, record_answer}
use Rattle.circus_audit.specs.Seen.Outlook.{bad_line}
use Rattle.circus_audit.proofs.CompletingPlans.{plan_spelled}
use Rattle.circus_audit.proofs.CompletingRecord.{record_is_read}

pub answer_is : (plan : Plan) (given : Given) (text : List ℕ) → IsPlan plan → plan.names ≡ map (λ (m : ModuleMeant). m.name) (map module_as plan.checked.modules) → AllByRecursion IsWord plan.names → length text < 4294967295 → IsRecordText plan given text → record_answer plan text ≡ Ok given
answer_is plan given text is named words few record_is = ap (or_bad (bad_line plan text)) (record_is_read plan given text (plan_spelled plan is named words) record_is (omega (arith, few)))

pub one_given : (plan : Plan) (a b : Given) (text : List ℕ) → IsPlan plan → plan.names ≡ map (λ (m : ModuleMeant). m.name) (map module_as plan.checked.modules) → AllByRecursion IsWord plan.names → length text < 4294967295 → IsRecordText plan a text → IsRecordText plan b text → a ≡ b
one_given plan a b text is named words few first second =
    let both : ◌≡◌ {A = Result Given ℕ} (Ok a) (Ok b) = sym (answer_is plan a text is named words few first) ∙ answer_is plan b text is named words few second in
    cc (both)
