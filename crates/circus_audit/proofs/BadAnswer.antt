-- With the lines of a text up to the one that reading answers no record begins.
use Rattle.std.specs.List.{AllByRecursion}
use Rattle.std.proofs.Common.{◌≡◌, ℕ, ◌<◌, List, length, map, Option, Some, None, Err, refl}
use Rattle.circus_text.specs.Form.{IsWord}
use Rattle.circus_check.specs.Meaning.{ModuleMeant}
use Rattle.circus_check.specs.Resolved.{module_as}
use Rattle.circus_config.specs.declared.plan.Plan.{Plan}
use Rattle.circus_config.specs.Program.{IsPlan}
use Rattle.circus_audit.specs.declared.given.Given.{Given}
use Rattle.circus_audit.specs.BadLine.{Begins}
use Rattle.circus_audit.specs.Answer.{or_bad, record_answer}
use Rattle.circus_audit.specs.Seen.Outlook.{bad_line}
use Rattle.circus_audit.specs.Seen.Reading.{record_read}
use Rattle.circus_audit.proofs.CompletingPlans.{plan_spelled}
use Rattle.circus_audit.proofs.NoneBegins.{none_at_all}

pub none_begins : (plan : Plan) (text : List ℕ) (line : ℕ) → IsPlan plan → plan.names ≡ map (λ (m : ModuleMeant). m.name) (map module_as plan.checked.modules) → AllByRecursion IsWord plan.names → length text < 4294967295 → record_answer plan text ≡ Err line → Begins plan text line → ⊥
none_begins plan text line is named words few bad begins = by_read (record_read plan text) refl bad
  where
    by_read : (r : Option Given) → record_read plan text ≡ r → or_bad (bad_line plan text) r ≡ Err line → ⊥
    by_read (Some g) read answer = cc (answer)
    by_read None read answer =
        let number : bad_line plan text ≡ line = cc (answer) in
        none_at_all plan begins.given text begins.whole line (plan_spelled plan is named words) begins.is_text few read number begins.same
