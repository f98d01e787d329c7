-- A program comes to one end.
use Rattle.std.proofs.Common.{◌≡◌, ℕ, inl, inr, List, [], ◌++◌, codes, sym, ap, ◌∙◌}
use Rattle.std.specs.List.{flat_map}
use Rattle.circus_model.specs.Execution.{history_of}
use Rattle.circus_record.specs.Line.{line}
use Rattle.circus_record.specs.Naming.{names_of}
use Rattle.circus_commands.specs.HistoryLines.{history_text}
use Rattle.circus_stub.specs.StubsText.{stubs_text}
use Rattle.circus_idl.specs.declared.interface.Interface.{Interface}
use Rattle.circus_modules.specs.Behaviours.{program_of}
use Rattle.circus_config.specs.declared.plan.Plan.{Plan}
use Rattle.circus_config.specs.declared.program_fault.ProgramFault.{ProgramFault}
use Rattle.circus_config.specs.declared.program_fault.ProgramFault.TheVariants.{Refused}
use Rattle.circus_limits.specs.Limits.{limit_of}
use Rattle.circus_config.specs.Program.{IsProgramOf, SaysSame}
use Rattle.circus_config.proofs.OneAnswer.{plan_one, refusal_one, not_both}
use Rattle.circus_commands.specs.declared.status.Status.TheVariants.{Done, BadProgram}
use Rattle.circus_commands.specs.Ending.{Ending}
use Rattle.circus_commands.specs.Refusal.{refused_text, IsEndOfRefused}
use Rattle.circus_commands.specs.Program.{history_lines, stubs_lines, IsEndOfProgram}

-- plans that say the same have the same lines
pub stubs_same : (plan other : Plan) → SaysSame plan other → stubs_lines plan ≡ stubs_lines other
stubs_same plan other same = ap (λ (is : List Interface). line (codes "circus stubs 1") ++ flat_map stubs_text is) same.interfaces

pub history_same : (plan other : Plan) → SaysSame plan other → history_lines plan ≡ history_lines other
history_same plan other same =
    λ i. history_text (names_of [] (same.names i)) (history_of (program_of (limit_of (same.deployment i).format) (same.interfaces i) (same.modules i)))

pub refused_one : (bytes : List ℕ) (one other : Ending) → IsEndOfRefused bytes one → IsEndOfRefused bytes other → one ≡ other
refused_one bytes one other (number, cause, refused, is) (also, another, again, so) =
    let same : ◌≡◌ {A = ProgramFault} (Refused number cause) (Refused also another) = refusal_one bytes (Refused number cause) (Refused also another) refused again in
    let numbers : number ≡ also = cc in
    let causes : cause ≡ another = cc in
    is ∙ (λ i. record { status = BadProgram; text = refused_text (numbers i) (causes i) }) ∙ sym so

pub good_or_refused : (bytes : List ℕ) (plan : Plan) (ending : Ending) → IsProgramOf bytes plan → IsEndOfRefused bytes ending → ⊥
good_or_refused bytes plan ending means (number, cause, refused, is) = not_both bytes plan (Refused number cause) means refused

module _ (lines : Plan → List ℕ) (same : (plan other : Plan) → SaysSame plan other → lines plan ≡ lines other) where
  pub program_end_one : (bytes : List ℕ) (one other : Ending) → IsEndOfProgram lines bytes one → IsEndOfProgram lines bytes other → one ≡ other
  program_end_one bytes one other (inl (plan, means, is)) (inl (another, also, so)) =
      let texts = same plan another (plan_one bytes plan another means also) in
      let done : List ℕ → Ending = λ text. record { status = Done; text = text } in
      is ∙ ap done texts ∙ sym so
  program_end_one bytes one other (inl (plan, means, is)) (inr refused) = absurd (good_or_refused bytes plan other means refused)
  program_end_one bytes one other (inr refused) (inl (plan, means, so)) = absurd (good_or_refused bytes plan one means refused)
  program_end_one bytes one other (inr refused) (inr also) = refused_one bytes one other refused also
