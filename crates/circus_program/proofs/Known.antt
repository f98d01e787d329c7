-- Lines that words ask for are short once their program was read, and so what a call writes keeps what is promised.
use Rattle.std.proofs.Common.{◌≡◌, ℕ, inl, inr, ◌⊎◌, false, Option, Some, None, List, [], ◌∷◌, Result, Ok, Err, IfOk, refl, sym, ap, subst, ◌∙◌, arith, codes}
use Rattle.std.specs.Prelude.{IfSome, IsTrue}
use Rattle.std.specs.Fmt.{decimal}
use Rattle.std.proofs.lemmas.Bool.{false≢true}
use Rattle.std.proofs.lemmas.Fmt.{decimal_injective}
use Rattle.std.proofs.lemmas.Option.{same_Some}
use Rattle.circus_config.specs.declared.plan.Plan.{Plan}
use Rattle.circus_config.specs.Program.{IsProgramOf}
use Rattle.circus_config.proofs.PlanIs.{plan_is}
use Rattle.circus_serve.specs.Outside.{Tells}
use Rattle.circus_commands.specs.declared.status.Status.{Status}
use Rattle.circus_commands.specs.declared.status.Status.TheVariants.{Done, BadSchedule, ShelfFault, Spent}
use Rattle.circus_commands.specs.declared.one_file.OneFile.TheVariants.{Stubs, Run, Place}
use Rattle.circus_commands.specs.Status.{is_end}
use Rattle.circus_commands.specs.Ending.{Ending}
use Rattle.circus_commands.specs.Refusal.{IsEndOfRefused}
use Rattle.circus_commands.proofs.OneProgram.{good_or_refused}
use Rattle.circus_program.specs.Form.{CommandForm, stubs, run, replay, picture, node, sample, draw, settle, place, audit, words_of, IsOfForm, IsOfNoForm, second_form}
use Rattle.circus_program.specs.declared.shown.Shown.TheVariants.{Report, Picture}
use Rattle.circus_program.specs.declared.second.Second.{Second}
use Rattle.circus_program.specs.declared.second.Second.TheVariants.{Schedule, NodeRecord}
use Rattle.circus_program.specs.Answer.{serve, IsDue, WritesEnd}
use Rattle.circus_program.specs.Worlds.{AskToSimulate}
use Rattle.circus_program.specs.Agreeing.{WritesAgreed, WritesAgreedSoFar}
use Rattle.circus_program.specs.Promise.{WritesKept, WritesKeptSoFar}
use Rattle.circus_program.specs.Replayed.{AreShort, WritesReplayed}
use Rattle.circus_program.specs.declared.answer.Step.{Step}
use Rattle.circus_program.specs.declared.answer.Step.TheVariants.{Finish, Lack, History, Replay, Serve}
use Rattle.circus_program.specs.declared.answer.Command.{Command}
use Rattle.circus_program.specs.declared.answer.Command.TheVariants.{End, OfPlan}
use Rattle.circus_program.specs.declared.answer.Task.{Task}
use Rattle.circus_program.specs.declared.answer.Task.TheVariants.{Sample, Lines, Settle, Node}
use Rattle.circus_program.specs.Seen.Asked.{file_form}
use Rattle.circus_program.specs.Seen.Step.{LacksNone, IsPutStep}
use Rattle.circus_program.specs.Seen.Put.{IsPutEnd, IsFinished}
use Rattle.circus_program.specs.Seen.Known.{IsKnownOf, AreKnownOf, AreKnownBy, OfContents, AreShortLines, ShortLinesOf}
use Rattle.circus_program.proofs.PlanOne.{plan_is_one}
use Rattle.circus_program.proofs.Simulated.{asks, asking, asked}
use Rattle.circus_program.proofs.DueKinds.{serves_asked}
use Rattle.circus_program.proofs.Promised.{ends_kept, kept_so_far}
use Rattle.circus_program.proofs.Agreed.{agreed_of_kept, cut_so_far}
use Rattle.circus_program.proofs.Telling.{lists, lists_lines, records_simulate}
use Rattle.circus_program.proofs.Replayed.{due_replayed}

-- ---- of bytes

good_known : (bytes : List ℕ) (task : Task) (plan : Plan) → IsProgramOf bytes plan → IsKnownOf task plan → AreKnownOf task bytes
good_known bytes task plan means is = λ other also. subst (IsKnownOf task) (plan_is_one bytes plan other means also) is

-- of a program that was read
pub good_read : {A E : Type 0} (bytes : List ℕ) (task : Task) (plan : Plan) (r : Result A E) → IsProgramOf bytes plan → IfOk r (λ _. IsKnownOf task plan) → IfOk r (λ _. AreKnownOf task bytes)
good_read bytes task plan (Ok x) means known = good_known bytes task plan means known
good_read bytes task plan (Err e) means known = tt

-- and of one that is refused
pub refused_read : (bytes : List ℕ) (task : Task) (ending : Ending) → IsEndOfRefused bytes ending → AreKnownOf task bytes
refused_read bytes task ending refused = λ plan means. absurd (good_or_refused bytes plan ending means refused)

-- what holds, holds where all went well
pub holds_ok : {E : Type 0} (P : Type 0) (r : Result Step E) → P → IfOk r (λ step. LacksNone step → P)
holds_ok P (Ok step) holds = λ none. holds
holds_ok P (Err e) holds = tt

pub then_ok : {E : Type 0} (P Q : Type 0) (r : Result Step E) → (P → Q) → IfOk r (λ step. LacksNone step → P) → IfOk r (λ step. LacksNone step → Q)
then_ok P Q (Ok step) next holds = λ none. next (holds none)
then_ok P Q (Err e) next holds = tt

pub of_contents : (shelf : Option (List ℕ → Option (List ℕ))) (Of : List ℕ → Type 0) (name bytes : List ℕ) → IfSome shelf (λ told. told name ≡ Some bytes) → Of bytes → OfContents shelf Of name
of_contents None Of name bytes told holds = tt
of_contents (Some contents) Of name bytes told holds = λ other here. subst Of (same_Some bytes other (sym told ∙ here)) holds

-- ---- of words

module _ (contents : List ℕ → Option (List ℕ)) (words : List (List ℕ)) where
  -- of another form than theirs there are none
  no_lines : (own : CommandForm) → IsOfForm words own → lists (words_of own) ≡ false → AreShortLines contents words
  no_lines own of other = λ plan seed steps l.
      absurd (false≢true (sym other ∙ ap lists (sym of.spelled ∙ l.of_form.spelled) ∙ lists_lines l.program seed steps))

  -- of their own form
  own_lines : (file : List ℕ) (seed steps : ℕ) → IsOfForm words (draw file seed steps)
      → ((bytes : List ℕ) → contents file ≡ Some bytes → AreKnownOf (Lines seed steps) bytes) → AreShortLines contents words
  own_lines file seed steps of known = λ plan other count l.
      let same : codes "lines" ∷ l.program ∷ decimal other ∷ decimal count ∷ [] ≡ codes "lines" ∷ file ∷ decimal seed ∷ decimal steps ∷ [] = sym l.of_form.spelled ∙ of.spelled in
      let named : l.program ≡ file = cc in
      let seeds : decimal other ≡ decimal seed = cc in
      let counts : decimal count ≡ decimal steps = cc in
      let one = decimal_injective other seed l.of_form.in_range.1 of.in_range.1 seeds in
      let two = decimal_injective count steps (omega (arith, l.of_form.in_range.2)) (omega (arith, of.in_range.2)) counts in
      subst (λ n. AreShort plan n count) (sym one)
      (subst (λ n. AreShort plan seed n) (sym two) (known l.bytes (subst (λ name. contents name ≡ Some l.bytes) named l.program_is) plan l.good))

two_known : (contents : List ℕ → Option (List ℕ)) (words : List (List ℕ)) (second : Second) (program file : List ℕ) → IsOfForm words (second_form second program file) → AreShortLines contents words
unfolding lists
two_known contents words (Schedule Report) program file of = no_lines contents words (replay program file) of refl
two_known contents words (Schedule Picture) program file of = no_lines contents words (picture program file) of refl
two_known contents words NodeRecord program file of = no_lines contents words (audit program file) of refl

pub of_two_known : (shelf : Option (List ℕ → Option (List ℕ))) (words : List (List ℕ)) (form : CommandForm) (second : Second) (program file : List ℕ) → IsOfForm words form → form ≡ second_form second program file → ShortLinesOf shelf words
of_two_known None words form second program file of is = tt
of_two_known (Some contents) words form second program file of is = two_known contents words second program file (subst (λ (f : CommandForm). IsOfForm words f) is of)

file_known : (contents : List ℕ → Option (List ℕ)) (words : List (List ℕ)) (command : Command) (file : List ℕ) → IsOfForm words (file_form command file)
    → ((bytes : List ℕ) → contents file ≡ Some bytes → AreKnownBy command bytes) → AreShortLines contents words
unfolding lists
file_known contents words (End Stubs) file of known = no_lines contents words (stubs file) of refl
file_known contents words (End Run) file of known = no_lines contents words (run file) of refl
file_known contents words (End Place) file of known = no_lines contents words (place file) of refl
file_known contents words (OfPlan (Sample seed steps)) file of known = no_lines contents words (sample file seed steps) of refl
file_known contents words (OfPlan (Lines seed steps)) file of known = own_lines contents words file seed steps of known
file_known contents words (OfPlan (Settle deliveries)) file of known = no_lines contents words (settle file deliveries) of refl
file_known contents words (OfPlan (Node name turns)) file of known = no_lines contents words (node file name.now turns) of refl

pub command_known : (shelf : Option (List ℕ → Option (List ℕ))) (words : List (List ℕ)) (form : CommandForm) (command : Command) (file : List ℕ) → IsOfForm words form → form ≡ file_form command file
    → OfContents shelf (AreKnownBy command) file → ShortLinesOf shelf words
command_known None words form command file of is known = tt
command_known (Some contents) words form command file of is known = file_known contents words command file (subst (λ (f : CommandForm). IsOfForm words f) is of) known

-- of no form
pub no_form_known : (shelf : Option (List ℕ → Option (List ℕ))) (words : List (List ℕ)) → IsOfNoForm words → ShortLinesOf shelf words
no_form_known None words none = tt
no_form_known (Some contents) words none = λ plan seed steps l. absurd (none (draw l.program seed steps) l.of_form)

-- ---- of a call

-- it ends as something that is due where it lacks no file
unfinished : (status result : Status) (SinkRose : Type 0) → is_end status ≡ false → IsFinished status SinkRose result → is_end result ≡ false
unfinished status result SinkRose none (inl is) = ap is_end is ∙ none
unfinished status result SinkRose none (inr (inl (is, rose))) = ap is_end is
unfinished status result SinkRose none (inr (inr is)) = ap is_end is

lack_put : (ending : Ending) (old new : Option (List ℕ)) (before after : ℕ) (status : Status) → ending.status ≡ ShelfFault → IsPutEnd ending old new before after status → is_end status ≡ false
lack_put ending old new before after status lacks (inl (is, written, still)) = ap is_end (is ∙ lacks)
lack_put ending old new before after status lacks (inr (inl (is, part, rose))) = ap is_end is
lack_put ending old new before after status lacks (inr (inr (is, part))) = ap is_end is

no_end : (status : Status) → is_end status ≡ false → IsTrue (is_end status) → ⊥
no_end status none is = cc

pub end_lacks_none : (step : Step) (told tells : Tells) (old new : Option (List ℕ)) (before after : ℕ) (status result : Status) (SinkRose : Type 0) → IsPutStep told tells step old new before after status
    → IsFinished status SinkRose result → IsTrue (is_end result) → LacksNone step
end_lacks_none (Finish ending) told tells old new before after status result SinkRose put finished is = tt
end_lacks_none (History performance) told tells old new before after status result SinkRose put finished is = tt
end_lacks_none (Replay ready) told tells old new before after status result SinkRose put finished is = tt
end_lacks_none (Serve plan number turns) told tells old new before after status result SinkRose put finished is = tt
end_lacks_none (Lack name) told tells old new before after status result SinkRose (inl (ending, written, put)) finished is =
    no_end result (unfinished status result SinkRose (lack_put ending old new before after status (ap (λ (e : Ending). e.status) written.0) put) finished) is
end_lacks_none (Lack name) told tells old new before after status result SinkRose (inr (none, still)) finished is =
    no_end result (unfinished status result SinkRose (ap is_end none) finished) is

-- no node is served where a program is simulated
not_served : {X : Type 0} (contents : List ℕ → Option (List ℕ)) (words : List (List ℕ)) (plan : Plan) (number turns : ℕ) → IsDue (Some contents) words (serve plan number turns) → AskToSimulate words → X
not_served contents words plan number turns due (form, also, simulates) =
    let (program, name, takes, of) = serves_asked (Some contents) words plan number turns due in
    absurd (asked (node program name takes) (ap asks (sym of.spelled ∙ also.spelled) ∙ asking form simulates))

module _ (words : List (List ℕ)) (before after : Tells) (old new : Option (List ℕ)) where
  writes_kept : (shelf : Option (List ℕ → Option (List ℕ))) → WritesEnd shelf words before after old new Done → WritesKept shelf words old new
  writes_kept None end = tt
  writes_kept (Some contents) (text, inl (due, same), written) = λ simulates.
      (text, written, ends_kept contents words (record { status = Done; text = text }) (record { is_due = due; last = tt }) refl simulates)
  writes_kept (Some contents) (text, inr (plan, number, turns, due, served), written) = λ simulates.
      not_served contents words plan number turns due simulates

  writes_kept_so_far : (shelf : Option (List ℕ → Option (List ℕ))) (status : Status) → (status ≡ BadSchedule) ⊎ (status ≡ Spent)
      → WritesEnd shelf words before after old new status → WritesKeptSoFar shelf words old new
  writes_kept_so_far None status which end = tt
  writes_kept_so_far (Some contents) status which (text, inl (due, same), written) = λ plan schedule r.
      (text, written, kept_so_far contents words plan schedule r (record { status = status; text = text }) (plan_is r.bytes plan r.good) (record { is_due = due; last = tt }) which)
  writes_kept_so_far (Some contents) status which (text, inr (other, number, turns, due, served), written) = λ plan schedule r.
      not_served contents words other number turns due (replay r.program r.name, r.of_form, tt)

  writes_replayed : (shelf : Option (List ℕ → Option (List ℕ))) → ShortLinesOf shelf words → WritesEnd shelf words before after old new Done → WritesReplayed shelf words old new
  writes_replayed None known end = tt
  writes_replayed (Some contents) known (text, inl (due, same), written) = λ plan seed steps l.
      (text, written, due_replayed contents words plan seed steps text l (plan_is l.bytes plan l.good) (known plan seed steps l) (record { is_due = due; last = tt }))
  writes_replayed (Some contents) known (text, inr (other, number, turns, due, served), written) = λ plan seed steps l.
      not_served contents words other number turns due (draw l.program seed steps, l.of_form, tt)

module _ (words : List (List ℕ)) (old new : Option (List ℕ)) where
  pub agree_at_end : (shelf : Option (List ℕ → Option (List ℕ))) → WritesKept shelf words old new → WritesAgreed shelf words old new
  agree_at_end None kept = tt
  agree_at_end (Some contents) kept = λ tells.
      let (text, written, is) = kept (records_simulate words tells) in
      (text, written, agreed_of_kept contents words text tells is)

  pub agree_at_line : (shelf : Option (List ℕ → Option (List ℕ))) → WritesKeptSoFar shelf words old new → WritesAgreedSoFar shelf words old new
  agree_at_line None kept = tt
  agree_at_line (Some contents) kept = λ plan schedule r.
      let (text, written, is) = kept plan schedule r in
      (text, written, cut_so_far plan schedule text is)

-- of what a call comes to with a status
module _ (shelf : Option (List ℕ → Option (List ℕ))) (words : List (List ℕ)) (before after : Tells) (old new : Option (List ℕ)) (status : Status)
    (ended : IsTrue (is_end status) → WritesEnd shelf words before after old new status) where
  end : status ≡ Done → WritesEnd shelf words before after old new Done
  end is = subst (λ s. WritesEnd shelf words before after old new s) is (ended (ap is_end is))

  pub kept_at_end : status ≡ Done → WritesKept shelf words old new
  kept_at_end is = writes_kept words before after old new shelf (end is)

  pub replayed_at_end : (IsTrue (is_end status) → ShortLinesOf shelf words) → status ≡ Done → WritesReplayed shelf words old new
  replayed_at_end known is = writes_replayed words before after old new shelf (known (ap is_end is)) (end is)

  pub kept_at_line : (status ≡ BadSchedule) ⊎ (status ≡ Spent) → WritesKeptSoFar shelf words old new
  kept_at_line (inl is) = writes_kept_so_far words before after old new shelf status (inl is) (ended (ap is_end is))
  kept_at_line (inr is) = writes_kept_so_far words before after old new shelf status (inr is) (ended (ap is_end is))
