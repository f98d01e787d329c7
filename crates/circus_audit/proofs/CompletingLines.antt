-- The lines of an active member are read.
use Rattle.std.specs.List.{AllByRecursion}
use Rattle.std.specs.Fmt.{decimal}
use Rattle.std.proofs.Common.{◌≡◌, ◌∙◌, ℕ, ◌<◌, ◌≤◌, ◌^◌, true, cond, List, [], ◌∷◌, ◌++◌, length, codes, Some, None, refl, sym, ap, append_assoc, append-nil}
use Rattle.circus_value.specs.ValueTree.{ValueTree}
use Rattle.circus_value.specs.Fits.{all_fit}
use Rattle.circus_value.specs.Shown.{shown_list}
use Rattle.circus_value.specs.OutcomeText.{outcome_text}
use Rattle.circus_value.specs.declared.outcome.Outcome.{Outcome}
use Rattle.circus_value.specs.ThreadText.{clock_text, numbers_behind}
use Rattle.circus_model.specs.Lawful.{procedure_numbered}
use Rattle.circus_model.specs.declared.signature.ProcedureShape.{ProcedureShape}
use Rattle.circus_model.specs.declared.signature.Signature.{Signature}
use Rattle.circus_record.specs.declared.record.AskRecord.{AskRecord}
use Rattle.circus_record.specs.declared.record.RunRecord.{RunRecord}
use Rattle.circus_collate.specs.declared.deployment.Deployment.{Deployment}
use Rattle.circus_node.specs.Accepting.{is_root}
use Rattle.circus_value_text.specs.Reading.{Read, and_then, behind}
use Rattle.circus_value_text.specs.WordReading.{asks_read}
use Rattle.circus_value_text.proofs.WordsInverse.{asks_complete}
use Rattle.circus_audit.specs.declared.member_line.Entered.{Entered}
use Rattle.circus_audit.specs.declared.member_line.Performs.{Performs}
use Rattle.circus_audit.specs.declared.member_line.Asked.{Asked}
use Rattle.circus_audit.specs.declared.member_line.After.{After}
use Rattle.circus_audit.specs.declared.member_line.Phase.TheVariants.{Active}
use Rattle.circus_audit.specs.Seen.Names.{name_at}
use Rattle.circus_audit.specs.Seen.Answers.{whole}
use Rattle.circus_audit.specs.Seen.Values.{values_behind, outcome_behind, by_shape, procedure_of_import}
use Rattle.circus_audit.specs.Seen.Lines.{name_behind, word_behind, numbered_step, clock_behind, root_read, entered_read, arguments_read, performs_read, run_begun, run_read, asked_read, state_read, wanted_read, ask_made, ask_read, after_read, answer_ask, reply_by, reply_read, run_ended, end_by, end_read, idle_read, waiting_read, long_behind, step_behind, active_read, active_line}
use Rattle.circus_audit.proofs.SoundingRuns.{entered_text, IsEntered, performs_text}
use Rattle.circus_audit.proofs.SoundingAsks.{asked_text, IsAsked}
use Rattle.circus_audit.proofs.SoundingLines.{IsAfter}
use Rattle.circus_audit.proofs.SoundingMember.{active_text, IsActivePhase}
use Rattle.circus_audit.proofs.Completing.{parts, blank, stops, no_point, blank_parts, Completes, word_complete, long_complete, this_complete, step_behind_complete, numbered_complete, clock_behind_complete, two_complete, three_complete, AreNames, name_behind_complete}
use Rattle.circus_audit.proofs.CompletingValues.{values_behind_complete}
use Rattle.circus_audit.proofs.CompletingOutcomes.{CanEnd, outcome_behind_complete}

root_complete : (modules : List (List ℕ)) (d : Deployment) → AreNames modules → Completes (root_read modules d) (λ n. codes " path " ++ name_at modules n) (λ n. (n < length modules) × (is_root d n ≡ true))
root_complete modules d names n rest is ends =
    ap (λ r. and_then r (λ root later. cond {A = Read ℕ} (is_root d root) (Some (root, later)) None)) (name_behind_complete (codes " path ") modules names n rest is.0 ends)
    ∙ ap (λ b. cond {A = Read ℕ} b (Some (n, rest)) None) is.1

path_parts : (path rest : List ℕ) → parts rest ≡ true → parts (numbers_behind 46 path ++ rest) ≡ true
path_parts [] rest ends = ends
path_parts (n ∷ path) rest ends = refl

abbrev entered_of : ℕ → ℕ → List ℕ → Entered
entered_of started root path = record { started = started; root = root; path = path }

pub entered_complete : (modules : List (List ℕ)) (d : Deployment) (events most place : ℕ) → AreNames modules → place < 2 ^ 32 → events < 2 ^ 64 → (e : Entered) (rest : List ℕ) → IsEntered modules d events e → length e.path ≤ most → blank rest ≡ true → entered_read modules d events most place (entered_text modules place e ++ rest) ≡ Some (e, rest)
entered_complete modules d events most place names few short e rest is within ends =
    let number = decimal place ++ (codes " step " ++ decimal e.started) in
    let root = codes " path " ++ name_at modules e.root in
    let path = numbers_behind 46 e.path in
    let last = λ (started r : ℕ) (text : List ℕ). and_then (asks_read most text) (λ p later. Some (entered_of started r p, later)) in
    ap (λ t. and_then (numbered_step place events t) (λ started a. and_then (root_read modules d a) (last started))) (append_assoc number (root ++ path) rest)
    ∙ ap (λ r. and_then r (λ started a. and_then (root_read modules d a) (last started))) (numbered_complete place events few short e.started ((root ++ path) ++ rest) is.0 refl)
    ∙ ap (λ t. and_then (root_read modules d t) (last e.started)) (append_assoc root path rest)
    ∙ ap (λ r. and_then r (last e.started)) (root_complete modules d names e.root (path ++ rest) is.1 (path_parts e.path rest (blank_parts rest ends)))
    ∙ ap (λ r. and_then r (λ p later. Some (entered_of e.started e.root p, later))) (asks_complete most e.path rest within is.2 (stops rest (blank_parts rest ends)) (no_point rest ends))

-- ---- what is performed

-- a procedure of a shape is performed so
abbrev pub IsPerformedSo : List (List ℕ) → Signature → ProcedureShape → Performs → Type 0
IsPerformedSo modules s shape p =
    (p.procedure < 2 ^ 16) × ((length p.entry ≡ length modules) × AllByRecursion (λ n. n < 2 ^ 32) p.entry) × (procedure_numbered p.procedure s.procedures ≡ Some shape) × (all_fit shape.arguments p.arguments ≡ true)

abbrev performs_of : ℕ → List ℕ → List ValueTree → Performs
performs_of procedure entry arguments = record { procedure = procedure; entry = entry; arguments = arguments }

arguments_complete : (s : Signature) (shape : ProcedureShape) (procedure : ℕ) (entry : List ℕ) (arguments : List ValueTree) (rest : List ℕ) → procedure_numbered procedure s.procedures ≡ Some shape → all_fit shape.arguments arguments ≡ true → parts rest ≡ true → arguments_read s procedure entry ((codes " arguments " ++ shown_list arguments) ++ rest) ≡ Some (performs_of procedure entry arguments, rest)
arguments_complete s shape procedure entry arguments rest is fit ends =
    ap (λ o. by_shape o (λ p. and_then (values_behind (codes " arguments ") p.arguments ((codes " arguments " ++ shown_list arguments) ++ rest)) (λ ts later. Some (performs_of procedure entry ts, later)))) is
    ∙ ap (λ r. and_then r (λ ts later. Some (performs_of procedure entry ts, later))) (values_behind_complete (codes " arguments ") shape.arguments arguments rest fit ends)

pub performs_complete : (modules : List (List ℕ)) (s : Signature) (shape : ProcedureShape) (p : Performs) (rest : List ℕ) → IsPerformedSo modules s shape p → parts rest ≡ true → performs_read modules s (performs_text p ++ rest) ≡ Some (p, rest)
performs_complete modules s shape p rest is ends =
    let procedure = codes " procedure " ++ decimal p.procedure in
    let clock = codes " clock " ++ clock_text p.entry in
    let arguments = codes " arguments " ++ shown_list p.arguments in
    let last = λ (n : ℕ) (text : List ℕ). and_then (clock_behind (length modules) text) (λ entry later. arguments_read s n entry later) in
    ap (λ t. and_then (word_behind (codes " procedure ") t) last) (append_assoc procedure (clock ++ arguments) rest)
    ∙ ap (λ r. and_then r last) (word_complete (codes " procedure ") p.procedure ((clock ++ arguments) ++ rest) is.0 refl)
    ∙ ap (last p.procedure) (append_assoc clock arguments rest)
    ∙ ap (λ r. and_then r (λ entry later. arguments_read s p.procedure entry later)) (clock_behind_complete (length modules) p.entry (arguments ++ rest) is.1 refl)
    ∙ arguments_complete s shape p.procedure p.entry p.arguments rest is.2 is.3 ends

pub run_complete : (modules : List (List ℕ)) (d : Deployment) (s : Signature) (shape : ProcedureShape) (events most place : ℕ) → AreNames modules → place < 2 ^ 32 → events < 2 ^ 64 → (e : Entered) (p : Performs) → IsEntered modules d events e → length e.path ≤ most → IsPerformedSo modules s shape p → run_read modules d s events most place (entered_text modules place e ++ performs_text p) ≡ Some (run_begun e p)
run_complete modules d s shape events most place names few short e p entered within performed =
    let text = performs_text p in
    let nothing : performs_read modules s text ≡ Some (p, []) = ap (performs_read modules s) (sym (append-nil text)) ∙ performs_complete modules s shape p [] performed refl in
    ap (λ r. whole (and_then r (λ x rest. and_then (performs_read modules s rest) (λ y later. Some (run_begun x y, later))))) (entered_complete modules d events most place names few short e text entered within refl)
    ∙ ap (λ r. whole (and_then r (λ y later. Some (run_begun e y, later)))) nothing

-- ---- asks

abbrev asked_of : ℕ → ℕ → ℕ → Asked
asked_of asked callee index = record { asked = asked; callee = callee; index = index }

asked_complete : (modules : List (List ℕ)) (events number : ℕ) → AreNames modules → number < 2 ^ 32 → events < 2 ^ 64 → (a : Asked) (rest : List ℕ) → IsAsked modules events a → parts rest ≡ true → asked_read modules events number (asked_text modules number a ++ rest) ≡ Some (a, rest)
asked_complete modules events number names few short a rest is ends =
    three_complete (numbered_step number events) (λ n. decimal number ++ (codes " step " ++ decimal n)) (λ n. n < events) (name_behind (codes " to ") modules) (λ n. codes " to " ++ name_at modules n) (λ n. n < length modules) (long_behind (codes " index ")) (λ n. codes " index " ++ decimal n) (λ n. n < 2 ^ 32) asked_of (numbered_complete number events few short) (name_behind_complete (codes " to ") modules names) (long_complete (codes " index ")) a.asked a.callee a.index rest is.0 is.1 is.2 refl refl ends

wanted_complete : (s : Signature) (a : Asked) (shape : ProcedureShape) (procedure : ℕ) (arguments state : List ValueTree) (rest : List ℕ) → procedure_of_import s.imports a.callee procedure ≡ Some shape → all_fit shape.arguments arguments ≡ true → all_fit s.variables state ≡ true → parts rest ≡ true → wanted_read s a procedure (((codes " arguments " ++ shown_list arguments) ++ (codes " state " ++ shown_list state)) ++ rest) ≡ Some (ask_made a procedure arguments state, rest)
wanted_complete s a shape procedure arguments state rest is fit fits ends =
    let text = ((codes " arguments " ++ shown_list arguments) ++ (codes " state " ++ shown_list state)) ++ rest in
    ap (λ o. by_shape o (λ p. and_then (values_behind (codes " arguments ") p.arguments text) (λ ts later. and_then (state_read s later) (λ us last. Some (ask_made a procedure ts us, last))))) is
    ∙ two_complete (values_behind (codes " arguments ") shape.arguments) (λ ts. codes " arguments " ++ shown_list ts) (λ ts. all_fit shape.arguments ts ≡ true) (state_read s) (λ ts. codes " state " ++ shown_list ts) (λ ts. all_fit s.variables ts ≡ true) (ask_made a procedure) (values_behind_complete (codes " arguments ") shape.arguments) (values_behind_complete (codes " state ") s.variables) arguments state rest fit fits refl ends

pub ask_complete : (modules : List (List ℕ)) (s : Signature) (events number : ℕ) (a : Asked) (shape : ProcedureShape) (procedure : ℕ) (arguments state : List ValueTree) → AreNames modules → number < 2 ^ 32 → events < 2 ^ 64 → IsAsked modules events a → procedure < 2 ^ 16 → procedure_of_import s.imports a.callee procedure ≡ Some shape → all_fit shape.arguments arguments ≡ true → all_fit s.variables state ≡ true → ask_read modules s events number (asked_text modules number a ++ ((codes " procedure " ++ decimal procedure) ++ ((codes " arguments " ++ shown_list arguments) ++ (codes " state " ++ shown_list state)))) ≡ Some (ask_made a procedure arguments state)
ask_complete modules s events number a shape procedure arguments state names few short is small found fit fits =
    let wants = (codes " arguments " ++ shown_list arguments) ++ (codes " state " ++ shown_list state) in
    let word = codes " procedure " ++ decimal procedure in
    let last = λ (x : Asked) (text : List ℕ). and_then (word_behind (codes " procedure ") text) (λ n later. wanted_read s x n later) in
    let wanted = ap (wanted_read s a procedure) (sym (append-nil wants)) ∙ wanted_complete s a shape procedure arguments state [] found fit fits refl in
    ap (λ r. whole (and_then r last)) (asked_complete modules events number names few short a (word ++ wants) is refl)
    ∙ ap (λ r. whole (and_then r (λ n later. wanted_read s a n later))) (word_complete (codes " procedure ") procedure wants small refl)
    ∙ ap whole wanted

-- ---- replies and ends

abbrev after_of : ℕ → List ℕ → After
after_of step clock = record { step = step; clock = clock }

abbrev pub after_text : ℕ → After → List ℕ
after_text number a = (decimal number ++ (codes " step " ++ decimal a.step)) ++ (codes " clock " ++ clock_text a.clock)

after_complete : (modules events number : ℕ) → number < 2 ^ 32 → events < 2 ^ 64 → (a : After) (rest : List ℕ) → IsAfter modules events a → parts rest ≡ true → after_read modules events number (after_text number a ++ rest) ≡ Some (a, rest)
after_complete modules events number few short a rest is ends =
    two_complete (numbered_step number events) (λ n. decimal number ++ (codes " step " ++ decimal n)) (λ n. n < events) (clock_behind modules) (λ clock. codes " clock " ++ clock_text clock) (λ clock. (length clock ≡ modules) × AllByRecursion (λ n. n < 2 ^ 32) clock) after_of (numbered_complete number events few short) (clock_behind_complete modules) a.step a.clock rest is.0 (is.1, is.2) refl ends

pub reply_complete : (modules : ℕ) (s : Signature) (events number : ℕ) (ask : AskRecord) (after : After) (shape : ProcedureShape) (reply : Outcome) → number < 2 ^ 32 → events < 2 ^ 64 → IsAfter modules events after → procedure_of_import s.imports ask.callee ask.procedure ≡ Some shape → CanEnd shape reply → reply_read modules s events number ask (after_text number after ++ (codes " " ++ outcome_text reply)) ≡ Some (answer_ask ask after reply)
reply_complete modules s events number ask after shape reply few short is found can =
    let said = codes " " ++ outcome_text reply in
    let outcome = ap (outcome_behind shape) (sym (append-nil said)) ∙ outcome_behind_complete shape reply [] can refl in
    ap (λ r. whole (and_then r (λ x rest. reply_by s ask x rest))) (after_complete modules events number few short after said is refl)
    ∙ ap (λ o. whole (by_shape o (λ p. and_then (outcome_behind p said) (λ x rest. Some (answer_ask ask after x, rest))))) found
    ∙ ap (λ r. whole (and_then r (λ x rest. Some (answer_ask ask after x, rest)))) outcome

pub end_complete : (modules : ℕ) (s : Signature) (events place : ℕ) (run : RunRecord) (after : After) (shape : ProcedureShape) (outcome : Outcome) (state : List ValueTree) → place < 2 ^ 32 → events < 2 ^ 64 → IsAfter modules events after → procedure_numbered run.procedure s.procedures ≡ Some shape → CanEnd shape outcome → all_fit s.variables state ≡ true → end_read modules s events place run (after_text place after ++ ((codes " " ++ outcome_text outcome) ++ (codes " state " ++ shown_list state))) ≡ Some (run_ended run after outcome state)
end_complete modules s events place run after shape outcome state few short is found can fits =
    let said = (codes " " ++ outcome_text outcome) ++ (codes " state " ++ shown_list state) in
    let both = two_complete (outcome_behind shape) (λ o. codes " " ++ outcome_text o) (CanEnd shape) (state_read s) (λ ts. codes " state " ++ shown_list ts) (λ ts. all_fit s.variables ts ≡ true) (run_ended run after) (outcome_behind_complete shape) (values_behind_complete (codes " state ") s.variables) outcome state [] can fits refl refl in
    let open_text = ap (λ t. and_then (outcome_behind shape t) (λ o a. and_then (state_read s a) (λ ts rest. Some (run_ended run after o ts, rest)))) (sym (append-nil said)) in
    ap (λ r. whole (and_then r (λ x rest. end_by s run x rest))) (after_complete modules events place few short after said is refl)
    ∙ ap (λ o. whole (by_shape o (λ p. and_then (outcome_behind p said) (λ x a. and_then (state_read s a) (λ ts rest. Some (run_ended run after x ts, rest)))))) found
    ∙ ap whole (open_text ∙ both)

-- ---- last lines and phases

pub idle_complete : (s : Signature) (state : List ValueTree) → all_fit s.variables state ≡ true → idle_read s (codes " state " ++ shown_list state) ≡ Some state
idle_complete s state fits = ap whole (ap (state_read s) (sym (append-nil (codes " state " ++ shown_list state))) ∙ values_behind_complete (codes " state ") s.variables state [] fits refl)

pub waiting_complete : (s : Signature) (number : ℕ) (state : List ValueTree) → number < 2 ^ 32 → all_fit s.variables state ≡ true → waiting_read s number (decimal number ++ (codes " state " ++ shown_list state)) ≡ Some state
waiting_complete s number state few fits = ap (λ r. whole (behind r (state_read s))) (this_complete number (codes " state " ++ shown_list state) few refl) ∙ idle_complete s state fits

pub active_complete : (events from since count : ℕ) → events < 2 ^ 64 → IsActivePhase events (Active from since count) → active_line events (active_text (Active from since count)) ≡ Some (Active from since count)
active_complete events from since count short is =
    let text = active_text (Active from since count) in
    ap whole (ap (active_read events) (sym (append-nil text)) ∙ three_complete (long_behind (codes "from ")) (λ n. codes "from " ++ decimal n) (λ n. n < 2 ^ 32) (step_behind (codes " at ") events) (λ n. codes " at " ++ decimal n) (λ n. n < events) (long_behind (codes " count ")) (λ n. codes " count " ++ decimal n) (λ n. n < 2 ^ 32) (λ a b c. Active a b c) (long_complete (codes "from ")) (step_behind_complete (codes " at ") events short) (long_complete (codes " count ")) from since count [] is.0 is.1 is.2 refl refl refl)
