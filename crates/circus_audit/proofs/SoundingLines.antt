-- The whole lines of an active member that are read are those of what was read.
use Rattle.std.specs.List.{AllByRecursion}
use Rattle.std.specs.Fmt.{decimal}
use Rattle.std.proofs.Common.{◌≡◌, ◌∙◌, ℕ, ◌<◌, ◌^◌, true, List, [], ◌∷◌, ◌++◌, length, codes, Some, ap, append_assoc, append-nil}
use Rattle.circus_value.specs.ValueTree.{ValueTree}
use Rattle.circus_value.specs.Fits.{all_fit}
use Rattle.circus_value.specs.Shown.{shown_list}
use Rattle.circus_value.specs.ThreadText.{clock_text, numbers_behind}
use Rattle.circus_value.specs.OutcomeText.{outcome_text}
use Rattle.circus_value.specs.declared.outcome.Outcome.{Outcome}
use Rattle.circus_model.specs.Lawful.{procedure_numbered, outcome_fits, import_takes, import_answers}
use Rattle.circus_model.specs.declared.signature.ProcedureShape.{ProcedureShape}
use Rattle.circus_model.specs.declared.signature.Signature.{Signature}
use Rattle.circus_collate.specs.declared.deployment.Deployment.{Deployment}
use Rattle.circus_record.specs.declared.record.AskRecord.{AskRecord}
use Rattle.circus_record.specs.declared.record.RunRecord.{RunRecord}
use Rattle.circus_record.specs.Line.{line, run_line, ask_line, reply_line, end_line}
use Rattle.circus_value_text.specs.Reading.{and_then, behind}
use Rattle.circus_value_text.proofs.Marks.{behind_some, and_then_some}
use Rattle.circus_audit.specs.declared.member_line.Entered.{Entered}
use Rattle.circus_audit.specs.declared.member_line.Performs.{Performs}
use Rattle.circus_audit.specs.declared.member_line.Asked.{Asked}
use Rattle.circus_audit.specs.declared.member_line.After.{After}
use Rattle.circus_audit.specs.Seen.Names.{name_at}
use Rattle.circus_audit.specs.Seen.Values.{outcome_behind}
use Rattle.circus_audit.specs.Seen.Lines.{behind_this, word_behind, entered_read, performs_read, run_begun, run_parts, run_read, asked_read, wanted_read, ask_made, ask_parts, ask_read, after_read, answer_ask, reply_by, reply_parts, reply_read, run_ended, end_by, end_parts, end_read, state_read, idle_read, waiting_read}
use Rattle.circus_audit.proofs.Sounding.{whole_some, word_sound, this_sound}
use Rattle.circus_audit.proofs.SoundingValues.{values_behind_sound, outcome_behind_sound}
use Rattle.circus_audit.proofs.SoundingMember.{two_sound, after_sound}
use Rattle.circus_audit.proofs.SoundingRuns.{by_shape_some, entered_text, IsEntered, entered_sound, performs_text, CanPerform, performs_sound}
use Rattle.circus_audit.proofs.SoundingAsks.{asked_text, IsAsked, asked_sound, wanted_sound, reply_by_sound}

-- ---- texts of the parts of lines, put together

run_text : (r a b c d e f g h i j k l n : List ℕ) → (r ++ (((a ++ (b ++ c)) ++ ((d ++ e) ++ f)) ++ ((g ++ h) ++ ((i ++ j) ++ (k ++ l))))) ++ n ≡ ((((r ++ a) ++ (b ++ c)) ++ d) ++ (e ++ f)) ++ ((((((g ++ h) ++ i) ++ j) ++ k) ++ l) ++ n)
run_text r a b c d e f g h i j k l n = simp append_assoc

ask_text : (r a b c d e f g h i j k l m n : List ℕ) → (r ++ (((a ++ (b ++ c)) ++ ((d ++ e) ++ (f ++ g))) ++ ((h ++ i) ++ ((j ++ k) ++ (l ++ m))))) ++ n ≡ ((((((r ++ a) ++ (b ++ c)) ++ d) ++ e) ++ f) ++ g) ++ ((((((h ++ i) ++ j) ++ k) ++ l) ++ m) ++ n)
ask_text r a b c d e f g h i j k l m n = simp append_assoc

reply_text : (r a b c d e f g n : List ℕ) → (r ++ (((a ++ (b ++ c)) ++ (d ++ e)) ++ (f ++ g))) ++ n ≡ ((((((r ++ a) ++ (b ++ c)) ++ d) ++ e) ++ f) ++ g) ++ n
reply_text r a b c d e f g n = simp append_assoc

end_text : (r a b c d e f g h i n : List ℕ) → (r ++ (((a ++ (b ++ c)) ++ (d ++ e)) ++ ((f ++ g) ++ (h ++ i)))) ++ n ≡ ((((r ++ a) ++ (b ++ c)) ++ d) ++ e) ++ ((((f ++ g) ++ h) ++ i) ++ n)
end_text r a b c d e f g h i n = simp append_assoc

-- ---- runs

-- a run begins on this line
pub record IsRunLine (modules : List (List ℕ)) (d : Deployment) (s : Signature) (events place : ℕ) (text : List ℕ) (run : RunRecord) : Type 0 where
  pub entered : Entered
  pub performs : Performs
  pub is_run : run ≡ run_begun entered performs
  pub text_is : line (codes "run " ++ text) ≡ run_line place (Some entered.started) (name_at modules entered.root) entered.path performs.procedure performs.entry performs.arguments
  pub is_entered : IsEntered modules d events entered
  pub can_perform : CanPerform (length modules) s performs

pub run_sound : (modules : List (List ℕ)) (d : Deployment) (s : Signature) (events most place : ℕ) (text : List ℕ) (run : RunRecord) → events < 2 ^ 64 → run_read modules d s events most place text ≡ Some run → IsRunLine modules d s events place text run
run_sound modules d s events most place text run short is =
    let w = whole_some (run_parts modules d s events most place text) run is in
    let r = two_sound (entered_read modules d events most place) (entered_text modules place) (IsEntered modules d events) (performs_read modules s) performs_text (CanPerform (length modules) s) (λ e p. run_begun e p) (entered_sound modules d events most place short) (performs_sound modules s) text run w.0 w.1 in
    let whole : text ≡ entered_text modules place r.0 ++ performs_text r.1 = r.3 ∙ ap (λ x. (entered_text modules place r.0 ++ performs_text r.1) ++ x) w.2 ∙ append-nil (entered_text modules place r.0 ++ performs_text r.1) in
    record {
      entered = r.0;
      performs = r.1;
      is_run = r.2;
      text_is = ap (λ x. line (codes "run " ++ x)) whole ∙ run_text (codes "run ") (decimal place) (codes " step ") (decimal r.0.started) (codes " path ") (name_at modules r.0.root) (numbers_behind 46 r.0.path) (codes " procedure ") (decimal r.1.procedure) (codes " clock ") (clock_text r.1.entry) (codes " arguments ") (shown_list r.1.arguments) (10 ∷ []);
      is_entered = r.4;
      can_perform = r.5;
    }

-- ---- asks

-- an ask is made on this line
pub record IsAskLine (modules : List (List ℕ)) (s : Signature) (events number : ℕ) (text : List ℕ) (ask : AskRecord) : Type 0 where
  pub asked : Asked
  pub procedure : ℕ
  pub arguments : List ValueTree
  pub state : List ValueTree
  pub is_ask : ask ≡ ask_made asked procedure arguments state
  pub text_is : line (codes "ask " ++ text) ≡ ask_line number (Some asked.asked) (name_at modules asked.callee) asked.index procedure arguments state
  pub is_asked : IsAsked modules events asked
  pub takes : import_takes s.imports asked.callee procedure arguments ≡ true
  pub fits : all_fit s.variables state ≡ true

pub ask_sound : (modules : List (List ℕ)) (s : Signature) (events number : ℕ) (text : List ℕ) (ask : AskRecord) → events < 2 ^ 64 → ask_read modules s events number text ≡ Some ask → IsAskLine modules s events number text ask
ask_sound modules s events number text ask short is =
    let w = whole_some (ask_parts modules s events number text) ask is in
    let x = and_then_some (asked_read modules events number text) (λ a rest. and_then (word_behind (codes " procedure ") rest) (λ procedure later. wanted_read s a procedure later)) (ask, w.0) w.1 in
    let y = and_then_some (word_behind (codes " procedure ") x.0.1) (λ procedure later. wanted_read s x.0.0 procedure later) (ask, w.0) x.2 in
    let one = asked_sound modules events number short text x.0.0 x.0.1 x.1 in
    let two = word_sound (codes " procedure ") x.0.1 y.0.0 y.0.1 y.1 in
    let three = wanted_sound s x.0.0 y.0.0 y.0.1 ask w.0 y.2 in
    let wants = (codes " arguments " ++ shown_list three.arguments) ++ (codes " state " ++ shown_list three.state) in
    let last : y.0.1 ≡ wants = three.text_is ∙ ap (λ z. wants ++ z) w.2 ∙ append-nil wants in
    let stands : text ≡ asked_text modules number x.0.0 ++ ((codes " procedure " ++ decimal y.0.0) ++ wants) = one.0 ∙ ap (λ z. asked_text modules number x.0.0 ++ z) (two.0 ∙ ap (λ z. (codes " procedure " ++ decimal y.0.0) ++ z) last) in
    record {
      asked = x.0.0;
      procedure = y.0.0;
      arguments = three.arguments;
      state = three.state;
      is_ask = three.is_made;
      text_is = ap (λ z. line (codes "ask " ++ z)) stands ∙ ask_text (codes "ask ") (decimal number) (codes " step ") (decimal x.0.0.asked) (codes " to ") (name_at modules x.0.0.callee) (codes " index ") (decimal x.0.0.index) (codes " procedure ") (decimal y.0.0) (codes " arguments ") (shown_list three.arguments) (codes " state ") (shown_list three.state) (10 ∷ []);
      is_asked = one.1;
      takes = three.takes;
      fits = three.fits;
    }

-- ---- replies

abbrev pub IsAfter : ℕ → ℕ → After → Type 0
IsAfter modules events a = (a.step < events) × (length a.clock ≡ modules) × AllByRecursion (λ n. n < 2 ^ 32) a.clock

-- a reply comes on this line
pub record IsReplyLine (modules : ℕ) (s : Signature) (events number : ℕ) (ask : AskRecord) (text : List ℕ) (replied : AskRecord) : Type 0 where
  pub after : After
  pub reply : Outcome
  pub is_replied : replied ≡ answer_ask ask after reply
  pub text_is : line (codes "reply " ++ text) ≡ reply_line number (Some after.step) after.clock reply
  pub is_after : IsAfter modules events after
  pub answers : import_answers s.imports ask.callee ask.procedure reply ≡ true

pub reply_sound : (modules : ℕ) (s : Signature) (events number : ℕ) (ask : AskRecord) (text : List ℕ) (replied : AskRecord) → events < 2 ^ 64 → reply_read modules s events number ask text ≡ Some replied → IsReplyLine modules s events number ask text replied
reply_sound modules s events number ask text replied short is =
    let w = whole_some (reply_parts modules s events number ask text) replied is in
    let x = and_then_some (after_read modules events number text) (λ after rest. reply_by s ask after rest) (replied, w.0) w.1 in
    let one = after_sound modules events number short text x.0.0 x.0.1 x.1 in
    let two = reply_by_sound s ask x.0.0 x.0.1 replied w.0 x.2 in
    let last : x.0.1 ≡ codes " " ++ outcome_text two.reply = two.text_is ∙ ap (λ z. (codes " " ++ outcome_text two.reply) ++ z) w.2 ∙ append-nil (codes " " ++ outcome_text two.reply) in
    let head = (decimal number ++ (codes " step " ++ decimal x.0.0.step)) ++ (codes " clock " ++ clock_text x.0.0.clock) in
    let stands : text ≡ head ++ (codes " " ++ outcome_text two.reply) = one.0 ∙ ap (λ z. head ++ z) last in
    record {
      after = x.0.0;
      reply = two.reply;
      is_replied = two.is_replied;
      text_is = ap (λ z. line (codes "reply " ++ z)) stands ∙ reply_text (codes "reply ") (decimal number) (codes " step ") (decimal x.0.0.step) (codes " clock ") (clock_text x.0.0.clock) (codes " ") (outcome_text two.reply) (10 ∷ []);
      is_after = one.1;
      answers = two.answers;
    }

-- ---- ends

-- a run ends on this line
pub record IsEndLine (modules : ℕ) (s : Signature) (events place : ℕ) (run : RunRecord) (text : List ℕ) (ended : RunRecord) : Type 0 where
  pub after : After
  pub outcome : Outcome
  pub state : List ValueTree
  pub is_ended : ended ≡ run_ended run after outcome state
  pub text_is : line (codes "end " ++ text) ≡ end_line place (Some after.step) after.clock outcome state
  pub is_after : IsAfter modules events after
  pub shape : ProcedureShape
  pub is_shape : procedure_numbered run.procedure s.procedures ≡ Some shape
  pub ends : outcome_fits shape outcome ≡ true
  pub fits : all_fit s.variables state ≡ true

pub end_sound : (modules : ℕ) (s : Signature) (events place : ℕ) (run : RunRecord) (text : List ℕ) (ended : RunRecord) → events < 2 ^ 64 → end_read modules s events place run text ≡ Some ended → IsEndLine modules s events place run text ended
end_sound modules s events place run text ended short is =
    let w = whole_some (end_parts modules s events place run text) ended is in
    let x = and_then_some (after_read modules events place text) (λ after rest. end_by s run after rest) (ended, w.0) w.1 in
    let one = after_sound modules events place short text x.0.0 x.0.1 x.1 in
    let shape = by_shape_some (procedure_numbered run.procedure s.procedures) (λ p. and_then (outcome_behind p x.0.1) (λ outcome a. and_then (state_read s a) (λ state rest. Some (run_ended run x.0.0 outcome state, rest)))) (ended, w.0) x.2 in
    let two = two_sound (outcome_behind shape.0) (λ o. codes " " ++ outcome_text o) (λ o. outcome_fits shape.0 o ≡ true) (state_read s) (λ ts. codes " state " ++ shown_list ts) (λ ts. all_fit s.variables ts ≡ true) (λ outcome state. run_ended run x.0.0 outcome state) (outcome_behind_sound shape.0) (values_behind_sound (codes " state ") s.variables) x.0.1 ended w.0 shape.2 in
    let later = (codes " " ++ outcome_text two.0) ++ (codes " state " ++ shown_list two.1) in
    let last : x.0.1 ≡ later = two.3 ∙ ap (λ z. later ++ z) w.2 ∙ append-nil later in
    let head = (decimal place ++ (codes " step " ++ decimal x.0.0.step)) ++ (codes " clock " ++ clock_text x.0.0.clock) in
    let stands : text ≡ head ++ later = one.0 ∙ ap (λ z. head ++ z) last in
    record {
      after = x.0.0;
      outcome = two.0;
      state = two.1;
      is_ended = two.2;
      text_is = ap (λ z. line (codes "end " ++ z)) stands ∙ end_text (codes "end ") (decimal place) (codes " step ") (decimal x.0.0.step) (codes " clock ") (clock_text x.0.0.clock) (codes " ") (outcome_text two.0) (codes " state ") (shown_list two.1) (10 ∷ []);
      is_after = one.1;
      shape = shape.0;
      is_shape = shape.1;
      ends = two.4;
      fits = two.5;
    }

-- ---- last lines

pub idle_sound : (s : Signature) (text : List ℕ) (state : List ValueTree) → idle_read s text ≡ Some state → (text ≡ codes " state " ++ shown_list state) × (all_fit s.variables state ≡ true)
idle_sound s text state is =
    let w = whole_some (state_read s text) state is in
    let one = values_behind_sound (codes " state ") s.variables text state w.0 w.1 in
    (one.0 ∙ ap (λ x. (codes " state " ++ shown_list state) ++ x) w.2 ∙ append-nil (codes " state " ++ shown_list state), one.1)

pub waiting_sound : (s : Signature) (number : ℕ) (text : List ℕ) (state : List ValueTree) → waiting_read s number text ≡ Some state → (text ≡ decimal number ++ (codes " state " ++ shown_list state)) × (all_fit s.variables state ≡ true)
waiting_sound s number text state is =
    let w = whole_some (behind (behind_this number text) (state_read s)) state is in
    let opened = behind_some (behind_this number text) (state_read s) (state, w.0) w.1 in
    let one = values_behind_sound (codes " state ") s.variables opened.0 state w.0 opened.2 in
    let later = one.0 ∙ ap (λ x. (codes " state " ++ shown_list state) ++ x) w.2 ∙ append-nil (codes " state " ++ shown_list state) in
    (this_sound number text opened.0 opened.1 ∙ ap (λ x. decimal number ++ x) later, one.1)
