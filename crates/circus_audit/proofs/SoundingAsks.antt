-- The lines of asks, of replies and of ends that are read are those of what was read.
use Rattle.std.proofs.Common.{◌≡◌, ◌∙◌, ℕ, ◌<◌, ◌^◌, true, false, List, ◌++◌, length, codes, Option, Some, None, option_and_then, sym, ap, subst}
use Rattle.std.specs.Option.{option_map_or}
use Rattle.std.specs.Fmt.{decimal}
use Rattle.circus_value.specs.ValueTree.{ValueTree}
use Rattle.circus_value.specs.Fits.{all_fit}
use Rattle.circus_value.specs.Shown.{shown_list}
use Rattle.circus_value.specs.OutcomeText.{outcome_text}
use Rattle.circus_value.specs.declared.outcome.Outcome.{Outcome}
use Rattle.circus_model.specs.Lawful.{procedure_numbered, import_of, arguments_fit, outcome_fits, import_takes, import_answers}
use Rattle.circus_model.specs.declared.signature.Import.{Import}
use Rattle.circus_model.specs.declared.signature.ProcedureShape.{ProcedureShape}
use Rattle.circus_model.specs.declared.signature.Signature.{Signature}
use Rattle.circus_record.specs.declared.record.AskRecord.{AskRecord}
use Rattle.circus_value_text.specs.Reading.{and_then}
use Rattle.circus_value_text.proofs.Marks.{pair_is, and_then_some}
use Rattle.circus_audit.specs.declared.member_line.Asked.{Asked}
use Rattle.circus_audit.specs.declared.member_line.After.{After}
use Rattle.circus_audit.specs.Seen.Names.{name_at}
use Rattle.circus_audit.specs.Seen.Values.{values_behind, outcome_behind, procedure_of_import}
use Rattle.circus_audit.specs.Seen.Lines.{numbered_step, name_behind, long_behind, state_read, asked_read, ask_made, wanted_read, answer_ask, reply_by}
use Rattle.circus_audit.proofs.Sounding.{Sounds, numbered_sound, long_sound}
use Rattle.circus_audit.proofs.SoundingValues.{values_behind_sound, outcome_behind_sound}
use Rattle.circus_audit.proofs.SoundingMember.{two_sound, three_sound}
use Rattle.circus_audit.proofs.SoundingRuns.{by_shape_some, name_behind_sound}

takes_of : (i : Option Import) (number : ℕ) (p : ProcedureShape) (arguments : List ValueTree) → option_and_then (λ (x : Import). procedure_numbered number x.procedures) i ≡ Some p → all_fit p.arguments arguments ≡ true → option_map_or (λ (x : Import). arguments_fit x.procedures number arguments) i false ≡ true
takes_of (Some i) number p arguments is fit = ap (λ o. option_map_or (λ (x : ProcedureShape). all_fit x.arguments arguments) o false) is ∙ fit
takes_of None number p arguments is fit = cc

pub answers_of : (i : Option Import) (number : ℕ) (p : ProcedureShape) (reply : Outcome) → option_and_then (λ (x : Import). procedure_numbered number x.procedures) i ≡ Some p → outcome_fits p reply ≡ true → option_map_or (λ (x : Import). option_map_or (λ (y : ProcedureShape). outcome_fits y reply) (procedure_numbered number x.procedures) false) i false ≡ true
answers_of (Some i) number p reply is fit = ap (λ o. option_map_or (λ (y : ProcedureShape). outcome_fits y reply) o false) is ∙ fit
answers_of None number p reply is fit = cc

-- ---- asks

abbrev pub asked_text : List (List ℕ) → ℕ → Asked → List ℕ
asked_text modules number a = (decimal number ++ (codes " step " ++ decimal a.asked)) ++ ((codes " to " ++ name_at modules a.callee) ++ (codes " index " ++ decimal a.index))

abbrev pub IsAsked : List (List ℕ) → ℕ → Asked → Type 0
IsAsked modules events a = (a.asked < events) × (a.callee < length modules) × (a.index < 2 ^ 32)

pub asked_sound : (modules : List (List ℕ)) (events number : ℕ) → events < 2 ^ 64 → Sounds (asked_read modules events number) (asked_text modules number) (IsAsked modules events)
asked_sound modules events number short text a rest is =
    let s = three_sound (numbered_step number events) (λ n. decimal number ++ (codes " step " ++ decimal n)) (λ n. n < events) (name_behind (codes " to ") modules) (λ n. codes " to " ++ name_at modules n) (λ n. n < length modules) (long_behind (codes " index ")) (λ n. codes " index " ++ decimal n) (λ n. n < 2 ^ 32) (λ asked callee index. record { asked = asked; callee = callee; index = index }) (numbered_sound number events short) (name_behind_sound (codes " to ") modules) (long_sound (codes " index ")) text a rest is in
    (s.4 ∙ ap (λ x. asked_text modules number x ++ rest) (sym s.3), subst (IsAsked modules events) (sym s.3) (s.5, s.6, s.7))

-- what an ask asks for, and of whom
pub record IsWanted (s : Signature) (a : Asked) (procedure : ℕ) (text : List ℕ) (ask : AskRecord) (rest : List ℕ) : Type 0 where
  pub arguments : List ValueTree
  pub state : List ValueTree
  pub is_made : ask ≡ ask_made a procedure arguments state
  pub text_is : text ≡ ((codes " arguments " ++ shown_list arguments) ++ (codes " state " ++ shown_list state)) ++ rest
  pub takes : import_takes s.imports a.callee procedure arguments ≡ true
  pub fits : all_fit s.variables state ≡ true

pub wanted_sound : (s : Signature) (a : Asked) (procedure : ℕ) (text : List ℕ) (ask : AskRecord) (rest : List ℕ) → wanted_read s a procedure text ≡ Some (ask, rest) → IsWanted s a procedure text ask rest
wanted_sound s a procedure text ask rest is =
    let shape = by_shape_some (procedure_of_import s.imports a.callee procedure) (λ p. and_then (values_behind (codes " arguments ") p.arguments text) (λ arguments r. and_then (state_read s r) (λ state later. Some (ask_made a procedure arguments state, later)))) (ask, rest) is in
    let r = two_sound (values_behind (codes " arguments ") shape.0.arguments) (λ ts. codes " arguments " ++ shown_list ts) (λ ts. all_fit shape.0.arguments ts ≡ true) (state_read s) (λ ts. codes " state " ++ shown_list ts) (λ ts. all_fit s.variables ts ≡ true) (λ arguments state. ask_made a procedure arguments state) (values_behind_sound (codes " arguments ") shape.0.arguments) (values_behind_sound (codes " state ") s.variables) text ask rest shape.2 in
    record {
      arguments = r.0;
      state = r.1;
      is_made = r.2;
      text_is = r.3;
      takes = takes_of (import_of a.callee s.imports) procedure shape.0 r.0 shape.1 r.4;
      fits = r.5;
    }

-- ---- replies

-- a reply to an ask
pub record IsReplied (s : Signature) (ask : AskRecord) (after : After) (text : List ℕ) (replied : AskRecord) (rest : List ℕ) : Type 0 where
  pub reply : Outcome
  pub is_replied : replied ≡ answer_ask ask after reply
  pub text_is : text ≡ (codes " " ++ outcome_text reply) ++ rest
  pub answers : import_answers s.imports ask.callee ask.procedure reply ≡ true

pub reply_by_sound : (s : Signature) (ask : AskRecord) (after : After) (text : List ℕ) (replied : AskRecord) (rest : List ℕ) → reply_by s ask after text ≡ Some (replied, rest) → IsReplied s ask after text replied rest
reply_by_sound s ask after text replied rest is =
    let shape = by_shape_some (procedure_of_import s.imports ask.callee ask.procedure) (λ p. and_then (outcome_behind p text) (λ reply r. Some (answer_ask ask after reply, r))) (replied, rest) is in
    let x = and_then_some (outcome_behind shape.0 text) (λ reply r. Some (answer_ask ask after reply, r)) (replied, rest) shape.2 in
    let one = outcome_behind_sound shape.0 text x.0.0 x.0.1 x.1 in
    let parts = pair_is (answer_ask ask after x.0.0) replied x.0.1 rest x.2 in
    record {
      reply = x.0.0;
      is_replied = sym parts.0;
      text_is = one.0 ∙ ap (λ w. (codes " " ++ outcome_text x.0.0) ++ w) parts.1;
      answers = answers_of (import_of ask.callee s.imports) ask.procedure shape.0 x.0.0 shape.1 one.1;
    }
