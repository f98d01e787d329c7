-- What the history of a program says of headers, replies and places: each is in its range.
use Rattle.std.proofs.Common.{◌≡◌, ℕ, ◌<◌, ◌^◌, true, List, Some, sym, ap, subst, ◌∙◌, arith}
use Rattle.std.specs.Prelude.{Contains}
use Rattle.std.proofs.lemmas.Bool.{eqb-true}
use Rattle.std.proofs.lemmas.List.Elements.{All-from_get_or}
use Rattle.circus_value.specs.ValueTree.{ValueTree}
use Rattle.circus_value.specs.Fits.{all_fit}
use Rattle.circus_header.specs.declared.answer.Reply.{Reply}
use Rattle.circus_model.specs.declared.signature.Import.{Import}
use Rattle.circus_model.specs.declared.signature.ProcedureShape.{ProcedureShape}
use Rattle.circus_model.specs.declared.history.Run.{Run}
use Rattle.circus_model.specs.Behaviour.{Behaviour}
use Rattle.circus_model.specs.Agree.{IsAt, AreModules, Agree}
use Rattle.circus_model.specs.Execution.{history_of}
use Rattle.circus_model.specs.History.{run_at}
use Rattle.circus_model.specs.Lawful.{procedure_numbered, import_of, arguments_fit, import_takes}
use Rattle.circus_model.proofs.Lookups.{found}
use Rattle.circus_model.proofs.Turning.{some_true}
use Rattle.circus_model.proofs.Histories.{in_history}
use Rattle.circus_member_theory.specs.Messages.{IsReplyOf}
use Rattle.circus_member_theory.proofs.Counts.{IsFew, end_few}
use Rattle.circus_member_theory.proofs.Headers.{AreLong}

-- counts that are few are numbers of four bytes
pub few_are_long : (clock : List ℕ) → IsFew clock → AreLong clock
few_are_long clock few = All-from_get_or (λ (n : ℕ). n < 2 ^ 32) clock 0 (λ i within. let here = few i in omega (arith, here))

module _ (program : List Behaviour) (agree : Agree program) (are : AreModules program) where
  -- there is a module where there is a run
  pub module_of : (place index : ℕ) (run : Run) → run_at (history_of program) place index ≡ Some run → (b : Behaviour) × IsAt program place b
  module_of place index run at =
      let logged = (in_history program agree are place index run at).logged in
      (logged.behaviour, logged.there)

  pub reply_is_long : (place index : ℕ) (run : Run) (reply : Reply) → run_at (history_of program) place index ≡ Some run → IsReplyOf run reply → AreLong reply.clock
  reply_is_long place index run reply at is = subst AreLong (sym is.clock) (few_are_long run.end (end_few program agree are place index run at))

  -- the procedure that an import takes arguments for, as its module declares it
  pub record IsTaken (callee procedure : ℕ) (arguments : List ValueTree) : Type 0 where
    pub imported : Behaviour
    pub there : IsAt program callee imported
    pub shape : ProcedureShape
    pub numbered : procedure_numbered procedure imported.declared.procedures ≡ Some shape
    pub number : shape.number ≡ procedure
    pub among : Contains imported.declared.procedures shape
    pub fit : all_fit shape.arguments arguments ≡ true

  pub taken_is : (place : ℕ) (b : Behaviour) (callee procedure : ℕ) (arguments : List ValueTree) → IsAt program place b
      → import_takes b.declared.imports callee procedure arguments ≡ true → IsTaken callee procedure arguments
  taken_is place b callee procedure arguments at takes =
      let i = some_true (λ (i : Import). arguments_fit i.procedures procedure arguments) (import_of callee b.declared.imports) takes in
      let p = some_true (λ (p : ProcedureShape). all_fit p.arguments arguments) (procedure_numbered procedure i.value.procedures) i.passes in
      let import = found _ b.declared.imports i.value i.there in
      let names : i.value.«module» ≡ callee = eqb-true i.value.«module» callee import.passes in
      let earlier = agree.imports place b i.value at import.among in
      let numbered : procedure_numbered procedure earlier.imported.declared.procedures ≡ Some p.value = ap (procedure_numbered procedure) (sym earlier.procedures) ∙ p.there in
      let shape = found _ earlier.imported.declared.procedures p.value numbered in
      record {
        imported = earlier.imported;
        there = subst (λ c. IsAt program c earlier.imported) names earlier.there;
        shape = p.value;
        numbered = numbered;
        number = eqb-true p.value.number procedure shape.passes;
        among = shape.among;
        fit = p.passes;
      }
