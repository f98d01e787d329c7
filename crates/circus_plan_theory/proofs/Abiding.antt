-- A module that is meant, with well formed bodies, keeps the laws of modules.
use Rattle.std.proofs.Common.{◌≡◌, ℕ, suc, ◌+◌, ◌<◌, ◌≤◌, Bool, true, false, not, cond, ◌==◌, IsTrue, List, [], ◌∷◌, ◌++◌, length, take, Option, Some, None, slice_get, refl, sym, ap, subst, ◌∙◌, arith}
use Rattle.std.specs.Prelude.{find}
use Rattle.std.specs.List.{position_or_len}
use Rattle.std.specs.Option.{option_map_or}
use Rattle.std.proofs.lemmas.Bool.{lt-ltb}
use Rattle.std.proofs.lemmas.List.{append-nil, append_assoc}
use Rattle.std.proofs.Math.Seq.{take-append_seam}
use Rattle.circus_value.specs.ShapeTree.{ShapeTree}
use Rattle.circus_value.specs.ValueTree.{ValueTree}
use Rattle.circus_value.specs.Fits.{all_fit}
use Rattle.circus_value.specs.ExternalSize.{size_of_values}
use Rattle.circus_value.specs.declared.outcome.Outcome.{Outcome}
use Rattle.circus_value.specs.declared.outcome.Outcome.TheVariants.{Raised}
use Rattle.circus_model.specs.Lawful.{procedure_numbered, outcome_fits, IsState, CanStart, ReplyFits, RepliesFit, IsLawful}
use Rattle.circus_model.specs.Behaviour.{IsModule}
use Rattle.circus_model.specs.NextTurn.{NextTurn}
use Rattle.circus_model.specs.NextTurn as next
use Rattle.circus_model.specs.declared.language_error.LanguageError.TheVariants.{Unhandled}
use Rattle.circus_model.specs.declared.signature.ProcedureShape.{ProcedureShape}
use Rattle.circus_model.specs.declared.signature.Signature.{Signature}
use Rattle.circus_checked.specs.StatementTree.{statement_trees}
use Rattle.circus_machine.specs.Meaning.{Going, Flow, ends, asks, most_steps}
use Rattle.circus_machine.specs.Meaning as meaning
use Rattle.circus_machine.specs.Bodies.{next_turn, flow_of}
use Rattle.circus_evaluate.specs.Typed.{Hold}
use Rattle.circus_machine.specs.Modules.{trees, place_of}
use Rattle.circus_type.specs.Together.{shapes_of}
use Rattle.circus_idl.specs.declared.interface.Interface.{Interface}
use Rattle.circus_check.specs.Meaning.{BodyMeant, ModuleMeant}
use Rattle.circus_modules.specs.Zeros.{zeros}
use Rattle.circus_modules.specs.Signatures.{procedures_offered, signature_of}
use Rattle.circus_modules.specs.Behaviours.{turn_of, body_in, behaviour_of}
use Rattle.circus_plan_theory.proofs.Bodies.{IsBodyOf, AreBodiesOf}
use Rattle.circus_evaluate.proofs.Alike.{some_same}
use Rattle.circus_machine.proofs.Fulfilling.{fit_hold, hold_length, hold_both, hold_front}
use Rattle.circus_machine.proofs.Behaving.{Well, Ending, fails_ends, on, over, asking}
use Rattle.circus_machine.proofs.Lawful.{Goes, does_all_safe}

-- ---- an execution of a body

module _ (signature : Signature) (procedure : ℕ) (p : ProcedureShape) (found : procedure_numbered procedure signature.procedures ≡ Some p) (more : List ShapeTree) (states : ℕ)
    (same : states ≡ length signature.variables) where
  abbrev Kept : List ValueTree → Type 0
  Kept variables = Well signature p (trees signature.variables ++ more) states variables

  -- the flow as a turn
  abbrev turn : Flow Going → NextTurn
  turn flow = meaning.turn_by signature.limit states flow

  state_kept : (variables : List ValueTree) → Kept variables → IsState signature (take states variables)
  state_kept variables well = record {
    fits = subst (λ n. IsTrue (all_fit signature.variables (take n variables))) (sym same) (hold_front signature.variables more variables well.hold);
    within = well.within;
  }

  ends_lawfully : (replies : ℕ) (outcome : Outcome) (variables : List ValueTree) → Ending signature p (trees signature.variables ++ more) states outcome variables
      → IsLawful signature procedure replies (turn (ends outcome variables))
  ends_lawfully replies outcome variables ending = (
    record { fits = ap (λ o. option_map_or (λ q. outcome_fits q outcome) o false) found ∙ ending.fits; within = ending.within },
    state_kept variables ending.well,
  )

  -- what a reply fits
  asked_fits : (flow : Flow Going) (callee asked : ℕ) (arguments : List ValueTree) (c : Going) (reply : Outcome) → flow ≡ asks callee asked arguments c
      → ReplyFits signature.imports (turn flow) reply → ReplyFits signature.imports (next.asks callee asked arguments (take states c.variables)) reply
  asked_fits flow callee asked arguments c reply is fits = subst (λ f. ReplyFits signature.imports (turn f) reply) is fits

  module _ (whole : List Outcome → Flow Going) where
    lawful_turns : (n : ℕ) (f : List Outcome → Flow Going) → Goes signature p (trees signature.variables ++ more) states n f → (before : List Outcome)
        → ((replies : List Outcome) → whole (before ++ replies) ≡ f replies) → (replies : List Outcome)
        → RepliesFit signature.imports (λ rs. turn (whole rs)) before replies → IsLawful signature procedure (n + length replies) (turn (whole (before ++ replies)))
    lawful_turns _ _ (on n f a variables steps q well is) before same replies fit =
        subst (λ flow. IsLawful signature procedure (n + length replies) (turn flow)) (sym (same replies ∙ is replies))
        (ends_lawfully (n + length replies) (Raised 60009 []) variables (fails_ends signature p (trees signature.variables ++ more) states Unhandled variables well))
    lawful_turns _ _ (over n f outcome variables ending is) before same replies fit =
        subst (λ flow. IsLawful signature procedure (n + length replies) (turn flow)) (sym (same replies ∙ is replies)) (ends_lawfully (n + length replies) outcome variables ending)
    lawful_turns _ _ (asking n f callee asked arguments c few takes within well is later) before same [] fit =
        subst (λ flow. IsLawful signature procedure (n + 0) (turn flow)) (sym (same [] ∙ is)) (record { few = omega (arith, few); fit = takes; within = within }, state_kept c.variables well)
    lawful_turns _ _ (asking n f callee asked arguments c few takes within well is later) before same (reply ∷ replies) fit =
        let at_ask : whole before ≡ asks callee asked arguments c = ap whole (sym (append-nil before)) ∙ same [] ∙ is in
        let so : whole ((before ++ reply ∷ []) ++ replies) ≡ whole (before ++ reply ∷ replies) = ap whole (append_assoc before (reply ∷ []) replies) in
        subst (λ flow. IsLawful signature procedure (n + length (reply ∷ replies)) (turn flow)) so
        (subst (λ k. IsLawful signature procedure k (turn (whole ((before ++ reply ∷ []) ++ replies)))) (omega arith)
        (lawful_turns (suc n) (λ rest. f (reply ∷ rest)) (later reply (asked_fits (whole before) callee asked arguments c reply at_ask fit.0)) (before ++ reply ∷ [])
        (λ rest. ap whole (append_assoc before (reply ∷ []) rest) ∙ same (reply ∷ rest)) replies fit.1))

-- ---- the body of a procedure

abbrev numbered : ℕ → ProcedureShape → Bool
numbered number p = p.number == number

module _ (signature : Signature) (number : ℕ) (p : ProcedureShape) where
  -- the body in the place of the procedure with this number
  pub record Found (procedures : List ProcedureShape) (bodies : List BodyMeant) : Type 0 where
    pub body : BodyMeant
    pub there : position_or_len (numbered number) procedures < length procedures
    pub is : slice_get bodies (position_or_len (numbered number) procedures) ≡ Some body
    pub of : IsBodyOf signature p body

  found_by : (here : Bool) (q : ProcedureShape) (procedures : List ProcedureShape) (body : BodyMeant) (bodies : List BodyMeant) → numbered number q ≡ here
      → IsBodyOf signature q body → cond here (Some q) (find (numbered number) procedures) ≡ Some p
      → (find (numbered number) procedures ≡ Some p → Found procedures bodies) → Found (q ∷ procedures) (body ∷ bodies)
  found_by true q procedures body bodies here of is rest =
      let place : position_or_len (numbered number) (q ∷ procedures) ≡ 0 = ap (λ b. cond (not b) (1 + position_or_len (numbered number) procedures) 0) here in
      record {
        body = body;
        there = omega (arith, place);
        is = ap (slice_get (body ∷ bodies)) place;
        of = subst (λ r. IsBodyOf signature r body) (some_same q p is) of;
      }
  found_by false q procedures body bodies here of is rest =
      let found = rest is in
      let place : position_or_len (numbered number) (q ∷ procedures) ≡ suc (position_or_len (numbered number) procedures) =
      ap (λ b. cond (not b) (1 + position_or_len (numbered number) procedures) 0) here ∙ omega arith in
      record {
        body = found.body;
        there = omega (arith, place, found.there);
        is = ap (slice_get (body ∷ bodies)) place ∙ found.is;
        of = found.of;
      }

  body_found : (procedures : List ProcedureShape) (bodies : List BodyMeant) → AreBodiesOf signature procedures bodies → find (numbered number) procedures ≡ Some p → Found procedures bodies
  body_found [] bodies are is = cc
  body_found (q ∷ procedures) [] are is = absurd are
  body_found (q ∷ procedures) (body ∷ bodies) are is = found_by (numbered number q) q procedures body bodies refl are.0 is (body_found procedures bodies are.1)

  found_at : (procedures : List ProcedureShape) (bodies : List BodyMeant) (found : Found procedures bodies) → body_in bodies (place_of number procedures) ≡ Some found.body
  found_at procedures bodies found =
      let place = position_or_len (numbered number) procedures in
      ap (λ b. body_in bodies (cond b (Some place) None)) (lt-ltb place (length procedures) found.there) ∙ found.is

-- the procedure that is started
started : (o : Option ProcedureShape) (arguments : List ValueTree) → IsTrue (option_map_or (λ p. all_fit p.arguments arguments) o false)
    → (p : ProcedureShape) × (o ≡ Some p) × IsTrue (all_fit p.arguments arguments)
started None arguments fit = cc
started (Some p) arguments fit = (p, refl, fit)

-- ---- the module

body_abides : (signature : Signature) (procedure : ℕ) (p : ProcedureShape) (body : BodyMeant) (state arguments : List ValueTree) (replies : List Outcome)
    → procedure_numbered procedure signature.procedures ≡ Some p → IsTrue (all_fit p.arguments arguments) → IsBodyOf signature p body
    → CanStart signature state procedure arguments → RepliesFit signature.imports (next_turn signature.limit body.statements (zeros body.locals) state arguments) [] replies
    → IsLawful signature procedure (length replies) (next_turn signature.limit body.statements (zeros body.locals) state arguments replies)
body_abides signature procedure p body state arguments replies found fit of start answered =
    let locals = zeros body.locals in
    let more : List ShapeTree = trees p.arguments ++ shapes_of body.locals in
    let whole : List Outcome → Flow Going = flow_of signature.limit body.statements locals state arguments in
    let hold : Hold (trees signature.variables ++ more) (state ++ (arguments ++ locals)) =
    hold_both (trees signature.variables) more state (arguments ++ locals) (fit_hold signature.variables state start.from_state.fits)
    (hold_both (trees p.arguments) (shapes_of body.locals) arguments locals (fit_hold p.arguments arguments fit) of.hold) in
    let well : Well signature p (trees signature.variables ++ more) (length state) (state ++ (arguments ++ locals)) =
    record { hold = hold; within = subst (λ ts. size_of_values ts ≤ signature.limit) (sym (take-append_seam state (arguments ++ locals))) start.from_state.within } in
    subst (λ n. IsLawful signature procedure n (next_turn signature.limit body.statements locals state arguments replies)) (omega arith)
    (lawful_turns signature procedure p found more (length state) (hold_length signature.variables state start.from_state.fits) whole 0 whole
    (does_all_safe signature p (trees signature.variables ++ more) (length state) (statement_trees body.statements) of.typed 0
    (state ++ (arguments ++ locals)) most_steps well) [] (λ rs. refl) replies answered)

-- with a first state and bodies for its procedures
pub abides : (limit : ℕ) (interfaces : List Interface) (numbers : List (Option ℕ)) (m : ModuleMeant) → IsState (signature_of limit interfaces numbers m) (zeros m.variables)
    → AreBodiesOf (signature_of limit interfaces numbers m) (procedures_offered interfaces m.interface) m.bodies → IsModule (behaviour_of limit interfaces numbers m)
abides limit interfaces numbers m is are = record {
  first_is_state = is;
  turns_are_lawful = λ state procedure arguments replies start answered.
      let signature = signature_of limit interfaces numbers m in
      let (p, found, fit) = started (procedure_numbered procedure signature.procedures) arguments start.fit in
      let body = body_found signature procedure p signature.procedures m.bodies are found in
      let there = found_at signature procedure p signature.procedures m.bodies body in
      subst (λ o. IsLawful signature procedure (length replies) (turn_of limit o state arguments replies)) (sym there)
      (body_abides signature procedure p body.body state arguments replies found fit body.of start
      (subst (λ o. RepliesFit signature.imports (turn_of limit o state arguments) [] replies) there answered));
}
