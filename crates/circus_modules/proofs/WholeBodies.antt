-- Bodies that are well formed over interfaces are so by what modules declare.
use Rattle.std.proofs.Common.{◌≡◌, ℕ, Bool, true, false, List, [], ◌∷◌, ◌++◌, Option, Some, None, map, refl, sym, ◌∙◌, ap, subst, append_assoc}
use Rattle.std.proofs.lemmas.List.{map-append}
use Rattle.circus_value.specs.ShapeTree.{ShapeTree, FieldTree}
use Rattle.circus_checked.specs.StatementTree.{statement_trees}
use Rattle.circus_checked.specs.WellTyped.{AreTyped}
use Rattle.circus_model.specs.declared.signature.ProcedureShape.{ProcedureShape}
use Rattle.circus_model.specs.declared.signature.Signature.{Signature}
use Rattle.circus_model.specs.Agree.{main_alone}
use Rattle.circus_machine.specs.declared.body.Body.{Body}
use Rattle.circus_machine.specs.Modules as machine
use Rattle.circus_machine.specs.Modules.{trees, IsBodyOf, AreBodiesOf}
use Rattle.circus_evaluate.specs.Typed.{Hold}
use Rattle.circus_type.specs.Together.{shapes_of}
use Rattle.circus_idl.specs.Obeys.{Obeys}
use Rattle.circus_idl.specs.declared.interface.Procedure.{Procedure}
use Rattle.circus_idl.specs.declared.interface.Interface.{Interface}
use Rattle.circus_modules.specs.InterfaceSignatures.{shapes_in, procedure_of}
use Rattle.circus_check.specs.Meaning.{BodyMeant, ModuleMeant}
use Rattle.circus_check.specs.WellFormed as checked
use Rattle.circus_check.specs.WellFormed.{IsAt, IsBody, AreBodies, IsMain, HasBodies, Raised}
use Rattle.circus_check.proofs.TypedMore.{all_typed_more}
use Rattle.circus_modules.specs.Signatures.{signature_of, procedures_offered, interface_numbers, procedures_if, import_of}
use Rattle.circus_modules.specs.Seen.Made.{IsMade, AreMade}
use Rattle.circus_modules.proofs.Offered.{takes_here, reports_here, raised_here}
use Rattle.circus_modules.proofs.States.{zeros_hold}
use Rattle.circus_modules.proofs.Trees.{shapes_forth}

-- the shapes of all variables of a body
together : (state arguments locals : List FieldTree) → shapes_of (state ++ arguments ++ locals) ≡ trees (shapes_in state) ++ (trees (shapes_in arguments) ++ shapes_of locals)
together state arguments locals =
    map-append (λ (f : FieldTree). f.shape) (state ++ arguments) locals
    ∙ ap (λ xs. xs ++ shapes_of locals) (map-append (λ (f : FieldTree). f.shape) state arguments)
    ∙ append_assoc (shapes_of state) (shapes_of arguments) (shapes_of locals)
    ∙ (λ i. sym (shapes_forth state) i ++ (sym (shapes_forth arguments) i ++ shapes_of locals))

module _ (limit : ℕ) (interfaces : List Interface) (modules : List ModuleMeant) (obey : (n : ℕ) (i : Interface) → IsAt interfaces n i → Obeys i) (m : ModuleMeant) where
  declared : Signature
  declared = signature_of limit interfaces (interface_numbers modules) m

  -- one body, whose procedure has this shape
  body_here : (p : ProcedureShape) (arguments : List FieldTree) (results : List ShapeTree) (raises : ℕ → List ShapeTree → Type 0) (b : BodyMeant) (made : Body)
      → p.arguments ≡ shapes_in arguments → trees p.results ≡ results → ((number : ℕ) (values : List ShapeTree) → raises number values → machine.SignatureRaises p.errors number values)
      → IsBody interfaces modules m arguments results raises b → IsMade b made → IsBodyOf declared p made
  unfolding declared
  body_here p arguments results raises b made taken given raised is same = record {
    locals = shapes_of b.locals;
    hold = subst (Hold (shapes_of b.locals)) (sym same.locals) (zeros_hold b.locals is.locals);
    typed =
        let imports = map (import_of interfaces (interface_numbers modules)) m.imports in
        let own : AreTyped (shapes_of (m.variables ++ arguments ++ b.locals)) (machine.SignatureTakes imports) (machine.SignatureReports imports) results (machine.SignatureRaises p.errors) (statement_trees b.statements) =
        all_typed_more (shapes_of (m.variables ++ arguments ++ b.locals)) (checked.ImportTakes interfaces modules m.imports) (machine.SignatureTakes imports) (checked.ImportReports interfaces modules m.imports) (machine.SignatureReports imports) results raises (machine.SignatureRaises p.errors)
        (takes_here interfaces modules obey m.imports) (reports_here interfaces modules obey m.imports) raised (statement_trees b.statements) is.typed in
        let shaped = together m.variables arguments b.locals ∙ ap (λ xs. trees (shapes_in m.variables) ++ (trees xs ++ shapes_of b.locals)) (sym taken) in
        subst (λ ss. AreTyped (trees (shapes_in m.variables) ++ (trees p.arguments ++ shapes_of b.locals)) (machine.SignatureTakes imports) (machine.SignatureReports imports) (trees p.results) (machine.SignatureRaises p.errors) (statement_trees ss)) (sym same.statements)
        (subst (λ gs. AreTyped (trees (shapes_in m.variables) ++ (trees p.arguments ++ shapes_of b.locals)) (machine.SignatureTakes imports) (machine.SignatureReports imports) gs (machine.SignatureRaises p.errors) (statement_trees b.statements)) (sym given)
        (subst (λ vs. AreTyped vs (machine.SignatureTakes imports) (machine.SignatureReports imports) results (machine.SignatureRaises p.errors) (statement_trees b.statements)) shaped own));
  }

  -- a body for each procedure of the interface
  bodies_here : (i : Interface) (ps : List Procedure) (bs : List BodyMeant) (all : List Body) → Obeys i → AreBodies interfaces modules m i ps bs → AreMade bs all → AreBodiesOf declared (map (procedure_of i.errors) ps) all
  unfolding declared
  bodies_here i [] [] [] obeys are made = tt
  bodies_here i [] [] (_ ∷ _) obeys are made = absurd made
  bodies_here i [] (_ ∷ _) all obeys are made = absurd are
  bodies_here i (_ ∷ _) [] all obeys are made = absurd are
  bodies_here i (_ ∷ _) (_ ∷ _) [] obeys are made = absurd made
  bodies_here i (p ∷ ps) (b ∷ bs) (one ∷ all) obeys are made = (
    body_here (procedure_of i.errors p) p.arguments (shapes_of p.results) (Raised interfaces modules i p) b one refl (shapes_forth p.results) (λ number values. raised_here interfaces modules i p number values obeys) are.0 made.0,
    bodies_here i ps bs all obeys are.1 made.1,
  )

  -- that of a root
  main_here : (bs : List BodyMeant) (all : List Body) → IsMain interfaces modules m bs → AreMade bs all → AreBodiesOf declared main_alone all
  unfolding declared
  main_here [] all are made = absurd are
  main_here (b ∷ []) [] are made = absurd made
  main_here (b ∷ []) (one ∷ []) are made =
      (body_here (record { number = 0; arguments = []; results = []; errors = [] }) [] [] (λ _ _. ⊥) b one refl refl (λ number values never. absurd never) are made.0, tt)
  main_here (b ∷ []) (one ∷ _ ∷ _) are made = absurd made.1
  main_here (b ∷ _ ∷ _) all are made = absurd are

  by_kind : (root : Bool) (number : Option ℕ) (all : List Body) → HasBodies interfaces modules m root number → AreMade m.bodies all → AreBodiesOf declared (procedures_offered interfaces number) all
  unfolding declared
  by_kind true None all has made = main_here m.bodies all has made
  by_kind true (Some n) all has made = absurd has
  by_kind false None all has made = absurd has
  by_kind false (Some n) all has made =
      let (i, there, are) = has in
      subst (λ o. AreBodiesOf declared (procedures_if o) all) (sym there) (bodies_here i i.procedures m.bodies all (obey n i there) are made)

  -- the bodies that are made of a module's
  pub made_are_bodies : (all : List Body) → HasBodies interfaces modules m m.root m.interface → AreMade m.bodies all
      → AreBodiesOf (signature_of limit interfaces (interface_numbers modules) m) (procedures_offered interfaces m.interface) all
  unfolding declared
  made_are_bodies all has made = by_kind m.root m.interface all has made
