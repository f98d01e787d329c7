-- Bodies that are well formed over interfaces are so by what modules declare.
use Rattle.std.proofs.Common.{◌≡◌, ℕ, Bool, true, false, List, [], ◌∷◌, ◌++◌, Option, Some, None, map, refl, sym, ◌∙◌, ap, subst, append_assoc}
use Rattle.std.proofs.lemmas.List.{map-append}
use Rattle.circus_value.specs.ShapeTree.{ShapeTree, FieldTree}
use Rattle.circus_checked.specs.StatementTree.{statement_trees}
use Rattle.circus_checked.specs.WellTyped.{AreTyped}
use Rattle.circus_model.specs.declared.signature.ProcedureShape.{ProcedureShape}
use Rattle.circus_model.specs.declared.signature.Signature.{Signature}
use Rattle.circus_model.specs.Agree.{main_alone}
use Rattle.circus_machine.specs.Modules as machine
use Rattle.circus_machine.specs.Modules.{trees}
use Rattle.circus_evaluate.specs.Typed.{Hold}
use Rattle.circus_type.specs.Together.{shapes_of}
use Rattle.circus_idl.specs.Obeys.{Obeys}
use Rattle.circus_idl.specs.declared.interface.Procedure.{Procedure}
use Rattle.circus_idl.specs.declared.interface.Interface.{Interface}
use Rattle.circus_modules.specs.InterfaceSignatures.{shapes_in, procedure_of}
use Rattle.circus_check.specs.Meaning.{BodyMeant, ModuleMeant}
use Rattle.circus_check.specs.WellFormed as checked
use Rattle.circus_check.specs.WellFormed.{IsAt, IsBody, AreBodies, IsMain, HasBodies, Raised}
use Rattle.circus_check.proofs.TypedMore.{all_typed_more}
use Rattle.circus_modules.specs.Zeros.{zeros}
use Rattle.circus_modules.specs.Signatures.{signature_of, procedures_offered, interface_numbers, procedures_if, import_of}
use Rattle.circus_modules.proofs.Offered.{takes_here, reports_here, raised_here}
use Rattle.circus_modules.proofs.States.{zeros_hold}
use Rattle.circus_modules.proofs.Trees.{shapes_forth}

-- its statements are well formed, where its local variables are zero at first
pub record IsBodyOf (signature : Signature) (p : ProcedureShape) (b : BodyMeant) : Type 0 where
  pub hold : Hold (shapes_of b.locals) (zeros b.locals)
  pub typed : AreTyped (trees signature.variables ++ (trees p.arguments ++ shapes_of b.locals)) (machine.SignatureTakes signature.imports) (machine.SignatureReports signature.imports) (trees p.results) (machine.SignatureRaises p.errors) (statement_trees b.statements)

-- one for each of these procedures, in order
abbrev pub AreBodiesOf : Signature → List ProcedureShape → List BodyMeant → Type 0
AreBodiesOf signature [] [] = Unit {0}
AreBodiesOf signature [] (_ ∷ _) = ⊥
AreBodiesOf signature (_ ∷ _) [] = ⊥
AreBodiesOf signature (p ∷ procedures) (b ∷ bodies) = IsBodyOf signature p b × AreBodiesOf signature procedures bodies

-- the shapes of all variables of a body
together : (state arguments locals : List FieldTree) → shapes_of (state ++ arguments ++ locals) ≡ trees (shapes_in state) ++ (trees (shapes_in arguments) ++ shapes_of locals)
together state arguments locals =
    map-append (λ (f : FieldTree). f.shape) (state ++ arguments) locals
    ∙ ap (λ xs. xs ++ shapes_of locals) (map-append (λ (f : FieldTree). f.shape) state arguments)
    ∙ append_assoc (shapes_of state) (shapes_of arguments) (shapes_of locals)
    ∙ (λ i. sym (shapes_forth state) i ++ (sym (shapes_forth arguments) i ++ shapes_of locals))

module _ (limit : ℕ) (interfaces : List Interface) (modules : List ModuleMeant) (obey : (n : ℕ) (i : Interface) → IsAt interfaces n i → Obeys i) (m : ModuleMeant) where
  declared : Signature
  declared = signature_of limit interfaces (interface_numbers modules) m

  -- one body, whose procedure has this shape
  body_here : (p : ProcedureShape) (arguments : List FieldTree) (results : List ShapeTree) (raises : ℕ → List ShapeTree → Type 0) (b : BodyMeant)
      → p.arguments ≡ shapes_in arguments → trees p.results ≡ results → ((number : ℕ) (values : List ShapeTree) → raises number values → machine.SignatureRaises p.errors number values)
      → IsBody interfaces modules m arguments results raises b → IsBodyOf declared p b
  unfolding declared
  body_here p arguments results raises b taken given raised is = record {
    hold = zeros_hold b.locals is.locals;
    typed =
        let imports = map (import_of interfaces (interface_numbers modules)) m.imports in
        let own : AreTyped (shapes_of (m.variables ++ arguments ++ b.locals)) (machine.SignatureTakes imports) (machine.SignatureReports imports) results (machine.SignatureRaises p.errors) (statement_trees b.statements) =
        all_typed_more (shapes_of (m.variables ++ arguments ++ b.locals)) (checked.ImportTakes interfaces modules m.imports) (machine.SignatureTakes imports)
        (checked.ImportReports interfaces modules m.imports) (machine.SignatureReports imports) results raises (machine.SignatureRaises p.errors)
        (takes_here interfaces modules obey m.imports) (reports_here interfaces modules obey m.imports) raised (statement_trees b.statements) is.typed in
        let shaped = together m.variables arguments b.locals ∙ ap (λ xs. trees (shapes_in m.variables) ++ (trees xs ++ shapes_of b.locals)) (sym taken) in
        subst (λ gs. AreTyped (trees (shapes_in m.variables) ++ (trees p.arguments ++ shapes_of b.locals)) (machine.SignatureTakes imports) (machine.SignatureReports imports) gs
        (machine.SignatureRaises p.errors) (statement_trees b.statements)) (sym given)
        (subst (λ vs. AreTyped vs (machine.SignatureTakes imports) (machine.SignatureReports imports) results (machine.SignatureRaises p.errors) (statement_trees b.statements)) shaped own);
  }

  -- a body for each procedure of the interface
  bodies_here : (i : Interface) (ps : List Procedure) (bs : List BodyMeant) → Obeys i → AreBodies interfaces modules m i ps bs → AreBodiesOf declared (map (procedure_of i.errors) ps) bs
  unfolding declared
  bodies_here i [] [] obeys are = tt
  bodies_here i [] (_ ∷ _) obeys are = absurd are
  bodies_here i (_ ∷ _) [] obeys are = absurd are
  bodies_here i (p ∷ ps) (b ∷ bs) obeys are = (
    body_here (procedure_of i.errors p) p.arguments (shapes_of p.results) (Raised interfaces modules i p) b refl (shapes_forth p.results)
        (λ number values. raised_here interfaces modules i p number values obeys) are.0,
    bodies_here i ps bs obeys are.1,
  )

  -- that of a root
  main_here : (bs : List BodyMeant) → IsMain interfaces modules m bs → AreBodiesOf declared main_alone bs
  unfolding declared
  main_here [] are = absurd are
  main_here (b ∷ []) are = (body_here (record { number = 0; arguments = []; results = []; errors = [] }) [] [] (λ _ _. ⊥) b refl refl (λ number values never. absurd never) are, tt)
  main_here (b ∷ _ ∷ _) are = absurd are

  by_kind : (root : Bool) (number : Option ℕ) → HasBodies interfaces modules m root number → AreBodiesOf declared (procedures_offered interfaces number) m.bodies
  unfolding declared
  by_kind true None has = main_here m.bodies has
  by_kind true (Some n) has = absurd has
  by_kind false None has = absurd has
  by_kind false (Some n) has =
      let (i, there, are) = has in
      subst (λ o. AreBodiesOf declared (procedures_if o) m.bodies) (sym there) (bodies_here i i.procedures m.bodies (obey n i there) are)

  -- the bodies of a module are those of the procedures that it declares
  pub are_bodies : HasBodies interfaces modules m m.root m.interface → AreBodiesOf (signature_of limit interfaces (interface_numbers modules) m) (procedures_offered interfaces m.interface) m.bodies
  unfolding declared
  are_bodies has = by_kind m.root m.interface has
