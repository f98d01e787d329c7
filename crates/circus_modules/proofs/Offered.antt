-- What procedures take, give and report, by what their modules declare.
use Rattle.std.proofs.Common.{◌≡◌, ◌≢◌, inl, inr, ℕ, cond, List, [], ◌∷◌, ◌++◌, Option, Some, None, map, refl, sym, ◌∙◌, ap, subst, eq-eqb, ne_eqb, eqb-true}
use Rattle.std.specs.Prelude.{Contains, ◌==◌, find, option_map, option_to_list, unwrap_or, slice_get}
use Rattle.std.proofs.lemmas.Bool.{cases_eq}
use Rattle.std.proofs.lemmas.Option.{slice_get-map}
use Rattle.circus_value.specs.ShapeTree.{ShapeTree}
use Rattle.circus_model.specs.declared.signature.ErrorShape.{ErrorShape}
use Rattle.circus_model.specs.declared.signature.Import.{Import}
use Rattle.circus_model.specs.declared.signature.ProcedureShape.{ProcedureShape}
use Rattle.circus_model.specs.Lawful.{procedure_numbered}
use Rattle.circus_machine.specs.Modules as machine
use Rattle.circus_machine.specs.Modules.{IsImported}
use Rattle.circus_type.specs.Distinct.{AreDistinct}
use Rattle.circus_idl.specs.Obeys.{Obeys}
use Rattle.circus_idl.specs.Shown.{has_number}
use Rattle.circus_idl.specs.declared.interface.DeclaredError.{DeclaredError}
use Rattle.circus_idl.specs.declared.interface.Procedure.{Procedure}
use Rattle.circus_idl.specs.declared.interface.Interface.{Interface}
use Rattle.circus_modules.specs.InterfaceSignatures.{error_of, error_numbered, errors_numbered, procedure_of, procedures_of}
use Rattle.circus_check.specs.Meaning.{ModuleMeant}
use Rattle.circus_check.specs.WellFormed as checked
use Rattle.circus_check.specs.WellFormed.{IsAt, Implements, Offers, Raised}
use Rattle.circus_check.proofs.Declared.{contains_cases}
use Rattle.circus_modules.specs.Signatures.{procedures_offered, interface_numbers, procedures_if, import_of}
use Rattle.circus_modules.proofs.Found.{find_map, found_passes, first_of_number, number_found, contains_none}
use Rattle.circus_modules.proofs.Trees.{shapes_forth}

-- ---- errors

-- the errors of one number are those of that number
error_of_other : (declared : List DeclaredError) (m n : ℕ) (rest : List ErrorShape) → m ≢ n → find (λ (e : ErrorShape). e.number == n) (error_numbered declared m ++ rest) ≡ find (λ (e : ErrorShape). e.number == n) rest
error_of_other declared m n rest other = more (find (has_number m) declared) refl
  where
    more : (o : Option DeclaredError) → find (has_number m) declared ≡ o → find (λ (e : ErrorShape). e.number == n) (map error_of (option_to_list o) ++ rest) ≡ find (λ (e : ErrorShape). e.number == n) rest
    more None is = refl
    more (Some d) is =
        let numbered : d.number ≡ m = eqb-true d.number m (found_passes (has_number m) declared d is) in
        ap (λ b. cond b (Some (error_of d)) (find (λ (e : ErrorShape). e.number == n) rest)) (ne_eqb d.number n (λ same. other (sym numbered ∙ same)))

error_found : (declared : List DeclaredError) (e : DeclaredError) (ns : List ℕ) → AreDistinct (map (λ (x : DeclaredError). x.number) declared) → Contains declared e → Contains ns e.number
    → find (λ (x : ErrorShape). x.number == e.number) (errors_numbered declared ns) ≡ Some (error_of e)
error_found declared e [] distinct there named = absurd (contains_none e.number named)
error_found declared e (m ∷ ms) distinct there named = elim (cases_eq m e.number) [
  | inl same ↦
      let here : find (has_number m) declared ≡ Some e = ap (λ n. find (has_number n) declared) same ∙ first_of_number (λ (x : DeclaredError). x.number) declared e distinct there in
      ap (λ (o : Option DeclaredError). find (λ (x : ErrorShape). x.number == e.number) (map error_of (option_to_list o) ++ errors_numbered declared ms)) here
      ∙ ap (λ b. cond b (Some (error_of e)) (find (λ (x : ErrorShape). x.number == e.number) (errors_numbered declared ms))) (eq-eqb e.number e.number refl)
  | inr other ↦
      error_of_other declared m e.number (errors_numbered declared ms) other
      ∙ error_found declared e ms distinct there (elim (contains_cases m ms e.number named) [ inl same ↦ absurd (other same) | inr later ↦ later ])
]

-- ---- one interface

procedure_found : (i : Interface) (p : Procedure) (number : ℕ) → Obeys i → Contains i.procedures p → p.number ≡ number → procedure_numbered number (procedures_of i) ≡ Some (procedure_of i.errors p)
procedure_found i p number obeys there is =
    ap (λ n. procedure_numbered n (procedures_of i)) (sym is)
    ∙ find_map (procedure_of i.errors) (λ (q : ProcedureShape). q.number == p.number) i.procedures
    ∙ ap (option_map (procedure_of i.errors)) (first_of_number (λ (q : Procedure). q.number) i.procedures p obeys.procedure_numbers there)

module _ (interfaces : List Interface) (modules : List ModuleMeant) where
  -- what a procedure raises is among the errors of its shape
  pub raised_here : (i : Interface) (p : Procedure) (number : ℕ) (values : List ShapeTree) → Obeys i → Raised interfaces modules i p number values → machine.SignatureRaises (procedure_of i.errors p).errors number values
  raised_here i p number values obeys raised = record {
    error = error_of raised.error;
    numbered =
        ap (λ n. find (λ (x : ErrorShape). x.number == n) (errors_numbered i.errors p.reports)) (sym raised.numbered)
        ∙ error_found i.errors raised.error p.reports obeys.error_numbers raised.declared (subst (Contains p.reports) (sym raised.numbered) raised.reported);
    has = shapes_forth raised.error.arguments ∙ raised.shapes;
  }

  -- the procedures of a module, by the numbers that modules implement
  pub offered_at : (k : ℕ) (m : ModuleMeant) → IsAt modules k m → procedures_offered interfaces (unwrap_or (slice_get (interface_numbers modules) k) None) ≡ procedures_offered interfaces m.interface
  offered_at k m there =
      ap (λ (o : Option (Option ℕ)). procedures_offered interfaces (unwrap_or o None)) (slice_get-map (λ (m : ModuleMeant). m.interface) modules k)
      ∙ ap (λ (o : Option ModuleMeant). procedures_offered interfaces (unwrap_or (option_map (λ (m : ModuleMeant). m.interface) o) None)) there

  -- those of a module that implements an interface
  offered_is : (k : ℕ) (i : Interface) → Implements interfaces modules k i → procedures_offered interfaces (unwrap_or (slice_get (interface_numbers modules) k) None) ≡ procedures_of i
  offered_is k i it = offered_at k it.«module» it.there ∙ ap (procedures_offered interfaces) it.named ∙ ap procedures_if it.found

  module _ (obey : (n : ℕ) (i : Interface) → IsAt interfaces n i → Obeys i) (imports : List ℕ) where
    imported_is : (callee procedure : ℕ) (i : Interface) (p : Procedure) → Contains imports callee → Offers interfaces modules callee procedure i p
        → IsImported (map (import_of interfaces (interface_numbers modules)) imports) callee procedure (procedure_of i.errors p)
    imported_is callee procedure i p among offers = record {
      «import» = import_of interfaces (interface_numbers modules) callee;
      named = find_map (import_of interfaces (interface_numbers modules)) (λ (x : Import). x.«module» == callee) imports ∙ ap (option_map (import_of interfaces (interface_numbers modules))) (number_found imports callee among);
      numbered =
          ap (procedure_numbered procedure) (offered_is callee i offers.implemented)
          ∙ procedure_found i p procedure (obey offers.implemented.number i offers.implemented.found) offers.declared offers.numbered;
    }

    pub takes_here : (callee procedure : ℕ) (arguments gives : List ShapeTree) → checked.ImportTakes interfaces modules imports callee procedure arguments gives
        → machine.SignatureTakes (map (import_of interfaces (interface_numbers modules)) imports) callee procedure arguments gives
    takes_here callee procedure arguments gives (among, i, p, offers, taken, given) = record {
      shape = procedure_of i.errors p;
      imported = imported_is callee procedure i p among offers;
      takes = shapes_forth p.arguments ∙ taken;
      gives = shapes_forth p.results ∙ given;
    }

    pub reports_here : (callee procedure number : ℕ) (values : List ShapeTree) → checked.ImportReports interfaces modules imports callee procedure number values
        → machine.SignatureReports (map (import_of interfaces (interface_numbers modules)) imports) callee procedure number values
    reports_here callee procedure number values (among, i, p, offers, raised) = record {
      shape = procedure_of i.errors p;
      imported = imported_is callee procedure i p among offers;
      raises = raised_here i p number values (obey offers.implemented.number i offers.implemented.found) raised;
    }
