use Rattle.std.proofs.Common.{◌≡◌, Option, Some, None, refl, ◌+◌, ◌≤◌, length, sym, subst, ◌∙◌, ap, arith, map, is_some, true, false}
use Rattle.std.proofs.lemmas.List.{length-map}
use Rattle.circus_statement.specs.StatementTree.{statement_trees}
use Rattle.circus_fault.specs.declared.fault.Fault.{Fault}
use Rattle.circus_fault.specs.Least.{least_from}
use Rattle.circus_resolve.specs.declared.cause.CheckCause.{CheckCause}
use Rattle.circus_resolve.specs.Causes.{rank}
use Rattle.circus_resolve.specs.Faults.{Faults}
use Rattle.circus_body.specs.Faults.{all_faults}
use Rattle.circus_body.specs.Meaning.{all_do}
use Rattle.circus_lang.specs.ModuleTree.{module_of, procedure_of, variable_of}
use Rattle.circus_check.specs.InRange.{AreVariablesInRange}
use Rattle.circus_check.specs.Faults.{fields_of, body_faults}
use Rattle.circus_check.specs.Meaning.{BodyMeant}
use Rattle.circus_check.specs.Seen.Programs.{modules_in, interfaces_in}
use Rattle.circus_check.specs.Seen.Scoped.{form_in}
use Rattle.circus_check.specs.Seen.Tables.{unless_kept}
use Rattle.circus_check.proofs.OwnTables.{forms_are}
use Rattle.circus_check.proofs.Surrounded.{body_context}
use Rattle.circus_check.proofs.ProceduresFound.{of_none, if_none, if_lost}
use Rattle.circus_check.proofs.procedures.body.Goals as goal

none_is : {F : Type 0} (o : Option F) → is_some o ≡ false → o ≡ None
none_is None is = refl
none_is (Some f) is = absurd (cc)

some_isnt : {F : Type 0} (o : Option F) → is_some o ≡ true → o ≡ None → ⊥
some_isnt None is none = absurd (cc)
some_isnt (Some f) is none = cc

kept_same : (o : Option (Fault CheckCause)) (fs : Faults) → is_some o ≡ true → o ≡ least_from rank o (unless_kept o fs)
kept_same None fs is = absurd (cc)
kept_same (Some f) fs is = refl

pub returns-then-is_some-clause-found : goal.returns-then-is_some-clause-found
returns-then-is_some-clause-found c = kept_same c.args.best.now.fault _ (sym c.is_some.ensures ∙ c.if-is_some.true)

pub returns-then-is_some-clause-meant : goal.returns-then-is_some-clause-meant
returns-then-is_some-clause-meant c = if_lost _ c.args.best.now.fault (some_isnt c.args.best.now.fault (sym c.is_some.ensures ∙ c.if-is_some.true))

pub returns-clause-found : goal.returns-clause-found
returns-clause-found c =
    let interfaces = interfaces_in c.args.program.now in
    let modules = modules_in c.args.program.now in
    let own = c.args.own.now in
    let best = c.args.best.now.fault in
    let text = c.args.text.now in
    let none = none_is best (sym c.is_some.ensures ∙ c.if-is_some.false) in
    let locals = c.in_ok-locals.ensures ∙ ap (λ vs. fields_of (form_in own.types) (map variable_of vs)) c.as_slice.ensures in
    let few = of_none best _ c.requires.few none in
    let counted : length (module_of own.text.now).variables + length c.args.offers.now.arguments.now + length (procedure_of text).body.variables ≤ 65535 =
    omega (arith, few, length-map own.text.now.variables variable_of, length-map text.variables variable_of) in
    let same = body_context c.args.program.now own c.args.around.now c.args.offers.now c.in_ok-locals.locals (procedure_of text) c.requires.own (of_none best _ c.requires.around none) c.requires.offers locals counted in
    c.in_ok-made.ensures.found ∙ ap (λ names. least_from rank best (all_faults names (statement_trees text.statements))) same
    ∙ ap (λ k. least_from rank best (unless_kept k (body_faults interfaces modules own.number (module_of own.text.now) (procedure_of text)))) (sym none)

pub returns-clause-meant : goal.returns-clause-meant
returns-clause-meant c =
    let own = c.args.own.now in
    let best = c.args.best.now.fault in
    let text = c.args.text.now in
    let none = none_is best (sym c.is_some.ensures ∙ c.if-is_some.false) in
    let locals = c.in_ok-locals.ensures ∙ ap (λ vs. fields_of (form_in own.types) (map variable_of vs)) c.as_slice.ensures in
    let few = of_none best _ c.requires.few none in
    let counted : length (module_of own.text.now).variables + length c.args.offers.now.arguments.now + length (procedure_of text).body.variables ≤ 65535 =
    omega (arith, few, length-map own.text.now.variables variable_of, length-map text.variables variable_of) in
    let same = body_context c.args.program.now own c.args.around.now c.args.offers.now c.in_ok-locals.locals (procedure_of text) c.requires.own (of_none best _ c.requires.around none) c.requires.offers locals counted in
    let written = locals ∙ ap (λ f. fields_of f (map variable_of text.variables)) (forms_are c.args.program.now own c.requires.own) in
    let made = c.in_ok-made.ensures.meant ∙ ap (λ names. all_do names (statement_trees text.statements)) same in
    let meant : BodyMeant → Option BodyMeant = λ b. Some b in
    if_none c.statements.new.best.fault (λ i. meant (record { locals = written i; statements = made i }))

pub fields-requires : goal.fields-requires
fields-requires c =
    let best = c.args.best.now.fault in
    let none = none_is best (sym c.is_some.ensures ∙ c.if-is_some.false) in
    subst (λ vs. AreVariablesInRange (map variable_of vs)) (sym c.as_slice.ensures) (of_none best _ c.requires.in_range none)
