use Rattle.std.proofs.Common.{◌≡◌, ◌∙◌, refl, ap, sym, arith, length, inl, inr, option_map, Option, Some}
use Rattle.std.specs.Prelude.{slice_get}
use Rattle.std.proofs.lemmas.List.{length-map}
use Rattle.std.proofs.lemmas.Option.{slice_get-map, slice_get_read}
use denote.Ref.{Bor}
use Rattle.circus_idl.specs.declared.interface.Procedure.{Procedure}
use Rattle.circus_lang.specs.ModuleTree.{module_of}
use Rattle.circus_check.specs.declared.check_fault.CheckFault.TheVariants as answer
use Rattle.circus_check.specs.Answer.{missing_at}
use Rattle.circus_check.specs.Faults.{first_missing}
use Rattle.circus_check.specs.Scope.{implemented_by}
use Rattle.circus_check.specs.Seen.Programs.{modules_in, interfaces_in}
use Rattle.circus_check.proofs.Told.{told, untold, lacks_passed, lacks_here, lacks_end}
use Rattle.circus_check.proofs.checking.missing_fault.Goals as goal
use Rattle.circus_check.proofs.checking.missing_fault.Goals.{then-number-le-MOST_MODULES+then-text-place+in_ok-procedure+in-None, else-number-le-MOST_MODULES, else-number-le-MOST_MODULES-via-then-number-le-MOST_MODULES+else-text-place, else-number-le-MOST_MODULES-via-else-number-le-MOST_MODULES}

abbrev now : Option (Bor Procedure) → Option Procedure
now o = option_map (λ (p : Bor Procedure). p.now) o

pub returns-in-Some : goal.returns-in-Some
returns-in-Some c =
    let texts = c.args.program.now.naming.now.modules.now in
    let modules = modules_in c.args.program.now in
    let interfaces = interfaces_in c.args.program.now in
    let place = c.args.place in
    let n = c.loop-number.number in
    let m = module_of c.text-item.result in
    let p = c.in-Some.procedure.now in
    let there : slice_get modules n ≡ Some m = slice_get-map module_of texts n ∙ ap (option_map module_of) (slice_get_read texts (length texts) n c.text-item.result refl c.loop-number-test.true c.text-item.is) in
    let lacked = told m.name.at place (first_missing (implemented_by interfaces m.interface) m.procedures) p c.if-text-place.true (sym c.in_ok-procedure.ensures ∙ ap now c.in-Some.is) in
    (λ i. answer.Missing (c.from.ensures i) (c.in_ok-copy-in-Some.ensures i)) ∙ ap (missing_at place) (sym (lacks_here interfaces modules place n m p there (omega (arith, c.if-number-le-MOST_MODULES.true)) lacked) ∙ c.loop-number.invariant)

pub loop-number-preserved : goal.loop-number-preserved
loop-number-preserved c =
    let texts = c.args.program.now.naming.now.modules.now in
    let modules = modules_in c.args.program.now in
    let interfaces = interfaces_in c.args.program.now in
    let place = c.args.place in
    let n = c.loop-number.number in
    let m = module_of c.text-item.result in
    let lacks = first_missing (implemented_by interfaces m.interface) m.procedures in
    let there : slice_get modules n ≡ Some m = slice_get-map module_of texts n ∙ ap (option_map module_of) (slice_get_read texts (length texts) n c.text-item.result refl c.loop-number-test.true c.text-item.is) in
    elim c.if-number-le-MOST_MODULES.branch [
      | then-number-le-MOST_MODULES+then-text-place+in_ok-procedure+in-None w ↦
          lacks_passed interfaces modules place n m there (λ below. untold m.name.at place lacks (inr (sym w.in_ok-procedure.ensures ∙ ap now w.in-None.is))) ∙ c.loop-number.invariant
      | else-number-le-MOST_MODULES w ↦ elim w.else-number-le-MOST_MODULES.branch [
        | else-number-le-MOST_MODULES-via-then-number-le-MOST_MODULES+else-text-place v ↦
            lacks_passed interfaces modules place n m there (λ below. untold m.name.at place lacks (inl v.if-text-place.false)) ∙ c.loop-number.invariant
        | else-number-le-MOST_MODULES-via-else-number-le-MOST_MODULES v ↦
            lacks_passed interfaces modules place n m there (λ below. absurd (omega (arith, below, v.if-number-le-MOST_MODULES.false))) ∙ c.loop-number.invariant
      ]
    ]

pub returns : goal.returns
returns c =
    let texts = c.args.program.now.naming.now.modules.now in
    let modules = modules_in c.args.program.now in
    let place = c.args.place in
    (λ i. answer.Missing (c.from-2.ensures i) (c.new.ensures i))
    ∙ ap (missing_at place) (sym (lacks_end (interfaces_in c.args.program.now) modules place c.loop-number.number (omega (arith, length-map texts module_of, c.loop-number-test.false))) ∙ c.loop-number.invariant)
