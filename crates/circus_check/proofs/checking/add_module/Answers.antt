use Rattle.std.proofs.Common.{◌≡◌, ◌++◌, ◌∷◌, [], ◌∙◌, ap, sym, map, not, option_map, Some, None}
use Rattle.std.specs.Prelude.{slice_get, is_some}
use Rattle.std.proofs.lemmas.Bool.{false≢true}
use Rattle.std.proofs.lemmas.List.{map-append}
use Rattle.std.proofs.lemmas.Option.{slice_get-map}
use Rattle.circus_fault.specs.Least.{least_from}
use Rattle.circus_resolve.specs.Causes.{rank}
use Rattle.circus_resolve.specs.Faults.{Faults}
use Rattle.circus_lang.specs.ModuleTree.{module_of}
use Rattle.circus_check.specs.Faults.{module_faults}
use Rattle.circus_check.specs.Meaning.{module_meant}
use Rattle.circus_check.specs.Resolved.{module_as}
use Rattle.circus_check.specs.Seen.Programs.{modules_in, interfaces_in}
use Rattle.circus_check.proofs.ModulesFound.{where_none}
use Rattle.circus_check.proofs.Progressing.{one_more}
use Rattle.circus_check.proofs.checking.add_module.Goals as goal
use Rattle.circus_check.proofs.checking.add_module.Goals.{then-is_none+in_ok-push-2, else-is_none}

pub returns : goal.returns
returns c =
    let p = c.args.program.now in
    let interfaces = interfaces_in p in
    let modules = modules_in p in
    let old = c.args.progress.now in
    let n = c.args.number in
    let m = module_of c.args.text.now in
    let s = c.first_shared-shared.result in
    let best = c.module.new.best.fault in
    let made = c.in_ok-module.module in
    let there : slice_get modules n ≡ Some m = slice_get-map module_of p.naming.now.modules.now n ∙ ap (option_map module_of) c.requires.its in
    let number = c.in_ok-own.ensures.its.0 in
    let text = c.in_ok-own.ensures.its.1 in
    let found : (fs : Faults) → old.best.fault ≡ least_from rank None fs → best ≡ least_from rank old.best.fault (module_faults interfaces modules n m fs) = λ fs is. c.in_ok-module.ensures.found fs is ∙ (λ i. least_from rank old.best.fault (module_faults interfaces modules (number i) (module_of (text i)) fs)) in
    elim c.if-is_none.branch [
      | then-is_none+in_ok-push-2 w ↦ rw w.progress-is (one_more p old _ n m s c.requires.before c.requires.number there c.in_ok-add.ensures.told c.in_ok-add.ensures.more c.in_ok-push.ensures.items c.first_shared-shared.ensures found (λ none.
          let meant = where_none best _ c.in_ok-module.ensures.meant none in
          ap (map module_as) w.in_ok-push-2.ensures.ok ∙ map-append module_as old.made (made ∷ []) ∙ (λ i. map module_as old.made ++ meant i ∷ [])
          ∙ (λ i. map module_as old.made ++ module_meant interfaces modules (number i) (module_of (text i)) ∷ [])))
      | else-is_none w ↦ rw w.progress-is (one_more p old _ n m s c.requires.before c.requires.number there c.in_ok-add.ensures.told c.in_ok-add.ensures.more c.in_ok-push.ensures.items c.first_shared-shared.ensures found (λ none.
          absurd (false≢true (ap is_some (sym none) ∙ c.is_none.ensures ∙ ap not w.if-is_none.false))))
    ]
