use Rattle.std.proofs.Common.{◌≡◌, ◌<◌, ◌∙◌, refl, ap, sym, arith, length, inl, inr, option_map, unwrap_or, Option, Some, None}
use Rattle.std.specs.Prelude.{slice_get}
use Rattle.std.proofs.lemmas.List.{length-map, length-take}
use Rattle.std.proofs.lemmas.Option.{slice_get-map, slice_get_read, slice_get_within}
use Rattle.circus_lang.specs.ModuleTree.{module_of}
use Rattle.circus_check.specs.declared.check_fault.CheckFault.TheVariants as answer
use Rattle.circus_check.specs.declared.reach.Shared.{Shared}
use Rattle.circus_check.specs.Answer.{shared_told}
use Rattle.circus_check.specs.Seen.Programs.{modules_in}
use Rattle.circus_check.specs.Seen.Rows.{shared_as}
use Rattle.circus_check.proofs.OwnTables.{item_read}
use Rattle.circus_check.proofs.Told.{read_some, unshared_at, shares_passed, shares_here, shares_end}
use Rattle.circus_check.proofs.checking.sharing_fault.Goals as goal
use Rattle.circus_check.proofs.checking.sharing_fault.Goals.{then-text-place+in-None, else-text-place}

abbrev or_none : Option (Option Shared) → Option Shared
or_none o = unwrap_or o None

pub returns-in-Some : goal.returns-in-Some
returns-in-Some c =
    let texts = c.args.program.now.naming.now.modules.now in
    let modules = modules_in c.args.program.now in
    let shares = c.args.shares.now in
    let place = c.args.place in
    let n = c.loop-number.number in
    let m = module_of c.text-item.result in
    let s = c.in-Some.shared in
    let there : slice_get modules n ≡ Some m = slice_get-map module_of texts n ∙ ap (option_map module_of) (slice_get_read texts (length texts) n c.text-item.result refl c.loop-number-test.true c.text-item.is) in
    let read = c.unwrap_or.ensures ∙ ap or_none (c.copied.ensures ∙ item_read shares n c.get.result c.get.ensures.lookup.3) in
    let at : slice_get shares n ≡ Some (Some s) = read_some (slice_get shares n) s (sym read ∙ c.in-Some.is) in
    let within : n < length shares = slice_get_within shares n (Some s) at in
    let below : n < 33 = omega (arith, within, c.requires.as_many, length-take 33 modules) in
    let small : c.min.result ≡ n = omega (arith, c.min.ensures, below) in
    (λ i. answer.Shared (c.from.ensures i) s.«module» s.first (small i))
    ∙ ap (shared_told place) (sym (shares_here modules place n m (shared_as s) there below c.if-text-place.true (sym (c.requires.each n (Some s) at))) ∙ c.loop-number.invariant)

pub loop-number-preserved : goal.loop-number-preserved
loop-number-preserved c =
    let texts = c.args.program.now.naming.now.modules.now in
    let modules = modules_in c.args.program.now in
    let shares = c.args.shares.now in
    let place = c.args.place in
    let n = c.loop-number.number in
    let m = module_of c.text-item.result in
    let there : slice_get modules n ≡ Some m = slice_get-map module_of texts n ∙ ap (option_map module_of) (slice_get_read texts (length texts) n c.text-item.result refl c.loop-number-test.true c.text-item.is) in
    let within : n < length modules = slice_get_within modules n m there in
    elim c.if-text-place.branch [
      | then-text-place+in-None w ↦
          let read = w.unwrap_or.ensures ∙ ap or_none (w.copied.ensures ∙ item_read shares n w.get.result w.get.ensures.lookup.3) in
          shares_passed modules place n m there (λ below. inr (unshared_at shares modules n c.requires within below (sym read ∙ w.in-None.is))) ∙ c.loop-number.invariant
      | else-text-place w ↦ shares_passed modules place n m there (λ below. inl w.if-text-place.false) ∙ c.loop-number.invariant
    ]

pub returns : goal.returns
returns c =
    let texts = c.args.program.now.naming.now.modules.now in
    let modules = modules_in c.args.program.now in
    let place = c.args.place in
    (λ i. answer.Shared (c.from-2.ensures i) 0 0 0)
    ∙ ap (shared_told place) (sym (shares_end modules place c.loop-number.number (omega (arith, length-map texts module_of, c.loop-number-test.false))) ∙ c.loop-number.invariant)
