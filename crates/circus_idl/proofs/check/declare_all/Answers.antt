use Rattle.std.proofs.Common.{◌≡◌, ◌+◌, ◌∙◌, ap, sym, subst, map, drop}
use Rattle.circus_syntax.specs.InterfaceTree.{declared_of}
use Rattle.circus_fault.specs.Least.{least_from}
use Rattle.circus_fault.specs.Seen.Tables.{known_of}
use Rattle.circus_fault.proofs.LeastMore.{least_step}
use Rattle.circus_idl.specs.Rank.{rank_of}
use Rattle.circus_idl.specs.Seen.Known.{type_form}
use Rattle.circus_idl.specs.Seen.Scoped.{before_of, cut_in}
use Rattle.circus_idl.specs.Seen.Drafted.{draft_meaning}
use Rattle.circus_type.specs.declared.measuring.Measure.{Measure}
use Rattle.circus_idl.specs.InRange.{AreWords}
use Rattle.circus_idl.specs.Faults.{Before, behind, declared_faults, declarations_faults}
use Rattle.circus_idl.specs.Means.{and_then, declared_meant, declarations_meant, forms_behind}
use Rattle.circus_type.specs.Seen.Measured.{cut_off}
use Rattle.circus_type.proofs.Dropped.{drop_more}
use Rattle.circus_idl.proofs.DraftMore.{by_none, holds_of_none, none_before, behind_errors, meant_step}
use Rattle.circus_idl.proofs.DeclaredInRange.{none_found, words_behind}
use Rattle.circus_idl.proofs.check.declare_all.Goals as goal

pub loop-item-preserved : goal.loop-item-preserved
loop-item-preserved c =
    let old = c.loop-item.draft in
    let new = c.add.new.self in
    let d = declared_of c.item-item.result in
    let ds = map declared_of (drop (c.loop-item.item-index + 1) c.args.declared.now) in
    let whole = and_then (draft_meaning c.args.draft.now) (declarations_meant (type_form c.args.draft.now.scope.types) (known_of c.args.draft.now.scope.errors) (map declared_of c.args.declared.now)) in
    let left = ap (map declared_of) (drop_more c.args.declared.now c.loop-item.item-index c.item-item.result c.loop-item-test.true c.item-item.is) in
    let cut = cut_in old.scope in
    let before = before_of old.scope in
    let form = type_form old.scope.types in
    let this = declared_faults cut_off cut before d in
    let rest = declarations_faults cut_off cut (behind cut_off before d) ds in
    let found = c.in_ok-add.ensures.found in
    record {
      found =
          ap (λ k. least_from rank_of new.scope.best.fault (declarations_faults cut_off k (before_of new.scope) ds)) c.in_ok-add.ensures.cut
          ∙ ap (λ b. least_from rank_of new.scope.best.fault (declarations_faults cut_off cut b ds)) c.in_ok-add.ensures.behind
          ∙ least_step rank_of new.scope.best.fault old.scope.best.fault _ this rest found
          (ap (λ xs. least_from rank_of old.scope.best.fault (declarations_faults cut_off cut before xs)) (sym left) ∙ c.loop-item.invariant.found);
      meant = by_none new.scope.best.fault _ (λ none.
          let none_old = none_before old.scope.best.fault this (sym found ∙ none) in
          let formed = holds_of_none new.scope.best.fault (type_form new.scope.types ≡ forms_behind form d) none c.in_ok-add.ensures.formed in
          let one = holds_of_none new.scope.best.fault (draft_meaning new ≡ and_then (draft_meaning old) (declared_meant form before.errors d)) none c.in_ok-add.ensures.meant in
          let all = holds_of_none old.scope.best.fault (and_then (draft_meaning old) (declarations_meant form before.errors (map declared_of (drop c.loop-item.item-index c.args.declared.now))) ≡ whole) none_old c.loop-item.invariant.meant in
          meant_step form (type_form new.scope.types) before (before_of new.scope) d ds (draft_meaning old) (draft_meaning new) whole formed c.in_ok-add.ensures.behind one
          (ap (λ xs. and_then (draft_meaning old) (declarations_meant form before.errors xs)) (sym left) ∙ all));
      errors = by_none new.scope.best.fault _ (λ none.
          let words = holds_of_none old.scope.best.fault (AreWords before.errors) (none_before old.scope.best.fault this (sym found ∙ none)) c.loop-item.invariant.errors in
          let behind_is = ap (λ (b : Before Measure). b.errors) c.in_ok-add.ensures.behind ∙ behind_errors before d in
          subst AreWords (sym behind_is) (words_behind cut_off cut before d (none_found old.scope.best.fault this (sym found ∙ none)) words));
    }
