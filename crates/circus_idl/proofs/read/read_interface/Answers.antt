use Rattle.std.proofs.Common.{◌≡◌, ◌⊎◌, Result, Err, IfOk, IfErr}
use Rattle.std.specs.Result.{IsErrAnd}
use Rattle.std.proofs.lemmas.Result.{err_from_is_err_and}
use Rattle.circus_idl.specs.declared.idl_fault.IdlFault.{IdlFault}
use Rattle.circus_idl.specs.declared.idl_fault.IdlFault.TheVariants.{NoMemory}
use Rattle.circus_idl.specs.ReadAt.{IsRefused}
use Rattle.circus_idl.proofs.Obeying.{meant_obeys}
use Rattle.circus_idl.proofs.ReadIs.{is_read, is_refused, is_unexpected, is_too_deep, none_refused}
use Rattle.circus_idl.proofs.ReadAgain.{read_again, accepted_again}
use Rattle.circus_idl.proofs.read.read_interface.Goals as goal
use Rattle.circus_idl.proofs.read.read_interface.Goals.{In_err-interface}

-- a fault is handed on as it is
handed_on : {A : Type 0} (r : Result A IdlFault) (e : IdlFault) (P : IdlFault → Type 0) → IsErrAnd r (λ y. y ≡ e) → P e → IfErr r P
handed_on r e P is holds = let p = err_from_is_err_and r is in rw (p.1, p.2) holds

both_handed_on : {A : Type 0} (r : Result A IdlFault) (e : IdlFault) (P : A → Type 0) (Q : IdlFault → Type 0) → IsErrAnd r (λ y. y ≡ e) → Q e → IfOk r P × IfErr r Q
both_handed_on r e P Q is holds = let p = err_from_is_err_and r is in rw (p.1, p.2) (tt, holds)

given : {A : Type 0} (r : Result A IdlFault) (e f : IdlFault) → IsErrAnd r (λ y. y ≡ e) → r ≡ Err f → e ≡ f
given r e f is equal = let p = err_from_is_err_and r is in cc

refused : (c : In_err-interface) → (c.in_err-interface.field-0.0 ≡ NoMemory) ⊎ IsRefused c.args.text.now c.args.tokens.now c.args.at c.in_err-interface.field-0.0
refused c = is_refused _ _ _ c.in_ok-read.read c.in_err-interface.field-0.0 c.requires.of_text c.in_ok-read.ensures c.in_err-interface.ensures.err

pub returns-in_err-interface-clause-err : goal.returns-in_err-interface-clause-err
returns-in_err-interface-clause-err c =
    handed_on c.from_residual-in_err-interface.result c.in_err-interface.field-0.0 _ c.from_residual-in_err-interface.ensures.1
    (refused (goal.at.returns-in_err-interface-clause-err c).In_err-interface)

pub returns-in_err-interface-clause-expected : goal.returns-in_err-interface-clause-expected
returns-in_err-interface-clause-expected c = λ place is.
    is_unexpected _ _ _ _ place (refused (goal.at.returns-in_err-interface-clause-expected c).In_err-interface)
    (given c.from_residual-in_err-interface.result c.in_err-interface.field-0.0 _ c.from_residual-in_err-interface.ensures.1 is)

pub returns-in_err-interface-clause-deep : goal.returns-in_err-interface-clause-deep
returns-in_err-interface-clause-deep c = λ place is.
    is_too_deep _ _ _ _ place (refused (goal.at.returns-in_err-interface-clause-deep c).In_err-interface)
    (given c.from_residual-in_err-interface.result c.in_err-interface.field-0.0 _ c.from_residual-in_err-interface.ensures.1 is)

pub returns-in_err-interface-clause-accepts : goal.returns-in_err-interface-clause-accepts
returns-in_err-interface-clause-accepts c = λ own rest tree whole spelled within none.
    handed_on c.from_residual-in_err-interface.result c.in_err-interface.field-0.0 _ c.from_residual-in_err-interface.ensures.1
    (none_refused _ _ _ _ own rest tree whole spelled within none (refused (goal.at.returns-in_err-interface-clause-accepts c).In_err-interface))

pub returns-clause-ok : goal.returns-clause-ok
returns-clause-ok c =
    is_read _ _ _ c.in_ok-read.read c.in_ok-interface.interface c.requires.of_text c.requires.inside c.in_ok-read.ensures
    c.in_ok-interface.ensures.ok.0 c.in_ok-interface.ensures.ok.1

pub returns-clause-obeys : goal.returns-clause-obeys
returns-clause-obeys c =
    let is = is_read _ _ _ c.in_ok-read.read c.in_ok-interface.interface c.requires.of_text c.requires.inside c.in_ok-read.ensures
    c.in_ok-interface.ensures.ok.0 c.in_ok-interface.ensures.ok.1 in
    meant_obeys is.tree c.in_ok-interface.interface is.spelled.grammatical is.faultless is.means

pub returns-in_err-interface-clause-again : goal.returns-in_err-interface-clause-again
returns-in_err-interface-clause-again c = λ i obeys shown are first.
    both_handed_on c.from_residual-in_err-interface.result c.in_err-interface.field-0.0 _ _ c.from_residual-in_err-interface.ensures.1
    (accepted_again _ _ _ i _ obeys shown are first (refused (goal.at.returns-in_err-interface-clause-again c).In_err-interface))

pub returns-clause-again : goal.returns-clause-again
returns-clause-again c = λ i obeys shown are first. (
  read_again _ _ _ i c.in_ok-interface.interface _ obeys shown are first
      (is_read _ _ _ c.in_ok-read.read c.in_ok-interface.interface c.requires.of_text c.requires.inside c.in_ok-read.ensures
      c.in_ok-interface.ensures.ok.0 c.in_ok-interface.ensures.ok.1),
  tt,
)
