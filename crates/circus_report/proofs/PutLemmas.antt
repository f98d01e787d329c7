-- What is put where a call fails.
use Rattle.std.proofs.Common.{◌≡◌, ℕ, Option, List, ◌++◌, Result, Ok, Err, refl, sym, ap, subst, ◌∙◌}
use Rattle.std.specs.Result.{IsErrAnd}
use Rattle.std.proofs.lemmas.Result.{err_from_is_err_and}
use Rattle.circus_report.specs.declared.running.RunFault.{RunFault}
use Rattle.circus_report.specs.declared.running.RunFault.TheVariants as fault
use Rattle.circus_report.specs.declared.put.PutFault.{PutFault}
use Rattle.circus_report.specs.declared.put.PutFault.TheVariants as put
use Rattle.circus_report.specs.Writing.{Writes, WritesPart}
use Rattle.circus_report.specs.Run.{fault_of, IsPut, IsCounted}
use Rattle.circus_report.proofs.ToldLemmas.{Writes-joined, WritesPart-joined}

-- what holds of a fault holds of a call that answers it
pub at_fault : {A : Type 0} (Holds : Result A RunFault → Type 0) (r : Result A RunFault) (f : RunFault) → IsErrAnd r (λ y. y ≡ f) → Holds (Err f) → Holds r
at_fault Holds r f is holds = let e = err_from_is_err_and r is in subst Holds (sym (e.1 ∙ ap Err e.2)) holds

module _ {A : Type 0} (r : Result A RunFault) (text : List ℕ) (old new : Option (List ℕ)) where
  -- memory ran out
  pub IsPut-no_memory : IsErrAnd r (λ y. y ≡ fault.NoMemory) → WritesPart old new text → IsPut text old new r
  IsPut-no_memory is part = at_fault (IsPut text old new) r fault.NoMemory is part

  -- not all of a piece was put
  pub IsPut-stopped : (stop : PutFault) → IsErrAnd r (λ y. y ≡ fault_of stop) → WritesPart old new text → IsPut text old new r
  IsPut-stopped stop is part = at_fault (IsPut text old new) r (fault_of stop) is (by_fault stop)
    where
      by_fault : (f : PutFault) → IsPut {A = A} text old new (Err (fault_of f))
      by_fault put.Sink = part
      by_fault put.Memory = part

-- the sink failed only where a piece was refused
pub Rose-stopped : {A : Type 0} (Rose : Type 0) (r : Result A RunFault) (stop : PutFault) → IsErrAnd r (λ y. y ≡ fault_of stop) → (stop ≡ put.Sink → Rose)
    → r ≡ Err fault.SinkFailed → Rose
Rose-stopped Rose r put.Sink is rose failed = rose refl
Rose-stopped {A} Rose r put.Memory is rose failed =
    let e = err_from_is_err_and r is in
    let clash : ◌≡◌ {A = Result A RunFault} (Err fault.NoMemory) (Err fault.SinkFailed) = sym (e.1 ∙ ap Err e.2) ∙ failed in
    absurd (cc)

-- behind a text that was put, what came of another one is what comes of both
pub IsPut-joined : {A : Type 0} (r : Result A RunFault) (front text : List ℕ) (old middle new : Option (List ℕ)) → Writes old middle front → IsPut text middle new r → IsPut (front ++ text) old new r
IsPut-joined (Ok done) front text old middle new written put = Writes-joined old middle new front text written put
IsPut-joined (Err fault.SinkFailed) front text old middle new written cut = WritesPart-joined old middle new front text written cut
IsPut-joined (Err fault.NoMemory) front text old middle new written cut = WritesPart-joined old middle new front text written cut
IsPut-joined (Err (fault.Illegal cause)) front text old middle new written cut = absurd cut
IsPut-joined (Err (fault.Spent node peer)) front text old middle new written cut = absurd cut

-- behind a text that was put, another one was put in part
pub IsPut-behind : {A B : Type 0} (r : Result B RunFault) (s : Result A RunFault) (f : RunFault) (front text : List ℕ) (old middle new : Option (List ℕ))
    → IsErrAnd r (λ y. y ≡ f) → s ≡ Err f → Writes old middle front → IsPut text middle new s → IsPut (front ++ text) old new r
IsPut-behind {A} {B} r s f front text old middle new is at written part =
    at_fault (IsPut (front ++ text) old new) r f is (by_fault f (subst (IsPut text middle new) at part))
  where
    by_fault : (y : RunFault) → IsPut {A = A} text middle new (Err y) → IsPut {A = B} (front ++ text) old new (Err y)
    by_fault fault.SinkFailed cut = WritesPart-joined old middle new front text written cut
    by_fault fault.NoMemory cut = WritesPart-joined old middle new front text written cut
    by_fault (fault.Illegal cause) cut = absurd cut
    by_fault (fault.Spent node peer) cut = absurd cut

-- the count is told of no call that a piece stopped
pub IsCounted-stopped : {A B : Type 0} (r : Result B RunFault) (s : Result A RunFault) (f : RunFault) (text : List ℕ) (old new : Option (List ℕ)) (before after : ℕ)
    → IsErrAnd r (λ y. y ≡ f) → s ≡ Err f → IsPut text old new s → IsCounted r before after
IsCounted-stopped {A} {B} r s f text old new before after is at part =
    at_fault (λ (r : Result B RunFault). IsCounted r before after) r f is (by_fault f (subst (IsPut text old new) at part))
  where
    by_fault : (y : RunFault) → IsPut {A = A} text old new (Err y) → IsCounted {A = B} (Err y) before after
    by_fault fault.SinkFailed cut = tt
    by_fault fault.NoMemory cut = tt
    by_fault (fault.Illegal cause) cut = absurd cut
    by_fault (fault.Spent node peer) cut = absurd cut
