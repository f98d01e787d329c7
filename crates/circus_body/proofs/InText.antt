-- Faults that stand from a place on and below another.
use Rattle.std.proofs.Common.{ℕ, ◌≤◌, Bool, true, false, [], ◌∷◌, ◌++◌}
use Rattle.std.specs.List.{AllByRecursion}
use Rattle.circus_fault.specs.declared.fault.Fault.{Fault}
use Rattle.circus_fault.specs.Least.{faults_if}
use Rattle.circus_type.proofs.Items.{all_appended}
use Rattle.circus_resolve.specs.declared.cause.CheckCause.{CheckCause}
use Rattle.circus_resolve.specs.Faults.{Faults}
use Rattle.circus_body.proofs.Rising.{Lies, lies_wider}

abbrev pub AreIn : ℕ → ℕ → Faults → Type 0
AreIn low high found = AllByRecursion (λ (f : Fault CheckCause). Lies low high f.place) found

pub joined : (low high : ℕ) (a b : Faults) → AreIn low high a → AreIn low high b → AreIn low high (a ++ b)
joined low high a b = all_appended (λ (f : Fault CheckCause). Lies low high f.place) a b

pub wider : (low high less more : ℕ) (found : Faults) → less ≤ low → high ≤ more → AreIn low high found → AreIn less more found
wider low high less more [] under over all = tt
wider low high less more (f ∷ fs) under over all = (lies_wider low high less more f.place under over all.0, wider low high less more fs under over all.1)

-- a fault at a place, where it is one
pub one : (low high : ℕ) (b : Bool) (at : ℕ) (cause : CheckCause) → Lies low high at → AreIn low high (faults_if b at cause)
one low high true at cause lies = (lies, tt)
one low high false at cause lies = tt
