-- What was made in which step, and who asked for what.
use Rattle.std.specs.Prelude.{ℕ, Bool, ◌&&◌, nat_eq, ◌≡◌, false, if◌then◌else◌, List, [], ◌∷◌, ◌++◌, All, Option}
use Rattle.std.specs.Option.{option_map_or}
use Rattle.circus_value.specs.declared.caller.Caller.{Caller}
use Rattle.circus_gather.specs.declared.held.HeldCall.{HeldCall}
use Rattle.circus_member_rules.specs.declared.occurrence.Effect.{Effect}
use Rattle.circus_member_rules.specs.declared.occurrence.Effect.TheVariants as made
use Rattle.circus_member_rules.specs.declared.occurrence.Occurrence.TheVariants as comes
use Rattle.circus_member_theory.specs.Past.{Past, booted, followed}

-- two callers are the same
abbrev pub is_caller : Caller → Caller → Bool
is_caller one other = nat_eq one.node other.node && nat_eq one.number other.number

-- the returns to a caller among what was made, each with its step
abbrev pub returns_to : Caller → List (ℕ × Effect) → List (ℕ × List ℕ)
returns_to c [] = []
returns_to c ((step, made.Call to message purpose) ∷ rest) = returns_to c rest
returns_to c ((step, made.Answer caller message) ∷ rest) =
    if is_caller c caller then (step, message) ∷ returns_to c rest else returns_to c rest

-- one thing, or none
abbrev pub at_most_one : {A : Type 0} → Option A → List A
at_most_one o = option_map_or (λ x. x ∷ []) o []

-- ---- what came

-- the asks, each with its step, in order of arrival
abbrev pub asks : Past → List (ℕ × HeldCall)
asks booted = []
asks (followed p step (comes.Asked header body sender)) =
    let call : HeldCall = record { header = header; body = body; sender = sender } in
    asks p ++ (step, call) ∷ []
asks (followed p step _) = asks p

-- the state requests likewise
abbrev pub requests : Past → List (ℕ × Caller)
requests booted = []
requests (followed p step (comes.Fetched incarnation sender)) = requests p ++ (step, sender) ∷ []
requests (followed p step _) = requests p

-- who made any of them
abbrev pub callers : Past → List Caller
callers booted = []
callers (followed p step (comes.Asked header body sender)) = callers p ++ sender ∷ []
callers (followed p step (comes.Fetched incarnation sender)) = callers p ++ sender ∷ []
callers (followed p step _) = callers p

-- no two of them were made by the same caller
abbrev pub AreDistinct : Past → Type 0
AreDistinct booted = Unit {0}
AreDistinct (followed p step (comes.Asked header body sender)) =
    AreDistinct p × All (λ (other : Caller). is_caller other sender ≡ false) (callers p)
AreDistinct (followed p step (comes.Fetched incarnation sender)) =
    AreDistinct p × All (λ (other : Caller). is_caller other sender ≡ false) (callers p)
AreDistinct (followed p step _) = AreDistinct p
