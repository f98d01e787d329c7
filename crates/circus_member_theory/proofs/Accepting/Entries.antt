-- What holds of all entries holds of the one that is found by a key.
use Rattle.std.proofs.Common.{◌≡◌, ℕ, nat_eq, List, All, Some}
use Rattle.std.specs.Map.{lookup}
use Rattle.std.proofs.lemmas.Bool.{eqb-true}
use Rattle.std.proofs.lemmas.List.Elements.{All-contains}
use Rattle.std.proofs.lemmas.Map.Views.{Contains-from_lookup}
use Rattle.circus_fanout.specs.Asking.{Asking}
use Rattle.circus_member_rules.specs.declared.occurrence.AskName.{AskName}
use Rattle.circus_member_rules.specs.OpenAsks.{asking_of}
use Rattle.circus_member_rules.proofs.Named.{names_decide}

-- an open ask of a name
pub ask_found : (P : AskName × Asking → Type 0) (asks : List (AskName × Asking)) (name : AskName) (a : Asking) → All P asks → asking_of asks name ≡ Some a → P (name, a)
ask_found P asks name a all is = All-contains P asks (name, a) all (Contains-from_lookup (λ one other. (names_decide one other).0) name a asks is)

-- what is kept of an index
pub kept_found : {X : Type 0} (P : ℕ × X → Type 0) (kept : List (ℕ × X)) (index : ℕ) (x : X) → All P kept → lookup (nat_eq index) kept ≡ Some x → P (index, x)
kept_found P kept index x all is = All-contains P kept (index, x) all (Contains-from_lookup eqb-true index x kept is)
