-- A step so far, and what a call says where it has memory.
use Rattle.std.proofs.Common.{◌≡◌, ℕ, Ok, Err, sym, ap, ◌∙◌}
use Rattle.std.specs.Prelude.{List, Result, OnOk}
use Rattle.circus_member_rules.specs.declared.occurrence.Effect.{Effect}
use Rattle.circus_member_rules.specs.declared.occurrence.Occurrence.{Occurrence}
use Rattle.circus_member_rules.specs.MemberState.{Doing, behind}
use Rattle.circus_member_rules.specs.Step.{handle}
use Rattle.circus_member.specs.declared.member_state.MemberState.{MemberState}
use Rattle.circus_member.specs.Seen.Parts.{member_of}

abbrev pub doing_of : {M P : Type 0} → MemberState M P → List Effect → Doing M
doing_of member effects = record { member = member_of member; effects = effects }

-- what two clauses say together
pub both_ok : {T E P Q R : Type 0} (r : Result T E) → (P → Q → R) → OnOk r P → OnOk r Q → OnOk r R
both_ok (Ok x) f p q = f p q
both_ok (Err e) f p q = tt

-- what is handled of a step that stood in a box
pub handled_so : {M : Type 0} (at : ℕ) (o p : Occurrence) (i d : Doing M) → o ≡ p → i ≡ d → behind i (handle at p i.member) ≡ behind d (handle at o d.member)
handled_so {M} at o p i d is same =
    ap (λ (x : Occurrence). behind i (handle at x i.member)) (sym is) ∙ ap (λ (x : Doing M). behind x (handle at o x.member)) same
