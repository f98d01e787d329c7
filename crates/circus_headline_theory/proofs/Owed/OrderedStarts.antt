-- Where a record is in time its runs stand in the order of their starts.
use Rattle.std.proofs.Common.{◌≡◌, ℕ, zero, suc, ◌<◌, ◌≤◌, List, [], ◌∷◌, ◌++◌, Option, None, Some, refl, sym, ap, ◌∙◌, arith, append_assoc}
use Rattle.std.specs.Prelude.{false, slice_get}
use Rattle.std.proofs.lemmas.Option.{same_Some}
use Rattle.circus_value.specs.ValueTree.{ValueTree}
use Rattle.circus_collate.specs.declared.deployment.Deployment.{Deployment}
use Rattle.circus_collate.specs.declared.deployment.Troupe.{Troupe}
use Rattle.circus_collate.specs.declared.view.View.{View}
use Rattle.circus_ring.specs.RingTable.{boot_views}
use Rattle.circus_transfer.specs.declared.joiner.Joiner.{Joiner}
use Rattle.circus_model.specs.Behaviour.{Behaviour}
use Rattle.circus_model.specs.declared.signature.ProcedureShape.{ProcedureShape}
use Rattle.circus_record.specs.declared.record.MemberRecord.{MemberRecord}
use Rattle.circus_record.specs.declared.record.RunRecord.{RunRecord}
use Rattle.circus_performing.specs.Performing.{is_active}
use Rattle.circus_performing.specs.Record.{IsRecord}
use Rattle.circus_member_rules.specs.declared.place.Place.{Place}
use Rattle.circus_node.specs.Booting.{beginning_in, home_in}
use Rattle.circus_member_theory.specs.Past.{Past}
use Rattle.circus_member_theory.specs.Living.{phase_at_boot}
use Rattle.circus_member_theory.specs.Timely.{IsTimely}
use Rattle.circus_headline_theory.specs.NodeRun.{runs_at_boot}
use Rattle.circus_headline_theory.specs.Owed.OrderedMakes.{StartInOrder}
use Rattle.circus_headline_theory.proofs.Agree.{IsOneOf, next_starts, ended_after}
use Rattle.circus_headline_theory.proofs.OneRun.{few, none_at_boot}

module _ (place : Place) (boot : List View) (begins : Joiner) (procedures : List ProcedureShape) (at_boot : ℕ) (b : Behaviour) (few_first : at_boot ≤ 1) (active_boot : is_active begins ≡ false → at_boot ≡ 0) (state : List ValueTree) (p : Past)
    (kept : MemberRecord) (h : IsOneOf place boot begins procedures at_boot b few_first active_boot state p kept) where
  -- those behind a run were started no earlier
  no_earlier : (before : List RunRecord) (x : RunRecord) (rest : List RunRecord) → kept.runs ≡ before ++ x ∷ rest → (n : ℕ) (other : RunRecord) → slice_get rest n ≡ Some other → x.started ≤ other.started
  no_earlier before x [] are n other there = absurd (let clash : ◌≡◌ {A = Option RunRecord} None (Some other) = there in cc)
  no_earlier before x (z ∷ rest) are n other there =
      by_place (no_earlier (before ++ x ∷ []) z rest (are ∙ sym (append_assoc before (x ∷ []) (z ∷ rest)))) n there
    where
      not_before : x.started ≤ z.started
      not_before =
          let next = next_starts place boot begins procedures at_boot b few_first active_boot state p kept h before x z rest are in
          let low = ended_after place boot begins procedures at_boot b few_first active_boot state p kept h before x (z ∷ rest) are next.ended next.is in
          let below = next.below in
          omega (arith, low, below)

      by_place : ((n : ℕ) (other : RunRecord) → slice_get rest n ≡ Some other → z.started ≤ other.started) → (n : ℕ) → slice_get (z ∷ rest) n ≡ Some other → x.started ≤ other.started
      by_place later zero at = (let low = not_before in let same = ap (λ (r : RunRecord). r.started) (same_Some z other at) in omega (arith, low, same))
      by_place later (suc n) at = (let low = not_before in let up = later n other at in omega (arith, low, up))

  in_order : (before rest : List RunRecord) → kept.runs ≡ before ++ rest
      → (m n : ℕ) (one other : RunRecord) → m < n → slice_get rest m ≡ Some one → slice_get rest n ≡ Some other → one.started ≤ other.started
  in_order before [] are m n one other less at there = absurd (let clash : ◌≡◌ {A = Option RunRecord} None (Some one) = at in cc)
  in_order before (x ∷ rest) are zero zero one other less at there = absurd (omega (arith, less))
  in_order before (x ∷ rest) are zero (suc n) one other less at there =
      let low = no_earlier before x rest are n other there in
      let same = ap (λ (r : RunRecord). r.started) (same_Some x one at) in
      omega (arith, low, same)
  in_order before (x ∷ rest) are (suc m) zero one other less at there = absurd (omega (arith, less))
  in_order before (x ∷ rest) are (suc m) (suc n) one other less at there = in_order (before ++ x ∷ []) rest (are ∙ sym (append_assoc before (x ∷ []) rest)) m n one other (omega (arith, less)) at there

pub starts_in_order : (d : Deployment) (b : Behaviour) (node number : ℕ) (troupe : Troupe) (p : Past) (state : List ValueTree) (kept : MemberRecord)
    → IsTimely (home_in d node number troupe).place (boot_views d.troupes) (phase_at_boot (beginning_in troupe node)) b.declared.procedures (runs_at_boot d b node number troupe) kept p → IsRecord b state kept → StartInOrder kept.runs
starts_in_order d b node number troupe p state kept timely follows =
    in_order (home_in d node number troupe).place (boot_views d.troupes) (phase_at_boot (beginning_in troupe node)) b.declared.procedures (runs_at_boot d b node number troupe) b (few d b node number troupe) (none_at_boot d b node number troupe) state p
    kept (record { timely = timely; follows = follows }) [] kept.runs refl
