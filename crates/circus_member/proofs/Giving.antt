-- States are given where the member is idle.
use Rattle.std.proofs.Common.{◌≡◌, Bool, true, false, if◌then◌else◌, List, [], ◌++◌, refl, sym, ap, ◌∙◌, append-nil}
use Rattle.circus_value.specs.ValueTree.{ValueTree}
use Rattle.circus_value.specs.Fits.{all_fit}
use Rattle.circus_value.specs.declared.caller.Caller.{Caller}
use Rattle.circus_model.specs.Behaviour.{Behaviour}
use Rattle.circus_record.specs.declared.record.MemberRecord.{MemberRecord}
use Rattle.circus_performing.specs.Performing.{open_ask, is_active}
use Rattle.circus_performing.specs.Record.{IsRecord}
use Rattle.circus_member_rules.specs.declared.occurrence.Effect.{Effect}
use Rattle.circus_member_rules.specs.MemberState.{Doing, add_effects}
use Rattle.circus_member_rules.specs.Rules.{snapshots_owed}
use Rattle.circus_member_rules.specs.Step.{is_idle, given_states}
use Rattle.circus_member_rules.proofs.Starting.{and_right, none_from_test}
use Rattle.circus_member_rules.proofs.Writing.{none_is_idle}

module _ {M : Type 0} (d : Doing M) where
  pub not_idle : is_idle d.member.performing.kept ≡ false → d ≡ given_states d
  not_idle is = sym (ap (λ t. if t then add_effects (record d { member = record d.member { requests = [] } }) (snapshots_owed d.member.performing.kept d.member.requests) else d) is)

  pub states_given : (requests : List Caller) (effects : List Effect) → is_idle d.member.performing.kept ≡ true → requests ≡ [] → effects ≡ d.effects ++ snapshots_owed d.member.performing.kept d.member.requests → let e : Doing M = record { member = record d.member { requests = requests }; effects = effects } in e ≡ given_states d
  states_given requests effects is none made =
      (λ j. record { member = record d.member { requests = none j }; effects = made j })
      ∙ sym (ap (λ t. if t then add_effects (record d { member = record d.member { requests = [] } }) (snapshots_owed d.member.performing.kept d.member.requests) else d) is)

  -- where nobody waits, nothing is made
  pub nobody_waits : d.member.requests ≡ [] → d ≡ given_states d
  nobody_waits none = by_test (is_idle d.member.performing.kept)
    where
      by_test : (t : Bool) → d ≡ (if t then add_effects (record d { member = record d.member { requests = [] } }) (snapshots_owed d.member.performing.kept d.member.requests) else d)
      by_test false = refl
      by_test true =
          let made : d.effects ≡ d.effects ++ snapshots_owed d.member.performing.kept d.member.requests =
          sym (ap (λ (rs : List Caller). d.effects ++ snapshots_owed d.member.performing.kept rs) none ∙ append-nil d.effects) in
          (λ j. record { member = record d.member { requests = none j }; effects = made j })

-- the state of an idle member may be written
pub idle_state : (b : Behaviour) (began : List ValueTree) (kept : MemberRecord) → IsRecord b began kept → is_idle kept ≡ true → all_fit b.declared.variables kept.state ≡ true
idle_state b began kept r idle =
    (none_is_idle b began kept r (none_from_test (open_ask kept) (and_right (is_active kept.phase) _ idle))).is_state.fits
