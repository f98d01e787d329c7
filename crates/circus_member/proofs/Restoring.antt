-- A state comes to a member that fetches one, or to another.
use Rattle.std.proofs.Common.{◌≡◌, ℕ, Bool, true, false, cond, if◌then◌else◌, List, [], ◌++◌, refl, sym, ap, ◌∙◌, append-nil}
use Rattle.circus_value.specs.ValueTree.{ValueTree}
use Rattle.circus_gather.specs.Gathering.{with_first}
use Rattle.circus_performing.specs.Performing.{Performing, is_fetching, made_active, activate}
use Rattle.circus_member_rules.specs.MemberState.{MemberState, Doing, behind}
use Rattle.circus_member_rules.specs.Rules.{active_call, before_answers}
use Rattle.circus_member_rules.specs.Step.{handle_state, begin_behind}

module _ {M : Type 0} (d : Doing M) (at : ℕ) (state : List ValueTree) (count : ℕ) where
  by_phase : (t : Bool) → is_fetching d.member.performing.kept.phase ≡ t → behind d (handle_state at d.member state count) ≡ behind d (if t then record { member = record d.member { performing = made_active at state count d.member.performing; gathered = with_first d.member.gathered count }; effects = active_call d.member.place d.member.known count ++ before_answers d.member.gathered count } else record { member = d.member; effects = [] })
  by_phase t is = ap (λ f. behind d (if f then record { member = record d.member { performing = made_active at state count d.member.performing; gathered = with_first d.member.gathered count }; effects = active_call d.member.place d.member.known count ++ before_answers d.member.gathered count } else record { member = d.member; effects = [] })) is

  -- it isn't taken
  pub not_restored : is_fetching d.member.performing.kept.phase ≡ false → d ≡ behind d (handle_state at d.member state count)
  not_restored outside =
      (λ j. record { member = d.member; effects = sym (append-nil d.effects) j }) ∙ sym (by_phase false outside)

  -- it is
  pub restored_so : is_fetching d.member.performing.kept.phase ≡ true → let e : Doing M = record d { member = record d.member { performing = activate at state count d.member.performing } } in begin_behind e count ≡ behind d (handle_state at d.member state count)
  restored_so fetching =
      ap (λ t. let e : Doing M = record d { member = record d.member { performing = cond t (made_active at state count d.member.performing) d.member.performing } } in begin_behind e count) fetching
      ∙ sym (by_phase true fetching)

-- ---- its module stays

module _ {M : Type 0} (at : ℕ) (state : List ValueTree) (count : ℕ) where
  pub active_hosted : (p : Performing M) → (activate at state count p).hosted ≡ p.hosted
  active_hosted p = by_test (is_fetching p.kept.phase)
    where
      by_test : (t : Bool) → let q : Performing M = cond t (made_active at state count p) p in q.hosted ≡ p.hosted
      by_test true = refl
      by_test false = refl

  pub restored_hosted : (m : MemberState M) → (handle_state at m state count).member.performing.hosted ≡ m.performing.hosted
  restored_hosted m = by_test (is_fetching m.performing.kept.phase)
    where
      by_test : (t : Bool) → let d : Doing M = if t then record { member = record m { performing = made_active at state count m.performing; gathered = with_first m.gathered count }; effects = active_call m.place m.known count ++ before_answers m.gathered count } else record { member = m; effects = [] } in d.member.performing.hosted ≡ m.performing.hosted
      by_test true = refl
      by_test false = refl
