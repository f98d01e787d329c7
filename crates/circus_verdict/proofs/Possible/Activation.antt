-- From which call on an active member performs, by what happened to it.
use Rattle.std.proofs.Common.{◌≡◌, ℕ, ◌⊎◌, inl, inr, Bool, true, false, ◌&&◌, if◌then◌else◌, List, None, Some, refl, ap, ◌∙◌}
use Rattle.circus_value.specs.ValueTree.{ValueTree}
use Rattle.circus_collate.specs.declared.table.Table.{Table}
use Rattle.circus_transfer.specs.declared.joiner.Joiner.{Joiner}
use Rattle.circus_transfer.specs.declared.joiner.Joiner.TheVariants.{Outside, Asking, Fetching, Active}
use Rattle.circus_performing.specs.Performing.{is_active, is_fetching}
use Rattle.circus_member_rules.specs.declared.occurrence.Occurrence.{Occurrence}
use Rattle.circus_member_rules.specs.declared.occurrence.Occurrence.TheVariants as comes
use Rattle.circus_member_rules.specs.Step.{is_join}
use Rattle.circus_member_theory.specs.First.{first_given}
use Rattle.circus_member_theory.specs.Past.{Past, booted, followed, is_outside, is_asking, is_done, taken_in, phase, snapshot_fetched}
use Rattle.circus_member_theory.proofs.Timely.Firsts.{first_now, none_yet, given_before}
use Rattle.circus_member_theory.proofs.Timely.Phases.{inactive_told, inactive_tabled, inactive_restored}

pub active_as : (one other : ℕ) → ◌≡◌ {A = Joiner} (Active one) (Active other) → one ≡ other
active_as one other same = cc

not_active : (table : Table) (first : ℕ) → taken_in table ≡ Active first → ⊥
not_active table first is = by_test (is_done table.result) is
  where
    by_test : (b : Bool) → (if b then Fetching table.view.incarnation else Outside) ≡ Active first → ⊥
    by_test true e = cc
    by_test false e = cc

module _ (begins : Joiner) where
  -- who isn't active has fetched nothing

  inactive_before : (p : Past) (step : ℕ) (o : Occurrence) → is_active (phase begins (followed p step o)) ≡ false → is_active (phase begins p) ≡ false
  inactive_before p step comes.Joins is = inactive_told (phase begins p) is
  inactive_before p step (comes.Told request table) is = inactive_tabled (is_join request) table (phase begins p) is
  inactive_before p step (comes.Restored state count) is = inactive_restored count (phase begins p) is
  inactive_before p step (comes.Asked header body sender) is = is
  inactive_before p step (comes.Fetched incarnation sender) is = is
  inactive_before p step (comes.Replied name from reply) is = is
  inactive_before p step (comes.IsStale name server from incarnation) is = is
  inactive_before p step (comes.IsBefore name from) is = is
  inactive_before p step (comes.Declared node) is = is

  pub none_fetched : (p : Past) → is_active (phase begins p) ≡ false → snapshot_fetched begins p ≡ None
  none_fetched booted is = refl
  none_fetched (followed p step (comes.Restored state count)) is =
      by_test (is_fetching (phase begins p)) is (none_fetched p (inactive_before p step (comes.Restored state count) is))
    where
      by_test : (b : Bool) → is_active (if b then Active count else phase begins p) ≡ false → snapshot_fetched begins p ≡ None → (if b then Some (state, count) else snapshot_fetched begins p) ≡ None
      by_test true e none = absurd (let clash : true ≡ false = e in cc)
      by_test false e none = none
  none_fetched (followed p step comes.Joins) is = none_fetched p (inactive_before p step comes.Joins is)
  none_fetched (followed p step (comes.Told request table)) is = none_fetched p (inactive_before p step (comes.Told request table) is)
  none_fetched (followed p step (comes.Asked header body sender)) is = none_fetched p is
  none_fetched (followed p step (comes.Fetched incarnation sender)) is = none_fetched p is
  none_fetched (followed p step (comes.Replied name from reply)) is = none_fetched p is
  none_fetched (followed p step (comes.IsStale name server from incarnation)) is = none_fetched p is
  none_fetched (followed p step (comes.IsBefore name from)) is = none_fetched p is
  none_fetched (followed p step (comes.Declared node)) is = none_fetched p is

  pub not_yet : (p : Past) → is_active (phase begins p) ≡ false → first_given (snapshot_fetched begins) p ≡ None
  not_yet booted is = none_yet (snapshot_fetched begins) booted refl refl
  not_yet (followed p step o) is =
      none_yet (snapshot_fetched begins) (followed p step o) (not_yet p (inactive_before p step o is)) (none_fetched (followed p step o) is)

  fetching_inactive : (j : Joiner) → is_fetching j ≡ true → is_active j ≡ false
  fetching_inactive Outside is = refl
  fetching_inactive Asking is = refl
  fetching_inactive (Fetching incarnation) is = refl
  fetching_inactive (Active first) is = absurd (let clash : false ≡ true = is in cc)

  -- it was so at boot, or took a state with that count
  abbrev pub IsActiveFrom : ℕ → Past → Type 0
  IsActiveFrom since p =
      (begins ≡ Active since) ⊎ ((step : ℕ) × (state : List ValueTree) × (first_given (snapshot_fetched begins) p ≡ Some (step, (state, since))))

  goes_on : (since : ℕ) (p : Past) (step : ℕ) (o : Occurrence) → IsActiveFrom since p → IsActiveFrom since (followed p step o)
  goes_on since p step o (inl is) = inl is
  goes_on since p step o (inr is) = inr (is.0, is.1, given_before (snapshot_fetched begins) (followed p step o) (is.0, (is.1, since)) is.2)

  pub active_from : (since : ℕ) (p : Past) → phase begins p ≡ Active since → IsActiveFrom since p
  active_from since booted is = inl is
  active_from since (followed p step (comes.Restored state count)) is = by_test (is_fetching (phase begins p)) refl is (active_from since p)
    where
      by_test : (b : Bool) → is_fetching (phase begins p) ≡ b → (if b then Active count else phase begins p) ≡ Active since → (phase begins p ≡ Active since → IsActiveFrom since p)
          → IsActiveFrom since (followed p step (comes.Restored state count))
      by_test true fetching e rest =
          let gives : snapshot_fetched begins (followed p step (comes.Restored state count)) ≡ Some (state, count) =
          ap (λ b. if b then Some (state, count) else snapshot_fetched begins p) fetching in
          inr (
            step,
            state,
            first_now (snapshot_fetched begins) (followed p step (comes.Restored state count)) (state, count) (not_yet p (fetching_inactive (phase begins p) fetching)) gives
                ∙ ap (λ (n : ℕ). Some (step, (state, n))) (active_as count since e),
          )
      by_test false fetching e rest = goes_on since p step (comes.Restored state count) (rest e)
  active_from since (followed p step comes.Joins) is = by_test (is_outside (phase begins p)) is (active_from since p)
    where
      by_test : (b : Bool) → (if b then Asking else phase begins p) ≡ Active since → (phase begins p ≡ Active since → IsActiveFrom since p) → IsActiveFrom since (followed p step comes.Joins)
      by_test true e rest = absurd (let clash : ◌≡◌ {A = Joiner} Asking (Active since) = e in cc)
      by_test false e rest = goes_on since p step comes.Joins (rest e)
  active_from since (followed p step (comes.Told request table)) is = by_test (is_join request && is_asking (phase begins p)) is (active_from since p)
    where
      by_test : (b : Bool) → (if b then taken_in table else phase begins p) ≡ Active since → (phase begins p ≡ Active since → IsActiveFrom since p)
          → IsActiveFrom since (followed p step (comes.Told request table))
      by_test true e rest = absurd (not_active table since e)
      by_test false e rest = goes_on since p step (comes.Told request table) (rest e)
  active_from since (followed p step (comes.Asked header body sender)) is = goes_on since p step (comes.Asked header body sender) (active_from since p is)
  active_from since (followed p step (comes.Fetched incarnation sender)) is = goes_on since p step (comes.Fetched incarnation sender) (active_from since p is)
  active_from since (followed p step (comes.Replied name from reply)) is = goes_on since p step (comes.Replied name from reply) (active_from since p is)
  active_from since (followed p step (comes.IsStale name server from incarnation)) is = goes_on since p step (comes.IsStale name server from incarnation) (active_from since p is)
  active_from since (followed p step (comes.IsBefore name from)) is = goes_on since p step (comes.IsBefore name from) (active_from since p is)
  active_from since (followed p step (comes.Declared node)) is = goes_on since p step (comes.Declared node) (active_from since p is)
