-- Which nodes are live.
use Rattle.std.proofs.Common.{◌≡◌, ◌<◌, ℕ, Bool, true, false, length, Option, None, Some, sym, ap, ◌∙◌}
use Rattle.std.specs.Prelude.{slice_get, option_and_then, is_none, is_some, if◌then◌else◌}
use Rattle.std.specs.Option.{option_map_or}
use Rattle.circus_schedule.specs.declared.line.Line.TheVariants.{Join}
use Rattle.circus_world.specs.declared.cause.LineCause.{LineCause}
use Rattle.circus_world.specs.declared.cause.LineCause.TheVariants.{NotSpare, NotLive, AlreadyJoined}
use Rattle.circus_world.specs.WorldState.{WorldState, Standing, is_live, has_crashed, has_joined}
use Rattle.circus_world.specs.Legal.{is_spare, unless_told, refusal}
use Rattle.circus_world.proofs.SlotLemmas.{get_there}

module _ {M : Type 0} where
  -- ---- by when a node crashed

  abbrev crash_of : Option (Standing M) → Option ℕ
  crash_of o = option_and_then (λ (s : Standing M). s.crashed) o

  pub live : (w : WorldState M) (node : ℕ) → node < length w.nodes → None ≡ crash_of (slice_get w.nodes node) → (is_live w node ≡ true) × (has_crashed w node ≡ false)
  live w node below none = let found = get_there w.nodes node below in by_node (slice_get w.nodes node) found.0 found.1 none
    where
      by_node : (o : Option (Standing M)) (s : Standing M) → o ≡ Some s → None ≡ crash_of o
          → (option_map_or (λ (t : Standing M). is_none t.crashed) o false ≡ true) × (option_map_or (λ (t : Standing M). is_some t.crashed) o false ≡ false)
      by_node None s there none = absurd (let clash : ◌≡◌ {A = Option (Standing M)} None (Some s) = there in cc)
      by_node (Some t) s there none = (sym (ap (λ (x : Option ℕ). is_none x) none), sym (ap (λ (x : Option ℕ). is_some x) none))

  pub down : (w : WorldState M) (node step : ℕ) → Some step ≡ crash_of (slice_get w.nodes node) → (is_live w node ≡ false) × (has_crashed w node ≡ true)
  down w node step some = by_node (slice_get w.nodes node) some
    where
      by_node : (o : Option (Standing M)) → Some step ≡ crash_of o
          → (option_map_or (λ (t : Standing M). is_none t.crashed) o false ≡ false) × (option_map_or (λ (t : Standing M). is_some t.crashed) o false ≡ true)
      by_node None some = absurd (let clash : ◌≡◌ {A = Option ℕ} (Some step) None = some in cc)
      by_node (Some t) some = (sym (ap (λ (x : Option ℕ). is_none x) some), sym (ap (λ (x : Option ℕ). is_some x) some))

  pub live_so : (w : WorldState M) (node : ℕ) (crashed : Option ℕ) → node < length w.nodes → crashed ≡ crash_of (slice_get w.nodes node)
      → is_some crashed ≡ false → is_live w node ≡ true
  live_so w node None below is none = (live w node below is).0
  live_so w node (Some step) below is none = absurd (let clash : true ≡ false = none in cc)

  pub down_so : (w : WorldState M) (node : ℕ) (crashed : Option ℕ) → crashed ≡ crash_of (slice_get w.nodes node)
      → is_some crashed ≡ true → is_live w node ≡ false
  down_so w node None is some = absurd (let clash : false ≡ true = some in cc)
  down_so w node (Some step) is some = (down w node step is).0

  -- ---- a live spare

  pub may_join : (w : WorldState M) (node : ℕ) (joined : Bool) → is_spare w.deployment node ≡ true → is_live w node ≡ true → has_joined w node ≡ joined
      → refusal w (Join node) ≡ (if joined then Some (AlreadyJoined node) else None)
  may_join w node joined spare live is =
      let among : Option LineCause → Bool → Option LineCause = λ cause b. if b then cause else Some (NotSpare node) in
      let alive : Bool → Option LineCause = λ b. if b then unless_told w node else Some (NotLive node) in
      ap (among (alive (is_live w node))) spare ∙ ap alive live ∙ ap (λ (b : Bool). if b then Some (AlreadyJoined node) else None) is
