-- What a line brings to a node can come to it.
use Rattle.std.proofs.Common.{◌≡◌, ◌≢◌, ℕ, ◌<◌, Bool, true, false, List, length, Option, None, Some, Ok, refl, sym, ap, subst, ◌∙◌, arith}
use Rattle.std.specs.Prelude.{slice_get, is_none, is_some, if◌then◌else◌}
use Rattle.std.specs.Option.{option_map_or}
use Rattle.circus_value.specs.ValueTree.{ValueTree}
use Rattle.circus_value.specs.declared.outcome.Outcome.{Outcome}
use Rattle.circus_model.specs.NextTurn.{NextTurn}
use Rattle.circus_model.specs.declared.signature.Signature.{Signature}
use Rattle.circus_wire.specs.Wire.{IsOther}
use Rattle.circus_node.specs.declared.event.Event.{Event}
use Rattle.circus_node.specs.declared.event.Event.TheVariants as comes
use Rattle.circus_node.specs.Step.{CanCome}
use Rattle.circus_schedule.specs.declared.line.Line.TheVariants.{Deliver, Down}
use Rattle.circus_world.specs.Sent.{Sent}
use Rattle.circus_world.specs.declared.cause.LineCause.{LineCause}
use Rattle.circus_world.specs.declared.cause.LineCause.TheVariants.{NotCrashed, NotLive}
use Rattle.circus_world.specs.WorldState.{WorldState, Standing, is_live, has_crashed}
use Rattle.circus_world.specs.Legal.{refusal, unless_live}
use Rattle.circus_world.specs.Course.{pass_step, comes_to, deliver_sent, step_line}
use Rattle.circus_world.specs.Lines.{IsBetween}
use Rattle.circus_world.specs.Seen.Coming.{MayCome}
use Rattle.circus_world.specs.Seen.Sound.{IsSound}
use Rattle.circus_world.proofs.SlotLemmas.{all_at}

not_both : (crashed : Option ℕ) → is_none crashed ≡ true → is_some crashed ≡ true → ⊥
not_both None none some = cc
not_both (Some step) none some = cc

pub live_then : (live : Bool) (node : ℕ) → (if live then None else Some (NotLive node)) ≡ None → live ≡ true
live_then true node legal = refl
live_then false node legal = absurd (let clash : ◌≡◌ {A = Option LineCause} (Some (NotLive node)) None = legal in cc)

-- a datagram that stands at a place
pub same_sent : (own sent : Sent) → ◌≡◌ {A = Option Sent} (Some own) (Some sent) → own ≡ sent
same_sent own sent is = cc

module _ {M : Type 0} where
  is_other : (w : WorldState M) (node other : ℕ) (s : Standing M) → IsSound w → slice_get w.nodes node ≡ Some s
      → other < length w.nodes → other ≢ node → IsOther s.node.wire other
  is_other w node other s sound at below differs =
      let is = sound.nodes node s at in
      (λ same. differs (same ∙ is.own), omega (arith, is.pairs, sound.all, below))

  pub can_come : (w : WorldState M) (node : ℕ) (event : Event) (s : Standing M) → IsSound w → MayCome (length w.nodes) node event
      → slice_get w.nodes node ≡ Some s → CanCome s.node event
  can_come w node (comes.Datagram from bytes) s sound may at = is_other w node from s sound at may.0 may.1
  can_come w node comes.Tick s sound may at = tt
  can_come w node (comes.Down other) s sound may at = is_other w node other s sound at may.0 may.1
  can_come w node comes.Join s sound may at = tt

  -- ---- a datagram that was sent

  pub goes_there : (w : WorldState M) (number : ℕ) (sent : Sent) → IsSound w → slice_get w.sent number ≡ Some sent → sent.to < length w.nodes
  goes_there w number sent sound is =
      subst (λ k. sent.to < k) (sym sound.all) (all_at (IsBetween (length w.deployment.nodes)) w.sent number sent sound.sent is).to

  pub datagram_may_come : (w : WorldState M) (number : ℕ) (sent : Sent) → IsSound w → slice_get w.sent number ≡ Some sent
      → (sent.from < length w.nodes) × (sent.from ≢ sent.to)
  datagram_may_come w number sent sound is =
      let between = all_at (IsBetween (length w.deployment.nodes)) w.sent number sent sound.sent is in
      (subst (λ k. sent.from < k) (sym sound.all) between.from, between.others)

  -- ---- that another node has crashed

  crashed_before : (crashed : Bool) (told node : ℕ) (w : WorldState M) → (if crashed then unless_live w told else Some (NotCrashed node)) ≡ None
      → (crashed ≡ true) × (unless_live w told ≡ None)
  crashed_before true told node w legal = (refl, legal)
  crashed_before false told node w legal = absurd (let clash : ◌≡◌ {A = Option LineCause} (Some (NotCrashed node)) None = legal in cc)

  pub down_differs : (w : WorldState M) (node told : ℕ) → refusal w (Down node told) ≡ None → node ≢ told
  down_differs w node told legal same =
      let may = crashed_before (has_crashed w node) told node w legal in
      by_node (slice_get w.nodes told) (live_then (is_live w told) told may.1) (sym (ap (λ k. has_crashed w k) same) ∙ may.0)
    where
      by_node : (o : Option (Standing M)) → option_map_or (λ (s : Standing M). is_none s.crashed) o false ≡ true → option_map_or (λ (s : Standing M). is_some s.crashed) o false ≡ true → ⊥
      by_node None live crashed = let clash : false ≡ true = live in cc
      by_node (Some s) live crashed = not_both s.crashed live crashed

module _ {M : Type 0} (declared : M → Signature) (turn : M → List ValueTree → ℕ → List ValueTree → List Outcome → NextTurn) where
  -- a datagram is delivered, or lost
  pub delivered_at : (w : WorldState M) (number : ℕ) (sent : Sent) (live : Bool) → slice_get w.sent number ≡ Some sent → is_live w sent.to ≡ live
      → step_line declared turn (Deliver number) w ≡ (if live then comes_to declared turn sent.to (comes.Datagram sent.from sent.bytes) w else Ok (pass_step w))
  delivered_at w number sent live there is =
      ap (λ (o : Option Sent). option_map_or (λ s. deliver_sent declared turn s w) o (Ok w)) there
      ∙ ap (λ (b : Bool). if b then comes_to declared turn sent.to (comes.Datagram sent.from sent.bytes) w else Ok (pass_step w)) is
