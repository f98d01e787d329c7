-- What a delivery keeps of a world, and what comes behind it.
use Rattle.std.proofs.Common.{◌≡◌, ℕ, suc, ◌+◌, ◌<◌, ◌≤◌, Bool, true, false, List, length, map, Option, None, Some, Ok, Err, refl, sym, ap, subst, ◌∙◌, arith, length-append, ltb-true}
use Rattle.std.specs.Prelude.{slice_get, nat_lt, if◌then◌else◌}
use Rattle.std.specs.Option.{option_map_or}
use Rattle.std.proofs.lemmas.Bool.{lt-ltb, le-ltb}
use Rattle.circus_value.specs.ValueTree.{ValueTree}
use Rattle.circus_value.specs.declared.outcome.Outcome.{Outcome}
use Rattle.circus_model.specs.NextTurn.{NextTurn}
use Rattle.circus_model.specs.declared.signature.Signature.{Signature}
use Rattle.circus_node.specs.declared.event.Event.{Event}
use Rattle.circus_node.specs.declared.event.Event.TheVariants as comes
use Rattle.circus_node.specs.Step as node_step
use Rattle.circus_schedule.specs.declared.line.Line.TheVariants.{Deliver}
use Rattle.circus_world.specs.declared.cause.LineCause.{LineCause}
use Rattle.circus_world.specs.declared.cause.LineCause.TheVariants.{NoDatagram}
use Rattle.circus_world.specs.Sent.{Sent}
use Rattle.circus_world.specs.WorldState.{WorldState, Standing, is_live}
use Rattle.circus_world.specs.Legal.{refusal}
use Rattle.circus_world.specs.Course.{Stepped, sent_by, pass_step, conclude_step, comes_to, deliver_sent, step_line}
use Rattle.circus_settle.specs.declared.settling.SettleFault.{SettleFault}
use Rattle.circus_settle.specs.declared.settling.SettleFault.TheVariants as fault
use Rattle.circus_settle.specs.Settled.{Settling, then_settled, settle_world}
use Rattle.circus_settle.specs.Answers.{IsSettled}
use Rattle.circus_settle.specs.Seen.Stepping.{ComesTo}

module _ {M : Type 0} where
  -- it is one step at most, and nothing that was sent is lost
  pub record Keeps (w next : WorldState M) : Type 0 where
    pub steps : next.steps ≤ w.steps + 1
    pub sent : length w.sent ≤ length next.sent

  -- if it was made
  abbrev KeepsIfOk : WorldState M → Stepped M → Type 0
  KeepsIfOk w (Ok next) = Keeps w next
  KeepsIfOk w (Err nodes) = Unit {0}

  still : (w : WorldState M) → Keeps w w
  still w = record { steps = omega arith; sent = omega arith }

  concluded_keeps : (node : ℕ) (s : Standing M) (w : WorldState M) (end : node_step.Ended M) → KeepsIfOk w (conclude_step node s w end)
  concluded_keeps node s w (Ok ended) =
      record { steps = omega arith; sent = omega (arith, length-append w.sent (map (sent_by (w.steps + 1) node) ended.1.gives)) }
  concluded_keeps node s w (Err peer) = tt

  -- a datagram that was sent may be delivered
  pub may_be : (w : WorldState M) (number : ℕ) → number < length w.sent → refusal w (Deliver number) ≡ None
  may_be w number below = ap (λ t. if t then None else Some (NoDatagram number (length w.sent))) (lt-ltb number (length w.sent) below)

  -- and no other
  pub was_sent : (w : WorldState M) (number : ℕ) → refusal w (Deliver number) ≡ None → number < length w.sent
  was_sent w number legal = by_test (nat_lt number (length w.sent)) refl legal
    where
      by_test : (some : Bool) → nat_lt number (length w.sent) ≡ some → (if some then None else Some (NoDatagram number (length w.sent))) ≡ None → number < length w.sent
      by_test true some legal = ltb-true number (length w.sent) some
      by_test false none legal = absurd (let clash : ◌≡◌ {A = Option LineCause} (Some (NoDatagram number (length w.sent))) None = legal in cc)

module _ {M : Type 0} (declared : M → Signature) (turn : M → List ValueTree → ℕ → List ValueTree → List Outcome → NextTurn) where
  comes_keeps : (node : ℕ) (event : Event) (w : WorldState M) → KeepsIfOk w (comes_to declared turn node event w)
  comes_keeps node event w = by_option (slice_get w.nodes node)
    where
      by_option : (o : Option (Standing M)) → KeepsIfOk w (option_map_or (λ s. conclude_step node s w (node_step.step_node declared turn (w.steps + 1) event s.node)) o (Ok w))
      by_option None = still w
      by_option (Some s) = concluded_keeps node s w (node_step.step_node declared turn (w.steps + 1) event s.node)

  sent_keeps : (sent : Sent) (w : WorldState M) → KeepsIfOk w (deliver_sent declared turn sent w)
  sent_keeps sent w = by_test (is_live w sent.to)
    where
      by_test : (live : Bool) → KeepsIfOk w (if live then comes_to declared turn sent.to (comes.Datagram sent.from sent.bytes) w else Ok (pass_step w))
      by_test true = comes_keeps sent.to (comes.Datagram sent.from sent.bytes) w
      by_test false = record { steps = omega arith; sent = omega arith }

  delivery_keeps : (number : ℕ) (w : WorldState M) → KeepsIfOk w (step_line declared turn (Deliver number) w)
  delivery_keeps number w = by_option (slice_get w.sent number)
    where
      by_option : (o : Option Sent) → KeepsIfOk w (option_map_or (λ sent. deliver_sent declared turn sent w) o (Ok w))
      by_option None = still w
      by_option (Some sent) = sent_keeps sent w

  pub kept : (number : ℕ) (w next : WorldState M) → step_line declared turn (Deliver number) w ≡ Ok next → Keeps w next
  kept number w next is = subst (λ (e : Stepped M). KeepsIfOk w e) is (delivery_keeps number w)

  -- ---- the deliveries that are left

  -- the next one, where there is one
  abbrev next_of : ℕ → ℕ → WorldState M → Bool → Settling M
  next_of left number w some =
      if some then then_settled (settle_world declared turn left (number + 1)) (step_line declared turn (Deliver number) w) else Ok (record { world = w; given = number })

  pub behind_next : (left number : ℕ) (w : WorldState M) (e : Stepped M) → number < length w.sent → step_line declared turn (Deliver number) w ≡ e
      → settle_world declared turn (suc left) number w ≡ then_settled (settle_world declared turn left (number + 1)) e
  behind_next left number w e below is =
      ap (next_of left number w) (lt-ltb number (length w.sent) below) ∙ ap (then_settled (settle_world declared turn left (number + 1))) is

  pub goes_on : (left number : ℕ) (w next : WorldState M) (whole : Settling M) → number < length w.sent → step_line declared turn (Deliver number) w ≡ Ok next
      → settle_world declared turn (suc left) number w ≡ whole → settle_world declared turn left (number + 1) next ≡ whole
  goes_on left number w next whole below is same = sym (behind_next left number w (Ok next) below is) ∙ same

  pub ends : (P : Type 0) (left number : ℕ) (w : WorldState M) (most : ℕ) (begun : WorldState M) (fault : SettleFault) → number < length w.sent
      → ComesTo (Err fault) (step_line declared turn (Deliver number) w)
      → settle_world declared turn (suc left) number w ≡ settle_world declared turn most 0 begun → IsSettled declared turn {P = P} most begun (Err fault)
  ends P left number w most begun (fault.Spent node peer) below comes same = sym same ∙ behind_next left number w (Err (node, peer)) below comes
  ends P left number w most begun fault.NoMemory below comes same = tt

  -- none is left
  pub stops : (left number : ℕ) (w : WorldState M) → length w.sent ≤ number → settle_world declared turn (suc left) number w ≡ Ok (record { world = w; given = number })
  stops left number w none = ap (next_of left number w) (le-ltb number (length w.sent) none)
