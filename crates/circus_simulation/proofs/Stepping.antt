-- What a line that is drawn keeps of a world.
use Rattle.std.proofs.Common.{◌≡◌, ℕ, zero, suc, ◌+◌, ◌<◌, ◌≤◌, Bool, true, false, List, ◌∷◌, length, set, drop, Option, None, Some, Ok, Err, refl, sym, ap, subst, ◌∙◌, arith, length-set}
use Rattle.std.specs.Prelude.{if◌then◌else◌, slice_get, is_none}
use Rattle.std.specs.Option.{option_map_or}
use Rattle.std.proofs.lemmas.List.{get_or-set_same}
use Rattle.std.proofs.lemmas.List.Elements.{All-set}
use Rattle.std.proofs.lemmas.Option.{slice_get_read, slice_get_within}
use Rattle.circus_value.specs.ValueTree.{ValueTree}
use Rattle.circus_value.specs.declared.outcome.Outcome.{Outcome}
use Rattle.circus_model.specs.NextTurn.{NextTurn}
use Rattle.circus_model.specs.declared.signature.Signature.{Signature}
use Rattle.circus_node.specs.declared.event.Event.{Event}
use Rattle.circus_node.specs.declared.event.Event.TheVariants as comes
use Rattle.circus_node.specs.Step as node_step
use Rattle.circus_schedule.specs.declared.line.Line.{Line}
use Rattle.circus_schedule.specs.declared.line.Line.TheVariants.{Deliver, Tick, Crash, Down, Join}
use Rattle.circus_schedule.specs.Sampling.{IsPossible, word_behind, line_drawn}
use Rattle.circus_world.specs.Sent.{Sent}
use Rattle.circus_world.specs.WorldState.{WorldState, Standing}
use Rattle.circus_world.specs.Course.{Stepped, pass_step, told_to_join, conclude_step, comes_to, deliver_sent, step_line}
use Rattle.circus_world.specs.Boot.{then_others}
use Rattle.circus_world.specs.Lines.{Lead}
use Rattle.circus_world.proofs.SlotLemmas.{get_there, all_at}
use Rattle.circus_simulation.specs.Sampled.{spares_from, facts_of, lines_behind, sample_lines, lines_drawn}
use Rattle.circus_simulation.specs.Seen.Stepping.{NoneCrashed, left_by}
use Rattle.circus_simulation.proofs.Spares.{same_left}
use Rattle.circus_simulation.proofs.Possible.{IsToJoin, drawn_possible, to_join, named, legal}

module _ {M : Type 0} where
  -- a step after which nobody has crashed and these spares are left
  pub record Keeps (spares : List ℕ) (w next : WorldState M) : Type 0 where
    pub none : NoneCrashed next
    pub spares_are : spares_from next.deployment 0 next.nodes ≡ spares
    pub count : length next.nodes ≡ length w.nodes
    pub steps : next.steps ≡ w.steps + 1

  -- if it was made
  abbrev pub KeepsIfOk : List ℕ → WorldState M → Stepped M → Type 0
  KeepsIfOk spares w (Ok next) = Keeps spares w next
  KeepsIfOk spares w (Err nodes) = Unit {0}

  passed_keeps : (w : WorldState M) → NoneCrashed w → Keeps (spares_from w.deployment 0 w.nodes) w (pass_step w)
  passed_keeps w none = record { none = none; spares_are = refl; count = refl; steps = refl }

  concluded_keeps : (node : ℕ) (s : Standing M) (w : WorldState M) (end : node_step.Ended M) → NoneCrashed w → slice_get w.nodes node ≡ Some s
      → KeepsIfOk (spares_from w.deployment 0 w.nodes) w (conclude_step node s w end)
  concluded_keeps node s w (Ok ended) none there =
      record {
        none = All-set (λ (t : Standing M). t.crashed ≡ None) w.nodes node (record s { node = ended.0 }) (all_at (λ (t : Standing M). t.crashed ≡ None) w.nodes node s none there) none;
        spares_are = same_left w.deployment 0 w.nodes node s (record s { node = ended.0 }) there refl;
        count = length-set w.nodes node (record s { node = ended.0 });
        steps = refl;
      }
  concluded_keeps node s w (Err peer) none there = tt

module _ {M : Type 0} (declared : M → Signature) (turn : M → List ValueTree → ℕ → List ValueTree → List Outcome → NextTurn) where
  comes_keeps : (node : ℕ) (event : Event) (w : WorldState M) (s : Standing M) → NoneCrashed w → slice_get w.nodes node ≡ Some s
      → KeepsIfOk (spares_from w.deployment 0 w.nodes) w (comes_to declared turn node event w)
  comes_keeps node event w s none there =
      let goes : Option (Standing M) → Stepped M = λ o. option_map_or (λ (t : Standing M). conclude_step node t w (node_step.step_node declared turn (w.steps + 1) event t.node)) o (Ok w) in
      subst (λ (e : Stepped M). KeepsIfOk (spares_from w.deployment 0 w.nodes) w e) (sym (ap goes there))
      (concluded_keeps node s w (node_step.step_node declared turn (w.steps + 1) event s.node) none there)

  delivered_keeps : (sent : Sent) (w : WorldState M) → NoneCrashed w → KeepsIfOk (spares_from w.deployment 0 w.nodes) w (deliver_sent declared turn sent w)
  delivered_keeps sent w none = by_node (slice_get w.nodes sent.to) refl
    where
      by_node : (o : Option (Standing M)) → slice_get w.nodes sent.to ≡ o
          → KeepsIfOk (spares_from w.deployment 0 w.nodes) w (if option_map_or (λ (t : Standing M). is_none t.crashed) o false then comes_to declared turn sent.to (comes.Datagram sent.from sent.bytes) w else Ok (pass_step w))
      by_node None at = passed_keeps w none
      by_node (Some s) at = by_live (is_none s.crashed)
        where
          by_live : (live : Bool) → KeepsIfOk (spares_from w.deployment 0 w.nodes) w (if live then comes_to declared turn sent.to (comes.Datagram sent.from sent.bytes) w else Ok (pass_step w))
          by_live true = comes_keeps sent.to (comes.Datagram sent.from sent.bytes) w s none at
          by_live false = passed_keeps w none

  -- ---- a line that can be asked for

  join_keeps : (node : ℕ) (w : WorldState M) → NoneCrashed w → IsToJoin w node → KeepsIfOk (drop 1 (spares_from w.deployment 0 w.nodes)) w (step_line declared turn (Join node) w)
  join_keeps node w none join =
      subst (λ (v : WorldState M). KeepsIfOk (drop 1 (spares_from w.deployment 0 w.nodes)) w (comes_to declared turn node comes.Join v)) (sym told)
      (behind (comes_to declared turn node comes.Join after) (comes_keeps node comes.Join after s alive there))
    where
      s : Standing M
      s = record join.s { joins = true }

      after : WorldState M
      after = record w { nodes = set w.nodes node (record join.s { joins = true }) }

      told : told_to_join node w ≡ record w { nodes = set w.nodes node (record join.s { joins = true }) }
      told = ap (λ (o : Option (Standing M)). record w { nodes = option_map_or (λ t. set w.nodes node (record t { joins = true })) o w.nodes }) join.there

      alive : NoneCrashed (record w { nodes = set w.nodes node (record join.s { joins = true }) })
      alive =
          All-set (λ (t : Standing M). t.crashed ≡ None) w.nodes node (record join.s { joins = true })
          (all_at (λ (t : Standing M). t.crashed ≡ None) w.nodes node join.s none join.there) none

      there : slice_get (set w.nodes node (record join.s { joins = true })) node ≡ Some (record join.s { joins = true })
      there =
          let t : Standing M = record join.s { joins = true } in
          let within : node < length w.nodes = slice_get_within w.nodes node join.s join.there in
          slice_get_read (set w.nodes node t) (length w.nodes) node t (sym (length-set w.nodes node t)) within (sym (get_or-set_same w.nodes node t t within))

      behind : (e : Stepped M) → KeepsIfOk (spares_from w.deployment 0 (set w.nodes node (record join.s { joins = true }))) (record w { nodes = set w.nodes node (record join.s { joins = true }) }) e
          → KeepsIfOk (drop 1 (spares_from w.deployment 0 w.nodes)) w e
      behind (Ok next) keeps =
          record {
            none = keeps.none;
            spares_are = keeps.spares_are ∙ join.left ∙ sym (ap (drop 1) join.is);
            count = keeps.count ∙ length-set w.nodes node (record join.s { joins = true });
            steps = keeps.steps;
          }
      behind (Err nodes) keeps = tt

  pub line_keeps : (line : Line) (w : WorldState M) → NoneCrashed w → IsPossible (facts_of w) line
      → KeepsIfOk (left_by line (spares_from w.deployment 0 w.nodes)) w (step_line declared turn line w)
  line_keeps (Deliver number) w none possible =
      let found = get_there w.sent number possible in
      let goes : Option Sent → Stepped M = λ o. option_map_or (λ sent. deliver_sent declared turn sent w) o (Ok w) in
      subst (λ (e : Stepped M). KeepsIfOk (spares_from w.deployment 0 w.nodes) w e) (sym (ap goes found.1)) (delivered_keeps found.0 w none)
  line_keeps (Tick node) w none possible =
      let found = get_there w.nodes node possible in
      comes_keeps node comes.Tick w found.0 none found.1
  line_keeps (Crash node) w none possible = absurd possible
  line_keeps (Down node told) w none possible = absurd possible
  line_keeps (Join node) w none possible = join_keeps node w none (to_join w node possible)

  -- ---- many lines

  -- the line that is drawn first
  abbrev next_line : ℕ → WorldState M → Line
  next_line word w = line_drawn (word_behind word) (facts_of w)

  -- the lines that are drawn lead there, as many as these
  abbrev AreLed : ℕ → ℕ → WorldState M → WorldState M → Type 0
  AreLed steps word w last =
      (length (lines_drawn declared turn steps word w) ≡ steps) × Lead declared turn (lines_drawn declared turn steps word w) w last

  one_more : (left word : ℕ) (w last : WorldState M)
      → ((word : ℕ) (w last : WorldState M) → NoneCrashed w → 1 ≤ length w.nodes → sample_lines declared turn left word w ≡ Ok last → AreLed left word w last)
      → NoneCrashed w → 1 ≤ length w.nodes → sample_lines declared turn (suc left) word w ≡ Ok last → AreLed (suc left) word w last
  one_more left word w last others none some is =
      by_step (step_line declared turn (next_line word w) w) refl (line_keeps (next_line word w) w none possible) is
    where
      possible : IsPossible (facts_of w) (line_drawn (word_behind word) (facts_of w))
      possible = drawn_possible (word_behind word) (facts_of w) some

      by_step : (e : Stepped M) → step_line declared turn (line_drawn (word_behind word) (facts_of w)) w ≡ e
          → KeepsIfOk (left_by (line_drawn (word_behind word) (facts_of w)) (spares_from w.deployment 0 w.nodes)) w e
          → then_others (sample_lines declared turn left (word_behind word)) e ≡ Ok last
          → (suc (length (lines_behind (lines_drawn declared turn left (word_behind word)) e)) ≡ suc left)
          × Lead declared turn (next_line word w ∷ lines_behind (lines_drawn declared turn left (word_behind word)) e) w last
      by_step (Ok next) stepped_is keeps is =
          let rest = others (word_behind word) next last keeps.none (omega (arith, keeps.count, some)) is in
          let line = line_drawn (word_behind word) (facts_of w) in (
            ap suc rest.0,
            (next, record { named = named w line possible; legal = legal w line none possible; stepped_is = stepped_is }, rest.1),
          )
      by_step (Err nodes) stepped_is keeps is = absurd (let clash : ◌≡◌ {A = Stepped M} (Err nodes) (Ok last) = is in cc)

  pub samples_lead : (steps word : ℕ) (w last : WorldState M) → NoneCrashed w → 1 ≤ length w.nodes → sample_lines declared turn steps word w ≡ Ok last → AreLed steps word w last
  samples_lead zero word w last none some is = (refl, (let same : w ≡ last = cc in sym same))
  samples_lead (suc left) word w last none some is = one_more left word w last (samples_lead left) none some is
