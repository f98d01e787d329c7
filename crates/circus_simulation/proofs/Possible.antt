-- A line that is drawn can be asked for, and where nobody has crashed it may be stepped.
use Rattle.std.proofs.Common.{◌≡◌, ℕ, zero, suc, ◌-◌, ◌/◌, ◌%◌, ◌^◌, ◌<◌, ◌≤◌, Bool, true, false, List, [], ◌∷◌, length, set, Option, None, Some, refl, sym, ap, subst, ◌∙◌, arith, zero-add}
use Rattle.std.specs.Prelude.{◌||◌, ◌==◌, nat_le, min, if◌then◌else◌, is_none, slice_get}
use Rattle.std.specs.Option.{option_map_or}
use Rattle.std.proofs.lemmas.Bool.{lt-ltb}
use Rattle.std.proofs.lemmas.Option.{slice_get_within}
use Rattle.std.proofs.Math.Nat.{mod-lt}
use Rattle.circus_schedule.specs.declared.line.Line.{Line}
use Rattle.circus_schedule.specs.declared.line.Line.TheVariants.{Deliver, Tick, Crash, Down, Join}
use Rattle.circus_schedule.specs.declared.sample.Facts.{Facts}
use Rattle.circus_schedule.specs.Meaning.{NamesBelow}
use Rattle.circus_schedule.specs.Sampling.{step_drawn, draw_line, line_drawn, IsPossible}
use Rattle.circus_world.specs.declared.cause.LineCause.TheVariants.{NoDatagram, NotLive, NotSpare, AlreadyJoined}
use Rattle.circus_world.specs.WorldState.{WorldState, Standing, is_live, has_joined}
use Rattle.circus_world.specs.Legal.{refusal, unless_told, is_spare}
use Rattle.circus_world.proofs.SlotLemmas.{get_there, all_at}
use Rattle.circus_simulation.specs.Sampled.{spares_from, facts_of}
use Rattle.circus_simulation.specs.Seen.Stepping.{NoneCrashed}
use Rattle.circus_simulation.proofs.Spares.{first_left}

-- ---- what is drawn

delivery_below : (sent b : ℕ) → (sent == 0) ≡ false → sent - 1 - b % min sent 32 < sent
delivery_below zero b some = absurd (let clash : true ≡ false = some in cc)
delivery_below (suc sent) b some = omega arith

step_possible : (a b : ℕ) (facts : Facts) → 1 ≤ facts.nodes → IsPossible facts (step_drawn a b facts.sent facts.nodes)
step_possible a b facts some = by_test (nat_le a 7) (facts.sent == 0) refl
  where
    by_test : (early none : Bool) → (facts.sent == 0) ≡ none
        → IsPossible facts (if early || none then Tick (b % facts.nodes) else Deliver (facts.sent - 1 - b % min facts.sent 32))
    by_test true none is = mod-lt b (omega (arith, some))
    by_test false true is = mod-lt b (omega (arith, some))
    by_test false false is = delivery_below facts.sent b is

pub drawn_possible : (word : ℕ) (facts : Facts) → 1 ≤ facts.nodes → IsPossible facts (line_drawn word facts)
drawn_possible word facts some = by_spare facts.spare refl
  where
    by_spare : (spare : Option ℕ) → facts.spare ≡ spare → IsPossible facts (draw_line (word / 2 ^ 33 % 64) (word / 2 ^ 33 / 64) facts.sent facts.nodes spare)
    by_spare None is = step_possible (word / 2 ^ 33 % 64) (word / 2 ^ 33 / 64) facts some
    by_spare (Some spare) is = by_kind (word / 2 ^ 33 % 64 == 0)
      where
        by_kind : (joins : Bool) → IsPossible facts (if joins then Join spare else step_drawn (word / 2 ^ 33 % 64) (word / 2 ^ 33 / 64) facts.sent facts.nodes)
        by_kind true = is
        by_kind false = step_possible (word / 2 ^ 33 % 64) (word / 2 ^ 33 / 64) facts some

-- ---- what may be stepped

first_of : (l : List ℕ) (x : ℕ) → slice_get l 0 ≡ Some x → (rest : List ℕ) × (l ≡ x ∷ rest)
first_of [] x is = absurd (let clash : ◌≡◌ {A = Option ℕ} None (Some x) = is in cc)
first_of (y ∷ l) x is = let same : y ≡ x = cc in (l, ap (λ n. n ∷ l) same)

module _ {M : Type 0} where
  -- a node that is there is live
  live_there : (w : WorldState M) (node : ℕ) (s : Standing M) → NoneCrashed w → slice_get w.nodes node ≡ Some s → is_live w node ≡ true
  live_there w node s none there =
      ap (λ (o : Option (Standing M)). option_map_or (λ (t : Standing M). is_none t.crashed) o false) there
      ∙ ap (λ (o : Option ℕ). is_none o) (all_at (λ (t : Standing M). t.crashed ≡ None) w.nodes node s none there)

  -- the spare that joins
  pub record IsToJoin (w : WorldState M) (node : ℕ) : Type 0 where
    pub s : Standing M
    pub rest : List ℕ
    pub is : spares_from w.deployment 0 w.nodes ≡ node ∷ rest
    pub there : slice_get w.nodes node ≡ Some s
    pub spare_is : is_spare w.deployment node ≡ true
    pub joins : s.joins ≡ false
    -- what is left without it
    pub left : spares_from w.deployment 0 (set w.nodes node (record s { joins = true })) ≡ rest

  pub to_join : (w : WorldState M) (node : ℕ) → slice_get (spares_from w.deployment 0 w.nodes) 0 ≡ Some node → IsToJoin w node
  to_join w node is =
      let found = first_of (spares_from w.deployment 0 w.nodes) node is in
      let lowest = first_left w.deployment 0 w.nodes node found.0 found.1 in
      let place : lowest.place ≡ node = sym (lowest.place_is ∙ zero-add lowest.place) in
      record {
        s = lowest.s;
        rest = found.0;
        is = found.1;
        there = subst (λ n. slice_get w.nodes n ≡ Some lowest.s) place lowest.there;
        spare_is = lowest.spare_is;
        joins = lowest.joins;
        left = subst (λ n. spares_from w.deployment 0 (set w.nodes n (record lowest.s { joins = true })) ≡ found.0) place lowest.left;
      }

  pub named : (w : WorldState M) (line : Line) → IsPossible (facts_of w) line → NamesBelow (length w.nodes) line
  named w (Deliver number) possible = tt
  named w (Tick node) possible = possible
  named w (Crash node) possible = absurd possible
  named w (Down node told) possible = absurd possible
  named w (Join node) possible = let join = to_join w node possible in slice_get_within w.nodes node join.s join.there

  pub legal : (w : WorldState M) (line : Line) → NoneCrashed w → IsPossible (facts_of w) line → refusal w line ≡ None
  legal w (Deliver number) none possible =
      ap (λ t. if t then None else Some (NoDatagram number (length w.sent))) (lt-ltb number (length w.sent) possible)
  legal w (Tick node) none possible =
      let found = get_there w.nodes node possible in
      ap (λ t. if t then None else Some (NotLive node)) (live_there w node found.0 none found.1)
  legal w (Crash node) none possible = absurd possible
  legal w (Down node told) none possible = absurd possible
  legal w (Join node) none possible =
      let join = to_join w node possible in
      let joined : has_joined w node ≡ false = ap (λ (o : Option (Standing M)). option_map_or (λ (t : Standing M). t.joins) o false) join.there ∙ join.joins in
      ap (λ t. if t then (if is_live w node then unless_told w node else Some (NotLive node)) else Some (NotSpare node)) join.spare_is
      ∙ ap (λ t. if t then unless_told w node else Some (NotLive node)) (live_there w node join.s none join.there)
      ∙ ap (λ t. if t then Some (AlreadyJoined node) else None) joined
