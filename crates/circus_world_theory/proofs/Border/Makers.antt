-- Each message that was handed to a pair was made by its node: at boot, or in a step by one of the lines.
use Rattle.std.proofs.Common.{◌≡◌, ◌≢◌, ℕ, suc, ◌+◌, ◌⊎◌, inl, inr, Bool, true, false, cond, ◌&&◌, eqb, if◌then◌else◌, List, [], ◌∷◌, ◌++◌, Option, None, Some, Result, Ok, Err, refl, sym, ap, subst, ◌∙◌, arith}
use Rattle.std.specs.Prelude.{slice_get, Contains, option_and_then, ◌==◌}
use Rattle.std.specs.List.{flat_map}
use Rattle.std.specs.Option.{option_map_or}
use Rattle.std.proofs.lemmas.Bool.{and_parts, eqb-true}
use Rattle.std.proofs.lemmas.Bool.Decides.{eqb_tells}
use Rattle.std.proofs.lemmas.Option.{same_Some}
use Rattle.circus_value.specs.ValueTree.{ValueTree}
use Rattle.circus_value.specs.declared.caller.Caller.{Caller}
use Rattle.circus_value.specs.declared.outcome.Outcome.{Outcome}
use Rattle.circus_segment.specs.Segment.{Piece, reading}
use Rattle.circus_segment.specs.declared.fault.SegmentFault.{SegmentFault}
use Rattle.circus_collate.specs.declared.deployment.Deployment.{Deployment}
use Rattle.circus_model.specs.NextTurn.{NextTurn}
use Rattle.circus_model.specs.declared.signature.Signature.{Signature}
use Rattle.circus_pair.specs.Acts.{Act, Call, Return, Came, Tick, Stop, Acts, more}
use Rattle.circus_pair.specs.Handed.{calls_made, call_at, return_at}
use Rattle.circus_pair.specs.Lawful.{is_stopped_after}
use Rattle.circus_pair.specs.TwoEnds.{with_act}
use Rattle.circus_wire.specs.Wire.{WireState, Beginning, is_up}
use Rattle.circus_wire.specs.WireActs.{WireAct, WireActs, begun, followed_by, CallTo, AnswerTo, CameFrom, TickAll, StopOf, acts_at, awaits_after, purpose_of}
use Rattle.circus_wire.specs.WireStanding.{pair_of}
use Rattle.circus_member_rules.specs.declared.occurrence.Purpose.{Purpose}
use Rattle.circus_member_rules.specs.declared.occurrence.Effect.{Effect}
use Rattle.circus_member_rules.specs.declared.occurrence.Effect.TheVariants as makes
use Rattle.circus_node.specs.declared.event.Event.{Event}
use Rattle.circus_node.specs.declared.event.Event.TheVariants as comes
use Rattle.circus_node.specs.Booting.{home_of, made_at_boot, fresh_wire}
use Rattle.circus_node.specs.Sending.{is_sendable}
use Rattle.circus_schedule.specs.declared.line.Line.{Line}
use Rattle.circus_world.specs.WorldState.{WorldState, Standing}
use Rattle.circus_world.specs.Lines.{Lead}
use Rattle.circus_world_theory.specs.Histories.{beginning_of, comes_by, with_step, with_line, with_lines, with_others, acts_of, acts_between}
use Rattle.circus_world_theory.specs.NodeActs.{with_all, acts_of_datagram, came_by, handed_by, wire_behind, acts_in, acts_at_boot}
use Rattle.circus_node.specs.Trace.{effects_in}
use Rattle.circus_world_theory.specs.Made.{act_of}
use Rattle.circus_world_theory.specs.Made.{WasMade, WasMadeAtAll, CallWasMade}

-- ---- lists

abbrev pub IsIn : {X : Type 0} → List X → X → Type 0
IsIn [] x = ⊥
IsIn (y ∷ ys) x = (y ≡ x) ⊎ IsIn ys x

pub in_both : {X : Type 0} (xs ys : List X) (x : X) → IsIn (xs ++ ys) x → IsIn xs x ⊎ IsIn ys x
in_both [] ys x at = inr at
in_both (y ∷ xs) ys x (inl same) = inl (inl same)
in_both (y ∷ xs) ys x (inr at) = elim (in_both xs ys x at) [ inl first ↦ inl (inr first) | inr second ↦ inr second ]

pub contains : {X : Type 0} (xs : List X) (x : X) → IsIn xs x → Contains xs x
contains [] x at = absurd at
contains (y ∷ xs) x (inl same) = (0, omega arith, same)
contains (y ∷ xs) x (inr at) = let rest = contains xs x at in let within = rest.1 in (suc rest.0, omega (arith, within), rest.2)

pub in_flat_map : {X Y : Type 0} (f : X → List Y) (xs : List X) (y : Y) → IsIn (flat_map f xs) y → (x : X) × IsIn xs x × IsIn (f x) y
in_flat_map f [] y at = absurd at
in_flat_map f (x ∷ xs) y at = elim (in_both (f x) (flat_map f xs) y at) [
  | inl here ↦ (x, inl refl, here)
  | inr later ↦ (let rest = in_flat_map f xs y later in (rest.0, inr rest.1, rest.2))
]

-- ---- what has happened at the pairs

abbrev pub IsAmong : WireActs Purpose → WireAct Purpose → Type 0
IsAmong begun act = ⊥
IsAmong (followed_by acts last) act = IsAmong acts act ⊎ (last ≡ act)

pub among_all : (acts : WireActs Purpose) (later : List (WireAct Purpose)) (act : WireAct Purpose) → IsAmong (with_all acts later) act → IsAmong acts act ⊎ IsIn later act
among_all acts [] act at = inl at
among_all acts (next ∷ later) act at = elim (among_all (followed_by acts next) later act at) [
  | inl before ↦ elim before [ inl there ↦ inl there | inr same ↦ inr (inl same) ]
  | inr behind ↦ inr (inr behind)
]

-- a call was handed over with a purpose
pub record WasCalled (b : Beginning) (acts : WireActs Purpose) (other number : ℕ) (message : List ℕ) : Type 0 where
  pub purpose : Purpose
  pub among : IsAmong acts (CallTo other message purpose)
  pub is_for : purpose_of (pair_of b) other acts number ≡ Some purpose

called_on : (b : Beginning) (acts : WireActs Purpose) (act : WireAct Purpose) (other number : ℕ) (message : List ℕ)
    → purpose_of (pair_of b) other (followed_by acts act) number ≡ purpose_of (pair_of b) other acts number
    → WasCalled b acts other number message → WasCalled b (followed_by acts act) other number message
called_on b acts act other number message same was = record { purpose = was.purpose; among = inl was.among; is_for = same ∙ was.is_for }

unmade : (first : ℕ) (acts : Acts) (test : Bool) (a : Act) (number : ℕ) (message : List ℕ) → call_at first (more acts a) number ≡ call_at first acts number
    → call_at first (with_act acts (cond test (Some a) None)) number ≡ Some message → call_at first acts number ≡ Some message
unmade first acts true a number message same is = sym same ∙ is
unmade first acts false a number message same is = is

pub was_called : (b : Beginning) (acts : WireActs Purpose) (other number : ℕ) (message : List ℕ) → call_at b.first (acts_at (pair_of b) other acts) number ≡ Some message
    → WasCalled b acts other number message
unfolding call_at
was_called b begun other number message is = absurd (let clash : ◌≡◌ {A = Option (List ℕ)} None (Some message) = is in cc)
was_called b (followed_by acts (CallTo to m purpose)) other number message is = by_node (was_called b acts other number message) (eqb_tells to other)
  where
    here : Acts
    here = acts_at (pair_of b) other acts

    by_number : (call_at b.first here number ≡ Some message → WasCalled b acts other number message) → eqb to other ≡ true → to ≡ other
        → ((eqb number (b.first + calls_made here) ≡ true) × (number ≡ b.first + calls_made here)) ⊎ ((eqb number (b.first + calls_made here) ≡ false) × (number ≢ b.first + calls_made here))
        → cond (eqb number (b.first + calls_made here)) (Some m) (call_at b.first here number) ≡ Some message → WasCalled b (followed_by acts (CallTo to m purpose)) other number message
    by_number rest test same (inl one) is =
        let says : m ≡ message = same_Some m message (sym (ap (λ x. cond x (Some m) (call_at b.first here number)) one.0) ∙ is) in
        record {
          purpose = purpose;
          among = inr (λ i. CallTo (same i) (says i) purpose);
          is_for = ap (λ x. cond (x && eqb number (b.first + calls_made here)) (Some purpose) (purpose_of (pair_of b) other acts number)) test
              ∙ ap (λ x. cond x (Some purpose) (purpose_of (pair_of b) other acts number)) one.0;
        }
    by_number rest test same (inr differs) is =
        called_on b acts (CallTo to m purpose) other number message
        (ap (λ x. cond (x && eqb number (b.first + calls_made here)) (Some purpose) (purpose_of (pair_of b) other acts number)) test
        ∙ ap (λ x. cond x (Some purpose) (purpose_of (pair_of b) other acts number)) differs.0)
        (rest (sym (ap (λ x. cond x (Some m) (call_at b.first here number)) differs.0) ∙ is))

    by_node : (call_at b.first here number ≡ Some message → WasCalled b acts other number message)
        → ((eqb to other ≡ true) × (to ≡ other)) ⊎ ((eqb to other ≡ false) × (to ≢ other)) → WasCalled b (followed_by acts (CallTo to m purpose)) other number message
    by_node rest (inl same) = by_number rest same.0 same.1 (eqb_tells number (b.first + calls_made here)) (sym (ap (λ x. call_at b.first (with_act here (cond x (Some (Call m)) None)) number) same.0) ∙ is)
    by_node rest (inr differs) =
        called_on b acts (CallTo to m purpose) other number message (ap (λ x. cond (x && eqb number (b.first + calls_made here)) (Some purpose) (purpose_of (pair_of b) other acts number)) differs.0)
        (rest (sym (ap (λ x. call_at b.first (with_act here (cond x (Some (Call m)) None)) number) differs.0) ∙ is))
was_called b (followed_by acts (AnswerTo caller m)) other number message is =
    let here = acts_at (pair_of b) other acts in
    called_on b acts (AnswerTo caller m) other number message refl
    (was_called b acts other number message (unmade b.first here (eqb caller.node other && awaits_after (pair_of b) here caller.number) (Return caller.number m) number message refl is))
was_called b (followed_by acts (CameFrom from s)) other number message is =
    called_on b acts (CameFrom from s) other number message refl
    (was_called b acts other number message (unmade b.first (acts_at (pair_of b) other acts) (eqb from other) (Came s) number message refl is))
was_called b (followed_by acts TickAll) other number message is =
    called_on b acts TickAll other number message refl (was_called b acts other number message (by_test (is_stopped_after (acts_at (pair_of b) other acts)) is))
  where
    by_test : (t : Bool) → call_at b.first (with_act (acts_at (pair_of b) other acts) (cond t None (Some Tick))) number ≡ Some message
        → call_at b.first (acts_at (pair_of b) other acts) number ≡ Some message
    by_test true is = is
    by_test false is = is
was_called b (followed_by acts (StopOf node)) other number message is =
    called_on b acts (StopOf node) other number message refl
    (was_called b acts other number message (unmade b.first (acts_at (pair_of b) other acts) (eqb node other) Stop number message refl is))

-- and a return
unanswered : (acts : Acts) (test : Bool) (a : Act) (number : ℕ) (message : List ℕ) → return_at (more acts a) number ≡ return_at acts number
    → return_at (with_act acts (cond test (Some a) None)) number ≡ Some message → return_at acts number ≡ Some message
unanswered acts true a number message same is = sym same ∙ is
unanswered acts false a number message same is = is

pub was_answered : (b : Beginning) (acts : WireActs Purpose) (other number : ℕ) (message : List ℕ) → return_at (acts_at (pair_of b) other acts) number ≡ Some message
    → IsAmong acts (AnswerTo (record { node = other; number = number }) message)
unfolding return_at
was_answered b begun other number message is = absurd (let clash : ◌≡◌ {A = Option (List ℕ)} None (Some message) = is in cc)
was_answered b (followed_by acts (CallTo to m purpose)) other number message is =
    inl (was_answered b acts other number message (unanswered (acts_at (pair_of b) other acts) (eqb to other) (Call m) number message refl is))
was_answered b (followed_by acts (AnswerTo caller m)) other number message is =
    by_test (was_answered b acts other number message) (eqb caller.node other && awaits_after (pair_of b) here caller.number) refl is
  where
    here : Acts
    here = acts_at (pair_of b) other acts

    by_number : (return_at here number ≡ Some message → IsAmong acts (AnswerTo (record { node = other; number = number }) message)) → caller.node ≡ other
        → ((eqb number caller.number ≡ true) × (number ≡ caller.number)) ⊎ ((eqb number caller.number ≡ false) × (number ≢ caller.number))
        → cond (eqb number caller.number) (Some m) (return_at here number) ≡ Some message → IsAmong (followed_by acts (AnswerTo caller m)) (AnswerTo (record { node = other; number = number }) message)
    by_number rest node (inl one) is =
        let says : m ≡ message = same_Some m message (sym (ap (λ x. cond x (Some m) (return_at here number)) one.0) ∙ is) in
        inr (λ i. AnswerTo (record { node = node i; number = sym one.1 i }) (says i))
    by_number rest node (inr differs) is = inl (rest (sym (ap (λ x. cond x (Some m) (return_at here number)) differs.0) ∙ is))

    by_test : (return_at here number ≡ Some message → IsAmong acts (AnswerTo (record { node = other; number = number }) message)) → (t : Bool)
        → (eqb caller.node other && awaits_after (pair_of b) here caller.number) ≡ t
        → return_at (with_act here (cond t (Some (Return caller.number m)) None)) number ≡ Some message
        → IsAmong (followed_by acts (AnswerTo caller m)) (AnswerTo (record { node = other; number = number }) message)
    by_test rest true test is = by_number rest (eqb-true caller.node other (and_parts (eqb caller.node other) (awaits_after (pair_of b) here caller.number) test).0) (eqb_tells number caller.number) is
    by_test rest false test is = inl (rest is)
was_answered b (followed_by acts (CameFrom from s)) other number message is =
    inl (was_answered b acts other number message (unanswered (acts_at (pair_of b) other acts) (eqb from other) (Came s) number message refl is))
was_answered b (followed_by acts TickAll) other number message is = inl (was_answered b acts other number message (by_test (is_stopped_after (acts_at (pair_of b) other acts)) is))
  where
    by_test : (t : Bool) → return_at (with_act (acts_at (pair_of b) other acts) (cond t None (Some Tick))) number ≡ Some message
        → return_at (acts_at (pair_of b) other acts) number ≡ Some message
    by_test true is = is
    by_test false is = is
was_answered b (followed_by acts (StopOf node)) other number message is =
    inl (was_answered b acts other number message (unanswered (acts_at (pair_of b) other acts) (eqb node other) Stop number message refl is))

-- ---- what a node hands over it has made

handed_act : (w : WireState Purpose) (e : Effect) (act : WireAct Purpose) → IsIn (handed_by w e) act → act_of e ≡ act
handed_act w (makes.Call to message purpose) act at = by_test (is_up w to && is_sendable w.format message) at
  where
    by_test : (t : Bool) → IsIn (if t then CallTo to message purpose ∷ [] else []) act → CallTo to message purpose ≡ act
    by_test true (inl same) = same
    by_test true (inr none) = absurd none
    by_test false none = absurd none
handed_act w (makes.Answer caller message) act at = by_test (is_sendable w.format message) at
  where
    by_test : (t : Bool) → IsIn (if t then AnswerTo caller message ∷ [] else []) act → AnswerTo caller message ≡ act
    by_test true (inl same) = same
    by_test true (inr none) = absurd none
    by_test false none = absurd none

-- nothing that comes is handed over
pub no_event : (event : Event) (e : Effect) → IsIn (came_by event) (act_of e) → ⊥
no_event (comes.Datagram from bytes) e at = by_segment (reading bytes) e at
  where
    by_segment : (segment : Result Piece SegmentFault) (e : Effect) → IsIn (acts_of_datagram from segment) (act_of e) → ⊥
    by_segment (Ok s) (makes.Call to message purpose) (inl same) = (let clash : ◌≡◌ {A = WireAct Purpose} (CameFrom from s) (CallTo to message purpose) = same in cc)
    by_segment (Ok s) (makes.Answer caller message) (inl same) = (let clash : ◌≡◌ {A = WireAct Purpose} (CameFrom from s) (AnswerTo caller message) = same in cc)
    by_segment (Ok s) e (inr none) = none
    by_segment (Err fault) e none = none
no_event comes.Tick (makes.Call to message purpose) (inl same) = (let clash : ◌≡◌ {A = WireAct Purpose} TickAll (CallTo to message purpose) = same in cc)
no_event comes.Tick (makes.Answer caller message) (inl same) = (let clash : ◌≡◌ {A = WireAct Purpose} TickAll (AnswerTo caller message) = same in cc)
no_event comes.Tick e (inr none) = none
no_event (comes.Down node) (makes.Call to message purpose) (inl same) = (let clash : ◌≡◌ {A = WireAct Purpose} (StopOf node) (CallTo to message purpose) = same in cc)
no_event (comes.Down node) (makes.Answer caller message) (inl same) = (let clash : ◌≡◌ {A = WireAct Purpose} (StopOf node) (AnswerTo caller message) = same in cc)
no_event (comes.Down node) e (inr none) = none
no_event comes.Join e none = none

same_effect : (e other : Effect) → act_of e ≡ act_of other → e ≡ other
same_effect (makes.Call to message purpose) (makes.Call to_ message_ purpose_) same = calls to to_ message message_ purpose purpose_ same
  where
    calls : (a b : ℕ) (m n : List ℕ) (p q : Purpose) → ◌≡◌ {A = WireAct Purpose} (CallTo a m p) (CallTo b n q) → ◌≡◌ {A = Effect} (makes.Call a m p) (makes.Call b n q)
    calls a b m n p q same = let one : a ≡ b = cc in let two : m ≡ n = cc in let three : p ≡ q = cc in λ i. makes.Call (one i) (two i) (three i)
same_effect (makes.Call to message purpose) (makes.Answer caller message_) same = absurd (let clash : ◌≡◌ {A = WireAct Purpose} (CallTo to message purpose) (AnswerTo caller message_) = same in cc)
same_effect (makes.Answer caller message) (makes.Call to message_ purpose) same = absurd (let clash : ◌≡◌ {A = WireAct Purpose} (AnswerTo caller message) (CallTo to message_ purpose) = same in cc)
same_effect (makes.Answer caller message) (makes.Answer other message_) same = returns caller other message message_ same
  where
    returns : (a b : Caller) (m n : List ℕ) → ◌≡◌ {A = WireAct Purpose} (AnswerTo a m) (AnswerTo b n) → ◌≡◌ {A = Effect} (makes.Answer a m) (makes.Answer b n)
    returns a b m n same = let one : a ≡ b = cc in let two : m ≡ n = cc in λ i. makes.Answer (one i) (two i)

-- what is handed over is among what was made
pub in_effects : (w : WireState Purpose) (effects : List Effect) (e : Effect) → IsIn (flat_map (handed_by w) effects) (act_of e) → IsIn effects e
in_effects w effects e at =
    let found = in_flat_map (handed_by w) effects (act_of e) at in
    subst (IsIn effects) (same_effect found.0 e (handed_act w found.0 (act_of e) found.2)) found.1

made_effect : (w : WireState Purpose) (effects : List Effect) (e : Effect) → IsIn (flat_map (handed_by w) effects) (act_of e) → Contains effects e
made_effect w effects e at = contains effects e (in_effects w effects e at)

-- ---- by a line

module _ {M : Type 0} (declared : M → Signature) (turn : M → List ValueTree → ℕ → List ValueTree → List Outcome → NextTurn) where
  -- it was handed over before the lines, or by one of them
  abbrev WasHanded : ℕ → WireActs Purpose → List Line → WorldState M → Effect → Type 0
  WasHanded node acts lines w e = IsAmong acts (act_of e) ⊎ WasMade declared turn node lines w e

  first_line : (node : ℕ) (acts : WireActs Purpose) (line : Line) (lines : List Line) (w : WorldState M) (e : Effect)
      → IsAmong (with_line declared turn node acts line w) (act_of e) → WasHanded node acts (line ∷ lines) w e
  first_line node acts line lines w e at = by_event (comes_by line w) refl at
    where
      made_here : (event : Event) → comes_by line w ≡ Some (node, event) → (s : Standing M) → slice_get w.nodes node ≡ Some s
          → IsIn (acts_in declared turn (w.steps + 1) event s.node) (act_of e) → WasMade declared turn node (line ∷ lines) w e
      made_here event comes_it s there at =
          elim (in_both (came_by event) (flat_map (handed_by (wire_behind event s.node)) (effects_in declared turn (w.steps + 1) event s.node)) (act_of e) at) [
            | inl came ↦ absurd (no_event event e came)
            | inr handed ↦ record {
              step = record { before = []; line = line; behind = lines; lines_are = refl; world = w; lead = refl; event = event; standing = s; comes_it = comes_it; there = there };
              made_it = made_effect (wire_behind event s.node) (effects_in declared turn (w.steps + 1) event s.node) e handed;
            }
          ]

      by_standing : (event : Event) → comes_by line w ≡ Some (node, event) → (o : Option (Standing M)) → slice_get w.nodes node ≡ o
          → IsAmong (option_map_or (λ (s : Standing M). with_all acts (acts_in declared turn (w.steps + 1) event s.node)) o acts) (act_of e) → WasHanded node acts (line ∷ lines) w e
      by_standing event comes_it None none at = inl at
      by_standing event comes_it (Some s) some at = elim (among_all acts (acts_in declared turn (w.steps + 1) event s.node) (act_of e) at) [
        | inl earlier ↦ inl earlier
        | inr now ↦ inr (made_here event comes_it s some now)
      ]

      by_node : (other : ℕ) (event : Event) → comes_by line w ≡ Some (other, event) → ((eqb other node ≡ true) × (other ≡ node)) ⊎ ((eqb other node ≡ false) × (other ≢ node))
          → IsAmong (if other == node then option_map_or (λ (s : Standing M). with_all acts (acts_in declared turn (w.steps + 1) event s.node)) (slice_get w.nodes node) acts else acts) (act_of e) → WasHanded node acts (line ∷ lines) w e
      by_node other event comes_it (inl same) at =
          by_standing event (comes_it ∙ ap (λ n. Some (n, event)) same.1) (slice_get w.nodes node) refl
          (subst (λ b. IsAmong (if b then option_map_or (λ (s : Standing M). with_all acts (acts_in declared turn (w.steps + 1) event s.node))
          (slice_get w.nodes node) acts else acts) (act_of e)) same.0 at)
      by_node other event comes_it (inr differs) at =
          inl (subst (λ b. IsAmong (if b then option_map_or (λ (s : Standing M). with_all acts (acts_in declared turn (w.steps + 1) event s.node))
          (slice_get w.nodes node) acts else acts) (act_of e)) differs.0 at)

      by_event : (o : Option (ℕ × Event)) → comes_by line w ≡ o → IsAmong (option_map_or (with_step declared turn node acts w) o acts) (act_of e)
          → WasHanded node acts (line ∷ lines) w e
      by_event None none at = inl at
      by_event (Some came) some at = by_node came.0 came.1 some (eqb_tells came.0 node) at

  pub made_by_lines : (node : ℕ) (acts : WireActs Purpose) (lines : List Line) (w last : WorldState M) (e : Effect) → Lead declared turn lines w last
      → IsAmong (with_lines declared turn node acts lines w) (act_of e) → WasHanded node acts lines w e
  made_by_lines node acts [] w last e lead at = inl at
  made_by_lines node acts (line ∷ lines) w last e lead at =
      let next : WorldState M = lead.0 in
      let behind_it = with_line declared turn node acts line w in
      let at_ : IsAmong (with_lines declared turn node behind_it lines next) (act_of e) =
      subst (λ (x : WireActs Purpose). IsAmong x (act_of e)) (ap (with_others (with_lines declared turn node behind_it lines) acts) lead.1.stepped_is) at in
      elim (made_by_lines node behind_it lines next last e lead.2 at_) [
        | inl first ↦ first_line node acts line lines w e first
        | inr later ↦ inr (record {
          step = record {
            before = line ∷ later.step.before;
            line = later.step.line;
            behind = later.step.behind;
            lines_are = ap (λ ls. line ∷ ls) later.step.lines_are;
            world = later.step.world;
            lead = (next, lead.1, later.step.lead);
            event = later.step.event;
            standing = later.step.standing;
            comes_it = later.step.comes_it;
            there = later.step.there;
          };
          made_it = later.made_it;
        })
      ]

module _ {M : Type 0} (declared : M → Signature) (turn : M → List ValueTree → ℕ → List ValueTree → List Outcome → NextTurn) (first : M → List ValueTree) (d : Deployment)
    (hosted : List (Option M)) where
  made_at_all : (node : ℕ) (lines : List Line) (booted last : WorldState M) (e : Effect) → Lead declared turn lines booted last
      → IsAmong (acts_of declared turn first d hosted lines booted node) (act_of e) → WasMadeAtAll declared turn first d hosted node lines booted e
  made_at_all node lines booted last e lead at = elim (made_by_lines declared turn node _ lines booted last e lead at) [
    | inl boot ↦ elim (among_all begun (acts_at_boot declared turn first d (option_and_then (λ own. own) (slice_get hosted node)) node) (act_of e) boot) [
      | inl none ↦ absurd none
      | inr here ↦ inl (made_effect (fresh_wire d node) (made_at_boot declared turn first d (home_of d node) (option_and_then (λ own. own) (slice_get hosted node))).came.effects e here)
    ]
    | inr later ↦ inr later
  ]

  pub call_was_made : (node other number : ℕ) (message : List ℕ) (lines : List Line) (booted last : WorldState M) → Lead declared turn lines booted last
      → call_at 0 (acts_between declared turn first d hosted lines booted node other) number ≡ Some message → CallWasMade declared turn first d hosted node other number message lines booted
  call_was_made node other number message lines booted last lead is =
      let was = was_called (beginning_of d node) (acts_of declared turn first d hosted lines booted node) other number message is in
      record { purpose = was.purpose; is_for = was.is_for; made_it = made_at_all node lines booted last (makes.Call other message was.purpose) lead was.among }

  -- and so was a return
  pub return_was_made : (node other number : ℕ) (message : List ℕ) (lines : List Line) (booted last : WorldState M) → Lead declared turn lines booted last
      → return_at (acts_between declared turn first d hosted lines booted node other) number ≡ Some message
      → WasMadeAtAll declared turn first d hosted node lines booted (makes.Answer (record { node = other; number = number }) message)
  return_was_made node other number message lines booted last lead is =
      made_at_all node lines booted last (makes.Answer (record { node = other; number = number }) message) lead
      (was_answered (beginning_of d node) (acts_of declared turn first d hosted lines booted node) other number message is)
