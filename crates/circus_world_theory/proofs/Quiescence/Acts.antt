-- What a node's step adds at its pairs: purposes, returns, and what arrives.
use Rattle.std.proofs.Common.{◌≡◌, ◌≢◌, ◌⊎◌, inl, inr, ℕ, zero, suc, ◌+◌, ◌≤◌, Bool, true, false, cond, ◌&&◌, eqb, List, [], ◌∷◌, map, Option, None, Some, IsSome, Ok, refl, sym, ap, subst, ◌∙◌, arith, eq-eqb}
use Rattle.std.specs.Prelude.{slice_get, is_some, if◌then◌else◌}
use Rattle.std.proofs.lemmas.Bool.{eqb-true, ne_eqb}
use Rattle.std.proofs.lemmas.Bool.Decides.{eqb_tells}
use Rattle.std.proofs.lemmas.Option.{same_Some}
use Rattle.circus_value.specs.Among.{is_among}
use Rattle.circus_value.specs.declared.caller.Caller.{Caller}
use Rattle.circus_segment.specs.Segment.{Piece, IsSegment}
use Rattle.circus_exchange.specs.Exchange.{start}
use Rattle.circus_exchange.specs.declared.taken.Arrived.{Arrived}
use Rattle.circus_exchange.specs.declared.taken.Arrived.TheVariants.{Nothing, ArrivedCall, ArrivedReturn}
use Rattle.circus_pair.specs.Taken.{has_arrived, message_in}
use Rattle.circus_pair.specs.Acts.{Act, Call, Return, Came, Tick, Stop, Acts, more, taken_by, arrival_by}
use Rattle.circus_pair.specs.Handed.{calls_made as made_, return_at}
use Rattle.circus_pair.specs.Lawful.{AreLawful}
use Rattle.circus_pair.specs.Sending.{takes_after}
use Rattle.circus_pair.specs.TwoEnds.{with_act}
use Rattle.circus_wire.specs.declared.delivery.Heard.TheVariants as heard
use Rattle.circus_wire.specs.Wire.{WireState, Beginning, IsOther, hear_arrival, told_return, heard_from}
use Rattle.circus_wire.specs.WireActs.{WireAct, WireActs, followed_by, CallTo, AnswerTo, CameFrom, act_at, acts_at, awaits_after, made_to, purpose_of}
use Rattle.circus_wire.specs.WireStanding.{WireStands, pair_of}
use Rattle.circus_wire.proofs.Histories.{purpose_at, purpose_stays, return_finds}
use Rattle.circus_wire.proofs.Performing.{came_tells}
use Rattle.circus_member_rules.specs.declared.occurrence.Purpose.{Purpose}
use Rattle.circus_member_rules.specs.declared.occurrence.Effect.{Effect}
use Rattle.circus_member_rules.specs.declared.occurrence.Effect.TheVariants as made
use Rattle.circus_world_theory.specs.NodeActs.{with_all}
use Rattle.circus_world_theory.specs.Made.{act_of}
use Rattle.circus_world_theory.proofs.Border.Handing.{AreReturns, is_same}
use Rattle.circus_world_theory.proofs.Border.Waiting.{is_caller, one_if, answered_in}
use Rattle.circus_world_theory.proofs.Quiescence.Hearing.{brings}
use Rattle.circus_world_theory.proofs.Quiescence.Once.{AreApart, targets, neither}

module _ (b : Beginning) where
  -- ---- purposes

  pub purposes_stay : (acts : WireActs Purpose) (later : List (WireAct Purpose)) (node n : ℕ) (p : Purpose) → purpose_of (pair_of b) node acts n ≡ Some p → purpose_of (pair_of b) node (with_all acts later) n ≡ Some p
  purposes_stay acts [] node n p is = is
  purposes_stay acts (act ∷ later) node n p is = purposes_stay (followed_by acts act) later node n p (purpose_stays b acts act node n p is)

  -- a call that is made has one
  pub made_purpose : (acts : WireActs Purpose) (effects : List Effect) (place node : ℕ) (message : List ℕ) (p : Purpose) → slice_get effects place ≡ Some (made.Call node message p)
      → (k : ℕ) × (purpose_of (pair_of b) node (with_all acts (map act_of effects)) k ≡ Some p)
  made_purpose acts [] place node message p is = absurd (let clash : ◌≡◌ {A = Option Effect} None (Some (made.Call node message p)) = is in cc)
  made_purpose acts (e ∷ effects) zero node message p is =
      let same : e ≡ made.Call node message p = same_Some e (made.Call node message p) is in
      let act : WireAct Purpose = CallTo node message p in (
        b.first + made_to node acts,
        subst (λ x. purpose_of (pair_of b) node (with_all (followed_by acts x) (map act_of effects)) (b.first + made_to node acts) ≡ Some p) (ap act_of (sym same))
            (purposes_stay (followed_by acts act) (map act_of effects) node (b.first + made_to node acts) p (purpose_at b acts node message p)),
      )
  made_purpose acts (e ∷ effects) (suc place) node message p is = made_purpose (followed_by acts (act_of e)) effects place node message p is

  -- and there is none without
  pub purpose_from : (acts : WireActs Purpose) (effects : List Effect) (node k : ℕ) (p : Purpose) → purpose_of (pair_of b) node (with_all acts (map act_of effects)) k ≡ Some p
      → (purpose_of (pair_of b) node acts k ≡ Some p) ⊎ ((place : ℕ) × (message : List ℕ) × (slice_get effects place ≡ Some (made.Call node message p)))
  purpose_from acts [] node k p is = inl is
  purpose_from acts (made.Answer caller message ∷ effects) node k p is = elim (purpose_from (followed_by acts (AnswerTo caller message)) effects node k p is) [
    | inl old ↦ inl old
    | inr new ↦ inr (suc new.0, new.1, new.2)
  ]
  purpose_from acts (made.Call to message purpose ∷ effects) node k p is = elim (purpose_from (followed_by acts (CallTo to message purpose)) effects node k p is) [
    | inl old ↦ by_node (eqb to node) (eqb k (b.first + made_ (acts_at (pair_of b) node acts))) refl old
    | inr new ↦ inr (suc new.0, new.1, new.2)
  ]
    where
      by_node : (x y : Bool) → eqb to node ≡ x → cond (x && y) (Some purpose) (purpose_of (pair_of b) node acts k) ≡ Some p
          → (purpose_of (pair_of b) node acts k ≡ Some p) ⊎ ((place : ℕ) × (message_ : List ℕ) × (slice_get (made.Call to message purpose ∷ effects) place ≡ Some (made.Call node message_ p)))
      by_node true true here old =
          let same : purpose ≡ p = same_Some purpose p old in
          let at : to ≡ node = eqb-true to node here in
          inr (0, message, λ i. Some (made.Call (at i) message (same i)))
      by_node true false here old = inl old
      by_node false y here old = inl old

  -- ---- a node that is called once at most

  -- a call to a node that is not among those that are called was made before
  called_before : (acts : WireActs Purpose) (effects : List Effect) (node k : ℕ) (p : Purpose) → is_among (targets effects) node ≡ false → purpose_of (pair_of b) node (with_all acts (map act_of effects)) k ≡ Some p
      → purpose_of (pair_of b) node acts k ≡ Some p
  called_before acts [] node k p none is = is
  called_before acts (made.Answer caller message ∷ effects) node k p none is = called_before (followed_by acts (AnswerTo caller message)) effects node k p none is
  called_before acts (made.Call to message purpose ∷ effects) node k p none is =
      let parts = neither (eqb to node) (is_among (targets effects) node) none in
      let before = called_before (followed_by acts (CallTo to message purpose)) effects node k p parts.1 is in
      sym (ap (λ x. cond (x && eqb k (b.first + made_ (acts_at (pair_of b) node acts))) (Some purpose) (purpose_of (pair_of b) node acts k)) parts.0) ∙ before

  made_still : (here : Acts) (x : Bool) (call : ℕ) (message : List ℕ) → made_ (with_act here (cond x (Some (Return call message)) None)) ≡ made_ here
  unfolding made_
  made_still here true call message = refl
  made_still here false call message = refl

  -- a new call to it has the next number
  pub purpose_next : (acts : WireActs Purpose) (effects : List Effect) (node k : ℕ) (p : Purpose) → AreApart (targets effects) → purpose_of (pair_of b) node (with_all acts (map act_of effects)) k ≡ Some p
      → (purpose_of (pair_of b) node acts k ≡ Some p) ⊎ (k ≡ b.first + made_ (acts_at (pair_of b) node acts))
  purpose_next acts [] node k p apart is = inl is
  purpose_next acts (made.Answer caller message ∷ effects) node k p apart is = elim (purpose_next (followed_by acts (AnswerTo caller message)) effects node k p apart is) [
    | inl old ↦ inl old
    | inr new ↦ inr (new ∙ ap (λ n. b.first + n) (made_still (acts_at (pair_of b) node acts) (eqb caller.node node && awaits_after (pair_of b) (acts_at (pair_of b) node acts) caller.number) caller.number message))
  ]
  purpose_next acts (made.Call to message purpose ∷ effects) node k p apart is = elim (eqb_tells to node) [
    | inl same ↦
        by_number (eqb to node) (eqb k (b.first + made_ (acts_at (pair_of b) node acts))) refl
        (called_before (followed_by acts (CallTo to message purpose)) effects node k p (subst (λ n. is_among (targets effects) n ≡ false) same.1 apart.0) is)
    | inr differ ↦ elim (purpose_next (followed_by acts (CallTo to message purpose)) effects node k p apart.1 is) [
      | inl old ↦ inl (sym (ap (λ x. cond (x && eqb k (b.first + made_ (acts_at (pair_of b) node acts))) (Some purpose) (purpose_of (pair_of b) node acts k)) differ.0) ∙ old)
      | inr new ↦ inr (new ∙ ap (λ x. b.first + made_ (with_act (acts_at (pair_of b) node acts) (cond x (Some (Call message)) None))) differ.0)
    ]
  ]
    where
      by_number : (x y : Bool) → eqb k (b.first + made_ (acts_at (pair_of b) node acts)) ≡ y → cond (x && y) (Some purpose) (purpose_of (pair_of b) node acts k) ≡ Some p
          → (purpose_of (pair_of b) node acts k ≡ Some p) ⊎ (k ≡ b.first + made_ (acts_at (pair_of b) node acts))
      by_number true true at old = inr (eqb-true k (b.first + made_ (acts_at (pair_of b) node acts)) at)
      by_number true false at old = inl old
      by_number false y at old = inl old

  -- ---- returns

  returned_more : (here : Acts) (o : Option Act) (n : ℕ) → is_some (return_at here n) ≡ true → is_some (return_at (with_act here o) n) ≡ true
  unfolding return_at
  returned_more here None n is = is
  returned_more here (Some (Return call message)) n is = elim (eqb n call) as (λ x. is_some (cond x (Some message) (return_at here n)) ≡ true) [ true ↦ refl | false ↦ is ]
  returned_more here (Some (Call message)) n is = is
  returned_more here (Some (Came s)) n is = is
  returned_more here (Some Tick) n is = is
  returned_more here (Some Stop) n is = is

  pub returns_stay : (acts : WireActs Purpose) (later : List (WireAct Purpose)) (c : Caller) → is_some (return_at (acts_at (pair_of b) c.node acts) c.number) ≡ true
      → is_some (return_at (acts_at (pair_of b) c.node (with_all acts later)) c.number) ≡ true
  returns_stay acts [] c is = is
  returns_stay acts (act ∷ later) c is =
      returns_stay (followed_by acts act) later c (returned_more (acts_at (pair_of b) c.node acts) (act_at (pair_of b) c.node (acts_at (pair_of b) c.node acts) act) c.number is)

  returned_now : (here : Acts) (n : ℕ) (message : List ℕ) → is_some (return_at (more here (Return n message)) n) ≡ true
  unfolding return_at
  returned_now here n message = ap (λ x. is_some (cond x (Some message) (return_at here n))) (eq-eqb n n refl)

  -- a caller that is answered has its return
  pub answered_returned : (acts : WireActs Purpose) (effects : List Effect) (c : Caller) → AreReturns b acts effects → 1 ≤ answered_in c effects
      → is_some (return_at (acts_at (pair_of b) c.node (with_all acts (map act_of effects))) c.number) ≡ true
  answered_returned acts [] c are some = absurd (omega (arith, some))
  answered_returned acts (made.Call to message purpose ∷ effects) c are some = answered_returned (followed_by acts (CallTo to message purpose)) effects c are some
  answered_returned acts (made.Answer caller message ∷ effects) c are some = by_caller (answered_returned (followed_by acts (AnswerTo caller message)) effects c are.1) (is_caller c caller) refl some
    where
      by_caller : (1 ≤ answered_in c effects → is_some (return_at (acts_at (pair_of b) c.node (with_all (followed_by acts (AnswerTo caller message)) (map act_of effects))) c.number) ≡ true)
          → (same : Bool) → is_caller c caller ≡ same → 1 ≤ one_if same + answered_in c effects
          → is_some (return_at (acts_at (pair_of b) c.node (with_all (followed_by acts (AnswerTo caller message)) (map act_of effects))) c.number) ≡ true
      by_caller rest true same more_ =
          let one : c ≡ caller = is_same c caller same in
          returns_stay (followed_by acts (AnswerTo caller message)) (map act_of effects) c
          (subst (λ (x : Caller). is_some (return_at (acts_at (pair_of b) x.node (followed_by acts (AnswerTo caller message))) x.number) ≡ true) (sym one)
          (subst (λ o. is_some (return_at (with_act (acts_at (pair_of b) caller.node acts) o) caller.number) ≡ true) (sym are.0) (returned_now (acts_at (pair_of b) caller.node acts) caller.number message)))
      by_caller rest false differs more_ = rest (omega (arith, more_))

  -- ---- what has arrived

  arrived_on : (here : Acts) (x : Bool) (a : Act) (kind n : ℕ) → taken_by (pair_of b) (more here a) ≡ taken_by (pair_of b) here → has_arrived (taken_by (pair_of b) (with_act here (cond x (Some a) None))) kind n ≡ has_arrived (taken_by (pair_of b) here) kind n
  arrived_on here true a kind n same = ap (λ ts. has_arrived ts kind n) same
  arrived_on here false a kind n same = refl

  -- nothing arrives by what is handed over
  pub handed_arrived : (acts : WireActs Purpose) (effects : List Effect) (node kind n : ℕ)
      → has_arrived (taken_by (pair_of b) (acts_at (pair_of b) node (with_all acts (map act_of effects)))) kind n ≡ has_arrived (taken_by (pair_of b) (acts_at (pair_of b) node acts)) kind n
  handed_arrived acts [] node kind n = refl
  handed_arrived acts (made.Call to message purpose ∷ effects) node kind n =
      handed_arrived (followed_by acts (CallTo to message purpose)) effects node kind n ∙ arrived_on (acts_at (pair_of b) node acts) (eqb to node) (Call message) kind n refl
  handed_arrived acts (made.Answer caller message ∷ effects) node kind n =
      handed_arrived (followed_by acts (AnswerTo caller message)) effects node kind n
      ∙ arrived_on (acts_at (pair_of b) node acts) (eqb caller.node node && awaits_after (pair_of b) (acts_at (pair_of b) node acts) caller.number) (Return caller.number message) kind n refl

-- ---- what arrives by a datagram of another node

module _ {format own nodes : ℕ} (w : WireState Purpose) (acts : WireActs Purpose) (stands : WireStands w (record { own = own; nodes = nodes; first = 0; format = format }) acts) (from : ℕ) (other : IsOther w from)
    (lawful : AreLawful 0 format (acts_at (start 0 format) from acts)) where
  abbrev b : Beginning
  b = record { own = own; nodes = nodes; first = 0; format = format }

  abbrev here : ℕ → WireActs Purpose → Acts
  here node a = acts_at (start 0 format) node a

  abbrev arrived : ℕ → WireActs Purpose → ℕ → ℕ → Bool
  arrived node a kind n = has_arrived (taken_by (start 0 format) (here node a)) kind n

  came_here : (s : Piece) → here from (followed_by acts (CameFrom from s)) ≡ more (here from acts) (Came s)
  came_here s = ap (λ x. with_act (here from acts) (cond x (Some (Came s)) None)) (eq-eqb from from refl)

  came_elsewhere : (s : Piece) (node : ℕ) → node ≢ from → here node (followed_by acts (CameFrom from s)) ≡ here node acts
  came_elsewhere s node differs = ap (λ x. with_act (here node acts) (cond x (Some (Came s)) None)) (ne_eqb from node (λ same. differs (sym same)))

  told_so : (s : Piece) (a : Arrived) → IsSegment s → takes_after (start 0 format) (here from acts) s ≡ true → arrival_by (taken_by (start 0 format) (here from acts)) s ≡ a
      → heard_from w from (Ok s) ≡ hear_arrival (purpose_of (start 0 format) from acts) from a
  told_so s a segment taken arrival =
      came_tells b acts w from s s other stands refl segment
      ∙ ap (λ t. if t then hear_arrival (purpose_of (start 0 format) from acts) from (if t then arrival_by (taken_by (start 0 format) (here from acts)) s else Nothing) else heard.Dropped) taken
      ∙ ap (hear_arrival (purpose_of (start 0 format) from acts) from) arrival

  -- a call that had not arrived is heard
  pub call_heard : (s : Piece) (n : ℕ) → IsSegment s → arrived from (followed_by acts (CameFrom from s)) 0 n ≡ true → arrived from acts 0 n ≡ false
      → (message : List ℕ) × (heard_from w from (Ok s) ≡ heard.Called (record { node = from; number = n }) message)
  call_heard s n segment now before =
      let m = message_in (s ∷ taken_by (start 0 format) (here from acts)) s.kind s.call s.total in
      let br = brings format (here from acts) s 0 n (lawful, segment) (subst (λ a. has_arrived (taken_by (start 0 format) a) 0 n ≡ true) (came_here s) now) before in
      (m, told_so s (ArrivedCall n m) segment br.taken br.arrival)

  -- and so is a return
  pub return_heard : (s : Piece) (n : ℕ) → IsSegment s → arrived from (followed_by acts (CameFrom from s)) 1 n ≡ true → arrived from acts 1 n ≡ false
      → (message : List ℕ) × (purpose : Purpose) × (heard_from w from (Ok s) ≡ heard.Returned n purpose message)
  return_heard s n segment now before =
      let m = message_in (s ∷ taken_by (start 0 format) (here from acts)) s.kind s.call s.total in
      let br = brings format (here from acts) s 1 n (lawful, segment) (subst (λ a. has_arrived (taken_by (start 0 format) a) 1 n ≡ true) (came_here s) now) before in
      let found = return_finds b acts from n s m lawful segment (ap (λ t. if t then arrival_by (taken_by (start 0 format) (here from acts)) s else Nothing) br.taken ∙ br.arrival) in
      by_purpose s m (purpose_of (start 0 format) from acts n) refl found (told_so s (ArrivedReturn n m) segment br.taken br.arrival)
    where
      by_purpose : (s : Piece) (m : List ℕ) (o : Option Purpose) → purpose_of (start 0 format) from acts n ≡ o → IsSome o → heard_from w from (Ok s) ≡ told_return n m (purpose_of (start 0 format) from acts n)
          → (message : List ℕ) × (purpose : Purpose) × (heard_from w from (Ok s) ≡ heard.Returned n purpose message)
      by_purpose s m None is some tells = absurd cc
      by_purpose s m (Some p) is some tells = (m, p, tells ∙ ap (told_return n m) is)

  -- nothing arrives of another node, and what arrived stays
  pub arrives_from : (s : Piece) (node kind n : ℕ) → IsSegment s → arrived node (followed_by acts (CameFrom from s)) kind n ≡ true → (node ≢ from) → arrived node acts kind n ≡ true
  arrives_from s node kind n segment now differs = subst (λ a. has_arrived (taken_by (start 0 format) a) kind n ≡ true) (came_elsewhere s node differs) now
