-- What a wire sends, hears and suspects is what is owed for its acts.
use Rattle.std.proofs.Common.{◌≡◌, ◌≢◌, ℕ, zero, suc, ◌-◌, ◌<◌, ◌≤◌, true, false, cond, not, ◌&&◌, List, [], ◌∷◌, ◌++◌, length, None, Some, refl, sym, ap, subst, ◌∙◌, arith}
use Rattle.std.specs.Prelude.{slice_get}
use Rattle.std.specs.FinMap.{get}
use Rattle.std.proofs.lemmas.Option.{slice_get-get_or}
use Rattle.circus_segment.specs.Segment.{Piece, IsSegment}
use Rattle.circus_exchange.specs.declared.exchange.Exchange.{Exchange}
use Rattle.circus_exchange.specs.declared.taken.Arrived.{Arrived}
use Rattle.circus_exchange.specs.Limits.{never_used}
use Rattle.circus_exchange.specs.Exchange.{IsSendable, takes, awaits_return, datagrams_of_call, datagrams_of_return, datagrams_after, datagrams_of_tick, is_suspect}
use Rattle.circus_exchange.proofs.Ties.{equal}
use Rattle.circus_pair.specs.Acts.{Act, Call, Return, Came, Tick}
use Rattle.circus_pair.specs.Lawful.{is_stopped_after}
use Rattle.circus_pair.specs.Sending.{outputs, takes_after}
use Rattle.circus_pair.specs.Standing.{arrival_after}
use Rattle.circus_pair.specs.Ticking.{suspects_after}
use Rattle.circus_pair.proofs.Following as following
use Rattle.circus_pair.proofs.Handing.{format_stays}
use Rattle.circus_value.specs.declared.caller.Caller.{Caller}
use Rattle.circus_wire.specs.declared.delivery.Batch.{Batch}
use Rattle.circus_wire.specs.declared.delivery.Heard.{Heard}
use Rattle.circus_wire.specs.declared.delivery.Heard.TheVariants.{Dropped}
use Rattle.circus_wire.specs.Wire.{PeerState, WireState, Beginning, place_of, node_at, peer_at, of_peer, sent_to, heard_by, hear_arrival, batches, suspicion, given_below}
use Rattle.circus_wire.specs.WireActs.{WireAct, WireActs, CallTo, AnswerTo, CameFrom, TickAll, act_at, acts_at, purpose_of, awaits_after}
use Rattle.circus_wire.specs.WireStanding.{pair_of, PeerStands, WireStands, outputs_for, owed_to, heard_after, ticks_below, suspects_below}
use Rattle.circus_wire.proofs.Hearing.{told_alike, unreturned_before}
use Rattle.circus_wire.proofs.Places.{back_at}
use Rattle.circus_wire.proofs.Standing.{down_is}

module _ {P : Type 0} where
  -- a pair that was found stands
  pub found_stands : (b : Beginning) (acts : WireActs P) (w : WireState P) (node : ℕ) (p : PeerState P) → node ≢ w.own → slice_get w.peers (place_of w.own node) ≡ Some p → WireStands w b acts → PeerStands b acts node p
  found_stands b acts w node p differ at stands =
      subst (λ n. PeerStands b acts n p) (ap (λ own. node_at own (place_of w.own node)) (sym stands.own) ∙ back_at w.own node differ) (stands.peers (place_of w.own node) p at)

  pub format_is : (b : Beginning) (acts : WireActs P) (node : ℕ) (p : PeerState P) → PeerStands b acts node p → p.exchange.format ≡ b.format
  format_is b acts node p stands = ap (λ (e : Exchange). e.format) stands.pair.is ∙ format_stays (pair_of b) (acts_at (pair_of b) node acts)

  -- what is sent to a node for an act that is one of its pair
  sent_is : (b : Beginning) (acts : WireActs P) (w : WireState P) (node : ℕ) (p : PeerState P) (act : WireAct P) (here : Act) (given : PeerState P → List (List ℕ)) → peer_at w node ≡ Some p → act_at (pair_of b) node (acts_at (pair_of b) node acts) act ≡ Some here → given p ≡ outputs (pair_of b) (acts_at (pair_of b) node acts) here → sent_to given w node ≡ owed_to b acts act node
  sent_is b acts w node p act here given at is owes =
      ap (λ ds. let x : Batch = record { to = node; datagrams = ds } in x)
      (ap (of_peer [] given) at ∙ owes ∙ sym (ap (outputs_for (pair_of b) (acts_at (pair_of b) node acts)) is))

  pub call_owed : (b : Beginning) (acts : WireActs P) (w : WireState P) (to : ℕ) (message : List ℕ) (purpose : P) (p : PeerState P) → peer_at w to ≡ Some p → IsSendable p.exchange.format message → p.exchange.stopped ≡ false → p.exchange.next < never_used → PeerStands b acts to p → sent_to (λ p. datagrams_of_call p.exchange message) w to ≡ owed_to b acts (CallTo to message purpose) to
  call_owed b acts w to message purpose p at sendable up left stands =
      sent_is b acts w to p (CallTo to message purpose) (Call message) _ at (ap (λ x. cond x (Some (Call message)) None) (equal to)) (following.called_owes p.exchange b.first b.format _ stands.pair message sendable up left)

  pub answer_owed : (b : Beginning) (acts : WireActs P) (w : WireState P) (caller : Caller) (message : List ℕ) (p : PeerState P) → peer_at w caller.node ≡ Some p → awaits_return p.exchange caller.number ≡ true → PeerStands b acts caller.node p → sent_to (λ p. datagrams_of_return p.exchange caller.number message) w caller.node ≡ owed_to b acts (AnswerTo caller message) caller.node
  answer_owed b acts w caller message p at awaits stands =
      sent_is b acts w caller.node p (AnswerTo caller message) (Return caller.number message) _ at
      (ap (λ x. cond (x && awaits_after (pair_of b) (acts_at (pair_of b) caller.node acts) caller.number) (Some (Return caller.number message)) None) (equal caller.node)
      ∙ ap (λ x. cond x (Some (Return caller.number message)) None) (sym (following.awaits_as_owed p.exchange b.first b.format _ stands.pair caller.number) ∙ awaits))
      (following.returned_owes p.exchange b.first b.format _ stands.pair caller.number message)

  pub came_owed : (b : Beginning) (acts : WireActs P) (w : WireState P) (from : ℕ) (s : Piece) (p : PeerState P) → peer_at w from ≡ Some p → IsSegment s → PeerStands b acts from p → sent_to (λ p. datagrams_after p.exchange s) w from ≡ owed_to b acts (CameFrom from s) from
  came_owed b acts w from s p at segment stands =
      sent_is b acts w from p (CameFrom from s) (Came s) _ at (ap (λ x. cond x (Some (Came s)) None) (equal from)) (following.taken_owes p.exchange b.first b.format _ stands.pair s segment)

  -- what is told of a segment is what the acts say
  pub heard_owed : (b : Beginning) (acts : WireActs P) (from : ℕ) (s : Piece) (p : PeerState P) → IsSegment s → PeerStands b acts from p → heard_by p from s ≡ heard_after b acts from s
  heard_owed b acts from s p segment stands =
      let e = pair_of b in
      let here = acts_at e from acts in
      ap (λ (a : Arrived). cond (takes p.exchange s) (hear_arrival (get p.purposes) from a) Dropped) (following.arrives_as_owed p.exchange b.first b.format here stands.pair s segment)
      ∙ ap (λ x. cond x (hear_arrival (get p.purposes) from (arrival_after e here s)) Dropped) (following.takes_as_owed p.exchange b.first b.format here stands.pair s segment)
      ∙ ap (λ (h : Heard P). cond (takes_after e here s) h Dropped)
      (told_alike (get p.purposes) (purpose_of e from acts) from (arrival_after e here s)
      (λ n m is. stands.purposes n ∙ ap (λ x. cond x None (purpose_of e from acts n)) (unreturned_before b.first b.format here s n m segment is)))

  -- ---- a tick

  tick_batches : (b : Beginning) (acts : WireActs P) (node : ℕ) (p : PeerState P) → PeerStands b acts node p → batches node p ≡ cond (is_stopped_after (acts_at (pair_of b) node acts)) [] (owed_to b acts TickAll node ∷ [])
  tick_batches b acts node p stands =
      let e = pair_of b in
      let here = acts_at e node acts in
      let down = is_stopped_after here in
      ap (λ x. cond x [] (let y : Batch = record { to = node; datagrams = datagrams_of_tick p.exchange } in y ∷ [])) (down_is b acts node p stands)
      ∙ elim down as (λ x. down ≡ x → cond x [] (let y : Batch = record { to = node; datagrams = datagrams_of_tick p.exchange } in y ∷ []) ≡ cond x [] (owed_to b acts TickAll node ∷ [])) [
        | true ↦ λ h. refl
        | false ↦ λ h. ap (λ ds. let y : Batch = record { to = node; datagrams = ds } in y ∷ [])
            (following.ticked_owes p.exchange b.first b.format here stands.pair ∙ sym (ap (λ x. outputs_for e here (cond x None (Some Tick))) h))
      ] refl

  tick_suspicion : (b : Beginning) (acts : WireActs P) (node : ℕ) (p : PeerState P) → PeerStands b acts node p → suspicion node p ≡ cond (not (is_stopped_after (acts_at (pair_of b) node acts)) && suspects_after (pair_of b) (acts_at (pair_of b) node acts)) (node ∷ []) []
  tick_suspicion b acts node p stands =
      ap (λ x. cond (not x && is_suspect p.exchange) (node ∷ []) []) (down_is b acts node p stands)
      ∙ ap (λ x. cond (not (is_stopped_after (acts_at (pair_of b) node acts)) && x) (node ∷ []) []) (following.suspects_as_owed p.exchange b.first b.format _ stands.pair)

  at_place : {X : Type 0} (w : WireState P) (b : Beginning) (acts : WireActs P) (given : ℕ → PeerState P → List X) (owed : ℕ → List X) → ((node : ℕ) (p : PeerState P) → PeerStands b acts node p → given node p ≡ owed node) → WireStands w b acts → (place : ℕ) → place < length w.peers → of_peer [] (given (node_at w.own place)) (slice_get w.peers place) ≡ owed (node_at b.own place)
  at_place w b acts given owed same stands place less =
      ap (λ own. of_peer [] (given (node_at own place)) (slice_get w.peers place)) stands.own
      ∙ there w.peers refl less (stands.peers place)
    where
      there : (ps : List (PeerState P)) → ps ≡ w.peers → place < length ps → ((p : PeerState P) → slice_get ps place ≡ Some p → PeerStands b acts (node_at b.own place) p) → of_peer [] (given (node_at b.own place)) (slice_get ps place) ≡ owed (node_at b.own place)
      there [] is less stood = absurd (omega arith)
      there (q ∷ ps) is less stood =
          let at = slice_get-get_or (q ∷ ps) place q less in
          ap (of_peer [] (given (node_at b.own place))) at ∙ same (node_at b.own place) _ (stood _ at)

  ticks_are : (w : WireState P) (b : Beginning) (acts : WireActs P) → WireStands w b acts → (n : ℕ) → n ≤ length w.peers → given_below batches w n ≡ ticks_below b acts n
  unfolding given_below ticks_below
  ticks_are w b acts stands zero le = refl
  ticks_are w b acts stands (suc n) le =
      ap (λ xs. xs ++ of_peer [] (batches (node_at w.own n)) (slice_get w.peers n)) (ticks_are w b acts stands n (omega arith))
      ∙ ap (λ xs. ticks_below b acts n ++ xs) (at_place w b acts batches (λ node. cond (is_stopped_after (acts_at (pair_of b) node acts)) [] (owed_to b acts TickAll node ∷ [])) (tick_batches b acts) stands n (omega arith))

  suspects_are : (w : WireState P) (b : Beginning) (acts : WireActs P) → WireStands w b acts → (n : ℕ) → n ≤ length w.peers → given_below suspicion w n ≡ suspects_below b acts n
  unfolding given_below suspects_below
  suspects_are w b acts stands zero le = refl
  suspects_are w b acts stands (suc n) le =
      ap (λ xs. xs ++ of_peer [] (suspicion (node_at w.own n)) (slice_get w.peers n)) (suspects_are w b acts stands n (omega arith))
      ∙ ap (λ xs. suspects_below b acts n ++ xs) (at_place w b acts suspicion (λ node. cond (not (is_stopped_after (acts_at (pair_of b) node acts)) && suspects_after (pair_of b) (acts_at (pair_of b) node acts)) (node ∷ []) []) (tick_suspicion b acts) stands n (omega arith))

  pub tick_owed : (w : WireState P) (b : Beginning) (acts : WireActs P) → WireStands w b acts → given_below batches w (length w.peers) ≡ ticks_below b acts (b.nodes - 1)
  tick_owed w b acts stands = ticks_are w b acts stands (length w.peers) (omega arith) ∙ ap (ticks_below b acts) stands.nodes

  pub suspects_owed : (w : WireState P) (b : Beginning) (acts : WireActs P) → WireStands w b acts → given_below suspicion w (length w.peers) ≡ suspects_below b acts (b.nodes - 1)
  suspects_owed w b acts stands = suspects_are w b acts stands (length w.peers) (omega arith) ∙ ap (suspects_below b acts) stands.nodes
