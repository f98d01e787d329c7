-- What a pair stands for after each of its calls, and what it answers.
use Rattle.std.proofs.Common.{◌≡◌, ℕ, ◌+◌, ◌<◌, Bool, true, false, cond, not, ◌&&◌, List, Option, None, Some, refl, sym, ap, subst, ◌∙◌}
use Rattle.std.specs.Prelude.{is_some, OnOk, IfOk, Result, Ok, Err}
use Rattle.circus_exchange.specs.declared.exchange.Exchange.{Exchange}
use Rattle.circus_exchange.specs.declared.taken.Arrived.TheVariants.{Nothing}
use Rattle.circus_segment.specs.Segment.{Piece, IsSegment}
use Rattle.circus_exchange.specs.Limits.{never_used}
use Rattle.circus_exchange.specs.Exchange.{start, IsSendable, send_call, send_return, takes, after, arrived_after, count_tick, awaits_return, is_suspect, datagrams_of_call, datagrams_of_return, datagrams_after, datagrams_of_tick}
use Rattle.circus_pair.specs.Taken.{has_arrived}
use Rattle.circus_pair.specs.Acts.{Call, Return, Came, Tick, Acts, none_yet, more, end_after, taken_by, arrival_by}
use Rattle.circus_pair.specs.Handed.{calls_made, return_at}
use Rattle.circus_pair.specs.Lawful.{is_stopped_after, AreLawful}
use Rattle.circus_pair.specs.Sending.{outputs, takes_after}
use Rattle.circus_pair.specs.Ticking.{suspects_after}
use Rattle.circus_pair.specs.Standing.{StandsFor, arrival_after}
use Rattle.circus_pair.proofs.Dialogue.{dropped}
use Rattle.circus_pair.proofs.Flowing.{flows_after}
use Rattle.circus_pair.proofs.Handing.{format_stays, awaits_is}
use Rattle.circus_pair.proofs.Keeping.{stands_lawful, hands_lawful}
use Rattle.circus_pair.proofs.Outputs.{call_sends, return_sends, came_sends, tick_sends, taken_is}
use Rattle.circus_pair.proofs.Standing.{arrival_is}
use Rattle.circus_pair.proofs.Ticks.{suspicion_is}

module _ {T E : Type 0} where
  -- what holds where a call ends well
  pub ok_both : (r : Result T E) (P Q S : Type 0) → (P → Q → S) → OnOk r P → OnOk r Q → OnOk r S
  ok_both (Ok x) P Q S f p q = f p q
  ok_both (Err e) P Q S f p q = tt

  pub if_ok_both : (r : Result T E) (P : Type 0) (F G : T → Type 0) → (P → (x : T) → F x → G x) → OnOk r P → IfOk r F → IfOk r G
  if_ok_both (Ok x) P F G f p h = f p x h
  if_ok_both (Err e) P F G f p h = tt

pub stands_first : (pair : Exchange) (first format : ℕ) → pair ≡ start first format → StandsFor pair first format none_yet
stands_first pair first format is = record { lawful = tt; is = is }

module _ (pair : Exchange) (first format : ℕ) (acts : Acts) (stands : StandsFor pair first format acts) where
  format_is : pair.format ≡ format
  format_is = ap (λ (e : Exchange). e.format) stands.is ∙ format_stays (start first format) acts

  pub next_is : pair.next ≡ first + calls_made acts
  next_is = ap (λ (e : Exchange). e.next) stands.is ∙ (hands_lawful first format acts stands.lawful).next

  down_is : pair.stopped ≡ is_stopped_after acts
  down_is = ap (λ (e : Exchange). e.stopped) stands.is ∙ (flows_after first format acts stands.lawful).stopped

  pub awaits_as_owed : (call : ℕ) → awaits_return pair call ≡ (has_arrived (taken_by (start first format) acts) 0 call && not (is_some (return_at acts call)))
  awaits_as_owed call =
      ap (λ (e : Exchange). awaits_return e call) stands.is
      ∙ awaits_is first acts _ _ call (stands_lawful first format acts stands.lawful) (hands_lawful first format acts stands.lawful)

  -- ---- a call

  may_call : (message : List ℕ) → IsSendable pair.format message → pair.stopped ≡ false → pair.next < never_used → AreLawful first format (more acts (Call message))
  may_call message sendable up left =
      (stands.lawful, (subst (λ f. IsSendable f message) format_is sendable, subst (λ n. n < never_used) next_is left, sym down_is ∙ up))

  pub stands_called : (new : Exchange) (message : List ℕ) → IsSendable pair.format message → pair.stopped ≡ false → pair.next < never_used → new ≡ send_call pair message → StandsFor new first format (more acts (Call message))
  stands_called new message sendable up left is = record { lawful = may_call message sendable up left; is = is ∙ ap (λ (e : Exchange). send_call e message) stands.is }

  pub called_owes : (message : List ℕ) → IsSendable pair.format message → pair.stopped ≡ false → pair.next < never_used → datagrams_of_call pair message ≡ outputs (start first format) acts (Call message)
  called_owes message sendable up left = ap (λ (e : Exchange). datagrams_of_call e message) stands.is ∙ call_sends first format acts message (may_call message sendable up left)

  -- ---- a return

  split : (a b : Bool) → (a && not b) ≡ true → (a ≡ true) × (b ≡ false)
  split true true h = absurd cc
  split true false h = (refl, refl)
  split false b h = absurd cc

  nothing : (o : Option (List ℕ)) → is_some o ≡ false → o ≡ None
  nothing None h = refl
  nothing (Some m) h = absurd cc

  pub stands_returned : (new : Exchange) (call : ℕ) (message : List ℕ) → IsSendable pair.format message → awaits_return pair call ≡ true → new ≡ send_return pair call message → StandsFor new first format (more acts (Return call message))
  stands_returned new call message sendable awaits is =
      let parts = split _ _ (sym (awaits_as_owed call) ∙ awaits) in
      record {
        lawful = (stands.lawful, (subst (λ f. IsSendable f message) format_is sendable, parts.0, nothing (return_at acts call) parts.1));
        is = is ∙ ap (λ (e : Exchange). send_return e call message) stands.is;
      }

  pub returned_owes : (call : ℕ) (message : List ℕ) → datagrams_of_return pair call message ≡ outputs (start first format) acts (Return call message)
  returned_owes call message = ap (λ (e : Exchange). datagrams_of_return e call message) stands.is ∙ return_sends first format acts call message

  -- ---- a segment

  pub stands_taken : (new : Exchange) (s : Piece) → IsSegment s → new ≡ after pair s → StandsFor new first format (more acts (Came s))
  stands_taken new s segment is = record { lawful = (stands.lawful, segment); is = is ∙ ap (λ (e : Exchange). after e s) stands.is }

  pub taken_owes : (s : Piece) → IsSegment s → datagrams_after pair s ≡ outputs (start first format) acts (Came s)
  taken_owes s segment = ap (λ (e : Exchange). datagrams_after e s) stands.is ∙ came_sends first format acts s (stands.lawful, segment)

  pub takes_as_owed : (s : Piece) → IsSegment s → takes pair s ≡ takes_after (start first format) acts s
  takes_as_owed s segment = ap (λ (e : Exchange). takes e s) stands.is ∙ taken_is first format acts s stands.lawful segment

  pub arrives_as_owed : (s : Piece) → IsSegment s → arrived_after pair s ≡ arrival_after (start first format) acts s
  arrives_as_owed s segment =
      let e = end_after (start first format) acts in
      let ts = taken_by (start first format) acts in
      ap (λ (x : Exchange). arrived_after x s) stands.is
      ∙ elim (takes e s) as (λ b. takes e s ≡ b → arrived_after e s ≡ cond b (arrival_by ts s) Nothing) [
        | true ↦ λ h. arrival_is ts e s (stands_lawful first format acts stands.lawful) segment h
        | false ↦ λ h. dropped e s h
      ] refl
      ∙ ap (λ b. cond b (arrival_by ts s) Nothing) (taken_is first format acts s stands.lawful segment)

  -- ---- a tick, and a stop

  pub stands_ticked : (new : Exchange) → pair.stopped ≡ false → new ≡ count_tick pair → StandsFor new first format (more acts Tick)
  stands_ticked new up is = record { lawful = (stands.lawful, sym down_is ∙ up); is = is ∙ ap count_tick stands.is }

  pub ticked_owes : datagrams_of_tick pair ≡ outputs (start first format) acts Tick
  ticked_owes = ap datagrams_of_tick stands.is ∙ tick_sends first format acts stands.lawful

  pub suspects_as_owed : is_suspect pair ≡ suspects_after (start first format) acts
  suspects_as_owed = ap is_suspect stands.is ∙ suspicion_is first format acts stands.lawful
