-- What holds of every list of acts.
use Rattle.std.proofs.Common.{◌≡◌, ◌≢◌, ℕ, ◌+◌, ◌<◌, ◌≤◌, Bool, true, false, cond, not, ◌&&◌, eqb, List, [], ◌++◌, Option, None, Some, refl, sym, ap, ◌∙◌, inl, inr, arith}
use Rattle.std.specs.Prelude.{is_some, IsSome, count_by, slice_get}
use Rattle.std.proofs.lemmas.Bool.{ne_eqb}
use Rattle.std.proofs.lemmas.Bool.Decides.{eqb_tells}
use Rattle.std.proofs.lemmas.List.{append-nil}
use Rattle.circus_segment.specs.Segment.{Piece, IsSegment}
use Rattle.circus_exchange.specs.declared.exchange.Exchange.{Exchange}
use Rattle.circus_exchange.specs.declared.taken.Arrived.TheVariants.{ArrivedReturn}
use Rattle.circus_exchange.specs.Exchange.{start}
use Rattle.circus_exchange.proofs.Ties.{equal}
use Rattle.circus_pair.specs.Taken.{has_arrived}
use Rattle.circus_pair.specs.Acts.{Act, Call, Return, Came, Tick, Stop, Acts, more, end_after, taken_by}
use Rattle.circus_pair.specs.Handed.{calls_made, call_at}
use Rattle.circus_pair.specs.Lawful.{AreLawful, is_stopped_after}
use Rattle.circus_pair.specs.Standing.{arrival_after}
use Rattle.circus_pair.specs.Sending.{outputs}
use Rattle.circus_pair.specs.TwoEnds.{with_act, sent_by, datagrams_by, arrived_in, Arrival, arrivals_of}
use Rattle.circus_pair.proofs.Following as following
use Rattle.circus_pair.proofs.OneEnd.{arrived_once, arrived_stays}
use Rattle.circus_pair.proofs.Outputs.{call_sends, return_sends, came_sends, tick_sends}
use Rattle.circus_value.specs.declared.caller.Caller.{Caller}
use Rattle.circus_wire.specs.Wire.{PeerState, WireState, Beginning, IsOther, of_peer, peer_at, place_of, is_up, next_number}
use Rattle.circus_wire.specs.WireActs.{WireAct, WireActs, begun, followed_by, CallTo, AnswerTo, CameFrom, TickAll, StopOf, act_at, acts_at, awaits_after, made_to, purpose_of, purpose_kept}
use Rattle.circus_wire.specs.WireStanding.{pair_of, PeerStands, WireStands, outputs_for, owed_to, sent_in, arrived_from}
use Rattle.circus_wire.proofs.Changing.{peer_is}
use Rattle.circus_wire.proofs.Hearing.{unmade_unreturned, unreturned_before, returned_now}
use Rattle.circus_wire.proofs.Owing.{found_stands}
use Rattle.circus_wire.proofs.Performing.{other_peer}
use Rattle.circus_wire.proofs.Standing.{down_is}

-- ---- one act more at a pair

made_with : (acts : Acts) (b : Bool) (a : Act) (n : ℕ) → calls_made acts ≡ n → calls_made (more acts a) ≡ n → calls_made (with_act acts (cond b (Some a) None)) ≡ n
made_with acts true a n still added = added
made_with acts false a n still added = still

made_more : (acts : Acts) (b : Bool) (message : List ℕ) (n : ℕ) → calls_made acts ≡ n → calls_made (with_act acts (cond b (Some (Call message)) None)) ≡ cond b (n + 1) n
unfolding calls_made
made_more acts true message n is = ap (λ k. k + 1) is
made_more acts false message n is = is

made_ticked : (acts : Acts) (b : Bool) (n : ℕ) → calls_made acts ≡ n → calls_made (with_act acts (cond b None (Some Tick))) ≡ n
unfolding calls_made
made_ticked acts true n is = is
made_ticked acts false n is = is

call_with : (first : ℕ) (acts : Acts) (b : Bool) (a : Act) (n : ℕ) → call_at first (more acts a) n ≡ call_at first acts n → call_at first (with_act acts (cond b (Some a) None)) n ≡ call_at first acts n
call_with first acts true a n same = same
call_with first acts false a n same = refl

call_ticked : (first : ℕ) (acts : Acts) (b : Bool) (n : ℕ) → call_at first (with_act acts (cond b None (Some Tick))) n ≡ call_at first acts n
unfolding call_at
call_ticked first acts true n = refl
call_ticked first acts false n = refl

before : (first format : ℕ) (acts : Acts) (o : Option Act) → AreLawful first format (with_act acts o) → AreLawful first format acts
before first format acts None lawful = lawful
before first format acts (Some a) lawful = lawful.0

stays_arrived : (first format : ℕ) (acts : Acts) (o : Option Act) (n : ℕ) → AreLawful first format (with_act acts o) → has_arrived (taken_by (start first format) acts) 1 n ≡ true → has_arrived (taken_by (start first format) (with_act acts o)) 1 n ≡ true
stays_arrived first format acts None n lawful h = h
stays_arrived first format acts (Some a) n lawful h = arrived_stays first format acts a 1 n lawful h

heard_nothing : (e : Exchange) (acts : Acts) (b : Bool) (a : Act) (arrived : List Arrival) → arrived_in e (more acts a) ≡ arrived_in e acts ++ [] → arrived ≡ arrived_in e acts → arrived ≡ arrived_in e (with_act acts (cond b (Some a) None))
heard_nothing e acts true a arrived none is = is ∙ sym (append-nil (arrived_in e acts)) ∙ sym none
heard_nothing e acts false a arrived none is = is

heard_tick : (e : Exchange) (acts : Acts) (b : Bool) (arrived : List Arrival) → arrived ≡ arrived_in e acts → arrived ≡ arrived_in e (with_act acts (cond b None (Some Tick)))
heard_tick e acts true arrived is = is
heard_tick e acts false arrived is = is ∙ sym (append-nil (arrived_in e acts))

heard_came : (first format : ℕ) (acts : Acts) (b : Bool) (s : Piece) (arrived : List Arrival) → AreLawful first format (with_act acts (cond b (Some (Came s)) None)) → arrived ≡ arrived_in (start first format) acts → arrived ++ cond b (arrivals_of (arrival_after (start first format) acts s)) [] ≡ arrived_in (start first format) (with_act acts (cond b (Some (Came s)) None))
heard_came first format acts true s arrived lawful is =
    ap (λ xs. xs ++ arrivals_of (arrival_after (start first format) acts s)) is
    ∙ ap (λ a. arrived_in (start first format) acts ++ arrivals_of a) (sym (following.arrives_as_owed (end_after (start first format) acts) first format acts (record { lawful = lawful.0; is = refl }) s lawful.1))
heard_came first format acts false s arrived lawful is = append-nil arrived ∙ is

one_at_most : (b : Bool) (n : ℕ) → n ≡ cond b 1 0 → n ≤ 1
one_at_most true n is = omega arith
one_at_most false n is = omega arith

sends_as_owed : (first format : ℕ) (acts : Acts) (a : Act) → AreLawful first format (more acts a) → outputs (start first format) acts a ≡ datagrams_by (end_after (start first format) acts) a
unfolding outputs
sends_as_owed first format acts (Call message) lawful = sym (call_sends first format acts message lawful)
sends_as_owed first format acts (Return call message) lawful = sym (return_sends first format acts call message)
sends_as_owed first format acts (Came s) lawful = sym (came_sends first format acts s lawful)
sends_as_owed first format acts Tick lawful = sym (tick_sends first format acts lawful.0)
sends_as_owed first format acts Stop lawful = refl

sent_more : (first format : ℕ) (acts : Acts) (o : Option Act) (sent : List (List ℕ)) → AreLawful first format (with_act acts o) → sent ≡ sent_by (start first format) acts → sent ++ outputs_for (start first format) acts o ≡ sent_by (start first format) (with_act acts o)
sent_more first format acts None sent lawful is = append-nil sent ∙ is
sent_more first format acts (Some a) sent lawful is =
    ap (λ xs. xs ++ outputs (start first format) acts a) is ∙ ap (λ xs. sent_by (start first format) acts ++ xs) (sends_as_owed first format acts a lawful)

owes_nothing : (e : Exchange) (acts : Acts) (a : Act) (to other : ℕ) → other ≢ to → outputs_for e acts (cond (eqb to other) (Some a) None) ≡ []
owes_nothing e acts a to other differ = ap (λ x. outputs_for e acts (cond x (Some a) None)) (ne_eqb to other (λ same. differ (sym same)))

stop_sends_nothing : (e : Exchange) (acts : Acts) (b : Bool) → outputs_for e acts (cond b (Some Stop) None) ≡ []
unfolding outputs
stop_sends_nothing e acts true = refl
stop_sends_nothing e acts false = refl

module _ {P : Type 0} where
  -- ---- numbers and purposes

  pub made_is : (b : Beginning) (acts : WireActs P) (node : ℕ) → calls_made (acts_at (pair_of b) node acts) ≡ made_to node acts
  unfolding calls_made made_to
  made_is b begun node = refl
  made_is b (followed_by acts (CallTo to message purpose)) node = made_more (acts_at (pair_of b) node acts) (eqb to node) message (made_to node acts) (made_is b acts node)
  made_is b (followed_by acts (AnswerTo caller message)) node = made_with (acts_at (pair_of b) node acts) (eqb caller.node node && awaits_after (pair_of b) (acts_at (pair_of b) node acts) caller.number) (Return caller.number message) _ (made_is b acts node) (made_is b acts node)
  made_is b (followed_by acts (CameFrom from s)) node = made_with (acts_at (pair_of b) node acts) (eqb from node) (Came s) _ (made_is b acts node) (made_is b acts node)
  made_is b (followed_by acts TickAll) node = made_ticked (acts_at (pair_of b) node acts) (is_stopped_after (acts_at (pair_of b) node acts)) _ (made_is b acts node)
  made_is b (followed_by acts (StopOf down)) node = made_with (acts_at (pair_of b) node acts) (eqb down node) Stop _ (made_is b acts node) (made_is b acts node)

  pub message_at : (b : Beginning) (acts : WireActs P) (node : ℕ) (message : List ℕ) (purpose : P) → call_at b.first (acts_at (pair_of b) node (followed_by acts (CallTo node message purpose))) (b.first + made_to node acts) ≡ Some message
  unfolding call_at
  message_at b acts node message purpose =
      let here = acts_at (pair_of b) node acts in
      ap (λ x. call_at b.first (with_act here (cond x (Some (Call message)) None)) (b.first + made_to node acts)) (equal node)
      ∙ ap (λ n. cond (eqb (b.first + n) (b.first + calls_made here)) (Some message) (call_at b.first here (b.first + n))) (sym (made_is b acts node))
      ∙ ap (λ x. cond x (Some message) (call_at b.first here (b.first + calls_made here))) (equal (b.first + calls_made here))

  pub purpose_at : (b : Beginning) (acts : WireActs P) (node : ℕ) (message : List ℕ) (purpose : P) → purpose_of (pair_of b) node (followed_by acts (CallTo node message purpose)) (b.first + made_to node acts) ≡ Some purpose
  purpose_at b acts node message purpose =
      let here = acts_at (pair_of b) node acts in
      ap (λ x. cond (x && eqb (b.first + made_to node acts) (b.first + calls_made here)) (Some purpose) (purpose_of (pair_of b) node acts (b.first + made_to node acts))) (equal node)
      ∙ ap (λ n. cond (eqb (b.first + n) (b.first + calls_made here)) (Some purpose) (purpose_of (pair_of b) node acts (b.first + n))) (sym (made_is b acts node))
      ∙ ap (λ x. cond x (Some purpose) (purpose_of (pair_of b) node acts (b.first + calls_made here))) (equal (b.first + calls_made here))

  put_below : (a : Bool) (n m first : ℕ) (o : Option P) (q p : P) → (o ≡ Some p → n < first + m) → cond (a && eqb n (first + m)) (Some q) o ≡ Some p → n < first + cond a (m + 1) m
  put_below true n m first o q p low h = elim (eqb_tells n (first + m)) [
    | inl same ↦ (let at : n ≡ first + m = same.1 in omega arith)
    | inr differ ↦ (let less : n < first + m = low (sym (ap (λ x. cond x (Some q) o) differ.0) ∙ h) in omega arith)
  ]
  put_below false n m first o q p low h = low h

  -- the purpose of a number is that of a call that was made
  purpose_below : (b : Beginning) (acts : WireActs P) (node n : ℕ) (p : P) → purpose_of (pair_of b) node acts n ≡ Some p → n < b.first + made_to node acts
  unfolding made_to
  purpose_below b begun node n p h = absurd cc
  purpose_below b (followed_by acts (CallTo to message purpose)) node n p h =
      put_below (eqb to node) n (made_to node acts) b.first (purpose_of (pair_of b) node acts n) purpose p (purpose_below b acts node n p)
      (ap (λ m. cond (eqb to node && eqb n (b.first + m)) (Some purpose) (purpose_of (pair_of b) node acts n)) (sym (made_is b acts node)) ∙ h)
  purpose_below b (followed_by acts (AnswerTo caller message)) node n p h = purpose_below b acts node n p h
  purpose_below b (followed_by acts (CameFrom from s)) node n p h = purpose_below b acts node n p h
  purpose_below b (followed_by acts TickAll) node n p h = purpose_below b acts node n p h
  purpose_below b (followed_by acts (StopOf down)) node n p h = purpose_below b acts node n p h

  put_other : (a : Bool) (n m : ℕ) (o : Option P) (q p : P) → n < m → o ≡ Some p → cond (a && eqb n m) (Some q) o ≡ Some p
  put_other true n m o q p less h = ap (λ x. cond x (Some q) o) (ne_eqb n m (λ same. absurd (omega arith))) ∙ h
  put_other false n m o q p less h = h

  pub purpose_stays : (b : Beginning) (acts : WireActs P) (act : WireAct P) (node n : ℕ) (p : P) → purpose_of (pair_of b) node acts n ≡ Some p → purpose_of (pair_of b) node (followed_by acts act) n ≡ Some p
  purpose_stays b acts (CallTo to message purpose) node n p h =
      put_other (eqb to node) n (b.first + calls_made (acts_at (pair_of b) node acts)) (purpose_of (pair_of b) node acts n) purpose p
      (let low : n < b.first + made_to node acts = purpose_below b acts node n p h in let same : calls_made (acts_at (pair_of b) node acts) ≡ made_to node acts = made_is b acts node in omega arith) h
  purpose_stays b acts (AnswerTo caller message) node n p h = h
  purpose_stays b acts (CameFrom from s) node n p h = h
  purpose_stays b acts TickAll node n p h = h
  purpose_stays b acts (StopOf down) node n p h = h

  put_alike : (first : ℕ) (acts : Acts) (message : List ℕ) (a : Bool) (n : ℕ) (q : P) (o : Option P) → is_some o ≡ is_some (call_at first acts n) → is_some (cond (a && eqb n (first + calls_made acts)) (Some q) o) ≡ is_some (call_at first (with_act acts (cond a (Some (Call message)) None)) n)
  unfolding call_at
  put_alike first acts message true n q o same = elim (eqb n (first + calls_made acts)) as (λ x. is_some (cond x (Some q) o) ≡ is_some (cond x (Some message) (call_at first acts n))) [ true ↦ refl | false ↦ same ]
  put_alike first acts message false n q o same = same

  -- there is a purpose where a call was made
  calls_have_purposes : (b : Beginning) (acts : WireActs P) (node n : ℕ) → is_some (purpose_of (pair_of b) node acts n) ≡ is_some (call_at b.first (acts_at (pair_of b) node acts) n)
  unfolding call_at
  calls_have_purposes b begun node n = refl
  calls_have_purposes b (followed_by acts (CallTo to message purpose)) node n = put_alike b.first (acts_at (pair_of b) node acts) message (eqb to node) n purpose (purpose_of (pair_of b) node acts n) (calls_have_purposes b acts node n)
  calls_have_purposes b (followed_by acts (AnswerTo caller message)) node n = calls_have_purposes b acts node n ∙ ap is_some (sym (call_with b.first (acts_at (pair_of b) node acts) (eqb caller.node node && awaits_after (pair_of b) (acts_at (pair_of b) node acts) caller.number) (Return caller.number message) n refl))
  calls_have_purposes b (followed_by acts (CameFrom from s)) node n = calls_have_purposes b acts node n ∙ ap is_some (sym (call_with b.first (acts_at (pair_of b) node acts) (eqb from node) (Came s) n refl))
  calls_have_purposes b (followed_by acts TickAll) node n = calls_have_purposes b acts node n ∙ ap is_some (sym (call_ticked b.first (acts_at (pair_of b) node acts) (is_stopped_after (acts_at (pair_of b) node acts)) n))
  calls_have_purposes b (followed_by acts (StopOf down)) node n = calls_have_purposes b acts node n ∙ ap is_some (sym (call_with b.first (acts_at (pair_of b) node acts) (eqb down node) Stop n refl))

  -- ---- returns

  pub return_finds : (b : Beginning) (acts : WireActs P) (from n : ℕ) (s : Piece) (m : List ℕ) → AreLawful b.first b.format (acts_at (pair_of b) from acts) → IsSegment s → arrival_after (pair_of b) (acts_at (pair_of b) from acts) s ≡ ArrivedReturn n m → IsSome (purpose_of (pair_of b) from acts n)
  unfolding call_at
  return_finds b acts from n s m lawful segment h = calls_have_purposes b acts from n ∙ called (call_at b.first (acts_at (pair_of b) from acts) n) refl
    where
      called : (o : Option (List ℕ)) → call_at b.first (acts_at (pair_of b) from acts) n ≡ o → is_some (call_at b.first (acts_at (pair_of b) from acts) n) ≡ true
      called (Some x) at = ap is_some at
      called None at = absurd (
          let no_ : has_arrived (taken_by (pair_of b) (more (acts_at (pair_of b) from acts) (Came s))) 1 n ≡ false = unmade_unreturned b.first b.format (more (acts_at (pair_of b) from acts) (Came s)) n (lawful, segment) at in
          let yes_ : has_arrived (taken_by (pair_of b) (more (acts_at (pair_of b) from acts) (Came s))) 1 n ≡ true = returned_now b.first b.format (acts_at (pair_of b) from acts) s n m lawful segment h in
          cc)

  pub still_kept : (b : Beginning) (acts : WireActs P) (from n : ℕ) (s : Piece) (m : List ℕ) → IsSegment s → arrival_after (pair_of b) (acts_at (pair_of b) from acts) s ≡ ArrivedReturn n m → purpose_kept (pair_of b) from acts n ≡ purpose_of (pair_of b) from acts n
  still_kept b acts from n s m segment h = ap (λ x. cond x None (purpose_of (pair_of b) from acts n)) (unreturned_before b.first b.format (acts_at (pair_of b) from acts) s n m segment h)

  pub return_takes : (b : Beginning) (acts : WireActs P) (from n : ℕ) (s : Piece) (m : List ℕ) → AreLawful b.first b.format (acts_at (pair_of b) from acts) → IsSegment s → arrival_after (pair_of b) (acts_at (pair_of b) from acts) s ≡ ArrivedReturn n m → purpose_kept (pair_of b) from (followed_by acts (CameFrom from s)) n ≡ None
  return_takes b acts from n s m lawful segment h =
      let here = acts_at (pair_of b) from acts in
      ap (λ x. cond (has_arrived (taken_by (pair_of b) (with_act here (cond x (Some (Came s)) None))) 1 n) None (purpose_of (pair_of b) from acts n)) (equal from)
      ∙ ap (λ x. cond x None (purpose_of (pair_of b) from acts n)) (returned_now b.first b.format here s n m lawful segment h)

  pub return_gone : (b : Beginning) (acts : WireActs P) (act : WireAct P) (node n : ℕ) → AreLawful b.first b.format (acts_at (pair_of b) node (followed_by acts act)) → has_arrived (taken_by (pair_of b) (acts_at (pair_of b) node acts)) 1 n ≡ true → purpose_kept (pair_of b) node (followed_by acts act) n ≡ None
  return_gone b acts act node n lawful h =
      ap (λ x. cond x None (purpose_of (pair_of b) node (followed_by acts act) n))
      (stays_arrived b.first b.format (acts_at (pair_of b) node acts) (act_at (pair_of b) node (acts_at (pair_of b) node acts) act) n lawful h)

  -- ---- what has arrived

  arrived_is : (b : Beginning) (acts : WireActs P) (node : ℕ) → AreLawful b.first b.format (acts_at (pair_of b) node acts) → arrived_from b node acts ≡ arrived_in (pair_of b) (acts_at (pair_of b) node acts)
  unfolding arrived_from
  arrived_is b begun node lawful = refl
  arrived_is b (followed_by acts (CallTo to message purpose)) node lawful = heard_nothing (pair_of b) (acts_at (pair_of b) node acts) (eqb to node) (Call message) _ refl (arrived_is b acts node (before b.first b.format (acts_at (pair_of b) node acts) _ lawful))
  arrived_is b (followed_by acts (AnswerTo caller message)) node lawful = heard_nothing (pair_of b) (acts_at (pair_of b) node acts) (eqb caller.node node && awaits_after (pair_of b) (acts_at (pair_of b) node acts) caller.number) (Return caller.number message) _ refl (arrived_is b acts node (before b.first b.format (acts_at (pair_of b) node acts) _ lawful))
  arrived_is b (followed_by acts (CameFrom from s)) node lawful = heard_came b.first b.format (acts_at (pair_of b) node acts) (eqb from node) s _ lawful (arrived_is b acts node (before b.first b.format (acts_at (pair_of b) node acts) _ lawful))
  arrived_is b (followed_by acts TickAll) node lawful = heard_tick (pair_of b) (acts_at (pair_of b) node acts) (is_stopped_after (acts_at (pair_of b) node acts)) _ (arrived_is b acts node (before b.first b.format (acts_at (pair_of b) node acts) _ lawful))
  arrived_is b (followed_by acts (StopOf down)) node lawful = heard_nothing (pair_of b) (acts_at (pair_of b) node acts) (eqb down node) Stop _ refl (arrived_is b acts node (before b.first b.format (acts_at (pair_of b) node acts) _ lawful))

  pub arrives_once : (b : Beginning) (acts : WireActs P) (node kind call : ℕ) → AreLawful b.first b.format (acts_at (pair_of b) node acts) → count_by (λ (a : Arrival). eqb a.kind kind && eqb a.call call) (arrived_from b node acts) ≤ 1
  arrives_once b acts node kind call lawful =
      one_at_most (has_arrived (taken_by (pair_of b) (acts_at (pair_of b) node acts)) kind call) _
      (ap (count_by (λ (a : Arrival). eqb a.kind kind && eqb a.call call)) (arrived_is b acts node lawful) ∙ arrived_once b.first b.format (acts_at (pair_of b) node acts) lawful kind call)

  -- ---- what was sent

  pub sent_is : (b : Beginning) (acts : WireActs P) (node : ℕ) → AreLawful b.first b.format (acts_at (pair_of b) node acts) → sent_in b node acts ≡ sent_by (pair_of b) (acts_at (pair_of b) node acts)
  unfolding sent_in
  sent_is b begun node lawful = refl
  sent_is b (followed_by acts act) node lawful =
      let here = acts_at (pair_of b) node acts in
      sent_more b.first b.format here (act_at (pair_of b) node here act) _ lawful (sent_is b acts node (before b.first b.format here _ lawful))

  pub call_elsewhere : (b : Beginning) (acts : WireActs P) (node other : ℕ) (message : List ℕ) (purpose : P) → other ≢ node → (owed_to b acts (CallTo node message purpose) other).datagrams ≡ []
  call_elsewhere b acts node other message purpose differ = owes_nothing (pair_of b) (acts_at (pair_of b) other acts) (Call message) node other differ

  pub answer_elsewhere : (b : Beginning) (acts : WireActs P) (caller : Caller) (other : ℕ) (message : List ℕ) → other ≢ caller.node → (owed_to b acts (AnswerTo caller message) other).datagrams ≡ []
  answer_elsewhere b acts caller other message differ =
      let here = acts_at (pair_of b) other acts in
      ap (λ x. outputs_for (pair_of b) here (cond (x && awaits_after (pair_of b) here caller.number) (Some (Return caller.number message)) None)) (ne_eqb caller.node other (λ same. differ (sym same)))

  pub segment_elsewhere : (b : Beginning) (acts : WireActs P) (from other : ℕ) (s : Piece) → other ≢ from → (owed_to b acts (CameFrom from s) other).datagrams ≡ []
  segment_elsewhere b acts from other s differ = owes_nothing (pair_of b) (acts_at (pair_of b) other acts) (Came s) from other differ

  pub declaration_sends_nothing : (b : Beginning) (acts : WireActs P) (node other : ℕ) → (owed_to b acts (StopOf node) other).datagrams ≡ []
  declaration_sends_nothing b acts node other = stop_sends_nothing (pair_of b) (acts_at (pair_of b) other acts) (eqb node other)

  -- ---- what a wire knows

  module _ (w : WireState P) (b : Beginning) (acts : WireActs P) (node : ℕ) (stands : WireStands w b acts) (other : IsOther w node) where
    peer : (p : PeerState P) × (slice_get w.peers (place_of w.own node) ≡ Some p)
    peer = other_peer b acts w node stands other

    at_node : peer_at w node ≡ Some peer.0
    at_node = peer_is w w.own w.format w.peers node (place_of w.own node) peer.0 refl other.0 refl peer.1

    stood : PeerStands b acts node peer.0
    stood = found_stands b acts w node peer.0 other.0 peer.1 stands

    pub knows_lawful : AreLawful b.first b.format (acts_at (pair_of b) node acts)
    knows_lawful = stood.pair.lawful

    pub knows_up : is_up w node ≡ not (is_stopped_after (acts_at (pair_of b) node acts))
    knows_up = ap (of_peer false (λ (p : PeerState P). not p.exchange.stopped)) at_node ∙ ap not (down_is b acts node peer.0 stood)

    pub knows_next : next_number w node ≡ b.first + made_to node acts
    knows_next = ap (of_peer 0 (λ (p : PeerState P). p.exchange.next)) at_node ∙ following.next_is peer.0.exchange b.first b.format _ stood.pair ∙ ap (λ n. b.first + n) (made_is b acts node)
