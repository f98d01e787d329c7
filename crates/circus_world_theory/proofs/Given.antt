-- What a node gives in a step is what the acts send that happen at its pairs, and these stand for them.
use Rattle.std.proofs.Common.{◌≡◌, ◌≢◌, ℕ, zero, suc, ◌+◌, ◌-◌, ◌*◌, ◌<◌, ◌≤◌, ◌⊎◌, inl, inr, Bool, true, false, cond, not, ◌&&◌, eqb, List, [], ◌∷◌, ◌++◌, length, All, Option, None, Some, Result, Ok, Err, refl, sym, ap, subst, ◌∙◌, arith, get_or}
use Rattle.std.specs.Prelude.{slice_get, flat_map, nat_lt, nat_le, if◌then◌else◌, ◌==◌}
use Rattle.std.proofs.lemmas.Bool.{and_parts, ltb-true, leb-true, eqb-false, lt-ltb, le-ltb, cases_lt}
use Rattle.std.proofs.lemmas.List.{append-nil}
use Rattle.std.proofs.lemmas.List.Elements.{All-append, All-map, All-weaker}
use Rattle.std.proofs.lemmas.Option.{slice_get-get_or, slice_get_within}
use Rattle.circus_segment.specs.Segment.{part_size, most_segments}
use Rattle.circus_exchange.specs.Limits.{never_used}
use Rattle.circus_exchange.specs.Exchange.{IsSendable, awaits_return, datagrams_of_return}
use Rattle.circus_pair.proofs.Following as following
use Rattle.circus_pair.proofs.Lasting.{lasts_called, lasts_returned}
use Rattle.circus_value.specs.declared.caller.Caller.{Caller}
use Rattle.circus_wire.specs.declared.delivery.Batch.{Batch}
use Rattle.circus_wire.specs.Wire.{PeerState, WireState, Beginning, IsOther, node_at, place_of, changed_at, change_peer, peer_at, of_peer, sent_to, is_up, next_number, is_awaited, peer_called, peer_answered, called_to, sent_by_call, answer_caller, sent_by_answer}
use Rattle.circus_wire.specs.WireActs.{WireAct, WireActs, followed_by, CallTo, AnswerTo, acts_at}
use Rattle.circus_wire.specs.WireStanding.{WireStands, pair_of, owed_to, sent_in}
use Rattle.circus_wire.proofs.Changing.{found_by, peer_is}
use Rattle.circus_wire.proofs.Owing.{found_stands}
use Rattle.circus_wire.proofs.Performing.{call_stands, call_owes, answer_stands, answer_owes, unawaited_stands}
use Rattle.circus_member_rules.specs.declared.occurrence.Purpose.{Purpose}
use Rattle.circus_member_rules.specs.declared.occurrence.Effect.{Effect}
use Rattle.circus_member_rules.specs.declared.occurrence.Effect.TheVariants as made
use Rattle.circus_node.specs.declared.event.Give.{Give}
use Rattle.circus_node.specs.declared.event.Outputs.{Outputs}
use Rattle.circus_node.specs.NodeState.{NodeState}
use Rattle.circus_node.specs.Making.{Made}
use Rattle.circus_node.specs.Sending.{Sending, sent, spent, give_to, gives_of, is_sendable, hand_over, all_handed}
use Rattle.circus_node.specs.Step.{end_step, conclude_step}
use Rattle.circus_world_theory.specs.NodeActs.{with_all, handed_by}
use Rattle.circus_world_theory.proofs.Spelled.{few_made}

get_before : {X : Type 0} (xs ys : List X) (i : ℕ) (x : X) → slice_get xs i ≡ Some x → slice_get (xs ++ ys) i ≡ Some x
get_before {X} [] ys i x at = absurd (let clash : ◌≡◌ {A = Option X} None (Some x) = at in cc)
get_before (y ∷ xs) ys zero x at = at
get_before (y ∷ xs) ys (suc i) x at = get_before xs ys i x at

pub get_behind : {X : Type 0} (xs ys : List X) (i : ℕ) (x : X) → slice_get ys i ≡ Some x → (j : ℕ) × (slice_get (xs ++ ys) j ≡ Some x)
get_behind [] ys i x at = (i, at)
get_behind (y ∷ xs) ys i x at = (let rest = get_behind xs ys i x at in (suc rest.0, rest.1))

-- ---- what was sent

-- a datagram is among those that the acts of a node have sent to another one
abbrev pub WasGiven : Beginning → WireActs Purpose → ℕ → List ℕ → Type 0
WasGiven b acts to bytes = (place : ℕ) × (slice_get (sent_in b to acts) place ≡ Some bytes)

abbrev pub HaveGiven : Beginning → WireActs Purpose → Give → Type 0
HaveGiven b acts give = WasGiven b acts give.to give.bytes

abbrev pub AreGiven : Beginning → WireActs Purpose → List Give → Type 0
AreGiven b acts gives = All (HaveGiven b acts) gives

given_more : (b : Beginning) (acts : WireActs Purpose) (act : WireAct Purpose) (to : ℕ) (bytes : List ℕ) → WasGiven b acts to bytes → WasGiven b (followed_by acts act) to bytes
unfolding sent_in
given_more b acts act to bytes given = (given.0, get_before (sent_in b to acts) (owed_to b acts act to).datagrams given.0 bytes given.1)

pub given_on : (b : Beginning) (acts : WireActs Purpose) (more : List (WireAct Purpose)) (to : ℕ) (bytes : List ℕ) → WasGiven b acts to bytes → WasGiven b (with_all acts more) to bytes
given_on b acts [] to bytes given = given
given_on b acts (act ∷ more) to bytes given = given_on b (followed_by acts act) more to bytes (given_more b acts act to bytes given)

-- ---- the other nodes

-- a node is another one of those that a wire is for
abbrev pub IsPeer : Beginning → ℕ → Type 0
IsPeer b to = (to ≢ b.own) × (to < b.nodes)

pub peer_by : (b : Beginning) (acts : WireActs Purpose) (w : WireState Purpose) (to : ℕ) → WireStands w b acts → IsOther w to → IsPeer b to
peer_by b acts w to stands other =
    let one = stands.one in let all = stands.nodes in let low = other.1 in
    (λ same. other.0 (same ∙ sym stands.own), omega (arith, one, all, low))

peer_found : (b : Beginning) (acts : WireActs Purpose) (w : WireState Purpose) (to : ℕ) (p : PeerState Purpose) → WireStands w b acts → to ≢ w.own → slice_get w.peers (place_of w.own to) ≡ Some p → IsPeer b to
peer_found b acts w to p stands differs there = peer_by b acts w to stands (differs, by_test (nat_lt w.own to) (slice_get_within w.peers (place_of w.own to) p there))
  where
    by_test : (t : Bool) → (if t then to - 1 else to) < length w.peers → to ≤ length w.peers
    by_test true low = omega (arith, low)
    by_test false low = omega (arith, low)

pub peer_at_place : (b : Beginning) (place : ℕ) → place < b.nodes - 1 → b.own < b.nodes → IsPeer b (node_at b.own place)
peer_at_place b place low one = by_cases (cases_lt place b.own)
  where
    by_cases : (place < b.own) ⊎ (b.own ≤ place) → IsPeer b (node_at b.own place)
    by_cases (inr high) =
        let is : node_at b.own place ≡ place + 1 = ap (λ x. if x then place else place + 1) (le-ltb place b.own high) in
        (λ same. (let at : place + 1 ≡ b.own = sym is ∙ same in absurd (omega (arith, at, high))), subst (λ n. n < b.nodes) (sym is) (omega (arith, low)))
    by_cases (inl less) =
        let is : node_at b.own place ≡ place = ap (λ x. if x then place else place + 1) (lt-ltb place b.own less) in
        (λ same. (let at : place ≡ b.own = sym is ∙ same in absurd (omega (arith, at, less))), subst (λ n. n < b.nodes) (sym is) (omega (arith, low)))

-- ---- what holds of all that acts send

-- what may hold of a datagram that these acts have sent
abbrev pub OfGives : Type 1
OfGives = WireActs Purpose → Give → Type 0

module _ (b : Beginning) (P : OfGives) where
  -- an act is such that the pairs stand for it, then it holds of each datagram that the act sends
  abbrev pub HoldsBy : WireActs Purpose → WireAct Purpose → Type 0
  HoldsBy acts act =
      (w : WireState Purpose) → WireStands w b (followed_by acts act) → (to : ℕ) → IsPeer b to → (place : ℕ) (bytes : List ℕ)
      → slice_get (owed_to b acts act to).datagrams place ≡ Some bytes → P (followed_by acts act) (give_to to bytes)

  -- it holds still behind an act
  abbrev pub StaysBy : WireActs Purpose → WireAct Purpose → Type 0
  StaysBy acts act = (w : WireState Purpose) → WireStands w b (followed_by acts act) → (give : Give) → P acts give → P (followed_by acts act) give

  -- calls and returns that are handed over make it so, and keep it so
  pub record Carries : Type 0 where
    pub call : (acts : WireActs Purpose) (to : ℕ) (message : List ℕ) (purpose : Purpose) → HoldsBy acts (CallTo to message purpose) × StaysBy acts (CallTo to message purpose)
    pub answer : (acts : WireActs Purpose) (caller : Caller) (message : List ℕ) → HoldsBy acts (AnswerTo caller message) × StaysBy acts (AnswerTo caller message)

  -- what is owed for an act is sent by it
  pub owed_holds : (acts : WireActs Purpose) (act : WireAct Purpose) (w : WireState Purpose) (batch : Batch) → HoldsBy acts act → WireStands w b (followed_by acts act) → IsPeer b batch.to
      → batch.datagrams ≡ (owed_to b acts act batch.to).datagrams → All (P (followed_by acts act)) (gives_of batch)
  owed_holds acts act w batch holds stands peer owes =
      All-map (P (followed_by acts act)) (give_to batch.to) batch.datagrams
      (λ k d below.
      let there : slice_get batch.datagrams k ≡ Some (get_or batch.datagrams k d) = slice_get-get_or batch.datagrams k d below in
      holds w stands batch.to peer k (get_or batch.datagrams k d) (ap (λ (l : List (List ℕ)). slice_get l k) (sym owes) ∙ there))

  still_holds : (acts : WireActs Purpose) (act : WireAct Purpose) (w : WireState Purpose) (gives : List Give) → StaysBy acts act → WireStands w b (followed_by acts act) → All (P acts) gives
      → All (P (followed_by acts act)) gives
  still_holds acts act w gives stays stands all = All-weaker (P acts) (P (followed_by acts act)) (stays w stands) gives all

  more_holds : (acts : WireActs Purpose) (act : WireAct Purpose) (w : WireState Purpose) (gives : List Give) (batch : Batch) → HoldsBy acts act × StaysBy acts act
      → WireStands w b (followed_by acts act) → IsPeer b batch.to → All (P acts) gives → batch.datagrams ≡ (owed_to b acts act batch.to).datagrams → All (P (followed_by acts act)) (gives ++ gives_of batch)
  more_holds acts act w gives batch both stands peer all owes =
      All-append (P (followed_by acts act)) gives (gives_of batch) (still_holds acts act w gives both.1 stands all) (owed_holds acts act w batch both.0 stands peer owes)

  none_holds : (acts : WireActs Purpose) (act : WireAct Purpose) (w : WireState Purpose) (gives : List Give) → StaysBy acts act → WireStands w b (followed_by acts act) → All (P acts) gives
      → All (P (followed_by acts act)) (gives ++ [])
  none_holds acts act w gives stays stands all = subst (All (P (followed_by acts act))) (sym (append-nil gives)) (still_holds acts act w gives stays stands all)

pub given_by : (b : Beginning) (acts : WireActs Purpose) (act : WireAct Purpose) → HoldsBy b (HaveGiven b) acts act
unfolding sent_in
given_by b acts act w stands to peer place bytes at = get_behind (sent_in b to acts) (owed_to b acts act to).datagrams place bytes at

given_still : (b : Beginning) (acts : WireActs Purpose) (act : WireAct Purpose) → StaysBy b (HaveGiven b) acts act
given_still b acts act w stands give given = given_more b acts act give.to give.bytes given

-- what was ever sent was sent
pub given_carries : (b : Beginning) → Carries b (HaveGiven b)
given_carries b = record {
  call = λ acts to message purpose. (given_by b acts (CallTo to message purpose), given_still b acts (CallTo to message purpose));
  answer = λ acts caller message. (given_by b acts (AnswerTo caller message), given_still b acts (AnswerTo caller message));
}

pub with_both : (acts : WireActs Purpose) (some more : List (WireAct Purpose)) → with_all acts (some ++ more) ≡ with_all (with_all acts some) more
with_both acts [] more = refl
with_both acts (act ∷ some) more = with_both (followed_by acts act) some more

-- ---- a node stays up while calls and returns are handed over

module _ (change : PeerState Purpose → PeerState Purpose) (same : (p : PeerState Purpose) → (change p).exchange.stopped ≡ p.exchange.stopped) where
  up_there : (peers : List (PeerState Purpose)) (place other : ℕ)
      → of_peer false (λ p. not p.exchange.stopped) (slice_get (changed_at change peers place) other) ≡ of_peer false (λ p. not p.exchange.stopped) (slice_get peers other)
  unfolding changed_at
  up_there [] place other = refl
  up_there (p ∷ peers) zero zero = ap not (same p)
  up_there (p ∷ peers) zero (suc other) = refl
  up_there (p ∷ peers) (suc place) zero = refl
  up_there (p ∷ peers) (suc place) (suc other) = up_there peers place other

  up_either : (b : Bool) (o q : Option (PeerState Purpose)) → of_peer false (λ p. not p.exchange.stopped) o ≡ of_peer false (λ p. not p.exchange.stopped) q
      → of_peer false (λ p. not p.exchange.stopped) (cond b None o) ≡ of_peer false (λ p. not p.exchange.stopped) (cond b None q)
  up_either true o q is = refl
  up_either false o q is = is

  up_changed : (w : WireState Purpose) (at node : ℕ) → is_up (change_peer change w at) node ≡ is_up w node
  unfolding peer_at
  up_changed w at node =
      up_either (eqb node w.own) (slice_get (changed_at change w.peers (place_of w.own at)) (place_of w.own node)) (slice_get w.peers (place_of w.own node))
      (up_there w.peers (place_of w.own at) (place_of w.own node))

up_called : (w : WireState Purpose) (to node : ℕ) (message : List ℕ) (purpose : Purpose) → is_up (called_to w to message purpose) node ≡ is_up w node
up_called w to node message purpose = up_changed (λ p. peer_called p message purpose) (λ p. (lasts_called p.exchange message).stopped) w to node

up_answered : (w : WireState Purpose) (caller : Caller) (message : List ℕ) (node : ℕ) → is_up (change_peer (λ p. peer_answered p caller.number message) w caller.node) node ≡ is_up w node
up_answered w caller message node =
    up_changed (λ p. peer_answered p caller.number message) (λ p. (lasts_returned p.exchange caller.number message).stopped) w caller.node node

-- ---- a call or a return is handed over

-- the pairs stand for acts, which is so of what was given, and are up as they were
pub record Handed (b : Beginning) (P : OfGives) (acts : WireActs Purpose) (old w : WireState Purpose) (gives : List Give) : Type 0 where
  pub stands : WireStands w b acts
  pub given : All (P acts) gives
  pub up : (node : ℕ) → is_up w node ≡ is_up old node
  pub format : w.format ≡ old.format

abbrev pub IsHanded : Beginning → OfGives → WireActs Purpose → WireState Purpose → Sending → Type 0
IsHanded b P acts old (sent w gives) = Handed b P acts old w gives
IsHanded b P acts old (spent node) = Unit {0}

can_send : (format : ℕ) (message : List ℕ) → is_sendable format message ≡ true → IsSendable format message
can_send format message is =
    let parts = and_parts (nat_lt 0 (length message)) (nat_le (length message) (part_size * most_segments format)) is in
    (ltb-true 0 (length message) parts.0, leb-true (length message) (part_size * most_segments format) parts.1)

module _ (b : Beginning) (P : OfGives) (carries : Carries b P) (low : b.first ≤ never_used) (acts : WireActs Purpose) (old w : WireState Purpose) (gives : List Give) (so_far : Handed b P acts old w gives) where
  -- a number is left
  left_for : (to : ℕ) → is_up w to ≡ true → (next_number w to == never_used) ≡ false → next_number w to < never_used
  left_for to up differs =
      let f = found_by (λ (p : PeerState Purpose). not p.exchange.stopped) w w.own w.format w.peers to refl up in
      let at = peer_is w w.own w.format w.peers to (place_of w.own to) f.peer refl f.differs refl f.there in
      let stood = found_stands b acts w to f.peer f.differs f.there so_far.stands in
      let next = ap (of_peer 0 (λ (p : PeerState Purpose). p.exchange.next)) at ∙ following.next_is f.peer.exchange b.first b.format (acts_at (pair_of b) to acts) stood.pair in
      let most = few_made b.first b.format (acts_at (pair_of b) to acts) low stood.pair.lawful in
      let other : next_number w to ≢ never_used = eqb-false (next_number w to) never_used differs in
      omega (arith, next, most, other)

  peer_up : (to : ℕ) → is_up w to ≡ true → IsPeer b to
  peer_up to up =
      let f = found_by (λ (p : PeerState Purpose). not p.exchange.stopped) w w.own w.format w.peers to refl up in
      peer_found b acts w to f.peer so_far.stands f.differs f.there

  peer_awaited : (caller : Caller) → is_awaited w caller ≡ true → IsPeer b caller.node
  peer_awaited caller is =
      let f = found_by (λ (p : PeerState Purpose). awaits_return p.exchange caller.number) w w.own w.format w.peers caller.node refl is in
      peer_found b acts w caller.node f.peer so_far.stands f.differs f.there

  call_on : (to : ℕ) (message : List ℕ) (purpose : Purpose) → IsHanded b P (with_all acts (handed_by w (made.Call to message purpose))) old (hand_over w gives (made.Call to message purpose))
  call_on to message purpose = by_test (is_up w to && is_sendable w.format message) refl
    where
      next : WireState Purpose
      next = called_to w to message purpose

      by_number : is_up w to ≡ true → is_sendable w.format message ≡ true → (none : Bool) → (next_number w to == never_used) ≡ none
          → IsHanded b P (followed_by acts (CallTo to message purpose)) old (if none then spent to else sent next (gives ++ gives_of (sent_by_call w to message)))
      by_number up sendable true is = tt
      by_number up sendable false is =
          let may = can_send w.format message sendable in
          let left = left_for to up is in
          let stands = call_stands b acts w to message purpose up may left so_far.stands next refl in
          record {
            stands = stands;
            given = more_holds b P acts (CallTo to message purpose) next gives (sent_by_call w to message) (carries.call acts to message purpose) stands (peer_up to up) so_far.given
                (ap (λ (x : Batch). x.datagrams) (call_owes b acts w to message purpose up may left so_far.stands (sent_by_call w to message).datagrams refl));
            up = λ node. up_called w to node message purpose ∙ so_far.up node;
            format = so_far.format;
          }

      by_test : (test : Bool) → (is_up w to && is_sendable w.format message) ≡ test
          → IsHanded b P (with_all acts (if test then CallTo to message purpose ∷ [] else [])) old
          (if test then (if next_number w to == never_used then spent to else sent next (gives ++ gives_of (sent_by_call w to message))) else sent w gives)
      by_test true is = (let parts = and_parts (is_up w to) (is_sendable w.format message) is in by_number parts.0 parts.1 (next_number w to == never_used) refl)
      by_test false is = so_far

  answer_on : (caller : Caller) (message : List ℕ) → IsHanded b P (with_all acts (handed_by w (made.Answer caller message))) old (hand_over w gives (made.Answer caller message))
  answer_on caller message = by_test (is_sendable w.format message) refl
    where
      next : WireState Purpose
      next = change_peer (λ p. peer_answered p caller.number message) w caller.node

      sends : Batch
      sends = sent_to (λ p. datagrams_of_return p.exchange caller.number message) w caller.node

      none : Batch
      none = record { to = caller.node; datagrams = [] }

      by_call : IsSendable w.format message → (awaited : Bool) → is_awaited w caller ≡ awaited
          → Handed b P (followed_by acts (AnswerTo caller message)) old (if awaited then next else w) (gives ++ gives_of (if awaited then sends else none))
      by_call may true is =
          let stands = answer_stands b acts w caller message so_far.stands next may is (sym (ap (λ (x : Bool). if x then next else w) is)) in
          record {
            stands = stands;
            given = more_holds b P acts (AnswerTo caller message) next gives sends (carries.answer acts caller message) stands (peer_awaited caller is) so_far.given
                (ap (λ (x : Batch). x.datagrams) (answer_owes b acts w caller message so_far.stands sends.datagrams is (sym (ap (λ (x : Bool). let y : Batch = if x then sends else none in y.datagrams) is))));
            up = λ node. up_answered w caller message node ∙ so_far.up node;
            format = so_far.format;
          }
      by_call may false is =
          let stands = unawaited_stands b acts w caller message so_far.stands is in
          record {
            stands = stands;
            given = none_holds b P acts (AnswerTo caller message) w gives (carries.answer acts caller message).1 stands so_far.given;
            up = so_far.up;
            format = so_far.format;
          }

      by_test : (test : Bool) → is_sendable w.format message ≡ test
          → IsHanded b P (with_all acts (if test then AnswerTo caller message ∷ [] else [])) old
          (if test then sent (answer_caller w caller message) (gives ++ gives_of (sent_by_answer w caller message)) else sent w gives)
      by_test true is = by_call (can_send w.format message is) (is_awaited w caller) refl
      by_test false is = so_far

-- ---- all of them

handed_alike : (b : Beginning) (P : OfGives) (acts : WireActs Purpose) (old w : WireState Purpose) (gives : List Give) (e : Effect) → Handed b P acts old w gives → handed_by w e ≡ handed_by old e
handed_alike b P acts old w gives (made.Call to message purpose) so_far =
    λ i. if so_far.up to i && is_sendable (so_far.format i) message then CallTo to message purpose ∷ [] else []
handed_alike b P acts old w gives (made.Answer caller message) so_far =
    λ i. if is_sendable (so_far.format i) message then AnswerTo caller message ∷ [] else []

one_on : (b : Beginning) (P : OfGives) → Carries b P → b.first ≤ never_used → (acts : WireActs Purpose) (old w : WireState Purpose) (gives : List Give) (e : Effect) → Handed b P acts old w gives
    → IsHanded b P (with_all acts (handed_by old e)) old (hand_over w gives e)
one_on b P carries low acts old w gives (made.Call to message purpose) so_far =
    subst (λ l. IsHanded b P (with_all acts l) old (hand_over w gives (made.Call to message purpose))) (handed_alike b P acts old w gives (made.Call to message purpose) so_far)
    (call_on b P carries low acts old w gives so_far to message purpose)
one_on b P carries low acts old w gives (made.Answer caller message) so_far =
    subst (λ l. IsHanded b P (with_all acts l) old (hand_over w gives (made.Answer caller message))) (handed_alike b P acts old w gives (made.Answer caller message) so_far)
    (answer_on b P carries low acts old w gives so_far caller message)

spent_on : (b : Beginning) (P : OfGives) (acts : WireActs Purpose) (old : WireState Purpose) (node : ℕ) (effects : List Effect) → IsHanded b P acts old (all_handed (spent node) effects)
spent_on b P acts old node [] = tt
spent_on b P acts old node (e ∷ effects) = spent_on b P acts old node effects

all_on : (b : Beginning) (P : OfGives) → Carries b P → b.first ≤ never_used → (acts : WireActs Purpose) (old : WireState Purpose) (s : Sending) (effects : List Effect) → IsHanded b P acts old s
    → IsHanded b P (with_all acts (flat_map (handed_by old) effects)) old (all_handed s effects)
all_on b P carries low acts old s [] so_far = so_far
all_on b P carries low acts old (spent node) (e ∷ effects) so_far = spent_on b P (with_all acts (flat_map (handed_by old) (e ∷ effects))) old node effects
all_on b P carries low acts old (sent w gives) (e ∷ effects) so_far =
    subst (λ x. IsHanded b P x old (all_handed (hand_over w gives e) effects)) (sym (with_both acts (handed_by old e) (flat_map (handed_by old) effects)))
    (all_on b P carries low (with_all acts (handed_by old e)) old (hand_over w gives e) effects (one_on b P carries low acts old w gives e so_far))

-- ---- a step

-- the pairs of a node stand for acts, which is so of what it gives
pub record GivesSo {M : Type 0} (b : Beginning) (P : OfGives) (acts : WireActs Purpose) (r : NodeState M × Outputs) : Type 0 where
  pub stands : WireStands r.0.wire b acts
  pub given : All (P acts) r.1.gives

module _ {M : Type 0} where
  -- the acts have given what it gives
  abbrev pub Gives : Beginning → WireActs Purpose → NodeState M × Outputs → Type 0
  Gives b acts r = GivesSo b (HaveGiven b) acts r

  pub same_end : (x y : NodeState M × Outputs) → ◌≡◌ {A = Result (NodeState M × Outputs) ℕ} (Ok x) (Ok y) → x ≡ y
  same_end x y is = cc

  ended_gives : (b : Beginning) (P : OfGives) (acts : WireActs Purpose) (old : WireState Purpose) (n : NodeState M) (m : Made M) (s : Sending) (r : NodeState M × Outputs)
      → IsHanded b P acts old s → end_step n m.came s ≡ Ok r → GivesSo b P acts r
  ended_gives b P acts old n m (sent w gives) r on is = subst (GivesSo b P acts) (same_end _ r is) (record { stands = on.stands; given = on.given })
  ended_gives b P acts old n m (spent node) r on is = absurd (let clash : ◌≡◌ {A = Result (NodeState M × Outputs) ℕ} (Err node) (Ok r) = is in cc)

  -- what came of an event is sent
  pub concluded_gives : (b : Beginning) (P : OfGives) → Carries b P → b.first ≤ never_used → (acts : WireActs Purpose) (n : NodeState M) (gives : List Give) (m : Made M) (r : NodeState M × Outputs)
      → WireStands n.wire b acts → All (P acts) gives → conclude_step n gives m.came ≡ Ok r → GivesSo b P (with_all acts (flat_map (handed_by n.wire) m.came.effects)) r
  concluded_gives b P carries low acts n gives m r stands given is =
      ended_gives b P (with_all acts (flat_map (handed_by n.wire) m.came.effects)) n.wire n m (all_handed (sent n.wire gives) m.came.effects) r
      (all_on b P carries low acts n.wire (sent n.wire gives) m.came.effects (record { stands = stands; given = given; up = λ node. refl; format = refl }))
      is
