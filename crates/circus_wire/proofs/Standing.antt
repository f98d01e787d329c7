-- What a wire stands for after each act, and what is owed for it.
use Rattle.std.proofs.Common.{◌≡◌, ◌≢◌, ℕ, zero, suc, ◌+◌, ◌-◌, ◌<◌, Bool, true, false, cond, ◌&&◌, eqb, List, Option, None, Some, refl, sym, ap, subst, ◌∙◌, inl, inr}
use Rattle.std.specs.Prelude.{slice_get, option_map, replicate}
use Rattle.std.proofs.lemmas.List.{length-map, length-replicate}
use Rattle.std.specs.Cmp.{nat_cmp_total}
use Rattle.std.specs.Ordering.{nat_cmp}
use Rattle.std.specs.FinMap.{get, insert, get-insert, get-empty}
use Rattle.std.proofs.lemmas.Bool.{ne_eqb}
use Rattle.std.proofs.lemmas.Bool.Decides.{eqb_tells}
use Rattle.circus_segment.specs.Segment.{Piece, IsSegment}
use Rattle.circus_exchange.specs.declared.exchange.Exchange.{Exchange}
use Rattle.circus_exchange.specs.Limits.{never_used}
use Rattle.circus_exchange.specs.Exchange.{start, IsSendable, awaits_return, stop_exchange, count_tick}
use Rattle.circus_exchange.proofs.Ties.{nat_ties, equal}
use Rattle.circus_pair.specs.Taken.{has_arrived}
use Rattle.circus_pair.specs.Acts.{Act, Call, Return, Came, Tick, Stop, none_yet, more, taken_by}
use Rattle.circus_pair.specs.Handed.{calls_made}
use Rattle.circus_pair.specs.Lawful.{is_stopped_after}
use Rattle.circus_pair.specs.Standing.{StandsFor}
use Rattle.circus_pair.specs.TwoEnds.{with_act}
use Rattle.circus_pair.proofs.Flowing.{flows_after}
use Rattle.circus_pair.proofs.Following as following
use Rattle.circus_value.specs.declared.caller.Caller.{Caller}
use Rattle.circus_wire.specs.Wire.{PeerState, WireState, Beginning, place_of, node_at, change_peer, peer_called, peer_answered, peer_heard, peer_ticked, peer_stopped, all_ticked, before_any, fresh_peer}
use Rattle.circus_wire.specs.WireActs.{WireAct, WireActs, begun, followed_by, CallTo, AnswerTo, CameFrom, TickAll, StopOf, act_at, acts_at, purpose_of, purpose_kept, awaits_after}
use Rattle.circus_wire.specs.WireStanding.{pair_of, PeerStands, WireStands}
use Rattle.circus_wire.proofs.Hearing.{next_unreturned, came_purposes}
use Rattle.circus_wire.proofs.Places.{changed_has, length_changed, back_at, place_back}
use Rattle.circus_wire.proofs.Ticking.{get_map}

elsewhere : (a : Act) (to other : ℕ) → other ≢ to → cond (eqb to other) (Some a) None ≡ None
elsewhere a to other differ = ap (λ x. cond x (Some a) None) (ne_eqb to other (λ same. differ (sym same)))

none_kept : {X : Type 0} (b : Bool) → ◌≡◌ {A = Option X} (cond b None None) None
none_kept true = refl
none_kept false = refl

same_item : {X : Type 0} (x : X) (count place : ℕ) (y : X) → slice_get (replicate count x) place ≡ Some y → x ≡ y
same_item x zero place y h = absurd cc
same_item x (suc count) zero y h = cc
same_item x (suc count) (suc place) y h = same_item x count place y h

module _ {P : Type 0} where
  -- ---- one pair

  -- an act that is none at a pair changes nothing there
  pub unmoved : (b : Beginning) (acts : WireActs P) (act : WireAct P) (node : ℕ) (p : PeerState P) → act_at (pair_of b) node (acts_at (pair_of b) node acts) act ≡ None → ((n : ℕ) → purpose_of (pair_of b) node (followed_by acts act) n ≡ purpose_of (pair_of b) node acts n) → PeerStands b acts node p → PeerStands b (followed_by acts act) node p
  unmoved b acts act node p none same stands =
      let e = pair_of b in
      let still : acts_at e node (followed_by acts act) ≡ acts_at e node acts = ap (with_act (acts_at e node acts)) none in
      record {
        pair = subst (λ x. StandsFor p.exchange b.first b.format x) (sym still) stands.pair;
        purposes = λ n. stands.purposes n
            ∙ ap (λ x. cond (has_arrived (taken_by e x) 1 n) None (purpose_of e node acts n)) (sym still)
            ∙ ap (cond (has_arrived (taken_by e (acts_at e node (followed_by acts act))) 1 n) None) (sym (same n));
      }

  -- an act at a pair
  moved : (b : Beginning) (acts : WireActs P) (act : WireAct P) (node : ℕ) (p : PeerState P) (here : Act) → act_at (pair_of b) node (acts_at (pair_of b) node acts) act ≡ Some here → StandsFor p.exchange b.first b.format (more (acts_at (pair_of b) node acts) here) → ((n : ℕ) → get p.purposes n ≡ cond (has_arrived (taken_by (pair_of b) (more (acts_at (pair_of b) node acts) here)) 1 n) None (purpose_of (pair_of b) node (followed_by acts act) n)) → PeerStands b (followed_by acts act) node p
  moved b acts act node p here is pair purposes =
      let e = pair_of b in
      let on_ : acts_at e node (followed_by acts act) ≡ more (acts_at e node acts) here = ap (with_act (acts_at e node acts)) is in
      record {
        pair = subst (λ x. StandsFor p.exchange b.first b.format x) (sym on_) pair;
        purposes = λ n. purposes n ∙ ap (λ x. cond (has_arrived (taken_by e x) 1 n) None (purpose_of e node (followed_by acts act) n)) (sym on_);
      }

  called_purposes : (b : Beginning) (acts : WireActs P) (to : ℕ) (message : List ℕ) (purpose : P) (p : PeerState P) → PeerStands b acts to p → (n : ℕ) → get (insert p.purposes p.exchange.next purpose) n ≡ cond (has_arrived (taken_by (pair_of b) (acts_at (pair_of b) to acts)) 1 n) None (purpose_of (pair_of b) to (followed_by acts (CallTo to message purpose)) n)
  called_purposes b acts to message purpose p stands n =
      let e = pair_of b in
      let here = acts_at e to acts in
      let next : p.exchange.next ≡ b.first + calls_made here = following.next_is p.exchange b.first b.format here stands.pair in
      get-insert nat_cmp_total p.purposes p.exchange.next purpose n
      ∙ ap (λ x. cond x (Some purpose) (get p.purposes n)) (nat_ties n p.exchange.next ∙ ap (eqb n) next)
      ∙ ap (cond (eqb n (b.first + calls_made here)) (Some purpose)) (stands.purposes n)
      ∙ elim (eqb_tells n (b.first + calls_made here)) [
        | inl same ↦ ap (λ x. cond x (Some purpose) (purpose_kept e to acts n)) same.0
            ∙ sym (
            ap (λ x. cond x None (cond (eqb to to && eqb n (b.first + calls_made here)) (Some purpose) (purpose_of e to acts n))) (next_unreturned b.first b.format here n stands.pair.lawful same.1)
            ∙ ap (λ x. cond (x && eqb n (b.first + calls_made here)) (Some purpose) (purpose_of e to acts n)) (equal to)
            ∙ ap (λ x. cond x (Some purpose) (purpose_of e to acts n)) same.0)
        | inr differ ↦ ap (λ x. cond x (Some purpose) (purpose_kept e to acts n)) differ.0
            ∙ sym (
            ap (λ x. cond (has_arrived (taken_by e here) 1 n) None (cond (x && eqb n (b.first + calls_made here)) (Some purpose) (purpose_of e to acts n))) (equal to)
            ∙ ap (λ x. cond (has_arrived (taken_by e here) 1 n) None (cond x (Some purpose) (purpose_of e to acts n))) differ.0)
      ]

  pub peer_stands_called : (b : Beginning) (acts : WireActs P) (to : ℕ) (message : List ℕ) (purpose : P) (p : PeerState P) → IsSendable p.exchange.format message → p.exchange.stopped ≡ false → p.exchange.next < never_used → PeerStands b acts to p → PeerStands b (followed_by acts (CallTo to message purpose)) to (peer_called p message purpose)
  peer_stands_called b acts to message purpose p sendable up left stands =
      moved b acts (CallTo to message purpose) to (peer_called p message purpose) (Call message) (ap (λ x. cond x (Some (Call message)) None) (equal to))
      (following.stands_called p.exchange b.first b.format _ stands.pair _ message sendable up left refl)
      (called_purposes b acts to message purpose p stands)

  pub peer_stands_answered : (b : Beginning) (acts : WireActs P) (caller : Caller) (message : List ℕ) (p : PeerState P) → IsSendable p.exchange.format message → awaits_return p.exchange caller.number ≡ true → PeerStands b acts caller.node p → PeerStands b (followed_by acts (AnswerTo caller message)) caller.node (peer_answered p caller.number message)
  peer_stands_answered b acts caller message p sendable awaits stands =
      moved b acts (AnswerTo caller message) caller.node (peer_answered p caller.number message) (Return caller.number message)
      (ap (λ x. cond (x && awaits_after (pair_of b) (acts_at (pair_of b) caller.node acts) caller.number) (Some (Return caller.number message)) None) (equal caller.node)
      ∙ ap (λ x. cond x (Some (Return caller.number message)) None) (sym (following.awaits_as_owed p.exchange b.first b.format _ stands.pair caller.number) ∙ awaits))
      (following.stands_returned p.exchange b.first b.format _ stands.pair _ caller.number message sendable awaits refl)
      stands.purposes

  pub peer_stands_heard : (b : Beginning) (acts : WireActs P) (from : ℕ) (s : Piece) (p : PeerState P) → IsSegment s → PeerStands b acts from p → PeerStands b (followed_by acts (CameFrom from s)) from (peer_heard p s)
  peer_stands_heard b acts from s p segment stands =
      let here = acts_at (pair_of b) from acts in
      moved b acts (CameFrom from s) from (peer_heard p s) (Came s) (ap (λ x. cond x (Some (Came s)) None) (equal from))
      (following.stands_taken p.exchange b.first b.format _ stands.pair _ s segment refl)
      (subst (λ (e : Exchange). (n : ℕ) → get (peer_heard (record { exchange = e; purposes = p.purposes }) s).purposes n ≡ cond (has_arrived (taken_by (pair_of b) (more here (Came s))) 1 n) None (purpose_of (pair_of b) from acts n)) (sym stands.pair.is)
      (came_purposes b.first b.format here s p.purposes (purpose_of (pair_of b) from acts) (stands.pair.lawful, segment) stands.purposes))

  pub down_is : (b : Beginning) (acts : WireActs P) (node : ℕ) (p : PeerState P) → PeerStands b acts node p → p.exchange.stopped ≡ is_stopped_after (acts_at (pair_of b) node acts)
  down_is b acts node p stands = ap (λ (e : Exchange). e.stopped) stands.pair.is ∙ (flows_after b.first b.format _ stands.pair.lawful).stopped

  pub peer_stands_ticked : (b : Beginning) (acts : WireActs P) (node : ℕ) (p : PeerState P) → PeerStands b acts node p → PeerStands b (followed_by acts TickAll) node (peer_ticked p)
  peer_stands_ticked b acts node p stands =
      elim p.exchange.stopped as (λ x. p.exchange.stopped ≡ x → PeerStands b (followed_by acts TickAll) node (cond x p (record p { exchange = count_tick p.exchange }))) [
        | true ↦ λ down. unmoved b acts TickAll node p (ap (λ x. cond x None (Some Tick)) (sym (down_is b acts node p stands) ∙ down)) (λ n. refl) stands
        | false ↦ λ up. moved b acts TickAll node (record p { exchange = count_tick p.exchange }) Tick (ap (λ x. cond x None (Some Tick)) (sym (down_is b acts node p stands) ∙ up))
            (following.stands_ticked p.exchange b.first b.format _ stands.pair _ up refl) stands.purposes
      ] refl

  pub peer_stands_stopped : (b : Beginning) (acts : WireActs P) (node : ℕ) (p : PeerState P) → PeerStands b acts node p → PeerStands b (followed_by acts (StopOf node)) node (peer_stopped p)
  peer_stands_stopped b acts node p stands =
      moved b acts (StopOf node) node (peer_stopped p) Stop (ap (λ x. cond x (Some Stop) None) (equal node))
      (record { lawful = (stands.pair.lawful, tt); is = ap stop_exchange stands.pair.is })
      stands.purposes

  -- ---- all pairs

  stands_changed : (b : Beginning) (acts : WireActs P) (act : WireAct P) (change : PeerState P → PeerState P) (w : WireState P) (node : ℕ) → node ≢ w.own → WireStands w b acts → ((p : PeerState P) → slice_get w.peers (place_of w.own node) ≡ Some p → PeerStands b acts node p → PeerStands b (followed_by acts act) node (change p)) → ((other : ℕ) (p : PeerState P) → other ≢ node → PeerStands b acts other p → PeerStands b (followed_by acts act) other p) → WireStands (change_peer change w node) b (followed_by acts act)
  stands_changed b acts act change w node differ stands here there = record {
    one = stands.one;
    own = stands.own;
    format = stands.format;
    nodes = length_changed change w.peers (place_of w.own node) ∙ stands.nodes;
    peers = λ place p is.
        subst (λ own. PeerStands b (followed_by acts act) (node_at own place) p) stands.own
        (changed_has change w.peers (place_of w.own node) place p is (λ at x. PeerStands b (followed_by acts act) (node_at w.own at) x)
        (λ x at. subst (λ n. PeerStands b (followed_by acts act) n (change x)) (sym (back_at w.own node differ)) (here x at (subst (λ n. PeerStands b acts n x) (back_at w.own node differ) (stood (place_of w.own node) x at))))
        (λ x other at. there (node_at w.own place) x (λ same. other (place_back w.own place node same)) (stood place x at)));
  }
    where
      stood : (place : ℕ) (x : PeerState P) → slice_get w.peers place ≡ Some x → PeerStands b acts (node_at w.own place) x
      stood place x at = subst (λ own. PeerStands b acts (node_at own place) x) (sym stands.own) (stands.peers place x at)

  pub stands_called : (b : Beginning) (acts : WireActs P) (w : WireState P) (to : ℕ) (message : List ℕ) (purpose : P) → to ≢ w.own → ((p : PeerState P) → slice_get w.peers (place_of w.own to) ≡ Some p → IsSendable p.exchange.format message × (p.exchange.stopped ≡ false) × (p.exchange.next < never_used)) → WireStands w b acts → WireStands (change_peer (λ p. peer_called p message purpose) w to) b (followed_by acts (CallTo to message purpose))
  stands_called b acts w to message purpose differ may stands =
      stands_changed b acts (CallTo to message purpose) _ w to differ stands
      (λ p at here. peer_stands_called b acts to message purpose p (may p at).0 (may p at).1 (may p at).2 here)
      (λ other p differs here. unmoved b acts (CallTo to message purpose) other p (elsewhere (Call message) to other differs)
      (λ n. ap (λ x. cond (x && eqb n (b.first + calls_made (acts_at (pair_of b) other acts))) (Some purpose) (purpose_of (pair_of b) other acts n)) (ne_eqb to other (λ same. differs (sym same)))) here)

  pub stands_heard : (b : Beginning) (acts : WireActs P) (w : WireState P) (from : ℕ) (s : Piece) → from ≢ w.own → IsSegment s → WireStands w b acts → WireStands (change_peer (λ p. peer_heard p s) w from) b (followed_by acts (CameFrom from s))
  stands_heard b acts w from s differ segment stands =
      stands_changed b acts (CameFrom from s) _ w from differ stands
      (λ p at here. peer_stands_heard b acts from s p segment here)
      (λ other p differs here. unmoved b acts (CameFrom from s) other p (elsewhere (Came s) from other differs) (λ n. refl) here)

  pub stands_stopped : (b : Beginning) (acts : WireActs P) (w : WireState P) (node : ℕ) → node ≢ w.own → WireStands w b acts → WireStands (change_peer peer_stopped w node) b (followed_by acts (StopOf node))
  stands_stopped b acts w node differ stands =
      stands_changed b acts (StopOf node) _ w node differ stands
      (λ p at here. peer_stands_stopped b acts node p here)
      (λ other p differs here. unmoved b acts (StopOf node) other p (elsewhere Stop node other differs) (λ n. refl) here)

  pub stands_ticked : (b : Beginning) (acts : WireActs P) (w : WireState P) → WireStands w b acts → WireStands (all_ticked w) b (followed_by acts TickAll)
  stands_ticked b acts w stands = record {
    one = stands.one;
    own = stands.own;
    format = stands.format;
    nodes = length-map w.peers peer_ticked ∙ stands.nodes;
    peers = λ place p is. count_tick place p (slice_get w.peers place) refl (sym (get_map peer_ticked w.peers place) ∙ is);
  }
    where
      count_tick : (place : ℕ) (p : PeerState P) (o : Option (PeerState P)) → slice_get w.peers place ≡ o → option_map peer_ticked o ≡ Some p → PeerStands b (followed_by acts TickAll) (node_at b.own place) p
      count_tick place p None at is = absurd cc
      count_tick place p (Some x) at is = (let same : peer_ticked x ≡ p = cc in subst (λ q. PeerStands b (followed_by acts TickAll) (node_at b.own place) q) same (peer_stands_ticked b acts (node_at b.own place) x (stands.peers place x at)))

  -- a return that is handed over where its call awaits it, or to no use
  pub stands_answered : (b : Beginning) (acts : WireActs P) (w : WireState P) (caller : Caller) (message : List ℕ) → caller.node ≢ w.own → ((p : PeerState P) → slice_get w.peers (place_of w.own caller.node) ≡ Some p → IsSendable p.exchange.format message × (awaits_return p.exchange caller.number ≡ true)) → WireStands w b acts → WireStands (change_peer (λ p. peer_answered p caller.number message) w caller.node) b (followed_by acts (AnswerTo caller message))
  stands_answered b acts w caller message differ may stands =
      stands_changed b acts (AnswerTo caller message) _ w caller.node differ stands
      (λ p at here. peer_stands_answered b acts caller message p (may p at).0 (may p at).1 here)
      (λ other p differs here. unmoved b acts (AnswerTo caller message) other p
      (ap (λ x. cond (x && awaits_after (pair_of b) (acts_at (pair_of b) other acts) caller.number) (Some (Return caller.number message)) None) (ne_eqb caller.node other (λ same. differs (sym same)))) (λ n. refl) here)

  pub stands_unanswered : (b : Beginning) (acts : WireActs P) (w : WireState P) (caller : Caller) (message : List ℕ) → ((place : ℕ) (p : PeerState P) → slice_get w.peers place ≡ Some p → node_at w.own place ≡ caller.node → awaits_return p.exchange caller.number ≡ false) → WireStands w b acts → WireStands w b (followed_by acts (AnswerTo caller message))
  stands_unanswered b acts w caller message none stands = record {
    one = stands.one;
    own = stands.own;
    format = stands.format;
    nodes = stands.nodes;
    peers = λ place p at.
        let node = node_at b.own place in
        let here = stands.peers place p at in
        unmoved b acts (AnswerTo caller message) node p
        (elim (eqb_tells caller.node node) [
          | inl same ↦ ap (λ x. cond (x && awaits_after (pair_of b) (acts_at (pair_of b) node acts) caller.number) (Some (Return caller.number message)) None) same.0
              ∙ ap (λ x. cond x (Some (Return caller.number message)) None)
              (sym (following.awaits_as_owed p.exchange b.first b.format _ here.pair caller.number) ∙ none place p at (ap (λ own. node_at own place) stands.own ∙ sym same.1))
          | inr differ ↦ ap (λ x. cond (x && awaits_after (pair_of b) (acts_at (pair_of b) node acts) caller.number) (Some (Return caller.number message)) None) differ.0
        ]) (λ n. refl) here;
  }

  pub stands_begun : (b : Beginning) (w : WireState P) → b.own < b.nodes → w ≡ before_any b → WireStands w b begun
  stands_begun b w one is = subst (λ x. WireStands x b begun) (sym is) (record {
    one = one;
    own = refl;
    format = refl;
    nodes = length-replicate (b.nodes - 1) (fresh_peer b.first b.format);
    peers = λ place p at. fresh (b.nodes - 1) place p at;
  })
    where
      fresh : (count place : ℕ) (p : PeerState P) → slice_get (replicate count (fresh_peer b.first b.format)) place ≡ Some p → PeerStands b begun (node_at b.own place) p
      fresh count place p at = subst (λ q. PeerStands b begun (node_at b.own place) q) (same_item (fresh_peer b.first b.format) count place p at) (record {
        pair = following.stands_first (start b.first b.format) b.first b.format refl;
        purposes = λ n. get-empty nat_cmp n ∙ sym (none_kept (has_arrived (taken_by (pair_of b) none_yet) 1 n));
      })
