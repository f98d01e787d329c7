-- A wire of which the pair with one node changes.
use Rattle.std.proofs.Common.{◌≡◌, ◌≢◌, ℕ, ◌<◌, ◌≤◌, Bool, true, false, cond, List, length, set, get_or, Option, None, Some, refl, sym, ap, subst, ◌∙◌, inl, inr, eq-eqb, ltb, Bor}
use Rattle.std.specs.Prelude.{slice_get, is_some, IfSome, option_copied}
use Rattle.std.proofs.lemmas.Bool.{ne_eqb, ltb-true, ltb-false}
use Rattle.std.proofs.lemmas.Bool.Decides.{eqb_tells}
use Rattle.std.proofs.lemmas.List.{length-set}
use Rattle.std.proofs.lemmas.Option.{slice_get_read, slice_get_past, slice_get_within, get_or_from_slice_get}
use Rattle.circus_wire.specs.Wire.{PeerState, WireState, place_of, node_at, changed_at, change_peer, peer_at, of_peer, Remains, IsOther}
use Rattle.circus_wire.specs.Seen.Kept.{AreKept}
use Rattle.circus_wire.proofs.Places.{set_is, place_within}

module _ {P : Type 0} where
  pub state_is : (w : WireState P) (own format node place : ℕ) (peers : List (PeerState P)) (old new : PeerState P) (change : PeerState P → PeerState P) → ◌≡◌ {A = WireState P} (record { own = own; format = format; peers = peers }) w → place ≡ place_of own node → slice_get peers place ≡ Some old → new ≡ change old → ◌≡◌ {A = WireState P} (record { own = own; format = format; peers = set peers place new }) (change_peer change w node)
  state_is w own format node place peers old new change is at here then_ =
      ap (λ (ps : List (PeerState P)). let x : WireState P = record { own = own; format = format; peers = ps } in x)
      (ap (set peers place) then_ ∙ set_is change peers place old here ∙ ap (λ n. changed_at change peers n) at)
      ∙ ap (λ (x : WireState P). change_peer change x node) is

  -- the pair with a node, where it is in a list of pairs
  pub record Found (own : ℕ) (peers : List (PeerState P)) (node : ℕ) (Q : PeerState P → Type 0) : Type 0 where
    pub peer : PeerState P
    pub there : slice_get peers (place_of own node) ≡ Some peer
    pub differs : node ≢ own
    pub is : Q peer

  given_some : (test : PeerState P → Bool) (o : Option (PeerState P)) → of_peer false test o ≡ true → (p : PeerState P) × (o ≡ Some p) × (test p ≡ true)
  given_some test None h = absurd cc
  given_some test (Some p) h = (p, refl, h)

  at_other : (own format : ℕ) (peers : List (PeerState P)) (node : ℕ) (p : PeerState P) → peer_at (record { own = own; format = format; peers = peers }) node ≡ Some p → (node ≢ own) × (slice_get peers (place_of own node) ≡ Some p)
  unfolding peer_at
  at_other own format peers node p h = elim (eqb_tells node own) [
    | inl same ↦ absurd (nothing (sym (ap (λ b. cond b None (slice_get peers (place_of own node))) same.0) ∙ h))
    | inr differ ↦ (differ.1, sym (ap (λ b. cond b None (slice_get peers (place_of own node))) differ.0) ∙ h)
  ]
    where
      nothing : ◌≡◌ {A = Option (PeerState P)} None (Some p) → ⊥
      nothing e = cc

  -- a test of the pair with a node finds it
  pub found_by : (test : PeerState P → Bool) (w : WireState P) (own format : ℕ) (peers : List (PeerState P)) (node : ℕ) → ◌≡◌ {A = WireState P} (record { own = own; format = format; peers = peers }) w → of_peer false test (peer_at w node) ≡ true → Found own peers node (λ p. test p ≡ true)
  found_by test w own format peers node is h =
      let given = given_some test (peer_at w node) h in
      let there = at_other own format peers node given.0 (ap (λ (x : WireState P). peer_at x node) is ∙ given.1) in
      record { peer = given.0; there = there.1; differs = there.0; is = given.2 }

  -- what is read at the place of another node is the pair with it
  pub read_other : (w : WireState P) (own format : ℕ) (peers : List (PeerState P)) (node place : ℕ) (x : PeerState P) → ◌≡◌ {A = WireState P} (record { own = own; format = format; peers = peers }) w → IsOther w node → AreKept own format peers → place ≡ place_of own node → x ≡ get_or peers place x → slice_get peers place ≡ Some x
  read_other w own format peers node place x is other kept at read =
      slice_get_read peers (length peers) place x refl
      (subst (λ n. n < length peers) (sym at) (place_within own node (length peers) (λ same. other.0 (same ∙ ap (λ (x : WireState P). x.own) is)) (subst (λ n. node ≤ n) (sym (ap (λ (x : WireState P). length x.peers) is)) other.1) kept.own_is))
      read

  -- what is read at the place where a pair was found is that pair
  pub read_found : (own : ℕ) (peers : List (PeerState P)) (node place : ℕ) (x peer : PeerState P) → place ≡ place_of own node → slice_get peers (place_of own node) ≡ Some peer → x ≡ get_or peers place x → x ≡ peer
  read_found own peers node place x peer at there read = read ∙ ap (λ n. get_or peers n x) at ∙ get_or_from_slice_get peers (place_of own node) peer x there

  pub found_within : (own : ℕ) (peers : List (PeerState P)) (node place : ℕ) (peer : PeerState P) → place ≡ place_of own node → slice_get peers (place_of own node) ≡ Some peer → place < length peers
  found_within own peers node place peer at there = subst (λ n. n < length peers) (sym at) (slice_get_within peers (place_of own node) peer there)

  pub found_at : (own : ℕ) (peers : List (PeerState P)) (node place : ℕ) (x peer : PeerState P) → place ≡ place_of own node → slice_get peers (place_of own node) ≡ Some peer → x ≡ peer → slice_get peers place ≡ Some x
  found_at own peers node place x peer at there same = ap (slice_get peers) at ∙ there ∙ ap (λ (y : PeerState P). Some y) (sym same)

  pub not_own : (w : WireState P) (own format : ℕ) (peers : List (PeerState P)) (node : ℕ) → ◌≡◌ {A = WireState P} (record { own = own; format = format; peers = peers }) w → node ≢ w.own → node ≢ own
  not_own w own format peers node is differ same = differ (same ∙ ap (λ (x : WireState P). x.own) is)

  -- so that is the pair with the node
  pub peer_is : (w : WireState P) (own format : ℕ) (peers : List (PeerState P)) (node place : ℕ) (x : PeerState P) → ◌≡◌ {A = WireState P} (record { own = own; format = format; peers = peers }) w → node ≢ own → place ≡ place_of own node → slice_get peers place ≡ Some x → peer_at w node ≡ Some x
  unfolding peer_at
  peer_is w own format peers node place x is differ at here =
      ap (λ (y : WireState P). peer_at y node) (sym is)
      ∙ ap (λ b. cond b None (slice_get peers (place_of own node))) (ne_eqb node own differ)
      ∙ ap (slice_get peers) (sym at) ∙ here

  -- there is no pair with the node itself
  pub own_has_none : (w : WireState P) (own format : ℕ) (peers : List (PeerState P)) (node : ℕ) → ◌≡◌ {A = WireState P} (record { own = own; format = format; peers = peers }) w → node ≡ own → None ≡ peer_at w node
  unfolding peer_at
  own_has_none w own format peers node is same =
      sym (ap (λ b. cond b None (slice_get peers (place_of own node))) (eq-eqb node own same)) ∙ ap (λ (y : WireState P). peer_at y node) is

  pub other_has : (w : WireState P) (own format : ℕ) (peers : List (PeerState P)) (node place : ℕ) (o : Option (PeerState P)) → ◌≡◌ {A = WireState P} (record { own = own; format = format; peers = peers }) w → node ≢ own → place ≡ place_of own node → o ≡ slice_get peers place → o ≡ peer_at w node
  unfolding peer_at
  other_has w own format peers node place o is differ at got =
      got ∙ ap (slice_get peers) at
      ∙ sym (ap (λ b. cond b None (slice_get peers (place_of own node))) (ne_eqb node own differ))
      ∙ ap (λ (y : WireState P). peer_at y node) is

  -- what is read of a list is what it has there
  pub copied_is : (peers : List (PeerState P)) (place : ℕ) (o : Option (Bor (PeerState P))) → is_some o ≡ ltb place (length peers) → IfSome o (λ x. x.now ≡ get_or peers place x.now) → option_copied o ≡ slice_get peers place
  copied_is peers place None none read = sym (slice_get_past peers place (ltb-false place (length peers) (sym none)))
  copied_is peers place (Some x) some read = sym (slice_get_read peers (length peers) place x.now refl (ltb-true place (length peers) (sym some)) read)

  pub state_at : (w : WireState P) (own format place : ℕ) (peers : List (PeerState P)) (old new : PeerState P) (change : PeerState P → PeerState P) → ◌≡◌ {A = WireState P} (record { own = own; format = format; peers = peers }) w → slice_get peers place ≡ Some old → new ≡ change old → ◌≡◌ {A = WireState P} (record { own = own; format = format; peers = set peers place new }) (record w { peers = changed_at change w.peers place })
  state_at w own format place peers old new change is here then_ =
      ap (λ (ps : List (PeerState P)). let x : WireState P = record { own = own; format = format; peers = ps } in x)
      (ap (set peers place) then_ ∙ set_is change peers place old here)
      ∙ ap (λ (x : WireState P). let y : WireState P = record x { peers = changed_at change x.peers place } in y) is

  pub read_at : (w : WireState P) (own format : ℕ) (peers : List (PeerState P)) (place : ℕ) (x : PeerState P) → ◌≡◌ {A = WireState P} (record { own = own; format = format; peers = peers }) w → place < length w.peers → x ≡ get_or peers place x → slice_get peers place ≡ Some x
  read_at w own format peers place x is less read =
      slice_get_read peers (length peers) place x refl (subst (λ n. place < n) (sym (ap (λ (y : WireState P). length y.peers) is)) less) read

  -- what a pair at a place gives
  pub given_at : {X : Type 0} (none : X) (given : ℕ → PeerState P → X) (w : WireState P) (own format : ℕ) (peers : List (PeerState P)) (place node : ℕ) (x : PeerState P) → ◌≡◌ {A = WireState P} (record { own = own; format = format; peers = peers }) w → node ≡ node_at own place → slice_get peers place ≡ Some x → given node x ≡ of_peer none (given (node_at w.own place)) (slice_get w.peers place)
  given_at none given w own format peers place node x is at here =
      ap (λ n. given n x) at
      ∙ ap (of_peer none (given (node_at own place))) (sym here)
      ∙ ap (λ (y : WireState P). of_peer none (given (node_at y.own place)) (slice_get y.peers place)) is

  pub set_remains : (w : WireState P) (own format place : ℕ) (peers : List (PeerState P)) (new : PeerState P) → ◌≡◌ {A = WireState P} (record { own = own; format = format; peers = peers }) w → Remains w (record { own = own; format = format; peers = set peers place new })
  set_remains w own format place peers new is = record {
    own = ap (λ (x : WireState P). x.own) is;
    format = ap (λ (x : WireState P). x.format) is;
    pairs = length-set peers place new ∙ ap (λ (x : WireState P). length x.peers) is;
  }

  pub itself_remains : (w : WireState P) → Remains w w
  itself_remains w = record { own = refl; format = refl; pairs = refl }

  pub remains_on : (w x y : WireState P) → Remains w x → Remains x y → Remains w y
  remains_on w x y first then = record { own = then.own ∙ first.own; format = then.format ∙ first.format; pairs = then.pairs ∙ first.pairs }
