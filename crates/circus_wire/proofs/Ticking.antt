-- Ticks that come to one pair after another.
use Rattle.std.proofs.Common.{◌≡◌, ℕ, zero, suc, ◌+◌, ◌<◌, List, [], ◌∷◌, ◌++◌, length, take, drop, refl, sym, ap, ◌∙◌, arith, add-one}
use Rattle.std.specs.Prelude.{slice_get, map, option_map}
use Rattle.circus_wire.specs.Wire.{PeerState, WireState, changed_at, peer_ticked, given_below, of_peer, node_at}

module _ {X : Type 0} (f : X → X) where
  -- a list of which the items below a place have changed
  abbrev pub upto : List X → ℕ → List X
  upto xs n = map f (take n xs) ++ drop n xs

  more_changed : (xs : List X) (n : ℕ) → n < length xs → changed_at f (upto xs n) n ≡ upto xs (suc n)
  unfolding changed_at
  more_changed [] n less = absurd (omega arith)
  more_changed (x ∷ xs) zero less = refl
  more_changed (x ∷ xs) (suc n) less = ap (λ ys. f x ∷ ys) (more_changed xs n (omega arith))

  pub one_more : (xs : List X) (n : ℕ) → n < length xs → changed_at f (upto xs n) n ≡ upto xs (n + 1)
  one_more xs n less = more_changed xs n less ∙ ap (upto xs) (sym (add-one n))

  pub not_yet : (xs : List X) (n : ℕ) → n < length xs → slice_get (upto xs n) n ≡ slice_get xs n
  not_yet [] n less = absurd (omega arith)
  not_yet (x ∷ xs) zero less = refl
  not_yet (x ∷ xs) (suc n) less = not_yet xs n (omega arith)

  pub get_map : (xs : List X) (n : ℕ) → slice_get (map f xs) n ≡ option_map f (slice_get xs n)
  get_map [] n = refl
  get_map (x ∷ xs) zero = refl
  get_map (x ∷ xs) (suc n) = get_map xs n

module _ {P : Type 0} where
  abbrev pub ticked_upto : WireState P → ℕ → WireState P
  ticked_upto w n = record w { peers = upto peer_ticked w.peers n }

  pub tick_more : (w : WireState P) (n : ℕ) → n < length w.peers → ◌≡◌ {A = WireState P} (record (ticked_upto w n) { peers = changed_at peer_ticked (ticked_upto w n).peers n }) (ticked_upto w (n + 1))
  tick_more w n less = ap (λ (ps : List (PeerState P)). let x : WireState P = record w { peers = ps } in x) (one_more peer_ticked w.peers n less)

  pub given_more : {X : Type 0} (given : ℕ → PeerState P → List X) (w : WireState P) (n : ℕ) → n < length w.peers → given_below given w n ++ of_peer [] (given (node_at w.own n)) (slice_get (ticked_upto w n).peers n) ≡ given_below given w (n + 1)
  unfolding given_below
  given_more given w n less =
      ap (λ o. given_below given w n ++ of_peer [] (given (node_at w.own n)) o) (not_yet peer_ticked w.peers n less)
      ∙ ap (given_below given w) (sym (add-one n))
