-- A step need close no asks but those that it concerns, and the one that waited before it.
use Rattle.std.proofs.Common.{◌≡◌, Bool, true, false, not, ◌&&◌, cond, if◌then◌else◌, List, [], ◌∷◌, filter, All, Option, Some, None, refl, sym, subst, ap, ◌∙◌}
use Rattle.std.specs.Prelude.{◌||◌, slice_index_or}
use Rattle.std.specs.Option.{option_map_or}
use Rattle.std.specs.Map.{remove_entry, keys_of}
use Rattle.std.proofs.lemmas.List.Elements.{All-head, All-tail, All-weaker}
use Rattle.std.proofs.lemmas.Map.{NonePasses}
use Rattle.std.proofs.lemmas.Map.Entries.{none_past_head}
use Rattle.std.proofs.lemmas.Map.Keys.{IsDistinct-tail}
use Rattle.circus_fanout.specs.Knowing.{Knowing}
use Rattle.circus_fanout.specs.Asking.{Asking}
use Rattle.circus_member_rules.specs.declared.closing.Concern.{Concern}
use Rattle.circus_member_rules.specs.declared.closing.Concern.TheVariants as concern
use Rattle.circus_member_rules.specs.declared.occurrence.AskName.{AskName}
use Rattle.circus_member_rules.specs.OpenAsks.{is_name, is_waiting, asking_of}
use Rattle.circus_member_rules.specs.Rules.{is_settled, stays_open, close_asks}
use Rattle.circus_member_rules.specs.Seen.Closing.{close_ask, close_one, close_concerned, close_by}
use Rattle.circus_member_rules.specs.Seen.Sound.{AreNamed}
use Rattle.circus_member_rules.proofs.Named.{names_decide, names_are, named-filtered}

-- ---- filters

module _ {X : Type 0} where
  -- two tests that agree on all keep the same
  pub filter_same : (p q : X → Bool) (xs : List X) → All (λ x. p x ≡ q x) xs → filter p xs ≡ filter q xs
  filter_same p q [] all = refl
  filter_same p q (x ∷ xs) all =
      let rest = filter_same p q xs (All-tail (λ y. p y ≡ q y) x xs all) in
      rw (All-head (λ y. p y ≡ q y) x xs all) (ap (λ ys. cond (q x) (x ∷ ys) ys) rest)

  pub filter_twice : (p q : X → Bool) (xs : List X) → filter q (filter p xs) ≡ filter (λ x. p x && q x) xs
  filter_twice p q [] = refl
  filter_twice p q (x ∷ xs) =
      let rest = filter_twice p q xs in
      elim (p x) as (λ t. filter q (cond t (x ∷ filter p xs) (filter p xs)) ≡ cond (t && q x) (x ∷ filter (λ y. p y && q y) xs) (filter (λ y. p y && q y) xs)) [
        | true ↦ ap (λ ys. cond (q x) (x ∷ ys) ys) rest
        | false ↦ rest
      ]

  filter_all : (p : X → Bool) (xs : List X) → All (λ x. p x ≡ true) xs → filter p xs ≡ xs
  filter_all p [] all = refl
  filter_all p (x ∷ xs) all =
      rw (All-head (λ y. p y ≡ true) x xs all) (ap (λ ys. x ∷ ys) (filter_all p xs (All-tail (λ y. p y ≡ true) x xs all)))

-- what holds of everything holds of all
pub all_of : {X : Type 0} (P : X → Type 0) (xs : List X) → ((x : X) → P x) → All P xs
all_of P xs each = λ k d within. each (slice_index_or xs k d)

-- an ask of this name may be closed
abbrev pub is_concerned : Concern → Option AskName → AskName → Bool
is_concerned (concern.One one) waited name = is_name one name || is_waiting waited name
is_concerned concern.Nothing waited name = is_waiting waited name
is_concerned concern.Each waited name = true

-- ---- one ask is closed

module _ (k : Knowing) (waits : AskName → Bool) where
  -- of this name, or one that stays
  abbrev spared : AskName → AskName × Asking → Bool
  spared name e = not (is_name name e.0) || stays_open k waits e

  -- entries of other names are spared
  others_spared : (name : AskName) (es : List (AskName × Asking)) → NonePasses (is_name name) es → filter (spared name) es ≡ es
  others_spared name [] none = refl
  others_spared name (e ∷ es) none = rw none.0 (ap (λ fs. e ∷ fs) (others_spared name es none.1))

  -- one is gone where it neither waits nor is unsettled
  gone : (name : AskName) → waits name ≡ false → (asks : List (AskName × Asking)) → AreNamed asks → close_ask k name asks ≡ filter (spared name) asks
  gone name still [] named = refl
  gone name still (e ∷ es) named = by_name (gone name still es (IsDistinct-tail is_name e.0 (keys_of es) named)) (is_name name e.0) refl
    where
      by_settled : is_name name e.0 ≡ true → (s : Bool) → is_settled k e.1 ≡ s → (if s then es else e ∷ es) ≡ cond (waits e.0 || not s) (e ∷ filter (spared name) es) (filter (spared name) es)
      by_settled here s is =
          let same : name ≡ e.0 = (names_decide name e.0).0 here in
          let rest : filter (spared name) es ≡ es = others_spared name es (none_past_head names_are name e es named here) in
          let waiting : waits e.0 ≡ false = subst (λ n. waits n ≡ false) same still in
          rw (waiting, rest) (both s)
        where
          both : (t : Bool) → (if t then es else e ∷ es) ≡ cond (not t) (e ∷ es) es
          both true = refl
          both false = refl

      by_found : (o : Option Asking) → asking_of es name ≡ o → option_map_or (λ (a : Asking). if is_settled k a then remove_entry (is_name name) es else es) o es ≡ filter (spared name) es → option_map_or (λ (a : Asking). if is_settled k a then e ∷ remove_entry (is_name name) es else e ∷ es) o (e ∷ es) ≡ e ∷ filter (spared name) es
      by_found None is rest = ap (λ fs. e ∷ fs) rest
      by_found (Some a) is rest = moved (is_settled k a) rest
        where
          moved : (s : Bool) → (if s then remove_entry (is_name name) es else es) ≡ filter (spared name) es → (if s then e ∷ remove_entry (is_name name) es else e ∷ es) ≡ e ∷ filter (spared name) es
          moved true r = ap (λ fs. e ∷ fs) r
          moved false r = ap (λ fs. e ∷ fs) r

      by_name : close_ask k name es ≡ filter (spared name) es → (t : Bool) → is_name name e.0 ≡ t → close_ask k name (e ∷ es) ≡ filter (spared name) (e ∷ es)
      by_name rest true here = rw here (by_settled here (is_settled k e.1) refl)
      by_name rest false here = rw here (by_found (asking_of es name) refl rest)

  close_one_is : (name : AskName) (asks : List (AskName × Asking)) → AreNamed asks → close_one k waits name asks ≡ filter (spared name) asks
  close_one_is name asks named = by_test (waits name) refl
    where
      here : waits name ≡ true → (e : AskName × Asking) → (t : Bool) → is_name name e.0 ≡ t → spared name e ≡ true
      here waiting e false other = rw other refl
      here waiting e true same =
          let still : waits e.0 ≡ true = subst (λ n. waits n ≡ true) ((names_decide name e.0).0 same) waiting in
          rw (same, still) refl

      by_test : (t : Bool) → waits name ≡ t → (if t then asks else close_ask k name asks) ≡ filter (spared name) asks
      by_test true waiting = sym (filter_all (spared name) asks (all_of (λ e. spared name e ≡ true) asks (λ e. here waiting e (is_name name e.0) refl)))
      by_test false still = gone name still asks named

  -- ---- those that a step concerns

  by_concern : Concern → AskName × Asking → Bool
  by_concern (concern.One name) e = spared name e
  by_concern concern.Nothing e = true
  by_concern concern.Each e = stays_open k waits e

  by_waited : Option AskName → AskName × Asking → Bool
  by_waited None e = true
  by_waited (Some name) e = spared name e

  concerned_is : (c : Concern) (asks : List (AskName × Asking)) → AreNamed asks → close_concerned k waits c asks ≡ filter (by_concern c) asks
  unfolding by_concern
  concerned_is (concern.One name) asks named = close_one_is name asks named
  concerned_is concern.Nothing asks named = sym (filter_all (λ e. true) asks (all_of (λ e. true ≡ true) asks (λ e. refl)))
  concerned_is concern.Each asks named = refl

  waited_is : (waited : Option AskName) (asks : List (AskName × Asking)) → AreNamed asks → option_map_or (λ name. close_one k waits name asks) waited asks ≡ filter (by_waited waited) asks
  unfolding by_waited
  waited_is None asks named = sym (filter_all (λ e. true) asks (all_of (λ e. true ≡ true) asks (λ e. refl)))
  waited_is (Some name) asks named = close_one_is name asks named

  agree : (c : Concern) (waited : Option AskName) (e : AskName × Asking) → (is_concerned c waited e.0 ≡ false → stays_open k waits e ≡ true) → (by_concern c e && by_waited waited e) ≡ stays_open k waits e
  unfolding by_concern by_waited
  agree (concern.One one) (Some other) e stays = both (is_name one e.0) (is_name other e.0) (stays_open k waits e) stays
    where
      both : (a b s : Bool) → ((a || b) ≡ false → s ≡ true) → ((not a || s) && (not b || s)) ≡ s
      both true true true h = refl
      both true true false h = refl
      both true false true h = refl
      both true false false h = refl
      both false true true h = refl
      both false true false h = refl
      both false false true h = refl
      both false false false h = sym (h refl)
  agree (concern.One one) None e stays = alone (is_name one e.0) (stays_open k waits e) stays
    where
      alone : (a s : Bool) → ((a || false) ≡ false → s ≡ true) → ((not a || s) && true) ≡ s
      alone true true h = refl
      alone true false h = refl
      alone false true h = refl
      alone false false h = sym (h refl)
  agree concern.Nothing (Some other) e stays = alone (is_name other e.0) (stays_open k waits e) stays
    where
      alone : (a s : Bool) → (a ≡ false → s ≡ true) → (not a || s) ≡ s
      alone true s h = refl
      alone false s h = sym (h refl)
  agree concern.Nothing None e stays = sym (stays refl)
  agree concern.Each (Some other) e stays = each (is_name other e.0) (stays_open k waits e)
    where
      each : (a s : Bool) → (s && (not a || s)) ≡ s
      each true true = refl
      each true false = refl
      each false true = refl
      each false false = refl
  agree concern.Each None e stays = each (stays_open k waits e)
    where
      each : (s : Bool) → (s && true) ≡ s
      each true = refl
      each false = refl

  -- where all others stay, it comes to the same as closing each
  pub close_by_same : (c : Concern) (waited : Option AskName) (asks : List (AskName × Asking)) → AreNamed asks → All (λ (e : AskName × Asking). is_concerned c waited e.0 ≡ false → stays_open k waits e ≡ true) asks → close_by k waits c waited asks ≡ close_asks k waits asks
  close_by_same c waited asks named all =
      let first = concerned_is c asks named in
      ap (λ es. option_map_or (λ name. close_one k waits name es) waited es) first
      ∙ waited_is waited (filter (by_concern c) asks) (named-filtered (by_concern c) asks named)
      ∙ filter_twice (by_concern c) (by_waited waited) asks
      ∙ filter_same (λ e. by_concern c e && by_waited waited e) (stays_open k waits) asks
      (All-weaker (λ (e : AskName × Asking). is_concerned c waited e.0 ≡ false → stays_open k waits e ≡ true) (λ (e : AskName × Asking). (by_concern c e && by_waited waited e) ≡ stays_open k waits e) (λ e. agree c waited e) asks all)
