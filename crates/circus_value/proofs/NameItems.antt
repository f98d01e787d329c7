-- The places of names in a table that a loop fills, each with the first place at which the name stands.
use Rattle.std.proofs.Common.{◌≡◌, ℕ, ◌+◌, Bool, true, false, cond, List, [], ◌∷◌, map, refl, sym, ap, subst, ◌∙◌, Option, Some, None, bytes_eq, nat_cmp, is_some}
use Rattle.std.proofs.lemmas.Slice.Eq.{bytes_eq-Decides}
use Rattle.std.proofs.lemmas.Map.Text.{is_eq-slice_cmp}
use Rattle.std.specs.Cmp.{eq_by_cmp_equiv}
use Rattle.std.specs.Cmp.Lexicographic.{slice_cmp, nat_list_cmp_total, nat_list_eq_equiv}
use Rattle.std.specs.Ordering.{is_eq}
use Rattle.std.specs.Map.{lookup, IsKeyTest, AreApart, KeepsOthers}
use Rattle.std.specs.BTreeMap.{BTreeMap, Updates}
use Rattle.std.specs.List.{position_from}
use Rattle.std.specs.declared.alloc.Global.{Global}
use Rattle.std.specs.declared.vec.Vec.{Vec}
use Rattle.circus_value.specs.Seen.NamePlaces.{place_in, named_places}

-- the place that was found, or else another
abbrev pub or_place : Option ℕ → Option ℕ → Option ℕ
or_place (Some k) other = Some k
or_place None other = other

-- where the first is in a list that is made of another
pub first_made : {X Y : Type 0} (f : X → Y) (test : Y → Bool) (i : ℕ) (xs : List X) → position_from (λ x. test (f x)) i xs ≡ position_from test i (map f xs)
first_made f test i [] = refl
first_made f test i (x ∷ xs) = ap (cond (test (f x)) (Some i)) (first_made f test (i + 1) xs)

-- one more item: its place is taken where its name had none
pub place_more : {X : Type 0} (test : X → Bool) (i : ℕ) (x : X) (rest : List X) (old new whole : Option ℕ) → new ≡ or_place old (cond (test x) (Some i) None) → or_place old (position_from test i (x ∷ rest)) ≡ whole → or_place new (position_from test (i + 1) rest) ≡ whole
place_more test i x rest (Some k) new whole is before = rw is before
place_more test i x rest None new whole is before = more (test x) is before
  where
    more : (b : Bool) → new ≡ cond b (Some i) None → cond b (Some i) (position_from test (i + 1) rest) ≡ whole → or_place new (position_from test (i + 1) rest) ≡ whole
    more true is before = rw is before
    more false is before = rw is before

others : {K X : Type 0} (eq : K → K → Bool) (test : K → Bool) (old new : List (K × X)) → KeepsOthers eq test old new → (other : K → Bool) → IsKeyTest eq other → AreApart test other → lookup other new ≡ lookup other old
unfolding KeepsOthers
others eq test old new h = h

apart : (bs cs ks : List ℕ) → bytes_eq bs cs ≡ false → is_eq (slice_cmp nat_cmp bs ks) ≡ true → is_eq (slice_cmp nat_cmp cs ks) ≡ false
apart bs cs ks n y =
    is_eq-slice_cmp cs ks ∙ nat_list_eq_equiv.symm cs ks ∙ sym (nat_list_eq_equiv.congr bs ks cs (sym (is_eq-slice_cmp bs ks) ∙ y)) ∙ n

-- a table after one more name
place_put : (k : Vec ℕ Global) (m m' : BTreeMap (Vec ℕ Global) ℕ) (w : Option ℕ) → Updates (λ x y. slice_cmp nat_cmp x.items y.items) m m' k w → (name : List ℕ) → place_in m' name ≡ cond (bytes_eq k.items name) w (place_in m name)
place_put k m m' w h name = more (bytes_eq k.items name) refl
  where
    more : (b : Bool) → bytes_eq k.items name ≡ b → place_in m' name ≡ cond b w (place_in m name)
    more true same = subst (λ l. place_in m' l ≡ w) ((bytes_eq-Decides k.items name).0 same) h.1
    more false differ =
        others _ _ _ _ h.3 _ (λ x y. (eq_by_cmp_equiv nat_list_cmp_total).congr name x.items y.items) (λ q. apart k.items name q.items differ)

none_or : (o : Option ℕ) → o ≡ or_place o None
none_or None = refl
none_or (Some j) = refl

-- a name that had no place takes one
pub place_taken : (k : Vec ℕ Global) (bs : List ℕ) (m m' : BTreeMap (Vec ℕ Global) ℕ) (i : ℕ) → k.items ≡ bs → Updates (λ x y. slice_cmp nat_cmp x.items y.items) m m' k (Some i) → is_some (place_in m bs) ≡ false → (name : List ℕ) → place_in m' name ≡ or_place (place_in m name) (cond (bytes_eq bs name) (Some i) None)
place_taken k bs m m' i same h absent name =
    place_put k m m' (Some i) h name ∙ ap (λ cs. cond (bytes_eq cs name) (Some i) (place_in m name)) same ∙ more (bytes_eq bs name) refl
  where
    none : (o : Option ℕ) → is_some o ≡ false → Some i ≡ or_place o (Some i)
    none None is = refl
    none (Some j) is = absurd (cc)

    more : (b : Bool) → bytes_eq bs name ≡ b → cond b (Some i) (place_in m name) ≡ or_place (place_in m name) (cond b (Some i) None)
    more true is = none (place_in m name) (subst (λ q. is_some (place_in m q) ≡ false) ((bytes_eq-Decides bs name).0 is) absent)
    more false differ = none_or (place_in m name)

-- a name that had a place keeps it
pub place_kept : (m : BTreeMap (Vec ℕ Global) ℕ) (bs : List ℕ) (i : ℕ) → is_some (place_in m bs) ≡ true → (name : List ℕ) → place_in m name ≡ or_place (place_in m name) (cond (bytes_eq bs name) (Some i) None)
place_kept m bs i there name = more (bytes_eq bs name) refl
  where
    some : (o other : Option ℕ) → is_some o ≡ true → o ≡ or_place o other
    some None other is = absurd (cc)
    some (Some j) other is = refl

    more : (b : Bool) → bytes_eq bs name ≡ b → place_in m name ≡ or_place (place_in m name) (cond b (Some i) None)
    more true is = some (place_in m name) (Some i) (subst (λ q. is_some (place_in m q) ≡ true) ((bytes_eq-Decides bs name).0 is) there)
    more false differ = none_or (place_in m name)

-- what a table gives for a name, as contracts see it
pub place_seen : (m : BTreeMap (Vec ℕ Global) ℕ) (name : List ℕ) → place_in m name ≡ lookup (bytes_eq name) (named_places m)
place_seen m name = each m.entries
  where
    each : (es : List (Vec ℕ Global × ℕ)) → lookup (λ k. is_eq (slice_cmp nat_cmp name k.items)) es ≡ lookup (bytes_eq name) (map (λ (e : Vec ℕ Global × ℕ). (e.0.items, e.1)) es)
    each [] = refl
    each (e ∷ es) = λ i. cond (is_eq-slice_cmp name e.0.items i) (Some e.1) (each es i)
