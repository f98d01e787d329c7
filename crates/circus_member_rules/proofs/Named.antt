-- What changes keep of the open asks, which stand by their names.
use Rattle.std.proofs.Common.{◌≡◌, Bool, true, false, cond, true≢false, if◌then◌else◌, List, [], ◌∷◌, ◌++◌, filter, All, Option, Some, None, refl, sym, ap, subst, ◌∙◌}
use Rattle.std.specs.Prelude.{IfSome}
use Rattle.std.specs.Bool.{Decides}
use Rattle.std.specs.Option.{option_map_or}
use Rattle.std.specs.Cmp.{IsEquivalence, decided}
use Rattle.std.specs.List.{IsDistinct, list_any}
use Rattle.std.specs.Map.{lookup, set_value, keys_of}
use Rattle.std.proofs.lemmas.Bool.Decides.{Decides-eqb, Decides-and, Decides-like}
use Rattle.std.proofs.lemmas.List.Elements.{All-cons, All-head, All-tail}
use Rattle.std.proofs.lemmas.Map.{keys-set_value, lookup-set_value}
use Rattle.std.proofs.lemmas.Map.Keys.{IsDistinct-push}
use Rattle.std.proofs.lemmas.Map.Entries.{All-lookup}
use Rattle.std.proofs.lemmas.Map.Made.{IsDistinct-keys_filter}
use Rattle.circus_fanout.specs.Asking.{Asking}
use Rattle.circus_member_rules.specs.declared.occurrence.AskName.{AskName}
use Rattle.circus_member_rules.specs.OpenAsks.{is_name, asking_of, with_ask, with_asking}
use Rattle.circus_member_rules.specs.Seen.Sound.{AreNamed}

-- ---- names

pub names_decide : (one other : AskName) → Decides (is_name one other) (one ≡ other)
names_decide one other =
    Decides-like (is_name one other) (λ (e : (one.run ≡ other.run) × (one.ask ≡ other.ask)). λ j. record { run = e.0 j; ask = e.1 j }) (λ (e : one ≡ other). (ap (λ (n : AskName). n.run) e, ap (λ (n : AskName). n.ask) e))
    (Decides-and _ _ (Decides-eqb one.run other.run) (Decides-eqb one.ask other.ask))

pub names_are : IsEquivalence is_name
names_are = decided is_name names_decide

-- ---- entries, by a test of their names

module _ {K X : Type 0} (test : K → Bool) where
  -- the value of those that pass is changed
  pub All-set_value : (P : K × X → Type 0) (es : List (K × X)) (w : X) → ((k : K) → test k ≡ true → P (k, w)) → All P es → All P (set_value test es w)
  All-set_value P [] w new all = all
  All-set_value P (e ∷ es) w new all = by_test (All-set_value P es w new (All-tail P e es all)) (test e.0) refl
    where
      by_test : All P (set_value test es w) → (found : Bool) → test e.0 ≡ found → All P (cond found ((e.0, w) ∷ es) (e ∷ set_value test es w))
      by_test rest true here = All-cons P (e.0, w) es (new e.0 here) (All-tail P e es all)
      by_test rest false here = All-cons P e (set_value test es w) (All-head P e es all) rest

  -- a filter that keeps those that pass finds the same
  pub lookup-kept : (keep : K × X → Bool) (es : List (K × X)) → ((e : K × X) → test e.0 ≡ true → keep e ≡ true) → lookup test (filter keep es) ≡ lookup test es
  lookup-kept keep [] all = refl
  lookup-kept keep (e ∷ es) all = by_tests (lookup-kept keep es all) (test e.0) (keep e) refl refl
    where
      by_tests : lookup test (filter keep es) ≡ lookup test es → (found kept : Bool) → test e.0 ≡ found → keep e ≡ kept → lookup test (cond kept (e ∷ filter keep es) (filter keep es)) ≡ cond found (Some e.1) (lookup test es)
      by_tests rest true true here stays = rw here refl
      by_tests rest true false here stays = absurd (true≢false (sym (all e here) ∙ stays))
      by_tests rest false true here stays = rw here rest
      by_tests rest false false here stays = rest

  none_any : (es : List (K × X)) → lookup test es ≡ None → list_any test (keys_of es) ≡ false
  none_any [] none = refl
  none_any (e ∷ es) none = by_test (none_any es) (test e.0) refl
    where
      by_test : (lookup test es ≡ None → list_any test (keys_of es) ≡ false) → (found : Bool) → test e.0 ≡ found → list_any test (keys_of (e ∷ es)) ≡ false
      by_test rest true here = let none_some : Some e.1 ≡ None = rw here at none in cc
      by_test rest false here = rw here (rest (rw here at none))

-- what is found of a list at whose end an entry is added
pub lookup-push : {K X : Type 0} (test : K → Bool) (es : List (K × X)) (e : K × X) → lookup test (es ++ e ∷ []) ≡ option_map_or Some (lookup test es) (cond (test e.0) (Some e.1) None)
lookup-push test [] e = refl
lookup-push test (f ∷ es) e =
    elim (test f.0) as (λ b. cond b (Some f.1) (lookup test (es ++ e ∷ [])) ≡ option_map_or Some (cond b (Some f.1) (lookup test es)) (cond (test e.0) (Some e.1) None)) [
      | true ↦ refl
      | false ↦ lookup-push test es e
    ]

-- what holds of all asks holds of one that is found
pub found_holds : (P : Asking → Type 0) (asks : List (AskName × Asking)) (name : AskName) (a : Asking) → All (λ (e : AskName × Asking). P e.1) asks → asking_of asks name ≡ Some a → P a
found_holds P asks name a all is = subst (λ o. IfSome o P) is (All-lookup P (is_name name) asks all)

-- ---- an ask is opened

opened_new : (asks : List (AskName × Asking)) (name : AskName) (a : Asking) → asking_of asks name ≡ None → with_ask asks name a ≡ asks ++ (name, a) ∷ []
opened_new [] name a none = refl
opened_new (e ∷ es) name a none = by_test (opened_new es name a) (is_name name e.0) refl
  where
    by_test : (asking_of es name ≡ None → with_ask es name a ≡ es ++ (name, a) ∷ []) → (found : Bool) → is_name name e.0 ≡ found → with_ask (e ∷ es) name a ≡ e ∷ (es ++ (name, a) ∷ [])
    by_test rest true here = let none_some : Some e.1 ≡ None = rw here at none in cc
    by_test rest false here = rw here (ap (λ fs. e ∷ fs) (rest (rw here at none)))

opened_again : (asks : List (AskName × Asking)) (name : AskName) (a before : Asking) → asking_of asks name ≡ Some before → with_ask asks name a ≡ set_value (is_name name) asks a
opened_again [] name a before some = cc
opened_again (e ∷ es) name a before some = by_test (opened_again es name a before) (is_name name e.0) refl
  where
    by_test : (asking_of es name ≡ Some before → with_ask es name a ≡ set_value (is_name name) es a) → (found : Bool) → is_name name e.0 ≡ found → with_ask (e ∷ es) name a ≡ set_value (is_name name) (e ∷ es) a
    by_test rest true here = rw here refl
    by_test rest false here = rw here (ap (λ fs. e ∷ fs) (rest (rw here at some)))

-- the new one has a name that is this
pub All-opened_at : (P : AskName × Asking → Type 0) (asks : List (AskName × Asking)) (name : AskName) (a : Asking) → ((n : AskName) → is_name name n ≡ true → P (n, a)) → All P asks → All P (with_ask asks name a)
All-opened_at P [] name a new all = All-cons P (name, a) [] (new name (names_are.refl name)) all
All-opened_at P (e ∷ es) name a new all = by_test (All-opened_at P es name a new (All-tail P e es all)) (is_name name e.0) refl
  where
    by_test : All P (with_ask es name a) → (found : Bool) → is_name name e.0 ≡ found → All P (if found then (e.0, a) ∷ es else e ∷ with_ask es name a)
    by_test rest true here = All-cons P (e.0, a) es (new e.0 here) (All-tail P e es all)
    by_test rest false here = All-cons P e (with_ask es name a) (All-head P e es all) rest

pub All-opened : (P : Asking → Type 0) (asks : List (AskName × Asking)) (name : AskName) (a : Asking) → P a → All (λ (e : AskName × Asking). P e.1) asks → All (λ (e : AskName × Asking). P e.1) (with_ask asks name a)
All-opened P asks name a new all = All-opened_at (λ (e : AskName × Asking). P e.1) asks name a (λ n here. new) all

pub named-opened : (asks : List (AskName × Asking)) (name : AskName) (a : Asking) → AreNamed asks → AreNamed (with_ask asks name a)
named-opened asks name a named = by_found (asking_of asks name) refl
  where
    by_found : (found : Option Asking) → asking_of asks name ≡ found → AreNamed (with_ask asks name a)
    by_found None is =
        subst AreNamed (sym (opened_new asks name a is))
        (subst (IsDistinct is_name) (sym (keys-push asks)) (IsDistinct-push names_are (keys_of asks) name named (none_any (is_name name) asks is)))
      where
        keys-push : (es : List (AskName × Asking)) → keys_of (es ++ (name, a) ∷ []) ≡ keys_of es ++ name ∷ []
        keys-push [] = refl
        keys-push (e ∷ es) = ap (λ ks. e.0 ∷ ks) (keys-push es)
    by_found (Some before) is =
        subst AreNamed (sym (opened_again asks name a before is)) (subst (IsDistinct is_name) (sym (keys-set_value (is_name name) asks a)) named)

-- it is found by its name
pub opened_there : (asks : List (AskName × Asking)) (name : AskName) (a : Asking) → asking_of (with_ask asks name a) name ≡ Some a
opened_there [] name a = rw (names_are.refl name) refl
opened_there (e ∷ es) name a = by_test (opened_there es name a) (is_name name e.0) refl
  where
    by_test : asking_of (with_ask es name a) name ≡ Some a → (found : Bool) → is_name name e.0 ≡ found → asking_of (with_ask (e ∷ es) name a) name ≡ Some a
    by_test rest true here = rw (here, here) refl
    by_test rest false here = rw (here, here) rest

-- ---- the ask of a name is changed

-- what is changed has a name that is this
pub All-changed_at : (P : AskName × Asking → Type 0) (name : AskName) (change : Asking → Asking) (asks : List (AskName × Asking)) → ((a : Asking) → asking_of asks name ≡ Some a → (n : AskName) → is_name name n ≡ true → P (n, change a)) → All P asks → All P (with_asking name change asks)
All-changed_at P name change asks keeps all = by_found (asking_of asks name) refl
  where
    by_found : (found : Option Asking) → asking_of asks name ≡ found → All P (option_map_or (λ (a : Asking). set_value (is_name name) asks (change a)) found asks)
    by_found None is = all
    by_found (Some a) is = All-set_value (is_name name) P asks (change a) (keeps a is) all

pub All-changed : (P : Asking → Type 0) (name : AskName) (change : Asking → Asking) (asks : List (AskName × Asking)) → ((a : Asking) → asking_of asks name ≡ Some a → P a → P (change a)) → All (λ (e : AskName × Asking). P e.1) asks → All (λ (e : AskName × Asking). P e.1) (with_asking name change asks)
All-changed P name change asks keeps all =
    All-changed_at (λ (e : AskName × Asking). P e.1) name change asks (λ a is n here. keeps a is (found_holds P asks name a all is)) all

pub named-changed : (name : AskName) (change : Asking → Asking) (asks : List (AskName × Asking)) → AreNamed asks → AreNamed (with_asking name change asks)
named-changed name change asks named = by_found (asking_of asks name)
  where
    by_found : (found : Option Asking) → AreNamed (option_map_or (λ (a : Asking). set_value (is_name name) asks (change a)) found asks)
    by_found None = named
    by_found (Some a) = subst (IsDistinct is_name) (sym (keys-set_value (is_name name) asks (change a))) named

-- what holds of the ask of another name, or of this, still does
pub kept-changed : (P : Asking → Type 0) (name other : AskName) (change : Asking → Asking) (asks : List (AskName × Asking)) → ((a : Asking) → P a → P (change a)) → IfSome (asking_of asks other) P → IfSome (asking_of (with_asking name change asks) other) P
kept-changed P name other change asks keeps holds = by_found (asking_of asks name) refl
  where
    by_name : (a : Asking) → asking_of asks name ≡ Some a → (same : Bool) → is_name name other ≡ same → IfSome (cond same (Some (change a)) (asking_of asks other)) P
    by_name a is true same =
        let there : asking_of asks other ≡ Some a = subst (λ n. asking_of asks n ≡ Some a) ((names_decide name other).0 same) is in
        keeps a (rw there at holds)
    by_name a is false same = holds

    by_found : (found : Option Asking) → asking_of asks name ≡ found → IfSome (asking_of (option_map_or (λ (a : Asking). set_value (is_name name) asks (change a)) found asks) other) P
    by_found None is = holds
    by_found (Some a) is =
        subst (λ o. IfSome o P) (sym (lookup-set_value names_are (is_name name) (λ x y here. names_are.congr name x y here) other (change a) asks (rw is refl)))
        (by_name a is (is_name name other) refl)

-- ---- asks are closed

pub named-filtered : (keep : AskName × Asking → Bool) (asks : List (AskName × Asking)) → AreNamed asks → AreNamed (filter keep asks)
named-filtered keep asks named = IsDistinct-keys_filter is_name keep asks named
