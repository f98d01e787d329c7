-- What is known after every list of notices.
use Rattle.std.proofs.Common.{◌≡◌, ℕ, zero, suc, ◌+◌, ◌<◌, ◌≤◌, Bool, true, false, ◌||◌, ◌==◌, nat_lt, max, List, [], ◌∷◌, ◌++◌, length, map, refl, sym, ap, ◌∙◌, arith, append_assoc, subst}
use Rattle.std.specs.Prelude.{◌≢◌, Option, Some, None, option_map, slice_get, slice_set, if◌then◌else◌}
use Rattle.std.specs.List.{AllByRecursion}
use Rattle.std.specs.Option.{option_map_or}
use Rattle.std.proofs.lemmas.Bool.{eqb-true, eqb-false, ltb-true, ltb-false}
use Rattle.circus_value.specs.Among.{is_among}
use Rattle.circus_collate.specs.declared.view.View.{View}
use Rattle.circus_fanout.specs.declared.known.Want.{Want}
use Rattle.circus_fanout.specs.Notices.{Told, Declared, Wanted, LookedUp, Answered, Notices, none_yet, more, views_of, IsHighest, was_declared, greatest_wanted}
use Rattle.circus_fanout.specs.Knowing.{Knowing, no_want, is_newer, note_view, note_down, with_want, asked_of, lookups, asked_all, known_by}

-- ---- lists

-- an item that was put in its place
set_here : {X : Type 0} (xs : List X) (n : ℕ) (x y : X) → slice_get xs n ≡ Some y → slice_get (slice_set xs n x) n ≡ Some x
set_here [] n x y is = absurd (cc)
set_here (z ∷ xs) zero x y is = refl
set_here (z ∷ xs) (suc n) x y is = set_here xs n x y is

-- the others stay
set_there : {X : Type 0} (xs : List X) (n m : ℕ) (x : X) → n ≢ m → slice_get (slice_set xs n x) m ≡ slice_get xs m
set_there [] n m x other = refl
set_there (z ∷ xs) zero zero x other = absurd (other refl)
set_there (z ∷ xs) zero (suc m) x other = refl
set_there (z ∷ xs) (suc n) zero x other = refl
set_there (z ∷ xs) (suc n) (suc m) x other = set_there xs n m x (λ same. other (ap suc same))

all_append : {X : Type 0} (P : X → Type 0) (xs ys : List X) → AllByRecursion P xs → AllByRecursion P ys → AllByRecursion P (xs ++ ys)
all_append P [] ys all others = others
all_append P (x ∷ xs) ys all others = (all.0, all_append P xs ys all.1 others)

-- ---- views

above_more : (known view : View) → known.incarnation < view.incarnation → (views : List View) → AllByRecursion (λ (other : View). other.incarnation < known.incarnation) views → AllByRecursion (λ (other : View). other.incarnation < view.incarnation) views
above_more known view newer [] all = tt
above_more known view newer (v ∷ views) all = (omega (arith, all.0, newer), above_more known view newer views all.1)

below_more : (known view : View) → known.incarnation < view.incarnation → (views : List View) → AllByRecursion (λ (other : View). other.incarnation ≤ known.incarnation) views → AllByRecursion (λ (other : View). other.incarnation < view.incarnation) views
below_more known view newer [] all = tt
below_more known view newer (v ∷ views) all = (omega (arith, all.0, newer), below_more known view newer views all.1)

-- one that is newer than the highest, behind the others
newer_highest : (views : List View) (known view : View) → IsHighest views known → known.incarnation < view.incarnation → IsHighest (views ++ view ∷ []) view
newer_highest views known view highest newer = record {
  earlier = views;
  later = [];
  stands = refl;
  above =
      subst (AllByRecursion (λ (other : View). other.incarnation < view.incarnation)) (sym highest.stands)
      (all_append (λ (other : View). other.incarnation < view.incarnation) highest.earlier (known ∷ highest.later)
      (above_more known view newer highest.earlier highest.above) (newer, below_more known view newer highest.later highest.not_below));
  not_below = tt;
}

-- one that isn't, behind the others
older_highest : (views : List View) (known view : View) → IsHighest views known → view.incarnation ≤ known.incarnation → IsHighest (views ++ view ∷ []) known
older_highest views known view highest older = record {
  earlier = highest.earlier;
  later = highest.later ++ view ∷ [];
  stands = ap (λ vs. vs ++ view ∷ []) highest.stands ∙ append_assoc highest.earlier (known ∷ highest.later) (view ∷ []);
  above = highest.above;
  not_below = all_append (λ (other : View). other.incarnation ≤ known.incarnation) highest.later (view ∷ []) highest.not_below (older, tt);
}

-- once a table came of a troupe of which this view was known
by_table : (views all : List View) (view known : View) (t : ℕ) → slice_get views view.troupe ≡ Some known → ((v : View) → slice_get views t ≡ Some v → IsHighest all v)
    → (same newer : Bool) → (view.troupe == t) ≡ same → nat_lt known.incarnation view.incarnation ≡ newer
    → (v : View) → slice_get (if newer then slice_set views view.troupe view else views) t ≡ Some v → IsHighest (if same then all ++ view ∷ [] else all) v
by_table views all view known t there highest true true same newer v is =
    let t_is : view.troupe ≡ t = eqb-true view.troupe t same in
    let put : slice_get (slice_set views view.troupe view) t ≡ Some view = subst (λ n. slice_get (slice_set views view.troupe view) n ≡ Some view) t_is (set_here views view.troupe view known there) in
    let v_is : view ≡ v = let e : Some view ≡ Some v = sym put ∙ is in cc in
    let was = highest known (subst (λ n. slice_get views n ≡ Some known) t_is there) in
    subst (IsHighest (all ++ view ∷ [])) v_is (newer_highest all known view was (ltb-true known.incarnation view.incarnation newer))
by_table views all view known t there highest true false same newer v is =
    let t_is : view.troupe ≡ t = eqb-true view.troupe t same in
    let v_is : known ≡ v = let e : Some known ≡ Some v = sym (subst (λ n. slice_get views n ≡ Some known) t_is there) ∙ is in cc in
    subst (IsHighest (all ++ view ∷ [])) v_is
    (older_highest all known view (highest known (subst (λ n. slice_get views n ≡ Some known) t_is there)) (ltb-false known.incarnation view.incarnation newer))
by_table views all view known t there highest false true same newer v is = highest v (sym (set_there views view.troupe t view (eqb-false view.troupe t same)) ∙ is)
by_table views all view known t there highest false false same newer v is = highest v is

-- or of a troupe that there isn't
by_none : (views all : List View) (view : View) (t : ℕ) → slice_get views view.troupe ≡ None → ((v : View) → slice_get views t ≡ Some v → IsHighest all v)
    → (same : Bool) → (view.troupe == t) ≡ same → (v : View) → slice_get views t ≡ Some v → IsHighest (if same then all ++ view ∷ [] else all) v
by_none views all view t nowhere highest true same v is =
    absurd (let e : None ≡ Some v = sym (subst (λ n. slice_get views n ≡ None) (eqb-true view.troupe t same) nowhere) ∙ is in cc)
by_none views all view t nowhere highest false same v is = highest v is

-- the views once a table came
told_views : (k : Knowing) (view : View) (o : Option View) → slice_get k.views view.troupe ≡ o
    → (note_view k view).views ≡ option_map_or (λ (known : View). if nat_lt known.incarnation view.incarnation then slice_set k.views view.troupe view else k.views) o k.views
told_views k view None is = rw is refl
told_views k view (Some known) is = rw is (by_newer (nat_lt known.incarnation view.incarnation))
  where
    by_newer : (b : Bool) → (if◌then◌else◌ {A = Knowing} b (record k { views = slice_set k.views view.troupe view }) k).views ≡ (if b then slice_set k.views view.troupe view else k.views)
    by_newer true = refl
    by_newer false = refl

told_highest : (k : Knowing) (all : List View) (view : View) (t : ℕ) → ((v : View) → slice_get k.views t ≡ Some v → IsHighest all v)
    → (o : Option View) → slice_get k.views view.troupe ≡ o → (v : View) → slice_get (note_view k view).views t ≡ Some v → IsHighest (if view.troupe == t then all ++ view ∷ [] else all) v
told_highest k all view t highest None is v known = by_none k.views all view t is highest (view.troupe == t) refl v (ap (λ vs. slice_get vs t) (sym (told_views k view None is)) ∙ known)
told_highest k all view t highest (Some old) is v known =
    by_table k.views all view old t is highest (view.troupe == t) (nat_lt old.incarnation view.incarnation) refl refl v (ap (λ vs. slice_get vs t) (sym (told_views k view (Some old) is)) ∙ known)

declared_views : (k : Knowing) (node : ℕ) → (note_down k node).views ≡ k.views
declared_views k node = by_case (is_among k.down node)
  where
    by_case : (b : Bool) → (if◌then◌else◌ {A = Knowing} b k (record k { down = k.down ++ node ∷ [] })).views ≡ k.views
    by_case true = refl
    by_case false = refl

pub views_highest : (boot : List View) (notices : Notices) (t : ℕ) (view : View) → slice_get (known_by boot notices).views t ≡ Some view → IsHighest (views_of boot t notices) view
views_highest boot none_yet t view is = rw is (record { earlier = []; later = []; stands = refl; above = tt; not_below = tt })
views_highest boot (more notices (Told told_view)) t view is =
    let k = known_by boot notices in
    told_highest k (views_of boot t notices) told_view t (views_highest boot notices t) (slice_get k.views told_view.troupe) refl view is
views_highest boot (more notices (Declared node)) t view is = views_highest boot notices t view (ap (λ vs. slice_get vs t) (sym (declared_views (known_by boot notices) node)) ∙ is)
views_highest boot (more notices (Wanted troupe incarnation)) t view is = views_highest boot notices t view is
views_highest boot (more notices (LookedUp ringmaster)) t view is = views_highest boot notices t view is
views_highest boot (more notices (Answered troupe)) t view is = views_highest boot notices t view is

-- ---- nodes that are down

among_behind : (ns : List ℕ) (m n : ℕ) → is_among (ns ++ m ∷ []) n ≡ ((m == n) || is_among ns n)
among_behind [] m n = refl
among_behind (k ∷ ns) m n = ap (λ b. (k == n) || b) (among_behind ns m n) ∙ swapped (k == n) (m == n) (is_among ns n)
  where
    swapped : (a b c : Bool) → (a || (b || c)) ≡ (b || (a || c))
    swapped true true c = refl
    swapped true false c = refl
    swapped false b c = refl

told_down : (k : Knowing) (view : View) → (note_view k view).down ≡ k.down
told_down k view = by_case (is_newer k view)
  where
    by_case : (b : Bool) → (if◌then◌else◌ {A = Knowing} b (record k { views = slice_set k.views view.troupe view }) k).down ≡ k.down
    by_case true = refl
    by_case false = refl

-- a node besides those that are down
also_down : (k : Knowing) (node n : ℕ) (b : Bool) → is_among k.down node ≡ b → is_among (if◌then◌else◌ {A = Knowing} b k (record k { down = k.down ++ node ∷ [] })).down n ≡ ((node == n) || is_among k.down n)
also_down k node n true is = by_same (node == n) refl
  where
    by_same : (same : Bool) → (node == n) ≡ same → is_among k.down n ≡ (same || is_among k.down n)
    by_same true same = ap (is_among k.down) (sym (eqb-true node n same)) ∙ is
    by_same false same = refl
also_down k node n false is = among_behind k.down node n

pub down_declared : (boot : List View) (notices : Notices) (n : ℕ) → is_among (known_by boot notices).down n ≡ was_declared n notices
down_declared boot none_yet n = refl
down_declared boot (more notices (Told view)) n = ap (λ ns. is_among ns n) (told_down (known_by boot notices) view) ∙ down_declared boot notices n
down_declared boot (more notices (Declared node)) n =
    let k = known_by boot notices in
    also_down k node n (is_among k.down node) refl ∙ ap (λ b. (node == n) || b) (down_declared boot notices n)
down_declared boot (more notices (Wanted troupe incarnation)) n = down_declared boot notices n
down_declared boot (more notices (LookedUp ringmaster)) n = down_declared boot notices n
down_declared boot (more notices (Answered troupe)) n = down_declared boot notices n

-- ---- what is wanted

told_wants : (k : Knowing) (view : View) → (note_view k view).wants ≡ k.wants
told_wants k view = by_case (is_newer k view)
  where
    by_case : (b : Bool) → (if◌then◌else◌ {A = Knowing} b (record k { views = slice_set k.views view.troupe view }) k).wants ≡ k.wants
    by_case true = refl
    by_case false = refl

declared_wants : (k : Knowing) (node : ℕ) → (note_down k node).wants ≡ k.wants
declared_wants k node = by_case (is_among k.down node)
  where
    by_case : (b : Bool) → (if◌then◌else◌ {A = Knowing} b k (record k { down = k.down ++ node ∷ [] })).wants ≡ k.wants
    by_case true = refl
    by_case false = refl

-- what is wanted of a troupe, once something changed of one
changed_want : (change : Want → Want) (wants : List Want) (troupe t : ℕ) (same : Bool) → (troupe == t) ≡ same
    → slice_get (with_want change wants troupe) t ≡ (if same then option_map change (slice_get wants t) else slice_get wants t)
changed_want change wants troupe t same is = by_there (slice_get wants troupe) refl same is
  where
    by_there : (o : Option Want) → slice_get wants troupe ≡ o → (b : Bool) → (troupe == t) ≡ b
        → slice_get (option_map_or (λ want. slice_set wants troupe (change want)) o wants) t ≡ (if b then option_map change (slice_get wants t) else slice_get wants t)
    by_there None none true is = let t_is = eqb-true troupe t is in subst (λ n. slice_get wants n ≡ option_map change (slice_get wants n)) t_is (rw none refl)
    by_there None none false is = refl
    by_there (Some w) some true is =
        let t_is = eqb-true troupe t is in
        subst (λ n. slice_get (slice_set wants troupe (change w)) n ≡ option_map change (slice_get wants n)) t_is (set_here wants troupe (change w) w some ∙ sym (ap (option_map change) some))
    by_there (Some w) some false is = set_there wants troupe t (change w) (eqb-false troupe t is)

-- how much is wanted of a troupe
abbrev much : Option Want → Option ℕ
much o = option_map (λ (w : Want). w.incarnation) o

asked_much : (asked : Bool) (wants : List Want) (troupe t : ℕ) → much (slice_get (asked_of asked wants troupe) t) ≡ much (slice_get wants t)
asked_much asked wants troupe t =
    let change : Want → Want = λ w. record { incarnation = w.incarnation; asked = asked } in
    ap much (changed_want change wants troupe t (troupe == t) refl) ∙ by_same (troupe == t) (slice_get wants t)
  where
    by_same : (b : Bool) (o : Option Want) → much (if b then option_map (λ w. record { incarnation = w.incarnation; asked = asked }) o else o) ≡ much o
    by_same true None = refl
    by_same true (Some w) = refl
    by_same false o = refl

all_asked_much : (wants : List Want) (troupes : List ℕ) (t : ℕ) → much (slice_get (asked_all wants troupes) t) ≡ much (slice_get wants t)
all_asked_much wants [] t = refl
all_asked_much wants (troupe ∷ troupes) t = all_asked_much (asked_of true wants troupe) troupes t ∙ asked_much true wants troupe t

wanted_much : (wants : List Want) (troupe incarnation t greatest : ℕ) → much (slice_get wants t) ≡ Some greatest
    → much (slice_get (with_want (λ w. record { incarnation = max w.incarnation incarnation; asked = w.asked }) wants troupe) t) ≡ Some (if troupe == t then max greatest incarnation else greatest)
wanted_much wants troupe incarnation t greatest is =
    let change : Want → Want = λ w. record { incarnation = max w.incarnation incarnation; asked = w.asked } in
    ap much (changed_want change wants troupe t (troupe == t) refl) ∙ by_same (troupe == t) (slice_get wants t) is
  where
    by_same : (b : Bool) (o : Option Want) → much o ≡ Some greatest
        → much (if b then option_map (λ w. record { incarnation = max w.incarnation incarnation; asked = w.asked }) o else o) ≡ Some (if b then max greatest incarnation else greatest)
    by_same true None is = absurd (cc)
    by_same true (Some w) is = let e : w.incarnation ≡ greatest = cc in ap (λ n. Some (max n incarnation)) e
    by_same false o is = is

boot_much : (boot : List View) (t : ℕ) → t < length boot → much (slice_get (map no_want boot) t) ≡ Some 0
boot_much [] t few = absurd (omega arith)
boot_much (v ∷ boot) zero few = refl
boot_much (v ∷ boot) (suc t) few = boot_much boot t (omega arith)

greatest_much : (boot : List View) (notices : Notices) (t : ℕ) → t < length boot → much (slice_get (known_by boot notices).wants t) ≡ Some (greatest_wanted t notices)
greatest_much boot none_yet t few = boot_much boot t few
greatest_much boot (more notices (Told view)) t few = ap (λ ws. much (slice_get ws t)) (told_wants (known_by boot notices) view) ∙ greatest_much boot notices t few
greatest_much boot (more notices (Declared node)) t few = ap (λ ws. much (slice_get ws t)) (declared_wants (known_by boot notices) node) ∙ greatest_much boot notices t few
greatest_much boot (more notices (Wanted troupe incarnation)) t few = wanted_much (known_by boot notices).wants troupe incarnation t (greatest_wanted t notices) (greatest_much boot notices t few)
greatest_much boot (more notices (LookedUp ringmaster)) t few =
    let k = known_by boot notices in
    all_asked_much k.wants (lookups k ringmaster) t ∙ greatest_much boot notices t few
greatest_much boot (more notices (Answered troupe)) t few = asked_much false (known_by boot notices).wants troupe t ∙ greatest_much boot notices t few

pub wanted_greatest : (boot : List View) (notices : Notices) (t : ℕ) (want : Want) → t < length boot → slice_get (known_by boot notices).wants t ≡ Some want → want.incarnation ≡ greatest_wanted t notices
wanted_greatest boot notices t want few is = let e : Some want.incarnation ≡ Some (greatest_wanted t notices) = sym (ap much is) ∙ greatest_much boot notices t few in cc
