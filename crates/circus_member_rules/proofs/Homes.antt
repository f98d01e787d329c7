-- What becomes of the views that a member knows keeps it at home.
use Rattle.std.proofs.Common.{◌≡◌, ℕ, zero, suc, ◌<◌, ◌≤◌, nat_lt, Bool, true, false, if◌then◌else◌, List, [], ◌∷◌, ◌++◌, length, All, arith, Option, Some, None, refl, sym, ap, subst, length-set}
use Rattle.std.specs.Prelude.{slice_get, slice_set}
use Rattle.std.specs.Option.{option_map_or}
use Rattle.std.proofs.lemmas.List.Elements.{All-set, All-get_or, All-weaker}
use Rattle.std.proofs.lemmas.Option.{slice_get_within, get_or_from_slice_get}
use Rattle.circus_header.specs.CallFields.{IsIncarnation}
use Rattle.circus_limits.specs.Limits.{most_modules}
use Rattle.circus_header.specs.declared.call.Request.{Request}
use Rattle.circus_collate.specs.declared.view.View.{View}
use Rattle.circus_model.specs.declared.signature.Signature.{Signature}
use Rattle.circus_fanout.specs.Knowing.{Knowing, is_newer, note_view, note_answer, note_down}
use Rattle.circus_gather.specs.declared.added.Added.{Added}
use Rattle.circus_gather.specs.declared.added.Added.TheVariants as added
use Rattle.circus_header.specs.declared.call.CallHeader.{CallHeader}
use Rattle.circus_fanout.specs.Asking.{Asking}
use Rattle.circus_member_rules.specs.declared.place.Place.{Place}
use Rattle.circus_member_rules.specs.declared.occurrence.AskName.{AskName}
use Rattle.circus_member_rules.specs.Rules.{wanted_by_call, incarnation_of}
use Rattle.circus_member_rules.specs.Step.{is_lookup, answered_by_ring}
use Rattle.circus_member_rules.specs.Callable.{AreViews, MayCall, AllMayCall}
use Rattle.circus_member_rules.specs.Happening.{IsHome}
use Rattle.circus_member_rules.specs.Seen.Sound.{IsOpenAsk, AreOpen}

abbrev pub HaveIncarnations : List View → Type 0
HaveIncarnations views = All (λ (v : View). IsIncarnation v.incarnation) views

-- ---- other views, as many

pub home_with : (d : Signature) (place : Place) (views more : List View) → length more ≡ length views → HaveIncarnations more → IsHome d place views → IsHome d place more
home_with d place views more same are h =
    record {
      few = subst (λ n. n ≤ most_modules) (sym same) h.few;
      own = subst (λ n. place.troupe < n) (sym same) h.own;
      node = h.node;
      hosts = h.hosts;
      incarnations = are;
      imports = h.imports;
      main = h.main;
    }

-- ---- the views

pub told_as_many : (k : Knowing) (view : View) → length (note_view k view).views ≡ length k.views
told_as_many k view =
    elim (is_newer k view) as (λ b. let t : Knowing = if b then record k { views = slice_set k.views view.troupe view } else k in length t.views ≡ length k.views) [
      | true ↦ length-set k.views view.troupe view
      | false ↦ refl
    ]

pub told_incarnations : (k : Knowing) (view : View) → IsIncarnation view.incarnation → HaveIncarnations k.views → HaveIncarnations (note_view k view).views
told_incarnations k view is are =
    elim (is_newer k view) as (λ b. let t : Knowing = if b then record k { views = slice_set k.views view.troupe view } else k in HaveIncarnations t.views) [
      | true ↦ All-set (λ (v : View). IsIncarnation v.incarnation) k.views view.troupe view is are
      | false ↦ are
    ]

pub ring_views : (k : Knowing) (request : Request) (troupe : ℕ) → (answered_by_ring k request troupe).views ≡ k.views
ring_views k request troupe =
    elim (is_lookup request) as (λ b. let t : Knowing = if b then note_answer k troupe else k in t.views ≡ k.views) [ true ↦ refl | false ↦ refl ]

pub called_views : (a : Added) (header : CallHeader) (k : Knowing) → (wanted_by_call a header k).views ≡ k.views
called_views (added.Reply reply) header k = refl
called_views (added.Stale required) header k = refl
called_views (added.Before first) header k = refl
called_views added.Held header k = refl

pub declared_views : (k : Knowing) (node : ℕ) → (note_down k node).views ≡ k.views
declared_views k node = by_test _
  where
    by_test : (b : Bool) → let t : Knowing = if b then k else record k { down = k.down ++ node ∷ [] } in t.views ≡ k.views
    by_test true = refl
    by_test false = refl

-- ---- those that are down

pub ring_down : (k : Knowing) (request : Request) (troupe : ℕ) → (answered_by_ring k request troupe).down ≡ k.down
ring_down k request troupe =
    elim (is_lookup request) as (λ b. let t : Knowing = if b then note_answer k troupe else k in t.down ≡ k.down) [ true ↦ refl | false ↦ refl ]

pub told_down : (k : Knowing) (view : View) → (note_view k view).down ≡ k.down
told_down k view =
    elim (is_newer k view) as (λ b. let t : Knowing = if b then record k { views = slice_set k.views view.troupe view } else k in t.down ≡ k.down) [ true ↦ refl | false ↦ refl ]

-- ---- a view that is known now

set_there : {A : Type 0} (xs : List A) (i : ℕ) (x y : A) → slice_get xs i ≡ Some x → slice_get (slice_set xs i y) i ≡ Some y
set_there [] i x y at = cc
set_there (z ∷ zs) zero x y at = refl
set_there (z ∷ zs) (suc i) x y at = set_there zs i x y at

pub newer_there : (k : Knowing) (view : View) → is_newer k view ≡ true → slice_get (note_view k view).views view.troupe ≡ Some view
newer_there k view newer = rw newer (by_view (slice_get k.views view.troupe) refl newer)
  where
    by_view : (o : Option View) → slice_get k.views view.troupe ≡ o → option_map_or (λ (known : View). nat_lt known.incarnation view.incarnation) o false ≡ true → slice_get (slice_set k.views view.troupe view) view.troupe ≡ Some view
    by_view None at is = cc
    by_view (Some known) at is = set_there k.views view.troupe known view at

-- an answer makes no view newer
pub ring_newer : (k : Knowing) (request : Request) (view : View) → is_newer (answered_by_ring k request view.troupe) view ≡ is_newer k view
ring_newer k request view =
    ap (λ vs. option_map_or (λ (known : View). nat_lt known.incarnation view.incarnation) (slice_get vs view.troupe) false) (ring_views k request view.troupe)

-- ---- calls of open asks may be made

pub are_views : (k : Knowing) → HaveIncarnations k.views → AreViews k
are_views k are troupe view at =
    subst (λ (v : View). IsIncarnation v.incarnation) (get_or_from_slice_get k.views troupe view view at)
    (All-get_or (λ (v : View). IsIncarnation v.incarnation) k.views troupe view (slice_get_within k.views troupe view at) are)

pub slice_get_none : {A : Type 0} (xs : List A) (i : ℕ) → slice_get xs i ≡ None → length xs ≤ i
slice_get_none [] i at = omega arith
slice_get_none (x ∷ xs) zero at = cc
slice_get_none (x ∷ xs) (suc i) at = let rest = slice_get_none xs i at in omega (arith, rest)

-- the view of a troupe of the program has an incarnation
pub own_incarnation : (k : Knowing) (troupe : ℕ) → troupe < length k.views → HaveIncarnations k.views → IsIncarnation (incarnation_of k troupe)
own_incarnation k troupe own are = by_view (slice_get k.views troupe) refl
  where
    by_view : (o : Option View) → slice_get k.views troupe ≡ o → IsIncarnation (option_map_or (λ (v : View). v.incarnation) o 0)
    by_view None at = let past = slice_get_none k.views troupe at in absurd (omega (arith, past))
    by_view (Some view) at = are_views k are troupe view at

pub may_call : (d : Signature) (place : Place) (k : Knowing) (a : Asking) → IsHome d place k.views → IsOpenAsk d place.troupe (length k.views) a → MayCall k a
may_call d place k a home ready =
    record { asked = ready.asked; client = subst (λ t. IsIncarnation (incarnation_of k t)) (sym ready.client) (own_incarnation k place.troupe home.own home.incarnations) }

pub all_may_call : (d : Signature) (place : Place) (k : Knowing) (asks : List (AskName × Asking)) → IsHome d place k.views → AreOpen d place.troupe (length k.views) asks → AllMayCall k asks
all_may_call d place k asks home ready =
    All-weaker (λ (e : AskName × Asking). IsOpenAsk d place.troupe (length k.views) e.1) (λ (e : AskName × Asking). MayCall k e.1) (λ e. may_call d place k e.1 home) asks ready
