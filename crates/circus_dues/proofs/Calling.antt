-- What happens leaves a member that may send its calls so.
use Rattle.std.proofs.Common.{◌≡◌, ℕ, Bool, true, false, if◌then◌else◌, nat_eq, List, [], ◌++◌, map, filter, length, Option, Some, None, refl, sym, subst, ap, ◌∙◌}
use Rattle.std.specs.Prelude.{slice_get}
use Rattle.std.specs.Option.{option_map_or}
use Rattle.std.proofs.lemmas.List.Elements.{All-map, All-weaker, All-filter}
use Rattle.circus_header.specs.CallFields.{IsIncarnation}
use Rattle.circus_header.specs.declared.call.CallHeader.{CallHeader}
use Rattle.circus_header.specs.declared.call.Request.{Request}
use Rattle.circus_collate.specs.declared.view.View.{View}
use Rattle.circus_fanout.specs.Knowing.{Knowing, is_newer, note_view}
use Rattle.circus_fanout.specs.Asking.{Asking, with_view, with_stale}
use Rattle.circus_member_rules.specs.declared.place.Place.{Place}
use Rattle.circus_member_rules.specs.declared.occurrence.AskName.{AskName}
use Rattle.circus_member_rules.specs.declared.occurrence.Effect.{Effect}
use Rattle.circus_member_rules.specs.Callable.{IsAsked, MayCall, AllMayCall}
use Rattle.circus_member_rules.specs.OpenAsks.{with_asking}
use Rattle.circus_member_rules.specs.Rules.{incarnation_of, after_stale, seen_by_ask, with_new_view, calls_for_a_new_view, givers, state_request, state_requests}
use Rattle.circus_member_rules.specs.Step.{answered_by_ring, known_by_table}
use Rattle.circus_member_rules.proofs.Named.{All-changed}
use Rattle.circus_member_rules.proofs.Homes.{HaveIncarnations, told_as_many, told_incarnations, ring_views, told_down, ring_down, newer_there, own_incarnation}
use Rattle.circus_dues.specs.Seen.Parts.{CallsOut, IsAskOf, AreAsksOf, MayCallFor, StillMayCall, with_table, calls_by_table, states_by_table}

-- ---- asks

pub ask_with : (troupe : ℕ) (a later : Asking) → later.header ≡ a.header → IsAskOf troupe a → IsAskOf troupe later
ask_with troupe a later same h =
    record { asked = subst IsAsked (sym same) h.asked; client = ap (λ (x : CallHeader). x.client) same ∙ h.client }

pub stale_header : (k : Knowing) (from incarnation : ℕ) (a : Asking) → (after_stale k from incarnation a).header ≡ a.header
stale_header k from incarnation a = by_view (slice_get k.views a.header.server)
  where
    by_view : (o : Option View) → let x = option_map_or (λ (view : View). with_stale view k.down from incarnation a) o a in x.header ≡ a.header
    by_view None = refl
    by_view (Some view) = refl

-- an ask sees a view
seen_ask : (troupe : ℕ) (k : Knowing) (view : View) (e : AskName × Asking) → IsAskOf troupe e.1 → IsAskOf troupe (seen_by_ask k view e).1
seen_ask troupe k view e h =
    elim (nat_eq e.1.header.server view.troupe) as (λ t. let x : AskName × Asking = if t then (e.0, with_view view k.down e.1) else e in IsAskOf troupe x.1) [
      | true ↦ ask_with troupe e.1 (with_view view k.down e.1) refl h
      | false ↦ h
    ]

seen_asks : (troupe : ℕ) (k : Knowing) (view : View) (asks : List (AskName × Asking)) → AreAsksOf troupe asks → AreAsksOf troupe (with_new_view k view asks)
seen_asks troupe k view asks all =
    All-map (λ (e : AskName × Asking). IsAskOf troupe e.1) (seen_by_ask k view) asks
    (All-weaker (λ (e : AskName × Asking). IsAskOf troupe e.1) (λ (e : AskName × Asking). IsAskOf troupe (seen_by_ask k view e).1) (seen_ask troupe k view) asks all)

-- ---- what may be called

pub may_call_of : (place : Place) (o : CallsOut) (a : Asking) → MayCallFor place o → IsAskOf place.troupe a → MayCall o.known a
may_call_of place o a may ready =
    record { asked = ready.asked; client = subst (λ t. IsIncarnation (incarnation_of o.known t)) (sym ready.client) (own_incarnation o.known place.troupe may.own may.incarnations) }

pub all_may_call_of : (place : Place) (o : CallsOut) → MayCallFor place o → AllMayCall o.known o.asks
all_may_call_of place o may =
    All-weaker (λ (e : AskName × Asking). IsAskOf place.troupe e.1) (λ (e : AskName × Asking). MayCall o.known e.1) (λ e. may_call_of place o e.1 may) o.asks may.asks

-- with as many views, and other asks
may_with : (place : Place) (o p : CallsOut) → length p.known.views ≡ length o.known.views → HaveIncarnations p.known.views → AreAsksOf place.troupe p.asks → MayCallFor place o → MayCallFor place p
may_with place o p same are asks h =
    record {
      few = rw same h.few;
      own = rw same h.own;
      node = h.node;
      hosts = h.hosts;
      incarnations = are;
      asks = asks;
    }

-- with the same views
pub still_when : (i o : CallsOut) (k : Knowing) (asks : List (AskName × Asking)) → i ≡ o → k.views ≡ i.known.views → ((troupe : ℕ) → AreAsksOf troupe i.asks → AreAsksOf troupe asks) → StillMayCall o (record { known = k; asks = asks })
still_when i o k asks is same keeps place may =
    let h = subst (MayCallFor place) (sym is) may in
    may_with place i (record { known = k; asks = asks }) (ap length same) (subst HaveIncarnations (sym same) h.incarnations) (keeps place.troupe h.asks) h

-- once an ask was changed, but for its header
pub still_changed : (i o : CallsOut) (k : Knowing) (asks : List (AskName × Asking)) (name : AskName) (change : Asking → Asking) → i ≡ o → k.views ≡ i.known.views → asks ≡ with_asking name change i.asks → ((a : Asking) → (change a).header ≡ a.header) → StillMayCall o (record { known = k; asks = asks })
still_changed i o k asks name change is same changed keeps =
    still_when i o k asks is same
    (λ troupe all. subst (AreAsksOf troupe) (sym changed)
    (All-changed (IsAskOf troupe) name change i.asks (λ a _ h. ask_with troupe a (change a) (keeps a) h) all))

-- once asks were closed
pub still_closed : (i o : CallsOut) (k : Knowing) (asks : List (AskName × Asking)) (keep : AskName × Asking → Bool) → i ≡ o → k.views ≡ i.known.views → asks ≡ filter keep i.asks → StillMayCall o (record { known = k; asks = asks })
still_closed i o k asks keep is same closed =
    still_when i o k asks is same
    (λ troupe all. subst (AreAsksOf troupe) (sym closed) (All-filter keep (λ (e : AskName × Asking). IsAskOf troupe e.1) i.asks all))

-- with other asks
pub may_with_asks : (place : Place) (o : CallsOut) (asks : List (AskName × Asking)) → AreAsksOf place.troupe asks → MayCallFor place o → MayCallFor place (record o { asks = asks })
may_with_asks place o asks all h = may_with place o (record o { asks = asks }) refl h.incarnations all h

-- ---- the Ringmaster answers

-- a newer view is known
pub now_known : (k later : Knowing) (view : View) → later ≡ note_view k view → is_newer k view ≡ true → slice_get later.views view.troupe ≡ Some view
now_known k later view is newer = ap (λ (x : Knowing). slice_get x.views view.troupe) is ∙ newer_there k view newer

-- with what it tells
pub may_know : (place : Place) (o : CallsOut) (request : Request) (view : View) → IsIncarnation view.incarnation → MayCallFor place o → MayCallFor place (record o { known = known_by_table o.known request view })
may_know place o request view is h =
    let r = answered_by_ring o.known request view.troupe in
    let same = ring_views o.known request view.troupe in
    may_with place o (record o { known = known_by_table o.known request view })
    (told_as_many r view ∙ ap length same) (told_incarnations r view is (subst HaveIncarnations (sym same) h.incarnations)) h.asks h

pub may_by_table : (place : Place) (o : CallsOut) (request : Request) (view : View) → IsIncarnation view.incarnation → MayCallFor place o → MayCallFor place (with_table o request view)
may_by_table place o request view is h =
    let k = known_by_table o.known request view in
    let known = may_know place o request view is h in
    elim (is_newer o.known view) as (λ t. MayCallFor place (record { known = k; asks = if t then with_new_view k view o.asks else o.asks })) [
      | true ↦ may_with_asks place (record o { known = k }) (with_new_view k view o.asks) (seen_asks place.troupe k view o.asks h.asks) known
      | false ↦ known
    ]

-- where the view is newer
module _ (o : CallsOut) (request : Request) (view : View) (k : Knowing) (is : k ≡ known_by_table o.known request view) where
  pub kept_newer : (asks : List (AskName × Asking)) → is_newer o.known view ≡ true → asks ≡ with_new_view k view o.asks → (let p : CallsOut = record { known = k; asks = asks } in p) ≡ with_table o request view
  kept_newer asks newer seen =
      let n = known_by_table o.known request view in
      ap (λ x. let p : CallsOut = record { known = k; asks = x } in p) seen
      ∙ ap (λ x. let p : CallsOut = record { known = x; asks = with_new_view x view o.asks } in p) is
      ∙ ap (λ t. let p : CallsOut = record { known = n; asks = if t then with_new_view n view o.asks else o.asks } in p) (sym newer)

  pub made_newer : (before after : List Effect) → is_newer o.known view ≡ true → after ≡ before ++ calls_for_a_new_view k view o.asks → after ≡ before ++ calls_by_table o request view
  made_newer before after newer made =
      let n = known_by_table o.known request view in
      made
      ∙ ap (λ x. before ++ calls_for_a_new_view x view o.asks) is
      ∙ ap (λ t. before ++ (if t then calls_for_a_new_view n view o.asks else [])) (sym newer)

-- those that are down stay so
table_down : (k : Knowing) (request : Request) (view : View) → (known_by_table k request view).down ≡ k.down
table_down k request view = told_down (answered_by_ring k request view.troupe) view ∙ ring_down k request view.troupe

-- the nodes that may give the state are asked for it, where the member is taken in
pub states_asked : (place : Place) (taken_in : Bool) (k : Knowing) (request : Request) (view : View) (nodes : List ℕ) → nodes ≡ (if taken_in then givers place.node k.down view else []) → map (state_request place.troupe view.incarnation) nodes ≡ states_by_table place taken_in (known_by_table k request view).down view
states_asked place taken_in k request view nodes are = ap (map (state_request place.troupe view.incarnation)) are ∙ by_test taken_in
  where
    by_test : (t : Bool) → map (state_request place.troupe view.incarnation) (if t then givers place.node k.down view else []) ≡ states_by_table place t (known_by_table k request view).down view
    by_test true = ap (λ down. state_requests place down view) (sym (table_down k request view))
    by_test false = refl
