-- What a table tells is taken in in parts: who is asked for the state, the view, and the requests.
use Rattle.std.proofs.Common.{◌≡◌, ℕ, Bool, true, false, if◌then◌else◌, List, [], ◌++◌, map, length, refl, sym, subst, ap, ◌∙◌, append_assoc, append-nil}
use Rattle.circus_header.specs.CallFields.{IsIncarnation}
use Rattle.circus_header.specs.declared.call.Request.{Request}
use Rattle.circus_collate.specs.declared.view.View.{View}
use Rattle.circus_collate.specs.declared.table.Table.{Table}
use Rattle.circus_model.specs.declared.signature.Signature.{Signature}
use Rattle.circus_fanout.specs.Knowing.{Knowing, is_newer, note_view as with_view_told}
use Rattle.circus_fanout.specs.Asking.{Asking}
use Rattle.circus_performing.specs.Performing.{Performing}
use Rattle.circus_member_rules.specs.declared.occurrence.AskName.{AskName}
use Rattle.circus_member_rules.specs.declared.place.Place.{Place}
use Rattle.circus_member_rules.specs.declared.occurrence.Effect.{Effect}
use Rattle.circus_member_rules.specs.MemberState.{Doing, add_effects, behind}
use Rattle.circus_member_rules.specs.Rules.{with_new_view, calls_for_a_new_view, givers, state_request, state_requests}
use Rattle.circus_member_rules.specs.Step.{answered_by_ring, known_by_table, kept_by_table, is_taken_in, handle_table, with_record}
use Rattle.circus_member.specs.Seen.Within.{seen_by}
use Rattle.circus_member_rules.specs.Callable.{AllMayCall}
use Rattle.circus_member_rules.specs.Happening.{IsHome}
use Rattle.circus_member_rules.specs.Seen.Sound.{AreOpen}
use Rattle.circus_member_rules.proofs.Homes.{HaveIncarnations, home_with, ring_views, told_as_many, told_incarnations, ring_down, told_down, all_may_call}

-- those that are down stay so
pub table_down : (k : Knowing) (request : Request) (view : View) → (known_by_table k request view).down ≡ k.down
table_down k request view = told_down (answered_by_ring k request view.troupe) view ∙ ring_down k request view.troupe

-- the requests are those to the nodes that may give the state, where the member was taken in
pub requests_are : (place : Place) (down later : List ℕ) (view : View) (taken : Bool) → later ≡ down → map (state_request place.troupe view.incarnation) (if taken then givers place.node down view else []) ≡ (if taken then state_requests place later view else [])
requests_are place down later view true same = ap (λ ns. state_requests place ns view) (sym same)
requests_are place down later view false same = refl

-- what is made of a table, in order
pub told_in_parts : {M : Type 0} (d : Doing M) (request : Request) (table : Table) (nodes : List ℕ) → nodes ≡ (if is_taken_in d.member.performing.kept.phase (kept_by_table d.member.performing.kept request table).phase then givers d.member.place.node d.member.known.down table.view else []) → add_effects (seen_by (with_record d (kept_by_table d.member.performing.kept request table)) request table.view) (map (state_request d.member.place.troupe table.view.incarnation) nodes) ≡ behind d (handle_table d.member request table)
told_in_parts {M} d request table nodes are =
    let m = d.member in
    let kept = kept_by_table m.performing.kept request table in
    let taken = is_taken_in m.performing.kept.phase kept.phase in
    let known = known_by_table m.known request table.view in
    let e = seen_by (with_record d kept) request table.view in
    let requests : map (state_request m.place.troupe table.view.incarnation) nodes ≡ (if taken then state_requests m.place known.down table.view else []) =
    ap (map (state_request m.place.troupe table.view.incarnation)) are ∙ requests_are m.place m.known.down known.down table.view taken (table_down m.known request table.view) in
    ap (add_effects e) requests
    ∙ ap (λ (made : List Effect). let f : Doing M = record { member = e.member; effects = made } in f) (append_assoc d.effects _ _)

-- with what is read of it along the way
pub told_all : {M : Type 0} (d : Doing M) (request : Request) (table : Table) (p : Performing M) (x : Doing M) (nodes : List ℕ) (effects : List Effect) → p ≡ (let q : Performing M = record d.member.performing { kept = kept_by_table d.member.performing.kept request table } in q) → nodes ≡ (if is_taken_in d.member.performing.kept.phase p.kept.phase then givers d.member.place.node d.member.known.down table.view else []) → x ≡ (let y : Doing M = record d { member = record d.member { performing = p } } in seen_by y request table.view) → effects ≡ x.effects ++ map (state_request x.member.place.troupe table.view.incarnation) nodes → let e : Doing M = record x { effects = effects } in e ≡ behind d (handle_table d.member request table)
told_all {M} d request table p x nodes effects taken are seen made =
    let kept = kept_by_table d.member.performing.kept request table in
    let named : nodes ≡ (if is_taken_in d.member.performing.kept.phase kept.phase then givers d.member.place.node d.member.known.down table.view else []) =
    are ∙ ap (λ (q : Performing M). if is_taken_in d.member.performing.kept.phase q.kept.phase then givers d.member.place.node d.member.known.down table.view else []) taken in
    let same : x ≡ seen_by (with_record d kept) request table.view =
    seen ∙ ap (λ (q : Performing M). let y : Doing M = record d { member = record d.member { performing = q } } in seen_by y request table.view) taken in
    ap (λ (made' : List Effect). let e : Doing M = record x { effects = made' } in e) made
    ∙ ap (λ (y : Doing M). add_effects y (map (state_request y.member.place.troupe table.view.incarnation) nodes)) same
    ∙ told_in_parts d request table nodes named

-- ---- the view

-- where it isn't newer
pub known_already : {M : Type 0} (d : Doing M) (request : Request) (view : View) (k : Knowing) → k ≡ known_by_table d.member.known request view → is_newer d.member.known view ≡ false → let e : Doing M = record d { member = record d.member { known = k } } in e ≡ seen_by d request view
known_already {M} d request view k is older =
    ap (λ (x : Knowing). let e : Doing M = record d { member = record d.member { known = x } } in e) is
    ∙ ap (λ (made : List Effect). let e : Doing M = record { member = record d.member { known = known_by_table d.member.known request view }; effects = made } in e) (sym (append-nil d.effects))
    ∙ ap (λ t. add_effects (let e : Doing M = record d { member = record d.member { known = known_by_table d.member.known request view; asks = if t then with_new_view (known_by_table d.member.known request view) view d.member.asks else d.member.asks } } in e) (if t then calls_for_a_new_view (known_by_table d.member.known request view) view d.member.asks else [])) (sym older)

-- where it is
pub known_newly : {M : Type 0} (d : Doing M) (request : Request) (view : View) (k : Knowing) (asks : List (AskName × Asking)) (effects : List Effect) → k ≡ known_by_table d.member.known request view → is_newer d.member.known view ≡ true → asks ≡ with_new_view k view d.member.asks → effects ≡ d.effects ++ calls_for_a_new_view k view d.member.asks → let e : Doing M = record { member = record d.member { known = k; asks = asks }; effects = effects } in e ≡ seen_by d request view
known_newly {M} d request view k asks effects is newer kept made =
    (λ j. record { member = record d.member { known = k; asks = kept j }; effects = made j })
    ∙ ap (λ (x : Knowing). let e : Doing M = record { member = record d.member { known = x; asks = with_new_view x view d.member.asks }; effects = d.effects ++ calls_for_a_new_view x view d.member.asks } in e) is
    ∙ ap (λ t. add_effects (let e : Doing M = record d { member = record d.member { known = known_by_table d.member.known request view; asks = if t then with_new_view (known_by_table d.member.known request view) view d.member.asks else d.member.asks } } in e) (if t then calls_for_a_new_view (known_by_table d.member.known request view) view d.member.asks else [])) (sym newer)

-- ---- what is known then

pub table_home : (d : Signature) (place : Place) (k : Knowing) (request : Request) (view : View) → IsIncarnation view.incarnation → IsHome d place k.views → IsHome d place (known_by_table k request view).views
table_home d place k request view is home =
    let r = answered_by_ring k request view.troupe in
    let same = ring_views k request view.troupe in
    home_with d place k.views (with_view_told r view).views (told_as_many r view ∙ ap length same)
    (told_incarnations r view is (subst HaveIncarnations (sym same) home.incarnations)) home

pub table_may_call : (d : Signature) (place : Place) (k : Knowing) (request : Request) (view : View) (asks : List (AskName × Asking)) → IsIncarnation view.incarnation → IsHome d place k.views → AreOpen d place.troupe (length k.views) asks → AllMayCall (known_by_table k request view) asks
table_may_call d place k request view asks is home ready =
    let r = answered_by_ring k request view.troupe in
    let many : length (with_view_told r view).views ≡ length k.views = told_as_many r view ∙ ap length (ring_views k request view.troupe) in
    all_may_call d place (known_by_table k request view) asks (table_home d place k request view is home) (subst (λ n. AreOpen d place.troupe n asks) (sym many) ready)
