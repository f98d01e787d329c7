-- What a request comes to behind others.
use Rattle.std.proofs.Common.{◌≡◌, ◌≢◌, ℕ, ◌<◌, ◌≤◌, length, get_or, List, [], ◌∷◌, ◌++◌, Option, Some, None, refl, sym, ap, ◌∙◌, subst, slice_get, slice_set, inl, inr}
use Rattle.std.specs.Option.{option_map_or}
use Rattle.std.proofs.lemmas.List.Sums.{fold-append}
use Rattle.std.proofs.lemmas.Option.{slice_get-get_or, slice_get_past, slice_get_within}
use Rattle.std.proofs.lemmas.Bool.{cases_lt}
use Rattle.std.proofs.lemmas.List.{length-set, get_or-set_same, get_or-set_other}
use Rattle.circus_header.specs.declared.call.Request.{Request}
use Rattle.circus_collate.specs.declared.view.View.{View}
use Rattle.circus_collate.specs.declared.table.Table.{Table}
use Rattle.circus_collate.specs.declared.deployment.Troupe.{Troupe}
use Rattle.circus_ring.specs.RingTable.{Kept, boot_views, troupe_of, table_for, table_by, kept_by, kept_after, answer_after}

pub there : {X : Type 0} (xs ys : List X) (i j : ℕ) (x : X) → xs ≡ ys → i ≡ j → j < length ys → x ≡ get_or xs i x → slice_get ys j ≡ Some x
there xs ys i j x same place few is =
    slice_get-get_or ys j x few ∙ ap Some (ap (λ zs. get_or zs j x) (sym same) ∙ ap (λ k. get_or xs k x) (sym place) ∙ sym is)

table_there : (kept : Kept) (request : Request) (troupe : Troupe) (view : View) (table : Table)
    → slice_get kept.troupes (troupe_of request) ≡ Some troupe → slice_get kept.views (troupe_of request) ≡ Some view
    → table ≡ table_for troupe.root troupe.spares view request → table_by kept request ≡ Some table
unfolding table_by
table_there kept request troupe view table has_troupe has_view made =
    ap (λ o. option_map_or (λ (t : Troupe). option_map_or (λ v. Some (table_for t.root t.spares v request)) (slice_get kept.views (troupe_of request)) None) o None) has_troupe
    ∙ ap (λ o. option_map_or (λ v. Some (table_for troupe.root troupe.spares v request)) o None) has_view
    ∙ ap Some (sym made)

kept_there : (kept : Kept) (request : Request) (table : Table) → table_by kept request ≡ Some table
    → kept_by kept request ≡ record kept { views = slice_set kept.views (troupe_of request) table.view }
unfolding kept_by
kept_there kept request table is =
    ap (λ o. record kept { views = option_map_or (λ (t : Table). slice_set kept.views (troupe_of request) t.view) o kept.views }) is

pub answered_behind : (kept : Kept) (troupes : List Troupe) (requests : List Request) (request : Request) (troupe : Troupe) (view : View) (table : Table)
    → slice_get kept.troupes (troupe_of request) ≡ Some troupe → slice_get kept.views (troupe_of request) ≡ Some view
    → table ≡ table_for troupe.root troupe.spares view request
    → kept ≡ kept_after troupes requests → answer_after troupes requests request ≡ Some table
answered_behind kept troupes requests request troupe view table has_troupe has_view made stands =
    ap (λ k. table_by k request) (sym stands) ∙ table_there kept request troupe view table has_troupe has_view made

pub added_behind : (kept : Kept) (troupes : List Troupe) (requests : List Request) (request : Request) (troupe : Troupe) (view : View) (table : Table)
    → slice_get kept.troupes (troupe_of request) ≡ Some troupe → slice_get kept.views (troupe_of request) ≡ Some view
    → table ≡ table_for troupe.root troupe.spares view request
    → kept ≡ kept_after troupes requests
    → record kept { views = slice_set kept.views (troupe_of request) table.view } ≡ kept_after troupes (requests ++ request ∷ [])
added_behind kept troupes requests request troupe view table has_troupe has_view made stands =
    sym (kept_there kept request table (table_there kept request troupe view table has_troupe has_view made))
    ∙ ap (λ k. kept_by k request) stands
    ∙ sym (fold-append kept_by (record { troupes = troupes; views = boot_views troupes }) requests (request ∷ []))

-- ---- the views afterwards

pub get_set_same : {X : Type 0} (xs : List X) (i : ℕ) (y : X) → i < length xs → slice_get (slice_set xs i y) i ≡ Some y
get_set_same xs i y few =
    let there : i < length (slice_set xs i y) = subst (λ n. i < n) (sym (length-set xs i y)) few in
    slice_get-get_or (slice_set xs i y) i y there ∙ ap Some (get_or-set_same xs i y y few)

pub get_set_other : {X : Type 0} (xs : List X) (i j : ℕ) (y : X) → j ≢ i → slice_get (slice_set xs i y) j ≡ slice_get xs j
get_set_other {X} xs i j y other =
    elim (cases_lt j (length xs)) [
      | inl few ↦
          let there : j < length (slice_set xs i y) = subst (λ n. j < n) (sym (length-set xs i y)) few in
          slice_get-get_or (slice_set xs i y) j y there ∙ ap Some (get_or-set_other xs i j y y other) ∙ sym (slice_get-get_or xs j y few)
      | inr past ↦
          let past_too : length (slice_set xs i y) ≤ j = subst (λ n. n ≤ j) (sym (length-set xs i y)) past in
          slice_get_past (slice_set xs i y) j past_too ∙ sym (slice_get_past xs j past)
    ]

both_there : (o : Option Troupe) (p : Option View) (request : Request) (table : Table)
    → option_map_or (λ (t : Troupe). option_map_or (λ v. Some (table_for t.root t.spares v request)) p None) o None ≡ Some table
    → (troupe : Troupe) × (view : View) × (o ≡ Some troupe) × (p ≡ Some view) × (table ≡ table_for troupe.root troupe.spares view request)
both_there None p request table is = cc
both_there (Some t) None request table is = cc
both_there (Some t) (Some v) request table is = (t, v, refl, refl, cc)

-- the troupe and the view that a table is made of
pub has_both : (kept : Kept) (request : Request) (table : Table) → table_by kept request ≡ Some table
    → (troupe : Troupe) × (view : View) × (slice_get kept.troupes (troupe_of request) ≡ Some troupe) × (slice_get kept.views (troupe_of request) ≡ Some view)
    × (table ≡ table_for troupe.root troupe.spares view request)
unfolding table_by
has_both kept request table is = both_there (slice_get kept.troupes (troupe_of request)) (slice_get kept.views (troupe_of request)) request table is

within : (kept : Kept) (request : Request) (table : Table) → table_by kept request ≡ Some table → troupe_of request < length kept.views
within kept request table is =
    let both = has_both kept request table is in
    slice_get_within kept.views (troupe_of request) both.1 both.3

behind : (troupes : List Troupe) (requests : List Request) (request : Request) → kept_after troupes (requests ++ request ∷ []) ≡ kept_by (kept_after troupes requests) request
behind troupes requests request = fold-append kept_by (record { troupes = troupes; views = boot_views troupes }) requests (request ∷ [])

pub view_shown : (troupes : List Troupe) (requests : List Request) (request : Request) (table : Table) → answer_after troupes requests request ≡ Some table
    → slice_get (kept_after troupes (requests ++ request ∷ [])).views (troupe_of request) ≡ Some table.view
view_shown troupes requests request table is =
    let kept = kept_after troupes requests in
    ap (λ (k : Kept). slice_get k.views (troupe_of request)) (behind troupes requests request ∙ kept_there kept request table is)
    ∙ get_set_same kept.views (troupe_of request) table.view (within kept request table is)

other_for : (views : List View) (number changed : ℕ) (o : Option Table) → number ≢ changed
    → slice_get (option_map_or (λ (t : Table). slice_set views changed t.view) o views) number ≡ slice_get views number
other_for views number changed None other = refl
other_for views number changed (Some table) other = get_set_other views changed number table.view other

other_kept : (kept : Kept) (request : Request) (number : ℕ) → number ≢ troupe_of request → slice_get (kept_by kept request).views number ≡ slice_get kept.views number
unfolding kept_by
other_kept kept request number other = other_for kept.views number (troupe_of request) (table_by kept request) other

pub view_stays : (troupes : List Troupe) (requests : List Request) (request : Request) (number : ℕ) → number ≢ troupe_of request
    → slice_get (kept_after troupes (requests ++ request ∷ [])).views number ≡ slice_get (kept_after troupes requests).views number
view_stays troupes requests request number other =
    ap (λ (k : Kept). slice_get k.views number) (behind troupes requests request) ∙ other_kept (kept_after troupes requests) request number other
