-- Who is expected to say a value, and which calls count.
use Rattle.std.proofs.Common.{◌≡◌, ℕ, ◌≤◌, nat_le, true, false, ◌&&◌, ◌==◌, List, slice_get, slice_index, Option, Some, None, refl, sym, ap, ◌∙◌}
use Rattle.std.specs.Prelude.{IsSomeAnd}
use Rattle.std.specs.Option.{option_map_or}
use Rattle.std.proofs.lemmas.Bool.{false≢true, eqb-true, eq-eqb, leb-true, le-leb}
use Rattle.circus_value.specs.Among.{is_among}
use Rattle.circus_collate.specs.declared.view.Since.{Since}
use Rattle.circus_collate.specs.declared.view.Since.TheVariants.{Joining, From}
use Rattle.circus_collate.specs.declared.view.Entry.{Entry}
use Rattle.circus_collate.specs.declared.view.View.{View}
use Rattle.circus_collate.specs.Expecting.{performs, expected_nodes}
use Rattle.circus_collate.proofs.Entries.{any_expected}
use Rattle.circus_collate.proofs.Places.{both_pass}
use Rattle.circus_collate.proofs.Later.{parts_of}
use Rattle.circus_gather.specs.declared.held.HeldCall.{HeldCall}
use Rattle.circus_gather.specs.Gathering.{is_of_index, is_known, is_counted}
use Rattle.circus_member_theory.specs.Counting.{PerformsItself, HasOneThatPerforms, IsCallOf}
use Rattle.circus_member_theory.proofs.Timely.Unanimity.{any_at, any_of}

-- ---- nodes that are expected

performs_from : (e : Entry) (index : ℕ) → performs e.since index ≡ true → PerformsItself e index
performs_from e index is = by_since e.since refl is
  where
    by_since : (since : Since) → e.since ≡ since → performs since index ≡ true → PerformsItself e index
    by_since Joining since is = absurd (false≢true is)
    by_since (From first) since is = record { first = first; since_it = since; by_then = leb-true first index is }

module _ (view : View) (index : ℕ) where
  pub expected_perform : (node : ℕ) → is_among (expected_nodes view index) node ≡ true → HasOneThatPerforms view index node
  expected_perform node is =
      let a = any_at (λ (e : Entry). performs e.since index && (e.node == node)) view.entries (any_expected view index (λ n. n == node) ∙ is) in
      let parts = parts_of (performs a.1.since index) (a.1.node == node) a.3 in
      record {
        place = a.0;
        entry = a.1;
        there = a.2;
        of_node = eqb-true a.1.node node parts.1;
        performs = performs_from a.1 index parts.0;
      }

  pub performing_are_expected : (node : ℕ) → HasOneThatPerforms view index node → is_among (expected_nodes view index) node ≡ true
  performing_are_expected node h =
      let e = h.entry in
      let p = h.performs in
      let performed : performs e.since index ≡ true = ap (λ s. performs s index) p.since_it ∙ le-leb p.first index p.by_then in
      sym (any_expected view index (λ n. n == node))
      ∙ any_of (λ (x : Entry). performs x.since index && (x.node == node)) view.entries h.place e h.there
      (both_pass performed (eq-eqb e.node node h.of_node))

-- ---- calls that count

module _ (own required : ℕ) (views : List View) (index : ℕ) (call : HeldCall) where
  pub counted_is : is_counted own required views index call ≡ true → IsCallOf own required views index call
  unfolding is_counted
  counted_is is =
      let all = parts_of (is_of_index own index call && nat_le required call.header.server_incarnation) (is_known views call.header.client call.header.client_incarnation) is in
      let both = parts_of (is_of_index own index call) (nat_le required call.header.server_incarnation) all.0 in
      record {
        index_is = eqb-true (slice_index call.header.clock own) index both.0;
        recent = leb-true required call.header.server_incarnation both.1;
        known = by_view (slice_get views call.header.client) all.1;
      }
    where
      by_view : (o : Option View) → option_map_or (λ (view : View). nat_le call.header.client_incarnation view.incarnation) o false ≡ true
          → IsSomeAnd o (λ (view : View). call.header.client_incarnation ≤ view.incarnation)
      by_view None is = absurd (false≢true is)
      by_view (Some view) is = leb-true call.header.client_incarnation view.incarnation is

  pub is_counted_by : IsCallOf own required views index call → is_counted own required views index call ≡ true
  unfolding is_counted
  is_counted_by h =
      both_pass (both_pass (eq-eqb (slice_index call.header.clock own) index h.index_is) (le-leb required call.header.server_incarnation h.recent))
      (by_view (slice_get views call.header.client) h.known)
    where
      by_view : (o : Option View) → IsSomeAnd o (λ (view : View). call.header.client_incarnation ≤ view.incarnation)
          → option_map_or (λ (view : View). nat_le call.header.client_incarnation view.incarnation) o false ≡ true
      by_view None known = absurd known
      by_view (Some view) known = le-leb call.header.client_incarnation view.incarnation known
