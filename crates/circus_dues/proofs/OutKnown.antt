-- What is known along a trace, by the record in the end.
use Rattle.std.proofs.Common.{◌≡◌, ℕ, ◌+◌, Bool, true, false, ◌&&◌, not, if◌then◌else◌, List, [], ◌∷◌, ◌++◌, map, length, refl, sym, ap, ◌∙◌, arith}
use Rattle.std.specs.Prelude.{nat_eq, max, slice_set}
use Rattle.circus_value.specs.Among.{is_among}
use Rattle.circus_value.specs.declared.caller.Caller.{Caller}
use Rattle.circus_header.specs.declared.call.CallHeader.{CallHeader}
use Rattle.circus_header.specs.declared.call.Request.{Request}
use Rattle.circus_collate.specs.declared.table.Table.{Table}
use Rattle.circus_collate.specs.declared.view.View.{View}
use Rattle.circus_transfer.specs.declared.joiner.Joiner.{Joiner}
use Rattle.circus_record.specs.declared.record.MemberRecord.{MemberRecord}
use Rattle.circus_fanout.specs.Knowing as knowing
use Rattle.circus_fanout.specs.Knowing.{Knowing, with_want}
use Rattle.circus_fanout.specs.declared.known.Want.{Want}
use Rattle.circus_member_rules.specs.declared.place.Place.{Place}
use Rattle.circus_member_rules.specs.declared.occurrence.Occurrence.{Occurrence}
use Rattle.circus_member_rules.specs.declared.occurrence.Occurrence.TheVariants as comes
use Rattle.circus_member_rules.specs.Rules.{ringmaster, lookup_call}
use Rattle.circus_member_rules.specs.Step.{is_lookup, answered_by_ring}
use Rattle.circus_member_rules.proofs.Homes.{told_down, ring_down, ring_views, declared_views}
use Rattle.circus_member_theory.specs.Past as past
use Rattle.circus_member_theory.specs.Past.{Past, booted, followed, views_known, nodes_declared_down}
use Rattle.circus_member_theory.specs.Requests.{is_held, wanted_incarnation, is_due, due_from, due, is_unanswered, lookups}
use Rattle.circus_member_theory.proofs.Timely.Known.{told_views, declared_down, known_long}
use Rattle.circus_dues.specs.Out.{wants_from, KnowsViews, is_left, want_at, want_amid, KnowsAt, KnowsAmid, known_behind}
use Rattle.circus_headline_theory.proofs.Owed.Wants.{wants_of, wants_same, changed, with_want_of, asked_all_of}

-- ---- what is wanted of the troupes

from_is : (f : ℕ → Want) (n : ℕ) (views : List View) → wants_from f n views ≡ wants_of f n views
from_is f n [] = refl
from_is f n (view ∷ views) = ap (λ ws. f n ∷ ws) (from_is f (n + 1) views)

from_same : (f g : ℕ → Want) → ((i : ℕ) → f i ≡ g i) → (views : List View) → wants_from f 0 views ≡ wants_from g 0 views
from_same f g same views = from_is f 0 views ∙ wants_same f g same 0 views ∙ sym (from_is g 0 views)

-- that of one troupe changes
want_changed : (change : Want → Want) (f g : ℕ → Want) (troupe : ℕ) → ((i : ℕ) → changed change troupe f i ≡ g i) → (wants : List Want) (views : List View) → wants ≡ wants_from f 0 views
    → with_want change wants troupe ≡ wants_from g 0 views
want_changed change f g troupe same wants views is =
    ap (λ ws. with_want change ws troupe) (is ∙ from_is f 0 views)
    ∙ with_want_of change f 0 troupe troupe views (omega arith)
    ∙ wants_same (changed change troupe f) g same 0 views
    ∙ sym (from_is g 0 views)

told_wants : (k : Knowing) (view : View) → (knowing.note_view k view).wants ≡ k.wants
told_wants k view = by_test (knowing.is_newer k view)
  where
    by_test : (b : Bool) → let x : Knowing = if b then record k { views = slice_set k.views view.troupe view } else k in x.wants ≡ k.wants
    by_test true = refl
    by_test false = refl

declared_wants : (k : Knowing) (node : ℕ) → (knowing.note_down k node).wants ≡ k.wants
declared_wants k node = by_test (is_among k.down node)
  where
    by_test : (b : Bool) → let x : Knowing = if b then k else record k { down = k.down ++ node ∷ [] } in x.wants ≡ k.wants
    by_test true = refl
    by_test false = refl

and_true : (b : Bool) → (b && true) ≡ b
and_true true = refl
and_true false = refl

and_false : (b : Bool) → (b && false) ≡ false
and_false true = refl
and_false false = refl

abbrev want : ℕ → Bool → Want
want incarnation is_asked = record { incarnation = incarnation; asked = is_asked }

-- ---- views, and nodes that are down

module _ (boot : List View) where
  pub views_at_boot : KnowsViews boot booted (knowing.at_boot boot)
  views_at_boot = record { views = refl; down = refl }

module _ (place : Place) (boot : List View) (begins : Joiner) (kept : MemberRecord) where
  no_wants : (n : ℕ) (views : List View) → map knowing.no_want views ≡ wants_from (want_at place boot begins kept booted) n views
  no_wants n [] = refl
  no_wants n (view ∷ views) = ap (λ ws. want 0 false ∷ ws) (no_wants (n + 1) views)

  pub knows_at_boot : KnowsAt place boot begins kept booted (knowing.at_boot boot)
  knows_at_boot = record { seen = views_at_boot boot; wants = no_wants 0 boot }

  -- ---- what comes

  module _ (p : Past) (step : ℕ) (k : Knowing) where
    -- as it came
    abbrev Amid : Occurrence → Type 0
    Amid o = KnowsAmid place boot begins kept (followed p step o) (known_behind place boot begins kept p o k)

    abbrev wanted : ℕ → ℕ
    wanted t = wanted_incarnation place boot begins kept t p

    abbrev looked : ℕ → Bool
    looked t = is_unanswered place boot begins kept p t

    module _ (h : KnowsAt place boot begins kept p k) where
      -- nothing is wanted or answered
      wants_stay : k.wants ≡ wants_from (λ t. want (wanted t) (looked t && true)) 0 boot
      wants_stay = h.wants ∙ from_same (want_at place boot begins kept p) (λ t. want (wanted t) (looked t && true)) (λ t. ap (want (wanted t)) (sym (and_true (looked t)))) boot

      -- more is wanted of one troupe
      wants_more : (troupe incarnation : ℕ) → (knowing.want_view k troupe incarnation).wants ≡ wants_from (λ t. want (if nat_eq t troupe then max (wanted t) incarnation else wanted t) (looked t && true)) 0 boot
      wants_more troupe incarnation =
          let change : Want → Want = λ w. want (max w.incarnation incarnation) w.asked in
          want_changed change (want_at place boot begins kept p) (λ t. want (if nat_eq t troupe then max (wanted t) incarnation else wanted t) (looked t && true)) troupe (λ t. each t (nat_eq t troupe)) k.wants boot h.wants
        where
          each : (t : ℕ) (b : Bool) → (if b then want (max (wanted t) incarnation) (looked t) else want (wanted t) (looked t)) ≡ want (if b then max (wanted t) incarnation else wanted t) (looked t && true)
          each t true = ap (want (max (wanted t) incarnation)) (sym (and_true (looked t)))
          each t false = ap (want (wanted t)) (sym (and_true (looked t)))

      asked_then : (header : CallHeader) (body : List ℕ) (sender : Caller) → Amid (comes.Asked header body sender)
      asked_then header body sender = by_test (is_held place boot begins kept p (record { header = header; body = body; sender = sender })) refl
        where
          by_test : (b : Bool) → b ≡ is_held place boot begins kept p (record { header = header; body = body; sender = sender })
              → KnowsAmid place boot begins kept (followed p step (comes.Asked header body sender)) (if b then knowing.want_view k header.client header.client_incarnation else k)
          by_test true is =
              record {
                seen = record { views = h.seen.views; down = h.seen.down };
                wants = wants_more header.client header.client_incarnation
                    ∙ (λ j. wants_from (λ t. want (if is j && nat_eq t header.client then max (wanted t) header.client_incarnation else wanted t) (looked t && true)) 0 boot);
              }
          by_test false is =
              record {
                seen = record { views = h.seen.views; down = h.seen.down };
                wants = wants_stay
                    ∙ (λ j. wants_from (λ t. want (if is j && nat_eq t header.client then max (wanted t) header.client_incarnation else wanted t) (looked t && true)) 0 boot);
              }

      told_then : (request : Request) (table : Table) → Amid (comes.Told request table)
      told_then request table =
          let a = answered_by_ring k request table.view.troupe in
          record {
            seen = record {
              views = told_views a table.view ∙ ap (λ vs. past.with_view vs table.view) (ring_views k request table.view.troupe ∙ h.seen.views);
              down = told_down a table.view ∙ ring_down k request table.view.troupe ∙ h.seen.down;
            };
            wants = told_wants a table.view ∙ by_lookup (is_lookup request);
          }
        where
          by_lookup : (b : Bool) → let a : Knowing = if b then knowing.note_answer k table.view.troupe else k in
              a.wants ≡ wants_from (λ t. want (wanted t) (looked t && not (b && nat_eq t table.view.troupe))) 0 boot
          by_lookup false = wants_stay
          by_lookup true =
              want_changed (λ w. want w.incarnation false) (want_at place boot begins kept p) (λ t. want (wanted t) (looked t && not (nat_eq t table.view.troupe))) table.view.troupe (λ t. each t (nat_eq t table.view.troupe)) k.wants boot h.wants
            where
              each : (t : ℕ) (b : Bool) → (if b then want (wanted t) false else want (wanted t) (looked t)) ≡ want (wanted t) (looked t && not b)
              each t true = ap (want (wanted t)) (sym (and_false (looked t)))
              each t false = ap (want (wanted t)) (sym (and_true (looked t)))

      pub knows_amid : (o : Occurrence) → Amid o
      knows_amid (comes.Asked header body sender) = asked_then header body sender
      knows_amid (comes.Fetched incarnation sender) = record { seen = record { views = h.seen.views; down = h.seen.down }; wants = wants_stay }
      knows_amid (comes.Replied name from reply) = record { seen = record { views = h.seen.views; down = h.seen.down }; wants = wants_stay }
      knows_amid (comes.IsStale name server from incarnation) = record { seen = record { views = h.seen.views; down = h.seen.down }; wants = wants_more server incarnation }
      knows_amid (comes.IsBefore name from) = record { seen = record { views = h.seen.views; down = h.seen.down }; wants = wants_stay }
      knows_amid (comes.Told request table) = told_then request table
      knows_amid (comes.Restored state count) = record { seen = record { views = h.seen.views; down = h.seen.down }; wants = wants_stay }
      knows_amid (comes.Declared node) =
          record {
            seen = record {
              views = declared_views k node ∙ h.seen.views;
              down = declared_down k node ∙ (λ j. if is_among (h.seen.down j) node then h.seen.down j else h.seen.down j ++ node ∷ []);
            };
            wants = declared_wants k node ∙ wants_stay;
          }
      knows_amid comes.Joins = record { seen = record { views = h.seen.views; down = h.seen.down }; wants = wants_stay }

  -- ---- Lookups

  module _ (p : Past) (step : ℕ) (o : Occurrence) (k : Knowing) (h : KnowsAmid place boot begins kept (followed p step o) k) where
    abbrev q : Past
    q = followed p step o

    abbrev troupes : List ℕ
    troupes = due place boot begins kept (is_left place boot begins kept q) q

    due_is : (n : ℕ) (views wanting : List View) → length views ≡ length wanting
        → knowing.due_from n views (wants_from (want_amid place boot begins kept q) n wanting) ≡ due_from place boot begins kept (is_left place boot begins kept q) q n views
    due_is n [] wanting long = refl
    due_is n (view ∷ views) [] long = absurd (omega (arith, long))
    due_is n (view ∷ views) (other ∷ wanting) long =
        ap (λ l. (if is_due place boot begins kept (is_left place boot begins kept q) q n view then n ∷ [] else []) ++ l) (due_is (n + 1) views wanting (omega (arith, long)))

    lookups_now : knowing.lookups k ringmaster ≡ troupes
    lookups_now =
        (λ j. if is_among (h.seen.down j) ringmaster then [] else knowing.due_from 0 (h.seen.views j) (h.wants j))
        ∙ ap (λ l. if is_among (nodes_declared_down q) ringmaster then [] else l) (due_is 0 (views_known boot q) boot (known_long boot q))

    -- those that are made
    pub lookups_are : lookups place boot begins kept q ≡ map lookup_call (knowing.lookups k ringmaster)
    lookups_are = ap (map lookup_call) (sym lookups_now)

    -- once they are made
    pub knows_then : KnowsAt place boot begins kept q (knowing.note_lookup k ringmaster)
    knows_then =
        let amid = want_amid place boot begins kept q in
        record {
          seen = record { views = h.seen.views; down = h.seen.down };
          wants = (λ j. knowing.asked_all ((h.wants ∙ from_is amid 0 boot) j) (lookups_now j))
              ∙ asked_all_of amid troupes boot
              ∙ sym (from_is (want_at place boot begins kept q) 0 boot);
        }
