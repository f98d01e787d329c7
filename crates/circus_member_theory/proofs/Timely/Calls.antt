-- The calls that a member holds are what is left of all that arrived: of an index that it might still perform, all are left that are not
-- of an older view than required.
use Rattle.std.proofs.Common.{◌≡◌, ℕ, ◌≤◌, ◌&&◌, not, nat_eq, nat_lt, nat_le, Bool, true, false, cond, if◌then◌else◌, true≢false, List, [], ◌∷◌, ◌++◌, map, filter, Option, None, Some, refl, ap, sym, ◌∙◌, arith}
use Rattle.std.specs.Prelude.{max}
use Rattle.std.specs.Option.{option_map_or}
use Rattle.std.specs.Map.{lookup}
use Rattle.std.proofs.lemmas.Bool.{eqb-true, leb-true, ltb-true, le-ltb, lt-leb, ne_eqb}
use Rattle.std.proofs.lemmas.List.{append-nil}
use Rattle.std.proofs.lemmas.List.Elements.{filter-append}
use Rattle.circus_header.specs.declared.answer.Reply.{Reply}
use Rattle.circus_collate.specs.declared.view.View.{View}
use Rattle.circus_transfer.specs.declared.joiner.Joiner.{Joiner}
use Rattle.circus_gather.specs.declared.held.HeldCall.{HeldCall}
use Rattle.circus_gather.specs.declared.added.Added.TheVariants as added
use Rattle.circus_gather.specs.Gathering.{Gathered, index_of, is_of_index, reply_of, answer_to, is_held, with_call, with_start, is_known, is_counted, as_said, given_call, call_to_start, with_end, is_stale, with_required, is_before, with_first}
use Rattle.circus_member_rules.specs.declared.place.Place.{Place}
use Rattle.circus_member_rules.proofs.Named.{lookup-push}
use Rattle.circus_member_theory.specs.Past.{Past, views_known, nodes_declared_down, required_incarnation, calls_arrived}
use Rattle.circus_member_theory.specs.Timely.{collated_call}

-- ---- lists that pass tests

and_left : (a b : Bool) → (a && b) ≡ true → a ≡ true
and_left true b is = refl
and_left false b is = is

and_right : (a b : Bool) → (a && b) ≡ true → b ≡ true
and_right true b is = is
and_right false b is = cc

and_false : (a : Bool) → (a && false) ≡ false
and_false true = refl
and_false false = refl

module _ {X : Type 0} where
  -- what passes one test passes another, which was asked before
  filter_kept : (test keep : X → Bool) (xs : List X) → ((x : X) → test x ≡ true → keep x ≡ true) → filter test (filter keep xs) ≡ filter test xs
  filter_kept test keep [] passes = refl
  filter_kept test keep (x ∷ xs) passes = by_tests (filter_kept test keep xs passes) (keep x) (test x) refl refl
    where
      by_tests : filter test (filter keep xs) ≡ filter test xs → (kept passed : Bool) → keep x ≡ kept → test x ≡ passed
          → filter test (cond kept (x ∷ filter keep xs) (filter keep xs)) ≡ cond passed (x ∷ filter test xs) (filter test xs)
      by_tests rest true true stays here = rw here (ap (λ ys. x ∷ ys) rest)
      by_tests rest true false stays here = rw here rest
      by_tests rest false true stays here = absurd (true≢false (sym (passes x here) ∙ stays))
      by_tests rest false false stays here = rest

  filter_both : (one other : X → Bool) (xs : List X) → filter (λ x. one x && other x) xs ≡ filter other (filter one xs)
  filter_both one other [] = refl
  filter_both one other (x ∷ xs) = by_test (filter_both one other xs) (one x)
    where
      by_test : filter (λ y. one y && other y) xs ≡ filter other (filter one xs) → (b : Bool)
          → cond (b && other x) (x ∷ filter (λ y. one y && other y) xs) (filter (λ y. one y && other y) xs) ≡ filter other (cond b (x ∷ filter one xs) (filter one xs))
      by_test rest true = ap (λ ys. cond (other x) (x ∷ ys) ys) rest
      by_test rest false = rest

-- ---- what is left

-- a call of an index, not of an older view than required
abbrev pub is_wanted : ℕ → ℕ → ℕ → HeldCall → Bool
is_wanted own required_incarnation index call = is_of_index own index call && nat_le required_incarnation call.header.server_incarnation

pub record IsLeft (g : Gathered) (calls : List HeldCall) : Type 0 where
  pub same : (index required_incarnation : ℕ) → g.from ≤ index → reply_of g index ≡ None → g.required ≤ required_incarnation
      → filter (is_wanted g.module required_incarnation index) g.held ≡ filter (is_wanted g.module required_incarnation index) calls

counted_wanted : (own required_incarnation : ℕ) (views : List View) (index : ℕ) (calls : List HeldCall)
    → filter (is_counted own required_incarnation views index) calls ≡ filter (λ (c : HeldCall). is_known views c.header.client c.header.client_incarnation)
    (filter (is_wanted own required_incarnation index) calls)
unfolding is_counted
counted_wanted own required_incarnation views index calls =
    filter_both (is_wanted own required_incarnation index) (λ (c : HeldCall). is_known views c.header.client c.header.client_incarnation) calls

wanted_index : (own required_incarnation index : ℕ) (call : HeldCall) → is_wanted own required_incarnation index call ≡ true → index_of own call.header ≡ index
wanted_index own required_incarnation index call is = eqb-true (index_of own call.header) index (and_left (is_of_index own index call) _ is)

wanted_view : (own required_incarnation index : ℕ) (call : HeldCall) → is_wanted own required_incarnation index call ≡ true → required_incarnation ≤ call.header.server_incarnation
wanted_view own required_incarnation index call is = leb-true required_incarnation call.header.server_incarnation (and_right (is_of_index own index call) _ is)

-- a call that isn't held may not start
module _ (g : Gathered) (call : HeldCall) (index required_incarnation : ℕ) (from : g.from ≤ index) (fresh : reply_of g index ≡ None) (later : g.required ≤ required_incarnation) where
  other_index : (index_of g.module call.header ≡ index → ⊥) → is_wanted g.module required_incarnation index call ≡ false
  other_index other =
      ap (λ b. b && nat_le required_incarnation call.header.server_incarnation) (ne_eqb (index_of g.module call.header) index other)

  by_answer : (stale before : Bool) (reply : Option Reply) → nat_lt call.header.server_incarnation g.required ≡ stale → nat_lt (index_of g.module call.header) g.from ≡ before
      → reply_of g (index_of g.module call.header) ≡ reply
      → is_held (if stale then added.Stale g.required else if before then added.Before g.from else option_map_or added.Reply reply added.Held) ≡ false
      → is_wanted g.module required_incarnation index call ≡ false
  by_answer true before reply old early replied out =
      let less = ltb-true call.header.server_incarnation g.required old in
      ap (λ b. is_of_index g.module index call && b) (lt-leb required_incarnation call.header.server_incarnation (omega (arith, less))) ∙ and_false (is_of_index g.module index call)
  by_answer false true reply old early replied out =
      let less = ltb-true (index_of g.module call.header) g.from early in
      other_index (λ same. omega (arith, less, same))
  by_answer false false None old early replied out = cc
  by_answer false false (Some reply) old early replied out =
      other_index (λ same. let some : reply_of g index ≡ Some reply = ap (λ i. reply_of g i) (sym same) ∙ replied in cc)

  not_wanted : is_held (answer_to g call.header) ≡ false → is_wanted g.module required_incarnation index call ≡ false
  not_wanted out = by_answer (nat_lt call.header.server_incarnation g.required) (nat_lt (index_of g.module call.header) g.from)
      (reply_of g (index_of g.module call.header)) refl refl refl out

pub left_call : (g : Gathered) (call : HeldCall) (calls : List HeldCall) → IsLeft g calls → IsLeft (with_call g call) (calls ++ call ∷ [])
left_call g call calls h = by_test (is_held (answer_to g call.header)) refl
  where
    by_test : (b : Bool) → is_held (answer_to g call.header) ≡ b → IsLeft (if b then record g { held = g.held ++ call ∷ [] } else g) (calls ++ call ∷ [])
    by_test true is =
        record {
          same = λ index required_incarnation from fresh later.
              filter-append (is_wanted g.module required_incarnation index) g.held (call ∷ [])
              ∙ ap (λ xs. xs ++ filter (is_wanted g.module required_incarnation index) (call ∷ [])) (h.same index required_incarnation from fresh later)
              ∙ sym (filter-append (is_wanted g.module required_incarnation index) calls (call ∷ []));
        }
    by_test false is =
        record {
          same = λ index required_incarnation from fresh later.
              let out = not_wanted g call index required_incarnation from fresh later is in
              h.same index required_incarnation from fresh later
              ∙ sym (append-nil (filter (is_wanted g.module required_incarnation index) calls))
              ∙ ap (λ b. filter (is_wanted g.module required_incarnation index) calls ++ cond b (call ∷ []) []) (sym out)
              ∙ sym (filter-append (is_wanted g.module required_incarnation index) calls (call ∷ []));
        }

pub left_required : (g : Gathered) (incarnation : ℕ) (calls : List HeldCall) → IsLeft g calls → IsLeft (with_required g incarnation) calls
left_required g incarnation calls h =
    record {
      same = λ index required_incarnation from fresh later.
          filter_kept (is_wanted g.module required_incarnation index) (λ c. not (is_stale g (max g.required incarnation) c)) g.held (λ c is. stays c required_incarnation index later is)
          ∙ h.same index required_incarnation from fresh (omega (arith, later));
    }
  where
    stays : (c : HeldCall) (required_incarnation index : ℕ) → max g.required incarnation ≤ required_incarnation → is_wanted g.module required_incarnation index c ≡ true
        → not (is_stale g (max g.required incarnation) c) ≡ true
    stays c required_incarnation index later is =
        let view = wanted_view g.module required_incarnation index c is in
        rw (le-ltb c.header.server_incarnation (max g.required incarnation) (omega (arith, view, later))) refl

pub left_first : (g : Gathered) (first : ℕ) (calls : List HeldCall) → g.from ≡ 0 → IsLeft g calls → IsLeft (with_first g first) calls
left_first g first calls none h =
    record {
      same = λ index required_incarnation from fresh later.
          filter_kept (is_wanted g.module required_incarnation index) (λ c. not (is_before g first c)) g.held (λ c is. stays c required_incarnation index from is)
          ∙ h.same index required_incarnation (omega (arith, none)) fresh later;
    }
  where
    stays : (c : HeldCall) (required_incarnation index : ℕ) → first ≤ index → is_wanted g.module required_incarnation index c ≡ true → not (is_before g first c) ≡ true
    stays c required_incarnation index from is =
        let same = wanted_index g.module required_incarnation index c is in
        ap not (le-ltb (index_of g.module c.header) first (omega (arith, same, from)))

pub left_start : (g : Gathered) (index : ℕ) (calls : List HeldCall) → IsLeft g calls → IsLeft (with_start g index) calls
left_start g index calls h = record { same = h.same }

pub left_end : (g : Gathered) (index : ℕ) (reply : Reply) (calls : List HeldCall) → IsLeft g calls → IsLeft (with_end g index reply) calls
left_end g ended reply calls h =
    record {
      same = λ index required_incarnation from fresh later.
          let two = by_reply index (lookup (nat_eq index) g.replies) (nat_eq index ended) (sym (lookup-push (nat_eq index) g.replies (ended, reply)) ∙ fresh) in
          filter_kept (is_wanted g.module required_incarnation index) (λ c. not (is_of_index g.module ended c)) g.held (λ c is. stays c required_incarnation index two.1 is)
          ∙ h.same index required_incarnation from two.0 later;
    }
  where
    by_reply : (index : ℕ) (o : Option Reply) (same : Bool) → option_map_or Some o (cond same (Some reply) None) ≡ None → (o ≡ None) × (same ≡ false)
    by_reply index None true is = absurd cc
    by_reply index None false is = (refl, refl)
    by_reply index (Some r) same is = absurd cc

    stays : (c : HeldCall) (required_incarnation index : ℕ) → nat_eq index ended ≡ false → is_wanted g.module required_incarnation index c ≡ true → not (is_of_index g.module ended c) ≡ true
    stays c required_incarnation index other is =
        let same = wanted_index g.module required_incarnation index c is in
        ap (λ i. not (nat_eq i ended)) same ∙ ap not other

-- ---- so the call that starts is that of all that arrived

pub call_is : (place : Place) (boot : List View) (begins : Joiner) (g : Gathered) (views : List View) (gone : List ℕ) (index : ℕ) (p : Past) → IsLeft g (calls_arrived p)
    → g.module ≡ place.troupe
    → g.required ≡ required_incarnation p → views ≡ views_known boot p → gone ≡ nodes_declared_down p → g.from ≤ index → reply_of g index ≡ None
    → call_to_start g views gone place.calls index ≡ collated_call place boot begins index p
call_is place boot begins g views gone index p left own least views_are down_are from fresh =
    let counts : ℕ → ℕ → List View → List HeldCall → List HeldCall = λ o r vs calls. filter (is_counted o r vs index) calls in
    let over : counts g.module g.required views g.held ≡ counts g.module g.required views (calls_arrived p) =
    counted_wanted g.module g.required views index g.held
    ∙ ap (filter (λ (c : HeldCall). is_known views c.header.client c.header.client_incarnation)) (left.same index g.required from fresh (omega arith))
    ∙ sym (counted_wanted g.module g.required views index (calls_arrived p)) in
    ap (λ calls. given_call views gone place.calls (map as_said calls)) over
    ∙ (λ j. given_call (views_are j) (down_are j) place.calls (map as_said (filter (is_counted (own j) (least j) (views_are j) index) (calls_arrived p))))
