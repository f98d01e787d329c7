-- The call of each number arrives at a pair once.
use Rattle.std.proofs.Common.{◌≡◌, ℕ, ◌≤◌, nat_lt, ◌==◌, Bool, true, false, cond, not, ◌&&◌, ◌||◌, eqb, List, Option, None, Some, Result, Ok, Err, inl, inr, refl, sym, ap, subst, ◌∙◌, arith}
use Rattle.std.specs.Prelude.{is_some, unwrap_or, if◌then◌else◌}
use Rattle.std.specs.Cmp.{nat_cmp_total}
use Rattle.std.specs.FinMap.{get, get-insert}
use Rattle.std.proofs.lemmas.Bool.{and_parts, eqb-true, le-leb, ltb-false, false≢true}
use Rattle.std.proofs.lemmas.Bool.Decides.{eqb_tells}
use Rattle.circus_segment.specs.Segment.{Piece, has_bad_number, has_bad_part, has_data, header_refusal, is_acknowledgement, fields_of, or_else, or_refused, most_segments, reading}
use Rattle.circus_segment.specs.declared.fault.SegmentFault.{SegmentFault}
use Rattle.circus_segment.specs.declared.fault.SegmentFault.TheVariants.{BadNumber, BadPart}
use Rattle.circus_exchange.specs.declared.exchange.Exchange.{Exchange}
use Rattle.circus_exchange.specs.declared.progress.Progress.{Progress}
use Rattle.circus_exchange.specs.declared.taken.Arrived.TheVariants.{Nothing, ArrivedCall, ArrivedReturn}
use Rattle.circus_exchange.specs.Inbox.{Arriving, front, progress_so_far, fits, part_of, is_there, has, has_with, is_new, count_with, completes, data_with, data_up_to, add_segment}
use Rattle.circus_exchange.specs.Exchange.{is_whole, send_call, send_return, takes, call_reached, return_reached, end_call, return_added, after_taken, after, arrived_of_taken, arrived_after, count_tick}
use Rattle.circus_exchange.proofs.Ties.{equal, nat_ties}
use Rattle.circus_pair.proofs.Taking.{by_segment, takes_call_segment, call_acknowledged_leaves, return_acknowledged_leaves, call_segment_leaves, return_segment_leaves}

-- ---- segments

either : (a b : Bool) → (a || b) ≡ false → (a ≡ false) × (b ≡ false)
either true b is = absurd (false≢true (sym is))
either false b is = (refl, is)

-- the number of a segment that is read is within its total
pub reading_within : (bytes : List ℕ) (s : Piece) → reading bytes ≡ Ok s → s.number ≤ s.total
reading_within bytes s is = by_tests (header_refusal bytes) (has_bad_number f) (has_bad_part f) refl is
  where
    f : Piece
    f = fields_of bytes

    bound : has_bad_number f ≡ false → f.number ≤ f.total
    bound good =
        let some = (either (f.total == 0) _ good).1 in
        let few = (either (nat_lt (most_segments 2) f.total) _ some).1 in
        ltb-false f.total f.number (either (nat_lt f.total f.number) _ few).0

    by_tests : (header : Option SegmentFault) (number part : Bool) → has_bad_number f ≡ number
        → or_refused (or_else header (if number then Some BadNumber else if part then Some BadPart else None)) f ≡ Ok s → s.number ≤ s.total
    by_tests (Some fault) number part good e = absurd (let clash : ◌≡◌ {A = Result Piece SegmentFault} (Err fault) (Ok s) = e in cc)
    by_tests None true part good e = absurd (let clash : ◌≡◌ {A = Result Piece SegmentFault} (Err BadNumber) (Ok s) = e in cc)
    by_tests None false true good e = absurd (let clash : ◌≡◌ {A = Result Piece SegmentFault} (Err BadPart) (Ok s) = e in cc)
    by_tests None false false good e = let same : f ≡ s = cc in subst (λ (x : Piece). x.number ≤ x.total) same (bound good)

-- ---- calls that arrive

and_false : (b : Bool) → (b && false) ≡ false
and_false true = refl
and_false false = refl

module _ (box : Arriving) (s : Piece) (within : s.number ≤ s.total) (fit : fits box s ≡ true) where
  record IsOld : Type 0 where
    pub not_new : is_new box s ≡ false
    pub count : (progress_so_far box s).count ≡ s.total

  -- a message that is whole lacks nothing
  whole_is_old : is_whole (get box.progress s.call) ≡ true → IsOld
  unfolding is_new has progress_so_far fits
  whole_is_old whole = by_known (get box.progress s.call) refl whole
    where
      by_known : (o : Option Progress) → get box.progress s.call ≡ o → is_whole o ≡ true → IsOld
      by_known None at is = absurd (false≢true is)
      by_known (Some p) at is =
          let known_is : progress_so_far box s ≡ p = ap (λ o. unwrap_or o (record { total = s.total; count = 0 })) at in
          let all : p.count ≡ p.total = eqb-true p.count p.total is in
          let total : p.total ≡ s.total = eqb-true p.total s.total (sym (ap (λ (q : Progress). eqb q.total s.total) known_is) ∙ fit) in
          let there : has box s s.number ≡ true =
          ap (λ (q : Progress). is_there q (get box.parts s.call) s.number) known_is
          ∙ ap (λ b. b || is_some (part_of (get box.parts s.call) s.number)) (le-leb s.number p.count (omega (arith, within, all, total))) in
          record {
            not_new = ap (λ b. has_data s && not b) there ∙ and_false (has_data s);
            count = ap (λ (q : Progress). q.count) known_is ∙ all ∙ total;
          }

  -- so the last segment of a message finds it not whole
  was_not_whole : completes box s ≡ true → is_whole (get box.progress s.call) ≡ false
  unfolding completes
  was_not_whole done = by_test (is_whole (get box.progress s.call)) refl
    where
      by_test : (b : Bool) → is_whole (get box.progress s.call) ≡ b → b ≡ false
      by_test false is = refl
      by_test true is = absurd (false≢true (sym (ap (λ b. b && eqb (count_with box s) s.total) (whole_is_old is).not_new) ∙ done))

  -- what is behind a segment at the number of its call
  here : (n : ℕ) → n ≡ s.call → is_whole (get (add_segment box s).progress n) ≡ eqb (count_with box s) s.total
  unfolding add_segment
  here n same =
      ap is_whole (get-insert nat_cmp_total box.progress s.call (record { total = s.total; count = count_with box s }) n)
      ∙ ap (λ b. is_whole (cond b (Some (record { total = s.total; count = count_with box s })) (get box.progress n))) (nat_ties n s.call ∙ ap (λ k. eqb k s.call) same ∙ equal s.call)

  elsewhere : (n : ℕ) → eqb n s.call ≡ false → is_whole (get (add_segment box s).progress n) ≡ is_whole (get box.progress n)
  unfolding add_segment
  elsewhere n other =
      ap is_whole (get-insert nat_cmp_total box.progress s.call (record { total = s.total; count = count_with box s }) n)
      ∙ ap (λ b. is_whole (cond b (Some (record { total = s.total; count = count_with box s })) (get box.progress n))) (nat_ties n s.call ∙ other)

  is_whole_now : completes box s ≡ true → is_whole (get (add_segment box s).progress s.call) ≡ true
  unfolding completes
  is_whole_now done = here s.call refl ∙ (and_parts (is_new box s) (eqb (count_with box s) s.total) done).1

  -- what is whole stays so
  added_whole : (n : ℕ) → is_whole (get box.progress n) ≡ true → is_whole (get (add_segment box s).progress n) ≡ true
  unfolding count_with
  added_whole n whole = elim (eqb_tells n s.call) [
    | inl same ↦
        let old = whole_is_old (subst (λ k. is_whole (get box.progress k) ≡ true) same.1 whole) in
        here n same.1 ∙ ap (λ b. eqb (if b then front (has_with box s) s.total else (progress_so_far box s).count) s.total) old.not_new ∙ ap (λ k. eqb k s.total) old.count ∙ equal s.total
    | inr other ↦ elsewhere n other.0 ∙ whole
  ]

-- ---- a pair

-- the call of a number has arrived whole
abbrev pub has_call : Exchange → ℕ → Bool
has_call e number = is_whole (get e.arriving_calls.progress number)

pub called_has : (e : Exchange) (message : List ℕ) (n : ℕ) → has_call e n ≡ true → has_call (send_call e message) n ≡ true
unfolding send_call
called_has e message n is = is

pub returned_has : (e : Exchange) (call : ℕ) (message : List ℕ) (n : ℕ) → has_call e n ≡ true → has_call (send_return e call message) n ≡ true
unfolding send_return
returned_has e call message n is = is

pub ticked_has : (e : Exchange) (n : ℕ) → has_call e n ≡ true → has_call (count_tick e) n ≡ true
unfolding count_tick
ticked_has e n is = is

module _ (e : Exchange) (s : Piece) (within : s.number ≤ s.total) where
  taken_has : takes e s ≡ true → (n : ℕ) → has_call e n ≡ true → has_call (after_taken e s) n ≡ true
  unfolding call_reached return_reached return_added end_call
  taken_has takes_it n is =
      by_segment s _
      (λ ack call. let same = call_acknowledged_leaves e s ack call in ap (λ (box : Arriving). is_whole (get box.progress n)) same.arriving_calls ∙ is)
      (λ ack return_. let same = return_acknowledged_leaves e s ack return_ in ap (λ (box : Arriving). is_whole (get box.progress n)) same.arriving_calls ∙ is)
      (λ plain call. let same = call_segment_leaves e s plain call in
      ap (λ (box : Arriving). is_whole (get box.progress n)) same.arriving_calls
      ∙ added_whole e.arriving_calls s within (takes_call_segment e s takes_it plain call) n is)
      (λ plain return_. let same = return_segment_leaves e s plain return_ in ap (λ (box : Arriving). is_whole (get box.progress n)) same.arriving_calls ∙ is)

  pub after_has : (n : ℕ) → has_call e n ≡ true → has_call (after e s) n ≡ true
  after_has n is = by_test (takes e s) refl
    where
      by_test : (b : Bool) → takes e s ≡ b → has_call (if b then after_taken e s else e) n ≡ true
      by_test true takes_it = taken_has takes_it n is
      by_test false takes_it = is

  -- a call that arrives had not arrived, and has then
  pub record IsFirst (n : ℕ) : Type 0 where
    pub before : has_call e n ≡ false
    pub now : has_call (after e s) n ≡ true

  pub arrives_first : (n : ℕ) (message : List ℕ) → arrived_after e s ≡ ArrivedCall n message → IsFirst n
  unfolding arrived_of_taken
  arrives_first n message is = by_taken (takes e s) (is_acknowledgement s) refl refl is
    where
      call_arrives : takes e s ≡ true → is_acknowledgement s ≡ false → eqb s.kind 0 ≡ true → completes e.arriving_calls s ≡ true → IsFirst s.call
      call_arrives takes_it plain call done =
          let fit = takes_call_segment e s takes_it plain call in
          let same = call_segment_leaves e s plain call in
          record {
            before = was_not_whole e.arriving_calls s within fit done;
            now = ap (λ b. has_call (if b then after_taken e s else e) s.call) takes_it
                ∙ ap (λ (box : Arriving). is_whole (get box.progress s.call)) same.arriving_calls ∙ is_whole_now e.arriving_calls s within fit done;
          }

      by_kind : (call one other : Bool) → takes e s ≡ true → is_acknowledgement s ≡ false → eqb s.kind 0 ≡ call → completes e.arriving_calls s ≡ one
          → (if call
          then (if one then ArrivedCall s.call (data_up_to (data_with e.arriving_calls s) s.total) else Nothing)
          else (if other then ArrivedReturn s.call (data_up_to (data_with e.arriving_returns s) s.total) else Nothing)) ≡ ArrivedCall n message → IsFirst n
      by_kind true true other takes_it plain kind done a =
          let same : s.call ≡ n = cc in subst IsFirst same (call_arrives takes_it plain kind done)
      by_kind true false other takes_it plain kind done a = absurd (let clash : Nothing ≡ ArrivedCall n message = a in cc)
      by_kind false one true takes_it plain kind done a = absurd (let clash : ArrivedReturn s.call (data_up_to (data_with e.arriving_returns s) s.total) ≡ ArrivedCall n message = a in cc)
      by_kind false one false takes_it plain kind done a = absurd (let clash : Nothing ≡ ArrivedCall n message = a in cc)

      by_taken : (t a : Bool) → takes e s ≡ t → is_acknowledgement s ≡ a → (if t && not a then arrived_of_taken e s else Nothing) ≡ ArrivedCall n message → IsFirst n
      by_taken true false takes_it plain x = by_kind (eqb s.kind 0) (completes e.arriving_calls s) (completes e.arriving_returns s) takes_it plain refl refl x
      by_taken true true takes_it plain x = absurd (let clash : Nothing ≡ ArrivedCall n message = x in cc)
      by_taken false a takes_it plain x = absurd (let clash : Nothing ≡ ArrivedCall n message = x in cc)
