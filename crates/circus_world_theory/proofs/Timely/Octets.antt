-- What arrives at the pairs of a node to which bytes come is bytes.
use Rattle.std.proofs.Common.{◌≡◌, ℕ, zero, suc, Bool, true, false, cond, not, ◌&&◌, eqb, List, [], Option, None, Some, Result, Ok, Err, refl, sym, ap, subst, ◌∙◌}
use Rattle.std.specs.Prelude.{unwrap_or, if◌then◌else◌}
use Rattle.std.specs.Cmp.{nat_cmp_total}
use Rattle.std.specs.Ordering.{nat_cmp, eq_by_cmp}
use Rattle.std.specs.FinMap.{FinMap, empty, get, insert, remove, get-empty, get-insert, get-remove}
use Rattle.circus_value.specs.Parts.{AreOctets}
use Rattle.circus_value.proofs.Octets.{none_octets, both_octets}
use Rattle.circus_external.proofs.Promises.{octets_rest}
use Rattle.circus_segment.specs.Segment.{Piece, is_acknowledgement, is_second, fields_of, refusal, or_refused, reading}
use Rattle.circus_segment.specs.declared.fault.SegmentFault.{SegmentFault}
use Rattle.circus_exchange.specs.declared.exchange.Exchange.{Exchange}
use Rattle.circus_exchange.specs.declared.taken.Arrived.{Arrived}
use Rattle.circus_exchange.specs.declared.taken.Arrived.TheVariants.{Nothing, ArrivedCall, ArrivedReturn}
use Rattle.circus_exchange.specs.Inbox.{Arriving, part_of, is_new, count_with, completes, data_with, data_up_to, with_part, parts_with, add_segment}
use Rattle.circus_exchange.specs.Exchange.{start, send_call, send_return, takes, call_reached, return_reached, end_call, return_added, after_taken, after, arrived_of_taken, arrived_after, count_tick}
use Rattle.circus_pair.proofs.Taking.{by_segment, call_acknowledged_leaves, return_acknowledged_leaves, call_segment_leaves, return_segment_leaves}

-- ---- messages that arrive in parts

-- each part is bytes
abbrev pub HasOctets : FinMap nat_cmp (FinMap nat_cmp (List ℕ)) → Type 0
HasOctets parts = (call number : ℕ) (part : List ℕ) → part_of (get parts call) number ≡ Some part → AreOctets part

no_parts : HasOctets empty
no_parts call number part is = absurd (nothing (sym (ap (λ o. part_of o number) (get-empty nat_cmp call)) ∙ is))
  where
    nothing : ◌≡◌ {A = Option (List ℕ)} None (Some part) → ⊥
    nothing e = cc

one_put : (number q : ℕ) (part : List ℕ) (kept : FinMap nat_cmp (List ℕ)) (found : List ℕ) → AreOctets part → ((p : List ℕ) → get kept q ≡ Some p → AreOctets p)
    → get (insert kept number part) q ≡ Some found → AreOctets found
one_put number q part kept found octets each is = by_key (eq_by_cmp nat_cmp q number) (sym (get-insert nat_cmp_total kept number part q) ∙ is)
  where
    by_key : (b : Bool) → cond b (Some part) (get kept q) ≡ Some found → AreOctets found
    by_key true e = let same : part ≡ found = cc in subst AreOctets same octets
    by_key false e = each found e

of_parts : (o : Option (FinMap nat_cmp (List ℕ))) (q : ℕ) (part : List ℕ) → get (unwrap_or o empty) q ≡ Some part → part_of o q ≡ Some part
of_parts None q part is = absurd (let clash : ◌≡◌ {A = Option (List ℕ)} None (Some part) = sym (get-empty nat_cmp q) ∙ is in cc)
of_parts (Some parts) q part is = is

more_parts : (parts : FinMap nat_cmp (FinMap nat_cmp (List ℕ))) (call number : ℕ) (part : List ℕ) → AreOctets part → HasOctets parts
    → HasOctets (with_part parts call number part)
more_parts parts call number part octets has q n found is =
    by_key (eq_by_cmp nat_cmp q call) (sym (ap (λ o. part_of o n) (get-insert nat_cmp_total parts call (insert (unwrap_or (get parts call) empty) number part) q)) ∙ is)
  where
    by_key : (b : Bool) → part_of (cond b (Some (insert (unwrap_or (get parts call) empty) number part)) (get parts q)) n ≡ Some found → AreOctets found
    by_key true e =
        one_put number n part (unwrap_or (get parts call) empty) found octets (λ p at. has call n p (of_parts (get parts call) n p at)) e
    by_key false e = has q n found e

less_parts : (parts : FinMap nat_cmp (FinMap nat_cmp (List ℕ))) (call : ℕ) → HasOctets parts → HasOctets (remove parts call)
less_parts parts call has q n found is = by_key (eq_by_cmp nat_cmp q call) (sym (ap (λ o. part_of o n) (get-remove nat_cmp_total parts call q)) ∙ is)
  where
    by_key : (b : Bool) → part_of (cond b None (get parts q)) n ≡ Some found → AreOctets found
    by_key true e = absurd (let clash : ◌≡◌ {A = Option (List ℕ)} None (Some found) = e in cc)
    by_key false e = has q n found e

module _ (box : Arriving) (s : Piece) (octets : AreOctets s.part) (has : HasOctets box.parts) where
  added_octets : HasOctets (add_segment box s).parts
  unfolding add_segment parts_with
  added_octets = by_tests (is_new box s) (eqb (count_with box s) s.total)
    where
      by_tests : (new whole : Bool) → HasOctets (if new then (if whole then remove box.parts s.call else with_part box.parts s.call s.number s.part) else box.parts)
      by_tests true true = less_parts box.parts s.call has
      by_tests true false = more_parts box.parts s.call s.number s.part octets has
      by_tests false whole = has

  data_octets : (number : ℕ) → AreOctets (data_with box s number)
  unfolding data_with
  data_octets number = by_test (eqb number s.number)
    where
      by_part : (o : Option (List ℕ)) → part_of (get box.parts s.call) number ≡ o → AreOctets (unwrap_or o [])
      by_part None at = none_octets
      by_part (Some part) at = has s.call number part at

      by_test : (b : Bool) → AreOctets (if b then s.part else unwrap_or (part_of (get box.parts s.call) number) [])
      by_test true = octets
      by_test false = by_part (part_of (get box.parts s.call) number) refl

  joined_octets : (m : ℕ) → AreOctets (data_up_to (data_with box s) m)
  joined_octets zero = none_octets
  joined_octets (suc m) = both_octets (data_up_to (data_with box s) m) (data_with box s (suc m)) (joined_octets m) (data_octets (suc m))

-- ---- a pair

pub record Gathers (e : Exchange) : Type 0 where
  pub calls : HasOctets e.arriving_calls.parts
  pub returns : HasOctets e.arriving_returns.parts

same_gathers : (e f : Exchange) → f.arriving_calls ≡ e.arriving_calls → f.arriving_returns ≡ e.arriving_returns → Gathers e → Gathers f
same_gathers e f calls returns h = record {
  calls = subst (λ (box : Arriving). HasOctets box.parts) (sym calls) h.calls;
  returns = subst (λ (box : Arriving). HasOctets box.parts) (sym returns) h.returns;
}

pub gathers_none : (number format : ℕ) → Gathers (start number format)
gathers_none number format = record { calls = no_parts; returns = no_parts }

pub gathers_called : (e : Exchange) (message : List ℕ) → Gathers e → Gathers (send_call e message)
unfolding send_call
gathers_called e message h = record { calls = h.calls; returns = h.returns }

pub gathers_returned : (e : Exchange) (call : ℕ) (message : List ℕ) → Gathers e → Gathers (send_return e call message)
unfolding send_return
gathers_returned e call message h = record { calls = h.calls; returns = h.returns }

pub gathers_ticked : (e : Exchange) → Gathers e → Gathers (count_tick e)
unfolding count_tick
gathers_ticked e h = record { calls = h.calls; returns = h.returns }

-- what a segment completes
abbrev pub ArrivedOctets : Arrived → Type 0
ArrivedOctets Nothing = Unit {0}
ArrivedOctets (ArrivedCall number message) = AreOctets message
ArrivedOctets (ArrivedReturn number message) = AreOctets message

module _ (e : Exchange) (s : Piece) (octets : AreOctets s.part) (h : Gathers e) where
  gathers_taken : Gathers (after_taken e s)
  unfolding call_reached return_reached return_added end_call
  gathers_taken =
      by_segment s _
      (λ ack call. let same = call_acknowledged_leaves e s ack call in same_gathers e _ same.arriving_calls same.arriving_returns h)
      (λ ack return_. let same = return_acknowledged_leaves e s ack return_ in same_gathers e _ same.arriving_calls same.arriving_returns h)
      (λ plain call. let same = call_segment_leaves e s plain call in
      same_gathers (record e { arriving_calls = add_segment e.arriving_calls s }) _ same.arriving_calls same.arriving_returns
      (record { calls = added_octets e.arriving_calls s octets h.calls; returns = h.returns }))
      (λ plain return_. let same = return_segment_leaves e s plain return_ in
      same_gathers (record e { arriving_returns = add_segment e.arriving_returns s }) _ same.arriving_calls same.arriving_returns
      (record { calls = h.calls; returns = added_octets e.arriving_returns s octets h.returns }))

  pub gathers_after : Gathers (after e s)
  gathers_after = elim (takes e s) as (λ b. Gathers (cond b (after_taken e s) e)) [ true ↦ gathers_taken | false ↦ h ]

  arrived_taken : ArrivedOctets (arrived_of_taken e s)
  unfolding arrived_of_taken
  arrived_taken = by_tests (eqb s.kind 0) (completes e.arriving_calls s) (completes e.arriving_returns s)
    where
      by_tests : (call one other : Bool) → ArrivedOctets (
          if call
          then (if one then ArrivedCall s.call (data_up_to (data_with e.arriving_calls s) s.total) else Nothing)
          else (if other then ArrivedReturn s.call (data_up_to (data_with e.arriving_returns s) s.total) else Nothing))
      by_tests true true other = joined_octets e.arriving_calls s octets h.calls s.total
      by_tests true false other = tt
      by_tests false one true = joined_octets e.arriving_returns s octets h.returns s.total
      by_tests false one false = tt

  pub arrived_octets : ArrivedOctets (arrived_after e s)
  arrived_octets = by_test (takes e s && not (is_acknowledgement s))
    where
      by_test : (b : Bool) → ArrivedOctets (if b then arrived_of_taken e s else Nothing)
      by_test true = arrived_taken
      by_test false = tt

-- ---- a segment

either_part : (b : Bool) (one other : Piece) → AreOctets one.part → AreOctets other.part → AreOctets (if b then one else other).part
either_part true one other first second = first
either_part false one other first second = second

fields_octets : (bytes : List ℕ) → AreOctets bytes → AreOctets (fields_of bytes).part
unfolding fields_of
fields_octets bytes octets = either_part (is_second bytes) _ _ (octets_rest bytes 10 octets) (octets_rest bytes 8 octets)

pub reading_octets : (bytes : List ℕ) (s : Piece) → AreOctets bytes → reading bytes ≡ Ok s → AreOctets s.part
reading_octets bytes s octets is = by_refusal (refusal bytes) is
  where
    by_refusal : (o : Option SegmentFault) → or_refused o (fields_of bytes) ≡ Ok s → AreOctets s.part
    by_refusal None e = let same : fields_of bytes ≡ s = cc in subst (λ (p : Piece). AreOctets p.part) same (fields_octets bytes octets)
    by_refusal (Some fault) e = absurd (let clash : ◌≡◌ {A = Result Piece SegmentFault} (Err fault) (Ok s) = e in cc)
