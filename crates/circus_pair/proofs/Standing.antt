-- After every list of acts an end keeps what the segments say that it took.
use Rattle.std.proofs.Common.{◌≡◌, ℕ, ◌<◌, ◌≤◌, Bool, true, false, cond, not, ◌&&◌, ◌||◌, eqb, ltb, List, [], ◌∷◌, Option, None, Some, refl, sym, ap, subst, ◌∙◌, arith}
use Rattle.std.specs.Prelude.{unwrap_or}
use Rattle.std.proofs.lemmas.Bool.{and_parts, ne_eqb, eqb-true}
use Rattle.circus_exchange.specs.declared.progress.Progress.{Progress}
use Rattle.circus_exchange.specs.Inbox.{Arriving}
use Rattle.circus_exchange.specs.declared.exchange.Exchange.{Exchange}
use Rattle.circus_exchange.specs.declared.taken.Arrived.{Arrived}
use Rattle.circus_exchange.specs.declared.taken.Arrived.TheVariants.{Nothing, ArrivedCall, ArrivedReturn}
use Rattle.circus_segment.specs.Segment.{Piece, IsSegment, is_acknowledgement, spelling}
use Rattle.circus_exchange.specs.Inbox.{progress_so_far, fits, completes, data_up_to, data_with, is_new, count_with, acknowledgement_for, acknowledgement, add_segment}
use Rattle.circus_exchange.specs.Exchange.{start, send_call, send_return, takes, call_reached, return_reached, end_call, return_added, after_taken, after, arrived_of_taken, arrived_after, count_tick}
use Rattle.circus_pair.specs.Taken.{is_of, total_in, count_in, has_arrived, message_in, IsTotal, MayFollow, AreTaken}
use Rattle.circus_pair.specs.Acts.{Act, Came, Acts, none_yet, more, happens, end_after, with_taken, taken_by, IsAct, AreActs, arrival_by, acknowledged_by}
use Rattle.circus_pair.proofs.Arrivals.{Keeps, told, keeps_nothing, keeps_other, keeps_more, completes_is, count_is, message_is}
use Rattle.circus_pair.proofs.Taking.{return_is, takes_call_segment, takes_return_segment, by_segment, by_taken, call_acknowledged_leaves, return_acknowledged_leaves, call_segment_leaves, return_segment_leaves}

-- what the boxes of arriving messages hold
pub record Stands (ts : List Piece) (e : Exchange) : Type 0 where
  pub calls : Keeps 0 ts e.arriving_calls
  pub returns : Keeps 1 ts e.arriving_returns
  pub taken : AreTaken ts

-- ---- what may follow

number_facts : (total number : ℕ) (full : Bool) → (eqb total 0 || (ltb 1025 total || (ltb total number || (eqb number 0 && full)))) ≡ false → (0 < total) × (number ≤ total) × (full ≡ true → 0 < number)
number_facts total number full h = (grind arith, grind arith, λ yes_. grind arith)

told_total : (o : Option ℕ) (c : ℕ → ℕ) (t : ℕ) → eqb (unwrap_or {T = Progress} (told o c) (record { total = t; count = 0 })).total t ≡ true → IsTotal o t
told_total None c t h = tt
told_total (Some x) c t h = eqb-true x t h

fit_total : (kind : ℕ) (ts : List Piece) (s : Piece) (box : Arriving) → Keeps kind ts box → fits box s ≡ true → IsTotal (total_in ts kind s.call) s.total
unfolding fits progress_so_far
fit_total kind ts s box keeps h =
    told_total (total_in ts kind s.call) (count_in ts kind s.call) s.total
    (subst (λ (o : Option Progress). eqb (unwrap_or {T = Progress} o (record { total = s.total; count = 0 })).total s.total ≡ true) (keeps.progress s.call) h)

kind_call : (s : Piece) → eqb s.kind 0 ≡ true → 0 ≡ s.kind
kind_call s h = sym (eqb-true s.kind 0 h)

-- what an end takes may follow what it took
pub may_follow : (ts : List Piece) (e : Exchange) (s : Piece) → Stands ts e → IsSegment s → takes e s ≡ true → MayFollow ts s
may_follow ts e s stands segment h =
    let facts = number_facts s.total s.number _ segment.numbered in
    record {
      total = λ plain_. (
          let plain : is_acknowledgement s ≡ false = turned (is_acknowledgement s) plain_ in
          elim (eqb s.kind 0) as (λ b. eqb s.kind 0 ≡ b → IsTotal (total_in ts s.kind s.call) s.total) [
            | true ↦ λ call. subst (λ k. IsTotal (total_in ts k s.call) s.total) (kind_call s call) (fit_total 0 ts s e.arriving_calls stands.calls (takes_call_segment e s h plain call))
            | false ↦ λ return_. subst (λ k. IsTotal (total_in ts k s.call) s.total) (sym (return_is s segment return_)) (fit_total 1 ts s e.arriving_returns stands.returns (takes_return_segment e s h plain return_).1)
          ] refl);
      some = facts.0;
      within = facts.1;
      numbered = facts.2;
    }
  where
    turned : (b : Bool) → not b ≡ true → b ≡ false
    turned true k = absurd cc
    turned false k = refl

-- ---- one act more

pub other_kind : (s : Piece) (kind : ℕ) → (s.kind ≡ kind → ⊥) → (call : ℕ) → is_of kind call s ≡ false
other_kind s kind differ call = ap (λ b. b && (eqb s.call call && not (is_acknowledgement s))) (ne_eqb s.kind kind differ)

no_part : (a b : Bool) → (a && (b && false)) ≡ false
no_part true true = refl
no_part true false = refl
no_part false b = refl

pub acknowledges : (s : Piece) (kind : ℕ) → is_acknowledgement s ≡ true → (call : ℕ) → is_of kind call s ≡ false
acknowledges s kind ack call = ap (λ b. eqb s.kind kind && (eqb s.call call && not b)) ack ∙ no_part (eqb s.kind kind) (eqb s.call call)

kept : (kind : ℕ) (ts : List Piece) (a b : Arriving) → a ≡ b → Keeps kind ts b → Keeps kind ts a
kept kind ts a b same keeps = subst (λ x. Keeps kind ts x) (sym same) keeps

stands_acknowledged : (ts : List Piece) (e f : Exchange) (s : Piece) → Stands ts e → MayFollow ts s → is_acknowledgement s ≡ true → f.arriving_calls ≡ e.arriving_calls → f.arriving_returns ≡ e.arriving_returns → Stands (s ∷ ts) f
stands_acknowledged ts e f s stands may ack calls returns = record {
  calls = kept 0 (s ∷ ts) _ _ calls (keeps_other s ts 0 e.arriving_calls (acknowledges s 0 ack) stands.calls);
  returns = kept 1 (s ∷ ts) _ _ returns (keeps_other s ts 1 e.arriving_returns (acknowledges s 1 ack) stands.returns);
  taken = (may, stands.taken);
}

stands_taken : (ts : List Piece) (e : Exchange) (s : Piece) → Stands ts e → IsSegment s → takes e s ≡ true → Stands (s ∷ ts) (after_taken e s)
unfolding call_reached return_reached return_added end_call
stands_taken ts e s stands segment h =
    let may = may_follow ts e s stands segment h in
    by_segment s _
    (λ ack call. let same = call_acknowledged_leaves e s ack call in stands_acknowledged ts e _ s stands may ack same.arriving_calls same.arriving_returns)
    (λ ack return_. let same = return_acknowledged_leaves e s ack return_ in stands_acknowledged ts e _ s stands may ack same.arriving_calls same.arriving_returns)
    (λ plain call. let same = call_segment_leaves e s plain call in let zero_ : 0 ≡ s.kind = kind_call s call in record {
      calls = kept 0 (s ∷ ts) _ _ same.arriving_calls (subst (λ k. Keeps k (s ∷ ts) (add_segment e.arriving_calls s)) (sym zero_) (keeps_more s ts e.arriving_calls (subst (λ k. Keeps k ts e.arriving_calls) zero_ stands.calls) may plain));
      returns = kept 1 (s ∷ ts) _ _ same.arriving_returns (keeps_other s ts 1 e.arriving_returns (other_kind s 1 (λ one. absurd (omega arith))) stands.returns);
      taken = (may, stands.taken);
    })
    (λ plain return_. let same = return_segment_leaves e s plain return_ in let one : 1 ≡ s.kind = sym (return_is s segment return_) in record {
      calls = kept 0 (s ∷ ts) _ _ same.arriving_calls (keeps_other s ts 0 e.arriving_calls (other_kind s 0 (λ zero_. absurd (omega arith))) stands.calls);
      returns = kept 1 (s ∷ ts) _ _ same.arriving_returns (subst (λ k. Keeps k (s ∷ ts) (add_segment e.arriving_returns s)) (sym one) (keeps_more s ts e.arriving_returns (subst (λ k. Keeps k ts e.arriving_returns) one stands.returns) may plain));
      taken = (may, stands.taken);
    })

stands_came : (ts : List Piece) (e : Exchange) (s : Piece) → Stands ts e → IsSegment s → Stands (cond (takes e s) (s ∷ ts) ts) (after e s)
stands_came ts e s stands segment = by_taken ts e s Stands (λ h. stands_taken ts e s stands segment h) stands

same_boxes : (ts : List Piece) (e f : Exchange) → f.arriving_calls ≡ e.arriving_calls → f.arriving_returns ≡ e.arriving_returns → Stands ts e → Stands ts f
same_boxes ts e f calls returns stands = record {
  calls = kept 0 ts f.arriving_calls e.arriving_calls calls stands.calls;
  returns = kept 1 ts f.arriving_returns e.arriving_returns returns stands.returns;
  taken = stands.taken;
}

stands_act : (ts : List Piece) (e : Exchange) (act : Act) → Stands ts e → IsAct act → Stands (with_taken e act ts) (happens e act)
unfolding send_call send_return count_tick
stands_act ts e (Came s) stands is = stands_came ts e s stands is
stands_act ts e act stands is = same_boxes ts e _ refl refl stands

-- after every list of acts
pub stands_after : (number format : ℕ) (acts : Acts) → AreActs acts → Stands (taken_by (start number format) acts) (end_after (start number format) acts)
stands_after number format none_yet are = record { calls = keeps_nothing 0 _ refl refl; returns = keeps_nothing 1 _ refl refl; taken = tt }
stands_after number format (more acts act) are =
    stands_act (taken_by (start number format) acts) (end_after (start number format) acts) act (stands_after number format acts are.0) are.1

-- ---- what arrives

completed_new : (box : Arriving) (s : Piece) → completes box s ≡ true → is_new box s ≡ true
unfolding completes
completed_new box s h = (and_parts (is_new box s) _ h).0

arrived_in : (s : Piece) (ts : List Piece) (box : Arriving) (message : List ℕ → Arrived) → Keeps s.kind ts box → MayFollow ts s → is_acknowledgement s ≡ false → cond (completes box s) (message (data_up_to (data_with box s) s.total)) Nothing ≡ cond (has_arrived (s ∷ ts) s.kind s.call && not (has_arrived ts s.kind s.call)) (message (message_in (s ∷ ts) s.kind s.call s.total)) Nothing
arrived_in s ts box message keeps may plain =
    elim (completes box s) as (λ b. completes box s ≡ b → cond b (message (data_up_to (data_with box s) s.total)) Nothing ≡ cond b (message (message_in (s ∷ ts) s.kind s.call s.total)) Nothing) [
      | true ↦ λ h. ap message (message_is s ts box keeps may plain (completed_new box s h))
      | false ↦ λ h. refl
    ] refl
    ∙ ap (λ b. cond b (message (message_in (s ∷ ts) s.kind s.call s.total)) Nothing) (completes_is s ts box keeps may plain)

-- what arrives by a segment is what the segments say that were taken
pub arrival_is : (ts : List Piece) (e : Exchange) (s : Piece) → Stands ts e → IsSegment s → takes e s ≡ true → arrived_after e s ≡ arrival_by ts s
unfolding arrived_of_taken
arrival_is ts e s stands segment h =
    let may = may_follow ts e s stands segment h in
    ap (λ b. cond (b && not (is_acknowledgement s)) (arrived_of_taken e s) Nothing) h
    ∙ elim (is_acknowledgement s) as (λ b. is_acknowledgement s ≡ b → cond (not b) (arrived_of_taken e s) Nothing ≡ cond (not b && (has_arrived (s ∷ ts) s.kind s.call && not (has_arrived ts s.kind s.call))) (cond (eqb s.kind 0) (ArrivedCall s.call (message_in (s ∷ ts) s.kind s.call s.total)) (ArrivedReturn s.call (message_in (s ∷ ts) s.kind s.call s.total))) Nothing) [
      | true ↦ λ ack. refl
      | false ↦ λ plain. elim (eqb s.kind 0) as (λ b. eqb s.kind 0 ≡ b → cond b (cond (completes e.arriving_calls s) (ArrivedCall s.call (data_up_to (data_with e.arriving_calls s) s.total)) Nothing) (cond (completes e.arriving_returns s) (ArrivedReturn s.call (data_up_to (data_with e.arriving_returns s) s.total)) Nothing) ≡ cond (has_arrived (s ∷ ts) s.kind s.call && not (has_arrived ts s.kind s.call)) (cond b (ArrivedCall s.call (message_in (s ∷ ts) s.kind s.call s.total)) (ArrivedReturn s.call (message_in (s ∷ ts) s.kind s.call s.total))) Nothing) [
        | true ↦ λ call. arrived_in s ts e.arriving_calls (λ m. ArrivedCall s.call m) (subst (λ k. Keeps k ts e.arriving_calls) (kind_call s call) stands.calls) may plain
        | false ↦ λ return_. arrived_in s ts e.arriving_returns (λ m. ArrivedReturn s.call m) (subst (λ k. Keeps k ts e.arriving_returns) (sym (return_is s segment return_)) stands.returns) may plain
      ] refl
    ] refl

-- the acknowledgement of a segment by what the segments say that were taken
pub acknowledged_is : (s : Piece) (ts : List Piece) (box : Arriving) (is_down : Bool) → Keeps s.kind ts box → MayFollow ts s → is_acknowledgement s ≡ false → acknowledgement is_down box s ≡ acknowledged_by is_down ts s
unfolding acknowledgement_for
acknowledged_is s ts box is_down keeps may plain =
    let answer_of : ℕ → List (List ℕ) = λ n. spelling (record { format = s.format; kind = s.kind; control = 1; total = s.total; number = n; call = s.call; part = [] }) ∷ [] in
    ap (λ b. cond (not is_down && (eqb s.control 2 || (b || ltb (count_with box s) s.number))) (answer_of (count_with box s)) []) (completes_is s ts box keeps may plain)
    ∙ ap (λ n. cond (not is_down && (eqb s.control 2 || ((has_arrived (s ∷ ts) s.kind s.call && not (has_arrived ts s.kind s.call)) || ltb n s.number))) (answer_of n) []) (count_is s ts box keeps may plain)

pub call_acknowledged : (ts : List Piece) (e : Exchange) (s : Piece) → Stands ts e → IsSegment s → takes e s ≡ true → is_acknowledgement s ≡ false → s.kind ≡ 0 → acknowledgement e.stopped e.arriving_calls s ≡ acknowledged_by e.stopped ts s
call_acknowledged ts e s stands segment h plain call =
    acknowledged_is s ts e.arriving_calls e.stopped (subst (λ k. Keeps k ts e.arriving_calls) (sym call) stands.calls) (may_follow ts e s stands segment h) plain

pub return_acknowledged : (ts : List Piece) (e : Exchange) (s : Piece) → Stands ts e → IsSegment s → takes e s ≡ true → is_acknowledgement s ≡ false → s.kind ≡ 1 → acknowledgement e.stopped e.arriving_returns s ≡ acknowledged_by e.stopped ts s
return_acknowledged ts e s stands segment h plain return_ =
    acknowledged_is s ts e.arriving_returns e.stopped (subst (λ k. Keeps k ts e.arriving_returns) (sym return_) stands.returns) (may_follow ts e s stands segment h) plain
