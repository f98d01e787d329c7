-- What an end says by the datagrams that it sends.
use Rattle.std.proofs.Common.{◌≡◌, ℕ, zero, suc, ◌+◌, ◌-◌, ◌*◌, ◌/◌, ◌^◌, ◌<◌, ◌≤◌, ◌⊎◌, Bool, true, false, cond, not, ◌&&◌, ◌||◌, eqb, ltb, List, length, Option, None, Some, refl, sym, ap, subst, ◌∙◌, arith, length-take, length-drop}
use Rattle.std.specs.Prelude.{min}
use Rattle.std.proofs.lemmas.Bool.{ne_eqb}
use Rattle.circus_segment.specs.Segment.{Piece, most_segments, spelling}
use Rattle.circus_segment.specs.Cut.{segment_count, part_at, segment_of, first_datagrams, whole}
use Rattle.circus_exchange.specs.Exchange.{IsSendable}
use Rattle.circus_pair.specs.Taken.{count_in, has_arrived}
use Rattle.circus_pair.specs.Acts.{Acts}
use Rattle.circus_exchange.specs.Outbox.{probe}
use Rattle.circus_pair.specs.TwoEnds.{handed_over}
use Rattle.circus_pair.specs.Saying.{IsOfSome, IsSaid}
use Rattle.circus_pair.proofs.Each.{Each, each_append}
use Rattle.circus_pair.proofs.Growing.{Grows, arrived_grows}

-- a datagram that says so
pub record Tells (first format : ℕ) (acts : Acts) (ts : List Piece) (bytes : List ℕ) : Type 0 where
  pub said : Piece
  pub bytes_are : bytes ≡ spelling said
  pub is : IsSaid first format acts ts said

-- ---- later on

of_later : (o q : Option (List ℕ)) (p : Piece) → ((m : List ℕ) → o ≡ Some m → q ≡ Some m) → IsOfSome o p → IsOfSome q p
of_later None q p h is = absurd is
of_later (Some m) q p h is = subst (λ x. IsOfSome x p) (sym (h m refl)) is

pub said_later : (first format : ℕ) (acts more_acts : Acts) (ts more_ts : List Piece) (p : Piece) → Grows first acts more_acts ts more_ts → IsSaid first format acts ts p → IsSaid first format more_acts more_ts p
said_later first format acts more_acts ts more_ts p grows said = record {
  segment = said.segment;
  format_is = said.format_is;
  acknowledges = λ ack. (let before = said.acknowledges ack in let old : p.number ≤ count_in ts p.kind p.call p.total = before.1 in let more_ : count_in ts p.kind p.call p.total ≤ count_in more_ts p.kind p.call p.total = grows.counts p.kind p.call p.total in
      (grows.totals p.kind p.call p.total before.0, omega arith));
  speaks = λ plain. of_later (handed_over first acts p.kind p.call) _ p (grows.handed p.kind p.call) (said.speaks plain);
  answers = λ plain return_. arrived_grows first acts more_acts ts more_ts grows 0 p.call (said.answers plain return_);
}

pub tells_later : (first format : ℕ) (acts more_acts : Acts) (ts more_ts : List Piece) (bytes : List ℕ) → Grows first acts more_acts ts more_ts → Tells first format acts ts bytes → Tells first format more_acts more_ts bytes
tells_later first format acts more_acts ts more_ts bytes grows tells = record { said = tells.said; bytes_are = tells.bytes_are; is = said_later first format acts more_acts ts more_ts tells.said grows tells.is }

-- ---- a segment of a message that was handed over

pub record MaySay (first format : ℕ) (acts : Acts) (ts : List Piece) (kind call : ℕ) (m : List ℕ) : Type 0 where
  pub known : (format ≡ 1) ⊎ (format ≡ 2)
  pub kind_is : kind ≤ 1
  pub numbered : call < 2 ^ 32
  pub sendable : IsSendable format m
  pub handed : handed_over first acts kind call ≡ Some m
  pub answered : kind ≡ 1 → has_arrived ts 0 call ≡ true

pub most_bound : (format : ℕ) → most_segments format ≤ 1025
most_bound format = elim (eqb format 1) as (λ b. cond b 255 1025 ≤ 1025) [ true ↦ omega arith | false ↦ omega arith ]

part_length : (m : List ℕ) (n : ℕ) → length (part_at m n) ≡ min 1024 (length m - 1024 * (n - 1))
unfolding part_at
part_length m n = simp (length-take, length-drop)

pub count_bounds : (len most total : ℕ) → total ≡ (len + 1023) / 1024 → 0 < len → len ≤ 1024 * most → (0 < total) × (total ≤ most)
count_bounds len most total is some fits = (omega arith, omega arith)

part_bounds : (len total n part : ℕ) → total ≡ (len + 1023) / 1024 → part ≡ min 1024 (len - 1024 * (n - 1)) → 0 < n → n ≤ total → (0 < part) × (part ≤ 1024) × (n < total → part ≡ 1024)
part_bounds len total n part is cut one le = (omega arith, omega arith, λ lt. omega arith)

no_probe : (a b : Bool) → (a && (b && false)) ≡ false
no_probe true true = refl
no_probe true false = refl
no_probe false b = refl

is_full : (kind control number : ℕ) → eqb control 1 ≡ false → eqb number 0 ≡ false → not (eqb control 1 || (eqb kind 0 && (eqb control 2 && eqb number 0))) ≡ true
is_full kind control number plain some = rw (plain, some, no_probe (eqb kind 0) (eqb control 2)) refl

pub good_number : (total number : ℕ) (full : Bool) → 0 < total → total ≤ 1025 → number ≤ total → (full ≡ true → 0 < number) → (eqb total 0 || (ltb 1025 total || (ltb total number || (eqb number 0 && full)))) ≡ false
good_number total number true some most within one = (let lt : 0 < number = one refl in grind arith)
good_number total number false some most within one = grind arith

good_part : (number total part : ℕ) → 0 < part → (number < total → part ≡ 1024) → (eqb part 0 || (ltb number total && not (eqb part 1024))) ≡ false
good_part number total part some full = grind arith

true_false : (b : Bool) → b ≡ true → b ≡ false → ⊥
true_false b t f = cc

pub says_part : (first format : ℕ) (acts : Acts) (ts : List Piece) (kind call : ℕ) (m : List ℕ) (control number : ℕ) → MaySay first format acts ts kind call m → eqb control 1 ≡ false → control ≤ 2 → 0 < number → number ≤ segment_count m → IsSaid first format acts ts (segment_of (record { format = format; kind = kind; call = call; total = segment_count m; message = m }) control number)
says_part first format acts ts kind call m control number may plain low one le =
    let counts = count_bounds (length m) (most_segments format) (segment_count m) refl may.sendable.0 may.sendable.1 in
    let parts = part_bounds (length m) (segment_count m) number (length (part_at m number)) refl (part_length m number) one le in
    let most : segment_count m ≤ 1025 = (let a : segment_count m ≤ most_segments format = counts.1 in let b : most_segments format ≤ 1025 = most_bound format in omega arith) in
    let full : not (eqb control 1 || (eqb kind 0 && (eqb control 2 && eqb number 0))) ≡ true = is_full kind control number plain (ne_eqb number 0 (λ e. absurd (omega arith))) in
    record {
      segment = record {
        format = may.known;
        kind = may.kind_is;
        control = low;
        total = counts.1;
        numbered = good_number (segment_count m) number _ counts.0 most le (λ _. one);
        call = may.numbered;
        at_most = parts.1;
        part = ap (λ b. cond b (eqb (length (part_at m number)) 0 || (ltb number (segment_count m) && not (eqb (length (part_at m number)) 1024))) (ltb 0 (length (part_at m number)))) full ∙ good_part number (segment_count m) (length (part_at m number)) parts.0 parts.2;
      };
      format_is = refl;
      acknowledges = λ ack. absurd (true_false _ ack plain);
      speaks = λ _. subst (λ o. IsOfSome o (segment_of (record { format = format; kind = kind; call = call; total = segment_count m; message = m }) control number)) (sym may.handed) (record { total = refl; part = λ _. refl });
      answers = λ _ return_. may.answered return_;
    }

pub says_probe : (first format : ℕ) (acts : Acts) (ts : List Piece) (call : ℕ) (m : List ℕ) → MaySay first format acts ts 0 call m → IsSaid first format acts ts (probe format 0 (segment_count m) call)
says_probe first format acts ts call m may =
    let counts = count_bounds (length m) (most_segments format) (segment_count m) refl may.sendable.0 may.sendable.1 in
    let most : segment_count m ≤ 1025 = (let a : segment_count m ≤ most_segments format = counts.1 in let b : most_segments format ≤ 1025 = most_bound format in omega arith) in
    record {
      segment = record {
        format = may.known;
        kind = omega arith;
        control = omega arith;
        total = counts.1;
        numbered = good_number (segment_count m) 0 false counts.0 most (omega arith) (λ h. absurd cc);
        call = may.numbered;
        at_most = omega arith;
        part = refl;
      };
      format_is = refl;
      acknowledges = λ ack. absurd cc;
      speaks = λ _. subst (λ o. IsOfSome o (probe format 0 (segment_count m) call)) (sym may.handed) (record { total = refl; part = λ h. absurd cc });
      answers = λ _ return_. absurd cc;
    }

-- ---- a whole message

says_first : (first format : ℕ) (acts : Acts) (ts : List Piece) (kind call : ℕ) (m : List ℕ) → MaySay first format acts ts kind call m → (n : ℕ) → n ≤ segment_count m → Each (Tells first format acts ts) (first_datagrams (record { format = format; kind = kind; call = call; total = segment_count m; message = m }) n)
unfolding first_datagrams
says_first first format acts ts kind call m may zero le = tt
says_first first format acts ts kind call m may (suc n) le =
    each_append (Tells first format acts ts) _ _ (says_first first format acts ts kind call m may n (omega arith))
    (record { said = segment_of (record { format = format; kind = kind; call = call; total = segment_count m; message = m }) 0 (suc n); bytes_are = refl; is = says_part first format acts ts kind call m 0 (suc n) may refl (omega arith) (omega arith) le }, tt)

pub says_whole : (first format : ℕ) (acts : Acts) (ts : List Piece) (kind call : ℕ) (m : List ℕ) (f total : ℕ) → f ≡ format → total ≡ segment_count m → MaySay first format acts ts kind call m → Each (Tells first format acts ts) (whole (record { format = f; kind = kind; call = call; total = total; message = m }))
says_whole first format acts ts kind call m f total same count may =
    subst (λ x. Each (Tells first format acts ts) (whole (record { format = x; kind = kind; call = call; total = total; message = m }))) (sym same)
    (subst (λ x. Each (Tells first format acts ts) (whole (record { format = format; kind = kind; call = call; total = x; message = m }))) (sym count)
    (says_first first format acts ts kind call m may (segment_count m) (omega arith)))
