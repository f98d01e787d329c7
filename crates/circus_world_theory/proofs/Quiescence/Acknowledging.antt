-- The acknowledgement of a whole call is sent by the step in which the call arrives.
use Rattle.std.proofs.Common.{◌≡◌, ℕ, zero, suc, ◌≤◌, Bool, true, false, cond, not, ◌&&◌, ◌||◌, eqb, ltb, List, [], ◌∷◌, Option, None, Some, refl, sym, ap, subst, ◌∙◌, arith, eq-eqb}
use Rattle.std.specs.Prelude.{max, slice_get}
use Rattle.std.proofs.lemmas.Bool.{eqb-true}
use Rattle.circus_segment.specs.Segment.{Piece, IsSegment, is_acknowledgement, spelling, most_segments}
use Rattle.circus_exchange.specs.Exchange.{start, takes}
use Rattle.circus_pair.specs.Taken.{is_of, total_in, count_in, is_reached, has_arrived, MayFollow}
use Rattle.circus_pair.specs.Acts.{Act, Call, Return, Came, Tick, Stop, Acts, none_yet, more, end_after, taken_by, count_by, acknowledged_by}
use Rattle.circus_pair.specs.Handed.{says, reached_in}
use Rattle.circus_pair.specs.Lawful.{is_stopped_after, AreLawful}
use Rattle.circus_pair.specs.Sending.{takes_after, in_order, let_go_by, outputs}
use Rattle.circus_pair.specs.TwoEnds.{sent_by}
use Rattle.circus_pair.proofs.Arrivals.{total_here, arrived_other}
use Rattle.circus_pair.proofs.Dialogue.{is_part}
use Rattle.circus_pair.proofs.Growing.{count_le}
use Rattle.circus_pair.proofs.Keeping.{stands_lawful}
use Rattle.circus_pair.proofs.OneEnd.{total_stays}
use Rattle.circus_pair.proofs.Outputs.{came_sends, taken_is}
use Rattle.circus_pair.proofs.Sayings.{most_bound, good_number}
use Rattle.circus_pair.proofs.Standing.{may_follow}
use Rattle.circus_world_theory.specs.Coming.{IsUndisturbed}
use Rattle.circus_world_theory.proofs.Quiescence.Sending.{Among, among_front, among_back, quiet_up, by_sent}

-- an acknowledgement of all segments of a call was sent
pub record Acknowledged (format : ℕ) (acts : Acts) (call : ℕ) : Type 0 where
  pub piece : Piece
  pub segment : IsSegment piece
  pub control : piece.control ≡ 1
  pub kind_is : piece.kind ≡ 0
  pub call_is : piece.call ≡ call
  pub all : piece.number ≡ piece.total
  pub total : total_in (taken_by (start 0 format) acts) 0 call ≡ Some piece.total
  pub sent : Among (spelling piece) (sent_by (start 0 format) acts)

acknowledged_later : (format : ℕ) (acts : Acts) (act : Act) (call : ℕ) → AreLawful 0 format (more acts act) → Acknowledged format acts call → Acknowledged format (more acts act) call
acknowledged_later format acts act call lawful a = record {
  piece = a.piece;
  segment = a.segment;
  control = a.control;
  kind_is = a.kind_is;
  call_is = a.call_is;
  all = a.all;
  total = total_stays 0 format acts act 0 call a.piece.total lawful a.total;
  sent = among_front (spelling a.piece) (sent_by (start 0 format) acts) _ a.sent;
}

-- the acknowledgement that a segment gets
abbrev answer_to : List Piece → Piece → Piece
answer_to ts s = record { format = s.format; kind = s.kind; control = 1; total = s.total; number = count_by ts s; call = s.call; part = [] }

answer_is : (ts : List Piece) (s : Piece) → IsSegment s → MayFollow ts s → IsSegment (answer_to ts s)
answer_is ts s segment may = record {
  format = segment.format;
  kind = segment.kind;
  control = omega arith;
  total = segment.total;
  numbered = good_number s.total (count_by ts s) false may.some (let a : s.total ≤ most_segments s.format = segment.total in let b : most_segments s.format ≤ 1025 = most_bound s.format in omega arith) (count_le (s ∷ ts) s.kind s.call s.total) (λ h. absurd cc);
  call = segment.call;
  at_most = omega arith;
  part = refl;
}

sends_answer : (down : Bool) (control : Bool) (now before other : Bool) (x : List (List ℕ)) → down ≡ false → now ≡ true → before ≡ false → cond (not down && (control || ((now && not before) || other))) x [] ≡ x
sends_answer true control now before other x d n b = absurd cc
sends_answer false true now before other x d n b = refl
sends_answer false false true false other x d n b = refl
sends_answer false false false before other x d n b = absurd cc
sends_answer false false true true other x d n b = absurd cc

given_so : (taken plain : Bool) (x : List (List ℕ)) → taken ≡ true → plain ≡ false → cond (taken && not plain) x [] ≡ x
given_so taken plain x t p = ap (λ b. cond (b && not plain) x []) t ∙ ap (λ b. cond (not b) x []) p

reached_count : (o : Option ℕ) (c : ℕ → ℕ) (t : ℕ) → o ≡ Some t → is_reached o c ≡ true → c t ≡ t
reached_count None c t is h = absurd (let clash : ◌≡◌ {A = Option ℕ} None (Some t) = is in cc)
reached_count (Some x) c t is h = (let same : x ≡ t = cc in subst (λ n. c n ≡ n) same (eqb-true (c x) x h))

-- all segments of a message that has arrived are counted
count_of : (ts : List Piece) (kind call total : ℕ) → total_in ts kind call ≡ Some total → has_arrived ts kind call ≡ true → count_in ts kind call total ≡ total
unfolding has_arrived
count_of ts kind call total is h = reached_count (total_in ts kind call) (count_in ts kind call) total is h

-- a segment by which a call arrives
acknowledged_now : (format : ℕ) (acts : Acts) (s : Piece) → AreLawful 0 format (more acts (Came s)) → is_stopped_after acts ≡ false → takes (end_after (start 0 format) acts) s ≡ true
    → is_acknowledgement s ≡ false → s.kind ≡ 0 → has_arrived (s ∷ taken_by (start 0 format) acts) s.kind s.call ≡ true → has_arrived (taken_by (start 0 format) acts) s.kind s.call ≡ false → Acknowledged format (more acts (Came s)) s.call
unfolding outputs
acknowledged_now format acts s lawful up h plain kind now before =
    let ts = taken_by (start 0 format) acts in
    let may = may_follow ts (end_after (start 0 format) acts) s (stands_lawful 0 format acts lawful.0) lawful.1 h in
    let list : cond (takes (end_after (start 0 format) acts) s) (s ∷ ts) ts ≡ s ∷ ts = ap (λ b. cond b (s ∷ ts) ts) h in
    let after : takes_after (start 0 format) acts s ≡ true = sym (taken_is 0 format acts s lawful.0 lawful.1) ∙ h in
    let answered : acknowledged_by (is_stopped_after acts) ts s ≡ spelling (answer_to ts s) ∷ [] =
    sends_answer (is_stopped_after acts) (eqb s.control 2) (has_arrived (s ∷ ts) s.kind s.call) (has_arrived ts s.kind s.call) (ltb (count_by ts s) s.number) (spelling (answer_to ts s) ∷ []) up now before in
    record {
      piece = answer_to ts s;
      segment = answer_is ts s lawful.1 may;
      control = refl;
      kind_is = kind;
      call_is = refl;
      all = count_of (s ∷ ts) s.kind s.call s.total (total_here s ts may plain) now;
      total = subst (λ l. total_in l 0 s.call ≡ Some s.total) (sym list) (subst (λ k. total_in (s ∷ ts) k s.call ≡ Some s.total) kind (total_here s ts may plain));
      sent = among_back _ (sent_by (start 0 format) acts) _
          (subst (Among _) (sym (came_sends 0 format acts s lawful))
          (among_front _ _ (in_order (let_go_by (start 0 format) acts (Came s)) _)
          (subst (Among _) (sym (given_so (takes_after (start 0 format) acts s) (is_acknowledgement s) (acknowledged_by (is_stopped_after acts) ts s) after plain ∙ answered))
          (zero, refl))));
    }

none_arrived : (call : ℕ) → has_arrived [] 0 call ≡ true → ⊥
unfolding has_arrived total_in
none_arrived call h = cc

pub acknowledged : (format : ℕ) (acts : Acts) (call : ℕ) → AreLawful 0 format acts → IsUndisturbed acts → has_arrived (taken_by (start 0 format) acts) 0 call ≡ true → Acknowledged format acts call
acknowledged format none_yet call lawful quiet h = absurd (none_arrived call h)
acknowledged format (more acts (Came s)) call lawful quiet h =
    let ts = taken_by (start 0 format) acts in
    by_sent _ (has_arrived ts 0 call)
    (λ before. acknowledged_later format acts (Came s) call lawful (acknowledged format acts call lawful.0 quiet before))
    (λ before. by_sent _ (takes (end_after (start 0 format) acts) s)
    (λ taken.
    let now : has_arrived (s ∷ ts) 0 call ≡ true = subst (λ b. has_arrived (cond b (s ∷ ts) ts) 0 call ≡ true) taken h in
    by_sent _ (is_of 0 call s)
    (λ of_it.
    let part = is_part 0 call s of_it in
    subst (Acknowledged format (more acts (Came s))) part.call_is
    (acknowledged_now format acts s lawful (quiet_up acts quiet) taken part.plain part.kind_is
    (subst (λ k. has_arrived (s ∷ ts) k s.call ≡ true) (sym part.kind_is) (subst (λ c. has_arrived (s ∷ ts) 0 c ≡ true) (sym part.call_is) now))
    (subst (λ k. has_arrived ts k s.call ≡ false) (sym part.kind_is) (subst (λ c. has_arrived ts 0 c ≡ false) (sym part.call_is) before))))
    (λ other. absurd (let same : true ≡ false = sym now ∙ arrived_other s ts 0 call other ∙ before in cc)))
    (λ dropped. absurd (let still : has_arrived ts 0 call ≡ true = subst (λ b. has_arrived (cond b (s ∷ ts) ts) 0 call ≡ true) dropped h in let clash : true ≡ false = sym still ∙ before in cc)))
acknowledged format (more acts (Call message)) call lawful quiet h = acknowledged_later format acts (Call message) call lawful (acknowledged format acts call lawful.0 quiet h)
acknowledged format (more acts (Return returned message)) call lawful quiet h = acknowledged_later format acts (Return returned message) call lawful (acknowledged format acts call lawful.0 quiet h)
acknowledged format (more acts Tick) call lawful quiet h = absurd quiet
acknowledged format (more acts Stop) call lawful quiet h = absurd quiet

-- ---- what is acknowledged by a segment that was taken

pub reached_by : (ts : List Piece) (place : ℕ) (s : Piece) (kind call total : ℕ) → slice_get ts place ≡ Some s → says s kind call total ≤ reached_in ts kind call total
unfolding reached_in
reached_by [] place s kind call total there = absurd (let clash : ◌≡◌ {A = Option Piece} None (Some s) = there in cc)
reached_by (x ∷ ts) zero s kind call total there =
    let same : x ≡ s = cc in
    subst (λ y. says y kind call total ≤ max (says x kind call total) (reached_in ts kind call total)) same (more_first (says x kind call total) (reached_in ts kind call total))
  where
    more_first : (a b : ℕ) → a ≤ max a b
    more_first a b = omega arith
reached_by (x ∷ ts) (suc place) s kind call total there = more_second (says s kind call total) (says x kind call total) (reached_in ts kind call total) (reached_by ts place s kind call total there)
  where
    more_second : (n a b : ℕ) → n ≤ b → n ≤ max a b
    more_second n a b h = omega arith

pub says_number : (s : Piece) (call total : ℕ) → s.control ≡ 1 → s.kind ≡ 0 → s.call ≡ call → says s 0 call total ≡ s.number
says_number s call total control kind is = rw (control, kind, is, eq-eqb call call refl) refl
