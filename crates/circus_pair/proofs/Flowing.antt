-- After every lawful list of acts the calls that were sent are those that the window let go.
use Rattle.std.proofs.Common.{◌≡◌, ◌≢◌, ℕ, ◌+◌, ◌-◌, ◌<◌, ◌≤◌, ◌⊎◌, Bool, true, false, cond, not, ◌&&◌, ◌||◌, eqb, ltb, List, [], ◌∷◌, length, Option, None, Some, refl, sym, ap, subst, ◌∙◌, inl, inr, arith}
use Rattle.std.specs.Prelude.{is_some, max}
use Rattle.std.proofs.Math.Bool.{and-false}
use Rattle.std.proofs.lemmas.Bool.{and_parts, ne_eqb, eq-eqb, eqb-true, lt-ltb, le-ltb, ltb-true, cases_lt}
use Rattle.std.proofs.lemmas.Bool.Decides.{eqb_tells}
use Rattle.circus_exchange.specs.declared.progress.Progress.{Progress}
use Rattle.circus_exchange.specs.declared.exchange.Exchange.{Exchange}
use Rattle.circus_segment.specs.Segment.{Piece, IsSegment, is_acknowledgement}
use Rattle.circus_segment.specs.Cut.{segment_count}
use Rattle.circus_exchange.specs.Inbox.{add_segment}
use Rattle.std.specs.FinMap.{len}
use Rattle.circus_exchange.specs.Outbox.{whole_by, becomes_whole, hand_over}
use Rattle.circus_exchange.specs.Exchange.{start, send_call, send_return, takes, was_sent, sends_at_once, let_go, lets_go, in_flight_after, call_reached, return_reached, total_of, end_call, return_added, after_taken, after, count_tick}
use Rattle.circus_pair.specs.Taken.{is_of, total_in}
use Rattle.circus_pair.specs.Acts.{Act, Call, Return, Came, Tick, Stop, Acts, none_yet, more, end_after, taken_by}
use Rattle.circus_pair.specs.Handed.{calls_made, call_at, says, reached_in, sent_below}
use Rattle.circus_pair.specs.Lawful.{AreLawful, is_stopped_after}
use Rattle.circus_pair.specs.Window.{is_all, call_is_whole, is_open, count_below}
use Rattle.circus_pair.specs.Sending.{is_sent}
use Rattle.circus_pair.proofs.Arrivals.{total_other}
use Rattle.circus_pair.proofs.Counting.{count_none, count_upto, count_alike, count_rises, count_passed, count_without}
use Rattle.circus_pair.proofs.Handing.{Hands, told_out, says_elsewhere, says_no_call, says_here, says_whole, says_other_kind, call_kind, return_kind, total_told}
use Rattle.circus_pair.proofs.Keeping.{Kept, kept_after, IsWithin, becomes, call_total, kept_taken, stands_lawful, hands_lawful, segments_some, not_of}
use Rattle.circus_pair.proofs.Standing.{Stands, may_follow, acknowledges, other_kind}
use Rattle.circus_pair.proofs.Taking.{takes_call_acknowledged, takes_return_segment, by_segment, by_taken, after_call_acknowledged, after_return_acknowledged, after_call_segment, after_return_segment}

-- ---- which numbers calls have

pub call_made : (first : ℕ) (acts : Acts) (call : ℕ) → first ≤ call → call < first + calls_made acts → is_some (call_at first acts call) ≡ true
unfolding calls_made call_at
call_made first none_yet call low high = absurd (omega arith)
call_made first (more acts (Call message)) call low high = elim (eqb_tells call (first + calls_made acts)) [
  | inl same ↦ ap (λ b. is_some (cond b (Some message) (call_at first acts call))) same.0
  | inr differ ↦ (let ne : call ≢ first + calls_made acts = differ.1 in ap (λ b. is_some (cond b (Some message) (call_at first acts call))) differ.0 ∙ call_made first acts call low (omega arith))
]
call_made first (more acts act) call low high = call_made first acts call low high

pub made_call : (first : ℕ) (acts : Acts) (call : ℕ) → is_some (call_at first acts call) ≡ true → (first ≤ call) × (call < first + calls_made acts)
unfolding calls_made call_at
made_call first none_yet call some = absurd cc
made_call first (more acts (Call message)) call some = elim (eqb_tells call (first + calls_made acts)) [
  | inl same ↦ (let at : call ≡ first + calls_made acts = same.1 in (omega arith, omega arith))
  | inr differ ↦ (let before = made_call first acts call (sym (ap (λ b. is_some (cond b (Some message) (call_at first acts call))) differ.0) ∙ some) in let a : first ≤ call = before.0 in let b : call < first + calls_made acts = before.1 in (a, omega arith))
]
made_call first (more acts act) call some = made_call first acts call some

-- ---- which calls are open

-- a message is acknowledged whole where it was so, or becomes so now
whole_raised : (o : Option (List ℕ)) (c g : ℕ → ℕ) (count : ℕ) → IsWithin o c → ((message : List ℕ) → o ≡ Some message → count ≤ segment_count message) → ((message : List ℕ) → o ≡ Some message → g (segment_count message) ≡ count) → is_all o (λ t. max (g t) (c t)) ≡ (whole_by (told_out o c) count || is_all o c)
whole_raised None c g count within below here = refl
whole_raised (Some m) c g count within below here =
    ap (λ n. eqb (max n (c (segment_count m))) (segment_count m)) (here m refl)
    ∙ sym (spelled (eqb (max count (c (segment_count m))) (segment_count m)))
    ∙ sym (becomes true false (segment_count m) (c (segment_count m)) count within.1 (below m refl))
    ∙ ap (λ b. cond (ltb (c (segment_count m)) count && eqb (segment_count m) count) true b) (spelled (eqb (c (segment_count m)) (segment_count m)))
    ∙ joined (ltb (c (segment_count m)) count && eqb (segment_count m) count) (eqb (c (segment_count m)) (segment_count m))
  where
    spelled : (b : Bool) → cond b true false ≡ b
    spelled true = refl
    spelled false = refl

    joined : (a b : Bool) → cond a true b ≡ (a || b)
    joined true b = refl
    joined false b = refl

-- what becomes whole was open
was_open : (o : Option (List ℕ)) (c : ℕ → ℕ) (count : ℕ) → whole_by (told_out o c) count ≡ true → (is_some o && not (is_all o c)) ≡ true
was_open None c count h = absurd cc
was_open (Some m) c count h =
    let parts = and_parts (ltb (c (segment_count m)) count) (eqb (segment_count m) count) h in
    let less : c (segment_count m) < count = ltb-true _ _ parts.0 in
    let last : segment_count m ≡ count = eqb-true _ _ parts.1 in
    ap not (ne_eqb (c (segment_count m)) (segment_count m) (λ e. absurd (omega arith)))

still_open : (o : Option (List ℕ)) (c g : ℕ → ℕ) → ((t : ℕ) → g t ≡ 0) → is_all o (λ t. max (g t) (c t)) ≡ is_all o c
still_open None c g none = refl
still_open (Some m) c g none = (let z : g (segment_count m) ≡ 0 = none (segment_count m) in let same : max (g (segment_count m)) (c (segment_count m)) ≡ c (segment_count m) = omega arith in ap (λ n. eqb n (segment_count m)) same)

-- a call of which nothing is acknowledged is open
opened : (o : Option (List ℕ)) (c : ℕ → ℕ) → IsWithin o c → is_some o ≡ true → ((t : ℕ) → c t ≡ 0) → (is_some o && not (is_all o c)) ≡ true
opened None c within some none = absurd cc
opened (Some m) c within some none = (let full : 0 < segment_count m = within.0 in let z : c (segment_count m) ≡ 0 = none (segment_count m) in ap not (ne_eqb (c (segment_count m)) (segment_count m) (λ e. absurd (omega arith))))

-- ---- how an end stands to the window

-- where a call waits and nothing was stopped, at least so many calls are open
pub record Flows (limit first : ℕ) (acts : Acts) (ts : List Piece) (e : Exchange) : Type 0 where
  pub low : first ≤ e.sent
  pub high : e.sent ≤ e.next
  pub next : e.next ≡ first + calls_made acts
  pub in_flight : e.in_flight ≡ count_below (is_open first acts ts) e.sent
  pub full : e.stopped ≡ false → e.sent < e.next → limit ≤ e.in_flight
  pub most : e.in_flight ≤ 64
  pub stopped : e.stopped ≡ is_stopped_after acts
  pub unsaid : (call total : ℕ) → e.sent ≤ call → reached_in ts 0 call total ≡ 0
  pub unreturned : (call : ℕ) → e.sent ≤ call → total_in ts 1 call ≡ None

-- which calls an act let go: none, or the first one that waited
abbrev pub Goes : ℕ → Acts → List Piece → ℕ → Exchange → Type 0
Goes first acts ts sent e = (e.sent ≡ sent) ⊎ ((e.sent ≡ sent + 1) × (e.stopped ≡ false) × (count_below (is_open first acts ts) sent < 64))

pub record Moves (first : ℕ) (acts : Acts) (ts : List Piece) (sent : ℕ) (e : Exchange) : Type 0 where
  pub flows : Flows 64 first acts ts e
  pub goes : Goes first acts ts sent e

quiet : (first : ℕ) (acts : Acts) (ts : List Piece) (sent : ℕ) (e : Exchange) → Moves first acts ts sent e → Moves first acts ts sent (record e { ticks = 0 })
quiet first acts ts sent e m = record {
  flows = record { low = m.flows.low; high = m.flows.high; next = m.flows.next; in_flight = m.flows.in_flight; full = m.flows.full; most = m.flows.most; stopped = m.flows.stopped; unsaid = m.flows.unsaid; unreturned = m.flows.unreturned };
  goes = m.goes;
}

-- the first call that waits goes where the window has a place
moves_let_go : (first : ℕ) (acts : Acts) (ts : List Piece) (e : Exchange) → Flows 63 first acts ts e → ((call : ℕ) → IsWithin (call_at first acts call) (reached_in ts 0 call)) → Moves first acts ts e.sent (let_go e)
unfolding let_go lets_go is_open call_is_whole
moves_let_go first acts ts e flows within =
    elim (lets_go e e.in_flight) as (λ b. lets_go e e.in_flight ≡ b → Moves first acts ts e.sent (cond b (record e { sent = e.sent + 1; in_flight = e.in_flight + 1 }) e)) [
      | true ↦ λ goes. (
          let facts = going e.stopped e.in_flight e.sent e.next goes in
          let up : e.stopped ≡ false = facts.0 in
          let room : e.in_flight < 64 = facts.1 in
          let waits : e.sent < e.next = facts.2 in
          let low : first ≤ e.sent = flows.low in
          let next : e.next ≡ first + calls_made acts = flows.next in
          let open_ : is_open first acts ts e.sent ≡ true = opened (call_at first acts e.sent) (reached_in ts 0 e.sent) (within e.sent) (call_made first acts e.sent flows.low (omega arith)) (λ t. flows.unsaid e.sent t (omega arith)) in
          let many : 63 ≤ e.in_flight = flows.full up waits in
          let counted : e.in_flight ≡ count_below (is_open first acts ts) e.sent = flows.in_flight in
          record {
            flows = record {
              low = omega arith;
              high = omega arith;
              next = flows.next;
              in_flight = ap (λ (n : ℕ). n + 1) flows.in_flight ∙ sym (count_passed (is_open first acts ts) e.sent open_);
              full = λ a b. omega arith;
              most = omega arith;
              stopped = flows.stopped;
              unsaid = λ call total le. flows.unsaid call total (omega arith);
              unreturned = λ call le. flows.unreturned call (omega arith);
            };
            goes = inr (refl, up, omega arith);
          })
      | false ↦ λ stays. record {
        flows = record {
          low = flows.low;
          high = flows.high;
          next = flows.next;
          in_flight = flows.in_flight;
          full = λ up waits. staying e.stopped e.in_flight e.sent e.next stays up waits;
          most = flows.most;
          stopped = flows.stopped;
          unsaid = flows.unsaid;
          unreturned = flows.unreturned;
        };
        goes = inl refl;
      }
    ] refl
  where
    going : (down : Bool) (n a b : ℕ) → (not down && (ltb n 64 && ltb a b)) ≡ true → (down ≡ false) × (n < 64) × (a < b)
    going true n a b h = absurd cc
    going false n a b h = (let parts = and_parts (ltb n 64) (ltb a b) h in (refl, ltb-true n 64 parts.0, ltb-true a b parts.1))

    staying : (down : Bool) (n a b : ℕ) → (not down && (ltb n 64 && ltb a b)) ≡ false → down ≡ false → a < b → 64 ≤ n
    staying true n a b h up waits = absurd cc
    staying false n a b h up waits = elim (cases_lt n 64) [
      | inl less ↦ absurd (let no_ : true ≡ false = sym (ap (λ x. x && ltb a b) (lt-ltb n 64 less) ∙ lt-ltb a b waits) ∙ h in cc)
      | inr most ↦ most
    ]

-- ---- acts that let nothing go

-- an act that hands no call over
flows_same : (limit first : ℕ) (acts : Acts) (act : Act) (ts : List Piece) (e f : Exchange) → f.sent ≡ e.sent → f.next ≡ e.next → f.in_flight ≡ e.in_flight → (f.stopped ≡ false → e.stopped ≡ false) → f.stopped ≡ is_stopped_after (more acts act) → calls_made (more acts act) ≡ calls_made acts → ((call : ℕ) → call_at first (more acts act) call ≡ call_at first acts call) → Flows limit first acts ts e → Flows limit first (more acts act) ts f
unfolding is_open call_is_whole
flows_same limit first acts act ts e f sent next flight up stopped made_ calls flows =
    let low : first ≤ e.sent = flows.low in
    let high : e.sent ≤ e.next = flows.high in
    let made_so : e.next ≡ first + calls_made acts = flows.next in
    record {
      low = omega arith;
      high = omega arith;
      next = omega arith;
      in_flight = flight ∙ flows.in_flight ∙ count_alike _ _ e.sent (λ k le. ap (λ o. is_some o && not (is_all o (reached_in ts 0 k))) (sym (calls k))) ∙ ap (count_below (is_open first (more acts act) ts)) (sym sent);
      full = λ a b. (let many : limit ≤ e.in_flight = flows.full (up a) (omega arith) in omega arith);
      most = subst (λ n. n ≤ 64) (sym flight) flows.most;
      stopped = stopped;
      unsaid = λ call total le. flows.unsaid call total (omega arith);
      unreturned = λ call le. flows.unreturned call (omega arith);
    }

-- a segment that says nothing of calls, and is none of a return
flows_heard : (limit first : ℕ) (acts : Acts) (ts : List Piece) (e f : Exchange) (s : Piece) → f.sent ≡ e.sent → f.next ≡ e.next → f.in_flight ≡ e.in_flight → f.stopped ≡ e.stopped → ((q t : ℕ) → says s 0 q t ≡ 0) → ((q : ℕ) → is_of 1 q s ≡ false) → Flows limit first acts ts e → Flows limit first (more acts (Came s)) (s ∷ ts) f
unfolding is_open call_is_whole call_at calls_made reached_in
flows_heard limit first acts ts e f s sent next flight stopped none other flows =
    let low : first ≤ e.sent = flows.low in
    let high : e.sent ≤ e.next = flows.high in
    let made_so : e.next ≡ first + calls_made acts = flows.next in
    record {
      low = omega arith;
      high = omega arith;
      next = omega arith;
      in_flight = flight ∙ flows.in_flight
          ∙ count_alike _ _ e.sent (λ k le. ap (λ b. is_some (call_at first acts k) && not b) (sym (still_open (call_at first acts k) (reached_in ts 0 k) (says s 0 k) (none k))))
          ∙ ap (count_below (is_open first (more acts (Came s)) (s ∷ ts))) (sym sent);
      full = λ a b. (let many : limit ≤ e.in_flight = flows.full (sym stopped ∙ a) (omega arith) in omega arith);
      most = subst (λ n. n ≤ 64) (sym flight) flows.most;
      stopped = stopped ∙ flows.stopped;
      unsaid = λ call total le. (let z : says s 0 call total ≡ 0 = none call total in let y : reached_in ts 0 call total ≡ 0 = flows.unsaid call total (omega arith) in omega arith);
      unreturned = λ call le. total_other s ts 1 call (other call) ∙ flows.unreturned call (omega arith);
    }

-- a segment by which the segments of a call up to a count are acknowledged
flows_reached : (first : ℕ) (acts : Acts) (ts : List Piece) (e f : Exchange) (s : Piece) (count : ℕ) → f.sent ≡ e.sent → f.next ≡ e.next → f.in_flight ≡ cond (whole_by (told_out (call_at first acts s.call) (reached_in ts 0 s.call)) count) (e.in_flight - 1) e.in_flight → f.stopped ≡ e.stopped → s.call < e.sent → IsWithin (call_at first acts s.call) (reached_in ts 0 s.call) → ((message : List ℕ) → call_at first acts s.call ≡ Some message → count ≤ segment_count message) → ((message : List ℕ) → call_at first acts s.call ≡ Some message → says s 0 s.call (segment_count message) ≡ count) → Flows 64 first acts ts e → Flows 63 first (more acts (Came s)) (s ∷ ts) f
unfolding is_open call_is_whole call_at calls_made reached_in
flows_reached first acts ts e f s count sent next flight stopped before within below here flows =
    let low : first ≤ e.sent = flows.low in
    let high : e.sent ≤ e.next = flows.high in
    let made_so : e.next ≡ first + calls_made acts = flows.next in
    let o = call_at first acts s.call in
    let c = reached_in ts 0 s.call in
    let whole : is_all o (λ t. max (says s 0 s.call t) (c t)) ≡ (whole_by (told_out o c) count || is_all o c) = whole_raised o c (says s 0 s.call) count within below here in
    let elsewhere : (k : ℕ) → eqb k s.call ≡ false → is_open first (more acts (Came s)) (s ∷ ts) k ≡ is_open first acts ts k = λ k other. ap (λ b. is_some (call_at first acts k) && not b) (still_open (call_at first acts k) (reached_in ts 0 k) (says s 0 k) (λ t. says_elsewhere s 0 k t other)) in
    let counted : cond (whole_by (told_out o c) count) (e.in_flight - 1) e.in_flight ≡ count_below (is_open first (more acts (Came s)) (s ∷ ts)) e.sent
    = elim (whole_by (told_out o c) count) as (λ b. whole_by (told_out o c) count ≡ b → cond b (e.in_flight - 1) e.in_flight ≡ count_below (is_open first (more acts (Came s)) (s ∷ ts)) e.sent) [
      | true ↦ λ now. (
          let was : is_open first acts ts s.call ≡ true = was_open o c count now in
          let is : is_open first (more acts (Came s)) (s ∷ ts) s.call ≡ false = ap (λ b. is_some o && not b) (whole ∙ ap (λ b. b || is_all o c) now) ∙ and-false (is_some o) in
          let one_less : count_below (is_open first acts ts) e.sent ≡ count_below (is_open first (more acts (Came s)) (s ∷ ts)) e.sent + 1 = count_without _ _ s.call e.sent before was is elsewhere in
          let was_flight : e.in_flight ≡ count_below (is_open first acts ts) e.sent = flows.in_flight in
          omega arith)
      | false ↦ λ not_now. flows.in_flight ∙ count_alike _ _ e.sent (λ k le. elim (eqb_tells k s.call) [
        | inl same ↦ subst (λ n. is_open first acts ts n ≡ is_open first (more acts (Came s)) (s ∷ ts) n) (sym same.1) (ap (λ b. is_some o && not b) (sym (whole ∙ ap (λ b. b || is_all o c) not_now)))
        | inr differ ↦ sym (elsewhere k differ.0)
      ])
    ] refl in
    record {
      low = omega arith;
      high = omega arith;
      next = omega arith;
      in_flight = flight ∙ counted ∙ ap (count_below (is_open first (more acts (Came s)) (s ∷ ts))) (sym sent);
      full = λ a b. (let many : 64 ≤ e.in_flight = flows.full (sym stopped ∙ a) (omega arith) in subst (λ n. 63 ≤ n) (sym flight) (left (whole_by (told_out o c) count) e.in_flight many));
      most = subst (λ n. n ≤ 64) (sym flight) (no_more (whole_by (told_out o c) count) e.in_flight flows.most);
      stopped = stopped ∙ flows.stopped;
      unsaid = λ call total le. (let z : says s 0 call total ≡ 0 = says_elsewhere s 0 call total (ne_eqb call s.call (λ same. absurd (omega arith))) in let y : reached_in ts 0 call total ≡ 0 = flows.unsaid call total (omega arith) in omega arith);
      unreturned = λ call le. total_other s ts 1 call (not_of s call (ne_eqb call s.call (λ same. absurd (omega arith)))) ∙ flows.unreturned call (omega arith);
    }
  where
    left : (b : Bool) (n : ℕ) → 64 ≤ n → 63 ≤ cond b (n - 1) n
    left true n h = omega arith
    left false n h = omega arith

    no_more : (b : Bool) (n : ℕ) → n ≤ 64 → cond b (n - 1) n ≤ 64
    no_more true n h = omega arith
    no_more false n h = h

-- ---- a segment comes

reached_flight : (first : ℕ) (acts : Acts) (ts : List Piece) (e : Exchange) (call count : ℕ) → Hands first acts ts e → in_flight_after e call count ≡ cond (whole_by (told_out (call_at first acts call) (reached_in ts 0 call)) count) (e.in_flight - 1) e.in_flight
unfolding in_flight_after becomes_whole
reached_flight first acts ts e call count hands = ap (λ (o : Option Progress). cond (whole_by o count) (e.in_flight - 1) e.in_flight) (hands.calls call)

true_false : (b : Bool) → b ≡ true → b ≡ false → ⊥
true_false b t f = cc

sent_already : (e : Exchange) (call : ℕ) → was_sent e call ≡ true → call < e.sent
unfolding was_sent
sent_already e call h = ltb-true call e.sent (and_parts (ltb call e.sent) _ h).0

acknowledged_sent : (e : Exchange) (s : Piece) → takes e s ≡ true → is_acknowledgement s ≡ true → eqb s.kind 0 ≡ true → s.call < e.sent
acknowledged_sent e s h ack call = sent_already e s.call (takes_call_acknowledged e s h ack call).0

returned_sent : (e : Exchange) (s : Piece) → takes e s ≡ true → is_acknowledgement s ≡ false → eqb s.kind 0 ≡ false → s.call < e.sent
returned_sent e s h plain return_ = sent_already e s.call (takes_return_segment e s h plain return_).0

moves_call_acknowledged : (first : ℕ) (acts : Acts) (ts : List Piece) (e : Exchange) (s : Piece) → Hands first acts ts e → Stands ts e → Kept first acts ts e → Flows 64 first acts ts e → IsSegment s → takes e s ≡ true → is_acknowledgement s ≡ true → eqb s.kind 0 ≡ true → Moves first (more acts (Came s)) (s ∷ ts) e.sent (after_taken e s)
unfolding call_reached
moves_call_acknowledged first acts ts e s hands stands kept flows segment h ack call =
    let reached_ : Flows 63 first (more acts (Came s)) (s ∷ ts) (call_reached e s.call s.number) = flows_reached first acts ts e (call_reached e s.call s.number) s s.number refl refl (reached_flight first acts ts e s.call s.number hands) refl (acknowledged_sent e s h ack call) (kept.calls_within s.call)
    (λ m is. let total : segment_count m ≡ s.total = call_total first acts ts e s m hands h ack call is in let within : s.number ≤ s.total = (may_follow ts e s stands segment h).within in omega arith)
    (λ m is. says_here s 0 (segment_count m) ack call) flows in
    subst (Moves first (more acts (Came s)) (s ∷ ts) e.sent) (sym (after_call_acknowledged e s ack call))
    (quiet _ _ _ _ _ (moves_let_go first (more acts (Came s)) (s ∷ ts) (call_reached e s.call s.number) reached_ (kept_taken first acts ts e s hands stands kept segment h).calls_within))

moves_return_acknowledged : (first : ℕ) (acts : Acts) (ts : List Piece) (e : Exchange) (s : Piece) → Flows 64 first acts ts e → is_acknowledgement s ≡ true → eqb s.kind 0 ≡ false → Moves first (more acts (Came s)) (s ∷ ts) e.sent (after_taken e s)
unfolding return_reached
moves_return_acknowledged first acts ts e s flows ack return_ =
    subst (Moves first (more acts (Came s)) (s ∷ ts) e.sent) (sym (after_return_acknowledged e s ack return_))
    (quiet _ _ _ _ _ (record { flows = flows_heard 64 first acts ts e (return_reached e s.call s.number) s refl refl refl refl (λ q n. says_other_kind s 0 q n ack return_) (acknowledges s 1 ack) flows; goes = inl refl }))

moves_call_segment : (first : ℕ) (acts : Acts) (ts : List Piece) (e : Exchange) (s : Piece) → Flows 64 first acts ts e → is_acknowledgement s ≡ false → eqb s.kind 0 ≡ true → Moves first (more acts (Came s)) (s ∷ ts) e.sent (after_taken e s)
moves_call_segment first acts ts e s flows plain call =
    subst (Moves first (more acts (Came s)) (s ∷ ts) e.sent) (sym (after_call_segment e s plain call))
    (quiet _ _ _ _ _ (record { flows = flows_heard 64 first acts ts e (record e { arriving_calls = add_segment e.arriving_calls s }) s refl refl refl refl (λ q n. says_no_call s q n plain (call_kind s call)) (other_kind s 1 (λ one. absurd (let zero_ : s.kind ≡ 0 = eqb-true s.kind 0 call in omega arith))) flows; goes = inl refl }))

moves_return_segment : (first : ℕ) (acts : Acts) (ts : List Piece) (e : Exchange) (s : Piece) → Hands first acts ts e → Stands ts e → Kept first acts ts e → Flows 64 first acts ts e → IsSegment s → takes e s ≡ true → is_acknowledgement s ≡ false → eqb s.kind 0 ≡ false → Moves first (more acts (Came s)) (s ∷ ts) e.sent (after_taken e s)
unfolding return_added end_call call_reached in_flight_after
moves_return_segment first acts ts e s hands stands kept flows segment h plain return_ =
    let reached_ : Flows 63 first (more acts (Came s)) (s ∷ ts) (return_added e s) = flows_reached first acts ts e (return_added e s) s (total_of e s.call) refl refl (reached_flight first acts ts e s.call (total_of e s.call) hands) refl (returned_sent e s h plain return_) (kept.calls_within s.call)
    (λ m is. let total : total_of e s.call ≡ segment_count m = total_told first acts ts e s.call m hands is in omega arith)
    (λ m is. says_whole s (segment_count m) plain (return_kind s segment return_) ∙ sym (total_told first acts ts e s.call m hands is)) flows in
    subst (Moves first (more acts (Came s)) (s ∷ ts) e.sent) (sym (after_return_segment e s plain return_))
    (quiet _ _ _ _ _ (moves_let_go first (more acts (Came s)) (s ∷ ts) (return_added e s) reached_ (kept_taken first acts ts e s hands stands kept segment h).calls_within))

moves_taken : (first : ℕ) (acts : Acts) (ts : List Piece) (e : Exchange) (s : Piece) → Hands first acts ts e → Stands ts e → Kept first acts ts e → Flows 64 first acts ts e → IsSegment s → takes e s ≡ true → Moves first (more acts (Came s)) (s ∷ ts) e.sent (after_taken e s)
moves_taken first acts ts e s hands stands kept flows segment h =
    by_segment s _
    (λ ack call. moves_call_acknowledged first acts ts e s hands stands kept flows segment h ack call)
    (λ ack return_. moves_return_acknowledged first acts ts e s flows ack return_)
    (λ plain call. moves_call_segment first acts ts e s flows plain call)
    (λ plain return_. moves_return_segment first acts ts e s hands stands kept flows segment h plain return_)

moves_came : (first : ℕ) (acts : Acts) (ts : List Piece) (e : Exchange) (s : Piece) → Hands first acts ts e → Stands ts e → Kept first acts ts e → Flows 64 first acts ts e → IsSegment s → Moves first (more acts (Came s)) (cond (takes e s) (s ∷ ts) ts) e.sent (after e s)
unfolding calls_made call_at
moves_came first acts ts e s hands stands kept flows segment =
    by_taken ts e s (λ us f. Moves first (more acts (Came s)) us e.sent f) (λ h. moves_taken first acts ts e s hands stands kept flows segment h)
    (record { flows = flows_same 64 first acts (Came s) ts e e refl refl refl (λ up. up) flows.stopped refl (λ call. refl) flows; goes = inl refl })

-- ---- the other acts

moves_called : (first : ℕ) (acts : Acts) (ts : List Piece) (e : Exchange) (message : List ℕ) → Hands first acts ts e → Flows 64 first acts ts e → 0 < length message → is_stopped_after acts ≡ false → Moves first (more acts (Call message)) ts e.sent (send_call e message)
unfolding send_call is_open call_is_whole calls_made call_at sends_at_once
moves_called first acts ts e message hands flows full running =
    let low : first ≤ e.sent = flows.low in
    let high : e.sent ≤ e.next = flows.high in
    let next : e.next ≡ first + calls_made acts = flows.next in
    let up : e.stopped ≡ false = flows.stopped ∙ running in
    let alike : count_below (is_open first acts ts) e.sent ≡ count_below (is_open first (more acts (Call message)) ts) e.sent = count_alike _ _ e.sent (λ k le. ap (λ b. is_open_by (cond b (Some message) (call_at first acts k)) (reached_in ts 0 k)) (sym (ne_eqb k (first + calls_made acts) (λ same. absurd (omega arith))))) in
    let counted : e.in_flight ≡ count_below (is_open first (more acts (Call message)) ts) e.sent = flows.in_flight ∙ alike in
    elim (sends_at_once e) as (λ b. sends_at_once e ≡ b → Moves first (more acts (Call message)) ts e.sent (record e { next = e.next + 1; sent = cond b (e.sent + 1) e.sent; in_flight = cond b (e.in_flight + 1) e.in_flight; calls = hand_over e.calls e.next (segment_count message) message; ticks = cond (eqb (len e.calls.messages) 0) 0 e.ticks })) [
      | true ↦ λ now. (
          let facts = going e.in_flight e.sent e.next now in
          let room : e.in_flight < 64 = facts.0 in
          let all_sent : e.sent ≡ e.next = facts.1 in
          let at : e.sent ≡ first + calls_made acts = omega arith in
          let open_ : is_open first (more acts (Call message)) ts e.sent ≡ true = ap (λ b. is_open_by (cond b (Some message) (call_at first acts e.sent)) (reached_in ts 0 e.sent)) (eq-eqb e.sent (first + calls_made acts) at) ∙ opened (Some message) (reached_in ts 0 e.sent) (segments_some message full, (let z : reached_in ts 0 e.sent (segment_count message) ≡ 0 = flows.unsaid e.sent (segment_count message) (omega arith) in omega arith)) refl (λ t. flows.unsaid e.sent t (omega arith)) in
          record {
            flows = record {
              low = omega arith;
              high = omega arith;
              next = omega arith;
              in_flight = ap (λ (n : ℕ). n + 1) counted ∙ sym (count_passed (is_open first (more acts (Call message)) ts) e.sent open_);
              full = λ a b. absurd (omega arith);
              most = omega arith;
              stopped = flows.stopped;
              unsaid = λ call total le. flows.unsaid call total (omega arith);
              unreturned = λ call le. flows.unreturned call (omega arith);
            };
            goes = inr (refl, up, omega arith);
          })
      | false ↦ λ later. record {
        flows = record {
          low = flows.low;
          high = omega arith;
          next = omega arith;
          in_flight = counted;
          full = λ a b. staying e.in_flight e.sent e.next later (λ waits. flows.full up waits) (omega arith);
          most = flows.most;
          stopped = flows.stopped;
          unsaid = flows.unsaid;
          unreturned = flows.unreturned;
        };
        goes = inl refl;
      }
    ] refl
  where
    is_open_by : Option (List ℕ) → (ℕ → ℕ) → Bool
    is_open_by o c = is_some o && not (is_all o c)

    going : (n a b : ℕ) → (ltb n 64 && eqb a b) ≡ true → (n < 64) × (a ≡ b)
    going n a b h = let parts = and_parts (ltb n 64) (eqb a b) h in (ltb-true n 64 parts.0, eqb-true a b parts.1)

    staying : (n a b : ℕ) → (ltb n 64 && eqb a b) ≡ false → (a < b → 64 ≤ n) → a ≤ b → 64 ≤ n
    staying n a b h waits le = elim (cases_lt a b) [
      | inl less ↦ waits less
      | inr end ↦ elim (cases_lt n 64) [
        | inl room ↦ absurd (let same : a ≡ b = omega arith in let no_ : true ≡ false = sym (ap (λ x. x && eqb a b) (lt-ltb n 64 room) ∙ eq-eqb a b same) ∙ h in cc)
        | inr most ↦ most
      ]
    ]

flows_start : (first format : ℕ) → Flows 64 first none_yet [] (start first format)
unfolding calls_made call_at reached_in total_in is_open
flows_start first format = record {
  low = omega arith;
  high = omega arith;
  next = omega arith;
  in_flight = sym (count_none (is_open first none_yet []) first (λ k le. refl));
  full = λ a b. absurd (omega arith);
  most = omega arith;
  stopped = refl;
  unsaid = λ call total le. refl;
  unreturned = λ call le. refl;
}

-- what an act lets go, after a lawful list of acts
moves_act : (first format : ℕ) (acts : Acts) (act : Act) → AreLawful first format (more acts act) → Flows 64 first acts (taken_by (start first format) acts) (end_after (start first format) acts) → Moves first (more acts act) (taken_by (start first format) (more acts act)) (end_after (start first format) acts).sent (end_after (start first format) (more acts act))
unfolding calls_made call_at send_return count_tick
moves_act first format acts (Call message) lawful flows = moves_called first acts _ _ message (hands_lawful first format acts lawful.0) flows lawful.1.0.0 lawful.1.2
moves_act first format acts (Return call message) lawful flows = record { flows = flows_same 64 first acts (Return call message) _ _ _ refl refl refl (λ up. up) flows.stopped refl (λ q. refl) flows; goes = inl refl }
moves_act first format acts (Came s) lawful flows = moves_came first acts _ _ s (hands_lawful first format acts lawful.0) (stands_lawful first format acts lawful.0) (kept_after first format acts lawful.0) flows lawful.1
moves_act first format acts Tick lawful flows = record { flows = flows_same 64 first acts Tick _ _ _ refl refl refl (λ up. up) flows.stopped refl (λ q. refl) flows; goes = inl refl }
moves_act first format acts Stop lawful flows = record { flows = flows_same 64 first acts Stop _ _ _ refl refl refl (λ up. absurd (let no_ : true ≡ false = up in cc)) refl refl (λ q. refl) flows; goes = inl refl }

pub flows_after : (first format : ℕ) (acts : Acts) → AreLawful first format acts → Flows 64 first acts (taken_by (start first format) acts) (end_after (start first format) acts)
flows_after first format none_yet lawful = flows_start first format
flows_after first format (more acts act) lawful = (moves_act first format acts act lawful (flows_after first format acts lawful.0)).flows

-- ---- which calls were sent

made_grows : (acts : Acts) (act : Act) → calls_made acts ≤ calls_made (more acts act)
unfolding calls_made
made_grows acts (Call message) = omega arith
made_grows acts act = omega arith

-- the calls below the first that waits are those that the window let go before, and those that it lets go now
sent_more : (first : ℕ) (acts next : Acts) (ts : List Piece) (sent : ℕ) (f : Exchange) (call : ℕ) (was : Bool) → Flows 64 first next ts f → Goes first next ts sent f → sent ≤ first + calls_made acts → calls_made acts ≤ calls_made next → was ≡ sent_below sent first acts call → sent_below f.sent first next call ≡ (was || (is_some (call_at first next call) && (not (is_stopped_after next) && ltb (count_below (is_open first next ts) call) 64)))
sent_more first acts next ts sent f call was flows goes high grows is =
    let sent_grows : sent ≤ f.sent = elim goes [ inl same ↦ (let s : f.sent ≡ sent = same in omega arith) | inr one ↦ (let s : f.sent ≡ sent + 1 = one.0 in omega arith) ] in
    elim (is_some (call_at first next call)) as (λ b. is_some (call_at first next call) ≡ b → sent_below f.sent first next call ≡ (was || (is_some (call_at first next call) && (not (is_stopped_after next) && ltb (count_below (is_open first next ts) call) 64)))) [
      | false ↦ λ none. settle _ _ _ (is_stopped_after next) (ltb (count_below (is_open first next ts) call) 64) _ false false (is_stopped_after next) (ltb (count_below (is_open first next ts) call) 64) refl none (is ∙ never (ltb call sent) (is_some (call_at first acts call)) (λ some. let before = made_call first acts call some in let a : first ≤ call = before.0 in let b : call < first + calls_made acts = before.1 in true_false _ (call_made first next call a (omega arith)) none)) refl refl (never (ltb call f.sent) false (λ e. absurd cc))
      | true ↦ λ some. (let here = made_call first next call some in let a : first ≤ call = here.0 in let b : call < first + calls_made next = here.1 in
          elim (cases_lt call sent) [
            | inl before ↦ settle _ _ _ (is_stopped_after next) (ltb (count_below (is_open first next ts) call) 64) true true true (is_stopped_after next) (ltb (count_below (is_open first next ts) call) 64) (lt-ltb call f.sent (omega arith)) some (is ∙ ap (λ x. x && is_some (call_at first acts call)) (lt-ltb call sent before) ∙ call_made first acts call a (omega arith)) refl refl refl
            | inr after_ ↦ (let not_yet : was ≡ false = is ∙ ap (λ x. x && is_some (call_at first acts call)) (le-ltb call sent after_) in
                elim (cases_lt call f.sent) [
                  | inl now ↦ elim goes [
                    | inl same ↦ absurd (let s : f.sent ≡ sent = same in omega arith)
                    | inr one ↦ (let s : f.sent ≡ sent + 1 = one.0 in let at : call ≡ sent = omega arith in let room : count_below (is_open first next ts) sent < 64 = one.2 in
                        settle _ _ _ (is_stopped_after next) (ltb (count_below (is_open first next ts) call) 64) true true false false true (lt-ltb call f.sent now) some not_yet (sym flows.stopped ∙ one.1) (ap (λ n. ltb (count_below (is_open first next ts) n) 64) at ∙ lt-ltb _ 64 room) refl)
                  ]
                  | inr later ↦ elim (is_stopped_after next) as (λ d. is_stopped_after next ≡ d → sent_below f.sent first next call ≡ (was || (is_some (call_at first next call) && (not (is_stopped_after next) && ltb (count_below (is_open first next ts) call) 64)))) [
                    | true ↦ λ down. settle _ _ _ (is_stopped_after next) (ltb (count_below (is_open first next ts) call) 64) false true false true (ltb (count_below (is_open first next ts) call) 64) (le-ltb call f.sent later) some not_yet down refl refl
                    | false ↦ λ up. (let made_so : f.next ≡ first + calls_made next = flows.next in let many : 64 ≤ f.in_flight = flows.full (flows.stopped ∙ up) (omega arith) in let counted : f.in_flight ≡ count_below (is_open first next ts) f.sent = flows.in_flight in let rises : count_below (is_open first next ts) f.sent ≤ count_below (is_open first next ts) call = count_rises (is_open first next ts) f.sent call later in
                        settle _ _ _ (is_stopped_after next) (ltb (count_below (is_open first next ts) call) 64) false true false false false (le-ltb call f.sent later) some not_yet up (le-ltb _ 64 (omega arith)) refl)
                  ] refl
                ])
          ])
    ] refl
  where
    settle : (a s w d n a2 s2 w2 d2 n2 : Bool) → a ≡ a2 → s ≡ s2 → w ≡ w2 → d ≡ d2 → n ≡ n2 → (a2 && s2) ≡ (w2 || (s2 && (not d2 && n2))) → (a && s) ≡ (w || (s && (not d && n)))
    settle a s w d n a2 s2 w2 d2 n2 ea es ew ed en h = rw (ea, es, ew, ed, en) h

    never : (a b : Bool) → (b ≡ true → ⊥) → (a && b) ≡ false
    never true true h = absurd (h refl)
    never true false h = refl
    never false b h = refl

-- after every lawful list of acts the calls below the first that waits were sent
pub sent_after : (first format : ℕ) (acts : Acts) (call : ℕ) → AreLawful first format acts → sent_below (end_after (start first format) acts).sent first acts call ≡ is_sent (start first format) acts call
unfolding is_sent call_at
sent_after first format none_yet call lawful = and-false (ltb call first)
sent_after first format (more acts act) call lawful =
    let flows = flows_after first format acts lawful.0 in
    let moves = moves_act first format acts act lawful flows in
    let high : (end_after (start first format) acts).sent ≤ (end_after (start first format) acts).next = flows.high in
    let next : (end_after (start first format) acts).next ≡ first + calls_made acts = flows.next in
    sent_more first acts (more acts act) _ _ _ call _ moves.flows moves.goes (omega arith) (made_grows acts act) (sym (sent_after first format acts call lawful.0))

-- at most 64 calls are sent and not acknowledged whole
pub window_after : (first format : ℕ) (acts : Acts) → AreLawful first format acts → count_below (λ call. is_sent (start first format) acts call && not (call_is_whole first acts (taken_by (start first format) acts) call)) (first + calls_made acts) ≤ 64
unfolding is_open
window_after first format acts lawful =
    let b = start first format in
    let e = end_after b acts in
    let ts = taken_by b acts in
    let flows = flows_after first format acts lawful in
    let high : e.sent ≤ e.next = flows.high in
    let next : e.next ≡ first + calls_made acts = flows.next in
    let most : e.in_flight ≤ 64 = flows.most in
    let sent : (k : ℕ) → is_sent b acts k ≡ (ltb k e.sent && is_some (call_at first acts k)) = λ k. sym (sent_after first format acts k lawful) in
    let counted : count_below (λ call. is_sent b acts call && not (call_is_whole first acts ts call)) (first + calls_made acts) ≡ e.in_flight
    = count_upto _ e.sent (first + calls_made acts) (omega arith) (λ k low less. ap (λ x. x && not (call_is_whole first acts ts k)) (sent k ∙ ap (λ x. x && is_some (call_at first acts k)) (le-ltb k e.sent low)))
    ∙ count_alike _ _ e.sent (λ k le. ap (λ x. x && not (call_is_whole first acts ts k)) (sent k ∙ ap (λ x. x && is_some (call_at first acts k)) (lt-ltb k e.sent le)))
    ∙ sym flows.in_flight in
    omega arith
