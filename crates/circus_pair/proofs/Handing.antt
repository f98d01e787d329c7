-- After every list of acts an end knows of each message that was handed over its total and what is acknowledged.
use Rattle.std.proofs.Common.{◌≡◌, ℕ, ◌+◌, ◌<◌, ◌≤◌, Bool, true, false, cond, not, ◌&&◌, eqb, ltb, List, [], ◌∷◌, Option, None, Some, refl, sym, ap, subst, ◌∙◌, inl, inr, arith}
use Rattle.std.specs.Prelude.{is_some, max, unwrap_or}
use Rattle.std.specs.Cmp.{nat_cmp_total}
use Rattle.std.specs.Ordering.{nat_cmp}
use Rattle.std.specs.FinMap.{FinMap, get, insert, get-empty, get-insert}
use Rattle.std.proofs.lemmas.Bool.{and_parts, ne_eqb, eqb-true, ltb-false, ltb-true}
use Rattle.std.proofs.lemmas.Bool.Decides.{eqb_tells}
use Rattle.circus_exchange.specs.declared.progress.Progress.{Progress}
use Rattle.circus_exchange.specs.Outbox.{HandedOver}
use Rattle.circus_exchange.specs.declared.exchange.Exchange.{Exchange}
use Rattle.circus_segment.specs.Segment.{Piece, IsSegment, is_acknowledgement}
use Rattle.circus_segment.specs.Cut.{segment_count}
use Rattle.circus_exchange.specs.Inbox.{fits, progress_so_far, add_segment}
use Rattle.circus_exchange.specs.Outbox.{has_total, agrees, hand_over, raise_progress, acknowledge_up_to, becomes_whole, drop_bytes, forget_message}
use Rattle.circus_exchange.specs.Exchange.{start, send_call, send_return, is_whole, awaits_return, takes, was_sent, call_reached, return_reached, total_or_none, total_of, end_call, return_added, after_taken, after, count_tick}
use Rattle.circus_pair.specs.Taken.{total_in}
use Rattle.circus_pair.specs.Acts.{Act, Call, Return, Came, Tick, Stop, Acts, none_yet, more, happens, end_after, taken_by, AreActs}
use Rattle.circus_pair.specs.Handed.{calls_made, call_at, return_at, says, reached_in, agrees_with, fits_with, sent_below, is_taken}
use Rattle.circus_exchange.specs.Inbox.{Arriving}
use Rattle.circus_pair.specs.Taken.{count_in, is_reached, has_arrived}
use Rattle.circus_pair.proofs.Arrivals.{Keeps, told}
use Rattle.circus_pair.proofs.Lasting.{lasts_called, lasts_returned, lasts_after, lasts_ticked}
use Rattle.circus_pair.proofs.Standing.{Stands, stands_after}
use Rattle.circus_pair.proofs.Taking.{return_is, takes_call_acknowledged, takes_return_acknowledged, takes_return_segment, Same, by_segment, by_taken, call_acknowledged_leaves, return_acknowledged_leaves, call_segment_leaves, return_segment_leaves, taken_lasts}
use Rattle.circus_exchange.proofs.Ties.{equal, nat_ties}

-- no call is returned twice
abbrev pub ReturnsOnce : Acts → Type 0
ReturnsOnce none_yet = Unit {0}
ReturnsOnce (more acts (Return call message)) = ReturnsOnce acts × (return_at acts call ≡ None)
ReturnsOnce (more acts act) = ReturnsOnce acts

-- ---- what an act leaves in the tables of what was handed over

pub record Tables (e : Exchange) (calls returns : FinMap nat_cmp Progress) : Type 0 where
  pub calls_are : e.calls.progress ≡ calls
  pub returns_are : e.returns.progress ≡ returns

same_progress : (b : Bool) (x y : HandedOver) (p : FinMap nat_cmp Progress) → x.progress ≡ p → y.progress ≡ p → (cond b x y).progress ≡ p
same_progress true x y p f g = f
same_progress false x y p f g = g

reached_tables : (e : Exchange) (call count : ℕ) → Tables (call_reached e call count) (raise_progress e.calls.progress call (get e.calls.progress call) count) e.returns.progress
unfolding call_reached acknowledge_up_to drop_bytes
reached_tables e call count = record { calls_are = same_progress (becomes_whole e.calls call count) _ _ _ refl refl; returns_are = refl }

return_reached_tables : (e : Exchange) (call count : ℕ) → Tables (return_reached e call count) e.calls.progress (raise_progress e.returns.progress call (get e.returns.progress call) count)
unfolding return_reached acknowledge_up_to forget_message
return_reached_tables e call count = record { calls_are = refl; returns_are = same_progress (becomes_whole e.returns call count) _ _ _ refl refl }

ended_tables : (e : Exchange) (call : ℕ) (complete : Bool) (calls returns : FinMap nat_cmp Progress) → Tables e calls returns → Tables (end_call e call complete) calls returns
unfolding end_call forget_message
ended_tables e call complete calls returns t = record { calls_are = same_progress complete _ _ _ t.calls_are t.calls_are; returns_are = t.returns_are }

return_added_tables : (e : Exchange) (s : Piece) → Tables (return_added e s) (raise_progress e.calls.progress s.call (get e.calls.progress s.call) (total_of e s.call)) e.returns.progress
unfolding return_added
return_added_tables e s = ended_tables _ s.call _ _ _ (reached_tables (record e { arriving_returns = add_segment e.arriving_returns s }) s.call (total_of e s.call))

tables_same : (e f : Exchange) (calls returns : FinMap nat_cmp Progress) → Same e f → Tables f calls returns → Tables e calls returns
tables_same e f calls returns same t = record {
  calls_are = ap (λ (h : HandedOver). h.progress) same.calls ∙ t.calls_are;
  returns_are = ap (λ (h : HandedOver). h.progress) same.returns ∙ t.returns_are;
}

-- ---- the tables as functions of the numbers

abbrev lift : Option Progress → ℕ → Option Progress
lift None count = None
lift (Some p) count = Some (record { total = p.total; count = max count p.count })

raised_here : (progress : FinMap nat_cmp Progress) (call count : ℕ) (o : Option Progress) → get progress call ≡ o → get (raise_progress progress call o count) call ≡ lift o count
raised_here progress call count None is = is
raised_here progress call count (Some p) is =
    elim (ltb p.count count) as (λ b. ltb p.count count ≡ b → get (cond b (insert progress call (record { total = p.total; count = count })) progress) call ≡ Some (record { total = p.total; count = max count p.count })) [
      | true ↦ λ less. (
          get-insert nat_cmp_total progress call (record { total = p.total; count = count }) call
          ∙ ap (λ b. cond b (Some (record { total = p.total; count = count })) (get progress call)) (nat_ties call call ∙ equal call)
          ∙ (let most : count ≡ max count p.count = (let lt : p.count < count = ltb-true p.count count less in omega arith) in ap (λ (n : ℕ). Some (record { total = p.total; count = n })) most))
      | false ↦ λ more_. (is ∙ (let most : p.count ≡ max count p.count = (let le : count ≤ p.count = ltb-false p.count count more_ in omega arith) in ap (λ (n : ℕ). Some (record { total = p.total; count = n })) most))
    ] refl

raised_elsewhere : (progress : FinMap nat_cmp Progress) (call count : ℕ) (o : Option Progress) (q : ℕ) → eqb q call ≡ false → get (raise_progress progress call o count) q ≡ get progress q
raised_elsewhere progress call count None q other = refl
raised_elsewhere progress call count (Some p) q other =
    elim (ltb p.count count) as (λ b. get (cond b (insert progress call (record { total = p.total; count = count })) progress) q ≡ get progress q) [
      | true ↦ get-insert nat_cmp_total progress call (record { total = p.total; count = count }) q
          ∙ ap (λ b. cond b (Some (record { total = p.total; count = count })) (get progress q)) (nat_ties q call ∙ other)
      | false ↦ refl
    ]

-- of a message that was handed over its total and what is acknowledged
abbrev pub told_out : Option (List ℕ) → (ℕ → ℕ) → Option Progress
told_out None count_to = None
told_out (Some message) count_to = Some (record { total = segment_count message; count = count_to (segment_count message) })

told_raised : (o : Option (List ℕ)) (c g : ℕ → ℕ) (k : ℕ) → ((message : List ℕ) → o ≡ Some message → g (segment_count message) ≡ k) → lift (told_out o c) k ≡ told_out o (λ t. max (g t) (c t))
told_raised None c g k h = refl
told_raised (Some m) c g k h = ap (λ (n : ℕ). Some (record { total = segment_count m; count = max n (c (segment_count m)) })) (sym (h m refl))

told_same : (o : Option (List ℕ)) (c g : ℕ → ℕ) → ((t : ℕ) → g t ≡ 0) → told_out o c ≡ told_out o (λ t. max (g t) (c t))
told_same None c g h = refl
told_same (Some m) c g h = (let none : g (segment_count m) ≡ 0 = h (segment_count m) in let most : c (segment_count m) ≡ max (g (segment_count m)) (c (segment_count m)) = omega arith in ap (λ (n : ℕ). Some (record { total = segment_count m; count = n })) most)

-- what an end knows of what was handed over
pub record Hands (first : ℕ) (acts : Acts) (ts : List Piece) (e : Exchange) : Type 0 where
  pub next : e.next ≡ first + calls_made acts
  pub calls : (call : ℕ) → get e.calls.progress call ≡ told_out (call_at first acts call) (reached_in ts 0 call)
  pub returns : (call : ℕ) → get e.returns.progress call ≡ told_out (return_at acts call) (reached_in ts 1 call)
  pub no_call : (call total : ℕ) → call_at first acts call ≡ None → reached_in ts 0 call total ≡ 0
  pub no_return : (call total : ℕ) → return_at acts call ≡ None → reached_in ts 1 call total ≡ 0
  pub later : (call : ℕ) → e.next ≤ call → call_at first acts call ≡ None

-- ---- what a segment says

says_acknowledged : (s : Piece) (kind call total : ℕ) → is_acknowledgement s ≡ true → says s kind call total ≡ cond (eqb s.kind kind && eqb s.call call) s.number 0
says_acknowledged s kind call total ack = ap (λ b. cond b (cond (eqb s.kind kind && eqb s.call call) s.number 0) (cond (eqb kind 0 && (eqb s.kind 1 && eqb s.call call)) total 0)) ack

says_plain : (s : Piece) (kind call total : ℕ) → is_acknowledgement s ≡ false → says s kind call total ≡ cond (eqb kind 0 && (eqb s.kind 1 && eqb s.call call)) total 0
says_plain s kind call total plain = ap (λ b. cond b (cond (eqb s.kind kind && eqb s.call call) s.number 0) (cond (eqb kind 0 && (eqb s.kind 1 && eqb s.call call)) total 0)) plain

same_number : (a b : ℕ) → eqb a b ≡ eqb b a
same_number a b = elim (eqb_tells a b) [
  | inl same ↦ (let h : a ≡ b = same.1 in ap (λ (x : ℕ). eqb x b) h ∙ ap (λ (x : ℕ). eqb b x) (sym h))
  | inr differ ↦ differ.0 ∙ sym (ne_eqb b a (λ e. differ.1 (sym e)))
]

-- a table that is raised at one call for what a segment says of it
grows : (o : ℕ → Option (List ℕ)) (c g : ℕ → ℕ → ℕ) (progress : FinMap nat_cmp Progress) (call count : ℕ) → ((q : ℕ) → get progress q ≡ told_out (o q) (c q)) → ((message : List ℕ) → o call ≡ Some message → g call (segment_count message) ≡ count) → ((q t : ℕ) → eqb q call ≡ false → g q t ≡ 0) → (q : ℕ) → get (raise_progress progress call (get progress call) count) q ≡ told_out (o q) (λ t. max (g q t) (c q t))
grows o c g progress call count knows here elsewhere q = elim (eqb_tells q call) [
  | inl same ↦ subst (λ x. get (raise_progress progress call (get progress call) count) x ≡ told_out (o x) (λ t. max (g x t) (c x t))) (sym same.1)
      (raised_here progress call count (get progress call) refl ∙ ap (λ (x : Option Progress). lift x count) (knows call) ∙ told_raised (o call) (c call) (g call) count here)
  | inr differ ↦ raised_elsewhere progress call count (get progress call) q differ.0 ∙ knows q ∙ told_same (o q) (c q) (g q) (λ t. elsewhere q t differ.0)
]

stays : (o : ℕ → Option (List ℕ)) (c g : ℕ → ℕ → ℕ) (progress : FinMap nat_cmp Progress) → ((q : ℕ) → get progress q ≡ told_out (o q) (c q)) → ((q t : ℕ) → g q t ≡ 0) → (q : ℕ) → get progress q ≡ told_out (o q) (λ t. max (g q t) (c q t))
stays o c g progress knows none q = knows q ∙ told_same (o q) (c q) (g q) (none q)

-- ---- takes, by the tables

known_total : (o : Option Progress) (t : ℕ) → has_total o t ≡ true → o ≡ None → ⊥
known_total None t h e = absurd cc
known_total (Some p) t h e = cc

known_some : (o : Option Progress) → is_some o ≡ true → o ≡ None → ⊥
known_some None h e = absurd cc
known_some (Some p) h e = cc

taken_call_acknowledged : (e : Exchange) (s : Piece) → takes e s ≡ true → is_acknowledgement s ≡ true → eqb s.kind 0 ≡ true → get e.calls.progress s.call ≡ None → ⊥
unfolding agrees
taken_call_acknowledged e s h ack call none = known_total _ s.total (takes_call_acknowledged e s h ack call).1 none

taken_return_acknowledged : (e : Exchange) (s : Piece) → takes e s ≡ true → is_acknowledgement s ≡ true → eqb s.kind 0 ≡ false → get e.returns.progress s.call ≡ None → ⊥
unfolding agrees
taken_return_acknowledged e s h ack return_ none = known_total _ s.total (takes_return_acknowledged e s h ack return_) none

pub taken_return : (e : Exchange) (s : Piece) → takes e s ≡ true → is_acknowledgement s ≡ false → eqb s.kind 0 ≡ false → get e.calls.progress s.call ≡ None → ⊥
unfolding was_sent
taken_return e s h plain return_ none = known_some _ (and_parts (ltb s.call e.sent) _ (takes_return_segment e s h plain return_).0).1 none

pub says_elsewhere : (s : Piece) (kind call total : ℕ) → eqb call s.call ≡ false → says s kind call total ≡ 0
says_elsewhere s kind call total other =
    let off : eqb s.call call ≡ false = same_number s.call call ∙ other in
    elim (is_acknowledgement s) as (λ b. cond b (cond (eqb s.kind kind && eqb s.call call) s.number 0) (cond (eqb kind 0 && (eqb s.kind 1 && eqb s.call call)) total 0) ≡ 0) [
      | true ↦ ap (λ b. cond (eqb s.kind kind && b) s.number 0) off ∙ neither (eqb s.kind kind) s.number
      | false ↦ ap (λ b. cond (eqb kind 0 && (eqb s.kind 1 && b)) total 0) off ∙ nor (eqb kind 0) (eqb s.kind 1) total
    ]
  where
    neither : (a : Bool) (x : ℕ) → cond (a && false) x 0 ≡ 0
    neither true x = refl
    neither false x = refl

    nor : (a b : Bool) (x : ℕ) → cond (a && (b && false)) x 0 ≡ 0
    nor true true x = refl
    nor true false x = refl
    nor false b x = refl

pub says_other_kind : (s : Piece) (kind call total : ℕ) → is_acknowledgement s ≡ true → eqb s.kind kind ≡ false → says s kind call total ≡ 0
says_other_kind s kind call total ack other = says_acknowledged s kind call total ack ∙ ap (λ b. cond (b && eqb s.call call) s.number 0) other

pub says_no_return : (s : Piece) (call total : ℕ) → is_acknowledgement s ≡ false → says s 1 call total ≡ 0
says_no_return s call total plain = says_plain s 1 call total plain

pub says_no_call : (s : Piece) (call total : ℕ) → is_acknowledgement s ≡ false → eqb s.kind 1 ≡ false → says s 0 call total ≡ 0
says_no_call s call total plain other = says_plain s 0 call total plain ∙ ap (λ b. cond (b && eqb s.call call) total 0) other

pub says_here : (s : Piece) (kind total : ℕ) → is_acknowledgement s ≡ true → eqb s.kind kind ≡ true → says s kind s.call total ≡ s.number
says_here s kind total ack same = says_acknowledged s kind s.call total ack ∙ ap (λ b. cond (b && eqb s.call s.call) s.number 0) same ∙ ap (λ b. cond b s.number 0) (equal s.call)

pub says_whole : (s : Piece) (total : ℕ) → is_acknowledgement s ≡ false → eqb s.kind 1 ≡ true → says s 0 s.call total ≡ total
says_whole s total plain same = says_plain s 0 s.call total plain ∙ ap (λ b. cond (b && eqb s.call s.call) total 0) same ∙ ap (λ b. cond b total 0) (equal s.call)

pub call_kind : (s : Piece) → eqb s.kind 0 ≡ true → eqb s.kind 1 ≡ false
call_kind s h = ap (λ k. eqb k 1) (eqb-true s.kind 0 h)

pub return_kind : (s : Piece) → IsSegment s → eqb s.kind 0 ≡ false → eqb s.kind 1 ≡ true
return_kind s segment h = ap (λ k. eqb k 1) (return_is s segment h)

zero_max : (a b : ℕ) → a ≡ 0 → b ≡ 0 → max a b ≡ 0
zero_max a b x y = omega arith

-- ---- one act more

nothing_told : (o : Option (List ℕ)) (c : ℕ → ℕ) → o ≡ None → told_out o c ≡ None
nothing_told o c none = ap (λ (x : Option (List ℕ)). told_out x c) none

pub total_told : (first : ℕ) (acts : Acts) (ts : List Piece) (e : Exchange) (call : ℕ) (message : List ℕ) → Hands first acts ts e → call_at first acts call ≡ Some message → total_of e call ≡ segment_count message
unfolding total_of
total_told first acts ts e call message hands is = ap total_or_none (hands.calls call ∙ ap (λ (o : Option (List ℕ)). told_out o (reached_in ts 0 call)) is)

-- what was said of a message that was not handed over
none_said : (o : ℕ → Option (List ℕ)) (s : Piece) (kind : ℕ) → (o s.call ≡ None → ⊥) → (call total : ℕ) → o call ≡ None → says s kind call total ≡ 0
none_said o s kind some call total none = elim (eqb_tells call s.call) [
  | inl same ↦ absurd (some (subst (λ q. o q ≡ None) same.1 none))
  | inr differ ↦ says_elsewhere s kind call total differ.0
]

later_taken : (first : ℕ) (acts : Acts) (ts : List Piece) (e : Exchange) (s : Piece) → Hands first acts ts e → (call : ℕ) → (after_taken e s).next ≤ call → call_at first acts call ≡ None
later_taken first acts ts e s hands call le = hands.later call (subst (λ n. n ≤ call) (taken_lasts e s).1 le)

hands_taken : (first : ℕ) (acts : Acts) (ts : List Piece) (e : Exchange) (s : Piece) → Hands first acts ts e → IsSegment s → takes e s ≡ true → Hands first (more acts (Came s)) (s ∷ ts) (after_taken e s)
unfolding calls_made call_at return_at reached_in
hands_taken first acts ts e s hands segment h =
    let next = (taken_lasts e s).1 ∙ hands.next in
    by_segment s _
    (λ ack call. (let t = tables_same _ _ _ _ (call_acknowledged_leaves e s ack call) (reached_tables e s.call s.number) in
    let still : (q n : ℕ) → says s 1 q n ≡ 0 = λ q n. says_other_kind s 1 q n ack (call_kind s call) in
    let some : call_at first acts s.call ≡ None → ⊥ = λ none. taken_call_acknowledged e s h ack call (hands.calls s.call ∙ nothing_told _ _ none) in
    record {
      next = next;
      calls = λ q. ap (λ (p : FinMap nat_cmp Progress). get p q) t.calls_are ∙ grows (call_at first acts) (reached_in ts 0) (says s 0) e.calls.progress s.call s.number hands.calls (λ m is. says_here s 0 (segment_count m) ack call) (λ q n other. says_elsewhere s 0 q n other) q;
      returns = λ q. ap (λ (p : FinMap nat_cmp Progress). get p q) t.returns_are ∙ stays (return_at acts) (reached_in ts 1) (says s 1) e.returns.progress hands.returns still q;
      no_call = λ q n none. zero_max _ _ (none_said (call_at first acts) s 0 some q n none) (hands.no_call q n none);
      no_return = λ q n none. zero_max _ _ (still q n) (hands.no_return q n none);
      later = later_taken first acts ts e s hands;
    }))
    (λ ack return_. (let t = tables_same _ _ _ _ (return_acknowledged_leaves e s ack return_) (return_reached_tables e s.call s.number) in
    let still : (q n : ℕ) → says s 0 q n ≡ 0 = λ q n. says_other_kind s 0 q n ack return_ in
    let some : return_at acts s.call ≡ None → ⊥ = λ none. taken_return_acknowledged e s h ack return_ (hands.returns s.call ∙ nothing_told _ _ none) in
    record {
      next = next;
      calls = λ q. ap (λ (p : FinMap nat_cmp Progress). get p q) t.calls_are ∙ stays (call_at first acts) (reached_in ts 0) (says s 0) e.calls.progress hands.calls still q;
      returns = λ q. ap (λ (p : FinMap nat_cmp Progress). get p q) t.returns_are ∙ grows (return_at acts) (reached_in ts 1) (says s 1) e.returns.progress s.call s.number hands.returns (λ m is. says_here s 1 (segment_count m) ack (return_kind s segment return_)) (λ q n other. says_elsewhere s 1 q n other) q;
      no_call = λ q n none. zero_max _ _ (still q n) (hands.no_call q n none);
      no_return = λ q n none. zero_max _ _ (none_said (return_at acts) s 1 some q n none) (hands.no_return q n none);
      later = later_taken first acts ts e s hands;
    }))
    (λ plain call. (let t = tables_same _ _ _ _ (call_segment_leaves e s plain call) (record { calls_are = refl; returns_are = refl }) in
    let still : (q n : ℕ) → says s 0 q n ≡ 0 = λ q n. says_no_call s q n plain (call_kind s call) in
    let quiet : (q n : ℕ) → says s 1 q n ≡ 0 = λ q n. says_no_return s q n plain in
    record {
      next = next;
      calls = λ q. ap (λ (p : FinMap nat_cmp Progress). get p q) t.calls_are ∙ stays (call_at first acts) (reached_in ts 0) (says s 0) e.calls.progress hands.calls still q;
      returns = λ q. ap (λ (p : FinMap nat_cmp Progress). get p q) t.returns_are ∙ stays (return_at acts) (reached_in ts 1) (says s 1) e.returns.progress hands.returns quiet q;
      no_call = λ q n none. zero_max _ _ (still q n) (hands.no_call q n none);
      no_return = λ q n none. zero_max _ _ (quiet q n) (hands.no_return q n none);
      later = later_taken first acts ts e s hands;
    }))
    (λ plain return_. (let t = tables_same _ _ _ _ (return_segment_leaves e s plain return_) (return_added_tables e s) in
    let some : call_at first acts s.call ≡ None → ⊥ = λ none. taken_return e s h plain return_ (hands.calls s.call ∙ nothing_told _ _ none) in
    let quiet : (q n : ℕ) → says s 1 q n ≡ 0 = λ q n. says_no_return s q n plain in
    record {
      next = next;
      calls = λ q. ap (λ (p : FinMap nat_cmp Progress). get p q) t.calls_are ∙ grows (call_at first acts) (reached_in ts 0) (says s 0) e.calls.progress s.call (total_of e s.call) hands.calls (λ m is. says_whole s (segment_count m) plain (return_kind s segment return_) ∙ sym (total_told first acts ts e s.call m hands is)) (λ q n other. says_elsewhere s 0 q n other) q;
      returns = λ q. ap (λ (p : FinMap nat_cmp Progress). get p q) t.returns_are ∙ stays (return_at acts) (reached_in ts 1) (says s 1) e.returns.progress hands.returns quiet q;
      no_call = λ q n none. zero_max _ _ (none_said (call_at first acts) s 0 some q n none) (hands.no_call q n none);
      no_return = λ q n none. zero_max _ _ (quiet q n) (hands.no_return q n none);
      later = later_taken first acts ts e s hands;
    }))

hands_came : (first : ℕ) (acts : Acts) (ts : List Piece) (e : Exchange) (s : Piece) → Hands first acts ts e → IsSegment s → Hands first (more acts (Came s)) (cond (takes e s) (s ∷ ts) ts) (after e s)
unfolding calls_made call_at return_at
hands_came first acts ts e s hands segment =
    by_taken ts e s (Hands first (more acts (Came s))) (λ h. hands_taken first acts ts e s hands segment h)
    (record { next = hands.next; calls = hands.calls; returns = hands.returns; no_call = hands.no_call; no_return = hands.no_return; later = hands.later })

call_told : (b : Bool) (o : Option (List ℕ)) (c : ℕ → ℕ) (message : List ℕ) → (b ≡ true → (t : ℕ) → c t ≡ 0) → cond b (Some (record { total = segment_count message; count = 0 })) (told_out o c) ≡ told_out (cond b (Some message) o) c
call_told true o c message h = ap (λ (n : ℕ). Some (record { total = segment_count message; count = n })) (sym (h refl (segment_count message)))
call_told false o c message h = refl

pub not_some : (b : Bool) (message : List ℕ) (o : Option (List ℕ)) → cond b (Some message) o ≡ None → o ≡ None
not_some true message o h = absurd cc
not_some false message o h = h

hands_called : (first : ℕ) (acts : Acts) (ts : List Piece) (e : Exchange) (message : List ℕ) → Hands first acts ts e → Hands first (more acts (Call message)) ts (send_call e message)
unfolding calls_made call_at return_at send_call hand_over
hands_called first acts ts e message hands =
    record {
      next = (let n : e.next ≡ first + calls_made acts = hands.next in omega arith);
      calls = λ q.
          get-insert nat_cmp_total e.calls.progress e.next (record { total = segment_count message; count = 0 }) q
          ∙ ap (λ b. cond b (Some (record { total = segment_count message; count = 0 })) (get e.calls.progress q)) (nat_ties q e.next ∙ ap (λ n. eqb q n) hands.next)
          ∙ ap (λ (o : Option Progress). cond (eqb q (first + calls_made acts)) (Some (record { total = segment_count message; count = 0 })) o) (hands.calls q)
          ∙ call_told (eqb q (first + calls_made acts)) (call_at first acts q) (reached_in ts 0 q) message (λ same t. (let at : q ≡ first + calls_made acts = eqb-true q (first + calls_made acts) same in let n : e.next ≡ first + calls_made acts = hands.next in hands.no_call q t (hands.later q (omega arith))));
      returns = hands.returns;
      no_call = λ q t none. hands.no_call q t (not_some (eqb q (first + calls_made acts)) message (call_at first acts q) none);
      no_return = hands.no_return;
      later = λ q le. (let n : e.next ≡ first + calls_made acts = hands.next in
          ap (λ b. cond b (Some message) (call_at first acts q)) (ne_eqb q (first + calls_made acts) (λ same. absurd (omega arith)))
          ∙ hands.later q (omega arith));
    }

hands_returned : (first : ℕ) (acts : Acts) (ts : List Piece) (e : Exchange) (call : ℕ) (message : List ℕ) → Hands first acts ts e → return_at acts call ≡ None → Hands first (more acts (Return call message)) ts (send_return e call message)
unfolding calls_made call_at return_at send_return hand_over
hands_returned first acts ts e call message hands once =
    record {
      next = hands.next;
      calls = hands.calls;
      returns = λ q.
          get-insert nat_cmp_total e.returns.progress call (record { total = segment_count message; count = 0 }) q
          ∙ ap (λ b. cond b (Some (record { total = segment_count message; count = 0 })) (get e.returns.progress q)) (nat_ties q call)
          ∙ ap (λ (o : Option Progress). cond (eqb q call) (Some (record { total = segment_count message; count = 0 })) o) (hands.returns q)
          ∙ call_told (eqb q call) (return_at acts q) (reached_in ts 1 q) message (λ same t. hands.no_return q t (subst (λ n. return_at acts n ≡ None) (sym (eqb-true q call same)) once));
      no_call = hands.no_call;
      no_return = λ q t none. hands.no_return q t (not_some (eqb q call) message (return_at acts q) none);
      later = hands.later;
    }

hands_ticked : (first : ℕ) (acts : Acts) (ts : List Piece) (e : Exchange) → Hands first acts ts e → Hands first (more acts Tick) ts (count_tick e)
unfolding calls_made call_at return_at count_tick
hands_ticked first acts ts e hands = record { next = hands.next; calls = hands.calls; returns = hands.returns; no_call = hands.no_call; no_return = hands.no_return; later = hands.later }

hands_stopped : (first : ℕ) (acts : Acts) (ts : List Piece) (e : Exchange) → Hands first acts ts e → Hands first (more acts Stop) ts (happens e Stop)
unfolding calls_made call_at return_at
hands_stopped first acts ts e hands = record { next = hands.next; calls = hands.calls; returns = hands.returns; no_call = hands.no_call; no_return = hands.no_return; later = hands.later }

hands_start : (first format : ℕ) → Hands first none_yet [] (start first format)
unfolding calls_made call_at return_at reached_in
hands_start first format = record {
  next = omega arith;
  calls = λ q. get-empty nat_cmp q;
  returns = λ q. get-empty nat_cmp q;
  no_call = λ q t none. refl;
  no_return = λ q t none. refl;
  later = λ q le. refl;
}

-- after every list of acts that returns no call twice
pub hands_after : (first format : ℕ) (acts : Acts) → AreActs acts → ReturnsOnce acts → Hands first acts (taken_by (start first format) acts) (end_after (start first format) acts)
hands_after first format none_yet are once = hands_start first format
hands_after first format (more acts (Call message)) are once = hands_called first acts _ _ message (hands_after first format acts are.0 once)
hands_after first format (more acts (Return call message)) are once = hands_returned first acts _ _ call message (hands_after first format acts are.0 once.0) once.1
hands_after first format (more acts (Came s)) are once = hands_came first acts _ _ s (hands_after first format acts are.0 once) are.1
hands_after first format (more acts Tick) are once = hands_ticked first acts _ _ (hands_after first format acts are.0 once)
hands_after first format (more acts Stop) are once = hands_stopped first acts _ _ (hands_after first format acts are.0 once)

-- ---- which segments are taken

pub format_act : (e : Exchange) (act : Act) → (happens e act).format ≡ e.format
format_act e (Call message) = (lasts_called e message).format
format_act e (Return call message) = (lasts_returned e call message).format
format_act e (Came s) = (lasts_after e s).format
format_act e Tick = (lasts_ticked e).format
format_act e Stop = refl

pub format_stays : (e : Exchange) (acts : Acts) → (end_after e acts).format ≡ e.format
format_stays e none_yet = refl
format_stays e (more acts act) = format_act (end_after e acts) act ∙ format_stays e acts

some_told : (o : Option (List ℕ)) (c : ℕ → ℕ) → is_some (told_out o c) ≡ is_some o
some_told None c = refl
some_told (Some m) c = refl

pub total_agrees : (o : Option (List ℕ)) (c : ℕ → ℕ) (t : ℕ) → has_total (told_out o c) t ≡ agrees_with o t
total_agrees None c t = refl
total_agrees (Some m) c t = refl

told_fits : (o : Option ℕ) (c : ℕ → ℕ) (t : ℕ) → eqb (unwrap_or {T = Progress} (told o c) (record { total = t; count = 0 })).total t ≡ fits_with o t
told_fits None c t = equal t
told_fits (Some x) c t = refl

box_fits : (kind : ℕ) (ts : List Piece) (s : Piece) (box : Arriving) → Keeps kind ts box → fits box s ≡ fits_with (total_in ts kind s.call) s.total
unfolding fits progress_so_far
box_fits kind ts s box keeps =
    ap (λ (o : Option Progress). eqb (unwrap_or {T = Progress} o (record { total = s.total; count = 0 })).total s.total) (keeps.progress s.call)
    ∙ told_fits (total_in ts kind s.call) (count_in ts kind s.call) s.total

sent_is : (first : ℕ) (acts : Acts) (ts : List Piece) (e : Exchange) (call : ℕ) → Hands first acts ts e → was_sent e call ≡ sent_below e.sent first acts call
unfolding was_sent
sent_is first acts ts e call hands = ap (λ b. ltb call e.sent && b) (ap is_some (hands.calls call) ∙ some_told (call_at first acts call) (reached_in ts 0 call))

by_kind : (kind : ℕ) (x y z w : Bool) → (eqb kind 0 ≡ true → x ≡ z) → (eqb kind 0 ≡ false → y ≡ w) → cond (eqb kind 0) x y ≡ cond (eqb kind 0) z w
by_kind kind x y z w f g = elim (eqb kind 0) as (λ b. eqb kind 0 ≡ b → cond b x y ≡ cond b z w) [ true ↦ λ e. f e | false ↦ λ e. g e ] refl

-- a segment is taken exactly by what was handed over and taken before
pub taken_is : (first format : ℕ) (acts : Acts) (ts : List Piece) (e : Exchange) (s : Piece) → e.format ≡ format → Hands first acts ts e → Stands ts e → IsSegment s → takes e s ≡ is_taken first format acts ts (sent_below e.sent first acts) s
unfolding takes agrees
taken_is first format acts ts e s same hands stands segment =
    let acknowledged : cond (eqb s.kind 0) (was_sent e s.call && has_total (get e.calls.progress s.call) s.total) (has_total (get e.returns.progress s.call) s.total) ≡ cond (eqb s.kind 0) (sent_below e.sent first acts s.call && agrees_with (call_at first acts s.call) s.total) (agrees_with (return_at acts s.call) s.total)
    = by_kind s.kind _ _ _ _
    (λ call. ap (λ b. b && has_total (get e.calls.progress s.call) s.total) (sent_is first acts ts e s.call hands) ∙ ap (λ b. sent_below e.sent first acts s.call && b) (ap (λ (o : Option Progress). has_total o s.total) (hands.calls s.call) ∙ total_agrees (call_at first acts s.call) _ s.total))
    (λ return_. ap (λ (o : Option Progress). has_total o s.total) (hands.returns s.call) ∙ total_agrees (return_at acts s.call) _ s.total) in
    let plain : cond (eqb s.kind 0) (fits e.arriving_calls s) (was_sent e s.call && fits e.arriving_returns s) ≡ cond (eqb s.kind 0) (fits_with (total_in ts s.kind s.call) s.total) (sent_below e.sent first acts s.call && fits_with (total_in ts s.kind s.call) s.total)
    = by_kind s.kind _ _ _ _
    (λ call. box_fits 0 ts s e.arriving_calls stands.calls ∙ ap (λ k. fits_with (total_in ts k s.call) s.total) (sym (eqb-true s.kind 0 call)))
    (λ return_. ap (λ b. b && fits e.arriving_returns s) (sent_is first acts ts e s.call hands) ∙ ap (λ b. sent_below e.sent first acts s.call && b) (box_fits 1 ts s e.arriving_returns stands.returns ∙ ap (λ k. fits_with (total_in ts k s.call) s.total) (sym (return_is s segment return_)))) in
    ap (λ f. eqb s.format f && cond (is_acknowledgement s) (cond (eqb s.kind 0) (was_sent e s.call && has_total (get e.calls.progress s.call) s.total) (has_total (get e.returns.progress s.call) s.total)) (cond (eqb s.kind 0) (fits e.arriving_calls s) (was_sent e s.call && fits e.arriving_returns s))) same
    ∙ ap (λ b. eqb s.format format && cond (is_acknowledgement s) b (cond (eqb s.kind 0) (fits e.arriving_calls s) (was_sent e s.call && fits e.arriving_returns s))) acknowledged
    ∙ ap (λ b. eqb s.format format && cond (is_acknowledgement s) (cond (eqb s.kind 0) (sent_below e.sent first acts s.call && agrees_with (call_at first acts s.call) s.total) (agrees_with (return_at acts s.call) s.total)) b) plain

pub taken_after : (first format : ℕ) (acts : Acts) (s : Piece) → AreActs acts → ReturnsOnce acts → IsSegment s → takes (end_after (start first format) acts) s ≡ is_taken first format acts (taken_by (start first format) acts) (sent_below (end_after (start first format) acts).sent first acts) s
taken_after first format acts s are once segment =
    taken_is first format acts _ _ s (format_stays (start first format) acts) (hands_after first format acts are once) (stands_after first format acts are) segment

-- ---- which calls wait for a return

whole_told : (o : Option ℕ) (c : ℕ → ℕ) → is_whole (told o c) ≡ is_reached o c
whole_told None c = refl
whole_told (Some t) c = refl

-- a call waits for its return exactly where it has arrived and had none
pub awaits_is : (first : ℕ) (acts : Acts) (ts : List Piece) (e : Exchange) (call : ℕ) → Stands ts e → Hands first acts ts e → awaits_return e call ≡ (has_arrived ts 0 call && not (is_some (return_at acts call)))
unfolding awaits_return has_arrived
awaits_is first acts ts e call stands hands =
    ap (λ b. b && not (is_some (get e.returns.progress call))) (ap is_whole (stands.calls.progress call) ∙ whole_told (total_in ts 0 call) (count_in ts 0 call))
    ∙ ap (λ b. is_reached (total_in ts 0 call) (count_in ts 0 call) && not b) (ap is_some (hands.returns call) ∙ some_told (return_at acts call) (reached_in ts 1 call))
