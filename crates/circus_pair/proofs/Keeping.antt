-- After every lawful list of acts an end keeps the messages that it may have to send again.
use Rattle.std.proofs.Common.{◌≡◌, ◌≢◌, ℕ, ◌+◌, ◌<◌, ◌≤◌, Bool, true, false, cond, not, ◌&&◌, eqb, ltb, List, [], ◌∷◌, length, Option, None, Some, refl, sym, ap, subst, ◌∙◌, inl, inr, arith}
use Rattle.std.specs.Prelude.{is_some, max}
use Rattle.std.specs.Cmp.{nat_cmp_total}
use Rattle.std.specs.Ordering.{nat_cmp}
use Rattle.std.specs.FinMap.{FinMap, get, insert, remove, get-empty, get-insert, get-remove}
use Rattle.std.proofs.Math.Bool.{and-false}
use Rattle.std.proofs.lemmas.Bool.{ne_eqb, eq-eqb, eqb-true, lt-ltb}
use Rattle.std.proofs.lemmas.Bool.Decides.{eqb_tells}
use Rattle.circus_exchange.specs.declared.progress.Progress.{Progress}
use Rattle.circus_exchange.specs.Outbox.{HandedOver}
use Rattle.circus_exchange.specs.declared.exchange.Exchange.{Exchange}
use Rattle.circus_segment.specs.Segment.{Piece, IsSegment, is_acknowledgement}
use Rattle.circus_segment.specs.Cut.{segment_count}
use Rattle.circus_exchange.specs.Inbox.{completes, add_segment}
use Rattle.circus_exchange.specs.Outbox.{has_total, agrees, hand_over, whole_by, becomes_whole, acknowledge_up_to, drop_bytes, forget_message}
use Rattle.circus_exchange.specs.Exchange.{start, send_call, send_return, takes, call_reached, return_reached, total_of, end_call, return_added, after_taken, after, count_tick}
use Rattle.circus_pair.specs.Taken.{is_of, total_in, has_arrived, is_reached, count_in}
use Rattle.circus_pair.specs.Acts.{Call, Return, Came, Tick, Stop, Acts, none_yet, more, happens, end_after, taken_by, AreActs}
use Rattle.circus_pair.specs.Handed.{calls_made, call_at, return_at, says, reached_in, agrees_with}
use Rattle.circus_pair.specs.Lawful.{AreLawful}
use Rattle.circus_pair.proofs.Arrivals.{Keeps, completes_is, arrived_stays, arrived_other, total_other}
use Rattle.circus_pair.proofs.Handing.{ReturnsOnce, Hands, hands_after, told_out, not_some, says_elsewhere, says_other_kind, says_no_return, says_no_call, says_here, says_whole, call_kind, return_kind, total_told, total_agrees, taken_return}
use Rattle.circus_pair.proofs.Standing.{Stands, stands_after, may_follow, acknowledges, other_kind}
use Rattle.circus_pair.proofs.Taking.{return_is, takes_call_acknowledged, takes_return_acknowledged, Same, by_segment, by_taken, call_acknowledged_leaves, return_acknowledged_leaves, call_segment_leaves, return_segment_leaves}
use Rattle.circus_exchange.proofs.Ties.{equal, nat_ties}

-- ---- lawful acts

pub lawful_acts : (first format : ℕ) (acts : Acts) → AreLawful first format acts → AreActs acts
lawful_acts first format none_yet lawful = tt
lawful_acts first format (more acts (Came s)) lawful = (lawful_acts first format acts lawful.0, lawful.1)
lawful_acts first format (more acts act) lawful = (lawful_acts first format acts lawful.0, tt)

pub lawful_once : (first format : ℕ) (acts : Acts) → AreLawful first format acts → ReturnsOnce acts
lawful_once first format none_yet lawful = tt
lawful_once first format (more acts (Return call message)) lawful = (lawful_once first format acts lawful.0, lawful.1.2)
lawful_once first format (more acts act) lawful = lawful_once first format acts lawful.0

pub hands_lawful : (first format : ℕ) (acts : Acts) → AreLawful first format acts → Hands first acts (taken_by (start first format) acts) (end_after (start first format) acts)
hands_lawful first format acts lawful = hands_after first format acts (lawful_acts first format acts lawful) (lawful_once first format acts lawful)

pub stands_lawful : (first format : ℕ) (acts : Acts) → AreLawful first format acts → Stands (taken_by (start first format) acts) (end_after (start first format) acts)
stands_lawful first format acts lawful = stands_after first format acts (lawful_acts first format acts lawful)

-- ---- the messages as functions of the numbers

-- of a call no message once its return has arrived, and an empty one once it is acknowledged whole
abbrev pub kept_call : Option (List ℕ) → (ℕ → ℕ) → Bool → Option (List ℕ)
kept_call None count_to finished = None
kept_call (Some message) count_to finished = cond finished None (cond (eqb (count_to (segment_count message)) (segment_count message)) (Some []) (Some message))

-- of a return no message once it is acknowledged whole
abbrev pub kept_return : Option (List ℕ) → (ℕ → ℕ) → Option (List ℕ)
kept_return None count_to = None
kept_return (Some message) count_to = cond (eqb (count_to (segment_count message)) (segment_count message)) None (Some message)

-- a message has segments, and not more of them are acknowledged
abbrev pub IsWithin : Option (List ℕ) → (ℕ → ℕ) → Type 0
IsWithin None count_to = Unit {0}
IsWithin (Some message) count_to = (0 < segment_count message) × (count_to (segment_count message) ≤ segment_count message)

abbrev blank : Option (List ℕ) → Option (List ℕ)
blank None = None
blank (Some message) = Some []

emptied_at : (messages : FinMap nat_cmp (List ℕ)) (call q : ℕ) → get (cond (is_some (get messages call)) (insert messages call []) messages) q ≡ cond (eqb q call) (blank (get messages call)) (get messages q)
emptied_at messages call q =
    elim (get messages call) as (λ o. get messages call ≡ o → get (cond (is_some o) (insert messages call []) messages) q ≡ cond (eqb q call) (blank o) (get messages q)) [
      | None ↦ λ is. elim (eqb_tells q call) [
        | inl same ↦ ap (get messages) same.1 ∙ is ∙ sym (ap (λ b. cond b None (get messages q)) same.0)
        | inr differ ↦ sym (ap (λ b. cond b None (get messages q)) differ.0)
      ]
      | Some m ↦ λ is. get-insert nat_cmp_total messages call [] q ∙ ap (λ b. cond b (Some []) (get messages q)) (nat_ties q call)
    ] refl

removed_at : (messages : FinMap nat_cmp (List ℕ)) (call q : ℕ) → get (remove messages call) q ≡ cond (eqb q call) None (get messages q)
removed_at messages call q = get-remove nat_cmp_total messages call q ∙ ap (λ b. cond b None (get messages q)) (nat_ties q call)

get_cond : (b : Bool) (x y : FinMap nat_cmp (List ℕ)) (q : ℕ) → get (cond b x y) q ≡ cond b (get x q) (get y q)
get_cond true x y q = refl
get_cond false x y q = refl

either : {X : Type 0} (b : Bool) (x : X) → cond b x x ≡ x
either true x = refl
either false x = refl

-- a message is acknowledged whole where it was so, or becomes so now
pub becomes : {X : Type 0} (x y : X) (total before count : ℕ) → before ≤ total → count ≤ total → cond (ltb before count && eqb total count) x (cond (eqb before total) x y) ≡ cond (eqb (max count before) total) x y
becomes x y total before count low high = elim (eqb_tells before total) [
  | inl same ↦ (let s : before ≡ total = same.1 in
      ap (λ b. cond (ltb before count && eqb total count) x (cond b x y)) same.0
      ∙ either (ltb before count && eqb total count) x
      ∙ sym (ap (λ b. cond b x y) (eq-eqb (max count before) total (omega arith))))
  | inr differ ↦ (let open_ : before ≢ total = differ.1 in elim (eqb_tells total count) [
    | inl last ↦ (let l : total ≡ count = last.1 in
        ap (λ b. cond (b && eqb total count) x (cond (eqb before total) x y)) (lt-ltb before count (omega arith))
        ∙ ap (λ b. cond b x (cond (eqb before total) x y)) last.0
        ∙ sym (ap (λ b. cond b x y) (eq-eqb (max count before) total (omega arith))))
    | inr short ↦ (let s : total ≢ count = short.1 in
        ap (λ b. cond (ltb before count && b) x (cond (eqb before total) x y)) short.0
        ∙ neither (ltb before count) x (cond (eqb before total) x y)
        ∙ ap (λ b. cond b x y) (differ.0 ∙ sym (ne_eqb (max count before) total (λ e. absurd (omega arith)))))
  ])
]
  where
    neither : {X : Type 0} (b : Bool) (x z : X) → cond (b && false) x z ≡ z
    neither true x z = refl
    neither false x z = refl

nothing_more : (message : List ℕ) (c g : ℕ → ℕ) → ((t : ℕ) → g t ≡ 0) → eqb (c (segment_count message)) (segment_count message) ≡ eqb (max (g (segment_count message)) (c (segment_count message))) (segment_count message)
nothing_more message c g none = (let z : g (segment_count message) ≡ 0 = none (segment_count message) in let same : c (segment_count message) ≡ max (g (segment_count message)) (c (segment_count message)) = omega arith in ap (λ n. eqb n (segment_count message)) same)

call_still : (o : Option (List ℕ)) (c g : ℕ → ℕ) (finished : Bool) → ((t : ℕ) → g t ≡ 0) → kept_call o c finished ≡ kept_call o (λ t. max (g t) (c t)) finished
call_still None c g finished none = refl
call_still (Some m) c g finished none = ap (λ b. cond finished None (cond b (Some []) (Some m))) (nothing_more m c g none)

return_still : (o : Option (List ℕ)) (c g : ℕ → ℕ) → ((t : ℕ) → g t ≡ 0) → kept_return o c ≡ kept_return o (λ t. max (g t) (c t))
return_still None c g none = refl
return_still (Some m) c g none = ap (λ b. cond b None (Some m)) (nothing_more m c g none)

call_raised : (o : Option (List ℕ)) (c g : ℕ → ℕ) (finished : Bool) (count : ℕ) → IsWithin o c → ((message : List ℕ) → o ≡ Some message → count ≤ segment_count message) → ((message : List ℕ) → o ≡ Some message → g (segment_count message) ≡ count) → cond (whole_by (told_out o c) count) (blank (kept_call o c finished)) (kept_call o c finished) ≡ kept_call o (λ t. max (g t) (c t)) finished
call_raised None c g finished count within below here = refl
call_raised (Some m) c g true count within below here = either (ltb (c (segment_count m)) count && eqb (segment_count m) count) None
call_raised (Some m) c g false count within below here =
    ap (λ o. cond (ltb (c (segment_count m)) count && eqb (segment_count m) count) o (cond (eqb (c (segment_count m)) (segment_count m)) (Some []) (Some m))) (blanked (eqb (c (segment_count m)) (segment_count m)) m)
    ∙ becomes (Some []) (Some m) (segment_count m) (c (segment_count m)) count within.1 (below m refl)
    ∙ ap (λ n. cond (eqb (max n (c (segment_count m))) (segment_count m)) (Some []) (Some m)) (sym (here m refl))
  where
    blanked : (b : Bool) (m : List ℕ) → blank (cond b (Some []) (Some m)) ≡ Some []
    blanked true m = refl
    blanked false m = refl

return_raised : (o : Option (List ℕ)) (c g : ℕ → ℕ) (count : ℕ) → IsWithin o c → ((message : List ℕ) → o ≡ Some message → count ≤ segment_count message) → ((message : List ℕ) → o ≡ Some message → g (segment_count message) ≡ count) → cond (whole_by (told_out o c) count) None (kept_return o c) ≡ kept_return o (λ t. max (g t) (c t))
return_raised None c g count within below here = refl
return_raised (Some m) c g count within below here =
    becomes None (Some m) (segment_count m) (c (segment_count m)) count within.1 (below m refl)
    ∙ ap (λ n. cond (eqb (max n (c (segment_count m))) (segment_count m)) None (Some m)) (sym (here m refl))

-- messages of calls, once the segments up to a count of one are acknowledged
calls_raised : (o : ℕ → Option (List ℕ)) (c g : ℕ → ℕ → ℕ) (finished : ℕ → Bool) (messages : FinMap nat_cmp (List ℕ)) (p : Option Progress) (call count : ℕ) → ((q : ℕ) → get messages q ≡ kept_call (o q) (c q) (finished q)) → p ≡ told_out (o call) (c call) → IsWithin (o call) (c call) → ((message : List ℕ) → o call ≡ Some message → count ≤ segment_count message) → ((message : List ℕ) → o call ≡ Some message → g call (segment_count message) ≡ count) → ((q t : ℕ) → eqb q call ≡ false → g q t ≡ 0) → (q : ℕ) → get (cond (whole_by p count) (cond (is_some (get messages call)) (insert messages call []) messages) messages) q ≡ kept_call (o q) (λ t. max (g q t) (c q t)) (finished q)
calls_raised o c g finished messages p call count knows told within below here elsewhere q =
    get_cond (whole_by p count) _ messages q
    ∙ ap (λ x. cond (whole_by p count) x (get messages q)) (emptied_at messages call q)
    ∙ elim (eqb_tells q call) [
      | inl same ↦ subst (λ n. cond (whole_by p count) (cond (eqb n call) (blank (get messages call)) (get messages n)) (get messages n) ≡ kept_call (o n) (λ t. max (g n t) (c n t)) (finished n)) (sym same.1)
          (ap (λ b. cond (whole_by p count) (cond b (blank (get messages call)) (get messages call)) (get messages call)) (equal call)
          ∙ ap (λ (x : Option Progress). cond (whole_by x count) (blank (get messages call)) (get messages call)) told
          ∙ ap (λ x. cond (whole_by (told_out (o call) (c call)) count) (blank x) x) (knows call)
          ∙ call_raised (o call) (c call) (g call) (finished call) count within below here)
      | inr differ ↦
          ap (λ b. cond (whole_by p count) (cond b (blank (get messages call)) (get messages q)) (get messages q)) differ.0
          ∙ either (whole_by p count) (get messages q)
          ∙ knows q ∙ call_still (o q) (c q) (g q) (finished q) (λ t. elsewhere q t differ.0)
    ]

returns_raised : (o : ℕ → Option (List ℕ)) (c g : ℕ → ℕ → ℕ) (messages : FinMap nat_cmp (List ℕ)) (p : Option Progress) (call count : ℕ) → ((q : ℕ) → get messages q ≡ kept_return (o q) (c q)) → p ≡ told_out (o call) (c call) → IsWithin (o call) (c call) → ((message : List ℕ) → o call ≡ Some message → count ≤ segment_count message) → ((message : List ℕ) → o call ≡ Some message → g call (segment_count message) ≡ count) → ((q t : ℕ) → eqb q call ≡ false → g q t ≡ 0) → (q : ℕ) → get (cond (whole_by p count) (remove messages call) messages) q ≡ kept_return (o q) (λ t. max (g q t) (c q t))
returns_raised o c g messages p call count knows told within below here elsewhere q =
    get_cond (whole_by p count) _ messages q
    ∙ ap (λ x. cond (whole_by p count) x (get messages q)) (removed_at messages call q)
    ∙ elim (eqb_tells q call) [
      | inl same ↦ subst (λ n. cond (whole_by p count) (cond (eqb n call) None (get messages n)) (get messages n) ≡ kept_return (o n) (λ t. max (g n t) (c n t))) (sym same.1)
          (ap (λ b. cond (whole_by p count) (cond b None (get messages call)) (get messages call)) (equal call)
          ∙ ap (λ (x : Option Progress). cond (whole_by x count) None (get messages call)) told
          ∙ ap (λ x. cond (whole_by (told_out (o call) (c call)) count) None x) (knows call)
          ∙ return_raised (o call) (c call) (g call) count within below here)
      | inr differ ↦
          ap (λ b. cond (whole_by p count) (cond b None (get messages q)) (get messages q)) differ.0
          ∙ either (whole_by p count) (get messages q)
          ∙ knows q ∙ return_still (o q) (c q) (g q) (λ t. elsewhere q t differ.0)
    ]

within_more : (o : Option (List ℕ)) (c g : ℕ → ℕ) → IsWithin o c → ((message : List ℕ) → o ≡ Some message → g (segment_count message) ≤ segment_count message) → IsWithin o (λ t. max (g t) (c t))
within_more None c g within below = tt
within_more (Some m) c g within below = (let some : 0 < segment_count m = within.0 in let a : c (segment_count m) ≤ segment_count m = within.1 in let b : g (segment_count m) ≤ segment_count m = below m refl in (omega arith, omega arith))

-- ---- what a segment leaves of the messages

pub record Letters (e : Exchange) (calls returns : FinMap nat_cmp (List ℕ)) : Type 0 where
  pub calls_are : e.calls.messages ≡ calls
  pub returns_are : e.returns.messages ≡ returns

messages_cond : (b : Bool) (x y : HandedOver) → (cond b x y).messages ≡ cond b x.messages y.messages
messages_cond true x y = refl
messages_cond false x y = refl

abbrev raised_calls : Exchange → ℕ → ℕ → FinMap nat_cmp (List ℕ)
raised_calls e call count = cond (whole_by (get e.calls.progress call) count) (cond (is_some (get e.calls.messages call)) (insert e.calls.messages call []) e.calls.messages) e.calls.messages

reached_letters : (e : Exchange) (call count : ℕ) → Letters (call_reached e call count) (raised_calls e call count) e.returns.messages
unfolding call_reached acknowledge_up_to drop_bytes becomes_whole
reached_letters e call count = record { calls_are = messages_cond (whole_by (get e.calls.progress call) count) _ _; returns_are = refl }

return_reached_letters : (e : Exchange) (call count : ℕ) → Letters (return_reached e call count) e.calls.messages (cond (whole_by (get e.returns.progress call) count) (remove e.returns.messages call) e.returns.messages)
unfolding return_reached acknowledge_up_to forget_message becomes_whole
return_reached_letters e call count = record { calls_are = refl; returns_are = messages_cond (whole_by (get e.returns.progress call) count) _ _ }

ended_letters : (e : Exchange) (call : ℕ) (complete : Bool) (calls returns : FinMap nat_cmp (List ℕ)) → Letters e calls returns → Letters (end_call e call complete) (cond complete (remove calls call) calls) returns
unfolding end_call forget_message
ended_letters e call complete calls returns t = record { calls_are = messages_cond complete _ _ ∙ ap (λ (m : FinMap nat_cmp (List ℕ)). cond complete (remove m call) m) t.calls_are; returns_are = t.returns_are }

return_added_letters : (e : Exchange) (s : Piece) → Letters (return_added e s) (cond (completes e.arriving_returns s) (remove (raised_calls e s.call (total_of e s.call)) s.call) (raised_calls e s.call (total_of e s.call))) e.returns.messages
unfolding return_added
return_added_letters e s = ended_letters _ s.call _ _ _ (reached_letters (record e { arriving_returns = add_segment e.arriving_returns s }) s.call (total_of e s.call))

letters_same : (e f : Exchange) (calls returns : FinMap nat_cmp (List ℕ)) → Same e f → Letters f calls returns → Letters e calls returns
letters_same e f calls returns same t = record {
  calls_are = ap (λ (h : HandedOver). h.messages) same.calls ∙ t.calls_are;
  returns_are = ap (λ (h : HandedOver). h.messages) same.returns ∙ t.returns_are;
}

-- ---- what an end keeps

pub record Kept (first : ℕ) (acts : Acts) (ts : List Piece) (e : Exchange) : Type 0 where
  pub calls : (call : ℕ) → get e.calls.messages call ≡ kept_call (call_at first acts call) (reached_in ts 0 call) (has_arrived ts 1 call)
  pub returns : (call : ℕ) → get e.returns.messages call ≡ kept_return (return_at acts call) (reached_in ts 1 call)
  pub calls_within : (call : ℕ) → IsWithin (call_at first acts call) (reached_in ts 0 call)
  pub returns_within : (call : ℕ) → IsWithin (return_at acts call) (reached_in ts 1 call)
  pub no_call : (call : ℕ) → call_at first acts call ≡ None → total_in ts 1 call ≡ None

kept_some : (b : Bool) (o : Option (List ℕ)) (m : List ℕ) → cond b None o ≡ Some m → o ≡ Some m
kept_some true o m h = absurd cc
kept_some false o m h = h

-- what is kept of a call that isn't acknowledged whole is the message that was handed over
pub call_kept_is : (first : ℕ) (acts : Acts) (ts : List Piece) (e : Exchange) (call : ℕ) (m : List ℕ) → Kept first acts ts e → ((message : List ℕ) → 0 < segment_count message → call_at first acts call ≡ Some message → reached_in ts 0 call (segment_count message) < segment_count message) → get e.calls.messages call ≡ Some m → call_at first acts call ≡ Some m
call_kept_is first acts ts e call m kept open_ is = go (call_at first acts call) (kept.calls_within call) open_ (sym (kept.calls call) ∙ is)
  where
    go : (o : Option (List ℕ)) → IsWithin o (reached_in ts 0 call) → ((message : List ℕ) → 0 < segment_count message → o ≡ Some message → reached_in ts 0 call (segment_count message) < segment_count message) → kept_call o (reached_in ts 0 call) (has_arrived ts 1 call) ≡ Some m → o ≡ Some m
    go None within below h = absurd cc
    go (Some x) within below h =
        let lt : reached_in ts 0 call (segment_count x) < segment_count x = below x within.0 refl in
        let differ : eqb (reached_in ts 0 call (segment_count x)) (segment_count x) ≡ false = ne_eqb _ _ (λ same. absurd (omega arith)) in
        kept_some (has_arrived ts 1 call) (Some x) m (ap (λ b. cond (has_arrived ts 1 call) None (cond b (Some []) (Some x))) (sym differ) ∙ h)

-- what is kept of a return is the message that was handed over
pub return_kept_is : (first : ℕ) (acts : Acts) (ts : List Piece) (e : Exchange) (call : ℕ) (m : List ℕ) → Kept first acts ts e → get e.returns.messages call ≡ Some m → return_at acts call ≡ Some m
return_kept_is first acts ts e call m kept is = go (return_at acts call) (sym (kept.returns call) ∙ is)
  where
    go : (o : Option (List ℕ)) → kept_return o (reached_in ts 1 call) ≡ Some m → o ≡ Some m
    go None h = absurd cc
    go (Some x) h = kept_some _ (Some x) m h

-- ---- a segment is of a message that was handed over

agreed : (o : Option (List ℕ)) (total : ℕ) (message : List ℕ) → agrees_with o total ≡ true → o ≡ Some message → segment_count message ≡ total
agreed o total message h is = eqb-true (segment_count message) total (ap (λ x. agrees_with x total) (sym is) ∙ h)

pub call_total : (first : ℕ) (acts : Acts) (ts : List Piece) (e : Exchange) (s : Piece) (message : List ℕ) → Hands first acts ts e → takes e s ≡ true → is_acknowledgement s ≡ true → eqb s.kind 0 ≡ true → call_at first acts s.call ≡ Some message → segment_count message ≡ s.total
unfolding agrees
call_total first acts ts e s message hands h ack call is =
    agreed (call_at first acts s.call) s.total message
    (sym (ap (λ (o : Option Progress). has_total o s.total) (hands.calls s.call) ∙ total_agrees (call_at first acts s.call) _ s.total)
    ∙ (takes_call_acknowledged e s h ack call).1) is

return_total : (first : ℕ) (acts : Acts) (ts : List Piece) (e : Exchange) (s : Piece) (message : List ℕ) → Hands first acts ts e → takes e s ≡ true → is_acknowledgement s ≡ true → eqb s.kind 0 ≡ false → return_at acts s.call ≡ Some message → segment_count message ≡ s.total
unfolding agrees
return_total first acts ts e s message hands h ack return_ is =
    agreed (return_at acts s.call) s.total message
    (sym (ap (λ (o : Option Progress). has_total o s.total) (hands.returns s.call) ∙ total_agrees (return_at acts s.call) _ s.total)
    ∙ takes_return_acknowledged e s h ack return_) is

-- what a segment says of a message is within it
says_within : (s : Piece) (kind : ℕ) (o : ℕ → Option (List ℕ)) (count : ℕ) → ((message : List ℕ) → o s.call ≡ Some message → says s kind s.call (segment_count message) ≤ segment_count message) → (q : ℕ) (message : List ℕ) → o q ≡ Some message → says s kind q (segment_count message) ≤ segment_count message
says_within s kind o count here q message is = elim (eqb_tells q s.call) [
  | inl same ↦ subst (λ n. o n ≡ Some message → says s kind n (segment_count message) ≤ segment_count message) (sym same.1) (here message) is
  | inr differ ↦ (let none : says s kind q (segment_count message) ≡ 0 = says_elsewhere s kind q (segment_count message) differ.0 in omega arith)
]

says_nothing : (s : Piece) (kind q : ℕ) (message : List ℕ) → ((q t : ℕ) → says s kind q t ≡ 0) → says s kind q (segment_count message) ≤ segment_count message
says_nothing s kind q message none = (let z : says s kind q (segment_count message) ≡ 0 = none q (segment_count message) in omega arith)

-- ---- one act more

-- where no segment of a return came
same_finished : (s : Piece) (ts : List Piece) (o : ℕ → Option (List ℕ)) (c : ℕ → ℕ → ℕ) → ((call : ℕ) → is_of 1 call s ≡ false) → (q : ℕ) → kept_call (o q) (c q) (has_arrived ts 1 q) ≡ kept_call (o q) (c q) (has_arrived (s ∷ ts) 1 q)
same_finished s ts o c other q = ap (λ b. kept_call (o q) (c q) b) (sym (arrived_other s ts 1 q (other q)))

same_total : (s : Piece) (ts : List Piece) (o : ℕ → Option (List ℕ)) → ((call : ℕ) → is_of 1 call s ≡ false) → ((q : ℕ) → o q ≡ None → total_in ts 1 q ≡ None) → (q : ℕ) → o q ≡ None → total_in (s ∷ ts) 1 q ≡ None
same_total s ts o other none q is = total_other s ts 1 q (other q) ∙ none q is

-- once a return has arrived its call is forgotten
finished_here : (o : Option (List ℕ)) (c : ℕ → ℕ) (before after_ : Bool) → (before ≡ true → after_ ≡ true) → cond (after_ && not before) None (kept_call o c before) ≡ kept_call o c after_
finished_here None c before after_ stays = either (after_ && not before) None
finished_here (Some m) c true true stays = refl
finished_here (Some m) c true false stays = absurd (let no_ : false ≡ true = stays refl in cc)
finished_here (Some m) c false true stays = refl
finished_here (Some m) c false false stays = refl

pub not_of : (s : Piece) (q : ℕ) → eqb q s.call ≡ false → is_of 1 q s ≡ false
not_of s q other = elim (eqb_tells s.call q) [
  | inl same ↦ absurd (let no_ : false ≡ true = sym other ∙ eq-eqb q s.call (sym same.1) in cc)
  | inr differ ↦ ap (λ b. eqb s.kind 1 && (b && not (is_acknowledgement s))) differ.0 ∙ and-false (eqb s.kind 1)
]

calls_finished : (s : Piece) (ts : List Piece) (o : ℕ → Option (List ℕ)) (c : ℕ → ℕ → ℕ) (messages : FinMap nat_cmp (List ℕ)) (complete : Bool) → complete ≡ (has_arrived (s ∷ ts) 1 s.call && not (has_arrived ts 1 s.call)) → (has_arrived ts 1 s.call ≡ true → has_arrived (s ∷ ts) 1 s.call ≡ true) → ((q : ℕ) → get messages q ≡ kept_call (o q) (c q) (has_arrived ts 1 q)) → (q : ℕ) → get (cond complete (remove messages s.call) messages) q ≡ kept_call (o q) (c q) (has_arrived (s ∷ ts) 1 q)
calls_finished s ts o c messages complete is stays knows q =
    get_cond complete _ messages q
    ∙ ap (λ x. cond complete x (get messages q)) (removed_at messages s.call q)
    ∙ elim (eqb_tells q s.call) [
      | inl same ↦ subst (λ n. cond complete (cond (eqb n s.call) None (get messages n)) (get messages n) ≡ kept_call (o n) (c n) (has_arrived (s ∷ ts) 1 n)) (sym same.1)
          (ap (λ b. cond complete (cond b None (get messages s.call)) (get messages s.call)) (equal s.call)
          ∙ ap (λ b. cond b None (get messages s.call)) is
          ∙ ap (λ x. cond (has_arrived (s ∷ ts) 1 s.call && not (has_arrived ts 1 s.call)) None x) (knows s.call)
          ∙ finished_here (o s.call) (c s.call) _ _ stays)
      | inr differ ↦
          ap (λ b. cond complete (cond b None (get messages q)) (get messages q)) differ.0
          ∙ either complete (get messages q)
          ∙ knows q ∙ ap (λ b. kept_call (o q) (c q) b) (sym (arrived_other s ts 1 q (not_of s q differ.0)))
    ]

kept_call_acknowledged : (first : ℕ) (acts : Acts) (ts : List Piece) (e : Exchange) (s : Piece) → Hands first acts ts e → Stands ts e → Kept first acts ts e → IsSegment s → takes e s ≡ true → is_acknowledgement s ≡ true → eqb s.kind 0 ≡ true → Kept first (more acts (Came s)) (s ∷ ts) (after_taken e s)
unfolding call_at return_at reached_in
kept_call_acknowledged first acts ts e s hands stands kept segment h ack call =
    let t = letters_same _ _ _ _ (call_acknowledged_leaves e s ack call) (reached_letters e s.call s.number) in
    let still : (q n : ℕ) → says s 1 q n ≡ 0 = λ q n. says_other_kind s 1 q n ack (call_kind s call) in
    let here : (m : List ℕ) → call_at first acts s.call ≡ Some m → says s 0 s.call (segment_count m) ≡ s.number = λ m is. says_here s 0 (segment_count m) ack call in
    let below : (m : List ℕ) → call_at first acts s.call ≡ Some m → s.number ≤ segment_count m = λ m is. (let total : segment_count m ≡ s.total = call_total first acts ts e s m hands h ack call is in let within : s.number ≤ s.total = (may_follow ts e s stands segment h).within in omega arith) in
    record {
      calls = λ q. ap (λ (m : FinMap nat_cmp (List ℕ)). get m q) t.calls_are
          ∙ calls_raised (call_at first acts) (reached_in ts 0) (says s 0) (has_arrived ts 1) e.calls.messages (get e.calls.progress s.call) s.call s.number kept.calls (hands.calls s.call) (kept.calls_within s.call) below here (λ q n other. says_elsewhere s 0 q n other) q
          ∙ same_finished s ts (call_at first acts) (λ q t. max (says s 0 q t) (reached_in ts 0 q t)) (acknowledges s 1 ack) q;
      returns = λ q. ap (λ (m : FinMap nat_cmp (List ℕ)). get m q) t.returns_are ∙ kept.returns q ∙ return_still (return_at acts q) (reached_in ts 1 q) (says s 1 q) (still q);
      calls_within = λ q. within_more (call_at first acts q) (reached_in ts 0 q) (says s 0 q) (kept.calls_within q) (λ m is. says_within s 0 (call_at first acts) s.number (λ m is. subst (λ n. n ≤ segment_count m) (sym (here m is)) (below m is)) q m is);
      returns_within = λ q. within_more (return_at acts q) (reached_in ts 1 q) (says s 1 q) (kept.returns_within q) (λ m is. says_nothing s 1 q m still);
      no_call = same_total s ts (call_at first acts) (acknowledges s 1 ack) kept.no_call;
    }

kept_return_acknowledged : (first : ℕ) (acts : Acts) (ts : List Piece) (e : Exchange) (s : Piece) → Hands first acts ts e → Stands ts e → Kept first acts ts e → IsSegment s → takes e s ≡ true → is_acknowledgement s ≡ true → eqb s.kind 0 ≡ false → Kept first (more acts (Came s)) (s ∷ ts) (after_taken e s)
unfolding call_at return_at reached_in
kept_return_acknowledged first acts ts e s hands stands kept segment h ack return_ =
    let t = letters_same _ _ _ _ (return_acknowledged_leaves e s ack return_) (return_reached_letters e s.call s.number) in
    let still : (q n : ℕ) → says s 0 q n ≡ 0 = λ q n. says_other_kind s 0 q n ack return_ in
    let here : (m : List ℕ) → return_at acts s.call ≡ Some m → says s 1 s.call (segment_count m) ≡ s.number = λ m is. says_here s 1 (segment_count m) ack (return_kind s segment return_) in
    let below : (m : List ℕ) → return_at acts s.call ≡ Some m → s.number ≤ segment_count m = λ m is. (let total : segment_count m ≡ s.total = return_total first acts ts e s m hands h ack return_ is in let within : s.number ≤ s.total = (may_follow ts e s stands segment h).within in omega arith) in
    record {
      calls = λ q. ap (λ (m : FinMap nat_cmp (List ℕ)). get m q) t.calls_are ∙ kept.calls q
          ∙ call_still (call_at first acts q) (reached_in ts 0 q) (says s 0 q) (has_arrived ts 1 q) (still q)
          ∙ same_finished s ts (call_at first acts) (λ q t. max (says s 0 q t) (reached_in ts 0 q t)) (acknowledges s 1 ack) q;
      returns = λ q. ap (λ (m : FinMap nat_cmp (List ℕ)). get m q) t.returns_are
          ∙ returns_raised (return_at acts) (reached_in ts 1) (says s 1) e.returns.messages (get e.returns.progress s.call) s.call s.number kept.returns (hands.returns s.call) (kept.returns_within s.call) below here (λ q n other. says_elsewhere s 1 q n other) q;
      calls_within = λ q. within_more (call_at first acts q) (reached_in ts 0 q) (says s 0 q) (kept.calls_within q) (λ m is. says_nothing s 0 q m still);
      returns_within = λ q. within_more (return_at acts q) (reached_in ts 1 q) (says s 1 q) (kept.returns_within q) (λ m is. says_within s 1 (return_at acts) s.number (λ m is. subst (λ n. n ≤ segment_count m) (sym (here m is)) (below m is)) q m is);
      no_call = same_total s ts (call_at first acts) (acknowledges s 1 ack) kept.no_call;
    }

kept_call_segment : (first : ℕ) (acts : Acts) (ts : List Piece) (e : Exchange) (s : Piece) → Kept first acts ts e → is_acknowledgement s ≡ false → eqb s.kind 0 ≡ true → Kept first (more acts (Came s)) (s ∷ ts) (after_taken e s)
unfolding call_at return_at reached_in
kept_call_segment first acts ts e s kept plain call =
    let t = letters_same _ _ _ _ (call_segment_leaves e s plain call) (record { calls_are = refl; returns_are = refl }) in
    let of_calls : (q n : ℕ) → says s 0 q n ≡ 0 = λ q n. says_no_call s q n plain (call_kind s call) in
    let of_returns : (q n : ℕ) → says s 1 q n ≡ 0 = λ q n. says_no_return s q n plain in
    let other : (q : ℕ) → is_of 1 q s ≡ false = other_kind s 1 (λ one. absurd (let zero_ : s.kind ≡ 0 = eqb-true s.kind 0 call in omega arith)) in
    record {
      calls = λ q. ap (λ (m : FinMap nat_cmp (List ℕ)). get m q) t.calls_are ∙ kept.calls q
          ∙ call_still (call_at first acts q) (reached_in ts 0 q) (says s 0 q) (has_arrived ts 1 q) (of_calls q)
          ∙ same_finished s ts (call_at first acts) (λ q t. max (says s 0 q t) (reached_in ts 0 q t)) other q;
      returns = λ q. ap (λ (m : FinMap nat_cmp (List ℕ)). get m q) t.returns_are ∙ kept.returns q ∙ return_still (return_at acts q) (reached_in ts 1 q) (says s 1 q) (of_returns q);
      calls_within = λ q. within_more (call_at first acts q) (reached_in ts 0 q) (says s 0 q) (kept.calls_within q) (λ m is. says_nothing s 0 q m of_calls);
      returns_within = λ q. within_more (return_at acts q) (reached_in ts 1 q) (says s 1 q) (kept.returns_within q) (λ m is. says_nothing s 1 q m of_returns);
      no_call = same_total s ts (call_at first acts) other kept.no_call;
    }

kept_return_segment : (first : ℕ) (acts : Acts) (ts : List Piece) (e : Exchange) (s : Piece) → Hands first acts ts e → Stands ts e → Kept first acts ts e → IsSegment s → takes e s ≡ true → is_acknowledgement s ≡ false → eqb s.kind 0 ≡ false → Kept first (more acts (Came s)) (s ∷ ts) (after_taken e s)
unfolding call_at return_at reached_in
kept_return_segment first acts ts e s hands stands kept segment h plain return_ =
    let t = letters_same _ _ _ _ (return_segment_leaves e s plain return_) (return_added_letters e s) in
    let may = may_follow ts e s stands segment h in
    let one : eqb s.kind 1 ≡ true = return_kind s segment return_ in
    let kind = return_is s segment return_ in
    let of_returns : (q n : ℕ) → says s 1 q n ≡ 0 = λ q n. says_no_return s q n plain in
    let here : (m : List ℕ) → call_at first acts s.call ≡ Some m → says s 0 s.call (segment_count m) ≡ total_of e s.call = λ m is. says_whole s (segment_count m) plain one ∙ sym (total_told first acts ts e s.call m hands is) in
    let below : (m : List ℕ) → call_at first acts s.call ≡ Some m → total_of e s.call ≤ segment_count m = λ m is. (let total : total_of e s.call ≡ segment_count m = total_told first acts ts e s.call m hands is in omega arith) in
    let completed : completes e.arriving_returns s ≡ (has_arrived (s ∷ ts) 1 s.call && not (has_arrived ts 1 s.call)) = subst (λ k. completes e.arriving_returns s ≡ (has_arrived (s ∷ ts) k s.call && not (has_arrived ts k s.call))) kind (completes_is s ts e.arriving_returns (subst (λ k. Keeps k ts e.arriving_returns) (sym kind) stands.returns) may plain) in
    let stays_ : has_arrived ts 1 s.call ≡ true → has_arrived (s ∷ ts) 1 s.call ≡ true = subst (λ k. has_arrived ts k s.call ≡ true → has_arrived (s ∷ ts) k s.call ≡ true) kind (arrived_stays s ts may plain) in
    let some : call_at first acts s.call ≡ None → ⊥ = λ none. taken_return e s h plain return_ (hands.calls s.call ∙ ap (λ (x : Option (List ℕ)). told_out x (reached_in ts 0 s.call)) none) in
    record {
      calls = λ q. ap (λ (m : FinMap nat_cmp (List ℕ)). get m q) t.calls_are
          ∙ calls_finished s ts (call_at first acts) (λ q t. max (says s 0 q t) (reached_in ts 0 q t)) (raised_calls e s.call (total_of e s.call)) (completes e.arriving_returns s) completed stays_
          (calls_raised (call_at first acts) (reached_in ts 0) (says s 0) (has_arrived ts 1) e.calls.messages (get e.calls.progress s.call) s.call (total_of e s.call) kept.calls (hands.calls s.call) (kept.calls_within s.call) below here (λ q n other. says_elsewhere s 0 q n other)) q;
      returns = λ q. ap (λ (m : FinMap nat_cmp (List ℕ)). get m q) t.returns_are ∙ kept.returns q ∙ return_still (return_at acts q) (reached_in ts 1 q) (says s 1 q) (of_returns q);
      calls_within = λ q. within_more (call_at first acts q) (reached_in ts 0 q) (says s 0 q) (kept.calls_within q) (λ m is. says_within s 0 (call_at first acts) s.number (λ m is. subst (λ n. n ≤ segment_count m) (sym (here m is)) (below m is)) q m is);
      returns_within = λ q. within_more (return_at acts q) (reached_in ts 1 q) (says s 1 q) (kept.returns_within q) (λ m is. says_nothing s 1 q m of_returns);
      no_call = λ q none. elim (eqb_tells q s.call) [
        | inl same ↦ absurd (some (subst (λ n. call_at first acts n ≡ None) same.1 none))
        | inr differ ↦ total_other s ts 1 q (not_of s q differ.0) ∙ kept.no_call q none
      ];
    }

pub kept_taken : (first : ℕ) (acts : Acts) (ts : List Piece) (e : Exchange) (s : Piece) → Hands first acts ts e → Stands ts e → Kept first acts ts e → IsSegment s → takes e s ≡ true → Kept first (more acts (Came s)) (s ∷ ts) (after_taken e s)
kept_taken first acts ts e s hands stands kept segment h =
    by_segment s _
    (λ ack call. kept_call_acknowledged first acts ts e s hands stands kept segment h ack call)
    (λ ack return_. kept_return_acknowledged first acts ts e s hands stands kept segment h ack return_)
    (λ plain call. kept_call_segment first acts ts e s kept plain call)
    (λ plain return_. kept_return_segment first acts ts e s hands stands kept segment h plain return_)

kept_came : (first : ℕ) (acts : Acts) (ts : List Piece) (e : Exchange) (s : Piece) → Hands first acts ts e → Stands ts e → Kept first acts ts e → IsSegment s → Kept first (more acts (Came s)) (cond (takes e s) (s ∷ ts) ts) (after e s)
unfolding call_at return_at
kept_came first acts ts e s hands stands kept segment =
    by_taken ts e s (Kept first (more acts (Came s))) (λ h. kept_taken first acts ts e s hands stands kept segment h)
    (record { calls = kept.calls; returns = kept.returns; calls_within = kept.calls_within; returns_within = kept.returns_within; no_call = kept.no_call })

-- no return without a segment of it
pub none_arrived : (ts : List Piece) (call : ℕ) → total_in ts 1 call ≡ None → has_arrived ts 1 call ≡ false
unfolding has_arrived
none_arrived ts call none = ap (λ o. is_reached o (count_in ts 1 call)) none

pub segments_some : (message : List ℕ) → 0 < length message → 0 < segment_count message
segments_some message some = omega arith

call_put : (b : Bool) (o : Option (List ℕ)) (c : ℕ → ℕ) (finished : Bool) (message : List ℕ) → 0 < segment_count message → (b ≡ true → (c (segment_count message) ≡ 0) × (finished ≡ false)) → cond b (Some message) (kept_call o c finished) ≡ kept_call (cond b (Some message) o) c finished
call_put false o c finished message some new = refl
call_put true o c finished message some new = (let n = new refl in let z : c (segment_count message) ≡ 0 = n.0 in
    sym (ap (λ b. cond b None (cond (eqb (c (segment_count message)) (segment_count message)) (Some []) (Some message))) n.1
    ∙ ap (λ b. cond b (Some []) (Some message)) (ne_eqb (c (segment_count message)) (segment_count message) (λ e. absurd (omega arith)))))

return_put : (b : Bool) (o : Option (List ℕ)) (c : ℕ → ℕ) (message : List ℕ) → 0 < segment_count message → (b ≡ true → c (segment_count message) ≡ 0) → cond b (Some message) (kept_return o c) ≡ kept_return (cond b (Some message) o) c
return_put false o c message some new = refl
return_put true o c message some new = (let z : c (segment_count message) ≡ 0 = new refl in
    sym (ap (λ b. cond b None (Some message)) (ne_eqb (c (segment_count message)) (segment_count message) (λ e. absurd (omega arith)))))

within_put : (b : Bool) (o : Option (List ℕ)) (c : ℕ → ℕ) (message : List ℕ) → 0 < segment_count message → (b ≡ true → c (segment_count message) ≡ 0) → IsWithin o c → IsWithin (cond b (Some message) o) c
within_put false o c message some new within = within
within_put true o c message some new within = (let z : c (segment_count message) ≡ 0 = new refl in (some, omega arith))

kept_called : (first : ℕ) (acts : Acts) (ts : List Piece) (e : Exchange) (message : List ℕ) → Hands first acts ts e → Kept first acts ts e → 0 < length message → Kept first (more acts (Call message)) ts (send_call e message)
unfolding call_at return_at send_call hand_over
kept_called first acts ts e message hands kept full =
    let some : 0 < segment_count message = segments_some message full in
    let free : (q : ℕ) → eqb q (first + calls_made acts) ≡ true → call_at first acts q ≡ None = λ q same. hands.later q (let at : q ≡ first + calls_made acts = eqb-true q (first + calls_made acts) same in let n : e.next ≡ first + calls_made acts = hands.next in omega arith) in
    record {
      calls = λ q.
          get-insert nat_cmp_total e.calls.messages e.next message q
          ∙ ap (λ b. cond b (Some message) (get e.calls.messages q)) (nat_ties q e.next ∙ ap (λ n. eqb q n) hands.next)
          ∙ ap (λ x. cond (eqb q (first + calls_made acts)) (Some message) x) (kept.calls q)
          ∙ call_put (eqb q (first + calls_made acts)) (call_at first acts q) (reached_in ts 0 q) (has_arrived ts 1 q) message some (λ same. (hands.no_call q (segment_count message) (free q same), none_arrived ts q (kept.no_call q (free q same))));
      returns = kept.returns;
      calls_within = λ q. within_put (eqb q (first + calls_made acts)) (call_at first acts q) (reached_in ts 0 q) message some (λ same. hands.no_call q (segment_count message) (free q same)) (kept.calls_within q);
      returns_within = kept.returns_within;
      no_call = λ q none. kept.no_call q (not_some (eqb q (first + calls_made acts)) message (call_at first acts q) none);
    }

kept_returned : (first : ℕ) (acts : Acts) (ts : List Piece) (e : Exchange) (call : ℕ) (message : List ℕ) → Hands first acts ts e → Kept first acts ts e → 0 < length message → return_at acts call ≡ None → Kept first (more acts (Return call message)) ts (send_return e call message)
unfolding call_at return_at send_return hand_over
kept_returned first acts ts e call message hands kept full once =
    let some : 0 < segment_count message = segments_some message full in
    let free : (q : ℕ) → eqb q call ≡ true → reached_in ts 1 q (segment_count message) ≡ 0 = λ q same. hands.no_return q (segment_count message) (subst (λ n. return_at acts n ≡ None) (sym (eqb-true q call same)) once) in
    record {
      calls = kept.calls;
      returns = λ q.
          get-insert nat_cmp_total e.returns.messages call message q
          ∙ ap (λ b. cond b (Some message) (get e.returns.messages q)) (nat_ties q call)
          ∙ ap (λ x. cond (eqb q call) (Some message) x) (kept.returns q)
          ∙ return_put (eqb q call) (return_at acts q) (reached_in ts 1 q) message some (free q);
      calls_within = kept.calls_within;
      returns_within = λ q. within_put (eqb q call) (return_at acts q) (reached_in ts 1 q) message some (free q) (kept.returns_within q);
      no_call = kept.no_call;
    }

kept_ticked : (first : ℕ) (acts : Acts) (ts : List Piece) (e : Exchange) → Kept first acts ts e → Kept first (more acts Tick) ts (count_tick e)
unfolding call_at return_at count_tick
kept_ticked first acts ts e kept = record { calls = kept.calls; returns = kept.returns; calls_within = kept.calls_within; returns_within = kept.returns_within; no_call = kept.no_call }

kept_stopped : (first : ℕ) (acts : Acts) (ts : List Piece) (e : Exchange) → Kept first acts ts e → Kept first (more acts Stop) ts (happens e Stop)
unfolding call_at return_at
kept_stopped first acts ts e kept = record { calls = kept.calls; returns = kept.returns; calls_within = kept.calls_within; returns_within = kept.returns_within; no_call = kept.no_call }

kept_start : (first format : ℕ) → Kept first none_yet [] (start first format)
unfolding call_at return_at total_in
kept_start first format = record {
  calls = λ q. get-empty nat_cmp q;
  returns = λ q. get-empty nat_cmp q;
  calls_within = λ q. tt;
  returns_within = λ q. tt;
  no_call = λ q none. refl;
}

-- after every lawful list of acts
pub kept_after : (first format : ℕ) (acts : Acts) → AreLawful first format acts → Kept first acts (taken_by (start first format) acts) (end_after (start first format) acts)
kept_after first format none_yet lawful = kept_start first format
kept_after first format (more acts (Call message)) lawful = kept_called first acts _ _ message (hands_lawful first format acts lawful.0) (kept_after first format acts lawful.0) lawful.1.0.0
kept_after first format (more acts (Return call message)) lawful = kept_returned first acts _ _ call message (hands_lawful first format acts lawful.0) (kept_after first format acts lawful.0) lawful.1.0.0 lawful.1.2
kept_after first format (more acts (Came s)) lawful = kept_came first acts _ _ s (hands_lawful first format acts lawful.0) (stands_lawful first format acts lawful.0) (kept_after first format acts lawful.0) lawful.1
kept_after first format (more acts Tick) lawful = kept_ticked first acts _ _ (kept_after first format acts lawful.0)
kept_after first format (more acts Stop) lawful = kept_stopped first acts _ _ (kept_after first format acts lawful.0)
