-- Each act sends what an end may say.
use Rattle.std.proofs.Common.{◌≡◌, ℕ, ◌+◌, ◌^◌, ◌<◌, ◌≤◌, ◌⊎◌, Bool, true, false, cond, eqb, ltb, List, [], ◌∷◌, Option, None, Some, refl, sym, ap, subst, ◌∙◌, arith}
use Rattle.std.specs.FinMap.{get, entries}
use Rattle.std.proofs.lemmas.Bool.{eqb-true, ltb-true, eq-eqb}
use Rattle.circus_exchange.specs.declared.progress.Progress.{Progress}
use Rattle.circus_exchange.specs.declared.exchange.Exchange.{Exchange}
use Rattle.circus_segment.specs.Segment.{Piece, IsSegment, is_acknowledgement, spelling, most_segments}
use Rattle.circus_segment.specs.Cut.{segment_count, segment_of}
use Rattle.circus_exchange.specs.Outbox.{on_its_way, outgoing_at, whole_of, probe, reminder_of, reminder, reminders}
use Rattle.circus_exchange.specs.Exchange.{IsSendable, takes, lets_go, in_flight_after, total_of, datagrams_let_go, sends_at_once, datagrams_of_call, datagrams_of_return, datagrams_of_taken, datagrams_after, datagrams_of_tick}
use Rattle.circus_pair.specs.Taken.{has_arrived, MayFollow}
use Rattle.circus_pair.specs.Acts.{Act, Call, Return, Came, Tick, Stop, Acts, more, with_taken, count_by, acknowledged_by}
use Rattle.circus_pair.specs.Handed.{calls_made, call_at, return_at, reached_in}
use Rattle.circus_pair.specs.Lawful.{is_stopped_after}
use Rattle.circus_pair.specs.TwoEnds.{datagrams_by}
use Rattle.circus_pair.proofs.Arrivals.{total_here}
use Rattle.circus_pair.proofs.Standing.{Stands, may_follow, call_acknowledged, return_acknowledged}
use Rattle.circus_pair.proofs.Handing.{Hands, told_out}
use Rattle.circus_pair.proofs.Growing.{Grows, IsFirst, grows_act, arrived_grows, count_le}
use Rattle.circus_pair.proofs.Keeping.{Kept, call_kept_is, return_kept_is}
use Rattle.circus_pair.proofs.Each.{Each, each_append, each_map, each_cond, each_flat, each_entry}
use Rattle.circus_pair.proofs.Sayings.{Tells, MaySay, says_part, says_probe, says_whole, tells_later, most_bound, good_number}
use Rattle.circus_pair.proofs.Taking.{return_is, takes_format}

-- each message that was handed over can be sent
pub record Fine (first format : ℕ) (acts : Acts) (ts : List Piece) : Type 0 where
  pub calls : (q : ℕ) (m : List ℕ) → call_at first acts q ≡ Some m → IsSendable format m × (q < 2 ^ 32)
  pub returns : (q : ℕ) (m : List ℕ) → return_at acts q ≡ Some m → IsSendable format m × (q < 2 ^ 32) × (has_arrived ts 0 q ≡ true)

-- an end that keeps to the rules
pub record Keeping (first format : ℕ) (acts : Acts) (ts : List Piece) (e : Exchange) : Type 0 where
  pub known : (format ≡ 1) ⊎ (format ≡ 2)
  pub format_is : e.format ≡ format
  pub hands : Hands first acts ts e
  pub stands : Stands ts e
  pub kept : Kept first acts ts e
  pub unsaid : (call total : ℕ) → e.sent ≤ call → reached_in ts 0 call total ≡ 0
  pub fine : Fine first format acts ts

-- an act may come
abbrev pub MayDo : ℕ → ℕ → Acts → List Piece → Act → Type 0
MayDo first format acts ts (Call message) = IsSendable format message × (first + calls_made acts < 4294967295) × (is_stopped_after acts ≡ false)
MayDo first format acts ts (Return call message) = IsSendable format message × (call < 2 ^ 32) × (has_arrived ts 0 call ≡ true) × (return_at acts call ≡ None)
MayDo first format acts ts (Came s) = IsSegment s
MayDo first format acts ts Tick = is_stopped_after acts ≡ false
MayDo first format acts ts Stop = Unit {0}

pub is_first : (first format : ℕ) (acts : Acts) (ts : List Piece) (act : Act) → MayDo first format acts ts act → IsFirst acts act
is_first first format acts ts (Return call message) may = may.3
is_first first format acts ts act may = tt

-- ---- the messages that were handed over

call_cases : (format : ℕ) (b : Bool) (message m : List ℕ) (o : Option (List ℕ)) (q : ℕ) → IsSendable format message → (b ≡ true → q < 2 ^ 32) → (o ≡ Some m → IsSendable format m × (q < 2 ^ 32)) → cond b (Some message) o ≡ Some m → IsSendable format m × (q < 2 ^ 32)
call_cases format true message m o q sendable low rest h = (let same : message ≡ m = cc in (subst (λ x. IsSendable format x) same sendable, low refl))
call_cases format false message m o q sendable low rest h = rest h

return_cases : (format : ℕ) (ts : List Piece) (b : Bool) (message m : List ℕ) (o : Option (List ℕ)) (q : ℕ) → IsSendable format message → (b ≡ true → (q < 2 ^ 32) × (has_arrived ts 0 q ≡ true)) → (o ≡ Some m → IsSendable format m × (q < 2 ^ 32) × (has_arrived ts 0 q ≡ true)) → cond b (Some message) o ≡ Some m → IsSendable format m × (q < 2 ^ 32) × (has_arrived ts 0 q ≡ true)
return_cases format ts true message m o q sendable low rest h = (let same : message ≡ m = cc in (subst (λ x. IsSendable format x) same sendable, (low refl).0, (low refl).1))
return_cases format ts false message m o q sendable low rest h = rest h

later_returns : (first format : ℕ) (acts more_acts : Acts) (ts more_ts : List Piece) → Grows first acts more_acts ts more_ts → Fine first format acts ts → (q : ℕ) (m : List ℕ) → return_at acts q ≡ Some m → IsSendable format m × (q < 2 ^ 32) × (has_arrived more_ts 0 q ≡ true)
later_returns first format acts more_acts ts more_ts grows fine q m h = (let old = fine.returns q m h in (old.0, old.1, arrived_grows first acts more_acts ts more_ts grows 0 q old.2))

pub fine_act : (first format : ℕ) (acts : Acts) (ts : List Piece) (e : Exchange) (act : Act) → Hands first acts ts e → Fine first format acts ts → MayDo first format acts ts act → Fine first format (more acts act) (with_taken e act ts)
unfolding call_at return_at
fine_act first format acts ts e (Call message) hands fine may = record {
  calls = λ q m h. call_cases format (eqb q (first + calls_made acts)) message m (call_at first acts q) q may.0 (λ same. (let at : q ≡ first + calls_made acts = eqb-true q (first + calls_made acts) same in let low : first + calls_made acts < 4294967295 = may.1 in omega arith)) (fine.calls q m) h;
  returns = fine.returns;
}
fine_act first format acts ts e (Return call message) hands fine may = record {
  calls = fine.calls;
  returns = λ q m h. return_cases format ts (eqb q call) message m (return_at acts q) q may.0 (λ same. (let at : call ≡ q = sym (eqb-true q call same) in (subst (λ n. n < 2 ^ 32) at may.1, subst (λ n. has_arrived ts 0 n ≡ true) at may.2))) (fine.returns q m) h;
}
fine_act first format acts ts e (Came s) hands fine may = record {
  calls = fine.calls;
  returns = later_returns first format acts (more acts (Came s)) ts _ (grows_act first acts ts e (Came s) hands tt) fine;
}
fine_act first format acts ts e act hands fine may = record { calls = fine.calls; returns = fine.returns }

may_call : (first format : ℕ) (acts : Acts) (ts : List Piece) (q : ℕ) (m : List ℕ) → (format ≡ 1) ⊎ (format ≡ 2) → Fine first format acts ts → call_at first acts q ≡ Some m → MaySay first format acts ts 0 q m
may_call first format acts ts q m known fine h = (let old = fine.calls q m h in record { known = known; kind_is = omega arith; numbered = old.1; sendable = old.0; handed = h; answered = λ e. absurd cc })

may_return : (first format : ℕ) (acts : Acts) (ts : List Piece) (q : ℕ) (m : List ℕ) → (format ≡ 1) ⊎ (format ≡ 2) → Fine first format acts ts → return_at acts q ≡ Some m → MaySay first format acts ts 1 q m
may_return first format acts ts q m known fine h = (let old = fine.returns q m h in record { known = known; kind_is = omega arith; numbered = old.1; sendable = old.0; handed = h; answered = λ e. old.2 })

-- ---- calls that the window lets go

told_total : (o : Option (List ℕ)) (c : ℕ → ℕ) (m : List ℕ) (p : Progress) → o ≡ Some m → told_out o c ≡ Some p → p.total ≡ segment_count m
told_total None c m p h is = absurd cc
told_total (Some x) c m p h is =
    let same : x ≡ m = cc in
    let here : record { total = segment_count x; count = c (segment_count x) } ≡ p = cc in
    ap (λ (y : Progress). y.total) (sym here) ∙ ap segment_count same

-- where segments are open, the count is below the total
below_total : (o : Option (List ℕ)) (c : ℕ → ℕ) (p : Progress) (m : List ℕ) → told_out o c ≡ Some p → o ≡ Some m → p.count < p.total → c (segment_count m) < segment_count m
below_total None c p m is h less = absurd cc
below_total (Some x) c p m is h less =
    let same : x ≡ m = cc in
    let here : record { total = segment_count x; count = c (segment_count x) } ≡ p = cc in
    let total : segment_count x ≡ p.total = ap (λ (y : Progress). y.total) here in
    let count : c (segment_count x) ≡ p.count = ap (λ (y : Progress). y.count) here in
    subst (λ y. c (segment_count y) < segment_count y) same (omega arith)

told_some : (o : Option (List ℕ)) (c : ℕ → ℕ) (p : Progress) → told_out o c ≡ Some p → (m : List ℕ) × (o ≡ Some m)
told_some None c p is = absurd cc
told_some (Some m) c p is = (m, refl)

call_total : (first : ℕ) (acts : Acts) (ts : List Piece) (e : Exchange) (q : ℕ) (m : List ℕ) (p : Progress) → Hands first acts ts e → call_at first acts q ≡ Some m → get e.calls.progress q ≡ Some p → p.total ≡ segment_count m
call_total first acts ts e q m p hands h is = told_total (call_at first acts q) (reached_in ts 0 q) m p h (sym (hands.calls q) ∙ is)

return_total : (first : ℕ) (acts : Acts) (ts : List Piece) (e : Exchange) (q : ℕ) (m : List ℕ) (p : Progress) → Hands first acts ts e → return_at acts q ≡ Some m → get e.returns.progress q ≡ Some p → p.total ≡ segment_count m
return_total first acts ts e q m p hands h is = told_total (return_at acts q) (reached_in ts 1 q) m p h (sym (hands.returns q) ∙ is)

says_out : (first format : ℕ) (acts : Acts) (ts : List Piece) (f kind call : ℕ) (o : Option Progress) (x : Option (List ℕ)) → f ≡ format → ((p : Progress) (m : List ℕ) → o ≡ Some p → x ≡ Some m → (p.total ≡ segment_count m) × MaySay first format acts ts kind call m) → Each (Tells first format acts ts) (whole_of (on_its_way f kind call o x))
says_out first format acts ts f kind call None x same h = tt
says_out first format acts ts f kind call (Some p) None same h = tt
says_out first format acts ts f kind call (Some p) (Some m) same h = (let may = h p m refl refl in says_whole first format acts ts kind call m f p.total same may.0 may.1)

says_let_go : (first format : ℕ) (acts : Acts) (ts : List Piece) (e : Exchange) (in_flight : ℕ) → Keeping first format acts ts e → Each (Tells first format acts ts) (datagrams_let_go e in_flight)
unfolding datagrams_let_go outgoing_at
says_let_go first format acts ts e in_flight k = each_cond (Tells first format acts ts) (lets_go e in_flight) _ _
    (λ yes_. says_out first format acts ts e.format 0 e.sent (get e.calls.progress e.sent) (get e.calls.messages e.sent) k.format_is (λ p m is kept.
    let handed : call_at first acts e.sent ≡ Some m = call_kept_is first acts ts e e.sent m k.kept (λ x full some. (let none : reached_in ts 0 e.sent (segment_count x) ≡ 0 = k.unsaid e.sent (segment_count x) (omega arith) in omega arith)) kept in
    (call_total first acts ts e e.sent m p k.hands handed is, may_call first format acts ts e.sent m k.known k.fine handed)))
    (λ no_. tt)

-- ---- acknowledgements

says_acknowledged : (first format : ℕ) (acts : Acts) (ts : List Piece) (is_down : Bool) (s : Piece) → s.format ≡ format → IsSegment s → MayFollow ts s → is_acknowledgement s ≡ false → Each (Tells first format acts (s ∷ ts)) (acknowledged_by is_down ts s)
says_acknowledged first format acts ts is_down s same segment may plain =
    let p : Piece = record { format = s.format; kind = s.kind; control = 1; total = s.total; number = count_by ts s; call = s.call; part = [] } in
    each_cond (Tells first format acts (s ∷ ts)) _ (spelling p ∷ []) []
    (λ yes_. (
      record {
        said = p;
        bytes_are = refl;
        is = record {
          segment = record {
            format = segment.format;
            kind = segment.kind;
            control = omega arith;
            total = segment.total;
            numbered = good_number s.total (count_by ts s) false may.some (let a : s.total ≤ most_segments s.format = segment.total in let b : most_segments s.format ≤ 1025 = most_bound s.format in omega arith) (count_le (s ∷ ts) s.kind s.call s.total) (λ h. absurd cc);
            call = segment.call;
            at_most = omega arith;
            part = refl;
          };
          format_is = same;
          acknowledges = λ ack. (total_here s ts may plain, omega arith);
          speaks = λ h. absurd cc;
          answers = λ h. absurd cc;
        };
      },
      tt,
    ))
    (λ no_. tt)

-- ---- what was taken

says_taken : (first format : ℕ) (acts : Acts) (ts : List Piece) (e : Exchange) (s : Piece) → Keeping first format acts ts e → IsSegment s → takes e s ≡ true → Grows first acts (more acts (Came s)) ts (s ∷ ts) → Each (Tells first format (more acts (Came s)) (s ∷ ts)) (datagrams_of_taken e s)
unfolding datagrams_of_taken
says_taken first format acts ts e s k segment h grows =
    let let_go : (n : ℕ) → Each (Tells first format (more acts (Came s)) (s ∷ ts)) (datagrams_let_go e n) = λ n. each_map _ _ (datagrams_let_go e n) (λ bytes. tells_later first format acts (more acts (Came s)) ts (s ∷ ts) bytes grows) (says_let_go first format acts ts e n k) in
    let may = may_follow ts e s k.stands segment h in
    let same : s.format ≡ format = takes_format e s h ∙ k.format_is in
    each_cond _ (is_acknowledgement s) _ _
    (λ ack. each_cond _ (eqb s.kind 0) _ _ (λ call. let_go (in_flight_after e s.call s.number)) (λ return_. tt))
    (λ plain. each_cond _ (eqb s.kind 0) _ _
    (λ call. subst (Each (Tells first format (more acts (Came s)) (s ∷ ts))) (sym (call_acknowledged ts e s k.stands segment h plain (eqb-true s.kind 0 call))) (says_acknowledged first format (more acts (Came s)) ts e.stopped s same segment may plain))
    (λ return_. each_append _ _ _
    (subst (Each (Tells first format (more acts (Came s)) (s ∷ ts))) (sym (return_acknowledged ts e s k.stands segment h plain (return_is s segment return_))) (says_acknowledged first format (more acts (Came s)) ts e.stopped s same segment may plain))
    (let_go (in_flight_after e s.call (total_of e s.call)))))

says_after : (first format : ℕ) (acts : Acts) (ts : List Piece) (e : Exchange) (s : Piece) → Keeping first format acts ts e → IsSegment s → Grows first acts (more acts (Came s)) ts (cond (takes e s) (s ∷ ts) ts) → Each (Tells first format (more acts (Came s)) (cond (takes e s) (s ∷ ts) ts)) (datagrams_after e s)
says_after first format acts ts e s k segment grows =
    elim (takes e s) as (λ b. takes e s ≡ b → Grows first acts (more acts (Came s)) ts (cond b (s ∷ ts) ts) → Each (Tells first format (more acts (Came s)) (cond b (s ∷ ts) ts)) (cond b (datagrams_of_taken e s) [])) [
      | true ↦ λ h g. says_taken first format acts ts e s k segment h g
      | false ↦ λ h g. tt
    ] refl grows

-- ---- a tick

says_again : (first format : ℕ) (acts : Acts) (ts : List Piece) (f kind call total : ℕ) (m : List ℕ) (n : ℕ) → f ≡ format → total ≡ segment_count m → MaySay first format acts ts kind call m → 0 < n → n ≤ total → Tells first format acts ts (spelling (segment_of (record { format = f; kind = kind; call = call; total = total; message = m }) 2 n))
says_again first format acts ts f kind call total m n same count may one le =
    subst (λ x. Tells first format acts ts (spelling (segment_of (record { format = x; kind = kind; call = call; total = total; message = m }) 2 n))) (sym same)
    (subst (λ x. Tells first format acts ts (spelling (segment_of (record { format = format; kind = kind; call = call; total = x; message = m }) 2 n))) (sym count)
    (record { said = segment_of (record { format = format; kind = kind; call = call; total = segment_count m; message = m }) 2 n; bytes_are = refl; is = says_part first format acts ts kind call m 2 n may refl (omega arith) one (omega arith) }))

says_asking : (first format : ℕ) (acts : Acts) (ts : List Piece) (f kind call total : ℕ) (m : List ℕ) → f ≡ format → kind ≡ 0 → total ≡ segment_count m → MaySay first format acts ts 0 call m → Tells first format acts ts (spelling (probe f kind total call))
says_asking first format acts ts f kind call total m same zero_ count may =
    subst (λ x. Tells first format acts ts (spelling (probe x kind total call))) (sym same)
    (subst (λ x. Tells first format acts ts (spelling (probe format x total call))) (sym zero_)
    (subst (λ x. Tells first format acts ts (spelling (probe format 0 x call))) (sym count)
    (record { said = probe format 0 (segment_count m) call; bytes_are = refl; is = says_probe first format acts ts call m may })))

-- the call of a probe
record Asked (first format : ℕ) (acts : Acts) (ts : List Piece) (call total : ℕ) : Type 0 where
  pub message : List ℕ
  pub count : total ≡ segment_count message
  pub may : MaySay first format acts ts 0 call message

says_reminder_of : (first format : ℕ) (acts : Acts) (ts : List Piece) (f kind call : ℕ) (m : List ℕ) (o : Option Progress) → f ≡ format → ((p : Progress) → o ≡ Some p → p.count < p.total → (p.total ≡ segment_count m) × MaySay first format acts ts kind call m) → ((p : Progress) → o ≡ Some p → kind ≡ 0 → Asked first format acts ts call p.total) → Each (Tells first format acts ts) (reminder_of f kind call m o)
says_reminder_of first format acts ts f kind call m None same again ask = tt
says_reminder_of first format acts ts f kind call m (Some p) same again ask = each_cond _ (ltb p.count p.total) _ _
    (λ less. (let lt : p.count < p.total = ltb-true p.count p.total less in let may = again p refl lt in (says_again first format acts ts f kind call p.total m (p.count + 1) same may.0 may.1 (omega arith) (omega arith), tt)))
    (λ whole_. each_cond _ (eqb kind 0) _ _
    (λ call_. (let asked = ask p refl (eqb-true kind 0 call_) in (says_asking first format acts ts f kind call p.total asked.message same (eqb-true kind 0 call_) asked.count asked.may, tt)))
    (λ return_. tt))

says_call_again : (first format : ℕ) (acts : Acts) (ts : List Piece) (e : Exchange) (limit : ℕ) (entry : ℕ × List ℕ) → Keeping first format acts ts e → get e.calls.messages entry.0 ≡ Some entry.1 → Each (Tells first format acts ts) (reminder e.calls e.format 0 limit entry)
unfolding reminder
says_call_again first format acts ts e limit entry k kept = each_cond _ (ltb entry.0 limit) _ _
    (λ below. says_reminder_of first format acts ts e.format 0 entry.0 entry.1 (get e.calls.progress entry.0) k.format_is
    (λ p is lt.
    let handed : call_at first acts entry.0 ≡ Some entry.1 = call_kept_is first acts ts e entry.0 entry.1 k.kept (λ x full some. below_total (call_at first acts entry.0) (reached_in ts 0 entry.0) p x (sym (k.hands.calls entry.0) ∙ is) some lt) kept in
    (call_total first acts ts e entry.0 entry.1 p k.hands handed is, may_call first format acts ts entry.0 entry.1 k.known k.fine handed))
    (λ p is zero_.
    let some = told_some (call_at first acts entry.0) (reached_in ts 0 entry.0) p (sym (k.hands.calls entry.0) ∙ is) in
    record { message = some.0; count = call_total first acts ts e entry.0 some.0 p k.hands some.1 is; may = may_call first format acts ts entry.0 some.0 k.known k.fine some.1 }))
    (λ past. tt)

says_return_again : (first format : ℕ) (acts : Acts) (ts : List Piece) (e : Exchange) (limit : ℕ) (entry : ℕ × List ℕ) → Keeping first format acts ts e → get e.returns.messages entry.0 ≡ Some entry.1 → Each (Tells first format acts ts) (reminder e.returns e.format 1 limit entry)
unfolding reminder
says_return_again first format acts ts e limit entry k kept = each_cond _ (ltb entry.0 limit) _ _
    (λ below. says_reminder_of first format acts ts e.format 1 entry.0 entry.1 (get e.returns.progress entry.0) k.format_is
    (λ p is lt.
    let handed : return_at acts entry.0 ≡ Some entry.1 = return_kept_is first acts ts e entry.0 entry.1 k.kept kept in
    (return_total first acts ts e entry.0 entry.1 p k.hands handed is, may_return first format acts ts entry.0 entry.1 k.known k.fine handed))
    (λ p is zero_. absurd cc))
    (λ past. tt)

says_tick : (first format : ℕ) (acts : Acts) (ts : List Piece) (e : Exchange) → Keeping first format acts ts e → Each (Tells first format acts ts) (datagrams_of_tick e)
unfolding datagrams_of_tick reminders
says_tick first format acts ts e k = each_append _ _ _
    (each_flat _ _ (entries e.calls.messages) (each_map _ _ (entries e.calls.messages) (λ entry kept. says_call_again first format acts ts e e.sent entry k kept) (each_entry e.calls.messages)))
    (each_flat _ _ (entries e.returns.messages) (each_map _ _ (entries e.returns.messages) (λ entry kept. says_return_again first format acts ts e (2 ^ 32) entry k kept) (each_entry e.returns.messages)))

-- ---- an act

call_here : (first : ℕ) (acts : Acts) (message : List ℕ) (n : ℕ) → n ≡ first + calls_made acts → call_at first (more acts (Call message)) n ≡ Some message
unfolding call_at
call_here first acts message n same = ap (λ b. cond b (Some message) (call_at first acts n)) (eq-eqb n (first + calls_made acts) same)

return_here : (acts : Acts) (call : ℕ) (message : List ℕ) → return_at (more acts (Return call message)) call ≡ Some message
unfolding return_at
return_here acts call message = ap (λ b. cond b (Some message) (return_at acts call)) (eq-eqb call call refl)

-- each act sends what an end may say after it
pub says_act : (first format : ℕ) (acts : Acts) (ts : List Piece) (e : Exchange) (act : Act) → Keeping first format acts ts e → MayDo first format acts ts act → Each (Tells first format (more acts act) (with_taken e act ts)) (datagrams_by e act)
unfolding datagrams_of_call datagrams_of_return
says_act first format acts ts e (Call message) k may = each_cond _ (sends_at_once e) _ _
    (λ yes_. says_whole first format (more acts (Call message)) ts 0 e.next message e.format (segment_count message) k.format_is refl
    (may_call first format (more acts (Call message)) ts e.next message k.known (fine_act first format acts ts e (Call message) k.hands k.fine may) (call_here first acts message e.next k.hands.next)))
    (λ no_. tt)
says_act first format acts ts e (Return call message) k may =
    says_whole first format (more acts (Return call message)) ts 1 call message e.format (segment_count message) k.format_is refl
    (may_return first format (more acts (Return call message)) ts call message k.known (fine_act first format acts ts e (Return call message) k.hands k.fine may) (return_here acts call message))
says_act first format acts ts e (Came s) k may = says_after first format acts ts e s k may (grows_act first acts ts e (Came s) k.hands tt)
says_act first format acts ts e Tick k may = each_map _ _ (datagrams_of_tick e) (λ bytes. tells_later first format acts (more acts Tick) ts ts bytes (grows_act first acts ts e Tick k.hands tt)) (says_tick first format acts ts e k)
says_act first format acts ts e Stop k may = tt
