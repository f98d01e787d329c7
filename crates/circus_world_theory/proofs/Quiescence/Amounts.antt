-- How many datagrams with data an end has sent: as many as its messages have segments, at most.
use Rattle.std.proofs.Common.{◌≡◌, ℕ, zero, suc, ◌+◌, ◌<◌, ◌≤◌, inl, inr, Bool, true, false, not, ◌&&◌, List, [], ◌∷◌, ◌++◌, length, Option, None, Some, refl, ap, ◌∙◌, arith, length-append, eq-eqb}
use Rattle.std.specs.Prelude.{slice_index, ◌==◌, if◌then◌else◌}
use Rattle.std.specs.Option.{option_map_or}
use Rattle.std.proofs.lemmas.Bool.Decides.{eqb_tells}
use Rattle.circus_segment.specs.Segment.{Piece, spelling, header, is_acknowledgement}
use Rattle.circus_segment.specs.Cut.{Outgoing, segment_count, segment_of, first_datagrams}
use Rattle.circus_exchange.specs.Exchange.{start, message_out}
use Rattle.circus_pair.specs.Acts.{Act, Call, Return, Came, Tick, Stop, Acts, none_yet, more, end_after, taken_by, acknowledged_by}
use Rattle.circus_pair.specs.Handed.{calls_made, call_at, return_at}
use Rattle.circus_pair.specs.Lawful.{is_stopped_after, AreLawful}
use Rattle.circus_pair.specs.Sending.{is_sent, takes_after, in_order, whole_call, let_go_by, outputs}
use Rattle.circus_pair.specs.TwoEnds.{sent_by, datagrams_by}
use Rattle.circus_pair.proofs.OneEnd.{call_stays, return_stays, sent_stays, sent_once}
use Rattle.circus_pair.proofs.Outputs.{call_sends, return_sends, came_sends}
use Rattle.circus_world_theory.specs.Coming.{IsUndisturbed}
use Rattle.circus_world_theory.specs.Enough.{total}
use Rattle.circus_world_theory.proofs.Quiescence.Sending.{sent_some, some_is}
use Rattle.circus_world_theory.proofs.Quiescence.Sums.{one, weigh, weigh-append, total_le, total_plus, total_longer, total_raise}

-- ---- datagrams with data

-- a datagram is no acknowledgement
abbrev pub is_data : List ℕ → Bool
is_data bytes = not (slice_index bytes 1 == 1)

-- how many of these are none
abbrev pub datas : List (List ℕ) → ℕ
datas sent = weigh (λ bytes. one (is_data bytes)) sent

pub datas-append : (xs ys : List (List ℕ)) → datas (xs ++ ys) ≡ datas xs + datas ys
datas-append = weigh-append (λ bytes. one (is_data bytes))

second : (b : Bool) (k y c : ℕ) (xs ys ps : List ℕ) → slice_index ((if b then k ∷ c ∷ xs else y ∷ c ∷ ys) ++ ps) 1 ≡ c
second true k y c xs ys ps = refl
second false k y c xs ys ps = refl

pub control_said : (s : Piece) → slice_index (spelling s) 1 ≡ s.control
unfolding spelling header
control_said s = second (s.format == 1) s.kind (if s.kind == 0 then 2 else 3) s.control _ _ s.part

data_said : (s : Piece) → is_data (spelling s) ≡ not (is_acknowledgement s)
data_said s = ap (λ c. not (c == 1)) (control_said s)

-- each datagram of a message that is sent whole is one
pub first_long : (m : Outgoing) (n : ℕ) → length (first_datagrams m n) ≡ n
unfolding first_datagrams
first_long m zero = refl
first_long m (suc n) =
    let rest = first_long m n in
    let both = length-append (first_datagrams m n) (spelling (segment_of m 0 (suc n)) ∷ []) in
    omega (arith, rest, both)

pub first_datas : (m : Outgoing) (n : ℕ) → datas (first_datagrams m n) ≡ n
unfolding first_datagrams
first_datas m zero = refl
first_datas m (suc n) =
    let rest = first_datas m n in
    let both = datas-append (first_datagrams m n) (spelling (segment_of m 0 (suc n)) ∷ []) in
    let here : one (is_data (spelling (segment_of m 0 (suc n)))) ≡ 1 = ap one (data_said (segment_of m 0 (suc n))) in
    omega (arith, rest, both, here)

-- an acknowledgement is none
pub no_data : (test : Bool) (s : Piece) → is_acknowledgement s ≡ true → datas (if test then spelling s ∷ [] else []) ≡ 0
no_data true s is = (let here : one (is_data (spelling s)) ≡ 0 = ap one (data_said s ∙ ap not is) in omega (arith, here))
no_data false s is = refl

-- ---- the calls that an end has sent

-- how many segments a message has, if there is one
abbrev pub segments_in : Option (List ℕ) → ℕ
segments_in o = option_map_or segment_count o 0

-- of the call of a number, if it was sent
abbrev sent_part : ℕ → Acts → ℕ → ℕ
sent_part format acts call = if is_sent (start 0 format) acts call then segments_in (call_at 0 acts call) else 0

whole_part : (format call : ℕ) (o : Option (List ℕ)) → datas (whole_call (start 0 format) call o) ≡ segments_in o
whole_part format call None = refl
whole_part format call (Some m) = first_datas (message_out (start 0 format) 0 call m) (segment_count m)

let_go_part : (format : ℕ) (acts : Acts) (act : Act) (call : ℕ) → AreLawful 0 format (more acts act)
    → datas (let_go_by (start 0 format) acts act call) + sent_part format acts call ≤ sent_part format (more acts act) call
unfolding let_go_by
let_go_part format acts act call lawful = by_before (is_sent (start 0 format) acts call) refl
  where
    by_now : is_sent (start 0 format) acts call ≡ false → (b : Bool) → is_sent (start 0 format) (more acts act) call ≡ b → datas (let_go_by (start 0 format) acts act call) ≤ (if b then segments_in (call_at 0 (more acts act) call) else 0)
    by_now before true is =
        let go = ap datas (ap (λ x. if x && not (is_sent (start 0 format) acts call) then whole_call (start 0 format) call (call_at 0 (more acts act) call) else []) is
        ∙ ap (λ x. if not x then whole_call (start 0 format) call (call_at 0 (more acts act) call) else []) before) in
        let part = whole_part format call (call_at 0 (more acts act) call) in
        omega (arith, go, part)
    by_now before false is =
        let go : datas (let_go_by (start 0 format) acts act call) ≡ 0 =
        ap datas (ap (λ x. if x && not (is_sent (start 0 format) acts call) then whole_call (start 0 format) call (call_at 0 (more acts act) call) else []) is) in
        omega (arith, go)

    by_before : (b : Bool) → is_sent (start 0 format) acts call ≡ b → datas (let_go_by (start 0 format) acts act call) + sent_part format acts call ≤ sent_part format (more acts act) call
    by_before true is =
        let m = some_is (call_at 0 acts call) (sent_some format acts call lawful.0 is) in
        let none : datas (let_go_by (start 0 format) acts act call) ≡ 0 = ap datas (sent_once 0 format acts act call is) in
        let old : sent_part format acts call ≡ segment_count m.0 = ap (λ b. if b then segments_in (call_at 0 acts call) else 0) is ∙ ap segments_in m.1 in
        let new : sent_part format (more acts act) call ≡ segment_count m.0 =
        ap (λ b. if b then segments_in (call_at 0 (more acts act) call) else 0) (sent_stays 0 format acts act call is) ∙ ap segments_in (call_stays 0 format acts act call m.0 lawful m.1) in
        omega (arith, none, old, new)
    by_before false is =
        let old : sent_part format acts call ≡ 0 = ap (λ b. if b then segments_in (call_at 0 acts call) else 0) is in
        let new : datas (let_go_by (start 0 format) acts act call) ≤ sent_part format (more acts act) call = by_now is (is_sent (start 0 format) (more acts act) call) refl in
        omega (arith, old, new)

order_part : (f : ℕ → List (List ℕ)) (n : ℕ) → datas (in_order f n) ≡ total n (λ k. datas (f k))
unfolding in_order
order_part f zero = refl
order_part f (suc n) =
    let rest = order_part f n in
    let both = datas-append (in_order f n) (f n) in
    omega (arith, rest, both)

-- ---- and the returns

-- of all calls that it has sent, and of its returns to the calls below a number
abbrev given_part : ℕ → ℕ → Acts → ℕ
given_part format n acts = total (0 + calls_made acts) (sent_part format acts) + total n (λ call. segments_in (return_at acts call))

-- the returns are to calls below it
abbrev pub ReturnsBelow : ℕ → Acts → Type 0
ReturnsBelow n acts = (call : ℕ) (message : List ℕ) → return_at acts call ≡ Some message → call < n

-- what is let go by an act is sent behind it
goes_part : (format count : ℕ) (acts : Acts) (act : Act) → AreLawful 0 format (more acts act) → calls_made acts ≤ count
    → datas (in_order (let_go_by (start 0 format) acts act) (0 + count)) + total (0 + calls_made acts) (sent_part format acts) ≤ total (0 + count) (sent_part format (more acts act))
goes_part format count acts act lawful le =
    let order = order_part (let_go_by (start 0 format) acts act) (0 + count) in
    let each = total_le (0 + count) (λ k. datas (let_go_by (start 0 format) acts act k) + sent_part format acts k) (sent_part format (more acts act)) (λ k below. let_go_part format acts act k lawful) in
    let both = total_plus (0 + count) (λ k. datas (let_go_by (start 0 format) acts act k)) (sent_part format acts) in
    let longer = total_longer (0 + calls_made acts) (0 + count) (sent_part format acts) (omega (arith, le)) in
    omega (arith, order, each, both, longer)

few_by : (format n : ℕ) (acts : Acts) (act : Act) → AreLawful 0 format (more acts act) → IsUndisturbed (more acts act) → ReturnsBelow n (more acts act)
    → datas (datagrams_by (end_after (start 0 format) acts) act) + given_part format n acts ≤ given_part format n (more acts act)
unfolding outputs calls_made return_at
few_by format n acts (Call message) lawful quiet below =
    let sends = ap datas (call_sends 0 format acts message lawful) in
    let go = goes_part format (calls_made acts + 1) acts (Call message) lawful (omega arith) in
    omega (arith, sends, go)
few_by format n acts (Return call message) lawful quiet below =
    let sends = ap datas (return_sends 0 format acts call message) in
    let whole_ = first_datas (message_out (start 0 format) 1 call message) (segment_count message) in
    let calls = total_le (0 + calls_made acts) (sent_part format acts) (sent_part format (more acts (Return call message)))
    (λ k k_below. (let part = let_go_part format acts (Return call message) k lawful in omega (arith, part))) in
    let none : segments_in (return_at acts call) ≡ 0 = ap segments_in lawful.1.2 in
    let here : segments_in (return_at (more acts (Return call message)) call) ≡ segment_count message = ap (λ b. segments_in (if b then Some message else return_at acts call)) (eq-eqb call call refl) in
    let raise = total_raise n call (segment_count message) (λ k. segments_in (return_at acts k)) (λ k. segments_in (return_at (more acts (Return call message)) k))
    (below call message (ap (λ b. if b then Some message else return_at acts call) (eq-eqb call call refl)))
    (λ k k_below. each k) (omega (arith, none, here)) in
    omega (arith, sends, whole_, calls, raise)
  where
    each : (k : ℕ) → segments_in (return_at acts k) ≤ segments_in (if k == call then Some message else return_at acts k)
    each k = elim (eqb_tells k call) [
      | inl same ↦
          let none : segments_in (return_at acts k) ≡ 0 = ap (λ j. segments_in (return_at acts j)) same.1 ∙ ap segments_in lawful.1.2 in
          omega (arith, none)
      | inr differ ↦ (let is : segments_in (if k == call then Some message else return_at acts k) ≡ segments_in (return_at acts k) = ap (λ b. segments_in (if b then Some message else return_at acts k)) differ.0 in omega (arith, is))
    ]
few_by format n acts (Came s) lawful quiet below =
    let e = start 0 format in
    let sends = ap datas (came_sends 0 format acts s lawful) in
    let both = datas-append (if takes_after e acts s && not (is_acknowledgement s) then acknowledged_by (is_stopped_after acts) (taken_by e acts) s else []) (in_order (let_go_by e acts (Came s)) (0 + calls_made acts)) in
    let none : datas (if takes_after e acts s && not (is_acknowledgement s) then acknowledged_by (is_stopped_after acts) (taken_by e acts) s else []) ≡ 0 = by_test (takes_after e acts s && not (is_acknowledgement s)) in
    let go = goes_part format (calls_made acts) acts (Came s) lawful (omega arith) in
    omega (arith, sends, both, none, go)
  where
    by_test : (b : Bool) → datas (if b then acknowledged_by (is_stopped_after acts) (taken_by (start 0 format) acts) s else []) ≡ 0
    by_test true = no_data _ _ refl
    by_test false = refl
few_by format n acts Tick lawful quiet below = absurd quiet
few_by format n acts Stop lawful quiet below = absurd quiet

before_quiet : (acts : Acts) (act : Act) → IsUndisturbed (more acts act) → IsUndisturbed acts
before_quiet acts (Call message) quiet = quiet
before_quiet acts (Return call message) quiet = quiet
before_quiet acts (Came s) quiet = quiet
before_quiet acts Tick quiet = absurd quiet
before_quiet acts Stop quiet = absurd quiet

few_given : (format n : ℕ) (acts : Acts) → AreLawful 0 format acts → IsUndisturbed acts → ReturnsBelow n acts → datas (sent_by (start 0 format) acts) ≤ given_part format n acts
unfolding calls_made
few_given format n none_yet lawful quiet below = omega arith
few_given format n (more acts act) lawful quiet below =
    let rest = few_given format n acts lawful.0 (before_quiet acts act quiet) (λ call message is. below call message (return_stays 0 format acts act call message lawful is)) in
    let here = few_by format n acts act lawful quiet below in
    let both = datas-append (sent_by (start 0 format) acts) (datagrams_by (end_after (start 0 format) acts) act) in
    omega (arith, rest, here, both)

-- where nothing is sent again, an end has sent no more datagrams with data than its calls and its returns have segments
pub few_datas : (format n : ℕ) (acts : Acts) → AreLawful 0 format acts → IsUndisturbed acts → ReturnsBelow n acts
    → datas (sent_by (start 0 format) acts) ≤ total (calls_made acts) (λ call. segments_in (call_at 0 acts call)) + total n (λ call. segments_in (return_at acts call))
few_datas format n acts lawful quiet below =
    let given = few_given format n acts lawful quiet below in
    let long : 0 + calls_made acts ≡ calls_made acts = omega arith in
    let same = ap (λ k. total k (sent_part format acts)) long in
    let calls = total_le (calls_made acts) (sent_part format acts) (λ call. segments_in (call_at 0 acts call)) (λ k k_below. at_most (is_sent (start 0 format) acts k) (segments_in (call_at 0 acts k))) in
    omega (arith, given, same, calls)
  where
    at_most : (b : Bool) (x : ℕ) → (if b then x else 0) ≤ x
    at_most true x = omega arith
    at_most false x = omega arith
