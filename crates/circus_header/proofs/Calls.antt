-- The layout of calls is that of their headers.
use Rattle.std.proofs.Common.{◌≡◌, ℕ, zero, suc, ◌<◌, ◌≤◌, ◌^◌, List, [], ◌∷◌, All, refl, sym, ap, ◌∙◌, subst, arith}
use Rattle.circus_header.specs.Field.{Field, word, long, HasRoom}
use Rattle.circus_header.specs.CallFields.{ask_fields, request_fields, call_fields, IsRequest, IsCall}
use Rattle.circus_header.specs.Seen.Layout.{of_word, of_long, end, field}
use Rattle.circus_header.specs.Seen.Layouts.{ask_layout, most_node, most_count, request_of, request_layout, fetch_layout, call_by, call_layout}
use Rattle.circus_header.specs.Reading.{calls, IsOne}
use Rattle.circus_header.specs.declared.call.Request.{Request}
use Rattle.circus_header.specs.declared.call.Request.TheVariants.{Lookup, Join, Active, Gone}
use Rattle.circus_header.specs.declared.call.Call.{Call}
use Rattle.circus_header.specs.declared.call.Call.TheVariants.{Ask, Ring, Fetch}
use Rattle.circus_header.proofs.Accepting.{Accepts, Live, front, live_followed, room_of, accepts_mapped, mapped, ends_with}
use Rattle.circus_header.proofs.Asks.{live_ask, taken_ask, ask_meant}
use Rattle.circus_header.proofs.Clocks.{room_behind}
use Rattle.circus_header.proofs.Meanings.{Under}

node_room : (n : ℕ) → most_node n < 65536
node_room zero = omega arith
node_room (suc n) = omega arith

count_room : (n : ℕ) → most_count n < 2 ^ 32
count_room zero = omega arith
count_room (suc zero) = omega arith
count_room (suc (suc zero)) = omega arith
count_room (suc (suc (suc n))) = omega arith

live_request : Live request_layout
live_request = (
  omega arith,
  omega arith,
  λ request _ _. (
    omega arith,
    omega arith,
    λ troupe _ _. (
      omega arith,
      node_room request,
      λ node _ _.
          (omega arith, count_room request, λ count _ _. tt),
    ),
  ),
)

live_by : (n : ℕ) → Live (call_by n)
live_by zero = live_followed ask_layout (λ h. end (Ask h)) live_ask (λ fs x a. tt)
live_by (suc zero) = live_followed request_layout (λ r. end (Ring r)) live_request (λ fs x a. tt)
live_by (suc (suc n)) = (omega arith, omega arith, λ troupe _ _. (omega arith, omega arith, λ incarnation _ _. tt))

live_calls : Live call_layout
live_calls = (omega arith, omega arith, λ n low high. live_by n)

taken_request : (r : Request) → IsRequest r → All HasRoom (request_fields r) → Accepts request_layout (request_fields r) r
taken_request (Lookup troupe) is room = (refl, omega arith, omega arith, (refl, omega arith, omega (arith, is), (refl, omega arith, omega arith, (refl, omega arith, omega arith, refl))))
taken_request (Join troupe node) is room =
    (refl, omega arith, omega arith, (refl, omega arith, omega (arith, is.0), (refl, omega arith, omega (arith, is.1), (refl, omega arith, omega arith, refl))))
taken_request (Active troupe node count) is room =
    let fits : count < 2 ^ 32 = room 3 (word 0) (omega arith) in
    (refl, omega arith, omega arith, (refl, omega arith, omega (arith, is.0), (refl, omega arith, omega (arith, is.1), (refl, omega arith, omega arith, refl))))
taken_request (Gone troupe node) is room =
    (refl, omega arith, omega arith, (refl, omega arith, omega (arith, is.0), (refl, omega arith, omega (arith, is.1), (refl, omega arith, omega arith, refl))))

taken_by : (c : Call) → IsCall c → All HasRoom (call_fields c) → Accepts call_layout (call_fields c) c
taken_by (Ask h) is room =
    (refl, omega arith, omega arith, accepts_mapped ask_layout (λ x. Ask x) (ask_fields h) h (taken_ask h is (room_behind (word 0 ∷ []) (ask_fields h) room)))
taken_by (Ring r) is room =
    (refl, omega arith, omega arith, accepts_mapped request_layout (λ x. Ring x) (request_fields r) r (taken_request r is (room_behind (word 1 ∷ []) (request_fields r) room)))
taken_by (Fetch troupe incarnation) is room =
    let fits : incarnation < 2 ^ 32 = room 2 (word 0) (omega arith) in
    (refl, omega arith, omega arith, (refl, omega arith, omega (arith, is.0), (refl, is.1, omega arith, refl)))

request_is : (n troupe node count : ℕ) → n ≤ 3 → troupe ≤ 31 → node ≤ most_node n → count ≤ most_count n
    → IsRequest (request_of n troupe node count) × (request_fields (request_of n troupe node count) ≡ word n ∷ word troupe ∷ word node ∷ long count ∷ [])
request_is zero troupe node count le in_troupes in_nodes in_counts =
    let no_node : 0 ≡ node = omega arith in
    let no_count : 0 ≡ count = omega arith in
    (omega arith, ap (λ k. word 0 ∷ word troupe ∷ word k ∷ long 0 ∷ []) no_node ∙ ap (λ k. word 0 ∷ word troupe ∷ word node ∷ long k ∷ []) no_count)
request_is (suc zero) troupe node count le in_troupes in_nodes in_counts =
    let no_count : 0 ≡ count = omega arith in
    ((omega arith, omega arith), ap (λ k. word 1 ∷ word troupe ∷ word node ∷ long k ∷ []) no_count)
request_is (suc (suc zero)) troupe node count le in_troupes in_nodes in_counts = ((omega arith, omega arith), refl)
request_is (suc (suc (suc zero))) troupe node count le in_troupes in_nodes in_counts =
    let no_count : 0 ≡ count = omega arith in
    ((omega arith, omega arith), ap (λ k. word 3 ∷ word troupe ∷ word node ∷ long k ∷ []) no_count)
request_is (suc (suc (suc (suc n)))) troupe node count le in_troupes in_nodes in_counts = absurd (omega arith)

request_meant : (r : Request) (fs : List Field) → Accepts request_layout fs r → IsRequest r × (request_fields r ≡ fs)
request_meant r fs a =
    let p = front of_word 0 3 (λ request. field of_word 0 31 (λ troupe. field of_word 0 (most_node request) (λ node.
    field of_long 0 (most_count request) (λ count. end (request_of request troupe node count))))) fs r a in
    let troupe = front of_word 0 31 (λ troupe. field of_word 0 (most_node p.n) (λ node.
    field of_long 0 (most_count p.n) (λ count. end (request_of p.n troupe node count)))) p.others r p.taken in
    let node = front of_word 0 (most_node p.n) (λ node. field of_long 0 (most_count p.n) (λ count. end (request_of p.n troupe.n node count))) troupe.others r troupe.taken in
    let count = front of_long 0 (most_count p.n) (λ count. end (request_of p.n troupe.n node.n count)) node.others r node.taken in
    let last = ends_with (request_of p.n troupe.n node.n count.n) count.others r count.taken in
    let is = request_is p.n troupe.n node.n count.n p.high troupe.high node.high count.high in
    let all : fs ≡ word p.n ∷ word troupe.n ∷ word node.n ∷ long count.n ∷ [] =
    p.are ∙ ap (λ r. word p.n ∷ r) (troupe.are ∙ ap (λ r. word troupe.n ∷ r) (node.are ∙ ap (λ r. word node.n ∷ r)
    (count.are ∙ ap (λ r. long count.n ∷ r) last.0))) in
    subst (λ w. IsRequest w × (request_fields w ≡ fs)) (sym last.1) (is.0, is.1 ∙ sym all)

fetch_meant : (c : Call) (fs : List Field) → Accepts fetch_layout fs c → IsCall c × (call_fields c ≡ word 2 ∷ fs)
fetch_meant c fs a =
    let p = front of_word 0 31 (λ troupe. field of_long 1 4294967295 (λ incarnation. end (Fetch troupe incarnation))) fs c a in
    let q = front of_long 1 4294967295 (λ incarnation. end (Fetch p.n incarnation)) p.others c p.taken in
    let last = ends_with (Fetch p.n q.n) q.others c q.taken in
    let all : fs ≡ word p.n ∷ long q.n ∷ [] = p.are ∙ ap (λ r. word p.n ∷ r) (q.are ∙ ap (λ r. long q.n ∷ r) last.0) in
    subst (λ w. IsCall w × (call_fields w ≡ word 2 ∷ fs)) (sym last.1) ((omega (arith, p.high), q.low), ap (λ r. word 2 ∷ r) (sym all))

meant_by : (n : ℕ) (fs : List Field) (c : Call) → n ≤ 2 → Accepts (call_by n) fs c → IsCall c × (call_fields c ≡ word n ∷ fs)
meant_by zero fs c le a =
    let p = mapped ask_layout (λ x. Ask x) fs c a in
    let m = ask_meant p.x fs p.taken in
    subst (λ w. IsCall w × (call_fields w ≡ word 0 ∷ fs)) (sym p.is) (m.0, ap (λ r. word 0 ∷ r) m.1)
meant_by (suc zero) fs c le a =
    let p = mapped request_layout (λ x. Ring x) fs c a in
    let m = request_meant p.x fs p.taken in
    subst (λ w. IsCall w × (call_fields w ≡ word 1 ∷ fs)) (sym p.is) (m.0, ap (λ r. word 1 ∷ r) m.1)
meant_by (suc (suc zero)) fs c le a = fetch_meant c fs a
meant_by (suc (suc (suc n))) fs c le a = absurd (omega arith)

calls_meant : (c : Call) (fs : List Field) → Accepts call_layout fs c → IsOne calls c × (calls.fields c ≡ fs)
calls_meant c fs a =
    let p = front of_word 0 2 call_by fs c a in
    let m = meant_by p.n p.others c p.high p.taken in
    let same : fs ≡ call_fields c = p.are ∙ sym m.1 in
    ((m.0, subst (λ w. All HasRoom w) same (room_of call_layout fs c live_calls a)), sym same)

pub under_calls : Under calls call_layout []
under_calls = record {
  live = live_calls;
  taken = λ c fs one e. subst (λ w. Accepts call_layout w c) e (taken_by c one.0 one.1);
  meant = calls_meant;
}
