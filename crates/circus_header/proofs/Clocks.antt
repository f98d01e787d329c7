-- What the layouts of paths and of clocks take.
use Rattle.std.proofs.Common.{◌≡◌, ℕ, ◌<◌, ◌≤◌, ◌^◌, List, [], ◌∷◌, ◌++◌, length, map, All, refl, sym, ap, ◌∙◌, subst, arith}
use Rattle.std.proofs.lemmas.List.Elements.{All-weaker, All-nil, All-cons, All-head, All-tail}
use Rattle.circus_header.specs.Field.{Field, word, long, HasRoom}
use Rattle.circus_header.specs.Seen.Layout.{of_word, of_long, numbers}
use Rattle.circus_header.specs.Seen.Layouts.{path_layout, clock_layout}
use Rattle.circus_header.proofs.Accepting.{Accepts, Live, front, live_numbers, accepts_numbers, counted}

pub live_path : Live path_layout
live_path = (omega arith, omega arith, λ count low high. live_numbers of_word 0 65534 count [] (omega arith) (omega arith))

pub live_clock : (least : ℕ) → least ≤ 32 → Live (clock_layout least)
live_clock least le = (le, omega arith, λ count low high. live_numbers of_long 0 4294967295 count [] (omega arith) (omega arith))

pub accepts_path : (path : List ℕ) → 1 ≤ length path → length path ≤ 31 → All (λ n. n < 65535) path
    → Accepts path_layout (word (length path) ∷ map word path) path
accepts_path path some most each = (
  refl,
  some,
  most,
  accepts_numbers of_word 0 65534 path []
      (All-weaker (λ n. n < 65535) (λ n. (0 ≤ n) × (n ≤ 65534)) (λ n h. (omega arith, omega arith)) path each),
)

pub accepts_clock : (least : ℕ) (clock : List ℕ) → least ≤ length clock → length clock ≤ 32 → All (λ n. n < 2 ^ 32) clock
    → Accepts (clock_layout least) (word (length clock) ∷ map long clock) clock
accepts_clock least clock some most each = (
  refl,
  some,
  most,
  accepts_numbers of_long 0 4294967295 clock []
      (All-weaker (λ n. n < 2 ^ 32) (λ n. (0 ≤ n) × (n ≤ 4294967295)) (λ n h. (omega arith, omega arith)) clock each),
)

pub record IsPath (path : List ℕ) (fs : List Field) : Type 0 where
  pub some : 1 ≤ length path
  pub most : length path ≤ 31
  pub each : All (λ n. n < 65535) path
  pub are : fs ≡ word (length path) ∷ map word path

pub path_meant : (path : List ℕ) (fs : List Field) → Accepts path_layout fs path → IsPath path fs
path_meant path fs a =
    let p = front of_word 1 31 (λ count. numbers of_word 0 65534 count []) fs path a in
    let q = counted of_word 0 65534 p.n [] p.others path p.taken in
    let len : length path ≡ p.n = ap length q.all ∙ q.many in
    let each : All (λ n. n < 65535) q.xs = All-weaker (λ n. (0 ≤ n) × (n ≤ 65534)) (λ n. n < 65535) (λ n h. omega (arith, h.1)) q.xs q.each in
    record {
      some = omega (arith, len, p.low);
      most = omega (arith, len, p.high);
      each = subst (λ w. All (λ n. n < 65535) w) (sym q.all) each;
      are = p.are ∙ ap (λ n. word n ∷ p.others) (sym len) ∙ ap (λ r. word (length path) ∷ r) (q.are ∙ ap (λ w. map word w) (sym q.all));
    }

pub record IsClock (least : ℕ) (clock : List ℕ) (fs : List Field) : Type 0 where
  pub some : least ≤ length clock
  pub most : length clock ≤ 32
  pub are : fs ≡ word (length clock) ∷ map long clock

pub clock_meant : (least : ℕ) (clock : List ℕ) (fs : List Field) → Accepts (clock_layout least) fs clock → IsClock least clock fs
clock_meant least clock fs a =
    let p = front of_word least 32 (λ count. numbers of_long 0 4294967295 count []) fs clock a in
    let q = counted of_long 0 4294967295 p.n [] p.others clock p.taken in
    let len : length clock ≡ p.n = ap length q.all ∙ q.many in
    record {
      some = omega (arith, len, p.low);
      most = omega (arith, len, p.high);
      are = p.are ∙ ap (λ n. word n ∷ p.others) (sym len) ∙ ap (λ r. word (length clock) ∷ r) (q.are ∙ ap (λ w. map long w) (sym q.all));
    }

-- the fields of counts have room as the counts do
pub longs_room : (clock : List ℕ) → All HasRoom (map long clock) → All (λ n. n < 2 ^ 32) clock
longs_room [] room = All-nil (λ n. n < 2 ^ 32)
longs_room (n ∷ clock) room =
    All-cons (λ k. k < 2 ^ 32) n clock (All-head HasRoom (long n) (map long clock) room) (longs_room clock (All-tail HasRoom (long n) (map long clock) room))

pub room_behind : (fs gs : List Field) → All HasRoom (fs ++ gs) → All HasRoom gs
room_behind [] gs room = room
room_behind (f ∷ fs) gs room = room_behind fs gs (All-tail HasRoom f (fs ++ gs) room)
