-- The layout of returns is that of their headers.
use Rattle.std.proofs.Common.{◌≡◌, ℕ, zero, suc, ◌<◌, ◌≤◌, ◌^◌, List, [], ◌∷◌, length, map, All, refl, sym, ap, ◌∙◌, subst, arith}
use Rattle.circus_header.specs.Field.{Field, word, long, HasRoom}
use Rattle.circus_header.specs.ReturnFields.{return_fields, IsReturn}
use Rattle.circus_header.specs.Seen.Layout.{of_word, of_long, end, field}
use Rattle.circus_header.specs.Seen.Layouts.{clock_layout, return_by, return_layout}
use Rattle.circus_header.specs.Reading.{returns, IsOne}
use Rattle.circus_header.specs.declared.answer.ReturnHeader.{ReturnHeader}
use Rattle.circus_header.specs.declared.answer.ReturnHeader.TheVariants.{Reply, Stale, Before, Snapshot, Table}
use Rattle.circus_header.proofs.Accepting.{Accepts, Live, front, live_followed, room_of, accepts_mapped, mapped, ends_with}
use Rattle.circus_header.proofs.Clocks.{live_clock, accepts_clock, clock_meant, longs_room, room_behind}
use Rattle.circus_header.proofs.Meanings.{Under}

live_by : (n : ℕ) → Live (return_by n)
live_by zero = live_followed (clock_layout 1) (λ clock. end (Reply clock)) (live_clock 1 (omega arith)) (λ fs x a. tt)
live_by (suc zero) = (omega arith, omega arith, λ n low high. tt)
live_by (suc (suc zero)) = (omega arith, omega arith, λ n low high. tt)
live_by (suc (suc (suc zero))) = (omega arith, omega arith, λ n low high. tt)
live_by (suc (suc (suc (suc n)))) = tt

live_returns : Live return_layout
live_returns = (omega arith, omega arith, λ n low high. live_by n)

taken_by : (h : ReturnHeader) → IsReturn h → All HasRoom (return_fields h) → Accepts return_layout (return_fields h) h
taken_by (Reply clock) is room = (
  refl,
  omega arith,
  omega arith,
  accepts_mapped (clock_layout 1) (λ c. Reply c) (word (length clock) ∷ map long clock) clock
      (accepts_clock 1 clock is.0 is.1 (longs_room clock (room_behind (word 0 ∷ word (length clock) ∷ []) (map long clock) room))),
)
taken_by (Stale n) is room =
    let fits : n < 2 ^ 32 = room 1 (word 0) (omega arith) in
    (refl, omega arith, omega arith, (refl, is, omega arith, refl))
taken_by (Before n) is room =
    let fits : n < 2 ^ 32 = room 1 (word 0) (omega arith) in
    (refl, omega arith, omega arith, (refl, omega arith, omega arith, refl))
taken_by (Snapshot n) is room =
    let fits : n < 2 ^ 32 = room 1 (word 0) (omega arith) in
    (refl, omega arith, omega arith, (refl, omega arith, omega arith, refl))
taken_by Table is room = (refl, omega arith, omega arith, refl)

one_long : (k least : ℕ) (f : ℕ → ReturnHeader) (fs : List Field) (h : ReturnHeader) → Accepts (field of_long least 4294967295 (λ n. end (f n))) fs h
    → (n : ℕ) × (least ≤ n) × (h ≡ f n) × (word k ∷ long n ∷ [] ≡ word k ∷ fs)
one_long k least f fs h a =
    let p = front of_long least 4294967295 (λ n. end (f n)) fs h a in
    let last = ends_with (f p.n) p.others h p.taken in
    (p.n, p.low, last.1, ap (λ r. word k ∷ r) (sym (p.are ∙ ap (λ r. long p.n ∷ r) last.0)))

meant_by : (n : ℕ) (fs : List Field) (h : ReturnHeader) → n ≤ 4 → Accepts (return_by n) fs h → IsReturn h × (return_fields h ≡ word n ∷ fs)
meant_by zero fs h le a =
    let p = mapped (clock_layout 1) (λ c. Reply c) fs h a in
    let c = clock_meant 1 p.x fs p.taken in
    subst (λ w. IsReturn w × (return_fields w ≡ word 0 ∷ fs)) (sym p.is) ((c.some, c.most), ap (λ r. word 0 ∷ r) (sym c.are))
meant_by (suc zero) fs h le a =
    let (n, low, is, are) = one_long 1 1 (λ n. Stale n) fs h a in
    subst (λ w. IsReturn w × (return_fields w ≡ word 1 ∷ fs)) (sym is) (low, are)
meant_by (suc (suc zero)) fs h le a =
    let (n, low, is, are) = one_long 2 0 (λ n. Before n) fs h a in
    subst (λ w. IsReturn w × (return_fields w ≡ word 2 ∷ fs)) (sym is) (tt, are)
meant_by (suc (suc (suc zero))) fs h le a =
    let (n, low, is, are) = one_long 3 0 (λ n. Snapshot n) fs h a in
    subst (λ w. IsReturn w × (return_fields w ≡ word 3 ∷ fs)) (sym is) (tt, are)
meant_by (suc (suc (suc (suc zero)))) fs h le a =
    let last = ends_with Table fs h a in
    subst (λ w. IsReturn w × (return_fields w ≡ word 4 ∷ fs)) (sym last.1) (tt, ap (λ r. word 4 ∷ r) (sym last.0))
meant_by (suc (suc (suc (suc (suc n))))) fs h le a = absurd (omega arith)

returns_meant : (h : ReturnHeader) (fs : List Field) → Accepts return_layout fs h → IsOne returns h × (returns.fields h ≡ fs)
returns_meant h fs a =
    let p = front of_word 0 4 return_by fs h a in
    let m = meant_by p.n p.others h p.high p.taken in
    let same : fs ≡ return_fields h = p.are ∙ sym m.1 in
    ((m.0, subst (λ w. All HasRoom w) same (room_of return_layout fs h live_returns a)), sym same)

pub under_returns : Under returns return_layout []
under_returns = record {
  live = live_returns;
  taken = λ h fs one e. subst (λ w. Accepts return_layout w h) e (taken_by h one.0 one.1);
  meant = returns_meant;
}
