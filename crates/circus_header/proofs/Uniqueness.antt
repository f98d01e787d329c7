-- Bytes are read in one way.
use Rattle.std.proofs.Common.{◌≡◌, ℕ, ◌+◌, ◌<◌, ◌≤◌, ◌⊎◌, inl, inr, List, Result, Err, length, refl, sym, subst, arith}
use Rattle.circus_header.specs.Seen.Layout.{Size, size_len, Layout, StandsAt, Reading, refused, ended, cut, out, more}
use Rattle.circus_header.specs.declared.header_fault.HeaderFault.{HeaderFault}
use Rattle.circus_header.specs.declared.header_fault.HeaderFault.TheVariants.{NoMemory}
use Rattle.circus_header.proofs.Standing.{stands_once, stands_within}

not_cut : (octets : List ℕ) (at : ℕ) (s : Size) (n : ℕ) → StandsAt octets at s n → length octets < at + size_len s → ⊥
not_cut octets at s n stands short = omega (arith, stands_within octets at s n stands)

not_out : (octets : List ℕ) (at : ℕ) (s : Size) (l m n k : ℕ) → StandsAt octets at s n → StandsAt octets at s k
    → (n < l) ⊎ (m < n) → l ≤ k → k ≤ m → ⊥
not_out octets at s l m n k a b outside low high =
    let same = stands_once octets at s n k a b in
    elim outside [ inl less ↦ omega (arith, same) | inr above ↦ omega (arith, same) ]

pub reading_once : {A : Type 0} (octets : List ℕ) (t : Layout A) (at : ℕ) (r q : Result (A × ℕ) HeaderFault)
    → Reading octets t at r → Reading octets t at q → (r ≡ Err NoMemory → ⊥) → (q ≡ Err NoMemory → ⊥) → r ≡ q
reading_once octets t at r q refused b made too = absurd (made refl)
reading_once octets t at r q ended refused made too = absurd (too refl)
reading_once octets t at r q ended ended made too = refl
reading_once octets t at r q (cut a) refused made too = absurd (too refl)
reading_once octets t at r q (cut a) (cut b) made too = refl
reading_once octets t at r q (cut {size = s} a) (out n b _) made too = absurd (not_cut octets at s n b a)
reading_once octets t at r q (cut {size = s} a) (more n b _ _ _) made too = absurd (not_cut octets at s n b a)
reading_once octets t at r q (out n a _) refused made too = absurd (too refl)
reading_once octets t at r q (out {size = s} n a _) (cut b) made too = absurd (not_cut octets at s n a b)
reading_once octets t at r q (out n a _) (out k b _) made too = refl
reading_once octets t at r q (out {size = s} {least = l} {most = m} n a outside) (more k b low high _) made too =
    absurd (not_out octets at s l m n k a b outside low high)
reading_once octets t at r q (more n a _ _ _) refused made too = absurd (too refl)
reading_once octets t at r q (more {size = s} n a _ _ _) (cut b) made too = absurd (not_cut octets at s n a b)
reading_once octets t at r q (more {size = s} {least = l} {most = m} k a low high _) (out n b outside) made too =
    absurd (not_out octets at s l m n k b a outside low high)
reading_once octets t at r q (more {size = s} {next = next} n a _ _ c) (more k b _ _ d) made too =
    let same : k ≡ n = sym (stands_once octets at s n k a b) in
    reading_once octets (next n) (at + size_len s) r q c (subst (λ w. Reading octets (next w) (at + size_len s) q) same d) made too
