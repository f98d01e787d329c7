-- What is read by the layout of a kind of headers is what the bytes are.
use Rattle.std.proofs.Common.{◌≡◌, ℕ, ◌+◌, ◌<◌, ◌≤◌, ◌⊎◌, inl, inr, List, [], ◌∷◌, ◌++◌, length, drop, Result, Ok, Err, refl, sym, ap, ◌∙◌, arith, append_assoc, length-append, length-drop}
use Rattle.std.proofs.lemmas.List.{append-nil}
use Rattle.circus_header.specs.Field.{Field, field_bytes, bytes_of}
use Rattle.circus_header.specs.Seen.Layout.{Size, field_of, size_len, Layout, end, field, StandsAt, Reading, refused, ended, cut, out, more}
use Rattle.circus_header.specs.Reading.{Headers, IsOne, MayGoOn, IsShort, IsOutOfRange}
use Rattle.circus_header.specs.declared.header_fault.HeaderFault.{HeaderFault}
use Rattle.circus_header.specs.declared.header_fault.HeaderFault.TheVariants.{Short, BadField, NoMemory}
use Rattle.circus_header.proofs.Accepting.{Accepts, Live, accepts_field, taken_field, live_some}
use Rattle.circus_header.proofs.Standing.{bytes_of-append, field_len-field_of, length-field_bytes, size_some}

-- the layout is that of the headers of the kind behind these fields
pub record Under {H : Type 0} (hs : Headers H) (t : Layout H) (done : List Field) : Type 0 where
  pub live : Live t
  pub taken : (h : H) (fs : List Field) → IsOne hs h → hs.fields h ≡ done ++ fs → Accepts t fs h
  pub meant : (h : H) (fs : List Field) → Accepts t fs h → IsOne hs h × (hs.fields h ≡ done ++ fs)

pub under_next : {H : Type 0} (hs : Headers H) (s : Size) (l m n : ℕ) (next : ℕ → Layout H) (done : List Field)
    → Under hs (field s l m next) done → l ≤ n → n ≤ m → Under hs (next n) (done ++ field_of s n ∷ [])
under_next hs s l m n next done u low high = record {
  live = u.live.2 n low high;
  taken = λ h fs one e. (taken_field s l m n next fs h
      (u.taken h (field_of s n ∷ fs) one (e ∙ append_assoc done (field_of s n ∷ []) fs))).2;
  meant = λ h fs a.
      let whole = u.meant h (field_of s n ∷ fs) (accepts_field s l m n next fs h low high a) in
      (whole.0, whole.1 ∙ sym (append_assoc done (field_of s n ∷ []) fs));
}

pub may_go_on : {H : Type 0} (hs : Headers H) (s : Size) (l m n : ℕ) (next : ℕ → Layout H) (done : List Field)
    → Under hs (field s l m next) done → l ≤ n → n ≤ m → MayGoOn hs done (field_of s n)
may_go_on hs s l m n next done u low high =
    let (fs, h, a) = live_some (next n) (u.live.2 n low high) in
    let whole = u.meant h (field_of s n ∷ fs) (accepts_field s l m n next fs h low high a) in
    (h, fs, whole.0, whole.1)

pub no_way_on : {H : Type 0} (hs : Headers H) (s : Size) (l m n : ℕ) (next : ℕ → Layout H) (done : List Field)
    → Under hs (field s l m next) done → (n < l) ⊎ (m < n) → MayGoOn hs done (field_of s n) → ⊥
no_way_on hs s l m n next done u outside way =
    let a = taken_field s l m n next way.1 way.0 (u.taken way.0 (field_of s n ∷ way.1) way.2 way.3) in
    let low : l ≤ n = a.0 in
    let high : n ≤ m = a.1 in
    elim outside [ inl less ↦ omega arith | inr above ↦ omega arith ]

-- what a reading says of the bytes
abbrev pub Meant : {H : Type 0} → Headers H → List ℕ → Result (H × ℕ) HeaderFault → Type 0
Meant hs octets (Ok x) =
    IsOne hs x.0 × (octets ≡ bytes_of (hs.fields x.0) ++ drop x.1 octets) × (x.1 ≡ length (bytes_of (hs.fields x.0)))
Meant hs octets (Err (Short place)) = IsShort hs octets place
Meant hs octets (Err (BadField place)) = IsOutOfRange hs octets place
Meant hs octets (Err NoMemory) = Unit {0}

short_meant : {H : Type 0} (hs : Headers H) (octets : List ℕ) (at : ℕ) (s : Size) (l m : ℕ) (next : ℕ → Layout H) (done : List Field)
    → Under hs (field s l m next) done → octets ≡ bytes_of done ++ drop at octets → at ≡ length (bytes_of done)
    → length octets < at + size_len s → IsShort hs octets at
short_meant hs octets at s l m next done u e place short = (
  done,
  field_of s l,
  drop at octets,
  may_go_on hs s l m l next done u (omega arith) u.live.0,
  e,
  omega (arith, length-drop at octets, field_len-field_of s l, size_some s),
  place,
)

out_meant : {H : Type 0} (hs : Headers H) (octets : List ℕ) (at : ℕ) (s : Size) (l m n : ℕ) (next : ℕ → Layout H) (done : List Field)
    → Under hs (field s l m next) done → octets ≡ bytes_of done ++ drop at octets → at ≡ length (bytes_of done)
    → StandsAt octets at s n → (n < l) ⊎ (m < n) → IsOutOfRange hs octets at
out_meant hs octets at s l m n next done u e place stands outside = (
  done,
  field_of s l,
  field_of s n,
  drop (at + size_len s) octets,
  may_go_on hs s l m l next done u (omega arith) u.live.0,
  field_len-field_of s n ∙ sym (field_len-field_of s l),
  stands.room,
  no_way_on hs s l m n next done u outside,
  e ∙ ap (λ r. bytes_of done ++ r) stands.here ∙ sym (append_assoc (bytes_of done) (field_bytes (field_of s n)) (drop (at + size_len s) octets))
      ∙ ap (λ r. bytes_of done ++ r ++ drop (at + size_len s) octets) (sym (append-nil (field_bytes (field_of s n)))),
  place,
)

-- the bytes up to the next field are those of the fields so far and this one
pub one_more : (octets : List ℕ) (at : ℕ) (s : Size) (n : ℕ) (done : List Field) → octets ≡ bytes_of done ++ drop at octets
    → StandsAt octets at s n → octets ≡ bytes_of (done ++ field_of s n ∷ []) ++ drop (at + size_len s) octets
one_more octets at s n done e stands =
    e ∙ ap (λ r. bytes_of done ++ r) stands.here ∙ sym (append_assoc (bytes_of done) (field_bytes (field_of s n)) (drop (at + size_len s) octets))
    ∙ ap (λ r. bytes_of done ++ r ++ drop (at + size_len s) octets) (sym (append-nil (field_bytes (field_of s n))))
    ∙ ap (λ r. r ++ drop (at + size_len s) octets) (sym (bytes_of-append done (field_of s n ∷ [])))

pub place_more : (at : ℕ) (s : Size) (n : ℕ) (done : List Field) → at ≡ length (bytes_of done)
    → at + size_len s ≡ length (bytes_of (done ++ field_of s n ∷ []))
place_more at s n done place =
    omega (
      arith,
      ap length (bytes_of-append done (field_of s n ∷ [])),
      length-append (bytes_of done) (bytes_of (field_of s n ∷ [])),
      ap length (append-nil (field_bytes (field_of s n))),
      length-field_bytes (field_of s n),
      field_len-field_of s n,
    )

pub meant : {H : Type 0} (hs : Headers H) (octets : List ℕ) (t : Layout H) (at : ℕ) (r : Result (H × ℕ) HeaderFault) (done : List Field)
    → Reading octets t at r → Under hs t done → octets ≡ bytes_of done ++ drop at octets → at ≡ length (bytes_of done) → Meant hs octets r
meant hs octets t at r done refused u e place = tt
meant hs octets (end x) at r done ended u e place =
    let whole = u.meant x [] refl in
    let same : bytes_of done ≡ bytes_of (hs.fields x) = ap bytes_of (sym (whole.1 ∙ append-nil done)) in
    (whole.0, e ∙ ap (λ b. b ++ drop at octets) same, place ∙ ap length same)
meant hs octets (field s l m next) at r done (cut short) u e place = short_meant hs octets at s l m next done u e place short
meant hs octets (field s l m next) at r done (out n stands outside) u e place = out_meant hs octets at s l m n next done u e place stands outside
meant hs octets (field s l m next) at r done (more n stands low high rest) u e place =
    meant hs octets (next n) (at + size_len s) r (done ++ field_of s n ∷ []) rest (under_next hs s l m n next done u low high)
    (one_more octets at s n done e stands) (place_more at s n done place)
