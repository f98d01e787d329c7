-- Bytes have one answer, which the layout's reading gives.
use Rattle.std.proofs.Common.{◌≡◌, ℕ, ◌+◌, ◌<◌, ◌≤◌, ◌⊎◌, inl, inr, Bool, true, false, List, [], ◌∷◌, ◌++◌, length, drop, Result, Ok, Err, cond, nat_eq, refl, sym, ap, ◌∙◌, subst, arith, append_assoc, length-append, length-drop}
use Rattle.std.proofs.lemmas.List.{append-nil, drop_all}
use Rattle.std.proofs.lemmas.Bool.{eq-eqb}
use Rattle.std.proofs.lemmas.Bool.Decides.{eqb_tells}
use Rattle.std.specs.Result.{IsErr, IsErrAnd}
use Rattle.circus_header.proofs.Steps.{passed}
use Rattle.circus_header.specs.Field.{Field, field_len, field_bytes, bytes_of}
use Rattle.circus_header.specs.Seen.Layout.{Layout, Reading, refused}
use Rattle.circus_header.specs.Reading.{Headers, IsOne, BeginsWith, IsShort, IsOutOfRange, IsAnswer}
use Rattle.circus_header.specs.declared.header_fault.HeaderFault.{HeaderFault}
use Rattle.circus_header.specs.declared.header_fault.HeaderFault.TheVariants.{Short, BadField, NoMemory}
use Rattle.circus_header.proofs.Accepting.{Accepts}
use Rattle.circus_header.proofs.Meanings.{Under, Meant, meant}
use Rattle.circus_header.proofs.Uniqueness.{reading_once}
use Rattle.circus_header.proofs.Reaching.{reached, read_end, read_short, read_out}

-- a header that was read has its answer by what stands behind it
abbrev pub closed : {H : Type 0} → Headers H → List ℕ → Result (H × ℕ) HeaderFault → Result (H × ℕ) HeaderFault
closed hs octets (Ok x) = cond (hs.goes_on x.0) (Ok x) (cond (nat_eq x.1 (length octets)) (Ok x) (Err (BadField x.1)))
closed hs octets (Err e) = Err e

begins : {H : Type 0} (hs : Headers H) (octets : List ℕ) (x : H × ℕ) → Meant hs octets (Ok x)
    → (hs.goes_on x.0 ≡ false → drop x.1 octets ≡ []) → BeginsWith hs octets x.0 x.1
begins hs octets x m empty = record { header = m.0; rest = (drop x.1 octets, m.1, empty); upto = m.2 }

-- a header is the answer where bytes may stand behind it, or none do
pub answer_whole : {H : Type 0} (hs : Headers H) (octets : List ℕ) (t : Layout H) (h : H) (at : ℕ) → Under hs t [] → Reading octets t 0 (Ok (h, at))
    → (hs.goes_on h ≡ true) ⊎ (length octets ≤ at) → IsAnswer hs octets (Ok (h, at))
answer_whole hs octets t h at u d may =
    let m = meant hs octets t 0 (Ok (h, at)) [] d u refl refl in
    begins hs octets (h, at) m (λ none. elim may [
      | inl some ↦ (let clash : true ≡ false = sym some ∙ none in cc)
      | inr all ↦ drop_all at octets all
    ])

pub answer_excess : {H : Type 0} (hs : Headers H) (octets : List ℕ) (t : Layout H) (h : H) (at : ℕ) → Under hs t [] → Reading octets t 0 (Ok (h, at))
    → hs.goes_on h ≡ false → at < length octets → IsAnswer hs octets (Err (BadField at))
answer_excess hs octets t h at u d none less =
    let m = meant hs octets t 0 (Ok (h, at)) [] d u refl refl in
    inr (h, drop at octets, m.0, none, m.1, omega (arith, less, length-drop at octets), m.2)

failed_answer : {H : Type 0} (hs : Headers H) (octets : List ℕ) (t : Layout H) (e : HeaderFault)
    → Under hs t [] → Reading octets t 0 (Err e) → IsAnswer hs octets (Err e)
failed_answer hs octets t (Short place) u d = meant hs octets t 0 (Err (Short place)) [] d u refl refl
failed_answer hs octets t (BadField place) u d = inl (meant hs octets t 0 (Err (BadField place)) [] d u refl refl)
failed_answer hs octets t NoMemory u d = tt

pub answer_failed : {H : Type 0} (hs : Headers H) (octets : List ℕ) (t : Layout H) (e : HeaderFault) (q : Result (H × ℕ) HeaderFault)
    → Under hs t [] → Reading octets t 0 (Err e) → IsErr q × IsErrAnd q (λ f. f ≡ e) → IsAnswer hs octets q
answer_failed hs octets t e q u d p = subst (λ w. IsAnswer hs octets w) (sym (passed q e p)) (failed_answer hs octets t e u d)

read_whole : {H : Type 0} (hs : Headers H) (octets : List ℕ) (t : Layout H) (h : H) (place : ℕ) (rest : List ℕ)
    → Under hs t [] → IsOne hs h → octets ≡ bytes_of (hs.fields h) ++ rest → place ≡ length (bytes_of (hs.fields h)) → Reading octets t 0 (Ok (h, place))
read_whole hs octets t h place rest u one e upto =
    let fs : List Field = hs.fields h in
    let r = reached octets [] rest t 0 fs [] h u.live (u.taken h (fs ++ []) one (sym (append-nil fs))) e refl in
    let at : 0 + length (bytes_of fs) ≡ place = omega (arith, upto) in
    subst (λ w. Reading octets t 0 (Ok (h, w))) at (r.read (Ok (h, 0 + length (bytes_of fs))) (read_end octets r.sub (0 + length (bytes_of fs)) h r.taken))

read_cut : {H : Type 0} (hs : Headers H) (octets : List ℕ) (t : Layout H) (place : ℕ)
    → Under hs t [] → IsShort hs octets place → Reading octets t 0 (Err (Short place))
read_cut hs octets t place u (done, f, rest, way, e, short, upto) =
    let r = reached octets [] rest t 0 done (f ∷ way.1) way.0 u.live (u.taken way.0 (done ++ f ∷ way.1) way.2 way.3) e refl in
    let at : 0 + length (bytes_of done) ≡ place = omega (arith, upto) in
    let within : length octets < (0 + length (bytes_of done)) + field_len f = omega (arith, short, ap length e, length-append (bytes_of done) rest) in
    subst (λ w. Reading octets t 0 (Err (Short w))) at
    (r.read (Err (Short (0 + length (bytes_of done)))) (read_short octets r.sub (0 + length (bytes_of done)) f way.1 way.0 r.taken within))

read_bad : {H : Type 0} (hs : Headers H) (octets : List ℕ) (t : Layout H) (place : ℕ)
    → Under hs t [] → IsOutOfRange hs octets place → Reading octets t 0 (Err (BadField place))
read_bad {H = H} hs octets t place u (done, f, g, rest, way, len, room, never, e, upto) =
    let all : octets ≡ bytes_of done ++ (field_bytes g ++ rest) =
    e ∙ append_assoc (bytes_of done) (field_bytes g ++ []) rest ∙ ap (λ w. bytes_of done ++ (w ++ rest)) (append-nil (field_bytes g)) in
    let r = reached octets [] (field_bytes g ++ rest) t 0 done (f ∷ way.1) way.0 u.live (u.taken way.0 (done ++ f ∷ way.1) way.2 way.3) all refl in
    let at : 0 + length (bytes_of done) ≡ place = omega (arith, upto) in
    let stuck = λ (gs : List Field) (y : H) (b : Accepts r.sub (g ∷ gs) y).
    let whole = u.meant y (done ++ g ∷ gs) (r.accept (g ∷ gs) y b) in never (y, gs, whole.0, whole.1) in
    subst (λ w. Reading octets t 0 (Err (BadField w))) at
    (r.read (Err (BadField (0 + length (bytes_of done))))
    (read_out octets r.sub (0 + length (bytes_of done)) f g way.1 way.0 (bytes_of done) rest r.live r.taken len room stuck all (omega arith)))

-- the answer is that of the layout's reading
pub record Settled {H : Type 0} (hs : Headers H) (octets : List ℕ) (t : Layout H) (r : Result (H × ℕ) HeaderFault) : Type 0 where
  pub read : Result (H × ℕ) HeaderFault
  pub reading : Reading octets t 0 read
  pub is : r ≡ closed hs octets read

settle_whole : {H : Type 0} (hs : Headers H) (octets : List ℕ) (x : H × ℕ) (b : Bool) → hs.goes_on x.0 ≡ b
    → (hs.goes_on x.0 ≡ false → x.1 ≡ length octets)
    → ◌≡◌ {A = Result (H × ℕ) HeaderFault} (Ok x) (cond b (Ok x) (cond (nat_eq x.1 (length octets)) (Ok x) (Err (BadField x.1))))
settle_whole hs octets x true goes all = refl
settle_whole hs octets x false goes all = rw (eq-eqb x.1 (length octets) (all goes))

settle_excess : {H : Type 0} (hs : Headers H) (octets : List ℕ) (x : H × ℕ) → hs.goes_on x.0 ≡ false → x.1 < length octets
    → Err (BadField x.1) ≡ closed hs octets (Ok x)
settle_excess hs octets x goes less =
    elim (eqb_tells x.1 (length octets)) [
      | inl same ↦ absurd (omega (arith, same.1))
      | inr other ↦ rw (goes, other.0)
    ]

pub settled : {H : Type 0} (hs : Headers H) (octets : List ℕ) (t : Layout H) (r : Result (H × ℕ) HeaderFault)
    → Under hs t [] → IsAnswer hs octets r → Settled hs octets t r
settled hs octets t (Ok x) u a =
    let (rest, e, empty) = a.rest in
    let len = length-append (bytes_of (hs.fields x.0)) rest in
    record {
      read = Ok x;
      reading = read_whole hs octets t x.0 x.1 rest u a.header e a.upto;
      is = settle_whole hs octets x (hs.goes_on x.0) refl (λ no. omega (arith, len, ap length e, ap length (empty no), a.upto));
    }
settled hs octets t (Err (Short place)) u a = record { read = Err (Short place); reading = read_cut hs octets t place u a; is = refl }
settled hs octets t (Err (BadField place)) u (inl a) = record { read = Err (BadField place); reading = read_bad hs octets t place u a; is = refl }
settled hs octets t (Err (BadField place)) u (inr (h, rest, one, goes, e, more, upto)) = record {
  read = Ok (h, place);
  reading = read_whole hs octets t h place rest u one e upto;
  is = settle_excess hs octets (h, place) goes (omega (arith, ap length e, upto, length-append (bytes_of (hs.fields h)) rest, more));
}
settled hs octets t (Err NoMemory) u a = record { read = Err NoMemory; reading = refused; is = refl }

not_refused : {H : Type 0} (hs : Headers H) (octets : List ℕ) (r p : Result (H × ℕ) HeaderFault)
    → r ≡ closed hs octets p → (r ≡ Err NoMemory → ⊥) → p ≡ Err NoMemory → ⊥
not_refused hs octets r p e never is = never (e ∙ ap (closed hs octets) is)

pub answered_once : {H : Type 0} (hs : Headers H) (octets : List ℕ) (t : Layout H) (r q : Result (H × ℕ) HeaderFault)
    → Under hs t [] → IsAnswer hs octets r → IsAnswer hs octets q → (r ≡ Err NoMemory → ⊥) → (q ≡ Err NoMemory → ⊥) → r ≡ q
answered_once hs octets t r q u a b first second =
    let x = settled hs octets t r u a in
    let y = settled hs octets t q u b in
    x.is ∙ ap (closed hs octets) (reading_once octets t 0 x.read y.read x.reading y.reading
    (not_refused hs octets r x.read x.is first) (not_refused hs octets q y.read y.is second)) ∙ sym y.is

pub no_other : {H : Type 0} (hs : Headers H) (t : Layout H) (a b : H) (rest : List ℕ)
    → Under hs t [] → IsOne hs a → IsOne hs b → bytes_of (hs.fields b) ≡ bytes_of (hs.fields a) ++ rest → a ≡ b
no_other {H = H} hs t a b rest u first second e =
    let octets : List ℕ = bytes_of (hs.fields b) in
    let x : H × ℕ = (a, length (bytes_of (hs.fields a))) in
    let y : H × ℕ = (b, length octets) in
    let one = read_whole hs octets t a x.1 rest u first e refl in
    let other = read_whole hs octets t b y.1 [] u second (sym (append-nil octets)) refl in
    let same : ◌≡◌ {A = Result (H × ℕ) HeaderFault} (Ok x) (Ok y) = reading_once octets t 0 (Ok x) (Ok y) one other (λ no. cc) (λ no. cc) in
    let pair : x ≡ y = cc in
    ap (λ (p : H × ℕ). p.0) pair
