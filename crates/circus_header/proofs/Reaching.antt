-- Where fields that begin a header lead.
use Rattle.std.proofs.Common.{◌≡◌, ℕ, ◌+◌, ◌<◌, ◌≤◌, ◌⊎◌, inl, inr, List, [], ◌∷◌, ◌++◌, length, Result, Ok, Err, refl, sym, ap, ◌∙◌, subst, arith, append_assoc, length-append}
use Rattle.std.proofs.lemmas.Bool.{cases_lt}
use Rattle.circus_header.specs.Field.{Field, word, long, HasRoom, field_len, field_bytes, bytes_of}
use Rattle.circus_header.specs.Seen.Layout.{Size, of_word, of_long, field_of, size_len, Layout, end, field, Reading, ended, cut, out, more}
use Rattle.circus_header.specs.declared.header_fault.HeaderFault.{HeaderFault}
use Rattle.circus_header.specs.declared.header_fault.HeaderFault.TheVariants.{Short, BadField}
use Rattle.circus_header.proofs.Accepting.{size_of, Accepts, Live, room_below, accepts_field, live_some}
use Rattle.circus_header.proofs.Standing.{stands_behind, length-field_bytes, field_len-field_of}

-- behind these fields the layout goes on as this one
pub record Reached {A : Type 0} (octets : List ℕ) (t : Layout A) (at : ℕ) (done others : List Field) (x : A) : Type 0 where
  pub sub : Layout A
  pub taken : Accepts sub others x
  pub live : Live sub
  pub read : (r : Result (A × ℕ) HeaderFault) → Reading octets sub (at + length (bytes_of done)) r → Reading octets t at r
  pub accept : (fs : List Field) (y : A) → Accepts sub fs y → Accepts t (done ++ fs) y

one_reached : {A : Type 0} (octets before rest : List ℕ) (s : Size) (l m n : ℕ) (next : ℕ → Layout A) (at : ℕ) (done others : List Field) (x : A)
    → HasRoom (field_of s n) → l ≤ n → n ≤ m → octets ≡ before ++ (bytes_of (field_of s n ∷ done) ++ rest) → at ≡ length before
    → Reached octets (next n) (at + size_len s) done others x → Reached octets (field s l m next) at (field_of s n ∷ done) others x
one_reached octets before rest s l m n next at done others x room low high e place r =
    let f : List ℕ = field_bytes (field_of s n) in
    let stands = stands_behind octets before (bytes_of done ++ rest) at s n room
    (e ∙ ap (λ w. before ++ w) (append_assoc f (bytes_of done) rest)) place in
    let further : at + length (bytes_of (field_of s n ∷ done)) ≡ (at + size_len s) + length (bytes_of done) =
    omega (arith, length-append f (bytes_of done), length-field_bytes (field_of s n), field_len-field_of s n) in
    record {
      sub = r.sub;
      taken = r.taken;
      live = r.live;
      read = λ q d. more n stands low high (r.read q (subst (λ w. Reading octets r.sub w q) further d));
      accept = λ fs y a. accepts_field s l m n next (done ++ fs) y low high (r.accept fs y a);
    }

behind : (octets before f rest : List ℕ) (done : List ℕ) → octets ≡ before ++ ((f ++ done) ++ rest) → octets ≡ (before ++ f) ++ (done ++ rest)
behind octets before f rest done e =
    e ∙ ap (λ w. before ++ w) (append_assoc f done rest) ∙ sym (append_assoc before f (done ++ rest))

pub reached : {A : Type 0} (octets before rest : List ℕ) (t : Layout A) (at : ℕ) (done others : List Field) (x : A)
    → Live t → Accepts t (done ++ others) x → octets ≡ before ++ (bytes_of done ++ rest) → at ≡ length before → Reached octets t at done others x
reached octets before rest t at [] others x live a e place =
    let same : at + 0 ≡ at = omega arith in
    record { sub = t; taken = a; live = live; read = λ r d. subst (λ w. Reading octets t w r) same d; accept = λ fs y b. b }
reached octets before rest (end y) at (f ∷ done) others x live a e place = absurd a
reached octets before rest (field of_word l m next) at (word n ∷ done) others x live a e place =
    one_reached octets before rest of_word l m n next at done others x (room_below of_word m n live.1 a.2) a.1 a.2 e place
    (reached octets (before ++ field_bytes (word n)) rest (next n) (at + 2) done others x (live.2 n a.1 a.2) a.3
    (behind octets before (field_bytes (word n)) rest (bytes_of done) e) (omega (arith, place, length-append before (field_bytes (word n)))))
reached octets before rest (field of_long l m next) at (long n ∷ done) others x live a e place =
    one_reached octets before rest of_long l m n next at done others x (room_below of_long m n live.1 a.2) a.1 a.2 e place
    (reached octets (before ++ field_bytes (long n)) rest (next n) (at + 4) done others x (live.2 n a.1 a.2) a.3
    (behind octets before (field_bytes (long n)) rest (bytes_of done) e) (omega (arith, place, length-append before (field_bytes (long n)))))
reached octets before rest (field of_word l m next) at (long n ∷ done) others x live a e place = let no : of_long ≡ of_word = a.0 in cc
reached octets before rest (field of_long l m next) at (word n ∷ done) others x live a e place = let no : of_word ≡ of_long = a.0 in cc

same_size : (f g : Field) → field_len f ≡ field_len g → size_of f ≡ size_of g
same_size (word n) (word k) e = refl
same_size (long n) (long k) e = refl
same_size (word n) (long k) e = absurd (omega (arith, e))
same_size (long n) (word k) e = absurd (omega (arith, e))

sized : (s : Size) (f : Field) → size_of f ≡ s → (n : ℕ) × (f ≡ field_of s n)
sized of_word (word n) e = (n, refl)
sized of_long (long n) e = (n, refl)
sized of_word (long n) e = cc
sized of_long (word n) e = cc

-- nothing more is taken at an end alone
pub read_end : {A : Type 0} (octets : List ℕ) (t : Layout A) (at : ℕ) (x : A) → Accepts t [] x → Reading octets t at (Ok (x, at))
read_end octets (end y) at x a = subst (λ w. Reading octets (end y) at (Ok (w, at))) (sym a) ended
read_end octets (field s l m next) at x a = absurd a

pub read_short : {A : Type 0} (octets : List ℕ) (t : Layout A) (at : ℕ) (f : Field) (fs : List Field) (x : A)
    → Accepts t (f ∷ fs) x → length octets < at + field_len f → Reading octets t at (Err (Short at))
read_short octets (end y) at f fs x a short = absurd a
read_short octets (field s l m next) at (word n) fs x a short =
    cut (subst (λ w. length octets < at + size_len w) a.0 short)
read_short octets (field s l m next) at (long n) fs x a short =
    cut (subst (λ w. length octets < at + size_len w) a.0 short)

out_or_in : (l m n : ℕ) → ((n < l) ⊎ (m < n)) ⊎ ((l ≤ n) × (n ≤ m))
out_or_in l m n =
    elim (cases_lt n l) [
      | inl less ↦ inl (inl less)
      | inr low ↦ elim (cases_lt m n) [ inl above ↦ inl (inr above) | inr high ↦ inr (low, high) ]
    ]

-- a field is out of range where it takes no header on
pub read_out : {A : Type 0} (octets : List ℕ) (t : Layout A) (at : ℕ) (f g : Field) (fs : List Field) (x : A) (before rest : List ℕ)
    → Live t → Accepts t (f ∷ fs) x → field_len g ≡ field_len f → HasRoom g
    → ((gs : List Field) (y : A) → Accepts t (g ∷ gs) y → ⊥)
    → octets ≡ before ++ (field_bytes g ++ rest) → at ≡ length before → Reading octets t at (Err (BadField at))
read_out octets (end y) at f g fs x before rest live a len room never e place = absurd a
read_out octets (field s l m next) at f g fs x before rest live a len room never e place =
    let (n, are) = sized s g (same_size g f len ∙ a.0) in
    let stands = stands_behind octets before rest at s n (subst HasRoom are room) (e ∙ ap (λ w. before ++ (field_bytes w ++ rest)) are) place in
    elim (out_or_in l m n) [
      | inl outside ↦ out n stands outside
      | inr within ↦
          let (gs, y, b) = live_some (next n) (live.2 n within.0 within.1) in
          absurd (never gs y (subst (λ w. Accepts (field s l m next) (w ∷ gs) y) (sym are) (accepts_field s l m n next gs y within.0 within.1 b)))
    ]
