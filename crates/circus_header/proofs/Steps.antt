-- Readings one after another.
use Rattle.std.proofs.Common.{refl, ◌≡◌, ℕ, zero, suc, ◌+◌, ◌-◌, ◌<◌, ◌≤◌, List, [], ◌∷◌, ◌++◌, Result, arith, Ok, Err, sym, subst}
use Rattle.std.specs.Result.{IsErr, IsErrAnd}
use Rattle.std.proofs.lemmas.Result.{err_from_is_err_and}
use Rattle.circus_header.specs.Field.{Field}
use Rattle.circus_header.specs.declared.party.Client.{Client}
use Rattle.circus_header.specs.declared.party.Server.{Server}
use Rattle.circus_header.proofs.Accepting.{Accepts, accepts_field}
use Rattle.circus_header.proofs.Asks.{client_meant, server_meant}
use Rattle.circus_header.specs.Seen.Layout.{field_of, size_len, Size, Layout, end, field, then_layout, one, numbers, Reading, refused, ended, cut, out, more}
use Rattle.circus_header.specs.Seen.Layouts.{client_layout, server_layout, fetch_layout, call_by, return_by}
use Rattle.circus_header.specs.declared.call.Call.{Call}
use Rattle.circus_header.specs.declared.answer.ReturnHeader.{ReturnHeader}
use Rattle.circus_header.specs.declared.answer.ReturnHeader.TheVariants.{Table}
use Rattle.circus_header.specs.declared.header_fault.HeaderFault.{HeaderFault}
use Rattle.circus_header.specs.declared.header_fault.HeaderFault.TheVariants.{NoMemory}

-- what follows a reading: the reading of what comes next, or its fault
abbrev pub After : {A B : Type 0} → List ℕ → (A → Layout B) → Result (A × ℕ) HeaderFault → Result (B × ℕ) HeaderFault → Type 0
After octets next (Ok x) q = Reading octets (next x.0) x.1 q
After octets next (Err e) q = q ≡ Err e

pub read_on : {A B : Type 0} (octets : List ℕ) (t : Layout A) (next : A → Layout B) (at : ℕ) (r : Result (A × ℕ) HeaderFault) (q : Result (B × ℕ) HeaderFault)
    → Reading octets t at r → After octets next r q → Reading octets (then_layout t next) at q
read_on octets t next at r q refused a = subst (λ w. Reading octets (then_layout t next) at w) (sym a) refused
read_on octets (end x) next at r q ended a = a
read_on octets (field s l m k) next at r q (cut short) a = subst (λ w. Reading octets (then_layout (field s l m k) next) at w) (sym a) (cut short)
read_on octets (field s l m k) next at r q (out n stands outside) a =
    subst (λ w. Reading octets (then_layout (field s l m k) next) at w) (sym a) (out n stands outside)
read_on octets (field s l m k) next at r q (more n stands low high rest) a = more n stands low high (read_on octets (k n) next _ r q rest a)

-- the fault that `?` passes on
pub passed : {B : Type 0} (q : Result B HeaderFault) (e : HeaderFault) → IsErr q × IsErrAnd q (λ f. f ≡ e) → q ≡ Err e
passed q e p = let (f, is, same) = err_from_is_err_and q p.1 in subst (λ w. q ≡ Err w) same is

pub next_read : {B : Type 0} {octets : List ℕ} {s : Size} {l m : ℕ} {next : ℕ → Layout B} {at n to : ℕ} {q : Result (B × ℕ) HeaderFault}
    → Reading octets (one s l m) at (Ok (n, to)) → Reading octets (next n) to q → Reading octets (field s l m next) at q
next_read {octets = octets} {s = s} {l = l} {m = m} {next = next} {at = at} {n = n} {to = to} {q = q} a b = read_on octets (one s l m) next at (Ok (n, to)) q a b

pub next_failed : {B : Type 0} {octets : List ℕ} {s : Size} {l m : ℕ} {next : ℕ → Layout B} {at : ℕ} {e : HeaderFault} {q : Result (B × ℕ) HeaderFault}
    → Reading octets (one s l m) at (Err e) → IsErr q × IsErrAnd q (λ f. f ≡ e) → Reading octets (field s l m next) at q
next_failed {octets = octets} {s = s} {l = l} {m = m} {next = next} {at = at} {e = e} {q = q} a p = read_on octets (one s l m) next at (Err e) q a (passed q e p)

pub then_read : {A B : Type 0} {octets : List ℕ} (t : Layout A) (next : A → Layout B) {at : ℕ} {x : A} {to : ℕ} {q : Result (B × ℕ) HeaderFault}
    → Reading octets t at (Ok (x, to)) → Reading octets (next x) to q → Reading octets (then_layout t next) at q
then_read {octets = octets} t next {at = at} {x = x} {to = to} {q = q} a b = read_on octets t next at (Ok (x, to)) q a b

pub then_failed : {A B : Type 0} {octets : List ℕ} (t : Layout A) (next : A → Layout B) {at : ℕ} {e : HeaderFault} {q : Result (B × ℕ) HeaderFault}
    → Reading octets t at (Err e) → IsErr q × IsErrAnd q (λ f. f ≡ e) → Reading octets (then_layout t next) at q
then_failed {octets = octets} t next {at = at} {e = e} {q = q} a p = read_on octets t next at (Err e) q a (passed q e p)

-- want of memory stands for any answer
pub none_read : {A : Type 0} {octets : List ℕ} {t : Layout A} {at : ℕ} {q : Result (A × ℕ) HeaderFault}
    → IsErr q × IsErrAnd q (λ f. f ≡ NoMemory) → Reading octets t at q
none_read {octets = octets} {t = t} {at = at} {q = q} p = subst (λ w. Reading octets t at w) (sym (passed q NoMemory p)) refused

-- one more of so many numbers
module _ (octets : List ℕ) (s : Size) (l m count i : ℕ) (done : List ℕ) (at : ℕ) where
  pub number_more : {n to : ℕ} {q : Result (List ℕ × ℕ) HeaderFault} → i < count → Reading octets (one s l m) at (Ok (n, to))
      → Reading octets (numbers s l m (count - (i + 1)) (done ++ n ∷ [])) to q → Reading octets (numbers s l m (count - i) done) at q
  number_more {q = q} less a b =
      let left : suc (count - (i + 1)) ≡ count - i = omega arith in
      subst (λ k. Reading octets (numbers s l m k done) at q) left (next_read a b)

  pub number_failed : {e : HeaderFault} {q : Result (List ℕ × ℕ) HeaderFault} → i < count → Reading octets (one s l m) at (Err e)
      → IsErr q × IsErrAnd q (λ f. f ≡ e) → Reading octets (numbers s l m (count - i) done) at q
  number_failed {q = q} less a p =
      let left : suc (count - (i + 1)) ≡ count - i = omega arith in
      subst (λ k. Reading octets (numbers s l m k done) at q) left (next_failed a p)

  pub number_end : count ≤ i → Reading octets (numbers s l m (count - i) done) at (Ok (done, at))
  number_end all =
      let left : 0 ≡ count - i = omega arith in
      subst (λ k. Reading octets (numbers s l m k done) at (Ok (done, at))) left ended

-- what was read was taken by the layout
abbrev pub Taken : {A : Type 0} → Layout A → Result (A × ℕ) HeaderFault → Type 0
Taken t (Ok x) = (fs : List Field) × Accepts t fs x.0
Taken t (Err e) = Unit {0}

taken_more : {A : Type 0} (s : Size) (l m n : ℕ) (next : ℕ → Layout A) (r : Result (A × ℕ) HeaderFault) → l ≤ n → n ≤ m → Taken (next n) r → Taken (field s l m next) r
taken_more s l m n next (Ok x) low high a = (field_of s n ∷ a.0, accepts_field s l m n next a.0 x.0 low high a.1)
taken_more s l m n next (Err e) low high a = tt

pub reading_taken : {A : Type 0} (octets : List ℕ) (t : Layout A) (at : ℕ) (r : Result (A × ℕ) HeaderFault) → Reading octets t at r → Taken t r
reading_taken octets t at r refused = tt
reading_taken octets (end x) at r ended = ([], refl)
reading_taken octets t at r (cut short) = tt
reading_taken octets t at r (out n stands outside) = tt
reading_taken octets (field s l m next) at r (more n stands low high rest) =
    taken_more s l m n next r low high (reading_taken octets (next n) (at + size_len s) r rest)

pub client_below : {octets : List ℕ} {at to : ℕ} {x : Client} → Reading octets client_layout at (Ok (x, to)) → x.number ≤ 31
client_below {octets = octets} {at = at} {to = to} {x = x} a =
    let (fs, taken) = reading_taken octets client_layout at (Ok (x, to)) a in (client_meant x fs taken).most

pub server_below : {octets : List ℕ} {at to : ℕ} {x : Server} → Reading octets server_layout at (Ok (x, to)) → x.number ≤ 31
server_below {octets = octets} {at = at} {to = to} {x = x} a =
    let (fs, taken) = reading_taken octets server_layout at (Ok (x, to)) a in (server_meant x fs taken).most

pub call_at : {octets : List ℕ} {at : ℕ} {q : Result (Call × ℕ) HeaderFault} (n k : ℕ) → n ≡ k → Reading octets (call_by k) at q → Reading octets (call_by n) at q
call_at {octets = octets} {at = at} {q = q} n k same a = subst (λ w. Reading octets (call_by w) at q) (sym same) a

pub return_at : {octets : List ℕ} {at : ℕ} {q : Result (ReturnHeader × ℕ) HeaderFault} (n k : ℕ) → n ≡ k → Reading octets (return_by k) at q → Reading octets (return_by n) at q
return_at {octets = octets} {at = at} {q = q} n k same a = subst (λ w. Reading octets (return_by w) at q) (sym same) a

pub call_beyond : {octets : List ℕ} {at : ℕ} {q : Result (Call × ℕ) HeaderFault} (n : ℕ) → 1 < n → Reading octets fetch_layout at q → Reading octets (call_by n) at q
call_beyond zero less a = absurd (omega arith)
call_beyond (suc zero) less a = absurd (omega arith)
call_beyond (suc (suc n)) less a = a

pub return_beyond : {octets : List ℕ} {at : ℕ} {q : Result (ReturnHeader × ℕ) HeaderFault} (n : ℕ) → 3 < n → Reading octets (end Table) at q → Reading octets (return_by n) at q
return_beyond zero less a = absurd (omega arith)
return_beyond (suc zero) less a = absurd (omega arith)
return_beyond (suc (suc zero)) less a = absurd (omega arith)
return_beyond (suc (suc (suc zero))) less a = absurd (omega arith)
return_beyond (suc (suc (suc (suc n)))) less a = a
