-- Layouts: which field may come next, at each place of a header.
use Rattle.std.specs.Prelude.{ℕ, zero, suc, ◌≡◌, ◌+◌, ◌<◌, ◌≤◌, ◌⊎◌, List, [], ◌∷◌, ◌++◌, length, drop, Result, Ok, Err}
use Rattle.circus_header.specs.Field.{Field, word, long, HasRoom, field_bytes}
use Rattle.circus_header.specs.declared.header_fault.HeaderFault.{HeaderFault}
use Rattle.circus_header.specs.declared.header_fault.HeaderFault.TheVariants.{Short, BadField, NoMemory}

-- how long a field is
pub data Size : Type 0 where
  of_word : Size
  of_long : Size

abbrev pub field_of : Size → ℕ → Field
field_of of_word n = word n
field_of of_long n = long n

abbrev pub size_len : Size → ℕ
size_len of_word = 2
size_len of_long = 4

-- nothing more, and what the fields so far mean; or a field from a least to a most number, and then what
-- comes after each of these
pub data Layout (A : Type 0) : Type 0 where
  end : A → Layout A
  field : Size → ℕ → ℕ → (ℕ → Layout A) → Layout A

-- one layout, and then the one that its meaning calls for
abbrev pub then_layout : {A B : Type 0} → Layout A → (A → Layout B) → Layout B
then_layout (end x) more = more x
then_layout (field size least most next) more = field size least most (λ n. then_layout (next n) more)

-- one field
abbrev pub one : Size → ℕ → ℕ → Layout ℕ
one size least most = field size least most (λ n. end n)

-- as many fields as are said, behind numbers that are there already
abbrev pub numbers : Size → ℕ → ℕ → ℕ → List ℕ → Layout (List ℕ)
numbers size least most zero done = end done
numbers size least most (suc count) done = field size least most (λ n. numbers size least most count (done ++ n ∷ []))

-- this number stands at the place
pub record StandsAt (octets : List ℕ) (at : ℕ) (size : Size) (n : ℕ) : Type 0 where
  pub room : HasRoom (field_of size n)
  pub here : drop at octets ≡ field_bytes (field_of size n) ++ drop (at + size_len size) octets

-- what is read by a layout from a place on
pub data Reading {A : Type 0} (octets : List ℕ) : Layout A → ℕ → Result (A × ℕ) HeaderFault → Type 0 where
  refused : {layout : Layout A} {at : ℕ} → Reading octets layout at (Err NoMemory)
  ended : {x : A} {at : ℕ} → Reading octets (end x) at (Ok (x, at))
  cut : {size : Size} {least most : ℕ} {next : ℕ → Layout A} {at : ℕ}
      → length octets < at + size_len size → Reading octets (field size least most next) at (Err (Short at))
  out : {size : Size} {least most : ℕ} {next : ℕ → Layout A} {at : ℕ} (n : ℕ)
      → StandsAt octets at size n → (n < least) ⊎ (most < n) → Reading octets (field size least most next) at (Err (BadField at))
  more : {size : Size} {least most : ℕ} {next : ℕ → Layout A} {at : ℕ} {found : Result (A × ℕ) HeaderFault} (n : ℕ)
      → StandsAt octets at size n → least ≤ n → n ≤ most → Reading octets (next n) (at + size_len size) found
      → Reading octets (field size least most next) at found
