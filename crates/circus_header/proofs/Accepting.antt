-- Which fields a layout takes, and what they mean.
use Rattle.std.proofs.lemmas.List.{append-nil}
use Rattle.std.proofs.lemmas.List.Elements.{All-nil, All-cons, All-head, All-tail}
use Rattle.std.proofs.Common.{◌≡◌, ℕ, zero, suc, ◌≤◌, List, [], ◌∷◌, ◌++◌, length, map, All, refl, sym, ap, ◌∙◌, subst, arith, append_assoc}
use Rattle.circus_header.specs.Field.{Field, word, long, HasRoom}
use Rattle.circus_header.specs.Seen.Layout.{Size, of_word, of_long, field_of, Layout, end, field, then_layout, numbers}

abbrev pub size_of : Field → Size
size_of (word _) = of_word
size_of (long _) = of_long

abbrev pub number_of : Field → ℕ
number_of (word n) = n
number_of (long n) = n

-- the layout takes these fields, which mean this
abbrev pub Accepts : {A : Type 0} → Layout A → List Field → A → Type 0
Accepts (end y) [] x = x ≡ y
Accepts (end y) (_ ∷ _) x = ⊥
Accepts (field size least most next) [] x = ⊥
Accepts (field size least most next) (f ∷ fs) x =
    (size_of f ≡ size) × (least ≤ number_of f) × (number_of f ≤ most) × Accepts (next (number_of f)) fs x

-- each place of the layout leads to an end
abbrev pub Live : {A : Type 0} → Layout A → Type 0
Live (end x) = Unit {0}
Live (field size least most next) =
    (least ≤ most) × HasRoom (field_of size most) × ((n : ℕ) → least ≤ n → n ≤ most → Live (next n))

pub room_below : (s : Size) (m n : ℕ) → HasRoom (field_of s m) → n ≤ m → HasRoom (field_of s n)
room_below of_word m n room le = omega arith
room_below of_long m n room le = omega arith

pub accepts_field : {A : Type 0} (s : Size) (l m n : ℕ) (next : ℕ → Layout A) (fs : List Field) (x : A)
    → l ≤ n → n ≤ m → Accepts (next n) fs x → Accepts (field s l m next) (field_of s n ∷ fs) x
accepts_field of_word l m n next fs x low high a = (refl, low, high, a)
accepts_field of_long l m n next fs x low high a = (refl, low, high, a)

-- the first of the fields that a layout takes, and the others
pub record Front {A : Type 0} (s : Size) (l m : ℕ) (next : ℕ → Layout A) (fs : List Field) (x : A) : Type 0 where
  pub n : ℕ
  pub others : List Field
  pub are : fs ≡ field_of s n ∷ others
  pub low : l ≤ n
  pub high : n ≤ m
  pub taken : Accepts (next n) others x

pub front : {A : Type 0} (s : Size) (l m : ℕ) (next : ℕ → Layout A) (fs : List Field) (x : A)
    → Accepts (field s l m next) fs x → Front s l m next fs x
front s l m next [] x a = absurd a
front of_word l m next (word n ∷ fs) x a = record { n = n; others = fs; are = refl; low = a.1; high = a.2; taken = a.3 }
front of_long l m next (long n ∷ fs) x a = record { n = n; others = fs; are = refl; low = a.1; high = a.2; taken = a.3 }
front of_word l m next (long n ∷ fs) x a = let no : of_long ≡ of_word = a.0 in cc
front of_long l m next (word n ∷ fs) x a = let no : of_word ≡ of_long = a.0 in cc

pub live_some : {A : Type 0} (t : Layout A) → Live t → (fs : List Field) × (x : A) × Accepts t fs x
live_some (end x) live = ([], x, refl)
live_some (field s l m next) live =
    let (fs, x, a) = live_some (next l) (live.2 l (omega arith) live.0) in
    (field_of s l ∷ fs, x, accepts_field s l m l next fs x (omega arith) live.0 a)

pub room_of : {A : Type 0} (t : Layout A) (fs : List Field) (x : A) → Live t → Accepts t fs x → All HasRoom fs
room_of (end y) [] x live a = All-nil HasRoom
room_of (end y) (f ∷ fs) x live a = absurd a
room_of (field s l m next) [] x live a = absurd a
room_of (field of_word l m next) (word n ∷ fs) x live a =
    All-cons HasRoom (word n) fs (room_below of_word m n live.1 a.2) (room_of (next n) fs x (live.2 n a.1 a.2) a.3)
room_of (field of_long l m next) (long n ∷ fs) x live a =
    All-cons HasRoom (long n) fs (room_below of_long m n live.1 a.2) (room_of (next n) fs x (live.2 n a.1 a.2) a.3)
room_of (field of_word l m next) (long n ∷ fs) x live a = let no : of_long ≡ of_word = a.0 in cc
room_of (field of_long l m next) (word n ∷ fs) x live a = let no : of_word ≡ of_long = a.0 in cc

pub accepts_followed : {A B : Type 0} (t : Layout A) (k : A → Layout B) (fs gs : List Field) (x : A) (y : B)
    → Accepts t fs x → Accepts (k x) gs y → Accepts (then_layout t k) (fs ++ gs) y
accepts_followed (end z) k [] gs x y a b = subst (λ w. Accepts (k w) gs y) a b
accepts_followed (end z) k (f ∷ fs) gs x y a b = absurd a
accepts_followed (field s l m next) k [] gs x y a b = absurd a
accepts_followed (field s l m next) k (f ∷ fs) gs x y a b =
    (a.0, a.1, a.2, accepts_followed (next (number_of f)) k fs gs x y a.3 b)

-- the fields that two layouts take one after another
pub record Parted {A B : Type 0} (t : Layout A) (k : A → Layout B) (hs : List Field) (y : B) : Type 0 where
  pub fs : List Field
  pub gs : List Field
  pub x : A
  pub are : hs ≡ fs ++ gs
  pub first : Accepts t fs x
  pub second : Accepts (k x) gs y

pub parted : {A B : Type 0} (t : Layout A) (k : A → Layout B) (hs : List Field) (y : B)
    → Accepts (then_layout t k) hs y → Parted t k hs y
parted (end x) k hs y a = record { fs = []; gs = hs; x = x; are = refl; first = refl; second = a }
parted (field s l m next) k [] y a = absurd a
parted (field s l m next) k (f ∷ hs) y a =
    let p = parted (next (number_of f)) k hs y a.3 in
    record { fs = f ∷ p.fs; gs = p.gs; x = p.x; are = ap (λ r. f ∷ r) p.are; first = (a.0, a.1, a.2, p.first); second = p.second }

pub live_followed : {A B : Type 0} (t : Layout A) (k : A → Layout B)
    → Live t → ((fs : List Field) (x : A) → Accepts t fs x → Live (k x)) → Live (then_layout t k)
live_followed (end x) k live each = each [] x refl
live_followed (field s l m next) k live each = (
  live.0,
  live.1,
  λ n low high. live_followed (next n) k (live.2 n low high)
      (λ fs x a. each (field_of s n ∷ fs) x (accepts_field s l m n next fs x low high a)),
)

pub live_numbers : (s : Size) (l m count : ℕ) (done : List ℕ) → l ≤ m → HasRoom (field_of s m) → Live (numbers s l m count done)
live_numbers s l m zero done le room = tt
live_numbers s l m (suc count) done le room = (le, room, λ n low high. live_numbers s l m count (done ++ n ∷ []) le room)

pub accepts_numbers : (s : Size) (l m : ℕ) (xs done : List ℕ) → All (λ n. (l ≤ n) × (n ≤ m)) xs
    → Accepts (numbers s l m (length xs) done) (map (field_of s) xs) (done ++ xs)
accepts_numbers s l m [] done each = append-nil done
accepts_numbers s l m (x ∷ xs) done each =
    let InRange : ℕ → Type 0 = λ n. (l ≤ n) × (n ≤ m) in
    let here = All-head InRange x xs each in
    let rest = accepts_numbers s l m xs (done ++ x ∷ []) (All-tail InRange x xs each) in
    accepts_field s l m x (λ n. numbers s l m (length xs) (done ++ n ∷ [])) (map (field_of s) xs) (done ++ x ∷ xs) here.0 here.1
    (subst (λ w. Accepts (numbers s l m (length xs) (done ++ x ∷ [])) (map (field_of s) xs) w) (append_assoc done (x ∷ []) xs) rest)

-- the numbers that so many fields say, behind others
pub record Counted (s : Size) (l m count : ℕ) (done : List ℕ) (fs : List Field) (ns : List ℕ) : Type 0 where
  pub xs : List ℕ
  pub all : ns ≡ done ++ xs
  pub many : length xs ≡ count
  pub are : fs ≡ map (field_of s) xs
  pub each : All (λ n. (l ≤ n) × (n ≤ m)) xs

pub counted : (s : Size) (l m count : ℕ) (done : List ℕ) (fs : List Field) (ns : List ℕ)
    → Accepts (numbers s l m count done) fs ns → Counted s l m count done fs ns
counted s l m zero done [] ns a = record { xs = []; all = a ∙ sym (append-nil done); many = refl; are = refl; each = All-nil (λ n. (l ≤ n) × (n ≤ m)) }
counted s l m zero done (f ∷ fs) ns a = absurd a
counted s l m (suc count) done fs ns a =
    let p = front s l m (λ n. numbers s l m count (done ++ n ∷ [])) fs ns a in
    let q = counted s l m count (done ++ p.n ∷ []) p.others ns p.taken in
    record {
      xs = p.n ∷ q.xs;
      all = q.all ∙ append_assoc done (p.n ∷ []) q.xs;
      many = ap suc q.many;
      are = p.are ∙ ap (λ r. field_of s p.n ∷ r) q.are;
      each = All-cons (λ n. (l ≤ n) × (n ≤ m)) p.n q.xs (p.low, p.high) q.each;
    }

pub taken_field : {A : Type 0} (s : Size) (l m n : ℕ) (next : ℕ → Layout A) (fs : List Field) (x : A)
    → Accepts (field s l m next) (field_of s n ∷ fs) x → (l ≤ n) × (n ≤ m) × Accepts (next n) fs x
taken_field of_word l m n next fs x a = (a.1, a.2, a.3)
taken_field of_long l m n next fs x a = (a.1, a.2, a.3)

-- a layout whose meaning is put into another form
pub accepts_mapped : {A B : Type 0} (t : Layout A) (f : A → B) (fs : List Field) (x : A)
    → Accepts t fs x → Accepts (then_layout t (λ y. end (f y))) fs (f x)
accepts_mapped t f fs x a =
    subst (λ w. Accepts (then_layout t (λ y. end (f y))) w (f x)) (append-nil fs) (accepts_followed t (λ y. end (f y)) fs [] x (f x) a refl)

pub record Mapped {A B : Type 0} (t : Layout A) (f : A → B) (fs : List Field) (z : B) : Type 0 where
  pub x : A
  pub is : z ≡ f x
  pub taken : Accepts t fs x

pub ends_with : {A : Type 0} (y : A) (gs : List Field) (x : A) → Accepts (end y) gs x → (gs ≡ []) × (x ≡ y)
ends_with y [] x a = (refl, a)
ends_with y (g ∷ gs) x a = absurd a

pub mapped : {A B : Type 0} (t : Layout A) (f : A → B) (hs : List Field) (z : B)
    → Accepts (then_layout t (λ y. end (f y))) hs z → Mapped t f hs z
mapped t f hs z a =
    let p = parted t (λ y. end (f y)) hs z a in
    let last = ends_with (f p.x) p.gs z p.second in
    let same : p.fs ≡ hs = sym (p.are ∙ ap (λ r. p.fs ++ r) last.0 ∙ append-nil p.fs) in
    record { x = p.x; is = last.1; taken = subst (λ w. Accepts t w p.x) same p.first }
