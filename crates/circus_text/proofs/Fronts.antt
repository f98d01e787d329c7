-- What the first byte tells of the piece that begins with it, and how long that piece can be.
use Rattle.std.proofs.Common.{◌⊎◌, ◌≡◌, ℕ, zero, suc, ◌+◌, ◌<◌, ◌≤◌, Bool, true, false, not, cond, ◌&&◌, ◌||◌, eqb, List, [], ◌∷◌, ◌++◌, length, get_or, take, drop, refl, sym, ◌∙◌, ap, subst, arith, append_assoc, inl, inr, Some}
use Rattle.std.specs.Prelude.{Contains, codes, ◌==◌}
use Rattle.std.specs.List.{list_all, list_any, prefix_len}
use Rattle.std.proofs.Math.Numerals.{one-add}
use Rattle.std.proofs.lemmas.List.{take-append-drop, length-take-le, take_at, drop_more, length-append, get_or_at}
use Rattle.std.proofs.lemmas.Bool.{false≢true}
use Rattle.std.proofs.lemmas.List.Elements.{All-contains}
use Rattle.std.proofs.lemmas.List.Sums.{AllPass-from_list_all, prefix_len-le-length}
use Rattle.circus_text.specs.declared.byte_class.ByteClass.{ByteClass}
use Rattle.circus_text.specs.declared.byte_class.ByteClass.TheVariants.{Letter, Digit, Quote, Space, Mark, Other}
use Rattle.circus_text.specs.declared.token.TokenKind.TheVariants.{Word, Number, Quoted, Sign}
use Rattle.circus_text.specs.declared.front.Form.{Form}
use Rattle.circus_text.specs.declared.front.Form.TheVariants.{Token, Spacing, Comment}
use Rattle.circus_text.specs.ByteClass.{quote, newline, class_of, is_word_class, is_digit_class, is_space_class, is_mark}
use Rattle.circus_text.specs.Form.{IsWord, IsSign, IsComment, HasForm, is_inside, double_signs}
use Rattle.circus_text.specs.Front.{IsFirst, Piece, BeginsWith, BeginsNothing, IsLongestFront}

-- the class of the first byte of a form
abbrev pub opener : Form → ByteClass
opener (Token Word) = Letter
opener (Token Number) = Digit
opener (Token Quoted) = Quote
opener (Token Sign) = Mark
opener Spacing = Space
opener Comment = Mark

-- the parts of a test that holds
both : (p q : Bool) → (p && q) ≡ true → (p ≡ true) × (q ≡ true)
both true true e = (refl, refl)
both true false e = cc
both false q e = cc

pub digit_class : (k : ByteClass) → is_digit_class k ≡ true → k ≡ Digit
digit_class Digit e = refl
digit_class _ e = cc

space_class : (k : ByteClass) → is_space_class k ≡ true → k ≡ Space
space_class Space e = refl
space_class _ e = cc

abbrev is_mark_class : ByteClass → Bool
is_mark_class Mark = true
is_mark_class _ = false

mark_class : (k : ByteClass) → is_mark_class k ≡ true → k ≡ Mark
mark_class Mark e = refl
mark_class _ e = cc

same_number : (b m : ℕ) → eqb b m ≡ true → b ≡ m
same_number b m e = grind arith

-- one of the listed bytes passes a test that all of them pass
listed_passes : (p : ℕ → Bool) (ms : List ℕ) → list_all p ms ≡ true → (b : ℕ) → list_any (λ m. b == m) ms ≡ true → p b ≡ true
listed_passes p [] all b any = cc
listed_passes p (m ∷ ms) all b any = elim (eqb b m) as (λ t. eqb b m ≡ t → (t || list_any (λ x. b == x) ms) ≡ true → p b ≡ true) [
  | true ↦ λ same _. ap p (same_number b m same) ∙ (both (p m) (list_all p ms) all).0
  | false ↦ λ _ rest. listed_passes p ms (both (p m) (list_all p ms) all).1 b rest
] refl any

mark_first : (b : ℕ) → is_mark b ≡ true → class_of b ≡ Mark
mark_first b e = mark_class (class_of b) (listed_passes (λ m. is_mark_class (class_of m)) (codes ";:,.=<>+-*&#()[]{}") refl b e)

-- two bytes of class Mark that are not two dashes
abbrev is_double : List ℕ → Bool
is_double (a ∷ b ∷ []) = is_mark_class (class_of a) && (is_mark_class (class_of b) && not (eqb a 45 && eqb b 45))
is_double _ = false

double_sign : (w : List ℕ) → Contains double_signs w → is_double w ≡ true
double_sign w among = All-contains (λ s. is_double s ≡ true) double_signs w (AllPass-from_list_all is_double double_signs refl) among

-- The first byte of anything that has a form is of the form's class.
pub first_of : (f : Form) (w : List ℕ) → HasForm f w → IsFirst (opener f) w
first_of (Token Word) [] h = h
first_of (Token Word) (b ∷ bs) h = h.0
first_of (Token Number) [] h = omega (arith, h.0)
first_of (Token Number) (b ∷ bs) h = digit_class (class_of b) (both _ (list_all (λ c. is_digit_class (class_of c)) bs) h.1).0
first_of (Token Quoted) w (content, same, inside) = subst (IsFirst Quote) (sym same) refl
first_of (Token Sign) [] h = h
first_of (Token Sign) (b ∷ []) h = mark_first b h
first_of (Token Sign) (b ∷ c ∷ []) h = mark_class (class_of b) (both _ _ (double_sign (b ∷ c ∷ []) h)).0
first_of (Token Sign) (b ∷ c ∷ d ∷ bs) h = let none : false ≡ true = double_sign (b ∷ c ∷ d ∷ bs) h in cc
first_of Spacing [] h = omega (arith, h.0)
first_of Spacing (b ∷ bs) h = space_class (class_of b) (both _ (list_all (λ c. is_space_class (class_of c)) bs) h.1).0
first_of Comment w (body, same, line) = subst (IsFirst Mark) (sym same) refl

-- a list and what goes on from it begin alike
pub first_append : (class : ByteClass) (w after : List ℕ) → IsFirst class w → IsFirst class (w ++ after)
first_append class [] after h = absurd h
first_append class (b ∷ bs) after h = h

same_first : (j k : ByteClass) (w : List ℕ) → IsFirst j w → IsFirst k w → j ≡ k
same_first j k [] h i = absurd h
same_first j k (b ∷ bs) h i = sym h ∙ i

-- so the first byte of a text tells the form of what it begins with, but for signs and comments
pub opener_is : (text : List ℕ) (k : ByteClass) (p : Piece) → IsFirst k text → BeginsWith text p → opener p.form ≡ k
opener_is text k p first begins =
    let (after, same) = begins.front in
    same_first (opener p.form) k text (subst (IsFirst (opener p.form)) (sym same) (first_append _ p.bytes after (first_of p.form p.bytes begins.formed))) first

pub letter_form : (f : Form) → opener f ≡ Letter → f ≡ Token Word
letter_form (Token Word) e = refl
letter_form (Token Number) e = cc
letter_form (Token Quoted) e = cc
letter_form (Token Sign) e = cc
letter_form Spacing e = cc
letter_form Comment e = cc

pub digit_form : (f : Form) → opener f ≡ Digit → f ≡ Token Number
digit_form (Token Word) e = cc
digit_form (Token Number) e = refl
digit_form (Token Quoted) e = cc
digit_form (Token Sign) e = cc
digit_form Spacing e = cc
digit_form Comment e = cc

quote_form : (f : Form) → opener f ≡ Quote → f ≡ Token Quoted
quote_form (Token Word) e = cc
quote_form (Token Number) e = cc
quote_form (Token Quoted) e = refl
quote_form (Token Sign) e = cc
quote_form Spacing e = cc
quote_form Comment e = cc

pub space_form : (f : Form) → opener f ≡ Space → f ≡ Spacing
space_form (Token Word) e = cc
space_form (Token Number) e = cc
space_form (Token Quoted) e = cc
space_form (Token Sign) e = cc
space_form Spacing e = refl
space_form Comment e = cc

other_form : (f : Form) → opener f ≡ Other → ⊥
other_form (Token Word) e = cc
other_form (Token Number) e = cc
other_form (Token Quoted) e = cc
other_form (Token Sign) e = cc
other_form Spacing e = cc
other_form Comment e = cc

pub mark_form : (f : Form) → opener f ≡ Mark → (f ≡ Token Sign) ⊎ (f ≡ Comment)
mark_form (Token Word) e = cc
mark_form (Token Number) e = cc
mark_form (Token Quoted) e = cc
mark_form (Token Sign) e = inl refl
mark_form Spacing e = cc
mark_form Comment e = inr refl

-- the longest front that passes a test passes it
prefix_passes : (p : ℕ → Bool) (xs : List ℕ) → list_all p (take (prefix_len p xs) xs) ≡ true
prefix_passes p [] = refl
prefix_passes p (x ∷ xs) = elim (p x) as (λ t. p x ≡ t → list_all p (take (cond t (1 + prefix_len p xs) 0) (x ∷ xs)) ≡ true) [
  | true ↦ λ e. rw one-add (rw e (prefix_passes p xs))
  | false ↦ λ e. refl
] refl

-- no front that passes is longer
pub prefix_bound : (p : ℕ → Bool) (xs w after : List ℕ) → xs ≡ w ++ after → list_all p w ≡ true → length w ≤ prefix_len p xs
prefix_bound p xs w after e all = subst (λ l. length w ≤ prefix_len p l) (sym e) (go w all)
  where
    go : (w : List ℕ) → list_all p w ≡ true → length w ≤ prefix_len p (w ++ after)
    go [] all = omega arith
    go (x ∷ w) all =
        let parts = both (p x) (list_all p w) all in
        rw parts.0 (omega (arith, go w parts.1))

-- a front that passes and stands before a byte that fails is all of the longest one
prefix_stops : (p : ℕ → Bool) (xs w after : List ℕ) (x : ℕ) → xs ≡ w ++ x ∷ after → list_all p w ≡ true → p x ≡ false → prefix_len p xs ≡ length w
prefix_stops p xs w after x e all fails = ap (prefix_len p) e ∙ go w all
  where
    go : (w : List ℕ) → list_all p w ≡ true → prefix_len p (w ++ x ∷ after) ≡ length w
    go [] all = rw fails refl
    go (y ∷ w) all =
        let parts = both (p y) (list_all p w) all in
        rw parts.0 (omega (arith, go w parts.1))

-- Nothing begins with a byte that opens no form.
pub begins_nothing : (text : List ℕ) → IsFirst Other text → BeginsNothing text
begins_nothing text first q begins = other_form q.form (opener_is text Other q first begins)

first_take : (class : ByteClass) (n : ℕ) (text : List ℕ) → 0 < n → IsFirst class text → IsFirst class (take n text)
first_take class zero text some first = omega arith
first_take class (suc n) [] some first = first
first_take class (suc n) (b ∷ bs) some first = first

prefix_positive : (p : ℕ → Bool) (b : ℕ) (bs : List ℕ) → p b ≡ true → 0 < prefix_len p (b ∷ bs)
prefix_positive p b bs e = rw e (omega arith)

-- A form whose bytes are those that pass a test: the longest front that passes is the longest piece.
run_longest : (f : Form) (p : ℕ → Bool) (text : List ℕ) → HasForm f (take (prefix_len p text) text) → ((q : Piece) → BeginsWith text q → list_all p q.bytes ≡ true) → IsLongestFront text (Some (f, prefix_len p text))
run_longest f p text formed passes =
    let fits = prefix_len-le-length p text in (
      fits,
      record {
        begins = record { front = (drop (prefix_len p text) text, sym (take-append-drop (prefix_len p text) text)); formed = formed };
        longest = λ q begins.
            let (after, same) = begins.front in
            rw (length-take-le (prefix_len p text) text fits) (prefix_bound p text q.bytes after same (passes q begins));
      },
    )

-- the tests of the bytes of words, numbers and spacing
abbrev pub in_word : ℕ → Bool
in_word b = is_word_class (class_of b)

abbrev pub in_number : ℕ → Bool
in_number b = is_digit_class (class_of b)

abbrev pub in_spacing : ℕ → Bool
in_spacing b = is_space_class (class_of b)

pub word_passes : (w : List ℕ) → IsWord w → list_all in_word w ≡ true
word_passes [] h = absurd h
word_passes (b ∷ bs) h = rw h.0 h.1

word_from : (w : List ℕ) → IsFirst Letter w → list_all in_word w ≡ true → IsWord w
word_from [] first all = first
word_from (b ∷ bs) first all = (first, (both (in_word b) (list_all in_word bs) all).1)

pub longest_word : (text : List ℕ) → IsFirst Letter text → IsLongestFront text (Some (Token Word, prefix_len in_word text))
longest_word [] first = absurd first
longest_word (b ∷ bs) first =
    let text = b ∷ bs in
    let some = prefix_positive in_word b bs (ap is_word_class first) in
    run_longest (Token Word) in_word text
    (word_from (take (prefix_len in_word text) text) (first_take Letter _ text some first) (prefix_passes in_word text))
    (λ q begins. word_passes q.bytes (subst (λ f. HasForm f q.bytes) (letter_form q.form (opener_is text Letter q first begins)) begins.formed))

pub longest_number : (text : List ℕ) → IsFirst Digit text → IsLongestFront text (Some (Token Number, prefix_len in_number text))
longest_number [] first = absurd first
longest_number (b ∷ bs) first =
    let text = b ∷ bs in
    let some = prefix_positive in_number b bs (ap is_digit_class first) in
    let fits = length-take-le (prefix_len in_number text) text (prefix_len-le-length in_number text) in
    run_longest (Token Number) in_number text
    (rw fits some, prefix_passes in_number text)
    (λ q begins. (subst (λ f. HasForm f q.bytes) (digit_form q.form (opener_is text Digit q first begins)) begins.formed).1)

pub longest_spacing : (text : List ℕ) → IsFirst Space text → IsLongestFront text (Some (Spacing, prefix_len in_spacing text))
longest_spacing [] first = absurd first
longest_spacing (b ∷ bs) first =
    let text = b ∷ bs in
    let some = prefix_positive in_spacing b bs (ap is_space_class first) in
    let fits = length-take-le (prefix_len in_spacing text) text (prefix_len-le-length in_spacing text) in
    run_longest Spacing in_spacing text
    (rw fits some, prefix_passes in_spacing text)
    (λ q begins. (subst (λ f. HasForm f q.bytes) (space_form q.form (opener_is text Space q first begins)) begins.formed).1)

-- A front that has a form, and than which none is longer.
longest_with : (f : Form) (n : ℕ) (text w after : List ℕ) → text ≡ w ++ after → length w ≡ n → HasForm f w → ((q : Piece) → BeginsWith text q → length q.bytes ≤ n) → IsLongestFront text (Some (f, n))
longest_with f n text w after same len formed bound =
    let taken : take n text ≡ w = ap (take n) same ∙ take_at w after n len in (
      omega (arith, ap length same, length-append w after),
      record {
        begins = record { front = (after, rw taken same); formed = rw taken formed };
        longest = λ q begins. rw (taken, len) (bound q begins);
      },
    )

-- the test that a class comes from
pub class_chain : (p q r s t : Bool) (k : ByteClass) → cond p Letter (cond q Digit (cond r Quote (cond s Space (cond t Mark Other)))) ≡ k → record { digit : k ≡ Digit → q ≡ true; quote : k ≡ Quote → r ≡ true; mark : k ≡ Mark → t ≡ true }
class_chain true q r s t k e = record { digit = λ is. cc; quote = λ is. cc; mark = λ is. cc }
class_chain false true r s t k e = record { digit = λ is. refl; quote = λ is. cc; mark = λ is. cc }
class_chain false false true s t k e = record { digit = λ is. cc; quote = λ is. refl; mark = λ is. cc }
class_chain false false false true t k e = record { digit = λ is. cc; quote = λ is. cc; mark = λ is. cc }
class_chain false false false false true k e = record { digit = λ is. cc; quote = λ is. cc; mark = λ is. refl }
class_chain false false false false false k e = record { digit = λ is. cc; quote = λ is. cc; mark = λ is. cc }

quote_byte : (b : ℕ) → class_of b ≡ Quote → b ≡ quote
quote_byte b e = same_number b quote ((class_chain _ _ (eqb b quote) _ _ (class_of b) refl).quote e)

mark_byte : (b : ℕ) → class_of b ≡ Mark → is_mark b ≡ true
mark_byte b e = (class_chain _ _ _ _ (is_mark b) (class_of b) refl).mark e

-- a string that begins a text: its content, and what stands behind it
record Closes (text w : List ℕ) : Type 0 where
  content : List ℕ
  after : List ℕ
  same : drop 1 text ≡ content ++ quote ∷ after
  inside : list_all is_inside content ≡ true
  len : length w ≡ length content + 2

closes : (text : List ℕ) → IsFirst Quote text → (q : Piece) → BeginsWith text q → Closes text q.bytes
closes text first q begins =
    let (content, is, inside) = subst (λ f. HasForm f q.bytes) (quote_form q.form (opener_is text Quote q first begins)) begins.formed in
    let (after, same) = begins.front in
    record {
      content = content;
      after = after;
      same = ap (drop 1) (same ∙ ap (λ l. l ++ after) is) ∙ append_assoc content (quote ∷ []) after;
      inside = inside;
      len = ap length is ∙ omega (arith, length-append content (quote ∷ []));
    }

pub inside_is : (text : List ℕ) → IsFirst Quote text → (q : Piece) → BeginsWith text q → prefix_len is_inside (drop 1 text) + 2 ≡ length q.bytes
inside_is text first q begins =
    let c = closes text first q begins in
    omega (arith, prefix_stops is_inside (drop 1 text) c.content c.after quote c.same c.inside refl, c.len)

-- the string that a quote opens, where its line closes it
pub longest_string : (text : List ℕ) → IsFirst Quote text → (n : ℕ) → n ≡ prefix_len is_inside (drop 1 text) → 1 + n < length text → get_or text (1 + n) 0 ≡ quote → IsLongestFront text (Some (Token Quoted, 1 + n + 1))
longest_string [] first n is within closed = absurd first
longest_string (b ∷ more) first n is within closed =
    let inside : n < length more = omega arith in
    let closing : get_or more n 0 ≡ quote = rw one-add at closed in
    let split : more ≡ take n more ++ quote ∷ drop (n + 1) more = sym (take-append-drop n more) ∙ ap (λ l. take n more ++ l) (rw closing at (drop_more more n 0 inside)) in
    let w = quote ∷ take n more ++ quote ∷ [] in
    let whole : b ∷ more ≡ w ++ drop (n + 1) more = (λ i. quote_byte b first i ∷ split i) ∙ ap (λ l. quote ∷ l) (sym (append_assoc (take n more) (quote ∷ []) (drop (n + 1) more))) in
    longest_with (Token Quoted) (1 + n + 1) (b ∷ more) w (drop (n + 1) more) whole
    (omega (arith, length-append (take n more) (quote ∷ []), length-take-le n more (omega arith)))
    (take n more, refl, rw is (prefix_passes is_inside more))
    (λ q begins. omega (arith, inside_is (b ∷ more) first q begins))

-- no string, where the line or the text ends first
pub no_string : (text : List ℕ) → IsFirst Quote text → (n : ℕ) → n ≡ prefix_len is_inside (drop 1 text) → (1 + n < length text → get_or text (1 + n) 0 ≡ quote → ⊥) → BeginsNothing text
no_string [] first n is unclosed q begins = absurd first
no_string (b ∷ more) first n is unclosed q begins =
    let c = closes (b ∷ more) first q begins in
    let at : n ≡ length c.content = is ∙ prefix_stops is_inside more c.content c.after quote c.same c.inside refl in
    unclosed (omega (arith, ap length c.same, length-append c.content (quote ∷ c.after))) (rw one-add (ap (λ l. get_or l n 0) c.same ∙ get_or_at c.content quote c.after 0 n (sym at)))

pub sign_short : (w : List ℕ) → IsSign w → length w ≤ 2
sign_short [] h = absurd h
sign_short (b ∷ []) h = omega arith
sign_short (b ∷ c ∷ []) h = omega arith
sign_short (b ∷ c ∷ d ∷ bs) h = let none : false ≡ true = double_sign (b ∷ c ∷ d ∷ bs) h in cc

-- the comment that two dashes begin
pub longest_comment : (text : List ℕ) → 1 < length text → get_or text 0 0 ≡ 45 → get_or text 1 0 ≡ 45 → IsLongestFront text (Some (Comment, 2 + prefix_len (λ c. not (c == newline)) (drop 2 text)))
longest_comment [] long a b = absurd (omega arith)
longest_comment (x ∷ []) long a b = absurd (omega arith)
longest_comment (x ∷ y ∷ body) long a b =
    let p = λ (c : ℕ). not (c == newline) in
    let n = prefix_len p body in
    let same : x ∷ y ∷ body ≡ codes "--" ++ body = λ i. a i ∷ b i ∷ body in
    let whole : x ∷ y ∷ body ≡ (codes "--" ++ take n body) ++ drop n body = same ∙ ap (λ l. codes "--" ++ l) (sym (take-append-drop n body)) in
    let class : IsFirst Mark (x ∷ y ∷ body) = ap class_of a in
    longest_with Comment (2 + n) (x ∷ y ∷ body) (codes "--" ++ take n body) (drop n body) whole
    (omega (arith, length-take-le n body (prefix_len-le-length p body)))
    (take n body, refl, prefix_passes p body)
    (λ q begins. elim (mark_form q.form (opener_is (x ∷ y ∷ body) Mark q class begins)) [
      | inl sign ↦ omega (arith, sign_short q.bytes (subst (λ f. HasForm f q.bytes) sign begins.formed))
      | inr comment ↦
          let (other, is, line) = subst (λ f. HasForm f q.bytes) comment begins.formed in
          let (after, front) = begins.front in
          omega (arith, ap length is, prefix_bound p body other after (ap (drop 2) (front ∙ ap (λ l. l ++ after) is)) line)
    ])

-- a text that begins with a comment begins with two dashes
pub dashes : (text : List ℕ) (q : Piece) → BeginsWith text q → q.form ≡ Comment → (1 < length text) × (get_or text 0 0 ≡ 45) × (get_or text 1 0 ≡ 45)
dashes text q begins comment =
    let (body, is, line) = subst (λ f. HasForm f q.bytes) comment begins.formed in
    let (after, front) = begins.front in
    let same : text ≡ 45 ∷ 45 ∷ (body ++ after) = front ∙ ap (λ l. l ++ after) is in
    (omega (arith, ap length same), ap (λ l. get_or l 0 0) same, ap (λ l. get_or l 1 0) same)

-- the sign of two bytes at the front
pub longest_double : (text : List ℕ) → IsFirst Mark text → 1 < length text → Contains double_signs (get_or text 0 0 ∷ get_or text 1 0 ∷ []) → IsLongestFront text (Some (Token Sign, 2))
longest_double [] class long among = absurd (omega arith)
longest_double (x ∷ []) class long among = absurd (omega arith)
longest_double (x ∷ y ∷ rest) class long among =
    longest_with (Token Sign) 2 (x ∷ y ∷ rest) (x ∷ y ∷ []) rest refl refl among
    (λ q begins. elim (mark_form q.form (opener_is (x ∷ y ∷ rest) Mark q class begins)) [
      | inl sign ↦ sign_short q.bytes (subst (λ f. HasForm f q.bytes) sign begins.formed)
      | inr comment ↦
          let found = dashes (x ∷ y ∷ rest) q begins comment in
          let none : false ≡ true = double_sign (45 ∷ 45 ∷ []) (subst (λ b. Contains double_signs (45 ∷ b ∷ [])) found.2 (subst (λ a. Contains double_signs (a ∷ y ∷ [])) found.1 among)) in
          absurd (false≢true none)
    ])

-- the sign of one byte at the front, where neither two dashes nor a sign of two bytes stand there
pub longest_single : (text : List ℕ) → IsFirst Mark text → (1 < length text → get_or text 0 0 ≡ 45 → get_or text 1 0 ≡ 45 → ⊥) → (1 < length text → Contains double_signs (get_or text 0 0 ∷ get_or text 1 0 ∷ []) → ⊥) → IsLongestFront text (Some (Token Sign, 1))
longest_single [] class no_dashes no_double = absurd class
longest_single (x ∷ rest) class no_dashes no_double =
    longest_with (Token Sign) 1 (x ∷ rest) (x ∷ []) rest refl refl (mark_byte x class)
    (λ q begins. elim (mark_form q.form (opener_is (x ∷ rest) Mark q class begins)) [
      | inl sign ↦
          let (after, front) = begins.front in
          single q.bytes after (subst (λ f. HasForm f q.bytes) sign begins.formed) front
      | inr comment ↦
          let found = dashes (x ∷ rest) q begins comment in
          absurd (no_dashes found.0 found.1 found.2)
    ])
  where
    single : (w after : List ℕ) → IsSign w → x ∷ rest ≡ w ++ after → length w ≤ 1
    single [] after h e = omega arith
    single (b ∷ []) after h e = omega arith
    single (b ∷ c ∷ []) after h e =
        absurd (no_double (omega (arith, ap length e)) (subst (λ l. Contains double_signs (get_or l 0 0 ∷ get_or l 1 0 ∷ [])) (sym e) h))
    single (b ∷ c ∷ d ∷ bs) after h e = let none : false ≡ true = double_sign (b ∷ c ∷ d ∷ bs) h in absurd (false≢true none)

-- the first byte of a text has its class
pub first_class : (text : List ℕ) (k : ByteClass) → 0 < length text → k ≡ class_of (get_or text 0 0) → IsFirst k text
first_class [] k some e = absurd (omega arith)
first_class (b ∷ bs) k some e = sym e

-- nothing of a form is empty
pub form_length : (f : Form) (w : List ℕ) → HasForm f w → 0 < length w
form_length f w h = some (opener f) w (first_of f w h)
  where
    some : (k : ByteClass) (w : List ℕ) → IsFirst k w → 0 < length w
    some k [] first = absurd first
    some k (b ∷ bs) first = omega arith

-- two dashes begin no sign
pub sign_no_dashes : (b c : ℕ) (bs : List ℕ) → IsSign (b ∷ c ∷ bs) → b ≡ 45 → c ≡ 45 → ⊥
sign_no_dashes b c bs sign first second = none bs (subst (λ y. IsSign (45 ∷ y ∷ bs)) second (subst (λ x. IsSign (x ∷ c ∷ bs)) first sign))
  where
    none : (body : List ℕ) → IsSign (45 ∷ 45 ∷ body) → ⊥
    none [] h = false≢true (double_sign (45 ∷ 45 ∷ []) h)
    none (b ∷ bs) h = false≢true (double_sign (45 ∷ 45 ∷ b ∷ bs) h)

-- no space is in a sign
pub double_sign_byte : (b c : ℕ) (bs : List ℕ) → IsSign (b ∷ c ∷ bs) → c ≡ 32 → ⊥
double_sign_byte b c [] sign space =
    let mark = (both _ _ (both _ _ (double_sign (b ∷ c ∷ []) sign)).1).0 in
    false≢true (subst (λ x. is_mark_class (class_of x) ≡ true) space mark)
double_sign_byte b c (d ∷ ds) sign space = false≢true (double_sign (b ∷ c ∷ d ∷ ds) sign)

sign_is_no_comment : (w : List ℕ) → IsSign w → IsComment w → ⊥
sign_is_no_comment w sign (body, same, line) = sign_no_dashes 45 45 body (subst IsSign same sign) refl refl

-- Bytes have one form at most.
pub form_one : (f g : Form) (w : List ℕ) → HasForm f w → HasForm g w → f ≡ g
form_one f g w hf hg = one f hf (same_first (opener g) (opener f) w (first_of g w hg) (first_of f w hf))
  where
    one : (f : Form) → HasForm f w → opener g ≡ opener f → f ≡ g
    one (Token Word) hf e = sym (letter_form g e)
    one (Token Number) hf e = sym (digit_form g e)
    one (Token Quoted) hf e = sym (quote_form g e)
    one (Token Sign) hf e = elim (mark_form g e) [
      | inl sign ↦ sym sign
      | inr comment ↦ absurd (sign_is_no_comment w hf (subst (λ k. HasForm k w) comment hg))
    ]
    one Spacing hf e = sym (space_form g e)
    one Comment hf e = elim (mark_form g e) [
      | inl sign ↦ absurd (sign_is_no_comment w (subst (λ k. HasForm k w) sign hg) hf)
      | inr comment ↦ sym comment
    ]
