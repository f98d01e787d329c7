-- Reading values back from their texts, from the front on.
use Rattle.std.specs.Prelude.{ℕ, ℤ, pos, negsuc, zero, suc, ◌-◌, ◌+◌, ◌*◌, Bool, true, false, ◌&&◌, ◌||◌, ◌==◌, not, nat_le, cond, List, [], ◌∷◌, take, drop, codes, Option, Some, None}
use Rattle.std.specs.List.{list_any, prefix_len}
use Rattle.std.specs.Char.{is_ascii_digit}
use Rattle.std.specs.Str.Parse.{digits_value}
use Rattle.circus_value.specs.declared.shape.Label.{Label}
use Rattle.circus_value.specs.ValueTree.{ValueTree, value_trees}
use Rattle.circus_value.specs.ValueTree as V
use Rattle.circus_value.specs.ShapeTree.{ShapeTree, FieldTrees, ArmTrees, no_fields, more_fields, no_arms, more_arms}
use Rattle.circus_value.specs.ShapeTree as S
use Rattle.circus_value.specs.Shown.{is_plain}

-- what was read, and what stands behind it
abbrev pub Read : Type 0 → Type 0
Read A = Option (A × List ℕ)

abbrev pub and_then : {A B : Type 0} → Read A → (A → List ℕ → Read B) → Read B
and_then (Some r) f = f r.0 r.1
and_then None f = None

abbrev pub seen_as : {A B : Type 0} → (A → B) → Read A → Read B
seen_as f (Some r) = Some (f r.0, r.1)
seen_as f None = None

-- what stands behind this, where the text begins with it
abbrev pub behind_prefix : List ℕ → List ℕ → Option (List ℕ)
behind_prefix [] text = Some text
behind_prefix (b ∷ front) [] = None
behind_prefix (b ∷ front) (c ∷ text) = cond (c == b) (behind_prefix front text) None

abbrev pub behind : {B : Type 0} → Option (List ℕ) → (List ℕ → Read B) → Read B
behind (Some rest) f = f rest
behind None f = None

-- what is read where this stands behind it
abbrev pub with_end : {A : Type 0} → List ℕ → Read A → Read A
with_end closing r = and_then r (λ a rest. behind (behind_prefix closing rest) (λ later. Some (a, later)))

-- what is read between two marks
abbrev pub between : {A : Type 0} → List ℕ → List ℕ → (List ℕ → Read A) → List ℕ → Read A
between opening closing read text = behind (behind_prefix opening text) (λ inner. with_end closing (read inner))

-- ---- numbers

abbrev pub is_empty : List ℕ → Bool
is_empty [] = true
is_empty (b ∷ bs) = false

-- digits, of which a zero stands in front only where it stands alone
abbrev pub is_numeral : List ℕ → Bool
is_numeral [] = false
is_numeral (b ∷ bs) = not (b == 48) || is_empty bs

abbrev pub number_of : ℕ → List ℕ → Option ℕ
number_of greatest digits =
    cond (is_numeral digits && nat_le (digits_value 10 digits) greatest) (Some (digits_value 10 digits)) None

abbrev pub read_meaning : {A : Type 0} → Option A → List ℕ → Read A
read_meaning (Some a) rest = Some (a, rest)
read_meaning None rest = None

-- all digits in front, as a number of at most the greatest
abbrev pub number_read : ℕ → List ℕ → Read ℕ
number_read greatest text =
    let digits = prefix_len is_ascii_digit text in read_meaning (number_of greatest (take digits text)) (drop digits text)

abbrev pub negate : ℕ → Option ℤ
negate zero = None
negate (suc n) = Some (negsuc n)

abbrev pub negative_read : ℕ → List ℕ → Read ℤ
negative_read limit digits = and_then (number_read limit digits) (λ n rest. read_meaning (negate n) rest)

-- a number, by the digits behind a minus sign, or by those of the text where there is none
abbrev pub by_sign : ℕ → List ℕ → Option (List ℕ) → Read ℤ
by_sign limit text (Some digits) = negative_read limit digits
by_sign limit text None = seen_as (λ n. pos n) (number_read (limit - 1) text)

-- a number from -limit to limit - 1
abbrev pub signed_read : ℕ → List ℕ → Read ℤ
signed_read limit text = by_sign limit text (behind_prefix (codes "-") text)

-- ---- the bytes of a string

-- the value of a lower-case hexadecimal digit
abbrev pub nibble : ℕ → Option ℕ
nibble c =
    cond (nat_le 48 c && nat_le c 57) (Some (c - 48)) (cond (nat_le 97 c && nat_le c 102) (Some (c - 87)) None)

-- the byte of two digits, where it doesn't stand for itself
abbrev pub hidden_byte : Option ℕ → Option ℕ → Option ℕ
hidden_byte (Some high) (Some low) = cond (is_plain (16 * high + low)) None (Some (16 * high + low))
hidden_byte (Some _) None = None
hidden_byte None _ = None

abbrev pub hidden_read : List ℕ → Read ℕ
hidden_read [] = None
hidden_read (high ∷ []) = None
hidden_read (high ∷ low ∷ text) = read_meaning (hidden_byte (nibble high) (nibble low)) text

-- a byte: itself, or behind a backslash
abbrev pub octet_read : List ℕ → Read ℕ
octet_read [] = None
octet_read (b ∷ text) = cond (b == 92) (hidden_read text) (cond (is_plain b) (Some (b, text)) None)

-- a byte and others, or none where no byte stands there
abbrev pub octets_if : List ℕ → Read ℕ → (List ℕ → Read (List ℕ)) → Read (List ℕ)
octets_if text (Some r) others = seen_as (λ bs. r.0 ∷ bs) (others r.1)
octets_if text None others = Some ([], text)

-- bytes, at most so many
abbrev pub octets_read : ℕ → List ℕ → Read (List ℕ)
octets_read zero text = Some ([], text)
octets_read (suc most) text = octets_if text (octet_read text) (octets_read most)

abbrev pub text_read : List ℕ → Read (List ℕ)
text_read text = between (codes "\"") (codes "\"") (octets_read 65535) text

-- ---- items

abbrev pub comma : List ℕ
comma = codes ", "

-- a value in front of others
abbrev pub one_more : ValueTree → Read (List ValueTree) → Read (List ValueTree)
one_more t r = seen_as (λ ts. t ∷ ts) r

-- so many values, the first of them behind this, and the others behind a comma
abbrev pub items_read : (List ℕ → Read ValueTree) → ℕ → List ℕ → List ℕ → Read (List ValueTree)
items_read item zero mark text = Some ([], text)
items_read item (suc count) mark text =
    behind (behind_prefix mark text) (λ inner. and_then (item inner) (λ t rest. one_more t (items_read item count comma rest)))

-- no values where a mark stands, else others
abbrev pub none_if : List ℕ → Option (List ℕ) → Read (List ValueTree) → Read (List ValueTree)
none_if text (Some rest) others = Some ([], text)
none_if text None others = others

-- at most so many values, up to a closing brace
abbrev pub items_within : (List ℕ → Read ValueTree) → ℕ → List ℕ → List ℕ → Read (List ValueTree)
items_within item zero mark text = Some ([], text)
items_within item (suc bound) mark text =
    none_if text (behind_prefix (codes "}") text)
    (behind (behind_prefix mark text) (λ inner. and_then (item inner) (λ t rest. one_more t (items_within item bound comma rest))))

-- ---- values

abbrev pub truth_if : Option (List ℕ) → Option (List ℕ) → Read Bool
truth_if (Some rest) _ = Some (true, rest)
truth_if None (Some rest) = Some (false, rest)
truth_if None None = None

abbrev pub truth_read : List ℕ → Read Bool
truth_read text = truth_if (behind_prefix (codes "TRUE") text) (behind_prefix (codes "FALSE") text)

abbrev pub label_of : List Label → ℕ → Option ValueTree
label_of labels n = cond (list_any (λ (l : Label). l.number == n) labels) (Some (V.enumeration n)) None

abbrev pub label_read : List Label → List ℕ → Read ValueTree
label_read labels text = behind (behind_prefix (codes "#") text) (λ inner. and_then (number_read 65535 inner) (λ n rest. read_meaning (label_of labels n) rest))

abbrev mutual
  -- a value of the shape
  pub reading : ShapeTree → List ℕ → Read ValueTree
  reading S.boolean = λ text. seen_as V.boolean (truth_read text)
  reading S.cardinal = λ text. seen_as V.cardinal (number_read 65535 text)
  reading S.long_cardinal = λ text. seen_as V.long_cardinal (number_read 4294967295 text)
  reading S.integer = λ text. seen_as V.integer (signed_read 32768 text)
  reading S.long_integer = λ text. seen_as V.long_integer (signed_read 2147483648 text)
  reading S.text = λ text. seen_as V.text (text_read text)
  reading (S.enumeration labels) = label_read labels
  reading (S.array len element) =
      λ text. seen_as (λ ts. V.array (value_trees ts)) (between (codes "{") (codes "}") (items_read (reading element) len []) text)
  reading (S.sequence bound element) =
      λ text. seen_as (λ ts. V.sequence (value_trees ts)) (between (codes "{") (codes "}") (items_within (reading element) bound []) text)
  reading (S.«record» fields) =
      λ text. seen_as (λ ts. V.«record» (value_trees ts)) (between (codes "[") (codes "]") (fields_reading fields []) text)
  reading (S.choice arms) =
      λ text. and_then (number_read 65535 text) (λ n rest. between (codes "(") (codes ")") (arm_reading arms n) rest)

  -- one value for each field, in order, the first of them behind this, and the others behind a comma
  pub fields_reading : FieldTrees → List ℕ → List ℕ → Read (List ValueTree)
  fields_reading no_fields = λ mark text. Some ([], text)
  fields_reading (more_fields _ shape fields) =
      λ mark text. behind (behind_prefix mark text) (λ inner. and_then (reading shape inner) (λ t rest. one_more t (fields_reading fields comma rest)))

  -- a value of the first arm with this number
  pub arm_reading : ArmTrees → ℕ → List ℕ → Read ValueTree
  arm_reading no_arms = λ n text. None
  arm_reading (more_arms _ number shape arms) =
      λ n text. cond (n == number) (seen_as (λ t. V.choice n t) (reading shape text)) (arm_reading arms n text)

-- a number, and in parentheses a value of its arm
abbrev pub choice_read : ArmTrees → List ℕ → Read ValueTree
choice_read arms text = and_then (number_read 65535 text) (λ n rest. between (codes "(") (codes ")") (arm_reading arms n) rest)

-- a list of values, or a state
abbrev pub list_reading : FieldTrees → List ℕ → Read (List ValueTree)
list_reading fields text = between (codes "[") (codes "]") (fields_reading fields []) text
