-- Reading, from the front of the bytes on.
use Rattle.std.specs.Prelude.{ℕ, zero, suc, ◌+◌, ◌%◌, Bool, true, false, ◌&&◌, ◌==◌, not, nat_le, nat_lt, cond, List, [], ◌∷◌, length, take, drop, slice_index, Option, Some, None}
use Rattle.std.specs.Int.{w16, w32, cast_signed}
use Rattle.std.specs.List.{list_any}
use Rattle.circus_value.specs.declared.shape.Label.{Label}
use Rattle.circus_value.specs.ValueTree.{ValueTree, value_trees}
use Rattle.circus_value.specs.ValueTree as V
use Rattle.circus_value.specs.ShapeTree.{ShapeTree, FieldTrees, ArmTrees, no_fields, more_fields, no_arms, more_arms}
use Rattle.circus_value.specs.ShapeTree as S
use Rattle.circus_external.specs.Octets.{first_word, first_long}
use Rattle.circus_external.specs.Answer.{Answer, found, short, not_a_value, bad_pad}

-- goes on behind what was found
abbrev pub and_then : {X Y : Type 0} → Answer X → (X → ℕ → List ℕ → Answer Y) → Answer Y
and_then (found x next rest) f = f x next rest
and_then (short place) f = short place
and_then (not_a_value place) f = not_a_value place
and_then (bad_pad place) f = bad_pad place

-- what was found, seen as another value
abbrev pub answer_map : {X Y : Type 0} → (X → Y) → Answer X → Answer Y
answer_map f (found x next rest) = found (f x) next rest
answer_map f (short place) = short place
answer_map f (not_a_value place) = not_a_value place
answer_map f (bad_pad place) = bad_pad place

-- the number, of so many bytes, that stands at the place
abbrev pub number_read : Option ℕ → ℕ → ℕ → List ℕ → Answer ℕ
number_read (Some n) size at bytes = found n (at + size) (drop size bytes)
number_read None size at bytes = short at

-- a word
abbrev pub word_read : ℕ → List ℕ → Answer ℕ
word_read at bytes = number_read (first_word bytes) 2 at bytes

-- a number of two words
abbrev pub long_read : ℕ → List ℕ → Answer ℕ
long_read at bytes = number_read (first_long bytes) 4 at bytes

-- the value that a number stands for, where it stands for one
abbrev pub meaning_or_fault : {X : Type 0} → Option X → ℕ → ℕ → List ℕ → Answer X
meaning_or_fault (Some x) at next rest = found x next rest
meaning_or_fault None at next rest = not_a_value at

-- a truth value
abbrev pub truth_of : ℕ → Option ValueTree
truth_of n = cond (n == 0) (Some (V.boolean false)) (cond (n == 1) (Some (V.boolean true)) None)

-- the number of a label
abbrev pub label_of : List Label → ℕ → Option ValueTree
label_of labels n = cond (list_any (λ (l : Label). l.number == n) labels) (Some (V.enumeration n)) None

-- a value that one word stands for
abbrev pub one_word : {X : Type 0} → (ℕ → Option X) → ℕ → List ℕ → Answer X
one_word mean at bytes = and_then (word_read at bytes) (λ n next rest. meaning_or_fault (mean n) at next rest)

-- a value that two words stand for
abbrev pub two_words : {X : Type 0} → (ℕ → Option X) → ℕ → List ℕ → Answer X
two_words mean at bytes = and_then (long_read at bytes) (λ n next rest. meaning_or_fault (mean n) at next rest)

-- so many bytes are odd in number, and another byte than zero stands behind them
abbrev pub is_bad_pad : ℕ → List ℕ → Bool
is_bad_pad n bytes = (n % 2 == 1) && not (slice_index bytes n == 0)

-- so many bytes, and a zero byte where they are odd in number
abbrev pub content_read : ℕ → ℕ → List ℕ → Answer (List ℕ)
content_read n at bytes =
    cond (nat_lt (length bytes) (n + n % 2)) (short at)
    (cond (is_bad_pad n bytes) (bad_pad (at + n))
    (found (take n bytes) (at + (n + n % 2)) (drop (n + n % 2) bytes)))

-- a word, and as many bytes
abbrev pub text_read : ℕ → List ℕ → Answer (List ℕ)
text_read at bytes = and_then (word_read at bytes) content_read

-- a value in front of others
abbrev pub one_more : ValueTree → Answer (List ValueTree) → Answer (List ValueTree)
one_more t answer = answer_map (λ ts. t ∷ ts) answer

-- so many values
abbrev pub items_read : (ℕ → List ℕ → Answer ValueTree) → ℕ → ℕ → List ℕ → Answer (List ValueTree)
items_read item zero at bytes = found [] at bytes
items_read item (suc count) at bytes =
    and_then (item at bytes) (λ t next rest. one_more t (items_read item count next rest))

-- a number of items, at most a bound
abbrev pub count_within : ℕ → ℕ → Option ℕ
count_within bound n = cond (nat_le n bound) (Some n) None

-- a word of at most a bound, and as many values
abbrev pub sequence_read : (ℕ → List ℕ → Answer ValueTree) → ℕ → ℕ → List ℕ → Answer (List ValueTree)
sequence_read item bound at bytes = and_then (one_word (count_within bound) at bytes) (items_read item)

abbrev mutual
  -- a value of the shape
  pub reading : ShapeTree → ℕ → List ℕ → Answer ValueTree
  reading S.boolean = one_word truth_of
  reading S.cardinal = one_word (λ n. Some (V.cardinal n))
  reading S.long_cardinal = two_words (λ n. Some (V.long_cardinal n))
  reading S.integer = one_word (λ n. Some (V.integer (cast_signed w16 n)))
  reading S.long_integer = two_words (λ n. Some (V.long_integer (cast_signed w32 n)))
  reading S.text = λ at bytes. answer_map (λ octets. V.text octets) (text_read at bytes)
  reading (S.enumeration labels) = one_word (label_of labels)
  reading (S.array len element) = λ at bytes. answer_map (λ ts. V.array (value_trees ts)) (items_read (reading element) len at bytes)
  reading (S.sequence bound element) = λ at bytes. answer_map (λ ts. V.sequence (value_trees ts)) (sequence_read (reading element) bound at bytes)
  reading (S.«record» fields) = λ at bytes. answer_map (λ ts. V.«record» (value_trees ts)) (fields_reading fields at bytes)
  reading (S.choice arms) = λ at bytes. and_then (word_read at bytes) (arm_reading arms at)

  -- one value for each field, in order
  pub fields_reading : FieldTrees → ℕ → List ℕ → Answer (List ValueTree)
  fields_reading no_fields = λ at bytes. found [] at bytes
  fields_reading (more_fields _ shape fields) =
      λ at bytes. and_then (reading shape at bytes) (λ t next rest. one_more t (fields_reading fields next rest))

  -- a value of the first arm with this number, where the number stands at the place
  pub arm_reading : ArmTrees → ℕ → ℕ → ℕ → List ℕ → Answer ValueTree
  arm_reading no_arms = λ at n next rest. not_a_value at
  arm_reading (more_arms _ number shape arms) =
      λ at n next rest. cond (n == number) (answer_map (λ t. V.choice n t) (reading shape next rest)) (arm_reading arms at n next rest)

-- a number and a value of its arm
abbrev pub choice_read : ArmTrees → ℕ → List ℕ → Answer ValueTree
choice_read arms at bytes = and_then (word_read at bytes) (arm_reading arms at)
