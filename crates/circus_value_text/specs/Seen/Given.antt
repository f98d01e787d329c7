-- The answer that code gives, as an answer of definitions.
use Rattle.std.specs.Prelude.{◌≡◌, ◌≤◌, ℕ, List, [], ◌∷◌, length, drop, codes, Result, Ok, Err, Option, Some, None, Bool, is_some}
use Rattle.circus_value.specs.declared.value.Value.{Value}
use Rattle.circus_value.specs.ValueOf.{tree_of}
use Rattle.circus_value.specs.ValueTree.{ValueTree}
use Rattle.circus_value.specs.ShapeTree.{ArmTrees}
use Rattle.circus_value_text.specs.declared.unread.Unread.{Unread}
use Rattle.circus_value_text.specs.declared.unread.Unread.TheVariants as unread
use Rattle.circus_value_text.specs.Reading.{Read, behind_prefix, behind, between, comma, items_read, items_within, arm_reading}

-- the code's answer is this one, or memory ran out
abbrev pub Gives : {X Y : Type 0} → (Y → X) → List ℕ → Result (Y × ℕ) Unread → Read X → Type 0
Gives tree text (Ok r) answer = (r.1 ≤ length text) × (answer ≡ Some (tree r.0, drop r.1 text))
Gives tree text (Err unread.Unlike) answer = answer ≡ None
Gives tree text (Err unread.NoMemory) answer = Unit {0}

-- the code's answer is this one, whatever memory there is
abbrev pub Finds : {X : Type 0} → List ℕ → Result (X × ℕ) Unread → Read X → Type 0
Finds text (Ok r) answer = (r.1 ≤ length text) × (answer ≡ Some (r.0, drop r.1 text))
Finds text (Err unread.Unlike) answer = answer ≡ None
Finds text (Err unread.NoMemory) answer = ⊥

-- the place is the one behind a mark
abbrev pub IsPassed : List ℕ → Option ℕ → Option (List ℕ) → Type 0
IsPassed text (Some next) answer = (next ≤ length text) × (answer ≡ Some (drop next text))
IsPassed text None answer = answer ≡ None

-- what was taken from the front of the text, and how many bytes it has
abbrev pub IsTaken : {X : Type 0} → List ℕ → Option (X × ℕ) → Read X → Type 0
IsTaken text (Some r) answer = (1 ≤ r.1) × (r.1 ≤ length text) × (answer ≡ Some (r.0, drop r.1 text))
IsTaken text None answer = answer ≡ None

-- what was taken from a text, and the place behind it
abbrev pub IsFound : {X : Type 0} → List ℕ → Option (X × ℕ) → Read X → Type 0
IsFound text (Some r) answer = (r.1 ≤ length text) × (answer ≡ Some (r.0, drop r.1 text))
IsFound text None answer = answer ≡ None

abbrev pub PassesTo : List ℕ → Result ℕ Unread → Option (List ℕ) → Type 0
PassesTo text (Ok next) answer = (next ≤ length text) × (answer ≡ Some (drop next text))
PassesTo text (Err unread.Unlike) answer = answer ≡ None
PassesTo text (Err unread.NoMemory) answer = ⊥

-- what stands before the next value, behind these
abbrev pub mark_behind : List ValueTree → List ℕ
mark_behind [] = []
mark_behind (t ∷ ts) = comma

-- the code's answer of a whole text is this one, or memory ran out
abbrev pub GivesAll : {X : Type 0} → Result X Unread → Option X → Type 0
GivesAll (Ok x) answer = answer ≡ Some x
GivesAll (Err unread.Unlike) answer = answer ≡ None
GivesAll (Err unread.NoMemory) answer = Unit {0}

-- what stands before the next count, behind these
abbrev pub count_mark : List ℕ → List ℕ
count_mark [] = []
count_mark (n ∷ ns) = codes ","

-- a value behind these, and behind the mark that stands between
abbrev pub next_read : List ValueTree → (List ℕ → Read ValueTree) → List ℕ → Read ValueTree
next_read before item text = behind (behind_prefix (mark_behind before) text) item

-- whether the text begins with a mark
abbrev pub stands : List ℕ → List ℕ → Bool
stands mark text = is_some (behind_prefix mark text)

-- the items of an array, those of a sequence, and what a choice has behind its number
abbrev pub array_read : (List ℕ → Read ValueTree) → ℕ → List ℕ → Read (List ValueTree)
array_read item count text = between (codes "{") (codes "}") (items_read item count []) text

abbrev pub sequence_read : (List ℕ → Read ValueTree) → ℕ → List ℕ → Read (List ValueTree)
sequence_read item bound text = between (codes "{") (codes "}") (items_within item bound []) text

abbrev pub chosen_read : ArmTrees → ℕ → List ℕ → Read ValueTree
chosen_read arms number text = between (codes "(") (codes ")") (arm_reading arms number) text

-- the code's answer is what stands at a place, or memory ran out
abbrev pub GivesAt : {X : Type 0} → List ℕ → ℕ → Result (X × ℕ) Unread → (List ℕ → Read X) → Type 0
GivesAt text at result read = Gives (λ x. x) text result (read (drop at text))

abbrev pub GivesValueAt : List ℕ → ℕ → Result (Value × ℕ) Unread → (List ℕ → Read ValueTree) → Type 0
GivesValueAt text at result read = Gives tree_of text result (read (drop at text))
