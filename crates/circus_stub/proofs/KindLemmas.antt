-- Values by the kind that they pass for.
use Rattle.std.proofs.Common.{◌≡◌, ℕ, ℤ, Bool, true, List, refl}
use Rattle.circus_value.specs.ValueTree.{ValueTree, ValueTrees}
use Rattle.circus_value.specs.ValueOf.{tree_of}
use Rattle.circus_value.specs.declared.value.Value.{Value}
use Rattle.circus_value.specs.declared.value.Value.TheVariants as value
use Rattle.circus_value.specs.declared.shape.Label.{Label}
use Rattle.circus_value.specs.Fits.{is_truth, is_cardinal, is_long_cardinal, is_integer, is_long_integer, is_text, is_labelled, is_array, is_sequence, is_record, is_choice}

pub truth_value : (v : Value) → is_truth (tree_of v) ≡ true → (b : Bool) × (v ≡ value.Boolean b)
truth_value (value.Boolean b) passes = (b, refl)
truth_value _ passes = absurd cc

pub cardinal_value : (v : Value) → is_cardinal (tree_of v) ≡ true → (n : ℕ) × (v ≡ value.Cardinal n)
cardinal_value (value.Cardinal n) passes = (n, refl)
cardinal_value _ passes = absurd cc

pub long_cardinal_value : (v : Value) → is_long_cardinal (tree_of v) ≡ true → (n : ℕ) × (v ≡ value.LongCardinal n)
long_cardinal_value (value.LongCardinal n) passes = (n, refl)
long_cardinal_value _ passes = absurd cc

pub integer_value : (v : Value) → is_integer (tree_of v) ≡ true → (z : ℤ) × (v ≡ value.Integer z)
integer_value (value.Integer z) passes = (z, refl)
integer_value _ passes = absurd cc

pub long_integer_value : (v : Value) → is_long_integer (tree_of v) ≡ true → (z : ℤ) × (v ≡ value.LongInteger z)
long_integer_value (value.LongInteger z) passes = (z, refl)
long_integer_value _ passes = absurd cc

pub text_value : (v : Value) → is_text (tree_of v) ≡ true → (bytes : List ℕ) × (v ≡ value.Text bytes)
text_value (value.Text bytes) passes = (bytes, refl)
text_value _ passes = absurd cc

pub label_value : (labels : List Label) (v : Value) → is_labelled labels (tree_of v) ≡ true → (n : ℕ) × (v ≡ value.Enumeration n)
label_value labels (value.Enumeration n) passes = (n, refl)
label_value labels _ passes = absurd cc

pub array_value : (len : ℕ) (p : ValueTree → Bool) (v : Value) → is_array len p (tree_of v) ≡ true → (ts : List ValueTree) × (v ≡ value.Array ts)
array_value len p (value.Array ts) passes = (ts, refl)
array_value len p _ passes = absurd cc

pub sequence_value : (bound : ℕ) (p : ValueTree → Bool) (v : Value) → is_sequence bound p (tree_of v) ≡ true → (ts : List ValueTree) × (v ≡ value.Sequence ts)
sequence_value bound p (value.Sequence ts) passes = (ts, refl)
sequence_value bound p _ passes = absurd cc

pub record_value : (p : ValueTrees → Bool) (v : Value) → is_record p (tree_of v) ≡ true → (ts : List ValueTree) × (v ≡ value.Record ts)
record_value p (value.Record ts) passes = (ts, refl)
record_value p _ passes = absurd cc

pub choice_value : (p : ℕ → ValueTree → Bool) (v : Value) → is_choice p (tree_of v) ≡ true → (n : ℕ) × (t : ValueTree) × (v ≡ value.Choice n t)
choice_value p (value.Choice n t) passes = (n, t, refl)
choice_value p _ passes = absurd cc
