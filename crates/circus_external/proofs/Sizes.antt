-- How many bytes a spelling has.
use Rattle.std.proofs.Common.{◌≡◌, ℕ, ◌+◌, ◌%◌, List, length, ap, arith, length-append}
use Rattle.std.proofs.lemmas.List.{length-replicate}
use Rattle.circus_value.specs.ValueTree.{ValueTree, ValueTrees, boolean, cardinal, long_cardinal, integer, long_integer, text, enumeration, array, sequence, «record», choice, none, more}
use Rattle.circus_value.specs.ExternalSize.{external_size, external_sizes, text_size}
use Rattle.circus_external.specs.Spelling.{contents, pad, pieces, pieces_of_items, bytes_of_pieces, spelling}
use Rattle.circus_external.proofs.Alike.{joined-append}
use Rattle.circus_external.proofs.PieceSound.{content_given}

size_of_contents : (bytes : List ℕ) → 2 + length (bytes_of_pieces (contents bytes)) ≡ text_size bytes
size_of_contents bytes =
    let nought : ℕ = 0 in
    omega (arith, ap length (content_given (length bytes) bytes (λ i. length bytes)), length-append bytes (pad (length bytes)), length-replicate (length bytes % 2) nought)

mutual
  pub size_of_spelling : (t : ValueTree) → length (spelling t) ≡ external_size t
  size_of_spelling (boolean b) = omega arith
  size_of_spelling (cardinal n) = omega arith
  size_of_spelling (long_cardinal n) = omega arith
  size_of_spelling (integer z) = omega arith
  size_of_spelling (long_integer z) = omega arith
  size_of_spelling (text bytes) = omega (arith, size_of_contents bytes)
  size_of_spelling (enumeration n) = omega arith
  size_of_spelling (array ts) = size_of_spellings ts
  size_of_spelling (sequence ts) = omega (arith, size_of_spellings ts)
  size_of_spelling («record» ts) = size_of_spellings ts
  size_of_spelling (choice n t) = omega (arith, size_of_spelling t)

  pub size_of_spellings : (ts : ValueTrees) → length (bytes_of_pieces (pieces_of_items ts)) ≡ external_sizes ts
  size_of_spellings none = omega arith
  size_of_spellings (more t ts) =
      omega (arith, ap length (joined-append (pieces t) (pieces_of_items ts)), length-append (bytes_of_pieces (pieces t)) (bytes_of_pieces (pieces_of_items ts)), size_of_spelling t, size_of_spellings ts)
