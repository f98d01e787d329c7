-- The names of nodes are words, and so ASCII.
use Rattle.std.proofs.Common.{◌≡◌, ℕ, ◌<◌, true, List, [], ◌∷◌, All, get_or, arith}
use Rattle.std.specs.Prelude.{IsAscii}
use Rattle.std.specs.List.{AllByRecursion, list_all}
use Rattle.std.specs.Char.{is_ascii_alphabetic, is_ascii_alphanumeric}
use Rattle.std.proofs.lemmas.Bool.{and_parts}
use Rattle.std.proofs.lemmas.Bool.Decides.{nat_tests}
use Rattle.std.proofs.lemmas.List.Elements.{All-from_recursion}
use Rattle.std.proofs.lemmas.Option.{slice_get-get_or}
use Rattle.std.proofs.lemmas.Str.Ascii.{IsAscii-from_all}
use Rattle.circus_collate.specs.Deployment.{IsDeployment, is_word}
use Rattle.circus_collate.specs.declared.deployment.Host.{Host}
use Rattle.circus_collate.specs.declared.deployment.Deployment.{Deployment}

first_small : (b : ℕ) → is_ascii_alphabetic b ≡ true → b < 128
first_small b is = grind (arith, nat_tests)

other_small : (b : ℕ) → is_ascii_alphanumeric b ≡ true → b < 128
other_small b is = grind (arith, nat_tests)

others_small : (bs : List ℕ) → list_all is_ascii_alphanumeric bs ≡ true → AllByRecursion (λ b. b < 128) bs
others_small [] all = tt
others_small (b ∷ bs) all =
    let (own, rest) = and_parts (is_ascii_alphanumeric b) (list_all is_ascii_alphanumeric bs) all in
    (other_small b own, others_small bs rest)

word_ascii : (word : List ℕ) → is_word word ≡ true → IsAscii word
word_ascii [] is = absurd (cc)
word_ascii (b ∷ bs) is =
    let (first, others) = and_parts (is_ascii_alphabetic b) (list_all is_ascii_alphanumeric bs) is in
    IsAscii-from_all (b ∷ bs) (All-from_recursion (λ c. c < 128) (b ∷ bs) (first_small b first, others_small bs others))

pub nodes_ascii : (d : Deployment) → IsDeployment d → All (λ (h : Host). IsAscii h.name) d.nodes
nodes_ascii d is = λ k other within.
    let host = get_or d.nodes k other in
    word_ascii host.name (is.nodes k host (slice_get-get_or d.nodes k other within)).name
