-- Headers of which each field is in its range and has room.
use Rattle.std.proofs.Common.{ℕ, ◌<◌, ◌^◌, List, [], ◌∷◌, ◌++◌, map, length, All, arith}
use Rattle.std.proofs.lemmas.List.Elements.{All-append, All-map, All-weaker, All-from_recursion}
use Rattle.circus_limits.specs.Limits.{most_asks}
use Rattle.circus_header.specs.Field.{Field, word, long, HasRoom}
use Rattle.circus_header.specs.CallFields.{IsAsk}
use Rattle.circus_header.specs.ReturnFields.{IsReturn}
use Rattle.circus_header.specs.Reading.{IsOne, calls, returns}
use Rattle.circus_header.specs.declared.call.Call.TheVariants.{Ask as AskOf}
use Rattle.circus_header.specs.declared.call.CallHeader.{CallHeader}
use Rattle.circus_header.specs.declared.answer.ReturnHeader.TheVariants as says

-- numbers of four bytes
abbrev pub AreLong : List ℕ → Type 0
AreLong ns = All (λ (n : ℕ). n < 2 ^ 32) ns

-- what the ranges of an ask leave open
pub record HasRanges (h : CallHeader) : Type 0 where
  pub procedure : h.procedure < 65536
  pub client_index : h.client_index < 2 ^ 32
  pub clock : AreLong h.clock

words_room : (path : List ℕ) → All (λ n. n < most_asks) path → All HasRoom (map word path)
words_room path small =
    All-map HasRoom word path (All-weaker (λ (n : ℕ). n < most_asks) (λ (n : ℕ). HasRoom (word n)) (λ n less. omega (arith, less)) path small)

longs_room : (clock : List ℕ) → AreLong clock → All HasRoom (map long clock)
longs_room clock are = All-map HasRoom long clock are

pub is_one_call : (h : CallHeader) → IsAsk h → HasRanges h → h.client_incarnation < 2 ^ 32 → h.server_incarnation < 2 ^ 32 → IsOne calls (AskOf h)
is_one_call h is ranges client server =
    let root = is.root in
    let path_most = is.path_most in
    let clock_most = is.clock_most in
    let own = is.client in
    let callee = is.server in
    let begins : List Field = word 0 ∷ word h.root ∷ word (length h.path) ∷ [] in
    let between : List Field = word h.client ∷ long h.client_incarnation ∷ long h.client_index ∷ word h.server ∷ long h.server_incarnation ∷ word h.procedure ∷ word
    (length h.clock) ∷ [] in (
      is,
      All-append HasRoom begins (map word h.path ++ (between ++ map long h.clock))
          (All-from_recursion HasRoom begins (omega arith, (omega (arith, root), (omega (arith, path_most), tt))))
          (All-append HasRoom (map word h.path) (between ++ map long h.clock) (words_room h.path is.path)
          (All-append HasRoom between (map long h.clock)
          (All-from_recursion HasRoom between (
            omega (arith, own),
            (client, (ranges.client_index, (omega (arith, callee), (server, (ranges.procedure, (omega (arith, clock_most), tt)))))),
          ))
          (longs_room h.clock ranges.clock))),
    )

pub is_one_reply : (clock : List ℕ) → IsReturn (says.Reply clock) → AreLong clock → IsOne returns (says.Reply clock)
is_one_reply clock is are =
    let few = is.1 in
    let begins : List Field = word 0 ∷ word (length clock) ∷ [] in (
      is,
      All-append HasRoom begins (map long clock)
          (All-from_recursion HasRoom begins (omega arith, (omega (arith, few), tt)))
          (longs_room clock are),
    )
