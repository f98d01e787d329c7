-- The client's incarnation in an ask, and which kind of return a message is.
use Rattle.std.proofs.Common.{◌≡◌, ℕ, zero, suc, ◌<◌, ◌≤◌, List, [], ◌∷◌, ◌++◌, length, map, drop, All, Option, Some, refl, sym, ap, ◌∙◌, arith}
use Rattle.std.proofs.lemmas.List.Elements.{All-head, All-tail}
use Rattle.std.proofs.lemmas.Nat.{from_be_bytes-to_be_bytes_2, from_be_bytes-to_be_bytes_4}
use Rattle.std.proofs.lemmas.Option.{same_Some}
use Rattle.circus_external.specs.Octets.{first_word, first_long}
use Rattle.circus_header.specs.Field.{Field, word, long, HasRoom, bytes_of}
use Rattle.circus_header.specs.Reading.{IsOne, calls}
use Rattle.circus_header.specs.declared.call.Call.TheVariants.{Ask}
use Rattle.circus_header.specs.declared.call.CallHeader.{CallHeader}
use Rattle.circus_member_rules.specs.Messages.{ask_message}

-- behind so many words
abbrev skipped : ℕ → List ℕ → List ℕ
skipped zero l = l
skipped (suc n) l = skipped n (drop 2 l)

skips : (path : List ℕ) (fs : List Field) (rest : List ℕ) → skipped (length path) (bytes_of (map word path ++ fs) ++ rest) ≡ bytes_of fs ++ rest
skips [] fs rest = refl
skips (n ∷ path) fs rest = skips path fs rest

room_after : (path : List ℕ) (fs : List Field) → All HasRoom (map word path ++ fs) → All HasRoom fs
room_after [] fs all = all
room_after (n ∷ path) fs all = room_after path fs (All-tail HasRoom (word n) (map word path ++ fs) all)

abbrev behind_path : CallHeader → List Field
behind_path h = word h.client ∷ long h.client_incarnation ∷ long h.client_index ∷ word h.server ∷ long h.server_incarnation ∷ word h.procedure ∷ word (length h.clock) ∷ map long h.clock

abbrev at_client : ℕ → List ℕ → Option ℕ
at_client n message = first_long (drop 2 (skipped n (drop 6 message)))

client_read : (h : CallHeader) (body : List ℕ) → h.client_incarnation < 4294967296 → at_client (length h.path) (ask_message h body) ≡ Some h.client_incarnation
client_read h body less = ap (λ l. first_long (drop 2 l)) (skips h.path (behind_path h) body) ∙ ap Some (from_be_bytes-to_be_bytes_4 h.client_incarnation less)

path_read : (h : CallHeader) (body : List ℕ) → length h.path < 65536 → first_word (drop 4 (ask_message h body)) ≡ Some (length h.path)
path_read h body less = ap Some (from_be_bytes-to_be_bytes_2 (length h.path) less)

-- asks that are the same message name the same incarnation
pub same_client : (h other : CallHeader) (body another : List ℕ) → IsOne calls (Ask h) → length other.path < 65536 → other.client_incarnation ≤ 1 → ask_message h body ≡ ask_message other another
    → h.client_incarnation ≤ 1
same_client h other body another one short low same =
    let room = one.1 in
    let fields = map word h.path ++ behind_path h in
    let at_root = All-tail HasRoom (word 0) (word h.root ∷ word (length h.path) ∷ fields) room in
    let at_path = All-tail HasRoom (word h.root) (word (length h.path) ∷ fields) at_root in
    let fits : length h.path < 65536 = All-head HasRoom (word (length h.path)) fields at_path in
    let at_behind = room_after h.path (behind_path h) (All-tail HasRoom (word (length h.path)) fields at_path) in
    let at_long = All-tail HasRoom (word h.client) (long h.client_incarnation ∷ long h.client_index ∷ word h.server ∷ long h.server_incarnation ∷ word h.procedure ∷ word (length h.clock) ∷ map long h.clock) at_behind in
    let less : h.client_incarnation < 4294967296 = All-head HasRoom (long h.client_incarnation) (long h.client_index ∷ word h.server ∷ long h.server_incarnation ∷ word h.procedure ∷ word (length h.clock) ∷ map long h.clock) at_long in
    let paths : length h.path ≡ length other.path = same_Some (length h.path) (length other.path) (sym (path_read h body fits) ∙ ap (λ l. first_word (drop 4 l)) same ∙ path_read other another short) in
    let is : h.client_incarnation ≡ other.client_incarnation = same_Some h.client_incarnation other.client_incarnation (sym (client_read h body less) ∙ ap (at_client (length h.path)) same
    ∙ ap (λ n. at_client n (ask_message other another)) paths ∙ client_read other another (omega (arith, low))) in
    omega (arith, is, low)
