-- Names at a place of a text.
use Rattle.std.proofs.Common.{◌≡◌, ◌∙◌, ℕ, ◌+◌, ◌-◌, ◌≤◌, cond, nat_lt, Some, None, List, [], ◌∷◌, length, take, drop, map, position, refl, sym, ap, arith, length-drop, drop-drop, not}
use Rattle.std.specs.List.{position_or_len}
use Rattle.std.proofs.lemmas.List.{length-map}
use Rattle.std.specs.Str.{bytes_eq}
use Rattle.circus_collate.specs.declared.deployment.Host.{Host}
use Rattle.circus_record.specs.Naming.{host_name}
use Rattle.circus_value_text.specs.Reading.{read_meaning}
use Rattle.circus_audit.specs.Seen.Names.{name_length, place_of, number_of_name}

place_or_len : (nodes : List Host) (name : List ℕ) → position_or_len (λ (h : Host). bytes_eq h.name name) nodes ≡ position_or_len (λ each. bytes_eq each name) (map host_name nodes)
place_or_len [] name = refl
place_or_len (h ∷ nodes) name = ap (λ n. cond (not (bytes_eq h.name name)) (1 + n) 0) (place_or_len nodes name)

-- the place of a node is that of its name
pub place_map : (nodes : List Host) (name : List ℕ) → position (λ (h : Host). bytes_eq h.name name) nodes ≡ place_of (map host_name nodes) name
place_map nodes name =
    let same = place_or_len nodes name in
    let all = sym (length-map nodes host_name) in
    λ i. cond (nat_lt (same i) (all i)) (Some (same i)) None

named_by : (names : List (List ℕ)) (text rest : List ℕ) (at len : ℕ) → rest ≡ drop at text → len ≡ name_length rest → number_of_name names (drop at text) ≡ read_meaning (place_of names (take len rest)) (drop len rest)
named_by names text rest at len is value = ap (number_of_name names) (sym is) ∙ (λ i. read_meaning (place_of names (take (sym value i) rest)) (drop (sym value i) rest))

pub named_found : (names : List (List ℕ)) (text rest : List ℕ) (at len n : ℕ) → rest ≡ drop at text → len ≡ name_length rest → len ≤ length rest → at ≤ length text → place_of names (take len rest) ≡ Some n → (at + len ≤ length text) × (number_of_name names (drop at text) ≡ Some (n, drop (at + len) text))
named_found names text rest at len n is value few within found =
    let shorter : length rest ≡ length text - at = ap length is ∙ length-drop at text in
    let later : drop len rest ≡ drop (at + len) text = ap (drop len) is ∙ simp drop-drop in
    (omega (arith, shorter, few, within), named_by names text rest at len is value ∙ ap (λ o. read_meaning o (drop len rest)) found ∙ ap (λ x. Some (n, x)) later)

pub named_missing : (names : List (List ℕ)) (text rest : List ℕ) (at len : ℕ) → rest ≡ drop at text → len ≡ name_length rest → place_of names (take len rest) ≡ None → number_of_name names (drop at text) ≡ None
named_missing names text rest at len is value missing = named_by names text rest at len is value ∙ ap (λ o. read_meaning o (drop len rest)) missing
