-- What stands under a number in a row and in the entries behind it.
use Rattle.std.proofs.Common.{◌≡◌, ◌≢◌, ℕ, zero, suc, ◌+◌, ◌-◌, ◌<◌, ◌≤◌, ◌⊎◌, inl, inr, Bool, true, false, cond, eqb, List, [], ◌∷◌, ◌++◌, length, length-append, Option, None, Some, refl, sym, ap, subst, ◌∙◌, arith}
use Rattle.std.proofs.Math.ListN.{set, length-set}
use Rattle.std.proofs.lemmas.List.{get_or-set_same, get_or-set_other}
use Rattle.std.proofs.lemmas.Option.{slice_get-get_or}
use Rattle.std.specs.Prelude.{slice_get, IsSome, IsOk, OnErr, Result, Ok, Err}
use Rattle.std.specs.Cmp.{nat_cmp_total, eq_by_cmp_equiv}
use Rattle.std.specs.BTreeMap.{is_at}
use Rattle.std.specs.Map.{lookup}
use Rattle.std.specs.Ordering.{nat_cmp, eq_by_cmp}
use Rattle.std.specs.FinMap.{find, get, insert, from_entries, get-from_entries, get-insert, same_map, nat_cmp-IsAntisymmetric}
use Rattle.std.proofs.lemmas.Bool.{cases_lt, ne_eqb, eq-eqb}
use Rattle.std.proofs.lemmas.Bool.Decides.{eqb_tells}
use Rattle.circus_value.proofs.PartLemmas.{slice_get-append_left, slice_get-append_right}
use Rattle.circus_exchange.specs.Seen.Numbered.{number_from, IsOff, map_of_row}
use Rattle.circus_exchange.proofs.Finite.{find_entry}
use Rattle.circus_exchange.proofs.Ties.{nat_ties}

-- a number is that of a place in a row, or stands off it
pub where_is : (first len q : ℕ) → ((i : ℕ) × (q ≡ first + i) × (i < len)) ⊎ IsOff first len q
where_is first len q = elim (cases_lt q first) [
  | inl below ↦ inr (inl below)
  | inr from ↦ elim (cases_lt q (first + len)) [
    | inl within ↦ inl (q - first, omega arith, omega arith)
    | inr past ↦ inr (inr past)
  ]
]

module _ {X : Type 0} where
  -- a number that is not that of the first entry
  later : (e : ℕ × X) (es : List (ℕ × X)) (q : ℕ) → q ≢ e.0 → find nat_cmp q (e ∷ es) ≡ find nat_cmp q es
  later e es q differ = ap (λ b. cond b (Some e.1) (find nat_cmp q es)) (nat_ties q e.0 ∙ ne_eqb q e.0 differ)

  here : (e : ℕ × X) (es : List (ℕ × X)) (q : ℕ) → q ≡ e.0 → find nat_cmp q (e ∷ es) ≡ Some e.1
  here e es q same = ap (λ b. cond b (Some e.1) (find nat_cmp q es)) (nat_ties q e.0 ∙ eq-eqb q e.0 same)

  pub find_in_row : (first : ℕ) (xs : List X) (rest : List (ℕ × X)) (q i : ℕ) → q ≡ first + i → i < length xs → find nat_cmp q (number_from first xs ++ rest) ≡ slice_get xs i
  find_in_row first [] rest q i at less = absurd (omega arith)
  find_in_row first (x ∷ xs) rest q zero at less = here (first, x) (number_from (first + 1) xs ++ rest) q (omega arith)
  find_in_row first (x ∷ xs) rest q (suc i) at less =
      later (first, x) (number_from (first + 1) xs ++ rest) q (λ e. absurd (omega arith))
      ∙ find_in_row (first + 1) xs rest q i (omega arith) (omega arith)

  pub find_off_row : (first : ℕ) (xs : List X) (rest : List (ℕ × X)) (q : ℕ) → IsOff first (length xs) q → find nat_cmp q (number_from first xs ++ rest) ≡ find nat_cmp q rest
  find_off_row first [] rest q off = refl
  find_off_row first (x ∷ xs) rest q off =
      later (first, x) (number_from (first + 1) xs ++ rest) q (λ e. elim off [ inl below ↦ absurd (omega arith) | inr past ↦ absurd (omega arith) ])
      ∙ find_off_row (first + 1) xs rest q (elim off [ inl below ↦ inl (omega arith) | inr past ↦ inr (omega arith) ])

  slice_get-set_same : (xs : List X) (i : ℕ) (v : X) → i < length xs → slice_get (set xs i v) i ≡ Some v
  slice_get-set_same xs i v less =
      let len : length (set xs i v) ≡ length xs = length-set xs i v in
      slice_get-get_or (set xs i v) i v (omega arith) ∙ ap (λ (x : X). Some x) (get_or-set_same xs i v v less)

  slice_get-set_other : (xs : List X) (i j : ℕ) (v : X) → j ≢ i → j < length xs → slice_get (set xs i v) j ≡ slice_get xs j
  slice_get-set_other xs i j v differ less =
      let len : length (set xs i v) ≡ length xs = length-set xs i v in
      slice_get-get_or (set xs i v) j v (omega arith) ∙ ap (λ (x : X). Some x) (get_or-set_other xs i j v v differ) ∙ sym (slice_get-get_or xs j v less)

  -- with another value at a place of the row
  pub find_set : (first : ℕ) (xs : List X) (rest : List (ℕ × X)) (i n : ℕ) (v : X) (q : ℕ) → i < length xs → n ≡ first + i → find nat_cmp q (number_from first (set xs i v) ++ rest) ≡ cond (eqb q n) (Some v) (find nat_cmp q (number_from first xs ++ rest))
  find_set first xs rest i n v q less at =
      let len : length (set xs i v) ≡ length xs = length-set xs i v in
      elim (where_is first (length xs) q) [
        | inl place ↦ (let j = place.0 in let is : q ≡ first + j = place.1 in let within : j < length xs = place.2 in
            find_in_row first (set xs i v) rest q j is (omega arith)
            ∙ elim (eqb_tells q n) [
              | inl same ↦ (let s : q ≡ n = same.1 in let e : j ≡ i = omega arith in ap (slice_get (set xs i v)) e ∙ slice_get-set_same xs i v less ∙ sym (ap (λ b. cond b (Some v) (find nat_cmp q (number_from first xs ++ rest))) same.0))
              | inr differ ↦ (let d : q ≢ n = differ.1 in slice_get-set_other xs i j v (λ e. absurd (omega arith)) within ∙ sym (find_in_row first xs rest q j is within) ∙ sym (ap (λ b. cond b (Some v) (find nat_cmp q (number_from first xs ++ rest))) differ.0))
            ])
        | inr off ↦
            find_off_row first (set xs i v) rest q (subst (λ k. IsOff first k q) (sym len) off)
            ∙ sym (find_off_row first xs rest q off)
            ∙ sym (ap (λ b. cond b (Some v) (find nat_cmp q (number_from first xs ++ rest))) (ne_eqb q n (λ e. elim off [ inl below ↦ absurd (omega arith) | inr past ↦ absurd (omega arith) ])))
      ]

  -- with one value more in the row
  pub find_pushed : (first : ℕ) (xs : List X) (rest : List (ℕ × X)) (n : ℕ) (v : X) (q : ℕ) → n ≡ first + length xs → find nat_cmp q (number_from first (xs ++ v ∷ []) ++ rest) ≡ cond (eqb q n) (Some v) (find nat_cmp q (number_from first xs ++ rest))
  find_pushed first xs rest n v q at =
      let len : length (xs ++ v ∷ []) ≡ length xs + 1 = length-append xs (v ∷ []) in
      elim (where_is first (length xs) q) [
        | inl place ↦ (let j = place.0 in let is : q ≡ first + j = place.1 in let within : j < length xs = place.2 in
            find_in_row first (xs ++ v ∷ []) rest q j is (omega arith)
            ∙ slice_get-append_left xs (v ∷ []) j within
            ∙ sym (find_in_row first xs rest q j is within)
            ∙ sym (ap (λ b. cond b (Some v) (find nat_cmp q (number_from first xs ++ rest))) (ne_eqb q n (λ e. absurd (omega arith)))))
        | inr off ↦ elim (eqb_tells q n) [
          | inl same ↦ (let s : q ≡ n = same.1 in let none : length xs + 0 ≡ length xs = omega arith in
              find_in_row first (xs ++ v ∷ []) rest q (length xs) (omega arith) (omega arith)
              ∙ ap (slice_get (xs ++ v ∷ [])) (sym none) ∙ slice_get-append_right xs (v ∷ []) 0
              ∙ sym (ap (λ b. cond b (Some v) (find nat_cmp q (number_from first xs ++ rest))) same.0))
          | inr differ ↦ (let d : q ≢ n = differ.1 in
              find_off_row first (xs ++ v ∷ []) rest q (elim off [ inl below ↦ inl below | inr past ↦ inr (omega arith) ])
              ∙ sym (find_off_row first xs rest q off)
              ∙ sym (ap (λ b. cond b (Some v) (find nat_cmp q (number_from first xs ++ rest))) differ.0))
        ]
      ]

  -- with an entry behind the row changed, of a number that stands off it
  pub find_behind : (first : ℕ) (xs : List X) (rest new : List (ℕ × X)) (n : ℕ) (w : Option X) (q : ℕ) → IsOff first (length xs) n → find nat_cmp q new ≡ cond (eqb q n) w (find nat_cmp q rest) → find nat_cmp q (number_from first xs ++ new) ≡ cond (eqb q n) w (find nat_cmp q (number_from first xs ++ rest))
  find_behind first xs rest new n w q apart changed = elim (where_is first (length xs) q) [
    | inl place ↦ (let j = place.0 in let is : q ≡ first + j = place.1 in let within : j < length xs = place.2 in
        find_in_row first xs new q j is within ∙ sym (find_in_row first xs rest q j is within)
        ∙ sym (ap (λ b. cond b w (find nat_cmp q (number_from first xs ++ rest))) (ne_eqb q n (λ e. elim apart [ inl below ↦ absurd (omega arith) | inr past ↦ absurd (omega arith) ]))))
    | inr off ↦ find_off_row first xs new q off ∙ changed ∙ ap (cond (eqb q n) w) (sym (find_off_row first xs rest q off))
  ]

  -- ---- in the finite map

  pub got_in_row : (first : ℕ) (xs : List X) (rest : List (ℕ × X)) (q i : ℕ) → q ≡ first + i → i < length xs → get (from_entries {R = nat_cmp} (number_from first xs ++ rest)) q ≡ slice_get xs i
  got_in_row first xs rest q i at less = get-from_entries nat_cmp_total (number_from first xs ++ rest) q ∙ find_in_row first xs rest q i at less

  pub got_off_row : (first : ℕ) (xs : List X) (rest : List (ℕ × X)) (q : ℕ) → IsOff first (length xs) q → get (from_entries {R = nat_cmp} (number_from first xs ++ rest)) q ≡ lookup (is_at (nat_cmp q)) rest
  got_off_row first xs rest q off = get-from_entries nat_cmp_total (number_from first xs ++ rest) q ∙ find_off_row first xs rest q off ∙ find_entry nat_cmp nat_cmp_total rest q

  -- entries that differ by one that was put there
  pub put_there : (es fs : List (ℕ × X)) (n : ℕ) (v : X) → ((q : ℕ) → find nat_cmp q fs ≡ cond (eqb q n) (Some v) (find nat_cmp q es)) → from_entries {R = nat_cmp} fs ≡ insert (from_entries es) n v
  put_there es fs n v h = same_map nat_cmp_total nat_cmp-IsAntisymmetric _ _ (λ q.
      get-from_entries nat_cmp_total fs q ∙ h q
      ∙ ap (λ b. cond b (Some v) (find nat_cmp q es)) (sym (nat_ties q n))
      ∙ sym (get-insert nat_cmp_total (from_entries es) n v q ∙ ap (cond (eq_by_cmp nat_cmp q n) (Some v)) (get-from_entries nat_cmp_total es q)))

  -- the entries behind a row differ by one that was put or taken out, and what is found behind it
  found_changed : (rest new : List (ℕ × X)) (n : ℕ) (w : Option X) → ((q : ℕ) → lookup (is_at (nat_cmp q)) new ≡ cond (is_at (nat_cmp n) q) w (lookup (is_at (nat_cmp q)) rest)) → (q : ℕ) → find nat_cmp q new ≡ cond (eqb q n) w (find nat_cmp q rest)
  found_changed rest new n w h q =
      find_entry nat_cmp nat_cmp_total new q ∙ h q
      ∙ ap (λ b. cond b w (lookup (is_at (nat_cmp q)) rest)) ((eq_by_cmp_equiv nat_cmp_total).symm n q ∙ nat_ties q n)
      ∙ ap (cond (eqb q n) w) (sym (find_entry nat_cmp nat_cmp_total rest q))

  -- with a value put among the others
  pub seen_put : (first : ℕ) (xs : List X) (rest new : List (ℕ × X)) (n : ℕ) (v : X) → IsOff first (length xs) n → ((q : ℕ) → lookup (is_at (nat_cmp q)) new ≡ cond (is_at (nat_cmp n) q) (Some v) (lookup (is_at (nat_cmp q)) rest)) → map_of_row first xs new ≡ insert (map_of_row first xs rest) n v
  seen_put first xs rest new n v off h = put_there (number_from first xs ++ rest) (number_from first xs ++ new) n v (λ q. find_behind first xs rest new n (Some v) q off (found_changed rest new n (Some v) h q))

  -- with a value in the row changed
  pub seen_set : (first : ℕ) (xs : List X) (rest : List (ℕ × X)) (i n : ℕ) (v : X) → i < length xs → n ≡ first + i → map_of_row first (set xs i v) rest ≡ insert (map_of_row first xs rest) n v
  seen_set first xs rest i n v less at = put_there (number_from first xs ++ rest) (number_from first (set xs i v) ++ rest) n v (λ q. find_set first xs rest i n v q less at)

  -- with a value behind the row
  pub seen_pushed : (first : ℕ) (xs : List X) (rest : List (ℕ × X)) (n : ℕ) (v : X) → n ≡ first + length xs → map_of_row first (xs ++ v ∷ []) rest ≡ insert (map_of_row first xs rest) n v
  seen_pushed first xs rest n v at = put_there (number_from first xs ++ rest) (number_from first (xs ++ v ∷ []) ++ rest) n v (λ q. find_pushed first xs rest n v q at)

  -- with a value moved into the row
  pub seen_moved : (first : ℕ) (xs : List X) (rest new : List (ℕ × X)) (n : ℕ) (v : X) → n ≡ first + length xs → lookup (is_at (nat_cmp n)) rest ≡ Some v → ((q : ℕ) → lookup (is_at (nat_cmp q)) new ≡ cond (is_at (nat_cmp n) q) None (lookup (is_at (nat_cmp q)) rest)) → map_of_row first (xs ++ v ∷ []) new ≡ map_of_row first xs rest
  seen_moved first xs rest new n v at was h = same_map nat_cmp_total nat_cmp-IsAntisymmetric _ _ (λ q.
      get-from_entries nat_cmp_total (number_from first (xs ++ v ∷ []) ++ new) q
      ∙ find_pushed first xs new n v q at
      ∙ ap (cond (eqb q n) (Some v)) (find_behind first xs rest new n None q (inr (omega arith)) (found_changed rest new n None h q))
      ∙ elim (eqb_tells q n) [
        | inl same ↦ (let s : q ≡ n = same.1 in
            ap (λ b. cond b (Some v) (cond b None (find nat_cmp q (number_from first xs ++ rest)))) same.0
            ∙ sym was ∙ sym (find_entry nat_cmp nat_cmp_total rest n)
            ∙ sym (find_off_row first xs rest n (inr (omega arith)))
            ∙ ap (λ m. find nat_cmp m (number_from first xs ++ rest)) (sym s))
        | inr differ ↦ ap (λ b. cond b (Some v) (cond b None (find nat_cmp q (number_from first xs ++ rest)))) differ.0
      ]
      ∙ sym (get-from_entries nat_cmp_total (number_from first xs ++ rest) q))

  -- a number off the row that none of the others has
  pub unseen : (first : ℕ) (xs : List X) (rest : List (ℕ × X)) (n : ℕ) → IsOff first (length xs) n → lookup (is_at (nat_cmp n)) rest ≡ None → IsSome (get (map_of_row first xs rest) n) → ⊥
  unseen first xs rest n off none some =
      let nothing : get (map_of_row first xs rest) n ≡ None = got_off_row first xs rest n off ∙ none in
      let wrong : IsSome {T = X} None = subst (λ r. IsSome r) nothing some in
      absurd cc

  -- whichever way a call ends that fails for a new number alone
  pub known_is_put : {T E : Type 0} (r : Result T E) (first : ℕ) (xs : List X) (rest : List (ℕ × X)) (n : ℕ) → IsOff first (length xs) n → OnErr r (lookup (is_at (nat_cmp n)) rest ≡ None) → IsSome (get (map_of_row first xs rest) n) → IsOk r
  known_is_put (Ok x) first xs rest n off none some = refl
  known_is_put (Err e) first xs rest n off none some = absurd (unseen first xs rest n off none some)
