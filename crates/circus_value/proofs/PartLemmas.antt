-- Parts and where they end.
use Rattle.std.proofs.Common.{◌≡◌, ℕ, zero, suc, ◌+◌, ◌-◌, ◌<◌, ◌≤◌, Some, List, [], ◌∷◌, ◌++◌, length, get_or, take, drop, slice_get, slice_range, unwrap_or, refl, sym, ap, ◌∙◌, arith, append_assoc, length-append, length-drop}
use Rattle.std.specs.List.{concat}
use Rattle.std.proofs.lemmas.List.Folds.{concat-append}
use Rattle.std.proofs.lemmas.List.{take_all, take_more, append-nil, take-append-drop, drop-drop, drop_at, drop-append-le, take_rest}
use Rattle.std.proofs.lemmas.Option.{unwrap_or-slice_get, slice_get_read, slice_get-get_or}
use Rattle.circus_value.specs.Seen.PartEnds.{ends_from}

pub length-ends_from : (n : ℕ) (ps : List (List ℕ)) → length (ends_from n ps) ≡ length ps
length-ends_from n [] = refl
length-ends_from n (p ∷ ps) = ap suc (length-ends_from (n + length p) ps)

-- the end of the part before a place is how many bytes stand before it
pub before_at : (n : ℕ) (ps : List (List ℕ)) (k : ℕ) → k < length ps → get_or (ends_from n ps) k 0 ≡ n + length (concat (take (suc k) ps))
before_at n [] k h = absurd (omega arith)
before_at n (p ∷ ps) zero h = omega (arith, length-append p [])
before_at n (p ∷ ps) (suc k) h =
    omega (arith, before_at (n + length p) ps k (omega arith), length-append p (concat (take (suc k) ps)))

pub before_le : (ps : List (List ℕ)) (k at : ℕ) → k ≤ length ps → (0 < k → get_or (ends_from 0 ps) (k - 1) 0 ≤ at) → length (concat (take k ps)) ≤ at
before_le ps zero at h le = omega arith
before_le ps (suc k) at h le =
    let place : suc k - 1 ≡ k = omega arith in
    omega (arith, before_at 0 ps k (omega arith), le (omega arith), ap (λ i. get_or (ends_from 0 ps) i 0) place)

-- the joined bytes round one part
pub concat-split : (ps : List (List ℕ)) (k : ℕ) (p : List ℕ) → slice_get ps k ≡ Some p → concat ps ≡ concat (take k ps) ++ (p ++ concat (drop (suc k) ps))
concat-split [] k p e = cc
concat-split (q ∷ ps) zero p e = let same : q ≡ p = cc in ap (λ r. r ++ concat ps) same
concat-split (q ∷ ps) (suc k) p e =
    ap (λ r. q ++ r) (concat-split ps k p e) ∙ sym (append_assoc q (concat (take k ps)) (p ++ concat (drop (suc k) ps)))

pub end_at : (n : ℕ) (ps : List (List ℕ)) (k : ℕ) (p : List ℕ) → slice_get ps k ≡ Some p → get_or (ends_from n ps) k 0 ≡ n + length (concat (take k ps)) + length p
end_at n [] k p e = cc
end_at n (q ∷ ps) zero p e = let same : q ≡ p = cc in omega (arith, ap length same)
end_at n (q ∷ ps) (suc k) p e = omega (arith, end_at (n + length q) ps k p e, length-append q (concat (take k ps)))

pub ends_from-push : (n : ℕ) (ps : List (List ℕ)) (p : List ℕ) → ends_from n (ps ++ p ∷ []) ≡ ends_from n ps ++ (n + length (concat ps) + length p) ∷ []
ends_from-push n [] p = ap (λ m. m ∷ []) (omega arith)
ends_from-push n (q ∷ ps) p =
    let same : n + length q + length (concat ps) + length p ≡ n + length (q ++ concat ps) + length p = omega (arith, length-append q (concat ps)) in
    ap (λ r. (n + length q) ∷ r) (ends_from-push (n + length q) ps p ∙ ap (λ m. ends_from (n + length q) ps ++ m ∷ []) same)

pub slice_get-append_left : {A : Type 0} (xs ys : List A) (k : ℕ) → k < length xs → slice_get (xs ++ ys) k ≡ slice_get xs k
slice_get-append_left [] ys k h = absurd (omega arith)
slice_get-append_left (x ∷ xs) ys zero h = refl
slice_get-append_left (x ∷ xs) ys (suc k) h = slice_get-append_left xs ys k (omega arith)

pub slice_get-append_right : {A : Type 0} (xs ys : List A) (k : ℕ) → slice_get (xs ++ ys) (length xs + k) ≡ slice_get ys k
slice_get-append_right [] ys k = ap (slice_get ys) (omega arith)
slice_get-append_right (x ∷ xs) ys k =
    let same : length (x ∷ xs) + k ≡ suc (length xs + k) = omega arith in
    ap (slice_get ((x ∷ xs) ++ ys)) same ∙ slice_get-append_right xs ys k

-- the end of the last part is how many bytes there are
pub last_end : (ps : List (List ℕ)) → unwrap_or (slice_get (ends_from 0 ps) (length (ends_from 0 ps) - 1)) 0 ≡ length (concat ps)
last_end [] = refl
last_end (p ∷ ps) =
    let all = p ∷ ps in
    let place : length (ends_from 0 all) - 1 ≡ length ps = omega (arith, length-ends_from 0 all) in
    let found = ap (λ i. unwrap_or (slice_get (ends_from 0 all) i) 0) place ∙ unwrap_or-slice_get (ends_from 0 all) (length ps) 0 in
    omega (arith, found, before_at 0 all (length ps) (omega arith), ap (λ r. length (concat r)) (take_all (suc (length ps)) all (omega arith)))

-- a place past all ends is past all bytes
pub past_all : (ps : List (List ℕ)) (es : List ℕ) (k at : ℕ) → es ≡ ends_from 0 ps → length ps ≤ k → k ≤ length es → (0 < k → get_or es (k - 1) 0 ≤ at) → length (concat ps) ≤ at
past_all ps es k at ends past within before =
    let few : k ≤ length ps = omega (arith, ap length ends, length-ends_from 0 ps) in
    let low : length (concat (take k ps)) ≤ at =
    before_le ps k at few (λ h. omega (arith, before h, ap (λ xs. get_or xs (k - 1) 0) ends)) in
    omega (arith, low, ap (λ r. length (concat r)) (take_all k ps past))

-- a byte lies in this part, the part at `k`
pub record IsFound (ps : List (List ℕ)) (es : List ℕ) (k at : ℕ) (part : List ℕ) : Type 0 where
  pub ends : length es ≡ length ps
  pub from : length (concat (take k ps)) ≤ at
  pub upto : at < length (concat (take k ps)) + length part
  pub end : get_or es k 0 ≡ length (concat (take k ps)) + length part
  pub next : length (concat (take (k + 1) ps)) ≡ length (concat (take k ps)) + length part
  pub within : length (concat (take k ps)) + length part ≤ length (concat ps)

pub found : (ps : List (List ℕ)) (es : List ℕ) (k at : ℕ) (p : List ℕ) → es ≡ ends_from 0 ps → k < length ps → p ≡ get_or ps k p → (0 < k → get_or es (k - 1) 0 ≤ at) → (k < length es → at < get_or es k 0) → IsFound ps es k at p
found ps es k at p ends few is before above =
    let long : length es ≡ length ps = omega (arith, ap length ends, length-ends_from 0 ps) in
    let some : slice_get ps k ≡ Some p = slice_get_read ps (length ps) k p refl few is in
    let low : length (concat (take k ps)) ≤ at =
    before_le ps k at (omega arith) (λ h. omega (arith, before h, ap (λ xs. get_or xs (k - 1) 0) ends)) in
    let end : get_or es k 0 ≡ length (concat (take k ps)) + length p = omega (arith, ap (λ xs. get_or xs k 0) ends, end_at 0 ps k p some) in
    let one_more : suc k ≡ k + 1 = omega arith in
    let next : length (concat (take (k + 1) ps)) ≡ length (concat (take k ps)) + length p =
    omega (arith, ap (λ i. length (concat (take i ps))) one_more, before_at 0 ps k few, end_at 0 ps k p some) in
    let high : at < get_or es k 0 = above (omega arith) in
    let joined = ap length (concat-split ps k p some) in
    let later = concat (drop (suc k) ps) in
    record {
      ends = long;
      from = low;
      upto = omega (arith, end, high);
      end = end;
      next = next;
      within = omega (arith, joined, length-append (concat (take k ps)) (p ++ later), length-append p later);
    }

pub concat-more : (ps : List (List ℕ)) (i : ℕ) (p : List ℕ) → i < length ps → p ≡ get_or ps i p → concat (take (i + 1) ps) ≡ concat (take i ps) ++ p
concat-more ps i p few is =
    ap concat (take_more ps i p few) ∙ concat-append (take i ps) (get_or ps i p ∷ []) ∙ ap (λ r. concat (take i ps) ++ r) (append-nil (get_or ps i p) ∙ sym is)

pub concat-push : (ps : List (List ℕ)) (p : List ℕ) → concat (ps ++ p ∷ []) ≡ concat ps ++ p
concat-push ps p = concat-append ps (p ∷ []) ∙ ap (λ r. concat ps ++ r) (append-nil p)

pub concat-take-le : (ps : List (List ℕ)) (i : ℕ) → length (concat (take i ps)) ≤ length (concat ps)
concat-take-le ps i =
    omega (arith, ap (λ r. length (concat r)) (take-append-drop i ps), ap length (concat-append (take i ps) (drop i ps)), length-append (concat (take i ps)) (concat (drop i ps)))

-- a byte by its place in a part
pub byte_in : (ps : List (List ℕ)) (k j at : ℕ) (p : List ℕ) → k < length ps → p ≡ get_or ps k p → length (concat (take k ps)) + j ≡ at → at < length (concat (take (k + 1) ps)) → j < length p
byte_in ps k j at p few is start end =
    omega (arith, ap length (concat-more ps k p few is), length-append (concat (take k ps)) p)

pub byte_at : (ps : List (List ℕ)) (k j at : ℕ) (p : List ℕ) → k < length ps → p ≡ get_or ps k p → length (concat (take k ps)) + j ≡ at → j < length p → Some (get_or p j 0) ≡ slice_get (concat ps) at
byte_at ps k j at p few is start within =
    let some : slice_get ps k ≡ Some p = slice_get_read ps (length ps) k p refl few is in
    let before = concat (take k ps) in
    let after = concat (drop (suc k) ps) in
    let whole : slice_get (concat ps) at ≡ slice_get (before ++ (p ++ after)) (length before + j) =
    λ i. slice_get (concat-split ps k p some i) (sym start i) in
    sym (whole ∙ slice_get-append_right before (p ++ after) j ∙ slice_get-append_left p after j within ∙ slice_get-get_or p j 0 within)

-- what stands from a place on
pub rest_at : (ps : List (List ℕ)) (k j at : ℕ) (p : List ℕ) → k < length ps → p ≡ get_or ps k p → length (concat (take k ps)) + j ≡ at → j ≤ length p → drop at (concat ps) ≡ drop j p ++ concat (drop (k + 1) ps)
rest_at ps k j at p few is start within =
    let some : slice_get ps k ≡ Some p = slice_get_read ps (length ps) k p refl few is in
    let before = concat (take k ps) in
    let after = concat (drop (suc k) ps) in
    let one_more : suc k ≡ k + 1 = omega arith in
    let whole : drop at (concat ps) ≡ drop (length before + j) (before ++ (p ++ after)) = λ i. drop (sym start i) (concat-split ps k p some i) in
    whole ∙ sym (drop-drop j (length before) (before ++ (p ++ after))) ∙ ap (drop j) (drop_at before (p ++ after) (length before) refl) ∙ drop-append-le j p after within ∙ ap (λ i. drop j p ++ concat (drop i ps)) one_more

-- the same, as a range of the part and a range of the parts
pub rest_split : (ps : List (List ℕ)) (k j at n : ℕ) (p : List ℕ) → k < length ps → p ≡ get_or ps k p → length (concat (take k ps)) + j ≡ at → at < length (concat (take (k + 1) ps)) → n ≡ length p → drop at (concat ps) ≡ slice_range p j n ++ concat (take (length ps - (k + 1)) (drop (k + 1) ps))
rest_split ps k j at n p few is start end all =
    let within : j ≤ length p = omega (arith, byte_in ps k j at p few is start end) in
    let cut : slice_range p j n ≡ drop j p = ap (λ m. slice_range p j m) all ∙ take_rest p j in
    let later : take (length ps - (k + 1)) (drop (k + 1) ps) ≡ drop (k + 1) ps = take_rest ps (k + 1) in
    rest_at ps k j at p few is start within ∙ (λ i. sym cut i ++ concat (sym later i))

-- parts and more parts are no more than all
pub rest_few : (ps : List (List ℕ)) (at : ℕ) (front later : List ℕ) → drop at (concat ps) ≡ front ++ later → length front + length later ≤ length (concat ps)
rest_few ps at front later is = omega (arith, ap length is, length-append front later, length-drop at (concat ps))
