-- What is spelled is read, before any rest with which the production doesn't go on.
use Rattle.std.proofs.Common.{◌≡◌, ℕ, Bool, true, false, List, [], ◌∷◌, ◌++◌, refl, sym, ◌∙◌, ap, subst, append_assoc}
use Rattle.std.specs.Prelude.{Option, Some, None}
use Rattle.circus_syntax.specs.declared.stopping.Stop.{Stop}
use Rattle.circus_syntax.specs.Placed.{Placed, first, Due, AreDue}
use Rattle.circus_syntax.specs.Reader.{Reader, place_in, passes, token, nothing, both, map_read, choose_by, either_case, optional, repeat_while, mark_stops, marked_in}
use Rattle.circus_syntax.specs.Spelling.{each, if_written, IsEach, IfWritten}
use Rattle.circus_syntax.proofs.Sound.{reader, both_is, AreDue-split, AreDue-none}
use Rattle.circus_syntax.proofs.Repeats.{Shrinks, repeated_sees, repeated_none}

pub record Complete {A : Type 0} (p : Reader → A × Reader) (spell : A → List Due) (Good : A → Type 0) (Stays : Option Placed → Type 0) : Type 0 where
  pub reads : (a : A) (ts rest : List Placed) (e : ℕ) → Good a → AreDue (spell a) ts → Stays (first rest) → p (reader None (ts ++ rest) e) ≡ (a, reader None rest e)

-- any rest
abbrev pub Any : Option Placed → Type 0
Any o = Unit {0}

-- what is spelled begins with a token that passes
abbrev pub Opens : {A : Type 0} → (A → List Due) → (A → Type 0) → (Placed → Bool) → Type 0
Opens {A = A} spell Good test = (a : A) (ts rest : List Placed) → Good a → AreDue (spell a) ts → passes test (first (ts ++ rest)) ≡ true

-- what q reads and what stands behind it doesn't go on what stands in front
abbrev pub Links : {B : Type 0} → (B → List Due) → (B → Type 0) → (Option Placed → Type 0) → (Option Placed → Type 0) → Type 0
Links {B = B} spell Good Behind Stays = (b : B) (ts rest : List Placed) → Good b → AreDue (spell b) ts → Behind (first rest) → Stays (first (ts ++ rest))

pub complete_token : {A : Type 0} (test : Placed → Bool) (read : Placed → A) (fill : ℕ → A) (spell : A → List Due) (Good : A → Type 0)
    → ((a : A) (ts : List Placed) → Good a → AreDue (spell a) ts → (t : Placed) × (ts ≡ t ∷ []) × (test t ≡ true) × (read t ≡ a))
    → Complete (token test read fill) spell Good Any
complete_token {A = A} test read fill spell Good back = record {
  reads = λ a ts rest e good due stays.
      let (t, same, hit, is) = back a ts good due in
      subst (λ (us : List Placed). token test read fill (reader None (us ++ rest) e) ≡ (a, reader None rest e)) (sym same)
      (seen t rest e hit ∙ ap (λ b. (b, reader None rest e)) is);
}
  where
    seen : (t : Placed) (rest : List Placed) (e : ℕ) → test t ≡ true → token test read fill (reader None (t ∷ rest) e) ≡ (read t, reader None rest e)
    seen t rest e hit = rw hit refl

pub complete_both : {A B : Type 0} {p : Reader → A × Reader} {q : Reader → B × Reader} {sa : A → List Due} {sb : B → List Due} {ga : A → Type 0} {gb : B → Type 0} {ka kb : Option Placed → Type 0}
    → Complete p sa ga ka → Complete q sb gb kb → Links sb gb kb ka
    → Complete (both p q) (λ x. sa x.0 ++ sb x.1) (λ x. ga x.0 × gb x.1) kb
complete_both {A = A} {B = B} {p = p} {q = q} {sa = sa} {sb = sb} P Q link = record {
  reads = λ x ts rest e good due stays.
      let (us, vs, same, front, back) = AreDue-split (sa x.0) (sb x.1) ts due in
      subst (λ (l : List Placed). both p q (reader None l e) ≡ (x, reader None rest e)) (sym (ap (λ l. l ++ rest) same ∙ append_assoc us vs rest))
      (both_is p q _ _ _ x.0 x.1 (P.reads x.0 us (vs ++ rest) e good.0 front (link x.1 vs rest good.1 back stays)) (Q.reads x.1 vs rest e good.1 back stays));
}

-- where anything may stand behind the first
pub complete_then : {A B : Type 0} {p : Reader → A × Reader} {q : Reader → B × Reader} {sa : A → List Due} {sb : B → List Due} {ga : A → Type 0} {gb : B → Type 0} {kb : Option Placed → Type 0}
    → Complete p sa ga Any → Complete q sb gb kb → Complete (both p q) (λ x. sa x.0 ++ sb x.1) (λ x. ga x.0 × gb x.1) kb
complete_then P Q = complete_both P Q (λ b ts rest good due stays. tt)

pub complete_mapped : {A B : Type 0} {p : Reader → A × Reader} {sa : A → List Due} {ga : A → Type 0} {Stays : Option Placed → Type 0} (f : A → B) (sb : B → List Due) (gb : B → Type 0)
    → ((x : A) → sb (f x) ≡ sa x) → ((b : B) → gb b → (x : A) × (f x ≡ b) × ga x) → Complete p sa ga Stays → Complete (map_read f p) sb gb Stays
complete_mapped {A = A} {B = B} {p = p} {sa = sa} {ga = ga} {Stays = Stays} f sb gb spelled back P = record {
  reads = λ b ts rest e good due stays.
      let (x, is, fine) = back b good in
      subst (λ (c : B). AreDue (sb c) ts → map_read f p (reader None (ts ++ rest) e) ≡ (c, reader None rest e)) is
      (λ d. ap (λ y. (f y.0, y.1)) (P.reads x ts rest e fine (subst (λ ds. AreDue ds ts) (spelled x) d) stays)) due;
}

pub complete_marked : {A : Type 0} (mark : ℕ → Stop → Stop) {p : Reader → A × Reader} {spell : A → List Due} {Good : A → Type 0} {Stays : Option Placed → Type 0}
    → Complete p spell Good Stays → Complete (mark_stops mark p) spell Good Stays
complete_marked mark P = record {
  reads = λ a ts rest e good due stays. ap (marked_in mark None (place_in (ts ++ rest) e)) (P.reads a ts rest e good due stays);
}

pub complete_weaker : {A : Type 0} {p : Reader → A × Reader} {spell : A → List Due} {Good : A → Type 0} {Stays : Option Placed → Type 0} (Behind : Option Placed → Type 0)
    → ((o : Option Placed) → Behind o → Stays o) → Complete p spell Good Stays → Complete p spell Good Behind
complete_weaker Behind weaker P = record {
  reads = λ a ts rest e good due stays. P.reads a ts rest e good due (weaker (first rest) stays);
}

-- the branch that a class takes
pub cased_is : {K A : Type 0} (class : Option Placed → K) (p : K → Reader → A × Reader) (k : K) (us : List Placed) (e : ℕ) (x : A × Reader)
    → class (first us) ≡ k → p k (reader None us e) ≡ x → choose_by class p (reader None us e) ≡ x
cased_is class p k us e x same is = ap (λ c. p c (reader None us e)) same ∙ is

pub complete_optional : {A : Type 0} (test : Placed → Bool) {p : Reader → A × Reader} {spell : A → List Due} {Good : A → Type 0} {Stays : Option Placed → Type 0}
    → Complete p spell Good Stays → Opens spell Good test
    → Complete (optional test p) (if_written spell) (IfWritten Good) (λ o. Stays o × (passes test o ≡ false))
complete_optional {A = A} test {p = p} {spell = spell} {Good = Good} {Stays = Stays} P opens = record { reads = reads }
  where
    reads : (a : Option A) (ts rest : List Placed) (e : ℕ) → IfWritten Good a → AreDue (if_written spell a) ts → Stays (first rest) × (passes test (first rest) ≡ false)
        → optional test p (reader None (ts ++ rest) e) ≡ (a, reader None rest e)
    reads None ts rest e good due stays =
        subst (λ (us : List Placed). optional test p (reader None (us ++ rest) e) ≡ (None, reader None rest e)) (sym (AreDue-none ts due))
        (cased_is (passes test) (either_case (map_read (λ x. Some x) p) (nothing None)) false rest e _ stays.1 refl)
    reads (Some x) ts rest e good due stays =
        cased_is (passes test) (either_case (map_read (λ x. Some x) p) (nothing None)) true (ts ++ rest) e _ (opens x ts rest good due)
        (ap (λ y. (Some y.0, y.1)) (P.reads x ts rest e good due stays.0))

-- what stands behind one of the items doesn't go on it
pub stays_behind : {A : Type 0} (test : Placed → Bool) (spell : A → List Due) (Good : A → Type 0) (Stays : Option Placed → Type 0)
    → Opens spell Good test → ((o : Option Placed) → passes test o ≡ true → Stays o)
    → (xs : List A) (ts rest : List Placed) → IsEach Good xs → AreDue (each spell xs) ts → Stays (first rest) → Stays (first (ts ++ rest))
stays_behind test spell Good Stays opens follows [] ts rest good due stays =
    subst (λ (us : List Placed). Stays (first (us ++ rest))) (sym (AreDue-none ts due)) stays
stays_behind test spell Good Stays opens follows (x ∷ xs) ts rest good due stays =
    let (us, vs, same, front, back) = AreDue-split (spell x) (each spell xs) ts due in
    subst (λ (l : List Placed). Stays (first l)) (sym (ap (λ l. l ++ rest) same ∙ append_assoc us vs rest))
    (follows (first (us ++ (vs ++ rest))) (opens x us (vs ++ rest) good.0 front))

pub complete_repeated : {A : Type 0} (test : Placed → Bool) {item : Reader → A × Reader} {spell : A → List Due} {Good : A → Type 0} {Stays : Option Placed → Type 0}
    → Shrinks test item → Complete item spell Good Stays → Opens spell Good test → ((o : Option Placed) → passes test o ≡ true → Stays o)
    → Complete (repeat_while test item) (each spell) (IsEach Good) (λ o. Stays o × (passes test o ≡ false))
complete_repeated {A = A} test {item = item} {spell = spell} {Good = Good} {Stays = Stays} shrinks P opens follows = record { reads = reads }
  where
    reads : (xs : List A) (ts rest : List Placed) (e : ℕ) → IsEach Good xs → AreDue (each spell xs) ts → Stays (first rest) × (passes test (first rest) ≡ false)
        → repeat_while test item (reader None (ts ++ rest) e) ≡ (xs, reader None rest e)
    reads [] ts rest e good due stays =
        subst (λ (us : List Placed). repeat_while test item (reader None (us ++ rest) e) ≡ ([], reader None rest e)) (sym (AreDue-none ts due))
        (repeated_none test item (reader None rest e) stays.1)
    reads (x ∷ xs) ts rest e good due stays =
        let (us, vs, same, front, back) = AreDue-split (spell x) (each spell xs) ts due in
        subst (λ (l : List Placed). repeat_while test item (reader None l e) ≡ (x ∷ xs, reader None rest e)) (sym (ap (λ l. l ++ rest) same ∙ append_assoc us vs rest))
        (repeated_sees test item shrinks (reader None (us ++ (vs ++ rest)) e) (opens x us (vs ++ rest) good.0 front)
        ∙ ap (λ y. (y.0.0 ∷ y.0.1, y.1))
        (both_is item (repeat_while test item) _ _ _ x xs (P.reads x us (vs ++ rest) e good.0 front (stays_behind test spell Good Stays opens follows xs vs rest good.1 back stays.0))
        (reads xs vs rest e good.1 back stays)))
