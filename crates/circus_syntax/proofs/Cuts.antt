-- The mark of a stop: what is known of the first token that was not read.
use Rattle.std.proofs.Common.{◌≡◌, ℕ, zero, suc, ◌+◌, Bool, true, false, List, [], ◌∷◌, ◌++◌, length, map, refl, sym, ◌∙◌, ap, subst, arith, length-append}
use Rattle.std.specs.Prelude.{Option, Some, None, option_map, if◌then◌else◌}
use Rattle.std.specs.List.{flat_map}
use Rattle.std.proofs.lemmas.List.{map-append, length-map}
use Rattle.circus_syntax.specs.declared.stopping.Stop.{Stop}
use Rattle.circus_syntax.specs.declared.stopping.StopCause.{StopCause}
use Rattle.circus_syntax.specs.declared.stopping.StopCause.TheVariants.{Unexpected}
use Rattle.circus_syntax.specs.Placed.{Placed, first, Due}
use Rattle.circus_syntax.specs.Reader.{Reader, place_in, stop_at, passes, token, stop_reading, nothing, both, map_read, choose_by, either, either_case, optional, repeat, repeat_while, mark_stops}
use Rattle.circus_syntax.specs.Spelling.{each, if_written}
use Rattle.circus_syntax.specs.Standing.{Standing, outside, apart}
use Rattle.circus_syntax.proofs.Sound.{reader}

-- what a mark has to do with where a token stands
abbrev pub Tie : Type 1
Tie = Standing → Stop → Type 0

-- a stop at this one of the tokens
abbrev pub At : Tie → List Standing → ℕ → Stop → Type 0
At R [] k s = ⊥
At R (m ∷ ms) zero s = R m s
At R (m ∷ ms) (suc k) s = At R ms k s

-- of n tokens all of these were taken; or so many of them, and the stop is at the next one
abbrev pub CutBy : Tie → List Standing → ℕ → Option Stop → List Placed → Type 0
CutBy R ms n None left = length ms + length left ≡ n
CutBy R ms n (Some s) left = (k : ℕ) × (k + length left ≡ n) × At R ms k s

abbrev pub Cut : {A : Type 0} → Tie → (A → List Standing) → ℕ → ℕ → A × Reader → Type 0
Cut R stand n e x = (x.1.end ≡ e) × CutBy R (stand x.0) n x.1.stop x.1.rest

-- a production whose stops are tied to where the tokens of what it answers stand
pub record Cuts (R : Tie) {A : Type 0} (p : Reader → A × Reader) (stand : A → List Standing) : Type 0 where
  pub still : (s : Stop) (ts : List Placed) (e : ℕ) → (p (reader (Some s) ts e)).1 ≡ reader (Some s) ts e
  pub cut : (ts : List Placed) (e : ℕ) → Cut R stand (length ts) e (p (reader None ts e))

at_front : (R : Tie) (ms ns : List Standing) (k : ℕ) (s : Stop) → At R ms k s → At R (ms ++ ns) k s
at_front R [] ns k s a = absurd a
at_front R (m ∷ ms) ns zero s a = a
at_front R (m ∷ ms) ns (suc k) s a = at_front R ms ns k s a

-- behind these
behind : List Standing → ℕ → ℕ
behind [] k = k
behind (m ∷ ms) k = suc (behind ms k)

behind_is : (ms : List Standing) (k : ℕ) → behind ms k ≡ length ms + k
unfolding behind
behind_is [] k = omega arith
behind_is (m ∷ ms) k = omega (arith, behind_is ms k)

at_back : (R : Tie) (ms ns : List Standing) (k : ℕ) (s : Stop) → At R ns k s → At R (ms ++ ns) (behind ms k) s
unfolding behind
at_back R [] ns k s a = a
at_back R (m ∷ ms) ns k s a = at_back R ms ns k s a

at_mapped : (R S : Tie) (f : Standing → Standing) (g : Stop → Stop) → ((m : Standing) (s : Stop) → R m s → S (f m) (g s)) → (ms : List Standing) (k : ℕ) (s : Stop) → At R ms k s → At S (map f ms) k (g s)
at_mapped R S f g step [] k s a = absurd a
at_mapped R S f g step (m ∷ ms) zero s a = step m s a
at_mapped R S f g step (m ∷ ms) (suc k) s a = at_mapped R S f g step ms k s a

-- Where the tokens stand, said in another way.
pub cuts_as : (R : Tie) {A : Type 0} {p : Reader → A × Reader} {stand : A → List Standing} (other : A → List Standing) → ((a : A) → other a ≡ stand a) → Cuts R p stand → Cuts R p other
cuts_as R {p = p} other same P = record {
  still = P.still;
  cut = λ ts e.
      let x = p (reader None ts e) in
      let (ends, told) = P.cut ts e in
      (ends, subst (λ ms. CutBy R ms (length ts) x.1.stop x.1.rest) (sym (same x.0)) told);
}

-- A token.
pub cuts_token : (R : Tie) (m : Standing) {A : Type 0} (test : Placed → Bool) (read : Placed → A) (fill : ℕ → A) → ((at : ℕ) → R m (stop_at Unexpected at)) → Cuts R (token test read fill) (λ a. m ∷ [])
cuts_token R m {A} test read fill stands = record { still = λ s ts e. refl; cut = cut }
  where
    tested : (b : Bool) (t : Placed) (ts : List Placed) (e : ℕ)
        → Cut {A = A} R (λ a. m ∷ []) (suc (length ts)) e (if b then (read t, reader None ts e) else (fill t.start, reader (Some (stop_at Unexpected t.start)) (t ∷ ts) e))
    tested true t ts e = (refl, omega arith)
    tested false t ts e = (refl, (0, omega arith, stands t.start))

    cut : (ts : List Placed) (e : ℕ) → Cut R (λ a. m ∷ []) (length ts) e (token test read fill (reader None ts e))
    cut [] e = (refl, (0, omega arith, stands e))
    cut (t ∷ ts) e = tested (test t) t ts e

pub cuts_stopped : (R : Tie) (m : Standing) {A : Type 0} (cause : StopCause) (fill : ℕ → A) (stand : A → List Standing) → ((at : ℕ) → stand (fill at) ≡ m ∷ []) → ((at : ℕ) → R m (stop_at cause at))
    → Cuts R (stop_reading cause fill) stand
cuts_stopped R m cause fill stand one stands = record {
  still = λ s ts e. refl;
  cut = λ ts e. let at = place_in ts e in (refl, (0, omega arith, subst (λ ms. At R ms 0 (stop_at cause at)) (sym (one at)) (stands at)));
}

pub cuts_nothing : (R : Tie) {A : Type 0} (a : A) (stand : A → List Standing) → stand a ≡ [] → Cuts R (nothing a) stand
cuts_nothing R a stand none = record { still = λ s ts e. refl; cut = λ ts e. (refl, omega (arith, ap length none)) }

-- One behind the other.
pub cuts_both : (R : Tie) {A B : Type 0} {p : Reader → A × Reader} {q : Reader → B × Reader} {sa : A → List Standing} {sb : B → List Standing}
    → Cuts R p sa → Cuts R q sb → Cuts R (both p q) (λ x. sa x.0 ++ sb x.1)
cuts_both R {A} {B} {p} {q} {sa} {sb} P Q = record { still = still; cut = λ ts e. by_stop ts e (p (reader None ts e)).1.stop (p (reader None ts e)) refl (P.cut ts e) }
  where
    still : (s : Stop) (ts : List Placed) (e : ℕ) → (both p q (reader (Some s) ts e)).1 ≡ reader (Some s) ts e
    still s ts e = ap (λ r. (q r).1) (P.still s ts e) ∙ Q.still s ts e

    further : (a : A) (y : B × Reader) (n m : ℕ) (stop : Option Stop) → length (sa a) + m ≡ n → CutBy R (sb y.0) m stop y.1.rest → CutBy R (sa a ++ sb y.0) n stop y.1.rest
    further a y n m None front told = omega (arith, front, told, length-append (sa a) (sb y.0))
    further a y n m (Some s) front (k, few, at) = (behind (sa a) k, omega (arith, front, few, behind_is (sa a) k), at_back R (sa a) (sb y.0) k s at)

    by_stop : (ts : List Placed) (e : ℕ) (stop : Option Stop) (x : A × Reader) → x.1.stop ≡ stop → Cut R sa (length ts) e x → Cut {A = A × B} R (λ x. sa x.0 ++ sb x.1) (length ts) e ((x.0, (q x.1).0), (q x.1).1)
    by_stop ts e None x is (ends, told) =
        let open_is : x.1 ≡ reader None x.1.rest x.1.end = λ i. reader (is i) x.1.rest x.1.end in
        let front : length (sa x.0) + length x.1.rest ≡ length ts = subst (λ o. CutBy R (sa x.0) (length ts) o x.1.rest) is told in
        let (end, on) = Q.cut x.1.rest x.1.end in
        let y = q (reader None x.1.rest x.1.end) in
        subst (λ r. Cut {A = A × B} R (λ x. sa x.0 ++ sb x.1) (length ts) e ((x.0, (q r).0), (q r).1)) (sym open_is)
        (end ∙ ends, further x.0 y (length ts) (length x.1.rest) y.1.stop front on)
    by_stop ts e (Some s) x is (ends, told) =
        let shut_is : x.1 ≡ reader (Some s) x.1.rest x.1.end = λ i. reader (is i) x.1.rest x.1.end in
        let (k, few, at) : CutBy R (sa x.0) (length ts) (Some s) x.1.rest = subst (λ o. CutBy R (sa x.0) (length ts) o x.1.rest) is told in
        let left_is : (q x.1).1 ≡ reader (Some s) x.1.rest x.1.end = ap (λ r. (q r).1) shut_is ∙ Q.still s x.1.rest x.1.end in
        subst (λ r. Cut {A = A × B} R (λ x. sa x.0 ++ sb x.1) (length ts) e ((x.0, (q x.1).0), r)) (sym left_is)
        (ends, (k, few, at_front R (sa x.0) (sb (q x.1).0) k s at))

-- Made into something else.
pub cuts_mapped : (R : Tie) {A B : Type 0} (f : A → B) {p : Reader → A × Reader} {sa : A → List Standing} (sb : B → List Standing) → ((x : A) → sb (f x) ≡ sa x) → Cuts R p sa → Cuts R (map_read f p) sb
cuts_mapped R f {p} sb same P = record {
  still = P.still;
  cut = λ ts e.
      let x = p (reader None ts e) in
      let (ends, told) = P.cut ts e in
      (ends, subst (λ ms. CutBy R ms (length ts) x.1.stop x.1.rest) (sym (same x.0)) told);
}

-- The next token decides.
pub cuts_cased : (R : Tie) {K A : Type 0} (class : Option Placed → K) (p : K → Reader → A × Reader) {stand : A → List Standing} → ((k : K) → Cuts R (p k) stand) → Cuts R (choose_by class p) stand
cuts_cased R class p each = record {
  still = λ s ts e. (each (class None)).still s ts e;
  cut = λ ts e. (each (class (first ts))).cut ts e;
}

pub cuts_either : (R : Tie) {A : Type 0} (test : Placed → Bool) {p q : Reader → A × Reader} {stand : A → List Standing} → Cuts R p stand → Cuts R q stand → Cuts R (either test p q) stand
cuts_either R test {p} {q} {stand} P Q = cuts_cased R (passes test) (either_case p q) each
  where
    each : (b : Bool) → Cuts R (either_case p q b) stand
    each true = P
    each false = Q

-- For as long as the next token begins an item.
pub cuts_repeated : (R : Tie) {A : Type 0} (test : Placed → Bool) {item : Reader → A × Reader} {stand : A → List Standing} → Cuts R item stand → Cuts R (repeat_while test item) (flat_map stand)
cuts_repeated R {A} test {item} {stand} P = record {
  still = λ s ts e. (times (length ts)).still s ts e;
  cut = λ ts e. (times (length ts)).cut ts e;
}
  where
    times : (n : ℕ) → Cuts R (repeat test item n) (flat_map stand)
    times zero = cuts_nothing R [] (flat_map stand) refl
    times (suc n) =
        cuts_either R test (cuts_mapped R (λ x. x.0 ∷ x.1) (flat_map stand) (λ x. refl) (cuts_both R P (times n))) (cuts_nothing R [] (flat_map stand) refl)

-- Marks.

-- a mark that leaves what is tied
pub cuts_kept : (R : Tie) {A : Type 0} (mark : ℕ → Stop → Stop) {p : Reader → A × Reader} {stand : A → List Standing} → ((at : ℕ) (m : Standing) (s : Stop) → R m s → R m (mark at s)) → Cuts R p stand → Cuts R (mark_stops mark p) stand
cuts_kept R mark {p} {stand} keeps P = record {
  still = P.still;
  cut = λ ts e. let x = p (reader None ts e) in let (ends, told) = P.cut ts e in (ends, by_stop (place_in ts e) (stand x.0) (length ts) x.1.rest x.1.stop told);
}
  where
    kept_at : (at : ℕ) (ms : List Standing) (k : ℕ) (s : Stop) → At R ms k s → At R ms k (mark at s)
    kept_at at [] k s a = absurd a
    kept_at at (m ∷ ms) zero s a = keeps at m s a
    kept_at at (m ∷ ms) (suc k) s a = kept_at at ms k s a

    by_stop : (at : ℕ) (ms : List Standing) (n : ℕ) (left : List Placed) (stop : Option Stop) → CutBy R ms n stop left → CutBy R ms n (option_map (mark at) stop) left
    by_stop at ms n left None told = told
    by_stop at ms n left (Some s) (k, few, there) = (k, few, kept_at at ms k s there)

-- a mark with the place of what is answered, which is that of the next token
pub cuts_marked : (R S : Tie) {A : Type 0} (mark : ℕ → Stop → Stop) (put : ℕ → Standing → Standing) (place : A → ℕ) {p : Reader → A × Reader} {stand : A → List Standing}
    → ((at : ℕ) (m : Standing) (s : Stop) → R m s → S (put at m) (mark at s)) → ((ts : List Placed) (e : ℕ) → place (p (reader None ts e)).0 ≡ place_in ts e)
    → Cuts R p stand → Cuts S (mark_stops mark p) (λ a. map (put (place a)) (stand a))
cuts_marked R S mark put place {p} {stand} step first_place P = record {
  still = P.still;
  cut = λ ts e.
      let x = p (reader None ts e) in
      let (ends, told) = P.cut ts e in (
        ends,
        subst (λ at. CutBy S (map (put at) (stand x.0)) (length ts) (option_map (mark (place_in ts e)) x.1.stop) x.1.rest) (sym (first_place ts e))
            (by_stop (place_in ts e) (stand x.0) (length ts) x.1.rest x.1.stop told),
      );
}
  where
    by_stop : (at : ℕ) (ms : List Standing) (n : ℕ) (left : List Placed) (stop : Option Stop) → CutBy R ms n stop left → CutBy S (map (put at) ms) n (option_map (mark at) stop) left
    by_stop at ms n left None told = omega (arith, told, length-map ms (put at))
    by_stop at ms n left (Some s) (k, few, there) = (k, few, at_mapped R S (put at) (mark at) (step at) ms k s there)

-- Tokens that stand in nothing.

pub record Apart (R : Tie) {A : Type 0} (p : Reader → A × Reader) (spell : A → List Due) : Type 0 where
  pub cuts : Cuts R p (λ a. apart (spell a))

pub apart_as : (R : Tie) {A : Type 0} {p : Reader → A × Reader} {spell : A → List Due} (other : A → List Due) → ((a : A) → apart (other a) ≡ apart (spell a)) → Apart R p spell → Apart R p other
apart_as R other same P = record { cuts = cuts_as R (λ a. apart (other a)) same P.cuts }

pub apart_both : (R : Tie) {A B : Type 0} {p : Reader → A × Reader} {q : Reader → B × Reader} {sa : A → List Due} {sb : B → List Due}
    → Apart R p sa → Apart R q sb → Apart R (both p q) (λ x. sa x.0 ++ sb x.1)
apart_both R {sa = sa} {sb = sb} P Q = record { cuts = cuts_as R (λ x. apart (sa x.0 ++ sb x.1)) (λ x. map-append (λ _. outside) (sa x.0) (sb x.1)) (cuts_both R P.cuts Q.cuts) }

pub apart_mapped : (R : Tie) {A B : Type 0} (f : A → B) {p : Reader → A × Reader} {sa : A → List Due} (sb : B → List Due) → ((x : A) → sb (f x) ≡ sa x) → Apart R p sa → Apart R (map_read f p) sb
apart_mapped R f sb same P = record { cuts = cuts_mapped R f (λ b. apart (sb b)) (λ x. ap apart (same x)) P.cuts }

pub apart_cased : (R : Tie) {K A : Type 0} (class : Option Placed → K) (p : K → Reader → A × Reader) {spell : A → List Due} → ((k : K) → Apart R (p k) spell) → Apart R (choose_by class p) spell
apart_cased R class p each = record { cuts = cuts_cased R class p (λ k. (each k).cuts) }

pub apart_either : (R : Tie) {A : Type 0} (test : Placed → Bool) {p q : Reader → A × Reader} {spell : A → List Due} → Apart R p spell → Apart R q spell → Apart R (either test p q) spell
apart_either R test P Q = record { cuts = cuts_either R test P.cuts Q.cuts }

pub apart_nothing : (R : Tie) {A : Type 0} (a : A) (spell : A → List Due) → spell a ≡ [] → Apart R (nothing a) spell
apart_nothing R a spell none = record { cuts = cuts_nothing R a (λ b. apart (spell b)) (ap apart none) }

pub apart_optional : (R : Tie) {A : Type 0} (test : Placed → Bool) {p : Reader → A × Reader} {spell : A → List Due} → Apart R p spell → Apart R (optional test p) (if_written spell)
apart_optional R test {spell = spell} P = apart_either R test (apart_mapped R (λ x. Some x) (if_written spell) (λ x. refl) P) (apart_nothing R None (if_written spell) refl)

pub apart_repeated : (R : Tie) {A : Type 0} (test : Placed → Bool) {item : Reader → A × Reader} {spell : A → List Due} → Apart R item spell → Apart R (repeat_while test item) (each spell)
apart_repeated R {A} test {spell = spell} P = record { cuts = cuts_as R (λ xs. apart (each spell xs)) all (cuts_repeated R test P.cuts) }
  where
    all : (xs : List A) → apart (each spell xs) ≡ flat_map (λ x. apart (spell x)) xs
    all [] = refl
    all (x ∷ xs) = map-append (λ _. outside) (spell x) (each spell xs) ∙ ap (λ l. apart (spell x) ++ l) (all xs)

pub apart_kept : (R : Tie) {A : Type 0} (mark : ℕ → Stop → Stop) {p : Reader → A × Reader} {spell : A → List Due} → ((at : ℕ) (m : Standing) (s : Stop) → R m s → R m (mark at s)) → Apart R p spell → Apart R (mark_stops mark p) spell
apart_kept R mark keeps P = record { cuts = cuts_kept R mark keeps P.cuts }
