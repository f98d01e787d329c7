-- Where a production stops, all that it answers behind the tokens that it took is filled in.
use Rattle.std.proofs.Common.{◌≡◌, ℕ, zero, suc, ◌<◌, ◌≤◌, Bool, true, false, List, [], ◌∷◌, ◌++◌, length, refl, sym, ◌∙◌, ap, subst, arith, append_assoc, length-append}
use Rattle.std.specs.Prelude.{Option, Some, None, option_map}
use Rattle.std.specs.List.{flat_map}
use Rattle.circus_text.specs.Token.{Lexeme}
use Rattle.circus_syntax.specs.declared.stopping.Stop.{Stop}
use Rattle.circus_syntax.specs.declared.stopping.StopCause.{StopCause}
use Rattle.circus_syntax.specs.declared.stopping.StopCause.TheVariants.{Unexpected}
use Rattle.circus_syntax.specs.Placed.{Placed, first, is_lexeme, is_name, is_number}
use Rattle.circus_syntax.specs.Reader.{Reader, place_in, stop_at, passes, token, stop_reading, nothing, both, map_read, choose_by, either, either_case, optional, repeat_while, mark_stops}
use Rattle.circus_syntax.specs.Reading.{expect_token, fixed_at, name, number, named_of, numeral_of, filled_name, filled_numeral, behind, comma_list}
use Rattle.circus_syntax.proofs.Sound.{reader}
use Rattle.circus_syntax.proofs.Tokens.{comma_sign, is_comma}
use Rattle.circus_syntax.proofs.Repeats.{Shrinks, repeated_sees, repeated_none}
use Rattle.circus_syntax.specs.Filling.{AllSo, AllBehind, as_listed, as_name, as_number}
use Rattle.circus_syntax.proofs.Twice.{Still, still_both, still_mapped}

so_both : (bs cs : List Bool) → AllSo bs → AllSo cs → AllSo (bs ++ cs)
so_both [] cs front back = back
so_both (b ∷ bs) cs front back = (front.0, so_both bs cs front.1 back)

behind_more : (ts : List Placed) (bs cs : List Bool) → AllBehind ts bs → AllSo cs → AllBehind ts (bs ++ cs)
behind_more [] bs cs front back = so_both bs cs front back
behind_more (t ∷ ts) [] cs front back = anything (t ∷ ts) cs back
  where
    anything : (us : List Placed) (ds : List Bool) → AllSo ds → AllBehind us ds
    anything [] ds all = all
    anything (u ∷ us) [] all = tt
    anything (u ∷ us) (d ∷ ds) all = anything us ds all.1
behind_more (t ∷ ts) (b ∷ bs) cs front back = behind_more ts bs cs front back

behind_further : (own on : List Placed) (bs cs : List Bool) → length bs ≡ length own → AllBehind on cs → AllBehind (own ++ on) (bs ++ cs)
behind_further [] on [] cs few back = back
behind_further [] on (b ∷ bs) cs few back = absurd (omega (arith, few))
behind_further (t ∷ own) on [] cs few back = absurd (omega (arith, few))
behind_further (t ∷ own) on (b ∷ bs) cs few back = behind_further own on bs cs (omega (arith, few)) back

-- what was taken is all, or what stands behind is filled in
abbrev pub FilledBy : Option Stop → List Placed → List Bool → Type 0
FilledBy None taken bs = length bs ≡ length taken
FilledBy (Some s) taken bs = AllBehind taken bs

abbrev pub Of : {A : Type 0} → (A → List Bool) → List Placed → A × Reader → Type 0
Of so ts x = (taken : List Placed) × (ts ≡ taken ++ x.1.rest) × FilledBy x.1.stop taken (so x.0)

-- what a production does at these tokens
pub record FillsAt {A : Type 0} (p : Reader → A × Reader) (so : A → List Bool) (ts : List Placed) : Type 0 where
  pub run : (e : ℕ) → Of so ts (p (reader None ts e))

-- what it does where reading has stopped
pub record Stopped {A : Type 0} (p : Reader → A × Reader) (so : A → List Bool) : Type 0 where
  pub all : (s : Stop) (ts : List Placed) (e : ℕ) → AllSo (so (p (reader (Some s) ts e)).0)

pub record Fills {A : Type 0} (p : Reader → A × Reader) (so : A → List Bool) : Type 0 where
  pub stays : Still p
  pub stopped : Stopped p so
  pub runs : (ts : List Placed) → FillsAt p so ts

-- ---- one behind the other

pub at_both : {A B : Type 0} {p : Reader → A × Reader} {q : Reader → B × Reader} {so : A → List Bool} {bs : B → List Bool} → Still p → (ts : List Placed) → FillsAt p so ts → Still q → Stopped q bs
    → ((e : ℕ) → FillsAt q bs (p (reader None ts e)).1.rest) → FillsAt (both p q) (λ x. so x.0 ++ bs x.1) ts
at_both {A} {B} {p} {q} {so} {bs} P ts front W back onward = record { run = λ e. by_stop e (p (reader None ts e)).1.stop refl (front.run e) }
  where
    by_stop : (e : ℕ) (o : Option Stop) → (p (reader None ts e)).1.stop ≡ o → Of so ts (p (reader None ts e)) → Of {A = A × B} (λ x. so x.0 ++ bs x.1) ts (both p q (reader None ts e))
    by_stop e None going (taken, whole, filled) =
        let x = p (reader None ts e) in
        let is_reader : x.1 ≡ reader None x.1.rest e = λ i. reader (going i) x.1.rest (P.ends ts e i) in
        let few : length (so x.0) ≡ length taken = subst (λ o. FilledBy o taken (so x.0)) going filled in
        subst (λ r. Of {A = A × B} (λ z. so z.0 ++ bs z.1) ts ((x.0, (q r).0), (q r).1)) (sym is_reader) (on few whole ((onward e).run e))
      where
        on : length (so (p (reader None ts e)).0) ≡ length taken → ts ≡ taken ++ (p (reader None ts e)).1.rest → Of bs (p (reader None ts e)).1.rest (q (reader None (p (reader None ts e)).1.rest e))
            → Of {A = A × B} (λ z. so z.0 ++ bs z.1) ts (((p (reader None ts e)).0, (q (reader None (p (reader None ts e)).1.rest e)).0), (q (reader None (p (reader None ts e)).1.rest e)).1)
        on few front_is (more, rest_is, rest_filled) =
            let x = p (reader None ts e) in
            let y = q (reader None x.1.rest e) in (
              taken ++ more,
              front_is ∙ ap (λ l. taken ++ l) rest_is ∙ sym (append_assoc taken more y.1.rest),
              again y.1.stop (so x.0) (bs y.0) more few rest_filled,
            )
          where
            again : (o : Option Stop) (fs gs : List Bool) (us : List Placed) → length fs ≡ length taken → FilledBy o us gs → FilledBy o (taken ++ us) (fs ++ gs)
            again None fs gs us some others = omega (arith, some, others, length-append fs gs, length-append taken us)
            again (Some s) fs gs us some others = behind_further taken us fs gs some others
    by_stop e (Some s) halted (taken, whole, filled) =
        let x = p (reader None ts e) in
        let is_reader : x.1 ≡ reader (Some s) x.1.rest e = λ i. reader (halted i) x.1.rest (P.ends ts e i) in
        let front_filled : AllBehind taken (so x.0) = subst (λ o. FilledBy o taken (so x.0)) halted filled in
        let y = q (reader (Some s) x.1.rest e) in
        let still : y.1 ≡ reader (Some s) x.1.rest e = W.still s x.1.rest e in
        subst (λ r. Of {A = A × B} (λ z. so z.0 ++ bs z.1) ts ((x.0, (q r).0), (q r).1)) (sym is_reader)
        (subst (λ r. Of {A = A × B} (λ z. so z.0 ++ bs z.1) ts ((x.0, y.0), r)) (sym still) (taken, whole, behind_more taken (so x.0) (bs y.0) front_filled (back.all s x.1.rest e)))

pub stopped_both : {A B : Type 0} {p : Reader → A × Reader} {q : Reader → B × Reader} {so : A → List Bool} {bs : B → List Bool} → Still p → Stopped p so → Stopped q bs → Stopped (both p q) (λ x. so x.0 ++ bs x.1)
stopped_both {p = p} {q = q} {so = so} {bs = bs} P front back = record {
  all = λ s ts e.
      so_both (so (p (reader (Some s) ts e)).0) (bs (q (p (reader (Some s) ts e)).1).0) (front.all s ts e)
      (subst (λ r. AllSo (bs (q r).0)) (sym (P.still s ts e)) (back.all s ts e));
}

-- and what stands behind, whatever it is
pub at_then : {A B : Type 0} {p : Reader → A × Reader} {q : Reader → B × Reader} {so : A → List Bool} {bs : B → List Bool} → Still p → (ts : List Placed) → FillsAt p so ts → Fills q bs → FillsAt (both p q) (λ x. so x.0 ++ bs x.1) ts
at_then P ts front Q = at_both P ts front Q.stays Q.stopped (λ e. Q.runs _)

pub fills_both : {A B : Type 0} {p : Reader → A × Reader} {q : Reader → B × Reader} {so : A → List Bool} {bs : B → List Bool} → Fills p so → Fills q bs → Fills (both p q) (λ x. so x.0 ++ bs x.1)
fills_both P Q = record {
  stays = still_both P.stays Q.stays;
  stopped = stopped_both P.stays P.stopped Q.stopped;
  runs = λ ts. at_both P.stays ts (P.runs ts) Q.stays Q.stopped (λ e. Q.runs _);
}

-- ---- made into something else

pub at_mapped : {A B : Type 0} (f : A → B) {p : Reader → A × Reader} {so : A → List Bool} (bs : B → List Bool) → ((x : A) → bs (f x) ≡ so x) → (ts : List Placed) → FillsAt p so ts → FillsAt (map_read f p) bs ts
at_mapped f {p} {so} bs same ts front = record {
  run = λ e.
      let (taken, whole, filled) = front.run e in
      let x = p (reader None ts e) in
      (taken, whole, subst (FilledBy x.1.stop taken) (sym (same x.0)) filled);
}

pub fills_mapped : {A B : Type 0} (f : A → B) {p : Reader → A × Reader} {so : A → List Bool} (bs : B → List Bool) → ((x : A) → bs (f x) ≡ so x) → Fills p so → Fills (map_read f p) bs
fills_mapped f {p} bs same P = record {
  stays = record { still = P.stays.still; ends = P.stays.ends };
  stopped = record { all = λ s ts e. subst AllSo (sym (same (p (reader (Some s) ts e)).0)) (P.stopped.all s ts e) };
  runs = λ ts. at_mapped f bs same ts (P.runs ts);
}

-- ---- a token

pub at_token : {A : Type 0} (test : Placed → Bool) (read : Placed → A) (fill : ℕ → A) (so : A → List Bool) → ((x : A) → length (so x) ≡ 1) → (t : Placed) (ts : List Placed) → test t ≡ true → FillsAt (token test read fill) so (t ∷ ts)
at_token test read fill so one_long t ts hit = record { run = λ e. subst (Of so (t ∷ ts)) (sym (seen e)) (t ∷ [], refl, one_long (read t)) }
  where
    seen : (e : ℕ) → token test read fill (reader None (t ∷ ts) e) ≡ (read t, reader None ts e)
    seen e = rw hit refl

pub fills_token : {A : Type 0} (test : Placed → Bool) (read : Placed → A) (fill : ℕ → A) (so : A → List Bool) → ((x : A) → length (so x) ≡ 1) → ((at : ℕ) → AllSo (so (fill at))) → Fills (token test read fill) so
fills_token {A} test read fill so one_long all = record {
  stays = record { still = λ s ts e. refl; ends = ends };
  stopped = record { all = λ s ts e. all s.place };
  runs = λ ts. record { run = runs ts };
}
  where
    ends : (ts : List Placed) (e : ℕ) → (token test read fill (reader None ts e)).1.end ≡ e
    ends [] e = refl
    ends (t ∷ ts) e = by_test (test t) refl
      where
        by_test : (c : Bool) → test t ≡ c → (token test read fill (reader None (t ∷ ts) e)).1.end ≡ e
        by_test true hit = rw hit refl
        by_test false missed = rw missed refl

    runs : (ts : List Placed) (e : ℕ) → Of so ts (token test read fill (reader None ts e))
    runs [] e = ([], refl, all e)
    runs (t ∷ ts) e = by_test (test t) refl
      where
        by_test : (c : Bool) → test t ≡ c → Of so (t ∷ ts) (token test read fill (reader None (t ∷ ts) e))
        by_test true hit = (at_token test read fill so one_long t ts hit).run e
        by_test false missed =
            let unseen : token test read fill (reader None (t ∷ ts) e) ≡ (fill t.start, reader (Some (stop_at Unexpected t.start)) (t ∷ ts) e) = rw missed refl in
            subst (Of so (t ∷ ts)) (sym unseen) ([], refl, all t.start)

pub fills_fixed : (l : Lexeme) → Fills (expect_token l) (λ x. true ∷ [])
unfolding expect_token
fills_fixed l = fills_token (is_lexeme l) (λ t. tt) (λ at. tt) (λ x. true ∷ []) (λ x. refl) (λ at. (refl, tt))

pub fills_fixed_at : (l : Lexeme) → Fills (fixed_at l) (λ x. true ∷ [])
unfolding fixed_at
fills_fixed_at l = fills_token (is_lexeme l) (λ t. t.start) (λ at. at) (λ x. true ∷ []) (λ x. refl) (λ at. (refl, tt))

pub fills_name : Fills name as_name
unfolding name
fills_name = fills_token is_name named_of filled_name as_name (λ x. refl) (λ at. (refl, tt))

pub fills_number : Fills number as_number
unfolding number
fills_number = fills_token is_number numeral_of filled_numeral as_number (λ x. refl) (λ at. (refl, tt))

-- these stand there
pub at_fixed : (flag : Bool) (l : Lexeme) (ts : List Placed) → passes (is_lexeme l) (first ts) ≡ true → FillsAt (expect_token l) (λ x. flag ∷ []) ts
unfolding expect_token
at_fixed flag l [] hit = absurd (cc)
at_fixed flag l (t ∷ ts) hit = at_token (is_lexeme l) (λ t. tt) (λ at. tt) (λ x. flag ∷ []) (λ x. refl) t ts hit

pub at_fixed_at : (flag : Bool) (l : Lexeme) (ts : List Placed) → passes (is_lexeme l) (first ts) ≡ true → FillsAt (fixed_at l) (λ x. flag ∷ []) ts
unfolding fixed_at
at_fixed_at flag l [] hit = absurd (cc)
at_fixed_at flag l (t ∷ ts) hit = at_token (is_lexeme l) (λ t. t.start) (λ at. at) (λ x. flag ∷ []) (λ x. refl) t ts hit

pub at_name : (flag : Bool) (ts : List Placed) → passes is_name (first ts) ≡ true → FillsAt name (λ x. flag ∷ []) ts
unfolding name
at_name flag [] hit = absurd (cc)
at_name flag (t ∷ ts) hit = at_token is_name named_of filled_name (λ x. flag ∷ []) (λ x. refl) t ts hit

pub at_number : (flag : Bool) (ts : List Placed) → passes is_number (first ts) ≡ true → FillsAt number (λ x. flag ∷ []) ts
unfolding number
at_number flag [] hit = absurd (cc)
at_number flag (t ∷ ts) hit = at_token is_number numeral_of filled_numeral (λ x. flag ∷ []) (λ x. refl) t ts hit

-- ---- the next token decides

pub still_fixed : (l : Lexeme) → Still (expect_token l)
still_fixed l = (fills_fixed l).stays

-- p where the test is passed, else q
pub fills_either : {A : Type 0} (test : Placed → Bool) {p q : Reader → A × Reader} {so : A → List Bool} → Still p → ((ts : List Placed) → passes test (first ts) ≡ true → FillsAt p so ts) → Fills q so → Fills (either test p q) so
fills_either {A} test {p} {q} {so} P at Q = record {
  stays = record { still = λ s ts e. Q.stays.still s ts e; ends = λ ts e. ends (passes test (first ts)) ts e };
  stopped = record { all = λ s ts e. Q.stopped.all s ts e };
  runs = λ ts. record { run = λ e. by_test ts e (passes test (first ts)) refl };
}
  where
    ends : (c : Bool) (ts : List Placed) (e : ℕ) → (either_case p q c (reader None ts e)).1.end ≡ e
    ends true ts e = P.ends ts e
    ends false ts e = Q.stays.ends ts e

    by_test : (ts : List Placed) (e : ℕ) (c : Bool) → passes test (first ts) ≡ c → Of so ts (either_case p q (passes test (first ts)) (reader None ts e))
    by_test ts e true hit = subst (λ c. Of so ts (either_case p q c (reader None ts e))) (sym hit) ((at ts hit).run e)
    by_test ts e false missed = subst (λ c. Of so ts (either_case p q c (reader None ts e))) (sym missed) ((Q.runs ts).run e)

pub fills_nothing : {A : Type 0} (a : A) (so : A → List Bool) → so a ≡ [] → Fills (nothing a) so
fills_nothing a so none = record {
  stays = record { still = λ s ts e. refl; ends = λ ts e. refl };
  stopped = record { all = λ s ts e. subst AllSo (sym none) tt };
  runs = λ ts. record { run = λ e. ([], refl, ap length none) };
}

pub fills_stopped : {A : Type 0} (cause : StopCause) (fill : ℕ → A) (so : A → List Bool) → ((at : ℕ) → AllSo (so (fill at))) → Fills (stop_reading cause fill) so
fills_stopped cause fill so all = record {
  stays = record { still = λ s ts e. refl; ends = λ ts e. refl };
  stopped = record { all = λ s ts e. all s.place };
  runs = λ ts. record { run = λ e. ([], refl, all (place_in ts e)) };
}

-- ---- a stop is marked

marked_so : (mark : Stop → Stop) (o : Option Stop) (taken : List Placed) (bs : List Bool) → FilledBy o taken bs → FilledBy (option_map mark o) taken bs
marked_so mark None taken bs filled = filled
marked_so mark (Some s) taken bs filled = filled

pub at_marked : {A : Type 0} (mark : ℕ → Stop → Stop) {p : Reader → A × Reader} {so : A → List Bool} (ts : List Placed) → FillsAt p so ts → FillsAt (mark_stops mark p) so ts
at_marked mark {p} {so} ts P = record {
  run = λ e.
      let (taken, whole, filled) = P.run e in
      let x = p (reader None ts e) in
      (taken, whole, marked_so (mark (place_in ts e)) x.1.stop taken (so x.0) filled);
}

pub fills_marked : {A : Type 0} (mark : ℕ → Stop → Stop) {p : Reader → A × Reader} {so : A → List Bool} → Fills p so → Fills (mark_stops mark p) so
fills_marked mark {p} {so} P = record {
  stays = record { still = P.stays.still; ends = P.stays.ends };
  stopped = record { all = P.stopped.all };
  runs = λ ts. at_marked mark ts (P.runs ts);
}

-- by what the next token is
pub fills_cased : {K A : Type 0} (class : Option Placed → K) (p : K → Reader → A × Reader) {so : A → List Bool} → ((k : K) → Still (p k)) → Stopped (p (class None)) so → ((ts : List Placed) → FillsAt (p (class (first ts))) so ts)
    → Fills (choose_by class p) so
fills_cased class p each none at = record {
  stays = record { still = λ s ts e. (each (class None)).still s ts e; ends = λ ts e. (each (class (first ts))).ends ts e };
  stopped = record { all = none.all };
  runs = λ ts. record { run = (at ts).run };
}

-- ---- items

pub fills_repeated : {A : Type 0} (test : Placed → Bool) {item : Reader → A × Reader} {so : A → List Bool} → Shrinks test item → Still item → Still (repeat_while test item) → ((ts : List Placed) → passes test (first ts) ≡ true → FillsAt item so ts)
    → Fills (repeat_while test item) (flat_map so)
fills_repeated {A} test {item} {so} shrinks I W at = record {
  stays = W;
  stopped = none_more;
  runs = λ ts. up_to (length ts) ts (omega arith);
}
  where
    none_more : Stopped (repeat_while test item) (flat_map so)
    none_more = record { all = λ s ts e. subst (λ (x : List A × Reader). AllSo (flat_map so x.0)) (sym (repeated_none test item (reader (Some s) ts e) refl)) tt }

    by_test : (n : ℕ) (ts : List Placed) → length ts ≤ suc n → ((us : List Placed) → length us ≤ n → FillsAt (repeat_while test item) (flat_map so) us) → (e : ℕ) (c : Bool) → passes test (first ts) ≡ c
        → Of (flat_map so) ts (repeat_while test item (reader None ts e))
    by_test n ts few next e false missed = subst (Of (flat_map so) ts) (sym (repeated_none test item (reader None ts e) missed)) ([], refl, refl)
    by_test n ts few next e true hit =
        let shorter : (f : ℕ) → length (item (reader None ts f)).1.rest < length ts = λ f. shrinks (reader None ts f) hit in
        let onward : (f : ℕ) → FillsAt (repeat_while test item) (flat_map so) (item (reader None ts f)).1.rest = λ f. next _ (omega (arith, few, shorter f)) in
        subst (Of (flat_map so) ts) (sym (repeated_sees test item shrinks (reader None ts e) hit))
        ((at_mapped (λ x. x.0 ∷ x.1) (flat_map so) (λ x. refl) ts (at_both I ts (at ts hit) W none_more onward)).run e)

    up_to : (n : ℕ) (ts : List Placed) → length ts ≤ n → FillsAt (repeat_while test item) (flat_map so) ts
    up_to zero [] few = record { run = λ e. subst (Of (flat_map so) []) (sym (repeated_none test item (reader None [] e) refl)) ([], refl, refl) }
    up_to zero (t ∷ ts) few = absurd (omega (arith, few))
    up_to (suc n) ts few = record { run = λ e. by_test n ts few (λ us h. up_to n us h) e (passes test (first ts)) refl }

-- ---- behind a word or a sign, and lists

-- where the word or sign stands there
pub at_behind : (flag : Bool) (l : Lexeme) {A : Type 0} {p : Reader → A × Reader} {so : A → List Bool} (ts : List Placed) → passes (is_lexeme l) (first ts) ≡ true → Fills p so → FillsAt (behind l p) (λ x. flag ∷ so x) ts
at_behind flag l {so = so} ts hit P = at_mapped (λ x. x.1) (λ x. flag ∷ so x) (λ x. refl) ts (at_then (still_fixed l) ts (at_fixed flag l ts hit) P)

pub still_behind : (l : Lexeme) {A : Type 0} {p : Reader → A × Reader} → Still p → Still (behind l p)
still_behind l P = still_mapped (λ x. x.1) (still_both (still_fixed l) P)

pub fills_listed : {A : Type 0} {item : Reader → A × Reader} {so : A → List Bool} → Shrinks is_comma (behind comma_sign item) → Still (repeat_while is_comma (behind comma_sign item)) → Fills item so → Fills (comma_list item) (as_listed so)
fills_listed {so = so} shrinks W P =
    fills_mapped (λ x. x.0 ∷ x.1) (as_listed so) (λ x. refl)
    (fills_both P (fills_repeated is_comma shrinks (still_behind comma_sign P.stays) W (λ ts hit. at_behind false comma_sign ts hit P)))

pub fills_optional : {A : Type 0} (test : Placed → Bool) {p : Reader → A × Reader} {so : A → List Bool} (bs : Option A → List Bool) → bs None ≡ [] → ((x : A) → bs (Some x) ≡ so x) → Still p
    → ((ts : List Placed) → passes test (first ts) ≡ true → FillsAt p so ts) → Fills (optional test p) bs
fills_optional test bs none some P at =
    fills_either test (still_mapped (λ x. Some x) P) (λ ts hit. at_mapped (λ x. Some x) bs some ts (at ts hit)) (fills_nothing None bs none)
