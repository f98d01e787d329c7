-- Productions at tokens that are the same up to a place: where all that stands behind is filled in, they answer the same.
use Rattle.std.proofs.Common.{◌≡◌, ℕ, zero, suc, ◌≤◌, Bool, true, false, List, [], ◌∷◌, ◌++◌, length, refl, sym, ◌∙◌, ap, subst, arith, append_assoc, length-append}
use Rattle.std.specs.Prelude.{Option, Some, None, option_map}
use Rattle.std.specs.List.{flat_map}
use Rattle.circus_syntax.specs.declared.stopping.Stop.{Stop}
use Rattle.circus_syntax.specs.declared.stopping.StopCause.{StopCause}
use Rattle.circus_syntax.specs.declared.stopping.StopCause.TheVariants.{Unexpected}
use Rattle.circus_syntax.specs.Placed.{Placed, first}
use Rattle.circus_syntax.specs.Reader.{Reader, place_in, stop_at, passes, token, stop_reading, nothing, both, map_read, choose_by, either, either_case, optional, repeat_while, mark_stops}
use Rattle.circus_syntax.specs.Stopping.{StandAt}
use Rattle.circus_syntax.proofs.Sound.{reader}
use Rattle.circus_syntax.proofs.Repeats.{Shrinks, repeated_sees, repeated_none}
use Rattle.circus_syntax.specs.Placed.{is_lexeme, is_name, is_number}
use Rattle.circus_syntax.specs.Reading.{expect_token, fixed_at, name, number, named_of, numeral_of, filled_name, filled_numeral, behind, comma_list}
use Rattle.circus_syntax.proofs.Tokens.{comma_sign, is_comma}
use Rattle.circus_text.specs.Token.{Lexeme}
use Rattle.circus_text.specs.Form.{number_value}
use Rattle.std.specs.Prelude.{codes}
use Rattle.std.specs.Prelude.{◌==◌}
use Rattle.std.proofs.lemmas.Bool.Decides.{nat_tests}
use Rattle.std.proofs.lemmas.Slice.Eq.{bytes_eq-Decides}
use Rattle.circus_syntax.specs.Filling.{AllSo, AllBehind, as_listed, as_name, as_number}

-- ---- which are filled in

so_front : (bs cs : List Bool) → AllSo (bs ++ cs) → AllSo bs
so_front [] cs all = tt
so_front (b ∷ bs) cs all = (all.0, so_front bs cs all.1)

so_back : (bs cs : List Bool) → AllSo (bs ++ cs) → AllSo cs
so_back [] cs all = all
so_back (b ∷ bs) cs all = so_back bs cs all.1

behind_front : (ts : List Placed) (bs cs : List Bool) → AllBehind ts (bs ++ cs) → AllBehind ts bs
behind_front [] bs cs all = so_front bs cs all
behind_front (t ∷ ts) [] cs all = tt
behind_front (t ∷ ts) (b ∷ bs) cs all = behind_front ts bs cs all

behind_back : (own on : List Placed) (bs cs : List Bool) → length bs ≡ length own → AllBehind (own ++ on) (bs ++ cs) → AllBehind on cs
behind_back [] on [] cs few all = all
behind_back [] on (b ∷ bs) cs few all = absurd (omega (arith, few))
behind_back (t ∷ own) on [] cs few all = absurd (omega (arith, few))
behind_back (t ∷ own) on (b ∷ bs) cs few all = behind_back own on bs cs (omega (arith, few)) all

behind_all : (ts : List Placed) (bs cs : List Bool) → length ts ≤ length bs → AllBehind ts (bs ++ cs) → AllSo cs
behind_all [] bs cs few all = so_back bs cs all
behind_all (t ∷ ts) [] cs few all = absurd (omega (arith, few))
behind_all (t ∷ ts) (b ∷ bs) cs few all = behind_all ts bs cs (omega (arith, few)) all

-- ---- what is left

-- behind what both read alike, or at the place
pub data After (P : ℕ) (read more others left rest : List Placed) (bs : List Bool) : Type 0 where
  inside : (own on : List Placed) → read ≡ own ++ on → left ≡ on ++ more → rest ≡ on ++ others → length bs ≡ length own → After P read more others left rest bs
  over : StandAt P left → StandAt P rest → length read ≤ length bs → After P read more others left rest bs

-- two runs that stop nowhere
pub record Runs (P : ℕ) {A : Type 0} (p : Reader → A × Reader) (so : A → List Bool) (read more others left rest : List Placed) (e : ℕ) (x y : A) : Type 0 where
  pub more_there : StandAt P more
  pub others_there : StandAt P others
  pub one : p (reader None (read ++ more) e) ≡ (x, reader None left e)
  pub other : p (reader None (read ++ others) e) ≡ (y, reader None rest e)
  pub one_filled : AllBehind read (so x)
  pub other_filled : AllBehind read (so y)

abbrev pub Agrees : (P : ℕ) {A : Type 0} (p : Reader → A × Reader) (so : A → List Bool) → List Placed → Type 0
Agrees P {A} p so read = (more others left rest : List Placed) (e : ℕ) (x y : A) → Runs P p so read more others left rest e x y → (x ≡ y) × After P read more others left rest (so x)

-- at tokens of the place the production answers this, if all is filled in
abbrev pub Blank : (P : ℕ) {A : Type 0} (p : Reader → A × Reader) (so : A → List Bool) (b : A) → Type 0
Blank P {A} p so b = (ts left : List Placed) (e : ℕ) (x : A) → StandAt P ts → p (reader None ts e) ≡ (x, reader None left e) → AllSo (so x) → (x ≡ b) × StandAt P left

-- a stop stays, and so does the end of the text
pub record Still {A : Type 0} (p : Reader → A × Reader) : Type 0 where
  pub still : (s : Stop) (ts : List Placed) (e : ℕ) → (p (reader (Some s) ts e)).1 ≡ reader (Some s) ts e
  pub ends : (ts : List Placed) (e : ℕ) → (p (reader None ts e)).1.end ≡ e

pub record Twice (P : ℕ) {A : Type 0} (p : Reader → A × Reader) (so : A → List Bool) (b : A) : Type 0 where
  pub stays : Still p
  pub blank : Blank P p so b
  pub agrees : (t : Placed) (read : List Placed) → Agrees P p so (t ∷ read)

-- also where nothing was read
pub any : (P : ℕ) {A : Type 0} {p : Reader → A × Reader} {so : A → List Bool} {b : A} → Twice P p so b → (read : List Placed) → Agrees P p so read
any P {so = so} T [] more others left rest e x y runs =
    let (one, there) = T.blank more left e x runs.more_there runs.one runs.one_filled in
    let (other, here) = T.blank others rest e y runs.others_there runs.other runs.other_filled in
    (one ∙ sym other, over there here (omega arith))
any P T (t ∷ read) more others left rest e x y runs = T.agrees t read more others left rest e x y runs

-- ---- one behind the other

-- the first of two goes on
pub record Split {A B : Type 0} (p : Reader → A × Reader) (q : Reader → B × Reader) (ts left : List Placed) (e : ℕ) (x : A × B) : Type 0 where
  pub between : List Placed
  pub front : p (reader None ts e) ≡ (x.0, reader None between e)
  pub back : q (reader None between e) ≡ (x.1, reader None left e)

pub split : {A B : Type 0} {p : Reader → A × Reader} {q : Reader → B × Reader} → Still p → Still q → (ts left : List Placed) (e : ℕ) (x : A × B) → both p q (reader None ts e) ≡ (x, reader None left e) → Split p q ts left e x
split {A} {B} {p} {q} P Q ts left e x is = by_stop (p (reader None ts e)).1.stop refl
  where
    r : Reader
    r = (p (reader None ts e)).1

    first_is : (p (reader None ts e)).0 ≡ x.0
    first_is = ap (λ (z : (A × B) × Reader). z.0.0) is

    by_stop : (stop : Option Stop) → (p (reader None ts e)).1.stop ≡ stop → Split p q ts left e x
    by_stop None going =
        let is_reader : (p (reader None ts e)).1 ≡ reader None (p (reader None ts e)).1.rest e = λ i. reader (going i) (p (reader None ts e)).1.rest (P.ends ts e i) in
        record {
          between = (p (reader None ts e)).1.rest;
          front = λ i. (first_is i, is_reader i);
          back = ap q (sym is_reader) ∙ (λ i. ((is i).0.1, (is i).1));
        }
    by_stop (Some s) stopped =
        let is_reader : (p (reader None ts e)).1 ≡ reader (Some s) (p (reader None ts e)).1.rest e = λ i. reader (stopped i) (p (reader None ts e)).1.rest (P.ends ts e i) in
        let still : (q (p (reader None ts e)).1).1 ≡ reader (Some s) (p (reader None ts e)).1.rest e = ap (λ z. (q z).1) is_reader ∙ Q.still s (p (reader None ts e)).1.rest e in
        let both_stops : ◌≡◌ {A = Option Stop} (Some s) None = ap (λ (z : Reader). z.stop) (sym still) ∙ ap (λ (z : (A × B) × Reader). z.1.stop) is in
        absurd (cc)

pub still_both : {A B : Type 0} {p : Reader → A × Reader} {q : Reader → B × Reader} → Still p → Still q → Still (both p q)
still_both {A} {B} {p} {q} P Q = record {
  still = λ s ts e. ap (λ r. (q r).1) (P.still s ts e) ∙ Q.still s ts e;
  ends = λ ts e. by_stop ts e (p (reader None ts e)).1.stop refl;
}
  where
    by_stop : (ts : List Placed) (e : ℕ) (stop : Option Stop) → (p (reader None ts e)).1.stop ≡ stop → (q (p (reader None ts e)).1).1.end ≡ e
    by_stop ts e None going = ap (λ r. (q r).1.end) (λ i. reader (going i) (p (reader None ts e)).1.rest (P.ends ts e i)) ∙ Q.ends (p (reader None ts e)).1.rest e
    by_stop ts e (Some s) stopped =
        ap (λ r. (q r).1.end) (λ i. reader (stopped i) (p (reader None ts e)).1.rest (P.ends ts e i)) ∙ ap (λ (r : Reader). r.end) (Q.still s (p (reader None ts e)).1.rest e)

-- where nothing was read, all that is left is at the place
after_none : (P : ℕ) (more others left rest : List Placed) (bs : List Bool) → After P [] more others left rest bs → StandAt P more → StandAt P others → StandAt P left × StandAt P rest
after_none P more others left rest bs (inside [] [] is one other few) more_there others_there = (subst (StandAt P) (sym one) more_there, subst (StandAt P) (sym other) others_there)
after_none P more others left rest bs (inside [] (t ∷ on) is one other few) more_there others_there = absurd (cc)
after_none P more others left rest bs (inside (t ∷ own) on is one other few) more_there others_there = absurd (cc)
after_none P more others left rest bs (over one other few) more_there others_there = (one, other)

-- what a second production does behind the first
abbrev pub Onward : (P : ℕ) {A B : Type 0} (p : Reader → A × Reader) (q : Reader → B × Reader) (bs : B → List Bool) → List Placed → Type 0
Onward P {A} p q bs read =
    (own on more : List Placed) (e : ℕ) (x : A) → read ≡ own ++ on → p (reader None (read ++ more) e) ≡ (x, reader None (on ++ more) e) → Agrees P q bs on

pub agrees_both : (P : ℕ) {A B : Type 0} {p : Reader → A × Reader} {q : Reader → B × Reader} {so : A → List Bool} {bs : B → List Bool} → Still p → Still q → (read : List Placed)
    → Agrees P p so read → Onward P p q bs read → Agrees P q bs [] → Agrees P (both p q) (λ x. so x.0 ++ bs x.1) read
agrees_both P {A} {B} {p} {q} {so} {bs} stays also read front onward alone more others left rest e x y runs =
    by_after (pairs.0) (pairs.1)
  where
    S : Split p q (read ++ more) left e x
    S = split stays also (read ++ more) left e x runs.one

    T : Split p q (read ++ others) rest e y
    T = split stays also (read ++ others) rest e y runs.other

    pairs : (x.0 ≡ y.0) × After P read more others S.between T.between (so x.0)
    pairs = front more others S.between T.between e x.0 y.0 (record {
      more_there = runs.more_there;
      others_there = runs.others_there;
      one = S.front;
      other = T.front;
      one_filled = behind_front read (so x.0) (bs x.1) runs.one_filled;
      other_filled = behind_front read (so y.0) (bs y.1) runs.other_filled;
    })

    together : (own on : List Placed) → length (so x.0) ≡ length own → read ≡ own ++ on → After P on more others left rest (bs x.1) → After P read more others left rest (so x.0 ++ bs x.1)
    together own on few is (inside again further is_so one other many) =
        inside (own ++ again) further (is ∙ ap (λ l. own ++ l) is_so ∙ sym (append_assoc own again further)) one other
        (omega (arith, few, many, length-append (so x.0) (bs x.1), length-append own again))
    together own on few is (over one other many) = over one other (omega (arith, few, many, ap length is, length-append own on, length-append (so x.0) (bs x.1)))

    by_after : x.0 ≡ y.0 → After P read more others S.between T.between (so x.0) → (x ≡ y) × After P read more others left rest (so x.0 ++ bs x.1)
    by_after same (inside own on is one other few) =
        let few_too : length (so y.0) ≡ length own = ap (λ a. length (so a)) (sym same) ∙ few in
        let (backs, after) = onward own on more e x.0 is (S.front ∙ ap (λ l. (x.0, reader None l e)) one) more others left rest e x.1 y.1 (record {
          more_there = runs.more_there;
          others_there = runs.others_there;
          one = ap (λ l. q (reader None l e)) (sym one) ∙ S.back;
          other = ap (λ l. q (reader None l e)) (sym other) ∙ T.back;
          one_filled = behind_back own on (so x.0) (bs x.1) few (subst (λ l. AllBehind l (so x.0 ++ bs x.1)) is runs.one_filled);
          other_filled = behind_back own on (so y.0) (bs y.1) few_too (subst (λ l. AllBehind l (so y.0 ++ bs y.1)) is runs.other_filled);
        }) in
        ((λ i. (same i, backs i)), together own on few is after)
    by_after same (over one other few) =
        let few_too : length read ≤ length (so y.0) = subst (λ a. length read ≤ length (so a)) same few in
        let (backs, after) = alone S.between T.between left rest e x.1 y.1 (record {
          more_there = one;
          others_there = other;
          one = S.back;
          other = T.back;
          one_filled = behind_all read (so x.0) (bs x.1) few runs.one_filled;
          other_filled = behind_all read (so y.0) (bs y.1) few_too runs.other_filled;
        }) in
        let (there, here) = after_none P S.between T.between left rest (bs x.1) after one other in
        ((λ i. (same i, backs i)), over there here (omega (arith, few, length-append (so x.0) (bs x.1))))

pub twice_both : (P : ℕ) {A B : Type 0} {p : Reader → A × Reader} {q : Reader → B × Reader} {so : A → List Bool} {bs : B → List Bool} {a : A} {b : B}
    → Twice P p so a → Twice P q bs b → Twice P (both p q) (λ x. so x.0 ++ bs x.1) (a, b)
twice_both P {p = p} {q = q} {so = so} {bs = bs} T U = record {
  stays = still_both T.stays U.stays;
  blank = λ ts left e x there is filled.
      let S = split T.stays U.stays ts left e x is in
      let (one, between) = T.blank ts S.between e x.0 there S.front (so_front (so x.0) (bs x.1) filled) in
      let (other, behind) = U.blank S.between left e x.1 between S.back (so_back (so x.0) (bs x.1) filled) in
      ((λ i. (one i, other i)), behind);
  agrees = λ t read. agrees_both P T.stays U.stays (t ∷ read) (T.agrees t read) (λ own on more e x is run. any P U on) (any P U []);
}

-- ---- made into something else

pub still_mapped : {A B : Type 0} (f : A → B) {p : Reader → A × Reader} → Still p → Still (map_read f p)
still_mapped f P = record { still = P.still; ends = P.ends }

pub agrees_mapped : (P : ℕ) {A B : Type 0} (f : A → B) {p : Reader → A × Reader} {so : A → List Bool} (bs : B → List Bool) → ((x : A) → bs (f x) ≡ so x) → (read : List Placed) → Agrees P p so read → Agrees P (map_read f p) bs read
agrees_mapped P {A} {B} f {p} {so} bs same read front more others left rest e x y runs =
    let a = (p (reader None (read ++ more) e)).0 in
    let b = (p (reader None (read ++ others) e)).0 in
    let one_is : f a ≡ x = ap (λ (z : B × Reader). z.0) runs.one in
    let other_is : f b ≡ y = ap (λ (z : B × Reader). z.0) runs.other in
    let (both_are, after) = front more others left rest e a b (record {
      more_there = runs.more_there;
      others_there = runs.others_there;
      one = λ i. (a, (runs.one i).1);
      other = λ i. (b, (runs.other i).1);
      one_filled = subst (AllBehind read) (ap bs (sym one_is) ∙ same a) runs.one_filled;
      other_filled = subst (AllBehind read) (ap bs (sym other_is) ∙ same b) runs.other_filled;
    }) in
    (sym one_is ∙ ap f both_are ∙ other_is, subst (After P read more others left rest) (sym (same a) ∙ ap bs one_is) after)

pub twice_mapped : (P : ℕ) {A B : Type 0} (f : A → B) {p : Reader → A × Reader} {so : A → List Bool} {a : A} (bs : B → List Bool) → ((x : A) → bs (f x) ≡ so x) → Twice P p so a → Twice P (map_read f p) bs (f a)
twice_mapped P {A} {B} f {p} {so} bs same T = record {
  stays = still_mapped f T.stays;
  blank = λ ts left e x there is filled.
      let a = (p (reader None ts e)).0 in
      let is_x : f a ≡ x = ap (λ (z : B × Reader). z.0) is in
      let (blank, behind) = T.blank ts left e a there (λ i. (a, (is i).1)) (subst AllSo (ap bs (sym is_x) ∙ same a) filled) in
      (sym is_x ∙ ap f blank, behind);
  agrees = λ t read. agrees_mapped P f bs same (t ∷ read) (T.agrees t read);
}

-- what is never filled in
pub twice_never : (P : ℕ) {A B : Type 0} (f : A → B) {p : Reader → A × Reader} {so : A → List Bool} {a : A} (bs : B → List Bool) (b : B) → ((x : A) → bs (f x) ≡ so x) → ((x : A) → AllSo (bs (f x)) → ⊥) → Twice P p so a → Twice P (map_read f p) bs b
twice_never P {A} {B} f {p} {so} bs b same never T = record {
  stays = still_mapped f T.stays;
  blank = λ ts left e x there is filled. absurd (never (p (reader None ts e)).0 (subst (λ y. AllSo (bs y)) (sym (ap (λ (z : B × Reader). z.0) is)) filled));
  agrees = λ t read. agrees_mapped P f bs same (t ∷ read) (T.agrees t read);
}

-- ---- the next token decides

pub still_cased : {K A : Type 0} (class : Option Placed → K) (p : K → Reader → A × Reader) → ((k : K) → Still (p k)) → Still (choose_by class p)
still_cased class p each = record {
  still = λ s ts e. (each (class None)).still s ts e;
  ends = λ ts e. (each (class (first ts))).ends ts e;
}

pub twice_cased : (P : ℕ) {K A : Type 0} (class : Option Placed → K) (p : K → Reader → A × Reader) {so : A → List Bool} {b : A} → ((k : K) → Twice P (p k) so b) → Twice P (choose_by class p) so b
twice_cased P class p {so} each = record {
  stays = still_cased class p (λ k. (each k).stays);
  blank = λ ts left e x there is filled. (each (class (first ts))).blank ts left e x there is filled;
  agrees = λ t read more others left rest e x y runs. (each (class (Some t))).agrees t read more others left rest e x y (record {
    more_there = runs.more_there;
    others_there = runs.others_there;
    one = runs.one;
    other = runs.other;
    one_filled = runs.one_filled;
    other_filled = runs.other_filled;
  });
}

pub twice_either : (P : ℕ) {A : Type 0} (test : Placed → Bool) {p q : Reader → A × Reader} {so : A → List Bool} {b : A} → Twice P p so b → Twice P q so b → Twice P (either test p q) so b
twice_either P {A} test {p} {q} {so} {b} T U = twice_cased P (passes test) (either_case p q) each
  where
    each : (k : Bool) → Twice P (either_case p q k) so b
    each true = T
    each false = U

pub twice_nothing : (P : ℕ) {A : Type 0} (a : A) (so : A → List Bool) → so a ≡ [] → Twice P (nothing a) so a
twice_nothing P {A} a so none = record {
  stays = record { still = λ s ts e. refl; ends = λ ts e. refl };
  blank = λ ts left e x there is filled. (sym (ap (λ (z : A × Reader). z.0) is), subst (StandAt P) (ap (λ (z : A × Reader). z.1.rest) is) there);
  agrees = λ t read more others left rest e x y runs. (
    sym (ap (λ (z : A × Reader). z.0) runs.one) ∙ ap (λ (z : A × Reader). z.0) runs.other,
    inside [] (t ∷ read) refl (sym (ap (λ (z : A × Reader). z.1.rest) runs.one)) (sym (ap (λ (z : A × Reader). z.1.rest) runs.other))
        (ap length (ap so (sym (ap (λ (z : A × Reader). z.0) runs.one)) ∙ none)),
  );
}

-- what stops
pub twice_stopped : (P : ℕ) {A : Type 0} (cause : StopCause) (fill : ℕ → A) (so : A → List Bool) (b : A) → Twice P (stop_reading cause fill) so b
twice_stopped P {A} cause fill so b = record {
  stays = record { still = λ s ts e. refl; ends = λ ts e. refl };
  blank = λ ts left e x there is filled. absurd (never ts left e x is);
  agrees = λ t read more others left rest e x y runs. absurd (never (t ∷ (read ++ more)) left e x runs.one);
}
  where
    never : (ts left : List Placed) (e : ℕ) (x : A) → stop_reading cause fill (reader None ts e) ≡ (x, reader None left e) → ⊥
    never ts left e x is = let stops = ap (λ (z : A × Reader). z.1.stop) is in cc

-- ---- a token

pub twice_token : (P : ℕ) {A : Type 0} (test : Placed → Bool) (read : Placed → A) (fill : ℕ → A) (so : A → List Bool) (b : A) → ((x : A) → length (so x) ≡ 1)
    → ((t : Placed) → t.start ≡ P → AllSo (so (read t)) → read t ≡ b) → Twice P (token test read fill) so b
twice_token P {A} test read fill so b one_long filled_is = record {
  stays = record { still = λ s ts e. refl; ends = ends };
  blank = blank;
  agrees = agrees;
}
  where
    tested : (t : Placed) (ts left : List Placed) (e : ℕ) (x : A) (c : Bool) → test t ≡ c → token test read fill (reader None (t ∷ ts) e) ≡ (x, reader None left e) → (ts ≡ left) × (read t ≡ x)
    tested t ts left e x true hit is =
        let seen : token test read fill (reader None (t ∷ ts) e) ≡ (read t, reader None ts e) = rw hit refl in
        let both_are = sym seen ∙ is in
        (ap (λ (z : A × Reader). z.1.rest) both_are, ap (λ (z : A × Reader). z.0) both_are)
    tested t ts left e x false missed is =
        let unseen : token test read fill (reader None (t ∷ ts) e) ≡ (fill t.start, reader (Some (stop_at Unexpected t.start)) (t ∷ ts) e) = rw missed refl in
        let stops : ◌≡◌ {A = Option Stop} (Some (stop_at Unexpected t.start)) None = ap (λ (z : A × Reader). z.1.stop) (sym unseen ∙ is) in
        absurd (cc)

    ends : (ts : List Placed) (e : ℕ) → (token test read fill (reader None ts e)).1.end ≡ e
    ends [] e = refl
    ends (t ∷ ts) e = by_test (test t) refl
      where
        by_test : (c : Bool) → test t ≡ c → (token test read fill (reader None (t ∷ ts) e)).1.end ≡ e
        by_test true hit = rw hit refl
        by_test false missed = rw missed refl

    blank : Blank P (token test read fill) so b
    blank [] left e x there is filled = let stops = ap (λ (z : A × Reader). z.1.stop) is in absurd (cc)
    blank (t ∷ ts) left e x there is filled =
        let (rest_is, is_x) = tested t ts left e x (test t) refl is in
        (sym is_x ∙ filled_is t there.0 (subst (λ y. AllSo (so y)) (sym is_x) filled), subst (StandAt P) rest_is there.1)

    agrees : (t : Placed) (ts : List Placed) → Agrees P (token test read fill) so (t ∷ ts)
    agrees t ts more others left rest e x y runs =
        let (left_is, is_x) = tested t (ts ++ more) left e x (test t) refl runs.one in
        let (rest_is, is_y) = tested t (ts ++ others) rest e y (test t) refl runs.other in
        (sym is_x ∙ is_y, inside (t ∷ []) ts refl (sym left_is) (sym rest_is) (one_long x))

-- ---- a stop is marked

pub twice_marked : (P : ℕ) {A : Type 0} (mark : ℕ → Stop → Stop) {p : Reader → A × Reader} {so : A → List Bool} {b : A} → Twice P p so b → Twice P (mark_stops mark p) so b
twice_marked P {A} mark {p} {so} T = record {
  stays = record { still = T.stays.still; ends = T.stays.ends };
  blank = λ ts left e x there is filled. T.blank ts left e x there (unmarked ts left e x is) filled;
  agrees = λ t read more others left rest e x y runs. T.agrees t read more others left rest e x y (record {
    more_there = runs.more_there;
    others_there = runs.others_there;
    one = unmarked (t ∷ (read ++ more)) left e x runs.one;
    other = unmarked (t ∷ (read ++ others)) rest e y runs.other;
    one_filled = runs.one_filled;
    other_filled = runs.other_filled;
  });
}
  where
    no_mark : (at : ℕ) (o : Option Stop) → option_map (mark at) o ≡ None → o ≡ None
    no_mark at None is = refl
    no_mark at (Some s) is = absurd (cc)

    unmarked : (ts left : List Placed) (e : ℕ) (x : A) → mark_stops mark p (reader None ts e) ≡ (x, reader None left e) → p (reader None ts e) ≡ (x, reader None left e)
    unmarked ts left e x is =
        let going = no_mark (place_in ts e) (p (reader None ts e)).1.stop (ap (λ (z : A × Reader). z.1.stop) is) in
        λ i. ((is i).0, reader (going i) (is i).1.rest (is i).1.end)

-- ---- items

-- the first of the items and the others
abbrev cons : {A : Type 0} → A × List A → List A
cons x = x.0 ∷ x.1

pub twice_repeated : (P : ℕ) {A : Type 0} (test : Placed → Bool) {item : Reader → A × Reader} {so : A → List Bool} {a : A} → Shrinks test item → ((x : A) → AllSo (so x) → ⊥) → Twice P item so a
    → Twice P (repeat_while test item) (flat_map so) []
twice_repeated P {A} test {item} {so} shrinks never T = record {
  stays = stays;
  blank = blank;
  agrees = λ t read. up_to (suc (length read)) (t ∷ read) (omega arith);
}
  where
    ends_with : (n : ℕ) (ts : List Placed) (e : ℕ) → length ts ≤ suc n → ((us : List Placed) → length us ≤ n → (repeat_while test item (reader None us e)).1.end ≡ e)
        → (c : Bool) → passes test (first ts) ≡ c → (repeat_while test item (reader None ts e)).1.end ≡ e
    ends_with n ts e few on false missed = ap (λ (z : List A × Reader). z.1.end) (repeated_none test item (reader None ts e) missed)
    ends_with n ts e few on true hit = ap (λ (z : List A × Reader). z.1.end) (repeated_sees test item shrinks (reader None ts e) hit) ∙ by_stop (item (reader None ts e)).1.stop refl
      where
        by_stop : (o : Option Stop) → (item (reader None ts e)).1.stop ≡ o → (repeat_while test item (item (reader None ts e)).1).1.end ≡ e
        by_stop None going =
            let shorter = shrinks (reader None ts e) hit in
            ap (λ r. (repeat_while test item r).1.end) (λ i. reader (going i) (item (reader None ts e)).1.rest (T.stays.ends ts e i)) ∙ on (item (reader None ts e)).1.rest (omega (arith, shorter, few))
        by_stop (Some s) stopped =
            ap (λ r. (repeat_while test item r).1.end) (λ i. reader (stopped i) (item (reader None ts e)).1.rest (T.stays.ends ts e i))
            ∙ ap (λ (z : List A × Reader). z.1.end) (repeated_none test item (reader (Some s) (item (reader None ts e)).1.rest e) refl)

    ends_up_to : (n : ℕ) (ts : List Placed) (e : ℕ) → length ts ≤ n → (repeat_while test item (reader None ts e)).1.end ≡ e
    ends_up_to zero [] e few = ap (λ (z : List A × Reader). z.1.end) (repeated_none test item (reader None [] e) refl)
    ends_up_to zero (t ∷ ts) e few = absurd (omega (arith, few))
    ends_up_to (suc n) ts e few = ends_with n ts e few (λ us h. ends_up_to n us e h) (passes test (first ts)) refl

    stays : Still (repeat_while test item)
    stays = record {
      still = λ s ts e. ap (λ (z : List A × Reader). z.1) (repeated_none test item (reader (Some s) ts e) refl);
      ends = λ ts e. ends_up_to (length ts) ts e (omega arith);
    }

    blank : Blank P (repeat_while test item) (flat_map so) []
    blank ts left e xs there is filled = by_test (passes test (first ts)) refl
      where
        by_test : (c : Bool) → passes test (first ts) ≡ c → (xs ≡ []) × StandAt P left
        by_test false missed =
            let both_are = sym (repeated_none test item (reader None ts e) missed) ∙ is in
            (sym (ap (λ (z : List A × Reader). z.0) both_are), subst (StandAt P) (ap (λ (z : List A × Reader). z.1.rest) both_are) there)
        by_test true hit =
            let both_are = sym (repeated_sees test item shrinks (reader None ts e) hit) ∙ is in
            let r = reader None ts e in
            let xs_are : (item r).0 ∷ (repeat_while test item (item r).1).0 ≡ xs = ap (λ (z : List A × Reader). z.0) both_are in
            absurd (never (item r).0 (so_front (so (item r).0) (flat_map so (repeat_while test item (item r).1).0) (subst (λ ys. AllSo (flat_map so ys)) (sym xs_are) filled)))

    onward : (n : ℕ) (t : Placed) (read : List Placed) → length (t ∷ read) ≤ suc n → ((us : List Placed) → length us ≤ n → Agrees P (repeat_while test item) (flat_map so) us)
        → test t ≡ true → Onward P item (repeat_while test item) (flat_map so) (t ∷ read)
    onward n t read few next hit own on us f z is run =
        let less = shrinks (reader None (t ∷ (read ++ us)) f) hit in
        let rest_is : (item (reader None (t ∷ (read ++ us)) f)).1.rest ≡ on ++ us = ap (λ (w : A × Reader). w.1.rest) run in
        next on (omega (arith, less, few, ap length rest_is, length-append on us, length-append read us))

    agrees_by : (n : ℕ) (t : Placed) (read : List Placed) → length (t ∷ read) ≤ suc n → ((us : List Placed) → length us ≤ n → Agrees P (repeat_while test item) (flat_map so) us)
        → (c : Bool) → test t ≡ c → Agrees P (repeat_while test item) (flat_map so) (t ∷ read)
    agrees_by n t read few next true hit more others left rest e x y runs =
        agrees_mapped P cons (flat_map so) (λ z. refl) (t ∷ read) (agrees_both P T.stays stays (t ∷ read) (T.agrees t read) (onward n t read few next hit) (next [] (omega arith)))
        more others left rest e x y (record {
          more_there = runs.more_there;
          others_there = runs.others_there;
          one = sym (repeated_sees test item shrinks (reader None (t ∷ (read ++ more)) e) hit) ∙ runs.one;
          other = sym (repeated_sees test item shrinks (reader None (t ∷ (read ++ others)) e) hit) ∙ runs.other;
          one_filled = runs.one_filled;
          other_filled = runs.other_filled;
        })
    agrees_by n t read few next false missed more others left rest e x y runs =
        let one_is = sym (repeated_none test item (reader None (t ∷ (read ++ more)) e) missed) ∙ runs.one in
        let other_is = sym (repeated_none test item (reader None (t ∷ (read ++ others)) e) missed) ∙ runs.other in (
          sym (ap (λ (z : List A × Reader). z.0) one_is) ∙ ap (λ (z : List A × Reader). z.0) other_is,
          inside [] (t ∷ read) refl (sym (ap (λ (z : List A × Reader). z.1.rest) one_is)) (sym (ap (λ (z : List A × Reader). z.1.rest) other_is))
              (ap (λ z. length (flat_map so z)) (sym (ap (λ (z : List A × Reader). z.0) one_is))),
        )

    up_to : (n : ℕ) (read : List Placed) → length read ≤ n → Agrees P (repeat_while test item) (flat_map so) read
    up_to n [] few more others left rest e x y runs =
        let (one, there) = blank more left e x runs.more_there runs.one runs.one_filled in
        let (other, here) = blank others rest e y runs.others_there runs.other runs.other_filled in
        (one ∙ sym other, over there here (omega arith))
    up_to zero (t ∷ read) few more others left rest e x y runs = absurd (omega (arith, few))
    up_to (suc n) (t ∷ read) few more others left rest e x y runs = agrees_by n t read few (λ us h. up_to n us h) (test t) refl more others left rest e x y runs

-- ---- words, signs, names and numbers

pub twice_fixed : (P : ℕ) (flag : Bool) (l : Lexeme) → Twice P (expect_token l) (λ x. flag ∷ []) tt
unfolding expect_token
twice_fixed P flag l = twice_token P (is_lexeme l) (λ t. tt) (λ at. tt) (λ x. flag ∷ []) tt (λ x. refl) (λ t there filled. refl)

pub twice_fixed_at : (P : ℕ) (flag : Bool) (l : Lexeme) → Twice P (fixed_at l) (λ x. flag ∷ []) P
unfolding fixed_at
twice_fixed_at P flag l = twice_token P (is_lexeme l) (λ t. t.start) (λ at. at) (λ x. flag ∷ []) P (λ x. refl) (λ t there filled. there)

pub twice_name : (P : ℕ) → Twice P name as_name (filled_name P)
unfolding name
twice_name P =
    twice_token P is_name named_of filled_name as_name (filled_name P) (λ x. refl)
    (λ t there filled. λ i. record { name = (bytes_eq-Decides t.bytes (codes "x")).0 filled.0 i; at = there i })

zero_is : (n : ℕ) → (n == 0) ≡ true → n ≡ 0
zero_is n is = grind (arith, nat_tests)

pub twice_number : (P : ℕ) → Twice P number as_number (filled_numeral P)
unfolding number
twice_number P =
    twice_token P is_number numeral_of filled_numeral as_number (filled_numeral P) (λ x. refl)
    (λ t there filled. λ i. record { value = zero_is (number_value t.bytes) filled.0 i; at = there i })

pub twice_behind : (P : ℕ) (flag : Bool) (l : Lexeme) {A : Type 0} {p : Reader → A × Reader} {so : A → List Bool} {a : A} → Twice P p so a → Twice P (behind l p) (λ x. flag ∷ so x) a
twice_behind P flag l {so = so} T = twice_mapped P (λ x. x.1) (λ x. flag ∷ so x) (λ x. refl) (twice_both P (twice_fixed P flag l) T)

pub twice_listed : (P : ℕ) {A : Type 0} {item : Reader → A × Reader} {so : A → List Bool} {a : A} → Shrinks is_comma (behind comma_sign item) → Twice P item so a
    → Twice P (comma_list item) (as_listed so) (a ∷ [])
twice_listed P {so = so} shrinks T =
    twice_mapped P (λ x. x.0 ∷ x.1) (as_listed so) (λ x. refl)
    (twice_both P T (twice_repeated P is_comma shrinks (λ x filled. never filled.0) (twice_behind P false comma_sign T)))
  where
    never : false ≡ true → ⊥
    never is = cc

pub twice_optional : (P : ℕ) {A : Type 0} (test : Placed → Bool) {p : Reader → A × Reader} {so : A → List Bool} {a : A} (bs : Option A → List Bool) → bs None ≡ [] → ((x : A) → bs (Some x) ≡ so x) → ((x : A) → AllSo (bs (Some x)) → ⊥)
    → Twice P p so a → Twice P (optional test p) bs None
twice_optional P test bs none some never T = twice_either P test (twice_never P (λ x. Some x) bs None some never T) (twice_nothing P None bs none)
