-- What productions answer: the tokens that they take begin, or are, what the tree is spelled by.
use Rattle.std.proofs.Common.{◌≡◌, ℕ, Bool, true, false, List, [], ◌∷◌, ◌++◌, refl, sym, ◌∙◌, ap, subst, append_assoc, append-nil}
use Rattle.std.specs.Prelude.{Option, Some, None}
use Rattle.circus_text.specs.Token.{IsSpelling}
use Rattle.circus_syntax.specs.declared.stopping.Stop.{Stop}
use Rattle.circus_syntax.specs.declared.stopping.StopCause.TheVariants.{Unexpected}
use Rattle.circus_syntax.specs.Placed.{Placed, first, AreTokens, Due, open_level, AreDue}
use Rattle.circus_syntax.specs.Reader.{Reader, place_in, stop_at, token, nothing, both, map_read, choose_by}
use Rattle.circus_syntax.specs.Stopping.{StandAt}
use Rattle.circus_syntax.proofs.Opened.{due_opened}

pub AreDue-append : (ds es : List Due) (ts us : List Placed) → AreDue ds ts → AreDue es us → AreDue (ds ++ es) (ts ++ us)
AreDue-append [] es [] us d e = e
AreDue-append [] es (t ∷ ts) us d e = absurd d
AreDue-append (x ∷ ds) es [] us d e = absurd d
AreDue-append (x ∷ ds) es (t ∷ ts) us d e = (d.0, AreDue-append ds es ts us d.1 e)

pub AreDue-split : (ds es : List Due) (ts : List Placed) → AreDue (ds ++ es) ts
    → (us : List Placed) × (vs : List Placed) × (ts ≡ us ++ vs) × AreDue ds us × AreDue es vs
AreDue-split [] es ts d = ([], ts, refl, tt, d)
AreDue-split (x ∷ ds) es [] d = absurd d
AreDue-split (x ∷ ds) es (t ∷ ts) d =
    let (us, vs, same, front, back) = AreDue-split ds es ts d.1 in
    (t ∷ us, vs, ap (λ l. t ∷ l) same, (d.0, front), back)

pub AreDue-none : (ts : List Placed) → AreDue [] ts → ts ≡ []
AreDue-none [] d = refl
AreDue-none (t ∷ ts) d = absurd d

pub tokens_behind : (ts us : List Placed) → AreTokens (ts ++ us) → AreTokens us
tokens_behind [] us a = a
tokens_behind (t ∷ ts) us a = tokens_behind ts us a.1

pub StandAt-append : (at : ℕ) (ts us : List Placed) → StandAt at ts → StandAt at us → StandAt at (ts ++ us)
StandAt-append at [] us s t = t
StandAt-append at (x ∷ ts) us s t = (s.0, StandAt-append at ts us s.1 t)

pub first_append : (ts us vs : List Placed) → first us ≡ first vs → first (ts ++ us) ≡ first (ts ++ vs)
first_append [] us vs e = e
first_append (t ∷ ts) us vs e = refl

pub place_first : (ts us : List Placed) (e : ℕ) → first ts ≡ first us → place_in ts e ≡ place_in us e
place_first [] [] e same = refl
place_first [] (u ∷ us) e same = cc
place_first (t ∷ ts) [] e same = cc
place_first (t ∷ ts) (u ∷ us) e same =
    let heads : t ≡ u = cc in ap (λ (p : Placed). p.start) heads

-- a reader by its parts, the stop in front
abbrev pub reader : Option Stop → List Placed → ℕ → Reader
reader stop ts e = record { rest = ts; end = e; stop = stop }

-- where reading doesn't stop nothing more is due; a stop is at the first token left, or at the end, and what more is due is
-- filled in there
abbrev pub EndsAt : Option Stop → List Placed → ℕ → List Placed → Type 0
EndsAt None left e more = more ≡ []
EndsAt (Some s) left e more = (s.place ≡ place_in left e) × StandAt s.place more

-- what a production does at tokens, whatever stands behind the first token that it leaves
pub record Ran {A : Type 0} (p : Reader → A × Reader) (spell : A → List Due) (Good : A → Type 0) (ts : List Placed) (e : ℕ) : Type 0 where
  pub tree : A
  pub taken : List Placed
  pub left : List Placed
  pub stop : Option Stop
  pub more : List Placed
  pub whole : ts ≡ taken ++ left
  pub same : (rest : List Placed) → first rest ≡ first left → p (reader None (taken ++ rest) e) ≡ (tree, reader stop rest e)
  pub ended : EndsAt stop left e more
  pub good : AreTokens ts → Good tree
  pub due : AreTokens ts → AreDue (spell tree) (taken ++ more)

-- what a production does where reading has stopped: it fills in
pub record Fills {A : Type 0} (p : Reader → A × Reader) (spell : A → List Due) (Good : A → Type 0) (s : Stop) (e : ℕ) : Type 0 where
  pub tree : A
  pub more : List Placed
  pub stays : (ts : List Placed) → p (reader (Some s) ts e) ≡ (tree, reader (Some s) ts e)
  pub good : Good tree
  pub due : AreDue (spell tree) more
  pub there : StandAt s.place more

pub record Sound {A : Type 0} (p : Reader → A × Reader) (spell : A → List Due) (Good : A → Type 0) : Type 0 where
  pub fills : (s : Stop) (e : ℕ) → Fills p spell Good s e
  pub runs : (ts : List Placed) (e : ℕ) → Ran p spell Good ts e

-- what the production does at these very tokens
pub ran_is : {A : Type 0} {p : Reader → A × Reader} {spell : A → List Due} {Good : A → Type 0} {ts : List Placed} {e : ℕ} (r : Ran p spell Good ts e)
    → p (reader None ts e) ≡ (r.tree, reader r.stop r.left e)
ran_is {A = A} {p = p} {e = e} r =
    subst (λ (l : List Placed). p (reader None l e) ≡ (r.tree, reader r.stop r.left e)) (sym r.whole) (r.same r.left refl)

-- Tokens.

pub sound_token : {A : Type 0} (test : Placed → Bool) (read : Placed → A) (fill : ℕ → A) (spell : A → List Due) (Good : A → Type 0)
    → ((t : Placed) → test t ≡ true → IsSpelling t.kind t.bytes → Good (read t) × AreDue (spell (read t)) (t ∷ []))
    → ((at : ℕ) → Good (fill at) × (more : Placed) × (more.start ≡ at) × AreDue (spell (fill at)) (more ∷ []))
    → Sound (token test read fill) spell Good
sound_token {A = A} test read fill spell Good reads filled = record {
  fills = λ s e. record {
    tree = fill s.place;
    more = (filled s.place).1 ∷ [];
    stays = λ ts. refl;
    good = (filled s.place).0;
    due = (filled s.place).3;
    there = ((filled s.place).2, tt);
  };
  runs = runs;
}
  where
    at_end : (e : ℕ) (rest : List Placed) → first rest ≡ None → token test read fill (reader None rest e) ≡ (fill e, reader (Some (stop_at Unexpected e)) rest e)
    at_end e [] none = refl
    at_end e (t ∷ ts) none = cc

    seen : (t : Placed) (rest : List Placed) (e : ℕ) → test t ≡ true → token test read fill (reader None (t ∷ rest) e) ≡ (read t, reader None rest e)
    seen t rest e hit = rw hit refl

    unseen : (t : Placed) (rest : List Placed) (e : ℕ) → test t ≡ false → first rest ≡ Some t → token test read fill (reader None rest e) ≡ (fill t.start, reader (Some (stop_at Unexpected t.start)) rest e)
    unseen t [] e missed same = cc
    unseen t (u ∷ us) e missed same =
        let heads : t ≡ u = cc in
        subst (λ (v : Placed). token test read fill (reader None (v ∷ us) e) ≡ (fill t.start, reader (Some (stop_at Unexpected t.start)) (v ∷ us) e)) heads (rw missed refl)

    tested : (t : Placed) (ts : List Placed) (e : ℕ) (b : Bool) → test t ≡ b → Ran (token test read fill) spell Good (t ∷ ts) e
    tested t ts e true hit = record {
      tree = read t;
      taken = t ∷ [];
      left = ts;
      stop = None;
      more = [];
      whole = refl;
      same = λ rest f. seen t rest e hit;
      ended = refl;
      good = λ a. (reads t hit a.0).0;
      due = λ a. (reads t hit a.0).1;
    }
    tested t ts e false missed = record {
      tree = fill t.start;
      taken = [];
      left = t ∷ ts;
      stop = Some (stop_at Unexpected t.start);
      more = (filled t.start).1 ∷ [];
      whole = refl;
      same = λ rest f. unseen t rest e missed f;
      ended = (refl, ((filled t.start).2, tt));
      good = λ a. (filled t.start).0;
      due = λ a. (filled t.start).3;
    }

    runs : (ts : List Placed) (e : ℕ) → Ran (token test read fill) spell Good ts e
    runs [] e = record {
      tree = fill e;
      taken = [];
      left = [];
      stop = Some (stop_at Unexpected e);
      more = (filled e).1 ∷ [];
      whole = refl;
      same = λ rest f. at_end e rest f;
      ended = (refl, ((filled e).2, tt));
      good = λ a. (filled e).0;
      due = λ a. (filled e).3;
    }
    runs (t ∷ ts) e = tested t ts e (test t) refl

-- Nothing.

pub sound_nothing : {A : Type 0} (a : A) (spell : A → List Due) (Good : A → Type 0) → Good a → spell a ≡ [] → Sound (nothing a) spell Good
sound_nothing {A = A} a spell Good good none = record {
  fills = λ s e. record { tree = a; more = []; stays = λ ts. refl; good = good; due = rw none tt; there = tt };
  runs = λ ts e. record {
    tree = a;
    taken = [];
    left = ts;
    stop = None;
    more = [];
    whole = refl;
    same = λ rest f. refl;
    ended = refl;
    good = λ t. good;
    due = λ t. rw none tt;
  };
}

-- One behind the other.

pub both_is : {A B : Type 0} (p : Reader → A × Reader) (q : Reader → B × Reader) (r s t : Reader) (a : A) (b : B)
    → p r ≡ (a, s) → q s ≡ (b, t) → both p q r ≡ ((a, b), t)
both_is p q r s t a b first second = rw (first, second) refl

pub fills_both : {A B : Type 0} {p : Reader → A × Reader} {q : Reader → B × Reader} {sa : A → List Due} {sb : B → List Due} {ga : A → Type 0} {gb : B → Type 0} {s : Stop} {e : ℕ}
    → Fills p sa ga s e → Fills q sb gb s e → Fills (both p q) (λ x. sa x.0 ++ sb x.1) (λ x. ga x.0 × gb x.1) s e
fills_both {p = p} {q = q} {sa = sa} {sb = sb} {s = s} {e = e} P Q = record {
  tree = (P.tree, Q.tree);
  more = P.more ++ Q.more;
  stays = λ ts. both_is p q _ _ _ P.tree Q.tree (P.stays ts) (Q.stays ts);
  good = (P.good, Q.good);
  due = AreDue-append (sa P.tree) (sb Q.tree) P.more Q.more P.due Q.due;
  there = StandAt-append s.place P.more Q.more P.there Q.there;
}

pub ran_both : {A B : Type 0} {p : Reader → A × Reader} {q : Reader → B × Reader} {sa : A → List Due} {sb : B → List Due} {ga : A → Type 0} {gb : B → Type 0} {ts : List Placed} {e : ℕ}
    → (P : Ran p sa ga ts e) → ((s : Stop) → Fills q sb gb s e) → Ran q sb gb P.left e
    → Ran (both p q) (λ x. sa x.0 ++ sb x.1) (λ x. ga x.0 × gb x.1) ts e
ran_both {A = A} {B = B} {p = p} {q = q} {sa = sa} {sb = sb} {ga = ga} {gb = gb} {ts = ts} {e = e} P filled Q = by_stop P.stop P.same P.ended
  where
    by_stop : (stop : Option Stop) → ((rest : List Placed) → first rest ≡ first P.left → p (reader None (P.taken ++ rest) e) ≡ (P.tree, reader stop rest e))
        → EndsAt stop P.left e P.more → Ran (both p q) (λ x. sa x.0 ++ sb x.1) (λ x. ga x.0 × gb x.1) ts e
    by_stop None same ended = record {
      tree = (P.tree, Q.tree);
      taken = P.taken ++ Q.taken;
      left = Q.left;
      stop = Q.stop;
      more = Q.more;
      whole = P.whole ∙ ap (λ l. P.taken ++ l) Q.whole ∙ sym (append_assoc P.taken Q.taken Q.left);
      same = λ rest f.
          subst (λ (l : List Placed). both p q (reader None l e) ≡ ((P.tree, Q.tree), reader Q.stop rest e)) (sym (append_assoc P.taken Q.taken rest))
          (both_is p q _ _ _ P.tree Q.tree (same (Q.taken ++ rest) (first_append Q.taken rest Q.left f ∙ ap first (sym Q.whole))) (Q.same rest f));
      ended = Q.ended;
      good = λ a. (P.good a, Q.good (tokens_behind P.taken P.left (subst AreTokens P.whole a)));
      due = λ a.
          subst (AreDue (sa P.tree ++ sb Q.tree)) (sym (append_assoc P.taken Q.taken Q.more))
          (AreDue-append (sa P.tree) (sb Q.tree) P.taken (Q.taken ++ Q.more)
          (subst (AreDue (sa P.tree)) (ap (λ m. P.taken ++ m) ended ∙ append-nil P.taken) (P.due a))
          (Q.due (tokens_behind P.taken P.left (subst AreTokens P.whole a))));
    }
    by_stop (Some s) same ended =
        let F = filled s in
        record {
          tree = (P.tree, F.tree);
          taken = P.taken;
          left = P.left;
          stop = Some s;
          more = P.more ++ F.more;
          whole = P.whole;
          same = λ rest f. both_is p q _ _ _ P.tree F.tree (same rest f) (F.stays rest);
          ended = (ended.0, StandAt-append s.place P.more F.more ended.1 F.there);
          good = λ a. (P.good a, F.good);
          due = λ a.
              subst (AreDue (sa P.tree ++ sb F.tree)) (append_assoc P.taken P.more F.more)
              (AreDue-append (sa P.tree) (sb F.tree) (P.taken ++ P.more) F.more (P.due a) F.due);
        }

pub sound_both : {A B : Type 0} {p : Reader → A × Reader} {q : Reader → B × Reader} {sa : A → List Due} {sb : B → List Due} {ga : A → Type 0} {gb : B → Type 0}
    → Sound p sa ga → Sound q sb gb → Sound (both p q) (λ x. sa x.0 ++ sb x.1) (λ x. ga x.0 × gb x.1)
sound_both P Q = record {
  fills = λ s e. fills_both (P.fills s e) (Q.fills s e);
  runs = λ ts e. let R = P.runs ts e in ran_both R (λ s. Q.fills s e) (Q.runs R.left e);
}

-- Made into something else.

pub fills_mapped : {A B : Type 0} {p : Reader → A × Reader} {sa : A → List Due} {ga : A → Type 0} {s : Stop} {e : ℕ} (f : A → B) (sb : B → List Due) (gb : B → Type 0)
    → ((x : A) → sb (f x) ≡ sa x) → ((x : A) → ga x → gb (f x)) → Fills p sa ga s e → Fills (map_read f p) sb gb s e
fills_mapped f sb gb spelled kept P = record {
  tree = f P.tree;
  more = P.more;
  stays = λ ts. ap (λ x. (f x.0, x.1)) (P.stays ts);
  good = kept P.tree P.good;
  due = subst (λ ds. AreDue ds P.more) (sym (spelled P.tree)) P.due;
  there = P.there;
}

pub ran_mapped : {A B : Type 0} {p : Reader → A × Reader} {sa : A → List Due} {ga : A → Type 0} {ts : List Placed} {e : ℕ} (f : A → B) (sb : B → List Due) (gb : B → Type 0)
    → ((x : A) → sb (f x) ≡ sa x) → ((x : A) → ga x → gb (f x)) → Ran p sa ga ts e → Ran (map_read f p) sb gb ts e
ran_mapped f sb gb spelled kept P = record {
  tree = f P.tree;
  taken = P.taken;
  left = P.left;
  stop = P.stop;
  more = P.more;
  whole = P.whole;
  same = λ rest first_same. ap (λ x. (f x.0, x.1)) (P.same rest first_same);
  ended = P.ended;
  good = λ a. kept P.tree (P.good a);
  due = λ a. subst (λ ds. AreDue ds (P.taken ++ P.more)) (sym (spelled P.tree)) (P.due a);
}

pub sound_mapped : {A B : Type 0} {p : Reader → A × Reader} {sa : A → List Due} {ga : A → Type 0} (f : A → B) (sb : B → List Due) (gb : B → Type 0)
    → ((x : A) → sb (f x) ≡ sa x) → ((x : A) → ga x → gb (f x)) → Sound p sa ga → Sound (map_read f p) sb gb
sound_mapped f sb gb spelled kept P = record {
  fills = λ s e. fills_mapped f sb gb spelled kept (P.fills s e);
  runs = λ ts e. ran_mapped f sb gb spelled kept (P.runs ts e);
}

-- A level deeper.

pub sound_opened : {A : Type 0} {p : Reader → A × Reader} {spell : A → List Due} {Good : A → Type 0} → Sound p spell Good → Sound p (λ a. open_level (spell a)) Good
sound_opened {spell = spell} P = record {
  fills = λ s e.
      let F = P.fills s e in
      record { tree = F.tree; more = F.more; stays = F.stays; good = F.good; due = due_opened (spell F.tree) F.more F.due; there = F.there };
  runs = λ ts e.
      let R = P.runs ts e in
      record {
        tree = R.tree;
        taken = R.taken;
        left = R.left;
        stop = R.stop;
        more = R.more;
        whole = R.whole;
        same = R.same;
        ended = R.ended;
        good = R.good;
        due = λ a. due_opened (spell R.tree) (R.taken ++ R.more) (R.due a);
      };
}

-- As another production at tokens with this first one.

pub ran_like : {A : Type 0} {q : Reader → A × Reader} {spell : A → List Due} {Good : A → Type 0} {ts : List Placed} {e : ℕ} (p : Reader → A × Reader)
    → ((us : List Placed) → first us ≡ first ts → p (reader None us e) ≡ q (reader None us e))
    → Ran q spell Good ts e → Ran p spell Good ts e
ran_like p alike Q = record {
  tree = Q.tree;
  taken = Q.taken;
  left = Q.left;
  stop = Q.stop;
  more = Q.more;
  whole = Q.whole;
  same = λ rest f. alike (Q.taken ++ rest) (first_append Q.taken rest Q.left f ∙ ap first (sym Q.whole)) ∙ Q.same rest f;
  ended = Q.ended;
  good = Q.good;
  due = Q.due;
}

pub sound_cased : {K A : Type 0} (class : Option Placed → K) (p : K → Reader → A × Reader) {spell : A → List Due} {Good : A → Type 0}
    → ((k : K) → Sound (p k) spell Good) → Sound (choose_by class p) spell Good
sound_cased class p each = record {
  fills = λ s e. let F = (each (class None)).fills s e in record { tree = F.tree; more = F.more; stays = F.stays; good = F.good; due = F.due; there = F.there };
  runs = λ ts e. ran_like (choose_by class p) (λ us same. ap (λ k. p k (reader None us e)) (ap class same)) ((each (class (first ts))).runs ts e);
}
