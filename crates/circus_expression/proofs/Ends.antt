-- What a production that is lawful with every number of levels reads, and where it stops.
use Rattle.std.proofs.Common.{◌≡◌, ℕ, ◌+◌, suc, ◌<◌, ◌≤◌, List, [], ◌∷◌, ◌++◌, refl, sym, ◌∙◌, ap, subst, arith, append_assoc, append-nil}
use Rattle.std.specs.Prelude.{Option, Some, None}
use Rattle.std.proofs.lemmas.List.{append_cancel_right}
use Rattle.circus_syntax.specs.declared.stopping.Stop.{Stop}
use Rattle.circus_syntax.specs.declared.stopping.StopCause.{StopCause}
use Rattle.circus_syntax.specs.declared.stopping.StopCause.TheVariants.{Unexpected, TooDeep}
use Rattle.circus_syntax.specs.Placed.{Placed, first, AreTokens, Due, depth, AreWithin, AreDue, StandWithin}
use Rattle.circus_syntax.specs.Reader.{Reader, place_in}
use Rattle.circus_syntax.proofs.Opened.{StandsDeeper, within_more, stand_all, never_both}
use Rattle.circus_syntax.proofs.Sound.{Ran, Sound, reader, ran_is, EndsAt}
use Rattle.circus_syntax.proofs.Levels.{Reaches, Deeper, DeeperBy}
use Rattle.circus_syntax.proofs.Lawful.{Lawful}
use Rattle.circus_expression.specs.Ending.{Are, Begin, IsUnexpected, IsTooDeep, IsFilledIn}

-- with each number of levels it is lawful against more
abbrev pub AllLawful : {A : Type 0} → (ℕ → Reader → A × Reader) → (A → List Due) → (A → Type 0) → (Option Placed → Type 0) → Type 0
AllLawful p spell Good Stays = (n m : ℕ) → suc n < m → Lawful n (p n) (p m) spell Good Stays

-- levels that are enough
pub enough : (ds : List Due) → (n : ℕ) × AreWithin n ds
enough [] = (0, tt)
enough (d ∷ ds) = let (n, g) = enough ds in (n + depth d, (omega arith, within_more n (n + depth d) (omega arith) ds g))

pub reads : {A : Type 0} {p : ℕ → Reader → A × Reader} {spell : A → List Due} {Good : A → Type 0} {Stays : Option Placed → Type 0} → AllLawful p spell Good Stays
    → (n : ℕ) (own rest : List Placed) (a : A) (e : ℕ) → Are spell Good own a → AreWithin n (spell a) → Stays (first rest) → p n (reader None (own ++ rest) e) ≡ (a, reader None rest e)
reads L n own rest a e is within stays = (L n (n + 2) (omega arith)).complete.reads a own rest e (is.good, within) is.spelled stays

-- with more levels than these, which are enough for the tree
reads_alone : {A : Type 0} {p : ℕ → Reader → A × Reader} {spell : A → List Due} {Good : A → Type 0} {Stays : Option Placed → Type 0} → AllLawful p spell Good Stays → Stays None
    → (n : ℕ) (own : List Placed) (a : A) (e : ℕ) → Are spell Good own a → (m : ℕ) × (suc n < m) × (p m (reader None own e) ≡ (a, reader None [] e))
reads_alone {p = p} {spell} L none n own a e is =
    let (b, within) = enough (spell a) in
    let m = b + n + 2 in (
      m,
      omega arith,
      ap (λ l. p m (reader None l e)) (sym (append-nil own)) ∙ reads L m own [] a e is (within_more b m (omega arith) (spell a) within) none,
    )

-- what was read, by its parts
ran_parts : {A : Type 0} {p : Reader → A × Reader} {spell : A → List Due} {Good : A → Type 0} (ts left : List Placed) (a : A) (stop : Option Stop) (e : ℕ) (R : Ran p spell Good ts e)
    → p (reader None ts e) ≡ (a, reader stop left e) → (R.tree ≡ a) × (R.left ≡ left) × (R.stop ≡ stop)
ran_parts {A} ts left a stop e R is =
    let same = sym (ran_is R) ∙ is in
    (ap (λ (x : A × Reader). x.0) same, ap (λ (x : A × Reader). x.1.rest) same, ap (λ (x : A × Reader). x.1.stop) same)

pub read_whole : {A : Type 0} {p : ℕ → Reader → A × Reader} {spell : A → List Due} {Good : A → Type 0} {Stays : Option Placed → Type 0} → AllLawful p spell Good Stays
    → (n : ℕ) (ts rest : List Placed) (a : A) (e : ℕ) → AreTokens ts → p n (reader None ts e) ≡ (a, reader None rest e)
    → (own : List Placed) × (ts ≡ own ++ rest) × Are spell Good own a × AreWithin n (spell a)
read_whole {A} {p} {spell} {Good} L n ts rest a e tokens is =
    let M = L n (n + 2) (omega arith) in
    let R = M.narrow.runs ts e in
    let Q = M.levels.reaches ts e in
    let (tree_is, left_is, stop_is) = ran_parts ts rest a None e R is in
    let nothing_due : R.more ≡ [] = subst (λ (s : Option Stop). EndsAt s R.left e R.more) stop_is R.ended in
    let due : AreDue (spell R.tree) R.taken = subst (AreDue (spell R.tree)) (ap (λ l. R.taken ++ l) nothing_due ∙ append-nil R.taken) (R.due tokens) in
    let going : (p n (reader None ts e)).1.stop ≡ None = ap (λ (x : A × Reader). x.1.stop) is in (
      R.taken,
      R.whole ∙ ap (λ l. R.taken ++ l) left_is,
      record { good = subst Good tree_is (R.good tokens); spelled = subst (λ (t : A). AreDue (spell t) R.taken) tree_is due },
      subst (λ (t : A). AreWithin n (spell t)) (ap (λ (x : A × Reader). x.0) is) (stand_all n (spell (p n (reader None ts e)).0) Q.taken (Q.full going) Q.within),
    )

-- where reading stopped, and where what was filled in stands
ended_at : {A : Type 0} {p : Reader → A × Reader} {spell : A → List Due} {Good : A → Type 0} (ts : List Placed) (e : ℕ) (R : Ran p spell Good ts e) (s : Stop) → R.stop ≡ Some s → EndsAt (Some s) R.left e R.more
ended_at ts e R s stop_is = subst (λ (o : Option Stop). EndsAt o R.left e R.more) stop_is R.ended

pub no_stop : {A : Type 0} (x y : A × Reader) (s : Stop) → x.1.stop ≡ None → y.1.stop ≡ Some s → x ≡ y → ⊥
no_stop {A} x y s going stopped same = let stops : None ≡ Some s = sym going ∙ ap (λ (z : A × Reader). z.1.stop) same ∙ stopped in cc

-- what was taken in front of the same rest is the same
taken_same : (ts front taken rest left : List Placed) → ts ≡ front ++ rest → ts ≡ taken ++ left → left ≡ rest → taken ≡ front
taken_same ts front taken rest left one other same = append_cancel_right taken front rest (ap (λ l. taken ++ l) (sym same) ∙ sym other ∙ one)

pub filled_in : {A : Type 0} {p : ℕ → Reader → A × Reader} {spell : A → List Due} {Good : A → Type 0} {Stays : Option Placed → Type 0} → AllLawful p spell Good Stays
    → (n : ℕ) (ts left : List Placed) (a : A) (s : Stop) (e : ℕ) → AreTokens ts → p n (reader None ts e) ≡ (a, reader (Some s) left e) → IsFilledIn spell Good n ts left s.place a
filled_in {A} {p} {spell} {Good} L n ts left a s e tokens is =
    let M = L n (n + 2) (omega arith) in
    let R = M.narrow.runs ts e in
    let Q = M.levels.reaches ts e in
    let (tree_is, left_is, stop_is) = ran_parts ts left a (Some s) e R is in
    let whole : ts ≡ R.taken ++ left = R.whole ∙ ap (λ l. R.taken ++ l) left_is in
    let same : Q.taken ≡ R.taken = taken_same ts R.taken Q.taken left (p n (reader None ts e)).1.rest whole Q.whole (ap (λ (x : A × Reader). x.1.rest) is) in
    record {
      read = R.taken;
      more = R.more;
      whole = whole;
      are = subst (Are spell Good (R.taken ++ R.more)) tree_is (record { good = R.good tokens; spelled = R.due tokens });
      within = subst (StandWithin n (spell a)) same (subst (λ (t : A). StandWithin n (spell t) Q.taken) (ap (λ (x : A × Reader). x.0) is) Q.within);
      there = (ended_at ts e R s stop_is).1;
    }

-- what more levels make of tokens at which these stopped
pub deeper_of : {A : Type 0} {p : ℕ → Reader → A × Reader} {spell : A → List Due} {Good : A → Type 0} {Stays : Option Placed → Type 0} (L : AllLawful p spell Good Stays)
    → (n m : ℕ) (above : suc n < m) (us left : List Placed) (a : A) (s : Stop) (e : ℕ) (cause : StopCause) → s.cause ≡ cause → p n (reader None us e) ≡ (a, reader (Some s) left e)
    → DeeperBy n spell ((L n m above).levels.reaches us e).taken cause (a, reader (Some s) left e) (p m (reader None us e))
deeper_of {A} {p} {spell} L n m above us left a s e cause cause_is is =
    let Q = (L n m above).levels.reaches us e in
    let d : Deeper n spell Q.taken (Some s) (a, reader (Some s) left e) (p m (reader None us e)) =
    subst (λ (x : A × Reader). Deeper n spell Q.taken x.1.stop x (p m (reader None us e))) is Q.further in
    subst (λ (c : StopCause). DeeperBy n spell Q.taken c (a, reader (Some s) left e) (p m (reader None us e))) cause_is d

pub unexpected : {A : Type 0} {p : ℕ → Reader → A × Reader} {spell : A → List Due} {Good : A → Type 0} {Stays : Option Placed → Type 0} → AllLawful p spell Good Stays → Stays None
    → (n : ℕ) (ts left : List Placed) (a : A) (s : Stop) (e : ℕ) → AreTokens ts → p n (reader None ts e) ≡ (a, reader (Some s) left e) → s.cause ≡ Unexpected
    → IsUnexpected spell Good ts left × (s.place ≡ place_in left e)
unexpected {A} {p} {spell} {Good} L none n ts left a s e tokens is flat = (
  record {
    read = R.taken;
    whole = R.whole ∙ ap (λ l. R.taken ++ l) left_is;
    begun = (R.tree, R.more, record { good = R.good tokens; spelled = R.due tokens });
    none_on = none_on;
    none_ends = none_ends;
  },
  subst (λ (l : List Placed). s.place ≡ place_in l e) left_is (ended_at ts e R s stop_is).0,
)
  where
    R : Ran (p n) spell Good ts e
    R = (L n (n + 2) (omega arith)).narrow.runs ts e

    left_is : R.left ≡ left
    left_is = (ran_parts ts left a (Some s) e R is).1

    stop_is : R.stop ≡ Some s
    stop_is = (ran_parts ts left a (Some s) e R is).2

    -- the same stop before the same token
    stopped : (rest : List Placed) → first rest ≡ first left → p n (reader None (R.taken ++ rest) e) ≡ (R.tree, reader (Some s) rest e)
    stopped rest same = R.same rest (same ∙ ap first (sym left_is)) ∙ ap (λ (o : Option Stop). (R.tree, reader o rest e)) stop_is

    none_on : (t : Placed) (rest : List Placed) → left ≡ t ∷ rest → Begin spell Good (R.taken ++ t ∷ []) → ⊥
    none_on t rest next (other, more, other_is) =
        let (m, above, there) = reads_alone L none n ((R.taken ++ t ∷ []) ++ more) other e other_is in
        let here = deeper_of L n m above (R.taken ++ t ∷ more) (t ∷ more) R.tree s e Unexpected flat (stopped (t ∷ more) (ap first (sym next))) in
        no_stop (other, reader None [] e) (R.tree, reader (Some s) (t ∷ more) e) s refl refl
        (sym there ∙ ap (λ l. p m (reader None l e)) (append_assoc R.taken (t ∷ []) more) ∙ here)

    none_ends : left ≡ [] → (other : A) → Are spell Good R.taken other → ⊥
    none_ends empty other other_is =
        let (m, above, there) = reads_alone L none n R.taken other e other_is in
        let here = deeper_of L n m above (R.taken ++ []) [] R.tree s e Unexpected flat (stopped [] (ap first (sym empty))) in
        no_stop (other, reader None [] e) (R.tree, reader (Some s) [] e) s refl refl
        (sym there ∙ ap (λ l. p m (reader None l e)) (sym (append-nil R.taken)) ∙ here)

pub too_deep : {A : Type 0} {p : ℕ → Reader → A × Reader} {spell : A → List Due} {Good : A → Type 0} {Stays : Option Placed → Type 0} → AllLawful p spell Good Stays → Stays None
    → (n : ℕ) (ts left : List Placed) (a : A) (s : Stop) (e : ℕ) → AreTokens ts → p n (reader None ts e) ≡ (a, reader (Some s) left e) → s.cause ≡ TooDeep
    → IsTooDeep spell Good n ts left × (s.place ≡ place_in left e)
too_deep {A} {p} {spell} {Good} L none n ts left a s e tokens is deep = (
  record {
    read = R.taken;
    next = further.0.0;
    rest = further.0.1 ++ (p (n + 2) (reader None ts e)).1.rest;
    whole = R.whole ∙ ap (λ l. R.taken ++ l) left_is;
    next_is = further.0.2;
    goes_on = goes_on;
    deeper = deeper;
  },
  subst (λ (l : List Placed). s.place ≡ place_in l e) left_is (ended_at ts e R s stop_is).0,
)
  where
    R : Ran (p n) spell Good ts e
    R = (L n (n + 2) (omega arith)).narrow.runs ts e

    left_is : R.left ≡ left
    left_is = (ran_parts ts left a (Some s) e R is).1

    stop_is : R.stop ≡ Some s
    stop_is = (ran_parts ts left a (Some s) e R is).2

    further : DeeperBy n spell ((L n (n + 2) (omega arith)).levels.reaches ts e).taken TooDeep (a, reader (Some s) left e) (p (n + 2) (reader None ts e))
    further = deeper_of L n (n + 2) (omega arith) ts left a s e TooDeep deep is

    stopped : (rest : List Placed) → first rest ≡ first left → p n (reader None (R.taken ++ rest) e) ≡ (R.tree, reader (Some s) rest e)
    stopped rest same = R.same rest (same ∙ ap first (sym left_is)) ∙ ap (λ (o : Option Stop). (R.tree, reader o rest e)) stop_is

    goes_on : Begin spell Good (R.taken ++ further.0.0 ∷ [])
    goes_on =
        let Q = (L n (n + 2) (omega arith)).wide.runs ts e in
        let (t, c, longer) = further.0 in
        let rest_is : (p (n + 2) (reader None ts e)).1.rest ≡ Q.left = ap (λ (x : A × Reader). x.1.rest) (ran_is Q) in
        let front : Q.taken ≡ R.taken ++ t ∷ c =
        append_cancel_right Q.taken (R.taken ++ t ∷ c) Q.left
        (sym Q.whole ∙ R.whole ∙ ap (λ l. R.taken ++ l) (left_is ∙ longer ∙ ap (λ l. t ∷ (c ++ l)) rest_is) ∙ sym (append_assoc R.taken (t ∷ c) Q.left)) in
        let begun : Are spell Good (Q.taken ++ Q.more) Q.tree = record { good = Q.good tokens; spelled = Q.due tokens } in (
          Q.tree,
          c ++ Q.more,
          subst (λ (l : List Placed). Are spell Good l Q.tree)
              (ap (λ l. l ++ Q.more) front ∙ append_assoc R.taken (t ∷ c) Q.more ∙ sym (append_assoc R.taken (t ∷ []) (c ++ Q.more)))
              begun,
        )

    deeper : (other : A) (more : List Placed) → Are spell Good (R.taken ++ further.0.0 ∷ more) other → StandWithin n (spell other) (R.taken ++ further.0.0 ∷ []) → ⊥
    deeper other more other_is within =
        let t = further.0.0 in
        let us = R.taken ++ t ∷ more in
        let (m, above, there) = reads_alone L none n us other e other_is in
        let at_next = stopped (t ∷ more) (ap first (sym further.0.2)) in
        let here = deeper_of L n m above us (t ∷ more) R.tree s e TooDeep deep at_next in
        let Q = (L n m above).levels.reaches us e in
        let same : Q.taken ≡ R.taken = taken_same us R.taken Q.taken (t ∷ more) (p n (reader None us e)).1.rest refl Q.whole (ap (λ (x : A × Reader). x.1.rest) at_next) in
        let stands : StandsDeeper n (spell other) R.taken =
        subst (StandsDeeper n (spell other)) same (subst (λ (x : A × Reader). StandsDeeper n (spell x.0) Q.taken) there here.1) in
        never_both n (spell other) R.taken [] t stands within
