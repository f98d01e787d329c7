-- What reading a placing says of the tokens.
use Rattle.std.proofs.Common.{◌≡◌, ℕ, ◌+◌, ◌<◌, suc, List, [], ◌∷◌, ◌++◌, refl, sym, ◌∙◌, ap, subst, arith, append_assoc, append-nil}
use Rattle.std.specs.Prelude.{Option, Some, None}
use Rattle.std.proofs.lemmas.List.{append_cancel_right}
use Rattle.circus_syntax.specs.declared.stopping.Stop.{Stop}
use Rattle.circus_syntax.specs.declared.stopping.StopCause.{StopCause}
use Rattle.circus_syntax.specs.declared.stopping.StopCause.TheVariants.{Unexpected, TooDeep}
use Rattle.circus_syntax.specs.Placed.{Placed, first, AreTokens, Due, depth, AreWithin}
use Rattle.circus_syntax.specs.Reader.{Reader, place_in}
use Rattle.circus_syntax.proofs.Opened.{within_more}
use Rattle.circus_syntax.proofs.Sound.{Ran, reader, ran_is, EndsAt}
use Rattle.circus_syntax.proofs.Widens.{Wider, WiderBy}
use Rattle.circus_syntax.proofs.Levels.{widens_of_levels}
use Rattle.circus_place.specs.Written.{PlacingTree}
use Rattle.circus_place.specs.Grammar.{spelling, IsGrammatical, IsWithin, most_levels, IsPlacing, Begins, BeginsWithin}
use Rattle.circus_place.specs.Seen.Reading.{text_end, placing}
use Rattle.circus_place.specs.Stopping.{IsUnexpected, IsTooDeep, IsFilledIn}
use Rattle.circus_place.proofs.Placings.{lawful_placing}
use Rattle.circus_place.proofs.Within.{placing_within}
use Rattle.circus_place.proofs.FillPlacings.{placing_filled}

some_levels : (ds : List Due) → (n : ℕ) × AreWithin n ds
some_levels [] = (0, tt)
some_levels (d ∷ ds) =
    let (n, g) = some_levels ds in
    (n + depth d, (omega arith, within_more n (n + depth d) (omega arith) ds g))

-- a number of levels above the most that is enough for the tree
enough_for : (tree : PlacingTree) → (n : ℕ) × (most_levels < n) × IsWithin n tree
enough_for tree =
    let (n, g) = some_levels (spelling tree) in
    (n + most_levels + 1, omega arith, within_more n (n + most_levels + 1) (omega arith) (spelling tree) g)

pub placing_read : (n : ℕ) (ts : List Placed) (tree : PlacingTree) (e : ℕ) → IsPlacing ts tree → IsWithin n tree → placing n (reader None ts e) ≡ (tree, reader None [] e)
placing_read n ts tree e is within =
    ap (λ l. placing n (reader None l e)) (sym (append-nil ts)) ∙ (lawful_placing n (suc n) (omega arith)).complete.reads tree ts [] e (is.grammatical, within) is.spelled refl

pub placing_one : (ts : List Placed) (tree other : PlacingTree) → IsPlacing ts tree → IsPlacing ts other → tree ≡ other
placing_one ts tree other first_is second_is =
    let (n, above, within) = enough_for tree in
    let (m, higher, inside) = enough_for other in
    let same : (tree, reader None [] 0) ≡ (other, reader None [] 0) =
    sym (placing_read (n + m) ts tree 0 first_is (within_more n (n + m) (omega arith) (spelling tree) within)) ∙ placing_read (n + m) ts other 0 second_is (within_more m (n + m) (omega arith) (spelling other) inside) in
    ap (λ (x : PlacingTree × Reader). x.0) same

-- where it ended no token is left
nothing_left : (s : Reader) → (text_end s).1.stop ≡ None → (text_end s).1.rest ≡ []
unfolding text_end
nothing_left s none = by_parts s.stop s.rest none
  where
    by_parts : (stop : Option Stop) (ts : List Placed) → (text_end (reader stop ts s.end)).1.stop ≡ None → (text_end (reader stop ts s.end)).1.rest ≡ []
    by_parts (Some t) ts none = absurd (cc)
    by_parts None [] none = refl
    by_parts None (t ∷ ts) none = absurd (cc)

read_to_the_end : (n : ℕ) (r : Reader) → (placing n r).1.stop ≡ None → (placing n r).1.rest ≡ []
unfolding placing
read_to_the_end n r none = nothing_left _ none

-- what was read, by its parts
ran : (ts : List Placed) (e : ℕ) → Ran (placing most_levels) spelling IsGrammatical ts e
ran ts e = (lawful_placing most_levels 65 (omega arith)).narrow.runs ts e

ran_parts : (ts left : List Placed) (tree : PlacingTree) (stop : Option Stop) (e : ℕ) (R : Ran (placing most_levels) spelling IsGrammatical ts e)
    → placing most_levels (reader None ts e) ≡ (tree, reader stop left e) → (R.tree ≡ tree) × (R.left ≡ left) × (R.stop ≡ stop)
ran_parts ts left tree stop e R is =
    let same : (R.tree, reader R.stop R.left e) ≡ (tree, reader stop left e) = sym (ran_is R) ∙ is in
    (ap (λ (x : PlacingTree × Reader). x.0) same, ap (λ (x : PlacingTree × Reader). x.1.rest) same, ap (λ (x : PlacingTree × Reader). x.1.stop) same)

-- the reader stays one of the same text
pub of_text : (ts : List Placed) (tree : PlacingTree) (s : Reader) (e : ℕ) → placing most_levels (reader None ts e) ≡ (tree, s) → placing most_levels (reader None ts e) ≡ (tree, reader s.stop s.rest e)
of_text ts tree s e is =
    let same : s.end ≡ e = ap (λ (x : PlacingTree × Reader). x.1.end) (sym is ∙ ran_is (ran ts e)) in
    is ∙ ap (λ k. (tree, reader s.stop s.rest k)) same

-- what was read begins a placing of no more levels
begun_of : (n : ℕ) (ts : List Placed) (e : ℕ) (R : Ran (placing n) spelling IsGrammatical ts e) → AreTokens ts → IsPlacing (R.taken ++ R.more) R.tree × IsWithin n R.tree
begun_of n ts e R tokens = (
  record { grammatical = R.good tokens; spelled = R.due tokens },
  subst (λ (x : PlacingTree × Reader). IsWithin n x.0) (ran_is R) (placing_within n (reader None ts e)),
)

pub placing_whole : (ts rest : List Placed) (tree : PlacingTree) (e : ℕ) → AreTokens ts → placing most_levels (reader None ts e) ≡ (tree, reader None rest e) → IsPlacing ts tree × IsWithin most_levels tree
placing_whole ts rest tree e tokens is =
    let R = ran ts e in
    let (tree_is, left_is, stop_is) = ran_parts ts rest tree None e R is in
    let none_left : rest ≡ [] = sym (ap (λ (x : PlacingTree × Reader). x.1.rest) is) ∙ read_to_the_end most_levels (reader None ts e) (ap (λ (x : PlacingTree × Reader). x.1.stop) is) in
    let nothing_due : R.more ≡ [] = subst (λ (s : Option Stop). EndsAt s R.left e R.more) stop_is R.ended in
    let own : R.taken ++ R.more ≡ ts = ap (λ l. R.taken ++ l) (nothing_due ∙ sym (left_is ∙ none_left)) ∙ sym R.whole in
    let (begun, within) = begun_of most_levels ts e R tokens in (
      subst (IsPlacing ts) tree_is (subst (λ l. IsPlacing l R.tree) own begun),
      subst (IsWithin most_levels) tree_is within,
    )

-- where reading stopped, and where what was filled in stands
ended_at : (ts : List Placed) (e : ℕ) (R : Ran (placing most_levels) spelling IsGrammatical ts e) (s : Stop) → R.stop ≡ Some s → EndsAt (Some s) R.left e R.more
ended_at ts e R s stop_is = subst (λ (o : Option Stop). EndsAt o R.left e R.more) stop_is R.ended

pub placing_filled_in : (ts left : List Placed) (tree : PlacingTree) (s : Stop) (e : ℕ) → AreTokens ts → placing most_levels (reader None ts e) ≡ (tree, reader (Some s) left e)
    → IsFilledIn ts left s.place tree × (s.place ≡ place_in left e)
placing_filled_in ts left tree s e tokens is =
    let R = ran ts e in
    let (tree_is, left_is, stop_is) = ran_parts ts left tree (Some s) e R is in
    let (begun, within) = begun_of most_levels ts e R tokens in
    let (stands, there) = ended_at ts e R s stop_is in (
      record {
        read = R.taken;
        more = R.more;
        whole = R.whole ∙ ap (λ l. R.taken ++ l) left_is;
        placing = subst (IsPlacing (R.taken ++ R.more)) tree_is begun;
        within = subst (IsWithin most_levels) tree_is within;
        there = there;
        filled = placing_filled most_levels ts R.taken left tree s e is (R.whole ∙ ap (λ l. R.taken ++ l) left_is);
      },
      subst (λ (l : List Placed). s.place ≡ place_in l e) left_is stands,
    )

no_stop : (x y : PlacingTree × Reader) (s : Stop) → x.1.stop ≡ None → y.1.stop ≡ Some s → x ≡ y → ⊥
no_stop x y s going stopped same = let stops : None ≡ Some s = sym going ∙ ap (λ (z : PlacingTree × Reader). z.1.stop) same ∙ stopped in cc

wider : (us left : List Placed) (tree : PlacingTree) (s : Stop) (e n : ℕ) → most_levels < n → (cause : StopCause) → s.cause ≡ cause → placing most_levels (reader None us e) ≡ (tree, reader (Some s) left e)
    → WiderBy cause (tree, reader (Some s) left e) (placing n (reader None us e))
wider us left tree s e n above cause because is =
    let w : Wider (Some s) (tree, reader (Some s) left e) (placing n (reader None us e)) =
    subst (λ (x : PlacingTree × Reader). Wider x.1.stop x (placing n (reader None us e))) is ((widens_of_levels most_levels (lawful_placing most_levels n above).levels).wider us e) in
    subst (λ b. WiderBy b (tree, reader (Some s) left e) (placing n (reader None us e))) because w

-- the same stop before the same token
stopped : (ts left : List Placed) (tree : PlacingTree) (s : Stop) (e : ℕ) → placing most_levels (reader None ts e) ≡ (tree, reader (Some s) left e) → (rest : List Placed) → first rest ≡ first left
    → placing most_levels (reader None ((ran ts e).taken ++ rest) e) ≡ ((ran ts e).tree, reader (Some s) rest e)
stopped ts left tree s e is rest same =
    let R = ran ts e in
    let (tree_is, left_is, stop_is) = ran_parts ts left tree (Some s) e R is in
    R.same rest (same ∙ ap first (sym left_is)) ∙ ap (λ (o : Option Stop). (R.tree, reader o rest e)) stop_is

pub placing_unexpected : (ts left : List Placed) (tree : PlacingTree) (s : Stop) (e : ℕ) → AreTokens ts
    → placing most_levels (reader None ts e) ≡ (tree, reader (Some s) left e) → s.cause ≡ Unexpected → IsUnexpected ts left
placing_unexpected ts left tree s e tokens is flat = record {
  read = R.taken;
  whole = R.whole ∙ ap (λ l. R.taken ++ l) (ran_parts ts left tree (Some s) e R is).1;
  begun = let (begun, within) = begun_of most_levels ts e R tokens in (R.tree, R.more, begun, within);
  none_on = none_on;
  none_whole = none_whole;
}
  where
    R : Ran (placing most_levels) spelling IsGrammatical ts e
    R = ran ts e

    -- however many levels there may be
    still : (n : ℕ) → most_levels < n → (rest : List Placed) → first rest ≡ first left → placing n (reader None (R.taken ++ rest) e) ≡ (R.tree, reader (Some s) rest e)
    still n above rest same = wider (R.taken ++ rest) rest R.tree s e n above Unexpected flat (stopped ts left tree s e is rest same)

    none_on : (t : Placed) (rest : List Placed) → left ≡ t ∷ rest → Begins (R.taken ++ t ∷ []) → ⊥
    none_on t rest next (other, more, other_is) =
        let (n, above, within) = enough_for other in
        no_stop (other, reader None [] e) (R.tree, reader (Some s) (t ∷ more) e) s refl refl
        (sym (placing_read n ((R.taken ++ t ∷ []) ++ more) other e other_is within)
        ∙ ap (λ l. placing n (reader None l e)) (append_assoc R.taken (t ∷ []) more) ∙ still n above (t ∷ more) (ap first (sym next)))

    none_whole : left ≡ [] → (other : PlacingTree) → IsPlacing R.taken other → ⊥
    none_whole none other other_is =
        let (n, above, within) = enough_for other in
        no_stop (other, reader None [] e) (R.tree, reader (Some s) [] e) s refl refl
        (sym (placing_read n R.taken other e other_is within) ∙ ap (λ l. placing n (reader None l e)) (sym (append-nil R.taken)) ∙ still n above [] (ap first (sym none)))

pub placing_too_deep : (ts left : List Placed) (tree : PlacingTree) (s : Stop) (e : ℕ) → AreTokens ts
    → placing most_levels (reader None ts e) ≡ (tree, reader (Some s) left e) → s.cause ≡ TooDeep → IsTooDeep ts left
placing_too_deep ts left tree s e tokens is deep = record {
  read = R.taken;
  next = further.0;
  rest = further.1 ++ (placing 65 (reader None ts e)).1.rest;
  whole = R.whole ∙ ap (λ l. R.taken ++ l) left_is;
  next_is = further.2;
  begun = let (begun, within) = begun_of most_levels ts e R tokens in (R.tree, R.more, begun, within);
  goes_on = goes_on;
  none_within = none_within;
}
  where
    R : Ran (placing most_levels) spelling IsGrammatical ts e
    R = ran ts e

    left_is : R.left ≡ left
    left_is = (ran_parts ts left tree (Some s) e R is).1

    further : (t : Placed) × (c : List Placed) × (left ≡ t ∷ (c ++ (placing 65 (reader None ts e)).1.rest))
    further = wider ts left tree s e 65 (omega arith) TooDeep deep is

    goes_on : Begins (R.taken ++ further.0 ∷ [])
    goes_on =
        let Q = (lawful_placing most_levels 65 (omega arith)).wide.runs ts e in
        let (t, c, longer) = further in
        let rest_is : (placing 65 (reader None ts e)).1.rest ≡ Q.left = ap (λ (x : PlacingTree × Reader). x.1.rest) (ran_is Q) in
        let front : Q.taken ≡ R.taken ++ t ∷ c =
        append_cancel_right Q.taken (R.taken ++ t ∷ c) Q.left
        (sym Q.whole ∙ R.whole ∙ ap (λ l. R.taken ++ l) (left_is ∙ longer ∙ ap (λ l. t ∷ (c ++ l)) rest_is) ∙ sym (append_assoc R.taken (t ∷ c) Q.left)) in
        let (begun, within) = begun_of 65 ts e Q tokens in (
          Q.tree,
          c ++ Q.more,
          subst (λ (l : List Placed). IsPlacing l Q.tree)
              (ap (λ l. l ++ Q.more) front ∙ append_assoc R.taken (t ∷ c) Q.more ∙ sym (append_assoc R.taken (t ∷ []) (c ++ Q.more)))
              begun,
        )

    none_within : BeginsWithin (R.taken ++ further.0 ∷ []) → ⊥
    none_within (other, more, other_is, within) =
        let t = further.0 in
        no_stop (other, reader None [] e) (R.tree, reader (Some s) (t ∷ more) e) s refl refl
        (sym (placing_read most_levels ((R.taken ++ t ∷ []) ++ more) other e other_is within)
        ∙ ap (λ l. placing most_levels (reader None l e)) (append_assoc R.taken (t ∷ []) more) ∙ stopped ts left tree s e is (t ∷ more) (ap first (sym further.2)))
