-- What is read of a text, accepted or refused.
use Rattle.std.proofs.Common.{◌≡◌, ℕ, ◌≤◌, ◌⊎◌, inl, inr, List, [], ◌∷◌, ◌++◌, length, refl, sym, ◌∙◌, ap, subst, arith, append_assoc, append-nil, Option, Some, None, Result, Ok, Err, IfOk, IfErr}
use Rattle.std.specs.Prelude.{All, Contains}
use Rattle.circus_text.specs.declared.token.Token.{Token}
use Rattle.circus_text.specs.declared.lex_fault.LexFault.{LexFault}
use Rattle.circus_text.specs.Form.{longest_text}
use Rattle.circus_text.specs.Token.{IsTokenIn}
use Rattle.circus_text.specs.Division.{AreTokensOf}
use Rattle.circus_text.proofs.Divisions.{answer_one}
use Rattle.circus_text.specs.Lines.{line_of}
use Rattle.circus_syntax.specs.declared.stopping.Stop.{Stop}
use Rattle.circus_syntax.specs.declared.stopping.StopCause.{StopCause}
use Rattle.circus_syntax.specs.declared.stopping.StopCause.TheVariants.{Unexpected, TooDeep}
use Rattle.circus_syntax.specs.Placed.{Placed, AreTokens}
use Rattle.circus_syntax.specs.Reader.{Reader, open_at}
use Rattle.circus_syntax.proofs.Viewed.{text_tokens}
use Rattle.circus_place.specs.declared.placing.Placing.{Placing}
use Rattle.circus_place.specs.Obeys.{Obeys}
use Rattle.circus_fault.specs.declared.fault.Fault.{Fault}
use Rattle.circus_fault.specs.Least.{least_from, IsLeast}
use Rattle.circus_fault.proofs.Items.{none_in, of_each}
use Rattle.circus_fault.proofs.LeastIs.{least_is, no_least}
use Rattle.circus_fault.proofs.Stopping.{no_stop}
use Rattle.circus_fault.specs.Stopping.{stop_faults}
use Rattle.circus_place.specs.declared.place_fault.PlaceCause.{PlaceCause}
use Rattle.circus_place.specs.declared.place_fault.PlaceCause.TheVariants.{Syntax, Deep}
use Rattle.circus_place.specs.declared.place_fault.PlaceFault.{PlaceFault}
use Rattle.circus_place.specs.declared.place_fault.PlaceFault.TheVariants.{Refused, NoMemory}
use Rattle.circus_place.specs.Written.{PlacingTree}
use Rattle.circus_place.specs.Grammar.{IsPlacing, IsWithin, most_levels}
use Rattle.circus_place.specs.Seen.Reading.{placing}
use Rattle.circus_place.specs.Stopping.{IsUnexpected, IsTooDeep}
use Rattle.circus_place.specs.Rank.{rank_of}
use Rattle.circus_place.specs.Faults.{placing_faults, read_faults}
use Rattle.circus_place.specs.Means.{Means}
use Rattle.circus_place.specs.ReadAs.{placed_tokens, IsReadAs, IsStopOf, IsTreeOf, IsLeastOf, IsRefused}
use Rattle.circus_place.proofs.Obeying.{meant_obeys}
use Rattle.circus_place.proofs.Whole.{of_text, placing_one, placing_whole, placing_filled_in, placing_unexpected, placing_too_deep}

stop_of : (ts left : List Placed) (tree : PlacingTree) (s : Stop) (e : ℕ) → AreTokens ts → placing most_levels (open_at ts e) ≡ (tree, record { rest = left; end = e; stop = Some s }) → (c : StopCause) → s.cause ≡ c → IsStopOf c ts left
stop_of ts left tree s e tokens is Unexpected flat = placing_unexpected ts left tree s e tokens is flat
stop_of ts left tree s e tokens is TooDeep deep = placing_too_deep ts left tree s e tokens is deep

tree_of : (ts left : List Placed) (tree : PlacingTree) (stop : Option Stop) (e : ℕ) → AreTokens ts → placing most_levels (open_at ts e) ≡ (tree, record { rest = left; end = e; stop = stop }) → IsTreeOf ts e stop tree
tree_of ts left tree None e tokens is = placing_whole ts left tree e tokens is
tree_of ts left tree (Some s) e tokens is = let (filled, stands) = placing_filled_in ts left tree s e tokens is in (left, filled, stands, stop_of ts left tree s e tokens is s.cause refl)

least_of : (text : List ℕ) (found : List Token) (tree : PlacingTree) (s : Reader) (f : Fault PlaceCause) (answer : PlaceFault) → All (IsTokenIn text) found
    → placing most_levels (open_at (placed_tokens text found) (length text)) ≡ (tree, s) → least_from rank_of None (read_faults s.stop tree) ≡ Some f → answer ≡ Refused (line_of text f.place) f.cause → IsLeastOf text found answer
least_of text found tree s f answer each is least given = record {
  tree = tree;
  stop = s.stop;
  tree_of = tree_of (placed_tokens text found) s.rest tree s.stop (length text) (text_tokens text found 0 each) (of_text (placed_tokens text found) tree s (length text) is);
  fault = f;
  least = least_is rank_of (read_faults s.stop tree) f least;
  given = given;
}

refused_as : (text : List ℕ) (found : List Token) (tree : PlacingTree) (s : Reader) (answer : PlaceFault) → All (IsTokenIn text) found → placing most_levels (open_at (placed_tokens text found) (length text)) ≡ (tree, s)
    → (answer ≡ NoMemory) ⊎ ((f : Fault PlaceCause) × (least_from rank_of None (read_faults s.stop tree) ≡ Some f) × (answer ≡ Refused (line_of text f.place) f.cause)) → (answer ≡ NoMemory) ⊎ IsLeastOf text found answer
refused_as text found tree s answer each is (inl no_memory) = inl no_memory
refused_as text found tree s answer each is (inr (f, least, given)) = inr (least_of text found tree s f answer each is least given)

-- what was read without a fault
pub clean : (stop : Option Stop) (tree : PlacingTree) → least_from rank_of None (read_faults stop tree) ≡ None → (stop ≡ None) × (placing_faults tree ≡ [])
clean stop tree none = let (going, rules) = none_in (stop_faults Syntax Deep stop) (placing_faults tree) (no_least rank_of (read_faults stop tree) none) in (no_stop Syntax Deep stop going, rules)

read_as : (text : List ℕ) (found : List Token) (tree : PlacingTree) (s : Reader) (p : Placing) → length text ≤ longest_text → AreTokensOf text found → All (IsTokenIn text) found
    → placing most_levels (open_at (placed_tokens text found) (length text)) ≡ (tree, s) → (s.stop ≡ None) × (placing_faults tree ≡ []) → Means tree p → IsReadAs text p
read_as text found tree s p short tokens each is none means =
    let whole = of_text (placed_tokens text found) tree s (length text) is ∙ ap (λ o. (tree, record { rest = s.rest; end = length text; stop = o })) none.0 in
    let (spelled, within) = placing_whole (placed_tokens text found) s.rest tree (length text) (text_tokens text found 0 each) whole in
    record { short = short; found = found; tokens = tokens; tree = tree; spelled = spelled; within = within; faultless = none.1; means = means }

-- A placing without a fault is not refused.

none_there : (f : Fault PlaceCause) → Contains [] f → ⊥
none_there f there = of_each (λ g. ⊥) [] f tt there

not_unexpected : (ts left : List Placed) (tree : PlacingTree) → IsPlacing ts tree → IsUnexpected ts left → ⊥
not_unexpected ts [] tree is u = u.none_whole refl tree (subst (λ l. IsPlacing l tree) (u.whole ∙ append-nil u.read) is)
not_unexpected ts (t ∷ rest) tree is u = u.none_on t rest refl (tree, rest, subst (λ l. IsPlacing l tree) (u.whole ∙ sym (append_assoc u.read (t ∷ []) rest)) is)

not_too_deep : (ts left : List Placed) (tree : PlacingTree) → IsPlacing ts tree → IsWithin most_levels tree → IsTooDeep ts left → ⊥
not_too_deep ts left tree is within d =
    d.none_within (tree, d.rest, subst (λ l. IsPlacing l tree) (d.whole ∙ ap (λ l. d.read ++ l) d.next_is ∙ sym (append_assoc d.read (d.next ∷ []) d.rest)) is, within)

pub not_stopped : (c : StopCause) (ts left : List Placed) (tree : PlacingTree) → IsPlacing ts tree → IsWithin most_levels tree → IsStopOf c ts left → ⊥
not_stopped Unexpected ts left tree is within stop = not_unexpected ts left tree is stop
not_stopped TooDeep ts left tree is within stop = not_too_deep ts left tree is within stop

no_least_of : (text : List ℕ) (found : List Token) (tree : PlacingTree) (answer : PlaceFault) → IsPlacing (placed_tokens text found) tree → IsWithin most_levels tree → placing_faults tree ≡ [] → IsLeastOf text found answer → ⊥
no_least_of text found tree answer is within none L = by_stop L.stop L.tree_of L.least
  where
    by_stop : (stop : Option Stop) → IsTreeOf (placed_tokens text found) (length text) stop L.tree → IsLeast rank_of L.fault (read_faults stop L.tree) → ⊥
    by_stop None of least = none_there L.fault (subst (λ fs. Contains fs L.fault) (ap placing_faults (placing_one (placed_tokens text found) L.tree tree of.0 is) ∙ none) least.found)
    by_stop (Some s) (left, filled, stands, stop) least = not_stopped s.cause (placed_tokens text found) left tree is within stop

none_refused : (text : List ℕ) (answer : PlaceFault) (found : List Token) (tree : PlacingTree) → length text ≤ longest_text → AreTokensOf text found → IsPlacing (placed_tokens text found) tree → IsWithin most_levels tree
    → placing_faults tree ≡ [] → (answer ≡ NoMemory) ⊎ IsRefused text answer → answer ≡ NoMemory
none_refused text answer found tree short tokens is within none (inl no_memory) = no_memory
none_refused text answer found tree short tokens is within none (inr (inl long)) = absurd (omega (arith, short, long.0))
none_refused text answer found tree short tokens is within none (inr (inr (inl (low, (fault, has, given))))) =
    absurd (let same : ◌≡◌ {A = Result (List Token) LexFault} (Ok found) (Err fault) = answer_one text (Ok found) (Err fault) tokens has in cc)
none_refused text answer found tree short tokens is within none (inr (inr (inr (low, (others, other_tokens, least))))) =
    let both : ◌≡◌ {A = Result (List Token) LexFault} (Ok others) (Ok found) = answer_one text (Ok others) (Ok found) other_tokens tokens in
    let same : others ≡ found = cc in
    absurd (no_least_of text found tree answer is within none (subst (λ f. IsLeastOf text f answer) same least))

-- so it is read wherever memory suffices
pub accepted : (text : List ℕ) (r : Result Placing PlaceFault) → IfErr r (λ e. (e ≡ NoMemory) ⊎ IsRefused text e) → (found : List Token) (tree : PlacingTree) → length text ≤ longest_text → AreTokensOf text found
    → IsPlacing (placed_tokens text found) tree → IsWithin most_levels tree → placing_faults tree ≡ [] → IfErr r (λ e. e ≡ NoMemory)
accepted text (Ok p) err found tree short tokens is within none = tt
accepted text (Err e) err found tree short tokens is within none = none_refused text e found tree short tokens is within none err

-- What is made of the tokens of a text, by its answer.
module _ (text : List ℕ) (found : List Token) (tree : PlacingTree) (s : Reader) (stop : Option Stop) (same : stop ≡ s.stop) where
  pub ok_read : (r : Result Placing PlaceFault) → length text ≤ longest_text → AreTokensOf text found → All (IsTokenIn text) found → placing most_levels (open_at (placed_tokens text found) (length text)) ≡ (tree, s)
      → IfOk r (λ p. (stop ≡ None) × (placing_faults tree ≡ [])) → IfOk r (λ p. Means tree p) → IfOk r (λ p. IsReadAs text p)
  ok_read (Ok p) short tokens each is none means = read_as text found tree s p short tokens each is (sym same ∙ none.0, none.1) means
  ok_read (Err e) short tokens each is none means = tt

  pub ok_obeys : (r : Result Placing PlaceFault) → IfOk r (λ p. (stop ≡ None) × (placing_faults tree ≡ [])) → IfOk r (λ p. Means tree p) → IfOk r (λ p. Obeys p)
  ok_obeys (Ok p) none means = meant_obeys tree p none.1 means
  ok_obeys (Err e) none means = tt

  pub err_read : (r : Result Placing PlaceFault) → All (IsTokenIn text) found → placing most_levels (open_at (placed_tokens text found) (length text)) ≡ (tree, s)
      → IfErr r (λ e. (e ≡ NoMemory) ⊎ ((f : Fault PlaceCause) × (least_from rank_of None (read_faults stop tree) ≡ Some f) × (e ≡ Refused (line_of text f.place) f.cause))) → IfErr r (λ e. (e ≡ NoMemory) ⊎ IsLeastOf text found e)
  err_read (Ok p) each is err = tt
  err_read (Err e) each is err =
      refused_as text found tree s e each is
      (subst (λ o. (e ≡ NoMemory) ⊎ ((f : Fault PlaceCause) × (least_from rank_of None (read_faults o tree) ≡ Some f) × (e ≡ Refused (line_of text f.place) f.cause))) same err)
