-- A text is refused in one way.
use Rattle.std.proofs.Common.{◌≡◌, ℕ, zero, suc, inl, inr, true, false, ◌==◌, ◌||◌, ◌&&◌, nat_lt, List, ◌++◌, length, refl, sym, ap, subst, ◌∙◌, arith, Option, Some, None, Result, Ok, Err}
use Rattle.std.proofs.lemmas.Bool.Decides.{nat_tests}
use Rattle.circus_text.specs.declared.token.Token.{Token}
use Rattle.circus_text.specs.declared.lex_fault.LexFault.{LexFault}
use Rattle.circus_text.proofs.Divisions.{answer_one}
use Rattle.circus_text.specs.Lines.{line_of}
use Rattle.circus_syntax.specs.declared.stopping.Stop.{Stop}
use Rattle.circus_syntax.specs.Placed.{Placed}
use Rattle.circus_syntax.specs.Reader.{place_in}
use Rattle.circus_fault.specs.declared.fault.Fault.{Fault}
use Rattle.circus_fault.specs.Least.{IsLeast, faults_if}
use Rattle.circus_fault.specs.Stopping.{cause_of}
use Rattle.circus_place.specs.declared.place_fault.PlaceCause.{PlaceCause}
use Rattle.circus_place.specs.declared.place_fault.PlaceCause.TheVariants.{BadCharacter, OpenString, LongNumber, Syntax, Deep, UnknownName, Repeated, OutOfRange, TooLarge, TooMany}
use Rattle.circus_place.specs.declared.place_fault.PlaceFault.{PlaceFault}
use Rattle.circus_place.specs.declared.place_fault.PlaceFault.TheVariants.{Refused}
use Rattle.circus_place.specs.Written.{PlacingTree}
use Rattle.circus_place.specs.Rank.{rank_of}
use Rattle.circus_place.specs.Faults.{placing_faults, read_faults}
use Rattle.circus_place.specs.Stopping.{IsFilledIn}
use Rattle.circus_place.specs.ReadAs.{placed_tokens, lexical_answer, IsStopOf, IsTreeOf, IsLeastOf, IsRefused}
use Rattle.circus_place.proofs.Whole.{placing_one}
use Rattle.circus_place.proofs.ReadIs.{not_stopped}
use Rattle.circus_place.proofs.OneFilling.{one_filling}
use Rattle.circus_place.proofs.OneStop.{one_left, one_cause}

-- the cause of a rank
of_rank : ℕ → PlaceCause
of_rank zero = BadCharacter
of_rank (suc zero) = OpenString
of_rank (suc (suc zero)) = LongNumber
of_rank (suc (suc (suc zero))) = Syntax
of_rank (suc (suc (suc (suc zero)))) = Deep
of_rank (suc (suc (suc (suc (suc zero))))) = UnknownName
of_rank (suc (suc (suc (suc (suc (suc zero)))))) = Repeated
of_rank (suc (suc (suc (suc (suc (suc (suc zero))))))) = OutOfRange
of_rank (suc (suc (suc (suc (suc (suc (suc (suc zero)))))))) = TooLarge
of_rank (suc (suc (suc (suc (suc (suc (suc (suc (suc _))))))))) = TooMany

ranked : (c : PlaceCause) → of_rank (rank_of c) ≡ c
unfolding of_rank
ranked BadCharacter = refl
ranked OpenString = refl
ranked LongNumber = refl
ranked Syntax = refl
ranked Deep = refl
ranked UnknownName = refl
ranked Repeated = refl
ranked OutOfRange = refl
ranked TooLarge = refl
ranked TooMany = refl

-- neither is before the other
same_place : (p r q s : ℕ) → (nat_lt p q || ((p == q) && nat_lt r s)) ≡ false → (nat_lt q p || ((q == p) && nat_lt s r)) ≡ false → p ≡ q
same_place p r q s first then = grind (arith, nat_tests)

same_rank : (p r q s : ℕ) → (nat_lt p q || ((p == q) && nat_lt r s)) ≡ false → (nat_lt q p || ((q == p) && nat_lt s r)) ≡ false → r ≡ s
same_rank p r q s first then = grind (arith, nat_tests)

least_one : (fs : List (Fault PlaceCause)) (f g : Fault PlaceCause) → IsLeast rank_of f fs → IsLeast rank_of g fs → (f.place ≡ g.place) × (f.cause ≡ g.cause)
least_one fs f g first second =
    let over = second.first f first.found in
    let back = first.first g second.found in (
      same_place f.place (rank_of f.cause) g.place (rank_of g.cause) over back,
      sym (ranked f.cause) ∙ ap of_rank (same_rank f.place (rank_of f.cause) g.place (rank_of g.cause) over back) ∙ ranked g.cause,
    )

-- what is read of the same tokens has the same faults
faults_one : (ts : List Placed) (e : ℕ) (one other : Option Stop) (tree same : PlacingTree) → IsTreeOf ts e one tree → IsTreeOf ts e other same → read_faults one tree ≡ read_faults other same
faults_one ts e None None tree same (is, within) (so, also) = ap (read_faults None) (placing_one ts tree same is so)
faults_one ts e None (Some s) tree same (is, within) (left, filled, stands, stop) = absurd (not_stopped s.cause ts left tree is within stop)
faults_one ts e (Some s) None tree same (left, filled, stands, stop) (is, within) = absurd (not_stopped s.cause ts left same is within stop)
faults_one ts e (Some s) (Some t) tree same (left, filled, stands, stop) (right, also, there, again) =
    let lefts = one_left s.cause t.cause ts left right stop again in
    let places : s.place ≡ t.place = stands ∙ ap (λ l. place_in l e) lefts ∙ sym there in
    let causes = one_cause s.cause t.cause ts right (subst (λ l. IsStopOf s.cause ts l) lefts stop) again in
    let trees = one_filling ts right t.place tree same (subst (λ l. IsFilledIn ts l t.place tree) lefts (subst (λ p. IsFilledIn ts left p tree) places filled)) also in
    λ i. faults_if true (places i) (cause_of Syntax Deep (causes i)) ++ placing_faults (trees i)

-- of the same tokens
least_of_one : (text : List ℕ) (found : List Token) (a b : PlaceFault) → IsLeastOf text found a → IsLeastOf text found b → a ≡ b
least_of_one text found a b first second =
    let faults = faults_one (placed_tokens text found) (length text) first.stop second.stop first.tree second.tree first.tree_of second.tree_of in
    let again : IsLeast rank_of first.fault (read_faults second.stop second.tree) = subst (λ (fs : List (Fault PlaceCause)). IsLeast rank_of first.fault fs) faults first.least in
    let (place, cause) = least_one (read_faults second.stop second.tree) first.fault second.fault again second.least in
    first.given ∙ (λ i. Refused (line_of text (place i)) (cause i)) ∙ sym second.given

pub one_answer : (text : List ℕ) (a b : PlaceFault) → IsRefused text a → IsRefused text b → a ≡ b
one_answer text a b (inl (long, is)) (inl (too, so)) = is ∙ sym so
one_answer text a b (inl (long, is)) (inr (inl (short, other))) = absurd (omega (arith, long, short))
one_answer text a b (inl (long, is)) (inr (inr (short, other))) = absurd (omega (arith, long, short))
one_answer text a b (inr (inl (short, other))) (inl (long, is)) = absurd (omega (arith, long, short))
one_answer text a b (inr (inr (short, other))) (inl (long, is)) = absurd (omega (arith, long, short))
one_answer text a b (inr (inl (short, (fault, answers, is)))) (inr (inl (also, (another, again, so)))) =
    let same : ◌≡◌ {A = Result (List Token) LexFault} (Err fault) (Err another) = answer_one text (Err fault) (Err another) answers again in
    let faults : fault ≡ another = cc in
    is ∙ (λ i. lexical_answer text (faults i)) ∙ sym so
one_answer text a b (inr (inl (short, (fault, answers, is)))) (inr (inr (also, (found, tokens, least)))) =
    let same : ◌≡◌ {A = Result (List Token) LexFault} (Err fault) (Ok found) = answer_one text (Err fault) (Ok found) answers tokens in
    absurd (cc)
one_answer text a b (inr (inr (short, (found, tokens, least)))) (inr (inl (also, (fault, answers, so)))) =
    let same : ◌≡◌ {A = Result (List Token) LexFault} (Err fault) (Ok found) = answer_one text (Err fault) (Ok found) answers tokens in
    absurd (cc)
one_answer text a b (inr (inr (short, (found, tokens, least)))) (inr (inr (also, (again, others, lesser)))) =
    let same : ◌≡◌ {A = Result (List Token) LexFault} (Ok found) (Ok again) = answer_one text (Ok found) (Ok again) tokens others in
    let founds : found ≡ again = cc in
    least_of_one text again a b (subst (λ (ts : List Token). IsLeastOf text ts a) founds least) lesser
