-- A reader as its fields show it.
use Rattle.std.proofs.Common.{◌≡◌, ℕ, Bool, true, false, List, [], ◌∷◌, length, map, refl, ◌∙◌, ap, subst, drop}
use Rattle.std.specs.Prelude.{Option, Some, None, MatchOption, All}
use Rattle.std.proofs.lemmas.List.Elements.{All-head, All-tail, All-drop}
use Rattle.circus_text.specs.Token.{IsTokenIn, IsSpelling, bytes_of}
use Rattle.circus_syntax.specs.Read.{placed_from}
use Rattle.circus_text.specs.declared.token.Token.{Token}
use Rattle.circus_syntax.specs.declared.stopping.Stop.{Stop}
use Rattle.circus_syntax.specs.Placed.{Placed, placed_of, AreTokens}
use Rattle.circus_syntax.specs.Reader.{Reader, passes, next, sees}

-- what is known of the first token holds of the next one
pub match_next : {V : Type 0} (text : List ℕ) (left rest : List Token) (t : Token) (stop : Option Stop) (r : Reader) (test : Placed → Bool) (P : V → Placed → Type 0) (o : Option V)
    → record { rest = map (placed_of text) left; end = length text; stop = stop } ≡ r → stop ≡ None → left ≡ t ∷ rest
    → MatchOption o (test (placed_of text t) ≡ false) (λ v. (test (placed_of text t) ≡ true) × P v (placed_of text t))
    → MatchOption o (sees test r ≡ false) (λ v. (u : Placed) × (next r ≡ Some u) × (test u ≡ true) × P v u)
match_next {V} text left rest t stop r test P o view open_is first known = by_option o known
  where
    next_is : next r ≡ Some (placed_of text t)
    next_is = rw (← view, open_is, first) refl

    by_option : (p : Option V) → MatchOption p (test (placed_of text t) ≡ false) (λ v. (test (placed_of text t) ≡ true) × P v (placed_of text t))
        → MatchOption p (sees test r ≡ false) (λ v. (u : Placed) × (next r ≡ Some u) × (test u ≡ true) × P v u)
    by_option None known = ap (passes test) next_is ∙ known
    by_option (Some v) known = (placed_of text t, next_is, known.0, known.1)

-- the first token is the next one, as a token of the text
pub next_seen : (text : List ℕ) (left rest : List Token) (t : Token) (stop : Option Stop) (r : Reader) (bytes : List ℕ) → record { rest = map (placed_of text) left; end = length text; stop = stop } ≡ r → stop ≡ None → left ≡ t ∷ rest
    → bytes ≡ bytes_of text t → All (IsTokenIn text) left → (u : Placed) × (next r ≡ Some u) × (t.kind ≡ u.kind) × (bytes ≡ u.bytes) × IsSpelling u.kind u.bytes
next_seen text left rest t stop r bytes view open_is first bytes_are each =
    (placed_of text t, rw (← view, open_is, first) refl, refl, bytes_are, (All-head (IsTokenIn text) t rest (subst (All (IsTokenIn text)) first each)).spelled)

each_token : (text : List ℕ) (ts : List Token) → All (IsTokenIn text) ts → AreTokens (map (placed_of text) ts)
each_token text [] each = tt
each_token text (t ∷ ts) each = ((All-head (IsTokenIn text) t ts each).spelled, each_token text ts (All-tail (IsTokenIn text) t ts each))

pub text_tokens : (text : List ℕ) (ts : List Token) (at : ℕ) → All (IsTokenIn text) ts → AreTokens (placed_from text ts at)
text_tokens text ts at each = each_token text (drop at ts) (All-drop (IsTokenIn text) at ts each)
