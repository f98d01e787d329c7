-- Placings: what is read is spelled, what is spelled is read, and no level too many is.
use Rattle.std.proofs.Common.{◌≡◌, ℕ, ◌<◌, false, List, [], ◌∷◌, ◌++◌, refl, sym, ap, subst, arith, append-nil}
use Rattle.std.specs.Prelude.{Option, Some, None, codes}
use Rattle.circus_text.specs.Token.{Lexeme}
use Rattle.circus_syntax.specs.declared.named.Named.{Named}
use Rattle.circus_syntax.specs.declared.named.Numeral.{Numeral}
use Rattle.circus_syntax.specs.declared.stopping.StopCause.TheVariants.{Unexpected}
use Rattle.circus_syntax.specs.Placed.{Placed, first, word, sign, digits, is_lexeme, Due, due, due_number, AreDue}
use Rattle.circus_syntax.specs.Reader.{passes, stop_at}
use Rattle.circus_syntax.specs.Spelling.{each, if_written, spelling_names, IsListed, IfWritten, IsNumeral}
use Rattle.circus_syntax.proofs.Sound.{Sound, Ran, reader, AreDue-none}
use Rattle.circus_syntax.proofs.Complete.{Any}
use Rattle.circus_syntax.proofs.Tokens.{Always, is_comma, opens_due}
use Rattle.circus_syntax.proofs.TypesRead.{is_dot}
use Rattle.circus_syntax.proofs.Widens.{calm_of}
use Rattle.circus_syntax.proofs.Levels.{Reaches, reaches_stop}
use Rattle.circus_syntax.proofs.Lawful.{Lawful, lawful_at, lawful_weaker, lawful_fixed, lawful_number, lawful_both, lawful_then, lawful_mapped, lawful_optional}
use Rattle.circus_place.specs.declared.text.MachineText.{MachineText}
use Rattle.circus_place.specs.Written.{Written}
use Rattle.circus_place.specs.Grammar.{spelling_machine, spelling_condition, spelling_present, spelling, IsOwnName, IsGrammatical}
use Rattle.circus_place.specs.Seen.Reading.{seen_comparison, names_present, present_if_any, text_end, heading, member_count, placing_of_parts, placing}
use Rattle.circus_place.proofs.Ways.{due_is}
use Rattle.circus_place.proofs.Parts.{NoMachine, lawful_own_names, lawful_machines}
use Rattle.circus_place.proofs.Conditions.{EndsOr, lawful_condition}

-- The heading, and how many members are asked for.

spelling_heading : Unit {0} → List Due
spelling_heading u = due (word (codes "PLACE")) ∷ due (digits (codes "1")) ∷ due (sign (codes ";")) ∷ []

lawful_heading : (n : ℕ) → Lawful n heading heading spelling_heading Always Any
unfolding heading spelling_heading
lawful_heading n =
    lawful_mapped n (λ x. tt) spelling_heading Always (λ x. refl) (λ x g. tt) (λ u g. ((tt, (tt, tt)), refl, (tt, (tt, tt))))
    (lawful_then n (lawful_fixed n (word (codes "PLACE"))) (lawful_then n (lawful_fixed n (digits (codes "1"))) (lawful_fixed n (sign (codes ";")))))

spelling_asked : Numeral → List Due
spelling_asked k = due (word (codes "MEMBERS")) ∷ due_number k ∷ due (word (codes "WHERE")) ∷ []

lawful_asked : (n : ℕ) → Lawful n member_count member_count spelling_asked IsNumeral Any
unfolding member_count spelling_asked
lawful_asked n =
    lawful_mapped n (λ x. x.1.0) spelling_asked IsNumeral (λ x. refl) (λ x g. g.1.0) (λ k g. ((tt, (k, tt)), refl, (tt, (g, tt))))
    (lawful_then n (lawful_fixed n (word (codes "MEMBERS"))) (lawful_then n (lawful_number n) (lawful_fixed n (word (codes "WHERE")))))

-- Which machines members are present on.

lawful_present : (n : ℕ) → Lawful n names_present names_present spelling_present (IsListed IsOwnName) Any
unfolding names_present
lawful_present n =
    lawful_mapped n (λ x. x.1.0) spelling_present (IsListed IsOwnName) (λ x. refl) (λ x g. g.1.0) (λ ns g. ((tt, (ns, tt)), refl, (tt, (g, tt))))
    (lawful_then n (lawful_fixed n (word (codes "PRESENT")))
    (lawful_both n (lawful_own_names n) (lawful_fixed n (sign (codes ";"))) (λ u ts rest g d stays. due_is (passes is_comma) false (sign (codes ";")) [] ts rest (λ s. refl) d)))

abbrev present_word : Lexeme
present_word = word (codes "PRESENT")

-- Nothing stands behind a placing.

abbrev pub AtEnd : Option Placed → Type 0
AtEnd o = o ≡ None

abbrev Nothing : Unit {0} → List Due
Nothing u = []

ended_at : (t : Placed) (ts rest : List Placed) (e : ℕ) → first rest ≡ Some t → text_end (reader None rest e) ≡ (tt, reader (Some (stop_at Unexpected t.start)) rest e)
unfolding text_end
ended_at t ts [] e same = absurd (cc)
ended_at t ts (u ∷ us) e same =
    let heads : u ≡ t = cc in
    λ i. (tt, reader (Some (stop_at Unexpected (heads i).start)) (u ∷ us) e)

ended_none : (rest : List Placed) (e : ℕ) → first rest ≡ None → text_end (reader None rest e) ≡ (tt, reader None rest e)
unfolding text_end
ended_none [] e none = refl
ended_none (t ∷ ts) e none = absurd (cc)

sound_ended : Sound text_end Nothing Always
unfolding text_end
sound_ended = record {
  fills = λ s e. record { tree = tt; more = []; stays = λ ts. refl; good = tt; due = tt; there = tt };
  runs = runs;
}
  where
    runs : (ts : List Placed) (e : ℕ) → Ran text_end Nothing Always ts e
    runs [] e = record { tree = tt; taken = []; left = []; stop = None; more = []; whole = refl; same = λ rest h. ended_none rest e h; ended = refl; good = λ a. tt; due = λ a. tt }
    runs (t ∷ ts) e = record {
      tree = tt;
      taken = [];
      left = t ∷ ts;
      stop = Some (stop_at Unexpected t.start);
      more = [];
      whole = refl;
      same = λ rest h. ended_at t ts rest e h;
      ended = (refl, tt);
      good = λ a. tt;
      due = λ a. tt;
    }

lawful_ended : (n : ℕ) → Lawful n text_end text_end Nothing Always AtEnd
unfolding text_end
lawful_ended n = record {
  narrow = sound_ended;
  wide = sound_ended;
  complete = record {
    reads = λ u ts rest e good d stays.
        subst (λ (us : List Placed). text_end (reader None (us ++ rest) e) ≡ (u, reader None rest e)) (sym (AreDue-none ts d)) (ended_none rest e stays);
  };
  levels = record { narrow = calm_of sound_ended; wide = calm_of sound_ended; filled = λ s ts e. refl; reaches = reaches };
}
  where
    reaches : (ts : List Placed) (e : ℕ) → Reaches n Nothing ts (text_end (reader None ts e)) (text_end (reader None ts e))
    reaches [] e = record { taken = []; whole = refl; fits = omega arith; full = λ none. refl; within = tt; further = refl }
    reaches (t ∷ ts) e = reaches_stop n Nothing (t ∷ ts) tt (stop_at Unexpected t.start) e refl

-- The whole.

abbrev EndsPresent : Option Placed → Type 0
EndsPresent o = passes (is_lexeme present_word) o ≡ false

no_present : (o : Option Placed) → AtEnd o → EndsPresent o
no_present o none = ap (passes (is_lexeme present_word)) none

present_or_end : (u : Unit {0}) (ts rest : List Placed) → AreDue (Nothing u) ts → AtEnd (first rest) → EndsPresent (first (ts ++ rest))
present_or_end u ts rest d none =
    subst (λ (us : List Placed). EndsPresent (first (us ++ rest))) (sym (AreDue-none ts d)) (no_present (first rest) none)

lawful_present_if_any : (n : ℕ) → Lawful n present_if_any present_if_any (if_written spelling_present) (IfWritten (IsListed IsOwnName)) EndsPresent
unfolding present_if_any
lawful_present_if_any n =
    lawful_weaker n EndsPresent (λ o h. (tt, h))
    (lawful_optional (is_lexeme present_word) n (λ ns ts rest g d. opens_due present_word (spelling_names ns ++ due (sign (codes ";")) ∷ []) ts rest d)
    (lawful_at (is_lexeme present_word) n (lawful_present n)))

abbrev pub PlacingParts : Type 0
PlacingParts = Unit {0} × (List MachineText × (Numeral × (Written × (Unit {0} × (Option (List Named) × Unit {0})))))

placing_spelled : (x : PlacingParts) → spelling (placing_of_parts x) ≡ spelling_heading x.0 ++ (each spelling_machine x.1.0
    ++ (spelling_asked x.1.1.0 ++ (spelling_condition x.1.1.1.0 ++ (due (sign (codes ";")) ∷ (if_written spelling_present x.1.1.1.1.1.0 ++ [])))))
unfolding spelling_heading spelling_asked
placing_spelled x =
    ap (λ ds. spelling_heading x.0 ++ (each spelling_machine x.1.0 ++ (spelling_asked x.1.1.0 ++ (spelling_condition x.1.1.1.0 ++ due (sign (codes ";")) ∷ ds)))) (sym (append-nil (if_written spelling_present x.1.1.1.1.1.0)))

asked_no_machine : (k : Numeral) (ds : List Due) (ts rest : List Placed) → AreDue (spelling_asked k ++ ds) ts → NoMachine (first (ts ++ rest))
unfolding spelling_asked
asked_no_machine k ds ts rest d = due_is (passes (is_lexeme (word (codes "MACHINE")))) false (word (codes "MEMBERS")) (due_number k ∷ due (word (codes "WHERE")) ∷ ds) ts rest (λ s. refl) d

semicolon_ends : (ds : List Due) (ts rest : List Placed) → AreDue (due (sign (codes ";")) ∷ ds) ts → EndsOr (first (ts ++ rest))
unfolding seen_comparison
semicolon_ends ds ts rest d = (
  (
    (due_is (passes is_dot) false (sign (codes ";")) ds ts rest (λ s. refl) d, due_is seen_comparison None (sign (codes ";")) ds ts rest (λ s. refl) d),
    due_is (passes (is_lexeme (word (codes "AND")))) false (sign (codes ";")) ds ts rest (λ s. refl) d,
  ),
  due_is (passes (is_lexeme (word (codes "OR")))) false (sign (codes ";")) ds ts rest (λ s. refl) d,
)

pub lawful_placing : (n m : ℕ) → n < m → Lawful n (placing n) (placing m) spelling IsGrammatical AtEnd
unfolding placing
lawful_placing n m less =
    lawful_mapped n placing_of_parts spelling IsGrammatical placing_spelled (λ x g. (g.1.0, g.1.1.0, g.1.1.1.0, g.1.1.1.1.1.0))
    (λ p g. ((tt, (p.machines, (p.members, (p.condition, (tt, (p.present, tt)))))), refl, (tt, (g.0, (g.1, (g.2, (tt, (g.3, tt))))))))
    (lawful_then n (lawful_heading n)
    (lawful_both n (lawful_machines n)
    (lawful_then n (lawful_asked n)
    (lawful_both n (lawful_condition n m less)
    (lawful_then n (lawful_fixed n (sign (codes ";")))
    (lawful_both n (lawful_present_if_any n) (lawful_ended n) (λ u ts rest g d none. present_or_end u ts rest d none)))
    (λ x ts rest g d none. semicolon_ends (if_written spelling_present x.1.0 ++ []) ts rest d)))
    (λ x ts rest g d none. asked_no_machine x.0 _ ts rest d)))
