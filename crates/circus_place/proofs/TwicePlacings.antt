-- Placings at tokens that are the same up to a place.
use Rattle.std.proofs.Common.{◌≡◌, ℕ, Bool, true, false, List, [], ◌∷◌, ◌++◌, refl, sym, ap, subst, append-nil}
use Rattle.std.specs.Prelude.{None, codes}
use Rattle.std.specs.List.{flat_map}
use Rattle.circus_syntax.specs.declared.named.Named.{Named}
use Rattle.circus_syntax.specs.declared.named.Numeral.{Numeral}
use Rattle.circus_syntax.specs.Placed.{Placed, word, sign, digits, is_lexeme}
use Rattle.circus_syntax.specs.Reader.{Reader}
use Rattle.circus_syntax.specs.Reading.{filled_name, filled_numeral}
use Rattle.circus_syntax.specs.Filling.{as_number, as_names}
use Rattle.circus_syntax.specs.Stopping.{StandAt}
use Rattle.circus_syntax.proofs.Sound.{reader}
use Rattle.circus_syntax.proofs.Twice.{Blank, Twice, twice_both, twice_mapped, twice_fixed, twice_number, twice_optional}
use Rattle.circus_syntax.proofs.TwiceTypes.{unlike}
use Rattle.circus_place.specs.Written.{PlacingTree}
use Rattle.circus_place.specs.Filling.{as_machine, as_condition, as_present, as_placing}
use Rattle.circus_place.specs.Seen.Reading.{filled_condition, names_present, present_if_any, text_end, heading, member_count, placing_of_parts, placing}
use Rattle.circus_place.proofs.Placings.{PlacingParts}
use Rattle.circus_place.proofs.TwiceParts.{twice_own_names, twice_machines}
use Rattle.circus_place.proofs.TwiceConditions.{twice_condition}

abbrev pub as_heading : Unit {0} → List Bool
as_heading u = true ∷ true ∷ true ∷ []

twice_heading : (P : ℕ) → Twice P heading as_heading tt
unfolding heading
twice_heading P =
    twice_mapped P (λ x. tt) as_heading (λ x. refl)
    (twice_both P (twice_fixed P true (word (codes "PLACE"))) (twice_both P (twice_fixed P true (digits (codes "1"))) (twice_fixed P true (sign (codes ";")))))

abbrev pub as_members : Numeral → List Bool
as_members k = true ∷ (as_number k ++ true ∷ [])

twice_members : (P : ℕ) → Twice P member_count as_members (filled_numeral P)
unfolding member_count
twice_members P =
    twice_mapped P (λ x. x.1.0) as_members (λ x. refl)
    (twice_both P (twice_fixed P true (word (codes "MEMBERS"))) (twice_both P (twice_number P) (twice_fixed P true (word (codes "WHERE")))))

-- the names of PRESENT, where it is written
abbrev pub as_names_present : List Named → List Bool
as_names_present names = false ∷ (as_names names ++ true ∷ [])

pub twice_names_present : (P : ℕ) → Twice P names_present as_names_present (filled_name P ∷ [])
unfolding names_present
twice_names_present P =
    twice_mapped P (λ x. x.1.0) as_names_present (λ x. refl)
    (twice_both P (twice_fixed P false (word (codes "PRESENT"))) (twice_both P (twice_own_names P) (twice_fixed P true (sign (codes ";")))))

twice_present : (P : ℕ) → Twice P present_if_any as_present None
unfolding present_if_any
twice_present P = twice_optional P (is_lexeme (word (codes "PRESENT"))) as_present refl (λ x. refl) (λ x filled. unlike filled.0) (twice_names_present P)

-- nothing stands behind a placing
abbrev pub as_end : Unit {0} → List Bool
as_end u = []

pub twice_end : (P : ℕ) → Twice P text_end as_end tt
unfolding text_end
twice_end P = record {
  stays = record { still = λ s ts e. refl; ends = ends };
  blank = blank;
  agrees = λ t read more others left rest e x y runs. absurd (never t (read ++ more) left e x runs.one);
}
  where
    ends : (ts : List Placed) (e : ℕ) → (text_end (reader None ts e)).1.end ≡ e
    ends [] e = refl
    ends (t ∷ ts) e = refl

    never : (t : Placed) (ts left : List Placed) (e : ℕ) (x : Unit {0}) → text_end (reader None (t ∷ ts) e) ≡ (x, reader None left e) → ⊥
    never t ts left e x is = let stops = ap (λ (z : Unit {0} × Reader). z.1.stop) is in cc

    blank : Blank P text_end as_end tt
    blank [] left e x there is filled = (refl, subst (StandAt P) (ap (λ (z : Unit {0} × Reader). z.1.rest) is) tt)
    blank (t ∷ ts) left e x there is filled = absurd (never t ts left e x is)

pub placing_so : (x : PlacingParts) → as_placing (placing_of_parts x)
    ≡ as_heading x.0 ++ (flat_map as_machine x.1.0 ++ (as_members x.1.1.0 ++ (as_condition x.1.1.1.0 ++ (true ∷ (as_present x.1.1.1.1.1.0 ++ as_end x.1.1.1.1.1.1)))))
placing_so x =
    ap (λ l. as_heading x.0 ++ (flat_map as_machine x.1.0 ++ (as_members x.1.1.0 ++ (as_condition x.1.1.1.0 ++ (true ∷ l))))) (sym (append-nil (as_present x.1.1.1.1.1.0)))

pub filled_placing : ℕ → PlacingTree
filled_placing P = record { machines = []; members = filled_numeral P; condition = filled_condition P; present = None }

pub twice_placing : (P n : ℕ) → Twice P (placing n) as_placing (filled_placing P)
unfolding placing filled_placing
twice_placing P n =
    twice_mapped P placing_of_parts as_placing placing_so
    (twice_both P (twice_heading P) (twice_both P (twice_machines P) (twice_both P (twice_members P)
    (twice_both P (twice_condition P n) (twice_both P (twice_fixed P true (sign (codes ";"))) (twice_both P (twice_present P) (twice_end P)))))))
