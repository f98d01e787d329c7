-- Placings: where reading stops in one, what stands behind the tokens that were read is filled in.
use Rattle.std.proofs.Common.{◌≡◌, ℕ, true, false, List, [], ◌∷◌, ◌++◌, refl, sym, ◌∙◌, subst}
use Rattle.std.specs.Prelude.{Some, None, codes}
use Rattle.std.proofs.lemmas.List.{append_cancel_right}
use Rattle.circus_syntax.specs.declared.stopping.Stop.{Stop}
use Rattle.circus_syntax.specs.Placed.{Placed, first, word, sign, digits, is_lexeme}
use Rattle.circus_syntax.specs.Reader.{passes}
use Rattle.circus_syntax.specs.Filling.{AllBehind}
use Rattle.circus_syntax.proofs.Sound.{reader}
use Rattle.circus_syntax.proofs.Fills.{Fills, FillsAt, Of, at_then, at_mapped, at_fixed, fills_both, fills_mapped, fills_fixed, fills_number, fills_optional, still_fixed}
use Rattle.circus_place.specs.Written.{PlacingTree}
use Rattle.circus_place.specs.Filling.{as_present, as_placing}
use Rattle.circus_place.specs.Seen.Reading.{names_present, present_if_any, text_end, heading, member_count, placing_of_parts, placing}
use Rattle.circus_place.proofs.TwicePlacings.{as_heading, as_members, as_names_present, twice_names_present, as_end, twice_end, placing_so}
use Rattle.circus_place.proofs.FillParts.{fills_own_names, fills_machines}
use Rattle.circus_place.proofs.FillConditions.{fills_condition}

fills_heading : Fills heading as_heading
unfolding heading
fills_heading =
    fills_mapped (λ x. tt) as_heading (λ x. refl)
    (fills_both (fills_fixed (word (codes "PLACE"))) (fills_both (fills_fixed (digits (codes "1"))) (fills_fixed (sign (codes ";")))))

fills_members : Fills member_count as_members
unfolding member_count
fills_members =
    fills_mapped (λ x. x.1.0) as_members (λ x. refl)
    (fills_both (fills_fixed (word (codes "MEMBERS"))) (fills_both fills_number (fills_fixed (word (codes "WHERE")))))

names_present_at : (ts : List Placed) → passes (is_lexeme (word (codes "PRESENT"))) (first ts) ≡ true → FillsAt names_present as_names_present ts
unfolding names_present
names_present_at ts hit =
    at_mapped (λ x. x.1.0) as_names_present (λ x. refl) ts
    (at_then (still_fixed (word (codes "PRESENT"))) ts (at_fixed false (word (codes "PRESENT")) ts hit) (fills_both fills_own_names (fills_fixed (sign (codes ";")))))

fills_present : Fills present_if_any as_present
unfolding present_if_any
fills_present = fills_optional (is_lexeme (word (codes "PRESENT"))) as_present refl (λ x. refl) (twice_names_present 0).stays names_present_at

fills_end : Fills text_end as_end
unfolding text_end
fills_end = record { stays = (twice_end 0).stays; stopped = record { all = λ s ts e. tt }; runs = λ ts. record { run = runs ts } }
  where
    runs : (ts : List Placed) (e : ℕ) → Of as_end ts (text_end (reader None ts e))
    runs [] e = ([], refl, refl)
    runs (t ∷ ts) e = ([], refl, tt)

fills_placing : (n : ℕ) → Fills (placing n) as_placing
unfolding placing
fills_placing n =
    fills_mapped placing_of_parts as_placing placing_so
    (fills_both fills_heading (fills_both fills_machines (fills_both fills_members
    (fills_both (fills_condition n) (fills_both (fills_fixed (sign (codes ";"))) (fills_both fills_present fills_end))))))

-- what was not read is filled in
pub placing_filled : (n : ℕ) (ts read left : List Placed) (tree : PlacingTree) (s : Stop) (e : ℕ) → placing n (reader None ts e) ≡ (tree, reader (Some s) left e) → ts ≡ read ++ left → AllBehind read (as_placing tree)
placing_filled n ts read left tree s e is whole =
    let (taken, parts, filled) : Of as_placing ts (tree, reader (Some s) left e) = subst (Of as_placing ts) is (((fills_placing n).runs ts).run e) in
    subst (λ l. AllBehind l (as_placing tree)) (append_cancel_right taken read left (sym parts ∙ whole)) filled
