-- The lines of members that are added, one by one.
use Rattle.std.proofs.Common.{◌≡◌, ℕ, ◌+◌, ◌<◌, List, ◌∷◌, ◌++◌, length, drop, get_or, Some, inl, inr, refl, sym, ap, ◌∙◌, append_assoc, add-one, drop-cons, arith}
use Rattle.std.specs.Prelude.{slice_get}
use Rattle.std.proofs.lemmas.Option.{slice_get_cases, slice_get_read, slice_get_within, get_or_from_slice_get}
use Rattle.circus_collate.specs.declared.deployment.Host.{Host}
use Rattle.circus_record.specs.Naming.{Names}
use Rattle.circus_world.specs.WorldState.{Standing}
use Rattle.circus_report.specs.Report.{member_at, members_lines}

-- what stands at a place, and then the others
from_here : {A : Type 0} (xs : List A) (i : ℕ) (x : A) → slice_get xs i ≡ Some x → drop i xs ≡ x ∷ drop (i + 1) xs
from_here xs i x at =
    let below : i < length xs = slice_get_within xs i x at in
    let split : drop i xs ≡ get_or xs i x ∷ drop (i + 1) xs = rw add-one (drop-cons xs i x below) in
    split ∙ ap (λ y. y ∷ drop (i + 1) xs) (get_or_from_slice_get xs i x x at)

module _ {M : Type 0} where
  -- the lines of the first member that is left, and then those of the others
  pub member_first : (names : Names) (n : ℕ) (hosts : List Host) (nodes : List (Standing M)) (host : Host) → n < length hosts → host ≡ get_or hosts n host
      → (s : Standing M) → slice_get nodes n ≡ Some s
      → members_lines names n (drop n hosts) (drop n nodes) ≡ member_at names n host s ++ members_lines names (n + 1) (drop (n + 1) hosts) (drop (n + 1) nodes)
  member_first names n hosts nodes host below is s there =
      ap (λ hs. members_lines names n hs (drop n nodes)) (from_here hosts n host (slice_get_read hosts (length hosts) n host refl below is))
      ∙ ap (members_lines names n (host ∷ drop (n + 1) hosts)) (from_here nodes n s there)

  -- where a member's lines are added, those that are left go on from the next node
  pub member_added : (names : Names) (text next whole : List ℕ) (n : ℕ) (hosts : List Host) (nodes : List (Standing M)) (host : Host)
      → n < length hosts → host ≡ get_or hosts n host → n < length nodes
      → text ++ members_lines names n (drop n hosts) (drop n nodes) ≡ whole
      → ((s : Standing M) → slice_get nodes n ≡ Some s → next ≡ text ++ member_at names n host s)
      → next ++ members_lines names (n + 1) (drop (n + 1) hosts) (drop (n + 1) nodes) ≡ whole
  member_added names text next whole n hosts nodes host below is within so_far added =
      elim (slice_get_cases nodes n).1 [
        | inl there ↦
            let s = there.0 in
            let rest = members_lines names (n + 1) (drop (n + 1) hosts) (drop (n + 1) nodes) in
            ap (λ l. l ++ rest) (added s there.2)
            ∙ append_assoc text (member_at names n host s) rest
            ∙ sym (ap (λ l. text ++ l) (member_first names n hosts nodes host below is s there.2))
            ∙ so_far
        | inr past ↦ absurd (omega (arith, past.0, within))
      ]
