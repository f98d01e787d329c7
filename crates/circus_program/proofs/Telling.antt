-- Which words ask for records, and which for lines.
use Rattle.std.proofs.Common.{◌≡◌, ℕ, Bool, true, false, List, [], ◌∷◌, refl, sym, ap, ◌∙◌, codes}
use Rattle.std.specs.Prelude.{bytes_eq, ◌||◌}
use Rattle.circus_program.specs.Form.{CommandForm, stubs, run, replay, picture, node, sample, draw, settle, place, audit, words_of, IsOfForm}
use Rattle.circus_program.specs.Worlds.{IsSimulation, TellsRecords, AskToSimulate, AskForRecords}

-- the words ask for lines
unfoldable pub lists : List (List ℕ) → Bool
lists [] = false
lists (command ∷ _) = bytes_eq command (codes "lines")

pub lists_lines : (program : List ℕ) (seed steps : ℕ) → lists (words_of (draw program seed steps)) ≡ true
unfolding lists
lists_lines program seed steps = refl

-- the words ask for records
unfoldable tells : List (List ℕ) → Bool
tells [] = false
tells (command ∷ _) = bytes_eq command (codes "replay") || (bytes_eq command (codes "sample") || bytes_eq command (codes "settle"))

telling : (form : CommandForm) → TellsRecords form → tells (words_of form) ≡ true
unfolding tells
telling (replay _ _) own = refl
telling (sample _ _ _) own = refl
telling (settle _ _) own = refl
telling (picture _ _) own = absurd own
telling (draw _ _ _) own = absurd own
telling (stubs _) own = absurd own
telling (run _) own = absurd own
telling (node _ _ _) own = absurd own
telling (place _) own = absurd own
telling (audit _ _) own = absurd own

told : (form : CommandForm) → tells (words_of form) ≡ true → TellsRecords form
unfolding tells
told (replay _ _) is = tt
told (sample _ _ _) is = tt
told (settle _ _) is = tt
told (picture _ _) is = absurd (let clash : false ≡ true = is in cc)
told (draw _ _ _) is = absurd (let clash : false ≡ true = is in cc)
told (stubs _) is = absurd (let clash : false ≡ true = is in cc)
told (run _) is = absurd (let clash : false ≡ true = is in cc)
told (node _ _ _) is = absurd (let clash : false ≡ true = is in cc)
told (place _) is = absurd (let clash : false ≡ true = is in cc)
told (audit _ _) is = absurd (let clash : false ≡ true = is in cc)

-- so they are of no form that tells none
pub no_records : {X : Type 0} (words : List (List ℕ)) (form : CommandForm) → AskForRecords words → IsOfForm words form → (TellsRecords form → ⊥) → X
no_records words form (other, of, own) also none = absurd (none (told form (ap tells (sym also.spelled ∙ of.spelled) ∙ telling other own)))

-- what tells records simulates
simulates_form : (form : CommandForm) → TellsRecords form → IsSimulation form
simulates_form (replay _ _) own = tt
simulates_form (sample _ _ _) own = tt
simulates_form (settle _ _) own = tt
simulates_form (picture _ _) own = absurd own
simulates_form (draw _ _ _) own = absurd own
simulates_form (stubs _) own = absurd own
simulates_form (run _) own = absurd own
simulates_form (node _ _ _) own = absurd own
simulates_form (place _) own = absurd own
simulates_form (audit _ _) own = absurd own

pub records_simulate : (words : List (List ℕ)) → AskForRecords words → AskToSimulate words
records_simulate words (form, of, own) = (form, of, simulates_form form own)
