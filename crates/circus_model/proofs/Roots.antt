-- The threads of the roots, one after another.
use Rattle.std.proofs.Common.{◌≡◌, ℕ, zero, suc, ◌+◌, List, [], ◌∷◌, true, false, Vec, Global, refl, add-one, length, ap, sym, ◌∙◌, drop}
use Rattle.std.specs.Prelude.{map, fold}
use Rattle.std.proofs.lemmas.List.{length-map}
use Rattle.std.proofs.lemmas.Option.{same_Some}
use Rattle.circus_model.specs.declared.history.Run.{Run}
use Rattle.circus_model.specs.Behaviour.{Behaviour}
use Rattle.circus_model.specs.Agree.{IsAt}
use Rattle.circus_model.specs.Execution.{thread_of, roots_from, join_runs, history_of}

-- the runs of a root's thread come behind those that are there
abbrev pub and_thread : List Behaviour → List (List Run) → ℕ → List (List Run)
and_thread program history root = join_runs history (thread_of program root).runs

pub begun : (program : List Behaviour) (history : List (List Run)) → history ≡ map (λ _. []) program → fold (and_thread program) history (roots_from 0 program) ≡ history_of program
unfolding history_of
begun program history none = ap (λ (h : List (List Run)). fold (and_thread program) h (roots_from 0 program)) none

pub one_each : (program : List Behaviour) (runs : List (Vec Run Global)) → map (λ runs. runs.items) runs ≡ map (λ _. []) program → length runs ≡ length program
one_each program runs none = sym (length-map runs (λ (r : Vec Run Global). r.items)) ∙ ap length none ∙ length-map program (λ (_ : Behaviour). [])

drop-at : (program : List Behaviour) (place : ℕ) (b : Behaviour) → IsAt program place b → drop place program ≡ b ∷ drop (suc place) program
drop-at [] place b at = cc
drop-at (d ∷ program) zero b at = ap (λ (x : Behaviour). x ∷ program) (same_Some d b at)
drop-at (d ∷ program) (suc place) b at = drop-at program place b at

by_root : (program : List Behaviour) (history : List (List Run)) (place : ℕ) (b : Behaviour) (rest : List Behaviour) → drop place program ≡ b ∷ rest → b.declared.root ≡ true
    → fold (and_thread program) (and_thread program history place) (roots_from (suc place) rest) ≡ fold (and_thread program) history (roots_from place (drop place program))
by_root program history place b rest is root = rw (is, root) refl

by_other : (program : List Behaviour) (history : List (List Run)) (place : ℕ) (b : Behaviour) (rest : List Behaviour) → drop place program ≡ b ∷ rest → b.declared.root ≡ false
    → fold (and_thread program) history (roots_from (suc place) rest) ≡ fold (and_thread program) history (roots_from place (drop place program))
by_other program history place b rest is root = rw (is, root) refl

-- a root adds its thread
pub root_adds : (program : List Behaviour) (history : List (List Run)) (place : ℕ) (b : Behaviour) → IsAt program place b → b.declared.root ≡ true
    → fold (and_thread program) (and_thread program history place) (roots_from (place + 1) (drop (place + 1) program)) ≡ fold (and_thread program) history (roots_from place (drop place program))
root_adds program history place b at root = rw (add-one place) (by_root program history place b (drop (suc place) program) (drop-at program place b at) root)

-- another module adds nothing
pub other_adds_nothing : (program : List Behaviour) (history : List (List Run)) (place : ℕ) (b : Behaviour) → IsAt program place b → b.declared.root ≡ false
    → fold (and_thread program) history (roots_from (place + 1) (drop (place + 1) program)) ≡ fold (and_thread program) history (roots_from place (drop place program))
other_adds_nothing program history place b at root = rw (add-one place) (by_other program history place b (drop (suc place) program) (drop-at program place b at) root)
