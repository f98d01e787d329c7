-- What reading a program answers, and where it stops.
use Rattle.std.proofs.Common.{◌≡◌, ℕ, ◌+◌, List, [], ◌++◌, refl, arith, sym, ◌∙◌, ap, subst, append-nil}
use Rattle.std.specs.Prelude.{None}
use Rattle.circus_syntax.specs.Placed.{Placed, AreTokens, AreWithin}
use Rattle.circus_syntax.specs.Reader.{Reader}
use Rattle.circus_syntax.specs.Spelling.{most_levels}
use Rattle.circus_syntax.proofs.Opened.{within_more}
use Rattle.circus_syntax.proofs.Sound.{reader}
use Rattle.circus_expression.specs.Ending.{Are}
use Rattle.circus_expression.proofs.Ends.{enough, reads, read_whole}
use Rattle.circus_troupe.proofs.Whole.{ended_left}
use Rattle.circus_file.specs.WrittenProgram.{WrittenProgram, spelling_program, IsProgram}
use Rattle.circus_file.specs.ProgramReading.{heading, interfaces, modules, program}
use Rattle.circus_file.proofs.Programs.{programs_lawful}

-- with levels that are enough for the tree
read_within : (n : ℕ) (all : List Placed) (w : WrittenProgram) (e : ℕ) → Are spelling_program IsProgram all w → AreWithin n (spelling_program w) → program n (reader None all e) ≡ (w, reader None [] e)
read_within n all w e are within = ap (λ l. program n (reader None l e)) (sym (append-nil all)) ∙ reads programs_lawful n all [] w e are within refl

pub program_read : (all : List Placed) (w : WrittenProgram) (e : ℕ) → Are spelling_program IsProgram all w → AreWithin most_levels (spelling_program w) → program most_levels (reader None all e) ≡ (w, reader None [] e)
program_read = read_within most_levels

-- the deployment is read up to the last token
none_left : (n : ℕ) (r : Reader) (left : List Placed) (e : ℕ) (w : WrittenProgram) → program n r ≡ (w, reader None left e) → left ≡ []
unfolding program
none_left n r left e w is = ended_left (modules n (interfaces n (heading r).1).1).1 left e w.deployment (λ i. ((is i).0.deployment, (is i).1))

pub program_whole : (all left : List Placed) (w : WrittenProgram) (e : ℕ) → AreTokens all → program most_levels (reader None all e) ≡ (w, reader None left e)
    → (left ≡ []) × Are spelling_program IsProgram all w × AreWithin most_levels (spelling_program w)
program_whole all left w e tokens is =
    let (own, whole, are, within) = read_whole programs_lawful most_levels all left w e tokens is in
    let none = none_left most_levels (reader None all e) left e w is in
    (none, subst (λ (ts : List Placed). Are spelling_program IsProgram ts w) (sym (whole ∙ ap (λ l. own ++ l) none ∙ append-nil own)) are, within)

-- tokens have one tree
pub program_one : (all : List Placed) (w other : WrittenProgram) → Are spelling_program IsProgram all w → Are spelling_program IsProgram all other → w ≡ other
program_one all w other one two =
    let (j, within) = enough (spelling_program w) in
    let (k, inside) = enough (spelling_program other) in
    ap (λ (x : WrittenProgram × Reader). x.0)
    (sym (read_within (j + k) all w 0 one (within_more j (j + k) (omega arith) (spelling_program w) within)) ∙ read_within (j + k) all other 0 two (within_more k (j + k) (omega arith) (spelling_program other) inside))
