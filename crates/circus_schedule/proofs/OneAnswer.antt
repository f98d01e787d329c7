-- A text comes to one thing as a schedule.
use Rattle.std.proofs.Common.{◌≡◌, ◌∙◌, ◌+◌, ◌≤◌, ◌++◌, ◌⊎◌, ℕ, cond, List, [], ◌∷◌, Option, Some, None, Result, Ok, Err, length, ap, refl, sym, subst, inl, inr, arith}
use Rattle.std.specs.Prelude.{option_map, option_and_then, is_none}
use Rattle.std.specs.List.{AllZip}
use Rattle.std.proofs.lemmas.List.{length-append}
use Rattle.circus_schedule.specs.WrittenLine.{WrittenLine, deliver, tick, crash, down, join}
use Rattle.circus_schedule.specs.TextLines.{lines_of}
use Rattle.circus_schedule.specs.Meaning.{Numbers, names_in, first_unknown, line_of, IsReadAs}
use Rattle.circus_schedule.specs.Answer.{most_lines, HasFault, AreReadAs, IsFirstFault, IsAnswer}
use Rattle.circus_schedule.specs.declared.line.Line.{Line}
use Rattle.circus_schedule.specs.declared.line.Line.TheVariants.{Tick, Crash, Down, Join}
use Rattle.circus_schedule.specs.declared.schedule_fault.ScheduleFault.{ScheduleFault}
use Rattle.circus_schedule.specs.declared.schedule_fault.ScheduleFault.TheVariants.{BadLine, UnknownNode, TooManyLines, NoMemory}
use Rattle.circus_schedule.proofs.Spelled.{Spells-one}

one_known : (number : Option ℕ) (f : ℕ → Line) (name : List ℕ) (line : Line) → option_map f number ≡ Some line → cond (is_none number) (Some name) None ≡ None
one_known (Some n) f name line is = refl
one_known None f name line is = cc

two_known : (first second : Option ℕ) (f : ℕ → ℕ → Line) (name other : List ℕ) (line : Line) → option_and_then (λ a. option_map (f a) second) first ≡ Some line → cond (is_none first) (Some name) (cond (is_none second) (Some other) None) ≡ None
two_known (Some m) (Some n) f name other line is = refl
two_known (Some m) None f name other line is = cc
two_known None second f name other line is = cc

-- a line that stands for one has no name that no node has
all_known : (numbers : Numbers) (written : WrittenLine) (line : Line) → line_of numbers written ≡ Some line → first_unknown numbers (names_in written) ≡ None
all_known numbers (deliver number) line is = refl
all_known numbers (tick node) line is = one_known (numbers node) Tick node line is
all_known numbers (crash node) line is = one_known (numbers node) Crash node line is
all_known numbers (down node told) line is = two_known (numbers node) (numbers told) Down node told line is
all_known numbers (join node) line is = one_known (numbers node) Join node line is

one_reading : (numbers : Numbers) (text : List ℕ) (a b : Line) → IsReadAs numbers text a → IsReadAs numbers text b → a ≡ b
one_reading numbers text a b first second =
    let same = Spells-one text first.0 second.0 first.1 second.1 in
    let both : Some a ≡ Some b = sym first.2 ∙ ap (line_of numbers) same ∙ second.2 in
    cc

-- what is read has no fault
no_fault : (numbers : Numbers) (number : ℕ) (text : List ℕ) (line : Line) (fault : ScheduleFault) → number ≤ most_lines → IsReadAs numbers text line → HasFault numbers number text fault → ⊥
no_fault numbers number text line (BadLine at) few read faulty = faulty.2 read.0 read.1
no_fault numbers number text line (UnknownNode at name) few read faulty =
    let unknown = faulty.2 in
    let same = Spells-one text read.0 unknown.0 read.1 unknown.1 in
    let none : Some name ≡ None = sym unknown.2 ∙ ap (λ (w : WrittenLine). first_unknown numbers (names_in w)) (sym same) ∙ all_known numbers read.0 line read.2 in
    cc
no_fault numbers number text line (TooManyLines at) few read faulty = omega (arith, few, faulty.1)
no_fault numbers number text line NoMemory few read faulty = faulty

-- a line has one fault
one_fault : (numbers : Numbers) (number : ℕ) (text : List ℕ) (f g : ScheduleFault) → HasFault numbers number text f → HasFault numbers number text g → f ≡ g
one_fault numbers number text (BadLine at) (BadLine other) first second = ap BadLine (first.0 ∙ sym second.0)
one_fault numbers number text (BadLine at) (UnknownNode other name) first second = absurd (first.2 second.2.0 second.2.1)
one_fault numbers number text (BadLine at) (TooManyLines other) first second = absurd (omega (arith, first.1, second.1))
one_fault numbers number text (BadLine at) NoMemory first second = absurd second
one_fault numbers number text (UnknownNode at name) (BadLine other) first second = absurd (second.2 first.2.0 first.2.1)
one_fault numbers number text (UnknownNode at name) (UnknownNode other called) first second =
    let one = first.2 in
    let two = second.2 in
    let same = Spells-one text one.0 two.0 one.1 two.1 in
    let names : Some name ≡ Some called = sym one.2 ∙ ap (λ (w : WrittenLine). first_unknown numbers (names_in w)) same ∙ two.2 in
    let lines : at ≡ other = first.0 ∙ sym second.0 in
    let named : name ≡ called = cc in
    λ i. UnknownNode (lines i) (named i)
one_fault numbers number text (UnknownNode at name) (TooManyLines other) first second = absurd (omega (arith, first.1, second.1))
one_fault numbers number text (UnknownNode at name) NoMemory first second = absurd second
one_fault numbers number text (TooManyLines at) (BadLine other) first second = absurd (omega (arith, first.1, second.1))
one_fault numbers number text (TooManyLines at) (UnknownNode other name) first second = absurd (omega (arith, first.1, second.1))
one_fault numbers number text (TooManyLines at) (TooManyLines other) first second = ap TooManyLines (first.0 ∙ sym second.0)
one_fault numbers number text (TooManyLines at) NoMemory first second = absurd second
one_fault numbers number text NoMemory g first second = absurd first

-- two lines of one list: they are one, or one stands before the other
abbrev TwoCuts : List (List ℕ) → List (List ℕ) → List ℕ → List ℕ → Type 0
TwoCuts a b x y = ((a ≡ b) × (x ≡ y)) ⊎ (((m : List (List ℕ)) × (b ≡ a ++ x ∷ m)) ⊎ ((m : List (List ℕ)) × (a ≡ b ++ y ∷ m)))

longer_cuts : (t : List ℕ) (a b : List (List ℕ)) (x y : List ℕ) → TwoCuts a b x y → TwoCuts (t ∷ a) (t ∷ b) x y
longer_cuts t a b x y (inl same) = inl (ap (λ (l : List (List ℕ)). t ∷ l) same.0, same.1)
longer_cuts t a b x y (inr (inl m)) = inr (inl (m.0, ap (λ (l : List (List ℕ)). t ∷ l) m.1))
longer_cuts t a b x y (inr (inr m)) = inr (inr (m.0, ap (λ (l : List (List ℕ)). t ∷ l) m.1))

two_cuts : (a b : List (List ℕ)) (x y : List ℕ) (xs ys : List (List ℕ)) → a ++ x ∷ xs ≡ b ++ y ∷ ys → TwoCuts a b x y
two_cuts [] [] x y xs ys same = inl (refl, let all = same in cc)
two_cuts [] (c ∷ b) x y xs ys same =
    let here : c ≡ x = cc in
    inr (inl (b, ap (λ (l : List ℕ). l ∷ b) here))
two_cuts (c ∷ a) [] x y xs ys same =
    let here : c ≡ y = cc in
    inr (inr (a, ap (λ (l : List ℕ). l ∷ a) here))
two_cuts (c ∷ a) (d ∷ b) x y xs ys same =
    let here : c ≡ d = cc in
    let behind : a ++ x ∷ xs ≡ b ++ y ∷ ys = cc in
    subst (λ (l : List ℕ). TwoCuts (c ∷ a) (l ∷ b) x y) here (longer_cuts c a b x y (two_cuts a b x y xs ys behind))

read_at : (numbers : Numbers) (before : List (List ℕ)) (text : List ℕ) (after : List (List ℕ)) (lines : List Line) → AllZip (IsReadAs numbers) (before ++ text ∷ after) lines → (line : Line) × IsReadAs numbers text line
read_at numbers [] text after [] each = absurd each
read_at numbers [] text after (l ∷ lines) each = (l, each.0)
read_at numbers (t ∷ before) text after [] each = absurd each
read_at numbers (t ∷ before) text after (l ∷ lines) each = read_at numbers before text after lines each.1

-- lines that are read have no fault among them
none_faulty : (numbers : Numbers) (texts : List (List ℕ)) (lines : List Line) (before : List (List ℕ)) (text : List ℕ) (after : List (List ℕ)) (fault : ScheduleFault) → AreReadAs numbers texts lines → texts ≡ before ++ text ∷ after → HasFault numbers (length before + 1) text fault → ⊥
none_faulty numbers texts lines before text after fault good divided faulty =
    let there = read_at numbers before text after lines (subst (λ (l : List (List ℕ)). AllZip (IsReadAs numbers) l lines) divided good.each) in
    no_fault numbers (length before + 1) text there.0 fault (omega (arith, good.few, ap length divided, length-append before (text ∷ after))) there.1 faulty

same_lines : (numbers : Numbers) (texts : List (List ℕ)) (a b : List Line) → AllZip (IsReadAs numbers) texts a → AllZip (IsReadAs numbers) texts b → a ≡ b
same_lines numbers [] [] [] first second = refl
same_lines numbers [] [] (l ∷ b) first second = absurd second
same_lines numbers [] (l ∷ a) b first second = absurd first
same_lines numbers (t ∷ texts) [] b first second = absurd first
same_lines numbers (t ∷ texts) (l ∷ a) [] first second = absurd second
same_lines numbers (t ∷ texts) (l ∷ a) (k ∷ b) first second =
    let here = one_reading numbers t l k first.0 second.0 in
    let behind = same_lines numbers texts a b first.1 second.1 in
    λ i. here i ∷ behind i

same_fault : (numbers : Numbers) (texts : List (List ℕ)) (f g : ScheduleFault) → IsFirstFault numbers texts f → IsFirstFault numbers texts g → f ≡ g
same_fault numbers texts f g first second =
    elim (two_cuts first.before second.before first.text second.text first.after second.after (sym first.divided ∙ second.divided)) [
      | inl same ↦
          one_fault numbers (length first.before + 1) first.text f g first.faulty
          (subst (λ (t : List ℕ). HasFault numbers (length first.before + 1) t g) (sym same.1)
          (subst (λ (l : List (List ℕ)). HasFault numbers (length l + 1) second.text g) (sym same.0) second.faulty))
      | inr apart ↦ elim apart [
        | inl m ↦ absurd (none_faulty numbers second.before second.lines first.before first.text m.0 f second.good m.1 first.faulty)
        | inr m ↦ absurd (none_faulty numbers first.before first.lines second.before second.text m.0 g first.good m.1 second.faulty)
      ]
    ]

pub IsAnswer-one : (numbers : Numbers) (text : List ℕ) (a b : Result (List Line) ScheduleFault) → IsAnswer numbers text a → IsAnswer numbers text b → a ≡ b
IsAnswer-one numbers text (Ok a) (Ok b) first second = ap Ok (same_lines numbers (lines_of text) a b first.each second.each)
IsAnswer-one numbers text (Ok a) (Err g) first second = absurd (none_faulty numbers (lines_of text) a second.before second.text second.after g first second.divided second.faulty)
IsAnswer-one numbers text (Err f) (Ok b) first second = absurd (none_faulty numbers (lines_of text) b first.before first.text first.after f second first.divided first.faulty)
IsAnswer-one numbers text (Err f) (Err g) first second = ap Err (same_fault numbers (lines_of text) f g first second)
