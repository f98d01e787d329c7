-- Tokens are read to one list of interfaces.
use Rattle.std.proofs.Common.{◌≡◌, ℕ, ◌+◌, Bool, true, false, List, [], ◌∷◌, ◌++◌, length, refl, sym, ◌∙◌, ap, subst, arith, append-nil, append_assoc}
use Rattle.std.specs.Prelude.{Option, Some, None, codes, slice_get}
use Rattle.std.specs.List.{flat_map}
use Rattle.std.proofs.lemmas.List.{append_cancel_right}
use Rattle.circus_syntax.specs.declared.stopping.Stop.{Stop}
use Rattle.circus_syntax.specs.InterfaceTree.{InterfaceTree}
use Rattle.circus_syntax.specs.Placed.{Placed, Due, first, AreWithin, word, sign, digits, is_lexeme, is_name}
use Rattle.circus_syntax.specs.Reader.{Reader, both, map_read}
use Rattle.circus_syntax.specs.Reading.{expect_token}
use Rattle.circus_syntax.specs.Stopping.{StandAt}
use Rattle.circus_syntax.specs.Standing.{apart, standings_of_interface}
use Rattle.circus_syntax.specs.Filling.{AllBehind, as_further}
use Rattle.circus_syntax.proofs.Opened.{within_more}
use Rattle.circus_syntax.proofs.Sound.{Sound, sound_both, reader, ran_is}
use Rattle.circus_syntax.proofs.InterfaceLevels.{shrinks_interface}
use Rattle.circus_syntax.proofs.Twice.{Still, Twice, Split, any, split, twice_both, twice_mapped, twice_never, twice_either, twice_repeated, twice_fixed}
use Rattle.circus_syntax.proofs.TwiceTypes.{unlike}
use Rattle.circus_syntax.proofs.TwiceInterfaces.{twice_further}
use Rattle.circus_syntax.proofs.Fills.{Fills, Of, FilledBy, at_fixed, at_mapped, fills_both, fills_mapped, fills_fixed, fills_either, fills_repeated, still_fixed}
use Rattle.circus_syntax.proofs.FillInterfaces.{interface_at}
use Rattle.circus_expression.specs.Ending.{Are}
use Rattle.circus_expression.proofs.Ends.{enough, reads}
use Rattle.circus_lang.specs.WrittenModule.{WrittenModule, spelling_module, IsModule}
use Rattle.circus_lang.proofs.Modules.{modules_lawful, shrinks_module}
use Rattle.circus_lang.specs.ModuleReading.{begins_module}
use Rattle.circus_troupe.specs.DeploymentSpelling.{spelling_deployment, IsDeploymentText}
use Rattle.circus_troupe.proofs.Deployments.{deployments_lawful}
use Rattle.circus_syntax.proofs.Repeats.{sound_repeated}
use Rattle.circus_syntax.specs.Spelling.{each, IsEach}
use Rattle.circus_troupe.specs.declared.deployment_text.DeploymentText.{DeploymentText}
use Rattle.circus_troupe.specs.DeploymentReading.{deployment}
use Rattle.circus_file.specs.declared.program_text.Format.{Format}
use Rattle.circus_file.specs.declared.program_text.Format.TheVariants.{One, Two}
use Rattle.circus_file.specs.ProgramReading.{format_number, heading, interfaces, modules, program}
use Rattle.circus_file.specs.WrittenProgram.{WrittenProgram, spelling_heading, spelling_program, IsProgram}
use Rattle.circus_file.proofs.Programs.{programs_lawful}
use Rattle.circus_file.proofs.Whole.{program_one}
use Rattle.circus_idl.specs.Faults.{cut_of}
use Rattle.circus_config.specs.Program.{as_format, as_interfaces, cut_at, IsStoppedIn, IsReadOf}
use Rattle.circus_config.proofs.OneStop.{one_stop, same_left}

-- ---- the heading

abbrev as_digit : Format → List Bool
as_digit One = true ∷ []
as_digit Two = false ∷ []

twice_format : (P : ℕ) → Twice P format_number as_digit One
unfolding format_number
twice_format P =
    twice_either P (is_lexeme (digits (codes "2")))
    (twice_never P (λ x. Two) as_digit One (λ x. refl) (λ x filled. unlike filled.0) (twice_fixed P false (digits (codes "2"))))
    (twice_mapped P (λ x. One) as_digit (λ x. refl) (twice_fixed P true (digits (codes "1"))))

format_so : (f : Format) → as_format f ≡ true ∷ (as_digit f ++ true ∷ [])
format_so One = refl
format_so Two = refl

twice_heading : (P : ℕ) → Twice P heading as_format One
unfolding heading
twice_heading P =
    twice_mapped P (λ x. x.1.0) as_format (λ x. format_so x.1.0)
    (twice_both P (twice_fixed P true (word (codes "CIRCUS"))) (twice_both P (twice_format P) (twice_fixed P true (sign (codes ";")))))

fills_format : Fills format_number as_digit
unfolding format_number
fills_format =
    fills_either (is_lexeme (digits (codes "2"))) still_two
    (λ ts hit. at_mapped (λ x. Two) as_digit (λ x. refl) ts (at_fixed false (digits (codes "2")) ts hit))
    (fills_mapped (λ x. One) as_digit (λ x. refl) (fills_fixed (digits (codes "1"))))
  where
    still_two : Still (map_read (λ x. Two) (expect_token (digits (codes "2"))))
    still_two = record { still = (still_fixed (digits (codes "2"))).still; ends = (still_fixed (digits (codes "2"))).ends }

fills_heading : Fills heading as_format
unfolding heading
fills_heading =
    fills_mapped (λ x. x.1.0) as_format (λ x. format_so x.1.0) (fills_both (fills_fixed (word (codes "CIRCUS"))) (fills_both fills_format (fills_fixed (sign (codes ";")))))

-- ---- the interfaces

twice_interfaces : (P n : ℕ) → Twice P (interfaces n) (flat_map as_further) []
unfolding interfaces
twice_interfaces P n = twice_repeated P is_name (shrinks_interface n) (λ i filled. unlike filled.0) (twice_further P n)

fills_interfaces : (n : ℕ) → Fills (interfaces n) (flat_map as_further)
unfolding interfaces
fills_interfaces n =
    fills_repeated is_name (shrinks_interface n) (twice_further 0 n).stays (twice_repeated 0 is_name (shrinks_interface n) (λ i filled. unlike filled.0) (twice_further 0 n)).stays (interface_at n)

-- heading and interfaces
abbrev pub Front : Type 0
Front = Format × List InterfaceTree

abbrev as_front : Front → List Bool
as_front x = as_format x.0 ++ flat_map as_further x.1

unfoldable pub front : ℕ → Reader → Front × Reader
front n = both heading (interfaces n)

twice_front : (P n : ℕ) → Twice P (front n) as_front (One, [])
unfolding front
twice_front P n = twice_both P (twice_heading P) (twice_interfaces P n)

fills_front : (n : ℕ) → Fills (front n) as_front
unfolding front
fills_front n = fills_both fills_heading (fills_interfaces n)

-- ---- what stands behind

abbrev pub Rest : Type 0
Rest = List WrittenModule × DeploymentText

abbrev pub spelling_rest : Rest → List Due
spelling_rest x = each spelling_module x.0 ++ spelling_deployment x.1

abbrev pub IsRest : Rest → Type 0
IsRest x = IsEach IsModule x.0 × IsDeploymentText x.1

unfoldable pub behind : ℕ → Reader → Rest × Reader
behind n = both (modules n) deployment

pub sound_behind : (n : ℕ) → Sound (behind n) spelling_rest IsRest
unfolding behind modules
sound_behind n =
    sound_both (sound_repeated begins_module (shrinks_module n) (modules_lawful n (n + 2) (omega arith)).narrow) (deployments_lawful n (n + 2) (omega arith)).narrow

pub still_behind : (n : ℕ) → Still (behind n)
still_behind n = record {
  still = λ s ts e. ap (λ (x : Rest × Reader). x.1) (((sound_behind n).fills s e).stays ts);
  ends = λ ts e. ap (λ (x : Rest × Reader). x.1.end) (ran_is ((sound_behind n).runs ts e));
}

-- a program by its front and what stands behind
pub program_is : (n : ℕ) (r s : Reader) (w : WrittenProgram) → program n r ≡ (w, s) → both (front n) (behind n) r ≡ (((w.format, w.interfaces), (w.modules, w.deployment)), s)
unfolding program front behind
program_is n r s w is = λ i. ((((is i).0.format, (is i).0.interfaces), ((is i).0.modules, (is i).0.deployment)), (is i).1)

-- ---- two readings

one_front : (read more others : List Placed) (at : ℕ) (w v : WrittenProgram) → Are spelling_program IsProgram (read ++ more) w → Are spelling_program IsProgram (read ++ others) v → StandAt at more → StandAt at others
    → AllBehind read (as_interfaces w) → AllBehind read (as_interfaces v) → ◌≡◌ {A = Front} (w.format, w.interfaces) (v.format, v.interfaces)
one_front read more others at w v one other there here filled too =
    let (j, within) = enough (spelling_program w) in
    let (k, inside) = enough (spelling_program v) in
    let n = j + k in
    let first = read_all n (read ++ more) w one (within_more j n (omega arith) (spelling_program w) within) in
    let second = read_all n (read ++ others) v other (within_more k n (omega arith) (spelling_program v) inside) in
    let S = parts n (read ++ more) w first in
    let T = parts n (read ++ others) v second in
    (any at (twice_front at n) read more others S.between T.between 0 (w.format, w.interfaces) (v.format, v.interfaces) (record {
      more_there = there;
      others_there = here;
      one = S.front;
      other = T.front;
      one_filled = filled;
      other_filled = too;
    })).0
  where
    read_all : (n : ℕ) (all : List Placed) (u : WrittenProgram) → Are spelling_program IsProgram all u → AreWithin n (spelling_program u) → program n (reader None all 0) ≡ (u, reader None [] 0)
    read_all n all u are within = ap (λ l. program n (reader None l 0)) (sym (append-nil all)) ∙ reads programs_lawful n all [] u 0 are within refl

    parts : (n : ℕ) (all : List Placed) (u : WrittenProgram) → program n (reader None all 0) ≡ (u, reader None [] 0) → Split (front n) (behind n) all [] 0 ((u.format, u.interfaces), (u.modules, u.deployment))
    parts n all u is = split (fills_front n).stays (still_behind n) all [] 0 ((u.format, u.interfaces), (u.modules, u.deployment)) (program_is n (reader None all 0) (reader None [] 0) u is)

-- two stops are one, and what was written before them has the same interfaces
alike : (ts : List Placed) (end : ℕ) (s t : Stop) (w v : WrittenProgram) → IsStoppedIn ts end s w → IsStoppedIn ts end t v → (s ≡ t) × (w.interfaces ≡ v.interfaces)
alike ts end s t w v first second =
    let same = same_left s.cause t.cause ts first.left second.left s.place t.place w v first.cause second.cause first.filled second.filled in
    let (places, causes) = one_stop ts end (Some s) (Some t) w v first second in
    let one = first.filled in
    let other = second.filled in
    let read : one.read ≡ other.read = append_cancel_right one.read other.read second.left (ap (λ l. one.read ++ l) (sym same) ∙ sym one.whole ∙ other.whole) in
    let fronts =
    one_front other.read one.more other.more t.place w v (subst (λ l. Are spelling_program IsProgram (l ++ one.more) w) read one.are) other.are
    (subst (λ p. StandAt p one.more) places one.there) other.there (subst (λ l. AllBehind l (as_interfaces w)) read first.interfaces) second.interfaces in
    let cuts : cut_of (Some s) ≡ cut_of (Some t) =
    first.cut ∙ (λ i. cut_at (slice_get (apart (spelling_heading (fronts i).0) ++ flat_map standings_of_interface (fronts i).1) (length (read i)))) ∙ sym second.cut in
    (λ i. record { place = places i; cause = causes i; within = (cuts i).within; list = (cuts i).list }, ap (λ (x : Front). x.1) fronts)

pub same_stop : (ts : List Placed) (end : ℕ) (one other : Option Stop) (w v : WrittenProgram) → IsReadOf ts end one w → IsReadOf ts end other v → one ≡ other
same_stop ts end None None w v first second = refl
same_stop ts end None (Some s) w v first second = absurd (one_stop ts end None (Some s) w v first second)
same_stop ts end (Some s) None w v first second = absurd (one_stop ts end (Some s) None w v first second)
same_stop ts end (Some s) (Some t) w v first second = ap (λ x. Some x) (alike ts end s t w v first second).0

-- what was written has the same interfaces
pub one_interfaces : (ts : List Placed) (end : ℕ) (one other : Option Stop) (w v : WrittenProgram) → IsReadOf ts end one w → IsReadOf ts end other v → w.interfaces ≡ v.interfaces
one_interfaces ts end None None w v (are, within) (also, inside) = ap (λ (u : WrittenProgram). u.interfaces) (program_one ts w v are also)
one_interfaces ts end None (Some s) w v first second = absurd (one_stop ts end None (Some s) w v first second)
one_interfaces ts end (Some s) None w v first second = absurd (one_stop ts end (Some s) None w v first second)
one_interfaces ts end (Some s) (Some t) w v first second = (alike ts end s t w v first second).1

-- ---- what reading fills in

behind_none : (own on : List Placed) (bs : List Bool) → length bs ≡ length own → AllBehind (own ++ on) bs
behind_none [] [] [] few = tt
behind_none [] (t ∷ on) [] few = tt
behind_none [] on (b ∷ bs) few = absurd (omega (arith, few))
behind_none (t ∷ own) on [] few = tt
behind_none (t ∷ own) on (b ∷ bs) few = behind_none own on bs (omega (arith, few))

pub interfaces_filled : (n : ℕ) (ts read left : List Placed) (w : WrittenProgram) (s : Stop) (e : ℕ) → program n (reader None ts e) ≡ (w, reader (Some s) left e) → ts ≡ read ++ left → AllBehind read (as_interfaces w)
interfaces_filled n ts read left w s e is whole = subst (λ x. AllBehind read (as_front x)) front_is (by_stop (front n (reader None ts e)).1.stop refl (((fills_front n).runs ts).run e))
  where
    both_is : both (front n) (behind n) (reader None ts e) ≡ (((w.format, w.interfaces), (w.modules, w.deployment)), reader (Some s) left e)
    both_is = program_is n (reader None ts e) (reader (Some s) left e) w is

    front_is : (front n (reader None ts e)).0 ≡ (w.format, w.interfaces)
    front_is = ap (λ (x : (Front × Rest) × Reader). x.0.0) both_is

    rest_is : (behind n (front n (reader None ts e)).1).1.rest ≡ left
    rest_is = ap (λ (x : (Front × Rest) × Reader). x.1.rest) both_is

    by_stop : (o : Option Stop) → (front n (reader None ts e)).1.stop ≡ o → Of as_front ts (front n (reader None ts e)) → AllBehind read (as_front (front n (reader None ts e)).0)
    by_stop None going (taken, parts, filled) =
        let r = (front n (reader None ts e)).1 in
        let few : length (as_front (front n (reader None ts e)).0) ≡ length taken = subst (λ o. FilledBy o taken (as_front (front n (reader None ts e)).0)) going filled in
        let is_reader : r ≡ reader None r.rest e = λ i. reader (going i) r.rest ((fills_front n).stays.ends ts e i) in
        let R = (sound_behind n).runs r.rest e in
        let left_is : R.left ≡ left = sym (ap (λ (x : Rest × Reader). x.1.rest) (ap (behind n) is_reader ∙ ran_is R)) ∙ rest_is in
        let read_is : read ≡ taken ++ R.taken =
        append_cancel_right read (taken ++ R.taken) left (sym whole ∙ parts ∙ ap (λ l. taken ++ l) (R.whole ∙ ap (λ l. R.taken ++ l) left_is) ∙ sym (append_assoc taken R.taken left)) in
        subst (λ l. AllBehind l (as_front (front n (reader None ts e)).0)) (sym read_is) (behind_none taken R.taken (as_front (front n (reader None ts e)).0) few)
    by_stop (Some t) halted (taken, parts, filled) =
        let r = (front n (reader None ts e)).1 in
        let so : AllBehind taken (as_front (front n (reader None ts e)).0) = subst (λ o. FilledBy o taken (as_front (front n (reader None ts e)).0)) halted filled in
        let is_reader : r ≡ reader (Some t) r.rest e = λ i. reader (halted i) r.rest ((fills_front n).stays.ends ts e i) in
        let left_is : r.rest ≡ left = sym (ap (λ (x : Rest × Reader). x.1.rest) (ap (behind n) is_reader) ∙ ap (λ (q : Reader). q.rest) ((still_behind n).still t r.rest e)) ∙ rest_is in
        subst (λ l. AllBehind l (as_front (front n (reader None ts e)).0)) (append_cancel_right taken read left (ap (λ l. taken ++ l) (sym left_is) ∙ sym parts ∙ whole)) so
