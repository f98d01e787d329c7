-- What the productions read of tokens is what the grammar says of them, but for a mark that changes no fault.
use Rattle.std.proofs.Common.{◌≡◌, ℕ, ◌+◌, List, [], ◌∷◌, ◌++◌, length, map, refl, sym, ◌∙◌, ap, subst, arith, append_assoc, length-append, Option, Some, None}
use Rattle.std.specs.Prelude.{slice_get}
use Rattle.std.specs.List.{flat_map}
use Rattle.std.proofs.lemmas.List.{append_cancel_right}
use Rattle.std.proofs.lemmas.Option.{slice_get_past}
use Rattle.circus_syntax.specs.declared.stopping.Stop.{Stop}
use Rattle.circus_syntax.specs.declared.stopping.StopCause.{StopCause}
use Rattle.circus_syntax.specs.declared.stopping.StopCause.TheVariants.{Unexpected, TooDeep}
use Rattle.circus_syntax.specs.InterfaceTree.{InterfaceTree}
use Rattle.circus_syntax.specs.Placed.{Placed, AreTokens, AreDue}
use Rattle.circus_syntax.specs.Reader.{Reader, open_at, place_in, both}
use Rattle.circus_syntax.specs.Spelling.{each, spelling, most_levels, IsEach}
use Rattle.circus_syntax.specs.Standing.{Standing, apart, standings_of_interface}
use Rattle.circus_syntax.proofs.Sound.{reader, ran_is, AreDue-split}
use Rattle.circus_expression.specs.Ending.{Are}
use Rattle.circus_expression.proofs.Ends.{unexpected, too_deep, filled_in}
use Rattle.circus_lang.specs.WrittenModule.{spelling_module}
use Rattle.circus_troupe.specs.DeploymentSpelling.{spelling_deployment}
use Rattle.circus_fault.specs.Known.{Known, nobody, add_name}
use Rattle.circus_fault.specs.Stopping.{stop_faults}
use Rattle.circus_idl.specs.Faults.{Cut, cut_of}
use Rattle.circus_file.specs.WrittenProgram.{WrittenProgram, spelling_heading, spelling_program, IsProgram}
use Rattle.circus_file.specs.ProgramReading.{program}
use Rattle.circus_file.proofs.Programs.{programs_lawful}
use Rattle.circus_file.proofs.Whole.{program_whole}
use Rattle.circus_config.specs.declared.program_fault.ProgramCause.TheVariants.{Syntax, Deep}
use Rattle.circus_config.specs.Told.{interface_told}
use Rattle.circus_config.specs.Reading.{name_faults, interfaces_faults, read_faults}
use Rattle.circus_config.specs.Program.{IsStopOf, standings_in, cut_at, IsReadOf}
use Rattle.circus_config.proofs.OneReading.{Front, Rest, front, behind, sound_behind, still_behind, program_is, interfaces_filled}
use Rattle.circus_config.proofs.Marks.{From, MarkFrom, MarksFrom}
use Rattle.circus_config.proofs.MarkModules.{keeps_behind_interfaces}
use Rattle.circus_config.proofs.CutFront.{due_many, front_many, CutBy, Of, cuts_front}
use Rattle.circus_config.proofs.Rising.{Rising, below_rest, from_rest, below_front}
use Rattle.circus_config.proofs.Below.{InterfaceBelow, Stand, back, interfaces_below}
use Rattle.circus_config.proofs.Unmarked.{interface_same}

-- ---- the faults without the mark

interfaces_same : (low : ℕ) (cut : Cut) → MarkFrom low cut.within → MarkFrom low cut.list → (earlier : Known) (number : ℕ) (is : List InterfaceTree) → IsEach (InterfaceBelow low) is
    → interfaces_faults cut earlier number is ≡ interfaces_faults (cut_of None) earlier number is
interfaces_same low cut within list earlier number [] below = refl
interfaces_same low cut within list earlier number (i ∷ is) below =
    λ k. name_faults earlier number i ++ map interface_told (interface_same low cut within list i below.0 k) ++ interfaces_same low cut within list (add_name i.name.name number earlier) (number + 1) is below.1 k

-- what was read of a program that begins with these tokens cuts this
abbrev cut_in : WrittenProgram → List Placed → Cut
cut_in w read = cut_at (slice_get (standings_in w) (length read))

abbrev stand : Front → List Standing
stand x = apart (spelling_heading x.0) ++ flat_map standings_of_interface x.1

-- a stop behind the interfaces has a mark behind them
behind_them : (ts taken rest read more on : List Placed) (w : WrittenProgram) (s : Stop) (e : ℕ) → Rising ts e → ts ≡ taken ++ rest → read ≡ taken ++ on → length (standings_in w) ≡ length taken
    → Are spelling_program IsProgram (read ++ more) w → MarksFrom (place_in rest e) (Some s)
    → interfaces_faults (cut_of (Some s)) nobody 0 w.interfaces ≡ interfaces_faults (cut_in w read) nobody 0 w.interfaces
unfolding Stand
behind_them ts taken rest read more on w s e rises whole read_is few are marks =
    let low = place_in rest e in
    let heading = spelling_heading w.format in
    let inner = each spelling w.interfaces in
    let further = each spelling_module w.modules ++ spelling_deployment w.deployment in
    let (fs, bs, parted, due, _) = AreDue-split (heading ++ inner) further (read ++ more) (subst (λ ds. AreDue ds (read ++ more)) (sym (append_assoc heading inner further)) are.spelled) in
    let many : length fs ≡ length taken = sym (due_many (heading ++ inner) fs due) ∙ sym (front_many w.format w.interfaces) ∙ few in
    let fronts : fs ++ bs ≡ taken ++ (on ++ more) = sym parted ∙ ap (λ l. l ++ more) read_is ∙ append_assoc taken on more in
    let below = below_front low fs bs taken (on ++ more) fronts (omega (arith, many)) (below_rest taken rest e (subst (λ l. Rising l e) whole rises)) in
    let none : slice_get (standings_in w) (length read) ≡ None = slice_get_past (standings_in w) (length read) (omega (arith, few, ap length read_is, length-append taken on)) in
    interfaces_same low (cut_of (Some s)) marks.0 marks.1 nobody 0 w.interfaces (interfaces_below low w.interfaces are.good.0 (back low heading inner (fs, due, below)))
    ∙ ap (λ o. interfaces_faults (cut_at o) nobody 0 w.interfaces) (sym none)

-- the mark of a stop is what it cuts, or changes no fault
same_faults : (ts read more left : List Placed) (w : WrittenProgram) (s : Stop) (e : ℕ) → AreTokens ts → Rising ts e → program most_levels (reader None ts e) ≡ (w, reader (Some s) left e) → ts ≡ read ++ left
    → Are spelling_program IsProgram (read ++ more) w → interfaces_faults (cut_of (Some s)) nobody 0 w.interfaces ≡ interfaces_faults (cut_in w read) nobody 0 w.interfaces
unfolding front behind
same_faults ts read more left w s e tokens rises is whole are = by_stop (front most_levels (reader None ts e)).1.stop refl (cuts_front.run ts tokens e)
  where
    both_is : both (front most_levels) (behind most_levels) (reader None ts e) ≡ (((w.format, w.interfaces), (w.modules, w.deployment)), reader (Some s) left e)
    both_is = program_is most_levels (reader None ts e) (reader (Some s) left e) w is

    front_is : (front most_levels (reader None ts e)).0 ≡ (w.format, w.interfaces)
    front_is = ap (λ (x : (Front × Rest) × Reader). x.0.0) both_is

    behind_is : (behind most_levels (front most_levels (reader None ts e)).1).1 ≡ reader (Some s) left e
    behind_is = ap (λ (x : (Front × Rest) × Reader). x.1) both_is

    ends : (front most_levels (reader None ts e)).1.end ≡ e
    ends = cuts_front.stays.ends ts e

    by_stop : (o : Option Stop) → (front most_levels (reader None ts e)).1.stop ≡ o → Of stand ts (front most_levels (reader None ts e))
        → interfaces_faults (cut_of (Some s)) nobody 0 w.interfaces ≡ interfaces_faults (cut_in w read) nobody 0 w.interfaces
    by_stop None going (taken, parts, cut) =
        let x = front most_levels (reader None ts e) in
        let r = x.1 in
        let few : length (standings_in w) ≡ length taken = ap (λ y. length (stand y)) (sym front_is) ∙ subst (λ o. CutBy (stand x.0) o taken) going cut in
        let is_reader : r ≡ reader None r.rest e = λ i. reader (going i) r.rest (ends i) in
        let R = (sound_behind most_levels).runs r.rest e in
        let left_is : R.left ≡ left = sym (ap (λ (y : Rest × Reader). y.1.rest) (ap (behind most_levels) is_reader ∙ ran_is R)) ∙ ap (λ (q : Reader). q.rest) behind_is in
        let read_is : read ≡ taken ++ R.taken =
        append_cancel_right read (taken ++ R.taken) left (sym whole ∙ parts ∙ ap (λ l. taken ++ l) (R.whole ∙ ap (λ l. R.taken ++ l) left_is) ∙ sym (append_assoc taken R.taken left)) in
        let low = place_in r.rest e in
        let from = from_rest taken r.rest e (subst (λ l. Rising l e) parts rises) in
        let kept = (keeps_behind_interfaces most_levels).from low r (record { tokens = subst (λ k. From low r.rest k) (sym ends) from; marks = subst (MarksFrom low) (sym going) tt }) in
        behind_them ts taken r.rest read more R.taken w s e rises parts read_is few are (subst (MarksFrom low) (ap (λ (q : Reader). q.stop) behind_is) kept.marks)
    by_stop (Some t) halted (taken, parts, cut) =
        let x = front most_levels (reader None ts e) in
        let r = x.1 in
        let is_reader : r ≡ reader (Some t) r.rest e = λ i. reader (halted i) r.rest (ends i) in
        let same : reader (Some t) r.rest e ≡ reader (Some s) left e = sym (ap (λ q. (behind most_levels q).1) is_reader ∙ (still_behind most_levels).still t r.rest e) ∙ behind_is in
        let stops : ◌≡◌ {A = Option Stop} (Some t) (Some s) = ap (λ (q : Reader). q.stop) same in
        let stop_is : t ≡ s = cc in
        let read_is : taken ≡ read = append_cancel_right taken read left (ap (λ l. taken ++ l) (sym (ap (λ (q : Reader). q.rest) same)) ∙ sym parts ∙ whole) in
        let told : slice_get (stand x.0) (length taken) ≡ Some (record { within = t.within; list = t.list }) = subst (λ o. CutBy (stand x.0) o taken) halted cut in
        let cuts : cut_in w read ≡ cut_of (Some s) = (λ i. cut_at (slice_get (stand (sym front_is i)) (length (sym read_is i)))) ∙ ap cut_at told ∙ ap (λ (u : Stop). cut_of (Some u)) stop_is in
        ap (λ c. interfaces_faults c nobody 0 w.interfaces) (sym cuts)

-- ---- what was read

stop_of : (ts left : List Placed) (w : WrittenProgram) (s : Stop) (e : ℕ) → AreTokens ts → program most_levels (open_at ts e) ≡ (w, reader (Some s) left e) → (c : StopCause) → s.cause ≡ c → IsStopOf c ts left
stop_of ts left w s e tokens is Unexpected flat = (unexpected programs_lawful refl most_levels ts left w s e tokens is flat).0
stop_of ts left w s e tokens is TooDeep deep = (too_deep programs_lawful refl most_levels ts left w s e tokens is deep).0

place_of : (ts left : List Placed) (w : WrittenProgram) (s : Stop) (e : ℕ) → AreTokens ts → program most_levels (open_at ts e) ≡ (w, reader (Some s) left e) → (c : StopCause) → s.cause ≡ c → s.place ≡ place_in left e
place_of ts left w s e tokens is Unexpected flat = (unexpected programs_lawful refl most_levels ts left w s e tokens is flat).1
place_of ts left w s e tokens is TooDeep deep = (too_deep programs_lawful refl most_levels ts left w s e tokens is deep).1

-- it is read so by the grammar, with the same faults
abbrev pub IsReadAs : List Placed → ℕ → Option Stop → WrittenProgram → Type 0
IsReadAs ts e stop w = (t : Option Stop) × IsReadOf ts e t w × (read_faults stop w.interfaces ≡ read_faults t w.interfaces)

pub read_of : (ts left : List Placed) (w : WrittenProgram) (stop : Option Stop) (e : ℕ) → AreTokens ts → Rising ts e → program most_levels (open_at ts e) ≡ (w, reader stop left e) → IsReadAs ts e stop w
read_of ts left w None e tokens rises is = let (none, are, within) = program_whole ts left w e tokens is in (None, (are, within), refl)
read_of ts left w (Some s) e tokens rises is =
    let filled = filled_in programs_lawful most_levels ts left w s e tokens is in
    let cut = cut_in w filled.read in (
      Some (record { place = s.place; cause = s.cause; within = cut.within; list = cut.list }),
      record {
        left = left;
        filled = filled;
        interfaces = interfaces_filled most_levels ts filled.read left w s e is filled.whole;
        cut = refl;
        place = place_of ts left w s e tokens is s.cause refl;
        cause = stop_of ts left w s e tokens is s.cause refl;
      },
      ap (λ fs. stop_faults Syntax Deep (Some s) ++ fs) (same_faults ts filled.read filled.more left w s e tokens rises is filled.whole filled.are),
    )
