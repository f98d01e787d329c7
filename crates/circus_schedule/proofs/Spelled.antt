-- Lines as they are spelled: each in its own way, and none over a newline.
use Rattle.std.proofs.Common.{◌≡◌, ◌≢◌, ◌∙◌, ◌++◌, ℕ, false, eqb, List, [], ◌∷◌, get_or, ap, refl, sym, codes, arith}
use Rattle.std.specs.Fmt.{decimal}
use Rattle.std.specs.Str.Parse.{AllDigits}
use Rattle.std.proofs.lemmas.Bool.{false≢true, ne_eqb, eq-eqb}
use Rattle.std.proofs.lemmas.Fmt.{decimal_injective, digits_decimal}
use Rattle.std.proofs.lemmas.List.{append_cancel_left}
use Rattle.std.proofs.lemmas.Str.Parse.{digit_from_value}
use Rattle.circus_schedule.specs.WrittenLine.{WrittenLine, deliver, tick, crash, down, join, text_of, IsWritten, Spells}
use Rattle.circus_schedule.specs.TextLines.{newline}
use Rattle.circus_schedule.specs.Seen.Cut.{Lacks}
use Rattle.circus_schedule.proofs.Cutting.{same_cut, Lacks-append}
use Rattle.circus_schedule.proofs.Names.{name_lacks}
use Rattle.circus_schedule.proofs.Numerals.{own}

digits_lack : (digits : List ℕ) → AllDigits 10 digits → Lacks newline digits
digits_lack [] all = tt
digits_lack (digit ∷ digits) all =
    let range = digit_from_value digit all.0 in
    (ne_eqb digit newline (λ same. omega (arith, range)), digits_lack digits all.1)

-- a line is one line
pub one_line : (line : WrittenLine) → IsWritten line → Lacks newline (text_of line)
one_line (deliver number) small = Lacks-append newline (codes "deliver ") (decimal number) (refl, (refl, (refl, (refl, (refl, (refl, (refl, (refl, tt)))))))) (digits_lack (decimal number) (digits_decimal own number small))
one_line (tick node) named = Lacks-append newline (codes "tick ") node (refl, (refl, (refl, (refl, (refl, tt))))) (name_lacks newline refl node named)
one_line (crash node) named = Lacks-append newline (codes "crash ") node (refl, (refl, (refl, (refl, (refl, (refl, tt)))))) (name_lacks newline refl node named)
one_line (join node) named = Lacks-append newline (codes "join ") node (refl, (refl, (refl, (refl, (refl, tt))))) (name_lacks newline refl node named)
one_line (down node told) named =
    Lacks-append newline (codes "down ") (node ++ 32 ∷ told) (refl, (refl, (refl, (refl, (refl, tt)))))
    (Lacks-append newline node (32 ∷ told) (name_lacks newline refl node named.0) (refl, name_lacks newline refl told named.1))

-- a line has a byte
pub some_text : (line : WrittenLine) → text_of line ≢ []
some_text (deliver number) none = cc
some_text (tick node) none = cc
some_text (crash node) none = cc
some_text (down node told) none = cc
some_text (join node) none = cc

-- texts that differ at a place are two
differ : {x y : List ℕ} (place : ℕ) → x ≡ y → eqb (get_or x place 0) (get_or y place 0) ≡ false → ⊥
differ {x} {y} place same apart = false≢true (sym apart ∙ eq-eqb _ _ (ap (λ (text : List ℕ). get_or text place 0) same))

same_line : (a b : WrittenLine) → IsWritten a → IsWritten b → text_of a ≡ text_of b → a ≡ b
same_line (deliver m) (deliver n) small low same = ap deliver (decimal_injective m n small low (append_cancel_left (codes "deliver ") (decimal m) (decimal n) same))
same_line (deliver m) (tick a) small named same = absurd (differ 0 same refl)
same_line (deliver m) (crash a) small named same = absurd (differ 0 same refl)
same_line (deliver m) (down a b) small named same = absurd (differ 1 same refl)
same_line (deliver m) (join a) small named same = absurd (differ 0 same refl)
same_line (tick a) (deliver m) named small same = absurd (differ 0 same refl)
same_line (tick a) (tick b) named called same = ap tick (append_cancel_left (codes "tick ") a b same)
same_line (tick a) (crash b) named called same = absurd (differ 0 same refl)
same_line (tick a) (down b c) named called same = absurd (differ 0 same refl)
same_line (tick a) (join b) named called same = absurd (differ 0 same refl)
same_line (crash a) (deliver m) named small same = absurd (differ 0 same refl)
same_line (crash a) (tick b) named called same = absurd (differ 0 same refl)
same_line (crash a) (crash b) named called same = ap crash (append_cancel_left (codes "crash ") a b same)
same_line (crash a) (down b c) named called same = absurd (differ 0 same refl)
same_line (crash a) (join b) named called same = absurd (differ 0 same refl)
same_line (down a b) (deliver m) named small same = absurd (differ 1 same refl)
same_line (down a b) (tick c) named called same = absurd (differ 0 same refl)
same_line (down a b) (crash c) named called same = absurd (differ 0 same refl)
same_line (down a b) (down c d) named called same =
    let behind = append_cancel_left (codes "down ") (a ++ 32 ∷ b) (c ++ 32 ∷ d) same in
    let parts = same_cut 32 a c b d (name_lacks 32 refl a named.0) (name_lacks 32 refl c called.0) behind in
    λ i. down (parts.0 i) (parts.1 i)
same_line (down a b) (join c) named called same = absurd (differ 0 same refl)
same_line (join a) (deliver m) named small same = absurd (differ 0 same refl)
same_line (join a) (tick b) named called same = absurd (differ 0 same refl)
same_line (join a) (crash b) named called same = absurd (differ 0 same refl)
same_line (join a) (down b c) named called same = absurd (differ 0 same refl)
same_line (join a) (join b) named called same = ap join (append_cancel_left (codes "join ") a b same)

-- a text spells one line at most
pub Spells-one : (text : List ℕ) (a b : WrittenLine) → Spells text a → Spells text b → a ≡ b
Spells-one text a b first second = same_line a b first.written second.written (sym first.spelled ∙ second.spelled)
