-- Tokens are a program, or stop reading at one place alone, for one cause.
use Rattle.std.proofs.Common.{◌≡◌, ℕ, List, [], ◌∷◌, ◌++◌, refl, sym, ◌∙◌, ap, subst, append_assoc, append-nil, Option, Some, None}
use Rattle.std.proofs.lemmas.List.{append_cancel_right}
use Rattle.circus_syntax.specs.declared.stopping.Stop.{Stop}
use Rattle.circus_syntax.specs.declared.stopping.StopCause.{StopCause}
use Rattle.circus_syntax.specs.declared.stopping.StopCause.TheVariants.{Unexpected, TooDeep}
use Rattle.circus_syntax.specs.Placed.{Placed, Due, AreWithin, StandWithin}
use Rattle.circus_syntax.specs.Reader.{place_in}
use Rattle.circus_syntax.specs.Spelling.{most_levels}
use Rattle.circus_expression.specs.Ending.{Are, IsFilledIn}
use Rattle.circus_idl.proofs.Fronts.{Fronts, same, longer, shorter, head_of, fronts}
use Rattle.circus_file.specs.WrittenProgram.{WrittenProgram, spelling_program, IsProgram}
use Rattle.circus_config.specs.Program.{IsStopOf, IsReadOf}

-- what is due within the levels stands within them
within_stand : (n : ℕ) (ds : List Due) (ts : List Placed) → AreWithin n ds → StandWithin n ds ts
within_stand n ds [] within = tt
within_stand n [] (t ∷ ts) within = tt
within_stand n (d ∷ ds) (t ∷ ts) within = (within.0, within_stand n ds ts within.1)

-- what stands within does so up to a token
stand_up_to : (n : ℕ) (ds : List Due) (ts us : List Placed) → StandWithin n ds (ts ++ us) → StandWithin n ds ts
stand_up_to n ds [] us within = tt
stand_up_to n [] (t ∷ ts) us within = tt
stand_up_to n (d ∷ ds) (t ∷ ts) us within = (within.0, stand_up_to n ds ts us within.1)

-- no tree within the levels goes on where reading stops
goes_on : (c : StopCause) (ts left read : List Placed) (t : Placed) (us more : List Placed) (a : WrittenProgram) → IsStopOf c ts left → ts ≡ read ++ left → left ≡ t ∷ us
    → Are spelling_program IsProgram (read ++ t ∷ more) a → StandWithin most_levels (spelling_program a) (read ++ t ∷ []) → ⊥
goes_on Unexpected ts left read t us more a stop whole next are within =
    let front : stop.read ≡ read = append_cancel_right stop.read read left (sym stop.whole ∙ whole) in
    stop.none_on t us next (a, more, subst (λ (l : List Placed). Are spelling_program IsProgram l a) (ap (λ l. l ++ t ∷ more) (sym front) ∙ sym (append_assoc stop.read (t ∷ []) more)) are)
goes_on TooDeep ts left read t us more a stop whole next are within =
    let front : stop.read ≡ read = append_cancel_right stop.read read left (sym stop.whole ∙ whole) in
    let first : t ≡ stop.next = head_of t stop.next us stop.rest (sym next ∙ stop.next_is) in
    stop.deeper a more (subst (λ (l : List Placed). Are spelling_program IsProgram l a) (λ i. sym front i ++ first i ∷ more) are)
    (subst (StandWithin most_levels (spelling_program a)) (λ i. sym front i ++ first i ∷ []) within)

-- nor are the tokens a tree within the levels
not_whole : (c : StopCause) (ts left : List Placed) (a : WrittenProgram) → IsStopOf c ts left → Are spelling_program IsProgram ts a → AreWithin most_levels (spelling_program a) → ⊥
not_whole Unexpected ts [] a stop are within =
    stop.none_ends refl a (subst (λ (l : List Placed). Are spelling_program IsProgram l a) (stop.whole ∙ append-nil stop.read) are)
not_whole TooDeep ts [] a stop are within = let none : [] ≡ stop.next ∷ stop.rest = stop.next_is in absurd (cc)
not_whole Unexpected ts (t ∷ us) a stop are within =
    goes_on Unexpected ts (t ∷ us) stop.read t us us a stop stop.whole refl (subst (λ (l : List Placed). Are spelling_program IsProgram l a) stop.whole are) (within_stand most_levels (spelling_program a) (stop.read ++ t ∷ []) within)
not_whole TooDeep ts (t ∷ us) a stop are within =
    goes_on TooDeep ts (t ∷ us) stop.read t us us a stop stop.whole refl (subst (λ (l : List Placed). Are spelling_program IsProgram l a) stop.whole are) (within_stand most_levels (spelling_program a) (stop.read ++ t ∷ []) within)

-- no later token is filled in behind
no_later : (c : StopCause) (ts left other read : List Placed) (at : ℕ) (a : WrittenProgram) (t : Placed) (us : List Placed) → IsStopOf c ts left → ts ≡ read ++ left
    → (filled : IsFilledIn spelling_program IsProgram most_levels ts other at a) → filled.read ≡ read ++ t ∷ us → left ≡ t ∷ (us ++ other) → ⊥
no_later c ts left other read at a t us stop whole filled front next =
    goes_on c ts left read t (us ++ other) (us ++ filled.more) a stop whole next
    (subst (λ (l : List Placed). Are spelling_program IsProgram l a) (ap (λ l. l ++ filled.more) front ∙ append_assoc read (t ∷ us) filled.more) filled.are)
    (stand_up_to most_levels (spelling_program a) (read ++ t ∷ []) us (subst (StandWithin most_levels (spelling_program a)) (front ∙ sym (append_assoc read (t ∷ []) us)) filled.within))

-- an unexpected token isn't too deep
one_cause : (c d : StopCause) (ts left : List Placed) → IsStopOf c ts left → IsStopOf d ts left → c ≡ d
one_cause Unexpected Unexpected ts left one other = refl
one_cause TooDeep TooDeep ts left one other = refl
one_cause Unexpected TooDeep ts left one other =
    let front : other.read ≡ one.read = append_cancel_right other.read one.read left (sym other.whole ∙ one.whole) in
    let (a, more, are) = other.goes_on in
    absurd (one.none_on other.next other.rest other.next_is (a, more, subst (λ (l : List Placed). Are spelling_program IsProgram ((l ++ other.next ∷ []) ++ more) a) front are))
one_cause TooDeep Unexpected ts left one other =
    let front : one.read ≡ other.read = append_cancel_right one.read other.read left (sym one.whole ∙ other.whole) in
    let (a, more, are) = one.goes_on in
    absurd (other.none_on one.next one.rest one.next_is (a, more, subst (λ (l : List Placed). Are spelling_program IsProgram ((l ++ one.next ∷ []) ++ more) a) front are))

-- two stops leave the same
pub same_left : (c d : StopCause) (ts left rest : List Placed) (at by : ℕ) (w v : WrittenProgram) → IsStopOf c ts left → IsStopOf d ts rest
    → IsFilledIn spelling_program IsProgram most_levels ts left at w → IsFilledIn spelling_program IsProgram most_levels ts rest by v → left ≡ rest
same_left c d ts left rest at by w v stop other filled also = by_fronts (fronts filled.read left also.read rest (sym filled.whole ∙ also.whole))
  where
    by_fronts : Fronts filled.read left also.read rest → left ≡ rest
    by_fronts (same is so) = so
    by_fronts (longer t us is so) = absurd (no_later c ts left rest filled.read by v t us stop filled.whole also is so)
    by_fronts (shorter t us is so) = absurd (no_later d ts rest left also.read at w t us other also.whole filled is so)

-- two stops are in one place, for one cause
abbrev pub IsSameStop : Option Stop → Option Stop → Type 0
IsSameStop None None = Unit {0}
IsSameStop None (Some t) = ⊥
IsSameStop (Some s) None = ⊥
IsSameStop (Some s) (Some t) = (s.place ≡ t.place) × (s.cause ≡ t.cause)

pub one_stop : (ts : List Placed) (end : ℕ) (one other : Option Stop) (w v : WrittenProgram) → IsReadOf ts end one w → IsReadOf ts end other v → IsSameStop one other
one_stop ts end None None w v first second = tt
one_stop ts end None (Some s) w v (are, within) second = not_whole s.cause ts second.left w second.cause are within
one_stop ts end (Some s) None w v first (are, within) = not_whole s.cause ts first.left v first.cause are within
one_stop ts end (Some s) (Some t) w v first second =
    let same = same_left s.cause t.cause ts first.left second.left s.place t.place w v first.cause second.cause first.filled second.filled in (
      first.place ∙ ap (λ (l : List Placed). place_in l end) same ∙ sym second.place,
      one_cause s.cause t.cause ts second.left (subst (IsStopOf s.cause ts) same first.cause) second.cause,
    )
