-- What is written of a placing: the best choice of machines, that there is none, or why the text is refused.
use Rattle.std.specs.Prelude.{ℕ, ◌+◌, ◌≡◌, ◌⊎◌, List, [], ◌∷◌, ◌++◌, codes, slice_index_or}
use Rattle.std.specs.Fmt.{decimal}
use Rattle.circus_place.specs.declared.placing.Machine.{Machine}
use Rattle.circus_place.specs.declared.placing.Placing.{Placing}
use Rattle.circus_place.specs.declared.place_fault.PlaceCause.{PlaceCause}
use Rattle.circus_place.specs.declared.place_fault.PlaceCause.TheVariants.{BadCharacter, OpenString, LongNumber, Syntax, Deep, UnknownName, Repeated, OutOfRange, TooLarge, TooMany}
use Rattle.circus_place.specs.declared.place_fault.PlaceFault.TheVariants.{Refused}
use Rattle.circus_place.specs.ReadAs.{IsReadAs, IsRefused}
use Rattle.circus_place.specs.Choice.{IsChoice, Satisfies, kept_by, IsBest}
use Rattle.circus_commands.specs.declared.status.Status.TheVariants.{Done, BadPlacing, NoPlacement}
use Rattle.circus_commands.specs.Ending.{Ending}
use Rattle.circus_record.specs.Line.{line}

-- a cause in words
abbrev pub cause_text : PlaceCause → List ℕ
cause_text BadCharacter = codes "bad character"
cause_text OpenString = codes "open string"
cause_text LongNumber = codes "long number"
cause_text Syntax = codes "syntax"
cause_text Deep = codes "nested too deep"
cause_text UnknownName = codes "unknown name"
cause_text Repeated = codes "repeated name"
cause_text OutOfRange = codes "out of range"
cause_text TooLarge = codes "too large"
cause_text TooMany = codes "too many"

-- the line and the cause of a refusal
abbrev pub refused_text : ℕ → PlaceCause → List ℕ
refused_text number cause = line (codes "place line " ++ decimal number ++ codes ": " ++ cause_text cause)

-- the name of the machine with this number
abbrev pub name_of : List Machine → ℕ → List ℕ
name_of machines number = (slice_index_or machines number (record { name = []; attributes = [] })).name

-- the member with this number is on the machine of this name
abbrev pub member_line : ℕ → List ℕ → List ℕ
member_line member name = line (codes "member " ++ decimal member ++ codes " " ++ name)

-- the members from this number on, by their machines
abbrev pub member_lines : List Machine → ℕ → List ℕ → List ℕ
member_lines machines member [] = []
member_lines machines member (number ∷ more) = member_line member (name_of machines number) ++ member_lines machines (member + 1) more

-- a choice, with how many members it keeps
abbrev pub choice_text : Placing → List ℕ → List ℕ
choice_text p choice = line (codes "circus place 1") ++ member_lines p.machines 1 choice ++ line (codes "kept " ++ decimal (kept_by p choice))

-- a text that is refused, one that no choice satisfies, and one that some choice does
abbrev pub IsRefusedPlacing : List ℕ → Type 0
IsRefusedPlacing text = (number : ℕ) × (cause : PlaceCause) × IsRefused text (Refused number cause)

abbrev pub HasNoChoice : List ℕ → Type 0
HasNoChoice text = (p : Placing) × IsReadAs text p × ((choice : List ℕ) → IsChoice p choice → Satisfies p choice → ⊥)

abbrev pub HasChoice : List ℕ → Type 0
HasChoice text = (p : Placing) × IsReadAs text p × ((choice : List ℕ) × IsChoice p choice × Satisfies p choice)

-- the end of a placing that is read: its best choice, or that there is none
abbrev pub IsEndOfChoice : Placing → Ending → Type 0
IsEndOfChoice p ending =
    ((choice : List ℕ) × IsBest p choice × (ending ≡ record { status = Done; text = choice_text p choice }))
    ⊎ (((choice : List ℕ) → IsChoice p choice → Satisfies p choice → ⊥) × (ending ≡ record { status = NoPlacement; text = line (codes "no placement") }))

-- the end of the text of a placing
abbrev pub IsEndOfPlacing : List ℕ → Ending → Type 0
IsEndOfPlacing text ending =
    ((p : Placing) × IsReadAs text p × IsEndOfChoice p ending)
    ⊎ ((number : ℕ) × (cause : PlaceCause) × IsRefused text (Refused number cause) × (ending ≡ record { status = BadPlacing; text = refused_text number cause }))
