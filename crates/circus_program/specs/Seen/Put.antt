-- What a call answers, as one fact.
use Rattle.std.specs.Prelude.{◌≡◌, ◌⊎◌, ℕ, Option, List, Result, Ok, Err, IsTrue}
use Rattle.circus_outside.specs.Faults.{Rose}
use Rattle.circus_commands.specs.declared.status.Status.{Status}
use Rattle.circus_commands.specs.declared.status.Status.TheVariants.{ShelfFault, SinkFault, LinkFault, NoMemory}
use Rattle.circus_commands.specs.Status.{is_end}
use Rattle.circus_commands.specs.Ending.{Ending}
use Rattle.circus_commands.specs.declared.ending.Ending as coded
use Rattle.circus_commands.specs.Seen.Ending.{ending_of}
use Rattle.circus_report.specs.Writing.{Writes, WritesPart}
use Rattle.circus_serve.specs.Outside.{Tells}
use Rattle.circus_program.specs.Answer.{WritesPartOfText, WritesEnd, WritesLack}

-- a text was put with this status, or a part of it, and the sink failed or there was no memory; the sink has counted so many
-- faults before and behind it
abbrev pub IsPut : Status → List ℕ → Option (List ℕ) → Option (List ℕ) → ℕ → ℕ → Status → Type 0
IsPut status text old new before after result =
    ((result ≡ status) × Writes old new text × (after ≡ before))
    ⊎ (((result ≡ SinkFault) × WritesPart old new text × Rose before after) ⊎ ((result ≡ NoMemory) × WritesPart old new text))

-- an end was put
abbrev pub IsPutEnd : Ending → Option (List ℕ) → Option (List ℕ) → ℕ → ℕ → Status → Type 0
IsPutEnd ending old new before after result = IsPut ending.status ending.text old new before after result

-- an end was put, if there was memory for it
abbrev pub IsPutIfEnd : {E : Type 0} → Result coded.Ending E → Option (List ℕ) → Option (List ℕ) → ℕ → ℕ → Status → Type 0
IsPutIfEnd (Ok ending) old new before after result = IsPutEnd (ending_of ending) old new before after result
IsPutIfEnd (Err refused) old new before after result = (result ≡ NoMemory) × (new ≡ old)

-- the status stands, or the sink failed to give on what it gathered, or had no memory for it
abbrev pub IsFinished : Status → Type 0 → Status → Type 0
IsFinished status SinkRose result = (result ≡ status) ⊎ (((result ≡ SinkFault) × SinkRose) ⊎ (result ≡ NoMemory))

-- each clause of the top call
pub record IsAnswer (shelf : Option (List ℕ → Option (List ℕ))) (words : List (List ℕ)) (fetched : Option (List (List ℕ))) (ShelfRose : Type 0) (before after : Tells) (LinkRose : Type 0) (old new : Option (List ℕ)) (SinkRose : Type 0) (result : Status) : Type 0 where
  pub ended : IsTrue (is_end result) → WritesEnd shelf words before after old new result
  pub lacked : result ≡ ShelfFault → WritesLack shelf words fetched old new
  pub shelf_rose : result ≡ ShelfFault → ShelfRose
  pub link_rose : result ≡ LinkFault → LinkRose
  pub stopped : result ≡ SinkFault → WritesPartOfText shelf words before after fetched ShelfRose old new
  pub sink_rose : result ≡ SinkFault → SinkRose
  pub no_memory : result ≡ NoMemory → WritesPartOfText shelf words before after fetched ShelfRose old new
