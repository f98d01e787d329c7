-- Where reading a module stops.
use Rattle.std.specs.Prelude.{◌≡◌, List, ◌++◌}
use Rattle.circus_syntax.specs.Placed.{Placed}
use Rattle.circus_syntax.specs.declared.stopping.Stop.{Stop}
use Rattle.circus_syntax.specs.declared.stopping.StopCause.{StopCause}
use Rattle.circus_syntax.specs.declared.stopping.StopCause.TheVariants.{Unexpected, TooDeep}
use Rattle.circus_syntax.specs.Spelling.{most_levels}
use Rattle.circus_expression.specs.Ending.{Are, IsFilledIn}
use Rattle.circus_lang.specs.declared.lang_fault.LangFault.{LangFault}
use Rattle.circus_lang.specs.declared.lang_fault.LangFault.TheVariants.{Expected, Deep}
use Rattle.circus_lang.specs.WrittenModule.{WrittenModule, spelling_module, IsModule}
use Rattle.std.specs.Prelude.{ℕ}

-- no module ends in front of what is left
abbrev pub NoneEnds : List Placed → List Placed → Type 0
NoneEnds ts left = (own more : List Placed) (w : WrittenModule) → ts ≡ own ++ (more ++ left) → Are spelling_module IsModule own w → ⊥

-- what is in front of what is left begins a module in which it stands within the levels
abbrev pub BeginsWithin : List Placed → List Placed → Type 0
BeginsWithin ts left = (w : WrittenModule) × (at : ℕ) × IsFilledIn spelling_module IsModule most_levels ts left at w

abbrev pub fault_at : ℕ → StopCause → LangFault
fault_at place Unexpected = Expected place
fault_at place TooDeep = Deep place

-- the fault that a stop is
abbrev pub fault_of : Stop → LangFault
fault_of s = fault_at s.place s.cause
