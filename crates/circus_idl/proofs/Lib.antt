mod ShownFrom
mod ShownSome
mod NumberMaps
mod FirstPlace
mod TypesPut
mod ScopeMore
mod DraftMore
mod DeclaredInRange
mod CutOff
mod WholeObeys
pub mod Obeying
mod FoundWhole
mod RuleFaults
pub mod Fronts
mod OneStop
mod OneAnswer
mod ReadIs
mod Places
mod PlainTypes
mod PlainRules
mod PlainWritten
pub mod ObeysParts
mod PlainDeclared
mod ErrorsFound
mod PlainGrammar
mod PlainFields
mod PlainFaults
pub mod PlainMeaning
mod PlainShown
mod ShownAgain
mod ReadAgain
