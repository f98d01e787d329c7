mod Alone
mod Bodies
mod BodiesPlaced
mod Calling
mod CleanModules
mod CleanVariables
pub mod Declared
mod Endings
mod FirstOfName
mod Importing
mod InOrder
pub mod Interfaces
mod KnownTables
mod ModulesFound
pub mod ModulesInText
mod Named
mod NamesApart
mod OfBytes
mod OwnTables
mod PlacesFound
mod ProceduresFound
mod Progressing
mod Reaching
mod ReachingByImports
mod ReadModules
mod RegularShapes
mod ReportsFound
pub mod SameLeast
mod Standings
mod Surrounded
mod Tables
mod Told
pub mod TypedMore
mod VariablesFound
pub mod WholeModules
