mod LeastTold
mod ToldInOrder
mod Answered
mod Stopped
mod Rules
mod Looked
mod ReadIs
mod OneStop
mod OneReading
mod Marks
mod MarkTypes
mod MarkExpressions
mod MarkStatements
mod MarkModules
mod CutFront
mod Rising
mod Below
mod Unmarked
mod ReadOf
pub mod OneAnswer
mod Ascii
mod Checked
mod Named
pub mod PlanIs
