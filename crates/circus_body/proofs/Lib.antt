mod Listing
pub mod WellTyped
mod ExpressionsInText
pub mod InText
pub mod Rising
pub mod StatementsInText
pub mod TypesInText
