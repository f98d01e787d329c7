pub mod Ways
pub mod Parts
pub mod Chains
pub mod Conditions
pub mod Placings
pub mod Within
mod TwiceParts
mod TwiceConditions
mod TwicePlacings
mod FillParts
mod FillConditions
mod FillPlacings
mod OneFilling
mod OneStop
pub mod Whole
pub mod Obeying
pub mod ReadIs
pub mod Ascii
pub mod OneAnswer
mod Signs
pub mod Tables
pub mod Compiled
pub mod Known
pub mod Skipped
pub mod Best
pub mod Placed
