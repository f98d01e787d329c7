pub mod Found
pub mod ServingAlike
pub mod AnswersAlike
pub mod TextAlike
pub mod Booted
pub mod Ends
