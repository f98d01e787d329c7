pub mod Alike
pub mod Delivering
pub mod Leading
pub mod AllDelivered
pub mod Sufficing
