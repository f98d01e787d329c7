-- Why each datagram is sent, and when it is true.
pub mod Sendings
pub mod Due
pub mod TrueDatagram
pub mod Lives
pub mod Ring
pub mod Worlds
