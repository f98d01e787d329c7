mod LeastOf
mod NodesMore
mod Clean
mod Hosting
mod NumberedMore
pub mod Obeying
mod Checked
