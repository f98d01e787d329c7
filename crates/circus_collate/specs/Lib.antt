pub mod Expecting
pub mod Giving
pub mod Collating
pub mod Deployment
