pub mod Joined
pub mod Rising
pub mod Naming
