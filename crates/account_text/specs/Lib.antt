pub mod Decimals
pub mod Numbers
pub mod Frame
pub mod Primitive
pub mod Fragments
pub mod Account
