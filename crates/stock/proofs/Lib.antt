mod Grown
mod Short
