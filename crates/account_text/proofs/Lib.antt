mod Places
mod Corners
mod Flat
