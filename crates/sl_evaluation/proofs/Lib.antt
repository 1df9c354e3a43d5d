mod DefaultsThere
mod Steps
mod Constants
mod Sizes
