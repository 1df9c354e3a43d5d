pub mod FourCorners
