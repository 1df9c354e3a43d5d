pub mod MovingGrids
