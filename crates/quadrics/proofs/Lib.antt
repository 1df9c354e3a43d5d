mod Denominators
mod Derivatives
mod Mixes
mod Quadratics
mod SlopeSteps
mod Columns
mod QuadricCurves
