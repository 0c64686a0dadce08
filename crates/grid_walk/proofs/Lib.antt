pub mod CrateSteps
pub mod Layers
pub mod NoVisits
pub mod IdleLayers
