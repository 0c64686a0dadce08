mod MaskBits
mod CornerBits
mod CellCounts
mod WordSteps
