pub mod CellMemory
