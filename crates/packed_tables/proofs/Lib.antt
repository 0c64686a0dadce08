pub mod FirstNamed
pub mod Words
pub mod Marks
pub mod PackedEdges
pub mod RegularWords
pub mod NumbersPut
