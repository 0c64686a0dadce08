pub mod CountCell
pub mod JoinedLayer
