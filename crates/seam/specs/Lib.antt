pub mod Seam
pub mod FaceRule
