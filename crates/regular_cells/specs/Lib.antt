pub mod RegularCell
