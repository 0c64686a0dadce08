pub mod NamedRow
pub mod MadeFirst
pub mod Exchange
pub mod RegularVisits
pub mod RegularRow
pub mod RegularTest
