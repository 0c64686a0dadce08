pub mod EdgeVisits
pub mod HeldVisit
