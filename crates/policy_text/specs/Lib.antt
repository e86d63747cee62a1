pub mod Policies
pub mod PolicyPlaces
