pub mod LivePlaces
pub mod Ringed
pub mod RingedRows
pub mod RingedLaw
pub mod RingedApart
