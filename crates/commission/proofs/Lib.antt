pub mod BandLaws
pub mod Charging
pub mod Examples
