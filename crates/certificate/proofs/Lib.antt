pub mod LeastLaws
pub mod Tests
pub mod Soundness
pub mod Squares
