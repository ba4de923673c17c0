-- Steps between the code and the definitions: they need not be believed.
pub mod Starts
pub mod Sweeps
pub mod Stages
pub mod Last
pub mod Giving
pub mod NewHomes
pub mod Lanes
