-- Steps between the code and the definitions: they need not be believed.
pub mod Ahead
pub mod Refusals
