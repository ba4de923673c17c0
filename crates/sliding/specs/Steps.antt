-- Steps between the code and the definitions: they need not be believed.
pub mod Reading
pub mod Closing
pub mod Topping
