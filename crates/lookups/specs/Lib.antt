-- What is searched for is `find_in` (placing/specs/Walks.antt); the rest are steps between the code and
-- that, and need not be believed.
pub mod Steps
