-- What two record sets hold together is `union` (two_sets/specs/Union.antt); the rest are steps between the
-- code and that, and need not be believed.
pub mod Steps
