-- What files the standard describes, and which refusal comes first.
pub mod Grammar
pub mod Refusals
pub mod Moved
