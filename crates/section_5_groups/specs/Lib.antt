-- What template 5.3 says of its groups.
pub mod Groups
