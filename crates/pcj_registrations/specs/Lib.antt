pub mod Registrations
pub mod Reading
