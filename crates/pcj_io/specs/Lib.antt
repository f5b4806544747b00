pub mod Calls
pub mod Faults
pub mod Sink
pub mod Source
