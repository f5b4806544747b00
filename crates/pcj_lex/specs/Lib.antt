pub mod Characters
pub mod Rules
pub mod Reading
pub mod Token
