pub mod Stream
pub mod Heard
pub mod Laws
