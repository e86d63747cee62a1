pub mod Centre
pub mod SevenBits
pub mod Served
pub mod Replies
pub mod Top
