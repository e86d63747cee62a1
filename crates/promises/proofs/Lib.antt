mod Kept
mod Headlines
mod Crossed
mod Answered
