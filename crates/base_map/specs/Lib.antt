pub mod Nodes
pub mod Edges
pub mod Map
pub mod Loops
