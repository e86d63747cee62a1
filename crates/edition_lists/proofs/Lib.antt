pub mod FolderLaws
pub mod NoForks
pub mod InTurn
pub mod KeptReads
pub mod Policies
pub mod RightEditions
