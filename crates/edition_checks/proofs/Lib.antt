pub mod FolderReads
pub mod FollowLaws
pub mod PutLaws
pub mod Reached
