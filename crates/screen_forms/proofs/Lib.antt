pub mod Packs
pub mod Letters
pub mod Walks
pub mod Pages
pub mod PagesAre
pub mod Written
