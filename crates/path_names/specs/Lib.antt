pub mod Words
pub mod PathTexts
pub mod RefNames
pub mod UserNames
pub mod Quoting
pub mod Laws
pub mod Rows
