pub mod TrueMaps
pub mod Grounds
pub mod Asked
pub mod Choosing
pub mod Turns
