pub mod HiddenLeaves
pub mod Firsts
pub mod Rests
pub mod Lawful
pub mod Outcomes
pub mod Places
pub mod Told
pub mod Fronts
mod Somes
mod MadeTrees
mod Sieves
mod Fittings
mod Stages
mod Runs
mod Empties
mod Moves
mod Cellwise
mod PartLists
mod Halves
mod Leasts
mod PathOrders
mod BlockSteps
mod HandTrees
mod Lays
mod Layings
mod BelowFilters
mod Nears
pub mod LayingLemmas
mod Hidings
pub mod Shadows
