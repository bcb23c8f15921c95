pub mod RowsGround
mod RowsBehind
pub mod GroundLaws
pub mod GrownLaws
pub mod Rules
pub mod Keeping
pub mod FreshPlaces
pub mod StatesRead
pub mod ItemRuns
pub mod Stopping
pub mod WholeLoads
pub mod Members
mod Grows
mod TreeLaw
mod Walks
mod Passing
mod StoredCommits
pub mod Entered
pub mod Batches
pub mod TreesFound
pub mod Brought
pub mod FreshNames
pub mod MovedRefs
pub mod Prepared
pub mod Cuts
pub mod MapFronts
pub mod Selections
pub mod Reaching
pub mod CommitsEntered
pub mod TestedMoves
pub mod Taken
pub mod KeptTexts
pub mod CommitGraphs
pub mod RepeatedCommits
pub mod Lengths
pub mod HeadsFound
pub mod RuleForms
