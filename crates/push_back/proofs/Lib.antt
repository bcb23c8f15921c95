mod TreeSizes
pub mod LaidTrees
pub mod Letters
mod NextFilters
pub mod OneOriginal
mod Runs
pub mod Grounding
pub mod Judging
pub mod Running
pub mod RunEnds
pub mod PushedSoFar
pub mod Planned
