mod Reading
mod Cuts
mod Commits
