mod Images
mod Writes
