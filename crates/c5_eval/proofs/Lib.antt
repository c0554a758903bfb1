mod Blocks
mod OnStates
mod OwnLemmas
mod OwnInWrites
mod ReadBlocks
mod Walks
