mod Chains
mod Clients
mod Cuts
mod LineEnds
mod Prelude
mod Runs
mod Took
