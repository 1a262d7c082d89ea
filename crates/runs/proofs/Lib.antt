pub mod Alike
pub mod Amiss
pub mod Unsafe
pub mod Rules
pub mod Count
pub mod Earlier
pub mod Adds
pub mod Methods
pub mod Moves
pub mod Grow
pub mod Numbers
pub mod Apart
pub mod WhenOpen
pub mod Invariant
pub mod Kept
pub mod Safe
pub mod Owing
pub mod Owners
pub mod Examples
mod OwnersExamples
pub mod Failing
pub mod Stopping
pub mod Loop
mod ChannelExamples
mod Nouns
mod Refuted
mod Told
