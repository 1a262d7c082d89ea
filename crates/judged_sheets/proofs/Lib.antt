mod Activations
pub mod Failing
pub mod FailingRuns
pub mod Stopping
mod StoppingRuns
pub mod Channels
mod ChannelRuns
mod LongWords
