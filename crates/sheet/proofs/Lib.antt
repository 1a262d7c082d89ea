pub mod Examples
mod EditionExamples
mod OwnerExamples
mod ChannelExamples
pub mod Each
pub mod Kind
