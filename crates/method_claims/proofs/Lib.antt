pub mod FailedExit
