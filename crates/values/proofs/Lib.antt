pub mod MethodKinds
