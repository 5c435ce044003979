pub mod Refusals
pub mod NoKernel
