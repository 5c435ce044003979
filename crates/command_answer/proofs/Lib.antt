pub mod Answering
pub mod SumExamples
pub mod Sums
