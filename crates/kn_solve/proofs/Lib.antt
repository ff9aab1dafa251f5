mod LiveLemmas
mod SolvingLemmas
mod LearningLemmas
pub mod Public
