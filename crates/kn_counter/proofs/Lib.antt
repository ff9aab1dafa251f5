mod Examples
pub mod GridLemmas
pub mod Adding
pub mod RowForms
pub mod ClauseTruth
pub mod RowTruth
pub mod BoundTruth
pub mod Models
pub mod Numbered
pub mod Public
