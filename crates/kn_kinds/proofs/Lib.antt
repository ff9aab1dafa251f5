mod Ranks
mod Surveys
mod Marking
mod Klauses
mod Clauses
