mod EntryLemmas
mod JustifyLemmas
mod OpeningLemmas
