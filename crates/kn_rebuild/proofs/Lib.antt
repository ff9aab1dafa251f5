mod Ignoring
mod Setting
mod Grouping
mod Whole
