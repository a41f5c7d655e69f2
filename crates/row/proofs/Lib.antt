mod Shifts
mod Searches
mod Pairs
