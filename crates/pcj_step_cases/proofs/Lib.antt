mod Begins
mod Writes
mod ClockSet
