mod Numbers
mod Counts
mod Rises
