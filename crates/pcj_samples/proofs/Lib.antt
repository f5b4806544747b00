mod EmptyTable
mod Runs
