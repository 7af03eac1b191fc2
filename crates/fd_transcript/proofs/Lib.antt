mod Pieces
mod Flushes
mod Entries
mod Tellings
