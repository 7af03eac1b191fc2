pub mod Lines
pub mod History
pub mod Seen
pub mod Starving
pub mod Transcripts
