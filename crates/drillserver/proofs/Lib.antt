pub mod Made
pub mod Challenges
pub mod Transcripts
pub mod Honest
