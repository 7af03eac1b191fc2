pub mod AnsweringLemmas
pub mod DamageLemmas
pub mod CopiedLemmas
pub mod JoinedLemmas
pub mod RoundLemmas
