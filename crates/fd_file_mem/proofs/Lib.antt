mod BufferLemmas
mod CallLemmas
mod KeptLemmas
mod PlanLemmas
pub mod Sending
