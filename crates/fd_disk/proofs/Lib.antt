pub mod ImageLemmas
pub mod NameLemmas
pub mod MomentLemmas
pub mod OutstandingLemmas
pub mod RenewalLemmas
