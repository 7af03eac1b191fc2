mod AheadLemmas
mod CallLemmas
mod GatheringLemmas
mod TimeLemmas
