mod CarryLemmas
mod DivideLemmas
mod ExitLemmas
mod HeldLemmas
mod KeptLemmas
mod KeyLemmas
mod PurgeLemmas
mod StoreLemmas
