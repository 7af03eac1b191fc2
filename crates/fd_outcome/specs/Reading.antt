-- Why an input isn't read.
use Rattle.fd_outcome.specs.declared.reading.Unread.{Unread}
use Rattle.fd_outcome.specs.declared.reading.Unread.TheVariants.{Fault, NoMemory}

abbrev pub OnUnread : {X : Type 0} → Unread X → Type 0 → Type 0
OnUnread (Fault f) P = P
OnUnread NoMemory P = Unit {0}
