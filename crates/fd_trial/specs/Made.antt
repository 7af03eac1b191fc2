-- Messages that are made up, as a source gives them.
use Rattle.std.specs.Prelude.{ℕ, List, ◌++◌, drop, map}
use Rattle.std.specs.List.{concat, range_with_len}
use Rattle.fd_gen.specs.Generated.{generated_octets}
use Rattle.fd_trial.specs.declared.made.MadeMessages.{MadeMessages}

-- so many generated messages from this number on, one after the other
abbrev pub messages_from : ℕ → ℕ → List ℕ
messages_from next rest = concat (map generated_octets (range_with_len next rest))

-- what the source has left: the rest of the message that is made, and those that aren't made yet
abbrev pub made_left : MadeMessages → List ℕ
made_left s = drop s.at s.message.items ++ messages_from s.next s.rest

-- how many of its reads have failed
abbrev pub made_faults : MadeMessages → ℕ
made_faults s = s.failed
