-- To which worker a message is dealt.
use Rattle.std.specs.Prelude.{ℕ, ◌+◌, ◌%◌, List, sum}

-- The worker, from 0, of a message that stands in the dataset of this text under this key, which has its index and its
-- datum text: the sum of the texts' octets by the number of workers.
abbrev pub dealt : ℕ → List ℕ → List ℕ → ℕ
dealt workers dataset key = (sum dataset + sum key) % workers
