-- A crash while a gate is being opened.
use Rattle.std.proofs.Common.{◌≡◌, ℕ, true, false, List, [], ◌∷◌, ◌++◌, take, map, refl, codes}
use Rattle.fd_machine.specs.World.{World}
use Rattle.fd_entries.specs.declared.batch.Pair.{Pair}
use Rattle.fd_machine.specs.declared.machine.Step.{Step}
use Rattle.fd_machine.specs.declared.machine.Step.TheVariants.{Put, SyncData, WriteIndex, SyncIndex, Take, Body, SyncBody, Gate, SyncGate, Post, Release, Fail, CloseGate, SyncClose, Crash, Reopen}
use Rattle.fd_machine.specs.Machine.{run, after, start, possible}
use Rattle.fd_entries.specs.Table.{listed}

steps : List Step
steps = Put 1 (codes "i|a") (codes "data") ∷ SyncData 1 ∷ WriteIndex 1 ∷ SyncIndex 1 ∷ Take 1 ∷ Body 1 ∷ SyncBody 1 ∷ Gate 1 ∷ []

batch : List Pair
batch = record { key = codes "i|a"; bytes = codes "data" } ∷ []

-- the bytes of each file as they read
left_by : World → List (List ℕ)
left_by s = s.table.reads ∷ map (λ f. f.file.reads) s.files

opened : (after (after (run steps start) (Crash (left_by (run steps start)))) Reopen).history ≡ batch ∷ []
unfolding steps batch left_by listed
opened = refl

closed : (after (after (run steps start) (Crash (left_by (run (take 7 steps) start)))) Reopen).history ≡ []
unfolding steps left_by listed
closed = refl

can_be_left : possible (run steps start) (Crash (left_by (run (take 7 steps) start))) ≡ true
unfolding steps left_by listed
can_be_left = refl

-- before the gate no crash can list the batch
can_not : possible (run (take 7 steps) start) (Crash (left_by (run steps start))) ≡ false
unfolding steps left_by listed
can_not = refl

-- a gate that failed is mended by the next owner, and the batch is listed then
mended : (run (steps ++ Fail 1 ∷ Take 1 ∷ CloseGate 1 ∷ SyncClose 1 ∷ Body 1 ∷ SyncBody 1 ∷ Gate 1 ∷ SyncGate 1 ∷ Post 1 ∷ Release 1 ∷ []) start).history ≡ batch ∷ []
unfolding steps batch listed
mended = refl

not_before : possible (run (steps ++ Fail 1 ∷ Take 1 ∷ []) start) (Body 1) ≡ false
unfolding steps listed
not_before = refl
