-- What is written of a session that ran.
use Rattle.std.specs.Prelude.{◌≡◌, ◌≢◌, ◌⊎◌, ◌≤◌, ◌<◌, ◌+◌, ◌-◌, ◌^◌, ◌++◌, ℕ, List, [], Option}
use Rattle.fd_bytes.specs.Causes.{Rose}
use Rattle.fd_io.specs.Streams.{Takes, TakesFront}
use Rattle.fd_stored.specs.declared.status.Status.{Status}
use Rattle.fd_stored.specs.declared.status.Status.TheVariants.{OutputFault, NoMemory, Damaged}
use Rattle.fd_stored.specs.Causes.{Telling}
use Rattle.fd_outcome.specs.Ends.{no_memory, output_failed}
use Rattle.fd_outcome.specs.Told.{Told}

-- The line of the status was told; or, where it is that of a damage, the line that memory ran out in its place: only the line of a
-- damage is made up.
abbrev pub ToldClosing : Telling → Status → Option (List ℕ) → Option (List ℕ) → ℕ → ℕ → Type 0
ToldClosing end s c d m n = Told end.status end.line s c d m n ⊎ ((end.status ≡ Damaged) × Told NoMemory no_memory s c d m n)

-- Memory may run out where this rest of the transcript was to come: there is one, or the line of a damage was to come.
abbrev pub MayStarve : Telling → List ℕ → Type 0
MayStarve end rest = (rest ≢ []) ⊎ (end.status ≡ Damaged)

-- No write failed: the output took what the gets found, and the report the transcript and behind it the line of the status.
pub record WritesAll (found text : List ℕ) (end : Telling) (s : Status) (a b : Option (List ℕ)) (k l : ℕ) (c d : Option (List ℕ)) : Type 0 where
  pub status : s ≡ end.status
  pub calm : l ≡ k
  pub output : Takes a b found
  pub report : Takes c d (text ++ end.line)

-- Memory ran out: the output took what the gets found, and the report a front of the transcript and behind it the line that
-- tells it. The whole transcript it took only where the line of a damage was to come.
pub record WritesStarved (found text : List ℕ) (end : Telling) (s : Status) (a b c d : Option (List ℕ)) : Type 0 where
  pub status : s ≡ NoMemory
  pub output : Takes a b found
  pub front : List ℕ
  pub rest : List ℕ
  pub is : text ≡ front ++ rest
  pub cause : MayStarve end rest
  pub report : Takes c d (front ++ no_memory)

-- A write of the output failed: it took a front of what the gets found, and the report the line that tells it, or a front
-- of the line.
pub record WritesNoFound (found : List ℕ) (s : Status) (a b c d : Option (List ℕ)) (k l : ℕ) : Type 0 where
  pub status : s ≡ OutputFault
  pub output : TakesFront a b found
  pub report : TakesFront c d output_failed
  pub rose : Rose k l

-- A write of the report failed: the output took what the gets found, and the report a front of the transcript, or of it and
-- the line of the status, or of a front of it and the line that memory ran out, where it may.
pub record WritesNoText (found text : List ℕ) (end : Telling) (s : Status) (a b c d : Option (List ℕ)) (m n : ℕ) : Type 0 where
  pub status : s ≡ OutputFault
  pub output : Takes a b found
  pub report : TakesFront c d (text ++ end.line) ⊎ ((front : List ℕ) × (rest : List ℕ) × (text ≡ front ++ rest) × MayStarve end rest × TakesFront c d (front ++ no_memory))
  pub rose : Rose m n

-- What a session writes whose gets found these bytes, whose transcript is this text, and which ends so. The output had taken
-- a and has taken b, and its count of faults was k and is l; c, d, m and n are the report's.
pub data Writes (found text : List ℕ) (end : Telling) (s : Status) (a b : Option (List ℕ)) (k l : ℕ) (c d : Option (List ℕ)) (m n : ℕ) : Type 0 where
  All : WritesAll found text end s a b k l c d → Writes found text end s a b k l c d m n
  Starved : WritesStarved found text end s a b c d → Writes found text end s a b k l c d m n
  NoFound : WritesNoFound found s a b c d k l → Writes found text end s a b k l c d m n
  NoText : WritesNoText found text end s a b c d m n → Writes found text end s a b k l c d m n

-- a count to which so many faults were added, unless it stands at its highest
abbrev pub HasCounted : ℕ → ℕ → ℕ → Type 0
HasCounted faults before now = now < 2 ^ 64 - 1 → before + faults ≤ now
