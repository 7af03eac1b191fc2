-- What is told of keys that were found.
use Rattle.std.specs.Prelude.{◌≡◌, ℕ, List, Some, None}
use Rattle.fd_io.specs.Streams.{Takes, TakesFront}
use Rattle.fd_inventory.specs.Written.{text_lines}
use Rattle.fd_stored.specs.declared.status.Status.{Status}
use Rattle.fd_stored.specs.declared.status.Status.TheVariants as statuses
use Rattle.fd_stored.specs.Causes.{Cause, telling}
use Rattle.fd_outcome.specs.Cubing.{keys_refusal}
use Rattle.fd_outcome.specs.Ends.{no_memory, output_failed}
use Rattle.fd_outcome.specs.Matching.{Keys}
use Rattle.fd_outcome.specs.Objects.{Failed, IsCalm, Object}
use Rattle.fd_outcome.specs.Told.{Told}
use Rattle.fd_contents.specs.Cubing.{AreCubes}

module _ (s : Status) (output report : Object (List ℕ)) where
  abbrev pub TellsOnly : Status → List ℕ → Type 0
  TellsOnly status text = Told status text s report.before report.now report.faults_before report.faults_now

  -- What became of lines.
  pub data ToldLines (lines : List (List ℕ)) : Type 0 where
    -- all were written, and the report took nothing
    AreWritten : (is : s ≡ statuses.Done) (took : Takes output.before output.now (text_lines lines)) (calm : IsCalm output) (quiet : report.now ≡ report.before) → ToldLines lines
    -- memory ran out behind a front of them
    AreStarved : (front : TakesFront output.before output.now (text_lines lines)) (calm : IsCalm output) (told : TellsOnly statuses.NoMemory no_memory) → ToldLines lines
    -- a write failed behind a front of them
    AreUnwritten : (front : TakesFront output.before output.now (text_lines lines)) (failed : Failed output) (told : TellsOnly statuses.OutputFault output_failed) → ToldLines lines

  -- What became of keys.
  pub data ToldKeys (ks : Keys) : Type 0 where
    -- they are refused
    KeysRefused : (cause : Cause) (is : keys_refusal ks ≡ Some cause) (nothing : output.now ≡ output.before) (calm : IsCalm output) (told : TellsOnly (telling cause).status (telling cause).line) → ToldKeys ks
    -- memory ran out before a line was written
    KeysStarved : (nothing : output.now ≡ output.before) (calm : IsCalm output) (told : TellsOnly statuses.NoMemory no_memory) → ToldKeys ks
    -- their cubes are lines
    KeysPrinted : (none : keys_refusal ks ≡ None) (lines : List (List ℕ)) (cubes : AreCubes ks lines) (told : ToldLines lines) → ToldKeys ks
