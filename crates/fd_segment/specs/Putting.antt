-- What a put does to a draft.
use Rattle.std.specs.Prelude.{◌≡◌, ◌≤◌, ◌+◌, ℕ, List, [], ◌∷◌, ◌++◌, length, Result, IfErr, OnOk, OnErr, option_map}
use Rattle.fd_bytes.specs.Causes.{Rose}
use Rattle.fd_disk.specs.Folders.{WhereTold}
use Rattle.fd_entries.specs.declared.batch.Pair.{Pair}
use Rattle.fd_index.specs.Builder.{room_for}
use Rattle.fd_segment.specs.declared.fault.PutFault.{PutFault}
use Rattle.fd_segment.specs.Causes.{FullAs, OnPutFault, OnPutFull}
use Rattle.fd_segment.specs.Filling.{Filling, Puts}
use Rattle.fd_segment.specs.Steps.{StopsPutting, digested}

-- These bytes were put under the key, with their digest behind them, or the put was refused: `Full` exactly where the index
-- has no room for the key, and before anything was written, and `Fault` only where the field file's count of faults rose.
pub record HasPut {F : Type 0} (old new : Filling) (key bytes : List ℕ) (result : Result (Unit {0}) (PutFault F)) : Type 0 where
  pub ok : OnOk result ((b : List Pair) → Puts old b → Puts new (b ++ record { key = key; bytes = bytes } ∷ []))
  pub end : OnOk result (new.end ≡ old.end + (length bytes + 32))
  pub err : OnErr result ((b : List Pair) → Puts old b → Puts new b)
  pub refused : OnErr result ((new.held ≡ old.held) × (new.end ≡ old.end))
  pub file : OnOk result (new.field_file ≡ option_map (digested old.end bytes) old.field_file)
  pub file_err : IfErr result (λ e. OnPutFault e (WhereTold old.field_file new.field_file (StopsPutting old.end bytes)))
  pub index_file : new.index_file ≡ old.index_file
  pub origin : new.origin ≡ old.origin
  pub room : (new.held.keys ≡ old.held.keys) × (new.held.bytes ≡ old.held.bytes)
  pub full : FullAs (room_for old.held key) result
  pub unwritten : IfErr result (λ e. OnPutFull e (new ≡ old))
  pub later : (old.field_faults ≤ new.field_faults) × (new.index_faults ≡ old.index_faults)
  pub cause : IfErr result (λ e. OnPutFault e (Rose old.field_faults new.field_faults))
