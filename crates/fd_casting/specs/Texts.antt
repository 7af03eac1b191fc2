-- Why a script is refused, as a text.
use Rattle.std.specs.Prelude.{ℕ, List, ◌++◌, codes}
use Rattle.fd_key.specs.FaultTexts.{key_fault_text}
use Rattle.fd_casting.specs.declared.fault.Miscast.{Miscast}
use Rattle.fd_casting.specs.declared.fault.Miscast.TheVariants as kinds

-- the kind, and the kind of the fault inside it
abbrev pub miscast_text : Miscast → List ℕ
miscast_text kinds.Message = codes "Message"
miscast_text (kinds.Key fault) = codes "Key " ++ key_fault_text fault
miscast_text kinds.NoRule = codes "NoRule"
miscast_text kinds.OtherDataset = codes "OtherDataset"
