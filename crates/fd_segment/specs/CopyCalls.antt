-- A call that copies from a file into a sink.
use Rattle.std.specs.Prelude.{◌≡◌, ◌≤◌, IfErr, Result}
use Rattle.fd_bytes.specs.Causes.{Rose}
use Rattle.fd_disk.specs.declared.traits.Reader as readers
use Rattle.fd_io.specs.declared.stream.Sink as sinks
use Rattle.fd_segment.specs.declared.fault.CopyFault.{CopyFault}
use Rattle.fd_segment.specs.Causes.{OnCopyFault, UnlessWrite}

-- The file is what it was, and each refusal is a fault of it or of the sink, which that one counts.
pub record HasCopyCause {R K F X : Type 0} (file : readers.Ghosts R F) (sink : sinks.Ghosts K X) (from now : R) (old new : K) (result : Result (Unit {0}) (CopyFault F X)) : Type 0 where
  pub bytes : file.bytes now ≡ file.bytes from
  pub len : file.len now ≡ file.len from
  pub later : file.faults from ≤ file.faults now
  pub sink_later : sink.faults old ≤ sink.faults new
  pub calm : UnlessWrite result (sink.faults new ≡ sink.faults old)
  pub cause : IfErr result (λ e. OnCopyFault e (Rose (file.faults from) (file.faults now)) (Rose (sink.faults old) (sink.faults new)))
