-- What a request's answer tells at its end.
use Rattle.std.specs.Prelude.{◌++◌, ℕ, List, codes, nat_lt, if◌then◌else◌}
use Rattle.std.specs.Fmt.{decimal}
use Rattle.fd_listing.specs.Lines.{line}
use Rattle.fd_stored.specs.declared.status.Status.{Status}
use Rattle.fd_stored.specs.declared.status.Status.TheVariants as statuses

abbrev pub counts_text : ℕ → ℕ → List ℕ
counts_text found missed = line (codes "found " ++ decimal found ++ codes " missed " ++ decimal missed)

abbrev pub counts_status : ℕ → Status
counts_status missed = if nat_lt 0 missed then statuses.Missed else statuses.Done
