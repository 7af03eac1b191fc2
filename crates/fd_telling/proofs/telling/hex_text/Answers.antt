use Rattle.std.proofs.Common.{◌≡◌, IfOk, List, ℕ, string_bytes, subst}
use Rattle.fd_stored.specs.Causes.{hex_text}
use Rattle.fd_telling.proofs.HexLemmas.{encoded_ok}
use Rattle.fd_telling.proofs.telling.hex_text.Goals as goal

pub returns : goal.returns
returns c = subst (λ (xs : List ℕ). IfOk c.encode.result (λ t. string_bytes t ≡ hex_text xs)) c.as_slice.ensures (encoded_ok string_bytes c.encode.result c.as_slice.result.now c.encode.ensures)
