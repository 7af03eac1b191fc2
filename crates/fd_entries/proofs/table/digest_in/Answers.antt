use Rattle.std.proofs.Common.{◌≡◌, ◌∙◌, List, Option, Some, None, if◌then◌else◌, Bool, take, drop, ℕ, sym, ap, true}
use Rattle.fd_entries.specs.Table.{has_digest}
use Rattle.fd_entries.proofs.table.digest_in.Goals as goal

pub returns-then-has_digest : goal.returns-then-has_digest
returns-then-has_digest c =
    let some : has_digest c.args.bytes.now ≡ true = sym c.has_digest.ensures ∙ c.if-has_digest.true in
    ap (λ (l : List ℕ). Some l) c.digest_behind.ensures ∙ sym (ap (λ (b : Bool). if b then Some (take 32 (drop 29 c.args.bytes.now)) else None) some)
