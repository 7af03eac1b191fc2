use Rattle.std.proofs.Common.{◌≤◌, List, ℕ, length, sym, ◌∙◌, ap, subst}
use Rattle.fd_file_mem.specs.Calls.{extent_by}
use Rattle.fd_file_mem.proofs.CallLemmas.{extent_within}
use Rattle.fd_file_mem.proofs.disk.MemDiskDiskMemFault.seal.Goals as goal

pub returns-clause-len : goal.returns-clause-len
returns-clause-len c =
    let bytes = ap (λ v. v.items) c.new.ensures.bytes ∙ c.into_vec.ensures in
    subst (λ (l : List ℕ). extent_by 0 c.args.self.file.calls ≤ length l) (sym bytes) (extent_within c.args.self.file)
