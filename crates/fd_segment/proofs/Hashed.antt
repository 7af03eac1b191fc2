-- Bytes of a file that were hashed in pieces.
use Rattle.std.proofs.Common.{◌≡◌, ◌+◌, ◌++◌, ℕ, List, [], Option, sym, subst, append_assoc}
use Rattle.sha2.specs.declared.Sha256.{Sha256}
use Rattle.sha2.specs.Hashers.{Holds256}
use Rattle.sha2.specs.Sha256.{sha256}
use Rattle.fd_segment.specs.Copying.{IsDigestOf, IsHashed, IsPiece}
use Rattle.fd_segment.proofs.Copied.{piece_more, piece_none}

-- the hasher holds the bytes at the place, so many of them
abbrev pub Holds : Option (List ℕ) → ℕ → ℕ → Sha256 → Type 0
Holds fields at len hasher = (bytes : List ℕ) × IsPiece fields at len bytes × Holds256 hasher bytes

pub holds_none : (fields : Option (List ℕ)) (at : ℕ) (h : Sha256) → Holds256 h [] → Holds fields at 0 h
holds_none fields at h empty = ([], piece_none fields at, empty)

pub holds_more : (fields : Option (List ℕ)) (at a b : ℕ) (h k : Sha256) → Holds fields at a h → IsHashed fields (at + a) b h k → Holds fields at (a + b) k
holds_more fields at a b h k p q = (p.0 ++ q.0, piece_more fields at a b p.0 q.0 p.1 q.1, q.2 p.0 p.2)

pub digest_is : (fields : Option (List ℕ)) (at len : ℕ) (h : Sha256) (digest : List ℕ) → Holds fields at len h → ((m : List ℕ) → Holds256 h m → digest ≡ sha256 m) → IsDigestOf fields at len digest
digest_is fields at len h digest p done = (p.0, p.1, done p.0 p.2)
