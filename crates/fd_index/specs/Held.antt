-- What a builder holds.
use Rattle.std.specs.Prelude.{ℕ, ◌-◌, List, length}
use Rattle.std.specs.List.{sum_by}
use Rattle.fd_index.specs.Records.{Record}

-- the records, and how many keys and how many bytes of keys were reserved
pub record Held : Type 0 where
  pub records : List Record
  pub keys : ℕ
  pub bytes : ℕ

abbrev pub key_bytes : List Record → ℕ
key_bytes rs = sum_by (λ r. length r.key) rs

-- the reserved bytes that no key takes
abbrev pub left_of : Held → ℕ
left_of held = held.bytes - key_bytes held.records
