-- The first fault of a slot, pattern by pattern.
use Rattle.std.proofs.Common.{◌≡◌, ◌≤◌, ℕ, ◌+◌, ◌-◌, Bool, false, is_some, get_or, arith, List, [], ◌∷◌, ◌++◌, length, take, drop, if◌then◌else◌, Option, Some, None, refl, sym, ◌∙◌, ap}
use Rattle.std.proofs.lemmas.Bool.Decides.{Decides-eqb}
use Rattle.std.proofs.lemmas.List.{take_rest}
use Rattle.std.specs.Int.{w32, to_be_bytes}
use Rattle.fd_entries.specs.declared.table.NotATable.{NotATable}
use Rattle.fd_entries.specs.Table.{any_octets, entry_fault, entry_in, exceeds, gate_at, greatest_writer, has_digest, mismatch, or_else, tail_octets}
use Rattle.fd_toc.specs.declared.parse.Slot.TheVariants.{End}
use Rattle.fd_toc.specs.Slots.{bad_or, slot_at}

pub none_is : (o : Option NotATable) → is_some o ≡ false → o ≡ None
none_is None is = refl
none_is (Some f) is = absurd (cc is)

-- where neither the kind nor the writer has a fault, it is that of what stands behind them
pub last_fault_is : (i : ℕ) (bytes : List ℕ) (two : Bool) (a b c : Option NotATable) (kinds tails : List (Option ℕ)) (most : List ℕ) → two ≡ has_digest bytes → kinds ≡ Some (if two then 2 else 1) ∷ any_octets 4 → tails ≡ any_octets 24 ++ tail_octets two
    → most ≡ to_be_bytes w32 (greatest_writer i) → a ≡ mismatch (gate_at i + 1) kinds bytes → a ≡ None → b ≡ exceeds (gate_at i + 2) most (take 4 (drop 1 bytes)) → b ≡ None
    → c ≡ mismatch (gate_at i + 6) tails (take (length bytes - 5) (drop 5 bytes)) → c ≡ entry_fault i bytes
last_fault_is i bytes two a b c kinds tails most two_is kinds_is tails_is most_is first a_none second b_none third =
    let kind : mismatch (gate_at i + 1) (Some (if has_digest bytes then 2 else 1) ∷ any_octets 4) bytes ≡ None =
    ap (λ (t : Bool). mismatch (gate_at i + 1) (Some (if t then 2 else 1) ∷ any_octets 4) bytes) (sym two_is) ∙ ap (λ (p : List (Option ℕ)). mismatch (gate_at i + 1) p bytes) (sym kinds_is) ∙ sym first ∙ a_none in
    let writer : exceeds (gate_at i + 2) (to_be_bytes w32 (greatest_writer i)) (take 4 (drop 1 bytes)) ≡ None = ap (λ (m : List ℕ). exceeds (gate_at i + 2) m (take 4 (drop 1 bytes))) (sym most_is) ∙ sym second ∙ b_none in
    let tail : mismatch (gate_at i + 6) (any_octets 24 ++ tail_octets (has_digest bytes)) (drop 5 bytes) ≡ c =
    ap (λ (t : Bool). mismatch (gate_at i + 6) (any_octets 24 ++ tail_octets t) (drop 5 bytes)) (sym two_is) ∙ ap (λ (p : List (Option ℕ)). mismatch (gate_at i + 6) p (drop 5 bytes)) (sym tails_is)
    ∙ ap (mismatch (gate_at i + 6) tails) (sym (take_rest bytes 5)) ∙ sym third in
    sym (λ j. or_else (kind j) (or_else (writer j) (tail j)))

-- the slot behind an open gate
pub slot_is : (i : ℕ) (bytes : List ℕ) → 1 ≤ length bytes → get_or bytes 0 0 ≡ 79 → slot_at i bytes ≡ bad_or (entry_fault i (drop 1 bytes)) (entry_in (drop 1 bytes))
slot_is i [] long is = absurd (omega arith)
slot_is i (gate ∷ rest) long is = ap (λ (t : Bool). if t then bad_or (entry_fault i rest) (entry_in rest) else End) ((Decides-eqb gate 79).1 is)
