-- What a table lists is in its first octets, up to the gate behind the last slot.
use Rattle.std.proofs.Common.{◌≡◌, inl, inr, ℕ, zero, suc, ◌+◌, ◌-◌, ◌*◌, ◌≤◌, List, [], ◌∷◌, ◌++◌, length, take, drop, Bool, true, false, refl, sym, ◌∙◌, ap, subst, arith, append_assoc, take-append-drop, IfSome, Option, Some, None, Result, Ok}
use Rattle.std.proofs.lemmas.List.{drop-take, take-take}
use Rattle.std.specs.Prelude.{◌==◌, if◌then◌else◌}
use Rattle.std.specs.Int.{w32, w64, to_be_bytes, from_be_bytes}
use Rattle.fd_entries.proofs.Slots.{length-header}
use Rattle.fd_entries.specs.declared.table.Entry.{Entry}
use Rattle.fd_disk.specs.declared.file.File.{File}
use Rattle.fd_entries.specs.Table.{has_digest, tail_octets, IsTable, table_of, slots_of, mismatch, any_octets, fixed, header, exceeds, entry_fault, entry_in, or_else, unless_fault, with_entry, run_from, listed, gate_at, greatest_writer}
use Rattle.fd_entries.specs.declared.table.NotATable.{NotATable}
use Rattle.fd_toc.specs.Lists.{IsFront}

-- a pattern is compared with no more octets than it has
short_enough : (at : ℕ) (pattern : List (Option ℕ)) (bytes : List ℕ) (n : ℕ) → length pattern ≤ n → mismatch at pattern (take n bytes) ≡ mismatch at pattern bytes
short_enough at [] bytes n few = refl
short_enough at (w ∷ pattern) bytes zero few = absurd (omega (arith, few))
short_enough at (Some w ∷ pattern) [] (suc n) few = refl
short_enough at (None ∷ pattern) [] (suc n) few = refl
short_enough at (Some w ∷ pattern) (x ∷ bytes) (suc n) few = ap (λ later. if x == w then later else Some (record { at = at; want = w; found = Some x })) (short_enough (at + 1) pattern bytes n (omega (arith, few)))
short_enough at (None ∷ pattern) (x ∷ bytes) (suc n) few = short_enough (at + 1) pattern bytes n (omega (arith, few))

part : (a b n : ℕ) (xs : List ℕ) → a + b ≤ n → take b (drop a (take n xs)) ≡ take b (drop a xs)
part a b n xs few =
    let parts : n ≡ a + (n - a) = omega (arith, few) in
    ap (λ (k : ℕ). take b (drop a (take k xs))) parts
    ∙ ap (take b) (drop-take a (n - a) xs)
    ∙ take-take b (n - a) (drop a xs) (omega (arith, few))

behind : (a n : ℕ) (xs : List ℕ) → a ≤ n → drop a (take n xs) ≡ take (n - a) (drop a xs)
behind a n xs few =
    let parts : n ≡ a + (n - a) = omega (arith, few) in
    ap (λ (k : ℕ). drop a (take k xs)) parts ∙ drop-take a (n - a) xs

has_front : (n : ℕ) (rest : List ℕ) → 1 ≤ n → has_digest (take n rest) ≡ has_digest rest
has_front zero rest few = absurd (omega (arith, few))
has_front (suc n) [] few = refl
has_front (suc n) (kind ∷ rest) few = refl

entry_front : (n : ℕ) (rest : List ℕ) → 63 ≤ n → entry_in (take n rest) ≡ entry_in rest
entry_front n rest few =
    let has = has_front n rest (omega (arith, few)) in
    let writer = part 1 4 n rest (omega (arith, few)) in
    let seq = part 5 4 n rest (omega (arith, few)) in
    let fields = part 9 4 n rest (omega (arith, few)) in
    let index_len = part 13 8 n rest (omega (arith, few)) in
    let fields_len = part 21 8 n rest (omega (arith, few)) in
    let digest = part 29 32 n rest (omega (arith, few)) in
    λ j. record {
      writer = from_be_bytes w32 (writer j);
      seq = from_be_bytes w32 (seq j);
      fields = from_be_bytes w32 (fields j);
      index_len = from_be_bytes w64 (index_len j);
      fields_len = from_be_bytes w64 (fields_len j);
      digest = if has j then Some (digest j) else None;
    }

tail_length : (two : Bool) → length (any_octets 24 ++ tail_octets two) ≡ 58
tail_length true = refl
tail_length false = refl

fault_front : (i n : ℕ) (rest : List ℕ) → 63 ≤ n → entry_fault i (take n rest) ≡ entry_fault i rest
fault_front i n rest few =
    let tail = any_octets 24 ++ tail_octets (has_digest rest) in
    let most = to_be_bytes w32 (greatest_writer i) in
    let front = take n rest in
    let has = has_front n rest (omega (arith, few)) in
    let long : length tail ≡ 58 = tail_length (has_digest rest) in
    let kind : mismatch (gate_at i + 1) (Some (if has_digest front then 2 else 1) ∷ any_octets 4) front ≡ mismatch (gate_at i + 1) (Some (if has_digest rest then 2 else 1) ∷ any_octets 4) rest =
    ap (λ (two : Bool). mismatch (gate_at i + 1) (Some (if two then 2 else 1) ∷ any_octets 4) front) has
    ∙ short_enough (gate_at i + 1) (Some (if has_digest rest then 2 else 1) ∷ any_octets 4) rest n (omega (arith, few)) in
    let last : mismatch (gate_at i + 6) (any_octets 24 ++ tail_octets (has_digest front)) (drop 5 front) ≡ mismatch (gate_at i + 6) tail (drop 5 rest) =
    ap (λ (two : Bool). mismatch (gate_at i + 6) (any_octets 24 ++ tail_octets two) (drop 5 front)) has
    ∙ ap (mismatch (gate_at i + 6) tail) (behind 5 n rest (omega (arith, few)))
    ∙ short_enough (gate_at i + 6) tail (drop 5 rest) (n - 5) (omega (arith, few, long)) in
    let writer = part 1 4 n rest (omega (arith, few)) in
    λ j. or_else (kind j) (or_else (exceeds (gate_at i + 2) most (writer j)) (last j))

run_front : (room i n : ℕ) (bytes : List ℕ) → 64 * room + 1 ≤ n → run_from room i (take n bytes) ≡ run_from room i bytes
run_front room i zero bytes few = absurd (omega (arith, few))
run_front room i (suc n) [] few = refl
run_front zero i (suc n) (gate ∷ rest) few = refl
run_front (suc room) i (suc n) (gate ∷ rest) few =
    let none : Result (List Entry) NotATable = Ok [] in
    let front = take n rest in
    let more : run_from room (i + 1) (drop 63 front) ≡ run_from room (i + 1) (drop 63 rest) =
    ap (run_from room (i + 1)) (behind 63 n rest (omega (arith, few)))
    ∙ run_front room (i + 1) (n - 63) (drop 63 rest) (omega (arith, few)) in
    ap (λ (r : Result (List Entry) NotATable). if gate == 79 then r else none)
    (ap (λ (f : Option NotATable). unless_fault f (with_entry (entry_in front) (run_from room (i + 1) (drop 63 front)))) (fault_front i n rest (omega (arith, few)))
    ∙ ap (λ (e : Entry). unless_fault (entry_fault i rest) (with_entry e (run_from room (i + 1) (drop 63 front)))) (entry_front n rest (omega (arith, few)))
    ∙ ap (λ (r : Result (List Entry) NotATable). unless_fault (entry_fault i rest) (with_entry (entry_in rest) r)) more)

length_fixed : (xs : List ℕ) → length (fixed xs) ≡ length xs
length_fixed [] = refl
length_fixed (x ∷ xs) = ap suc (length_fixed xs)

listed_take : (dataset bytes : List ℕ) (n : ℕ) → length dataset ≤ 255 → 4194561 ≤ n → listed dataset (take n bytes) ≡ listed dataset bytes
unfolding listed
listed_take dataset bytes n short many =
    let pattern = fixed (header dataset) in
    let long : length pattern ≡ 320 = length_fixed (header dataset) ∙ length-header dataset short in
    ap (λ (f : Option NotATable). unless_fault f (run_from 65535 0 (drop 320 (take n bytes)))) (short_enough 0 pattern bytes n (omega (arith, long, many)))
    ∙ ap (unless_fault (mismatch 0 pattern bytes)) (ap (run_from 65535 0) (behind 320 n bytes (omega (arith, many))) ∙ run_front 65535 0 (n - 320) (drop 320 bytes) (omega (arith, many)))

-- a front lists what all lists
pub listed_front : (dataset front bytes : List ℕ) → length dataset ≤ 255 → IsFront front bytes → listed dataset front ≡ listed dataset bytes
listed_front dataset front bytes short (inl same) = ap (listed dataset) same
listed_front dataset front bytes short (inr (many, is)) = ap (listed dataset) is ∙ listed_take dataset bytes (length front) short many

table_take : (dataset front bytes : List ℕ) (es : List Entry) (n : ℕ) → front ≡ take n bytes → IsTable dataset es front → IsTable dataset es bytes
table_take dataset front bytes es n is t = record {
  gate = t.gate;
  tail = t.tail ++ drop n bytes;
  shut = t.shut;
  is =
      let rest = drop n bytes in
      let front_is : take n bytes ≡ table_of dataset es t.gate t.tail = sym is ∙ t.is in
      let whole : bytes ≡ table_of dataset es t.gate t.tail ++ rest = sym (take-append-drop n bytes) ∙ ap (λ (l : List ℕ). l ++ rest) front_is in
      whole ∙ append_assoc (header dataset ++ slots_of es) (t.gate ∷ t.tail) rest;
  short = t.short;
  fit = t.fit;
  few = t.few;
}

-- where a front is a table of entries, so is all
pub table_front : (dataset front bytes : List ℕ) (es : List Entry) → IsFront front bytes → IsTable dataset es front → IsTable dataset es bytes
table_front dataset front bytes es (inl same) t = subst (IsTable dataset es) same t
table_front dataset front bytes es (inr (many, is)) t = table_take dataset front bytes es (length front) is t

-- the same of a file that may be told
pub listed_told : (dataset front : List ℕ) (file : Option File) (r : Result (List Entry) NotATable) → length dataset ≤ 255 → IfSome file (λ f. IsFront front f.reads) → listed dataset front ≡ r → IfSome file (λ f. listed dataset f.reads ≡ r)
listed_told dataset front None r short is lists = tt
listed_told dataset front (Some f) r short is lists = sym (listed_front dataset front f.reads short is) ∙ lists

pub table_told : (dataset front same : List ℕ) (file : Option File) (es : List Entry) → IfSome file (λ f. IsFront front f.reads) → same ≡ front → IsTable dataset es same → IfSome file (λ f. IsTable dataset es f.reads)
table_told dataset front same None es is eq t = tt
table_told dataset front same (Some f) es is eq t = table_front dataset front f.reads es is (subst (IsTable dataset es) eq t)
