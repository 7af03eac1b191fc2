-- What tables of entries list.
use Rattle.std.proofs.Common.{◌≡◌, ◌≢◌, ℕ, zero, suc, ◌+◌, ◌*◌, ◌^◌, ◌<◌, ◌≤◌, List, [], ◌∷◌, ◌++◌, length, take, drop, refl, sym, ◌∙◌, ap, arith, append_assoc, length-append, take-append-drop, ◌==◌, if◌then◌else◌, Option, None, Some, Ok}
use Rattle.std.proofs.lemmas.Bool.Decides.{nat_tests}
use Rattle.std.proofs.lemmas.List.{take_at, drop_at, length-replicate}
use Rattle.std.proofs.lemmas.Nat.{from_be_bytes-to_be_bytes_4, from_be_bytes-to_be_bytes_8}
use Rattle.std.specs.Int.{w32, to_be_bytes, byte_at}
use Rattle.std.specs.Prelude.{IfSome}
use Rattle.fd_entries.specs.declared.table.Entry.{Entry}
use Rattle.fd_entries.specs.Table.{any_octets, digest_octets, kind_of, tail_octets, header, body_of, slots_of, gate_at, greatest_writer, mismatch, fixed, exceeds, or_else, entry_fault, entry_in, with_entry, unless_fault, run_from, listed, table_of, Fits, AllFit, IsTable}
use Rattle.fd_entries.proofs.Digests.{octets_are}

pub length-body : (e : Entry) → length (body_of e) ≡ 63
length-body e = refl

-- a digest that was read from the octets of a body
digest_read : (d : Option (List ℕ)) → IfSome d (λ x. length x ≡ 32) → (if kind_of d == 2 then Some (digest_octets 32 0 d) else None) ≡ d
digest_read None long = refl
digest_read (Some d) long = ap Some (octets_are d long)

pub entry_read : (i : ℕ) (e : Entry) (rest : List ℕ) → Fits i e → i < 65535 → entry_in (body_of e ++ rest) ≡ e
entry_read i e rest fits small =
    let writer : e.writer < 2 ^ 32 = omega (arith, fits.writer) in
    let w = from_be_bytes-to_be_bytes_4 e.writer writer in
    let s = from_be_bytes-to_be_bytes_4 e.seq fits.seq in
    let f = from_be_bytes-to_be_bytes_4 e.fields fits.fields in
    let x = from_be_bytes-to_be_bytes_8 e.index_len fits.index_len in
    let y = from_be_bytes-to_be_bytes_8 e.fields_len fits.fields_len in
    let d = digest_read e.digest fits.digest in
    λ j. record { writer = w j; seq = s j; fields = f j; index_len = x j; fields_len = y j; digest = d j }

-- four octets that are worth no more
four : (at a b c d a' b' c' d' : ℕ) → a < 256 → b < 256 → c < 256 → d < 256 → a' < 256 → b' < 256 → c' < 256 → d' < 256
    → a * 16777216 + b * 65536 + c * 256 + d ≤ a' * 16777216 + b' * 65536 + c' * 256 + d'
    → exceeds at (a' ∷ b' ∷ c' ∷ d' ∷ []) (a ∷ b ∷ c ∷ d ∷ []) ≡ None
four at a b c d a' b' c' d' la lb lc ld la' lb' lc' ld' le = grind (arith, nat_tests)

not_greater : (at m n : ℕ) → n ≤ m → m < 2 ^ 32 → exceeds at (to_be_bytes w32 m) (to_be_bytes w32 n) ≡ None
not_greater at m n le small =
    let en = from_be_bytes-to_be_bytes_4 n (omega arith) in
    let em = from_be_bytes-to_be_bytes_4 m small in
    four at (byte_at 3 n) (byte_at 2 n) (byte_at 1 n) (byte_at 0 n) (byte_at 3 m) (byte_at 2 m) (byte_at 1 m) (byte_at 0 m)
    (omega arith) (omega arith) (omega arith) (omega arith) (omega arith) (omega arith) (omega arith) (omega arith) (omega (arith, en, em))

-- so many places further
abbrev past : ℕ → ℕ → ℕ
past zero at = at
past (suc n) at = past n (at + 1)

kind_met : (d : Option (List ℕ)) (at : ℕ) (rest : List ℕ) (p : List (Option ℕ)) → mismatch at (Some (if kind_of d == 2 then 2 else 1) ∷ p) (kind_of d ∷ rest) ≡ mismatch (at + 1) p rest
kind_met None at rest p = refl
kind_met (Some d) at rest p = refl

tail_met : (d : Option (List ℕ)) (at : ℕ) (rest : List ℕ) → mismatch at (tail_octets (kind_of d == 2)) (digest_octets 32 0 d ++ 0 ∷ 0 ∷ rest) ≡ None
tail_met None at rest = refl
tail_met (Some d) at rest = refl

pub no_fault : (i : ℕ) (e : Entry) (rest : List ℕ) → Fits i e → i < 65535 → entry_fault i (body_of e ++ rest) ≡ None
no_fault i e rest fits small =
    let kind = kind_met e.digest (gate_at i + 1) (drop 1 (body_of e ++ rest)) (any_octets 4) in
    let writer = not_greater (gate_at i + 2) (greatest_writer i) e.writer fits.writer (omega arith) in
    let tail = tail_met e.digest (past 24 (gate_at i + 6)) rest in
    λ j. or_else (kind j) (or_else (writer j) (tail j))

pub run-slots : (room i : ℕ) (es : List Entry) (gate : ℕ) (tail : List ℕ) → AllFit i es → length es ≤ room → i + length es ≤ 65535 → gate ≢ 79 → run_from room i (slots_of es ++ gate ∷ tail) ≡ Ok es
run-slots zero i [] gate tail fit few small shut = grind (arith, nat_tests)
run-slots (suc room) i [] gate tail fit few small shut = grind (arith, nat_tests)
run-slots zero i (e ∷ es) gate tail fit few small shut = absurd (omega arith)
run-slots (suc room) i (e ∷ es) gate tail fit few small shut =
    let rest = slots_of es ++ gate ∷ tail in
    ap (λ f. unless_fault f (with_entry (entry_in (body_of e ++ rest)) (run_from room (i + 1) rest))) (no_fault i e rest fit.0 (omega arith))
    ∙ ap (λ d. with_entry d (run_from room (i + 1) rest)) (entry_read i e rest fit.0 (omega arith))
    ∙ ap (with_entry e) (run-slots room (i + 1) es gate tail fit.1 (omega arith) (omega arith) shut)

pub length-header : (dataset : List ℕ) → length dataset ≤ 255 → length (header dataset) ≡ 320
length-header dataset short = simp (length-append, length-replicate) (omega arith)

pub length-slots : (es : List Entry) → length (slots_of es) ≡ 64 * length es
length-slots [] = refl
length-slots (e ∷ es) = omega (arith, length-slots es)

pub no_mismatch : (at : ℕ) (xs rest : List ℕ) → mismatch at (fixed xs) (xs ++ rest) ≡ None
no_mismatch at [] rest = refl
no_mismatch at (x ∷ xs) rest = let ih = no_mismatch (at + 1) xs rest in grind (arith, nat_tests, ih)

-- a table lists its entries
pub listed_table : (dataset : List ℕ) (es : List Entry) (bytes : List ℕ) → IsTable dataset es bytes → listed dataset bytes ≡ Ok es
unfolding listed
listed_table dataset es bytes t =
    let rest = slots_of es ++ t.gate ∷ t.tail in
    let split : bytes ≡ header dataset ++ rest = t.is ∙ append_assoc (header dataset) (slots_of es) (t.gate ∷ t.tail) in
    let behind : drop 320 bytes ≡ rest = ap (drop 320) split ∙ drop_at (header dataset) rest 320 (length-header dataset t.short) in
    ap (λ b. unless_fault (mismatch 0 (fixed (header dataset)) b) (run_from 65535 0 (drop 320 bytes))) split
    ∙ ap (λ f. unless_fault f (run_from 65535 0 (drop 320 bytes))) (no_mismatch 0 (header dataset) rest)
    ∙ ap (run_from 65535 0) behind
    ∙ run-slots 65535 0 es t.gate t.tail t.fit t.few (omega (arith, t.few)) t.shut

abbrev pub end_of : List Entry → ℕ
end_of es = gate_at (length es)

pub length-front : (dataset : List ℕ) (es : List Entry) → length dataset ≤ 255 → length (header dataset ++ slots_of es) ≡ end_of es
length-front dataset es short = omega (arith, length-append (header dataset) (slots_of es), length-header dataset short, length-slots es)

abbrev pub front_of : List ℕ → List Entry → ℕ → List ℕ
front_of dataset es gate = (header dataset ++ slots_of es) ++ gate ∷ []

pub length-front_of : (dataset : List ℕ) (es : List Entry) (gate : ℕ) → length dataset ≤ 255 → length (front_of dataset es gate) ≡ end_of es + 1
length-front_of dataset es gate short = omega (arith, length-append (header dataset ++ slots_of es) (gate ∷ []), length-front dataset es short)

pub table_split : (dataset : List ℕ) (es : List Entry) (gate : ℕ) (tail : List ℕ) → table_of dataset es gate tail ≡ front_of dataset es gate ++ tail
table_split dataset es gate tail = sym (append_assoc (header dataset ++ slots_of es) (gate ∷ []) tail)

-- what stands up to the closed gate says which entries a table has
pub table_front : (dataset : List ℕ) (es : List Entry) (b c : List ℕ) → IsTable dataset es b → take (end_of es + 1) c ≡ take (end_of es + 1) b → IsTable dataset es c
table_front dataset es b c t same =
    let front : take (end_of es + 1) b ≡ front_of dataset es t.gate =
    ap (take (end_of es + 1)) (t.is ∙ table_split dataset es t.gate t.tail) ∙ take_at (front_of dataset es t.gate) t.tail (end_of es + 1) (length-front_of dataset es t.gate t.short) in
    let rest = drop (end_of es + 1) c in
    record {
      gate = t.gate;
      tail = rest;
      shut = t.shut;
      is = sym (take-append-drop (end_of es + 1) c) ∙ ap (λ (l : List ℕ). l ++ rest) (same ∙ front) ∙ sym (table_split dataset es t.gate rest);
      short = t.short;
      fit = t.fit;
      few = t.few;
    }

pub table_long : (dataset : List ℕ) (es : List Entry) (b : List ℕ) → IsTable dataset es b → end_of es + 1 ≤ length b
table_long dataset es b t =
    let l : length b ≡ length (front_of dataset es t.gate ++ t.tail) = ap length (t.is ∙ table_split dataset es t.gate t.tail) in
    omega (arith, l, length-append (front_of dataset es t.gate) t.tail, length-front_of dataset es t.gate t.short)
