-- Bytes that list entries are a table of them.
use Rattle.std.proofs.Common.{◌≡◌, ◌≢◌, ◌⊎◌, inl, inr, ℕ, zero, suc, ◌+◌, ◌*◌, ◌^◌, ◌<◌, ◌≤◌, ◌==◌, Bool, true, false, if◌then◌else◌, List, [], ◌∷◌, ◌++◌, length, take, drop, get_or, replicate, refl, sym, ◌∙◌, ap, subst, arith, append_assoc, take-append-drop, length-drop, Option, Some, None, Result, Ok, Err}
use Rattle.std.proofs.lemmas.Bool.Decides.{nat_tests, Decides-eqb}
use Rattle.std.proofs.lemmas.List.{drop-drop, length-take-le, get_or-drop}
use Rattle.std.proofs.lemmas.Nat.{be_bytes_4, be_bytes_8, from_be_bytes-to_be_bytes_4}
use Rattle.std.specs.Int.{w32, w64, to_be_bytes, from_be_bytes, byte_at}
use Rattle.std.specs.Prelude.{IfSome}
use Rattle.fd_entries.specs.declared.table.Entry.{Entry}
use Rattle.fd_entries.specs.declared.table.NotATable.{NotATable}
use Rattle.fd_entries.specs.Table.{AreOctets, digest_octets, kind_of, tail_octets, header, body_of, slots_of, gate_at, greatest_writer, mismatch, fixed, any_octets, exceeds, or_else, entry_fault, entry_in, with_entry, unless_fault, run_from, listed, Fits, AllFit, IsTable}
use Rattle.fd_entries.proofs.Digests.{octets_are}
use Rattle.fd_entries.proofs.Slots.{length-header}

pub is_or_not : (b : Bool) → (b ≡ true) ⊎ (b ≡ false)
is_or_not true = inl refl
is_or_not false = inr refl

pub front_is : (at : ℕ) (xs bytes : List ℕ) → mismatch at (fixed xs) bytes ≡ None → bytes ≡ xs ++ drop (length xs) bytes
front_is at [] bytes is = refl
front_is at (x ∷ xs) [] is = absurd (cc is)
front_is at (x ∷ xs) (b ∷ bytes) is = elim (is_or_not (b == x)) [
  | inl same ↦
      let e : b ≡ x = (Decides-eqb b x).0 same in
      let rest : mismatch (at + 1) (fixed xs) bytes ≡ None = sym (ap (λ (t : Bool). if t then mismatch (at + 1) (fixed xs) bytes else Some (record { at = at; want = x; found = Some b })) same) ∙ is in
      let ih = front_is (at + 1) xs bytes rest in
      λ j. e j ∷ ih j
  | inr other ↦ absurd (cc (sym (ap (λ (t : Bool). if t then mismatch (at + 1) (fixed xs) bytes else Some (record { at = at; want = x; found = Some b })) other) ∙ is))
]

passes : (n at : ℕ) (p : List (Option ℕ)) (bytes : List ℕ) → mismatch at (any_octets n ++ p) bytes ≡ None → (m : ℕ) × ((n ≤ length bytes) × (mismatch m p (drop n bytes) ≡ None))
passes zero at p bytes is = (at, (omega arith, is))
passes (suc n) at p [] is = absurd (cc is)
passes (suc n) at p (b ∷ bytes) is = let ih = passes n (at + 1) p bytes is in (ih.0, (omega (arith, ih.1.0), ih.1.1))

or_none : (a b : Option NotATable) → or_else a b ≡ None → (a ≡ None) × (b ≡ None)
or_none None b is = (refl, is)
or_none (Some f) b is = absurd (cc is)

pub octets_drop : (n : ℕ) (bytes : List ℕ) → AreOctets bytes → AreOctets (drop n bytes)
octets_drop n bytes all = record { each = λ i. let e = get_or-drop n bytes i 0 in omega (arith, e, all.each (n + i)) }

octets_take : (n : ℕ) (bytes : List ℕ) → AreOctets bytes → AreOctets (take n bytes)
octets_take zero bytes all = record { each = λ i. omega arith }
octets_take (suc n) [] all = record { each = λ i. omega arith }
octets_take (suc n) (b ∷ bytes) all = record { each = go (octets_take n bytes (record { each = λ i. all.each (suc i) })) }
  where
    go : AreOctets (take n bytes) → (i : ℕ) → get_or (b ∷ take n bytes) i 0 < 256
    go ih zero = all.each zero
    go ih (suc i) = ih.each i

octets_4 : (xs : List ℕ) → length xs ≡ 4 → AreOctets xs → from_be_bytes w32 xs < 2 ^ 32
octets_4 (a ∷ b ∷ c ∷ d ∷ []) is all = omega (arith, all.each 0, all.each 1, all.each 2, all.each 3)
octets_4 (a ∷ b ∷ c ∷ d ∷ e ∷ xs) is all = absurd (omega arith)
octets_4 (a ∷ b ∷ c ∷ []) is all = absurd (omega arith)
octets_4 (a ∷ b ∷ []) is all = absurd (omega arith)
octets_4 (a ∷ []) is all = absurd (omega arith)
octets_4 [] is all = absurd (omega arith)

octets_8 : (xs : List ℕ) → length xs ≡ 8 → AreOctets xs → from_be_bytes w64 xs < 2 ^ 64
octets_8 (a ∷ b ∷ c ∷ d ∷ e ∷ f ∷ g ∷ h ∷ []) is all = omega (arith, all.each 0, all.each 1, all.each 2, all.each 3, all.each 4, all.each 5, all.each 6, all.each 7)
octets_8 (a ∷ b ∷ c ∷ d ∷ e ∷ f ∷ g ∷ h ∷ x ∷ xs) is all = absurd (omega arith)
octets_8 (a ∷ b ∷ c ∷ d ∷ e ∷ f ∷ g ∷ []) is all = absurd (omega arith)
octets_8 (a ∷ b ∷ c ∷ d ∷ e ∷ f ∷ []) is all = absurd (omega arith)
octets_8 (a ∷ b ∷ c ∷ d ∷ e ∷ []) is all = absurd (omega arith)
octets_8 (a ∷ b ∷ c ∷ d ∷ []) is all = absurd (omega arith)
octets_8 (a ∷ b ∷ c ∷ []) is all = absurd (omega arith)
octets_8 (a ∷ b ∷ []) is all = absurd (omega arith)
octets_8 (a ∷ []) is all = absurd (omega arith)
octets_8 [] is all = absurd (omega arith)

module _ (bytes : List ℕ) (all : AreOctets bytes) where
  long_enough : (n k : ℕ) → n + k ≤ length bytes → length (take k (drop n bytes)) ≡ k
  long_enough n k le = length-take-le k (drop n bytes) (omega (arith, length-drop n bytes))

  piece_octets : (n k : ℕ) → AreOctets (take k (drop n bytes))
  piece_octets n k = octets_take k (drop n bytes) (octets_drop n bytes all)

  number_4 : (n : ℕ) → n + 4 ≤ length bytes → to_be_bytes w32 (from_be_bytes w32 (take 4 (drop n bytes))) ≡ take 4 (drop n bytes)
  number_4 n le = be_bytes_4 (take 4 (drop n bytes)) _ (long_enough n 4 le) (piece_octets n 4).each refl

  number_8 : (n : ℕ) → n + 8 ≤ length bytes → to_be_bytes w64 (from_be_bytes w64 (take 8 (drop n bytes))) ≡ take 8 (drop n bytes)
  number_8 n le = be_bytes_8 (take 8 (drop n bytes)) _ (long_enough n 8 le) (piece_octets n 8).each refl

  step_4 : (n : ℕ) → n + 4 ≤ length bytes → drop n bytes ≡ to_be_bytes w32 (from_be_bytes w32 (take 4 (drop n bytes))) ++ drop (n + 4) bytes
  step_4 n le = sym (take-append-drop 4 (drop n bytes)) ∙ (λ j. sym (number_4 n le) j ++ drop-drop 4 n bytes j)

  step_8 : (n : ℕ) → n + 8 ≤ length bytes → drop n bytes ≡ to_be_bytes w64 (from_be_bytes w64 (take 8 (drop n bytes))) ++ drop (n + 8) bytes
  step_8 n le = sym (take-append-drop 8 (drop n bytes)) ∙ (λ j. sym (number_8 n le) j ++ drop-drop 8 n bytes j)

-- four octets that don't exceed are worth no more
four_back : (at a b c d a' b' c' d' : ℕ) → a < 256 → b < 256 → c < 256 → d < 256 → a' < 256 → b' < 256 → c' < 256 → d' < 256
    → exceeds at (a' ∷ b' ∷ c' ∷ d' ∷ []) (a ∷ b ∷ c ∷ d ∷ []) ≡ None
    → a * 16777216 + b * 65536 + c * 256 + d ≤ a' * 16777216 + b' * 65536 + c' * 256 + d'
four_back at a b c d a' b' c' d' la lb lc ld la' lb' lc' ld' is = grind (arith, nat_tests)

not_more : (at m n : ℕ) → n < 2 ^ 32 → m < 2 ^ 32 → exceeds at (to_be_bytes w32 m) (to_be_bytes w32 n) ≡ None → n ≤ m
not_more at m n small_n small is =
    let en = from_be_bytes-to_be_bytes_4 n small_n in
    let em = from_be_bytes-to_be_bytes_4 m small in
    let le = four_back at (byte_at 3 n) (byte_at 2 n) (byte_at 1 n) (byte_at 0 n) (byte_at 3 m) (byte_at 2 m) (byte_at 1 m) (byte_at 0 m)
    (omega arith) (omega arith) (omega arith) (omega arith) (omega arith) (omega arith) (omega arith) (omega arith) is in
    omega (arith, en, em, le)

pub record IsEntry (i : ℕ) (bytes : List ℕ) : Type 0 where
  pub is : bytes ≡ body_of (entry_in bytes) ++ drop 63 bytes
  pub fits : Fits i (entry_in bytes)

-- what stands behind the numbers of an entry
record IsTail (b : ℕ) (bytes : List ℕ) : Type 0 where
  digest : Option (List ℕ)
  kind : b ≡ kind_of digest
  read : (if b == 2 then Some (take 32 (drop 29 bytes)) else None) ≡ digest
  long : IfSome digest (λ d. length d ≡ 32)
  numbers : 29 ≤ length bytes
  tail : drop 29 bytes ≡ digest_octets 32 0 digest ++ 0 ∷ 0 ∷ drop 63 bytes

abbrev kind_fault : ℕ → Bool → List ℕ → Option NotATable
kind_fault at two bytes = mismatch at (Some (if two then 2 else 1) ∷ any_octets 4) bytes

-- the octets behind the numbers are zeros
tail_1 : (i b : ℕ) (rest : List ℕ) → (b == 2) ≡ false → kind_fault (gate_at i + 1) (b == 2) (b ∷ rest) ≡ None
    → mismatch (gate_at i + 6) (any_octets 24 ++ tail_octets (b == 2)) (drop 5 (b ∷ rest)) ≡ None → IsTail b (b ∷ rest)
tail_1 i b rest other first third =
    let bytes : List ℕ = b ∷ rest in
    let one : kind_fault (gate_at i + 1) false bytes ≡ None = sym (ap (λ (t : Bool). kind_fault (gate_at i + 1) t bytes) other) ∙ first in
    let kind : b ≡ 1 = elim (is_or_not (b == 1)) [
      | inl same ↦ (Decides-eqb b 1).0 same
      | inr differs ↦ absurd (cc (sym (ap (λ (t : Bool). if t then mismatch (gate_at i + 1 + 1) (any_octets 4) rest else Some (record { at = gate_at i + 1; want = 1; found = Some b })) differs) ∙ one))
    ] in
    let behind : mismatch (gate_at i + 6) (any_octets 24 ++ fixed (replicate 34 0)) (drop 5 bytes) ≡ None =
    sym (ap (λ (t : Bool). mismatch (gate_at i + 6) (any_octets 24 ++ tail_octets t) (drop 5 bytes)) other) ∙ third in
    let last = passes 24 (gate_at i + 6) (fixed (replicate 34 0)) (drop 5 bytes) behind in
    let zeros = front_is last.0 (replicate 34 0) (drop 24 (drop 5 bytes)) last.1.1 in
    let e29 : drop 29 bytes ≡ drop 24 (drop 5 bytes) = sym (drop-drop 24 5 bytes) in
    let e63 : drop 34 (drop 24 (drop 5 bytes)) ≡ drop 63 bytes = ap (drop 34) (sym e29) ∙ drop-drop 34 29 bytes in
    record {
      digest = None;
      kind = kind;
      read = ap (λ (t : Bool). if t then Some (take 32 (drop 29 bytes)) else None) other;
      long = tt;
      numbers = omega (arith, last.1.0, length-drop 5 bytes);
      tail = e29 ∙ zeros ∙ ap (λ (r : List ℕ). replicate 34 0 ++ r) e63;
    }

-- the octets behind the numbers are a digest
tail_2 : (i b : ℕ) (rest : List ℕ) → (b == 2) ≡ true → mismatch (gate_at i + 6) (any_octets 24 ++ tail_octets (b == 2)) (drop 5 (b ∷ rest)) ≡ None → IsTail b (b ∷ rest)
tail_2 i b rest two third =
    let bytes : List ℕ = b ∷ rest in
    let behind : mismatch (gate_at i + 6) (any_octets 24 ++ (any_octets 32 ++ fixed (replicate 2 0))) (drop 5 bytes) ≡ None =
    sym (ap (λ (t : Bool). mismatch (gate_at i + 6) (any_octets 24 ++ tail_octets t) (drop 5 bytes)) two) ∙ third in
    let last = passes 24 (gate_at i + 6) (any_octets 32 ++ fixed (replicate 2 0)) (drop 5 bytes) behind in
    let after = passes 32 last.0 (fixed (replicate 2 0)) (drop 24 (drop 5 bytes)) last.1.1 in
    let zeros = front_is after.0 (replicate 2 0) (drop 32 (drop 24 (drop 5 bytes))) after.1.1 in
    let e29 : drop 24 (drop 5 bytes) ≡ drop 29 bytes = drop-drop 24 5 bytes in
    let e61 : drop 32 (drop 24 (drop 5 bytes)) ≡ drop 32 (drop 29 bytes) = ap (drop 32) e29 in
    let e63 : drop 2 (drop 32 (drop 24 (drop 5 bytes))) ≡ drop 63 bytes = ap (drop 2) (e61 ∙ drop-drop 32 29 bytes) ∙ drop-drop 2 61 bytes in
    let d = take 32 (drop 29 bytes) in
    let long : length d ≡ 32 = length-take-le 32 (drop 29 bytes) (omega (arith, after.1.0, ap length e29)) in
    record {
      digest = Some d;
      kind = (Decides-eqb b 2).0 two;
      read = ap (λ (t : Bool). if t then Some (take 32 (drop 29 bytes)) else None) two;
      long = long;
      numbers = omega (arith, last.1.0, length-drop 5 bytes);
      tail = sym (take-append-drop 32 (drop 29 bytes)) ∙ (λ j. sym (octets_are d long) j ++ (sym e61 ∙ zeros ∙ ap (λ (r : List ℕ). 0 ∷ 0 ∷ r) e63) j);
    }

-- bytes without a fault are an entry's
pub entry_is : (i : ℕ) (bytes : List ℕ) → AreOctets bytes → i < 65535 → entry_fault i bytes ≡ None → IsEntry i bytes
entry_is i [] all small none = absurd (cc none)
entry_is i (b ∷ rest) all small none =
    let bytes : List ℕ = b ∷ rest in
    let first = or_none (kind_fault (gate_at i + 1) (b == 2) bytes) _ none in
    let second = or_none (exceeds (gate_at i + 2) (to_be_bytes w32 (greatest_writer i)) (take 4 (drop 1 bytes))) _ first.1 in
    let t : IsTail b bytes = elim (is_or_not (b == 2)) [
      | inl two ↦ tail_2 i b rest two second.1
      | inr other ↦ tail_1 i b rest other first.0 second.1
    ] in
    let long : 29 ≤ length bytes = t.numbers in
    let w = from_be_bytes w32 (take 4 (drop 1 bytes)) in
    let s = from_be_bytes w32 (take 4 (drop 5 bytes)) in
    let f = from_be_bytes w32 (take 4 (drop 9 bytes)) in
    let x = from_be_bytes w64 (take 8 (drop 13 bytes)) in
    let y = from_be_bytes w64 (take 8 (drop 21 bytes)) in
    let small_w : w < 2 ^ 32 = octets_4 _ (long_enough bytes all 1 4 (omega arith)) (piece_octets bytes all 1 4) in
    record {
      is = (λ j. t.kind j ∷ rest)
          ∙ ap (λ (r : List ℕ). kind_of t.digest ∷ r) (step_4 bytes all 1 (omega arith))
          ∙ ap (λ (r : List ℕ). kind_of t.digest ∷ (to_be_bytes w32 w ++ r)) (step_4 bytes all 5 (omega arith))
          ∙ ap (λ (r : List ℕ). kind_of t.digest ∷ (to_be_bytes w32 w ++ (to_be_bytes w32 s ++ r))) (step_4 bytes all 9 (omega arith))
          ∙ ap (λ (r : List ℕ). kind_of t.digest ∷ (to_be_bytes w32 w ++ (to_be_bytes w32 s ++ (to_be_bytes w32 f ++ r)))) (step_8 bytes all 13 (omega arith))
          ∙ ap (λ (r : List ℕ). kind_of t.digest ∷ (to_be_bytes w32 w ++ (to_be_bytes w32 s ++ (to_be_bytes w32 f ++ (to_be_bytes w64 x ++ r))))) (step_8 bytes all 21 (omega arith))
          ∙ ap (λ (r : List ℕ). kind_of t.digest ∷ (to_be_bytes w32 w ++ (to_be_bytes w32 s ++ (to_be_bytes w32 f ++ (to_be_bytes w64 x ++ (to_be_bytes w64 y ++ r)))))) t.tail
          ∙ ap (λ (d : Option (List ℕ)). kind_of d ∷ (to_be_bytes w32 w ++ (to_be_bytes w32 s ++ (to_be_bytes w32 f ++ (to_be_bytes w64 x ++ (to_be_bytes w64 y ++ (digest_octets 32 0 d ++ 0 ∷ 0 ∷ drop 63 bytes))))))) (sym t.read);
      fits = record {
        writer = not_more (gate_at i + 2) (greatest_writer i) w small_w (omega arith) (ap (exceeds (gate_at i + 2) (to_be_bytes w32 (greatest_writer i))) (number_4 bytes all 1 (omega arith)) ∙ second.0);
        seq = octets_4 _ (long_enough bytes all 5 4 (omega arith)) (piece_octets bytes all 5 4);
        fields = octets_4 _ (long_enough bytes all 9 4 (omega arith)) (piece_octets bytes all 9 4);
        index_len = octets_8 _ (long_enough bytes all 13 8 (omega arith)) (piece_octets bytes all 13 8);
        fields_len = octets_8 _ (long_enough bytes all 21 8 (omega arith)) (piece_octets bytes all 21 8);
        digest = subst (λ (d : Option (List ℕ)). IfSome d (λ x. length x ≡ 32)) (sym t.read) t.long;
      };
    }

record IsRun (room i : ℕ) (es : List Entry) (bytes : List ℕ) : Type 0 where
  gate : ℕ
  tail : List ℕ
  shut : gate ≢ 79
  is : bytes ≡ slots_of es ++ gate ∷ tail
  fit : AllFit i es
  few : length es ≤ room

pub unless_ok : (f : Option NotATable) (r : Result (List Entry) NotATable) (es : List Entry) → unless_fault f r ≡ Ok es → (f ≡ None) × (r ≡ Ok es)
unless_ok None r es is = (refl, is)
unless_ok (Some f) r es is = absurd (cc is)

with_ok : (e : Entry) (r : Result (List Entry) NotATable) (es : List Entry) → with_entry e r ≡ Ok es → (more : List Entry) × ((r ≡ Ok more) × (es ≡ e ∷ more))
with_ok e (Ok more) es is = (more, (refl, cc is))
with_ok e (Err f) es is = absurd (cc is)

abbrev closed : Result (List Entry) NotATable
closed = Ok []

none_run : (room i gate : ℕ) (rest : List ℕ) (es : List Entry) → (gate == 79) ≡ false → closed ≡ Ok es → IsRun room i es (gate ∷ rest)
none_run room i gate rest es other is =
    let empty : [] ≡ es = cc is in
    subst (λ (l : List Entry). IsRun room i l (gate ∷ rest)) empty (record {
      gate = gate;
      tail = rest;
      shut = λ same. cc (other, (Decides-eqb gate 79).1 same);
      is = refl;
      fit = tt;
      few = omega arith;
    })

run_is : (room i : ℕ) (bytes : List ℕ) (es : List Entry) → AreOctets bytes → i + room ≤ 65535 → run_from room i bytes ≡ Ok es → IsRun room i es bytes
run_is zero i [] es all le is = absurd (cc is)
run_is (suc room) i [] es all le is = absurd (cc is)
run_is zero i (gate ∷ rest) es all le is = elim (is_or_not (gate == 79)) [
  | inl same ↦ absurd (cc (sym (ap (λ (t : Bool). if t then Err (record { at = gate_at i; want = 0; found = Some gate }) else closed) same) ∙ is))
  | inr other ↦ none_run zero i gate rest es other (sym (ap (λ (t : Bool). if t then Err (record { at = gate_at i; want = 0; found = Some gate }) else closed) other) ∙ is)
]
run_is (suc room) i (gate ∷ rest) es all le is =
    let next : Result (List Entry) NotATable = unless_fault (entry_fault i rest) (with_entry (entry_in rest) (run_from room (i + 1) (drop 63 rest))) in
    elim (is_or_not (gate == 79)) [
      | inl same ↦
          let open_gate : gate ≡ 79 = (Decides-eqb gate 79).0 same in
          let later : AreOctets rest = octets_drop 1 (gate ∷ rest) all in
          let whole = unless_ok (entry_fault i rest) _ es (sym (ap (λ (t : Bool). if t then next else closed) same) ∙ is) in
          let here = entry_is i rest later (omega arith) whole.0 in
          let one = with_ok (entry_in rest) (run_from room (i + 1) (drop 63 rest)) es whole.1 in
          let run = run_is room (i + 1) (drop 63 rest) one.0 (octets_drop 63 rest later) (omega arith) one.1.0 in
          subst (λ (l : List Entry). IsRun (suc room) i l (gate ∷ rest)) (sym one.1.1) (record {
            gate = run.gate;
            tail = run.tail;
            shut = run.shut;
            is = (λ j. open_gate j ∷ here.is j) ∙ ap (λ (r : List ℕ). 79 ∷ (body_of (entry_in rest) ++ r)) run.is;
            fit = (here.fits, run.fit);
            few = omega (arith, run.few);
          })
      | inr other ↦ none_run (suc room) i gate rest es other (sym (ap (λ (t : Bool). if t then next else closed) other) ∙ is)
    ]

-- what lists entries is a table of them
pub table_listed : (dataset bytes : List ℕ) (es : List Entry) → length dataset ≤ 255 → AreOctets bytes → listed dataset bytes ≡ Ok es → IsTable dataset es bytes
unfolding listed
table_listed dataset bytes es short all is =
    let parts = unless_ok (mismatch 0 (fixed (header dataset)) bytes) (run_from 65535 0 (drop 320 bytes)) es is in
    let front = front_is 0 (header dataset) bytes parts.0 in
    let run = run_is 65535 0 (drop 320 bytes) es (octets_drop 320 bytes all) (omega arith) parts.1 in
    record {
      gate = run.gate;
      tail = run.tail;
      shut = run.shut;
      is = front
          ∙ ap (λ (n : ℕ). header dataset ++ drop n bytes) (length-header dataset short)
          ∙ ap (λ (r : List ℕ). header dataset ++ r) run.is
          ∙ sym (append_assoc (header dataset) (slots_of es) (run.gate ∷ run.tail));
      short = short;
      fit = run.fit;
      few = run.few;
    }
