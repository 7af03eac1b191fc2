-- What a table lists and the greatest number of a writer, slot by slot.
use Rattle.std.proofs.Common.{◌≡◌, ◌≢◌, inl, inr, ◌==◌, if◌then◌else◌, ℕ, zero, suc, ◌+◌, ◌-◌, ◌*◌, ◌<◌, ◌≤◌, max, Bool, true, false, List, [], ◌∷◌, ◌++◌, length, take, drop, get_or, refl, sym, ◌∙◌, ap, arith, append_assoc}
use Rattle.std.proofs.lemmas.Bool.{cases_eq}
use Rattle.std.proofs.lemmas.List.{drop_more, take_more, take_all, get_or-drop, drop_at, drop-drop, get_or-append_right}
use Rattle.std.specs.Int.{w32, from_be_bytes}
use Rattle.fd_entries.specs.declared.table.Entry.{Entry}
use Rattle.fd_entries.specs.Table.{header, slots_of, body_of, gate_at, entry_in, listed}
use Rattle.fd_entries.specs.Numbers.{ListsSome, entries_or_none, greatest_seq}
use Rattle.fd_entries.proofs.Slots.{listed_table, table_long, length-slots}
use Rattle.fd_entries.proofs.SlotReading.{no_entry, entry_at, front_of_table}

pub four_at : (xs : List ℕ) (at : ℕ) → at + 4 ≤ length xs → take 4 (drop at xs) ≡ get_or xs at 0 ∷ get_or xs (at + 1) 0 ∷ get_or xs (at + 2) 0 ∷ get_or xs (at + 3) 0 ∷ []
four_at xs at le =
    let two : (at + 1) + 1 ≡ at + 2 = omega arith in
    let three : (at + 2) + 1 ≡ at + 3 = omega arith in
    let four : (at + 3) + 1 ≡ at + 4 = omega arith in
    ap (take 4) (drop_more xs at 0 (omega (arith, le)))
    ∙ ap (λ (l : List ℕ). take 4 (get_or xs at 0 ∷ l)) (drop_more xs (at + 1) 0 (omega (arith, le)))
    ∙ ap (λ (n : ℕ). take 4 (get_or xs at 0 ∷ get_or xs (at + 1) 0 ∷ drop n xs)) two
    ∙ ap (λ (l : List ℕ). take 4 (get_or xs at 0 ∷ get_or xs (at + 1) 0 ∷ l)) (drop_more xs (at + 2) 0 (omega (arith, le)))
    ∙ ap (λ (n : ℕ). take 4 (get_or xs at 0 ∷ get_or xs (at + 1) 0 ∷ get_or xs (at + 2) 0 ∷ drop n xs)) three
    ∙ ap (λ (l : List ℕ). take 4 (get_or xs at 0 ∷ get_or xs (at + 1) 0 ∷ get_or xs (at + 2) 0 ∷ l)) (drop_more xs (at + 3) 0 (omega (arith, le)))

slot_gate : (i : ℕ) (es : List Entry) (rest : List ℕ) → i < length es → get_or (slots_of es ++ rest) (64 * i) 0 ≡ 79
slot_gate i [] rest lt = absurd (omega arith)
slot_gate zero (e ∷ es) rest lt = refl
slot_gate (suc i) (e ∷ es) rest lt =
    let next : 64 * suc i ≡ 64 + 64 * i = omega arith in
    let all = 79 ∷ body_of e ++ (slots_of es ++ rest) in
    ap (λ (n : ℕ). get_or all n 0) next ∙ sym (get_or-drop 64 all (64 * i) 0) ∙ slot_gate i es rest (omega arith)

module _ (bytes : List ℕ) (t : ListsSome bytes) where
  split : bytes ≡ header [] ++ (slots_of t.entries ++ t.table.gate ∷ t.table.tail)
  split = t.table.is ∙ append_assoc (header []) (slots_of t.entries) (t.table.gate ∷ t.table.tail)

  pub long : 321 + 64 * length t.entries ≤ length bytes
  long = omega (arith, table_long [] t.entries bytes t.table)

  at_gate : (i : ℕ) → get_or bytes (320 + 64 * i) 0 ≡ get_or (slots_of t.entries ++ t.table.gate ∷ t.table.tail) (64 * i) 0
  at_gate i = sym (get_or-drop 320 bytes (64 * i) 0) ∙ ap (λ (l : List ℕ). get_or l (64 * i) 0) (ap (drop 320) split ∙ drop_at (header []) (slots_of t.entries ++ t.table.gate ∷ t.table.tail) 320 refl)

  open_gate : (i : ℕ) → i < length t.entries → get_or bytes (320 + 64 * i) 0 ≡ 79
  open_gate i lt = at_gate i ∙ slot_gate i t.entries (t.table.gate ∷ t.table.tail) lt

  last_gate : get_or bytes (320 + 64 * length t.entries) 0 ≡ t.table.gate
  last_gate =
      let l = length-slots t.entries in
      let none : 64 * length t.entries - 64 * length t.entries ≡ 0 = omega arith in
      at_gate (length t.entries) ∙ get_or-append_right (slots_of t.entries) (t.table.gate ∷ t.table.tail) (64 * length t.entries) (64 * length t.entries) 0 l (omega arith)
      ∙ ap (λ (n : ℕ). get_or (t.table.gate ∷ t.table.tail) n 0) none

  -- an open gate has an entry behind it
  pub opened : (i : ℕ) → i ≤ length t.entries → get_or bytes (320 + 64 * i) 0 ≡ 79 → i < length t.entries
  opened i le is = elim (cases_eq i (length t.entries)) [
    | inl same ↦ absurd (t.table.shut (sym last_gate ∙ ap (λ (n : ℕ). get_or bytes (320 + 64 * n) 0) (sym same) ∙ is))
    | inr differs ↦ omega (arith, le, differs)
  ]

  pub closed : (i : ℕ) → i ≤ length t.entries → get_or bytes (320 + 64 * i) 0 ≢ 79 → i ≡ length t.entries
  closed i le differs = elim (cases_eq i (length t.entries)) [
    | inl same ↦ same
    | inr less ↦ absurd (differs (open_gate i (omega (arith, le, less))))
  ]

  pub in_range : (i : ℕ) → i < length t.entries → 330 + 64 * i ≤ length bytes
  in_range i lt = omega (arith, long, lt)

  -- what is read behind gate i
  pub writer_at : (i : ℕ) → i < length t.entries → from_be_bytes w32 (take 4 (drop (322 + 64 * i) bytes)) ≡ (get_or t.entries i no_entry).writer
  writer_at i lt =
      let place : 322 + 64 * i ≡ (gate_at i + 1) + 1 = omega arith in
      ap (λ (n : ℕ). from_be_bytes w32 (take 4 (drop n bytes))) place ∙ ap (λ (l : List ℕ). from_be_bytes w32 (take 4 l)) (sym (drop-drop 1 (gate_at i + 1) bytes))
      ∙ ap (λ (e : Entry). e.writer) (entry_at t.entries bytes i (front_of_table t.entries bytes t.table) t.table.fit t.table.few lt)

  pub seq_at : (i : ℕ) → i < length t.entries → from_be_bytes w32 (take 4 (drop (326 + 64 * i) bytes)) ≡ (get_or t.entries i no_entry).seq
  seq_at i lt =
      let place : 326 + 64 * i ≡ (gate_at i + 1) + 5 = omega arith in
      ap (λ (n : ℕ). from_be_bytes w32 (take 4 (drop n bytes))) place ∙ ap (λ (l : List ℕ). from_be_bytes w32 (take 4 l)) (sym (drop-drop 5 (gate_at i + 1) bytes))
      ∙ ap (λ (e : Entry). e.seq) (entry_at t.entries bytes i (front_of_table t.entries bytes t.table) t.table.fit t.table.few lt)

  pub all_read : (w g i : ℕ) → i ≡ length t.entries → g ≡ greatest_seq w (take i t.entries) → g ≡ greatest_seq w (entries_or_none (listed [] bytes))
  all_read w g i end is = is ∙ ap (λ (l : List Entry). greatest_seq w l) (take_all i t.entries (omega (arith, end))) ∙ sym (ap (λ r. greatest_seq w (entries_or_none r)) (listed_table [] t.entries bytes t.table))

pub greatest_last : (w : ℕ) (es : List Entry) (e : Entry) → greatest_seq w (es ++ e ∷ []) ≡ (if e.writer == w then max (greatest_seq w es) e.seq else greatest_seq w es)
greatest_last w [] e = last (e.writer == w)
  where
    last : (b : Bool) → (if b then max e.seq 0 else 0) ≡ (if b then max 0 e.seq else 0)
    last true = omega arith
    last false = refl
greatest_last w (x ∷ es) e = ap (λ (n : ℕ). if x.writer == w then max x.seq n else n) (greatest_last w es e) ∙ step (x.writer == w) (e.writer == w)
  where
    step : (a b : Bool) → (if a then max x.seq (if b then max (greatest_seq w es) e.seq else greatest_seq w es) else (if b then max (greatest_seq w es) e.seq else greatest_seq w es))
        ≡ (if b then max (if a then max x.seq (greatest_seq w es) else greatest_seq w es) e.seq else (if a then max x.seq (greatest_seq w es) else greatest_seq w es))
    step true true = omega arith
    step true false = refl
    step false true = refl
    step false false = refl

pub one_more : (w i : ℕ) (es : List Entry) → i < length es → greatest_seq w (take (i + 1) es) ≡ (if (get_or es i no_entry).writer == w then max (greatest_seq w (take i es)) (get_or es i no_entry).seq else greatest_seq w (take i es))
one_more w i es lt = ap (λ (l : List Entry). greatest_seq w l) (take_more es i no_entry lt) ∙ greatest_last w (take i es) (get_or es i no_entry)

-- one slot more has been read
pub slot_read : (table : List ℕ) (t : ListsSome table) (bytes : List ℕ) (w g g' i writer seq : ℕ) (same : Bool) → bytes ≡ table → i < length t.entries → g ≡ greatest_seq w (take i t.entries)
    → writer ≡ from_be_bytes w32 (take 4 (drop (322 + 64 * i) bytes)) → seq ≡ from_be_bytes w32 (take 4 (drop (326 + 64 * i) bytes)) → same ≡ (writer == w) → g' ≡ (if same then max g seq else g)
    → g' ≡ greatest_seq w (take (i + 1) t.entries)
slot_read table t bytes w g g' i writer seq same read lt before is_writer is_seq test after =
    let e = get_or t.entries i no_entry in
    let a : writer ≡ e.writer = is_writer ∙ ap (λ (l : List ℕ). from_be_bytes w32 (take 4 (drop (322 + 64 * i) l))) read ∙ writer_at table t i lt in
    let b : seq ≡ e.seq = is_seq ∙ ap (λ (l : List ℕ). from_be_bytes w32 (take 4 (drop (326 + 64 * i) l))) read ∙ seq_at table t i lt in
    after
    ∙ ap (λ (x : Bool). if x then max g seq else g) (test ∙ ap (λ (n : ℕ). n == w) a)
    ∙ ap (λ (n : ℕ). if e.writer == w then max g n else g) b
    ∙ ap (λ (n : ℕ). if e.writer == w then max n e.seq else n) before
    ∙ sym (one_more w i t.entries lt)

-- all slots with an open gate are read
pub listed_all : (bytes : List ℕ) (t : ListsSome bytes) (i : ℕ) → i ≡ length t.entries → take i t.entries ≡ entries_or_none (listed [] bytes)
listed_all bytes t i end = take_all i t.entries (omega (arith, end)) ∙ sym (ap entries_or_none (listed_table [] t.entries bytes t.table))

pub entry_whole : (bytes : List ℕ) (t : ListsSome bytes) (i : ℕ) → i < length t.entries → gate_at i + 64 ≤ length bytes
entry_whole bytes t i lt = omega (arith, lt, long bytes t)

pub entry_read : (bytes : List ℕ) (t : ListsSome bytes) (i : ℕ) (es more : List Entry) (e : Entry) → i < length t.entries → more ≡ es ++ e ∷ [] → e ≡ entry_in (drop (gate_at i + 1) bytes) → es ≡ take i t.entries → more ≡ take (i + 1) t.entries
entry_read bytes t i es more e lt pushed read so_far =
    pushed ∙ ap (λ (l : List Entry). l ++ e ∷ []) so_far
    ∙ ap (λ (x : Entry). take i t.entries ++ x ∷ []) (read ∙ entry_at t.entries bytes i (front_of_table t.entries bytes t.table) t.table.fit t.table.few lt)
    ∙ sym (take_more t.entries i no_entry lt)
