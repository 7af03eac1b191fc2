-- What a fetch reads is the newest pair of the batches.
use Rattle.std.proofs.Common.{◌≡◌, if◌then◌else◌, ℕ, zero, suc, ◌+◌, ◌^◌, ◌<◌, ◌≤◌, Bool, true, false, List, [], ◌∷◌, ◌++◌, length, take, drop, map, refl, sym, ◌∙◌, ap, arith, append_assoc, length-append, Option, Some, None, option_map, is_some}
use Rattle.std.proofs.lemmas.List.{take_at, drop_at, drop-drop}
use Rattle.std.proofs.lemmas.Nat.{from_be_bytes-to_be_bytes_2, from_be_bytes-to_be_bytes_8}
use Rattle.std.specs.Int.{w16, w64, to_be_bytes, from_be_bytes, byte_at}
use Rattle.fd_entries.specs.declared.batch.Pair.{Pair}
use Rattle.fd_entries.specs.Batches.{KeysFit, same_bytes, or_older, of_batch, newest, total, joined, rows_from, rows, Row, row_in, rows_read, last_row, of_files}

older_assoc : {A : Type 0} (a b c : Option A) → or_older (or_older a b) c ≡ or_older a (or_older b c)
older_assoc (Some x) b c = refl
older_assoc None b c = refl

older_none : {A : Type 0} (a : Option A) → or_older a None ≡ a
older_none (Some x) = refl
older_none None = refl

older_map : {A B : Type 0} (f : A → B) (a b : Option A) → option_map f (or_older a b) ≡ or_older (option_map f a) (option_map f b)
older_map f (Some x) b = refl
older_map f None b = refl

pub older_if : {A : Type 0} (a b : Option A) → (if is_some a then a else b) ≡ or_older a b
older_if (Some x) b = refl
older_if None b = refl

pub newest-push : (bs : List (List Pair)) (b : List Pair) (key : List ℕ) → newest (bs ++ b ∷ []) key ≡ or_older (of_batch b key) (newest bs key)
newest-push [] b key = sym (older_none (of_batch b key))
newest-push (x ∷ bs) b key = ap (λ o. or_older o (of_batch x key)) (newest-push bs b key) ∙ older_assoc (of_batch b key) (newest bs key) (of_batch x key)

abbrev rows_of : ℕ → List Pair → List Row
rows_of at [] = []
rows_of at (p ∷ ps) = record { key = p.key; at = at; len = length p.bytes } ∷ rows_of (at + length p.bytes) ps

-- what stands behind the key of a row
abbrev pub behind : ℕ → ℕ → List ℕ → List ℕ
behind at len rest = to_be_bytes w64 at ++ to_be_bytes w64 len ++ rest

key_behind : (h1 h2 : ℕ) (key rest : List ℕ) → drop (2 + length key) (h1 ∷ h2 ∷ (key ++ rest)) ≡ rest
key_behind h1 h2 key rest = sym (drop-drop (length key) 2 (h1 ∷ h2 ∷ (key ++ rest))) ∙ drop_at key rest (length key) refl

later_behind : (n h1 h2 : ℕ) (key rest : List ℕ) → drop ((2 + length key) + n) (h1 ∷ h2 ∷ (key ++ rest)) ≡ drop n rest
later_behind n h1 h2 key rest = sym (drop-drop n (2 + length key) (h1 ∷ h2 ∷ (key ++ rest))) ∙ ap (drop n) (key_behind h1 h2 key rest)

pub row_back : (h1 h2 : ℕ) (key : List ℕ) (at len : ℕ) (rest : List ℕ) → at < 2 ^ 64 → len < 2 ^ 64
    → row_in (length key) (h1 ∷ h2 ∷ (key ++ behind at len rest)) ≡ record { key = key; at = at; len = len }
row_back h1 h2 key at len rest sa sl =
    let all = h1 ∷ h2 ∷ (key ++ behind at len rest) in
    let ten : 10 + length key ≡ (2 + length key) + 8 = omega arith in
    let k : take (length key) (drop 2 all) ≡ key = take_at key (behind at len rest) (length key) refl in
    let a : from_be_bytes w64 (take 8 (drop (2 + length key) all)) ≡ at =
    ap (λ (l : List ℕ). from_be_bytes w64 (take 8 l)) (key_behind h1 h2 key (behind at len rest)) ∙ from_be_bytes-to_be_bytes_8 at sa in
    let l : from_be_bytes w64 (take 8 (drop (10 + length key) all)) ≡ len =
    ap (λ (n : ℕ). from_be_bytes w64 (take 8 (drop n all))) ten
    ∙ ap (λ (l : List ℕ). from_be_bytes w64 (take 8 l)) (later_behind 8 h1 h2 key (behind at len rest))
    ∙ from_be_bytes-to_be_bytes_8 len sl in
    λ j. record { key = k j; at = a j; len = l j }

pub rest_back : (h1 h2 : ℕ) (key : List ℕ) (at len : ℕ) (rest : List ℕ) → drop (18 + length key) (h1 ∷ h2 ∷ (key ++ behind at len rest)) ≡ rest
rest_back h1 h2 key at len rest =
    let n : 18 + length key ≡ (2 + length key) + 16 = omega arith in
    ap (λ (n : ℕ). drop n (h1 ∷ h2 ∷ (key ++ behind at len rest))) n ∙ later_behind 16 h1 h2 key (behind at len rest)

pub row_split : (at : ℕ) (p : Pair) (rest : List ℕ) → p.key ++ to_be_bytes w64 at ++ to_be_bytes w64 (length p.bytes) ++ rest ≡ p.key ++ behind at (length p.bytes) rest
row_split at p rest = append_assoc (p.key ++ to_be_bytes w64 at) (to_be_bytes w64 (length p.bytes)) rest ∙ append_assoc p.key (to_be_bytes w64 at) (to_be_bytes w64 (length p.bytes) ++ rest)

-- the rows that an index stands for are read back
rows_back : (room at : ℕ) (b : List Pair) → KeysFit b → at + total b < 2 ^ 63 → length b ≤ room → rows_read room (rows_from at b) ≡ rows_of at b
rows_back zero at [] fit small few = refl
rows_back (suc room) at [] fit small few = refl
rows_back zero at (p ∷ ps) fit small few = absurd (omega arith)
rows_back (suc room) at (p ∷ ps) fit small few =
    let rest = rows_from (at + length p.bytes) ps in
    let h1 = byte_at 1 (length p.key) in
    let h2 = byte_at 0 (length p.key) in
    let all = h1 ∷ h2 ∷ (p.key ++ behind at (length p.bytes) rest) in
    let len : from_be_bytes w16 (h1 ∷ h2 ∷ []) ≡ length p.key = from_be_bytes-to_be_bytes_2 (length p.key) (omega (arith, fit.0)) in
    ap (λ (l : List ℕ). rows_read (suc room) (h1 ∷ h2 ∷ l)) (row_split at p rest)
    ∙ ap (λ (n : ℕ). row_in n all ∷ rows_read room (drop (18 + n) all)) len
    ∙ (λ j. row_back h1 h2 p.key at (length p.bytes) rest (omega arith) (omega arith) j ∷ rows_read room (rest_back h1 h2 p.key at (length p.bytes) rest j))
    ∙ ap (λ rs. record { key = p.key; at = at; len = length p.bytes } ∷ rs) (rows_back room (at + length p.bytes) ps fit.1 (omega arith) (omega arith))

last_of : (key pre : List ℕ) (at : ℕ) (b : List Pair) → length pre ≡ at → option_map (λ r. take r.len (drop r.at (pre ++ joined b))) (last_row (rows_of at b) key) ≡ of_batch b key
last_of key pre at [] is = refl
last_of key pre at (p ∷ ps) is =
    let f : Row → List ℕ = λ r. take r.len (drop r.at (pre ++ (p.bytes ++ joined ps))) in
    let r : Row = record { key = p.key; at = at; len = length p.bytes } in
    let here : f r ≡ p.bytes = ap (take (length p.bytes)) (drop_at pre (p.bytes ++ joined ps) at is) ∙ take_at p.bytes (joined ps) (length p.bytes) refl in
    let later : option_map f (last_row (rows_of (at + length p.bytes) ps) key) ≡ of_batch ps key =
    ap (λ (l : List ℕ). option_map (λ (r : Row). take r.len (drop r.at l)) (last_row (rows_of (at + length p.bytes) ps) key)) (sym (append_assoc pre p.bytes (joined ps)))
    ∙ last_of key (pre ++ p.bytes) (at + length p.bytes) ps (omega (arith, length-append pre p.bytes, is)) in
    older_map f (last_row (rows_of (at + length p.bytes) ps) key) (if same_bytes p.key key then Some r else None)
    ∙ ap (λ o. or_older o (option_map f (if same_bytes p.key key then Some r else None))) later
    ∙ ap (or_older (of_batch ps key)) (one (same_bytes p.key key) f r here)
  where
    one : (t : Bool) (f : Row → List ℕ) (r : Row) → f r ≡ p.bytes → option_map f (if t then Some r else None) ≡ (if t then Some p.bytes else None)
    one true f r is = ap Some is
    one false f r is = refl

long_enough : (at : ℕ) (b : List Pair) → length b ≤ length (rows_from at b)
long_enough at [] = omega arith
long_enough at (p ∷ ps) =
    let rest = rows_from (at + length p.bytes) ps in
    let ih = long_enough (at + length p.bytes) ps in
    omega (arith, ih, ap length (row_split at p rest), length-append p.key (behind at (length p.bytes) rest))

-- the files of a batch give its pairs
pub files_of_batch : (b : List Pair) (key : List ℕ) → KeysFit b → total b < 2 ^ 63 → of_files (rows b) (joined b) key ≡ of_batch b key
files_of_batch b key fit small =
    ap (λ rs. option_map (λ r. take r.len (drop r.at (joined b))) (last_row rs key)) (rows_back (length (rows b)) 0 b fit (omega arith) (long_enough 0 b))
    ∙ last_of key [] 0 b refl

-- the pairs that the rows of a batch give
pairs_of : (pre : List ℕ) (at : ℕ) (b : List Pair) → length pre ≡ at → map (λ (r : Row). record { key = r.key; bytes = take r.len (drop r.at (pre ++ joined b)) }) (rows_of at b) ≡ b
pairs_of pre at [] is = refl
pairs_of pre at (p ∷ ps) is =
    let f : Row → Pair = λ r. record { key = r.key; bytes = take r.len (drop r.at (pre ++ (p.bytes ++ joined ps))) } in
    let here : take (length p.bytes) (drop at (pre ++ (p.bytes ++ joined ps))) ≡ p.bytes = ap (take (length p.bytes)) (drop_at pre (p.bytes ++ joined ps) at is) ∙ take_at p.bytes (joined ps) (length p.bytes) refl in
    let later : map f (rows_of (at + length p.bytes) ps) ≡ ps =
    ap (λ (l : List ℕ). map (λ (r : Row). record { key = r.key; bytes = take r.len (drop r.at l) }) (rows_of (at + length p.bytes) ps)) (sym (append_assoc pre p.bytes (joined ps)))
    ∙ pairs_of (pre ++ p.bytes) (at + length p.bytes) ps (omega (arith, length-append pre p.bytes, is)) in
    let head : Pair → List Pair = λ q. q ∷ map f (rows_of (at + length p.bytes) ps) in
    ap (λ (l : List ℕ). head (record { key = p.key; bytes = l })) here ∙ ap (λ (l : List Pair). p ∷ l) later

-- the files of a batch give it back
pub batch_back : (b : List Pair) → KeysFit b → total b < 2 ^ 63 → map (λ (r : Row). record { key = r.key; bytes = take r.len (drop r.at (joined b)) }) (rows_read (length (rows b)) (rows b)) ≡ b
batch_back b fit small =
    ap (λ (rs : List Row). map (λ (r : Row). record { key = r.key; bytes = take r.len (drop r.at (joined b)) }) rs) (rows_back (length (rows b)) 0 b fit (omega arith) (long_enough 0 b))
    ∙ pairs_of [] 0 b refl
