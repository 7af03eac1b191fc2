-- The rows of an index, read one after the other.
use Rattle.std.proofs.Common.{◌≡◌, ◌==◌, if◌then◌else◌, ℕ, ◌+◌, ◌^◌, ◌<◌, ◌≤◌, Bool, true, false, List, [], ◌∷◌, ◌++◌, length, take, drop, refl, sym, ◌∙◌, ap, subst, arith, append_assoc, length-append, Option, Some, None, MatchOption}
use Rattle.std.proofs.lemmas.Bool.Decides.{nat_tests}
use Rattle.std.proofs.lemmas.List.{append-nil, drop_at, take_at}
use Rattle.std.proofs.lemmas.Nat.{from_be_bytes-to_be_bytes_2}
use Rattle.std.specs.Int.{w16, w64, from_be_bytes, byte_at}
use Rattle.fd_entries.specs.declared.batch.Pair.{Pair}
use Rattle.fd_entries.specs.Batches.{HoldBatch, KeysFit, Row, joined, of_batch, of_files, or_older, pairs_in, rows, rows_from, same_bytes, total}
use Rattle.fd_entries.proofs.Reading.{batch_back, behind, files_of_batch, rest_back, row_back, row_split}

-- what is read of the row that begins these bytes
pub record RowFacts (rest : List ℕ) (at : ℕ) (p : Pair) (ps : List Pair) : Type 0 where
  pub key_len : from_be_bytes w16 (take 2 rest) ≡ length p.key
  pub long : 18 + length p.key ≤ length rest
  pub key : take (length p.key) (drop 2 rest) ≡ p.key
  pub at_is : from_be_bytes w64 (take 8 (drop (2 + length p.key) rest)) ≡ at
  pub len_is : from_be_bytes w64 (take 8 (drop (10 + length p.key) rest)) ≡ length p.bytes
  pub later : drop (18 + length p.key) rest ≡ rows_from (at + length p.bytes) ps

row_facts : (rest : List ℕ) (at : ℕ) (p : Pair) (ps : List Pair) → rest ≡ rows_from at (p ∷ ps) → length p.key ≤ 256 → at < 2 ^ 63 → length p.bytes < 2 ^ 63 → RowFacts rest at p ps
row_facts rest at p ps is short small_at small_len =
    let more = rows_from (at + length p.bytes) ps in
    let h1 = byte_at 1 (length p.key) in
    let h2 = byte_at 0 (length p.key) in
    let all = h1 ∷ h2 ∷ (p.key ++ behind at (length p.bytes) more) in
    let whole : rest ≡ all = is ∙ ap (λ (l : List ℕ). h1 ∷ h2 ∷ l) (row_split at p more) in
    let back = row_back h1 h2 p.key at (length p.bytes) more (omega arith) (omega arith) in
    let n = length p.key in
    record {
      key_len = ap (λ (l : List ℕ). from_be_bytes w16 (take 2 l)) whole ∙ from_be_bytes-to_be_bytes_2 n (omega (arith, short));
      long = omega (arith, ap length whole, length-append p.key (behind at (length p.bytes) more));
      key = ap (λ (l : List ℕ). take n (drop 2 l)) whole ∙ ap (λ (r : Row). r.key) back;
      at_is = ap (λ (l : List ℕ). from_be_bytes w64 (take 8 (drop (2 + n) l))) whole ∙ ap (λ (r : Row). r.at) back;
      len_is = ap (λ (l : List ℕ). from_be_bytes w64 (take 8 (drop (10 + n) l))) whole ∙ ap (λ (r : Row). r.len) back;
      later = ap (drop (18 + n)) whole ∙ rest_back h1 h2 p.key at (length p.bytes) more;
    }

-- How far the rows have been read: what is left of the index stands for the later pairs, whose bytes begin at a place.
pub record Unread (b : List Pair) (rest fields : List ℕ) : Type 0 where
  pub done : List Pair
  pub later : List Pair
  pub at : ℕ
  pub before : List ℕ
  pub is : b ≡ done ++ later
  pub rows_are : rest ≡ rows_from at later
  pub fields_are : fields ≡ before ++ joined later
  pub place : length before ≡ at
  pub keys : KeysFit later
  pub sum : at + total later < 2 ^ 63

abbrev pub unread : (index fields : List ℕ) (h : HoldBatch index fields) → Unread h.batch index fields
unread index fields h = record { done = []; later = h.batch; at = 0; before = []; is = refl; rows_are = h.index_is; fields_are = h.fields_is; place = refl; keys = h.keys; sum = omega (arith, h.sum) }

-- What is known where a row is left: the row's pair, and how far the rows have been read behind it.
pub record OneRow (b : List Pair) (rest fields : List ℕ) (u : Unread b rest fields) : Type 0 where
  pub pair : Pair
  pub others : List Pair
  pub later_is : u.later ≡ pair ∷ others
  pub facts : RowFacts rest u.at pair others
  pub bytes : take (length pair.bytes) (drop u.at fields) ≡ pair.bytes
  pub fits : u.at + length pair.bytes ≤ length fields
  pub small : u.at + length pair.bytes < 2 ^ 63
  pub key_short : length pair.key ≤ 256
  pub keys : KeysFit others
  pub sum : u.at + length pair.bytes + total others < 2 ^ 63

pub one_row : (b : List Pair) (rest fields : List ℕ) (u : Unread b rest fields) → (length rest ≡ 0 → ⊥) → OneRow b rest fields u
one_row b rest fields u some = go u.later refl
  where
    go : (l : List Pair) → u.later ≡ l → OneRow b rest fields u
    go [] none = absurd (some (ap length (u.rows_are ∙ ap (rows_from u.at) none)))
    go (p ∷ ps) is =
        let keys : KeysFit (p ∷ ps) = subst KeysFit is u.keys in
        let sum : u.at + (length p.bytes + total ps) < 2 ^ 63 = subst (λ (l : List Pair). u.at + total l < 2 ^ 63) is u.sum in
        let fields_are : fields ≡ u.before ++ (p.bytes ++ joined ps) = u.fields_are ∙ ap (λ (l : List Pair). u.before ++ joined l) is in
        record {
          pair = p;
          others = ps;
          later_is = is;
          facts = row_facts rest u.at p ps (u.rows_are ∙ ap (rows_from u.at) is) keys.0 (omega (arith, sum)) (omega (arith, sum));
          bytes = ap (λ (l : List ℕ). take (length p.bytes) (drop u.at l)) fields_are ∙ ap (take (length p.bytes)) (drop_at u.before (p.bytes ++ joined ps) u.at u.place) ∙ take_at p.bytes (joined ps) (length p.bytes) refl;
          fits = omega (arith, ap length fields_are, length-append u.before (p.bytes ++ joined ps), length-append p.bytes (joined ps), u.place);
          small = omega (arith, sum);
          key_short = keys.0;
          keys = keys.1;
          sum = omega (arith, sum);
        }

abbrev pub next_row : (b : List Pair) (rest fields : List ℕ) (u : Unread b rest fields) (r : OneRow b rest fields u) (behind : List ℕ) (n : ℕ) → n ≡ length r.pair.key → behind ≡ drop (18 + n) rest → Unread b behind fields
next_row b rest fields u r behind n key is = record {
  done = u.done ++ r.pair ∷ [];
  later = r.others;
  at = u.at + length r.pair.bytes;
  before = u.before ++ r.pair.bytes;
  is = u.is ∙ ap (λ (l : List Pair). u.done ++ l) r.later_is ∙ sym (append_assoc u.done (r.pair ∷ []) r.others);
  rows_are = is ∙ ap (λ (n : ℕ). drop (18 + n) rest) key ∙ r.facts.later;
  fields_are = u.fields_are ∙ ap (λ (l : List Pair). u.before ++ joined l) r.later_is ∙ sym (append_assoc u.before r.pair.bytes (joined r.others));
  place = length-append u.before r.pair.bytes ∙ ap (λ (n : ℕ). n + length r.pair.bytes) u.place;
  keys = r.keys;
  sum = r.sum;
}

-- nothing is left
pub all_rows : (b : List Pair) (rest fields : List ℕ) (u : Unread b rest fields) → length rest ≡ 0 → b ≡ u.done
all_rows b rest fields u none = u.is ∙ ap (λ (l : List Pair). u.done ++ l) (go u.later (ap length (sym u.rows_are) ∙ none)) ∙ append-nil u.done
  where
    go : (l : List Pair) → length (rows_from u.at l) ≡ 0 → l ≡ []
    go [] none = refl
    go (p ∷ ps) none = absurd (omega (arith, none))

-- the pairs of the files are the batch that they hold
pub pairs_held : (index fields : List ℕ) (h : HoldBatch index fields) → pairs_in index fields ≡ h.batch
pairs_held index fields h = ap (λ (l : List ℕ). pairs_in l fields) h.index_is ∙ ap (pairs_in (rows h.batch)) h.fields_is ∙ batch_back h.batch h.keys h.sum

pub found_held : (index fields : List ℕ) (h : HoldBatch index fields) (key : List ℕ) → of_files index fields key ≡ of_batch h.batch key
found_held index fields h key = ap (λ (l : List ℕ). of_files l fields key) h.index_is ∙ ap (λ (l : List ℕ). of_files (rows h.batch) l key) h.fields_is ∙ files_of_batch h.batch key h.keys h.sum

-- one pair more
pub of_push : (ps : List Pair) (p : Pair) (key : List ℕ) → of_batch (ps ++ p ∷ []) key ≡ (if same_bytes p.key key then Some p.bytes else of_batch ps key)
of_push [] p key = none (same_bytes p.key key)
  where
    none : (b : Bool) → or_older None (if b then Some p.bytes else None) ≡ (if b then Some p.bytes else None)
    none b = refl
of_push (x ∷ ps) p key = ap (λ o. or_older o (if same_bytes x.key key then Some x.bytes else None)) (of_push ps p key) ∙ go (same_bytes p.key key)
  where
    go : (b : Bool) → or_older (if b then Some p.bytes else of_batch ps key) (if same_bytes x.key key then Some x.bytes else None) ≡ (if b then Some p.bytes else or_older (of_batch ps key) (if same_bytes x.key key then Some x.bytes else None))
    go true = refl
    go false = refl

-- the numbers that the code has read of a row
pub record Numbers (at : ℕ) (p : Pair) (k a n : ℕ) : Type 0 where
  pub key_len : k ≡ length p.key
  pub place : a ≡ at
  pub len : n ≡ length p.bytes

pub numbers : (rest : List ℕ) (at : ℕ) (p : Pair) (ps : List Pair) → RowFacts rest at p ps → (k a n : ℕ) → k ≡ from_be_bytes w16 (take 2 rest)
    → a ≡ from_be_bytes w64 (take 8 (drop (2 + from_be_bytes w16 (take 2 rest)) rest)) → n ≡ from_be_bytes w64 (take 8 (drop (10 + from_be_bytes w16 (take 2 rest)) rest)) → Numbers at p k a n
numbers rest at p ps f k a n is_k is_a is_n = record {
  key_len = is_k ∙ f.key_len;
  place = is_a ∙ ap (λ (m : ℕ). from_be_bytes w64 (take 8 (drop (2 + m) rest))) f.key_len ∙ f.at_is;
  len = is_n ∙ ap (λ (m : ℕ). from_be_bytes w64 (take 8 (drop (10 + m) rest))) f.key_len ∙ f.len_is;
}

pub some_left : (n : ℕ) → (n == 0) ≡ false → n ≡ 0 → ⊥
some_left n is none = grind (arith, nat_tests, is, none)

pub row_long : (rest : List ℕ) (at : ℕ) (p : Pair) (ps : List Pair) → RowFacts rest at p ps → 18 + from_be_bytes w16 (take 2 rest) ≤ length rest
row_long rest at p ps f = omega (arith, f.long, f.key_len)

-- the row's key, and its bytes, as the code takes them
pub key_read : (rest : List ℕ) (at : ℕ) (p : Pair) (ps : List Pair) → RowFacts rest at p ps → (k : ℕ) → k ≡ length p.key → take k (drop 2 rest) ≡ p.key
key_read rest at p ps f k is = ap (λ (n : ℕ). take n (drop 2 rest)) is ∙ f.key

pub bytes_read : (b : List Pair) (rest fields : List ℕ) (u : Unread b rest fields) (r : OneRow b rest fields u) (a n : ℕ) → a ≡ u.at → n ≡ length r.pair.bytes → take n (drop a fields) ≡ r.pair.bytes
bytes_read b rest fields u r a n is_a is_n = ap (λ (m : ℕ). take m (drop a fields)) is_n ∙ ap (λ (m : ℕ). take (length r.pair.bytes) (drop m fields)) is_a ∙ r.bytes

pub same_pair : (p : Pair) (key bytes : List ℕ) → key ≡ p.key → bytes ≡ p.bytes → record { key = key; bytes = bytes } ≡ p
same_pair p key bytes k b = λ j. record { key = k j; bytes = b j }

-- the pair with the key is the newest so far
pub found_here : (done : List Pair) (p : Pair) (key bytes : List ℕ) → same_bytes p.key key ≡ true → bytes ≡ p.bytes → of_batch (done ++ p ∷ []) key ≡ Some bytes
found_here done p key bytes test is = of_push done p key ∙ ap (λ (b : Bool). if b then Some p.bytes else of_batch done key) test ∙ ap Some (sym is)

of_other : (done : List Pair) (p : Pair) (key : List ℕ) → same_bytes p.key key ≡ false → of_batch (done ++ p ∷ []) key ≡ of_batch done key
of_other done p key test = of_push done p key ∙ ap (λ (b : Bool). if b then Some p.bytes else of_batch done key) test

-- a pair with another key leaves the newest as it was
pub found_before : {X : Type 0} (done : List Pair) (p : Pair) (key : List ℕ) (found : Option X) (f : X → List ℕ) → same_bytes p.key key ≡ false → MatchOption found (of_batch done key ≡ None) (λ b. of_batch done key ≡ Some (f b))
    → MatchOption found (of_batch (done ++ p ∷ []) key ≡ None) (λ b. of_batch (done ++ p ∷ []) key ≡ Some (f b))
found_before done p key None f test was = of_other done p key test ∙ was
found_before done p key (Some b) f test was = of_other done p key test ∙ was

pub found_all : {X : Type 0} (index fields : List ℕ) (h : HoldBatch index fields) (key : List ℕ) (done : List Pair) (found : Option X) (f : X → List ℕ) → h.batch ≡ done → MatchOption found (of_batch done key ≡ None) (λ b. of_batch done key ≡ Some (f b))
    → MatchOption found (of_files index fields key ≡ None) (λ b. of_files index fields key ≡ Some (f b))
found_all index fields h key done None f all was = found_held index fields h key ∙ ap (λ (b : List Pair). of_batch b key) all ∙ was
found_all index fields h key done (Some b) f all was = found_held index fields h key ∙ ap (λ (b : List Pair). of_batch b key) all ∙ was
