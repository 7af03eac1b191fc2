-- Records of indexes that were read, and the tables that have their keys and lengths.
use Rattle.std.proofs.Common.{◌≡◌, ◌≤◌, ◌+◌, ℕ, zero, suc, List, [], ◌∷◌, length, map, drop, slice_get, Some, refl, sym, subst, arith}
use Rattle.std.specs.Prelude.{replicate}
use Rattle.std.specs.List.{AllZip}
use Rattle.std.proofs.lemmas.List.{length-replicate}
use Rattle.fd_dataset.specs.Listed.{listing}
use Rattle.fd_entries.specs.declared.batch.Pair.{Pair}
use Rattle.fd_index.specs.Records.{Record}
use Rattle.fd_segment.specs.Held.{IsIndexOf, Standing, batch_of}
use Rattle.fd_inventory.specs.Indexes.{Tells}
use Rattle.fd_inventory.specs.Recorded.{AreRecorded, ByRecords, HasRecords, IsTextBy}
use Rattle.fd_inventory.specs.Shown.{AreLengths}
use Rattle.fd_inventory.proofs.Batches.{none_left, stands}
use Rattle.fd_inventory.proofs.Lengths.{lengths_in}

-- ---- from the last segment on

-- the indexes from this place on were read, and this holds of each table that has their records from there on
pub record RestBy (ss : List Standing) (n : ℕ) (P : List (List Pair) → Type 0) : Type 0 where
  pub records : List (List Record)
  pub has : AllZip HasRecords (drop n ss) records
  pub of : (t : List (List Pair)) → AllZip AreLengths records (drop n t) → P t

no_batches : (xs : List (List Pair)) → AllZip AreLengths [] xs → xs ≡ []
no_batches [] z = refl
no_batches (x ∷ xs) z = absurd z

pub rest_none : (ss : List Standing) (n : ℕ) (P : List (List Pair) → Type 0) → length ss ≤ n → ((t : List (List Pair)) → drop n t ≡ [] → P t) → RestBy ss n P
rest_none ss n P long none = record {
  records = [];
  has = subst (λ xs. AllZip HasRecords xs []) (sym (none_left ss n long)) tt;
  of = λ t z. none t (no_batches (drop n t) z);
}

-- a table's batch at a place, and those behind it
record First (t : List (List Pair)) (n : ℕ) (rs : List Record) (rest : List (List Record)) : Type 0 where
  batch : List Pair
  at : slice_get t n ≡ Some batch
  few : n ≤ length t
  lengths : AreLengths rs batch
  others : AllZip AreLengths rest (drop (suc n) t)

first_of : (t : List (List Pair)) (n : ℕ) (rs : List Record) (rest : List (List Record)) → AllZip AreLengths (rs ∷ rest) (drop n t) → First t n rs rest
first_of [] zero rs rest z = absurd z
first_of [] (suc n) rs rest z = absurd z
first_of (b ∷ t) zero rs rest z = record { batch = b; at = refl; few = omega arith; lengths = z.0; others = z.1 }
first_of (b ∷ t) (suc n) rs rest z = let f = first_of t n rs rest z in record { batch = f.batch; at = f.at; few = omega (arith, f.few); lengths = f.lengths; others = f.others }

-- one segment more
pub rest_more : (ss : List Standing) (n m : ℕ) (s : Standing) (rs : List Record) (P Q : List (List Pair) → Type 0) → m ≡ n + 1 → slice_get ss n ≡ Some s → IsIndexOf s.files.entry s.files.index rs
    → ((t : List (List Pair)) (b : List Pair) → slice_get t n ≡ Some b → n ≤ length t → AreLengths rs b → P t → Q t) → RestBy ss m P → RestBy ss n Q
rest_more ss n m s rs P Q next at reads adds rest = record {
  records = rs ∷ rest.records;
  has = subst (λ xs. AllZip HasRecords xs (rs ∷ rest.records)) (sym (stands ss n m s next at).rest) (reads, rest.has);
  of = λ t z.
      let f = first_of t n rs rest.records z in
      let up : suc n ≡ m = omega (arith, next) in
      adds t f.batch f.at f.few f.lengths (rest.of t (subst (λ k. AllZip AreLengths rest.records (drop k t)) up f.others));
}

pub rest_all : (ss : List Standing) (n : ℕ) (P : ℕ → List (List Pair) → Type 0) → n ≡ 0 → RestBy ss n (P n) → ByRecords ss (P 0)
rest_all ss n P none rest =
    let r = subst (λ k. RestBy ss k (P k)) none rest in
    record { records = r.records; has = r.has; of = r.of }

-- ---- tables with the records' keys and lengths

-- the table that the segments stand for
pub tells_lengths : (ss : List Standing) (t : List (List Pair)) (records : List (List Record)) → Tells (map listing ss) t → AllZip HasRecords ss records → AllZip AreLengths records t
tells_lengths [] [] [] tells has = tt
tells_lengths [] [] (rs ∷ rest) tells has = absurd has
tells_lengths [] (b ∷ t) records tells has = absurd (cc tells)
tells_lengths (s ∷ ss) [] records tells has = absurd (cc tells)
tells_lengths (s ∷ ss) (b ∷ t) [] tells has = absurd has
tells_lengths (s ∷ ss) (b ∷ t) (rs ∷ rest) tells has =
    let own : batch_of s.files ≡ Some b = cc tells in
    let others : map (λ l. l.batch) (map listing ss) ≡ map (λ c. Some c) t = cc tells in
    (lengths_in s.files rs b has.0 own, tells_lengths ss t rest others has.1)

-- a batch with the keys and the lengths of records
batch_for : List Record → List Pair
batch_for rs = map (λ r. record { key = r.key; bytes = replicate r.len 0 }) rs

lengths_for : (rs : List Record) → AreLengths rs (batch_for rs)
unfolding batch_for
lengths_for [] = tt
lengths_for (r ∷ rs) = ((refl, sym (length-replicate r.len 0)), lengths_for rs)

all_lengths : (records : List (List Record)) → AllZip AreLengths records (map batch_for records)
all_lengths [] = tt
all_lengths (rs ∷ rest) = (lengths_for rs, all_lengths rest)

-- each of these tables is one by the records of the indexes
recorded_by : (ss : List Standing) (records : List (List Record)) (t : List (List Pair)) → AllZip HasRecords ss records → AllZip AreLengths records t → AreRecorded ss t
recorded_by [] [] [] has z = tt
recorded_by [] [] (b ∷ t) has z = absurd z
recorded_by [] (rs ∷ rest) t has z = absurd has
recorded_by (s ∷ ss) [] t has z = absurd has
recorded_by (s ∷ ss) (rs ∷ rest) [] has z = absurd z
recorded_by (s ∷ ss) (rs ∷ rest) (b ∷ t) has z = ((rs, has.0, z.0), recorded_by ss rest t has.1 z.1)

-- what holds of each of these tables holds of the one that the segments stand for, which is one of them
pub of_told : (ss : List Standing) (P : List (List Pair) → Type 0) → ByRecords ss P → (t : List (List Pair)) → Tells (map listing ss) t → P t
of_told ss P by t tells = by.of t (tells_lengths ss t by.records tells by.has)

pub told_recorded : (ss : List Standing) (P : List (List Pair) → Type 0) → ByRecords ss P → (t : List (List Pair)) → Tells (map listing ss) t → AreRecorded ss t
told_recorded ss P by t tells = recorded_by ss by.records t by.has (tells_lengths ss t by.records tells by.has)

-- and there is one, whatever the segments stand for
pub record MadeTable (ss : List Standing) (P : List (List Pair) → Type 0) : Type 0 where
  pub table : List (List Pair)
  pub recorded : AreRecorded ss table
  pub holds : P table

pub made_table : (ss : List Standing) (P : List (List Pair) → Type 0) → ByRecords ss P → MadeTable ss P
made_table ss P by = record {
  table = map batch_for by.records;
  recorded = recorded_by ss by.records (map batch_for by.records) by.has (all_lengths by.records);
  holds = by.of (map batch_for by.records) (all_lengths by.records);
}

pub text_by : (text : List (List Pair) → List ℕ) (ss : List Standing) (x : List ℕ) (P : List (List Pair) → Type 0) → ByRecords ss P → ((t : List (List Pair)) → P t → x ≡ text t) → IsTextBy text ss x
text_by text ss x P by is =
    let made = made_table ss P by in
    record {
      sound = λ t tells. is t (of_told ss P by t tells);
      table = made.table;
      recorded = made.recorded;
      is = is made.table made.holds;
    }
