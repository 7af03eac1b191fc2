-- What the files of a sealed draft stand for.
use Rattle.std.proofs.Common.{◌≡◌, ◌≤◌, ℕ, Bool, true, false, true≢false, ◌&&◌, nat_le, bytes_eq, if◌then◌else◌, List, ◌++◌, length, take, drop, Option, Some, None, is_some, Result, Ok, refl, sym, ap, ◌∙◌, subst, arith, length-take}
use Rattle.std.specs.Prelude.{IfSome, IsSome, option_map}
use Rattle.std.proofs.lemmas.Bool.Decides.{nat_tests}
use Rattle.std.proofs.lemmas.List.{take_at}
use Rattle.fd_disk.specs.declared.file.File.{File}
use Rattle.fd_disk.specs.Images.{overwritten, synced, written}
use Rattle.fd_disk.proofs.ImageLemmas.{written_within}
use Rattle.fd_entries.specs.declared.batch.Pair.{Pair}
use Rattle.fd_entries.specs.declared.table.Entry.{Entry}
use Rattle.sha2.specs.Sha256.{sha256}
use Rattle.fd_index.specs.Pages.{IsIndex, index_of}
use Rattle.fd_index.specs.Reading.{index_at}
use Rattle.fd_index.specs.Records.{Record, StandsFor}
use Rattle.fd_segment.specs.Held.{Alike, Standing, are_digested, batch_of, batch_told, behind, digests_stand, end_by, pairs_of, pairs_within, records_in}
use Rattle.fd_segment.specs.Filling.{Filling, IsSealed, Puts, fields_of, places_from, stored}
use Rattle.fd_segment.proofs.Counting.{records_count}
use Rattle.fd_segment.proofs.Keys.{eq_refl}
use Rattle.fd_segment.proofs.Places.{fields_length, records_alike, records_digested, records_end}

le_true : (a b : ℕ) → a ≤ b → nat_le a b ≡ true
le_true a b h = grind (arith, nat_tests, h)

-- two files that are long enough, an index in the format, no record beyond the fields, and all digests
pub batch_stands : (e : Entry) (index fields : List ℕ) (rs : List Record) → e.index_len ≤ length index → e.fields_len ≤ length fields → records_in e index ≡ Ok rs → end_by (behind e) e.fields_len rs ≡ true
    → digests_stand e.digest (take e.index_len index) (take e.fields_len fields) (Ok rs) ≡ true → batch_told e (Some index) (Some fields) ≡ Some (pairs_of (take e.fields_len fields) rs)
batch_stands e index fields rs long_index long_fields reads ends digests =
    by_tests (digests_stand e.digest (take e.index_len index) (take e.fields_len fields) (records_in e index)) (nat_le e.index_len (length index)) (nat_le e.fields_len (length fields)) (records_in e index)
    (ap (digests_stand e.digest (take e.index_len index) (take e.fields_len fields)) reads ∙ digests) (le_true e.index_len (length index) long_index) (le_true e.fields_len (length fields) long_fields) reads
  where
    ends_so : (b : Bool) → b ≡ true → (if b then Some (pairs_of (take e.fields_len fields) rs) else None) ≡ Some (pairs_of (take e.fields_len fields) rs)
    ends_so true is = refl
    ends_so false is = absurd (true≢false (sym is))

    by_tests : (w x y : Bool) (r : Result (List Record) ℕ) → w ≡ true → x ≡ true → y ≡ true → r ≡ Ok rs
        → (if w then (if x && y then pairs_within (behind e) e.fields_len (take e.fields_len fields) r else None) else None) ≡ Some (pairs_of (take e.fields_len fields) rs)
    by_tests w x y r hw hx hy hr =
        ap (λ (t : Bool). if t then (if x && y then pairs_within (behind e) e.fields_len (take e.fields_len fields) r else None) else None) hw
        ∙ ap (λ (t : Bool). if t && y then pairs_within (behind e) e.fields_len (take e.fields_len fields) r else None) hx
        ∙ ap (λ (t : Bool). if t then pairs_within (behind e) e.fields_len (take e.fields_len fields) r else None) hy
        ∙ ap (pairs_within (behind e) e.fields_len (take e.fields_len fields)) hr
        ∙ ends_so (end_by (behind e) e.fields_len rs) ends

both_so : (a b : Bool) → a ≡ true → b ≡ true → (a && b) ≡ true
both_so a b ha hb = ap (λ (t : Bool). t && b) ha ∙ hb

-- bytes that were written at the front of a file
front_written : (old bytes : List ℕ) → overwritten old 0 bytes ≡ bytes ++ drop (length bytes) old
front_written old bytes = written_within old 0 bytes (omega arith) ∙ ap (λ (n : ℕ). bytes ++ drop n old) (omega arith)

long_enough : (n : ℕ) (xs front : List ℕ) → take n xs ≡ front → length front ≡ n → n ≤ length xs
long_enough n xs front e len = omega (arith, length-take n xs, ap length e, len)

-- the batch of two told files, into which the pairs with their digests and their index were written
sealed_batch : (e : Entry) (old bytes fields : List ℕ) (rs : List Record) (b : List Pair) (d : Filling) → Puts d b → d.held.records ≡ rs → e.index_len ≡ length bytes → e.fields_len ≡ stored b → e.digest ≡ Some (sha256 bytes)
    → index_at bytes ≡ Ok rs → take (stored b) fields ≡ fields_of b → batch_told e (Some (overwritten old 0 bytes)) (Some fields) ≡ Some (pairs_of (fields_of b) rs)
sealed_batch e old bytes fields rs b d puts same index_len fields_len digest reads begins =
    let stands = subst (λ (l : List Record). StandsFor (places_from 0 b) l) same puts.records in
    let front : overwritten old 0 bytes ≡ bytes ++ drop (length bytes) old = front_written old bytes in
    let first : take e.index_len (overwritten old 0 bytes) ≡ bytes = ap (take e.index_len) front ∙ take_at bytes (drop (length bytes) old) e.index_len (sym index_len) in
    let long_index : e.index_len ≤ length (overwritten old 0 bytes) = long_enough e.index_len (overwritten old 0 bytes) bytes first (sym index_len) in
    let long_fields : e.fields_len ≤ length fields = omega (arith, fields_len, long_enough (stored b) fields (fields_of b) begins (fields_length b)) in
    let kept : take e.fields_len fields ≡ fields_of b = ap (λ (n : ℕ). take n fields) fields_len ∙ begins in
    let more : behind e ≡ 32 = ap (λ (o : Option (List ℕ)). if is_some o then 32 else 0) digest in
    let ends : end_by (behind e) e.fields_len rs ≡ true = (λ j. end_by (more j) (fields_len j) rs) ∙ records_end b rs stands in
    let digests : digests_stand e.digest (take e.index_len (overwritten old 0 bytes)) (take e.fields_len fields) (Ok rs) ≡ true =
    (λ j. digests_stand (digest j) (first j) (kept j) (Ok rs)) ∙ both_so (bytes_eq (sha256 bytes) (sha256 bytes)) (are_digested (fields_of b) rs) (eq_refl (sha256 bytes)) (records_digested b rs stands) in
    batch_stands e (overwritten old 0 bytes) fields rs long_index long_fields (ap index_at first ∙ reads) ends digests ∙ ap (λ (l : List ℕ). Some (pairs_of l rs)) kept

some_is : {A : Type 0} (x : Option A) (y : A) → x ≡ Some y → IsSome x
some_is x y e = ap is_some e

-- the segment of a draft, whose fields were synced, and whose index was written and synced
pub sealed : (d e : Filling) (b : List Pair) (s : Standing) (o q : Option File) (bytes : List ℕ) → d ≡ e → Puts e b → d.fields ≡ option_map (λ f. f.reads) o → d.origin.told ≡ (is_some o && is_some q)
    → s.files.fields ≡ option_map (λ f. f.reads) (option_map synced o) → s.files.index ≡ option_map (λ f. f.reads) (option_map synced (option_map (λ f. written f 0 bytes) q))
    → IsIndex d.held.records bytes → index_at bytes ≡ Ok d.held.records
    → s.files.entry.fields ≡ length d.held.records → s.files.entry.index_len ≡ length bytes → s.files.entry.fields_len ≡ d.end → s.files.entry.digest ≡ Some (sha256 bytes) → IsSealed e b s
unfolding batch_of
sealed d e b s o q bytes is puts before told fields index is_index reads count index_len fields_len digest =
    let puts' : Puts d b = subst (λ (x : Filling). Puts x b) (sym is) puts in
    let sum : s.files.entry.fields_len ≡ stored b = fields_len ∙ puts'.end in
    record {
      fields = count ∙ records_count b d.held.records puts'.records;
      index_len = index_len ∙ ap length is_index.is ∙ ap (λ (x : Filling). length (index_of x.held.records)) is;
      fields_len = sum;
      digest = digest ∙ ap (λ (l : List ℕ). Some (sha256 l)) is_index.is ∙ ap (λ (x : Filling). Some (sha256 (index_of x.held.records))) is;
      told = λ all. is_told o q before fields index (sym told ∙ ap (λ (x : Filling). x.origin.told) is ∙ all) sum puts';
      alike = λ c stands. alike_to o q before fields index c stands sum puts';
    }
  where
    batch_is : (f g : File) → s.files.entry.fields_len ≡ stored b → Puts d b → d.fields ≡ Some f.reads → s.files.fields ≡ Some f.reads → s.files.index ≡ Some (overwritten g.reads 0 bytes) → batch_of s.files ≡ Some (pairs_of (fields_of b) d.held.records)
    batch_is f g sum puts before fields index =
        let begins : IfSome (Some f.reads) (λ x. take (stored b) x ≡ fields_of b) = subst (λ (x : Option (List ℕ)). IfSome x (λ y. take (stored b) y ≡ fields_of b)) before puts.bytes in
        ap (λ (x : Option (List ℕ)). batch_told s.files.entry x s.files.fields) index
        ∙ ap (λ (x : Option (List ℕ)). batch_told s.files.entry (Some (overwritten g.reads 0 bytes)) x) fields
        ∙ sealed_batch s.files.entry g.reads bytes f.reads d.held.records b d puts refl index_len sum digest reads begins

    is_told : (o q : Option File) → d.fields ≡ option_map (λ f. f.reads) o → s.files.fields ≡ option_map (λ f. f.reads) (option_map synced o) → s.files.index ≡ option_map (λ f. f.reads) (option_map synced (option_map (λ f. written f 0 bytes) q))
        → (is_some o && is_some q) ≡ true → s.files.entry.fields_len ≡ stored b → Puts d b → IsSome (batch_of s.files)
    is_told (Some f) (Some g) before fields index all sum puts = some_is (batch_of s.files) _ (batch_is f g sum puts before fields index)
    is_told (Some f) None before fields index all sum puts = absurd (cc all)
    is_told None q before fields index all sum puts = absurd (cc all)

    none_index : s.files.index ≡ None → batch_of s.files ≡ None
    none_index e = ap (λ (x : Option (List ℕ)). batch_told s.files.entry x s.files.fields) e

    none_fields : s.files.fields ≡ None → batch_of s.files ≡ None
    none_fields e = ap (λ (x : Option (List ℕ)). batch_told s.files.entry s.files.index x) e ∙ either s.files.index
      where
        either : (x : Option (List ℕ)) → batch_told s.files.entry x None ≡ None
        either None = refl
        either (Some x) = refl

    alike_to : (o q : Option File) → d.fields ≡ option_map (λ f. f.reads) o → s.files.fields ≡ option_map (λ f. f.reads) (option_map synced o) → s.files.index ≡ option_map (λ f. f.reads) (option_map synced (option_map (λ f. written f 0 bytes) q))
        → (c : List Pair) → batch_of s.files ≡ Some c → s.files.entry.fields_len ≡ stored b → Puts d b → Alike b c
    alike_to (Some f) (Some g) before fields index c stands sum puts =
        let same : pairs_of (fields_of b) d.held.records ≡ c = cc (batch_is f g sum puts before fields index, stands) in
        subst (Alike b) same (records_alike b d.held.records puts.records)
    alike_to (Some f) None before fields index c stands sum puts = absurd (cc (none_index index, stands))
    alike_to None q before fields index c stands sum puts = absurd (cc (none_fields fields, stands))
