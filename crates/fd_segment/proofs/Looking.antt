-- What the records of an index say of the batch for which its files stand.
use Rattle.std.proofs.Common.{◌≡◌, ◌≤◌, ◌<◌, ◌+◌, ◌-◌, ℕ, Bool, true, false, true≢false, ◌&&◌, nat_le, if◌then◌else◌, List, [], ◌∷◌, length, take, drop, bytes_eq, Option, Some, None, Result, Ok, Err, inl, inr, refl, sym, ap, ◌∙◌, subst, arith}
use Rattle.std.specs.Prelude.{IfOk, IfSome, IsSome}
use Rattle.std.proofs.lemmas.Bool.Decides.{nat_tests}
use Rattle.std.proofs.lemmas.List.{drop-take, take-take}
use Rattle.fd_entries.specs.declared.batch.Pair.{Pair}
use Rattle.fd_entries.specs.declared.table.Entry.{Entry}
use Rattle.fd_entries.specs.Batches.{of_batch}
use Rattle.fd_index.specs.Records.{Record, Rising, place_of}
use Rattle.fd_index.specs.Reading.{index_at}
use Rattle.fd_index.specs.First.{IsFirstPlace}
use Rattle.fd_index.proofs.Alone.{by_pages}
use Rattle.fd_index.proofs.FaultRead.{first_place_read}
use Rattle.fd_index.proofs.Spelled.{same_ok}
use Rattle.fd_pages.proofs.Whole.{seen_of_all}
use Rattle.fd_pages.specs.declared.fault.PagedFault.{PagedFault}
use Rattle.fd_pages.specs.declared.fault.PagedFault.TheVariants as faults
use Rattle.fd_pages.specs.Causes.{OnBadIndex}
use Rattle.fd_pages.specs.Parts as pages
use Rattle.fd_pages.specs.Parts.{IsFrameFault, IsNoIndex}
use Rattle.fd_segment.specs.declared.fault.Damage.{Damage}
use Rattle.fd_segment.specs.declared.fault.Damage.TheVariants as damages
use Rattle.fd_segment.specs.declared.fault.LensFault.{LensFault}
use Rattle.fd_segment.specs.declared.fault.LensFault.TheVariants as lenses
use Rattle.fd_segment.specs.Held.{Files, IsIndexOf, Opened, are_digested, batch_by_records, batch_in, batch_of, batch_told, behind, digests_stand, end_by, is_digested, pairs_of, pairs_within, records_in}
use Rattle.sha2.specs.Sha256.{sha256}
use Rattle.fd_segment.specs.Causes.{AreAllOf, IsBadFrame, IsBadIndex, IsFieldDamage, IsKeyDamage, IsPlace, OnDamaged, StandsForNone, lens_fault}
use Rattle.fd_segment.specs.Copying.{IsBatchIndex, IsOfBatch, IsPiece, bytes_at}
use Rattle.fd_segment.proofs.Keys.{eq_is, rising_differ}
use Rattle.fd_segment.proofs.Places.{first_last, pairs_last}

-- what makes a batch of two told files
record Parts (e : Entry) (fields : List ℕ) (rs : List Record) (b : List Pair) : Type 0 where
  batch : b ≡ pairs_of (take e.fields_len fields) rs
  ends : end_by (behind e) e.fields_len rs ≡ true
  digests : IsSome e.digest → are_digested (take e.fields_len fields) rs ≡ true

-- where there is a batch, its digests stand
digests_of : (o : Option (List ℕ)) (index fields : List ℕ) (rs : List Record) → digests_stand o index fields (Ok rs) ≡ true → IsSome o → are_digested fields rs ≡ true
digests_of (Some digest) index fields rs is some = go (bytes_eq (sha256 index) digest) is
  where
    go : (t : Bool) → (t && are_digested fields rs) ≡ true → are_digested fields rs ≡ true
    go true is = is
    go false is = absurd (true≢false (sym is))
digests_of None index fields rs is some = absurd (cc some)

-- and it is that of the records
whole_by : (t : Bool) (x : Option (List Pair)) (b : List Pair) → (if t then x else None) ≡ Some b → (t ≡ true) × (x ≡ Some b)
whole_by true x b is = (refl, is)
whole_by false x b is = absurd (cc is)

parts_in : (e : Entry) (index fields : List ℕ) (rs : List Record) (b : List Pair) → records_in e index ≡ Ok rs → batch_in e index fields ≡ Some b → Parts e fields rs b
parts_in e index fields rs b reads stands =
    let whole = whole_by (digests_stand e.digest (take e.index_len index) (take e.fields_len fields) (records_in e index)) (batch_by_records e index fields) b stands in
    let digests = digests_of e.digest (take e.index_len index) (take e.fields_len fields) rs (sym (ap (digests_stand e.digest (take e.index_len index) (take e.fields_len fields)) reads) ∙ whole.0) in
    go digests (nat_le e.index_len (length index) && nat_le e.fields_len (length fields)) (records_in e index) reads whole.1
  where
    ending : (IsSome e.digest → are_digested (take e.fields_len fields) rs ≡ true) → (t : Bool) → end_by (behind e) e.fields_len rs ≡ t → (if t then Some (pairs_of (take e.fields_len fields) rs) else None) ≡ Some b → Parts e fields rs b
    ending digests true is stands = record { batch = sym (cc stands); ends = is; digests = digests }
    ending digests false is stands = absurd (cc stands)

    go : (IsSome e.digest → are_digested (take e.fields_len fields) rs ≡ true) → (t : Bool) (r : Result (List Record) ℕ) → r ≡ Ok rs → (if t then pairs_within (behind e) e.fields_len (take e.fields_len fields) r else None) ≡ Some b → Parts e fields rs b
    go digests true r is stands = ending digests (end_by (behind e) e.fields_len rs) refl (sym (ap (pairs_within (behind e) e.fields_len (take e.fields_len fields)) is) ∙ stands)
    go digests false r is stands = absurd (cc stands)

-- the batch of some files, whose index has these records
parts_of : (f : Files) (rs : List Record) (b : List Pair) → IsIndexOf f.entry f.index rs → batch_of f ≡ Some b → (fields : List ℕ) × (f.fields ≡ Some fields) × Parts f.entry fields rs b
unfolding batch_of
parts_of f rs b reads stands = go f.index f.fields reads stands
  where
    go : (index fields : Option (List ℕ)) → IsIndexOf f.entry index rs → batch_told f.entry index fields ≡ Some b → (bytes : List ℕ) × (fields ≡ Some bytes) × Parts f.entry bytes rs b
    go (Some index) (Some fields) reads stands = (fields, refl, parts_in f.entry index fields rs b reads stands)
    go (Some index) None reads stands = absurd (cc stands)
    go None fields reads stands = absurd (cc stands)

both_true : (a b : Bool) → (a && b) ≡ true → (a ≡ true) × (b ≡ true)
both_true true true is = (refl, refl)
both_true true false is = absurd (true≢false (sym is))
both_true false b is = absurd (true≢false (sym is))

-- a record that is found doesn't end beyond, where none does
found_ends : (more n : ℕ) (rs : List Record) (key : List ℕ) (p : ℕ × ℕ) → end_by more n rs ≡ true → place_of key rs ≡ Some p → p.0 + p.1 + more ≤ n
found_ends more n [] key p ends found = absurd (cc found)
found_ends more n (r ∷ rs) key p ends found = go (bytes_eq key r.key) found (both_true (nat_le (r.at + r.len + more) n) (end_by more n rs) ends) (found_ends more n rs key p)
  where
    go : (t : Bool) → (if t then Some (r.at, r.len) else place_of key rs) ≡ Some p → (nat_le (r.at + r.len + more) n ≡ true) × (end_by more n rs ≡ true) → (end_by more n rs ≡ true → place_of key rs ≡ Some p → p.0 + p.1 + more ≤ n) → p.0 + p.1 + more ≤ n
    go true found both rest =
        let same : (r.at, r.len) ≡ p = cc found in
        let le : r.at + r.len + more ≤ n = grind (arith, nat_tests, both.0) in
        subst (λ (q : ℕ × ℕ). q.0 + q.1 + more ≤ n) same le
    go false found both rest = rest both.1 found

-- and has its digest behind it, where each has
found_digested : (f : List ℕ) (rs : List Record) (key : List ℕ) (p : ℕ × ℕ) → are_digested f rs ≡ true → place_of key rs ≡ Some p → is_digested f p.0 p.1 ≡ true
found_digested f [] key p all found = absurd (cc found)
found_digested f (r ∷ rs) key p all found = go (bytes_eq key r.key) found (both_true (is_digested f r.at r.len) (are_digested f rs) all) (found_digested f rs key p)
  where
    go : (t : Bool) → (if t then Some (r.at, r.len) else place_of key rs) ≡ Some p → (is_digested f r.at r.len ≡ true) × (are_digested f rs ≡ true) → (are_digested f rs ≡ true → place_of key rs ≡ Some p → is_digested f p.0 p.1 ≡ true) → is_digested f p.0 p.1 ≡ true
    go true found both rest = let same : (r.at, r.len) ≡ p = cc found in subst (λ (q : ℕ × ℕ). is_digested f q.0 q.1 ≡ true) same both.0
    go false found both rest = rest both.1 found

-- bytes that lie within the first n are there in the whole file too
part_within : (n : ℕ) (fields : List ℕ) (at len : ℕ) → at + len ≤ n → take len (drop at fields) ≡ take len (drop at (take n fields))
part_within n fields at len le =
    let more : at + (n - at) ≡ n = omega (arith, le) in
    let within : len ≤ n - at = omega (arith, le) in
    sym (take-take len (n - at) (drop at fields) within) ∙ ap (take len) (sym (drop-take at (n - at) fields) ∙ ap (λ (k : ℕ). drop at (take k fields)) more)

bytes_within : (n : ℕ) (fields : List ℕ) (place : Option (ℕ × ℕ)) → IfSome place (λ p. p.0 + p.1 ≤ n) → bytes_at fields place ≡ bytes_at (take n fields) place
bytes_within n fields None le = refl
bytes_within n fields (Some p) le = ap Some (part_within n fields p.0 p.1 le)

-- the records of the index of files that stand for a batch
record AreRecords (f : Files) : Type 0 where
  index : List ℕ
  told : f.index ≡ Some index
  records : List Record
  read : records_in f.entry index ≡ Ok records

records_of_batch : (f : Files) (b : List Pair) → batch_of f ≡ Some b → AreRecords f
unfolding batch_of
records_of_batch f b stands = go f.index f.fields refl stands
  where
    within : (e : Entry) (index fields : List ℕ) (t : Bool) (r : Result (List Record) ℕ) → records_in e index ≡ r → (if t then pairs_within (behind e) e.fields_len (take e.fields_len fields) r else None) ≡ Some b → (rs : List Record) × (records_in e index ≡ Ok rs)
    within e index fields true (Ok rs) is stands = (rs, is)
    within e index fields true (Err at) is stands = absurd (cc stands)
    within e index fields false r is stands = absurd (cc stands)

    go : (index fields : Option (List ℕ)) → f.index ≡ index → batch_told f.entry index fields ≡ Some b → AreRecords f
    go (Some index) (Some fields) told stands =
        let whole = whole_by (digests_stand f.entry.digest (take f.entry.index_len index) (take f.entry.fields_len fields) (records_in f.entry index)) (batch_by_records f.entry index fields) b stands in
        let all = within f.entry index fields (nat_le f.entry.index_len (length index) && nat_le f.entry.fields_len (length fields)) (records_in f.entry index) refl whole.1 in
        record { index = index; told = told; records = all.0; read = all.1 }
    go (Some index) None told stands = absurd (cc stands)
    go None fields told stands = absurd (cc stands)

rising_read : (bytes : List ℕ) (rs : List Record) → index_at bytes ≡ Ok rs → Rising rs
rising_read bytes rs read = let file = by_pages bytes rs read in subst Rising (sym file.all_is) file.rising

index_is : (f : Files) (all : AreRecords f) → IsIndexOf f.entry f.index all.records
index_is f all = subst (λ (o : Option (List ℕ)). IsIndexOf f.entry o all.records) (sym all.told) all.read

place_of_batch : (f : Files) (key : List ℕ) (place : Option (ℕ × ℕ)) (all : AreRecords f) → IsPlace f.entry f.index key place → place ≡ place_of key all.records
place_of_batch f key place all is = let told : IsPlace f.entry (Some all.index) key place = subst (λ (o : Option (List ℕ)). IsPlace f.entry o key place) all.told is in told all.records all.read

-- the bytes that are found are those of the batch
pub found_in_batch : (f : Files) (key : List ℕ) (place : Option (ℕ × ℕ)) → IsPlace f.entry f.index key place → IfSome place (λ p. p.0 + p.1 ≤ f.entry.fields_len) → IsOfBatch f key place
found_in_batch f key place is inside = λ b stands.
    let all = records_of_batch f b stands in
    let rs = all.records in
    let parts = parts_of f rs b (index_is f all) stands in
    let n = f.entry.fields_len in
    subst (λ (o : Option (List ℕ)). IfSome o (λ fields. bytes_at fields place ≡ of_batch b key)) (sym parts.1)
    (bytes_within n parts.0 place inside ∙ ap (bytes_at (take n parts.0)) (place_of_batch f key place all is ∙ first_last key rs (rising_differ rs (rising_read (take f.entry.index_len all.index) rs all.read))) ∙ sym (pairs_last (take n parts.0) key rs)
    ∙ ap (λ (c : List Pair). of_batch c key) (sym parts.2.batch))

-- where a record ends beyond, there is no batch
pub beyond_none : (f : Files) (key : List ℕ) (at len : ℕ) → IsPlace f.entry f.index key (Some (at, len)) → f.entry.fields_len < at + len + behind f.entry → StandsForNone f
beyond_none f key at len is past = λ b stands.
    let all = records_of_batch f b stands in
    let parts = parts_of f all.records b (index_is f all) stands in
    let le = found_ends (behind f.entry) f.entry.fields_len all.records key (at, len) parts.2.ends (sym (place_of_batch f key (Some (at, len)) all is)) in
    absurd (omega (arith, le, past))

-- where the digest behind a record isn't that of its bytes, neither
pub digest_none : (f : Files) (key : List ℕ) (at len : ℕ) (d : Damage) → at + len + behind f.entry ≤ f.entry.fields_len → IsFieldDamage f.entry f.fields at len d → IsPlace f.entry f.index key (Some (at, len)) → StandsForNone f
digest_none f key at len (damages.Absent file) inside bad is = absurd bad
digest_none f key at len (damages.Length file want got) inside bad is = absurd bad
digest_none f key at len (damages.Index file place) inside bad is = absurd bad
digest_none f key at len (damages.Beyond file end size) inside bad is = absurd bad
digest_none f key at len (damages.IndexDigest file want got) inside bad is = absurd bad
digest_none f key at len (damages.FieldDigest file place want got) inside (named, there, some, differs, kept, made) is = λ b stands.
    let all = records_of_batch f b stands in
    let parts = parts_of f all.records b (index_is f all) stands in
    let n = f.entry.fields_len in
    let fields = parts.0 in
    let more : behind f.entry ≡ 32 = ap (λ (t : Bool). if t then 32 else 0) some in
    let found : is_digested (take n fields) at len ≡ true = found_digested (take n fields) all.records key (at, len) (parts.2.digests some) (sym (place_of_batch f key (Some (at, len)) all is)) in
    let same : take 32 (drop (at + len) (take n fields)) ≡ sha256 (take len (drop at (take n fields))) = eq_is (take 32 (drop (at + len) (take n fields))) (sha256 (take len (drop at (take n fields)))) found in
    let want_is : want ≡ take 32 (drop (at + len) fields) = told_piece f.fields fields (at + len) 32 want parts.1 kept in
    let got_is : got ≡ sha256 (take len (drop at fields)) = made.2 ∙ ap sha256 (told_piece f.fields fields at len made.0 parts.1 made.1) in
    differs (want_is ∙ part_within n fields (at + len) 32 (omega (arith, inside, more)) ∙ same ∙ ap sha256 (sym (part_within n fields at len (omega (arith, inside)))) ∙ sym got_is)
  where
    told_piece : (o : Option (List ℕ)) (fields : List ℕ) (at len : ℕ) (bytes : List ℕ) → o ≡ Some fields → IsPiece o at len bytes → bytes ≡ take len (drop at fields)
    told_piece o fields at len bytes is p = (subst (λ (x : Option (List ℕ)). IsPiece x at len bytes) is p).told

pub key_damage_none : (f : Files) (key : List ℕ) (d : Damage) → IsKeyDamage f key d → StandsForNone f
key_damage_none f key d (at, len, seen, is, inside, bad) = digest_none f key at len d inside bad is

-- and where a page isn't in the format
pub no_index_none : (f : Files) → IsNoIndex f.index f.entry.index_len → StandsForNone f
no_index_none f none = λ b stands.
    let all = records_of_batch f b stands in
    let told : IsNoIndex (Some all.index) f.entry.index_len = subst (λ (o : Option (List ℕ)). IsNoIndex o f.entry.index_len) all.told none in
    told all.records all.read

pub batch_index : (f : Files) (rs : List Record) → IsIndexOf f.entry f.index rs → IsBatchIndex f rs
batch_index f rs reads = λ b stands.
    let parts = parts_of f rs b reads stands in
    subst (λ (o : Option (List ℕ)). IfSome o (λ fields. b ≡ pairs_of (take f.entry.fields_len fields) rs)) (sym parts.1) parts.2.batch

-- the same of an answer, where the fields that were read are seen as a lens
pub batch_index_ok : (E : Type 0) (r : Result (List Record) E) (l m : Opened) → l ≡ m → IfOk r (IsIndexOf l.files.entry l.files.index) → IfOk r (IsBatchIndex m.files)
batch_index_ok E (Ok rs) l m is reads = batch_index m.files rs (subst (λ (x : Opened). IsIndexOf x.files.entry x.files.index rs) is reads)
batch_index_ok E (Err e) l m is reads = tt

-- ---- All records of an index

seen_untold : (len : ℕ) (key : List ℕ) (place : Option (ℕ × ℕ)) → pages.IsSeen None len key place
seen_untold len key (Some place) = (tt, tt)
seen_untold len key None = (tt, tt)

pub all_of : (f : Files) (rs : List Record) → IsIndexOf f.entry f.index rs → IfSome f.index (λ b. f.entry.index_len ≤ length b) → AreAllOf f rs
all_of f rs read whole = record { read = read; seen = λ key. go f.index read whole key }
  where
    go : (index : Option (List ℕ)) → IsIndexOf f.entry index rs → IfSome index (λ b. f.entry.index_len ≤ length b) → (key : List ℕ) → pages.IsSeen index f.entry.index_len key (place_of key rs)
    go None read whole key = seen_untold f.entry.index_len key (place_of key rs)
    go (Some b) read whole key = seen_of_all b f.entry.index_len key rs whole read

-- the same of an answer, where the fields that were read are seen as a lens
pub all_of_ok : (E : Type 0) (r : Result (List Record) E) (l m : Opened) (len : ℕ) → l ≡ m → len ≡ l.files.entry.index_len → IfOk r (IsIndexOf m.files.entry m.files.index) → IfSome l.files.index (λ b. len ≤ length b) → IfOk r (AreAllOf m.files)
all_of_ok E (Ok rs) l m len is same reads whole =
    let long = subst (λ (n : ℕ). IfSome l.files.index (λ b. n ≤ length b)) same whole in
    all_of m.files rs reads (subst (λ (x : Opened). IfSome x.files.index (λ b. x.files.entry.index_len ≤ length b)) is long)
all_of_ok E (Err e) l m len is same reads whole = tt

pub all_place : (f : Files) (rs : List Record) (key : List ℕ) → AreAllOf f rs → IsPlace f.entry f.index key (place_of key rs)
all_place f rs key all = go f.index all.read
  where
    go : (index : Option (List ℕ)) → IsIndexOf f.entry index rs → IsPlace f.entry index key (place_of key rs)
    go None read = tt
    go (Some b) read = λ other again. ap (place_of key) (same_ok rs other (sym read ∙ again))

-- ---- What the paged index of a lens answers

module _ (l m : Opened) (len : ℕ) (is : l ≡ m) (same : len ≡ l.files.entry.index_len) where
  pub place_seen : (key : List ℕ) (place : Option (ℕ × ℕ)) → pages.IsPlace l.files.index len key place → IsPlace m.files.entry m.files.index key place
  place_seen key place at = subst (λ (x : Opened). IsPlace x.files.entry x.files.index key place) is (subst (λ (n : ℕ). pages.IsPlace l.files.index n key place) same at)

  pub batch_seen : (key : List ℕ) (place : Option (ℕ × ℕ)) → pages.IsPlace l.files.index len key place → IfSome place (λ p. p.0 + p.1 ≤ l.files.entry.fields_len) → IsOfBatch m.files key place
  batch_seen key place at inside = found_in_batch m.files key place (place_seen key place at) (subst (λ (x : Opened). IfSome place (λ p. p.0 + p.1 ≤ x.files.entry.fields_len)) is inside)

  pub beyond_seen : (key : List ℕ) (at size : ℕ) → pages.IsPlace l.files.index len key (Some (at, size)) → l.files.entry.fields_len < at + size + behind l.files.entry → StandsForNone m.files
  beyond_seen key at size place past = beyond_none m.files key at size (place_seen key (Some (at, size)) place) (subst (λ (x : Opened). x.files.entry.fields_len < at + size + behind x.files.entry) is past)

  module _ {F : Type 0} (fault : PagedFault F) where
    pub sound_seen : OnBadIndex fault (λ _. IsNoIndex l.files.index len) → OnDamaged (lens_fault l.files.entry fault) (λ _. StandsForNone m.files)
    sound_seen none = go fault (subst (λ (x : Opened). OnBadIndex fault (λ _. IsNoIndex x.files.index x.files.entry.index_len)) is (subst (λ (n : ℕ). OnBadIndex fault (λ _. IsNoIndex l.files.index n)) same none))
      where
        go : (f : PagedFault F) → OnBadIndex f (λ _. IsNoIndex m.files.index m.files.entry.index_len) → OnDamaged (lens_fault l.files.entry f) (λ _. StandsForNone m.files)
        go (faults.Fault f) none = tt
        go (faults.BadIndex at) none = no_index_none m.files none
        go faults.NoMemory none = tt

-- ---- The frame

-- a fault of the frame is the first place against the format
first_place : (bytes : List ℕ) (at : ℕ) → IsFrameFault bytes at → IsFirstPlace bytes at
first_place bytes at (inl shape) = inl shape
first_place bytes at (inr (shape, inl head)) = inr (shape, inl head)
first_place bytes at (inr (shape, inr (head, inl mark))) = inr (shape, inr (head, inl mark))
first_place bytes at (inr (shape, inr (head, inr (mark, pages, is)))) = inr (shape, inr (head, inr (mark, inl (pages, is))))

frame_read : (e : Entry) (index : Option (List ℕ)) (at : ℕ) → IfSome index (λ b. IsFrameFault (take e.index_len b) at) → IfSome index (λ b. records_in e b ≡ Err at)
frame_read e None at bad = tt
frame_read e (Some b) at bad = first_place_read (take e.index_len b) at (first_place (take e.index_len b) at bad)

bad_frame : (e : Entry) (index : Option (List ℕ)) (d : Damage) → IsBadFrame e index d → IsBadIndex e index d
bad_frame e index (damages.Absent file) bad = absurd bad
bad_frame e index (damages.Length file want got) bad = absurd bad
bad_frame e index (damages.Index file at) bad = (bad.0, frame_read e index at bad.1)
bad_frame e index (damages.Beyond file end len) bad = absurd bad
bad_frame e index (damages.IndexDigest file want got) bad = absurd bad
bad_frame e index (damages.FieldDigest file at want got) bad = absurd bad

-- what is against the format in the frame is so in the whole index
pub frame_index : {F : Type 0} (f : Files) (fault : LensFault F) → OnDamaged fault (IsBadFrame f.entry f.index) → OnDamaged fault (IsBadIndex f.entry f.index)
frame_index f (lenses.Fault x) bad = tt
frame_index f (lenses.Damaged d) bad = bad_frame f.entry f.index d bad
frame_index f lenses.NoMemory bad = tt
