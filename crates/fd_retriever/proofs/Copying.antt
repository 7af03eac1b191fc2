-- What is copied of a segment, by the batch that its files stand for.
use Rattle.std.proofs.Common.{◌≡◌, ℕ, Bool, true, false, ◌&&◌, nat_le, if◌then◌else◌, List, [], ◌++◌, length, take, drop, Option, Some, None, Result, Err, refl, sym, ap, ◌∙◌, subst, take-take, take-append-drop, append-nil}
use Rattle.std.specs.Prelude.{IfSome}
use Rattle.fd_io.specs.Streams.{Takes}
use Rattle.fd_entries.specs.declared.batch.Pair.{Pair}
use Rattle.fd_entries.specs.Batches.{of_batch}
use Rattle.fd_index.specs.Records.{Record}
use Rattle.fd_segment.specs.declared.fault.Damage.{Damage}
use Rattle.fd_segment.specs.declared.fault.Damage.TheVariants.{Absent, Length, Index, Beyond, IndexDigest, FieldDigest}
use Rattle.fd_segment.specs.Held.{Files, batch_by_records, batch_of, batch_told, behind, digests_stand, pairs_within, records_in}
use Rattle.fd_segment.specs.Causes.{IsBadIndex, StandsForNone}
use Rattle.fd_segment.specs.Copying.{IsCopied, IsCopiedInPart, IsOfBatch, bytes_at}
use Rattle.fd_retriever.specs.declared.fault.Got.TheVariants.{Found, Miss}
use Rattle.fd_retriever.specs.Answers.{IsAnswer, TookFront}

-- the fields are told where the files stand for a batch
told_fields : (f : Files) (b : List Pair) → batch_of f ≡ Some b → (fields : List ℕ) × (f.fields ≡ Some fields)
unfolding batch_of
told_fields f b is = go f.index f.fields is
  where
    go : (index fields : Option (List ℕ)) → batch_told f.entry index fields ≡ Some b → (bytes : List ℕ) × (fields ≡ Some bytes)
    go (Some index) (Some fields) is = (fields, refl)
    go (Some index) None is = absurd (cc is)
    go None fields is = absurd (cc is)

pub missed : (f : Files) (key : List ℕ) (taken : Option (List ℕ)) (b : List Pair) → IsOfBatch f key None → batch_of f ≡ Some b → IsAnswer (of_batch b key) taken taken Miss
missed f key taken b found is =
    let told = told_fields f b is in
    let none : None ≡ of_batch b key = subst (λ (o : Option (List ℕ)). IfSome o (λ fields. None ≡ of_batch b key)) told.1 (found b is) in
    subst (λ (o : Option (List ℕ)). IsAnswer o taken taken Miss) none refl

-- the bytes of a piece, where the fields are told
piece_is : (fields : Option (List ℕ)) (bytes : List ℕ) (at len : ℕ) (all : List ℕ) → fields ≡ Some all → IfSome fields (λ f. bytes ≡ take len (drop at f)) → bytes ≡ take len (drop at all)
piece_is fields bytes at len all is told = subst (λ (o : Option (List ℕ)). IfSome o (λ f. bytes ≡ take len (drop at f))) is told

place_is : (f : Files) (key : List ℕ) (at len : ℕ) (b : List Pair) (all : List ℕ) → f.fields ≡ Some all → IsOfBatch f key (Some (at, len)) → batch_of f ≡ Some b → Some (take len (drop at all)) ≡ of_batch b key
place_is f key at len b all told found is = subst (λ (o : Option (List ℕ)). IfSome o (λ fields. bytes_at fields (Some (at, len)) ≡ of_batch b key)) told (found b is)

pub found : (f : Files) (key : List ℕ) (at len : ℕ) (old new : Option (List ℕ)) (b : List Pair) → IsOfBatch f key (Some (at, len)) → IsCopied f.fields at len old new → batch_of f ≡ Some b → IsAnswer (of_batch b key) old new (Found len)
found f key at len old new b place copied is =
    let told = told_fields f b is in
    let same = piece_is f.fields copied.0 at len told.0 told.1 copied.1.told in
    subst (λ (o : Option (List ℕ)). IsAnswer o old new (Found len)) (ap (λ (bytes : List ℕ). Some bytes) same ∙ place_is f key at len b told.0 told.1 place is) (sym copied.1.long, copied.2)

pub found_part : (f : Files) (key : List ℕ) (at len : ℕ) (old new : Option (List ℕ)) (b : List Pair) → IsOfBatch f key (Some (at, len)) → IsCopiedInPart f.fields at len old new → batch_of f ≡ Some b → TookFront (of_batch b key) old new
found_part f key at len old new b place part is =
    let told = told_fields f b is in
    let all = drop at told.0 in
    let copied = part.2 in
    let same : copied.0 ≡ take part.0 all = piece_is f.fields copied.0 at part.0 told.0 told.1 copied.1.told in
    let front : take len all ≡ copied.0 ++ drop part.0 (take len all) =
    sym (take-append-drop part.0 (take len all)) ∙ ap (λ (l : List ℕ). l ++ drop part.0 (take len all)) (take-take part.0 len all part.1 ∙ sym same) in
    subst (λ (o : Option (List ℕ)). TookFront o old new) (place_is f key at len b told.0 told.1 place is) (copied.0, drop part.0 (take len all), front, copied.2)

takes_nothing : (taken : Option (List ℕ)) → Takes taken taken []
takes_nothing None = tt
takes_nothing (Some bytes) = sym (append-nil bytes)

-- nothing is a front of what there is, if anything
pub nothing_taken : (newest taken : Option (List ℕ)) → TookFront newest taken taken
nothing_taken (Some bytes) taken = ([], bytes, refl, takes_nothing taken)
nothing_taken None taken = refl

pub nothing_taken_as : (newest old new : Option (List ℕ)) → new ≡ old → TookFront newest old new
nothing_taken_as newest old new is = subst (λ (o : Option (List ℕ)). TookFront newest old o) (sym is) (nothing_taken newest old)

none_of : (o : Option (List Pair)) → ((b : List Pair) → o ≡ Some b → ⊥) → o ≡ None
none_of None never = refl
none_of (Some b) never = absurd (never b refl)

pub stands_for_none : (f : Files) → StandsForNone f → batch_of f ≡ None
stands_for_none f never = none_of (batch_of f) never

-- where the index isn't in its format there is no batch
pub bad_index : (f : Files) (d : Damage) → IsBadIndex f.entry f.index d → batch_of f ≡ None
unfolding batch_of
bad_index f (Absent file) bad = absurd bad
bad_index f (Length file want got) bad = absurd bad
bad_index f (Beyond file end len) bad = absurd bad
bad_index f (IndexDigest file want got) bad = absurd bad
bad_index f (FieldDigest file at want got) bad = absurd bad
bad_index f (Index file at) bad = go f.index f.fields bad.1
  where
    within : (t : Bool) (r : Result (List Record) ℕ) (fields : List ℕ) → r ≡ Err at → (if t then pairs_within (behind f.entry) f.entry.fields_len (take f.entry.fields_len fields) r else None) ≡ None
    within true r fields is = ap (pairs_within (behind f.entry) f.entry.fields_len (take f.entry.fields_len fields)) is
    within false r fields is = refl

    whole : (t : Bool) (x : Option (List Pair)) → x ≡ None → (if t then x else None) ≡ None
    whole true x none = none
    whole false x none = refl

    go : (index fields : Option (List ℕ)) → IfSome index (λ bytes. records_in f.entry bytes ≡ Err at) → batch_told f.entry index fields ≡ None
    go (Some index) (Some fields) is =
        whole (digests_stand f.entry.digest (take f.entry.index_len index) (take f.entry.fields_len fields) (records_in f.entry index)) (batch_by_records f.entry index fields)
        (within (nat_le f.entry.index_len (length index) && nat_le f.entry.fields_len (length fields)) (records_in f.entry index) fields is)
    go (Some index) None is = refl
    go None fields is = refl
