-- The batches that listings and files tell.
use Rattle.std.proofs.Common.{◌≡◌, ◌<◌, ◌≤◌, ◌+◌, ◌⊎◌, inl, inr, ℕ, zero, suc, Bool, true, List, [], ◌∷◌, ◌++◌, map, take, length, Option, Some, None, option_map, is_some, Ok, sym, refl, ap, ap₂, ◌∙◌, subst, arith, length-append}
use Rattle.std.specs.Prelude.{slice_get}
use mathlib.Core.List.{IsPrefix, append-nil, map-append}
use Rattle.std.proofs.lemmas.List.{length-map}
use Rattle.fd_disk.specs.declared.folders.FileName.{FileName}
use Rattle.fd_disk.specs.declared.folders.FileKind.TheVariants.{Fields, Index}
use Rattle.fd_disk.specs.Names.{name_of}
use Rattle.fd_entries.specs.declared.batch.Listing.{Listing}
use Rattle.fd_entries.specs.declared.batch.Pair.{Pair}
use Rattle.fd_entries.specs.declared.table.Entry.{Entry}
use Rattle.fd_segment.specs.Held.{Standing, batch_of, batch_told}
use Rattle.fd_dataset.specs.Listed.{entries_of, listing}
use Rattle.fd_archiver.specs.Writing.{IsKept}
use Rattle.fd_recovery.specs.Recovered.{all_of, batches_listed, files_of}
use Rattle.fd_retriever.specs.Answers.{Tells}

pub all_are : (t : List (List Pair)) → all_of (map (λ b. Some b) t) ≡ Some t
all_are [] = refl
all_are (b ∷ bs) = ap (option_map (λ more. b ∷ more)) (all_are bs)

pub all_told : (xs : List (Option (List Pair))) (t : List (List Pair)) → all_of xs ≡ Some t → xs ≡ map (λ b. Some b) t
all_told [] t is = let none : [] ≡ t = cc is in ap (λ (bs : List (List Pair)). map (λ b. Some b) bs) none
all_told (None ∷ xs) t is = absurd (cc is)
all_told (Some x ∷ xs) t is = go (all_of xs) refl (λ more e. all_told xs more e) is
  where
    go : (o : Option (List (List Pair))) → all_of xs ≡ o → ((more : List (List Pair)) → all_of xs ≡ Some more → xs ≡ map (λ b. Some b) more) → option_map (λ more. x ∷ more) o ≡ Some t → Some x ∷ xs ≡ map (λ b. Some b) t
    go None e later is = absurd (cc is)
    go (Some more) e later is =
        let front : x ∷ more ≡ t = cc is in
        ap (λ (ys : List (Option (List Pair))). Some x ∷ ys) (later more e) ∙ ap (λ (bs : List (List Pair)). map (λ b. Some b) bs) front

-- the two files of a kept segment are in the folder, so its entry stands there for its batch
pub segment_back : (files kf : FileName → Option (List ℕ)) (s : Standing) (c : List Pair) → ((n : FileName) (bytes : List ℕ) → s.files.entry.writer ≡ n.writer → kf n ≡ Some bytes → files n ≡ Some bytes) → IsKept (Some kf) s → batch_of s.files ≡ Some c
    → batch_of (files_of files s.files.entry) ≡ Some c
unfolding batch_of
segment_back files kf s c back kept e = go s.files.index s.files.fields refl refl e
  where
    go : (i f : Option (List ℕ)) → s.files.index ≡ i → s.files.fields ≡ f → batch_told s.files.entry i f ≡ Some c → batch_of (files_of files s.files.entry) ≡ Some c
    go None f is there e = absurd (cc e)
    go (Some i) None is there e = absurd (cc e)
    go (Some i) (Some f) is there e =
        ap₂ (batch_told s.files.entry) (back (name_of s.files.entry.writer s.files.entry.seq Index) i refl (kept.1 ∙ is)) (back (name_of s.files.entry.writer s.files.entry.seq Fields) f refl (kept.0 ∙ there)) ∙ e

-- what the listings of a list and the files behind its entries tell
pub record BothTell (files : FileName → Option (List ℕ)) (ls : List Listing) (t : List (List Pair)) : Type 0 where
  pub listings : Tells ls t
  pub entries : map (λ (e : Entry). batch_of (files_of files e)) (entries_of ls) ≡ map (λ b. Some b) t

-- each listing has a batch, for which the files stand
abbrev pub EachStands : (FileName → Option (List ℕ)) → List Listing → Type 0
EachStands files ls = (i : ℕ) (l : Listing) → slice_get ls i ≡ Some l → (c : List Pair) × (l.batch ≡ Some c) × (batch_of (files_of files l.entry) ≡ Some c)

pub both_tell : (files : FileName → Option (List ℕ)) (ls : List Listing) → EachStands files ls → (t : List (List Pair)) × BothTell files ls t
both_tell files [] each = ([], record { listings = refl; entries = refl })
both_tell files (l ∷ ls) each =
    let one = each 0 l refl in
    let rest = both_tell files ls (λ i m at. each (suc i) m at) in (
      one.0 ∷ rest.0,
      record {
        listings = ap₂ (λ (o : Option (List Pair)) (os : List (Option (List Pair))). o ∷ os) one.1 rest.1.listings;
        entries = ap₂ (λ (o : Option (List Pair)) (os : List (Option (List Pair))). o ∷ os) one.2 rest.1.entries;
      },
    )

pub both_more : (files : FileName → Option (List ℕ)) (ls ms : List Listing) (t u : List (List Pair)) → BothTell files ls t → BothTell files ms u → BothTell files (ls ++ ms) (t ++ u)
both_more files ls ms t u a b = record {
  listings = map-append (λ (l : Listing). l.batch) ls ms ∙ (ap₂ (λ (x y : List (Option (List Pair))). x ++ y) a.listings b.listings ∙ sym (map-append (λ (c : List Pair). Some c) t u));
  entries = ap (map (λ (e : Entry). batch_of (files_of files e))) (map-append (λ (l : Listing). l.entry) ls ms)
      ∙ (map-append (λ (e : Entry). batch_of (files_of files e)) (entries_of ls) (entries_of ms) ∙ (ap₂ (λ (x y : List (Option (List Pair))). x ++ y) a.entries b.entries ∙ sym (map-append (λ (c : List Pair). Some c) t u)));
}

pub told_long : (ls : List Listing) (t : List (List Pair)) → Tells ls t → length t ≡ length ls
told_long ls t tells = sym (length-map t (λ (b : List Pair). Some b)) ∙ (ap length (sym tells) ∙ length-map ls (λ (l : Listing). l.batch))

pub get_behind : {A : Type 0} (xs ys : List A) (i : ℕ) → slice_get (xs ++ ys) (length xs + i) ≡ slice_get ys i
get_behind [] ys i = ap (slice_get ys) (omega arith)
get_behind (x ∷ xs) ys i = let e : length (x ∷ xs) + i ≡ suc (length xs + i) = omega arith in ap (slice_get (x ∷ (xs ++ ys))) e ∙ get_behind xs ys i

pub take_front : {A : Type 0} (n : ℕ) (xs ys : List A) → n ≡ length xs → take n (xs ++ ys) ≡ xs
take_front zero [] ys is = refl
take_front zero (x ∷ xs) ys is = absurd (omega arith)
take_front (suc n) [] ys is = absurd (omega arith)
take_front (suc n) (x ∷ xs) ys is = ap (λ (zs : List _). x ∷ zs) (take_front n xs ys (omega arith))

-- a list that begins with another of its length is that list
pub prefix_whole : {A : Type 0} (xs ys : List A) → IsPrefix xs ys → length ys ≡ length xs → ys ≡ xs
prefix_whole {A = A} xs ys p long = sym p.1 ∙ (ap (λ (zs : List A). xs ++ zs) (none p.0 (omega (arith, ap length p.1, length-append xs p.0, long))) ∙ append-nil xs)
  where
    none : (zs : List A) → length zs ≡ 0 → zs ≡ []
    none [] is = refl
    none (z ∷ zs) is = absurd (omega (arith, is))
