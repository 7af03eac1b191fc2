-- A dataset that is opened, and given back.
use Rattle.std.proofs.Common.{◌≡◌, ◌∙◌, ℕ, zero, suc, true, List, [], ◌∷◌, map, get_or, Option, Some, None, IfSome, refl, sym, ap, subst}
use Rattle.std.specs.Prelude.{is_some, option_map, Ok}
use Rattle.fd_disk.specs.declared.file.File.{File}
use Rattle.fd_disk.specs.Folders.{Contents}
use Rattle.fd_disk.specs.Images.{IsImage}
use Rattle.fd_disk.specs.Moments.{MayLeave}
use Rattle.fd_entries.specs.declared.batch.Listing.{Listing}
use Rattle.fd_entries.specs.declared.batch.Pair.{Pair}
use Rattle.fd_entries.specs.declared.table.Entry.{Entry}
use Rattle.fd_entries.specs.Table.{listed}
use Rattle.fd_toc.specs.Lists.{ListsOrAlso}
use Rattle.fd_segment.specs.Held.{Standing, batch_of}
use Rattle.fd_dataset.specs.Listed.{listing}
use Rattle.fd_recovery.specs.Recovered.{AreTakenUp, all_of, held}
use Rattle.fd_retrieve.specs.Open.{IsOpenOf, Open}

pub get_or_map : {A B : Type 0} (f : A → B) (xs : List A) (i : ℕ) (d : A) → get_or (map f xs) i (f d) ≡ f (get_or xs i d)
get_or_map f [] i d = refl
get_or_map f (x ∷ xs) zero d = refl
get_or_map f (x ∷ xs) (suc i) d = get_or_map f xs i d

batches_listed : (ss : List Standing) → map (λ (l : Listing). l.batch) (map listing ss) ≡ map (λ (s : Standing). batch_of s.files) ss
batches_listed [] = refl
batches_listed (s ∷ ss) = ap (λ (l : List (Option (List Pair))). batch_of s.files ∷ l) (batches_listed ss)

-- as the folder has it
pub open_of : (name : List ℕ) (v : Contents) (es : List Entry) (ss : List Standing) (o : Open) → o.name ≡ name → o.shown ≡ ss
    → true ≡ is_some v.table → IfSome v.table (λ f. listed name f.reads ≡ Ok es) → AreTakenUp name (Some v) es ss
    → all_of (map (λ s. batch_of s.files) ss) ≡ held name v → IsOpenOf v o
open_of name v es ss o name_is shown there lists taken told = go v.table refl there lists
  where
    go : (t : Option File) → v.table ≡ t → true ≡ is_some t → IfSome t (λ f. listed name f.reads ≡ Ok es) → IsOpenOf v o
    go None is some lists = absurd cc
    go (Some f) is some lists = record {
      held = ap (λ (xs : List Standing). all_of (map (λ (l : Listing). l.batch) (map listing xs))) shown ∙ ap all_of (batches_listed ss) ∙ told ∙ ap (λ n. held n v) (sym name_is);
      listed = record {
        table = f;
        entries = es;
        table_is = is;
        lists = ap (λ n. listed n f.reads) name_is ∙ lists;
        files = ap (map (λ (s : Standing). s.files)) shown ∙ taken.files;
      };
    }

pub open_told : (name : List ℕ) (old : Option Contents) (es : List Entry) (ss : List Standing) (o : Open) → o.name ≡ name → o.shown ≡ ss
    → IfSome old (λ v. true ≡ is_some v.table) → IfSome old (λ v. IfSome v.table (λ f. listed name f.reads ≡ Ok es)) → AreTakenUp name old es ss
    → IfSome old (λ v. all_of (map (λ s. batch_of s.files) ss) ≡ held name v) → IfSome old (λ v. IsOpenOf v o)
open_told name None es ss o text shown there lists taken told = tt
open_told name (Some v) es ss o text shown there lists taken told = open_of name v es ss o text shown there lists taken told

-- The table lists what it listed.
pub lists_again : (name text : List ℕ) (table : Option File) (es now_es : List Entry) (doubt : Option Entry) (old : Option Contents) → text ≡ name → doubt ≡ None → now_es ≡ es
    → ((c : List ℕ) → MayLeave table c → ListsOrAlso text now_es doubt c) → ((f : File) → table ≡ Some f → IsImage f f.reads)
    → IfSome old (λ v. true ≡ is_some v.table) → IfSome old (λ v. IfSome v.table (λ f. listed name f.reads ≡ Ok es))
    → IfSome old (λ v. (f : File) → table ≡ Some f → option_map (λ f. listed name f.reads) table ≡ option_map (λ f. listed name f.reads) v.table)
lists_again name text table es now_es doubt None same sure entries_are images reads there lists = tt
lists_again name text table es now_es doubt (Some v) same sure entries_are images reads there lists = λ f is. go f is v.table there lists
  where
    go : (f : File) → table ≡ Some f → (t : Option File) → true ≡ is_some t → IfSome t (λ k. listed name k.reads ≡ Ok es) → option_map (λ f. listed name f.reads) table ≡ option_map (λ f. listed name f.reads) t
    go f is None some lists = absurd cc
    go f is (Some k) some lists =
        let image : MayLeave table f.reads = subst (λ o. MayLeave o f.reads) (sym is) (reads f is) in
        let now : listed text f.reads ≡ Ok es = subst (λ l. ListsOrAlso text l None f.reads) entries_are (subst (λ d. ListsOrAlso text now_es d f.reads) sure (images f.reads image)) in
        ap (option_map (λ (f : File). listed name f.reads)) is ∙ ap (λ r. Some r) (ap (λ n. listed n f.reads) (sym same) ∙ now ∙ sym lists)
