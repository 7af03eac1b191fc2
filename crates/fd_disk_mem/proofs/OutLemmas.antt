-- What a crash leaves of a dataset whose parts come back first.
use Rattle.std.proofs.Common.{◌≡◌, inl, inr, ◌≢◌, ◌<◌, ◌==◌, if◌then◌else◌, ℕ, Bool, Result, Ok, Err, IfOk, true, false, List, [], ◌∷◌, length, slice_index_or, remove, Option, Some, None, unwrap_or, refl, sym, ◌∙◌, ap, subst, arith, string_bytes}
use Rattle.std.proofs.lemmas.Bool.Decides.{Decides-eqb}
use Rattle.std.specs.Str.{bytes_eq}
use Rattle.std.proofs.lemmas.Slice.Eq.{bytes_eq-Decides}
use Rattle.fd_disk.specs.declared.file.File.{File}
use Rattle.fd_disk.specs.Folders.{Contents, Holdings, HasBack, Left, IsStoreImage, SameBut, folder_at, no_contents}
use Rattle.fd_disk.specs.Outstanding.{Shelved, Parts, IsDatasetImage, IsFileLeft, IsOutLeft, IsPlaceLeft, IsStoreLeft, all_back, none_out, nothing_left, one_out}
use Rattle.fd_disk.proofs.NameLemmas.{is_or_not}
use Rattle.fd_disk.proofs.OutstandingLemmas.{folder_back, shelf_back, store_all_back}
use Rattle.fd_disk_mem.specs.Crashes.{IsFolderCrashed, IsTableCrashed}
use Rattle.fd_disk_mem.specs.Drawers.{bytes_among, is_named}
use Rattle.fd_disk_mem.specs.Out.{AreApart, AreOf, shelved, shelves_in}
use Rattle.fd_disk_mem.specs.declared.shelf.MemShelf.{MemShelf}

abbrev parts : Contents → Option File → (ℕ → Option Shelved) → Parts
parts v t f = record { folder = v; table = t; shelves = f }

same_shelves : (v : Contents) (t : Option File) (f g : ℕ → Option Shelved) (left : Left) → ((w : ℕ) → f w ≡ g w) → IsDatasetImage (parts v t f) left → IsDatasetImage (parts v t g) left
same_shelves v t f g left same image = record {
  table = image.table;
  files = λ n. subst (λ (o : Option Shelved). IsFileLeft o n (v.files n) (left.files n)) (same n.writer) (image.files n);
}

without_first : (s : MemShelf) (ss : List MemShelf) → shelves_in ss s.writer ≡ None → (w : ℕ) → shelves_in ss w ≡ (if w == s.writer then None else shelves_in (s ∷ ss) w)
without_first s ss apart w = elim (is_or_not (w == s.writer)) [
  | inl same ↦ ap (shelves_in ss) ((Decides-eqb w s.writer).0 same) ∙ apart ∙ sym (ap (λ (b : Bool). if b then None else shelves_in (s ∷ ss) w) same)
  | inr other ↦ sym (ap (λ (b : Bool). if b then None else shelves_in (s ∷ ss) w) other ∙ ap (λ (b : Bool). if b then Some (shelved s) else shelves_in ss w) other)
]

first_out : (s : MemShelf) (ss : List MemShelf) → shelves_in (s ∷ ss) s.writer ≡ Some (shelved s)
first_out s ss = ap (λ (b : Bool). if b then Some (shelved s) else shelves_in ss s.writer) ((Decides-eqb s.writer s.writer).1 refl)

shelf_first : (old new : Contents) (t : Option File) (s : MemShelf) (ss : List MemShelf) (left : Left) → shelves_in ss s.writer ≡ None
    → HasBack old new (bytes_among s.kept.items) (is_named s.kept.items) → IsDatasetImage (parts new t (shelves_in ss)) left → IsDatasetImage (parts old t (shelves_in (s ∷ ss))) left
shelf_first old new t s ss left apart back image =
    (shelf_back (parts old t (shelves_in (s ∷ ss))) s.writer (shelved s) new left (first_out s ss) s.own back).0
    (same_shelves new t (shelves_in ss) (λ w. if w == s.writer then None else shelves_in (s ∷ ss) w) left (without_first s ss apart) image)

-- what stands of the shelves, and after the first came back
pub record FirstIs (items rest : List MemShelf) (x : MemShelf) (name : List ℕ) : Type 0 where
  pub name_is : string_bytes x.name ≡ name
  pub fewer : length rest < length items
  pub are_of : AreOf name rest
  pub apart : AreApart rest
  pub image : (old new : Contents) (t : Option File) (left : Left) → HasBack old new (bytes_among x.kept.items) (is_named x.kept.items)
      → IsDatasetImage (record { folder = new; table = t; shelves = shelves_in rest }) left → IsDatasetImage (record { folder = old; table = t; shelves = shelves_in items }) left

first_of : (s : MemShelf) (ss : List MemShelf) (name : List ℕ) → AreOf name (s ∷ ss) → AreApart (s ∷ ss) → FirstIs (s ∷ ss) ss s name
first_of s ss name are_of apart = record {
  name_is = are_of.0;
  fewer = omega arith;
  are_of = are_of.1;
  apart = apart.1;
  image = λ old new t left back image. shelf_first old new t s ss left apart.0 back image;
}

pub first_is : (items rest : List MemShelf) (x : MemShelf) (name : List ℕ) → 0 < length items → x ≡ slice_index_or items 0 x → rest ≡ remove items 0 → AreOf name items → AreApart items → FirstIs items rest x name
first_is [] rest x name some is now are_of apart = absurd (omega (arith, some))
first_is (s ∷ ss) rest x name some is now are_of apart =
    subst (λ (y : MemShelf). FirstIs (s ∷ ss) rest y name) (sym is) (subst (λ (l : List MemShelf). FirstIs (s ∷ ss) l s name) (sym now) (first_of s ss name are_of apart))

-- what is left where one dataset was out
out_left : (d e : Parts) (left : Option Left) → ((l : Left) → IsDatasetImage d l → IsDatasetImage e l) → IsOutLeft d left → IsOutLeft e left
out_left d e None more image = more nothing_left image
out_left d e (Some l) more image = more l image

place_left : (b : Bool) (d e : Parts) (here : Option Contents) (left : Option Left) → ((l : Left) → IsDatasetImage d l → IsDatasetImage e l)
    → IsPlaceLeft (if b then Some d else None) here left → IsPlaceLeft (if b then Some e else None) here left
place_left true d e here left more image = out_left d e left more image
place_left false d e here left more image = image

pub crash_image : (old mid : Holdings) (name : List ℕ) (v : Contents) (e : Parts) (schema : Option (List ℕ)) (folders : List ℕ → Option Left) → SameBut name old mid → v ≡ folder_at mid name
    → ((l : Left) → IsDatasetImage (all_back v) l → IsDatasetImage e l) → IsStoreImage mid schema folders → IsStoreLeft old (one_out name e) schema folders
crash_image old mid name v e schema folders same is more image =
    let was : one_out name (all_back v) name ≡ Some (all_back v) = ap (λ (b : Bool). if b then Some (all_back v) else None) ((bytes_eq-Decides name name).1 refl) in
    let others : (other : List ℕ) → other ≢ name → none_out other ≡ one_out name (all_back v) other =
    λ other apart. elim (is_or_not (bytes_eq other name)) [
      | inl equal ↦ absurd (apart ((bytes_eq-Decides other name).0 equal))
      | inr differs ↦ sym (ap (λ (b : Bool). if b then Some (all_back v) else None) differs)
    ] in
    let before = (folder_back old mid name v (one_out name (all_back v)) none_out schema folders same is was refl others).0 ((store_all_back mid schema folders).1 image) in
    record { schema_is = before.schema_is; folders_are = λ other. place_left (bytes_eq other name) (all_back v) e (old.folders other) (folders other) more (before.folders_are other) }

-- what is left of a table that stood in a folder
pub crashed_at : (choice : ℕ) (here there : Option Contents) (f : File) → (unwrap_or here no_contents).table ≡ Some f → IsFolderCrashed choice here there → IsTableCrashed choice (Some f) (unwrap_or there no_contents).table
crashed_at choice None None f is crashed = absurd (cc is)
crashed_at choice None (Some w) f is crashed = absurd crashed
crashed_at choice (Some v) None f is crashed = absurd crashed
crashed_at choice (Some v) (Some w) f is crashed = subst (λ (t : Option File). IsTableCrashed choice t w.table) is crashed.0

pub on_ok : {T E : Type 0} (r : Result T E) (P Q : T → Type 0) → IfOk r P → ((x : T) → P x → Q x) → IfOk r Q
on_ok (Ok x) P Q is more = more x is
on_ok (Err e) P Q is more = tt
