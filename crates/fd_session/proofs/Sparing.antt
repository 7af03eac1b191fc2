-- What is damaged stays as it was.
use Rattle.std.proofs.Common.{◌≡◌, ◌≢◌, ◌⊎◌, ℕ, Bool, true, false, List, [], Option, Some, None, Ok, inl, inr, refl, sym, ap, subst}
use Rattle.std.specs.Prelude.{IfSome, option_map, unwrap_or}
use Rattle.std.specs.Str.{bytes_eq}
use Rattle.std.proofs.lemmas.Slice.Eq.{bytes_eq-Decides}
use Rattle.fd_disk.specs.declared.file.File.{File}
use Rattle.fd_disk.specs.Folders.{Contents, Holdings, SameBut, WhereTold, folder_at, no_contents}
use Rattle.fd_disk.specs.Images.{synced}
use Rattle.fd_entries.specs.declared.table.Entry.{Entry}
use Rattle.fd_entries.specs.Table.{listed}
use Rattle.fd_schema.specs.Rules.{Rule}
use Rattle.fd_script.specs.Scripts.{Scripted}
use Rattle.fd_lanes.specs.declared.end.End.{End}
use Rattle.fd_recovery.specs.Damages.{damages}
use Rattle.fd_recovery.specs.Recovered.{IsUndamaged, ReadsImage}
use Rattle.fd_library.specs.Stores.{KeepsFolder, KeepsTable}
use Rattle.fd_stored.specs.Sparing.{SparesDamaged}
use Rattle.fd_stored.specs.Store.{IsLookedAt}
use Rattle.fd_play.specs.Plays.{LeavesOpened, LeavesUnplayed, Played}

-- a table that is damaged was there before
looked_table : (name : List ℕ) (v : Contents) (t u : Option File) → KeepsTable name t u → ¬ (IfSome t (λ f. (es : List Entry) × (listed name f.reads ≡ Ok es) × (damages v.files es ≡ []))) → (u ≡ t) ⊎ ((u ≡ option_map synced t) × ReadsImage t)
looked_table name v None u keeps damaged = absurd (damaged tt)
looked_table name v (Some f) None keeps damaged = absurd keeps
looked_table name v (Some f) (Some g) keeps damaged = elim keeps [ inl same ↦ inl (ap Some same) | inr firm ↦ inr (ap Some firm.0, firm.1) ]

looked_at : (name : List ℕ) (v w : Contents) → KeepsFolder name v w ⊎ LeavesOpened name v w → ¬ (IsUndamaged name v) → IsLookedAt v w
looked_at name v w (inl keeps) damaged = record { files = keeps.files; table = looked_table name v v.table w.table keeps.table damaged }
looked_at name v w (inr opened) damaged = absurd (damaged opened.undamaged)

spares_but : (name : List ℕ) (h i : Holdings) → SameBut name h i → (¬ (IsUndamaged name (folder_at h name)) → IsLookedAt (folder_at h name) (folder_at i name)) → SparesDamaged h i
spares_but name h i same here other damaged = go (bytes_eq other name) refl
  where
    go : (b : Bool) → bytes_eq other name ≡ b → IsLookedAt (folder_at h other) (folder_at i other)
    go true e =
        let is : name ≡ other = sym ((bytes_eq-Decides other name).0 e) in
        subst (λ (n : List ℕ). ¬ (IsUndamaged n (folder_at h n)) → IsLookedAt (folder_at h n) (folder_at i n)) is here damaged
    go false e =
        let apart : other ≢ name = λ is. absurd (let yes = (bytes_eq-Decides other name).1 is in cc (yes, e)) in
        let stays : folder_at i other ≡ folder_at h other = ap (λ (o : Option Contents). unwrap_or o no_contents) (same.others other apart) in
        record { files = ap (λ (v : Contents). v.files) stays; table = inl (ap (λ (v : Contents). v.table) stays) }

pub spares_self : (h : Holdings) → SparesDamaged h h
spares_self h = λ name damaged. record { files = refl; table = inl refl }

pub spares_unplayed : (name : List ℕ) (h i : Holdings) → LeavesUnplayed name h i → SparesDamaged h i
spares_unplayed name h i left = spares_but name h i left.others (looked_at name (folder_at h name) (folder_at i name) left.dataset)

pub spares_played : {F : Type 0} (rules : List Rule) (messages : List (List ℕ)) (script : Scripted) (before : ℕ) (all : List (List (End F))) (h i : Holdings) → Played rules messages script before all h i → SparesDamaged h i
spares_played rules messages script before all h i played = spares_but script.dataset h i played.others (λ damaged. absurd (damaged played.undamaged))

pub spares_told : (R : Holdings → Holdings → Type 0) → ((h i : Holdings) → R h i → SparesDamaged h i) → (a b : Option Holdings) → WhereTold a b R → WhereTold a b SparesDamaged
spares_told R to None None r = tt
spares_told R to None (Some i) r = absurd r
spares_told R to (Some h) None r = absurd r
spares_told R to (Some h) (Some i) r = to h i r
