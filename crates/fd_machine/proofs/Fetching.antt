-- A fetch answers the newest pair.
use Rattle.std.proofs.Common.{◌≡◌, inl, inr, ℕ, zero, suc, ◌+◌, ◌<◌, ◌≤◌, List, [], ◌∷◌, ◌++◌, length, take, get_or, refl, sym, ◌∙◌, ap, arith, append_assoc, Option, Some, None}
use Rattle.std.proofs.lemmas.List.{take_more}
use Rattle.fd_disk.specs.declared.file.File.{File}
use Rattle.fd_disk.specs.declared.folders.FileKind.TheVariants.{Fields, Index}
use Rattle.fd_entries.specs.declared.table.Entry.{Entry}
use Rattle.fd_entries.specs.Table.{header, slots_of, body_of, IsTable}
use Rattle.fd_entries.specs.Standing.{IsStaged}
use Rattle.fd_entries.proofs.SlotReading.{Front, entry_at, front_of_table, no_entry}
use Rattle.fd_entries.proofs.StandingLemmas.{slots-append, doubt_table}
use Rattle.fd_entries.specs.declared.batch.Pair.{Pair}
use Rattle.fd_machine.specs.declared.machine.Phase.{Phase}
use Rattle.fd_machine.specs.declared.machine.Phase.TheVariants.{Filling, Synced, Written, Sealed, Holding, BodyLoose, BodyFirm, GateLoose, Listed, Posted, Closing}
use Rattle.fd_machine.specs.declared.machine.Writer.{Writer}
use Rattle.fd_machine.specs.declared.machine.NamedFile.{NamedFile}
use Rattle.fd_machine.specs.World.{World}
use Rattle.fd_entries.specs.Batches.{or_older, of_batch, newest, of_files, rows}
use Rattle.fd_machine.specs.Machine.{file_of, entry_of, writer_of, of_slot, fetched, length_of, answer}
use Rattle.fd_entries.proofs.Reading.{newest-push, older_if, files_of_batch}
use Rattle.fd_machine.proofs.Holds.{name_of, StandsFor, AllStand, Doubtful, Owned, Mending, OwnedOrMending, FreeOrInDoubt, TableHolds, HoldsUp}

front_of_more : (es : List Entry) (e : Entry) (bytes : List ℕ) → IsTable [] (es ++ e ∷ []) bytes → Front es bytes
front_of_more es e bytes t = record {
  rest = slots_of (e ∷ []) ++ t.gate ∷ t.tail;
  is = t.is ∙ ap (λ (l : List ℕ). (header [] ++ l) ++ t.gate ∷ t.tail) (slots-append es (e ∷ []))
      ∙ ap (λ (l : List ℕ). l ++ t.gate ∷ t.tail) (sym (append_assoc (header []) (slots_of es) (slots_of (e ∷ []))))
      ∙ append_assoc (header [] ++ slots_of es) (slots_of (e ∷ [])) (t.gate ∷ t.tail);
}

front_of_staged : (es : List Entry) (f : File) (e : Entry) → IsStaged [] es f e → Front es f.reads
front_of_staged es f e s = record { rest = s.gate ∷ body_of e ++ 0 ∷ s.tail; is = ap (λ g. g.reads) s.firm }

front_of_doubt : (es : List Entry) (f : File) (e : Entry) → Doubtful f es e → Front es f.reads
front_of_doubt es f e d = elim (doubt_table [] es f e d.0 f.reads d.1) [
  | inl t ↦ front_of_table es f.reads t
  | inr t ↦ front_of_more es e f.reads t
]

front_owned : (es : List Entry) (f : File) (x : Writer) (p : Phase) → Owned f es x p → Front es f.reads
front_owned es f x Holding h = front_of_table es f.reads h.0.reads
front_owned es f x BodyLoose h = front_of_table es f.reads h.0.reads
front_owned es f x BodyFirm h = front_of_staged es f (entry_of x) h
front_owned es f x GateLoose h = front_of_more es (entry_of x) f.reads h.1
front_owned es f x Listed h = front_of_more es (entry_of x) f.reads h.reads
front_owned es f x Posted h = front_of_table es f.reads h.reads
front_owned es f x Filling h = absurd h
front_owned es f x Synced h = absurd h
front_owned es f x Written h = absurd h
front_owned es f x Sealed h = absurd h
front_owned es f x Closing h = absurd h

front_mending : (es : List Entry) (f : File) (e : Entry) (p : Phase) → Mending f es e p → Front es f.reads
front_mending es f e Holding h = front_of_doubt es f e h
front_mending es f e Closing h = front_of_doubt es f e h.0
front_mending es f e BodyLoose h = absurd h
front_mending es f e BodyFirm h = absurd h
front_mending es f e GateLoose h = absurd h
front_mending es f e Listed h = absurd h
front_mending es f e Posted h = absurd h
front_mending es f e Filling h = absurd h
front_mending es f e Synced h = absurd h
front_mending es f e Written h = absurd h
front_mending es f e Sealed h = absurd h

front_of_free : (es : List Entry) (f : File) (d : Option Entry) → FreeOrInDoubt f es d → Front es f.reads
front_of_free es f None h = front_of_table es f.reads h.reads
front_of_free es f (Some e) h = front_of_doubt es f e h

front_of_owner : (es : List Entry) (f : File) (x : Writer) (p : Phase) (d : Option Entry) → OwnedOrMending f es x p d → Front es f.reads
front_of_owner es f x p None h = front_owned es f x p h
front_of_owner es f x p (Some e) h = front_mending es f e p h

-- Whatever is going on at the table, it reads as the entries of the history, and then a gate.
pub front : (s : World) (es : List Entry) (owner : Option ℕ) → TableHolds s es owner → Front es s.table.reads
front s es None h = front_of_free es s.table s.doubt h
front s es (Some w) h = front_of_owner es s.table (writer_of s w) (writer_of s w).phase s.doubt h

pub stands_at : (files : List NamedFile) (es : List Entry) (bs : List (List Pair)) (i : ℕ) → AllStand files es bs → i < length es → StandsFor files (get_or es i no_entry) (get_or bs i [])
stands_at files [] bs i all lt = absurd (omega arith)
stands_at files (e ∷ es) [] i all lt = absurd all
stands_at files (e ∷ es) (b ∷ bs) zero all lt = all.0
stands_at files (e ∷ es) (b ∷ bs) (suc i) all lt = stands_at files es bs i all.1 (omega arith)

pub same_count : (files : List NamedFile) (es : List Entry) (bs : List (List Pair)) → AllStand files es bs → length es ≡ length bs
same_count files [] [] all = refl
same_count files (e ∷ es) (b ∷ bs) all = ap (λ (n : ℕ). suc n) (same_count files es bs all.1)
same_count files [] (b ∷ bs) all = absurd all
same_count files (e ∷ es) [] all = absurd all

module _ (s : World) (h : HoldsUp s) (key : List ℕ) where
  count : length h.entries ≡ length s.history
  count = same_count s.files h.entries s.history h.stands

  slot_gives : (n : ℕ) → n < length s.history → of_slot s n key ≡ of_batch (get_or s.history n []) key
  slot_gives n lt =
      let e = get_or h.entries n no_entry in
      let b = get_or s.history n [] in
      let small : n < length h.entries = omega (arith, count) in
      let st = stands_at s.files h.entries s.history n h.stands small in
      ap (λ (e : Entry). of_files (file_of s.files (name_of e Index)).reads (file_of s.files (name_of e Fields)).reads key)
      (entry_at h.entries s.table.reads n (front s h.entries s.owner h.table) h.fit h.few small)
      ∙ ap (λ (f : File). of_files f.reads (file_of s.files (name_of e Fields)).reads key) st.index
      ∙ ap (λ (f : File). of_files (rows b) f.reads key) st.fields
      ∙ files_of_batch b key st.keys st.small

  fetched_newest : (n : ℕ) → n ≤ length s.history → fetched s n key ≡ newest (take n s.history) key
  fetched_newest zero le = refl
  fetched_newest (suc n) le =
      let one : suc n ≡ n + 1 = omega arith in
      let within : n < length s.history = omega arith in
      let more : take (suc n) s.history ≡ take n s.history ++ get_or s.history n [] ∷ [] = ap (λ (m : ℕ). take m s.history) one ∙ take_more s.history n [] within in
      older_if (of_slot s n key) (fetched s n key)
      ∙ ap (λ o. or_older o (fetched s n key)) (slot_gives n (omega arith))
      ∙ ap (or_older (of_batch (get_or s.history n []) key)) (fetched_newest n (omega arith))
      ∙ sym (newest-push (take n s.history) (get_or s.history n []) key)
      ∙ ap (λ (bs : List (List Pair)). newest bs key) (sym more)

pub holds_fetches : (s : World) → HoldsUp s → (r : ℕ) (key : List ℕ) → answer s r key ≡ newest (take (length_of s r) s.history) key
holds_fetches s h r key = fetched_newest s h key (length_of s r) (h.sees r)
