-- What a crash at some moment might have left of a file in memory.
use Rattle.std.specs.Prelude.{◌≡◌, ◌≤◌, ℕ, Bool, true, false, List, [], ◌∷◌, length, take, refl, Some}
use Rattle.std.proofs.Common.{subst, sym, ap, arith}
use Rattle.std.proofs.lemmas.List.{take_all}
use Rattle.fd_disk.specs.declared.file.File.{File}
use Rattle.fd_disk.specs.Images.{IsImage, written, synced, loosened, firm_file}
use Rattle.fd_disk.proofs.ImageLemmas.{written_reads, loosened_reads, firm_image}
use Rattle.fd_file_mem.specs.Calls.{Call, Wrote, Failed, Synced, Memory, replayed, file_after, file_of, synced_by}

-- the file at some moment from t on has this image
pub record LeftSince (m : Memory) (t : ℕ) (c : List ℕ) : Type 0 where
  pub moment : ℕ
  pub from : t ≤ moment
  pub upto : moment ≤ length m.calls
  pub image : IsImage (file_after m.start (take moment m.calls)) c

pub now_counts : (m : Memory) (t : ℕ) (c : List ℕ) → t ≤ length m.calls → IsImage (file_of m) c → LeftSince m t c
now_counts m t c le image = record {
  moment = length m.calls;
  from = le;
  upto = omega arith;
  image = subst (λ (cs : List Call). IsImage (file_after m.start cs) c) (sym (take_all (length m.calls) m.calls (omega arith))) image;
}

pub only_now : (m : Memory) (c : List ℕ) → LeftSince m (length m.calls) c → IsImage (file_of m) c
only_now m c left = subst (λ (cs : List Call). IsImage (file_after m.start cs) c) (take_all left.moment m.calls left.from) left.image

reads_kept : (f : File) (calls : List Call) → IsImage f f.reads → IsImage (replayed f calls) (replayed f calls).reads
reads_kept f [] image = image
reads_kept f (Wrote at bytes ∷ cs) image = reads_kept (written f at bytes) cs (written_reads f at bytes image)
reads_kept f (Failed at len ∷ cs) image = reads_kept (loosened f at len f.reads) cs (loosened_reads f at len image)
reads_kept f (Synced ∷ cs) image = reads_kept (synced f) cs (firm_image f.reads)

pub reads_image : (start : List ℕ) (calls : List Call) → IsImage (file_after start calls) (file_after start calls).reads
reads_image start calls = reads_kept (firm_file start) calls (firm_image start)

firm_by : (b : Bool) (f : File) (calls : List Call) → (b ≡ true → f ≡ firm_file f.reads) → synced_by b calls ≡ true → replayed f calls ≡ firm_file (replayed f calls).reads
firm_by b f [] h is = h is
firm_by b f (Wrote at bytes ∷ cs) h is = firm_by false (written f at bytes) cs (λ e. absurd (cc e)) is
firm_by b f (Failed at len ∷ cs) h is = firm_by false (loosened f at len f.reads) cs (λ e. absurd (cc e)) is
firm_by b f (Synced ∷ cs) h is = firm_by true (synced f) cs (λ e. refl) is

pub synced_firm : (start : List ℕ) (calls : List Call) → synced_by false calls ≡ true → file_after start calls ≡ firm_file (file_after start calls).reads
synced_firm start calls is = firm_by false (firm_file start) calls (λ e. absurd (cc e)) is

pub reads_told : (m : Memory) (f : File) → Some (file_of m) ≡ Some f → IsImage f f.reads
reads_told m f is = let same : file_of m ≡ f = cc is in subst (λ (g : File). IsImage g g.reads) same (reads_image m.start m.calls)

pub firm_told : (m : Memory) (f : File) → Some (file_of m) ≡ Some f → synced_by false m.calls ≡ true → f ≡ firm_file f.reads
firm_told m f is synced = let same : file_of m ≡ f = cc is in subst (λ (g : File). g ≡ firm_file g.reads) same (synced_firm m.start m.calls synced)

pub len_told : (bytes b : List ℕ) → Some bytes ≡ Some b → length b ≡ length bytes
len_told bytes b is = let same : bytes ≡ b = cc is in ap length (sym same)
