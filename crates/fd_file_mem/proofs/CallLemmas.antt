-- One call more.
use Rattle.std.proofs.Common.{◌≡◌, ◌⊎◌, inl, inr, ℕ, ◌+◌, ◌≤◌, Bool, true, false, max, List, [], ◌∷◌, ◌++◌, length, take, slice_index, refl, sym, ◌∙◌, ap, subst, arith, Some}
use Rattle.std.proofs.lemmas.List.{take_all, take-append-le, length_push}
use Rattle.fd_disk.specs.declared.file.File.{File}
use Rattle.fd_disk.specs.Images.{IsImage, IsDisturbed, WritesAlike, firm_file, overwritten, written, loosened, synced}
use Rattle.fd_disk.proofs.ImageLemmas.{overwritten_long, overwritten_reaches}
use Rattle.fd_disk.specs.Moments.{Elapses}
use Rattle.fd_file_mem.specs.Calls.{Call, Wrote, Failed, Synced, Memory, called, replayed, file_after, file_of, synced_by, extent_by, with_call}
use Rattle.fd_file_mem.specs.Past.{LeftSince}

pub replayed-push : (f : File) (cs : List Call) (c : Call) → replayed f (cs ++ c ∷ []) ≡ called (replayed f cs) c
replayed-push f [] c = refl
replayed-push f (x ∷ cs) c = replayed-push (called f x) cs c

pub synced-push : (b : Bool) (cs : List Call) (c : Call) → synced_by b (cs ++ c ∷ []) ≡ synced_by (synced_by b cs) (c ∷ [])
synced-push b [] c = refl
synced-push b (Wrote at bytes ∷ cs) c = synced-push false cs c
synced-push b (Failed at len ∷ cs) c = synced-push false cs c
synced-push b (Synced ∷ cs) c = synced-push true cs c

pub extent-push : (n : ℕ) (cs : List Call) (c : Call) → extent_by n (cs ++ c ∷ []) ≡ extent_by (extent_by n cs) (c ∷ [])
extent-push n [] c = refl
extent-push n (Wrote at bytes ∷ cs) c = extent-push (max n (at + length bytes)) cs c
extent-push n (Failed at len ∷ cs) c = extent-push n cs c
extent-push n (Synced ∷ cs) c = extent-push n cs c

pub elapses_none : (m : Memory) → Elapses (length m.calls) (length m.calls) (LeftSince m) (LeftSince m) (Some (file_of m))
elapses_none m = record { later = omega arith; nothing_else = λ t c le left. inl left; keeps = λ t c le left. left }

module _ (m : Memory) (c : Call) where
  earlier : (k : ℕ) → k ≤ length m.calls → take k (m.calls ++ c ∷ []) ≡ take k m.calls
  earlier k le = take-append-le k m.calls (c ∷ []) le

  elapses_one : Elapses (length m.calls) (length (m.calls ++ c ∷ [])) (LeftSince m) (LeftSince (with_call m c)) (Some (file_of (with_call m c)))
  elapses_one = record {
    later = omega (arith, length_push m.calls c);
    nothing_else = λ t x le left. elim (at_most left.moment left.upto) [
      | inl before ↦ inl (record { moment = left.moment; from = left.from; upto = before; image = subst (λ (l : List Call). IsImage (file_after m.start l) x) (earlier left.moment before) left.image })
      | inr now ↦ inr (subst (λ (l : List Call). IsImage (file_after m.start l) x) (take_all left.moment (m.calls ++ c ∷ []) (omega (arith, now))) left.image)
    ];
    keeps = λ t x le left. record {
      moment = left.moment;
      from = left.from;
      upto = omega (arith, left.upto, length_push m.calls c);
      image = subst (λ (l : List Call). IsImage (file_after m.start l) x) (sym (earlier left.moment left.upto)) left.image;
    };
  }
    where
      at_most : (k : ℕ) → k ≤ length (m.calls ++ c ∷ []) → (k ≤ length m.calls) ⊎ (length (m.calls ++ c ∷ []) ≤ k)
      at_most k le = let long = length_push m.calls c in grind (arith, long, le)

-- what a call makes of a file
pub file_called : (old new : Memory) (c : Call) → new ≡ with_call old c → file_of new ≡ called (file_of old) c
file_called old new c is = ap file_of is ∙ replayed-push (firm_file old.start) old.calls c

pub synced_called : (old new : Memory) (c : Call) → new ≡ with_call old c → synced_by false new.calls ≡ synced_by (synced_by false old.calls) (c ∷ [])
synced_called old new c is = ap (λ (m : Memory). synced_by false m.calls) is ∙ synced-push false old.calls c

pub extent_called : (old new : Memory) (c : Call) → new ≡ with_call old c → extent_by 0 new.calls ≡ extent_by (extent_by 0 old.calls) (c ∷ [])
extent_called old new c is = ap (λ (m : Memory). extent_by 0 m.calls) is ∙ extent-push 0 old.calls c

pub elapses_called : (old new : Memory) (c : Call) → new ≡ with_call old c → Elapses (length old.calls) (length new.calls) (LeftSince old) (LeftSince new) (Some (file_of new))
elapses_called old new c is = subst (λ (m : Memory). Elapses (length old.calls) (length m.calls) (LeftSince old) (LeftSince m) (Some (file_of m))) (sym is) (elapses_one old c)

reaches : (n : ℕ) (f : File) (cs : List Call) → n ≤ length f.reads → extent_by n cs ≤ length (replayed f cs).reads
reaches n f [] le = le
reaches n f (Wrote at bytes ∷ cs) le =
    reaches (max n (at + length bytes)) (written f at bytes) cs (omega (arith, le, overwritten_long f.reads at bytes, overwritten_reaches f.reads at bytes))
reaches n f (Failed at len ∷ cs) le = reaches n (loosened f at len f.reads) cs le
reaches n f (Synced ∷ cs) le = reaches n (synced f) cs le

-- a file reaches to the greatest end of its writes
pub extent_within : (m : Memory) → extent_by 0 m.calls ≤ length (file_of m).reads
extent_within m = reaches 0 (firm_file m.start) m.calls (omega arith)

-- a write that failed leaves what a read gives
pub disturbed : (f : File) (at len : ℕ) (g : File) → g ≡ loosened f at len f.reads → IsDisturbed f at len g
unfolding WritesAlike
disturbed f at len g is =
    let reads : g.reads ≡ f.reads = ap (λ (h : File). h.reads) is in
    record {
      file = is ∙ ap (loosened f at len) (sym reads);
      no_shorter = omega (arith, ap length reads);
      agrees = λ k lt out. ap (λ (l : List ℕ). slice_index l k) reads;
      again = λ bytes long. ap (λ (l : List ℕ). overwritten l at bytes) reads;
    }
