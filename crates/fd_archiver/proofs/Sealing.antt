-- What sealing and keeping a batch leave of an archiver.
use Rattle.std.proofs.Common.{rules, ◌≡◌, ◌≢◌, ◌++◌, ◌<◌, ◌≤◌, ℕ, Bool, true, false, List, [], ◌∷◌, refl, sym, ap, ◌∙◌, subst, arith, Option, Some, None, Result, Ok, Err, OnOk, OnErr, IfSome, IsSome, is_some, IsTrue, ◌↔◌}
use Rattle.fd_disk.specs.declared.folders.FileName.{FileName}
use Rattle.fd_disk.specs.declared.folders.FileKind.{FileKind}
use Rattle.fd_disk.specs.declared.folders.FileKind.TheVariants.{Fields, Index}
use Rattle.fd_disk.specs.Names.{name_of}
use Rattle.fd_entries.specs.declared.batch.Pair.{Pair}
use Rattle.fd_segment.specs.Filling.{Filling, HoldsSame, IsOf, IsSealed, Origin, Puts}
use Rattle.fd_segment.specs.Held.{Standing, batch_of}
use Rattle.fd_archiver.specs.Whole.{IsDraftOf, IsNextOf, IsSegmentOf, IsWhole, Owner}
use Rattle.fd_archiver.specs.Writing.{IsKept, IsPendingIn, IsSealedFrom, Writing}
use Rattle.fd_archiver.proofs.Keeping.{told_files}

pub sealed_from : (told : Bool) (d : Filling) (b : List Pair) (s : Standing) → d.origin.told ≡ told → b ≢ [] → IsSealed d b s → IsSealedFrom told b s
sealed_from told d b s same some is = record { some = some; fields = is.fields; fields_len = is.fields_len; batch = λ tells. is.told (same ∙ tells); alike = is.alike }

-- the batch was sealed, and the next draft took its place
pub whole_sealed : (o : Owner) (d n : Filling) (s : Standing) → IsWhole o d (Some n) None → ((b : List Pair) → Puts d b → IsSealed d b s) → IsOf d.origin s → ((b : List Pair) → Puts d b → b ≢ []) → IsWhole o n None (Some s)
whole_sealed o d n s is sealed of some =
    let later = is.next_of.later in
    let seq = of.seq in
    record {
      draft_of = is.next_of.draft;
      next_of = tt;
      segment_of = record {
        writer = of.writer ∙ is.draft_of.writer;
        dataset = of.dataset ∙ is.draft_of.dataset;
        index = of.index ∙ names Index is.draft_of.writer (sym of.seq);
        fields = of.fields ∙ names Fields is.draft_of.writer (sym of.seq);
        earlier = omega (arith, later, seq);
      };
      pairs = is.pairs;
      pending = (is.next_of.empty, sealed_from o.told d is.pairs s is.draft_of.told (some is.pairs is.pending) (sealed is.pairs is.pending));
    }
  where
    names : (kind : FileKind) {w w' q q' : ℕ} → w ≡ w' → q ≡ q' → Some (name_of w q kind) ≡ Some (name_of w' q' kind)
    names kind e f = λ i. Some (name_of (e i) (f i) kind)

draft_same : (o : Owner) (d e : Filling) → HoldsSame d e → IsDraftOf o d → IsDraftOf o e
draft_same o d e same is = record {
  writer = ap (λ (x : Origin). x.writer) same.origin ∙ is.writer;
  dataset = ap (λ (x : Origin). x.dataset) same.origin ∙ is.dataset;
  told = ap (λ (x : Origin). x.told) same.origin ∙ is.told;
  seq = subst (λ (x : Origin). x.seq ≤ o.last) (sym same.origin) is.seq;
  keys = ap (λ h. h.keys) same.held ∙ is.keys;
  bytes = ap (λ h. h.bytes) same.held ∙ is.bytes;
}

-- a draft of the same batch stands in its place
pub whole_back : (o : Owner) (d e n : Filling) → IsWhole o d (Some n) None → HoldsSame d e → ((b : List Pair) → Puts d b → Puts e b) → IsWhole o e (Some n) None
whole_back o d e n is same puts = record {
  draft_of = draft_same o d e same is.draft_of;
  next_of = subst (λ (x : Origin). IsNextOf o x.seq n) (sym same.origin) is.next_of;
  segment_of = tt;
  pairs = is.pairs;
  pending = puts is.pairs is.pending;
}

-- where the shelf tells, so do the files of a segment that waits
pub waits_told : (o : Owner) (d : Filling) (n : Option Filling) (s : Standing) → IsWhole o d n (Some s) → o.told ≡ true → IsSome s.files.index × IsSome s.files.fields
waits_told o d n s is tells = told_files s.files (is.pending.1.batch tells)

-- nothing is listed, and nothing waits
pub whole_listed : (o : Owner) (d : Filling) (n : Option Filling) (s : Standing) → IsWhole o d n (Some s) → IsWhole o d n None
whole_listed o d n s is = record { draft_of = is.draft_of; next_of = is.next_of; segment_of = tt; pairs = []; pending = is.pending.0 }

-- other pairs in the draft
whole_now : (o : Owner) (d e : Filling) (n : Option Filling) → e.origin ≡ d.origin → e.held.keys ≡ d.held.keys → e.held.bytes ≡ d.held.bytes → (pairs : List Pair) → Puts e pairs → IsWhole o d n None → IsWhole o e n None
whole_now o d e n origin keys bytes pairs puts is = record {
  draft_of = record {
    writer = ap (λ (x : Origin). x.writer) origin ∙ is.draft_of.writer;
    dataset = ap (λ (x : Origin). x.dataset) origin ∙ is.draft_of.dataset;
    told = ap (λ (x : Origin). x.told) origin ∙ is.draft_of.told;
    seq = subst (λ (x : Origin). x.seq ≤ o.last) (sym origin) is.draft_of.seq;
    keys = keys ∙ is.draft_of.keys;
    bytes = bytes ∙ is.draft_of.bytes;
  };
  next_of = subst (λ (x : Origin). IfSome n (IsNextOf o x.seq)) (sym origin) is.next_of;
  segment_of = tt;
  pairs = pairs;
  pending = puts;
}

-- a pair more in the draft, or none where the put was refused
pub whole_put : {E : Type 0} (r : Result (Unit {0}) E) (o : Owner) (d e : Filling) (n : Option Filling) (u : Option Standing) (p : Pair) → u ≡ None → e.origin ≡ d.origin → e.held.keys ≡ d.held.keys → e.held.bytes ≡ d.held.bytes
    → OnOk r ((b : List Pair) → Puts d b → Puts e (b ++ p ∷ [])) → OnErr r ((b : List Pair) → Puts d b → Puts e b) → IsWhole o d n u → IsWhole o e n u
whole_put (Ok done) o d e n None p none origin keys bytes ok err is = whole_now o d e n origin keys bytes (is.pairs ++ p ∷ []) (ok is.pairs is.pending) is
whole_put (Err x) o d e n None p none origin keys bytes ok err is = whole_now o d e n origin keys bytes is.pairs (err is.pairs is.pending) is
whole_put r o d e n (Some s) p none origin keys bytes ok err is = absurd (cc none)

-- nothing waits
pub none_waits : (b : Bool) (u : Option Standing) → b ≡ false → (IsTrue b ↔ IsSome u) → u ≡ None
none_waits true u e waits = absurd (cc e)
none_waits false None e waits = refl
none_waits false (Some s) e waits = let h = waits.1 (search rules) in absurd (cc h)

-- the shelf was called, and tells as before
pub whole_kept : (w keys bytes last : ℕ) (name name' : List ℕ) (told told' : Bool) (d : Filling) (n : Option Filling) (u u' : Option Standing) → name' ≡ name → told' ≡ told → u' ≡ u
    → IsWhole (record { writer = w; dataset = name; told = told; keys = keys; bytes = bytes; last = last }) d n u
    → IsWhole (record { writer = w; dataset = name'; told = told'; keys = keys; bytes = bytes; last = last }) d n u'
whole_kept w keys bytes last name name' told told' d n u u' names tells same is =
    subst (λ (x : Option Standing). IsWhole (record { writer = w; dataset = name'; told = told'; keys = keys; bytes = bytes; last = last }) d n x) (sym same)
    (subst (λ (x : Bool). IsWhole (record { writer = w; dataset = name'; told = x; keys = keys; bytes = bytes; last = last }) d n u) (sym tells)
    (subst (λ (x : List ℕ). IsWhole (record { writer = w; dataset = x; told = told; keys = keys; bytes = bytes; last = last }) d n u) (sym names) is))

-- where a segment waits, its number was used
pub waits_used : (o : Owner) (d : Filling) (n : Option Filling) (s : Standing) → IsWhole o d n (Some s) → s.files.entry.seq ≤ o.last
waits_used o d n s is = let a = is.segment_of.earlier in let b = is.draft_of.seq in omega (arith, a, b)

pub kept_at : (kept : Option (FileName → Option (List ℕ))) (s : Standing) (u : Option Standing) → u ≡ Some s → IsKept kept s → (t : Standing) → u ≡ Some t → IsKept kept t
kept_at kept s u is h t also = let same : s ≡ t = cc (is, also) in subst (IsKept kept) same h

-- the shelf was called: all else is as it was
pub all_else : {H : Type 0} (v w : Writing H) → v.writer ≡ w.writer → v.dataset ≡ w.dataset → v.told ≡ w.told → v.last ≡ w.last → v.has_next ≡ w.has_next → v.draft ≡ w.draft → v.unlisted ≡ w.unlisted → v.shelf_faults ≡ w.shelf_faults
    → v ≡ record w { is_kept = v.is_kept; shelf = v.shelf }
all_else v w e0 e1 e2 e3 e4 e5 e6 e7 = λ i. record { writer = e0 i; dataset = e1 i; told = e2 i; last = e3 i; has_next = e4 i; draft = e5 i; unlisted = e6 i; is_kept = v.is_kept; shelf = v.shelf; shelf_faults = e7 i }
