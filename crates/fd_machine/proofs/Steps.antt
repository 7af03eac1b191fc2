-- What holds is kept, step by step.
use Rattle.std.proofs.Common.{◌≡◌, ◌≢◌, inl, inr, ◌==◌, ◌&&◌, if◌then◌else◌, ℕ, ◌+◌, ◌-◌, ◌^◌, ◌<◌, ◌≤◌, Bool, true, false, nat_le, nat_lt, not, List, [], ◌∷◌, ◌++◌, length, drop, refl, sym, ◌∙◌, ap, subst, arith, append_assoc, length-append, Option, Some, None, is_none, is_some, max}
use Rattle.std.proofs.lemmas.Bool.{cases_eq}
use Rattle.std.specs.Int.{w16, w64, to_be_bytes}
use Rattle.std.proofs.lemmas.Bool.Decides.{nat_tests}
use Rattle.std.proofs.lemmas.List.{append-nil, length_push, take_all, drop_all}
use Rattle.fd_disk.specs.declared.file.File.{File}
use Rattle.fd_disk.specs.declared.folders.FileKind.TheVariants.{Fields, Index}
use Rattle.fd_disk.specs.Names.{same_name}
use Rattle.fd_disk.specs.Images.{firm_file, synced, written, overwritten}
use Rattle.fd_entries.specs.declared.table.Entry.{Entry}
use Rattle.fd_entries.specs.Table.{IsTable, Fits, body_of, gate_at, with_body, with_gate, with_closed}
use Rattle.fd_entries.specs.Standing.{IsSettled, IsStaged}
use Rattle.fd_entries.proofs.Slots.{listed_table}
use Rattle.fd_entries.proofs.StandingLemmas.{written_settled, body_staged, gate_opened, synced_settled, doubt_table, closed_table, staged_doubt, staged_settled, staged_reads, loosened_doubt, mended}
use Rattle.fd_entries.specs.declared.batch.Pair.{Pair}
use Rattle.fd_machine.specs.declared.machine.Phase.{Phase}
use Rattle.fd_machine.specs.declared.machine.Phase.TheVariants.{Filling, Synced, Written, Sealed, Holding, BodyLoose, BodyFirm, GateLoose, Listed, Posted, Closing}
use Rattle.fd_machine.specs.declared.machine.Writer.{Writer}
use Rattle.fd_machine.specs.declared.machine.NamedFile.{NamedFile}
use Rattle.fd_machine.specs.World.{World}
use Rattle.fd_entries.specs.Batches.{distinct, total, joined, rows, rows_from}
use Rattle.fd_machine.specs.Machine.{file_of, put_file, fields_name, index_name, entry_of, writer_of, writer_in, put_writer, fresh, code, can, effect}
use Rattle.fd_entries.specs.Numbers.{greatest_seq, entries_or_none}
use Rattle.fd_entries.specs.Batches.{is_empty, with_pair}
use Rattle.fd_machine.proofs.Keeping.{files_step, owner_step, SameOthers, there2, elsewhere2, known_writer, waits_code, phase_is, id_is, bound_idle}
use Rattle.fd_entries.proofs.BatchSums.{both}
use Rattle.fd_machine.proofs.Fetching.{same_count}
use Rattle.fd_machine.proofs.Updates.{file_there, file_elsewhere}
use Rattle.fd_entries.specs.Batches.{KeysFit}
use Rattle.fd_disk.proofs.ImageLemmas.{written_within, written_reads}
use Rattle.fd_machine.specs.declared.machine.Step.TheVariants.{Put, SyncData, WriteIndex, SyncIndex, Take, Body, SyncBody, Gate, SyncGate, Post, Release, CloseGate, SyncClose}
use Rattle.fd_machine.proofs.Holds.{StandsFor, AllStand, PairsFit, IsReady, ByPhase, WriterHolds, Doubtful, Owned, Mending, OwnedOrMending, FreeOrInDoubt, TableHolds, MayWait, IsWriters, DoubtHolds, AllOlder, bound, HoldsUp}

keys-push : (ps : List Pair) (p : Pair) → KeysFit ps → length p.key ≤ 256 → KeysFit (ps ++ p ∷ [])
keys-push [] p fit le = (le, tt)
keys-push (x ∷ ps) p fit le = (fit.0, keys-push ps p fit.1 le)

joined-push : (ps : List Pair) (p : Pair) → joined (ps ++ p ∷ []) ≡ joined ps ++ p.bytes
joined-push [] p = append-nil p.bytes
joined-push (x ∷ ps) p = ap (λ (l : List ℕ). x.bytes ++ l) (joined-push ps p) ∙ sym (append_assoc x.bytes (joined ps) p.bytes)

length-joined : (ps : List Pair) → length (joined ps) ≡ total ps
length-joined [] = refl
length-joined (x ∷ ps) = omega (arith, length-append x.bytes (joined ps), length-joined ps)

-- a write at the end
at_end : (old bytes : List ℕ) (n : ℕ) → length old ≡ n → overwritten old n bytes ≡ old ++ bytes
at_end old bytes n is =
    written_within old n bytes (omega (arith, is))
    ∙ ap (λ (l : List ℕ). l ++ (bytes ++ drop (n + length bytes) old)) (take_all n old (omega (arith, is)))
    ∙ ap (λ (l : List ℕ). old ++ (bytes ++ l)) (drop_all (n + length bytes) old (omega (arith, is)))
    ∙ ap (λ (l : List ℕ). old ++ l) (append-nil bytes)

-- a write over a file that is no longer
pub over_all : (old bytes : List ℕ) → length old ≤ length bytes → overwritten old 0 bytes ≡ bytes
over_all old bytes le =
    written_within old 0 bytes (omega arith)
    ∙ ap (λ (l : List ℕ). bytes ++ l) (drop_all (0 + length bytes) old (omega (arith, le)))
    ∙ append-nil bytes

-- the rows of more pairs are no fewer
rows-push : (at : ℕ) (ps : List Pair) (p : Pair) → length (rows_from at ps) ≤ length (rows_from at (ps ++ p ∷ []))
rows-push at [] p = omega arith
rows-push at (x ∷ ps) p =
    let front = to_be_bytes w16 (length x.key) ++ x.key ++ to_be_bytes w64 at ++ to_be_bytes w64 (length x.bytes) in
    let ih = rows-push (at + length x.bytes) ps p in
    omega (arith, ih, length-append front (rows_from (at + length x.bytes) ps), length-append front (rows_from (at + length x.bytes) (ps ++ p ∷ [])))

pub in_phase : (s : World) (h : HoldsUp s) (w : ℕ) (p : Phase) → (writer_of s w).phase ≡ p
    → ByPhase (file_of s.files (fields_name (writer_of s w))) (file_of s.files (index_name (writer_of s w))) (writer_of s w) p
in_phase s h w p is = subst (λ (q : Phase). ByPhase (file_of s.files (fields_name (writer_of s w))) (file_of s.files (index_name (writer_of s w))) (writer_of s w) q) is (h.writers w).phase

-- what holds of the table while this writer is busy with it
pub at_table : (s : World) (h : HoldsUp s) (w : ℕ) (p : Phase) → (writer_of s w).phase ≡ p → 4 ≤ code p → OwnedOrMending s.table h.entries (writer_of s w) p s.doubt
at_table s h w p is le =
    let mine : s.owner ≡ Some w = h.busy w (omega (arith, le, ap code is)) in
    subst (λ (q : Phase). OwnedOrMending s.table h.entries (writer_of s w) q s.doubt) is (subst (λ (o : Option ℕ). TableHolds s h.entries o) mine h.table)

-- nothing is in doubt where the owner's phase leaves no room for it
pub no_doubt : (s : World) (h : HoldsUp s) (w : ℕ) (p : Phase) → (writer_of s w).phase ≡ p → 4 ≤ code p → ((e : Entry) → Mending s.table h.entries e p → ⊥) → s.doubt ≡ None
no_doubt s h w p is le none = go s.doubt (at_table s h w p is le)
  where
    go : (d : Option Entry) → OwnedOrMending s.table h.entries (writer_of s w) p d → d ≡ None
    go None t = refl
    go (Some e) t = absurd (none e t)

pub owned : (s : World) (h : HoldsUp s) (w : ℕ) (p : Phase) → (writer_of s w).phase ≡ p → 4 ≤ code p → s.doubt ≡ None → Owned s.table h.entries (writer_of s w) p
owned s h w p is le none = subst (λ (d : Option Entry). OwnedOrMending s.table h.entries (writer_of s w) p d) none (at_table s h w p is le)

pub pairs_moved : (x : Writer) (p : Phase) → PairsFit x → PairsFit (record { id = x.id; pairs = x.pairs; phase = p; seq = x.seq })
pairs_moved x p h = record { keys = h.keys; small = h.small; index_small = h.index_small; few = h.few; known = h.known; seq = h.seq }

pub fields_index : (i q : ℕ) → same_name (record { writer = i; seq = q; kind = Fields }) (record { writer = i; seq = q; kind = Index }) ≡ false
fields_index i q = grind (arith, nat_tests)

pub index_fields : (i q : ℕ) → same_name (record { writer = i; seq = q; kind = Index }) (record { writer = i; seq = q; kind = Fields }) ≡ false
index_fields i q = grind (arith, nat_tests)

pub keeps_put : (s : World) (w : ℕ) (key bytes : List ℕ) → can s (Put w key bytes) ≡ true → HoldsUp s → HoldsUp (effect s (Put w key bytes))
keeps_put s w key bytes may h =
    let x = writer_of s w in
    let more = with_pair x.pairs key bytes in
    let a = both (code x.phase == 0 && nat_le 1 x.id && nat_le x.id 65536 && nat_le (length key) 256 && nat_le (distinct more) 65536 && nat_lt (total more) (2 ^ 63)) (nat_lt (length (rows more)) (2 ^ 63)) may in
    let b = both (code x.phase == 0 && nat_le 1 x.id && nat_le x.id 65536 && nat_le (length key) 256 && nat_le (distinct more) 65536) (nat_lt (total more) (2 ^ 63)) a.0 in
    let c = both (code x.phase == 0 && nat_le 1 x.id && nat_le x.id 65536 && nat_le (length key) 256) (nat_le (distinct more) 65536) b.0 in
    let d = both (code x.phase == 0 && nat_le 1 x.id && nat_le x.id 65536) (nat_le (length key) 256) c.0 in
    let e = both (code x.phase == 0 && nat_le 1 x.id) (nat_le x.id 65536) d.0 in
    let g = both (code x.phase == 0) (nat_le 1 x.id) e.0 in
    let filling : x.phase ≡ Filling = phase_is x.phase Filling g.0 in
    let holds = in_phase s h w Filling filling in
    let old = file_of s.files (fields_name x) in
    let new = written old (total x.pairs) bytes in
    let files = put_file s.files (fields_name x) new in
    let pair : Pair = record { key = key; bytes = bytes } in
    let x' : Writer = record { id = x.id; pairs = more; phase = x.phase; seq = x.seq } in
    let count : length old.reads ≡ total x.pairs = ap length holds.0 ∙ length-joined x.pairs in
    let reads : new.reads ≡ joined more = at_end old.reads bytes (total x.pairs) count ∙ ap (λ (l : List ℕ). l ++ bytes) holds.0 ∙ sym (joined-push x.pairs pair) in
    let short : length key ≤ 256 = grind (arith, nat_tests, d.1) in
    let small : total more < 2 ^ 63 = grind (arith, nat_tests, b.1) in
    let index_small : length (rows more) < 2 ^ 63 = grind (arith, nat_tests, a.1) in
    let few : distinct more ≤ 65536 = grind (arith, nat_tests, c.1) in
    let known : x.id ≤ 65536 = grind (arith, nat_tests, e.1) in
    let phase : ByPhase (file_of files (fields_name x)) (file_of files (index_name x)) x' Filling = (
      ap (λ (f : File). f.reads) (file_there s.files (fields_name x) new) ∙ reads,
      omega (arith, holds.1, rows-push 0 x.pairs pair, ap (λ (f : File). length f.reads) (file_elsewhere s.files (fields_name x) (index_name x) new (fields_index x.id x.seq))),
    ) in
    files_step s h w Fields new x' (id_is s w) refl (omega (arith, ap code filling)) (omega (arith, ap code filling))
    (record {
      pairs = record { keys = keys-push x.pairs pair (h.writers w).pairs.keys short; small = small; index_small = index_small; few = few; known = λ full. known; seq = (h.writers w).pairs.seq };
      phase = subst (λ (q : Phase). ByPhase (file_of files (fields_name x)) (file_of files (index_name x)) x' q) (sym filling) phase;
    })

pub keeps_sync_data : (s : World) (w : ℕ) → can s (SyncData w) ≡ true → HoldsUp s → HoldsUp (effect s (SyncData w))
keeps_sync_data s w may h =
    let x = writer_of s w in
    let a = both (code x.phase == 0 && not (is_empty x.pairs)) (nat_lt x.seq (2 ^ 32 - 1)) may in
    let b = both (code x.phase == 0) (not (is_empty x.pairs)) a.0 in
    let filling : x.phase ≡ Filling = phase_is x.phase Filling b.0 in
    let holds = in_phase s h w Filling filling in
    let files = put_file s.files (fields_name x) (synced (file_of s.files (fields_name x))) in
    let seq : x.seq < 2 ^ 32 - 1 = grind (arith, nat_tests, a.1) in
    let full : is_empty x.pairs ≡ false = elim (is_empty x.pairs) as (λ t. not t ≡ true → t ≡ false) [ true ↦ λ e. absurd (cc e) | false ↦ λ e. refl ] b.1 in
    let x' : Writer = record { id = x.id; pairs = x.pairs; phase = Synced; seq = x.seq } in
    files_step s h w Fields (synced (file_of s.files (fields_name x))) x' (id_is s w) refl (omega (arith, ap code filling)) (omega arith)
    (record {
      pairs = pairs_moved x Synced (h.writers w).pairs;
      phase = (
        record { id = (h.writers w).pairs.known full; seq = seq; fields_is = file_there s.files (fields_name x) (synced (file_of s.files (fields_name x))) ∙ ap firm_file holds.0 },
        subst (λ (f : File). length f.reads ≤ length (rows x.pairs)) (sym (file_elsewhere s.files (fields_name x) (index_name x) (synced (file_of s.files (fields_name x))) (fields_index x.id x.seq))) holds.1,
      );
    })

pub keeps_write_index : (s : World) (w : ℕ) → can s (WriteIndex w) ≡ true → HoldsUp s → HoldsUp (effect s (WriteIndex w))
keeps_write_index s w may h =
    let x = writer_of s w in
    let is : x.phase ≡ Synced = phase_is x.phase Synced may in
    let holds = in_phase s h w Synced is in
    let new = written (file_of s.files (index_name x)) 0 (rows x.pairs) in
    let x' : Writer = record { id = x.id; pairs = x.pairs; phase = Written; seq = x.seq } in
    let reads : new.reads ≡ rows x.pairs = over_all (file_of s.files (index_name x)).reads (rows x.pairs) holds.1 in
    files_step s h w Index new x' (id_is s w) refl (omega (arith, ap code is)) (omega arith)
    (record {
      pairs = pairs_moved x Written (h.writers w).pairs;
      phase = (
        record { id = holds.0.id; seq = holds.0.seq; fields_is = file_elsewhere s.files (index_name x) (fields_name x) new (index_fields x.id x.seq) ∙ holds.0.fields_is },
        ap (λ (f : File). f.reads) (file_there s.files (index_name x) new) ∙ reads,
      );
    })

pub keeps_sync_index : (s : World) (w : ℕ) → can s (SyncIndex w) ≡ true → HoldsUp s → HoldsUp (effect s (SyncIndex w))
keeps_sync_index s w may h =
    let x = writer_of s w in
    let is : x.phase ≡ Written = phase_is x.phase Written may in
    let holds = in_phase s h w Written is in
    let new = synced (file_of s.files (index_name x)) in
    let x' : Writer = record { id = x.id; pairs = x.pairs; phase = Sealed; seq = x.seq } in
    files_step s h w Index new x' (id_is s w) refl (omega (arith, ap code is)) (omega arith)
    (record {
      pairs = pairs_moved x Sealed (h.writers w).pairs;
      phase = (
        record { id = holds.0.id; seq = holds.0.seq; fields_is = file_elsewhere s.files (index_name x) (fields_name x) new (index_fields x.id x.seq) ∙ holds.0.fields_is },
        file_there s.files (index_name x) new ∙ ap firm_file holds.1,
      );
    })

-- the writer keeps its batch in another phase
pub moved_holds : (s : World) (h : HoldsUp s) (w : ℕ) (p : Phase)
    → ByPhase (file_of s.files (fields_name (writer_of s w))) (file_of s.files (index_name (writer_of s w))) (record { id = (writer_of s w).id; pairs = (writer_of s w).pairs; phase = p; seq = (writer_of s w).seq }) p
    → WriterHolds s.files (record { id = (writer_of s w).id; pairs = (writer_of s w).pairs; phase = p; seq = (writer_of s w).seq })
moved_holds s h w p phase = record { pairs = pairs_moved (writer_of s w) p (h.writers w).pairs; phase = phase }

pub ready : (f : File) (x : Writer) (p : Phase) → IsReady f x → IsReady f (record { id = x.id; pairs = x.pairs; phase = p; seq = x.seq })
ready f x p r = record { id = r.id; seq = r.seq; fields_is = r.fields_is }

-- the writer in another phase
abbrev pub in_other : Writer → Phase → Writer
in_other x p = record { id = x.id; pairs = x.pairs; phase = p; seq = x.seq }

-- a step of the owner that leaves the history
module _ (s : World) (h : HoldsUp s) (w : ℕ) (t' : File) (o' : Option ℕ) (d' : Option Entry) (p : Phase) where
  abbrev pub s3 : World
  s3 = record s { table = t'; owner = o'; doubt = d'; writers = put_writer s.writers (in_other (writer_of s w) p) }

  pub there3 : writer_of s3 w ≡ in_other (writer_of s w) p
  there3 = there2 s h w t' o' d' s.history h.entries (in_other (writer_of s w) p) (id_is s w)

  pub stays : SameOthers s h w t' o' d' s.history h.entries (in_other (writer_of s w) p)
      → code p ≢ 9 → code (writer_of s w).phase ≢ 9 → (4 ≤ code p → o' ≡ Some w) → ((v : ℕ) → v ≢ w → 4 ≤ code (writer_of s v).phase → o' ≡ Some v)
      → WriterHolds s.files (in_other (writer_of s w) p) → TableHolds s3 h.entries o' → DoubtHolds s3 d' → HoldsUp s3
  stays same low low_x mine others writer table doubted =
      let x = writer_of s w in
      owner_step s h w t' o' d' s.history h.entries (in_other x p) (id_is s w) same h.fit h.few h.stands table doubted writer
      (subst (λ (q : ℕ). AllOlder w q h.entries) (bound_idle x low_x ∙ sym (bound_idle (in_other x p) low)) (h.older w))
      (λ v differs. h.older v)
      mine others (omega arith) h.sees

  -- the owner goes on
  pub stays_owner : SameOthers s h w t' o' d' s.history h.entries (in_other (writer_of s w) p)
      → code p ≢ 9 → code (writer_of s w).phase ≢ 9 → o' ≡ Some w → ((v : ℕ) → v ≢ w → 4 ≤ code (writer_of s v).phase → o' ≡ Some v)
      → WriterHolds s.files (in_other (writer_of s w) p) → OwnedOrMending t' h.entries (in_other (writer_of s w) p) p d' → DoubtHolds s3 d' → HoldsUp s3
  stays_owner same low low_x mine others writer table doubted =
      stays same low low_x (λ le. mine) others writer
      (subst (λ (o : Option ℕ). TableHolds s3 h.entries o) (sym mine) (subst (λ (y : Writer). OwnedOrMending t' h.entries y y.phase d') (sym there3) table))
      doubted

  -- the entry in doubt is still its writer's own
  pub doubt_stays : SameOthers s h w t' o' d' s.history h.entries (in_other (writer_of s w) p) → MayWait p → (d : Option Entry) → DoubtHolds s d → DoubtHolds s3 d
  doubt_stays same waits None t = tt
  doubt_stays same waits (Some e) t = elim (cases_eq e.writer w) [
    | inl is ↦ subst (λ (y : Writer). IsWriters y e) (sym (ap (λ (u : ℕ). writer_of s3 u) is ∙ there3)) (record { own = t.own ∙ ap (λ (u : ℕ). entry_of (writer_of s u)) is; waits = waits })
    | inr differs ↦ subst (λ (y : Writer). IsWriters y e) (sym (elsewhere2 s h w t' o' d' s.history h.entries (in_other (writer_of s w) p) (id_is s w) same e.writer differs)) t
  ]

  pub doubt_none : d' ≡ None → DoubtHolds s3 d'
  doubt_none is = subst (λ (d : Option Entry). DoubtHolds s3 d) (sym is) tt

same_owner : (s : World) (h : HoldsUp s) (w : ℕ) → s.owner ≡ Some w → (v : ℕ) → v ≢ w → 4 ≤ code (writer_of s v).phase → s.owner ≡ Some v
same_owner s h w mine v differs le = h.busy v le

pub keeps_take : (s : World) (w : ℕ) → can s (Take w) ≡ true → HoldsUp s → HoldsUp (effect s (Take w))
keeps_take s w may h =
    let x = writer_of s w in
    let a = both (code x.phase == 3 && is_none s.owner) (nat_lt (length s.history) 65535) may in
    let b = both (code x.phase == 3) (is_none s.owner) a.0 in
    let is : x.phase ≡ Sealed = phase_is x.phase Sealed b.0 in
    let free : s.owner ≡ None = elim s.owner as (λ o. is_none o ≡ true → o ≡ None) [ Some v ↦ λ e. absurd (cc e) | None ↦ λ e. refl ] b.1 in
    let holds = in_phase s h w Sealed is in
    let room : length s.history < 65535 = grind (arith, nat_tests, a.1) in
    let few : length h.entries < 65535 = omega (arith, room, same_count s.files h.entries s.history h.stands) in
    let table : FreeOrInDoubt s.table h.entries s.doubt = subst (λ (o : Option ℕ). TableHolds s h.entries o) free h.table in
    stays_owner s h w s.table (Some w) s.doubt Holding (λ v differs. refl) (omega arith) (omega (arith, ap code is)) refl
    (λ v differs le. let taken : s.owner ≡ Some v = h.busy v le in absurd (cc (taken, free)))
    (moved_holds s h w Holding (ready (file_of s.files (fields_name x)) x Holding holds.0, holds.1))
    (taken s.table h.entries (in_other x Holding) few s.doubt table)
    (doubt_stays s h w s.table (Some w) s.doubt Holding (λ v differs. refl) (inr (inl refl)) s.doubt h.doubted)
  where
    taken : (f : File) (es : List Entry) (y : Writer) → length es < 65535 → (d : Option Entry) → FreeOrInDoubt f es d → OwnedOrMending f es y Holding d
    taken f es y few None t = (t, few)
    taken f es y few (Some e) t = t

pub entry_fits : (s : World) (h : HoldsUp s) (w : ℕ) (f : File) → IsReady f (writer_of s w) → Fits (length h.entries) (entry_of (writer_of s w))
entry_fits s h w f r =
    let p = (h.writers w).pairs in
    record { writer = omega (arith, r.id); seq = omega (arith, r.seq); fields = omega (arith, p.few); index_len = omega (arith, p.index_small); fields_len = omega (arith, p.small); digest = tt }

-- where both tables list the same entries, other writers' numbers stay
pub same_numbers : (s : World) (es : List Entry) (t' : File) → IsTable [] es s.table.reads → IsTable [] es t'.reads → (v : ℕ) → writer_in s.writers v (fresh t' v) ≡ writer_of s v
same_numbers s es t' ta tb v = ap (λ r. writer_in s.writers v (record { id = v; pairs = []; phase = Filling; seq = greatest_seq v (entries_or_none r) + 1 })) (listed_table [] es t'.reads tb ∙ sym (listed_table [] es s.table.reads ta))

greatest-push : (v : ℕ) (es : List Entry) (e : Entry) → e.writer ≢ v → greatest_seq v (es ++ e ∷ []) ≡ greatest_seq v es
greatest-push v [] e differs = let t : (e.writer == v) ≡ false = grind (arith, nat_tests, differs) in ap (λ (b : Bool). if b then max e.seq 0 else 0) t
greatest-push v (x ∷ es) e differs = ap (λ (n : ℕ). if x.writer == v then max x.seq n else n) (greatest-push v es e differs)

-- and where one of the two tables has one entry more, the numbers of all but its writer
more_numbers : (s : World) (es : List Entry) (e : Entry) (t' : File) → IsTable [] es s.table.reads → IsTable [] (es ++ e ∷ []) t'.reads → (v : ℕ) → e.writer ≢ v → writer_in s.writers v (fresh t' v) ≡ writer_of s v
more_numbers s es e t' ta tb v differs = ap (λ (q : ℕ). writer_in s.writers v (record { id = v; pairs = []; phase = Filling; seq = q + 1 }))
    (ap (λ r. greatest_seq v (entries_or_none r)) (listed_table [] (es ++ e ∷ []) t'.reads tb) ∙ greatest-push v es e differs ∙ sym (ap (λ r. greatest_seq v (entries_or_none r)) (listed_table [] es s.table.reads ta)))

less_numbers : (s : World) (es : List Entry) (e : Entry) (t' : File) → IsTable [] (es ++ e ∷ []) s.table.reads → IsTable [] es t'.reads → (v : ℕ) → e.writer ≢ v → writer_in s.writers v (fresh t' v) ≡ writer_of s v
less_numbers s es e t' ta tb v differs = ap (λ (q : ℕ). writer_in s.writers v (record { id = v; pairs = []; phase = Filling; seq = q + 1 }))
    (ap (λ r. greatest_seq v (entries_or_none r)) (listed_table [] es t'.reads tb) ∙ sym (greatest-push v es e differs) ∙ sym (ap (λ r. greatest_seq v (entries_or_none r)) (listed_table [] (es ++ e ∷ []) s.table.reads ta)))

-- closing a gate in doubt changes no writer's number: the one whose entry it is, is listed in `writers`
pub closed_numbers : (s : World) (h : HoldsUp s) (e : Entry) (t' : File) → Doubtful s.table h.entries e → IsWriters (writer_of s e.writer) e → IsTable [] h.entries t'.reads → (v : ℕ) → writer_in s.writers v (fresh t' v) ≡ writer_of s v
closed_numbers s h e t' d own closed v = elim (doubt_table [] h.entries s.table e d.0 s.table.reads d.1) [
  | inl t ↦ same_numbers s h.entries t' t closed v
  | inr t ↦ elim (cases_eq e.writer v) [
    | inl same ↦ known_writer s.writers v (fresh s.table v) (fresh t' v) refl (λ zero. let b = waits_code (writer_of s e.writer).phase own.waits in absurd (omega (arith, b, zero, ap (λ (u : ℕ). code (writer_of s u).phase) same)))
    | inr differs ↦ less_numbers s h.entries e t' t closed v differs
  ]
]

-- a gate in doubt that is written closed stays in doubt
pub closed_doubtful : (es : List Entry) (f : File) (e : Entry) → Doubtful f es e → Doubtful (with_closed f (length es)) es e
closed_doubtful es f e t = (
  loosened_doubt [] es f e (with_closed f (length es)).reads t.0,
  written_reads f (gate_at (length es)) (0 ∷ []) t.1,
)

pub keeps_body : (s : World) (w : ℕ) → can s (Body w) ≡ true → HoldsUp s → HoldsUp (effect s (Body w))
keeps_body s w may h =
    let x = writer_of s w in
    let a = both (code x.phase == 4) (is_none s.doubt) may in
    let is : x.phase ≡ Holding = phase_is x.phase Holding a.0 in
    let none : s.doubt ≡ None = elim s.doubt as (λ o. is_none o ≡ true → o ≡ None) [ Some v ↦ λ e. absurd (cc e) | None ↦ λ e. refl ] a.1 in
    let holds = in_phase s h w Holding is in
    let table = owned s h w Holding is (omega arith) none in
    let mine : s.owner ≡ Some w = h.busy w (omega (arith, ap code is)) in
    let fits = entry_fits s h w (file_of s.files (fields_name x)) holds.0 in
    let count = same_count s.files h.entries s.history h.stands in
    let t' = with_body s.table (length h.entries) (entry_of x) in
    let settled : IsSettled [] h.entries t' = written_settled [] h.entries s.table (body_of (entry_of x) ++ 0 ∷ []) table.0 in
    let staged : IsStaged [] h.entries (synced t') (entry_of x) = body_staged [] h.entries s.table (entry_of x) table.0 fits table.1 in
    subst (λ (n : ℕ). HoldsUp (record s { table = with_body s.table n (entry_of x); writers = put_writer s.writers (in_other x BodyLoose) })) count
    (stays_owner s h w t' s.owner s.doubt BodyLoose (λ v differs. same_numbers s h.entries t' table.0.reads settled.reads v) (omega arith) (omega (arith, ap code is)) mine (same_owner s h w mine)
    (moved_holds s h w BodyLoose (ready (file_of s.files (fields_name x)) x BodyLoose holds.0, holds.1))
    (subst (λ (d : Option Entry). OwnedOrMending t' h.entries (in_other x BodyLoose) BodyLoose d) (sym none) (settled, staged))
    (doubt_none s h w t' s.owner s.doubt BodyLoose none))

pub keeps_sync_body : (s : World) (w : ℕ) → can s (SyncBody w) ≡ true → HoldsUp s → HoldsUp (effect s (SyncBody w))
keeps_sync_body s w may h =
    let x = writer_of s w in
    let is : x.phase ≡ BodyLoose = phase_is x.phase BodyLoose may in
    let holds = in_phase s h w BodyLoose is in
    let none = no_doubt s h w BodyLoose is (omega arith) (λ e m. m) in
    let table = owned s h w BodyLoose is (omega arith) none in
    let mine : s.owner ≡ Some w = h.busy w (omega (arith, ap code is)) in
    stays_owner s h w (synced s.table) s.owner s.doubt BodyFirm (λ v differs. refl) (omega arith) (omega (arith, ap code is)) mine (same_owner s h w mine)
    (moved_holds s h w BodyFirm (ready (file_of s.files (fields_name x)) x BodyFirm holds.0, holds.1))
    (subst (λ (d : Option Entry). OwnedOrMending (synced s.table) h.entries (in_other x BodyFirm) BodyFirm d) (sym none) table.1)
    (doubt_none s h w (synced s.table) s.owner s.doubt BodyFirm none)

-- a gate opened over a staged body
pub gate_doubtful : (es : List Entry) (f : File) (e : Entry) → IsStaged [] es f e → Doubtful (with_gate f (length es)) es e
gate_doubtful es f e t = (
  loosened_doubt [] es f e (with_gate f (length es)).reads (staged_doubt [] es f e t),
  written_reads f (gate_at (length es)) (79 ∷ []) (staged_reads [] es f e t),
)

pub gate_numbers : (s : World) (h : HoldsUp s) (w : ℕ) → IsStaged [] h.entries s.table (entry_of (writer_of s w)) → (v : ℕ) → v ≢ w → writer_in s.writers v (fresh (with_gate s.table (length h.entries)) v) ≡ writer_of s v
gate_numbers s h w table v differs =
    let e = entry_of (writer_of s w) in
    more_numbers s h.entries e (with_gate s.table (length h.entries)) (staged_settled [] h.entries s.table e table).reads (gate_opened [] h.entries s.table e table) v
    (λ same. differs (sym same ∙ id_is s w))

pub keeps_gate : (s : World) (w : ℕ) → can s (Gate w) ≡ true → HoldsUp s → HoldsUp (effect s (Gate w))
keeps_gate s w may h =
    let x = writer_of s w in
    let e = entry_of x in
    let is : x.phase ≡ BodyFirm = phase_is x.phase BodyFirm may in
    let holds = in_phase s h w BodyFirm is in
    let none = no_doubt s h w BodyFirm is (omega arith) (λ e m. m) in
    let table = owned s h w BodyFirm is (omega arith) none in
    let mine : s.owner ≡ Some w = h.busy w (omega (arith, ap code is)) in
    let count = same_count s.files h.entries s.history h.stands in
    let t' = with_gate s.table (length h.entries) in
    subst (λ (n : ℕ). HoldsUp (record s { table = with_gate s.table n; writers = put_writer s.writers (in_other x GateLoose) })) count
    (stays_owner s h w t' s.owner s.doubt GateLoose (gate_numbers s h w table) (omega arith) (omega (arith, ap code is)) mine (same_owner s h w mine)
    (moved_holds s h w GateLoose (ready (file_of s.files (fields_name x)) x GateLoose holds.0, holds.1))
    (subst (λ (d : Option Entry). OwnedOrMending t' h.entries (in_other x GateLoose) GateLoose d) (sym none) (gate_doubtful h.entries s.table e table, gate_opened [] h.entries s.table e table))
    (doubt_none s h w t' s.owner s.doubt GateLoose none))

pub keeps_sync_gate : (s : World) (w : ℕ) → can s (SyncGate w) ≡ true → HoldsUp s → HoldsUp (effect s (SyncGate w))
keeps_sync_gate s w may h =
    let x = writer_of s w in
    let is : x.phase ≡ GateLoose = phase_is x.phase GateLoose may in
    let holds = in_phase s h w GateLoose is in
    let none = no_doubt s h w GateLoose is (omega arith) (λ e m. m) in
    let table = owned s h w GateLoose is (omega arith) none in
    let mine : s.owner ≡ Some w = h.busy w (omega (arith, ap code is)) in
    stays_owner s h w (synced s.table) s.owner s.doubt Listed (λ v differs. refl) (omega arith) (omega (arith, ap code is)) mine (same_owner s h w mine)
    (moved_holds s h w Listed (ready (file_of s.files (fields_name x)) x Listed holds.0, holds.1))
    (subst (λ (d : Option Entry). OwnedOrMending (synced s.table) h.entries (in_other x Listed) Listed d) (sym none) (synced_settled [] (h.entries ++ entry_of x ∷ []) s.table table.1))
    (doubt_none s h w (synced s.table) s.owner s.doubt Listed none)

pub keeps_close_gate : (s : World) (w : ℕ) → can s (CloseGate w) ≡ true → HoldsUp s → HoldsUp (effect s (CloseGate w))
keeps_close_gate s w may h =
    let x = writer_of s w in
    let a = both (code x.phase == 4) (is_some s.doubt) may in
    let is : x.phase ≡ Holding = phase_is x.phase Holding a.0 in
    let holds = in_phase s h w Holding is in
    let mine : s.owner ≡ Some w = h.busy w (omega (arith, ap code is)) in
    let count = same_count s.files h.entries s.history h.stands in
    let t' = with_closed s.table (length h.entries) in
    let go : (d : Option Entry) → s.doubt ≡ d → is_some d ≡ true → OwnedOrMending s.table h.entries x Holding d → DoubtHolds s d → HoldsUp (record s { table = t'; writers = put_writer s.writers (in_other x Closing) }) =
    λ d. elim d as (λ d. s.doubt ≡ d → is_some d ≡ true → OwnedOrMending s.table h.entries x Holding d → DoubtHolds s d → HoldsUp (record s { table = t'; writers = put_writer s.writers (in_other x Closing) })) [
      | None ↦ λ e some t b. absurd (cc some)
      | Some e ↦ λ there some t b.
          let same = λ (v : ℕ) (differs : v ≢ w). closed_numbers s h e t' t b (closed_table [] h.entries s.table e t.0 t.1) v in
          stays_owner s h w t' s.owner s.doubt Closing same (omega arith) (omega (arith, ap code is)) mine (same_owner s h w mine)
          (moved_holds s h w Closing (ready (file_of s.files (fields_name x)) x Closing holds.0, holds.1))
          (subst (λ (d : Option Entry). OwnedOrMending t' h.entries (in_other x Closing) Closing d) (sym there) (closed_doubtful h.entries s.table e t, mended [] h.entries s.table e t.0 t.1))
          (doubt_stays s h w t' s.owner s.doubt Closing same (inr (inr refl)) s.doubt h.doubted)
    ] in
    subst (λ (n : ℕ). HoldsUp (record s { table = with_closed s.table n; writers = put_writer s.writers (in_other x Closing) })) count
    (go s.doubt refl a.1 (at_table s h w Holding is (omega arith)) h.doubted)

pub keeps_sync_close : (s : World) (w : ℕ) → can s (SyncClose w) ≡ true → HoldsUp s → HoldsUp (effect s (SyncClose w))
keeps_sync_close s w may h =
    let x = writer_of s w in
    let is : x.phase ≡ Closing = phase_is x.phase Closing may in
    let holds = in_phase s h w Closing is in
    let mine : s.owner ≡ Some w = h.busy w (omega (arith, ap code is)) in
    stays_owner s h w (synced s.table) s.owner None Holding (λ v differs. refl) (omega arith) (omega (arith, ap code is)) mine (same_owner s h w mine)
    (moved_holds s h w Holding (ready (file_of s.files (fields_name x)) x Holding holds.0, holds.1))
    (mended_holds s.table h.entries x s.doubt (at_table s h w Closing is (omega arith))) tt
  where
    mended_holds : (f : File) (es : List Entry) (x : Writer) (d : Option Entry) → OwnedOrMending f es x Closing d → IsSettled [] es (synced f) × (length es < 65535)
    mended_holds f es x None t = absurd t
    mended_holds f es x (Some e) t = (t.1, t.0.0.few)

pub stands-push : (fs : List NamedFile) (es : List Entry) (bs : List (List Pair)) (e : Entry) (b : List Pair) → AllStand fs es bs → StandsFor fs e b → AllStand fs (es ++ e ∷ []) (bs ++ b ∷ [])
stands-push fs [] [] e b all one = (one, tt)
stands-push fs (x ∷ es) (y ∷ bs) e b all one = (all.0, stands-push fs es bs e b all.1 one)
stands-push fs [] (y ∷ bs) e b all one = absurd all
stands-push fs (x ∷ es) [] e b all one = absurd all

older-push : (w q : ℕ) (es : List Entry) (e : Entry) → AllOlder w q es → (e.writer ≡ w → e.seq < q) → AllOlder w q (es ++ e ∷ [])
older-push w q [] e all one = (one, tt)
older-push w q (x ∷ es) e all one = (all.0, older-push w q es e all.1 one)

older_more : (w q : ℕ) (es : List Entry) → AllOlder w q es → AllOlder w (q + 1) es
older_more w q [] all = tt
older_more w q (x ∷ es) all = ((λ is. let lt = all.0 is in omega (arith, lt)), older_more w q es all.1)

pub keeps_post : (s : World) (w : ℕ) → can s (Post w) ≡ true → HoldsUp s → HoldsUp (effect s (Post w))
keeps_post s w may h =
    let x = writer_of s w in
    let e = entry_of x in
    let is : x.phase ≡ Listed = phase_is x.phase Listed may in
    let holds = in_phase s h w Listed is in
    let none = no_doubt s h w Listed is (omega arith) (λ e m. m) in
    let table = owned s h w Listed is (omega arith) none in
    let mine : s.owner ≡ Some w = h.busy w (omega (arith, ap code is)) in
    let x' : Writer = in_other x Posted in
    let hs' = s.history ++ x.pairs ∷ [] in
    let es' = h.entries ++ e ∷ [] in
    let s2 : World = record s { history = hs'; writers = put_writer s.writers x' } in
    let there : writer_of s2 w ≡ x' = there2 s h w s.table s.owner s.doubt hs' es' x' (id_is s w) in
    let p = (h.writers w).pairs in
    let one : StandsFor s.files e x.pairs = record { fields = holds.0.fields_is; index = holds.1; keys = p.keys; small = p.small; seq = holds.0.seq } in
    owner_step s h w s.table s.owner s.doubt hs' es' x' (id_is s w) (λ v differs. refl) table.reads.fit table.reads.few
    (stands-push s.files h.entries s.history e x.pairs h.stands one)
    (subst (λ (o : Option ℕ). TableHolds s2 es' o) (sym mine) (subst (λ (y : Writer). OwnedOrMending s.table es' y y.phase s.doubt) (sym there) (subst (λ (d : Option Entry). OwnedOrMending s.table es' x' Posted d) (sym none) table)))
    (subst (λ (d : Option Entry). DoubtHolds s2 d) (sym none) tt)
    (moved_holds s h w Posted (ready (file_of s.files (fields_name x)) x Posted holds.0, holds.1))
    (older-push w (x.seq + 1) h.entries e (older_more w x.seq h.entries (subst (λ (q : ℕ). AllOlder w q h.entries) (bound_idle x (omega (arith, ap code is))) (h.older w))) (λ same. omega arith))
    (λ v differs. older-push v (bound (writer_of s v)) h.entries e (h.older v) (λ same. absurd (differs (sym same ∙ id_is s w))))
    (λ le. mine) (same_owner s h w mine) (omega arith) (λ r. omega (arith, h.sees r, length_push s.history x.pairs))

pub keeps_release : (s : World) (w : ℕ) → can s (Release w) ≡ true → HoldsUp s → HoldsUp (effect s (Release w))
keeps_release s w may h =
    let x = writer_of s w in
    let is : x.phase ≡ Posted = phase_is x.phase Posted may in
    let none = no_doubt s h w Posted is (omega arith) (λ e m. m) in
    let table = owned s h w Posted is (omega arith) none in
    let mine : s.owner ≡ Some w = h.busy w (omega (arith, ap code is)) in
    let x' : Writer = record { id = w; pairs = []; phase = Filling; seq = x.seq + 1 } in
    let s2 : World = record s { owner = None; writers = put_writer s.writers x' } in
    let numbered : x.seq + 1 < 2 ^ 32 = omega (arith, (in_phase s h w Posted is).0.seq) in
    let above : bound x ≡ x.seq + 1 = ap (λ (p : Phase). if code p == 9 then x.seq + 1 else x.seq) is in
    owner_step s h w s.table None s.doubt s.history h.entries x' refl (λ v differs. refl) h.fit h.few h.stands
    (subst (λ (d : Option Entry). FreeOrInDoubt s.table h.entries d) (sym none) table)
    (subst (λ (d : Option Entry). DoubtHolds s2 d) (sym none) tt)
    (record {
      pairs = record { keys = tt; small = omega arith; index_small = omega arith; few = omega arith; known = λ full. absurd (cc full); seq = numbered };
      phase = (ap (λ (f : File). f.reads) (h.unused w (x.seq + 1) Fields (omega arith)), omega (arith, ap (λ (f : File). length f.reads) (h.unused w (x.seq + 1) Index (omega arith))));
    })
    (subst (λ (q : ℕ). AllOlder w q h.entries) above (h.older w))
    (λ v differs. h.older v)
    (λ le. absurd (omega (arith, le)))
    (λ v differs le. let taken : s.owner ≡ Some v = h.busy v le in let same : v ≡ w = cc (taken, mine) in absurd (differs same))
    (omega arith) h.sees
