-- What a crash leaves, and what opening finds.
use Rattle.std.proofs.Common.{◌≡◌, ◌≢◌, inl, inr, ◌==◌, ◌&&◌, ◌||◌, if◌then◌else◌, ℕ, ◌+◌, ◌-◌, ◌^◌, ◌<◌, ◌≤◌, max, Bool, true, false, List, [], ◌∷◌, ◌++◌, length, take, drop, map, refl, sym, ◌∙◌, ap, subst, arith, length-append, Option, Some, None}
use Rattle.std.proofs.lemmas.Bool.Decides.{nat_tests}
use Rattle.std.proofs.lemmas.List.{append-nil}
use Rattle.fd_disk.specs.declared.file.File.{File}
use Rattle.fd_disk.specs.declared.folders.FileName.{FileName}
use Rattle.fd_disk.specs.declared.folders.FileKind.{FileKind}
use Rattle.fd_disk.specs.declared.folders.FileKind.TheVariants.{Fields, Index}
use Rattle.fd_disk.specs.Names.{same_name}
use Rattle.fd_disk.specs.Images.{IsImage, firm_file}
use Rattle.fd_entries.specs.declared.table.Entry.{Entry}
use Rattle.fd_entries.specs.Table.{listed, IsTable}
use Rattle.fd_entries.specs.Standing.{IsSettled}
use Rattle.fd_entries.proofs.Slots.{listed_table}
use Rattle.fd_entries.proofs.StandingLemmas.{settled_table, doubt_table, staged_settled}
use Rattle.fd_entries.specs.declared.batch.Pair.{Pair}
use Rattle.fd_machine.specs.declared.machine.Phase.{Phase}
use Rattle.fd_machine.specs.declared.machine.Phase.TheVariants.{Filling, Synced, Written, Sealed, Holding, BodyLoose, BodyFirm, GateLoose, Listed, Posted, Closing}
use Rattle.fd_machine.specs.declared.machine.Writer.{Writer}
use Rattle.fd_machine.specs.declared.machine.NamedFile.{NamedFile}
use Rattle.fd_machine.specs.declared.machine.Step.TheVariants.{Crash, Reopen}
use Rattle.fd_machine.specs.World.{World}
use Rattle.fd_entries.specs.Batches.{Row, joined, rows, rows_read}
use Rattle.fd_machine.specs.Machine.{file_of, fields_name, index_name, entry_of, writer_of, writer_in, fresh, code, may_leave, has_image, have_images, firmed, first_of_left, batch_in, is_listed, kept_files, effect}
use Rattle.fd_entries.specs.Numbers.{greatest_seq, entries_or_none}
use Rattle.fd_machine.specs.Laws.{IsPrefix, IsReopened}
use Rattle.fd_entries.proofs.Reading.{batch_back}
use Rattle.fd_machine.proofs.Updates.{name_cases}
use Rattle.fd_machine.proofs.Images.{image_is, left_there}
use Rattle.fd_entries.proofs.BatchSums.{both}
use Rattle.fd_machine.proofs.Steps.{in_phase, stands-push}
use Rattle.fd_machine.proofs.Holds.{name_of, StandsFor, AllStand, IsReady, WriterHolds, Doubtful, Owned, Mending, OwnedOrMending, FreeOrInDoubt, TableHolds, IsWriters, DoubtHolds, AllOlder, bound, HoldsUp, HoldsDown}

stands_left : (fs : List NamedFile) (cs : List (List ℕ)) (e : Entry) (b : List Pair) → have_images fs cs ≡ true → StandsFor fs e b → StandsFor (firmed fs cs) e b
stands_left fs cs e b have st = record {
  fields = left_there fs cs (name_of e Fields) (joined b) have st.fields;
  index = left_there fs cs (name_of e Index) (rows b) have st.index;
  keys = st.keys;
  small = st.small;
  seq = st.seq;
}

-- the files of listed entries are firm, so that a crash leaves them
all_left : (fs : List NamedFile) (cs : List (List ℕ)) (es : List Entry) (bs : List (List Pair)) → have_images fs cs ≡ true → AllStand fs es bs → AllStand (firmed fs cs) es bs
all_left fs cs [] [] have all = tt
all_left fs cs (e ∷ es) (b ∷ bs) have all = (stands_left fs cs e b have all.0, all_left fs cs es bs have all.1)
all_left fs cs [] (b ∷ bs) have all = absurd all
all_left fs cs (e ∷ es) [] have all = absurd all

-- what a crash has left: a table of these entries, whose files stand for these batches
pub record Left (s : World) (c : List ℕ) (cs : List (List ℕ)) : Type 0 where
  pub entries : List Entry
  pub found : List (List Pair)
  pub table : IsTable [] entries c
  pub stands : AllStand (firmed s.files cs) entries found
  pub begins : IsPrefix s.history found
  pub is : IsReopened s found

module _ (s : World) (h : HoldsUp s) (c : List ℕ) (cs : List (List ℕ)) (image : IsImage s.table c) (have : have_images s.files cs ≡ true) where
  -- the entries of the history
  plain : IsTable [] h.entries c → IsReopened s s.history → Left s c cs
  plain t is = record {
    entries = h.entries;
    found = s.history;
    table = t;
    stands = all_left s.files cs h.entries s.history have h.stands;
    begins = ([], append-nil s.history);
    is = is;
  }

  -- and one more
  more : (e : Entry) (b : List Pair) → IsTable [] (h.entries ++ e ∷ []) c → StandsFor s.files e b → IsReopened s (s.history ++ b ∷ []) → Left s c cs
  more e b t one is = record {
    entries = h.entries ++ e ∷ [];
    found = s.history ++ b ∷ [];
    table = t;
    stands = all_left s.files cs (h.entries ++ e ∷ []) (s.history ++ b ∷ []) have (stands-push s.files h.entries s.history e b h.stands one);
    begins = (b ∷ [], refl);
    is = is;
  }

  either : (e : Entry) (b : List Pair) → Doubtful s.table h.entries e → StandsFor s.files e b → IsReopened s s.history → IsReopened s (s.history ++ b ∷ []) → Left s c cs
  either e b d one without with_it = elim (doubt_table [] h.entries s.table e d.0 c image) [
    | inl t ↦ plain t without
    | inr t ↦ more e b t one with_it
  ]

  settled : IsSettled [] h.entries s.table → IsReopened s s.history → Left s c cs
  settled t is = plain (settled_table [] h.entries s.table c t image) is

  -- no other writer is busy
  none_busy : s.owner ≡ None → (p : Phase) → 4 ≤ code p → (v : ℕ) → (writer_of s v).phase ≢ p
  none_busy free p le v is = let taken : s.owner ≡ Some v = h.busy v (omega (arith, le, ap code is)) in absurd (cc (taken, free))

  owner_is : (w : ℕ) → s.owner ≡ Some w → (p : Phase) → 4 ≤ code p → (v : ℕ) → (writer_of s v).phase ≡ p → v ≡ w
  owner_is w mine p le v is = let taken : s.owner ≡ Some v = h.busy v (omega (arith, le, ap code is)) in cc (taken, mine)

  not_in : (w : ℕ) → s.owner ≡ Some w → (p q : Phase) → (writer_of s w).phase ≡ q → 4 ≤ code p → code p ≢ code q → (v : ℕ) → (writer_of s v).phase ≢ p
  not_in w mine p q here le differs v is =
      let same : v ≡ w = owner_is w mine p le v is in
      differs (sym (ap code is) ∙ ap (λ (u : ℕ). code (writer_of s u).phase) same ∙ ap code here)

  -- nothing is being listed
  quiet : ((v : ℕ) → (writer_of s v).phase ≢ Listed) → ((v : ℕ) → (writer_of s v).phase ≢ GateLoose) → s.doubt ≡ None → IsReopened s s.history
  quiet no_listed no_gate none = record {
    listed = λ v is. absurd (no_listed v is);
    opening = λ v is. absurd (no_gate v is);
    in_doubt = λ e is. absurd (cc (is, none));
    otherwise = λ a b d. refl;
  }

  doubt_without : ((v : ℕ) → (writer_of s v).phase ≢ Listed) → ((v : ℕ) → (writer_of s v).phase ≢ GateLoose) → (e : Entry) → s.doubt ≡ Some e → IsReopened s s.history
  doubt_without no_listed no_gate e there = record {
    listed = λ v is. absurd (no_listed v is);
    opening = λ v is. absurd (no_gate v is);
    in_doubt = λ e is. inl refl;
    otherwise = λ a b d. refl;
  }

  doubt_with : ((v : ℕ) → (writer_of s v).phase ≢ Listed) → ((v : ℕ) → (writer_of s v).phase ≢ GateLoose) → (e : Entry) → s.doubt ≡ Some e → IsReopened s (s.history ++ (writer_of s e.writer).pairs ∷ [])
  doubt_with no_listed no_gate e there = record {
    listed = λ v is. absurd (no_listed v is);
    opening = λ v is. absurd (no_gate v is);
    in_doubt = λ e' is. let same : e ≡ e' = cc (is, there) in inr (ap (λ (u : Entry). s.history ++ (writer_of s u.writer).pairs ∷ []) same);
    otherwise = λ a b d. absurd (cc (d, there));
  }

  gate_without : (w : ℕ) → s.owner ≡ Some w → (writer_of s w).phase ≡ GateLoose → s.doubt ≡ None → IsReopened s s.history
  gate_without w mine here none = record {
    listed = λ v is. absurd (not_in w mine Listed GateLoose here (omega arith) (omega arith) v is);
    opening = λ v is. inl refl;
    in_doubt = λ e is. absurd (cc (is, none));
    otherwise = λ a b d. refl;
  }

  gate_with : (w : ℕ) → s.owner ≡ Some w → (writer_of s w).phase ≡ GateLoose → s.doubt ≡ None → IsReopened s (s.history ++ (writer_of s w).pairs ∷ [])
  gate_with w mine here none = record {
    listed = λ v is. absurd (not_in w mine Listed GateLoose here (omega arith) (omega arith) v is);
    opening = λ v is. inr (ap (λ (u : ℕ). s.history ++ (writer_of s u).pairs ∷ []) (sym (owner_is w mine GateLoose (omega arith) v is)));
    in_doubt = λ e is. absurd (cc (is, none));
    otherwise = λ a b d. absurd (b w here);
  }

  listed_with : (w : ℕ) → s.owner ≡ Some w → (writer_of s w).phase ≡ Listed → s.doubt ≡ None → IsReopened s (s.history ++ (writer_of s w).pairs ∷ [])
  listed_with w mine here none = record {
    listed = λ v is. ap (λ (u : ℕ). s.history ++ (writer_of s u).pairs ∷ []) (sym (owner_is w mine Listed (omega arith) v is));
    opening = λ v is. absurd (not_in w mine GateLoose Listed here (omega arith) (omega arith) v is);
    in_doubt = λ e is. absurd (cc (is, none));
    otherwise = λ a b d. absurd (a w here);
  }

  -- the files of a batch whose index is firm
  stands_own : (w : ℕ) → IsReady (file_of s.files (fields_name (writer_of s w))) (writer_of s w) × (file_of s.files (index_name (writer_of s w)) ≡ firm_file (rows (writer_of s w).pairs))
      → StandsFor s.files (entry_of (writer_of s w)) (writer_of s w).pairs
  stands_own w holds = record { fields = holds.0.fields_is; index = holds.1; keys = (h.writers w).pairs.keys; small = (h.writers w).pairs.small; seq = holds.0.seq }

  stands_doubted : (e : Entry) → IsWriters (writer_of s e.writer) e → StandsFor s.files e (writer_of s e.writer).pairs
  stands_doubted e t = subst (λ (d : Entry). StandsFor s.files d (writer_of s e.writer).pairs) (sym t.own) (stands_own e.writer (elim t.waits [
    | inl a ↦ in_phase s h e.writer Sealed a
    | inr b ↦ elim b [ inl a ↦ in_phase s h e.writer Holding a | inr a ↦ in_phase s h e.writer Closing a ]
  ]))

  left_owned : (w : ℕ) → s.owner ≡ Some w → s.doubt ≡ None → (p : Phase) → (writer_of s w).phase ≡ p → Owned s.table h.entries (writer_of s w) p → Left s c cs
  left_owned w mine none Holding here t = settled t.0 (quiet (not_in w mine Listed Holding here (omega arith) (omega arith)) (not_in w mine GateLoose Holding here (omega arith) (omega arith)) none)
  left_owned w mine none BodyLoose here t = settled t.0 (quiet (not_in w mine Listed BodyLoose here (omega arith) (omega arith)) (not_in w mine GateLoose BodyLoose here (omega arith) (omega arith)) none)
  left_owned w mine none BodyFirm here t = settled (staged_settled [] h.entries s.table (entry_of (writer_of s w)) t) (quiet (not_in w mine Listed BodyFirm here (omega arith) (omega arith)) (not_in w mine GateLoose BodyFirm here (omega arith) (omega arith)) none)
  left_owned w mine none GateLoose here t = either (entry_of (writer_of s w)) (writer_of s w).pairs t.0 (stands_own w (in_phase s h w GateLoose here)) (gate_without w mine here none) (gate_with w mine here none)
  left_owned w mine none Listed here t = more (entry_of (writer_of s w)) (writer_of s w).pairs (settled_table [] (h.entries ++ entry_of (writer_of s w) ∷ []) s.table c t image) (stands_own w (in_phase s h w Listed here)) (listed_with w mine here none)
  left_owned w mine none Posted here t = settled t (quiet (not_in w mine Listed Posted here (omega arith) (omega arith)) (not_in w mine GateLoose Posted here (omega arith) (omega arith)) none)
  left_owned w mine none Filling here t = absurd t
  left_owned w mine none Synced here t = absurd t
  left_owned w mine none Written here t = absurd t
  left_owned w mine none Sealed here t = absurd t
  left_owned w mine none Closing here t = absurd t

  left_mending : (w : ℕ) → s.owner ≡ Some w → (e : Entry) → s.doubt ≡ Some e → IsWriters (writer_of s e.writer) e → (p : Phase) → (writer_of s w).phase ≡ p → Mending s.table h.entries e p → Left s c cs
  left_mending w mine e there own Holding here t =
      let a = not_in w mine Listed Holding here (omega arith) (omega arith) in
      let b = not_in w mine GateLoose Holding here (omega arith) (omega arith) in
      either e (writer_of s e.writer).pairs t (stands_doubted e own) (doubt_without a b e there) (doubt_with a b e there)
  left_mending w mine e there own Closing here t =
      let a = not_in w mine Listed Closing here (omega arith) (omega arith) in
      let b = not_in w mine GateLoose Closing here (omega arith) (omega arith) in
      either e (writer_of s e.writer).pairs t.0 (stands_doubted e own) (doubt_without a b e there) (doubt_with a b e there)
  left_mending w mine e there own BodyLoose here t = absurd t
  left_mending w mine e there own BodyFirm here t = absurd t
  left_mending w mine e there own GateLoose here t = absurd t
  left_mending w mine e there own Listed here t = absurd t
  left_mending w mine e there own Posted here t = absurd t
  left_mending w mine e there own Filling here t = absurd t
  left_mending w mine e there own Synced here t = absurd t
  left_mending w mine e there own Written here t = absurd t
  left_mending w mine e there own Sealed here t = absurd t

  abbrev TableBy : Option ℕ → Option Entry → Type 0
  TableBy None d = FreeOrInDoubt s.table h.entries d
  TableBy (Some w) d = OwnedOrMending s.table h.entries (writer_of s w) (writer_of s w).phase d

  table_by : (o : Option ℕ) → TableHolds s h.entries o → TableBy o s.doubt
  table_by None t = t
  table_by (Some w) t = t

  left_by : (o : Option ℕ) (d : Option Entry) → s.owner ≡ o → s.doubt ≡ d → TableBy o d → DoubtHolds s d → Left s c cs
  left_by None None free none t own = settled t (quiet (none_busy free Listed (omega arith)) (none_busy free GateLoose (omega arith)) none)
  left_by None (Some e) free there t own =
      let a = none_busy free Listed (omega arith) in
      let b = none_busy free GateLoose (omega arith) in
      either e (writer_of s e.writer).pairs t (stands_doubted e own) (doubt_without a b e there) (doubt_with a b e there)
  left_by (Some w) None mine none t own = left_owned w mine none (writer_of s w).phase refl t
  left_by (Some w) (Some e) mine there t own = left_mending w mine e there own (writer_of s w).phase refl t

  pub left_of : Left s c cs
  left_of = left_by s.owner s.doubt refl refl (table_by s.owner h.table) h.doubted

-- what a crash that is possible has left
pub crash_left : (s : World) (h : HoldsUp s) (left : List (List ℕ)) → may_leave s left ≡ true → Left s (first_of_left left) (drop 1 left)
crash_left s h [] may = absurd (cc may)
crash_left s h (c ∷ cs) may = let t = both (has_image s.table c) (have_images s.files cs) may in left_of s h c cs (image_is s.table c t.0) t.1

-- a crash brings the machine down
abbrev pub crashed : (s : World) (h : HoldsUp s) (left : List (List ℕ)) → Left s (first_of_left left) (drop 1 left) → HoldsDown (effect s (Crash left))
crashed s h left l = record {
  entries = l.entries;
  found = l.found;
  table = record { firm = l.table; reads = l.table; loose = tt };
  stands = l.stands;
  begins = l.begins;
  no_writers = refl;
  no_owner = refl;
  no_doubt = refl;
  sees = h.sees;
}

-- the batch that the files of an entry give
batch_of : (fs : List NamedFile) (e : Entry) (b : List Pair) → StandsFor fs e b → batch_in fs e ≡ b
batch_of fs e b st =
    ap (λ (f : File). map (λ (r : Row). record { key = r.key; bytes = take r.len (drop r.at (file_of fs (name_of e Fields)).reads) }) (rows_read (length f.reads) f.reads)) st.index
    ∙ ap (λ (f : File). map (λ (r : Row). record { key = r.key; bytes = take r.len (drop r.at f.reads) }) (rows_read (length (rows b)) (rows b))) st.fields
    ∙ batch_back b st.keys st.small

batches_of : (fs : List NamedFile) (es : List Entry) (bs : List (List Pair)) → AllStand fs es bs → map (batch_in fs) es ≡ bs
batches_of fs [] [] all = refl
batches_of fs (e ∷ es) (b ∷ bs) all =
    ap (λ (x : List Pair). x ∷ map (batch_in fs) es) (batch_of fs e b all.0) ∙ ap (λ (l : List (List Pair)). b ∷ l) (batches_of fs es bs all.1)
batches_of fs [] (b ∷ bs) all = absurd all
batches_of fs (e ∷ es) [] all = absurd all

-- opening finds the batches of the entries
pub opened_history : (s : World) (h : HoldsDown s) → (effect s Reopen).history ≡ h.found
opened_history s h =
    ap (λ r. map (batch_in s.files) (entries_or_none r)) (listed_table [] h.entries s.table.reads h.table.reads) ∙ batches_of s.files h.entries h.found h.stands

listed_same : (es : List Entry) (n m : FileName) → n ≡ m → is_listed es n ≡ is_listed es m
listed_same es n m same = ap (is_listed es) same

-- a listed file is kept
kept_there : (es : List Entry) (fs : List NamedFile) (n : FileName) → is_listed es n ≡ true → file_of (kept_files es fs) n ≡ file_of fs n
kept_there es [] n is = refl
kept_there es (f ∷ fs) n is = go (is_listed es f.name) refl (kept_there es fs n is)
  where
    go : (t : Bool) → is_listed es f.name ≡ t → file_of (kept_files es fs) n ≡ file_of fs n → file_of (if t then f ∷ kept_files es fs else kept_files es fs) n ≡ file_of (f ∷ fs) n
    go true here ih = ap (λ (l : File). if same_name f.name n then f.file else l) ih
    go false here ih = ih ∙ sym (elim (name_cases f.name n) [
      | inl same ↦ absurd (cc (here, is, listed_same es f.name n same))
      | inr differs ↦ ap (λ (t : Bool). if t then f.file else file_of fs n) differs
    ])

-- and no other
kept_gone : (es : List Entry) (fs : List NamedFile) (n : FileName) → is_listed es n ≡ false → file_of (kept_files es fs) n ≡ firm_file []
kept_gone es [] n is = refl
kept_gone es (f ∷ fs) n is = go (is_listed es f.name) refl (kept_gone es fs n is)
  where
    go : (t : Bool) → is_listed es f.name ≡ t → file_of (kept_files es fs) n ≡ firm_file [] → file_of (if t then f ∷ kept_files es fs else kept_files es fs) n ≡ firm_file []
    go true here ih = elim (name_cases f.name n) [
      | inl same ↦ absurd (cc (here, is, listed_same es f.name n same))
      | inr differs ↦ ap (λ (t : Bool). if t then f.file else file_of (kept_files es fs) n) differs ∙ ih
    ]
    go false here ih = ih

abbrev AllListed : List Entry → List Entry → Type 0
AllListed all [] = Unit {0}
AllListed all (e ∷ es) = ((k : FileKind) → is_listed all (name_of e k) ≡ true) × AllListed all es

more_listed : (a : Entry) (all es : List Entry) → AllListed all es → AllListed (a ∷ all) es
more_listed a all [] t = tt
more_listed a all (e ∷ es) t = ((λ k. let one = t.0 k in or_true ((e.writer == a.writer) && (e.seq == a.seq)) (is_listed all (name_of e k)) one), more_listed a all es t.1)
  where
    or_true : (x y : Bool) → y ≡ true → (x || y) ≡ true
    or_true true y is = refl
    or_true false y is = is

each_listed : (es : List Entry) → AllListed es es
each_listed [] = tt
each_listed (e ∷ es) = ((λ k. here e.writer e.seq (is_listed es (name_of e k))), more_listed e es es (each_listed es))
  where
    here : (w q : ℕ) (b : Bool) → (((w == w) && (q == q)) || b) ≡ true
    here w q b = grind (arith, nat_tests)

kept_stand : (all es : List Entry) (fs : List NamedFile) (bs : List (List Pair)) → AllListed all es → AllStand fs es bs → AllStand (kept_files all fs) es bs
kept_stand all [] fs [] t st = tt
kept_stand all (e ∷ es) fs (b ∷ bs) t st = (
  record { fields = kept_there all fs (name_of e Fields) (t.0 Fields) ∙ st.0.fields; index = kept_there all fs (name_of e Index) (t.0 Index) ∙ st.0.index; keys = st.0.keys; small = st.0.small; seq = st.0.seq },
  kept_stand all es fs bs t.1 st.1,
)
kept_stand all [] fs (b ∷ bs) t st = absurd st
kept_stand all (e ∷ es) fs [] t st = absurd st

-- the greatest number is no less than any
greatest_max : (w m : ℕ) (es : List Entry) → greatest_seq w es ≤ m → AllOlder w (m + 1) es
greatest_max w m [] le = tt
greatest_max w m (e ∷ es) le = go (e.writer == w) refl le (greatest_max w m es)
  where
    other : (a b : ℕ) → (a == b) ≡ false → a ≢ b
    other a b is = grind (arith, nat_tests, is)

    go : (t : Bool) → (e.writer == w) ≡ t → (if t then max e.seq (greatest_seq w es) else greatest_seq w es) ≤ m → (greatest_seq w es ≤ m → AllOlder w (m + 1) es) → AllOlder w (m + 1) (e ∷ es)
    go true is le ih = ((λ same. omega (arith, le)), ih (omega (arith, le)))
    go false is le ih = ((λ same. absurd (other e.writer w is same)), ih le)

greatest_small : (w : ℕ) (fs : List NamedFile) (es : List Entry) (bs : List (List Pair)) → AllStand fs es bs → greatest_seq w es < 2 ^ 32 - 1
greatest_small w fs [] bs all = omega arith
greatest_small w fs (e ∷ es) [] all = absurd all
greatest_small w fs (e ∷ es) (b ∷ bs) all = go (e.writer == w) all.0.seq (greatest_small w fs es bs all.1)
  where
    go : (t : Bool) → e.seq < 2 ^ 32 - 1 → greatest_seq w es < 2 ^ 32 - 1 → (if t then max e.seq (greatest_seq w es) else greatest_seq w es) < 2 ^ 32 - 1
    go true here rest = omega (arith, here, rest)
    go false here rest = rest

-- what is older has no file of this number
older_gone : (w q p : ℕ) (k : FileKind) (es : List Entry) → AllOlder w q es → q ≤ p → is_listed es (record { writer = w; seq = p; kind = k }) ≡ false
older_gone w q p k [] all le = refl
older_gone w q p k (e ∷ es) all le = none ((w == e.writer) && (p == e.seq)) (is_listed es (record { writer = w; seq = p; kind = k })) (one w e.writer p e.seq (λ same. let lt = all.0 same in omega (arith, lt, le))) (older_gone w q p k es all.1 le)
  where
    none : (x y : Bool) → x ≡ false → y ≡ false → (x || y) ≡ false
    none true y a b = absurd (cc a)
    none false y a b = b

    one : (a b p q : ℕ) → (b ≡ a → q < p) → ((a == b) && (p == q)) ≡ false
    one a b p q lt = grind (arith, nat_tests, lt)

-- opening brings the machine up, and every writer begins anew behind what is listed
module _ (s : World) (h : HoldsDown s) where
  abbrev es : List Entry
  es = h.entries

  abbrev opened : World
  opened = record s { history = h.found; files = kept_files es s.files; down = false }

  -- a writer after opening
  abbrev new : ℕ → Writer
  new w = record { id = w; pairs = []; phase = Filling; seq = greatest_seq w es + 1 }

  new_is : (w : ℕ) → writer_of opened w ≡ new w
  new_is w =
      ap (λ (xs : List Writer). writer_in xs w (fresh s.table w)) h.no_writers
      ∙ ap (λ r. record { id = w; pairs = []; phase = Filling; seq = greatest_seq w (entries_or_none r) + 1 }) (listed_table [] es s.table.reads h.table.reads)

  older_new : (w : ℕ) → AllOlder w (greatest_seq w es + 1) es
  older_new w = greatest_max w (greatest_seq w es) es (omega arith)

  gone : (w q : ℕ) (k : FileKind) → greatest_seq w es + 1 ≤ q → file_of (kept_files es s.files) (record { writer = w; seq = q; kind = k }) ≡ firm_file []
  gone w q k le = kept_gone es s.files (record { writer = w; seq = q; kind = k }) (older_gone w (greatest_seq w es + 1) q k es (older_new w) le)

  opened_holds : HoldsUp opened
  opened_holds = record {
    entries = es;
    fit = h.table.reads.fit;
    few = h.table.reads.few;
    stands = kept_stand es es s.files h.found (each_listed es) h.stands;
    table = subst (λ (o : Option ℕ). TableHolds opened es o) (sym h.no_owner) (subst (λ (d : Option Entry). FreeOrInDoubt s.table es d) (sym h.no_doubt) h.table);
    doubted = subst (λ (d : Option Entry). DoubtHolds opened d) (sym h.no_doubt) tt;
    writers = λ w. subst (λ (x : Writer). WriterHolds (kept_files es s.files) x) (sym (new_is w)) (record {
      pairs = record { keys = tt; small = omega arith; index_small = omega arith; few = omega arith; known = λ full. absurd (cc full); seq = omega (arith, greatest_small w s.files es h.found h.stands) };
      phase = (ap (λ (f : File). f.reads) (gone w (greatest_seq w es + 1) Fields (omega arith)), omega (arith, ap (λ (f : File). length f.reads) (gone w (greatest_seq w es + 1) Index (omega arith))));
    });
    older = λ w. subst (λ (x : Writer). AllOlder w (bound x) es) (sym (new_is w)) (older_new w);
    busy = λ w. subst (λ (x : Writer). 4 ≤ code x.phase → s.owner ≡ Some w) (sym (new_is w)) (λ le. absurd (omega (arith, le)));
    unused = λ w q k. subst (λ (x : Writer). x.seq < q → file_of (kept_files es s.files) (record { writer = w; seq = q; kind = k }) ≡ firm_file []) (sym (new_is w)) (λ lt. gone w q k (omega (arith, lt)));
    sees = λ r. omega (arith, h.sees r, ap length h.begins.1, length-append s.history h.begins.0);
  }

  pub reopened : HoldsUp (effect s Reopen)
  reopened =
      let found = entries_or_none (listed [] s.table.reads) in
      let is : found ≡ es = ap entries_or_none (listed_table [] es s.table.reads h.table.reads) in
      subst (λ (l : List Entry). HoldsUp (record s { history = map (batch_in s.files) l; files = kept_files l s.files; down = false })) (sym is)
      (subst (λ (bs : List (List Pair)). HoldsUp (record s { history = bs; files = kept_files es s.files; down = false })) (sym (batches_of s.files es h.found h.stands)) opened_holds)
