-- What holds over every run.
use Rattle.std.proofs.Common.{◌^◌, ◌≡◌, ◌≤◌, ◌⊎◌, inl, inr, ◌==◌, if◌then◌else◌, unwrap_or, ℕ, ◌^◌, ◌<◌, ◌&&◌, not, Bool, true, false, List, [], ◌∷◌, ◌++◌, length, refl, sym, ◌∙◌, ap, subst, arith, Option, Some, None, cond}
use Rattle.std.proofs.lemmas.Bool.Decides.{nat_tests}
use Rattle.std.proofs.lemmas.List.{append-nil}
use Rattle.fd_entries.specs.declared.batch.Pair.{Pair}
use Rattle.fd_machine.specs.declared.machine.Seen.{Seen}
use Rattle.fd_machine.specs.World.{World}
use Rattle.fd_machine.specs.declared.machine.Step.{Step}
use Rattle.fd_machine.specs.declared.machine.Step.TheVariants.{Put, SyncData, WriteIndex, SyncIndex, Take, Body, SyncBody, Gate, SyncGate, Post, Release, Look, Fetch, CloseGate, SyncClose, Fail, Crash, Reopen}
use Rattle.fd_machine.specs.Machine.{answer, can, possible, effect, may_leave, after, writer_of, run, start, seen_by, put_seen}
use Rattle.fd_entries.specs.Numbers.{greatest_seq, entries_or_none}
use Rattle.fd_machine.specs.Took.{answered}
use Rattle.fd_machine.specs.declared.machine.Took.TheVariants.{No}
use Rattle.fd_entries.specs.declared.table.Entry.{Entry}
use Rattle.fd_entries.specs.Table.{header, listed, IsTable}
use Rattle.fd_entries.proofs.Slots.{listed_table}
use Rattle.fd_machine.proofs.Holds.{TableHolds, DoubtHolds, HoldsUp, HoldsDown, HoldsIf, Holds}
use Rattle.fd_machine.proofs.Fetching.{holds_fetches}
use Rattle.fd_machine.proofs.Steps.{keeps_put, keeps_sync_data, keeps_write_index, keeps_sync_index, keeps_take, keeps_body, keeps_sync_body, keeps_gate, keeps_sync_gate, keeps_post, keeps_release, keeps_close_gate, keeps_sync_close}
use Rattle.fd_machine.proofs.Failing.{keeps_fail, failed_down, failed_history}
use Rattle.fd_machine.proofs.Crashing.{crash_left, crashed, opened_history, reopened}
use Rattle.fd_entries.proofs.BatchSums.{both}
use Rattle.fd_machine.proofs.Images.{and_true, left_images, images_left}
use Rattle.fd_machine.specs.Laws.{IsPrefix, may_list, FetchesNewest, OnlyGrows, SeesOnlyListed, PostsItsPairs, OnlyPostLists, IsReopened, SurvivesCrash, LeavesImages, OnlyReopens, OverEveryRun}

-- a step was possible and did what it does, or it changed nothing
abbrev pub Took : World → Step → World → Type 0
Took s step t = ((possible s step ≡ true) × (t ≡ effect s step)) ⊎ (t ≡ s)

took : (s : World) (step : Step) → Took s step (after s step)
took s step = go (possible s step) refl
  where
    go : (b : Bool) → possible s step ≡ b → Took s step (after s step)
    go true is = inl (is, ap (λ (b : Bool). cond b (effect s step) s) is)
    go false is = inr (ap (λ (b : Bool). cond b (effect s step) s) is)

effect_history : (s : World) (step : Step) → may_list step ≡ false → (effect s step).history ≡ s.history
effect_history s (Put w key bytes) other = refl
effect_history s (SyncData w) other = refl
effect_history s (WriteIndex w) other = refl
effect_history s (SyncIndex w) other = refl
effect_history s (Take w) other = refl
effect_history s (Body w) other = refl
effect_history s (SyncBody w) other = refl
effect_history s (Gate w) other = refl
effect_history s (SyncGate w) other = refl
effect_history s (Post w) other = absurd (cc other)
effect_history s (Release w) other = refl
effect_history s (Look r) other = refl
effect_history s (Fetch r key) other = refl
effect_history s (CloseGate w) other = refl
effect_history s (SyncClose w) other = refl
effect_history s (Fail w) other = failed_history s (writer_of s w) (writer_of s w).phase
effect_history s (Crash left) other = refl
effect_history s Reopen other = absurd (cc other)

pub only_post : (s : World) → OnlyPostLists s
only_post s step other = elim (took s step) [
  | inl did ↦ ap (λ (t : World). t.history) did.1 ∙ effect_history s step other
  | inr none ↦ ap (λ (t : World). t.history) none
]

pub post : (s : World) → PostsItsPairs s
post s w is = ap (λ (b : Bool). (cond b (effect s (Post w)) s).history) is

-- what holds at the start and is kept by each step holds after every run
pub every : (P : World → Type 0) → ((s : World) (step : Step) → P s → P (after s step)) → (steps : List Step) (s : World) → P s → P (run steps s)
every P keeps [] s h = h
every P keeps (step ∷ steps) s h = every P keeps steps (after s step) (keeps s step h)

-- what a possible step keeps is kept by each
pub kept_by_effects : (P : World → Type 0) → ((s : World) (step : Step) → possible s step ≡ true → P s → P (effect s step)) → (s : World) (step : Step) → P s → P (after s step)
kept_by_effects P keeps s step h = elim (took s step) [
  | inl did ↦ subst P (sym did.1) (keeps s step did.0 h)
  | inr none ↦ subst P (sym none) h
]

seen_same : (a r n l q : ℕ) (older new : Option ℕ) → new ≡ (if r == q then Some n else older)
    → (if a == r then (if r == q then Some n else older) else (if a == q then Some l else new)) ≡ (if r == q then Some n else (if a == q then Some l else older))
seen_same a r n l q older new is = grind (arith, nat_tests, is)

put_seen_of : (xs : List Seen) (r n q : ℕ) → seen_by (put_seen xs r n) q ≡ (if r == q then Some n else seen_by xs q)
put_seen_of [] r n q = refl
put_seen_of (x ∷ xs) r n q =
    seen_if (x.reader == r) ∙ seen_same x.reader r n x.length q (seen_by xs q) (seen_by (put_seen xs r n) q) (put_seen_of xs r n q)
  where
    seen_if : (b : Bool) → seen_by (if b then record { reader = r; length = n } ∷ xs else x ∷ put_seen xs r n) q
        ≡ (if b then (if r == q then Some n else seen_by xs q) else (if x.reader == q then Some x.length else seen_by (put_seen xs r n) q))
    seen_if true = refl
    seen_if false = refl

within : (r n q m : ℕ) (o : Option ℕ) → n ≤ m → unwrap_or o 0 ≤ m → unwrap_or (if r == q then Some n else o) 0 ≤ m
within r n q m o le was = go (r == q)
  where
    go : (b : Bool) → unwrap_or (if b then Some n else o) 0 ≤ m
    go true = le
    go false = was

-- while the machine is down only opening is possible
up_only : (s : World) (b : Bool) → (not s.down && b) ≡ true → (s.down ≡ false) × (b ≡ true)
up_only s b is = let t = both (not s.down) b is in (go s.down t.0, t.1)
  where
    go : (d : Bool) → not d ≡ true → d ≡ false
    go true is = absurd (cc is)
    go false is = refl

up_holds : (s : World) → s.down ≡ false → Holds s → HoldsUp s
up_holds s up h = subst (λ (d : Bool). HoldsIf d s) up h

holds_up : (s : World) → s.down ≡ false → HoldsUp s → Holds s
holds_up s up h = subst (λ (d : Bool). HoldsIf d s) (sym up) h

-- a step of a machine that is up, and stays up
stays_up : (s t : World) (b : Bool) → (not s.down && b) ≡ true → t.down ≡ s.down → (b ≡ true → HoldsUp s → HoldsUp t) → Holds s → Holds t
stays_up s t b is same keeps h = let u = up_only s b is in holds_up t (same ∙ u.0) (keeps u.1 (up_holds s u.0 h))

looks : (s : World) (r : ℕ) → HoldsUp s → HoldsUp (effect s (Look r))
looks s r h = record {
  entries = h.entries;
  fit = h.fit;
  few = h.few;
  stands = h.stands;
  table = looked s.owner h.table;
  doubted = doubt s.doubt h.doubted;
  writers = h.writers;
  older = h.older;
  busy = h.busy;
  unused = h.unused;
  sees = λ q. subst (λ (o : Option ℕ). unwrap_or o 0 ≤ length s.history) (sym (put_seen_of s.readers r (length s.history) q)) (within r (length s.history) q (length s.history) (seen_by s.readers q) (omega arith) (h.sees q));
}
  where
    looked : (o : Option ℕ) → TableHolds s h.entries o → TableHolds (effect s (Look r)) h.entries o
    looked None t = t
    looked (Some v) t = t

    doubt : (d : Option Entry) → DoubtHolds s d → DoubtHolds (effect s (Look r)) d
    doubt None t = tt
    doubt (Some e) t = t

-- Each possible step keeps what holds.
keeps_each : (s : World) (step : Step) → possible s step ≡ true → Holds s → Holds (effect s step)
keeps_each s (Put w key bytes) is h = stays_up s (effect s (Put w key bytes)) (can s (Put w key bytes)) is refl (keeps_put s w key bytes) h
keeps_each s (SyncData w) is h = stays_up s (effect s (SyncData w)) (can s (SyncData w)) is refl (keeps_sync_data s w) h
keeps_each s (WriteIndex w) is h = stays_up s (effect s (WriteIndex w)) (can s (WriteIndex w)) is refl (keeps_write_index s w) h
keeps_each s (SyncIndex w) is h = stays_up s (effect s (SyncIndex w)) (can s (SyncIndex w)) is refl (keeps_sync_index s w) h
keeps_each s (Take w) is h = stays_up s (effect s (Take w)) (can s (Take w)) is refl (keeps_take s w) h
keeps_each s (Body w) is h = stays_up s (effect s (Body w)) (can s (Body w)) is refl (keeps_body s w) h
keeps_each s (SyncBody w) is h = stays_up s (effect s (SyncBody w)) (can s (SyncBody w)) is refl (keeps_sync_body s w) h
keeps_each s (Gate w) is h = stays_up s (effect s (Gate w)) (can s (Gate w)) is refl (keeps_gate s w) h
keeps_each s (SyncGate w) is h = stays_up s (effect s (SyncGate w)) (can s (SyncGate w)) is refl (keeps_sync_gate s w) h
keeps_each s (Post w) is h = stays_up s (effect s (Post w)) (can s (Post w)) is refl (keeps_post s w) h
keeps_each s (Release w) is h = stays_up s (effect s (Release w)) (can s (Release w)) is refl (keeps_release s w) h
keeps_each s (Look r) is h = stays_up s (effect s (Look r)) (can s (Look r)) is refl (λ may. looks s r) h
keeps_each s (Fetch r key) is h = h
keeps_each s (CloseGate w) is h = stays_up s (effect s (CloseGate w)) (can s (CloseGate w)) is refl (keeps_close_gate s w) h
keeps_each s (SyncClose w) is h = stays_up s (effect s (SyncClose w)) (can s (SyncClose w)) is refl (keeps_sync_close s w) h
keeps_each s (Fail w) is h = stays_up s (effect s (Fail w)) (can s (Fail w)) is (failed_down s (writer_of s w) (writer_of s w).phase) (keeps_fail s w) h
keeps_each s (Crash left) is h = let u = up_only s (may_leave s left) is in let up = up_holds s u.0 h in crashed s up left (crash_left s up left u.1)
keeps_each s Reopen is h = reopened s (subst (λ (d : Bool). HoldsIf d s) is h)

founded : IsTable [] [] (header [] ++ 0 ∷ [])
founded = record { gate = 0; tail = []; shut = omega arith; is = refl; short = omega arith; fit = tt; few = omega arith }

first_seq : (w : ℕ) → (writer_of start w).seq < 2 ^ 32
first_seq w = let none : greatest_seq w (entries_or_none (listed [] start.table.reads)) ≡ 0 = ap (λ r. greatest_seq w (entries_or_none r)) (listed_table [] [] start.table.reads founded) in omega (arith, none)

holds_at_start : Holds start
holds_at_start = record {
  entries = [];
  fit = tt;
  few = omega arith;
  stands = tt;
  table = record { firm = founded; reads = founded; loose = tt };
  doubted = tt;
  writers = λ w. record { pairs = record { keys = tt; small = omega arith; index_small = omega arith; few = omega arith; known = λ full. absurd (cc full); seq = first_seq w }; phase = (refl, omega arith) };
  older = λ w. tt;
  busy = λ w le. absurd (omega (arith, le));
  unused = λ w q kind lt. refl;
  sees = λ r. omega arith;
}

pub holds : OverEveryRun Holds
holds steps = every Holds (kept_by_effects Holds keeps_each) steps start holds_at_start

seen_by_all : (s : World) (d : Bool) → HoldsIf d s → SeesOnlyListed s
seen_by_all s false h = h.sees
seen_by_all s true h = h.sees

pub sees : OverEveryRun SeesOnlyListed
sees steps = seen_by_all (run steps start) (run steps start).down (holds steps)

pub fetches : OverEveryRun FetchesNewest
fetches steps r key is =
    let s = run steps start in
    let u = up_only s (can s (Fetch r key)) is in
    ap (λ (b : Bool). if b then answered (answer s r key) else No) is ∙ ap answered (holds_fetches s (up_holds s u.0 (holds steps)) r key)

prefix_same : (s : World) (bs : List (List Pair)) → bs ≡ s.history → IsPrefix s.history bs
prefix_same s bs is = ([], append-nil s.history ∙ sym is)

grows_by : (s : World) (step : Step) (b : Bool) → may_list step ≡ b → possible s step ≡ true → Holds s → IsPrefix s.history (effect s step).history
grows_by s step false is may h = prefix_same s (effect s step).history (effect_history s step is)
grows_by s (Post w) true is may h = ((writer_of s w).pairs ∷ [], refl)
grows_by s Reopen true is may h = let d : HoldsDown s = subst (λ (d : Bool). HoldsIf d s) may h in subst (λ (bs : List (List Pair)). IsPrefix s.history bs) (sym (opened_history s d)) d.begins
grows_by s (Put w key bytes) true is may h = absurd (cc is)
grows_by s (SyncData w) true is may h = absurd (cc is)
grows_by s (WriteIndex w) true is may h = absurd (cc is)
grows_by s (SyncIndex w) true is may h = absurd (cc is)
grows_by s (Take w) true is may h = absurd (cc is)
grows_by s (Body w) true is may h = absurd (cc is)
grows_by s (SyncBody w) true is may h = absurd (cc is)
grows_by s (Gate w) true is may h = absurd (cc is)
grows_by s (SyncGate w) true is may h = absurd (cc is)
grows_by s (Release w) true is may h = absurd (cc is)
grows_by s (Look r) true is may h = absurd (cc is)
grows_by s (Fetch r key) true is may h = absurd (cc is)
grows_by s (CloseGate w) true is may h = absurd (cc is)
grows_by s (SyncClose w) true is may h = absurd (cc is)
grows_by s (Fail w) true is may h = absurd (cc is)
grows_by s (Crash left) true is may h = absurd (cc is)

grows_each : (s : World) → Holds s → OnlyGrows s
grows_each s h step = elim (took s step) [
  | inl did ↦ subst (λ (t : World). IsPrefix s.history t.history) (sym did.1) (grows_by s step (may_list step) refl did.0 h)
  | inr none ↦ prefix_same s (after s step).history (ap (λ (t : World). t.history) none)
]

pub grows : OverEveryRun OnlyGrows
grows steps = grows_each (run steps start) (holds steps)

-- after a crash the machine is down, and opening is possible
survives_each : (s : World) → Holds s → SurvivesCrash s
survives_each s h left is =
    let u = up_only s (may_leave s left) is in
    let up = up_holds s u.0 h in
    let l = crash_left s up left u.1 in
    let t = effect s (Crash left) in
    let same : after s (Crash left) ≡ t = ap (λ (b : Bool). cond b (effect s (Crash left)) s) is in
    subst (λ (v : World). IsReopened s (after v Reopen).history) (sym same)
    (subst (λ (bs : List (List Pair)). IsReopened s bs) (sym (opened_history t (crashed s up left l))) l.is)

leaves_images : (s : World) → LeavesImages s
leaves_images s left = (
  (λ is. let u = up_only s (may_leave s left) is in (u.0, left_images s left u.1)),
  (λ t. and_true (not s.down) (may_leave s left) (ap not t.0) (images_left s left t.1)),
)

pub images : OverEveryRun LeavesImages
images steps = leaves_images (run steps start)

pub survives : OverEveryRun SurvivesCrash
survives steps = survives_each (run steps start) (holds steps)

-- while the machine is down
still_down : (d c : Bool) → d ≡ true → (not d && c) ≡ true → ⊥
still_down d c down is = cc (ap (λ (b : Bool). not b && c) (sym down) ∙ is)

pub only_reopens : (s : World) → OnlyReopens s
only_reopens s (Put w key bytes) down is = absurd (still_down s.down (can s (Put w key bytes)) down is)
only_reopens s (SyncData w) down is = absurd (still_down s.down (can s (SyncData w)) down is)
only_reopens s (WriteIndex w) down is = absurd (still_down s.down (can s (WriteIndex w)) down is)
only_reopens s (SyncIndex w) down is = absurd (still_down s.down (can s (SyncIndex w)) down is)
only_reopens s (Take w) down is = absurd (still_down s.down (can s (Take w)) down is)
only_reopens s (Body w) down is = absurd (still_down s.down (can s (Body w)) down is)
only_reopens s (SyncBody w) down is = absurd (still_down s.down (can s (SyncBody w)) down is)
only_reopens s (Gate w) down is = absurd (still_down s.down (can s (Gate w)) down is)
only_reopens s (SyncGate w) down is = absurd (still_down s.down (can s (SyncGate w)) down is)
only_reopens s (Post w) down is = absurd (still_down s.down (can s (Post w)) down is)
only_reopens s (Release w) down is = absurd (still_down s.down (can s (Release w)) down is)
only_reopens s (Look r) down is = absurd (still_down s.down (can s (Look r)) down is)
only_reopens s (Fetch r key) down is = absurd (still_down s.down (can s (Fetch r key)) down is)
only_reopens s (CloseGate w) down is = absurd (still_down s.down (can s (CloseGate w)) down is)
only_reopens s (SyncClose w) down is = absurd (still_down s.down (can s (SyncClose w)) down is)
only_reopens s (Fail w) down is = absurd (still_down s.down (can s (Fail w)) down is)
only_reopens s (Crash left) down is = absurd (still_down s.down (can s (Crash left)) down is)
only_reopens s Reopen down is = refl
