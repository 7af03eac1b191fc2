-- What workers hand back of one dataset, one after the other.
use Rattle.std.proofs.Common.{◌≡◌, inl, inr, ◌+◌, ◌-◌, ℕ, zero, suc, Bool, false, List, [], ◌∷◌, ◌++◌, length, take, slice_get, slice_set, Option, Some, None, is_some, refl, sym, ap, subst, ◌∙◌, arith, append_assoc, append-nil}
use mathlib.Core.List.{IsPrefix}
use Rattle.fd_disk.specs.declared.folders.FileName.{FileName}
use Rattle.fd_disk.specs.Folders.{Contents, TakesBack, WhereTold}
use Rattle.fd_entries.specs.declared.batch.Listing.{Listing}
use Rattle.fd_entries.specs.declared.batch.Pair.{Pair}
use Rattle.fd_numbers.specs.Numbers.{Differ, IsIn}
use Rattle.fd_turn.specs.declared.board.Pass.{Pass}
use Rattle.fd_turn.specs.Passes.{view}
use Rattle.fd_turn.specs.Views.{View, merger}
use Rattle.fd_segment.specs.Held.{Standing, batch_of}
use Rattle.fd_recovery.specs.Recovered.{files_of}
use Rattle.fd_archiver.specs.Writing.{IsKept, Writing}
use Rattle.fd_library.specs.Calls.{Changes, TakesFiles}
use Rattle.fd_library.specs.Open.{OpenDataset, OpenDatasets}
use Rattle.fd_shares.specs.declared.round.Desk.{Desk}
use Rattle.fd_shares.specs.declared.round.Job.{Job}
use Rattle.fd_bulk.specs.Columns.{AreHome, amounts, numbers}
use Rattle.fd_bulk.specs.Ending.{Hands, HandsAll, column, desk_of, parts_in}
use Rattle.fd_bulk.specs.Tables.{Every, IsHeld}
use Rattle.fd_shares.specs.Working.{AreSealed, Sealing}
use Rattle.fd_bulk.proofs.Lanes.{files_stay, held_each, held_stay, sealed_owned, segment_back}
use Rattle.fd_shares.proofs.Shares.{get_set, set_same}
use Rattle.fd_bulk.proofs.Tellings.{as_told, through}
use Rattle.fd_bulk.proofs.Texts.{true_or_false}

-- ---- changes, one after the other

set_twice : {A : Type 0} (xs : List A) (n : ℕ) (a b : A) → slice_set (slice_set xs n a) n b ≡ slice_set xs n b
set_twice [] n a b = refl
set_twice (x ∷ xs) zero a b = refl
set_twice (x ∷ xs) (suc n) a b = ap (λ ys. x ∷ ys) (set_twice xs n a b)

module _ {D : Type 0} (n : ℕ) where
  pub changes_none : (l : OpenDatasets D) (h : OpenDataset D) (How : OpenDataset D → OpenDataset D → Type 0) → slice_get l.each n ≡ Some h → How h h → Changes n l l How
  changes_none l h How at how = record { before = h; after = h; was = at; is = sym (set_same l.each n h at); boards = refl; how = how }

  pub changed : (l m : OpenDatasets D) (How : OpenDataset D → OpenDataset D → Type 0) (c : Changes n l m How) → slice_get m.each n ≡ Some c.after
  changed l m How c = ap (λ (hs : List (OpenDataset D)). slice_get hs n) c.is ∙ get_set l.each n c.before c.after c.was

  pub changes_on : (l m k : OpenDatasets D) (P Q R : OpenDataset D → OpenDataset D → Type 0) → Changes n l m P → Changes n m k Q → ((h g f : OpenDataset D) → P h g → Q g f → R h f) → Changes n l k R
  changes_on l m k P Q R a b f = record {
    before = a.before;
    after = b.after;
    was = a.was;
    is = b.is ∙ ap (λ (hs : List (OpenDataset D)). slice_set hs n b.after) a.is ∙ set_twice l.each n a.after b.after;
    boards = b.boards ∙ a.boards;
    how = f a.before a.after b.after a.how (subst (λ (g : OpenDataset D). Q g b.after) same b.how);
  }
    where
      same : b.before ≡ a.after
      same = let x = changed l m P a in let y = b.was in cc (x, y)

-- ---- fronts

pub prefix_same : {A : Type 0} (xs : List A) → IsPrefix xs xs
prefix_same xs = ([], append-nil xs)

pub prefix_on : {A : Type 0} (xs ys zs : List A) → IsPrefix xs ys → IsPrefix ys zs → IsPrefix xs zs
prefix_on {A = A} xs ys zs p q = (p.0 ++ q.0, sym (append_assoc xs p.0 q.0) ∙ ap (λ (ws : List A). ws ++ q.0) p.1 ∙ q.1)

-- ---- lists of what workers have

module _ {H X Y : Type 0} where
  abbrev pub somes : List (Option (Desk (Writing H) (Pass X Y))) → List (Desk (Writing H) (Pass X Y))
  somes [] = []
  somes (None ∷ ds) = somes ds
  somes (Some d ∷ ds) = d ∷ somes ds

  abbrev pub doubts_in : List (Option (Desk (Writing H) (Pass X Y))) → List Listing
  doubts_in [] = []
  doubts_in (None ∷ ds) = doubts_in ds
  doubts_in (Some d ∷ ds) = (view d.pass).doubts ++ doubts_in ds

  -- this history has all that their passes have seen
  abbrev pub AllSeen : List (Option (Desk (Writing H) (Pass X Y))) → List Listing → Type 0
  AllSeen [] history = Unit {0}
  AllSeen (None ∷ ds) history = AllSeen ds history
  AllSeen (Some d ∷ ds) history = IsPrefix (view d.pass).history history × AllSeen ds history

  pub seen_on : (ds : List (Option (Desk (Writing H) (Pass X Y)))) (a b : List Listing) → IsPrefix a b → AllSeen ds a → AllSeen ds b
  seen_on [] a b p all = tt
  seen_on (None ∷ ds) a b p all = seen_on ds a b p all
  seen_on (Some d ∷ ds) a b p all = (prefix_on (view d.pass).history a b all.0 p, seen_on ds a b p all.1)

-- ---- of the dataset and the pass

module _ {H X Y : Type 0} where
  -- their passes began with so many entries
  abbrev pub AllOpened : List (Option (Desk (Writing H) (Pass X Y))) → ℕ → Type 0
  AllOpened [] opening = Unit {0}
  AllOpened (None ∷ ds) opening = AllOpened ds opening
  AllOpened (Some d ∷ ds) opening = ((view d.pass).opening ≡ opening) × AllOpened ds opening

module _ {D H X Y : Type 0} where
  pub record Took (ds : List (Option (Desk (Writing H) (Pass X Y)))) (h g : OpenDataset D) (v w : View) : Type 0 where
    pub rest : g ≡ record h { folder = g.folder; lent = g.lent }
    pub lent : g.lent ≡ h.lent - length (somes ds)
    pub seen : IsPrefix v.history w.history
    pub parts : w.parts ≡ v.parts + parts_in ds
    pub amount : w.amount ≡ v.amount + amounts ds
    pub doubts : w.doubts ≡ v.doubts ++ doubts_in ds
    pub opening : w.opening ≡ v.opening
    pub subject : w.subject ≡ v.subject
    pub lock : w.lock ≡ v.lock
    pub each : AllSeen ds w.history

module _ {D H X Y : Type 0} (has : D → Option Contents) (faults : D → ℕ) (kept : H → Option (FileName → Option (List ℕ))) where
  -- one worker more
  pub hands_push : (ds : List (Option (Desk (Writing H) (Pass X Y)))) (x : Option (Desk (Writing H) (Pass X Y))) (h g f : OpenDataset D) (v w u : View) → HandsAll has faults kept ds h g v w → Hands has faults kept x g f w u → HandsAll has faults kept (ds ++ x ∷ []) h f v u
  hands_push [] x h g f v w u all one = (f, (u, (subst (λ (a : View). Hands has faults kept x h f a u) all.1 (subst (λ (k : OpenDataset D). Hands has faults kept x k f w u) all.0 one), (refl, refl))))
  hands_push (d ∷ ds) x h g f v w u all one = (all.0, (all.1.0, (all.1.1.0, hands_push ds x all.0 g f all.1.0 w u all.1.1.1 one)))

  pub took : (ds : List (Option (Desk (Writing H) (Pass X Y)))) (h g : OpenDataset D) (v w : View) → HandsAll has faults kept ds h g v w → Took ds h g v w
  took [] h g v w a = record {
    rest = subst (λ (k : OpenDataset D). k ≡ record h { folder = k.folder; lent = k.lent }) (sym a.0) refl;
    lent = ap (λ (k : OpenDataset D). k.lent) a.0 ∙ (omega arith);
    seen = subst (λ (u : View). IsPrefix v.history u.history) (sym a.1) (prefix_same v.history);
    parts = ap (λ (u : View). u.parts) a.1 ∙ (omega arith);
    amount = ap (λ (u : View). u.amount) a.1 ∙ (omega arith);
    doubts = ap (λ (u : View). u.doubts) a.1 ∙ sym (append-nil v.doubts);
    opening = ap (λ (u : View). u.opening) a.1;
    subject = ap (λ (u : View). u.subject) a.1;
    lock = ap (λ (u : View). u.lock) a.1;
    each = tt;
  }
  took (None ∷ ds) h g v w a =
      let t = took ds h g v w (subst (λ (u : View). HandsAll has faults kept ds h g u w) a.1.1.0.1 (subst (λ (k : OpenDataset D). HandsAll has faults kept ds k g a.1.0 w) a.1.1.0.0 a.1.1.1)) in
      record { rest = t.rest; lent = t.lent; seen = t.seen; parts = t.parts; amount = t.amount; doubts = t.doubts; opening = t.opening; subject = t.subject; lock = t.lock; each = t.each }
  took (Some d ∷ ds) h g v w a =
      let m : OpenDataset D = a.0 in
      let u : View = a.1.0 in
      let one = a.1.1.0 in
      let t = took ds a.0 g a.1.0 w a.1.1.1 in
      let taken : m ≡ record h { folder = m.folder; lent = h.lent - 1 } = one.0.rest in
      let merged : u ≡ merger v (view d.pass) = one.1 in
      record {
        rest = t.rest ∙ ap (λ (k : OpenDataset D). record k { folder = g.folder; lent = g.lent }) taken;
        lent = (let e = t.lent in let f = ap (λ (k : OpenDataset D). k.lent) taken in omega (arith, e, f));
        seen = prefix_on v.history u.history w.history one.2 t.seen;
        parts = (let e = t.parts in let f = ap (λ (k : View). k.parts) merged in omega (arith, e, f));
        amount = (let e = t.amount in let f = ap (λ (k : View). k.amount) merged in omega (arith, e, f));
        doubts = t.doubts ∙ ap (λ (k : View). k.doubts ++ doubts_in ds) merged ∙ append_assoc v.doubts (view d.pass).doubts (doubts_in ds);
        opening = t.opening ∙ ap (λ (k : View). k.opening) merged;
        subject = t.subject ∙ ap (λ (k : View). k.subject) merged;
        lock = t.lock ∙ ap (λ (k : View). k.lock) merged;
        each = (prefix_on (view d.pass).history u.history w.history one.3 t.seen, t.each);
      }

-- ---- of the folder

-- the files of other writers stay
abbrev pub StayBut : List ℕ → (FileName → Option (List ℕ)) → (FileName → Option (List ℕ)) → Type 0
StayBut ns old new = (m : FileName) → (IsIn ns m.writer → ⊥) → new m ≡ old m

abbrev pub StayOthers : ℕ → (FileName → Option (List ℕ)) → (FileName → Option (List ℕ)) → Type 0
StayOthers writer old new = (m : FileName) → (m.writer ≡ writer → ⊥) → new m ≡ old m

module _ {H : Type 0} (kept : H → Option (FileName → Option (List ℕ))) where
  -- the folder holds all that this archiver listed, and the segments of it that the shelf keeps
  pub record Holds (a : Writing H) (files : FileName → Option (List ℕ)) : Type 0 where
    pub listed : (history : List Listing) (rs : List (ℕ × Sealing)) → AreSealed kept a history rs → Every (IsHeld files) rs
    pub waits : (s : Standing) (c : List Pair) → s.files.entry.writer ≡ a.writer → IsKept (kept a.shelf) s → batch_of s.files ≡ Some c → batch_of (files_of files s.files.entry) ≡ Some c

  -- the shelf of one worker
  one_took : (a : Writing H) (old new : Option Contents) → TakesFiles kept a old new → is_some (kept a.shelf) ≡ a.told → a.told ≡ is_some old → WhereTold old new (λ u x. StayOthers a.writer u.files x.files × Holds a x.files)
  one_took a old new t tells told = go old new (kept a.shelf) refl told t.back
    where
      not_created : (m : FileName) → (m.writer ≡ a.writer → ⊥) → t.created m ≡ false
      not_created m other = elim (true_or_false (t.created m)) as (λ _. t.created m ≡ false) [ inl is ↦ absurd (other (t.of_writer m is).writer_is) | inr is ↦ is ]

      go : (o n : Option Contents) (k : Option (FileName → Option (List ℕ))) → kept a.shelf ≡ k → a.told ≡ is_some o → TakesBack o n k t.created → WhereTold o n (λ u x. StayOthers a.writer u.files x.files × Holds a x.files)
      go None None k is told back = tt
      go None (Some x) k is told back = absurd (cc back)
      go (Some u) n None is told back = absurd (let e = ap is_some is in cc (e, tells, told))
      go (Some u) None (Some kf) is told back = absurd back
      go (Some u) (Some x) (Some kf) is told back = (
        (λ m other. back.others m (not_created m other)),
        record {
          listed = λ history rs sealed. held_each kept a x.files kf told is back.kept_are history rs sealed;
          waits = λ s c owner there e. segment_back kept x.files kf s c back.kept_are (subst (λ (o : Option (FileName → Option (List ℕ))). IsKept o s) is there) e;
        },
      )

  hold_on : (ns : List ℕ) (a : Writing H) (old new : FileName → Option (List ℕ)) → (IsIn ns a.writer → ⊥) → StayBut ns old new → Holds a old → Holds a new
  hold_on ns a old new not stay holds = record {
    listed = λ history rs sealed. held_stay old new a.writer rs (λ m is. stay m (λ i. not (subst (IsIn ns) is i))) (sealed_owned kept a history rs sealed) (holds.listed history rs sealed);
    waits = λ s c owner there e. ap batch_of (files_stay old new s.files.entry (λ m is. stay m (λ i. not (subst (IsIn ns) (is ∙ owner) i)))) ∙ holds.waits s c owner there e;
  }

module _ {H X Y : Type 0} (kept : H → Option (FileName → Option (List ℕ))) where
  -- the shelves tell what they keep where the folder tells
  abbrev pub AllTell : List (Option (Desk (Writing H) (Pass X Y))) → Bool → Type 0
  AllTell [] told = Unit {0}
  AllTell (None ∷ ds) told = AllTell ds told
  AllTell (Some d ∷ ds) told = ((is_some (kept d.archiver.shelf) ≡ d.archiver.told) × (d.archiver.told ≡ told)) × AllTell ds told

  abbrev pub AllHold : List (Option (Desk (Writing H) (Pass X Y))) → (FileName → Option (List ℕ)) → Type 0
  AllHold [] files = Unit {0}
  AllHold (None ∷ ds) files = AllHold ds files
  AllHold (Some d ∷ ds) files = Holds kept d.archiver files × AllHold ds files

  abbrev pub FilesTook : List (Option (Desk (Writing H) (Pass X Y))) → Option Contents → Option Contents → Type 0
  FilesTook ds old new = WhereTold old new (λ u x. StayBut (numbers ds) u.files x.files × AllHold ds x.files)

  -- all that the workers listed is in the history and in the folder
  pub all_home : (ds : List (Option (Desk (Writing H) (Pass X Y)))) (opening : ℕ) (history : List Listing) (files : FileName → Option (List ℕ)) → AllSeen ds history → AllOpened ds opening → AllHold ds files → AreHome kept opening history files ds
  all_home [] opening history files seen opened hold = tt
  all_home (None ∷ ds) opening history files seen opened hold = all_home ds opening history files seen opened hold
  all_home (Some d ∷ ds) opening history files seen opened hold = (record { seen = seen.0; opening_is = opened.0; held = hold.0.listed }, all_home ds opening history files seen.1 opened.1 hold.1)

files_none : (H X Y : Type 0) (kept : H → Option (FileName → Option (List ℕ))) (o : Option Contents) → FilesTook {H = H} {X = X} {Y = Y} kept [] o o
files_none H X Y kept None = tt
files_none H X Y kept (Some u) = ((λ m not. refl), tt)

module _ {D H X Y : Type 0} (kept : H → Option (FileName → Option (List ℕ))) (has : D → Option Contents) (faults : D → ℕ) where
  pub took_files : (ds : List (Option (Desk (Writing H) (Pass X Y)))) (h g : OpenDataset D) (v w : View) → HandsAll has faults kept ds h g v w → AllTell kept ds (is_some (has h.folder)) → Differ (numbers ds) → FilesTook kept ds (has h.folder) (has g.folder)
  took_files [] h g v w a tell differ = subst (λ (k : OpenDataset D). FilesTook {X = X} {Y = Y} kept [] (has h.folder) (has k.folder)) (sym a.0) (files_none H X Y kept (has h.folder))
  took_files (None ∷ ds) h g v w a tell differ =
      took_files ds h g v w (subst (λ (u : View). HandsAll has faults kept ds h g u w) a.1.1.0.1 (subst (λ (k : OpenDataset D). HandsAll has faults kept ds k g a.1.0 w) a.1.1.0.0 a.1.1.1)) tell differ
  took_files (Some d ∷ ds) h g v w a tell differ =
      let m : OpenDataset D = a.0 in
      let one = one_took kept d.archiver (has h.folder) (has a.0.folder) a.1.1.0.0.files tell.0.0 tell.0.1 in
      let same : is_some (has a.0.folder) ≡ is_some (has h.folder) = as_told (has h.folder) (has a.0.folder) _ one in
      let rest = took_files ds a.0 g a.1.0 w a.1.1.1 (subst (AllTell kept ds) (sym same) tell.1) differ.1 in
      through (has h.folder) (has a.0.folder) (has g.folder) _ _ _ one rest (λ u x y p q. (
        (λ f not. q.0 f (λ i. not (inr i)) ∙ p.0 f (λ e. not (inl (sym e)))),
        (hold_on kept (numbers ds) d.archiver x.files y.files differ.0 q.0 p.1, q.1),
      ))

-- ---- of the workers

pub take_next : {A : Type 0} (xs : List A) (i : ℕ) (x : A) → slice_get xs i ≡ Some x → take (i + 1) xs ≡ take i xs ++ x ∷ []
take_next {A = A} xs i x at = let up : i + 1 ≡ suc i = omega arith in ap (λ (n : ℕ). take n xs) up ∙ go xs i at
  where
    go : (ys : List A) (j : ℕ) → slice_get ys j ≡ Some x → take (suc j) ys ≡ take j ys ++ x ∷ []
    go [] j at = absurd (cc at)
    go (y ∷ ys) zero at = let same : y ≡ x = cc at in ap (λ z. z ∷ []) same
    go (y ∷ ys) (suc j) at = ap (λ zs. y ∷ zs) (go ys j at)

module _ {H X Y E : Type 0} where
  pub column_push : (n : ℕ) (js : List (Job (Writing H) (Pass X Y) E)) (j : Job (Writing H) (Pass X Y) E) → column n (js ++ j ∷ []) ≡ column n js ++ desk_of n j ∷ []
  column_push n [] j = refl
  column_push n (k ∷ js) j = ap (λ (ds : List (Option (Desk (Writing H) (Pass X Y)))). desk_of n k ∷ ds) (column_push n js j)

  pub column_next : (n : ℕ) (js : List (Job (Writing H) (Pass X Y) E)) (i : ℕ) (j : Job (Writing H) (Pass X Y) E) → slice_get js i ≡ Some j → column n (take (i + 1) js) ≡ column n (take i js) ++ desk_of n j ∷ []
  column_next n js i j at = ap (column n) (take_next js i j at) ∙ column_push n (take i js) j

  pub column_long : (n : ℕ) (js : List (Job (Writing H) (Pass X Y) E)) → length (column n js) ≡ length js
  column_long n [] = refl
  column_long n (j ∷ js) = ap suc (column_long n js)
