-- Archivers are taken back one by one, and then all is given back.
use Rattle.std.proofs.Common.{◌≡◌, ◌≢◌, ◌<◌, ◌≤◌, ◌+◌, ◌-◌, ◌||◌, ◌⊎◌, inl, inr, ℕ, Bool, true, false, List, [], ◌∷◌, ◌++◌, All, length, map, slice_get, slice_set, get_or, Option, Some, None, sym, refl, ap, ap₂, ◌∙◌, subst, arith, length-append, append_assoc, append-nil, Ok, if◌then◌else◌}
use Rattle.std.specs.Prelude.{IfSome, IsSome}
use Rattle.std.specs.Str.{bytes_eq}
use Rattle.std.proofs.lemmas.List.{length-map}
use Rattle.std.proofs.lemmas.List.Elements.{All-nil, All-cons, All-head, All-tail}
use Rattle.std.proofs.lemmas.Simd.{map-map}
use Rattle.std.proofs.lemmas.Slice.Eq.{bytes_eq-Decides}
use Rattle.fd_disk.specs.declared.folders.FileName.{FileName}
use Rattle.fd_disk.specs.Images.{IsImage}
use Rattle.fd_disk.specs.Folders.{Contents, HasBack, Holdings, TakesBack, WhereTold, folder_at}
use Rattle.fd_entries.specs.declared.batch.Listing.{Listing}
use Rattle.fd_entries.specs.declared.batch.Pair.{Pair}
use Rattle.fd_entries.specs.declared.table.Entry.{Entry}
use Rattle.fd_entries.specs.Table.{listed}
use Rattle.fd_segment.specs.Held.{Files, batch_of}
use Rattle.fd_numbers.specs.Numbers.{Differ, IsIn}
use Rattle.fd_turn.specs.Passes.{BoardId}
use Rattle.fd_dataset.specs.Listed.{entries_of}
use Rattle.fd_archiver.specs.Whole.{Created}
use Rattle.fd_archiver.specs.Writing.{Writing}
use Rattle.fd_recovery.specs.Damages.{field_file, index_file}
use Rattle.fd_recovery.specs.Recovered.{all_of, batches_listed, files_of}
use Rattle.fd_lanes.specs.Jobs.{writers_of}
use Rattle.fd_library.specs.Calls.{Changes, TakesFiles, TakesWriter}
use Rattle.fd_library.specs.Open.{OpenDataset, OpenDatasets, Seated}
use Rattle.fd_library.specs.Stores.{GivenBack, GivesBack, HasSeenAll, IsBack, IsGivenBack, IsSettled, ListsOrDoubted, held_by_pass, held_in, held_of, held_with}
use Rattle.fd_play.specs.Plays.{HoldsOpened, KeepsOnly}
use Rattle.fd_play.specs.Staff.{HandsBack, IsSole, KeepsOlder, TakesAll}
use Rattle.fd_play.proofs.Staffing.{sole_change}
use Rattle.fd_play.proofs.Telling.{prefix_whole}

at_middle : {X : Type 0} (ws done : List X) (w d : X) → get_or ((ws ++ w ∷ []) ++ done) (length ws) d ≡ w
at_middle [] done w d = refl
at_middle (x ∷ ws) done w d = at_middle ws done w d

pub all_middle : {X : Type 0} (P : X → Type 0) (xs left ws done : List X) (w : X) → left ≡ ws ++ w ∷ [] → xs ≡ left ++ done → All P xs → P w
all_middle {X = X} P xs left ws done w popped is a =
    let both : xs ≡ (ws ++ w ∷ []) ++ done = is ∙ ap (λ (ys : List X). ys ++ done) popped in
    let long : length ws < length xs = omega (arith, ap length both, length-append (ws ++ w ∷ []) done, length-append ws (w ∷ [])) in
    subst P (ap (λ (ys : List X). get_or ys (length ws) w) both ∙ at_middle ws done w w) (a (length ws) w long)

pub no_elements : {X : Type 0} (xs : List X) → length xs ≡ 0 → xs ≡ []
no_elements [] is = refl
no_elements (x ∷ xs) is = absurd (omega (arith, is))

module _ {D H : Type 0} (has : D → Option Contents) (kept : H → Option (FileName → Option (List ℕ))) where
  -- the last of the archivers were taken back
  pub record Halfway (b : BoardId) (h : OpenDataset D) (l : OpenDatasets D) (every left : List (Writing H)) : Type 0 where
    pub done : List (Writing H)
    pub every_is : every ≡ left ++ done
    pub now : OpenDataset D
    pub sole : IsSole l b now
    pub name : now.name ≡ h.name
    pub pass : now.pass ≡ h.pass
    pub lent : now.lent ≡ length left
    pub files : TakesAll kept done (has h.folder) (has now.folder)

  pub halfway_none : (b : BoardId) (h : OpenDataset D) (l : OpenDatasets D) (every : List (Writing H)) → IsSole l b h → h.lent ≡ length every → Halfway b h l every every
  halfway_none b h l every s lent = record { done = []; every_is = sym (append-nil every); now = h; sole = s; name = refl; pass = refl; lent = lent; files = refl }

  pub halfway_more : (faults : D → ℕ) (b : BoardId) (h : OpenDataset D) (l m : OpenDatasets D) (every left ws : List (Writing H)) (w : Writing H) → left ≡ ws ++ w ∷ [] → Halfway b h l every left → Changes 0 l m (TakesWriter has faults kept w) → Halfway b h m every ws
  halfway_more faults b h l m every left ws w popped hw ch =
      let n = sole_change l m b hw.now (TakesWriter has faults kept w) hw.sole ch in
      let lent : ch.after.lent ≡ hw.now.lent - 1 = ap (λ (d : OpenDataset D). d.lent) n.1.rest in
      let long : length left ≡ length ws + 1 = ap length popped ∙ length-append ws (w ∷ []) in
      let l0 = hw.lent in
      record {
        done = w ∷ hw.done;
        every_is = hw.every_is ∙ (ap (λ (ys : List (Writing H)). ys ++ hw.done) popped ∙ append_assoc ws (w ∷ []) hw.done);
        now = ch.after;
        sole = n.0;
        name = ap (λ (d : OpenDataset D). d.name) n.1.rest ∙ hw.name;
        pass = ap (λ (d : OpenDataset D). d.pass) n.1.rest ∙ hw.pass;
        lent = omega arith;
        files = (has hw.now.folder, hw.files, n.1.files);
      }

  handed : (b : BoardId) (h now : OpenDataset D) (ws : List (Writing H)) (l : OpenDatasets D) (before after : Option Holdings) → IsSole l b now → now.name ≡ h.name → now.pass ≡ h.pass → TakesAll kept ws (has h.folder) (has now.folder)
      → WhereTold before after (GivesBack has l.each) → (All IsSettled l.each → WhereTold before after (λ s t. (n : List ℕ) → held_of t n ≡ held_with has l.each s n)) → WhereTold before after (HandsBack has kept h ws)
  handed b h now ws l None None s name pass files given held = tt
  handed b h now ws l None (Some t) s name pass files given held = absurd given
  handed b h now ws l (Some x) None s name pass files given held = absurd given
  handed b h now ws l (Some x) (Some t) s name pass files given held = record {
    after = now;
    name = name;
    pass = pass;
    files = files;
    given = subst (λ (hs : List (OpenDataset D)). GivesBack has hs x t) s.each given;
    held = λ settled. subst (λ (hs : List (OpenDataset D)). (n : List ℕ) → held_of t n ≡ held_with has hs x n) s.each (held (subst (λ (hs : List (OpenDataset D)). All IsSettled hs) (sym s.each) (All-cons IsSettled now [] settled (All-nil IsSettled))));
  }

  pub handed_back : (b : BoardId) (h : OpenDataset D) (l : OpenDatasets D) (every left : List (Writing H)) (before after : Option Holdings) → Halfway b h l every left → left ≡ []
      → WhereTold before after (GivesBack has l.each) → (All IsSettled l.each → WhereTold before after (λ s t. (n : List ℕ) → held_of t n ≡ held_with has l.each s n)) → WhereTold before after (HandsBack has kept h every)
  handed_back b h l every left before after hw none given held =
      let done : hw.done ≡ every = sym (hw.every_is ∙ ap (λ (ys : List (Writing H)). ys ++ hw.done) none) in
      handed b h hw.now every l before after hw.sole hw.name hw.pass (subst (λ (ys : List (Writing H)). TakesAll kept ys (has h.folder) (has hw.now.folder)) done hw.files) given held

-- ---- what the folder has then

stepped : (mid new : Option Contents) (k : Option (FileName → Option (List ℕ))) (created : FileName → Bool) (u : Contents) → new ≡ Some u → TakesBack mid new k created → (m : Contents) × (f : FileName → Option (List ℕ)) × (mid ≡ Some m) × (k ≡ Some f) × HasBack m u f created
stepped (Some m) (Some x) (Some f) created u is back = let e : x ≡ u = cc is in (m, f, refl, refl, subst (λ (y : Contents). HasBack m y f created) e back)
stepped (Some m) None (Some f) created u is back = absurd back
stepped (Some m) new None created u is back = absurd (cc (back, is))
stepped None new k created u is back = absurd (cc (back, is))

not_created : (writer last : ℕ) (created : FileName → Bool) (n : FileName) → Created writer last created → writer ≢ n.writer → created n ≡ false
not_created writer last created n of_writer other = go (created n) refl
  where
    go : (b : Bool) → created n ≡ b → created n ≡ false
    go true e = absurd (other (sym (of_writer n e).writer_is))
    go false e = e

in_writers : {H : Type 0} (ws : List (Writing H)) (w : Writing H) → IsIn ws w → IsIn (writers_of ws) w.writer
in_writers [] w i = absurd i
in_writers {H = H} (x ∷ ws) w (inl e) = inl (ap (λ (y : Writing H). y.writer) e)
in_writers (x ∷ ws) w (inr i) = inr (in_writers ws w i)

module _ {H : Type 0} (kept : H → Option (FileName → Option (List ℕ))) where
  -- the folder had files then, those of other writers are still there, and those that the shelves keep are there too
  pub record Backs (ws : List (Writing H)) (old : Option Contents) (u : Contents) : Type 0 where
    pub had : Contents
    pub is : old ≡ Some had
    pub others : (n : FileName) → ((w : Writing H) → IsIn ws w → w.writer ≢ n.writer) → u.files n ≡ had.files n
    pub keeps : Differ (writers_of ws) → (w : Writing H) → IsIn ws w → (f : FileName → Option (List ℕ)) × (kept w.shelf ≡ Some f) × ((n : FileName) (bytes : List ℕ) → w.writer ≡ n.writer → f n ≡ Some bytes → u.files n ≡ Some bytes)

  pub backs : (ws : List (Writing H)) (old new : Option Contents) (u : Contents) → TakesAll kept ws old new → new ≡ Some u → Backs ws old u
  backs [] old new u takes is = record { had = u; is = sym takes ∙ is; others = λ n out. refl; keeps = λ d w i. absurd i }
  backs (w ∷ ws) old new u takes is =
      let t : TakesFiles kept w takes.0 new = takes.2 in
      let s = stepped takes.0 new (kept w.shelf) t.created u is t.back in
      let rest = backs ws old takes.0 s.0 takes.1 s.2 in
      record {
        had = rest.had;
        is = rest.is;
        others = λ n out. s.4.others n (not_created w.writer w.last t.created n t.of_writer (out w (inl refl))) ∙ rest.others n (λ x i. out x (inr i));
        keeps = λ d x i. go t s rest d x i;
      }
    where
      go : (t : TakesFiles kept w takes.0 new) (s : (m : Contents) × (f : FileName → Option (List ℕ)) × (takes.0 ≡ Some m) × (kept w.shelf ≡ Some f) × HasBack m u f t.created) → Backs ws old s.0 → Differ (writers_of (w ∷ ws)) → (x : Writing H) → IsIn (w ∷ ws) x
          → (f : FileName → Option (List ℕ)) × (kept x.shelf ≡ Some f) × ((n : FileName) (bytes : List ℕ) → x.writer ≡ n.writer → f n ≡ Some bytes → u.files n ≡ Some bytes)
      go t s rest d x (inl e) = subst (λ (y : Writing H). (f : FileName → Option (List ℕ)) × (kept y.shelf ≡ Some f) × ((n : FileName) (bytes : List ℕ) → y.writer ≡ n.writer → f n ≡ Some bytes → u.files n ≡ Some bytes)) e (s.1, s.3, λ n bytes its there. s.4.kept_are n bytes there)
      go t s rest d x (inr i) =
          let r = rest.keeps d.1 x i in
          (r.0, r.1, λ n bytes its there. s.4.others n (not_created w.writer w.last t.created n t.of_writer (λ e. d.0 (subst (IsIn (writers_of ws)) (its ∙ sym e) (in_writers ws x i)))) ∙ r.2 n bytes its there)

-- entries of writers up to this one have the files that they had
pub files_stay : (old new : FileName → Option (List ℕ)) (last : ℕ) (ls : List Listing) → ((n : FileName) → n.writer ≤ last → new n ≡ old n) → All (λ (l : Listing). l.entry.writer ≤ last) ls
    → map (files_of new) (entries_of ls) ≡ map (files_of old) (entries_of ls)
files_stay old new last [] same older = refl
files_stay old new last (l ∷ ls) same older =
    let one : l.entry.writer ≤ last = All-head (λ (l : Listing). l.entry.writer ≤ last) l ls older in
    let index : new (index_file l.entry) ≡ old (index_file l.entry) = same (index_file l.entry) one in
    let fields : new (field_file l.entry) ≡ old (field_file l.entry) = same (field_file l.entry) one in
    let files : files_of new l.entry ≡ files_of old l.entry = ap₂ (λ (i f : Option (List ℕ)). record { entry = l.entry; index = i; fields = f }) index fields in
    ap₂ (λ (f : Files) (fs : List Files). f ∷ fs) files (files_stay old new last ls same (All-tail (λ (l : Listing). l.entry.writer ≤ last) l ls older))

-- and so they stand for what they stood for
pub batches_of_files : (old new : FileName → Option (List ℕ)) (es : List Entry) → map (files_of new) es ≡ map (files_of old) es → batches_listed new (Ok es) ≡ batches_listed old (Ok es)
batches_of_files old new es same = ap all_of (sym (map-map batch_of (files_of new) es) ∙ (ap (map batch_of) same ∙ map-map batch_of (files_of old) es))

pub batches_stay : (old new : FileName → Option (List ℕ)) (last : ℕ) (ls : List Listing) → ((n : FileName) → n.writer ≤ last → new n ≡ old n) → All (λ (l : Listing). l.entry.writer ≤ last) ls
    → batches_listed new (Ok (entries_of ls)) ≡ batches_listed old (Ok (entries_of ls))
batches_stay old new last ls same older = batches_of_files old new (entries_of ls) (files_stay old new last ls same older)

pub differ_texts : (n m : List ℕ) → n ≢ m → bytes_eq n m ≡ false
differ_texts n m other = go (bytes_eq n m) refl
  where
    go : (b : Bool) → bytes_eq n m ≡ b → bytes_eq n m ≡ false
    go true e = absurd (other ((bytes_eq-Decides n m).0 e))
    go false e = e

no_doubt : (name : List ℕ) (es : List Entry) (doubts : List Listing) (c : List ℕ) → doubts ≡ [] → ListsOrDoubted name es doubts c → listed name c ≡ Ok es
no_doubt name es doubts c none (inl lists) = lists
no_doubt name es doubts c none (inr d) = absurd (omega (arith, d.1.1, ap length none))

-- A folder came back whose pass has seen all, and nothing is in doubt.
pub back_only : (name : List ℕ) (c u : Contents) (p : Seated) (v : Contents) → IsBack name c p v → HasSeenAll p → map (files_of c.files) (entries_of p.view.history) ≡ map (files_of u.files) (entries_of p.view.history)
    → KeepsOnly name (entries_of p.view.history) u v
back_only name c u p v back settled same =
    let es : List Entry = entries_of p.view.history in
    let long : length es ≡ length p.view.history = length-map p.view.history (λ (l : Listing). l.entry) in
    let all : back.entries ≡ es = prefix_whole es back.entries back.seen (back.count ∙ settled.all ∙ sym long) in
    let lists : (b : List ℕ) → IsImage back.table b → listed name b ≡ Ok es = λ b image. no_doubt name back.entries p.view.doubts b settled.sure (back.images b image) ∙ ap (λ (xs : List Entry). Ok xs) all in
    record {
      keeps = record {
        table = back.table;
        table_is = back.table_is;
        reads = back.reads;
        images = λ b image. ([], lists b image ∙ ap (λ (xs : List Entry). Ok xs) (sym (append-nil es)));
        files = ap (λ (fs : FileName → Option (List ℕ)). map (files_of fs) es) back.files_are ∙ same;
      };
      none = lists;
    }

pub is_told : (name : List ℕ) (o : Option Contents) (p : Option Seated) (v : Contents) → GivenBack name o p v → (c : Contents) × (o ≡ Some c)
is_told name (Some c) p v b = (c, refl)
is_told name None p v b = absurd b

older_told : (last : ℕ) (old new : Option Contents) (v : Contents) → new ≡ Some v → KeepsOlder last old new → (u : Contents) × (old ≡ Some u) × ((n : FileName) → n.writer ≤ last → v.files n ≡ u.files n)
older_told last None None v is k = absurd (cc is)
older_told last None (Some x) v is k = absurd k
older_told last (Some u) None v is k = absurd k
older_told last (Some u) (Some x) v is k = let e : x ≡ v = cc is in (u, refl, subst (λ (y : Contents). (n : FileName) → n.writer ≤ last → y.files n ≡ u.files n) e k)

pub all_in : {X : Type 0} (P : X → Type 0) (xs : List X) (x : X) → All P xs → IsIn xs x → P x
all_in P [] x a i = absurd i
all_in P (y ∷ xs) x a (inl e) = subst P e (All-head P y xs a)
all_in P (y ∷ xs) x a (inr i) = all_in P xs x (All-tail P y xs a) i

seat_same : (o : Option Seated) (p q : Seated) → o ≡ Some p → o ≡ Some q → p ≡ q
seat_same None p q is it = absurd (cc is)
seat_same (Some x) p q is it = let one : x ≡ p = cc is in let two : x ≡ q = cc it in sym one ∙ two

-- Where no lane ran, the dataset holds what it held.
pub handed_idle : {D H : Type 0} (has : D → Option Contents) (kept : H → Option (FileName → Option (List ℕ))) (h now : OpenDataset D) (ws : List (Writing H)) (first : List Listing) (p q : Seated) (s t : Holdings)
    → now.name ≡ h.name → now.pass ≡ Some p → HasSeenAll p → p.view.history ≡ first → h.pass ≡ Some q → q.view.history ≡ first → All (λ (l : Listing). l.entry.writer ≤ h.last) first
    → KeepsOlder h.last (has h.folder) (has now.folder) → All (λ (w : Writing H). h.last < w.writer) ws → HandsBack has kept now ws s t → HoldsOpened has h s t
handed_idle {D = D} {H = H} has kept h now ws first p q s t name pass settled history pass_was history_was writers older later hb =
    let given : GivenBack hb.after.name (has hb.after.folder) hb.after.pass (folder_at t hb.after.name) = All-head (λ (d : OpenDataset D). IsGivenBack has d (folder_at t d.name)) hb.after [] hb.given.given in
    let told = is_told hb.after.name (has hb.after.folder) hb.after.pass (folder_at t hb.after.name) given in
    let ch = backs kept ws (has now.folder) (has hb.after.folder) told.0 hb.files told.1 in
    let o = older_told h.last (has h.folder) (has now.folder) ch.had ch.is older in
    let same : (n : FileName) → n.writer ≤ h.last → told.0.files n ≡ o.0.files n = λ n small. ch.others n (λ w i e. let big = all_in (λ (v : Writing H). h.last < v.writer) ws w later i in omega (arith, big, e, small)) ∙ o.2 n small in
    let after_pass : hb.after.pass ≡ Some p = hb.pass ∙ pass in
    let now_in : held_in has hb.after ≡ batches_listed told.0.files (Ok (entries_of first)) = ap₂ held_by_pass told.1 after_pass ∙ ap (λ (ls : List Listing). batches_listed told.0.files (Ok (entries_of ls))) history in
    let was_in : held_in has h ≡ batches_listed o.0.files (Ok (entries_of first)) = ap₂ held_by_pass o.1 pass_was ∙ ap (λ (ls : List Listing). batches_listed o.0.files (Ok (entries_of ls))) history_was in
    let both : held_in has hb.after ≡ held_in has h = now_in ∙ (batches_stay o.0.files told.0.files h.last first same writers ∙ sym was_in) in
    let back : IsBack hb.after.name told.0 p (folder_at t hb.after.name) =
    subst (λ (x : Option Seated). GivenBack hb.after.name (Some told.0) x (folder_at t hb.after.name)) after_pass (subst (λ (f : Option Contents). GivenBack hb.after.name f hb.after.pass (folder_at t hb.after.name)) told.1 given) in
    let files : map (files_of told.0.files) (entries_of p.view.history) ≡ map (files_of o.0.files) (entries_of p.view.history) =
    files_stay o.0.files told.0.files h.last p.view.history same (subst (λ (ls : List Listing). All (λ (l : Listing). l.entry.writer ≤ h.last) ls) (sym history) writers) in
    let only : KeepsOnly h.name (entries_of p.view.history) o.0 (folder_at t h.name) =
    subst (λ (n : List ℕ). KeepsOnly n (entries_of p.view.history) o.0 (folder_at t n)) (hb.name ∙ name) (back_only hb.after.name told.0 o.0 p (folder_at t hb.after.name) back settled files) in
    record {
      schema = hb.given.schema;
      others = λ n apart. hb.given.others n (ap (λ (m : List ℕ). bytes_eq n m || false) (hb.name ∙ name) ∙ ap (λ (x : Bool). x || false) (differ_texts n h.name apart));
      left = λ r is. (o.0, o.1, subst (λ (ls : List Listing). KeepsOnly h.name (entries_of ls) o.0 (folder_at t h.name)) (history ∙ (sym history_was ∙ ap (λ (x : Seated). x.view.history) (seat_same h.pass q r pass_was is))) only);
      each = λ n. hb.held (subst (λ (x : Option Seated). IfSome x HasSeenAll) (sym after_pass) settled) n ∙ ap₂ (λ (x : List ℕ) (y : Option (List (List Pair))). if bytes_eq n x then y else held_of s n) (hb.name ∙ name) both;
    }
