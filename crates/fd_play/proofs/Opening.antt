-- The lanes' dataset, from its opening to its going back.
use Rattle.std.proofs.Common.{◌≡◌, ◌≢◌, ◌<◌, ◌≤◌, ◌+◌, inl, inr, ℕ, Bool, true, false, List, [], ◌∷◌, ◌++◌, All, map, length, slice_get, Option, Some, None, is_some, Result, Ok, Err, sym, refl, ap, ap₂, ◌∙◌, subst, arith, length-append, if◌then◌else◌, unwrap_or}
use Rattle.std.specs.Prelude.{IfErr, IfOk, IfSome, IsSome, OnErr}
use Rattle.std.specs.Str.{bytes_eq}
use Rattle.std.proofs.lemmas.List.{length-map}
use Rattle.std.proofs.lemmas.List.Elements.{All-head}
use mathlib.Core.List.{IsPrefix}
use Rattle.fd_disk.specs.declared.file.File.{File}
use Rattle.fd_disk.specs.declared.folders.FileName.{FileName}
use Rattle.fd_disk.specs.Folders.{Contents, Holdings, SameBut, WhereTold, folder_at, no_contents}
use Rattle.fd_entries.specs.declared.batch.Listing.{Listing}
use Rattle.fd_schema.specs.Rules.{Rule, Texts}
use Rattle.fd_turn.specs.declared.board.Pass.{Pass}
use Rattle.fd_turn.specs.declared.view.Lock.TheVariants.{Free}
use Rattle.fd_turn.specs.Views.{View, all_parts, first_view}
use Rattle.fd_turn.specs.Passes.{BoardId, IsOf, IsSame, view}
use Rattle.fd_dataset.specs.Listed.{entries_of}
use Rattle.fd_archiver.specs.Writing.{Writing}
use Rattle.fd_recovery.specs.declared.fault.OpenFault.{OpenFault}
use Rattle.fd_recovery.specs.declared.fault.OpenFault.TheVariants as faults
use Rattle.fd_entries.specs.declared.table.Entry.{Entry}
use Rattle.fd_entries.specs.Table.{listed}
use Rattle.fd_recovery.specs.Causes.{OnDamaged, OnNotATable}
use Rattle.fd_recovery.specs.Damages.{IsFirst, damages}
use Rattle.fd_recovery.specs.Recovered.{IsUndamaged, WithTable, files_of}
use Rattle.fd_library.specs.Answers.{HoldsAs, IsOpened, TooManyAt}
use Rattle.fd_library.specs.Calls.{Changes, Opens}
use Rattle.fd_library.specs.Open.{IsWhole, OpenDataset, OpenDatasets, OutAre, Seated, among, names_of, seat_of}
use Rattle.fd_library.specs.Stores.{GivenBack, GivesBack, HasSeenAll, IsBack, IsGivenBack, IsSettled, KeepsFolder, KeepsTable, LooksInto, held_of, held_with}
use Rattle.fd_script.specs.Scripts.{Scripted}
use Rattle.fd_lanes.specs.declared.end.End.{End}
use Rattle.fd_lanes.specs.Acts.{ArePlaces, all_acts}
use Rattle.fd_lanes.specs.Fits.{Keeps}
use Rattle.fd_numbers.specs.Numbers.{Differ}
use Rattle.fd_lanes.specs.Jobs.{AllKept, AreKeptFrom, MayBegin, Ran, owners_of, writers_of}
use Rattle.fd_play.specs.Plays.{HoldsOpened, HoldsSame, IsPlain, IsUnopened, KeepsOnly, LeavesOpened, LeavesUnplayed, Played, PlayedOpen}
use Rattle.fd_play.specs.Staff.{HandsBack, IsSole, KeepsOlder, Staffs, Tried}
use Rattle.fd_play.proofs.Crewing.{may_begin, lent_many, lent_one, staff_datasets, staff_later}
use Rattle.fd_play.proofs.Handing.{differ_texts, handed_idle, is_told}
use Rattle.fd_play.proofs.Lasting.{files_opened, lists_opened, lists_same, played}
use Rattle.fd_play.proofs.Staffing.{sole_change, where_told}
use Rattle.fd_play.proofs.Telling.{prefix_whole}

-- the same folders are out
pub out_again : {D : Type 0} (l m : OpenDatasets D) (b c : BoardId) (h g : OpenDataset D) (out : List ℕ → Bool) → IsSole l b h → IsSole m c g → g.name ≡ h.name → OutAre l.each out → OutAre m.each out
out_again l m b c h g out s t name are = λ n is. ap (among n) (ap names_of t.each ∙ (ap (λ (x : List ℕ). x ∷ []) name ∙ sym (ap names_of s.each))) ∙ are n is

same_entries : (xs ys : List Listing) → IsPrefix xs ys → length (entries_of ys) ≡ length (entries_of xs) → ys ≡ xs
same_entries xs ys p long = prefix_whole xs ys p (sym (length-map ys (λ (l : Listing). l.entry)) ∙ (long ∙ length-map xs (λ (l : Listing). l.entry)))

module _ {D H X Y : Type 0} (has : D → Option Contents) (name : List ℕ) (b : BoardId) (h : OpenDataset D) (l m : OpenDatasets D) (ws : List (Writing H)) (p : Pass X Y)
    (st : Staffs has b h l ws) (o : IsOpened name b h) (ch : Changes 0 l m (λ (x g : OpenDataset D). (x.pass ≡ Some (seat_of p)) × IsWhole x.name (seat_of p) × (g ≡ record x { pass = None }))) where
  pub out_sole : IsSole m b ch.after
  out_sole = (sole_change l m b st.now (λ (x g : OpenDataset D). (x.pass ≡ Some (seat_of p)) × IsWhole x.name (seat_of p) × (g ≡ record x { pass = None })) st.sole ch).0

  pub out : (st.now.pass ≡ Some (seat_of p)) × IsWhole st.now.name (seat_of p) × (ch.after ≡ record st.now { pass = None })
  out = (sole_change l m b st.now (λ (x g : OpenDataset D). (x.pass ≡ Some (seat_of p)) × IsWhole x.name (seat_of p) × (g ≡ record x { pass = None })) st.sole ch).1

  pub after_name : ch.after.name ≡ st.now.name
  after_name = ap (λ (d : OpenDataset D). d.name) out.2

  -- what the pass knows is what it began with
  pub pass_first : view p ≡ first_view name o.told o.history
  pass_first =
      let both : Some (seat_of p) ≡ Some (record { board = b; view = first_view name o.told o.history }) = sym out.0 ∙ (st.pass ∙ o.pass) in
      let one : seat_of p ≡ record { board = b; view = first_view name o.told o.history } = cc both in
      ap (λ (x : Seated). x.view) one

  -- the lanes may run
  pub ready : ((view p).lock ≡ Free) × ((view p).parts ≡ all_parts) × ((view p).doubts ≡ []) × Differ (writers_of ws) × All (MayBegin (view p).subject (length (view p).history)) ws × ((view p).subject ≡ name)
  ready =
      let subject : (view p).subject ≡ name = ap (λ (v : View). v.subject) pass_first in (
        out.1.free,
        out.1.parts,
        ap (λ (v : View). v.doubts) pass_first,
        st.differ,
        may_begin has h (view p).subject (length (view p).history) ws (o.name_is ∙ sym subject) (o.opening ∙ ap (λ (v : View). length v.history) (sym pass_first)) st.staff,
        subject,
      )

  -- the same folders are out
  pub ready_out : (is_out : List ℕ → Bool) → OutAre l.each is_out → OutAre m.each is_out
  ready_out is_out are = out_again l m b b st.now ch.after is_out st.sole out_sole after_name are

module _ {D H X Y : Type 0} (has : D → Option Contents) (kept : H → Option (FileName → Option (List ℕ))) (name : List ℕ) (b : BoardId) (h : OpenDataset D) (l m : OpenDatasets D) (ws vs : List (Writing H)) (p q : Pass X Y)
    (st : Staffs has b h l ws) (o : IsOpened name b h) (ch : Changes 0 l m (λ (x g : OpenDataset D). (x.pass ≡ Some (seat_of p)) × IsWhole x.name (seat_of p) × (g ≡ record x { pass = None }))) where
  its_sole : IsSole m b ch.after
  its_sole = out_sole has name b h l m ws p st o ch

  its : (st.now.pass ≡ Some (seat_of p)) × IsWhole st.now.name (seat_of p) × (ch.after ≡ record st.now { pass = None })
  its = out has name b h l m ws p st o ch

  its_name : ch.after.name ≡ st.now.name
  its_name = after_name has name b h l m ws p st o ch

  its_first : view p ≡ first_view name o.told o.history
  its_first = pass_first has name b h l m ws p st o ch

  -- the pass and the archivers may go back
  pub end_ready : IsOf b q → Keeps (view p) (view q) → owners_of vs ≡ owners_of ws
      → (c : BoardId) × (d : OpenDataset D) × IsSole m c d × (d.pass ≡ None) × IsWhole d.name (seat_of q) × IsOf c q × (d.lent ≡ length vs) × All (λ (w : Writing H). w.dataset ≡ d.name) vs
  end_ready own keeps owners =
      let whole : IsWhole ch.after.name (seat_of q) = record { free = keeps.free; parts = keeps.parts ∙ its.1.parts; subject = keeps.subject ∙ (its.1.subject ∙ sym its_name) } in
      let lent : ch.after.lent ≡ st.now.lent = ap (λ (d : OpenDataset D). d.lent) its.2 in
      let many = lent_many vs ws owners in let l0 = st.lent in let l1 = o.asked.1 in
      let datasets : All (λ (w : Writing H). w.dataset ≡ ch.after.name) vs = lent_one (λ n t f. t ≡ ch.after.name) vs ws owners (staff_datasets has h ch.after.name ws (sym st.name ∙ sym its_name) st.staff) in
      (b, ch.after, its_sole, ap (λ (d : OpenDataset D). d.pass) its.2, whole, own, omega arith, datasets)

  -- the lanes ran
  pub played_open : {F : Type 0} (rules : List Rule) (messages : List (List ℕ)) (sc : Scripted) (before : ℕ) (ends : List (List (End F))) (places : List Texts) (old new : Option Holdings) → IsOf b p → IsSame p q → owners_of vs ≡ owners_of ws → ArePlaces rules messages sc.lanes places
      → Ran (view p) (view q) before (all_acts rules messages places sc.lanes) ends → AreKeptFrom kept vs before (view q).history → AllKept kept vs (view q).doubts
      → ((c : BoardId) (d : OpenDataset D) → IsSole m c d → WhereTold old new (HandsBack has kept (record d { pass = Some (seat_of q) }) vs)) → PlayedOpen has kept rules messages sc before ends b h old new
  played_open rules messages sc before ends places old new own same owners are ran files doubted back = record {
    last = record ch.after { pass = Some (seat_of q) };
    first = view p;
    pass = view q;
    was = sym st.pass ∙ (its.0 ∙ ap (λ (z : BoardId). Some (record { board = z; view = view p })) own);
    pass_is = ap (λ (z : BoardId). Some (record { board = z; view = view q })) (same ∙ own);
    name = its_name ∙ st.name;
    same = ap (λ (d : OpenDataset D). has d.folder) its.2 ∙ st.same;
    staff = ws;
    begun = st.staff;
    differ = st.differ;
    archivers = vs;
    owners = owners;
    places = places;
    are_places = are;
    ran = ran;
    files = files;
    doubted = doubted;
    back = back b ch.after its_sole;
  }

  -- no lane ran
  pub idle_open : (old new : Option Holdings) → Keeps (view p) (view q) → ((view q).amount ≡ (view p).amount) × ((view q).doubts ≡ (view p).doubts) → vs ≡ ws
      → ((c : BoardId) (d : OpenDataset D) → IsSole m c d → WhereTold old new (HandsBack has kept (record d { pass = Some (seat_of q) }) vs)) → WhereTold old new (HoldsOpened has h)
  idle_open old new keeps calm same back =
      let now : OpenDataset D = record ch.after { pass = Some (seat_of q) } in
      let amount : (view q).amount ≡ 0 = calm.0 ∙ ap (λ (v : View). v.amount) its_first in
      let sure : (view q).doubts ≡ [] = calm.1 ∙ ap (λ (v : View). v.doubts) its_first in
      let opening : (view q).opening ≡ length (view p).history = keeps.opening ∙ (ap (λ (v : View). v.opening) its_first ∙ ap (λ (v : View). length v.history) (sym its_first)) in
      where_told old new (HandsBack has kept now vs) (HoldsOpened has h) (λ s t hb.
      let given : GivenBack hb.after.name (has hb.after.folder) hb.after.pass (folder_at t hb.after.name) = All-head (λ (d : OpenDataset D). IsGivenBack has d (folder_at t d.name)) hb.after [] hb.given.given in
      let told = is_told hb.after.name (has hb.after.folder) hb.after.pass (folder_at t hb.after.name) given in
      let back : IsBack hb.after.name told.0 (seat_of q) (folder_at t hb.after.name) =
      subst (λ (x : Option Seated). GivenBack hb.after.name (Some told.0) x (folder_at t hb.after.name)) hb.pass (subst (λ (f : Option Contents). GivenBack hb.after.name f hb.after.pass (folder_at t hb.after.name)) told.1 given) in
      let seen : IsPrefix (view p).history (view q).history = keeps.seen in
      let less : length (entries_of (view q).history) ≤ length back.entries = omega (arith, sym (ap length back.seen.1) ∙ length-append (entries_of (view q).history) back.seen.0) in
      let count = back.count in
      let pl = length-map (view p).history (λ (l : Listing). l.entry) in
      let ql = length-map (view q).history (λ (l : Listing). l.entry) in
      let longer : length (view q).history ≡ length (view p).history + length seen.0 = sym (ap length seen.1) ∙ length-append (view p).history seen.0 in
      let history : (view q).history ≡ (view p).history = same_entries (view p).history (view q).history seen (omega arith) in
      let first : (view p).history ≡ o.history = ap (λ (v : View). v.history) its_first in
      handed_idle has kept h now vs o.history (seat_of q) (record { board = b; view = first_view name o.told o.history }) s t (its_name ∙ st.name) refl
      (record { sure = sure; all = omega (arith, amount, opening, ap length history) }) (history ∙ first) o.pass refl o.writers (older h.last (has h.folder) (has ch.after.folder) (ap (λ (d : OpenDataset D). has d.folder) its.2 ∙ st.same))
      (subst (λ (xs : List (Writing H)). All (λ (w : Writing H). h.last < w.writer) xs) (sym same) (staff_later has h ws st.staff)) hb) (back b ch.after its_sole)
    where
      older : (last : ℕ) (x y : Option Contents) → y ≡ x → KeepsOlder last x y
      older last None None e = tt
      older last None (Some y) e = absurd (cc e)
      older last (Some x) None e = absurd (cc e)
      older last (Some x) (Some y) e = let s : y ≡ x = cc e in λ n small. ap (λ (v : Contents). v.files n) s

-- archivers were refused
pub tried_ready : {D H : Type 0} (has : D → Option Contents) (name : List ℕ) (b : BoardId) (h : OpenDataset D) (l : OpenDatasets D) (ws : List (Writing H)) → IsOpened name b h → Tried has b h l ws
    → (c : BoardId) × (d : OpenDataset D) × IsSole l c d × IsSome d.pass × (d.lent ≡ length ws) × All (λ (w : Writing H). w.dataset ≡ d.name) ws
tried_ready has name b h l ws o tr = let l0 = tr.lent in let l1 = o.asked.1 in (b, tr.now, tr.sole, ap is_some (tr.pass ∙ o.pass), omega arith, staff_datasets has h tr.now.name ws (sym tr.name) tr.staff)

pub tried_idle : {D H : Type 0} (has : D → Option Contents) (kept : H → Option (FileName → Option (List ℕ))) (name : List ℕ) (b : BoardId) (h : OpenDataset D) (l : OpenDatasets D) (ws : List (Writing H)) (old new : Option Holdings) → IsOpened name b h → Tried has b h l ws
    → ((c : BoardId) (d : OpenDataset D) → IsSole l c d → WhereTold old new (HandsBack has kept d ws)) → WhereTold old new (HoldsOpened has h)
tried_idle {H = H} has kept name b h l ws old new o tr back =
    let p : Seated = record { board = b; view = first_view name o.told o.history } in
    where_told old new (HandsBack has kept tr.now ws) (HoldsOpened has h)
    (λ s t hb. handed_idle has kept h tr.now ws o.history p p s t tr.name (tr.pass ∙ o.pass) (record { sure = refl; all = omega arith }) refl o.pass refl o.writers tr.files (staff_later has h ws tr.staff) hb)
    (back b tr.now tr.sole)

-- ---- over the store as it was before the dataset was opened

pub opened_sole : {D : Type 0} (has : D → Option Contents) (n : ℕ) (name : List ℕ) (l m : OpenDatasets D) (before after : Option Holdings) → l ≡ record { boards = []; each = [] } → (op : Opens has n name l m before after) → IsSole m op.board op.held
opened_sole {D = D} has n name l m before after none op = record {
  boards = op.adds.boards ∙ ap (λ (x : OpenDatasets D). x.boards ++ op.board ∷ []) none;
  each = op.adds.each ∙ ap (λ (x : OpenDatasets D). x.each ++ op.held ∷ []) none;
}

pub played_all : {F D H : Type 0} (has : D → Option Contents) (kept : H → Option (FileName → Option (List ℕ))) (rules : List Rule) (messages : List (List ℕ)) (sc : Scripted) (before : ℕ) (ends : List (List (End F))) (b : BoardId) (h : OpenDataset D) (x y z : Option Holdings)
    → IfSome x (λ s. HoldsAs has s h) → IfSome x (λ s. IsUndamaged sc.dataset (folder_at s sc.dataset)) → WhereTold x y (SameBut sc.dataset) → IsOpened sc.dataset b h → PlayedOpen has kept rules messages sc before ends b h y z
    → WhereTold x z (Played rules messages sc before ends)
played_all {F = F} has kept rules messages sc before ends b h x y z holds none same o po = go x y z holds none same po.back
  where
    go : (i j k : Option Holdings) → IfSome i (λ s. HoldsAs has s h) → IfSome i (λ s. IsUndamaged sc.dataset (folder_at s sc.dataset)) → WhereTold i j (SameBut sc.dataset) → WhereTold j k (HandsBack has kept po.last po.archivers) → WhereTold i k (Played {F = F} rules messages sc before ends)
    go None None None holds none same back = tt
    go None None (Some t) holds none same back = absurd back
    go None (Some s) k holds none same back = absurd same
    go (Some r) None k holds none same back = absurd same
    go (Some r) (Some s) None holds none same back = absurd back
    go (Some r) (Some s) (Some t) holds none same back = played has kept rules messages sc before ends b h y z po o r s t holds same back none

-- nothing was played
pub idle_all : {D : Type 0} (has : D → Option Contents) (name : List ℕ) (h : OpenDataset D) (l m : OpenDatasets D) (b : BoardId) (x y z : Option Holdings) → l ≡ record { boards = []; each = [] } → IsSole m b h → WhereTold x y (SameBut name)
    → WhereTold x y (λ s t. (n : List ℕ) → held_with has m.each t n ≡ held_with has l.each s n) → WhereTold y z (HoldsOpened has h) → WhereTold x z HoldsSame
idle_all {D = D} has name h l m b x y z none sole same kept opened = go x y z same kept opened
  where
    go : (i j k : Option Holdings) → WhereTold i j (SameBut name) → WhereTold i j (λ s t. (n : List ℕ) → held_with has m.each t n ≡ held_with has l.each s n) → WhereTold j k (HoldsOpened has h) → WhereTold i k HoldsSame
    go None None None same kept opened = tt
    go None None (Some t) same kept opened = absurd opened
    go None (Some s) k same kept opened = absurd same
    go (Some r) None k same kept opened = absurd same
    go (Some r) (Some s) None same kept opened = absurd opened
    go (Some r) (Some s) (Some t) same kept opened = record {
      schema = opened.schema ∙ same.schema;
      each = λ n. opened.each n ∙ (ap (λ (hs : List (OpenDataset D)). held_with has hs s n) (sym sole.each) ∙ (kept n ∙ ap (λ (d : OpenDatasets D). held_with has d.each r n) none));
    }

-- the dataset wasn't opened
pub idle_closed : {D : Type 0} (has : D → Option Contents) (name : List ℕ) (l m : OpenDatasets D) (x y z : Option Holdings) → l ≡ record { boards = []; each = [] } → m ≡ l → WhereTold x y (LooksInto name)
    → WhereTold x y (λ s t. (n : List ℕ) → held_with has m.each t n ≡ held_with has l.each s n) → WhereTold y z (GivesBack has m.each) → (All IsSettled m.each → WhereTold y z (λ s t. (n : List ℕ) → held_of t n ≡ held_with has m.each s n)) → WhereTold x z HoldsSame
idle_closed {D = D} has name l m x y z none still looks kept given held = go x y z looks kept given (held (subst (λ (d : OpenDatasets D). All IsSettled d.each) (sym (still ∙ none)) (λ k d lt. absurd (omega arith))))
  where
    go : (i j k : Option Holdings) → WhereTold i j (LooksInto name) → WhereTold i j (λ s t. (n : List ℕ) → held_with has m.each t n ≡ held_with has l.each s n) → WhereTold j k (GivesBack has m.each) → WhereTold j k (λ s t. (n : List ℕ) → held_of t n ≡ held_with has m.each s n) → WhereTold i k HoldsSame
    go None None None looks kept given held = tt
    go None None (Some t) looks kept given held = absurd given
    go None (Some s) k looks kept given held = absurd looks
    go (Some r) None k looks kept given held = absurd looks
    go (Some r) (Some s) None looks kept given held = absurd given
    go (Some r) (Some s) (Some t) looks kept given held = record {
      schema = given.schema ∙ looks.schema;
      each = λ n. held n ∙ (kept n ∙ ap (λ (d : OpenDatasets D). held_with has d.each r n) none);
    }

-- ---- what a crash may leave where nothing was played

-- the files are those that another folder has
only_by : (name : List ℕ) (es : List Entry) (u v w : Contents) → u.files ≡ v.files → KeepsOnly name es u w → KeepsOnly name es v w
only_by name es u v w same only = record {
  keeps = record {
    table = only.keeps.table;
    table_is = only.keeps.table_is;
    reads = only.keeps.reads;
    images = only.keeps.images;
    files = only.keeps.files ∙ ap (λ (fs : FileName → Option (List ℕ)). map (files_of fs) es) same;
  };
  none = only.none;
}

-- the dataset was opened
pub left_opened : {D : Type 0} (has : D → Option Contents) (name : List ℕ) (b : BoardId) (h : OpenDataset D) (x y z : Option Holdings) → IsOpened name b h → IfSome x (λ s. HoldsAs has s h) → IfSome x (λ s. IsUndamaged name (folder_at s name))
    → WhereTold x y (SameBut name) → WhereTold y z (HoldsOpened has h) → WhereTold x z (LeavesUnplayed name)
left_opened has name b h x y z o holds none same opened = go x y z holds none same opened
  where
    one : (r s t : Holdings) → HoldsAs has r h → IsUndamaged name (folder_at r name) → HoldsOpened has h s t → LeavesOpened name (folder_at r name) (folder_at t name)
    one r s t holds none opened =
        let l = opened.left _ o.pass in
        let v : Contents = l.0 in
        let only : KeepsOnly name (entries_of o.history) (folder_at r name) (folder_at t name) =
        only_by name (entries_of o.history) v (folder_at r name) (folder_at t name) (files_opened has name r h v o.name_is l.1 holds) (subst (λ (n : List ℕ). KeepsOnly n (entries_of o.history) v (folder_at t n)) o.name_is l.2) in
        record {
          undamaged = none;
          lists = λ es lists. subst (λ (xs : List Entry). KeepsOnly name xs (folder_at r name) (folder_at t name)) (lists_same name (entries_of o.history) es (folder_at r name).table (lists_opened has name b r h o holds) lists) only;
        }

    go : (i j k : Option Holdings) → IfSome i (λ s. HoldsAs has s h) → IfSome i (λ s. IsUndamaged name (folder_at s name)) → WhereTold i j (SameBut name) → WhereTold j k (HoldsOpened has h) → WhereTold i k (LeavesUnplayed name)
    go None None None holds none same opened = tt
    go None None (Some t) holds none same opened = absurd opened
    go None (Some s) k holds none same opened = absurd same
    go (Some r) None k holds none same opened = absurd same
    go (Some r) (Some s) None holds none same opened = absurd opened
    go (Some r) (Some s) (Some t) holds none same opened = record {
      others = record {
        schema = opened.schema ∙ same.schema;
        others = λ other apart. opened.others other (λ e. apart (e ∙ o.name_is)) ∙ same.others other apart;
      };
      dataset = inr (one r s t holds none opened);
    }

-- the dataset was looked into alone
pub left_closed : {D : Type 0} (has : D → Option Contents) (name : List ℕ) (l m : OpenDatasets D) (x y z : Option Holdings) → l ≡ record { boards = []; each = [] } → m ≡ l → WhereTold x y (LooksInto name) → WhereTold y z (GivesBack has m.each) → WhereTold x z (LeavesUnplayed name)
left_closed {D = D} has name l m x y z none still looks given = go x y z looks (subst (λ (d : OpenDatasets D). WhereTold y z (GivesBack has d.each)) (still ∙ none) given)
  where
    go : (i j k : Option Holdings) → WhereTold i j (LooksInto name) → WhereTold j k (GivesBack has []) → WhereTold i k (LeavesUnplayed name)
    go None None None looks given = tt
    go None None (Some t) looks given = absurd given
    go None (Some s) k looks given = absurd looks
    go (Some r) None k looks given = absurd looks
    go (Some r) (Some s) None looks given = absurd given
    go (Some r) (Some s) (Some t) looks given = record {
      others = record {
        schema = given.schema ∙ looks.schema;
        others = λ other apart. given.others other refl ∙ looks.others other (differ_texts other name apart);
      };
      dataset = inl (subst (λ (o : Option Contents). KeepsFolder name (folder_at r name) (unwrap_or o no_contents)) (sym (given.others name refl)) looks.folder);
    }

keeps_same : (name : List ℕ) (t : Option File) → KeepsTable name t t
keeps_same name None = tt
keeps_same name (Some f) = inl refl

-- no call of the store was made
pub left_self : (name : List ℕ) (o : Option Holdings) → WhereTold o o (LeavesUnplayed name)
left_self name None = tt
left_self name (Some h) = record { others = record { schema = refl; others = λ other apart. refl }; dataset = inl (record { files = refl; table = keeps_same name (folder_at h name).table }) }

pub plain_unopened : {F : Type 0} (name : List ℕ) (e : OpenFault F) (o : Option Holdings) → IsPlain e → IfSome o (IsUnopened name e)
plain_unopened name e None plain = tt
plain_unopened name (faults.Disk f) (Some h) plain = tt
plain_unopened name (faults.NotATable at want found) (Some h) plain = absurd plain
plain_unopened name (faults.Damaged d) (Some h) plain = absurd plain
plain_unopened name (faults.TooMany count) (Some h) plain = absurd plain
plain_unopened name faults.NoMemory (Some h) plain = tt

-- ---- small steps

pub unseated : {D X Y : Type 0} (l m : OpenDatasets D) (b : BoardId) (h : OpenDataset D) (p : Pass X Y) → IsSole l b h → Changes 0 l m (λ (x g : OpenDataset D). g ≡ record x { pass = Some (seat_of p) }) → IsSole m b (record h { pass = Some (seat_of p) })
unseated {D = D} l m b h p s ch = let n = sole_change l m b h (λ (x g : OpenDataset D). g ≡ record x { pass = Some (seat_of p) }) s ch in subst (λ (g : OpenDataset D). IsSole m b g) n.1 n.0

pub if_ok : {A E : Type 0} (r : Result A E) (P Q : A → Type 0) → ((a : A) → P a → Q a) → IfOk r P → IfOk r Q
if_ok (Ok a) P Q f p = f a p
if_ok (Err e) P Q f p = tt

pub on_err : {A E : Type 0} (r : Result A E) (P Q : Type 0) → (P → Q) → OnErr r P → OnErr r Q
on_err (Ok a) P Q f p = tt
on_err (Err e) P Q f p = f p

pub if_err : {A E : Type 0} (r : Result A E) (P Q : E → Type 0) → ((e : E) → P e → Q e) → IfErr r P → IfErr r Q
if_err (Ok a) P Q f p = tt
if_err (Err e) P Q f p = f e p

-- the board of the dataset, the only one
pub own_first : {D X Y : Type 0} (l : OpenDatasets D) (b : BoardId) (h : OpenDataset D) (p : Pass X Y) → IsSole l b h → IfSome (slice_get l.boards 0) (λ (z : BoardId). IsOf z p) → IsOf b p
own_first l b h p s own = subst (λ (bs : List BoardId). IfSome (slice_get bs 0) (λ (z : BoardId). IsOf z p)) s.boards own

-- why the dataset wasn't opened
pub unopened : {F : Type 0} (name : List ℕ) (e : OpenFault F) (o : Option Holdings) (wanted : Type 0) → TooManyAt {F = F} 0 wanted (Err e) → OnNotATable e (λ fault. IfSome o (λ s. WithTable (folder_at s name).table (λ f. listed name f.reads ≡ Err fault)))
    → OnDamaged e (λ d. IfSome o (λ s. WithTable (folder_at s name).table (λ f. (es : List Entry) × (listed name f.reads ≡ Ok es) × IsFirst d (damages (folder_at s name).files es)))) → IfSome o (IsUnopened name e)
unopened name e None wanted few bad damaged = tt
unopened name (faults.Disk f) (Some h) wanted few bad damaged = tt
unopened name (faults.NotATable at want found) (Some h) wanted few bad damaged = bad
unopened name (faults.Damaged d) (Some h) wanted few bad damaged = damaged
unopened name (faults.TooMany count) (Some h) wanted few bad damaged = absurd (omega (arith, few.0))
unopened name faults.NoMemory (Some h) wanted few bad damaged = tt

pub holds_self : (o : Option Holdings) → WhereTold o o HoldsSame
holds_self None = tt
holds_self (Some h) = record { schema = refl; each = λ n. refl }
