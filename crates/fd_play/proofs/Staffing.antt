-- One archiver more of the dataset that is open.
use Rattle.std.proofs.Common.{◌≡◌, ◌≢◌, ◌<◌, ◌≤◌, ◌+◌, ◌⊎◌, inl, inr, ℕ, List, [], ◌∷◌, ◌++◌, All, length, map, slice_get, slice_set, get_or, Option, Some, None, is_some, sym, refl, ap, ◌∙◌, subst, arith, length-append}
use Rattle.std.proofs.lemmas.List.Elements.{All-nil, All-cons, All-head, All-tail, All-push}
use mathlib.Core.List.{map-append}
use Rattle.fd_disk.specs.declared.folders.FileName.{FileName}
use Rattle.fd_disk.specs.Folders.{Contents, WhereTold}
use Rattle.fd_entries.specs.Table.{greatest_writer}
use Rattle.fd_numbers.specs.Numbers.{Differ, IsIn}
use Rattle.fd_segment.specs.declared.draft.Room.{Room}
use Rattle.fd_turn.specs.Passes.{BoardId}
use Rattle.fd_archiver.specs.Writing.{Writing}
use Rattle.fd_lanes.specs.Jobs.{writers_of}
use Rattle.fd_library.specs.Calls.{AsksWriter, Changes, IsNewWriter, KeepsOtherFiles}
use Rattle.fd_library.specs.Open.{OpenDataset, OpenDatasets}
use Rattle.fd_play.specs.Staff.{IsSole, IsStaff, KeepsOlder, Staffs, Tried}

pub where_told : {A B : Type 0} (a : Option A) (b : Option B) (P Q : A → B → Type 0) → ((x : A) (y : B) → P x y → Q x y) → WhereTold a b P → WhereTold a b Q
where_told None None P Q f p = tt
where_told None (Some y) P Q f p = absurd p
where_told (Some x) None P Q f p = absurd p
where_told (Some x) (Some y) P Q f p = f x y p

in_push : (ns : List ℕ) (n m : ℕ) → IsIn (ns ++ n ∷ []) m → IsIn ns m ⊎ (n ≡ m)
in_push [] n m (inl e) = inr e
in_push [] n m (inr i) = absurd i
in_push (x ∷ ns) n m (inl e) = inl (inl e)
in_push (x ∷ ns) n m (inr i) = go (in_push ns n m i)
  where
    go : IsIn ns m ⊎ (n ≡ m) → IsIn (x ∷ ns) m ⊎ (n ≡ m)
    go (inl j) = inl (inr j)
    go (inr e) = inr e

differ_push : (ns : List ℕ) (n : ℕ) → Differ ns → (IsIn ns n → ⊥) → Differ (ns ++ n ∷ [])
differ_push [] n d out = ((λ i. i), tt)
differ_push (m ∷ ns) n d out = ((λ i. go (in_push ns n m i)), differ_push ns n d.1 (λ i. out (inr i)))
  where
    go : IsIn ns m ⊎ (n ≡ m) → ⊥
    go (inl j) = d.0 j
    go (inr e) = out (inl (sym e))

module _ {H : Type 0} where
  below_in : (ws : List (Writing H)) (n m : ℕ) → All (λ (w : Writing H). w.writer ≤ m) ws → IsIn (writers_of ws) n → n ≤ m
  below_in [] n m below i = absurd i
  below_in (w ∷ ws) n m below (inl e) = let one : w.writer ≤ m = All-head (λ (v : Writing H). v.writer ≤ m) w ws below in omega arith
  below_in (w ∷ ws) n m below (inr i) = below_in ws n m (All-tail (λ (v : Writing H). v.writer ≤ m) w ws below) i

-- where the one dataset changes, it is the one dataset still
pub sole_change : {D : Type 0} (l m : OpenDatasets D) (b : BoardId) (h : OpenDataset D) (How : OpenDataset D → OpenDataset D → Type 0) → IsSole l b h → (ch : Changes 0 l m How) → IsSole m b ch.after × How h ch.after
sole_change {D = D} l m b h How s ch =
    let there : slice_get l.each 0 ≡ Some h = ap (λ (hs : List (OpenDataset D)). slice_get hs 0) s.each in
    let both : Some ch.before ≡ Some h = sym ch.was ∙ there in
    let was : ch.before ≡ h = cc both in
    (record { boards = ch.boards ∙ s.boards; each = ch.is ∙ ap (λ (hs : List (OpenDataset D)). slice_set hs 0 ch.after) s.each }, subst (λ (x : OpenDataset D). How x ch.after) was ch.how)

pub sole_same : {D : Type 0} (l : OpenDatasets D) (b c : BoardId) (h g : OpenDataset D) → IsSole l b h → IsSole l c g → h ≡ g
sole_same l b c h g s t = let both : h ∷ [] ≡ g ∷ [] = sym s.each ∙ t.each in cc both

module _ {D H : Type 0} (has : D → Option Contents) (faults : D → ℕ) where
  -- none was asked for
  pub staffs_none : (b : BoardId) (h : OpenDataset D) (l : OpenDatasets D) (ws : List (Writing H)) → ws ≡ [] → IsSole l b h → Staffs has b h l ws
  staffs_none b h l ws none s = subst (λ (vs : List (Writing H)). Staffs has b h l vs) (sym none) (record {
    now = h;
    sole = s;
    name = refl;
    pass = refl;
    opening = refl;
    same = refl;
    given = omega arith;
    lent = omega arith;
    higher = omega arith;
    staff = All-nil (IsStaff has h);
    below = All-nil (λ (w : Writing H). w.writer ≤ h.last);
    differ = tt;
  })

  module _ (b : BoardId) (h : OpenDataset D) (l m : OpenDatasets D) (ws : List (Writing H)) (st : Staffs has b h l ws) (ch : Changes 0 l m (AsksWriter has faults)) where
    asked : IsSole m b ch.after × AsksWriter has faults st.now ch.after
    asked = sole_change l m b st.now (AsksWriter has faults) st.sole ch

    last_is : ch.after.last ≡ st.now.last + 1
    last_is = ap (λ (d : OpenDataset D). d.last) asked.1.rest

    -- one archiver more
    pub staffs_more : (w : Writing H) (room : Room) → Changes 0 l m (λ x y. IsNewWriter has room x w × (has y.folder ≡ has x.folder) × (y.lent ≡ x.lent + 1)) → room.keys ≡ 4096 → room.bytes ≡ 1048576 → Staffs has b h m (ws ++ w ∷ [])
    staffs_more w room new keys bytes =
        let n = sole_change l m b st.now (λ x y. IsNewWriter has room x w × (has y.folder ≡ has x.folder) × (y.lent ≡ x.lent + 1)) st.sole new in
        let same : new.after ≡ ch.after = sole_same m b b new.after ch.after n.0 asked.0 in
        let is : IsNewWriter has room st.now w = n.1.0 in
        let folder : has ch.after.folder ≡ has st.now.folder = subst (λ (y : OpenDataset D). has y.folder ≡ has st.now.folder) same n.1.1 in
        let lent : ch.after.lent ≡ st.now.lent + 1 = subst (λ (y : OpenDataset D). y.lent ≡ st.now.lent + 1) same n.1.2 in
        let given : ch.after.given ≡ st.now.given + 1 = ap (λ (d : OpenDataset D). d.given) asked.1.rest in
        let long : length (ws ++ w ∷ []) ≡ length ws + 1 = length-append ws (w ∷ []) in
        let high = st.higher in
        let writer = is.writer in
        let bounded : w.writer ≤ greatest_writer h.opening = subst (λ (n : ℕ). w.writer ≤ greatest_writer n) st.opening is.bounded in
        let g0 = st.given in let l0 = st.lent in let up = last_is in
        record {
          now = ch.after;
          sole = asked.0;
          name = ap (λ (d : OpenDataset D). d.name) asked.1.rest ∙ st.name;
          pass = ap (λ (d : OpenDataset D). d.pass) asked.1.rest ∙ st.pass;
          opening = ap (λ (d : OpenDataset D). d.opening) asked.1.rest ∙ st.opening;
          same = folder ∙ st.same;
          given = omega arith;
          lent = omega arith;
          higher = omega arith;
          staff = All-push (IsStaff has h) ws w st.staff (record {
            later = omega arith;
            bounded = bounded;
            dataset = is.dataset ∙ st.name;
            told = is.told ∙ ap is_some st.same;
            last = is.last;
            keys = is.keys ∙ keys;
            bytes = is.bytes ∙ bytes;
            empty = is.empty;
          });
          below = All-push (λ (v : Writing H). v.writer ≤ ch.after.last) ws w (λ k d lt. let one = st.below k d lt in omega arith) (omega arith);
          differ = subst Differ (sym (map-append (λ (v : Writing H). v.writer) ws (w ∷ []))) (differ_push (writers_of ws) w.writer st.differ (λ i. let few = below_in ws w.writer st.now.last st.below i in omega arith));
        }

    -- another one was refused
    pub tried : (P : OpenDataset D → OpenDataset D → Type 0) → Changes 0 l m (λ x y. (y.lent ≡ x.lent) × P x y) → Tried has b h m ws
    tried P new =
        let n = sole_change l m b st.now (λ x y. (y.lent ≡ x.lent) × P x y) st.sole new in
        let same : new.after ≡ ch.after = sole_same m b b new.after ch.after n.0 asked.0 in
        let lent : ch.after.lent ≡ st.now.lent = subst (λ (y : OpenDataset D). y.lent ≡ st.now.lent) same n.1.0 in
        let high = st.higher in
        let files : KeepsOtherFiles (st.now.last + 1) (has h.folder) (has ch.after.folder) = subst (λ (o : Option Contents). KeepsOtherFiles (st.now.last + 1) o (has ch.after.folder)) st.same asked.1.files in
        record {
          now = ch.after;
          sole = asked.0;
          name = ap (λ (d : OpenDataset D). d.name) asked.1.rest ∙ st.name;
          pass = ap (λ (d : OpenDataset D). d.pass) asked.1.rest ∙ st.pass;
          opening = ap (λ (d : OpenDataset D). d.opening) asked.1.rest ∙ st.opening;
          files = where_told (has h.folder) (has ch.after.folder) (λ v w. (n : FileName) → n.writer ≢ st.now.last + 1 → w.files n ≡ v.files n) (λ v w. (n : FileName) → n.writer ≤ h.last → w.files n ≡ v.files n) (λ v w same n small. same n (λ e. omega (arith, e, small, high))) files;
          lent = lent ∙ st.lent;
          staff = st.staff;
        }
