-- Archivers of the dataset that is open, as lanes ask for them, and as they are when they come back.
use Rattle.std.proofs.Common.{◌≡◌, ◌<◌, ◌≤◌, ◌+◌, ◌^◌, ◌⊎◌, inl, inr, ℕ, Bool, List, [], ◌∷◌, All, length, map, get_or, Option, Some, is_some, sym, refl, ap, ◌∙◌, subst, arith}
use Rattle.std.proofs.lemmas.List.{length-map}
use Rattle.std.proofs.lemmas.List.Elements.{All-nil, All-cons, All-head, All-tail}
use Rattle.fd_disk.specs.Folders.{Contents}
use Rattle.fd_entries.specs.Table.{greatest_writer}
use Rattle.fd_entries.specs.declared.batch.Listing.{Listing}
use Rattle.fd_numbers.specs.Numbers.{IsIn}
use Rattle.fd_archiver.specs.Writing.{Writing}
use Rattle.fd_lanes.specs.Jobs.{MayBegin, owners_of, writers_of}
use Rattle.fd_library.specs.Open.{OpenDataset}
use Rattle.fd_play.specs.Staff.{IsStaff}

pub may_begin : {D H : Type 0} (has : D → Option Contents) (h : OpenDataset D) (text : List ℕ) (entries : ℕ) (ws : List (Writing H)) → h.name ≡ text → h.opening ≡ entries → All (IsStaff has h) ws → All (MayBegin text entries) ws
may_begin has h text entries ws name opening all = λ k d lt.
    let s = all k d lt in
    let last = s.last in let keys = s.keys in let bytes = s.bytes in
    record {
      nothing = s.empty;
      dataset = s.dataset ∙ name;
      writer = subst (λ (n : ℕ). (get_or ws k d).writer ≤ greatest_writer n) opening s.bounded;
      left = omega arith;
      keys = omega arith;
      bytes = omega arith;
    }

-- an archiver that came back is one that was lent
pub lent_one : {H : Type 0} (P : ℕ → List ℕ → Bool → Type 0) (ws vs : List (Writing H)) → owners_of ws ≡ owners_of vs → All (λ (v : Writing H). P v.writer v.dataset v.told) vs → All (λ (w : Writing H). P w.writer w.dataset w.told) ws
lent_one {H = H} P [] vs same all = All-nil (λ (w : Writing H). P w.writer w.dataset w.told)
lent_one P (w ∷ ws) [] same all = absurd (cc same)
lent_one {H = H} P (w ∷ ws) (v ∷ vs) same all =
    let head : (w.writer, w.dataset, w.told) ≡ (v.writer, v.dataset, v.told) = cc same in
    let one : v.writer ≡ w.writer = sym (ap (λ (t : ℕ × List ℕ × Bool). t.0) head) in
    let two : v.dataset ≡ w.dataset = sym (ap (λ (t : ℕ × List ℕ × Bool). t.1) head) in
    let three : v.told ≡ w.told = sym (ap (λ (t : ℕ × List ℕ × Bool). t.2) head) in
    let rest : owners_of ws ≡ owners_of vs = cc same in
    let here : P v.writer v.dataset v.told = All-head (λ (x : Writing H). P x.writer x.dataset x.told) v vs all in
    All-cons (λ (x : Writing H). P x.writer x.dataset x.told) w ws
    (subst (λ (b : Bool). P w.writer w.dataset b) three (subst (λ (t : List ℕ). P w.writer t v.told) two (subst (λ (n : ℕ). P n v.dataset v.told) one here)))
    (lent_one P ws vs rest (All-tail (λ (x : Writing H). P x.writer x.dataset x.told) v vs all))

pub lent_writers : {H : Type 0} (ws vs : List (Writing H)) → owners_of ws ≡ owners_of vs → writers_of ws ≡ writers_of vs
lent_writers [] [] same = refl
lent_writers [] (v ∷ vs) same = absurd (cc same)
lent_writers (w ∷ ws) [] same = absurd (cc same)
lent_writers (w ∷ ws) (v ∷ vs) same =
    let head : (w.writer, w.dataset, w.told) ≡ (v.writer, v.dataset, v.told) = cc same in
    let one : w.writer ≡ v.writer = ap (λ (t : ℕ × List ℕ × Bool). t.0) head in
    let rest = lent_writers ws vs (cc same) in
    cc (one, rest)

pub lent_many : {H : Type 0} (ws vs : List (Writing H)) → owners_of ws ≡ owners_of vs → length ws ≡ length vs
lent_many ws vs same = sym (length-map ws (λ (w : Writing _). w.writer)) ∙ (ap length (lent_writers ws vs same) ∙ length-map vs (λ (w : Writing _). w.writer))

pub staff_later : {D H : Type 0} (has : D → Option Contents) (h : OpenDataset D) (ws : List (Writing H)) → All (IsStaff has h) ws → All (λ (w : Writing H). h.last < w.writer) ws
staff_later has h ws all = λ k d lt. (all k d lt).later

pub staff_datasets : {D H : Type 0} (has : D → Option Contents) (h : OpenDataset D) (name : List ℕ) (ws : List (Writing H)) → h.name ≡ name → All (IsStaff has h) ws → All (λ (w : Writing H). w.dataset ≡ name) ws
staff_datasets has h name ws is all = λ k d lt. (all k d lt).dataset ∙ is

pub staff_told : {D H : Type 0} (has : D → Option Contents) (h : OpenDataset D) (ws : List (Writing H)) → All (IsStaff has h) ws → All (λ (w : Writing H). w.told ≡ is_some (has h.folder)) ws
staff_told has h ws all = λ k d lt. (all k d lt).told
