-- A worker that asks for an archiver and a part of a pass.
use Rattle.std.proofs.Common.{◌≡◌, ◌<◌, ◌≤◌, ◌+◌, ℕ, suc, true, false, List, [], ◌∷◌, length, get_or, slice_get, slice_set, Option, Some, None, is_some, sym, ap, subst, ◌∙◌, arith}
use Rattle.std.proofs.lemmas.List.{length-map}
use Rattle.fd_disk.specs.declared.folders.FileName.{FileName}
use Rattle.fd_disk.specs.Folders.{Contents, Holdings}
use Rattle.fd_segment.specs.declared.draft.Room.{Room}
use Rattle.fd_turn.specs.declared.board.Pass.{Pass}
use Rattle.fd_turn.specs.declared.view.Lock.TheVariants.{Free}
use Rattle.fd_turn.specs.Passes.{BoardId, IsOf, IsSame, view}
use Rattle.fd_turn.specs.Views.{donor, recipient}
use Rattle.fd_archiver.specs.Writing.{Writing}
use Rattle.fd_library.specs.Calls.{AsksWriter, Changes, IsNewWriter}
use Rattle.fd_library.specs.Open.{AreOpen, OpenDataset, OpenDatasets, names_of}
use Rattle.fd_stored.specs.Archiving.{Stored}
use Rattle.fd_shares.specs.declared.round.Desk.{Desk}
use Rattle.fd_shares.specs.declared.round.Job.{Job}
use Rattle.fd_shares.specs.declared.round.Parcel.{Parcel}
use Rattle.fd_bulk.specs.Crewing.{CanSeat, Deals, HasBegun, HasDesk, desks_at, with_desk}
use Rattle.fd_shares.specs.Sharing.{its_pairs}
use Rattle.fd_shares.specs.Working.{Filling}
use Rattle.fd_bulk.proofs.Joined.{work_long}
use Rattle.fd_bulk.proofs.Matching.{MatchedAt, matched_at, matched_long}
use Rattle.fd_bulk.proofs.Meeting.{names_set, seated_deals}
use Rattle.fd_shares.proofs.Shares.{get_there}
use Rattle.fd_bulk.proofs.Turns.{get_place, has_at}

pub desks_few : {H X Y E : Type 0} (n : ℕ) (js : List (Job (Writing H) (Pass X Y) E)) → length (desks_at n js) ≤ length js
desks_few n [] = omega arith
desks_few {H = H} {X = X} {Y = Y} n (j ∷ js) = go (slice_get j.desks.items n) (desks_few n js)
  where
    go : (o : Option (Option (Desk (Writing H) (Pass X Y)))) → length (desks_at n js) ≤ length js → length (with_desk o (desks_at n js)) ≤ suc (length js)
    go None le = omega (arith, le)
    go (Some None) le = omega (arith, le)
    go (Some (Some d)) le = omega (arith, le)

pub none_there : {A : Type 0} (ds : List (Option A)) (n : ℕ) (x : Option A) → n < length ds → x ≡ get_or ds n x → is_some x ≡ false → slice_get ds n ≡ Some None
none_there ds n None lt is none = get_there ds n None lt is
none_there ds n (Some a) lt is none = absurd (cc none)

pub asked_names : {D : Type 0} (has : D → Option Contents) (faults : D → ℕ) (n : ℕ) (l m : OpenDatasets D) → Changes n l m (AsksWriter has faults) → names_of m.each ≡ names_of l.each
asked_names {D = D} has faults n l m ch = ap names_of ch.is ∙ names_set l.each n ch.before ch.after ch.was (ap (λ (h : OpenDataset D). h.name) ch.how.rest)

module _ {D H X Y E : Type 0} (has : D → Option Contents) (kept : H → Option (FileName → Option (List ℕ))) (worker n : ℕ) (l : OpenDatasets D) (ps : List (Pass X Y)) (js : List (Job (Writing H) (Pass X Y) E)) (r : CanSeat has kept worker n l ps js) where
  abbrev Begun : ℕ → BoardId → OpenDataset D → Pass X Y → Type 0
  Begun i b h p = HasBegun has r.start 0 b h p (desks_at i js)

  here : (h : OpenDataset D) × (slice_get l.each n ≡ Some h)
  here = has_at l.each n r.number

  begun : MatchedAt Begun n n l.boards ps here.0
  begun = matched_at Begun 0 n n l.boards l.each ps here.0 (omega arith) here.1 r.crewed.each

  pub may_ask : (h : OpenDataset D) × (slice_get l.each n ≡ Some h) × (h.given < 65535)
  may_ask = (here.0, here.1, (let a = begun.holds.given in let b = begun.holds.lent in let c = desks_few n js in let f = r.crewed.few in omega (arith, a, b, c, f)))

  pub desk_inside : (e k : Job (Writing H) (Pass X Y) E) → k ≡ get_or js worker e → n < length k.desks.items
  desk_inside e k is =
      let runs = r.crewed.works worker (get_or js worker e) (get_place js worker e r.worker_is) in
      let a = work_long kept (λ i. Filling) (its_pairs (length js) (names_of l.each) worker r.all) 0 l.boards (names_of l.each) (get_or js worker e).desks.items runs.works in
      let b = length-map l.each (λ (h : OpenDataset D). h.name) in
      let lt = r.number in
      subst (λ (j : Job (Writing H) (Pass X Y) E). n < length j.desks.items) (sym is) (omega (arith, a, b, lt))

  pub board_inside : n < length l.boards
  board_inside = let a = (matched_long Begun 0 l.boards l.each ps r.crewed.each).0 in let lt = r.number in omega (arith, a, lt)

  pub pass_inside : n < length ps
  pass_inside = let a = (matched_long Begun 0 l.boards l.each ps r.crewed.each).1 in let lt = r.number in omega (arith, a, lt)

  module _ (p : Pass X Y) (p_is : p ≡ get_or ps n p) where
    its : begun.third ≡ p
    its = let a = begun.third_at in let b = get_there ps n p pass_inside p_is in cc (a, b)

    pub pass_own : (b : BoardId) → b ≡ get_or l.boards n b → IsOf b p
    pass_own b b_is =
        let same : begun.first ≡ b = (let x = begun.first_at in let y = get_there l.boards n b board_inside b_is in cc (x, y)) in
        subst (λ (z : BoardId). IsOf z p) same (subst (IsOf begun.first) its begun.holds.own)

    pub pass_free : (view p).lock ≡ Free
    pass_free = subst (λ (z : Pass X Y). (view z).lock ≡ Free) its begun.holds.free

    pub pass_parts : 2 ≤ (view p).parts
    pass_parts = subst (λ (z : Pass X Y). 2 ≤ (view z).parts) its (let a = begun.holds.parts in let b = begun.holds.lent in let c = desks_few n js in let f = r.crewed.few in omega (arith, a, b, c, f))

  -- it has met the dataset already
  pub met_already : (j : Job (Writing H) (Pass X Y) E) → j ≡ get_or js worker j → (x : Option (Desk (Writing H) (Pass X Y))) → x ≡ get_or j.desks.items n x → is_some x ≡ true → HasDesk js worker n
  met_already j j_is None x_is some = absurd (cc some)
  met_already j j_is (Some d) x_is some = (j, get_there js worker j r.worker_is j_is, (d, get_there j.desks.items n (Some d) (desk_inside j j j_is) x_is))

  -- it meets it now
  module _ (faults : D → ℕ) (start now : Option Holdings) (all waiting : List Stored) (datasets : List (List ℕ)) (m : OpenDatasets D) (parcels : List Parcel) (d : Deals has kept start now all waiting datasets l ps js parcels) (ch : Changes n l m (AsksWriter has faults)) (sound : AreOpen m) where
    pub seated_at : (room : Room) → room.keys ≡ 2048 → room.bytes ≡ 131072 → (a : Writing H) → Changes n l m (λ h g. IsNewWriter has room h a × (has g.folder ≡ has h.folder) × (g.lent ≡ h.lent + 1)) → is_some (kept a.shelf) ≡ a.told
        → (i j k : Job (Writing H) (Pass X Y) E) → i ≡ get_or js worker i → j ≡ get_or js worker j → (x : Option (Desk (Writing H) (Pass X Y))) → x ≡ get_or i.desks.items n x → is_some x ≡ false → (p q part : Pass X Y) → p ≡ get_or ps n p
        → k.desks.items ≡ slice_set j.desks.items n (Some (record { archiver = a; pass = part })) → k.halt ≡ j.halt → IsSame p q × IsSame p part → view q ≡ donor (view p) → view part ≡ recipient (view p)
        → Deals has kept start now all waiting datasets m (slice_set ps n q) (slice_set js worker k) parcels × HasDesk (slice_set js worker k) worker n
    seated_at room keys bytes a nw tells i j k i_is j_is x x_is none p q part p_is set halt own donor_is given_is =
        let i_at = get_there js worker i r.worker_is i_is in
        let j_at = get_there js worker j r.worker_is j_is in
        let same : i ≡ j = cc (i_at, j_at) in
        let empty = none_there i.desks.items n x (desk_inside i i i_is) x_is none in
        seated_deals has faults kept start now all waiting datasets n l m ps js parcels d ch sound room keys bytes a nw tells worker j k j_at (subst (λ (y : Job (Writing H) (Pass X Y) E). slice_get y.desks.items n ≡ Some None) same empty) p q part (get_there ps n p pass_inside p_is) set halt own donor_is given_is (pass_parts p p_is)
