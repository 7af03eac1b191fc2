-- One message more that waits.
use Rattle.std.proofs.Common.{◌≡◌, ◌⊎◌, inl, inr, ◌<◌, ◌≤◌, ℕ, zero, suc, List, [], ◌∷◌, ◌++◌, length, slice_get, ◌+◌, Option, Some, None, sym, ap, subst, ◌∙◌, arith, append_assoc, length-append}
use Rattle.std.proofs.lemmas.List.{length-map}
use Rattle.fd_disk.specs.declared.folders.FileName.{FileName}
use Rattle.fd_disk.specs.Folders.{Contents, Holdings}
use Rattle.fd_turn.specs.declared.board.Pass.{Pass}
use Rattle.fd_archiver.specs.Writing.{Writing}
use Rattle.fd_schema.specs.Rules.{file_key}
use Rattle.fd_schema.specs.Reading.{seen_place}
use Rattle.fd_library.specs.Open.{OpenDataset, OpenDatasets, names_of}
use Rattle.fd_stored.specs.Archiving.{Stored, datasets_in}
use Rattle.fd_shares.specs.declared.round.Job.{Job}
use Rattle.fd_shares.specs.declared.round.Parcel.{Parcel}
use Rattle.fd_entries.specs.declared.batch.Pair.{Pair}
use Rattle.fd_bulk.specs.Crewing.{AreMet, CanSeat, Deals, HasBegun, HasDesk, desks_at, message_at}
use Rattle.fd_sheets.specs.Dealt.{dealt}
use Rattle.fd_bulk.specs.Halting.{HaveMetNone}
use Rattle.fd_shares.specs.Sharing.{AllFit, AreParcels, IsFit, IsParcelOf}
use Rattle.fd_bulk.proofs.Matching.{matched_long}
use Rattle.fd_shares.proofs.Shares.{inside}
use Rattle.fd_bulk.proofs.Texts.{datasets_push}

parcels_push : (workers : ℕ) (names : List (List ℕ)) (ss : List Stored) (ps : List Parcel) (s : Stored) (p : Parcel) → IsParcelOf workers names s p → AreParcels workers names ss ps → AreParcels workers names (ss ++ s ∷ []) (ps ++ p ∷ [])
parcels_push workers names [] [] s p one are = (one, tt)
parcels_push workers names [] (q ∷ ps) s p one are = absurd are
parcels_push workers names (t ∷ ss) [] s p one are = absurd are
parcels_push workers names (t ∷ ss) (q ∷ ps) s p one are = (are.0, parcels_push workers names ss ps s p one are.1)

fit_push : (names : List (List ℕ)) (ps : List Parcel) (p : Parcel) → IsFit names p → AllFit names ps → AllFit names (ps ++ p ∷ [])
fit_push names [] p one all = (one, tt)
fit_push names (q ∷ ps) p one all = (all.0, fit_push names ps p one all.1)

-- the last of them, or one of the others
pub last_or : {A : Type 0} (xs : List A) (y : A) (i : ℕ) (x : A) → slice_get (xs ++ y ∷ []) i ≡ Some x → (slice_get xs i ≡ Some x) ⊎ (y ≡ x)
last_or [] y zero x at = inr (cc at)
last_or [] y (suc i) x at = absurd (cc at)
last_or (z ∷ xs) y zero x at = inl at
last_or (z ∷ xs) y (suc i) x at = last_or xs y i x at

module _ {D H X Y E : Type 0} (has : D → Option Contents) (kept : H → Option (FileName → Option (List ℕ))) (start now : Option Holdings) (all waiting : List Stored) (s : Stored) (p : Parcel) (l : OpenDatasets D) (ps : List (Pass X Y)) (js : List (Job (Writing H) (Pass X Y) E)) (parcels : List Parcel) where
  pub one_waits : IsParcelOf (length js) (names_of l.each) s p → IsFit (names_of l.each) p → HasDesk js p.worker p.dataset → Deals has kept start now all waiting (datasets_in (all ++ waiting) ++ s.dataset ∷ []) l ps js parcels
      → Deals has kept start now all (waiting ++ s ∷ []) (datasets_in (all ++ (waiting ++ s ∷ []))) l ps js (parcels ++ p ∷ [])
  one_waits parcel fit desk d = record {
    crewed = d.crewed;
    waits = record {
      parcels_are = parcels_push (length js) (names_of l.each) waiting parcels s p parcel d.waits.parcels_are;
      fit = fit_push (names_of l.each) parcels p fit d.waits.fit;
      met = λ i x at. go i x (last_or parcels p i x at) (d.waits.met i x);
    };
    met = subst (λ (ns : List (List ℕ)). AreMet ns (names_of l.each)) (sym (ap datasets_in (sym (append_assoc all waiting (s ∷ []))) ∙ datasets_push (all ++ waiting) s)) d.met;
    untouched = d.untouched;
  }
    where
      go : (i : ℕ) (x : Parcel) → (slice_get parcels i ≡ Some x) ⊎ (p ≡ x) → (slice_get parcels i ≡ Some x → HasDesk js x.worker x.dataset) → HasDesk js x.worker x.dataset
      go i x (inl at) had = had at
      go i x (inr same) had = subst (λ (q : Parcel). HasDesk js q.worker q.dataset) same desk

-- one worker more that has met none
pub met_none_push : {A P E : Type 0} (js ks : List (Job A P E)) (j : Job A P E) (n : ℕ) → ks ≡ js ++ j ∷ [] → j.desks.items ≡ [] → j.halt ≡ None → length js ≡ n → HaveMetNone js → (length ks ≡ n + 1) × HaveMetNone ks
met_none_push {A = A} {P = P} {E = E} js ks j n is none runs long all = (
  (let e = ap length is in let f = length-append js (j ∷ []) in omega (arith, e, f, long)),
  λ w k at. go w k (last_or js j w k (subst (λ (xs : List (Job A P E)). slice_get xs w ≡ Some k) is at)),
)
  where
    go : (w : ℕ) (k : Job A P E) → (slice_get js w ≡ Some k) ⊎ (j ≡ k) → (k.desks.items ≡ []) × (k.halt ≡ None)
    go w k (inl at) = all w k at
    go w k (inr same) = subst (λ (i : Job A P E). (i.desks.items ≡ []) × (i.halt ≡ None)) same (none, runs)

module _ {D H X Y E : Type 0} (has : D → Option Contents) (kept : H → Option (FileName → Option (List ℕ))) (start now : Option Holdings) (all waiting : List Stored) (datasets : List (List ℕ)) (l : OpenDatasets D) (ps : List (Pass X Y)) (js : List (Job (Writing H) (Pass X Y) E)) (parcels : List Parcel) where
  pub deals_long : Deals has kept start now all waiting datasets l ps js parcels → length ps ≡ length l.each
  deals_long d = (matched_long (λ n b h p. HasBegun has start 0 b h p (desks_at n js)) 0 l.boards l.each ps d.crewed.each).1

  pub can_seat : (worker n : ℕ) (name : List ℕ) → Deals has kept start now all waiting datasets l ps js parcels → slice_get (names_of l.each) n ≡ Some name → worker < length js → CanSeat has kept worker n l ps js
  can_seat worker n name d at lt = record {
    start = start;
    now = now;
    all = all;
    crewed = d.crewed;
    worker_is = lt;
    number = (let a = inside (names_of l.each) n name at in let b = length-map l.each (λ (h : OpenDataset D). h.name) in omega (arith, a, b));
  }

abbrev pair_with : Parcel → List ℕ → Pair
pair_with p octets = record { key = file_key (seen_place p.place); bytes = octets }

module _ {D H X Y E : Type 0} (has : D → Option Contents) (kept : H → Option (FileName → Option (List ℕ))) (start now : Option Holdings) (all waiting : List Stored) (octets : List ℕ) (p : Parcel) (l : OpenDatasets D) (ps : List (Pass X Y)) (js : List (Job (Writing H) (Pass X Y) E)) (parcels : List Parcel) where
  pub dealt_one : p.bytes ≡ octets → Deals has kept start now all waiting (datasets_in (all ++ waiting) ++ (seen_place p.place).dataset ∷ []) l ps js parcels × HasDesk js p.worker p.dataset → slice_get (names_of l.each) p.dataset ≡ Some (seen_place p.place).dataset
      → (workers : ℕ) → p.worker ≡ dealt workers (seen_place p.place).dataset (file_key (seen_place p.place)) → workers ≡ length js → length (file_key (seen_place p.place)) ≤ 256 → length octets ≤ 134217728
      → Deals has kept start now all (waiting ++ message_at (seen_place p.place) octets ∷ []) (datasets_in (all ++ (waiting ++ message_at (seen_place p.place) octets ∷ []))) l ps js (parcels ++ p ∷ [])
  dealt_one same seated named workers worker long key bytes =
      one_waits has kept start now all waiting (message_at (seen_place p.place) octets) p l ps js parcels
      (record { pair = ap (pair_with p) same; named = named; worker = worker ∙ ap (λ (n : ℕ). dealt n (seen_place p.place).dataset (file_key (seen_place p.place))) long })
      (record { named = named; key = key; bytes = subst (λ (b : List ℕ). length b ≤ 134217728) (sym same) bytes }) seated.1 seated.0
