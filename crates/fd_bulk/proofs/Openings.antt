-- Whether a dataset is open already, by the number that it was given.
use Rattle.std.proofs.Common.{◌≡◌, ◌⊎◌, inl, inr, ◌<◌, ◌≤◌, ◌+◌, ℕ, Bool, true, false, List, [], ◌∷◌, ◌++◌, length, slice_get, Option, Some, None, IsSome, refl, sym, ap, subst, ◌∙◌, arith, length-append}
use Rattle.fd_disk.specs.Folders.{Contents, Holdings}
use Rattle.fd_turn.specs.declared.board.Pass.{Pass}
use Rattle.fd_archiver.specs.Writing.{Writing}
use Rattle.fd_library.specs.Calls.{Changes, Opens}
use Rattle.fd_library.specs.Open.{AreOpen, OpenDataset, OpenDatasets, among, names_of}
use Rattle.fd_stored.specs.Archiving.{is_too_many}
use Rattle.fd_shares.specs.declared.round.Desk.{Desk}
use Rattle.fd_shares.specs.declared.round.Job.{Job}
use Rattle.fd_bulk.specs.Crewing.{AreMet}
use Rattle.fd_bulk.specs.Halting.{Each, HasOneMore, IsSameJob}
use Rattle.fd_bulk.proofs.Joined.{at_end, each_back}
use Rattle.fd_bulk.proofs.Meeting.{names_set}
use Rattle.fd_shares.proofs.Shares.{inside}
use Rattle.fd_bulk.proofs.Texts.{not_too_many_few, not_too_many_open, true_or_false}
use Rattle.std.proofs.lemmas.List.{length-map}

module _ {D : Type 0} (has : D → Option Contents) (n : ℕ) (name : List ℕ) (l m : OpenDatasets D) (before after : Option Holdings) where
  pub is_again : (among name (names_of l.each) ≡ false → Opens has n name l m before after) → n < length l.each → among name (names_of l.each) ≡ true
  is_again new lt = elim (true_or_false (among name (names_of l.each))) as (λ _. among name (names_of l.each) ≡ true) [ inl e ↦ e | inr e ↦ absurd (let i = (new e).number in omega (arith, i, lt)) ]

  pub is_new : (among name (names_of l.each) ≡ true → m ≡ l) → (h : OpenDataset D) → slice_get m.each n ≡ Some h → length l.each ≤ n → among name (names_of l.each) ≡ false
  is_new same h at le = elim (true_or_false (among name (names_of l.each))) as (λ _. among name (names_of l.each) ≡ false) [
    | inl e ↦ absurd (let lt = inside l.each n h (ap (λ (x : OpenDatasets D). slice_get x.each n) (sym (same e)) ∙ at) in omega (arith, lt, le))
    | inr e ↦ e
  ]

  -- the dataset that was opened has its pass
  module _ (o : Opens has n name l m before after) where
    pub opened_at : slice_get m.each n ≡ Some o.held
    opened_at = Rattle.std.proofs.Common.ap₂ slice_get o.adds.each o.number ∙ at_end l.each o.held

    pub opened_pass : IsSome o.held.pass
    opened_pass = subst IsSome (sym o.opened.pass) refl

    pub opened_few : AreOpen m → length l.each < 2048
    opened_few a = let f = a.few in let e = ap length o.adds.each ∙ length-append l.each (o.held ∷ []) in omega (arith, f, e)

-- a dataset that may be opened isn't one too many
pub few_new : {D : Type 0} (ds : List (List ℕ)) (name : List ℕ) (hs : List (OpenDataset D)) → AreMet ds (names_of hs) → length hs < 2048 → is_too_many ds name ≡ false
few_new {D = D} ds name hs met lt = not_too_many_few ds name (let c = met.count in let m = length-map hs (λ (h : OpenDataset D). h.name) in omega (arith, lt, c, m))

pub few_again : {D : Type 0} (ds : List (List ℕ)) (name : List ℕ) (hs : List (OpenDataset D)) → AreMet ds (names_of hs) → among name (names_of hs) ≡ true → is_too_many ds name ≡ false
few_again ds name hs met there = not_too_many_open ds name (met.among_is name ∙ there)

pub some_of : {A : Type 0} (o : Option A) → (o ≡ None → true ≡ false) → IsSome o
some_of None f = absurd (let e = f refl in cc e)
some_of (Some x) f = refl

pub not_true : (b : Bool) → (b ≡ true → ⊥) → b ≡ false
not_true true f = absurd (f refl)
not_true false f = refl

-- a pass that is handed out changes no text
pub seat_names : {D : Type 0} (n : ℕ) (m k : OpenDatasets D) (P Q : OpenDataset D → OpenDataset D → Type 0) → Changes n m k (λ h g. P h g × Q h g × (g ≡ record h { pass = None })) → names_of k.each ≡ names_of m.each
seat_names {D = D} n m k P Q ch = ap names_of ch.is ∙ names_set m.each n ch.before ch.after ch.was (ap (λ (h : OpenDataset D). h.name) ch.how.2)

module _ {H X Y E : Type 0} where
  pub same_more : (js ks ls : List (Job (Writing H) (Pass X Y) E)) → Each (λ i. IsSameJob) js ks → Each (λ i. HasOneMore) ks ls → Each (λ i. HasOneMore) js ls
  same_more js ks ls a b = record {
    long = b.long ∙ a.long;
    at = λ i j l j_at l_at.
        let k = each_back HasOneMore ks ls i l b l_at in
        let s = a.at i j k.0 j_at k.1 in
        record { desks = k.2.desks ∙ ap (λ (ds : List (Option (Desk (Writing H) (Pass X Y)))). ds ++ None ∷ []) s.desks; halt = k.2.halt ∙ s.halt };
  }
