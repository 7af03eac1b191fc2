-- What all workers have of one dataset.
use Rattle.std.proofs.Common.{◌≡◌, ℕ, zero, suc, ◌+◌, ◌<◌, ◌≤◌, List, [], ◌∷◌, length, slice_get, All, Option, Some, None, refl, sym, ap, ap₂, subst, ◌∙◌, arith}
use Rattle.std.proofs.lemmas.List.Elements.{All-cons, All-head, All-nil, All-tail}
use Rattle.fd_disk.specs.Folders.{Contents, Holdings}
use Rattle.fd_numbers.specs.Numbers.{Differ}
use Rattle.fd_turn.specs.declared.board.Pass.{Pass}
use Rattle.fd_turn.specs.Passes.{BoardId}
use Rattle.fd_archiver.specs.Writing.{Writing}
use Rattle.fd_library.specs.Open.{OpenDataset}
use Rattle.fd_shares.specs.declared.round.Desk.{Desk}
use Rattle.fd_shares.specs.declared.round.Job.{Job}
use Rattle.fd_bulk.specs.Crewing.{AllBegun, HasBegun, IsLent, desks_at, with_desk, writers_of}
use Rattle.fd_bulk.specs.Halting.{Each}
use Rattle.fd_shares.specs.Sharing.{SameMet, StaysDesk}
use Rattle.fd_bulk.proofs.Matching.{matched_map}

pub each_behind : {A : Type 0} (R : A → A → Type 0) (x y : A) (xs ys : List A) → Each (λ i. R) (x ∷ xs) (y ∷ ys) → Each (λ i. R) xs ys
each_behind R x y xs ys e = record { long = (let l = e.long in omega (arith, l)); at = λ i a b p q. e.at (suc i) a b p q }

module _ {H X Y : Type 0} where
  -- the same archivers and parts
  abbrev pub AllStay : List (Desk (Writing H) (Pass X Y)) → List (Desk (Writing H) (Pass X Y)) → Type 0
  AllStay [] [] = Unit {0}
  AllStay [] (e ∷ es) = ⊥
  AllStay (d ∷ ds) [] = ⊥
  AllStay (d ∷ ds) (e ∷ es) = StaysDesk d e × AllStay ds es

  stay_length : (ds es : List (Desk (Writing H) (Pass X Y))) → AllStay ds es → length es ≡ length ds
  stay_length [] [] a = refl
  stay_length [] (e ∷ es) a = absurd a
  stay_length (d ∷ ds) [] a = absurd a
  stay_length (d ∷ ds) (e ∷ es) a = ap suc (stay_length ds es a.1)

  stay_writers : (ds es : List (Desk (Writing H) (Pass X Y))) → AllStay ds es → writers_of es ≡ writers_of ds
  stay_writers [] [] a = refl
  stay_writers [] (e ∷ es) a = absurd a
  stay_writers (d ∷ ds) [] a = absurd a
  stay_writers (d ∷ ds) (e ∷ es) a = ap₂ (λ (n : ℕ) (ns : List ℕ). n ∷ ns) a.0.writer (stay_writers ds es a.1)

  module _ {D : Type 0} (has : D → Option Contents) where
    stay_lent : (h : OpenDataset D) (ds es : List (Desk (Writing H) (Pass X Y))) → AllStay ds es → All (IsLent has h) ds → All (IsLent has h) es
    stay_lent h [] [] a all = All-nil (IsLent has h)
    stay_lent h [] (e ∷ es) a all = absurd a
    stay_lent h (d ∷ ds) [] a all = absurd a
    stay_lent h (d ∷ ds) (e ∷ es) a all =
        let one : IsLent has h d = All-head (IsLent has h) d ds all in
        All-cons (IsLent has h) e es (record {
          part = a.0.parts ∙ one.part;
          opening = a.0.opening ∙ one.opening;
          told = a.0.told ∙ one.told;
          later = subst (λ (n : ℕ). h.last < n + h.given) (sym a.0.writer) one.later;
          bounded = subst (λ (n : ℕ). n ≤ h.last) (sym a.0.writer) one.bounded;
        }) (stay_lent h ds es a.1 (All-tail (IsLent has h) d ds all))

    pub begun_stays : (start : Option Holdings) (lost : ℕ) (b : BoardId) (h : OpenDataset D) (p : Pass X Y) (ds es : List (Desk (Writing H) (Pass X Y))) → AllStay ds es → HasBegun has start lost b h p ds → HasBegun has start lost b h p es
    begun_stays start lost b h p ds es a r = record {
      own = r.own;
      out = r.out;
      free = r.free;
      subject = r.subject;
      seen = r.seen;
      opening = r.opening;
      none = r.none;
      sure = r.sure;
      parts = r.parts;
      lent = stay_length ds es a ∙ r.lent;
      given = r.given;
      earlier = r.earlier;
      each = stay_lent h ds es a r.each;
      differ = subst Differ (sym (stay_writers ds es a)) r.differ;
      holds = r.holds;
      undamaged = r.undamaged;
    }

  -- ---- by the workers

  desk_both : (ds es : List (Option (Desk (Writing H) (Pass X Y)))) (n : ℕ) (rest more : List (Desk (Writing H) (Pass X Y))) → SameMet ds es → AllStay rest more → AllStay (with_desk (slice_get ds n) rest) (with_desk (slice_get es n) more)
  desk_both [] [] n rest more same a = a
  desk_both [] (e ∷ es) n rest more same a = absurd same
  desk_both (d ∷ ds) [] n rest more same a = absurd same
  desk_both (None ∷ ds) (None ∷ es) zero rest more same a = a
  desk_both (None ∷ ds) (Some e ∷ es) zero rest more same a = absurd same.0
  desk_both (Some d ∷ ds) (None ∷ es) zero rest more same a = absurd same.0
  desk_both (Some d ∷ ds) (Some e ∷ es) zero rest more same a = (same.0, a)
  desk_both (d ∷ ds) (e ∷ es) (suc n) rest more same a = desk_both ds es n rest more same.1 a

  module _ {E : Type 0} where
    -- the workers went on
    abbrev pub IsOn : Job (Writing H) (Pass X Y) E → Job (Writing H) (Pass X Y) E → Type 0
    IsOn j k = SameMet j.desks.items k.desks.items

    pub desks_stay : (n : ℕ) (js ks : List (Job (Writing H) (Pass X Y) E)) → Each (λ i. IsOn) js ks → AllStay (desks_at n js) (desks_at n ks)
    desks_stay n [] [] e = tt
    desks_stay n [] (k ∷ ks) e = absurd (let l = e.long in omega (arith, l))
    desks_stay n (j ∷ js) [] e = absurd (let l = e.long in omega (arith, l))
    desks_stay n (j ∷ js) (k ∷ ks) e = desk_both j.desks.items k.desks.items n (desks_at n js) (desks_at n ks) (e.at 0 j k refl refl) (desks_stay n js ks (each_behind IsOn j k js ks e))

    pub all_begun_on : {D : Type 0} (has : D → Option Contents) (start : Option Holdings) (lost : ℕ) (js ks : List (Job (Writing H) (Pass X Y) E)) (bs : List BoardId) (hs : List (OpenDataset D)) (ps : List (Pass X Y)) → Each (λ i. IsOn) js ks → AllBegun has start lost js bs hs ps → AllBegun has start lost ks bs hs ps
    all_begun_on has start lost js ks bs hs ps e all =
        matched_map (λ n b h p. HasBegun has start lost b h p (desks_at n js)) (λ n b h p. HasBegun has start lost b h p (desks_at n ks)) 0 bs hs ps
        (λ n b h p r. begun_stays has start lost b h p (desks_at n js) (desks_at n ks) (desks_stay n js ks e) r) all
