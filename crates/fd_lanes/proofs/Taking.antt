-- Jobs that are taken in one by one.
use Rattle.std.proofs.Common.{◌≡◌, ◌<◌, ◌∙◌, ℕ, List, [], ◌∷◌, ◌++◌, All, length, length-append, ap, refl, subst, sym, append_assoc, arith}
use mathlib.Core.List.{IsPrefix, append-nil}
use Rattle.std.proofs.lemmas.List.{length-map}
use Rattle.std.proofs.lemmas.List.Elements.{All-head, All-tail}
use Rattle.fd_turn.specs.declared.board.Pass.{Pass}
use Rattle.fd_turn.specs.declared.view.Lock.TheVariants.{Free}
use Rattle.fd_turn.specs.Views.{View, merger}
use Rattle.fd_turn.specs.Passes.{BoardId, view, IsOf}
use Rattle.fd_archiver.specs.Writing.{Writing}
use Rattle.fd_retriever.specs.Kept.{Kept}
use Rattle.fd_lanes.specs.declared.lane.Job.{Job}
use Rattle.fd_lanes.specs.declared.end.End.{End}
use Rattle.fd_lanes.specs.Jobs.{TookIn, archivers_of, ends_of}
use Rattle.fd_lanes.proofs.Crews.{one_job_more, took_more, took_none}

pub nothing_left : {X : Type 0} (xs : List X) → length xs ≡ 0 → xs ≡ []
nothing_left [] is = refl
nothing_left (x ∷ xs) is = absurd (omega (arith, is))

module _ {F H X Y : Type 0} where
  -- its pass is of this board, and free
  abbrev pub IsBack : BoardId → Job (Writing H) (Pass X Y) (List Kept) (End F) → Type 0
  IsBack z j = IsOf z j.pass × ((view j.pass).lock ≡ Free)

  -- Of all these jobs those that are left weren't taken in yet. The archivers of the others are these, and their ends.
  pub record IsHalfTaken (v w : View) (all left : List (Job (Writing H) (Pass X Y) (List Kept) (End F))) (xs : List (Writing H)) (es : List (List (End F))) : Type 0 where
    pub done : List (Job (Writing H) (Pass X Y) (List Kept) (End F))
    pub all_is : all ≡ done ++ left
    pub took : TookIn v w done
    pub archivers : archivers_of done ≡ xs
    pub endings : ends_of done ≡ es

  pub half_none : (v : View) (all left : List (Job (Writing H) (Pass X Y) (List Kept) (End F))) (xs : List (Writing H)) (es : List (List (End F))) → v.lock ≡ Free → left ≡ all → xs ≡ [] → es ≡ [] → IsHalfTaken v v all left xs es
  half_none v all left xs es free same a e = record { done = []; all_is = sym same; took = took_none F H X Y v free; archivers = sym a; endings = sym e }

  pub half_more : (v w w' : View) (all left rest : List (Job (Writing H) (Pass X Y) (List Kept) (End F))) (j : Job (Writing H) (Pass X Y) (List Kept) (End F)) (xs xs' : List (Writing H)) (es es' : List (List (End F)))
      → IsHalfTaken v w all left xs es → left ≡ j ∷ rest → w' ≡ merger w (view j.pass) → IsPrefix w.history w'.history → IsPrefix (view j.pass).history w'.history
      → xs' ≡ xs ++ j.archiver ∷ [] → es' ≡ es ++ j.ends.items ∷ [] → IsHalfTaken v w' all rest xs' es'
  half_more v w w' all left rest j xs xs' es es' h first is seen its a e = record {
    done = h.done ++ j ∷ [];
    all_is = h.all_is ∙ (ap (λ (js : List (Job (Writing H) (Pass X Y) (List Kept) (End F))). h.done ++ js) first ∙ sym (append_assoc h.done (j ∷ []) rest));
    took = took_more F H X Y v w w' h.done j h.took is seen its;
    archivers = one_job_more (λ (k : Job (Writing H) (Pass X Y) (List Kept) (End F)). k.archiver) h.done (h.done ++ j ∷ []) xs j j.archiver h.archivers refl refl ∙ sym a;
    endings = one_job_more (λ (k : Job (Writing H) (Pass X Y) (List Kept) (End F)). k.ends.items) h.done (h.done ++ j ∷ []) es j j.ends.items h.endings refl refl ∙ sym e;
  }

  pub half_end : (v w : View) (all left : List (Job (Writing H) (Pass X Y) (List Kept) (End F))) (xs : List (Writing H)) (es : List (List (End F))) → IsHalfTaken v w all left xs es → left ≡ [] → TookIn v w all × (xs ≡ archivers_of all) × (es ≡ ends_of all)
  half_end v w all left xs es h none =
      let whole : all ≡ h.done = h.all_is ∙ (ap (λ (js : List (Job (Writing H) (Pass X Y) (List Kept) (End F))). h.done ++ js) none ∙ append-nil h.done) in (
        subst (TookIn v w) (sym whole) h.took,
        sym h.archivers ∙ ap (λ (js : List (Job (Writing H) (Pass X Y) (List Kept) (End F))). archivers_of js) (sym whole),
        sym h.endings ∙ ap (λ (js : List (Job (Writing H) (Pass X Y) (List Kept) (End F))). ends_of js) (sym whole),
      )

  -- there is room for one more of each
  pub room_for : (v w : View) (all left rest : List (Job (Writing H) (Pass X Y) (List Kept) (End F))) (j : Job (Writing H) (Pass X Y) (List Kept) (End F)) (xs : List (Writing H)) (es : List (List (End F))) → IsHalfTaken v w all left xs es → left ≡ j ∷ rest → (length xs < length all) × (length es < length all)
  room_for v w all left rest j xs es h first =
      let a = length-map h.done (λ (k : Job (Writing H) (Pass X Y) (List Kept) (End F)). k.archiver) in
      let b = length-map h.done (λ (k : Job (Writing H) (Pass X Y) (List Kept) (End F)). k.ends.items) in
      let x = ap length h.archivers in
      let y = ap length h.endings in
      let whole = ap length (h.all_is ∙ ap (λ (js : List (Job (Writing H) (Pass X Y) (List Kept) (End F))). h.done ++ js) first) in
      let long = length-append h.done (j ∷ rest) in
      (omega arith, omega arith)

  pub head_back : (z : BoardId) (left rest : List (Job (Writing H) (Pass X Y) (List Kept) (End F))) (j : Job (Writing H) (Pass X Y) (List Kept) (End F)) → left ≡ j ∷ rest → All (IsBack z) left → IsBack z j
  head_back z left rest j first all = All-head (IsBack z) j rest (subst (All (IsBack z)) first all)

  pub rest_back : (z : BoardId) (left rest : List (Job (Writing H) (Pass X Y) (List Kept) (End F))) (j : Job (Writing H) (Pass X Y) (List Kept) (End F)) → left ≡ j ∷ rest → All (IsBack z) left → All (IsBack z) rest
  rest_back z left rest j first all = All-tail (IsBack z) j rest (subst (All (IsBack z)) first all)
