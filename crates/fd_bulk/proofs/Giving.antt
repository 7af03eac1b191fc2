-- The workers give back what they have of the last dataset, one after the other, and the dataset's pass comes back.
use Rattle.std.proofs.Common.{◌≡◌, ◌⊎◌, ◌<◌, ◌≤◌, ◌+◌, ℕ, List, [], ◌∷◌, ◌++◌, length, take, slice_get, slice_set, Option, Some, None, IfSome, refl, sym, ap, ap₂, subst, ◌∙◌, arith}
use mathlib.Core.List.{IsPrefix}
use Rattle.fd_disk.specs.declared.folders.FileName.{FileName}
use Rattle.fd_disk.specs.Folders.{Contents}
use Rattle.fd_turn.specs.declared.board.Pass.{Pass}
use Rattle.fd_turn.specs.declared.view.Lock.TheVariants.{Free}
use Rattle.fd_turn.specs.Passes.{BoardId, IsSame, view}
use Rattle.fd_turn.specs.Views.{View, all_parts}
use Rattle.fd_dataset.specs.Causes.{AreFewer}
use Rattle.fd_archiver.specs.Writing.{Writing}
use Rattle.fd_library.specs.Calls.{Changes}
use Rattle.fd_library.specs.Open.{IsWhole, OpenDataset, OpenDatasets, seat_of}
use Rattle.fd_shares.specs.declared.round.Desk.{Desk}
use Rattle.fd_shares.specs.declared.round.Job.{Job}
use Rattle.fd_bulk.specs.Ending.{CanEndOne, CanGive, CanGiveAll, CanHand, EndedAs, Hands, HandsAll, column, desk_of}
use Rattle.fd_bulk.proofs.Handed.{Took, changed, changes_none, changes_on, column_next, hands_push, took}
use Rattle.fd_bulk.proofs.Joined.{at_end}
use Rattle.fd_shares.proofs.Shares.{take_all}

-- ---- the last of a worker's datasets

pub last_front : {A : Type 0} (xs ys : List A) (x : A) (n : ℕ) → xs ≡ ys ++ x ∷ [] → length xs ≡ n + 1 → (ys ≡ take n xs) × (slice_get xs n ≡ Some x)
last_front {A = A} xs ys x n is long =
    let here : n ≡ length ys = (let e = ap length is in let f = one_more ys in omega (arith, e, f, long)) in
    (sym (ap₂ take here is ∙ front ys), ap₂ slice_get is here ∙ at_end ys x)
  where
    one_more : (zs : List A) → length (zs ++ x ∷ []) ≡ length zs + 1
    one_more zs = Rattle.std.proofs.Common.length-append zs (x ∷ [])

    front : (zs : List A) → take (length zs) (zs ++ x ∷ []) ≡ zs
    front [] = refl
    front (z ∷ zs) = ap (λ ws. z ∷ ws) (front zs)

module _ {D H X Y E : Type 0} (has : D → Option Contents) (faults : D → ℕ) (kept : H → Option (FileName → Option (List ℕ))) (n : ℕ) where
  pub hand_first : (l : OpenDatasets D) (h : OpenDataset D) (v : View) (js : List (Job (Writing H) (Pass X Y) E)) → slice_get l.each n ≡ Some h → Changes n l l (λ k g. HandsAll has faults kept (column n (take 0 js)) k g v v)
  hand_first l h v [] at = changes_none n l h _ at (refl, refl)
  hand_first l h v (j ∷ js) at = changes_none n l h _ at (refl, refl)

  pub hand_next : (l m k : OpenDatasets D) (js : List (Job (Writing H) (Pass X Y) E)) (w : ℕ) (j : Job (Writing H) (Pass X Y) E) (v u x : View) → slice_get js w ≡ Some j → Changes n l m (λ h g. HandsAll has faults kept (column n (take w js)) h g v u) → Changes n m k (λ h g. Hands has faults kept (desk_of n j) h g u x)
      → Changes n l k (λ h g. HandsAll has faults kept (column n (take (w + 1) js)) h g v x)
  hand_next l m k js w j v u x at a b = changes_on n l m k _ _ _ a b (λ h g f all one.
      subst (λ (ds : List (Option (Desk (Writing H) (Pass X Y)))). HandsAll has faults kept ds h f v x) (sym (column_next n js w j at)) (hands_push has faults kept (column n (take w js)) (desk_of n j) h g f v u x all one))

  pub hand_last : (l m : OpenDatasets D) (js : List (Job (Writing H) (Pass X Y) E)) (w : ℕ) (v u : View) → length js ≤ w → Changes n l m (λ h g. HandsAll has faults kept (column n (take w js)) h g v u) → Changes n l m (λ h g. HandsAll has faults kept (column n js) h g v u)
  hand_last l m js w v u le a = subst (λ (xs : List (Job (Writing H) (Pass X Y) E)). Changes n l m (λ h g. HandsAll has faults kept (column n xs) h g v u)) (take_all js w le) a

  pub give_one : (l m : OpenDatasets D) (p q : Pass X Y) (js : List (Job (Writing H) (Pass X Y) E)) (ds : List (Option (Desk (Writing H) (Pass X Y)))) (w : ℕ) (j : Job (Writing H) (Pass X Y) E) → CanGiveAll n l p js → Changes n l m (λ h g. HandsAll has faults kept ds h g (view p) (view q)) → IsSame p q → slice_get js w ≡ Some j → CanGive n m q j
  give_one l m p q js ds w j can ch same at =
      let t = took has faults kept ds ch.before ch.after (view p) (view q) ch.how in
      let one : ch.before ≡ can.held = (let a = ch.was in let b = can.held_at in cc (a, b)) in
      let name : ch.after.name ≡ can.held.name = ap (λ (h : OpenDataset D). h.name) t.rest ∙ ap (λ (h : OpenDataset D). h.name) one in
      let its = can.each w j at in
      record {
        board = can.board;
        held = ch.after;
        board_at = ap (λ (bs : List BoardId). slice_get bs n) ch.boards ∙ can.board_at;
        held_at = changed n l m _ ch;
        own = same ∙ can.own;
        free = t.lock ∙ can.free;
        long = its.0;
        can = subst (λ (x : List ℕ). CanHand can.board x (desk_of n j)) (sym name) its.1;
      }

  -- ---- and its pass

  module _ (l m : OpenDatasets D) (p : Pass X Y) (js : List (Job (Writing H) (Pass X Y) E)) (v : View) (can : CanEndOne n l p js) (ch : Changes n l m (λ h g. HandsAll has faults kept (column n js) h g (view p) v)) where
    t : Took (column n js) ch.before ch.after (view p) v
    t = took has faults kept (column n js) ch.before ch.after (view p) v ch.how

    one : ch.before ≡ can.give.held
    one = let a = ch.was in let b = can.give.held_at in cc (a, b)

    pub mid_at : slice_get m.each n ≡ Some ch.after
    mid_at = changed n l m _ ch

    pub mid_none : ch.after.pass ≡ None
    mid_none = ap (λ (h : OpenDataset D). h.pass) t.rest ∙ ap (λ (h : OpenDataset D). h.pass) one ∙ can.out

    pub mid_parts : v.parts ≡ all_parts
    mid_parts = t.parts ∙ can.parts

    pub mid_free : v.lock ≡ Free
    mid_free = t.lock ∙ can.give.free

    pub mid_subject : v.subject ≡ ch.after.name
    mid_subject = t.subject ∙ can.subject ∙ sym (ap (λ (h : OpenDataset D). h.name) t.rest ∙ ap (λ (h : OpenDataset D). h.name) one)

    module _ (q : Pass X Y) (rest : view q ≡ record v { history = (view q).history; doubts = (view q).doubts }) where
      pub mid_whole : IsWhole ch.after.name (seat_of q)
      mid_whole = record {
        free = ap (λ (u : View). u.lock) rest ∙ mid_free;
        parts = ap (λ (u : View). u.parts) rest ∙ mid_parts;
        subject = ap (λ (u : View). u.subject) rest ∙ mid_subject;
      }

      pub ended_one : (k : OpenDatasets D) → IsPrefix v.history (view q).history → (view q).opening + (view q).amount ≡ length (view q).history → AreFewer v.doubts (view q).doubts → length (view q).history ≤ 65535 → Changes n m k (λ h g. g ≡ record h { pass = Some (seat_of q) }) → Changes n l k (EndedAs has faults kept (view p) (column n js))
      ended_one k seen count doubts few last = changes_on n l m k _ _ _ ch last (λ h g f all is. record {
        mid = g;
        mid_view = v;
        handed = all;
        seat = seat_of q;
        rest = is;
        seen = seen;
        count = count;
        doubts = doubts;
        few = few;
        view_is = rest;
      })
