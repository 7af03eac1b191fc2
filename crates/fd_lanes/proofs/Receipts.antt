-- The receipts of all lanes have different numbers.
use Rattle.std.proofs.Common.{◌≡◌, ◌<◌, ◌≤◌, ◌+◌, ◌-◌, ℕ, zero, suc, List, [], ◌∷◌, ◌++◌, map, length, sym, refl, ap, ◌∙◌, subst, arith, length-append, Option, Some, None, ◌⊎◌, inl, inr}
use Rattle.std.specs.Prelude.{slice_get}
use mathlib.Core.List.{map-append}
use Rattle.fd_entries.specs.declared.batch.Listing.{Listing}
use Rattle.fd_entries.specs.declared.batch.Pair.{Pair}
use Rattle.fd_lanes.specs.Tables.{StandsFor}
use Rattle.fd_numbers.specs.Numbers.{IsIn, Differ}
use Rattle.fd_lanes.specs.Acts.{Act, Put, Flush, Get}
use Rattle.fd_lanes.specs.declared.end.End.{End}
use Rattle.fd_lanes.specs.declared.end.End.TheVariants.{PutOk, PutUnlisted, Fault, Listed, Nothing, TableFull, NoMemory, Damaged, Got}
use Rattle.fd_lanes.specs.Walks.{Stand, beginning, after, receipt, receipts, walked, EndsWell, Walks}
use Rattle.fd_lanes.specs.Legal.{IsListedIn, IsFullIn, IsAnsweredIn, IsDamagedIn, WalksIn, all_receipts, AllWalkIn}
use Rattle.fd_lanes.proofs.Walking.{in_left, in_right, in_either, differ_both}

abbrev pub number : ℕ × List Pair → ℕ
number r = r.0

abbrev pub numbers_in : List (ℕ × List Pair) → List ℕ
numbers_in rs = map (λ r. r.0) rs

pub number_in : (rs : List (ℕ × List Pair)) (z : ℕ) → IsIn (numbers_in rs) z → (b : List Pair) × IsIn rs (z, b)
number_in [] z i = absurd i
number_in (r ∷ rs) z (inl e) = (r.1, inl (λ j. (e j, r.1)))
number_in (r ∷ rs) z (inr i) = let p = number_in rs z i in (p.0, inr p.1)

pub in_numbers : (rs : List (ℕ × List Pair)) (z : ℕ) (b : List Pair) → IsIn rs (z, b) → IsIn (numbers_in rs) z
in_numbers [] z b i = absurd i
in_numbers (r ∷ rs) z b (inl e) = inl (ap number e)
in_numbers (r ∷ rs) z b (inr i) = inr (in_numbers rs z b i)

module _ (F : Type 0) (P : List Pair → ℕ → Type 0) (Q : Type 0) (R : ℕ → List (List ℕ) → List (Option (List ℕ)) → Type 0) (D : Type 0) where
  pub last_up : (s : Stand) (step : Act) (e : End F) → EndsWell P Q R D s step e → s.last ≤ (after s step e).last
  last_up s (Put p) PutOk h = omega arith
  last_up s (Put p) PutUnlisted h = omega arith
  last_up s (Put p) (Fault f) h = omega arith
  last_up s (Put p) (Listed n) h = absurd h
  last_up s (Put p) Nothing h = absurd h
  last_up s (Put p) TableFull h = absurd h
  last_up s (Put p) NoMemory h = absurd h
  last_up s (Put p) (Damaged d) h = absurd h
  last_up s (Put p) (Got n a) h = absurd h
  last_up s Flush PutOk h = absurd h
  last_up s Flush PutUnlisted h = absurd h
  last_up s Flush (Fault f) h = omega arith
  last_up s Flush (Listed n) h = let lt = h.1 in omega arith
  last_up s Flush Nothing h = omega arith
  last_up s Flush TableFull h = omega arith
  last_up s Flush NoMemory h = omega arith
  last_up s Flush (Damaged d) h = absurd h
  last_up s Flush (Got n a) h = absurd h
  last_up s (Get keys) PutOk h = absurd h
  last_up s (Get keys) PutUnlisted h = absurd h
  last_up s (Get keys) (Fault f) h = omega arith
  last_up s (Get keys) (Listed n) h = absurd h
  last_up s (Get keys) Nothing h = absurd h
  last_up s (Get keys) TableFull h = absurd h
  last_up s (Get keys) NoMemory h = omega arith
  last_up s (Get keys) (Damaged d) h = omega arith
  last_up s (Get keys) (Got n a) h = h.0

  -- a receipt is that of a listed flush
  receipt_says : (s : Stand) (step : Act) (e : End F) (r : ℕ × List Pair) → EndsWell P Q R D s step e → IsIn (receipt s e) r → (s.last < r.0) × ((after s step e).last ≡ r.0) × P r.1 r.0
  receipt_says s (Put p) (Listed n) r h i = absurd h
  receipt_says s (Get keys) (Listed n) r h i = absurd h
  receipt_says s Flush (Listed n) r h (inl is) = subst (λ (q : ℕ × List Pair). (s.last < q.0) × (n ≡ q.0) × P q.1 q.0) is (h.1, refl, h.2)
  receipt_says s Flush (Listed n) r h (inr i) = absurd i
  receipt_says s step PutOk r h i = absurd i
  receipt_says s step PutUnlisted r h i = absurd i
  receipt_says s step (Fault f) r h i = absurd i
  receipt_says s step Nothing r h i = absurd i
  receipt_says s step TableFull r h i = absurd i
  receipt_says s step NoMemory r h i = absurd i
  receipt_says s step (Damaged d) r h i = absurd i
  receipt_says s step (Got n a) r h i = absurd i

  receipt_differs : (s : Stand) (e : End F) → Differ (numbers_in (receipt s e))
  receipt_differs s (Listed n) = ((λ i. i), tt)
  receipt_differs s PutOk = tt
  receipt_differs s PutUnlisted = tt
  receipt_differs s (Fault f) = tt
  receipt_differs s Nothing = tt
  receipt_differs s TableFull = tt
  receipt_differs s NoMemory = tt
  receipt_differs s (Damaged d) = tt
  receipt_differs s (Got n a) = tt

  pub receipts_say : (s : Stand) (steps : List Act) (es : List (End F)) (r : ℕ × List Pair) → Walks P Q R D s steps es → IsIn (receipts s steps es) r → (s.last < r.0) × P r.1 r.0
  receipts_say s [] es r w i = absurd i
  receipts_say s (t ∷ steps) [] r w i = absurd i
  receipts_say s (t ∷ steps) (x ∷ es) r w i = go (λ j. receipts_say (after s t x) steps es r w.1 j) (in_either (receipt s x) (receipts (after s t x) steps es) r i)
    where
      go : (IsIn (receipts (after s t x) steps es) r → ((after s t x).last < r.0) × P r.1 r.0) → IsIn (receipt s x) r ⊎ IsIn (receipts (after s t x) steps es) r → (s.last < r.0) × P r.1 r.0
      go rest (inl j) = let h = receipt_says s t x r w.0 j in (h.0, h.2)
      go rest (inr j) = let h = rest j in let up = last_up s t x w.0 in let lt = h.0 in (omega arith, h.1)

  pub lane_differs : (s : Stand) (steps : List Act) (es : List (End F)) → Walks P Q R D s steps es → Differ (numbers_in (receipts s steps es))
  lane_differs s [] es w = tt
  lane_differs s (t ∷ steps) [] w = tt
  lane_differs s (t ∷ steps) (x ∷ es) w =
      subst Differ (sym (map-append number (receipt s x) (receipts (after s t x) steps es)))
      (differ_both (numbers_in (receipt s x)) (numbers_in (receipts (after s t x) steps es)) (receipt_differs s x) (lane_differs (after s t x) steps es w.1)
      (λ z i j.
      let p = number_in (receipt s x) z i in
      let q = number_in (receipts (after s t x) steps es) z j in
      let a = receipt_says s t x (z, p.0) w.0 p.1 in
      let b = receipts_say (after s t x) steps es (z, q.0) w.1 q.1 in
      let a' = a.1 in let b' = b.0 in
      absurd (omega arith)))

module _ (F : Type 0) (hs : List Listing) (b : ℕ) where
  -- what a receipt of some lane says
  pub record Says (writers : List ℕ) (r : ℕ × List Pair) : Type 0 where
    pub new : b < r.0
    pub inside : r.0 ≤ length hs
    pub listing : Listing
    pub at : slice_get hs (r.0 - 1) ≡ Some listing
    pub stands : StandsFor listing r.1
    pub by : IsIn writers listing.entry.writer

  pub all_say : (ws : List ℕ) (script : List (List Act)) (ends : List (List (End F))) (r : ℕ × List Pair) → AllWalkIn hs b ws script ends → IsIn (all_receipts b script ends) r → Says ws r
  all_say [] [] [] r w i = absurd i
  all_say [] [] (es ∷ ends) r w i = absurd w
  all_say [] (steps ∷ script) ends r w i = absurd w
  all_say (v ∷ ws) [] ends r w i = absurd w
  all_say (v ∷ ws) (steps ∷ script) [] r w i = absurd w
  all_say (v ∷ ws) (steps ∷ script) (es ∷ ends) r w i = go (λ j. all_say ws script ends r w.1 j) (in_either (receipts (beginning b) steps es) (all_receipts b script ends) r i)
    where
      go : (IsIn (all_receipts b script ends) r → Says ws r) → IsIn (receipts (beginning b) steps es) r ⊎ IsIn (all_receipts b script ends) r → Says (v ∷ ws) r
      go rest (inl j) =
          let h = receipts_say F (IsListedIn hs v) (IsFullIn hs v) (IsAnsweredIn hs v) (IsDamagedIn hs v) (beginning b) steps es r w.0 j in
          let l = h.1 in record { new = h.0; inside = l.inside; listing = l.listing; at = l.at; stands = l.stands; by = inl (sym l.by) }
      go rest (inr j) = let h = rest j in record { new = h.new; inside = h.inside; listing = h.listing; at = h.at; stands = h.stands; by = inr h.by }

  pub all_differ : (ws : List ℕ) (script : List (List Act)) (ends : List (List (End F))) → Differ ws → AllWalkIn hs b ws script ends → Differ (numbers_in (all_receipts b script ends))
  all_differ [] [] [] d w = tt
  all_differ [] [] (es ∷ ends) d w = absurd w
  all_differ [] (steps ∷ script) ends d w = absurd w
  all_differ (v ∷ ws) [] ends d w = absurd w
  all_differ (v ∷ ws) (steps ∷ script) [] d w = absurd w
  all_differ (v ∷ ws) (steps ∷ script) (es ∷ ends) d w =
      subst Differ (sym (map-append number (receipts (beginning b) steps es) (all_receipts b script ends)))
      (differ_both (numbers_in (receipts (beginning b) steps es)) (numbers_in (all_receipts b script ends)) (lane_differs F (IsListedIn hs v) (IsFullIn hs v) (IsAnsweredIn hs v) (IsDamagedIn hs v) (beginning b) steps es w.0) (all_differ ws script ends d.1 w.1)
      (λ z i j.
      let p = number_in (receipts (beginning b) steps es) z i in
      let q = number_in (all_receipts b script ends) z j in
      let l = (receipts_say F (IsListedIn hs v) (IsFullIn hs v) (IsAnsweredIn hs v) (IsDamagedIn hs v) (beginning b) steps es (z, p.0) w.0 p.1).1 in
      let m = all_say ws script ends (z, q.0) w.1 q.1 in
      let one : l.listing ≡ m.listing = cc (l.at, m.at) in
      d.0 (subst (IsIn ws) (ap (λ (x : Listing). x.entry.writer) (sym one) ∙ l.by) m.by)))
