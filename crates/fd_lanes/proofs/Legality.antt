-- The ends of all lanes are legal.
use Rattle.std.proofs.Common.{◌≡◌, ◌<◌, ◌≤◌, ◌+◌, ◌-◌, ℕ, zero, suc, List, [], ◌∷◌, ◌++◌, map, take, drop, length, sym, refl, ap, ◌∙◌, subst, arith, length-append, Option, Some, None, ◌⊎◌, inl, inr}
use Rattle.std.specs.Prelude.{slice_get}
use mathlib.Core.Logic.{dite}
use native.Mathlib.Decide.{ℕ_discrete}
use Rattle.std.proofs.lemmas.List.{length-map}
use Rattle.fd_entries.specs.declared.batch.Listing.{Listing}
use Rattle.fd_entries.specs.declared.batch.Pair.{Pair}
use Rattle.fd_entries.specs.Batches.{of_batch}
use Rattle.fd_segment.specs.Held.{Alike}
use Rattle.fd_retriever.specs.Answers.{Tells}
use Rattle.fd_numbers.specs.Numbers.{IsIn, Differ}
use Rattle.fd_lanes.specs.Tables.{AlikeTables, StandsFor}
use Rattle.fd_lanes.specs.Acts.{Act, Put, Flush, Get}
use Rattle.fd_lanes.specs.declared.end.End.{End}
use Rattle.fd_lanes.specs.declared.end.End.TheVariants.{PutOk, PutUnlisted, Fault, Listed, Nothing, TableFull, NoMemory, Damaged, Got}
use Rattle.fd_lanes.specs.Walks.{Stand, EndsWell, after, beginning, receipts, Walks}
use Rattle.fd_lanes.specs.Legal.{IsListedIn, IsFullIn, IsAnsweredIn, IsDamagedIn, HasAt, AnswersAt, all_receipts, AllWalkIn, AllWalk, IsLegal, IsSound, AreSound, AllSound}
use Rattle.fd_numbers.proofs.Numbers.{all_of_them}
use Rattle.fd_lanes.proofs.Tables.{alike_from, alike_long, alike_take, answers_same, told_at, told_length, told_take}
use Rattle.fd_lanes.proofs.Walking.{in_left, in_right, walks_map, walks_map_receipts}
use Rattle.fd_lanes.proofs.Receipts.{numbers_in, number_in, in_numbers, Says, all_say, all_differ}

-- the batch that was listed at a number
abbrev pick : List (ℕ × List Pair) → ℕ → List Pair
pick [] z = []
pick (r ∷ rs) z = dite (ℕ_discrete r.0 z) (λ _. r.1) (λ _. pick rs z)

-- the batches at the n numbers after b
abbrev picks : List (ℕ × List Pair) → ℕ → ℕ → List (List Pair)
picks rs b zero = []
picks rs b (suc n) = pick rs (suc b) ∷ picks rs (suc b) n

picks_length : (rs : List (ℕ × List Pair)) (b n : ℕ) → length (picks rs b n) ≡ n
picks_length rs b zero = refl
picks_length rs b (suc n) = ap suc (picks_length rs (suc b) n)

picks_at : (rs : List (ℕ × List Pair)) (b n k : ℕ) → k < n → slice_get (picks rs b n) k ≡ Some (pick rs (suc b + k))
picks_at rs b zero k lt = absurd (omega arith)
picks_at rs b (suc n) zero lt = ap (λ (z : ℕ). Some (pick rs z)) (omega arith)
picks_at rs b (suc n) (suc k) lt = picks_at rs (suc b) n k (omega arith) ∙ ap (λ (z : ℕ). Some (pick rs z)) (omega arith)

picked : (r : ℕ × List Pair) (rs : List (ℕ × List Pair)) (z : ℕ) (d : Dec (r.0 ≡ z)) → r.0 ≡ z → dite d (λ _. r.1) (λ _. pick rs z) ≡ r.1
picked r rs z (yes p) e = refl
picked r rs z (no n) e = absurd (n e)

passed : (r : ℕ × List Pair) (rs : List (ℕ × List Pair)) (z : ℕ) (d : Dec (r.0 ≡ z)) → (r.0 ≡ z → ⊥) → dite d (λ _. r.1) (λ _. pick rs z) ≡ pick rs z
passed r rs z (yes p) n = absurd (n p)
passed r rs z (no m) n = refl

pick_is : (rs : List (ℕ × List Pair)) (z : ℕ) (p : List Pair) → Differ (numbers_in rs) → IsIn rs (z, p) → pick rs z ≡ p
pick_is [] z p d i = absurd i
pick_is (r ∷ rs) z p d (inl e) = picked r rs z (ℕ_discrete r.0 z) (ap (λ (q : ℕ × List Pair). q.0) e) ∙ ap (λ (q : ℕ × List Pair). q.1) e
pick_is (r ∷ rs) z p d (inr i) = passed r rs z (ℕ_discrete r.0 z) (λ e. d.0 (subst (IsIn (numbers_in rs)) (sym e) (in_numbers rs z p i))) ∙ pick_is rs z p d.1 i

slice_past : (xs ys : List (List Pair)) (k i : ℕ) → i ≡ length xs + k → slice_get (xs ++ ys) i ≡ slice_get ys k
slice_past [] ys k i e = ap (slice_get ys) (omega arith)
slice_past (x ∷ xs) ys k zero e = absurd (omega arith)
slice_past (x ∷ xs) ys k (suc i) e = slice_past xs ys k i (omega arith)

take_long : (n : ℕ) (xs : List (List Pair)) → n ≤ length xs → length (take n xs) ≡ n
take_long zero xs le = refl
take_long (suc n) [] le = absurd (omega arith)
take_long (suc n) (x ∷ xs) le = ap suc (take_long n xs (omega arith))

-- where each listing stands for a batch, none stands for none
untold : (hs : List Listing) (t : List (List Pair)) → Tells hs t → (i : ℕ) (l : Listing) → slice_get hs i ≡ Some l → l.batch ≡ None → ⊥
untold hs t tells i l at none = let p = told_at hs t i l tells at in cc (p.1, none)

module _ (F : Type 0) (hs : List Listing) (b : ℕ) (whole u : List (List Pair)) (tells : Tells hs whole) (few : length hs ≤ 65535) (same : AlikeTables whole u) where
  one_walk : (w : ℕ) (s : Stand) (steps : List Act) (es : List (End F)) → ((p : List Pair) (n : ℕ) → IsIn (receipts s steps es) (n, p) → HasAt u p n)
      → Walks (IsListedIn hs w) (IsFullIn hs w) (IsAnsweredIn hs w) (IsDamagedIn hs w) s steps es → Walks (HasAt u) (length u ≡ 65535) (AnswersAt u) ⊥ s steps es
  one_walk w s steps es has walks =
      let long = alike_long whole u same in let long' = told_length hs whole tells in
      walks_map_receipts F (IsListedIn hs w) (IsFullIn hs w) (IsAnsweredIn hs w) (IsDamagedIn hs w) (HasAt u) (length u ≡ 65535) (AnswersAt u) ⊥
      (λ (f : 65535 ≤ length hs). omega arith)
      (λ n keys answers a. let le = a.0 in (omega arith, a.1 (take n whole) (told_take n hs whole tells) ∙ answers_same (take n whole) (take n u) keys (alike_take n whole u same)))
      (λ (d : IsDamagedIn hs w). untold hs whole tells d.0 d.1 d.2 d.3)
      s steps es (λ p n i h. has p n i) walks

  all_walks : (ws : List ℕ) (script : List (List Act)) (ends : List (List (End F))) → ((p : List Pair) (n : ℕ) → IsIn (all_receipts b script ends) (n, p) → HasAt u p n) → AllWalkIn hs b ws script ends → AllWalk ⊥ u b script ends
  all_walks [] [] [] has w = tt
  all_walks [] [] (es ∷ ends) has w = absurd w
  all_walks [] (steps ∷ script) ends has w = absurd w
  all_walks (v ∷ ws) [] ends has w = absurd w
  all_walks (v ∷ ws) (steps ∷ script) [] has w = absurd w
  all_walks (v ∷ ws) (steps ∷ script) (es ∷ ends) has w = (
    one_walk v (beginning b) steps es (λ p n i. has p n (in_left (receipts (beginning b) steps es) (all_receipts b script ends) (n, p) i)) w.0,
    all_walks ws script ends (λ p n i. has p n (in_right (receipts (beginning b) steps es) (all_receipts b script ends) (n, p) i)) w.1,
  )

module _ (F : Type 0) (whole : List (List Pair)) where
  sound_end : (s : Stand) (a : Act) (e : End F) → EndsWell (HasAt whole) (length whole ≡ 65535) (AnswersAt whole) ⊥ s a e → IsSound e
  sound_end s (Put p) (Damaged d) h = h
  sound_end s Flush (Damaged d) h = h
  sound_end s (Get asked) (Damaged d) h = h
  sound_end s a PutOk h = tt
  sound_end s a PutUnlisted h = tt
  sound_end s a (Fault f) h = tt
  sound_end s a (Listed n) h = tt
  sound_end s a Nothing h = tt
  sound_end s a TableFull h = tt
  sound_end s a NoMemory h = tt
  sound_end s a (Got n answers) h = tt

  sound_walk : (s : Stand) (steps : List Act) (es : List (End F)) → Walks (HasAt whole) (length whole ≡ 65535) (AnswersAt whole) ⊥ s steps es → AreSound es
  sound_walk s steps [] w = tt
  sound_walk s [] (e ∷ es) w = absurd w
  sound_walk s (a ∷ steps) (e ∷ es) w = (sound_end s a e w.0, sound_walk (after s a e) steps es w.1)

  sound_walks : (b : ℕ) (script : List (List Act)) (ends : List (List (End F))) → AllWalk ⊥ whole b script ends → AllSound ends
  sound_walks b script [] w = tt
  sound_walks b [] (es ∷ ends) w = absurd w
  sound_walks b (steps ∷ script) (es ∷ ends) w = (sound_walk (beginning b) steps es w.0, sound_walks b script ends w.1)

  -- damage may be, too
  weaker_walks : (b : ℕ) (script : List (List Act)) (ends : List (List (End F))) → AllWalk ⊥ whole b script ends → AllWalk (Unit {0}) whole b script ends
  weaker_walks b [] [] w = tt
  weaker_walks b [] (es ∷ ends) w = absurd w
  weaker_walks b (steps ∷ script) [] w = absurd w
  weaker_walks b (steps ∷ script) (es ∷ ends) w = (
    walks_map F (HasAt whole) (length whole ≡ 65535) (AnswersAt whole) ⊥ (HasAt whole) (length whole ≡ 65535) (AnswersAt whole) (Unit {0}) (λ (f : length whole ≡ 65535). f) (λ n keys answers (h : AnswersAt whole n keys answers). h) (λ (d : ⊥). tt) (beginning b) steps es (λ p n (h : HasAt whole p n). h) w.0,
    weaker_walks b script ends w.1,
  )

inside_of : (xs : List (List Pair)) (k : ℕ) (x : List Pair) → slice_get xs k ≡ Some x → k < length xs
inside_of [] k x h = absurd (cc h)
inside_of (y ∷ ys) zero x h = omega arith
inside_of (y ∷ ys) (suc k) x h = let r = inside_of ys k x h in omega arith

-- the batch in the table at a number is alike to the one that was listed there
listed_alike : (F : Type 0) (hs : List Listing) (b n : ℕ) (ws : List ℕ) (rs : List (ℕ × List Pair)) (whole : List (List Pair)) → Differ (numbers_in rs) → ((r : ℕ × List Pair) → IsIn rs r → Says F hs b ws r) → Tells hs whole
    → (k z : ℕ) (p c d : List Pair) → z ≡ suc (b + k) → k < n → IsIn rs (z, p) → slice_get whole (b + k) ≡ Some c → slice_get (picks rs b n) k ≡ Some d → Alike c d
listed_alike F hs b n ws rs whole once say tells k z p c d is lt i at_c at_d key =
    let s = say (z, p) i in
    let place : z - 1 ≡ b + k = omega arith in
    let t = told_at hs whole (b + k) s.listing tells (subst (λ (m : ℕ). slice_get hs m ≡ Some s.listing) place s.at) in
    let same_c : t.0 ≡ c = cc (t.2, at_c) in
    let found : slice_get (picks rs b n) k ≡ Some (pick rs (suc b + k)) = picks_at rs b n k lt in
    let same_d : pick rs (suc b + k) ≡ d = cc (found, at_d) in
    let here : suc b + k ≡ z = omega arith in
    let same_p : pick rs (suc b + k) ≡ p = ap (pick rs) here ∙ pick_is rs z p once i in
    ap (λ (x : List Pair). of_batch x key) (sym same_c) ∙ (sym (s.stands t.0 t.1 key) ∙ ap (λ (x : List Pair). of_batch x key) (sym same_p ∙ same_d))

-- the batch that was listed at a number stands there
listed_there : (rs : List (ℕ × List Pair)) (b n : ℕ) (front : List (List Pair)) → length front ≡ b → Differ (numbers_in rs) → (z : ℕ) (p : List Pair) → IsIn rs (z, p) → b < z → z ≤ b + n → HasAt (front ++ picks rs b n) p z
listed_there rs b n front long once z p i low high =
    let place : z - 1 ≡ length front + (z - 1 - b) = omega arith in
    let here : suc b + (z - 1 - b) ≡ z = omega arith in
    slice_past front (picks rs b n) (z - 1 - b) (z - 1) place ∙ (picks_at rs b n (z - 1 - b) (omega arith) ∙ ap (λ (x : List Pair). Some x) (ap (pick rs) here ∙ pick_is rs z p once i))

-- each number behind b is that of a receipt
pub each_number : (F : Type 0) (hs : List Listing) (b : ℕ) (ws : List ℕ) (script : List (List Act)) (ends : List (List (End F))) → Differ ws → AllWalkIn hs b ws script ends → length hs ≡ b + length (all_receipts b script ends)
    → (z : ℕ) → b < z → z ≤ length hs → IsIn (numbers_in (all_receipts b script ends)) z
each_number F hs b ws script ends differ walks count z low high =
    let rs = all_receipts b script ends in
    let many : length (numbers_in rs) ≡ length rs = length-map rs (λ r. r.0) in
    all_of_them (numbers_in rs) b (length rs) z many (all_differ F hs b ws script ends differ walks) (λ y i. let p = number_in rs y i in let s = all_say F hs b ws script ends (y, p.0) walks p.1 in let le = s.inside in (s.new, omega arith)) low (omega arith)

-- The lanes' ends are legal, over the table that was there and the batches that they listed
pub legal : (F : Type 0) (hs : List Listing) (b : ℕ) (ws : List ℕ) (script : List (List Act)) (ends : List (List (End F))) (whole : List (List Pair)) → Differ ws → AllWalkIn hs b ws script ends
    → length hs ≡ b + length (all_receipts b script ends) → length hs ≤ 65535 → Tells hs whole
    → (flushed : List (List Pair)) × IsLegal (take b whole) flushed script ends × AlikeTables whole (take b whole ++ flushed) × AllSound ends
legal F hs b ws script ends whole differ walks count few tells =
    let rs = all_receipts b script ends in
    let n = length rs in
    let once : Differ (numbers_in rs) = all_differ F hs b ws script ends differ walks in
    let long : length whole ≡ length hs = told_length hs whole tells in
    let many : length (numbers_in rs) ≡ n = length-map rs (λ r. r.0) in
    let say : (r : ℕ × List Pair) → IsIn rs r → Says F hs b ws r = λ r i. all_say F hs b ws script ends r walks i in
    let all : (z : ℕ) → b < z → z ≤ b + n → IsIn (numbers_in rs) z = λ z low high. all_of_them (numbers_in rs) b n z many once (λ y i. let p = number_in rs y i in let s = say (y, p.0) p.1 in let le = s.inside in (s.new, omega arith)) low high in
    let flushed : List (List Pair) = picks rs b n in
    let flushed_long : length flushed ≡ n = picks_length rs b n in
    let before_long : length (take b whole) ≡ b = take_long b whole (omega arith) in
    let same : AlikeTables whole (take b whole ++ flushed) = alike_from b whole flushed (omega arith) (λ k i c d is at_c at_d.
    let lt : k < length flushed = inside_of flushed k d at_d in
    let p = number_in rs (suc (b + k)) (all (suc (b + k)) (omega arith) (omega arith)) in
    listed_alike F hs b n ws rs whole once say tells k (suc (b + k)) p.0 c d refl (omega arith) p.1 (subst (λ (m : ℕ). slice_get whole m ≡ Some c) is at_c) at_d) in
    let has : (p : List Pair) (z : ℕ) → IsIn rs (z, p) → HasAt (take b whole ++ flushed) p z = λ p z i.
    (let s = say (z, p) i in let le = s.inside in listed_there rs b n (take b whole) before_long once z p i s.new (omega arith)) in
    let each : AllWalk ⊥ (take b whole ++ flushed) b script ends = all_walks F hs b whole (take b whole ++ flushed) tells few same ws script ends has walks in (
      flushed,
      record {
        each = subst (λ (m : ℕ). AllWalk (Unit {0}) (take b whole ++ flushed) m script ends) (sym before_long) (weaker_walks F (take b whole ++ flushed) b script ends each);
        once = subst (λ (m : ℕ). Differ (map (λ r. r.0) (all_receipts m script ends))) (sym before_long) once;
        all = λ z low high. subst (λ (m : ℕ). IsIn (map (λ r. r.0) (all_receipts m script ends)) z) (sym before_long) (all z (omega arith) (omega arith));
      },
      same,
      sound_walks F (take b whole ++ flushed) b script ends each,
    )
