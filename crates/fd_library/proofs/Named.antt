-- Lists of open datasets: their texts, and their passes.
use Rattle.std.proofs.Common.{subst, ◌≡◌, ◌⊎◌, ℕ, zero, suc, ◌+◌, ◌*◌, ◌<◌, ◌≤◌, ◌||◌, All, Bool, true, false, List, [], ◌∷◌, ◌++◌, take, length, get_or, slice_get, slice_set, sym, refl, ap, ◌∙◌, arith, Option, Some, None, IfSome, Result, Ok, Err, IfOk, IfErr, OnOk, OnErr, inl, inr}
use mathlib.Core.List.{map-append}
use Rattle.std.specs.Str.{bytes_eq}
use Rattle.std.proofs.lemmas.List.{length-set, length_push}
use Rattle.std.proofs.lemmas.Slice.Eq.{bytes_eq-Decides}
use Rattle.std.specs.Prelude.{max}
use Rattle.std.proofs.Math.Seq.{take-suc}
use Rattle.fd_disk.proofs.NameLemmas.{is_or_not}
use Rattle.fd_turn.specs.Passes.{BoardId}
use Rattle.std.proofs.lemmas.List.Elements.{All-more, All-weaker}
use Rattle.fd_entries.specs.declared.table.Entry.{Entry}
use Rattle.fd_entries.specs.Table.{AllFit, greatest_writer}
use Rattle.fd_library.specs.Answers.{greatest_listed}
use Rattle.fd_library.specs.Calls.{Adds}
use Rattle.fd_library.specs.Open.{AreOpen, OpenDataset, OpenDatasets, OutAre, Seated, among, names_of, AreDistinct, AreSeated}
use Rattle.fd_library.specs.Parts.{both}

pub among_push : (n : List ℕ) (ms : List (List ℕ)) (m : List ℕ) → among n ms ≡ false → bytes_eq n m ≡ false → among n (ms ++ m ∷ []) ≡ false
among_push n [] m out other = ap (λ (b : Bool). b || false) other
among_push n (k ∷ ms) m out other = elim (is_or_not (bytes_eq n k)) [
  | inl same ↦ absurd (cc (sym (ap (λ (b : Bool). b || among n ms) same) ∙ out))
  | inr differs ↦ ap (λ (b : Bool). b || among n (ms ++ m ∷ [])) differs ∙ among_push n ms m (sym (ap (λ (b : Bool). b || among n ms) differs) ∙ out) other
]

-- a text that is no other's
pub differs_back : (n m : List ℕ) → bytes_eq n m ≡ false → bytes_eq m n ≡ false
differs_back n m other = elim (is_or_not (bytes_eq m n)) [
  | inl same ↦ absurd (cc (other, (bytes_eq-Decides n m).1 (sym ((bytes_eq-Decides m n).0 same))))
  | inr differs ↦ differs
]

pub among_head : (n m : List ℕ) (ms : List (List ℕ)) → among n (m ∷ ms) ≡ false → bytes_eq n m ≡ false
among_head n m ms out = elim (is_or_not (bytes_eq n m)) [
  | inl same ↦ absurd (cc (sym (ap (λ (b : Bool). b || among n ms) same) ∙ out))
  | inr differs ↦ differs
]

pub among_tail : (n m : List ℕ) (ms : List (List ℕ)) → among n (m ∷ ms) ≡ false → among n ms ≡ false
among_tail n m ms out = sym (ap (λ (b : Bool). b || among n ms) (among_head n m ms out)) ∙ out

pub distinct_push : (ns : List (List ℕ)) (n : List ℕ) → AreDistinct ns → among n ns ≡ false → AreDistinct (ns ++ n ∷ [])
distinct_push [] n d out = (refl, tt)
distinct_push (m ∷ ms) n d out = (among_push m ms n d.0 (differs_back n m (among_head n m ms out)), distinct_push ms n d.1 (among_tail n m ms out))

pub distinct_front : (ns : List (List ℕ)) (n : List ℕ) (rest : List (List ℕ)) → AreDistinct (ns ++ n ∷ rest) → among n rest ≡ false
distinct_front [] n rest d = d.0
distinct_front (m ∷ ms) n rest d = distinct_front ms n rest d.1

-- one entry more was looked at
pub greatest_more : (es : List Entry) (i n m : ℕ) (d : Entry) → i < length es → All (λ (e : Entry). e.writer ≤ n) (take i es) → n ≤ m → (get_or es i d).writer ≤ m → All (λ (e : Entry). e.writer ≤ m) (take (i + 1) es)
greatest_more es i n m d within all grows one =
    All-more (λ (e : Entry). e.writer ≤ m) es i d within (All-weaker (λ (e : Entry). e.writer ≤ n) (λ (e : Entry). e.writer ≤ m) (λ e le. omega (arith, le, grows)) (take i es) all) one

-- the greatest of one entry more
greatest_append : (es : List Entry) (e : Entry) → greatest_listed (es ++ e ∷ []) ≡ max (greatest_listed es) e.writer
greatest_append [] e = omega arith
greatest_append (x ∷ es) e = let rest = greatest_append es e in omega (arith, rest)

pub greatest_next : (es : List Entry) (i n m : ℕ) (d : Entry) → i < length es → n ≡ greatest_listed (take i es) → n ≤ m → (get_or es i d).writer ≤ m → (m ≡ n) ⊎ (m ≡ (get_or es i d).writer) → m ≡ greatest_listed (take (i + 1) es)
greatest_next es i n m d within is grows one either =
    let up : suc i ≡ i + 1 = omega arith in
    let more = ap greatest_listed (sym (ap (λ (k : ℕ). take k es) up) ∙ take-suc es i d within) ∙ greatest_append (take i es) (get_or es i d) in
    elim either as (λ _. m ≡ greatest_listed (take (i + 1) es)) [ inl same ↦ omega (arith, more, is, one, same) | inr same ↦ omega (arith, more, is, grows, same) ]

-- each entry's writer has its bound
fit_at : (j : ℕ) (es : List Entry) (i : ℕ) (d : Entry) → AllFit j es → i < length es → (get_or es i d).writer ≤ greatest_writer (j + i)
fit_at j [] i d fit lt = absurd (omega arith)
fit_at j (e ∷ es) zero d fit lt = omega (arith, fit.0.writer)
fit_at j (e ∷ es) (suc i) d fit lt = let le = fit_at (j + 1) es i d fit.1 (omega (arith, lt)) in omega (arith, le)

-- the larger one is within the bound of one entry more
pub larger_bound : (es : List Entry) (i n m : ℕ) (d : Entry) → AllFit 0 es → i < length es → n ≤ 65536 * i → (m ≡ n) ⊎ (m ≡ (get_or es i d).writer) → m ≤ 65536 * (i + 1)
larger_bound es i n m d fit lt le (inl is) = omega (arith, le, is)
larger_bound es i n m d fit lt le (inr is) = let one = fit_at 0 es i d fit lt in omega (arith, one, is)

among_old : (n m : List ℕ) (ms : List (List ℕ)) → among n ms ≡ true → among n (ms ++ m ∷ []) ≡ true
among_old n m [] is = absurd (cc is)
among_old n m (k ∷ ms) is = elim (is_or_not (bytes_eq n k)) [
  | inl same ↦ ap (λ (b : Bool). b || among n (ms ++ m ∷ [])) same
  | inr differs ↦ ap (λ (b : Bool). b || among n (ms ++ m ∷ [])) differs ∙ among_old n m ms (sym (ap (λ (b : Bool). b || among n ms) differs) ∙ is)
]

among_new : (n m : List ℕ) (ms : List (List ℕ)) → bytes_eq n m ≡ true → among n (ms ++ m ∷ []) ≡ true
among_new n m [] same = ap (λ (b : Bool). b || false) same
among_new n m (k ∷ ms) same = elim (is_or_not (bytes_eq n k)) [
  | inl here ↦ ap (λ (b : Bool). b || among n (ms ++ m ∷ [])) here
  | inr differs ↦ ap (λ (b : Bool). b || among n (ms ++ m ∷ [])) differs ∙ among_new n m ms same
]

module _ {D : Type 0} where
  -- one folder more is out
  pub outside_more : (hs : List (OpenDataset D)) (h : OpenDataset D) (name : List ℕ) (old new : List ℕ → Bool) → h.name ≡ name → OutAre hs old → ((o : List ℕ) → new o ≡ true → (old o ≡ true) ⊎ (o ≡ name)) → OutAre (hs ++ h ∷ []) new
  outside_more hs h name old new is outside more =
      λ n out. elim (more n out) [
        | inl before ↦ ap (among n) (map-append (λ (x : OpenDataset D). x.name) hs (h ∷ [])) ∙ among_old n h.name (names_of hs) (outside n before)
        | inr same ↦ ap (among n) (map-append (λ (x : OpenDataset D). x.name) hs (h ∷ [])) ∙ among_new n h.name (names_of hs) ((bytes_eq-Decides n h.name).1 (same ∙ sym is))
      ]

  pub names_push : (hs : List (OpenDataset D)) (h : OpenDataset D) → names_of (hs ++ h ∷ []) ≡ names_of hs ++ h.name ∷ []
  names_push hs h = map-append (λ (x : OpenDataset D). x.name) hs (h ∷ [])

  -- one dataset more was looked at
  pub more_looked : (n : List ℕ) (hs : List (OpenDataset D)) (i : ℕ) (d : OpenDataset D) → i < length hs → among n (names_of (take i hs)) ≡ false → bytes_eq n (get_or hs i d).name ≡ false → among n (names_of (take (i + 1) hs)) ≡ false
  more_looked n hs i d within out other =
      let up : suc i ≡ i + 1 = omega arith in
      let is : take (i + 1) hs ≡ take i hs ++ get_or hs i d ∷ [] = sym (ap (λ (k : ℕ). take k hs) up) ∙ take-suc hs i d within in
      ap (λ (l : List (OpenDataset D)). among n (names_of l)) is ∙ ap (among n) (names_push (take i hs) (get_or hs i d)) ∙ among_push n (names_of (take i hs)) (get_or hs i d).name out other

  pub names_set : (hs : List (OpenDataset D)) (i : ℕ) (h g : OpenDataset D) → slice_get hs i ≡ Some h → g.name ≡ h.name → names_of (slice_set hs i g) ≡ names_of hs
  names_set [] i h g at same = refl
  names_set (x ∷ hs) zero h g at same = let e : x ≡ h = cc at in ap (λ (n : List ℕ). n ∷ names_of hs) (same ∙ sym (ap (λ (y : OpenDataset D). y.name) e))
  names_set (x ∷ hs) (suc i) h g at same = ap (λ (ns : List (List ℕ)). x.name ∷ ns) (names_set hs i h g at same)

  pub seated_push : (bs : List BoardId) (hs : List (OpenDataset D)) (b : BoardId) (h : OpenDataset D) → AreSeated bs hs → IfSome h.pass (λ p. p.board ≡ b) → AreSeated (bs ++ b ∷ []) (hs ++ h ∷ [])
  seated_push [] [] b h all one = (one, tt)
  seated_push [] (x ∷ hs) b h all one = absurd all
  seated_push (c ∷ bs) [] b h all one = absurd all
  seated_push (c ∷ bs) (x ∷ hs) b h all one = (all.0, seated_push bs hs b h all.1 one)

  pub seated_length : (bs : List BoardId) (hs : List (OpenDataset D)) → AreSeated bs hs → length bs ≡ length hs
  seated_length [] [] all = refl
  seated_length [] (x ∷ hs) all = absurd all
  seated_length (c ∷ bs) [] all = absurd all
  seated_length (c ∷ bs) (x ∷ hs) all = ap suc (seated_length bs hs all.1)

  pub seated_pop : (bs : List BoardId) (hs : List (OpenDataset D)) (b : BoardId) (h : OpenDataset D) → AreSeated (bs ++ b ∷ []) (hs ++ h ∷ []) → AreSeated bs hs × IfSome h.pass (λ p. p.board ≡ b)
  seated_pop [] [] b h all = (tt, all.0)
  seated_pop [] (x ∷ []) b h all = absurd all.1
  seated_pop [] (x ∷ y ∷ hs) b h all = absurd all.1
  seated_pop (c ∷ []) [] b h all = absurd all.1
  seated_pop (c ∷ d ∷ bs) [] b h all = absurd all.1
  seated_pop (c ∷ bs) (x ∷ hs) b h all = let rest = seated_pop bs hs b h all.1 in ((all.0, rest.0), rest.1)

  pub seated_at : (bs : List BoardId) (hs : List (OpenDataset D)) (i : ℕ) (h : OpenDataset D) → AreSeated bs hs → slice_get hs i ≡ Some h → IfSome (slice_get bs i) (λ b. IfSome h.pass (λ p. p.board ≡ b))
  seated_at [] hs i h all at = tt
  seated_at (c ∷ bs) [] i h all at = absurd all
  seated_at (c ∷ bs) (x ∷ hs) zero h all at = let e : x ≡ h = cc at in subst (λ (y : OpenDataset D). IfSome y.pass (λ p. p.board ≡ c)) e all.0
  seated_at (c ∷ bs) (x ∷ hs) (suc i) h all at = seated_at bs hs i h all.1 at

  pub seated_set : (bs : List BoardId) (hs : List (OpenDataset D)) (i : ℕ) (g : OpenDataset D) → AreSeated bs hs → IfSome (slice_get bs i) (λ b. IfSome g.pass (λ p. p.board ≡ b)) → AreSeated bs (slice_set hs i g)
  seated_set [] [] i g all one = tt
  seated_set [] (x ∷ hs) i g all one = absurd all
  seated_set (c ∷ bs) [] i g all one = absurd all
  seated_set (c ∷ bs) (x ∷ hs) zero g all one = (one, all.1)
  seated_set (c ∷ bs) (x ∷ hs) (suc i) g all one = (all.0, seated_set bs hs i g all.1 one)

  -- a dataset that is open is found by its text
  pub found_among : (hs : List (OpenDataset D)) (i : ℕ) (h : OpenDataset D) (name : List ℕ) → slice_get hs i ≡ Some h → h.name ≡ name → among name (names_of hs) ≡ true
  found_among [] i h name at is = absurd (cc at)
  found_among (x ∷ hs) zero h name at is =
      let e : x ≡ h = cc at in
      ap (λ (b : Bool). b || among name (names_of hs)) ((bytes_eq-Decides name x.name).1 (sym (ap (λ (y : OpenDataset D). y.name) e ∙ is)))
  found_among (x ∷ hs) (suc i) h name at is = elim (is_or_not (bytes_eq name x.name)) [
    | inl same ↦ ap (λ (b : Bool). b || among name (names_of hs)) same
    | inr differs ↦ ap (λ (b : Bool). b || among name (names_of hs)) differs ∙ found_among hs i h name at is
  ]

  pub not_out : (hs : List (OpenDataset D)) (out : List ℕ → Bool) (name : List ℕ) → OutAre hs out → among name (names_of hs) ≡ false → out name ≡ false
  not_out hs out name are beside = elim (is_or_not (out name)) [
    | inl is ↦ absurd (cc (are name is, beside))
    | inr differs ↦ differs
  ]

  pub at_end : (hs : List (OpenDataset D)) (h : OpenDataset D) → slice_get (hs ++ h ∷ []) (length hs) ≡ Some h
  at_end [] h = refl
  at_end (x ∷ hs) h = at_end hs h

  -- the element at a place that is there
  pub get_at : (hs : List (OpenDataset D)) (i : ℕ) (h : OpenDataset D) → slice_get hs i ≡ Some h → (d : OpenDataset D) → get_or hs i d ≡ h
  get_at [] i h at d = absurd (cc at)
  get_at (x ∷ hs) zero h at d = cc at
  get_at (x ∷ hs) (suc i) h at d = get_at hs i h at d

  pub at_within : (hs : List (OpenDataset D)) (i : ℕ) (h : OpenDataset D) → slice_get hs i ≡ Some h → i < length hs
  at_within [] i h at = absurd (cc at)
  at_within (x ∷ hs) zero h at = omega arith
  at_within (x ∷ hs) (suc i) h at = let rest = at_within hs i h at in omega (arith, rest)

  pub is_at : (hs : List (OpenDataset D)) (i : ℕ) (d : OpenDataset D) → i < length hs → slice_get hs i ≡ Some (get_or hs i d)
  is_at [] i d within = absurd (omega (arith, within))
  is_at (x ∷ hs) zero d within = refl
  is_at (x ∷ hs) (suc i) d within = is_at hs i d (omega (arith, within))

  -- the datasets are open as before, where one of them changes
  pub changed : (bs : List BoardId) (hs : List (OpenDataset D)) (i : ℕ) (h g : OpenDataset D) → AreOpen (both bs hs) → slice_get hs i ≡ Some h → g.name ≡ h.name → IfSome (slice_get bs i) (λ b. IfSome g.pass (λ p. p.board ≡ b)) → AreOpen (both bs (slice_set hs i g))
  changed bs hs i h g all at same seated =
      let few : length hs ≤ 2048 = all.few in
      let few_now : length (slice_set hs i g) ≤ 2048 = omega (arith, few, length-set hs i g) in
      record {
        few = few_now;
        distinct = subst AreDistinct (sym (names_set hs i h g at same)) all.distinct;
        seated = seated_set bs hs i g all.seated seated;
      }

  pub none_seated : (o : Option BoardId) (g : OpenDataset D) → g.pass ≡ None → IfSome o (λ b. IfSome g.pass (λ p. p.board ≡ b))
  none_seated None g is = tt
  none_seated (Some b) g is = subst (λ (q : Option Seated). IfSome q (λ p. p.board ≡ b)) (sym is) tt

  -- the pass of the dataset at a place is of the board there
  pub board_at : (bs : List BoardId) (hs : List (OpenDataset D)) (i : ℕ) (h : OpenDataset D) (p : Seated) → AreSeated bs hs → slice_get hs i ≡ Some h → h.pass ≡ Some p → IfSome (slice_get bs i) (λ b. p.board ≡ b)
  board_at bs hs i h p all at is = go (slice_get bs i) (seated_at bs hs i h all at)
    where
      go : (o : Option BoardId) → IfSome o (λ b. IfSome h.pass (λ p. p.board ≡ b)) → IfSome o (λ b. p.board ≡ b)
      go None all = tt
      go (Some b) all = subst (λ (q : Option Seated). IfSome q (λ p. p.board ≡ b)) is all

  -- a pass that stays
  pub same_seated : (o : Option BoardId) (h g : OpenDataset D) → g.pass ≡ h.pass → IfSome o (λ b. IfSome h.pass (λ p. p.board ≡ b)) → IfSome o (λ b. IfSome g.pass (λ p. p.board ≡ b))
  same_seated None h g same all = tt
  same_seated (Some b) h g same all = subst (λ (q : Option Seated). IfSome q (λ p. p.board ≡ b)) (sym same) all

  pub new_seated : (o : Option BoardId) (g : OpenDataset D) (p : Seated) → g.pass ≡ Some p → IfSome o (λ b. p.board ≡ b) → IfSome o (λ b. IfSome g.pass (λ p. p.board ≡ b))
  new_seated None g p is all = tt
  new_seated (Some b) g p is all = subst (λ (q : Option Seated). IfSome q (λ p. p.board ≡ b)) (sym is) all

  -- one dataset more
  pub added : (old new : OpenDatasets D) (b : BoardId) (h : OpenDataset D) → AreOpen old → Adds old new b h → length old.each < 2048 → among h.name (names_of old.each) ≡ false → IfSome h.pass (λ p. p.board ≡ b) → AreOpen new
  added old new b h all adds few out own = record {
    few = let long = ap length adds.each ∙ length_push old.each h in omega (arith, few, long);
    distinct = subst AreDistinct (sym (ap names_of adds.each ∙ names_push old.each h)) (distinct_push (names_of old.each) h.name all.distinct out);
    seated = subst (λ (bs : List BoardId). AreSeated bs new.each) (sym adds.boards) (subst (AreSeated (old.boards ++ b ∷ [])) (sym adds.each) (seated_push old.boards old.each b h all.seated own));
  }

pub same_text : (n m : List ℕ) → true ≡ bytes_eq n m → m ≡ n
same_text n m is = sym ((bytes_eq-Decides n m).0 (sym is))

-- two facts of an answer in one
pub both_ok : {T E : Type 0} (r : Result T E) (P : T → Type 0) (A : Type 0) (Q : T → Type 0) → ((a : T) → P a → A → Q a) → IfOk r P → OnOk r A → IfOk r Q
both_ok (Ok a) P A Q f p x = f a p x
both_ok (Err e) P A Q f p x = tt

pub both_err : {T E : Type 0} (r : Result T E) (P : E → Type 0) (A : Type 0) (Q : E → Type 0) → ((e : E) → P e → A → Q e) → IfErr r P → OnErr r A → IfErr r Q
both_err (Ok a) P A Q f p x = tt
both_err (Err e) P A Q f p x = f e p x

pub no_elements : {X : Type 0} (xs : List X) → length xs ≡ 0 → xs ≡ []
no_elements [] is = refl
no_elements (x ∷ xs) is = absurd (omega (arith, is))
