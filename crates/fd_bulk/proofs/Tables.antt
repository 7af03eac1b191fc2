-- What a dataset's table comes to hold by what all workers listed in it.
use Rattle.std.proofs.Common.{◌≡◌, ◌==◌, ◌≤◌, ◌<◌, ◌+◌, ◌*◌, ◌/◌, ℕ, zero, suc, Bool, true, false, if◌then◌else◌, List, [], ◌∷◌, ◌++◌, map, take, length, All, Option, Some, None, option_map, Ok, refl, sym, ap, ap₂, subst, ◌∙◌, arith, append_assoc, append-nil, length-append, Contains}
use mathlib.Core.List.{map-append}
use Rattle.std.proofs.lemmas.List.{length-map}
use Rattle.std.proofs.lemmas.List.Elements.{All-nil, All-cons, Contains-append_left, Contains-append_right}
use Rattle.fd_disk.specs.declared.folders.FileName.{FileName}
use Rattle.fd_entries.specs.declared.batch.Listing.{Listing}
use Rattle.fd_entries.specs.declared.batch.Pair.{Pair}
use Rattle.fd_entries.specs.declared.table.Entry.{Entry}
use Rattle.fd_entries.specs.Batches.{newest, of_batch, or_older, same_bytes}
use Rattle.fd_segment.specs.Held.{Alike, batch_of}
use Rattle.fd_segment.proofs.Keys.{eq_is, same_as_eq}
use Rattle.fd_dataset.specs.Listed.{entries_of}
use Rattle.fd_recovery.specs.Recovered.{all_of, batches_listed, files_of}
use Rattle.fd_stored.specs.Store.{Adds, AddsAll, HasOnly}
use Rattle.fd_shares.specs.Dealing.{Marked, batches_by, batches_of, dealt_to, flat}
use Rattle.fd_bulk.specs.Gathering.{Gathered, Lane, receipts_of}
use Rattle.fd_shares.specs.Merging.{lane_at, those}
use Rattle.fd_bulk.specs.Tables.{AreTables, Every, IsHeld, listing_of, writer_of}
use Rattle.fd_shares.specs.Working.{Sealing, pairs_in}
use Rattle.fd_shares.proofs.Dealing.{are_as_one, are_few, equal_to, newest_both}
use Rattle.fd_bulk.proofs.Turns.{no_elements}
use Rattle.fd_bulk.proofs.Gathering.{batches_in, below, by_worker, gathered, lane_beyond, marked_of}

-- as many batches, each alike
abbrev pub AreAlike : List (List Pair) → List (List Pair) → Type 0
AreAlike [] [] = Unit {0}
AreAlike [] (c ∷ cs) = ⊥
AreAlike (b ∷ bs) [] = ⊥
AreAlike (b ∷ bs) (c ∷ cs) = Alike b c × AreAlike bs cs

alike_newest : (bs cs : List (List Pair)) (key : List ℕ) → AreAlike bs cs → newest cs key ≡ newest bs key
alike_newest [] [] key a = refl
alike_newest [] (c ∷ cs) key a = absurd a
alike_newest (b ∷ bs) [] key a = absurd a
alike_newest (b ∷ bs) (c ∷ cs) key a = ap₂ or_older (alike_newest bs cs key a.1) (sym (a.0 key))

alike_length : (bs cs : List (List Pair)) → AreAlike bs cs → length cs ≡ length bs
alike_length [] [] a = refl
alike_length [] (c ∷ cs) a = absurd a
alike_length (b ∷ bs) [] a = absurd a
alike_length (b ∷ bs) (c ∷ cs) a = ap suc (alike_length bs cs a.1)

pub all_long : (xs : List (Option (List Pair))) (a : List (List Pair)) → all_of xs ≡ Some a → length a ≡ length xs
all_long [] a e = let none : [] ≡ a = cc e in sym (ap length none)
all_long (None ∷ xs) a e = absurd (cc e)
all_long (Some x ∷ xs) a e = go (all_of xs) (λ zs is. all_long xs zs is) e
  where
    go : (o : Option (List (List Pair))) → ((zs : List (List Pair)) → o ≡ Some zs → length zs ≡ length xs) → option_map (λ more. x ∷ more) o ≡ Some a → length a ≡ suc (length xs)
    go None rest e = absurd (cc e)
    go (Some zs) rest e =
        let front : x ∷ zs ≡ a = cc e in
        sym (ap length front) ∙ ap suc (rest zs refl)

all_both : (xs ys : List (Option (List Pair))) (a b : List (List Pair)) → all_of xs ≡ Some a → all_of ys ≡ Some b → all_of (xs ++ ys) ≡ Some (a ++ b)
all_both [] ys a b e f = let none : [] ≡ a = cc e in f ∙ ap (λ (zs : List (List Pair)). Some (zs ++ b)) none
all_both (None ∷ xs) ys a b e f = absurd (cc e)
all_both (Some x ∷ xs) ys a b e f = go (all_of xs) refl (λ zs is. all_both xs ys zs b is f) e
  where
    go : (o : Option (List (List Pair))) → all_of xs ≡ o → ((zs : List (List Pair)) → all_of xs ≡ Some zs → all_of (xs ++ ys) ≡ Some (zs ++ b)) → option_map (λ more. x ∷ more) o ≡ Some a → option_map (λ more. x ∷ more) (all_of (xs ++ ys)) ≡ Some (a ++ b)
    go None is rest e = absurd (cc e)
    go (Some zs) is rest e =
        let front : x ∷ zs ≡ a = cc e in
        ap (option_map (λ more. x ∷ more)) (rest zs is) ∙ ap (λ (cs : List (List Pair)). Some (cs ++ b)) front

pub in_batch : (b : List Pair) (key bytes : List ℕ) → of_batch b key ≡ Some bytes → Contains b (record { key = key; bytes = bytes })
in_batch [] key bytes e = absurd (cc e)
in_batch (p ∷ ps) key bytes e = go (of_batch ps key) refl (λ is. in_batch ps key bytes is) (same_bytes p.key key) refl e
  where
    go : (o : Option (List ℕ)) → of_batch ps key ≡ o → (of_batch ps key ≡ Some bytes → Contains ps (record { key = key; bytes = bytes })) → (s : Bool) → same_bytes p.key key ≡ s → or_older o (if s then Some p.bytes else None) ≡ Some bytes → Contains (p ∷ ps) (record { key = key; bytes = bytes })
    go (Some x) is rest s t e = Contains-append_right (p ∷ []) ps (record { key = key; bytes = bytes }) (rest (is ∙ e))
    go None is rest true t e =
        let same : key ≡ p.key = eq_is key p.key (sym (same_as_eq p.key key) ∙ t) in
        let there : p.bytes ≡ bytes = cc e in
        subst (Contains (p ∷ ps)) (ap₂ (λ (k b : List ℕ). record { key = k; bytes = b }) (sym same) there) (0, omega arith, refl)
    go None is rest false t e = absurd (cc e)

-- what is dealt to a worker is among all
pub dealt_among : (deal : List ℕ → ℕ) (w : ℕ) (ps : List Pair) (x : Pair) → Contains (dealt_to deal w ps) x → Contains ps x
dealt_among deal w [] x c = c
dealt_among deal w (p ∷ ps) x c = go (λ d. dealt_among deal w ps x d) (deal p.key == w) c
  where
    behind : Contains ps x → Contains (p ∷ ps) x
    behind d = Contains-append_right (p ∷ []) ps x d

    first_or : (qs : List Pair) → (Contains qs x → Contains ps x) → Contains (p ∷ qs) x → Contains (p ∷ ps) x
    first_or qs rest (zero, lt, at) = (0, omega arith, at)
    first_or qs rest (suc i, lt, at) = behind (rest (i, omega (arith, lt), at))

    go : (Contains (dealt_to deal w ps) x → Contains ps x) → (b : Bool) → Contains (if b then p ∷ dealt_to deal w ps else dealt_to deal w ps) x → Contains (p ∷ ps) x
    go rest true c = first_or (dealt_to deal w ps) rest c
    go rest false c = behind (rest c)

-- ---- what holds of each of what was listed

module _ (P : ℕ × Sealing → Type 0) where
  abbrev EveryMarked : List (ℕ × (ℕ × Sealing)) → Type 0
  EveryMarked [] = Unit {0}
  EveryMarked (t ∷ ts) = P t.1 × EveryMarked ts

  every_marked : (ts : List (ℕ × (ℕ × Sealing))) → ((w : ℕ) → Every P (those w ts)) → EveryMarked ts
  every_marked [] each = tt
  every_marked (t ∷ ts) each = (
    (subst (λ (b : Bool). Every P (if b then t.1 ∷ those t.0 ts else those t.0 ts)) (equal_to t.0 t.0 refl) (each t.0)).0,
    every_marked ts (λ w. behind w (t.0 == w) refl),
  )
    where
      behind : (w : ℕ) (b : Bool) → (t.0 == w) ≡ b → Every P (those w ts)
      behind w true e = (subst (λ (b : Bool). Every P (if b then t.1 ∷ those w ts else those w ts)) e (each w)).1
      behind w false e = subst (λ (b : Bool). Every P (if b then t.1 ∷ those w ts else those w ts)) e (each w)

-- what a batch has is among these pairs
abbrev pub IsAmong : List Pair → ℕ × Sealing → Type 0
IsAmong pairs r = (x : Pair) → Contains r.1.pairs x → Contains pairs x

among_front : (rs : List (ℕ × Sealing)) (pairs before after : List Pair) → pairs ≡ before ++ (pairs_in rs ++ after) → Every (IsAmong pairs) rs
among_front [] pairs before after is = tt
among_front (r ∷ rs) pairs before after is = (
  (λ x c. subst (λ (ps : List Pair). Contains ps x) (sym is) (Contains-append_right before ((r.1.pairs ++ pairs_in rs) ++ after) x (Contains-append_left (r.1.pairs ++ pairs_in rs) after x (Contains-append_left r.1.pairs (pairs_in rs) x c)))),
  among_front rs pairs (before ++ r.1.pairs) after (is ∙ ap (λ (ps : List Pair). before ++ ps) (append_assoc r.1.pairs (pairs_in rs) after) ∙ sym (append_assoc before r.1.pairs (pairs_in rs ++ after))),
)

every_map : (P Q : ℕ × Sealing → Type 0) (rs : List (ℕ × Sealing)) → ((r : ℕ × Sealing) → P r → Q r) → Every P rs → Every Q rs
every_map P Q [] f all = tt
every_map P Q (r ∷ rs) f all = (f r all.0, every_map P Q rs f all.1)

abbrev pub pairs_of : Sealing → List Pair
pairs_of s = s.pairs

flat_batches : (rs : List (ℕ × Sealing)) → flat (batches_in pairs_of rs) ≡ pairs_in rs
flat_batches [] = refl
flat_batches (r ∷ rs) = ap (λ (ps : List Pair). r.1.pairs ++ ps) (flat_batches rs)

pub record AreHeld (files : FileName → Option (List ℕ)) (ts : List (ℕ × (ℕ × Sealing))) : Type 0 where
  pub batches : List (List Pair)
  pub alike : AreAlike (batches_of (marked_of pairs_of ts)) batches
  pub holds : all_of (map (λ (e : Entry). batch_of (files_of files e)) (entries_of (map (λ (t : ℕ × (ℕ × Sealing)). listing_of t.1.1) ts))) ≡ Some batches

are_held : (files : FileName → Option (List ℕ)) (ts : List (ℕ × (ℕ × Sealing))) → EveryMarked (IsHeld files) ts → AreHeld files ts
are_held files [] all = record { batches = []; alike = tt; holds = refl }
are_held files (t ∷ ts) all =
    let rest = are_held files ts all.1 in
    record {
      batches = all.0.batch ∷ rest.batches;
      alike = (all.0.alike, rest.alike);
      holds = ap (λ (o : Option (List Pair)). all_of (o ∷ map (λ (e : Entry). batch_of (files_of files e)) (entries_of (map (λ (t : ℕ × (ℕ × Sealing)). listing_of t.1.1) ts)))) all.0.is ∙ ap (option_map (λ more. all.0.batch ∷ more)) rest.holds;
    }

only_of : (pairs : List Pair) (ts : List (ℕ × (ℕ × Sealing))) (cs : List (List Pair)) → EveryMarked (IsAmong pairs) ts → AreAlike (batches_of (marked_of pairs_of ts)) cs → All (HasOnly pairs) cs
only_of pairs [] [] all a = All-nil (HasOnly pairs)
only_of pairs [] (c ∷ cs) all a = absurd a
only_of pairs (t ∷ ts) [] all a = absurd a
only_of pairs (t ∷ ts) (c ∷ cs) all a = All-cons (HasOnly pairs) c cs (λ key bytes e. all.0 (record { key = key; bytes = bytes }) (in_batch t.1.1.pairs key bytes (a.0 key ∙ e))) (only_of pairs ts cs all.1 a.1)

-- where there are no pairs, nothing was listed
none_listed : (files : FileName → Option (List ℕ)) (ts : List (ℕ × (ℕ × Sealing))) → EveryMarked (IsAmong []) ts → EveryMarked (IsHeld files) ts → ts ≡ []
none_listed files [] among all = refl
none_listed files (t ∷ ts) among all = absurd (go t.1.1.pairs refl)
  where
    go : (ps : List Pair) → t.1.1.pairs ≡ ps → ⊥
    go [] is = all.0.some is
    go (x ∷ ps) is = let there = among.0 x (subst (λ (qs : List Pair). Contains qs x) (sym is) (0, omega arith, refl)) in let lt = there.1 in absurd (omega (arith, lt))

-- ---- a dataset

module _ (deal : List ℕ → ℕ) (lanes : List (Lane Sealing)) (opening : ℕ) (history : List Listing) (pairs : List Pair) (rest : ℕ → List Pair) (files : FileName → Option (List ℕ)) (t : List (List Pair))
    (g : Gathered listing_of writer_of opening history lanes) (below_all : (key : List ℕ) → deal key < length lanes) (dealt : (w : ℕ) → dealt_to deal w pairs ≡ pairs_in (lane_at w (receipts_of lanes)) ++ rest w)
    (first : batches_listed files (Ok (entries_of (take opening history))) ≡ Some t) (held : (w : ℕ) → Every (IsHeld files) (lane_at w (receipts_of lanes)))
    (few : (w : ℕ) → 512 * length (lane_at w (receipts_of lanes)) ≤ length (pairs_in (lane_at w (receipts_of lanes))) + 512) where
  all_held : EveryMarked (IsHeld files) g.each
  all_held = every_marked (IsHeld files) g.each (λ w. subst (Every (IsHeld files)) (sym (g.by w)) (held w))

  pub now : AreHeld files g.each
  now = are_held files g.each all_held

  -- what the folder's files give of the history
  pub holds_now : batches_listed files (Ok (entries_of history)) ≡ Some (t ++ now.batches)
  holds_now =
      let f : Entry → Option (List Pair) = λ e. batch_of (files_of files e) in
      let back : List Listing = map (λ (u : ℕ × (ℕ × Sealing)). listing_of u.1.1) g.each in
      ap (λ (ls : List Listing). all_of (map f (entries_of ls))) g.history_is
      ∙ ap all_of (ap (map f) (map-append (λ (l : Listing). l.entry) (take opening history) back) ∙ map-append f (entries_of (take opening history)) (entries_of back))
      ∙ all_both (map f (entries_of (take opening history))) (map f (entries_of back)) t now.batches first now.holds

  among_all : EveryMarked (IsAmong pairs) g.each
  among_all = every_marked (IsAmong pairs) g.each (λ w. subst (Every (IsAmong pairs)) (sym (g.by w))
      (every_map (IsAmong (dealt_to deal w pairs)) (IsAmong pairs) (lane_at w (receipts_of lanes)) (λ r among x c. dealt_among deal w pairs x (among x c)) (among_front (lane_at w (receipts_of lanes)) (dealt_to deal w pairs) [] (rest w) (dealt w))))

  marked : List Marked
  marked = marked_of pairs_of g.each

  lane_length : (w : ℕ) → length (batches_by w (marked_of pairs_of g.each)) ≡ length (lane_at w (receipts_of lanes))
  lane_length w = ap length (by_worker pairs_of w g.each) ∙ length-map (those w g.each) (λ (r : ℕ × Sealing). pairs_of r.1) ∙ ap length (g.by w)

  few_now : length now.batches ≤ length lanes + length pairs / 512
  few_now =
      let all = are_few deal (length lanes) (marked_of pairs_of g.each) pairs
      (below pairs_of (length lanes) g.each (λ w le. g.by w ∙ lane_beyond (receipts_of lanes) w (let e = length-map lanes (λ (l : Lane Sealing). l.receipts) in omega (arith, le, e))))
      (λ w lt. let e = lane_length w in let f = few w in let d = ap length (dealt w) ∙ length-append (pairs_in (lane_at w (receipts_of lanes))) (rest w) in omega (arith, e, f, d)) in
      let same = alike_length (batches_of (marked_of pairs_of g.each)) now.batches now.alike in omega (arith, all, same)

  none_now : pairs ≡ [] → now.batches ≡ []
  none_now none =
      let each : g.each ≡ [] = none_listed files g.each (subst (λ (ps : List Pair). EveryMarked (IsAmong ps) g.each) none among_all) all_held in
      no_elements now.batches (alike_length (batches_of (marked_of pairs_of g.each)) now.batches now.alike ∙ ap (λ (ts : List (ℕ × (ℕ × Sealing))). length (batches_of (marked_of pairs_of ts))) each)

  pub adds_now : Adds (length lanes) pairs t (batches_listed files (Ok (entries_of history)))
  adds_now = record { added = now.batches; after_is = holds_now; only = only_of pairs g.each now.batches among_all now.alike; few = few_now; none = none_now }

  pub adds_all_now : ((w : ℕ) → rest w ≡ []) → AddsAll (length lanes) pairs t (batches_listed files (Ok (entries_of history)))
  adds_all_now none = record {
    adds = adds_now;
    newest_is = λ u is key.
        let same : u ≡ t ++ now.batches = (let e : Some u ≡ Some (t ++ now.batches) = sym is ∙ holds_now in cc e) in
        ap (λ (bs : List (List Pair)). newest bs key) same
        ∙ newest_both t now.batches key ∙ ap (λ (o : Option (List ℕ)). or_older o (newest t key)) (alike_newest (batches_of (marked_of pairs_of g.each)) now.batches key now.alike)
        ∙ sym (newest_both t (batches_of (marked_of pairs_of g.each)) key)
        ∙ are_as_one deal t (marked_of pairs_of g.each) pairs (λ w. ap flat (by_worker pairs_of w g.each) ∙ flat_batches (those w g.each) ∙ ap pairs_in (g.by w) ∙ sym (append-nil (pairs_in (lane_at w (receipts_of lanes)))) ∙ ap (λ (ps : List Pair). pairs_in (lane_at w (receipts_of lanes)) ++ ps) (sym (none w)) ∙ sym (dealt w)) key;
  }

pub are_tables : AreTables
are_tables deal lanes opening history pairs rest files before l =
    let g = gathered listing_of writer_of opening history lanes l.lanes_are l.differ l.count in (
      adds_now deal lanes opening history pairs rest files before g l.below l.dealt l.first l.held l.few,
      adds_all_now deal lanes opening history pairs rest files before g l.below l.dealt l.first l.held l.few,
    )
