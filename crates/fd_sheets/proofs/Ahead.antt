-- How a reader goes on, piece by piece.
use Rattle.std.proofs.Common.{◌≡◌, ◌≤◌, ◌<◌, ◌+◌, ℕ, true, false, List, [], ◌∷◌, ◌++◌, length, All, Option, Some, None, Result, Ok, Err, refl, sym, ap, subst, ◌∙◌, arith, append-nil, length-append}
use Rattle.std.proofs.lemmas.List.Elements.{All-cons, All-head, All-nil, All-tail}
use Rattle.fd_sections.specs.Progress.{Progress}
use Rattle.fd_sections.specs.Splitting.{fed}
use Rattle.fd_key.specs.Pairs.{Pair}
use Rattle.fd_schema.specs.Rules.{Rule}
use Rattle.fd_split.specs.Limits.{input_limit}
use Rattle.fd_split.proofs.InputLemmas.{gives_both, gives_nothing}
use Rattle.fd_sheets.specs.declared.reader.Reach.{Reach}
use Rattle.fd_sheets.specs.declared.reader.Reach.TheVariants as reaches
use Rattle.fd_sheets.specs.declared.reader.Stop.{Stop}
use Rattle.fd_sheets.specs.declared.reader.Stop.TheVariants as stops
use Rattle.fd_sheets.specs.declared.sheets.Sheet.{Sheet}
use Rattle.fd_sheets.specs.declared.sheets.Unsplit.{Unsplit}
use Rattle.fd_sheets.specs.declared.sheets.Unsplit.TheVariants as ends
use Rattle.fd_sheets.specs.Names.{IsKnown}
use Rattle.fd_sheets.specs.Reading.{HasRead, HasSome, HasTaken, IsFed, IsStop, ReadsOn, Rests, StopsAs, is_end, is_unread}
use Rattle.fd_sheets.specs.Sheets.{Placed, Unsplits}
use Rattle.fd_split.specs.Positions.{IsIdle, Position, fed_at}
use Rattle.fd_sheets.proofs.Placing.{fed_both, passes_none, placed_count, placed_fed, placed_fed_is, placed_more}

all_both : {A : Type 0} (P : A → Type 0) (xs ys : List A) → All P xs → All P ys → All P (xs ++ ys)
all_both P [] ys a b = b
all_both P (x ∷ xs) ys a b = All-cons P x (xs ++ ys) (All-head P x xs a) (all_both P xs ys (All-tail P x xs a) b)

pub rests_stop : {X : Type 0} (names : List (List ℕ)) (fresh : List Sheet) (p q : Position) (end : Unsplit) (stop : Stop X) → Unsplits p end → IsStop end stop → Rests names fresh p q (Err stop)
rests_stop names fresh p q (ends.Message at) stop h is = subst (λ s. Rests names fresh p q (Err s)) (sym is) h
rests_stop names fresh p q (ends.NoMap number field) stop h is = subst (λ s. Rests names fresh p q (Err s)) (sym is) h
rests_stop names fresh p q ends.NoMemory stop h is = subst (λ s. Rests names fresh p q (Err s)) (sym is) tt

fed_progress : (p : Progress) → fed p [] ≡ p
fed_progress p =
    ap (λ (x : List ℕ). record { given = p.given; last = p.last; skipped = p.skipped; rest = x; fed = p.fed + 0 }) (append-nil p.rest)
    ∙ ap (λ (n : ℕ). record { given = p.given; last = p.last; skipped = p.skipped; rest = p.rest; fed = n }) (let is : p.fed + 0 ≡ p.fed = omega arith in is)

pub fed_nothing : (a : Position) → fed_at a [] ≡ a
fed_nothing a = ap (λ (x : Progress). record { split = x; rest = a.rest; count = a.count }) (fed_progress a.split)

module _ (rules : List Rule) (given : List Pair) (names : List (List ℕ)) (p : Position) (left : Option (List ℕ)) where
  pub reads_none : (sheets : List Sheet) → sheets ≡ [] → ReadsOn rules given names p p left left sheets
  reads_none sheets is = subst (λ (ss : List Sheet). ReadsOn rules given names p p left left ss) (sym is) (record {
    came = [];
    is_fed = omega arith;
    gives = gives_nothing left;
    placed = subst (λ (x : Position). Placed rules given x [] p) (sym (fed_nothing p)) (passes_none p);
    known = All-nil (IsKnown names);
  })

  module _ (q r : Position) (now : Option (List ℕ)) (before after : List Sheet) (few : q.split.fed ≤ input_limit) (h : ReadsOn rules given names p q left now before) where
    module _ {X : Type 0} (result : Result (Option Reach) (Stop X)) (t : HasTaken rules given names q r before after result) where
      both : Placed rules given (fed_at p h.came) after t.middle
      both = subst (λ (ss : List Sheet). Placed rules given (fed_at p h.came) ss t.middle) (sym t.adds) (placed_more rules given (fed_at p h.came) q t.middle before t.fresh h.placed t.placed)

      few_came : p.split.fed + length h.came ≤ input_limit
      few_came = let is = h.is_fed in omega (arith, is, few)

      -- no more is taken
      pub read_so : (end : Result Reach (Stop X)) → StopsAs t.middle r now now end → HasSome after end → HasRead rules given p r left now after end
      read_so end stops some = record { came = h.came; few = few_came; mid = now; gives = h.gives; middle = t.middle; placed = both; stops = stops; some = some }

      longer : 0 < length t.fresh → 0 < length after
      longer lt = let size = ap length t.adds in omega (arith, lt, size, length-append before t.fresh)

      pub took_enough : (reach : Reach) → result ≡ Ok (Some reach) → HasRead {X = X} rules given p r left now after (Ok reach)
      took_enough reach is = enough reach (subst (λ x. Rests names t.fresh t.middle r x) is t.rests)
        where
          enough : (reach : Reach) → Rests {X = X} names t.fresh t.middle r (Ok (Some reach)) → HasRead {X = X} rules given p r left now after (Ok reach)
          enough reaches.Full rests = read_so (Ok reaches.Full) (rests.0, refl) (longer rests.1)
          enough reaches.Dealing rests = read_so (Ok reaches.Dealing) (rests.0, refl) (longer rests.1)
          enough reaches.End rests = absurd rests

      pub took_stop : (stop : Stop X) → result ≡ Err stop → HasRead rules given p r left now after (Err stop)
      took_stop stop is = stopped stop (subst (λ x. Rests names t.fresh t.middle r x) is t.rests)
        where
          stopped : (stop : Stop X) → Rests names t.fresh t.middle r (Err stop) → HasRead rules given p r left now after (Err stop)
          stopped (stops.Input f) rests = absurd rests
          stopped (stops.Message at) rests = read_so (Err (stops.Message at)) rests tt
          stopped (stops.NoMap number field) rests = read_so (Err (stops.NoMap number field)) rests tt
          stopped stops.InputLimit rests = absurd rests
          stopped stops.NoMemory rests = read_so (Err stops.NoMemory) tt tt

      pub took_quiet : (P : Type 0) (stop : Stop X) → result ≡ Err stop → is_unread stop ≡ true → P
      took_quiet P stop is unread = quiet stop (subst (λ x. Rests names t.fresh t.middle r x) is t.rests) unread
        where
          quiet : (stop : Stop X) → Rests names t.fresh t.middle r (Err stop) → is_unread stop ≡ true → P
          quiet (stops.Input f) rests unread = absurd rests
          quiet (stops.Message at) rests unread = absurd cc
          quiet (stops.NoMap number field) rests unread = absurd cc
          quiet stops.InputLimit rests unread = absurd cc
          quiet stops.NoMemory rests unread = absurd cc

      -- and then a piece was to be read
      module _ (none : result ≡ Ok None) where
        rest : (r ≡ t.middle) × IsIdle r × All (IsKnown names) t.fresh
        rest = subst (λ x. Rests names t.fresh t.middle r x) none t.rests

        pub waits : IsIdle r
        waits = rest.1

        all_known : All (IsKnown names) after
        all_known = subst (All (IsKnown names)) (sym t.adds) (all_both (IsKnown names) before t.fresh h.known rest.2)

        whole : Placed rules given (fed_at p h.came) after r
        whole = subst (λ (x : Position). Placed rules given (fed_at p h.came) after x) (sym rest.0) both

        fed_same : r.split.fed ≡ q.split.fed
        fed_same = ap (λ (x : Position). x.split.fed) rest.0 ∙ placed_fed_is rules given q t.middle t.fresh t.placed

        pub known_stop : (stop : Stop X) → is_unread stop ≡ true → All (IsKnown names) after
        known_stop stop unread = all_known

        module _ (s : Position) (behind : Option (List ℕ)) where
          pub fed_more : IsFed {X = X} r s now behind (Ok true) → ReadsOn rules given names p s left behind after
          fed_more f =
              let is = h.is_fed in
              record {
                came = h.came ++ f.0;
                is_fed = let size = ap (λ (x : Position). x.split.fed) f.1 in let same = fed_same in omega (arith, is, size, same, length-append h.came f.0);
                gives = gives_both left now behind h.came f.0 h.gives f.3;
                placed = subst (λ (x : Position). Placed rules given x after s) (fed_both p h.came f.0) (subst (λ (x : Position). Placed rules given (fed_at (fed_at p h.came) f.0) after x) (sym f.1) (placed_fed rules given (fed_at p h.came) r f.0 after whole));
                known = all_known;
              }

          pub fed_on : IsFed {X = X} r s now behind (Ok true) → q.split.fed + 1 ≤ s.split.fed
          fed_on f = let size = ap (λ (x : Position). x.split.fed) f.1 in let same = fed_same in omega (arith, size, same, f.2)

          pub fed_end : IsFed {X = X} r s now behind (Ok false) → HasRead {X = X} rules given p s left behind after (Ok reaches.End)
          fed_end f = record { came = h.came; few = few_came; mid = now; gives = h.gives; middle = r; placed = whole; stops = f; some = tt }

          pub fed_stop : (stop : Stop X) → IsFed r s now behind (Err stop) → HasRead rules given p s left behind after (Err stop)
          fed_stop stop f = record { came = h.came; few = few_came; mid = now; gives = h.gives; middle = r; placed = whole; stops = f; some = tt }

-- ---- where it stops

pub stops_on : (X : Type 0) (p q : Position) (mid after : Option (List ℕ)) (reach : Reach) → is_end reach ≡ false → StopsAs {X = X} p q mid after (Ok reach) → (q ≡ p) × (after ≡ mid)
stops_on X p q mid after reaches.Full is h = h
stops_on X p q mid after reaches.Dealing is h = h
stops_on X p q mid after reaches.End is h = absurd cc

pub stops_end : (X : Type 0) (p q : Position) (mid after : Option (List ℕ)) (reach : Reach) → is_end reach ≡ true → StopsAs {X = X} p q mid after (Ok reach) → StopsAs {X = X} p q mid after (Ok reaches.End)
stops_end X p q mid after reaches.Full is h = absurd cc
stops_end X p q mid after reaches.Dealing is h = absurd cc
stops_end X p q mid after reaches.End is h = h

-- where more is to be read, the reader has gone on
pub goes_further : (X : Type 0) (rules : List Rule) (given : List Pair) (p q : Position) (left after : Option (List ℕ)) (sheets : List Sheet) (reach : Reach) → is_end reach ≡ false → HasRead {X = X} rules given p q left after sheets (Ok reach) → p.count < q.count
goes_further X rules given p q left after sheets reach is h =
    let on = stops_on X h.middle q h.mid after reach is h.stops in
    let count_is = ap (λ (x : Position). x.count) on.0 in
    omega (arith, count_is, placed_count rules given (fed_at p h.came) h.middle sheets h.placed, some reach is h.some)
  where
    some : (reach : Reach) → is_end reach ≡ false → HasSome {X = X} sheets (Ok reach) → 0 < length sheets
    some reaches.Full is s = s
    some reaches.Dealing is s = s
    some reaches.End is s = absurd cc
