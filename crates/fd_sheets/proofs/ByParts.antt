-- Parts are taken one behind the other, and the places of each are looked for while the next is taken.
use Rattle.std.proofs.Common.{◌≡◌, ◌≤◌, ◌+◌, ◌*◌, ℕ, Bool, true, List, [], ◌∷◌, ◌++◌, length, drop, take, Result, Ok, Err, refl, sym, ap, subst, ◌∙◌, arith, length-append}
use Rattle.fd_sections.specs.Message.{Sections}
use Rattle.fd_sections.specs.Progress.{Progress}
use Rattle.fd_key.specs.Pairs.{Pair}
use Rattle.fd_schema.specs.Rules.{Rule}
use Rattle.fd_split.specs.Positions.{Position, weight}
use Rattle.fd_sheets.specs.declared.sheets.Sheet.{Sheet}
use Rattle.fd_sheets.specs.declared.sheets.Unsplit.{Unsplit}
use Rattle.fd_sheets.specs.declared.sheets.Unsplit.TheVariants as ends
use Rattle.fd_sheets.specs.Parts.{AreLookedUp, TookPart, TookPlaced}
use Rattle.fd_sheets.specs.Sheets.{AreSome, IsOpen, Placed, Shrinks, Staged, Stays, standing}
use Rattle.fd_sheets.proofs.Placing.{passes_none, placed_more, placed_written, written_long}

-- these are the same fields with their places
pub record ArePlaced (rules : List Rule) (given : List Pair) (ss ts : List Sheet) : Type 0 where
  pub long : length ts ≡ length ss
  pub placed : (a b : Position) → Staged a ss b → Placed rules given a ts b

pub looked_all : (rules : List Rule) (given : List Pair) (ss xs ts : List Sheet) (n : ℕ) → n ≡ length ss → xs ≡ ss → AreLookedUp rules given xs ts → ArePlaced rules given ss (take n (ts ++ drop (length ts) ss))
looked_all rules given ss xs ts n is same looked = record {
  long = written_long ts ss n is (looked.long ∙ ap length same);
  placed = λ a b h. placed_written rules given a b ss xs ts n h is same looked.long looked.each;
}

-- From this position some fields were taken with their places, and behind them a part; and why no more were.
pub record PartAt (rules : List Rule) (given : List Pair) (a : Position) (q : Progress) (left : List Sections) (done part : List Sheet) (taken : Result Bool Unsplit) : Type 0 where
  pub turn : Position
  pub middle : Position
  pub placed : Placed rules given a done turn
  pub staged : Staged turn part middle
  pub stays : Stays middle (standing q left (a.count + (length done + length part))) taken

-- the same, however many came before
pub record HasPart (rules : List Rule) (given : List Pair) (p : Progress) (fs : List Sections) (q : Progress) (left : List Sections) (done part : List Sheet) (taken : Result Bool Unsplit) : Type 0 where
  pub behind : (n : ℕ) → PartAt rules given (standing p fs n) q left done part taken
  pub some : AreSome part taken
  pub room : 16 * (length done + length part) + weight (standing q left 0) ≤ weight (standing p fs 0)
  pub is_open : IsOpen q left
  pub is_fed : q.fed ≡ p.fed

some_more : (xs ys : List Sheet) (taken : Result Bool Unsplit) → length ys ≤ length xs → AreSome ys taken → AreSome xs taken
some_more xs ys (Ok enough) le some = λ is. omega (arith, le, some is)
some_more xs ys (Err end) le some = tt

-- behind none
pub none_before : (xs ys : List Sheet) → length xs ≡ 0 → ys ≡ xs ++ ys
none_before [] ys is = refl
none_before (x ∷ xs) ys is = absurd (omega (arith, is))

module _ (rules : List Rule) (given : List Pair) (p : Progress) (fs : List Sections) (q : Progress) (left : List Sections) (done part : List Sheet) where
  pub part_first : (taken : Result Bool Unsplit) → done ≡ [] → TookPart p fs q left part taken → HasPart rules given p fs q left done part taken
  part_first taken none t = record {
    behind = λ n.
        let x = t.took n in
        let size : n + length part ≡ n + (length done + length part) = let is = ap length none in omega (arith, is) in
        record {
          turn = standing p fs n;
          middle = x.middle;
          placed = subst (λ (xs : List Sheet). Placed rules given (standing p fs n) xs (standing p fs n)) (sym none) (passes_none (standing p fs n));
          staged = x.staged;
          stays = subst (λ (k : ℕ). Stays x.middle (standing q left k) taken) size x.stays;
        };
    some = (t.took 0).some;
    room = let is = ap length none in let room = t.room in omega (arith, is, room);
    is_open = t.is_open;
    is_fed = t.is_fed;
  }

  -- memory ran out behind the fields that have their places
  pub part_lost : (r : Progress) (rest : List Sections) (taken : Result Bool Unsplit) → HasPart rules given p fs q left done part taken → (n : ℕ) → TookPlaced rules given (standing p fs n) r rest done (Err ends.NoMemory)
  part_lost r rest taken h n =
      let x = h.behind n in
      record { middle = x.turn; placed = x.placed; stays = tt; some = tt }

  module _ (written after : List Sheet) (w : ArePlaced rules given part written) (adds : after ≡ done ++ written) where
    both_long : length after ≡ length done + length part
    both_long = let size = ap length adds in let long = w.long in omega (arith, size, long, length-append done written)

    pub part_next : (r : Progress) (rest : List Sections) (next : List Sheet) (taken : Result Bool Unsplit) → HasPart rules given p fs q left done part (Ok true) → TookPart q left r rest next taken → HasPart rules given p fs r rest after next taken
    part_next r rest next taken h t = record {
      behind = λ n.
          let x = h.behind n in
          let k = n + (length done + length part) in
          let y = t.took k in
          let size : k + length next ≡ n + (length after + length next) = omega (arith, both_long) in
          record {
            turn = standing q left k;
            middle = y.middle;
            placed = subst (λ (xs : List Sheet). Placed rules given (standing p fs n) xs (standing q left k)) (sym adds)
                (placed_more rules given (standing p fs n) x.turn (standing q left k) done written x.placed (w.placed x.turn (standing q left k) (subst (Staged x.turn part) (sym x.stays.0) x.staged)));
            staged = y.staged;
            stays = subst (λ (i : ℕ). Stays y.middle (standing r rest i) taken) size y.stays;
          };
      some = (t.took 0).some;
      room = let before = h.room in let room = t.room in omega (arith, before, room, both_long);
      is_open = t.is_open;
      is_fed = t.is_fed ∙ h.is_fed;
    }

    -- the last part has its places too
    pub part_last : (taken : Result Bool Unsplit) → HasPart rules given p fs q left done part taken → (n : ℕ) → TookPlaced rules given (standing p fs n) q left after taken
    part_last taken h n =
        let x = h.behind n in
        let size : n + (length done + length part) ≡ n + length after = omega (arith, both_long) in
        record {
          middle = x.middle;
          placed = subst (λ (xs : List Sheet). Placed rules given (standing p fs n) xs x.middle) (sym adds) (placed_more rules given (standing p fs n) x.turn x.middle done written x.placed (w.placed x.turn x.middle x.staged));
          stays = subst (λ (i : ℕ). Stays x.middle (standing q left i) taken) size x.stays;
          some = some_more after part taken (omega (arith, both_long)) h.some;
        }

    pub part_room : (taken : Result Bool Unsplit) (none : List Sheet) → HasPart rules given p fs q left done part taken → Shrinks p fs none q left after
    part_room taken none h = let room = h.room in omega (arith, room, both_long)
