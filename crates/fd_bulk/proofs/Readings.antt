-- An input that is read piece by piece: what is dealt at each turn, and at each exit.
use Rattle.std.proofs.Common.{◌≡◌, inl, ◌≤◌, ◌<◌, ◌^◌, ◌*◌, ℕ, ◌+◌, Bool, true, false, List, [], ◌++◌, length, Option, Some, None, Result, Ok, Err, refl, sym, ap, subst, ◌∙◌, append_assoc, append-nil, arith, length-append}
use Rattle.std.specs.Prelude.{IfErr, IfSome, OnOk}
use Rattle.std.specs.Io.KnownBytes.{Keeps}
use Rattle.fd_disk.specs.declared.folders.FileName.{FileName}
use Rattle.fd_disk.specs.Folders.{Contents, Holdings}
use Rattle.fd_io.specs.Streams.{Gives, IsAtEnd}
use Rattle.fd_sections.specs.declared.refusal.Truncated.{Truncated}
use Rattle.fd_sections.specs.Progress.{Progress}
use Rattle.fd_sections.specs.Splitting.{start, finished}
use Rattle.fd_sections.specs.Stream.{First, Unmarked, Partial, Refuses, Takes, first}
use Rattle.fd_key.specs.Pairs.{Pair}
use Rattle.fd_schema.specs.Rules.{Rule}
use Rattle.fd_turn.specs.declared.board.Pass.{Pass}
use Rattle.fd_archiver.specs.declared.fault.FlushFault.{FlushFault}
use Rattle.fd_archiver.specs.Writing.{Writing}
use Rattle.fd_library.specs.Open.{OpenDatasets}
use Rattle.fd_split.specs.Limits.{input_limit}
use Rattle.fd_stored.specs.Archiving.{Stored, Taken, datasets_in, taken}
use Rattle.fd_split.proofs.InputLemmas.{gives_nothing}
use Rattle.fd_bulk.specs.declared.bulk.BulkFault.{BulkFault}
use Rattle.fd_bulk.specs.declared.bulk.BulkFault.TheVariants as faults
use Rattle.fd_bulk.specs.declared.reading.Counts.{Counts}
use Rattle.fd_shares.specs.declared.round.Job.{Job}
use Rattle.fd_shares.specs.declared.round.Parcel.{Parcel}
use Rattle.fd_split.specs.Positions.{IsIdle, Position, at_message, fed_at, weight}
use Rattle.fd_sections.specs.Message.{Sections}
use Rattle.fd_bulk.specs.Archived.{HasRead, IsWholeTaken}
use Rattle.fd_bulk.specs.Crewing.{Closes, Deals, octets_of}
use Rattle.fd_sheets.specs.declared.reader.Reach.{Reach}
use Rattle.fd_sheets.specs.declared.reader.Reach.TheVariants as reaches
use Rattle.fd_sheets.specs.declared.reader.Stop.{Stop}
use Rattle.fd_sheets.specs.declared.reader.Stop.TheVariants as stops
use Rattle.fd_sheets.specs.declared.sheets.Sheet.{Sheet}
use Rattle.fd_sheets.specs.Reading.{HasRead as HasReadOn, StopsAs, is_unread as sheets_unread}
use Rattle.fd_sheets.proofs.Ahead.{fed_nothing, goes_further}
use Rattle.fd_sheets.proofs.Placing.{placed_fed_is}
use Rattle.fd_bulk.specs.Batches.{BatchDealt}
use Rattle.fd_bulk.specs.Inputs.{EndedOn, EndedThere, EndsAfter, EndsFor, EndsOf, EndsTaken, Going, InputDealt, Midway, Reads, WentOn, is_calm, is_unread}
use Rattle.fd_bulk.specs.Sheets.{IsTold}
use Rattle.fd_bulk.proofs.Gone.{ended_stream, ended_unmapped}
use Rattle.fd_sections.specs.Joining.{IsWaiting}
use Rattle.fd_bulk.specs.Taking.{Seen, StoredOn, taken_from}
use Rattle.fd_bulk.proofs.Takings.{seen_more, seen_nothing}
use Rattle.fd_bulk.proofs.Inputs.{ended_in, held_of, taken_cut, taken_past, taken_whole}
use Rattle.fd_bulk.proofs.Opened.{deals_closes}
use Rattle.fd_bulk.proofs.Steps.{ended_now}

abbrev Text : Type 0
Text = Option (List ℕ)

-- ---- where a reader stops

stops_same : (Z : Type 0) (p q : Position) (mid after : Text) (reach : Reach) → StopsAs {X = Z} p q mid after (Ok reach) → q ≡ p
stops_same Z p q mid after reaches.Full h = h.0
stops_same Z p q mid after reaches.Dealing h = h.0
stops_same Z p q mid after reaches.End h = h.0

-- no field is to come before the next message
idle_is : (a : Position) → IsIdle a → a ≡ at_message a.split a.count
idle_is a idle = ap (λ (x : List Sections). record { split = a.split; rest = x; count = a.count }) idle.none

-- ---- what was read

read_on : (a b c : Text) (piece : List ℕ) (P Q : List ℕ → Type 0) → Reads a b P → Gives b c piece → ((seen : List ℕ) → P seen → Q (seen ++ piece)) → Reads a c Q
read_on None b c piece P Q r gives step = tt
read_on (Some octets) None c piece P Q r gives step = absurd r
read_on (Some octets) (Some left) None piece P Q r gives step = absurd gives
read_on (Some octets) (Some left) (Some after) piece P Q r gives step =
    (r.0 ++ piece, r.1 ∙ ap (λ (t : List ℕ). r.0 ++ t) gives ∙ sym (append_assoc r.0 piece after), step r.0 r.2)

-- what holds of all that was read and of what is left
read_so : (a b : Text) (P : List ℕ → Type 0) (Q : List ℕ → Type 0) → Reads a b P → ((octets seen left : List ℕ) → b ≡ Some left → octets ≡ seen ++ left → P seen → Q octets) → IfSome a Q
read_so None b P Q r to = tt
read_so (Some octets) None P Q r to = absurd r
read_so (Some octets) (Some left) P Q r to = to octets r.0 left refl r.1 r.2

read_nothing : (a : Text) (P : List ℕ → Type 0) → P [] → Reads a a P
read_nothing None P p = tt
read_nothing (Some octets) P p = ([], refl, p)

none_left : (b : Text) (left : List ℕ) → b ≡ Some left → IsAtEnd b → left ≡ []
none_left b left e end = subst IsAtEnd e end

some_left : (b c : Text) (piece left : List ℕ) → b ≡ Some left → Gives b c piece → length piece ≤ length left
some_left b None piece left e gives = absurd (subst (λ (x : Text). Gives x None piece) e gives)
some_left b (Some after) piece left e gives =
    let is : left ≡ piece ++ after = subst (λ (x : Text). Gives x (Some after) piece) e gives in
    omega (arith, ap length is, length-append piece after)

still_left : (b c : Text) (left : List ℕ) → b ≡ Some left → Keeps b c → c ≡ Some left
still_left None c left e keeps = absurd cc
still_left (Some x) None left e keeps = absurd keeps
still_left (Some x) (Some y) left e keeps = ap (λ (z : List ℕ). Some z) keeps ∙ e

pub at_end : (a b c : Text) (P : List ℕ → Type 0) (piece : List ℕ) → Reads a b P → IsAtEnd b → Gives b c piece → piece ≡ [] → IfSome a (λ octets. c ≡ Some [])
at_end None b c P piece r end gives z = tt
at_end (Some octets) None c P piece r end gives z = absurd r
at_end (Some octets) (Some left) None P piece r end gives z = absurd gives
at_end (Some octets) (Some left) (Some after) P piece r end gives z =
    let is : left ≡ [] ++ after = gives ∙ ap (λ (x : List ℕ). x ++ after) z in
    ap (λ (x : List ℕ). Some x) (sym is ∙ end)

pub not_both : (b : Bool) (P : Type 0) → b ≡ false → b ≡ true → P
not_both true P f t = absurd (cc f)
not_both false P f t = absurd (cc t)

-- the message that is cut is the next
cut_number : (p : Progress) (t : Truncated) (f : First) → Err t ≡ finished p f → t.number ≡ p.given + 1
cut_number p t Unmarked e = absurd cc
cut_number p t (Partial h w) e = let k : t ≡ record { number = p.given + 1; have = h; want = w } = cc in ap (λ (x : Truncated). x.number) k
cut_number p t (Refuses bad) e = absurd cc
cut_number p t (Takes m r) e = absurd cc

module _ {D H X Y F : Type 0} (has : D → Option Contents) (kept : H → Option (FileName → Option (List ℕ))) where
  -- a failed read isn't a cause
  pub not_unread : {Z : Type 0} (first_has now : Option Holdings) (all waiting : List Stored) (l : OpenDatasets D) (ps : List (Pass X Y)) (js : List (Job (Writing H) (Pass X Y) (FlushFault F))) (parcels : List Parcel) (fault : BulkFault Z) → EndsFor has kept first_has now all waiting l ps js parcels fault → is_unread fault ≡ false
  not_unread first_has now all waiting l ps js parcels (faults.Input f) e = absurd e
  not_unread first_has now all waiting l ps js parcels (faults.Message at) e = refl
  not_unread first_has now all waiting l ps js parcels (faults.NoMap number field) e = refl
  not_unread first_has now all waiting l ps js parcels (faults.Cut t) e = refl
  not_unread first_has now all waiting l ps js parcels (faults.Key number why) e = refl
  not_unread first_has now all waiting l ps js parcels (faults.NoRule number text) e = refl
  not_unread first_has now all waiting l ps js parcels faults.Disk e = refl
  not_unread first_has now all waiting l ps js parcels (faults.NotATable dataset at want found) e = refl
  not_unread first_has now all waiting l ps js parcels (faults.Damaged dataset damage) e = refl
  not_unread first_has now all waiting l ps js parcels (faults.TableFull count) e = refl
  not_unread first_has now all waiting l ps js parcels (faults.TooMany count) e = refl
  not_unread first_has now all waiting l ps js parcels faults.InputLimit e = refl
  not_unread first_has now all waiting l ps js parcels faults.NoMemory e = refl

  module _ (rules : List Rule) (given : List Pair) (left : Text) (start_has : Option Holdings) where
    -- it ended for a cause
    pub ended_for : {Z : Type 0} (fault : BulkFault Z) (after : Text) (now : Option Holdings) (all waiting : List Stored) (l : OpenDatasets D) (ps : List (Pass X Y)) (js : List (Job (Writing H) (Pass X Y) (FlushFault F))) (parcels : List Parcel) → EndsFor has kept start_has now all waiting l ps js parcels fault
        → IfSome left (λ octets. EndsAfter fault (all ++ waiting) (taken rules given octets)) → octets_of (all ++ waiting) < 2 ^ 63 → InputDealt has kept rules given left after start_has now l ps js parcels (Err fault)
    ended_for (faults.Input f) after now all waiting l ps js parcels e c sum = absurd e
    ended_for (faults.Message at) after now all waiting l ps js parcels e c sum = record { all = all; waiting = waiting; stands = e; comes = c; sum = sum }
    ended_for (faults.NoMap number field) after now all waiting l ps js parcels e c sum = record { all = all; waiting = waiting; stands = e; comes = c; sum = sum }
    ended_for (faults.Cut t) after now all waiting l ps js parcels e c sum = record { all = all; waiting = waiting; stands = e; comes = c; sum = sum }
    ended_for (faults.Key number why) after now all waiting l ps js parcels e c sum = record { all = all; waiting = waiting; stands = e; comes = c; sum = sum }
    ended_for (faults.NoRule number text) after now all waiting l ps js parcels e c sum = record { all = all; waiting = waiting; stands = e; comes = c; sum = sum }
    ended_for faults.Disk after now all waiting l ps js parcels e c sum = record { all = all; waiting = waiting; stands = e; comes = c; sum = sum }
    ended_for (faults.NotATable dataset at want found) after now all waiting l ps js parcels e c sum = record { all = all; waiting = waiting; stands = e; comes = c; sum = sum }
    ended_for (faults.Damaged dataset damage) after now all waiting l ps js parcels e c sum = record { all = all; waiting = waiting; stands = e; comes = c; sum = sum }
    ended_for (faults.TableFull count) after now all waiting l ps js parcels e c sum = record { all = all; waiting = waiting; stands = e; comes = c; sum = sum }
    ended_for (faults.TooMany count) after now all waiting l ps js parcels e c sum = record { all = all; waiting = waiting; stands = e; comes = c; sum = sum }
    ended_for faults.InputLimit after now all waiting l ps js parcels e c sum = record { all = all; waiting = waiting; stands = e; comes = c; sum = sum }
    ended_for faults.NoMemory after now all waiting l ps js parcels e c sum = record { all = all; waiting = waiting; stands = e; comes = c; sum = sum }

    -- ---- the turns

    pub begun : (l : OpenDatasets D) (ps : List (Pass X Y)) (js : List (Job (Writing H) (Pass X Y) (FlushFault F))) (parcels : List Parcel) (p : Position) → p ≡ at_message start 0 → Deals has kept start_has start_has [] [] [] l ps js parcels → Midway has kept rules given left left start_has start_has l ps js parcels p
    begun l ps js parcels p is deals = record {
      all = [];
      waiting = [];
      going = record {
        deals = deals;
        given = ap (λ (x : Position). x.count) is;
        sizes = omega arith;
        count = let a = ap (λ (x : Position). weight x) is in let b = ap (λ (x : Position). x.split.fed) is in omega (arith, a, b);
      };
      reads = read_nothing left (Seen rules given p []) (seen_nothing rules given p is);
    }

    -- a piece was fed
    pub fed_going : (now : Option Holdings) (l : OpenDatasets D) (ps : List (Pass X Y)) (js : List (Job (Writing H) (Pass X Y) (FlushFault F))) (parcels : List Parcel) (p q : Position) (piece : List ℕ) (all waiting : List Stored) → q ≡ fed_at p piece → Going has kept start_has now all waiting l ps js parcels p → Going has kept start_has now all waiting l ps js parcels q
    fed_going now l ps js parcels p q piece all waiting is g =
        let count = g.count in
        record {
          deals = g.deals;
          given = ap (λ (x : Position). x.count) is ∙ g.given;
          sizes = g.sizes;
          count = let a = ap (λ (x : Position). weight x) is in let b = ap (λ (x : Position). x.split.fed) is in omega (arith, a, b, count, length-append p.split.rest piece);
        }

    module _ (before : Option Holdings) (mid : Text) (l : OpenDatasets D) (ps : List (Pass X Y)) (js : List (Job (Writing H) (Pass X Y) (FlushFault F))) (parcels : List Parcel) (p : Position) (m : Midway has kept rules given left mid start_has before l ps js parcels p) where
      abbrev so_far : List Stored
      so_far = m.all ++ m.waiting

      -- each field took 16 octets
      pub has_room : 16 * p.count ≤ p.split.fed
      has_room = let g = m.going in let count = g.count in let given = g.given in omega (arith, count, given)

      few_octets : p.split.fed ≤ input_limit → octets_of so_far < 2 ^ 63
      few_octets le = let g = m.going in let sizes = g.sizes in let count = g.count in omega (arith, sizes, count, le)

      pub turned : (after : Text) (now : Option Holdings) (l₂ : OpenDatasets D) (qs : List (Pass X Y)) (ks : List (Job (Writing H) (Pass X Y) (FlushFault F))) (more : List Parcel) (q n : Position) (piece : List ℕ) → Gives mid after piece → q ≡ fed_at p piece → WentOn has kept rules given q n start_has now so_far l₂ qs ks more
          → Midway has kept rules given left after start_has now l₂ qs ks more n
      turned after now l₂ qs ks more q n piece gives is w = record {
        all = w.all;
        waiting = w.waiting;
        going = w.going;
        reads = read_on left mid after piece (Seen rules given p so_far) (Seen rules given n (w.all ++ w.waiting)) m.reads gives (λ seen s.
            seen_more rules given p n so_far (w.all ++ w.waiting) seen piece s (subst (λ (x : Position). StoredOn rules given x n so_far (w.all ++ w.waiting)) is w.on));
      }

      -- ---- the exits

      -- the octets are those that were gone over, and then this piece
      abbrev Followed : List ℕ → List ℕ → Type 0
      Followed piece both = (seen : List ℕ) × Seen rules given p so_far seen × (both ≡ seen ++ piece)

      module _ {Z : Type 0} (e : BulkFault Z) where
        ends_in : (after : Text) (piece : List ℕ) (b : List Stored) → Gives mid after piece → p.split.fed + length piece ≤ input_limit → EndedOn e (taken_from rules given (datasets_in so_far) (fed_at p piece)) so_far b → IfSome left (λ octets. EndsAfter e b (taken rules given octets))
        ends_in after piece b gives le on =
            read_so left after (Followed piece) (λ octets. EndsAfter e b (taken rules given octets)) (read_on left mid after piece (Seen rules given p so_far) (Followed piece) m.reads gives (λ seen s. (seen, s, refl))) (λ octets both rest x all h.
            ended_in rules given e p so_far b octets h.0 piece rest h.1 (subst (λ (y : List ℕ). octets ≡ y ++ rest) h.2 all) (let f = h.1 in let g = f.is_fed in omega (arith, g, le, length-append h.0 piece)) on)

        pub stopped_there : (after behind : Text) (now : Option Holdings) (l₂ : OpenDatasets D) (qs : List (Pass X Y)) (ks : List (Job (Writing H) (Pass X Y) (FlushFault F))) (more : List Parcel) (q : Position) (piece : List ℕ) → Gives mid after piece → p.split.fed + length piece ≤ input_limit → q ≡ fed_at p piece → EndedThere has kept rules given q start_has now so_far l₂ qs ks more e
            → InputDealt has kept rules given left behind start_has now l₂ qs ks more (Err e)
        stopped_there after behind now l₂ qs ks more q piece gives le is t =
            ended_for e behind now t.all t.waiting l₂ qs ks more t.ends (ends_in after piece (t.all ++ t.waiting) gives le (subst (λ (x : Position). EndedOn e (taken_from rules given (datasets_in so_far) x) so_far (t.all ++ t.waiting)) is t.on)) t.sum

        nothing_behind : ((past : Bool) (more : List ℕ) → EndsTaken e (taken_from rules given (datasets_in so_far) (fed_at p []) past more)) → p.split.fed ≤ input_limit → IfSome left (λ octets. EndsAfter e so_far (taken rules given octets))
        nothing_behind t le = ends_in mid [] so_far (gives_nothing mid) (omega (arith, le)) (ended_now rules given e (fed_at p []) so_far t)

      seen_idle : (seen : List ℕ) → IsIdle p → Seen rules given p so_far seen → Seen rules given (at_message p.split p.count) so_far seen
      seen_idle seen idle s = subst (λ (x : Position). Seen rules given x so_far seen) (idle_is p idle) s

      closes : Closes has kept start_has before m.all m.waiting l ps js parcels
      closes = let g = m.going in deals_closes has kept start_has m.all m.waiting before (datasets_in so_far) l ps js parcels g.deals

      pub starved : (Z : Type 0) (after : Text) → p.split.fed ≤ input_limit → InputDealt has kept rules given left after start_has before l ps js {Z = Z} parcels (Err faults.NoMemory)
      starved Z after le = record { all = m.all; waiting = m.waiting; stands = inl closes; comes = nothing_behind faults.NoMemory (λ past more. tt) le; sum = few_octets le }

      pub past : (Z : Type 0) (after : Text) (piece : List ℕ) → Gives mid after piece → 0 < length piece → p.split.fed ≡ input_limit → IsIdle p → InputDealt has kept rules given left after start_has before l ps js {Z = Z} parcels (Err faults.InputLimit)
      past Z after piece gives some full idle = record {
        all = m.all;
        waiting = m.waiting;
        stands = (closes, m.going.deals.met, (0, tt, tt));
        comes = read_so left mid (Seen rules given p so_far) (λ octets. EndsAfter faults.InputLimit so_far (taken rules given octets)) m.reads (λ octets seen rest x all s.
            taken_past rules given p.split p.count so_far octets seen rest (seen_idle seen idle s) all full (let h = some_left mid after piece rest x gives in omega (arith, h, some)) idle.waits);
        sum = few_octets (omega (arith, full));
      }

      pub unread : (Z : Type 0) (fault : Z) (after : Text) → Keeps mid after → p.split.fed ≤ input_limit → IsIdle p → InputDealt has kept rules given left after start_has before l ps js {Z = Z} parcels (Err (faults.Input fault))
      unread Z fault after keeps le idle = record {
        all = m.all;
        waiting = m.waiting;
        stands = m.going.deals;
        comes = read_so left mid (Seen rules given p so_far) (λ octets. HasRead rules given octets after so_far) m.reads (λ octets seen rest x all s.
            let f : EndsAfter {Z = Z} faults.NoMemory so_far (taken rules given octets) =
            ended_in rules given faults.NoMemory p so_far so_far octets seen [] rest s (all ∙ ap (λ (y : List ℕ). y ++ rest) (sym (append-nil seen))) (let g = s.is_fed in omega (arith, g, le, length-append seen [])) (ended_now rules given faults.NoMemory (fed_at p []) so_far (λ past more. tt)) in
            record {
              seen = seen;
              rest = rest;
              octets_are = all;
              left_is = still_left mid after rest x keeps;
              whole = held_of rules given p.split p.count so_far seen (seen_idle seen idle s) idle.waits;
              front = (f.rest.stored, ap (λ (t : Taken). t.stored) f.is);
            });
        sum = few_octets le;
      }

      -- the input is at its end
      pub ended_at_end : {Z : Type 0} (result : Result Counts (BulkFault Z)) → IsAtEnd mid → p.split.fed ≤ input_limit → IsIdle p → EndsOf result p → (after : Text) → InputDealt has kept rules given left after start_has before l ps js parcels result
      ended_at_end (Ok counts) end le idle (count, junk) after = record {
        all = m.all;
        waiting = m.waiting;
        stands = m.going.deals;
        comes = (
          count ∙ m.going.given,
          read_so left mid (Seen rules given p so_far) (λ octets. IsWholeTaken so_far counts.junk (taken rules given octets)) m.reads (λ octets seen rest x all s.
              taken_whole rules given p.split p.count so_far octets seen counts.junk (seen_idle seen idle s) (all ∙ ap (λ (y : List ℕ). seen ++ y) (none_left mid rest x end)) le idle.waits junk),
        );
        sum = few_octets le;
      }
      ended_at_end (Err fault) end le idle (t, is, cut) after = rw is (record {
        all = m.all;
        waiting = m.waiting;
        stands = (closes, m.going.deals.met, (p.split.given, cut_number p.split t (first p.split.rest) cut, tt));
        comes = read_so left mid (Seen rules given p so_far) (λ octets. EndsAfter (faults.Cut t) so_far (taken rules given octets)) m.reads (λ octets seen rest x all s.
            taken_cut rules given p.split p.count so_far octets seen t (seen_idle seen idle s) (all ∙ ap (λ (y : List ℕ). seen ++ y) (none_left mid rest x end)) le idle.waits cut);
        sum = few_octets le;
      })

      -- ---- a batch

      -- what was dealt was stored
      pub stayed : (now : Option Holdings) (qs : List (Pass X Y)) (ks : List (Job (Writing H) (Pass X Y) (FlushFault F))) (more : List Parcel) → WentOn has kept rules given p p start_has now so_far l qs ks more → Midway has kept rules given left mid start_has now l qs ks more p
      stayed now qs ks more w = turned mid now l qs ks more p p [] (gives_nothing mid) (sym (fed_nothing p)) w

      pub stopped_here : {Z : Type 0} (e : BulkFault Z) (behind : Text) (now : Option Holdings) (qs : List (Pass X Y)) (ks : List (Job (Writing H) (Pass X Y) (FlushFault F))) (more : List Parcel) → p.split.fed ≤ input_limit → EndedThere has kept rules given p start_has now so_far l qs ks more e
          → InputDealt has kept rules given left behind start_has now l qs ks more (Err e)
      stopped_here e behind now qs ks more le t = stopped_there e mid behind now l qs ks more p [] (gives_nothing mid) (omega (arith, le)) (sym (fed_nothing p)) t

      -- why no more is read
      pub stop_ends : {Z : Type 0} (stop : Stop Z) (fault : BulkFault Z) (q : Position) (after : Text) → IsTold stop fault → StopsAs p q mid after (Err stop) → p.split.fed ≤ input_limit → InputDealt has kept rules given left after start_has before l ps js parcels (Err fault)
      stop_ends {Z = Z} (stops.Input f) fault q after told h le = subst (λ e. InputDealt has kept rules given left after start_has before l ps js parcels (Err e)) (sym told) (unread Z f after h.1 le h.0)
      stop_ends {Z = Z} (stops.Message at) fault q after told h le = subst (λ e. InputDealt has kept rules given left after start_has before l ps js parcels (Err e)) (sym told)
          (stopped_here {Z = Z} (faults.Message at) after before ps js parcels le (ended_stream has kept rules given start_has before m.all m.waiting l ps js parcels p le m.going Z at h h.from_one))
      stop_ends {Z = Z} (stops.NoMap number field) fault q after told h le = subst (λ e. InputDealt has kept rules given left after start_has before l ps js parcels (Err e)) (sym told)
          (stopped_here {Z = Z} (faults.NoMap number field) after before ps js parcels le (ended_unmapped has kept rules given start_has before m.all m.waiting l ps js parcels p le m.going Z number field h h.from_one))
      stop_ends {Z = Z} stops.InputLimit fault q after told h le = subst (λ e. InputDealt has kept rules given left after start_has before l ps js parcels (Err e)) (sym told) (past Z after h.2.0 h.2.2 h.2.1 h.1 h.0)
      stop_ends {Z = Z} stops.NoMemory fault q after told h le = subst (λ e. InputDealt has kept rules given left after start_has before l ps js parcels (Err e)) (sym told) (starved Z after le)

      -- the source has nothing left at its end
      pub none_behind : (after : Text) → IsAtEnd mid → Gives mid after [] → IfSome left (λ octets. after ≡ Some [])
      none_behind after end gives = at_end left mid after (Seen rules given p so_far) [] m.reads end gives refl

      module _ {X₂ : Type 0} (q : Position) (after : Text) (sheets : List Sheet) (end : Result Reach (Stop X₂)) (h : HasReadOn rules given p q mid after sheets end) where
        pub going_batch : Going has kept start_has before m.all m.waiting l ps js parcels (fed_at p h.came)
        going_batch = fed_going before l ps js parcels p (fed_at p h.came) h.came m.all m.waiting refl m.going

        pub few_middle : h.middle.split.fed ≤ input_limit
        few_middle = let few = h.few in omega (arith, few, placed_fed_is rules given (fed_at p h.came) h.middle sheets h.placed)

        module _ (now : Option Holdings) (l₂ : OpenDatasets D) (qs : List (Pass X Y)) (ks : List (Job (Writing H) (Pass X Y) (FlushFault F))) (more : List Parcel) where
          -- its fields were dealt
          pub went_batch : WentOn has kept rules given (fed_at p h.came) h.middle start_has now so_far l₂ qs ks more → Midway has kept rules given left h.mid start_has now l₂ qs ks more h.middle
          went_batch w = turned h.mid now l₂ qs ks more (fed_at p h.came) h.middle h.came h.gives refl w

          -- or one wasn't
          pub stopped_batch : {Z : Type 0} (e : BulkFault Z) → EndedThere has kept rules given (fed_at p h.came) start_has now so_far l₂ qs ks more e → InputDealt has kept rules given left after start_has now l₂ qs ks more (Err e)
          stopped_batch e t = stopped_there e h.mid after now l₂ qs ks more (fed_at p h.came) h.came h.gives h.few refl t

-- ---- a batch whose fields were dealt

module _ {D H X Y F : Type 0} (has : D → Option Contents) (kept : H → Option (FileName → Option (List ℕ))) (rules : List Rule) (given : List Pair) (left after : Text) (start_has now : Option Holdings) (l : OpenDatasets D) (ps : List (Pass X Y)) (js : List (Job (Writing H) (Pass X Y) (FlushFault F))) (parcels : List Parcel) (p q : Position) where
  pub batch_dealt : (Z : Type 0) (before : Text) (sheets : List Sheet) (reach : Reach) (h : HasReadOn {X = Z} rules given p q before after sheets (Ok reach)) → Midway has kept rules given left h.mid start_has now l ps js parcels h.middle → h.middle.split.fed ≤ input_limit → BatchDealt has kept rules given left after start_has now l ps js parcels p q Z reach
  batch_dealt Z before sheets reach h m few =
      let is = stops_same Z h.middle q h.mid after reach h.stops in
      record {
        mid = h.mid;
        midway = subst (Midway has kept rules given left h.mid start_has now l ps js parcels) (sym is) m;
        few = rw is few;
        stops = subst (λ (x : Position). StopsAs {X = Z} x q h.mid after (Ok reach)) (sym is) h.stops;
        further = λ on. goes_further Z rules given p q before after sheets reach on h;
      }

  -- the same, where the end is another's name
  pub batch_dealt_at : (Z : Type 0) (before : Text) (sheets : List Sheet) (reach : Reach) (end : Result Reach (Stop Z)) → end ≡ Ok reach → (h : HasReadOn {X = Z} rules given p q before after sheets end) → Midway has kept rules given left h.mid start_has now l ps js parcels h.middle → h.middle.split.fed ≤ input_limit → BatchDealt has kept rules given left after start_has now l ps js parcels p q Z reach
  batch_dealt_at Z before sheets reach end is =
      subst (λ (e : Result Reach (Stop Z)). (h : HasReadOn {X = Z} rules given p q before after sheets e) → Midway has kept rules given left h.mid start_has now l ps js parcels h.middle → h.middle.split.fed ≤ input_limit → BatchDealt has kept rules given left after start_has now l ps js parcels p q Z reach) (sym is) (batch_dealt Z before sheets reach)

-- ---- the count of faults of the input

module _ {Z : Type 0} where
  told_unread : (stop : Stop Z) (fault : BulkFault Z) → IsTold stop fault → is_unread fault ≡ sheets_unread stop
  told_unread (stops.Input f) fault told = ap is_unread told
  told_unread (stops.Message at) fault told = ap is_unread told
  told_unread (stops.NoMap number field) fault told = ap is_unread told
  told_unread stops.InputLimit fault told = ap is_unread told
  told_unread stops.NoMemory fault told = ap is_unread told

  pub stop_read : (P : Type 0) (stop : Stop Z) (fault : BulkFault Z) → IsTold stop fault → (sheets_unread stop ≡ true → P) → is_unread fault ≡ true → P
  stop_read P stop fault told h is = h (sym (told_unread stop fault told) ∙ is)

  pub stop_quiet : (P : Type 0) (stop : Stop Z) (fault : BulkFault Z) → IsTold stop fault → (sheets_unread stop ≡ false → P) → is_calm fault ≡ true → P
  stop_quiet P (stops.Input f) fault told h is = not_both (is_calm fault) P (ap is_calm told) is
  stop_quiet P (stops.Message at) fault told h is = h refl
  stop_quiet P (stops.NoMap number field) fault told h is = h refl
  stop_quiet P stops.InputLimit fault told h is = h refl
  stop_quiet P stops.NoMemory fault told h is = h refl

  -- where a message wasn't dealt, and a read failed, its dataset was open
  pub deal_quiet : (P K : Type 0) (end : Result Reach (Stop Z)) (fault : BulkFault Z) → OnOk end P → IfErr end (λ e. sheets_unread e ≡ false → P) → IfErr end (λ e. sheets_unread e ≡ true → K) → (K → is_calm fault ≡ false) → is_calm fault ≡ true → P
  deal_quiet P K (Ok reach) fault calm quiet known stays is = calm
  deal_quiet P K (Err (stops.Input f)) fault calm quiet known stays is = not_both (is_calm fault) P (stays (known refl)) is
  deal_quiet P K (Err (stops.Message at)) fault calm quiet known stays is = quiet refl
  deal_quiet P K (Err (stops.NoMap number field)) fault calm quiet known stays is = quiet refl
  deal_quiet P K (Err stops.InputLimit) fault calm quiet known stays is = quiet refl
  deal_quiet P K (Err stops.NoMemory) fault calm quiet known stays is = quiet refl

pub ok_so : {A E : Type 0} (P : Type 0) (r : Result A E) (a : A) → r ≡ Ok a → OnOk r P → P
ok_so P r a is h = subst (λ x. OnOk x P) is h

pub some_end : {A E : Type 0} (left : Option (List ℕ)) (P : Type 0) (r : Result A E) → IfSome left (λ octets. P) → IfSome left (λ octets. OnOk r P)
some_end None P r h = tt
some_end (Some octets) P (Ok a) h = h
some_end (Some octets) P (Err e) h = tt
