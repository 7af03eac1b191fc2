-- The steps of a search over an input.
use Rattle.std.proofs.Common.{◌≡◌, ℕ, ◌+◌, ◌<◌, ◌≤◌, Bool, true, false, List, [], ◌++◌, length, take, Option, Some, None, Result, Ok, Err, refl, sym, ap, subst, ◌∙◌, append_assoc, arith, length-append}
use Rattle.std.proofs.lemmas.List.{append-nil, take_at}
use Rattle.std.specs.Prelude.{IfSome}
use Rattle.fd_io.specs.Streams.{Gives, IsAtEnd}
use Rattle.fd_sections.specs.Message.{Sections}
use Rattle.fd_sections.specs.Progress.{Progress}
use Rattle.fd_sections.specs.Splitting.{start, fed, finished}
use Rattle.fd_sections.specs.declared.refusal.Truncated.{Truncated}
use Rattle.fd_sections.specs.Stream.{stream, first, first_at}
use Rattle.fd_sections.specs.Joining.{IsStream, IsWaiting}
use Rattle.fd_sections.proofs.Joins.{all_ended, all_ended_so, splits_more, splits_nothing, splits_piece}
use Rattle.fd_key.specs.Pairs.{Pair}
use Rattle.fd_streams.specs.declared.picking.Last.{Last}
use Rattle.fd_streams.specs.declared.feeding.Stop.{Stop}
use Rattle.fd_streams.specs.declared.feeding.Stop.TheVariants as stops
use Rattle.fd_split.specs.declared.refusal.Refusal.{Refusal}
use Rattle.fd_split.specs.declared.refusal.Refusal.TheVariants.{Cut, Input}
use Rattle.fd_split.specs.Limits.{input_limit}
use Rattle.fd_split.proofs.InputLaws.{all_of, front_of, begins_with}
use Rattle.fd_outcome.specs.Picking.{found, found_after, keyless, last_wanted, unless}
use Rattle.fd_streams.specs.Feeding.{IsFed}
use Rattle.fd_streams.specs.Found.{IsLast, StoppedAs, Stopped, TookAll}
use Rattle.fd_streams.specs.Run.{Reads, Searched}
use Rattle.fd_streams.proofs.Steps.{both_keyed, found_on, last_more}

-- a piece was read
pub read_on : (a b c : Option (List ℕ)) (piece : List ℕ) (P Q : List ℕ → Type 0) → Reads a b P → Gives b c piece → ((seen : List ℕ) → P seen → Q (seen ++ piece)) → Reads a c Q
read_on None b c piece P Q r gives step = tt
read_on (Some octets) None c piece P Q r gives step = absurd r
read_on (Some octets) (Some left) None piece P Q r gives step = absurd gives
read_on (Some octets) (Some left) (Some after) piece P Q r gives step =
    (r.0 ++ piece, r.1 ∙ ap (λ (t : List ℕ). r.0 ++ t) gives ∙ sym (append_assoc r.0 piece after), step r.0 r.2)

-- a piece was fed, and the messages that were whole then were taken
pub searched_on : (wanted : List Pair) (p q : Progress) (old new : Last) (piece seen : List ℕ) → Searched wanted p old seen → TookAll wanted (fed p piece) q old new → Searched wanted q new (seen ++ piece)
searched_on wanted p q old new piece seen s t =
    let g = t.goes_on in
    record {
      messages = s.messages ++ g.messages;
      splits = splits_more start p q seen piece s.messages g.messages s.splits (splits_piece p q piece g.messages g.splits);
      keyed = both_keyed start p seen s.messages g.messages s.splits s.keyed g.keyed;
      is_last = subst (IsLast new) (sym (last_more wanted None s.messages g.messages)) (g.finds (last_wanted wanted None s.messages) s.is_last);
    }

-- a search that stopped after a piece was fed
pub stopped_on : {X : Type 0} (wanted : List Pair) (past : Bool) (p : Progress) (last : Last) (piece seen more : List ℕ) (e : Stop X) → Searched wanted p last seen → Stopped wanted e (fed p piece) last → StoppedAs e (found_after wanted past 0 None (stream ((seen ++ piece) ++ more)))
stopped_on wanted past p last piece seen more e s h =
    subst (StoppedAs e)
    (sym (ap (λ (x : List ℕ). found_after wanted past 0 None (stream x)) (append_assoc seen piece more)
    ∙ found_on wanted past start p seen s.messages None (piece ++ more) s.splits s.keyed
    ∙ ap (λ (t : List ℕ). found_after wanted past p.given (last_wanted wanted None s.messages) (stream t)) (sym (append_assoc p.rest piece more))))
    (h past (last_wanted wanted None s.messages) s.is_last more)

searched_start : (wanted : List Pair) (last : Last) → last.found ≡ false → Searched wanted start last []
searched_start wanted last h = record { messages = []; splits = splits_nothing start; keyed = refl; is_last = h }

-- nothing was read
pub began : (left : Option (List ℕ)) (wanted : List Pair) (p : Progress) (last : Last) → p ≡ start → last.found ≡ false → Reads left left (Searched wanted p last)
began None wanted p last e h = tt
began (Some octets) wanted p last e h = ([], refl, subst (λ (q : Progress). Searched wanted q last []) (sym e) (searched_start wanted last h))

waiting_first : IsWaiting start
unfolding first_at
waiting_first = refl

pub waiting_start : (p : Progress) → p ≡ start → IsWaiting p
waiting_start p e = subst IsWaiting (sym e) waiting_first

-- an input within the limit, and one beyond it
within : (wanted : List Pair) (octets : List ℕ) → length octets ≤ input_limit → found wanted octets ≡ found_after wanted false 0 None (stream octets)
within wanted octets le = all_of (λ past s. found_after wanted past 0 None s) octets le

beyond : (wanted : List Pair) (octets : List ℕ) → input_limit < length octets → found wanted octets ≡ found_after wanted true 0 None (stream (take input_limit octets))
beyond wanted octets lt = front_of (λ past s. found_after wanted past 0 None s) octets lt

-- ---- what was read is a stream of the messages that were gone over

-- no message has begun behind them
at_whole : (wanted : List Pair) (octets : List ℕ) (ms : List Sections) (k : ℕ) → IsStream octets ms (Ok k) → keyless 1 ms ≡ None → found_after wanted false 0 None (stream octets) ≡ Ok (last_wanted wanted None ms)
at_whole wanted octets ms k is keyed = ap (found_after wanted false 0 None) is ∙ ap (λ (o : Option Refusal). unless o (Ok (last_wanted wanted None ms))) keyed

-- one is cut
at_cut : (wanted : List Pair) (octets : List ℕ) (ms : List Sections) (t : Truncated) → IsStream octets ms (Err t) → keyless 1 ms ≡ None → found_after wanted false 0 None (stream octets) ≡ Err (Cut t)
at_cut wanted octets ms t (number, (k, is)) keyed =
    let n : 0 + length ms + 1 ≡ t.number = omega (arith, number) in
    ap (found_after wanted false 0 None) is
    ∙ ap (λ (o : Option Refusal). unless o (Err (Cut (record { number = 0 + length ms + 1; have = t.have; want = t.want })))) keyed
    ∙ ap (λ (i : ℕ). Err (Cut (record { number = i; have = t.have; want = t.want }))) n

-- octets come beyond the limit, and nothing below it is refused
at_limit : (wanted : List Pair) (octets : List ℕ) (ms : List Sections) (r : Result ℕ Truncated) → IsStream octets ms r → keyless 1 ms ≡ None → found_after wanted true 0 None (stream octets) ≡ Err Input
at_limit wanted octets ms (Ok k) is keyed = ap (found_after wanted true 0 None) is ∙ ap (λ (o : Option Refusal). unless o (Err Input)) keyed
at_limit wanted octets ms (Err t) (number, (k, is)) keyed = ap (found_after wanted true 0 None) is ∙ ap (λ (o : Option Refusal). unless o (Err Input)) keyed

-- the input was read to its end, and no message has begun
pub found_last : (a b : Option (List ℕ)) (wanted : List Pair) (p : Progress) (last : Last) (k : ℕ) → Reads a b (Searched wanted p last) → p.fed ≤ input_limit → IsAtEnd b → IsWaiting p → Ok k ≡ finished p (first p.rest) → IfSome a (λ octets. (m : Option Sections) × (found wanted octets ≡ Ok m) × IsLast last m)
found_last None b wanted p last k r le end w e = tt
found_last (Some octets) None wanted p last k r le end w e = absurd r
found_last (Some octets) (Some left) wanted p last k r le end w e =
    let s = r.2 in
    let all : octets ≡ r.0 = r.1 ∙ ap (λ (t : List ℕ). r.0 ++ t) end ∙ append-nil r.0 in
    let size = s.splits.fed in
    let small : length octets ≤ input_limit = omega (arith, ap length all, size) in (
      last_wanted wanted None s.messages,
      within wanted octets small ∙ ap (λ (x : List ℕ). found_after wanted false 0 None (stream x)) all ∙ at_whole wanted r.0 s.messages k (all_ended_so p r.0 s.messages (Ok k) s.splits w e) s.keyed,
      s.is_last,
    )

-- a message was cut
pub found_cut : (a b : Option (List ℕ)) (wanted : List Pair) (p : Progress) (last : Last) (t : Truncated) → Reads a b (Searched wanted p last) → p.fed ≤ input_limit → IsAtEnd b → IsWaiting p → Err t ≡ finished p (first p.rest) → IfSome a (λ octets. found wanted octets ≡ Err (Cut t))
found_cut None b wanted p last t r le end w e = tt
found_cut (Some octets) None wanted p last t r le end w e = absurd r
found_cut (Some octets) (Some left) wanted p last t r le end w e =
    let s = r.2 in
    let all : octets ≡ r.0 = r.1 ∙ ap (λ (x : List ℕ). r.0 ++ x) end ∙ append-nil r.0 in
    let size = s.splits.fed in
    let small : length octets ≤ input_limit = omega (arith, ap length all, size) in
    within wanted octets small ∙ ap (λ (x : List ℕ). found_after wanted false 0 None (stream x)) all ∙ at_cut wanted r.0 s.messages t (all_ended_so p r.0 s.messages (Err t) s.splits w e) s.keyed

pub some_left : (b c : Option (List ℕ)) (piece left : List ℕ) → b ≡ Some left → Gives b c piece → length piece ≤ length left
some_left None c piece left e gives = absurd cc
some_left (Some old) None piece left e gives = absurd gives
some_left (Some old) (Some new) piece left e gives =
    let same : Some old ≡ Some left = e in
    let is : old ≡ left = cc in
    omega (arith, ap length (sym is ∙ gives), length-append piece new)

-- the input is longer than the limit
pub found_past : (a b c : Option (List ℕ)) (wanted : List Pair) (p : Progress) (last : Last) (piece : List ℕ) → Reads a b (Searched wanted p last) → p.fed ≡ input_limit → Gives b c piece → 0 < length piece → IsWaiting p → IfSome a (λ octets. found wanted octets ≡ Err Input)
found_past None b c wanted p last piece r full gives some w = tt
found_past (Some octets) None c wanted p last piece r full gives some w = absurd r
found_past (Some octets) (Some left) c wanted p last piece r full gives some w =
    let s = r.2 in
    let count = s.splits.fed in
    let size : length r.0 ≡ input_limit = omega (arith, count, full) in
    let more : length piece ≤ length left = some_left (Some left) c piece left refl gives in
    let long : input_limit < length octets = omega (arith, ap length r.1, length-append r.0 left) in
    let front : take input_limit octets ≡ r.0 = ap (take input_limit) r.1 ∙ take_at r.0 left input_limit size in
    beyond wanted octets long ∙ ap (λ (x : List ℕ). found_after wanted true 0 None (stream x)) front ∙ at_limit wanted r.0 s.messages (finished p (first p.rest)) (all_ended p r.0 s.messages s.splits w) s.keyed

-- the end of the input
pub at_end : (a b c : Option (List ℕ)) (P : List ℕ → Type 0) → Reads a b P → IsAtEnd b → Gives b c [] → IfSome a (λ octets. c ≡ Some [])
at_end None b c P r end gives = tt
at_end (Some octets) None c P r end gives = absurd r
at_end (Some octets) (Some left) None P r end gives = absurd gives
at_end (Some octets) (Some left) (Some after) P r end gives = ap (λ (x : List ℕ). Some x) (sym gives ∙ end)

-- where nothing was fed, the splitter is where it was
pub waiting_still : (p q : Progress) → q ≡ p → IsWaiting p → IsWaiting q
waiting_still p q same w = subst IsWaiting (sym same) w

pub finished_still : (p q : Progress) (r : Result ℕ Truncated) → q ≡ p → r ≡ finished q (first q.rest) → r ≡ finished p (first p.rest)
finished_still p q r same e = subst (λ (x : Progress). r ≡ finished x (first x.rest)) same e

-- the search stopped
pub found_stop : {X : Type 0} (a b c : Option (List ℕ)) (wanted : List Pair) (p q : Progress) (last : Last) (piece : List ℕ) (e : Stop X) → Reads a b (Searched wanted p last) → p.fed + length piece ≤ input_limit → Gives b c piece → q ≡ fed p piece → Stopped wanted e q last → IfSome a (λ octets. StoppedAs e (found wanted octets))
found_stop None b c wanted p q last piece e r le gives f h = tt
found_stop (Some octets) None c wanted p q last piece e r le gives f h = absurd r
found_stop (Some octets) (Some left) None wanted p q last piece e r le gives f h = absurd gives
found_stop (Some octets) (Some left) (Some after) wanted p q last piece e r le gives f h =
    let all : octets ≡ (r.0 ++ piece) ++ after = r.1 ∙ ap (λ (t : List ℕ). r.0 ++ t) gives ∙ sym (append_assoc r.0 piece after) in
    let short : length (r.0 ++ piece) ≤ input_limit = let size = r.2.splits.fed in omega (arith, length-append r.0 piece, size) in
    begins_with (λ past s. found_after wanted past 0 None s) octets (r.0 ++ piece) after (StoppedAs e) all short (λ past more. stopped_on wanted past p last piece r.0 more e r.2 (subst (λ (x : Progress). Stopped wanted e x last) f h))

-- the next turn
pub next_turn : (a b c : Option (List ℕ)) (wanted : List Pair) (p q n : Progress) (old new : Last) (piece : List ℕ) → Reads a b (Searched wanted p old) → Gives b c piece → q ≡ fed p piece → TookAll wanted q n old new → Reads a c (Searched wanted n new)
next_turn a b c wanted p q n old new piece r gives f t =
    read_on a b c piece (Searched wanted p old) (Searched wanted n new) r gives (λ seen s. searched_on wanted p n old new piece seen s (subst (λ (x : Progress). TookAll wanted x n old new) f t))

pub fed_on : (wanted : List Pair) (p q n : Progress) (old new : Last) (piece : List ℕ) → q ≡ fed p piece → TookAll wanted q n old new → n.fed ≡ p.fed + length piece
fed_on wanted p q n old new piece f t = let here = t.goes_on.splits.fed in let before = ap (λ (x : Progress). x.fed) f in omega (arith, here, before)

-- no more was read
pub found_unfed : {X : Type 0} (a b c : Option (List ℕ)) (wanted : List Pair) (p q : Progress) (last : Last) (e : Stop X) → Reads a b (Searched wanted p last) → IsWaiting p → IsFed p q b c (Err e) → IfSome a (λ octets. StoppedAs e (found wanted octets))
found_unfed None b c wanted p q last e r w u = tt
found_unfed (Some octets) b c wanted p q last (stops.Fault fault) r w u = tt
found_unfed (Some octets) b c wanted p q last (stops.Refused refusal) r w (is, past) = found_past (Some octets) b c wanted p last past.piece r past.full past.gives past.some w ∙ ap (λ (x : Refusal). Err x) (sym is)
found_unfed (Some octets) b c wanted p q last stops.NoMemory r w u = tt
