-- The steps of a listing over an input.
use Rattle.std.proofs.Common.{◌≡◌, ℕ, ◌+◌, ◌<◌, ◌≤◌, Bool, true, false, List, [], ◌++◌, length, take, Option, Some, None, Result, Ok, Err, refl, sym, ap, subst, ◌∙◌, append_assoc, arith, length-append}
use Rattle.std.proofs.lemmas.List.{append-nil, take_at}
use Rattle.std.specs.Prelude.{IfSome}
use Rattle.fd_io.specs.Streams.{Gives, IsAtEnd, Takes}
use Rattle.fd_io.proofs.Bytes.{Takes-none, Takes-more}
use Rattle.fd_sections.specs.Progress.{Progress}
use Rattle.fd_sections.specs.Message.{Sections}
use Rattle.fd_sections.specs.Splitting.{start, fed, finished}
use Rattle.fd_sections.specs.declared.refusal.Truncated.{Truncated}
use Rattle.fd_sections.specs.Stream.{stream, Stream, first}
use Rattle.fd_sections.specs.Joining.{IsStream, IsWaiting}
use Rattle.fd_sections.proofs.Joins.{all_ended, all_ended_so, splits_more, splits_nothing, splits_piece}
use Rattle.fd_outcome.specs.declared.listing.Listing.{Listing}
use Rattle.fd_streams.specs.declared.feeding.Stop.{Stop}
use Rattle.fd_streams.specs.declared.feeding.Stop.TheVariants as stops
use Rattle.fd_streams.specs.declared.listing.Halt.{Halt}
use Rattle.fd_streams.specs.declared.listing.Halt.TheVariants as halts
use Rattle.fd_split.specs.declared.refusal.Refusal.{Refusal}
use Rattle.fd_split.specs.declared.refusal.Refusal.TheVariants.{Cut, Input}
use Rattle.fd_split.specs.Limits.{input_limit}
use Rattle.fd_outcome.specs.Listed.{Listed, alone, ended, before, listed_after, listed_messages, listed}
use Rattle.fd_streams.specs.Feeding.{IsFed}
use Rattle.fd_streams.specs.Halted.{Comes, IsCut, IsRefused, IsListed, HaltedAs, Halted, ListedAll, halt_of}
use Rattle.fd_streams.specs.Run.{Reads, Gone}
use Rattle.fd_split.proofs.InputLaws.{all_of, front_of, begins_with}
use Rattle.fd_streams.proofs.Runs.{read_on, some_left}
use Rattle.fd_streams.proofs.ListingSteps.{both_listed, halted_behind, listed_end, listed_on}

abbrev Text : Type 0
Text = Option (List ℕ)

-- what is made of a stream
abbrev of_stream : Listing → Bool → Stream → Listed
of_stream listing past s = listed_after listing past 0 s

-- nothing was written, since memory was refused
pub list_starved : {A X : Type 0} (i a : Text) (listing : Listing) (r : Result A (Halt X)) → r ≡ Err halts.NoMemory → IfSome i (λ octets. Comes r a a (listed listing octets))
list_starved None a listing r e = tt
list_starved {A} {X} (Some octets) a listing r e = subst (λ (q : Result A (Halt X)). Comes q a a (listed listing octets)) (sym e) ([], (listed listing octets).lines, refl, Takes-none a)

-- nothing was read
pub began : (left a : Text) (listing : Listing) (p : Progress) → p ≡ start → Reads left left (Gone listing p a a)
began None a listing p e = tt
began (Some octets) a listing p e = ([], refl, subst (λ (q : Progress). Gone listing q a a []) (sym e) (record { messages = []; splits = splits_nothing start; lines = []; lists = refl; took = Takes-none a }))

-- a piece was fed, and the messages that were whole then were listed
gone_on : (listing : Listing) (p q : Progress) (a b c : Text) (piece seen : List ℕ) → Gone listing p a b seen → ListedAll listing (fed p piece) q b c → Gone listing q a c (seen ++ piece)
gone_on listing p q a b c piece seen s t =
    let g = t.goes_on in
    record {
      messages = s.messages ++ g.messages;
      splits = splits_more start p q seen piece s.messages g.messages s.splits (splits_piece p q piece g.messages g.splits);
      lines = s.lines ++ g.lines;
      lists = both_listed listing start p seen s.messages g.messages s.lines g.lines s.splits s.lists g.lists;
      took = Takes-more a b c s.lines g.lines s.took g.took;
    }

-- whatever more comes, it is listed behind what was written
gone_same : (listing : Listing) (past : Bool) (p : Progress) (a b : Text) (seen more : List ℕ) (s : Gone listing p a b seen) → listed_after listing past 0 (stream (seen ++ more)) ≡ before (Ok s.lines) (listed_after listing past p.given (stream (p.rest ++ more)))
gone_same listing past p a b seen more s = listed_on listing past start p seen s.messages s.lines more s.splits s.lists

-- the next turn
pub next_turn : (i j k : Text) (listing : Listing) (p q n : Progress) (a b c : Text) (piece : List ℕ) → Reads i j (Gone listing p a b) → Gives j k piece → q ≡ fed p piece → ListedAll listing q n b c → Reads i k (Gone listing n a c)
next_turn i j k listing p q n a b c piece r gives f t =
    read_on i j k piece (Gone listing p a b) (Gone listing n a c) r gives (λ seen s. gone_on listing p n a b c piece seen s (subst (λ (x : Progress). ListedAll listing x n b c) f t))

pub fed_on : (listing : Listing) (p q n : Progress) (b c : Text) (piece : List ℕ) → q ≡ fed p piece → ListedAll listing q n b c → n.fed ≡ p.fed + length piece
fed_on listing p q n b c piece f t = let here = t.goes_on.splits.fed in let before = ap (λ (x : Progress). x.fed) f in omega (arith, here, before)

-- a listing that halted after a piece was fed
halted_on : {X : Type 0} (listing : Listing) (past : Bool) (p : Progress) (a b c : Text) (piece seen more : List ℕ) (e : Halt X) → Gone listing p a b seen → Halted listing e (fed p piece) b c → HaltedAs e a c (listed_after listing past 0 (stream ((seen ++ piece) ++ more)))
halted_on listing past p a b c piece seen more e s h =
    let same : listed_after listing past 0 (stream ((seen ++ piece) ++ more)) ≡ before (Ok s.lines) (listed_after listing past p.given (stream ((p.rest ++ piece) ++ more))) =
    ap (λ (x : List ℕ). listed_after listing past 0 (stream x)) (append_assoc seen piece more)
    ∙ gone_same listing past p a b seen (piece ++ more) s
    ∙ ap (λ (x : List ℕ). before (Ok s.lines) (listed_after listing past p.given (stream x))) (sym (append_assoc p.rest piece more)) in
    subst (HaltedAs e a c) (sym same) (halted_behind e a b c s.lines (listed_after listing past p.given (stream ((p.rest ++ piece) ++ more))) s.took (h past more))

pub list_halted : {X : Type 0} (i j k : Text) (listing : Listing) (p q : Progress) (a b c : Text) (piece : List ℕ) (e : Halt X) → Reads i j (Gone listing p a b) → p.fed + length piece ≤ input_limit → Gives j k piece → q ≡ fed p piece → Halted listing e q b c → IfSome i (λ octets. HaltedAs e a c (listed listing octets))
list_halted None j k listing p q a b c piece e r le gives f h = tt
list_halted (Some octets) None k listing p q a b c piece e r le gives f h = absurd r
list_halted (Some octets) (Some left) None listing p q a b c piece e r le gives f h = absurd gives
list_halted (Some octets) (Some left) (Some after) listing p q a b c piece e r le gives f h =
    let all : octets ≡ (r.0 ++ piece) ++ after = r.1 ∙ ap (λ (t : List ℕ). r.0 ++ t) gives ∙ sym (append_assoc r.0 piece after) in
    let short : length (r.0 ++ piece) ≤ input_limit = let size = r.2.splits.fed in omega (arith, length-append r.0 piece, size) in
    begins_with (of_stream listing) octets (r.0 ++ piece) after (HaltedAs e a c) all short (λ past more. halted_on listing past p a b c piece r.0 more e r.2 (subst (λ (x : Progress). Halted listing e x b c) f h))

-- what was written is a front of all that is listed
pub list_cut : (i j : Text) (listing : Listing) (p : Progress) (a b : Text) → Reads i j (Gone listing p a b) → p.fed ≤ input_limit → IfSome i (λ octets. IsCut a b (listed listing octets))
list_cut None j listing p a b r le = tt
list_cut (Some octets) None listing p a b r le = absurd r
list_cut (Some octets) (Some left) listing p a b r le =
    let s = r.2 in
    let size = s.splits.fed in
    let short : length r.0 ≤ input_limit = omega (arith, size) in
    begins_with (of_stream listing) octets r.0 left (IsCut a b) r.1 short (λ past more. (s.lines, (listed_after listing past p.given (stream (p.rest ++ more))).lines, ap (λ (x : Listed). x.lines) (gone_same listing past p a b r.0 more s), s.took))

-- nothing was written
pub list_none : (i a : Text) (listing : Listing) → IfSome i (λ octets. IsCut a a (listed listing octets))
list_none None a listing = tt
list_none (Some octets) a listing = ([], (listed listing octets).lines, refl, Takes-none a)

-- the lines written are all
all_lines : (a b : Text) (lines : List ℕ) (refusal : Option Refusal) (x : Listed) → x ≡ before (Ok lines) (ended refusal) → Takes a b lines → Takes a b x.lines × (x.refusal ≡ refusal)
all_lines a b lines refusal x e took = (subst (Takes a b) (sym (ap (λ (y : Listed). y.lines) e ∙ append-nil lines)) took, ap (λ (y : Listed). y.refusal) e)

-- what is listed of an input that was read to its end
held_at_end : (octets seen left : List ℕ) (listing : Listing) (p : Progress) (a b : Text) (s : Gone listing p a b seen) → octets ≡ seen ++ left → left ≡ [] → p.fed ≤ input_limit → listed listing octets ≡ listed_after listing false 0 (stream seen)
held_at_end octets seen left listing p a b s is end le =
    let all : octets ≡ seen = is ∙ ap (λ (x : List ℕ). seen ++ x) end ∙ append-nil seen in
    let size = s.splits.fed in
    let small : length octets ≤ input_limit = omega (arith, ap length all, size) in
    all_of (of_stream listing) octets small ∙ ap (λ (x : List ℕ). listed_after listing false 0 (stream x)) all

-- ---- what was read is a stream of the messages that were listed

-- no message has begun behind them
at_whole : (listing : Listing) (octets : List ℕ) (ms : List Sections) (lines : List ℕ) (k : ℕ) → IsStream octets ms (Ok k) → listed_messages listing 1 None ms ≡ alone (Ok lines) → listed_after listing false 0 (stream octets) ≡ before (Ok lines) (ended None)
at_whole listing octets ms lines k is lists = ap (listed_after listing false 0) is ∙ listed_end listing 1 None ms lines lists

-- one is cut
at_cut : (listing : Listing) (octets : List ℕ) (ms : List Sections) (lines : List ℕ) (t : Truncated) → IsStream octets ms (Err t) → listed_messages listing 1 None ms ≡ alone (Ok lines) → listed_after listing false 0 (stream octets) ≡ before (Ok lines) (ended (Some (Cut t)))
at_cut listing octets ms lines t (number, (k, is)) lists =
    let n : 0 + length ms + 1 ≡ t.number = omega (arith, number) in
    ap (listed_after listing false 0) is
    ∙ listed_end listing 1 (Some (Cut (record { number = 0 + length ms + 1; have = t.have; want = t.want }))) ms lines lists
    ∙ ap (λ (i : ℕ). before (Ok lines) (ended (Some (Cut (record { number = i; have = t.have; want = t.want }))))) n

-- octets come beyond the limit, and nothing below it is refused
at_limit : (listing : Listing) (octets : List ℕ) (ms : List Sections) (lines : List ℕ) (r : Result ℕ Truncated) → IsStream octets ms r → listed_messages listing 1 None ms ≡ alone (Ok lines) → listed_after listing true 0 (stream octets) ≡ before (Ok lines) (ended (Some Input))
at_limit listing octets ms lines (Ok k) is lists = ap (listed_after listing true 0) is ∙ listed_end listing 1 (Some Input) ms lines lists
at_limit listing octets ms lines (Err t) (number, (k, is)) lists = ap (listed_after listing true 0) is ∙ listed_end listing 1 (Some Input) ms lines lists

-- the input was read to its end, and no message has begun
pub list_whole : (i j : Text) (listing : Listing) (p : Progress) (a b : Text) (k : ℕ) → Reads i j (Gone listing p a b) → p.fed ≤ input_limit → IsAtEnd j → IsWaiting p → Ok k ≡ finished p (first p.rest) → IfSome i (λ octets. IsListed a b (listed listing octets))
list_whole None j listing p a b k r le end w e = tt
list_whole (Some octets) None listing p a b k r le end w e = absurd r
list_whole (Some octets) (Some left) listing p a b k r le end w e =
    let s = r.2 in
    all_lines a b s.lines None (listed listing octets) (held_at_end octets r.0 left listing p a b s r.1 end le ∙ at_whole listing r.0 s.messages s.lines k (all_ended_so p r.0 s.messages (Ok k) s.splits w e) s.lists) s.took

-- a message was cut
pub list_truncated : (i j : Text) (listing : Listing) (p : Progress) (a b : Text) (t : Truncated) → Reads i j (Gone listing p a b) → p.fed ≤ input_limit → IsAtEnd j → IsWaiting p → Err t ≡ finished p (first p.rest) → IfSome i (λ octets. IsRefused (Cut t) a b (listed listing octets))
list_truncated None j listing p a b t r le end w e = tt
list_truncated (Some octets) None listing p a b t r le end w e = absurd r
list_truncated (Some octets) (Some left) listing p a b t r le end w e =
    let s = r.2 in
    all_lines a b s.lines (Some (Cut t)) (listed listing octets) (held_at_end octets r.0 left listing p a b s r.1 end le ∙ at_cut listing r.0 s.messages s.lines t (all_ended_so p r.0 s.messages (Err t) s.splits w e) s.lists) s.took

-- the input is longer than the limit
pub list_past : (i j k : Text) (listing : Listing) (p : Progress) (a b : Text) (piece : List ℕ) → Reads i j (Gone listing p a b) → p.fed ≡ input_limit → Gives j k piece → 0 < length piece → IsWaiting p → IfSome i (λ octets. IsRefused Input a b (listed listing octets))
list_past None j k listing p a b piece r full gives some w = tt
list_past (Some octets) None k listing p a b piece r full gives some w = absurd r
list_past (Some octets) (Some left) k listing p a b piece r full gives some w =
    let s = r.2 in
    let count = s.splits.fed in
    let size : length r.0 ≡ input_limit = omega (arith, count, full) in
    let more : length piece ≤ length left = some_left (Some left) k piece left refl gives in
    let long : input_limit < length octets = omega (arith, ap length r.1, length-append r.0 left) in
    let front : take input_limit octets ≡ r.0 = ap (take input_limit) r.1 ∙ take_at r.0 left input_limit size in
    all_lines a b s.lines (Some Input) (listed listing octets)
    (front_of (of_stream listing) octets long
    ∙ ap (λ (x : List ℕ). listed_after listing true 0 (stream x)) front
    ∙ at_limit listing r.0 s.messages s.lines (finished p (first p.rest)) (all_ended p r.0 s.messages s.splits w) s.lists)
    s.took

-- no more was read
pub list_unfed : {X : Type 0} (i j k : Text) (listing : Listing) (p q : Progress) (a b : Text) (e : Stop X) (halt : Halt X) → halt ≡ halt_of e → Reads i j (Gone listing p a b) → p.fed ≤ input_limit → IsWaiting p → IsFed p q j k (Err e) → IfSome i (λ octets. HaltedAs halt a b (listed listing octets))
list_unfed i j k listing p q a b (stops.Fault fault) halt is r le w u = subst (λ (h : Halt _). IfSome i (λ octets. HaltedAs h a b (listed listing octets))) (sym is) (list_cut i j listing p a b r le)
list_unfed i j k listing p q a b (stops.Refused refusal) halt is r le w (same, past) =
    subst (λ (h : Halt _). IfSome i (λ octets. HaltedAs h a b (listed listing octets)))
    (sym (is ∙ ap (λ (x : Refusal). halts.Refused x) same))
    (list_past i j k listing p a b past.piece r past.full past.gives past.some w)
list_unfed i j k listing p q a b stops.NoMemory halt is r le w u = subst (λ (h : Halt _). IfSome i (λ octets. HaltedAs h a b (listed listing octets))) (sym is) (list_cut i j listing p a b r le)
