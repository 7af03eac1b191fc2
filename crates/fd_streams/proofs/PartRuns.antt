-- The steps of a splitting over an input.
use Rattle.std.proofs.Common.{◌≡◌, ℕ, ◌+◌, ◌<◌, ◌≤◌, Bool, true, false, List, [], ◌++◌, length, take, Option, Some, None, Result, Ok, Err, refl, sym, ap, subst, ◌∙◌, append_assoc, append-nil, arith, length-append}
use Rattle.std.proofs.lemmas.List.{take_at}
use Rattle.std.specs.Prelude.{IfSome}
use Rattle.fd_io.specs.Streams.{Gives, IsAtEnd, Takes}
use Rattle.fd_io.proofs.Bytes.{Takes-none, Takes-more}
use Rattle.fd_sections.specs.Progress.{Progress}
use Rattle.fd_sections.specs.Splitting.{start, fed, finished}
use Rattle.fd_sections.specs.declared.refusal.Truncated.{Truncated}
use Rattle.fd_sections.specs.Stream.{first}
use Rattle.fd_sections.specs.Frames.{Frames, FramesEnd, frames}
use Rattle.fd_sections.specs.Joining.{IsWaiting}
use Rattle.fd_sections.proofs.Frames.{ends_framed}
use Rattle.fd_split.specs.declared.refusal.Refusal.{Refusal}
use Rattle.fd_split.specs.declared.refusal.Refusal.TheVariants.{Cut, Input}
use Rattle.fd_split.specs.Limits.{input_limit}
use Rattle.fd_split.specs.Fields.{FieldList, Numbered, behind_fields, fields_after}
use Rattle.fd_split.specs.Positions.{FieldsOn, at_message, fed_at, fields_from}
use Rattle.fd_outcome.specs.Listed.{Listed}
use Rattle.fd_outcome.specs.Splitting.{Split, octets_of, split_after, split_of}
use Rattle.fd_split.proofs.FrameLaws.{all_of, front_of, begins_with}
use Rattle.fd_split.proofs.Positions.{fields_fed, fields_more}
use Rattle.fd_streams.specs.declared.feeding.Stop.{Stop}
use Rattle.fd_streams.specs.declared.feeding.Stop.TheVariants as stops
use Rattle.fd_streams.specs.declared.listing.Halt.{Halt}
use Rattle.fd_streams.specs.declared.listing.Halt.TheVariants as halts
use Rattle.fd_streams.specs.declared.parting.Tally.{Tally}
use Rattle.fd_streams.specs.Feeding.{IsFed}
use Rattle.fd_streams.specs.Halted.{HaltedAs, IsCut, IsRefused, halt_of}
use Rattle.fd_streams.specs.Parted.{HaltsParting, IsParted, Parted, Parts, PartsAll, lines_of, written_of}
use Rattle.fd_streams.specs.Run.{Reads}
use Rattle.fd_streams.proofs.Runs.{read_on, some_left}
use Rattle.fd_streams.proofs.ListingSteps.{halted_behind}
use Rattle.fd_streams.proofs.PartSteps.{octets_both, shifted, written_behind}

abbrev Text : Type 0
Text = Option (List ℕ)

-- nothing was read
pub began : (left a : Text) (p : Progress) → p ≡ start → Reads left left (Parted p 0 a a)
began None a p e = tt
began (Some octets) a p e = ([], refl, subst (λ (q : Progress). Parted q 0 a a []) (sym e) (record { fields = []; on = record { is_fed = refl; counts = refl; joins = λ past more. refl; skips = λ more. refl }; took = Takes-none a }))

-- a piece came behind the octets seen
fed_seen : (p : Progress) (n : ℕ) (f : List Numbered) (seen piece : List ℕ) → FieldsOn (fed_at (at_message start 0) seen) (at_message p n) f → FieldsOn (fed_at (at_message start 0) (seen ++ piece)) (at_message (fed p piece) n) f
fed_seen p n f seen piece s =
    let t = fields_fed (fed_at (at_message start 0) seen) (at_message p n) piece f s in
    record {
      is_fed = let e = t.is_fed in omega (arith, e, length-append seen piece);
      counts = t.counts;
      joins = t.joins;
      skips = t.skips;
    }

-- a piece was fed, and the fields of the messages that were whole then were written
gone_on : (p q : Progress) (n k : ℕ) (a b c : Text) (piece seen : List ℕ) → Parted p n a b seen → PartsAll k (fed p piece) q b c → Parted q (n + k) a c (seen ++ piece)
gone_on p q n k a b c piece seen s t =
    let g = t.goes_on in
    record {
      fields = s.fields ++ g.fields;
      on = fields_more (fed_at (at_message start 0) (seen ++ piece)) (at_message (fed p piece) n) (at_message q (n + k)) s.fields g.fields (fed_seen p n s.fields seen piece s.on) (shifted (fed p piece) q n k g.fields g.on);
      took = subst (Takes a c) (sym (octets_both s.fields g.fields)) (Takes-more a b c (octets_of s.fields) (octets_of g.fields) s.took g.took);
    }

-- the next turn
pub next_turn : (i j l : Text) (p q r : Progress) (n k : ℕ) (a b c : Text) (piece : List ℕ) → Reads i j (Parted p n a b) → Gives j l piece → q ≡ fed p piece → PartsAll k q r b c → Reads i l (Parted r (n + k) a c)
next_turn i j l p q r n k a b c piece x gives f t =
    read_on i j l piece (Parted p n a b) (Parted r (n + k) a c) x gives (λ seen s. gone_on p r n k a b c piece seen s (subst (λ (y : Progress). PartsAll k y r b c) f t))

pub fed_on : (p q r : Progress) (k : ℕ) (b c : Text) (piece : List ℕ) → q ≡ fed p piece → PartsAll k q r b c → r.fed ≡ p.fed + length piece
fed_on p q r k b c piece f t = let here = t.goes_on.on.is_fed in let before = ap (λ (x : Progress). x.fed) f in omega (arith, here, before)

-- the fields are no more than the octets that were gone over
pub few_on : (p q r : Progress) (n k : ℕ) (b c : Text) (piece : List ℕ) → n + length p.rest ≤ p.fed → q ≡ fed p piece → PartsAll k q r b c → (n + k) + length r.rest ≤ p.fed + length piece
few_on p q r n k b c piece e f t = let few = t.few in let came = ap (λ (x : Progress). length x.rest) f in omega (arith, few, came, length-append p.rest piece, e)

-- ---- whatever more comes, it stands behind what was written

-- the octets that were seen, of which the splitter was fed no fewer
seen_fed : (p : Progress) (n : ℕ) (f : List Numbered) (seen : List ℕ) → FieldsOn (fed_at (at_message start 0) seen) (at_message p n) f → length seen ≡ p.fed
seen_fed p n f seen s = let e = s.is_fed in omega (arith, e)

gone_same : (past : Bool) (p : Progress) (n : ℕ) (a b : Text) (seen more : List ℕ) (s : Parted p n a b seen) → fields_after past 0 (frames (seen ++ more)) ≡ behind_fields s.fields (fields_from (at_message p n) past more)
gone_same past p n a b seen more s = s.on.joins past more

lines_same : (past : Bool) (p : Progress) (n : ℕ) (a b : Text) (seen more : List ℕ) (s : Parted p n a b seen) → lines_of (split_after past (frames (seen ++ more))) ≡ written_of (behind_fields s.fields (fields_from (at_message p n) past more))
lines_same past p n a b seen more s = ap written_of (gone_same past p n a b seen more s)

-- a splitting that halted after a piece was fed
halted_on : {X : Type 0} (past : Bool) (p : Progress) (n : ℕ) (a b c : Text) (piece seen more : List ℕ) (e : Halt X) → Parted p n a b seen → HaltsParting e (fed p piece) b c → HaltedAs e a c (lines_of (split_after past (frames ((seen ++ piece) ++ more))))
halted_on past p n a b c piece seen more e s h =
    let on = fed_seen p n s.fields seen piece s.on in
    let same : lines_of (split_after past (frames ((seen ++ piece) ++ more))) ≡ written_of (behind_fields s.fields (fields_from (at_message (fed p piece) 0) past more)) = ap written_of (on.joins past more) in
    subst (HaltedAs e a c) (written_behind s.fields (fields_from (at_message (fed p piece) 0) past more) ∙ sym same)
    (halted_behind e a b c (octets_of s.fields) (written_of (fields_from (at_message (fed p piece) 0) past more)) s.took (h past more))

pub part_halted : {X : Type 0} (i j l : Text) (p q : Progress) (n : ℕ) (a b c : Text) (piece : List ℕ) (e : Halt X) → Reads i j (Parted p n a b) → p.fed + length piece ≤ input_limit → Gives j l piece → q ≡ fed p piece → HaltsParting e q b c → IfSome i (λ octets. HaltedAs e a c (lines_of (split_of octets)))
part_halted None j l p q n a b c piece e r le gives f h = tt
part_halted (Some octets) None l p q n a b c piece e r le gives f h = absurd r
part_halted (Some octets) (Some left) None p q n a b c piece e r le gives f h = absurd gives
part_halted (Some octets) (Some left) (Some after) p q n a b c piece e r le gives f h =
    let all : octets ≡ (r.0 ++ piece) ++ after = r.1 ∙ ap (λ (t : List ℕ). r.0 ++ t) gives ∙ sym (append_assoc r.0 piece after) in
    let size = seen_fed p n r.2.fields r.0 r.2.on in
    let short : length (r.0 ++ piece) ≤ input_limit = omega (arith, length-append r.0 piece, size, le) in
    begins_with split_after octets (r.0 ++ piece) after (λ x. HaltedAs e a c (lines_of x)) all short (λ past more. halted_on past p n a b c piece r.0 more e r.2 (subst (λ (x : Progress). HaltsParting e x b c) f h))

-- what was written is a front of all fields
pub part_cut : (i j : Text) (p : Progress) (n : ℕ) (a b : Text) → Reads i j (Parted p n a b) → p.fed ≤ input_limit → IfSome i (λ octets. IsCut a b (lines_of (split_of octets)))
part_cut None j p n a b r le = tt
part_cut (Some octets) None p n a b r le = absurd r
part_cut (Some octets) (Some left) p n a b r le =
    let s = r.2 in
    let size = seen_fed p n s.fields r.0 s.on in
    let short : length r.0 ≤ input_limit = omega (arith, size, le) in
    begins_with split_after octets r.0 left (λ x. IsCut a b (lines_of x)) r.1 short (λ past more.
    let x = fields_from (at_message p n) past more in
    (octets_of s.fields, octets_of x.fields, ap (λ (y : Listed). y.lines) (lines_same past p n a b r.0 more s) ∙ octets_both s.fields x.fields, s.took))

-- nothing was written, since memory was refused
pub part_starved : {X : Type 0} (i a : Text) (r : Result Tally (Halt X)) → r ≡ Err halts.NoMemory → IfSome i (λ octets. Parts r a a (split_of octets))
part_starved None a r e = tt
part_starved {X} (Some octets) a r e = subst (λ (q : Result Tally (Halt X)). Parts q a a (split_of octets)) (sym e) ([], octets_of (split_of octets).fields, refl, Takes-none a)

-- ---- the input was read to its end, or to the limit

-- the fields that were written are all, and they end so
record Ended (past : Bool) (seen : List ℕ) (f : List Numbered) (refusal : Option Refusal) (skips : ℕ) : Type 0 where
  fields : (split_after past (frames seen)).fields ≡ f
  refusal_is : (split_after past (frames seen)).refusal ≡ refusal
  junk : (split_after past (frames seen)).junk ≡ skips

ended_so : (past : Bool) (p : Progress) (n : ℕ) (a b : Text) (seen : List ℕ) (s : Parted p n a b seen) (k : ℕ) (refusal : Option Refusal) → fields_after past p.given (frames p.rest) ≡ record { fields = []; refusal = refusal; next = p.given + 1 } → (frames p.rest).skipped ≡ k → Ended past seen s.fields refusal (p.skipped + k)
ended_so past p n a b seen s k refusal after passed =
    let same : fields_after past 0 (frames seen) ≡ behind_fields s.fields (fields_after past p.given (frames p.rest)) =
    ap (λ (x : List ℕ). fields_after past 0 (frames x)) (sym (append-nil seen)) ∙ gone_same past p n a b seen [] s ∙ ap (λ (x : List ℕ). behind_fields s.fields (fields_after past p.given (frames x))) (append-nil p.rest) in
    let all = same ∙ ap (behind_fields s.fields) after in
    let skips : (frames seen).skipped ≡ p.skipped + (frames p.rest).skipped =
    let a = ap (λ (x : List ℕ). (frames x).skipped) (append-nil seen) in
    let b = ap (λ (x : List ℕ). (frames x).skipped) (append-nil p.rest) in
    let c : 0 + (frames (seen ++ [])).skipped ≡ p.skipped + (frames (p.rest ++ [])).skipped = s.on.skips [] in
    omega (arith, a, b, c) in
    record {
      fields = ap (λ (x : FieldList). x.fields) all ∙ append-nil s.fields;
      refusal_is = ap (λ (x : FieldList). x.refusal) all;
      junk = skips ∙ ap (λ (k : ℕ). p.skipped + k) passed;
    }

-- all fields were written
all_lines : (past : Bool) (a b : Text) (seen : List ℕ) (f : List Numbered) (refusal : Option Refusal) (k : ℕ) → Ended past seen f refusal k → Takes a b (octets_of f) → Takes a b (lines_of (split_after past (frames seen))).lines × ((lines_of (split_after past (frames seen))).refusal ≡ refusal)
all_lines past a b seen f refusal k e took = (subst (λ (x : List Numbered). Takes a b (octets_of x)) (sym e.fields) took, e.refusal_is)

-- what is made of an input that was read to its end
held_at_end : (octets seen left : List ℕ) (p : Progress) (n : ℕ) (a b : Text) (s : Parted p n a b seen) → octets ≡ seen ++ left → left ≡ [] → p.fed ≤ input_limit → split_of octets ≡ split_after false (frames seen)
held_at_end octets seen left p n a b s is end le =
    let all : octets ≡ seen = is ∙ ap (λ (x : List ℕ). seen ++ x) end ∙ append-nil seen in
    let size = seen_fed p n s.fields seen s.on in
    let small : length octets ≤ input_limit = omega (arith, ap length all, size, le) in
    all_of split_after octets small ∙ ap (λ (x : List ℕ). split_after false (frames x)) all

counted : (p : Progress) → p.given + 0 ≡ p.given
counted p = omega arith

-- the input was read to its end, and no message has begun
pub part_whole : (i j : Text) (p : Progress) (n : ℕ) (a b : Text) (t : Tally) → Reads i j (Parted p n a b) → p.fed ≤ input_limit → IsAtEnd j → IsWaiting p → Ok t.junk ≡ finished p (first p.rest) → t.fields ≡ n → IfSome i (λ octets. IsParted t a b (split_of octets))
part_whole None j p n a b t r le end w e count = tt
part_whole (Some octets) None p n a b t r le end w e count = absurd r
part_whole (Some octets) (Some left) p n a b t r le end w e count =
    let s = r.2 in
    let x : FramesEnd p (Ok t.junk) = subst (FramesEnd p) (sym e) (ends_framed p w) in
    let z = ended_so false p n a b r.0 s x.0 None (ap (fields_after false p.given) x.2) (ap (λ (y : Frames). y.skipped) x.2) in
    let counts = s.on.counts in
    subst (IsParted t a b) (sym (held_at_end octets r.0 left p n a b s r.1 end le))
    (record {
      took = subst (λ (y : List Numbered). Takes a b (octets_of y)) (sym z.fields) s.took;
      none = z.refusal_is;
      fields = let l = ap length z.fields in omega (arith, l, count, counts);
      junk = x.1 ∙ sym z.junk;
    })

-- a message was cut
pub part_truncated : (i j : Text) (p : Progress) (n : ℕ) (a b : Text) (t : Truncated) → Reads i j (Parted p n a b) → p.fed ≤ input_limit → IsAtEnd j → IsWaiting p → Err t ≡ finished p (first p.rest) → IfSome i (λ octets. IsRefused (Cut t) a b (lines_of (split_of octets)))
part_truncated None j p n a b t r le end w e = tt
part_truncated (Some octets) None p n a b t r le end w e = absurd r
part_truncated (Some octets) (Some left) p n a b t r le end w e =
    let s = r.2 in
    let x : FramesEnd p (Err t) = subst (FramesEnd p) (sym e) (ends_framed p w) in
    let number = x.1 in
    let m : p.given + 0 + 1 ≡ t.number = omega (arith, number) in
    let z = ended_so false p n a b r.0 s x.0 (Some (Cut t))
    (ap (fields_after false p.given) x.2 ∙ ap (λ (i : ℕ). record { fields = []; refusal = Some (Cut (record { number = i; have = t.have; want = t.want })); next = p.given + 1 }) m)
    (ap (λ (y : Frames). y.skipped) x.2) in
    subst (λ (y : Split). IsRefused (Cut t) a b (lines_of y)) (sym (held_at_end octets r.0 left p n a b s r.1 end le))
    (all_lines false a b r.0 s.fields (Some (Cut t)) _ z s.took)

-- octets come beyond the limit, and nothing below it is refused
at_limit : (p : Progress) (r : Result ℕ Truncated) → FramesEnd p r → fields_after true p.given (frames p.rest) ≡ record { fields = []; refusal = Some Input; next = p.given + 1 }
at_limit p (Ok k) x = ap (fields_after true p.given) x.2
at_limit p (Err t) x = ap (fields_after true p.given) x.2

-- the input is longer than the limit
pub part_past : (i j l : Text) (p : Progress) (n : ℕ) (a b : Text) (piece : List ℕ) → Reads i j (Parted p n a b) → p.fed ≡ input_limit → Gives j l piece → 0 < length piece → IsWaiting p → IfSome i (λ octets. IsRefused Input a b (lines_of (split_of octets)))
part_past None j l p n a b piece r full gives some w = tt
part_past (Some octets) None l p n a b piece r full gives some w = absurd r
part_past (Some octets) (Some left) l p n a b piece r full gives some w =
    let s = r.2 in
    let size : length r.0 ≡ input_limit = seen_fed p n s.fields r.0 s.on ∙ full in
    let more : length piece ≤ length left = some_left (Some left) l piece left refl gives in
    let long : input_limit < length octets = omega (arith, ap length r.1, length-append r.0 left, size, more, some) in
    let front : take input_limit octets ≡ r.0 = ap (take input_limit) r.1 ∙ take_at r.0 left input_limit size in
    let z = ended_so true p n a b r.0 s (frames p.rest).skipped (Some Input) (at_limit p (finished p (first p.rest)) (ends_framed p w)) refl in
    subst (λ (y : Split). IsRefused Input a b (lines_of y)) (sym (front_of split_after octets long ∙ ap (λ (x : List ℕ). split_after true (frames x)) front))
    (all_lines true a b r.0 s.fields (Some Input) _ z s.took)

-- no more was read
pub part_unfed : {X : Type 0} (i j l : Text) (p q : Progress) (n : ℕ) (a b : Text) (e : Stop X) (halt : Halt X) → halt ≡ halt_of e → Reads i j (Parted p n a b) → p.fed ≤ input_limit → IsWaiting p → IsFed p q j l (Err e) → IfSome i (λ octets. HaltedAs halt a b (lines_of (split_of octets)))
part_unfed i j l p q n a b (stops.Fault fault) halt is r le w u = subst (λ (h : Halt _). IfSome i (λ octets. HaltedAs h a b (lines_of (split_of octets)))) (sym is) (part_cut i j p n a b r le)
part_unfed i j l p q n a b (stops.Refused refusal) halt is r le w (same, past) =
    subst (λ (h : Halt _). IfSome i (λ octets. HaltedAs h a b (lines_of (split_of octets))))
    (sym (is ∙ ap (λ (x : Refusal). halts.Refused x) same))
    (part_past i j l p n a b past.piece r past.full past.gives past.some w)
part_unfed i j l p q n a b stops.NoMemory halt is r le w u = subst (λ (h : Halt _). IfSome i (λ octets. HaltedAs h a b (lines_of (split_of octets)))) (sym is) (part_cut i j p n a b r le)
