-- What is listed as the messages are gone over.
use Rattle.std.proofs.Common.{◌≡◌, ℕ, ◌+◌, ◌<◌, Bool, true, false, cond, List, [], ◌∷◌, ◌++◌, length, ltb, Option, Some, None, Result, Ok, Err, refl, sym, ap, subst, ◌∙◌, append_assoc, append-nil, arith, length-append}
use Rattle.std.proofs.lemmas.Bool.{le-ltb, lt-ltb}
use Rattle.fd_io.specs.Streams.{Takes, TakesFront}
use Rattle.fd_io.proofs.Bytes.{Takes-none, Takes-more}
use Rattle.fd_sections.specs.declared.refusal.BadAt.{BadAt}
use Rattle.fd_sections.specs.Message.{Sections}
use Rattle.fd_sections.specs.Progress.{Progress}
use Rattle.fd_sections.specs.Splitting.{answer, progress}
use Rattle.fd_sections.specs.Stream.{first, stream, Bad_end}
use Rattle.fd_sections.specs.Joining.{SplitsOn}
use Rattle.fd_sections.proofs.Joins.{refuses_so, splits_more, splits_nothing, takes_so, waits_so}
use Rattle.fd_packing.specs.declared.fault.FieldFault.{FieldFault}
use Rattle.fd_packing.specs.Packed.{Packed}
use Rattle.fd_packing.specs.Value.{values_of}
use Rattle.fd_listing.specs.Values.{values_text, most_points, field_text, IsListed as IsRead, IsTooLarge}
use Rattle.fd_outcome.specs.declared.listing.Listing.{Listing}
use Rattle.fd_streams.specs.declared.listing.Halt.{Halt}
use Rattle.fd_streams.specs.declared.listing.Halt.TheVariants as halts
use Rattle.fd_split.specs.declared.refusal.Refusal.{Refusal}
use Rattle.fd_split.specs.declared.refusal.Refusal.TheVariants as refusals
use Rattle.fd_split.specs.Inputs.{refused}
use Rattle.fd_outcome.specs.Listed.{Listed, field_lines, message_lines, ended, alone, before, listed_messages, listed_after}
use Rattle.fd_streams.specs.Halted.{IsCut, IsRefused, HaltedAs, Halted, IsWritten, ListsOn, ListedOne}

abbrev Text : Type 0
Text = Option (List ℕ)

-- ---- the lines of one message

-- nothing was written of nothing
front_of_none : (a b : Text) (text : List ℕ) → text ≡ [] → TakesFront a b text → Takes a b []
front_of_none a b text none (front, rest, split, took) = subst (Takes a b) (empty front rest (sym split ∙ none)) took
  where
    empty : (x y : List ℕ) → x ++ y ≡ [] → x ≡ []
    empty [] y e = refl
    empty (n ∷ x) y e = absurd cc

pub field_written : (n : ℕ) (decimals : Option ℕ) (field : Result Packed FieldFault) (a b : Text) → IsRead field → Takes a b (field_text n decimals field) → IsWritten (field_lines n decimals field) a b
field_written n decimals (Err fault) a b read took = absurd read
field_written n decimals (Ok field) a b read took = at (ltb most_points field.points) (le-ltb most_points field.points read) took
  where
    at : (large : Bool) → large ≡ false → Takes a b (cond large [] (values_text n decimals (values_of field))) → IsWritten (cond large (Err (refusals.Points field.points)) (Ok (values_text n decimals (values_of field)))) a b
    at true e took = absurd cc
    at false e took = took

pub field_cut : (n : ℕ) (decimals : Option ℕ) (field : Result Packed FieldFault) (a b : Text) → IsRead field → TakesFront a b (field_text n decimals field) → IsCut a b (alone (field_lines n decimals field))
field_cut n decimals (Err fault) a b read took = absurd read
field_cut n decimals (Ok field) a b read took = at (ltb most_points field.points) (le-ltb most_points field.points read) took
  where
    at : (large : Bool) → large ≡ false → TakesFront a b (cond large [] (values_text n decimals (values_of field))) → IsCut a b (alone (cond large (Err (refusals.Points field.points)) (Ok (values_text n decimals (values_of field)))))
    at true e took = absurd cc
    at false e took = took

pub field_refused : (n : ℕ) (decimals : Option ℕ) (field : Result Packed FieldFault) (fault : FieldFault) (a b : Text) → field ≡ Err fault → TakesFront a b (field_text n decimals field) → IsRefused (refusals.Field n fault) a b (alone (field_lines n decimals field))
field_refused n decimals field fault a b e took =
    subst (λ (r : Result Packed FieldFault). IsRefused (refusals.Field n fault) a b (alone (field_lines n decimals r))) (sym e)
    (front_of_none a b (field_text n decimals field) (ap (field_text n decimals) e) took, refl)

pub field_too_large : (n : ℕ) (decimals : Option ℕ) (field : Result Packed FieldFault) (points : ℕ) (a b : Text) → IsTooLarge field points → TakesFront a b (field_text n decimals field) → IsRefused (refusals.Points points) a b (alone (field_lines n decimals field))
field_too_large n decimals (Err fault) points a b large took = absurd large
field_too_large n decimals (Ok field) points a b (is, more) took = at (ltb most_points field.points) (lt-ltb most_points field.points (subst (λ (k : ℕ). most_points < k) (sym is) more)) took
  where
    at : (large : Bool) → large ≡ true → TakesFront a b (cond large [] (values_text n decimals (values_of field))) → IsRefused (refusals.Points points) a b (alone (cond large (Err (refusals.Points field.points)) (Ok (values_text n decimals (values_of field)))))
    at true e took = (front_of_none a b [] refl took, ap (λ (k : ℕ). Some (refusals.Points k)) is)
    at false e took = absurd cc

-- ---- messages before others

abbrev parts : List ℕ → Option Refusal → Listed
parts lines refusal = record { lines = lines; refusal = refusal }

-- the lines x before the lines y before others
pub joined : (x y : List ℕ) (others : Listed) → before (Ok x) (before (Ok y) others) ≡ before (Ok (x ++ y)) others
joined x y others = ap (λ (t : List ℕ). parts t others.refusal) (sym (append_assoc x y others.lines))

-- a message whose lines come before others, of which none is refused
lists_here : (r : Result (List ℕ) Refusal) (x : Listed) (lines : List ℕ) → before r x ≡ alone (Ok lines) → (l : List ℕ) × (r ≡ Ok l) × (l ++ x.lines ≡ lines) × (x ≡ alone (Ok x.lines))
lists_here (Ok l) x lines e = (l, refl, ap (λ (y : Listed). y.lines) e, ap (parts x.lines) (ap (λ (y : Listed). y.refusal) e))
lists_here (Err refusal) x lines e = absurd (not_none refusal (ap (λ (y : Listed). y.refusal) e))
  where
    not_none : (refusal : Refusal) → (let none : Option Refusal = None in Some refusal ≡ none) → ⊥
    not_none refusal e = absurd cc

-- what is listed behind messages with these lines
pub listed_more : (listing : Listing) (n : ℕ) (last : Option Refusal) (ms ns : List Sections) (lines : List ℕ) → listed_messages listing n None ms ≡ alone (Ok lines) → listed_messages listing n last (ms ++ ns) ≡ before (Ok lines) (listed_messages listing (n + length ms) last ns)
listed_more listing n last [] ns lines e =
    let none : [] ≡ lines = ap (λ (y : Listed). y.lines) e in
    ap (λ (i : ℕ). listed_messages listing i last ns) (omega arith) ∙ ap (λ (l : List ℕ). before (Ok l) (listed_messages listing (n + 0) last ns)) none
listed_more listing n last (m ∷ ms) ns lines e =
    let rest = listed_messages listing (n + 1) None ms in
    let h = lists_here (message_lines listing n m) rest lines e in
    ap (λ (r : Result (List ℕ) Refusal). before r (listed_messages listing (n + 1) last (ms ++ ns))) h.1
    ∙ ap (before (Ok h.0)) (listed_more listing (n + 1) last ms ns rest.lines h.3)
    ∙ joined h.0 rest.lines (listed_messages listing (n + 1 + length ms) last ns)
    ∙ ap (λ (l : List ℕ). before (Ok l) (listed_messages listing (n + 1 + length ms) last ns)) h.2
    ∙ ap (λ (i : ℕ). before (Ok lines) (listed_messages listing i last ns)) (omega arith)

-- what ends behind them
pub listed_end : (listing : Listing) (n : ℕ) (last : Option Refusal) (ms : List Sections) (lines : List ℕ) → listed_messages listing n None ms ≡ alone (Ok lines) → listed_messages listing n last ms ≡ before (Ok lines) (ended last)
listed_end listing n last ms lines e = ap (listed_messages listing n last) (sym (append-nil ms)) ∙ listed_more listing n last ms [] lines e

-- the lines of both
pub both_listed : (listing : Listing) (p q : Progress) (came : List ℕ) (ms ns : List Sections) (x y : List ℕ) → SplitsOn p q came ms → listed_messages listing (p.given + 1) None ms ≡ alone (Ok x) → listed_messages listing (q.given + 1) None ns ≡ alone (Ok y)
    → listed_messages listing (p.given + 1) None (ms ++ ns) ≡ alone (Ok (x ++ y))
both_listed listing p q came ms ns x y s k l =
    let given = s.given in
    listed_more listing (p.given + 1) None ms ns x k ∙ ap (λ (i : ℕ). before (Ok x) (listed_messages listing i None ns)) (omega (arith, given)) ∙ ap (before (Ok x)) l

-- whatever more comes, it is listed behind these lines
pub listed_on : (listing : Listing) (past : Bool) (p q : Progress) (came : List ℕ) (ms : List Sections) (lines more : List ℕ) → SplitsOn p q came ms → listed_messages listing (p.given + 1) None ms ≡ alone (Ok lines)
    → listed_after listing past p.given (stream (p.rest ++ (came ++ more))) ≡ before (Ok lines) (listed_after listing past q.given (stream (q.rest ++ more)))
listed_on listing past p q came ms lines more s e =
    let x = stream (q.rest ++ more) in
    let given = s.given in
    let last = refused past (p.given + length (ms ++ x.messages)) x.end in
    let count : p.given + length (ms ++ x.messages) ≡ q.given + length x.messages = omega (arith, length-append ms x.messages, given) in
    let next : p.given + 1 + length ms ≡ q.given + 1 = omega (arith, given) in
    ap (listed_after listing past p.given) (s.joins more)
    ∙ listed_more listing (p.given + 1) last ms x.messages lines e
    ∙ ap (λ (i : ℕ). before (Ok lines) (listed_messages listing i last x.messages)) next
    ∙ ap (λ (i : ℕ). before (Ok lines) (listed_messages listing (q.given + 1) (refused past i x.end) x.messages)) count

-- ---- one message after another

-- the lines of a message that was written
written : (r : Result (List ℕ) Refusal) (a b : Text) → IsWritten r a b → (lines : List ℕ) × (r ≡ Ok lines) × Takes a b lines
written (Ok lines) a b took = (lines, refl, took)
written (Err refusal) a b took = absurd took

pub listed_one : (listing : Listing) (p q : Progress) (m : Sections) (n : ℕ) (a b : Text) → answer p (first p.rest) ≡ Ok (Some m) → q ≡ progress p (first p.rest) → n ≡ p.given → IsWritten (message_lines listing (n + 1) m) a b → ListedOne listing true p q a b
listed_one listing p q m n a b e goes count wrote =
    let t = takes_so p q m e goes in
    let w = written (message_lines listing (n + 1) m) a b wrote in
    let is : message_lines listing (p.given + 1) m ≡ Ok w.0 = ap (λ (k : ℕ). message_lines listing (k + 1) m) (sym count) ∙ w.1 in
    record {
      measure = t.1;
      goes_on = record {
        messages = m ∷ [];
        splits = t.0;
        lines = w.0;
        lists = ap (λ (r : Result (List ℕ) Refusal). before r (ended None)) is ∙ ap (λ (l : List ℕ). alone (Ok l)) (append-nil w.0);
        took = w.2;
      };
    }

-- no message is whole
pub listed_none : (listing : Listing) (p q : Progress) (a : Text) → answer p (first p.rest) ≡ Ok None → q ≡ progress p (first p.rest) → ListedOne listing false p q a a
listed_none listing p q a e goes =
    let t = waits_so p q e goes in
    record { measure = t.1; goes_on = record { messages = []; splits = t.0; lines = []; lists = refl; took = Takes-none a } }

-- ---- halts

longer : (a b : Text) (lines more : List ℕ) → TakesFront a b lines → TakesFront a b (lines ++ more)
longer a b lines more (front, rest, split, took) = (front, rest ++ more, ap (λ (t : List ℕ). t ++ more) split ∙ append_assoc front rest more, took)

not_refused : (refusal : Refusal) → (let none : Option Refusal = None in none ≡ Some refusal) → ⊥
not_refused refusal e = absurd cc

-- what comes after the message changes nothing
halted_before : {X : Type 0} (e : Halt X) (r : Result (List ℕ) Refusal) (a b : Text) (x : Listed) → HaltedAs e a b (alone r) → HaltedAs e a b (before r x)
halted_before (halts.Unread fault) (Ok lines) a b x h = longer a b lines x.lines h
halted_before (halts.Unread fault) (Err refusal) a b x h = h
halted_before (halts.Unwritten fault) (Ok lines) a b x h = longer a b lines x.lines h
halted_before (halts.Unwritten fault) (Err refusal) a b x h = h
halted_before (halts.Refused other) (Ok lines) a b x h = absurd (not_refused other h.1)
halted_before (halts.Refused other) (Err refusal) a b x h = h
halted_before halts.NoMemory (Ok lines) a b x h = longer a b lines x.lines h
halted_before halts.NoMemory (Err refusal) a b x h = h

-- the next message is whole
next_is : (listing : Listing) (past : Bool) (p q : Progress) (m : Sections) (more : List ℕ) → SplitsOn p q [] (m ∷ []) → listed_after listing past p.given (stream (p.rest ++ more)) ≡ before (message_lines listing (p.given + 1) m) (listed_after listing past (p.given + 1) (stream (q.rest ++ more)))
next_is listing past p q m more s =
    let x = stream (q.rest ++ more) in
    let count : p.given + length (m ∷ x.messages) ≡ (p.given + 1) + length x.messages = omega arith in
    ap (listed_after listing past p.given) (s.joins more) ∙ ap (λ (c : ℕ). before (message_lines listing (p.given + 1) m) (listed_messages listing (p.given + 1 + 1) (refused past c x.end) x.messages)) count

pub message_halts : {X : Type 0} (listing : Listing) (p : Progress) (m : Sections) (n : ℕ) (e : Halt X) (a b : Text) → answer p (first p.rest) ≡ Ok (Some m) → n ≡ p.given → HaltedAs e a b (alone (message_lines listing (n + 1) m)) → Halted listing e p a b
message_halts listing p m n e a b is count h = λ past more.
    let q = progress p (first p.rest) in
    subst (HaltedAs e a b) (sym (next_is listing past p q m more (takes_so p q m is refl).0))
    (halted_before e (message_lines listing (p.given + 1) m) a b (listed_after listing past (p.given + 1) (stream (q.rest ++ more))) (subst (λ (k : ℕ). HaltedAs e a b (alone (message_lines listing (k + 1) m))) count h))

pub refusal_halts : (listing : Listing) (past : Bool) (p : Progress) (at : BadAt) (refusal : Refusal) (a : Text) (more : List ℕ) → answer p (first p.rest) ≡ Err at
    → ((past : Bool) (given : ℕ) → at.number ≡ given + 1 → refused past given (Bad_end at.bad) ≡ Some refusal)
    → IsRefused refusal a a (listed_after listing past p.given (stream (p.rest ++ more)))
refusal_halts listing past p at refusal a more e tells =
    let b = refuses_so p at e in
    let number = b.number in
    let is : refused past (p.given + 0) (Bad_end at.bad) ≡ Some refusal = tells past (p.given + 0) (omega (arith, number)) in
    let same : listed_after listing past p.given (stream (p.rest ++ more)) ≡ ended (Some refusal) = ap (listed_after listing past p.given) (b.joins more) ∙ ap (λ (r : Option Refusal). ended r) is in
    subst (IsRefused refusal a a) (sym same) (Takes-none a, refl)

-- ---- lines behind others

front_behind : (a b c : Text) (lines more : List ℕ) → Takes a b lines → TakesFront b c more → TakesFront a c (lines ++ more)
front_behind a b c lines more took (front, rest, split, later) =
    (lines ++ front, rest, ap (λ (t : List ℕ). lines ++ t) split ∙ sym (append_assoc lines front rest), Takes-more a b c lines front took later)

pub halted_behind : {X : Type 0} (e : Halt X) (a b c : Text) (lines : List ℕ) (x : Listed) → Takes a b lines → HaltedAs e b c x → HaltedAs e a c (before (Ok lines) x)
halted_behind (halts.Unread fault) a b c lines x took h = front_behind a b c lines x.lines took h
halted_behind (halts.Unwritten fault) a b c lines x took h = front_behind a b c lines x.lines took h
halted_behind (halts.Refused refusal) a b c lines x took h = (Takes-more a b c lines x.lines took h.0, h.1)
halted_behind halts.NoMemory a b c lines x took h = front_behind a b c lines x.lines took h

pub lists_more : (listing : Listing) (p q r : Progress) (a b c : Text) → ListsOn listing p q a b → ListsOn listing q r b c → ListsOn listing p r a c
lists_more listing p q r a b c s t = record {
  messages = s.messages ++ t.messages;
  splits = splits_more p q r [] [] s.messages t.messages s.splits t.splits;
  lines = s.lines ++ t.lines;
  lists = both_listed listing p q [] s.messages t.messages s.lines t.lines s.splits s.lists t.lists;
  took = Takes-more a b c s.lines t.lines s.took t.took;
}

pub lists_nothing : (listing : Listing) (p : Progress) (a : Text) → ListsOn listing p p a a
lists_nothing listing p a = record { messages = []; splits = splits_nothing p; lines = []; lists = refl; took = Takes-none a }

-- a halt after lines were written
pub halted_later : {X : Type 0} (listing : Listing) (e : Halt X) (p q : Progress) (a b c : Text) → ListsOn listing p q a b → Halted listing e q b c → Halted listing e p a c
halted_later listing e p q a b c s h = λ past more.
    subst (HaltedAs e a c) (sym (listed_on listing past p q [] s.messages s.lines more s.splits s.lists)) (halted_behind e a b c s.lines (listed_after listing past q.given (stream (q.rest ++ more))) s.took (h past more))
