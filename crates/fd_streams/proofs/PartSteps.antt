-- What is split as the messages are gone over.
use Rattle.std.proofs.Common.{◌≡◌, ℕ, ◌+◌, ◌-◌, ◌<◌, ◌≤◌, Bool, true, false, List, [], ◌∷◌, ◌++◌, length, map, take, drop, get_or, Option, Some, None, Result, Ok, Err, refl, sym, ap, subst, ◌∙◌, append_assoc, append-nil, arith, length-append, take-append-drop}
use Rattle.std.specs.List.{concat}
use Rattle.std.proofs.lemmas.List.{map-append, take_more}
use Rattle.std.proofs.lemmas.List.Folds.{concat-append}
use Rattle.fd_io.specs.Streams.{Takes, TakesFront}
use Rattle.fd_io.proofs.Bytes.{Takes-none, Takes-more}
use Rattle.fd_sections.specs.declared.bad.Bad.{Bad}
use Rattle.fd_sections.specs.declared.refusal.BadAt.{BadAt}
use Rattle.fd_sections.specs.Message.{Sections, message_octets}
use Rattle.fd_sections.specs.Progress.{Progress}
use Rattle.fd_sections.specs.Frames.{frames, FramesOn, FramesTo, IsFrame, RejectsAs, first_frame, frame_answer, frame_progress}
use Rattle.fd_sections.specs.Joining.{IsWaiting}
use Rattle.fd_sections.specs.Stream.{Bad_end}
use Rattle.fd_sections.proofs.Frames.{frames_to}
use Rattle.fd_split.specs.Reading.{Wrong, NoMap, NoMessage, reading_fields}
use Rattle.fd_split.specs.Seen.{IsOpened}
use Rattle.fd_split.specs.declared.fault.SplitFault.{SplitFault}
use Rattle.fd_split.specs.declared.fault.SplitFault.TheVariants as faults
use Rattle.fd_split.specs.declared.refusal.Refusal.{Refusal}
use Rattle.fd_split.specs.declared.refusal.Refusal.TheVariants as refusals
use Rattle.fd_split.specs.Inputs.{refused}
use Rattle.fd_split.specs.Fields.{FieldList, Numbered, all_numbered, behind_fields, fields_after, numbered, refusal_at, refusal_of_wrong, split_before}
use Rattle.fd_split.specs.Positions.{FieldsOn, Position, at_message, fields_from}
use Rattle.fd_outcome.specs.Listed.{Listed, alone, before, ended}
use Rattle.fd_outcome.specs.Splitting.{message_of, octets_of}
use Rattle.fd_outcome.proofs.Endings.{front_more, takes_both, takes_then_front}
use Rattle.fd_split.proofs.Positions.{behind_both, fields_more, fields_nothing, fields_opened, fields_passed, fields_rejected, fields_unsplit, refused_at}
use Rattle.fd_streams.specs.declared.listing.Halt.{Halt}
use Rattle.fd_streams.specs.declared.listing.Halt.TheVariants as halts
use Rattle.fd_streams.specs.Halted.{HaltedAs, IsRefused}
use Rattle.fd_streams.specs.Parted.{AreWritten, HaltsParting, IsUnsplit, PartsAll, PartsOn, PartsOne, messages_of, parts_of, written_of}
use Rattle.fd_streams.proofs.ListingSteps.{halted_behind}

abbrev Text : Type 0
Text = Option (List ℕ)

-- ---- the fields of one message, one after the other

abbrev pub no_sections : Sections
no_sections = record { indicator = []; identification = []; local_use = None; grid = []; product = []; representation = []; bit_map = []; values = [] }

pub one_more : (fs : List Sections) (i : ℕ) (d : Sections) → i < length fs → messages_of (take (i + 1) fs) ≡ messages_of (take i fs) ++ message_octets (get_or fs i d)
one_more fs i d lt =
    let last = get_or fs i d in
    ap messages_of (take_more fs i d lt)
    ∙ ap concat (map-append message_octets (take i fs) (last ∷ []))
    ∙ concat-append (map message_octets (take i fs)) (message_octets last ∷ [])
    ∙ ap (λ (l : List ℕ). messages_of (take i fs) ++ l) (append-nil (message_octets last))

begins : (fs : List Sections) (i : ℕ) → messages_of fs ≡ messages_of (take i fs) ++ messages_of (drop i fs)
begins fs i =
    ap messages_of (sym (take-append-drop i fs))
    ∙ ap concat (map-append message_octets (take i fs) (drop i fs))
    ∙ concat-append (map message_octets (take i fs)) (map message_octets (drop i fs))

-- so many were taken, and no more
pub front_of : (a b : Text) (fs : List Sections) (i : ℕ) → Takes a b (messages_of (take i fs)) → TakesFront a b (messages_of fs)
front_of a b fs i took = (messages_of (take i fs), messages_of (drop i fs), begins fs i, took)

-- so many were taken, and then a front of the next
pub front_in : (a b c : Text) (fs : List Sections) (i : ℕ) (d : Sections) → i < length fs → Takes a b (messages_of (take i fs)) → TakesFront b c (message_octets (get_or fs i d)) → TakesFront a c (messages_of fs)
front_in a b c fs i d lt took front =
    let o = message_octets (get_or fs i d) in
    front_more a c (messages_of (take i fs) ++ o) (messages_of (drop (i + 1) fs)) (messages_of fs)
    (begins fs (i + 1) ∙ ap (λ (l : List ℕ). l ++ messages_of (drop (i + 1) fs)) (one_more fs i d lt))
    (takes_then_front a b c (messages_of (take i fs)) o took front)

-- and then the next
pub next : (a b c : Text) (fs : List Sections) (i : ℕ) (d : Sections) → i < length fs → Takes a b (messages_of (take i fs)) → Takes b c (message_octets (get_or fs i d)) → Takes a c (messages_of (take (i + 1) fs))
next a b c fs i d lt took more = subst (Takes a c) (sym (one_more fs i d lt)) (takes_both a b c (messages_of (take i fs)) (message_octets (get_or fs i d)) took more)

-- ---- refusals

some_refusal : (x y : Refusal) → (let a : Option Refusal = Some x in a ≡ Some y) → x ≡ y
some_refusal x y e = cc

-- the refusal of a message whose octets are none
pub refusal_is : (n : ℕ) (bad : Bad) (refusal : Refusal) → 1 ≤ n → ((past : Bool) (given : ℕ) → n ≡ given + 1 → refused past given (Bad_end bad) ≡ Some refusal) → refusal_at n bad ≡ refusal
refusal_is n bad refusal one tells =
    let is : (n - 1) + 1 ≡ n = omega (arith, one) in
    ap (λ (i : ℕ). refusal_at i bad) (sym is) ∙ some_refusal _ refusal (sym (refused_at false (n - 1) bad) ∙ tells false (n - 1) (sym is))

-- why a message that isn't split is refused
pub refused_bad : (a : Text) (n : ℕ) (wrong : Wrong) (bad : Bad) (refusal : Refusal) → wrong ≡ NoMessage bad → 1 ≤ n → ((past : Bool) (given : ℕ) → n ≡ given + 1 → refused past given (Bad_end bad) ≡ Some refusal) → IsRefused refusal a a (ended (Some (refusal_of_wrong n wrong)))
refused_bad a n wrong bad refusal e one tells = (Takes-none a, ap (λ (w : Wrong). Some (refusal_of_wrong n w)) e ∙ ap (λ (r : Refusal). Some r) (refusal_is n bad refusal one tells))

pub refused_map : (a : Text) (n field : ℕ) (wrong : Wrong) → wrong ≡ NoMap field → IsRefused (refusals.NoMap n field) a a (ended (Some (refusal_of_wrong n wrong)))
refused_map a n field wrong e = (Takes-none a, ap (λ (w : Wrong). Some (refusal_of_wrong n w)) e)

-- nothing was written of what is split
pub unsplit_halts : {X : Type 0} (fault : SplitFault) (r : Result (List Sections) Wrong) (n : ℕ) (a : Text) (e : Halt X) → IsOpened (λ (f : List Sections). f) r (Err fault)
    → ((a : Text) (wrong : Wrong) → IsUnsplit wrong fault → HaltedAs e a a (ended (Some (refusal_of_wrong n wrong)))) → (fault ≡ faults.NoMemory → e ≡ halts.NoMemory) → HaltedAs e a a (alone (parts_of n r))
unsplit_halts (faults.Bad bad) r n a e is h starved = subst (λ (r : Result (List Sections) Wrong). HaltedAs e a a (alone (parts_of n r))) (sym is) (h a (NoMessage bad) refl)
unsplit_halts (faults.NoMap field) r n a e is h starved = subst (λ (r : Result (List Sections) Wrong). HaltedAs e a a (alone (parts_of n r))) (sym is) (h a (NoMap field) refl)
unsplit_halts faults.NoMemory r n a e is h starved = rw (starved refl) ([], (alone (parts_of n r)).lines, refl, Takes-none a)

-- ---- one message after another

octets_numbered : (n : ℕ) (fs : List Sections) → octets_of (all_numbered n fs) ≡ messages_of fs
octets_numbered n [] = refl
octets_numbered n (f ∷ fs) = ap (λ (l : List ℕ). message_octets f ++ l) (octets_numbered n fs)

pub octets_both : (f g : List Numbered) → octets_of (f ++ g) ≡ octets_of f ++ octets_of g
octets_both f g = ap concat (map-append message_of f g) ∙ concat-append (map message_of f) (map message_of g)

-- the count of fields before doesn't matter
pub shifted : (p q : Progress) (n k : ℕ) (f : List Numbered) → FieldsOn (at_message p 0) (at_message q k) f → FieldsOn (at_message p n) (at_message q (n + k)) f
shifted p q n k f s = record { is_fed = s.is_fed; counts = let c = s.counts in omega (arith, c); joins = s.joins; skips = s.skips }

-- the fields of the message that came, with its number
all_came : (q : Progress) (n : ℕ) (fs : List Sections) → FieldsOn (record { split = q; rest = fs; count = 0 }) (at_message q (length fs)) (all_numbered q.given fs)
all_came q n fs = record {
  is_fed = refl;
  counts = omega (arith, numbers fs);
  joins = λ past more. refl;
  skips = λ more. refl;
}
  where
    numbers : (fs : List Sections) → length (all_numbered q.given fs) ≡ length fs
    numbers [] = refl
    numbers (f ∷ fs) = let more = numbers fs in omega (arith, more)

frame_goes : (p q : Progress) (o : List ℕ) → frame_answer p (first_frame p.rest) ≡ Ok (Some o) → q ≡ frame_progress p (first_frame p.rest) → IsFrame p q o
frame_goes p q o e goes = subst (λ (r : Result (Option (List ℕ)) BadAt). FramesTo (λ (x : List ℕ). x) p q r) e (subst (λ (x : Progress). FramesTo (λ (y : List ℕ). y) p x (frame_answer p (first_frame p.rest))) (sym goes) (frames_to p))

pub parts_one : (p q : Progress) (o : List ℕ) (n : ℕ) (a b : Text) → frame_answer p (first_frame p.rest) ≡ Ok (Some o) → q ≡ frame_progress p (first_frame p.rest) → AreWritten n (reading_fields o) a b → n ≤ length o → PartsOne (Some n) p q a b
parts_one p q o n a b e goes w few =
    let t = frame_goes p q o e goes in
    let fits = t.fits in
    let some = t.some in
    let fs = w.fields in
    let count : length fs ≡ n = sym w.count in (
      record {
        fields = all_numbered q.given fs;
        on = subst (λ (k : ℕ). FieldsOn (at_message p 0) (at_message q k) (all_numbered q.given fs)) count (fields_more (at_message p 0) (record { split = q; rest = fs; count = 0 }) (at_message q (length fs)) [] (all_numbered q.given fs) (fields_opened p q 0 o fs t.on w.fields_are) (all_came q 0 fs));
        took = subst (Takes a b) (sym (octets_numbered q.given fs)) w.took;
      },
      omega (arith, fits, few),
      omega (arith, fits, some),
    )

-- no message is whole
pub parts_none : (p q : Progress) (a : Text) → frame_answer p (first_frame p.rest) ≡ Ok None → q ≡ frame_progress p (first_frame p.rest) → PartsOne None p q a a
parts_none p q a e goes =
    let t : FramesTo (λ (x : List ℕ). x) p q (Ok None) = subst (λ (r : Result (Option (List ℕ)) BadAt). FramesTo (λ (x : List ℕ). x) p q r) e (subst (λ (x : Progress). FramesTo (λ (y : List ℕ). y) p x (frame_answer p (first_frame p.rest))) (sym goes) (frames_to p)) in
    (record { fields = []; on = fields_passed p q 0 t.0; took = Takes-none a }, t.1, t.2)

-- ---- halts

longer : (a b : Text) (lines more : List ℕ) → TakesFront a b lines → TakesFront a b (lines ++ more)
longer a b lines more (front, rest, split, took) = (front, rest ++ more, ap (λ (t : List ℕ). t ++ more) split ∙ append_assoc front rest more, took)

not_refused : (refusal : Refusal) → (let none : Option Refusal = None in none ≡ Some refusal) → ⊥
not_refused refusal e = absurd cc

-- what comes after the message changes nothing
halted_parts : {X : Type 0} (e : Halt X) (n : ℕ) (r : Result (List Sections) Wrong) (a b : Text) (x : FieldList) → HaltedAs e a b (alone (parts_of n r)) → HaltedAs e a b (written_of (split_before n r x))
halted_parts e n (Err wrong) a b x h = h
halted_parts e n (Ok fs) a b x h = subst (λ (l : List ℕ). HaltedAs e a b (record { lines = l; refusal = x.refusal })) (sym (octets_both (all_numbered n fs) x.fields ∙ ap (λ (l : List ℕ). l ++ octets_of x.fields) (octets_numbered n fs))) (by e h)
  where
    by : {X : Type 0} (e : Halt X) → HaltedAs e a b (alone (Ok (messages_of fs))) → HaltedAs e a b (record { lines = messages_of fs ++ octets_of x.fields; refusal = x.refusal })
    by (halts.Unread fault) h = longer a b (messages_of fs) (octets_of x.fields) h
    by (halts.Unwritten fault) h = longer a b (messages_of fs) (octets_of x.fields) h
    by (halts.Refused other) h = absurd (not_refused other h.1)
    by halts.NoMemory h = longer a b (messages_of fs) (octets_of x.fields) h

-- what comes of the fields from a message on
next_is : (past : Bool) (p q : Progress) (o more : List ℕ) → FramesOn p q [] (o ∷ []) → (x : FieldList) × (fields_from (at_message p 0) past more ≡ split_before (p.given + 1) (reading_fields o) x)
next_is past p q o more s = by (reading_fields o) refl
  where
    by : (r : Result (List Sections) Wrong) → reading_fields o ≡ r → (x : FieldList) × (fields_from (at_message p 0) past more ≡ split_before (p.given + 1) r x)
    by (Ok fs) e =
        let on = fields_opened p q 0 o fs s e in
        let x = fields_from (record { split = q; rest = fs; count = 0 }) past more in
        (fields_after past q.given (frames (q.rest ++ more)), on.joins past more ∙ ap (λ (i : ℕ). behind_fields (all_numbered i fs) (fields_after past q.given (frames (q.rest ++ more)))) s.count)
    by (Err wrong) e = (record { fields = []; refusal = None; next = 0 }, (fields_unsplit p q 0 o wrong s e).joins past more)

pub parts_halt : {X : Type 0} (p : Progress) (o : List ℕ) (n : ℕ) (e : Halt X) (a b : Text) → frame_answer p (first_frame p.rest) ≡ Ok (Some o) → n ≡ p.given + 1 → HaltedAs e a b (alone (parts_of n (reading_fields o))) → HaltsParting e p a b
parts_halt p o n e a b is count h = λ past more.
    let q = frame_progress p (first_frame p.rest) in
    let x = next_is past p q o more (frame_goes p q o is refl).on in
    subst (HaltedAs e a b) (sym (ap written_of x.1))
    (halted_parts e (p.given + 1) (reading_fields o) a b x.0 (subst (λ (k : ℕ). HaltedAs e a b (alone (parts_of k (reading_fields o)))) count h))

pub rejected_halts : (p : Progress) (at : BadAt) (refusal : Refusal) (a : Text) → frame_answer p (first_frame p.rest) ≡ Err at
    → ((past : Bool) (given : ℕ) → at.number ≡ given + 1 → refused past given (Bad_end at.bad) ≡ Some refusal)
    → (past : Bool) (more : List ℕ) → IsRefused refusal a a (written_of (fields_from (at_message p 0) past more))
rejected_halts p at refusal a e tells past more =
    let t : FramesTo (λ (x : List ℕ). x) p (frame_progress p (first_frame p.rest)) (Err at) = subst (λ (r : Result (Option (List ℕ)) BadAt). FramesTo (λ (x : List ℕ). x) p (frame_progress p (first_frame p.rest)) r) e (frames_to p) in
    let number = t.1.number in
    let r = fields_rejected p 0 at t.1 in
    let same = refusal_is at.number at.bad refusal r.from_one tells in
    subst (IsRefused refusal a a) (sym (ap written_of (r.joins past more))) (Takes-none a, ap (λ (x : Refusal). Some x) same)

-- ---- one step behind another

pub parts_nothing : (p : Progress) (a : Text) → PartsOn p p 0 a a
parts_nothing p a = record { fields = []; on = fields_nothing (at_message p 0); took = Takes-none a }

pub parts_more : (p q r : Progress) (n k : ℕ) (a b c : Text) → PartsOn p q n a b → PartsOn q r k b c → PartsOn p r (n + k) a c
parts_more p q r n k a b c s t = record {
  fields = s.fields ++ t.fields;
  on = fields_more (at_message p 0) (at_message q n) (at_message r (n + k)) s.fields t.fields s.on (shifted q r n k t.fields t.on);
  took = subst (Takes a c) (sym (octets_both s.fields t.fields)) (Takes-more a b c (octets_of s.fields) (octets_of t.fields) s.took t.took);
}

pub parts_end : (p q r : Progress) (n : ℕ) (a b c : Text) → PartsOn p q n a b → PartsOn q r 0 b c → PartsOn p r n a c
parts_end p q r n a b c s t = let same : n + 0 ≡ n = omega arith in subst (λ (k : ℕ). PartsOn p r k a c) same (parts_more p q r n 0 a b c s t)

pub written_behind : (f : List Numbered) (x : FieldList) → before (Ok (octets_of f)) (written_of x) ≡ written_of (behind_fields f x)
written_behind f x = ap (λ (l : List ℕ). record { lines = l; refusal = x.refusal }) (sym (octets_both f x.fields))

-- a halt after fields were written
pub halts_later : {X : Type 0} (e : Halt X) (p q : Progress) (n : ℕ) (a b c : Text) → PartsOn p q n a b → HaltsParting e q b c → HaltsParting e p a c
halts_later e p q n a b c s h = λ past more.
    subst (HaltedAs e a c) (written_behind s.fields (fields_from (at_message q 0) past more) ∙ sym (ap written_of (s.on.joins past more)))
    (halted_behind e a b c (octets_of s.fields) (written_of (fields_from (at_message q 0) past more)) s.took (h past more))
