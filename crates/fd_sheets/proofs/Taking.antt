-- Fields of messages are taken, one after the other.
use Rattle.std.proofs.Common.{◌≡◌, ◌≤◌, ◌<◌, ◌+◌, ◌*◌, inl, inr, ℕ, true, false, List, [], ◌∷◌, ◌++◌, length, drop, get_or, All, Option, None, Result, Ok, Err, refl, sym, ap, subst, ◌∙◌, arith, append_assoc, append-nil, length-append}
use Rattle.std.proofs.lemmas.List.{drop_all, drop_more}
use Rattle.fd_sections.specs.declared.bad.Bad.{Bad}
use Rattle.fd_sections.specs.declared.bad.Bad.TheVariants as bads
use Rattle.fd_sections.specs.declared.refusal.BadAt.{BadAt}
use Rattle.fd_sections.specs.Message.{Sections, message_octets}
use Rattle.fd_sections.specs.Frames.{FramesTo, IsFrame, first_frame, frame_answer, frame_progress}
use Rattle.fd_sections.specs.Progress.{Progress}
use Rattle.fd_sections.specs.Reading.{reading}
use Rattle.fd_sections.proofs.Frames.{frames_to}
use Rattle.fd_sections.proofs.Laws.{reading_takes}
use Rattle.fd_split.specs.Reading.{NoMap, NoMessage, Wrong, reading_fields}
use Rattle.fd_split.specs.Seen.{IsOpened, IsWhole}
use Rattle.fd_split.specs.declared.fault.SplitFault.{SplitFault}
use Rattle.fd_split.specs.declared.fault.SplitFault.TheVariants as faults
use Rattle.fd_split.proofs.Special.{IsMulti, few_fields, read_refused, read_single}
use Rattle.fd_split.specs.Fields.{numbered, refusal_at}
use Rattle.fd_split.specs.Positions.{FieldsOn, RefusesNext, weight}
use Rattle.fd_split.specs.declared.refusal.Refusal.TheVariants as refusals
use Rattle.fd_split.proofs.Positions.{fields_next, fields_opened, fields_passed, fields_rejected, fields_unsplit}
use Rattle.fd_sheets.specs.declared.sheets.Sheet.{Sheet}
use Rattle.fd_sheets.specs.declared.sheets.Unsplit.{Unsplit}
use Rattle.fd_sheets.specs.declared.sheets.Unsplit.TheVariants as ends
use Rattle.fd_sheets.specs.Opened.{Repeats, all_fields, to_come}
use Rattle.fd_sheets.specs.Sheets.{AreTaken, IsOpen, IsUnsplit, IsWholeField, Next, Passes, Shrinks, Staged, Took, TookFields, TookMessage, TookOne, TookSome, standing}
use Rattle.fd_sheets.proofs.Placing.{passes_none, passes_staged, staged_more, staged_pass, whole_field}

-- ---- tests

pub never_not : (P : Type 0) → false ≡ true → P
never_not P is = absurd cc

-- enough isn't too few
pub never : (P : Type 0) → true ≡ false → P
never P is = absurd cc

-- ---- the fields of one message

pub taken_long : (n : ℕ) (fs left : List Sections) (ss : List Sheet) → AreTaken n fs ss left → length fs ≡ length ss + length left
taken_long n fs left [] t = omega (arith, ap length t)
taken_long n [] left (s ∷ ss) t = absurd t
taken_long n (f ∷ fs) left (s ∷ ss) t = omega (arith, taken_long n fs left ss t.2)

taken_push : (n : ℕ) (fs left : List Sections) (f : Sections) (ss : List Sheet) (s : Sheet) → AreTaken n fs ss (f ∷ left) → s.number ≡ n → IsWholeField f s.bytes → AreTaken n fs (ss ++ s ∷ []) left
taken_push n fs left f [] s t number whole = subst (λ (xs : List Sections). AreTaken n xs (s ∷ []) left) (sym t) (number, whole, refl)
taken_push n [] left f (x ∷ ss) s t number whole = absurd t
taken_push n (g ∷ fs) left f (x ∷ ss) s t number whole = (t.0, t.1, taken_push n fs left f ss s t.2 number whole)

-- none was taken
pub took_none_yet : (n : ℕ) (fs : List Sections) (before : List Sheet) → TookFields n fs fs before before
took_none_yet n fs before = record { fresh = []; adds = sym (append-nil before); taken = refl }

-- the next was taken
pub took_one : (n : ℕ) (fs all : List Sections) (i : ℕ) (d : Sections) (before mid after : List Sheet) → TookFields n fs (drop i all) before mid → i < length all → All IsWhole all
    → TookOne n (message_octets (get_or all i d)) mid after (Ok tt) → TookFields n fs (drop (i + 1) all) before after
took_one n fs all i d before mid after t lt whole one =
    let s = one.0 in
    record {
      fresh = t.fresh ++ s ∷ [];
      adds = one.1 ∙ ap (λ (xs : List Sheet). xs ++ s ∷ []) t.adds ∙ append_assoc before t.fresh (s ∷ []);
      taken = taken_push n fs (drop (i + 1) all) (get_or all i d) t.fresh s (subst (AreTaken n fs t.fresh) (drop_more all i d lt) t.taken) one.2 (whole_field (get_or all i d) s.bytes (whole i d lt) one.3);
    }

-- one sheet more
pub one_longer : (n : ℕ) (octets : List ℕ) (before after : List Sheet) → TookOne n octets before after (Ok tt) → length after ≡ length before + 1
one_longer n octets before after t = omega (arith, ap length t.1, length-append before (t.0 ∷ []))

-- none is taken away
pub took_grows : (n : ℕ) (fs left : List Sections) (before after : List Sheet) → TookFields n fs left before after → length before ≤ length after
took_grows n fs left before after t = omega (arith, ap length t.adds, length-append before t.fresh)

-- as many are left as weren't taken
pub took_long : (n : ℕ) (fs left : List Sections) (before after : List Sheet) → TookFields n fs left before after → length after + length left ≡ length before + length fs
took_long n fs left before after t = omega (arith, ap length t.adds, length-append before t.fresh, taken_long n fs left t.fresh t.taken)

-- ---- a message that is open

-- where no octets are, no field is to come
pub none_to_come : (n : ℕ) → to_come [] n ≡ []
none_to_come n = by (reading_fields []) refl
  where
    by : (r : Result (List Sections) Wrong) → reading_fields [] ≡ r → drop n (all_fields r) ≡ []
    by (Ok fs) e = absurd (let few = few_fields [] fs e in omega (arith, few.0, few.1))
    by (Err wrong) e = drop_all n [] (omega arith)

pub none_long : length (all_fields (reading_fields [])) ≡ 0
none_long = ap length (none_to_come 0)

-- a message that was opened has as many fields
pub opened_long : (octets : List ℕ) (fs : List Sections) → reading_fields octets ≡ Ok fs → length fs ≡ length (all_fields (reading_fields octets))
opened_long octets fs e = ap (λ (r : Result (List Sections) Wrong). length (all_fields r)) (sym e)

pub opened_all : (octets : List ℕ) (fs : List Sections) → reading_fields octets ≡ Ok fs → reading_fields octets ≡ Ok (to_come octets 0)
opened_all octets fs e = e ∙ ap (λ (xs : List Sections). Ok xs) (ap all_fields (sym e))

-- a message with fields that was opened opens again
pub opens_again : {X : Type 0} (view : X → List Sections) (octets : List ℕ) (fault : SplitFault) → IsOpened view (reading_fields octets) (Err fault) → 0 < length (all_fields (reading_fields octets)) → fault ≡ faults.NoMemory
opens_again view octets (faults.Bad bad) is some = absurd (let none = ap (λ (r : Result (List Sections) Wrong). length (all_fields r)) is in omega (arith, none, some))
opens_again view octets (faults.NoMap field) is some = absurd (let none = ap (λ (r : Result (List Sections) Wrong). length (all_fields r)) is in omega (arith, none, some))
opens_again view octets faults.NoMemory is some = refl

-- ---- one message

-- a message of a single field was taken
pub took_single : (n : ℕ) (octets : List ℕ) (m : Sections) (before after : List Sheet) → reading octets ≡ Ok m → 16 ≤ length octets → length octets ≤ 134217728 → TookOne n octets before after (Ok tt) → TookMessage n (reading_fields octets) [] before after (Ok tt)
took_single n octets m before after e some limit one =
    let s = one.0 in
    let same = one.3 in
    let long = ap length same in (
      m ∷ [],
      read_single octets m e,
      record {
        fresh = s ∷ [];
        adds = one.1;
        taken = (
          one.2,
          record {
            octets = same ∙ (reading_takes octets m e).whole;
            reads = ap reading same ∙ e;
            some = omega (arith, long, some);
            limit = omega (arith, long, limit);
          },
          refl,
        );
      },
      omega (arith, ap length one.1, length-append before (s ∷ [])),
    )

-- a message that isn't split
pub took_unsplit : (n : ℕ) (octets : List ℕ) (left : List Sections) (before : List Sheet) (fault : SplitFault) (end : Unsplit) → IsOpened (λ (f : List Sections). f) (reading_fields octets) (Err fault) → IsUnsplit n fault end → TookMessage n (reading_fields octets) left before before (Err end)
took_unsplit n octets left before (faults.Bad bad) end is told = subst (λ (e : Unsplit). TookMessage n (reading_fields octets) left before before (Err e)) (sym told) (refl, refl, is)
took_unsplit n octets left before (faults.NoMap field) end is told = subst (λ (e : Unsplit). TookMessage n (reading_fields octets) left before before (Err e)) (sym told) (refl, refl, is)
took_unsplit n octets left before faults.NoMemory end is told = subst (λ (e : Unsplit). TookMessage n (reading_fields octets) left before before (Err e)) (sym told) (inl refl)

-- fields of a message that was opened were taken
pub took_opened : (n : ℕ) (octets : List ℕ) (fs left : List Sections) (before after : List Sheet) → reading_fields octets ≡ Ok fs → TookFields n fs left before after → TookSome fs before after (Ok tt) → TookMessage n (reading_fields octets) left before after (Ok tt)
took_opened n octets fs left before after e t some = (fs, e, t, some (few_fields octets fs e).1)

pub took_room : (n : ℕ) (octets : List ℕ) (fs left : List Sections) (before after : List Sheet) → reading_fields octets ≡ Ok fs → TookFields n fs left before after → 16 * length after + 16 * length left ≤ 16 * length before + length octets
took_room n octets fs left before after e t = omega (arith, (few_fields octets fs e).0, took_long n fs left before after t)

-- what isn't a message, though no section is repeated, is refused as one
pub refused_same : (octets : List ℕ) (bad : Bad) → reading octets ≡ Err bad → (Repeats bad → ⊥) → reading_fields octets ≡ Err (NoMessage bad)
refused_same octets bad e not = read_refused octets bad e (λ multi. not (repeats_multi bad multi))
  where
    repeats_multi : (bad : Bad) → IsMulti bad → Repeats bad
    repeats_multi (bads.Edition edition) multi = multi
    repeats_multi (bads.Length said found) multi = multi
    repeats_multi (bads.Section want found) multi = multi
    repeats_multi (bads.Short section len) multi = multi
    repeats_multi (bads.NoEnd at) multi = multi
    repeats_multi (bads.MultiField section) multi = tt
    repeats_multi (bads.TooLong len) multi = multi
    repeats_multi bads.NoStart multi = multi
    repeats_multi (bads.Over section said left) multi = multi

-- ---- one message after another

-- of fields of a message that was opened some were taken
pub staged_fields : (q : Progress) (n : ℕ) (fs left : List Sections) (ss : List Sheet) → IsOpen q fs → AreTaken q.given fs ss left → Staged (standing q fs n) ss (standing q left (n + length ss))
staged_fields q n fs left [] is_open t =
    subst (λ (k : ℕ). Passes (standing q fs n) (standing q left k)) (let is : n ≡ n + 0 = omega arith in is)
    (subst (λ (xs : List Sections). Passes (standing q fs n) (standing q xs n)) t (passes_none (standing q fs n)))
staged_fields q n [] left (s ∷ ss) is_open t = absurd t
staged_fields q n (f ∷ fs) left (s ∷ ss) is_open t =
    let one : 1 ≤ q.given = is_open (omega arith) in (
      f,
      standing q fs (n + 1),
      record {
        on = subst (λ (k : ℕ). FieldsOn (standing q (f ∷ fs) n) (standing q fs (n + 1)) (numbered k f ∷ [])) (sym t.0) (fields_next q n f fs);
        from_one = let own = t.0 in omega (arith, one, own);
        whole = t.1;
        fits = omega arith;
      },
      subst (λ (k : ℕ). Staged (standing q fs (n + 1)) ss (standing q left k)) (let is : n + 1 + length ss ≡ n + length (s ∷ ss) = omega arith in is) (staged_fields q (n + 1) fs left ss (λ lt. one) t.2),
    )

-- a message was opened
opens : (p q : Progress) (n : ℕ) (o : List ℕ) (fs : List Sections) → IsFrame p q o → reading_fields o ≡ Ok fs → Passes (standing p [] n) (standing q fs n)
opens p q n o fs is read = record {
  on = fields_opened p q n o fs is.on read;
  fits = let fits = is.fits in let few = few_fields o fs read in omega (arith, fits, few.0);
}

-- fields were taken behind others
longer : (before fresh after : List Sheet) → after ≡ before ++ fresh → length before < length after → 0 < length fresh
longer before fresh after is lt = omega (arith, ap length is, length-append before fresh, lt)

-- fields of the next message were taken
pub next_taken : (k : ℕ) (p q : Progress) (o : List ℕ) (n : ℕ) (left : List Sections) (before after : List Sheet) → IsFrame p q o → n ≡ p.given + 1 → TookMessage n (reading_fields o) left before after (Ok tt) → Next (standing p [] k) q left before after (Ok true)
next_taken k p q o n left before after is number t =
    let fs = t.0 in
    let f = t.2 in
    let count = is.on.count in
    let own : n ≡ q.given = omega (arith, number, count) in (
      f.fresh,
      f.adds,
      passes_staged (standing p [] k) (standing q fs k) (standing q left (k + length f.fresh)) f.fresh (opens p q k o fs is t.1)
          (staged_fields q k fs left f.fresh (λ lt. omega (arith, count)) (subst (λ (i : ℕ). AreTaken i fs f.fresh left) own f.taken)),
      longer before f.fresh after f.adds t.3,
    )

-- the next message is refused, or memory ran out
pub next_not : (k : ℕ) (p q : Progress) (o : List ℕ) (n : ℕ) (left : List Sections) (before after : List Sheet) (end : Unsplit) → IsFrame p q o → n ≡ p.given + 1 → TookMessage n (reading_fields o) left before after (Err end) → Next (standing p [] k) q left before after (Err end)
next_not k p q o n left before after (ends.Message at) is number t =
    let same : at.number ≡ p.given + 1 = t.1 ∙ number in (
      [],
      standing p [] k,
      t.0 ∙ sym (append-nil before),
      passes_none (standing p [] k),
      subst (λ (i : ℕ). RefusesNext (standing p [] k) (refusal_at i at.bad) i) (sym same) (fields_unsplit p q k o (NoMessage at.bad) is.on t.2),
    )
next_not k p q o n left before after (ends.NoMap j field) is number t =
    let same : j ≡ p.given + 1 = t.1 ∙ number in (
      [],
      standing p [] k,
      t.0 ∙ sym (append-nil before),
      passes_none (standing p [] k),
      subst (λ (i : ℕ). RefusesNext (standing p [] k) (refusals.NoMap i field) i) (sym same) (fields_unsplit p q k o (NoMap field) is.on t.2),
    )
next_not k p q o n left before after ends.NoMemory is number (inl same) = ([], standing p [] k, same ∙ sym (append-nil before), passes_none (standing p [] k), tt)
next_not k p q o n left before after ends.NoMemory is number (inr t) =
    let fs = t.0 in
    let f = t.2 in
    let count = is.on.count in
    let own : n ≡ q.given = omega (arith, number, count) in (
      f.fresh,
      standing q left (k + length f.fresh),
      f.adds,
      passes_staged (standing p [] k) (standing q fs k) (standing q left (k + length f.fresh)) f.fresh (opens p q k o fs is t.1)
          (staged_fields q k fs left f.fresh (λ lt. omega (arith, count)) (subst (λ (i : ℕ). AreTaken i fs f.fresh left) own f.taken)),
      tt,
    )

-- no message is whole
pub next_none : (k : ℕ) (p q : Progress) (before : List Sheet) → FramesTo (λ (o : List ℕ). o) p q (Ok None) → Next (standing p [] k) q [] before before (Ok false)
next_none k p q before t = (refl, record { on = fields_passed p q k t.0; fits = let fits = t.1 in omega (arith, fits) }, record { none = refl; waits = t.2 })

-- the next message is refused unread
pub next_rejected : (k : ℕ) (p q : Progress) (at : BadAt) (left : List Sections) (before : List Sheet) → FramesTo (λ (o : List ℕ). o) p q (Err at) → Next (standing p [] k) q left before before (Err (ends.Message at))
next_rejected k p q at left before t = ([], standing p [] k, sym (append-nil before), passes_none (standing p [] k), fields_rejected p k at t.1)

-- what the splitter gives, and where it stands then
pub frame_so : (p q : Progress) (r : Result (Option (List ℕ)) BadAt) → frame_answer p (first_frame p.rest) ≡ r → q ≡ frame_progress p (first_frame p.rest) → FramesTo (λ (o : List ℕ). o) p q r
frame_so p q r e goes = subst (λ (x : Result (Option (List ℕ)) BadAt). FramesTo (λ (o : List ℕ). o) p q x) e (subst (λ (x : Progress). FramesTo (λ (o : List ℕ). o) p x (frame_answer p (first_frame p.rest))) (sym goes) (frames_to p))

pub frame_room : (p q : Progress) (o : List ℕ) (left : List Sections) (before after : List Sheet) → IsFrame p q o → 16 * length after + 16 * length left ≤ 16 * length before + length o → Shrinks p [] before q left after
frame_room p q o left before after is room = let fits = is.fits in omega (arith, fits, room)

-- ---- fields of the message that is open

pub next_open : (k : ℕ) (q : Progress) (fs left : List Sections) (before after : List Sheet) → IsOpen q fs → TookFields q.given fs left before after → length before < length after → Next (standing q fs k) q left before after (Ok true)
next_open k q fs left before after is_open t more = (t.fresh, t.adds, staged_fields q k fs left t.fresh is_open t.taken, longer before t.fresh after t.adds more)

pub next_starved : (k : ℕ) (q : Progress) (fs left : List Sections) (before after : List Sheet) → IsOpen q fs → TookFields q.given fs left before after → Next (standing q fs k) q left before after (Err ends.NoMemory)
next_starved k q fs left before after is_open t = (t.fresh, standing q left (k + length t.fresh), t.adds, staged_fields q k fs left t.fresh is_open t.taken, tt)

pub still_open : (q : Progress) (n : ℕ) (fs left : List Sections) (before after : List Sheet) → IsOpen q fs → TookFields n fs left before after → IsOpen q left
still_open q n fs left before after is_open t lt = is_open (omega (arith, lt, taken_long n fs left t.fresh t.taken))

pub open_room : (q : Progress) (n : ℕ) (fs left : List Sections) (before after : List Sheet) → TookFields n fs left before after → Shrinks q fs before q left after
open_room q n fs left before after t = omega (arith, took_long n fs left before after t)

-- less is held and to come where some were taken
pub shrinks_next : (q r : Progress) (gs hs : List Sections) (before after : List Sheet) → Next (standing q gs 0) r hs before after (Ok true) → Shrinks q gs before r hs after → weight (standing r hs 0) < weight (standing q gs 0)
shrinks_next q r gs hs before after x room = let some = x.3 in omega (arith, ap length x.1, length-append before x.0, some, room)

-- ---- several messages

-- these fields were taken, whatever came before
abbrev pub StagedSo : Progress → List Sections → Progress → List Sections → List Sheet → Type 0
StagedSo p fs q left ss = (n : ℕ) → Staged (standing p fs n) ss (standing q left (n + length ss))

after_long : (n : ℕ) (before fresh after : List Sheet) → after ≡ before ++ fresh → n + length before + length fresh ≡ n + length after
after_long n before fresh after is = omega (arith, ap length is, length-append before fresh)

pub staged_start : (p : Progress) (fs : List Sections) (ss : List Sheet) → ss ≡ [] → StagedSo p fs p fs ss
staged_start p fs ss is n =
    let same : n ≡ n + 0 = omega arith in
    subst (λ (xs : List Sheet). Staged (standing p fs n) xs (standing p fs (n + length xs))) (sym is) (subst (λ (k : ℕ). Passes (standing p fs n) (standing p fs k)) same (passes_none (standing p fs n)))

module _ (p q r : Progress) (fs gs hs : List Sections) (before after : List Sheet) (staged : StagedSo p fs q gs before) where
  pub took_next : ((n : ℕ) → Next (standing q gs n) r hs before after (Ok true)) → StagedSo p fs r hs after
  took_next next n =
      let x = next (n + length before) in
      subst (λ (k : ℕ). Staged (standing p fs n) after (standing r hs k)) (after_long n before x.0 after x.1)
      (subst (λ (xs : List Sheet). Staged (standing p fs n) xs (standing r hs (n + length before + length x.0))) (sym x.1)
      (staged_more (standing p fs n) (standing q gs (n + length before)) (standing r hs (n + length before + length x.0)) before x.0 (staged n) x.2))

  pub took_full : (n : ℕ) → ((n : ℕ) → Next (standing q gs n) r hs before after (Ok true)) → Took (standing p fs n) r hs after (Ok true)
  took_full n next =
      let x = next n in
      let some = x.3 in
      record {
        middle = standing r hs (n + length after);
        staged = took_next next n;
        stays = (refl, λ is. never _ is);
        some = λ is. omega (arith, some, ap length x.1, length-append before x.0);
      }

  pub took_none : (n : ℕ) → ((n : ℕ) → Next (standing q gs n) r hs before after (Ok false)) → Took (standing p fs n) r hs after (Ok false)
  took_none n next =
      let x = next (n + length before) in
      record {
        middle = standing r hs (n + length after);
        staged = subst (λ (xs : List Sheet). Staged (standing p fs n) xs (standing r hs (n + length xs))) (sym x.0) (staged_pass (standing p fs n) (standing q gs (n + length before)) (standing r hs (n + length before)) before (staged n) x.1);
        stays = (refl, λ is. record { none = x.2.none; waits = x.2.waits });
        some = λ is. never_not _ is;
      }

  pub took_not : (n : ℕ) (end : Unsplit) → ((n : ℕ) → Next (standing q gs n) r hs before after (Err end)) → Took (standing p fs n) r hs after (Err end)
  took_not n end next =
      let x = next (n + length before) in
      record {
        middle = x.1;
        staged = subst (λ (xs : List Sheet). Staged (standing p fs n) xs x.1) (sym x.2) (staged_more (standing p fs n) (standing q gs (n + length before)) x.1 before x.0 (staged n) x.3);
        stays = x.4;
        some = tt;
      }
