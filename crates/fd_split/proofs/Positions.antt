-- Fields come one after the other, whatever more comes.
use Rattle.std.proofs.Common.{◌≡◌, ℕ, ◌+◌, ◌*◌, ◌≤◌, Bool, true, false, List, [], ◌∷◌, ◌++◌, length, Option, Some, None, Result, Ok, Err, refl, sym, ap, subst, ◌∙◌, append_assoc, append-nil, arith, length-append}
use Rattle.fd_sections.specs.declared.bad.Bad.{Bad}
use Rattle.fd_sections.specs.declared.bad.Bad.TheVariants as bads
use Rattle.fd_sections.specs.declared.refusal.BadAt.{BadAt}
use Rattle.fd_sections.specs.Message.{Sections}
use Rattle.fd_sections.specs.Frames.{Frames, FramesOn, IsFrame, RejectsAs, after_frames, frames}
use Rattle.fd_sections.specs.Progress.{Progress}
use Rattle.fd_sections.specs.Splitting.{fed}
use Rattle.fd_sections.specs.Stream.{Bad_end}
use Rattle.fd_split.specs.Reading.{NoMap, NoMessage, Wrong, reading_fields}
use Rattle.fd_split.specs.declared.refusal.Refusal.{Refusal}
use Rattle.fd_split.specs.declared.refusal.Refusal.TheVariants as refusals
use Rattle.fd_split.specs.Inputs.{refused}
use Rattle.fd_split.specs.Fields.{FieldList, Numbered, all_numbered, behind_fields, fields_after, numbered, refusal_at, refusal_of_wrong, split_before, split_frames}
use Rattle.fd_split.specs.Positions.{FieldsOn, Position, RefusesNext, at_message, fed_at, fields_from, skipped_from, weight}

pub behind_both : (a b : List Numbered) (x : FieldList) → behind_fields a (behind_fields b x) ≡ behind_fields (a ++ b) x
behind_both a b x = ap (λ (fs : List Numbered). record { fields = fs; refusal = x.refusal; next = x.next }) (sym (append_assoc a b x.fields))

-- ---- one step

pub fields_nothing : (a : Position) → FieldsOn a a []
fields_nothing a = record { is_fed = refl; counts = omega arith; joins = λ past more. refl; skips = λ more. refl }

-- the next of the fields that are to come
pub fields_next : (p : Progress) (n : ℕ) (f : Sections) (fs : List Sections) → FieldsOn (record { split = p; rest = f ∷ fs; count = n }) (record { split = p; rest = fs; count = n + 1 }) (numbered p.given f ∷ [])
fields_next p n f fs = record { is_fed = refl; counts = omega arith; joins = λ past more. refl; skips = λ more. refl }

skips_on : (p q : Progress) (fs : List (List ℕ)) → FramesOn p q [] fs → (more : List ℕ) → p.skipped + (frames (p.rest ++ more)).skipped ≡ q.skipped + (frames (q.rest ++ more)).skipped
skips_on p q fs s more =
    let is = ap (λ (x : Frames). x.skipped) (s.joins more) in
    let passed = s.skipped in
    omega (arith, is, passed)

-- no message came
pub fields_passed : (p q : Progress) (n : ℕ) → FramesOn p q [] [] → FieldsOn (at_message p n) (at_message q n) []
fields_passed p q n s = record {
  is_fed = let e = s.fed in omega (arith, e);
  counts = omega arith;
  joins = λ past more.
      let given : p.given ≡ q.given = let c = s.count in omega (arith, c) in
      ap (fields_after past p.given) (s.joins more) ∙ ap (λ (i : ℕ). fields_after past i (frames (q.rest ++ more))) given;
  skips = skips_on p q [] s;
}

before_read : (past : Bool) (n k : ℕ) (o : List ℕ) (s : Frames) → fields_after past n (after_frames (o ∷ []) k s) ≡ split_before (n + 1) (reading_fields o) (fields_after past (n + 1) s)
before_read past n k o s =
    let count : n + length (o ∷ s.frames) ≡ (n + 1) + length s.frames = omega arith in
    ap (λ (i : ℕ). split_before (n + 1) (reading_fields o) (split_frames (refused past i s.end) (n + 1 + 1) s.frames)) count

-- a message came, which has these fields
pub fields_opened : (p q : Progress) (n : ℕ) (o : List ℕ) (fs : List Sections) → FramesOn p q [] (o ∷ []) → reading_fields o ≡ Ok fs → FieldsOn (at_message p n) (record { split = q; rest = fs; count = n }) []
fields_opened p q n o fs s read = record {
  is_fed = let e = s.fed in omega (arith, e);
  counts = omega arith;
  joins = λ past more.
      ap (fields_after past p.given) (s.joins more)
      ∙ before_read past p.given s.passed o (frames (q.rest ++ more))
      ∙ ap (λ (r : Result (List Sections) Wrong). split_before (p.given + 1) r (fields_after past (p.given + 1) (frames (q.rest ++ more)))) read
      ∙ ap (λ (i : ℕ). behind_fields (all_numbered i fs) (fields_after past i (frames (q.rest ++ more)))) (sym s.count);
  skips = skips_on p q (o ∷ []) s;
}

-- a message came, which is refused
pub fields_unsplit : (p q : Progress) (n : ℕ) (o : List ℕ) (wrong : Wrong) → FramesOn p q [] (o ∷ []) → reading_fields o ≡ Err wrong → RefusesNext (at_message p n) (refusal_of_wrong (p.given + 1) wrong) (p.given + 1)
fields_unsplit p q n o wrong s read = record {
  from_one = omega arith;
  joins = λ past more.
      ap (fields_after past p.given) (s.joins more)
      ∙ before_read past p.given s.passed o (frames (q.rest ++ more))
      ∙ ap (λ (r : Result (List Sections) Wrong). split_before (p.given + 1) r (fields_after past (p.given + 1) (frames (q.rest ++ more)))) read;
}

pub refused_at : (past : Bool) (n : ℕ) (bad : Bad) → refused past n (Bad_end bad) ≡ Some (refusal_at (n + 1) bad)
refused_at true n (bads.Edition edition) = refl
refused_at true n (bads.Length said found) = refl
refused_at true n (bads.Section want found) = refl
refused_at true n (bads.Short section len) = refl
refused_at true n (bads.NoEnd at) = refl
refused_at true n (bads.MultiField section) = refl
refused_at true n (bads.TooLong len) = refl
refused_at true n bads.NoStart = refl
refused_at true n (bads.Over section said left) = refl
refused_at false n (bads.Edition edition) = refl
refused_at false n (bads.Length said found) = refl
refused_at false n (bads.Section want found) = refl
refused_at false n (bads.Short section len) = refl
refused_at false n (bads.NoEnd at) = refl
refused_at false n (bads.MultiField section) = refl
refused_at false n (bads.TooLong len) = refl
refused_at false n bads.NoStart = refl
refused_at false n (bads.Over section said left) = refl

-- the next message is of another edition, or too long
pub fields_rejected : (p : Progress) (k : ℕ) (at : BadAt) → RejectsAs p at → RefusesNext (at_message p k) (refusal_at at.number at.bad) at.number
fields_rejected p k at s = record {
  from_one = let number = s.number in omega (arith, number);
  joins = λ past more.
      let number = s.number in
      let zero : p.given + 0 ≡ p.given = omega arith in
      ap (fields_after past p.given) (s.joins more)
      ∙ ap (λ (n : ℕ). record { fields = []; refusal = refused past n (Bad_end at.bad); next = p.given + 1 }) zero
      ∙ ap (λ (r : Option Refusal). record { fields = []; refusal = r; next = p.given + 1 }) (refused_at past p.given at.bad)
      ∙ ap (λ (n : ℕ). record { fields = []; refusal = Some (refusal_at n at.bad); next = n }) (sym number);
}

-- ---- one step behind another

pub fields_more : (a b c : Position) (f g : List Numbered) → FieldsOn a b f → FieldsOn b c g → FieldsOn a c (f ++ g)
fields_more a b c f g s t = record {
  is_fed = t.is_fed ∙ s.is_fed;
  counts = let x = s.counts in let y = t.counts in omega (arith, x, y, length-append f g);
  joins = λ past more. s.joins past more ∙ ap (behind_fields f) (t.joins past more) ∙ behind_both f g (fields_from c past more);
  skips = λ more. s.skips more ∙ t.skips more;
}

pub fields_then : (a b c : Position) (f : List Numbered) → FieldsOn a b f → FieldsOn b c [] → FieldsOn a c f
fields_then a b c f s t = subst (λ (x : List Numbered). FieldsOn a c x) (append-nil f) (fields_more a b c f [] s t)

-- ---- a piece comes behind them, as if it had come before

fed_from : (a : Position) (piece : List ℕ) (past : Bool) (more : List ℕ) → fields_from (fed_at a piece) past more ≡ fields_from a past (piece ++ more)
fed_from a piece past more = ap (λ (x : List ℕ). behind_fields (all_numbered a.split.given a.rest) (fields_after past a.split.given (frames x))) (append_assoc a.split.rest piece more)

fed_skips : (a : Position) (piece more : List ℕ) → skipped_from (fed_at a piece) more ≡ skipped_from a (piece ++ more)
fed_skips a piece more = ap (λ (x : List ℕ). a.split.skipped + (frames x).skipped) (append_assoc a.split.rest piece more)

pub fields_fed : (a b : Position) (piece : List ℕ) (f : List Numbered) → FieldsOn a b f → FieldsOn (fed_at a piece) (fed_at b piece) f
fields_fed a b piece f s = record {
  is_fed = let e = s.is_fed in omega (arith, e);
  counts = s.counts;
  joins = λ past more. fed_from a piece past more ∙ s.joins past (piece ++ more) ∙ ap (behind_fields f) (sym (fed_from b piece past more));
  skips = λ more. fed_skips a piece more ∙ s.skips (piece ++ more) ∙ sym (fed_skips b piece more);
}
