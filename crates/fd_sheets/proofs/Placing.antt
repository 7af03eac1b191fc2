-- Fields are taken, and their places are looked for.
use Rattle.std.proofs.Common.{◌≡◌, ◌≤◌, ◌<◌, ◌+◌, ◌*◌, ℕ, suc, List, [], ◌∷◌, ◌++◌, length, drop, take, get_or, All, sym, ap, subst, ◌∙◌, arith, append_assoc, append-nil, length-append}
use Rattle.std.proofs.lemmas.List.{drop_all, take_all}
use Rattle.std.proofs.lemmas.List.Elements.{All-cons, All-nil}
use Rattle.fd_sections.specs.Message.{Sections, message_octets, if_present, end_section}
use Rattle.fd_sections.specs.Progress.{Progress}
use Rattle.fd_sections.specs.Reading.{reading}
use Rattle.fd_sections.specs.Splitting.{fed}
use Rattle.fd_sections.proofs.Laws.{reading_again}
use Rattle.fd_split.specs.Seen.{IsWhole}
use Rattle.fd_key.specs.Pairs.{Pair}
use Rattle.fd_schema.specs.Rules.{Rule}
use Rattle.fd_split.specs.Fields.{numbered}
use Rattle.fd_split.specs.Positions.{FieldsOn, Position, fed_at, weight}
use Rattle.fd_split.proofs.Positions.{fields_fed, fields_more, fields_nothing, fields_then}
use Rattle.fd_sheets.specs.declared.sheets.Sheet.{Sheet}
use Rattle.fd_sheets.specs.Sheets.{IsLookedUp, IsReadable, IsSheet, IsWholeField, Passes, Placed, Staged}

-- ---- one field

-- a field that is a message of its own
pub whole_field : (f : Sections) (bytes : List ℕ) → IsWhole f → bytes ≡ message_octets f → IsWholeField f bytes
whole_field f bytes is octets =
    let long = ap length octets in
    let limit = is.indicator.limit in
    let size = is.indicator.size in
    record {
      octets = octets;
      reads = ap reading octets ∙ reading_again (message_octets f) f is;
      some = omega (arith, long, size, length-append f.indicator (f.identification ++ (if_present f.local_use ++ (f.grid ++ (f.product ++ (f.representation ++ (f.bit_map ++ (f.values ++ end_section))))))));
      limit = omega (arith, long, limit);
    }

pub passes_none : (a : Position) → Passes a a
passes_none a = record { on = fields_nothing a; fits = omega arith }

pub sheet_passes : (a b c : Position) (f : Sections) (s : Sheet) → IsSheet a b f s → Passes b c → IsSheet a c f s
sheet_passes a b c f s is t = record {
  on = fields_then a b c (numbered s.number f ∷ []) is.on t.on;
  from_one = is.from_one;
  whole = is.whole;
  fits = let x = t.fits in let y = is.fits in omega (arith, x, y);
}

pub passes_both : (a b c : Position) → Passes a b → Passes b c → Passes a c
passes_both a b c s t = record { on = fields_more a b c [] [] s.on t.on; fits = let x = s.fits in let y = t.fits in omega (arith, x, y) }

passes_sheet : (a b c : Position) (f : Sections) (s : Sheet) → Passes a b → IsSheet b c f s → IsSheet a c f s
passes_sheet a b c f s t is = record {
  on = fields_more a b c [] (numbered s.number f ∷ []) t.on is.on;
  from_one = is.from_one;
  whole = is.whole;
  fits = let x = t.fits in let y = is.fits in omega (arith, x, y);
}

-- ---- fields are taken

pub staged_none : (a : Position) (ss : List Sheet) → ss ≡ [] → Staged a ss a
staged_none a ss is = subst (λ (xs : List Sheet). Staged a xs a) (sym is) (passes_none a)

pub staged_readable : (a b : Position) (ss : List Sheet) → Staged a ss b → All IsReadable ss
staged_readable a b [] h = All-nil IsReadable
staged_readable a b (s ∷ ss) h = All-cons IsReadable s ss (h.0, h.2.whole.reads) (staged_readable h.1 b ss h.3)

pub passes_staged : (a b c : Position) (ss : List Sheet) → Passes a b → Staged b ss c → Staged a ss c
passes_staged a b c [] t h = passes_both a b c t h
passes_staged a b c (s ∷ ss) t h = (h.0, h.1, passes_sheet a b h.1 h.0 s t h.2, h.3)

pub staged_more : (a b c : Position) (ss ts : List Sheet) → Staged a ss b → Staged b ts c → Staged a (ss ++ ts) c
staged_more a b c [] ts h k = passes_staged a b c ts h k
staged_more a b c (s ∷ ss) ts h k = (h.0, h.1, h.2, staged_more h.1 b c ss ts h.3 k)

pub staged_pass : (a b c : Position) (ss : List Sheet) → Staged a ss b → Passes b c → Staged a ss c
staged_pass a b c [] h t = passes_both a b c h t
staged_pass a b c (s ∷ ss) h t = (h.0, h.1, h.2, staged_pass h.1 b c ss h.3 t)

-- ---- their places are looked for

module _ (rules : List Rule) (given : List Pair) where
  same_sheet : (a b : Position) (f : Sections) (s t : Sheet) → IsSheet a b f s → IsLookedUp rules given s t → IsSheet a b f t
  same_sheet a b f s t is looked = record {
    on = subst (λ (n : ℕ). FieldsOn a b (numbered n f ∷ [])) (sym looked.number) is.on;
    from_one = let own = looked.number in let one = is.from_one in omega (arith, own, one);
    whole = subst (IsWholeField f) (sym looked.bytes) is.whole;
    fits = is.fits;
  }

  pub placed_all : (a b : Position) (ss ts : List Sheet) → Staged a ss b → length ts ≡ length ss → ((i : ℕ) (e : Sheet) → i < length ss → IsLookedUp rules given (get_or ss i e) (get_or ts i e)) → Placed rules given a ts b
  placed_all a b [] [] h long all = h
  placed_all a b [] (t ∷ ts) h long all = absurd (omega (arith, long))
  placed_all a b (s ∷ ss) [] h long all = absurd (omega (arith, long))
  placed_all a b (s ∷ ss) (t ∷ ts) h long all =
      let looked = all 0 s (omega arith) in
      (h.0, h.1, same_sheet a h.1 h.0 s t h.2 looked, looked.found h.0 h.2.whole.reads, placed_all h.1 b ss ts h.3 (omega (arith, long)) (λ i e lt. all (suc i) e (omega (arith, lt))))

  -- ---- others are taken behind them

  passes_placed : (a b c : Position) (ss : List Sheet) → Passes a b → Placed rules given b ss c → Placed rules given a ss c
  passes_placed a b c [] t h = passes_both a b c t h
  passes_placed a b c (s ∷ ss) t h = (h.0, h.1, passes_sheet a b h.1 h.0 s t h.2, h.3, h.4)

  pub placed_more : (a b c : Position) (ss ts : List Sheet) → Placed rules given a ss b → Placed rules given b ts c → Placed rules given a (ss ++ ts) c
  placed_more a b c [] ts h k = passes_placed a b c ts h k
  placed_more a b c (s ∷ ss) ts h k = (h.0, h.1, h.2, h.3, placed_more h.1 b c ss ts h.4 k)

  -- ---- a piece comes behind them, as if it had come before

  fed_sheet : (a b : Position) (piece : List ℕ) (f : Sections) (s : Sheet) → IsSheet a b f s → IsSheet (fed_at a piece) (fed_at b piece) f s
  fed_sheet a b piece f s is = record {
    on = fields_fed a b piece (numbered s.number f ∷ []) is.on;
    from_one = is.from_one;
    whole = is.whole;
    fits = let fits = is.fits in omega (arith, fits, length-append a.split.rest piece, length-append b.split.rest piece);
  }

  pub placed_fed : (a b : Position) (piece : List ℕ) (ss : List Sheet) → Placed rules given a ss b → Placed rules given (fed_at a piece) ss (fed_at b piece)
  placed_fed a b piece [] h =
      let fits = h.fits in
      record { on = fields_fed a b piece [] h.on; fits = omega (arith, fits, length-append a.split.rest piece, length-append b.split.rest piece) }
  placed_fed a b piece (s ∷ ss) h = (h.0, fed_at h.1 piece, fed_sheet a h.1 piece h.0 s h.2, h.3, placed_fed h.1 b piece ss h.4)

  pub placed_fed_is : (a b : Position) (ss : List Sheet) → Placed rules given a ss b → b.split.fed ≡ a.split.fed
  placed_fed_is a b [] h = h.on.is_fed
  placed_fed_is a b (s ∷ ss) h = placed_fed_is h.1 b ss h.4 ∙ h.2.on.is_fed

  pub placed_count : (a b : Position) (ss : List Sheet) → Placed rules given a ss b → b.count ≡ a.count + length ss
  placed_count a b [] h = let x = h.on.counts in omega (arith, x)
  placed_count a b (s ∷ ss) h = let x = h.2.on.counts in omega (arith, x, placed_count h.1 b ss h.4)

  -- each field has octets of what was held
  pub placed_room : (a b : Position) (ss : List Sheet) → Placed rules given a ss b → 16 * length ss + weight b ≤ weight a
  placed_room a b [] h = let x = h.fits in omega (arith, x)
  placed_room a b (s ∷ ss) h = let x = h.2.fits in omega (arith, x, placed_room h.1 b ss h.4)

-- two pieces that came one behind the other
both_fed : (p : Progress) (a b : List ℕ) → fed (fed p a) b ≡ fed p (a ++ b)
both_fed p a b =
    let size : p.fed + length a + length b ≡ p.fed + length (a ++ b) = omega (arith, length-append a b) in
    ap (λ (x : List ℕ). record { given = p.given; last = p.last; skipped = p.skipped; rest = x; fed = p.fed + length a + length b }) (append_assoc p.rest a b)
    ∙ ap (λ (n : ℕ). record { given = p.given; last = p.last; skipped = p.skipped; rest = p.rest ++ (a ++ b); fed = n }) size

pub fed_both : (x : Position) (a b : List ℕ) → fed_at (fed_at x a) b ≡ fed_at x (a ++ b)
fed_both x a b = ap (λ (p : Progress). record { split = p; rest = x.rest; count = x.count }) (both_fed x.split a b)

-- ---- a slice of a list that is written whole

pub written : {B : Type 0} (js ks : List B) (n : ℕ) → n ≡ length js → length ks ≡ length js → take n (ks ++ drop (length ks) js) ≡ ks
written {B = B} js ks n is long =
    ap (λ (m : ℕ). take n (ks ++ drop m js)) long ∙ ap (λ (xs : List B). take n (ks ++ xs)) (drop_all (length js) js (omega arith)) ∙ ap (take n) (append-nil ks) ∙ take_all n ks (omega (arith, is, long))

pub placed_written : (rules : List Rule) (given : List Pair) (a b : Position) (ss xs ts : List Sheet) (n : ℕ) → Staged a ss b → n ≡ length ss → xs ≡ ss → length ts ≡ length xs → ((i : ℕ) (e : Sheet) → i < length xs → IsLookedUp rules given (get_or xs i e) (get_or ts i e)) → Placed rules given a (take n (ts ++ drop (length ts) ss)) b
placed_written rules given a b ss xs ts n h is same long all =
    let lengths : length ts ≡ length ss = long ∙ ap length same in
    let looked = subst (λ (ys : List Sheet). (i : ℕ) (e : Sheet) → i < length ys → IsLookedUp rules given (get_or ys i e) (get_or ts i e)) same all in
    subst (λ (ys : List Sheet). Placed rules given a ys b) (sym (written ss ts n is lengths)) (placed_all rules given a b ss ts h lengths looked)

pub written_long : {B : Type 0} (ks js : List B) (n : ℕ) → n ≡ length js → length ks ≡ length js → length (take n (ks ++ drop (length ks) js)) ≡ length js
written_long ks js n is long = ap length (written js ks n is long) ∙ long
