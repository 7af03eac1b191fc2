-- Values that stand in one text, by what the map of their places ensures.
use Rattle.std.proofs.Common.{◌≡◌, ◌<◌, ◌≤◌, ◌+◌, ◌-◌, ℕ, Bool, true, false, cond, List, [], ◌∷◌, ◌++◌, length, take, drop, Option, Some, None, refl, sym, ap, ap₂, subst, ◌∙◌, arith, leb, length-append, length-drop}
use Rattle.std.specs.Prelude.{◌^◌, ◌&&◌, All, OnErr, Result, Ok, Err, slice_get, slice_range}
use Rattle.std.specs.Option.{option_map}
use Rattle.std.specs.List.{list_all}
use Rattle.std.specs.Map.{lookup}
use Rattle.std.specs.Str.{IsCharBoundary, IsUtf8, bytes_eq}
use Rattle.std.specs.Cmp.Lexicographic.{bytes_decides}
use Rattle.std.proofs.lemmas.Bool.{and_parts, leb-true}
use Rattle.std.proofs.lemmas.Str.{IsCharBoundary-from_take, IsUtf8-take, IsCharBoundary-end}
use Rattle.std.proofs.lemmas.List.{take-append-le, drop-append-le}
use Rattle.std.proofs.lemmas.List.Elements.{All-nil, All-cons, All-head, All-tail, All-weaker, All-get_or}
use Rattle.std.proofs.lemmas.Option.{slice_get_within, get_or_from_slice_get, slice_get-map}
use Rattle.std.proofs.Math.Seq.{take-append_seam, drop-append_seam, take-length}
use Rattle.arrayvec.specs.ArrayString.{ArrayString}
use Rattle.indexmap.specs.IndexMap.{insert_entry}
use Rattle.fd_spelling.specs.Names.{is_name, is_letter, is_name_byte}
use Rattle.fd_key.specs.declared.span.Span.{Span}
use Rattle.fd_key.specs.Pairs.{Pair, with_pair, text_of}
use Rattle.fd_key.specs.Spans.{Entry, AreKept, IsEntry, IsSpan, pair_at, pairs_at}

-- the value at a place
abbrev pub cut_out : List ℕ → Span → List ℕ
cut_out values s = slice_range values s.start s.end

-- names are equal where their bytes are
abbrev pub same_name : ArrayString → ArrayString → Bool
same_name a b = bytes_eq a.bytes b.bytes

-- what holds whatever was answered
pub either_way : {A E P : Type 0} (r : Result A E) → P → OnErr r P
either_way (Ok x) p = tt
either_way (Err e) p = p

-- ---- looking up

looked : (b : Bool) (values : List ℕ) (s : Span) (o : Option Span) (rest : Option (List ℕ)) → option_map (cut_out values) o ≡ rest
    → option_map (cut_out values) (cond b (Some s) o) ≡ cond b (Some (cut_out values s)) rest
looked true values s o rest h = refl
looked false values s o rest h = h

looked_up : (values : List ℕ) (es : List Entry) (name : List ℕ) → option_map (cut_out values) (lookup (λ (k : ArrayString). bytes_eq name k.bytes) es) ≡ text_of (pairs_at values es) name
looked_up values [] name = refl
looked_up values (e ∷ es) name =
    looked (bytes_eq name e.0.bytes) values e.1 (lookup (λ (k : ArrayString). bytes_eq name k.bytes) es) (text_of (pairs_at values es) name) (looked_up values es name)

-- what a map finds at a name is its text
pub found : (values : List ℕ) (es : List Entry) (k : ArrayString) (name : List ℕ) (o : Option Span) → k.bytes ≡ name → o ≡ lookup (same_name k) es
    → option_map (cut_out values) o ≡ text_of (pairs_at values es) name
found values es k name o is at =
    ap (λ (x : Option Span). option_map (cut_out values) x) at ∙ looked_up values es k.bytes ∙ ap (λ (n : List ℕ). text_of (pairs_at values es) n) is

-- a name that doesn't fit its place is none of those that do
pub too_long : (values : List ℕ) (es : List Entry) (name : List ℕ) → All (IsEntry values) es → 16 < length name → text_of (pairs_at values es) name ≡ None
too_long values [] name are long = refl
too_long values (e ∷ es) name are long =
    go (bytes_eq name e.0.bytes) refl (All-head (IsEntry values) e es are).name (too_long values es name (All-tail (IsEntry values) e es are) long)
  where
    go : (b : Bool) → bytes_eq name e.0.bytes ≡ b → length e.0.bytes ≤ 16 → text_of (pairs_at values es) name ≡ None
        → cond b (Some (cut_out values e.1)) (text_of (pairs_at values es) name) ≡ None
    go true same fits rest = let is : name ≡ e.0.bytes = (bytes_decides name e.0.bytes).0 same in absurd (omega (arith, ap length is, long, fits))
    go false same fits rest = rest

pub name_fits : (name : List ℕ) → is_name name ≡ true → length name ≤ 16
name_fits [] h = omega arith
name_fits (b ∷ bs) h =
    let parts = and_parts (is_letter b && leb (length bs) 15) (list_all is_name_byte bs) h in
    let few : length bs ≤ 15 = leb-true (length bs) 15 (and_parts (is_letter b) (leb (length bs) 15) parts.0).1 in
    omega (arith, few)

-- what is at a place of the list
pub entry_there : (values : List ℕ) (es : List Entry) (i : ℕ) (e : Entry) → All (IsEntry values) es → slice_get es i ≡ Some e → IsEntry values e
entry_there values es i e are at =
    subst (IsEntry values) (get_or_from_slice_get es i e e at) (All-get_or (IsEntry values) es i e (slice_get_within es i e at) are)

pub pair_there : (values : List ℕ) (es : List Entry) (i : ℕ) (e : Entry) → slice_get es i ≡ Some e → slice_get (pairs_at values es) i ≡ Some (pair_at values e)
pair_there values es i e at = slice_get-map (pair_at values) es i ∙ ap (λ (o : Option Entry). option_map (pair_at values) o) at

-- ---- what stands behind a text changes nothing in it

boundary_stays : (bs more : List ℕ) (i : ℕ) → IsUtf8 bs → IsUtf8 (bs ++ more) → IsCharBoundary bs i → IsCharBoundary (bs ++ more) i
boundary_stays bs more i u v b =
    let within : i ≤ length (bs ++ more) = omega (arith, b.0, length-append bs more) in
    IsCharBoundary-from_take (bs ++ more) i v within (subst IsUtf8 (sym (take-append-le i bs more b.0)) (IsUtf8-take bs i u b))

entry_stays : (bs more : List ℕ) → IsUtf8 bs → IsUtf8 (bs ++ more) → (e : Entry) → IsEntry bs e → IsEntry (bs ++ more) e
entry_stays bs more u v e i = record {
  cut = record {
    ordered = i.cut.ordered;
    starts = boundary_stays bs more e.1.start u v i.cut.starts;
    ends = boundary_stays bs more e.1.end u v i.cut.ends;
  };
  name = i.name;
}

slice_stays : (bs more : List ℕ) (a b : ℕ) → a ≤ b → b ≤ length bs → slice_range (bs ++ more) a b ≡ slice_range bs a b
slice_stays bs more a b ordered within =
    let at : drop a (bs ++ more) ≡ drop a bs ++ more = drop-append-le a bs more (omega (arith, ordered, within)) in
    let room : b - a ≤ length (drop a bs) = omega (arith, length-drop a bs, ordered, within) in
    ap (λ (l : List ℕ). take (b - a) l) at ∙ take-append-le (b - a) (drop a bs) more room

pub pairs_stay : (bs more : List ℕ) (es : List Entry) → All (IsEntry bs) es → pairs_at (bs ++ more) es ≡ pairs_at bs es
pairs_stay bs more [] are = refl
pairs_stay bs more (e ∷ es) are =
    let cut : IsSpan bs e.1 = (All-head (IsEntry bs) e es are).cut in
    let value : cut_out (bs ++ more) e.1 ≡ cut_out bs e.1 = slice_stays bs more e.1.start e.1.end cut.ordered cut.ends.0 in
    ap₂ (λ (v : List ℕ) (ps : List Pair). (e.0.bytes, v) ∷ ps) value (pairs_stay bs more es (All-tail (IsEntry bs) e es are))

pub stay_kept : (bs more : List ℕ) (es : List Entry) → AreKept bs es → IsUtf8 bs → IsUtf8 (bs ++ more) → AreKept (bs ++ more) es
stay_kept bs more es kept u v = record {
  each = All-weaker (IsEntry bs) (IsEntry (bs ++ more)) (entry_stays bs more u v) es kept.each;
  few = kept.few;
}

-- ---- a value that is put at a name

either : (b : Bool) (values : List ℕ) (e : Entry) (s : Span) (es fs : List Entry) (rest : List Pair) → pairs_at values fs ≡ rest
    → pairs_at values (cond b ((e.0, s) ∷ es) (e ∷ fs)) ≡ cond b ((e.0.bytes, cut_out values s) ∷ pairs_at values es) (pair_at values e ∷ rest)
either true values e s es fs rest h = refl
either false values e s es fs rest h = ap (λ (ps : List Pair). pair_at values e ∷ ps) h

inserted : (values : List ℕ) (es : List Entry) (k : ArrayString) (s : Span)
    → pairs_at values (insert_entry same_name es k s) ≡ with_pair (pairs_at values es) k.bytes (cut_out values s)
inserted values [] k s = refl
inserted values (e ∷ es) k s =
    either (same_name k e.0) values e s es (insert_entry same_name es k s) (with_pair (pairs_at values es) k.bytes (cut_out values s)) (inserted values es k s)

each_put : (P : Entry → Type 0) (es : List Entry) (k : ArrayString) (s : Span) → All P es → P (k, s) → ((e : Entry) → P e → P (e.0, s)) → All P (insert_entry same_name es k s)
each_put P [] k s are new same = All-cons P (k, s) [] new (All-nil P)
each_put P (e ∷ es) k s are new same = go (same_name k e.0) (each_put P es k s (All-tail P e es are) new same)
  where
    go : (b : Bool) → All P (insert_entry same_name es k s) → All P (cond b ((e.0, s) ∷ es) (e ∷ insert_entry same_name es k s))
    go true rest = All-cons P (e.0, s) es (same e (All-head P e es are)) (All-tail P e es are)
    go false rest = All-cons P e (insert_entry same_name es k s) (All-head P e es are) rest

longer : (es : List Entry) (k : ArrayString) (s : Span) → length (insert_entry same_name es k s) ≤ length es + 1
longer [] k s = omega arith
longer (e ∷ es) k s = go (same_name k e.0) (longer es k s)
  where
    go : (b : Bool) → length (insert_entry same_name es k s) ≤ length es + 1 → length (cond b ((e.0, s) ∷ es) (e ∷ insert_entry same_name es k s)) ≤ length (e ∷ es) + 1
    go true rest = omega arith
    go false rest = omega (arith, rest)

cut_behind : (before value : List ℕ) (s : Span) → IsUtf8 before → IsUtf8 (before ++ value) → s.start ≡ length before → s.end ≡ length (before ++ value) → IsSpan (before ++ value) s
cut_behind before value s u v start end =
    let ordered : length before ≤ length (before ++ value) = omega (arith, length-append before value) in
    let front : IsUtf8 (take (length before) (before ++ value)) = subst IsUtf8 (sym (take-append_seam before value)) u in
    record {
      ordered = omega (arith, start, end, ordered);
      starts = subst (IsCharBoundary (before ++ value)) (sym start) (IsCharBoundary-from_take (before ++ value) (length before) v ordered front);
      ends = subst (IsCharBoundary (before ++ value)) (sym end) (IsCharBoundary-end (before ++ value));
    }

slice_behind : (front back : List ℕ) → slice_range (front ++ back) (length front) (length (front ++ back)) ≡ back
slice_behind front back =
    let n : length (front ++ back) - length front ≡ length back = omega (arith, length-append front back) in
    ap₂ (λ (k : ℕ) (l : List ℕ). take k l) n (drop-append_seam front back) ∙ take-length back

-- a value that was put behind the others, at this name
pub put_pairs : (before value : List ℕ) (es : List Entry) (k : ArrayString) (s : Span) → All (IsEntry before) es → s.start ≡ length before → s.end ≡ length (before ++ value)
    → pairs_at (before ++ value) (insert_entry same_name es k s) ≡ with_pair (pairs_at before es) k.bytes value
put_pairs before value es k s are start end =
    let new : cut_out (before ++ value) s ≡ value = ap₂ (λ (a b : ℕ). slice_range (before ++ value) a b) start end ∙ slice_behind before value in
    inserted (before ++ value) es k s ∙ ap₂ (λ (ps : List Pair) (v : List ℕ). with_pair ps k.bytes v) (pairs_stay before value es are) new

pub put_kept : (before value : List ℕ) (es : List Entry) (k : ArrayString) (s : Span) → AreKept before es → length es < 2 ^ 32 - 1 → length k.bytes ≤ 16
    → IsUtf8 before → IsUtf8 (before ++ value) → s.start ≡ length before → s.end ≡ length (before ++ value) → AreKept (before ++ value) (insert_entry same_name es k s)
put_kept before value es k s old room name u v start end =
    let cut : IsSpan (before ++ value) s = cut_behind before value s u v start end in
    let stays : All (IsEntry (before ++ value)) es = (stay_kept before value es old u v).each in
    record {
      each = each_put (IsEntry (before ++ value)) es k s stays (record { cut = cut; name = name }) (λ (e : Entry) (i : IsEntry (before ++ value) e). record { cut = cut; name = i.name });
      few = omega (arith, longer es k s, room);
    }

-- no values stand in the empty text
pub none_kept : AreKept [] []
none_kept = record { each = All-nil (IsEntry []); few = omega arith }
