-- The lengths of the bytes that an index's records stand for.
use Rattle.std.proofs.Common.{◌≡◌, ◌≤◌, ◌+◌, ℕ, Bool, true, false, true≢false, ◌&&◌, leb-true, leb, cond, List, [], ◌∷◌, length, take, drop, Option, Some, None, Result, Ok, refl, sym, ap, ◌∙◌, subst, arith, length-take, length-drop}
use Rattle.fd_entries.specs.declared.batch.Pair.{Pair}
use Rattle.fd_index.specs.Records.{Record}
use Rattle.fd_segment.specs.Held.{Files, IsIndexOf, batch_by_records, batch_of, batch_told, behind, digests_stand, end_by, pairs_of, pairs_within, records_in}
use Rattle.fd_inventory.specs.Shown.{AreLengths}

each : (more : ℕ) (fields : List ℕ) (n : ℕ) (rs : List Record) → n ≤ length fields → end_by more n rs ≡ true → AreLengths rs (pairs_of fields rs)
each more fields n [] long ends = tt
each more fields n (r ∷ rs) long ends = by (leb (r.at + r.len + more) n) refl ends (each more fields n rs long)
  where
    by : (b : Bool) → leb (r.at + r.len + more) n ≡ b → (b && end_by more n rs) ≡ true → (end_by more n rs ≡ true → AreLengths rs (pairs_of fields rs)) → AreLengths (r ∷ rs) (pairs_of fields (r ∷ rs))
    by true within rest later =
        let le = leb-true (r.at + r.len + more) n within in
        let dropped = length-drop r.at fields in
        let taken = length-take r.len (drop r.at fields) in
        ((refl, omega (arith, le, long, dropped, taken)), later rest)
    by false within rest later = absurd (true≢false (sym rest))

-- the records of an index, where its files stand for a batch
pub lengths_in : (f : Files) (rs : List Record) (b : List Pair) → IsIndexOf f.entry f.index rs → batch_of f ≡ Some b → AreLengths rs b
unfolding batch_of
lengths_in f rs b reads stands = go f.index f.fields reads stands
  where
    ending : (fields : List ℕ) → f.entry.fields_len ≤ length (take f.entry.fields_len fields) → (t : Bool) → end_by (behind f.entry) f.entry.fields_len rs ≡ t
        → cond t (Some (pairs_of (take f.entry.fields_len fields) rs)) None ≡ Some b → AreLengths rs b
    ending fields long true is h = let e : pairs_of (take f.entry.fields_len fields) rs ≡ b = cc h in subst (AreLengths rs) e (each (behind f.entry) (take f.entry.fields_len fields) f.entry.fields_len rs long is)
    ending fields long false is h = absurd (cc h)

    inner : (fields : List ℕ) (r : Result (List Record) ℕ) → r ≡ Ok rs → (u : Bool) → leb f.entry.fields_len (length fields) ≡ u
        → cond u (pairs_within (behind f.entry) f.entry.fields_len (take f.entry.fields_len fields) r) None ≡ Some b → AreLengths rs b
    inner fields r is true long h =
        let le = leb-true f.entry.fields_len (length fields) long in
        let taken = length-take f.entry.fields_len fields in
        ending fields (omega (arith, le, taken)) (end_by (behind f.entry) f.entry.fields_len rs) refl (sym (ap (pairs_within (behind f.entry) f.entry.fields_len (take f.entry.fields_len fields)) is) ∙ h)
    inner fields r is false long h = absurd (cc h)

    outer : (index fields : List ℕ) → records_in f.entry index ≡ Ok rs → (u : Bool)
        → cond (u && leb f.entry.fields_len (length fields)) (pairs_within (behind f.entry) f.entry.fields_len (take f.entry.fields_len fields) (records_in f.entry index)) None ≡ Some b → AreLengths rs b
    outer index fields reads true h = inner fields (records_in f.entry index) reads (leb f.entry.fields_len (length fields)) refl h
    outer index fields reads false h = absurd (cc h)

    by_records : (t : Bool) (x : Option (List Pair)) → cond t x None ≡ Some b → x ≡ Some b
    by_records true x h = h
    by_records false x h = absurd (cc h)

    go : (index fields : Option (List ℕ)) → IsIndexOf f.entry index rs → batch_told f.entry index fields ≡ Some b → AreLengths rs b
    go (Some index) (Some fields) reads h =
        outer index fields reads (leb f.entry.index_len (length index)) (by_records (digests_stand f.entry.digest (take f.entry.index_len index) (take f.entry.fields_len fields) (records_in f.entry index)) (batch_by_records f.entry index fields) h)
    go (Some index) None reads h = absurd (cc h)
    go None fields reads h = absurd (cc h)
