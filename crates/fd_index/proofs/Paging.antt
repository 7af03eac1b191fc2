use Rattle.std.proofs.Common.{◌≡◌, ℕ, suc, ◌+◌, ◌-◌, ◌*◌, ◌<◌, ◌≤◌, Bool, true, false, cond, leb, List, [], ◌∷◌, ◌++◌, length, refl, sym, ap, ◌∙◌, append_assoc, arith, length-append}
use Rattle.std.proofs.lemmas.List.{append-nil}
use Rattle.std.proofs.lemmas.Bool.{le-leb, lt-leb}
use Rattle.std.specs.Int.{w16, w64, to_be_bytes}
use Rattle.fd_index.specs.Records.{Record, AllFit}
use Rattle.fd_index.specs.Pages.{record_bytes, records_bytes, size, closed, pages_bytes, onto, cut, pages_of}

-- the finished pages, the page that is being filled, and what is still to come
abbrev pub finish_on : List ℕ → ℕ → List ℕ → List Record → List (List Record) → List ℕ
finish_on out count text p ps = out ++ (closed (count + length p) (text ++ records_bytes p) ++ pages_bytes ps)

abbrev pub finish : List ℕ → ℕ → List ℕ → List (List Record) → List ℕ
finish out count text [] = finish_on out count text [] []
finish out count text (p ∷ ps) = finish_on out count text p ps

closed_same : (count n : ℕ) (text more : List ℕ) → count ≡ n → text ≡ more → closed count text ≡ closed n more
closed_same count n text more e f = ap (λ k. closed k text) e ∙ ap (closed n) f

on_page : (out : List ℕ) (count : ℕ) (text : List ℕ) (e : Record) (p : List Record) (ps : List (List Record)) → finish_on out count text (e ∷ p) ps ≡ finish_on out (count + 1) (text ++ record_bytes e) p ps
unfolding records_bytes
on_page out count text e p ps =
    ap (λ (t : List ℕ). out ++ (t ++ pages_bytes ps))
    (closed_same (count + length (e ∷ p)) (count + 1 + length p) (text ++ records_bytes (e ∷ p)) ((text ++ record_bytes e) ++ records_bytes p)
    (let k : count + suc (length p) ≡ count + 1 + length p = omega arith in k) (sym (append_assoc text (record_bytes e) (records_bytes p))))

-- a record that fits goes onto the page
pub fits : (out : List ℕ) (count : ℕ) (text : List ℕ) (e : Record) (q : List (List Record)) → finish out count text (onto e q) ≡ finish out (count + 1) (text ++ record_bytes e) q
fits out count text e [] = on_page out count text e [] []
fits out count text e (p ∷ ps) = on_page out count text e p ps

next_page : (out : List ℕ) (count : ℕ) (text : List ℕ) (p : List Record) (ps : List (List Record)) → finish out count text ([] ∷ p ∷ ps) ≡ finish (out ++ closed count text) 0 [] (p ∷ ps)
unfolding records_bytes pages_bytes
next_page out count text p ps =
    ap (λ (t : List ℕ). out ++ (t ++ pages_bytes (p ∷ ps))) (closed_same (count + 0) count (text ++ []) text (omega arith) (append-nil text))
    ∙ sym (append_assoc out (closed count text) (pages_bytes (p ∷ ps)))
    ∙ ap (λ n. (out ++ closed count text) ++ (closed n (records_bytes p) ++ pages_bytes ps)) (let k : length p ≡ 0 + length p = omega arith in k)

-- one that doesn't closes it
pub begins : (out : List ℕ) (count : ℕ) (text : List ℕ) (e : Record) (q : List (List Record)) → finish out count text ([] ∷ onto e q) ≡ finish (out ++ closed count text) 1 (record_bytes e) q
begins out count text e [] = next_page out count text (e ∷ []) [] ∙ fits (out ++ closed count text) 0 [] e []
begins out count text e (p ∷ ps) = next_page out count text (e ∷ p) ps ∙ fits (out ++ closed count text) 0 [] e (p ∷ ps)

-- the last page
pub last_page : (out : List ℕ) (count : ℕ) (text : List ℕ) (room : ℕ) → finish out count text (cut room []) ≡ out ++ closed count text
unfolding cut records_bytes pages_bytes
last_page out count text room =
    ap (λ (t : List ℕ). out ++ (t ++ [])) (closed_same (count + 0) count (text ++ []) text (omega arith) (append-nil text)) ∙ ap (λ (t : List ℕ). out ++ t) (append-nil (closed count text))

pub cut_fits : (room : ℕ) (e : Record) (es : List Record) → leb (size e) room ≡ true → cut room (e ∷ es) ≡ onto e (cut (room - size e) es)
unfolding cut
cut_fits room e es h = ap (λ b. cond b (onto e (cut (room - size e) es)) ([] ∷ onto e (cut (4094 - size e) es))) h

pub cut_begins : (room : ℕ) (e : Record) (es : List Record) → leb (size e) room ≡ false → cut room (e ∷ es) ≡ [] ∷ onto e (cut (4094 - size e) es)
unfolding cut
cut_begins room e es h = ap (λ b. cond b (onto e (cut (room - size e) es)) ([] ∷ onto e (cut (4094 - size e) es))) h

some_onto : (e : Record) (q : List (List Record)) → 0 < length (onto e q)
some_onto e [] = omega arith
some_onto e (p ∷ ps) = omega arith

some_cond : (b : Bool) (x y : List (List Record)) → 0 < length x → 0 < length y → 0 < length (cond b x y)
some_cond true x y p q = p
some_cond false x y p q = q

pub some_cut : (room : ℕ) (es : List Record) → 0 < length (cut room es)
unfolding cut
some_cut room [] = omega arith
some_cut room (e ∷ es) = some_cond (leb (size e) room) (onto e (cut (room - size e) es)) ([] ∷ onto e (cut (4094 - size e) es)) (some_onto e (cut (room - size e) es)) (omega arith)

pub length-onto : (e : Record) (q : List (List Record)) → 0 < length q → length (onto e q) ≡ length q
length-onto e [] h = absurd (omega arith)
length-onto e (p ∷ ps) h = refl

pub length-record : (e : Record) → length (record_bytes e) ≡ size e
unfolding record_bytes
length-record e =
    let k = to_be_bytes w16 (length e.key) in
    let a = to_be_bytes w64 e.at in
    let n = to_be_bytes w64 e.len in
    let two : length k ≡ 2 = refl in
    let eight : length a ≡ 8 = refl in
    let eight_more : length n ≡ 8 = refl in
    let all : length (((k ++ e.key) ++ a) ++ n) ≡ 18 + length e.key = omega (arith, length-append ((k ++ e.key) ++ a) n, length-append (k ++ e.key) a, length-append k e.key, two, eight, eight_more) in
    all

-- ---- one turn

room_after : (text : List ℕ) (e : Record) → 4094 - length text - size e ≡ 4094 - length (text ++ record_bytes e)
room_after text e = omega (arith, length-append text (record_bytes e), length-record e)

pub turn_same : (out : List ℕ) (count : ℕ) (text : List ℕ) (e : Record) (es : List Record) → size e ≤ 4094 - length text
    → finish out count text (cut (4094 - length text) (e ∷ es)) ≡ finish out (count + 1) (text ++ record_bytes e) (cut (4094 - length (text ++ record_bytes e)) es)
turn_same out count text e es le =
    ap (finish out count text) (cut_fits (4094 - length text) e es (le-leb (size e) (4094 - length text) le))
    ∙ fits out count text e (cut (4094 - length text - size e) es)
    ∙ ap (λ room. finish out (count + 1) (text ++ record_bytes e) (cut room es)) (room_after text e)

pub turn_next : (out : List ℕ) (count : ℕ) (text : List ℕ) (e : Record) (es : List Record) → 4094 - length text < size e
    → finish out count text (cut (4094 - length text) (e ∷ es)) ≡ finish (out ++ closed count text) 1 (record_bytes e) (cut (4094 - length (record_bytes e)) es)
turn_next out count text e es lt =
    ap (finish out count text) (cut_begins (4094 - length text) e es (lt-leb (size e) (4094 - length text) lt))
    ∙ begins out count text e (cut (4094 - size e) es)
    ∙ ap (λ n. finish (out ++ closed count text) 1 (record_bytes e) (cut (4094 - n) es)) (sym (length-record e))

pub pages_same : (text : List ℕ) (e : Record) (es : List Record) → size e ≤ 4094 - length text
    → length (cut (4094 - length text) (e ∷ es)) ≡ length (cut (4094 - length (text ++ record_bytes e)) es)
pages_same text e es le =
    let rest = cut (4094 - length text - size e) es in
    ap (length {A = List Record}) (cut_fits (4094 - length text) e es (le-leb (size e) (4094 - length text) le)) ∙ length-onto e rest (some_cut (4094 - length text - size e) es)
    ∙ ap (λ room. length (cut room es)) (room_after text e)

pub pages_next : (text : List ℕ) (e : Record) (es : List Record) → 4094 - length text < size e
    → length (cut (4094 - length text) (e ∷ es)) ≡ 1 + length (cut (4094 - length (record_bytes e)) es)
pages_next text e es lt =
    let rest = cut (4094 - size e) es in
    ap (length {A = List Record}) (cut_begins (4094 - length text) e es (lt-leb (size e) (4094 - length text) lt))
    ∙ (let one : suc (length (onto e rest)) ≡ 1 + length rest = omega (arith, length-onto e rest (some_cut (4094 - size e) es)) in one)
    ∙ ap (λ n. 1 + length (cut (4094 - n) es)) (sym (length-record e))

-- What holds while the records that are left are still to be put: the finished pages, the page that is being filled and
-- those to come are all pages.
pub record Filling (all rest : List Record) (start out : List ℕ) (count pages : ℕ) (text : List ℕ) : Type 0 where
  pub done : ℕ
  pub split : done + length rest ≡ length all
  pub fit : AllFit rest
  pub bytes : finish out count text (cut (4094 - length text) rest) ≡ start ++ pages_bytes (cut 4094 all)
  pub total : pages + length (cut (4094 - length text) rest) ≡ 1 + length (cut 4094 all)
  pub room : length text ≤ 4094
  pub counted : 18 * count ≤ length text
  pub few : pages ≤ 1 + (done - 1)
  pub begun : length text ≤ 274 * done

whole : (start : List ℕ) (q : List (List Record)) → 0 < length q → finish start 0 [] q ≡ start ++ pages_bytes q
unfolding pages_bytes
whole start [] h = absurd (omega arith)
whole start (p ∷ ps) h = ap (λ n. start ++ (closed n (records_bytes p) ++ pages_bytes ps)) (let k : 0 + length p ≡ length p = omega arith in k)

pub starts : (rs : List Record) (start : List ℕ) → AllFit rs → Filling rs rs start start 0 1 []
starts rs start fit = record {
  done = 0;
  split = omega arith;
  fit = fit;
  bytes = whole start (cut 4094 rs) (some_cut 4094 rs);
  total = refl;
  room = omega arith;
  counted = omega arith;
  few = omega arith;
  begun = omega arith;
}

pages_some : (rs : List Record) → 0 < length rs → pages_of rs ≡ cut 4094 rs
unfolding pages_of
pages_some [] h = absurd (omega arith)
pages_some (r ∷ rs) h = refl

pub stops : (all : List Record) (start out : List ℕ) (count pages : ℕ) (text : List ℕ) → Filling all [] start out count pages text → 0 < length all
    → (out ++ closed count text ≡ start ++ pages_bytes (pages_of all)) × (pages ≡ length (pages_of all))
unfolding cut
stops all start out count pages text f some =
    let is : pages_of all ≡ cut 4094 all = pages_some all some in (
      sym (last_page out count text (4094 - length text)) ∙ f.bytes ∙ ap (λ q. start ++ pages_bytes q) (sym is),
      (let one : pages ≡ length (cut 4094 all) = omega (arith, f.total) in one) ∙ ap (length {A = List Record}) (sym is),
    )

pub adds : (all rest : List Record) (r : Record) (start out : List ℕ) (count pages : ℕ) (text : List ℕ) → Filling all (r ∷ rest) start out count pages text → size r ≤ 4094 - length text
    → Filling all rest start out (count + 1) pages (text ++ record_bytes r)
adds all rest r start out count pages text f le =
    let len = length-append text (record_bytes r) in
    let size_is = length-record r in
    let key = f.fit.0.key in
    record {
      done = f.done + 1;
      split = omega (arith, f.split);
      fit = f.fit.1;
      bytes = sym (turn_same out count text r rest le) ∙ f.bytes;
      total = ap (λ n. pages + n) (sym (pages_same text r rest le)) ∙ f.total;
      room = omega (arith, len, size_is, f.room, le);
      counted = omega (arith, len, size_is, f.counted);
      few = omega (arith, f.few);
      begun = omega (arith, len, size_is, f.begun, key);
    }

pub turns : (all rest : List Record) (r : Record) (start out : List ℕ) (count pages : ℕ) (text : List ℕ) → Filling all (r ∷ rest) start out count pages text → 4094 - length text < size r
    → Filling all rest start (out ++ closed count text) 1 (pages + 1) (record_bytes r)
turns all rest r start out count pages text f more =
    let size_is = length-record r in
    let key = f.fit.0.key in
    record {
      done = f.done + 1;
      split = omega (arith, f.split);
      fit = f.fit.1;
      bytes = sym (turn_next out count text r rest more) ∙ f.bytes;
      total = (let one : pages + 1 + length (cut (4094 - length (record_bytes r)) rest) ≡ pages + length (cut (4094 - length text) (r ∷ rest)) = omega (arith, pages_next text r rest more) in one) ∙ f.total;
      room = omega (arith, size_is, key);
      counted = omega (arith, size_is);
      few = omega (arith, f.few, f.begun, key, more);
      begun = omega (arith, size_is, key);
    }

pub none_to_put : (rs : List Record) (start : List ℕ) → length rs ≡ 0 → (start ≡ start ++ pages_bytes (pages_of rs)) × (0 ≡ length (pages_of rs))
unfolding pages_of pages_bytes
none_to_put [] start e = (sym (append-nil start), refl)
none_to_put (r ∷ rs) start e = absurd (omega arith)
