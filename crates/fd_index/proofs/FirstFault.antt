-- A place that reading names is the first against the format.
use Rattle.std.proofs.Common.{◌≡◌, ◌≢◌, ◌⊎◌, inl, inr, ℕ, zero, suc, ◌+◌, ◌-◌, ◌*◌, ◌%◌, ◌^◌, ◌<◌, ◌≤◌, Bool, true, false, true≢false, ◌||◌, ◌&&◌, ltb, leb, ◌==◌, if◌then◌else◌, List, [], ◌∷◌, ◌++◌, length, take, drop, replicate, slice_index, bytes_eq, codes, Result, Ok, Err, is_ok, refl, sym, ap, ◌∙◌, subst, append_assoc, append-nil, arith, length-append, length-drop, take-append-drop, ltb-true, ltb-false, leb-true, eqb-true, lt-ltb, le-ltb, le-leb, eq-eqb}
use Rattle.std.proofs.lemmas.List.{length-take-le}
use Rattle.std.proofs.lemmas.Slice.Eq.{bytes_eq-Decides}
use Rattle.fd_index.specs.declared.fault.IndexFault.{IndexFault}
use Rattle.fd_index.specs.declared.fault.IndexFault.TheVariants as faults
use Rattle.fd_index.specs.Records.{Record, Rising, AllFit}
use Rattle.fd_index.specs.Pages.{ArePages, joined, page_bytes, pages_bytes, record_bytes, records_bytes}
use Rattle.fd_index.specs.Reading.{◌>>=◌, body_of, check, counts_of, index_at, is_above, key_len_at, number_2, number_4, number_8, page_at, pages_at, pages_in, record_at, record_of, records_at, zeros_at}
use Rattle.fd_index.specs.Index.{AreOctets, Fails}
use Rattle.fd_index.specs.First.{BeginsRecord, CountsItsRecords, HasShape, IsFaultBehind, IsFaultOnPage, IsFirstPlace, IsPageFault, IsRecordFault, NamesFirstPlace, RefusesAtFirstPlace, room_behind}
use Rattle.fd_index.proofs.FaultRead.{first_place_read}
use Rattle.fd_index.proofs.ReadBack.{Follow, length-pages}
use Rattle.fd_index.proofs.Spelled.{One, OnePage, all_fit, all_follow, octets_back, octets_drop, octets_take, key_len_says, one_says, no_record_rises, page_says, rising_from_follow, some_says}

-- ---- Where steps failed

abbrev err_or : {A : Type 0} → ℕ → Result A ℕ → ℕ
err_or d (Ok x) = d
err_or d (Err e) = e

abbrev IsErr : {A : Type 0} → Result A ℕ → ℕ → Type 0
IsErr r at = r ≡ Err at

same_err : {A : Type 0} (a b : ℕ) (r : Result A ℕ) → IsErr r a → IsErr r b → a ≡ b
same_err a b r p q = sym (ap (err_or a) p) ∙ ap (err_or a) q

failed : {A B : Type 0} (step : Result A ℕ) (next : A → Result B ℕ) (at : ℕ) → (step >>= next) ≡ Err at → (step ≡ Err at) ⊎ ((x : A) × (step ≡ Ok x) × (next x ≡ Err at))
failed (Ok x) next at h = inr (x, refl, h)
failed {A} {B} (Err place) next at h = inl (ap Err (same_err {A = B} place at (Err place) refl h))

unchecked_at : {B : Type 0} (good : Bool) (place : ℕ) (next : Unit {0} → Result B ℕ) (at : ℕ) → (check good place >>= next) ≡ Err at → ((good ≡ false) × (at ≡ place)) ⊎ ((good ≡ true) × (next tt ≡ Err at))
unchecked_at true place next at h = inr (refl, h)
unchecked_at {B} false place next at h = inl (refl, sym (same_err {A = B} place at (Err place) refl h))

ok_not_err : {A : Type 0} (x : A) (at : ℕ) (r : Result A ℕ) → r ≡ Ok x → r ≡ Err at → ⊥
ok_not_err x at r p q = true≢false (ap is_ok (sym p ∙ q))

-- ---- One record

is_no_record : (end at : ℕ) (bytes : List ℕ) → key_len_at end bytes ≡ Err at → (BeginsRecord bytes → ⊥) × (at ≡ end - length bytes)
unfolding key_len_at
is_no_record end at bytes h = by (ltb (length bytes) 2 || ltb 256 (number_2 bytes) || ltb (length bytes) (18 + number_2 bytes)) refl h
  where
    not_all : (a b c : Bool) → (a || b || c) ≡ true → a ≡ false → b ≡ false → c ≡ false → ⊥
    not_all true b c h p q r = true≢false p
    not_all false true c h p q r = true≢false q
    not_all false false true h p q r = true≢false r
    not_all false false false h p q r = true≢false (sym h)

    by : (b : Bool) → (ltb (length bytes) 2 || ltb 256 (number_2 bytes) || ltb (length bytes) (18 + number_2 bytes)) ≡ b → (if b then Err (end - length bytes) else Ok (number_2 bytes)) ≡ Err at → (BeginsRecord bytes → ⊥) × (at ≡ end - length bytes)
    by true is h = (
      λ begins. not_all _ _ _ is (le-ltb (length bytes) 2 begins.0) (le-ltb 256 (number_2 bytes) begins.1) (le-ltb (length bytes) (18 + number_2 bytes) begins.2),
      sym (same_err {A = ℕ} (end - length bytes) at (Err (end - length bytes)) refl h),
    )
    by false is h = absurd (ok_not_err {A = ℕ} (number_2 bytes) at (Ok (number_2 bytes)) refl h)

begins_record : (end n : ℕ) (bytes : List ℕ) → key_len_at end bytes ≡ Ok n → BeginsRecord bytes × (n ≡ number_2 bytes)
begins_record end n bytes h =
    let k = key_len_says end n bytes h in
    ((omega (arith, k.fits), subst (λ m. m ≤ 256) k.is k.small, subst (λ m. 18 + m ≤ length bytes) k.is k.fits), k.is)

record_fault : (end at : ℕ) (before : List Record) (bytes : List ℕ) → record_at end before bytes ≡ Err at → IsRecordFault (end - length bytes) before bytes at
unfolding record_at
record_fault end at before bytes h =
    let made : ℕ → Result (List Record × List ℕ) ℕ = λ m. Ok (before ++ record_of m bytes ∷ [], drop (18 + m) bytes) in
    let from_len : ℕ → Result (List Record × List ℕ) ℕ = λ m. check (is_above before (take m (drop 2 bytes))) (end - length bytes + 2) >>= λ _. made m in
    elim (failed (key_len_at end bytes) from_len at h) [
      | inl e ↦ inl (is_no_record end at bytes e)
      | inr k ↦
          let begins = begins_record end k.0 bytes k.1 in
          elim (unchecked_at (is_above before (take k.0 (drop 2 bytes))) (end - length bytes + 2) (λ _. made k.0) at k.2) [
            | inl f ↦ inr (begins.0, subst (λ m. is_above before (take m (drop 2 bytes)) ≡ false) begins.1 f.0, f.1)
            | inr g ↦ absurd (ok_not_err (before ++ record_of k.0 bytes ∷ [], drop (18 + k.0) bytes) at (made k.0) refl g.1)
          ]
    ]

-- ---- The records of a page

record Stopped (n end : ℕ) (before : List Record) (bytes : List ℕ) (at : ℕ) : Type 0 where
  rs : List Record
  left : List ℕ
  is : bytes ≡ records_bytes rs ++ left
  fit : AllFit rs
  follow : Follow before rs
  few : length rs < n
  fault : record_at end (before ++ rs) left ≡ Err at

stops_here : (n end at : ℕ) (before : List Record) (bytes : List ℕ) → record_at end before bytes ≡ Err at → Stopped (suc n) end before bytes at
unfolding records_bytes
stops_here n end at before bytes h = record {
  rs = [];
  left = bytes;
  is = refl;
  fit = tt;
  follow = tt;
  few = omega arith;
  fault = ap (λ (b : List Record). record_at end b bytes) (append-nil before) ∙ h;
}

stops_later : (n end at : ℕ) (before middle : List Record) (bytes between : List ℕ) → One before middle bytes between → Stopped n end middle between at → Stopped (suc n) end before bytes at
unfolding records_bytes
stops_later n end at before middle bytes between one s = record {
  rs = one.r ∷ s.rs;
  left = s.left;
  is = one.bytes_is ∙ ap (λ (t : List ℕ). record_bytes one.r ++ t) s.is ∙ sym (append_assoc (record_bytes one.r) (records_bytes s.rs) s.left);
  fit = (one.fits, s.fit);
  follow = (one.above, subst (λ b. Follow b s.rs) one.all_is s.follow);
  few = (let few = s.few in omega (arith, few));
  fault = ap (λ (b : List Record). record_at end b s.left) (sym (ap (λ (b : List Record). b ++ s.rs) one.all_is ∙ append_assoc before (one.r ∷ []) s.rs)) ∙ s.fault;
}

stopped : (n end at : ℕ) (before : List Record) (bytes : List ℕ) → AreOctets bytes → records_at n end before bytes ≡ Err at → Stopped n end before bytes at
unfolding records_at
stopped zero end at before bytes o h = absurd (ok_not_err (before, bytes) at (Ok (before, bytes)) refl h)
stopped (suc n) end at before bytes o h =
    let next : List Record × List ℕ → Result (List Record × List ℕ) ℕ = λ one. records_at n end one.0 one.1 in
    elim (failed (record_at end before bytes) next at h) [
      | inl e ↦ stops_here n end at before bytes e
      | inr x ↦
          let one = one_says end before x.0.0 bytes x.0.1 o x.1 in
          stops_later n end at before x.0.0 bytes x.0.1 one (stopped n end at x.0.0 x.0.1 (octets_back (record_bytes one.r) x.0.1 bytes one.bytes_is o) x.2)
    ]

-- ---- The bytes behind them

abbrev Nonzero : ℕ → List ℕ → ℕ → Type 0
Nonzero end bytes at = (i : ℕ) × (i < length bytes) × (take i bytes ≡ replicate i 0) × (slice_index bytes i ≢ 0) × (at ≡ end - (length bytes - i))

nonzero : (end at : ℕ) (bytes : List ℕ) → zeros_at end bytes ≡ Err at → Nonzero end bytes at
nonzero end at [] h = absurd (ok_not_err {A = Unit {0}} tt at (Ok tt) refl h)
nonzero end at (b ∷ bytes) h = by (b == 0) refl h (nonzero end at bytes)
  where
    by : (z : Bool) → (b == 0) ≡ z → (if z then zeros_at end bytes else Err (end - length (b ∷ bytes))) ≡ Err at → (zeros_at end bytes ≡ Err at → Nonzero end bytes at) → Nonzero end (b ∷ bytes) at
    by true is h others =
        let n = others h in
        (suc n.0, omega (arith, n.1), (λ i. eqb-true b 0 is i ∷ n.2 i), n.3, n.4 ∙ (let same : end - (length bytes - n.0) ≡ end - (suc (length bytes) - suc n.0) = omega arith in same))
    by false is h others =
        (0, omega arith, refl, (λ zero_byte. true≢false (sym (eq-eqb b 0 zero_byte) ∙ is)), sym (same_err {A = Unit {0}} (end - length (b ∷ bytes)) at (Err (end - length (b ∷ bytes))) refl h) ∙ (let same : end - suc (length bytes) ≡ end - (suc (length bytes) - 0) = omega arith in same))

-- ---- A page

abbrev with_room : List Record × List ℕ → Unit {0} → Result (List Record × ℕ) ℕ
with_room rs done = Ok (rs.0, length rs.1)

abbrev finished : ℕ → List Record × List ℕ → Result (List Record × ℕ) ℕ
finished end rs = zeros_at end rs.1 >>= with_room rs

fault_of_page : (start end room at : ℕ) (before : List Record) (page : List ℕ) → end ≡ start + 4096 → length page ≡ 4096 → AreOctets page → Rising before → page_at end room before page ≡ Err at → IsPageFault start room before page at
unfolding page_at
fault_of_page start end room at before page place long o rising h =
    let text = drop 2 page in
    let text_long : length text ≡ 4094 = omega (arith, length-drop 2 page, long) in
    let from_records : Unit {0} → Result (List Record × ℕ) ℕ = λ _. records_at (number_2 page) end before text >>= finished end in
    let from_len : ℕ → Result (List Record × ℕ) ℕ = λ m. check (ltb room (18 + m)) (end - 4094) >>= from_records in
    elim (unchecked_at (ltb 0 (number_2 page)) (end - 4096) (λ _. key_len_at end text >>= from_len) at h) [
      | inl none ↦ inl (let le = ltb-false 0 (number_2 page) none.0 in omega (arith, le), none.1 ∙ omega (arith, place))
      | inr some ↦
          let count = ltb-true 0 (number_2 page) some.0 in
          elim (failed (key_len_at end text) from_len at some.1) [
            | inl e ↦
                let no = is_no_record end at text e in
                inr (inl (count, no.0, no.1 ∙ omega (arith, place, text_long)))
            | inr k ↦
                let begins = begins_record end k.0 text k.1 in
                elim (unchecked_at (ltb room (18 + k.0)) (end - 4094) from_records at k.2) [
                  | inl needless ↦ inr (inr (inl (count, begins.0, subst (λ m. 18 + m ≤ room) begins.1 (ltb-false room (18 + k.0) needless.0), needless.1 ∙ omega (arith, place))))
                  | inr needed ↦ inr (inr (inr (behind count begins.0 (subst (λ m. room < 18 + m) begins.1 (ltb-true room (18 + k.0) needed.0)) text_long needed.1)))
                ]
          ]
    ]
  where
    at_left : (rs : List Record) (left : List ℕ) → length (drop 2 page) ≡ 4094 → drop 2 page ≡ records_bytes rs ++ left → end - length left ≡ start + 2 + length (records_bytes rs)
    at_left rs left text_long is =
        let parts : length (records_bytes rs) + length left ≡ 4094 = sym (length-append (records_bytes rs) left) ∙ ap (length {A = ℕ}) (sym is) ∙ text_long in
        omega (arith, parts, place)

    at_byte : (rs : List Record) (left : List ℕ) (i : ℕ) → i < length left → length (drop 2 page) ≡ 4094 → drop 2 page ≡ records_bytes rs ++ left → end - (length left - i) ≡ start + 2 + length (records_bytes rs) + i
    at_byte rs left i lt text_long is =
        let parts : length (records_bytes rs) + length left ≡ 4094 = sym (length-append (records_bytes rs) left) ∙ ap (length {A = ℕ}) (sym is) ∙ text_long in
        omega (arith, parts, place, lt)

    behind : 0 < number_2 page → BeginsRecord (drop 2 page) → room < 18 + number_2 (drop 2 page) → length (drop 2 page) ≡ 4094
        → (records_at (number_2 page) end before (drop 2 page) >>= finished end) ≡ Err at → IsFaultBehind start room before page at
    behind some begins needed text_long h =
        elim (failed (records_at (number_2 page) end before (drop 2 page)) (finished end) at h) [
          | inl e ↦
              let s = stopped (number_2 page) end at before (drop 2 page) (octets_drop 2 page o) e in
              record {
                some = some;
                begins = begins;
                needed = needed;
                records = s.rs;
                left = s.left;
                is = s.is;
                fit = s.fit;
                rising = rising_from_follow before s.rs rising s.follow;
                fault = inl (s.few, subst (λ m. IsRecordFault m (before ++ s.rs) s.left at) (at_left s.rs s.left text_long s.is) (record_fault end at (before ++ s.rs) s.left s.fault));
              }
          | inr x ↦
              let rs = some_says (number_2 page) end before x.0.0 (drop 2 page) x.0.1 (octets_drop 2 page o) x.1 in
              elim (failed (zeros_at end x.0.1) (with_room x.0) at x.2) [
                | inl e ↦
                    let n = nonzero end at x.0.1 e in
                    record {
                      some = some;
                      begins = begins;
                      needed = needed;
                      records = rs.rs;
                      left = x.0.1;
                      is = rs.bytes_is;
                      fit = rs.fit;
                      rising = rising_from_follow before rs.rs rising rs.follow;
                      fault = inr (rs.count, (n.0, n.1, n.2, n.3, n.4 ∙ at_byte rs.rs x.0.1 n.0 n.1 text_long rs.bytes_is));
                    }
                | inr z ↦ absurd (ok_not_err (x.0.0, length x.0.1) at (Ok (x.0.0, length x.0.1)) refl z.2)
              ]
        ]

-- ---- All pages

record Torn (n end room : ℕ) (before : List Record) (bytes : List ℕ) (at : ℕ) : Type 0 where
  ps : List (List Record)
  page : List ℕ
  rest : List ℕ
  is : bytes ≡ pages_bytes ps ++ (page ++ rest)
  long : length page ≡ 4096
  octets : AreOctets page
  good : ArePages room ps
  fit : AllFit (joined ps)
  follow : Follow before (joined ps)
  fault : page_at (end - length rest) (room_behind room ps) (before ++ joined ps) page ≡ Err at

torn_here : (n end room at : ℕ) (before : List Record) (bytes : List ℕ) → AreOctets bytes → 4096 ≤ length bytes → page_at (end - length (drop 4096 bytes)) room before (take 4096 bytes) ≡ Err at → Torn (suc n) end room before bytes at
unfolding pages_bytes
torn_here n end room at before bytes o long h = record {
  ps = [];
  page = take 4096 bytes;
  rest = drop 4096 bytes;
  is = sym (take-append-drop 4096 bytes);
  long = length-take-le 4096 bytes long;
  octets = octets_take 4096 bytes o long;
  good = tt;
  fit = tt;
  follow = tt;
  fault = ap (λ (b : List Record). page_at (end - length (drop 4096 bytes)) room b (take 4096 bytes)) (append-nil before) ∙ h;
}

torn_later : (n end room left at : ℕ) (before middle : List Record) (bytes : List ℕ) → OnePage room left before middle (take 4096 bytes) → Torn n end left middle (drop 4096 bytes) at → Torn (suc n) end room before bytes at
unfolding pages_bytes
torn_later n end room left at before middle bytes page t = record {
  ps = page.p ∷ t.ps;
  page = t.page;
  rest = t.rest;
  is = sym (take-append-drop 4096 bytes) ∙ (λ i. page.page_is i ++ t.is i) ∙ sym (append_assoc (page_bytes page.p) (pages_bytes t.ps) (t.page ++ t.rest));
  long = t.long;
  octets = t.octets;
  good = (page.good, subst (λ m. ArePages m t.ps) page.left_is t.good);
  fit = all_fit page.p (joined t.ps) page.fit t.fit;
  follow = all_follow before page.p (joined t.ps) page.follow (subst (λ b. Follow b (joined t.ps)) page.all_is t.follow);
  fault =
      (λ i. page_at (end - length t.rest) (room_behind (sym page.left_is i) t.ps) (sym (ap (λ (b : List Record). b ++ joined t.ps) page.all_is ∙ append_assoc before page.p (joined t.ps)) i) t.page) ∙ t.fault;
}

torn : (n end room at : ℕ) (before : List Record) (bytes : List ℕ) → AreOctets bytes → length bytes ≡ 4096 * n → pages_at n end room before bytes ≡ Err at → Torn n end room before bytes at
unfolding pages_at
torn zero end room at before bytes o len h = absurd (ok_not_err before at (Ok before) refl h)
torn (suc n) end room at before bytes o len h =
    let next : List Record × ℕ → Result (List Record) ℕ = λ page. pages_at n end page.1 page.0 (drop 4096 bytes) in
    let long : 4096 ≤ length bytes = omega (arith, len) in
    elim (failed (page_at (end - length (drop 4096 bytes)) room before (take 4096 bytes)) next at h) [
      | inl e ↦ torn_here n end room at before bytes o long e
      | inr x ↦
          let page = page_says (end - length (drop 4096 bytes)) room x.0.1 before x.0.0 (take 4096 bytes) (octets_take 4096 bytes o long) (length-take-le 4096 bytes long) x.1 in
          torn_later n end room x.0.1 at before x.0.0 bytes page
          (torn n end x.0.1 at x.0.0 (drop 4096 bytes) (octets_drop 4096 bytes o) (let left : length (drop 4096 bytes) ≡ 4096 * n = omega (arith, length-drop 4096 bytes, len) in left) x.2)
    ]

on_page : (bytes : List ℕ) (at : ℕ) → AreOctets bytes → HasShape bytes → pages_at (pages_in bytes) (length bytes - 16) 0 [] (body_of bytes) ≡ Err at → IsFaultOnPage bytes at
on_page bytes at o shape h =
    let n = length bytes in
    let le = shape.0 in
    let whole = shape.1 in
    let body_long : length (body_of bytes) ≡ n - 24 = length-take-le (n - 24) (drop 8 bytes) (omega (arith, length-drop 8 bytes, le)) in
    let octets = octets_take (n - 24) (drop 8 bytes) (octets_drop 8 bytes o) (omega (arith, length-drop 8 bytes, le)) in
    let t = torn (pages_in bytes) (n - 16) 0 at [] (body_of bytes) octets (body_long ∙ omega (arith, whole)) h in
    let parts : 4096 * length t.ps + (4096 + length t.rest) ≡ n - 24 =
    (λ i. sym (length-pages t.ps 0 t.good) i + (sym t.long i + length t.rest)) ∙ ap (λ m. length (pages_bytes t.ps) + m) (sym (length-append t.page t.rest))
    ∙ sym (length-append (pages_bytes t.ps) (t.page ++ t.rest)) ∙ ap (length {A = ℕ}) (sym t.is) ∙ body_long in
    let rising = rising_from_follow [] (joined t.ps) no_record_rises t.follow in
    record {
      pages = t.ps;
      page = t.page;
      rest = t.rest;
      is = t.is;
      long = t.long;
      good = t.good;
      fit = t.fit;
      rising = rising;
      fault = fault_of_page (8 + 4096 * length t.ps) (n - 16 - length t.rest) (room_behind 0 t.ps) at (joined t.ps) t.page (omega (arith, parts, le)) t.long t.octets rising t.fault;
    }

-- ---- The file

both_so : (a b : Bool) → a ≡ true → b ≡ true → (a && b) ≡ true
both_so a b p q = λ i. p i && q i

not_so : {P : Type 0} (b : Bool) → (P → b ≡ true) → b ≡ false → P → ⊥
not_so b told h p = true≢false (sym (told p) ∙ h)

is_so : (a b : Bool) → (a && b) ≡ true → (a ≡ true) × (b ≡ true)
is_so true true h = (refl, refl)
is_so true false h = absurd (true≢false (sym h))
is_so false b h = absurd (true≢false (sym h))

pub first_place_of : (bytes : List ℕ) (at : ℕ) → AreOctets bytes → index_at bytes ≡ Err at → IsFirstPlace bytes at
unfolding index_at
first_place_of bytes at o h =
    let n = length bytes in
    let all : Unit {0} → Result (List Record) ℕ = λ _. pages_at (pages_in bytes) (n - 16) 0 [] (body_of bytes) in
    let sum = counts_of (pages_in bytes) (body_of bytes) in
    let good_sum : Bool = number_8 (drop (n - 16) bytes) == sum && ltb sum (2 ^ 32) in
    let good_pages : Bool = number_4 (drop (n - 8) bytes) == pages_in bytes in
    let good_mark : Bool = bytes_eq (drop (n - 4) bytes) (codes "FEND") in
    let good_head : Bool = bytes_eq (take 8 bytes) (codes "FDIDX001") in
    let good_len : Bool = leb 24 n && (n - 24) % 4096 == 0 in
    let from_sum : Unit {0} → Result (List Record) ℕ = λ _. check good_sum (n - 16) >>= all in
    let from_pages : Unit {0} → Result (List Record) ℕ = λ _. check good_pages (n - 8) >>= from_sum in
    let from_mark : Unit {0} → Result (List Record) ℕ = λ _. check good_mark (n - 4) >>= from_pages in
    let from_head : Unit {0} → Result (List Record) ℕ = λ _. check good_head 0 >>= from_mark in
    elim (unchecked_at good_len 0 from_head at h) [
      | inl bad ↦ inl (not_so good_len (λ (s : HasShape bytes). both_so (leb 24 n) ((n - 24) % 4096 == 0) (le-leb 24 n s.0) (eq-eqb ((n - 24) % 4096) 0 s.1)) bad.0, bad.1)
      | inr len ↦
          let shape = is_so (leb 24 n) ((n - 24) % 4096 == 0) len.0 in
          let has_shape : HasShape bytes = (leb-true 24 n shape.0, eqb-true ((n - 24) % 4096) 0 shape.1) in
          inr (
            has_shape,
            elim (unchecked_at good_head 0 from_mark at len.1) [
              | inl bad ↦ inl (not_so good_head (bytes_eq-Decides (take 8 bytes) (codes "FDIDX001")).1 bad.0, bad.1)
              | inr head ↦ inr (
                (bytes_eq-Decides (take 8 bytes) (codes "FDIDX001")).0 head.0,
                elim (unchecked_at good_mark (n - 4) from_pages at head.1) [
                  | inl bad ↦ inl (not_so good_mark (bytes_eq-Decides (drop (n - 4) bytes) (codes "FEND")).1 bad.0, bad.1)
                  | inr mark ↦ inr (
                    (bytes_eq-Decides (drop (n - 4) bytes) (codes "FEND")).0 mark.0,
                    elim (unchecked_at good_pages (n - 8) from_sum at mark.1) [
                      | inl bad ↦ inl (not_so good_pages (eq-eqb (number_4 (drop (n - 8) bytes)) (pages_in bytes)) bad.0, bad.1)
                      | inr pages ↦ inr (
                        eqb-true (number_4 (drop (n - 8) bytes)) (pages_in bytes) pages.0,
                        elim (unchecked_at good_sum (n - 16) all at pages.1) [
                          | inl bad ↦ inl (not_so good_sum (λ (s : CountsItsRecords bytes). both_so (number_8 (drop (n - 16) bytes) == sum) (ltb sum (2 ^ 32)) (eq-eqb (number_8 (drop (n - 16) bytes)) sum s.0) (lt-ltb sum (2 ^ 32) s.1)) bad.0, bad.1)
                          | inr number ↦
                              let counted = is_so (number_8 (drop (n - 16) bytes) == sum) (ltb sum (2 ^ 32)) number.0 in
                              inr ((eqb-true (number_8 (drop (n - 16) bytes)) sum counted.0, ltb-true sum (2 ^ 32) counted.1), on_page bytes at o has_shape number.1)
                        ],
                      )
                    ],
                  )
                ],
              )
            ],
          )
    ]

pub names_first_place : NamesFirstPlace
names_first_place bytes at o = (first_place_of bytes at o, first_place_read bytes at)

pub refuses_at_first : (fault : IndexFault) (bytes : List ℕ) → AreOctets bytes → Fails fault (index_at bytes) → RefusesAtFirstPlace bytes (Err fault)
refuses_at_first (faults.BadIndex at) bytes o failed = first_place_of bytes at o failed
refuses_at_first faults.NoMemory bytes o failed = tt
