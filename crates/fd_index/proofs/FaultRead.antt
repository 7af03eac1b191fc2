-- The first place against the format is the place that reading names.
use Rattle.std.proofs.Common.{◌≡◌, ◌≢◌, ◌⊎◌, inl, inr, ℕ, zero, suc, ◌+◌, ◌-◌, ◌*◌, ◌%◌, ◌^◌, ◌<◌, Bool, true, false, true≢false, ◌||◌, ◌&&◌, ltb, leb, ◌==◌, if◌then◌else◌, List, [], ◌∷◌, ◌++◌, length, take, drop, replicate, slice_index, bytes_eq, codes, Result, Ok, Err, refl, sym, ap, ◌∙◌, append_assoc, append-nil, add-zero, arith, length-append, length-drop, take_at, drop_at, ltb-true, ltb-false, leb-true, eqb-true, lt-ltb, le-ltb, le-leb, eq-eqb}
use Rattle.std.proofs.lemmas.List.{length-take-le}
use Rattle.std.proofs.lemmas.Slice.Eq.{bytes_eq-Decides}
use Rattle.fd_index.specs.Records.{Record, AllFit}
use Rattle.fd_index.specs.Pages.{ArePages, joined, page_bytes, pages_bytes, record_bytes, records_bytes, room_after}
use Rattle.fd_index.specs.Reading.{◌>>=◌, body_of, check, counts_of, index_at, is_above, key_len_at, number_2, number_4, number_8, page_at, pages_at, pages_in, record_at, record_of, records_at, zeros_at}
use Rattle.fd_index.specs.First.{BeginsRecord, CountsItsRecords, HasShape, IsFaultBehind, IsFaultOnPage, IsFirstPlace, IsPageFault, IsRecordFault, room_behind}
use Rattle.fd_index.proofs.ReadBack.{Follow, checked, fit_back, fit_front, follow_back, follow_from_rising, follow_front, key_len_is, length-page, length-pages, page_length, passed, read_page, read_record}
use Rattle.fd_index.proofs.ReadTurns.{none_left, one_more, page_more, page_wrong, one_wrong}

unchecked_fails : {B : Type 0} (good : Bool) (place : ℕ) (next : Unit {0} → Result B ℕ) → good ≡ false → (check good place >>= next) ≡ Err place
unchecked_fails good place next h = ap (λ b. check b place >>= next) h

step_fails : {A B : Type 0} (step : Result A ℕ) (next : A → Result B ℕ) (at : ℕ) → step ≡ Err at → (step >>= next) ≡ Err at
step_fails step next at h = ap (λ s. s >>= next) h

is_either : (b : Bool) → (b ≡ true) ⊎ (b ≡ false)
is_either true = inl refl
is_either false = inr refl

no_record_read : (end at : ℕ) (bytes : List ℕ) → (BeginsRecord bytes → ⊥) → at ≡ end - length bytes → key_len_at end bytes ≡ Err at
unfolding key_len_at
no_record_read end at bytes never is =
    ap (λ (b : Bool). if b then Err (end - length bytes) else Ok (number_2 bytes)) (one_holds (is_either (ltb (length bytes) 2)) (is_either (ltb 256 (number_2 bytes))) (is_either (ltb (length bytes) (18 + number_2 bytes)))) ∙ ap Err (sym is)
  where
    any_left : (b c : Bool) → (true || b || c) ≡ true
    any_left b c = refl

    one_holds : (ltb (length bytes) 2 ≡ true) ⊎ (ltb (length bytes) 2 ≡ false) → (ltb 256 (number_2 bytes) ≡ true) ⊎ (ltb 256 (number_2 bytes) ≡ false) → (ltb (length bytes) (18 + number_2 bytes) ≡ true) ⊎ (ltb (length bytes) (18 + number_2 bytes) ≡ false)
        → (ltb (length bytes) 2 || ltb 256 (number_2 bytes) || ltb (length bytes) (18 + number_2 bytes)) ≡ true
    one_holds (inl p) q r = ap (λ b. b || ltb 256 (number_2 bytes) || ltb (length bytes) (18 + number_2 bytes)) p
    one_holds (inr p) (inl q) r = (λ i. p i || q i || ltb (length bytes) (18 + number_2 bytes))
    one_holds (inr p) (inr q) (inl r) = (λ i. p i || q i || r i)
    one_holds (inr p) (inr q) (inr r) = absurd (never (ltb-false (length bytes) 2 p, ltb-false 256 (number_2 bytes) q, ltb-false (length bytes) (18 + number_2 bytes) r))

begins_read : (end : ℕ) (bytes : List ℕ) → BeginsRecord bytes → key_len_at end bytes ≡ Ok (number_2 bytes)
begins_read end bytes begins = key_len_is end (number_2 bytes) bytes refl begins.1 begins.2

record_fault_read : (end place at : ℕ) (before : List Record) (bytes : List ℕ) → place ≡ end - length bytes → IsRecordFault place before bytes at → record_at end before bytes ≡ Err at
unfolding record_at
record_fault_read end place at before bytes is fault =
    let made : ℕ → Result (List Record × List ℕ) ℕ = λ m. Ok (before ++ record_of m bytes ∷ [], drop (18 + m) bytes) in
    let from_len : ℕ → Result (List Record × List ℕ) ℕ = λ m. check (is_above before (take m (drop 2 bytes))) (end - length bytes + 2) >>= λ _. made m in
    elim fault [
      | inl none ↦ step_fails (key_len_at end bytes) from_len at (no_record_read end at bytes none.0 (none.1 ∙ is))
      | inr order ↦
          passed (key_len_at end bytes) (number_2 bytes) from_len (begins_read end bytes order.0)
          ∙ unchecked_fails (is_above before (take (number_2 bytes) (drop 2 bytes))) (end - length bytes + 2) (λ _. made (number_2 bytes)) order.1
          ∙ ap Err (ap (λ n. n + 2) (sym is) ∙ sym order.2)
    ]

-- records that are there leave the others to be read
records_left : (rs : List Record) (k end : ℕ) (before : List Record) (left : List ℕ) → AllFit rs → Follow before rs → records_at (length rs + k) end before (records_bytes rs ++ left) ≡ records_at k end (before ++ rs) left
unfolding records_bytes
records_left [] k end before left fit follow =
    (λ i. records_at (let none : 0 + k ≡ k = omega arith in none i) end (sym (append-nil before) i) left)
records_left (r ∷ rs) k end before left fit follow =
    let rest = records_bytes rs ++ left in
    ap (records_at (length (r ∷ rs) + k) end before) (append_assoc (record_bytes r) (records_bytes rs) left)
    ∙ one_more (length (r ∷ rs) + k) (length rs + k) end before (before ++ r ∷ []) (record_bytes r ++ rest) rest (let more : suc (length rs) + k ≡ suc (length rs + k) = omega arith in more) (read_record r fit.0 rest end before follow.0)
    ∙ records_left rs k end (before ++ r ∷ []) left fit.1 follow.1
    ∙ ap (λ (b : List Record). records_at k end b left) (append_assoc before (r ∷ []) rs)

zero_fault_read : (end at i : ℕ) (bytes : List ℕ) → i < length bytes → take i bytes ≡ replicate i 0 → slice_index bytes i ≢ 0 → at ≡ end - (length bytes - i) → zeros_at end bytes ≡ Err at
zero_fault_read end at i [] lt zeros never is = absurd (omega (arith, lt))
zero_fault_read end at zero (b ∷ bytes) lt zeros never is =
    ap (λ (z : Bool). if z then zeros_at end bytes else Err (end - length (b ∷ bytes))) (other (is_either (b == 0)))
    ∙ ap Err ((let same : end - suc (length bytes) ≡ end - (suc (length bytes) - 0) = omega arith in same) ∙ sym is)
  where
    other : ((b == 0) ≡ true) ⊎ ((b == 0) ≡ false) → (b == 0) ≡ false
    other (inl p) = absurd (never (eqb-true b 0 p))
    other (inr p) = p
zero_fault_read end at (suc i) (b ∷ bytes) lt zeros never is =
    let first : b ≡ 0 = ap (λ (t : List ℕ). slice_index t 0) zeros in
    let others : take i bytes ≡ replicate i 0 = ap (drop 1) zeros in
    ap (λ (z : Bool). if z then zeros_at end bytes else Err (end - length (b ∷ bytes))) (eq-eqb b 0 first)
    ∙ zero_fault_read end at i bytes (omega (arith, lt)) others never (is ∙ (let same : end - (suc (length bytes) - suc i) ≡ end - (length bytes - i) = omega arith in same))

-- ---- A page

abbrev with_room : List Record × List ℕ → Unit {0} → Result (List Record × ℕ) ℕ
with_room rs done = Ok (rs.0, length rs.1)

abbrev finished : ℕ → List Record × List ℕ → Result (List Record × ℕ) ℕ
finished end rs = zeros_at end rs.1 >>= with_room rs

module _ (start end room at : ℕ) (before : List Record) (page : List ℕ) (place : end ≡ start + 4096) (long : length page ≡ 4096) where
  text_long : length (drop 2 page) ≡ 4094
  text_long = omega (arith, length-drop 2 page, long)

  at_left : (rs : List Record) (left : List ℕ) → drop 2 page ≡ records_bytes rs ++ left → start + 2 + length (records_bytes rs) ≡ end - length left
  at_left rs left is =
      let parts : length (records_bytes rs) + length left ≡ 4094 = sym (length-append (records_bytes rs) left) ∙ ap (length {A = ℕ}) (sym is) ∙ text_long in
      omega (arith, parts, place)

  at_byte : (rs : List Record) (left : List ℕ) (i : ℕ) → i < length left → drop 2 page ≡ records_bytes rs ++ left → start + 2 + length (records_bytes rs) + i ≡ end - (length left - i)
  at_byte rs left i lt is =
      let parts : length (records_bytes rs) + length left ≡ 4094 = sym (length-append (records_bytes rs) left) ∙ ap (length {A = ℕ}) (sym is) ∙ text_long in
      omega (arith, parts, place, lt)

  records_fail : (b : IsFaultBehind start room before page at) → (records_at (number_2 page) end before (drop 2 page) >>= finished end) ≡ Err at
  records_fail b =
      let rs = b.records in
      let follow = follow_from_rising before rs b.rising in
      elim b.fault [
        | inl f ↦
            let few = f.0 in
            let k = number_2 page - (length rs + 1) in
            let count : number_2 page ≡ length rs + suc k = omega (arith, few) in
            step_fails (records_at (number_2 page) end before (drop 2 page)) (finished end) at
            ((λ i. records_at (count i) end before (b.is i)) ∙ records_left rs (suc k) end before b.left b.fit follow
            ∙ one_wrong (suc k) k end at (before ++ rs) b.left refl (record_fault_read end (start + 2 + length (records_bytes rs)) at (before ++ rs) b.left (at_left rs b.left b.is) f.1))
        | inr f ↦
            let z = f.1 in
            let count : number_2 page ≡ length rs + 0 = sym f.0 ∙ sym (add-zero (length rs)) in
            passed (records_at (number_2 page) end before (drop 2 page)) (before ++ rs, b.left) (finished end)
            ((λ i. records_at (count i) end before (b.is i)) ∙ records_left rs 0 end before b.left b.fit follow ∙ none_left 0 end (before ++ rs) b.left refl)
            ∙ step_fails (zeros_at end b.left) (with_room (before ++ rs, b.left)) at (zero_fault_read end at z.0 b.left z.1 z.2 z.3 (z.4 ∙ at_byte rs b.left z.0 z.1 b.is))
      ]

  page_fails : IsPageFault start room before page at → page_at end room before page ≡ Err at
  unfolding page_at
  page_fails fault =
      let text = drop 2 page in
      let from_records : Unit {0} → Result (List Record × ℕ) ℕ = λ _. records_at (number_2 page) end before text >>= finished end in
      let from_len : ℕ → Result (List Record × ℕ) ℕ = λ m. check (ltb room (18 + m)) (end - 4094) >>= from_records in
      let from_count : Unit {0} → Result (List Record × ℕ) ℕ = λ _. key_len_at end text >>= from_len in
      let count : 0 < number_2 page → (check (ltb 0 (number_2 page)) (end - 4096) >>= from_count) ≡ from_count tt = λ some. checked (ltb 0 (number_2 page)) (end - 4096) from_count (lt-ltb 0 (number_2 page) some) in
      elim fault [
        | inl none ↦
            let zero_count = none.0 in
            unchecked_fails (ltb 0 (number_2 page)) (end - 4096) from_count (le-ltb 0 (number_2 page) (omega (arith, zero_count)))
            ∙ ap Err ((let same : end - 4096 ≡ start = omega (arith, place) in same) ∙ sym none.1)
        | inr rest ↦ elim rest [
          | inl first ↦ count first.0 ∙ step_fails (key_len_at end text) from_len at (no_record_read end at text first.1 (first.2 ∙ omega (arith, place, text_long)))
          | inr rest ↦ elim rest [
            | inl needless ↦
                count needless.0 ∙ passed (key_len_at end text) (number_2 text) from_len (begins_read end text needless.1)
                ∙ unchecked_fails (ltb room (18 + number_2 text)) (end - 4094) from_records (le-ltb room (18 + number_2 text) needless.2)
                ∙ ap Err ((let same : end - 4094 ≡ start + 2 = omega (arith, place) in same) ∙ sym needless.3)
            | inr b ↦
                count b.some ∙ passed (key_len_at end text) (number_2 text) from_len (begins_read end text b.begins)
                ∙ checked (ltb room (18 + number_2 text)) (end - 4094) from_records (lt-ltb room (18 + number_2 text) b.needed)
                ∙ records_fail b
          ]
        ]
      ]

-- ---- All pages

pages_fail : (ps : List (List Record)) (k end room at : ℕ) (before : List Record) (page rest : List ℕ) → ArePages room ps → AllFit (joined ps) → Follow before (joined ps) → length page ≡ 4096
    → page_at (end - length rest) (room_behind room ps) (before ++ joined ps) page ≡ Err at → pages_at (length ps + suc k) end room before (pages_bytes ps ++ (page ++ rest)) ≡ Err at
unfolding pages_bytes
pages_fail [] k end room at before page rest pages fit follow long h =
    page_wrong (0 + suc k) k end room at before (page ++ rest) (omega arith)
    ((λ i. page_at (end - length (drop_at page rest 4096 long i)) room (sym (append-nil before) i) (take_at page rest 4096 long i)) ∙ h)
pages_fail (p ∷ ps) k end room at before page rest pages fit follow long h =
    let len = length-page p (page_length room p pages.0) in
    let others = pages_bytes ps ++ (page ++ rest) in
    let front : take 4096 (page_bytes p ++ others) ≡ page_bytes p = take_at (page_bytes p) others 4096 len in
    let back : drop 4096 (page_bytes p ++ others) ≡ others = drop_at (page_bytes p) others 4096 len in
    let after = before ++ p in
    ap (pages_at (length (p ∷ ps) + suc k) end room before) (append_assoc (page_bytes p) (pages_bytes ps) (page ++ rest))
    ∙ page_more (length (p ∷ ps) + suc k) (length ps + suc k) end room (room_after p) before after (page_bytes p ++ others) (let more : suc (length ps) + suc k ≡ suc (length ps + suc k) = omega arith in more)
    ((λ i. page_at (end - length (back i)) room before (front i)) ∙ read_page (end - length others) room before p pages.0 (fit_front p (joined ps) fit) (follow_front before p (joined ps) follow))
    ∙ ap (pages_at (length ps + suc k) end (room_after p) after) back
    ∙ pages_fail ps k end (room_after p) at after page rest pages.1 (fit_back p (joined ps) fit) (follow_back before p (joined ps) follow) long
    (ap (λ (b : List Record). page_at (end - length rest) (room_behind (room_after p) ps) b page) (append_assoc before p (joined ps)) ∙ h)

on_page_read : (bytes : List ℕ) (at : ℕ) → HasShape bytes → IsFaultOnPage bytes at → pages_at (pages_in bytes) (length bytes - 16) 0 [] (body_of bytes) ≡ Err at
on_page_read bytes at shape f =
    let n = length bytes in
    let le = shape.0 in
    let whole = shape.1 in
    let body_long : length (body_of bytes) ≡ n - 24 = length-take-le (n - 24) (drop 8 bytes) (omega (arith, length-drop 8 bytes, le)) in
    let parts : 4096 * length f.pages + (4096 + length f.rest) ≡ n - 24 =
    (λ i. sym (length-pages f.pages 0 f.good) i + (sym f.long i + length f.rest)) ∙ ap (λ m. length (pages_bytes f.pages) + m) (sym (length-append f.page f.rest))
    ∙ sym (length-append (pages_bytes f.pages) (f.page ++ f.rest)) ∙ ap (length {A = ℕ}) (sym f.is) ∙ body_long in
    let k = pages_in bytes - (length f.pages + 1) in
    let count : pages_in bytes ≡ length f.pages + suc k = omega (arith, parts, whole, le) in
    (λ i. pages_at (count i) (n - 16) 0 [] (f.is i))
    ∙ pages_fail f.pages k (n - 16) 0 at [] f.page f.rest f.good f.fit (follow_from_rising [] (joined f.pages) f.rising) f.long
    (page_fails (8 + 4096 * length f.pages) (n - 16 - length f.rest) (room_behind 0 f.pages) at (joined f.pages) f.page (omega (arith, parts, le)) f.long f.fault)

-- ---- The file

so_not : (b : Bool) → (b ≡ true → ⊥) → b ≡ false
so_not true never = absurd (never refl)
so_not false never = refl

both_so : (a b : Bool) → a ≡ true → b ≡ true → (a && b) ≡ true
both_so a b p q = λ i. p i && q i

is_so : (a b : Bool) → (a && b) ≡ true → (a ≡ true) × (b ≡ true)
is_so true true h = (refl, refl)
is_so true false h = absurd (true≢false (sym h))
is_so false b h = absurd (true≢false (sym h))

pub first_place_read : (bytes : List ℕ) (at : ℕ) → IsFirstPlace bytes at → index_at bytes ≡ Err at
unfolding index_at
first_place_read bytes at place =
    let n = length bytes in
    let all : Unit {0} → Result (List Record) ℕ = λ _. pages_at (pages_in bytes) (n - 16) 0 [] (body_of bytes) in
    let sum = counts_of (pages_in bytes) (body_of bytes) in
    let good_sum : Bool = number_8 (drop (n - 16) bytes) == sum && ltb sum (2 ^ 32) in
    let good_pages : Bool = number_4 (drop (n - 8) bytes) == pages_in bytes in
    let good_mark : Bool = bytes_eq (drop (n - 4) bytes) (codes "FEND") in
    let good_head : Bool = bytes_eq (take 8 bytes) (codes "FDIDX001") in
    let good_len : Bool = leb 24 n && (n - 24) % 4096 == 0 in
    let from_sum : Unit {0} → Result (List Record) ℕ = λ _. check good_sum (n - 16) >>= all in
    let from_pages : Unit {0} → Result (List Record) ℕ = λ _. check good_pages (n - 8) >>= from_sum in
    let from_mark : Unit {0} → Result (List Record) ℕ = λ _. check good_mark (n - 4) >>= from_pages in
    let from_head : Unit {0} → Result (List Record) ℕ = λ _. check good_head 0 >>= from_mark in
    let shape_said : good_len ≡ true → HasShape bytes = λ h. let s = is_so (leb 24 n) ((n - 24) % 4096 == 0) h in (leb-true 24 n s.0, eqb-true ((n - 24) % 4096) 0 s.1) in
    let sum_said : good_sum ≡ true → CountsItsRecords bytes = λ h. let s = is_so (number_8 (drop (n - 16) bytes) == sum) (ltb sum (2 ^ 32)) h in (eqb-true (number_8 (drop (n - 16) bytes)) sum s.0, ltb-true sum (2 ^ 32) s.1) in
    elim place [
      | inl bad ↦ unchecked_fails good_len 0 from_head (so_not good_len (λ h. bad.0 (shape_said h))) ∙ ap Err (sym bad.1)
      | inr shape ↦
          checked good_len 0 from_head (both_so (leb 24 n) ((n - 24) % 4096 == 0) (le-leb 24 n shape.0.0) (eq-eqb ((n - 24) % 4096) 0 shape.0.1))
          ∙ elim shape.1 [
            | inl bad ↦ unchecked_fails good_head 0 from_mark (so_not good_head (λ h. bad.0 ((bytes_eq-Decides (take 8 bytes) (codes "FDIDX001")).0 h))) ∙ ap Err (sym bad.1)
            | inr head ↦
                checked good_head 0 from_mark ((bytes_eq-Decides (take 8 bytes) (codes "FDIDX001")).1 head.0)
                ∙ elim head.1 [
                  | inl bad ↦ unchecked_fails good_mark (n - 4) from_pages (so_not good_mark (λ h. bad.0 ((bytes_eq-Decides (drop (n - 4) bytes) (codes "FEND")).0 h))) ∙ ap Err (sym bad.1)
                  | inr mark ↦
                      checked good_mark (n - 4) from_pages ((bytes_eq-Decides (drop (n - 4) bytes) (codes "FEND")).1 mark.0)
                      ∙ elim mark.1 [
                        | inl bad ↦ unchecked_fails good_pages (n - 8) from_sum (so_not good_pages (λ h. bad.0 (eqb-true (number_4 (drop (n - 8) bytes)) (pages_in bytes) h))) ∙ ap Err (sym bad.1)
                        | inr pages ↦
                            checked good_pages (n - 8) from_sum (eq-eqb (number_4 (drop (n - 8) bytes)) (pages_in bytes) pages.0)
                            ∙ elim pages.1 [
                              | inl bad ↦ unchecked_fails good_sum (n - 16) all (so_not good_sum (λ h. bad.0 (sum_said h))) ∙ ap Err (sym bad.1)
                              | inr number ↦
                                  checked good_sum (n - 16) all (both_so (number_8 (drop (n - 16) bytes) == sum) (ltb sum (2 ^ 32)) (eq-eqb (number_8 (drop (n - 16) bytes)) sum number.0.0) (lt-ltb sum (2 ^ 32) number.0.1))
                                  ∙ on_page_read bytes at shape.0 number.1
                            ]
                      ]
                ]
          ]
    ]
