-- An index file is read back as its records.
use Rattle.std.proofs.Common.{◌≡◌, ℕ, zero, suc, ◌+◌, ◌-◌, ◌*◌, ◌%◌, ◌^◌, ◌<◌, ◌≤◌, Bool, true, false, ◌||◌, ◌&&◌, ltb, leb, ◌==◌, if◌then◌else◌, List, [], ◌∷◌, ◌++◌, length, take, drop, replicate, bytes_eq, codes, Result, Ok, Err, refl, sym, ap, ◌∙◌, subst, append_assoc, append-nil, arith, length-append, take_at, drop_at, lt-ltb, le-ltb, eq-eqb, le-leb}
use Rattle.std.specs.Int.{w16, w32, w64, to_be_bytes}
use Rattle.std.specs.Ordering.{is_lt}
use Rattle.std.specs.List.Sorted.{IsStrictlySortedBy}
use Rattle.std.proofs.lemmas.List.{length-replicate}
use Rattle.std.proofs.lemmas.Nat.{from_be_bytes-to_be_bytes_2, from_be_bytes-to_be_bytes_4, from_be_bytes-to_be_bytes_8}
use Rattle.fd_index.specs.Records.{Record, Rising, Fits, AllFit}
use Rattle.fd_index.specs.Pages.{ArePages, IsIndex, IsPage, index_of, joined, page_bytes, pages_bytes, pages_of, record_bytes, records_bytes, room_after}
use Rattle.fd_index.specs.Reading.{◌>>=◌, body_of, check, counts_of, index_at, is_above, key_len_at, number_2, number_4, number_8, page_at, pages_at, pages_in, record_at, record_of, records_at, zeros_at}
use Rattle.fd_index.proofs.Paging.{length-record}
use Rattle.fd_index.proofs.PageLaws.{length_one_more, made}
use Rattle.fd_index.proofs.ReadTurns.{one_more, none_left, page_more, no_page, count_more, no_count}

-- ---- One step passes

pub checked : {B : Type 0} (good : Bool) (place : ℕ) (next : Unit {0} → Result B ℕ) → good ≡ true → (check good place >>= next) ≡ next tt
checked good place next h = ap (λ b. check b place >>= next) h

pub passed : {A B : Type 0} (step : Result A ℕ) (x : A) (next : A → Result B ℕ) → step ≡ Ok x → (step >>= next) ≡ next x
passed step x next h = ap (λ s. s >>= next) h

-- ---- One record

none_of_three : (a b c : Bool) → a ≡ false → b ≡ false → c ≡ false → (a || b || c) ≡ false
none_of_three a b c p q r = (λ i. p i || q i || r i)

pub key_len_is : (end n : ℕ) (bytes : List ℕ) → number_2 bytes ≡ n → n ≤ 256 → 18 + n ≤ length bytes → key_len_at end bytes ≡ Ok n
unfolding key_len_at
key_len_is end n bytes is small fits =
    let two : ltb (length bytes) 2 ≡ false = le-ltb (length bytes) 2 (omega (arith, fits)) in
    let most : ltb 256 (number_2 bytes) ≡ false = le-ltb 256 (number_2 bytes) (omega (arith, small, is)) in
    let room : ltb (length bytes) (18 + number_2 bytes) ≡ false = le-ltb (length bytes) (18 + number_2 bytes) (omega (arith, fits, is)) in
    ap (λ (b : Bool). if b then Err (end - length bytes) else Ok (number_2 bytes)) (none_of_three _ _ _ two most room) ∙ ap Ok is

pub record_is : (end n : ℕ) (before : List Record) (bytes : List ℕ) → key_len_at end bytes ≡ Ok n → is_above before (take n (drop 2 bytes)) ≡ true → record_at end before bytes ≡ Ok (before ++ record_of n bytes ∷ [], drop (18 + n) bytes)
unfolding record_at
record_is end n before bytes len above =
    let made : ℕ → Result (List Record × List ℕ) ℕ = λ m. Ok (before ++ record_of m bytes ∷ [], drop (18 + m) bytes) in
    passed (key_len_at end bytes) n (λ m. check (is_above before (take m (drop 2 bytes))) (end - length bytes + 2) >>= λ _. made m) len
    ∙ checked (is_above before (take n (drop 2 bytes))) (end - length bytes + 2) (λ _. made n) above

module _ (r : Record) (fits : Fits r) (tail : List ℕ) where
  abbrev k : List ℕ
  k = to_be_bytes w16 (length r.key)

  abbrev a : List ℕ
  a = to_be_bytes w64 r.at

  abbrev l : List ℕ
  l = to_be_bytes w64 r.len

  abbrev bytes : List ℕ
  bytes = record_bytes r ++ tail

  at_key : bytes ≡ k ++ (r.key ++ (a ++ (l ++ tail)))
  unfolding record_bytes
  at_key = append_assoc ((k ++ r.key) ++ a) l tail ∙ append_assoc (k ++ r.key) a (l ++ tail) ∙ append_assoc k r.key (a ++ (l ++ tail))

  at_place : bytes ≡ (k ++ r.key) ++ (a ++ (l ++ tail))
  unfolding record_bytes
  at_place = append_assoc ((k ++ r.key) ++ a) l tail ∙ append_assoc (k ++ r.key) a (l ++ tail)

  at_length : bytes ≡ ((k ++ r.key) ++ a) ++ (l ++ tail)
  unfolding record_bytes
  at_length = append_assoc ((k ++ r.key) ++ a) l tail

  two : length k ≡ 2
  two = refl

  eight : length a ≡ 8
  eight = refl

  key_end : length (k ++ r.key) ≡ 2 + length r.key
  key_end = length-append k r.key ∙ ap (λ m. m + length r.key) two

  place_end : length ((k ++ r.key) ++ a) ≡ 10 + length r.key
  place_end = omega (arith, length-append (k ++ r.key) a, key_end, eight)

  pub number_is : number_2 bytes ≡ length r.key
  number_is = ap number_2 at_key ∙ from_be_bytes-to_be_bytes_2 (length r.key) (let small = fits.key in omega (arith, small))

  key_is : take (length r.key) (drop 2 bytes) ≡ r.key
  key_is = ap (λ (t : List ℕ). take (length r.key) (drop 2 t)) at_key ∙ take_at r.key (a ++ (l ++ tail)) (length r.key) refl

  place_is : number_8 (drop (2 + length r.key) bytes) ≡ r.at
  place_is =
      ap (λ (t : List ℕ). number_8 (drop (2 + length r.key) t)) at_place ∙ ap number_8 (drop_at (k ++ r.key) (a ++ (l ++ tail)) (2 + length r.key) key_end)
      ∙ from_be_bytes-to_be_bytes_8 r.at fits.at

  length_is : number_8 (drop (10 + length r.key) bytes) ≡ r.len
  length_is =
      ap (λ (t : List ℕ). number_8 (drop (10 + length r.key) t)) at_length ∙ ap number_8 (drop_at ((k ++ r.key) ++ a) (l ++ tail) (10 + length r.key) place_end)
      ∙ from_be_bytes-to_be_bytes_8 r.len fits.len

  rest_is : drop (18 + length r.key) bytes ≡ tail
  rest_is = drop_at (record_bytes r) tail (18 + length r.key) (length-record r)

  made_is : record_of (length r.key) bytes ≡ r
  made_is = λ i. record { key = key_is i; at = place_is i; len = length_is i }

  pub len_read : (end : ℕ) → key_len_at end bytes ≡ Ok (length r.key)
  len_read end = key_len_is end (length r.key) bytes number_is fits.key (omega (arith, length-append (record_bytes r) tail, length-record r))

  pub read_record : (end : ℕ) (before : List Record) → is_above before r.key ≡ true → record_at end before bytes ≡ Ok (before ++ r ∷ [], tail)
  read_record end before above =
      record_is end (length r.key) before bytes (len_read end) (ap (is_above before) key_is ∙ above)
      ∙ (λ i. Ok (before ++ made_is i ∷ [], rest_is i))

-- ---- Keys that rise

-- each record's key is above that of the one before it
abbrev pub Follow : List Record → List Record → Type 0
Follow before [] = Unit {0}
Follow before (r ∷ rs) = (is_above before r.key ≡ true) × Follow (before ++ r ∷ []) rs

first_above : (before : List Record) (r : Record) (rs : List Record) → Rising (before ++ r ∷ rs) → is_above before r.key ≡ true
unfolding IsStrictlySortedBy
first_above [] r rs h = refl
first_above (a ∷ []) r rs h = ap is_lt h.0.0
first_above (a ∷ b ∷ before) r rs h = first_above (b ∷ before) r rs h.1

pub follow_from_rising : (before rs : List Record) → Rising (before ++ rs) → Follow before rs
follow_from_rising before [] h = tt
follow_from_rising before (r ∷ rs) h =
    (first_above before r rs h, follow_from_rising (before ++ r ∷ []) rs (subst Rising (sym (append_assoc before (r ∷ []) rs)) h))

-- ---- The records of a page

pub read_records : (rs : List Record) (end : ℕ) (before : List Record) (tail : List ℕ) → AllFit rs → Follow before rs → records_at (length rs) end before (records_bytes rs ++ tail) ≡ Ok (before ++ rs, tail)
unfolding records_bytes
read_records [] end before tail fit follow = none_left 0 end before tail refl ∙ ap (λ (b : List Record). Ok (b, tail)) (sym (append-nil before))
read_records (r ∷ rs) end before tail fit follow =
    let rest = records_bytes rs ++ tail in
    ap (records_at (suc (length rs)) end before) (append_assoc (record_bytes r) (records_bytes rs) tail)
    ∙ one_more (suc (length rs)) (length rs) end before (before ++ r ∷ []) (record_bytes r ++ rest) rest refl (read_record r fit.0 rest end before follow.0)
    ∙ read_records rs end (before ++ r ∷ []) tail fit.1 follow.1
    ∙ ap (λ (b : List Record). Ok (b, tail)) (append_assoc before (r ∷ []) rs)

pub read_zeros : (n end : ℕ) → zeros_at end (replicate n 0) ≡ Ok tt
read_zeros zero end = refl
read_zeros (suc n) end = read_zeros n end

pub few_records : (rs : List Record) → 18 * length rs ≤ length (records_bytes rs)
few_records [] = omega arith
few_records (r ∷ rs) = omega (arith, length_one_more r rs, few_records rs)

pub page_is : (end room n : ℕ) (before all : List Record) (page left : List ℕ) → 0 < number_2 page → key_len_at end (drop 2 page) ≡ Ok n → room < 18 + n → records_at (number_2 page) end before (drop 2 page) ≡ Ok (all, left) → zeros_at end left ≡ Ok tt
    → page_at end room before page ≡ Ok (all, length left)
unfolding page_at
page_is end room n before all page left some len past records zeros =
    let done : List Record × List ℕ → Unit {0} → Result (List Record × ℕ) ℕ = λ rs _. Ok (rs.0, length rs.1) in
    let with_records : List Record × List ℕ → Result (List Record × ℕ) ℕ = λ rs. zeros_at end rs.1 >>= done rs in
    let from_records : Unit {0} → Result (List Record × ℕ) ℕ = λ _. records_at (number_2 page) end before (drop 2 page) >>= with_records in
    let from_len : ℕ → Result (List Record × ℕ) ℕ = λ m. check (ltb room (18 + m)) (end - 4094) >>= from_records in
    checked (ltb 0 (number_2 page)) (end - 4096) (λ _. key_len_at end (drop 2 page) >>= from_len) (lt-ltb 0 (number_2 page) some)
    ∙ passed (key_len_at end (drop 2 page)) n from_len len
    ∙ checked (ltb room (18 + n)) (end - 4094) from_records (lt-ltb room (18 + n) past)
    ∙ passed (records_at (number_2 page) end before (drop 2 page)) (all, left) with_records records
    ∙ passed (zeros_at end left) tt (done (all, left)) zeros

-- a page's parts
abbrev pub zeros_of : List Record → List ℕ
zeros_of p = replicate (room_after p) 0

pub page_parts : (p : List Record) → page_bytes p ≡ to_be_bytes w16 (length p) ++ (records_bytes p ++ zeros_of p)
page_parts p = append_assoc (to_be_bytes w16 (length p)) (records_bytes p) (zeros_of p)

pub length-page : (p : List Record) → length (records_bytes p) ≤ 4094 → length (page_bytes p) ≡ 4096
length-page p le =
    let two : length (to_be_bytes w16 (length p)) ≡ 2 = refl in
    ap (length {A = ℕ}) (page_parts p) ∙ omega (arith, length-append (to_be_bytes w16 (length p)) (records_bytes p ++ zeros_of p), length-append (records_bytes p) (zeros_of p), length-replicate {A = ℕ} (room_after p) 0, two, le)

pub count_is : (p : List Record) → length (records_bytes p) ≤ 4094 → number_2 (page_bytes p) ≡ length p
count_is p le = ap number_2 (page_parts p) ∙ from_be_bytes-to_be_bytes_2 (length p) (let few = few_records p in omega (arith, few, le))

pub page_length : (room : ℕ) (p : List Record) → IsPage room p → length (records_bytes p) ≤ 4094
page_length room [] page = absurd page
page_length room (r ∷ rs) page = page.1

pub read_page : (end room : ℕ) (before p : List Record) → IsPage room p → AllFit p → Follow before p → page_at end room before (page_bytes p) ≡ Ok (before ++ p, room_after p)
unfolding records_bytes
read_page end room before [] page fit follow = absurd page
read_page end room before (r ∷ rs) page fit follow =
    let p = r ∷ rs in
    let zeros = zeros_of p in
    let number = count_is p page.1 in
    let text : drop 2 (page_bytes p) ≡ records_bytes p ++ zeros = ap (drop 2) (page_parts p) in
    let first : records_bytes p ++ zeros ≡ record_bytes r ++ (records_bytes rs ++ zeros) = append_assoc (record_bytes r) (records_bytes rs) zeros in
    page_is end room (length r.key) before (before ++ p) (page_bytes p) zeros (subst (λ n. 0 < n) (sym number) (let some : 0 < length p = omega arith in some))
    (ap (key_len_at end) (text ∙ first) ∙ len_read r fit.0 (records_bytes rs ++ zeros) end) page.0
    ((λ i. records_at (number i) end before (text i)) ∙ read_records p end before zeros fit follow)
    (read_zeros (room_after p) end)
    ∙ ap (λ n. Ok (before ++ p, n)) (length-replicate (room_after p) 0)

-- ---- All pages

pub fit_front : (p rs : List Record) → AllFit (p ++ rs) → AllFit p
fit_front [] rs fit = tt
fit_front (r ∷ p) rs fit = (fit.0, fit_front p rs fit.1)

pub fit_back : (p rs : List Record) → AllFit (p ++ rs) → AllFit rs
fit_back [] rs fit = fit
fit_back (r ∷ p) rs fit = fit_back p rs fit.1

pub follow_front : (before p rs : List Record) → Follow before (p ++ rs) → Follow before p
follow_front before [] rs follow = tt
follow_front before (r ∷ p) rs follow = (follow.0, follow_front (before ++ r ∷ []) p rs follow.1)

pub follow_back : (before p rs : List Record) → Follow before (p ++ rs) → Follow (before ++ p) rs
follow_back before [] rs follow = subst (λ b. Follow b rs) (sym (append-nil before)) follow
follow_back before (r ∷ p) rs follow = subst (λ b. Follow b rs) (append_assoc before (r ∷ []) p) (follow_back (before ++ r ∷ []) p rs follow.1)

pub read_pages : (ps : List (List Record)) (end room : ℕ) (before : List Record) → ArePages room ps → AllFit (joined ps) → Follow before (joined ps) → pages_at (length ps) end room before (pages_bytes ps) ≡ Ok (before ++ joined ps)
unfolding pages_bytes
read_pages [] end room before pages fit follow = no_page 0 end room before [] refl ∙ ap Ok (sym (append-nil before))
read_pages (p ∷ ps) end room before pages fit follow =
    let len = length-page p (page_length room p pages.0) in
    let rest = pages_bytes ps in
    let front : take 4096 (page_bytes p ++ rest) ≡ page_bytes p = take_at (page_bytes p) rest 4096 len in
    let back : drop 4096 (page_bytes p ++ rest) ≡ rest = drop_at (page_bytes p) rest 4096 len in
    let after = before ++ p in
    page_more (suc (length ps)) (length ps) end room (room_after p) before after (page_bytes p ++ rest) refl
    ((λ i. page_at (end - length (back i)) room before (front i)) ∙ read_page (end - length rest) room before p pages.0 (fit_front p (joined ps) fit) (follow_front before p (joined ps) follow))
    ∙ ap (pages_at (length ps) end (room_after p) after) back
    ∙ read_pages ps end (room_after p) after pages.1 (fit_back p (joined ps) fit) (follow_back before p (joined ps) follow)
    ∙ ap Ok (append_assoc before p (joined ps))

pub length-pages : (ps : List (List Record)) (room : ℕ) → ArePages room ps → length (pages_bytes ps) ≡ 4096 * length ps
unfolding pages_bytes
length-pages [] room pages = refl
length-pages (p ∷ ps) room pages = omega (arith, length-append (page_bytes p) (pages_bytes ps), length-page p (page_length room p pages.0), length-pages ps (room_after p) pages.1)

pub read_counts : (ps : List (List Record)) (room : ℕ) → ArePages room ps → counts_of (length ps) (pages_bytes ps) ≡ length (joined ps)
unfolding pages_bytes
read_counts [] room pages = no_count 0 [] refl
read_counts (p ∷ ps) room pages =
    let le = page_length room p pages.0 in
    let len = length-page p le in
    let rest = pages_bytes ps in
    count_more (suc (length ps)) (length ps) (page_bytes p ++ rest) refl
    ∙ (λ i. number_2 (take_at (page_bytes p) rest 4096 len i) + counts_of (length ps) (drop_at (page_bytes p) rest 4096 len i))
    ∙ (λ i. count_is p le i + read_counts ps (room_after p) pages.1 i) ∙ sym (length-append p (joined ps))

pub few_on_page : (room : ℕ) (p : List Record) → IsPage room p → 0 < length p
few_on_page room [] page = absurd page
few_on_page room (r ∷ rs) page = omega arith

pub few_pages : (ps : List (List Record)) (room : ℕ) → ArePages room ps → length ps ≤ length (joined ps)
few_pages [] room pages = omega arith
few_pages (p ∷ ps) room pages = omega (arith, length-append p (joined ps), few_on_page room p pages.0, few_pages ps (room_after p) pages.1)

-- ---- The file

file_is : (bytes : List ℕ) (rs : List Record) (p : ℕ) → length bytes ≡ 24 + 4096 * p → take 8 bytes ≡ codes "FDIDX001" → drop (length bytes - 4) bytes ≡ codes "FEND"
    → number_4 (drop (length bytes - 8) bytes) ≡ p → number_8 (drop (length bytes - 16) bytes) ≡ counts_of p (body_of bytes) → counts_of p (body_of bytes) < 2 ^ 32
    → pages_at p (length bytes - 16) 0 [] (body_of bytes) ≡ Ok rs → index_at bytes ≡ Ok rs
unfolding index_at
file_is bytes rs p len head mark pages number few read =
    let count : pages_in bytes ≡ p = omega (arith, len) in
    let n = length bytes in
    let all : Unit {0} → Result (List Record) ℕ = λ _. pages_at (pages_in bytes) (n - 16) 0 [] (body_of bytes) in
    let sum = counts_of (pages_in bytes) (body_of bytes) in
    let good_sum : Bool = number_8 (drop (n - 16) bytes) == sum && ltb sum (2 ^ 32) in
    let good_pages : Bool = number_4 (drop (n - 8) bytes) == pages_in bytes in
    let good_mark : Bool = bytes_eq (drop (n - 4) bytes) (codes "FEND") in
    let good_head : Bool = bytes_eq (take 8 bytes) (codes "FDIDX001") in
    let good_len : Bool = leb 24 n && (n - 24) % 4096 == 0 in
    let from_sum : Unit {0} → Result (List Record) ℕ = λ _. check good_sum (n - 16) >>= all in
    let from_pages : Unit {0} → Result (List Record) ℕ = λ _. check good_pages (n - 8) >>= from_sum in
    let from_mark : Unit {0} → Result (List Record) ℕ = λ _. check good_mark (n - 4) >>= from_pages in
    let from_head : Unit {0} → Result (List Record) ℕ = λ _. check good_head 0 >>= from_mark in
    let same_sum : sum ≡ counts_of p (body_of bytes) = ap (λ k. counts_of k (body_of bytes)) count in
    let so_len : good_len ≡ true = (λ i. le-leb 24 n (let le : 24 ≤ n = omega (arith, len) in le) i && eq-eqb ((n - 24) % 4096) 0 (let whole : (n - 24) % 4096 ≡ 0 = omega (arith, len) in whole) i) in
    let so_sum : good_sum ≡ true = (λ i. eq-eqb (number_8 (drop (n - 16) bytes)) sum (number ∙ sym same_sum) i && lt-ltb sum (2 ^ 32) (subst (λ k. k < 2 ^ 32) (sym same_sum) few) i) in
    checked good_len 0 from_head so_len
    ∙ checked good_head 0 from_mark (ap (λ (t : List ℕ). bytes_eq t (codes "FDIDX001")) head)
    ∙ checked good_mark (n - 4) from_pages (ap (λ (t : List ℕ). bytes_eq t (codes "FEND")) mark)
    ∙ checked good_pages (n - 8) from_sum (eq-eqb (number_4 (drop (n - 8) bytes)) (pages_in bytes) (pages ∙ sym count))
    ∙ checked good_sum (n - 16) all so_sum
    ∙ ap (λ k. pages_at k (n - 16) 0 [] (body_of bytes)) count ∙ read

module _ (rs : List Record) (rising : Rising rs) (fit : AllFit rs) (few : length rs < 2 ^ 32) where
  abbrev ps : List (List Record)
  ps = pages_of rs

  abbrev h : List ℕ
  h = codes "FDIDX001"

  abbrev b : List ℕ
  b = pages_bytes (pages_of rs)

  abbrev n : List ℕ
  n = to_be_bytes w64 (length rs)

  abbrev p : List ℕ
  p = to_be_bytes w32 (length (pages_of rs))

  abbrev m : List ℕ
  m = codes "FEND"

  pages : ArePages 0 ps
  pages = (made rs fit).0

  joins : joined ps ≡ rs
  joins = (made rs fit).1

  body_long : length b ≡ 4096 * length ps
  body_long = length-pages ps 0 pages

  few_pages_here : length ps < 2 ^ 32
  few_pages_here = omega (arith, few_pages ps 0 pages, ap (length {A = Record}) joins, few)

  head_long : length h ≡ 8
  head_long = refl

  number_long : length n ≡ 8
  number_long = refl

  pages_long : length p ≡ 4
  pages_long = refl

  mark_long : length m ≡ 4
  mark_long = refl

  before_number : length (h ++ b) ≡ 8 + length b
  before_number = omega (arith, length-append h b, head_long)

  before_pages : length ((h ++ b) ++ n) ≡ 16 + length b
  before_pages = omega (arith, length-append (h ++ b) n, before_number, number_long)

  before_mark : length (((h ++ b) ++ n) ++ p) ≡ 20 + length b
  before_mark = omega (arith, length-append ((h ++ b) ++ n) p, before_pages, pages_long)

  abbrev file : List ℕ
  file = (((h ++ b) ++ n) ++ p) ++ m

  file_long : length file ≡ 24 + length b
  file_long = omega (arith, length-append (((h ++ b) ++ n) ++ p) m, before_mark, mark_long)

  at_pages : file ≡ ((h ++ b) ++ n) ++ (p ++ m)
  at_pages = append_assoc ((h ++ b) ++ n) p m

  at_number : file ≡ (h ++ b) ++ (n ++ (p ++ m))
  at_number = at_pages ∙ append_assoc (h ++ b) n (p ++ m)

  at_body : file ≡ h ++ (b ++ (n ++ (p ++ m)))
  at_body = at_number ∙ append_assoc h b (n ++ (p ++ m))

  head_read : take 8 file ≡ h
  head_read = ap (take 8) at_body ∙ take_at h (b ++ (n ++ (p ++ m))) 8 head_long

  body_read : body_of file ≡ b
  body_read =
      ap (λ (t : List ℕ). take (length file - 24) (drop 8 t)) at_body ∙ ap (take (length file - 24)) (drop_at h (b ++ (n ++ (p ++ m))) 8 head_long)
      ∙ take_at b (n ++ (p ++ m)) (length file - 24) (omega (arith, file_long))

  mark_read : drop (length file - 4) file ≡ m
  mark_read = drop_at (((h ++ b) ++ n) ++ p) m (length file - 4) (omega (arith, file_long, before_mark))

  pages_read : number_4 (drop (length file - 8) file) ≡ length ps
  pages_read =
      ap (λ (t : List ℕ). number_4 (drop (length file - 8) t)) at_pages ∙ ap number_4 (drop_at ((h ++ b) ++ n) (p ++ m) (length file - 8) (omega (arith, file_long, before_pages)))
      ∙ from_be_bytes-to_be_bytes_4 (length ps) few_pages_here

  number_read : number_8 (drop (length file - 16) file) ≡ length rs
  number_read =
      ap (λ (t : List ℕ). number_8 (drop (length file - 16) t)) at_number ∙ ap number_8 (drop_at (h ++ b) (n ++ (p ++ m)) (length file - 16) (omega (arith, file_long, before_number)))
      ∙ from_be_bytes-to_be_bytes_8 (length rs) (omega (arith, few))

  counts_read : counts_of (length ps) (body_of file) ≡ length rs
  counts_read = ap (counts_of (length ps)) body_read ∙ read_counts ps 0 pages ∙ ap (length {A = Record}) joins

  all_read : pages_at (length ps) (length file - 16) 0 [] (body_of file) ≡ Ok rs
  all_read =
      ap (pages_at (length ps) (length file - 16) 0 []) body_read
      ∙ read_pages ps (length file - 16) 0 [] pages (subst AllFit (sym joins) fit) (follow_from_rising [] (joined ps) (subst Rising (sym joins) rising)) ∙ ap Ok joins

  pub read_file : index_at (index_of rs) ≡ Ok rs
  unfolding index_of
  read_file =
      file_is file rs (length ps) (omega (arith, file_long, body_long)) head_read mark_read pages_read (number_read ∙ sym counts_read) (subst (λ k. k < 2 ^ 32) (sym counts_read) few) all_read

-- the index file of some records is read as these
pub reads_back : (rs : List Record) (bytes : List ℕ) → IsIndex rs bytes → index_at bytes ≡ Ok rs
reads_back rs bytes index = ap index_at index.is ∙ read_file rs index.rising index.fit index.few
