-- What is read as an index is the index file of its records.
use Rattle.std.proofs.Common.{◌≡◌, ◌⊎◌, inl, inr, ℕ, zero, suc, ◌+◌, ◌-◌, ◌*◌, ◌%◌, ◌^◌, ◌<◌, ◌≤◌, Bool, true, false, true≢false, ◌||◌, ◌&&◌, ltb, leb, ◌==◌, if◌then◌else◌, List, [], ◌∷◌, ◌++◌, length, take, drop, replicate, get_or, bytes_eq, codes, Result, Ok, Err, is_ok, Less, Equal, Greater, Ordering, refl, sym, ap, ◌∙◌, subst, append_assoc, append-nil, arith, length-append, length-drop, take-append-drop, take-add, drop_at, ltb-true, ltb-false, leb-true, eqb-true}
use Rattle.std.specs.Int.{w16, w32, w64, to_be_bytes, from_be_bytes}
use Rattle.std.specs.Ordering.{nat_cmp, is_lt}
use Rattle.std.specs.Cmp.Lexicographic.{slice_cmp}
use Rattle.std.specs.List.{AllByRecursion}
use Rattle.std.specs.List.Sorted.{IsStrictlySortedBy}
use Rattle.std.proofs.lemmas.Cmp.{nat_list_cmp_total}
use Rattle.std.proofs.lemmas.List.{length-take-le, get_or-take, get_or-drop, get_or_past}
use Rattle.std.proofs.lemmas.Nat.{be_bytes_2, be_bytes_4, be_bytes_8}
use Rattle.std.proofs.lemmas.Slice.Eq.{bytes_eq-Decides}
use Rattle.fd_index.specs.declared.fault.IndexFault.{IndexFault}
use Rattle.fd_index.specs.declared.fault.IndexFault.TheVariants as faults
use Rattle.fd_index.specs.Records.{Record, Rising, Fits, AllFit, keys}
use Rattle.fd_index.specs.Pages.{ArePages, IsIndex, IsPage, index_of, joined, page_bytes, pages_bytes, pages_of, record_bytes, records_bytes, room_after}
use Rattle.fd_index.specs.Reading.{◌>>=◌, body_of, check, counts_of, index_at, is_above, key_len_at, number_2, number_4, number_8, page_at, pages_at, pages_in, record_at, record_of, records_at, zeros_at}
use Rattle.fd_index.specs.Index.{AreOctets, Fails, ReadsItsRecords, RefusesNoIndex}
use Rattle.fd_index.proofs.PageLaws.{only}
use Rattle.fd_index.proofs.ReadBack.{Follow, number_is, page_parts, read_counts, reads_back}

-- ---- Steps that passed

pub unbind : {A B : Type 0} (step : Result A ℕ) (next : A → Result B ℕ) (y : B) → (step >>= next) ≡ Ok y → (x : A) × (step ≡ Ok x) × (next x ≡ Ok y)
unbind (Ok x) next y h = (x, refl, h)
unbind (Err place) next y h = absurd (true≢false (sym (ap is_ok h)))

pub unchecked : {B : Type 0} (good : Bool) (place : ℕ) (next : Unit {0} → Result B ℕ) (y : B) → (check good place >>= next) ≡ Ok y → (good ≡ true) × (next tt ≡ Ok y)
unchecked true place next y h = (refl, h)
unchecked false place next y h = absurd (true≢false (sym (ap is_ok h)))

abbrev ok_or : {A : Type 0} → A → Result A ℕ → A
ok_or d (Ok x) = x
ok_or d (Err e) = d

same_of : {A : Type 0} (x y : A) (r : Result A ℕ) → r ≡ Ok x → r ≡ Ok y → x ≡ y
same_of x y r p q = sym (ap (ok_or x) p) ∙ ap (ok_or x) q

abbrev pub IsOk : {A : Type 0} → Result A ℕ → A → Type 0
IsOk r y = r ≡ Ok y

pub same_ok : {A : Type 0} (x y : A) → IsOk (Ok x) y → x ≡ y
same_ok x y h = same_of x y (Ok x) refl h

-- ---- Octets

pub octets_drop : (n : ℕ) (bytes : List ℕ) → AreOctets bytes → AreOctets (drop n bytes)
octets_drop n bytes o = record { each = λ i. subst (λ x. x < 256) (sym (get_or-drop n bytes i 0)) (o.each (n + i)) }

octet_of_take : (n i : ℕ) (bytes : List ℕ) → AreOctets bytes → (i < n) ⊎ (n ≤ i) → length (take n bytes) ≤ n → get_or (take n bytes) i 0 < 256
octet_of_take n i bytes o (inl lt) le = subst (λ x. x < 256) (sym (get_or-take n bytes i 0 lt)) (o.each i)
octet_of_take n i bytes o (inr past) le = subst (λ x. x < 256) (sym (get_or_past (take n bytes) i 0 (omega (arith, le, past)))) (omega arith)

either : (i n : ℕ) → (i < n) ⊎ (n ≤ i)
either i n = by (ltb i n) refl
  where
    by : (b : Bool) → ltb i n ≡ b → (i < n) ⊎ (n ≤ i)
    by true h = inl (ltb-true i n h)
    by false h = inr (ltb-false i n h)

pub octets_take : (n : ℕ) (bytes : List ℕ) → AreOctets bytes → n ≤ length bytes → AreOctets (take n bytes)
octets_take n bytes o le = record { each = λ i. octet_of_take n i bytes o (either i n) (let len = length-take-le n bytes le in omega (arith, len)) }

pub spelled_2 : (bytes : List ℕ) (n : ℕ) → AreOctets bytes → 2 ≤ length bytes → n ≡ number_2 bytes → to_be_bytes w16 n ≡ take 2 bytes
spelled_2 bytes n o le is = be_bytes_2 (take 2 bytes) n (length-take-le 2 bytes le) (octets_take 2 bytes o le).each is

pub spelled_4 : (bytes : List ℕ) (n : ℕ) → AreOctets bytes → 4 ≤ length bytes → n ≡ number_4 bytes → to_be_bytes w32 n ≡ take 4 bytes
spelled_4 bytes n o le is = be_bytes_4 (take 4 bytes) n (length-take-le 4 bytes le) (octets_take 4 bytes o le).each is

pub spelled_8 : (bytes : List ℕ) (n : ℕ) → AreOctets bytes → 8 ≤ length bytes → n ≡ number_8 bytes → to_be_bytes w64 n ≡ take 8 bytes
spelled_8 bytes n o le is = be_bytes_8 (take 8 bytes) n (length-take-le 8 bytes le) (octets_take 8 bytes o le).each is

below_8 : (bytes : List ℕ) → AreOctets bytes → from_be_bytes w64 bytes < 2 ^ 64
below_8 bytes o = omega (arith, o.each 0, o.each 1, o.each 2, o.each 3, o.each 4, o.each 5, o.each 6, o.each 7)

-- ---- One record

pub record KeyLen (n : ℕ) (bytes : List ℕ) : Type 0 where
  pub is : n ≡ number_2 bytes
  pub small : n ≤ 256
  pub fits : 18 + n ≤ length bytes

none_of : (a b c : Bool) → (a || b || c) ≡ false → (a ≡ false) × (b ≡ false) × (c ≡ false)
none_of true b c h = absurd (true≢false h)
none_of false true c h = absurd (true≢false h)
none_of false false c h = (refl, refl, h)

pub key_len_says : (end n : ℕ) (bytes : List ℕ) → key_len_at end bytes ≡ Ok n → KeyLen n bytes
unfolding key_len_at
key_len_says end n bytes h = by (ltb (length bytes) 2 || ltb 256 (number_2 bytes) || ltb (length bytes) (18 + number_2 bytes)) refl h
  where
    by : (b : Bool) → (ltb (length bytes) 2 || ltb 256 (number_2 bytes) || ltb (length bytes) (18 + number_2 bytes)) ≡ b → (if b then Err (end - length bytes) else Ok (number_2 bytes)) ≡ Ok n → KeyLen n bytes
    by true is h = absurd (true≢false (sym (ap is_ok h)))
    by false is h =
        let none = none_of (ltb (length bytes) 2) (ltb 256 (number_2 bytes)) (ltb (length bytes) (18 + number_2 bytes)) is in
        let same : number_2 bytes ≡ n = same_ok (number_2 bytes) n h in
        record {
          is = sym same;
          small = subst (λ m. m ≤ 256) same (ltb-false 256 (number_2 bytes) none.1);
          fits = subst (λ m. 18 + m ≤ length bytes) same (ltb-false (length bytes) (18 + number_2 bytes) none.2);
        }

record_spelled : (n : ℕ) (bytes : List ℕ) → AreOctets bytes → KeyLen n bytes → record_bytes (record_of n bytes) ≡ take (18 + n) bytes
unfolding record_bytes
record_spelled n bytes o k =
    let r = record_of n bytes in
    let fits = k.fits in
    let key_long : length (take n (drop 2 bytes)) ≡ n = length-take-le n (drop 2 bytes) (omega (arith, length-drop 2 bytes, fits)) in
    let len : to_be_bytes w16 (length r.key) ≡ take 2 bytes = spelled_2 bytes (length r.key) o (omega (arith, fits)) (key_long ∙ k.is) in
    let at : to_be_bytes w64 r.at ≡ take 8 (drop (2 + n) bytes) = spelled_8 (drop (2 + n) bytes) r.at (octets_drop (2 + n) bytes o) (omega (arith, length-drop (2 + n) bytes, fits)) refl in
    let size : to_be_bytes w64 r.len ≡ take 8 (drop (10 + n) bytes) = spelled_8 (drop (10 + n) bytes) r.len (octets_drop (10 + n) bytes o) (omega (arith, length-drop (10 + n) bytes, fits)) refl in
    let ten : (2 + n) + 8 ≡ 10 + n = omega arith in
    let all : (10 + n) + 8 ≡ 18 + n = omega arith in
    (λ i. ((len i ++ r.key) ++ at i) ++ size i)
    ∙ ap (λ (t : List ℕ). (t ++ take 8 (drop (2 + n) bytes)) ++ take 8 (drop (10 + n) bytes)) (sym (take-add 2 n bytes))
    ∙ ap (λ (t : List ℕ). t ++ take 8 (drop (10 + n) bytes)) (sym (take-add (2 + n) 8 bytes) ∙ ap (λ m. take m bytes) ten)
    ∙ sym (take-add (10 + n) 8 bytes) ∙ ap (λ m. take m bytes) all

-- what a record that was read is
pub record One (before all : List Record) (bytes rest : List ℕ) : Type 0 where
  pub r : Record
  pub all_is : all ≡ before ++ r ∷ []
  pub bytes_is : bytes ≡ record_bytes r ++ rest
  pub fits : Fits r
  pub above : is_above before r.key ≡ true

pub one_says : (end : ℕ) (before all : List Record) (bytes rest : List ℕ) → AreOctets bytes → record_at end before bytes ≡ Ok (all, rest) → One before all bytes rest
unfolding record_at
one_says end before all bytes rest o h =
    let made : ℕ → Result (List Record × List ℕ) ℕ = λ m. Ok (before ++ record_of m bytes ∷ [], drop (18 + m) bytes) in
    let from_len : ℕ → Result (List Record × List ℕ) ℕ = λ m. check (is_above before (take m (drop 2 bytes))) (end - length bytes + 2) >>= λ _. made m in
    let len = unbind (key_len_at end bytes) from_len (all, rest) h in
    let n = len.0 in
    let k = key_len_says end n bytes len.1 in
    let fits = k.fits in
    let above = unchecked (is_above before (take n (drop 2 bytes))) (end - length bytes + 2) (λ _. made n) (all, rest) len.2 in
    let is : (before ++ record_of n bytes ∷ [], drop (18 + n) bytes) ≡ (all, rest) = same_ok (before ++ record_of n bytes ∷ [], drop (18 + n) bytes) (all, rest) above.1 in
    let key_long : length (take n (drop 2 bytes)) ≡ n = length-take-le n (drop 2 bytes) (omega (arith, length-drop 2 bytes, fits)) in
    record {
      r = record_of n bytes;
      all_is = sym (ap (λ (x : List Record × List ℕ). x.0) is);
      bytes_is = sym (take-append-drop (18 + n) bytes) ∙ (λ i. sym (record_spelled n bytes o k) i ++ ap (λ (x : List Record × List ℕ). x.1) is i);
      fits = record {
        key = subst (λ m. m ≤ 256) (sym key_long) k.small;
        at = below_8 (take 8 (drop (2 + n) bytes)) (octets_take 8 (drop (2 + n) bytes) (octets_drop (2 + n) bytes o) (omega (arith, length-drop (2 + n) bytes, fits)));
        len = below_8 (take 8 (drop (10 + n) bytes)) (octets_take 8 (drop (10 + n) bytes) (octets_drop (10 + n) bytes o) (omega (arith, length-drop (10 + n) bytes, fits)));
      };
      above = above.0;
    }

-- ---- The records of a page

pub record Some (n : ℕ) (before all : List Record) (bytes rest : List ℕ) : Type 0 where
  pub rs : List Record
  pub all_is : all ≡ before ++ rs
  pub bytes_is : bytes ≡ records_bytes rs ++ rest
  pub fit : AllFit rs
  pub count : length rs ≡ n
  pub follow : Follow before rs

pub octets_back : (front back bytes : List ℕ) → bytes ≡ front ++ back → AreOctets bytes → AreOctets back
octets_back front back bytes is o = record { each = λ i. subst (λ x. x < 256) (behind i) (o.each (length front + i)) }
  where
    dropped : drop (length front) bytes ≡ back
    dropped = ap (drop (length front)) is ∙ drop_at front back (length front) refl

    behind : (i : ℕ) → get_or bytes (length front + i) 0 ≡ get_or back i 0
    behind i = sym (get_or-drop (length front) bytes i 0) ∙ ap (λ (t : List ℕ). get_or t i 0) dropped

none_says : (end : ℕ) (before all : List Record) (bytes rest : List ℕ) → records_at 0 end before bytes ≡ Ok (all, rest) → Some 0 before all bytes rest
unfolding records_at records_bytes
none_says end before all bytes rest h =
    let is : (before, bytes) ≡ (all, rest) = same_ok (before, bytes) (all, rest) h in
    record {
      rs = [];
      all_is = sym (ap (λ (x : List Record × List ℕ). x.0) is) ∙ sym (append-nil before);
      bytes_is = ap (λ (x : List Record × List ℕ). x.1) is;
      fit = tt;
      count = refl;
      follow = tt;
    }

more_says : (n : ℕ) (before middle all : List Record) (bytes between rest : List ℕ) → One before middle bytes between → Some n middle all between rest → Some (suc n) before all bytes rest
unfolding records_bytes
more_says n before middle all bytes between rest one others = record {
  rs = one.r ∷ others.rs;
  all_is = others.all_is ∙ ap (λ (b : List Record). b ++ others.rs) one.all_is ∙ append_assoc before (one.r ∷ []) others.rs;
  bytes_is = one.bytes_is ∙ ap (λ (t : List ℕ). record_bytes one.r ++ t) others.bytes_is ∙ sym (append_assoc (record_bytes one.r) (records_bytes others.rs) rest);
  fit = (one.fits, others.fit);
  count = ap suc others.count;
  follow = (one.above, subst (λ b. Follow b others.rs) one.all_is others.follow);
}

pub some_says : (n end : ℕ) (before all : List Record) (bytes rest : List ℕ) → AreOctets bytes → records_at n end before bytes ≡ Ok (all, rest) → Some n before all bytes rest
unfolding records_at
some_says zero end before all bytes rest o h = none_says end before all bytes rest h
some_says (suc n) end before all bytes rest o h =
    let next : List Record × List ℕ → Result (List Record × List ℕ) ℕ = λ one. records_at n end one.0 one.1 in
    let first = unbind (record_at end before bytes) next (all, rest) h in
    let one = one_says end before first.0.0 bytes first.0.1 o first.1 in
    more_says n before first.0.0 all bytes first.0.1 rest one
    (some_says n end first.0.0 all first.0.1 rest (octets_back (record_bytes one.r) first.0.1 bytes one.bytes_is o) first.2)

zeros_say : (end : ℕ) (bytes : List ℕ) (done : Unit {0}) → zeros_at end bytes ≡ Ok done → bytes ≡ replicate (length bytes) 0
zeros_say end [] done h = refl
zeros_say end (b ∷ bytes) done h = by (b == 0) refl h (zeros_say end bytes done)
  where
    by : (z : Bool) → (b == 0) ≡ z → (if z then zeros_at end bytes else Err (end - length (b ∷ bytes))) ≡ Ok done → (zeros_at end bytes ≡ Ok done → bytes ≡ replicate (length bytes) 0) → b ∷ bytes ≡ replicate (length (b ∷ bytes)) 0
    by true is h rest = (λ i. eqb-true b 0 is i ∷ rest h i)
    by false is h rest = absurd (true≢false (sym (ap is_ok h)))

-- ---- A page

pub record OnePage (room left : ℕ) (before all : List Record) (page : List ℕ) : Type 0 where
  pub p : List Record
  pub all_is : all ≡ before ++ p
  pub page_is : page ≡ page_bytes p
  pub good : IsPage room p
  pub left_is : left ≡ room_after p
  pub fit : AllFit p
  pub follow : Follow before p

-- what the steps of reading a page say
pub record Steps (end room left : ℕ) (before all : List Record) (page : List ℕ) : Type 0 where
  pub n : ℕ
  pub rest : List ℕ
  pub some : 0 < number_2 page
  pub len : key_len_at end (drop 2 page) ≡ Ok n
  pub past : room < 18 + n
  pub records : records_at (number_2 page) end before (drop 2 page) ≡ Ok (all, rest)
  pub blank : (done : Unit {0}) × (zeros_at end rest ≡ Ok done)
  pub zeros : rest ≡ replicate (length rest) 0
  pub left_is : left ≡ length rest

pub steps_of : (end room left : ℕ) (before all : List Record) (page : List ℕ) → page_at end room before page ≡ Ok (all, left) → Steps end room left before all page
unfolding page_at
steps_of end room left before all page h =
    let done : List Record × List ℕ → Unit {0} → Result (List Record × ℕ) ℕ = λ rs _. Ok (rs.0, length rs.1) in
    let with_records : List Record × List ℕ → Result (List Record × ℕ) ℕ = λ rs. zeros_at end rs.1 >>= done rs in
    let from_records : Unit {0} → Result (List Record × ℕ) ℕ = λ _. records_at (number_2 page) end before (drop 2 page) >>= with_records in
    let from_len : ℕ → Result (List Record × ℕ) ℕ = λ m. check (ltb room (18 + m)) (end - 4094) >>= from_records in
    let some = unchecked (ltb 0 (number_2 page)) (end - 4096) (λ _. key_len_at end (drop 2 page) >>= from_len) (all, left) h in
    let len = unbind (key_len_at end (drop 2 page)) from_len (all, left) some.1 in
    let past = unchecked (ltb room (18 + len.0)) (end - 4094) from_records (all, left) len.2 in
    let records = unbind (records_at (number_2 page) end before (drop 2 page)) with_records (all, left) past.1 in
    let zeros = unbind (zeros_at end records.0.1) (done records.0) (all, left) records.2 in
    let is : (records.0.0, length records.0.1) ≡ (all, left) = same_ok (records.0.0, length records.0.1) (all, left) zeros.2 in
    record {
      n = len.0;
      rest = records.0.1;
      some = ltb-true 0 (number_2 page) some.0;
      len = len.1;
      past = ltb-true room (18 + len.0) past.0;
      records = records.1 ∙ ap (λ (x : List Record × ℕ). Ok (x.0, records.0.1)) is;
      blank = (zeros.0, zeros.1);
      zeros = zeros_say end records.0.1 zeros.0 zeros.1;
      left_is = sym (ap (λ (x : List Record × ℕ). x.1) is);
    }

-- a page that has a record, by its first one
good_page : (room n : ℕ) (rs : List Record) (text rest : List ℕ) → 0 < length rs → AllFit rs → text ≡ records_bytes rs ++ rest → n ≡ number_2 text → room < 18 + n → length (records_bytes rs) ≤ 4094 → IsPage room rs
unfolding records_bytes
good_page room n [] text rest some fit is number past le = absurd (omega (arith, some))
good_page room n (r ∷ rs) text rest some fit is number past le =
    let same : number_2 text ≡ length r.key = ap number_2 (is ∙ append_assoc (record_bytes r) (records_bytes rs) rest) ∙ number_is r fit.0 (records_bytes rs ++ rest) in
    (subst (λ m. room < 18 + m) (number ∙ same) past, le)

pub page_says : (end room left : ℕ) (before all : List Record) (page : List ℕ) → AreOctets page → length page ≡ 4096 → page_at end room before page ≡ Ok (all, left) → OnePage room left before all page
page_says end room left before all page o len h =
    let s = steps_of end room left before all page h in
    let rs = some_says (number_2 page) end before all (drop 2 page) s.rest (octets_drop 2 page o) s.records in
    let p = rs.rs in
    let text_long : length (drop 2 page) ≡ 4094 = omega (arith, length-drop 2 page, len) in
    let parts : length (records_bytes p) + length s.rest ≡ 4094 = sym (length-append (records_bytes p) s.rest) ∙ ap (length {A = ℕ}) (sym rs.bytes_is) ∙ text_long in
    let room_left : length s.rest ≡ room_after p = omega (arith, parts) in
    let count : to_be_bytes w16 (length p) ≡ take 2 page = spelled_2 page (length p) o (omega (arith, len)) rs.count in
    record {
      p = p;
      all_is = rs.all_is;
      page_is =
          sym (take-append-drop 2 page) ∙ (λ i. sym count i ++ rs.bytes_is i)
          ∙ ap (λ (z : List ℕ). to_be_bytes w16 (length p) ++ (records_bytes p ++ z)) (s.zeros ∙ ap (λ m. replicate m 0) room_left) ∙ sym (page_parts p);
      good = good_page room s.n p (drop 2 page) s.rest (subst (λ m. 0 < m) (sym rs.count) s.some) rs.fit rs.bytes_is (key_len_says end s.n (drop 2 page) s.len).is s.past (omega (arith, parts));
      left_is = s.left_is ∙ room_left;
      fit = rs.fit;
      follow = rs.follow;
    }

-- ---- All pages

pub record AllPages (n room : ℕ) (before all : List Record) (bytes : List ℕ) : Type 0 where
  pub ps : List (List Record)
  pub all_is : all ≡ before ++ joined ps
  pub bytes_is : bytes ≡ pages_bytes ps
  pub count : length ps ≡ n
  pub good : ArePages room ps
  pub fit : AllFit (joined ps)
  pub follow : Follow before (joined ps)

no_pages_say : (end room : ℕ) (before all : List Record) (bytes : List ℕ) → length bytes ≡ 0 → pages_at 0 end room before bytes ≡ Ok all → AllPages 0 room before all bytes
unfolding pages_at pages_bytes
no_pages_say end room before all [] len h = record {
  ps = [];
  all_is = sym (same_ok before all h) ∙ sym (append-nil before);
  bytes_is = refl;
  count = refl;
  good = tt;
  fit = tt;
  follow = tt;
}
no_pages_say end room before all (b ∷ bytes) len h = absurd (omega (arith, len))

pub all_fit : (p rs : List Record) → AllFit p → AllFit rs → AllFit (p ++ rs)
all_fit [] rs f g = g
all_fit (r ∷ p) rs f g = (f.0, all_fit p rs f.1 g)

pub all_follow : (before p rs : List Record) → Follow before p → Follow (before ++ p) rs → Follow before (p ++ rs)
all_follow before [] rs f g = subst (λ b. Follow b rs) (append-nil before) g
all_follow before (r ∷ p) rs f g = (f.0, all_follow (before ++ r ∷ []) p rs f.1 (subst (λ b. Follow b rs) (sym (append_assoc before (r ∷ []) p)) g))

page_more_says : (n room left : ℕ) (before middle all : List Record) (bytes : List ℕ) → OnePage room left before middle (take 4096 bytes) → AllPages n left middle all (drop 4096 bytes) → AllPages (suc n) room before all bytes
unfolding pages_bytes
page_more_says n room left before middle all bytes page others = record {
  ps = page.p ∷ others.ps;
  all_is = others.all_is ∙ ap (λ (b : List Record). b ++ joined others.ps) page.all_is ∙ append_assoc before page.p (joined others.ps);
  bytes_is = sym (take-append-drop 4096 bytes) ∙ (λ i. page.page_is i ++ others.bytes_is i);
  count = ap suc others.count;
  good = (page.good, subst (λ m. ArePages m others.ps) page.left_is others.good);
  fit = all_fit page.p (joined others.ps) page.fit others.fit;
  follow = all_follow before page.p (joined others.ps) page.follow (subst (λ b. Follow b (joined others.ps)) page.all_is others.follow);
}

pub pages_say : (n end room : ℕ) (before all : List Record) (bytes : List ℕ) → AreOctets bytes → length bytes ≡ 4096 * n → pages_at n end room before bytes ≡ Ok all → AllPages n room before all bytes
unfolding pages_at
pages_say zero end room before all bytes o len h = no_pages_say end room before all bytes (omega (arith, len)) h
pages_say (suc n) end room before all bytes o len h =
    let next : List Record × ℕ → Result (List Record) ℕ = λ page. pages_at n end page.1 page.0 (drop 4096 bytes) in
    let first = unbind (page_at (end - length (drop 4096 bytes)) room before (take 4096 bytes)) next all h in
    let long : 4096 ≤ length bytes = omega (arith, len) in
    let page = page_says (end - length (drop 4096 bytes)) room first.0.1 before first.0.0 (take 4096 bytes) (octets_take 4096 bytes o long) (length-take-le 4096 bytes long) first.1 in
    page_more_says n room first.0.1 before first.0.0 all bytes page
    (pages_say n end first.0.1 first.0.0 all (drop 4096 bytes) (octets_drop 4096 bytes o) (let left : length (drop 4096 bytes) ≡ 4096 * n = omega (arith, length-drop 4096 bytes, len) in left) first.2)

-- ---- Keys rise

is_less : (o : Ordering) → is_lt o ≡ true → o ≡ Less
is_less Less h = refl
is_less Equal h = absurd (true≢false (sym h))
is_less Greater h = absurd (true≢false (sym h))

all_less : (a b : List ℕ) (ks : List (List ℕ)) → slice_cmp nat_cmp a b ≡ Less → AllByRecursion (λ k. slice_cmp nat_cmp b k ≡ Less) ks → AllByRecursion (λ k. slice_cmp nat_cmp a k ≡ Less) ks
all_less a b [] less h = tt
all_less a b (k ∷ ks) less h = (nat_list_cmp_total.trans a b k less h.0, all_less a b ks less h.1)

rises_on : (before : List Record) (r : Record) → Rising before → is_above before r.key ≡ true → Rising (before ++ r ∷ [])
unfolding IsStrictlySortedBy
rises_on [] r rising above = (tt, tt)
rises_on (a ∷ []) r rising above = ((is_less (slice_cmp nat_cmp a.key r.key) above, tt), (tt, tt))
rises_on (a ∷ b ∷ before) r rising above =
    let others = rises_on (b ∷ before) r rising.1 above in
    ((rising.0.0, all_less a.key b.key (keys (before ++ r ∷ [])) rising.0.0 others.0), others)

pub rising_from_follow : (before rs : List Record) → Rising before → Follow before rs → Rising (before ++ rs)
rising_from_follow before [] rising follow = subst Rising (sym (append-nil before)) rising
rising_from_follow before (r ∷ rs) rising follow =
    subst Rising (append_assoc before (r ∷ []) rs) (rising_from_follow (before ++ r ∷ []) rs (rises_on before r rising follow.0) follow.1)

pub no_record_rises : Rising []
unfolding IsStrictlySortedBy
no_record_rises = tt

-- ---- The file

both : (a b : Bool) → (a && b) ≡ true → (a ≡ true) × (b ≡ true)
both true true h = (refl, refl)
both true false h = absurd (true≢false (sym h))
both false b h = absurd (true≢false (sym h))

-- what the steps of reading a file say
pub record FileSteps (bytes : List ℕ) (rs : List Record) : Type 0 where
  pub long : 24 ≤ length bytes
  pub whole : (length bytes - 24) % 4096 ≡ 0
  pub head : take 8 bytes ≡ codes "FDIDX001"
  pub mark : drop (length bytes - 4) bytes ≡ codes "FEND"
  pub pages : number_4 (drop (length bytes - 8) bytes) ≡ pages_in bytes
  pub number : number_8 (drop (length bytes - 16) bytes) ≡ counts_of (pages_in bytes) (body_of bytes)
  pub few : counts_of (pages_in bytes) (body_of bytes) < 2 ^ 32
  pub read : pages_at (pages_in bytes) (length bytes - 16) 0 [] (body_of bytes) ≡ Ok rs

pub file_steps : (bytes : List ℕ) (rs : List Record) → index_at bytes ≡ Ok rs → FileSteps bytes rs
unfolding index_at
file_steps bytes rs h =
    let n = length bytes in
    let all : Unit {0} → Result (List Record) ℕ = λ _. pages_at (pages_in bytes) (n - 16) 0 [] (body_of bytes) in
    let sum = counts_of (pages_in bytes) (body_of bytes) in
    let good_sum : Bool = number_8 (drop (n - 16) bytes) == sum && ltb sum (2 ^ 32) in
    let good_pages : Bool = number_4 (drop (n - 8) bytes) == pages_in bytes in
    let good_mark : Bool = bytes_eq (drop (n - 4) bytes) (codes "FEND") in
    let good_head : Bool = bytes_eq (take 8 bytes) (codes "FDIDX001") in
    let good_len : Bool = leb 24 n && (n - 24) % 4096 == 0 in
    let from_sum : Unit {0} → Result (List Record) ℕ = λ _. check good_sum (n - 16) >>= all in
    let from_pages : Unit {0} → Result (List Record) ℕ = λ _. check good_pages (n - 8) >>= from_sum in
    let from_mark : Unit {0} → Result (List Record) ℕ = λ _. check good_mark (n - 4) >>= from_pages in
    let from_head : Unit {0} → Result (List Record) ℕ = λ _. check good_head 0 >>= from_mark in
    let len = unchecked good_len 0 from_head rs h in
    let head = unchecked good_head 0 from_mark rs len.1 in
    let mark = unchecked good_mark (n - 4) from_pages rs head.1 in
    let pages = unchecked good_pages (n - 8) from_sum rs mark.1 in
    let number = unchecked good_sum (n - 16) all rs pages.1 in
    let shape = both (leb 24 n) ((n - 24) % 4096 == 0) len.0 in
    let counted = both (number_8 (drop (n - 16) bytes) == sum) (ltb sum (2 ^ 32)) number.0 in
    record {
      long = leb-true 24 n shape.0;
      whole = eqb-true ((n - 24) % 4096) 0 shape.1;
      head = (bytes_eq-Decides (take 8 bytes) (codes "FDIDX001")).0 head.0;
      mark = (bytes_eq-Decides (drop (n - 4) bytes) (codes "FEND")).0 mark.0;
      pages = eqb-true (number_4 (drop (n - 8) bytes)) (pages_in bytes) pages.0;
      number = eqb-true (number_8 (drop (n - 16) bytes)) sum counted.0;
      few = ltb-true sum (2 ^ 32) counted.1;
      read = number.1;
    }

-- bytes by their parts
in_parts : (bytes : List ℕ) → 24 ≤ length bytes
    → bytes ≡ (((take 8 bytes ++ body_of bytes) ++ take 8 (drop (length bytes - 16) bytes)) ++ take 4 (drop (length bytes - 8) bytes)) ++ drop (length bytes - 4) bytes
in_parts bytes long =
    let n = length bytes in
    let a : 8 + (n - 24) ≡ n - 16 = omega (arith, long) in
    let b : (n - 16) + 8 ≡ n - 8 = omega (arith, long) in
    let c : (n - 8) + 4 ≡ n - 4 = omega (arith, long) in
    let body : take (n - 16) bytes ≡ take 8 bytes ++ body_of bytes = ap (λ m. take m bytes) (sym a) ∙ take-add 8 (n - 24) bytes in
    let number : take (n - 8) bytes ≡ take (n - 16) bytes ++ take 8 (drop (n - 16) bytes) = ap (λ m. take m bytes) (sym b) ∙ take-add (n - 16) 8 bytes in
    let pages : take (n - 4) bytes ≡ take (n - 8) bytes ++ take 4 (drop (n - 8) bytes) = ap (λ m. take m bytes) (sym c) ∙ take-add (n - 8) 4 bytes in
    let mark = drop (n - 4) bytes in
    sym (take-append-drop (n - 4) bytes) ∙ ap (λ (t : List ℕ). t ++ mark) pages
    ∙ ap (λ (t : List ℕ). (t ++ take 4 (drop (n - 8) bytes)) ++ mark) number
    ∙ ap (λ (t : List ℕ). ((t ++ take 8 (drop (n - 16) bytes)) ++ take 4 (drop (n - 8) bytes)) ++ mark) body

pub spelled : (rs : List Record) (bytes : List ℕ) → AreOctets bytes → index_at bytes ≡ Ok rs → IsIndex rs bytes
unfolding index_of
spelled rs bytes o h =
    let s = file_steps bytes rs h in
    let n = length bytes in
    let long = s.long in
    let whole = s.whole in
    let body_long : length (body_of bytes) ≡ 4096 * pages_in bytes = length-take-le (n - 24) (drop 8 bytes) (omega (arith, length-drop 8 bytes, long)) ∙ omega (arith, whole) in
    let body_octets = octets_take (n - 24) (drop 8 bytes) (octets_drop 8 bytes o) (omega (arith, length-drop 8 bytes, long)) in
    let all = pages_say (pages_in bytes) (n - 16) 0 [] rs (body_of bytes) body_octets body_long s.read in
    let ps = all.ps in
    let pages_are : pages_of rs ≡ ps = ap pages_of all.all_is ∙ only ps all.good in
    let counted : counts_of (pages_in bytes) (body_of bytes) ≡ length rs =
    (λ i. counts_of (sym all.count i) (all.bytes_is i)) ∙ read_counts ps 0 all.good ∙ ap (length {A = Record}) (sym all.all_is) in
    let number : to_be_bytes w64 (length rs) ≡ take 8 (drop (n - 16) bytes) =
    spelled_8 (drop (n - 16) bytes) (length rs) (octets_drop (n - 16) bytes o) (omega (arith, length-drop (n - 16) bytes, long)) (sym counted ∙ sym s.number) in
    let pages : to_be_bytes w32 (length (pages_of rs)) ≡ take 4 (drop (n - 8) bytes) =
    spelled_4 (drop (n - 8) bytes) (length (pages_of rs)) (octets_drop (n - 8) bytes o) (omega (arith, length-drop (n - 8) bytes, long)) (ap (length {A = List Record}) pages_are ∙ all.count ∙ sym s.pages) in
    let body : body_of bytes ≡ pages_bytes (pages_of rs) = all.bytes_is ∙ ap pages_bytes (sym pages_are) in
    record {
      rising = subst Rising (sym all.all_is) (rising_from_follow [] (joined ps) no_record_rises all.follow);
      fit = subst AllFit (sym all.all_is) all.fit;
      few = subst (λ m. m < 2 ^ 32) counted s.few;
      is = in_parts bytes long ∙ (λ i. (((s.head i ++ body i) ++ sym number i) ++ sym pages i) ++ s.mark i);
    }

pub reads_its_records : ReadsItsRecords
reads_its_records bytes rs o = (spelled rs bytes o, reads_back rs bytes)

-- ---- What reading answers

pub one_index : (rs ss : List Record) (bytes : List ℕ) → index_at bytes ≡ Ok rs → IsIndex ss bytes → ss ≡ rs
one_index rs ss bytes read index = same_of ss rs (index_at bytes) (reads_back ss bytes index) read

pub refuses : (fault : IndexFault) (bytes : List ℕ) → Fails fault (index_at bytes) → RefusesNoIndex bytes (Err fault)
refuses (faults.BadIndex at) bytes failed = λ rs index. absurd (true≢false (ap is_ok (sym (reads_back rs bytes index) ∙ failed)))
refuses faults.NoMemory bytes failed = tt
