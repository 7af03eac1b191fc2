-- What each page of an index file reads as by itself.
use Rattle.std.proofs.Common.{◌≡◌, ℕ, zero, suc, ◌+◌, ◌-◌, ◌*◌, ◌^◌, ◌<◌, ◌≤◌, true, ltb, if◌then◌else◌, List, [], ◌∷◌, ◌++◌, length, take, drop, get_or, Result, Ok, Err, refl, sym, ap, ◌∙◌, subst, append_assoc, append-nil, arith, length-drop}
use Rattle.std.proofs.lemmas.List.{length-take-le, drop-drop, drop-take, take-take}
use Rattle.fd_index.specs.Records.{Record, Rising}
use Rattle.fd_index.specs.Pages.{joined}
use Rattle.fd_index.specs.Index.{AreOctets}
use Rattle.fd_index.specs.Reading.{◌>>=◌, body_of, check, index_at, is_above, key_len_at, number_2, page_at, page_by_itself, pages_at, pages_in, record_at, record_of, records_at, zeros_at}
use Rattle.fd_index.proofs.ReadBack.{Follow, few_on_page, few_records, page_is, page_length, record_is}
use Rattle.fd_index.proofs.ReadTurns.{one_more}
use Rattle.fd_index.proofs.Spelled.{file_steps, no_record_rises, page_says, rising_from_follow, same_ok, steps_of, unbind, unchecked}

-- ---- Parts of bytes

-- what lies within the first bytes is there in all of them too
pub within_front : (at n len : ℕ) (bytes : List ℕ) → at + n ≤ len → take n (drop at (take len bytes)) ≡ take n (drop at bytes)
within_front at n len bytes le =
    let split : len ≡ at + (n + (len - (at + n))) = omega (arith, le) in
    ap (λ m. take n (drop at (take m bytes))) split ∙ ap (take n) (drop-take at (n + (len - (at + n))) bytes)
    ∙ take-take n (n + (len - (at + n))) (drop at bytes) (omega arith)

page_of_body : (bytes : List ℕ) (j : ℕ) → length bytes ≡ 24 + 4096 * pages_in bytes → j < pages_in bytes → take 4096 (drop (4096 * j) (body_of bytes)) ≡ take 4096 (drop (8 + 4096 * j) bytes)
page_of_body bytes j size lt =
    within_front (4096 * j) 4096 (length bytes - 24) (drop 8 bytes) (let le : 4096 * j + 4096 ≤ length bytes - 24 = omega (arith, size, lt) in le)
    ∙ ap (take 4096) (drop-drop (4096 * j) 8 bytes)

-- ---- A page of octets

pub record IsRisingPage (rs : List Record) : Type 0 where
  pub rising : Rising rs
  pub some : 0 < length rs
  pub few : length rs < 2 ^ 32

pub page_rises : (end left : ℕ) (all : List Record) (page : List ℕ) → AreOctets page → length page ≡ 4096 → page_at end 0 [] page ≡ Ok (all, left) → IsRisingPage all
page_rises end left all page o len h =
    let one = page_says end 0 left [] all page o len h in
    let fits = page_length 0 one.p one.good in
    let few = few_records one.p in
    let many : length one.p < 2 ^ 32 = omega (arith, few, fits) in
    record {
      rising = subst Rising (sym one.all_is) (rising_from_follow [] one.p no_record_rises one.follow);
      some = subst (λ (rs : List Record). 0 < length rs) (sym one.all_is) (few_on_page 0 one.p one.good);
      few = subst (λ (rs : List Record). length rs < 2 ^ 32) (sym one.all_is) many;
    }

-- ---- One record, whatever stands before it

record OneApart (end : ℕ) (before all : List Record) (bytes rest : List ℕ) : Type 0 where
  r : Record
  all_is : all ≡ before ++ r ∷ []
  above : is_above before r.key ≡ true
  apart : (other : List Record) → is_above other r.key ≡ true → record_at end other bytes ≡ Ok (other ++ r ∷ [], rest)

one_apart : (end : ℕ) (before all : List Record) (bytes rest : List ℕ) → record_at end before bytes ≡ Ok (all, rest) → OneApart end before all bytes rest
unfolding record_at
one_apart end before all bytes rest h =
    let made : ℕ → Result (List Record × List ℕ) ℕ = λ m. Ok (before ++ record_of m bytes ∷ [], drop (18 + m) bytes) in
    let from_len : ℕ → Result (List Record × List ℕ) ℕ = λ m. check (is_above before (take m (drop 2 bytes))) (end - length bytes + 2) >>= λ _. made m in
    let len = unbind (key_len_at end bytes) from_len (all, rest) h in
    let n = len.0 in
    let above = unchecked (is_above before (take n (drop 2 bytes))) (end - length bytes + 2) (λ _. made n) (all, rest) len.2 in
    let is : (before ++ record_of n bytes ∷ [], drop (18 + n) bytes) ≡ (all, rest) = same_ok (before ++ record_of n bytes ∷ [], drop (18 + n) bytes) (all, rest) above.1 in
    record {
      r = record_of n bytes;
      all_is = sym (ap (λ (x : List Record × List ℕ). x.0) is);
      above = above.0;
      apart = λ other good. record_is end n other bytes len.1 good ∙ ap (λ (x : List Record × List ℕ). Ok (other ++ record_of n bytes ∷ [], x.1)) is;
    }

above_less : (x before : List Record) (key : List ℕ) → is_above (x ++ before) key ≡ true → is_above before key ≡ true
above_less x [] key h = refl
above_less [] (b ∷ before) key h = h
above_less (a ∷ []) (b ∷ before) key h = h
above_less (a ∷ c ∷ x) (b ∷ before) key h = above_less (c ∷ x) (b ∷ before) key h

-- ---- The records of a page, behind some of those before them

record SomeApart (n end : ℕ) (x before all : List Record) (bytes rest : List ℕ) : Type 0 where
  own : List Record
  all_is : all ≡ (x ++ before) ++ own
  follow : Follow (x ++ before) own
  apart : records_at n end before bytes ≡ Ok (before ++ own, rest)

some_apart : (n end : ℕ) (x before all : List Record) (bytes rest : List ℕ) → records_at n end (x ++ before) bytes ≡ Ok (all, rest) → SomeApart n end x before all bytes rest
unfolding records_at
some_apart zero end x before all bytes rest h =
    let is : (x ++ before, bytes) ≡ (all, rest) = same_ok (x ++ before, bytes) (all, rest) h in
    record {
      own = [];
      all_is = sym (ap (λ (y : List Record × List ℕ). y.0) is) ∙ sym (append-nil (x ++ before));
      follow = tt;
      apart = ap (λ (y : List Record × List ℕ). Ok (before, y.1)) is ∙ ap (λ (b : List Record). Ok (b, rest)) (sym (append-nil before));
    }
some_apart (suc n) end x before all bytes rest h =
    let next : List Record × List ℕ → Result (List Record × List ℕ) ℕ = λ one. records_at n end one.0 one.1 in
    let first = unbind (record_at end (x ++ before) bytes) next (all, rest) h in
    let one = one_apart end (x ++ before) first.0.0 bytes first.0.1 first.1 in
    let longer = before ++ one.r ∷ [] in
    let seam : (x ++ before) ++ one.r ∷ [] ≡ x ++ longer = append_assoc x before (one.r ∷ []) in
    let others = some_apart n end x longer all first.0.1 rest (subst (λ (b : List Record). records_at n end b first.0.1 ≡ Ok (all, rest)) (one.all_is ∙ seam) first.2) in
    record {
      own = one.r ∷ others.own;
      all_is = others.all_is ∙ ap (λ (b : List Record). b ++ others.own) (sym seam) ∙ append_assoc (x ++ before) (one.r ∷ []) others.own;
      follow = (one.above, subst (λ b. Follow b others.own) (sym seam) others.follow);
      apart =
          one_more (suc n) n end before longer bytes first.0.1 refl (one.apart before (above_less x before one.r.key one.above)) ∙ others.apart
          ∙ ap (λ (b : List Record). Ok (b, rest)) (append_assoc before (one.r ∷ []) others.own);
    }

-- ---- A page

record PageApart (end : ℕ) (before all : List Record) (page : List ℕ) : Type 0 where
  own : List Record
  all_is : all ≡ before ++ own
  follow : Follow before own
  apart : page_by_itself end page ≡ Ok own

page_apart : (end room left : ℕ) (before all : List Record) (page : List ℕ) → page_at end room before page ≡ Ok (all, left) → PageApart end before all page
page_apart end room left before all page h =
    let s = steps_of end room left before all page h in
    let text = drop 2 page in
    let same = append-nil before in
    let rs = some_apart (number_2 page) end before [] all text s.rest (subst (λ (b : List Record). records_at (number_2 page) end b text ≡ Ok (all, s.rest)) (sym same) s.records) in
    let past : 0 < 18 + s.n = omega arith in
    record {
      own = rs.own;
      all_is = rs.all_is ∙ ap (λ (b : List Record). b ++ rs.own) same;
      follow = subst (λ b. Follow b rs.own) same rs.follow;
      apart = ap (λ (r : Result (List Record × ℕ) ℕ). r >>= λ (read : List Record × ℕ). Ok read.0) (page_is end 0 s.n [] rs.own page s.rest s.some s.len past rs.apart s.blank.1);
    }

-- ---- All pages

record PagesApart (n end : ℕ) (before all : List Record) (bytes : List ℕ) : Type 0 where
  ps : List (List Record)
  count : length ps ≡ n
  all_is : all ≡ before ++ joined ps
  follow : Follow before (joined ps)
  each : (j : ℕ) → j < n → page_by_itself (end - 4096 * (n - suc j)) (take 4096 (drop (4096 * j) bytes)) ≡ Ok (get_or ps j [])

both_follow : (before p rs : List Record) → Follow before p → Follow (before ++ p) rs → Follow before (p ++ rs)
both_follow before [] rs f g = subst (λ b. Follow b rs) (append-nil before) g
both_follow before (r ∷ p) rs f g = (f.0, both_follow (before ++ r ∷ []) p rs f.1 (subst (λ b. Follow b rs) (sym (append_assoc before (r ∷ []) p)) g))

pages_apart : (n end room : ℕ) (before all : List Record) (bytes : List ℕ) → length bytes ≡ 4096 * n → pages_at n end room before bytes ≡ Ok all → PagesApart n end before all bytes
unfolding pages_at
pages_apart zero end room before all bytes len h = record {
  ps = [];
  count = refl;
  all_is = sym (same_ok before all h) ∙ sym (append-nil before);
  follow = tt;
  each = λ j lt. absurd (omega (arith, lt));
}
pages_apart (suc n) end room before all bytes len h =
    let rest = drop 4096 bytes in
    let next : List Record × ℕ → Result (List Record) ℕ = λ page. pages_at n end page.1 page.0 rest in
    let first = unbind (page_at (end - length rest) room before (take 4096 bytes)) next all h in
    let left : length rest ≡ 4096 * n = omega (arith, length-drop 4096 bytes, len) in
    let page = page_apart (end - length rest) room first.0.1 before first.0.0 (take 4096 bytes) first.1 in
    let others = pages_apart n end first.0.1 first.0.0 all rest left first.2 in
    record {
      ps = page.own ∷ others.ps;
      count = ap suc others.count;
      all_is = others.all_is ∙ ap (λ (b : List Record). b ++ joined others.ps) page.all_is ∙ append_assoc before page.own (joined others.ps);
      follow = both_follow before page.own (joined others.ps) page.follow (subst (λ b. Follow b (joined others.ps)) page.all_is others.follow);
      each = go page.own others.ps left page.apart others.each;
    }
  where
    go : (own : List Record) (ps : List (List Record)) → length (drop 4096 bytes) ≡ 4096 * n → page_by_itself (end - length (drop 4096 bytes)) (take 4096 bytes) ≡ Ok own
        → ((j : ℕ) → j < n → page_by_itself (end - 4096 * (n - suc j)) (take 4096 (drop (4096 * j) (drop 4096 bytes))) ≡ Ok (get_or ps j []))
        → (j : ℕ) → j < suc n → page_by_itself (end - 4096 * (suc n - suc j)) (take 4096 (drop (4096 * j) bytes)) ≡ Ok (get_or (own ∷ ps) j [])
    go own ps left here later zero lt =
        let size : 4096 * (suc n - suc zero) ≡ length (drop 4096 bytes) = omega (arith, left) in
        ap (λ m. page_by_itself (end - m) (take 4096 bytes)) size ∙ here
    go own ps left here later (suc j) lt =
        let at : 4096 * suc j ≡ 4096 + 4096 * j = omega arith in
        let size : 4096 * (suc n - suc (suc j)) ≡ 4096 * (n - suc j) = omega arith in
        (λ i. page_by_itself (end - size i) (take 4096 (drop (at i) bytes)))
        ∙ ap (λ (t : List ℕ). page_by_itself (end - 4096 * (n - suc j)) (take 4096 t)) (sym (drop-drop (4096 * j) 4096 bytes))
        ∙ later j (omega (arith, lt))

-- ---- The file

-- The records are those of the pages, one after the other, of which each reads as its own by itself.
pub record IsByPages (bytes : List ℕ) (rs : List Record) : Type 0 where
  pub ps : List (List Record)
  pub long : length bytes ≡ 24 + 4096 * pages_in bytes
  pub count : length ps ≡ pages_in bytes
  pub all_is : rs ≡ joined ps
  pub rising : Rising (joined ps)
  pub each : (j : ℕ) → j < pages_in bytes → page_by_itself (8 + 4096 * suc j) (take 4096 (drop (8 + 4096 * j) bytes)) ≡ Ok (get_or ps j [])

pub by_pages : (bytes : List ℕ) (rs : List Record) → index_at bytes ≡ Ok rs → IsByPages bytes rs
by_pages bytes rs h =
    let s = file_steps bytes rs h in
    let n = length bytes in
    let long = s.long in
    let whole = s.whole in
    let size : n ≡ 24 + 4096 * pages_in bytes = omega (arith, long, whole) in
    let body_long : length (body_of bytes) ≡ 4096 * pages_in bytes = length-take-le (n - 24) (drop 8 bytes) (omega (arith, length-drop 8 bytes, long)) ∙ omega (arith, whole) in
    let all = pages_apart (pages_in bytes) (n - 16) 0 [] rs (body_of bytes) body_long s.read in
    record {
      ps = all.ps;
      long = size;
      count = all.count;
      all_is = all.all_is;
      rising = rising_from_follow [] (joined all.ps) no_record_rises all.follow;
      each = λ j lt.
          let end : 8 + 4096 * suc j ≡ (n - 16) - 4096 * (pages_in bytes - suc j) = omega (arith, lt, size) in
          (λ i. page_by_itself (end i) (sym (page_of_body bytes j size lt) i)) ∙ all.each j lt;
    }
