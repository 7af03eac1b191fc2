-- What the look-ups of all keys say of an index file that is in its format.
use Rattle.std.proofs.Common.{◌≡◌, ◌⊎◌, inl, inr, ℕ, zero, suc, ◌+◌, ◌-◌, ◌*◌, ◌<◌, ◌≤◌, Bool, true, false, List, [], ◌∷◌, ◌++◌, length, take, drop, get_or, is_some, Option, Some, None, Result, Ok, Err, refl, sym, ap, ◌∙◌, subst, length-append, arith}
use Rattle.std.specs.Prelude.{IfSome}
use Rattle.fd_index.specs.Records.{Record, place_of}
use Rattle.fd_index.specs.Reading.{◌>>=◌, check, index_at, is_above, key_len_at, number_2, page_at, page_by_itself, record_at, record_of, records_at}
use Rattle.fd_index.proofs.Alone.{IsByPages, by_pages}
use Rattle.fd_index.proofs.Spelled.{same_ok, steps_of, unbind, unchecked}
use Rattle.fd_pages.specs.Parts.{IsPageOf, IsPlace, IsSeen, is_before, middle, page_in, pages_by}
use Rattle.fd_pages.proofs.Halving.{IsBetween, begins, found, found_seen, gone, gone_seen, higher, lower, page_same}

-- ---- A page has a record

one_more : (end : ℕ) (before all : List Record) (bytes rest : List ℕ) → record_at end before bytes ≡ Ok (all, rest) → length all ≡ length before + 1
unfolding record_at
one_more end before all bytes rest h =
    let made : ℕ → Result (List Record × List ℕ) ℕ = λ m. Ok (before ++ record_of m bytes ∷ [], drop (18 + m) bytes) in
    let from_len : ℕ → Result (List Record × List ℕ) ℕ = λ m. check (is_above before (take m (drop 2 bytes))) (end - length bytes + 2) >>= λ _. made m in
    let len = unbind (key_len_at end bytes) from_len (all, rest) h in
    let n = len.0 in
    let above = unchecked (is_above before (take n (drop 2 bytes))) (end - length bytes + 2) (λ _. made n) (all, rest) len.2 in
    let is : (before ++ record_of n bytes ∷ [], drop (18 + n) bytes) ≡ (all, rest) = same_ok (before ++ record_of n bytes ∷ [], drop (18 + n) bytes) (all, rest) above.1 in
    sym (ap (λ (x : List Record × List ℕ). length x.0) is) ∙ length-append before (record_of n bytes ∷ [])

so_many : (n end : ℕ) (before all : List Record) (bytes rest : List ℕ) → records_at n end before bytes ≡ Ok (all, rest) → length all ≡ length before + n
unfolding records_at
so_many zero end before all bytes rest h =
    let is : (before, bytes) ≡ (all, rest) = same_ok (before, bytes) (all, rest) h in
    sym (ap (λ (x : List Record × List ℕ). length x.0) is) ∙ omega arith
so_many (suc n) end before all bytes rest h =
    let next : List Record × List ℕ → Result (List Record × List ℕ) ℕ = λ one. records_at n end one.0 one.1 in
    let first = unbind (record_at end before bytes) next (all, rest) h in
    let one = one_more end before first.0.0 bytes first.0.1 first.1 in
    let others = so_many n end first.0.0 all first.0.1 rest first.2 in
    omega (arith, one, others)

some_on_page : (end : ℕ) (page : List ℕ) (rs : List Record) → page_by_itself end page ≡ Ok rs → 0 < length rs
some_on_page end page rs h =
    let keep : List Record × ℕ → Result (List Record) ℕ = λ read. Ok read.0 in
    let read = unbind (page_at end 0 [] page) keep rs h in
    let s = steps_of end 0 read.0.1 [] read.0.0 page read.1 in
    let many = so_many (number_2 page) end [] read.0.0 (drop 2 page) s.rest s.records in
    let same : read.0.0 ≡ rs = same_ok read.0.0 rs read.2 in
    let some : 0 < number_2 page = s.some in
    subst (λ (xs : List Record). 0 < length xs) same (let one : 0 < length read.0.0 = omega (arith, many, some) in one)

-- ---- Halving comes to the place that all records say

-- what is said of a key, and that it is so
record Said (b : List ℕ) (len : ℕ) (key : List ℕ) : Type 0 where
  place : Option (ℕ × ℕ)
  seen : IsSeen (Some b) len key place
  is : IsPlace (Some b) len key place

low_or_high : (low high : ℕ) → (high ≤ low) ⊎ (low < high)
low_or_high low high = grind arith

module _ (b : List ℕ) (len : ℕ) (key : List ℕ) (rs : List Record) (file : IsByPages (take len b) rs) (whole : len ≤ length b) where
  page_here : (m : ℕ) → m < pages_by len → IsPageOf (Some b) m (get_or file.ps m [])
  page_here m lt =
      let told : page_in b m ≡ Ok (get_or file.ps m []) = page_same len b m rs file whole lt in
      record { some = some_on_page (4104 + 4096 * m) _ (get_or file.ps m []) told; told = told }

  none : (low high : ℕ) → high ≤ low → IsBetween (Some b) len key low high → Said b len key
  none low high le between = record { place = None; seen = gone_seen (Some b) len key low high between le; is = gone (Some b) len key low high between le }

  abbrev Rest : ℕ → Type 0
  Rest n = (low high : ℕ) → high - low ≤ n → IsBetween (Some b) len key low high → Said b len key

  turn : (n low high m : ℕ) (page : List Record) → m ≡ middle low high → low < high → m < high → low ≤ m → m < pages_by len → IsPageOf (Some b) m page → high - low ≤ suc n → IsBetween (Some b) len key low high → Rest n → Said b len key
  turn n low high m page mid lt under over within here few between rest = side (is_before page key) refl
    where
      on : (o : Option (ℕ × ℕ)) → place_of key page ≡ o → is_before page key ≡ false → Said b len key
      on (Some place) at not = record {
        place = place_of key page;
        seen = found_seen (Some b) len key low high m page (place_of key page) mid between lt within here not refl (ap is_some at);
        is = found (Some b) len key low high m page between under here not (ap is_some at);
      }
      on None at not = rest (m + 1) high (omega (arith, few, over)) (higher (Some b) len key low high m page mid between lt under here not (ap is_some at))

      side : (t : Bool) → is_before page key ≡ t → Said b len key
      side true before = rest low m (omega (arith, few, under)) (lower (Some b) len key low high m page mid between over under here before)
      side false not = on (place_of key page) refl not

  step : (n low high : ℕ) → high - low ≤ suc n → IsBetween (Some b) len key low high → (high ≤ low) ⊎ (low < high) → Rest n → Said b len key
  step n low high few between (inl le) rest = none low high le between
  step n low high few between (inr lt) rest =
      let m = middle low high in
      let under : m < high = omega (arith, lt) in
      let over : low ≤ m = omega arith in
      let within : m < pages_by len = omega (arith, under, between.within) in
      turn n low high m (get_or file.ps m []) refl lt under over within (page_here m within) few between rest

  said : (n : ℕ) → Rest n
  said zero low high few between = none low high (omega (arith, few)) between
  said (suc n) low high few between = step n low high few between (low_or_high low high) (said n)

-- Of an index file that is in its format each key's look-up says what all of its records say.
pub seen_of_all : (b : List ℕ) (len : ℕ) (key : List ℕ) (rs : List Record) → len ≤ length b → index_at (take len b) ≡ Ok rs → IsSeen (Some b) len key (place_of key rs)
seen_of_all b len key rs whole read =
    let one = said b len key rs (by_pages (take len b) rs read) whole (pages_by len) 0 (pages_by len) (omega arith) (begins (Some b) len key (pages_by len) refl whole) in
    subst (IsSeen (Some b) len key) (one.is rs read) one.seen
