-- Looking a key up by halving the numbers of the pages.
use Rattle.std.proofs.Common.{◌≡◌, ℕ, zero, suc, ◌+◌, ◌-◌, ◌*◌, ◌/◌, ◌^◌, ◌<◌, ◌≤◌, Bool, true, false, true≢false, if◌then◌else◌, List, [], ◌∷◌, ◌++◌, length, take, drop, get_or, map, bytes_eq, is_some, is_ok, Option, Some, None, Result, Ok, Err, Less, Equal, Greater, Ordering, refl, sym, ap, ◌∙◌, subst, append_assoc, append-nil, arith}
use Rattle.std.specs.Prelude.{IfSome, slice_get}
use Rattle.std.specs.Ordering.{nat_cmp, is_lt, is_eq}
use Rattle.std.specs.Cmp.Lexicographic.{slice_cmp}
use Rattle.std.specs.List.{AllByRecursion}
use Rattle.std.specs.List.Sorted.{IsStrictlySortedBy}
use Rattle.std.specs.Int.Digits.{digits_of}
use Rattle.std.proofs.lemmas.Cmp.{nat_list_cmp_total}
use Rattle.std.proofs.lemmas.Int.Digits.{length-digits_of_step, length-digits_of-le, number_digits_of, number_lt, all_below_base_digits_of}
use Rattle.std.proofs.lemmas.List.{length-take-le, take-append-drop, take_more, drop_all}
use Rattle.std.proofs.lemmas.Map.Text.{is_eq-slice_cmp}
use Rattle.std.proofs.lemmas.Slice.Eq.{bytes_eq-Decides}
use Rattle.std.proofs.Math.Seq.{drop-cons}
use Rattle.fd_index.specs.Records.{Record, Rising, keys, place_of}
use Rattle.fd_index.specs.Pages.{joined}
use Rattle.fd_index.specs.Reading.{index_at, page_by_itself, pages_in}
use Rattle.fd_index.proofs.Alone.{IsByPages, by_pages, within_front}
use Rattle.fd_pages.specs.declared.fault.PagedFault.{PagedFault}
use Rattle.fd_pages.specs.declared.fault.PagedFault.TheVariants as faults
use Rattle.fd_pages.specs.Causes.{OnBadIndex}
use Rattle.fd_pages.specs.Paging.{HasRead, Paging, digits}
use Rattle.fd_pages.specs.Parts.{IsBadPage, IsBehind, IsGap, IsHalved, IsInFront, IsNoIndex, IsOnPages, IsPageOf, IsPlace, IsSeen, Turns, is_before, middle, page_in, page_of, pages_by}

-- ---- Counting

below_digits : (n : ℕ) → n < 2 ^ digits n
below_digits n = subst (λ k. k < 2 ^ digits n) (number_digits_of 2 n (omega arith)) (number_lt 2 (digits_of 2 n) (all_below_base_digits_of 2 n (omega arith)))

digits_monotone : (m n : ℕ) → m ≤ n → digits m ≤ digits n
digits_monotone m n le = let below = below_digits n in length-digits_of-le 2 (digits n) m (omega arith) (omega (arith, below))

-- half of a number has one digit less
pub digits_half : (m n : ℕ) → 0 < n → m ≤ n / 2 → digits m + 1 ≤ digits n
digits_half m n h le = omega (arith, digits_monotone m (n / 2) le, length-digits_of_step 2 n (omega arith) h)

-- reads so far: no more than the digits that the numbers left between have fewer
pub record HasReadSoFar (all left : ℕ) (old new : Paging) : Type 0 where
  pub made : ℕ
  pub few : made + digits left ≤ digits all
  pub read : HasRead made old new

pub none_read : (all : ℕ) (p : Paging) → HasReadSoFar all all p p
none_read all p = record { made = 0; few = omega arith; read = record { few = omega arith; asked = λ lt. (omega arith, omega arith) } }

read_more : (m n : ℕ) (a b c : Paging) → HasRead m a b → HasRead n b c → HasRead (m + n) a c
read_more m n a b c p q = record {
  few = omega (arith, p.few, q.few);
  asked = λ lt.
      let later = q.asked lt in
      let middle : b.reads < 2 ^ 64 - 1 = omega (arith, later.0, lt) in
      let before = p.asked middle in
      (omega (arith, later.0, before.0), omega (arith, later.1, before.1));
}

pub one_read : (all left less : ℕ) (a b c : Paging) → HasReadSoFar all left a b → HasRead 1 b c → 0 < left → less ≤ left / 2 → HasReadSoFar all less a c
one_read all left less a b c so one some half = record {
  made = so.made + 1;
  few = omega (arith, so.few, digits_half less left some half);
  read = read_more so.made 1 a b c so.read one;
}

pub all_read : (all left : ℕ) (a b : Paging) → HasReadSoFar all left a b → HasRead (digits all) a b
all_read all left a b so = record { few = omega (arith, so.few, so.read.few); asked = so.read.asked }

pub all_read_on : (all left : ℕ) (a b c : Paging) → HasReadSoFar all left a b → HasRead 1 b c → 0 < left → HasRead (digits all) a c
all_read_on all left a b c so one some = all_read all 0 a c (one_read all left 0 a b c so one some (omega arith))

-- ---- Places in lists that are joined

pub past : (key : List ℕ) (a b : List Record) → place_of key a ≡ None → place_of key (a ++ b) ≡ place_of key b
past key [] b h = refl
past key (r ∷ a) b h = go (bytes_eq key r.key) h (past key a b)
  where
    go : (t : Bool) → (if t then Some (r.at, r.len) else place_of key a) ≡ None → (place_of key a ≡ None → place_of key (a ++ b) ≡ place_of key b) → (if t then Some (r.at, r.len) else place_of key (a ++ b)) ≡ place_of key b
    go true h rest = absurd (cc h)
    go false h rest = rest h

pub first : (key : List ℕ) (a b : List Record) → is_some (place_of key a) ≡ true → place_of key (a ++ b) ≡ place_of key a
first key [] b h = absurd (true≢false (sym h))
first key (r ∷ a) b h = go (bytes_eq key r.key) h (first key a b)
  where
    go : (t : Bool) → is_some (if t then Some (r.at, r.len) else place_of key a) ≡ true → (is_some (place_of key a) ≡ true → place_of key (a ++ b) ≡ place_of key a)
        → (if t then Some (r.at, r.len) else place_of key (a ++ b)) ≡ (if t then Some (r.at, r.len) else place_of key a)
    go true h rest = refl
    go false h rest = rest h

joined_append : (xs ys : List (List Record)) → joined (xs ++ ys) ≡ joined xs ++ joined ys
joined_append [] ys = refl
joined_append (x ∷ xs) ys = ap (λ (t : List Record). x ++ t) (joined_append xs ys) ∙ sym (append_assoc x (joined xs) (joined ys))

split_at : (ps : List (List Record)) (m : ℕ) → m < length ps → joined ps ≡ joined (take m ps) ++ (get_or ps m [] ++ joined (drop (suc m) ps))
split_at ps m lt =
    ap joined (sym (take-append-drop m ps)) ∙ joined_append (take m ps) (drop m ps)
    ∙ ap (λ (t : List (List Record)). joined (take m ps) ++ joined t) (drop-cons ps m [] lt)

front_more : (ps : List (List Record)) (m : ℕ) → m < length ps → joined (take (m + 1) ps) ≡ joined (take m ps) ++ get_or ps m []
front_more ps m lt =
    ap joined (take_more ps m [] lt) ∙ joined_append (take m ps) (get_or ps m [] ∷ [])
    ∙ ap (λ (t : List Record). joined (take m ps) ++ t) (append-nil (get_or ps m []))

-- ---- Keys that are below all others, or above

is_less : (o : Ordering) → is_lt o ≡ true → o ≡ Less
is_less Less h = refl
is_less Equal h = absurd (true≢false (sym h))
is_less Greater h = absurd (true≢false (sym h))

without : (key : List ℕ) (r : Record) (rs : List Record) → bytes_eq key r.key ≡ false → place_of key rs ≡ None → place_of key (r ∷ rs) ≡ None
without key r rs apart rest = ap (λ (t : Bool). if t then Some (r.at, r.len) else place_of key rs) apart ∙ rest

differs : (key k : List ℕ) → slice_cmp nat_cmp key k ≡ Less → bytes_eq key k ≡ false
differs key k less = sym (is_eq-slice_cmp key k) ∙ ap is_eq less

none_above : (key bound : List ℕ) (rs : List Record) → slice_cmp nat_cmp key bound ≡ Less → AllByRecursion (λ k. slice_cmp nat_cmp bound k ≡ Less) (keys rs) → place_of key rs ≡ None
none_above key bound [] less all = refl
none_above key bound (r ∷ rs) less all =
    without key r rs (differs key r.key (nat_list_cmp_total.trans key bound r.key less all.0)) (none_above key bound rs less all.1)

-- a key before that of the first record has no place
none_before : (key : List ℕ) (page rest : List Record) → Rising (page ++ rest) → is_before page key ≡ true → place_of key (page ++ rest) ≡ None
unfolding IsStrictlySortedBy
none_before key [] rest rising h = absurd (true≢false (sym h))
none_before key (r ∷ rs) rest rising h =
    let less = is_less (slice_cmp nat_cmp key r.key) h in
    without key r (rs ++ rest) (differs key r.key less) (none_above key r.key (rs ++ rest) less rising.0)

rising_back : (a b : List Record) → Rising (a ++ b) → Rising b
unfolding IsStrictlySortedBy
rising_back [] b h = h
rising_back (r ∷ a) b h = rising_back a b h.1

-- the keys of the records before another are below its key
below : (a : List Record) (r : Record) (c : List Record) → Rising (a ++ r ∷ c) → AllByRecursion (λ s. slice_cmp nat_cmp s.key r.key ≡ Less) a
unfolding IsStrictlySortedBy
below [] r c h = tt
below (s ∷ a) r c h = (pick a h.0, below a r c h.1)
  where
    pick : (xs : List Record) → AllByRecursion (λ k. slice_cmp nat_cmp s.key k ≡ Less) (keys (xs ++ r ∷ c)) → slice_cmp nat_cmp s.key r.key ≡ Less
    pick [] h = h.0
    pick (x ∷ xs) h = pick xs h.1

none_below : (key bound : List ℕ) (a : List Record) → AllByRecursion (λ s. slice_cmp nat_cmp s.key bound ≡ Less) a → is_lt (slice_cmp nat_cmp key bound) ≡ false → place_of key a ≡ None
none_below key bound [] all h = refl
none_below key bound (s ∷ a) all h = without key s a (go (bytes_eq key s.key) refl) (none_below key bound a all.1 h)
  where
    go : (t : Bool) → bytes_eq key s.key ≡ t → t ≡ false
    go false is = refl
    go true is =
        let same : key ≡ s.key = (bytes_eq-Decides key s.key).0 is in
        absurd (true≢false (sym (ap is_lt (ap (λ (k : List ℕ). slice_cmp nat_cmp k bound) same ∙ all.0)) ∙ h))

-- a key that isn't before the first of a page isn't on the pages before it
none_in_front : (key : List ℕ) (a page rest : List Record) → Rising (a ++ (page ++ rest)) → 0 < length page → is_before page key ≡ false → place_of key a ≡ None
none_in_front key a [] rest rising some h = absurd (omega (arith, some))
none_in_front key a (r ∷ rs) rest rising some h = none_below key r.key a (below a r (rs ++ rest) rising) h

-- ---- The pages between which the key may be

-- the pages before these and those behind them don't have the key
pub record Lacks (ps : List (List Record)) (key : List ℕ) (low high : ℕ) : Type 0 where
  pub before : place_of key (joined (take low ps)) ≡ None
  pub behind : place_of key (joined (drop high ps)) ≡ None

module _ (ps : List (List Record)) (key : List ℕ) (rising : Rising (joined ps)) (m : ℕ) (lt : m < length ps) (page : List Record) (is : page ≡ get_or ps m []) where
  parts : joined ps ≡ joined (take m ps) ++ (page ++ joined (drop (suc m) ps))
  parts = split_at ps m lt ∙ ap (λ (t : List Record). joined (take m ps) ++ (t ++ joined (drop (suc m) ps))) (sym is)

  in_parts : Rising (joined (take m ps) ++ (page ++ joined (drop (suc m) ps)))
  in_parts = subst Rising parts rising

  lower_lacks : (low high : ℕ) → Lacks ps key low high → is_before page key ≡ true → Lacks ps key low m
  lower_lacks low high l h = record {
    before = l.before;
    behind =
        ap (λ (t : List (List Record)). place_of key (joined t)) (drop-cons ps m [] lt)
        ∙ ap (λ (t : List Record). place_of key (t ++ joined (drop (suc m) ps))) (sym is)
        ∙ none_before key page (joined (drop (suc m) ps)) (rising_back (joined (take m ps)) (page ++ joined (drop (suc m) ps)) in_parts) h;
  }

  front_lacks : 0 < length page → is_before page key ≡ false → place_of key (joined (take m ps)) ≡ None
  front_lacks some h = none_in_front key (joined (take m ps)) page (joined (drop (suc m) ps)) in_parts some h

  higher_lacks : (low high : ℕ) → Lacks ps key low high → 0 < length page → is_before page key ≡ false → place_of key page ≡ None → Lacks ps key (m + 1) high
  higher_lacks low high l some h here = record {
    before =
        ap (place_of key) (front_more ps m lt ∙ ap (λ (t : List Record). joined (take m ps) ++ t) (sym is))
        ∙ past key (joined (take m ps)) page (front_lacks some h) ∙ here;
    behind = l.behind;
  }

  found_here : 0 < length page → is_before page key ≡ false → is_some (place_of key page) ≡ true → place_of key page ≡ place_of key (joined ps)
  found_here some h here =
      sym (ap (place_of key) parts ∙ past key (joined (take m ps)) (page ++ joined (drop (suc m) ps)) (front_lacks some h) ∙ first key page (joined (drop (suc m) ps)) here)

all_lacks : (ps : List (List Record)) (key : List ℕ) (low high : ℕ) → low ≡ high → Lacks ps key low high → place_of key (joined ps) ≡ None
all_lacks ps key low high same l =
    ap (λ (t : List (List Record)). place_of key (joined t)) (sym (take-append-drop high ps)) ∙ ap (place_of key) (joined_append (take high ps) (drop high ps))
    ∙ past key (joined (take high ps)) (joined (drop high ps)) (subst (λ n. place_of key (joined (take n ps)) ≡ None) same l.before) ∙ l.behind

-- ---- The same of a file, where told

pub record IsBetween (bytes : Option (List ℕ)) (len : ℕ) (key : List ℕ) (low high : ℕ) : Type 0 where
  pub order : low ≤ high
  pub within : high ≤ pages_by len
  pub whole : IfSome bytes (λ b. len ≤ length b)
  pub lacks : IfSome bytes (λ b. (rs : List Record) (file : IsByPages (take len b) rs) → Lacks file.ps key low high)
  pub front : IfSome bytes (λ b. (n : ℕ) → low ≡ n + 1 → IsInFront b n key)
  pub behind : IfSome bytes (λ b. high < pages_by len → IsBehind b high key)
  pub turns : IfSome bytes (λ b. (place : Option (ℕ × ℕ)) → IsHalved b key low high place → IsHalved b key 0 (pages_by len) place)

page_count : (len : ℕ) (b : List ℕ) → len ≤ length b → pages_in (take len b) ≡ pages_by len
page_count len b le = ap pages_by (length-take-le len b le)

-- a page of the file is what the page by itself reads as
pub page_same : (len : ℕ) (b : List ℕ) (m : ℕ) (rs : List Record) (file : IsByPages (take len b) rs) → len ≤ length b → m < pages_by len → page_in b m ≡ Ok (get_or file.ps m [])
page_same len b m rs file le lt =
    let count = page_count len b le in
    let under : m < pages_in (take len b) = omega (arith, lt, count) in
    let size : len ≡ 24 + 4096 * pages_by len = sym (length-take-le len b le) ∙ file.long ∙ omega (arith, count) in
    let end : 4104 + 4096 * m ≡ 8 + 4096 * suc m = omega arith in
    let inside : (8 + 4096 * m) + 4096 ≤ len = omega (arith, lt, size) in
    (λ i. page_by_itself (end i) (sym (within_front (8 + 4096 * m) 4096 len b inside) i)) ∙ file.each m under

abbrev ok_or : {A : Type 0} → A → Result A ℕ → A
ok_or d (Ok x) = x
ok_or d (Err e) = d

page_is : (len : ℕ) (b : List ℕ) (m : ℕ) (rs page : List Record) (file : IsByPages (take len b) rs) → len ≤ length b → m < pages_by len → page_in b m ≡ Ok page → page ≡ get_or file.ps m []
page_is len b m rs page file le lt read = sym (ap (ok_or page) read) ∙ ap (ok_or page) (page_same len b m rs file le lt)

page_there : (len : ℕ) (b : List ℕ) (m : ℕ) (rs : List Record) (file : IsByPages (take len b) rs) → len ≤ length b → m < pages_by len → m < length file.ps
page_there len b m rs file le lt = omega (arith, lt, page_count len b le, file.count)

pub begins : (bytes : Option (List ℕ)) (len : ℕ) (key : List ℕ) (n : ℕ) → n ≡ pages_by len → IfSome bytes (λ b. len ≤ length b) → IsBetween bytes len key 0 n
begins None len key n is whole = record { order = omega arith; within = omega (arith, is); whole = tt; lacks = tt; front = tt; behind = tt; turns = tt }
begins (Some b) len key n is whole = record {
  order = omega arith;
  within = omega (arith, is);
  whole = whole;
  lacks = λ rs file.
      let all : length file.ps ≤ n = omega (arith, is, page_count len b whole, file.count) in
      record { before = refl; behind = ap (λ (t : List (List Record)). place_of key (joined t)) (drop_all n file.ps all) };
  front = λ n e. absurd (omega (arith, e));
  behind = λ lt. absurd (omega (arith, is, lt));
  turns = λ place h. subst (λ k. IsHalved b key 0 k place) is h;
}

turn_down : (b key : List ℕ) (low high m : ℕ) (turns : List Bool) (place : Option (ℕ × ℕ)) → m ≡ middle low high → low < high → IsBehind b m key → Turns b key low m turns place → Turns b key low high (true ∷ turns) place
turn_down b key low high m turns place mid lt behind t = (lt, (subst (λ k. IsBehind b k key) mid behind, subst (λ k. Turns b key low k turns place) mid t))

turn_up : (b key : List ℕ) (low high m : ℕ) (turns : List Bool) (place : Option (ℕ × ℕ)) → m ≡ middle low high → low < high → IsInFront b m key → Turns b key (m + 1) high turns place → Turns b key low high (false ∷ turns) place
turn_up b key low high m turns place mid lt front t = (lt, (subst (λ k. IsInFront b k key) mid front, subst (λ k. Turns b key (k + 1) high turns place) mid t))

pub lower : (bytes : Option (List ℕ)) (len : ℕ) (key : List ℕ) (low high m : ℕ) (page : List Record) → m ≡ middle low high → IsBetween bytes len key low high → low ≤ m → m < high → IsPageOf bytes m page → is_before page key ≡ true → IsBetween bytes len key low m
lower None len key low high m page mid b le lt is h = record { order = le; within = omega (arith, lt, b.within); whole = tt; lacks = tt; front = tt; behind = tt; turns = tt }
lower (Some bytes) len key low high m page mid b le lt is h =
    let under : m < pages_by len = omega (arith, lt, b.within) in
    record {
      order = le;
      within = omega (arith, lt, b.within);
      whole = b.whole;
      lacks = λ rs file. lower_lacks file.ps key file.rising m (page_there len bytes m rs file b.whole under) page (page_is len bytes m rs page file b.whole under is.told) low high (b.lacks rs file) h;
      front = b.front;
      behind = λ more. (page, is.told, h);
      turns = λ place t. b.turns place (true ∷ t.0, turn_down bytes key low high m t.0 place mid (omega (arith, le, lt)) (page, is.told, h) t.1);
    }

is_none : (o : Option (ℕ × ℕ)) → is_some o ≡ false → o ≡ None
is_none None h = refl
is_none (Some x) h = absurd (true≢false h)

pub higher : (bytes : Option (List ℕ)) (len : ℕ) (key : List ℕ) (low high m : ℕ) (page : List Record) → m ≡ middle low high → IsBetween bytes len key low high → low < high → m < high → IsPageOf bytes m page → is_before page key ≡ false → is_some (place_of key page) ≡ false → IsBetween bytes len key (m + 1) high
higher None len key low high m page mid b some lt is h none = record { order = omega (arith, lt); within = b.within; whole = tt; lacks = tt; front = tt; behind = tt; turns = tt }
higher (Some bytes) len key low high m page mid b some lt is h none =
    let under : m < pages_by len = omega (arith, lt, b.within) in
    record {
      order = omega (arith, lt);
      within = b.within;
      whole = b.whole;
      lacks = λ rs file.
          higher_lacks file.ps key file.rising m (page_there len bytes m rs file b.whole under) page (page_is len bytes m rs page file b.whole under is.told) low high (b.lacks rs file) is.some h (is_none (place_of key page) none);
      front = λ n e. let same : m ≡ n = omega (arith, e) in subst (λ k. IsInFront bytes k key) same (page, is.told, h, is_none (place_of key page) none);
      behind = b.behind;
      turns = λ place t. b.turns place (false ∷ t.0, turn_up bytes key low high m t.0 place mid some (page, is.told, h, is_none (place_of key page) none) t.1);
    }

pub found : (bytes : Option (List ℕ)) (len : ℕ) (key : List ℕ) (low high m : ℕ) (page : List Record) → IsBetween bytes len key low high → m < high → IsPageOf bytes m page → is_before page key ≡ false → is_some (place_of key page) ≡ true → IsPlace bytes len key (place_of key page)
found None len key low high m page b lt is h some = tt
found (Some bytes) len key low high m page b lt is h some = λ rs read.
    let file = by_pages (take len bytes) rs read in
    let under : m < pages_by len = omega (arith, lt, b.within) in
    found_here file.ps key file.rising m (page_there len bytes m rs file b.whole under) page (page_is len bytes m rs page file b.whole under is.told) is.some h some
    ∙ ap (place_of key) (sym file.all_is)

pub gone : (bytes : Option (List ℕ)) (len : ℕ) (key : List ℕ) (low high : ℕ) → IsBetween bytes len key low high → high ≤ low → IsPlace bytes len key None
gone None len key low high b le = tt
gone (Some bytes) len key low high b le = λ rs read.
    let file = by_pages (take len bytes) rs read in
    let same : low ≡ high = omega (arith, le, b.order) in
    sym (ap (place_of key) file.all_is ∙ all_lacks file.ps key low high same (b.lacks rs file))

-- what was read for a place that was found
pub found_seen : (bytes : Option (List ℕ)) (len : ℕ) (key : List ℕ) (low high m : ℕ) (page : List Record) (place : Option (ℕ × ℕ)) → m ≡ middle low high → IsBetween bytes len key low high → low < high → m < pages_by len → IsPageOf bytes m page → is_before page key ≡ false
    → place ≡ place_of key page → is_some place ≡ true → IsSeen bytes len key place
found_seen bytes len key low high m page None mid b some lt is h at there = absurd (true≢false (sym there))
found_seen None len key low high m page (Some place) mid b some lt is h at there = (tt, tt)
found_seen (Some bytes) len key low high m page (Some place) mid b some lt is h at there =
    ((m, lt, page, is.told, sym at), b.turns (Some place) ([], (some, (page, subst (λ k. page_in bytes k ≡ Ok page) mid is.told, h, sym at))))

-- and for a key that has none
pub gone_seen : (bytes : Option (List ℕ)) (len : ℕ) (key : List ℕ) (low high : ℕ) → IsBetween bytes len key low high → high ≤ low → IsSeen bytes len key None
gone_seen None len key low high b le = (tt, tt)
gone_seen (Some bytes) len key low high b le =
    let same : high ≡ low = omega (arith, le, b.order) in
    let gap : IsGap bytes len key low = record {
      within = omega (arith, same, b.within);
      front = b.front;
      behind = λ lt. subst (λ k. IsBehind bytes k key) same (b.behind (omega (arith, lt, same)));
    } in
    ((low, gap), b.turns None ([], le))

pub bad_page : (bytes : Option (List ℕ)) (len m at : ℕ) → m < pages_by len → IfSome bytes (λ b. page_in b m ≡ Err at) → IsBadPage bytes len at
bad_page None len m at lt bad = tt
bad_page (Some b) len m at lt bad = (m, lt, bad)

pub no_index : (bytes : Option (List ℕ)) (len m at : ℕ) → m < pages_by len → IfSome bytes (λ b. len ≤ length b) → IfSome bytes (λ b. page_in b m ≡ Err at) → IsNoIndex bytes len
no_index None len m at lt whole bad = tt
no_index (Some b) len m at lt whole bad = λ rs read.
    let file = by_pages (take len b) rs read in
    absurd (true≢false (ap is_ok (sym (page_same len b m rs file whole lt) ∙ bad)))

pub refused_by : {F : Type 0} (fault : PagedFault F) (was bytes : Option (List ℕ)) (len m : ℕ) → was ≡ bytes → m < pages_by len → IfSome bytes (λ b. len ≤ length b) → OnBadIndex fault (λ at. IfSome was (λ b. page_in b m ≡ Err at))
    → OnBadIndex fault (λ _. IsNoIndex bytes len)
refused_by (faults.Fault f) was bytes len m same lt whole bad = tt
refused_by (faults.BadIndex at) was bytes len m same lt whole bad = no_index bytes len m at lt whole (subst (λ (o : Option (List ℕ)). IfSome o (λ b. page_in b m ≡ Err at)) same bad)
refused_by faults.NoMemory was bytes len m same lt whole bad = tt

-- ---- A page that was read

pub page_told : (bytes : Option (List ℕ)) (n k at end : ℕ) (page : List ℕ) (reading : Result (List Record) ℕ) → k ≡ 4096 → at ≡ 8 + 4096 * n → end ≡ 4104 + 4096 * n → IfSome bytes (λ b. page ≡ take k (drop at b)) → page_by_itself end page ≡ reading → IfSome bytes (λ b. page_in b n ≡ reading)
page_told None n k at end page reading long start stop told read = tt
page_told (Some b) n k at end page reading long start stop told read =
    (λ i. page_by_itself (sym stop i) (take (sym long i) (drop (sym start i) b))) ∙ ap (page_by_itself end) (sym told) ∙ read

-- a file is at least as long as the index in it
pub whole_told : (bytes : Option (List ℕ)) (size len : ℕ) → ((b : List ℕ) → bytes ≡ Some b → length b ≡ size) → len ≤ size → IfSome bytes (λ b. len ≤ length b)
whole_told None size len told le = tt
whole_told (Some b) size len told le = subst (λ n. len ≤ n) (sym (told b refl)) le

-- the key against the first key of a page
pub before_first : (page : List Record) (key : List ℕ) (r : Record) → slice_get page 0 ≡ Some r → is_lt (slice_cmp nat_cmp key r.key) ≡ is_before page key
before_first [] key r h = absurd (cc h)
before_first (s ∷ page) key r h = ap (λ (x : Record). is_lt (slice_cmp nat_cmp key x.key)) (sym (same_some s r h))
  where
    some_or : Record → Option Record → Record
    some_or d (Some x) = x
    some_or d None = d

    same_some : (a b : Record) → Some a ≡ Some b → a ≡ b
    same_some a b e = ap (some_or a) e
