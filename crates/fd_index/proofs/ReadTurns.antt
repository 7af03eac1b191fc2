-- Reading the records of a page one after the other.
use Rattle.std.proofs.Common.{◌≡◌, ℕ, suc, ◌+◌, ◌-◌, List, [], ◌∷◌, length, take, drop, slice_get, Option, Some, Result, Ok, Err, is_some, sym, ap, ◌∙◌, true≢false, arith, unwrap_or}
use Rattle.std.specs.Ordering.{nat_cmp, is_lt}
use Rattle.std.specs.Cmp.Lexicographic.{slice_cmp}
use Rattle.fd_index.specs.declared.fault.IndexFault.{IndexFault}
use Rattle.fd_index.specs.declared.fault.IndexFault.TheVariants as faults
use Rattle.fd_index.specs.Records.{Record}
use Rattle.fd_index.specs.Index.{Fails}
use Rattle.fd_index.specs.Reading.{◌>>=◌, counts_of, is_above, number_2, page_at, pages_at, record_at, records_at}

same_some : (a b : Record) → Some a ≡ Some b → a ≡ b
same_some a b h = ap (λ (o : Option Record). unwrap_or o a) h

-- the last record decides
pub above_last : (rs : List Record) (r : Record) (key : List ℕ) → slice_get rs (length rs - 1) ≡ Some r → is_above rs key ≡ is_lt (slice_cmp nat_cmp r.key key)
above_last [] r key h = absurd (true≢false (sym (ap is_some h)))
above_last (a ∷ []) r key h = ap (λ (x : Record). is_lt (slice_cmp nat_cmp x.key key)) (same_some a r h)
above_last (a ∷ b ∷ rs) r key h = above_last (b ∷ rs) r key (ap (λ n. slice_get (b ∷ rs) n) (let is : length (b ∷ rs) - 1 ≡ length rs = omega arith in is) ∙ ap (λ n. slice_get (a ∷ b ∷ rs) n) (let is : suc (length rs) ≡ length (a ∷ b ∷ rs) - 1 = omega arith in is) ∙ h)

-- ---- The records of a page

pub one_more : (n k end : ℕ) (before new : List Record) (bytes rest : List ℕ) → n ≡ suc k → record_at end before bytes ≡ Ok (new, rest) → records_at n end before bytes ≡ records_at k end new rest
unfolding records_at
one_more n k end before new bytes rest is read =
    ap (λ m. records_at m end before bytes) is ∙ ap (λ (r : Result (List Record × List ℕ) ℕ). r >>= λ (one : List Record × List ℕ). records_at k end one.0 one.1) read

pub one_wrong : (n k end at : ℕ) (before : List Record) (bytes : List ℕ) → n ≡ suc k → record_at end before bytes ≡ Err at → records_at n end before bytes ≡ Err at
unfolding records_at
one_wrong n k end at before bytes is read =
    ap (λ m. records_at m end before bytes) is ∙ ap (λ (r : Result (List Record × List ℕ) ℕ). r >>= λ (one : List Record × List ℕ). records_at k end one.0 one.1) read

pub none_left : (n end : ℕ) (before : List Record) (bytes : List ℕ) → n ≡ 0 → records_at n end before bytes ≡ Ok (before, bytes)
unfolding records_at
none_left n end before bytes is = ap (λ m. records_at m end before bytes) is

-- what reading one record fails with is what reading all fails with
pub fails : (fault : IndexFault) (all : Result (List Record × List ℕ) ℕ) (n k end : ℕ) (before : List Record) (bytes : List ℕ) → n ≡ suc k → all ≡ records_at n end before bytes → Fails fault (record_at end before bytes) → Fails fault all
fails (faults.BadIndex at) all n k end before bytes is same read = same ∙ one_wrong n k end at before bytes is read
fails faults.NoMemory all n k end before bytes is same read = tt

-- ---- The pages

pub page_more : (n k end room left : ℕ) (before new : List Record) (bytes : List ℕ) → n ≡ suc k → page_at (end - length (drop 4096 bytes)) room before (take 4096 bytes) ≡ Ok (new, left)
    → pages_at n end room before bytes ≡ pages_at k end left new (drop 4096 bytes)
unfolding pages_at
page_more n k end room left before new bytes is read =
    ap (λ m. pages_at m end room before bytes) is ∙ ap (λ (r : Result (List Record × ℕ) ℕ). r >>= λ (page : List Record × ℕ). pages_at k end page.1 page.0 (drop 4096 bytes)) read

pub page_wrong : (n k end room at : ℕ) (before : List Record) (bytes : List ℕ) → n ≡ suc k → page_at (end - length (drop 4096 bytes)) room before (take 4096 bytes) ≡ Err at → pages_at n end room before bytes ≡ Err at
unfolding pages_at
page_wrong n k end room at before bytes is read =
    ap (λ m. pages_at m end room before bytes) is ∙ ap (λ (r : Result (List Record × ℕ) ℕ). r >>= λ (page : List Record × ℕ). pages_at k end page.1 page.0 (drop 4096 bytes)) read

pub no_page : (n end room : ℕ) (before : List Record) (bytes : List ℕ) → n ≡ 0 → pages_at n end room before bytes ≡ Ok before
unfolding pages_at
no_page n end room before bytes is = ap (λ m. pages_at m end room before bytes) is

pub page_fails : (fault : IndexFault) (all : Result (List Record) ℕ) (n k end room : ℕ) (before : List Record) (bytes : List ℕ) → n ≡ suc k → all ≡ pages_at n end room before bytes
    → Fails fault (page_at (end - length (drop 4096 bytes)) room before (take 4096 bytes)) → Fails fault all
page_fails (faults.BadIndex at) all n k end room before bytes is same read = same ∙ page_wrong n k end room at before bytes is read
page_fails faults.NoMemory all n k end room before bytes is same read = tt

pub count_more : (n k : ℕ) (bytes : List ℕ) → n ≡ suc k → counts_of n bytes ≡ number_2 (take 4096 bytes) + counts_of k (drop 4096 bytes)
unfolding counts_of
count_more n k bytes is = ap (λ m. counts_of m bytes) is

pub no_count : (n : ℕ) (bytes : List ℕ) → n ≡ 0 → counts_of n bytes ≡ 0
unfolding counts_of
no_count n bytes is = ap (λ m. counts_of m bytes) is
