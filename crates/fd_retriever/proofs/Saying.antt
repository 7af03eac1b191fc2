-- What the indexes of segments say of a key.
use Rattle.std.proofs.Common.{◌≡◌, ◌<◌, ◌≤◌, ◌-◌, ℕ, List, length, ◌⊎◌, inl, inr, ◌∙◌, subst, arith}
use Rattle.std.proofs.lemmas.Option.{slice_get_within}
use Rattle.fd_segment.specs.Held.{Standing}
use Rattle.fd_retriever.specs.declared.fault.Got.TheVariants.{Found, Miss}
use Rattle.fd_retriever.specs.Kept.{IsNumbered}
use Rattle.fd_retriever.specs.Answers.{AllSay, LackBehind, Says}
use Rattle.fd_retriever.proofs.Keeping.{numbered_same}

-- there is none behind the last
pub lack_at_end : (ss : List Standing) (key : List ℕ) (n : ℕ) → length ss ≤ n → LackBehind ss key n
lack_at_end ss key n long = λ m s past at. absurd (let lt = slice_get_within ss (m - 1) s at.1 in omega (arith, lt, past, long, at.0))

-- one more segment doesn't have the key
pub lack_more : (ss : List Standing) (key same : List ℕ) (n next : ℕ) (s : Standing) → key ≡ same → next ≡ n - 1 → IsNumbered ss n s → Says s.files key Miss → LackBehind ss same n → LackBehind ss same next
lack_more ss key same n next s is less at says behind = λ m t past there. go m t there (up m past)
  where
    up : (m : ℕ) → next < m → (m ≡ n) ⊎ (n < m)
    up m past = grind (arith, less, past)

    go : (m : ℕ) (t : Standing) → IsNumbered ss m t → (m ≡ n) ⊎ (n < m) → Says t.files same Miss
    go m t there (inl e) =
        let own : s ≡ t = numbered_same ss n s t at (subst (λ (k : ℕ). IsNumbered ss k t) e there) in
        subst (λ (k : List ℕ). Says t.files k Miss) is (subst (λ (u : Standing). Says u.files key Miss) own says)
    go m t there (inr lt) = behind m t lt there

pub all_found : (ss : List Standing) (n : ℕ) (s : Standing) (key same whole : List ℕ) (len : ℕ) → key ≡ same → same ≡ whole → IsNumbered ss n s → Says s.files key (Found len) → LackBehind ss same n → AllSay ss whole (Found len)
all_found ss n s key same whole len is for at says behind =
    (n, s, at, subst (λ (k : List ℕ). Says s.files k (Found len)) (is ∙ for) says, subst (λ (k : List ℕ). LackBehind ss k n) for behind)
