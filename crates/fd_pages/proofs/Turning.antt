-- Two look-ups of one key in one file have one answer.
use Rattle.std.proofs.Common.{◌≡◌, ℕ, ◌+◌, ◌<◌, ◌≤◌, Bool, true, false, true≢false, List, [], ◌∷◌, Option, Some, None, Result, Ok, Err, refl, sym, ap, ◌∙◌, subst, arith}
use Rattle.fd_index.specs.Records.{Record, place_of}
use Rattle.fd_pages.specs.Parts.{IsBehind, IsHalved, IsInFront, IsOn, Turns, is_before, middle, page_in}

abbrev records_of : Result (List Record) ℕ → List Record
records_of (Ok rs) = rs
records_of (Err at) = []

-- a page reads as one list of records
one_page : (b : List ℕ) (n : ℕ) (rs ss : List Record) → page_in b n ≡ Ok rs → page_in b n ≡ Ok ss → rs ≡ ss
one_page b n rs ss h k = sym (ap records_of h) ∙ ap records_of k

-- the key comes before a page, or it doesn't
behind_or_not : (b key : List ℕ) (n : ℕ) (rs : List Record) → IsBehind b n key → page_in b n ≡ Ok rs → is_before rs key ≡ false → ⊥
behind_or_not b key n rs behind is not = true≢false (sym behind.2 ∙ ap (λ (page : List Record). is_before page key) (one_page b n behind.0 rs behind.1 is) ∙ not)

not_both_sides : (b key : List ℕ) (n : ℕ) → IsBehind b n key → IsInFront b n key → ⊥
not_both_sides b key n behind front = behind_or_not b key n front.0 behind front.1 front.2

not_on_behind : (b key : List ℕ) (n : ℕ) (place : ℕ × ℕ) → IsOn b n key place → IsBehind b n key → ⊥
not_on_behind b key n place on behind = behind_or_not b key n on.0 behind on.1 on.2

not_on_front : (b key : List ℕ) (n : ℕ) (place : ℕ × ℕ) → IsOn b n key place → IsInFront b n key → ⊥
not_on_front b key n place on front =
    let there : None ≡ Some place = sym front.3 ∙ ap (place_of key) (one_page b n front.0 on.0 front.1 on.1) ∙ on.3 in
    cc there

on_once : (b key : List ℕ) (n : ℕ) (p q : ℕ × ℕ) → IsOn b n key p → IsOn b n key q → Some p ≡ Some q
on_once b key n p q on other = sym on.3 ∙ ap (place_of key) (one_page b n on.0 other.0 on.1 other.1) ∙ other.3

turned_once : (b key : List ℕ) (low high : ℕ) (ts us : List Bool) (p q : Option (ℕ × ℕ)) → Turns b key low high ts p → Turns b key low high us q → p ≡ q
turned_once b key low high [] [] None None t u = refl
turned_once b key low high [] [] None (Some q) t u = absurd (let lt = u.0 in omega (arith, t, lt))
turned_once b key low high [] [] (Some p) None t u = absurd (let lt = t.0 in omega (arith, u, lt))
turned_once b key low high [] [] (Some p) (Some q) t u = on_once b key (middle low high) p q t.1 u.1
turned_once b key low high [] (true ∷ us) None q t u = absurd (let lt = u.0 in omega (arith, t, lt))
turned_once b key low high [] (true ∷ us) (Some p) q t u = absurd (not_on_behind b key (middle low high) p t.1 u.1.0)
turned_once b key low high [] (false ∷ us) None q t u = absurd (let lt = u.0 in omega (arith, t, lt))
turned_once b key low high [] (false ∷ us) (Some p) q t u = absurd (not_on_front b key (middle low high) p t.1 u.1.0)
turned_once b key low high (true ∷ ts) [] p None t u = absurd (let lt = t.0 in omega (arith, u, lt))
turned_once b key low high (true ∷ ts) [] p (Some q) t u = absurd (not_on_behind b key (middle low high) q u.1 t.1.0)
turned_once b key low high (true ∷ ts) (true ∷ us) p q t u = turned_once b key low (middle low high) ts us p q t.1.1 u.1.1
turned_once b key low high (true ∷ ts) (false ∷ us) p q t u = absurd (not_both_sides b key (middle low high) t.1.0 u.1.0)
turned_once b key low high (false ∷ ts) [] p None t u = absurd (let lt = t.0 in omega (arith, u, lt))
turned_once b key low high (false ∷ ts) [] p (Some q) t u = absurd (not_on_front b key (middle low high) q u.1 t.1.0)
turned_once b key low high (false ∷ ts) (true ∷ us) p q t u = absurd (not_both_sides b key (middle low high) u.1.0 t.1.0)
turned_once b key low high (false ∷ ts) (false ∷ us) p q t u = turned_once b key (middle low high + 1) high ts us p q t.1.1 u.1.1

-- what halving comes to is one
pub halved_once : (b key : List ℕ) (low high : ℕ) (p q : Option (ℕ × ℕ)) → IsHalved b key low high p → IsHalved b key low high q → p ≡ q
halved_once b key low high p q t u = turned_once b key low high t.0 u.0 p q t.1 u.1
