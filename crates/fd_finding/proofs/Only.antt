-- What the indexes say of a key names one spot at most.
use Rattle.std.proofs.Common.{◌≡◌, ◌≤◌, ◌<◌, ◌+◌, ◌-◌, ◌⊎◌, inl, inr, ℕ, List, [], ◌∷◌, Option, None, Some, refl, ap, subst, arith}
use Rattle.std.specs.Prelude.{IsSome}
use Rattle.std.specs.List.{AllZip}
use Rattle.std.proofs.lemmas.Option.{same_Some}
use Rattle.fd_pages.specs.Parts.{IsSeen, pages_by}
use Rattle.fd_pages.proofs.Turning.{halved_once}
use Rattle.fd_segment.specs.Held.{Files, Standing}
use Rattle.fd_retriever.specs.declared.fault.Got.TheVariants.{Miss}
use Rattle.fd_retriever.specs.Kept.{IsNumbered}
use Rattle.fd_retriever.specs.Answers.{IsSaid, LackBehind, Says}
use Rattle.fd_retriever.proofs.Keeping.{numbered_same}
use Rattle.fd_retriever.specs.declared.spot.Spot.{Spot}
use Rattle.fd_finding.specs.Spots.{AllSayOf, AllTold, AreTheOnly, IsShown, SaysAt}

-- an index that is told says one thing of a key
said_once : (f : Files) (key : List ℕ) (p q : Option (ℕ × ℕ)) → IsSome f.index → IsSaid f key p → IsSaid f key q → p ≡ q
said_once f key p q told says other = go f.index told says.0 other.0
  where
    go : (index : Option (List ℕ)) → IsSome index → IsSeen index f.entry.index_len key p → IsSeen index f.entry.index_len key q → p ≡ q
    go (Some b) some s t = halved_once b key 0 (pages_by f.entry.index_len) p q s.1 t.1
    go None some s t = absurd (cc some)

-- it doesn't say both where the key is and that it isn't there
not_both : (f : Files) (key : List ℕ) (at len : ℕ) → IsSome f.index → SaysAt f key at len → Says f key Miss → ⊥
not_both f key at len told says misses =
    let there : None ≡ Some (at, len) = said_once f key None (Some (at, len)) told misses says in
    cc there

-- and not two places
same_place : (f : Files) (key : List ℕ) (at len other long : ℕ) → IsSome f.index → SaysAt f key at len → SaysAt f key other long → (at ≡ other) × (len ≡ long)
same_place f key at len other long told says says' =
    let there : Some (at, len) ≡ Some (other, long) = said_once f key (Some (at, len)) (Some (other, long)) told says says' in
    let pair = same_Some (at, len) (other, long) there in
    (ap (λ (p : ℕ × ℕ). p.0) pair, ap (λ (p : ℕ × ℕ). p.1) pair)

three_ways : (m n : ℕ) → (m < n) ⊎ ((m ≡ n) ⊎ (n < m))
three_ways m n = grind arith

-- no later segment has the key
none_later : (ss : List Standing) (key : List ℕ) (p q : Spot) → AllTold ss → IsShown ss key p → IsShown ss key q → p.number < q.number → ⊥
none_later ss key p q told f g lt = not_both g.segment.files key q.at q.len (told q.number g.segment g.numbered) g.says (f.behind q.number g.segment lt g.numbered)

one_spot : (ss : List Standing) (key : List ℕ) (p q : Spot) → AllTold ss → IsShown ss key p → IsShown ss key q → p ≡ q
one_spot ss key p q told f g = go (three_ways p.number q.number)
  where
    go : (p.number < q.number) ⊎ ((p.number ≡ q.number) ⊎ (q.number < p.number)) → p ≡ q
    go (inl lt) = absurd (none_later ss key p q told f g lt)
    go (inr (inr lt)) = absurd (none_later ss key q p told g f lt)
    go (inr (inl same)) =
        let own : f.segment ≡ g.segment = numbered_same ss q.number f.segment g.segment (subst (λ (n : ℕ). IsNumbered ss n f.segment) same f.numbered) g.numbered in
        let says = subst (λ (s : Standing). SaysAt s.files key p.at p.len) own f.says in
        let place = same_place g.segment.files key p.at p.len q.at q.len (told q.number g.segment g.numbered) says g.says in
        λ i. record { number = same i; at = place.0 i; len = place.1 i }

one_answer : (ss : List Standing) (key : List ℕ) (o r : Option Spot) → AllTold ss → AllSayOf ss key o → AllSayOf ss key r → o ≡ r
one_answer ss key None None told f g = refl
one_answer ss key None (Some q) told f g = absurd (not_both g.segment.files key q.at q.len (told q.number g.segment g.numbered) g.says (f q.number g.segment (let from = g.numbered.0 in omega arith) g.numbered))
one_answer ss key (Some p) None told f g = absurd (not_both f.segment.files key p.at p.len (told p.number f.segment f.numbered) f.says (g p.number f.segment (let from = f.numbered.0 in omega arith) f.numbered))
one_answer ss key (Some p) (Some q) told f g = ap (λ (s : Spot). Some s) (one_spot ss key p q told f g)

pub the_only : (ss : List Standing) (keys : List (List ℕ)) (spots : List (Option Spot)) → AllZip (AllSayOf ss) keys spots → AreTheOnly ss keys spots
the_only ss keys spots says told others said = go keys spots others says said
  where
    go : (ks : List (List ℕ)) (xs ys : List (Option Spot)) → AllZip (AllSayOf ss) ks xs → AllZip (AllSayOf ss) ks ys → xs ≡ ys
    go [] [] [] h k = refl
    go [] [] (y ∷ ys) h k = absurd k
    go [] (x ∷ xs) ys h k = absurd h
    go (key ∷ ks) [] ys h k = absurd h
    go (key ∷ ks) (x ∷ xs) [] h k = absurd k
    go (key ∷ ks) (x ∷ xs) (y ∷ ys) h k = λ i. one_answer ss key x y told h.0 k.0 i ∷ go ks xs ys h.1 k.1 i
