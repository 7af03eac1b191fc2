-- Records stand on the pages on which the format has them, and on no others.
use Rattle.std.proofs.Common.{◌≡◌, ◌⊎◌, inl, inr, ℕ, ◌+◌, ◌-◌, ◌<◌, ◌≤◌, Bool, true, false, leb, List, [], ◌∷◌, ◌++◌, length, refl, sym, ap, ◌∙◌, subst, arith, length-append, le-leb, leb-true, leb-false}
use Rattle.std.proofs.lemmas.Bool.{lt-leb}
use Rattle.fd_index.specs.Records.{Record, AllFit}
use Rattle.fd_index.specs.Pages.{ArePages, StandOnTheirPages, cut, joined, onto, pages_of, record_bytes, records_bytes, room_after, size}
use Rattle.fd_index.proofs.Paging.{cut_begins, cut_fits, length-record}

pub length_one_more : (r : Record) (rs : List Record) → length (records_bytes (r ∷ rs)) ≡ size r + length (records_bytes rs)
unfolding records_bytes
length_one_more r rs = omega (arith, length-append (record_bytes r) (records_bytes rs), length-record r)

length_none : length (records_bytes []) ≡ 0
unfolding records_bytes
length_none = refl

is_either : (b : Bool) → (b ≡ true) ⊎ (b ≡ false)
is_either true = inl refl
is_either false = inr refl

-- ---- What cutting makes

record Cut (room : ℕ) (rs : List Record) : Type 0 where
  first : List Record
  rest : List (List Record)
  is : cut room rs ≡ first ∷ rest
  fits : length (records_bytes first) ≤ room
  pages : ArePages (room - length (records_bytes first)) rest
  joins : first ++ joined rest ≡ rs

cut_none : (room : ℕ) → Cut room []
unfolding cut
cut_none room = record { first = []; rest = []; is = refl; fits = omega (arith, length_none); pages = tt; joins = refl }

adds : (room : ℕ) (r : Record) (rs : List Record) → size r ≤ room → Cut (room - size r) rs → Cut room (r ∷ rs)
adds room r rs le c =
    let len = length_one_more r c.first in
    record {
      first = r ∷ c.first;
      rest = c.rest;
      is = cut_fits room r rs (le-leb (size r) room le) ∙ ap (onto r) c.is;
      fits = omega (arith, len, c.fits, le);
      pages = subst (λ n. ArePages n c.rest) (let same : room - size r - length (records_bytes c.first) ≡ room - length (records_bytes (r ∷ c.first)) = omega (arith, len) in same) c.pages;
      joins = ap (λ xs. r ∷ xs) c.joins;
    }

begins : (room : ℕ) (r : Record) (rs : List Record) → room < size r → size r ≤ 4094 → Cut (4094 - size r) rs → Cut room (r ∷ rs)
begins room r rs lt le c =
    let len = length_one_more r c.first in
    record {
      first = [];
      rest = (r ∷ c.first) ∷ c.rest;
      is = cut_begins room r rs (lt-leb (size r) room lt) ∙ ap (λ q. [] ∷ onto r q) c.is;
      fits = omega (arith, length_none);
      pages = (
        (omega (arith, lt, length_none), omega (arith, len, c.fits, le)),
        subst (λ n. ArePages n c.rest) (let same : 4094 - size r - length (records_bytes c.first) ≡ room_after (r ∷ c.first) = omega (arith, len) in same) c.pages,
      );
      joins = ap (λ xs. r ∷ xs) c.joins;
    }

is_cut : (room : ℕ) (rs : List Record) → AllFit rs → Cut room rs
is_cut room [] fit = cut_none room
is_cut room (r ∷ rs) fit = elim (is_either (leb (size r) room)) [
  | inl le ↦ adds room r rs (leb-true (size r) room le) (is_cut (room - size r) rs fit.1)
  | inr lt ↦ begins room r rs (leb-false (size r) room lt) (let small = fit.0.key in omega (arith, small)) (is_cut (4094 - size r) rs fit.1)
]

pub made : (rs : List Record) → AllFit rs → ArePages 0 (pages_of rs) × (joined (pages_of rs) ≡ rs)
unfolding pages_of
made [] fit = (tt, refl)
made (r ∷ rs) fit =
    let small = fit.0.key in
    let le : size r ≤ 4094 = omega (arith, small) in
    let c = is_cut (4094 - size r) rs fit.1 in
    let len = length_one_more r c.first in
    let is : cut 4094 (r ∷ rs) ≡ (r ∷ c.first) ∷ c.rest = cut_fits 4094 r rs (le-leb (size r) 4094 le) ∙ ap (onto r) c.is in
    let good : ArePages 0 ((r ∷ c.first) ∷ c.rest) = (
      (omega arith, omega (arith, len, c.fits, le)),
      subst (λ n. ArePages n c.rest) (let same : 4094 - size r - length (records_bytes c.first) ≡ room_after (r ∷ c.first) = omega (arith, len) in same) c.pages,
    ) in
    (subst (ArePages 0) (sym is) good, ap joined is ∙ ap (λ xs. r ∷ xs) c.joins)

-- ---- Pages are what cutting makes

abbrev AreCut : List (List Record) → Type 0
AreCut ps = (room : ℕ) → ArePages room ps → cut room (joined ps) ≡ [] ∷ ps

-- a page in progress takes its records, and then the others begin theirs
goes_on : (ps : List (List Record)) → AreCut ps → (q : List Record) (room : ℕ) → length (records_bytes q) ≤ room → ArePages (room - length (records_bytes q)) ps → cut room (q ++ joined ps) ≡ q ∷ ps
goes_on ps others [] room le pages = others room (subst (λ n. ArePages n ps) (let same : room - length (records_bytes []) ≡ room = omega (arith, length_none) in same) pages)
goes_on ps others (r ∷ q) room le pages =
    let len = length_one_more r q in
    cut_fits room r (q ++ joined ps) (le-leb (size r) room (omega (arith, len, le)))
    ∙ ap (onto r) (goes_on ps others q (room - size r) (omega (arith, len, le)) (subst (λ n. ArePages n ps) (let same : room - length (records_bytes (r ∷ q)) ≡ room - size r - length (records_bytes q) = omega (arith, len) in same) pages))

nothing_cut : (room : ℕ) → cut room [] ≡ [] ∷ []
unfolding cut
nothing_cut room = refl

are_cut : (ps : List (List Record)) → AreCut ps
are_cut [] room pages = nothing_cut room
are_cut ([] ∷ ps) room pages = absurd pages.0
are_cut ((r ∷ p) ∷ ps) room pages =
    let len = length_one_more r p in
    let fits = pages.0.1 in
    cut_begins room r (p ++ joined ps) (lt-leb (size r) room pages.0.0)
    ∙ ap (λ q. [] ∷ onto r q) (goes_on ps (are_cut ps) p (4094 - size r) (omega (arith, len, fits)) (subst (λ n. ArePages n ps) (let same : room_after (r ∷ p) ≡ 4094 - size r - length (records_bytes p) = omega (arith, len) in same) pages.1))

pub only : (ps : List (List Record)) → ArePages 0 ps → pages_of (joined ps) ≡ ps
unfolding pages_of
only [] pages = refl
only ([] ∷ ps) pages = absurd pages.0
only ((r ∷ p) ∷ ps) pages = goes_on ps (are_cut ps) (r ∷ p) 4094 pages.0.1 pages.1

pub stand_on_their_pages : StandOnTheirPages
stand_on_their_pages rs fit ps = (
  λ is. subst (λ q. ArePages 0 q × (joined q ≡ rs)) (sym is) (made rs fit),
  λ pages. sym (only ps pages.0) ∙ ap pages_of pages.1,
)
