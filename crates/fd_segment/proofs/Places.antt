-- The bytes at the places of records.
use Rattle.std.proofs.Common.{◌≡◌, ◌⊎◌, inl, inr, ◌≤◌, ◌+◌, ◌*◌, ℕ, Bool, true, false, ◌&&◌, nat_le, if◌then◌else◌, List, [], ◌∷◌, ◌++◌, length, take, drop, bytes_eq, Option, Some, None, is_some, refl, sym, ap, ◌∙◌, subst, arith, append_assoc, length-append}
use Rattle.std.proofs.lemmas.Bool.Decides.{nat_tests}
use Rattle.std.proofs.lemmas.List.{take_at, drop_at, drop-drop, append-nil}
use Rattle.sha2.specs.Sha256.{sha256}
use Rattle.sha2.proofs.Facts256.{length-sha256}
use Rattle.fd_entries.specs.declared.batch.Pair.{Pair}
use Rattle.fd_entries.specs.Batches.{of_batch, or_older, same_bytes, total}
use Rattle.fd_index.specs.Records.{Record, StandsFor, keys, place_of}
use Rattle.fd_segment.specs.Held.{Alike, are_digested, end_by, is_digested, pairs_of}
use Rattle.fd_segment.specs.Filling.{fields_of, places_from, stored}
use Rattle.fd_segment.specs.Copying.{bytes_at}
use Rattle.fd_segment.proofs.Differing.{Differ, IsIn}
use Rattle.fd_segment.proofs.Keys.{eq_is, eq_refl, last_place, newest_last, one, place_in, rising_differ, same_as_eq, true_or_false}

-- ---- The pairs of records

bytes_older : (f : List ℕ) (x y : Option (ℕ × ℕ)) → bytes_at f (or_older x y) ≡ or_older (bytes_at f x) (bytes_at f y)
bytes_older f None y = refl
bytes_older f (Some p) y = refl

bytes_one : (f : List ℕ) (r : Record) (b : Bool) → bytes_at f (if b then Some (r.at, r.len) else None) ≡ (if b then Some (take r.len (drop r.at f)) else None)
bytes_one f r true = refl
bytes_one f r false = refl

-- the bytes of a key are those of its last record
pub pairs_last : (f key : List ℕ) (rs : List Record) → of_batch (pairs_of f rs) key ≡ bytes_at f (last_place key rs)
pairs_last f key [] = refl
pairs_last f key (r ∷ rs) =
    ap (λ (o : Option (List ℕ)). or_older o (if same_bytes r.key key then Some (take r.len (drop r.at f)) else None)) (pairs_last f key rs)
    ∙ ap (λ (b : Bool). or_older (bytes_at f (last_place key rs)) (if b then Some (take r.len (drop r.at f)) else None)) (same_as_eq r.key key)
    ∙ sym (bytes_older f (last_place key rs) (one key r) ∙ ap (λ (o : Option (List ℕ)). or_older (bytes_at f (last_place key rs)) o) (bytes_one f r (bytes_eq key r.key)))

-- ---- Records whose keys differ

none_last : (key : List ℕ) (rs : List Record) → (IsIn (keys rs) key → ⊥) → last_place key rs ≡ None
none_last key [] out = refl
none_last key (r ∷ rs) out = go (true_or_false (bytes_eq key r.key)) (none_last key rs (λ p. out (inr p)))
  where
    go : (bytes_eq key r.key ≡ true) ⊎ (bytes_eq key r.key ≡ false) → last_place key rs ≡ None → last_place key (r ∷ rs) ≡ None
    go (inl e) rest = absurd (out (inl (sym (eq_is key r.key e))))
    go (inr e) rest = ap (λ (o : Option (ℕ × ℕ)). or_older o (one key r)) rest ∙ ap (λ (b : Bool). if b then Some (r.at, r.len) else None) e

-- the first record with a key is the last
pub first_last : (key : List ℕ) (rs : List Record) → Differ (keys rs) → place_of key rs ≡ last_place key rs
first_last key [] d = refl
first_last key (r ∷ rs) d = go (true_or_false (bytes_eq key r.key)) (first_last key rs d.1)
  where
    older : (x : Option (ℕ × ℕ)) → or_older x None ≡ x
    older None = refl
    older (Some p) = refl

    go : (bytes_eq key r.key ≡ true) ⊎ (bytes_eq key r.key ≡ false) → place_of key rs ≡ last_place key rs → place_of key (r ∷ rs) ≡ last_place key (r ∷ rs)
    go (inl e) rest =
        let out : IsIn (keys rs) key → ⊥ = λ p. d.0 (subst (IsIn (keys rs)) (eq_is key r.key e) p) in
        ap (λ (b : Bool). if b then Some (r.at, r.len) else place_of key rs) e
        ∙ sym (ap (λ (o : Option (ℕ × ℕ)). or_older o (one key r)) (none_last key rs out) ∙ ap (λ (b : Bool). if b then Some (r.at, r.len) else None) e)
    go (inr e) rest =
        ap (λ (b : Bool). if b then Some (r.at, r.len) else place_of key rs) e ∙ rest
        ∙ sym (ap (λ (b : Bool). or_older (last_place key rs) (if b then Some (r.at, r.len) else None)) e ∙ older (last_place key rs))

-- what is found behind a record is found with it
skip : (r : Record) (rs : List Record) → (IsIn (keys rs) r.key → ⊥) → (key : List ℕ) (p : ℕ × ℕ) → place_of key rs ≡ Some p → place_of key (r ∷ rs) ≡ Some p
skip r rs out key p e = go (true_or_false (bytes_eq key r.key))
  where
    go : (bytes_eq key r.key ≡ true) ⊎ (bytes_eq key r.key ≡ false) → place_of key (r ∷ rs) ≡ Some p
    go (inl t) = absurd (out (subst (IsIn (keys rs)) (eq_is key r.key t) (place_in key rs (ap is_some e))))
    go (inr t) = ap (λ (b : Bool). if b then Some (r.at, r.len) else place_of key rs) t ∙ e

-- none ends beyond n, where none that is found does
pub all_end : (more n : ℕ) (rs : List Record) → Differ (keys rs) → ((key : List ℕ) (p : ℕ × ℕ) → place_of key rs ≡ Some p → p.0 + p.1 + more ≤ n) → end_by more n rs ≡ true
all_end more n [] d within = refl
all_end more n (r ∷ rs) d within =
    let here : r.at + r.len + more ≤ n = within r.key (r.at, r.len) (ap (λ (b : Bool). if b then Some (r.at, r.len) else place_of r.key rs) (eq_refl r.key)) in
    let test : nat_le (r.at + r.len + more) n ≡ true = grind (arith, nat_tests, here) in
    ap (λ (b : Bool). b && end_by more n rs) test ∙ all_end more n rs d.1 (λ key p e. within key p (skip r rs d.0 key p e))

-- behind the bytes of each stands their digest, where it does behind those of each that is found
pub all_digested : (f : List ℕ) (rs : List Record) → Differ (keys rs) → ((key : List ℕ) (p : ℕ × ℕ) → place_of key rs ≡ Some p → is_digested f p.0 p.1 ≡ true) → are_digested f rs ≡ true
all_digested f [] d has = refl
all_digested f (r ∷ rs) d has =
    let here : is_digested f r.at r.len ≡ true = has r.key (r.at, r.len) (ap (λ (b : Bool). if b then Some (r.at, r.len) else place_of r.key rs) (eq_refl r.key)) in
    ap (λ (b : Bool). b && are_digested f rs) here ∙ all_digested f rs d.1 (λ key p e. has key p (skip r rs d.0 key p e))

-- ---- The puts of a batch

pub chunk_length : (p : Pair) → length (p.bytes ++ sha256 p.bytes) ≡ length p.bytes + 32
chunk_length p = omega (arith, length-append p.bytes (sha256 p.bytes), length-sha256 p.bytes)

pub fields_length : (b : List Pair) → length (fields_of b) ≡ stored b
fields_length [] = refl
fields_length (x ∷ b) = let ih = fields_length b in omega (arith, length-append (x.bytes ++ sha256 x.bytes) (fields_of b), chunk_length x, ih)

-- the bytes of all pairs, and 32 for each digest
pub stored_is : (b : List Pair) → stored b ≡ total b + 32 * length b
stored_is [] = refl
stored_is (p ∷ ps) = let rest = stored_is ps in omega (arith, rest)

-- what stands at the first place behind what was written before
record Chunk (f : List ℕ) (at : ℕ) (p : Pair) : Type 0 where
  bytes : take (length p.bytes) (drop at f) ≡ p.bytes
  digest : take 32 (drop (at + length p.bytes) f) ≡ sha256 p.bytes

chunk_at : (f pre rest : List ℕ) (at : ℕ) (p : Pair) → length pre ≡ at → f ≡ pre ++ ((p.bytes ++ sha256 p.bytes) ++ rest) → Chunk f at p
chunk_at f pre rest at p long is =
    let inner : (p.bytes ++ sha256 p.bytes) ++ rest ≡ p.bytes ++ (sha256 p.bytes ++ rest) = append_assoc p.bytes (sha256 p.bytes) rest in
    let here : drop at f ≡ p.bytes ++ (sha256 p.bytes ++ rest) = ap (drop at) is ∙ drop_at pre ((p.bytes ++ sha256 p.bytes) ++ rest) at long ∙ inner in
    let behind : drop (at + length p.bytes) f ≡ sha256 p.bytes ++ rest =
    sym (drop-drop (length p.bytes) at f) ∙ ap (drop (length p.bytes)) here ∙ drop_at p.bytes (sha256 p.bytes ++ rest) (length p.bytes) refl in
    record {
      bytes = ap (take (length p.bytes)) here ∙ take_at p.bytes (sha256 p.bytes ++ rest) (length p.bytes) refl;
      digest = ap (take 32) behind ∙ take_at (sha256 p.bytes) rest 32 (length-sha256 p.bytes);
    }

-- read back from where they were written, they are the batch
pub read_back : (f pre post : List ℕ) (at : ℕ) (b : List Pair) → length pre ≡ at → f ≡ pre ++ (fields_of b ++ post) → pairs_of f (places_from at b) ≡ b
read_back f pre post at [] long is = refl
read_back f pre post at (p ∷ ps) long is =
    let chunk = p.bytes ++ sha256 p.bytes in
    let rest = fields_of ps ++ post in
    let whole : f ≡ pre ++ (chunk ++ rest) = is ∙ ap (λ (l : List ℕ). pre ++ l) (append_assoc chunk (fields_of ps) post) in
    let here = chunk_at f pre rest at p long whole in
    let others : pairs_of f (places_from (at + (length p.bytes + 32)) ps) ≡ ps =
    read_back f (pre ++ chunk) post (at + (length p.bytes + 32)) ps (omega (arith, length-append pre chunk, chunk_length p, long)) (whole ∙ sym (append_assoc pre chunk rest)) in
    λ j. record { key = p.key; bytes = here.bytes j } ∷ others j

last_within : (at : ℕ) (b : List Pair) (key : List ℕ) (p : ℕ × ℕ) → last_place key (places_from at b) ≡ Some p → p.0 + p.1 + 32 ≤ at + stored b
last_within at [] key p e = absurd (cc e)
last_within at (x ∷ ps) key p e = go (last_place key (places_from (at + (length x.bytes + 32)) ps)) (bytes_eq key x.key) e (last_within (at + (length x.bytes + 32)) ps key)
  where
    go : (o : Option (ℕ × ℕ)) (t : Bool) → or_older o (if t then Some (at, length x.bytes) else None) ≡ Some p → ((q : ℕ × ℕ) → o ≡ Some q → q.0 + q.1 + 32 ≤ at + (length x.bytes + 32) + stored ps) → p.0 + p.1 + 32 ≤ at + ((length x.bytes + 32) + stored ps)
    go (Some q) t e ih = let le = ih p e in omega (arith, le)
    go None true e ih = let same : (at, length x.bytes) ≡ p = cc e in omega (arith, ap (λ (q : ℕ × ℕ). q.0) same, ap (λ (q : ℕ × ℕ). q.1) same)
    go None false e ih = absurd (cc e)

last_digested : (f pre post : List ℕ) (at : ℕ) (b : List Pair) (key : List ℕ) (p : ℕ × ℕ) → length pre ≡ at → f ≡ pre ++ (fields_of b ++ post) → last_place key (places_from at b) ≡ Some p → is_digested f p.0 p.1 ≡ true
last_digested f pre post at [] key p long is e = absurd (cc e)
last_digested f pre post at (x ∷ ps) key p long is e =
    let chunk = x.bytes ++ sha256 x.bytes in
    let rest = fields_of ps ++ post in
    let whole : f ≡ pre ++ (chunk ++ rest) = is ∙ ap (λ (l : List ℕ). pre ++ l) (append_assoc chunk (fields_of ps) post) in
    let here = chunk_at f pre rest at x long whole in
    let stands : is_digested f at (length x.bytes) ≡ true = ap (λ (l : List ℕ). bytes_eq (take 32 (drop (at + length x.bytes) f)) (sha256 l)) here.bytes ∙ ap (λ (l : List ℕ). bytes_eq l (sha256 x.bytes)) here.digest ∙ eq_refl (sha256 x.bytes) in
    go (last_place key (places_from (at + (length x.bytes + 32)) ps)) (bytes_eq key x.key) stands e
    (λ q. last_digested f (pre ++ chunk) post (at + (length x.bytes + 32)) ps key q (omega (arith, length-append pre chunk, chunk_length x, long)) (whole ∙ sym (append_assoc pre chunk rest)))
  where
    go : (o : Option (ℕ × ℕ)) (t : Bool) → is_digested f at (length x.bytes) ≡ true → or_older o (if t then Some (at, length x.bytes) else None) ≡ Some p → ((q : ℕ × ℕ) → o ≡ Some q → is_digested f q.0 q.1 ≡ true) → is_digested f p.0 p.1 ≡ true
    go (Some q) t stands e ih = ih p e
    go None true stands e ih = let same : (at, length x.bytes) ≡ p = cc e in subst (λ (q : ℕ × ℕ). is_digested f q.0 q.1 ≡ true) same stands
    go None false stands e ih = absurd (cc e)

module _ (b : List Pair) (rs : List Record) (stands : StandsFor (places_from 0 b) rs) where
  found_last : (key : List ℕ) (p : ℕ × ℕ) → place_of key rs ≡ Some p → last_place key (places_from 0 b) ≡ Some p
  found_last key p e = sym (stands.newest key ∙ newest_last key (places_from 0 b)) ∙ e

  -- the records that stand for the puts of a batch end within its bytes, with their digests
  pub records_end : end_by 32 (stored b) rs ≡ true
  records_end = all_end 32 (stored b) rs (rising_differ rs stands.rising) (λ key p e. let le = last_within 0 b key p (found_last key p e) in omega (arith, le))

  -- these stand behind them
  pub records_digested : are_digested (fields_of b) rs ≡ true
  records_digested = all_digested (fields_of b) rs (rising_differ rs stands.rising) (λ key p e. last_digested (fields_of b) [] [] 0 b key p refl (sym (append-nil (fields_of b))) (found_last key p e))

  -- and they say of each key what the batch does
  pub records_alike : Alike b (pairs_of (fields_of b) rs)
  records_alike = λ key.
      ap (λ (c : List Pair). of_batch c key) (sym (read_back (fields_of b) [] [] 0 b refl (sym (append-nil (fields_of b)))))
      ∙ pairs_last (fields_of b) key (places_from 0 b)
      ∙ ap (bytes_at (fields_of b)) (sym (newest_last key (places_from 0 b)) ∙ sym (stands.newest key) ∙ first_last key rs (rising_differ rs stands.rising))
      ∙ sym (pairs_last (fields_of b) key rs)
