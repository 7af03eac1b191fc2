-- Pairs that are a stored key's, and that key.
use Rattle.std.proofs.Common.{◌≡◌, ◌∙◌, ℕ, Bool, true, false, true≢false, cond, List, length, Option, Some, None, is_some, refl, sym, ap, nat_le}
use Rattle.std.specs.Prelude.{drop, string_bytes}
use Rattle.fd_key.specs.Pairs as keys
use Rattle.fd_key.specs.Pairs.{key_text}
use Rattle.fd_spelling.specs.Numerals.{◌>>=◌}
use Rattle.fd_outcome.specs.Rows.{Stored, if_short, with_text}
use Rattle.fd_inventory.specs.declared.stored_key.StoredKey.{StoredKey}
use Rattle.fd_inventory.specs.Keys.{IsKey, IsStored, behind, ending, if_fits, whole, whole_behind}
use Rattle.fd_inventory.proofs.Keyed.{some_same}

-- pairs that are no stored key's
pub none_ends : (is : List keys.Pair) (index datum : List ℕ) → whole is datum ≡ None → ending is index datum ≡ None
unfolding whole ending
none_ends is index datum h = by (with_text is datum) h
  where
    own : List keys.Pair → Stored
    own us = record { index = index; datum = datum; datum_pairs = drop (length is) us; pairs = us }

    by_length : (us : List keys.Pair) (b : Bool) → cond b (Some us) None ≡ None → cond b (Some (own us)) None ≡ None
    by_length us true h = absurd (true≢false (ap is_some h))
    by_length us false h = refl

    by : (o : Option (List keys.Pair)) → (o >>= if_fits) ≡ None → (o >>= λ us. if_short index datum is us) ≡ None
    by None h = refl
    by (Some us) h = by_length us (nat_le (length (key_text us)) 255) h

-- pairs that are
pub ends : (is us : List keys.Pair) (index datum : List ℕ) → whole is datum ≡ Some us → IsKey (ending is index datum) index datum us
unfolding whole ending
ends is us index datum h = by (with_text is datum) h
  where
    own : List keys.Pair → Stored
    own vs = record { index = index; datum = datum; datum_pairs = drop (length is) vs; pairs = vs }

    by_length : (vs : List keys.Pair) (b : Bool) → cond b (Some vs) None ≡ Some us → IsKey (cond b (Some (own vs)) None) index datum us
    by_length vs true h = record { key = own vs; is = refl; index = refl; datum = refl; pairs = sym (some_same vs us h) }
    by_length vs false h = absurd (true≢false (sym (ap is_some h)))

    by : (o : Option (List keys.Pair)) → (o >>= if_fits) ≡ Some us → IsKey (o >>= λ vs. if_short index datum is vs) index datum us
    by None h = absurd (true≢false (sym (ap is_some h)))
    by (Some vs) h = by_length vs (nat_le (length (key_text vs)) 255) h

-- ---- the same where there may be no lead

pub none_behind : (o : Option (List keys.Pair)) (index datum : List ℕ) → whole_behind o datum ≡ None → behind o index datum ≡ None
none_behind None index datum h = refl
none_behind (Some is) index datum h = none_ends is index datum h

pub ends_behind : (o : Option (List keys.Pair)) (us : List keys.Pair) (index datum : List ℕ) → whole_behind o datum ≡ Some us → IsKey (behind o index datum) index datum us
ends_behind None us index datum h = absurd (true≢false (sym (ap is_some h)))
ends_behind (Some is) us index datum h = ends is us index datum h

-- ---- texts of its own

pub owned : (s : Option Stored) (k : StoredKey) (index datum : List ℕ) → IsKey s index datum k.key → string_bytes k.index ≡ index → string_bytes k.datum ≡ datum → IsStored s k
owned s k index datum is i d = record { key = is.key; is = is.is; index = i ∙ is.index; datum = d ∙ is.datum; pairs = is.pairs }

pub renamed : (s : Option Stored) (x y index datum : List ℕ) (ps : List keys.Pair) → IsKey s x y ps → index ≡ x → datum ≡ y → IsKey s index datum ps
renamed s x y index datum ps is i d = record { key = is.key; is = is.is; index = i ∙ is.index; datum = d ∙ is.datum; pairs = is.pairs }
