-- The newest bytes of a key in tables behind one another.
use Rattle.std.proofs.Common.{◌≡◌, ℕ, List, [], ◌∷◌, ◌++◌, Option, Some, None, refl, sym, ap, ◌∙◌}
use Rattle.fd_entries.specs.declared.batch.Pair.{Pair}
use Rattle.fd_entries.specs.Batches.{newest, of_batch, or_older}
use Rattle.fd_layers.specs.Tables.{NearestFirst, laid}

or_none : {A : Type 0} (o : Option A) → or_older o None ≡ o
or_none None = refl
or_none (Some x) = refl

or_assoc : {A : Type 0} (a b c : Option A) → or_older (or_older a b) c ≡ or_older a (or_older b c)
or_assoc None b c = refl
or_assoc (Some x) b c = refl

pub newest_joined : (older later : List (List Pair)) (key : List ℕ) → newest (older ++ later) key ≡ or_older (newest later key) (newest older key)
newest_joined [] later key = sym (or_none (newest later key))
newest_joined (b ∷ bs) later key = ap (λ (o : Option (List ℕ)). or_older o (of_batch b key)) (newest_joined bs later key) ∙ or_assoc (newest later key) (newest bs key) (of_batch b key)

pub nearest_first : NearestFirst
nearest_first t ts key = newest_joined (laid ts) t key
