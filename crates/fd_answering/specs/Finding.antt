-- What a fetch answers, and how far a request is answered.
use Rattle.std.specs.Prelude.{◌≡◌, ℕ, Bool, true, false, is_some, List, [], ◌∷◌, take, Option}
use Rattle.fd_io.specs.Streams.{Takes, TakesFront}
use Rattle.fd_key.specs.Pairs as keys
use Rattle.fd_schema.specs.Rules.{Texts}
use Rattle.fd_segment.specs.declared.fault.Damage.{Damage}
use Rattle.fd_answering.specs.declared.answering.Halt.{Halt}
use Rattle.fd_answering.specs.declared.answering.Halt.TheVariants as halts
use Rattle.fd_outcome.specs.Asking.{Asked, Answer, bytes_or_none, miss_line, found_bytes, miss_lines, count_found, count_missed}

module _ {F X : Type 0} where
  -- a write of the output failed, or one of the report
  abbrev pub OnUnwritten : Halt F X → Type 0 → Type 0 → Type 0
  OnUnwritten (halts.Disk f) P Q = Unit {0}
  OnUnwritten (halts.Unwritten x) P Q = P
  OnUnwritten (halts.Untold x) P Q = Q
  OnUnwritten (halts.Damaged n d) P Q = Unit {0}
  OnUnwritten halts.NoMemory P Q = Unit {0}

  -- what holds of the number of the dataset that is damaged, and of the damage
  abbrev pub OnDamaged : Halt F X → (ℕ → Damage → Type 0) → Type 0
  OnDamaged (halts.Disk f) P = Unit {0}
  OnDamaged (halts.Unwritten x) P = Unit {0}
  OnDamaged (halts.Untold x) P = Unit {0}
  OnDamaged (halts.Damaged n d) P = P n d
  OnDamaged halts.NoMemory P = Unit {0}

-- some bytes were taken, where told
abbrev pub TookSome : Option (List ℕ) → Option (List ℕ) → Type 0
TookSome c d = (more : List ℕ) × Takes c d more

-- what is found for a key was written, or a line tells that it isn't there; which of the two is answered
pub record IsOne (bytes : Option (List ℕ)) (key : List keys.Pair) (is_found : Bool) (a b c d : Option (List ℕ)) : Type 0 where
  pub output : Takes a b (bytes_or_none bytes)
  pub report : Takes c d (miss_line key bytes)
  pub found_is : is_found ≡ is_some bytes

-- fronts of the two were taken
pub record IsOneInPart (bytes : Option (List ℕ)) (key : List keys.Pair) (a b c d : Option (List ℕ)) : Type 0 where
  pub output : TakesFront a b (bytes_or_none bytes)
  pub report : TakesFront c d (miss_line key bytes)

abbrev pub one_if : Bool → ℕ
one_if true = 1
one_if false = 0

-- the keys with their places
abbrev pub asked_of_all : List (List keys.Pair) → List Texts → List Asked
asked_of_all [] places = []
asked_of_all (k ∷ ks) [] = []
asked_of_all (k ∷ ks) (p ∷ ps) = record { key = k; place = p } ∷ asked_of_all ks ps

-- The first answers, as many as the number: what they found was written, a line was told for each miss, and both were counted.
pub record IsAnswered (xs : List Answer) (n : ℕ) (a b c d : Option (List ℕ)) (found missed : ℕ) : Type 0 where
  pub output : Takes a b (found_bytes (take n xs))
  pub report : Takes c d (miss_lines (take n xs))
  pub found_is : found ≡ count_found (take n xs)
  pub missed_is : missed ≡ count_missed (take n xs)

-- fronts of all that is found and told were taken
pub record IsAnsweredInPart (xs : List Answer) (a b c d : Option (List ℕ)) : Type 0 where
  pub output : TakesFront a b (found_bytes xs)
  pub report : TakesFront c d (miss_lines xs)
