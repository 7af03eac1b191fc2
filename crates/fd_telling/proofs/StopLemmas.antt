-- Causes that aren't told yet: counts that rose, and what they say of what is asked.
use Rattle.std.proofs.Common.{◌≡◌, ◌≤◌, ℕ, List, arith}
use Rattle.std.specs.Prelude.{Result, Err}
use Rattle.fd_bytes.specs.Causes.{Rose}
use Rattle.fd_disk.specs.Folders.{Holdings}
use Rattle.fd_request.specs.Expansion.{Keyword}
use Rattle.fd_stored.specs.Causes as causes
use Rattle.fd_stored.specs.Causes.{Cause}
use Rattle.fd_telling.specs.declared.stop.Stop.{Stop}
use Rattle.fd_telling.specs.declared.stop.Stop.TheVariants as stops
use Rattle.fd_telling.specs.Stops.{IsOfPlaces, IsOfRequest, NotRefused, OnDisk, OnRequest, OnTooMany, Says}

pub rose_later : (m k n : ℕ) → m ≤ k → Rose k n → Rose m n
rose_later m k n le rose = λ lt. let later = rose lt in omega (arith, le, later)

module _ {F : Type 0} where
  pub later_disk : (stop : Stop F) (m k n : ℕ) → m ≤ k → OnDisk stop (Rose k n) → OnDisk stop (Rose m n)
  later_disk (stops.Disk f) m k n le on = rose_later m k n le on
  later_disk stops.Input m k n le on = tt
  later_disk stops.Missing m k n le on = tt
  later_disk (stops.Schema line kind) m k n le on = tt
  later_disk (stops.Request at kind) m k n le on = tt
  later_disk (stops.NoRule text) m k n le on = tt
  later_disk (stops.NoLayer layer text) m k n le on = tt
  later_disk stops.TooMany m k n le on = tt
  later_disk (stops.Broken dataset broken) m k n le on = tt
  later_disk stops.NoMemory m k n le on = tt

  pub on_many : (stop : Stop F) (P Q : Type 0) → (P → Q) → OnTooMany stop P → OnTooMany stop Q
  on_many (stops.Disk f) P Q to p = tt
  on_many stops.Input P Q to p = tt
  on_many stops.Missing P Q to p = tt
  on_many (stops.Schema line kind) P Q to p = tt
  on_many (stops.Request at kind) P Q to p = tt
  on_many (stops.NoRule text) P Q to p = tt
  on_many (stops.NoLayer layer text) P Q to p = tt
  on_many stops.TooMany P Q to p = to p
  on_many (stops.Broken dataset broken) P Q to p = tt
  on_many stops.NoMemory P Q to p = tt

  -- what is said of the request is said of all that is asked
  pub says_of : (stop : Stop F) (h : Holdings) (P Q : Cause → Type 0) (A : List ℕ → Type 0) → ((cause : Cause) → P cause → Q cause) → IsOfRequest stop P → Says stop h Q A
  says_of (stops.Disk f) h P Q A to s = tt
  says_of stops.Input h P Q A to s = tt
  says_of stops.Missing h P Q A to s = to _ s
  says_of (stops.Schema line kind) h P Q A to s = (s.0, s.1, to _ s.2, s.3)
  says_of (stops.Request at kind) h P Q A to s = to _ s
  says_of (stops.NoRule text) h P Q A to s = (s.0, to _ s.1, s.2)
  says_of (stops.NoLayer layer text) h P Q A to s = (s.0, to _ s.1, s.2)
  says_of stops.TooMany h P Q A to s = absurd s
  says_of (stops.Broken dataset broken) h P Q A to s = absurd s
  says_of stops.NoMemory h P Q A to s = tt

  -- the input is no request
  pub request_stop : (stop : Stop F) (r : Result (List Keyword) Cause) (P : Cause → Type 0) → ((cause : Cause) → r ≡ Err cause → P cause) → OnRequest stop r → IsOfRequest stop P
  request_stop (stops.Disk f) r P to on = absurd on
  request_stop stops.Input r P to on = tt
  request_stop stops.Missing r P to on = absurd on
  request_stop (stops.Schema line kind) r P to on = absurd on
  request_stop (stops.Request at kind) r P to on = to _ on
  request_stop (stops.NoRule text) r P to on = absurd on
  request_stop (stops.NoLayer layer text) r P to on = absurd on
  request_stop stops.TooMany r P to on = absurd on
  request_stop (stops.Broken dataset broken) r P to on = absurd on
  request_stop stops.NoMemory r P to on = tt

  -- a key has no place
  pub places_stop : (stop : Stop F) (P Q : Cause → Type 0) → ((cause : Cause) → P cause → Q cause) → IsOfPlaces stop P → IsOfRequest stop Q
  places_stop (stops.Disk f) P Q to l = absurd l
  places_stop stops.Input P Q to l = absurd l
  places_stop stops.Missing P Q to l = absurd l
  places_stop (stops.Schema line kind) P Q to l = absurd l
  places_stop (stops.Request at kind) P Q to l = absurd l
  places_stop (stops.NoRule text) P Q to l = (l.0, to _ l.1, l.2)
  places_stop (stops.NoLayer layer text) P Q to l = (l.0, to _ l.1, l.2)
  places_stop stops.TooMany P Q to l = absurd l
  places_stop (stops.Broken dataset broken) P Q to l = absurd l
  places_stop stops.NoMemory P Q to l = tt

  -- the datasets are too many
  pub many_says : (stop : Stop F) (h : Holdings) (M : Type 0) (P : Cause → Type 0) (A : List ℕ → Type 0) → (M → P causes.TooManyDatasets) → NotRefused stop → OnTooMany stop M → Says stop h P A
  many_says (stops.Disk f) h M P A to ok on = tt
  many_says stops.Input h M P A to ok on = absurd ok
  many_says stops.Missing h M P A to ok on = absurd ok
  many_says (stops.Schema line kind) h M P A to ok on = absurd ok
  many_says (stops.Request at kind) h M P A to ok on = absurd ok
  many_says (stops.NoRule text) h M P A to ok on = absurd ok
  many_says (stops.NoLayer layer text) h M P A to ok on = absurd ok
  many_says stops.TooMany h M P A to ok on = to on
  many_says (stops.Broken dataset broken) h M P A to ok on = absurd ok
  many_says stops.NoMemory h M P A to ok on = tt

  -- the same of another cause
  pub places_more : (stop : Stop F) (P Q : Cause → Type 0) → ((cause : Cause) → P cause → Q cause) → IsOfPlaces stop P → IsOfPlaces stop Q
  places_more (stops.Disk f) P Q to l = absurd l
  places_more stops.Input P Q to l = absurd l
  places_more stops.Missing P Q to l = absurd l
  places_more (stops.Schema line kind) P Q to l = absurd l
  places_more (stops.Request at kind) P Q to l = absurd l
  places_more (stops.NoRule text) P Q to l = (l.0, to _ l.1, l.2)
  places_more (stops.NoLayer layer text) P Q to l = (l.0, to _ l.1, l.2)
  places_more stops.TooMany P Q to l = absurd l
  places_more (stops.Broken dataset broken) P Q to l = absurd l
  places_more stops.NoMemory P Q to l = tt
