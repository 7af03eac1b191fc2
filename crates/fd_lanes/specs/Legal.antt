-- What a run of lanes says, over one table before and one list of batches that were listed.
use Rattle.std.specs.Prelude.{◌≡◌, ◌<◌, ◌≤◌, ◌+◌, ◌-◌, ◌++◌, ◌⊎◌, ℕ, List, [], ◌∷◌, map, take, length, slice_get, Option, Some, None, true}
use Rattle.fd_entries.specs.declared.batch.Pair.{Pair}
use Rattle.fd_entries.specs.declared.batch.Listing.{Listing}
use Rattle.fd_entries.specs.Batches.{newest}
use Rattle.fd_retriever.specs.Answers.{Tells}
use Rattle.fd_schema.specs.Rules.{Rule, Texts}
use Rattle.fd_script.specs.declared.script.Lane.{Lane}
use Rattle.fd_lanes.specs.Acts.{Act, ArePlaces, all_acts}
use Rattle.fd_numbers.specs.Numbers.{IsIn, Differ}
use Rattle.fd_lanes.specs.Tables.{AlikeTables, StandsFor}
use Rattle.fd_lanes.specs.declared.end.End.{End}
use Rattle.fd_lanes.specs.declared.end.End.TheVariants.{PutOk, PutUnlisted, Fault, Listed, Nothing, TableFull, NoMemory, Damaged, Got}
use Rattle.fd_lanes.specs.Walks.{Stand, beginning, receipts, walked, Walks}

-- over the table as it is at the end
module _ (whole : List (List Pair)) where
  -- the batch with this number, from 1
  abbrev pub HasAt : List Pair → ℕ → Type 0
  HasAt b n = slice_get whole (n - 1) ≡ Some b

  -- these are the newest bytes of the keys in the first n batches
  abbrev pub AnswersAt : ℕ → List (List ℕ) → List (Option (List ℕ)) → Type 0
  AnswersAt n asked answers = (n ≤ length whole) × (answers ≡ map (newest (take n whole)) asked)

-- the same over the history that a pass knows
module _ (history : List Listing) (writer : ℕ) where
  pub record IsListedIn (b : List Pair) (n : ℕ) : Type 0 where
    pub listing : Listing
    pub at : slice_get history (n - 1) ≡ Some listing
    pub inside : n ≤ length history
    pub by : listing.entry.writer ≡ writer
    pub stands : StandsFor listing b

  abbrev pub IsFullIn : Type 0
  IsFullIn = 65535 ≤ length history

  abbrev pub IsAnsweredIn : ℕ → List (List ℕ) → List (Option (List ℕ)) → Type 0
  IsAnsweredIn n asked answers = (n ≤ length history) × ((t : List (List Pair)) → Tells (take n history) t → answers ≡ map (newest t) asked)

  -- one of the listings stands for no batch
  abbrev pub IsDamagedIn : Type 0
  IsDamagedIn = (i : ℕ) × (l : Listing) × (slice_get history i ≡ Some l) × (l.batch ≡ None)

module _ {F : Type 0} where
  -- what a lane's ends say, by the history that its pass knows
  abbrev pub WalksIn : List Listing → ℕ → Stand → List Act → List (End F) → Type 0
  WalksIn history writer = Walks (IsListedIn history writer) (IsFullIn history writer) (IsAnsweredIn history writer) (IsDamagedIn history writer)

  -- the receipts of all lanes
  abbrev pub all_receipts : ℕ → List (List Act) → List (List (End F)) → List (ℕ × List Pair)
  all_receipts b [] ends = []
  all_receipts b (acts ∷ script) [] = []
  all_receipts b (acts ∷ script) (es ∷ ends) = receipts (beginning b) acts es ++ all_receipts b script ends

  -- each lane's ends may be, over the table at the end; the last says whether a get may end in damage
  abbrev pub AllWalk : Type 0 → List (List Pair) → ℕ → List (List Act) → List (List (End F)) → Type 0
  AllWalk D whole b [] [] = Unit {0}
  AllWalk D whole b [] (es ∷ ends) = ⊥
  AllWalk D whole b (acts ∷ script) [] = ⊥
  AllWalk D whole b (acts ∷ script) (es ∷ ends) = Walks (HasAt whole) (length whole ≡ 65535) (AnswersAt whole) D (beginning b) acts es × AllWalk D whole b script ends

  -- The ends of all lanes, over the table before and the batches that were listed: there is one for each step, and each may
  -- be; the numbers of the listed flushes are those behind the table before, each once.
  pub record IsLegal (before flushed : List (List Pair)) (script : List (List Act)) (ends : List (List (End F))) : Type 0 where
    pub each : AllWalk (Unit {0}) (before ++ flushed) (length before) script ends
    pub once : Differ (map (λ r. r.0) (all_receipts (length before) script ends))
    pub all : (n : ℕ) → length before < n → n ≤ length before + length flushed → IsIn (map (λ r. r.0) (all_receipts (length before) script ends)) n

  -- the same of a script, with its schema and messages
  pub record Legal (rules : List Rule) (messages : List (List ℕ)) (before flushed : List (List Pair)) (lanes : List Lane) (ends : List (List (End F))) : Type 0 where
    pub places : List Texts
    pub are_places : ArePlaces rules messages lanes places
    pub legal : IsLegal before flushed (all_acts rules messages places lanes) ends

  -- What a script did to a table of which this is what stands at the end: it is alike to what stood before, as many batches
  -- as were counted, followed by the batches that were flushed, and the ends are legal over these.
  pub record IsRunOf (rules : List Rule) (messages : List (List ℕ)) (lanes : List Lane) (before : ℕ) (whole : List (List Pair)) (ends : List (List (End F))) : Type 0 where
    pub flushed : List (List Pair)
    pub legal : Legal rules messages (take before whole) flushed lanes ends
    pub alike : AlikeTables whole (take before whole ++ flushed)

  -- no end is damage
  abbrev pub IsSound : End F → Type 0
  IsSound (Damaged d) = ⊥
  IsSound e = Unit {0}

  abbrev pub AreSound : List (End F) → Type 0
  AreSound [] = Unit {0}
  AreSound (e ∷ es) = IsSound e × AreSound es

  abbrev pub AllSound : List (List (End F)) → Type 0
  AllSound [] = Unit {0}
  AllSound (es ∷ ends) = AreSound es × AllSound ends

  -- the listing may be that of what a lane has pending of which a flush failed since its last listed one
  abbrev pub IsDoubt : Listing → ℕ → List (List Act) → List (List (End F)) → Type 0
  IsDoubt l b [] ends = ⊥
  IsDoubt l b (acts ∷ script) [] = ⊥
  IsDoubt l b (acts ∷ script) (es ∷ ends) =
      (((walked (beginning b) acts es).faulted ≡ true) × StandsFor l (walked (beginning b) acts es).pending) ⊎ IsDoubt l b script ends

  -- each lane's ends may be, by the history that all know in the end
  abbrev pub AllWalkIn : List Listing → ℕ → List ℕ → List (List Act) → List (List (End F)) → Type 0
  AllWalkIn history b [] [] [] = Unit {0}
  AllWalkIn history b (w ∷ writers) (acts ∷ script) (es ∷ ends) = WalksIn history w (beginning b) acts es × AllWalkIn history b writers script ends
  AllWalkIn history b writers script ends = ⊥
