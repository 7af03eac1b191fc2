-- What a run of a listing has done at each of its exits.
use Rattle.std.proofs.Common.{◌≡◌, ℕ, List, [], Option, Some, None, refl, sym, ap, subst, inl, inr, append-nil, arith}
use Rattle.std.specs.Prelude.{IfSome}
use Rattle.fd_bytes.specs.Causes.{Rose}
use Rattle.fd_io.specs.Streams.{Takes, TakesFront}
use Rattle.fd_disk.specs.Folders.{Holdings, WhereTold}
use Rattle.fd_outcome.specs.declared.listing.Listing.{Listing}
use Rattle.fd_outcome.specs.declared.listing.Listing.TheVariants as listings
use Rattle.fd_split.specs.declared.refusal.Refusal.{Refusal}
use Rattle.fd_stored.specs.declared.status.Status.{Status}
use Rattle.fd_stored.specs.declared.status.Status.TheVariants.{Done, InputFault, OutputFault, DiskFault, NoMemory}
use Rattle.fd_stored.specs.Refusals.{refusal_line, refusal_status}
use Rattle.fd_outcome.specs.Listed.{listed}
use Rattle.fd_outcome.specs.Outcome.{told, outcome, early, refusal_lines, listing_status, lines_early}
use Rattle.fd_stored.specs.Causes.{table_full}
use Rattle.fd_outcome.specs.Objects.{object}
use Rattle.fd_outcome.specs.Ends.{Leaves, ReadsOut, WhereAsked, input_failed, output_failed, no_memory, nothing_held}
use Rattle.fd_outcome.specs.Ran.{Ran}
use Rattle.fd_outcome.specs.Told.{Told, ToldOrNoMemory}
use Rattle.fd_outcome.proofs.Endings.{Reached, takes_nothing}
use Rattle.fd_outcome.proofs.Exits.{LeavesIt, told_ran, stopped_ran, unwritten_ran, refusal_told, refusal_calm, refusal_not_whole, apart, is_input_fault, is_disk_fault}
use Rattle.fd_streams.specs.Streams.{listing_command}
use Rattle.fd_streams.specs.Halted.{IsCut, IsRefused, IsListed}
use Rattle.fd_streams.proofs.PickExits.{where_some}

-- ---- what the two commands have in common

where_listed : (listing : Listing) (input : Option (List ℕ)) (store after : Option Holdings) (P : List ℕ → Holdings → Holdings → Type 0)
    → IfSome input (λ octets. P octets nothing_held nothing_held) → WhereAsked (listing_command listing) input store after P
where_listed listings.Descriptions input store after P p = p
where_listed (listings.Points decimals) input store after P p = p

outcome_is : (listing : Listing) (h : Holdings) (names : List (List ℕ)) (octets : List ℕ) → outcome (listing_command listing) h names octets ≡ Some (told (listed listing octets))
outcome_is listings.Descriptions h names octets = refl
outcome_is (listings.Points decimals) h names octets = refl

early_is : (listing : Listing) (h : Holdings) (names : List (List ℕ)) (octets : List ℕ) → early (listing_command listing) h names octets ≡ lines_early (listed listing octets).lines
early_is listings.Descriptions h names octets = refl
early_is (listings.Points decimals) h names octets = refl

leaves_same : (listing : Listing) (r : Status) (calm full : Type 0) (input left : Option (List ℕ)) (h : Holdings) → Leaves (listing_command listing) r calm full input left h h
leaves_same listings.Descriptions r calm full input left h = refl
leaves_same (listings.Points decimals) r calm full input left h = refl

reads_out : (listing : Listing) (input left : Option (List ℕ)) → IfSome input (λ octets. left ≡ Some []) → ReadsOut (listing_command listing) input left
reads_out listings.Descriptions input left p = p
reads_out (listings.Points decimals) input left p = p

module _ (listing : Listing) (has : Option Holdings) (sm : ℕ) (input left : Option (List ℕ)) (im jn : ℕ) (a b : Option (List ℕ)) (km kn : ℕ) (c d : Option (List ℕ)) (m n : ℕ) (result : Status) where
  abbrev pub To : Type 0
  To = Ran (listing_command listing) result (object has has sm sm) (object input left im jn) (object a b km kn) (object c d m n)

  untouched : (r : Status) → LeavesIt (listing_command listing) (object has has sm sm) (object input left im jn) (object a b km kn) (object c d m n) r
  untouched r = go has
    where
      go : (k : Option Holdings) → WhereTold k k (Leaves (listing_command listing) r (¬ (Rose sm sm)) (Takes c d table_full) input left)
      go None = tt
      go (Some h) = leaves_same listing r _ _ input left h

  reached : (octets : List ℕ) (h : Holdings) (names : List (List ℕ)) → IsCut a b (listed listing octets) → Reached a b c c (early (listing_command listing) h names octets) []
  reached octets h names cut = subst (λ e. Reached a b c c e []) (sym (early_is listing h names octets)) (record { output = cut; rest = []; is = refl; report = takes_nothing c })

  whole : (octets : List ℕ) → Takes a b (listed listing octets).lines → IsCut a b (listed listing octets)
  whole octets took = ((listed listing octets).lines, [], sym (append-nil (listed listing octets).lines), took)

  -- the input isn't all read
  pub unread : IfSome input (λ octets. IsCut a b (listed listing octets)) → Rose im jn → Told InputFault input_failed result c d m n → To
  unread cut rose tells =
      stopped_ran (listing_command listing) (object has has sm sm) (object input left im jn) (object a b km kn) (object c d m n) InputFault result input_failed c m n tells (λ r. r) tt
      (where_listed listing input has has _ (where_some input (λ octets x names an. ((rose, refl), ([], reached octets nothing_held names x))) cut))
      (λ t. tt) (λ r e. untouched r) (λ e. rose) (λ e. absurd (apart is_disk_fault InputFault DiskFault refl refl e))

  -- memory ran out
  pub starved : IfSome input (λ octets. IsCut a b (listed listing octets)) → Told NoMemory no_memory result c d m n → To
  starved cut tells =
      stopped_ran (listing_command listing) (object has has sm sm) (object input left im jn) (object a b km kn) (object c d m n) NoMemory result no_memory c m n tells (λ r. r) tt
      (where_listed listing input has has _ (where_some input (λ octets x names an. (refl, ([], reached octets nothing_held names x))) cut))
      (λ t. tt) (λ r e. untouched r) (λ e. absurd (apart is_input_fault NoMemory InputFault refl refl e)) (λ e. absurd (apart is_disk_fault NoMemory DiskFault refl refl e))

  -- the lines aren't all written
  pub unwritten : IfSome input (λ octets. IsCut a b (listed listing octets)) → Rose km kn → Told OutputFault output_failed result c d m n → To
  unwritten cut rose tells =
      unwritten_ran (listing_command listing) (object has has sm sm) (object input left im jn) (object a b km kn) (object c d m n) result c m n tells (λ r. r) rose
      (where_listed listing input has has _ (where_some input (λ octets x names an. (
        subst (λ o. IfSome o (λ y. TakesFront a b y.output)) (sym (outcome_is listing nothing_held names octets)) x,
        ([], record { rest = (early (listing_command listing) nothing_held names octets).report; is = refl; report = takes_nothing c }),
      )) cut))
      (untouched OutputFault)

  -- the input is refused
  pub refused : (refusal : Refusal) → IfSome input (λ octets. IsRefused refusal a b (listed listing octets)) → jn ≡ im → kn ≡ km → ToldOrNoMemory (refusal_status refusal) (refusal_line refusal) result c d m n → To
  refused refusal lists read written (inl tells) =
      told_ran (listing_command listing) (object has has sm sm) (object input left im jn) (object a b km kn) (object c d m n) (refusal_status refusal) result (refusal_line refusal) c m n tells (λ r. r) (refusal_told refusal)
      (where_listed listing input has has _ (where_some input (λ octets x names an. (
        told (listed listing octets),
        outcome_is listing nothing_held names octets,
        record { status_is = ap listing_status (sym x.1); wrote = x.0; front = []; rest_is = ap refusal_lines x.1; told = takes_nothing c },
      )) lists))
      (refusal_calm (listing_command listing) (object input left im jn) (object a b km kn) (object c d m n) (read, written) refusal) (λ r e. untouched r)
      (refusal_not_whole (ReadsOut (listing_command listing) input left) refusal)
  refused refusal lists read written (inr tells) = starved (where_some input (λ octets x. whole octets x.0) lists) tells

-- all is listed, and nothing is told
pub done : (listing : Listing) (has : Option Holdings) (sm : ℕ) (input left : Option (List ℕ)) (im jn : ℕ) (a b : Option (List ℕ)) (km kn : ℕ) (c : Option (List ℕ)) (m : ℕ)
    → IfSome input (λ octets. IsListed a b (listed listing octets)) → IfSome input (λ octets. left ≡ Some []) → jn ≡ im → kn ≡ km
    → Ran (listing_command listing) Done (object has has sm sm) (object input left im jn) (object a b km kn) (object c c m m)
done listing has sm input left im jn a b km kn c m lists left_is read written =
    told_ran (listing_command listing) (object has has sm sm) (object input left im jn) (object a b km kn) (object c c m m) Done Done [] c m m (record { later = omega arith; told = inl (record { status = refl; took = takes_nothing c }) }) (λ r. r) tt
    (where_listed listing input has has _ (where_some input (λ octets x names an. (
      told (listed listing octets),
      outcome_is listing nothing_held names octets,
      record { status_is = ap listing_status (sym x.1); wrote = x.0; front = []; rest_is = ap refusal_lines x.1; told = takes_nothing c },
    )) lists))
    (read, written) (λ r e. untouched listing has sm input left im jn a b km kn c c m m Done r) (λ e. reads_out listing input left left_is)
