-- What a run of `split` has done at each of its exits.
use Rattle.std.proofs.Common.{◌≡◌, ◌∙◌, ℕ, List, [], Option, Some, None, refl, sym, ap, subst, inl, inr, append-nil, arith}
use Rattle.std.specs.Prelude.{IfSome}
use Rattle.fd_bytes.specs.Causes.{Rose}
use Rattle.fd_io.specs.Streams.{Takes}
use Rattle.fd_disk.specs.Folders.{Holdings, WhereTold}
use Rattle.fd_words.specs.declared.command.Command.TheVariants as commands
use Rattle.fd_split.specs.declared.refusal.Refusal.{Refusal}
use Rattle.fd_stored.specs.declared.status.Status.{Status}
use Rattle.fd_stored.specs.declared.status.Status.TheVariants.{Done, InputFault, OutputFault, DiskFault, NoMemory}
use Rattle.fd_stored.specs.Refusals.{refusal_line, refusal_status}
use Rattle.fd_outcome.specs.Splitting.{Split, octets_of, split_line, split_of}
use Rattle.fd_outcome.specs.Outcome.{parted, split_report, listing_status, lines_early}
use Rattle.fd_outcome.specs.Objects.{object}
use Rattle.fd_outcome.specs.Ends.{ReadsOut, input_failed, output_failed, no_memory, nothing_held}
use Rattle.fd_outcome.specs.Ran.{Ran}
use Rattle.fd_outcome.specs.Told.{Told, ToldOrNoMemory}
use Rattle.fd_outcome.proofs.Endings.{Reached, takes_nothing}
use Rattle.fd_outcome.proofs.Exits.{LeavesIt, told_ran, stopped_ran, unwritten_ran, refusal_told, refusal_calm, refusal_not_whole, apart, is_input_fault, is_disk_fault}
use Rattle.fd_streams.specs.declared.parting.Tally.{Tally}
use Rattle.fd_streams.specs.Halted.{IsCut, IsRefused}
use Rattle.fd_streams.specs.Parted.{IsParted, lines_of}
use Rattle.fd_streams.proofs.PickExits.{where_some}

module _ (has : Option Holdings) (sm : ℕ) (input left : Option (List ℕ)) (im jn : ℕ) (a b : Option (List ℕ)) (km kn : ℕ) (c d : Option (List ℕ)) (m n : ℕ) (result : Status) where
  abbrev pub To : Type 0
  To = Ran commands.Split result (object has has sm sm) (object input left im jn) (object a b km kn) (object c d m n)

  untouched : (r : Status) → LeavesIt commands.Split (object has has sm sm) (object input left im jn) (object a b km kn) (object c d m n) r
  untouched r = go has
    where
      go : (k : Option Holdings) → WhereTold k k (λ h i. i ≡ h)
      go None = tt
      go (Some h) = refl

  reached : (octets : List ℕ) → IsCut a b (lines_of (split_of octets)) → Reached a b c c (lines_early (octets_of (split_of octets).fields)) []
  reached octets cut = record { output = cut; rest = []; is = refl; report = takes_nothing c }

  whole : (octets : List ℕ) → Takes a b (octets_of (split_of octets).fields) → IsCut a b (lines_of (split_of octets))
  whole octets took = (octets_of (split_of octets).fields, [], sym (append-nil (octets_of (split_of octets).fields)), took)

  -- the input isn't all read
  pub unread : IfSome input (λ octets. IsCut a b (lines_of (split_of octets))) → Rose im jn → Told InputFault input_failed result c d m n → To
  unread cut rose tells =
      stopped_ran commands.Split (object has has sm sm) (object input left im jn) (object a b km kn) (object c d m n) InputFault result input_failed c m n tells (λ r. r) tt
      (where_some input (λ octets x names an. ((rose, refl), ([], reached octets x))) cut)
      (λ t. tt) (λ r e. untouched r) (λ e. rose) (λ e. absurd (apart is_disk_fault InputFault DiskFault refl refl e))

  -- memory ran out
  pub starved : IfSome input (λ octets. IsCut a b (lines_of (split_of octets))) → Told NoMemory no_memory result c d m n → To
  starved cut tells =
      stopped_ran commands.Split (object has has sm sm) (object input left im jn) (object a b km kn) (object c d m n) NoMemory result no_memory c m n tells (λ r. r) tt
      (where_some input (λ octets x names an. (refl, ([], reached octets x))) cut)
      (λ t. tt) (λ r e. untouched r) (λ e. absurd (apart is_input_fault NoMemory InputFault refl refl e)) (λ e. absurd (apart is_disk_fault NoMemory DiskFault refl refl e))

  -- the fields aren't all written
  pub unwritten : IfSome input (λ octets. IsCut a b (lines_of (split_of octets))) → Rose km kn → Told OutputFault output_failed result c d m n → To
  unwritten cut rose tells =
      unwritten_ran commands.Split (object has has sm sm) (object input left im jn) (object a b km kn) (object c d m n) result c m n tells (λ r. r) rose
      (where_some input (λ octets x names an. (x, ([], record { rest = []; is = refl; report = takes_nothing c }))) cut)
      (untouched OutputFault)

  -- the input is refused
  pub refused : (refusal : Refusal) → IfSome input (λ octets. IsRefused refusal a b (lines_of (split_of octets))) → jn ≡ im → kn ≡ km → ToldOrNoMemory (refusal_status refusal) (refusal_line refusal) result c d m n → To
  refused refusal splits read written (inl tells) =
      told_ran commands.Split (object has has sm sm) (object input left im jn) (object a b km kn) (object c d m n) (refusal_status refusal) result (refusal_line refusal) c m n tells (λ r. r) (refusal_told refusal)
      (where_some input (λ octets x names an. (
        parted (split_of octets),
        refl,
        record { status_is = ap listing_status (sym x.1); wrote = x.0; front = []; rest_is = ap (split_report (split_of octets)) x.1; told = takes_nothing c },
      )) splits)
      (refusal_calm commands.Split (object input left im jn) (object a b km kn) (object c d m n) (read, written) refusal) (λ r e. untouched r)
      (refusal_not_whole (ReadsOut commands.Split input left) refusal)
  refused refusal splits read written (inr tells) = starved (where_some input (λ octets x. whole octets x.0) splits) tells

  report_is : (t : Tally) (x : Split) → IsParted t a b x → split_report x x.refusal ≡ split_line t.fields t.junk
  report_is t x is = ap (split_report x) is.none ∙ ap (λ (k : ℕ). split_line k x.junk) (sym is.fields) ∙ ap (split_line t.fields) (sym is.junk)

  -- all fields are written, and then the line
  pub done : (t : Tally) → IfSome input (λ octets. IsParted t a b (split_of octets)) → IfSome input (λ octets. left ≡ Some []) → jn ≡ im → kn ≡ km → ToldOrNoMemory Done (split_line t.fields t.junk) result c d m n → To
  done t splits left_is read written (inl tells) =
      told_ran commands.Split (object has has sm sm) (object input left im jn) (object a b km kn) (object c d m n) Done result (split_line t.fields t.junk) c m n tells (λ r. r) tt
      (where_some input (λ octets x names an. (
        parted (split_of octets),
        refl,
        record { status_is = ap listing_status (sym x.none); wrote = x.took; front = []; rest_is = report_is t (split_of octets) x; told = takes_nothing c },
      )) splits)
      (read, written) (λ r e. untouched r) (λ e. left_is)
  done t splits left_is read written (inr tells) = starved (where_some input (λ octets x. whole octets x.took) splits) tells
