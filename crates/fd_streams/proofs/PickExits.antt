-- What a run of `pick` has done at each of its exits.
use Rattle.std.proofs.Common.{◌≡◌, ◌∙◌, ℕ, List, [], Option, Some, None, Result, Ok, Err, true, false, true≢false, refl, sym, ap, subst, inl, inr}
use Rattle.std.specs.Prelude.{IfSome, codes}
use Rattle.fd_bytes.specs.Causes.{Rose}
use Rattle.fd_io.specs.Streams.{Takes, TakesFront}
use Rattle.fd_sections.specs.Message.{Sections, message_octets}
use Rattle.fd_key.specs.Pairs.{Pair}
use Rattle.fd_disk.specs.Folders.{Holdings, WhereTold}
use Rattle.fd_listing.specs.Lines.{line}
use Rattle.fd_words.specs.declared.command.Command.TheVariants.{Pick}
use Rattle.fd_split.specs.declared.refusal.Refusal.{Refusal}
use Rattle.fd_stored.specs.declared.status.Status.{Status}
use Rattle.fd_stored.specs.declared.status.Status.TheVariants.{Done, Missed, InputFault, OutputFault, DiskFault, NoMemory}
use Rattle.fd_stored.specs.Refusals.{refusal_line, refusal_status}
use Rattle.fd_outcome.specs.Picking.{found}
use Rattle.fd_outcome.specs.Outcome.{picked, nothing_early}
use Rattle.fd_outcome.specs.Objects.{object}
use Rattle.fd_outcome.specs.Ends.{input_failed, output_failed, no_memory}
use Rattle.fd_outcome.specs.Ran.{Ran}
use Rattle.fd_outcome.specs.Told.{Told, ToldOrNoMemory}
use Rattle.fd_outcome.proofs.Endings.{takes_nothing, reached_nothing}
use Rattle.fd_outcome.proofs.Exits.{LeavesIt, told_ran, stopped_ran, unwritten_ran, refusal_told, refusal_calm, refusal_not_whole, apart, is_input_fault, is_disk_fault}
use Rattle.fd_streams.specs.declared.picking.Last.{Last}
use Rattle.fd_streams.specs.Found.{IsLast}

pub where_some : {P Q : List ℕ → Type 0} (input : Option (List ℕ)) → ((octets : List ℕ) → P octets → Q octets) → IfSome input P → IfSome input Q
where_some None to p = tt
where_some (Some octets) to p = to octets p

pub where_all : {Q : List ℕ → Type 0} (input : Option (List ℕ)) → ((octets : List ℕ) → Q octets) → IfSome input Q
where_all None all = tt
where_all (Some octets) all = all octets

module _ (wanted : List Pair) (has : Option Holdings) (sm : ℕ) (input left : Option (List ℕ)) (im jn : ℕ) (a : Option (List ℕ)) (km : ℕ) (c d : Option (List ℕ)) (m n : ℕ) (result : Status) where
  abbrev pub To : Option (List ℕ) → ℕ → Type 0
  To b kn = Ran (Pick wanted) result (object has has sm sm) (object input left im jn) (object a b km kn) (object c d m n)

  untouched : (b : Option (List ℕ)) (kn : ℕ) (r : Status) → LeavesIt (Pick wanted) (object has has sm sm) (object input left im jn) (object a b km kn) (object c d m n) r
  untouched b kn r = go has
    where
      go : (k : Option Holdings) → WhereTold k k (λ h i. i ≡ h)
      go None = tt
      go (Some h) = refl

  -- what the search found
  abbrev pub Finds : Last → Type 0
  Finds last = IfSome input (λ octets. (x : Option Sections) × (found wanted octets ≡ Ok x) × IsLast last x)

  none_is : (last : Last) (x : Option Sections) → IsLast last x → last.found ≡ false → x ≡ None
  none_is last None is e = refl
  none_is last (Some message) is e = absurd (true≢false (sym is.0 ∙ e))

  message_is : (last : Last) (x : Option Sections) → IsLast last x → last.found ≡ true → (message : Sections) × (x ≡ Some message) × (last.octets.items ≡ message_octets message)
  message_is last None is e = absurd (true≢false (sym e ∙ is))
  message_is last (Some message) is e = (message, refl, is.1)

  picked_is : (octets : List ℕ) (r : Result (Option Sections) Refusal) → found wanted octets ≡ r → Some (picked (found wanted octets)) ≡ Some (picked r)
  picked_is octets r e = ap (λ f. Some (picked f)) e

  -- none has the pairs
  pub missed : (last : Last) → Finds last → last.found ≡ false → IfSome input (λ octets. left ≡ Some []) → jn ≡ im → Told Missed (line (codes "found 0 missed 1")) result c d m n → To a km
  missed last finds none left_is read told =
      told_ran (Pick wanted) (object has has sm sm) (object input left im jn) (object a a km km) (object c d m n) Missed result (line (codes "found 0 missed 1")) c m n told (λ r. r) tt
      (where_some input (λ octets f names an. (
        picked (Ok None),
        picked_is octets (Ok None) (f.1 ∙ ap (λ x. Ok x) (none_is last f.0 f.2 none)),
        record { status_is = refl; wrote = takes_nothing a; front = []; rest_is = refl; told = takes_nothing c },
      )) finds)
      (read, refl) (λ r e. untouched a km r) (λ e. left_is)

  -- the message is written, and then the line
  pub done : (b : Option (List ℕ)) (kn : ℕ) (last : Last) → Finds last → last.found ≡ true → Takes a b last.octets.items → IfSome input (λ octets. left ≡ Some []) → jn ≡ im → kn ≡ km → Told Done (line (codes "found 1 missed 0")) result c d m n → To b kn
  done b kn last finds some took left_is read written told =
      told_ran (Pick wanted) (object has has sm sm) (object input left im jn) (object a b km kn) (object c d m n) Done result (line (codes "found 1 missed 0")) c m n told (λ r. r) tt
      (where_some input (λ octets f names an. let x = message_is last f.0 f.2 some in (
        picked (Ok (Some x.0)),
        picked_is octets (Ok (Some x.0)) (f.1 ∙ ap (λ y. Ok y) x.1),
        record { status_is = refl; wrote = subst (Takes a b) x.2 took; front = []; rest_is = refl; told = takes_nothing c },
      )) finds)
      (read, written) (λ r e. untouched b kn r) (λ e. left_is)

  -- the message isn't all written
  pub unwritten : (b : Option (List ℕ)) (kn : ℕ) (last : Last) → Finds last → last.found ≡ true → TakesFront a b last.octets.items → Rose km kn → Told OutputFault output_failed result c d m n → To b kn
  unwritten b kn last finds some took rose told =
      unwritten_ran (Pick wanted) (object has has sm sm) (object input left im jn) (object a b km kn) (object c d m n) result c m n told (λ r. r) rose
      (where_some input (λ octets f names an. let x = message_is last f.0 f.2 some in (
        subst (λ r. TakesFront a b (picked r).output) (sym (f.1 ∙ ap (λ y. Ok y) x.1)) (subst (TakesFront a b) x.2 took),
        ([], record { rest = []; is = refl; report = takes_nothing c }),
      )) finds)
      (untouched b kn OutputFault)

  -- the input isn't all read
  pub unread : Rose im jn → Told InputFault input_failed result c d m n → To a km
  unread rose told =
      stopped_ran (Pick wanted) (object has has sm sm) (object input left im jn) (object a a km km) (object c d m n) InputFault result input_failed c m n told (λ r. r) tt
      (where_all input (λ octets names an. ((rose, refl), ([], reached_nothing a c nothing_early))))
      (λ t. tt) (λ r e. untouched a km r) (λ e. rose) (λ e. absurd (apart is_disk_fault InputFault DiskFault refl refl e))

  -- memory ran out
  pub starved : Told NoMemory no_memory result c d m n → To a km
  starved told =
      stopped_ran (Pick wanted) (object has has sm sm) (object input left im jn) (object a a km km) (object c d m n) NoMemory result no_memory c m n told (λ r. r) tt
      (where_all input (λ octets names an. (refl, ([], reached_nothing a c nothing_early))))
      (λ t. tt) (λ r e. untouched a km r) (λ e. absurd (apart is_input_fault NoMemory InputFault refl refl e)) (λ e. absurd (apart is_disk_fault NoMemory DiskFault refl refl e))

  -- the input is refused
  pub refused : (refusal : Refusal) → IfSome input (λ octets. found wanted octets ≡ Err refusal) → jn ≡ im → ToldOrNoMemory (refusal_status refusal) (refusal_line refusal) result c d m n → To a km
  refused refusal finds read (inl told) =
      told_ran (Pick wanted) (object has has sm sm) (object input left im jn) (object a a km km) (object c d m n) (refusal_status refusal) result (refusal_line refusal) c m n told (λ r. r) (refusal_told refusal)
      (where_some input (λ octets f names an. (
        picked (Err refusal),
        picked_is octets (Err refusal) f,
        record { status_is = refl; wrote = takes_nothing a; front = []; rest_is = refl; told = takes_nothing c },
      )) finds)
      (refusal_calm (Pick wanted) (object input left im jn) (object a a km km) (object c d m n) (read, refl) refusal) (λ r e. untouched a km r)
      (refusal_not_whole (IfSome input (λ octets. left ≡ Some [])) refusal)
  refused refusal finds read (inr told) = starved told
