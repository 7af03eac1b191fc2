-- What is stored of the fields of a stream of messages.
use Rattle.std.specs.Prelude.{ℕ, ◌+◌, Bool, false, not, ◌&&◌, List, [], ◌∷◌, ◌++◌, length, codes, nat_lt, Option, Some, None, Result, Ok, Err, if◌then◌else◌}
use Rattle.std.specs.Str.{bytes_eq}
use Rattle.std.specs.Fmt.{decimal}
use Rattle.fd_sections.specs.Message.{Sections, message_octets}
use Rattle.fd_sections.specs.Frames.{Frames, frames}
use Rattle.fd_key.specs.declared.fault.KeyFault.{KeyFault}
use Rattle.fd_key.specs.Pairs as keys
use Rattle.fd_key.specs.Keys.{key_of}
use Rattle.fd_entries.specs.declared.batch.Pair.{Pair}
use Rattle.fd_schema.specs.Rules.{Rule, Texts, file_key, place_from}
use Rattle.fd_listing.specs.Lines.{line}
use Rattle.fd_split.specs.declared.refusal.Refusal.{Refusal}
use Rattle.fd_split.specs.declared.refusal.Refusal.TheVariants.{Key}
use Rattle.fd_split.specs.Fields.{FieldList, Numbered, fields_after, of_frames}
use Rattle.fd_stored.specs.Causes.{Cause, InStream, NoRule, TooManyDatasets}
use Rattle.fd_stored.specs.Distinct.{is_among, count_distinct}

-- a message that is stored: its dataset, and the pair under which it stands there
pub record Stored : Type 0 where
  pub dataset : List ℕ
  pub pair : Pair

-- the fields that are stored, in the order of the stream, why those behind them are refused, if they are, how many octets are skipped,
-- and the number of the message that is refused or would come next
pub record Taken : Type 0 where
  pub stored : List Stored
  pub refusal : Option Cause
  pub junk : ℕ
  pub next : ℕ

abbrev pub stored_at : Texts → Sections → Stored
stored_at place m = record { dataset = place.dataset; pair = record { key = file_key place; bytes = message_octets m } }

-- a 2,049th dataset
abbrev pub is_too_many : List (List ℕ) → List ℕ → Bool
is_too_many datasets name = not (is_among datasets name) && not (nat_lt (count_distinct datasets) 2048)

-- where a message is stored, whose datasets before it were these
abbrev pub stored_in : List (List ℕ) → Sections → List keys.Pair → Option Texts → Result Stored Cause
stored_in datasets m key None = Err (NoRule key)
stored_in datasets m key (Some place) = if is_too_many datasets place.dataset then Err TooManyDatasets else Ok (stored_at place m)

abbrev pub keyed : List Rule → List (List ℕ) → ℕ → Sections → Result (List keys.Pair) KeyFault → Result Stored Cause
keyed rules datasets n m (Err fault) = Err (InStream (Key n fault))
keyed rules datasets n m (Ok key) = stored_in datasets m key (place_from 0 rules key)

-- where message n is stored, or why it isn't
abbrev pub stored_of : List Rule → List keys.Pair → List (List ℕ) → ℕ → Sections → Result Stored Cause
stored_of rules given datasets n m = keyed rules datasets n m (key_of m given)

abbrev pub ended : Option Cause → ℕ → ℕ → Taken
ended refusal junk next = record { stored = []; refusal = refusal; junk = junk; next = next }

-- a field of message n that is stored before others, or a refusal, after which nothing is
abbrev pub before : ℕ → Result Stored Cause → (List ℕ → Taken) → Taken
before n (Err cause) others = ended (Some cause) 0 n
before n (Ok s) others = record { stored = s ∷ (others s.dataset).stored; refusal = (others s.dataset).refusal; junk = (others s.dataset).junk; next = (others s.dataset).next }

-- the fields, after fields of these datasets; `last` tells why what follows them is refused, if it is, and `next` the number of the
-- message that does
abbrev pub taken_fields : List Rule → List keys.Pair → List (List ℕ) → Option Cause → ℕ → ℕ → List Numbered → Taken
taken_fields rules given datasets last junk next [] = ended last junk next
taken_fields rules given datasets last junk next (f ∷ fs) =
    before f.number (stored_of rules given datasets f.number f.sections) (λ dataset. taken_fields rules given (datasets ++ dataset ∷ []) last junk next fs)

abbrev pub in_stream : Option Refusal → Option Cause
in_stream None = None
in_stream (Some refusal) = Some (InStream refusal)

-- what is stored of these fields, which come after fields of these datasets and after so many skipped octets
abbrev pub taken_of_fields : List Rule → List keys.Pair → List (List ℕ) → ℕ → FieldList → Taken
taken_of_fields rules given datasets junk x = taken_fields rules given datasets (in_stream x.refusal) junk x.next x.fields

-- what is stored of a stream that comes after n messages, whose fields were of these datasets, and after so many skipped octets
abbrev pub taken_after : List Rule → List keys.Pair → Bool → List (List ℕ) → ℕ → ℕ → Frames → Taken
taken_after rules given past datasets n junk s = taken_of_fields rules given datasets (junk + s.skipped) (fields_after past n s)

-- What is stored of an input.
abbrev pub taken : List Rule → List keys.Pair → List ℕ → Taken
taken rules given input = of_frames (λ past s. taken_after rules given past [] 0 0 s) input

-- what is stored of the messages that are whole in these octets
abbrev pub taken_of : List Rule → List keys.Pair → List ℕ → List Stored
taken_of rules given octets = (taken_after rules given false [] 0 0 (frames octets)).stored

-- the pairs of one dataset, in the order of the stream
abbrev pub pairs_for : List Stored → List ℕ → List Pair
pairs_for [] name = []
pairs_for (s ∷ ss) name = if bytes_eq s.dataset name then s.pair ∷ pairs_for ss name else pairs_for ss name

abbrev pub datasets_in : List Stored → List (List ℕ)
datasets_in [] = []
datasets_in (s ∷ ss) = s.dataset ∷ datasets_in ss

-- `archived n datasets d junk j`
abbrev pub archived_line : Taken → List ℕ
archived_line t = line (codes "archived " ++ decimal (length t.stored) ++ codes " datasets " ++ decimal (count_distinct (datasets_in t.stored)) ++ codes " junk " ++ decimal t.junk)
