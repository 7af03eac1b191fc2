-- What the words of the command line ask for.
use Rattle.std.specs.Prelude.{ℕ, ◌≤◌, ◌<◌, ◌≡◌, IfSome, Bool, false, not, ◌==◌, ◌^◌, nat_lt, ◌&&◌, length, List, [], ◌∷◌, codes, Option, Some, None, unwrap_or, option_and_then, option_map, is_some, ◌||◌, if◌then◌else◌, Result, Ok, Err}
use Rattle.std.specs.Str.{bytes_eq}
use Rattle.std.specs.List.{All}
use Rattle.std.specs.Map.{lookup}
use Rattle.fd_key.specs.Pairs.{Pair, text_of}
use Rattle.fd_spelling.specs.Canonical.{pair_of}
use Rattle.fd_key.specs.Given.{Refusal, given_of}
use Rattle.fd_request.specs.Spelled.{AreValues}
use Rattle.fd_spelling.specs.Pieces.{pieces}
use Rattle.fd_script.specs.Grammar.{is_dataset}
use Rattle.fd_words.specs.declared.command.Command.{Command}
use Rattle.fd_words.specs.declared.command.Command.TheVariants as commands
use Rattle.fd_words.specs.Numbers.{count_number, decimals_number, worker_number}
use Rattle.fd_words.specs.Reading.{Text, Said}
use Rattle.fd_words.specs.Saying.{said}

-- ---- pairs of `pick`

abbrev pub put_first : Pair → Option (List Pair) → Option (List Pair)
put_first p others = option_map (λ ps. p ∷ ps) others

-- the pairs `name=value` that the words are, each value in its one spelling, where each word is one
abbrev pub all_pairs : List Text → Option (List Pair)
all_pairs [] = Some []
all_pairs (word ∷ words) = option_and_then (λ p. put_first p (all_pairs words)) (pair_of word)

-- a name comes twice
abbrev pub repeats_name : List Pair → Bool
repeats_name [] = false
repeats_name (p ∷ ps) = is_some (text_of ps p.0) || repeats_name ps

abbrev pub unless_repeated : List Pair → Option (List Pair)
unless_repeated ps = if repeats_name ps then None else Some ps

-- the pairs that the words ask for, where each word is one and no name comes twice
abbrev pub wanted_pairs : List Text → Option (List Pair)
wanted_pairs words = option_and_then unless_repeated (all_pairs words)

-- `pick` has one or more pairs
abbrev pub pick_of : List Text → Option Command
pick_of [] = None
pick_of (word ∷ words) = option_map commands.Pick (wanted_pairs (word ∷ words))

-- ---- the other commands over streams

-- `describe` has no words
abbrev pub describe_of : List Text → Option Command
describe_of [] = Some commands.Describe
describe_of (word ∷ words) = None

-- `values` may have a number of decimals, and no words that stand alone
abbrev pub values_of : List Text → Option Text → Option Command
values_of [] None = Some (commands.Values None)
values_of [] (Some text) = option_map commands.Values (decimals_number text)
values_of (word ∷ words) decimals = None

-- `generate` has a number of messages
abbrev pub generate_of : List Text → Option Command
generate_of [] = None
generate_of (word ∷ []) = option_map commands.Generate (count_number word)
generate_of (word ∷ (other ∷ words)) = None

-- `split` has no words
abbrev pub split_of : List Text → Option Command
split_of [] = Some commands.Split
split_of (word ∷ words) = None

-- ---- commands over a store

-- a root is neither empty nor begins with a hyphen
abbrev pub is_root : Text → Bool
is_root [] = false
is_root (b ∷ bs) = not (b == 45)

-- the root, where one word stands alone and can be one
abbrev pub root_of : List Text → Option Text
root_of [] = None
root_of (word ∷ []) = if is_root word then Some word else None
root_of (word ∷ (other ∷ words)) = None

abbrev pub if_given : Result (List Pair) Refusal → Option (List Pair)
if_given (Ok pairs) = Some pairs
if_given (Err refusal) = None

-- the pairs that a text of fewer than 2^31 bytes gives, where it gives any
abbrev pub given_read : Text → Option (List Pair)
given_read text = if nat_lt (length text) (2 ^ 31) then if_given (given_of text) else None

-- the pairs of `--with`; without the option there are none
abbrev pub given_in : Option Text → Option (List Pair)
given_in option = given_read (unwrap_or option [])

abbrev pub unless_empty : List Pair → Option (List Pair)
unless_empty [] = None
unless_empty (p ∷ ps) = Some (p ∷ ps)

-- the pairs of a layer, of which there is at least one
abbrev pub layer_read : Text → Option (List Pair)
layer_read text = option_and_then unless_empty (given_read text)

abbrev pub layer_before : List Pair → Option (List (List Pair)) → Option (List (List Pair))
layer_before layer others = option_map (λ ls. layer ∷ ls) others

-- the layers that texts are, where each is one
abbrev pub all_layers : List Text → Option (List (List Pair))
all_layers [] = Some []
all_layers (text ∷ texts) = option_and_then (λ layer. layer_before layer (all_layers texts)) (layer_read text)

-- the layers of `--over`, the nearest first: one to seven, with slashes between them
abbrev pub layers_read : Text → Option (List (List Pair))
layers_read text = if nat_lt 7 (length (pieces 47 text)) then None else all_layers (pieces 47 text)

-- the number of `--workers`; without the option it is 1
abbrev pub workers_in : Option Text → Option ℕ
workers_in None = Some 1
workers_in (Some text) = worker_number text

-- the commands that have a root and no option, and list what a store holds or run lanes in it
abbrev pub listing_of : Text → Text → Option Command
listing_of name root =
    if bytes_eq name (codes "list") then Some (commands.List root)
    else if bytes_eq name (codes "axes") then Some (commands.Axes root)
    else if bytes_eq name (codes "stats") then Some (commands.Stats root)
    else if bytes_eq name (codes "cubes") then Some (commands.Cubes root)
    else if bytes_eq name (codes "session") then Some (commands.Session root)
    else None

-- `archive` with the pairs of `--with` and the number of `--workers`, where both have their form
abbrev pub archive_of : Text → Option (List Pair) → Option ℕ → Option Command
archive_of root given workers = option_and_then (λ pairs. option_map (commands.Archive root pairs) workers) given

-- `trial` of so many messages by so many workers, where both numbers have their form
abbrev pub trial_with : Option ℕ → Option ℕ → Text → Option Command
trial_with count workers root = option_and_then (λ n. option_map (commands.Trial root n) workers) count

-- `trial` has a root and a number of messages, in this order
abbrev pub trial_of : List Text → Option ℕ → Option Command
trial_of [] workers = None
trial_of (word ∷ []) workers = None
trial_of (word ∷ (number ∷ [])) workers = option_and_then (trial_with (count_number number) workers) (root_of (word ∷ []))
trial_of (word ∷ (number ∷ (other ∷ words))) workers = None

-- the root and the text of a dataset, where two words stand alone and can be these, in this order
abbrev pub root_and_dataset : List Text → Option (Text × Text)
root_and_dataset [] = None
root_and_dataset (word ∷ []) = None
root_and_dataset (word ∷ (text ∷ [])) = if is_root word && is_dataset text then Some (word, text) else None
root_and_dataset (word ∷ (text ∷ (other ∷ words))) = None

-- `purge` and `wipe` have a root and a dataset
abbrev pub purge_of : List Text → Option Command
purge_of words = option_map (λ p. commands.Purge p.0 p.1) (root_and_dataset words)

abbrev pub wipe_of : List Text → Option Command
wipe_of words = option_map (λ p. commands.Wipe p.0 p.1) (root_and_dataset words)

-- `retrieve` by so many workers, over layers where it has them, and where both have their form
abbrev pub retrieve_of : Option ℕ → Option Text → Text → Option Command
retrieve_of workers None root = option_map (commands.Retrieve root) workers
retrieve_of workers (Some text) root = option_and_then (λ layers. option_map (commands.RetrieveOver root layers) workers) (layers_read text)

-- The commands that have a root. A command has its line here, and its words their form, once it is written.
abbrev pub rooted : Text → Option (List Pair) → Option ℕ → Text → Option Command
rooted name given workers root =
    if bytes_eq name (codes "create") then Some (commands.Create root)
    else if bytes_eq name (codes "archive") then archive_of root given workers
    else listing_of name root

-- the command of that name, where the words behind it say this
abbrev pub command_said : Text → Said → Option Command
command_said name s =
    if bytes_eq name (codes "pick") then pick_of s.alone
    else if bytes_eq name (codes "describe") then describe_of s.alone
    else if bytes_eq name (codes "values") then values_of s.alone (lookup (bytes_eq (codes "decimals")) s.options)
    else if bytes_eq name (codes "generate") then generate_of s.alone
    else if bytes_eq name (codes "trial") then trial_of s.alone (workers_in (lookup (bytes_eq (codes "workers")) s.options))
    else if bytes_eq name (codes "retrieve") then option_and_then (retrieve_of (workers_in (lookup (bytes_eq (codes "workers")) s.options)) (lookup (bytes_eq (codes "over")) s.options)) (root_of s.alone)
    else if bytes_eq name (codes "split") then split_of s.alone
    else if bytes_eq name (codes "purge") then purge_of s.alone
    else if bytes_eq name (codes "wipe") then wipe_of s.alone
    else option_and_then (rooted name (given_in (lookup (bytes_eq (codes "with")) s.options)) (workers_in (lookup (bytes_eq (codes "workers")) s.options))) (root_of s.alone)

-- The command that the words ask for, or none where they have no form: a command's name, then its options, each at most
-- once, as `--name value` or `--name=value`, and the words that stand alone, in any order.
abbrev pub command_of : List Text → Option Command
command_of words = option_and_then (λ p. command_said p.0 p.1) (said words)

-- a layer has at least one pair, and its texts are values
abbrev pub IsLayer : List Pair → Type 0
IsLayer layer = (1 ≤ length layer) × AreValues layer

-- there are one to seven layers
pub record AreLayers (layers : List (List Pair)) : Type 0 where
  pub some : 1 ≤ length layers
  pub few : length layers ≤ 7
  pub each : All IsLayer layers

-- a command asks for at most 30 decimals, for 1 to 100,000 messages, and for 1 to 8 workers
abbrev pub IsWithinLimits : Command → Type 0
IsWithinLimits (commands.Values decimals) = IfSome decimals (λ d. d ≤ 30)
IsWithinLimits (commands.Generate count) = (0 < count) × (count ≤ 100000)
IsWithinLimits (commands.Pick wanted) = Unit {0}
IsWithinLimits commands.Describe = Unit {0}
IsWithinLimits commands.Split = Unit {0}
IsWithinLimits (commands.Create root) = Unit {0}
IsWithinLimits (commands.Archive root given workers) = (1 ≤ workers) × (workers ≤ 8)
IsWithinLimits (commands.Retrieve root workers) = (1 ≤ workers) × (workers ≤ 8)
IsWithinLimits (commands.RetrieveOver root layers workers) = ((1 ≤ workers) × (workers ≤ 8)) × AreLayers layers
IsWithinLimits (commands.List root) = Unit {0}
IsWithinLimits (commands.Axes root) = Unit {0}
IsWithinLimits (commands.Stats root) = Unit {0}
IsWithinLimits (commands.Cubes root) = Unit {0}
IsWithinLimits (commands.Session root) = Unit {0}
IsWithinLimits (commands.Purge root dataset) = Unit {0}
IsWithinLimits (commands.Wipe root dataset) = Unit {0}
IsWithinLimits (commands.Trial root count workers) = ((0 < count) × (count ≤ 100000)) × ((1 ≤ workers) × (workers ≤ 8))
