-- What the parser makes of words is what they say.
use Rattle.std.proofs.Common.{◌≡◌, ◌∙◌, ℕ, true, false, true≢false, refl, sym, ap, subst, List, [], ◌∷◌, Option, Some, None}
use Rattle.std.specs.Prelude.{option_map, option_and_then, unwrap_or, is_some, slice_get, map, ◌≢◌}
use Rattle.std.specs.Borrow.{Bor}
use Rattle.std.specs.Map.{lookup}
use Rattle.clap.specs.declared.parser.matches.Found.{Found}
use Rattle.clap.specs.declared.parser.matches.MatchedArg.{MatchedArg}
use Rattle.clap.specs.Matches.{first_value, matched_of, raw_values}
use Rattle.clap.specs.Words.{all_of, rows_of}
use Rattle.clap.proofs.WalkLemmas.{raw_values-rows}
use Rattle.clap.specs.declared.parser.matches.ArgMatches.{ArgMatches}
use Rattle.clap.specs.Words.{Shape, fault_of, subcommand_of, subcommand_rows_of}
use Rattle.fd_words.specs.Grammar.{fdb_app, is_command, options_of}
use Rattle.std.specs.Str.{bytes_eq}
use Rattle.fd_words.specs.Reading.{Text, Said, reading, has_dash, double_dash, AreClean, Tells, alone_of, is_name}
use Rattle.std.specs.Prelude.{codes}
use Rattle.fd_key.specs.Pairs.{Pair}
use Rattle.fd_words.specs.declared.command.Command.{Command}
use Rattle.fd_words.specs.Saying.{said, Means}
use Rattle.fd_words.specs.Words.{archive_of, rooted, command_said, retrieve_of, root_of, trial_of, values_of, workers_in}
use Rattle.fd_words.proofs.CommandLemmas.{IsCommand, command_passes, command_refuses, command_tells, named, nameless}
use Rattle.fd_words.proofs.LeafLemmas.{bytes_same}
use Rattle.fd_words.proofs.UnknownLemmas.{no_words, unknown_command}
use Rattle.fd_words.proofs.CleanLemmas.{dash_refused}

-- words that the parser takes say what it hands out
pub taken_means : (m : ArgMatches) (words : List Text) → AreClean words → fault_of fdb_app words ≡ [] → subcommand_rows_of m ≡ subcommand_of fdb_app words → Means m (said words)
taken_means m [] clean none rows = absurd (no_words none)
taken_means m (name ∷ ws) clean none rows = (elim (is_command name) as (λ c. is_command name ≡ c → Means m (said (name ∷ ws))) [
  | true ↦ λ is. let of : (s : Shape) × IsCommand name (options_of name) s = named name is in
      (elim (reading (options_of name) ws) as (λ o. reading (options_of name) ws ≡ o → Means m (said (name ∷ ws))) [
        | None ↦ λ e. absurd (command_refuses name (options_of name) of.0 of.1 ws clean.1 e none)
        | Some s ↦ λ e. let t = command_tells name (options_of name) of.0 of.1 ws s e in rw (is, e) (t.0, rows ∙ t.1, t.2)
      ]) refl
  | false ↦ λ is. absurd (unknown_command name ws (nameless name is) clean.0 none)
]) refl

-- words that it refuses say nothing
pub refused_says_nothing : (words : List Text) → fault_of fdb_app words ≢ [] → said words ≡ None
refused_says_nothing [] some = refl
refused_says_nothing (name ∷ ws) some = (elim (is_command name) as (λ c. is_command name ≡ c → said (name ∷ ws) ≡ None) [
  | true ↦ λ is. let of : (s : Shape) × IsCommand name (options_of name) s = named name is in
      (elim (reading (options_of name) ws) as (λ o. reading (options_of name) ws ≡ o → said (name ∷ ws) ≡ None) [
        | None ↦ λ e. rw (is, e) refl
        | Some s ↦ λ e. absurd (some (command_passes name (options_of name) of.0 of.1 ws s e))
      ]) refl
  | false ↦ λ is. rw is refl
]) refl

-- nor do words with `--` among them
pub dash_says_nothing : (words : List Text) → has_dash words ≡ true → said words ≡ None
dash_says_nothing [] h = refl
dash_says_nothing (name ∷ ws) h = (elim (is_command name) as (λ c. is_command name ≡ c → said (name ∷ ws) ≡ None) [
  | false ↦ λ is. rw is refl
  | true ↦ λ is. (elim (bytes_eq name double_dash) as (λ c. bytes_eq name double_dash ≡ c → said (name ∷ ws) ≡ None) [
    | true ↦ λ e. absurd (true≢false (sym (subst (λ n. is_command n ≡ true) (bytes_same name double_dash e) is)))
    | false ↦ λ e. let nothing : reading (options_of name) ws ≡ None = dash_refused (options_of name) ws (rw e at h) in rw (is, nothing) refl
  ]) refl
]) refl

-- ---- what it hands out

pub first_of_all : (f : Found) (name : Text) → first_value f name ≡ option_and_then (λ (vs : List Text). slice_get vs 0) (all_of name (rows_of f))
first_of_all f name = go (matched_of f name) ∙ ap (option_and_then (λ (vs : List Text). slice_get vs 0)) (raw_values-rows f name)
  where
    inner : (xs : List (Bor Text)) → option_map (λ s. s.now) (slice_get xs 0) ≡ slice_get (map (λ s. s.now) xs) 0
    inner [] = refl
    inner (x ∷ xs) = refl

    go : (o : Option MatchedArg) → option_and_then (λ a. option_map (λ s. s.now) (slice_get a.vals.items 0)) o ≡ option_and_then (λ (vs : List Text). slice_get vs 0) (option_map raw_values o)
    go None = refl
    go (Some a) = inner a.vals.items

single : (o : Option Text) → option_and_then (λ (vs : List Text). slice_get vs 0) (option_map (λ v. v ∷ []) o) ≡ o
single None = refl
single (Some v) = refl

-- the text of an option is what was said
pub option_is : (f : Found) (names : List Text) (s : Said) (name : Text) → Tells names s (rows_of f) → is_name names name ≡ true → first_value f name ≡ lookup (bytes_eq name) s.options
option_is f names s name tells among =
    first_of_all f name ∙ ap (option_and_then (λ (vs : List Text). slice_get vs 0)) (tells.option name among) ∙ single (lookup (bytes_eq name) s.options)

-- no word stands alone, or these do
pub none_alone : (xs : List Text) → alone_of xs ≡ None → xs ≡ []
none_alone [] e = refl
none_alone (x ∷ xs) e = absurd (true≢false (ap is_some e))

pub some_alone : (xs ys : List Text) → alone_of xs ≡ Some ys → xs ≡ ys
some_alone [] ys e = absurd (true≢false (sym (ap is_some e)))
some_alone (x ∷ xs) ys e = ap (λ o. unwrap_or o []) e

-- ---- `archive`

pub archive_named : (name : Text) → bytes_eq name (codes "archive") ≡ true → is_name (options_of name) (codes "with") ≡ true
archive_named name h = subst (λ n. is_name (options_of n) (codes "with") ≡ true) (sym (bytes_same name (codes "archive") h)) refl

pub archive_counts : (name : Text) → bytes_eq name (codes "archive") ≡ true → is_name (options_of name) (codes "workers") ≡ true
archive_counts name h = subst (λ n. is_name (options_of n) (codes "workers") ≡ true) (sym (bytes_same name (codes "archive") h)) refl

pub archive_rooted : (name : Text) → bytes_eq name (codes "archive") ≡ true → (given : Option (List Pair)) (workers : Option ℕ) (root : Text) → rooted name given workers root ≡ archive_of root given workers
archive_rooted name h given workers root = subst (λ n. rooted n given workers root ≡ archive_of root given workers) (sym (bytes_same name (codes "archive") h)) refl

-- ---- `retrieve`

pub retrieve_counts : (name : Text) → bytes_eq name (codes "retrieve") ≡ true → is_name (options_of name) (codes "workers") ≡ true
retrieve_counts name h = subst (λ n. is_name (options_of n) (codes "workers") ≡ true) (sym (bytes_same name (codes "retrieve") h)) refl

pub retrieve_lays : (name : Text) → bytes_eq name (codes "retrieve") ≡ true → is_name (options_of name) (codes "over") ≡ true
retrieve_lays name h = subst (λ n. is_name (options_of n) (codes "over") ≡ true) (sym (bytes_same name (codes "retrieve") h)) refl

abbrev pub retrieve_in : Said → Option Command
retrieve_in s = option_and_then (retrieve_of (workers_in (lookup (bytes_eq (codes "workers")) s.options)) (lookup (bytes_eq (codes "over")) s.options)) (root_of s.alone)

pub retrieve_said : (name : Text) → bytes_eq name (codes "retrieve") ≡ true → (s : Said) → command_said name s ≡ retrieve_in s
retrieve_said name h s = subst (λ n. command_said n s ≡ retrieve_in s) (sym (bytes_same name (codes "retrieve") h)) refl

-- ---- `values`

pub values_named : (name : Text) → bytes_eq name (codes "values") ≡ true → is_name (options_of name) (codes "decimals") ≡ true
values_named name h = subst (λ n. is_name (options_of n) (codes "decimals") ≡ true) (sym (bytes_same name (codes "values") h)) refl

pub values_said : (name : Text) → bytes_eq name (codes "values") ≡ true → (s : Said) → command_said name s ≡ values_of s.alone (lookup (bytes_eq (codes "decimals")) s.options)
values_said name h s = subst (λ n. command_said n s ≡ values_of s.alone (lookup (bytes_eq (codes "decimals")) s.options)) (sym (bytes_same name (codes "values") h)) refl

-- ---- `trial`

pub trial_named : (name : Text) → bytes_eq name (codes "trial") ≡ true → is_name (options_of name) (codes "workers") ≡ true
trial_named name h = subst (λ n. is_name (options_of n) (codes "workers") ≡ true) (sym (bytes_same name (codes "trial") h)) refl

pub trial_said : (name : Text) → bytes_eq name (codes "trial") ≡ true → (s : Said) → command_said name s ≡ trial_of s.alone (workers_in (lookup (bytes_eq (codes "workers")) s.options))
trial_said name h s = subst (λ n. command_said n s ≡ trial_of s.alone (workers_in (lookup (bytes_eq (codes "workers")) s.options))) (sym (bytes_same name (codes "trial") h)) refl
