-- Any command of the program: from its name and the words after it to its own level.
use Rattle.std.proofs.Common.{◌≡◌, ◌∙◌, true, false, true≢false, refl, sym, ap, subst, List, [], ◌∷◌, Some, None, codes, map}
use Rattle.std.specs.Prelude.{fold, find}
use Rattle.std.specs.Str.{bytes_eq}
use Rattle.std.proofs.Math.Bool.{and-false}
use Rattle.clap.specs.Words.{Shape, Text, Row, fault_of, subcommand_of}
use Rattle.clap.specs.Walk.{idle, walk, walk_from, walked, rows_after, nothing_held, answers_to, subcommand_met}
use Rattle.clap.specs.Simple.{names_of, label_of}
use Rattle.clap.specs.Faults.{walk_fault, level_fault, turn_fault, defaults_fault}
use Rattle.clap.proofs.FaultLemmas.{stopped_fault}
use Rattle.fd_words.specs.Grammar.{Leaf, fdb_app, leaves, is_command, names_one, options_in, options_of}
use Rattle.fd_words.specs.Reading.{Said, reading, is_name, AreClean, Tells}
use Rattle.fd_words.proofs.LeafLemmas.{IsLeafOf, bytes_same, leaf_passes, leaf_rows, leaf_rules, none}
use Rattle.fd_words.proofs.RefusalLemmas.{leaf_refuses}
use Rattle.fd_words.proofs.TopLemmas.{fdb_built, shape_named, stopped_walk, or_else-nil}

-- the program has a command of this name, with these options
pub record IsCommand (name : Text) (options : List Text) (s : Shape) : Type 0 where
  pub met : subcommand_met (names_of fdb_built) idle name ≡ Some name
  pub found : find (λ x. answers_to name (label_of x)) fdb_built.subs ≡ Some s
  pub name_is : s.name ≡ name
  pub other : is_name options (codes "rest") ≡ false
  pub leaf : IsLeafOf options s

module _ (name : Text) (options : List Text) (s : Shape) (is : IsCommand name options s) where
  command_step : walked fdb_built.top.rules (names_of fdb_built) (walk_from nothing_held) name ≡ record (walk_from nothing_held) { stopped = Some (name, []) }
  unfolding walked
  command_step = rw is.met refl

  command_walk : (ws : List Text) → walk fdb_built.top.rules (names_of fdb_built) nothing_held (name ∷ ws) ≡ record (walk_from nothing_held) { stopped = Some (name, ws) }
  command_walk ws = ap (λ w. fold (walked fdb_built.top.rules (names_of fdb_built)) w ws) command_step
      ∙ stopped_walk fdb_built.top.rules (names_of fdb_built) (walk_from nothing_held) name [] ws

  command_turn : turn_fault fdb_built.top (names_of fdb_built) (walk_from nothing_held) name ≡ []
  command_turn = rw (is.met, and-false (bytes_eq name (codes "help"))) refl

  command_turns : (ws : List Text) → walk_fault fdb_built.top (names_of fdb_built) (walk_from nothing_held) (name ∷ ws) ≡ []
  unfolding walk_fault
  command_turns ws = rw (command_turn, command_step) (stopped_fault fdb_built.top (names_of fdb_built) (walk_from nothing_held) (name, []) ws)

  pub command_fault : (ws : List Text) → fault_of fdb_app (name ∷ ws) ≡ level_fault s [] nothing_held ws false []
  unfolding defaults_fault
  command_fault ws = rw (command_walk ws, command_turns ws, is.found, or_else-nil (level_fault s [] nothing_held ws false [])) refl

  pub command_passes : (ws : List Text) (end : Said) → reading options ws ≡ Some end → fault_of fdb_app (name ∷ ws) ≡ []
  command_passes ws end e = command_fault ws ∙ leaf_passes s options ws end is.other is.leaf e

  pub command_refuses : (ws : List Text) → AreClean ws → reading options ws ≡ None → fault_of fdb_app (name ∷ ws) ≡ [] → ⊥
  command_refuses ws clean e f = leaf_refuses s options ws is.other is.leaf clean e (sym (command_fault ws) ∙ f)

  pub command_rows : (ws : List Text) → subcommand_of fdb_app (name ∷ ws) ≡ Some (name, rows_after (leaf_rules options) none ws)
  command_rows ws = rw (command_walk ws, is.found, is.name_is, ap (λ (x : Shape). x.rules) is.leaf.shape) refl

  pub command_tells : (ws : List Text) (end : Said) → reading options ws ≡ Some end
      → (rows : List Row) × (subcommand_of fdb_app (name ∷ ws) ≡ Some (name, rows)) × Tells options end rows
  command_tells ws end e = (rows_after (leaf_rules options) none ws, command_rows ws, leaf_rows s options ws end is.other e)

-- ---- the commands of the program, each by one line

-- each of these is a command of the program
abbrev AreCommands : List Leaf → Type 0
AreCommands [] = Unit {0}
AreCommands (leaf ∷ rest) = IsCommand leaf.0 leaf.1 (shape_named leaf.0) × AreCommands rest

pick_is : IsCommand (codes "pick") [] (shape_named (codes "pick"))
pick_is = record { met = refl; found = refl; name_is = refl; other = refl; leaf = record { shape = refl; help = refl; subcommand = refl } }

describe_is : IsCommand (codes "describe") [] (shape_named (codes "describe"))
describe_is = record { met = refl; found = refl; name_is = refl; other = refl; leaf = record { shape = refl; help = refl; subcommand = refl } }

values_is : IsCommand (codes "values") (codes "decimals" ∷ []) (shape_named (codes "values"))
values_is = record { met = refl; found = refl; name_is = refl; other = refl; leaf = record { shape = refl; help = refl; subcommand = refl } }

generate_is : IsCommand (codes "generate") [] (shape_named (codes "generate"))
generate_is = record { met = refl; found = refl; name_is = refl; other = refl; leaf = record { shape = refl; help = refl; subcommand = refl } }

split_is : IsCommand (codes "split") [] (shape_named (codes "split"))
split_is = record { met = refl; found = refl; name_is = refl; other = refl; leaf = record { shape = refl; help = refl; subcommand = refl } }

create_is : IsCommand (codes "create") [] (shape_named (codes "create"))
create_is = record { met = refl; found = refl; name_is = refl; other = refl; leaf = record { shape = refl; help = refl; subcommand = refl } }

archive_is : IsCommand (codes "archive") (codes "with" ∷ (codes "workers" ∷ [])) (shape_named (codes "archive"))
archive_is = record { met = refl; found = refl; name_is = refl; other = refl; leaf = record { shape = refl; help = refl; subcommand = refl } }

trial_is : IsCommand (codes "trial") (codes "workers" ∷ []) (shape_named (codes "trial"))
trial_is = record { met = refl; found = refl; name_is = refl; other = refl; leaf = record { shape = refl; help = refl; subcommand = refl } }

retrieve_is : IsCommand (codes "retrieve") (codes "workers" ∷ (codes "over" ∷ [])) (shape_named (codes "retrieve"))
retrieve_is = record { met = refl; found = refl; name_is = refl; other = refl; leaf = record { shape = refl; help = refl; subcommand = refl } }

list_is : IsCommand (codes "list") [] (shape_named (codes "list"))
list_is = record { met = refl; found = refl; name_is = refl; other = refl; leaf = record { shape = refl; help = refl; subcommand = refl } }

axes_is : IsCommand (codes "axes") [] (shape_named (codes "axes"))
axes_is = record { met = refl; found = refl; name_is = refl; other = refl; leaf = record { shape = refl; help = refl; subcommand = refl } }

stats_is : IsCommand (codes "stats") [] (shape_named (codes "stats"))
stats_is = record { met = refl; found = refl; name_is = refl; other = refl; leaf = record { shape = refl; help = refl; subcommand = refl } }

cubes_is : IsCommand (codes "cubes") [] (shape_named (codes "cubes"))
cubes_is = record { met = refl; found = refl; name_is = refl; other = refl; leaf = record { shape = refl; help = refl; subcommand = refl } }

purge_is : IsCommand (codes "purge") [] (shape_named (codes "purge"))
purge_is = record { met = refl; found = refl; name_is = refl; other = refl; leaf = record { shape = refl; help = refl; subcommand = refl } }

wipe_is : IsCommand (codes "wipe") [] (shape_named (codes "wipe"))
wipe_is = record { met = refl; found = refl; name_is = refl; other = refl; leaf = record { shape = refl; help = refl; subcommand = refl } }

session_is : IsCommand (codes "session") [] (shape_named (codes "session"))
session_is = record { met = refl; found = refl; name_is = refl; other = refl; leaf = record { shape = refl; help = refl; subcommand = refl } }

all_are : AreCommands leaves
all_are = (pick_is, (describe_is, (values_is, (generate_is, (split_is, (create_is, (retrieve_is, (archive_is, (trial_is, (list_is, (axes_is, (stats_is, (cubes_is, (session_is, (purge_is, (wipe_is, tt))))))))))))))))

-- a name among them is that of one, with its options
abbrev Named : List Leaf → Text → Type 0
Named ls name = (s : Shape) × IsCommand name (options_in ls name) s

named_in : (ls : List Leaf) → AreCommands ls → (name : Text) → names_one ls name ≡ true → Named ls name
named_in [] are name h = absurd (true≢false (sym h))
named_in (leaf ∷ rest) are name h = (elim (bytes_eq leaf.0 name) as (λ c. bytes_eq leaf.0 name ≡ c → Named (leaf ∷ rest) name) [
  | true ↦ λ e. let same : leaf.0 ≡ name = bytes_same leaf.0 name e in
      (shape_named leaf.0, rw e (subst (λ n. IsCommand n leaf.1 (shape_named leaf.0)) same are.0))
  | false ↦ λ e. let later : Named rest name = named_in rest are.1 name (rw e at h) in (later.0, rw e later.1)
]) refl

pub named : (name : Text) → is_command name ≡ true → (s : Shape) × IsCommand name (options_of name) s
named name h = named_in leaves all_are name h

-- a name that is none of them is met by none
unmet : (ls : List Leaf) (name : Text) → names_one ls name ≡ false → find (answers_to name) (map (λ leaf. (leaf.0, [])) ls) ≡ None
unmet [] name h = refl
unmet (leaf ∷ rest) name h = (elim (bytes_eq leaf.0 name) as (λ c. bytes_eq leaf.0 name ≡ c → find (answers_to name) (map (λ leaf. (leaf.0, [])) (leaf ∷ rest)) ≡ None) [
  | true ↦ λ e. absurd (true≢false (rw e at h))
  | false ↦ λ e. rw e (unmet rest name (rw e at h))
]) refl

pub nameless : (name : Text) → is_command name ≡ false → find (answers_to name) (names_of fdb_built) ≡ None
nameless name h = unmet leaves name h
