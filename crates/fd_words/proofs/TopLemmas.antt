-- From the program's words to a command's.
use Rattle.std.proofs.Common.{◌≡◌, ◌∙◌, refl, sym, ap, List, [], ◌∷◌, ◌++◌, Some, append_assoc, append-nil}
use Rattle.std.specs.Prelude.{fold, find, unwrap_or}
use Rattle.clap.specs.Words.{App, Rule, Shape, Text, Kinds, built}
use Rattle.clap.specs.Kinds.{or_else}
use Rattle.clap.specs.Walk.{Names, Walk, walked, answers_to}
use Rattle.clap.specs.Simple.{label_of}
use Rattle.fd_words.specs.Grammar.{fdb_app}

pub stopped_walk : (c : List Rule) (names : Names) (w : Walk) (name : Text) (xs ws : List Text)
    → fold (walked c names) (record w { stopped = Some (name, xs) }) ws ≡ record w { stopped = Some (name, xs ++ ws) }
unfolding walked
stopped_walk c names w name xs [] = ap (λ ys. record w { stopped = Some (name, ys) }) (sym (append-nil xs))
stopped_walk c names w name xs (x ∷ ws) = stopped_walk c names w name (xs ++ x ∷ []) ws ∙ ap (λ ys. record w { stopped = Some (name, ys) }) (append_assoc xs (x ∷ []) ws)

pub or_else-nil : (k : Kinds) → or_else k [] ≡ k
or_else-nil [] = refl
or_else-nil (x ∷ xs) = refl

abbrev pub fdb_built : App
fdb_built = built fdb_app

-- a command's shape
abbrev pub shape_named : Text → Shape
shape_named name = unwrap_or (find (λ s. answers_to name (label_of s)) fdb_built.subs) fdb_built.top
