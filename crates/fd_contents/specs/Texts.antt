-- The lines of datasets.
use Rattle.std.specs.Prelude.{ℕ, List, [], ◌∷◌, option_map, Option, Some}
use Rattle.fd_disk.specs.Folders.{Holdings, folder_at}
use Rattle.fd_entries.specs.declared.batch.Pair.{Pair}
use Rattle.fd_outcome.specs.Outcome.{both, stats_of}
use Rattle.fd_outcome.specs.Rows.{axes_text, list_text}
use Rattle.fd_stored.specs.Store.{entries_in, table_at}
use Rattle.fd_contents.specs.declared.lines.Lines.{Lines}
use Rattle.fd_contents.specs.declared.lines.Lines.TheVariants as lines

-- what is written of one dataset that has these batches, where there are any
abbrev pub text_with : Lines → Holdings → List ℕ → Option (List (List Pair)) → Option (List ℕ)
text_with (lines.List keywords) h name t = option_map (list_text keywords name) t
text_with (lines.Axes keywords) h name t = option_map (axes_text keywords name) t
text_with lines.Stats h name t = stats_of name (entries_in name (folder_at h name).table) t

-- what is written of one dataset, where it isn't damaged
abbrev pub text_for : Lines → Holdings → List ℕ → Option (List ℕ)
text_for l h name = text_with l h name (table_at h name)

-- and of each of these, one after the other
abbrev pub texts_for : Lines → Holdings → List (List ℕ) → Option (List ℕ)
texts_for l h [] = Some []
texts_for l h (name ∷ names) = both (text_for l h name) (texts_for l h names)
