-- The text of a transcript.
use Rattle.std.specs.Prelude.{ℕ, List, ◌++◌, codes, flat_map}
use Rattle.std.specs.Fmt.{decimal}
use Rattle.fd_listing.specs.Lines.{line}
use Rattle.fd_script.specs.declared.script.Lane.{Lane}
use Rattle.fd_lanes.specs.declared.end.End.{End}
use Rattle.fd_transcript.specs.Lines.{all_told, step_lines}
use Rattle.fd_transcript.specs.History.{all_flushed, history_line, in_order}

-- the line of the number of entries before
abbrev pub before_line : ℕ → List ℕ
before_line before = line (codes "before " ++ decimal before)

-- The entries before, the listed flushes in the order of the table, and the steps of each lane with their ends.
abbrev pub transcript_text : {F : Type 0} → ℕ → List Lane → List (List (End F)) → List ℕ
transcript_text before lanes ends = before_line before ++ (history_line (in_order before (all_flushed lanes ends)) ++ flat_map step_lines (all_told lanes ends))
