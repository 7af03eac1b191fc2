use Rattle.std.proofs.Common.{◌∙◌, ◌≤◌, ◌++◌, ℕ, List, length, ap, string_bytes, arith}
use Rattle.fd_transcript.specs.declared.history.Listed.{Listed}
use Rattle.fd_transcript.specs.History.{flushed_within}
use Rattle.fd_transcript.specs.Seen.{seen_flush}
use Rattle.fd_transcript.proofs.Pieces.{piece_all}
use Rattle.fd_transcript.proofs.Flushes.{flat_view}
use Rattle.fd_transcript.proofs.history.push_within.Goals as goal

pub returns : goal.returns
returns c =
    let xs = c.args.listed.now in
    let i = c.loop-flush.flush-index in
    let le : length xs ≤ i = omega (arith, c.loop-flush-test.false) in
    c.loop-flush.invariant ∙ ap (λ (t : List ℕ). string_bytes c.args.line.now ++ t) (piece_all (λ (x : Listed). flushed_within c.args.before c.args.last (seen_flush x)) xs i le ∙ flat_view (flushed_within c.args.before c.args.last) seen_flush xs)
