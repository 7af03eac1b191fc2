use Rattle.std.proofs.Common.{◌≡◌, ◌∷◌, ◌+◌, [], List, ap, arith, drop, length, sym}
use Rattle.std.proofs.lemmas.Bool.{le-leb, lt-leb}
use Rattle.std.proofs.lemmas.List.{drop_all}
use Rattle.fd_key.specs.Pairs.{Pair, key_text, rest_text}
use Rattle.fd_key.proofs.PairLaws.{drop_from_slice_get, key_from_rest, length-rest_text}
use Rattle.fd_key.proofs.key.Key.text_fits.Goals.{then-room-lt2-via-then-room-lt2, then-room-lt2-via-else-room-lt2+then-room-both}
use Rattle.fd_key.proofs.key.Key.text_fits.Goals as goal

pub returns-then-room-lt2 : goal.returns-then-room-lt2
returns-then-room-lt2 c =
    let key = c.args.self.now in
    let p : Pair = (c.pair.result.0.now, c.pair.result.1.now) in
    let rest : List Pair = drop (c.loop-i.i + 1) key in
    let at : drop c.loop-i.i key ≡ p ∷ rest = drop_from_slice_get key c.loop-i.i p c.pair.ensures in
    sym (elim c.then-room-lt2.branch [
      | then-room-lt2-via-then-room-lt2 w ↦ lt-leb (length (key_text key)) c.args.most
          (omega (arith, ap (λ (ps : List Pair). length (rest_text ps)) at, length-rest_text p rest, c.loop-i.invariant, key_from_rest key, w.if-room-lt2.true))
      | then-room-lt2-via-else-room-lt2+then-room-both w ↦ lt-leb (length (key_text key)) c.args.most
          (omega (arith, ap (λ (ps : List Pair). length (rest_text ps)) at, length-rest_text p rest, c.loop-i.invariant, key_from_rest key, w.if-room-lt2.false, w.if-room-both.true, c.saturating_add-both.ensures))
    ])

pub loop-i-preserved : goal.loop-i-preserved
loop-i-preserved c =
    let key = c.args.self.now in
    let p : Pair = (c.pair.result.0.now, c.pair.result.1.now) in
    let rest : List Pair = drop (c.loop-i.i + 1) key in
    let at : drop c.loop-i.i key ≡ p ∷ rest = drop_from_slice_get key c.loop-i.i p c.pair.ensures in
    omega (arith, ap (λ (ps : List Pair). length (rest_text ps)) at, length-rest_text p rest, c.loop-i.invariant, c.if-room-lt2.false, c.if-room-both.false, c.saturating_add-both.ensures)

pub returns : goal.returns
returns c =
    let key = c.args.self.now in
    let none : drop c.loop-i.i key ≡ [] = drop_all c.loop-i.i key (omega arith) in
    sym (le-leb (length (key_text key)) c.args.most (omega (arith, ap (λ (ps : List Pair). length (rest_text ps)) none, c.loop-i.invariant, key_from_rest key)))
