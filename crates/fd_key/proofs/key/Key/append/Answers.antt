use Rattle.std.proofs.Common.{◌≡◌, ◌∙◌, ◌++◌, ◌∷◌, ◌+◌, [], ap, sym, refl, length, drop, List, arith, append_assoc, length-append, length-drop}
use Rattle.std.proofs.lemmas.List.{append-nil, drop_all}
use Rattle.fd_key.specs.Pairs.{Pair}
use Rattle.fd_key.specs.Given.{differ_after}
use Rattle.fd_key.proofs.PairLaws.{drop_from_slice_get, count_within_text, key_text_joined}
use Rattle.fd_key.proofs.NameLaws.{first_differs, differ_after_own}
use Rattle.fd_key.proofs.key.Key.append.Goals as goal

pub loop-i-init : goal.loop-i-init
loop-i-init c =
    let d = differ_after_own c.args.self.now [] c.args.given.now c.requires.own c.len-i-end.ensures.names.free c.len-i-end.ensures.names.differ in
    (refl, rw append-nil at d)

pub add-requires-clause-room : goal.add-requires-clause-room
add-requires-clause-room c =
    omega (arith, ap length c.loop-i.invariant.0, length-append c.loop-i.self (drop c.loop-i.i c.args.given.now), length-append c.args.self.now c.args.given.now, length-drop c.loop-i.i c.args.given.now, count_within_text c.args.self.now, count_within_text c.args.given.now, c.len-i-end.ensures.names.short)

pub add-requires-clause-other : goal.add-requires-clause-other
add-requires-clause-other c =
    let p : Pair = (c.short_pair.result.0.now, c.short_pair.result.1.now) in
    let at = drop_from_slice_get c.args.given.now c.loop-i.i p c.short_pair.ensures.pair in
    (first_differs c.loop-i.self p (drop (c.loop-i.i + 1) c.args.given.now) (rw at at c.loop-i.invariant.1)).0

pub loop-i-preserved : goal.loop-i-preserved
loop-i-preserved c =
    let p : Pair = (c.short_pair.result.0.now, c.short_pair.result.1.now) in
    let others : List Pair = drop (c.loop-i.i + 1) c.args.given.now in
    let at : drop c.loop-i.i c.args.given.now ≡ p ∷ others = drop_from_slice_get c.args.given.now c.loop-i.i p c.short_pair.ensures.pair in
    let new : c.add.new.self ≡ c.loop-i.self ++ p ∷ [] = c.in_ok-add.ensures.pair in (
      ap (λ ps. ps ++ others) new ∙ append_assoc c.loop-i.self (p ∷ []) others ∙ ap (λ ps. c.loop-i.self ++ ps) (sym at) ∙ c.loop-i.invariant.0,
      ap (λ ps. differ_after ps others) new ∙ (first_differs c.loop-i.self p others (rw at at c.loop-i.invariant.1)).1,
    )

pub returns-clause-pairs : goal.returns-clause-pairs
returns-clause-pairs c =
    let none : drop c.loop-i.i c.args.given.now ≡ [] = drop_all c.loop-i.i c.args.given.now (omega arith) in
    sym (append-nil c.loop-i.self) ∙ ap (λ ps. c.loop-i.self ++ ps) (sym none) ∙ c.loop-i.invariant.0

pub returns-clause-short : goal.returns-clause-short
returns-clause-short c =
    let all : c.loop-i.self ≡ c.args.self.now ++ c.args.given.now = returns-clause-pairs c in
    rw all (omega (arith, key_text_joined c.args.self.now c.args.given.now, c.len-i-end.ensures.names.short))
