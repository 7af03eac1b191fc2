use Rattle.std.proofs.Common.{◌≡◌, ℕ, List, [], ◌<◌, length, take, refl, sym, ap, subst, ◌∙◌, arith, Option, length-take}
use Rattle.fd_io.specs.Streams.{Gives}
use Rattle.fd_streams.proofs.feeding.feed_piece.Goals as goal

-- what was read, as it was fed
given_piece : (left after : Option (List ℕ)) (piece into : List ℕ) → Gives left after into → piece ≡ into → Gives left after piece
given_piece left after piece into gives e = subst (λ (x : List ℕ). Gives left after x) (sym e) gives

nonzero : (n : ℕ) → (n ≡ 0 → ⊥) → 0 < n
nonzero n h = omega arith

pub returns-then-n-eq0-clause-fed : goal.returns-then-n-eq0-clause-fed
returns-then-n-eq0-clause-fed g c = record {
  end = c.in-Ok.ensures.end c.if-n-eq0.true;
  gives = given_piece (g.I.Source.left c.args.input.now) (g.I.Source.left c.read_piece.new.input) [] _ c.in-Ok.ensures.given (sym (ap (λ (n : ℕ). take n c.read_piece.new.buffer) c.if-n-eq0.true));
  kept = refl;
}

pub returns-then-total-eq-INPUT_LIMIT-clause-fed : goal.returns-then-total-eq-INPUT_LIMIT-clause-fed
returns-then-total-eq-INPUT_LIMIT-clause-fed g c =
    let long : length (take c.in-Ok.n c.read_piece.new.buffer) ≡ c.in-Ok.n = omega (arith, length-take c.in-Ok.n c.read_piece.new.buffer, c.in-Ok.ensures.bound, c.read_piece.ensures.room) in (
      refl,
      record {
        full = sym c.fed-total.ensures.fed ∙ c.if-total-eq-INPUT_LIMIT.true;
        piece = take c.in-Ok.n c.read_piece.new.buffer;
        some = omega (arith, long, nonzero c.in-Ok.n c.if-n-eq0.false);
        gives = c.in-Ok.ensures.given;
      },
    )

pub returns-in-Ok-feed-clause-fed : goal.returns-in-Ok-feed-clause-fed
returns-in-Ok-feed-clause-fed g c =
    let piece = c.split_at.result.0.now in
    let below : c.fed-total.result < 68719476736 = omega (arith, c.requires.limit, c.fed-total.ensures.fed, c.if-total-eq-INPUT_LIMIT.false) in
    record {
      piece = piece;
      some = omega (arith, c.split_at.ensures.front_len, nonzero c.in-Ok.n c.if-n-eq0.false);
      few = omega (arith, c.fed-total.ensures.fed, c.split_at.ensures.front_len, c.in-Ok.ensures.within below);
      gives = given_piece (g.I.Source.left c.args.input.now) (g.I.Source.left c.read_piece.new.input) piece _ c.in-Ok.ensures.given c.split_at.ensures.front;
      is_fed = c.in-Ok-feed.ensures.ok;
    }
