use Rattle.std.proofs.Common.{◌≡◌, ◌∙◌, ◌++◌, ℕ, List, ap, arith, length}
use Rattle.fd_spelling.proofs.levels.push_enlarged.Goals as goal

pub push_zeros-requires-clause-room : goal.push_zeros-requires-clause-room
push_zeros-requires-clause-room c =
    let bytes : c.push_str.new.self.bytes ≡ c.args.digits.now = c.push_str.ensures.bytes ∙ ap (λ (t : List ℕ). t ++ c.args.digits.now) c.new-all.ensures in
    omega (arith, ap length bytes, c.requires.room)

pub push_zeros-requires-clause-digits : goal.push_zeros-requires-clause-digits
push_zeros-requires-clause-digits c =
    let bytes : c.push_str.new.self.bytes ≡ c.args.digits.now = c.push_str.ensures.bytes ∙ ap (λ (t : List ℕ). t ++ c.args.digits.now) c.new-all.ensures in
    rw bytes c.requires.digits
