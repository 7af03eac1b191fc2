use Rattle.std.proofs.Common.{◌≡◌, ◌∙◌, ◌++◌, ℕ, true, List, ap, arith, length, length-append, replicate}
use Rattle.std.specs.List.{list_all}
use Rattle.std.specs.Char.{is_ascii_digit}
use Rattle.std.proofs.lemmas.List.{length-replicate}
use Rattle.fd_spelling.proofs.Zeros.{digits_joined, digits_taken, digits_dropped}
use Rattle.fd_spelling.proofs.levels.push_reduced.Goals as goal

pub push_str-requires : goal.push_str-requires
push_str-requires c =
    let zeros : c.push_zeros.new.out.bytes ≡ replicate c.args.zeros 48 = c.push_zeros.ensures.zeros ∙ ap (λ (t : List ℕ). t ++ replicate c.args.zeros 48) c.new-all.ensures in
    omega (arith, ap length zeros, length-replicate {A = ℕ} c.args.zeros 48, c.requires.room)

pub split_at-requires : goal.split_at-requires
split_at-requires c =
    let bytes : c.as_bytes.result.now ≡ c.push_zeros.new.out.bytes ++ c.args.digits.now = c.as_bytes.ensures.value ∙ c.as_str.ensures.value ∙ c.push_str.ensures.bytes in
    rw bytes (omega (arith, length-append c.push_zeros.new.out.bytes c.args.digits.now))

pub push_level-requires-clause-whole : goal.push_level-requires-clause-whole
push_level-requires-clause-whole c =
    let bytes : c.as_bytes.result.now ≡ c.push_zeros.new.out.bytes ++ c.args.digits.now = c.as_bytes.ensures.value ∙ c.as_str.ensures.value ∙ c.push_str.ensures.bytes in
    let digits : list_all is_ascii_digit (c.push_zeros.new.out.bytes ++ c.args.digits.now) ≡ true = digits_joined c.push_zeros.new.out.bytes c.args.digits.now c.push_zeros.ensures.digits c.requires.digits in
    rw (c.split_at.ensures.front, bytes) (digits_taken (length c.args.digits.now) (c.push_zeros.new.out.bytes ++ c.args.digits.now) digits)

pub push_level-requires-clause-fraction : goal.push_level-requires-clause-fraction
push_level-requires-clause-fraction c =
    let bytes : c.as_bytes.result.now ≡ c.push_zeros.new.out.bytes ++ c.args.digits.now = c.as_bytes.ensures.value ∙ c.as_str.ensures.value ∙ c.push_str.ensures.bytes in
    let digits : list_all is_ascii_digit (c.push_zeros.new.out.bytes ++ c.args.digits.now) ≡ true = digits_joined c.push_zeros.new.out.bytes c.args.digits.now c.push_zeros.ensures.digits c.requires.digits in
    rw (c.split_at.ensures.back, bytes) (digits_dropped (length c.args.digits.now) (c.push_zeros.new.out.bytes ++ c.args.digits.now) digits)
