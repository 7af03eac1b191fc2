use Rattle.std.proofs.Common.{◌≡◌, ◌-◌, ◌+◌, ◌*◌, ◌%◌, ◌^◌, ◌∷◌, ◌++◌, [], List, ℕ, length, replicate, sym, ap, ◌∙◌, arith}
use Rattle.std.proofs.lemmas.Nat.{shl_whole}
use Rattle.fd_packing.specs.Bits.{bits_of, binary}
use Rattle.fd_packing.proofs.BitLemmas.{filled, length-view, none_pending}
use Rattle.fd_packing.proofs.writer.BitWriter.finish.Goals as goal
use Rattle.fd_packing.proofs.writer.BitWriter.finish.Goals.{then-count-gt0+in_ok-push, else-count-gt0}

pub returns : goal.returns
returns c =
    let s = c.self.inside in
    let len : length c.args.self ≡ 8 * length s.bytes.items + s.count = ap (length {A = ℕ}) (sym c.self.view_is) ∙ length-view s.bytes.items s.count s.partial in
    let mine = ap (λ (t : List ℕ). t ++ replicate ((8 - length c.args.self % 8) % 8) 0) c.self.view_is in
    elim c.if-count-gt0.branch [
      | then-count-gt0+in_ok-push w ↦
          let byte : s.partial * 2 ^ (8 - s.count) % 256 ≡ s.partial * 2 ^ (8 - s.count) = shl_whole s.partial s.count (8 - s.count) 8 c.self.invariant.1 (omega arith) in
          let zeros : 8 - s.count ≡ (8 - length c.args.self % 8) % 8 = omega (arith, len, c.self.invariant.0) in
          ap (λ v. bits_of v.items) w.bytes-is ∙ ap bits_of (w.in_ok-push.ensures.items ∙ ap (λ b. s.bytes.items ++ b ∷ []) byte)
          ∙ filled s.bytes.items s.count s.partial (omega (arith, c.self.invariant.0)) ∙ ap (λ z. (bits_of s.bytes.items ++ binary s.count s.partial) ++ replicate z 0) zeros ∙ mine
      | else-count-gt0 w ↦
          let zeros : 0 ≡ (8 - length c.args.self % 8) % 8 = omega (arith, len) in
          ap (λ v. bits_of v.items) w.bytes-is ∙ none_pending s.bytes.items s.count s.partial (omega arith) ∙ ap (λ z. (bits_of s.bytes.items ++ binary s.count s.partial) ++ replicate z 0) zeros ∙ mine
    ]
