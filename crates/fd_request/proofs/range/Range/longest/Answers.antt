use Rattle.std.proofs.Common.{◌≡◌, ◌<◌, ◌-◌, ◌*◌, ◌∙◌, ap, refl, arith, length}
use Rattle.std.specs.Prelude.{string_bytes}
use Rattle.fd_request.specs.Ranges.{text_behind}
use Rattle.fd_request.specs.Seen.{seen_end}
use Rattle.fd_request.specs.Values.{seen_range}
use Rattle.fd_request.proofs.RangeLaws.{count_is, value_at, same_bytes_len, longest_of_range}
use Rattle.fd_request.proofs.range.Range.longest.Goals as goal

pub text-requires : goal.text-requires
text-requires c = let some = c.args.self.now.some in omega (arith, count_is c.args.self.now)

pub text-requires-2 : goal.text-requires-2
text-requires-2 c = let some = c.args.self.now.some in omega (arith, count_is c.args.self.now)

pub returns : goal.returns
returns c =
    let r = c.args.self.now in
    let some = r.some in
    let nought : 0 < length (seen_range r) = omega (arith, count_is r) in
    let last : r.count - 1 < length (seen_range r) = omega (arith, count_is r) in
    let a : length (string_bytes c.in_ok-first.first) ≡ length (text_behind (seen_end r.first) (0 * r.step)) =
    same_bytes_len (seen_range r) 0 (string_bytes c.in_ok-first.first) (text_behind (seen_end r.first) (0 * r.step)) c.in_ok-first.ensures (value_at r 0 r.step nought refl) in
    let b : length (string_bytes c.in_ok-last.last) ≡ length (text_behind (seen_end r.first) ((r.count - 1) * r.step)) =
    same_bytes_len (seen_range r) (r.count - 1) (string_bytes c.in_ok-last.last) (text_behind (seen_end r.first) ((r.count - 1) * r.step)) c.in_ok-last.ensures (value_at r (r.count - 1) r.step last refl) in
    let zero : 0 * r.step ≡ 0 = omega arith in
    let front : c.len.result ≡ length (text_behind (seen_end r.first) (0 * r.step)) = omega (arith, c.len.ensures, a) in
    let back : c.len-2.result ≡ length (text_behind (seen_end r.first) ((r.count - 1) * r.step)) = omega (arith, c.len-2.ensures, b) in
    c.larger.ensures ∙ longest_of_range r c.len.result c.len-2.result (front ∙ ap (λ k. length (text_behind (seen_end r.first) k)) zero) back
