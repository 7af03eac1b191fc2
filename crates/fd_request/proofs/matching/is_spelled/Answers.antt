use Rattle.std.proofs.Common.{◌≡◌, ◌+◌, ℤ, ℕ, pos, ◌+ℤ◌, w64, to_z, sym, ap, ◌∙◌, List, arith}
use Rattle.std.proofs.lemmas.Int.{ints}
use Rattle.std.specs.Str.{bytes_eq}
use Rattle.std.specs.Fmt.{signed_decimal}
use Rattle.jiff_core.specs.Date.{epoch_day}
use Rattle.fd_spelling.specs.Civil.{date_text, time_text}
use Rattle.fd_request.specs.declared.end.End as code_end
use Rattle.fd_request.specs.Ranges.{text_behind}
use Rattle.fd_request.specs.Seen.{seen_end}
use Rattle.fd_request.proofs.Ends.{day_text_is, day_fits}
use Rattle.fd_request.proofs.matching.is_spelled.Goals as goal

pub returns-in-Number : goal.returns-in-Number
unfolding text_behind
returns-in-Number c =
    let z : c.in-Number.number ≡ c.in-Number.number +ℤ pos 0 = omega (arith, ints) in
    c.is_number.ensures ∙ ap (λ (y : ℤ). bytes_eq c.args.text.now (signed_decimal y)) z ∙ ap (λ (e : code_end.End). bytes_eq c.args.text.now (text_behind (seen_end e) 0)) (sym c.in-Number.is)

pub returns-in-Hour : goal.returns-in-Hour
unfolding text_behind
returns-in-Hour c =
    let h : c.in-Hour.hour ≡ c.in-Hour.hour + 0 = omega arith in
    c.is_hour.ensures ∙ ap (λ (t : List ℕ). bytes_eq t (time_text c.in-Hour.hour 0 0)) c.as_bytes.ensures.value
    ∙ ap (λ (i : ℕ). bytes_eq c.args.text.now (time_text i 0 0)) h ∙ ap (λ (e : code_end.End). bytes_eq c.args.text.now (text_behind (seen_end e) 0)) (sym c.in-Hour.is)

pub returns-in-OnDay : goal.returns-in-OnDay
returns-in-OnDay c =
    let d = c.in-OnDay.day in
    let here : epoch_day d.date ≡ epoch_day d.date +ℤ to_z w64 0 = omega (arith, ints) in
    let is = day_text_is d 0 d.date c.from.result c.from-in-OnDay.result c.from-in-OnDay-2.result (day_fits d) here (c.from.ensures ∙ c.unsigned_abs.ensures.value) c.from-in-OnDay.ensures c.from-in-OnDay-2.ensures in
    c.is_day.ensures ∙ ap (λ (t : List ℕ). bytes_eq t (date_text c.from.result c.from-in-OnDay.result c.from-in-OnDay-2.result)) c.as_bytes-in-OnDay.ensures.value ∙ ap (bytes_eq c.args.text.now) is ∙ ap (λ (e : code_end.End). bytes_eq c.args.text.now (text_behind (seen_end e) 0)) (sym c.in-OnDay.is)
