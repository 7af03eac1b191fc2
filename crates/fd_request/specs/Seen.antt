-- What the code's words, days and ends are, and what holds of them.
use Rattle.std.specs.Prelude.{ℕ, ◌^◌, ℤ, pos, neg_ℤ, ◌+ℤ◌, ◌≤ℤ◌, unsigned_abs, List, map}
use Rattle.jiff_core.specs.declared.civil.date.Date as code_date
use Rattle.fd_request.specs.declared.word.Word as code_word
use Rattle.fd_request.specs.declared.day.Day as code_day
use Rattle.fd_request.specs.declared.end.End as code_end
use Rattle.fd_request.specs.declared.end.End.TheVariants as ends
use Rattle.fd_request.specs.Ranges.{Day, End, Number, Hour, OnDay, place}
use Rattle.fd_request.specs.Grammar.{Word}

abbrev pub seen_word : code_word.Word → Word
seen_word w = record { at = w.at; text = w.text.now; behind = w.behind }

abbrev pub seen_words : List code_word.Word → List Word
seen_words ws = map seen_word ws

abbrev pub seen_date : code_date.Date → Day
seen_date d = record { year = unsigned_abs d.year; month = d.month; day = d.day }

abbrev pub seen_day : code_day.Day → Day
seen_day d = seen_date d.date

abbrev pub seen_end : code_end.End → End
seen_end (ends.Number z) = Number z
seen_end (ends.Hour h) = Hour h
seen_end (ends.OnDay d) = OnDay (seen_day d)

-- the last number, hour and day that a range may come to
unfoldable pub most : End → ℤ
most (Number z) = pos (10 ^ 15)
most (Hour h) = pos 23
most (OnDay d) = pos 2_932_896

-- an end, and the value so far behind it, have a text
pub record Fits (first : End) (far : ℕ) : Type 0 where
  pub low : neg_ℤ (pos (10 ^ 15)) ≤ℤ place first
  pub high : (place first +ℤ pos far) ≤ℤ most first
