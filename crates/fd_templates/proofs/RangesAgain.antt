-- Time ranges that were written are read again.
use Rattle.std.proofs.Common.{◌≡◌, ℕ, zero, suc, ◌<◌, ◌+◌, ◌-◌, ◌*◌, List, [], ◌∷◌, ◌++◌, take, drop, length, length-append, get_or, refl, ap, ◌∙◌, arith}
use Rattle.fd_templates.specs.declared.interval.Range.{Range}
use Rattle.fd_templates.specs.declared.interval.Interval.{Interval}
use Rattle.fd_templates.specs.Octets.{number, octets_of}
use Rattle.fd_templates.specs.DateTime.{date_time_octets}
use Rattle.fd_templates.specs.Interval.{range_of, ranges_of, count_of, interval_of, range_octets, ranges_octets, end_octets}
use Rattle.fd_templates.specs.Widths.{RangeRanges, AllRanges, IntervalRanges}
use Rattle.fd_templates.proofs.Again.{one_again, two_again, four_again}

-- one range more
pub all_push : (rs : List Range) (i : ℕ) (d : Range) → i < length rs → AllRanges (take i rs) → RangeRanges (get_or rs i d) → AllRanges (take (suc i) rs)
all_push [] i d lt all f = absurd (omega arith)
all_push (r ∷ rs) zero d lt all f = (f, tt)
all_push (r ∷ rs) (suc i) d lt all f = (all.0, all_push rs i d (omega arith) all.1 f)

range_again : (r : Range) (rest : List ℕ) → RangeRanges r → range_of (range_octets r ++ rest) ≡ r
unfolding number octets_of range_octets
range_again r rest f =
    rw (
      one_again r.process f.process,
      one_again r.increment_kind f.increment_kind,
      one_again r.unit f.unit,
      four_again r.length f.length,
      one_again r.increment_unit f.increment_unit,
      four_again r.increment f.increment,
    ) refl

range_behind : (r : Range) (rest : List ℕ) → drop 12 (range_octets r ++ rest) ≡ rest
unfolding octets_of range_octets
range_behind r rest = refl

pub ranges_again : (rs : List Range) → AllRanges rs → ranges_of (length rs) (ranges_octets rs) ≡ rs
unfolding ranges_of ranges_octets
ranges_again [] f = refl
ranges_again (r ∷ rs) f =
    ap (λ (q : Range). q ∷ ranges_of (length rs) (drop 12 (range_octets r ++ ranges_octets rs))) (range_again r (ranges_octets rs) f.0)
    ∙ ap (λ (s : List ℕ). r ∷ ranges_of (length rs) s) (range_behind r (ranges_octets rs)) ∙ ap (λ (qs : List Range). r ∷ qs) (ranges_again rs f.1)

range_long : (r : Range) → length (range_octets r) ≡ 12
unfolding octets_of range_octets
range_long r = refl

pub ranges_long : (rs : List Range) → length (ranges_octets rs) ≡ 12 * length rs
unfolding ranges_octets
ranges_long [] = refl
ranges_long (r ∷ rs) = omega (arith, length-append (range_octets r) (ranges_octets rs), range_long r, ranges_long rs)

-- ---- an interval

pub count_again : (i : Interval) → IntervalRanges i → count_of (end_octets i ++ ranges_octets i.ranges) ≡ length i.ranges
unfolding number octets_of date_time_octets end_octets
count_again i f = one_again (length i.ranges) (omega (arith, f.few))

end_behind : (i : Interval) (rest : List ℕ) → drop 12 (end_octets i ++ rest) ≡ rest
unfolding octets_of date_time_octets end_octets
end_behind i rest = refl

-- the numbers before the ranges, and any ranges
abbrev with_ranges : Interval → List Range → Interval
with_ranges i rs = record {
  end = i.end;
  missing = i.missing;
  ranges = rs;
}

front_again : (i : Interval) (rest : List ℕ) → IntervalRanges i → interval_of (end_octets i ++ rest) ≡ with_ranges i (ranges_of (count_of (end_octets i ++ rest)) (drop 12 (end_octets i ++ rest)))
unfolding number octets_of date_time_octets end_octets
front_again i rest f =
    rw (
      two_again i.end.year f.end.year,
      one_again i.end.month f.end.month,
      one_again i.end.day f.end.day,
      one_again i.end.hour f.end.hour,
      one_again i.end.minute f.end.minute,
      one_again i.end.second f.end.second,
      four_again i.missing f.missing,
    ) refl

pub interval_again : (i : Interval) → IntervalRanges i → interval_of (end_octets i ++ ranges_octets i.ranges) ≡ i
interval_again i f =
    let rest : List ℕ = ranges_octets i.ranges in
    front_again i rest f
    ∙ ap (λ n. with_ranges i (ranges_of n (drop 12 (end_octets i ++ rest)))) (count_again i f)
    ∙ ap (λ (s : List ℕ). with_ranges i (ranges_of (length i.ranges) s)) (end_behind i rest)
    ∙ ap (λ (rs : List Range). with_ranges i rs) (ranges_again i.ranges f.ranges)

end_long : (i : Interval) → length (end_octets i) ≡ 12
unfolding octets_of date_time_octets end_octets
end_long i = refl

pub interval_long : (i : Interval) → length (end_octets i ++ ranges_octets i.ranges) ≡ 12 + 12 * length i.ranges
interval_long i = omega (arith, length-append (end_octets i) (ranges_octets i.ranges), end_long i, ranges_long i.ranges)

-- the next range, and those behind it
pub ranges_step : (n i : ℕ) (s : List ℕ) → i < n → ranges_of (n - i) s ≡ range_of s ∷ ranges_of (n - (i + 1)) (drop 12 s)
unfolding ranges_of
ranges_step n i s lt = let e : n - i ≡ suc (n - (i + 1)) = omega arith in ap (λ k. ranges_of k s) e
