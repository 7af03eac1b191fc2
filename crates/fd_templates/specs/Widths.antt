-- The range of each number of section 4, and of the reference time of section 1, by its type.
use Rattle.std.specs.Prelude.{◌^◌, ◌<◌, ◌≤◌, List, [], ◌∷◌, length, IfSome}
use Rattle.fd_templates.specs.declared.date_time.DateTime.{DateTime}
use Rattle.fd_templates.specs.declared.product.Product.{Product}
use Rattle.fd_templates.specs.declared.ensemble.Ensemble.{Ensemble}
use Rattle.fd_templates.specs.declared.interval.Range.{Range}
use Rattle.fd_templates.specs.declared.interval.Interval.{Interval}
use Rattle.fd_templates.specs.declared.any_product.AnyProduct.{AnyProduct}

pub record ProductRanges (p : Product) : Type 0 where
  pub coordinates : p.coordinates < 2 ^ 16
  pub category : p.category < 2 ^ 8
  pub parameter : p.parameter < 2 ^ 8
  pub generating_process_type : p.generating_process_type < 2 ^ 8
  pub background_process : p.background_process < 2 ^ 8
  pub process_identifier : p.process_identifier < 2 ^ 8
  pub cutoff_hours : p.cutoff_hours < 2 ^ 16
  pub cutoff_minutes : p.cutoff_minutes < 2 ^ 8
  pub time_unit : p.time_unit < 2 ^ 8
  pub first_surface_type : p.first_surface_type < 2 ^ 8
  pub second_surface_type : p.second_surface_type < 2 ^ 8

pub record EnsembleRanges (e : Ensemble) : Type 0 where
  pub kind : e.kind < 2 ^ 8
  pub number : e.number < 2 ^ 8
  pub size : e.size < 2 ^ 8

pub record DateTimeRanges (t : DateTime) : Type 0 where
  pub year : t.year < 2 ^ 16
  pub month : t.month < 2 ^ 8
  pub day : t.day < 2 ^ 8
  pub hour : t.hour < 2 ^ 8
  pub minute : t.minute < 2 ^ 8
  pub second : t.second < 2 ^ 8

pub record RangeRanges (r : Range) : Type 0 where
  pub process : r.process < 2 ^ 8
  pub increment_kind : r.increment_kind < 2 ^ 8
  pub unit : r.unit < 2 ^ 8
  pub length : r.length < 2 ^ 32
  pub increment_unit : r.increment_unit < 2 ^ 8
  pub increment : r.increment < 2 ^ 32

abbrev pub AllRanges : List Range → Type 0
AllRanges [] = Unit {0}
AllRanges (r ∷ rs) = RangeRanges r × AllRanges rs

pub record IntervalRanges (i : Interval) : Type 0 where
  pub end : DateTimeRanges i.end
  pub missing : i.missing < 2 ^ 32
  pub few : length i.ranges ≤ 255
  pub ranges : AllRanges i.ranges

pub record AnyRanges (p : AnyProduct) : Type 0 where
  pub base : ProductRanges p.base
  pub ensemble : IfSome p.ensemble EnsembleRanges
  pub interval : IfSome p.interval IntervalRanges
