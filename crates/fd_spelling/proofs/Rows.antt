-- Worked examples of values, computed from the definitions.
use Rattle.std.proofs.Common.{◌≡◌, ℕ, List, [], ◌∷◌, Option, Some, None, refl}
use Rattle.std.specs.Prelude.{codes}
use Rattle.std.specs.Fmt.{digits}
use Rattle.fd_spelling.specs.Numerals.{number_up_to, cut}
use Rattle.fd_spelling.specs.Civil.{date_text, time_text, date_in, date_spelling, time_in, time_spelling}
use Rattle.fd_spelling.specs.Levels.{levtype_text, types_in, levtype_spelling, level_text, unsigned_level, level_spelling, levelist_spelling}
use Rattle.fd_spelling.specs.Steps.{step_text, unit_of, unsigned_step, step_spelling}
use Rattle.fd_spelling.specs.Stats.{parts_text, part_spelling, parts_spelled, joined_spelling, stat_spelling}
use Rattle.fd_spelling.specs.Canonical.{param_numbers, spelling, canonical}

abbrev steps : List (Option (List ℕ))
steps =
    canonical (codes "step") (codes "120m") ∷ canonical (codes "STEP") (codes "90M") ∷ canonical (codes "step") (codes "-0") ∷ canonical (codes "step") (codes "0005u03")
    ∷ canonical (codes "step") (codes "3601s") ∷ canonical (codes "step") (codes "5u1") ∷ canonical (codes "step") (codes "5u256") ∷ canonical (codes "step") (codes "1234567890123456") ∷ []

steps_are : steps ≡ Some (codes "2") ∷ Some (codes "90m") ∷ Some (codes "0") ∷ Some (codes "5u3") ∷ Some (codes "3601s") ∷ None ∷ None ∷ None ∷ []
unfolding canonical spelling step_spelling unsigned_step unit_of step_text number_up_to digits
steps_are = refl

abbrev times : List (Option (List ℕ))
times =
    canonical (codes "time") (codes "12:00") ∷ canonical (codes "time") (codes "6") ∷ canonical (codes "time") (codes "12:00:05") ∷ canonical (codes "time") (codes "120000")
    ∷ canonical (codes "time") (codes "123") ∷ canonical (codes "time") (codes "1260") ∷ canonical (codes "time") (codes "24") ∷ []

times_are : times ≡ Some (codes "1200") ∷ Some (codes "0600") ∷ Some (codes "120005") ∷ Some (codes "1200") ∷ None ∷ None ∷ None ∷ []
unfolding canonical spelling time_spelling time_in time_text number_up_to digits
times_are = refl

abbrev dates : List (Option (List ℕ))
dates =
    canonical (codes "date") (codes "2024-02-30") ∷ canonical (codes "date") (codes "2024-02-29") ∷ canonical (codes "date") (codes "19000229") ∷ canonical (codes "date") (codes "00000101") ∷ []

dates_are : dates ≡ None ∷ Some (codes "20240229") ∷ None ∷ Some (codes "00000101") ∷ []
unfolding canonical spelling date_spelling date_in date_text number_up_to digits
dates_are = refl

abbrev levels : List (Option (List ℕ))
levels =
    canonical (codes "levelist") (codes "0850.0") ∷ canonical (codes "levelist") (codes "-0.0") ∷ canonical (codes "levelist") (codes "1.50_02") ∷ canonical (codes "levelist") (codes "_007")
    ∷ canonical (codes "levelist") (codes ".5") ∷ canonical (codes "levelist") (codes "5.") ∷ canonical (codes "levelist") (codes "1_") ∷ canonical (codes "levtype") (codes "100-255") ∷ canonical (codes "levtype") (codes "001-02") ∷ []

levels_are : levels ≡ Some (codes "850") ∷ Some (codes "0") ∷ Some (codes "1.5_2") ∷ Some (codes "_7") ∷ None ∷ None ∷ None ∷ Some (codes "100") ∷ Some (codes "1-2") ∷ []
unfolding canonical spelling levelist_spelling level_spelling unsigned_level level_text levtype_spelling types_in levtype_text cut number_up_to digits
levels_are = refl

abbrev others : List (Option (List ℕ))
others =
    canonical (codes "centre") (codes "00098") ∷ canonical (codes "centre") (codes "65536") ∷ canonical (codes "type") (codes "256") ∷ canonical (codes "param") (codes "0.002.3") ∷ canonical (codes "param") (codes "0.0.0.0")
    ∷ canonical (codes "class") (codes "OD") ∷ canonical (codes "number") (codes "007") ∷ canonical (codes "class") [] ∷ canonical (codes "9x") (codes "1") ∷ []

others_are : others ≡ Some (codes "98") ∷ None ∷ None ∷ Some (codes "0.2.3") ∷ None ∷ Some (codes "od") ∷ Some (codes "7") ∷ None ∷ None ∷ []
unfolding canonical spelling param_numbers cut number_up_to digits
others_are = refl

abbrev stats : List (Option (List ℕ))
stats =
    canonical (codes "stat") (codes "1.360m+0.06") ∷ canonical (codes "STAT") (codes "NONE") ∷ canonical (codes "stat") (codes "001.3600S") ∷ canonical (codes "stat") (codes "1.-6") ∷ canonical (codes "stat") (codes "256.6")
    ∷ canonical (codes "stat") (codes "1.6+") ∷ canonical (codes "stat") (codes "none+1.6") ∷ canonical (codes "number") (codes "256") ∷ []

stats_are : stats ≡ Some (codes "1.6+0.6") ∷ Some (codes "none") ∷ Some (codes "1.1") ∷ None ∷ None ∷ None ∷ None ∷ None ∷ []
unfolding canonical spelling stat_spelling joined_spelling parts_spelled parts_text part_spelling unsigned_step unit_of step_text cut number_up_to digits
stats_are = refl
