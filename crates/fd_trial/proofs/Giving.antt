-- The pairs that each message of a trial is given, by computation.
use Rattle.std.proofs.Common.{◌≡◌, ◌∙◌, List, refl, subst, sym}
use Rattle.std.specs.Prelude.{Result, Ok, Err, codes}
use Rattle.fd_spelling.specs.Canonical.{param_numbers, spelling, canonical, pair_of}
use Rattle.fd_spelling.specs.Civil.{date_text, time_text, date_in, date_spelling, time_in, time_spelling}
use Rattle.fd_key.specs.declared.fault.GivenFault.{GivenFault}
use Rattle.fd_key.specs.Reading.{Refuses}
use Rattle.fd_key.specs.Given.{Refusal, plain_pair, with_piece, pairs_from, given_of}
use Rattle.fd_spelling.specs.Levels.{levtype_text, types_in, levtype_spelling, level_text, unsigned_level, level_spelling, levelist_spelling, scaled_text}
use Rattle.fd_key.specs.Fields.{surface_text}
use Rattle.fd_spelling.specs.Numerals.{number_up_to, cut}
use Rattle.fd_key.specs.Pairs.{Pair}
use Rattle.fd_spelling.specs.Steps.{step_text, unit_of, unsigned_step, step_spelling}
use Rattle.fd_outcome.specs.Trying.{trial_given}

given_is : given_of (codes "class=od,expver=0001") ≡ Ok trial_given
unfolding param_numbers spelling canonical pair_of date_text time_text date_in date_spelling time_in time_spelling plain_pair with_piece pairs_from given_of levtype_text types_in levtype_spelling level_text unsigned_level level_spelling levelist_spelling scaled_text surface_text number_up_to cut step_text unit_of unsigned_step step_spelling
given_is = refl

ok_is : (x y : List Pair) → (let r : Result (List Pair) Refusal = Ok x in r ≡ Ok y) → x ≡ y
ok_is x y e = cc

pub given_so : (ps : List Pair) → given_of (codes "class=od,expver=0001") ≡ Ok ps → ps ≡ trial_given
given_so ps e = ok_is ps trial_given (sym e ∙ given_is)

no_ok : (r : Refusal) (y : List Pair) → (let x : Result (List Pair) Refusal = Err r in x ≡ Ok y) → ⊥
no_ok r y e = absurd cc

-- they aren't refused
pub never_refused : (r : Refusal) → given_of (codes "class=od,expver=0001") ≡ Err r → ⊥
never_refused r e = no_ok r trial_given (sym e ∙ given_is)

-- the same of a fault of the call
pub never : (f g : GivenFault) (r : Refusal) → f ≡ g → Refuses f (given_of (codes "class=od,expver=0001")) → (Refuses g (given_of (codes "class=od,expver=0001")) → given_of (codes "class=od,expver=0001") ≡ Err r) → ⊥
never f g r is refuses says = never_refused r (says (subst (λ (h : GivenFault). Refuses h (given_of (codes "class=od,expver=0001"))) is refuses))
