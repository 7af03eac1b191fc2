-- The answer of a request in rounds: what one of them does.
use Rattle.std.specs.Prelude.{◌≤◌, ◌<◌, ◌-◌, ℕ, List, length, Option, Result, Ok, Err, IfErr, IfOk, OnOk}
use Rattle.fd_key.specs.Pairs as keys
use Rattle.fd_ahead.specs.declared.located.Located.{Located}
use Rattle.fd_outcome.specs.Asking.{Answer}
use Rattle.fd_outcome.specs.Objects.{Failed, IsCalm, Object}
use Rattle.fd_answering.specs.declared.answering.Halt.{Halt}
use Rattle.fd_answering.specs.Finding.{IsAnswered, IsAnsweredInPart, OnDamaged, OnUnwritten, TookSome}
use Rattle.fd_answering.specs.Located.{AreAt}
use Rattle.fd_answering.specs.Damages.{IsDamagedAt}
use Rattle.fd_ahead.specs.Places.{Open}

module _ (os : List Open) (ks : List (List keys.Pair)) (located : List (Option Located)) (from to found : ℕ) (output report : Object (List ℕ)) where
  -- Where the keys before the first of the round were answered, since the output and the report had taken a and c, those before the
  -- round's end are now.
  abbrev pub AnswersOn : ℕ → Type 0
  AnswersOn more = (xs : List Answer) (a c : Option (List ℕ)) → AreAt os ks xs located
      → IsAnswered xs from a output.before c report.before found (from - found) → IsAnswered xs to a output.now c report.now more (to - more)

  -- fronts of all that is found and told were taken
  abbrev pub AnswersInPart : Type 0
  AnswersInPart = (xs : List Answer) (a c : Option (List ℕ)) → AreAt os ks xs located
      → IsAnswered xs from a output.before c report.before found (from - found) → IsAnsweredInPart xs a output.now c report.now

module _ {F X : Type 0} (os : List Open) (ks : List (List keys.Pair)) (located : List (Option Located)) (from to found : ℕ) (output report : Object (List ℕ)) where
  -- The keys from one number up to another were answered, and counted with those that were found before; or why not all of them.
  pub record IsRound (result : Result ℕ (Halt F X)) : Type 0 where
    pub answered : IfOk result (AnswersOn os ks located from to found output report)
    pub counted : IfOk result (λ more. more ≤ to)
    pub halted : IfErr result (λ e. AnswersInPart os ks located from to found output report)
    pub output_later : output.faults_before ≤ output.faults_now
    pub calm : OnOk result (IsCalm output)
    pub report_later : report.faults_before ≤ report.faults_now
    pub cause : IfErr result (λ e. OnUnwritten e (Failed output) (Failed report))
    pub damaged : IfErr result (λ e. OnDamaged e (IsDamagedAt os))
    pub grew : TookSome report.before report.now

module _ {F X : Type 0} (os : List Open) (ks : List (List keys.Pair)) (located : List (Option Located)) (from to found : ℕ) (output report : Object (List ℕ)) where
  -- Some keys were answered, from one number on and at most up to another: the number of the next one, and how many were counted
  -- with those that were found before; or why not all of them.
  abbrev pub IsStep : Result (ℕ × ℕ) (Halt F X) → Type 0
  IsStep (Ok r) = (from < r.0) × (r.0 ≤ to) × IsRound {F = F} {X = X} os ks located from r.0 found output report (Ok r.1)
  IsStep (Err e) = IsRound os ks located from to found output report (Err e)

module _ {F X : Type 0} (os : List Open) (ks : List (List keys.Pair)) (located : List (Option Located)) (output report : Object (List ℕ)) where
  -- All keys were answered, and those found and those missed were counted; or why not all of them.
  pub record IsWhole (result : Result (ℕ × ℕ) (Halt F X)) : Type 0 where
    pub answered : IfOk result (λ r. (xs : List Answer) → AreAt os ks xs located → IsAnswered xs (length xs) output.before output.now report.before report.now r.0 r.1)
    pub halted : IfErr result (λ e. (xs : List Answer) → AreAt os ks xs located → IsAnsweredInPart xs output.before output.now report.before report.now)
    pub output_later : output.faults_before ≤ output.faults_now
    pub calm : OnOk result (IsCalm output)
    pub report_later : report.faults_before ≤ report.faults_now
    pub cause : IfErr result (λ e. OnUnwritten e (Failed output) (Failed report))
    pub damaged : IfErr result (λ e. OnDamaged e (IsDamagedAt os))
    pub grew : TookSome report.before report.now
