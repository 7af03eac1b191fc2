-- What is spelled of the values of a message.
use Rattle.std.specs.Prelude.{ℕ, List, ◌++◌, codes}
use Rattle.std.specs.Fmt.{decimal}
use Rattle.fd_spelling.specs.Canonical.{param_text}
use Rattle.fd_spelling.specs.Civil.{date_text, time_text}
use Rattle.fd_spelling.specs.Levels.{levtype_text, scaled_text}
use Rattle.fd_spelling.specs.Steps.{step_text}
use Rattle.fd_key.specs.declared.value.Scaled.{Scaled}
use Rattle.fd_key.specs.declared.value.Levels.{Levels}
use Rattle.fd_key.specs.declared.value.Levels.TheVariants as levels
use Rattle.fd_key.specs.declared.value.Value.{Value}
use Rattle.fd_key.specs.declared.value.Value.TheVariants as values

abbrev pub level_of : Scaled → List ℕ
level_of s = scaled_text s.factor s.value

-- the values of two surfaces, of which one may be missing
abbrev pub both_of : Levels → List ℕ
both_of (levels.First v) = level_of v
both_of (levels.Second w) = codes "_" ++ level_of w
both_of (levels.Both v w) = level_of v ++ codes "_" ++ level_of w

abbrev pub value_text : Value → List ℕ
value_text (values.Number number) = decimal number
value_text (values.Date year month day) = date_text year month day
value_text (values.Time hour minute second) = time_text hour minute second
value_text (values.Param discipline category number) = param_text discipline category number
value_text (values.Levtype first second) = levtype_text first second
value_text (values.Surfaces both) = both_of both
value_text (values.Step negative number unit) = step_text negative number unit
