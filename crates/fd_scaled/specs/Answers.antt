-- What is answered when a number is written with some decimals.
use Rattle.std.specs.Prelude.{◌≡◌, ℕ, true, false, Result, Ok, Err, String}
use Rattle.std.specs.declared.alloc.Global.{Global}
use Rattle.std.specs.String.{string_bytes}
use Rattle.fd_scaled.specs.declared.Scaled.{Scaled}
use Rattle.fd_scaled.specs.declared.fault.DecimalFault.{DecimalFault}
use Rattle.fd_scaled.specs.declared.fault.DecimalFault.TheVariants.{TooWide, NoMemory}
use Rattle.fd_scaled.specs.Decimal.{is_too_wide, rounded_text}

-- too wide exactly where a part of the fraction is; want of memory only where none is
abbrev pub DecimalsAre : Scaled → ℕ → Result (String Global) DecimalFault → Type 0
DecimalsAre s d (Ok t) = (is_too_wide s d ≡ false) × (string_bytes t ≡ rounded_text s d)
DecimalsAre s d (Err TooWide) = is_too_wide s d ≡ true
DecimalsAre s d (Err NoMemory) = is_too_wide s d ≡ false
