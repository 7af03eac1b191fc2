-- A run that ends with 0 or 1, and one that doesn't; and a schema that lets a run begin.
use Rattle.std.proofs.Common.{◌≡◌, ◌∙◌, ℕ, false, true≢false, List, Option, Some, None, IfSome, sym, ap}
use Rattle.std.specs.Prelude.{◌⊎◌}
use Rattle.std.specs.Result.{IsErr, is_err}
use Rattle.fd_disk.specs.Folders.{Holdings}
use Rattle.fd_stored.specs.declared.status.Status.{Status}
use Rattle.fd_stored.specs.declared.status.Status.TheVariants.{Done, Missed}
use Rattle.fd_outcome.specs.Asking.{rules_of}
use Rattle.fd_outcome.specs.Told.{Told}
use Rattle.fd_outcome.proofs.Exits.{is_whole, never_whole}
use Rattle.fd_telling.specs.declared.stop.Stop.{Stop}
use Rattle.fd_telling.specs.Stops.{ToldStop}
use Rattle.fd_retrieve.proofs.RetrieveExits.{told_not_whole}
use Rattle.fd_retrieve.proofs.StopExits.{stop_not_whole}
use Rattle.fd_retrieve.proofs.Unread.{unread_same}
use Rattle.fd_contents.specs.Asked.{IsRuled}

-- ---- a run that tells why it stops ends neither with 0 nor with 1

module _ (P : Type 0) (result : Status) (c d : Option (List ℕ)) (m n : ℕ) where
  pub told_whole : (s : Status) (text : List ℕ) → is_whole s ≡ false → Told s text result c d m n → (result ≡ Done) ⊎ (result ≡ Missed) → P
  told_whole s text other told = never_whole P result (told_not_whole s result text c d m n other told)

  pub stop_whole : {F : Type 0} (stop : Stop F) → ToldStop stop result c d m n → (result ≡ Done) ⊎ (result ≡ Missed) → P
  stop_whole stop told = never_whole P result (stop_not_whole stop result c d m n told)

-- ---- a schema that has rules is fit

pub fit : (has : Option Holdings) (P : Type 0) → IfSome has (λ h. IsRuled h.schema) → IfSome has (λ h. IsErr (rules_of h.schema) → P)
fit None P ruled = tt
fit (Some h) P ruled = λ unfit. absurd (true≢false (sym unfit ∙ ap is_err ruled.1))

pub ruleset fitting = (fit, unread_same)
