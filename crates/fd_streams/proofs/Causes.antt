-- Where the counts of faults were as before until now, a cause is one from the beginning on.
use Rattle.std.proofs.Common.{◌≡◌, ◌∙◌, ℕ, false, subst, sym, true≢false}
use Rattle.fd_bytes.specs.Causes.{Rose}
use Rattle.fd_streams.specs.declared.listing.Halt.{Halt}
use Rattle.fd_streams.specs.declared.listing.Halt.TheVariants as halts
use Rattle.fd_streams.specs.declared.feeding.Stop.{Stop}
use Rattle.fd_streams.specs.declared.feeding.Stop.TheVariants as stop
use Rattle.fd_streams.specs.Found.{StopsInput, is_fault}
use Rattle.fd_streams.specs.Halted.{Stops, StopsOutput, halt_of}

pub output_before : {X : Type 0} (halt : Halt X) (k m l : ℕ) → m ≡ k → StopsOutput halt m l → StopsOutput halt k l
output_before (halts.Unread fault) k m l calm cause = absurd cause
output_before (halts.Unwritten fault) k m l calm cause = subst (λ (n : ℕ). Rose n l) calm cause
output_before (halts.Refused refusal) k m l calm cause = cause ∙ calm
output_before halts.NoMemory k m l calm cause = cause ∙ calm

pub both_before : {X : Type 0} (halt : Halt X) (i j k m l : ℕ) → j ≡ i → m ≡ k → StopsOutput halt m l → Stops halt i j k l
both_before (halts.Unread fault) i j k m l read calm cause = absurd cause
both_before (halts.Unwritten fault) i j k m l read calm cause = (read, subst (λ (n : ℕ). Rose n l) calm cause)
both_before (halts.Refused refusal) i j k m l read calm cause = (read, cause ∙ calm)
both_before halts.NoMemory i j k m l read calm cause = (read, cause ∙ calm)

pub input_calm : {X : Type 0} (e : Stop X) (i j : ℕ) → is_fault e ≡ false → j ≡ i → StopsInput e i j
input_calm (stop.Fault fault) i j no_fault calm = absurd (true≢false no_fault)
input_calm (stop.Refused refusal) i j no_fault calm = calm
input_calm stop.NoMemory i j no_fault calm = calm

pub input_before : {X : Type 0} (e : Stop X) (i m j : ℕ) → m ≡ i → StopsInput e m j → StopsInput e i j
input_before (stop.Fault fault) i m j calm cause = subst (λ (n : ℕ). Rose n j) calm cause
input_before (stop.Refused refusal) i m j calm cause = cause ∙ calm
input_before stop.NoMemory i m j calm cause = cause ∙ calm

pub input_stops : {X : Type 0} (e : Stop X) (halt : Halt X) (i m j k l : ℕ) → halt ≡ halt_of e → m ≡ i → l ≡ k → StopsInput e m j → Stops halt i j k l
input_stops (stop.Fault fault) halt i m j k l is read calm cause = subst (λ (h : Halt _). Stops h i j k l) (sym is) (subst (λ (n : ℕ). Rose n j) read cause, calm)
input_stops (stop.Refused refusal) halt i m j k l is read calm cause = subst (λ (h : Halt _). Stops h i j k l) (sym is) (cause ∙ read, calm)
input_stops stop.NoMemory halt i m j k l is read calm cause = subst (λ (h : Halt _). Stops h i j k l) (sym is) (cause ∙ read, calm)
