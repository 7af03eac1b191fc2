-- What was printed of datasets, also where some of them are damaged.
use Rattle.std.specs.Prelude.{◌≡◌, ℕ, List, Option, Some, IfSome}
use Rattle.std.specs.List.{AllZip, concat}
use Rattle.fd_io.specs.Streams.{Takes}
use Rattle.fd_disk.specs.Folders.{Holdings, folder_at}
use Rattle.fd_entries.specs.declared.batch.Pair.{Pair}
use Rattle.fd_recovery.specs.Recovered.{IsUndamaged}
use Rattle.fd_stored.specs.declared.status.Status.{Status}
use Rattle.fd_stored.specs.declared.status.Status.TheVariants.{Done}
use Rattle.fd_outcome.specs.Noticing.{IsTextOf}
use Rattle.fd_outcome.specs.Objects.{Object}
use Rattle.fd_stored.specs.Store.{AreNames}
use Rattle.fd_retrieve.specs.Ready.{NoneIsDamaged}
use Rattle.fd_contents.specs.declared.lines.Lines.{Lines}
use Rattle.fd_contents.specs.Recorded.{IsOfRecords}
use Rattle.fd_contents.specs.Texts.{text_for, text_with}

-- what is written of a dataset that has these batches
abbrev pub text_by : Lines → Holdings → List ℕ → List (List Pair) → Option (List ℕ)
text_by l h name t = text_with l h name (Some t)

-- The text is that of the dataset where it is sound, and in any case that of such batches as its indexes have records of.
pub record IsText (l : Lines) (h : Holdings) (name x : List ℕ) : Type 0 where
  pub sound : IsTextOf (text_for l h) name x
  pub recorded : IsOfRecords (text_by l) h name x

-- such a text was taken
abbrev pub TakesText : Lines → Holdings → List ℕ → Option (List ℕ) → Option (List ℕ) → Type 0
TakesText l h name a b = (x : List ℕ) × IsText l h name x × Takes a b x

-- Nothing is wrong with the table of the dataset, nor with the files that it lists, and such a text was taken.
pub record IsPrinted (l : Lines) (h : Holdings) (name : List ℕ) (a b : Option (List ℕ)) : Type 0 where
  pub undamaged : IsUndamaged name (folder_at h name)
  pub text : List ℕ
  pub is : IsText l h name text
  pub took : Takes a b text

-- the same of each of these, one after the other
pub record ArePrinted (l : Lines) (h : Holdings) (names : List (List ℕ)) (a b : Option (List ℕ)) : Type 0 where
  pub undamaged : NoneIsDamaged h names
  pub texts : List (List ℕ)
  pub each : AllZip (IsText l h) names texts
  pub took : Takes a b (concat texts)

-- A run that ended with 0: the report took nothing, and all datasets of the store were printed.
pub record PrintsAll (l : Lines) (s : Status) (store : Option Holdings) (output report : Object (List ℕ)) : Type 0 where
  pub done : s ≡ Done
  pub quiet : report.now ≡ report.before
  pub each : IfSome store (λ h. (names : List (List ℕ)) → AreNames h names → ArePrinted l h names output.before output.now)
