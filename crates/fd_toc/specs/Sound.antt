-- What holds of a table that is held open.
use Rattle.std.specs.Prelude.{◌<◌, ◌≤◌, List, length, Option, Some, None, MatchOption, IfSome, IsSome, ℕ}
use Rattle.fd_disk.specs.declared.file.File.{File}
use Rattle.fd_entries.specs.declared.table.Entry.{Entry}
use Rattle.fd_entries.specs.Standing.{IsSettled, IsStaged, IsInDoubt}
use Rattle.fd_entries.specs.Table.{AllFit, Fits}

-- settled, with the body of a staged entry in its place; or in doubt
abbrev pub IsSound : List ℕ → List Entry → Option Entry → Option Entry → File → Type 0
IsSound dataset es None staged f = IsSettled dataset es f × MatchOption staged (Unit {0}) (IsStaged dataset es f)
IsSound dataset es (Some e) staged f = IsInDoubt dataset es f e

-- what holds of a table between two calls, told or not
pub record IsOpen (file : Option File) (dataset : List ℕ) (es : List Entry) (doubt staged : Option Entry) : Type 0 where
  pub few : length es ≤ 65535
  pub fit : AllFit 0 es
  pub staged_fit : IfSome staged (Fits (length es))
  pub doubt_few : IsSome doubt → length es < 65535
  pub staged_few : IsSome staged → length es < 65535
  pub sound : IfSome file (IsSound dataset es doubt staged)
