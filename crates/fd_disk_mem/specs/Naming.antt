-- What is read from a file's name.
use Rattle.std.specs.Prelude.{◌≡◌, ◌++◌, ◌∷◌, ℕ, List, Option, MatchOption, decimal}
use Rattle.fd_disk.specs.declared.folders.FileName.{FileName}
use Rattle.fd_file_mem.specs.Plans.{ending}

-- this and nothing else
abbrev pub IsRead : {T : Type 0} → Option T → T → Type 0
IsRead read x = MatchOption read ⊥ (λ y. y ≡ x)

-- what stands behind the dataset and its slash
abbrev pub end_text : FileName → List ℕ
end_text n = decimal n.writer ++ (45 ∷ (decimal n.seq ++ (46 ∷ ending n.kind)))
