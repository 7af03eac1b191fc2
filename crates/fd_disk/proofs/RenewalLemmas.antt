-- How moments of a dataset follow one another.
use Rattle.std.proofs.Common.{◌≡◌, ◌⊎◌, inl, inr, ◌≤◌, ℕ, List, Option, Some, None, IfSome, IsSome, option_map, refl, sym, subst, arith}
use Rattle.fd_disk.specs.declared.file.File.{File}
use Rattle.fd_disk.specs.declared.folders.FileName.{FileName}
use Rattle.fd_disk.specs.Folders.{Contents, Left, IsFolderImage, IsTableLeft, without_table}
use Rattle.fd_disk.specs.Images.{IsImage}
use Rattle.fd_disk.specs.Moments.{MayLeave}
use Rattle.fd_disk.specs.Renewals.{GoesOn, IsLeftBeside, IsLeftWith, IsQuiet, MayLeaveFolder, StandsStill}

pub still_same : (m : ℕ) (since : ℕ → Left → Type 0) → StandsStill m m since since
still_same m since = record { same = refl; nothing_else = λ t left is. is; keeps = λ t left is. is }

pub still_then : (a b c : ℕ) (p q r : ℕ → Left → Type 0) → StandsStill a b p q → StandsStill b c q r → StandsStill a c p r
still_then a b c p q r x y = record {
  same = omega (arith, x.same, y.same);
  nothing_else = λ t left is. x.nothing_else t left (y.nothing_else t left is);
  keeps = λ t left is. y.keeps t left (x.keeps t left is);
}

pub still_goes : (a b : ℕ) (p q : ℕ → Left → Type 0) (P : Left → Type 0) → StandsStill a b p q → GoesOn a b p q P
still_goes a b p q P x = record {
  later = omega (arith, x.same);
  nothing_else = λ t left le is. inl (x.nothing_else t left is);
  keeps = λ t left le is. x.keeps t left is;
}

pub still_quiet : (a b : ℕ) (p q : ℕ → Left → Type 0) (has : Option Contents) → StandsStill a b p q → IsQuiet a b p q has
still_quiet a b p q has x = record { later = omega (arith, x.same); nothing_else = λ t left is. inl (x.nothing_else t left is) }

pub quiet_still : (a b c : ℕ) (p q r : ℕ → Left → Type 0) (has : Option Contents) → IsQuiet a b p q has → StandsStill b c q r → IsQuiet a c p r has
quiet_still a b c p q r has x y = record { later = omega (arith, x.later, y.same); nothing_else = λ t left is. x.nothing_else t left (y.nothing_else t left is) }

pub goes_then : (a b c : ℕ) (p q r : ℕ → Left → Type 0) (P Q R : Left → Type 0) → ((t u : ℕ) (left : Left) → u ≤ t → r t left → r u left)
    → ((left : Left) → P left → R left) → ((left : Left) → Q left → R left) → GoesOn a b p q P → GoesOn b c q r Q → GoesOn a c p r R
goes_then a b c p q r P Q R earlier first second x y = record {
  later = omega (arith, x.later, y.later);
  nothing_else = λ t left le is. elim (y.nothing_else t left (omega (arith, le, x.later)) is) [
    | inl past ↦ elim (x.nothing_else t left le past) [
      | inl old ↦ inl old
      | inr new ↦ inr (first left new.0, y.keeps a left x.later new.1)
    ]
    | inr new ↦ inr (second left new.0, earlier b a left x.later new.1)
  ];
  keeps = λ t left le is. y.keeps t left (omega (arith, le, x.later)) (x.keeps t left le is);
}

pub goes_more : (a b : ℕ) (p q : ℕ → Left → Type 0) (P R : Left → Type 0) → ((left : Left) → P left → R left) → GoesOn a b p q P → GoesOn a b p q R
goes_more a b p q P R more x = record {
  later = x.later;
  nothing_else = λ t left le is. elim (x.nothing_else t left le is) [ inl old ↦ inl old | inr new ↦ inr (more left new.0, new.1) ];
  keeps = x.keeps;
}

-- what is left beside the files, of a table as it was handed out, is an image of the dataset with it
pub beside_whole : (old out : Option Contents) (file : Option File) (left : Left) → out ≡ option_map without_table old → IfSome old (λ v. (file ≡ v.table) × IsSome v.table)
    → IsLeftBeside out (MayLeave file) left → MayLeaveFolder old left
beside_whole None out file left is given beside = subst (λ (o : Option Contents). IsLeftBeside o (MayLeave file) left) is beside
beside_whole (Some v) out file left is given beside =
    let here : IsLeftBeside (Some (without_table v)) (MayLeave file) left = subst (λ (o : Option Contents). IsLeftBeside o (MayLeave file) left) is beside in
    record { table = subst (λ (f : Option File). IsTableLeft f left.table) given.0 (table file left.table here.0); files = here.1 }
  where
    table : (file : Option File) (c : Option (List ℕ)) → IsLeftWith (MayLeave file) c → IsTableLeft file c
    table (Some f) (Some c) image = image
    table (Some f) None image = image
    table None (Some c) image = absurd image
    table None None image = absurd image

-- a table that was handed out, and of which nothing was written
pub quiet_out : (a b c : ℕ) (p q r : ℕ → Left → Type 0) (old out : Option Contents) (file : Option File) → out ≡ option_map without_table old → IfSome old (λ v. (file ≡ v.table) × IsSome v.table)
    → StandsStill a b p q → b ≤ c → ((t : ℕ) (left : Left) → r t left → q t left ⊎ IsLeftBeside out (MayLeave file) left) → IsQuiet a c p r old
quiet_out a b c p q r old out file is given still later goes = record {
  later = omega (arith, still.same, later);
  nothing_else = λ t left since. elim (goes t left since) [
    | inl before ↦ inl (still.nothing_else t left before)
    | inr beside ↦ inr (beside_whole old out file left is given beside)
  ];
}
