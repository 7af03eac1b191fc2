-- Where a store has no rules, nothing is archived, and it is told why.
use Rattle.std.proofs.Common.{◌≡◌, ◌≤◌, ℕ, false, List, Option, inl, inr, refl, sym, subst}
use Rattle.std.specs.Prelude.{IfSome}
use Rattle.fd_bytes.specs.Causes.{Rose}
use Rattle.fd_io.specs.Streams.{Takes}
use Rattle.fd_disk.specs.Folders.{Holdings, WhereTold}
use Rattle.fd_key.specs.Pairs as keys
use Rattle.fd_words.specs.declared.command.Command.TheVariants.{Archive}
use Rattle.fd_stored.specs.declared.status.Status.{Status}
use Rattle.fd_stored.specs.declared.status.Status.TheVariants.{DiskFault, NoMemory}
use Rattle.fd_outcome.specs.declared.stored.Unruled.{Unruled}
use Rattle.fd_outcome.specs.declared.stored.Unruled.TheVariants as unruled
use Rattle.fd_outcome.specs.Asking.{rules_of}
use Rattle.fd_stored.specs.Causes.{table_full}
use Rattle.fd_outcome.specs.Ends.{disk_failed, no_memory}
use Rattle.fd_outcome.specs.Objects.{object}
use Rattle.fd_outcome.specs.Ran.{Ran}
use Rattle.fd_outcome.specs.Unruled.{IsUnruled, OnDisk}
use Rattle.fd_outcome.proofs.Exits.{is_whole}
use Rattle.fd_outcome.proofs.Starved.{starved}
use Rattle.fd_telling.specs.Stops.{ToldUnruled}
use Rattle.fd_archive.specs.Crashing.{OutlastsBy}
use Rattle.fd_archive.proofs.ArchiveExits.{missing_ran, schema_ran, unread_schema_ran}
use Rattle.fd_archive.proofs.Noticing.{some_part, told_part}
use Rattle.fd_archive.proofs.Outlasting.{idle_keeps, missing_rules, unruled_keeps, wrong_rules}
use Rattle.fd_archive.proofs.Told.{rose_later}

-- all isn't well
pub unruled_part : {F : Type 0} (e : Unruled F) (result : Status) (c d : Option (List ℕ)) (m n : ℕ) → ToldUnruled e result c d m n → is_whole result ≡ false
unruled_part (unruled.Disk f) result c d m n told = told_part _ _ result c d m n told refl
unruled_part unruled.Missing result c d m n told = told_part _ _ result c d m n told refl
unruled_part (unruled.At line kind) result c d m n told = some_part result c d m n told.0
unruled_part unruled.NoMemory result c d m n told = told_part _ _ result c d m n told refl

module _ {F : Type 0} (root : List ℕ) (given : List keys.Pair) (workers : ℕ) (has now : Option Holdings) (sm k sn : ℕ) (left : Option (List ℕ)) (faults : ℕ) (c d : Option (List ℕ)) (m n : ℕ) (result : Status) (same : now ≡ has) where
  -- the run, where the store counted sm faults first, k once its schema was asked for, and counts sn now
  pub unruled_ran : (e : Unruled F) → IfSome has (λ h. IsUnruled h.schema e) → ToldUnruled e result c d m n → sm ≤ k → OnDisk e (Rose k sn) → (a : Option (List ℕ)) (j : ℕ)
      → Ran (Archive root given workers) result (object has now sm sn) (object left left faults faults) (object a a j j) (object c d m n)
  unruled_ran e is told le noted a j =
      subst (λ h. Ran (Archive root given workers) result (object has h sm sn) (object left left faults faults) (object a a j j) (object c d m n)) (sym same) (go e is told noted)
    where
      go : (e : Unruled F) → IfSome has (λ h. IsUnruled h.schema e) → ToldUnruled e result c d m n → OnDisk e (Rose k sn)
          → Ran (Archive root given workers) result (object has has sm sn) (object left left faults faults) (object a a j j) (object c d m n)
      go (unruled.Disk f) is told noted = unread_schema_ran root given workers has sm sn (object left left faults faults) a j (object c d m n) result (rose_later sm k sn le noted) told
      go unruled.Missing is told noted = missing_ran root given workers has sm sn (object left left faults faults) a j (object c d m n) result is refl told
      go (unruled.At line kind) is told noted = schema_ran root given workers has sm sn (object left left faults faults) a j (object c d m n) result line kind told.0 told.1 is refl
      go unruled.NoMemory is told noted = starved (Archive root given workers) result has sm sn left left faults faults a j j c d m n told

  -- what a crash leaves
  pub unruled_lasts : (e : Unruled F) → IfSome has (λ h. IsUnruled h.schema e) → ToldUnruled e result c d m n
      → IfSome left (λ octets. WhereTold has now (λ h i. OutlastsBy result (Takes c d table_full) workers (rules_of h.schema) given octets left h i))
  unruled_lasts e is told =
      subst (λ h. IfSome left (λ octets. WhereTold has h (λ h i. OutlastsBy result (Takes c d table_full) workers (rules_of h.schema) given octets left h i))) (sym same) (go e is told)
    where
      go : (e : Unruled F) → IfSome has (λ h. IsUnruled h.schema e) → ToldUnruled e result c d m n
          → IfSome left (λ octets. WhereTold has has (λ h i. OutlastsBy result (Takes c d table_full) workers (rules_of h.schema) given octets left h i))
      go (unruled.Disk f) is told = idle_keeps given workers has left left result _ DiskFault disk_failed c d m n (inr refl) told
      go unruled.Missing is told = unruled_keeps given workers has left left result _ (missing_rules has is)
      go (unruled.At line kind) is told = unruled_keeps given workers has left left result _ (wrong_rules has line kind is)
      go unruled.NoMemory is told = idle_keeps given workers has left left result _ NoMemory no_memory c d m n (inl refl) told
