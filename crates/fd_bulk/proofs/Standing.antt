-- What was found of an input stands, or a worker's refusal comes in its place: the causes of both.
use Rattle.std.proofs.Common.{◌≡◌, ◌≤◌, ℕ, List, Option, Some, None, Result, Ok, Err, OnOk, sym, ap, subst, inl, inr, arith}
use Rattle.std.specs.Prelude.{◌⊎◌, IfSome}
use Rattle.fd_bytes.specs.Causes.{Rose}
use Rattle.fd_split.specs.Positions.{Position}
use Rattle.fd_sheets.specs.declared.reader.Stop.{Stop}
use Rattle.fd_sheets.specs.declared.reader.Stop.TheVariants as stops
use Rattle.fd_bulk.specs.declared.bulk.BulkFault.{BulkFault}
use Rattle.fd_bulk.specs.declared.bulk.BulkFault.TheVariants as faults
use Rattle.fd_bulk.specs.declared.reading.Counts.{Counts}
use Rattle.fd_bulk.specs.Halting.{OnStore}
use Rattle.fd_bulk.specs.Inputs.{EndsOf, is_calm, is_unread}
use Rattle.fd_bulk.specs.Sheets.{IsTold}
use Rattle.fd_bulk.specs.Standing.{HasCauses, IsRefusal, StandsOr}
use Rattle.fd_bulk.proofs.Lowest.{rose_before, rose_later, store_weaker}
use Rattle.fd_bulk.proofs.Readings.{not_both}

-- nothing was read for want of memory
pub causes_starved : {A Z : Type 0} (before first : ℕ) → HasCauses {A = A} {Z = Z} before before first first (Err faults.NoMemory)
causes_starved before first = record {
  calm = tt;
  read = λ is. absurd (cc is);
  read_quiet = λ is. absurd (cc is);
  cause = tt;
  later = omega arith;
}

-- the same, of a call that gives something else
pub causes_told : {A B Z : Type 0} (before after first last : ℕ) (fault : BulkFault Z) → HasCauses {A = A} before after first last (Err fault) → HasCauses {A = B} before after first last (Err fault)
causes_told before after first last fault h = record { calm = tt; read = h.read; read_quiet = h.read_quiet; cause = h.cause; later = h.later }

-- the last message may be cut
pub causes_end : {A Z : Type 0} (before after first last : ℕ) (done : A) (reader : Position) (result : Result Counts (BulkFault Z)) → HasCauses {Z = Z} before after first last (Ok done) → EndsOf result reader → HasCauses before after first last result
causes_end before after first last done reader (Ok counts) h ends = record { calm = h.calm; read = tt; read_quiet = tt; cause = tt; later = h.later }
causes_end {Z = Z} before after first last done reader (Err fault) h ends = record {
  calm = tt;
  read = λ is. not_both (is_unread fault) (Rose before after) (ap is_unread ends.1) is;
  read_quiet = λ is. h.calm;
  cause = subst (λ (e : BulkFault Z). OnStore e (Rose first last)) (sym ends.1) tt;
  later = h.later;
}

-- no reader's reason is a fault of the store
pub stop_store : {Z : Type 0} (P : Type 0) (stop : Stop Z) (fault : BulkFault Z) → IsTold stop fault → OnStore fault P
stop_store {Z = Z} P (stops.Input f) fault told = subst (λ (e : BulkFault Z). OnStore e P) (sym told) tt
stop_store {Z = Z} P (stops.Message at) fault told = subst (λ (e : BulkFault Z). OnStore e P) (sym told) tt
stop_store {Z = Z} P (stops.NoMap number field) fault told = subst (λ (e : BulkFault Z). OnStore e P) (sym told) tt
stop_store {Z = Z} P stops.InputLimit fault told = subst (λ (e : BulkFault Z). OnStore e P) (sym told) tt
stop_store {Z = Z} P stops.NoMemory fault told = subst (λ (e : BulkFault Z). OnStore e P) (sym told) tt

-- the store's count rose earlier, or later
pub store_later : {Z : Type 0} (first middle last : ℕ) (fault : BulkFault Z) → middle ≤ last → OnStore fault (Rose first middle) → OnStore fault (Rose first last)
store_later first middle last fault le h = store_weaker (Rose first middle) (Rose first last) fault (rose_later first middle last le) h

pub store_before : {Z : Type 0} (first middle last : ℕ) (fault : BulkFault Z) → first ≤ middle → OnStore fault (Rose middle last) → OnStore fault (Rose first last)
store_before first middle last fault le h = store_weaker (Rose middle last) (Rose first last) fault (rose_before first middle last le) h

module _ {A Z : Type 0} (before after first middle last : ℕ) where
  -- the input wasn't touched since
  causes_later : (found : Result A (BulkFault Z)) → HasCauses before after first middle found → middle ≤ last → HasCauses before after first last found
  causes_later (Ok some) h le = let e = h.later in record { calm = h.calm; read = tt; read_quiet = tt; cause = tt; later = omega (arith, e, le) }
  causes_later (Err fault) h le = let e = h.later in record { calm = tt; read = h.read; read_quiet = h.read_quiet; cause = store_later first middle last fault le h.cause; later = omega (arith, e, le) }

  pub causes_stand : (found result : Result A (BulkFault Z)) → HasCauses before after first middle found → StandsOr middle last found result → HasCauses before after first last result
  causes_stand found result h s = go s.stands
    where
      go : (result ≡ found) ⊎ ((fault : BulkFault Z) × (result ≡ Err fault) × IsRefusal middle last fault) → HasCauses before after first last result
      go (inl is) = subst (λ (x : Result A (BulkFault Z)). HasCauses before after first last x) (sym is) (causes_later found h s.later)
      go (inr r) =
          let e = h.later in
          let later = s.later in
          subst (λ (x : Result A (BulkFault Z)). HasCauses before after first last x) (sym r.1) (record {
            calm = tt;
            read = λ is. not_both (is_unread r.0) (Rose before after) r.2.unread is;
            read_quiet = λ is. not_both (is_calm r.0) (after ≡ before) r.2.calm is;
            cause = store_before first middle last r.0 e r.2.cause;
            later = omega (arith, e, later);
          })

-- what is so of each input that was read to its end
pub ok_stands : {A Z : Type 0} (P : Type 0) (first last : ℕ) (found result : Result A (BulkFault Z)) → StandsOr first last found result → OnOk found P → OnOk result P
ok_stands {A = A} {Z = Z} P first last found result s h = go s.stands
  where
    go : (result ≡ found) ⊎ ((fault : BulkFault Z) × (result ≡ Err fault) × IsRefusal first last fault) → OnOk result P
    go (inl is) = subst (λ (x : Result A (BulkFault Z)). OnOk x P) (sym is) h
    go (inr r) = subst (λ (x : Result A (BulkFault Z)). OnOk x P) (sym r.1) tt

pub end_stands : {A Z : Type 0} (left : Option (List ℕ)) (P : Type 0) (first last : ℕ) (found result : Result A (BulkFault Z)) → StandsOr first last found result → IfSome left (λ octets. OnOk found P) → IfSome left (λ octets. OnOk result P)
end_stands None P first last found result s h = tt
end_stands (Some octets) P first last found result s h = ok_stands P first last found result s h
