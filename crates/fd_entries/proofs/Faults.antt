-- The octet that is named is the first against the format.
use Rattle.std.proofs.Common.{◌≡◌, ◌⊎◌, inl, inr, ℕ, zero, suc, ◌+◌, ◌≤◌, ◌==◌, Bool, true, if◌then◌else◌, List, [], ◌∷◌, ◌++◌, length, drop, refl, sym, ◌∙◌, ap, subst, arith, Option, Some, None, Result, Ok, Err}
use Rattle.std.proofs.lemmas.Bool.Decides.{Decides-eqb}
use Rattle.std.proofs.lemmas.List.{drop_at}
use Rattle.fd_entries.specs.declared.table.Entry.{Entry}
use Rattle.fd_entries.specs.declared.table.NotATable.{NotATable}
use Rattle.fd_entries.specs.Table.{AllFit, AreOctets, IsFirstFault, IsSlotFault, body_of, entry_fault, entry_in, fixed, gate_at, header, listed, mismatch, run_from, slots_of, unless_fault, with_entry}
use Rattle.fd_entries.proofs.Inverse.{entry_is, front_is, is_or_not, octets_drop}
use Rattle.fd_entries.proofs.Slots.{entry_read, length-header, no_fault, no_mismatch}

record Broken (i : ℕ) (bytes : List ℕ) (f : NotATable) : Type 0 where
  entries : List Entry
  rest : List ℕ
  n : ℕ
  count : n ≡ i + length entries
  is : bytes ≡ slots_of entries ++ rest
  fit : AllFit i entries
  few : n ≤ 65535
  fault : IsSlotFault n rest f

abbrev an_error : NotATable → Result (List Entry) NotATable
an_error f = Err f

abbrev no_entries : Result (List Entry) NotATable
no_entries = Ok []

no_gate : (i : ℕ) (f : NotATable) → i ≤ 65535 → an_error (record { at = gate_at i; want = 0; found = None }) ≡ Err f → Broken i [] f
no_gate i f few is = record { entries = []; rest = []; n = i; count = omega arith; is = refl; fit = tt; few = few; fault = cc is }

with_err : (e : Entry) (r : Result (List Entry) NotATable) (f : NotATable) → with_entry e r ≡ Err f → r ≡ Err f
with_err e (Ok more) f is = absurd (cc is)
with_err e (Err g) f is = cc is

-- the first fault is in this slot, or in what follows
unless_err : (o : Option NotATable) (r : Result (List Entry) NotATable) (f : NotATable) → unless_fault o r ≡ Err f → (o ≡ Some f) ⊎ ((o ≡ None) × (r ≡ Err f))
unless_err None r f is = inr (refl, is)
unless_err (Some g) r f is = inl (let same : g ≡ f = cc is in ap Some same)

fault_is : (room i : ℕ) (bytes : List ℕ) (f : NotATable) → AreOctets bytes → i + room ≡ 65535 → run_from room i bytes ≡ Err f → Broken i bytes f
fault_is zero i [] f all le is = no_gate i f (omega (arith, le)) is
fault_is (suc room) i [] f all le is = no_gate i f (omega (arith, le)) is
fault_is zero i (gate ∷ rest) f all le is = elim (is_or_not (gate == 79)) [
  | inl same ↦ record {
    entries = [];
    rest = gate ∷ rest;
    n = i;
    count = omega arith;
    is = refl;
    fit = tt;
    few = omega (arith, le);
    fault = (
      (Decides-eqb gate 79).0 same,
      inl (omega (arith, le), (let e : an_error (record { at = gate_at i; want = 0; found = Some gate }) ≡ Err f = sym (ap (λ (t : Bool). if t then an_error (record { at = gate_at i; want = 0; found = Some gate }) else no_entries) same) ∙ is in let g : record { at = gate_at i; want = 0; found = Some gate } ≡ f = cc e in sym g)),
    );
  }
  | inr other ↦ absurd (let e : no_entries ≡ Err f = sym (ap (λ (t : Bool). if t then an_error (record { at = gate_at i; want = 0; found = Some gate }) else no_entries) other) ∙ is in cc e)
]
fault_is (suc room) i (gate ∷ rest) f all le is =
    let next : Result (List Entry) NotATable = unless_fault (entry_fault i rest) (with_entry (entry_in rest) (run_from room (i + 1) (drop 63 rest))) in
    elim (is_or_not (gate == 79)) [
      | inl same ↦ (
          let open_gate : gate ≡ 79 = (Decides-eqb gate 79).0 same in
          let later : AreOctets rest = octets_drop 1 (gate ∷ rest) all in
          let e : next ≡ Err f = sym (ap (λ (t : Bool). if t then next else no_entries) same) ∙ is in
          elim (unless_err (entry_fault i rest) (with_entry (entry_in rest) (run_from room (i + 1) (drop 63 rest))) f e) [
            | inl here ↦ record { entries = []; rest = gate ∷ rest; n = i; count = omega arith; is = refl; fit = tt; few = omega (arith, le); fault = (open_gate, inr (omega (arith, le), here)) }
            | inr later_on ↦ (
                let here = entry_is i rest later (omega (arith, le)) later_on.0 in
                let run = fault_is room (i + 1) (drop 63 rest) f (octets_drop 63 rest later) (omega (arith, le)) (with_err (entry_in rest) (run_from room (i + 1) (drop 63 rest)) f later_on.1) in
                record {
                  entries = entry_in rest ∷ run.entries;
                  rest = run.rest;
                  n = run.n;
                  count = omega (arith, run.count);
                  is = (λ j. open_gate j ∷ here.is j) ∙ ap (λ (r : List ℕ). 79 ∷ (body_of (entry_in rest) ++ r)) run.is;
                  fit = (here.fits, run.fit);
                  few = run.few;
                  fault = run.fault;
                })
          ])
      | inr other ↦ absurd (let e : no_entries ≡ Err f = sym (ap (λ (t : Bool). if t then next else no_entries) other) ∙ is in cc e)
    ]

broken_run : (room i n : ℕ) (es : List Entry) (rest : List ℕ) (f : NotATable) → n ≡ i + length es → AllFit i es → i + room ≡ 65535 → length es ≤ room → IsSlotFault n rest f → run_from room i (slots_of es ++ rest) ≡ Err f
broken_run zero i n [] [] f count fit le few fault = ap an_error (ap (λ (m : ℕ). record { at = gate_at m; want = 0; found = None }) (same_place i n count) ∙ sym fault)
  where
    same_place : (i n : ℕ) → n ≡ i + 0 → i ≡ n
    same_place i n e = omega (arith, e)
broken_run (suc room) i n [] [] f count fit le few fault = ap an_error (ap (λ (m : ℕ). record { at = gate_at m; want = 0; found = None }) (same_place i n count) ∙ sym fault)
  where
    same_place : (i n : ℕ) → n ≡ i + 0 → i ≡ n
    same_place i n e = omega (arith, e)
broken_run zero i n [] (gate ∷ rest) f count fit le few fault =
    let here : i ≡ n = omega (arith, count) in
    let t : (gate == 79) ≡ true = (Decides-eqb gate 79).1 fault.0 in
    ap (λ (b : Bool). if b then an_error (record { at = gate_at i; want = 0; found = Some gate }) else no_entries) t
    ∙ elim fault.1 [
      | inl last ↦ ap an_error (ap (λ (m : ℕ). record { at = gate_at m; want = 0; found = Some gate }) here ∙ sym last.1)
      | inr more ↦ absurd (omega (arith, more.0, le, here))
    ]
broken_run (suc room) i n [] (gate ∷ rest) f count fit le few fault =
    let here : n ≡ i = omega (arith, count) in
    let t : (gate == 79) ≡ true = (Decides-eqb gate 79).1 fault.0 in
    let after = with_entry (entry_in rest) (run_from room (i + 1) (drop 63 rest)) in
    ap (λ (b : Bool). if b then unless_fault (entry_fault i rest) after else no_entries) t
    ∙ elim fault.1 [
      | inl last ↦ absurd (omega (arith, last.0, le, here))
      | inr more ↦ ap (λ (o : Option NotATable). unless_fault o after) (ap (λ (m : ℕ). entry_fault m rest) (sym here) ∙ more.1)
    ]
broken_run zero i n (e ∷ es) rest f count fit le few fault = absurd (omega arith)
broken_run (suc room) i n (e ∷ es) rest f count fit le few fault =
    let more = slots_of es ++ rest in
    ap (λ o. unless_fault o (with_entry (entry_in (body_of e ++ more)) (run_from room (i + 1) more))) (no_fault i e more fit.0 (omega (arith, le)))
    ∙ ap (λ d. with_entry d (run_from room (i + 1) more)) (entry_read i e more fit.0 (omega (arith, le)))
    ∙ ap (with_entry e) (broken_run room (i + 1) n es rest f (omega (arith, count)) fit.1 (omega (arith, le)) (omega arith) fault)

pub fault_named : (dataset bytes : List ℕ) (f : NotATable) → length dataset ≤ 255 → AreOctets bytes → listed dataset bytes ≡ Err f → (mismatch 0 (fixed (header dataset)) bytes ≡ Some f) ⊎ IsFirstFault dataset bytes f
unfolding listed
fault_named dataset bytes f short all is = elim (unless_err (mismatch 0 (fixed (header dataset)) bytes) (run_from 65535 0 (drop 320 bytes)) f is) [
  | inl here ↦ inl here
  | inr later ↦ (
      let front = front_is 0 (header dataset) bytes later.0 in
      let run = fault_is 65535 0 (drop 320 bytes) f (octets_drop 320 bytes all) (omega arith) later.1 in
      let count : run.n ≡ length run.entries = omega (arith, run.count) in
      inr (record {
        entries = run.entries;
        rest = run.rest;
        is = front ∙ ap (λ (n : ℕ). header dataset ++ drop n bytes) (length-header dataset short) ∙ ap (λ (r : List ℕ). header dataset ++ r) run.is;
        fit = run.fit;
        few = omega (arith, run.few, count);
        fault = subst (λ (n : ℕ). IsSlotFault n run.rest f) count run.fault;
      }))
]

pub named_fault : (dataset bytes : List ℕ) (f : NotATable) → length dataset ≤ 255 → (mismatch 0 (fixed (header dataset)) bytes ≡ Some f) ⊎ IsFirstFault dataset bytes f → listed dataset bytes ≡ Err f
unfolding listed
named_fault dataset bytes f short (inl here) = ap (λ (o : Option NotATable). unless_fault o (run_from 65535 0 (drop 320 bytes))) here
named_fault dataset bytes f short (inr t) =
    let more = slots_of t.entries ++ t.rest in
    let stands : mismatch 0 (fixed (header dataset)) bytes ≡ None = ap (mismatch 0 (fixed (header dataset))) t.is ∙ no_mismatch 0 (header dataset) more in
    let behind : drop 320 bytes ≡ more = ap (drop 320) t.is ∙ drop_at (header dataset) more 320 (length-header dataset short) in
    ap (λ (o : Option NotATable). unless_fault o (run_from 65535 0 (drop 320 bytes))) stands
    ∙ ap (run_from 65535 0) behind
    ∙ broken_run 65535 0 (length t.entries) t.entries t.rest f (omega arith) t.fit (omega arith) t.few t.fault
