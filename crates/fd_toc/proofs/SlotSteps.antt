-- A table is read slot by slot.
use Rattle.std.proofs.Common.{◌≡◌, inl, inr, ℕ, zero, suc, ◌+◌, ◌<◌, ◌==◌, if◌then◌else◌, Bool, List, [], ◌∷◌, ◌++◌, drop, refl, sym, ◌∙◌, ap, subst, arith, append_assoc, Option, Some, None, Result, Ok, Err}
use Rattle.std.proofs.lemmas.List.{append-nil, length_push}
use Rattle.fd_entries.proofs.Inverse.{is_or_not}
use Rattle.fd_entries.specs.declared.table.Entry.{Entry}
use Rattle.fd_entries.specs.declared.table.NotATable.{NotATable}
use Rattle.fd_entries.specs.Table.{header, fixed, mismatch, listed, gate_at, entry_fault, entry_in, with_entry, unless_fault, run_from}
use Rattle.fd_toc.specs.declared.parse.Slot.{Slot}
use Rattle.fd_toc.specs.declared.parse.Slot.TheVariants.{Bad, End, Next}
use Rattle.fd_toc.specs.declared.parse.ReadFault.{ReadFault}
use Rattle.fd_toc.specs.declared.parse.ReadFault.TheVariants.{Not, NoMemory}
use Rattle.fd_toc.specs.Slots.{bad_or, slot_at, joined, after, last_fault, IsAt, OnNot}

bad_first : (f : Option NotATable) (e : Entry) (r : Result (List Entry) NotATable) → unless_fault f (with_entry e r) ≡ after (bad_or f e) r
bad_first (Some f) e r = refl
bad_first None e r = refl

run_step : (room i : ℕ) (bytes : List ℕ) → run_from (suc room) i bytes ≡ after (slot_at i bytes) (run_from room (i + 1) (drop 64 bytes))
run_step room i [] = refl
run_step room i (gate ∷ rest) =
    let more = run_from room (i + 1) (drop 63 rest) in
    let none : Result (List Entry) NotATable = Ok [] in
    elim (is_or_not (gate == 79)) [
      | inl same ↦
          ap (λ (t : Bool). if t then unless_fault (entry_fault i rest) (with_entry (entry_in rest) more) else none) same
          ∙ bad_first (entry_fault i rest) (entry_in rest) more
          ∙ ap (λ (t : Bool). after (if t then bad_or (entry_fault i rest) (entry_in rest) else End) more) (sym same)
      | inr other ↦
          ap (λ (t : Bool). if t then unless_fault (entry_fault i rest) (with_entry (entry_in rest) more) else none) other
          ∙ ap (λ (t : Bool). after (if t then bad_or (entry_fault i rest) (entry_in rest) else End) more) (sym other)
    ]

joined_none : (r : Result (List Entry) NotATable) → joined [] r ≡ r
joined_none (Ok es) = refl
joined_none (Err f) = refl

joined_one : (es : List Entry) (e : Entry) (r : Result (List Entry) NotATable) → joined es (with_entry e r) ≡ joined (es ++ e ∷ []) r
joined_one es e (Ok more) = ap Ok (sym (append_assoc es (e ∷ []) more))
joined_one es e (Err f) = refl

pub at_start : (all : List ℕ) (es : List Entry) → es ≡ [] → IsAt all es 0 all
at_start all es is = subst (λ (l : List Entry). IsAt all l 0 all) (sym is) (record { room = 65535; sum = refl; count = refl; same = joined_none (run_from 65535 0 all) })

-- the rest from a slot on, one slot opened
opened : (all : List ℕ) (es : List Entry) (i : ℕ) (rest : List ℕ) (s : Slot) → IsAt all es i rest → i < 65535 → s ≡ slot_at i rest → (room : ℕ) × ((room + (i + 1) ≡ 65535) × (joined es (after s (run_from room (i + 1) (drop 64 rest))) ≡ run_from 65535 0 all))
opened all es i rest s at lt is = go at.room at.sum at.same
  where
    go : (room : ℕ) → room + i ≡ 65535 → joined es (run_from room i rest) ≡ run_from 65535 0 all → (more : ℕ) × ((more + (i + 1) ≡ 65535) × (joined es (after s (run_from more (i + 1) (drop 64 rest))) ≡ run_from 65535 0 all))
    go zero sum same = absurd (omega arith)
    go (suc room) sum same = (room, (omega arith, ap (λ (t : Slot). joined es (after t (run_from room (i + 1) (drop 64 rest)))) is ∙ ap (joined es) (sym (run_step room i rest)) ∙ same))

pub at_bad : (all : List ℕ) (es : List Entry) (i : ℕ) (rest : List ℕ) (f : NotATable) → IsAt all es i rest → i < 65535 → Bad f ≡ slot_at i rest → run_from 65535 0 all ≡ Err f
at_bad all es i rest f at lt is = sym (opened all es i rest (Bad f) at lt is).1.1

pub at_end : (all : List ℕ) (es : List Entry) (i : ℕ) (rest : List ℕ) → IsAt all es i rest → i < 65535 → End ≡ slot_at i rest → run_from 65535 0 all ≡ Ok es
at_end all es i rest at lt is = sym (opened all es i rest End at lt is).1.1 ∙ ap Ok (append-nil es)

pub at_next : (all : List ℕ) (es later : List Entry) (i : ℕ) (rest : List ℕ) (e : Entry) → IsAt all es i rest → i < 65535 → Next e ≡ slot_at i rest → later ≡ es ++ e ∷ [] → IsAt all later (i + 1) (drop 64 rest)
at_next all es later i rest e at lt is all_later =
    let o = opened all es i rest (Next e) at lt is in
    subst (λ (l : List Entry). IsAt all l (i + 1) (drop 64 rest)) (sym all_later) (record {
      room = o.0;
      sum = o.1.0;
      count = omega (arith, length_push es e, at.count);
      same = sym (joined_one es e (run_from o.0 (i + 1) (drop 64 rest))) ∙ o.1.1;
    })

abbrev pub unless_last : Option NotATable → List Entry → Result (List Entry) NotATable
unless_last (Some f) es = Err f
unless_last None es = Ok es

pub at_last : (all : List ℕ) (es : List Entry) (rest : List ℕ) (f : Option NotATable) → IsAt all es 65535 rest → f ≡ last_fault rest → run_from 65535 0 all ≡ unless_last f es
at_last all es rest f at is = sym (go at.room rest at.sum at.same) ∙ ap (λ (o : Option NotATable). unless_last o es) (sym is)
  where
    go : (room : ℕ) (rest : List ℕ) → room + 65535 ≡ 65535 → joined es (run_from room 65535 rest) ≡ run_from 65535 0 all → unless_last (last_fault rest) es ≡ run_from 65535 0 all
    go (suc room) rest sum same = absurd (omega arith)
    go zero [] sum same = same
    go zero (gate ∷ rest) sum same = elim (is_or_not (gate == 79)) [
      | inl open_gate ↦
          ap (λ (t : Bool). unless_last (if t then Some (record { at = gate_at 65535; want = 0; found = Some gate }) else None) es) open_gate
          ∙ ap (λ (t : Bool). joined es (if t then Err (record { at = gate_at 65535; want = 0; found = Some gate }) else Ok [])) (sym open_gate) ∙ same
      | inr other ↦
          ap (λ (t : Bool). unless_last (if t then Some (record { at = gate_at 65535; want = 0; found = Some gate }) else None) es) other
          ∙ ap Ok (sym (append-nil es))
          ∙ ap (λ (t : Bool). joined es (if t then Err (record { at = gate_at 65535; want = 0; found = Some gate }) else Ok [])) (sym other) ∙ same
    ]

pub listed_bad : (dataset head bytes : List ℕ) (f : NotATable) → head ≡ header dataset → Some f ≡ mismatch 0 (fixed head) bytes → listed dataset bytes ≡ Err f
unfolding listed
listed_bad dataset head bytes f is bad = ap (λ (o : Option NotATable). unless_fault o (run_from 65535 0 (drop 320 bytes))) (sym (bad ∙ ap (λ (h : List ℕ). mismatch 0 (fixed h) bytes) is))

pub listed_runs : (dataset head bytes : List ℕ) → head ≡ header dataset → None ≡ mismatch 0 (fixed head) bytes → listed dataset bytes ≡ run_from 65535 0 (drop 320 bytes)
unfolding listed
listed_runs dataset head bytes is good = ap (λ (o : Option NotATable). unless_fault o (run_from 65535 0 (drop 320 bytes))) (sym (good ∙ ap (λ (h : List ℕ). mismatch 0 (fixed h) bytes) is))

pub on_not : (e : ReadFault) (a b : Result (List Entry) NotATable) → b ≡ a → OnNot e (λ f. a ≡ Err f) → OnNot e (λ f. b ≡ Err f)
on_not (Not f) a b is here = is ∙ here
on_not NoMemory a b is here = tt
