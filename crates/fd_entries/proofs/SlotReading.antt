-- The entry in a slot.
use Rattle.std.proofs.Common.{◌≡◌, ℕ, zero, suc, ◌+◌, ◌*◌, ◌<◌, ◌≤◌, List, [], ◌∷◌, ◌++◌, length, drop, get_or, refl, sym, ◌∙◌, ap, arith, append_assoc, None}
use Rattle.std.proofs.lemmas.List.{drop_at, drop-drop}
use Rattle.fd_entries.specs.declared.table.Entry.{Entry}
use Rattle.fd_entries.specs.Table.{header, slots_of, body_of, gate_at, entry_in, IsTable, AllFit}
use Rattle.fd_entries.proofs.Slots.{entry_read}

pub no_entry : Entry
no_entry = record { writer = 0; seq = 0; fields = 0; index_len = 0; fields_len = 0; digest = None }

-- what stands in front of the gate that follows the entries
pub record Front (es : List Entry) (bytes : List ℕ) : Type 0 where
  pub rest : List ℕ
  pub is : bytes ≡ (header [] ++ slots_of es) ++ rest

pub front_of_table : (es : List Entry) (bytes : List ℕ) → IsTable [] es bytes → Front es bytes
front_of_table es bytes t = record { rest = t.gate ∷ t.tail; is = t.is }

-- the entry in a slot
slot_at : (i j : ℕ) (es : List Entry) (rest : List ℕ) → AllFit j es → j + length es ≤ 65535 → i < length es → entry_in (drop (64 * i + 1) (slots_of es ++ rest)) ≡ get_or es i no_entry
slot_at i j [] rest fit few lt = absurd (omega arith)
slot_at zero j (e ∷ es) rest fit few lt = entry_read j e (slots_of es ++ rest) fit.0 (omega arith)
slot_at (suc i) j (e ∷ es) rest fit few lt =
    let next : 64 * suc i + 1 ≡ 64 + (64 * i + 1) = omega arith in
    let all = 79 ∷ body_of e ++ (slots_of es ++ rest) in
    ap (λ (n : ℕ). entry_in (drop n all)) next
    ∙ ap entry_in (sym (drop-drop (64 * i + 1) 64 all))
    ∙ slot_at i (j + 1) es rest fit.1 (omega arith) (omega arith)

pub entry_at : (es : List Entry) (bytes : List ℕ) (i : ℕ) → Front es bytes → AllFit 0 es → length es ≤ 65535 → i < length es → entry_in (drop (gate_at i + 1) bytes) ≡ get_or es i no_entry
entry_at es bytes i f fit few lt =
    let split : bytes ≡ header [] ++ (slots_of es ++ f.rest) = f.is ∙ append_assoc (header []) (slots_of es) f.rest in
    let place : gate_at i + 1 ≡ 320 + (64 * i + 1) = omega arith in
    ap (λ (b : List ℕ). entry_in (drop (gate_at i + 1) b)) split
    ∙ ap (λ (n : ℕ). entry_in (drop n (header [] ++ (slots_of es ++ f.rest)))) place
    ∙ ap entry_in (sym (drop-drop (64 * i + 1) 320 (header [] ++ (slots_of es ++ f.rest))))
    ∙ ap (λ (b : List ℕ). entry_in (drop (64 * i + 1) b)) (drop_at (header []) (slots_of es ++ f.rest) 320 refl)
    ∙ slot_at i 0 es f.rest fit (omega arith) lt
