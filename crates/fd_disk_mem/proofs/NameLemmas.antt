-- The names of folders.
use Rattle.std.proofs.Common.{◌≡◌, inl, inr, ℕ, ◌||◌, ◌&&◌, Bool, true, false, if◌then◌else◌, cond, List, [], ◌∷◌, None, option_map, is_some, refl, sym, ◌∙◌, ap, string_bytes, String}
use Rattle.std.specs.Str.{bytes_eq}
use Rattle.std.specs.List.{list_any}
use Rattle.std.proofs.lemmas.Slice.Eq.{bytes_eq-Decides}
use Rattle.std.proofs.lemmas.Map.Text.{is_eq-slice_cmp}
use Rattle.std.specs.Cmp.Lexicographic.{slice_cmp}
use Rattle.std.specs.Ordering.{nat_cmp, is_eq}
use Rattle.fd_disk.proofs.NameLemmas.{is_or_not}
use Rattle.fd_disk_mem.specs.declared.slots.Slots.{Slots, Empty, More'}
use Rattle.fd_disk_mem.specs.Slots.{folder_in, is_slot, contents_for}

or_true : (b : Bool) → (b || true) ≡ true
or_true true = refl
or_true false = refl

or_false : (b : Bool) → (b || false) ≡ b
or_false true = refl
or_false false = refl

pub added_one : (name key other : List ℕ) (new old : Bool) (here : List ℕ → Bool) → key ≡ name → here name ≡ true → new ≡ cond (bytes_eq key other) true old → new ≡ (old || (bytes_eq other name && here other))
added_one name key other new old here key_is is new_is = elim (is_or_not (bytes_eq other name)) [
  | inl same ↦
      let e : other ≡ name = (bytes_eq-Decides other name).0 same in
      let k : bytes_eq key other ≡ true = (bytes_eq-Decides key other).1 (key_is ∙ sym e) in
      let h : here other ≡ true = ap here e ∙ is in
      new_is ∙ ap (λ (b : Bool). cond b true old) k ∙ sym (or_true old) ∙ ap (λ (b : Bool). old || (true && b)) (sym h) ∙ ap (λ (b : Bool). old || (b && here other)) (sym same)
  | inr differs ↦
      let k : bytes_eq key other ≡ false = elim (is_or_not (bytes_eq key other)) [
        | inl same ↦ absurd (cc (differs, (bytes_eq-Decides other name).1 (sym ((bytes_eq-Decides key other).0 same) ∙ key_is)))
        | inr is ↦ is
      ] in
      new_is ∙ ap (λ (b : Bool). cond b true old) k ∙ sym (or_false old) ∙ ap (λ (b : Bool). old || (b && here other)) (sym differs)
]

-- a folder that is here has a slot
pub slot_of : (slots : Slots) (n : List ℕ) → (is_slot slots n && is_some (folder_in slots n)) ≡ is_some (folder_in slots n)
slot_of slots n = elim (is_or_not (is_slot slots n)) [
  | inl is ↦ ap (λ (b : Bool). b && is_some (folder_in slots n)) is
  | inr out ↦ ap (λ (b : Bool). b && is_some (folder_in slots n)) out ∙ sym (ap is_some (none slots n out))
]
  where
    none : (slots : Slots) (n : List ℕ) → is_slot slots n ≡ false → folder_in slots n ≡ None
    none Empty n out = refl
    none (More' s p rest) n out = elim (is_or_not (bytes_eq n (string_bytes s.name))) [
      | inl same ↦ absurd (cc (sym (ap (λ (b : Bool). b || is_slot rest n) same) ∙ out))
      | inr other ↦ ap (λ (b : Bool). if b then option_map (contents_for n) s.folder else folder_in rest n) other ∙ none rest n (sym (ap (λ (b : Bool). b || is_slot rest n) other) ∙ out)
    ]

pub among_keys : {Y : Type 0} (ks : List (String Y)) (n : List ℕ) → list_any (λ k. bytes_eq n (string_bytes k)) ks ≡ list_any (λ k. is_eq (slice_cmp nat_cmp n (string_bytes k))) ks
among_keys [] n = refl
among_keys (k ∷ ks) n = ap (λ (b : Bool). b || list_any (λ k. bytes_eq n (string_bytes k)) ks) (sym (is_eq-slice_cmp n (string_bytes k))) ∙ ap (λ (b : Bool). is_eq (slice_cmp nat_cmp n (string_bytes k)) || b) (among_keys ks n)
