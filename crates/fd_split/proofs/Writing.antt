-- The octets of a field, as they are written.
use Rattle.std.proofs.Common.{◌≡◌, ℕ, suc, ◌+◌, ◌<◌, ◌≤◌, List, [], ◌∷◌, ◌++◌, length, map, take, drop, refl, sym, ap, ◌∙◌, append_assoc, arith}
use Rattle.std.specs.Prelude.{slice_index_or}
use Rattle.std.proofs.Math.Seq.{drop-append_seam}
use Rattle.std.proofs.lemmas.List.{get_or-map, length-map, take-append-le}
use Rattle.byteorder.specs.Endian.{big_bytes}
use Rattle.fd_sections.specs.Message.{Sections, end_section, if_present, message_octets}
use Rattle.fd_split.specs.declared.cutting.Parts.{Parts}
use Rattle.fd_split.specs.Rounds.{measured, measured_all}
use Rattle.fd_split.specs.Seen.{seen_parts}

-- what is written one behind the other
pub written : (a b c d e f g h k : List ℕ) → ((((((((a ++ b) ++ c) ++ d) ++ e) ++ f) ++ g) ++ h) ++ k) ≡ a ++ (b ++ (c ++ (d ++ (e ++ (f ++ (g ++ (h ++ k)))))))
written a b c d e f g h k =
    append_assoc (((((((a ++ b) ++ c) ++ d) ++ e) ++ f) ++ g)) h k
    ∙ append_assoc ((((((a ++ b) ++ c) ++ d) ++ e) ++ f)) g (h ++ k)
    ∙ append_assoc (((((a ++ b) ++ c) ++ d) ++ e)) f (g ++ (h ++ k))
    ∙ append_assoc ((((a ++ b) ++ c) ++ d)) e (f ++ (g ++ (h ++ k)))
    ∙ append_assoc (((a ++ b) ++ c)) d (e ++ (f ++ (g ++ (h ++ k))))
    ∙ append_assoc ((a ++ b)) c (d ++ (e ++ (f ++ (g ++ (h ++ k)))))
    ∙ append_assoc a b (c ++ (d ++ (e ++ (f ++ (g ++ (h ++ k))))))

pub written_without : (a b d e f g h k : List ℕ) → (((((((a ++ b) ++ d) ++ e) ++ f) ++ g) ++ h) ++ k) ≡ a ++ (b ++ (d ++ (e ++ (f ++ (g ++ (h ++ k))))))
written_without a b d e f g h k =
    append_assoc ((((((a ++ b) ++ d) ++ e) ++ f) ++ g)) h k
    ∙ append_assoc (((((a ++ b) ++ d) ++ e) ++ f)) g (h ++ k)
    ∙ append_assoc ((((a ++ b) ++ d) ++ e)) f (g ++ (h ++ k))
    ∙ append_assoc (((a ++ b) ++ d)) e (f ++ (g ++ (h ++ k)))
    ∙ append_assoc ((a ++ b)) d (e ++ (f ++ (g ++ (h ++ k))))
    ∙ append_assoc a b (d ++ (e ++ (f ++ (g ++ (h ++ k)))))

pub measured_octets : (s : Sections) → length s.indicator ≡ 16 → message_octets (measured s) ≡ take 8 (message_octets s) ++ (big_bytes 8 (length (message_octets s)) ++ drop 16 (message_octets s))
measured_octets s long =
    let rest = s.identification ++ (if_present s.local_use ++ (s.grid ++ (s.product ++ (s.representation ++ (s.bit_map ++ (s.values ++ end_section)))))) in
    let size = big_bytes 8 (length (message_octets s)) in
    let front : take 8 (s.indicator ++ rest) ≡ take 8 s.indicator = take-append-le 8 s.indicator rest (omega (arith, long)) in
    let back : drop 16 (s.indicator ++ rest) ≡ rest = ap (λ (k : ℕ). drop k (s.indicator ++ rest)) (sym long) ∙ drop-append_seam s.indicator rest in
    append_assoc (take 8 s.indicator) size rest
    ∙ ap (λ (t : List ℕ). t ++ (size ++ rest)) (sym front)
    ∙ ap (λ (t : List ℕ). take 8 (message_octets s) ++ (size ++ t)) (sym back)

pub field_single : (fs : List Sections) (i : ℕ) (s : Sections) → length fs ≤ 1 → slice_index_or (measured_all fs) i s ≡ slice_index_or fs i s
field_single [] i s le = refl
field_single (f ∷ []) i s le = refl
field_single (f ∷ g ∷ fs) i s le = absurd (omega (arith, le))

pub field_measured : (fs : List Sections) (i : ℕ) (s d : Sections) → 1 < length fs → i < length fs → slice_index_or (measured_all fs) i s ≡ measured (slice_index_or fs i d)
field_measured [] i s d some lt = absurd (omega (arith, some))
field_measured (f ∷ []) i s d some lt = absurd (omega (arith, some))
field_measured (f ∷ g ∷ fs) i s d some lt = get_or-map measured (f ∷ g ∷ fs) i d s lt

-- a field's octets, of a message of one field
pub writes_single : (s0 s1 : List ℕ) (parts : List Parts) (i : ℕ) (p : Parts) (s : Sections) → length parts ≤ 1 → i < length parts → p ≡ slice_index_or parts i p → message_octets (seen_parts s0 s1 p) ≡ message_octets (slice_index_or (measured_all (map (seen_parts s0 s1) parts)) i s)
writes_single s0 s1 parts i p s le lt is =
    let long : length (map (seen_parts s0 s1) parts) ≤ 1 = omega (arith, le, length-map parts (seen_parts s0 s1)) in
    let at : slice_index_or (map (seen_parts s0 s1) parts) i s ≡ seen_parts s0 s1 p = get_or-map (seen_parts s0 s1) parts i p s lt ∙ ap (seen_parts s0 s1) (sym is) in
    ap message_octets (sym (field_single (map (seen_parts s0 s1) parts) i s long ∙ at))

-- and of a message of several
pub writes_measured : (s0 s1 : List ℕ) (parts : List Parts) (i : ℕ) (p : Parts) (s : Sections) → length s0 ≡ 16 → 1 < length parts → i < length parts → p ≡ slice_index_or parts i p
    → take 8 (message_octets (seen_parts s0 s1 p)) ++ (big_bytes 8 (length (message_octets (seen_parts s0 s1 p))) ++ drop 16 (message_octets (seen_parts s0 s1 p)))
    ≡ message_octets (slice_index_or (measured_all (map (seen_parts s0 s1) parts)) i s)
writes_measured s0 s1 parts i p s head some lt is =
    let long = length-map parts (seen_parts s0 s1) in
    let d = seen_parts s0 s1 p in
    let at : slice_index_or (map (seen_parts s0 s1) parts) i d ≡ d = get_or-map (seen_parts s0 s1) parts i p d lt ∙ ap (seen_parts s0 s1) (sym is) in
    sym (measured_octets d head) ∙ ap message_octets (sym (field_measured (map (seen_parts s0 s1) parts) i s d (omega (arith, some, long)) (omega (arith, lt, long)) ∙ ap measured at))
