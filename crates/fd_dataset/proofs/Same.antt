-- What `==` says of two entries.
use Rattle.std.proofs.Common.{◌≡◌, ◌==◌, ◌&&◌, nat_eq, Bool, true, false, true≢false, ℕ, List, Option, Some, None, refl, sym, ap}
use Rattle.std.proofs.lemmas.Bool.Decides.{Decides-eqb}
use Rattle.std.proofs.lemmas.Slice.Eq.{slice_eq-Decides}
use Rattle.std.specs.Cmp.Lexicographic.{pointwise, same_text}
use Rattle.std.specs.Option.{option_eq}
use Rattle.fd_entries.specs.declared.table.Entry.{Entry}

digests_same : (a b : Option (List ℕ)) → option_eq (pointwise nat_eq) a b ≡ true → a ≡ b
digests_same None None is = refl
digests_same None (Some y) is = absurd (true≢false (sym is))
digests_same (Some x) None is = absurd (true≢false (sym is))
digests_same (Some x) (Some y) is = ap Some (same_text x y (sym is))

digests_refl : (a : Option (List ℕ)) → option_eq (pointwise nat_eq) a a ≡ true
digests_refl None = refl
digests_refl (Some x) = (slice_eq-Decides Decides-eqb x x (pointwise nat_eq x x) refl).1 refl

abbrev pub same_entries : Entry → Entry → Bool
same_entries a b =
    (a.writer == b.writer) && ((a.seq == b.seq) && ((a.fields == b.fields) && ((a.index_len == b.index_len) && ((a.fields_len == b.fields_len) && option_eq (pointwise nat_eq) a.digest b.digest))))

both : (a b : Bool) → (a && b) ≡ true → (a ≡ true) × (b ≡ true)
both true b is = (refl, is)
both false b is = absurd (true≢false (sym is))

pub entries_same : (a b : Entry) → same_entries a b ≡ true → a ≡ b
entries_same a b is =
    let p = both _ _ is in
    let q = both _ _ p.1 in
    let r = both _ _ q.1 in
    let s = both _ _ r.1 in
    let t = both _ _ s.1 in
    let writer = (Decides-eqb a.writer b.writer).0 p.0 in
    let seq = (Decides-eqb a.seq b.seq).0 q.0 in
    let fields = (Decides-eqb a.fields b.fields).0 r.0 in
    let index_len = (Decides-eqb a.index_len b.index_len).0 s.0 in
    let fields_len = (Decides-eqb a.fields_len b.fields_len).0 t.0 in
    let digest = digests_same a.digest b.digest t.1 in
    λ j. record { writer = writer j; seq = seq j; fields = fields j; index_len = index_len j; fields_len = fields_len j; digest = digest j }

pub entries_refl : (a : Entry) → same_entries a a ≡ true
entries_refl a =
    let writer = (Decides-eqb a.writer a.writer).1 refl in
    let seq = (Decides-eqb a.seq a.seq).1 refl in
    let fields = (Decides-eqb a.fields a.fields).1 refl in
    let index_len = (Decides-eqb a.index_len a.index_len).1 refl in
    let fields_len = (Decides-eqb a.fields_len a.fields_len).1 refl in
    let digest = digests_refl a.digest in
    λ j. writer j && (seq j && (fields j && (index_len j && (fields_len j && digest j))))
