-- What calls leave of a table that stands.
use Rattle.std.proofs.Common.{◌≡◌, ◌⊎◌, inl, inr, ℕ, suc, ◌+◌, ◌<◌, ◌≤◌, false, nat_le, nat_lt, ◌&&◌, take-append-drop, List, [], ◌∷◌, ◌++◌, length, take, drop, get_or, refl, sym, ◌∙◌, ap, subst, arith, append_assoc, length-append, Ok}
use Rattle.std.proofs.lemmas.Bool.{cases_eq}
use Rattle.std.proofs.lemmas.Bool.Decides.{nat_tests}
use Rattle.std.proofs.lemmas.List.{take_at, drop_at, drop_more, ext_get_or, length-take-le, length-drop, get_or-take, get_or-drop, get_or_append_left, length_push}
use Rattle.fd_disk.specs.declared.file.File.{File}
use Rattle.fd_disk.specs.declared.file.Range.{Range}
use Rattle.fd_disk.specs.Images.{is_in, IsImage, IsDisturbed, AllFrom, firm_file, loosened, written, synced, overwritten}
use Rattle.fd_disk.proofs.ImageLemmas.{take_image, take_written, written_within, written_parts, firm_image}
use Rattle.fd_entries.specs.declared.table.Entry.{Entry}
use Rattle.fd_entries.specs.Table.{listed, table_of, gate_at, body_of, IsTable, Fits, AllFit, slots_of, header, with_gate}
use Rattle.fd_entries.specs.Standing.{IsSettled, IsStaged, IsInDoubt, AllAt}
use Rattle.fd_entries.proofs.Slots.{listed_table, table_front, table_long, table_split, front_of, length-front_of, length-front}

pub slots-append : (es more : List Entry) → slots_of (es ++ more) ≡ slots_of es ++ slots_of more
slots-append [] more = refl
slots-append (e ∷ es) more = ap (λ (l : List ℕ). 79 ∷ body_of e ++ l) (slots-append es more)

pub fit-push : (i : ℕ) (es : List Entry) (e : Entry) → AllFit i es → Fits (i + length es) e → AllFit i (es ++ e ∷ [])
fit-push i [] e all fits = (subst (λ (n : ℕ). Fits n e) (omega arith) fits, tt)
fit-push i (x ∷ es) e all fits = let place : i + suc (length es) ≡ (i + 1) + length es = omega arith in (all.0, fit-push (i + 1) es e all.1 (subst (λ (n : ℕ). Fits n e) place fits))

module _ (dataset : List ℕ) (es : List Entry) where
  abbrev pub after_gate : ℕ
  after_gate = gate_at (length es) + 1

  -- each image of a settled table is a table of its entries
  pub settled_table : (f : File) (c : List ℕ) → IsSettled dataset es f → IsImage f c → IsTable dataset es c
  settled_table f c s image = table_front dataset es f.firm c s.firm (take_image f c after_gate image (table_long dataset es f.firm s.firm) s.loose)

  pub settled_image : (f : File) (c : List ℕ) → IsSettled dataset es f → IsImage f c → listed dataset c ≡ Ok es
  settled_image f c s image = listed_table dataset es c (settled_table f c s image)

  pub loosened_settled : (f : File) (len : ℕ) (reads : List ℕ) → IsSettled dataset es f → take after_gate reads ≡ take after_gate f.reads → IsSettled dataset es (loosened f after_gate len reads)
  loosened_settled f len reads s same = record {
    firm = s.firm;
    reads = table_front dataset es f.reads reads s.reads same;
    loose = (omega arith, s.loose);
  }

  pub disturbed_front : (f g : File) (len : ℕ) → IsSettled dataset es f → IsDisturbed f after_gate len g → take after_gate g.reads ≡ take after_gate f.reads
  disturbed_front f g len s d =
      let long : after_gate ≤ length f.reads = table_long dataset es f.reads s.reads in
      let long_g : after_gate ≤ length g.reads = omega (arith, d.no_shorter) in
      ext_get_or 0 (take after_gate g.reads) (take after_gate f.reads) (length-take-le after_gate g.reads long_g ∙ sym (length-take-le after_gate f.reads long))
      (λ k lt. let kp : k < after_gate = omega (arith, lt, length-take-le after_gate g.reads long_g) in
      let out : (nat_le after_gate k && nat_lt k (after_gate + len)) ≡ false = grind (arith, nat_tests) in
      get_or-take after_gate g.reads k 0 kp ∙ d.agrees k (omega arith) out ∙ sym (get_or-take after_gate f.reads k 0 kp))

  pub written_settled : (f : File) (bytes : List ℕ) → IsSettled dataset es f → IsSettled dataset es (written f after_gate bytes)
  written_settled f bytes s =
      loosened_settled f (length bytes) (overwritten f.reads after_gate bytes) s
      (take_written f.reads after_gate bytes after_gate (omega arith) (table_long dataset es f.reads s.reads))

  pub staged_bytes : (f : File) (e : Entry) (s : IsSettled dataset es f)
      → overwritten f.reads after_gate (body_of e ++ 0 ∷ []) ≡ table_of dataset es s.reads.gate (body_of e ++ 0 ∷ drop (after_gate + 64) f.reads)
  staged_bytes f e s =
      let rest = drop (after_gate + 64) f.reads in
      let front : take after_gate f.reads ≡ front_of dataset es s.reads.gate =
      ap (take after_gate) (s.reads.is ∙ table_split dataset es s.reads.gate s.reads.tail) ∙ take_at (front_of dataset es s.reads.gate) s.reads.tail after_gate (length-front_of dataset es s.reads.gate s.reads.short) in
      written_within f.reads after_gate (body_of e ++ 0 ∷ []) (table_long dataset es f.reads s.reads)
      ∙ ap (λ (l : List ℕ). l ++ ((body_of e ++ 0 ∷ []) ++ rest)) front
      ∙ sym (table_split dataset es s.reads.gate (body_of e ++ 0 ∷ rest))

  -- the body in its place, once it is firm
  pub body_staged : (f : File) (e : Entry) → IsSettled dataset es f → Fits (length es) e → length es < 65535 → IsStaged dataset es (synced (written f after_gate (body_of e ++ 0 ∷ []))) e
  body_staged f e s fits few = record {
    gate = s.reads.gate;
    tail = drop (after_gate + 64) f.reads;
    shut = s.reads.shut;
    firm = ap firm_file (staged_bytes f e s);
    short = s.reads.short;
    fit = s.reads.fit;
    fits = fits;
    few = few;
  }

  -- any gate before a staged body
  gate_bytes : (f : File) (e : Entry) (g : ℕ) (s : IsStaged dataset es f e) → overwritten f.reads (gate_at (length es)) (g ∷ []) ≡ table_of dataset es g (body_of e ++ 0 ∷ s.tail)
  gate_bytes f e g s =
      let a = header dataset ++ slots_of es in
      ap (λ h. overwritten h.reads (gate_at (length es)) (g ∷ [])) s.firm
      ∙ written_parts a (s.gate ∷ []) (body_of e ++ 0 ∷ s.tail) (g ∷ []) (gate_at (length es)) (length-front dataset es s.short) refl

  -- an open gate before a staged body lists the entry too
  pub opened_table : (e : Entry) (tail : List ℕ) → length dataset ≤ 255 → AllFit 0 es → Fits (length es) e → length es < 65535 → IsTable dataset (es ++ e ∷ []) (table_of dataset es 79 (body_of e ++ 0 ∷ tail))
  opened_table e tail short fit fits few = record {
    gate = 0;
    tail = tail;
    shut = omega arith;
    is = ap (λ (l : List ℕ). header dataset ++ slots_of es ++ 79 ∷ l) (sym (append_assoc (body_of e) [] (0 ∷ tail)))
        ∙ sym (append_assoc (header dataset ++ slots_of es) (slots_of (e ∷ [])) (0 ∷ tail))
        ∙ ap (λ (l : List ℕ). l ++ 0 ∷ tail) (append_assoc (header dataset) (slots_of es) (slots_of (e ∷ [])))
        ∙ ap (λ (l : List ℕ). (header dataset ++ l) ++ 0 ∷ tail) (sym (slots-append es (e ∷ [])));
    short = short;
    fit = fit-push 0 es e fit (subst (λ (n : ℕ). Fits n e) (omega arith) fits);
    few = omega (arith, few, length_push es e);
  }

  pub gate_opened : (f : File) (e : Entry) → IsStaged dataset es f e → IsTable dataset (es ++ e ∷ []) (with_gate f (length es)).reads
  gate_opened f e s = subst (IsTable dataset (es ++ e ∷ [])) (sym (gate_bytes f e 79 s)) (opened_table e s.tail s.short s.fit s.fits s.few)

  -- a table as it reads, once it is firm
  pub synced_settled : (f : File) → IsTable dataset es f.reads → IsSettled dataset es (synced f)
  synced_settled f t = record { firm = t; reads = t; loose = tt }

at_from : (p : ℕ) (rs : List Range) → AllAt p rs → AllFrom p rs
at_from p [] all = tt
at_from p (r ∷ rs) all = (omega (arith, all.0), at_from p rs all.2)

-- one byte alone is loose
only_at : (p k : ℕ) (rs : List Range) → AllAt p rs → p < k → is_in k rs ≡ false
only_at p k [] all lt = refl
only_at p k (r ∷ rs) all lt = let ih = only_at p k rs all.2 lt in let a = all.0 in let n = all.1 in grind (arith, nat_tests, ih, a, n)

module _ (dataset : List ℕ) (es : List Entry) (f : File) (e : Entry) (d : IsInDoubt dataset es f e) where
  abbrev gate : ℕ
  gate = gate_at (length es)

  abbrev head : List ℕ
  head = header dataset ++ slots_of es

  abbrev body : List ℕ
  body = body_of e ++ 0 ∷ []

  head_long : length head ≡ gate
  head_long = length-front dataset es d.short

  firm_split : f.firm ≡ head ++ (d.gate ∷ (body ++ d.tail))
  firm_split = d.firm ∙ ap (λ (l : List ℕ). head ++ d.gate ∷ l) (sym (append_assoc (body_of e) (0 ∷ []) d.tail))

  firm_long : gate + 65 ≤ length f.firm
  firm_long = omega (arith, ap length firm_split, length-append head (d.gate ∷ (body ++ d.tail)), head_long, length-append body d.tail)

  front_kept : (c : List ℕ) → IsImage f c → take gate c ≡ head
  front_kept c image =
      take_image f c gate image (omega (arith, firm_long)) (at_from gate f.loose d.loose)
      ∙ ap (take gate) firm_split ∙ take_at head (d.gate ∷ (body ++ d.tail)) gate head_long

  firm_behind : drop (gate + 1) f.firm ≡ body ++ d.tail
  firm_behind = ap (drop (gate + 1)) (firm_split ∙ sym (append_assoc head (d.gate ∷ []) (body ++ d.tail))) ∙ drop_at (head ++ d.gate ∷ []) (body ++ d.tail) (gate + 1) (omega (arith, length-append head (d.gate ∷ []), head_long))

  body_kept : (c : List ℕ) → IsImage f c → take 64 (drop (gate + 1) c) ≡ body
  body_kept c image =
      let long : 64 ≤ length (drop (gate + 1) c) = omega (arith, length-drop (gate + 1) c, image.no_shorter, firm_long) in
      ext_get_or 0 (take 64 (drop (gate + 1) c)) body (length-take-le 64 (drop (gate + 1) c) long)
      (λ k lt. let small : k < 64 = omega (arith, lt, length-take-le 64 (drop (gate + 1) c) long) in
      get_or-take 64 (drop (gate + 1) c) k 0 small
      ∙ get_or-drop (gate + 1) c k 0
      ∙ image.agrees (gate + 1 + k) (omega (arith, firm_long, small)) (only_at gate (gate + 1 + k) f.loose d.loose (omega arith))
      ∙ sym (get_or-drop (gate + 1) f.firm k 0)
      ∙ ap (λ (l : List ℕ). get_or l k 0) firm_behind
      ∙ get_or_append_left body d.tail 0 k small)

  image_split : (c : List ℕ) → IsImage f c → c ≡ table_of dataset es (get_or c gate 0) (body_of e ++ 0 ∷ drop 64 (drop (gate + 1) c))
  image_split c image =
      let g = get_or c gate 0 in
      let rest = drop 64 (drop (gate + 1) c) in
      sym (take-append-drop gate c)
      ∙ ap (λ (l : List ℕ). l ++ drop gate c) (front_kept c image)
      ∙ ap (λ (l : List ℕ). head ++ l) (drop_more c gate 0 (omega (arith, image.no_shorter, firm_long)))
      ∙ ap (λ (l : List ℕ). head ++ g ∷ l) (sym (take-append-drop 64 (drop (gate + 1) c)))
      ∙ ap (λ (l : List ℕ). head ++ g ∷ (l ++ rest)) (body_kept c image)
      ∙ ap (λ (l : List ℕ). head ++ g ∷ l) (append_assoc (body_of e) (0 ∷ []) rest)

  -- each image of a table in doubt is a table of its entries, or of these and the one in doubt
  pub doubt_table : (c : List ℕ) → IsImage f c → IsTable dataset es c ⊎ IsTable dataset (es ++ e ∷ []) c
  doubt_table c image = elim (cases_eq (get_or c gate 0) 79) [
    | inl opened ↦ inr (subst (IsTable dataset (es ++ e ∷ [])) (sym (image_split c image ∙ ap (λ (g : ℕ). table_of dataset es g (body_of e ++ 0 ∷ drop 64 (drop (gate + 1) c))) opened))
        (opened_table dataset es e (drop 64 (drop (gate + 1) c)) d.short d.fit d.fits d.few))
    | inr shut ↦ inl (record { gate = get_or c gate 0; tail = body_of e ++ 0 ∷ drop 64 (drop (gate + 1) c); shut = shut; is = image_split c image; short = d.short; fit = d.fit; few = omega (arith, d.few) })
  ]

  pub doubt_image : (c : List ℕ) → IsImage f c → (listed dataset c ≡ Ok es) ⊎ (listed dataset c ≡ Ok (es ++ e ∷ []))
  doubt_image c image = elim (doubt_table c image) [
    | inl t ↦ inl (listed_table dataset es c t)
    | inr t ↦ inr (listed_table dataset (es ++ e ∷ []) c t)
  ]

  -- a closed gate written over one in doubt closes the table as it reads
  pub closed_table : IsImage f f.reads → IsTable dataset es (written f gate (0 ∷ [])).reads
  closed_table image =
      let rest = body_of e ++ 0 ∷ drop 64 (drop (gate + 1) f.reads) in
      let split : f.reads ≡ table_of dataset es (get_or f.reads gate 0) rest = image_split f.reads image in
      let closed : overwritten f.reads gate (0 ∷ []) ≡ table_of dataset es 0 rest =
      ap (λ (l : List ℕ). overwritten l gate (0 ∷ [])) split
      ∙ written_parts (header dataset ++ slots_of es) (get_or f.reads gate 0 ∷ []) rest (0 ∷ []) gate (length-front dataset es d.short) refl in
      record { gate = 0; tail = rest; shut = omega arith; is = closed; short = d.short; fit = d.fit; few = omega (arith, d.few) }

-- the gate of a staged body, while or after its write
pub staged_doubt : (dataset : List ℕ) (es : List Entry) (f : File) (e : Entry) → IsStaged dataset es f e → IsInDoubt dataset es f e
staged_doubt dataset es f e s = record {
  gate = s.gate;
  tail = s.tail;
  shut = s.shut;
  firm = ap (λ g. g.firm) s.firm;
  short = s.short;
  fit = s.fit;
  loose = subst (λ (rs : List Range). AllAt (gate_at (length es)) rs) (sym (ap (λ g. g.loose) s.firm)) tt;
  fits = s.fits;
  few = s.few;
}

-- the gate's byte is made loose once more
pub loosened_doubt : (dataset : List ℕ) (es : List Entry) (f : File) (e : Entry) (reads : List ℕ) → IsInDoubt dataset es f e → IsInDoubt dataset es (loosened f (gate_at (length es)) 1 reads) e
loosened_doubt dataset es f e reads d = record {
  gate = d.gate;
  tail = d.tail;
  shut = d.shut;
  firm = d.firm;
  short = d.short;
  fit = d.fit;
  loose = (refl, refl, d.loose);
  fits = d.fits;
  few = d.few;
}

-- a closed gate written over one in doubt, once it is firm
pub mended : (dataset : List ℕ) (es : List Entry) (f : File) (e : Entry) → IsInDoubt dataset es f e → IsImage f f.reads → IsSettled dataset es (synced (written f (gate_at (length es)) (0 ∷ [])))
mended dataset es f e d image = synced_settled dataset es (written f (gate_at (length es)) (0 ∷ [])) (closed_table dataset es f e d image)

-- a staged body changes nothing that is listed
pub staged_settled : (dataset : List ℕ) (es : List Entry) (f : File) (e : Entry) → IsStaged dataset es f e → IsSettled dataset es f
staged_settled dataset es f e s =
    let bytes = table_of dataset es s.gate (body_of e ++ 0 ∷ s.tail) in
    let table : IsTable dataset es bytes = record { gate = s.gate; tail = body_of e ++ 0 ∷ s.tail; shut = s.shut; is = refl; short = s.short; fit = s.fit; few = omega (arith, s.few) } in
    subst (IsSettled dataset es) (sym s.firm) (record { firm = table; reads = table; loose = tt })

pub staged_reads : (dataset : List ℕ) (es : List Entry) (f : File) (e : Entry) → IsStaged dataset es f e → IsImage f f.reads
staged_reads dataset es f e s = subst (λ (g : File). IsImage g g.reads) (sym s.firm) (firm_image (table_of dataset es s.gate (body_of e ++ 0 ∷ s.tail)))
