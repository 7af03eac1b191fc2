-- What the record of a file's calls keeps.
use Rattle.std.proofs.Common.{◌≡◌, ℕ, suc, ◌+◌, ◌<◌, ◌≤◌, ◌&&◌, Bool, true, nat_le, List, [], ◌∷◌, ◌++◌, length, take, drop, refl, sym, ◌∙◌, ap, arith}
use Rattle.std.proofs.lemmas.Bool.Decides.{nat_tests}
use Rattle.std.proofs.lemmas.List.{take-append-le, drop-append-le, length-take, length-take-le, length-drop, length-replicate, length-append, length_push}
use Rattle.fd_disk.specs.declared.file.File.{File}
use Rattle.fd_disk.specs.declared.file.Range.{Range}
use Rattle.fd_disk.specs.Images.{overwritten, firm_file}
use Rattle.fd_file_mem.specs.declared.recorded.Mark.{Mark}
use Rattle.fd_file_mem.specs.declared.recorded.Mark.TheVariants as mark
use Rattle.fd_file_mem.specs.Buffers.{Buffered}
use Rattle.fd_file_mem.specs.Calls.{Call, Wrote, Failed, Synced, Memory, called, file_after, bytes_by, bytes_in, with_bytes, has_room, fits}
use Rattle.fd_file_mem.specs.Kept.{IsKept}
use Rattle.fd_file_mem.proofs.CallLemmas.{replayed-push}

pub length_with : (ms : List Mark) (bs : List ℕ) → length (with_bytes ms bs) ≡ length ms
length_with [] bs = refl
length_with (mark.Wrote at len ∷ ms) bs = ap suc (length_with ms (drop len bs))
length_with (mark.Failed at len ∷ ms) bs = ap suc (length_with ms bs)
length_with (mark.Synced ∷ ms) bs = ap suc (length_with ms bs)

pub bytes_with : (ms : List Mark) (bs : List ℕ) → bytes_in ms ≤ length bs → bytes_by (with_bytes ms bs) ≡ bytes_in ms
bytes_with [] bs le = refl
bytes_with (mark.Wrote at len ∷ ms) bs le =
    let rest = bytes_with ms (drop len bs) (omega (arith, le, length-drop len bs)) in
    let front = length-take-le len bs (omega (arith, le)) in
    omega (arith, rest, front)
bytes_with (mark.Failed at len ∷ ms) bs le = bytes_with ms bs le
bytes_with (mark.Synced ∷ ms) bs le = bytes_with ms bs le

pub with_push : (ms : List Mark) (m : Mark) (bs more : List ℕ) → bytes_in ms ≡ length bs → with_bytes (ms ++ m ∷ []) (bs ++ more) ≡ with_bytes ms bs ++ with_bytes (m ∷ []) more
with_push [] m [] more is = refl
with_push [] m (b ∷ bs) more is = absurd (cc is)
with_push (mark.Wrote at len ∷ ms) m bs more is =
    let within : len ≤ length bs = omega (arith, is) in
    let rest = with_push ms m (drop len bs) more (omega (arith, is, length-drop len bs)) in
    ap (λ (l : List ℕ). Wrote at l ∷ with_bytes (ms ++ m ∷ []) (drop len (bs ++ more))) (take-append-le len bs more within)
    ∙ ap (λ (l : List ℕ). Wrote at (take len bs) ∷ with_bytes (ms ++ m ∷ []) l) (drop-append-le len bs more within)
    ∙ ap (λ (cs : List Call). Wrote at (take len bs) ∷ cs) rest
with_push (mark.Failed at len ∷ ms) m bs more is = ap (λ (cs : List Call). Failed at len ∷ cs) (with_push ms m bs more is)
with_push (mark.Synced ∷ ms) m bs more is = ap (λ (cs : List Call). Synced ∷ cs) (with_push ms m bs more is)

pub bytes_push : (ms : List Mark) (m : Mark) → bytes_in (ms ++ m ∷ []) ≡ bytes_in ms + bytes_in (m ∷ [])
bytes_push [] m = omega arith
bytes_push (mark.Wrote at len ∷ ms) m = omega (arith, bytes_push ms m)
bytes_push (mark.Failed at len ∷ ms) m = bytes_push ms m
bytes_push (mark.Synced ∷ ms) m = bytes_push ms m

-- what it means that a write fits
pub fits_size : (m : Memory) (at len : ℕ) → fits m at len ≡ true → at + len ≤ m.size
fits_size m at len is = grind (arith, nat_tests, is)

pub fits_calls : (m : Memory) (at len : ℕ) → fits m at len ≡ true → length m.calls < m.most_calls
fits_calls m at len is = grind (arith, nat_tests, is)

pub fits_bytes : (m : Memory) (at len : ℕ) → fits m at len ≡ true → bytes_by m.calls + len ≤ m.most_bytes
fits_bytes m at len is = grind (arith, nat_tests, is)

pub room_calls : (m : Memory) → has_room m ≡ true → length m.calls < m.most_calls
room_calls m is = grind (arith, nat_tests, is)

pub fits_rest : (m : Memory) (at len left : ℕ) → at + len ≤ m.size → has_room m ≡ true → bytes_by m.calls + left ≡ m.most_bytes → nat_le len left ≡ fits m at len
fits_rest m at len left short room is =
    let front : nat_le (at + len) m.size ≡ true = grind (arith, nat_tests, short) in
    let same : nat_le len left ≡ nat_le (bytes_by m.calls + len) m.most_bytes = grind (arith, nat_tests, is) in
    same
    ∙ sym (ap (λ (b : Bool). b && nat_le (bytes_by m.calls + len) m.most_bytes) room)
    ∙ sym (ap (λ (b : Bool). b && (has_room m && nat_le (bytes_by m.calls + len) m.most_bytes)) front)

-- the file after one call more
pub file_push : (start : List ℕ) (cs later : List Call) (c : Call) (f : File) → later ≡ cs ++ c ∷ [] → file_after start cs ≡ f → file_after start later ≡ called f c
file_push start cs later c f is now = ap (file_after start) is ∙ replayed-push (firm_file start) cs c ∙ ap (λ (g : File). called g c) now

pub overwritten_within : (old : List ℕ) (at : ℕ) (bytes : List ℕ) (size : ℕ) → length old ≤ size → at + length bytes ≤ size → length (overwritten old at bytes) ≤ size
overwritten_within old at bytes size short fits = simp (length-append, length-take, length-drop, length-replicate) (omega (arith, short, fits))

-- the room that a memory tells is that of its lists
module _ (marks : Buffered Mark) (written : Buffered ℕ) (now : Memory) (calls : with_bytes marks.items written.items ≡ now.calls) where
  pub marks_room : marks.size ≡ now.most_calls → length now.calls < now.most_calls → length marks.items < marks.size
  marks_room size lt = omega (arith, size, lt, length_with marks.items written.items, ap length calls)

  pub bytes_are : bytes_in marks.items ≡ length written.items → bytes_by now.calls ≡ length written.items
  bytes_are bytes = sym (ap bytes_by calls) ∙ bytes_with marks.items written.items (omega (arith, bytes)) ∙ bytes

module _ (marks marks' : Buffered Mark) (written written' : Buffered ℕ) (m : Mark) (more : List ℕ) (c : Call)
    (is : with_bytes (m ∷ []) more ≡ c ∷ []) (marks_are : marks'.items ≡ marks.items ++ m ∷ []) (written_is : written'.items ≡ written.items ++ more) where
  -- the calls have one more
  pub calls_push : bytes_in marks.items ≡ length written.items → with_bytes marks'.items written'.items ≡ with_bytes marks.items written.items ++ c ∷ []
  calls_push bytes =
      ap (λ (ms : List Mark). with_bytes ms written'.items) marks_are
      ∙ ap (with_bytes (marks.items ++ m ∷ [])) written_is
      ∙ with_push marks.items m written.items more bytes
      ∙ ap (λ (cs : List Call). with_bytes marks.items written.items ++ cs) is

  -- and the file is what that call makes of it
  pub kept_call : (start firm reads firm' reads' : Buffered ℕ) (loose loose' : Buffered Range) → IsKept start firm reads loose marks written
      → marks'.size ≡ marks.size → bytes_in (m ∷ []) ≡ length more
      → called (record { firm = firm.items; reads = reads.items; loose = loose.items }) c ≡ record { firm = firm'.items; reads = reads'.items; loose = loose'.items }
      → length loose'.items ≤ length loose.items + 1 → length reads'.items ≤ reads'.size
      → reads'.size ≡ reads.size → firm'.size ≡ firm.size → loose'.size ≡ loose.size
      → IsKept start firm' reads' loose' marks' written'
  kept_call start firm reads firm' reads' loose loose' kept size new_bytes makes few within reads_size firm_size loose_size = record {
    file = file_push start.items (with_bytes marks.items written.items) (with_bytes marks'.items written'.items) c _ (calls_push kept.bytes) kept.file ∙ makes;
    bytes = ap bytes_in marks_are ∙ omega (arith, bytes_push marks.items m, new_bytes, kept.bytes, ap length written_is, length-append written.items more);
    few = omega (arith, few, kept.few, ap length marks_are, length_push marks.items m);
    within = within;
    start_size = kept.start_size ∙ sym reads_size;
    firm_size = firm_size ∙ kept.firm_size ∙ sym reads_size;
    loose_size = loose_size ∙ kept.loose_size ∙ sym size;
  }
