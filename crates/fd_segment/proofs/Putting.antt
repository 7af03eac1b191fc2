-- One pair more in a draft, or a put that was refused.
use Rattle.std.proofs.Common.{◌≡◌, inl, inr, ◌≤◌, ◌<◌, ◌+◌, ℕ, false, ◌&&◌, nat_le, nat_lt, List, [], ◌∷◌, ◌++◌, length, take, drop, Option, Some, None, refl, sym, ap, ◌∙◌, subst, arith, append_assoc, length-append, length-take}
use Rattle.std.specs.Prelude.{IfSome, option_map}
use Rattle.std.proofs.lemmas.Bool.Decides.{nat_tests}
use Rattle.std.proofs.lemmas.List.{take_at, take-take, ext_get_or, length-take-le, get_or-take, append-nil}
use Rattle.fd_disk.specs.declared.file.File.{File}
use Rattle.fd_disk.specs.Folders.{WhereTold}
use Rattle.fd_disk.specs.Images.{IsAfterFailedWrite, overwritten, written}
use Rattle.fd_disk.proofs.ImageLemmas.{take_written, written_within}
use Rattle.fd_entries.specs.declared.batch.Pair.{Pair}
use Rattle.fd_entries.specs.Batches.{KeysFit}
use Rattle.sha2.specs.Sha256.{sha256}
use Rattle.sha2.proofs.Facts256.{length-sha256}
use Rattle.fd_index.specs.Builder.{HoldsPut}
use Rattle.fd_index.specs.Held.{Held}
use Rattle.fd_index.specs.Records.{Record, StandsFor}
use Rattle.fd_segment.specs.Filling.{Filling, Puts, fields_of, places_from, stored}
use Rattle.fd_segment.specs.Steps.{StopsPutting, digested}
use Rattle.fd_segment.proofs.Places.{fields_length}

stored_push : (b : List Pair) (p : Pair) → stored (b ++ p ∷ []) ≡ stored b + (length p.bytes + 32)
stored_push [] p = omega arith
stored_push (x ∷ b) p = let ih = stored_push b p in omega (arith, ih)

fields_push : (b : List Pair) (p : Pair) → fields_of (b ++ p ∷ []) ≡ fields_of b ++ (p.bytes ++ sha256 p.bytes)
fields_push [] p = append-nil (p.bytes ++ sha256 p.bytes)
fields_push (x ∷ b) p = ap (λ (l : List ℕ). (x.bytes ++ sha256 x.bytes) ++ l) (fields_push b p) ∙ sym (append_assoc (x.bytes ++ sha256 x.bytes) (fields_of b) (p.bytes ++ sha256 p.bytes))

keys_push : (b : List Pair) (p : Pair) → KeysFit b → length p.key ≤ 256 → KeysFit (b ++ p ∷ [])
keys_push [] p fit le = (le, tt)
keys_push (x ∷ b) p fit le = (fit.0, keys_push b p fit.1 le)

abbrev pub put_of : Pair → ℕ → Record
put_of p at = record { key = p.key; at = at; len = length p.bytes }

places_push : (at : ℕ) (b : List Pair) (p : Pair) → places_from at (b ++ p ∷ []) ≡ places_from at b ++ put_of p (at + stored b) ∷ []
places_push at [] p = let none : at ≡ at + 0 = omega arith in ap (λ (n : ℕ). put_of p n ∷ []) none
places_push at (x ∷ b) p =
    let same : at + (length x.bytes + 32) + stored b ≡ at + ((length x.bytes + 32) + stored b) = omega arith in
    ap (λ (l : List Record). put_of x at ∷ l) (places_push (at + (length x.bytes + 32)) b p ∙ ap (λ (n : ℕ). places_from (at + (length x.bytes + 32)) b ++ put_of p n ∷ []) same)

long_enough : (n : ℕ) (xs front : List ℕ) → take n xs ≡ front → length front ≡ n → n ≤ length xs
long_enough n xs front e len = omega (arith, length-take n xs, ap length e, len)

-- what stands in front, as far as it is told
abbrev pub Begins : Option File → ℕ → List ℕ → Type 0
Begins file n front = IfSome (option_map (λ f. f.reads) file) (λ f. take n f ≡ front)

-- the bytes were written behind what stands in front
pub begins_more : (o p : Option File) (at : ℕ) (bytes front : List ℕ) → length front ≡ at → p ≡ option_map (λ f. written f at bytes) o → Begins o at front → Begins p (at + length bytes) (front ++ bytes)
begins_more None p at bytes front len is h = subst (λ (x : Option File). Begins x (at + length bytes) (front ++ bytes)) (sym is) tt
begins_more (Some f) p at bytes front len is h = subst (λ (x : Option File). Begins x (at + length bytes) (front ++ bytes)) (sym is) made
  where
    made : take (at + length bytes) (overwritten f.reads at bytes) ≡ front ++ bytes
    made =
        ap (take (at + length bytes)) (written_within f.reads at bytes (long_enough at f.reads front h len) ∙ ap (λ (l : List ℕ). l ++ (bytes ++ drop (at + length bytes) f.reads)) h ∙ sym (append_assoc front bytes (drop (at + length bytes) f.reads)))
        ∙ take_at (front ++ bytes) (drop (at + length bytes) f.reads) (at + length bytes) (omega (arith, length-append front bytes, len))

-- a write behind it leaves what stands in front
pub begins_same : (o p : Option File) (at : ℕ) (bytes front : List ℕ) → length front ≡ at → p ≡ option_map (λ f. written f at bytes) o → Begins o at front → Begins p at front
begins_same None p at bytes front len is h = subst (λ (x : Option File). Begins x at front) (sym is) tt
begins_same (Some f) p at bytes front len is h =
    subst (λ (x : Option File). Begins x at front) (sym is) (take_written f.reads at bytes at (omega arith) (long_enough at f.reads front h len) ∙ h)

-- so does one that failed
pub begins_failed : (o p : Option File) (at len : ℕ) (front : List ℕ) → length front ≡ at → WhereTold o p (λ f g. IsAfterFailedWrite f at len g) → Begins o at front → Begins p at front
begins_failed None None at len front long w h = tt
begins_failed None (Some g) at len front long w h = absurd w
begins_failed (Some f) None at len front long w h = absurd w
begins_failed (Some f) (Some g) at len front long (inl same) h = ap (λ (x : File). take at x.reads) same ∙ h
begins_failed (Some f) (Some g) at len front long (inr d) h =
    let le : at ≤ length f.reads = long_enough at f.reads front h long in
    let le' : at ≤ length g.reads = omega (arith, le, d.no_shorter) in
    ext_get_or 0 (take at g.reads) (take at f.reads) (length-take-le at g.reads le' ∙ sym (length-take-le at f.reads le))
    (λ k lt.
    let kp : k < at = omega (arith, lt, length-take-le at g.reads le') in
    let kf : k < length f.reads = omega (arith, kp, le) in
    let out : (nat_le at k && nat_lt k (at + len)) ≡ false = grind (arith, nat_tests, kp) in
    get_or-take at g.reads k 0 kp ∙ d.agrees k kf out ∙ sym (get_or-take at f.reads k 0 kp))
    ∙ h

-- so does a put that stopped after its first write, or before
pub begins_stopped : (o p : Option File) (at : ℕ) (bytes front : List ℕ) → length front ≡ at → WhereTold o p (StopsPutting at bytes) → Begins o at front → Begins p at front
begins_stopped None None at bytes front long w h = tt
begins_stopped None (Some g) at bytes front long w h = absurd w
begins_stopped (Some f) None at bytes front long w h = absurd w
begins_stopped (Some f) (Some g) at bytes front long (inl first) h = begins_failed (Some f) (Some g) at (length bytes) front long first h
begins_stopped (Some f) (Some g) at bytes front long (inr second) h =
    let after : Begins (Some (written f at bytes)) (at + length bytes) (front ++ bytes) = begins_more (Some f) (Some (written f at bytes)) at bytes front long refl h in
    let still : Begins (Some g) (at + length bytes) (front ++ bytes) = begins_failed (Some (written f at bytes)) (Some g) (at + length bytes) 32 (front ++ bytes) (omega (arith, length-append front bytes, long)) second after in
    sym (take-take at (at + length bytes) g.reads (omega arith)) ∙ ap (take at) still ∙ take_at front bytes at long

-- the bytes and their digest were written behind what stands in front
pub begins_digested : (o q : Option File) (at : ℕ) (bytes front : List ℕ) → length front ≡ at → q ≡ option_map (digested at bytes) o → Begins o at front → Begins q (at + (length bytes + 32)) (front ++ (bytes ++ sha256 bytes))
begins_digested None q at bytes front long is h = subst (λ (x : Option File). Begins x (at + (length bytes + 32)) (front ++ (bytes ++ sha256 bytes))) (sym is) tt
begins_digested (Some f) q at bytes front long is h =
    let first : Begins (Some (written f at bytes)) (at + length bytes) (front ++ bytes) = begins_more (Some f) (Some (written f at bytes)) at bytes front long refl h in
    let both : Begins (Some (digested at bytes f)) (at + length bytes + length (sha256 bytes)) ((front ++ bytes) ++ sha256 bytes) =
    begins_more (Some (written f at bytes)) (Some (digested at bytes f)) (at + length bytes) (sha256 bytes) (front ++ bytes) (omega (arith, length-append front bytes, long)) refl first in
    let end : at + length bytes + length (sha256 bytes) ≡ at + (length bytes + 32) = omega (arith, length-sha256 bytes) in
    subst (λ (x : Option File). Begins x (at + (length bytes + 32)) (front ++ (bytes ++ sha256 bytes))) (sym is)
    (subst (λ (n : ℕ). Begins (Some (digested at bytes f)) n (front ++ (bytes ++ sha256 bytes))) end (both ∙ append_assoc front bytes (sha256 bytes)))

-- one pair more
pub puts_more : (old new : Filling) (b : List Pair) (p : Pair) → Puts old b → HoldsPut old.held (put_of p old.end) new.held → new.end ≡ old.end + (length p.bytes + 32)
    → IfSome new.fields (λ f. take (old.end + (length p.bytes + 32)) f ≡ fields_of b ++ (p.bytes ++ sha256 p.bytes)) → length p.key ≤ 256 → Puts new (b ++ p ∷ [])
puts_more old new b p puts held end bytes fits = record {
  records = subst (λ (l : List Record). StandsFor l new.held.records) (sym (places_push 0 b p ∙ ap (λ (n : ℕ). places_from 0 b ++ put_of p n ∷ []) (omega (arith, puts.end)))) (held.records (places_from 0 b) puts.records);
  end = omega (arith, end, puts.end, stored_push b p);
  bytes = told new.fields bytes;
  keys = keys_push b p puts.keys fits;
}
  where
    told : (o : Option (List ℕ)) → IfSome o (λ f. take (old.end + (length p.bytes + 32)) f ≡ fields_of b ++ (p.bytes ++ sha256 p.bytes)) → IfSome o (λ f. take (stored (b ++ p ∷ [])) f ≡ fields_of (b ++ p ∷ []))
    told None h = tt
    told (Some f) h = ap (λ (n : ℕ). take n f) (omega (arith, puts.end, stored_push b p)) ∙ h ∙ sym (fields_push b p)

-- the same pairs
pub puts_same : (old new : Filling) (b : List Pair) → Puts old b → new.held ≡ old.held → new.end ≡ old.end → IfSome new.fields (λ f. take old.end f ≡ fields_of b) → Puts new b
puts_same old new b puts held end bytes = record {
  records = subst (λ (h : Held). StandsFor (places_from 0 b) h.records) (sym held) puts.records;
  end = end ∙ puts.end;
  bytes = told new.fields bytes;
  keys = puts.keys;
}
  where
    told : (o : Option (List ℕ)) → IfSome o (λ f. take old.end f ≡ fields_of b) → IfSome o (λ f. take (stored b) f ≡ fields_of b)
    told None h = tt
    told (Some f) h = ap (λ (n : ℕ). take n f) (sym puts.end) ∙ h

-- what the field file begins with, where it tells
pub puts_begin : (file : Option File) (d : Filling) (b : List Pair) → d.fields ≡ option_map (λ f. f.reads) file → Puts d b → Begins file d.end (fields_of b)
puts_begin None d b is puts = tt
puts_begin (Some f) d b is puts =
    let told : IfSome (Some f.reads) (λ x. take (stored b) x ≡ fields_of b) = subst (λ (o : Option (List ℕ)). IfSome o (λ x. take (stored b) x ≡ fields_of b)) is puts.bytes in
    ap (λ (n : ℕ). take n f.reads) puts.end ∙ told

-- ---- As the calls of a draft need it: d are its fields before, which are seen as e

-- a put that was refused
pub refused : (d e new : Filling) (b : List Pair) (o p : Option File) → d ≡ e → Puts e b → d.fields ≡ option_map (λ f. f.reads) o → new.fields ≡ option_map (λ f. f.reads) p → new.held ≡ d.held → new.end ≡ d.end
    → ((front : List ℕ) → length front ≡ d.end → Begins o d.end front → Begins p d.end front) → Puts new b
refused d e new b o p is puts before after held end stays =
    let puts' : Puts d b = subst (λ (x : Filling). Puts x b) (sym is) puts in
    let now : Begins p d.end (fields_of b) = stays (fields_of b) (fields_length b ∙ sym puts'.end) (puts_begin o d b before puts') in
    puts_same d new b puts' held end (subst (λ (x : Option (List ℕ)). IfSome x (λ f. take d.end f ≡ fields_of b)) (sym after) now)

-- a put that was taken
pub taken : (d e new : Filling) (b : List Pair) (p : Pair) (o q : Option File) → d ≡ e → Puts e b → d.fields ≡ option_map (λ f. f.reads) o → new.fields ≡ option_map (λ f. f.reads) q
    → HoldsPut d.held (put_of p d.end) new.held → new.end ≡ d.end + (length p.bytes + 32) → q ≡ option_map (digested d.end p.bytes) o → length p.key ≤ 256 → Puts new (b ++ p ∷ [])
taken d e new b p o q is puts before after held end wrote fits =
    let puts' : Puts d b = subst (λ (x : Filling). Puts x b) (sym is) puts in
    let now : Begins q (d.end + (length p.bytes + 32)) (fields_of b ++ (p.bytes ++ sha256 p.bytes)) = begins_digested o q d.end p.bytes (fields_of b) (fields_length b ∙ sym puts'.end) wrote (puts_begin o d b before puts') in
    puts_more d new b p puts' held end (subst (λ (x : Option (List ℕ)). IfSome x (λ f. take (d.end + (length p.bytes + 32)) f ≡ fields_of b ++ (p.bytes ++ sha256 p.bytes))) (sym after) now) fits
