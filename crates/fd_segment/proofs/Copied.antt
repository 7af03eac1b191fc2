-- Bytes of a file that were copied in pieces.
use Rattle.std.proofs.Common.{◌≡◌, ◌≤◌, ◌<◌, ◌+◌, ◌%◌, ℕ, List, [], ◌∷◌, ◌++◌, length, take, drop, Option, Some, None, Ok, refl, sym, ap, ◌∙◌, arith, length-append, length-take, length-drop}
use Rattle.std.proofs.lemmas.List.{take_at, take-take, append-nil, drop-drop, drop-take}
use Rattle.std.proofs.Math.Seq.{take-add}
use Rattle.fd_disk.specs.Reading.{ReadsBytes}
use Rattle.fd_io.specs.Streams.{Takes, TakesFront}
use Rattle.fd_io.proofs.Bytes.{Takes-none, Takes-more}
use Rattle.fd_segment.specs.Copying.{IsPiece, IsCopied, IsCopiedInPart}
use Rattle.fd_segment.specs.Counts.{pieces}

pub piece_none : (fields : Option (List ℕ)) (at : ℕ) → IsPiece fields at 0 []
piece_none None at = record { long = refl; told = tt }
piece_none (Some f) at = record { long = refl; told = refl }

pub piece_more : (fields : Option (List ℕ)) (at a b : ℕ) (x y : List ℕ) → IsPiece fields at a x → IsPiece fields (at + a) b y → IsPiece fields at (a + b) (x ++ y)
piece_more None at a b x y p q = record { long = omega (arith, length-append x y, p.long, q.long); told = tt }
piece_more (Some f) at a b x y p q = record {
  long = omega (arith, length-append x y, p.long, q.long);
  told = ap (λ (t : List ℕ). t ++ y) p.told ∙ ap (λ (t : List ℕ). take a (drop at f) ++ t) (q.told ∙ ap (take b) (sym (drop-drop a at f))) ∙ sym (take-add a b (drop at f));
}

piece_front : (fields : Option (List ℕ)) (at n : ℕ) (bytes front rest : List ℕ) → IsPiece fields at n bytes → bytes ≡ front ++ rest → IsPiece fields at (length front) front
piece_front None at n bytes front rest p is = record { long = refl; told = tt }
piece_front (Some f) at n bytes front rest p is =
    let le : length front ≤ n = omega (arith, length-append front rest, ap length is, p.long) in
    record {
      long = refl;
      told = sym (take_at front rest (length front) refl) ∙ ap (take (length front)) (sym is ∙ p.told) ∙ take-take (length front) n (drop at f) le;
    }

-- the front of a piece, and what stands behind it
pub piece_before : (fields : Option (List ℕ)) (at len more : ℕ) (bytes : List ℕ) → IsPiece fields at (len + more) bytes → IsPiece fields at len (take len bytes)
piece_before None at len more bytes p = record { long = omega (arith, length-take len bytes, p.long); told = tt }
piece_before (Some f) at len more bytes p = record {
  long = omega (arith, length-take len bytes, p.long);
  told = ap (take len) p.told ∙ take-take len (len + more) (drop at f) (omega arith);
}

pub piece_behind : (fields : Option (List ℕ)) (at len more : ℕ) (bytes : List ℕ) → IsPiece fields at (len + more) bytes → IsPiece fields (at + len) more (drop len bytes)
piece_behind None at len more bytes p = record { long = omega (arith, length-drop len bytes, p.long); told = tt }
piece_behind (Some f) at len more bytes p = record {
  long = omega (arith, length-drop len bytes, p.long);
  told = ap (drop len) p.told ∙ drop-take len more (drop at f) ∙ ap (take more) (drop-drop len at f);
}

drop_all : (xs : List ℕ) → drop (length xs) xs ≡ []
drop_all [] = refl
drop_all (x ∷ xs) = drop_all xs

-- a read that filled the slice
pub piece_read : (E : Type 0) (fields : Option (List ℕ)) (len at n : ℕ) (old new : List ℕ) → at + length old ≤ len → length new ≡ length old
    → ((b : List ℕ) → fields ≡ Some b → length b ≡ len) → ReadsBytes {E = E} fields at old new (Ok n) → IsPiece fields at (length old) new
piece_read E None len at n old new fits long told bytes = record { long = long; told = tt }
piece_read E (Some b) len at n old new fits long told bytes =
    let same : length b ≡ len = told b refl in
    let all : n ≡ length old = omega (arith, bytes.0) in
    record {
      long = long;
      told = bytes.1 ∙ ap (λ (k : ℕ). take k (drop at b) ++ drop k old) all ∙ ap (λ (t : List ℕ). take (length old) (drop at b) ++ t) (drop_all old) ∙ append-nil (take (length old) (drop at b));
    }

pub copied_none : (fields : Option (List ℕ)) (at : ℕ) (s : Option (List ℕ)) → IsCopied fields at 0 s s
copied_none fields at s = ([], piece_none fields at, Takes-none s)

pub copied_all : (fields : Option (List ℕ)) (at n : ℕ) (bytes : List ℕ) (s t : Option (List ℕ)) → IsPiece fields at n bytes → Takes s t bytes → IsCopied fields at n s t
copied_all fields at n bytes s t p took = (bytes, p, took)

pub copied_more : (fields : Option (List ℕ)) (at a b : ℕ) (s t u : Option (List ℕ)) → IsCopied fields at a s t → IsCopied fields (at + a) b t u → IsCopied fields at (a + b) s u
copied_more fields at a b s t u p q = (p.0 ++ q.0, piece_more fields at a b p.0 q.0 p.1 q.1, Takes-more s t u p.0 q.0 p.2 q.2)

pub part_none : (fields : Option (List ℕ)) (at n : ℕ) (s : Option (List ℕ)) → IsCopiedInPart fields at n s s
part_none fields at n s = (0, omega arith, copied_none fields at s)

pub part_front : (fields : Option (List ℕ)) (at n : ℕ) (bytes : List ℕ) (s t : Option (List ℕ)) → IsPiece fields at n bytes → TakesFront s t bytes → IsCopiedInPart fields at n s t
part_front fields at n bytes s t p took =
    (length took.0, omega (arith, length-append took.0 took.1, ap length took.2, p.long), (took.0, piece_front fields at n bytes took.0 took.1 p took.2, took.3))

pub part_more : (fields : Option (List ℕ)) (at a b n : ℕ) (s t u : Option (List ℕ)) → a + b ≤ n → IsCopied fields at a s t → IsCopiedInPart fields (at + a) b t u → IsCopiedInPart fields at n s u
part_more fields at a b n s t u le p q = (a + q.0, omega (arith, q.1), copied_more fields at a q.0 s t u p q.2)

-- ---- How many pieces

-- one piece more, where those before it were whole
pub pieces_more : (start before reads done n : ℕ) → before ≤ start + pieces done → reads ≤ before + 1 → done % 4096 ≡ 0 → 0 < n → reads ≤ start + pieces (done + n)
pieces_more start before reads done n so more whole some = omega arith

-- the piece that is tried is one of all
pub pieces_tried : (start before reads done len : ℕ) → before ≤ start + pieces done → reads ≤ before + 1 → done % 4096 ≡ 0 → done < len → reads ≤ start + pieces len
pieces_tried start before reads done len so more whole left = omega arith
