-- Lines that are read in turn.
use Rattle.std.proofs.Common.{◌≡◌, ◌∙◌, ℕ, ◌+◌, ◌≤◌, Bool, true, false, cond, ltb, eqb, List, [], ◌∷◌, ◌++◌, length, Option, Some, None, Result, Ok, Err, IsSome, refl, sym, ap, subst, arith}
use Rattle.std.specs.List.{AllZip}
use Rattle.std.proofs.lemmas.List.Splits.{length-slice_split}
use Rattle.fd_script.specs.declared.fault.Refusal as code
use Rattle.fd_script.specs.declared.reader.Read.{Read}
use Rattle.fd_script.specs.Lines.{Said, Silent, DatasetIs, LaneBegins, Asks, MessagesFollow, Unknown, Task, PutOf, FlushNow, GetOf, said, lines_of, lane_said, words_said, parts_said, word_said, is_silent}
use Rattle.std.specs.Prelude.{◌&&◌, not, codes, String}
use Rattle.std.specs.declared.alloc.Global.{Global}
use Rattle.std.specs.Str.{bytes_eq}
use Rattle.fd_spelling.specs.Numerals.{cut}
use Rattle.fd_spelling.proofs.PieceLaws.{cut_lengths}
use Rattle.fd_script.specs.Grammar.{Group, Wrong, TooLong, Script, Fault, front_of, has_messages, script_of, dataset_in, first_of, foreign_byte, goes_on, is_messages, lanes_from, line_wrong, or_dataset, said_wrong, script_from, unended, unless_wrong}
use Rattle.fd_script.specs.Growing.{IsShort, after_said}
use Rattle.fd_script.specs.Scripts.{IsWithin}
use Rattle.fd_script.specs.Reading.{IsLane, IsRead, IsSaid, Stands, dataset_bytes}
use Rattle.fd_script.proofs.Groups.{lanes_more, dataset_more, or_first}

-- where `messages` may stand there is a dataset
pub named : (ls : List Said) (line : List ℕ) → line_wrong ls line ≡ None → is_messages (said line) ≡ true → (d : List ℕ) × (dataset_in ls ≡ Some d)
unfolding line_wrong
named ls line h e = go (dataset_in ls) (foreign_byte line) (said line) refl h e
  where
    go : (o : Option (List ℕ)) (b : Option Wrong) (s : Said) → dataset_in ls ≡ o → first_of b (said_wrong o (lanes_from 1 ls) s) ≡ None → is_messages s ≡ true → (d : List ℕ) × (dataset_in ls ≡ Some d)
    go (Some d) b s was h e = (d, was)
    go None (Some w) s was h e = absurd (cc)
    go None None Silent was h e = absurd (cc)
    go None None (DatasetIs text) was h e = absurd (cc)
    go None None (LaneBegins name pairs) was h e = absurd (cc)
    go None None (Asks task) was h e = absurd (cc)
    go None None MessagesFollow was h e = absurd (cc)
    go None None Unknown was h e = absurd (cc)

-- one more line of lanes
pub said_more : (dataset : Option (List ℕ)) (lanes : List _) (ls : List Said) (s : Said) (n : ℕ) → n ≡ length ls + 1 → dataset ≡ or_first (dataset_in ls) (or_dataset s None)
    → AllZip IsLane lanes (after_said n s (lanes_from 1 ls)) → IsSaid dataset lanes (ls ++ s ∷ [])
said_more dataset lanes ls s n e d h = record {
  dataset_is = d ∙ sym (dataset_more ls s);
  lanes_are = subst (λ (gs : List Group). AllZip IsLane lanes gs) (sym (lanes_more ls s n e)) h;
}

-- the reading where the text ends without a line feed
pub ends : (at : ℕ) (ls : List Said) (line : List ℕ) → script_from at ls (line ∷ []) ≡ Err (unended ls line)
unfolding script_from
ends at ls line = refl

-- the reading where there is another line behind
pub turns : (at : ℕ) (ls : List Said) (line next : List ℕ) (more : List (List ℕ)) → script_from at ls (line ∷ next ∷ more)
    ≡ unless_wrong (length ls + 1) (line_wrong ls line) (goes_on (is_messages (said line)) (record { lines = ls ++ said line ∷ []; place = at + length line + 1 }) (script_from (at + length line + 1) (ls ++ said line ∷ []) (next ∷ more)))
unfolding script_from
turns at ls line next more = refl

-- a text has at least one line
pub record HasLines (text : List ℕ) : Type 0 where
  pub next : List ℕ
  pub more : List (List ℕ)
  pub are : lines_of text ≡ next ∷ more

pub has_lines : (text : List ℕ) → HasLines text
has_lines text = go (lines_of text) refl
  where
    go : (ls : List (List ℕ)) → lines_of text ≡ ls → HasLines text
    go [] h = absurd (omega (arith, ap length h, length-slice_split (λ b. eqb b 10) text))
    go (next ∷ more) h = record { next = next; more = more; are = h }

-- what is read where a line is wrong, where it is `messages`, and where it is neither
module _ (at : ℕ) (ls : List Said) (line others : List ℕ) where
  reading : script_from at ls (line ∷ lines_of others)
      ≡ unless_wrong (length ls + 1) (line_wrong ls line) (goes_on (is_messages (said line)) (record { lines = ls ++ said line ∷ []; place = at + length line + 1 }) (script_from (at + length line + 1) (ls ++ said line ∷ []) (lines_of others)))
  reading =
      let h = has_lines others in
      rw h.are (turns at ls line h.next h.more)

  pub refused : script_from at ls (line ∷ lines_of others)
      ≡ unless_wrong (length ls + 1) (line_wrong ls line) (goes_on (is_messages (said line)) (record { lines = ls ++ said line ∷ []; place = at + length line + 1 }) (script_from (at + length line + 1) (ls ++ said line ∷ []) (lines_of others)))
  refused = reading

  pub done : line_wrong ls line ≡ None → is_messages (said line) ≡ true → script_from at ls (line ∷ lines_of others) ≡ Ok (record { lines = ls ++ said line ∷ []; place = at + length line + 1 })
  done right is = reading
      ∙ ap (λ (w : Option Wrong). unless_wrong (length ls + 1) w (goes_on (is_messages (said line)) (record { lines = ls ++ said line ∷ []; place = at + length line + 1 }) (script_from (at + length line + 1) (ls ++ said line ∷ []) (lines_of others)))) right
      ∙ ap (λ (b : Bool). goes_on b (record { lines = ls ++ said line ∷ []; place = at + length line + 1 }) (script_from (at + length line + 1) (ls ++ said line ∷ []) (lines_of others))) is

  pub later : line_wrong ls line ≡ None → is_messages (said line) ≡ false → script_from at ls (line ∷ lines_of others) ≡ script_from (at + length line + 1) (ls ++ said line ∷ []) (lines_of others)
  later right is = reading
      ∙ ap (λ (w : Option Wrong). unless_wrong (length ls + 1) w (goes_on (is_messages (said line)) (record { lines = ls ++ said line ∷ []; place = at + length line + 1 }) (script_from (at + length line + 1) (ls ++ said line ∷ []) (lines_of others)))) right
      ∙ ap (λ (b : Bool). goes_on b (record { lines = ls ++ said line ∷ []; place = at + length line + 1 }) (script_from (at + length line + 1) (ls ++ said line ∷ []) (lines_of others))) is

-- ---- a line

pub byte_wrong : (ls : List Said) (line : List ℕ) (w : Wrong) → foreign_byte line ≡ Some w → line_wrong ls line ≡ Some w
unfolding line_wrong
byte_wrong ls line w h = ap (λ (o : Option Wrong). first_of o (said_wrong (dataset_in ls) (lanes_from 1 ls) (said line))) h

pub line_judged : (ls : List Said) (line : List ℕ) (s : Said) → foreign_byte line ≡ None → s ≡ said line → line_wrong ls line ≡ said_wrong (dataset_in ls) (lanes_from 1 ls) s
unfolding line_wrong
line_judged ls line s h e =
    ap (λ (o : Option Wrong). first_of o (said_wrong (dataset_in ls) (lanes_from 1 ls) (said line))) h
    ∙ ap (λ (x : Said). said_wrong (dataset_in ls) (lanes_from 1 ls) x) (sym e)

short_if : (b : Bool) (x y : Said) → IsShort x → IsShort y → IsShort (cond b x y)
short_if true x y h k = h
short_if false x y h k = k

short_lane : (text : List ℕ) (o : Option (List ℕ × List ℕ)) → length text ≤ 1048576 → cut 32 text ≡ o → IsShort (lane_said o)
short_lane text None h e = tt
short_lane text (Some q) h e = omega (arith, cut_lengths 32 text q e, h)

short_words : (word rest : List ℕ) → length rest ≤ 1048576 → IsShort (words_said word rest)
short_words word rest h =
    short_if (bytes_eq word (codes "dataset")) (DatasetIs rest) _ tt
    (short_if (bytes_eq word (codes "lane")) (lane_said (cut 32 rest)) _ (short_lane rest (cut 32 rest) h refl)
    (short_if (bytes_eq word (codes "put")) (Asks (PutOf rest)) _ tt
    (short_if (bytes_eq word (codes "get")) (Asks (GetOf rest)) Unknown tt tt)))

short_parts : (line : List ℕ) (o : Option (List ℕ × List ℕ)) → length line ≤ 1048576 → cut 32 line ≡ o → IsShort (parts_said o)
short_parts line None h e = tt
short_parts line (Some p) h e = short_words p.0 p.1 (omega (arith, cut_lengths 32 line p e, h))

pub short_said : (line : List ℕ) (s : Said) → length line ≤ 1048576 → s ≡ said line → IsShort s
unfolding said
short_said line s h e = subst IsShort (sym e)
    (short_if (is_silent line) Silent (word_said line) tt
    (short_if (bytes_eq line (codes "flush")) (Asks FlushNow) _ tt
    (short_if (bytes_eq line (codes "messages")) MessagesFollow _ tt (short_parts line (cut 32 line) h refl))))

-- ---- the whole

pub some_dataset : (o : Option (String Global)) (d : List ℕ) → dataset_bytes o ≡ Some d → IsSome o
some_dataset None d h = absurd (cc h)
some_dataset (Some s) d h = refl

pub too_long : (text : List ℕ) → (ltb 1048576 (length text) && not (has_messages (lines_of (front_of text)))) ≡ true → script_of text ≡ Err (record { line = 1; kind = TooLong })
unfolding script_of
too_long text h = ap (λ (b : Bool). cond b (Err (record { line = 1; kind = TooLong })) (script_from 0 [] (lines_of (front_of text)))) h

pub not_long : (text : List ℕ) → (ltb 1048576 (length text) && not (has_messages (lines_of (front_of text)))) ≡ false → script_of text ≡ script_from 0 [] (lines_of (front_of text))
unfolding script_of
not_long text h = ap (λ (b : Bool). cond b (Err (record { line = 1; kind = TooLong })) (script_from 0 [] (lines_of (front_of text)))) h
