-- The tokens of printed texts.
use Rattle.std.proofs.Common.{◌≡◌, ◌<◌, ◌+◌, ◌∙◌, ℕ, Bool, true, false, not, List, [], ◌∷◌, ◌++◌, length, eqb, ltb, leb, Result, Ok, refl, sym, ap, append_assoc, length-append, arith}
use Rattle.std.specs.Prelude.{◌&&◌, ◌||◌}
use Rattle.std.specs.List.{list_all}
use Rattle.std.specs.Char.{to_ascii_lowercase}
use Rattle.std.proofs.lemmas.Bool.{and_parts, and_from, ltb-true}
use Rattle.std.proofs.lemmas.Bool.Decides.{nat_tests}
use Rattle.fd_spelling.specs.Names.{is_name, is_name_byte, is_letter, is_value, is_value_byte}
use Rattle.fd_tokens.specs.Tokens.{is_word, Piece, Part, begins_word, tokens, is_token, parts}
use Rattle.fd_tokens.proofs.Written.{are_word, piece, word_token}
use Rattle.fd_tokens.proofs.Cuts.{are_apart, no_cut, first_cut}
use Rattle.fd_schema.specs.Plain.{in_comment, shown, plain}
use Rattle.fd_schema.specs.Grammar.{marks, Fault, ◌>>=◌, each_of}
use Rattle.fd_schema.proofs.Facts.{Follow}

-- ---- bytes that are shown as they are

-- neither `#` nor an upper-case letter
abbrev pub is_kept : ℕ → Bool
is_kept b = not (eqb b 35) && (ltb b 65 || ltb 90 b)

abbrev pub are_kept : List ℕ → Bool
are_kept text = list_all is_kept text

kept_comment : (b : ℕ) → is_kept b ≡ true → in_comment false b ≡ false
kept_comment b h = grind (arith, nat_tests)

kept_case : (b : ℕ) → is_kept b ≡ true → to_ascii_lowercase b ≡ b
kept_case b h = grind (arith, nat_tests)

pub plain_kept : (text : List ℕ) → are_kept text ≡ true → plain false text ≡ text
unfolding plain
plain_kept [] h = refl
plain_kept (b ∷ bs) h =
    let parts = and_parts (is_kept b) (are_kept bs) h in
    ap (λ c. shown c b ∷ plain c bs) (kept_comment b parts.0) ∙ ap (λ c. c ∷ plain false bs) (kept_case b parts.0) ∙ ap (λ (t : List ℕ). b ∷ t) (plain_kept bs parts.1)

pub kept_joined : (xs ys : List ℕ) → are_kept xs ≡ true → are_kept ys ≡ true → are_kept (xs ++ ys) ≡ true
kept_joined [] ys hx hy = hy
kept_joined (x ∷ xs) ys hx hy =
    let parts = and_parts (is_kept x) (are_kept xs) hx in
    and_from (is_kept x) (are_kept (xs ++ ys)) parts.0 (kept_joined xs ys parts.1 hy)

-- ---- words

all_from : (p q : ℕ → Bool) → ((b : ℕ) → p b ≡ true → q b ≡ true) → (bs : List ℕ) → list_all p bs ≡ true → list_all q bs ≡ true
all_from p q each [] h = refl
all_from p q each (b ∷ bs) h =
    let parts = and_parts (p b) (list_all p bs) h in
    and_from (q b) (list_all q bs) (each b parts.0) (all_from p q each bs parts.1)

name_word : (b : ℕ) → is_name_byte b ≡ true → is_word marks b ≡ true
name_word b h = grind (arith, nat_tests)

name_kept : (b : ℕ) → is_name_byte b ≡ true → is_kept b ≡ true
name_kept b h = grind (arith, nat_tests)

value_word : (b : ℕ) → is_value_byte b ≡ true → is_word marks b ≡ true
value_word b h = grind (arith, nat_tests)

value_kept : (b : ℕ) → is_value_byte b ≡ true → is_kept b ≡ true
value_kept b h = grind (arith, nat_tests)

letter_name : (b : ℕ) → is_letter b ≡ true → is_name_byte b ≡ true
letter_name b h = grind (arith, nat_tests)

-- a text that is one word, and that is shown as it is
pub record IsWord (text : List ℕ) : Type 0 where
  pub some : 0 < length text
  pub word : are_word marks text ≡ true
  pub kept : are_kept text ≡ true

pub name_bytes : (name : List ℕ) → is_name name ≡ true → list_all is_name_byte name ≡ true
name_bytes [] h = absurd (cc)
name_bytes (b ∷ bs) h =
    let parts = and_parts (is_letter b && leb (length bs) 15) (list_all is_name_byte bs) h in
    and_from (is_name_byte b) (list_all is_name_byte bs) (letter_name b (and_parts (is_letter b) (leb (length bs) 15) parts.0).0) parts.1

pub name_some : (name : List ℕ) → is_name name ≡ true → 0 < length name
name_some [] h = absurd (cc)
name_some (b ∷ bs) h = omega arith

pub name_is_word : (name : List ℕ) → is_name name ≡ true → IsWord name
name_is_word name h =
    let bytes = name_bytes name h in
    record { some = name_some name h; word = all_from is_name_byte (is_word marks) name_word name bytes; kept = all_from is_name_byte is_kept name_kept name bytes }

pub value_is_word : (value : List ℕ) → is_value value ≡ true → IsWord value
value_is_word value h =
    let parts = and_parts (ltb 0 (length value) && leb (length value) 255) (list_all is_value_byte value) h in
    record {
      some = ltb-true 0 (length value) (and_parts (ltb 0 (length value)) (leb (length value) 255) parts.0).0;
      word = all_from is_value_byte (is_word marks) value_word value parts.1;
      kept = all_from is_value_byte is_kept value_kept value parts.1;
    }

-- such a word before what begins no word is a token
pub laid_word : (at : ℕ) (word rest : List ℕ) → IsWord word → begins_word marks rest ≡ false → tokens marks at (word ++ rest) ≡ piece at word ∷ tokens marks (at + length word) rest
laid_word at word rest w ends = word_token marks at word rest w.some w.word ends

-- ---- parts between marks

-- the tokens of one part, which is read as this
pub record IsPart {A : Type 0} (read : List A → Part → Result A Fault) (mark : ℕ) (before : List A) (x : A) (ts : List Piece) : Type 0 where
  pub some : 0 < length ts
  pub whole : are_apart mark ts ≡ true
  pub reads : (stop : Piece) → read before (record { tokens = ts; stop = stop }) ≡ Ok x

-- the tokens of parts with marks between them
pub data AreParts {A : Type 0} (read : List A → Part → Result A Fault) (mark : ℕ) : List A → List A → List Piece → Type 0 where
  Last : (before : List A) (x : A) (ts : List Piece) → IsPart read mark before x ts → AreParts read mark before (x ∷ []) ts
  More : (before : List A) (x : A) (xs : List A) (ts : List Piece) (m : Piece) (others : List Piece) → IsPart read mark before x ts → is_token mark m ≡ true
      → AreParts read mark (before ++ x ∷ []) xs others → AreParts read mark before (x ∷ xs) (ts ++ m ∷ others)

-- the parts are read in turn
pub parts_read : {A : Type 0} (read : List A → Part → Result A Fault) (mark : ℕ) (before xs : List A) (ts : List Piece) → AreParts read mark before xs ts → (stop : Piece) → each_of read before (parts mark stop ts) ≡ Ok (before ++ xs)
unfolding each_of
parts_read read mark before xs ts (Last b x us p) stop =
    ap (each_of read before) (no_cut mark ts stop p.whole) ∙ ap (λ r. r >>= λ y. each_of read (before ++ y ∷ []) []) (p.reads stop)
parts_read read mark before xs ts (More b x ys us m others p is rest) stop =
    ap (each_of read before) (first_cut mark us m others stop p.whole is)
    ∙ ap (λ r. r >>= λ y. each_of read (before ++ y ∷ []) (parts mark stop others)) (p.reads m)
    ∙ parts_read read mark (before ++ x ∷ []) ys others rest stop ∙ ap (λ (l : List _). Ok l) (append_assoc before (x ∷ []) ys)

pub parts_some : {A : Type 0} (read : List A → Part → Result A Fault) (mark : ℕ) (before xs : List A) (ts : List Piece) → AreParts read mark before xs ts → 0 < length ts
parts_some read mark before xs ts (Last b x us p) = p.some
parts_some read mark before xs ts (More b x ys us m others p is rest) = omega (arith, length-append us (m ∷ others), p.some)

-- ---- joined texts

-- tokens of a text before others, and what holds of them
pub record Laid (P : List Piece → Type 0) (at : ℕ) (text rest : List ℕ) : Type 0 where
  pub ts : List Piece
  pub end : ℕ
  pub is : tokens marks at (text ++ rest) ≡ ts ++ tokens marks end rest
  pub holds : P ts

-- a separator's one token
pub record IsSeparator (mark : ℕ) (clean : Piece → Bool) (at : ℕ) (text rest : List ℕ) : Type 0 where
  pub token : Piece
  pub end : ℕ
  pub is : tokens marks at (text ++ rest) ≡ token ∷ tokens marks end rest
  pub cuts : is_token mark token ≡ true
  pub cleans : clean token ≡ true

abbrev pub joined_text : {A : Type 0} → (A → List ℕ) → List ℕ → A → List A → List ℕ
joined_text text separator x [] = text x
joined_text text separator x (y ∷ ys) = text x ++ (separator ++ joined_text text separator y ys)

abbrev pub are_clean : (Piece → Bool) → List Piece → Bool
are_clean clean ts = list_all clean ts

pub clean_joined : (clean : Piece → Bool) (xs ys : List Piece) → are_clean clean xs ≡ true → are_clean clean ys ≡ true → are_clean clean (xs ++ ys) ≡ true
clean_joined clean [] ys hx hy = hy
clean_joined clean (x ∷ xs) ys hx hy =
    let parts = and_parts (clean x) (are_clean clean xs) hx in
    and_from (clean x) (are_clean clean (xs ++ ys)) parts.0 (clean_joined clean xs ys parts.1 hy)

abbrev pub PartsOf : {A : Type 0} (read : List A → Part → Result A Fault) (mark : ℕ) (clean : Piece → Bool) (before xs : List A) → List Piece → Type 0
PartsOf read mark clean before xs ts = AreParts read mark before xs ts × (are_clean clean ts ≡ true)

abbrev pub PartOf : {A : Type 0} (read : List A → Part → Result A Fault) (mark : ℕ) (clean : Piece → Bool) (before : List A) (x : A) → List Piece → Type 0
PartOf read mark clean before x ts = IsPart read mark before x ts × (are_clean clean ts ≡ true)

-- how each is laid, and what stands between them
pub record Lays {A : Type 0} (read : List A → Part → Result A Fault) (mark : ℕ) (clean : Piece → Bool) (P : List A → A → Type 0) (text : A → List ℕ) (separator : List ℕ) : Type 0 where
  pub each : (before : List A) (x : A) → P before x → (at : ℕ) (rest : List ℕ) → begins_word marks rest ≡ false → Laid (PartOf read mark clean before x) at (text x) rest
  pub between : (at : ℕ) (rest : List ℕ) → IsSeparator mark clean at separator rest
  pub apart : (rest : List ℕ) → begins_word marks (separator ++ rest) ≡ false

pub joined_laid : {A : Type 0} (read : List A → Part → Result A Fault) (mark : ℕ) (clean : Piece → Bool) (P : List A → A → Type 0) (text : A → List ℕ) (separator : List ℕ)
    → Lays read mark clean P text separator
    → (before : List A) (x : A) (xs : List A) → Follow P before (x ∷ xs) → (at : ℕ) (rest : List ℕ) → begins_word marks rest ≡ false
    → Laid (PartsOf read mark clean before (x ∷ xs)) at (joined_text text separator x xs) rest
joined_laid read mark clean P text separator lays before x [] all at rest ends =
    let l = lays.each before x all.0 at rest ends in
    record { ts = l.ts; end = l.end; is = l.is; holds = (Last before x l.ts l.holds.0, l.holds.1) }
joined_laid {A} read mark clean P text separator lays before x (y ∷ ys) all at rest ends =
    let more : List ℕ = joined_text text separator y ys in
    let l = lays.each before x all.0 at (separator ++ (more ++ rest)) (lays.apart (more ++ rest)) in
    let s = lays.between l.end (more ++ rest) in
    let m = joined_laid read mark clean P text separator lays (before ++ x ∷ []) y ys all.1 s.end rest ends in
    let whole : (text x ++ (separator ++ more)) ++ rest ≡ text x ++ (separator ++ (more ++ rest)) =
    append_assoc (text x) (separator ++ more) rest ∙ ap (λ (t : List ℕ). text x ++ t) (append_assoc separator more rest) in
    record {
      ts = l.ts ++ s.token ∷ m.ts;
      end = m.end;
      is =
          ap (tokens marks at) whole ∙ l.is ∙ ap (λ (us : List Piece). l.ts ++ us) s.is ∙ ap (λ (us : List Piece). l.ts ++ s.token ∷ us) m.is
          ∙ sym (append_assoc l.ts (s.token ∷ m.ts) (tokens marks m.end rest));
      holds = (
        More before x (y ∷ ys) l.ts s.token m.ts l.holds.0 s.cuts m.holds.0,
        clean_joined clean l.ts (s.token ∷ m.ts) l.holds.1 (and_from (clean s.token) (are_clean clean m.ts) s.cleans m.holds.1),
      );
    }

pub joined_kept : {A : Type 0} (P : List A → A → Type 0) (text : A → List ℕ) (separator : List ℕ) → ((before : List A) (x : A) → P before x → are_kept (text x) ≡ true) → are_kept separator ≡ true
    → (before : List A) (x : A) (xs : List A) → Follow P before (x ∷ xs) → are_kept (joined_text text separator x xs) ≡ true
joined_kept P text separator each between before x [] all = each before x all.0
joined_kept P text separator each between before x (y ∷ ys) all =
    kept_joined (text x) (separator ++ joined_text text separator y ys) (each before x all.0)
    (kept_joined separator (joined_text text separator y ys) between (joined_kept P text separator each between (before ++ x ∷ []) y ys all.1))
