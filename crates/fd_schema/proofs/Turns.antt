-- One step of each reading.
use Rattle.std.proofs.Common.{◌≡◌, ℕ, zero, suc, ◌+◌, ◌-◌, ◌<◌, ◌≤◌, true, false, List, [], ◌∷◌, ◌++◌, length, take, drop, get_or, Result, Ok, refl, ap, subst, ◌∙◌, sym, arith}
use Rattle.fd_tokens.specs.declared.token.Token.{Token}
use Rattle.fd_schema.specs.declared.fault.Wrong as code_wrong
use Rattle.fd_tokens.specs.declared.refusal.Refusal.{Refusal}
use Rattle.fd_tokens.specs.declared.refusal.Refusal.TheVariants as refusals
use Rattle.fd_schema.specs.Reading.{Fails}
use Rattle.std.proofs.lemmas.List.{take_rest}
use Rattle.fd_tokens.specs.Tokens.{Piece, Part, is_token, view, views}
use Rattle.fd_schema.specs.declared.rule.Version.{Version}
use Rattle.fd_schema.specs.Rules.{Rule}
use Rattle.fd_schema.specs.Grammar.{Fault, ◌>>=◌, wrong, Byte, TooMany, each_of, rule_of, rules_of}

goes : {A : Type 0} (read : List A → Part → Result A Fault) (before : List A) (p : Part) (ps : List Part) (x : A) → read before p ≡ Ok x → each_of read before (p ∷ ps) ≡ each_of read (before ++ x ∷ []) ps
unfolding each_of
goes read before p ps x e = rw e refl

stops : {A : Type 0} (read : List A → Part → Result A Fault) (before : List A) (p : Part) (ps : List Part) (e : Refusal code_wrong.Wrong) → Fails e (read before p) → Fails e (each_of read before (p ∷ ps))
unfolding each_of
stops read before p ps (refusals.At at kind) h = rw h refl
stops read before p ps refusals.NoMemory h = tt

ends : {A : Type 0} (read : List A → Part → Result A Fault) (before : List A) → each_of read before [] ≡ Ok before
unfolding each_of
ends read before = refl

-- ---- one part, of those that are left

pub part_goes : {A : Type 0} (read : List A → Part → Result A Fault) (before : List A) (p : Part) (ps qs : List Part) (x : A) (total : Result (List A) Fault)
    → qs ≡ p ∷ ps → each_of read before qs ≡ total → read before p ≡ Ok x → each_of read (before ++ x ∷ []) ps ≡ total
part_goes read before p ps qs x total is so_far h = sym (goes read before p ps x h) ∙ ap (each_of read before) (sym is) ∙ so_far

pub part_stops : {A : Type 0} (read : List A → Part → Result A Fault) (before : List A) (p : Part) (ps qs : List Part) (e : Refusal code_wrong.Wrong) (total : Result (List A) Fault)
    → qs ≡ p ∷ ps → each_of read before qs ≡ total → Fails e (read before p) → Fails e total
part_stops {A} read before p ps qs e total is so_far h =
    subst (λ (r : Result (List A) Fault). Fails e r) (ap (each_of read before) (sym is) ∙ so_far) (stops read before p ps e h)

pub parts_end : {A : Type 0} (read : List A → Part → Result A Fault) (before : List A) (qs : List Part) (total : Result (List A) Fault)
    → qs ≡ [] → each_of read before qs ≡ total → total ≡ Ok before
parts_end read before qs total is so_far = sym so_far ∙ ap (each_of read before) is ∙ ends read before

-- ---- rules

pub rules_end : (left : ℕ) (version : Version) (end : Piece) (before : List Rule) → rules_of left version end before [] ≡ Ok before
unfolding rules_of
rules_end zero version end before = refl
rules_end (suc left) version end before = refl

pub rules_byte : (left : ℕ) (version : Version) (end : Piece) (before : List Rule) (t : Piece) (ts : List Piece) → is_token 91 t ≡ false → rules_of left version end before (t ∷ ts) ≡ wrong t.at Byte
unfolding rules_of
rules_byte zero version end before t ts e = rw e refl
rules_byte (suc left) version end before t ts e = rw e refl

pub rules_many : (version : Version) (end : Piece) (before : List Rule) (t : Piece) (ts : List Piece) → is_token 91 t ≡ true → rules_of 0 version end before (t ∷ ts) ≡ wrong t.at (TooMany 257)
unfolding rules_of
rules_many version end before t ts e = rw e refl

one_rule : (left : ℕ) (version : Version) (end : Piece) (before : List Rule) (t : Piece) (ts : List Piece) → is_token 91 t ≡ true
    → rules_of (suc left) version end before (t ∷ ts) ≡ (rule_of version end ts >>= λ r. rules_of left version end (before ++ r.0 ∷ []) r.1)
unfolding rules_of
one_rule left version end before t ts e = rw e refl

pub rules_more : (n : ℕ) (version : Version) (end : Piece) (before : List Rule) (t : Piece) (ts : List Piece) → n < 256 → is_token 91 t ≡ true
    → rules_of (256 - n) version end before (t ∷ ts) ≡ (rule_of version end ts >>= λ r. rules_of (256 - (n + 1)) version end (before ++ r.0 ∷ []) r.1)
rules_more n version end before t ts lt e =
    let k : 256 - n ≡ suc (256 - (n + 1)) = omega arith in
    ap (λ left. rules_of left version end before (t ∷ ts)) k ∙ one_rule (256 - (n + 1)) version end before t ts e

-- the first token and the others
pub first_and : (ts : List Token) (m : Token) → 1 ≤ length ts → m ≡ get_or ts 0 m → views ts ≡ view m ∷ views (take (length ts - 1) (drop 1 ts))
first_and [] m some is = absurd (omega arith)
first_and (t ∷ ts) m some is = ap (λ (x : Token). view x ∷ views ts) (sym is) ∙ ap (λ (us : List Token). view m ∷ views us) (sym (take_rest (t ∷ ts) 1))

pub nothing : (ts : List Token) → length ts < 1 → views ts ≡ []
nothing [] none = refl
nothing (t ∷ ts) none = absurd (omega arith)

pub rule_stops : (e : Refusal code_wrong.Wrong) (n : ℕ) (version : Version) (end : Piece) (before : List Rule) (t : Piece) (ts : List Piece) → n < 256 → is_token 91 t ≡ true → Fails e (rule_of version end ts) → Fails e (rules_of (256 - n) version end before (t ∷ ts))
rule_stops (refusals.At at kind) n version end before t ts lt open_ h = rules_more n version end before t ts lt open_ ∙ ap (λ r. r >>= λ r. rules_of (256 - (n + 1)) version end (before ++ r.0 ∷ []) r.1) h
rule_stops refusals.NoMemory n version end before t ts lt open_ h = tt
