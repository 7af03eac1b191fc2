-- A printed schema reads as the same schema.
use Rattle.std.proofs.Common.{◌≡◌, ◌<◌, ◌≤◌, ◌+◌, ◌∙◌, ℕ, zero, suc, Bool, true, false, cond, not, List, [], ◌∷◌, ◌++◌, length, take, drop, eqb, ltb, leb, Result, Ok, Err, refl, sym, ap, subst, append_assoc, arith}
use Rattle.std.specs.Prelude.{◌&&◌, ◌||◌, codes, IfOk, String, string_bytes}
use Rattle.std.specs.declared.alloc.Global.{Global}
use Rattle.std.specs.List.{list_all, prefix_len}
use Rattle.std.specs.Str.{bytes_eq}
use Rattle.std.proofs.lemmas.Bool.{and_parts, and_from, cond-true, cond-false, le-ltb, lt-leb, ne_eqb, not_from_false}
use Rattle.std.proofs.lemmas.List.{append-nil}
use Rattle.std.proofs.Math.Seq.{take-append_seam, drop-append_seam, take-length}
use Rattle.fd_spelling.specs.Names.{is_name_byte, is_value, is_value_byte}
use Rattle.fd_schema.specs.declared.rule.Level.{Level}
use Rattle.fd_schema.specs.declared.rule.Level.TheVariants.{Dataset, Index, Datum}
use Rattle.fd_schema.specs.declared.rule.Version.{Version}
use Rattle.fd_schema.specs.declared.rule.Version.TheVariants.{One, Two}
use Rattle.fd_tokens.specs.Tokens.{Piece, begins_word, one, tokens, is_token}
use Rattle.fd_tokens.proofs.Written.{are_word, piece, mark_token, blank_token, word_is_no_mark}
use Rattle.fd_schema.specs.Plain.{plain}
use Rattle.fd_schema.specs.Rules.{Want, Needed, Optional, OneOf, Item, same_level, Rule}
use Rattle.fd_schema.specs.Grammar.{marks, Byte, Depth, wrong, ◌>>=◌, begins_value, spelled_in, value_or, value_of, value_in, name_of, want_of, item_of, item_in, items_of, Fault, is_bracket, bracket_place, inside, behind, front, level_of, opened, is_required, has_required, closed, Wrong, rule_of, rules_of, version_behind, version_of, rules_in, some_rule, schema_of, IsSchema}
use Rattle.fd_schema.specs.Printed.{values_text, want_text, item_text, level_items_text, rule_text, rules_text, version_text, version_line, schema_text}
use Rattle.fd_schema.proofs.Facts.{Follow, IsValueOf, IsWantOf, IsNew, IsItem, IsRule, AreRules, are_rules}
use Rattle.fd_schema.proofs.Laid.{are_kept, plain_kept, kept_joined, IsWord, name_bytes, name_some, name_is_word, value_is_word, laid_word, parts_read, parts_some, Laid, IsSeparator, joined_text, are_clean, PartsOf, PartOf, Lays, joined_laid, joined_kept}
use Rattle.fd_schema.proofs.Turns.{rules_end}

-- ---- values

-- neither a bracket nor a comma
abbrev in_item : Piece → Bool
in_item t = not (is_token 44 t) && not (is_bracket t)

abbrev in_level : Piece → Bool
in_level t = not (is_bracket t)

abbrev itself : List ℕ → List ℕ
itself text = text

not_bracket : (at : ℕ) (word : List ℕ) → are_word marks word ≡ true → in_level (piece at word) ≡ true
not_bracket at word w =
    ap (λ b. not (b || is_token 93 (piece at word))) (word_is_no_mark marks at 91 word w refl) ∙ ap not (word_is_no_mark marks at 93 word w refl)

word_in_item : (at : ℕ) (word : List ℕ) → are_word marks word ≡ true → in_item (piece at word) ≡ true
word_in_item at word w =
    and_from (not (is_token 44 (piece at word))) (in_level (piece at word)) (not_from_false (is_token 44 (piece at word)) (word_is_no_mark marks at 44 word w refl)) (not_bracket at word w)

value_begins : (value : List ℕ) → is_value value ≡ true → begins_value value ≡ true
value_begins [] h = absurd (cc)
value_begins (b ∷ bs) h =
    let bytes = (and_parts (ltb 0 (length (b ∷ bs)) && leb (length (b ∷ bs)) 255) (list_all is_value_byte (b ∷ bs)) h).1 in
    (and_parts (is_value_byte b) (list_all is_value_byte bs) bytes).0

value_reads : (version : Version) (name value : List ℕ) (before : List (List ℕ)) (at : ℕ) (stop : Piece) → IsValueOf version name before value → value_of version name stop (piece at value ∷ []) ≡ Ok value
unfolding value_of
value_reads version name value before at stop v =
    cond-true (begins_value value) (value_or (spelled_in version name value) at []) (wrong at Byte) (value_begins value v.is) ∙ ap (λ o. value_or o at []) v.again

value_laid : (version : Version) (name : List ℕ) (before : List (List ℕ)) (value : List ℕ) → IsValueOf version name before value → (at : ℕ) (rest : List ℕ) → begins_word marks rest ≡ false
    → Laid (PartOf (value_in version name) 47 in_item before value) at (itself value) rest
value_laid version name before value v at rest ends =
    let w : IsWord value = value_is_word value v.is in
    record {
      ts = piece at value ∷ [];
      end = at + length value;
      is = laid_word at value rest w ends;
      holds = (
        record {
          some = omega arith;
          whole = and_from (not (is_token 47 (piece at value))) true (not_from_false (is_token 47 (piece at value)) (word_is_no_mark marks at 47 value w.word refl)) refl;
          reads = λ stop. value_reads version name value before at stop v;
        },
        and_from (in_item (piece at value)) true (word_in_item at value w.word) refl,
      );
    }

slash : (at : ℕ) (rest : List ℕ) → IsSeparator 47 in_item at (codes "/") rest
slash at rest = record { token = one at 47; end = at + 1; is = mark_token marks at 47 rest refl refl; cuts = refl; cleans = refl }

values_lay : (version : Version) (name : List ℕ) → Lays (value_in version name) 47 in_item (IsValueOf version name) itself (codes "/")
values_lay version name = record { each = value_laid version name; between = slash; apart = λ rest. refl }

values_are_joined : (v : List ℕ) (vs : List (List ℕ)) → values_text true (v ∷ vs) ≡ joined_text itself (codes "/") v vs
unfolding values_text
values_are_joined v [] = append-nil v
values_are_joined v (w ∷ ws) = ap (λ (t : List ℕ). v ++ 47 ∷ t) (values_are_joined w ws)

-- ---- items

abbrev ends_here : List ℕ → Type 0
ends_here rest = begins_word marks rest ≡ false

-- tokens behind a name, and what they are read as
abbrev WantTokens : Version → List ℕ → Want → List Piece → Type 0
WantTokens version name want ts = ((stop : Piece) → want_of version name stop ts ≡ Ok want) × (are_clean in_item ts ≡ true)

values_want : (version : Version) (name : List ℕ) (values : List (List ℕ)) (at : ℕ) (rest : List ℕ) → IsWantOf version name (OneOf values) → ends_here rest → Laid (WantTokens version name (OneOf values)) at (want_text (OneOf values)) rest
unfolding want_of
values_want version name [] at rest is ends = absurd (omega (arith, is.0))
values_want version name (v ∷ vs) at rest is ends =
    let text : List ℕ = joined_text itself (codes "/") v vs in
    let l = joined_laid (value_in version name) 47 in_item (IsValueOf version name) itself (codes "/") (values_lay version name) [] v vs is.1 (at + 1) rest ends in
    let printed : (codes "=" ++ values_text true (v ∷ vs)) ++ rest ≡ 61 ∷ (text ++ rest) = ap (λ (t : List ℕ). 61 ∷ (t ++ rest)) (values_are_joined v vs) in
    record {
      ts = one at 61 ∷ l.ts;
      end = l.end;
      is = ap (tokens marks at) printed ∙ mark_token marks at 61 (text ++ rest) refl refl ∙ ap (λ (ts : List Piece). one at 61 ∷ ts) l.is;
      holds = (λ stop. ap (λ r. r >>= λ xs. Ok (OneOf xs)) (parts_read (value_in version name) 47 [] (v ∷ vs) l.ts l.holds.0 stop), l.holds.1);
    }

want_laid : (version : Version) (name : List ℕ) (want : Want) (at : ℕ) (rest : List ℕ) → IsWantOf version name want → ends_here rest → Laid (WantTokens version name want) at (want_text want) rest
unfolding want_of
want_laid version name Needed at rest is ends = record { ts = []; end = at; is = refl; holds = (λ stop. refl, refl) }
want_laid version name Optional at rest is ends = record { ts = one at 63 ∷ []; end = at + 1; is = mark_token marks at 63 rest refl refl; holds = (λ stop. refl, refl) }
want_laid version name (OneOf values) at rest is ends = values_want version name values at rest is ends

want_ends : (want : Want) (rest : List ℕ) → ends_here rest → ends_here (want_text want ++ rest)
want_ends Needed rest ends = ends
want_ends Optional rest ends = refl
want_ends (OneOf values) rest ends = refl

prefix_all : (p : ℕ → Bool) (bs : List ℕ) → list_all p bs ≡ true → prefix_len p bs ≡ length bs
prefix_all p [] h = refl
prefix_all p (b ∷ bs) h =
    let parts = and_parts (p b) (list_all p bs) h in
    cond-true (p b) (1 + prefix_len p bs) 0 parts.0 ∙ omega (arith, prefix_all p bs parts.1)

name_reads : (before : List Item) (name : List ℕ) (at : ℕ) → IsNew before name → name_of before (piece at name) ≡ Ok name
unfolding name_of
name_reads before name at is =
    let n : prefix_len is_name_byte name ≡ length name = prefix_all is_name_byte name (name_bytes name is.name_is) in
    let whole : take (prefix_len is_name_byte name) name ≡ name = ap (λ k. take k name) n ∙ take-length name in
    let some : eqb (prefix_len is_name_byte name) 0 ≡ false = ne_eqb (prefix_len is_name_byte name) 0 (λ e. omega (arith, name_some name is.name_is, n, e)) in
    let all : ltb (prefix_len is_name_byte name) (length name) ≡ false = le-ltb (prefix_len is_name_byte name) (length name) (omega arith) in
    let room : leb 32 (length before) ≡ false = lt-leb 32 (length before) is.room in
    rw (some, all, whole, is.name_is, is.new, room) refl

item_laid : (version : Version) (level : Level) (before : List Item) (i : Item) → IsItem version level before i → (at : ℕ) (rest : List ℕ) → ends_here rest → Laid (PartOf (item_in version level) 44 in_level before i) at (item_text i) rest
unfolding item_of
item_laid version level before i is at rest ends =
    let w : IsWord i.name = name_is_word i.name is.named.name_is in
    let behind_name : List ℕ = want_text i.want ++ rest in
    let l = want_laid version i.name i.want (at + length i.name) rest is.want ends in
    let first = piece at i.name in
    let clean : are_clean in_item (first ∷ l.ts) ≡ true = and_from (in_item first) (are_clean in_item l.ts) (word_in_item at i.name w.word) l.holds.1 in
    record {
      ts = first ∷ l.ts;
      end = l.end;
      is = ap (tokens marks at) (append_assoc i.name (want_text i.want) rest) ∙ laid_word at i.name behind_name w (want_ends i.want rest ends) ∙ ap (λ (ts : List Piece). first ∷ ts) l.is;
      holds = (
        record {
          some = omega arith;
          whole = no_comma (first ∷ l.ts) clean;
          reads = λ stop.
              ap (λ r. r >>= λ name. want_of version name stop l.ts >>= λ want. Ok (record { level = level; name = name; want = want })) (name_reads before i.name at is.named)
              ∙ ap (λ r. r >>= λ want. Ok (record { level = level; name = i.name; want = want })) (l.holds.0 stop)
              ∙ ap (λ v. Ok (record { level = v; name = i.name; want = i.want })) (sym is.at);
        },
        no_bracket (first ∷ l.ts) clean,
      );
    }
  where
    no_comma : (ts : List Piece) → are_clean in_item ts ≡ true → list_all (λ t. not (is_token 44 t)) ts ≡ true
    no_comma [] h = refl
    no_comma (t ∷ ts) h =
        let parts = and_parts (in_item t) (are_clean in_item ts) h in
        and_from (not (is_token 44 t)) (list_all (λ t. not (is_token 44 t)) ts) (and_parts (not (is_token 44 t)) (in_level t) parts.0).0 (no_comma ts parts.1)

    no_bracket : (ts : List Piece) → are_clean in_item ts ≡ true → are_clean in_level ts ≡ true
    no_bracket [] h = refl
    no_bracket (t ∷ ts) h =
        let parts = and_parts (in_item t) (are_clean in_item ts) h in
        and_from (in_level t) (are_clean in_level ts) (and_parts (not (is_token 44 t)) (in_level t) parts.0).1 (no_bracket ts parts.1)

comma : (at : ℕ) (rest : List ℕ) → IsSeparator 44 in_level at (codes ", ") rest
comma at rest = record {
  token = one at 44;
  end = at + 1 + 1;
  is = mark_token marks at 44 (32 ∷ rest) refl refl ∙ ap (λ (ts : List Piece). one at 44 ∷ ts) (blank_token marks (at + 1) 32 rest refl refl);
  cuts = refl;
  cleans = refl;
}

items_lay : (version : Version) (level : Level) → Lays (item_in version level) 44 in_level (IsItem version level) item_text (codes ", ")
items_lay version level = record { each = item_laid version level; between = comma; apart = λ rest. refl }

-- ---- levels

-- the items of one level
abbrev chosen : Level → List Item → List Item
chosen level [] = []
chosen level (i ∷ is) = cond (same_level i.level level) (i ∷ chosen level is) (chosen level is)

-- items with commas between them; before the first there is none
abbrev listed : Bool → List Item → List ℕ
listed first [] = []
listed first (i ∷ is) = (cond first [] (codes ", ") ++ item_text i) ++ listed false is

level_is_listed : (first : Bool) (level : Level) (r : List Item) → level_items_text first level r ≡ listed first (chosen level r)
unfolding level_items_text
level_is_listed first level [] = refl
level_is_listed first level (i ∷ is) = go (same_level i.level level) (level_is_listed false level is) (level_is_listed first level is)
  where
    go : (b : Bool) → level_items_text false level is ≡ listed false (chosen level is) → level_items_text first level is ≡ listed first (chosen level is)
        → cond b ((cond first [] (codes ", ") ++ item_text i) ++ level_items_text false level is) (level_items_text first level is) ≡ listed first (cond b (i ∷ chosen level is) (chosen level is))
    go true other same = ap (λ (t : List ℕ). (cond first [] (codes ", ") ++ item_text i) ++ t) other
    go false other same = same

listed_is_joined : (i : Item) (is : List Item) → listed true (i ∷ is) ≡ joined_text item_text (codes ", ") i is
listed_is_joined i [] = append-nil (item_text i)
listed_is_joined i (j ∷ js) = ap (λ (t : List ℕ). item_text i ++ 44 ∷ 32 ∷ t) (listed_is_joined j js)

chosen_joined : (level : Level) (xs ys : List Item) → chosen level (xs ++ ys) ≡ chosen level xs ++ chosen level ys
chosen_joined level [] ys = refl
chosen_joined level (x ∷ xs) ys = go (same_level x.level level) (chosen_joined level xs ys)
  where
    go : (b : Bool) → chosen level (xs ++ ys) ≡ chosen level xs ++ chosen level ys
        → cond b (x ∷ chosen level (xs ++ ys)) (chosen level (xs ++ ys)) ≡ cond b (x ∷ chosen level xs) (chosen level xs) ++ chosen level ys
    go true h = ap (λ (t : List Item). x ∷ t) h
    go false h = h

chosen_all : (version : Version) (level : Level) (before xs : List Item) → same_level level level ≡ true → Follow (IsItem version level) before xs → chosen level xs ≡ xs
chosen_all version level before [] same all = refl
chosen_all version level before (x ∷ xs) same all =
    cond-true (same_level x.level level) (x ∷ chosen level xs) (chosen level xs) (ap (λ l. same_level l level) all.0.at ∙ same)
    ∙ ap (λ (t : List Item). x ∷ t) (chosen_all version level (before ++ x ∷ []) xs same all.1)

chosen_none : (version : Version) (level other : Level) (before xs : List Item) → same_level other level ≡ false → Follow (IsItem version other) before xs → chosen level xs ≡ []
chosen_none version level other before [] apart all = refl
chosen_none version level other before (x ∷ xs) apart all =
    cond-false (same_level x.level level) (x ∷ chosen level xs) (chosen level xs) (ap (λ l. same_level l level) all.0.at ∙ apart)
    ∙ chosen_none version level other (before ++ x ∷ []) xs apart all.1

required_some : (level : Level) (xs : List Item) → has_required level xs ≡ true → 0 < length (chosen level xs)
required_some level [] h = absurd (cc)
required_some level (x ∷ xs) h = go (same_level x.level level) (is_required x.want) (required_some level xs) h
  where
    go : (a b : Bool) → (has_required level xs ≡ true → 0 < length (chosen level xs)) → ((a && b) || has_required level xs) ≡ true → 0 < length (cond a (x ∷ chosen level xs) (chosen level xs))
    go true b others e = omega arith
    go false b others e = others e

-- a level's text, and the tokens that are read as its items
abbrev LevelTokens : Version → Level → List Item → List Item → List Piece → Type 0
LevelTokens version level before items ts = PartsOf (item_in version level) 44 in_level before items ts

-- how the items of a level are printed
pub record IsPrinted (version : Version) (level : Level) (before items : List Item) (text : List ℕ) : Type 0 where
  pub laid : (at : ℕ) (rest : List ℕ) → ends_here rest → Laid (LevelTokens version level before items) at text rest
  pub kept : are_kept text ≡ true

item_kept : (version : Version) (level : Level) (before : List Item) (i : Item) → IsItem version level before i → are_kept (item_text i) ≡ true
item_kept version level before i is = kept_joined i.name (want_text i.want) (name_is_word i.name is.named.name_is).kept (go i.want is.want)
  where
    values : (vs : List (List ℕ)) → 0 < length vs → Follow (IsValueOf version i.name) [] vs → are_kept (values_text true vs) ≡ true
    values [] some all = absurd (omega arith)
    values (v ∷ vs) some all =
        ap are_kept (values_are_joined v vs) ∙ joined_kept (IsValueOf version i.name) itself (codes "/") (λ before x p. (value_is_word x p.is).kept) refl [] v vs all

    go : (want : Want) → IsWantOf version i.name want → are_kept (want_text want) ≡ true
    go Needed h = refl
    go Optional h = refl
    go (OneOf vs) h = values vs h.0 h.1

printed_items : (version : Version) (level : Level) (before items : List Item) (text : List ℕ) → 0 < length items → Follow (IsItem version level) before items → text ≡ listed true items → IsPrinted version level before items text
printed_items version level before [] text some all is = absurd (omega arith)
printed_items version level before (i ∷ is) text some all e =
    let joined : text ≡ joined_text item_text (codes ", ") i is = e ∙ listed_is_joined i is in
    subst (λ (t : List ℕ). IsPrinted version level before (i ∷ is) t) (sym joined) record {
      laid = λ at rest ends. joined_laid (item_in version level) 44 in_level (IsItem version level) item_text (codes ", ") (items_lay version level) before i is all at rest ends;
      kept = joined_kept (IsItem version level) item_text (codes ", ") (item_kept version level) refl before i is all;
    }

-- ---- a rule

place_is : (xs : List Piece) (t : Piece) (ys : List Piece) → are_clean in_level xs ≡ true → is_bracket t ≡ true → bracket_place (xs ++ t ∷ ys) ≡ length xs
place_is [] t ys clean b = ap (λ x. cond (not x) (1 + bracket_place ys) 0) b
place_is (x ∷ xs) t ys clean b =
    let parts = and_parts (in_level x) (are_clean in_level xs) clean in
    cond-true (not (is_bracket x)) (1 + bracket_place (xs ++ t ∷ ys)) 0 parts.0 ∙ omega (arith, place_is xs t ys parts.1 b)

behind_is : (xs : List Piece) (t : Piece) (ys : List Piece) → are_clean in_level xs ≡ true → is_bracket t ≡ true → behind (xs ++ t ∷ ys) ≡ t ∷ ys
behind_is xs t ys clean b = ap (λ n. drop n (xs ++ t ∷ ys)) (place_is xs t ys clean b) ∙ drop-append_seam xs (t ∷ ys)

inside_is : (xs : List Piece) (t : Piece) (ys : List Piece) → are_clean in_level xs ≡ true → is_bracket t ≡ true → inside (xs ++ t ∷ ys) ≡ xs
inside_is xs t ys clean b = ap (λ n. take n (xs ++ t ∷ ys)) (place_is xs t ys clean b) ∙ take-append_seam xs (t ∷ ys)

level_reads : (version : Version) (level : Level) (before items : List Item) (end : Piece) (xs : List Piece) (t : Piece) (ys : List Piece) → LevelTokens version level before items xs → is_bracket t ≡ true
    → level_of version level before end (xs ++ t ∷ ys) ≡ Ok (before ++ items)
unfolding level_of
level_reads version level before items end xs t ys is b =
    let some : 0 < length xs = parts_some (item_in version level) 44 before items xs is.0 in
    let here : inside (xs ++ t ∷ ys) ≡ xs = inside_is xs t ys is.1 b in
    let there : behind (xs ++ t ∷ ys) ≡ t ∷ ys = behind_is xs t ys is.1 b in
    let not_empty : eqb (length xs) 0 ≡ false = ne_eqb (length xs) 0 (λ e. omega (arith, some, e)) in
    ap (λ (us : List Piece). cond (eqb (length us) 0 && is_token 93 (front (behind (xs ++ t ∷ ys)) end)) (Ok before) (items_of version level before (front (behind (xs ++ t ∷ ys)) end) us)) here
    ∙ ap (λ e. cond (e && is_token 93 (front (behind (xs ++ t ∷ ys)) end)) (Ok before) (items_of version level before (front (behind (xs ++ t ∷ ys)) end) xs)) not_empty
    ∙ ap (λ (us : List Piece). items_of version level before (front us end) xs) there
    ∙ parts_read (item_in version level) 44 before items xs is.0 t

-- the tokens of a rule behind its first bracket
pub record RuleTokens (version : Version) (dataset index datum : List Item) (ts more : List Piece) : Type 0 where
  pub first : List Piece
  pub open_index : Piece
  pub second : List Piece
  pub open_datum : Piece
  pub third : List Piece
  pub close_datum : Piece
  pub close_index : Piece
  pub close_dataset : Piece
  pub is : ts ≡ first ++ open_index ∷ (second ++ open_datum ∷ (third ++ close_datum ∷ close_index ∷ close_dataset ∷ more))
  pub first_is : LevelTokens version Dataset [] dataset first
  pub second_is : LevelTokens version Index dataset index second
  pub third_is : LevelTokens version Datum (dataset ++ index) datum third
  pub opens_index : is_token 91 open_index ≡ true
  pub opens_datum : is_token 91 open_datum ≡ true
  pub closes_datum : is_token 93 close_datum ≡ true
  pub closes_index : is_token 93 close_index ≡ true
  pub closes_dataset : is_token 93 close_dataset ≡ true

opening : (t : Piece) → is_token 91 t ≡ true → is_bracket t ≡ true
opening t h = ap (λ b. b || is_token 93 t) h

closing : (t : Piece) → is_token 93 t ≡ true → is_bracket t ≡ true
closing t h = ap (λ b. is_token 91 t || b) h ∙ go (is_token 91 t)
  where
    go : (b : Bool) → (b || true) ≡ true
    go true = refl
    go false = refl

opened_is : (end t : Piece) (ts us : List Piece) → us ≡ t ∷ ts → is_token 91 t ≡ true → opened end us ≡ Ok ts
opened_is end t ts us e h = ap (opened end) e ∙ cond-true (is_token 91 t) (Ok ts) (wrong t.at Depth) h

closed_is : (otherwise : Wrong) (level : Level) (items : List Item) (end t : Piece) (ts us : List Piece) → us ≡ t ∷ ts → is_token 93 t ≡ true → has_required level items ≡ true
    → closed otherwise level items end us ≡ Ok ts
closed_is otherwise level items end t ts us e h required = ap (closed otherwise level items end) e ∙ rw (h, required) refl

rule_reads : (version : Version) (r : Rule) (before : List Rule) (is : IsRule version before r) (end : Piece) (ts more : List Piece) → RuleTokens version is.dataset is.index is.datum ts more → rule_of version end ts ≡ Ok (r, more)
unfolding rule_of
rule_reads version r before is end ts more k = go
  where
    closes : List Piece
    closes = k.close_datum ∷ k.close_index ∷ k.close_dataset ∷ more

    tail : List Piece
    tail = k.third ++ closes

    middle : List Piece
    middle = k.second ++ k.open_datum ∷ tail

    whole : List Piece
    whole = k.first ++ k.open_index ∷ middle

    one_level : level_of version Dataset [] end whole ≡ Ok is.dataset
    one_level = level_reads version Dataset [] is.dataset end k.first k.open_index middle k.first_is (opening k.open_index k.opens_index)

    two_opened : opened end (behind whole) ≡ Ok middle
    two_opened = opened_is end k.open_index middle (behind whole) (behind_is k.first k.open_index middle k.first_is.1 (opening k.open_index k.opens_index)) k.opens_index

    two_level : level_of version Index is.dataset end middle ≡ Ok (is.dataset ++ is.index)
    two_level = level_reads version Index is.dataset is.index end k.second k.open_datum tail k.second_is (opening k.open_datum k.opens_datum)

    three_opened : opened end (behind middle) ≡ Ok tail
    three_opened = opened_is end k.open_datum tail (behind middle) (behind_is k.second k.open_datum tail k.second_is.1 (opening k.open_datum k.opens_datum)) k.opens_datum

    three_level : level_of version Datum (is.dataset ++ is.index) end tail ≡ Ok r.items
    three_level =
        level_reads version Datum (is.dataset ++ is.index) is.datum end k.third k.close_datum (k.close_index ∷ k.close_dataset ∷ more) k.third_is (closing k.close_datum k.closes_datum)
        ∙ ap (λ (x : List Item). Ok x) (sym is.is)

    three_closed : closed Depth Datum r.items end (behind tail) ≡ Ok (k.close_index ∷ k.close_dataset ∷ more)
    three_closed =
        closed_is Depth Datum r.items end k.close_datum (k.close_index ∷ k.close_dataset ∷ more) (behind tail)
        (behind_is k.third k.close_datum (k.close_index ∷ k.close_dataset ∷ more) k.third_is.1 (closing k.close_datum k.closes_datum)) k.closes_datum is.has_datum

    two_closed : closed Byte Index r.items end (k.close_index ∷ k.close_dataset ∷ more) ≡ Ok (k.close_dataset ∷ more)
    two_closed = closed_is Byte Index r.items end k.close_index (k.close_dataset ∷ more) (k.close_index ∷ k.close_dataset ∷ more) refl k.closes_index is.has_index

    one_closed : closed Byte Dataset r.items end (k.close_dataset ∷ more) ≡ Ok more
    one_closed = closed_is Byte Dataset r.items end k.close_dataset more (k.close_dataset ∷ more) refl k.closes_dataset is.has_dataset

    made : Version → Result (Rule × List Piece) Fault
    made v = Ok (record { version = v; items = r.items }, more)

    go : rule_of version end ts ≡ Ok (r, more)
    go = ap (rule_of version end) k.is ∙ rw (one_level, two_opened, two_level, three_opened, three_level, three_closed, two_closed, one_closed) refl ∙ ap made (sym is.version_is)

-- ---- a rule's text

rule_shape : (a b c rest : List ℕ)
    → ((((((((91 ∷ []) ++ a) ++ 32 ∷ 91 ∷ []) ++ b) ++ 32 ∷ 91 ∷ []) ++ c) ++ 93 ∷ 93 ∷ 93 ∷ []) ++ 10 ∷ []) ++ rest ≡ 91 ∷ (a ++ 32 ∷ 91 ∷ (b ++ 32 ∷ 91 ∷ (c ++ 93 ∷ 93 ∷ 93 ∷ 10 ∷ rest)))
rule_shape a b c rest = simp append_assoc

-- a blank and a bracket
next_level : (at : ℕ) (rest : List ℕ) → tokens marks at (32 ∷ 91 ∷ rest) ≡ one (at + 1) 91 ∷ tokens marks (at + 1 + 1) rest
next_level at rest = blank_token marks at 32 (91 ∷ rest) refl refl ∙ mark_token marks (at + 1) 91 rest refl refl

-- three brackets and a line end
line_end : (at : ℕ) (rest : List ℕ) → tokens marks at (93 ∷ 93 ∷ 93 ∷ 10 ∷ rest) ≡ one at 93 ∷ one (at + 1) 93 ∷ one (at + 1 + 1) 93 ∷ tokens marks (at + 1 + 1 + 1 + 1) rest
line_end at rest =
    mark_token marks at 93 (93 ∷ 93 ∷ 10 ∷ rest) refl refl
    ∙ ap (λ (ts : List Piece). one at 93 ∷ ts) (mark_token marks (at + 1) 93 (93 ∷ 10 ∷ rest) refl refl)
    ∙ ap (λ (ts : List Piece). one at 93 ∷ one (at + 1) 93 ∷ ts) (mark_token marks (at + 1 + 1) 93 (10 ∷ rest) refl refl)
    ∙ ap (λ (ts : List Piece). one at 93 ∷ one (at + 1) 93 ∷ one (at + 1 + 1) 93 ∷ ts) (blank_token marks (at + 1 + 1 + 1) 10 rest refl refl)

-- the tokens of a rule, and what they are read as
pub record RuleLaid (version : Version) (at : ℕ) (r : Rule) (rest : List ℕ) : Type 0 where
  pub opening_bracket : Piece
  pub ts : List Piece
  pub end : ℕ
  pub is : tokens marks at (rule_text r ++ rest) ≡ opening_bracket ∷ ts
  pub opens : opening_bracket ≡ one at 91
  pub reads : (stop : Piece) → rule_of version stop ts ≡ Ok (r, tokens marks end rest)

rule_chosen : (version : Version) (level : Level) (before : List Rule) (r : Rule) (is : IsRule version before r) → chosen level r.items ≡ (chosen level is.dataset ++ chosen level is.index) ++ chosen level is.datum
rule_chosen version level before r is =
    ap (chosen level) is.is ∙ chosen_joined level (is.dataset ++ is.index) is.datum ∙ ap (λ (x : List Item). x ++ chosen level is.datum) (chosen_joined level is.dataset is.index)

dataset_chosen : (version : Version) (before : List Rule) (r : Rule) (is : IsRule version before r) → chosen Dataset r.items ≡ is.dataset
dataset_chosen version before r is =
    let d : chosen Dataset is.dataset ≡ is.dataset = chosen_all version Dataset [] is.dataset refl is.datasets in
    let i : chosen Dataset is.index ≡ [] = chosen_none version Dataset Index is.dataset is.index refl is.indexes in
    let t : chosen Dataset is.datum ≡ [] = chosen_none version Dataset Datum (is.dataset ++ is.index) is.datum refl is.datums in
    rule_chosen version Dataset before r is ∙ rw (d, i, t) (append-nil (is.dataset ++ []) ∙ append-nil is.dataset)

index_chosen : (version : Version) (before : List Rule) (r : Rule) (is : IsRule version before r) → chosen Index r.items ≡ is.index
index_chosen version before r is =
    let d : chosen Index is.dataset ≡ [] = chosen_none version Index Dataset [] is.dataset refl is.datasets in
    let i : chosen Index is.index ≡ is.index = chosen_all version Index is.dataset is.index refl is.indexes in
    let t : chosen Index is.datum ≡ [] = chosen_none version Index Datum (is.dataset ++ is.index) is.datum refl is.datums in
    rule_chosen version Index before r is ∙ rw (d, i, t) (append-nil is.index)

datum_chosen : (version : Version) (before : List Rule) (r : Rule) (is : IsRule version before r) → chosen Datum r.items ≡ is.datum
datum_chosen version before r is =
    let d : chosen Datum is.dataset ≡ [] = chosen_none version Datum Dataset [] is.dataset refl is.datasets in
    let i : chosen Datum is.index ≡ [] = chosen_none version Datum Index is.dataset is.index refl is.indexes in
    let t : chosen Datum is.datum ≡ is.datum = chosen_all version Datum (is.dataset ++ is.index) is.datum refl is.datums in
    rule_chosen version Datum before r is ∙ rw (d, i, t) refl

printed_level : (version : Version) (level : Level) (before items : List Item) (r : List Item) → Follow (IsItem version level) before items → chosen level r ≡ items → has_required level r ≡ true → IsPrinted version level before items (level_items_text true level r)
printed_level version level before items r all is required =
    let some : 0 < length items = omega (arith, required_some level r required, ap length is) in
    printed_items version level before items (level_items_text true level r) some all (level_is_listed true level r ∙ ap (listed true) is)

-- how a rule's levels are printed
pub record LevelsPrinted (version : Version) (before : List Rule) (r : Rule) (is : IsRule version before r) : Type 0 where
  pub dataset : IsPrinted version Dataset [] is.dataset (level_items_text true Dataset r.items)
  pub index : IsPrinted version Index is.dataset is.index (level_items_text true Index r.items)
  pub datum : IsPrinted version Datum (is.dataset ++ is.index) is.datum (level_items_text true Datum r.items)

levels_printed : (version : Version) (before : List Rule) (r : Rule) (is : IsRule version before r) → LevelsPrinted version before r is
levels_printed version before r is = record {
  dataset = printed_level version Dataset [] is.dataset r.items is.datasets (dataset_chosen version before r is) is.has_dataset;
  index = printed_level version Index is.dataset is.index r.items is.indexes (index_chosen version before r is) is.has_index;
  datum = printed_level version Datum (is.dataset ++ is.index) is.datum r.items is.datums (datum_chosen version before r is) is.has_datum;
}

rule_laid : (version : Version) (before : List Rule) (r : Rule) → IsRule version before r → (at : ℕ) (rest : List ℕ) → RuleLaid version at r rest
rule_laid version before r is at rest =
    let p = levels_printed version before r is in
    let a : List ℕ = level_items_text true Dataset r.items in
    let b : List ℕ = level_items_text true Index r.items in
    let c : List ℕ = level_items_text true Datum r.items in
    let last : List ℕ = 93 ∷ 93 ∷ 93 ∷ 10 ∷ rest in
    let datum : List ℕ = c ++ last in
    let index : List ℕ = b ++ 32 ∷ 91 ∷ datum in
    let la = p.dataset.laid (at + 1) (32 ∷ 91 ∷ index) refl in
    let lb = p.index.laid (la.end + 1 + 1) (32 ∷ 91 ∷ datum) refl in
    let lc = p.datum.laid (lb.end + 1 + 1) last refl in
    let more : List Piece = tokens marks (lc.end + 1 + 1 + 1 + 1) rest in
    let closes : List Piece = one lc.end 93 ∷ one (lc.end + 1) 93 ∷ one (lc.end + 1 + 1) 93 ∷ more in
    let third : tokens marks (lb.end + 1 + 1) datum ≡ lc.ts ++ closes = lc.is ∙ ap (λ (ts : List Piece). lc.ts ++ ts) (line_end lc.end rest) in
    let second : tokens marks (la.end + 1 + 1) index ≡ lb.ts ++ one (lb.end + 1) 91 ∷ (lc.ts ++ closes) =
    lb.is ∙ ap (λ (ts : List Piece). lb.ts ++ ts) (next_level lb.end datum) ∙ ap (λ (ts : List Piece). lb.ts ++ one (lb.end + 1) 91 ∷ ts) third in
    let first : tokens marks (at + 1) (a ++ 32 ∷ 91 ∷ index) ≡ la.ts ++ one (la.end + 1) 91 ∷ (lb.ts ++ one (lb.end + 1) 91 ∷ (lc.ts ++ closes)) =
    la.is ∙ ap (λ (ts : List Piece). la.ts ++ ts) (next_level la.end index) ∙ ap (λ (ts : List Piece). la.ts ++ one (la.end + 1) 91 ∷ ts) second in
    let k : RuleTokens version is.dataset is.index is.datum (la.ts ++ one (la.end + 1) 91 ∷ (lb.ts ++ one (lb.end + 1) 91 ∷ (lc.ts ++ closes))) more = record {
      first = la.ts;
      open_index = one (la.end + 1) 91;
      second = lb.ts;
      open_datum = one (lb.end + 1) 91;
      third = lc.ts;
      close_datum = one lc.end 93;
      close_index = one (lc.end + 1) 93;
      close_dataset = one (lc.end + 1 + 1) 93;
      is = refl;
      first_is = la.holds;
      second_is = lb.holds;
      third_is = lc.holds;
      opens_index = refl;
      opens_datum = refl;
      closes_datum = refl;
      closes_index = refl;
      closes_dataset = refl;
    } in
    record {
      opening_bracket = one at 91;
      ts = la.ts ++ one (la.end + 1) 91 ∷ (lb.ts ++ one (lb.end + 1) 91 ∷ (lc.ts ++ closes));
      end = lc.end + 1 + 1 + 1 + 1;
      is = ap (tokens marks at) (rule_shape a b c rest) ∙ mark_token marks at 91 (a ++ 32 ∷ 91 ∷ index) refl refl ∙ ap (λ (ts : List Piece). one at 91 ∷ ts) first;
      opens = refl;
      reads = λ stop. rule_reads version r before is stop _ more k;
    }

rule_kept : (version : Version) (before : List Rule) (r : Rule) → IsRule version before r → are_kept (rule_text r) ≡ true
rule_kept version before r is =
    let p = levels_printed version before r is in
    let a : List ℕ = level_items_text true Dataset r.items in
    let b : List ℕ = level_items_text true Index r.items in
    let c : List ℕ = level_items_text true Datum r.items in
    let shape : rule_text r ≡ 91 ∷ (a ++ 32 ∷ 91 ∷ (b ++ 32 ∷ 91 ∷ (c ++ 93 ∷ 93 ∷ 93 ∷ 10 ∷ []))) = sym (append-nil (rule_text r)) ∙ rule_shape a b c [] in
    ap are_kept shape
    ∙ kept_joined a (32 ∷ 91 ∷ (b ++ 32 ∷ 91 ∷ (c ++ 93 ∷ 93 ∷ 93 ∷ 10 ∷ []))) p.dataset.kept
    (kept_joined b (32 ∷ 91 ∷ (c ++ 93 ∷ 93 ∷ 93 ∷ 10 ∷ [])) p.index.kept (kept_joined c (93 ∷ 93 ∷ 93 ∷ 10 ∷ []) p.datum.kept refl))

-- ---- all rules

rules_read : (left : ℕ) (version : Version) (end : Piece) (before added : List Rule) → Follow (IsRule version) before added → length added ≤ left → (at : ℕ) → rules_of left version end before (tokens marks at (rules_text added)) ≡ Ok (before ++ added)
unfolding rules_text tokens rules_of
rules_read left version end before [] all few at = rules_end left version end before ∙ ap (λ (x : List Rule). Ok x) (sym (append-nil before))
rules_read zero version end before (r ∷ rs) all few at = absurd (omega arith)
rules_read (suc left) version end before (r ∷ rs) all few at =
    let l = rule_laid version before r all.0 at (rules_text rs) in
    let others = tokens marks l.end (rules_text rs) in
    ap (rules_of (suc left) version end before) l.is
    ∙ cond-true (is_token 91 l.opening_bracket) (rule_of version end l.ts >>= λ x. rules_of left version end (before ++ x.0 ∷ []) x.1) (wrong l.opening_bracket.at Byte) (ap (is_token 91) l.opens)
    ∙ ap (λ x. x >>= λ y. rules_of left version end (before ++ y.0 ∷ []) y.1) (l.reads end)
    ∙ rules_read left version end (before ++ r ∷ []) rs all.1 (omega arith) l.end
    ∙ ap (λ (x : List Rule). Ok x) (append_assoc before (r ∷ []) rs)

rules_kept : (version : Version) (before added : List Rule) → Follow (IsRule version) before added → are_kept (rules_text added) ≡ true
unfolding rules_text
rules_kept version before [] all = refl
rules_kept version before (r ∷ rs) all = kept_joined (rule_text r) (rules_text rs) (rule_kept version before r all.0) (rules_kept version (before ++ r ∷ []) rs all.1)

-- ---- the version

-- the first token of rules isn't `version`
first_of_rules : (r : Rule) (rest : List ℕ) → take 1 (rule_text r ++ rest) ≡ 91 ∷ []
first_of_rules r rest = refl

no_version : (version : Version) (rules : List Rule) → 0 < length rules → Follow (IsRule version) [] rules → version_of (rules_text rules) (tokens marks 0 (rules_text rules)) ≡ Ok (One, tokens marks 0 (rules_text rules))
unfolding rules_text version_of
no_version version [] some all = absurd (omega arith)
no_version version (r ∷ rs) some all =
    let text : List ℕ = rule_text r ++ rules_text rs in
    let l = rule_laid version [] r all.0 0 (rules_text rs) in
    let is : tokens marks 0 text ≡ one 0 91 ∷ l.ts = l.is ∙ ap (λ (t : Piece). t ∷ l.ts) l.opens in
    ap (version_of text) is
    ∙ ap (λ (w : List ℕ). cond (bytes_eq w (codes "version")) (version_behind 0 l.ts) (Ok (One, one 0 91 ∷ l.ts))) (first_of_rules r (rules_text rs))
    ∙ ap (λ (ts : List Piece). Ok (One, ts)) (sym is)

version_word : IsWord (codes "version")
version_word = record { some = omega arith; word = refl; kept = refl }

two_word : IsWord (codes "2")
two_word = record { some = omega arith; word = refl; kept = refl }

version_tokens : (rest : List ℕ) → tokens marks 0 (version_text Two ++ rest) ≡ piece 0 (codes "version") ∷ piece 8 (codes "2") ∷ tokens marks 10 rest
version_tokens rest =
    laid_word 0 (codes "version") (32 ∷ 50 ∷ 10 ∷ rest) version_word refl
    ∙ ap (λ (ts : List Piece). piece 0 (codes "version") ∷ ts)
    (blank_token marks 7 32 (50 ∷ 10 ∷ rest) refl refl ∙ laid_word 8 (codes "2") (10 ∷ rest) two_word refl ∙ ap (λ (ts : List Piece). piece 8 (codes "2") ∷ ts) (blank_token marks 9 10 rest refl refl))

two_version : (rest : List ℕ) → version_of (version_text Two ++ rest) (tokens marks 0 (version_text Two ++ rest)) ≡ Ok (Two, tokens marks 10 rest)
unfolding version_of
two_version rest = ap (version_of (version_text Two ++ rest)) (version_tokens rest) ∙ refl

-- how far the first rule is from the start of the text
abbrev begins_at : Version → ℕ
begins_at One = 0
begins_at Two = 10

version_reads : (version : Version) (rules : List Rule) → 0 < length rules → Follow (IsRule version) [] rules
    → version_of (version_text version ++ rules_text rules) (tokens marks 0 (version_text version ++ rules_text rules)) ≡ Ok (version, tokens marks (begins_at version) (rules_text rules))
version_reads One rules some all = no_version One rules some all
version_reads Two rules some all = two_version (rules_text rules)

version_kept : (version : Version) → are_kept (version_text version) ≡ true
version_kept One = refl
version_kept Two = refl

line_is : (version : Version) (rules : List Rule) → 0 < length rules → Follow (IsRule version) [] rules → version_line rules ≡ version_text version
line_is version [] some all = absurd (omega arith)
line_is version (r ∷ rs) some all = ap version_text all.0.version_is

some_are : (end : ℕ) (rules : List Rule) → 0 < length rules → some_rule end rules ≡ Ok rules
some_are end [] some = absurd (omega arith)
some_are end (r ∷ rs) some = refl

-- The text of rules that some text reads as reads as these rules, where it isn't too long.
pub reads_back : (rules : List Rule) → IsSchema rules → length (schema_text rules) ≤ 65536 → schema_of (schema_text rules) ≡ Ok rules
unfolding schema_of rules_in schema_text
reads_back rules is short =
    let are : AreRules rules = are_rules is.0 rules is.1 in
    let version : Version = are.version in
    let text : List ℕ = version_text version ++ rules_text rules in
    let same : schema_text rules ≡ text = ap (λ (t : List ℕ). t ++ rules_text rules) (line_is version rules are.some are.all) in
    let fits : length text ≤ 65536 = subst (λ (t : List ℕ). length t ≤ 65536) same short in
    let end : Piece = record { at = length text; text = [] } in
    let shown : plain false text ≡ text = plain_kept text (kept_joined (version_text version) (rules_text rules) (version_kept version) (rules_kept version [] rules are.all)) in
    let read : rules_of 256 version end [] (tokens marks (begins_at version) (rules_text rules)) ≡ Ok rules = rules_read 256 version end [] rules are.all are.few (begins_at version) in
    let all : rules_in text ≡ Ok rules =
    ap (λ (t : List ℕ). version_of text (tokens marks 0 t) >>= λ v. rules_of 256 v.0 end [] v.1) shown
    ∙ ap (λ r. r >>= λ v. rules_of 256 v.0 end [] v.1) (version_reads version rules are.some are.all) ∙ read in
    ap schema_of same
    ∙ cond-false (ltb 65536 (length text)) _ (rules_in text >>= λ rs. some_rule (length text) rs) (le-ltb 65536 (length text) fits)
    ∙ ap (λ r. r >>= λ rs. some_rule (length text) rs) all
    ∙ some_are (length text) rules are.some

-- the same of what a call answered
pub if_printed : {E : Type 0} (rules : List Rule) → IsSchema rules → (result : Result (String Global) E) → IfOk result (λ s. string_bytes s ≡ schema_text rules)
    → IfOk result (λ s. length (string_bytes s) ≤ 65536 → schema_of (string_bytes s) ≡ Ok rules)
if_printed rules is (Ok s) text = λ short. ap schema_of text ∙ reads_back rules is (subst (λ (t : List ℕ). length t ≤ 65536) text short)
if_printed rules is (Err e) text = tt
