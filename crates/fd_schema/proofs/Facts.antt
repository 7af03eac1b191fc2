-- What holds of rules that were read.
use Rattle.std.proofs.Common.{◌≡◌, ◌<◌, ◌≤◌, ◌+◌, ◌∙◌, ℕ, zero, suc, Bool, true, false, cond, not, List, [], ◌∷◌, ◌++◌, length, take, eqb, ltb, leb, Option, Some, None, Result, Ok, Err, refl, sym, ap, subst, append_assoc, arith}
use Rattle.std.specs.Prelude.{◌&&◌}
use Rattle.std.specs.List.{prefix_len}
use Rattle.std.proofs.lemmas.Bool.{cond-true, cond-false, leb-false, not-false}
use Rattle.std.proofs.lemmas.List.{append-nil}
use Rattle.fd_spelling.specs.Names.{is_name, is_name_byte, is_value}
use Rattle.fd_spelling.specs.Canonical.{canonical}
use Rattle.fd_spelling.specs.Texts.{is_ascii, spelled}
use Rattle.fd_spelling.proofs.AsciiLaws.{value_is_ascii}
use Rattle.fd_spelling.proofs.Spellings.{spelled_again}
use Rattle.fd_schema.specs.declared.rule.Level.{Level}
use Rattle.fd_schema.specs.declared.rule.Level.TheVariants.{Dataset, Index, Datum}
use Rattle.fd_schema.specs.declared.rule.Version.{Version}
use Rattle.fd_tokens.specs.Tokens.{Piece, Part, is_token, parts}
use Rattle.fd_tokens.proofs.Cuts.{parts_some}
use Rattle.fd_schema.specs.Rules.{Want, Needed, Optional, OneOf, Item, has_name, has_meaning, Rule}
use Rattle.fd_schema.specs.Grammar.{Fault, Wrong, TooLong, Byte, Name, Twice, Depth, NoneRequired, TooMany, wrong, ◌>>=◌, each_of, begins_value, spelled_in, plain_value, value_or, value_of, value_in, values_of, name_of, nothing_behind, want_of, item_of, item_in, items_of, inside, behind, front, level_of, opened, has_required, closed, rule_of, rules_of, version_of, rules_in, some_rule, schema_of}

-- ---- answers

pub ok_bind : {A B : Type 0} (r : Result A Fault) (f : A → Result B Fault) (y : B) → (r >>= f) ≡ Ok y → (x : A) × (r ≡ Ok x) × (f x ≡ Ok y)
ok_bind (Ok x) f y h = (x, refl, h)
ok_bind (Err e) f y h = absurd (cc)

ok_choice : {A : Type 0} (b : Bool) (r : Result A Fault) (at : ℕ) (kind : Wrong) (y : A) → cond b r (wrong at kind) ≡ Ok y → (b ≡ true) × (r ≡ Ok y)
ok_choice true r at kind y h = (refl, h)
ok_choice false r at kind y h = absurd (cc)

ok_unless : {A : Type 0} (b : Bool) (r : Result A Fault) (at : ℕ) (kind : Wrong) (y : A) → cond b (wrong at kind) r ≡ Ok y → (b ≡ false) × (r ≡ Ok y)
ok_unless true r at kind y h = absurd (cc)
ok_unless false r at kind y h = (refl, h)

-- ---- parts read in turn

-- what holds of each, where it may depend on those before it
abbrev pub Follow : {A : Type 0} → (List A → A → Type 0) → List A → List A → Type 0
Follow P before [] = Unit {0}
Follow P before (x ∷ xs) = P before x × Follow P (before ++ x ∷ []) xs

pub record Added {A : Type 0} (P : List A → A → Type 0) (before : List A) (out : List A) (n : ℕ) : Type 0 where
  pub added : List A
  pub is : out ≡ before ++ added
  pub count : length added ≡ n
  pub all : Follow P before added

each_added : {A : Type 0} (read : List A → Part → Result A Fault) (P : List A → A → Type 0) → ((before : List A) (p : Part) (x : A) → read before p ≡ Ok x → P before x)
    → (before : List A) (ps : List Part) (out : List A) → each_of read before ps ≡ Ok out → Added P before out (length ps)
unfolding each_of
each_added read P each before [] out h =
    let same : before ≡ out = cc in
    record { added = []; is = sym same ∙ sym (append-nil before); count = refl; all = tt }
each_added read P each before (p ∷ ps) out h =
    let x = ok_bind (read before p) _ out h in
    let rest = each_added read P each (before ++ x.0 ∷ []) ps out x.2 in
    record {
      added = x.0 ∷ rest.added;
      is = rest.is ∙ append_assoc before (x.0 ∷ []) rest.added;
      count = omega (arith, rest.count);
      all = (each before p x.0 x.1, rest.all);
    }

-- ---- values

-- a value that is read as itself
pub record IsValueOf (version : Version) (name : List ℕ) (before : List (List ℕ)) (value : List ℕ) : Type 0 where
  pub again : spelled_in version name value ≡ Some value
  pub is : is_value value ≡ true

-- the one spelling of a value
record IsSpelling (name value : List ℕ) : Type 0 where
  again : spelled name value ≡ Some value
  is : is_value value ≡ true

spelling_is : (name text value : List ℕ) → spelled name text ≡ Some value → IsSpelling name value
spelling_is name text value h = go (is_ascii text) h
  where
    go : (b : Bool) → cond b (canonical name text) None ≡ Some value → IsSpelling name value
    go true e =
        let s = spelled_again name text value e in
        record { again = cond-true (is_ascii value) (canonical name value) None (value_is_ascii value s.value) ∙ s.again; is = s.value }
    go false e = absurd (cc)

-- a value as it stands
plain_is : (b : Bool) (text value : List ℕ) → is_value text ≡ b → cond b (Some text) None ≡ Some value → is_value value ≡ true
plain_is true text value e h = let same : text ≡ value = cc in ap is_value (sym same) ∙ e
plain_is false text value e h = absurd (cc)

spelled_value : (version : Version) (name text value : List ℕ) (before : List (List ℕ)) → spelled_in version name text ≡ Some value → IsValueOf version name before value
spelled_value version name text value before h = go (has_meaning version name) refl h
  where
    go : (b : Bool) → has_meaning version name ≡ b → cond b (spelled name text) (plain_value text) ≡ Some value → IsValueOf version name before value
    go true m e =
        let s = spelling_is name text value e in
        record { again = cond-true (has_meaning version name) (spelled name value) (plain_value value) m ∙ s.again; is = s.is }
    go false m e =
        let v = plain_is (is_value text) text value refl e in
        record { again = cond-false (has_meaning version name) (spelled name value) (plain_value value) m ∙ cond-true (is_value value) (Some value) None v; is = v }

of_spelled : (o : Option (List ℕ)) (at : ℕ) (others : List Piece) (value : List ℕ) → value_or o at others ≡ Ok value → o ≡ Some value
of_spelled None at others value h = absurd (cc)
of_spelled (Some v) at [] value h = cc
of_spelled (Some v) at (u ∷ us) value h = absurd (cc)

value_is : (version : Version) (name : List ℕ) (stop : Piece) (ts : List Piece) (before : List (List ℕ)) (value : List ℕ) → value_of version name stop ts ≡ Ok value → IsValueOf version name before value
unfolding value_of
value_is version name stop [] before value h = absurd (cc)
value_is version name stop (t ∷ ts) before value h =
    let c = ok_choice (begins_value t.text) (value_or (spelled_in version name t.text) t.at ts) t.at Byte value h in
    spelled_value version name t.text value before (of_spelled (spelled_in version name t.text) t.at ts value c.1)

-- ---- items

abbrev pub IsWantOf : Version → List ℕ → Want → Type 0
IsWantOf version name Needed = Unit {0}
IsWantOf version name Optional = Unit {0}
IsWantOf version name (OneOf values) = (0 < length values) × Follow (IsValueOf version name) [] values

optional_is : (version : Version) (name : List ℕ) (ts : List Piece) (want : Want) → nothing_behind ts ≡ Ok want → IsWantOf version name want
optional_is version name [] want h = let same : Optional ≡ want = cc in subst (λ w. IsWantOf version name w) same tt
optional_is version name (u ∷ us) want h = absurd (cc)

values_are : (version : Version) (name : List ℕ) (stop : Piece) (ts : List Piece) (want : Want) → (values_of version name stop ts >>= λ vs. Ok (OneOf vs)) ≡ Ok want → IsWantOf version name want
values_are version name stop ts want h =
    let vs = ok_bind (values_of version name stop ts) (λ vs. Ok (OneOf vs)) want h in
    let a : Added (IsValueOf version name) [] vs.0 (length (parts 47 stop ts)) = each_added (value_in version name) (IsValueOf version name) (λ before p x e. value_is version name p.stop p.tokens before x e) [] (parts 47 stop ts) vs.0 vs.1 in
    let some : 0 < length vs.0 = omega (arith, parts_some 47 stop ts, a.count, ap length a.is) in
    let same : OneOf vs.0 ≡ want = cc in
    subst (λ w. IsWantOf version name w) same (some, subst (λ (x : List (List ℕ)). Follow (IsValueOf version name) [] x) (sym a.is) a.all)

want_is : (version : Version) (name : List ℕ) (stop : Piece) (ts : List Piece) (want : Want) → want_of version name stop ts ≡ Ok want → IsWantOf version name want
unfolding want_of
want_is version name stop [] want h = let same : Needed ≡ want = cc in subst (λ w. IsWantOf version name w) same tt
want_is version name stop (t ∷ ts) want h = go (is_token 63 t) (is_token 61 t) h
  where
    go : (x y : Bool) → cond x (nothing_behind ts) (cond y (values_of version name stop ts >>= λ vs. Ok (OneOf vs)) (wrong t.at Byte)) ≡ Ok want → IsWantOf version name want
    go true y e = optional_is version name ts want e
    go false true e = values_are version name stop ts want e
    go false false e = absurd (cc)

-- a name that is new in its rule, which has room for it
pub record IsNew (before : List Item) (name : List ℕ) : Type 0 where
  pub name_is : is_name name ≡ true
  pub new : has_name before name ≡ false
  pub room : length before < 32

new_name : (before : List Item) (t : Piece) (name : List ℕ) → name_of before t ≡ Ok name → IsNew before name
unfolding name_of
new_name before t name h =
    let n : ℕ = prefix_len is_name_byte t.text in
    let text : List ℕ = take n t.text in
    let a = ok_unless (eqb n 0) _ t.at Byte name h in
    let b = ok_unless (not (is_name text)) _ t.at Name name a.1 in
    let c = ok_unless (has_name before text) _ t.at (Twice text) name b.1 in
    let d = ok_unless (leb 32 (length before)) _ t.at (TooMany 33) name c.1 in
    let e = ok_unless (ltb n (length t.text)) _ (t.at + n) Byte name d.1 in
    let same : text ≡ name = cc in
    record {
      name_is = ap is_name (sym same) ∙ not-false (is_name text) b.0;
      new = ap (has_name before) (sym same) ∙ c.0;
      room = leb-false 32 (length before) d.0;
    }

pub record IsItem (version : Version) (level : Level) (before : List Item) (item : Item) : Type 0 where
  pub at : item.level ≡ level
  pub named : IsNew before item.name
  pub want : IsWantOf version item.name item.want

item_is : (version : Version) (level : Level) (before : List Item) (stop : Piece) (ts : List Piece) (item : Item) → item_of version level before stop ts ≡ Ok item → IsItem version level before item
unfolding item_of
item_is version level before stop [] item h = absurd (cc)
item_is version level before stop (t ∷ ts) item h =
    let name = ok_bind (name_of before t) _ item h in
    let want = ok_bind (want_of version name.0 stop ts) _ item name.2 in
    let made : Item = record { level = level; name = name.0; want = want.0 } in
    let same : made ≡ item = cc in
    subst (λ i. IsItem version level before i) same record { at = refl; named = new_name before t name.0 name.1; want = want_is version name.0 stop ts want.0 want.1 }

-- ---- levels

-- the items of a level, behind those before it
pub record LevelAdded (version : Version) (level : Level) (before out : List Item) : Type 0 where
  pub added : List Item
  pub is : out ≡ before ++ added
  pub all : Follow (IsItem version level) before added

level_added : (version : Version) (level : Level) (before : List Item) (end : Piece) (ts : List Piece) (out : List Item) → level_of version level before end ts ≡ Ok out → LevelAdded version level before out
unfolding level_of
level_added version level before end ts out h = go (eqb (length (inside ts)) 0 && is_token 93 (front (behind ts) end)) h
  where
    stop : Piece
    stop = front (behind ts) end

    go : (b : Bool) → cond b (Ok before) (items_of version level before stop (inside ts)) ≡ Ok out → LevelAdded version level before out
    go true e = let same : before ≡ out = cc in record { added = []; is = sym same ∙ sym (append-nil before); all = tt }
    go false e =
        let a = each_added (item_in version level) (IsItem version level) (λ b p x k. item_is version level b p.stop p.tokens x k) before (parts 44 stop (inside ts)) out e in
        record { added = a.added; is = a.is; all = a.all }

closed_required : (otherwise : Wrong) (level : Level) (items : List Item) (end : Piece) (ts rest : List Piece) → closed otherwise level items end ts ≡ Ok rest → has_required level items ≡ true
closed_required otherwise level items end [] rest h = absurd (cc)
closed_required otherwise level items end (t ∷ ts) rest h = go (is_token 93 t) (has_required level items) refl h
  where
    go : (x y : Bool) → has_required level items ≡ y → cond (not x) (wrong t.at otherwise) (cond y (Ok ts) (wrong t.at NoneRequired)) ≡ Ok rest → has_required level items ≡ true
    go true true ey e = ey
    go true false ey e = absurd (cc)
    go false y ey e = absurd (cc)

-- ---- rules

pub record IsRule (version : Version) (before : List Rule) (rule : Rule) : Type 0 where
  pub version_is : rule.version ≡ version
  pub dataset : List Item
  pub index : List Item
  pub datum : List Item
  pub is : rule.items ≡ (dataset ++ index) ++ datum
  pub datasets : Follow (IsItem version Dataset) [] dataset
  pub indexes : Follow (IsItem version Index) dataset index
  pub datums : Follow (IsItem version Datum) (dataset ++ index) datum
  pub has_dataset : has_required Dataset rule.items ≡ true
  pub has_index : has_required Index rule.items ≡ true
  pub has_datum : has_required Datum rule.items ≡ true

abbrev ruled : Version → List Item → Rule
ruled version items = record { version = version; items = items }

abbrev ok_rule : Rule → List Piece → Result (Rule × List Piece) Fault
ok_rule rule ts = Ok (rule, ts)

rule_in : (rule : Rule) (ts : List Piece) (r : Rule × List Piece) → ok_rule rule ts ≡ Ok r → rule ≡ r.0
rule_in rule ts r h = cc

rule_is : (version : Version) (end : Piece) (ts : List Piece) (before : List Rule) (r : Rule × List Piece) → rule_of version end ts ≡ Ok r → IsRule version before r.0
unfolding rule_of
rule_is version end ts before r h =
    let dataset = ok_bind (level_of version Dataset [] end ts) _ r h in
    let second = ok_bind (opened end (behind ts)) _ r dataset.2 in
    let index = ok_bind (level_of version Index dataset.0 end second.0) _ r second.2 in
    let third = ok_bind (opened end (behind second.0)) _ r index.2 in
    let datum = ok_bind (level_of version Datum index.0 end third.0) _ r third.2 in
    let after_datum = ok_bind (closed Depth Datum datum.0 end (behind third.0)) _ r datum.2 in
    let after_index = ok_bind (closed Byte Index datum.0 end after_datum.0) _ r after_datum.2 in
    let after_dataset = ok_bind (closed Byte Dataset datum.0 end after_index.0) _ r after_index.2 in
    let d = level_added version Dataset [] end ts dataset.0 dataset.1 in
    let i = level_added version Index dataset.0 end second.0 index.0 index.1 in
    let t = level_added version Datum index.0 end third.0 datum.0 datum.1 in
    let first : dataset.0 ≡ d.added = d.is in
    let both : index.0 ≡ d.added ++ i.added = i.is ∙ ap (λ (x : List Item). x ++ i.added) first in
    let all : datum.0 ≡ (d.added ++ i.added) ++ t.added = t.is ∙ ap (λ (x : List Item). x ++ t.added) both in
    let made : ruled version datum.0 ≡ r.0 = rule_in (ruled version datum.0) after_dataset.0 r after_dataset.2 in
    let same : datum.0 ≡ r.0.items = ap (λ (x : Rule). x.items) made in
    record {
      dataset = d.added;
      index = i.added;
      datum = t.added;
      version_is = sym (ap (λ (x : Rule). x.version) made);
      is = sym same ∙ all;
      datasets = d.all;
      indexes = subst (λ (x : List Item). Follow (IsItem version Index) x i.added) first i.all;
      datums = subst (λ (x : List Item). Follow (IsItem version Datum) x t.added) both t.all;
      has_dataset = ap (has_required Dataset) (sym same) ∙ closed_required Byte Dataset datum.0 end after_index.0 after_dataset.0 after_dataset.1;
      has_index = ap (has_required Index) (sym same) ∙ closed_required Byte Index datum.0 end after_datum.0 after_index.0 after_index.1;
      has_datum = ap (has_required Datum) (sym same) ∙ closed_required Depth Datum datum.0 end (behind third.0) after_datum.0 after_datum.1;
    }

pub record RulesAdded (version : Version) (before out : List Rule) (left : ℕ) : Type 0 where
  pub added : List Rule
  pub is : out ≡ before ++ added
  pub few : length added ≤ left
  pub all : Follow (IsRule version) before added

abbrev ok : List Rule → Result (List Rule) Fault
ok rules = Ok rules

no_more : (version : Version) (left : ℕ) (before out : List Rule) → ok before ≡ Ok out → RulesAdded version before out left
no_more version left before out h = let same : before ≡ out = cc in record { added = []; is = sym same ∙ sym (append-nil before); few = omega arith; all = tt }

rules_added : (left : ℕ) (version : Version) (end : Piece) (before : List Rule) (ts : List Piece) (out : List Rule) → rules_of left version end before ts ≡ Ok out → RulesAdded version before out left
unfolding rules_of
rules_added zero version end before [] out h = no_more version zero before out h
rules_added zero version end before (t ∷ ts) out h = absurd (cc)
rules_added (suc left) version end before [] out h = no_more version (suc left) before out h
rules_added (suc left) version end before (t ∷ ts) out h =
    let c = ok_choice (is_token 91 t) (rule_of version end ts >>= λ r. rules_of left version end (before ++ r.0 ∷ []) r.1) t.at Byte out h in
    let r = ok_bind (rule_of version end ts) (λ r. rules_of left version end (before ++ r.0 ∷ []) r.1) out c.1 in
    let rest = rules_added left version end (before ++ r.0.0 ∷ []) r.0.1 out r.2 in
    record {
      added = r.0.0 ∷ rest.added;
      is = rest.is ∙ append_assoc before (r.0.0 ∷ []) rest.added;
      few = omega (arith, rest.few);
      all = (rule_is version end ts before r.0 r.1, rest.all);
    }

-- the rules of a text: 1 to 256, of one version
pub record AreRules (rules : List Rule) : Type 0 where
  pub version : Version
  pub some : 0 < length rules
  pub few : length rules ≤ 256
  pub all : Follow (IsRule version) [] rules

some_is : (end : ℕ) (rs rules : List Rule) → some_rule end rs ≡ Ok rules → (rs ≡ rules) × (0 < length rs)
some_is end [] rules h = absurd (cc)
some_is end (r ∷ rs) rules h = (cc, omega arith)

pub are_rules : (text : List ℕ) (rules : List Rule) → schema_of text ≡ Ok rules → AreRules rules
unfolding schema_of rules_in
are_rules text rules h =
    let u = ok_unless (ltb 65536 (length text)) _ 0 TooLong rules h in
    let rs = ok_bind (rules_in text) _ rules u.1 in
    let v = ok_bind (version_of text _) _ rs.0 rs.1 in
    let s = some_is (length text) rs.0 rules rs.2 in
    let a = rules_added 256 v.0.0 (record { at = length text; text = [] }) [] _ rs.0 v.2 in
    subst (λ (x : List Rule). AreRules x) s.0 record {
      version = v.0.0;
      some = s.1;
      few = omega (arith, a.few, ap length a.is);
      all = subst (λ (x : List Rule). Follow (IsRule v.0.0) [] x) (sym a.is) a.all;
    }
