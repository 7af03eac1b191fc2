-- One step of each reading.
use Rattle.std.proofs.Common.{◌≡◌, ℕ, ◌+◌, ◌<◌, ◌≤◌, Bool, true, false, cond, not, List, [], ◌∷◌, ◌++◌, length, get_or, drop, Option, Result, Ok, refl, ap, subst, ◌∙◌, sym, append_assoc}
use Rattle.std.specs.Prelude.{◌||◌, String, string_bytes}
use Rattle.std.specs.String.{string_cmp}
use Rattle.std.specs.Str.{bytes_eq}
use Rattle.std.specs.BTreeSet.{BTreeSet, UpdatesBy, contains_text}
use Rattle.std.proofs.lemmas.Map.Text.{btree_set_updates_text}
use Rattle.std.proofs.lemmas.List.Folds.{list_any-append}
use Rattle.std.specs.List.{list_all}
use Rattle.std.specs.declared.alloc.Global.{Global}
use Rattle.std.proofs.lemmas.Bool.{and_parts, and_from}
use Rattle.std.proofs.lemmas.List.{at_drop_more, at_drop_all, map_push, append-nil}
use Rattle.fd_spelling.specs.Names.{is_value}
use Rattle.fd_tokens.specs.Tokens.{Part}
use Rattle.fd_spelling.specs.Texts.{texts}
use Rattle.fd_request.specs.declared.word.Word as code_word
use Rattle.fd_request.specs.declared.keyword.Keyword as code_keyword
use Rattle.fd_request.specs.declared.fault.RequestKind.{RequestKind}
use Rattle.fd_tokens.specs.declared.refusal.Refusal.{Refusal}
use Rattle.fd_tokens.specs.declared.refusal.Refusal.TheVariants as refusals
use Rattle.fd_request.specs.Expansion.{Keyword}
use Rattle.fd_request.specs.Grammar.{Fault, each_of, value_of, value_in, keyword_in, has_name, verb_of, behind_verb, request_in}
use Rattle.fd_request.specs.Seen.{seen_word, seen_words}
use Rattle.fd_request.specs.Keywords.{seen_keyword, seen_keywords, differ_after, AreNames}
use Rattle.fd_request.specs.Reading.{Fails}

pub goes : {A B : Type 0} (read : List A → B → Result A Fault) (before : List A) (p : B) (ps : List B) (x : A) → read before p ≡ Ok x → each_of read before (p ∷ ps) ≡ each_of read (before ++ x ∷ []) ps
unfolding each_of
goes read before p ps x e = rw e refl

pub stops : {A B : Type 0} (read : List A → B → Result A Fault) (before : List A) (p : B) (ps : List B) (e : Refusal RequestKind) → Fails e (read before p) → Fails e (each_of read before (p ∷ ps))
unfolding each_of
stops read before p ps (refusals.At at kind) h = rw h refl
stops read before p ps refusals.NoMemory h = tt

pub ends : {A B : Type 0} (read : List A → B → Result A Fault) (before : List A) → each_of read before [] ≡ Ok before
unfolding each_of
ends read before = refl

-- ---- values

next_word : (name : List ℕ) (vs : List (List ℕ)) (ws : List code_word.Word) (i : ℕ) (d : code_word.Word) → i < length ws
    → each_of (value_in name) vs (seen_words (drop i ws)) ≡ each_of (value_in name) vs (seen_word (get_or ws i d) ∷ seen_words (drop (i + 1) ws))
next_word name vs ws i d lt = at_drop_more (λ (us : List code_word.Word). each_of (value_in name) vs (seen_words us)) ws i d lt

pub value_stops : (name : List ℕ) (vs : List (List ℕ)) (ws : List code_word.Word) (i : ℕ) (d : code_word.Word) (e : Refusal RequestKind) (total : Result (List (List ℕ)) Fault) → i < length ws
    → each_of (value_in name) vs (seen_words (drop i ws)) ≡ total → Fails e (value_of name (seen_word (get_or ws i d))) → Fails e total
value_stops name vs ws i d e total lt so_far h =
    let w = get_or ws i d in
    subst (λ (r : Result (List (List ℕ)) Fault). Fails e r) (sym (next_word name vs ws i d lt) ∙ so_far) (stops (value_in name) vs (seen_word w) (seen_words (drop (i + 1) ws)) e h)

pub value_goes : (name : List ℕ) (vs new : List (String Global)) (ws : List code_word.Word) (i : ℕ) (d : code_word.Word) (v : String Global) (total : Result (List (List ℕ)) Fault) → i < length ws
    → each_of (value_in name) (texts vs) (seen_words (drop i ws)) ≡ total → value_of name (seen_word (get_or ws i d)) ≡ Ok (string_bytes v) → new ≡ vs ++ v ∷ []
    → each_of (value_in name) (texts new) (seen_words (drop (i + 1) ws)) ≡ total
value_goes name vs new ws i d v total lt so_far h pushed =
    let w = get_or ws i d in
    ap (λ (us : List (String Global)). each_of (value_in name) (texts us) (seen_words (drop (i + 1) ws))) pushed
    ∙ ap (λ (us : List (List ℕ)). each_of (value_in name) us (seen_words (drop (i + 1) ws))) (map_push string_bytes vs v)
    ∙ sym (goes (value_in name) (texts vs) (seen_word w) (seen_words (drop (i + 1) ws)) (string_bytes v) h)
    ∙ sym (next_word name (texts vs) ws i d lt) ∙ so_far

pub values_end : (name : List ℕ) (vs : List (List ℕ)) (ws : List code_word.Word) (i : ℕ) → length ws ≤ i → each_of (value_in name) vs (seen_words (drop i ws)) ≡ Ok vs
values_end name vs ws i le = at_drop_all (λ (us : List code_word.Word). each_of (value_in name) vs (seen_words us)) ws i le ∙ ends (value_in name) vs

all_push : (xs : List (List ℕ)) (x : List ℕ) → list_all is_value xs ≡ true → is_value x ≡ true → list_all is_value (xs ++ x ∷ []) ≡ true
all_push [] x h k = and_from (is_value x) true k refl
all_push (y ∷ ys) x h k =
    let parts = and_parts (is_value y) (list_all is_value ys) h in
    and_from (is_value y) (list_all is_value (ys ++ x ∷ [])) parts.0 (all_push ys x parts.1 k)

pub one_more_value : (vs new : List (String Global)) (v : String Global) → new ≡ vs ++ v ∷ [] → list_all is_value (texts vs) ≡ true → is_value (string_bytes v) ≡ true → list_all is_value (texts new) ≡ true
one_more_value vs new v pushed h k =
    ap (λ (us : List (String Global)). list_all is_value (texts us)) pushed ∙ ap (list_all is_value) (map_push string_bytes vs v) ∙ all_push (texts vs) (string_bytes v) h k

-- ---- keywords

pub keyword_stops : (ks : List Keyword) (p : Part) (ps qs : List Part) (e : Refusal RequestKind) (total : Result (List Keyword) Fault) → qs ≡ p ∷ ps → each_of keyword_in ks qs ≡ total → Fails e (keyword_in ks p) → Fails e total
keyword_stops ks p ps qs e total is so_far h =
    subst (λ (r : Result (List Keyword) Fault). Fails e r) (ap (each_of keyword_in ks) (sym is) ∙ so_far) (stops keyword_in ks p ps e h)

pub keyword_goes : (ks new : List code_keyword.Keyword) (k : code_keyword.Keyword) (p : Part) (ps qs : List Part) (total : Result (List Keyword) Fault) → new ≡ ks ++ k ∷ [] → qs ≡ p ∷ ps
    → each_of keyword_in (seen_keywords ks) qs ≡ total → keyword_in (seen_keywords ks) p ≡ Ok (seen_keyword k) → each_of keyword_in (seen_keywords new) ps ≡ total
keyword_goes ks new k p ps qs total pushed is so_far h =
    ap (λ (us : List code_keyword.Keyword). each_of keyword_in (seen_keywords us) ps) pushed
    ∙ ap (λ (us : List Keyword). each_of keyword_in us ps) (map_push seen_keyword ks k)
    ∙ sym (goes keyword_in (seen_keywords ks) p ps (seen_keyword k) h) ∙ ap (each_of keyword_in (seen_keywords ks)) (sym is) ∙ so_far

pub keywords_end : (ks : List code_keyword.Keyword) (total : Result (List Keyword) Fault) → each_of keyword_in (seen_keywords ks) [] ≡ total → total ≡ Ok (seen_keywords ks)
keywords_end ks total so_far = sym so_far ∙ ends keyword_in (seen_keywords ks)

differ_push : (before ks : List Keyword) (k : Keyword) → differ_after before ks ≡ true → has_name (before ++ ks) k.name ≡ false → differ_after before (ks ++ k ∷ []) ≡ true
differ_push before [] k h new = and_from (not (has_name before k.name)) true (ap not (ap (λ (us : List Keyword). has_name us k.name) (sym (append-nil before)) ∙ new)) refl
differ_push before (j ∷ ks) k h new =
    let parts = and_parts (not (has_name before j.name)) (differ_after (before ++ j ∷ []) ks) h in
    and_from (not (has_name before j.name)) (differ_after (before ++ j ∷ []) (ks ++ k ∷ [])) parts.0
    (differ_push (before ++ j ∷ []) ks k parts.1 (ap (λ (us : List Keyword). has_name us k.name) (append_assoc before (j ∷ []) ks) ∙ new))

pub one_more_name : (ks new : List code_keyword.Keyword) (k : code_keyword.Keyword) → new ≡ ks ++ k ∷ [] → differ_after [] (seen_keywords ks) ≡ true → has_name (seen_keywords ks) (string_bytes k.name) ≡ false
    → differ_after [] (seen_keywords new) ≡ true
one_more_name ks new k pushed h fresh =
    ap (λ (us : List code_keyword.Keyword). differ_after [] (seen_keywords us)) pushed
    ∙ ap (differ_after []) (map_push seen_keyword ks k) ∙ differ_push [] (seen_keywords ks) (seen_keyword k) h fresh

last_or : (b h : Bool) → cond b true h ≡ (h || (b || false))
last_or true true = refl
last_or true false = refl
last_or false true = refl
last_or false false = refl

-- the set of the names has one more
pub names_more : (s n : BTreeSet (String Global)) (name : String Global) (ks new : List code_keyword.Keyword) (k : code_keyword.Keyword) → UpdatesBy string_cmp (string_cmp name) s n true → string_bytes name ≡ string_bytes k.name → new ≡ ks ++ k ∷ []
    → AreNames s ks → AreNames n new
names_more s n name ks new k updates same pushed names q =
    let one : contains_text n q ≡ cond (bytes_eq (string_bytes name) q) true (contains_text s q) = btree_set_updates_text (string_bytes name) s n true updates q in
    let last : has_name (seen_keywords ks ++ seen_keyword k ∷ []) q ≡ (has_name (seen_keywords ks) q || (bytes_eq (string_bytes k.name) q || false)) =
    list_any-append (λ (j : Keyword). bytes_eq j.name q) (seen_keywords ks) (seen_keyword k ∷ []) in
    one ∙ ap (λ (bs : List ℕ). cond (bytes_eq bs q) true (contains_text s q)) same ∙ ap (λ (b : Bool). cond (bytes_eq (string_bytes k.name) q) true b) (names q)
    ∙ last_or (bytes_eq (string_bytes k.name) q) (has_name (seen_keywords ks) q) ∙ sym last
    ∙ ap (λ (us : List Keyword). has_name us q) (sym (map_push seen_keyword ks k)) ∙ ap (λ (us : List code_keyword.Keyword). has_name (seen_keywords us) q) (sym pushed)

-- ---- requests

pub verb_stops : (verb : List ℕ) (p : Part) (ps qs : List Part) (e : Refusal RequestKind) → qs ≡ p ∷ ps → Fails e (verb_of verb p.stop p.tokens) → Fails e (request_in verb qs)
unfolding request_in
verb_stops verb p ps qs (refusals.At at kind) is h = rw (is, h) refl
verb_stops verb p ps qs refusals.NoMemory is h = tt

pub verb_goes : (verb : List ℕ) (p : Part) (ps qs : List Part) (place : Option ℕ) → qs ≡ p ∷ ps → verb_of verb p.stop p.tokens ≡ Ok place → request_in verb qs ≡ behind_verb place ps
unfolding request_in
verb_goes verb p ps qs place is h = rw (is, h) refl
