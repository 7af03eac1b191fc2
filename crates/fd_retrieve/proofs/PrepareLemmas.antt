-- A request that is prepared: what each step says of the store as it was at first.
use Rattle.std.proofs.Common.{◌≡◌, ◌∙◌, ◌≤◌, ◌<◌, ◌+◌, ◌||◌, ℕ, zero, suc, Bool, true, false, List, [], ◌∷◌, ◌++◌, length, map, take, drop, filter, get_or, All, IfSome, Option, Some, None, refl, sym, ap, subst, inl, inr, arith}
use Rattle.std.specs.Prelude.{Contains, Result, Ok, Err, String, string_bytes}
use Rattle.std.specs.declared.alloc.Global.{Global}
use Rattle.fd_spelling.specs.Texts.{texts}
use Rattle.std.specs.Str.{bytes_eq}
use Rattle.std.proofs.lemmas.List.{length-map}
use Rattle.std.proofs.Math.Seq.{take-suc}
use Rattle.std.proofs.lemmas.List.Elements.{All-nil, All-cons, All-head, All-tail}
use Rattle.fd_disk.specs.Folders.{Holdings, WhereTold, folder_at}
use Rattle.fd_recovery.specs.Recovered.{IsUndamaged}
use Rattle.fd_schema.specs.Rules.{Rule}
use Rattle.fd_schema.specs.declared.place.Place.{Place}
use Rattle.fd_request.specs.Expansion.{Keyword, expand}
use Rattle.fd_outcome.specs.Asking.{Asked, asked_of, datasets_of, placed, request_in, rules_of, within_datasets, ◌then◌}
use Rattle.fd_stored.specs.Distinct.{count_distinct, is_among}
use Rattle.fd_stored.specs.Causes.{Cause, SchemaMissing, TooManyDatasets}
use Rattle.fd_outcome.specs.Ends.{AmongAsked}
use Rattle.fd_stored.specs.Store.{Stays, has_table, table_at}
use Rattle.fd_telling.specs.declared.stop.Stop.{Stop}
use Rattle.fd_telling.specs.declared.stop.Stop.TheVariants as stops
use Rattle.fd_retrieve.specs.Open.{IsOpenIn, Open, table_in}
use Rattle.fd_retrieve.specs.Ready.{AreOpen, IsBrokenOf, IsReady, MayOpen, NoneIsDamaged, asked_at, placed_of}
use Rattle.fd_telling.specs.Stops.{IsOfRequest, IsRefused, LacksRule, NotRefused, OnRequest, OnTooMany, Says, seen_broken}
use Rattle.fd_telling.proofs.StopLemmas.{many_says, on_many, request_stop, says_of}
use Rattle.fd_retrieve.specs.Tables.{AreTables, MayAdd, datasets_in}
use Rattle.fd_retrieve.proofs.OpenLemmas.{get_or_map}
use Rattle.fd_retrieve.proofs.Staying.{open_before, same_tables, stands_before, undamaged_before}
use Rattle.fd_retrieve.proofs.TableLemmas.{tables_more, tables_none, too_many}
use Rattle.fd_retrieve.proofs.ReadyLemmas.{asked_is, beyond, contains_among, datasets_at, named_among, none_damaged, none_damaged_more, none_open, open_more, same_answers, table_is, within}

pub take_more : {A B : Type 0} (f : A → B) (xs : List A) (i : ℕ) (x : A) → i < length xs → x ≡ get_or xs i x → take (i + 1) (map f xs) ≡ take i (map f xs) ++ f x ∷ []
take_more f xs i x inside is =
    let long : length (map f xs) ≡ length xs = length-map xs f in
    let within : i < length (map f xs) = omega arith in
    let up : suc i ≡ i + 1 = omega arith in
    ap (λ (n : ℕ). take n (map f xs)) (sym up) ∙ take-suc (map f xs) i (f x) within ∙ ap (λ y. take i (map f xs) ++ y ∷ []) (get_or_map f xs i x ∙ ap f (sym is))

pub take_end : {A : Type 0} (xs : List A) (i : ℕ) → length xs ≤ i → take i xs ≡ xs
take_end [] zero le = refl
take_end [] (suc i) le = refl
take_end (x ∷ xs) zero le = absurd (omega (arith, le))
take_end (x ∷ xs) (suc i) le = ap (λ l. x ∷ l) (take_end xs i (omega (arith, le)))

pub take_rest : {A : Type 0} (xs : List A) (i : ℕ) → xs ≡ take i xs ++ drop i xs
take_rest xs zero = refl
take_rest [] (suc i) = refl
take_rest (x ∷ xs) (suc i) = ap (λ l. x ∷ l) (take_rest xs i)

-- ---- tables

pub tables_start : (has : Option Holdings) → IfSome has (λ h. AreTables h [] [])
tables_start None = tt
tables_start (Some h) = tables_none h

added_before : (h i : Holdings) (names : List (List ℕ)) (d : List ℕ) (after : List (List ℕ)) → Stays h i → MayAdd i names d after → MayAdd h names d after
added_before h i names d after stays (inl (new, has, is)) = inl (new, sym (same_tables h i stays d) ∙ has, is)
added_before h i names d after stays (inr (inl among, is)) = inr (inl among, is)
added_before h i names d after stays (inr (inr none, is)) = inr (inr (sym (same_tables h i stays d) ∙ none), is)

pub tables_told : (old mid : Option Holdings) (ds names : List (List ℕ)) (d : List ℕ) (after : List (List ℕ)) → WhereTold old mid Stays → IfSome old (λ h. AreTables h ds names) → IfSome mid (λ h. MayAdd h names d after)
    → IfSome old (λ h. AreTables h (ds ++ d ∷ []) after)
tables_told None mid ds names d after stays so_far added = tt
tables_told (Some h) None ds names d after stays so_far added = absurd stays
tables_told (Some h) (Some i) ds names d after stays so_far added = tables_more h ds names d after so_far (added_before h i names d after stays added)

many : (old mid : Option Holdings) (ds rest names : List (List ℕ)) (d : List ℕ) → WhereTold old mid Stays → IfSome old (λ h. AreTables h ds names) → IfSome mid (λ h. (length names ≡ 2048) × (is_among names d ≡ false) × (has_table h d ≡ true))
    → IfSome old (λ h. 2048 < count_distinct (filter (has_table h) ((ds ++ d ∷ []) ++ rest)))
many None mid ds rest names d stays so_far full = tt
many (Some h) None ds rest names d stays so_far full = absurd stays
many (Some h) (Some i) ds rest names d stays so_far full = too_many h ds rest names d so_far full.0 full.1 (sym (same_tables h i stays d) ∙ full.2)

pub many_told : {F : Type 0} (stop : Stop F) (old mid : Option Holdings) (ds rest names all : List (List ℕ)) (d : List ℕ) → WhereTold old mid Stays → IfSome old (λ h. AreTables h ds names) → all ≡ (ds ++ d ∷ []) ++ rest
    → OnTooMany stop (IfSome mid (λ h. (length names ≡ 2048) × (is_among names d ≡ false) × (has_table h d ≡ true))) → OnTooMany stop (IfSome old (λ h. 2048 < count_distinct (filter (has_table h) all)))
many_told stop old mid ds rest names all d stays so_far is on = on_many stop _ _ (λ p. subst (λ l. IfSome old (λ h. 2048 < count_distinct (filter (has_table h) l))) (sym is) (many old mid ds rest names d stays so_far p)) on

full_of : (has : Option Holdings) (names : List (String Global)) (d : List ℕ) → IfSome has (λ h. (length names ≡ 2048) × (is_among (texts names) d ≡ false) × (has_table h d ≡ true)) → IfSome has (λ h. (length (texts names) ≡ 2048) × (is_among (texts names) d ≡ false) × (has_table h d ≡ true))
full_of None names d full = tt
full_of (Some h) names d full = (length-map names string_bytes ∙ full.0, full.1, full.2)

pub subst_length : {F : Type 0} (stop : Stop F) (has : Option Holdings) (names : List (String Global)) (d : List ℕ) → OnTooMany stop (IfSome has (λ h. (length names ≡ 2048) × (is_among (texts names) d ≡ false) × (has_table h d ≡ true)))
    → OnTooMany stop (IfSome has (λ h. (length (texts names) ≡ 2048) × (is_among (texts names) d ≡ false) × (has_table h d ≡ true)))
subst_length stop has names d on = on_many stop _ _ (full_of has names d) on

pub among_one_of : {A : Type 0} (f : A → List ℕ) (xs : List A) (i : ℕ) (x : A) → i < length xs → x ≡ get_or xs i x → (n : List ℕ) → is_among (f x ∷ []) n ≡ true → is_among (map f xs) n ≡ true
among_one_of f [] i x lt is n e = absurd (omega (arith, lt))
among_one_of f (y ∷ ys) zero x lt is n e = let same : bytes_eq n (f x) ≡ true = sym (or_false (bytes_eq n (f x))) ∙ e in ap (λ b. b || is_among (map f ys) n) (ap (λ z. bytes_eq n (f z)) (sym is) ∙ same)
  where
    or_false : (b : Bool) → (b || false) ≡ b
    or_false true = refl
    or_false false = refl
among_one_of f (y ∷ ys) (suc i) x lt is n e = or_true (bytes_eq n (f y)) (is_among (map f ys) n) (among_one_of f ys i x (omega (arith, lt)) is n e)
  where
    or_true : (a b : Bool) → b ≡ true → (a || b) ≡ true
    or_true true b q = refl
    or_true false b q = q

-- ---- datasets that are opened

pub open_start : (has : Option Holdings) → IfSome has (λ h. AreOpen h [] [])
open_start None = tt
open_start (Some h) = none_open h

opened_before : (h i : Holdings) (os : List Open) (name : List ℕ) (after : List Open) → Stays h i → MayOpen i os name after → MayOpen h os name after
opened_before h i os name after stays (inl (o, is_open, named, is)) = inl (o, open_before h i o stays is_open, named, is)
opened_before h i os name after stays (inr (none, is)) = inr (sym (same_tables h i stays name) ∙ none, is)

pub open_told_more : (old mid : Option Holdings) (names : List (List ℕ)) (os after : List Open) (name : List ℕ) → WhereTold old mid Stays → IfSome old (λ h. AreOpen h names os) → IfSome mid (λ h. MayOpen h os name after)
    → IfSome old (λ h. AreOpen h (names ++ name ∷ []) after)
open_told_more None mid names os after name stays so_far opened = tt
open_told_more (Some h) None names os after name stays so_far opened = absurd stays
open_told_more (Some h) (Some i) names os after name stays so_far opened = open_more h names os after name so_far (opened_before h i os name after stays opened)

-- none of no datasets is damaged
pub none_start : (has : Option Holdings) → IfSome has (λ h. NoneIsDamaged h [])
none_start None = tt
none_start (Some h) = λ n among. absurd cc

pub none_told_more : (old mid : Option Holdings) (names : List (List ℕ)) (name : List ℕ) → WhereTold old mid Stays → IfSome old (λ h. NoneIsDamaged h names) → IfSome mid (λ h. IsUndamaged name (folder_at h name))
    → IfSome old (λ h. NoneIsDamaged h (names ++ name ∷ []))
none_told_more None mid names name stays so_far one = tt
none_told_more (Some h) None names name stays so_far one = absurd stays
none_told_more (Some h) (Some i) names name stays so_far one = none_damaged_more h names name so_far (undamaged_before name (folder_at h name) (folder_at i name) (stays.folders name) one)

pub none_before : (h i : Holdings) (names : List (List ℕ)) → Stays h i → NoneIsDamaged i names → NoneIsDamaged h names
none_before h i names stays sound n among = undamaged_before n (folder_at h n) (folder_at i n) (stays.folders n) (sound n among)

broken_in : {F : Type 0} (stop : Stop F) (h i : Holdings) (few names : List (List ℕ)) → Stays h i → ((n : List ℕ) → is_among few n ≡ true → is_among names n ≡ true) → IsBrokenOf stop i few → IsBrokenOf stop h names
broken_in (stops.Disk f) h i few names stays more b = tt
broken_in stops.Input h i few names stays more b = absurd b
broken_in stops.Missing h i few names stays more b = absurd b
broken_in (stops.Schema line kind) h i few names stays more b = absurd b
broken_in (stops.Request at kind) h i few names stays more b = absurd b
broken_in (stops.NoRule text) h i few names stays more b = absurd b
broken_in (stops.NoLayer layer text) h i few names stays more b = absurd b
broken_in stops.TooMany h i few names stays more b = absurd b
broken_in (stops.Broken dataset broken) h i few names stays more b = (more (string_bytes dataset) b.0, stands_before (string_bytes dataset) (folder_at h (string_bytes dataset)) (folder_at i (string_bytes dataset)) (seen_broken broken) (stays.folders (string_bytes dataset)) b.1)
broken_in stops.NoMemory h i few names stays more b = tt

pub broken_told : {F : Type 0} (stop : Stop F) (old mid : Option Holdings) (few names : List (List ℕ)) → WhereTold old mid Stays → ((n : List ℕ) → is_among few n ≡ true → is_among names n ≡ true) → IfSome mid (λ h. IsBrokenOf stop h few) → IfSome old (λ h. IsBrokenOf stop h names)
broken_told stop None mid few names stays more b = tt
broken_told stop (Some h) None few names stays more b = absurd stays
broken_told stop (Some h) (Some i) few names stays more b = broken_in stop h i few names stays more b

-- ---- the schema, the request, the places

rules_stop : (h : Holdings) (octets : List ℕ) (cause : Cause) → rules_of h.schema ≡ Err cause → placed_of h octets ≡ Err cause
rules_stop h octets cause is = ap (λ (r : Result (List Rule) Cause). r then λ rules. (request_in octets then λ keywords. placed rules (expand keywords))) is

pub missing_says : (has : Option Holdings) (left : Option (List ℕ)) → IfSome has (λ h. h.schema ≡ None) → IfSome has (λ h. IfSome left (λ octets. placed_of h octets ≡ Err SchemaMissing))
missing_says None left none = tt
missing_says (Some h) None none = tt
missing_says (Some h) (Some octets) none = rules_stop h octets SchemaMissing (ap rules_of none)

pub request_says : {F : Type 0} (stop : Stop F) (has : Option Holdings) (left : Option (List ℕ)) (rules : List Rule) → IfSome has (λ h. rules_of h.schema ≡ Ok rules) → IfSome left (λ octets. OnRequest stop (request_in octets))
    → IfSome has (λ h. IfSome left (λ octets. IsOfRequest stop (IsRefused (placed_of h octets))))
request_says stop None left rules is on = tt
request_says stop (Some h) None rules is on = tt
request_says stop (Some h) (Some octets) rules is on = request_stop stop (request_in octets) (IsRefused (placed_of h octets)) (λ cause e. refused_so h octets rules cause is e) on
  where
    refused_so : (h : Holdings) (octets : List ℕ) (rules : List Rule) (cause : Cause) → rules_of h.schema ≡ Ok rules → request_in octets ≡ Err cause → placed_of h octets ≡ Err cause
    refused_so h octets rules cause is e =
        ap (λ (r : Result (List Rule) Cause). r then λ rules. (request_in octets then λ keywords. placed rules (expand keywords))) is ∙ ap (λ (r : Result (List Keyword) Cause). r then λ keywords. placed rules (expand keywords)) e

placed_is : (h : Holdings) (octets : List ℕ) (rules : List Rule) (ks : List Keyword) → rules_of h.schema ≡ Ok rules → request_in octets ≡ Ok ks → placed_of h octets ≡ placed rules (expand ks)
placed_is h octets rules ks is read =
    ap (λ (r : Result (List Rule) Cause). r then λ rules. (request_in octets then λ keywords. placed rules (expand keywords))) is ∙ ap (λ (r : Result (List Keyword) Cause). r then λ keywords. placed rules (expand keywords)) read

pub placed_told : (has : Option Holdings) (left : Option (List ℕ)) (rules : List Rule) (ks : List Keyword) (P : Type 0) (r : Result (List Asked) Cause) → IfSome has (λ h. rules_of h.schema ≡ Ok rules) → IfSome left (λ octets. (request_in octets ≡ Ok ks) × P) → placed rules (expand ks) ≡ r
    → IfSome has (λ h. IfSome left (λ octets. placed_of h octets ≡ r))
placed_told None left rules ks P r is read places = tt
placed_told (Some h) None rules ks P r is read places = tt
placed_told (Some h) (Some octets) rules ks P r is read places = placed_is h octets rules ks is read.0 ∙ places

lacks_of : {F : Type 0} (stop : Stop F) (r q : Result (List Asked) Cause) → q ≡ r → LacksRule stop r → IsOfRequest stop (IsRefused q)
lacks_of (stops.Disk f) r q e l = absurd l
lacks_of stops.Input r q e l = absurd l
lacks_of stops.Missing r q e l = absurd l
lacks_of (stops.Schema line kind) r q e l = absurd l
lacks_of (stops.Request at kind) r q e l = absurd l
lacks_of (stops.NoRule text) r q e l = (l.0, e ∙ l.1, l.2)
lacks_of (stops.NoLayer layer text) r q e l = absurd l
lacks_of stops.TooMany r q e l = absurd l
lacks_of (stops.Broken dataset broken) r q e l = absurd l
lacks_of stops.NoMemory r q e l = tt

pub places_say : {F : Type 0} (stop : Stop F) (has : Option Holdings) (left : Option (List ℕ)) (rules : List Rule) (ks : List Keyword) (P : Type 0) → IfSome has (λ h. rules_of h.schema ≡ Ok rules) → IfSome left (λ octets. (request_in octets ≡ Ok ks) × P)
    → LacksRule stop (placed rules (expand ks)) → IfSome has (λ h. IfSome left (λ octets. IsOfRequest stop (IsRefused (placed_of h octets))))
places_say stop None left rules ks P is read l = tt
places_say stop (Some h) None rules ks P is read l = tt
places_say stop (Some h) (Some octets) rules ks P is read l = lacks_of stop (placed rules (expand ks)) (placed_of h octets) (placed_is h octets rules ks is read.0) l

-- ---- all together

asked_stop : (h : Holdings) (octets : List ℕ) (cause : Cause) → placed_of h octets ≡ Err cause → asked_of h octets ≡ Err cause
asked_stop h octets cause is = asked_is h octets ∙ ap (λ (r : Result (List Asked) Cause). r then λ asked. within_datasets h asked) is

pub request_told : {F : Type 0} (stop : Stop F) (has : Option Holdings) (left : Option (List ℕ)) → IfSome has (λ h. IfSome left (λ octets. IsOfRequest stop (IsRefused (placed_of h octets)))) → IfSome has (λ h. IfSome left (λ octets. Says stop h (IsRefused (asked_of h octets)) (AmongAsked (asked_of h octets))))
request_told stop None left s = tt
request_told stop (Some h) None s = tt
request_told stop (Some h) (Some octets) s = says_of stop h (IsRefused (placed_of h octets)) (IsRefused (asked_of h octets)) (AmongAsked (asked_of h octets)) (asked_stop h octets) s

module _ (h : Holdings) (octets : List ℕ) (ks : List Keyword) (ps : List Place) (long : length ps ≡ length (expand ks)) (is : placed_of h octets ≡ Ok (asked_at ks ps)) where
  datasets_are : datasets_of (asked_at ks ps) ≡ datasets_in ps
  datasets_are = datasets_at (expand ks) ps long

  asked_by : (r : Result (List Asked) Cause) → within_datasets h (asked_at ks ps) ≡ r → asked_of h octets ≡ r
  asked_by r e = asked_is h octets ∙ ap (λ (q : Result (List Asked) Cause). q then λ asked. within_datasets h asked) is ∙ e

  beyond_so : 2048 < count_distinct (filter (has_table h) (datasets_in ps)) → asked_of h octets ≡ Err TooManyDatasets
  beyond_so on = asked_by _ (beyond h (asked_at ks ps) (datasets_in ps) datasets_are on)

  module _ (names : List (List ℕ)) (tables : AreTables h (datasets_in ps) names) (few : length names ≤ 2048) where
    asked_so : asked_of h octets ≡ Ok (asked_at ks ps)
    asked_so = asked_by _ (within h (asked_at ks ps) (datasets_in ps) names datasets_are tables few)

    among_so : (name : List ℕ) → is_among names name ≡ true → AmongAsked (asked_of h octets) name
    among_so name is = subst (λ r. AmongAsked r name) (sym asked_so) (subst (λ ds. Contains ds name) (sym datasets_are) (contains_among (datasets_in ps) name (named_among h (datasets_in ps) names name tables is)))

    ready_of : (os : List Open) → AreOpen h names os → NoneIsDamaged h names → IsReady h octets ks ps os
    ready_of os opens sound = record {
      asked = asked_so;
      answered = same_answers (table_in os) (table_at h) (expand ks) ps (λ d among. table_is h (datasets_in ps) names os d tables opens among);
      each = opens.each;
      among = λ n there. named_among h (datasets_in ps) names n tables (opens.from n there);
      tables = λ d among. table_is h (datasets_in ps) names os d tables opens among;
      undamaged = none_damaged h (datasets_in ps) names tables sound;
    }

-- one of the datasets that are opened is broken
pub broken_says : {F : Type 0} (stop : Stop F) (h : Holdings) (names : List (List ℕ)) (P : Cause → Type 0) (A : List ℕ → Type 0) → ((name : List ℕ) → is_among names name ≡ true → A name) → IsBrokenOf stop h names → Says stop h P A
broken_says (stops.Disk f) h names P A to b = tt
broken_says stops.Input h names P A to b = absurd b
broken_says stops.Missing h names P A to b = absurd b
broken_says (stops.Schema line kind) h names P A to b = absurd b
broken_says (stops.Request at kind) h names P A to b = absurd b
broken_says (stops.NoRule text) h names P A to b = absurd b
broken_says (stops.NoLayer layer text) h names P A to b = absurd b
broken_says stops.TooMany h names P A to b = absurd b
broken_says (stops.Broken dataset broken) h names P A to b = (to (string_bytes dataset) b.0, b.1)
broken_says stops.NoMemory h names P A to b = tt

pub many_told_says : {F : Type 0} (stop : Stop F) (has : Option Holdings) (left : Option (List ℕ)) (ks : List Keyword) (ps : List Place) → length ps ≡ length (expand ks) → IfSome has (λ h. IfSome left (λ octets. placed_of h octets ≡ Ok (asked_at ks ps)))
    → NotRefused stop → OnTooMany stop (IfSome has (λ h. 2048 < count_distinct (filter (has_table h) (datasets_in ps)))) → IfSome has (λ h. IfSome left (λ octets. Says stop h (IsRefused (asked_of h octets)) (AmongAsked (asked_of h octets))))
many_told_says stop None left ks ps long is ok on = tt
many_told_says stop (Some h) None ks ps long is ok on = tt
many_told_says stop (Some h) (Some octets) ks ps long is ok on =
    many_says stop h _ (IsRefused (asked_of h octets)) (AmongAsked (asked_of h octets)) (beyond_so h octets ks ps long is) ok on

pub broken_told_says : {F : Type 0} (stop : Stop F) (has : Option Holdings) (left : Option (List ℕ)) (ks : List Keyword) (ps : List Place) (names : List (List ℕ)) → length ps ≡ length (expand ks) → IfSome has (λ h. IfSome left (λ octets. placed_of h octets ≡ Ok (asked_at ks ps)))
    → IfSome has (λ h. AreTables h (datasets_in ps) names) → length names ≤ 2048 → IfSome has (λ h. IsBrokenOf stop h names) → IfSome has (λ h. IfSome left (λ octets. Says stop h (IsRefused (asked_of h octets)) (AmongAsked (asked_of h octets))))
broken_told_says stop None left ks ps names long is tables few b = tt
broken_told_says stop (Some h) None ks ps names long is tables few b = tt
broken_told_says stop (Some h) (Some octets) ks ps names long is tables few b =
    broken_says stop h names (IsRefused (asked_of h octets)) (AmongAsked (asked_of h octets)) (among_so h octets ks ps long is names tables few) b

pub opens_in : (h i : Holdings) (names : List (List ℕ)) (os : List Open) → Stays h i → AreOpen i names os → AreOpen h names os
opens_in h i names os stays opens = record {
  each = each os opens.each;
  from = opens.from;
  all = λ n among has. opens.all n among (same_tables h i stays n ∙ has);
}
  where
    each : (xs : List Open) → All (IsOpenIn i) xs → All (IsOpenIn h) xs
    each [] all = All-nil _
    each (x ∷ xs) all = All-cons (IsOpenIn h) x xs (open_before h i x stays (All-head (IsOpenIn i) x xs all)) (each xs (All-tail (IsOpenIn i) x xs all))

pub ready_told : (has mid : Option Holdings) (left : Option (List ℕ)) (ks : List Keyword) (ps : List Place) (names : List (List ℕ)) (os : List Open) → length ps ≡ length (expand ks) → IfSome has (λ h. IfSome left (λ octets. placed_of h octets ≡ Ok (asked_at ks ps)))
    → IfSome has (λ h. AreTables h (datasets_in ps) names) → length names ≤ 2048 → WhereTold has mid Stays → IfSome mid (λ h. AreOpen h names os) → IfSome mid (λ h. NoneIsDamaged h names) → IfSome has (λ h. IfSome left (λ octets. IsReady h octets ks ps os))
ready_told None mid left ks ps names os long is tables few stays opens sound = tt
ready_told (Some h) mid None ks ps names os long is tables few stays opens sound = tt
ready_told (Some h) None (Some octets) ks ps names os long is tables few stays opens sound = absurd stays
ready_told (Some h) (Some i) (Some octets) ks ps names os long is tables few stays opens sound = ready_of h octets ks ps long is names tables few os (opens_in h i names os stays opens) (none_before h i names stays sound)

pub broken_all : {F : Type 0} (stop : Stop F) (has mid : Option Holdings) (names : List (List ℕ)) → WhereTold has mid Stays → IfSome mid (λ h. IsBrokenOf stop h names) → IfSome has (λ h. IsBrokenOf stop h names)
broken_all stop has mid names stays b = broken_told stop has mid names names stays (λ n is. is) b

-- the same of a store that is told alike
pub many_of : {F : Type 0} (stop : Stop F) (one other : Option Holdings) (ds : List (List ℕ)) → one ≡ other → OnTooMany stop (IfSome one (λ h. 2048 < count_distinct (filter (has_table h) ds))) → OnTooMany stop (IfSome other (λ h. 2048 < count_distinct (filter (has_table h) ds)))
many_of stop one other ds same on = subst (λ o. OnTooMany stop (IfSome o (λ h. 2048 < count_distinct (filter (has_table h) ds)))) same on
