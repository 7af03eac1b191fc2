-- A request over layers that is prepared: what each step says of the store as it was at first.
use Rattle.std.proofs.Common.{◌≡◌, ◌∙◌, ◌≤◌, ◌<◌, ◌||◌, ℕ, Bool, true, false, List, [], ◌∷◌, ◌++◌, length, map, filter, IfSome, Option, Some, None, refl, sym, ap, subst, arith, if◌then◌else◌}
use Rattle.std.specs.Prelude.{Contains, Result, Ok, Err, nat_lt, option_map}
use Rattle.std.specs.Str.{bytes_eq}
use Rattle.std.proofs.lemmas.Bool.Decides.{nat_tests}
use Rattle.std.proofs.lemmas.List.Folds.{list_any-append}
use Rattle.std.proofs.lemmas.Slice.Eq.{bytes_eq-Decides}
use Rattle.fd_disk.specs.Folders.{Holdings, WhereTold}
use Rattle.fd_entries.specs.Batches.{newest}
use Rattle.fd_key.specs.Pairs.{Pair}
use Rattle.fd_schema.specs.declared.place.Place.{Place}
use Rattle.fd_schema.specs.Reading.{seen_place}
use Rattle.fd_schema.specs.Rules.{Rule, Texts, file_key}
use Rattle.fd_request.specs.Expansion.{Keyword, expand}
use Rattle.fd_layers.specs.Tables.{laid}
use Rattle.fd_outcome.specs.Asking.{Tables, all_answers, request_in, rules_of, ◌then◌}
use Rattle.fd_stored.specs.Distinct.{count_distinct, is_among}
use Rattle.fd_stored.specs.Causes.{Cause, SchemaMissing, TooManyDatasets}
use Rattle.fd_outcome.specs.Ends.{AmongLaid}
use Rattle.fd_outcome.specs.Layered.{Laid, all_laid, all_places, laid_answer, laid_answers, laid_datasets, laid_of, places_under, table_before, tables_at, within_layers}
use Rattle.fd_stored.specs.Store.{Stays, has_table, table_at}
use Rattle.fd_telling.specs.declared.stop.Stop.{Stop}
use Rattle.fd_telling.specs.Stops.{IsOfPlaces, IsOfRequest, IsRefused, NotRefused, OnRequest, OnTooMany, Says}
use Rattle.fd_telling.proofs.StopLemmas.{many_says, places_stop, request_stop, says_of}
use Rattle.fd_retrieve.specs.Open.{Open, table_in}
use Rattle.fd_retrieve.specs.Ready.{AreOpen, IsBrokenOf, NoneIsDamaged}
use Rattle.fd_retrieve.specs.Tables.{AreTables, datasets_in}
use Rattle.fd_retrieve.proofs.PrepareLemmas.{broken_says, none_before, opens_in}
use Rattle.fd_retrieve.proofs.ReadyLemmas.{contains_among, named_among, none_damaged, table_is}
use Rattle.fd_layered.specs.Chains.{AreChains}
use Rattle.fd_layered.specs.Ready.{IsReady, laid_in, laid_with}

-- ---- the schema, the request, the places

laid_is : (h : Holdings) (layers : List (List Pair)) (octets : List ℕ) (rules : List Rule) (ks : List Keyword) → rules_of h.schema ≡ Ok rules → request_in octets ≡ Ok ks → laid_in h layers octets ≡ all_laid rules layers (expand ks)
laid_is h layers octets rules ks is read =
    ap (λ (r : Result (List Rule) Cause). r then λ rules. (request_in octets then λ keywords. all_laid rules layers (expand keywords))) is ∙ ap (λ (r : Result (List Keyword) Cause). r then λ keywords. all_laid rules layers (expand keywords)) read

rules_stop : (h : Holdings) (layers : List (List Pair)) (octets : List ℕ) (cause : Cause) → rules_of h.schema ≡ Err cause → laid_in h layers octets ≡ Err cause
rules_stop h layers octets cause is = ap (λ (r : Result (List Rule) Cause). r then λ rules. (request_in octets then λ keywords. all_laid rules layers (expand keywords))) is

pub missing_says : (has : Option Holdings) (left : Option (List ℕ)) (layers : List (List Pair)) → IfSome has (λ h. h.schema ≡ None) → IfSome has (λ h. IfSome left (λ octets. laid_in h layers octets ≡ Err SchemaMissing))
missing_says None left layers none = tt
missing_says (Some h) None layers none = tt
missing_says (Some h) (Some octets) layers none = rules_stop h layers octets SchemaMissing (ap rules_of none)

pub request_says : {F : Type 0} (stop : Stop F) (has : Option Holdings) (left : Option (List ℕ)) (layers : List (List Pair)) (rules : List Rule) → IfSome has (λ h. rules_of h.schema ≡ Ok rules) → IfSome left (λ octets. OnRequest stop (request_in octets))
    → IfSome has (λ h. IfSome left (λ octets. IsOfRequest stop (IsRefused (laid_in h layers octets))))
request_says stop None left layers rules is on = tt
request_says stop (Some h) None layers rules is on = tt
request_says stop (Some h) (Some octets) layers rules is on = request_stop stop (request_in octets) (IsRefused (laid_in h layers octets)) refused on
  where
    refused : (cause : Cause) → request_in octets ≡ Err cause → laid_in h layers octets ≡ Err cause
    refused cause e =
        ap (λ (r : Result (List Rule) Cause). r then λ rules. (request_in octets then λ keywords. all_laid rules layers (expand keywords))) is ∙ ap (λ (r : Result (List Keyword) Cause). r then λ keywords. all_laid rules layers (expand keywords)) e

pub laid_told : (has : Option Holdings) (left : Option (List ℕ)) (layers : List (List Pair)) (rules : List Rule) (ks : List Keyword) (P : Type 0) (r : Result (List Laid) Cause) → IfSome has (λ h. rules_of h.schema ≡ Ok rules) → IfSome left (λ octets. (request_in octets ≡ Ok ks) × P) → all_laid rules layers (expand ks) ≡ r
    → IfSome has (λ h. IfSome left (λ octets. laid_in h layers octets ≡ r))
laid_told None left layers rules ks P r is read places = tt
laid_told (Some h) None layers rules ks P r is read places = tt
laid_told (Some h) (Some octets) layers rules ks P r is read places = laid_is h layers octets rules ks is read.0 ∙ places

pub places_say : {F : Type 0} (stop : Stop F) (has : Option Holdings) (left : Option (List ℕ)) (layers : List (List Pair)) (rules : List Rule) (ks : List Keyword) (P : Type 0) → IfSome has (λ h. rules_of h.schema ≡ Ok rules) → IfSome left (λ octets. (request_in octets ≡ Ok ks) × P)
    → IsOfPlaces stop (IsRefused (all_laid rules layers (expand ks))) → IfSome has (λ h. IfSome left (λ octets. IsOfRequest stop (IsRefused (laid_in h layers octets))))
places_say stop None left layers rules ks P is read l = tt
places_say stop (Some h) None layers rules ks P is read l = tt
places_say stop (Some h) (Some octets) layers rules ks P is read l =
    places_stop stop (IsRefused (all_laid rules layers (expand ks))) (IsRefused (laid_in h layers octets)) (λ cause e. laid_is h layers octets rules ks is read.0 ∙ e) l

-- ---- all together

then_then : (h : Holdings) (layers : List (List Pair)) (rules : Result (List Rule) Cause) (keywords : Result (List Keyword) Cause)
    → (rules then λ rs. (keywords then λ ks. (all_laid rs layers (expand ks) then λ asked. within_layers h asked))) ≡ ((rules then λ rs. (keywords then λ ks. all_laid rs layers (expand ks))) then λ asked. within_layers h asked)
then_then h layers (Ok rs) (Ok ks) = refl
then_then h layers (Ok rs) (Err e) = refl
then_then h layers (Err e) keywords = refl

asked_is : (h : Holdings) (layers : List (List Pair)) (input : List ℕ) → laid_of h layers input ≡ (laid_in h layers input then λ asked. within_layers h asked)
asked_is h layers input = then_then h layers (rules_of h.schema) (request_in input)

asked_stop : (h : Holdings) (layers : List (List Pair)) (octets : List ℕ) (cause : Cause) → laid_in h layers octets ≡ Err cause → laid_of h layers octets ≡ Err cause
asked_stop h layers octets cause is = asked_is h layers octets ∙ ap (λ (r : Result (List Laid) Cause). r then λ asked. within_layers h asked) is

pub request_told : {F : Type 0} (stop : Stop F) (has : Option Holdings) (left : Option (List ℕ)) (layers : List (List Pair)) → IfSome has (λ h. IfSome left (λ octets. IsOfRequest stop (IsRefused (laid_in h layers octets))))
    → IfSome has (λ h. IfSome left (λ octets. Says stop h (IsRefused (laid_of h layers octets)) (AmongLaid (laid_of h layers octets))))
request_told stop None left layers s = tt
request_told stop (Some h) None layers s = tt
request_told stop (Some h) (Some octets) layers s = says_of stop h (IsRefused (laid_in h layers octets)) (IsRefused (laid_of h layers octets)) (AmongLaid (laid_of h layers octets)) (asked_stop h layers octets) s

-- ---- the tables of the datasets

pub among_left : (xs ys : List (List ℕ)) (d : List ℕ) → is_among xs d ≡ true → is_among (xs ++ ys) d ≡ true
among_left xs ys d is = list_any-append (λ n. bytes_eq d n) xs ys ∙ ap (λ b. b || is_among ys d) is

pub among_right : (xs ys : List (List ℕ)) (d : List ℕ) → is_among ys d ≡ true → is_among (xs ++ ys) d ≡ true
among_right xs ys d is = list_any-append (λ n. bytes_eq d n) xs ys ∙ or_true (is_among xs d) (is_among ys d) is
  where
    or_true : (a b : Bool) → b ≡ true → (a || b) ≡ true
    or_true true b e = refl
    or_true false b e = e

abbrev pub sets : List Texts → List (List ℕ)
sets ps = map (λ p. p.dataset) ps

pub sets_append : (ps qs : List Texts) → sets (ps ++ qs) ≡ sets ps ++ sets qs
sets_append [] qs = refl
sets_append (p ∷ ps) qs = ap (λ l. p.dataset ∷ l) (sets_append ps qs)

pub same_tables : (t u : Tables) (ps : List Texts) → ((d : List ℕ) → is_among (sets ps) d ≡ true → t d ≡ u d) → tables_at t ps ≡ tables_at u ps
same_tables t u [] same = refl
same_tables t u (p ∷ ps) same =
    let here : t p.dataset ≡ u p.dataset = same p.dataset (ap (λ b. b || is_among (sets ps) p.dataset) ((bytes_eq-Decides p.dataset p.dataset).1 refl)) in
    ap (λ o. table_before o (tables_at t ps)) here ∙ ap (table_before (u p.dataset)) (same_tables t u ps (λ d is. same d (among_right (p.dataset ∷ []) (sets ps) d is)))

same_answers : (t u : Tables) (cs : List Laid) → ((d : List ℕ) → is_among (laid_datasets cs) d ≡ true → t d ≡ u d) → laid_answers t cs ≡ laid_answers u cs
same_answers t u [] same = refl
same_answers t u (a ∷ cs) same =
    let parts = sets_append (places_under a) (all_places cs) in
    let here = same_tables t u (places_under a) (λ d is. same d (ap (λ l. is_among l d) parts ∙ among_left (sets (places_under a)) (laid_datasets cs) d is)) in
    let later = same_answers t u cs (λ d is. same d (ap (λ l. is_among l d) parts ∙ among_right (sets (places_under a)) (laid_datasets cs) d is)) in
    ap (λ o. all_answers (option_map (λ ts. record { key = a.key; found = newest (laid ts) (file_key a.place) }) o) (laid_answers t cs)) here ∙ ap (all_answers (laid_answer u a)) later

-- ---- how many datasets they are

pub sets_of : (ps : List Place) → sets (map seen_place ps) ≡ datasets_in ps
sets_of [] = refl
sets_of (p ∷ ps) = ap (λ l. (seen_place p).dataset ∷ l) (sets_of ps)

module _ (h : Holdings) (layers : List (List Pair)) (octets : List ℕ) (ks : List Keyword) (ps : List Place) (chains : AreChains (length layers) (expand ks) (map seen_place ps)) (is : laid_in h layers octets ≡ Ok (laid_with layers ks ps)) where
  abbrev asked : List Laid
  asked = laid_with layers ks ps

  datasets_are : laid_datasets asked ≡ datasets_in ps
  datasets_are = ap sets chains.places ∙ sets_of ps

  asked_by : (r : Result (List Laid) Cause) → within_layers h asked ≡ r → laid_of h layers octets ≡ r
  asked_by r e = asked_is h layers octets ∙ ap (λ (q : Result (List Laid) Cause). q then λ asked. within_layers h asked) is ∙ e

  beyond : 2048 < count_distinct (filter (has_table h) (datasets_in ps)) → laid_of h layers octets ≡ Err TooManyDatasets
  beyond many =
      let same = ap (λ l. count_distinct (filter (has_table h) l)) datasets_are in
      let lt : 2048 < count_distinct (filter (has_table h) (laid_datasets asked)) = omega (arith, same, many) in
      let yes : nat_lt 2048 (count_distinct (filter (has_table h) (laid_datasets asked))) ≡ true = grind (arith, nat_tests) in
      asked_by _ (ap (λ b. if b then Err TooManyDatasets else Ok asked) yes)

  module _ (names : List (List ℕ)) (tables : AreTables h (datasets_in ps) names) (few : length names ≤ 2048) where
    asked_so : laid_of h layers octets ≡ Ok asked
    asked_so =
        let c = tables.count in
        let same = ap (λ l. count_distinct (filter (has_table h) l)) datasets_are in
        let le : count_distinct (filter (has_table h) (laid_datasets asked)) ≤ 2048 = omega (arith, c, same, few) in
        let no : nat_lt 2048 (count_distinct (filter (has_table h) (laid_datasets asked))) ≡ false = grind (arith, nat_tests) in
        asked_by _ (ap (λ b. if b then Err TooManyDatasets else Ok asked) no)

    among_so : (name : List ℕ) → is_among names name ≡ true → AmongLaid (laid_of h layers octets) name
    among_so name there = subst (λ r. AmongLaid r name) (sym asked_so) (subst (λ ds. Contains ds name) (sym datasets_are) (contains_among (datasets_in ps) name (named_among h (datasets_in ps) names name tables there)))

    ready_of : (os : List Open) → AreOpen h names os → NoneIsDamaged h names → IsReady h layers octets ks ps os
    ready_of os opens sound = record {
      asked = asked_so;
      answered = same_answers (table_in os) (table_at h) asked (λ d among. table_is h (datasets_in ps) names os d tables opens (sym (ap (λ l. is_among l d) datasets_are) ∙ among));
      each = opens.each;
      among = λ n there. named_among h (datasets_in ps) names n tables (opens.from n there);
      tables = λ d among. table_is h (datasets_in ps) names os d tables opens among;
      undamaged = none_damaged h (datasets_in ps) names tables sound;
    }

pub many_told_says : {F : Type 0} (stop : Stop F) (has : Option Holdings) (left : Option (List ℕ)) (layers : List (List Pair)) (ks : List Keyword) (ps : List Place) → AreChains (length layers) (expand ks) (map seen_place ps) → IfSome has (λ h. IfSome left (λ octets. laid_in h layers octets ≡ Ok (laid_with layers ks ps)))
    → NotRefused stop → OnTooMany stop (IfSome has (λ h. 2048 < count_distinct (filter (has_table h) (datasets_in ps)))) → IfSome has (λ h. IfSome left (λ octets. Says stop h (IsRefused (laid_of h layers octets)) (AmongLaid (laid_of h layers octets))))
many_told_says stop None left layers ks ps chains is ok on = tt
many_told_says stop (Some h) None layers ks ps chains is ok on = tt
many_told_says stop (Some h) (Some octets) layers ks ps chains is ok on = many_says stop h _ (IsRefused (laid_of h layers octets)) (AmongLaid (laid_of h layers octets)) (beyond h layers octets ks ps chains is) ok on

pub broken_told_says : {F : Type 0} (stop : Stop F) (has : Option Holdings) (left : Option (List ℕ)) (layers : List (List Pair)) (ks : List Keyword) (ps : List Place) (names : List (List ℕ)) → AreChains (length layers) (expand ks) (map seen_place ps)
    → IfSome has (λ h. IfSome left (λ octets. laid_in h layers octets ≡ Ok (laid_with layers ks ps))) → IfSome has (λ h. AreTables h (datasets_in ps) names) → length names ≤ 2048 → IfSome has (λ h. IsBrokenOf stop h names)
    → IfSome has (λ h. IfSome left (λ octets. Says stop h (IsRefused (laid_of h layers octets)) (AmongLaid (laid_of h layers octets))))
broken_told_says stop None left layers ks ps names chains is tables few b = tt
broken_told_says stop (Some h) None layers ks ps names chains is tables few b = tt
broken_told_says stop (Some h) (Some octets) layers ks ps names chains is tables few b =
    broken_says stop h names (IsRefused (laid_of h layers octets)) (AmongLaid (laid_of h layers octets)) (among_so h layers octets ks ps chains is names tables few) b

pub ready_told : (has mid : Option Holdings) (left : Option (List ℕ)) (layers : List (List Pair)) (ks : List Keyword) (ps : List Place) (names : List (List ℕ)) (os : List Open) → AreChains (length layers) (expand ks) (map seen_place ps)
    → IfSome has (λ h. IfSome left (λ octets. laid_in h layers octets ≡ Ok (laid_with layers ks ps))) → IfSome has (λ h. AreTables h (datasets_in ps) names) → length names ≤ 2048 → WhereTold has mid Stays → IfSome mid (λ h. AreOpen h names os) → IfSome mid (λ h. NoneIsDamaged h names)
    → IfSome has (λ h. IfSome left (λ octets. IsReady h layers octets ks ps os))
ready_told None mid left layers ks ps names os chains is tables few stays opens sound = tt
ready_told (Some h) mid None layers ks ps names os chains is tables few stays opens sound = tt
ready_told (Some h) None (Some octets) layers ks ps names os chains is tables few stays opens sound = absurd stays
ready_told (Some h) (Some i) (Some octets) layers ks ps names os chains is tables few stays opens sound = ready_of h layers octets ks ps chains is names tables few os (opens_in h i names os stays opens) (none_before h i names stays sound)
