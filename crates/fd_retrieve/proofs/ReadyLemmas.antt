-- The datasets of a request's places, and what they answer.
use Rattle.std.proofs.Common.{◌≡◌, ◌⊎◌, ◌∙◌, ◌≤◌, ◌<◌, ◌||◌, ℕ, zero, suc, Bool, true, false, List, [], ◌∷◌, ◌++◌, length, map, filter, All, IfSome, Option, Some, None, refl, sym, ap, subst, inl, inr, arith, if◌then◌else◌}
use mathlib.Core.List.{map-append}
use Rattle.std.specs.Prelude.{Contains, Result, Ok, Err, slice_get, option_map, is_some, nat_lt}
use Rattle.std.specs.Str.{bytes_eq}
use Rattle.std.proofs.lemmas.Slice.Eq.{bytes_eq-Decides}
use Rattle.std.proofs.lemmas.Bool.Decides.{nat_tests}
use Rattle.std.proofs.lemmas.List.Folds.{list_any-append}
use Rattle.std.proofs.lemmas.List.Elements.{All-nil, All-cons, All-head, All-tail, All-append}
use Rattle.fd_disk.specs.declared.file.File.{File}
use Rattle.fd_disk.specs.Folders.{Holdings, folder_at}
use Rattle.fd_disk.proofs.NameLemmas.{is_or_not}
use Rattle.fd_entries.specs.declared.batch.Pair as batches
use Rattle.fd_entries.specs.Batches.{newest}
use Rattle.fd_entries.specs.declared.table.Entry.{Entry}
use Rattle.fd_entries.specs.Table.{listed}
use Rattle.fd_recovery.specs.Damages.{damages}
use Rattle.fd_recovery.specs.Recovered.{IsUndamaged, held_by}
use Rattle.fd_key.specs.Pairs.{Pair}
use Rattle.fd_schema.specs.declared.place.Place.{Place}
use Rattle.fd_schema.specs.Reading.{seen_place}
use Rattle.fd_schema.specs.Rules.{Rule, Texts, file_key, place_from}
use Rattle.fd_request.specs.Expansion.{Keyword, expand}
use Rattle.fd_outcome.specs.Asking.{Asked, Tables, all_answers, answer, answers, asked_of, datasets_of, placed, placed_before, request_in, rules_of, within_datasets, ◌then◌}
use Rattle.fd_stored.specs.Distinct.{count_distinct, is_among}
use Rattle.fd_stored.specs.Causes.{Cause, NoRule, TooManyDatasets}
use Rattle.fd_stored.specs.Store.{Stands, has_table, table_at}
use Rattle.fd_recovery.specs.declared.fault.OpenFault.{OpenFault}
use Rattle.fd_recovery.specs.declared.fault.OpenFault.TheVariants as faults
use Rattle.fd_telling.specs.declared.stop.Broken.{Broken}
use Rattle.fd_telling.specs.declared.stop.Broken.TheVariants as brokens
use Rattle.fd_telling.specs.declared.stop.Stop.{Stop}
use Rattle.fd_telling.specs.declared.stop.Stop.TheVariants as stops
use Rattle.fd_telling.specs.Stops.{LacksPlace, LacksRule, seen_broken}
use Rattle.fd_answering.proofs.AnsweringLemmas.{there_is}
use Rattle.fd_answering.specs.Finding.{asked_of_all}
use Rattle.fd_retrieve.specs.Open.{IsOpenIn, Open, StandsAsSaid, names_of, table_in, table_of}
use Rattle.fd_retrieve.specs.Ready.{AreOpen, IsBrokenAs, IsBrokenOf, IsUnopened, MayOpen, NoneIsDamaged, placed_of}
use Rattle.fd_retrieve.specs.Tables.{AreTables, datasets_in}

-- ---- the places of keys

-- the first keys have these places
abbrev pub HavePlaces : List Rule → List (List Pair) → List Texts → Type 0
HavePlaces rules ks [] = Unit {0}
HavePlaces rules [] (p ∷ ps) = ⊥
HavePlaces rules (k ∷ ks) (p ∷ ps) = (place_from 0 rules k ≡ Some p) × HavePlaces rules ks ps

pub place_more : (rules : List Rule) (ks : List (List Pair)) (ps : List Texts) (k : List Pair) (p : Texts) → HavePlaces rules ks ps → slice_get ks (length ps) ≡ Some k → place_from 0 rules k ≡ Some p → HavePlaces rules ks (ps ++ p ∷ [])
place_more rules [] [] k p so_far at is = absurd cc
place_more rules (l ∷ ks) [] k p so_far at is = let e : l ≡ k = cc at in (ap (place_from 0 rules) e ∙ is, tt)
place_more rules [] (q ∷ ps) k p so_far at is = absurd so_far
place_more rules (l ∷ ks) (q ∷ ps) k p so_far at is = (so_far.0, place_more rules ks ps k p so_far.1 at is)

pub all_placed : (rules : List Rule) (ks : List (List Pair)) (ps : List Texts) → HavePlaces rules ks ps → length ps ≡ length ks → placed rules ks ≡ Ok (asked_of_all ks ps)
all_placed rules [] [] so_far long = refl
all_placed rules [] (q ∷ ps) so_far long = absurd so_far
all_placed rules (l ∷ ks) [] so_far long = absurd (omega (arith, long))
all_placed rules (l ∷ ks) (q ∷ ps) so_far long =
    ap (λ o. placed_before l o (placed rules ks)) so_far.0 ∙ ap (placed_before l (Some q)) (all_placed rules ks ps so_far.1 (omega (arith, long)))

pub none_placed : (rules : List Rule) (ks : List (List Pair)) (ps : List Texts) (k : List Pair) → HavePlaces rules ks ps → slice_get ks (length ps) ≡ Some k → place_from 0 rules k ≡ None → placed rules ks ≡ Err (NoRule k)
none_placed rules [] [] k so_far at is = absurd cc
none_placed rules (l ∷ ks) [] k so_far at is = let e : l ≡ k = cc at in ap (λ o. placed_before l o (placed rules ks)) (ap (place_from 0 rules) e ∙ is) ∙ ap (λ x. Err (NoRule x)) e
none_placed rules [] (q ∷ ps) k so_far at is = absurd so_far
none_placed rules (l ∷ ks) (q ∷ ps) k so_far at is =
    ap (λ o. placed_before l o (placed rules ks)) so_far.0 ∙ ap (placed_before l (Some q)) (none_placed rules ks ps k so_far.1 at is)

pub lacks_rule : {F : Type 0} (stop : Stop F) (rules : List Rule) (ks : List (List Pair)) (ps : List Texts) (i : ℕ) → HavePlaces rules ks ps → length ps ≡ i → i < length ks
    → ((key : List Pair) → slice_get ks i ≡ Some key → LacksPlace stop key (place_from 0 rules key)) → LacksRule stop (placed rules ks)
lacks_rule (stops.Disk f) rules ks ps i so_far long within lacks = let k = there_is ks i within in lacks k.0 k.1
lacks_rule stops.Input rules ks ps i so_far long within lacks = let k = there_is ks i within in lacks k.0 k.1
lacks_rule stops.Missing rules ks ps i so_far long within lacks = let k = there_is ks i within in lacks k.0 k.1
lacks_rule (stops.Schema line kind) rules ks ps i so_far long within lacks = let k = there_is ks i within in lacks k.0 k.1
lacks_rule (stops.Request at kind) rules ks ps i so_far long within lacks = let k = there_is ks i within in lacks k.0 k.1
lacks_rule (stops.NoRule text) rules ks ps i so_far long within lacks =
    let k = there_is ks i within in
    let l = lacks k.0 k.1 in
    (k.0, none_placed rules ks ps k.0 so_far (subst (λ n. slice_get ks n ≡ Some k.0) (sym long) k.1) l.0, l.1)
lacks_rule (stops.NoLayer layer text) rules ks ps i so_far long within lacks = let k = there_is ks i within in lacks k.0 k.1
lacks_rule stops.TooMany rules ks ps i so_far long within lacks = let k = there_is ks i within in lacks k.0 k.1
lacks_rule (stops.Broken dataset broken) rules ks ps i so_far long within lacks = let k = there_is ks i within in lacks k.0 k.1
lacks_rule stops.NoMemory rules ks ps i so_far long within lacks = tt

-- ---- why a dataset isn't opened

pub unopened_broken : {F : Type 0} (has : Option Holdings) (name : List ℕ) (fault : OpenFault F) (stop : Stop F) → IfSome has (λ h. StandsAsSaid name (folder_at h name) fault) → IsUnopened name fault stop → IfSome has (λ h. IsBrokenOf stop h (name ∷ []))
unopened_broken {F = F} None name fault stop stands is = tt
unopened_broken {F = F} (Some h) name fault stop stands is = go fault stop stands is
  where
    self : is_among (name ∷ []) name ≡ true
    self = ap (λ b. b || false) ((bytes_eq-Decides name name).1 refl)

    as_said : (stop : Stop F) (b : Broken) → Stands name (folder_at h name) (seen_broken b) → IsBrokenAs name b stop → IsBrokenOf stop h (name ∷ [])
    as_said (stops.Disk f) b stands is = absurd is
    as_said stops.Input b stands is = absurd is
    as_said stops.Missing b stands is = absurd is
    as_said (stops.Schema line kind) b stands is = absurd is
    as_said (stops.Request at kind) b stands is = absurd is
    as_said (stops.NoRule text) b stands is = absurd is
    as_said (stops.NoLayer layer text) b stands is = absurd is
    as_said stops.TooMany b stands is = absurd is
    as_said (stops.Broken dataset c) b stands is =
        subst (λ n. (is_among (name ∷ []) n ≡ true) × Stands n (folder_at h n) (seen_broken c)) (sym is.0) (self, subst (λ x. Stands name (folder_at h name) (seen_broken x)) (sym is.1) stands)
    as_said stops.NoMemory b stands is = tt

    go : (fault : OpenFault F) (stop : Stop F) → StandsAsSaid name (folder_at h name) fault → IsUnopened name fault stop → IsBrokenOf stop h (name ∷ [])
    go (faults.Disk f) stop stands is = subst (λ s. IsBrokenOf s h (name ∷ [])) (sym is) tt
    go (faults.NotATable at want found) stop stands is = as_said stop (brokens.Table at want found) stands is
    go (faults.Damaged d) stop stands is = as_said stop (brokens.File d) stands is
    go (faults.TooMany count) stop stands is = absurd is
    go faults.NoMemory stop stands is = subst (λ s. IsBrokenOf s h (name ∷ [])) (sym is) tt

-- ---- the datasets

pub datasets_at : (ks : List (List Pair)) (ps : List Place) → length ps ≡ length ks → datasets_of (asked_of_all ks (map seen_place ps)) ≡ datasets_in ps
datasets_at [] [] long = refl
datasets_at [] (p ∷ ps) long = absurd (omega (arith, long))
datasets_at (k ∷ ks) [] long = absurd (omega (arith, long))
datasets_at (k ∷ ks) (p ∷ ps) long = ap (λ ds. (seen_place p).dataset ∷ ds) (datasets_at ks ps (omega (arith, long)))

pub contains_among : (ds : List (List ℕ)) (d : List ℕ) → is_among ds d ≡ true → Contains ds d
contains_among [] d is = absurd cc
contains_among (x ∷ xs) d is = elim (is_or_not (bytes_eq d x)) [
  | inl same ↦ (0, omega arith, sym ((bytes_eq-Decides d x).0 same))
  | inr differs ↦ let later = contains_among xs d (sym (ap (λ b. b || is_among xs d) differs) ∙ is) in (suc later.0, (let lt = later.1 in omega (arith, lt)), later.2)
]

pub among_contained : (ds : List (List ℕ)) (d : List ℕ) → Contains ds d → is_among ds d ≡ true
among_contained [] d (k, lt, e) = absurd (omega (arith, lt))
among_contained (x ∷ xs) d (zero, lt, e) = ap (λ b. b || is_among xs d) ((bytes_eq-Decides d x).1 (sym e))
among_contained (x ∷ xs) d (suc k, lt, e) = or_true (bytes_eq d x) (is_among xs d) (among_contained xs d (k, omega (arith, lt), e))
  where
    or_true : (a b : Bool) → b ≡ true → (a || b) ≡ true
    or_true true b q = refl
    or_true false b q = q

module _ (h : Holdings) where
  pub among_found : (ds : List (List ℕ)) (d : List ℕ) → is_among ds d ≡ true → has_table h d ≡ true → is_among (filter (has_table h) ds) d ≡ true
  among_found [] d is has = absurd cc
  among_found (x ∷ xs) d is has = elim (is_or_not (bytes_eq d x)) [
    | inl same ↦
        let e : d ≡ x = (bytes_eq-Decides d x).0 same in
        ap (λ b. is_among (if b then x ∷ filter (has_table h) xs else filter (has_table h) xs) d) (ap (has_table h) (sym e) ∙ has) ∙ ap (λ b. b || is_among (filter (has_table h) xs) d) same
    | inr differs ↦
        let later = among_found xs d (sym (ap (λ b. b || is_among xs d) differs) ∙ is) has in
        elim (is_or_not (has_table h x)) [
          | inl there ↦ ap (λ b. is_among (if b then x ∷ filter (has_table h) xs else filter (has_table h) xs) d) there ∙ ap (λ b. b || is_among (filter (has_table h) xs) d) differs ∙ later
          | inr none ↦ ap (λ b. is_among (if b then x ∷ filter (has_table h) xs else filter (has_table h) xs) d) none ∙ later
        ]
  ]

  found_among : (ds : List (List ℕ)) (d : List ℕ) → is_among (filter (has_table h) ds) d ≡ true → is_among ds d ≡ true
  found_among [] d is = absurd cc
  found_among (x ∷ xs) d is = elim (is_or_not (bytes_eq d x)) [
    | inl same ↦ ap (λ b. b || is_among xs d) same
    | inr differs ↦
        ap (λ b. b || is_among xs d) differs ∙ found_among xs d (elim (is_or_not (has_table h x)) [
          | inl there ↦ sym (ap (λ b. is_among (if b then x ∷ filter (has_table h) xs else filter (has_table h) xs) d) there ∙ ap (λ b. b || is_among (filter (has_table h) xs) d) differs) ∙ is
          | inr none ↦ sym (ap (λ b. is_among (if b then x ∷ filter (has_table h) xs else filter (has_table h) xs) d) none) ∙ is
        ])
  ]

  pub named_among : (ds names : List (List ℕ)) (d : List ℕ) → AreTables h ds names → is_among names d ≡ true → is_among ds d ≡ true
  named_among ds names d tables is = found_among ds d (sym (tables.same d) ∙ is)

  -- ---- datasets that are opened, one after another

  pub none_open : AreOpen h [] []
  none_open = record { each = All-nil _; from = λ n is. is; all = λ n is has. is }

  among_one : (os : List Open) (o : Open) (n : List ℕ) → is_among (names_of (os ++ o ∷ [])) n ≡ (is_among (names_of os) n || (bytes_eq n o.name || false))
  among_one os o n = ap (λ l. is_among l n) (map-append (λ (x : Open). x.name) os (o ∷ [])) ∙ list_any-append (λ m. bytes_eq n m) (names_of os) (o.name ∷ [])

  pub among_last : (ns : List (List ℕ)) (m n : List ℕ) → is_among (ns ++ m ∷ []) n ≡ (is_among ns n || (bytes_eq n m || false))
  among_last ns m n = list_any-append (λ k. bytes_eq n k) ns (m ∷ [])

  pub or_either : (a b : Bool) → (a || (b || false)) ≡ true → (a ≡ true) ⊎ (b ≡ true)
  or_either true b e = inl refl
  or_either false true e = inr refl
  or_either false false e = absurd cc

  or_left : (a b : Bool) → a ≡ true → (a || (b || false)) ≡ true
  or_left true b e = refl
  or_left false b e = absurd cc

  or_right : (a b : Bool) → b ≡ true → (a || (b || false)) ≡ true
  or_right true b e = refl
  or_right false true e = refl
  or_right false false e = absurd cc

  pub open_more : (names : List (List ℕ)) (os after : List Open) (name : List ℕ) → AreOpen h names os → MayOpen h os name after → AreOpen h (names ++ name ∷ []) after
  open_more names os after name so_far (inl (o, is_open, named, is)) = subst (AreOpen h (names ++ name ∷ [])) (sym is) (record {
    each = All-append (IsOpenIn h) os (o ∷ []) so_far.each (All-cons (IsOpenIn h) o [] is_open (All-nil _));
    from = λ n there. elim (or_either (is_among (names_of os) n) (bytes_eq n o.name) (sym (among_one os o n) ∙ there)) [
      | inl old ↦ among_last names name n ∙ or_left (is_among names n) (bytes_eq n name) (so_far.from n old)
      | inr new ↦ among_last names name n ∙ or_right (is_among names n) (bytes_eq n name) (ap (bytes_eq n) (sym named) ∙ new)
    ];
    all = λ n there has. elim (or_either (is_among names n) (bytes_eq n name) (sym (among_last names name n) ∙ there)) [
      | inl old ↦ among_one os o n ∙ or_left (is_among (names_of os) n) (bytes_eq n o.name) (so_far.all n old has)
      | inr new ↦ among_one os o n ∙ or_right (is_among (names_of os) n) (bytes_eq n o.name) (ap (bytes_eq n) named ∙ new)
    ];
  })
  open_more names os after name so_far (inr (none, is)) = subst (AreOpen h (names ++ name ∷ [])) (sym is) (record {
    each = so_far.each;
    from = λ n there. among_last names name n ∙ or_left (is_among names n) (bytes_eq n name) (so_far.from n there);
    all = λ n there has. elim (or_either (is_among names n) (bytes_eq n name) (sym (among_last names name n) ∙ there)) [
      | inl old ↦ so_far.all n old has
      | inr new ↦ absurd (cc (none, sym (ap (has_table h) ((bytes_eq-Decides n name).0 new)) ∙ has))
    ];
  })

  -- ---- their tables

  open_table : (os : List Open) (d : List ℕ) → All (IsOpenIn h) os → is_among (names_of os) d ≡ true → table_in os d ≡ table_at h d
  open_table [] d each is = absurd cc
  open_table (o ∷ os) d each is = elim (is_or_not (bytes_eq d o.name)) [
    | inl same ↦
        let e : d ≡ o.name = (bytes_eq-Decides d o.name).0 same in
        ap (λ b. if b then table_of o else table_in os d) same ∙ (All-head (IsOpenIn h) o os each).held ∙ ap (table_at h) (sym e)
    | inr differs ↦
        ap (λ b. if b then table_of o else table_in os d) differs ∙ open_table os d (All-tail (IsOpenIn h) o os each) (sym (ap (λ b. b || is_among (names_of os) d) differs) ∙ is)
  ]

  pub closed_table : (os : List Open) (d : List ℕ) → is_among (names_of os) d ≡ false → table_in os d ≡ Some []
  closed_table [] d out = refl
  closed_table (o ∷ os) d out = elim (is_or_not (bytes_eq d o.name)) [
    | inl same ↦ absurd (cc (sym (ap (λ b. b || is_among (names_of os) d) same) ∙ out))
    | inr differs ↦ ap (λ b. if b then table_of o else table_in os d) differs ∙ closed_table os d (sym (ap (λ b. b || is_among (names_of os) d) differs) ∙ out)
  ]

  no_table : (d : List ℕ) → has_table h d ≡ false → table_at h d ≡ Some []
  no_table d none = go (folder_at h d).table none
    where
      go : (t : Option File) → is_some t ≡ false → held_by d (folder_at h d).files t ≡ Some []
      go None e = refl
      go (Some f) e = absurd cc

  pub table_is : (ds names : List (List ℕ)) (os : List Open) (d : List ℕ) → AreTables h ds names → AreOpen h names os → is_among ds d ≡ true → table_in os d ≡ table_at h d
  table_is ds names os d tables opens among = elim (is_or_not (is_among (names_of os) d)) [
    | inl there ↦ open_table os d opens.each there
    | inr out ↦
        let none : has_table h d ≡ false = elim (is_or_not (has_table h d)) [
          | inl has ↦ absurd (cc (out, opens.all d (tables.same d ∙ among_found ds d among has) has))
          | inr no_one ↦ no_one
        ] in
        closed_table os d out ∙ sym (no_table d none)
  ]

  -- ---- which of them are damaged

  undamaged_bare : (d : List ℕ) → has_table h d ≡ false → IsUndamaged d (folder_at h d)
  undamaged_bare d none = go (folder_at h d).table none
    where
      go : (t : Option File) → is_some t ≡ false → IfSome t (λ f. (es : List Entry) × (listed d f.reads ≡ Ok es) × (damages (folder_at h d).files es ≡ []))
      go None e = tt
      go (Some f) e = absurd cc

  -- none of those that have a table, and so none at all
  pub none_damaged : (ds names : List (List ℕ)) → AreTables h ds names → NoneIsDamaged h names → NoneIsDamaged h ds
  none_damaged ds names tables sound d among = elim (is_or_not (has_table h d)) [
    | inl has ↦ sound d (tables.same d ∙ among_found ds d among has)
    | inr none ↦ undamaged_bare d none
  ]

  pub none_damaged_more : (names : List (List ℕ)) (name : List ℕ) → NoneIsDamaged h names → IsUndamaged name (folder_at h name) → NoneIsDamaged h (names ++ name ∷ [])
  none_damaged_more names name so_far one n among = elim (or_either (is_among names n) (bytes_eq n name) (sym (among_last names name n) ∙ among)) [
    | inl old ↦ so_far n old
    | inr new ↦ subst (λ m. IsUndamaged m (folder_at h m)) (sym ((bytes_eq-Decides n name).0 new)) one
  ]

  -- ---- what is asked

  pub within : (asked : List Asked) (ds names : List (List ℕ)) → datasets_of asked ≡ ds → AreTables h ds names → length names ≤ 2048 → within_datasets h asked ≡ Ok asked
  within asked ds names is tables few =
      let c = tables.count in
      let same = ap (λ l. count_distinct (filter (has_table h) l)) is in
      let le : count_distinct (filter (has_table h) (datasets_of asked)) ≤ 2048 = omega (arith, c, same, few) in
      let no : nat_lt 2048 (count_distinct (filter (has_table h) (datasets_of asked))) ≡ false = grind (arith, nat_tests) in
      ap (λ b. if b then Err TooManyDatasets else Ok asked) no

  pub beyond : (asked : List Asked) (ds : List (List ℕ)) → datasets_of asked ≡ ds → 2048 < count_distinct (filter (has_table h) ds) → within_datasets h asked ≡ Err TooManyDatasets
  beyond asked ds is many =
      let same = ap (λ l. count_distinct (filter (has_table h) l)) is in
      let lt : 2048 < count_distinct (filter (has_table h) (datasets_of asked)) = omega (arith, same, many) in
      let yes : nat_lt 2048 (count_distinct (filter (has_table h) (datasets_of asked))) ≡ true = grind (arith, nat_tests) in
      ap (λ b. if b then Err TooManyDatasets else Ok asked) yes

  then_then : (rules : Result (List Rule) Cause) (keywords : Result (List Keyword) Cause) → (rules then λ rs. (keywords then λ ks. (placed rs (expand ks) then λ asked. within_datasets h asked))) ≡ ((rules then λ rs. (keywords then λ ks. placed rs (expand ks))) then λ asked. within_datasets h asked)
  then_then (Ok rs) (Ok ks) = refl
  then_then (Ok rs) (Err e) = refl
  then_then (Err e) keywords = refl

  pub asked_is : (input : List ℕ) → asked_of h input ≡ (placed_of h input then λ asked. within_datasets h asked)
  asked_is input = then_then (rules_of h.schema) (request_in input)

pub same_answers : (t u : Tables) (ks : List (List Pair)) (ps : List Place) → ((d : List ℕ) → is_among (datasets_in ps) d ≡ true → t d ≡ u d) → answers t (asked_of_all ks (map seen_place ps)) ≡ answers u (asked_of_all ks (map seen_place ps))
same_answers t u [] ps same = refl
same_answers t u (k ∷ ks) [] same = refl
same_answers t u (k ∷ ks) (p ∷ ps) same =
    let here : t (seen_place p).dataset ≡ u (seen_place p).dataset = same (seen_place p).dataset (ap (λ b. b || is_among (datasets_in ps) (seen_place p).dataset) ((bytes_eq-Decides (seen_place p).dataset (seen_place p).dataset).1 refl)) in
    let later = same_answers t u ks ps (λ d is. same d (or_true (bytes_eq d (seen_place p).dataset) (is_among (datasets_in ps) d) is)) in
    ap (λ o. all_answers (option_map (λ (x : List (List batches.Pair)). record { key = k; found = newest x (file_key (seen_place p)) }) o) (answers t (asked_of_all ks (map seen_place ps)))) here ∙ ap (all_answers (answer u (record { key = k; place = seen_place p }))) later
  where
    or_true : (a b : Bool) → b ≡ true → (a || b) ≡ true
    or_true true b e = refl
    or_true false b e = e
