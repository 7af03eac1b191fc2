-- The exits of `create`.
use Rattle.std.proofs.Common.{◌≡◌, ◌∙◌, ℕ, Bool, true, false, List, [], Option, Some, None, refl, sym, ap, subst, inl, inr, length, Vec, Global, ◌≤◌, arith}
use Rattle.std.specs.Prelude.{◌⊎◌, IfSome, option_map, Ok, Err, codes, if◌then◌else◌}
use Rattle.fd_listing.specs.Lines.{line}
use Rattle.fd_bytes.specs.Causes.{Rose}
use Rattle.fd_io.specs.Streams.{Gives, Takes}
use Rattle.fd_disk.specs.Folders.{Holdings, WhereTold, planted as stores}
use Rattle.fd_schema.specs.Rules.{Rule}
use Rattle.fd_schema.specs.Grammar.{Fault, schema_of}
use Rattle.fd_words.specs.declared.command.Command.TheVariants.{Create}
use Rattle.fd_stored.specs.declared.status.Status.{Status}
use Rattle.fd_stored.specs.declared.status.Status.TheVariants.{Done, Missed, Words, Refused, InputFault, OutputFault, DiskFault, NoMemory, Damaged, Limit}
use Rattle.fd_outcome.specs.Told.{Told, ToldOrNoMemory}
use Rattle.fd_stored.specs.Causes.{Telling, InSchema, SchemaPresent, telling, is_schema_limit, schema_limit, schema_place, refused_so, table_full}
use Rattle.fd_outcome.specs.Outcome.{refused, created, planted, outcome, early}
use Rattle.fd_stored.specs.Store.{Plants}
use Rattle.fd_outcome.specs.Ends.{Calm, Leaves, LeavesSchema, ReadsOut, WhereAsked, troubles, input_failed, disk_failed, no_memory}
use Rattle.fd_outcome.specs.Objects.{Object, object, failures}
use Rattle.fd_outcome.specs.Ran.{Ran}
use Rattle.fd_streams.specs.Creating.{IsSchemaText}
use Rattle.fd_outcome.proofs.Asked.{where_asked}
use Rattle.fd_outcome.proofs.Endings.{CanTell, ends_more}
use Rattle.fd_outcome.proofs.Leaving.{stays, stays_folder}
use Rattle.fd_streams.proofs.CreatingLemmas.{text_read, whole_so, refused_so as refused_text}
use Rattle.fd_outcome.proofs.Exits.{Either, stop_ran, line_ran, is_words, is_input_fault, is_output_fault, is_disk_fault, is_whole, apart}

abbrev pub created_line : List ℕ
created_line = line (codes "created")

module _ (root : List ℕ) (has : Option Holdings) (sm sn : ℕ) (input left : Option (List ℕ)) (im jn : ℕ) (a : Option (List ℕ)) (k : ℕ) (c d : Option (List ℕ)) (m n : ℕ) (result : Status) where
  abbrev pub RanTo : Option Holdings → Type 0
  RanTo has' = Ran (Create root) result (object has has' sm sn) (object input left im jn) (object a a k k) (object c d m n)

  abbrev LeavesIt : Status → Holdings → Holdings → Type 0
  LeavesIt r h i = Leaves (Create root) r (¬ (Rose sm sn)) (Takes c d table_full) input left h i

  same_leaves : (s : Status) → ((octets : List ℕ) (h : Holdings) → LeavesSchema s octets h h) → (r : Status) → Either s r → WhereTold has has (LeavesIt r)
  same_leaves s ok r e = go has input
    where
      one : (octets : List ℕ) (h : Holdings) → LeavesSchema r octets h h
      one octets h = elim e as (λ _. LeavesSchema r octets h h) [ inl is ↦ subst (λ x. LeavesSchema x octets h h) (sym is) (ok octets h) | inr is ↦ subst (λ x. LeavesSchema x octets h h) (sym is) (inl (stays h)) ]

      go : (k : Option Holdings) (i : Option (List ℕ)) → WhereTold k k (λ h j. IfSome i (λ octets. LeavesSchema r octets h j))
      go None i = tt
      go (Some h) None = tt
      go (Some h) (Some octets) = one octets h

  -- the store stands still, and the run stops
  pub input_stop : Told InputFault input_failed result c d m n → Rose im jn → RanTo has
  input_stop told rose = stop_ran (Create root) InputFault result input_failed (object has has sm sn) (object input left im jn) (object c d m n) a k told (λ t. tt) (same_leaves InputFault (λ octets h. stays h)) (λ octets h i names. (rose, refl)) refl refl refl (λ e. rose) (λ e. absurd (apart is_disk_fault InputFault DiskFault refl refl e))

  pub memory_stop : Told NoMemory no_memory result c d m n → RanTo has
  memory_stop told = stop_ran (Create root) NoMemory result no_memory (object has has sm sn) (object input left im jn) (object c d m n) a k told (λ t. tt) (same_leaves NoMemory (λ octets h. stays h)) (λ octets h i names. refl) refl refl refl (λ e. absurd (apart is_input_fault NoMemory InputFault refl refl e)) (λ e. absurd (apart is_disk_fault NoMemory DiskFault refl refl e))

  disk_stop_to : (has' : Option Holdings) → ((r : Status) → Either DiskFault r → WhereTold has has' (LeavesIt r)) → Told DiskFault disk_failed result c d m n → Rose sm sn → RanTo has'
  disk_stop_to has' leaves told rose = stop_ran (Create root) DiskFault result disk_failed (object has has' sm sn) (object input left im jn) (object c d m n) a k told (λ t. tt) leaves (λ octets h i names. (tt, rose, refl)) refl refl refl (λ e. absurd (apart is_input_fault DiskFault InputFault refl refl e)) (λ e. rose)

  pub disk_stop : Told DiskFault disk_failed result c d m n → Rose sm sn → RanTo has
  disk_stop told rose = disk_stop_to has (same_leaves DiskFault (λ octets h. inl (stays h))) told rose

  both : (has' : Option Holdings) (P : List ℕ → Holdings → Holdings → Type 0) → ((octets : List ℕ) (h i : Holdings) → input ≡ Some octets → has ≡ Some h → P octets h i) → WhereAsked (Create root) input has has' P
  both has' P all = go input has has' refl refl
    where
      go : (i : Option (List ℕ)) (k k' : Option Holdings) → input ≡ i → has ≡ k → IfSome i (λ octets. IfSome k (λ h. IfSome k' (P octets h)))
      go None k k' e f = tt
      go (Some octets) None k' e f = tt
      go (Some octets) (Some h) None e f = tt
      go (Some octets) (Some h) (Some i) e f = all octets h i e f

  not_whole : (s : Status) → is_whole s ≡ false → ((s ≡ Done) ⊎ (s ≡ Missed)) → ReadsOut (Create root) input left
  not_whole s no_one e = absurd (elim e as (λ _. ⊥) [ inl x ↦ apart is_whole s Done no_one refl x | inr x ↦ apart is_whole s Missed no_one refl x ])

  -- a refusal, by a status with its line
  pub refuse : (x : Telling) → ((x.status ≡ Refused) ⊎ (x.status ≡ Limit)) → jn ≡ im → Told x.status x.line result c d m n
      → ((octets : List ℕ) (h : Holdings) → input ≡ Some octets → has ≡ Some h → created h.schema octets ≡ record { output = []; report = x.line; status = x.status }) → RanTo has
  refuse x which calm told is = line_ran (Create root) x.status result x.line (object has has sm sn) (object input left im jn) (object c d m n) a k told
      (λ t. by (λ s. Calm (Create root) s (object input left im jn) (object a a k k) (object c d m n)) (calm, refl) (inl (calm, refl)))
      (same_leaves x.status (λ octets h. by (λ s. LeavesSchema s octets h h) (stays h) (stays h)))
      (record { output = []; report = x.line; status = x.status }) refl refl refl (by CanTell tt tt)
      (both has _ (λ octets h i e f names. ap (λ o. Some o) (is octets h e f)))
      (by (λ s. is_words s ≡ false) refl refl) (by (λ s. is_input_fault s ≡ false) refl refl) (by (λ s. is_output_fault s ≡ false) refl refl) (by (λ s. is_disk_fault s ≡ false) refl refl)
      (not_whole x.status (by (λ s. is_whole s ≡ false) refl refl))
    where
      by : (P : Status → Type 0) → P Refused → P Limit → P x.status
      by P p q = elim which as (λ _. P x.status) [ inl e ↦ subst P (sym e) p | inr e ↦ subst P (sym e) q ]

  -- there is a schema
  pub present : jn ≡ im → Told Refused (refused SchemaPresent).report result c d m n → ((h : Holdings) → has ≡ Some h → (text : List ℕ) × (h.schema ≡ Some text)) → RanTo has
  present calm told there = refuse (telling SchemaPresent) (inl refl) calm told (λ octets h e f. let t = there h f in ap (λ s. created s octets) t.1)

  module _ (text : List ℕ) (given : Gives input left text) (whole : IfSome input (λ (o : List ℕ). (left ≡ Some []) ⊎ (length text ≡ 65537))) (none : IfSome has (λ h. h.schema ≡ None)) (calm : jn ≡ im) where
    schema_none : (h : Holdings) → has ≡ Some h → h.schema ≡ None
    schema_none h e = subst (λ k. IfSome k (λ j. j.schema ≡ None)) e none

    text_is : (octets : List ℕ) → input ≡ Some octets → IsSchemaText octets left text
    text_is octets e = text_read octets left text (subst (λ i. Gives i left text) e given) (subst (λ i. IfSome i (λ (o : List ℕ). (left ≡ Some []) ⊎ (length text ≡ 65537))) e whole)

    -- the text is no schema
    pub bad : (fault : Fault) → schema_of text ≡ Err fault → ToldOrNoMemory (telling (InSchema text fault)).status (telling (InSchema text fault)).line result c d m n → RanTo has
    bad fault is told = elim told as (λ _. RanTo has) [
      | inl t ↦ refuse (telling (InSchema text fault)) (status_is (is_schema_limit fault.kind)) calm t
          (λ octets h e f. ap (λ s. created s octets) (schema_none h f) ∙ refused_text octets left text fault (text_is octets e) is)
      | inr t ↦ memory_stop t
    ]
      where
        status_is : (b : Bool) → ((if b then schema_limit text fault else refused_so (schema_place text fault)).status ≡ Refused) ⊎ ((if b then schema_limit text fault else refused_so (schema_place text fault)).status ≡ Limit)
        status_is true = inr refl
        status_is false = inl refl

    module _ (rules : List Rule) (is : schema_of text ≡ Ok rules) where
      all_read : (octets : List ℕ) → input ≡ Some octets → (text ≡ octets) × (left ≡ Some [])
      all_read octets e = whole_so octets left text rules (text_is octets e) is

      plants : (octets : List ℕ) (h : Holdings) → input ≡ Some octets → has ≡ Some h → Plants octets h (stores text h)
      plants octets h e f = record { none = schema_none h f; schema = ap (λ t. Some t) (all_read octets e).0; folders = λ name. stays_folder name _ }

      planted_leaves : (r : Status) → ((octets : List ℕ) (h : Holdings) → Plants octets h (stores text h) → LeavesSchema r octets h (stores text h)) → WhereTold has (option_map (stores text) has) (LeavesIt r)
      planted_leaves r ok = go has input refl refl
        where
          go : (k : Option Holdings) (i : Option (List ℕ)) → has ≡ k → input ≡ i → WhereTold k (option_map (stores text) k) (λ h j. IfSome i (λ octets. LeavesSchema r octets h j))
          go None i f e = tt
          go (Some h) None f e = tt
          go (Some h) (Some octets) f e = ok octets h (plants octets h e f)

      pub done : Told Done created_line result c d m n → RanTo (option_map (stores text) has)
      done told = line_ran (Create root) Done result created_line (object has (option_map (stores text) has) sm sn) (object input left im jn) (object c d m n) a k told (λ t. (calm, refl))
          (λ r e. planted_leaves r (λ octets h p. elim e as (λ _. LeavesSchema r octets h (stores text h)) [ inl x ↦ subst (λ s. LeavesSchema s octets h (stores text h)) (sym x) p | inr x ↦ subst (λ s. LeavesSchema s octets h (stores text h)) (sym x) (inr p) ]))
          (record { output = []; report = created_line; status = Done }) refl refl refl tt
          (both (option_map (stores text) has) _ (λ octets h i e f names. ap (λ o. Some o) (ap (λ s. created s octets) (schema_none h f) ∙ ap (planted octets) (ap schema_of (sym (all_read octets e).0) ∙ is))))
          refl refl refl refl (λ e. read_out input refl)
        where
          read_out : (i : Option (List ℕ)) → input ≡ i → IfSome i (λ octets. left ≡ Some [])
          read_out None e = tt
          read_out (Some octets) e = (all_read octets e).1

      pub failed : (has' : Option Holdings) → (has' ≡ has) ⊎ (has' ≡ option_map (stores text) has) → Told DiskFault disk_failed result c d m n → Rose sm sn → RanTo has'
      failed has' (inl same) told rose = subst RanTo (sym same) (disk_stop told rose)
      failed has' (inr same) told rose = subst RanTo (sym same) (disk_stop_to (option_map (stores text) has)
          (λ r e. planted_leaves r (λ octets h p. elim e as (λ _. LeavesSchema r octets h (stores text h)) [ inl x ↦ subst (λ s. LeavesSchema s octets h (stores text h)) (sym x) (inr p) | inr x ↦ subst (λ s. LeavesSchema s octets h (stores text h)) (sym x) (inr p) ]))
          told rose)

-- ---- the same where the store was called and stands as it was
module _ (root : List ℕ) (has : Option Holdings) (sm sn : ℕ) (input left : Option (List ℕ)) (im jn : ℕ) (a : Option (List ℕ)) (k : ℕ) (c d : Option (List ℕ)) (m n : ℕ) (result : Status) (has' : Option Holdings) (same : has' ≡ has) where
  abbrev pub To : Option Holdings → Type 0
  To = RanTo root has sm sn input left im jn a k c d m n result

  pub disk_stop_at : Told DiskFault disk_failed result c d m n → Rose sm sn → To has'
  disk_stop_at told rose = subst To (sym same) (disk_stop root has sm sn input left im jn a k c d m n result told rose)

  pub memory_stop_at : Told NoMemory no_memory result c d m n → To has'
  memory_stop_at told = subst To (sym same) (memory_stop root has sm sn input left im jn a k c d m n result told)

  pub present_at : jn ≡ im → Told Refused (refused SchemaPresent).report result c d m n → (text : Vec ℕ Global) → IfSome has (λ s. option_map (λ (v : Vec ℕ Global). v.items) (Some text) ≡ s.schema) → To has'
  present_at calm told text given = subst To (sym same) (present root has sm sn input left im jn a k c d m n result calm told (λ h e. (text.items, sym (subst (λ k. IfSome k (λ s. option_map (λ (v : Vec ℕ Global). v.items) (Some text) ≡ s.schema)) e given))))

-- ---- calls of the store before

pub rose_later : (m k n : ℕ) → m ≤ k → Rose k n → Rose m n
rose_later m k n le rose = λ lt. let later = rose lt in omega (arith, le, later)

pub earlier : (root : List ℕ) (s : Status) (h h' i : Option Holdings) (m k n : ℕ) (input output report : Object (List ℕ)) → h' ≡ h → m ≤ k → Ran (Create root) s (object h' i k n) input output report → Ran (Create root) s (object h i m n) input output report
earlier root s h h' i m k n input output report same le r = subst (λ x. Ran (Create root) s (object x i m n) input output report) same (record {
  ends = where_asked _ _ (λ octets j j' ends names an. ends_more (failures (object h' i k n) input output report) (failures (object h' i m n) input output report)
      (troubles (Create root) (failures (object h' i k n) input output report) j j' names octets) (troubles (Create root) (failures (object h' i m n) input output report) j j' names octets)
      output.before output.now report.before report.now (early (Create root) j names octets) (λ x. x) (λ x. x) (λ x. x) (λ t text x. more j j' names octets t text x) (outcome (Create root) j names octets) s (ends names an))
      (Create root) input.before h' i r.ends;
  store_is = r.store_is;
  words = r.words;
  to_end = r.to_end;
  calm = r.calm;
  input_fault = r.input_fault;
  output_fault = r.output_fault;
  disk_fault = λ e. rose_later m k n le (r.disk_fault e);
})
  where
    more : (j j' : Holdings) (names : List (List ℕ)) (octets : List ℕ) (t : Status) (text : List ℕ)
        → troubles (Create root) (failures (object h' i k n) input output report) j j' names octets t text → troubles (Create root) (failures (object h' i m n) input output report) j j' names octets t text
    more j j' names octets Done text x = x
    more j j' names octets Missed text x = x
    more j j' names octets Words text x = x
    more j j' names octets Refused text x = x
    more j j' names octets InputFault text x = x
    more j j' names octets OutputFault text x = x
    more j j' names octets DiskFault text x = (x.0, rose_later m k n le x.1, x.2)
    more j j' names octets NoMemory text x = x
    more j j' names octets Damaged text x = x
    more j j' names octets Limit text x = x
