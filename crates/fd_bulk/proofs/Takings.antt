-- What is stored as the fields are gone over.
use Rattle.std.proofs.Common.{◌≡◌, ℕ, ◌+◌, Bool, List, [], ◌∷◌, ◌++◌, length, Option, Some, None, Result, Ok, Err, refl, sym, ap, ap₂, subst, ◌∙◌, append_assoc, append-nil, arith, length-append}
use Rattle.fd_sections.specs.Frames.{frames}
use Rattle.fd_sections.specs.Splitting.{start}
use Rattle.fd_key.specs.Pairs.{Pair}
use Rattle.fd_schema.specs.Rules.{Rule}
use Rattle.fd_split.specs.declared.refusal.Refusal.{Refusal}
use Rattle.fd_stored.specs.Causes.{Cause, InStream}
use Rattle.fd_split.specs.Fields.{FieldList, Numbered, behind_fields}
use Rattle.fd_split.specs.Positions.{FieldsOn, Position, RefusesNext, at_message, fed_at, fields_from, skipped_from}
use Rattle.fd_stored.specs.Archiving.{Stored, Taken, before, datasets_in, ended, in_stream, stored_of, taken_after, taken_fields, taken_of_fields}
use Rattle.fd_bulk.specs.Taking.{Seen, StoredOn, StoresOn, behind, taken_from}

pub behind_both : (a b : List Stored) (t : Taken) → behind a (behind b t) ≡ behind (a ++ b) t
behind_both a b t = ap (λ (zs : List Stored). record { stored = zs; refusal = t.refusal; junk = t.junk; next = t.next }) (sym (append_assoc a b t.stored))

pub datasets_both : (xs ys : List Stored) → datasets_in (xs ++ ys) ≡ datasets_in xs ++ datasets_in ys
datasets_both [] ys = refl
datasets_both (x ∷ xs) ys = ap (λ (zs : List (List ℕ)). x.dataset ∷ zs) (datasets_both xs ys)

module _ (rules : List Rule) (given : List Pair) where
  -- ---- one step

  -- what is stored of fields, where they are these and others
  from_by : (ds : List (List ℕ)) (a b : Position) (fs : List Numbered) → FieldsOn a b fs → (past : Bool) (more : List ℕ) → taken_from rules given ds a past more ≡ taken_of_fields rules given ds (skipped_from b more) (behind_fields fs (fields_from b past more))
  from_by ds a b fs s past more = ap₂ (taken_of_fields rules given ds) (s.skips more) (s.joins past more)

  -- no field came
  pub stored_none : (ds : List (List ℕ)) (a b : Position) → FieldsOn a b [] → StoresOn rules given ds a b []
  stored_none ds a b s = record { is_fed = s.is_fed; on = λ past more. from_by ds a b [] s past more ∙ ap (λ (xs : List (List ℕ)). taken_from rules given xs b past more) (sym (append-nil ds)) }

  -- a field came, and is stored
  pub stored_one : (ds : List (List ℕ)) (a b : Position) (f : Numbered) (s : Stored) → FieldsOn a b (f ∷ []) → stored_of rules given ds f.number f.sections ≡ Ok s → StoresOn rules given ds a b (s ∷ [])
  stored_one ds a b f s t is = record {
    is_fed = t.is_fed;
    on = λ past more.
        from_by ds a b (f ∷ []) t past more
        ∙ ap (λ (r : Result Stored Cause). before f.number r (λ d. taken_fields rules given (ds ++ d ∷ []) (in_stream (fields_from b past more).refusal) (skipped_from b more) (fields_from b past more).next (fields_from b past more).fields)) is;
  }

  -- a field came that isn't stored, nor anything behind it
  pub refused_one : (ds : List (List ℕ)) (a b : Position) (f : Numbered) (cause : Cause) → FieldsOn a b (f ∷ []) → stored_of rules given ds f.number f.sections ≡ Err cause → (past : Bool) (more : List ℕ) → taken_from rules given ds a past more ≡ ended (Some cause) 0 f.number
  refused_one ds a b f cause t is past more =
      from_by ds a b (f ∷ []) t past more
      ∙ ap (λ (r : Result Stored Cause). before f.number r (λ d. taken_fields rules given (ds ++ d ∷ []) (in_stream (fields_from b past more).refusal) (skipped_from b more) (fields_from b past more).next (fields_from b past more).fields)) is

  -- the next message is refused
  pub refused_there : (ds : List (List ℕ)) (a : Position) (refusal : Refusal) (n : ℕ) → RefusesNext a refusal n → (past : Bool) (more : List ℕ) → taken_from rules given ds a past more ≡ ended (Some (InStream refusal)) (skipped_from a more) n
  refused_there ds a refusal n r past more = ap (taken_of_fields rules given ds (skipped_from a more)) (r.joins past more)

  -- ---- one part after another

  pub stores_more : (ds : List (List ℕ)) (a b c : Position) (ss ts : List Stored) → StoresOn rules given ds a b ss → StoresOn rules given (ds ++ datasets_in ss) b c ts → StoresOn rules given ds a c (ss ++ ts)
  stores_more ds a b c ss ts s t = record {
    is_fed = t.is_fed ∙ s.is_fed;
    on = λ past more.
        let names : (ds ++ datasets_in ss) ++ datasets_in ts ≡ ds ++ datasets_in (ss ++ ts) = append_assoc ds (datasets_in ss) (datasets_in ts) ∙ ap (λ (xs : List (List ℕ)). ds ++ xs) (sym (datasets_both ss ts)) in
        s.on past more
        ∙ ap (behind ss) (t.on past more)
        ∙ behind_both ss ts (taken_from rules given ((ds ++ datasets_in ss) ++ datasets_in ts) c past more)
        ∙ ap (λ (xs : List (List ℕ)). behind (ss ++ ts) (taken_from rules given xs c past more)) names;
  }

  pub stores_nothing : (ds : List (List ℕ)) (a : Position) → StoresOn rules given ds a a []
  stores_nothing ds a = record { is_fed = refl; on = λ past more. ap (λ (xs : List (List ℕ)). taken_from rules given xs a past more) (sym (append-nil ds)) }

  -- ---- pieces

  -- a piece came, as if it had come later
  pub piece_later : (ds : List (List ℕ)) (a : Position) (piece : List ℕ) (past : Bool) (more : List ℕ) → taken_from rules given ds (fed_at a piece) past more ≡ taken_from rules given ds a past (piece ++ more)
  piece_later ds a piece past more =
      ap (λ (x : List ℕ). taken_of_fields rules given ds (a.split.skipped + (frames x).skipped) (behind_fields (Rattle.fd_split.specs.Fields.all_numbered a.split.given a.rest) (Rattle.fd_split.specs.Fields.fields_after past a.split.given (frames x)))) (append_assoc a.split.rest piece more)

  pub seen_nothing : (a : Position) → a ≡ at_message start 0 → Seen rules given a [] []
  seen_nothing a e = subst (λ (b : Position). Seen rules given b [] []) (sym e) (record { is_fed = refl; on = λ past more. refl })

  pub seen_more : (a b : Position) (x y : List Stored) (seen piece : List ℕ) → Seen rules given a x seen → StoredOn rules given (fed_at a piece) b x y → Seen rules given b y (seen ++ piece)
  seen_more a b x y seen piece s t = subst (λ (ys : List Stored). Seen rules given b ys (seen ++ piece)) (sym t.adds) (record {
    is_fed = let is = s.is_fed in let size = t.on.is_fed in omega (arith, is, size, length-append seen piece);
    on = λ past more.
        ap (λ (z : List ℕ). taken_after rules given past [] 0 0 (frames z)) (append_assoc seen piece more)
        ∙ s.on past (piece ++ more)
        ∙ ap (behind x) (sym (piece_later (datasets_in x) a piece past more) ∙ t.on.on past more)
        ∙ behind_both x t.new (taken_from rules given (datasets_in x ++ datasets_in t.new) b past more)
        ∙ ap (λ (ds : List (List ℕ)). behind (x ++ t.new) (taken_from rules given ds b past more)) (sym (datasets_both x t.new));
  })
