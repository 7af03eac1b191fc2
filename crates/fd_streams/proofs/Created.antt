-- What `create` leaves of the store, and when it reads nothing.
use Rattle.std.proofs.Common.{◌≡◌, ◌∙◌, ℕ, true≢false, List, [], Option, Some, None, refl, sym, ap, subst, inl, inr, length, Vec, Global}
use Rattle.std.specs.Prelude.{◌⊎◌, IfSome, IsSome, Ok, is_ok, option_map}
use Rattle.fd_io.specs.Streams.{Gives}
use Rattle.fd_disk.specs.Folders.{Holdings, WhereTold, planted as stores}
use Rattle.fd_schema.specs.Rules.{Rule}
use Rattle.fd_schema.specs.Grammar.{schema_of}
use Rattle.fd_words.specs.declared.command.Command.TheVariants.{Create}
use Rattle.fd_outcome.specs.Noticing.{ReadsFitly}
use Rattle.fd_outcome.specs.Objects.{Object, object}
use Rattle.fd_streams.specs.Creating.{IsCreatedOnly}
use Rattle.fd_streams.proofs.CreatingLemmas.{text_read, whole_so}

-- ---- what is read

-- nothing was read
pub nothing_read : (root : List ℕ) (has now : Option Holdings) (sm sn : ℕ) (left : Option (List ℕ)) (n : ℕ) → ReadsFitly (Create root) (object has now sm sn) (object left left n n)
nothing_read root None now sm sn left n = tt
nothing_read root (Some h) now sm sn left n = λ unfit. record { same = refl; calm = refl }

-- there is no schema
pub fit : (root : List ℕ) (has now : Option Holdings) (sm sn : ℕ) (input : Object (List ℕ)) → IfSome has (λ h. h.schema ≡ None) → ReadsFitly (Create root) (object has now sm sn) input
fit root None now sm sn input none = tt
fit root (Some h) now sm sn input none = λ unfit. absurd (true≢false (sym (subst IsSome none unfit)))

-- what a store without a schema gives
pub none_there : (has : Option Holdings) (o : Option (Vec ℕ Global)) → o ≡ None → IfSome has (λ s. option_map (λ (v : Vec ℕ Global). v.items) o ≡ s.schema) → IfSome has (λ h. h.schema ≡ None)
none_there None o is given = tt
none_there (Some h) o is given = sym given ∙ ap (option_map (λ (v : Vec ℕ Global). v.items)) is

-- ---- what becomes of the store

abbrev pub Only : Option (List ℕ) → Option Holdings → Option Holdings → Type 0
Only input has now = IfSome input (λ octets. WhereTold has now (IsCreatedOnly octets))

pub same_only : (input : Option (List ℕ)) (has now : Option Holdings) → now ≡ has → Only input has now
same_only input has now same = subst (Only input has) (sym same) (go input has)
  where
    go : (i : Option (List ℕ)) (k : Option Holdings) → Only i k k
    go None k = tt
    go (Some octets) None = tt
    go (Some octets) (Some h) = inl refl

-- the store stood as before when this began
pub only_from : (input : Option (List ℕ)) (has between now : Option Holdings) → between ≡ has → Only input between now → Only input has now
only_from input has between now same only = subst (λ k. Only input k now) same only

module _ (input left : Option (List ℕ)) (text : List ℕ) (given : Gives input left text) (whole : IfSome input (λ (o : List ℕ). (left ≡ Some []) ⊎ (length text ≡ 65537))) (rules : List Rule) (is : schema_of text ≡ Ok rules) where
  -- the schema was stored
  pub planted_only : (has : Option Holdings) → IfSome has (λ h. h.schema ≡ None) → Only input has (option_map (stores text) has)
  planted_only has none = by input refl
    where
      at : (octets : List ℕ) → text ≡ octets → (k : Option Holdings) → IfSome k (λ h. h.schema ≡ None) → WhereTold k (option_map (stores text) k) (IsCreatedOnly octets)
      at octets same None none = tt
      at octets same (Some h) none = inr (none, ap is_ok (ap schema_of (sym same) ∙ is), ap (λ t. stores t h) same)

      by : (i : Option (List ℕ)) → input ≡ i → IfSome i (λ octets. WhereTold has (option_map (stores text) has) (IsCreatedOnly octets))
      by None e = tt
      by (Some octets) e =
          let read = text_read octets left text (subst (λ i. Gives i left text) e given) (subst (λ i. IfSome i (λ (o : List ℕ). (left ≡ Some []) ⊎ (length text ≡ 65537))) e whole) in
          at octets (whole_so octets left text rules read is).0 has none

  -- or it wasn't
  pub maybe_only : (has now : Option Holdings) → IfSome has (λ h. h.schema ≡ None) → (now ≡ has) ⊎ (now ≡ option_map (stores text) has) → Only input has now
  maybe_only has now none (inl same) = same_only input has now same
  maybe_only has now none (inr same) = subst (Only input has) (sym same) (planted_only has none)
