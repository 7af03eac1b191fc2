-- The texts that were noted are those of open datasets.
use Rattle.std.proofs.Common.{◌≡◌, inl, inr, ◌||◌, ℕ, true, false, Bool, List, [], ◌∷◌, ◌++◌, get_or, All, Contains, Option, Some, Ok, Err, Result, OnOk, refl, sym, ap, subst, ◌∙◌, arith, length-append}
use Rattle.std.proofs.lemmas.List.Elements.{All-cons, All-head, All-nil, All-tail}
use Rattle.std.proofs.lemmas.List.{get_or_append_left}
use Rattle.std.specs.Str.{bytes_eq}
use Rattle.fd_schema.specs.Reading.{seen_place}
use Rattle.fd_schema.specs.declared.place.Place.{Place}
use Rattle.fd_library.specs.Open.{among}
use Rattle.fd_stored.specs.Distinct.{is_among}
use Rattle.fd_sheets.specs.declared.sheets.Sheet.{Sheet}
use Rattle.fd_sheets.specs.declared.sheets.Unplaced.{Unplaced}
use Rattle.fd_sheets.specs.Names.{HasNoted, IsKnown}
use Rattle.fd_bulk.specs.Crewing.{AreMet}
use Rattle.fd_bulk.specs.Naming.{AreOpened, IsOpened, Notes}
use Rattle.fd_bulk.proofs.Texts.{is_among_push, texts_differ, true_or_false}

same_place : (p q : Place) (o : Option (Result Place Unplaced)) → o ≡ Some (Ok p) → o ≡ Some (Ok q) → p ≡ q
same_place p q o e f = cc

-- the dataset of a message that is known is open
pub known_open : (texts names : List (List ℕ)) (s : Sheet) (place : Place) → IsKnown texts s → AreOpened texts names → s.found ≡ Some (Ok place) → among (seen_place place).dataset names ≡ true
known_open texts names s place known opened found =
    let same : known.0 ≡ place = same_place known.0 place s.found known.1 found in
    let at = known.2 in
    subst (λ (p : Place). among (seen_place p).dataset names ≡ true) same (subst (λ (t : List ℕ). among t names ≡ true) at.2 (opened at.0 (seen_place known.0).dataset at.1))

-- a message that has no place isn't known
pub known_placed : (P : Type 0) (texts : List (List ℕ)) (s : Sheet) (why : Unplaced) → IsKnown texts s → s.found ≡ Some (Err why) → P
known_placed P texts s why known found = absurd (other known.0 s.found known.1 found)
  where
    other : (p : Place) (o : Option (Result Place Unplaced)) → o ≡ Some (Ok p) → o ≡ Some (Err why) → ⊥
    other p o e f = cc

stays_known : (before more : List (List ℕ)) (s : Sheet) → IsKnown before s → IsKnown (before ++ more) s
stays_known before more s known = (known.0, known.1, stays before known.2)
  where
    stays : (before : List (List ℕ)) → Contains before (seen_place known.0).dataset → Contains (before ++ more) (seen_place known.0).dataset
    stays before at = (at.0, omega (arith, at.1, length-append before more), get_or_append_left before more (seen_place known.0).dataset at.0 at.1 ∙ at.2)

all_pushed : (P : List ℕ → Type 0) (xs : List (List ℕ)) (x : List ℕ) → All P xs → P x → All P (xs ++ x ∷ [])
all_pushed P [] x all p = All-cons P x [] p (All-nil P)
all_pushed P (y ∷ ys) x all p = All-cons P y (ys ++ x ∷ []) (All-head P y ys all) (all_pushed P ys x (All-tail P y ys all) p)

all_on : (texts old new : List (List ℕ)) → ((n : List ℕ) → among n old ≡ true → among n new ≡ true) → AreOpened texts old → AreOpened texts new
all_on texts old new stay all = λ i d lt. stay (get_or texts i d) (all i d lt)

-- a message was dealt whose dataset's text was noted
pub noted : (text : List ℕ) (before after old new : List (List ℕ)) → HasNoted text before after → IsOpened text old new → Notes before after old new
noted text before after old new (inl h) is = record {
  known = λ s k. subst (λ (ts : List (List ℕ)). IsKnown ts s) (sym h.0) k;
  opened = λ all. subst (λ (ts : List (List ℕ)). AreOpened ts new) (sym h.0) (all_on before old new is.stay all);
}
noted text before after old new (inr h) is = record {
  known = λ s k. subst (λ (ts : List (List ℕ)). IsKnown ts s) (sym h) (stays_known before (text ∷ []) s k);
  opened = λ all. subst (λ (ts : List (List ℕ)). AreOpened ts new) (sym h) (all_pushed (λ t. among t new ≡ true) before text (all_on before old new is.stay all) is.opened);
}

pub notes_of : {A E : Type 0} (before after : List (List ℕ)) (text : List ℕ) (old new : List (List ℕ)) → HasNoted text before after → (result : Result A E) → OnOk result (IsOpened text old new) → OnOk result (Notes before after old new)
notes_of before after text old new h (Ok done) is = noted text before after old new h is
notes_of before after text old new h (Err why) is = tt

pub notes_none : (texts names : List (List ℕ)) → Notes texts texts names names
notes_none texts names = record { known = λ s k. k; opened = λ all. all }

pub notes_more : (a b c old mid new : List (List ℕ)) → Notes a b old mid → Notes b c mid new → Notes a c old new
notes_more a b c old mid new n m = record { known = λ s k. m.known s (n.known s k); opened = λ all. m.opened (n.opened all) }

pub known_all : (a b old new : List (List ℕ)) (ss : List Sheet) → Notes a b old new → All (IsKnown a) ss → All (IsKnown b) ss
known_all a b old new ss n all = λ i d lt. n.known (get_or ss i d) (all i d lt)

or_yes : (a b : Bool) → b ≡ true → (a || b) ≡ true
or_yes true b h = refl
or_yes false b h = h

same_text : (n : List ℕ) → bytes_eq n n ≡ true
same_text n = elim (true_or_false (bytes_eq n n)) [ inl h ↦ h | inr h ↦ absurd (texts_differ n n h refl) ]

-- the datasets of more messages are open
pub met_more : (datasets : List (List ℕ)) (name : List ℕ) (old new : List (List ℕ)) → AreMet datasets old → AreMet (datasets ++ name ∷ []) new → IsOpened name old new
met_more datasets name old new m n = record {
  opened = sym (n.among_is name) ∙ last datasets;
  stay = λ t is. sym (n.among_is t) ∙ front datasets t (m.among_is t ∙ is);
}
  where
    last : (ds : List (List ℕ)) → is_among (ds ++ name ∷ []) name ≡ true
    last ds = is_among_push ds name name ∙ or_yes (is_among ds name) (bytes_eq name name) (same_text name)

    front : (ds : List (List ℕ)) (t : List ℕ) → is_among ds t ≡ true → is_among (ds ++ name ∷ []) t ≡ true
    front ds t is = is_among_push ds name t ∙ ap (λ (b : Bool). b || bytes_eq t name) is

pub none_opened : (texts names : List (List ℕ)) → texts ≡ [] → AreOpened texts names
none_opened texts names is = subst (λ (ts : List (List ℕ)). AreOpened ts names) (sym is) (All-nil (λ t. among t names ≡ true))
