-- How files go one after the other.
use Rattle.std.proofs.Common.{◌≡◌, ◌⊎◌, inl, inr, ◌||◌, ◌&&◌, ◌==◌, not, ℕ, ◌<◌, ◌≤◌, ◌+◌, Bool, true, false, if◌then◌else◌, List, [], ◌∷◌, ◌++◌, take, length, get_or, Option, Some, None, Result, Ok, Err, OnOk, OnErr, option_map, zero, suc, refl, sym, ◌∙◌, ap, subst, arith}
use Rattle.std.proofs.lemmas.Bool.Decides.{Decides-eqb}
use Rattle.std.proofs.lemmas.List.{take_all, take_more}
use Rattle.fd_disk.specs.declared.file.File.{File}
use Rattle.fd_disk.specs.declared.folders.FileName.{FileName}
use Rattle.fd_disk.specs.declared.folders.FileKind.{FileKind}
use Rattle.fd_disk.specs.declared.folders.FileKind.TheVariants.{Fields, Index}
use Rattle.fd_disk.specs.Folders.{Contents, Left, IsTableLeft, with_table}
use Rattle.fd_disk.specs.Names.{name_of, same_kind, same_name}
use Rattle.fd_disk.specs.Renewals.{GoesOn, IsLeftBetween, MayLeaveFolder, removed}
use Rattle.fd_disk.proofs.NameLemmas.{both_true, is_or_not, same_name_is}
use Rattle.fd_entries.specs.declared.table.Entry.{Entry}
use Rattle.fd_purge.specs.Purging.{are_named, is_gone, names, without}
use Rattle.fd_purge.specs.Carrying.{IsMidway, LeavesMidway, IsThinnerOf, LeavesThinnerOf, thinned_by}

abbrev pub Filing : Type 0
Filing = FileName → Option (List ℕ)

-- ---- names

pub names_is : (e : Entry) (n : FileName) → names e n ≡ true → n ≡ name_of e.writer e.seq n.kind
names_is e n is =
    let parts = both_true (e.writer == n.writer) (e.seq == n.seq) is in
    let w : e.writer ≡ n.writer = (Decides-eqb e.writer n.writer).0 parts.0 in
    let s : e.seq ≡ n.seq = (Decides-eqb e.seq n.seq).0 parts.1 in
    λ j. record { writer = sym w j; seq = sym s j; kind = n.kind }

pub names_own : (e : Entry) (kind : FileKind) → names e (name_of e.writer e.seq kind) ≡ true
names_own e kind = ap (λ (b : Bool). b && (e.seq == e.seq)) ((Decides-eqb e.writer e.writer).1 refl) ∙ (Decides-eqb e.seq e.seq).1 refl

pub named_append : (es : List Entry) (e : Entry) (n : FileName) → are_named (es ++ e ∷ []) n ≡ (are_named es n || names e n)
named_append [] e n = last (names e n)
  where
    last : (b : Bool) → (b || false) ≡ b
    last true = refl
    last false = refl
named_append (x ∷ es) e n = ap (λ (b : Bool). names x n || b) (named_append es e n) ∙ assoc (names x n) (are_named es n) (names e n)
  where
    assoc : (a b c : Bool) → (a || (b || c)) ≡ ((a || b) || c)
    assoc true b c = refl
    assoc false b c = refl

-- no file of the entry is named
abbrev pub IsUnnamed : List Entry → Entry → Type 0
IsUnnamed es e = (kind : FileKind) → are_named es (name_of e.writer e.seq kind) ≡ false

unnamed_at : (es : List Entry) (e : Entry) (n : FileName) → IsUnnamed es e → names e n ≡ true → are_named es n ≡ false
unnamed_at es e n un is = subst (λ m. are_named es m ≡ false) (sym (names_is e n is)) (un n.kind)

-- ---- both files of an entry

one_gone : (c : Bool) (k : FileKind) (f : Option (List ℕ)) → (if c && same_kind Index k then None else (if c && same_kind Fields k then None else f)) ≡ (if (c || false) && not false then None else f)
one_gone true Fields f = refl
one_gone true Index f = refl
one_gone false Fields f = refl
one_gone false Index f = refl

pub both_removed : (e : Entry) (v : Contents) → removed (name_of e.writer e.seq Index) (removed (name_of e.writer e.seq Fields) v) ≡ thinned_by (e ∷ []) [] v
both_removed e v = λ j. record { table = v.table; files = λ m. one_gone ((e.writer == m.writer) && (e.seq == m.seq)) m.kind (v.files m) j }

pub both_removed_of : (e : Entry) (a b c : Option Contents) → b ≡ option_map (removed (name_of e.writer e.seq Fields)) a → c ≡ option_map (removed (name_of e.writer e.seq Index)) b → c ≡ option_map (thinned_by (e ∷ []) []) a
both_removed_of e None b c first second = second ∙ ap (option_map (removed (name_of e.writer e.seq Index))) first
both_removed_of e (Some v) b c first second = second ∙ ap (option_map (removed (name_of e.writer e.seq Index))) first ∙ ap Some (both_removed e v)

-- ---- datasets that are thinner

pub thinner_same : (dropped kept : List Entry) (a : Option Contents) → IsThinnerOf dropped kept a a
thinner_same dropped kept (Some v) = record { table = refl; files = λ n. inl refl }
thinner_same dropped kept None = refl

removed_at : (dropped kept : List Entry) (f n : FileName) (old now : Option (List ℕ)) → is_gone dropped kept f ≡ true → (now ≡ old) ⊎ ((is_gone dropped kept n ≡ true) × (now ≡ None))
    → ((if same_name f n then None else now) ≡ old) ⊎ ((is_gone dropped kept n ≡ true) × ((if same_name f n then None else now) ≡ None))
removed_at dropped kept f n old now gone is = elim (is_or_not (same_name f n)) [
  | inl same ↦ inr (subst (λ m. is_gone dropped kept m ≡ true) (same_name_is f n same) gone, ap (λ (b : Bool). if b then None else now) same)
  | inr other ↦ elim is [
    | inl here ↦ inl (ap (λ (b : Bool). if b then None else now) other ∙ here)
    | inr away ↦ inr (away.0, ap (λ (b : Bool). if b then None else now) other ∙ away.1)
  ]
]

pub thinner_removed : (dropped kept : List Entry) (f : FileName) (a b : Option Contents) → is_gone dropped kept f ≡ true → IsThinnerOf dropped kept a b → IsThinnerOf dropped kept a (option_map (removed f) b)
thinner_removed dropped kept f None b gone is = ap (option_map (removed f)) is
thinner_removed dropped kept f (Some v) None gone is = is
thinner_removed dropped kept f (Some v) (Some w) gone is = record { table = is.table; files = λ n. removed_at dropped kept f n (v.files n) (w.files n) gone (is.files n) }

pub thinner_left : (dropped kept : List Entry) (a b : Option Contents) (left : Left) → IsThinnerOf dropped kept a b → MayLeaveFolder b left → LeavesThinnerOf dropped kept a left
thinner_left dropped kept None b left is image = subst (λ o. MayLeaveFolder o left) is image
thinner_left dropped kept (Some v) None left is image = absurd is
thinner_left dropped kept (Some v) (Some w) left is image = record {
  table = subst (λ t. IsTableLeft t left.table) is.table image.table;
  files = λ n. elim (is.files n) [ inl same ↦ inl (image.files n ∙ same) | inr gone ↦ inr (gone.0, image.files n ∙ gone.1) ];
}

-- what is left while a file goes
pub between_left : (dropped kept : List Entry) (f : FileName) (a b : Option Contents) (left : Left) → is_gone dropped kept f ≡ true → IsThinnerOf dropped kept a b
    → IsLeftBetween b (option_map (removed f) b) left → LeavesThinnerOf dropped kept a left
between_left dropped kept f a b left gone is (inl image) = thinner_left dropped kept a b left is image
between_left dropped kept f a b left gone is (inr image) = thinner_left dropped kept a (option_map (removed f) b) left (thinner_removed dropped kept f a b gone is) image

-- one file more is gone, or not
pub thinner_by_one : (dropped kept : List Entry) (f : FileName) (a b c : Option Contents) → is_gone dropped kept f ≡ true → IsThinnerOf dropped kept a b → (c ≡ b) ⊎ (c ≡ option_map (removed f) b) → IsThinnerOf dropped kept a c
thinner_by_one dropped kept f a b c gone is (inl same) = subst (IsThinnerOf dropped kept a) (sym same) is
thinner_by_one dropped kept f a b c gone is (inr away) = subst (IsThinnerOf dropped kept a) (sym away) (thinner_removed dropped kept f a b gone is)

-- the files of an entry are gone where it is dropped and no kept one names them
pub own_gone : (kept : List Entry) (e : Entry) (kind : FileKind) → IsUnnamed kept e → is_gone (e ∷ []) kept (name_of e.writer e.seq kind) ≡ true
own_gone kept e kind un = ap (λ (b : Bool). (b || false) && not (are_named kept (name_of e.writer e.seq kind))) (names_own e kind) ∙ ap not (un kind)

one_unnamed : (b k : Bool) (f : Option (List ℕ)) → (b ≡ true → k ≡ false) → (if (b || false) && not false then None else f) ≡ (if (b || false) && not k then None else f)
one_unnamed true true f h = absurd (cc (h refl))
one_unnamed true false f h = refl
one_unnamed false k f h = refl

pub own_removed : (kept : List Entry) (e : Entry) (a b c : Option Contents) → IsUnnamed kept e → b ≡ option_map (removed (name_of e.writer e.seq Fields)) a → c ≡ option_map (removed (name_of e.writer e.seq Index)) b → c ≡ option_map (thinned_by (e ∷ []) kept) a
own_removed kept e a b c un first second = both_removed_of e a b c first second ∙ go a
  where
    go : (o : Option Contents) → option_map (thinned_by (e ∷ []) []) o ≡ option_map (thinned_by (e ∷ []) kept) o
    go None = refl
    go (Some v) = λ j. Some (record { table = v.table; files = λ n. one_unnamed (names e n) (are_named kept n) (v.files n) (unnamed_at kept e n un) j })

one_kept : (b k : Bool) (f : Option (List ℕ)) → (b ≡ true → k ≡ true) → f ≡ (if (b || false) && not k then None else f)
one_kept true true f h = refl
one_kept true false f h = absurd (cc (h refl))
one_kept false k f h = refl

-- nothing goes where a kept entry names the files
pub none_removed : (kept : List Entry) (e : Entry) (a : Option Contents) → ((kind : FileKind) → are_named kept (name_of e.writer e.seq kind) ≡ true) → a ≡ option_map (thinned_by (e ∷ []) kept) a
none_removed kept e None named = refl
none_removed kept e (Some v) named = λ j. Some (record { table = v.table; files = λ n. one_kept (names e n) (are_named kept n) (v.files n) (λ is. subst (λ m. are_named kept m ≡ true) (sym (names_is e n is)) (named n.kind)) j })

in_gone : (dropped kept : List Entry) (e : Entry) (n : FileName) → ((m : FileName) → names e m ≡ true → are_named dropped m ≡ true) → is_gone (e ∷ []) kept n ≡ true → is_gone dropped kept n ≡ true
in_gone dropped kept e n inside gone = go (names e n) (are_named kept n) (inside n) gone
  where
    go : (b k : Bool) → (b ≡ true → are_named dropped n ≡ true) → ((b || false) && not k) ≡ true → (are_named dropped n && not k) ≡ true
    go true true h is = absurd (cc is)
    go true false h is = ap (λ (d : Bool). d && true) (h refl)
    go false k h is = absurd (cc is)

pub thinner_then : (dropped kept : List Entry) (e : Entry) (a b c : Option Contents) → ((m : FileName) → names e m ≡ true → are_named dropped m ≡ true)
    → IsThinnerOf dropped kept a b → IsThinnerOf (e ∷ []) kept b c → IsThinnerOf dropped kept a c
thinner_then dropped kept e None b c inside first second = none b c first second
  where
    none : (b c : Option Contents) → b ≡ None → IsThinnerOf (e ∷ []) kept b c → c ≡ None
    none None c is next = next
    none (Some w) c is next = absurd (cc is)
thinner_then dropped kept e (Some v) None c inside first second = absurd first
thinner_then dropped kept e (Some v) (Some w) None inside first second = second
thinner_then dropped kept e (Some v) (Some w) (Some x) inside first second = record {
  table = second.table ∙ first.table;
  files = λ n. elim (second.files n) [
    | inl same ↦ elim (first.files n) [ inl before ↦ inl (same ∙ before) | inr gone ↦ inr (gone.0, same ∙ gone.1) ]
    | inr gone ↦ inr (in_gone dropped kept e n inside gone.0, gone.1)
  ];
}

pub leaves_then : (dropped kept : List Entry) (e : Entry) (a b : Option Contents) (left : Left) → ((m : FileName) → names e m ≡ true → are_named dropped m ≡ true)
    → IsThinnerOf dropped kept a b → LeavesThinnerOf (e ∷ []) kept b left → LeavesThinnerOf dropped kept a left
leaves_then dropped kept e None b left inside first second = none b first second
  where
    none : (b : Option Contents) → b ≡ None → LeavesThinnerOf (e ∷ []) kept b left → ⊥
    none None is next = next
    none (Some w) is next = absurd (cc is)
leaves_then dropped kept e (Some v) None left inside first second = absurd first
leaves_then dropped kept e (Some v) (Some w) left inside first second = record {
  table = subst (λ t. IsTableLeft t left.table) first.table second.table;
  files = λ n. elim (second.files n) [
    | inl same ↦ elim (first.files n) [ inl before ↦ inl (same ∙ before) | inr gone ↦ inr (gone.0, same ∙ gone.1) ]
    | inr gone ↦ inr (in_gone dropped kept e n inside gone.0, gone.1)
  ];
}

-- ---- the next entry

gone_next : (a b k : Bool) (f : Option (List ℕ)) → (if (b || false) && not k then None else (if a && not k then None else f)) ≡ (if (a || b) && not k then None else f)
gone_next true true true f = refl
gone_next true true false f = refl
gone_next true false k f = refl
gone_next false true true f = refl
gone_next false true false f = refl
gone_next false false k f = refl

thinned_next : (front kept : List Entry) (e : Entry) (v : Contents) → thinned_by (e ∷ []) kept (thinned_by front kept v) ≡ thinned_by (front ++ e ∷ []) kept v
thinned_next front kept e v = λ j. record { table = v.table; files = λ n. step n j }
  where
    step : (n : FileName) → without (e ∷ []) kept (without front kept v.files) n ≡ without (front ++ e ∷ []) kept v.files n
    step n = gone_next (are_named front n) (names e n) (are_named kept n) (v.files n)
        ∙ sym (ap (λ (b : Bool). if b && not (are_named kept n) then None else v.files n) (named_append front e n))

pub thinned_more : (front kept : List Entry) (e : Entry) (a b c : Option Contents) → b ≡ option_map (thinned_by front kept) a → c ≡ option_map (thinned_by (e ∷ []) kept) b → c ≡ option_map (thinned_by (front ++ e ∷ []) kept) a
thinned_more front kept e None b c first second = second ∙ ap (option_map (thinned_by (e ∷ []) kept)) first
thinned_more front kept e (Some v) b c first second = second ∙ ap (option_map (thinned_by (e ∷ []) kept)) first ∙ ap Some (thinned_next front kept e v)

pub thinned_none : (kept : List Entry) (a : Option Contents) → a ≡ option_map (thinned_by [] kept) a
thinned_none kept None = refl
thinned_none kept (Some v) = refl

-- an entry of a list is named in it
pub named_at : (es : List Entry) (i : ℕ) (x : Entry) (n : FileName) → i < length es → names (get_or es i x) n ≡ true → are_named es n ≡ true
named_at [] i x n lt is = absurd (omega arith)
named_at (e ∷ es) zero x n lt is = ap (λ (b : Bool). b || are_named es n) is
named_at (e ∷ es) (suc i) x n lt is = ap (λ (b : Bool). names e n || b) (named_at es i x n (omega (arith, lt)) is) ∙ or_true (names e n)
  where
    or_true : (b : Bool) → (b || true) ≡ true
    or_true true = refl
    or_true false = refl

pub unnamed_next : (es : List Entry) (i : ℕ) (x : Entry) (n : FileName) → i < length es → are_named (take i es) n ≡ false → names (get_or es i x) n ≡ false → are_named (take (i + 1) es) n ≡ false
unnamed_next es i x n lt none here = ap (λ (l : List Entry). are_named l n) (take_more es i x lt) ∙ named_append (take i es) (get_or es i x) n ∙ ap (λ (b : Bool). b || names (get_or es i x) n) none ∙ here

pub unnamed_all : (es : List Entry) (i : ℕ) (n : FileName) → length es ≤ i → are_named (take i es) n ≡ false → are_named es n ≡ false
unnamed_all es i n le none = ap (λ (l : List Entry). are_named l n) (sym (take_all i es le)) ∙ none

-- ---- a folder that becomes another and then loses files

pub midway_first : (ft : Option File) (to : Contents → Contents) (dropped kept : List Entry) (old : Option Contents) (left : Left) → IsLeftBetween (with_table ft old) (option_map to old) left → LeavesMidway ft to dropped kept old left
midway_first ft to dropped kept old left (inl image) = inl image
midway_first ft to dropped kept old left (inr image) = inr (thinner_left dropped kept (option_map to old) (option_map to old) left (thinner_same dropped kept (option_map to old)) image)

pub midway_second : (ft : Option File) (to : Contents → Contents) (dropped kept : List Entry) (old mid : Option Contents) (left : Left) → mid ≡ option_map to old → LeavesThinnerOf dropped kept mid left → LeavesMidway ft to dropped kept old left
midway_second ft to dropped kept old mid left is thin = inr (subst (λ (o : Option Contents). LeavesThinnerOf dropped kept o left) is thin)

pub midway_err : (ft : Option File) (to : Contents → Contents) (dropped kept : List Entry) (old new : Option Contents) → (new ≡ with_table ft old) ⊎ (new ≡ option_map to old) → IsMidway ft to dropped kept old new
midway_err ft to dropped kept old new (inl is) = inl is
midway_err ft to dropped kept old new (inr is) = inr (subst (IsThinnerOf dropped kept (option_map to old)) (sym is) (thinner_same dropped kept (option_map to old)))

pub midway_then : {T E : Type 0} (r : Result T E) (ft : Option File) (to : Contents → Contents) (dropped kept : List Entry) (old mid new : Option Contents) → mid ≡ option_map to old → OnErr r (IsThinnerOf dropped kept mid new) → OnErr r (IsMidway ft to dropped kept old new)
midway_then (Ok x) ft to dropped kept old mid new is thin = tt
midway_then (Err e) ft to dropped kept old mid new is thin = inr (subst (λ (o : Option Contents). IsThinnerOf dropped kept o new) is thin)

pub midway_done : {T E : Type 0} (r : Result T E) (to : Contents → Contents) (dropped kept : List Entry) (old mid new : Option Contents) → mid ≡ option_map to old → OnOk r (new ≡ option_map (thinned_by dropped kept) mid) → OnOk r (new ≡ option_map (λ v. thinned_by dropped kept (to v)) old)
midway_done (Err e) to dropped kept old mid new is done = tt
midway_done (Ok x) to dropped kept old mid new is done = done ∙ ap (option_map (thinned_by dropped kept)) is ∙ both old
  where
    both : (o : Option Contents) → option_map (thinned_by dropped kept) (option_map to o) ≡ option_map (λ v. thinned_by dropped kept (to v)) o
    both None = refl
    both (Some v) = refl

-- ---- from the first file of an entry to the second

pub removing_ok : {T E : Type 0} (r : Result T E) (kept : List Entry) (e : Entry) (a b c : Option Contents) → IsUnnamed kept e → b ≡ option_map (removed (name_of e.writer e.seq Fields)) a → OnOk r (c ≡ option_map (removed (name_of e.writer e.seq Index)) b) → OnOk r (c ≡ option_map (thinned_by (e ∷ []) kept) a)
removing_ok (Err x) kept e a b c un first second = tt
removing_ok (Ok x) kept e a b c un first second = own_removed kept e a b c un first second

first_gone : (kept : List Entry) (e : Entry) (a b : Option Contents) → IsUnnamed kept e → b ≡ option_map (removed (name_of e.writer e.seq Fields)) a → IsThinnerOf (e ∷ []) kept a b
first_gone kept e a b un first = subst (IsThinnerOf (e ∷ []) kept a) (sym first) (thinner_removed (e ∷ []) kept (name_of e.writer e.seq Fields) a a (own_gone kept e Fields un) (thinner_same (e ∷ []) kept a))

pub removing_err : {T E : Type 0} (r : Result T E) (kept : List Entry) (e : Entry) (a b c : Option Contents) → IsUnnamed kept e → b ≡ option_map (removed (name_of e.writer e.seq Fields)) a → OnErr r ((c ≡ b) ⊎ (c ≡ option_map (removed (name_of e.writer e.seq Index)) b)) → OnErr r (IsThinnerOf (e ∷ []) kept a c)
removing_err (Ok x) kept e a b c un first second = tt
removing_err (Err x) kept e a b c un first second = thinner_by_one (e ∷ []) kept (name_of e.writer e.seq Index) a b c (own_gone kept e Index un) (first_gone kept e a b un first) second

pub removing_first : (kept : List Entry) (e : Entry) (a b : Option Contents) → IsUnnamed kept e → (b ≡ a) ⊎ (b ≡ option_map (removed (name_of e.writer e.seq Fields)) a) → IsThinnerOf (e ∷ []) kept a b
removing_first kept e a b un is = thinner_by_one (e ∷ []) kept (name_of e.writer e.seq Fields) a a b (own_gone kept e Fields un) (thinner_same (e ∷ []) kept a) is

pub removing_left : (kept : List Entry) (e : Entry) (a : Option Contents) (left : Left) → IsUnnamed kept e → IsLeftBetween a (option_map (removed (name_of e.writer e.seq Fields)) a) left → LeavesThinnerOf (e ∷ []) kept a left
removing_left kept e a left un is = between_left (e ∷ []) kept (name_of e.writer e.seq Fields) a a left (own_gone kept e Fields un) (thinner_same (e ∷ []) kept a) is

pub removing_next : (kept : List Entry) (e : Entry) (a b : Option Contents) (left : Left) → IsUnnamed kept e → b ≡ option_map (removed (name_of e.writer e.seq Fields)) a → IsLeftBetween b (option_map (removed (name_of e.writer e.seq Index)) b) left → LeavesThinnerOf (e ∷ []) kept a left
removing_next kept e a b left un first is = between_left (e ∷ []) kept (name_of e.writer e.seq Index) a b left (own_gone kept e Index un) (first_gone kept e a b un first) is

pub done_thins : (dropped kept : List Entry) (a b : Option Contents) → b ≡ option_map (thinned_by dropped kept) a → IsThinnerOf dropped kept a b
done_thins dropped kept None b is = is
done_thins dropped kept (Some v) b is = subst (IsThinnerOf dropped kept (Some v)) (sym is) (record { table = refl; files = λ n. at n })
  where
    at : (n : FileName) → (without dropped kept v.files n ≡ v.files n) ⊎ ((is_gone dropped kept n ≡ true) × (without dropped kept v.files n ≡ None))
    at n = elim (is_or_not (is_gone dropped kept n)) [
      | inl gone ↦ inr (gone, ap (λ (b : Bool). if b then None else v.files n) gone)
      | inr here ↦ inl (ap (λ (b : Bool). if b then None else v.files n) here)
    ]

-- the entry is the one whose files went in the meantime
pub thinner_next : (before now : ℕ) (p q : ℕ → Left → Type 0) (dropped kept : List Entry) (e : Entry) (a b c : Option Contents) → GoesOn before now p q (LeavesThinnerOf (e ∷ []) kept b) → ((m : FileName) → names e m ≡ true → are_named dropped m ≡ true)
    → IsThinnerOf dropped kept a b → c ≡ option_map (thinned_by (e ∷ []) kept) b → IsThinnerOf dropped kept a c
thinner_next before now p q dropped kept e a b c time inside first second = thinner_then dropped kept e a b c inside first (done_thins (e ∷ []) kept b c second)
