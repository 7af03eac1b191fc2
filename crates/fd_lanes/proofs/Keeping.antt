-- What a step leaves of the files that an archiver's shelf keeps.
use Rattle.std.proofs.Common.{◌≡◌, ◌≢◌, ◌<◌, ◌≤◌, ◌+◌, ◌-◌, ◌⊎◌, inl, inr, ℕ, List, [], ◌∷◌, ◌++◌, length, sym, refl, ap, ◌∙◌, subst, arith, length-append, Bool, true, false, true≢false, Option, Some, None}
use Rattle.std.specs.Prelude.{slice_get, IfSome, IsSome}
use mathlib.Core.List.{IsPrefix}
use Rattle.fd_disk.specs.declared.folders.FileName.{FileName}
use Rattle.fd_disk.specs.declared.folders.FileKind.TheVariants.{Fields, Index}
use Rattle.fd_disk.specs.Names.{name_of}
use Rattle.fd_entries.specs.declared.batch.Pair.{Pair}
use Rattle.fd_entries.specs.declared.batch.Listing.{Listing}
use Rattle.fd_segment.specs.Filling.{Filling, Origin}
use Rattle.fd_segment.specs.Held.{Standing}
use Rattle.fd_dataset.specs.Listed.{listing}
use Rattle.fd_dataset.specs.Causes.{AreFewer}
use Rattle.fd_turn.specs.Views.{View}
use Rattle.fd_archiver.specs.Causes.{DoubtsWaiting}
use Rattle.fd_archiver.specs.Flushing.{KeepsOthers, Lists}
use Rattle.fd_archiver.specs.Writing.{IsKept, IsPending, IsPendingIn, IsSealedFrom, Writing, number_in, number_of}
use Rattle.fd_numbers.specs.Numbers.{IsIn}
use Rattle.fd_lanes.specs.Acts.{Act}
use Rattle.fd_lanes.specs.declared.end.End.{End}
use Rattle.fd_lanes.specs.declared.end.End.TheVariants.{PutOk, PutUnlisted, Fault, Listed, Nothing, TableFull, NoMemory, Damaged, Got}
use Rattle.fd_lanes.specs.Walks.{Stand, receipt, receipts, walked}
use Rattle.fd_lanes.specs.Legal.{IsListedIn, IsFullIn, IsAnsweredIn, IsDamagedIn, WalksIn}
use Rattle.fd_lanes.specs.Fits.{AreKept, GotAs, IsKeptAt, IsWaitingDoubt, KeepsNew, KeepsOn}
use Rattle.fd_lanes.specs.Jobs.{IsKeptBy}
use Rattle.fd_lanes.proofs.Histories.{at_end, prefix_at}
use Rattle.fd_lanes.proofs.Walking.{in_either, receipts_are}

keeps_self : (number : ℕ) (a b : Option (FileName → Option (List ℕ))) → b ≡ a → KeepsOthers number a b
keeps_self number None None same = tt
keeps_self number None (Some g) same = absurd (cc same)
keeps_self number (Some f) None same = absurd (cc same)
keeps_self number (Some f) (Some g) same = let e : g ≡ f = cc same in λ n other. ap (λ (h : FileName → Option (List ℕ)). h n) e

number_same : (u : Option Standing) (d e : Filling) → e.origin ≡ d.origin → number_in u e ≡ number_in u d
number_same None d e same = ap (λ (o : Origin). o.seq) same
number_same (Some s) d e same = refl

-- files of another number stay kept
kept_on : (number : ℕ) (a b : Option (FileName → Option (List ℕ))) (s : Standing) → KeepsOthers number a b → s.files.entry.seq ≢ number → IsKept a s → IsKept b s
kept_on number None None s keeps other kept = tt
kept_on number None (Some f) s keeps other kept = absurd keeps
kept_on number (Some f) None s keeps other kept = absurd keeps
kept_on number (Some f) (Some g) s keeps other kept = (
  keeps (name_of s.files.entry.writer s.files.entry.seq Fields) other ∙ kept.0,
  keeps (name_of s.files.entry.writer s.files.entry.seq Index) other ∙ kept.1,
)

module _ (F H : Type 0) (kept : H → Option (FileName → Option (List ℕ))) where
  -- an archiver that stays
  pub same_kept : (x y : Writing H) (hs : List Listing) (e : End F) → y ≡ x → KeepsNew kept x y hs e → KeepsOn kept x y hs e
  same_kept x y hs e same new = record {
    later = (let n = ap (λ (w : Writing H). number_of w) same in omega arith);
    others = keeps_self (number_of x) (kept x.shelf) (kept y.shelf) (ap (λ (w : Writing H). kept w.shelf) same);
    new = new;
  }

  -- a put changes the draft alone
  pub put_kept : (x y : Writing H) (hs : List Listing) (e : End F) → y ≡ record x { draft = y.draft } → y.draft.origin ≡ x.draft.origin → KeepsNew kept x y hs e → KeepsOn kept x y hs e
  put_kept x y hs e rest origin new =
      let waits : y.unlisted ≡ x.unlisted = ap (λ (w : Writing H). w.unlisted) rest in
      let n : number_in y.unlisted y.draft ≡ number_in x.unlisted x.draft = ap (λ (u : Option Standing). number_in u y.draft) waits ∙ number_same x.unlisted x.draft y.draft origin in
      record { later = omega arith; others = keeps_self (number_of x) (kept x.shelf) (kept y.shelf) (ap (λ (w : Writing H). kept w.shelf) rest); new = new }

  -- a flush that was refused
  pub refused_kept : (x y : Writing H) (hs : List Listing) (e : End F) → number_of y ≡ number_of x → KeepsOthers (number_of x) (kept x.shelf) (kept y.shelf) → KeepsNew kept x y hs e → KeepsOn kept x y hs e
  refused_kept x y hs e same others new = record { later = omega arith; others = others; new = new }

  -- a flush that was listed
  pub listed_kept : (x y : Writing H) (before after : List Listing) (n : ℕ) → y.writer ≡ x.writer → y.told ≡ x.told → KeepsOthers (number_of x) (kept x.shelf) (kept y.shelf) → Lists kept x y before n after → KeepsOn kept {F = F} x y after (Listed n)
  listed_kept x y before after n writer told others l =
      let last = l.listed in
      let long : length after ≡ length last.others + 1 = ap length last.history ∙ length-append last.others (listing l.segment ∷ []) in
      let number = last.number_is in
      let place : n - 1 ≡ length last.others = omega arith in
      let at : slice_get after (n - 1) ≡ Some (listing l.segment) = subst (λ (hs : List Listing). slice_get hs (n - 1) ≡ Some (listing l.segment)) (sym last.history) (ap (slice_get (last.others ++ listing l.segment ∷ [])) place ∙ at_end last.others (listing l.segment)) in
      let up = l.later in
      let seq = l.seq in
      record {
        later = omega arith;
        others = others;
        new = λ b pending. record {
          segment = l.segment;
          at = at;
          by = l.writer ∙ sym writer;
          earlier = omega arith;
          sealed = subst (λ (t : Bool). IsSealedFrom t b l.segment) (sym told) (l.sealed b pending);
          files = l.kept;
        };
      }

  -- a get leaves the archiver
  pub got_kept : (x : Writing H) (hs : List Listing) (asked : List (List ℕ)) (e : End F) → GotAs hs asked e → KeepsOn kept x x hs e
  got_kept x hs asked e got = same_kept x x hs e refl (go e got)
    where
      go : (e : End F) → GotAs hs asked e → KeepsNew kept x x hs e
      go (Got n answers) got = tt
      go (Damaged d) got = tt
      go (Fault fault) got = tt
      go NoMemory got = tt
      go PutOk got = absurd got
      go PutUnlisted got = absurd got
      go (Listed n) got = absurd got
      go Nothing got = absurd got
      go TableFull got = absurd got

  -- what was listed stays kept
  kept_longer : (x y : Writing H) (h h' : List Listing) (b : List Pair) (n : ℕ) → IsPrefix h h' → y.writer ≡ x.writer → y.told ≡ x.told → number_of x ≤ number_of y → KeepsOthers (number_of x) (kept x.shelf) (kept y.shelf) → IsKeptAt kept x h b n → IsKeptAt kept y h' b n
  kept_longer x y h h' b n p writer told later others k =
      let less = k.earlier in
      record {
        segment = k.segment;
        at = prefix_at h h' (n - 1) (listing k.segment) p k.at;
        by = k.by ∙ sym writer;
        earlier = omega arith;
        sealed = subst (λ (t : Bool). IsSealedFrom t b k.segment) (sym told) k.sealed;
        files = kept_on (number_of x) (kept x.shelf) (kept y.shelf) k.segment others (λ e. omega (arith, less, e)) k.files;
      }

  new_kept : (x y : Writing H) (h : List Listing) (s : Stand) (e : End F) (r : ℕ × List Pair) → IsPending x s.pending → KeepsNew kept x y h e → IsIn (receipt s e) r → IsKeptAt kept y h r.1 r.0
  new_kept x y h s (Listed n) r pending new (inl is) = subst (λ (q : ℕ × List Pair). IsKeptAt kept y h q.1 q.0) is (new s.pending pending)
  new_kept x y h s (Listed n) r pending new (inr i) = absurd i
  new_kept x y h s PutOk r pending new i = absurd i
  new_kept x y h s PutUnlisted r pending new i = absurd i
  new_kept x y h s (Fault f) r pending new i = absurd i
  new_kept x y h s Nothing r pending new i = absurd i
  new_kept x y h s TableFull r pending new i = absurd i
  new_kept x y h s NoMemory r pending new i = absurd i
  new_kept x y h s (Damaged d) r pending new i = absurd i
  new_kept x y h s (Got n answers) r pending new i = absurd i

  -- one step more
  pub kept_more : (writer : ℕ) (x y : Writing H) (v w : List Listing) (s : Stand) (acts acts' : List Act) (es es' : List (End F)) (a : Act) (e : End F)
      → acts' ≡ acts ++ a ∷ [] → es' ≡ es ++ e ∷ [] → IsPrefix v w → y.writer ≡ x.writer → y.told ≡ x.told → WalksIn v writer s acts es → IsPending x (walked s acts es).pending
      → KeepsOn kept x y w e → AreKept kept x v (receipts s acts es) → AreKept kept y w (receipts s acts' es')
  kept_more writer x y v w s acts acts' es es' a e is_acts is_es seen same told walks pending on all =
      let more : receipts s (acts ++ a ∷ []) (es ++ e ∷ []) ≡ receipts s acts es ++ receipt (walked s acts es) e = receipts_are F (IsListedIn v writer) (IsFullIn v writer) (IsAnsweredIn v writer) (IsDamagedIn v writer) s acts es a e walks in
      let each : AreKept kept y w (receipts s acts es ++ receipt (walked s acts es) e) = λ r i. go r (in_either (receipts s acts es) (receipt (walked s acts es) e) r i) in
      subst (λ (z : List Act × List (End F)). AreKept kept y w (receipts s z.0 z.1)) (λ i. (sym is_acts i, sym is_es i)) (subst (λ (rs : List (ℕ × List Pair)). AreKept kept y w rs) (sym more) each)
    where
      go : (r : ℕ × List Pair) → IsIn (receipts s acts es) r ⊎ IsIn (receipt (walked s acts es) e) r → IsKeptAt kept y w r.1 r.0
      go r (inl i) = kept_longer x y v w r.1 r.0 seen same told on.later on.others (all r i)
      go r (inr i) = new_kept x y w (walked s acts es) e r pending on.new i

  -- the listing at the number of a receipt, in a longer history
  pub kept_by : (w : Writing H) (h h' : List Listing) (b : List Pair) (n : ℕ) (l : Listing) → IsPrefix h h' → IsKeptAt kept w h b n → slice_get h' (n - 1) ≡ Some l → IsKeptBy kept w l
  kept_by w h h' b n l p k at =
      let there = prefix_at h h' (n - 1) (listing k.segment) p k.at in
      record { segment = k.segment; is = cc (there, at); by = k.by; files = k.files; batch = k.sealed.batch }

-- ---- what is in doubt

-- an archiver whose waiting segment stays
pub doubt_same : (H : Type 0) (x y : Writing H) (before after : List Listing) → y.unlisted ≡ x.unlisted → y.is_kept ≡ x.is_kept → after ≡ before → IsWaitingDoubt x before → IsWaitingDoubt y after
doubt_same H x y before after waits came same d = λ l i.
    let q = d l (subst (λ (ls : List Listing). IsIn ls l) same i) in
    (came ∙ q.0, (q.1.0, waits ∙ q.1.1, q.1.2))

-- nothing is in doubt
pub doubt_none : (H : Type 0) (y : Writing H) (after : List Listing) → after ≡ [] → IsWaitingDoubt y after
doubt_none H y after none = λ l i. absurd (subst (λ (ls : List Listing). IsIn ls l) none i)

-- a flush that was refused: what came to its listing before stays as it was, and nothing else can be in doubt before it comes
-- to its listing
pub doubt_refused : (H : Type 0) (x y : Writing H) (v w : View) → (x.is_kept ≡ true → y ≡ x) → (y.is_kept ≡ false → w ≡ v) → AreFewer v.doubts w.doubts ⊎ DoubtsWaiting y.unlisted w.doubts → IsWaitingDoubt x v.doubts → IsWaitingDoubt y w.doubts
doubt_refused H x y v w settled untouched (inl (inl same)) d = λ l i. stays l (subst (λ (ls : List Listing). IsIn ls l) same i)
  where
    stays : (l : Listing) → IsIn v.doubts l → (y.is_kept ≡ true) × ((z : Standing) × (y.unlisted ≡ Some z) × (listing z ≡ l))
    stays l i = let q = d l i in subst (λ (a : Writing H). (a.is_kept ≡ true) × ((z : Standing) × (a.unlisted ≡ Some z) × (listing z ≡ l))) (sym (settled q.0)) q
doubt_refused H x y v w settled untouched (inl (inr none)) d = doubt_none H y w.doubts none
doubt_refused H x y v w settled untouched (inr waits) d = λ l i. (came y.is_kept refl l i, (waits.0, waits.1, one l (subst (λ (ls : List Listing). IsIn ls l) waits.2 i)))
  where
    one : (l : Listing) → IsIn (listing waits.0 ∷ []) l → listing waits.0 ≡ l
    one l (inl e) = e
    one l (inr i) = absurd i

    came : (b : Bool) → y.is_kept ≡ b → (l : Listing) → IsIn w.doubts l → y.is_kept ≡ true
    came true e l i = e
    came false e l i =
        let q = d l (subst (λ (u : View). IsIn u.doubts l) (untouched e) i) in
        ap (λ (a : Writing H). a.is_kept) (settled q.0) ∙ q.0

-- what is in doubt is kept by its archiver
pub doubt_kept : (H : Type 0) (kept : H → Option (FileName → Option (List ℕ))) (w : Writing H) (b : List Pair) (l : Listing) → IsPending w b → (w.is_kept ≡ true → IfSome w.unlisted (λ s. s.files.entry.writer ≡ w.writer)) → (w.is_kept ≡ true → IfSome w.unlisted (IsKept (kept w.shelf)))
    → (w.is_kept ≡ true) × ((x : Standing) × (w.unlisted ≡ Some x) × (listing x ≡ l)) → IsKeptBy kept w l
doubt_kept H kept w b l pending writer files q =
    let is = q.1.1 in
    let sealed = subst (λ (u : Option Standing). IsPendingIn w.told u w.draft b) is pending in
    record {
      segment = q.1.0;
      is = sym q.1.2;
      by = subst (λ (u : Option Standing). IfSome u (λ (s : Standing). s.files.entry.writer ≡ w.writer)) is (writer q.0);
      files = subst (λ (u : Option Standing). IfSome u (IsKept (kept w.shelf))) is (files q.0);
      batch = sealed.1.batch;
    }
