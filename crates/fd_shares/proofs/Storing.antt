-- How far a worker comes in a dataset by one call.
use Rattle.std.proofs.Common.{◌≡◌, ◌≢◌, ◌⊎◌, inl, inr, ℕ, zero, suc, ◌+◌, ◌-◌, ◌*◌, ◌<◌, ◌≤◌, ◌^◌, Bool, true, List, [], ◌∷◌, ◌++◌, length, slice_get, Option, Some, None, IfSome, is_some, Result, Ok, Err, refl, sym, ap, subst, ◌∙◌, arith, append_assoc, append-nil, length-append}
use mathlib.Core.List.{IsPrefix}
use Rattle.fd_disk.specs.declared.folders.FileName.{FileName}
use Rattle.fd_disk.specs.declared.folders.FileKind.TheVariants.{Fields, Index}
use Rattle.fd_disk.specs.Names.{name_of}
use Rattle.fd_entries.specs.declared.batch.Listing.{Listing}
use Rattle.fd_entries.specs.declared.batch.Pair.{Pair}
use Rattle.fd_segment.specs.Filling.{stored}
use Rattle.fd_index.specs.declared.fault.Full.{Full}
use Rattle.fd_index.specs.Builder.{room_for}
use Rattle.fd_segment.specs.Filling as drafts
use Rattle.fd_segment.specs.Held.{Standing}
use Rattle.fd_segment.proofs.Counting.{no_pairs, no_records}
use Rattle.fd_turn.specs.Views.{View}
use Rattle.fd_dataset.specs.Causes.{AreFewer}
use Rattle.fd_dataset.specs.Listed.{listing}
use Rattle.fd_dataset.specs.declared.fault.Receipt.{Receipt}
use Rattle.fd_archiver.specs.declared.fault.ArchiveFault.{ArchiveFault}
use Rattle.fd_archiver.specs.declared.fault.ArchiveFault.TheVariants as archives
use Rattle.fd_archiver.specs.declared.fault.Flush.{Flush}
use Rattle.fd_archiver.specs.declared.fault.Flush.TheVariants as ends
use Rattle.fd_archiver.specs.declared.fault.FlushFault.{FlushFault}
use Rattle.fd_archiver.specs.declared.fault.FlushFault.TheVariants as flushes
use Rattle.fd_archiver.specs.Causes as causes
use Rattle.fd_archiver.specs.Flushing as archiver
use Rattle.fd_archiver.specs.Flushing.{FailedBefore, KeepsOthers, Lists, UsesOne}
use Rattle.fd_archiver.specs.Writing.{IsKept, IsPending, IsPendingIn, IsReady, IsSealedFrom, Writing, number_of}
use Rattle.fd_shares.specs.Merging.{Rise}
use Rattle.fd_shares.specs.Working.{AreSealed, CanPut, Emptied, Filling, Flushed, HasSealed, InDoubt, IsDoubted, IsFilled, IsNotFull, IsSealedBy, ListedAll, PutOn, Sealing, Stopped, Works, pairs_in}
use Rattle.fd_shares.proofs.Filled.{filled, room_at_first}

-- ---- numbers that rise

module _ {A : Type 0} where
  pub rise_le : (low high : ℕ) (rs : List (ℕ × A)) → Rise low high rs → low ≤ high
  rise_le low high [] r = r
  rise_le low high (x ∷ rs) r = let lt = r.0 in let le = rise_le x.0 high rs r.1 in omega arith

  pub rise_wider : (low high more : ℕ) (rs : List (ℕ × A)) → high ≤ more → Rise low high rs → Rise low more rs
  rise_wider low high more [] le r = omega (arith, r)
  rise_wider low high more (x ∷ rs) le r = (r.0, rise_wider x.0 high more rs le r.1)

  pub rise_push : (low high : ℕ) (rs : List (ℕ × A)) (x : ℕ × A) → high < x.0 → Rise low high rs → Rise low x.0 (rs ++ x ∷ [])
  rise_push low high [] x lt r = (omega (arith, r), omega arith)
  rise_push low high (y ∷ rs) x lt r = (r.0, rise_push y.0 high rs x lt r.1)

  pub rise_count : (low high : ℕ) (rs : List (ℕ × A)) → Rise low high rs → low + length rs ≤ high
  rise_count low high [] r = omega (arith, r)
  rise_count low high (x ∷ rs) r = let lt = r.0 in let le = rise_count x.0 high rs r.1 in omega arith

-- ---- lists

module _ {X : Type 0} where
  pub get_front : (xs ys : List X) (i : ℕ) (x : X) → slice_get xs i ≡ Some x → slice_get (xs ++ ys) i ≡ Some x
  get_front [] ys i x at = absurd (cc at)
  get_front (y ∷ xs) ys zero x at = at
  get_front (y ∷ xs) ys (suc i) x at = get_front xs ys i x at

  pub get_seen : (xs ys : List X) (i : ℕ) (x : X) → IsPrefix xs ys → slice_get xs i ≡ Some x → slice_get ys i ≡ Some x
  get_seen xs ys i x seen at = subst (λ (zs : List X). slice_get zs i ≡ Some x) seen.1 (get_front xs seen.0 i x at)

  pub get_last : (xs : List X) (x : X) (i : ℕ) → i ≡ length xs → slice_get (xs ++ x ∷ []) i ≡ Some x
  get_last [] x i is = ap (slice_get (x ∷ [])) is
  get_last (y ∷ xs) x zero is = absurd (omega (arith, is))
  get_last (y ∷ xs) x (suc i) is = get_last xs x i (omega (arith, is))

  pub front_length : (xs ys : List X) → IsPrefix xs ys → length xs ≤ length ys
  front_length xs ys p = let e = ap length p.1 in let f = length-append xs p.0 in omega arith

pub pairs_push : (rs : List (ℕ × Sealing)) (r : ℕ × Sealing) → pairs_in (rs ++ r ∷ []) ≡ pairs_in rs ++ r.1.pairs
pairs_push [] r = append-nil r.1.pairs
pairs_push (q ∷ rs) r = ap (λ (ps : List Pair). q.1.pairs ++ ps) (pairs_push rs r) ∙ sym (append_assoc q.1.pairs (pairs_in rs) r.1.pairs)

pub stored_both : (a b : List Pair) → stored (a ++ b) ≡ stored a + stored b
stored_both [] b = omega arith
stored_both (p ∷ ps) b = let e = stored_both ps b in omega arith

-- ---- what is pending

pub puts_of : {H : Type 0} (w : Writing H) (b : List Pair) → w.unlisted ≡ None → IsPending w b → drafts.Puts w.draft b
puts_of w b none pending = subst (λ o. IsPendingIn w.told o w.draft b) none pending

-- where nothing was put, no pairs are pending
none_pending : {H : Type 0} (w : Writing H) (b : List Pair) → w.unlisted ≡ None → IsPending w [] → IsPending w b → b ≡ []
none_pending w b none empty pending =
    let e = puts_of w [] none empty in
    let p = puts_of w b none pending in
    no_records b w.draft.held.records p.records (no_pairs [] w.draft.held.records e.records refl)

-- files of another number stay kept
kept_on : (number : ℕ) (a b : Option (FileName → Option (List ℕ))) (s : Standing) → KeepsOthers number a b → s.files.entry.seq ≢ number → IsKept a s → IsKept b s
kept_on number None None s keeps other kept = tt
kept_on number None (Some f) s keeps other kept = absurd keeps
kept_on number (Some f) None s keeps other kept = absurd keeps
kept_on number (Some f) (Some g) s keeps other kept = (
  keeps (name_of s.files.entry.writer s.files.entry.seq Fields) other ∙ kept.0,
  keeps (name_of s.files.entry.writer s.files.entry.seq Index) other ∙ kept.1,
)

-- and a shelf that tells what it keeps still does
tells_on : (number : ℕ) (a b : Option (FileName → Option (List ℕ))) → KeepsOthers number a b → is_some b ≡ is_some a
tells_on number None None keeps = refl
tells_on number None (Some f) keeps = absurd keeps
tells_on number (Some f) None keeps = absurd keeps
tells_on number (Some f) (Some g) keeps = refl

others_same : (n : ℕ) (o : Option (FileName → Option (List ℕ))) → KeepsOthers n o o
others_same n None = tt
others_same n (Some f) = λ m other. refl

-- where a key has no room, the batch is full
full_filled : {H : Type 0} (w : Writing H) (key : List ℕ) (full : Full) → w.unlisted ≡ None → w.draft.held.keys ≡ 2048 → w.draft.held.bytes ≡ 131072 → length key ≤ 256 → room_for w.draft.held key ≡ Err full → IsFilled w
full_filled w key full none keys bytes short e = λ b pending.
    let p = puts_of w b none pending in filled w.draft.held key full b keys bytes short e p.records p.keys

module _ {H : Type 0} (kept : H → Option (FileName → Option (List ℕ))) where
  pub sealed_on : (w x : Writing H) (h k : List Listing) (rs : List (ℕ × Sealing)) → x.writer ≡ w.writer → x.told ≡ w.told → number_of w ≤ number_of x → KeepsOthers (number_of w) (kept w.shelf) (kept x.shelf) → IsPrefix h k
      → AreSealed kept w h rs → AreSealed kept x k rs
  sealed_on w x h k [] writer told later others seen all = tt
  sealed_on w x h k (r ∷ rs) writer told later others seen all =
      let one = all.0 in (
        record {
          at = get_seen h k (r.0 - 1) (listing r.1.segment) seen one.at;
          writer = one.writer ∙ sym writer;
          earlier = omega (arith, one.earlier, later);
          sealed = subst (λ (t : Bool). IsSealedFrom t r.1.pairs r.1.segment) (sym told) one.sealed;
          files = kept_on (number_of w) (kept w.shelf) (kept x.shelf) r.1.segment others (λ e. omega (arith, one.earlier, e)) one.files;
        },
        sealed_on w x h k rs writer told later others seen all.1,
      )

  sealed_push : (w : Writing H) (h : List Listing) (rs : List (ℕ × Sealing)) (r : ℕ × Sealing) → AreSealed kept w h rs → IsSealedBy kept w h r → AreSealed kept w h (rs ++ r ∷ [])
  sealed_push w h [] r all one = (one, tt)
  sealed_push w h (q ∷ rs) r all one = (all.0, sealed_push w h rs r all.1 one)

  -- ---- what a call asks for

  -- the bytes of the batch are among those that were stored
  pub batch_within : (pairs : List Pair) (w : Writing H) (v : View) → Works kept Filling pairs w v → w.draft.end ≤ stored pairs
  batch_within pairs w v c =
      let p = puts_of w c.pending c.stands.0 c.is_pending in
      let whole : stored pairs ≡ stored (pairs_in c.receipts) + stored c.pending = ap stored c.pairs_are ∙ stored_both (pairs_in c.receipts) c.pending in
      omega (arith, p.end, whole)

  pub has_bytes : (size : ℕ) (w : Writing H) (v : View) → CanPut kept size w v → w.draft.end + (size + 32) < 2 ^ 63
  has_bytes size w v c = let e = batch_within c.pairs w v c.works in omega (arith, e, c.sum)

  -- an emptied batch is one that is filled
  pub emptied_fills : (pairs : List Pair) (w : Writing H) (v : View) → Works kept Emptied pairs w v → Works kept Filling pairs w v
  emptied_fills pairs w v c = record {
    receipts = c.receipts;
    pending = c.pending;
    rise = c.rise;
    sealed = c.sealed;
    amount = c.amount;
    short = c.short;
    pairs_are = c.pairs_are;
    is_pending = c.is_pending;
    room = c.room;
    stands = (c.stands.0, c.stands.1, c.stands.2);
    doubts = c.doubts;
    free = c.free;
    dataset = c.dataset;
    bounded = c.bounded;
    tells = c.tells;
  }

  pub writer_fits : (pairs : List Pair) (w : Writing H) (v : View) → Works kept Filling pairs w v → w.writer ≤ 65536 * (length v.history + 1)
  writer_fits pairs w v c = let le = rise_le v.opening (length v.history) c.receipts c.rise in omega (arith, c.bounded, le)

  pub number_left : (pairs : List Pair) (w : Writing H) (v : View) → Works kept Filling pairs w v → w.last < 2 ^ 32 - 1
  number_left pairs w v c = omega (arith, c.stands.1, c.short)

  -- ---- a pair that is put

  module _ (pairs : List Pair) (w x : Writing H) (v : View) (c : Works kept Filling pairs w v) (rest : x ≡ record w { draft = x.draft }) (origin : x.draft.origin ≡ w.draft.origin)
      (room : (x.draft.held.keys ≡ w.draft.held.keys) × (x.draft.held.bytes ≡ w.draft.held.bytes)) where
    unlisted_same : x.unlisted ≡ w.unlisted
    unlisted_same = ap (λ (y : Writing H). y.unlisted) rest

    number_same : number_of x ≡ number_of w
    number_same =
        ap (λ o. Rattle.fd_archiver.specs.Writing.number_in o x.draft) (unlisted_same ∙ c.stands.0)
        ∙ ap (λ (o : drafts.Origin). o.seq) origin
        ∙ ap (λ o. Rattle.fd_archiver.specs.Writing.number_in o w.draft) (sym c.stands.0)

    put_works : (now more : List Pair) → now ≡ pairs ++ more → IsPending x (c.pending ++ more) → Works kept Filling now x v
    put_works now more is pending = record {
      receipts = c.receipts;
      pending = c.pending ++ more;
      rise = c.rise;
      sealed = sealed_on w x v.history v.history c.receipts (ap (λ (y : Writing H). y.writer) rest) (ap (λ (y : Writing H). y.told) rest) (omega (arith, number_same))
          (subst (λ (s : H). KeepsOthers (number_of w) (kept w.shelf) (kept s)) (sym (ap (λ (y : Writing H). y.shelf) rest)) (others_same (number_of w) (kept w.shelf))) ([], append-nil v.history) c.sealed;
      amount = c.amount;
      short = c.short;
      pairs_are = is ∙ ap (λ (ps : List Pair). ps ++ more) c.pairs_are ∙ append_assoc (pairs_in c.receipts) c.pending more;
      is_pending = pending;
      room = (room.0 ∙ c.room.0, room.1 ∙ c.room.1);
      stands = (unlisted_same ∙ c.stands.0, omega (arith, c.stands.1, ap (λ (y : Writing H). y.last) rest), c.stands.2);
      doubts = c.doubts;
      free = c.free;
      dataset = ap (λ (y : Writing H). y.dataset) rest ∙ c.dataset;
      bounded = omega (arith, c.bounded, ap (λ (y : Writing H). y.writer) rest);
      tells = ap (λ (y : Writing H). is_some (kept y.shelf)) rest ∙ c.tells ∙ sym (ap (λ (y : Writing H). y.told) rest);
    }

  module _ {F : Type 0} (pairs : List Pair) (p : Pair) (w x : Writing H) (v : View) (rest : x ≡ record w { draft = x.draft }) (origin : x.draft.origin ≡ w.draft.origin)
      (room : (x.draft.held.keys ≡ w.draft.held.keys) × (x.draft.held.bytes ≡ w.draft.held.bytes)) (short : length p.key ≤ 256) where
    -- how far it comes by one pair
    pub put_on : (r : Result (Unit {0}) (ArchiveFault F)) → Works kept Filling pairs w v
        → (r ≡ Err archives.Unlisted → is_some w.unlisted ≡ true)
        → Rattle.std.specs.Prelude.OnOk r ((b : List Pair) → IsPending w b → IsPending x (b ++ p ∷ []))
        → Rattle.std.specs.Prelude.OnErr r ((b : List Pair) → IsPending w b → IsPending x b)
        → Rattle.std.specs.Prelude.IfErr r (λ e. causes.OnUntouched e (x ≡ w))
        → (w.unlisted ≡ None → causes.FullAs (room_for w.draft.held p.key) r)
        → PutOn kept r pairs p w x v
    put_on (Ok done) c unlisted ok err untouched full = put_works pairs w x v c rest origin room (pairs ++ p ∷ []) (p ∷ []) refl (ok c.pending c.is_pending)
    put_on (Err archives.Unlisted) c unlisted ok err untouched full = absurd (let e = unlisted refl in cc (ap is_some c.stands.0, e))
    put_on (Err (archives.Full keys left)) c unlisted ok err untouched full = (untouched, full_filled w p.key (record { keys = keys; left = left }) c.stands.0 c.room.0 c.room.1 short (full c.stands.0))
    put_on (Err (archives.Disk f)) c unlisted ok err untouched full =
        put_works pairs w x v c rest origin room pairs [] (sym (append-nil pairs)) (subst (IsPending x) (sym (append-nil c.pending)) (err c.pending c.is_pending))

    -- an empty batch has room
    pub room_first : (r : Result (Unit {0}) (ArchiveFault F)) → Works kept Emptied pairs w v
        → (r ≡ Err archives.Unlisted → is_some w.unlisted ≡ true) → (w.unlisted ≡ None → causes.FullAs (room_for w.draft.held p.key) r) → IsNotFull r
    room_first (Ok done) c unlisted full = tt
    room_first (Err archives.Unlisted) c unlisted full = absurd (let e = unlisted refl in cc (ap is_some c.stands.0, e))
    room_first (Err (archives.Full keys left)) c unlisted full =
        let q = puts_of w [] c.stands.0 (subst (IsPending w) c.stands.3 c.is_pending) in
        absurd (room_at_first w.draft.held p.key (record { keys = keys; left = left }) c.room.0 c.room.1 short q.records (full c.stands.0))
    room_first (Err (archives.Disk f)) c unlisted full = tt

  -- ---- what is pending is listed

  module _ (pairs : List Pair) (w x : Writing H) (v u : View) (c : Works kept Filling pairs w v) (seen : IsPrefix v.history u.history) (rest : u ≡ record v { history = u.history; amount = u.amount; doubts = u.doubts }) (stays : archiver.StaysOf w x)
      (others : KeepsOthers (number_of w) (kept w.shelf) (kept x.shelf)) where
    opening_same : u.opening ≡ v.opening
    opening_same = ap (λ (a : View). a.opening) rest

    free_still : u.lock ≡ v.lock
    free_still = ap (λ (a : View). a.lock) rest

    dataset_still : x.dataset ≡ u.subject
    dataset_still = stays.dataset ∙ c.dataset ∙ sym (ap (λ (a : View). a.subject) rest)

    bounded_still : x.writer ≤ 65536 * (u.opening + 1)
    bounded_still = omega (arith, c.bounded, stays.writer, opening_same)

    tells_still : is_some (kept x.shelf) ≡ x.told
    tells_still = tells_on (number_of w) (kept w.shelf) (kept x.shelf) others ∙ c.tells ∙ sym stays.told

    room_still : (x.draft.held.keys ≡ 2048) × (x.draft.held.bytes ≡ 131072)
    room_still = (stays.keys ∙ c.room.0, stays.bytes ∙ c.room.1)

    module _ (number : ℕ) (lists : Lists kept w x v.history number u.history) (counted : u.amount ≡ v.amount + 1) (sure : u.doubts ≡ []) (unlisted : x.unlisted ≡ None) (empty : IsPending x []) (uses : UsesOne w x) (few : length u.history ≤ 65535) where
      added : ℕ × Sealing
      added = (number, record { pairs = c.pending; segment = lists.segment })

      abbrev receipts : List (ℕ × Sealing)
      receipts = c.receipts ++ (number, record { pairs = c.pending; segment = lists.segment }) ∷ []

      long : length u.history ≡ length lists.listed.others + 1
      long = ap length lists.listed.history ∙ length-append lists.listed.others (listing lists.segment ∷ [])

      rise_now : Rise u.opening (length u.history) receipts
      rise_now =
          let before = front_length v.history lists.listed.others lists.listed.seen in
          let one : Rise v.opening number receipts = rise_push v.opening (length v.history) c.receipts (number, record { pairs = c.pending; segment = lists.segment }) (omega (arith, before, long, lists.listed.number_is)) c.rise in
          subst (λ (n : ℕ). Rise u.opening n receipts) lists.listed.number_is (subst (λ (n : ℕ). Rise n number receipts) (sym opening_same) one)

      at_now : slice_get u.history (number - 1) ≡ Some (listing lists.segment)
      at_now = subst (λ (hs : List Listing). slice_get hs (number - 1) ≡ Some (listing lists.segment)) (sym lists.listed.history) (get_last lists.listed.others (listing lists.segment) (number - 1) (omega (arith, long, lists.listed.number_is)))

      sealed_now : AreSealed kept x u.history receipts
      sealed_now = sealed_push x u.history c.receipts (number, record { pairs = c.pending; segment = lists.segment })
          (sealed_on w x v.history u.history c.receipts stays.writer stays.told (omega (arith, lists.later)) others seen c.sealed)
          (record {
            at = at_now;
            writer = lists.writer ∙ sym stays.writer;
            earlier = omega (arith, lists.seq, lists.later);
            sealed = subst (λ (t : Bool). IsSealedFrom t c.pending lists.segment) (sym stays.told) (lists.sealed c.pending c.is_pending);
            files = lists.kept;
          })

      many : length receipts ≡ length c.receipts + 1
      many = length-append c.receipts ((number, record { pairs = c.pending; segment = lists.segment }) ∷ [])

      size_now : length (pairs_in receipts) ≡ length (pairs_in c.receipts) + length c.pending
      size_now = ap length (pairs_push c.receipts (number, record { pairs = c.pending; segment = lists.segment })) ∙ length-append (pairs_in c.receipts) c.pending

      pairs_now : pairs ≡ pairs_in receipts ++ []
      pairs_now = c.pairs_are ∙ sym (pairs_push c.receipts (number, record { pairs = c.pending; segment = lists.segment })) ∙ sym (append-nil (pairs_in receipts))

      short_now : length receipts ≤ 65535
      short_now = let le = rise_count u.opening (length u.history) receipts rise_now in omega (arith, le, few)

      pub listed_flushed : Works kept Flushed pairs x u
      listed_flushed = record {
        receipts = receipts;
        pending = [];
        rise = rise_now;
        sealed = sealed_now;
        amount = counted ∙ ap (λ (n : ℕ). n + 1) c.amount ∙ sym many;
        short = short_now;
        pairs_are = pairs_now;
        is_pending = empty;
        room = room_still;
        stands = (omega (arith, c.stands.2, many, size_now), refl);
        doubts = sure;
        free = free_still ∙ c.free;
        dataset = dataset_still;
        bounded = bounded_still;
        tells = tells_still;
      }

      one_at_most : x.last ≤ w.last + 1
      one_at_most = elim uses as (λ _. x.last ≤ w.last + 1) [ inl same ↦ omega (arith, same) | inr more ↦ omega (arith, more.1) ]

      pub listed_emptied : IsFilled w → Works kept Emptied pairs x u
      listed_emptied filled = record {
        receipts = receipts;
        pending = [];
        rise = rise_now;
        sealed = sealed_now;
        amount = counted ∙ ap (λ (n : ℕ). n + 1) c.amount ∙ sym many;
        short = short_now;
        pairs_are = pairs_now;
        is_pending = empty;
        room = room_still;
        stands = (let full = filled c.pending c.is_pending in (unlisted, omega (arith, c.stands.1, many, one_at_most), omega (arith, c.stands.2, many, size_now, full), refl));
        doubts = sure;
        free = free_still ∙ c.free;
        dataset = dataset_still;
        bounded = bounded_still;
        tells = tells_still;
      }

    -- nothing was listed
    pub stopped : u.amount ≡ v.amount → number_of x ≡ number_of w → ((b : List Pair) → IsPending w b → IsPending x b) → InDoubt kept Stopped x (length c.receipts) (length (pairs_in c.receipts)) u.doubts → Works kept Stopped pairs x u
    stopped amount number pending doubts = record {
      receipts = c.receipts;
      pending = c.pending;
      rise = subst (λ (n : ℕ). Rise n (length u.history) c.receipts) (sym opening_same) (rise_wider v.opening (length v.history) (length u.history) c.receipts (front_length v.history u.history seen) c.rise);
      sealed = sealed_on w x v.history u.history c.receipts stays.writer stays.told (omega (arith, number)) others seen c.sealed;
      amount = amount ∙ c.amount;
      short = c.short;
      pairs_are = c.pairs_are;
      is_pending = pending c.pending c.is_pending;
      room = room_still;
      stands = omega (arith, c.stands.2);
      doubts = doubts;
      free = free_still ∙ c.free;
      dataset = dataset_still;
      bounded = bounded_still;
      tells = tells_still;
    }

  -- nothing was pending
  idle_flushed : (pairs : List Pair) (w : Writing H) (v : View) → Works kept Filling pairs w v → IsPending w [] → Works kept Flushed pairs w v
  idle_flushed pairs w v c none = record {
    receipts = c.receipts;
    pending = c.pending;
    rise = c.rise;
    sealed = c.sealed;
    amount = c.amount;
    short = c.short;
    pairs_are = c.pairs_are;
    is_pending = c.is_pending;
    room = c.room;
    stands = (omega (arith, c.stands.2), none_pending w c.pending c.stands.0 none c.is_pending);
    doubts = c.doubts;
    free = c.free;
    dataset = c.dataset;
    bounded = c.bounded;
    tells = c.tells;
  }

  idle_emptied : (pairs : List Pair) (w x : Writing H) (u : View) → IsPending w [] → IsFilled w → Works kept Emptied pairs x u
  idle_emptied pairs w x u none filled = absurd (let k = filled [] none in omega (arith, k))

  abbrev fine : (F : Type 0) → Flush → Result Flush (FlushFault F)
  fine F f = Ok f

  still_none : (a b : List Listing) → AreFewer a b → a ≡ [] → b ≡ []
  still_none a b (inl same) none = same ∙ none
  still_none a b (inr is) none = is

  module _ (F : Type 0) (pairs : List Pair) (w x : Writing H) (v u : View) (c : Works kept Filling pairs w v) (seen : IsPrefix v.history u.history) (rest : u ≡ record v { history = u.history; amount = u.amount; doubts = u.doubts }) (stays : archiver.StaysOf w x)
      (others : KeepsOthers (number_of w) (kept w.shelf) (kept x.shelf)) where
    pub list_ok : (f : Flush) → UsesOne w x
        → (fine F f ≡ Ok ends.Nothing → IsPending w [])
        → (fine F f ≡ Ok ends.Nothing → (u ≡ v) × (x ≡ w))
        → ((r : Receipt) → fine F f ≡ Ok (ends.Listed r) → Lists kept w x v.history r.number u.history)
        → ((r : Receipt) → fine F f ≡ Ok (ends.Listed r) → u.amount ≡ v.amount + 1)
        → ((r : Receipt) → fine F f ≡ Ok (ends.Listed r) → u.doubts ≡ [])
        → ((r : Receipt) → fine F f ≡ Ok (ends.Listed r) → (x.unlisted ≡ None) × IsPending x [])
        → causes.FullAfter v u (fine F f)
        → ListedAll kept {F = F} (Ok tt) pairs w x u
    list_ok ends.Nothing uses nothing idle listed counted sure emptied full =
        let i = idle refl in
        let none = nothing refl in
        let done : Works kept Flushed pairs x u = subst (λ (a : View). Works kept Flushed pairs x a) (sym i.0) (subst (λ (y : Writing H). Works kept Flushed pairs y v) (sym i.1) (idle_flushed pairs w v c none)) in
        (done, λ filled. idle_emptied pairs w x u none filled)
    list_ok (ends.Listed r) uses nothing idle listed counted sure emptied full =
        let e = emptied r refl in (
          listed_flushed pairs w x v u c seen rest stays others r.number (listed r refl) (counted r refl) (sure r refl) e.0 e.1 uses full,
          listed_emptied pairs w x v u c seen rest stays others r.number (listed r refl) (counted r refl) (sure r refl) e.0 e.1 uses full,
        )

    -- the doubt after a fault: the segment that waits came to its listing
    in_doubt : causes.DoubtsWaiting x.unlisted u.doubts → FailedBefore w x ⊎ IsReady kept x → (x.is_kept ≡ true → IfSome x.unlisted (λ s. s.files.entry.writer ≡ x.writer)) → IsDoubted kept x (length c.receipts) (length (pairs_in c.receipts)) u.doubts
    in_doubt d (inl before) owns = absurd (let a = d.1 in let b = before.unsealed in cc (a, b))
    in_doubt d (inr ready) owns =
        let same : d.0 ≡ ready.segment = (let a = d.1 in let b = ready.waits in cc (a, b)) in
        record {
          segment = ready.segment;
          waits = ready.waits;
          doubts_are = d.2 ∙ ap (λ (s : Standing). listing s ∷ []) same;
          writer = subst (λ (o : Option Standing). IfSome o (λ s. s.files.entry.writer ≡ x.writer)) ready.waits (owns ready.came);
          files = ready.files;
          full = c.stands.2;
        }

    pub list_err : (e : FlushFault F) → ((b : List Pair) → IsPending w b → IsPending x b) → (u.amount ≡ v.amount) × (number_of x ≡ number_of w) → causes.FullAfter v u (Err e) → causes.LeavesDoubts x.unlisted v.doubts u.doubts e
        → causes.OnFlushDisk e (FailedBefore w x ⊎ IsReady kept x) → (x.is_kept ≡ true → IfSome x.unlisted (λ s. s.files.entry.writer ≡ x.writer)) → ((count : ℕ) → e ≡ flushes.TableFull count → HasSealed x) → ListedAll kept (Err e) pairs w x u
    list_err (flushes.Disk f) pending refused full (inl fewer) cause owns waits = stopped pairs w x v u c seen rest stays others refused.0 refused.1 pending (inl (still_none v.doubts u.doubts fewer c.doubts))
    list_err (flushes.Disk f) pending refused full (inr d) cause owns waits = stopped pairs w x v u c seen rest stays others refused.0 refused.1 pending (inr (in_doubt d cause owns))
    list_err (flushes.TableFull count) pending refused full doubts cause owns waits = (stopped pairs w x v u c seen rest stays others refused.0 refused.1 pending (inl (still_none v.doubts u.doubts doubts c.doubts)), full.0, full.1, waits count refl)
    list_err flushes.NoMemory pending refused full doubts cause owns waits = stopped pairs w x v u c seen rest stays others refused.0 refused.1 pending (inl (still_none v.doubts u.doubts doubts c.doubts))

  -- a put that failed stops the worker
  pub put_stopped : (pairs : List Pair) (w : Writing H) (v : View) → Works kept Filling pairs w v → Works kept Stopped pairs w v
  put_stopped pairs w v c = record {
    receipts = c.receipts;
    pending = c.pending;
    rise = c.rise;
    sealed = c.sealed;
    amount = c.amount;
    short = c.short;
    pairs_are = c.pairs_are;
    is_pending = c.is_pending;
    room = c.room;
    stands = omega (arith, c.stands.2);
    doubts = inl c.doubts;
    free = c.free;
    dataset = c.dataset;
    bounded = c.bounded;
    tells = c.tells;
  }
