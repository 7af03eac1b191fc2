-- From what each job did to what all lanes did.
use Rattle.std.proofs.Common.{◌≡◌, ◌<◌, ◌≤◌, ◌+◌, ◌-◌, ◌^◌, ◌⊎◌, inl, inr, ℕ, zero, suc, List, [], ◌∷◌, ◌++◌, map, take, drop, get_or, length, sym, refl, ap, ◌∙◌, subst, arith, length-append, append_assoc, Bool, Option, Some, None, Vec, All, true}
use Rattle.std.specs.Prelude.{Contains, slice_get}
use Rattle.std.specs.Option.{option_to_list}
use Rattle.std.proofs.lemmas.List.{length-map}
use Rattle.std.proofs.lemmas.List.Elements.{All-head, All-tail, All-push}
use mathlib.Core.List.{IsPrefix, append-nil, map-append}
use Rattle.fd_disk.specs.declared.folders.FileName.{FileName}
use Rattle.fd_entries.specs.declared.batch.Pair.{Pair}
use Rattle.fd_entries.specs.declared.batch.Listing.{Listing}
use Rattle.fd_entries.specs.Table.{greatest_writer}
use Rattle.fd_schema.specs.Rules.{Rule, Texts}
use Rattle.fd_script.specs.declared.script.Lane.{Lane}
use Rattle.fd_turn.specs.declared.board.Pass.{Pass}
use Rattle.fd_turn.specs.declared.view.Lock.TheVariants.{Free}
use Rattle.fd_turn.specs.Views.{View, all_parts, merger, recipient}
use Rattle.fd_turn.specs.Passes.{BoardId, view, IsOf}
use Rattle.fd_dataset.specs.Causes.{AreFewer}
use Rattle.fd_archiver.specs.Writing.{Writing}
use Rattle.fd_retriever.specs.Kept.{Kept}
use Rattle.fd_retriever.specs.Answers.{Tells}
use Rattle.fd_lanes.specs.declared.lane.Job.{Job}
use Rattle.fd_lanes.specs.declared.end.End.{End}
use Rattle.fd_numbers.specs.Numbers.{IsIn, Differ}
use Rattle.fd_lanes.specs.Tables.{AlikeTables, StandsFor}
use Rattle.fd_lanes.specs.Acts.{Act, ArePlaces, LanesFit, acts_of, all_acts, left_after, places_at}
use Rattle.fd_lanes.specs.Walks.{beginning, receipts, walked}
use Rattle.fd_lanes.specs.Legal.{IsListedIn, IsFullIn, IsAnsweredIn, IsDamagedIn, WalksIn, AllWalkIn, all_receipts, AllSound, IsDoubt, IsLegal, IsRunOf}
use Rattle.fd_lanes.specs.Fits.{AreKept, Keeps}
use Rattle.fd_lanes.specs.Jobs.{AllKept, AreKeptFrom, HasRoom, IsFresh, IsKeptBy, IsKeptByOne, IsReady, MayBegin, Ran, RanAt, RanJob, TookIn, all_amounts_of, all_doubts_of, all_parts_of, archivers_of, ends_of, owners_of, writers_of}
use Rattle.fd_lanes.proofs.Histories.{prefix_self, prefix_trans, prefix_length, listed_longer, full_longer, answered_longer, damaged_longer}
use Rattle.fd_lanes.proofs.Keeping.{kept_by}
use Rattle.fd_lanes.proofs.Legality.{each_number, legal}
use Rattle.fd_lanes.proofs.Receipts.{number_in}
use Rattle.fd_lanes.proofs.Running.{keeps_on, writer_fits}
use Rattle.fd_lanes.proofs.Walking.{in_either, walks_map}

get_or_map : {A B : Type 0} (f : A → B) (xs : List A) (i : ℕ) (d : A) → get_or (map f xs) i (f d) ≡ f (get_or xs i d)
get_or_map f [] i d = refl
get_or_map f (x ∷ xs) zero d = refl
get_or_map f (x ∷ xs) (suc i) d = get_or_map f xs i d

contains_in : {A : Type 0} (xs : List A) (x : A) (k : ℕ) → k < length xs → get_or xs k x ≡ x → IsIn xs x
contains_in [] x k lt is = absurd (omega arith)
contains_in (y ∷ xs) x zero lt is = inl is
contains_in (y ∷ xs) x (suc k) lt is = inr (contains_in xs x k (omega arith) is)

inside_at : {A : Type 0} (xs : List A) (k : ℕ) (x : A) → slice_get xs k ≡ Some x → k < length xs
inside_at [] k x h = absurd (cc h)
inside_at (y ∷ ys) zero x h = omega arith
inside_at (y ∷ ys) (suc k) x h = let r = inside_at ys k x h in omega arith

-- a pass that is split off is the same before and after other splits
pub recipient_same : (v w : View) → v.history ≡ w.history → v.opening ≡ w.opening → v.subject ≡ w.subject → v.told ≡ w.told → recipient v ≡ recipient w
recipient_same v w h o s t = λ i. record { history = h i; parts = 1; amount = 0; doubts = []; opening = o i; subject = s i; told = t i; lock = Free }

pub one_job_more : {B C : Type 0} (f : B → C) (js ks : List B) (xs : List C) (j : B) (x : C) → map f js ≡ xs → f j ≡ x → ks ≡ js ++ j ∷ [] → map f ks ≡ xs ++ x ∷ []
one_job_more f js ks xs j x is here more = ap (map f) more ∙ (map-append f js (j ∷ []) ∙ (ap (λ l. l ++ f j ∷ []) is ∙ ap (λ y. xs ++ y ∷ []) here))

pub All_with : {B : Type 0} (P : B → Type 0) (js ks : List B) (j : B) → All P js → P j → ks ≡ js ++ j ∷ [] → All P ks
All_with P js ks j all here more = subst (All P) (sym more) (All-push P js j all here)

pub one_less : {B : Type 0} (xs ys : List B) (r : Option B) (x : B) → xs ≡ ys ++ option_to_list r → r ≡ Some x → length xs ≡ length ys + 1
one_less xs ys r x is some = ap length is ∙ (ap (λ o. length (ys ++ option_to_list o)) some ∙ length-append ys (x ∷ []))

-- a slice of a list that is written whole
pub written : (B : Type 0) (js ks : List B) (n : ℕ) → n ≡ length js → length ks ≡ length js → take n (ks ++ drop (length ks) js) ≡ ks
written B js ks n is long = ap (λ (m : ℕ). take n (ks ++ drop m js)) long ∙ (ap (λ (xs : List B). take n (ks ++ xs)) (drop_all js) ∙ (ap (take n) (append-nil ks) ∙ (ap (λ (m : ℕ). take m ks) (is ∙ sym long) ∙ take_all ks)))
  where
    drop_all : (xs : List B) → drop (length xs) xs ≡ []
    drop_all [] = refl
    drop_all (x ∷ xs) = drop_all xs

    take_all : (xs : List B) → take (length xs) xs ≡ xs
    take_all [] = refl
    take_all (x ∷ xs) = ap (λ ys. x ∷ ys) (take_all xs)

-- an archiver with which a lane may begin still is one over a longer history
begin_later : (H : Type 0) (u v : View) (x : Writing H) → IsPrefix u.history v.history → MayBegin u.subject (length u.history) x → MayBegin u.subject (length v.history) x
begin_later H u v x seen m = record { nothing = m.nothing; dataset = m.dataset; writer = writer_fits u v x.writer seen m.writer; left = m.left; keys = m.keys; bytes = m.bytes }

module _ (F H X Y : Type 0) where
  parts_more : (ys : List (Job (Writing H) (Pass X Y) (List Kept) (End F))) (j : Job (Writing H) (Pass X Y) (List Kept) (End F)) → all_parts_of (ys ++ j ∷ []) ≡ all_parts_of ys + (view j.pass).parts
  parts_more [] j = omega arith
  parts_more (y ∷ ys) j = let rest = parts_more ys j in omega arith

  amounts_more : (ys : List (Job (Writing H) (Pass X Y) (List Kept) (End F))) (j : Job (Writing H) (Pass X Y) (List Kept) (End F)) → all_amounts_of (ys ++ j ∷ []) ≡ all_amounts_of ys + (view j.pass).amount
  amounts_more [] j = omega arith
  amounts_more (y ∷ ys) j = let rest = amounts_more ys j in omega arith

  doubts_more : (ys : List (Job (Writing H) (Pass X Y) (List Kept) (End F))) (j : Job (Writing H) (Pass X Y) (List Kept) (End F)) → all_doubts_of (ys ++ j ∷ []) ≡ all_doubts_of ys ++ (view j.pass).doubts
  doubts_more [] j = append-nil (view j.pass).doubts
  doubts_more (y ∷ ys) j = ap (λ (ls : List Listing). (view y.pass).doubts ++ ls) (doubts_more ys j) ∙ sym (append_assoc (view y.pass).doubts (all_doubts_of ys) (view j.pass).doubts)

  pub took_none : (v : View) → v.lock ≡ Free → TookIn {F = F} {H = H} {X = X} {Y = Y} v v []
  took_none v free = record {
    seen = ([], append-nil v.history);
    each = λ k d lt. absurd (omega arith);
    opening = refl;
    subject = refl;
    parts = omega arith;
    amount = omega arith;
    doubts = sym (append-nil v.doubts);
    free = free;
  }

  pub took_more : (v w w' : View) (ys : List (Job (Writing H) (Pass X Y) (List Kept) (End F))) (j : Job (Writing H) (Pass X Y) (List Kept) (End F)) → TookIn v w ys → w' ≡ merger w (view j.pass) → IsPrefix w.history w'.history → IsPrefix (view j.pass).history w'.history → TookIn v w' (ys ++ j ∷ [])
  took_more v w w' ys j t is seen its =
      let p = parts_more ys j in let a = amounts_more ys j in let d = doubts_more ys j in
      let tp = t.parts in let ta = t.amount in
      let wp : w'.parts ≡ w.parts + (view j.pass).parts = ap (λ (x : View). x.parts) is in
      let wa : w'.amount ≡ w.amount + (view j.pass).amount = ap (λ (x : View). x.amount) is in
      let wd : w'.doubts ≡ w.doubts ++ (view j.pass).doubts = ap (λ (x : View). x.doubts) is in
      record {
        seen = prefix_trans v.history w.history w'.history t.seen seen;
        each = All-push (λ (x : Job (Writing H) (Pass X Y) (List Kept) (End F)). IsPrefix (view x.pass).history w'.history) ys j (λ k d lt. prefix_trans (view (get_or ys k d).pass).history w.history w'.history (t.each k d lt) seen) its;
        opening = ap (λ (x : View). x.opening) is ∙ t.opening;
        subject = ap (λ (x : View). x.subject) is ∙ t.subject;
        parts = omega arith;
        amount = omega arith;
        doubts = wd ∙ (ap (λ (ls : List Listing). ls ++ (view j.pass).doubts) t.doubts ∙ (append_assoc v.doubts (all_doubts_of ys) (view j.pass).doubts ∙ ap (λ (ls : List Listing). v.doubts ++ ls) (sym d)));
        free = ap (λ (x : View). x.lock) is ∙ t.free;
      }

  pub all_fresh : (z : BoardId) (u v : View) (js ys : List (Job (Writing H) (Pass X Y) (List Kept) (End F))) (xs : List (Writing H)) → ys ≡ js → archivers_of js ≡ xs → IsPrefix u.history v.history → v.subject ≡ u.subject → All (MayBegin u.subject (length u.history)) xs
      → All (IsReady z (recipient v)) js → All (IsFresh z) ys
  all_fresh z u v js ys xs same is seen subject all ready = subst (All (IsFresh z)) (sym same) (λ k d lt.
      let long : length xs ≡ length js = ap length (sym is) ∙ length-map js (λ j. j.archiver) in
      let r = ready k d lt in
      let e : get_or xs k d.archiver ≡ (get_or js k d).archiver = ap (λ (ys : List (Writing H)). get_or ys k d.archiver) (sym is) ∙ get_or_map (λ (j : Job (Writing H) (Pass X Y) (List Kept) (End F)). j.archiver) js k d in
      let m : MayBegin u.subject (length u.history) (get_or js k d).archiver = subst (MayBegin u.subject (length u.history)) e (all k d.archiver (omega arith)) in
      let n : MayBegin v.subject (length v.history) (get_or js k d).archiver = subst (λ (s : List ℕ). MayBegin s (length v.history) (get_or js k d).archiver) (sym subject) (begin_later H u v (get_or js k d).archiver seen m) in
      record {
        own = r.own;
        free = ap (λ (x : View). x.lock) r.fresh;
        sure = ap (λ (x : View). x.doubts) r.fresh;
        archiver = subst (λ (x : View). MayBegin x.subject (length x.history) (get_or js k d).archiver) (sym r.fresh) n;
        closed = r.closed;
        room = r.room;
      })

  pub all_fit : (z : BoardId) (v : View) (text : List ℕ) (rules : List Rule) (messages : List (List ℕ)) (places : List Texts) (lanes : List Lane) (js ys : List (Job (Writing H) (Pass X Y) (List Kept) (End F))) → ys ≡ js → v.subject ≡ text → LanesFit rules messages text places lanes → All (IsReady z (recipient v)) js
      → All (λ (j : Job (Writing H) (Pass X Y) (List Kept) (End F)). LanesFit rules messages (view j.pass).subject places lanes) ys
  all_fit z v text rules messages places lanes js ys same subject fit ready = subst (All (λ (j : Job (Writing H) (Pass X Y) (List Kept) (End F)). LanesFit rules messages (view j.pass).subject places lanes)) (sym same) (λ k d lt.
      subst (λ (t : List ℕ). LanesFit rules messages t places lanes) (sym (ap (λ (x : View). x.subject) (ready k d lt).fresh ∙ subject)) fit)

  -- after the runs each pass is of the board, and free
  pub all_back : (kept : H → Option (FileName → Option (List ℕ))) (z : BoardId) (rules : List Rule) (messages : List (List ℕ)) (places : List Texts) (lanes : List Lane) (js ks ws : List (Job (Writing H) (Pass X Y) (List Kept) (End F))) → ws ≡ ks → length js ≡ length lanes → length ks ≡ length js
      → ((i : ℕ) (e : Job (Writing H) (Pass X Y) (List Kept) (End F)) → i < length js → RanAt kept z rules messages places lanes i (get_or js i e) (get_or ks i e))
      → All (λ (j : Job (Writing H) (Pass X Y) (List Kept) (End F)). IsOf z j.pass × ((view j.pass).lock ≡ Free)) ws
  all_back kept z rules messages places [] js ks ws same long long' ran = subst (All (λ (j : Job (Writing H) (Pass X Y) (List Kept) (End F)). IsOf z j.pass × ((view j.pass).lock ≡ Free))) (sym same) (λ k d lt. absurd (omega arith))
  all_back kept z rules messages places (l ∷ lanes) js ks ws same long long' ran = subst (All (λ (j : Job (Writing H) (Pass X Y) (List Kept) (End F)). IsOf z j.pass × ((view j.pass).lock ≡ Free))) (sym same) (λ k d lt. let r = (ran k d (omega arith)).ran l in (r.own, r.keeps.free))

  pub record AllRan (kept : H → Option (FileName → Option (List ℕ))) (z : BoardId) (v : View) (hs : List Listing) (script : List (List Act)) (js ks : List (Job (Writing H) (Pass X Y) (List Kept) (End F))) : Type 0 where
    pub walks : AllWalkIn hs (length v.history) (writers_of (archivers_of js)) script (ends_of ks)
    pub amounts : all_amounts_of ks ≡ length (all_receipts (length v.history) script (ends_of ks))
    pub parts : all_parts_of ks ≡ length js
    pub writers : writers_of (archivers_of ks) ≡ writers_of (archivers_of js)
    pub owners : owners_of (archivers_of ks) ≡ owners_of (archivers_of js)
    pub doubts : (l : Listing) → IsIn (all_doubts_of ks) l → IsDoubt l (length v.history) script (ends_of ks)
    pub files : (r : ℕ × List Pair) (l : Listing) → IsIn (all_receipts (length v.history) script (ends_of ks)) r → slice_get hs (r.0 - 1) ≡ Some l → IsKeptByOne kept (archivers_of ks) l
    pub doubted : (l : Listing) → IsIn (all_doubts_of ks) l → IsKeptByOne kept (archivers_of ks) l

  pub all_ran : (kept : H → Option (FileName → Option (List ℕ))) (z : BoardId) (v : View) (hs : List Listing) (rules : List Rule) (messages : List (List ℕ)) (places : List Texts) (lanes : List Lane) (js ks : List (Job (Writing H) (Pass X Y) (List Kept) (End F))) → v.amount ≡ 0 → v.parts ≡ 1 → length js ≡ length lanes → length ks ≡ length js → All (IsReady z v) js
      → ((i : ℕ) (e : Job (Writing H) (Pass X Y) (List Kept) (End F)) → i < length js → RanAt kept z rules messages places lanes i (get_or js i e) (get_or ks i e)) → All (λ (j : Job (Writing H) (Pass X Y) (List Kept) (End F)). IsPrefix (view j.pass).history hs) ks
      → AllRan kept z v hs (all_acts rules messages places lanes) js ks
  all_ran kept z v hs rules messages places [] [] [] none one long long' ready ran seen = record { walks = tt; amounts = refl; parts = refl; writers = refl; owners = refl; doubts = λ l i. i; files = λ r l i at. absurd i; doubted = λ l i. absurd i }
  all_ran kept z v hs rules messages places [] [] (k ∷ ks) none one long long' ready ran seen = absurd (omega arith)
  all_ran kept z v hs rules messages places [] (j ∷ js) ks none one long long' ready ran seen = absurd (omega arith)
  all_ran kept z v hs rules messages places (a ∷ lanes) [] ks none one long long' ready ran seen = absurd (omega arith)
  all_ran kept z v hs rules messages places (a ∷ lanes) (j ∷ js) [] none one long long' ready ran seen = absurd (omega arith)
  all_ran kept z v hs rules messages places (a ∷ lanes) (j ∷ js) (k ∷ ks) none one long long' ready ran seen =
      let rest = all_ran kept z v hs rules messages (left_after places a.steps) lanes js ks none one (omega arith) (omega arith) (All-tail (IsReady z v) j js ready) (λ i e lt. record { ran = λ d. (ran (suc i) e (omega arith)).ran d }) (All-tail (λ (x : Job (Writing H) (Pass X Y) (List Kept) (End F)). IsPrefix (view x.pass).history hs) k ks seen) in
      let acts : List Act = acts_of rules messages places a.steps in
      let r : RanJob kept z acts j k = (ran 0 j (omega arith)).ran a in
      let p : IsPrefix (view k.pass).history hs = seen 0 k (omega arith) in
      let fresh : view j.pass ≡ v = (ready 0 j (omega arith)).fresh in
      let w : ℕ = j.archiver.writer in
      let b : ℕ = length v.history in
      let long_is : length (view j.pass).history ≡ b = ap (λ (x : View). length x.history) fresh in
      let walks' : WalksIn (view k.pass).history w (beginning b) acts k.ends.items = subst (λ (n : ℕ). WalksIn (view k.pass).history w (beginning n) acts k.ends.items) long_is r.walks in
      let amount' : (view k.pass).amount ≡ v.amount + length (receipts (beginning b) acts k.ends.items) = subst (λ (x : View). (view k.pass).amount ≡ x.amount + length (receipts (beginning (length x.history)) acts k.ends.items)) fresh r.amount in
      let parts' : (view k.pass).parts ≡ v.parts = r.keeps.parts ∙ ap (λ (x : View). x.parts) fresh in
      let both = length-append (receipts (beginning b) acts k.ends.items) (all_receipts b (all_acts rules messages (left_after places a.steps) lanes) (ends_of ks)) in
      let ra = rest.amounts in let rp = rest.parts in
      record {
        walks = (
          walks_map F (IsListedIn (view k.pass).history w) (IsFullIn (view k.pass).history w) (IsAnsweredIn (view k.pass).history w) (IsDamagedIn (view k.pass).history w) (IsListedIn hs w) (IsFullIn hs w) (IsAnsweredIn hs w) (IsDamagedIn hs w)
              (full_longer (view k.pass).history hs w p) (answered_longer (view k.pass).history hs w p) (damaged_longer (view k.pass).history hs w p) (beginning b) acts k.ends.items (listed_longer (view k.pass).history hs w p) walks',
          rest.walks,
        );
        amounts = omega arith;
        parts = omega arith;
        writers = (let rw' = r.writer in let rr = rest.writers in cc (rw', rr));
        owners = (let rw' = r.writer in let rd = r.dataset in let rt = r.told in let rr = rest.owners in cc (rw', rd, rt, rr));
        files = λ m l i at. its m l (λ q. rest.files m l q at) at (subst (λ (n : ℕ). AreKept kept k.archiver (view k.pass).history (receipts (beginning n) acts k.ends.items)) long_is r.listed) p (in_either (receipts (beginning b) acts k.ends.items) (all_receipts b (all_acts rules messages (left_after places a.steps) lanes) (ends_of ks)) m i);
        doubts = λ l i. go l (λ q. rest.doubts l q) (subst (λ (n : ℕ). (m : Listing) → IsIn (view k.pass).doubts m → ((walked (beginning n) acts k.ends.items).faulted ≡ true) × StandsFor m (walked (beginning n) acts k.ends.items).pending) long_is r.doubts l) (in_either (view k.pass).doubts (all_doubts_of ks) l i);
        doubted = λ l i. own l (λ q. r.doubted l q) (λ q. rest.doubted l q) (in_either (view k.pass).doubts (all_doubts_of ks) l i);
      }
    where
      go : (l : Listing) → (IsIn (all_doubts_of ks) l → IsDoubt l (length v.history) (all_acts rules messages (left_after places a.steps) lanes) (ends_of ks))
          → (IsIn (view k.pass).doubts l → ((walked (beginning (length v.history)) (acts_of rules messages places a.steps) k.ends.items).faulted ≡ true) × StandsFor l (walked (beginning (length v.history)) (acts_of rules messages places a.steps) k.ends.items).pending)
          → IsIn (view k.pass).doubts l ⊎ IsIn (all_doubts_of ks) l → IsDoubt l (length v.history) (all_acts rules messages places (a ∷ lanes)) (ends_of (k ∷ ks))
      go l later here (inl q) = inl (here q)
      go l later here (inr q) = inr (later q)

      own : (l : Listing) → (IsIn (view k.pass).doubts l → IsKeptBy kept k.archiver l) → (IsIn (all_doubts_of ks) l → IsKeptByOne kept (archivers_of ks) l) → IsIn (view k.pass).doubts l ⊎ IsIn (all_doubts_of ks) l → IsKeptByOne kept (archivers_of (k ∷ ks)) l
      own l here later (inl q) = inl (here q)
      own l here later (inr q) = inr (later q)

      its : (m : ℕ × List Pair) (l : Listing) → (IsIn (all_receipts (length v.history) (all_acts rules messages (left_after places a.steps) lanes) (ends_of ks)) m → IsKeptByOne kept (archivers_of ks) l) → slice_get hs (m.0 - 1) ≡ Some l
          → AreKept kept k.archiver (view k.pass).history (receipts (beginning (length v.history)) (acts_of rules messages places a.steps) k.ends.items) → IsPrefix (view k.pass).history hs
          → IsIn (receipts (beginning (length v.history)) (acts_of rules messages places a.steps) k.ends.items) m ⊎ IsIn (all_receipts (length v.history) (all_acts rules messages (left_after places a.steps) lanes) (ends_of ks)) m → IsKeptByOne kept (archivers_of (k ∷ ks)) l
      its m l later at here seen (inl q) = inl (kept_by F H kept k.archiver (view k.pass).history hs m.1 m.0 l seen (here m q) at)
      its m l later at here seen (inr q) = inr (later q)

  -- what is known of the pass at each call
  pub record Passed (z : BoardId) (v0 v1 v2 v3 v4 : View) (before : ℕ) (xs : List (Writing H)) (js ks : List (Job (Writing H) (Pass X Y) (List Kept) (End F))) : Type 0 where
    pub settled : Keeps v0 v1
    pub sure0 : v0.doubts ≡ []
    pub all0 : v0.parts ≡ all_parts
    pub amount1 : v1.amount ≡ v0.amount
    pub doubts1 : v1.doubts ≡ v0.doubts
    pub number1 : before ≡ length v1.history
    pub number0 : before ≡ v0.opening + v0.amount
    pub sent : v2 ≡ record v1 { parts = v2.parts }
    pub parts2 : v2.parts + length xs ≡ v1.parts
    pub archivers : archivers_of js ≡ xs
    pub ready : All (IsReady z (recipient v1)) js
    pub took : TookIn v2 v3 ks
    pub seen4 : IsPrefix v3.history v4.history
    pub count4 : v3.parts ≡ all_parts → v4.opening + v4.amount ≡ length v4.history
    pub fewer4 : AreFewer v3.doubts v4.doubts
    pub few4 : length v4.history ≤ 65535
    pub rest4 : v4 ≡ record v3 { history = v4.history; doubts = v4.doubts }

  pub finish : (kept : H → Option (FileName → Option (List ℕ))) (z : BoardId) (v0 v1 v2 v3 v4 : View) (before : ℕ) (rules : List Rule) (messages : List (List ℕ)) (places : List Texts) (lanes : List Lane) (xs : List (Writing H)) (js ks : List (Job (Writing H) (Pass X Y) (List Kept) (End F)))
      → Passed z v0 v1 v2 v3 v4 before xs js ks → Differ (writers_of xs) → length xs ≡ length lanes → length ks ≡ length js
      → ((i : ℕ) (e : Job (Writing H) (Pass X Y) (List Kept) (End F)) → i < length js → RanAt kept z rules messages places lanes i (get_or js i e) (get_or ks i e))
      → Ran v0 v4 before (all_acts rules messages places lanes) (ends_of ks) × (writers_of (archivers_of ks) ≡ writers_of xs) × (owners_of (archivers_of ks) ≡ owners_of xs) × AreKeptFrom kept (archivers_of ks) before v4.history × AllKept kept (archivers_of ks) v4.doubts
  finish kept z v0 v1 v2 v3 v4 before rules messages places lanes xs js ks p differ long long' ran =
      let script : List (List Act) = all_acts rules messages places lanes in
      let n : length xs ≡ length js = ap length (sym p.archivers) ∙ length-map js (λ j. j.archiver) in
      let each : All (λ (j : Job (Writing H) (Pass X Y) (List Kept) (End F)). IsPrefix (view j.pass).history v4.history) ks = λ k d lt. prefix_trans (view (get_or ks k d).pass).history v3.history v4.history (p.took.each k d lt) p.seen4 in
      let g = all_ran kept z (recipient v1) v4.history rules messages places lanes js ks refl refl (omega arith) long' p.ready ran each in
      let rs : ℕ = length (all_receipts (length v1.history) script (ends_of ks)) in
      let amounts : all_amounts_of ks ≡ rs = g.amounts in
      let parts = g.parts in
      let h2 : v2.history ≡ v1.history = ap (λ (x : View). x.history) p.sent in
      let o2 : v2.opening ≡ v1.opening = ap (λ (x : View). x.opening) p.sent in
      let s2 : v2.subject ≡ v1.subject = ap (λ (x : View). x.subject) p.sent in
      let a2 : v2.amount ≡ v1.amount = ap (λ (x : View). x.amount) p.sent in
      let d2 : v2.doubts ≡ v1.doubts = ap (λ (x : View). x.doubts) p.sent in
      let o4 : v4.opening ≡ v3.opening = ap (λ (x : View). x.opening) p.rest4 in
      let s4 : v4.subject ≡ v3.subject = ap (λ (x : View). x.subject) p.rest4 in
      let a4 : v4.amount ≡ v3.amount = ap (λ (x : View). x.amount) p.rest4 in
      let p4 : v4.parts ≡ v3.parts = ap (λ (x : View). x.parts) p.rest4 in
      let f4 : v4.lock ≡ v3.lock = ap (λ (x : View). x.lock) p.rest4 in
      let op = p.settled.opening in let pp = p.settled.parts in
      let tp = p.took.parts in let ta = p.took.amount in let to = p.took.opening in
      let a1 = p.amount1 in let b1 = p.number1 in let b0 = p.number0 in let p2 = p.parts2 in let all = p.all0 in
      let full : v3.parts ≡ all_parts = omega arith in
      let whole = p.count4 full in
      let total : length v4.history ≡ length v1.history + rs = omega arith in
      let first : IsPrefix v1.history v3.history = subst (λ (hs : List Listing). IsPrefix hs v3.history) h2 p.took.seen in
      let differ' : Differ (writers_of (archivers_of js)) = subst (λ (ys : List (Writing H)). Differ (writers_of ys)) (sym p.archivers) differ in
      let inside = prefix_length v0.history v1.history p.settled.seen in
      let doubts3 : v3.doubts ≡ all_doubts_of ks = p.took.doubts ∙ ap (λ (ls : List Listing). ls ++ all_doubts_of ks) (d2 ∙ (p.doubts1 ∙ p.sure0)) in (
        record {
          keeps = record {
            seen = prefix_trans v0.history v1.history v4.history p.settled.seen (prefix_trans v1.history v3.history v4.history first p.seen4);
            parts = omega arith;
            opening = omega arith;
            subject = s4 ∙ (p.took.subject ∙ (s2 ∙ p.settled.subject));
            free = f4 ∙ p.took.free;
          };
          begins = p.number0;
          inside = omega arith;
          whole = sym whole;
          legal = λ t tells. subst (λ (b : ℕ). (flushed : List (List Pair)) × IsLegal (take b t) flushed script (ends_of ks) × AlikeTables t (take b t ++ flushed) × AllSound (ends_of ks)) (sym b1)
              (legal F v4.history (length v1.history) (writers_of (archivers_of js)) script (ends_of ks) t differ' g.walks total p.few4 tells);
          doubts = λ l c. subst (λ (b : ℕ). IsDoubt l b script (ends_of ks)) (sym b1) (g.doubts l (go p.fewer4 doubts3 l (contains_in v4.doubts l c.0 c.1 c.2)));
        },
        g.writers ∙ ap (λ (ys : List (Writing H)). writers_of ys) p.archivers,
        g.owners ∙ ap (λ (ys : List (Writing H)). owners_of ys) p.archivers,
        λ i l low at.
            let lt = inside_at v4.history i l at in
            let place : i ≡ i + 1 - 1 = omega arith in
            let r = number_in (all_receipts (length v1.history) script (ends_of ks)) (i + 1) (each_number F v4.history (length v1.history) (writers_of (archivers_of js)) script (ends_of ks) differ' g.walks total (i + 1) (omega arith) (omega arith)) in
            g.files (i + 1, r.0) l r.1 (subst (λ (m : ℕ). slice_get v4.history m ≡ Some l) place at),
        λ l c. g.doubted l (go p.fewer4 doubts3 l (contains_in v4.doubts l c.0 c.1 c.2)),
      )
    where
      go : AreFewer v3.doubts v4.doubts → v3.doubts ≡ all_doubts_of ks → (l : Listing) → IsIn v4.doubts l → IsIn (all_doubts_of ks) l
      go (inl same) is l i = subst (λ (ls : List Listing). IsIn ls l) (same ∙ is) i
      go (inr none) is l i = absurd (subst (λ (ls : List Listing). IsIn ls l) none i)

-- archivers with which lanes may begin, over a longer history
pub begin_all : (H : Type 0) (u v : View) (xs : List (Writing H)) → Keeps u v → All (MayBegin u.subject (length u.history)) xs → All (MayBegin v.subject (length v.history)) xs
begin_all H u v xs keeps all = λ k d lt. subst (λ (s : List ℕ). MayBegin s (length v.history) (get_or xs k d)) (sym keeps.subject) (begin_later H u v (get_or xs k d) keeps.seen (all k d lt))

-- what is said of the pass that has seen all is true of the pass before
pub ran_from : (F : Type 0) (u v w : View) (before n : ℕ) (script : List (List Act)) (ends : List (List (End F))) → Keeps u v → n ≡ length v.history → n ≡ u.opening + u.amount → before ≡ n → Ran v w (length v.history) script ends → Ran u w before script ends
ran_from F u v w before n script ends keeps number begins is r =
    let same : before ≡ length v.history = is ∙ number in
    let le = prefix_length u.history v.history keeps.seen in
    record {
      keeps = keeps_on u v w keeps r.keeps;
      begins = is ∙ begins;
      inside = omega arith;
      whole = r.whole;
      legal = λ t tells. subst (λ (b : ℕ). (flushed : List (List Pair)) × IsLegal (take b t) flushed script ends × AlikeTables t (take b t ++ flushed) × AllSound ends) (sym same) (r.legal t tells);
      doubts = λ l c. subst (λ (b : ℕ). IsDoubt l b script ends) (sym same) (r.doubts l c);
    }

-- the same of the script
pub script_ran : (F : Type 0) (rules : List Rule) (messages : List (List ℕ)) (places : List Texts) (lanes : List Lane) (v w : View) (before : ℕ) (ends : List (List (End F))) → ArePlaces rules messages lanes places → Ran v w before (all_acts rules messages places lanes) ends
    → (t : List (List Pair)) → Tells w.history t → IsRunOf rules messages lanes before t ends
script_ran F rules messages places lanes v w before ends are r t tells = let p = r.legal t tells in record {
  flushed = p.0;
  legal = record { places = places; are_places = are; legal = p.1 };
  alike = p.2;
}
