-- Steps that can be done, lane by lane.
use Rattle.std.proofs.Common.{◌≡◌, ◌≤◌, ◌<◌, ◌+◌, ℕ, zero, suc, List, [], ◌∷◌, ◌++◌, length, All, Option, Some, None, refl, sym, ap, ap₂, subst, ◌∙◌, arith, append_assoc, append-nil, slice_get, take}
use Rattle.std.specs.List.{AllZip}
use Rattle.std.proofs.lemmas.List.{take_all}
use Rattle.std.proofs.lemmas.List.Elements.{All-head, All-push, All-tail}
use Rattle.fd_key.specs.Pairs as keys
use Rattle.fd_schema.specs.Rules.{Rule, Texts}
use Rattle.fd_script.specs.declared.script.Lane.{Lane}
use Rattle.fd_script.specs.declared.script.Step.{Step}
use Rattle.fd_script.specs.declared.script.Step.TheVariants as steps
use Rattle.fd_lanes.specs.Acts.{AllFitting, ArePlaces, IsPlaceOf, LanesFit, all_puts, left_after, message_at, puts_of}
use Rattle.fd_casting.specs.Steps.{HasLines, Posed, all_posed, posed}
use Rattle.fd_casting.specs.Done.{AllCan, Can, IsCourse, before}
use Rattle.fd_casting.specs.declared.casting.Course.{Course}

module _ (rules : List Rule) (text : List ℕ) (messages : List (List ℕ)) where
  -- the place of the message of a put
  abbrev IsPlace : List keys.Pair × ℕ → Texts → Type 0
  IsPlace p t = IsPlaceOf rules (message_at messages p.1) p.0 t

  -- of the places of these steps and others those of these come first, and the others can be done with the rest
  record LaneCan (given : List keys.Pair) (ss : List Step) (others : List Posed) (ts : List Texts) : Type 0 where
    front : List Texts
    split : ts ≡ front ++ left_after ts ss
    are : AllZip IsPlace (puts_of given ss) front
    fit : AllFitting rules messages text ts ss
    rest : AllCan rules text messages others (left_after ts ss)

  lane_can : (given : List keys.Pair) (ss : List Step) (lines : List ℕ) (others : List Posed) (ts : List Texts) → length ss ≤ length lines → AllCan rules text messages (posed given ss lines ++ others) ts → LaneCan given ss others ts
  lane_can given [] lines others ts long all = record { front = []; split = refl; are = tt; fit = tt; rest = all }
  lane_can given (s ∷ ss) [] others ts long all = absurd (omega (arith, long))
  lane_can given (s ∷ ss) (n ∷ lines) others ts long all =
      let fewer : length ss ≤ length lines = omega (arith, long) in
      subst (LaneCan given (s ∷ ss) others) (sym all.2) (step_can s all.0 all.1 all.3 (lane_can given ss lines others all.1 fewer all.4))
    where
      step_can : (s : Step) (o : Option Texts) (us : List Texts) → Can rules text messages given s o → LaneCan given ss others us → LaneCan given (s ∷ ss) others (before o us)
      step_can (steps.Put m) None us can more = absurd can
      step_can (steps.Put m) (Some t) us can more = record {
        front = t ∷ more.front;
        split = ap (λ (xs : List Texts). t ∷ xs) more.split;
        are = (can.place, more.are);
        fit = ((can.number.0, can.number.1, can.dataset, can.key, can.bytes), more.fit);
        rest = more.rest;
      }
      step_can steps.Flush None us can more = record { front = more.front; split = more.split; are = more.are; fit = (tt, more.fit); rest = more.rest }
      step_can steps.Flush (Some t) us can more = absurd can
      step_can (steps.Get request) None us can more = record { front = more.front; split = more.split; are = more.are; fit = (can, more.fit); rest = more.rest }
      step_can (steps.Get request) (Some t) us can more = absurd can

  zip_both : (ps qs : List (List keys.Pair × ℕ)) (ts us : List Texts) → AllZip IsPlace ps ts → AllZip IsPlace qs us → AllZip IsPlace (ps ++ qs) (ts ++ us)
  zip_both [] qs [] us a b = b
  zip_both [] qs (t ∷ ts) us a b = absurd a
  zip_both (p ∷ ps) qs [] us a b = absurd a
  zip_both (p ∷ ps) qs (t ∷ ts) us a b = (a.0, zip_both ps qs ts us a.1 b)

  pub all_fit : (lanes : List Lane) (ts : List Texts) → All HasLines lanes → AllCan rules text messages (all_posed lanes) ts → ArePlaces rules messages lanes ts × LanesFit rules messages text ts lanes
  all_fit [] ts have all = (subst (AllZip IsPlace []) (sym all) tt, tt)
  all_fit (l ∷ lanes) ts have all =
      let lane = lane_can l.given l.steps l.lines (all_posed lanes) ts (All-head HasLines l lanes have) all in
      let others = all_fit lanes (left_after ts l.steps) (All-tail HasLines l lanes have) lane.rest in
      (subst (AllZip IsPlace (puts_of l.given l.steps ++ all_puts lanes)) (sym lane.split) (zip_both (puts_of l.given l.steps) (all_puts lanes) lane.front (left_after ts l.steps) lane.are others.0), (lane.fit, others.1))

-- ---- how far lanes were gone over

posed_length : (given : List keys.Pair) (ss : List Step) (lines : List ℕ) → length ss ≤ length lines → length (posed given ss lines) ≡ length ss
posed_length given [] lines long = refl
posed_length given (s ∷ ss) [] long = absurd (omega (arith, long))
posed_length given (s ∷ ss) (n ∷ lines) long = let more = posed_length given ss lines (omega (arith, long)) in omega (arith, more)

-- the steps of a lane, all of them
pub posed_all : (given : List keys.Pair) (ss : List Step) (lines : List ℕ) (n : ℕ) → length ss ≤ length lines → length ss ≤ n → take n (posed given ss lines) ≡ posed given ss lines
posed_all given ss lines n long le = let same = posed_length given ss lines long in take_all n (posed given ss lines) (omega (arith, same, le))

-- one step more of a lane
step_next : (given : List keys.Pair) (ss : List Step) (lines : List ℕ) (i : ℕ) (s : Step) (n : ℕ) → slice_get ss i ≡ Some s → slice_get lines i ≡ Some n
    → take (suc i) (posed given ss lines) ≡ take i (posed given ss lines) ++ record { given = given; step = s; line = n } ∷ []
step_next given [] lines i s n at line = absurd (cc at)
step_next given (x ∷ ss) [] i s n at line = absurd (cc line)
step_next given (x ∷ ss) (m ∷ lines) zero s n at line =
    let a : x ≡ s = cc at in
    let b : m ≡ n = cc line in
    ap₂ (λ (y : Step) (k : ℕ). record { given = given; step = y; line = k } ∷ []) a b
step_next given (x ∷ ss) (m ∷ lines) (suc i) s n at line = ap (λ (ps : List Posed). record { given = given; step = x; line = m } ∷ ps) (step_next given ss lines i s n at line)

pub step_more : (given : List keys.Pair) (ss : List Step) (lines : List ℕ) (i : ℕ) (s : Step) (n : ℕ) → slice_get ss i ≡ Some s → slice_get lines i ≡ Some n
    → (ps : List Posed) → (ps ++ take i (posed given ss lines)) ++ record { given = given; step = s; line = n } ∷ [] ≡ ps ++ take (i + 1) (posed given ss lines)
step_more given ss lines i s n at line ps =
    let up : suc i ≡ i + 1 = omega arith in
    append_assoc ps (take i (posed given ss lines)) (record { given = given; step = s; line = n } ∷ [])
    ∙ ap (λ (qs : List Posed). ps ++ qs) (sym (step_next given ss lines i s n at line) ∙ ap (λ (k : ℕ). take k (posed given ss lines)) up)

-- one lane more
pub lane_more : (lanes : List Lane) (l : Lane) → all_posed lanes ++ posed l.given l.steps l.lines ≡ all_posed (lanes ++ l ∷ [])
lane_more [] l = sym (append-nil (posed l.given l.steps l.lines))
lane_more (k ∷ lanes) l = append_assoc (posed k.given k.steps k.lines) (all_posed lanes) (posed l.given l.steps l.lines) ∙ ap (λ (ps : List Posed). posed k.given k.steps k.lines ++ ps) (lane_more lanes l)

pub there_is : {A : Type 0} (xs : List A) (i : ℕ) → i < length xs → (x : A) × (slice_get xs i ≡ Some x)
there_is [] i lt = absurd (omega (arith, lt))
there_is (x ∷ xs) zero lt = (x, refl)
there_is (x ∷ xs) (suc i) lt = there_is xs i (omega (arith, lt))

next_one : {A : Type 0} (xs : List A) (i : ℕ) (x : A) → slice_get xs i ≡ Some x → take (suc i) xs ≡ take i xs ++ x ∷ []
next_one [] i x at = absurd (cc at)
next_one (y ∷ xs) zero x at = let e : y ≡ x = cc at in ap (λ z. z ∷ []) e
next_one (y ∷ xs) (suc i) x at = ap (λ zs. y ∷ zs) (next_one xs i x at)

pub take_next : {A : Type 0} (xs : List A) (i : ℕ) (x : A) → slice_get xs i ≡ Some x → take (i + 1) xs ≡ take i xs ++ x ∷ []
take_next xs i x at = let up : i + 1 ≡ suc i = omega arith in ap (λ (k : ℕ). take k xs) up ∙ next_one xs i x at

module _ (rules : List Rule) (text : List ℕ) (messages : List (List ℕ)) where
  -- one step more of a lane was gone over
  pub step_goes : (its : List ℕ) (given : List keys.Pair) (ss : List Step) (lines : List ℕ) (i : ℕ) (s : Step) (n : ℕ) (first old new : Course) → its ≡ text → slice_get ss i ≡ Some s → slice_get lines i ≡ Some n
      → ((ps : List Posed) → IsCourse rules its messages ps old → IsCourse rules its messages (ps ++ record { given = given; step = s; line = n } ∷ []) new)
      → ((ps : List Posed) → IsCourse rules text messages ps first → IsCourse rules text messages (ps ++ take i (posed given ss lines)) old)
      → (ps : List Posed) → IsCourse rules text messages ps first → IsCourse rules text messages (ps ++ take (i + 1) (posed given ss lines)) new
  step_goes its given ss lines i s n first old new e at line goes before ps so_far =
      let qs = ps ++ take i (posed given ss lines) in
      let here = goes qs (subst (λ (t : List ℕ). IsCourse rules t messages qs old) (sym e) (before ps so_far)) in
      subst (λ (rs : List Posed). IsCourse rules text messages rs new) (step_more given ss lines i s n at line ps)
      (subst (λ (t : List ℕ). IsCourse rules t messages (qs ++ record { given = given; step = s; line = n } ∷ []) new) e here)

  -- all steps of a lane were gone over
  pub lane_goes : (given : List keys.Pair) (ss : List Step) (lines : List ℕ) (i : ℕ) (first new : Course) → length ss ≤ length lines → length ss ≤ i
      → ((ps : List Posed) → IsCourse rules text messages ps first → IsCourse rules text messages (ps ++ take i (posed given ss lines)) new)
      → (ps : List Posed) → IsCourse rules text messages ps first → IsCourse rules text messages (ps ++ posed given ss lines) new
  lane_goes given ss lines i first new long all goes ps so_far =
      subst (λ (qs : List Posed). IsCourse rules text messages (ps ++ qs) new) (posed_all given ss lines i long all) (goes ps so_far)

  -- one lane more was gone over
  pub lane_added : (lanes : List Lane) (i : ℕ) (l : Lane) (old new : Course) → slice_get lanes i ≡ Some l → All HasLines (take i lanes) → HasLines l → IsCourse rules text messages (all_posed (take i lanes)) old
      → ((ps : List Posed) → IsCourse rules text messages ps old → IsCourse rules text messages (ps ++ posed l.given l.steps l.lines) new)
      → All HasLines (take (i + 1) lanes) × IsCourse rules text messages (all_posed (take (i + 1) lanes)) new
  lane_added lanes i l old new at lines line so_far goes =
      let next = take_next lanes i l at in (
        subst (All HasLines) (sym next) (All-push HasLines (take i lanes) l lines line),
        subst (λ (ps : List Posed). IsCourse rules text messages ps new) (lane_more (take i lanes) l ∙ ap all_posed (sym next)) (goes (all_posed (take i lanes)) so_far),
      )
