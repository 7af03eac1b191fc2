-- Lanes that are read, and those of the lines.
use Rattle.std.proofs.Common.{◌≡◌, ◌∙◌, ℕ, ◌+◌, ◌≤◌, ◌<◌, Bool, true, false, cond, ltb, List, [], ◌∷◌, ◌++◌, length, map, Option, Some, None, Result, Ok, Err, IsSome, refl, sym, ap, subst, arith, All}
use Rattle.std.specs.Prelude.{◌||◌, ◌&&◌, not, string_bytes}
use Rattle.std.specs.List.{AllZip, list_any}
use Rattle.std.specs.Str.{bytes_eq}
use Rattle.std.proofs.lemmas.Slice.Zip.{all_zipped_more, AllZip-long}
use Rattle.std.proofs.lemmas.List.Elements.{All-push, All-pop, All-nil}
use Rattle.std.proofs.lemmas.List.{length-append}
use Rattle.fd_script.specs.declared.script.Lane.{Lane}
use Rattle.fd_script.specs.declared.script.Step.{Step}
use Rattle.fd_script.specs.Lines.{Task, Said, Silent, DatasetIs, LaneBegins, Asks, MessagesFollow, Unknown}
use Rattle.fd_script.specs.Grammar.{Group, Wrong, Script, Fault, Name, task_wrong, step_wrong, unless_wrong, TooMany, dataset_in, few_or, first_of, given_wrong, has_lane, is_lane_name, lane_wrong, last_lane, lanes_from}
use Rattle.fd_key.specs.Given.{given_of}
use Rattle.fd_script.specs.declared.fault.ScriptKind.{ScriptKind}
use Rattle.fd_script.specs.declared.fault.Refusal as code
use Rattle.fd_script.specs.declared.fault.Refusal.TheVariants as refusals
use Rattle.std.proofs.lemmas.Bool.{le-ltb, lt-ltb, ltb-true}
use Rattle.fd_script.specs.Growing.{onto_last, after_said}
use Rattle.fd_script.specs.Scripts.{IsWithin}
use Rattle.fd_script.specs.Reading.{IsLane, IsSaid, IsStep, Begins, Adds, Names, Refuses, seen_wrong, wrong_at}

-- the last of two lists, and what stands before
pub record Popped {A B : Type 0} (R : A → B → Type 0) (xs : List A) (x : A) (ys : List B) : Type 0 where
  pub front : List B
  pub last : B
  pub is : ys ≡ front ++ last ∷ []
  pub fronts : AllZip R xs front
  pub lasts : R x last

pub popped : {A B : Type 0} (R : A → B → Type 0) (xs : List A) (x : A) (ys : List B) → AllZip R (xs ++ x ∷ []) ys → Popped R xs x ys
popped R [] x [] h = absurd h
popped R [] x (y ∷ []) h = record { front = []; last = y; is = refl; fronts = tt; lasts = h.0 }
popped R [] x (y ∷ z ∷ ys) h = absurd (h.1)
popped R (w ∷ xs) x [] h = absurd h
popped R (w ∷ xs) x (y ∷ ys) h =
    let p = popped R xs x ys h.1 in
    record { front = y ∷ p.front; last = p.last; is = ap (λ l. y ∷ l) p.is; fronts = (h.0, p.fronts); lasts = p.lasts }

-- a lane has a name among the lanes exactly where the lines have it
pub same_names : (lanes : List Lane) (gs : List Group) (name : List ℕ) → AllZip IsLane lanes gs → list_any (λ (l : Lane). bytes_eq name (string_bytes l.name)) lanes ≡ has_lane gs name
same_names [] [] name h = refl
same_names [] (g ∷ gs) name h = absurd h
same_names (l ∷ ls) [] name h = absurd h
same_names (l ∷ ls) (g ∷ gs) name h =
    ap (λ n. bytes_eq name n || list_any (λ (k : Lane). bytes_eq name (string_bytes k.name)) ls) h.0.name
    ∙ ap (λ b. bytes_eq name g.name || b) (same_names ls gs name h.1)

pub last_pushed : (gs : List Group) (g : Group) → last_lane (gs ++ g ∷ []) ≡ Some g
unfolding last_lane
last_pushed [] g = refl
last_pushed (x ∷ []) g = refl
last_pushed (x ∷ y ∷ gs) g = last_pushed (y ∷ gs) g

pub onto_pushed : (n : ℕ) (t : Task) (gs : List Group) (g : Group) → onto_last n t (gs ++ g ∷ []) ≡ gs ++ record g { steps = g.steps ++ (n, t) ∷ [] } ∷ []
unfolding onto_last
onto_pushed n t [] g = refl
onto_pushed n t (x ∷ []) g = refl
onto_pushed n t (x ∷ y ∷ gs) g = ap (λ l. x ∷ l) (onto_pushed n t (y ∷ gs) g)

map_pushed : (ts : List (ℕ × Task)) (n : ℕ) (t : Task) → map (λ (u : ℕ × Task). u.0) (ts ++ (n, t) ∷ []) ≡ map (λ (u : ℕ × Task). u.0) ts ++ n ∷ []
map_pushed [] n t = refl
map_pushed (u ∷ ts) n t = ap (λ l. u.0 ∷ l) (map_pushed ts n t)

-- a lane with one more step
pub one_step : (lane : Lane) (g : Group) (n : ℕ) (t : Task) (step : Step) → IsLane lane g → IsStep step t
    → IsLane (record lane { steps = lane.steps ++ step ∷ []; lines = lane.lines ++ n ∷ [] }) (record g { steps = g.steps ++ (n, t) ∷ [] })
one_step lane g n t step h is = record {
  name = h.name;
  given = h.given;
  steps = all_zipped_more (λ s (u : ℕ × Task). IsStep s u.1) lane.steps g.steps step (n, t) h.steps is;
  lines = ap (λ l. l ++ n ∷ []) h.lines ∙ sym (map_pushed g.steps n t);
}

-- lanes, the last of which has one more step
pub step_added : (lanes new : List Lane) (n : ℕ) (t : Task) (gs : List Group) → Adds lanes n t new → AllZip IsLane lanes gs → AllZip IsLane new (onto_last n t gs)
step_added lanes new n t gs a h =
    let p = popped IsLane a.front a.lane gs (subst (λ (ls : List Lane). AllZip IsLane ls gs) a.before h) in
    let grown = all_zipped_more IsLane a.front p.front _ _ p.fronts (one_step a.lane p.last n t a.step p.lasts a.is) in
    subst (λ (ls : List Lane). AllZip IsLane ls (onto_last n t gs)) (sym a.after)
    (subst (λ (hs : List Group). AllZip IsLane (a.front ++ record a.lane { steps = a.lane.steps ++ a.step ∷ []; lines = a.lane.lines ++ n ∷ [] } ∷ []) hs) (sym (ap (onto_last n t) p.is ∙ onto_pushed n t p.front p.last)) grown)

-- lanes with one more
pub lane_begun : (lanes new : List Lane) (name pairs : List ℕ) (gs : List Group) → Begins lanes name pairs new → AllZip IsLane lanes gs
    → AllZip IsLane new (gs ++ record { name = name; pairs = pairs; steps = [] } ∷ [])
lane_begun lanes new name pairs gs b h =
    subst (λ (ls : List Lane). AllZip IsLane ls (gs ++ record { name = name; pairs = pairs; steps = [] } ∷ [])) (sym b.is) (all_zipped_more IsLane lanes gs b.lane _ h b.reads)

-- the last lane of the lines is the last that was read
pub record Last (lane : Lane) (gs : List Group) : Type 0 where
  pub last : Group
  pub is : last_lane gs ≡ Some last
  pub reads : IsLane lane last

pub last_read : (front : List Lane) (lane : Lane) (gs : List Group) → AllZip IsLane (front ++ lane ∷ []) gs → Last lane gs
last_read front lane gs h =
    let p = popped IsLane front lane gs h in
    record { last = p.last; is = ap last_lane p.is ∙ last_pushed p.front p.last; reads = p.lasts }

-- what holds of lanes with one more
pub within_begun : (lanes new : List Lane) (name pairs : List ℕ) → Begins lanes name pairs new → IsWithin lanes → IsWithin new
within_begun lanes new name pairs b w =
    subst IsWithin (sym b.is) (record {
      few = omega (arith, length-append lanes (b.lane ∷ []), b.room);
      short = All-push (λ (l : Lane). length l.steps ≤ 4096) lanes b.lane w.short (omega (arith, b.none));
      lines = All-push (λ (l : Lane). length l.lines ≡ length l.steps) lanes b.lane w.lines (b.no_lines ∙ sym b.none);
    })

-- what holds of lanes, the last of which has one more step
pub within_added : (lanes new : List Lane) (n : ℕ) (t : Task) → Adds lanes n t new → IsWithin lanes → IsWithin new
within_added lanes new n t a given =
    let w : IsWithin (a.front ++ a.lane ∷ []) = subst IsWithin a.before given in
    let short = All-pop (λ (l : Lane). length l.steps ≤ 4096) (a.front ++ a.lane ∷ []) a.front (Some a.lane) refl w.short in
    let lines = All-pop (λ (l : Lane). length l.lines ≡ length l.steps) (a.front ++ a.lane ∷ []) a.front (Some a.lane) refl w.lines in
    subst IsWithin (sym a.after) (record {
      few = omega (arith, length-append a.front (a.lane ∷ []), length-append a.front (record a.lane { steps = a.lane.steps ++ a.step ∷ []; lines = a.lane.lines ++ n ∷ [] } ∷ []), w.few);
      short = All-push (λ (l : Lane). length l.steps ≤ 4096) a.front _ short.0 (omega (arith, length-append a.lane.steps (a.step ∷ []), a.room));
      lines = All-push (λ (l : Lane). length l.lines ≡ length l.steps) a.front _ lines.0 (omega (arith, length-append a.lane.steps (a.step ∷ []), length-append a.lane.lines (n ∷ []), lines.1));
    })

-- ---- a lane's line

-- the rest of what may be wrong with a lane whose name is right
abbrev pub lane_rest : List Group → List ℕ → Option Wrong
lane_rest gs pairs = first_of (given_wrong (given_of pairs)) (few_or (length gs) 8)

pub not_named : (gs : List Group) (name pairs : List ℕ) → is_lane_name name ≡ false → lane_wrong gs name pairs ≡ Some Name
not_named gs name pairs e = ap (λ b. cond (b && not (has_lane gs name)) (lane_rest gs pairs) (Some Name)) e

named_as : (gs : List Group) (name pairs : List ℕ) (b : Bool) → is_lane_name name ≡ true → has_lane gs name ≡ b → lane_wrong gs name pairs ≡ cond (not b) (lane_rest gs pairs) (Some Name)
named_as gs name pairs b e f =
    ap (λ (x : Bool). cond (x && not (has_lane gs name)) (lane_rest gs pairs) (Some Name)) e
    ∙ ap (λ (x : Bool). cond (not x) (lane_rest gs pairs) (Some Name)) f

pub named_before : (lanes : List Lane) (gs : List Group) (name pairs : List ℕ) → is_lane_name name ≡ true → list_any (λ (l : Lane). bytes_eq name (string_bytes l.name)) lanes ≡ true → AllZip IsLane lanes gs → lane_wrong gs name pairs ≡ Some Name
named_before lanes gs name pairs e f z = named_as gs name pairs true e (sym (same_names lanes gs name z) ∙ f)

pub named_right : (lanes : List Lane) (gs : List Group) (name pairs : List ℕ) → is_lane_name name ≡ true → list_any (λ (l : Lane). bytes_eq name (string_bytes l.name)) lanes ≡ false → AllZip IsLane lanes gs → lane_wrong gs name pairs ≡ lane_rest gs pairs
named_right lanes gs name pairs e f z = named_as gs name pairs false e (sym (same_names lanes gs name z) ∙ f)

pub few_over : (n most : ℕ) → most ≤ n → few_or n most ≡ Some (TooMany (most + 1))
few_over n most h = ap (λ (b : Bool). cond b None (Some (TooMany (most + 1)))) (le-ltb n most h)

pub few_under : (n most : ℕ) → n < most → few_or n most ≡ None
few_under n most h = ap (λ (b : Bool). cond b None (Some (TooMany (most + 1)))) (lt-ltb n most h)

-- what refuses by the first cause refuses by both
pub refuse_first : (e : code.Refusal) (a b : Option Wrong) → Refuses e a → Refuses e (first_of a b)
refuse_first refusals.NoMemory a b h = tt
refuse_first (refusals.Wrong kind) a b h = go (seen_wrong kind) refl h.0 h.1
  where
    go : (o : Option Wrong) → seen_wrong kind ≡ o → a ≡ seen_wrong kind → IsSome (seen_wrong kind) → (first_of a b ≡ seen_wrong kind) × IsSome (seen_wrong kind)
    go None e is some = absurd (cc (subst IsSome e some))
    go (Some x) e is some = (ap (λ (c : Option Wrong). first_of c b) (is ∙ e) ∙ sym e, some)

-- the line where it refuses
pub refused_at : (kind : ScriptKind) (n : ℕ) (w : Option Wrong) (later : Result Script Fault) → Names kind w → (x : Wrong) × (seen_wrong kind ≡ Some x) × (unless_wrong n w later ≡ wrong_at n x)
refused_at kind n w later h = go (seen_wrong kind) refl h.0 h.1
  where
    go : (o : Option Wrong) → seen_wrong kind ≡ o → w ≡ seen_wrong kind → IsSome (seen_wrong kind) → (x : Wrong) × (seen_wrong kind ≡ Some x) × (unless_wrong n w later ≡ wrong_at n x)
    go None e is some = absurd (cc (subst IsSome e some))
    go (Some x) e is some = (x, e, ap (λ (c : Option Wrong). unless_wrong n c later) (is ∙ e))

pub then_second : (a b : Option Wrong) → a ≡ None → first_of a b ≡ b
then_second a b h = ap (λ (o : Option Wrong). first_of o b) h

-- nothing that was read, and no lanes
pub nothing_said : IsSaid None [] []
unfolding dataset_in lanes_from
nothing_said = record { dataset_is = refl; lanes_are = tt }

pub no_lanes : IsWithin []
no_lanes = record { few = omega arith; short = All-nil (λ (l : Lane). length l.steps ≤ 4096); lines = All-nil (λ (l : Lane). length l.lines ≡ length l.steps) }

-- a lane without steps behind these
pub begun : (lanes new : List Lane) (lane : Lane) (name pairs : List ℕ) → new ≡ lanes ++ lane ∷ [] → string_bytes lane.name ≡ name → given_of pairs ≡ Ok lane.given → lane.steps ≡ [] → lane.lines ≡ [] → length lanes < 8
    → Begins lanes name pairs new
begun lanes new lane name pairs is named given none no_lines room = record {
  lane = lane;
  is = is;
  reads = record { name = named; given = given; steps = subst (λ (ss : List Step). AllZip (λ s (t : ℕ × Task). IsStep s t.1) ss []) (sym none) tt; lines = no_lines };
  room = room;
  none = ap length none;
  no_lines = ap length no_lines;
}

-- what may be wrong with a step of the last lane
pub step_judged : (lanes front : List Lane) (lane : Lane) (gs : List Group) (t : Task) → lanes ≡ front ++ lane ∷ [] → AllZip IsLane lanes gs
    → step_wrong (last_lane gs) t ≡ first_of (task_wrong t) (few_or (length lane.steps) 4096)
step_judged lanes front lane gs t is z =
    let l = last_read front lane gs (subst (λ (ls : List Lane). AllZip IsLane ls gs) is z) in
    ap (λ (o : Option Group). step_wrong o t) l.is
    ∙ ap (λ (n : ℕ). first_of (task_wrong t) (few_or n 4096)) (AllZip-long (λ s (u : ℕ × Task). IsStep s u.1) lane.steps l.last.steps l.reads.steps)

pub no_last : (lanes : List Lane) (gs : List Group) → lanes ≡ [] → AllZip IsLane lanes gs → last_lane gs ≡ None
unfolding last_lane
no_last [] [] e z = refl
no_last [] (g ∷ gs) e z = absurd z
no_last (l ∷ ls) gs e z = absurd (cc)

pub length_none : {A : Type 0} (xs : List A) → length xs ≡ 0 → xs ≡ []
length_none [] e = refl
length_none (x ∷ xs) e = absurd (omega (arith, e))

-- where nothing is wrong with the number of steps there is room
pub step_room : (n : ℕ) → few_or n 4096 ≡ None → n < 4096
step_room n h = go (ltb n 4096) refl h
  where
    go : (b : Bool) → ltb n 4096 ≡ b → cond b None (Some (TooMany 4097)) ≡ None → n < 4096
    go true e k = ltb-true n 4096 e
    go false e k = absurd (cc k)
