-- A call of a gathering file, from where what was gathered is written to the file below.
use Rattle.std.proofs.Common.{◌≡◌, ◌⊎◌, inl, inr, ℕ, ◌+◌, ◌<◌, ◌≤◌, List, [], ◌∷◌, ◌++◌, length, Option, option_map, Result, Ok, Err, OnOk, OnErr, refl, sym, ◌∙◌, ap, subst, arith, Some, None}
use Rattle.std.specs.Option.{ForSome}
use Rattle.fd_disk.specs.declared.file.File.{File}
use Rattle.fd_disk.specs.declared.file.Range.{Range}
use Rattle.fd_disk.specs.Folders.{WhereTold}
use Rattle.fd_disk.specs.Images.{IsAfterFailedWrite, synced, written}
use Rattle.fd_disk.specs.Moments.{Elapses, MayLeave}
use Rattle.fd_buffers.specs.Gathered.{Covers, told}
use Rattle.fd_buffers.specs.Standing.{still_left}
use Rattle.fd_buffers.specs.Trails.{loose_in, loosened_if}
use Rattle.fd_buffers.proofs.GatheringLemmas.{began_covers, below_left, covers_anywhere, failed_covers, failed_left, failed_told, flushed_covers, flushed_told, more_covers, more_told, synced_told, tried_covers, tried_err_told, tried_ok_told, written_left}
use Rattle.fd_buffers.proofs.TimeLemmas.{Since, ends, since_call, since_now, stays}

-- Nothing is gathered any more, and what is told is as before.
pub record Flushed (before now : Option File) (start : ℕ) (old gathered : List ℕ) (loose : List Range) (l m : ℕ) (p q : ℕ → List ℕ → Type 0) : Type 0 where
  pub none : gathered ≡ []
  pub same : told now start [] loose ≡ told before start old loose
  pub covers : ForSome now (Covers start 0 loose)
  pub time : Since l m p q (told before start old loose)

pub flushed_none : (o : Option File) (s : ℕ) (g : List ℕ) (loose : List Range) (m : ℕ) (p : ℕ → List ℕ → Type 0) → length g ≡ 0 → ForSome o (Covers s (length g) loose)
    → Flushed o o s g g loose m m p p
flushed_none o s [] loose m p none covers = record { none = refl; same = refl; covers = covers; time = since_now m p (told o s [] loose) }
flushed_none o s (x ∷ xs) loose m p none covers = absurd (omega (arith, none))

pub flushed_call : (o now : Option File) (s : ℕ) (g after : List ℕ) (loose : List Range) (l m : ℕ) (p q : ℕ → List ℕ → Type 0) → 0 < length g → ForSome o (Covers s (length g) loose)
    → now ≡ option_map (λ f. written f s g) o → after ≡ [] → Elapses l m p q now → Flushed o now s g after loose l m p q
flushed_call o now s g after loose l m p q some covers is none time =
    let stands = flushed_covers o now s s g loose some covers is in
    let same : told now s [] loose ≡ told o s g loose = flushed_told o now s s g loose some is in
    record {
      none = none;
      same = same;
      covers = stands;
      time = since_call l m p q now (told o s g loose) time (λ c left. subst (λ (t : Option File). MayLeave t c) same (still_left now s [] loose c stands left));
    }

pub on_err : {A E : Type 0} (r : Result A E) (P : Type 0) → P → OnErr r P
on_err (Ok x) P p = tt
on_err (Err e) P p = p

-- a write of which nothing is told did nothing
pub did_nothing : (t u : Option File) (at len : ℕ) → u ≡ t → WhereTold t u (λ f h. IsAfterFailedWrite f at len h)
did_nothing t u at len is = subst (λ (v : Option File). WhereTold t v (λ f h. IsAfterFailedWrite f at len h)) (sym is) (by t)
  where
    by : (v : Option File) → WhereTold v v (λ f h. IsAfterFailedWrite f at len h)
    by None = tt
    by (Some f) = inl refl

-- a write of what is gathered fails
module _ (o p : Option File) (s : ℕ) (g : List ℕ) (loose : List Range) (l m : ℕ) (before now : ℕ → List ℕ → Type 0) (some : 0 < length g) (covers : ForSome o (Covers s (length g) loose))
    (torn : WhereTold o p (λ f h. IsAfterFailedWrite f s (length g) h)) where
  pub failed_time : Elapses l m before now p → Elapses l m (λ t c. before t c ⊎ MayLeave (told o s g loose) c) (λ t c. now t c ⊎ MayLeave (told p s g loose) c) (told p s g loose)
  failed_time time =
      ends l l m before before now p (told o s g loose) (told p s g loose) (since_now l before (told o s g loose)) time
      (λ c left. still_left p s g loose c (failed_covers o p s g loose some covers torn) left)
      (λ t c le left. inr (subst (λ (u : Option File). MayLeave u c) (sym (failed_told o p s g loose some torn)) left))

-- what comes after that
module _ (o now : Option File) (s : ℕ) (g gathered : List ℕ) (loose : List Range) (l m : ℕ) (p q : ℕ → List ℕ → Type 0) (mid : Flushed o now s g gathered loose l m p q) where
  pub still_covers : (later : Option File) → later ≡ now → ForSome later (Covers s (length gathered) loose)
  still_covers later is = subst (λ (b : List ℕ). ForSome later (Covers s (length b) loose)) (sym mid.none) (subst (λ (u : Option File). ForSome u (Covers s 0 loose)) (sym is) mid.covers)

  pub still_told : (later : Option File) → later ≡ now → told later s gathered loose ≡ told o s g loose
  still_told later is = ap (λ (b : List ℕ). told later s b loose) mid.none ∙ ap (λ (u : Option File). told u s [] loose) is ∙ mid.same

  -- a call that leaves the file as it is
  pub still_time : (later : Option File) (n : ℕ) (r : ℕ → List ℕ → Type 0) → later ≡ now → Elapses m n q r later
      → Elapses l n (λ t c. p t c ⊎ MayLeave (told o s g loose) c) (λ t c. r t c ⊎ MayLeave (told later s gathered loose) c) (told later s gathered loose)
  still_time later n r is time =
      ends l m n p q r later (told o s g loose) (told later s gathered loose) mid.time time
      (λ c left. still_left later s gathered loose c (still_covers later is) left)
      (λ t c le left. inr (subst (λ (u : Option File). MayLeave u c) (sym (still_told later is)) left))

  -- a sync
  pub synced_now : (later : Option File) → later ≡ option_map synced now → told later s gathered (loose_in later) ≡ option_map synced (told o s g loose)
  synced_now later is = ap (λ (b : List ℕ). told later s b (loose_in later)) mid.none ∙ synced_told now later s s loose is ∙ ap (option_map synced) mid.same

  pub synced_covers : (later : Option File) → ForSome later (Covers s (length gathered) (loose_in later))
  synced_covers later = subst (λ (b : List ℕ). ForSome later (Covers s (length b) (loose_in later))) (sym mid.none) (began_covers later s)

  pub synced_time : (later : Option File) (after : List Range) (n : ℕ) (r : ℕ → List ℕ → Type 0) → after ≡ loose_in later
      → ((t : ℕ) (c : List ℕ) → t ≤ m → MayLeave now c → q t c) → Elapses m n q r later
      → Elapses l n (λ t c. p t c ⊎ MayLeave (told o s g loose) c) (λ t c. r t c ⊎ MayLeave (told later s gathered after) c) (told later s gathered after)
  synced_time later after n r is counts time =
      let covers : ForSome later (Covers s (length gathered) after) = subst (λ (rs : List Range). ForSome later (Covers s (length gathered) rs)) (sym is) (synced_covers later) in
      ends l m n p q r later (told o s g loose) (told later s gathered after) mid.time time
      (λ c left. still_left later s gathered after c covers left)
      (λ t c le left.
      let here : MayLeave (told now s [] loose) c = subst (λ (u : Option File). MayLeave u c) (sym mid.same) left in
      let early : t ≤ m = omega (arith, le, mid.time.later) in
      inl (time.keeps t c early (counts t c early (below_left now s loose c mid.covers here))))

-- bytes are put behind those that are gathered
module _ (o : Option File) (s at : ℕ) (g b g' : List ℕ) (loose loose' : List Range) (some : 0 < length b) (place : at ≡ s + length g) (is : g' ≡ g ++ b) (rs : loose' ≡ record { at = at; len = length b } ∷ loose) where
  pub follows_covers : ForSome o (Covers s (length g) loose) → ForSome o (Covers s (length g') loose')
  follows_covers covers =
      subst (λ (c : List ℕ). ForSome o (Covers s (length c) loose')) (sym is)
      (subst (λ (l : List Range). ForSome o (Covers s (length (g ++ b)) l)) (sym rs) (more_covers o s at g b loose some place covers))

  pub follows_told : told o s g' loose' ≡ option_map (λ f. written f at b) (told o s g loose)
  follows_told = ap (λ (c : List ℕ). told o s c loose') is ∙ ap (told o s (g ++ b)) rs ∙ more_told o s at g b loose some place

  pub follows_time : (l m : ℕ) (p q : ℕ → List ℕ → Type 0) (before : Option File) → told o s g loose ≡ before → ForSome o (Covers s (length g) loose) → Since l m p q before
      → Elapses l m (λ t c. p t c ⊎ MayLeave before c) (λ t c. q t c ⊎ MayLeave (told o s g' loose') c) (told o s g' loose')
  follows_time l m p q before same covers time =
      ends l m m p q q o before (told o s g' loose') time (stays m q o)
      (λ c left. still_left o s g' loose' c (follows_covers covers) left)
      (λ t c le left. inr (subst (λ (u : Option File). MayLeave u c) (sym follows_told) (written_left (told o s g loose) at b c (subst (λ (u : Option File). MayLeave u c) (sym same) left))))

module _ (o now : Option File) (s : ℕ) (g gathered : List ℕ) (loose : List Range) (l m : ℕ) (p q : ℕ → List ℕ → Type 0) (mid : Flushed o now s g gathered loose l m p q) (at : ℕ) (b : List ℕ) (loose' : List Range) where
  none_gathered : length gathered ≡ 0
  none_gathered = ap length mid.none

  -- other bytes are gathered
  module _ (g' : List ℕ) (some : 0 < length b) (is : g' ≡ gathered ++ b) (rs : loose' ≡ record { at = at; len = length b } ∷ loose) where
    first : at ≡ at + length gathered
    first = omega (arith, none_gathered)

    here : ForSome now (Covers at (length gathered) loose)
    here = subst (λ (n : ℕ). ForSome now (Covers at n loose)) (sym none_gathered) (covers_anywhere now s at 0 loose refl mid.covers)

    as_before : told now at gathered loose ≡ told o s g loose
    as_before = ap (λ (c : List ℕ). told now at c loose) mid.none ∙ mid.same

    pub begins_covers : ForSome now (Covers at (length g') loose')
    begins_covers = follows_covers now at at gathered b g' loose loose' some first is rs here

    pub begins_told : told now at g' loose' ≡ option_map (λ f. written f at b) (told o s g loose)
    begins_told = follows_told now at at gathered b g' loose loose' some first is rs ∙ ap (option_map (λ f. written f at b)) as_before

    pub begins_time : Elapses l m (λ t c. p t c ⊎ MayLeave (told o s g loose) c) (λ t c. q t c ⊎ MayLeave (told now at g' loose') c) (told now at g' loose')
    begins_time = follows_time now at at gathered b g' loose loose' some first is rs l m p q (told o s g loose) as_before here mid.time

  -- or written at once
  module _ (A E : Type 0) (result : Result A E) (later : Option File) (rs : loose' ≡ loosened_if now later (record { at = at; len = length b }) loose)
      (ok : OnOk result (later ≡ option_map (λ f. written f at b) now)) (err : OnErr result (WhereTold now later (λ f h. IsAfterFailedWrite f at (length b) h))) where
    to : told later s gathered loose' ≡ told later s [] (loosened_if now later (record { at = at; len = length b }) loose)
    to = ap (λ (c : List ℕ). told later s c loose') mid.none ∙ ap (told later s []) rs

    pub tries_covers : ForSome later (Covers s (length gathered) loose')
    tries_covers =
        subst (λ (n : ℕ). ForSome later (Covers s n loose')) (sym none_gathered)
        (subst (λ (l : List Range). ForSome later (Covers s 0 l)) (sym rs) (tried_covers s at b loose A E now later result ok err mid.covers))

    pub tries_ok : OnOk result (told later s gathered loose' ≡ option_map (λ f. written f at b) (told o s g loose))
    tries_ok = by result ok
      where
        by : (r : Result A E) → OnOk r (later ≡ option_map (λ f. written f at b) now) → OnOk r (told later s gathered loose' ≡ option_map (λ f. written f at b) (told o s g loose))
        by (Ok x) is = to ∙ tried_ok_told now later s at b loose is ∙ ap (option_map (λ f. written f at b)) mid.same
        by (Err e) is = tt

    pub tries_err : OnErr result (WhereTold (told o s g loose) (told later s gathered loose') (λ f h. IsAfterFailedWrite f at (length b) h))
    tries_err = by result err
      where
        by : (r : Result A E) → OnErr r (WhereTold now later (λ f h. IsAfterFailedWrite f at (length b) h)) → OnErr r (WhereTold (told o s g loose) (told later s gathered loose') (λ f h. IsAfterFailedWrite f at (length b) h))
        by (Ok x) torn = tt
        by (Err e) torn =
            subst (λ (u : Option File). WhereTold u (told later s gathered loose') (λ f h. IsAfterFailedWrite f at (length b) h)) mid.same
            (subst (λ (u : Option File). WhereTold (told now s [] loose) u (λ f h. IsAfterFailedWrite f at (length b) h)) (sym to) (tried_err_told now later s at b loose torn))

    tries_left : (c : List ℕ) → MayLeave (told o s g loose) c → MayLeave (told later s gathered loose') c
    tries_left c = by result tries_ok tries_err
      where
        by : (r : Result A E) → OnOk r (told later s gathered loose' ≡ option_map (λ f. written f at b) (told o s g loose))
            → OnErr r (WhereTold (told o s g loose) (told later s gathered loose') (λ f h. IsAfterFailedWrite f at (length b) h))
            → MayLeave (told o s g loose) c → MayLeave (told later s gathered loose') c
        by (Ok x) is torn left = subst (λ (u : Option File). MayLeave u c) (sym is) (written_left (told o s g loose) at b c left)
        by (Err e) is torn left = failed_left (told o s g loose) (told later s gathered loose') at (length b) c torn left

    pub tries_time : (n : ℕ) (r : ℕ → List ℕ → Type 0) → Elapses m n q r later
        → Elapses l n (λ t c. p t c ⊎ MayLeave (told o s g loose) c) (λ t c. r t c ⊎ MayLeave (told later s gathered loose') c) (told later s gathered loose')
    tries_time n r time =
        ends l m n p q r later (told o s g loose) (told later s gathered loose') mid.time time
        (λ c left. still_left later s gathered loose' c tries_covers left)
        (λ t c le left. inr (tries_left c left))
