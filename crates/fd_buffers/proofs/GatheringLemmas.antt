-- What the calls of a gathering file make of what it tells.
use Rattle.std.proofs.Common.{◌≡◌, inl, inr, ⊎_elim, if◌then◌else◌, ℕ, suc, ◌+◌, ◌-◌, ◌<◌, ◌||◌, Bool, true, false, nat_lt, List, [], ◌∷◌, ◌++◌, length, take, drop, replicate, Option, Some, None, option_map, Result, Ok, Err, OnOk, OnErr, refl, sym, ◌∙◌, ap, subst, arith, append_assoc, length-append}
use Rattle.std.specs.Option.{ForSome}
use Rattle.std.proofs.lemmas.Bool.Decides.{nat_tests}
use Rattle.std.proofs.lemmas.List.{length-take, length-replicate, take_at, drop_at, drop-drop}
use Rattle.fd_disk.specs.declared.file.File.{File}
use Rattle.fd_disk.specs.declared.file.Range.{Range}
use Rattle.fd_disk.specs.Folders.{WhereTold}
use Rattle.fd_disk.specs.Images.{IsImage, IsAfterFailedWrite, IsDisturbed, WritesAlike, is_in, loosened, overwritten, synced, written}
use Rattle.fd_disk.specs.Moments.{MayLeave}
use Rattle.fd_disk.proofs.ImageLemmas.{written_within, overwritten_reaches}
use Rattle.fd_buffers.specs.Gathered.{Covers, gathering, in_span, laid, told}
use Rattle.fd_buffers.specs.Standing.{nothing}
use Rattle.fd_buffers.specs.Trails.{loose_in, loosened_if}

-- bytes behind others that were written are written with them
overwritten_twice : (r : List ℕ) (s : ℕ) (a b : List ℕ) → overwritten (overwritten r s a) (s + length a) b ≡ overwritten r s (a ++ b)
overwritten_twice r s a b =
    let n = s + length a in
    let p : List ℕ = take s r ++ replicate (s - length r) 0 in
    let w = overwritten r s a in
    let long : length (p ++ a) ≡ n = simp (length-append, length-take, length-replicate) (omega arith) in
    let front : take n w ≡ p ++ a = take_at (p ++ a) (drop n r) n long in
    let behind : drop n w ≡ drop n r = drop_at (p ++ a) (drop n r) n long in
    let rest : drop (n + length b) w ≡ drop (n + length b) r =
    sym (drop-drop (length b) n w) ∙ ap (drop (length b)) behind ∙ drop-drop (length b) n r in
    let total : n + length b ≡ s + length (a ++ b) = omega (arith, length-append a b) in
    written_within w n b (overwritten_reaches r s a)
    ∙ ap (λ (l : List ℕ). l ++ (b ++ drop (n + length b) w)) front
    ∙ ap (λ (l : List ℕ). (p ++ a) ++ (b ++ l)) rest
    ∙ ap (λ (m : ℕ). (p ++ a) ++ (b ++ drop m r)) total
    ∙ sym (append_assoc (p ++ a) b (drop (s + length (a ++ b)) r))
    ∙ ap (λ (l : List ℕ). l ++ drop (s + length (a ++ b)) r) (append_assoc p a b)

-- bytes that follow the gathered ones are laid over the file with them
laid_more : (r : List ℕ) (s : ℕ) (a b : List ℕ) → 0 < length b → laid r s (a ++ b) ≡ overwritten (laid r s a) (s + length a) b
laid_more r s [] [] some = absurd (omega (arith, some))
laid_more r s [] (y ∷ ys) some = ap (λ (p : ℕ). overwritten r p (y ∷ ys)) (omega arith)
laid_more r s (x ∷ xs) b some = sym (overwritten_twice r s (x ∷ xs) b)

-- a written range covers what the gathered bytes did
flushed_one : (f : File) (s t : ℕ) (g : List ℕ) (loose : List Range) → 0 < length g → Covers s (length g) loose f → Covers t 0 loose (written f s g)
flushed_one f s t g loose some covers = record {
  same = λ k. let same = covers.same k in grind (arith, nat_tests, same);
  none = λ e. absurd (omega (arith, some, (covers.none e).1));
  all = λ e none. absurd (omega (arith, e));
}

pub flushed_covers : (o p : Option File) (s t : ℕ) (g : List ℕ) (loose : List Range) → 0 < length g → ForSome o (Covers s (length g) loose)
    → p ≡ option_map (λ f. written f s g) o → ForSome p (Covers t 0 loose)
flushed_covers None p s t g loose some covers is = λ f told. absurd (cc (is, told))
flushed_covers (Some f) p s t g loose some covers is = λ h told.
    let same : written f s g ≡ h = cc (is, told) in subst (Covers t 0 loose) same (flushed_one f s t g loose some (covers f refl))

laid_some : (r : List ℕ) (s : ℕ) (g : List ℕ) → 0 < length g → overwritten r s g ≡ laid r s g
laid_some r s [] some = absurd (omega (arith, some))
laid_some r s (x ∷ xs) some = refl

pub flushed_told : (o p : Option File) (s t : ℕ) (g : List ℕ) (loose : List Range) → 0 < length g → p ≡ option_map (λ f. written f s g) o → told p t [] loose ≡ told o s g loose
flushed_told None p s t g loose some is = ap (λ (q : Option File). told q t [] loose) is
flushed_told (Some f) p s t g loose some is =
    ap (λ (q : Option File). told q t [] loose) is ∙ ap (λ (l : List ℕ). Some (record { firm = f.firm; reads = l; loose = loose })) (laid_some f.reads s g some)

-- a write of the gathered bytes that failed changes nothing of what is told
failed_one : (f h : File) (s : ℕ) (g : List ℕ) (loose : List Range) → 0 < length g → Covers s (length g) loose f → IsAfterFailedWrite f s (length g) h → Covers s (length g) loose h
failed_one f h s g loose some covers (inl same) = subst (Covers s (length g) loose) (sym same) covers
failed_one f h s g loose some covers (inr torn) = subst (Covers s (length g) loose) (sym torn.file) (record {
  same = λ k. let same = covers.same k in grind (arith, nat_tests, same);
  none = λ e. absurd (omega (arith, some, (covers.none e).1));
  all = λ e none. absurd (omega (arith, e));
})

pub failed_covers : (o p : Option File) (s : ℕ) (g : List ℕ) (loose : List Range) → 0 < length g → ForSome o (Covers s (length g) loose)
    → WhereTold o p (λ f h. IsAfterFailedWrite f s (length g) h) → ForSome p (Covers s (length g) loose)
failed_covers None None s g loose some covers torn = covers
failed_covers None (Some h) s g loose some covers torn = absurd torn
failed_covers (Some f) None s g loose some covers torn = absurd torn
failed_covers (Some f) (Some h) s g loose some covers torn = λ q told. let same : h ≡ q = cc told in subst (Covers s (length g) loose) same (failed_one f h s g loose some (covers f refl) torn)

same_told : (f h : File) (s : ℕ) (g : List ℕ) (loose : List Range) → 0 < length g → IsAfterFailedWrite f s (length g) h → gathering s g loose h ≡ gathering s g loose f
unfolding WritesAlike
same_told f h s g loose some (inl same) = ap (gathering s g loose) same
same_told f h s g loose some (inr torn) =
    let firm : h.firm ≡ f.firm = ap (λ (q : File). q.firm) torn.file in
    let reads : laid h.reads s g ≡ laid f.reads s g = sym (laid_some h.reads s g some) ∙ torn.again g refl ∙ laid_some f.reads s g some in
    λ i. record { firm = firm i; reads = reads i; loose = loose }

pub failed_told : (o p : Option File) (s : ℕ) (g : List ℕ) (loose : List Range) → 0 < length g → WhereTold o p (λ f h. IsAfterFailedWrite f s (length g) h) → told p s g loose ≡ told o s g loose
failed_told None None s g loose some torn = refl
failed_told None (Some h) s g loose some torn = absurd torn
failed_told (Some f) None s g loose some torn = absurd torn
failed_told (Some f) (Some h) s g loose some torn = ap Some (same_told f h s g loose some torn)

-- bytes are gathered
module _ (o : Option File) (s at : ℕ) (g b : List ℕ) (loose : List Range) (some : 0 < length b) (place : at ≡ s + length g) where
  more_one : (f : File) → Covers s (length g) loose f → Covers s (length (g ++ b)) (record { at = at; len = length b } ∷ loose) f
  more_one f covers = record {
    same = λ k. let same = covers.same k in let long = length-append g b in grind (arith, nat_tests, same, long, place);
    none = λ e. absurd (omega (arith, e));
    all = λ e none. absurd (omega (arith, none, some, length-append g b));
  }

  pub more_covers : ForSome o (Covers s (length g) loose) → ForSome o (Covers s (length (g ++ b)) (record { at = at; len = length b } ∷ loose))
  more_covers covers = λ f is. more_one f (covers f is)

  pub more_told : told o s (g ++ b) (record { at = at; len = length b } ∷ loose) ≡ option_map (λ f. written f at b) (told o s g loose)
  more_told = by o
    where
      by : (q : Option File) → told q s (g ++ b) (record { at = at; len = length b } ∷ loose) ≡ option_map (λ f. written f at b) (told q s g loose)
      by None = refl
      by (Some f) =
          ap (λ (l : List ℕ). Some (record { firm = f.firm; reads = l; loose = record { at = at; len = length b } ∷ loose }))
          (laid_more f.reads s g b some ∙ ap (λ (p : ℕ). overwritten (laid f.reads s g) p b) (sym place))

-- where nothing is gathered the place says nothing
pub covers_anywhere : (o : Option File) (s t n : ℕ) (loose : List Range) → n ≡ 0 → ForSome o (Covers s n loose) → ForSome o (Covers t n loose)
covers_anywhere o s t n loose none covers = λ f is.
    let old = covers f is in
    record {
      same = λ k. let same = old.same k in grind (arith, nat_tests, same, none);
      none = old.none;
      all = old.all;
    }

-- a write that goes to the file below at once
module _ (o p : Option File) (s at : ℕ) (b : List ℕ) (loose : List Range) where
  abbrev r : Range
  r = record { at = at; len = length b }

  tried_some : (f h : File) → h.loose ≡ r ∷ f.loose → loosened_if (Some f) (Some h) r loose ≡ r ∷ loose
  tried_some f h is =
      let more : length h.loose ≡ suc (length f.loose) = ap length is in
      let grew : nat_lt (length f.loose) (length h.loose) ≡ true = grind (arith, nat_tests, more) in
      ap (λ (t : Bool). if t then r ∷ loose else loose) grew

  tried_none : (f h : File) → h.loose ≡ f.loose → loosened_if (Some f) (Some h) r loose ≡ loose
  tried_none f h is =
      let more : length h.loose ≡ length f.loose = ap length is in
      let grew : nat_lt (length f.loose) (length h.loose) ≡ false = grind (arith, nat_tests, more) in
      ap (λ (t : Bool). if t then r ∷ loose else loose) grew

  pub tried_ok_told : p ≡ option_map (λ f. written f at b) o → told p s [] (loosened_if o p r loose) ≡ option_map (λ f. written f at b) (told o s [] loose)
  tried_ok_told is = subst (λ (q : Option File). told q s [] (loosened_if o q r loose) ≡ option_map (λ f. written f at b) (told o s [] loose)) (sym is) (by o)
    where
      by : (q : Option File) → told (option_map (λ f. written f at b) q) s [] (loosened_if q (option_map (λ f. written f at b) q) r loose) ≡ option_map (λ f. written f at b) (told q s [] loose)
      by None = refl
      by (Some f) = ap (λ (rs : List Range). Some (record { firm = f.firm; reads = overwritten f.reads at b; loose = rs })) (tried_some f (written f at b) refl)

torn_told : (f h : File) (s at len : ℕ) (loose after : List Range) → IsDisturbed f at len h → after ≡ record { at = at; len = len } ∷ loose
    → IsDisturbed (gathering s [] loose f) at len (gathering s [] after h)
torn_told f h s at len loose after torn is =
    let firm : h.firm ≡ f.firm = ap (λ (q : File). q.firm) torn.file in
    record {
      file = λ i. record { firm = firm i; reads = h.reads; loose = is i };
      no_shorter = torn.no_shorter;
      agrees = torn.agrees;
      again = torn.again;
    }

pub tried_err_told : (o p : Option File) (s at : ℕ) (b : List ℕ) (loose : List Range) → WhereTold o p (λ f h. IsAfterFailedWrite f at (length b) h)
    → WhereTold (told o s [] loose) (told p s [] (loosened_if o p (record { at = at; len = length b }) loose)) (λ f h. IsAfterFailedWrite f at (length b) h)
tried_err_told None None s at b loose torn = tt
tried_err_told None (Some h) s at b loose torn = absurd torn
tried_err_told (Some f) None s at b loose torn = absurd torn
tried_err_told (Some f) (Some h) s at b loose (inl same) =
    let kept = tried_none (Some f) (Some h) s at b loose f h (ap (λ (q : File). q.loose) same) in
    inl (λ i. record { firm = (same i).firm; reads = (same i).reads; loose = kept i })
tried_err_told (Some f) (Some h) s at b loose (inr torn) =
    inr (torn_told f h s at (length b) loose (loosened_if (Some f) (Some h) (record { at = at; len = length b }) loose) torn (tried_some (Some f) (Some h) s at b loose f h (ap (λ (q : File). q.loose) torn.file)))

module _ (s at : ℕ) (b : List ℕ) (loose : List Range) where
  abbrev one : Range
  one = record { at = at; len = length b }

  grown_covers : (f h : File) → h.loose ≡ one ∷ f.loose → Covers s 0 loose f → Covers s 0 (loosened_if (Some f) (Some h) one loose) h
  grown_covers f h is covers = subst (λ (rs : List Range). Covers s 0 rs h) (sym (tried_some (Some f) (Some h) s at b loose f h is)) (record {
    same = λ k. let same = covers.same k in let more = ap (is_in k) is in grind (arith, nat_tests, same, more);
    none = λ e. absurd (omega (arith, e));
    all = λ e none. absurd (omega (arith, e, ap length is));
  })

  kept_covers : (f h : File) → h.loose ≡ f.loose → Covers s 0 loose f → Covers s 0 (loosened_if (Some f) (Some h) one loose) h
  kept_covers f h is covers = subst (λ (rs : List Range). Covers s 0 rs h) (sym (tried_none (Some f) (Some h) s at b loose f h is)) (record {
    same = λ k. covers.same k ∙ ap (λ (rs : List Range). is_in k rs || in_span k s 0) (sym is);
    none = λ e. (ap length is ∙ (covers.none e).0, refl);
    all = λ e none. covers.all (sym (ap length is) ∙ e) refl;
  })

  pub tried_covers : (A E : Type 0) (o p : Option File) (result : Result A E) → OnOk result (p ≡ option_map (λ f. written f at b) o)
      → OnErr result (WhereTold o p (λ f h. IsAfterFailedWrite f at (length b) h)) → ForSome o (Covers s 0 loose) → ForSome p (Covers s 0 (loosened_if o p one loose))
  tried_covers A E None p (Ok x) ok err covers = λ h told. absurd (cc (ok, told))
  tried_covers A E (Some f) p (Ok x) ok err covers = subst (λ (q : Option File). ForSome q (Covers s 0 (loosened_if (Some f) q one loose))) (sym ok)
      (λ h told. let same : written f at b ≡ h = cc told in subst (λ (q : File). Covers s 0 (loosened_if (Some f) (Some (written f at b)) one loose) q) same (grown_covers f (written f at b) refl (covers f refl)))
  tried_covers A E None None (Err e) ok err covers = λ h told. absurd (cc told)
  tried_covers A E None (Some g) (Err e) ok err covers = absurd err
  tried_covers A E (Some f) None (Err e) ok err covers = absurd err
  tried_covers A E (Some f) (Some g) (Err e) ok err covers = λ h told.
      let same : g ≡ h = cc told in
      subst (λ (q : File). Covers s 0 (loosened_if (Some f) (Some g) one loose) q) same
      (⊎_elim (λ kept. kept_covers f g (ap (λ (q : File). q.loose) kept) (covers f refl)) (λ torn. grown_covers f g (ap (λ (q : File). q.loose) torn.file) (covers f refl)) err)

-- a sync
pub synced_told : (o p : Option File) (s t : ℕ) (loose : List Range) → p ≡ option_map synced o → told p t [] (loose_in p) ≡ option_map synced (told o s [] loose)
synced_told o p s t loose is = subst (λ (q : Option File). told q t [] (loose_in q) ≡ option_map synced (told o s [] loose)) (sym is) (by o)
  where
    by : (q : Option File) → told (option_map synced q) t [] (loose_in (option_map synced q)) ≡ option_map synced (told q s [] loose)
    by None = refl
    by (Some f) = refl

pub began_covers : (o : Option File) (s : ℕ) → ForSome o (Covers s 0 (loose_in o))
began_covers None s = λ h told. absurd (cc told)
began_covers (Some f) s = λ h told.
    let same : f ≡ h = cc told in
    subst (λ (q : File). Covers s 0 f.loose q) same (record { same = λ k. grind (arith, nat_tests); none = λ e. (e, refl); all = λ e none. e })

-- with nothing gathered the file below may leave what is told
below_image : (s : ℕ) (loose : List Range) (f : File) (c : List ℕ) → Covers s 0 loose f → IsImage (gathering s [] loose f) c → IsImage f c
below_image s loose f c covers image = record {
  settled = λ e. image.settled (nothing loose (covers.all (ap length e) refl));
  no_shorter = image.no_shorter;
  agrees = λ k lt out. let same = covers.same k in let before : is_in k loose ≡ false = grind (arith, nat_tests, out, same) in image.agrees k lt before;
}

pub below_left : (o : Option File) (s : ℕ) (loose : List Range) (c : List ℕ) → ForSome o (Covers s 0 loose) → MayLeave (told o s [] loose) c → MayLeave o c
below_left None s loose c covers left = left
below_left (Some f) s loose c covers left = below_image s loose f c (covers f refl) left

-- a write only adds to what a crash may leave
grown_image : (f : File) (at len : ℕ) (reads c : List ℕ) → IsImage f c → IsImage (loosened f at len reads) c
grown_image f at len reads c image = record {
  settled = λ e. absurd (cc e);
  no_shorter = image.no_shorter;
  agrees = λ k lt out. let before : is_in k f.loose ≡ false = grind (arith, nat_tests, out) in image.agrees k lt before;
}

pub written_left : (t : Option File) (at : ℕ) (b c : List ℕ) → MayLeave t c → MayLeave (option_map (λ f. written f at b) t) c
written_left None at b c left = left
written_left (Some f) at b c left = grown_image f at (length b) (overwritten f.reads at b) c left

pub failed_left : (t u : Option File) (at len : ℕ) (c : List ℕ) → WhereTold t u (λ f h. IsAfterFailedWrite f at len h) → MayLeave t c → MayLeave u c
failed_left None None at len c torn left = left
failed_left None (Some h) at len c torn left = absurd torn
failed_left (Some f) None at len c torn left = absurd torn
failed_left (Some f) (Some h) at len c (inl same) left = subst (λ (q : File). IsImage q c) (sym same) left
failed_left (Some f) (Some h) at len c (inr torn) left = subst (λ (q : File). IsImage q c) (sym torn.file) (grown_image f at len h.reads c left)
