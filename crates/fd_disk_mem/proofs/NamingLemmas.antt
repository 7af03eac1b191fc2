-- A file's name is read back from its text.
use Rattle.std.proofs.Common.{◌≡◌, ◌≢◌, ◌+◌, ◌-◌, ◌<◌, ◌≤◌, ◌^◌, ℕ, zero, suc, List, [], ◌∷◌, ◌++◌, length, take, drop, get_or, Option, Some, None, MatchOption, Bor, sym, ◌∙◌, ap, arith, decimal, codes, length-append, length-drop, get_or-drop, take_at, append_assoc}
use Rattle.std.proofs.Math.Seq.{get_or-append_seam, get_or-append_right, drop-append-add}
use Rattle.std.proofs.lemmas.Str.{len_utf8_ascii}
use Rattle.std.proofs.lemmas.Str.Pattern.{IsSplitOnceResult, NoCharPasses-char, split_after}
use Rattle.std.proofs.lemmas.Fmt.{decimal_is_IsNumeral}
use Rattle.std.specs.Str.Pattern.{RFindsChar}
use Rattle.std.specs.Str.Parse.{AllDigits}
use Rattle.std.proofs.lemmas.Str.Parse.{digit_from_value}
use Rattle.fd_disk.specs.declared.folders.FileKind.{FileKind}
use Rattle.fd_disk.specs.declared.folders.FileKind.TheVariants.{Fields, Index}
use Rattle.fd_disk.specs.declared.folders.FileName.{FileName}
use Rattle.fd_disk_mem.specs.Naming.{end_text}
use Rattle.fd_file_mem.specs.Plans.{ending, file_text}

-- no byte is this one
abbrev pub Lacks : ℕ → List ℕ → Type 0
Lacks c [] = Unit {0}
Lacks c (b ∷ bs) = (b ≢ c) × Lacks c bs

pub lacks_each : (c : ℕ) (bs : List ℕ) → Lacks c bs → (i : ℕ) → i < length bs → get_or bs i 0 ≢ c
lacks_each c [] l i lt e = omega (arith, lt)
lacks_each c (b ∷ bs) l zero lt e = l.0 e
lacks_each c (b ∷ bs) l (suc i) lt e = lacks_each c bs l.1 i (omega (arith, lt)) e

lacks_both : (c : ℕ) (xs ys : List ℕ) → Lacks c xs → Lacks c ys → Lacks c (xs ++ ys)
lacks_both c [] ys l m = m
lacks_both c (x ∷ xs) ys l m = (l.0, lacks_both c xs ys l.1 m)

lacks_digits : (c : ℕ) (bs : List ℕ) → c < 48 → AllDigits 10 bs → Lacks c bs
lacks_digits c [] low d = tt
lacks_digits c (b ∷ bs) low d = ((λ e. omega (arith, low, e, (digit_from_value b d.0).0)), lacks_digits c bs low d.1)

pub lacks_decimal : (c n : ℕ) → c < 48 → n < 2 ^ 64 → Lacks c (decimal n)
lacks_decimal c n low small = lacks_digits c (decimal n) low (decimal_is_IsNumeral n small).0.1

lacks_ending : (k : FileKind) → Lacks 47 (ending k)
lacks_ending Fields = ((λ e. omega (arith, e)), ((λ e. omega (arith, e)), ((λ e. omega (arith, e)), ((λ e. omega (arith, e)), ((λ e. omega (arith, e)), ((λ e. omega (arith, e)), tt))))))
lacks_ending Index = ((λ e. omega (arith, e)), ((λ e. omega (arith, e)), ((λ e. omega (arith, e)), ((λ e. omega (arith, e)), ((λ e. omega (arith, e)), tt)))))

pub file_text_is : (dataset : List ℕ) (n : FileName) → file_text dataset n ≡ dataset ++ (47 ∷ end_text n)
file_text_is dataset n =
    let w = decimal n.writer in
    let q = decimal n.seq in
    let e = ending n.kind in
    append_assoc (dataset ++ codes "/" ++ w ++ codes "-" ++ q) (codes ".") e
    ∙ append_assoc (dataset ++ codes "/" ++ w ++ codes "-") q (46 ∷ e)
    ∙ append_assoc (dataset ++ codes "/" ++ w) (codes "-") (q ++ (46 ∷ e))
    ∙ append_assoc (dataset ++ codes "/") w (45 ∷ (q ++ (46 ∷ e)))
    ∙ append_assoc dataset (codes "/") (end_text n)

-- what stands behind the dataset has no slash
pub lacks_slash : (n : FileName) → n.writer < 2 ^ 32 → n.seq < 2 ^ 32 → Lacks 47 (end_text n)
lacks_slash n writer seq =
    lacks_both 47 (decimal n.writer) _ (lacks_decimal 47 n.writer (omega arith) (omega (arith, writer)))
    ((λ e. omega (arith, e)), lacks_both 47 (decimal n.seq) _ (lacks_decimal 47 n.seq (omega arith) (omega (arith, seq))) ((λ e. omega (arith, e)), lacks_ending n.kind))

-- what stands before the first such byte and behind it, where a number stands before it
pub number_split : (c n : ℕ) (bs ys : List ℕ) (r : Option (Bor (List ℕ) × Bor (List ℕ))) → c < 48 → n < 2 ^ 32 → IsSplitOnceResult c bs r → bs ≡ decimal n ++ (c ∷ ys) → MatchOption r ⊥ (λ x. (x.0.now ≡ decimal n) × (x.1.now ≡ ys))
number_split c n bs ys r low small h is =
    split_after c bs (decimal n) ys r h (omega (arith, low)) is (lacks_each c (decimal n) (lacks_decimal c n low (omega (arith, small))))

-- the clause of `rsplit_once`
abbrev pub IsLastSplit : ℕ → List ℕ → Option (Bor (List ℕ) × Bor (List ℕ)) → Type 0
IsLastSplit c bs r = MatchOption r (RFindsChar c bs None) (λ x. (i : ℕ) × (j : ℕ) × RFindsChar c bs (Some (i, j)) × (x.0.now ≡ take i bs) × (x.1.now ≡ drop j bs) × (i ≤ j) × (length x.0.now ≡ i) × (length x.1.now + j ≡ length bs))

-- if bs is xs, c and ys, and ys holds no c, the search from the end stops at that c
module _ (c : ℕ) (bs xs ys : List ℕ) (low : c < 128) (is : bs ≡ xs ++ (c ∷ ys)) (lacks : Lacks c ys) where
  at_seam : get_or bs (length xs) 0 ≡ c
  at_seam = ap (λ l. get_or l (length xs) 0) is ∙ get_or-append_seam xs c ys 0

  long : length bs ≡ length xs + suc (length ys)
  long = ap length is ∙ length-append xs (c ∷ ys)

  behind : (i : ℕ) → length xs < i → i < length bs → get_or bs i 0 ≢ c
  behind i past within e =
      let k = i - length xs - 1 in
      let next : i - length xs ≡ suc k = omega (arith, past) in
      lacks_each c ys lacks k (omega (arith, past, within, long))
      (sym (ap (λ l. get_or l i 0) is ∙ get_or-append_right xs (c ∷ ys) i 0 (omega (arith, past)) ∙ ap (λ n. get_or (c ∷ ys) n 0) next) ∙ e)

  pub last_split : (r : Option (Bor (List ℕ) × Bor (List ℕ))) → IsLastSplit c bs r → MatchOption r ⊥ (λ x. (x.0.now ≡ xs) × (x.1.now ≡ ys))
  last_split None h = NoCharPasses-char c bs (length xs) h low (omega (arith, long)) at_seam
  last_split (Some x) h =
      let p = h.0 in
      let q = h.1 in
      let past : q ≡ p + 1 = omega (arith, h.2.1.ends, len_utf8_ascii c low) in
      let within : p < length bs = omega (arith, past, h.7) in
      let not_before : p < length xs → ⊥ = λ before.
      let back : q + (length xs - q) ≡ length xs = omega (arith, past, before) in
      NoCharPasses-char c (drop q bs) (length xs - q) h.2.0 low (omega (arith, past, before, long, length-drop q bs))
      (get_or-drop q bs (length xs - q) 0 ∙ ap (λ n. get_or bs n 0) back ∙ at_seam) in
      let not_after : length xs < p → ⊥ = λ after. behind p after within (h.2.1.byte low) in
      let here : length xs ≡ p = between p not_before not_after in (
        h.3 ∙ ap (take p) is ∙ take_at xs (c ∷ ys) p here,
        h.4 ∙ ap (λ k. drop k bs) (omega (arith, past, here)) ∙ ap (drop (length xs + 1)) is ∙ drop-append-add xs (c ∷ ys) 1,
      )
    where
      between : (p : ℕ) → (p < length xs → ⊥) → (length xs < p → ⊥) → length xs ≡ p
      between p a b = grind (arith, a, b)
