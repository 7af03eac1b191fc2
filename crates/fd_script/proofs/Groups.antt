-- What the lines say with one more line.
use Rattle.std.proofs.Common.{◌≡◌, ◌∙◌, ℕ, ◌+◌, List, [], ◌∷◌, ◌++◌, length, Option, Some, None, refl, sym, ap, arith}
use Rattle.fd_script.specs.Lines.{Task, Said, Silent, DatasetIs, LaneBegins, Asks, MessagesFollow, Unknown}
use Rattle.fd_script.specs.Grammar.{Group, steps_from, lanes_from, dataset_in, or_dataset}
use Rattle.fd_script.specs.Growing.{onto_last, after_said}

-- a step behind lines without a lane
steps_more : (n k : ℕ) (ss : List Said) (t : Task) → lanes_from n ss ≡ [] → k ≡ n + length ss → steps_from n (ss ++ Asks t ∷ []) ≡ steps_from n ss ++ (k, t) ∷ []
unfolding steps_from lanes_from
steps_more n k [] t h e = let same : k ≡ n = omega (arith, e) in ap (λ i. (i, t) ∷ []) (sym same)
steps_more n k (Silent ∷ ss) t h e = steps_more (n + 1) k ss t h (omega (arith, e))
steps_more n k (DatasetIs text ∷ ss) t h e = steps_more (n + 1) k ss t h (omega (arith, e))
steps_more n k (LaneBegins name pairs ∷ ss) t h e = absurd (cc)
steps_more n k (Asks u ∷ ss) t h e = ap (λ l. (n, u) ∷ l) (steps_more (n + 1) k ss t h (omega (arith, e)))
steps_more n k (MessagesFollow ∷ ss) t h e = steps_more (n + 1) k ss t h (omega (arith, e))
steps_more n k (Unknown ∷ ss) t h e = steps_more (n + 1) k ss t h (omega (arith, e))

-- no line behind a later lane is one of these steps
steps_same : (n : ℕ) (ss : List Said) (s : Said) (g : Group) (gs : List Group) → lanes_from n ss ≡ g ∷ gs → steps_from n (ss ++ s ∷ []) ≡ steps_from n ss
unfolding steps_from lanes_from
steps_same n [] s g gs h = absurd (cc)
steps_same n (Silent ∷ ss) s g gs h = steps_same (n + 1) ss s g gs h
steps_same n (DatasetIs text ∷ ss) s g gs h = steps_same (n + 1) ss s g gs h
steps_same n (LaneBegins name pairs ∷ ss) s g gs h = refl
steps_same n (Asks u ∷ ss) s g gs h = ap (λ l. (n, u) ∷ l) (steps_same (n + 1) ss s g gs h)
steps_same n (MessagesFollow ∷ ss) s g gs h = steps_same (n + 1) ss s g gs h
steps_same n (Unknown ∷ ss) s g gs h = steps_same (n + 1) ss s g gs h

-- a line that is no step changes no steps
abbrev NoStep : Said → Type 0
NoStep (Asks t) = ⊥
NoStep Silent = Unit {0}
NoStep (DatasetIs text) = Unit {0}
NoStep (LaneBegins name pairs) = Unit {0}
NoStep MessagesFollow = Unit {0}
NoStep Unknown = Unit {0}

steps_kept : (n : ℕ) (ss : List Said) (s : Said) → NoStep s → steps_from n (ss ++ s ∷ []) ≡ steps_from n ss
unfolding steps_from
steps_kept n [] Silent h = refl
steps_kept n [] (DatasetIs text) h = refl
steps_kept n [] (LaneBegins name pairs) h = refl
steps_kept n [] (Asks t) h = absurd h
steps_kept n [] MessagesFollow h = refl
steps_kept n [] Unknown h = refl
steps_kept n (Silent ∷ ss) s h = steps_kept (n + 1) ss s h
steps_kept n (DatasetIs text ∷ ss) s h = steps_kept (n + 1) ss s h
steps_kept n (LaneBegins name pairs ∷ ss) s h = refl
steps_kept n (Asks u ∷ ss) s h = ap (λ l. (n, u) ∷ l) (steps_kept (n + 1) ss s h)
steps_kept n (MessagesFollow ∷ ss) s h = steps_kept (n + 1) ss s h
steps_kept n (Unknown ∷ ss) s h = steps_kept (n + 1) ss s h

-- a lane in front of lanes behind one more line that is no step
front_kept : (k : ℕ) (s : Said) (g : Group) (gs : List Group) → NoStep s → g ∷ after_said k s gs ≡ after_said k s (g ∷ gs)
front_kept k Silent g gs h = refl
front_kept k (DatasetIs text) g gs h = refl
front_kept k (LaneBegins name pairs) g gs h = refl
front_kept k (Asks t) g gs h = absurd h
front_kept k MessagesFollow g gs h = refl
front_kept k Unknown g gs h = refl

none_before : (k n : ℕ) (s : Said) → NoStep s → lanes_from n (s ∷ []) ≡ after_said k s []
unfolding lanes_from steps_from
none_before k n Silent h = refl
none_before k n (DatasetIs text) h = refl
none_before k n (LaneBegins name pairs) h = refl
none_before k n (Asks t) h = absurd h
none_before k n MessagesFollow h = refl
none_before k n Unknown h = refl

lanes_quiet : (n k : ℕ) (ss : List Said) (s : Said) → NoStep s → lanes_from n (ss ++ s ∷ []) ≡ after_said k s (lanes_from n ss)
unfolding lanes_from
lanes_quiet n k [] s h = none_before k n s h
lanes_quiet n k (Silent ∷ ss) s h = lanes_quiet (n + 1) k ss s h
lanes_quiet n k (DatasetIs text ∷ ss) s h = lanes_quiet (n + 1) k ss s h
lanes_quiet n k (LaneBegins name pairs ∷ ss) s h =
    ap (λ (ts : List (ℕ × Task)). record { name = name; pairs = pairs; steps = ts } ∷ lanes_from (n + 1) (ss ++ s ∷ [])) (steps_kept (n + 1) ss s h)
    ∙ ap (λ gs. record { name = name; pairs = pairs; steps = steps_from (n + 1) ss } ∷ gs) (lanes_quiet (n + 1) k ss s h)
    ∙ front_kept k s (record { name = name; pairs = pairs; steps = steps_from (n + 1) ss }) (lanes_from (n + 1) ss) h
lanes_quiet n k (Asks u ∷ ss) s h = lanes_quiet (n + 1) k ss s h
lanes_quiet n k (MessagesFollow ∷ ss) s h = lanes_quiet (n + 1) k ss s h
lanes_quiet n k (Unknown ∷ ss) s h = lanes_quiet (n + 1) k ss s h

lanes_step : (n k : ℕ) (ss : List Said) (t : Task) → k ≡ n + length ss → lanes_from n (ss ++ Asks t ∷ []) ≡ onto_last k t (lanes_from n ss)
unfolding lanes_from onto_last
lanes_step n k [] t e = refl
lanes_step n k (Silent ∷ ss) t e = lanes_step (n + 1) k ss t (omega (arith, e))
lanes_step n k (DatasetIs text ∷ ss) t e = lanes_step (n + 1) k ss t (omega (arith, e))
lanes_step n k (LaneBegins name pairs ∷ ss) t e = go (lanes_from (n + 1) ss) refl (lanes_step (n + 1) k ss t (omega (arith, e)))
  where
    lane : List (ℕ × Task) → Group
    lane ts = record { name = name; pairs = pairs; steps = ts }

    go : (gs : List Group) → lanes_from (n + 1) ss ≡ gs → lanes_from (n + 1) (ss ++ Asks t ∷ []) ≡ onto_last k t (lanes_from (n + 1) ss)
        → lane (steps_from (n + 1) (ss ++ Asks t ∷ [])) ∷ lanes_from (n + 1) (ss ++ Asks t ∷ []) ≡ onto_last k t (lane (steps_from (n + 1) ss) ∷ lanes_from (n + 1) ss)
    go [] h later =
        ap (λ ts. lane ts ∷ lanes_from (n + 1) (ss ++ Asks t ∷ [])) (steps_more (n + 1) k ss t h (omega (arith, e)))
        ∙ ap (λ gs. lane (steps_from (n + 1) ss ++ (k, t) ∷ []) ∷ gs) (later ∙ ap (onto_last k t) h)
        ∙ sym (ap (λ gs. onto_last k t (lane (steps_from (n + 1) ss) ∷ gs)) h)
    go (g ∷ gs) h later =
        ap (λ ts. lane ts ∷ lanes_from (n + 1) (ss ++ Asks t ∷ [])) (steps_same (n + 1) ss (Asks t) g gs h)
        ∙ ap (λ gs. lane (steps_from (n + 1) ss) ∷ gs) (later ∙ ap (onto_last k t) h)
        ∙ sym (ap (λ gs. onto_last k t (lane (steps_from (n + 1) ss) ∷ gs)) h)
lanes_step n k (Asks u ∷ ss) t e = lanes_step (n + 1) k ss t (omega (arith, e))
lanes_step n k (MessagesFollow ∷ ss) t e = lanes_step (n + 1) k ss t (omega (arith, e))
lanes_step n k (Unknown ∷ ss) t e = lanes_step (n + 1) k ss t (omega (arith, e))

-- the lanes with one more line, which has this number
pub lanes_more : (ss : List Said) (s : Said) (k : ℕ) → k ≡ length ss + 1 → lanes_from 1 (ss ++ s ∷ []) ≡ after_said k s (lanes_from 1 ss)
lanes_more ss Silent k e = lanes_quiet 1 k ss Silent tt
lanes_more ss (DatasetIs text) k e = lanes_quiet 1 k ss (DatasetIs text) tt
lanes_more ss (LaneBegins name pairs) k e = lanes_quiet 1 k ss (LaneBegins name pairs) tt
lanes_more ss (Asks t) k e = lanes_step 1 k ss t (omega (arith, e))
lanes_more ss MessagesFollow k e = lanes_quiet 1 k ss MessagesFollow tt
lanes_more ss Unknown k e = lanes_quiet 1 k ss Unknown tt

-- the dataset with one more line
abbrev pub or_first : Option (List ℕ) → Option (List ℕ) → Option (List ℕ)
or_first None later = later
or_first (Some text) later = Some text

pub dataset_more : (ss : List Said) (s : Said) → dataset_in (ss ++ s ∷ []) ≡ or_first (dataset_in ss) (or_dataset s None)
unfolding dataset_in
dataset_more [] s = refl
dataset_more (Silent ∷ ss) s = dataset_more ss s
dataset_more (DatasetIs text ∷ ss) s = refl
dataset_more (LaneBegins name pairs ∷ ss) s = dataset_more ss s
dataset_more (Asks u ∷ ss) s = dataset_more ss s
dataset_more (MessagesFollow ∷ ss) s = dataset_more ss s
dataset_more (Unknown ∷ ss) s = dataset_more ss s
