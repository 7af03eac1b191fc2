-- What is read is a message, and each message is read.
use Rattle.std.proofs.Common.{◌≡◌, ℕ, ◌-◌, List, ◌++◌, length, Option, Result, Ok, Err, refl, sym, ap, subst, ◌∙◌, lit≤}
use Rattle.std.specs.Prelude.{IfOk, OnErr}
use Rattle.fd_sections.specs.Given.{Is}
use Rattle.fd_sections.specs.declared.bad.Bad.{Bad}
use Rattle.fd_sections.specs.Message.{Sections, IsMessage, IsIndicator, end_section, if_present, message_octets}
use Rattle.fd_sections.specs.Reading.{reading, indicator_at, section_at, local_use_at, end_at}
use Rattle.fd_sections.proofs.SectionLaws.{bind_ok, ok_is, section_takes, section_again, local_use_takes, local_use_again, indicator_takes, indicator_again, end_takes}

abbrev Rest : Type 0
Rest = List ℕ × List ℕ

-- the message that its sections make
abbrev made : Rest → Rest → Option (List ℕ) × List ℕ → Rest → Rest → Rest → Rest → Rest → Sections
made s0 s1 s2 s3 s4 s5 s6 s7 = record { indicator = s0.0; identification = s1.0; local_use = s2.0; grid = s3.0; product = s4.0; representation = s5.0; bit_map = s6.0; values = s7.0 }

behind : (front : List ℕ) {xs ys : List ℕ} → xs ≡ ys → front ++ xs ≡ front ++ ys
behind front e = ap (λ (t : List ℕ). front ++ t) e

-- what is read is a message with these sections
pub reading_takes : (m : List ℕ) (s : Sections) → reading m ≡ Ok s → IsMessage m s
unfolding reading
reading_takes m s e =
    let b0 = bind_ok (indicator_at m) _ s e in
    let b1 = bind_ok (section_at 1 21 b0.0.1) _ s b0.2 in
    let b2 = bind_ok (local_use_at b1.0.1) _ s b1.2 in
    let b3 = bind_ok (section_at 3 14 b2.0.1) _ s b2.2 in
    let b4 = bind_ok (section_at 4 9 b3.0.1) _ s b3.2 in
    let b5 = bind_ok (section_at 5 11 b4.0.1) _ s b4.2 in
    let b6 = bind_ok (section_at 6 6 b5.0.1) _ s b5.2 in
    let b7 = bind_ok (section_at 7 5 b6.0.1) _ s b6.2 in
    let b8 = bind_ok (end_at (length m - length b7.0.1) b7.0.1) _ s b7.2 in
    let t0 = indicator_takes m b0.0 b0.1 in
    let t1 = section_takes 1 21 b0.0.1 b1.0 (lit≤ tt) b1.1 in
    let t2 = local_use_takes b1.0.1 b2.0 b2.1 in
    let t3 = section_takes 3 14 b2.0.1 b3.0 (lit≤ tt) b3.1 in
    let t4 = section_takes 4 9 b3.0.1 b4.0 (lit≤ tt) b4.1 in
    let t5 = section_takes 5 11 b4.0.1 b5.0 (lit≤ tt) b5.1 in
    let t6 = section_takes 6 6 b5.0.1 b6.0 (lit≤ tt) b6.1 in
    let t7 = section_takes 7 5 b6.0.1 b7.0 (lit≤ tt) b7.1 in
    let t8 = end_takes (length m - length b7.0.1) b7.0.1 b8.0 b8.1 in
    let whole : m ≡ message_octets (made b0.0 b1.0 b2.0 b3.0 b4.0 b5.0 b6.0 b7.0) =
    t0.0 ∙ behind b0.0.0 (t1.0 ∙ behind b1.0.0 (t2.0 ∙ behind (if_present b2.0.0) (t3.0 ∙ behind b3.0.0 (t4.0 ∙ behind b4.0.0 (t5.0 ∙ behind b5.0.0 (t6.0 ∙ behind b6.0.0 (t7.0 ∙ behind b7.0.0 t8))))))) in
    subst (λ (x : Sections). IsMessage m x) (ok_is (made b0.0 b1.0 b2.0 b3.0 b4.0 b5.0 b6.0 b7.0) s b8.2) (record {
      whole = whole;
      indicator = t0.1;
      identification = t1.1;
      local_use = t2.1;
      grid = t3.1;
      product = t4.1;
      representation = t5.1;
      bit_map = t6.1;
      values = t7.1;
    })

again : (m : List ℕ) (s : Sections) → IsIndicator (length (message_octets s)) s.indicator → IsMessage m s → reading (message_octets s) ≡ Ok s
unfolding reading end_at
again m s head is =
    let r8 = end_section in
    let r7 = s.values ++ r8 in
    let r6 = s.bit_map ++ r7 in
    let r5 = s.representation ++ r6 in
    let r4 = s.product ++ r5 in
    let r3 = s.grid ++ r4 in
    let r2 = if_present s.local_use ++ r3 in
    let r1 = s.identification ++ r2 in
    rw (indicator_again s.indicator r1 head, section_again 1 21 s.identification r2 is.identification, local_use_again s.local_use s.grid r4 is.local_use is.grid, section_again 3 14 s.grid r4 is.grid, section_again 4 9 s.product r5 is.product, section_again 5 11 s.representation r6 is.representation, section_again 6 6 s.bit_map r7 is.bit_map, section_again 7 5 s.values r8 is.values) refl

-- each message is read, as these sections
pub reading_again : (m : List ℕ) (s : Sections) → IsMessage m s → reading m ≡ Ok s
reading_again m s is =
    let head : IsIndicator (length (message_octets s)) s.indicator = subst (λ (x : List ℕ). IsIndicator (length x) s.indicator) is.whole is.indicator in
    subst (λ (x : List ℕ). reading x ≡ Ok s) (sym is.whole) (again m s head is)

-- what is refused is no message
pub refused : (m : List ℕ) (bad : Bad) → reading m ≡ Err bad → (s : Sections) → IsMessage m s → ⊥
refused m bad e s is = let again = reading_again m s is in cc

-- the same of what a function returned
pub found : {X : Type 0} (view : X → Sections) (m : List ℕ) (r : Result X Bad) → Is view r (reading m) → IfOk r (λ x. IsMessage m (view x))
found view m (Ok x) is = reading_takes m (view x) is
found view m (Err bad) is = tt

pub none_refused : {X : Type 0} (view : X → Sections) (m : List ℕ) (r : Result X Bad) → Is view r (reading m) → OnErr r ((s : Sections) → IsMessage m s → ⊥)
none_refused view m (Ok x) is = tt
none_refused view m (Err bad) is = refused m bad is
