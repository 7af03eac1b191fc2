use Rattle.std.proofs.Common.{◌≡◌, ◌++◌, ◌∙◌, ℕ, List, ap}
use Rattle.fd_sections.specs.Message.{end_section}
use Rattle.fd_split.proofs.Writing.{written}
use Rattle.fd_split.proofs.fields.put_sections.Goals as goal

more : (x : List ℕ) {a b c : List ℕ} → a ≡ b ++ x → b ≡ c → a ≡ c ++ x
more x e is = e ∙ ap (λ (t : List ℕ). t ++ x) is

pub returns : goal.returns
returns c =
    let i = c.args.indicator.now in
    let d = c.args.identification.now in
    let u = c.present.result.now in
    let p = c.args.parts.now in
    let e1 : c.extend_from_slice.new.self.items ≡ i = more i c.in_ok-extend_from_slice.ensures.items c.requires.none in
    let e2 = more d c.in_ok-extend_from_slice-2.ensures.items e1 in
    let e3 = more u c.in_ok-extend_from_slice-3.ensures.items e2 in
    let e4 = more p.grid.now c.in_ok-extend_from_slice-4.ensures.items e3 in
    let e5 = more p.product.now c.in_ok-extend_from_slice-5.ensures.items e4 in
    let e6 = more p.representation.now c.in_ok-extend_from_slice-6.ensures.items e5 in
    let e7 = more p.bit_map.now c.in_ok-extend_from_slice-7.ensures.items e6 in
    let e8 = more p.values.now c.in_ok-extend_from_slice-8.ensures.items e7 in
    let e9 = more end_section c.in_ok-extend_from_slice-9.ensures.items e8 in
    e9 ∙ written i d u p.grid.now p.product.now p.representation.now p.bit_map.now p.values.now end_section
    ∙ ap (λ (t : List ℕ). i ++ (d ++ (t ++ (p.grid.now ++ (p.product.now ++ (p.representation.now ++ (p.bit_map.now ++ (p.values.now ++ end_section)))))))) c.present.ensures
