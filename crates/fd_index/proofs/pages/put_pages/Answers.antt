use Rattle.std.proofs.Common.{◌≡◌, ◌≢◌, ◌<◌, ◌≤◌, ◌+◌, ◌-◌, [], ◌∷◌, ◌++◌, List, ℕ, Bool, false, eqb, Option, length, drop, get_or, ap, ◌∙◌, sym, subst, arith}
use Rattle.std.specs.Prelude.{unwrap_or}
use Rattle.std.proofs.lemmas.Bool.{eqb-true, eqb-false}
use Rattle.std.proofs.lemmas.List.{drop_more, drop_all, length-map}
use Rattle.fd_index.specs.Pages.{closed, size}
use Rattle.fd_index.specs.Records.{Record}
use Rattle.fd_index.specs.Slots.{record_of, records_of}
use Rattle.fd_index.specs.declared.slots.Slot.{Slot}
use Rattle.fd_index.proofs.Paging.{Filling, starts, adds, turns, stops, none_to_put}
use Rattle.fd_index.proofs.pages.put_pages.Goals as goal
use Rattle.fd_index.proofs.pages.put_pages.Goals.{then-len-size_of+in_ok-put_page, else-len-size_of}

some_are : (ss : List Slot) (b : Bool) → b ≡ eqb (length ss) 0 → b ≡ false → length ss ≢ 0
some_are ss b is not = eqb-false (length ss) 0 (sym is ∙ not)

pub returns-then-is_empty : goal.returns-then-is_empty
returns-then-is_empty c =
    let ts = c.args.texts.now.texts in
    let ss = c.args.slots.now in
    let empty : length ss ≡ 0 = eqb-true (length ss) 0 (sym c.is_empty.ensures ∙ c.if-is_empty.true) in
    let none = none_to_put (records_of ts ss) c.args.out.now.items (length-map ss (record_of ts) ∙ empty) in
    record { bytes = none.0; count = none.1 }

pub loop-slot-init : goal.loop-slot-init
loop-slot-init c =
    let start = c.args.out.now.items in
    let es = records_of c.args.texts.now.texts c.args.slots.now in
    subst (λ t. Filling es es start start 0 1 t) (sym c.new-text.ensures.items) (starts es start c.requires.fit)

pub loop-slot-preserved : goal.loop-slot-preserved
loop-slot-preserved c =
    let ts = c.args.texts.now.texts in
    let ss = c.args.slots.now in
    let i = c.loop-slot.slot-index in
    let s : Slot = get_or ss i (record { id = record { 0 = 0 }; at = 0; len = 0 }) in
    let more : drop i ss ≡ s ∷ drop (i + 1) ss = drop_more ss i (record { id = record { 0 = 0 }; at = 0; len = 0 }) (omega (arith, c.loop-slot-test.true)) in
    let es = records_of ts ss in
    let rest = records_of ts (drop (i + 1) ss) in
    let start = c.args.out.now.items in
    let text = c.loop-slot.text.items in
    let r : Record = record { key = c.text-key.result.now; at = s.at; len = s.len } in
    let same : record_of ts s ≡ r = ap (λ (o : Option (List ℕ)). record { key = unwrap_or o []; at = s.at; len = s.len }) c.text-key.ensures in
    let f : Filling es (r ∷ rest) start c.loop-slot.out.items c.loop-slot.count c.loop-slot.pages text =
    subst (λ (x : Record). Filling es (x ∷ rest) start c.loop-slot.out.items c.loop-slot.count c.loop-slot.pages text) same
    (subst (λ xs. Filling es (records_of ts xs) start c.loop-slot.out.items c.loop-slot.count c.loop-slot.pages text) more c.loop-slot.invariant) in
    let size_is : c.size_of.result ≡ size r = c.size_of.ensures in
    rw c.in_ok-put_record.ensures (elim c.if-len-size_of.branch [
      | then-len-size_of+in_ok-put_page w ↦
          let past : 4094 - length text < size r = omega (arith, w.if-len-size_of.true, size_is, c.len.ensures, c.loop-slot.text.ok.0) in
          rw (w.out-is, w.text-is, w.count-is, w.pages-is, w.clear.ensures.items, w.in_ok-put_page.ensures, w.deref.ensures.value)
          (turns es rest r start c.loop-slot.out.items c.loop-slot.count c.loop-slot.pages text f past)
      | else-len-size_of w ↦
          let le : size r ≤ 4094 - length text = omega (arith, w.if-len-size_of.false, size_is, c.len.ensures, c.loop-slot.text.ok.0) in
          rw (w.out-is, w.text-is, w.count-is, w.pages-is)
          (adds es rest r start c.loop-slot.out.items c.loop-slot.count c.loop-slot.pages text f le)
    ])

pub returns-clause-bytes : goal.returns-clause-bytes
returns-clause-bytes c =
    let ts = c.args.texts.now.texts in
    let ss = c.args.slots.now in
    let es = records_of ts ss in
    let none : drop c.loop-slot.slot-index ss ≡ [] = drop_all c.loop-slot.slot-index ss (omega arith) in
    let start = c.args.out.now.items in
    let text = c.loop-slot.text.items in
    let f : Filling es [] start c.loop-slot.out.items c.loop-slot.count c.loop-slot.pages text = subst (λ xs. Filling es (records_of ts xs) start c.loop-slot.out.items c.loop-slot.count c.loop-slot.pages text) none c.loop-slot.invariant in
    c.in_ok-put_page-2.ensures ∙ ap (λ (t : List ℕ). c.loop-slot.out.items ++ closed c.loop-slot.count t) c.deref-2.ensures.value
    ∙ (stops es start c.loop-slot.out.items c.loop-slot.count c.loop-slot.pages text f (omega (arith, some_are ss c.is_empty.result c.is_empty.ensures c.if-is_empty.false, length-map ss (record_of ts)))).0

pub returns-clause-count : goal.returns-clause-count
returns-clause-count c =
    let ts = c.args.texts.now.texts in
    let ss = c.args.slots.now in
    let es = records_of ts ss in
    let none : drop c.loop-slot.slot-index ss ≡ [] = drop_all c.loop-slot.slot-index ss (omega arith) in
    let start = c.args.out.now.items in
    let text = c.loop-slot.text.items in
    let f : Filling es [] start c.loop-slot.out.items c.loop-slot.count c.loop-slot.pages text = subst (λ xs. Filling es (records_of ts xs) start c.loop-slot.out.items c.loop-slot.count c.loop-slot.pages text) none c.loop-slot.invariant in
    (stops es start c.loop-slot.out.items c.loop-slot.count c.loop-slot.pages text f (omega (arith, some_are ss c.is_empty.result c.is_empty.ensures c.if-is_empty.false, length-map ss (record_of ts)))).1
