use Rattle.std.proofs.Common.{◌≡◌, ◌+◌, ◌-◌, ◌++◌, ◌∷◌, [], ◌<◌, ◌^◌, Some, true, length, ap, sym, ◌∙◌, rules, arith, length-append}
use Rattle.std.proofs.lemmas.List.{nil_from_length}
use Rattle.std.proofs.lemmas.Bool.Decides.{nat_tests}
use Rattle.outside.specs.Marks.{length_in, lines_in}
use Rattle.outside.specs.HeldLines.{HeldLines, after_line}
use Rattle.outside.specs.declared.memory_notes.Mark.{Mark}
use Rattle.outside.proofs.Lines.{length_in-append, lines_in-blank, lines_in-more, after-le}
use Rattle.outside.proofs.memory_notes.MemoryNotesNotes.line.Goals as goal

pub overflow_add-self-then-is_empty : goal.overflow_add-self-then-is_empty
overflow_add-self-then-is_empty c =
    let n = c.self.inside in
    let least = after-le n.store.items n.marks.items n.blank in
    let below : n.blank + 1 < 2 ^ 64 = omega (arith, least, c.self.invariant.counted) in
    search rules

pub invariant_of-self-then-is_empty : goal.invariant_of-self-then-is_empty
invariant_of-self-then-is_empty c =
    let n = c.self.inside in
    let e = lines_in-blank n.store.items n.marks.items n.blank in
    record {
      stored = c.self.invariant.stored;
      store_fits = c.self.invariant.store_fits;
      marks_fit = c.self.invariant.marks_fit;
      counted = omega (arith, c.self.invariant.counted, ap length e, length-append (lines_in n.store.items n.marks.items n.blank) ([] ∷ []));
    }

pub returns-then-is_empty-clause-lines : goal.returns-then-is_empty-clause-lines
returns-then-is_empty-clause-lines c =
    let n = c.self.inside in
    let empty : c.args.text.now ≡ [] = nil_from_length c.args.text.now (grind (arith, nat_tests)) in
    let e = lines_in-blank n.store.items n.marks.items n.blank in
    ap (λ ls. Some ls) (e ∙ ap (λ l. lines_in n.store.items n.marks.items n.blank ++ l ∷ []) (sym empty) ∙ ap (λ h. h.lines ++ c.args.text.now ∷ []) c.self.view_is)

pub returns-then-is_empty-clause-after : goal.returns-then-is_empty-clause-after
returns-then-is_empty-clause-after c =
    let n = c.self.inside in
    let empty : c.args.text.now ≡ [] = nil_from_length c.args.text.now (grind (arith, nat_tests)) in
    let e = lines_in-blank n.store.items n.marks.items n.blank ∙ ap (λ l. lines_in n.store.items n.marks.items n.blank ++ l ∷ []) (sym empty) in
    let left : n.left ≡ n.left - length c.args.text.now = omega (arith, ap length empty) in
    let same : ◌≡◌ {A = HeldLines} (record { lines = lines_in n.store.items n.marks.items (n.blank + 1); room = n.left; log = c.is_failing.new.self }) _ =
    λ i. record { lines = e i; room = left i; log = c.is_failing.ensures.after i } in
    same ∙ ap (λ h. after_line c.args.text.now true h) c.self.view_is

pub invariant_of-self-2 : goal.invariant_of-self-2
invariant_of-self-2 c =
    let n = c.self.inside in
    let line = c.args.text.now in
    let mark : Mark = record { blank = n.blank; length = length line } in
    let store : c.extend_from_slice.new.self.items ≡ n.store.items ++ line = search rules in
    let marks : c.push.new.self.items ≡ n.marks.items ++ mark ∷ [] = search rules in
    let e : lines_in c.extend_from_slice.new.self.items c.push.new.self.items 0 ≡ lines_in n.store.items n.marks.items n.blank ++ line ∷ [] =
    ap (λ s. lines_in s c.push.new.self.items 0) store ∙ ap (λ ms. lines_in (n.store.items ++ line) ms 0) marks ∙ lines_in-more n.store.items line n.marks.items n.blank c.self.invariant.stored in
    record {
      stored = omega (arith, ap length_in marks, length_in-append n.marks.items mark, ap length store, length-append n.store.items line, c.self.invariant.stored);
      store_fits = search rules;
      marks_fit = search rules;
      counted = omega (arith, c.self.invariant.counted, ap length e, length-append (lines_in n.store.items n.marks.items n.blank) (line ∷ []));
    }

pub returns-clause-lines : goal.returns-clause-lines
returns-clause-lines c =
    let n = c.self.inside in
    let line = c.args.text.now in
    let mark : Mark = record { blank = n.blank; length = length line } in
    let store : c.extend_from_slice.new.self.items ≡ n.store.items ++ line = search rules in
    let marks : c.push.new.self.items ≡ n.marks.items ++ mark ∷ [] = search rules in
    let e : lines_in c.extend_from_slice.new.self.items c.push.new.self.items 0 ≡ lines_in n.store.items n.marks.items n.blank ++ line ∷ [] =
    ap (λ s. lines_in s c.push.new.self.items 0) store ∙ ap (λ ms. lines_in (n.store.items ++ line) ms 0) marks ∙ lines_in-more n.store.items line n.marks.items n.blank c.self.invariant.stored in
    ap (λ ls. Some ls) (e ∙ ap (λ h. h.lines ++ line ∷ []) c.self.view_is)

pub returns-clause-after : goal.returns-clause-after
returns-clause-after c =
    let n = c.self.inside in
    let line = c.args.text.now in
    let mark : Mark = record { blank = n.blank; length = length line } in
    let store : c.extend_from_slice.new.self.items ≡ n.store.items ++ line = search rules in
    let marks : c.push.new.self.items ≡ n.marks.items ++ mark ∷ [] = search rules in
    let e : lines_in c.extend_from_slice.new.self.items c.push.new.self.items 0 ≡ lines_in n.store.items n.marks.items n.blank ++ line ∷ [] =
    ap (λ s. lines_in s c.push.new.self.items 0) store ∙ ap (λ ms. lines_in (n.store.items ++ line) ms 0) marks ∙ lines_in-more n.store.items line n.marks.items n.blank c.self.invariant.stored in
    let same : ◌≡◌ {A = HeldLines} (record { lines = lines_in c.extend_from_slice.new.self.items c.push.new.self.items 0; room = n.left - length line; log = c.is_failing.new.self }) _ =
    λ i. record { lines = e i; room = n.left - length line; log = c.is_failing.ensures.after i } in
    same ∙ ap (λ h. after_line line true h) c.self.view_is
