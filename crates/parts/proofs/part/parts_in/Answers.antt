use Rattle.std.proofs.Common.{◌∙◌, ap, subst, arith, [], length, length-append, get_or}
use Rattle.std.proofs.lemmas.List.{get_or_read}
use Rattle.parts.specs.Formats.{IsNoPart, IsParsed, no_part}
use Rattle.parts.proofs.Bucketry.{parsed_more}
use Rattle.parts.proofs.part.parts_in.Goals as goal

pub returns-in_default : goal.returns-in_default
returns-in_default c =
    let text = c.as_slice.ensures ∙ get_or_read c.args.texts.now c.loop-i.i c.index-texts-i.result c.loop-i-test.true c.index-texts-i.is [] in
    let m = c.in_ok-part.ensures in
    let none = rw c.in_default.is at m in
    record {
      there = omega arith;
      no_part = subst IsNoPart text none;
      before = λ j l. (get_or c.loop-i.parts.items j no_part, c.loop-i.invariant.each j l);
    }

pub loop-i-preserved : goal.loop-i-preserved
loop-i-preserved c =
    let text = c.as_slice.ensures ∙ get_or_read c.args.texts.now c.loop-i.i c.index-texts-i.result c.loop-i-test.true c.index-texts-i.is [] in
    let m = c.in_ok-part.ensures in
    let some = rw c.in-Some.is at m in
    let items = c.in_ok-push.ensures.items in
    record {
      count = (let n = c.loop-i.invariant.count in let e = simp length-append at (ap length items) in omega (arith, e, n));
      each = parsed_more c.args.texts.now c.loop-i.parts.items c.push.new.self.items c.loop-i.i c.in-Some.part c.loop-i.invariant.count c.loop-i.invariant.each (subst (λ t. IsParsed t c.in-Some.part) text some) items;
    }
