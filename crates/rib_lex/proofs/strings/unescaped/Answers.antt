use Rattle.std.proofs.Common.{◌∙◌, ap, subst, sym, [], ◌∷◌, get_or, append-nil, lit<}
use Rattle.std.specs.Str.{IsAscii}
use Rattle.rib_lex.specs.Strings.{escaped}
use Rattle.rib_lex.proofs.Unescaping.{kept_escaped, kept_backslash, kept_plain, ascii_more, plain_below}
use Rattle.rib_lex.proofs.strings.unescaped.Goals as goal
use Rattle.rib_lex.proofs.strings.unescaped.Goals.{then-behind+in-34+in_ok-push-in-34, then-behind+in-92+in_ok-push-in-92, then-behind+in-110+in_ok-push-in-110, then-behind+in-116+in_ok-push-in-116, then-behind+in-10, else-behind+else-byte-eq34+then-byte-eq92, else-behind+else-byte-eq34+else-byte-eq92+then-plain+in_ok-push}

pub loop-at-preserved : goal.loop-at-preserved
loop-at-preserved c = elim c.if-behind.branch [
  | then-behind+in-34+in_ok-push-in-34 w ↦
      let grown = ap (λ v. v.items) w.text-is ∙ w.in_ok-push-in-34.ensures.items in
      record {
        same = kept_escaped c.loop-at.text.items c.if-behind.text.items c.args.bytes.now c.loop-at.at c.loop-at.behind c.if-behind.behind c.loop-at-test.true c.loop-at.invariant.same (34 ∷ []) w.if-behind.true w.behind-is (ap escaped w.in-34.is) grown;
        ascii = ascii_more c.loop-at.text.items c.if-behind.text.items 34 grown (lit< tt) c.loop-at.invariant.ascii;
      }
  | then-behind+in-92+in_ok-push-in-92 w ↦
      let grown = ap (λ v. v.items) w.text-is ∙ w.in_ok-push-in-92.ensures.items in
      record {
        same = kept_escaped c.loop-at.text.items c.if-behind.text.items c.args.bytes.now c.loop-at.at c.loop-at.behind c.if-behind.behind c.loop-at-test.true c.loop-at.invariant.same (92 ∷ []) w.if-behind.true w.behind-is (ap escaped w.in-92.is) grown;
        ascii = ascii_more c.loop-at.text.items c.if-behind.text.items 92 grown (lit< tt) c.loop-at.invariant.ascii;
      }
  | then-behind+in-110+in_ok-push-in-110 w ↦
      let grown = ap (λ v. v.items) w.text-is ∙ w.in_ok-push-in-110.ensures.items in
      record {
        same = kept_escaped c.loop-at.text.items c.if-behind.text.items c.args.bytes.now c.loop-at.at c.loop-at.behind c.if-behind.behind c.loop-at-test.true c.loop-at.invariant.same (10 ∷ []) w.if-behind.true w.behind-is (ap escaped w.in-110.is) grown;
        ascii = ascii_more c.loop-at.text.items c.if-behind.text.items 10 grown (lit< tt) c.loop-at.invariant.ascii;
      }
  | then-behind+in-116+in_ok-push-in-116 w ↦
      let grown = ap (λ v. v.items) w.text-is ∙ w.in_ok-push-in-116.ensures.items in
      record {
        same = kept_escaped c.loop-at.text.items c.if-behind.text.items c.args.bytes.now c.loop-at.at c.loop-at.behind c.if-behind.behind c.loop-at-test.true c.loop-at.invariant.same (9 ∷ []) w.if-behind.true w.behind-is (ap escaped w.in-116.is) grown;
        ascii = ascii_more c.loop-at.text.items c.if-behind.text.items 9 grown (lit< tt) c.loop-at.invariant.ascii;
      }
  | then-behind+in-10 w ↦
      let same_text = ap (λ v. v.items) w.text-is in
      record {
        same = kept_escaped c.loop-at.text.items c.if-behind.text.items c.args.bytes.now c.loop-at.at c.loop-at.behind c.if-behind.behind c.loop-at-test.true c.loop-at.invariant.same [] w.if-behind.true w.behind-is (ap escaped w.in-10.is) (same_text ∙ sym (append-nil c.loop-at.text.items));
        ascii = subst IsAscii (sym same_text) c.loop-at.invariant.ascii;
      }
  | else-behind+else-byte-eq34+then-byte-eq92 w ↦
      let same_text = ap (λ v. v.items) w.text-is in
      record {
        same = kept_backslash c.loop-at.text.items c.if-behind.text.items c.args.bytes.now c.loop-at.at c.loop-at.behind c.if-behind.behind c.loop-at-test.true c.loop-at.invariant.same w.if-behind.false w.behind-is w.if-byte-eq92.true same_text;
        ascii = subst IsAscii (sym same_text) c.loop-at.invariant.ascii;
      }
  | else-behind+else-byte-eq34+else-byte-eq92+then-plain+in_ok-push w ↦
      let grown = ap (λ v. v.items) w.text-is ∙ w.in_ok-push.ensures.items in
      let plain = sym w.plain.ensures ∙ w.if-plain.true in
      record {
        same = kept_plain c.loop-at.text.items c.if-behind.text.items c.args.bytes.now c.loop-at.at c.loop-at.behind c.if-behind.behind c.loop-at-test.true c.loop-at.invariant.same w.if-behind.false (w.behind-is ∙ w.if-behind.false) w.if-byte-eq34.false w.if-byte-eq92.false plain grown;
        ascii = ascii_more c.loop-at.text.items c.if-behind.text.items (get_or c.args.bytes.now c.loop-at.at 0) grown (plain_below (get_or c.args.bytes.now c.loop-at.at 0) plain) c.loop-at.invariant.ascii;
      }
]
