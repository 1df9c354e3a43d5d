use Rattle.std.proofs.Common.{◌≡◌, ◌+◌, ◌∷◌, ◌<◌, drop, get_or, ap, ◌∙◌, add-one, drop-cons, refl, length, subst}
use Rattle.std.specs.Prelude.{IfOk}
use Rattle.sl_lexer.proofs.StringBytes.{ascii_turn, byte_turn, skipped_turn, backslash_turn, end_turn, bad_turn}
use Rattle.sl_lexer.proofs.strings.read_string.Goals as goal
use Rattle.sl_lexer.proofs.strings.read_string.Goals.{in-Backslash, in-Skipped, in-Byte+in_ok-push-in-Byte}

pub loop-at-preserved : goal.loop-at-preserved
loop-at-preserved c =
    let bytes = c.args.bytes.now in
    let at = c.loop-at.at in
    let here : at < length bytes = c.loop-at-test.true in
    let left : drop at bytes ≡ get_or bytes at 0 ∷ drop (at + 1) bytes = rw (add-one, drop-cons bytes at 0) refl in
    let text = c.match-byte_at.text.items in
    elim c.match-byte_at.branch [
      | in-Backslash w ↦ record {
        same = backslash_turn c.loop-at.text.items text at c.loop-at.after_backslash c.match-byte_at.after_backslash (get_or bytes at 0) (drop at bytes) (drop (at + 1) bytes) _ left c.loop-at.invariant.same (w.in-Backslash.ensures.goes (drop (at + 1) bytes)) (ap (λ t. t.items) w.text-is) w.after_backslash-is;
        ascii = rw w.text-is c.loop-at.invariant.ascii;
      }
      | in-Skipped w ↦ record {
        same = skipped_turn c.loop-at.text.items text at c.loop-at.after_backslash c.match-byte_at.after_backslash (get_or bytes at 0) (drop at bytes) (drop (at + 1) bytes) _ left c.loop-at.invariant.same (w.in-Skipped.ensures.goes (drop (at + 1) bytes)) (ap (λ t. t.items) w.text-is) w.after_backslash-is;
        ascii = rw w.text-is c.loop-at.invariant.ascii;
      }
      | in-Byte+in_ok-push-in-Byte w ↦ record {
        same = byte_turn c.loop-at.text.items text at c.loop-at.after_backslash c.match-byte_at.after_backslash (get_or bytes at 0) (drop at bytes) (drop (at + 1) bytes) _ left c.loop-at.invariant.same w.in-Byte.byte (w.in-Byte.ensures.goes (drop (at + 1) bytes)) (ap (λ t. t.items) w.text-is ∙ w.in_ok-push-in-Byte.ensures.items) w.after_backslash-is;
        ascii = ascii_turn c.loop-at.text.items text w.in-Byte.byte (ap (λ t. t.items) w.text-is ∙ w.in_ok-push-in-Byte.ensures.items) w.in-Byte.ensures.ascii c.loop-at.invariant.ascii;
      }
    ]

pub returns-in-End-clause-found : goal.returns-in-End-clause-found
returns-in-End-clause-found c =
    let bytes = c.args.bytes.now in
    let at = c.loop-at.at in
    let here : at < length bytes = c.loop-at-test.true in
    let left : drop at bytes ≡ get_or bytes at 0 ∷ drop (at + 1) bytes = rw (add-one, drop-cons bytes at 0) refl in
    subst (λ x. IfOk c.ended.result (λ s. s ≡ x))
    (end_turn c.loop-at.text.items at c.loop-at.after_backslash (get_or bytes at 0) (drop at bytes) (drop (at + 1) bytes) _ left c.loop-at.invariant.same
    c.deref.result.now (c.in-End.ensures.goes (drop (at + 1) bytes)) c.deref.ensures.value)
    c.ended.ensures

pub returns-in-Bad-clause-found : goal.returns-in-Bad-clause-found
returns-in-Bad-clause-found c =
    let bytes = c.args.bytes.now in
    let at = c.loop-at.at in
    let here : at < length bytes = c.loop-at-test.true in
    let left : drop at bytes ≡ get_or bytes at 0 ∷ drop (at + 1) bytes = rw (add-one, drop-cons bytes at 0) refl in
    bad_turn c.loop-at.text.items at c.loop-at.after_backslash (get_or bytes at 0) (drop at bytes) (drop (at + 1) bytes) _ left c.loop-at.invariant.same
    (c.in-Bad.ensures.goes (drop (at + 1) bytes))
