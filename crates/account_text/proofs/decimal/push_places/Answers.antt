use Rattle.std.proofs.Common.{rules, ◌≡◌, ◌+◌, ◌-◌, ◌*◌, ◌/◌, ◌%◌, ◌<◌, ◌++◌, ◌∷◌, [], false, sym, ap, subst, ◌∙◌, string_bytes, arith, mod-lt}
use Rattle.std.specs.Prelude.{◌==◌}
use Rattle.account_text.specs.Decimals.{places}
use Rattle.account_text.proofs.Places.{next_place, no_place, all_places}
use Rattle.account_text.proofs.decimal.push_places.Goals.{then-left-gt0+in_ok-push_digit, else-left-gt0}
use Rattle.account_text.proofs.decimal.push_places.Goals as goal

pub loop-place-preserved : goal.loop-place-preserved
loop-place-preserved c = elim c.if-left-gt0.branch [
  | then-left-gt0+in_ok-push_digit w ↦ (
      let some : (c.loop-place.left == 0) ≡ false = search rules in
      let more : string_bytes c.if-left-gt0.text ≡ string_bytes c.loop-place.text ++ (48 + 10 * c.loop-place.left / c.args.ones) ∷ [] = search rules in
      record {
        below = search rules;
        digits = ap (λ l. string_bytes c.if-left-gt0.text ++ places (32 - (c.loop-place.place + 1)) c.args.ones l) w.left-is
            ∙ next_place c.loop-place.place c.args.ones c.loop-place.left (string_bytes c.loop-place.text) (string_bytes c.if-left-gt0.text) _ c.loop-place-test.true some more c.loop-place.invariant.digits;
      })
  | else-left-gt0 w ↦ (
      let none : c.if-left-gt0.left ≡ 0 = w.left-is ∙ omega (arith, w.if-left-gt0.false) in
      record {
        below = search rules;
        digits = no_place (32 - c.loop-place.place) (32 - (c.loop-place.place + 1)) c.args.ones c.if-left-gt0.left (string_bytes c.if-left-gt0.text) _ none
            (search rules);
      })
]

pub returns : goal.returns
returns c = all_places c.loop-place.place c.args.ones c.loop-place.left (string_bytes c.loop-place.text) _ (omega (arith, c.loop-place-test.false)) c.loop-place.invariant.digits
