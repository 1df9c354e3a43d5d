use Rattle.std.proofs.Common.{◌≡◌, ◌+◌, ◌-◌, ◌++◌, ◌∙◌, ℕ, List, ap, sym, subst, arith, append-nil}
use Rattle.std.specs.List.{range_with_len, flat_map}
use Rattle.stock.specs.Demo.{point_text, next_point}
use Rattle.stock.proofs.Grown.{grown, with_two}
use Rattle.stock.proofs.demonstration.push_points.Goals as goal

pub loop-point-init : goal.loop-point-init
loop-point-init c = record { some = omega arith; text = sym (append-nil _) }

pub loop-point-preserved : goal.loop-point-preserved
loop-point-preserved c =
    let n = c.loop-point.point in
    let there : 1 + (n - 1) ≡ n = omega (arith, c.loop-point.invariant.some) in
    let next : (n - 1) + 1 ≡ n + 1 - 1 = omega (arith, c.loop-point.invariant.some) in
    record {
      some = omega arith;
      text = subst (λ (k : ℕ). c.push_point.new.text.items ≡ c.extend_from_slice.new.self.items ++ flat_map (next_point c.args.patch) (range_with_len 1 k)) next
          (grown (next_point c.args.patch) _ _ _ 1 (n - 1) n there c.loop-point.invariant.text c.in_ok-push_point.ensures);
    }

pub returns : goal.returns
returns c =
    let last : c.loop-point.point - 1 ≡ 15 = omega (arith, c.loop-point-test.false, c.loop-point.auto.point-end) in
    let all = c.loop-point.invariant.text ∙ ap (λ (k : ℕ). c.extend_from_slice.new.self.items ++ flat_map (next_point c.args.patch) (range_with_len 1 k)) last in
    let first = c.in_ok-extend_from_slice.ensures.items ∙ ap (λ (l : List ℕ). c.args.text.now.items ++ l) (c.as_bytes.ensures.value ∙ c.in_ok-first.ensures) in
    with_two (point_text c.args.patch 0) _ c.args.text.now.items _ _ first all
