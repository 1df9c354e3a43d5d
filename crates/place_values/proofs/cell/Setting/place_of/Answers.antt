use Rattle.std.proofs.Common.{sym, ap, ◌∙◌, drop, add-one, true≢false}
use Rattle.std.specs.List.{list_any}
use Rattle.std.specs.Str.{bytes_eq}
use Rattle.place_values.proofs.Texts.{same_bytes, behind, none_behind}
use Rattle.place_values.proofs.cell.Setting.place_of.Goals as goal

pub loop-n-init : goal.loop-n-init
loop-n-init c = c.requires

pub loop-n-preserved : goal.loop-n-preserved
loop-n-preserved c =
    ap (λ k. list_any (λ t. bytes_eq t.now c.args.text.now) (drop k c.args.self.now.texts.now)) (add-one c.loop-n.n) ∙ behind c.args.self.now.texts.now c.loop-n.n _ c.args.text.now c.is.result c.loop-n-test.true (same_bytes _ _ _ c.is.ensures) c.if-is.false c.loop-n.invariant

pub returns : goal.returns
returns c = absurd (true≢false (sym c.loop-n.invariant ∙ none_behind c.args.self.now.texts.now c.loop-n.n c.args.text.now c.loop-n-test.false))
