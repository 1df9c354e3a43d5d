use Rattle.std.proofs.Common.{◌≤◌, ◌∙◌, ap, arith, take, sym, get_or, ◌++◌, List, ℕ}
use Rattle.std.proofs.lemmas.List.{take_more}
use Rattle.std.proofs.lemmas.List.Elements.{All-get_or}
use Rattle.filter_ppm.specs.Levels.{level_bytes, pixel_bytes}
use Rattle.filter_ppm.proofs.Bytes.{more_bytes}
use Rattle.filter_ppm.proofs.ppm.push_levels.Goals as goal

pub push_level-requires-clause-level : goal.push_level-requires-clause-level
push_level-requires-clause-level c =
    All-get_or (λ v. v ≤ c.args.one) c.args.levels.now c.loop-level.level-index 0 (omega arith) c.requires.levels

pub loop-level-preserved : goal.loop-level-preserved
loop-level-preserved c =
    let i = c.loop-level.level-index in
    let levels = c.args.levels.now in
    let level = get_or levels i 0 in
    let one = c.args.one in
    more_bytes (level_bytes one) c.args.bytes.now.items c.loop-level.bytes.items c.push_level.new.bytes.items (take i levels) level c.loop-level.invariant c.in_ok-push_level.ensures
    ∙ ap (λ (l : List ℕ). c.args.bytes.now.items ++ pixel_bytes one l) (sym (take_more levels i 0 c.loop-level-test.true))
