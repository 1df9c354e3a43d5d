use Rattle.std.proofs.Common.{◌<◌, false, length, get_or, refl, sym, ◌∙◌, true≢false, arith}
use Rattle.std.proofs.lemmas.List.{length-set}
use Rattle.std.proofs.lemmas.List.Elements.{All-get_or, All-set, AllWithin-more_set}
use Rattle.grid_machine.specs.Lamps.{IsLevel, IsKept, asked_by}
use Rattle.grid_machine.specs.declared.lamps.Lantern.{Lantern}
use Rattle.grid_machine.proofs.Lanterns.{images_kept}
use Rattle.grid_machine.proofs.lamps.forget.Goals as goal

pub loop-n-preserved : goal.loop-n-preserved
loop-n-preserved c =
    let xs = c.loop-n.lanterns in
    let n = c.loop-n.n in
    let d = c.index-lanterns-n.result in
    let inv = c.loop-n.invariant in
    let l : n < length xs = let z = inv.long in omega arith in
    let k : Lantern = record (get_or xs n d) { given = false } in
    record {
      long = length-set xs n k ∙ inv.long;
      lamps = images_kept asked_by xs n k d l refl ∙ inv.lamps;
      level = λ p r h. let g = All-get_or (IsLevel p r) xs n d l (inv.level p r h) in All-set (IsLevel p r) xs n k record { placed = g.placed; rows = g.rows; ambient = g.ambient } (inv.level p r h);
      kept = λ p t. AllWithin-more_set xs n k l (IsKept p t) (inv.kept p t) record { answered = λ e. absurd (true≢false (sym e)) };
    }
