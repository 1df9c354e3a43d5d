use Rattle.std.proofs.Common.{rules, arith}
use Rattle.std.proofs.lemmas.Grind.{common_steps}
use Rattle.number_rows.specs.Planes.{triple_in}
use Rattle.light_rows.specs.Seen.{at_place}
use Rattle.light_rows.specs.Shares.{shown_at, highlight_at}
use Rattle.light_rows.proofs.Shares.{none_shown}
use Rattle.light_rows.proofs.workroom.Workroom.add_specular.Goals as goal

pub returns-else-not-are_value-clause-each : goal.returns-else-not-are_value-clause-each
returns-else-not-are_value-clause-each c i l =
    let a = c.args.answers.now in
    let w = c.args.self.now in
    let marked = c.mark.ensures.each i (search rules) in
    let none = c.are_value.ensures (search rules) i (search rules) in
    none_shown (shown_at a w i) (triple_in c.args.x.now c.args.y.now c.args.z.now i) (at_place a.colours i) (highlight_at (shown_at a w i) a w c.args.v.now i) (grind (arith, common_steps, marked, none))
