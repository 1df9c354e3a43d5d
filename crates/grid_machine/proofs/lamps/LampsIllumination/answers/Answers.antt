use Rattle.std.proofs.Common.{◌<◌, Bool, false, sym, ap, ◌∙◌, subst}
use Rattle.std.proofs.lemmas.List.{get_or-map, length-map}
use Rattle.std.proofs.lemmas.List.Elements.{All-get_or}
use Rattle.light_rows.specs.Seen.{IsShown}
use Rattle.grid_machine.specs.Lamps.{IsLevel, IsKept, asked_by}
use Rattle.grid_machine.specs.declared.lamps.Lantern.{Lantern}
use Rattle.grid_machine.proofs.Lanterns.{asked_there}
use Rattle.grid_machine.proofs.lamps.LampsIllumination.answers.Goals as goal

pub returns : goal.returns
returns c =
    let s = c.args.self.now in
    let n = c.args.n in
    let ks = s.lanterns.items in
    let k = c.index.result.now in
    let is = c.index.ensures in
    let given : Lantern → Bool = λ x. x.given in
    let l = subst (λ m. n < m) (length-map ks asked_by) c.requires.many in
    let level = subst (IsLevel s.places s.room) (sym is) (All-get_or (IsLevel s.places s.room) ks n k l s.level) in
    let kept = subst (IsKept s.places s.points) (sym is) (All-get_or (IsKept s.places s.points) ks n k l s.kept) in
    let answered = kept.answered (ap given is ∙ sym (get_or-map given ks n k false l) ∙ c.requires.asked) in
    record {
      planes = c.view.ensures.places s.places level.rows;
      each = λ q e i b. subst (IsShown c.view.result i) (ap (λ x. asked_by x q i) is ∙ asked_there ks n k q i l) (c.view.ensures.each i (asked_by k q i) (answered q e i b));
    }
