use Rattle.std.proofs.Common.{rules, ◌≡◌, ◌++◌, ◌∷◌, [], w32, FitsSigned}
use Rattle.std.proofs.lemmas.Int.{to_z-of_z}
use Rattle.filter_ppm.proofs.Joins.{powers_more}
use Rattle.filter_ppm.proofs.tables.powers.Goals as goal

pub loop-k-preserved : goal.loop-k-preserved
loop-k-preserved c =
    let fits : FitsSigned w32 c.power_from.result = record { sfits = c.power_from.type_inv } in
    let items : c.push.new.self.items ≡ c.loop-k.powers.items ++ c.power_from.result ∷ [] = simp to_z-of_z at c.in_ok-push.ensures.items in
    let l = c.loop-k.invariant in
    let more = powers_more c.loop-k.powers.items c.push.new.self.items c.loop-k.k c.power_from.result l.long l.values l.raws c.power_from.ensures.value c.power_from.ensures.raw items in
    record {
      long = search rules;
      values = λ i h. (more i h).0;
      raws = λ i h. (more i h).1;
    }
