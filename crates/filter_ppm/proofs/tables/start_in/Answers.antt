use Rattle.std.proofs.Common.{◌≡◌, subst, ℤ, pos, ◌/◌, ◌+ℤ◌, w64, FitsSigned}
use Rattle.std.proofs.lemmas.Int.{to_z-of_z}
use Rattle.filter_ppm.specs.Bells.{IsBellRow}
use Rattle.filter_ppm.proofs.Folded.{number_is}
use Rattle.filter_ppm.proofs.tables.start_in.Goals as goal

pub returns : goal.returns
returns c = λ f wx ws h.
    let fd : FitsSigned w64 c.args.d = c.ranges.d in
    let v : pos c.index_of.result ≡ c.args.d +ℤ pos (c.args.width / 2) = simp to_z-of_z at c.index_of.ensures.value in
    let n = number_is f c.args.width c.index_of.result c.args.d v in
    subst (λ (q : ℤ). IsBellRow f wx q c.args.across c.row_start.result ws) n (c.row_start.ensures f wx c.args.width ws h c.index_of.ensures.inside)
