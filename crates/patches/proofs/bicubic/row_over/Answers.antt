use Rattle.std.proofs.Common.{◌∙◌, sym, arith, ◌≤◌, [], ◌∷◌}
use Rattle.fixed_math.specs.Blossom.{blossom}
use Rattle.fixed_math.proofs.Fits.{read_back}
use Rattle.patches.specs.Nets.{control}
use Rattle.patches.proofs.Curves.{net_by_columns}
use Rattle.patches.proofs.Isolines.{net_coordinate}
use Rattle.patches.proofs.bicubic.row_over.Goals as goal

pub returns-clause-first : goal.returns-clause-first
returns-clause-first c =
    let ps = c.args.points.now in
    let axis = c.args.axis in
    let vs = c.args.vs in
    let low = c.args.across.low in
    let high = c.args.across.high in
    let low_in : low ≤ 4096 = omega (arith, c.args.across.ordered, c.args.across.within) in
    let ends = c.ends_of-ends in
    let us = low ∷ low ∷ low ∷ [] in
    let ts = vs.first ∷ vs.second ∷ vs.third ∷ [] in
    let is =
    ends.ensures.first (λ x. blossom ts (λ y. control 4 ps axis x y) 0)
    (read_back c.column-a.result c.column-a.type_inv ∙ c.column-a.ensures.value) (read_back c.column-b.result c.column-b.type_inv ∙ c.column-b.ensures.value)
    (read_back c.column-c.result c.column-c.type_inv ∙ c.column-c.ensures.value) (read_back c.column-d.result c.column-d.type_inv ∙ c.column-d.ensures.value)
    ∙ sym (net_by_columns us ts (control 4 ps axis)) in
    net_coordinate ps axis low low low vs.first vs.second vs.third ends.result.first c.rounded.result low_in low_in low_in vs.first_in vs.second_in vs.third_in c.requires is c.rounded.ensures

pub returns-clause-second : goal.returns-clause-second
returns-clause-second c =
    let ps = c.args.points.now in
    let axis = c.args.axis in
    let vs = c.args.vs in
    let low = c.args.across.low in
    let high = c.args.across.high in
    let low_in : low ≤ 4096 = omega (arith, c.args.across.ordered, c.args.across.within) in
    let ends = c.ends_of-ends in
    let us = low ∷ low ∷ high ∷ [] in
    let ts = vs.first ∷ vs.second ∷ vs.third ∷ [] in
    let is =
    ends.ensures.second (λ x. blossom ts (λ y. control 4 ps axis x y) 0)
    (read_back c.column-a.result c.column-a.type_inv ∙ c.column-a.ensures.value) (read_back c.column-b.result c.column-b.type_inv ∙ c.column-b.ensures.value)
    (read_back c.column-c.result c.column-c.type_inv ∙ c.column-c.ensures.value) (read_back c.column-d.result c.column-d.type_inv ∙ c.column-d.ensures.value)
    ∙ sym (net_by_columns us ts (control 4 ps axis)) in
    net_coordinate ps axis low low high vs.first vs.second vs.third ends.result.second c.rounded-2.result low_in low_in c.args.across.within vs.first_in vs.second_in vs.third_in c.requires is c.rounded-2.ensures

pub returns-clause-third : goal.returns-clause-third
returns-clause-third c =
    let ps = c.args.points.now in
    let axis = c.args.axis in
    let vs = c.args.vs in
    let low = c.args.across.low in
    let high = c.args.across.high in
    let low_in : low ≤ 4096 = omega (arith, c.args.across.ordered, c.args.across.within) in
    let ends = c.ends_of-ends in
    let us = low ∷ high ∷ high ∷ [] in
    let ts = vs.first ∷ vs.second ∷ vs.third ∷ [] in
    let is =
    ends.ensures.third (λ x. blossom ts (λ y. control 4 ps axis x y) 0)
    (read_back c.column-a.result c.column-a.type_inv ∙ c.column-a.ensures.value) (read_back c.column-b.result c.column-b.type_inv ∙ c.column-b.ensures.value)
    (read_back c.column-c.result c.column-c.type_inv ∙ c.column-c.ensures.value) (read_back c.column-d.result c.column-d.type_inv ∙ c.column-d.ensures.value)
    ∙ sym (net_by_columns us ts (control 4 ps axis)) in
    net_coordinate ps axis low high high vs.first vs.second vs.third ends.result.third c.rounded-3.result low_in c.args.across.within c.args.across.within vs.first_in vs.second_in vs.third_in c.requires is c.rounded-3.ensures

pub returns-clause-fourth : goal.returns-clause-fourth
returns-clause-fourth c =
    let ps = c.args.points.now in
    let axis = c.args.axis in
    let vs = c.args.vs in
    let low = c.args.across.low in
    let high = c.args.across.high in
    let low_in : low ≤ 4096 = omega (arith, c.args.across.ordered, c.args.across.within) in
    let ends = c.ends_of-ends in
    let us = high ∷ high ∷ high ∷ [] in
    let ts = vs.first ∷ vs.second ∷ vs.third ∷ [] in
    let is =
    ends.ensures.fourth (λ x. blossom ts (λ y. control 4 ps axis x y) 0)
    (read_back c.column-a.result c.column-a.type_inv ∙ c.column-a.ensures.value) (read_back c.column-b.result c.column-b.type_inv ∙ c.column-b.ensures.value)
    (read_back c.column-c.result c.column-c.type_inv ∙ c.column-c.ensures.value) (read_back c.column-d.result c.column-d.type_inv ∙ c.column-d.ensures.value)
    ∙ sym (net_by_columns us ts (control 4 ps axis)) in
    net_coordinate ps axis high high high vs.first vs.second vs.third ends.result.fourth c.rounded-4.result c.args.across.within c.args.across.within c.args.across.within vs.first_in vs.second_in vs.third_in c.requires is c.rounded-4.ensures
