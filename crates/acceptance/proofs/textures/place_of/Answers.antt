use Rattle.std.proofs.Common.{◌≡◌, ◌∙◌, ap, Some}
use Rattle.std.specs.Prelude.{slice_get}
use Rattle.std.proofs.lemmas.Result.{IfOk-weaker}
use Rattle.acceptance.proofs.Listing.{on_ok, listed_there, listed_place, listed_behind, behind_place}
use Rattle.acceptance.proofs.textures.place_of.Goals as goal

pub returns-in-Some-clause-names : goal.returns-in-Some-clause-names
returns-in-Some-clause-names c = on_ok c.numbered.result (listed_there c.args.name.now c.args.listed.now.table c.in-Some.place c.place_of.ensures c.in-Some.is)

pub returns-in-Some-clause-place : goal.returns-in-Some-clause-place
returns-in-Some-clause-place c =
    let table = c.args.listed.now.table in
    let here = listed_place c.args.name.now table c.in-Some.place c.place_of.ensures c.in-Some.is in
    IfOk-weaker c.numbered.result (λ n. n ≡ c.in-Some.place) (λ n. slice_get table n ≡ Some c.args.name.now) (λ n is. ap (slice_get table) is ∙ here) c.numbered.ensures

pub returns-clause-names : goal.returns-clause-names
returns-clause-names c =
    on_ok c.numbered-2.result (listed_behind c.args.name.now c.args.listed.now.table c.push.new.self c.place_of.ensures c.in_default.is c.in_ok-push.ensures.ok)

pub returns-clause-place : goal.returns-clause-place
returns-clause-place c =
    let table = c.push.new.self in
    let here = behind_place c.args.name.now c.args.listed.now.table table c.len-place.result c.len-place.ensures c.in_ok-push.ensures.ok in
    IfOk-weaker c.numbered-2.result (λ n. n ≡ c.len-place.result) (λ n. slice_get table n ≡ Some c.args.name.now) (λ n is. ap (slice_get table) is ∙ here) c.numbered-2.ensures
