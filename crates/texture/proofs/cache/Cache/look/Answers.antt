use Rattle.std.proofs.Common.{◌∙◌, refl, sym, pos, get_or}
use Rattle.texture.specs.Slots.{no_image}
use Rattle.texture.proofs.LookSteps.{look_through, slots_through, put_one}
use Rattle.texture.proofs.cache.Cache.look.Goals as goal

pub returns-then-is_in_one_tile-clause-value : goal.returns-then-is_in_one_tile-clause-value
returns-then-is_in_one_tile-clause-value c =
    let a = c.spot_of in
    let b = c.spot_of-2 in
    look_through (get_or c.args.self.now.textures c.args.which no_image) c.args.l c.args.s c.args.t c.columns.result c.rows.result
    a.result.first a.result.second b.result.first b.result.second (pos a.result.rest) (pos b.result.rest) c.look_in_one.result
    c.columns.ensures.value c.rows.ensures.value a.ensures.first a.ensures.second b.ensures.first b.ensures.second a.ensures.rest b.ensures.rest c.look_in_one.ensures.value

pub returns-then-is_in_one_tile-clause-slots : goal.returns-then-is_in_one_tile-clause-slots
returns-then-is_in_one_tile-clause-slots c =
    let a = c.spot_of in
    let b = c.spot_of-2 in
    slots_through c.args.self.now.slots c.args.which (get_or c.args.self.now.textures c.args.which no_image) c.args.l c.args.s c.args.t c.columns.result c.rows.result
    a.result.first a.result.second b.result.first b.result.second c.look_in_one.new.self.slots
    c.columns.ensures.value c.rows.ensures.value a.ensures.first a.ensures.second b.ensures.first b.ensures.second
    (c.look_in_one.ensures.slots ∙ sym (put_one c.args.self.now.slots c.args.which c.args.l a.result.first a.result.second b.result.first b.result.second (c.if-is_in_one_tile.ensures refl).columns (c.if-is_in_one_tile.ensures refl).rows))

pub returns-else-is_in_one_tile-clause-value : goal.returns-else-is_in_one_tile-clause-value
returns-else-is_in_one_tile-clause-value c =
    let a = c.spot_of in
    let b = c.spot_of-2 in
    look_through (get_or c.args.self.now.textures c.args.which no_image) c.args.l c.args.s c.args.t c.columns.result c.rows.result
    a.result.first a.result.second b.result.first b.result.second (pos a.result.rest) (pos b.result.rest) c.look_in_four.result
    c.columns.ensures.value c.rows.ensures.value a.ensures.first a.ensures.second b.ensures.first b.ensures.second a.ensures.rest b.ensures.rest c.look_in_four.ensures.value

pub returns-else-is_in_one_tile-clause-slots : goal.returns-else-is_in_one_tile-clause-slots
returns-else-is_in_one_tile-clause-slots c =
    let a = c.spot_of in
    let b = c.spot_of-2 in
    slots_through c.args.self.now.slots c.args.which (get_or c.args.self.now.textures c.args.which no_image) c.args.l c.args.s c.args.t c.columns.result c.rows.result
    a.result.first a.result.second b.result.first b.result.second c.look_in_four.new.self.slots
    c.columns.ensures.value c.rows.ensures.value a.ensures.first a.ensures.second b.ensures.first b.ensures.second c.look_in_four.ensures.slots
