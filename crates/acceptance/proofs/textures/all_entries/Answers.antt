use Rattle.std.proofs.Common.{◌≡◌, ◌<◌, ◌≤◌, length, map, get_or, ap, ◌∙◌, sym, arith}
use Rattle.std.specs.Prelude.{slice_get}
use Rattle.acceptance.specs.Listed.{listed_with}
use Rattle.acceptance.specs.Textures.{joined, names_at}
use Rattle.acceptance.specs.Reading.{names_read, tree_read}
use Rattle.acceptance.proofs.Listing.{all_listed, names_next, all_next, names_done, all_done}
use Rattle.acceptance.proofs.Textured.{names_placed, names_counted, place_low}
use Rattle.acceptance.proofs.textures.all_entries.Goals as goal

pub loop-index-init : goal.loop-index-init
loop-index-init c =
    let names = names_read c.args.shaders.now c.args.bound.now in
    record {
      table = c.requires.table;
      names = ap (λ l. listed_with l (joined names)) c.requires.none ∙ all_listed names;
      entries = ap (map _) c.new-all.ensures.items;
    }

pub entries_at-requires-clause-place : goal.entries_at-requires-clause-place
entries_at-requires-clause-place c =
    place_low c.args.shaders.now c.as_slice-read.result.now c.as_slice-of_use.result.now c.loop-index.index c.as_slice-read.ensures c.as_slice-of_use.ensures c.requires.placed c.loop-index-test.true

pub bounds-bound-index : goal.bounds-bound-index
bounds-bound-index c =
    let count : length c.as_slice-of_use.result.now ≡ length c.args.shaders.now.of_use = ap length c.as_slice-of_use.ensures in
    omega (arith, count, c.requires.bound, c.loop-index-test.true)

pub loop-index-preserved : goal.loop-index-preserved
loop-index-preserved c =
    let names = names_read c.args.shaders.now c.args.bound.now in
    let read = c.as_slice-read.result.now in
    let places = c.as_slice-of_use.result.now in
    let values = c.as_slice-values.result.now in
    let i = c.loop-index.index in
    let here = names_at (slice_get (map tree_read read) (get_or places i 0)) values in
    let count = names_counted c.args.shaders.now c.args.bound.now places c.as_slice-of_use.ensures c.requires.bound in
    let low : i < length names = omega (arith, count, c.loop-index-test.true) in
    let is = names_placed c.args.shaders.now c.args.bound.now read places i values c.index-bound-index.result c.as_slice-read.ensures c.as_slice-of_use.ensures c.requires.bound c.loop-index-test.true
    c.index-bound-index.is c.as_slice-values.ensures in
    record {
      table = c.in_ok-entries_at.ensures.table;
      names = names_next names i here c.loop-index.listed.table c.entries_at.new.listed.table _ low is c.in_ok-entries_at.ensures.names c.loop-index.invariant.names;
      entries = all_next names i here c.loop-index.listed.table c.entries_at.new.listed.table c.loop-index.all.items c.push.new.self.items c.in_ok-entries_at.field-0 low is
          c.in_ok-entries_at.ensures.names c.in_ok-entries_at.ensures.entries c.in_ok-push.ensures.items c.loop-index.invariant.entries;
    }

pub returns-clause-names : goal.returns-clause-names
returns-clause-names c =
    let names = names_read c.args.shaders.now c.args.bound.now in
    let count = names_counted c.args.shaders.now c.args.bound.now c.as_slice-of_use.result.now c.as_slice-of_use.ensures c.requires.bound in
    let end : length names ≤ c.loop-index.index = omega (arith, count, c.loop-index-test.false) in
    sym c.loop-index.invariant.table ∙ names_done names c.loop-index.index c.loop-index.listed.table _ end c.loop-index.invariant.names

pub returns-clause-entries : goal.returns-clause-entries
returns-clause-entries c =
    let names = names_read c.args.shaders.now c.args.bound.now in
    let count = names_counted c.args.shaders.now c.args.bound.now c.as_slice-of_use.result.now c.as_slice-of_use.ensures c.requires.bound in
    let end : length names ≤ c.loop-index.index = omega (arith, count, c.loop-index-test.false) in
    all_done names c.loop-index.index c.loop-index.listed.table c.loop-index.all.items end
    (names_done names c.loop-index.index c.loop-index.listed.table _ end c.loop-index.invariant.names) c.loop-index.invariant.entries
