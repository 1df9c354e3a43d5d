use Rattle.std.proofs.Common.{ap, ◌∙◌, subst, map, arith}
use Rattle.std.proofs.lemmas.List.{take_all}
use Rattle.sl_ast.specs.TypedView.{tree_expr}
use Rattle.acceptance.specs.Listed.{AreAt, IsAt, with_some}
use Rattle.acceptance.specs.Textures.{name_with}
use Rattle.acceptance.proofs.Listing.{found_next, entries_next, found_done}
use Rattle.acceptance.proofs.textures.entries_found.Goals as goal

pub loop-look_up-preserved : goal.loop-look_up-preserved
loop-look_up-preserved c =
    let found = c.args.found.now in
    let i = c.loop-look_up.look_up-index in
    let x = c.look_up-item.result in
    let old = c.loop-look_up.listed.table in
    let new = c.entry_of.new.listed.table in
    let grown = c.in_ok-entry_of.ensures.names ∙ ap (with_some old) c.name_of-name.ensures in
    let at = subst (λ n. IsAt new n c.in_ok-entry_of.field-0) c.name_of-name.ensures c.in_ok-entry_of.ensures.entry in
    record {
      table = c.in_ok-entry_of.ensures.table;
      names = found_next (λ f. name_with c.args.values.now (tree_expr f.name.now)) found i x old new _ c.loop-look_up-test.true c.look_up-item.is grown c.loop-look_up.invariant.names;
      entries = entries_next (λ f. name_with c.args.values.now (tree_expr f.name.now)) found i x old new c.loop-look_up.entries.items c.push.new.self.items c.in_ok-entry_of.field-0
          c.loop-look_up-test.true c.look_up-item.is grown at c.in_ok-push.ensures.items c.loop-look_up.invariant.entries;
    }

pub returns : goal.returns
returns c = record {
  table = c.loop-look_up.invariant.table;
  names = found_done (λ f. name_with c.args.values.now (tree_expr f.name.now)) c.args.found.now c.loop-look_up.look_up-index c.loop-look_up.listed.table _
      (omega (arith, c.loop-look_up-test.false)) c.loop-look_up.invariant.names;
  entries = subst (λ l. AreAt c.loop-look_up.listed.table (map (λ f. name_with c.args.values.now (tree_expr f.name.now)) l) c.loop-look_up.entries.items)
      (take_all c.loop-look_up.look_up-index c.args.found.now (omega (arith, c.loop-look_up-test.false))) c.loop-look_up.invariant.entries;
}
