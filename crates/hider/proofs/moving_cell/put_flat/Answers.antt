use Rattle.std.proofs.Common.{◌≡◌, subst, List, []}
use Rattle.std.specs.List.{cons_option}
use Rattle.std.specs.Prelude.{OnOk}
use Rattle.hider.specs.declared.fragment.Fragment.{Fragment}
use Rattle.hider.specs.Flat.{flat_of, flat_quad, held_covers}
use Rattle.hider.specs.Fragments.{quad_covering}
use Rattle.hider.specs.Kept.{keep_all}
use Rattle.hider.specs.Tiles.{sample_of}
use Rattle.hider.proofs.Whens.{facing_shown}
use Rattle.hider.proofs.moving_cell.put_flat.Goals as goal

pub returns-in-Some : goal.returns-in-Some
returns-in-Some c =
    let f = flat_of c.args.flat.now in
    let s = sample_of c.args.places.now.grid c.args.n in
    let q = c.in-Some.quad in
    let e : cons_option (held_covers q.bounds.now (flat_of q.cell.now) s.place) [] ≡ quad_covering c.args.one_sided c.args.flip (flat_quad f) s =
    rw (c.in-Some.ensures.cell, c.in-Some.ensures.bounds) (facing_shown c.args.bounds.now f c.args.one_sided c.args.flip s c.requires.bounds c.in-Some.ensures.turned) in
    subst (λ (x : List Fragment). OnOk c.put_at.result (c.put_at.new.list ≡ keep_all c.args.list.now x)) e c.put_at.ensures
