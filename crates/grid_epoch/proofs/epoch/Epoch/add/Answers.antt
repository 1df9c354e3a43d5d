use Rattle.std.proofs.Common.{rules, refl, ◌≡◌, ◌+◌, ◌*◌, ◌≤◌, ◌++◌, ◌∷◌, [], ap, sym, ◌∙◌, subst, true, false, length, Bool, List, if◌then◌else◌}
use Rattle.patches.specs.Parts.{Part}
use Rattle.std.specs.List.{zip}
use Rattle.std.proofs.lemmas.Slice.Zip.{firsts-zip}
use Rattle.grid_epoch.specs.Kept.{pieces_in, points_in, has}
use Rattle.grid_epoch.proofs.Keeping.{length-pairs, zip-push, keeps}
use Rattle.grid_epoch.proofs.epoch.Epoch.add.Goals as goal

-- the keys behind a new one
keys_are : (b : Bool) (ps : List Part) (p : Part) → b ≡ false → (if b then ps else ps ++ p ∷ []) ≡ ps ++ p ∷ []
keys_are true ps p e = absurd (cc)
keys_are false ps p e = refl

pub invariant_of-self-2 : goal.invariant_of-self-2
invariant_of-self-2 c =
    let pieces = c.self.inside.pieces.keys in
    let grids = c.self.inside.grids.items in
    let k : c.args.self.now.kept ≡ zip pieces grids = ap (λ v. v.kept) (sym c.self.view_is) in
    let p : pieces_in c.args.self.now.kept ≡ pieces = ap pieces_in k ∙ firsts-zip pieces grids c.self.invariant.alike in
    let h : has c.args.piece pieces ≡ false = subst (λ ps. has c.args.piece ps ≡ false) p c.requires.fresh in
    let r : points_in (zip pieces grids) + c.args.seen.grid.columns * c.args.seen.grid.rows ≤ c.self.inside.limit =
    subst (λ v. points_in v.kept + c.args.seen.grid.columns * c.args.seen.grid.rows ≤ v.limit) (sym c.self.view_is) c.requires.room in
    rw (c.in_default.ensures.keys ∙ keys_are _ pieces c.args.piece h)
    (rw c.in_ok-push.ensures.items (keeps c.self.inside.limit c.self.inside.live pieces grids c.args.piece c.args.seen c.self.invariant h r))

pub returns-clause-place : goal.returns-clause-place
returns-clause-place c =
    let pieces = c.self.inside.pieces.keys in
    let e : length c.args.self.now.kept ≡ length pieces = ap (λ v. length v.kept) (sym c.self.view_is) ∙ length-pairs pieces c.self.inside.grids.items c.self.invariant.alike in
    let l : c.len-at.result ≡ length c.self.inside.grids.items = search rules in
    rw e (l ∙ c.self.invariant.alike)

pub returns-clause-kept : goal.returns-clause-kept
returns-clause-kept c =
    let pieces = c.self.inside.pieces.keys in
    let grids = c.self.inside.grids.items in
    let k : c.args.self.now.kept ≡ zip pieces grids = ap (λ v. v.kept) (sym c.self.view_is) in
    let p : pieces_in c.args.self.now.kept ≡ pieces = ap pieces_in k ∙ firsts-zip pieces grids c.self.invariant.alike in
    let h : has c.args.piece pieces ≡ false = subst (λ ps. has c.args.piece ps ≡ false) p c.requires.fresh in
    rw (c.in_default.ensures.keys ∙ keys_are _ pieces c.args.piece h)
    (rw c.in_ok-push.ensures.items (rw k (zip-push pieces grids c.args.piece c.args.seen c.self.invariant.alike)))
