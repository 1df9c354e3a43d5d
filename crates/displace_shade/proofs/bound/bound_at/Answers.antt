use Rattle.std.proofs.Common.{◌≡◌, ◌<◌, true, length, get_or, refl, sym, ap, ◌∙◌, subst, arith}
use Rattle.std.specs.Prelude.{Some, slice_get}
use Rattle.std.proofs.lemmas.Option.{slice_get_read}
use Rattle.std.proofs.lemmas.List.{length-map}
use Rattle.sl_ast.specs.TreeView.{tree_of}
use Rattle.scene.specs.Scene.{IsOf}
use Rattle.shader_binding.specs.Sets.{AreValuesOf, is_of_kind}
use Rattle.displace_shade.specs.Shop.{set_value}
use Rattle.displace_shade.proofs.BoundLaws.{fits_place, fits_long, entries_long, fits_use, tree_found, found_law}
use Rattle.displace_shade.proofs.bound.bound_at.Goals as goal

pub bounds-as_slice-n : goal.bounds-as_slice-n
bounds-as_slice-n c =
    let s = set_value c.args.set.now c.args.textures.now in
    let long = fits_long s.trees c.args.uses.now s.of_use s.bound c.requires.fits.uses in
    subst (λ xs. c.args.n < length xs) (sym c.as_slice.ensures) (let e = long.0 in let l = c.requires.there in omega (arith, e, l))

pub bounds-as_slice-place : goal.bounds-as_slice-place
bounds-as_slice-place c =
    let s = set_value c.args.set.now c.args.textures.now in
    let there = fits_place s.trees c.args.uses.now s.of_use s.bound c.args.n c.requires.fits.uses c.requires.there in
    subst (λ xs. get_or c.as_slice.result.now c.args.n 0 < length xs) (sym c.as_slice-2.ensures)
    (subst (λ xs. get_or xs c.args.n 0 < length c.args.set.now.compiled) (sym c.as_slice.ensures) (subst (λ m. get_or s.of_use c.args.n 0 < m) (length-map c.args.set.now.compiled _) there))

pub bounds-as_slice-n-2 : goal.bounds-as_slice-n-2
bounds-as_slice-n-2 c =
    let s = set_value c.args.set.now c.args.textures.now in
    let long = fits_long s.trees c.args.uses.now s.of_use s.bound c.requires.fits.uses in
    subst (λ xs. c.args.n < length xs) (sym c.as_slice-3.ensures) (let e = long.1 in let l = c.requires.there in omega (arith, e, l))

pub bounds-as_slice-n-3 : goal.bounds-as_slice-n-3
bounds-as_slice-n-3 c =
    let s = set_value c.args.set.now c.args.textures.now in
    let long = fits_long s.trees c.args.uses.now s.of_use s.bound c.requires.fits.uses in
    subst (λ xs. c.args.n < length xs) (sym c.as_slice-4.ensures) (let e = entries_long s.trees s.of_use s.look_ups c.requires.fits.look_ups in let f = long.0 in let l = c.requires.there in omega (arith, e, f, l))

pub returns-clause-found : goal.returns-clause-found
returns-clause-found c =
    let s = set_value c.args.set.now c.args.textures.now in
    let n = c.args.n in
    let k = get_or s.of_use n 0 in
    let x = c.index-as_slice-place.result in
    let v = c.index-as_slice-n.result in
    let u = c.index-uses-n.result in
    let lt : get_or s.of_use n 0 < length c.args.set.now.compiled = subst (λ m. get_or s.of_use n 0 < m) (length-map c.args.set.now.compiled _) (fits_place s.trees c.args.uses.now s.of_use s.bound n c.requires.fits.uses c.requires.there) in
    let is : x ≡ get_or c.args.set.now.compiled k x = c.index-as_slice-place.is ∙ ap (λ xs. get_or xs (get_or c.as_slice.result.now n 0) x) c.as_slice-2.ensures ∙ ap (λ xs. get_or c.args.set.now.compiled (get_or xs n 0) x) c.as_slice.ensures in
    let et : slice_get s.trees (get_or s.of_use n 0) ≡ Some (tree_of x.tree) = tree_found c.args.set.now.compiled k x lt is in
    let bounded : n < length s.bound = let e = (fits_long s.trees c.args.uses.now s.of_use s.bound c.requires.fits.uses).1 in let l = c.requires.there in omega (arith, e, l) in
    let iv : v ≡ get_or s.bound n v = c.index-as_slice-n.is ∙ ap (λ xs. get_or xs n v) c.as_slice-3.ensures in
    let fits = fits_use s.trees c.args.uses.now s.of_use s.bound n (tree_of x.tree) v u c.requires.fits.uses c.requires.there (sym c.index-uses-n.is) (sym iv) et in
    let w = c.index-as_slice-n-2.result in
    let counted : n < length s.look_ups = let e = entries_long s.trees s.of_use s.look_ups c.requires.fits.look_ups in let f = (fits_long s.trees c.args.uses.now s.of_use s.bound c.requires.fits.uses).0 in let l = c.requires.there in omega (arith, e, f, l) in
    let iw : w ≡ get_or s.look_ups n w = c.index-as_slice-n-2.is ∙ ap (λ xs. get_or xs n w) c.as_slice-4.ensures in
    found_law s.textures s.trees s.of_use s.bound s.look_ups c.args.uses.now n (tree_of x.tree) c.as_slice-5.result.now c.as_slice-6.result.now u et (slice_get_read s.bound (length s.bound) n v refl bounded iv ∙ ap (λ z. Some z) (sym c.as_slice-5.ensures))
    (slice_get_read s.look_ups (length s.look_ups) n w refl counted iw ∙ ap (λ z. Some z) (sym c.as_slice-6.ensures)) (slice_get_read c.args.uses.now (length c.args.uses.now) n u refl c.requires.there c.index-uses-n.is)

pub returns-clause-runs : goal.returns-clause-runs
returns-clause-runs c =
    let s = set_value c.args.set.now c.args.textures.now in
    let n = c.args.n in
    let k = get_or s.of_use n 0 in
    let x = c.index-as_slice-place.result in
    let v = c.index-as_slice-n.result in
    let u = c.index-uses-n.result in
    let lt : get_or s.of_use n 0 < length c.args.set.now.compiled = subst (λ m. get_or s.of_use n 0 < m) (length-map c.args.set.now.compiled _) (fits_place s.trees c.args.uses.now s.of_use s.bound n c.requires.fits.uses c.requires.there) in
    let is : x ≡ get_or c.args.set.now.compiled k x = c.index-as_slice-place.is ∙ ap (λ xs. get_or xs (get_or c.as_slice.result.now n 0) x) c.as_slice-2.ensures ∙ ap (λ xs. get_or c.args.set.now.compiled (get_or xs n 0) x) c.as_slice.ensures in
    let et : slice_get s.trees (get_or s.of_use n 0) ≡ Some (tree_of x.tree) = tree_found c.args.set.now.compiled k x lt is in
    let bounded : n < length s.bound = let e = (fits_long s.trees c.args.uses.now s.of_use s.bound c.requires.fits.uses).1 in let l = c.requires.there in omega (arith, e, l) in
    let iv : v ≡ get_or s.bound n v = c.index-as_slice-n.is ∙ ap (λ xs. get_or xs n v) c.as_slice-3.ensures in
    let fits = fits_use s.trees c.args.uses.now s.of_use s.bound n (tree_of x.tree) v u c.requires.fits.uses c.requires.there (sym c.index-uses-n.is) (sym iv) et in
    record {
      code = c.code-code.ensures.means;
      values = subst (λ vs. AreValuesOf (tree_of x.tree).params vs) (sym c.as_slice-5.ensures) fits.1;
    }

pub returns-clause-kind : goal.returns-clause-kind
returns-clause-kind c =
    let s = set_value c.args.set.now c.args.textures.now in
    let n = c.args.n in
    let k = get_or s.of_use n 0 in
    let x = c.index-as_slice-place.result in
    let v = c.index-as_slice-n.result in
    let u = c.index-uses-n.result in
    let lt : get_or s.of_use n 0 < length c.args.set.now.compiled = subst (λ m. get_or s.of_use n 0 < m) (length-map c.args.set.now.compiled _) (fits_place s.trees c.args.uses.now s.of_use s.bound n c.requires.fits.uses c.requires.there) in
    let is : x ≡ get_or c.args.set.now.compiled k x = c.index-as_slice-place.is ∙ ap (λ xs. get_or xs (get_or c.as_slice.result.now n 0) x) c.as_slice-2.ensures ∙ ap (λ xs. get_or c.args.set.now.compiled (get_or xs n 0) x) c.as_slice.ensures in
    let et : slice_get s.trees (get_or s.of_use n 0) ≡ Some (tree_of x.tree) = tree_found c.args.set.now.compiled k x lt is in
    let bounded : n < length s.bound = let e = (fits_long s.trees c.args.uses.now s.of_use s.bound c.requires.fits.uses).1 in let l = c.requires.there in omega (arith, e, l) in
    let iv : v ≡ get_or s.bound n v = c.index-as_slice-n.is ∙ ap (λ xs. get_or xs n v) c.as_slice-3.ensures in
    let fits = fits_use s.trees c.args.uses.now s.of_use s.bound n (tree_of x.tree) v u c.requires.fits.uses c.requires.there (sym c.index-uses-n.is) (sym iv) et in
    let eu : slice_get c.args.uses.now n ≡ Some u = slice_get_read c.args.uses.now (length c.args.uses.now) n u refl c.requires.there c.index-uses-n.is in
    λ kind of. subst (λ q. is_of_kind (tree_of x.tree).kind q ≡ true) (subst (λ o. IsOf kind o) eu of) fits.0
