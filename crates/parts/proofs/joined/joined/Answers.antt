use Rattle.std.proofs.Common.{◌∙◌, ap, sym, refl, Err}
use Rattle.std.proofs.lemmas.Result.{err_from_is_err_and}
use Rattle.parts.specs.declared.fault.JoinFault.{JoinFault}
use Rattle.parts.proofs.Joins.{AreFound, read_is, read_numbers, read_parts, read_again, read_wanting, read_whole, read_joined, fault_is}
use Rattle.parts.proofs.joined.joined.Goals as goal

pub places_of-requires-clause-numbers : goal.places_of-requires-clause-numbers
places_of-requires-clause-numbers c =
    let read = read_is c.args.texts.now c.in_ok-read.read.items _ _ _ _ c.first.inside.header _ _ c.requires.some c.in_ok-read.ensures c.as_slice.ensures.value c.in_default.ensures c.first.view_is c.index-first.ensures refl c.as_slice-2.ensures.value c.in_ok-all.ensures c.as_slice-3.ensures.value in
    read_numbers c.args.texts.now c.in_ok-read.read.items c.first.inside.header c.as_slice-3.result.now c.total.result read c.total.ensures.value

pub places_of-requires-clause-parts : goal.places_of-requires-clause-parts
places_of-requires-clause-parts c =
    let read = read_is c.args.texts.now c.in_ok-read.read.items _ _ _ _ c.first.inside.header _ _ c.requires.some c.in_ok-read.ensures c.as_slice.ensures.value c.in_default.ensures c.first.view_is c.index-first.ensures refl c.as_slice-2.ensures.value c.in_ok-all.ensures c.as_slice-3.ensures.value in
    read_parts c.args.texts.now c.in_ok-read.read.items c.first.inside.header c.as_slice-3.result.now read c.requires.most

pub returns-in_err-places : goal.returns-in_err-places
returns-in_err-places c =
    let read = read_is c.args.texts.now c.in_ok-read.read.items _ _ _ _ c.first.inside.header _ _ c.requires.some c.in_ok-read.ensures c.as_slice.ensures.value c.in_default.ensures c.first.view_is c.index-first.ensures refl c.as_slice-2.ensures.value c.in_ok-all.ensures c.as_slice-3.ensures.value in
    let p = err_from_is_err_and c.from_residual-in_err-places.result c.from_residual-in_err-places.ensures.1 in
    fault_is _ c.args.texts.now c.from_residual-in_err-places.result c.in_err-places.field-0.0 (p.1 ∙ ap (λ (s : JoinFault). Err s) p.2) (read_again c.args.texts.now c.in_ok-read.read.items c.first.inside.header c.as_slice-3.result.now c.in_err-places.field-0.0 read c.in_err-places.ensures)

pub returns-in_err-ordered : goal.returns-in_err-ordered
returns-in_err-ordered c =
    let read = read_is c.args.texts.now c.in_ok-read.read.items _ _ _ _ c.first.inside.header _ _ c.requires.some c.in_ok-read.ensures c.as_slice.ensures.value c.in_default.ensures c.first.view_is c.index-first.ensures refl c.as_slice-2.ensures.value c.in_ok-all.ensures c.as_slice-3.ensures.value in
    let found : AreFound c.as_slice-3.result.now c.as_slice-4.result.now c.total.result c.in_ok-places.places.items c.as_slice-5.result.now = record { found = c.in_ok-places.ensures; passed = c.as_slice-4.ensures.value ∙ sym c.as_slice-3.ensures.value; told = c.as_slice-5.ensures.value } in
    let p = err_from_is_err_and c.from_residual-in_err-ordered.result c.from_residual-in_err-ordered.ensures.1 in
    fault_is _ c.args.texts.now c.from_residual-in_err-ordered.result c.in_err-ordered.field-0.0 (p.1 ∙ ap (λ (s : JoinFault). Err s) p.2)
    (read_wanting c.args.texts.now c.in_ok-read.read.items c.first.inside.header c.as_slice-3.result.now c.as_slice-4.result.now c.total.result c.in_ok-places.places.items c.as_slice-5.result.now c.in_err-ordered.field-0.0 read c.total.ensures.value found c.in_err-ordered.ensures)

pub picture-requires-clause-whole : goal.picture-requires-clause-whole
picture-requires-clause-whole c =
    let read = read_is c.args.texts.now c.in_ok-read.read.items _ _ _ _ c.first.inside.header _ _ c.requires.some c.in_ok-read.ensures c.as_slice.ensures.value c.in_default.ensures c.first.view_is c.index-first.ensures refl c.as_slice-2.ensures.value c.in_ok-all.ensures c.as_slice-3.ensures.value in
    let found : AreFound c.as_slice-3.result.now c.as_slice-4.result.now c.total.result c.in_ok-places.places.items c.as_slice-5.result.now = record { found = c.in_ok-places.ensures; passed = c.as_slice-4.ensures.value ∙ sym c.as_slice-3.ensures.value; told = c.as_slice-5.ensures.value } in
    read_whole c.args.texts.now c.in_ok-read.read.items c.first.inside.header c.as_slice-3.result.now c.as_slice-4.result.now c.total.result c.in_ok-places.places.items c.as_slice-5.result.now c.in_ok-ordered.ordered.items c.as_slice-6.result.now read c.total.ensures.value found c.in_ok-ordered.ensures c.as_slice-6.ensures.value

pub returns : goal.returns
returns c =
    let read = read_is c.args.texts.now c.in_ok-read.read.items _ _ _ _ c.first.inside.header _ _ c.requires.some c.in_ok-read.ensures c.as_slice.ensures.value c.in_default.ensures c.first.view_is c.index-first.ensures refl c.as_slice-2.ensures.value c.in_ok-all.ensures c.as_slice-3.ensures.value in
    let found : AreFound c.as_slice-3.result.now c.as_slice-4.result.now c.total.result c.in_ok-places.places.items c.as_slice-5.result.now = record { found = c.in_ok-places.ensures; passed = c.as_slice-4.ensures.value ∙ sym c.as_slice-3.ensures.value; told = c.as_slice-5.ensures.value } in (
      c.in_ok-read.read.items,
      read_joined c.args.texts.now c.in_ok-read.read.items c.first.inside.header c.as_slice-3.result.now c.as_slice-4.result.now c.total.result c.in_ok-places.places.items c.as_slice-5.result.now c.in_ok-ordered.ordered.items c.as_slice-6.result.now c.in_ok-picture.field-0.items
          read c.total.ensures.value found c.in_ok-ordered.ensures c.as_slice-6.ensures.value c.in_ok-picture.ensures,
    )
