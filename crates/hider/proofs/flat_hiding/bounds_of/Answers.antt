use Rattle.std.proofs.Common.{refl}
use Rattle.hider.specs.Bounding.{bounds_of}
use Rattle.hider.specs.Flat.{flat_of, flat_quad}
use Rattle.hider.proofs.Outside.{read_least, read_greatest}
use Rattle.hider.proofs.flat_hiding.bounds_of.Goals as goal

pub returns : goal.returns
unfolding bounds_of flat_quad
returns c =
    let q = flat_of c.args.cell.now in
    let left = read_least c.least_of.result c.x.result c.x-2.result c.x-3.result c.x-4.result q.a.place.x q.b.place.x q.c.place.x q.d.place.x c.least_of.type_inv c.least_of.ensures c.x.ensures.size c.x-2.ensures.size c.x-3.ensures.size c.x-4.ensures.size c.x.ensures.value c.x-2.ensures.value c.x-3.ensures.value c.x-4.ensures.value in
    let right = read_greatest c.greatest_of.result c.x-5.result c.x-6.result c.x-7.result c.x-8.result q.a.place.x q.b.place.x q.c.place.x q.d.place.x c.greatest_of.type_inv c.greatest_of.ensures c.x-5.ensures.size c.x-6.ensures.size c.x-7.ensures.size c.x-8.ensures.size c.x-5.ensures.value c.x-6.ensures.value c.x-7.ensures.value c.x-8.ensures.value in
    let top = read_least c.least_of-2.result c.y.result c.y-2.result c.y-3.result c.y-4.result q.a.place.y q.b.place.y q.c.place.y q.d.place.y c.least_of-2.type_inv c.least_of-2.ensures c.y.ensures.size c.y-2.ensures.size c.y-3.ensures.size c.y-4.ensures.size c.y.ensures.value c.y-2.ensures.value c.y-3.ensures.value c.y-4.ensures.value in
    let bottom = read_greatest c.greatest_of-2.result c.y-5.result c.y-6.result c.y-7.result c.y-8.result q.a.place.y q.b.place.y q.c.place.y q.d.place.y c.greatest_of-2.type_inv c.greatest_of-2.ensures c.y-5.ensures.size c.y-6.ensures.size c.y-7.ensures.size c.y-8.ensures.size c.y-5.ensures.value c.y-6.ensures.value c.y-7.ensures.value c.y-8.ensures.value in
    rw (left, right, top, bottom) refl
