use Rattle.std.proofs.Common.{◌≡◌, ◌+◌, ◌*◌, ◌<◌, ◌∙◌, arith, subst, refl, length, rules}
use Rattle.fixed_math.specs.Spots.{pixel_count}
use Rattle.std.proofs.lemmas.List.{get_or-set_other}
use Rattle.hider.specs.declared.sample_grid.SampleGrid.{SampleGrid}
use Rattle.hider.specs.Steps.{AreFirstOfStep, AreStarts, count_in}
use Rattle.hider.specs.Tiles.{rect_of, sample_count}
use Rattle.hider.proofs.StepPuts.{of_step, row_holds, apart_from, nothing_done, one_done, run_done}
use Rattle.hider.proofs.steps.StepSamples.put_between.Goals as goal

pub loop-at-init : goal.loop-at-init
loop-at-init g c =
    let grid = c.args.places.now.grid in
    let k = c.args.self.now.step in
    let starts : AreStarts grid k (pixel_count (rect_of grid) + 1) c.args.self.now.starts.items =
    subst (λ (x : SampleGrid). AreStarts x k (pixel_count (rect_of x) + 1) c.args.self.now.starts.items) c.requires.grid c.args.self.now.started in
    let e : c.index-at.result.now ≡ count_in grid k (c.args.from * (grid.xs * grid.ys)) = c.index-at.ensures ∙ starts.each c.args.from c.index-at.result.now (omega (arith, c.requires.order, c.requires.inside)) in
    record {
      low = omega (arith, e);
      others = λ n d h. refl;
      done = nothing_done grid k (c.args.from * (grid.xs * grid.ys)) c.index-at.result.now (g.S.Showing.shown c.args.shown.now) c.args.lists.now e;
    }

pub index-n-requires : goal.index-n-requires
index-n-requires g c =
    let grid = c.args.places.now.grid in
    let k = c.args.self.now.step in
    let l = c.args.self.now.numbers in
    let starts : AreStarts grid k (pixel_count (rect_of grid) + 1) c.args.self.now.starts.items =
    subst (λ (x : SampleGrid). AreStarts x k (pixel_count (rect_of x) + 1) c.args.self.now.starts.items) c.requires.grid c.args.self.now.started in
    let numbers : AreFirstOfStep grid k (sample_count grid) l.items = subst (λ (x : SampleGrid). AreFirstOfStep x k (sample_count x) l.items) c.requires.grid c.args.self.now.numbered in
    let e : c.index-at-end.result.now ≡ count_in grid k (c.args.to * (grid.xs * grid.ys)) = c.index-at-end.ensures ∙ starts.each c.args.to c.index-at-end.result.now (omega (arith, c.requires.inside)) in
    let t = c.loop-at-test.true in
    let h = row_holds grid k c.args.to c.loop-at.at l.items numbers c.requires.inside (omega (arith, e, t)) in
    let o = l.ok.0 in
    omega (arith, h, o)

pub put_at-requires : goal.put_at-requires
put_at-requires g c =
    let grid = c.args.places.now.grid in
    let k = c.args.self.now.step in
    let l = c.args.self.now.numbers in
    let starts : AreStarts grid k (pixel_count (rect_of grid) + 1) c.args.self.now.starts.items =
    subst (λ (x : SampleGrid). AreStarts x k (pixel_count (rect_of x) + 1) c.args.self.now.starts.items) c.requires.grid c.args.self.now.started in
    let numbers : AreFirstOfStep grid k (sample_count grid) l.items = subst (λ (x : SampleGrid). AreFirstOfStep x k (sample_count x) l.items) c.requires.grid c.args.self.now.numbered in
    let e : c.index-at-end.result.now ≡ count_in grid k (c.args.to * (grid.xs * grid.ys)) = c.index-at-end.ensures ∙ starts.each c.args.to c.index-at-end.result.now (omega (arith, c.requires.inside)) in
    let t = c.loop-at-test.true in
    (of_step grid k c.loop-at.at c.index-n.result.now l.items numbers c.index-n.ensures (row_holds grid k c.args.to c.loop-at.at l.items numbers c.requires.inside (omega (arith, e, t)))).inside

pub bounds-lists-n : goal.bounds-lists-n
bounds-lists-n g c =
    let grid = c.args.places.now.grid in
    let k = c.args.self.now.step in
    let l = c.args.self.now.numbers in
    let starts : AreStarts grid k (pixel_count (rect_of grid) + 1) c.args.self.now.starts.items =
    subst (λ (x : SampleGrid). AreStarts x k (pixel_count (rect_of x) + 1) c.args.self.now.starts.items) c.requires.grid c.args.self.now.started in
    let numbers : AreFirstOfStep grid k (sample_count grid) l.items = subst (λ (x : SampleGrid). AreFirstOfStep x k (sample_count x) l.items) c.requires.grid c.args.self.now.numbered in
    let e : c.index-at-end.result.now ≡ count_in grid k (c.args.to * (grid.xs * grid.ys)) = c.index-at-end.ensures ∙ starts.each c.args.to c.index-at-end.result.now (omega (arith, c.requires.inside)) in
    let t = c.loop-at-test.true in
    let s = (of_step grid k c.loop-at.at c.index-n.result.now l.items numbers c.index-n.ensures (row_holds grid k c.args.to c.loop-at.at l.items numbers c.requires.inside (omega (arith, e, t)))).inside in
    omega (arith, s, c.requires.enough, c.loop-at.auto.lists)

pub offset_bounds-lists-n : goal.offset_bounds-lists-n
offset_bounds-lists-n g c =
    let grid = c.args.places.now.grid in
    let k = c.args.self.now.step in
    let l = c.args.self.now.numbers in
    let starts : AreStarts grid k (pixel_count (rect_of grid) + 1) c.args.self.now.starts.items =
    subst (λ (x : SampleGrid). AreStarts x k (pixel_count (rect_of x) + 1) c.args.self.now.starts.items) c.requires.grid c.args.self.now.started in
    let numbers : AreFirstOfStep grid k (sample_count grid) l.items = subst (λ (x : SampleGrid). AreFirstOfStep x k (sample_count x) l.items) c.requires.grid c.args.self.now.numbered in
    let e : c.index-at-end.result.now ≡ count_in grid k (c.args.to * (grid.xs * grid.ys)) = c.index-at-end.ensures ∙ starts.each c.args.to c.index-at-end.result.now (omega (arith, c.requires.inside)) in
    let t = c.loop-at-test.true in
    let s = (of_step grid k c.loop-at.at c.index-n.result.now l.items numbers c.index-n.ensures (row_holds grid k c.args.to c.loop-at.at l.items numbers c.requires.inside (omega (arith, e, t)))).inside in
    let b : c.index-n.result.now < length c.loop-at.lists = omega (arith, s, c.requires.enough, c.loop-at.auto.lists) in
    search rules

pub returns-in_err-put_at-clause-others : goal.returns-in_err-put_at-clause-others
returns-in_err-put_at-clause-others g c = λ n d h.
    let grid = c.args.places.now.grid in
    let k = c.args.self.now.step in
    let l = c.args.self.now.numbers in
    let starts : AreStarts grid k (pixel_count (rect_of grid) + 1) c.args.self.now.starts.items =
    subst (λ (x : SampleGrid). AreStarts x k (pixel_count (rect_of x) + 1) c.args.self.now.starts.items) c.requires.grid c.args.self.now.started in
    let numbers : AreFirstOfStep grid k (sample_count grid) l.items = subst (λ (x : SampleGrid). AreFirstOfStep x k (sample_count x) l.items) c.requires.grid c.args.self.now.numbered in
    let e : c.index-at-end.result.now ≡ count_in grid k (c.args.to * (grid.xs * grid.ys)) = c.index-at-end.ensures ∙ starts.each c.args.to c.index-at-end.result.now (omega (arith, c.requires.inside)) in
    let t = c.loop-at-test.true in
    let b : c.loop-at.at < count_in grid k (c.args.to * (grid.xs * grid.ys)) = omega (arith, e, t) in
    let s = of_step grid k c.loop-at.at c.index-n.result.now l.items numbers c.index-n.ensures (row_holds grid k c.args.to c.loop-at.at l.items numbers c.requires.inside b) in
    get_or-set_other c.loop-at.lists c.index-n.result.now n c.put_at.new.list d
    (apart_from grid k (c.args.from * (grid.xs * grid.ys)) (c.args.to * (grid.xs * grid.ys)) c.loop-at.at c.index-n.result.now n s c.loop-at.invariant.low b h)
    ∙ c.loop-at.invariant.others n d h

pub loop-at-preserved : goal.loop-at-preserved
loop-at-preserved g c =
    let grid = c.args.places.now.grid in
    let k = c.args.self.now.step in
    let l = c.args.self.now.numbers in
    let starts : AreStarts grid k (pixel_count (rect_of grid) + 1) c.args.self.now.starts.items =
    subst (λ (x : SampleGrid). AreStarts x k (pixel_count (rect_of x) + 1) c.args.self.now.starts.items) c.requires.grid c.args.self.now.started in
    let numbers : AreFirstOfStep grid k (sample_count grid) l.items = subst (λ (x : SampleGrid). AreFirstOfStep x k (sample_count x) l.items) c.requires.grid c.args.self.now.numbered in
    let e : c.index-at-end.result.now ≡ count_in grid k (c.args.to * (grid.xs * grid.ys)) = c.index-at-end.ensures ∙ starts.each c.args.to c.index-at-end.result.now (omega (arith, c.requires.inside)) in
    let t = c.loop-at-test.true in
    let b : c.loop-at.at < count_in grid k (c.args.to * (grid.xs * grid.ys)) = omega (arith, e, t) in
    let s = of_step grid k c.loop-at.at c.index-n.result.now l.items numbers c.index-n.ensures (row_holds grid k c.args.to c.loop-at.at l.items numbers c.requires.inside b) in
    let i = c.loop-at.invariant in
    let low = i.low in
    let inside = s.inside in
    record {
      low = omega (arith, low);
      others = λ n d h. get_or-set_other c.loop-at.lists c.index-n.result.now n c.put_at.new.list d
          (apart_from grid k (c.args.from * (grid.xs * grid.ys)) (c.args.to * (grid.xs * grid.ys)) c.loop-at.at c.index-n.result.now n s i.low b h)
          ∙ i.others n d h;
      done = one_done grid k (c.args.from * (grid.xs * grid.ys)) c.loop-at.at c.index-n.result.now (g.S.Showing.shown c.args.shown.now) c.args.lists.now c.loop-at.lists c.index-lists-n.result c.put_at.new.list
          (omega (arith, inside, c.requires.enough, c.loop-at.auto.lists)) s c.in_ok-put_at.ensures i.done;
    }

pub returns-clause-ok : goal.returns-clause-ok
returns-clause-ok g c =
    let grid = c.args.places.now.grid in
    let k = c.args.self.now.step in
    let starts : AreStarts grid k (pixel_count (rect_of grid) + 1) c.args.self.now.starts.items =
    subst (λ (x : SampleGrid). AreStarts x k (pixel_count (rect_of x) + 1) c.args.self.now.starts.items) c.requires.grid c.args.self.now.started in
    let e : c.index-at-end.result.now ≡ count_in grid k (c.args.to * (grid.xs * grid.ys)) = c.index-at-end.ensures ∙ starts.each c.args.to c.index-at-end.result.now (omega (arith, c.requires.inside)) in
    let t = c.loop-at-test.false in
    run_done grid k (c.args.from * (grid.xs * grid.ys)) (c.args.to * (grid.xs * grid.ys)) c.loop-at.at (g.S.Showing.shown c.args.shown.now) c.args.lists.now c.loop-at.lists c.loop-at.invariant.done (omega (arith, e, t))
